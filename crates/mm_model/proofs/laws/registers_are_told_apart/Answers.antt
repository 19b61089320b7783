use Rattle.mm_model.specs.ListLaws.{same_registers}
use Rattle.mm_model.proofs.laws.registers_are_told_apart.Goals as goal

pub returns : goal.returns
returns c = same_registers
