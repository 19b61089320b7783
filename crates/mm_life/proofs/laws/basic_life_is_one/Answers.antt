use Rattle.mm_life.proofs.BasicLife.{basic_is_one}
use Rattle.mm_life.proofs.laws.basic_life_is_one.Goals as goal

pub returns : goal.returns
returns c = basic_is_one
