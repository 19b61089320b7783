use Rattle.mm_platform.proofs.Below.{Some, sym, ◌∙◌, ReadCell, goes}
use Rattle.mm_platform.proofs.memory.MemPlatformNv.nv_read.Goals as goal

pub returns-in-Some-clause-goes : goal.returns-in-Some-clause-goes
returns-in-Some-clause-goes c =
    goes ReadCell c.args.self.now c.begin_step-fate.new.self (Some c.in-Some.fault)
    c.begin_step-fate.ensures.after (sym c.in-Some.is ∙ c.begin_step-fate.ensures.fault)
