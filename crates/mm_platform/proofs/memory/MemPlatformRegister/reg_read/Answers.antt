use Rattle.mm_platform.proofs.Below.{Some, sym, ◌∙◌, ReadRegister, goes}
use Rattle.mm_platform.proofs.memory.MemPlatformRegister.reg_read.Goals as goal

pub returns-in-Some-clause-goes : goal.returns-in-Some-clause-goes
returns-in-Some-clause-goes c =
    goes ReadRegister c.args.self.now c.begin_step-fate.new.self (Some c.in-Some.fault)
    c.begin_step-fate.ensures.after (sym c.in-Some.is ∙ c.begin_step-fate.ensures.fault)
