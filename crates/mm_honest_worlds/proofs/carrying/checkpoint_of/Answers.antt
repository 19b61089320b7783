use Rattle.mm_recovery.proofs.Above.{is_checkpoint}
use Rattle.mm_honest_worlds.proofs.carrying.checkpoint_of.Goals as goal

pub returns-in-Opt : goal.returns-in-Opt
returns-in-Opt g c = rw c.in-Opt.is (is_checkpoint _ _ _ c.checkpoint.ensures.closes c.checkpoint.ensures.goes)
