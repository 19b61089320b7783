use Rattle.mm_recovery.proofs.Above.{is_checkpoint}
use Rattle.mm_at_work.proofs.calls.close_segment.Goals as goal

pub returns : goal.returns
returns c = is_checkpoint _ _ _ c.checkpoint.ensures.closes c.checkpoint.ensures.goes
