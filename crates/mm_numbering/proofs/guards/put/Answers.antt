use Rattle.mm_numbering.proofs.GuardLaws.{put_at}
use Rattle.mm_numbering.proofs.guards.put.Goals as goal

pub returns : goal.returns
returns c = λ d. put_at c.args.digest d _ _ (c.in-Ok.ensures.updates.0 d)
