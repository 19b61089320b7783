use Rattle.mm_history.proofs.Below.{kept_batches}
use Rattle.mm_history.proofs.PlaceLaws.{inside_by}
use Rattle.mm_history.proofs.naming.is_inside.Goals as goal

pub returns : goal.returns
returns c = inside_by c.args.barrier.now c.args.last.now.bytes c.args.lists.now (kept_batches c.args.sought.now.named.now)
    c.args.sought.now.anchor.now.bytes c.args.sought.now.extension.now.bytes c.batches.result.now c.current.result.now
    c.batches.ensures c.current.ensures c.saturating_sub-start.ensures c.requires.ends c.is_behind.ensures
