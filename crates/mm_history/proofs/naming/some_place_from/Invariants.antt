use Rattle.mm_history.proofs.Below.{◌++◌, take, drop, kept_batches, kept_segments}
use Rattle.mm_history.proofs.PlaceLaws.{Reached}
use Rattle.mm_history.proofs.naming.some_place_from.Given as goal

abbrev pub invariant-closed : goal.invariant-closed
invariant-closed l = Reached l.id l.barrier l.lists (kept_batches l.sought.named.now) l.sought.anchor.now.bytes l.sought.extension.now.bytes
    (take l.first.count l.lists.closed) (kept_segments l.closed)
    (take l.first.count l.lists.closed ++ kept_segments (take l.segment-index l.closed))
    (kept_segments (drop l.segment-index l.closed)) l.here l.entries l.later
