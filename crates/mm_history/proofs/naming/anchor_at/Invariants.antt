use Rattle.mm_history.proofs.Below.{◌≡◌, take, kept_segments, anchor_at}
use Rattle.mm_history.proofs.naming.anchor_at.Given as goal

abbrev pub invariant-closed : goal.invariant-closed
invariant-closed l = l.anchor.bytes ≡ anchor_at l.id l.barrier (kept_segments (take l.segment-index l.closed))
