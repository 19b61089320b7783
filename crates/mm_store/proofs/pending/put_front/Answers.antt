use Rattle.mm_store.specs.PendingRecord.{pending_front}
use Rattle.mm_store.proofs.PendingLaws.{put_in_parts}
use Rattle.mm_store.proofs.pending.put_front.Goals as goal

pub returns : goal.returns
unfolding pending_front
returns c =
    put_in_parts _ _ _ _ _ _ _ _ _ _ _ c.in_ok-append.ensures.ok c.in_ok-append-2.ensures.ok c.in_ok-append-3.ensures.ok
    c.in_ok-append-4.ensures.ok c.bytes_of_u64.ensures c.bytes_of_u32.ensures
