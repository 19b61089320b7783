use Rattle.std.proofs.lemmas.Result.{on_ok_weaker}
use Rattle.mm_seal.specs.Snapshot.{snapshot_front}
use Rattle.mm_seal.specs.SnapshotLaws.{put_in_parts}
use Rattle.mm_seal.proofs.snapshot.put_front.Goals as goal

pub returns : goal.returns
unfolding snapshot_front
returns c =
    on_ok_weaker c.append-4.result
    (λ put. put_in_parts _ _ _ _ _ _ _ _ _ _ _ _ _ _ c.in_ok-append.ensures.ok c.in_ok-put_place.ensures
    c.in_ok-append-2.ensures.ok c.in_ok-append-3.ensures.ok put c.head_of.ensures c.bytes_of_u64.ensures c.bytes_of_u32.ensures)
    c.append-4.ensures.ok
