use Rattle.std.proofs.Common.{rules}
use Rattle.mm_slots.proofs.Growing.{ends_on}
use Rattle.mm_slots.proofs.totals.put_ends.Goals as goal

pub loop-place-preserved : goal.loop-place-preserved
loop-place-preserved c =
    ends_on c.args.slots.now c.loop-place.place c.at.result c.index-slots-place.result c.index-slots-place.result
    c.args.into.now c.loop-place.into
    c.put_end_of.new.into (search rules) c.at.ensures (search rules) c.loop-place.invariant c.in_ok-put_end_of.ensures
