use Rattle.std.proofs.Common.{◌∙◌, ◌<◌, ◌≤◌, sym}
use Rattle.mm_slots.proofs.Telling.{few_slots}
use Rattle.mm_slots.proofs.heading.take_first.Goals as goal

pub invariant_of-begun : goal.invariant_of-begun
invariant_of-begun c =
    let few : (0 < c.in-Some.count) × (c.in-Some.count ≤ 16) =
    few_slots c.args.line.now c.in-Some.count (sym c.read_first.ensures ∙ c.in-Some.is) in
    record { fewer = rw c.new.ensures.items few.0; most = few.1 }
