use Rattle.mm_expect.proofs.Below.{sym, ap, ◌∙◌, ◌≡◌, refl, barrier_of, instance_with}
use Rattle.mm_expect.proofs.Settling.{first_ends, kept_by, settled_first}
use Rattle.mm_expect.proofs.chronicle.Chronicle.new.Goals as goal
use Rattle.mm_expect.proofs.chronicle.Chronicle.new.Goals.{in-Basic, in-Opt}

pub invariant_of-result : goal.invariant_of-result
invariant_of-result c =
    let barrier_is : c.match-variant.barrier ≡ barrier_of c.args.variant = elim c.match-variant.branch [
      | in-Basic w ↦ w.barrier-is ∙ w.zero.ensures ∙ ap barrier_of (sym w.in-Basic.is)
      | in-Opt w ↦ w.barrier-is ∙ w.world_barrier-barrier.ensures ∙ ap barrier_of (sym w.in-Opt.is)
    ] in
    let settled = settled_first barrier_is c.new-lists.ensures c.id.ensures c.first-marks.ensures c.in_ok-state.ensures in
    kept_by settled (c.in_ok-waymarks.ensures (instance_with c.args.variant c.args.«module») refl settled.marks_is
    (c.as_slice.ensures.value ∙ settled.state_is) (first_ends c.new-lists.ensures))
