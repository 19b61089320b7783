use Rattle.mm_expect.proofs.Below.{◌∙◌, closed_marks, instance_with}
use Rattle.mm_expect.proofs.Settling.{kept_then, settled_shut, ways_shut}
use Rattle.mm_expect.proofs.chronicle.Chronicle.close.Goals as goal

pub invariant_of-self-2 : goal.invariant_of-self-2
invariant_of-self-2 c = kept_then (settled_shut c.self.invariant.settled c.in_ok-close.ensures.ok (c.closed-self-inside.ensures
    ∙ (λ j. closed_marks c.self.inside.variant c.self.inside.marks (c.has_value-has_value.ensures j) (c.is_bare-is_bare.ensures j))))
    (ways_shut c.self.invariant.ways_are c.in_ok-close.ensures.ok)
    (c.keep_stage.ensures (instance_with c.self.inside.variant c.self.inside.«module»))
