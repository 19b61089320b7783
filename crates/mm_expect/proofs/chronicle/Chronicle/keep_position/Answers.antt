use Rattle.mm_expect.proofs.Below.{◌∙◌, refl, instance_with}
use Rattle.mm_expect.proofs.Settling.{kept_more}
use Rattle.mm_expect.proofs.chronicle.Chronicle.keep_position.Goals as goal

pub invariant_of-self : goal.invariant_of-self
invariant_of-self c = kept_more c.self.invariant
    (c.keep.ensures (instance_with c.self.inside.variant c.self.inside.«module») refl c.self.invariant.marks_is
    (c.as_slice.ensures.value ∙ c.self.invariant.state_is))
