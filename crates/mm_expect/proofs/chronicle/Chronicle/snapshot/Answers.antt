use Rattle.mm_expect.proofs.Settling.{fits_limit}
use Rattle.mm_expect.proofs.chronicle.Chronicle.snapshot.Goals as goal

pub seal-requires-clause-state : goal.seal-requires-clause-state
seal-requires-clause-state c =
    fits_limit c.self.inside.«module» c.self.invariant.spelled c.as_slice.ensures.value c.id.ensures
