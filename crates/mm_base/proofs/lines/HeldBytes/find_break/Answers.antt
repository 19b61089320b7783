use Rattle.mm_base.proofs.ReadingLemmas.{unbroken-joined, unbroken-before, HasBreakAt-range}
use Rattle.mm_base.proofs.lines.HeldBytes.find_break.Goals as goal

pub invariant_of-self-clause-unbroken : goal.invariant_of-self-clause-unbroken
invariant_of-self-clause-unbroken c =
    unbroken-joined _ _ _ _ c.args.self.now.begun c.args.self.now.seen c.args.self.now.unbroken
    (rw c.deref.ensures.value at c.in_default.ensures)

pub invariant_of-self-2-clause-unbroken : goal.invariant_of-self-2-clause-unbroken
invariant_of-self-2-clause-unbroken c =
    unbroken-before _ _ _ _ _ c.args.self.now.begun c.args.self.now.seen c.args.self.now.unbroken
    (rw c.deref.ensures.value at c.in-Some.ensures)

pub returns-clause-found : goal.returns-clause-found
returns-clause-found c =
    HasBreakAt-range c.args.self.now.buffer.items _ _ _ _ c.args.self.now.begun c.args.self.now.seen
    (rw c.args.self.now.room c.args.self.now.within) c.args.self.now.unbroken
    (rw c.deref.ensures.value at c.in-Some.ensures)
