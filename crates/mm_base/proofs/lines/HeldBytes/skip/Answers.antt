use Rattle.std.proofs.lemmas.Grind.{common_steps}
use Rattle.mm_base.proofs.Below.{◌≤◌, ◌+◌, ◌-◌, arith, drop, length-take}
use Rattle.mm_base.proofs.ReadingLemmas.{drop-range}
use Rattle.mm_base.proofs.lines.HeldBytes.skip.Goals as goal

pub returns-clause-rest : goal.returns-clause-rest
returns-clause-rest c =
    let held = c.args.self.now in
    let short : c.args.size + 1 ≤ held.end - held.start =
    omega (arith, c.requires.within, length-take (held.end - held.start) (drop held.start held.buffer.items)) in
    drop-range held.buffer.items held.start held.end (c.args.size + 1) short

pub overflow_add-self : goal.overflow_add-self
overflow_add-self c = grind (arith, common_steps)

pub overflow_add-self-2 : goal.overflow_add-self-2
overflow_add-self-2 c = grind (arith, common_steps)

pub invariant_of-self : goal.invariant_of-self
invariant_of-self c = grind (arith, common_steps)

pub returns-clause-line : goal.returns-clause-line
returns-clause-line c = grind (arith, common_steps)
