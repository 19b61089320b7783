use Rattle.mm_expect.proofs.Below.{map, take, Foreign, due_values, ChronicleGoes}
use Rattle.mm_expect.proofs.chronicle.Chronicle.bring_due.Given as goal

abbrev pub invariant-meddles : goal.invariant-meddles
invariant-meddles l = ChronicleGoes l.initial.self l.self (map Foreign (due_values l.step (take l.meddle-index l.course.meddles.now)))
