use Rattle.mm_expect.proofs.Below.{arith, batch_of}
use Rattle.std.proofs.lemmas.Bool.Decides.{nat_tests}
use Rattle.mm_expect.proofs.Asking.{KeptBy, new_few, new_last, new_broken}
use Rattle.mm_expect.proofs.chronicle.Chronicle.call_new.Goals as goal
use Rattle.mm_expect.proofs.chronicle.Chronicle.call_new.Goals.{then-total-before, else-total-before}

pub answer-requires-clause-few : goal.answer-requires-clause-few
answer-requires-clause-few c = new_few c.args.self.now _ c.args.course.now.stop c.args.course.now.meddles.now (batch_of c.args.batch)
    (rw c.in-None.is at c.in_ok-change.ensures) c.requires.admits

pub answer-requires-clause-last : goal.answer-requires-clause-last
answer-requires-clause-last c = new_last c.args.self.now _ c.args.course.now.stop c.args.course.now.meddles.now (batch_of c.args.batch)
    (rw c.in-None.is at c.in_ok-change.ensures)

pub returns-after-total-before-clause-goes : goal.returns-after-total-before-clause-goes
returns-after-total-before-clause-goes c =
    let stop = c.args.course.now.stop in
    let meddles = c.args.course.now.meddles.now in
    let b = batch_of c.args.batch in
    let kept : KeptBy c.args.self.now c.change.new.self stop meddles b c.if-total-before.commits = elim c.if-total-before.branch [
      | then-total-before w ↦ grind (
        arith,
        nat_tests,
        w.commits-is,
        c.total-total.ensures,
        c.total-before.ensures,
        w.if-total-before.true,
      )
      | else-total-before w ↦ grind (
        arith,
        nat_tests,
        w.commits-is,
        c.total-total.ensures,
        c.total-before.ensures,
        w.if-total-before.false,
      )
    ] in
    new_broken c.args.self.now _ stop meddles b _ _ (rw c.in-Some.is at c.in_ok-change.ensures) kept
