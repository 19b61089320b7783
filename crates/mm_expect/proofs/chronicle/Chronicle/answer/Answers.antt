use Rattle.mm_expect.proofs.Below.{ap, ◌∙◌, size_of, batch_of, meaning_of, is_last, total_of, last_outputs, HistoryMarks}
use Rattle.mm_expect.proofs.Below.{ChronicleView}
use Rattle.mm_expect.proofs.Settling.{outputs_last, answered_is}
use Rattle.mm_expect.proofs.chronicle.Chronicle.answer.Goals as goal

pub returns-clause-answer : goal.returns-clause-answer
returns-clause-answer c =
    let b = batch_of c.args.batch in
    let last = ap (λ (r : ChronicleView). is_last r.history.batches b) c.self.view_is ∙ c.requires.last in
    answered_is c.args.self.now c.args.again b
    (ap (λ (m : HistoryMarks). m.total) c.self.invariant.marks_is ∙ ap (λ (r : ChronicleView). total_of r.history.batches) c.self.view_is)
    (c.in_ok-outputs.ensures ∙ outputs_last b c.self.invariant.settled last
    ∙ ap (λ (r : ChronicleView). last_outputs (meaning_of r.«module») r.history (size_of b)) c.self.view_is) c.in_ok-snapshot.ensures.bytes
