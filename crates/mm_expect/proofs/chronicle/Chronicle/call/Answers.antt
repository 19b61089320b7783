use Rattle.mm_expect.proofs.Below.{sym, ap, ◌∙◌, Bool, Ok, batch_of}
use Rattle.mm_expect.proofs.Asking.{ask_again, ask_broken, ask_new, ask_refused, told_there, unbroken}
use Rattle.std.proofs.lemmas.Result.{IfOk-weaker}
use Rattle.mm_expect.proofs.chronicle.Chronicle.call.Goals as goal

pub returns-in-Some-clause-calls : goal.returns-in-Some-clause-calls
returns-in-Some-clause-calls c = λ bytes told. ask_broken _ c.args.course.now.stop c.args.course.now.meddles.now bytes
    (batch_of c.args.batch) _ _
    (rw c.in-Some.is at c.in_ok-fault.ensures)

pub returns-in-Ok-true-clause-calls : goal.returns-in-Ok-true-clause-calls
returns-in-Ok-true-clause-calls c = λ bytes told.
    let walked = rw (unbroken c.in_ok-fault.field-0 c.in_default.not-Some) at c.in_ok-fault.ensures in
    IfOk-weaker c.answer.result _ _
    (ask_again _ c.args.course.now.stop c.args.course.now.meddles.now bytes (batch_of c.args.batch) _ walked
    (ap (λ (b : Bool). Ok b) (sym c.in-Ok-true.field-0-test) ∙ sym c.in-Ok-true.is ∙ c.find.ensures.found bytes
    (told_there _ c.args.course.now.stop c.args.course.now.meddles.now bytes (batch_of c.args.batch) _ _ walked told)))
    c.answer.ensures.answer

pub returns-in-Ok-false-clause-calls : goal.returns-in-Ok-false-clause-calls
returns-in-Ok-false-clause-calls c = λ bytes told.
    let walked = rw (unbroken c.in_ok-fault.field-0 c.in_default.not-Some) at c.in_ok-fault.ensures in
    IfOk-weaker c.call_new.result _ _
    (ask_new _ c.args.course.now.stop c.args.course.now.meddles.now bytes (batch_of c.args.batch) _ _ walked
    (ap (λ (b : Bool). Ok b) (sym c.in-Ok-false.field-0-test) ∙ sym c.in-Ok-false.is ∙ c.find.ensures.found bytes
    (told_there _ c.args.course.now.stop c.args.course.now.meddles.now bytes (batch_of c.args.batch) _ _ walked told)))
    c.call_new.ensures.goes

pub returns-in-Err-clause-calls : goal.returns-in-Err-clause-calls
returns-in-Err-clause-calls c = λ bytes told.
    let walked = rw (unbroken c.in_ok-fault.field-0 c.in_default.not-Some) at c.in_ok-fault.ensures in
    ask_refused _ c.args.course.now.stop c.args.course.now.meddles.now bytes (batch_of c.args.batch) _ _ walked
    (sym c.in-Err.is ∙ c.find.ensures.found bytes
    (told_there _ c.args.course.now.stop c.args.course.now.meddles.now bytes (batch_of c.args.batch) _ _ walked told))
