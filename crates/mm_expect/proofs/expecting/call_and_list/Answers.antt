use Rattle.mm_expect.proofs.Below.{sym, ap, ◌∙◌, ◌++◌, batch_of, reply_of, ending_of, chronicle_instance}
use Rattle.mm_call.specs.CallPremises.{right_messages}
use Rattle.mm_expect.proofs.CallLaws.{went_by_call}
use Rattle.mm_expect.proofs.EventLaws.{right_is}
use Rattle.mm_expect.proofs.expecting.call_and_list.Goals as goal

pub returns-clause-went : goal.returns-clause-went
returns-clause-went c = λ bytes told.
    let i = chronicle_instance c.args.chronicle.now in
    let forgot = rw c.in_ok-list_asked.ensures.same at c.forget_messages.ensures in
    let calls = rw forgot at c.in_ok-ended.ensures.calls in
    let handed = c.in_ok-hand_messages.ensures in
    went_by_call {meddles = c.args.course.now.meddles.now} {bytes = bytes} {b = batch_of c.args.batch}
    (c.in_ok-list_asked.ensures.messages
    ∙ ap (λ said. c.args.messages.now.items ++ right_messages i (batch_of c.args.batch) said) (sym (right_is i bytes _ told)))
    (calls bytes told) handed.history handed.variant handed.«module» handed.messages
    (rw c.is_broken-is_broken.ensures at c.restore.ensures)
    (c.said_of.ensures.reply ∙ ap (λ w. reply_of w (ending_of c.in_ok-ended.ended)) c.way.ensures) c.said_of.ensures.snapshot
