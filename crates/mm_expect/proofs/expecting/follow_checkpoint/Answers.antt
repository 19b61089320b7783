use Rattle.mm_expect.proofs.Below.{ap, ◌∙◌, None, EventReply}
use Rattle.mm_schedule.specs.declared.reply.Reply.{Reply}
use Rattle.mm_outcome.specs.Premises.{closing_reply}
use Rattle.mm_expect.specs.ChronicleView.{ending_of_closing}
use Rattle.mm_expect.proofs.CallLaws.{went_by_checkpoint}
use Rattle.mm_expect.proofs.expecting.follow_checkpoint.Goals as goal

pub returns : goal.returns
returns c =
    let handed = c.in_ok-hand_messages.ensures in
    let quiet_reply : Reply → EventReply = λ r. record { reply = r; snapshot = None } in
    went_by_checkpoint {meddles = c.args.course.now.meddles.now} (rw c.forget_messages.ensures at c.in_ok-closing.ensures)
    handed.history handed.variant handed.«module» handed.messages (rw c.stops-is_broken.ensures at c.restore.ensures)
    (c.quiet.ensures ∙ ap quiet_reply (c.closing_said.ensures
    ∙ ap (λ w. closing_reply w (ending_of_closing c.in_ok-closing.closing)) c.way.ensures))
