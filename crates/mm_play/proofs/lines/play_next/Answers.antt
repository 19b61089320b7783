use Rattle.std.proofs.Common.{◌∙◌, ap, Ok, Err, arith}
use Rattle.std.proofs.lemmas.Grind.{common_steps}
use Rattle.mm_play.proofs.Turning.{turn_cut, turn_unread, turn_ends}
use Rattle.mm_play.proofs.lines.play_next.Goals as goal

pub returns-in-Err-clause-turns : goal.returns-in-Err-clause-turns
returns-in-Err-clause-turns g c =
    turn_cut g.P.Player.answer g.P.Player.closing c.args.number c.args.player.now _ c.args.reader.now c.send_due.new.reader
    c.send_due.ensures.sent c.in-Err.is

pub returns-in-Ok-false-clause-turns : goal.returns-in-Ok-false-clause-turns
returns-in-Ok-false-clause-turns g c =
    turn_ends c.send_due.ensures.same c.send_due.ensures.sent c.in-Ok.is c.read_and_reply.ensures.advances
    (c.in-Ok-false.is ∙ ap Ok c.in-Ok-false.field-0-test) c.send_then.ensures.sent c.send_then.ensures.none

pub returns-in-ReadFault-clause-turns : goal.returns-in-ReadFault-clause-turns
returns-in-ReadFault-clause-turns g c =
    turn_unread c.send_due.ensures.same c.send_due.ensures.sent c.in-Ok.is c.read_and_reply.ensures.advances c.in-Ok.ensures.none
    (c.in-Err-read_and_reply.is ∙ ap Err c.in-ReadFault.is)

pub returns-in_default-clause-turns : goal.returns-in_default-clause-turns
returns-in_default-clause-turns g c =
    turn_ends c.send_due.ensures.same c.send_due.ensures.sent c.in-Ok.is c.read_and_reply.ensures.advances c.in-Err-read_and_reply.is
    c.send_then-in_default.ensures.sent c.send_then-in_default.ensures.none

pub returns-in-Err-clause-read : goal.returns-in-Err-clause-read
returns-in-Err-clause-read g c = grind (arith, common_steps)

pub returns-in-Err-clause-wrote : goal.returns-in-Err-clause-wrote
returns-in-Err-clause-wrote g c = grind (arith, common_steps)

pub returns-in-Ok-true-clause-read : goal.returns-in-Ok-true-clause-read
returns-in-Ok-true-clause-read g c = grind (arith, common_steps)

pub returns-in-Ok-true-clause-wrote : goal.returns-in-Ok-true-clause-wrote
returns-in-Ok-true-clause-wrote g c = grind (arith, common_steps)

pub returns-in-Ok-false-clause-read : goal.returns-in-Ok-false-clause-read
returns-in-Ok-false-clause-read g c = grind (arith, common_steps)

pub returns-in-Ok-false-clause-wrote : goal.returns-in-Ok-false-clause-wrote
returns-in-Ok-false-clause-wrote g c = grind (arith, common_steps)

pub returns-in-ReadFault-clause-read : goal.returns-in-ReadFault-clause-read
returns-in-ReadFault-clause-read g c = grind (arith, common_steps)

pub returns-in-ReadFault-clause-wrote : goal.returns-in-ReadFault-clause-wrote
returns-in-ReadFault-clause-wrote g c = grind (arith, common_steps)

pub returns-in_default-clause-read : goal.returns-in_default-clause-read
returns-in_default-clause-read g c = grind (arith, common_steps)

pub returns-in_default-clause-wrote : goal.returns-in_default-clause-wrote
returns-in_default-clause-wrote g c = grind (arith, common_steps)

pub returns-in-Ok-true-clause-turns : goal.returns-in-Ok-true-clause-turns
returns-in-Ok-true-clause-turns g c = grind (arith, common_steps)
