use Rattle.std.proofs.Common.{sym, ◌∙◌}
use Rattle.mm_schedule.proofs.MeddleLaws.{length-told_lines}
use Rattle.mm_schedule.proofs.print.reply_lines.Goals as goal

pub returns-in-Told : goal.returns-in-Told
returns-in-Told c = rw c.in-Told.is (c.len.ensures ∙ sym (length-told_lines c.in-Told.again c.in-Told.before c.in-Told.outputs))
