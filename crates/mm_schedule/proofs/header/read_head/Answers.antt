use Rattle.std.proofs.Common.{◌∙◌}
use Rattle.mm_schedule.proofs.SpelledIsRead.{head-read, if-head-spelled}
use Rattle.mm_schedule.proofs.header.read_head.Goals as goal

pub returns-clause-spelled : goal.returns-clause-spelled
returns-clause-spelled c = if-head-spelled c.args.words.now c.read_head_inner.result c.read_head_inner.ensures

pub returns-clause-only : goal.returns-clause-only
returns-clause-only c head is = c.read_head_inner.ensures ∙ head-read c.args.words.now head is
