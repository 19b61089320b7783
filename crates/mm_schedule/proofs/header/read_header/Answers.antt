use Rattle.std.proofs.Common.{◌∙◌}
use Rattle.mm_schedule.proofs.SpelledIsRead.{header-read, if-spelled}
use Rattle.mm_schedule.proofs.header.read_header.Goals as goal

pub returns-clause-spelled : goal.returns-clause-spelled
returns-clause-spelled c = if-spelled c.args.line.now c.read_header_inner.result c.read_header_inner.ensures

pub returns-clause-only : goal.returns-clause-only
returns-clause-only c header is = c.read_header_inner.ensures ∙ header-read c.args.line.now header is
