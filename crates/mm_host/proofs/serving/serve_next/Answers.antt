use Rattle.mm_host.proofs.Turning.{turned_by_line}
use Rattle.mm_host.proofs.serving.serve_next.Goals as goal

pub returns-in-Ok-Line-clause-turns : goal.returns-in-Ok-Line-clause-turns
returns-in-Ok-Line-clause-turns g c =
    turned_by_line c.next.result c.in-Ok-Line.field-0 c.in-Ok-Line.line c.requires.number c.next.follows.holds-at-none c.in-Ok-Line.is
    c.in-Ok-Line.field-0-is c.serve_line.ensures.turns
