use Rattle.mm_check.proofs.FewLaws.{lines_short}
use Rattle.mm_check.proofs.reading.verdicts_on.Goals as goal

pub difference-requires : goal.difference-requires
difference-requires c =
    lines_short c.args.header.now c.args.events.now c.requires c.in_ok-decided.ensures.lines
