use Rattle.mm_schedule.proofs.Below.{sym}
use Rattle.mm_schedule.proofs.MeddleLaws.{not_missing}
use Rattle.mm_schedule.proofs.print.output_at.Goals as goal

pub unreachable-requires : goal.unreachable-requires
unreachable-requires c = not_missing c.args.outputs.now c.args.index c.requires (sym c.in-None.ensures)
