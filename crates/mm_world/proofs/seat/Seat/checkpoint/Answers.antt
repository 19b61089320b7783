use Rattle.mm_world.proofs.Below.{refl}
use Rattle.mm_world.proofs.Seating.{checks}
use Rattle.mm_world.proofs.seat.Seat.checkpoint.Goals as goal

pub returns : goal.returns
returns c = checks c.args.course.now.meddles.now c.args.course.now.stop c.args.self.now _ c.planned_checkpoint.result
    (record { header = refl; platform = refl; issued = refl; kept = refl; committed = refl })
    (c.planned_checkpoint.ensures c.args.self.now.issued.items)
