use Rattle.mm_world.proofs.Seating.{over_same}
use Rattle.mm_world.proofs.seat.Seat.first.Goals as goal

pub returns-in-Ok : goal.returns-in-Ok
returns-in-Ok c = over_same _ _ _ _ _ c.over.result c.in-Ok.ensures.cell c.in-Ok.ensures.snapshot c.over.ensures
