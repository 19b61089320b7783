use Rattle.mm_transfer.proofs.Below.{refl, subst, Event}
use Rattle.mm_world.specs.Seat.{SeatTakesEvent}
use Rattle.mm_transfer.proofs.SideEvents.{side_follows}
use Rattle.mm_transfer.proofs.side.Side.event.Goals as goal

pub returns : goal.returns
returns c =
    side_follows _ c.args.self.now _ c.follow.result c.requires refl
    (subst (λ (e : Event). SeatTakesEvent e c.args.self.now.seat c.follow.new.self c.follow.result) c.owned_view.ensures c.follow.ensures)
