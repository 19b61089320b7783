use Rattle.mm_world.proofs.Below.{refl, batch_of}
use Rattle.mm_world.proofs.Seating.{ask_comes, ask_lacks}
use Rattle.mm_world.proofs.seat.Seat.ask.Goals as goal

pub returns-in-Err : goal.returns-in-Err
returns-in-Err c = ask_lacks c.args.course.now.meddles.now c.args.course.now.stop c.args.offer.now (batch_of c.args.batch)
    c.args.self.now c.make_room.new.self _ c.as_slice.result.now c.in-Err.memory c.make_room.ensures.stays
    (record { header = refl; platform = refl; issued = refl; kept = refl; committed = refl }) c.as_slice.ensures.value c.in-Err.ensures

pub returns-in-Ok : goal.returns-in-Ok
returns-in-Ok c = ask_comes c.args.course.now.meddles.now c.args.course.now.stop c.args.offer.now (batch_of c.args.batch)
    c.args.self.now c.make_room.new.self _ c.end.new.self c.as_slice.result.now c.in-Ok.called c.end.result c.make_room.ensures.stays
    (record { header = refl; platform = refl; issued = refl; kept = refl; committed = refl }) c.as_slice.ensures.value c.in-Ok.ensures
    c.end.ensures
