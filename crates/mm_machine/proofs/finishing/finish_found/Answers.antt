use Rattle.std.specs.Prelude.{refl, Ok, Err}
use Rattle.mm_machine.proofs.finishing.finish_found.Goals as goal

pub returns-in-Err : goal.returns-in-Err
returns-in-Err g c = record {
  middle = g.P.Device.standing c.make_room.new.platform;
  found = Err c.in-Err.halt;
  finds = c.in-Err.ensures.rooms;
  ends = (refl, c.by.ensures);
}

pub returns-in-Repeat : goal.returns-in-Repeat
returns-in-Repeat g c = record {
  middle = g.P.Device.standing c.make_room.new.platform;
  found = Ok c.args.found;
  finds = c.in-Ok.ensures.rooms;
  ends = rw c.in-Repeat.is (refl, refl);
}

pub returns-in-Change : goal.returns-in-Change
returns-in-Change g c = record {
  middle = g.P.Device.standing c.make_room.new.platform;
  found = Ok c.args.found;
  finds = c.in-Ok.ensures.rooms;
  ends = rw c.in-Change.is (rw c.position.ensures at c.finish_change.ensures);
}
