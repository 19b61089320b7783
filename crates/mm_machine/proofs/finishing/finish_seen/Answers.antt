use Rattle.std.specs.Prelude.{refl, Ok, Err}
use Rattle.mm_machine.proofs.finishing.finish_seen.Goals as goal

pub returns-in-Err : goal.returns-in-Err
returns-in-Err g c = record {
  middle = g.P.Device.standing c.weigh.new.platform;
  found = Err c.in-Err.halt;
  finds = record {
    middle = g.P.Device.standing c.weigh.new.platform;
    found = Err c.in-Err.halt;
    finds = c.in-Err.ensures;
    rooms = (refl, refl);
  };
  ends = (refl, c.by.ensures);
}

pub returns-in-Ok : goal.returns-in-Ok
returns-in-Ok g c =
    let f = c.finish_found.ensures in
    record {
      middle = f.middle;
      found = f.found;
      finds = record {
        middle = g.P.Device.standing c.weigh.new.platform;
        found = Ok c.in-Ok.found;
        finds = c.in-Ok.ensures;
        rooms = f.finds;
      };
      ends = f.ends;
    }
