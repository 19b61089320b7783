use Rattle.std.specs.Prelude.{refl, Ok, Err}
use Rattle.mm_machine.specs.declared.operation.Sight.TheVariants as sight
use Rattle.mm_machine.proofs.finishing.run.Goals as goal

pub returns-in-Err : goal.returns-in-Err
returns-in-Err g c = record {
  middle = g.P.Device.standing c.look.new.platform;
  found = Err c.in-Err.halt;
  finds = record {
    middle = g.P.Device.standing c.look.new.platform;
    seen = Err c.in-Err.halt;
    looks = c.in-Err.ensures;
    on = (refl, refl);
  };
  ends = (refl, c.by.ensures);
}

pub returns-in-Ok-Found : goal.returns-in-Ok-Found
returns-in-Ok-Found g c =
    let f = c.finish_found.ensures in
    record {
      middle = f.middle;
      found = f.found;
      finds = record {
        middle = g.P.Device.standing c.look.new.platform;
        seen = Ok (sight.Found c.in-Ok-Found.found);
        looks = rw c.in-Ok-Found.field-0-is at c.in-Ok-Found.ensures;
        on = f.finds;
      };
      ends = f.ends;
    }

pub returns-in-Ok-Cell : goal.returns-in-Ok-Cell
returns-in-Ok-Cell g c =
    let f = c.finish_seen.ensures in
    record {
      middle = f.middle;
      found = f.found;
      finds = record {
        middle = g.P.Device.standing c.look.new.platform;
        seen = Ok (sight.Cell c.in-Ok-Cell.cell);
        looks = rw c.in-Ok-Cell.field-0-is at c.in-Ok-Cell.ensures;
        on = f.finds;
      };
      ends = f.ends;
    }
