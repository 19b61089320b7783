use Rattle.mm_twocell.proofs.Below.{rules, ◌≡◌, sym, subst, Option, Some, StepFault, WritesOtherCell}
use Rattle.std.specs.Result.{result_err}
use Rattle.mm_twocell.proofs.Writing.{IsRead, write_torn, write_ends}
use Rattle.mm_twocell.proofs.pair.write_other.Goals as goal

pub returns-in_err-raw_write : goal.returns-in_err-raw_write
returns-in_err-raw_write g c =
    let read : IsRead (g.R.Device.standing c.args.raw.now).cell c.in_ok-selector.selector c.from.result = record {
      size = g.met.R.RawNv.is_whole c.args.raw.now;
      read = c.in_ok-selector.ensures.read;
      other_is = c.from.ensures;
    } in
    let failed : result_err c.from_residual-in_err-raw_write.result ≡ Some c.in_err-raw_write.field-0.0 = search rules in
    subst (λ (fault : Option StepFault). WritesOtherCell c.args.bytes.now (g.R.Device.standing c.args.raw.now)
    (g.R.Device.standing c.raw_write.new.self) fault) (sym failed)
    (write_torn read c.in_ok-selector.ensures.goes c.in_err-raw_write.ensures (search rules))

pub returns : goal.returns
returns g c =
    let read : IsRead (g.R.Device.standing c.args.raw.now).cell c.in_ok-selector.selector c.from.result = record {
      size = g.met.R.RawNv.is_whole c.args.raw.now;
      read = c.in_ok-selector.ensures.read;
      other_is = c.from.ensures;
    } in
    write_ends read c.in_ok-selector.ensures.goes c.in_ok-raw_write.ensures c.raw_write-2.ensures (sym c.from.ensures) (search rules)
