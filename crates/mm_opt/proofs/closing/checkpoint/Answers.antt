use Rattle.mm_opt.specs.Checkpoints.{ClosesSegment}
use Rattle.mm_opt.proofs.Checkpointing.{leaves_still, closing_blamed, closing_steps}
use Rattle.mm_opt.proofs.Checking.{checks_on}
use Rattle.mm_opt.proofs.ClosingByMachine.{closes_whole}
use Rattle.mm_opt.proofs.closing.checkpoint.Goals as goal

pub returns : goal.returns
returns g c =
    let old = g.P.Device.standing c.args.platform.now in
    let new = g.P.Device.standing c.run.new.platform in
    let result = c.closing_result.result in
    let closes : ClosesSegment old new result = rw c.closing_result.ensures (closes_whole new c.run.result old c.run.ensures) in
    record {
      closes = closes;
      untouched = leaves_still old new result closes;
      faults = closing_blamed old new result closes;
      steps = closing_steps old new result closes;
      goes = checks_on old new result closes;
    }
