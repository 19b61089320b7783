use Rattle.mm_told.specs.CallPath.{bare_standing}
use Rattle.mm_told.proofs.hosting.ask_by_steps.Given as goal

abbrev pub ghost-begin : goal.ghost-begin
ghost-begin g a = bare_standing (g.P.Device.standing a.platform.now)
