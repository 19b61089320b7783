use Rattle.mm_told.specs.CallPath.{bare_standing}
use Rattle.mm_told.proofs.Playing.{host_of}
use Rattle.mm_told.proofs.hosting.begin.Given as goal

abbrev pub ghost-ask : goal.ghost-ask
ghost-ask g a = host_of a.made.now (λ left. g.start)

abbrev pub ghost-go_on : goal.ghost-go_on
ghost-go_on g a = (g.start, bare_standing (g.P.Device.standing a.platform.now))
