use Rattle.mm_told.specs.CallPath.{bare_standing}
use Rattle.mm_told.proofs.Playing.{host_of, now_at}
use Rattle.mm_told.proofs.hosting.go_on.Given as goal

abbrev pub ghost-ask : goal.ghost-ask
ghost-ask g a = host_of a.made.now (now_at g.start.1 (λ left. g.start.0))

abbrev pub ghost-end : goal.ghost-end
ghost-end g a = now_at (bare_standing (g.P.Device.standing a._platform.now)) (now_at g.start.1 (λ left. g.start.0))
