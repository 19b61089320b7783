use Rattle.mm_host_commands.specs.Outside.{outside}
use Rattle.mm_at_work.specs.Lives.{HaveRun}
use Rattle.mm_at_work.proofs.hosts.run_rounds.Given as goal

abbrev pub invariant-loop-round : goal.invariant-loop-round
invariant-loop-round g l =
    HaveRun g.H.Host.hands (λ standing objects. outside standing (g.T.Store.kept objects.store) (g.S.Source.left objects.input)
    (g.S.Source.faults objects.input) (g.E.Source.left objects.entropy) (g.E.Source.faults objects.entropy)
    (g.K.Sink.received objects.out) (g.K.Sink.faults objects.out)) (g.P.Device.standing l.fn.platform) (g.P.Device.standing l.platform)
    l.fn.host l.host l.fn.handed l.handed l.round
