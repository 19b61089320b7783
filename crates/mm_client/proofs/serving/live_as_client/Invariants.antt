use Rattle.mm_client.specs.ClientLife.{memory_at, LivesAsClient}
use Rattle.mm_client.proofs.serving.live_as_client.Given as goal

abbrev pub invariant-loop-round : goal.invariant-loop-round
invariant-loop-round g l =
    LivesAsClient g.S.Service.holds l.base l.wanted l.fn.service l.service (memory_at l.base) l.client l.round
