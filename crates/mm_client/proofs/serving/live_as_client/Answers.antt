use Rattle.mm_client.specs.ClientLife.{memory_at}
use Rattle.mm_client.proofs.LocalLives.{lives_then}
use Rattle.mm_client.proofs.serving.live_as_client.Goals as goal

pub loop-round-preserved : goal.loop-round-preserved
loop-round-preserved g c =
    lives_then g.S.Service.holds c.args.base c.args.wanted.now c.args.service.now c.loop-round.service c.hold.new.self
    (memory_at c.args.base) c.loop-round.client c.in_ok-client.client c.loop-round.round c.lines_to_give-lines.result.now
    c.in_ok-heard.heard c.loop-round.invariant c.lines_to_give-lines.ensures c.in_ok-heard.ensures c.in_ok-client.ensures
