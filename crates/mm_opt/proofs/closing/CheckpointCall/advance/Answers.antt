use Rattle.mm_opt.proofs.ClosingByMachine.{turn_acts}
use Rattle.mm_opt.proofs.closing.CheckpointCall.advance.Goals as goal

pub returns-clause-turns : goal.returns-clause-turns
returns-clause-turns g c =
    rw (← c.self.view_is) (record { step = c.advance.result; steps = c.advance.ensures.steps; gives = c.turn_of.ensures })

pub returns-clause-acts : goal.returns-clause-acts
returns-clause-acts g c =
    rw (← c.self.view_is)
    (turn_acts c.self.inside.call (g.P.Device.standing c.args.platform.now) (g.P.Device.standing c.advance.new.platform) c.advance.result
    c.turn_of.result c.self.invariant c.advance.ensures.steps c.turn_of.ensures)
