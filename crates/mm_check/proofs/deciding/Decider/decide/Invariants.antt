use Rattle.mm_check.proofs.Below.{take, events_of, StandsBehind}
use Rattle.mm_check.proofs.deciding.Decider.decide.Given as goal

abbrev pub invariant-events : goal.invariant-events
invariant-events l = StandsBehind l.header (events_of (take l.index l.events)) l.self
