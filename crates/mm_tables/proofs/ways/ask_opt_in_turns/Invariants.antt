use Rattle.mm_opt.specs.AskPromise.{MayGoOn}
use Rattle.mm_tables.proofs.ways.ask_opt_in_turns.Given as goal

-- the next step may be made
abbrev pub invariant-loop : goal.invariant-loop
invariant-loop l = MayGoOn l.call l.platform
