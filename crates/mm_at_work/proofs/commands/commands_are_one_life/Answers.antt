use Rattle.mm_at_work.proofs.CommandLists.{commands_are_life, commands_from_blank}
use Rattle.mm_at_work.proofs.commands.commands_are_one_life.Goals as goal

pub returns-clause-life : goal.returns-clause-life
returns-clause-life c =
    commands_are_life c.device_calls_are_deeds.ensures.reads c.device_calls_are_deeds.ensures.cycles (record {
      stops = c.session_stops_anywhere.ensures;
      broken = c.call_stops_anywhere.ensures.checkpoints;
      any = c.any_program_stops.ensures;
      starts = c.killed_programs_live.ensures.starts;
    })

pub returns-clause-blank : goal.returns-clause-blank
returns-clause-blank c =
    commands_from_blank c.device_calls_are_deeds.ensures.reads c.device_calls_are_deeds.ensures.cycles (record {
      stops = c.session_stops_anywhere.ensures;
      broken = c.call_stops_anywhere.ensures.checkpoints;
      any = c.any_program_stops.ensures;
      starts = c.killed_programs_live.ensures.starts;
    })
