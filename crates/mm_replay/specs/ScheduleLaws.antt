-- The heading of a schedule is one line; and each event that is played is one more.
use Rattle.std.specs.Prelude.{◌≡◌, ℕ, ◌+◌, ◌<◌, ◌^◌, List, Option, None, Some}
use Rattle.std.specs.Option.{option_map}
use Rattle.std.proofs.Common.{sym, ap, arith}
use Rattle.mm_schedule.specs.declared.header.Header.{Header}
use Rattle.mm_schedule.specs.Events.{Event, event_at}
use Rattle.mm_schedule.specs.Headers.{header_at}
use Rattle.mm_play.specs.Headline.{HeadingStep, More, Begins}
use Rattle.mm_play.specs.Stage.{answer_by}
use Rattle.mm_play.specs.StageLaws.{same_stage}
use Rattle.mm_replay.specs.Schedule.{ReplayState, replay_state_after, first_replay_state, replay_heads, replay_stage, replay_steps}
use Rattle.mm_replay.specs.declared.heading.HeaderLine.{HeaderLine}

-- no line of it leads to more lines of it
never_more : (found : Option Header) (next : HeaderLine)
    → (let x : Option (HeadingStep HeaderLine ReplayState) =
    option_map (λ header. Begins (first_replay_state header)) found in x ≡ Some (More next)) → ⊥
never_more None next h = cc
never_more (Some header) next h = cc

pub leads_nowhere : (it next : HeaderLine) (line : List ℕ)
    → replay_heads.behind it line ≡ Some (More next)
    → replay_heads.left next < replay_heads.left it
leads_nowhere it next line h = absurd (never_more (header_at line) next h)

pub leaves_none : (it : HeaderLine) → replay_heads.left it < 2 ^ 30
leaves_none it = omega arith

pub counts_by : (it next : ReplayState) (found : Option Event) (reply : List ℕ)
    → answer_by replay_steps it found ≡ Some (reply, next) → next.events ≡ it.events + 1
counts_by it next None reply h = cc
counts_by it next (Some event) reply h =
    ap (λ (r : ReplayState). r.events)
    (sym (same_stage (replay_steps.reply it event) reply (replay_state_after it event) next h))

pub counts_on : (it next : ReplayState) (line reply : List ℕ)
    → replay_stage.answer it line ≡ Some (reply, next)
    → replay_stage.events next ≡ replay_stage.events it + 1
counts_on it next line reply h = counts_by it next (event_at line) reply h
