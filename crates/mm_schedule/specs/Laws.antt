-- Laws of the grammar, and of the machine's runs.
use Rattle.std.specs.Prelude.{◌≡◌, ℕ, List, ◌++◌, Some}
use Rattle.mm_module.specs.Meaning.{Meaning}
use Rattle.mm_schedule.specs.declared.reply.Reply.{Reply}
use Rattle.mm_schedule.specs.Events.{Event, event_at, SpellsEvent}
use Rattle.mm_schedule.specs.Replies.{IsEventRun}

-- the events and the replies fix the requests that are run
abbrev pub RunIsFixed : Type 0
RunIsFixed =
    (meaning : Meaning) (requests after other : List (List ℕ)) (events : List Event)
    (replies : List Reply)
    → IsEventRun meaning requests events replies after → IsEventRun meaning requests events replies other
    → after ≡ other

-- a run goes on where another ended
abbrev pub RunsGoOn : Type 0
RunsGoOn =
    (meaning : Meaning) (requests between after : List (List ℕ)) (events more : List Event)
    (replies others : List Reply)
    → IsEventRun meaning requests events replies between → IsEventRun meaning between more others after
    → IsEventRun meaning requests (events ++ more) (replies ++ others) after

-- what is spelled in a line is read of it
abbrev pub SpelledIsRead : Type 0
SpelledIsRead =
    (line : List ℕ) (event : Event) → SpellsEvent event line → event_at line ≡ Some event
