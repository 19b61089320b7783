-- What one line did to a recorded run that is read.
use Rattle.std.specs.Prelude.{◌≡◌, ℕ, List, [], Option, None, Some, Result, Ok, Err}
use Rattle.mm_check.specs.Below.{Event, event_of, CodeEvent, Header, RunningReplay, LineRefusal, Bad, Much, ReplyFault}
use Rattle.mm_play.specs.declared.player.ReplyFault.TheVariants as fault
use Rattle.mm_check.specs.CheckStage.{RecordedRun, CheckStage, AtHeader, InEvents, InReplies}
use Rattle.mm_numbering.specs.Listing.{events_of}
use Rattle.mm_check.specs.declared.player.Phase.{Phase}
use Rattle.mm_check.specs.declared.player.Phase.TheVariants.{Events, Replies}

abbrev pub phase_of : Phase → CheckStage
phase_of (Events reading) = InEvents reading
phase_of (Replies comparing) = InReplies comparing

-- before the header there is no phase
abbrev pub check_stage : Option Phase → CheckStage
check_stage None = AtHeader
check_stage (Some phase) = phase_of phase

-- what was read of a run, by its parts in code
abbrev pub recorded_run : Header → RunningReplay → List CodeEvent → List (List ℕ) → RecordedRun
recorded_run header running events told =
    record { header = header; running = running; events = events_of events; told = told }

-- What a line came to: what stands behind it, or why it is refused; want of memory says nothing.
-- Nothing is written.
abbrev pub LineComesTo : {A : Type 0} → (A → CheckStage) → Result (List ℕ × CheckStage) LineRefusal
    → Result A ReplyFault → Type 0
LineComesTo stage answer (Ok next) = answer ≡ Ok ([], stage next)
LineComesTo stage answer (Err fault.Memory) = Unit {0}
LineComesTo stage answer (Err (fault.Refused why)) = answer ≡ Err why

-- the event of a line, if it has one
abbrev pub IsEventOf : Option Event → Result CodeEvent ReplyFault → Type 0
IsEventOf found (Ok event) = found ≡ Some (event_of event)
IsEventOf found (Err fault.Memory) = Unit {0}
IsEventOf found (Err (fault.Refused Bad)) = found ≡ None
IsEventOf found (Err (fault.Refused Much)) = ⊥
