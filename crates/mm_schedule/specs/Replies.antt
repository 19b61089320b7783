-- The lines that answer events. With it: the machine that a protected module stands for; what
-- replies tell of the requests of a run, each by the requests before it; what each module promises
-- of a whole run, and of the replies to it.
use Rattle.std.specs.Fmt.{decimal}
use Rattle.std.specs.List.{AllByRecursion}
use Rattle.std.specs.Prelude.{ℕ, ◌+◌, Bool, List, [], ◌∷◌, ◌++◌, ◌≤◌, All, length, if◌then◌else◌, codes, ◌≡◌, true, false}
use Rattle.mm_bytes.specs.Limits.{last_position, longest_request}
use Rattle.mm_module.specs.Batch.{Batch, members_of}
use Rattle.mm_module.specs.Meaning.{Meaning, state_after, outputs_from}
use Rattle.mm_listing.specs.Listing.{Telling, WasSaid}
use Rattle.mm_modules.specs.Modules.{listing_of, meaning_of}
use Rattle.mm_modules.specs.declared.any.AnyModule.{AnyModule}
use Rattle.mm_schedule.specs.declared.reply.Cause.{Cause}
use Rattle.mm_schedule.specs.declared.reply.Cause.TheVariants.{Long, Lost, Form, Kind, State, Tag, Stale, Full, Segment, Snapshot, Blank}
use Rattle.mm_schedule.specs.declared.reply.Cause.TheVariants.{Cell}
use Rattle.mm_schedule.specs.declared.reply.Reply.{Reply}
use Rattle.mm_schedule.specs.declared.reply.Reply.TheVariants.{Told, No, Kept, Nothing, Closed, Checkpointed, Power, Extended}
use Rattle.mm_schedule.specs.declared.reply.Way.{Way}
use Rattle.mm_schedule.specs.declared.reply.Way.TheVariants.{Cut, Drop, Fault}
use Rattle.mm_schedule.specs.Events.{Event}
use Rattle.mm_schedule.specs.Events as events

-- why a call was refused
abbrev pub cause_text : Cause → List ℕ
cause_text Long = codes "long"
cause_text Lost = codes "lost"
cause_text Form = codes "form"
cause_text Kind = codes "kind"
cause_text State = codes "state"
cause_text Tag = codes "tag"
cause_text Stale = codes "stale"
cause_text Full = codes "full"
cause_text Segment = codes "segment"
cause_text Snapshot = codes "snapshot"
cause_text Blank = codes "blank"
cause_text Cell = codes "cell"

-- how a call was disturbed
abbrev pub way_text : Way → List ℕ
way_text Cut = codes "cut"
way_text Drop = codes "drop"
way_text Fault = codes "fault"

-- the lines of a batch, the first with the position after this one: whether it is told again, the
-- position, the output
abbrev pub told_lines : Bool → ℕ → List (List ℕ) → List (List ℕ)
told_lines again before [] = []
told_lines again before (output ∷ outputs) =
    ((if again then codes "again " else codes "ok ") ++ decimal (before + 1)
    ++ 32 ∷ [] ++ output ++ 10 ∷ [])
    ∷ told_lines again (before + 1) outputs

-- the lines of a reply, each with its LF
abbrev pub lines_of_reply : Reply → List (List ℕ)
lines_of_reply (Told again before outputs) = told_lines again before outputs
lines_of_reply (No cause) = (codes "no " ++ cause_text cause ++ 10 ∷ []) ∷ []
lines_of_reply (Kept way position) =
    (way_text way ++ codes " kept " ++ decimal position ++ 10 ∷ []) ∷ []
lines_of_reply (Nothing way) = (way_text way ++ codes " lost" ++ 10 ∷ []) ∷ []
lines_of_reply (Closed way) = (way_text way ++ codes " closed" ++ 10 ∷ []) ∷ []
lines_of_reply Checkpointed = (codes "checkpointed" ++ 10 ∷ []) ∷ []
lines_of_reply Power = (codes "power" ++ 10 ∷ []) ∷ []
lines_of_reply Extended = (codes "extended" ++ 10 ∷ []) ∷ []

-- the line `end N K`: how many requests were committed, and how many snapshots issued
abbrev pub end_line : ℕ → ℕ → List ℕ
end_line committed issued =
    codes "end " ++ decimal committed ++ 32 ∷ [] ++ decimal issued ++ 10 ∷ []

-- what a reply has to meet to be printed: short outputs, and positions of at most 2^48
abbrev pub IsPrintable : Reply → Type 0
IsPrintable (Told again before outputs) =
    (All (λ (output : List ℕ). length output ≤ longest_request) outputs)
    × (before + length outputs ≤ last_position)
IsPrintable (No cause) = Unit {0}
IsPrintable (Kept way position) = Unit {0}
IsPrintable (Nothing way) = Unit {0}
IsPrintable (Closed way) = Unit {0}
IsPrintable Checkpointed = Unit {0}
IsPrintable Power = Unit {0}
IsPrintable Extended = Unit {0}

-- whether a request is told for the first time
abbrev pub told_text : Bool → List ℕ
told_text again = if again then codes "again " else codes "ok "

-- the line of a position and an output
abbrev pub told_line : Bool → ℕ → List ℕ → List ℕ
told_line again position output =
    told_text again ++ decimal position ++ 32 ∷ [] ++ output ++ 10 ∷ []

-- The machine that a protected module stands for. Its state is the list of the requests that it
-- ran.

-- The batch is run behind these requests, and told: with their number, and with what the module
-- says to each of its own.
pub record IsTold (meaning : Meaning) (requests : List (List ℕ)) (batch : Batch) (before : ℕ)
    (outputs after : List (List ℕ)) : Type 0 where
  pub counted : before ≡ length requests
  pub said : outputs ≡ outputs_from meaning (state_after meaning requests) (members_of batch)
  pub grown : after ≡ requests ++ members_of batch

-- One step on a batch that is asked, by its reply. A batch that is told for the first time is run,
-- and so is one that is kept, with the position behind it. A batch that is told again ends the
-- requests, and is told as it was the first time.
abbrev pub IsBatchStep : Meaning → List (List ℕ) → Batch → Reply → List (List ℕ) → Type 0
IsBatchStep meaning requests batch (Told false before outputs) after =
    IsTold meaning requests batch before outputs after
IsBatchStep meaning requests batch (Told true before outputs) after =
    (earlier : List (List ℕ)) × IsTold meaning earlier batch before outputs requests
    × (after ≡ requests)
IsBatchStep meaning requests batch (Kept way position) after =
    (after ≡ requests ++ members_of batch) × (position ≡ length after)
IsBatchStep meaning requests batch (No cause) after = after ≡ requests
IsBatchStep meaning requests batch (Nothing way) after = after ≡ requests
IsBatchStep meaning requests batch (Closed way) after = after ≡ requests
IsBatchStep meaning requests batch Checkpointed after = after ≡ requests
IsBatchStep meaning requests batch Power after = after ≡ requests
IsBatchStep meaning requests batch Extended after = after ≡ requests

-- one step where no batch is asked: none is told or kept, and nothing is run
abbrev pub IsStepWithoutBatch : List (List ℕ) → Reply → List (List ℕ) → Type 0
IsStepWithoutBatch requests (Told again before outputs) after = ⊥
IsStepWithoutBatch requests (Kept way position) after = ⊥
IsStepWithoutBatch requests (No cause) after = after ≡ requests
IsStepWithoutBatch requests (Nothing way) after = after ≡ requests
IsStepWithoutBatch requests (Closed way) after = after ≡ requests
IsStepWithoutBatch requests Checkpointed after = after ≡ requests
IsStepWithoutBatch requests Power after = after ≡ requests
IsStepWithoutBatch requests Extended after = after ≡ requests

-- one step: the requests before, an event, its reply, and the requests after
abbrev pub IsRunStep : Meaning → List (List ℕ) → events.Event → Reply → List (List ℕ) → Type 0
IsRunStep meaning requests (events.Ask meddles stop offer batch) reply after =
    IsBatchStep meaning requests batch reply after
IsRunStep meaning requests (events.Checkpoint meddles stop) reply after =
    IsStepWithoutBatch requests reply after
IsRunStep meaning requests events.Power reply after = IsStepWithoutBatch requests reply after
IsRunStep meaning requests (events.Extend value) reply after =
    IsStepWithoutBatch requests reply after

-- one step after another: a reply for each event, all on one list of requests
abbrev pub IsEventRun : Meaning → List (List ℕ) → List events.Event → List Reply → List (List ℕ)
    → Type 0
IsEventRun meaning requests [] [] after = after ≡ requests
IsEventRun meaning requests [] (reply ∷ replies) after = ⊥
IsEventRun meaning requests (event ∷ events) [] after = ⊥
IsEventRun meaning requests (event ∷ events) (reply ∷ replies) after =
    (between : List (List ℕ)) × IsRunStep meaning requests event reply between
    × IsEventRun meaning between events replies after

-- What replies tell of the requests of a run, each by the requests before it.

-- the lines of a batch that comes behind so many requests
abbrev pub tellings_from : ℕ → List (List ℕ) → List Telling
tellings_from before [] = []
tellings_from before (output ∷ outputs) =
    record { before = before; output = output } ∷ tellings_from (before + 1) outputs

-- the lines of a reply
abbrev pub tellings_of : Reply → List Telling
tellings_of (Told again before outputs) = tellings_from before outputs
tellings_of (No cause) = []
tellings_of (Kept way position) = []
tellings_of (Nothing way) = []
tellings_of (Closed way) = []
tellings_of Checkpointed = []
tellings_of Power = []
tellings_of Extended = []

-- the lines of all replies, in order
abbrev pub tellings_in : List Reply → List Telling
tellings_in [] = []
tellings_in (reply ∷ replies) = tellings_of reply ++ tellings_in replies

-- Each line of a run says what the module said when the request was run, once, on the one list of
-- requests.
abbrev pub TellsWhatWasSaid : Type 0
TellsWhatWasSaid =
    (meaning : Meaning) (events : List Event) (replies : List Reply) (requests : List (List ℕ))
    → IsEventRun meaning [] events replies requests
    → AllByRecursion (WasSaid (outputs_from meaning meaning.first requests)) (tellings_in replies)

-- What each module promises of a whole run, and of the replies to it.

-- what a module promises of the requests that were run and of the replies, by the lines of these
abbrev pub ModulePromises : AnyModule → List (List ℕ) → List Reply → Type 0
ModulePromises it requests replies = (listing_of it).promise requests (tellings_in replies)

-- every run of a module keeps its promise
abbrev pub RunsKeepPromises : Type 0
RunsKeepPromises =
    («module» : AnyModule) (events : List Event) (replies : List Reply) (requests : List (List ℕ))
    → IsEventRun (meaning_of «module») [] events replies requests
    → ModulePromises «module» requests replies
