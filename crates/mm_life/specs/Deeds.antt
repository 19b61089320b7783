-- What is done to a platform between its programs, one deed at a time. With it: the calls that a
-- session made, one after another, by its steps; which calls of a device are deeds; which calls for
-- a batch are deeds.
use Rattle.std.specs.Option.{option_map}
use Rattle.std.specs.Prelude.{◌≡◌, ℕ, List, [], Result, IfOk, ◌∷◌, ◌++◌, Option, None, Some, Ok, Err, ◌⊎◌, true, false}
use Rattle.std.proofs.Common.{inl, inr}
use Rattle.mm_base.specs.declared.replay_fault.ReplayFault.TheVariants.{WriteFault}
use Rattle.mm_platform.specs.Standing.{PowerCycles, StepGoes, ReadCell}
use Rattle.mm_model.specs.Moves.{is_long}
use Rattle.mm_call.specs.CallKind.{result_of}
use Rattle.mm_call.specs.Checkpoints.{AskPromise}
use Rattle.mm_call.specs.declared.ended.AskResult.{AskResult}
use Rattle.mm_ask.specs.WholeAsk.{AskFinishes, ask_call}
use Rattle.mm_host.specs.declared.fault.SessionFault.TheVariants.{Host, Lines}
use Rattle.mm_life.specs.Below.{Variant, Standing, items_beside, Batch, One, Meaning, IsFit, Answer, BatchAnswer, Refusal, IsCallOnCourse}
use Rattle.mm_life.specs.Below.{LeavesCell, LivesElsewhere, IsCheckpoint, CheckpointRefusal, Checkpointed, batch_result_of, StoreFault}
use Rattle.mm_life.specs.Below.{PendingRecord, HostStanding, host_standing, HostGoesAfterRecord, AsksNextRequest, HostGoesAfterFinding}
use Rattle.mm_life.specs.Below.{HostGoesAfterOffer, AsksAndKeepsAnswer, HostFault, Resumed, SessionGoesAfterResume, ServesAllLines}
use Rattle.mm_life.specs.Below.{SessionPlace, SessionStanding, ServedCall, IsSession, IsInHand, host_of, served_calls_in, SessionFault}
use Rattle.mm_life.specs.Below.{StepFault, IsLawful}

-- one call for a batch: what was offered with it, and what it gave
pub record LifeCall : Type 0 where
  pub offer : List ℕ
  pub batch : Batch
  pub gives : Result BatchAnswer Refusal

-- one for a request, as sessions make it
abbrev pub call_of : List ℕ → List ℕ → Result Answer Refusal → LifeCall
call_of offer request gives =
    record { offer = offer; batch = One request; gives = batch_result_of gives }

-- A call for a batch that isn't too long, in one go or in parts: it goes as a call of the variant
-- does, from any history; its answer has its sizes; and where the module doesn't live it is
-- refused, and leaves the cell. One that is too long does nothing.
pub record IsBatchCall (variant : Variant) (meaning : Meaning) (old new : Standing)
    (c : LifeCall) : Type 0 where
  pub goes : IsCallOnCourse variant meaning old new c.offer c.batch c.gives
  pub fits : IfOk c.gives (λ answer. IsFit c.batch answer)
  pub elsewhere : LivesElsewhere variant meaning.id old → LeavesCell old new c.gives

-- A deed: anybody calls; others extend the register by these values; power is lost and comes back;
-- a checkpoint is made, and says this.
pub data Deed : Type 0 where
  Calls : LifeCall → Deed
  Extends : List (List ℕ) → Deed
  LosesPower : Deed
  Checkpoints : Result Checkpointed CheckpointRefusal → Deed

-- The deed leads a platform from one standing to another.
abbrev pub DeedLeads : Variant → Meaning → Standing → Deed → Standing → Type 0
DeedLeads variant meaning old (Calls c) new = IsBatchCall variant meaning old new c
DeedLeads variant meaning old (Extends values) new =
    (new.cell ≡ old.cell) × (new.items ≡ items_beside values old.items)
DeedLeads variant meaning old LosesPower new =
    (new.cell ≡ old.cell) × (new.items ≡ option_map (λ _. []) old.items)
DeedLeads variant meaning old (Checkpoints result) new = IsCheckpoint old new result

-- The calls that a session made, one after another, by its steps; and what it told of them.

-- the calls that were answered and told, from what was offered first
abbrev pub told_calls : List ℕ → List ServedCall → List LifeCall
told_calls offer [] = []
told_calls offer (c ∷ calls) =
    call_of offer c.line (Ok c.answer) ∷ told_calls c.answer.snapshot calls

-- a request is asked: one call
abbrev pub one_call : {variant : Variant} {meaning : Meaning} {old new : HostStanding}
    {offer request : List ℕ} {result : Result Resumed HostFault}
    → AsksAndKeepsAnswer variant meaning old new offer request result → List LifeCall
one_call {offer = offer} {request = request} a =
    call_of offer request a.asked ∷ []

-- what waits is asked, unless the store failed before
abbrev pub offered_calls : (variant : Variant) (meaning : Meaning)
    (offer : Result (List ℕ) StoreFault) (middle new : HostStanding) (p : PendingRecord)
    (result : Result Resumed HostFault)
    → HostGoesAfterOffer variant meaning offer middle new p result → List LifeCall
offered_calls variant meaning (Ok offer) middle new p result a = one_call a
offered_calls variant meaning (Err why) middle new p result a = []

abbrev pub first_calls : (variant : Variant) (meaning : Meaning)
    (waiting : Result (Option PendingRecord) StoreFault) (middle new : HostStanding)
    (result : Result Resumed HostFault)
    → HostGoesAfterFinding variant meaning waiting middle new result → List LifeCall
first_calls variant meaning (Ok (Some p)) middle new result a =
    offered_calls variant meaning a.offer (record middle { kept = a.middle }) new p result a.goes
first_calls variant meaning (Ok None) middle new result a = []
first_calls variant meaning (Err why) middle new result a = []

-- what is offered first, and nothing where it wasn't read
abbrev pub bytes_of : Result (List ℕ) StoreFault → List ℕ
bytes_of (Ok bytes) = bytes
bytes_of (Err why) = []

abbrev pub offer_after_finding : (variant : Variant) (meaning : Meaning)
    (waiting : Result (Option PendingRecord) StoreFault) (middle new : HostStanding)
    (result : Result Resumed HostFault)
    → HostGoesAfterFinding variant meaning waiting middle new result → List ℕ
offer_after_finding variant meaning (Ok (Some p)) middle new result a = bytes_of a.offer
offer_after_finding variant meaning (Ok None) middle new result a = bytes_of (a.1).zero
offer_after_finding variant meaning (Err why) middle new result a = []

-- a line is asked, unless its record isn't written
abbrev pub recorded_calls : (variant : Variant) (meaning : Meaning)
    (recorded : Result Unit StoreFault) (middle new : HostStanding) (last : Resumed)
    (line : List ℕ) (result : Result Resumed HostFault)
    → HostGoesAfterRecord variant meaning recorded middle new last line result → List LifeCall
recorded_calls variant meaning (Ok it) middle new last line result a = one_call a
recorded_calls variant meaning (Err why) middle new last line result a = []

abbrev pub line_calls : {variant : Variant} {meaning : Meaning} {old new : HostStanding}
    {last : Resumed} {line : List ℕ} {result : Result Resumed HostFault}
    → AsksNextRequest variant meaning old new last line result → List LifeCall
line_calls {variant} {meaning} {old} {new} {last} {line} {result} a =
    recorded_calls variant meaning a.recorded (record old { kept = a.middle }) new last line result
    a.goes

-- of the lines that are served, the one in hand where the session stops
abbrev pub last_calls : {variant : Variant} {meaning : Meaning} {number : ℕ} {from : SessionPlace}
    {new : HostStanding} {left : Option (List ℕ)} {bytes sent : List ℕ}
    (result : Result Unit SessionFault)
    → ServesAllLines variant meaning number from new left bytes sent result → List LifeCall
last_calls (Err (Host fault)) lines = line_calls lines.ends.asks
last_calls (Err (Lines WriteFault)) lines = line_calls lines.ends.asks
last_calls _ lines = []

-- what waited, where the store told it
abbrev pub found_record : Result (Option PendingRecord) StoreFault → Option PendingRecord
found_record (Ok waiting) = waiting
found_record (Err why) = None

-- the requests that a session told, each with its answer; and whether one was in hand where it
-- stopped
abbrev pub served_calls_of : {variant : Variant} {meaning : Meaning} {old new : SessionStanding}
    {result : Result Unit SessionFault} (s : IsSession variant meaning old new result)
    → List ServedCall
served_calls_of s = served_calls_in (found_record s.resumes.waiting) s.goes

abbrev pub IsInHandOf : {variant : Variant} {meaning : Meaning} {old new : SessionStanding}
    {result : Result Unit SessionFault} (s : IsSession variant meaning old new result)
    → List ℕ → Type 0
IsInHandOf s request = IsInHand (found_record s.resumes.waiting) s.goes request

-- where its host stood when what waits was found
abbrev pub found_host : {variant : Variant} {meaning : Meaning} {old new : SessionStanding}
    {result : Result Unit SessionFault} (s : IsSession variant meaning old new result)
    → HostStanding
found_host {old = old} s = host_standing old.standing s.resumes.middle

-- what it offered first
abbrev pub first_bytes : {variant : Variant} {meaning : Meaning} {old new : SessionStanding}
    {result : Result Unit SessionFault} (s : IsSession variant meaning old new result) → List ℕ
first_bytes {variant} {meaning} s =
    offer_after_finding variant meaning s.resumes.waiting (found_host s) s.middle s.begun
    s.resumes.goes

-- the call that it made and didn't tell: for what waited, or for the line in hand
abbrev pub untold_calls : {variant : Variant} {meaning : Meaning} {old new : SessionStanding}
    {result : Result Unit SessionFault} (s : IsSession variant meaning old new result)
    → SessionGoesAfterResume variant meaning s.begun s.middle (host_of new) new.left s.taken s.sent
    result
    → List LifeCall
untold_calls {variant} {meaning} s (inl stops) =
    first_calls variant meaning s.resumes.waiting (found_host s) s.middle s.begun s.resumes.goes
untold_calls {result = result} s (inr goes) = last_calls result goes.lines

-- all calls that it made
abbrev pub session_calls : {variant : Variant} {meaning : Meaning} {old new : SessionStanding}
    {result : Result Unit SessionFault} (s : IsSession variant meaning old new result)
    → List LifeCall
session_calls s = told_calls (first_bytes s) (served_calls_of s) ++ untold_calls s s.goes

-- the first of these calls, if any was made, offers these bytes
abbrev pub IsFirstOffered : List ℕ → List LifeCall → Type 0
IsFirstOffered bytes [] = Unit {0}
IsFirstOffered bytes (c ∷ calls) = c.offer ≡ bytes

-- Which calls of a device are deeds.

-- A read of the cell, failed or not, is an extension by others, of the values that came before it.
abbrev pub ReadsAreDeeds : Type 0
ReadsAreDeeds =
    (variant : Variant) (meaning : Meaning) (old new : Standing) (fault : Option StepFault)
    (goes : StepGoes ReadCell old new fault)
    → DeedLeads variant meaning old (Extends goes.others) new

-- A loss of power that was called for is one where it didn't fail; and else it is one, or nothing.
pub record CyclesLead (variant : Variant) (meaning : Meaning) (old new : Standing)
    (fault : Option StepFault) : Type 0 where
  pub unfailed : fault ≡ None → DeedLeads variant meaning old LosesPower new
  pub failed : DeedLeads variant meaning old LosesPower new
      ⊎ DeedLeads variant meaning old (Extends []) new

abbrev pub CyclesAreDeeds : Type 0
CyclesAreDeeds =
    (variant : Variant) (meaning : Meaning) (old new : Standing) (fault : Option StepFault) →
    PowerCycles old new fault → CyclesLead variant meaning old new fault

-- Which calls for a batch are deeds: each one, in one go or in parts.

-- a call for a batch, and what it gave
abbrev pub batch_call : List ℕ → Batch → Result BatchAnswer Refusal → LifeCall
batch_call offer batch gives = record { offer = offer; batch = batch; gives = gives }

-- By what a call for a batch promises it is a deed of that name; one that is too long is none.
pub record BatchCallLeads (variant : Variant) (meaning : Meaning) (old new : Standing)
    (offer : List ℕ) (batch : Batch) (gives : Result BatchAnswer Refusal) : Type 0 where
  pub short : is_long batch ≡ false
      → DeedLeads variant meaning old (Calls (batch_call offer batch gives)) new
  pub long : is_long batch ≡ true → DeedLeads variant meaning old (Extends []) new

abbrev pub BatchCallsAreDeeds : Type 0
BatchCallsAreDeeds =
    (variant : Variant) (meaning : Meaning) (old new : Standing) (offer : List ℕ) (batch : Batch)
    (gives : Result BatchAnswer Refusal) →
    AskPromise (ask_call variant) meaning old new offer batch gives →
    BatchCallLeads variant meaning old new offer batch gives

-- And by its steps alone, which may be made one at a time: whole, or broken off at any of them.
abbrev pub CallsInPartsAreDeeds : Type 0
CallsInPartsAreDeeds =
    (variant : Variant) (meaning : Meaning) → IsLawful meaning →
    (old new : Standing) (offer : List ℕ) (batch : Batch) (ended : AskResult) →
    is_long batch ≡ false → AskFinishes variant meaning old new offer batch ended →
    DeedLeads variant meaning old (Calls (batch_call offer batch (result_of ended))) new
