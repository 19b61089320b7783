-- The moments of a program: where its devices stand, and which call of a device it makes next. With
-- it: the moments of a call are all of its steps, one behind another, from where it began to where
-- it ended.
use Rattle.std.specs.Option.{option_map}
use Rattle.std.specs.Prelude.{◌≡◌, ◌+◌, ◌%◌, ℕ, List, [], ◌∷◌, ◌++◌, map, Option, None, Some, Result, Ok, Err, length}
use Rattle.std.proofs.Common.{inl, inr}
use Rattle.mm_base.specs.declared.replay_fault.ReplayFault.TheVariants.{WriteFault}
use Rattle.mm_platform.specs.declared.fault.StepFault.{StepFault}
use Rattle.mm_machine.specs.declared.operation.Sight.TheVariants as sight
use Rattle.mm_killed.specs.DeviceCalls.{DeviceCall, Cycles, Reads, Sends, Steps, Writes}
use Rattle.mm_host.specs.declared.fault.SessionFault.TheVariants.{Host, Lines}
use Rattle.mm_moments.specs.Below.{Variant, Meaning, Standing, Act, ReadCell, ReadRegister, StepGoes, PowerCycles, Off, OpMeaning, OpReads}
use Rattle.mm_moments.specs.Below.{Sight, Halt, OpFinding, acts_for, answer_in, Answer, BatchAnswer, Refusal, Device, AskResult}
use Rattle.mm_moments.specs.Below.{AreStepsToEnd, EndsByFinding, goes_on, breaks_off, ask_call, StoreStanding, StoreFault, Failed}
use Rattle.mm_moments.specs.Below.{WritesSlot, PendingRecord, pending_spelling, HostStanding, host_standing, IsCall, AsksAndKeepsAnswer}
use Rattle.mm_moments.specs.Below.{AsksNextRequest, HostGoesAfterFinding, HostGoesAfterOffer, HostGoesAfterRecord, HostResumes, offer_slot}
use Rattle.mm_moments.specs.Below.{position_at, record_for, HostFault, Resumed, Answered, IsFrontOf, IsSession, ServedCall, ServesAllLines}
use Rattle.mm_moments.specs.Below.{ServesCalls, SessionFault, SessionGoesAfterResume, SessionPlace, SessionStanding, first_served_call}
use Rattle.mm_moments.specs.Below.{replies_to, reply_text, LifeCall, call_of, first_calls, found_host, found_record, line_calls}
use Rattle.mm_moments.specs.Below.{count_after_more}

-- A call for a request, step by step.

-- where the platform stands, and the step that comes next
pub record StepMoment : Type 0 where
  pub at : Standing
  pub act : Act

abbrev pub step_moment : Standing → Act → StepMoment
step_moment at act = record { at = at; act = act }

-- the register is read, where a cell was seen that needs it
abbrev pub register_moments : {A R : Type 0} → Result (Sight A) (Halt R) → Standing
    → List StepMoment
register_moments (Ok (sight.Cell cell)) at = step_moment at ReadRegister ∷ []
register_moments _ at = []

abbrev pub reading_moments : {A R : Type 0} {o : OpMeaning A R} {old new : Standing}
    {given : Result (OpFinding A) (Halt R)} → OpReads o old new given → List StepMoment
reading_moments {old = old} r = step_moment old ReadCell ∷ register_moments r.seen r.middle

-- the changing steps that were made
abbrev pub act_moments : (acts : List Act) (answer : BatchAnswer) (old new : Standing)
    (ended : AskResult) → AreStepsToEnd acts answer old new ended → List StepMoment
act_moments [] answer old new ended ends = []
act_moments (act ∷ acts) answer old new ended (goes_on middle goes rest) =
    step_moment old act ∷ act_moments acts answer middle new ended rest
act_moments (act ∷ acts) answer old new ended (breaks_off fault goes is) = step_moment old act ∷ []

abbrev pub changing_moments : (variant : Variant) (found : Result (OpFinding BatchAnswer) Refusal)
    (old new : Standing) (ended : AskResult)
    → EndsByFinding (ask_call variant) found old new ended → List StepMoment
changing_moments variant (Ok found) old new ended ends =
    act_moments (acts_for found) (answer_in found) old new ended ends
changing_moments variant (Err why) old new ended ends = []

abbrev pub call_moments : {variant : Variant} {meaning : Meaning} {old new : Standing}
    {offer request : List ℕ} {result : Result Answer Refusal}
    → IsCall variant meaning old new offer request result → List StepMoment
call_moments {variant} {new = new} c =
    reading_moments c.steps.asks.reads.reads
    ++ changing_moments variant c.steps.asks.found c.steps.asks.middle new c.steps.ended
    c.steps.asks.ends

-- A host, call by call.

-- where its devices stand, the call of one that comes next, and the call for a request that was
-- made by then and isn't told, if one was: as a kill leaves it
pub record HostMoment : Type 0 where
  pub host : HostStanding
  pub next : DeviceCall
  pub untold : List LifeCall

abbrev pub host_moment : HostStanding → DeviceCall → List LifeCall → HostMoment
host_moment host next untold = record { host = host; next = next; untold = untold }

-- a step of the call for a request; killed there, it is one that its device broke off
abbrev pub in_host : StoreStanding → List ℕ → List ℕ → StepMoment → HostMoment
in_host kept offer request m =
    host_moment (host_standing m.at kept) (Steps m.act)
    (call_of offer request (Err (Device Off)) ∷ [])

-- an answer's snapshot is written
abbrev pub keeping_moments : Result Answer Refusal → HostStanding → List ℕ → List ℕ
    → List HostMoment
keeping_moments (Ok answer) at offer request =
    host_moment at (Writes (answer.position % 2) answer.snapshot)
    (call_of offer request (Ok answer) ∷ [])
    ∷ []
keeping_moments (Err why) at offer request = []

abbrev pub asking_moments : {variant : Variant} {meaning : Meaning} {old new : HostStanding}
    {offer request : List ℕ} {result : Result Resumed HostFault}
    → AsksAndKeepsAnswer variant meaning old new offer request result → List HostMoment
asking_moments {old = old} {new = new} {offer = offer} {request = request} a =
    map (in_host old.kept offer request) (call_moments a.asks)
    ++ keeping_moments a.asked (host_standing new.standing old.kept) offer request

-- the record of a request is written, and it is asked
abbrev pub recorded_moments : (variant : Variant) (meaning : Meaning)
    (recorded : Result Unit StoreFault) (middle new : HostStanding) (last : Resumed)
    (line : List ℕ) (result : Result Resumed HostFault)
    → HostGoesAfterRecord variant meaning recorded middle new last line result → List HostMoment
recorded_moments variant meaning (Ok it) middle new last line result a = asking_moments a
recorded_moments variant meaning (Err why) middle new last line result a = []

abbrev pub line_moments : {variant : Variant} {meaning : Meaning} {old new : HostStanding}
    {last : Resumed} {line : List ℕ} {result : Result Resumed HostFault}
    → AsksNextRequest variant meaning old new last line result → List HostMoment
line_moments {variant} {meaning} {old} {new} {last} {line} {result} a =
    host_moment old
    (Writes (2 + (position_at last + 1) % 2) (pending_spelling (record_for last line))) []
    ∷ recorded_moments variant meaning a.recorded (record old { kept = a.middle }) new last line
    result a.goes

-- slots 2 and 3 are read; then slot 0, or what is offered for the request that waits
abbrev pub third_slot_moments : Result (List ℕ) StoreFault → HostStanding → List HostMoment
third_slot_moments (Ok two) at = host_moment at (Reads 3) [] ∷ []
third_slot_moments (Err why) at = []

abbrev pub offered_moments : (variant : Variant) (meaning : Meaning)
    (offer : Result (List ℕ) StoreFault) (middle new : HostStanding) (p : PendingRecord)
    (result : Result Resumed HostFault)
    → HostGoesAfterOffer variant meaning offer middle new p result → List HostMoment
offered_moments variant meaning (Ok offer) middle new p result a = asking_moments a
offered_moments variant meaning (Err why) middle new p result a = []

abbrev pub found_moments : (variant : Variant) (meaning : Meaning)
    (waiting : Result (Option PendingRecord) StoreFault) (middle new : HostStanding)
    (result : Result Resumed HostFault)
    → HostGoesAfterFinding variant meaning waiting middle new result → List HostMoment
found_moments variant meaning (Ok (Some p)) middle new result a =
    host_moment middle (Reads (offer_slot p)) []
    ∷ offered_moments variant meaning a.offer (record middle { kept = a.middle }) new p result
    a.goes
found_moments variant meaning (Ok None) middle new result a = host_moment middle (Reads 0) [] ∷ []
found_moments variant meaning (Err why) middle new result a = []

abbrev pub first_moments : {variant : Variant} {meaning : Meaning} {old new : HostStanding}
    {result : Result Resumed HostFault}
    → HostResumes variant meaning old new result → List HostMoment
first_moments {variant} {meaning} {old} {new} {result} r =
    host_moment old (Reads 2) []
    ∷ third_slot_moments r.finds.two (record old { kept = r.finds.middle })
    ++ found_moments variant meaning r.waiting (record old { kept = r.middle }) new result r.goes

-- A session, call by call.

-- where its host stands, what was sent by then, and the call that comes next, or none, where it
-- awaits a line; the requests that were told by then, each with its answer; the one in hand; and
-- the call that was made for it, if one was
pub record Moment : Type 0 where
  pub host : HostStanding
  pub sent : List ℕ
  pub next : Option DeviceCall
  pub told : List ServedCall
  pub hand : Option (List ℕ)
  pub untold : List LifeCall

-- nothing is told before it
abbrev pub in_hand : Option (List ℕ) → HostMoment → Moment
in_hand hand m = record {
  host = m.host;
  sent = [];
  next = Some m.next;
  told = [];
  hand = hand;
  untold = m.untold;
}

-- this was told and sent before it
abbrev pub behind : List ServedCall → List ℕ → Moment → Moment
behind told sent m = record m { told = told ++ m.told; sent = sent ++ m.sent }

-- the next line is awaited
abbrev pub awaiting_moment : HostStanding → Moment
awaiting_moment host = record {
  host = host;
  sent = [];
  next = None;
  told = [];
  hand = None;
  untold = [];
}

-- a text is sent, if there is one
abbrev pub telling_moments : List ℕ → HostStanding → Option (List ℕ) → List LifeCall
    → List Moment
telling_moments [] host hand untold = []
telling_moments (byte ∷ bytes) host hand untold = record {
  host = host;
  sent = [];
  next = Some (Sends (byte ∷ bytes));
  told = [];
  hand = hand;
  untold = untold;
} ∷ []

-- a line is awaited and asked, and what came is told
abbrev pub turn_moments : {variant : Variant} {meaning : Meaning} {old new : HostStanding}
    {last : Resumed} {line : List ℕ} {came : Result Resumed HostFault}
    → AsksNextRequest variant meaning old new last line came → List Moment
turn_moments {old = old} {new = new} {line = line} {came = came} a =
    awaiting_moment old ∷ map (in_hand (Some line)) (line_moments a)
    ++ telling_moments (reply_text came) new (Some line) (line_calls a)

abbrev pub calls_moments : (variant : Variant) (meaning : Meaning) (from : SessionPlace)
    (calls : List ServedCall) (to : SessionPlace) → ServesCalls variant meaning from calls to
    → List Moment
calls_moments variant meaning from [] to s = []
calls_moments variant meaning from (c ∷ calls) to s =
    turn_moments s.asks
    ++ map (behind (c ∷ []) (reply_text (Ok (Answered c.answer))))
    (calls_moments variant meaning (record { host = s.host; last = Answered c.answer }) calls to
    s.rest)

-- the line in hand where it stops; or none comes
abbrev pub last_moments : {variant : Variant} {meaning : Meaning} {number : ℕ}
    {from : SessionPlace} {new : HostStanding} {left : Option (List ℕ)} {bytes sent : List ℕ}
    (result : Result Unit SessionFault)
    → ServesAllLines variant meaning number from new left bytes sent result → List Moment
last_moments (Err (Host fault)) lines = turn_moments lines.ends.asks
last_moments (Err (Lines WriteFault)) lines = turn_moments lines.ends.asks
last_moments _ lines = awaiting_moment lines.at.host ∷ []

abbrev pub lines_moments : {variant : Variant} {meaning : Meaning} {number : ℕ}
    {from : SessionPlace} {new : HostStanding} {left : Option (List ℕ)} {bytes sent : List ℕ}
    (result : Result Unit SessionFault)
    → ServesAllLines variant meaning number from new left bytes sent result → List Moment
lines_moments {variant} {meaning} {from = from} result lines =
    calls_moments variant meaning from lines.calls lines.at lines.serves
    ++ map (behind lines.calls (replies_to lines.calls)) (last_moments result lines)

-- what waits is told, and the lines are served
abbrev pub going_moments : {variant : Variant} {meaning : Meaning}
    {begun : Result Resumed HostFault} {middle new : HostStanding} {left : Option (List ℕ)}
    {taken sent : List ℕ} {result : Result Unit SessionFault} (waiting : Option PendingRecord)
    → SessionGoesAfterResume variant meaning begun middle new left taken sent result → List Moment
going_moments waiting (inl stops) = []
going_moments {begun = begun} {result = result} waiting (inr goes) =
    map (behind (first_served_call waiting goes.first) (reply_text begun))
    (lines_moments result goes.lines)

abbrev pub waiting_request : Option PendingRecord → Option (List ℕ)
waiting_request waiting = option_map (λ p. p.request) waiting

-- all moments of a session
abbrev pub moments : {variant : Variant} {meaning : Meaning} {old new : SessionStanding}
    {result : Result Unit SessionFault} → IsSession variant meaning old new result → List Moment
moments {variant} {meaning} s =
    (let waiting = found_record s.resumes.waiting in
    map (in_hand (waiting_request waiting)) (first_moments s.resumes)
    ++ telling_moments (reply_text s.begun) s.middle (waiting_request waiting)
    (first_calls variant meaning s.resumes.waiting (found_host s) s.middle s.begun s.resumes.goes)
    ++ going_moments waiting s.goes)

-- What a program leaves that is killed as it makes this call, of which no answer comes; and what it
-- sent by it. A step's effect is made or isn't; of the slot that is written any bytes are left, and
-- the others stay; a front of the text went out. Killed at any other it leaves all as it is.
abbrev pub MomentLeaves : Option DeviceCall → HostStanding → HostStanding → List ℕ → Type 0
MomentLeaves (Some (Steps act)) at new sent =
    (new.kept ≡ at.kept) × (sent ≡ []) × StepGoes act at.standing new.standing (Some Off)
MomentLeaves (Some Cycles) at new sent =
    (new.kept ≡ at.kept) × (sent ≡ []) × PowerCycles at.standing new.standing (Some Off)
MomentLeaves (Some (Writes slot bytes)) at new sent =
    (new.standing ≡ at.standing) × (sent ≡ [])
    × WritesSlot slot bytes at.kept new.kept (Err Failed)
MomentLeaves (Some (Sends piece)) at new sent = (new ≡ at) × IsFrontOf sent piece
MomentLeaves _ at new sent = (new ≡ at) × (sent ≡ [])

-- The moments of a call are all of its steps, one behind another, from where it began to where it
-- ended.

-- but for room, all is as before
abbrev pub IsSameBesideRoom : Standing → Standing → Type 0
IsSameBesideRoom old new = new ≡ record old { spare = new.spare }

-- A step is made from where it stands, and ends so; and behind it this holds.
pub record StepIsMade (old : Standing) (m : StepMoment) (fault : Option StepFault)
    (rest : Standing → Type 0) : Type 0 where
  pub begins : IsSameBesideRoom old m.at
  pub after : Standing
  pub goes : StepGoes m.act m.at after fault
  pub later : rest after

-- Steps are made one behind another, each without a fault, but for the last.
abbrev pub AreMadeInTurn : Standing → List StepMoment → Standing → Type 0
AreMadeInTurn old [] new = IsSameBesideRoom old new
AreMadeInTurn old (m ∷ []) new =
    (fault : Option StepFault) × StepIsMade old m fault (λ after. IsSameBesideRoom after new)
AreMadeInTurn old (m ∷ next ∷ moments) new =
    StepIsMade old m None (λ after. AreMadeInTurn after (next ∷ moments) new)

-- So are the moments of each call, as many as the platform counted.
pub record MomentsAreSteps {variant : Variant} {meaning : Meaning} {old new : Standing}
    {offer request : List ℕ} {result : Result Answer Refusal}
    (call : IsCall variant meaning old new offer request result) : Type 0 where
  pub made : AreMadeInTurn old (call_moments call) new
  pub counted : new.steps ≡ count_after_more (length (call_moments call)) old.steps

abbrev pub AllMomentsAreCounted : Type 0
AllMomentsAreCounted =
    (variant : Variant) (meaning : Meaning) (old new : Standing) (offer request : List ℕ)
    (result : Result Answer Refusal) (call : IsCall variant meaning old new offer request result)
    → MomentsAreSteps call
