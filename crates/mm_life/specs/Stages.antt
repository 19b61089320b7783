-- The life of a platform behind its first start: programs, and deeds between them, one after
-- another, whatever the slots hold when a program starts. With it: what a program leaves that is
-- killed at any call of its devices is left by a part of a life; the one list of requests of a
-- life.
use Rattle.std.specs.List.{AllByRecursion}
use Rattle.std.specs.Prelude.{ℕ, List, [], ◌∷◌, ◌++◌, Option, Result, ◌≡◌, ◌⊎◌, None, Ok, Err, ◌-◌, length, IsSome}
use Rattle.mm_base.specs.declared.replay_fault.ReplayFault.TheVariants.{WriteFault}
use Rattle.mm_schedule.specs.declared.reply.Reply.TheVariants.{Told}
use Rattle.mm_killed.specs.DeviceCalls.{CallAnswer, CallGoes, Cycles, DeviceCall, OfPlatform, Place, Code, Ends, IsKilledAt, Makes, RunsTo}
use Rattle.mm_killed.specs.DeviceCalls.{CallLeaves, TellsSame}
use Rattle.mm_recovery.specs.FirstStart.{InitLeaves, InstanceBegins, Devices, devices}
use Rattle.mm_recovery.specs.declared.init_fault.InitFault.{InitFault}
use Rattle.mm_host.specs.declared.fault.SessionFault.TheVariants.{Lines}
use Rattle.mm_life.specs.Below.{Variant, Standing, Meaning, StoreStanding, IsSession, SessionFault, SessionStanding, session_standing}
use Rattle.mm_life.specs.Below.{StepFault, IsCheckpoint, CheckpointRefusal, Checkpointed, Batch, members_of, normal_batch, BatchAnswer}
use Rattle.mm_life.specs.Below.{History, requests_of, Instance, IsGenuine, StandsFor, Refusal, Memory, IsWithin, finding_at, list_level}
use Rattle.mm_life.specs.Below.{fault_of, IsBatchStep, Reply, answer_reply, ServedCall, HasUntoldRequest, IsToldInPart, CallsRunOver}
use Rattle.mm_life.specs.Below.{last_bytes_in}
use Rattle.mm_life.specs.Deeds.{LifeCall, Calls, Deed, DeedLeads, session_calls, Checkpoints, Extends, LosesPower, IsInHandOf}
use Rattle.mm_life.specs.Deeds.{served_calls_of}

-- What the objects of a program tell, besides the platform: what its store keeps, what is left of
-- its input, and what its output received.
pub record ProgramStanding : Type 0 where
  pub kept : StoreStanding
  pub left : Option (List ℕ)
  pub received : Option (List ℕ)

abbrev pub program_standing : StoreStanding → Option (List ℕ) → Option (List ℕ) → ProgramStanding
program_standing kept left received = record { kept = kept; left = left; received = received }

-- with the platform these are the objects of a session
abbrev pub session_on : Standing → ProgramStanding → SessionStanding
session_on standing own = session_standing standing own.kept own.left own.received

-- A program's session: what its objects told, before and after; and how it ended. Nothing ties the
-- store before it to what another program left.
pub record Program : Type 0 where
  pub old : ProgramStanding
  pub new : ProgramStanding
  pub result : Result Unit SessionFault

-- a program holds a session, or a deed is done
pub data LifePart : Type 0 where
  Holds : Program → LifePart
  Does : Deed → LifePart

-- a part of a life, and what stands behind it
pub record LifeStage : Type 0 where
  pub part : LifePart
  pub after : Standing

-- a session was held, over these objects
abbrev pub session_stage : (old new : ProgramStanding) → Result Unit SessionFault → Standing
    → LifeStage
session_stage old new result after =
    record { part = Holds (record { old = old; new = new; result = result }); after = after }

-- The part leads a platform from one standing to another.
abbrev pub PartLeads : Variant → Meaning → Standing → LifePart → Standing → Type 0
PartLeads variant meaning old (Holds p) new =
    IsSession variant meaning (session_on old p.old) (session_on new p.new) p.result
PartLeads variant meaning old (Does deed) new = DeedLeads variant meaning old deed new

-- Each of these stages begins with what stands behind the one before it, the first one here.
abbrev pub IsLife : Variant → Meaning → Standing → List LifeStage → Type 0
IsLife variant meaning start [] = Unit {0}
IsLife variant meaning start (stage ∷ stages) =
    PartLeads variant meaning start stage.part stage.after
    × IsLife variant meaning stage.after stages

-- the calls that were made in a part of a life, and in all of it
abbrev pub part_calls : (variant : Variant) (meaning : Meaning) (old : Standing) (part : LifePart)
    (new : Standing) → PartLeads variant meaning old part new → List LifeCall
part_calls variant meaning old (Holds p) new s = session_calls s
part_calls variant meaning old (Does (Calls c)) new s = c ∷ []
part_calls variant meaning old (Does _) new s = []

abbrev pub life_calls : (variant : Variant) (meaning : Meaning) (start : Standing)
    (stages : List LifeStage) → IsLife variant meaning start stages → List LifeCall
life_calls variant meaning start [] f = []
life_calls variant meaning start (stage ∷ stages) f =
    part_calls variant meaning start stage.part stage.after f.0
    ++ life_calls variant meaning stage.after stages f.1

-- those of the last part
abbrev pub latest_calls : (variant : Variant) (meaning : Meaning) (start : Standing)
    (stages : List LifeStage) → IsLife variant meaning start stages → List LifeCall
latest_calls variant meaning start [] f = []
latest_calls variant meaning start (stage ∷ []) f =
    part_calls variant meaning start stage.part stage.after f.0
latest_calls variant meaning start (stage ∷ next ∷ stages) f =
    latest_calls variant meaning stage.after (next ∷ stages) f.1

-- what stands at the end
abbrev pub end_of : Standing → List LifeStage → Standing
end_of start [] = start
end_of start (stage ∷ stages) = end_of stage.after stages

-- What a program leaves that is killed at any call of its devices is left by a part of a life.

-- A program whose answer is this, as a tree of calls of its devices.
abbrev pub ProgramCode : Type 0 → Type 0
ProgramCode R = Code DeviceCall CallAnswer R

-- each run of a program to its end, from a place, comes to this
abbrev pub AllRuns : {R : Type 0} → ProgramCode R → Place → (Place → R → Type 0) → Type 0
AllRuns {R} code old Comes = (end : Place) (given : R) → RunsTo CallGoes code old end given
    → Comes end given

-- it is killed at one of its calls, over a platform that doesn't tell its plan
pub record IsKilled {R : Type 0} (code : ProgramCode R) (old left : Place) : Type 0 where
  pub unplanned : old.standing.plan ≡ None
  pub killed : IsKilledAt CallGoes CallLeaves code old left

-- what its objects tell, as a session, a life and a first start have it; of the entropy's faults
-- nothing is asked
abbrev pub session_at : Place → SessionStanding
session_at at = session_standing at.standing at.kept at.left at.received

abbrev pub program_at : Place → ProgramStanding
program_at at = program_standing at.kept at.left at.received

abbrev pub devices_at : Place → Devices
devices_at at = devices at.standing at.kept at.entropy 0

-- nothing is done, but the platform's counts may begin anew
abbrev pub still_stage : Standing → LifeStage
still_stage after = record { part = Does (Extends []); after = after }

-- A session was held that ended so, and left the same; and then nothing is done.
pub record IsSessionOfLife (variant : Variant) (meaning : Meaning) (old left : Place) : Type 0
  where
    pub end : Place
    pub result : Result Unit SessionFault
    pub leaves : TellsSame end left
    pub life : IsLife variant meaning old.standing (session_stage (program_at old) (program_at end)
        result end.standing ∷ still_stage left.standing ∷ [])

-- A program each of whose runs is a session, as the clause `sessions` says of `session`.
abbrev pub KilledSessionsLive : Type 0
KilledSessionsLive =
    (variant : Variant) (meaning : Meaning) (code : ProgramCode (Result Unit SessionFault))
    (old left : Place) →
    AllRuns code old (λ end given. IsSession variant meaning (session_at old) (session_at end)
    given) → IsKilled code old left → IsSessionOfLife variant meaning old left

-- A checkpoint was made that said this, and left the same; and then nothing is done.
pub record IsCheckpointOfLife (variant : Variant) (meaning : Meaning) (old left : Place) : Type 0
  where
    pub end : Place
    pub said : Result Checkpointed CheckpointRefusal
    pub leaves : TellsSame end left
    pub life : IsLife variant meaning old.standing (record {
      part = Does (Checkpoints said);
      after = end.standing;
    } ∷ still_stage left.standing ∷ [])

-- one each of whose runs is a checkpoint
abbrev pub KilledCheckpointsLive : Type 0
KilledCheckpointsLive =
    (variant : Variant) (meaning : Meaning)
    (code : ProgramCode (Result Checkpointed CheckpointRefusal)) (old left : Place) →
    AllRuns code old (λ end said. IsCheckpoint old.standing end.standing said) →
    IsKilled code old left → IsCheckpointOfLife variant meaning old left

-- one each of whose runs is a loss of power, or failed at that: killed it is one, or nothing
abbrev pub KilledLossesLive : Type 0
KilledLossesLive =
    (variant : Variant) (meaning : Meaning) (code : ProgramCode (Result Unit StepFault))
    (old left : Place) →
    AllRuns code old (λ end said. DeedLeads variant meaning old.standing LosesPower end.standing
    ⊎ DeedLeads variant meaning old.standing (Extends []) end.standing) →
    IsKilled code old left →
    DeedLeads variant meaning old.standing LosesPower left.standing
    ⊎ DeedLeads variant meaning old.standing (Extends []) left.standing

-- Such a program is the one that calls for a loss of power, and ends by its answer: killed at that
-- call it is a loss of power, or nothing, and nothing is asked of it.
abbrev pub answer_to_cycle : CallAnswer → Result Unit StepFault
answer_to_cycle (OfPlatform (Err fault)) = Err fault
answer_to_cycle answer = Ok tt

abbrev pub cycling_code : ProgramCode (Result Unit StepFault)
cycling_code = Makes Cycles (λ answer. Ends (answer_to_cycle answer))

abbrev pub CyclingLives : Type 0
CyclingLives =
    (variant : Variant) (meaning : Meaning) (old left : Place) → IsKilled cycling_code old left →
    DeedLeads variant meaning old.standing LosesPower left.standing
    ⊎ DeedLeads variant meaning old.standing (Extends []) left.standing

-- One each of whose runs is a first start: killed it leaves the cell, so that it may be run again;
-- or all is set up.
abbrev pub KilledStartsLeave : Type 0
KilledStartsLeave =
    (variant : Variant) (meaning : Meaning) (code : ProgramCode (Result Unit InitFault))
    (old left : Place) →
    AllRuns code old (λ end said. InitLeaves variant meaning (devices_at old) (devices_at end)
    said) → IsKilled code old left →
    (left.standing.cell ≡ old.standing.cell)
    ⊎ InstanceBegins variant meaning (devices_at old) (devices_at left)

-- The one list of requests of a life: what its programs tell are steps of the machine on it.

-- the reply that the answer to a batch is: with the number of the requests before it
abbrev pub batch_reply : BatchAnswer → Reply
batch_reply answer =
    Told answer.again (answer.position - length answer.outputs) answer.outputs

-- One call on a list of requests: its answer is a step of the machine. Refused it leaves the list;
-- by a device's fault its batch may be run whole, and not told.
abbrev pub CallSteps : Meaning → List (List ℕ) → Batch → Result BatchAnswer Refusal
    → List (List ℕ) → Type 0
CallSteps meaning requests batch (Ok answer) after =
    IsBatchStep meaning requests batch (batch_reply answer) after
CallSteps meaning requests batch (Err why) after =
    (after ≡ requests) ⊎ (IsSome (fault_of why) × (after ≡ requests ++ members_of batch))

-- A session on a list of requests: what it told are steps of the machine, one after another; and
-- where it stopped the request in hand may be run, and not told. Where the output failed, what is
-- out behind that is a front of a line by which the list goes on so.
pub record SessionSteps (meaning : Meaning) (requests : List (List ℕ)) (told : List ServedCall)
    (hand : List ℕ → Type 0) (last : List ℕ) (result : Result Unit SessionFault)
    (after : List (List ℕ)) : Type 0 where
  pub between : List (List ℕ)
  pub run : CallsRunOver meaning requests told between
  pub committed : (after ≡ between) ⊎ HasUntoldRequest hand result between after
  pub in_part : result ≡ Err (Lines WriteFault) → IsToldInPart meaning hand last between after

-- the replies that are told of calls
abbrev pub told_replies : List ServedCall → List Reply
told_replies [] = []
told_replies (c ∷ calls) = answer_reply c.answer ∷ told_replies calls

abbrev pub call_replies : Result BatchAnswer Refusal → List Reply
call_replies (Ok answer) = batch_reply answer ∷ []
call_replies (Err why) = []

-- one part of a life: other deeds leave the list
abbrev pub PartSteps : (variant : Variant) (meaning : Meaning) (old : Standing) (part : LifePart)
    (new : Standing) → PartLeads variant meaning old part new → List (List ℕ) → List (List ℕ)
    → Type 0
PartSteps variant meaning old (Holds p) new s requests after =
    SessionSteps meaning requests (served_calls_of s) (IsInHandOf s) (last_bytes_in s.goes) p.result
    after
PartSteps variant meaning old (Does (Calls c)) new s requests after =
    CallSteps meaning requests c.batch c.gives after
PartSteps variant meaning old (Does _) new s requests after = after ≡ requests

-- The life is steps on one list, from these requests to those.
abbrev pub LifeFollows : (variant : Variant) (meaning : Meaning) (start : Standing)
    (stages : List LifeStage) → IsLife variant meaning start stages → List (List ℕ) → List (List ℕ)
    → Type 0
LifeFollows variant meaning start [] f requests after = after ≡ requests
LifeFollows variant meaning start (stage ∷ stages) f requests after =
    (between : List (List ℕ))
    × PartSteps variant meaning start stage.part stage.after f.0 requests between
    × LifeFollows variant meaning stage.after stages f.1 between after

-- the replies that are told in a part of a life, and in all of it
abbrev pub part_replies : (variant : Variant) (meaning : Meaning) (old : Standing) (part : LifePart)
    (new : Standing) → PartLeads variant meaning old part new → List Reply
part_replies variant meaning old (Holds p) new s = told_replies (served_calls_of s)
part_replies variant meaning old (Does (Calls c)) new s = call_replies c.gives
part_replies variant meaning old (Does _) new s = []

abbrev pub life_replies : (variant : Variant) (meaning : Meaning) (start : Standing)
    (stages : List LifeStage) → IsLife variant meaning start stages → List Reply
life_replies variant meaning start [] f = []
life_replies variant meaning start (stage ∷ stages) f =
    part_replies variant meaning start stage.part stage.after f.0
    ++ life_replies variant meaning stage.after stages f.1

-- The last of these calls, where it was refused and neither for a device's fault nor for want of
-- memory, was refused as its offer is by lists at the history.
abbrev pub IsLastJudged : Instance → History → List LifeCall → Type 0
IsLastJudged i y [] = Unit {0}
IsLastJudged i y (c ∷ []) =
    (why : Refusal) → c.gives ≡ Err why
    → IsSome (fault_of why) ⊎ (why ≡ Memory)
    ⊎ (finding_at i (list_level i) y (normal_batch c.batch) c.offer ≡ Err why)
IsLastJudged i y (c ∷ next ∷ calls) = IsLastJudged i y (next ∷ calls)

-- The life is one whole: there is one list of requests that all of it follows, from none; and what
-- stands at the end stands for a history of this list, for which all that was issued is genuine.
pub record IsOneWhole (all others : List (List ℕ)) (asked : List Batch) (i : Instance)
    (issued : List (List ℕ)) (start : Standing) (stages : List LifeStage)
    (f : IsLife i.variant i.meaning start stages) : Type 0 where
  pub requests : List (List ℕ)
  pub follows : LifeFollows i.variant i.meaning start stages f [] requests
  pub history : History
  pub holds : requests_of history.batches ≡ requests
  pub stands : StandsFor i (end_of start stages) history
  pub within : IsWithin all others asked i history
  pub named : AllByRecursion (IsGenuine i history) issued
  pub judged : IsLastJudged i history (latest_calls i.variant i.meaning start stages f)
