-- A call over a platform in either variant. With it: what a call over a platform is; how a call
-- ended over a platform, with the position that the step that failed would commit; what the
-- machine's reading steps and ends are to a call.
use Rattle.std.specs.Option.{option_map}
use Rattle.std.specs.Prelude.{◌≡◌, ℕ, List, Result, Bool, true, false, Option, None, Some, Ok, Err, IsSome, [], ◌∷◌}
pub use Rattle.mm_machine.specs.OpSteps.{acts_for, answer_in}
use Rattle.mm_machine.specs.OpSteps.{OpMeaning, OpReads}
use Rattle.mm_machine.specs.OpSteps as machine
use Rattle.mm_machine.specs.declared.call.OpResult as machine_end
use Rattle.mm_machine.specs.declared.call.OpResult.TheVariants as end
use Rattle.mm_machine.specs.declared.call.OpStage.{OpStage}
use Rattle.mm_machine.specs.declared.operation.OpFinding.{OpFinding}
use Rattle.mm_machine.specs.declared.reading.Halt.{Halt}
use Rattle.mm_machine.specs.declared.reading.Halt.TheVariants as halt
use Rattle.mm_call.specs.Below.{Variant, Standing, Batch, normal_batch, Meaning, History, Instance, Digests, digests_of, StandsFor}
use Rattle.mm_call.specs.Below.{BatchAnswer, Refusal, Plan, StepFault, Stop, Cut, Device, Act, StepGoes, is_long, Long, Memory}
use Rattle.mm_call.specs.CallFinding.{list_level, digest_level, fault_of, result_with_fault}
use Rattle.mm_call.specs.CallOutcome.{Course, AreTold, CallOutcome, call_outcome, result_of_ending, End, Fails, StepFate, Breaks}
use Rattle.mm_call.specs.CallPremises.{IsWithin, IsAsked}
use Rattle.mm_call.specs.declared.ended.AskResult.{AskResult}
use Rattle.mm_call.specs.declared.ended.AskResult.TheVariants.{Answered, Refused, Broken}
use Rattle.mm_call.specs.Standing.{instance_by, StandsAt, items_after_moves, count_after_more}

-- What a call over a platform is: the walk of its steps on some course, by digests and by lists.

-- The call over a platform that stood at these digests was this one: its result; the cell and the
-- register; what the register shows of its moves; and its steps, and those of them that write the
-- cell.
pub record CallGoesBy (i : Instance) (d : Digests) (o : CallOutcome Digests) (old new : Standing)
    (result : Result BatchAnswer Refusal) : Type 0 where
  pub gives : result ≡ result_of_ending o.ending
  pub stands : StandsAt i new o.state
  pub items : new.items ≡ option_map (items_after_moves i d o.moves) old.items
  pub steps : new.steps ≡ count_after_more o.steps old.steps
  pub writes : new.writes ≡ count_after_more o.writes old.writes

-- The call over a platform that stood for a history was this one, and what was asked of the history
-- holds after it.
pub record CallContinues (all others : List (List ℕ)) (asked : List Batch) (i : Instance)
    (o : CallOutcome History) (new : Standing)
    (result : Result BatchAnswer Refusal) : Type 0 where
  pub gives : result ≡ result_of_ending o.ending
  pub stands : StandsFor i new o.state
  pub within : IsWithin all others asked i o.state

-- A call over a platform, that isn't too long: there is a course, which is that of the plan where
-- one is told, on which the call goes from any digests that the platform stands at, and from any
-- history that it stands for. What is asked of the moves is asked of what the register shows of
-- them, by the field `items`.
pub record IsCallOnCourse (variant : Variant) (meaning : Meaning)
    (old new : Standing) (offer : List ℕ)
    (b : Batch)
    (result : Result BatchAnswer Refusal) : Type 0 where
  pub course : Course
  pub tells : AreTold old course.fates
  pub goes : (key barrier : List ℕ) (d : Digests) →
      StandsAt (instance_by variant meaning key barrier) old d →
      CallGoesBy (instance_by variant meaning key barrier) d
      (call_outcome (instance_by variant meaning key barrier)
      (digest_level (instance_by variant meaning key barrier)) d course offer (normal_batch b))
      old new result
  pub continues : (key barrier : List ℕ) (y : History) (all others : List (List ℕ))
      (asked : List Batch) →
      StandsFor (instance_by variant meaning key barrier) old y →
      IsAsked all others asked (instance_by variant meaning key barrier) y
      (call_outcome (instance_by variant meaning key barrier)
      (digest_level (instance_by variant meaning key barrier))
      (digests_of (instance_by variant meaning key barrier) y) course offer (normal_batch b)).moves
      offer
      (normal_batch b) →
      CallContinues all others asked (instance_by variant meaning key barrier)
      (call_outcome (instance_by variant meaning key barrier)
      (list_level (instance_by variant meaning key barrier)) y course offer (normal_batch b))
      new result

-- How a call ended over a platform, with the position that the step that failed would commit.

-- what a call gives that ended so
abbrev pub result_of : AskResult → Result BatchAnswer Refusal
result_of (Answered answer) = Ok answer
result_of (Refused why) = Err why
result_of (Broken fault commits) = Err (Device fault)

-- how a call ended that was refused, or broken off by this fault where nothing could be committed
abbrev pub end_by_fault : Option StepFault → Refusal → AskResult
end_by_fault None why = Refused why
end_by_fault (Some fault) why = Broken fault None

abbrev pub end_of_refusal : Refusal → AskResult
end_of_refusal why = end_by_fault (fault_of why) why

-- The position that a step which ends so has committed: the one that it would, where its effect was
-- made.
abbrev pub kept_position : End → Option ℕ → Option ℕ
kept_position (Fails fault true) commits = commits
kept_position _ commits = None

-- A refusal hands no fault on. A call that was broken off ended with the position that its last
-- step would commit, where that was made on these fates.
abbrev pub KeepsPosition : (ℕ → StepFate) → CallOutcome Digests → AskResult → Type 0
KeepsPosition fates o (Answered answer) = Unit {0}
KeepsPosition fates o (Refused why) = fault_of why ≡ None
KeepsPosition fates o (Broken fault commits) =
    o.ending ≡ Breaks fault (kept_position (fates o.steps).ends commits)

-- a device's fault broke it off
abbrev pub is_broken : AskResult → Bool
is_broken (Broken fault commits) = true
is_broken _ = false

-- The platform is on after a call under a plan, unless the call was cut.
abbrev pub PlatformStaysOn : Stop → Bool → Standing → Type 0
PlatformStaysOn (Cut step) true new = Unit {0}
PlatformStaysOn _ _ new = new.is_on ≡ true

-- Where the platform is on and tells a plan of which no step is over, it stays on so, and goes on
-- to tell one.
abbrev pub PlatformStaysPlanned : Standing → Standing → Bool → Type 0
PlatformStaysPlanned old new broken =
    (plan : Plan) → old.is_on ≡ true → old.plan ≡ Some plan → plan.at ≡ 0
    → PlatformStaysOn plan.stop broken new × IsSome new.plan

-- The call went on a course, and ended so.
pub record EndsAsCall (variant : Variant) (meaning : Meaning) (old new : Standing) (offer : List ℕ)
    (b : Batch) (ended : AskResult) : Type 0 where
  pub calls : IsCallOnCourse variant meaning old new offer b (result_of ended)
  pub keeps : (key barrier : List ℕ) (d : Digests)
      → StandsAt (instance_by variant meaning key barrier) old d →
      KeepsPosition calls.course.fates
      (call_outcome (instance_by variant meaning key barrier)
      (digest_level (instance_by variant meaning key barrier)) d calls.course offer
      (normal_batch b)) ended
  pub plans : PlatformStaysPlanned old new (is_broken ended)

-- A call over a platform in either variant: its reading steps, by what they find; and the steps
-- that commit what was found, by how the call ended.

-- What a variant gives of its calls: the reading steps, by what they find; the device steps that
-- commit what was found, none for a repeat; and the answer to it.
pub record CallKind (F : Type 0) : Type 1 where
  pub variant : Variant
  pub reads : Meaning → Standing → Standing → List ℕ → Batch → Result F Refusal → Type 0
  pub acts : F → List Act
  pub answer : F → BatchAnswer

-- the position up to which a step commits the batch that has this answer, before these others: only
-- the last step commits it
abbrev pub committed_position : List Act → BatchAnswer → Option ℕ
committed_position [] answer = Some answer.position
committed_position (act ∷ acts) answer = None

-- A device step, and what comes after it: the step is done, and the rest follows; or it fails, and
-- so the call ends.
pub data IsStepToEnd (act : Act) (commits : Option ℕ) (rest : Standing → Type 0)
    (old new : Standing)
    (ended : AskResult) : Type 0 where
  goes_on : (middle : Standing) → StepGoes act old middle None → rest middle
      → IsStepToEnd act commits rest old new ended
  breaks_off : (fault : StepFault) → StepGoes act old new (Some fault)
      → ended ≡ Broken fault commits
      → IsStepToEnd act commits rest old new ended

-- The device steps that commit the batch that has this answer, one after another, and how the call
-- ended by them.
abbrev pub AreStepsToEnd : List Act → BatchAnswer → Standing → Standing → AskResult → Type 0
AreStepsToEnd [] answer old new ended = (new ≡ old) × (ended ≡ Answered answer)
AreStepsToEnd (act ∷ acts) answer old new ended =
    IsStepToEnd act (committed_position acts answer)
    (λ middle. AreStepsToEnd acts answer middle new ended) old new
    ended

-- How a call ended that found this: a refusal of the reading steps ends it, and touches nothing.
abbrev pub EndsByFinding : {F : Type 0} → CallKind F → Result F Refusal → Standing → Standing
    → AskResult
    → Type 0
EndsByFinding c (Err why) old new ended = (new ≡ old) × (ended ≡ end_of_refusal why)
EndsByFinding c (Ok found) old new ended =
    AreStepsToEnd (c.acts found) (c.answer found) old new ended

-- A call from its first step to its end.
pub record IsCallToEnd {F : Type 0} (c : CallKind F) (meaning : Meaning) (old new : Standing)
    (offer : List ℕ) (b : Batch) (ended : AskResult) : Type 0 where
  pub middle : Standing
  pub found : Result F Refusal
  pub reads : c.reads meaning old middle offer b found
  pub ends : EndsByFinding c found middle new ended

-- A call that isn't refused as Long, by what it gives.
pub record IsAskedCall {F : Type 0} (c : CallKind F) (meaning : Meaning) (old new : Standing)
    (offer : List ℕ) (b : Batch) (result : Result BatchAnswer Refusal) : Type 0 where
  pub ended : AskResult
  pub asks : IsCallToEnd c meaning old new offer b ended
  pub gives : result ≡ result_of ended

-- A call, by what it gives: one that is too long is refused before its first step.
pub record IsWholeCall {F : Type 0} (c : CallKind F) (meaning : Meaning) (old new : Standing)
    (offer : List ℕ) (b : Batch) (result : Result BatchAnswer Refusal) : Type 0 where
  pub long : is_long b ≡ true → (new ≡ old) × (result ≡ Err Long)
  pub asks : is_long b ≡ false → IsAskedCall c meaning old new offer b result

-- The steps that commit what was found, of which this is the answer, by what they give.
pub record CommitsFinding (acts : List Act) (answer : BatchAnswer) (old new : Standing)
    (written : Result BatchAnswer StepFault) : Type 0 where
  pub ended : AskResult
  pub ends : AreStepsToEnd acts answer old new ended
  pub gives : result_of ended ≡ result_with_fault written

-- A call that is made in two parts. Where its reading steps refuse, that was the whole call, by
-- digests and by lists. Where they don't, the steps that commit what was found make it one,
-- whatever they give.
abbrev pub IsCallSoFar : {F : Type 0} → CallKind F → Meaning → Standing → Standing → List ℕ → Batch
    → Result F Refusal → Type 0
IsCallSoFar c meaning old new offer b (Err why) =
    IsCallOnCourse c.variant meaning old new offer b (Err why)
IsCallSoFar c meaning old new offer b (Ok found) =
    (after : Standing) (written : Result BatchAnswer StepFault)
    → CommitsFinding (c.acts found) (c.answer found) new after written
    → IsCallOnCourse c.variant meaning old after offer b (result_with_fault written)

-- What the machine's reading steps and ends are to a call: its refusals, and how it ended.

-- why reading came to nothing: a device's fault is handed on, and memory may be wanting
abbrev pub refusal_of_halt : Halt Refusal → Refusal
refusal_of_halt (halt.Fault fault) = Device fault
refusal_of_halt (halt.Refused why) = why
refusal_of_halt halt.Lacks = Memory

-- what was found, or why nothing was
abbrev pub finding_of_machine : {F : Type 0} → Result F (Halt Refusal) → Result F Refusal
finding_of_machine (Ok found) = Ok found
finding_of_machine (Err why) = Err (refusal_of_halt why)

-- how the call ended
abbrev pub end_of_machine : machine_end.OpResult BatchAnswer Refusal → AskResult
end_of_machine (end.Answered answer) = Answered answer
end_of_machine (end.Refused why) = end_of_refusal why
end_of_machine end.Lacks = Refused Memory
end_of_machine (end.Broken fault commits) = Broken fault commits

-- what the changing steps gave, which refuse nothing
abbrev pub IsMade : machine_end.OpResult BatchAnswer Refusal → Type 0
IsMade (end.Refused why) = ⊥
IsMade end.Lacks = ⊥
IsMade _ = Unit {0}

-- The reading steps of what was asked, and what they found.
pub record CallReads (o : OpMeaning BatchAnswer Refusal) (old new : Standing)
    (found : Result (OpFinding BatchAnswer) Refusal) : Type 0 where
  pub given : Result (OpFinding BatchAnswer) (Halt Refusal)
  pub reads : OpReads o old new given
  pub gives : found ≡ finding_of_machine given

-- What is left of a call of what was asked that stands here, and how it ended.
pub record CallFinishes (o : OpMeaning BatchAnswer Refusal) (stage : OpStage BatchAnswer)
    (old new : Standing) (ended : AskResult) : Type 0 where
  pub end : machine_end.OpResult BatchAnswer Refusal
  pub finishes : machine.OpEnds o stage old new end
  pub gives : ended ≡ end_of_machine end

-- what a variant gives of its calls: what each asks of the machine
abbrev pub call_kind : Variant → (Meaning → List ℕ → Batch → OpMeaning BatchAnswer Refusal)
    → CallKind (OpFinding BatchAnswer)
call_kind variant asked = record {
  variant = variant;
  reads = λ meaning old new offer b found. CallReads (asked meaning offer b) old new found;
  acts = acts_for;
  answer = answer_in;
}
