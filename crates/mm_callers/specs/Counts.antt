-- What callers count: their calls' steps, and the faults of devices, told and recovered. With it:
-- what a caller gets that makes calls in parts.
use Rattle.std.specs.Prelude.{◌≡◌, Bool, true, false, None, Result, Ok, Err, ℕ, List}
use Rattle.mm_machine.specs.OpSteps.{OpMeaning}
use Rattle.mm_machine.specs.declared.operation.OpFinding.{OpFinding}
use Rattle.mm_model.specs.declared.refusal.Refusal.TheVariants.{Device}
use Rattle.mm_call.specs.CallKind.{CommitsFinding, CallReads, acts_for, answer_in}
use Rattle.mm_callers.specs.Below.{Variant, Opt, Standing, StepFault, Batch, is_long, Answer, BatchAnswer, Refusal, Long, CountsHandedFault}
use Rattle.mm_callers.specs.Below.{batch_answer_of, fault_in, StepsBy, ClosingStepsBy, closing_fault_in, CheckpointRefusal, Checkpointed}
use Rattle.mm_callers.specs.Below.{One}
use Rattle.mm_callers.specs.declared.closing.RepeatRefusal.{RepeatRefusal}
use Rattle.mm_callers.specs.declared.closing.RepeatRefusal.TheVariants.{Asking, Closing}
use Rattle.mm_callers.specs.declared.closing.Replies.{Replies}

-- the steps of a call, by what it gives; of a batch that is too long, none
abbrev pub StepsFor : Bool → Variant → Result BatchAnswer Refusal → Standing → Standing → Type 0
StepsFor true variant result old new =
    (result ≡ Err Long) × (new.steps ≡ old.steps) × (new.writes ≡ old.writes)
StepsFor false variant result old new = StepsBy variant result old new

-- One call counts its steps, and a fault exactly where it hands one on.
pub record CountsCall (variant : Variant) (b : Batch) (old new : Standing)
    (result : Result BatchAnswer Refusal) : Type 0 where
  pub steps : StepsFor (is_long b) variant result old new
  pub faults : CountsHandedFault (fault_in result) old.faults new.faults

-- One call, which hands on no fault; or, where it handed one on, another. So a fault is told only
-- where two were counted.
pub data CountsAgain (variant : Variant) (b : Batch) (old new : Standing)
    (result : Result BatchAnswer Refusal) : Type 0 where
  at_once : fault_in result ≡ None → CountsCall variant b old new result
      → CountsAgain variant b old new result
  again : (middle : Standing) (fault : StepFault)
      → CountsCall variant b old middle (Err (Device fault))
      → CountsCall variant b middle new result → CountsAgain variant b old new result

-- One call, which was refused; or, where it was answered, another.
pub data CountsNext (variant : Variant) (first second : Batch) (old new : Standing)
    (result : Result BatchAnswer Refusal) : Type 0 where
  alone : (why : Refusal) → result ≡ Err why → CountsCall variant first old new result
      → CountsNext variant first second old new result
  both : (middle : Standing) (answer : BatchAnswer)
      → CountsCall variant first old middle (Ok answer)
      → CountsCall variant second middle new result → CountsNext variant first second old new result

-- So does a checkpoint.
pub record CountsClosing (old new : Standing)
    (result : Result Checkpointed CheckpointRefusal) : Type 0 where
  pub steps : ClosingStepsBy result old new
  pub faults : CountsHandedFault (closing_fault_in result) old.faults new.faults

-- A call; where it was answered, a checkpoint; and where that was made, the call once more. An
-- error is that of the last of these.
pub data CountsRepeat (b : Batch) (old new : Standing)
    (result : Result Replies RepeatRefusal) : Type 0
  where
    in_first : (why : Refusal) → result ≡ Err (Asking why) → CountsCall Opt b old new (Err why)
        → CountsRepeat b old new result
    in_closing : (why : CheckpointRefusal) → result ≡ Err (Closing why)
        → (answered : Standing) (first : BatchAnswer)
        → CountsCall Opt b old answered (Ok first) → CountsClosing answered new (Err why)
        → CountsRepeat b old new result
    in_second : (why : Refusal) → result ≡ Err (Asking why)
        → (answered closed : Standing) (first : BatchAnswer) (said : Checkpointed)
        → CountsCall Opt b old answered (Ok first) → CountsClosing answered closed (Ok said)
        → CountsCall Opt b closed new (Err why)
        → CountsRepeat b old new result
    replied : (first second : Answer) → result ≡ Ok (record { first = first; second = second })
        → (answered closed : Standing) (said : Checkpointed)
        → CountsCall Opt b old answered (Ok (batch_answer_of first))
        → CountsClosing answered closed (Ok said)
        → CountsCall Opt b closed new (Ok (batch_answer_of second)) → CountsRepeat b old new result

-- What a caller gets that makes calls in parts.

-- Two requests were prepared on one snapshot, one behind the other. What was found for the first
-- was committed, and this is its answer; of the second nothing was.
pub record CommitsFirst (asked : Batch → OpMeaning BatchAnswer Refusal) (old new : Standing)
    (first second : List ℕ) (answer : BatchAnswer) : Type 0 where
  pub one : Standing
  pub two : Standing
  pub found : OpFinding BatchAnswer
  pub other : OpFinding BatchAnswer
  pub reads : is_long (One first) ≡ false → CallReads (asked (One first)) old one (Ok found)
  pub reads_on : is_long (One second) ≡ false → CallReads (asked (One second)) one two (Ok other)
  pub commits : CommitsFinding (acts_for found) (answer_in found) two new (Ok answer)
