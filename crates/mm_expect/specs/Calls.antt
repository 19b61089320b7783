-- What a call comes to, as a chronicle goes on by it.
use Rattle.std.specs.Prelude.{◌≡◌, ℕ, ◌+◌, ◌≤◌, Bool, true, false, List, [], ◌∷◌, Option, None, Some, Result, Ok, Err}
use Rattle.mm_expect.specs.Below.{last_position, Variant, Basic, Opt, StepFault, Meddle, Stop, Batch, size_of, History, Move, Commit}
use Rattle.mm_expect.specs.Below.{Placed, Reset, total_of, is_last, DeviceStep, Changes, Writes, Refusal, answer_on, CallEnding, Answers}
use Rattle.mm_expect.specs.Below.{Refuses, Breaks, CallOutcome, position_if_committed, StepsWalk, fate_by_plan, walk, has_commit}
use Rattle.mm_expect.specs.Below.{CallFinding, AskResult, Answered, Refused, Broken, plan_of}
use Rattle.mm_expect.specs.ChronicleView.{ChronicleView, ChronicleGoes, chronicle_instance, ChronicleWalks}

-- a refusal, or whether the batch is a repeat
abbrev pub repeat_in : Result CallFinding Refusal → Result Bool Refusal
repeat_in (Ok found) = Ok found.again
repeat_in (Err why) = Err why

-- how many requests are committed once the batch is
abbrev pub count_after_batch : Bool → ℕ → ℕ → ℕ
count_after_batch true total size = total
count_after_batch false total size = total + size

-- There are positions left for the batch; and one that is a repeat is the last.
pub record AdmitsBatch (y : History) (b : Batch) (again : Bool) : Type 0 where
  pub fits : count_after_batch again (total_of y.batches) (size_of b) ≤ last_position
  pub repeats : again ≡ true → is_last y.batches b ≡ true

-- the steps behind the reading ones, of a call whose batch is a new one
abbrev pub changing_steps : Variant → Bool → Batch → List DeviceStep
changing_steps Basic is_open b = Writes (Commit b) ∷ []
changing_steps Opt true b = Changes (Commit b) ∷ []
changing_steps Opt false b = Changes Reset ∷ Changes (Placed b) ∷ Writes (Commit b) ∷ []

-- the number of the first of them
abbrev pub first_changing_step : Variant → ℕ
first_changing_step Basic = 2
first_changing_step Opt = 3

abbrev pub changes_on : ChronicleView → Stop → List Meddle → Batch → StepsWalk
changes_on old stop meddles b =
    walk (fate_by_plan (plan_of stop meddles)) (first_changing_step old.variant)
    (changing_steps old.variant old.history.is_open b)

-- The chronicle went on by the steps behind the reading ones.
abbrev pub ChronicleChanges : ChronicleView → ChronicleView → Stop → List Meddle → Batch
    → Option StepFault → Type 0
ChronicleChanges old new stop meddles b fault =
    ChronicleWalks old new (changes_on old stop meddles b) fault

abbrev pub ending_of : AskResult → CallEnding
ending_of (Answered answer) = Answers answer
ending_of (Refused why) = Refuses why
ending_of (Broken fault commits) = Breaks fault commits

-- how a call of a new batch ends, once its steps behind the reading ones were walked
abbrev pub new_ending : ChronicleView → Batch → List Move → Option StepFault → CallEnding
new_ending new b moves None = Answers (answer_on (chronicle_instance new) new.history b false)
new_ending new b moves (Some fault) =
    Breaks fault (position_if_committed (has_commit moves) (total_of new.history.batches))

-- The rest of a call of a new batch.
pub record NewCallGoesOn (old new : ChronicleView) (stop : Stop) (meddles : List Meddle) (b : Batch)
    (ended : AskResult) : Type 0 where
  pub went : ChronicleGoes old new (changes_on old stop meddles b).moves
  pub ends : ending_of ended ≡ new_ending new b (changes_on old stop meddles b).moves
      (changes_on old stop meddles b).broken

-- The chronicle went on by a call, which ended so.
pub record ChronicleCalls (old new : ChronicleView) (o : CallOutcome History)
    (ended : AskResult) : Type 0 where
  pub went : ChronicleGoes old new o.moves
  pub ends : ending_of ended ≡ o.ending
