-- What callers get in either variant, by lists alone; and what those of Basic do.
use Rattle.std.specs.Prelude.{◌≡◌, ◌≤◌, ℕ, Bool, false, List, [], ◌∷◌, ◌++◌, Option, None, Some, Result, Ok, Err, ◌⊎◌, if◌then◌else◌}
use Rattle.std.specs.List.{Contains}
use Rattle.mm_callers.specs.Below.{next_count, Standing, StepFault, Batch, One, Meaning, History, Commit, history_after, Instance}
use Rattle.mm_callers.specs.Below.{basic_instance, AreMessagesIn, offer_messages, content_of_issue, is_long, StandsFor, issued_bytes}
use Rattle.mm_callers.specs.Below.{BatchAnswer, Refusal, Memory, Long, answer_on, EndsWith, CallFinding, finding_at, list_level, AreAsked}
use Rattle.mm_callers.specs.Below.{fault_of}

-- The terms of a call, as mm_call has them: the messages, the values of others and the batches
-- within which all keeps, and the instance and the history that the platform stands for.
pub record CallTerms : Type 0 where
  pub all : List (List ℕ)
  pub others : List (List ℕ)
  pub asked : List Batch
  pub i : Instance
  pub y : History

abbrev pub call_terms : List (List ℕ) → List (List ℕ) → List Batch → Instance → History
    → CallTerms
call_terms all others asked i y =
    record { all = all; others = others; asked = asked; i = i; y = y }

-- The batch was committed once: it follows the history's batches, or it was their last one before.
abbrev pub IsOnce : List Batch → Batch → List Batch → Type 0
IsOnce before b after = (after ≡ before ++ b ∷ []) ⊎ ((after ≡ before) × EndsWith before b)

-- The answer is that of one run of these batches, the last of which is b: its position, outputs and
-- snapshot.
pub record IsOfRun (i : Instance) (new : Standing) (batches : List Batch) (b : Batch) (again : Bool)
    (answer : BatchAnswer) : Type 0 where
  pub after : History
  pub stands : StandsFor i new after
  pub batches_are : after.batches ≡ batches
  pub answer_is : answer ≡ answer_on i after b again

-- The request stands once in the run that the answer is of.
pub record AnswersOnce (i : Instance) (y : History) (new : Standing) (b : Batch)
    (answer : BatchAnswer) : Type 0 where
  pub batches : List Batch
  pub once : IsOnce y.batches b batches
  pub run : IsOfRun i new batches b answer.again answer

-- what a call finds at a history: its refusal, or an offer that is accepted
abbrev pub finding_for : Instance → History → List ℕ → Batch → Result CallFinding Refusal
finding_for i y offer b = if is_long b then Err Long else finding_at i (list_level i) y b offer

-- The refusal is the one that is found; want of memory comes only where the offer is accepted.
abbrev pub SaysFound : Result CallFinding Refusal → Refusal → Type 0
SaysFound (Err is) why = why ≡ is
SaysFound (Ok found) why = why ≡ Memory

-- So it is unless a device's fault is handed on.
abbrev pub SaysUnlessFault : Option StepFault → Result CallFinding Refusal → Refusal → Type 0
SaysUnlessFault (Some fault) found why = Unit {0}
SaysUnlessFault None found why = SaysFound found why

-- After an error the platform stands for a history of which the same holds as was asked, so that
-- the call may be made again.
pub record StaysAsAsked (terms : CallTerms) (new : Standing) (offer : List ℕ) (b : Batch) : Type 0
  where
    pub after : History
    pub stands : StandsFor terms.i new after
    pub asked_then : AreAsked terms.all terms.others terms.asked terms.i after offer b

-- The batches are as before; or this one was committed too, and at least one fault was counted.
abbrev pub AreLeftBatches : List Batch → Batch → List Batch → Standing → Standing → Type 0
AreLeftBatches before b after old new =
    (after ≡ before) ⊎ ((after ≡ before ++ b ∷ []) × (next_count old.faults ≤ new.faults))

-- A call ended with an error, as did what was made of it once more after a fault: what stands, and
-- what is told.
pub record RefusesCall (terms : CallTerms) (old new : Standing) (offer : List ℕ) (b : Batch)
    (why : Refusal) : Type 0 where
  pub stays : StaysAsAsked terms new offer b
  pub left : AreLeftBatches terms.y.batches b stays.after.batches old new
  pub says : SaysUnlessFault (fault_of why) (finding_for terms.i stays.after offer b) why

-- How a call ended, which may have been made once more after a device's fault.
abbrev pub EndsOnce : CallTerms → Standing → Standing → List ℕ → Batch
    → Result BatchAnswer Refusal → Type 0
EndsOnce terms old new offer b (Err why) = RefusesCall terms old new offer b why
EndsOnce terms old new offer b (Ok answer) = AnswersOnce terms.i terms.y new b answer

abbrev pub AsksAgain : Meaning → Standing → Standing → List ℕ → List ℕ
    → Result BatchAnswer Refusal → Type 0
AsksAgain meaning old new offer request result =
    (key : List ℕ) (y : History) (all others : List (List ℕ)) (asked : List Batch) →
    StandsFor (basic_instance meaning key) old y
    → AreAsked all others asked (basic_instance meaning key) y offer (One request) →
    EndsOnce (call_terms all others asked (basic_instance meaning key) y) old new offer
    (One request) result

-- What is asked besides for a second batch, on the snapshot of the first answer: the messages at
-- the place that this snapshot says, where the first batch is a repeat and where it is new.
pub record AreAskedNext (all : List (List ℕ)) (asked : List Batch) (i : Instance) (y : History)
    (first second : Batch) : Type 0 where
  pub is_asked : Contains asked second
  pub after_repeat : AreMessagesIn (offer_messages i (content_of_issue i y).place second) all
  pub after_new : AreMessagesIn
      (offer_messages i (content_of_issue i (history_after i y (Commit first))).place second) all

-- The first request was committed once, and the second follows it in the run that the answer is of.
pub record AnswersNext (i : Instance) (y : History) (new : Standing) (first second : Batch)
    (answer : BatchAnswer) : Type 0 where
  pub batches : List Batch
  pub once : IsOnce y.batches first batches
  pub run : IsOfRun i new (batches ++ second ∷ []) second false answer

-- Two calls, the second on the snapshot of the first answer, ended with an error: the first was
-- refused; or it was answered, so that the first batch was committed once, and the second was
-- refused on the snapshot of that place.
pub data RefusesNext (terms : CallTerms) (old new : Standing) (offer : List ℕ)
    (first second : Batch) (why : Refusal) : Type 0 where
  in_first : RefusesCall terms old new offer first why
      → RefusesNext terms old new offer first second why
  in_second : (batches : List Batch) → IsOnce terms.y.batches first batches
      → (stays : StaysAsAsked terms new offer first)
      → AreLeftBatches batches second stays.after.batches old new
      → SaysUnlessFault (fault_of why)
      (finding_for terms.i stays.after (issued_bytes terms.i stays.after) second) why
      → RefusesNext terms old new offer first second why

-- How two calls ended, the second on the snapshot of the first answer.
abbrev pub EndsNext : CallTerms → Standing → Standing → List ℕ → Batch → Batch
    → Result BatchAnswer Refusal → Type 0
EndsNext terms old new offer first second (Err why) =
    RefusesNext terms old new offer first second why
EndsNext terms old new offer first second (Ok answer) =
    AnswersNext terms.i terms.y new first second answer

abbrev pub AsksTwice : Meaning → Standing → Standing → List ℕ → List ℕ → List ℕ
    → Result BatchAnswer Refusal → Type 0
AsksTwice meaning old new offer first second result =
    (key : List ℕ) (y : History) (all others : List (List ℕ)) (asked : List Batch) →
    StandsFor (basic_instance meaning key) old y
    → AreAsked all others asked (basic_instance meaning key) y offer (One first) →
    AreAskedNext all asked (basic_instance meaning key) y (One first) (One second) →
    EndsNext (call_terms all others asked (basic_instance meaning key) y) old new offer (One first)
    (One second) result
