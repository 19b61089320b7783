-- What callers of Opt get, by lists alone. With it: when a call is answered; what a caller of Opt
-- gets that closes the segment between a request and the same request once more, by lists.
use Rattle.std.specs.List.{Contains}
use Rattle.std.specs.Prelude.{◌≡◌, ℕ, ◌+◌, ◌≤◌, Bool, true, false, List, [], ◌∷◌, ◌++◌, Some, Result, Ok, Err, Option, None}
use Rattle.mm_callers.specs.Basic.{CallTerms, call_terms, AreAskedNext, EndsOnce, EndsNext, IsOfRun, IsOnce, AnswersOnce, finding_for}
use Rattle.mm_callers.specs.Basic.{SaysFound, StaysAsAsked, RefusesCall}
use Rattle.mm_callers.specs.Below.{last_position, Content, Batch, size_of, Meaning, History, total_of, Instance, basic_instance}
use Rattle.mm_callers.specs.Below.{opt_instance, Live, life_of, IsRight, answer_on, Answers, CallOutcome, call_outcome, state_seen}
use Rattle.mm_callers.specs.Below.{EndsWith, Done, Course, list_level, extended_message, Item, Standing, quiet_plan, One, guard}
use Rattle.mm_callers.specs.Below.{register_value_of, is_long, StandsFor, BatchAnswer, Refusal, Memory, counted_part, IsAnswered, AreAsked}
use Rattle.mm_callers.specs.Below.{AreShown, IsIdle, standing_items, foreign_items, anchored_message, digest_after, Opt, item_values}
use Rattle.mm_callers.specs.Below.{StepFault, cell_digest_of, is_lost, Answer, IsCallOnCourse, batch_answer_of, fault_of}
use Rattle.mm_callers.specs.Below.{IsCheckpointOnCourse, CheckpointRefusal, Device, Blank, Cell, Kind, Lost, Checkpointed}
use Rattle.mm_callers.specs.declared.closing.RepeatRefusal.{RepeatRefusal}
use Rattle.mm_callers.specs.declared.closing.RepeatRefusal.TheVariants.{Asking, Closing}
use Rattle.mm_callers.specs.declared.closing.Replies.{Replies}

-- When a call is answered: by lists, on every course.

-- no step fails, and memory isn't wanting
pub record IsSmooth (course : Course) : Type 0 where
  pub done : (n : ℕ) → (course.fates n).ends ≡ Done
  pub lacks : course.lacks ≡ false

-- A position at which the batch may be asked for: the last one; or, for a repeat, the one before
-- the batch that was committed last, which is the one asked.
abbrev pub IsOfferedAt : Bool → List Batch → ℕ → Batch → Type 0
IsOfferedAt false batches position b = position ≡ total_of batches
IsOfferedAt true batches position b = (ends : EndsWith batches b) × (position ≡ total_of ends.front)

-- An offer is welcome to a history, by whether it is a repeat's: the history is live; the offer is
-- right, and at such a position; and there are positions left.
pub record IsWelcome (i : Instance) (y : History) (offer : List ℕ) (b : Batch)
    (again : Bool) : Type 0 where
  pub live : life_of i.variant y ≡ Live
  pub content : Content
  pub right : IsRight i offer content
  pub offered : IsOfferedAt again y.batches content.position b
  pub fits : content.position + size_of b ≤ last_position

-- the batches after such a call
abbrev pub batches_after_call : Bool → List Batch → Batch → List Batch
batches_after_call true batches b = batches
batches_after_call false batches b = batches ++ b ∷ []

-- the call answers, and what stands then
pub record IsAnswer (i : Instance) (y : History) (b : Batch) (again : Bool)
    (o : CallOutcome History) : Type 0 where
  pub ending : o.ending ≡ Answers (answer_on i o.state b again)
  pub batches : o.state.batches ≡ batches_after_call again y.batches b

-- On a course on which no step fails and memory isn't wanting, a call whose offer is welcome to the
-- history that it sees answers.
abbrev pub CallsAreComplete : Instance → Type 0
CallsAreComplete i = (y : History) (course : Course) (offer : List ℕ) (b : Batch) (again : Bool) →
    IsSmooth course → IsWelcome i (state_seen i (list_level i) y course) offer b again →
    IsAnswer i y b again (call_outcome i (list_level i) y course offer b)

abbrev pub BasicCallsAreComplete : Type 0
BasicCallsAreComplete = (meaning : Meaning) (key : List ℕ)
    → CallsAreComplete (basic_instance meaning key)

abbrev pub OptCallsAreComplete : Type 0
OptCallsAreComplete =
    (meaning : Meaning) (key barrier : List ℕ) → CallsAreComplete (opt_instance meaning key barrier)

-- What callers of Opt get, by lists alone. What is asked of what others do is asked of the
-- register's items at exit.

-- So it is of each history that the platform stands for, of which what a call needs is asked, and
-- where the register's items are known at entry and at exit: these are behind those that counted.
abbrev pub HoldsOnEach : Meaning → Standing → Standing → List ℕ → Batch
    → (CallTerms → List Item → Type 0) → Type 0
HoldsOnEach meaning old new offer b holds =
    (key barrier : List ℕ) (y : History) (all others : List (List ℕ)) (asked : List Batch)
    (items more : List Item) →
    StandsFor (opt_instance meaning key barrier) old y → old.items ≡ Some items
    → new.items ≡ Some (standing_items y.is_open items ++ more) →
    AreAsked all others asked (opt_instance meaning key barrier) y offer b
    → holds (call_terms all others asked (opt_instance meaning key barrier) y) more

-- One call, or one that is made again after a device's fault; inside a segment or across an
-- opening. Where it is idle, as a repeat with no segment open, nothing is asked of the register's
-- items.
abbrev pub AsksOnce : Meaning → Standing → Standing → List ℕ → List ℕ → Result BatchAnswer Refusal
    → Type 0
AsksOnce meaning old new offer request result =
    HoldsOnEach meaning old new offer (One request) (λ terms more.
    ((IsIdle terms.i terms.y offer (One request) → ⊥) →
    AreShown terms.all terms.others terms.i terms.y more) →
    EndsOnce terms old new offer (One request) result)

-- two calls, the second on the snapshot of the first answer; inside a segment or across an opening
abbrev pub AsksTwice : Meaning → Standing → Standing → List ℕ → List ℕ → List ℕ
    → Result BatchAnswer Refusal → Type 0
AsksTwice meaning old new offer first second result =
    HoldsOnEach meaning old new offer (One first) (λ terms more.
    AreAskedNext terms.all terms.asked terms.i terms.y (One first) (One second) →
    AreShown terms.all terms.others terms.i terms.y more →
    EndsNext terms old new offer (One first) (One second) result)

-- The answer is this one, by whether it is a repeat; or memory was wanting, and the platform stands
-- for the history as before.
abbrev pub AnswersOrLacks : Instance → History → Standing → Batch → Bool
    → Result BatchAnswer Refusal → Type 0
AnswersOrLacks i y new b again (Ok answer) =
    IsOfRun i new (batches_after_call again y.batches b) b again answer
AnswersOrLacks i y new b again (Err why) = (why ≡ Memory) × StandsFor i new y

-- A call whose steps nothing disturbs: an offer that is welcome is answered. Nothing is asked of
-- others, as there are none; of the register only the message by which the request extends it.
abbrev pub AnswersUndisturbed : Meaning → Standing → Standing → List ℕ → List ℕ
    → Result BatchAnswer Refusal → Type 0
AnswersUndisturbed meaning old new offer request result =
    (key barrier : List ℕ) (y : History) (all others : List (List ℕ)) (asked : List Batch)
    (again : Bool) →
    is_long (One request) ≡ false → StandsFor (opt_instance meaning key barrier) old y →
    AreAsked all others asked (opt_instance meaning key barrier) y offer (One request) →
    Contains all (extended_message
    (register_value_of (opt_instance meaning key barrier) (counted_part y))
    (guard barrier (One request))) →
    IsWelcome (opt_instance meaning key barrier) y offer (One request) again →
    AnswersOrLacks (opt_instance meaning key barrier) y new (One request) again result

-- So it is over a platform that is on and tells a plan by which nothing fails and nobody else
-- extends the register.
abbrev pub AsksByQuietPlan : Meaning → Standing → Standing → List ℕ → List ℕ
    → Result BatchAnswer Refusal → Type 0
AsksByQuietPlan meaning old new offer request result =
    old.is_on ≡ true → old.plan ≡ Some quiet_plan
    → AnswersUndisturbed meaning old new offer request result

-- So it is over a platform in memory that is on.
abbrev pub AsksInMemory : Meaning → Standing → Standing → List ℕ → List ℕ
    → Result BatchAnswer Refusal → Type 0
AsksInMemory meaning old new offer request result =
    old.is_on ≡ true → AnswersUndisturbed meaning old new offer request result

-- Over any platform: a call on a welcome offer is answered, unless memory was wanting, or a
-- device's step failed, which was counted; where nobody else extended the register inside a
-- segment. Of a repeat with no segment open nothing is asked of the register's items.
abbrev pub AsksWelcome : Meaning → Standing → Standing → List ℕ → List ℕ
    → Result BatchAnswer Refusal → Type 0
AsksWelcome meaning old new offer request result =
    HoldsOnEach meaning old new offer (One request) (λ terms more. (again : Bool) →
    is_long (One request) ≡ false → (terms.y.is_open ≡ true → foreign_items more ≡ [])
    → (((terms.y.is_open ≡ false) × (again ≡ true) → ⊥)
    → AreShown terms.all terms.others terms.i terms.y more)
    → IsWelcome terms.i terms.y offer (One request) again → IsAnswered result old new)

-- What a caller of Opt gets that closes the segment between a request and the same request once
-- more, by lists.

-- What is asked besides for a checkpoint: the messages by which it may close the segment before,
-- between or behind these items, each with the register's value behind the first of them.
abbrev pub MayClose : List (List ℕ) → Instance → History → List Item → Type 0
MayClose all i y more =
    (first later : List (List ℕ)) → first ++ later ≡ item_values more →
    Contains all (anchored_message (cell_digest_of i Opt y)
    (digest_after extended_message (register_value_of i (counted_part y)) first))

-- What is asked of the items that the register shows. Where the first call is idle nothing is: it
-- leaves no segment open, so there is none to close, and the second call is idle too.
abbrev pub AreShownUnlessIdle : CallTerms → List ℕ → Batch → List Item → Type 0
AreShownUnlessIdle terms offer b more = (IsIdle terms.i terms.y offer b → ⊥)
    → AreShown terms.all terms.others terms.i terms.y more
    × MayClose terms.all terms.i terms.y more

-- The second reply is the first one again: it is told as a repeat, at the first one's position and
-- with its outputs, and the batch stands once in the run that it is of.
pub record RepeatsReply (i : Instance) (y : History) (new : Standing) (b : Batch)
    (first second : BatchAnswer) : Type 0 where
  pub again : second.again ≡ true
  pub position : second.position ≡ first.position
  pub outputs : second.outputs ≡ first.outputs
  pub once : AnswersOnce i y new b second

-- a checkpoint that was refused: by a device's fault, or since power was lost inside the segment
abbrev pub SaysClosing : CheckpointRefusal → History → Type 0
SaysClosing (Device fault) y = Unit {0}
SaysClosing Lost y = is_lost (life_of Opt y) ≡ true
SaysClosing Blank y = ⊥
SaysClosing Cell y = ⊥
SaysClosing Kind y = ⊥

-- The first call was answered: the batch was committed once, and the call may be made again.
pub record StaysOnce (terms : CallTerms) (new : Standing) (offer : List ℕ) (b : Batch) : Type 0
  where
    pub stays : StaysAsAsked terms new offer b
    pub once : IsOnce terms.y.batches b stays.after.batches

-- It was made once more behind the checkpoint, and refused as it was found. Where it handed on a
-- device's fault the register may be emptied, and nothing is known by its items at exit.
pub record RefusesBehind (terms : CallTerms) (new : Standing) (offer : List ℕ) (b : Batch)
    (why : Refusal) : Type 0 where
  pub one : StaysOnce terms new offer b
  pub says : SaysFound (finding_for terms.i one.stays.after offer b) why

abbrev pub EndsBehind : Option StepFault → CallTerms → Standing → List ℕ → Batch → Refusal
    → Type 0
EndsBehind (Some fault) terms new offer b why = Unit {0}
EndsBehind None terms new offer b why = RefusesBehind terms new offer b why

-- The error is that of the call, of the checkpoint, or of the call once more.
pub data RefusesRepeat (terms : CallTerms) (old new : Standing) (offer : List ℕ) (b : Batch)
    (why : RepeatRefusal) : Type 0 where
  in_first : (is : Refusal) → why ≡ Asking is → RefusesCall terms old new offer b is
      → RefusesRepeat terms old new offer b why
  in_closing : (is : CheckpointRefusal) → why ≡ Closing is → (one : StaysOnce terms new offer b)
      → SaysClosing is one.stays.after
      → RefusesRepeat terms old new offer b why
  in_second : (is : Refusal) → why ≡ Asking is
      → EndsBehind (fault_of is) terms new offer b is
      → RefusesRepeat terms old new offer b why

-- A request, a checkpoint and the request once more, where the second reply is told as a repeat.
-- What is asked of what others do is asked of the register's items at exit.
abbrev pub RepeatsBehind : Meaning → Standing → Standing → List ℕ → List ℕ
    → Result Replies RepeatRefusal
    → Type 0
RepeatsBehind meaning old new offer request (Err why) =
    HoldsOnEach meaning old new offer (One request) (λ terms more.
    AreShownUnlessIdle terms offer (One request) more →
    RefusesRepeat terms old new offer (One request) why)
RepeatsBehind meaning old new offer request (Ok replies) =
    replies.second.again ≡ true →
    HoldsOnEach meaning old new offer (One request) (λ terms more.
    AreShownUnlessIdle terms offer (One request) more →
    RepeatsReply terms.i terms.y new (One request) (batch_answer_of replies.first)
    (batch_answer_of replies.second))

-- It is told as a repeat. A request that is taken as new empties the register, so what was in it
-- when the segment was closed isn't seen at exit: it is seen on the platform when the checkpoint
-- was over, which each of the three calls ties to what stood before and after. What is asked is
-- asked of the items there.
pub record ClosesBetween (meaning : Meaning) (old new : Standing) (offer request : List ℕ)
    (first second : Answer) : Type 0 where
  pub answered : Standing
  pub closed : Standing
  pub asks : IsCallOnCourse Opt meaning old answered offer (One request)
      (Ok (batch_answer_of first))
  pub said : Checkpointed
  pub checks : IsCheckpointOnCourse answered closed (Ok said)
  pub asks_again : IsCallOnCourse Opt meaning closed new offer (One request)
      (Ok (batch_answer_of second))
  pub repeats : HoldsOnEach meaning old closed offer (One request) (λ terms more.
      AreShownUnlessIdle terms offer (One request) more →
      RepeatsReply terms.i terms.y new (One request) (batch_answer_of first)
      (batch_answer_of second))

abbrev pub NeverTwice : Meaning → Standing → Standing → List ℕ → List ℕ
    → Result Replies RepeatRefusal
    → Type 0
NeverTwice meaning old new offer request (Err why) = Unit {0}
NeverTwice meaning old new offer request (Ok replies) =
    ClosesBetween meaning old new offer request replies.first replies.second
