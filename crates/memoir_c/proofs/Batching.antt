-- A batch's call has few steps, and the room that is enough. With it: the steps that C made, taken
-- over one after another; what is said to the requests of a batch, as lines.
use Rattle.std.specs.Borrow.{Bor}
use Rattle.std.specs.List.{list_any}
use Rattle.std.specs.Prelude.{All, Option, None, Some, option_copied, slice_get, Result, Ok, Err, ◌||◌, ◌==◌, nat_lt}
use Rattle.std.proofs.Common.{◌≡◌, ℕ, zero, suc, ◌<◌, List, [], ◌∷◌, length, take, slice_index_or, slice_set, sym, subst, arith, inl, inr}
use Rattle.std.proofs.Common.{◌∙◌, ◌+◌, ◌*◌, ◌≤◌, ◌++◌, refl, ap, append_assoc, length-append, false, true, Bool}
use Rattle.std.proofs.lemmas.Bool.Decides.{nat_tests}
use Rattle.std.proofs.lemmas.List.{take_more}
use Rattle.std.proofs.lemmas.List.Elements.{All-head, All-tail}
use Rattle.std.proofs.lemmas.Option.{get_or_from_slice_get, slice_get-get_or}
use Rattle.mm_bytes.specs.Limits.{limit_of, longest_request}
use Rattle.mm_module.specs.Batch.{Batch, Many, batch_text, size_of}
use Rattle.mm_module.specs.Meaning.{IsLine}
use Rattle.mm_modules.specs.Modules.{meaning_of}
use Rattle.mm_model.specs.Moves.{is_long}
use Rattle.mm_model.specs.declared.answer.Answer.{Answer}
use Rattle.mm_model.specs.declared.answer.BatchAnswer.{BatchAnswer}
use Rattle.mm_model.specs.declared.refusal.Refusal.{Refusal}
use Rattle.mm_model.specs.declared.refusal.Refusal.TheVariants as refusal
use Rattle.mm_told.specs.HostLaws.{worn_host}
use Rattle.mm_told.specs.ToldAskPromise.{ToldBatchPromise}
use Rattle.mm_told.specs.declared.outcome.StepsOutcome.{StepsOutcome}
use Rattle.mm_told.specs.declared.outcome.StepsOutcome.TheVariants as outcome
use Rattle.mm_told.specs.declared.step.HostStep.{HostStep}
use Rattle.mm_told.specs.declared.step.MadeStep.{MadeStep}
use Rattle.memoir_c.specs.CallReplies.{IsStep, AreSteps, IsNoStep, HasNoStep, lines_of, BatchGives, IsLined, answer_with_lines, ReplyState}
use Rattle.memoir_c.specs.CallReplies.{TellsCallOutcome}
use Rattle.memoir_c.specs.declared.asking.Instance.{Instance}
use Rattle.memoir_c.specs.declared.made.Step.{Step}
use Rattle.memoir_c.specs.declared.said.ReturnStatus.{ReturnStatus}
use Rattle.memoir_c.specs.declared.said.ReturnStatus.TheVariants as said
use Rattle.memoir_c.specs.PlainAnswers.{room_with}
use Rattle.memoir_c.proofs.Rooming.{room_is, IsOfPassed, as_many, five, no_call}

-- The steps that C made, taken over one after another.

more : (steps : List Step) (made : List MadeStep) (i : ℕ) (d : Step) (it : MadeStep) → i < length steps → i < length made
    → AreSteps (take i steps) (take i made) → IsStep (slice_index_or steps i d) it
    → AreSteps (take (suc i) steps) (take (suc i) (slice_set made i it))
more [] made i d it h k a s = absurd (omega (arith, h))
more (step ∷ steps) [] i d it h k a s = absurd (omega (arith, k))
more (step ∷ steps) (one ∷ made) zero d it h k a s = (s, tt)
more (step ∷ steps) (one ∷ made) (suc i) d it h k a s =
    (a.0, more steps made i d it (omega (arith, h)) (omega (arith, k)) a.1 s)

-- one more step
pub step_more : (steps : List Step) (made : List MadeStep) (i n : ℕ) (d : Step) (it : MadeStep) → i < length steps → i < length made
    → AreSteps (take i steps) (take i made) → IsStep (slice_index_or steps i d) it → n ≡ suc i
    → AreSteps (take n steps) (take n (slice_set made i it))
step_more steps made i n d it h k a s e =
    subst (λ (m : ℕ). AreSteps (take m steps) (take m (slice_set made i it))) (sym e) (more steps made i d it h k a s)

-- the step at a place is none
pub none_at : (steps : List Step) (i : ℕ) (d : Step) → i < length steps → IsNoStep (slice_index_or steps i d) → HasNoStep steps
none_at [] i d h s = absurd (omega (arith, h))
none_at (step ∷ steps) zero d h s = inl s
none_at (step ∷ steps) (suc i) d h s = inr (none_at steps i d (omega (arith, h)) s)

-- What is said to the requests of a batch, as lines.

-- one more line
lines-more : (xs : List (List ℕ)) (x : List ℕ) → lines_of (xs ++ x ∷ []) ≡ lines_of xs ++ (x ++ 10 ∷ [])
lines-more [] x = refl
lines-more (first ∷ xs) x =
    ap (λ (rest : List ℕ). first ++ 10 ∷ rest) (lines-more xs x) ∙ sym (append_assoc first (10 ∷ lines_of xs) (x ++ 10 ∷ []))

pub lined_more : (xs : List (List ℕ)) (i : ℕ) (text new x : List ℕ) → i < length xs → text ≡ lines_of (take i xs)
    → slice_get xs i ≡ Some x → new ≡ text ++ (x ++ 10 ∷ []) → new ≡ lines_of (take (i + 1) xs)
lined_more xs i text new x l so_far found n =
    n ∙ ap (λ (front : List ℕ). front ++ (x ++ 10 ∷ [])) so_far ∙ sym (lines-more (take i xs) x)
    ∙ ap (λ (last : List ℕ). lines_of (take i xs ++ last ∷ [])) (sym (get_or_from_slice_get xs i x x found))
    ∙ ap lines_of (sym (take_more xs i x l))

pub some_there : (r : Option (Bor (List ℕ))) (xs : List (List ℕ)) (i : ℕ) → i < length xs → option_copied r ≡ slice_get xs i
    → ((x : Bor (List ℕ)) → r ≡ Some x → ⊥) → ⊥
some_there None xs i l e none = let clash : None ≡ Some _ = e ∙ slice_get-get_or xs i [] l in absurd (cc)
some_there (Some x) xs i l e none = none x refl

-- how long they are
pub lines_most : (xs : List (List ℕ)) → All IsLine xs → length (lines_of xs) ≤ 4097 * length xs
lines_most [] lines = omega arith
lines_most (x ∷ xs) lines =
    omega (arith, length-append x (10 ∷ lines_of xs), (All-head IsLine x xs lines).short, lines_most xs (All-tail IsLine x xs lines))

-- A batch's call has few steps, and the room that is enough.

-- what the call came to, by what is told
lined_next : (came : StepsOutcome (Result BatchAnswer Refusal)) (step : HostStep) → IsLined came (outcome.Next step)
    → came ≡ outcome.Next step
lined_next (outcome.Ended (Ok answer)) step (inl e) = absurd (cc)
lined_next (outcome.Ended (Ok answer)) step (inr e) = absurd (cc)
lined_next (outcome.Ended (Err why)) step e = absurd (cc)
lined_next (outcome.Next one) step e = let same : one ≡ step = cc in ap (λ (it : HostStep). outcome.Next it) same
lined_next outcome.Differs step e = absurd (cc)
lined_next outcome.Memory step e = absurd (cc)

record LinesOf (came : StepsOutcome (Result BatchAnswer Refusal)) (told : Answer) : Type 0 where
  answer : BatchAnswer
  came_is : came ≡ outcome.Ended (Ok answer)
  told_is : told ≡ answer_with_lines answer

lined_answer : (came : StepsOutcome (Result BatchAnswer Refusal)) (told : Answer) → IsLined came (outcome.Ended (Ok told))
    → LinesOf came told
lined_answer (outcome.Ended (Ok answer)) told (inl e) = record { answer = answer; came_is = refl; told_is = cc }
lined_answer (outcome.Ended (Ok answer)) told (inr e) = absurd (cc)
lined_answer (outcome.Ended (Err why)) told e = absurd (cc)
lined_answer (outcome.Next one) told e = absurd (cc)
lined_answer outcome.Differs told e = absurd (cc)
lined_answer outcome.Memory told e = absurd (cc)

over_lines : (whole output snapshot limit room lines : ℕ) → whole ≡ output + snapshot → output ≤ 4097 * lines → lines ≤ 64
    → snapshot ≤ 114 + limit → room < whole → 4210 + limit + 258112 ≤ room → ⊥
over_lines whole output snapshot limit room lines e o m s short enough = omega arith

third : (p q r : Bool) → p || q || r ≡ false → r ≡ false
third false false r e = e
third false true r e = absurd (cc)
third true q r e = absurd (cc)

no_more : (n : ℕ) → nat_lt 64 n ≡ false → n ≤ 64
no_more n e = grind (arith, nat_tests)

-- a batch that isn't too long has at most 64 requests
short_most : (b : Batch) → is_long b ≡ false → size_of b ≤ 64
short_most b short =
    no_more (size_of b)
    (third (nat_lt longest_request (length (batch_text b))) (list_any (λ byte. byte == 10) (batch_text b)) (nat_lt 64 (size_of b)) short)

module _ (instance : Instance) (steps : List Step) (offer text : List ℕ) where
  pub batch_few_by : (asked : Result (StepsOutcome (Result Answer Refusal)) ReturnStatus) (left : ReplyState)
      → BatchGives instance steps offer text asked → TellsCallOutcome asked left → left.says ≡ said.Next → length steps < 5
  batch_few_by (Err why) left c t e = absurd (subst IsOfPassed (sym t.says ∙ e) (no_call instance steps why c))
  batch_few_by (Ok (outcome.Ended (Ok answer))) left c (inl t) e = let f : left.says ≡ said.Done = t.says in absurd (cc)
  batch_few_by (Ok (outcome.Ended (Ok answer))) left c (inr t) e = let f : left.says ≡ said.NoRoom = t.says.says in absurd (cc)
  batch_few_by (Ok (outcome.Ended (Err why))) left c t e = let f : left.says ≡ said.Refused why = t.says in absurd (cc)
  batch_few_by (Ok (outcome.Next step)) left c t e =
      omega (arith, as_many steps c.made c.are_steps, c.asks.few step (lined_next c.came step c.lined), five c.parts.0)
  batch_few_by (Ok outcome.Differs) left c t e = let f : left.says ≡ said.Differs = t.says in absurd (cc)
  batch_few_by (Ok outcome.Memory) left c t e = let f : left.says ≡ said.Refused refusal.Memory = t.says in absurd (cc)

  pub batch_enough_by : (asked : Result (StepsOutcome (Result Answer Refusal)) ReturnStatus) (left : ReplyState)
      → BatchGives instance steps offer text asked → TellsCallOutcome asked left
      → room_with instance.«module» + 258112 ≤ length left.old.room → left.says ≡ said.NoRoom → ⊥
  batch_enough_by (Err why) left c t h e = subst IsOfPassed (sym t.says ∙ e) (no_call instance steps why c)
  batch_enough_by (Ok (outcome.Ended (Ok told))) left c (inl t) h e = let f : left.says ≡ said.Done = t.says in absurd (cc)
  batch_enough_by (Ok (outcome.Ended (Ok told))) left c (inr t) h e =
      let l : LinesOf c.came told = lined_answer c.came told c.lined in
      let asks : ToldBatchPromise c.parts.0 (meaning_of c.parts.1) (worn_host c.made) c.made offer
      (Many text) (outcome.Ended (Ok l.answer)) =
      subst
      (λ (came : StepsOutcome (Result BatchAnswer Refusal)).
      ToldBatchPromise c.parts.0 (meaning_of c.parts.1) (worn_host c.made) c.made offer (Many text) came) l.came_is c.asks in
      let few : size_of (Many text) ≤ 64 = elim asks.tells [
        | inl ends ↦ short_most (Many text) ends.short
        | inr long ↦ let gives : ◌≡◌ {A = Result BatchAnswer Refusal} (Ok l.answer) (Err refusal.Long) = long.gives in absurd (cc)
      ] in
      let short : length left.old.room < length (lines_of l.answer.outputs ++ l.answer.snapshot) =
      subst (λ (answer : Answer). length left.old.room < length (answer.output ++ answer.snapshot)) l.told_is t.short in
      over_lines _ (length (lines_of l.answer.outputs)) (length l.answer.snapshot) (limit_of (meaning_of c.parts.1).id)
      (length left.old.room) (length l.answer.outputs) (length-append (lines_of l.answer.outputs) l.answer.snapshot)
      (lines_most l.answer.outputs asks.asked.fits.lines) (subst (λ (n : ℕ). n ≤ 64) (sym asks.asked.fits.counted) few) asks.room short
      (subst (λ (n : ℕ). n + 258112 ≤ length left.old.room) (room_is instance.«module» c.parts.1 c.are_parts.1) h)
  batch_enough_by (Ok (outcome.Ended (Err why))) left c t h e = let f : left.says ≡ said.Refused why = t.says in absurd (cc)
  batch_enough_by (Ok (outcome.Next step)) left c t h e = let f : left.says ≡ said.Next = t.says in absurd (cc)
  batch_enough_by (Ok outcome.Differs) left c t h e = let f : left.says ≡ said.Differs = t.says in absurd (cc)
  batch_enough_by (Ok outcome.Memory) left c t h e = let f : left.says ≡ said.Refused refusal.Memory = t.says in absurd (cc)
