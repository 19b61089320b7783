-- What a call comes to by lists, and what is asked of its moves: nothing in Basic; and nothing of an idle call of Opt, whose batch
-- isn't taken for new with no segment open: it neither reads what the register holds nor empties it.
use Rattle.mm_call.proofs.Below.{◌≡◌, ℕ, Bool, true, false, List, [], ◌∷◌, ◌++◌, map, Option, None, Some, Result, Ok, Err, refl, sym, ap}
use Rattle.mm_call.proofs.Below.{◌∙◌, subst, if◌then◌else◌, StepFault, Meaning, Batch, Instance, basic_instance, opt_instance, History}
use Rattle.mm_call.proofs.Below.{Move, Foreign, Reset, history_after, total_of, digests_of, issued_bytes, ask_steps, BatchAnswer, Refusal}
use Rattle.mm_call.proofs.Below.{answer_on, list_level, digest_level, state_after_moves, CallFinding, finding_at, finding_unless_wanting}
use Rattle.mm_call.proofs.Below.{is_fresh, Course, StepsWalk, walk, call_outcome, state_seen, call_ending_by, result_of_ending}
use Rattle.mm_call.proofs.Below.{moves_from_reset, counted_part, counted_moves, messages_of_moves, IsAsked, AreAsked, HistoryGrows, kept}
use Rattle.mm_call.proofs.Below.{grown, asked_by, same_batches, more_batches, Commits, nothing, batch, call_commits, foreign_first, ◌⊎◌}
use Rattle.mm_call.proofs.Below.{inl, inr, option_map, Item, Standing, Value, Digests, AreShown, IsIdle, items_after_moves, standing_items}
use Rattle.mm_call.proofs.Below.{Level, same_rest, MovesAreTied, shows, Opt}
use Rattle.mm_call.proofs.BasicLaw.{AreBasic, unlacked, walk_basic, names_made}
use Rattle.mm_call.proofs.Finding.{again_of, fresh_of, fresh_found, Asking, placed, right_at}
use Rattle.mm_call.proofs.OptLaw.{seen_asking, opt_calls_agree_by_lists}
use Rattle.mm_call.proofs.OptHolding.{is_agrees, bare, found_lists}
use Rattle.mm_call.proofs.OptShapes.{Brought, none_counted, reads_only, opt_tied}
use Rattle.mm_call.proofs.OptWalks.{sight_is}
use Rattle.mm_call.specs.CallPremises.{nothing as none_counts}

-- an answer is given where an offer was accepted and no step failed
pub record Answered {S : Type 0} (level : Level S) (seen s : S) (b : Batch) (found : Result CallFinding Refusal) (broken : Option StepFault)
    (answer : BatchAnswer) : Type 0 where
  pub it : CallFinding
  pub found_is : found ≡ Ok it
  pub whole : broken ≡ None
  pub answer_is : answer ≡ level.answer it.again seen s it.offered b

pub answered_only : {S : Type 0} (broken : Option StepFault) (level : Level S) (seen s : S) (b : Batch) (found : Result CallFinding Refusal)
    (moves : List Move) (answer : BatchAnswer) → result_of_ending (call_ending_by level seen s b found moves broken) ≡ Ok answer
    → Answered level seen s b found broken answer
answered_only (Some fault) level seen s b found moves answer e = absurd (cc)
answered_only None level seen s b (Err why) moves answer e = absurd (cc)
answered_only None level seen s b (Ok it) moves answer e =
    let same : level.answer it.again seen s it.offered b ≡ answer = cc in
    record { it = it; found_is = refl; whole = refl; answer_is = sym same }

-- by whether it is a repeat
told_as : (fresh flag : Bool) (i : Instance) (seen s : History) (b : Batch) (found : Result CallFinding Refusal) (broken : Option StepFault)
    (answer : BatchAnswer) → (a : Answered (list_level i) seen s b found broken answer) → is_fresh found ≡ fresh
    → ((if a.it.again then false else true) ≡ fresh → a.it.again ≡ flag) → (a.it.again ≡ flag) × (answer ≡ answer_on i s b flag)
told_as fresh flag i seen s b found broken answer a e tells =
    let again : a.it.again ≡ flag = tells (subst (λ (f : Result CallFinding Refusal). is_fresh f ≡ fresh) a.found_is e) in
    (again, a.answer_is ∙ ap (λ (f : Bool). answer_on i s b f) again)

module _ (i : Instance) (all : List (List ℕ)) (y sees : History) (lacks : Bool) (offer : List ℕ) (b : Batch) where
  comes_by : (w : StepsWalk) (found : Result CallFinding Refusal) → sees.batches ≡ y.batches → Asking all i sees offer b
      → finding_unless_wanting (finding_at i (list_level i) sees b offer) lacks ≡ found → Commits b (is_fresh found) w
      → HistoryGrows i y offer b (state_after_moves (list_level i) y w.moves)
      (result_of_ending (call_ending_by (list_level i) sees (state_after_moves (list_level i) y w.moves) b found w.moves w.broken))
  comes_by w found same asking is (nothing none unless) =
      let end : History = state_after_moves (list_level i) y w.moves in
      kept (same_batches i w.moves y none)
      (λ answer gives. let a = answered_only w.broken (list_level i) sees end b found w.moves answer gives in
      let told = told_as false true i sees end b found w.broken answer a (unless a.whole) (again_of a.it.again) in
      let was = unlacked (finding_at i (list_level i) sees b offer) lacks a.it (is ∙ a.found_is) in
      let p = placed all i sees offer b asking a.it was in
      record {
        content = a.it.offered;
        right = right_at i sees offer b a.it was;
        ends = record { front = p.named; is = p.repeat told.0 ∙ same };
        position = p.position;
        answer_is = told.1;
      })
  comes_by w found same asking is (batch one fresh) =
      let end : History = state_after_moves (list_level i) y w.moves in
      let f = fresh_found found fresh in
      let was = unlacked (finding_at i (list_level i) sees b offer) lacks f.0 (is ∙ f.1) in
      let p = placed all i sees offer b asking f.0 was in
      grown f.0.offered (right_at i sees offer b f.0 was) (p.position ∙ ap total_of (p.fresh f.2 ∙ same)) (more_batches i w.moves y b one)
      (λ answer gives. let a = answered_only w.broken (list_level i) sees end b found w.moves answer gives in
      (told_as true false i sees end b found w.broken answer a fresh (fresh_of a.it.again)).1)

-- what a call comes to by lists, where what it sees are others' values more
comes_seen : (i : Instance) (all : List (List ℕ)) (y : History) (c : Course) (offer : List ℕ) (b : Batch)
    → (state_seen i (list_level i) y c).batches ≡ y.batches → Asking all i (state_seen i (list_level i) y c) offer b
    → HistoryGrows i y offer b (call_outcome i (list_level i) y c offer b).state
    (result_of_ending (call_outcome i (list_level i) y c offer b).ending)
comes_seen i all y c offer b same asking =
    let sees : History = state_seen i (list_level i) y c in
    let found : Result CallFinding Refusal = finding_unless_wanting (finding_at i (list_level i) sees b offer) c.lacks in
    comes_by i all y sees c.lacks offer b (walk c.fates 1 (ask_steps i.variant y.is_open (is_fresh found) b)) found same asking refl
    (call_commits i.variant c.fates y.is_open (is_fresh found) b)

module _ (meaning : Meaning) (key : List ℕ) where
  -- Nothing is asked of the moves of a call of Basic.

  no_messages : (moves : List Move) (y : History) → messages_of_moves (basic_instance meaning key) y moves ≡ []
  no_messages [] y = refl
  no_messages (m ∷ moves) y = no_messages moves (history_after (basic_instance meaning key) y m)

  no_reset : (moves : List Move) → AreBasic moves → moves_from_reset moves ≡ []
  no_reset [] a = refl
  no_reset (Reset ∷ moves) a = absurd a.0
  no_reset (m ∷ moves) a = no_reset moves a.1

  none_of : (is_open : Bool) (moves : List Move) → is_open ≡ false → AreBasic moves → counted_moves is_open moves ≡ []
  none_of is_open moves e a = ap (λ f. counted_moves f moves) e ∙ no_reset moves a

  pub basic_asked : (all others : List (List ℕ)) (asked : List Batch) (y : History) (c : Course) (offer : List ℕ) (b : Batch)
      → AreAsked all others asked (basic_instance meaning key) y offer b
      → IsAsked all others asked (basic_instance meaning key) y
      (call_outcome (basic_instance meaning key) (digest_level (basic_instance meaning key)) (digests_of (basic_instance meaning key) y) c
      offer b).moves offer b
  basic_asked all others asked y c offer b a =
      let i : Instance = basic_instance meaning key in
      let moves : List Move = (call_outcome i (digest_level i) (digests_of i y) c offer b).moves in
      let none : counted_moves y.is_open moves ≡ [] = none_of y.is_open moves a.within.sound.shut (walk_basic c.fates false _ b) in
      asked_by i all others asked y moves offer b a
      (rw (no_messages (counted_moves y.is_open moves) (counted_part y)) tt)
      (rw none tt)

  pub basic_comes : (all others : List (List ℕ)) (asked : List Batch) (y : History) (c : Course) (offer : List ℕ) (b : Batch)
      → AreAsked all others asked (basic_instance meaning key) y offer b
      → HistoryGrows (basic_instance meaning key) y offer b
      (call_outcome (basic_instance meaning key) (list_level (basic_instance meaning key)) y c offer b).state
      (result_of_ending (call_outcome (basic_instance meaning key) (list_level (basic_instance meaning key)) y c offer b).ending)
  basic_comes all others asked y c offer b a =
      let i : Instance = basic_instance meaning key in
      let brought : List Move = map Foreign (c.fates 1).brings ++ [] in
      comes_seen i all y c offer b (same_batches i brought y (foreign_first (c.fates 1).brings []))
      (record {
        clear = a.clear;
        listed = a.offered;
        genuine = λ content right. names_made meaning key brought y content (a.genuine content right);
      })

module _ (meaning : Meaning) (key barrier : List ℕ) where
  pub opt_comes : (all others : List (List ℕ)) (asked : List Batch) (y : History) (c : Course) (offer : List ℕ) (b : Batch)
      → AreAsked all others asked (opt_instance meaning key barrier) y offer b
      → HistoryGrows (opt_instance meaning key barrier) y offer b
      (call_outcome (opt_instance meaning key barrier) (list_level (opt_instance meaning key barrier)) y c offer b).state
      (result_of_ending (call_outcome (opt_instance meaning key barrier) (list_level (opt_instance meaning key barrier)) y
      c offer b).ending)
  opt_comes all others asked y c offer b a =
      let i : Instance = opt_instance meaning key barrier in
      let v : List (List ℕ) = (c.fates 1).brings in
      let w : List (List ℕ) = (c.fates 2).brings in
      comes_seen i all y c offer b
      (same_batches i (map Foreign v ++ (map Foreign w ++ [])) y (foreign_first v (map Foreign w ++ []) ∙ foreign_first w []))
      (seen_asking meaning key barrier all y v w offer b a.within.sound
      (record { clear = a.clear; listed = a.offered; genuine = a.genuine }))

-- what an answer says of the history
pub answered_at : (i : Instance) (y after : History) (offer : List ℕ) (b : Batch) (answer : BatchAnswer)
    → HistoryGrows i y offer b after (Ok answer) → (answer.position ≡ total_of after.batches) × (answer.snapshot ≡ issued_bytes i after)
answered_at i y after offer b answer (kept same gives) =
    let e = (gives answer refl).answer_is in (ap (λ (a : BatchAnswer). a.position) e, ap (λ (a : BatchAnswer). a.snapshot) e)
answered_at i y after offer b answer (grown content right at more gives) =
    let e = gives answer refl in (ap (λ (a : BatchAnswer). a.position) e, ap (λ (a : BatchAnswer). a.snapshot) e)

never_fresh : (at : Result CallFinding Refusal) (lacks : Bool) → is_fresh at ≡ false → is_fresh (finding_unless_wanting at lacks) ≡ false
never_fresh (Err why) lacks f = refl
never_fresh (Ok found) false f = f
never_fresh (Ok found) true f = refl

idle_by : {A : Type 0} (i : Instance) (y : History) (offer : List ℕ) (b : Batch) (flag fresh : Bool) → y.is_open ≡ flag
    → is_fresh (finding_at i (list_level i) y b offer) ≡ fresh → ((IsIdle i y offer b → ⊥) → A) → A ⊎ IsIdle i y offer b
idle_by i y offer b true fresh e f unless = inl (unless (λ k. let clash : true ≡ false = sym e ∙ k.shut in absurd (cc)))
idle_by i y offer b false true e f unless = inl (unless (λ k. let clash : true ≡ false = sym f ∙ k.not_new in absurd (cc)))
idle_by i y offer b false false e f unless = inr (record { shut = e; not_new = f })

pub unless_idle : {A : Type 0} (i : Instance) (y : History) (offer : List ℕ) (b : Batch) → ((IsIdle i y offer b → ⊥) → A)
    → A ⊎ IsIdle i y offer b
unless_idle i y offer b unless = idle_by i y offer b y.is_open (is_fresh (finding_at i (list_level i) y b offer)) refl refl unless

module _ (meaning : Meaning) (key barrier : List ℕ) where
  abbrev I : Instance
  I = opt_instance meaning key barrier

  -- what is found doesn't change by what others put into the register before the reading steps
  found_seen : (y : History) (c : Course) (offer : List ℕ) (b : Batch) → y.is_open ≡ false
      → finding_at I (list_level I) (state_seen I (list_level I) y c) b offer ≡ finding_at I (list_level I) y b offer
  found_seen y c offer b e =
      ap (λ (z : History). finding_at I (list_level I) z b offer) (sight_is I y c)
      ∙ found_lists meaning key barrier y ((y.items ++ map Value (c.fates 1).brings) ++ map Value (c.fates 2).brings) b offer e
      ∙ sym (found_lists meaning key barrier y y.items b offer e)

  pub idle_moves : (y : History) (c : Course) (offer : List ℕ) (b : Batch) → IsIdle I y offer b
      → Brought (call_outcome I (list_level I) y c offer b).moves
  idle_moves y c offer b idle =
      let at : Result CallFinding Refusal = finding_at I (list_level I) (state_seen I (list_level I) y c) b offer in
      let not_new : is_fresh (finding_unless_wanting at c.lacks) ≡ false =
      never_fresh at c.lacks (ap is_fresh (found_seen y c offer b idle.shut) ∙ idle.not_new) in
      subst (λ (x : Bool). Brought (walk c.fates 1 (ask_steps Opt y.is_open x b)).moves) (sym not_new)
      (subst (λ (x : Bool). Brought (walk c.fates 1 (ask_steps Opt x false b)).moves) (sym idle.shut)
      (reads_only (c.fates 1).brings (c.fates 2).brings (c.fates 1).ends (c.fates 2).ends))

  pub asked_idle : (all others : List (List ℕ)) (asked : List Batch) (y : History) (c : Course) (offer : List ℕ) (b : Batch)
      → AreAsked all others asked I y offer b → IsIdle I y offer b
      → IsAsked all others asked I y (call_outcome I (digest_level I) (digests_of I y) c offer b).moves offer b
  asked_idle all others asked y c offer b a idle =
      let d : Digests = digests_of I y in
      let moves : List Move = (call_outcome I (list_level I) y c offer b).moves in
      let only = idle_moves y c offer b idle in
      let none : counted_moves y.is_open moves ≡ [] = none_counted y only.values moves idle.shut only.are in
      let is_asked : IsAsked all others asked I y moves offer b = asked_by I all others asked y moves offer b a
      (rw none tt)
      (rw none tt) in
      let same = opt_calls_agree_by_lists meaning key barrier all others asked y d c offer b (is_agrees I y d refl) is_asked in
      rw same.moves is_asked

  -- an idle call leaves a history on which it is idle again
  pub idle_again : (y after : History) (offer : List ℕ) (b : Batch) → bare after ≡ bare y → IsIdle I y offer b → IsIdle I after offer b
  idle_again y after offer b same idle =
      let shut : after.is_open ≡ false = ap (λ (x : History). x.is_open) same ∙ idle.shut in
      record {
        shut = shut;
        not_new = ap is_fresh (found_lists meaning key barrier after after.items b offer shut
            ∙ ap (λ (x : History). finding_at I (list_level I) x b offer) same
            ∙ sym (found_lists meaning key barrier y y.items b offer idle.shut)) ∙ idle.not_new;
      }

  -- what is asked of the items that the register shows is asked of the moves
  asked_of : (all others : List (List ℕ)) (asked : List Batch) (y : History) (moves : List Move) (offer : List ℕ) (b : Batch)
      (items more : List Item) → AreAsked all others asked I y offer b → AreShown all others I y more
      → items_after_moves I (digests_of I y) moves items ≡ standing_items y.is_open items ++ more → MovesAreTied I y (digests_of I y) moves
      → IsAsked all others asked I y moves offer b
  asked_of all others asked y moves offer b items more a s reach (shows other tied are) =
      let same : other ≡ more = same_rest (standing_items y.is_open items) other more (sym (are items) ∙ reach) in
      asked_by I all others asked y moves offer b a (rw (tied.messages, same) s.messages) (rw (tied.values, same) s.values)
  asked_of all others asked y moves offer b items more a s reach (none_counts is) =
      asked_by I all others asked y moves offer b a (rw is tt) (rw is tt)

  -- what is asked of a call, by what is asked of the items that the register shows, unless the call is idle
  pub asked_for : (all others : List (List ℕ)) (asked : List Batch) (y : History) (c : Course) (offer : List ℕ) (b : Batch)
      (old new : Standing) (items more : List Item) → AreAsked all others asked I y offer b
      → ((IsIdle I y offer b → ⊥) → AreShown all others I y more) → old.items ≡ Some items
      → new.items ≡ option_map (items_after_moves I (digests_of I y) (call_outcome I (digest_level I) (digests_of I y) c offer b).moves)
      old.items
      → new.items ≡ Some (standing_items y.is_open items ++ more)
      → IsAsked all others asked I y (call_outcome I (digest_level I) (digests_of I y) c offer b).moves offer b
  asked_for all others asked y c offer b old new items more a shown_so known goes ends =
      let d : Digests = digests_of I y in
      let moves : List Move = (call_outcome I (digest_level I) d c offer b).moves in
      let reach : Some (items_after_moves I d moves items) ≡ Some (standing_items y.is_open items ++ more) =
      ap (option_map (items_after_moves I d moves)) (sym known) ∙ sym goes ∙ ends in
      elim (unless_idle I y offer b shown_so) [
        | inl shown_are ↦
            asked_of all others asked y moves offer b items more a shown_are (cc) (opt_tied meaning key barrier y d c offer b refl)
        | inr idle ↦ asked_idle all others asked y c offer b a idle
      ]
