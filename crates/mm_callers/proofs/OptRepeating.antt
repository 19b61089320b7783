-- Opt: the same request behind a checkpoint is answered by its earlier reply, or refused as it is found.
use Rattle.mm_callers.proofs.Below.{◌≡◌, ℕ, Bool, true, false, List, Option, None, Some, Result, Ok, Err, refl, sym, ap, ◌∙◌, subst}
use Rattle.mm_callers.proofs.Below.{if◌then◌else◌, Opt, StepFault, Standing, Meaning, Batch, Instance, History, Move, total_of, Digests}
use Rattle.mm_callers.proofs.Below.{StandsFor, ask_steps, BatchAnswer, Refusal, digest_level, CallFinding, is_fresh, StepFate, walk}
use Rattle.mm_callers.proofs.Below.{call_ending_by, result_of_ending, IsOnce, RepeatsReply, HistoryGrows, kept, grown, answered_at, Brought}
use Rattle.mm_callers.proofs.Below.{reads_only, fault_of, ◌++◌, map, append_assoc, Item, foreign_item, One, Foreign, digests_of, list_level}
use Rattle.mm_callers.proofs.Below.{state_after_moves, finding_at, finding_unless_wanting, StepsWalk, call_outcome, state_seen, finding_for}
use Rattle.mm_callers.proofs.Below.{SaysUnlessFault, MayClose, AreShownUnlessIdle, RepeatsBehind, EndsBehind, in_closing, ClosesBetween}
use Rattle.mm_callers.proofs.Below.{shown_front, option_map, opt_instance, checkpoint_outcome, IsCallOnCourse, AreAsked, AreShown, StandsAt}
use Rattle.mm_callers.proofs.Below.{items_after_moves, standing_items, stands_at, placed, right_at, Said, IsCheckpointOnCourse, DigestMoves}
use Rattle.mm_callers.proofs.Below.{call_terms, CallTerms, call_goes_on, is_long, Answer, foreign_move_values, batch_answer_of, Long, CheckpointRefusal}
use Rattle.mm_call.specs.OfferLaws.{shown_same}
use Rattle.mm_opt.specs.AskPromise.{OptAskPromise}
use Rattle.mm_callers.proofs.Leaving.{answered, asked_on, not_long, After, Left, Offers, not_at_end, once, once_twice, answers_once}
use Rattle.mm_callers.specs.Opt.{in_first, in_second}
use Rattle.mm_callers.specs.declared.closing.RepeatRefusal.TheVariants as halted
use Rattle.mm_callers.proofs.OptCalls.{hands_on, asked_once, left_idle}
use Rattle.mm_callers.proofs.OptChecking.{may_close_front, may_close_back, closing_foreign, closing_shown, Checked, check_leaves}
use Rattle.mm_callers.proofs.OptChecking.{check_goes_on}

-- A call whose answer is told as a repeat, or that is refused, and not for a device's fault, found no new batch.

abbrev pub IsQuiet : Result BatchAnswer Refusal → Type 0
IsQuiet (Ok answer) = answer.again ≡ true
IsQuiet (Err why) = fault_of why ≡ None

pub told_quiet : (broken : Option StepFault) (i : Instance) (seen s : Digests) (b : Batch) (found : Result CallFinding Refusal)
    (moves : List Move) → IsQuiet (result_of_ending (call_ending_by (digest_level i) seen s b found moves broken)) → is_fresh found ≡ false
told_quiet (Some fault) i seen s b found moves q = let clash : Some fault ≡ None = q in absurd (cc)
told_quiet None i seen s b (Err why) moves q = refl
told_quiet None i seen s b (Ok it) moves q = ap (λ (f : Bool). if f then false else true) q

-- so it made its reading steps alone
quiet_walk : (fates : ℕ → StepFate) (flag fresh : Bool) (b : Batch) → fresh ≡ false
    → Brought (walk fates 1 (ask_steps Opt flag fresh b)).moves
quiet_walk fates flag true b e = absurd (cc)
quiet_walk fates flag false b e = reads_only (fates 1).brings (fates 2).brings (fates 1).ends (fates 2).ends

not_fresh : (again : Bool) → (again ≡ false → ⊥) → (if again then false else true) ≡ false
not_fresh true never = refl
not_fresh false never = absurd (never refl)

-- the first answer's history ends with the batch, and the offer stands before it
offers : {i : Instance} {y after : History} {offer : List ℕ} {b : Batch} {answer : BatchAnswer} → HistoryGrows i y offer b after (Ok answer)
    → Offers i after.batches offer b
offers {answer = answer} (kept same gives) =
    let g = gives answer refl in
    record {
      content = g.content;
      right = g.right;
      ends = record { front = g.ends.front; is = g.ends.is ∙ sym same };
      position = g.position;
    }
offers {y = y} (grown content right at more gives) =
    record { content = content; right = right; ends = record { front = y.batches; is = sym more }; position = at }

-- the second reply, by what the first call and the second one came to
repeats_by : {i : Instance} {y one two last : History} {new : Standing} {offer : List ℕ} {b : Batch} {first second : BatchAnswer}
    → two.batches ≡ one.batches → StandsFor i new last → HistoryGrows i y offer b one (Ok first)
    → HistoryGrows i two offer b last (Ok second)
    → RepeatsReply i y new b first second
repeats_by same s c (grown content right at more gives) = absurd (not_at_end (offers c) content right (at ∙ ap total_of same))
repeats_by {first = first} {second = second} same s c (kept is gives) =
    let g = gives second refl in
    let first_is = ((once c).answers first refl).1 in
    record {
      again = ap (λ (a : BatchAnswer). a.again) g.answer_is;
      position = simp (g.answer_is, is ∙ same, ap (λ (a : BatchAnswer). a.position) first_is);
      outputs = simp (g.answer_is, is ∙ same, ap (λ (a : BatchAnswer). a.outputs) first_is);
      once = answers_once s (once_twice c same (kept is gives));
    }

module _ {meaning : Meaning} {old answered_at closed : Standing} {offer request : List ℕ} {first : BatchAnswer}
    {said : Result Said CheckpointRefusal} (call : OptAskPromise meaning old answered_at offer (One request) (Ok first))
    (k : IsCheckpointOnCourse answered_at closed said) (key barrier : List ℕ) (all others : List (List ℕ)) (asked : List Batch)
    (y : History) where
  abbrev I : Instance
  I = opt_instance meaning key barrier

  abbrev c : IsCallOnCourse Opt meaning old answered_at offer (One request) (Ok first)
  c = answered call

  short : is_long (One request) ≡ false
  short = not_long call (λ (e : Ok first ≡ Err Long). cc)

  abbrev Shown : List Item → Type 0
  Shown more = AreShownUnlessIdle (call_terms all others asked I y) offer (One request) more

  -- what a call and the checkpoint behind it leave
  record Behind : Type 0 where
    one : After all others asked I y answered_at offer (One request) (Ok first)
    two : Checked meaning key barrier all others asked one.after closed said
    asks : AreAsked all others asked I two.after offer (One request)

  behind : (items more : List Item) → StandsFor I old y → old.items ≡ Some items
      → closed.items ≡ Some (standing_items y.is_open items ++ more) → AreAsked all others asked I y offer (One request) → Shown more
      → Behind
  behind items more s known ends a shown_so =
      let h = hands_on meaning key barrier all others asked closed c short
      (λ d s f. check_goes_on meaning key barrier k d s) items more s known ends a (λ busy. (shown_so busy).0) in
      let x = h.left in
      let two = check_leaves meaning key barrier all others asked x.after h.items h.more k x.stands h.known h.ends a.clear x.within (λ e.
      let p = h.pushed e in (
        h.shown_are (λ idle. let clash : true ≡ false = sym e ∙ idle.shut in cc),
        may_close_back all I y x.after p.1.front h.more h.closed p.1.register
            (subst (MayClose all I y) (sym p.1.whole) (shown_so p.0).1),
      )) in
      record {
        one = x;
        two = two;
        asks = asked_on all others asked I two.within (λ content n. two.names content (x.names content n)) a;
      }

  -- the items that the first call and the checkpoint push
  front_by : (items there : List Item) → StandsFor I old y → old.items ≡ Some items → closed.items ≡ Some there → (flag : Bool)
      → y.is_open ≡ flag → (front : List Item) × (closed.items ≡ Some (standing_items flag items ++ front))
  front_by items there s known shown_there false e = (there, shown_there)
  front_by items there s known shown_there true e =
      let d : Digests = digests_of I y in
      let at = stands_at I old y s in
      let one = call_goes_on meaning key barrier all others asked old answered_at offer request (Ok first) c d at e items known in
      let two = check_goes_on meaning key barrier k
      (state_after_moves (digest_level I) d (DigestMoves meaning key barrier all others asked old answered_at offer request (Ok first) c y))
      (c.goes key barrier d at).stands (items ++ one.0) one.1 in
      (one.0 ++ two.0, two.1 ∙ ap (λ (xs : List Item). Some xs) (append_assoc items one.0 two.0))

  -- the call made once more
  module _ {new : Standing} {result : Result BatchAnswer Refusal} (r : IsCallOnCourse Opt meaning closed new offer (One request) result)
    where
      -- one that found no new batch makes its reading steps alone
      quietly : (d : Digests) → StandsAt I closed d → IsQuiet result
          → Brought (call_outcome I (digest_level I) d r.course offer (One request)).moves
      quietly d stands q =
          let b : Batch = One request in
          let seen : Digests = state_seen I (digest_level I) d r.course in
          let found : Result CallFinding Refusal = finding_unless_wanting (finding_at I (digest_level I) seen b offer) r.course.lacks in
          let w : StepsWalk = walk r.course.fates 1 (ask_steps Opt d.flag (is_fresh found) b) in
          quiet_walk r.course.fates d.flag (is_fresh found) b
          (told_quiet w.broken I seen (state_after_moves (digest_level I) d w.moves) b found w.moves
          (subst IsQuiet (r.goes key barrier d stands).gives q))

      -- The first two calls, where the register's items are known at the end: a call that makes its reading steps alone leaves all items
      -- in front.
      behind_quiet : (items more : List Item) → StandsFor I old y → old.items ≡ Some items
          → new.items ≡ Some (standing_items y.is_open items ++ more) → AreAsked all others asked I y offer (One request) → Shown more
          → IsQuiet result → Behind
      behind_quiet items more s known ends a shown_so q =
          let d : Digests = digests_of I y in
          let moves : List Move = DigestMoves meaning key barrier all others asked old answered_at offer request (Ok first) c y in
          let g = c.goes key barrier d (stands_at I old y s) in
          let d1 : Digests = state_after_moves (digest_level I) d moves in
          let h = k.goes Opt meaning key barrier d1 g.stands in
          let o = checkpoint_outcome I (digest_level I) d1 k.course in
          let there : List Item = items_after_moves I d1 o.moves (items_after_moves I d moves items) in
          let known_there : closed.items ≡ Some there =
          h.items ∙ ap (option_map (items_after_moves I d1 o.moves)) (g.items ∙ ap (option_map (items_after_moves I d moves)) known) in
          let front = front_by items there s known known_there y.is_open refl in
          let standing : List Item = standing_items y.is_open items in
          let here : List Item = standing ++ front.0 in
          let third : List Move = (call_outcome I (digest_level I) o.state r.course offer (One request)).moves in
          let alone = quietly o.state h.stands q in
          let later : List Item = map foreign_item (foreign_move_values (map Foreign alone.values)) in
          let same : front.0 ++ later ≡ more = shown_same closed.items (items_after_moves I o.state third) here standing more
          (front.0 ++ later) front.1
          (ap (λ (ms : List Move). items_after_moves I o.state ms here) alone.are
          ∙ closing_shown meaning key barrier (map Foreign alone.values) false o.state here (closing_foreign alone.values false)
          ∙ append_assoc standing front.0 later)
          (sym (r.goes key barrier o.state h.stands).items ∙ ends) in
          behind items front.0 s known front.1 a (λ busy.
          let all_of = subst (λ (xs : List Item). AreShown all others I y xs × MayClose all I y xs) (sym same) (shown_so busy) in
          (shown_front all others I y front.0 later all_of.0, may_close_front all I y front.0 later all_of.1))

      -- on such an offer, with no segment open, it doesn't find a new batch
      never_new : (x : Behind) (found : Result CallFinding Refusal) → finding_at I (list_level I) x.two.after (One request) offer ≡ found
          → is_fresh found ≡ false
      never_new x (Err why) e = refl
      never_new x (Ok f) e =
          let z : History = x.two.after in
          let p = placed all I z offer (One request)
          (record { clear = x.asks.clear; listed = x.asks.offered; genuine = x.asks.genuine }) f e in
          not_fresh f.again (λ is. not_at_end (offers x.one.comes) f.offered (right_at I z offer (One request) f e)
          (p.position ∙ ap total_of (p.fresh is ∙ x.two.batches)))

      -- what it leaves and says
      once_more : (x : Behind) → x.two.after.is_open ≡ false → Left all others asked I x.two.after new offer (One request) result
      once_more x shut =
          let not_new = never_new x (finding_at I (list_level I) x.two.after (One request) offer) refl in
          (left_idle meaning key barrier all others asked r x.two.stands x.asks short (record { shut = shut; not_new = not_new })).0

  replies_alike : {new : Standing} {second : BatchAnswer} (r : IsCallOnCourse Opt meaning closed new offer (One request) (Ok second))
      → (x : Behind) → x.two.after.is_open ≡ false → RepeatsReply I y new (One request) first second
  replies_alike r x shut =
      let l = (once_more r x shut).leaves in repeats_by x.two.batches l.stands x.one.comes l.comes

  -- the call once more was refused
  refused_behind : {new : Standing} {why : Refusal} (r : IsCallOnCourse Opt meaning closed new offer (One request) (Err why))
      → (x : Behind) → x.two.after.is_open ≡ false → fault_of why ≡ None
      → EndsBehind None (call_terms all others asked I y) new offer (One request) why
  refused_behind {why = why} r x shut none =
      let fell = once_more r x shut in
      let l = fell.leaves in
      record {
        one = record {
          stays = record { after = l.after; stands = l.stands; asked_then = asked_on all others asked I l.within l.names x.asks };
          once = subst (IsOnce y.batches (One request)) (sym ((fell.says.calm none).batches ∙ x.two.batches))
              ((once x.one.comes).answers first refl).0;
        };
        says = subst (λ (f : Option StepFault). SaysUnlessFault f (finding_for I l.after offer (One request)) why) none fell.says.says;
      }

ends_behind : (f : Option StepFault) {terms : CallTerms} {new : Standing} {offer : List ℕ} {b : Batch} {why : Refusal}
    → (f ≡ None → EndsBehind None terms new offer b why) → EndsBehind f terms new offer b why
ends_behind (Some fault) h = tt
ends_behind None h = h refl

-- the call was refused
pub refused_first : {meaning : Meaning} {old new : Standing} {offer request : List ℕ} {why : Refusal}
    → OptAskPromise meaning old new offer (One request) (Err why) → RepeatsBehind meaning old new offer request (Err (halted.Asking why))
refused_first {why = why} call key barrier y all others asked items more s known ends a shown_so =
    in_first why refl (asked_once call key barrier y all others asked items more s known ends a (λ busy. (shown_so busy).0))

-- the checkpoint was refused
pub refused_closing : {meaning : Meaning} {old answered_at closed : Standing} {offer request : List ℕ} {first : BatchAnswer}
    {why : CheckpointRefusal} → OptAskPromise meaning old answered_at offer (One request) (Ok first)
    → IsCheckpointOnCourse answered_at closed (Err why)
    → RepeatsBehind meaning old closed offer request (Err (halted.Closing why))
refused_closing {request = request} {first = first} {why = why} call k key barrier y all others asked items more s known ends a shown_so =
    let x = behind call k key barrier all others asked y items more s known ends a shown_so in
    in_closing why refl
    (record {
      stays = record { after = x.two.after; stands = x.two.stands; asked_then = x.asks };
      once = subst (IsOnce y.batches (One request)) (sym x.two.batches) ((once x.one.comes).answers first refl).0;
    })
    (x.two.says why refl)

-- the call once more was refused
pub refused_again : {meaning : Meaning} {old answered_at closed new : Standing} {offer request : List ℕ} {first : BatchAnswer} {said : Said}
    {why : Refusal} → OptAskPromise meaning old answered_at offer (One request) (Ok first)
    → IsCheckpointOnCourse answered_at closed (Ok said)
    → OptAskPromise meaning closed new offer (One request) (Err why)
    → RepeatsBehind meaning old new offer request (Err (halted.Asking why))
refused_again {said = said} {why = why} call k again key barrier y all others asked items more s known ends a shown_so =
    let r = again.goes (short call k key barrier all others asked y) in
    in_second why refl (ends_behind (fault_of why) (λ none.
    let x = behind_quiet call k key barrier all others asked y r items more s known ends a shown_so none in
    refused_behind call k key barrier all others asked y r x (x.two.is_shut said refl) none))

-- the second reply, where it is told as a repeat, and the register's items are known at the end
pub repeats_behind : {meaning : Meaning} {old answered_at closed new : Standing} {offer request : List ℕ} {said : Said}
    (first second : Answer) → OptAskPromise meaning old answered_at offer (One request) (Ok (batch_answer_of first))
    → IsCheckpointOnCourse answered_at closed (Ok said)
    → OptAskPromise meaning closed new offer (One request) (Ok (batch_answer_of second))
    → RepeatsBehind meaning old new offer request (Ok (record { first = first; second = second }))
repeats_behind {said = said} first second call k again is_again key barrier y all others asked items more s known ends a shown_so =
    let r = answered again in
    let x = behind_quiet call k key barrier all others asked y r items more s known ends a shown_so is_again in
    replies_alike call k key barrier all others asked y r x (x.two.is_shut said refl)

-- the second reply, where the register's items are known when the checkpoint was over
pub never_twice : {meaning : Meaning} {old answered_at closed new : Standing} {offer request : List ℕ} {said : Said}
    (first second : Answer) → OptAskPromise meaning old answered_at offer (One request) (Ok (batch_answer_of first))
    → IsCheckpointOnCourse answered_at closed (Ok said)
    → OptAskPromise meaning closed new offer (One request) (Ok (batch_answer_of second)) → ClosesBetween meaning old new offer
    request first second
never_twice {answered_at = answered_at} {closed = closed} {said = said} first second call k again = record {
  answered = answered_at;
  closed = closed;
  asks = answered call;
  said = said;
  checks = k;
  asks_again = answered again;
  repeats = λ key barrier y all others asked items more s known ends a shown_so.
      let x = behind call k key barrier all others asked y items more s known ends a shown_so in
      replies_alike call k key barrier all others asked y (answered again) x (x.two.is_shut said refl);
}
