-- Opt: what a call hands on to the next, and the callers' clauses, from those of their calls. With
-- it: a welcome offer is found, and a call that finds it and isn't broken off answers; Opt: a call
-- that nothing disturbs answers a welcome offer, or lacks memory.
use Rattle.std.proofs.lemmas.Bool.{eq-eqb}
use Rattle.mm_model.specs.Verdicts.{verdict_on}
use Rattle.mm_model.specs.declared.verdict.Verdict.TheVariants.{Fresh, Again}
use Rattle.mm_call.specs.CallFinding.{check_of_verdict}
use Rattle.mm_call.specs.WalkLaws.{call_commits}
use Rattle.mm_opt.specs.AskPromise.{OptAskPromise}
use Rattle.mm_opt.proofs.Above.{found_right}
use Rattle.mm_callers.specs.Basic.{AreAskedNext}
use Rattle.mm_callers.specs.Opt.{CallsAreComplete, AsksTwice}
use Rattle.mm_callers.proofs.Below.{◌≡◌, ℕ, ◌+◌, Bool, true, false, List, [], ◌∷◌, ◌++◌, None, Result, Ok, refl, sym, ap, ◌∙◌, subst}
use Rattle.mm_callers.proofs.Below.{if◌then◌else◌, nat_eq, Variant, Batch, Content, Instance, History, total_of, Live, life_of, DeviceStep}
use Rattle.mm_callers.proofs.Below.{ask_steps, at_the_end, before_the_last, Refusal, Verdict, list_level, state_after_moves, CallFinding}
use Rattle.mm_callers.proofs.Below.{finding_at, finding_unless_wanting, End, Done, Fails, StepFate, StepsWalk, walk_from_step, walk}
use Rattle.mm_callers.proofs.Below.{state_seen, call_ending_by, call_outcome_with, again_of, fresh_of, same_batches, more_batches, Commits}
use Rattle.mm_callers.proofs.Below.{nothing, batch, IsOfferedAt, IsWelcome, batches_after_call, IsAnswer, map, Some, Err, inl, inr}
use Rattle.mm_callers.proofs.Below.{option_map, append-nil, Opt, StepFault, Item, Standing, Meaning, IsLawful, One, opt_instance, Move}
use Rattle.mm_callers.proofs.Below.{Commit, Foreign, history_after, is_long, AreMessagesIn, offer_messages, digests_of, content_of_issue}
use Rattle.mm_callers.proofs.Below.{StandsFor, BatchAnswer, Device, Long, opt_issued, same_closed, IsAsked, call_outcome, IsCallOnCourse}
use Rattle.mm_callers.proofs.Below.{CountsHandedFault, IsAccepted, opt_content, AreAsked, AreShown, IsIdle, fault_of, items_after_moves}
use Rattle.mm_callers.proofs.Below.{standing_items, foreign_first, opt_comes, stands_at, asked_for, asked_idle, idle_again, idle_moves}
use Rattle.mm_callers.proofs.Below.{unless_idle, Alike, still, grown_by, alike_still, alike_foreign, issued_alike, names_after}
use Rattle.mm_callers.proofs.Below.{Left as OptLeft, DigestMoves, GoesOn, Pushed, alike_call, call_goes_on, hands, seen_closes, bare}
use Rattle.mm_callers.proofs.Below.{in_first, AsksOnce, AsksWelcome, Contains, extended_message, quiet_plan, guard, register_value_of}
use Rattle.mm_callers.proofs.Below.{Digests, Memory, digest_level, is_fresh, Course, CallOutcome, result_of_ending, CallContinues}
use Rattle.mm_callers.proofs.Below.{counted_part, counted_moves, messages_of_moves, foreign_move_values, asked_by, AnswersOrLacks}
use Rattle.mm_callers.proofs.Below.{AsksByQuietPlan, AsksInMemory}
use Rattle.mm_callers.proofs.Leaving.{not_again, by_length, not_long, answered, After, Left, asked_on, left_long, left_short, ends_once}
use Rattle.mm_callers.proofs.Leaving.{ends_again, ends_next, asked_next}

-- A welcome offer is found, and a call that finds it and isn't broken off answers.

-- the verdict on a welcome offer
abbrev pub verdict_of : Bool → Verdict
verdict_of true = Again
verdict_of false = Fresh

admits : (again : Bool) → check_of_verdict (verdict_of again) true ≡ Ok again
admits true = refl
admits false = refl

-- a place before the last batch isn't the end
not_here : (here : Bool) (batches front : List Batch) (b : Batch) → front ++ b ∷ [] ≡ batches
    → nat_eq (total_of front) (total_of batches) ≡ here → here ≡ false
not_here false batches front b is e = refl
not_here true batches front b is e =
    absurd (not_again batches front b is (ap total_of (sym ((at_the_end batches front (b ∷ []) (sym is)).0 e))))

pub verdict_is : (variant : Variant) (y : History) (p : ℕ) (b : Batch) (again : Bool) → life_of variant y ≡ Live
    → IsOfferedAt again y.batches p b → verdict_on variant y p b ≡ verdict_of again
verdict_is variant y p b false live offered =
    simp (live, eq-eqb p (total_of y.batches) offered)
verdict_is variant y p b true live offered =
    let front : List Batch = offered.0.front in
    let is : front ++ b ∷ [] ≡ y.batches = offered.0.is in
    simp (
      live,
      offered.1,
      not_here (nat_eq (total_of front) (total_of y.batches)) y.batches front b is refl,
      (before_the_last y.batches front (b ∷ []) b (sym is)).1 is,
    )

abbrev accepted : Content → Bool → CallFinding
accepted content again = record { offered = content; again = again }

pub welcome_found : (i : Instance) (y : History) (offer : List ℕ) (b : Batch) (again : Bool) → (w : IsWelcome i y offer b again)
    → finding_at i (list_level i) y b offer ≡ Ok (accepted w.content again)
welcome_found i y offer b again w =
    found_right i y offer b w.content w.live w.right w.fits
    ∙ simp (verdict_is i.variant y w.content.position b again w.live w.offered, admits again)

-- a walk of which no step fails isn't broken off
done_then : (step : DeviceStep) (values : List (List ℕ)) (ends : End) (rest : StepsWalk) → ends ≡ Done → rest.broken ≡ None
    → (walk_from_step step values ends rest).broken ≡ None
done_then step values Done rest e h = h
done_then step values (Fails fault made) rest e h = absurd (cc)

pub walk_whole : (fates : ℕ → StepFate) → ((n : ℕ) → (fates n).ends ≡ Done) → (steps : List DeviceStep) (n : ℕ)
    → (walk fates n steps).broken ≡ None
walk_whole fates done [] n = refl
walk_whole fates done (step ∷ steps) n =
    done_then step (fates n).brings (fates n).ends (walk fates (n + 1) steps) (done n) (walk_whole fates done steps (n + 1))

answered_batches : (i : Instance) (y : History) (b : Batch) (again : Bool) (w : StepsWalk) → Commits b (if again then false else true) w
    → w.broken ≡ None → (state_after_moves (list_level i) y w.moves).batches ≡ batches_after_call again y.batches b
answered_batches i y b again w (nothing none unless) whole =
    same_batches i w.moves y none ∙ ap (λ (a : Bool). batches_after_call a y.batches b) (sym (again_of again (unless whole)))
answered_batches i y b again w (batch one fresh) whole =
    more_batches i w.moves y b one ∙ ap (λ (a : Bool). batches_after_call a y.batches b) (sym (fresh_of again fresh))

-- a call that finds a welcome offer
pub complete : (i : Instance) → CallsAreComplete i
complete i y c offer b again smooth w =
    let seen : History = state_seen i (list_level i) y c in
    let found : finding_unless_wanting (finding_at i (list_level i) seen b offer) c.lacks ≡ Ok (accepted w.content again) =
    simp (welcome_found i seen offer b again w, smooth.lacks) in
    let fresh : Bool = if again then false else true in
    let walked : StepsWalk = walk c.fates 1 (ask_steps i.variant y.is_open fresh b) in
    let whole : walked.broken ≡ None = walk_whole c.fates smooth.done (ask_steps i.variant y.is_open fresh b) 1 in
    subst (λ (x : Result CallFinding Refusal). IsAnswer i y b again (call_outcome_with i (list_level i) y seen c b x)) (sym found) (record {
      ending = ap
          (call_ending_by (list_level i) seen (state_after_moves (list_level i) y walked.moves) b (Ok (accepted w.content again))
          walked.moves) whole;
      batches = answered_batches i y b again walked (call_commits i.variant c.fates y.is_open fresh b) whole;
    })

-- Opt: what a call hands on to the next, and the callers' clauses, from those of their calls.

closed_same : (meaning : Meaning) (key barrier : List ℕ) (y after : History) (b : Batch) → Alike meaning key barrier y b after
    → after.closed ≡ y.closed
closed_same meaning key barrier y after b (still e) = ap (λ (x : History). x.closed) e
closed_same meaning key barrier y after b (grown_by e) = same_closed meaning key barrier y after b e

module _ (meaning : Meaning) (key barrier : List ℕ) (all others : List (List ℕ)) (asked : List Batch) where
  -- what is asked of the items, unless the call is idle
  abbrev Shown : History → List ℕ → List ℕ → List Item → Type 0
  Shown y offer request more =
      (IsIdle (opt_instance meaning key barrier) y offer (One request) → ⊥) → AreShown all others (opt_instance meaning key barrier) y more

  abbrev Ends : History → Standing → List Item → List Item → Type 0
  Ends y new items more = new.items ≡ Some (standing_items y.is_open items ++ more)

  module _ {old new : Standing} {offer request : List ℕ} {result : Result BatchAnswer Refusal} {y : History}
      (c : IsCallOnCourse Opt meaning old new offer (One request) result) (s : StandsFor (opt_instance meaning key barrier) old y)
      (a : AreAsked all others asked (opt_instance meaning key barrier) y offer (One request)) where
    -- what a call leaves and says, of whose moves so much is asked
    abbrev pub left_asked : is_long (One request) ≡ false → IsAsked all others asked (opt_instance meaning key barrier) y
        (DigestMoves meaning key barrier all others asked old new offer request result c y) offer (One request)
        → Left all others asked (opt_instance meaning key barrier) y new offer (One request) result
    left_asked short is_asked =
        let i : Instance = opt_instance meaning key barrier in
        let b : Batch = One request in
        let k = c.continues key barrier y all others asked s is_asked in
        let end : History = (call_outcome i (list_level i) y c.course offer b).state in
        let v : List (List ℕ) = (c.course.fates 1).brings in
        let w : List (List ℕ) = (c.course.fates 2).brings in
        let seen : List Move = map Foreign v ++ (map Foreign w ++ []) in
        let same : bare (state_after_moves (list_level i) y seen) ≡ bare y = alike_still meaning key barrier seen y
        (foreign_first v (map Foreign w ++ []) ∙ foreign_first w []) (seen_closes v w) in
        left_short all others asked i y c.course new offer b result short k
        (opt_comes meaning key barrier all others asked y c.course offer b a)
        (λ content n. names_after meaning key barrier y end b content a.within.sound k.within.sound
        (alike_call meaning key barrier y c.course offer b) n)
        (record {
          batches = ap (λ (x : History). x.batches) same;
          issues = issued_alike meaning key barrier (state_after_moves (list_level i) y seen) y same;
        })

    -- an idle call, which leaves all but the items as it was
    pub left_idle : is_long (One request) ≡ false → IsIdle (opt_instance meaning key barrier) y offer (One request)
        → (left : Left all others asked (opt_instance meaning key barrier) y new offer (One request) result)
        × (bare left.leaves.after ≡ bare y)
    left_idle short idle =
        let only = idle_moves meaning key barrier y c.course offer (One request) idle in (
          left_asked short (asked_idle meaning key barrier all others asked y c.course offer (One request) a idle),
          ap (λ (ms : List Move). bare (state_after_moves (list_level (opt_instance meaning key barrier)) y ms)) only.are
              ∙ alike_foreign meaning key barrier only.values y,
        )

  -- what a call leaves, from what mm_call says of it
  abbrev pub after_left : {y : History} {new : Standing} {offer request : List ℕ} {result : Result BatchAnswer Refusal}
      → AreAsked all others asked (opt_instance meaning key barrier) y offer (One request)
      → OptLeft meaning key barrier all others asked y new offer request result
      → After all others asked (opt_instance meaning key barrier) y new offer (One request) result
  after_left {y = y} {request = request} a l = record {
    after = l.after;
    stands = l.stands;
    within = l.within;
    comes = l.comes;
    names = λ content n. names_after meaning key barrier y l.after (One request) content a.within.sound l.within.sound l.alike n;
  }

  -- What a call hands on to what comes next: what it leaves; and that behind the items that count then, the register shows at the
  -- very end what is asked.
  pub record HandsOn (y : History) (middle new : Standing) (offer request : List ℕ) (result : Result BatchAnswer Refusal)
      (whole : List Item) : Type 0 where
    pub left : After all others asked (opt_instance meaning key barrier) y middle offer (One request) result
    pub closed : left.after.closed ≡ y.closed
    pub items : List Item
    pub known : middle.items ≡ Some items
    pub more : List Item
    pub ends : Ends left.after new items more
    pub shown_are : Shown left.after offer request more
    pub pushed : left.after.is_open ≡ true → (IsIdle (opt_instance meaning key barrier) y offer (One request) → ⊥)
        × Pushed meaning key barrier all others asked y left.after whole more

  pub hands_on : {old middle : Standing} (new : Standing) {offer request : List ℕ} {result : Result BatchAnswer Refusal} {y : History}
      (c : IsCallOnCourse Opt meaning old middle offer (One request) result) → is_long (One request) ≡ false
      → GoesOn meaning key barrier all others asked middle new → (items more : List Item)
      → StandsFor (opt_instance meaning key barrier) old y
      → old.items ≡ Some items → Ends y new items more → AreAsked all others asked (opt_instance meaning key barrier) y offer (One request)
      → Shown y offer request more → HandsOn y middle new offer request result more
  hands_on {old = old} {middle = middle} new {offer = offer} {request = request} {result = result} {y = y} c short on items more s known
      ends a shown_so =
      let i : Instance = opt_instance meaning key barrier in
      elim (unless_idle {A = (IsIdle i y offer (One request) → ⊥) × AreShown all others i y more} i y offer (One request)
      (λ busy. (busy, shown_so busy))) [
        | inl it ↦
            let h = hands meaning key barrier all others asked y old middle new offer request result items more c on s known ends a it.1 in
            record {
              left = after_left a h.left;
              closed = closed_same meaning key barrier y h.left.after (One request) h.left.alike;
              items = h.items;
              known = h.known;
              more = h.more;
              ends = h.ends;
              shown_are = λ _. h.shown_are;
              pushed = λ e. (it.0, h.pushed e);
            }
        | inr idle ↦
            let l = left_idle c s a short idle in
            let again = idle_again meaning key barrier y l.0.leaves.after offer (One request) l.1 idle in
            let moves : List Move = DigestMoves meaning key barrier all others asked old middle offer request result c y in
            let xs : List Item = items_after_moves i (digests_of i y) moves items in
            record {
              left = l.0.leaves;
              closed = ap (λ (x : History). x.closed) l.1;
              items = xs;
              known = (c.goes key barrier (digests_of i y) (stands_at i old y s)).items
                  ∙ ap (option_map (items_after_moves i (digests_of i y) moves)) known;
              more = more;
              ends = ends ∙ ap (λ (flag : Bool). Some (standing_items flag items ++ more)) idle.shut
                  ∙ ap (λ (flag : Bool). Some (standing_items flag xs ++ more)) (sym again.shut);
              shown_are = λ busy. absurd (busy again);
              pushed = λ e. let clash : true ≡ false = sym e ∙ again.shut in absurd (cc);
            }
      ]

module _ {meaning : Meaning} {old new : Standing} {offer request : List ℕ} {result : Result BatchAnswer Refusal}
    (call : OptAskPromise meaning old new offer (One request) result) where
  left : (key barrier : List ℕ) (y : History) (all others : List (List ℕ)) (asked : List Batch) (items more : List Item)
      → StandsFor (opt_instance meaning key barrier) old y → old.items ≡ Some items
      → new.items ≡ Some (standing_items y.is_open items ++ more)
      → AreAsked all others asked (opt_instance meaning key barrier) y offer (One request)
      → ((IsIdle (opt_instance meaning key barrier) y offer (One request) → ⊥)
      → AreShown all others (opt_instance meaning key barrier) y more)
      → Left all others asked (opt_instance meaning key barrier) y new offer (One request) result
  left key barrier y all others asked items more s known ends a shown_so =
      let i : Instance = opt_instance meaning key barrier in
      let b : Batch = One request in
      by_length call (λ (n : Standing) (r : Result BatchAnswer Refusal). n.items ≡ Some (standing_items y.is_open items ++ more)
      → Left all others asked i y n offer b r)
      (λ long _. left_long all others asked i long s a)
      (λ short c e. left_asked meaning key barrier all others asked c s a short
      (asked_for meaning key barrier all others asked y c.course offer b old new items more a shown_so known
      (c.goes key barrier (digests_of i y) (stands_at i old y s)).items e)) ends

  -- a call leaves the items in front; too long a batch leaves all as it was
  goes_on : (key barrier : List ℕ) (all others : List (List ℕ)) (asked : List Batch)
      → GoesOn meaning key barrier all others asked old new
  goes_on key barrier all others asked =
      by_length call (λ (n : Standing) (r : Result BatchAnswer Refusal). GoesOn meaning key barrier all others asked old n)
      (λ long d s f items known. ([], known ∙ ap (λ (xs : List Item). Some xs) (sym (append-nil items))))
      (λ short c. call_goes_on meaning key barrier all others asked old new offer request result c)

  -- one call
  pub asked_once : AsksOnce meaning old new offer request result
  asked_once key barrier y all others asked items more s known ends a shown_so =
      ends_once old a result call.faults (left key barrier y all others asked items more s known ends a shown_so)

-- a call that is made again after a device's fault
pub asked_after_fault : {meaning : Meaning} {old middle new : Standing} {offer request : List ℕ} {first : Refusal} {fault : StepFault}
    {result : Result BatchAnswer Refusal} → first ≡ Device fault → OptAskPromise meaning old middle offer (One request) (Err first)
    → OptAskPromise meaning middle new offer (One request) result → AsksOnce meaning old new offer request result
asked_after_fault {meaning = meaning} {old = old} {middle = middle} {new = new} {first = first} {result = result} is before call key barrier
    y all others asked items more s known ends a shown_so =
    let short = not_long before (λ (e : Err first ≡ Err Long). cc) in
    let h = hands_on meaning key barrier all others asked new (before.goes short) short (goes_on call key barrier all others asked) items
    more s known ends a shown_so in
    let x = h.left in
    ends_again old a result (subst (λ (w : Refusal). CountsHandedFault (fault_of w) old.faults middle.faults) is before.faults)
    call.faults x
    (left call key barrier x.after all others asked h.items h.more x.stands h.known h.ends
    (asked_on all others asked (opt_instance meaning key barrier) x.within x.names a) h.shown_are)

-- a welcome offer is accepted

accepts : (again : Bool) → IsAccepted (verdict_of again)
accepts true = tt
accepts false = tt

pub asked_welcome : {meaning : Meaning} {old new : Standing} {offer request : List ℕ} {result : Result BatchAnswer Refusal}
    → OptAskPromise meaning old new offer (One request) result → AsksWelcome meaning old new offer request result
asked_welcome {request = request} call key barrier y all others asked items more s known ends a again short alone shown_so w =
    let verdict = verdict_is Opt y w.content.position (One request) again w.live w.offered in
    call.complete short key barrier y all others asked items more w.content s known ends alone a
    (λ busy. shown_so (λ k. busy (k.0, verdict ∙ ap verdict_of k.1))) w.right
    (subst (λ (v : Verdict). IsAccepted v) (sym verdict) (accepts again)) w.fits

-- two calls, the second on the snapshot of the first answer
pub refused_first : {meaning : Meaning} {old new : Standing} {offer first : List ℕ} {why : Refusal} (second : List ℕ)
    → OptAskPromise meaning old new offer (One first) (Err why) → AsksTwice meaning old new offer first second (Err why)
refused_first second call key barrier y all others asked items more s known ends a n shown_so =
    in_first (asked_once call key barrier y all others asked items more s known ends a (λ busy. shown_so))

-- the messages of the second offer
next_listed : (meaning : Meaning) (key barrier : List ℕ) (all : List (List ℕ)) (asked : List Batch) (y after : History)
    (first second : Batch) → AreAskedNext all asked (opt_instance meaning key barrier) y first second
    → Alike meaning key barrier y first after
    → AreMessagesIn (offer_messages (opt_instance meaning key barrier) (content_of_issue (opt_instance meaning key barrier) after).place
    second) all
next_listed meaning key barrier all asked y after first second n (still e) =
    subst (λ (x : Content). AreMessagesIn (offer_messages (opt_instance meaning key barrier) x.place second) all)
    (sym (issued_alike meaning key barrier after y e)) n.after_repeat
next_listed meaning key barrier all asked y after first second n (grown_by e) =
    subst (λ (x : Content). AreMessagesIn (offer_messages (opt_instance meaning key barrier) x.place second) all)
    (sym (issued_alike meaning key barrier after (history_after (opt_instance meaning key barrier) y (Commit first)) e)) n.after_new

pub asked_twice : {meaning : Meaning} {old middle new : Standing} {offer next first second : List ℕ} {one : BatchAnswer}
    {result : Result BatchAnswer Refusal} → IsLawful meaning → OptAskPromise meaning old middle offer (One first) (Ok one)
    → next ≡ one.snapshot → OptAskPromise meaning middle new next (One second) result → AsksTwice meaning old new offer first second result
asked_twice {meaning = meaning} {old = old} {middle = middle} {new = new} {offer = offer} {first = first} {second = second} {one = one}
    {result = result} lawful before e call key barrier y all others asked items more s known ends a n shown_so =
    let h = hands meaning key barrier all others asked y old middle new offer first (Ok one) items more (answered before)
    (goes_on call key barrier all others asked) s known ends a shown_so in
    let l = h.left in
    let so = asked_next old a l.within l.comes before.fits e (opt_content meaning lawful key barrier l.after)
    (opt_issued meaning key barrier l.after l.within.sound (l.clean one refl)) n.is_asked
    (next_listed meaning key barrier all asked y l.after (One first) (One second) n l.alike) in
    ends_next old a result before.faults call.faults e (after_left meaning key barrier all others asked a l) so.0
    (left call key barrier l.after all others asked h.items h.more l.stands h.known h.ends so.1 (λ busy. h.shown_are))

-- Opt: a call that nothing disturbs answers a welcome offer, or lacks memory.

-- the course of a call that nothing disturbs
abbrev still_fates : ℕ → StepFate
still_fates n = record { brings = []; ends = Done }

abbrev still_course : Bool → Course
still_course lacks = record { fates = still_fates; lacks = lacks }

module _ (meaning : Meaning) (key barrier : List ℕ) where
  abbrev I : Instance
  I = opt_instance meaning key barrier

  -- what counts of its moves: the extension by the batch alone
  abbrev CountsAlone : List (List ℕ) → History → Batch → Bool → Bool → Type 0
  CountsAlone all y b flag fresh =
      let moves = counted_moves flag (walk still_fates 1 (ask_steps Opt flag fresh b)).moves in
      AreMessagesIn (messages_of_moves I (counted_part y) moves) all × (foreign_move_values moves ≡ [])

  counts_alone : (all : List (List ℕ)) (y : History) (b : Batch) (flag fresh : Bool)
      → Contains all (extended_message (register_value_of I (counted_part (record y { is_open = flag }))) (guard barrier b))
      → CountsAlone all (record y { is_open = flag }) b flag fresh
  counts_alone all y b true true c = ((c, tt), refl)
  counts_alone all y b false true c = ((c, tt), refl)
  counts_alone all y b _ _ c = (tt, refl)

  asked_alone : (all others : List (List ℕ)) (asked : List Batch) (y : History) (offer : List ℕ) (b : Batch) (lacks : Bool)
      → AreAsked all others asked I y offer b → Contains all (extended_message (register_value_of I (counted_part y)) (guard barrier b))
      → IsAsked all others asked I y (call_outcome I (digest_level I) (digests_of I y) (still_course lacks) offer b).moves offer b
  asked_alone all others asked y offer b lacks a c =
      let d : Digests = digests_of I y in
      let fresh : Bool = is_fresh (finding_unless_wanting (finding_at I (digest_level I) d b offer) lacks) in
      let moves : List Move = (walk still_fates 1 (ask_steps Opt y.is_open fresh b)).moves in
      let k = counts_alone all y b y.is_open fresh c in
      asked_by I all others asked y moves offer b a k.0 (rw k.1 tt)

  answers_or_lacks : (lacks : Bool) (all others : List (List ℕ)) (asked : List Batch) (y : History) (new : Standing) (offer : List ℕ)
      (b : Batch) (again : Bool) (result : Result BatchAnswer Refusal) → IsWelcome I y offer b again
      → CallContinues all others asked I (call_outcome I (list_level I) y (still_course lacks) offer b) new result
      → AnswersOrLacks I y new b again result
  answers_or_lacks false all others asked y new offer b again result w k =
      let o : CallOutcome History = call_outcome I (list_level I) y (still_course false) offer b in
      let a = complete I y (still_course false) offer b again (record { done = λ n. refl; lacks = refl }) w in
      subst (AnswersOrLacks I y new b again) (sym (k.gives ∙ ap result_of_ending a.ending))
      (record { after = o.state; stands = k.stands; batches_are = a.batches; answer_is = refl })
  answers_or_lacks true all others asked y new offer b again result w k =
      let same : call_outcome I (list_level I) y (still_course true) offer b ≡ call_outcome_with I (list_level I) y y
      (still_course true) b (Err Memory) =
      simp (welcome_found I y offer b again w) in
      subst (AnswersOrLacks I y new b again) (sym (k.gives ∙ ap (λ (o : CallOutcome History). result_of_ending o.ending) same))
      (refl, subst (λ (o : CallOutcome History). StandsFor I new o.state) same k.stands)

-- the course by a quiet plan
course_is : (c : Course) → ((n : ℕ) → c.fates n ≡ still_fates n) → c ≡ still_course c.lacks
course_is c told_so = λ j. record { fates = λ n. told_so n j; lacks = c.lacks }

pub asked_quietly : {meaning : Meaning} {old new : Standing} {offer request : List ℕ} {result : Result BatchAnswer Refusal}
    → OptAskPromise meaning old new offer (One request) result → AsksByQuietPlan meaning old new offer request result
asked_quietly {meaning = meaning} {new = new} {offer = offer} {request = request} {result = result} call on plan key barrier y all others
    asked again short s a m w =
    let i : Instance = opt_instance meaning key barrier in
    let b : Batch = One request in
    let c = call.goes short in
    let is : c.course ≡ still_course c.course.lacks = course_is c.course (c.tells quiet_plan on plan refl) in
    let goes = subst (λ (q : Course). IsAsked all others asked i y (call_outcome i (digest_level i) (digests_of i y) q offer b).moves offer
    b
    → CallContinues all others asked i (call_outcome i (list_level i) y q offer b) new result) is
    (c.continues key barrier y all others asked s) in
    answers_or_lacks meaning key barrier c.course.lacks all others asked y new offer b again result w
    (goes (asked_alone meaning key barrier all others asked y offer b c.course.lacks a m))

pub asked_in_memory : (meaning : Meaning) {old middle : Standing} (new : Standing) (offer request : List ℕ)
    (result : Result BatchAnswer Refusal) → middle ≡ record old { plan = Some quiet_plan }
    → AsksByQuietPlan meaning middle new offer request result
    → AsksInMemory meaning old new offer request result
asked_in_memory meaning {old = old} new offer request result e complete on key barrier y all others asked again short s a m w =
    let ended : Standing = record old { plan = Some quiet_plan } in
    complete (ap (λ (x : Standing). x.is_on) e ∙ on) (ap (λ (x : Standing). x.plan) e) key barrier y all others asked again short
    (subst (λ (x : Standing). StandsFor (opt_instance meaning key barrier) x y) (sym e)
    (record { spells = s.spells; cell = s.cell; register = s.register })) a m w

-- a first call by a quiet plan doesn't end by a device's fault
pub asked_faultless : {meaning : Meaning} {old middle : Standing} {offer request : List ℕ} {why : Refusal} {fault : StepFault}
    (new : Standing) (result : Result BatchAnswer Refusal) → why ≡ Device fault
    → OptAskPromise meaning old middle offer (One request) (Err why)
    → AsksByQuietPlan meaning old new offer request result
asked_faultless {fault = fault} new result is first on plan key barrier y all others asked again short s a m w =
    let t = asked_quietly first on plan key barrier y all others asked again short s a m w in
    let clash : Device fault ≡ Memory = sym is ∙ t.0 in
    absurd (cc)
