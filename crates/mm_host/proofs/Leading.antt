-- What the calls of a session lead to, in one form for both variants; how a history grows by a request; and the laws in Basic.
use Rattle.mm_host.proofs.Below.{◌≡◌, ℕ, ◌≤◌, true, false, List, [], ◌++◌, Some, Result, Ok, sym, ap, ◌∙◌, append_assoc, append-nil}
use Rattle.mm_host.proofs.Below.{last_position, Variant, Basic, Opt, Item, Standing, IsLawful, Batch, One, Content, IsClear, IsContent}
use Rattle.mm_host.proofs.Below.{Instance, History, Commit, first_history, history_after, total_of, has_value, Digests, NamesPosition}
use Rattle.mm_host.proofs.Below.{content_of_issue, StandsFor, BatchAnswer, Refusal, IsLedTo, IsCallOnCourse, AreAsked, AreShown, IsIdle}
use Rattle.mm_host.proofs.Below.{StandsAt, standing_items, bare, PendingRecord, Met, IsGrownBy, IsSame, AreNoGuards, ◌+◌, Bool, ◌∷◌, arith}
use Rattle.mm_host.proofs.Below.{Meaning, requests_of, Answer, answer_on, batch_answer_of, requests-push, said_last, IsBatchStep}
use Rattle.mm_host.proofs.Below.{CallsRunOver, answer_reply, ServedCall, refl, inl, inr, ◌⊎◌, if◌then◌else◌, nat_eq, nat_tests}
use Rattle.mm_host.proofs.Below.{history_after_commit, Answered, first_served_call, IsAwaited, one_more, ◌≢◌, ◌||◌, AllByRecursion}
use Rattle.mm_host.proofs.Below.{Contains, RegisterEntry, Own, Value, Spoiled, is_empty, are_own, life_by, life_of, counted_entries}
use Rattle.mm_host.proofs.Below.{values_in, IsOutside, AreItems, has_value-append, InBasic, InOpt, summary_of, basic_instance, IsPlaceOf}
use Rattle.mm_host.proofs.Below.{digest_of, total-nil, basic_met, basic_content}
use Rattle.mm_model.specs.History.{items_of_all}
use Rattle.mm_host.proofs.Below.{◌-◌, length, length-append}
use Rattle.mm_schedule.specs.Replies.{IsTold}
use Rattle.mm_seal.specs.declared.snapshot.Place.{Place}

-- What the register shows at the very end, behind the items that count where the platform stands for a history.
pub record ShowsAt (all others : List (List ℕ)) (i : Instance) (y : History) (standing final : Standing) : Type 0 where
  pub items : List Item
  pub known : standing.items ≡ Some items
  pub more : List Item
  pub ends : final.items ≡ Some (standing_items y.is_open items ++ more)
  pub shown_are : AreShown all others i y more

abbrev pub Shows : Variant → List (List ℕ) → List (List ℕ) → Instance → History → Standing → Standing → Type 0
Shows Basic all others i y standing final = Unit {0}
Shows Opt all others i y standing final = ShowsAt all others i y standing final

-- From a set flag all that the register had shown stays in front, and the flag stays set.
pub record Stays (i : Instance) (new : Standing) (items : List Item) : Type 0 where
  pub digests : Digests
  pub stands : StandsAt i new digests
  pub flag : digests.flag ≡ true
  pub more : List Item
  pub shows : new.items ≡ Some (items ++ more)

abbrev pub Reaches : Variant → Instance → Standing → Standing → Type 0
Reaches Basic i old new = Unit {0}
Reaches Opt i old new = (d : Digests) → StandsAt i old d → d.flag ≡ true → (items : List Item) → old.items ≡ Some items → Stays i new items

pub reach_same : (variant : Variant) (i : Instance) (old new : Standing) → new ≡ old → Reaches variant i old new
reach_same Basic i old new e = tt
reach_same Opt i old new e = λ d s f items known. record {
  digests = d;
  stands = rw e s;
  flag = f;
  more = [];
  shows = ap (λ (x : Standing). x.items) e ∙ known ∙ ap (λ (xs : List Item). Some xs) (sym (append-nil items));
}

pub reach_then : (variant : Variant) (i : Instance) (old middle new : Standing) → Reaches variant i old middle
    → Reaches variant i middle new → Reaches variant i old new
reach_then Basic i old middle new a b = tt
reach_then Opt i old middle new a b = λ d s f items known.
    let x = a d s f items known in
    let y = b x.digests x.stands x.flag (items ++ x.more) x.shows in
    record {
      digests = y.digests;
      stands = y.stands;
      flag = y.flag;
      more = x.more ++ y.more;
      shows = y.shows ∙ ap (λ (xs : List Item). Some xs) (append_assoc items x.more y.more);
    }

-- The second is the first but for others' values, where the first may be gone on with.
abbrev pub IsLike : Variant → History → History → Type 0
IsLike Basic y z = y.batches ≡ z.batches
IsLike Opt y z = has_value (items_of_all y.closed) ≡ false → bare y ≡ bare z

-- A call for a request, from a history that the platform stands for and that holds what is asked.
pub record Makes (all others : List (List ℕ)) (asked : List Batch) (i : Instance) (y : History) (old new : Standing) (offer : List ℕ)
    (p : PendingRecord) (gives : Result BatchAnswer Refusal) : Type 0 where
  pub goes : IsCallOnCourse i.variant i.meaning old new offer (One p.request) gives
  pub stands : StandsFor i old y
  pub asks : AreAsked all others asked i y offer (One p.request)

-- What a session takes from its variant, where `final` is what stands when it is over.
pub record Laws (all others : List (List ℕ)) (asked : List Batch) (i : Instance) (final : Standing) : Type 0 where
  pub lawful : IsLawful i.meaning
  pub clear : IsClear all
  pub apart : AreNoGuards i.barrier others asked
  -- a call, whatever is offered: one that was answered, with others behind it; and the last one
  pub met : (y : History) (old middle : Standing) (offer : List ℕ) (p : PendingRecord) (answer : BatchAnswer)
      → Makes all others asked i y old middle offer p (Ok answer) → Shows i.variant all others i y old final
      → Reaches i.variant i middle final
      → (o : Met all others asked i y middle offer p (Ok answer)) × Shows i.variant all others i o.after middle final
  pub met_last : (y : History) (old : Standing) (offer : List ℕ) (p : PendingRecord) (gives : Result BatchAnswer Refusal)
      → Makes all others asked i y old final offer p gives → Shows i.variant all others i y old final
      → Met all others asked i y final offer p gives
  -- one that minds no register
  pub idle : (y : History) (old middle : Standing) (offer : List ℕ) (p : PendingRecord) (gives : Result BatchAnswer Refusal)
      → Makes all others asked i y old middle offer p gives → IsIdle i y offer (One p.request)
      → Met all others asked i y middle offer p gives
  pub reach : (old new : Standing) (offer request : List ℕ) (gives : Result BatchAnswer Refusal)
      → IsCallOnCourse i.variant i.meaning old new offer (One request) gives → Reaches i.variant i old new
  -- what histories issue that are the same, and how they grow
  pub formed : (y : History) → total_of y.batches ≤ last_position → IsContent (content_of_issue i y)
  pub issue : (y z : History) → IsSame i.variant y z → content_of_issue i y ≡ content_of_issue i z
  pub batches : (y z : History) → IsSame i.variant y z → y.batches ≡ z.batches
  pub like : (y z : History) → IsSame i.variant y z → IsLike i.variant y z
  pub grow : (y z after : History) (b : Batch) → IsLedTo i.variant after → IsLike i.variant y z
      → IsSame i.variant after (history_after i y (Commit b)) → IsSame i.variant after (history_after i z (Commit b))
  -- where nothing is committed
  pub begins : (y : History) → IsLedTo i.variant y → y.batches ≡ [] → IsLike i.variant y first_history
  pub placed : (y : History) (content : Content) → IsLedTo i.variant y → NamesPosition i y content → content.position ≡ 0
      → content.place ≡ (content_of_issue i first_history).place

-- A call for a request, where what others do is known to the very end, or the call minds no register and only this is asked behind it.
module _ {all others : List (List ℕ)} {asked : List Batch} {i : Instance} {final : Standing} (laws : Laws all others asked i final)
    {Rest : Type 0} (y : History) (old : Standing) (offer : List ℕ) (p : PendingRecord)
    (may : Shows i.variant all others i y old final ⊎ (IsIdle i y offer (One p.request) × Rest)) where
  pub met_on : (middle : Standing) (answer : BatchAnswer) → Makes all others asked i y old middle offer p (Ok answer)
      → Reaches i.variant i middle final
      → (m : Met all others asked i y middle offer p (Ok answer)) × (Shows i.variant all others i m.after middle final ⊎ Rest)
  met_on middle answer m reaches = elim may [
    | inl shows ↦ let o = laws.met y old middle offer p answer m shows reaches in (o.0, inl o.1)
    | inr idle ↦ (laws.idle y old middle offer p (Ok answer) m idle.0, inr idle.1)
  ]

  pub met_end : (gives : Result BatchAnswer Refusal) → Makes all others asked i y old final offer p gives
      → Met all others asked i y final offer p gives
  met_end gives m = elim may [
    | inl shows ↦ laws.met_last y old offer p gives m shows
    | inr idle ↦ laws.idle y old final offer p gives m idle.0
  ]

-- An answer by lists is a step of the machine.

told_at : (i : Instance) (after : History) (front : List Batch) (request : List ℕ) (answer : Answer) (again : Bool)
    → batch_answer_of answer ≡ answer_on i after (One request) again → after.batches ≡ front ++ One request ∷ []
    → IsTold i.meaning (requests_of front) (One request) (answer.position - 1) (answer.output ∷ []) (requests_of after.batches)
told_at i after front request answer again e more =
    let grown = ap requests_of more ∙ requests-push front (One request) in
    let all = ap length grown ∙ length-append (requests_of front) (request ∷ []) in record {
      counted = omega (arith, ap (λ (a : BatchAnswer). a.position) e, all);
      said = ap (λ (a : BatchAnswer). a.outputs) e ∙ said_last i.meaning after.batches front (One request) more;
      grown = grown;
    }

pub steps_fresh : (i : Instance) (y after : History) (request : List ℕ) (answer : Answer)
    → batch_answer_of answer ≡ answer_on i after (One request) false → after.batches ≡ y.batches ++ One request ∷ []
    → IsBatchStep i.meaning (requests_of y.batches) (One request) (answer_reply answer) (requests_of after.batches)
steps_fresh i y after request answer e more =
    rw (ap (λ (a : BatchAnswer). a.again) e) (told_at i after y.batches request answer false e more)

pub steps_again : (i : Instance) (y after : History) (front : List Batch) (request : List ℕ) (answer : Answer)
    → batch_answer_of answer ≡ answer_on i after (One request) true → after.batches ≡ y.batches → front ++ One request ∷ [] ≡ y.batches
    → IsBatchStep i.meaning (requests_of y.batches) (One request) (answer_reply answer) (requests_of after.batches)
steps_again i y after front request answer e same ends = rw (ap (λ (a : BatchAnswer). a.again) e) (
  requests_of front,
  rw same at (told_at i after front request answer true e (same ∙ sym ends)),
  ap requests_of same,
)

pub CallsRunOver-append : (meaning : Meaning) (first middle last : List (List ℕ)) (calls more : List ServedCall)
    → CallsRunOver meaning first calls middle → CallsRunOver meaning middle more last → CallsRunOver meaning first (calls ++ more) last
CallsRunOver-append meaning first middle last [] more r s = rw r at s
CallsRunOver-append meaning first middle last (c ∷ calls) more r s =
    (r.0, r.1, CallsRunOver-append meaning r.0 middle last calls more r.2 s)

-- How a history grows by a request that is answered, and that its answer is a step of the module's run, or repeats the last one.

pub same_pending : (p q : PendingRecord) → Some p ≡ Some q → q ≡ p
same_pending p q e = cc

-- the answer to what waited
pub answered_first : (i : Instance) (y after : History) (p : PendingRecord) (answer : Answer) → IsAwaited y p
    → p.position ≡ total_of after.batches
    → batch_answer_of answer ≡ answer_on i after (One p.request) (nat_eq p.position (total_of y.batches))
    → (after.batches ≡ y.batches) ⊎ (after.batches ≡ y.batches ++ One p.request ∷ [])
    → CallsRunOver i.meaning (requests_of y.batches) (first_served_call (Some p) (Answered answer)) (requests_of after.batches)
answered_first i y after p answer (inl next) at is (inl same) = absurd (omega (arith, next, at, ap total_of same))
answered_first i y after p answer (inr last) at is (inl same) =
    let flag : nat_eq p.position (total_of y.batches) ≡ true = grind (arith, nat_tests, last.0) in (
      requests_of after.batches,
      steps_again i y after last.1.front p.request answer (is ∙ ap (λ (b : Bool). answer_on i after (One p.request) b) flag) same last.1.is,
      refl,
    )
answered_first i y after p answer w at is (inr more) =
    let flag : nat_eq p.position (total_of y.batches) ≡ false =
    grind (arith, nat_tests, at, ap total_of more, one_more y.batches p.request) in (
      requests_of after.batches,
      steps_fresh i y after p.request answer (is ∙ ap (λ (b : Bool). answer_on i after (One p.request) b) flag) more,
      refl,
    )

-- what a batch adds to the batches
pub push_batches : (variant : Variant) (flag : Bool) (y : History) (b : Batch) → (history_after_commit variant flag y b).batches ≡ y.batches
    ++ b ∷ []
push_batches Basic flag y b = refl
push_batches Opt true y b = refl
push_batches Opt false y b = refl

pub same_self : (variant : Variant) (y : History) → IsSame variant y y
same_self Basic y = refl
same_self Opt y = refl

module _ {all others : List (List ℕ)} {asked : List Batch} {i : Instance} {final : Standing} (laws : Laws all others asked i final) where
  -- a history that grew by the request is the one that commits it
  pub grown_more : (y z after : History) (p : PendingRecord) → IsLedTo i.variant after → IsLike i.variant y z
      → total_of after.batches ≡ total_of y.batches + 1 → IsGrownBy i y (Some p) after
      → IsSame i.variant after (history_after i z (Commit (One p.request)))
  grown_more y z after p led like total (inl same) = absurd (omega (arith, total, ap total_of (laws.batches after y same)))
  grown_more y z after p led like total (inr g) =
      laws.grow y z after (One p.request) led like
      (rw (same_pending p g.0 g.1) at g.2)

-- Where no value of others counts, a history isn't spoiled.

no_values : (entries : List RegisterEntry) → AllByRecursion (Contains []) (values_in entries) → has_value entries ≡ false
no_values [] h = refl
no_values (Own b ∷ entries) h = no_values entries h
no_values (Value v ∷ entries) h = absurd (omega (arith, h.0.1))

neither : (a b : Bool) → (a || b) ≡ false → (a ≡ false) × (b ≡ false)
neither a b e = (grind (arith, e), grind (arith, e))

not_spoiled : (flag bare own marred : Bool) → marred ≡ false → (flag ≡ true → (own ≡ true) ⊎ (bare ≡ true))
    → life_by flag bare own marred ≢ Spoiled
not_spoiled flag bare own true m h = absurd (cc)
not_spoiled true true own false m h = λ e. cc
not_spoiled true false true false m h = λ e. cc
not_spoiled true false false false m h = λ e. elim (h refl) [ inl x ↦ cc | inr x ↦ cc ]
not_spoiled false bare own false m h = λ e. cc

own_or_bare : (y : History) → AreItems y.items y.current → has_value y.items ≡ false
    → (are_own y.items y.current ≡ true) ⊎ (is_empty y.items ≡ true)
own_or_bare y (inl own) none = inl own
own_or_bare y (inr (inl bare)) none = inr (ap is_empty bare)
own_or_bare y (inr (inr value)) none = let clash : true ≡ false = sym value ∙ none in absurd (cc)

pub unspoiled : (variant : Variant) (others : List (List ℕ)) (y : History) → IsLedTo variant y → IsOutside others y → others ≡ []
    → life_of variant y ≢ Spoiled
unspoiled Basic others y led outside e = λ same. cc
unspoiled Opt others y sound outside e =
    let none : has_value (counted_entries y) ≡ false = no_values (counted_entries y) (rw e at outside) in
    let both = neither _ _ (sym (has_value-append (items_of_all y.closed) (if y.is_open then y.items else [])) ∙ none) in
    not_spoiled y.is_open (is_empty y.items) (are_own y.items y.current) (has_value (items_of_all y.closed)) both.0
    (λ is. own_or_bare y (sound.register is) (ap (λ (f : Bool). has_value (if f then y.items else [])) (sym is) ∙ both.1))

-- What the calls of a session lead to in Basic.

basic_place : (meaning : Meaning) (key : List ℕ) (y : History) (named : List Batch) (place : Place)
    → IsPlaceOf Basic (basic_instance meaning key) y named place → named ≡ []
    → place ≡ (content_of_issue (basic_instance meaning key) first_history).place
basic_place meaning key y named (InBasic s) p e = ap (λ (bytes : List ℕ). InBasic (digest_of bytes)) (p ∙ ap (summary_of meaning.id) e)
basic_place meaning key y named (InOpt a b) p e = absurd p

pub names_none : (i : Instance) (y : History) (content : Content) (n : NamesPosition i y content) → content.position ≡ 0 → n.named ≡ []
names_none i y content n e = total-nil n.named (sym n.position ∙ e)

pub basic_laws : (meaning : Meaning) → IsLawful meaning → (key : List ℕ) (all others : List (List ℕ)) (asked : List Batch)
    (final : Standing)
    → IsClear all → AreNoGuards (basic_instance meaning key).barrier others asked → Laws all others asked (basic_instance meaning key) final
basic_laws meaning lawful key all others asked final clear apart =
    let made = λ (y : History) (old new : Standing) (offer : List ℕ) (p : PendingRecord) (gives : Result BatchAnswer Refusal)
    (m : Makes all others asked (basic_instance meaning key) y old new offer p gives).
    basic_met meaning lawful key all others asked y old new offer p gives m.goes m.stands m.asks in
    record {
      lawful = lawful;
      clear = clear;
      apart = apart;
      met = λ y old middle offer p answer m shows reaches. (made y old middle offer p (Ok answer) m, tt);
      met_last = λ y old offer p gives m shows. made y old final offer p gives m;
      idle = λ y old middle offer p gives m idle. made y old middle offer p gives m;
      reach = λ old new offer request gives c. tt;
      formed = λ y most. basic_content meaning lawful key y most;
      issue = λ y z e. ap (λ (bs : List Batch). content_of_issue (basic_instance meaning key) (record first_history { batches = bs })) e;
      batches = λ y z e. e;
      like = λ y z e. e;
      grow = λ y z after b led l e. e ∙ ap (λ (bs : List Batch). bs ++ b ∷ []) l;
      begins = λ y led e. e;
      placed = λ y content led n e. basic_place meaning key y n.named content.place n.place
          (names_none (basic_instance meaning key) y content n e);
    }
