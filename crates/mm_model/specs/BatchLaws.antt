-- Batches: their tests, and counts of requests that tell how far a list of batches goes. With it:
-- Basic: the verdict by digests is the verdict on the history.
use Rattle.std.specs.Bool.{Decides}
use Rattle.std.specs.List.{Contains}
use Rattle.std.specs.Prelude.{nat_eq}
use Rattle.std.specs.Str.{bytes_eq}
use Rattle.std.proofs.Common.{◌≡◌, ◌+◌, ◌&&◌, ◌++◌, refl, sym, ap, ◌∙◌, arith, length-append, Bool, true, false, List, [], ◌∷◌, ℕ}
use Rattle.std.proofs.lemmas.Bool.{and_parts, and_from}
use Rattle.std.proofs.lemmas.Bool.Decides.{Decides-eqb, same_from_decides}
use Rattle.std.proofs.lemmas.Grind.{flat_map-append}
use Rattle.std.proofs.lemmas.List.{append-nil}
use Rattle.std.proofs.lemmas.Slice.Eq.{bytes_eq-Decides}
use Rattle.mm_model.specs.Below.{Batch, One, Many, members_of, size_of, size_of-pos, zero_bytes, start_message, start_digest_of, Digest}
use Rattle.mm_model.specs.Below.{Basic, Content, Place, InBasic, InOpt, Meaning}
use Rattle.mm_model.specs.Chains.{trail, link_message, link, summary_of, basic_instance}
use Rattle.mm_model.specs.History.{requests_of, total_of, History, cell_digest_of}
use Rattle.mm_model.specs.ListLaws.{trail_front, trail_push, bytes_decide, same_summaries, summary-push}
use Rattle.mm_model.specs.Messages.{AreMessagesIn, IsClear, IsClearFor}
use Rattle.mm_model.specs.Standing.{is_same_batch, Live, IsPlaceOf, NamesPosition}
use Rattle.mm_model.specs.Verdicts.{is_last, verdict_by_tests, verdict_on, verdict_by, basic_verdict, verdict_by_digests}

-- two tests that hold together are one
pub same_tests : (a b : Bool) → (a ≡ true → b ≡ true) → (b ≡ true → a ≡ true) → a ≡ b
same_tests true b f g = sym (f refl)
same_tests false true f g = g refl
same_tests false false f g = refl

pub not_both : (b : Bool) → b ≡ true → b ≡ false → ⊥
not_both b t f = cc

pub is_same_batch-Decides : (b c : Batch) → Decides (is_same_batch b c) (b ≡ c)
is_same_batch-Decides (One r) (One s) = (λ e. ap One ((bytes_eq-Decides r s).0 e), λ e. (bytes_eq-Decides r s).1 (cc))
is_same_batch-Decides (One r) (Many t) = (λ e. absurd (not_both false e refl), λ e. absurd (cc))
is_same_batch-Decides (Many t) (One r) = (λ e. absurd (not_both false e refl), λ e. absurd (cc))
is_same_batch-Decides (Many t) (Many u) = (λ e. ap Many ((bytes_eq-Decides t u).0 e), λ e. (bytes_eq-Decides t u).1 (cc))

pub record HasLastBatch (batches : List Batch) (b : Batch) : Type 0 where
  pub front : List Batch
  pub is : batches ≡ front ++ b ∷ []

pub is_last_tells : (batches : List Batch) (b : Batch) → is_last batches b ≡ true → HasLastBatch batches b
is_last_tells [] b e = absurd (not_both false e refl)
is_last_tells (c ∷ []) b e = record { front = []; is = ap (λ x. x ∷ []) ((is_same_batch-Decides c b).0 e) }
is_last_tells (c ∷ d ∷ batches) b e = let h = is_last_tells (d ∷ batches) b e in record { front = c ∷ h.front; is = ap (λ xs. c ∷ xs) h.is }

pub is_last_of : (front : List Batch) (b : Batch) → is_last (front ++ b ∷ []) b ≡ true
is_last_of [] b = (is_same_batch-Decides b b).1 refl
is_last_of (c ∷ []) b = (is_same_batch-Decides b b).1 refl
is_last_of (c ∷ d ∷ front) b = is_last_of (d ∷ front) b

pub total-cons : (b : Batch) (bs : List Batch) → total_of (b ∷ bs) ≡ size_of b + total_of bs
total-cons b bs = length-append (members_of b) (requests_of bs)

pub total-append : (bs cs : List Batch) → total_of (bs ++ cs) ≡ total_of bs + total_of cs
total-append [] cs = omega arith
total-append (b ∷ bs) cs =
    let whole = total-cons b (bs ++ cs) in
    let part = total-cons b bs in
    let rest = total-append bs cs in
    omega (arith, whole, part, rest)

pub total-push : (bs : List Batch) (b : Batch) → total_of (bs ++ b ∷ []) ≡ total_of bs + size_of b
total-push bs b = omega (arith, total-append bs (b ∷ []), total-cons b [])

pub requests-push : (bs : List Batch) (b : Batch) → requests_of (bs ++ b ∷ []) ≡ requests_of bs ++ members_of b
requests-push bs b = flat_map-append members_of bs (b ∷ []) ∙ ap (λ v. requests_of bs ++ v) (append-nil (members_of b))

pub total-nil : (bs : List Batch) → total_of bs ≡ 0 → bs ≡ []
total-nil [] e = refl
total-nil (b ∷ bs) e = absurd (omega (arith, total-cons b bs, size_of-pos b))

-- two first parts of one list that count the same are one
pub same_fronts : (bs cs ds es : List Batch) → bs ++ ds ≡ cs ++ es → total_of bs ≡ total_of cs → bs ≡ cs
same_fronts [] cs ds es e t = sym (total-nil cs (sym t))
same_fronts (b ∷ bs) [] ds es e t = total-nil (b ∷ bs) t
same_fronts (b ∷ bs) (c ∷ cs) ds es e t =
    let heads : b ≡ c = cc in
    let tails : bs ++ ds ≡ cs ++ es = cc in
    let sizes : size_of b ≡ size_of c = ap size_of heads in
    let shorter : total_of bs ≡ total_of cs = omega (arith, t, total-cons b bs, total-cons c cs, sizes) in
    let rest : bs ≡ cs = same_fronts bs cs ds es tails shorter in
    cc

module _ (batches named : List Batch) where
  -- the first part of a list counts as the whole exactly where it is the whole
  pub at_the_end : (rest : List Batch) → batches ≡ named ++ rest → Decides (nat_eq (total_of named) (total_of batches)) (named ≡ batches)
  at_the_end rest e =
      let test = Decides-eqb (total_of named) (total_of batches) in
      (λ t. same_fronts named batches rest [] (sym e ∙ sym (append-nil batches)) (test.0 t), λ s. test.1 (ap total_of s))

  -- the first part, and then b, count as the whole and b is the last, exactly where they are the whole
  pub before_the_last : (rest : List Batch) (b : Batch) → batches ≡ named ++ rest
      → Decides (nat_eq (total_of named + size_of b) (total_of batches) && is_last batches b) (named ++ b ∷ [] ≡ batches)
  before_the_last rest b e = (
    λ t.
        let both = and_parts (nat_eq (total_of named + size_of b) (total_of batches)) (is_last batches b) t in
        let counts = (Decides-eqb (total_of named + size_of b) (total_of batches)).0 both.0 in
        let h = is_last_tells batches b both.1 in
        let fronts : total_of named ≡ total_of h.front = omega (arith, counts, ap total_of h.is, total-push h.front b) in
        ap (λ (xs : List Batch). xs ++ b ∷ []) (same_fronts named h.front rest (b ∷ []) (sym e ∙ h.is) fronts) ∙ sym h.is,
    λ s.
        let counts = (Decides-eqb (total_of named + size_of b) (total_of batches)).1 (sym (total-push named b) ∙ ap total_of s) in
        and_from (nat_eq (total_of named + size_of b) (total_of batches)) (is_last batches b) counts (rw (← s) (is_last_of named b)),
  )

-- Basic: the verdict by digests is the verdict on the history.

pub verdicts : (x y : Bool) → verdict_by false x y ≡ verdict_by_tests Live x y
verdicts false true = refl
verdicts _ _ = refl

module _ (id : ℕ) where
  -- the summary of the first batches is that of all of them exactly where they count as many requests
  pub basic_here : (batches named rest : List Batch) (all : List (List ℕ)) → IsClear all → Contains all (start_message Basic id)
      → AreMessagesIn (trail link_message (start_digest_of Basic id) batches) all → batches ≡ named ++ rest
      → bytes_eq (summary_of id named) (summary_of id batches) ≡ nat_eq (total_of named) (total_of batches)
  basic_here batches named rest all clear starts listed e =
      let wn : AreMessagesIn (trail link_message (start_digest_of Basic id) named) all =
      trail_front link_message (start_digest_of Basic id) named rest all
      (rw e at listed) in
      same_from_decides _ _ (bytes_decide _ _ (same_summaries id all clear starts named batches wn listed) (ap (summary_of id)))
      (at_the_end batches named rest e)

  -- the verdict by digests on the summary of the first batches
  basic_at : (batches named rest : List Batch) (b : Batch) (all : List (List ℕ)) → IsClear all → Contains all (start_message Basic id)
      → AreMessagesIn (trail link_message (start_digest_of Basic id) batches) all → Contains all (link_message (summary_of id named) b)
      → batches ≡ named ++ rest → basic_verdict (summary_of id batches) (summary_of id named) b ≡ verdict_by_tests Live
      (nat_eq (total_of named)
      (total_of batches)) (nat_eq (total_of named + size_of b) (total_of batches) && is_last batches b)
  unfolding summary_of
  basic_at batches named rest b all clear starts listed called e =
      let t = trail link_message (start_digest_of Basic id) in
      let wn : AreMessagesIn (trail link_message (start_digest_of Basic id) named) all =
      trail_front link_message (start_digest_of Basic id) named rest all
      (rw e at listed) in
      let wb : AreMessagesIn (trail link_message (start_digest_of Basic id) (named ++ b ∷ [])) all =
      trail_push link_message (start_digest_of Basic id) named b all wn called in
      let here = basic_here batches named rest all clear starts listed e in
      let again : bytes_eq (link (summary_of id named) b) (summary_of id batches) ≡ (nat_eq (total_of named + size_of b) (total_of batches)
      && is_last batches b) = same_from_decides _ _ (bytes_decide _ _ (λ h. same_summaries id all clear starts (named ++ b ∷ []) batches wb
      listed (summary-push id named b ∙ h)) (λ h. sym (summary-push id named b) ∙ ap (summary_of id) h))
      (before_the_last batches named rest b e) in
      rw (here, again) (verdicts (nat_eq (total_of named) (total_of batches)) (nat_eq (total_of named + size_of b) (total_of batches)
      && is_last batches b))

-- a place is the summary of the batches named
pub basic_stands : (meaning : Meaning) (key : List ℕ) (y : History) (named : List Batch) (place : Place)
    → IsPlaceOf Basic (basic_instance meaning key) y named place → (s : Digest) × (place ≡ InBasic s)
    × (s.bytes ≡ summary_of meaning.id named)
basic_stands meaning key y named (InBasic s) is = (s, refl, is)
basic_stands meaning key y named (InOpt a e) is = absurd is

pub basic_is_judged : (meaning : Meaning) (key register : List ℕ) (y : History) (offered : Content) (b : Batch) (all : List (List ℕ))
    → IsClearFor all (basic_instance meaning key) y offered.place b → NamesPosition (basic_instance meaning key) y offered
    → verdict_by_digests zero_bytes false (cell_digest_of (basic_instance meaning key) Basic y) register offered.place b
    ≡ verdict_on Basic y
    offered.position b
basic_is_judged meaning key register y offered b all clear names =
    let s = basic_stands meaning key y names.named offered.place names.place in
    let call = rw (s.1, s.2) at clear.call in
    rw (s.1, s.2, names.position)
    (basic_at meaning.id y.batches names.named names.rest b all clear.clear clear.history.0 clear.history.1 call.0 names.first)
