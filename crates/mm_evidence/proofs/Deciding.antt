-- A run meets the premises or gives evidence, and never both. With it: what a search of lists
-- finds, or that there is none.
use Rattle.mm_outcome.proofs.Above.{said_of}
use Rattle.mm_evidence.proofs.Below.{◌≡◌, ◌∙◌, ◌⊎◌, ap, Bool, true, false, List, inl, inr, refl, both_ways, Contains, list_any}
use Rattle.mm_evidence.proofs.Below.{Any-from_list_any, list_any_at, IsClear, ◌≢◌, ◌&&◌, ◌++◌, ◌∷◌, [], ℕ, Option, None, Some, sym, subst}
use Rattle.mm_evidence.proofs.Below.{not, Decides, Decides-and, Decides-not, bytes_eq, bytes_eq-Decides, sha256, zero_bytes, Variant, Basic}
use Rattle.mm_evidence.proofs.Below.{Opt, parts_of, Content, Batch, Meaning, guard, first_history, History, Instance, AreNoGuards}
use Rattle.mm_evidence.proofs.Below.{NamesPosition, IsGenuine, IsRight, right_content, list_level, one_content, right_of, instance_by, Ask}
use Rattle.mm_evidence.proofs.Below.{Checkpoint, Event, Extend, Power, is_named, IsDecided, BasicNamesAreDecided, OptNamesAreDecided}
use Rattle.mm_evidence.proofs.Below.{event_outcome, outcome_by_lists, first_snapshots, outcome_of_events, RunOutcome, AreApartIn}
use Rattle.mm_evidence.proofs.Below.{AreGenuine, asked_batches, foreign_values, IsClearRun, IsGenuineEvent, IsGenuineOffer, IsGenuineRun}
use Rattle.mm_evidence.proofs.Below.{run_messages, clash, collision, forgery, guarded, HasClash, HasEvidence, IsForged, offered_bytes}
use Rattle.mm_evidence.proofs.Below.{zero_digest, IsDecidedRun}

-- What a search of lists finds, or that there is none.

pub any_in : {A : Type 0} (p : A → Bool) (xs : List A) (x : A) → Contains xs x → p x ≡ true → list_any p xs ≡ true
any_in p xs x h e = list_any_at p xs h.0 x h.1 (ap p h.2 ∙ e)

pub any_some : {A : Type 0} (p : A → Bool) (xs : List A) → list_any p xs ≡ true → (x : A) × Contains xs x × (p x ≡ true)
any_some p xs h = let f = Any-from_list_any p xs h in (f.1, (f.0, f.2, f.3), f.4)

pub either : (b : Bool) → (b ≡ true) ⊎ (b ≡ false)
either true = inl refl
either false = inr refl

-- an element passes, or none does
pub found_or_none : {A : Type 0} (p : A → Bool) (xs : List A)
    → ((x : A) × Contains xs x × (p x ≡ true)) ⊎ ((x : A) → Contains xs x → p x ≡ true → ⊥)
found_or_none p xs = elim (either (list_any p xs)) [
  | inl some ↦ inl (any_some p xs some)
  | inr off ↦ inr (λ x h e. both_ways (list_any p xs) off (any_in p xs x h e))
]

-- an element of each passes with the other, or none do
pub pair_or_none : {A B : Type 0} (p : A → B → Bool) (xs : List A) (ys : List B)
    → ((x : A) × (y : B) × Contains xs x × Contains ys y × (p x y ≡ true))
    ⊎ ((x : A) (y : B) → Contains xs x → Contains ys y → p x y ≡ true → ⊥)
pair_or_none p xs ys = elim (found_or_none (λ x. list_any (p x) ys) xs) [
  | inl f ↦ inl (let g = any_some (p f.0) ys f.2 in (f.0, g.0, f.1, g.1, g.2))
  | inr none ↦ inr (λ x y hx hy e. none x hx (any_in (p x) ys y hy e))
]

-- A run meets the premises or gives evidence, and never both.

-- the digests of messages

abbrev clashes : List ℕ → List ℕ → Bool
clashes m n = bytes_eq (sha256 m) (sha256 n) && not (bytes_eq m n)

clashes-Decides : (m n : List ℕ) → Decides (clashes m n) ((sha256 m ≡ sha256 n) × (¬ (m ≡ n)))
clashes-Decides m n = Decides-and (bytes_eq (sha256 m) (sha256 n)) (not (bytes_eq m n)) (bytes_eq-Decides (sha256 m) (sha256 n))
    (Decides-not (bytes_eq m n) (bytes_eq-Decides m n))

same_or_not : (m n : List ℕ) → (m ≡ n) ⊎ (m ≡ n → ⊥)
same_or_not m n = by_answer (bytes_eq m n) refl
  where
    by_answer : (b : Bool) → bytes_eq m n ≡ b → (m ≡ n) ⊎ (m ≡ n → ⊥)
    by_answer true e = inl ((bytes_eq-Decides m n).0 e)
    by_answer false e = inr (λ s. let t = (bytes_eq-Decides m n).1 s in cc)

-- what clashes, or that nothing does

module _ (i : Instance) (messages values : List (List ℕ)) (batches : List Batch) where
  abbrev Clash : Type 0
  Clash = HasClash i messages values batches

  collision_or : Clash ⊎ ((m n : List ℕ) → Contains messages m → Contains messages n → sha256 m ≡ sha256 n → m ≡ n)
  collision_or = elim (pair_or_none clashes messages messages) [
    | inl f ↦ let d = (clashes-Decides f.0 f.1).0 f.4 in inl (collision f.0 f.1 f.2 f.3 d.1 d.0)
    | inr none ↦ inr (λ m n hm hn e. elim (same_or_not m n) [
      | inl same ↦ same
      | inr differ ↦ absurd (none m n hm hn ((clashes-Decides m n).1 (e, differ)))
    ])
  ]

  zero_or : Clash ⊎ ((m : List ℕ) → Contains messages m → sha256 m ≢ zero_bytes)
  zero_or = elim (found_or_none (λ m. bytes_eq (sha256 m) zero_bytes) messages) [
    | inl f ↦ inl (zero_digest f.0 f.1 ((bytes_eq-Decides (sha256 f.0) zero_bytes).0 f.2))
    | inr none ↦ inr (λ m h e. none m h ((bytes_eq-Decides (sha256 m) zero_bytes).1 e))
  ]

  guard_or : i.variant ≡ Opt → Clash ⊎ AreNoGuards i.barrier values batches
  guard_or is = elim (pair_or_none (λ v b. bytes_eq v (guard i.barrier b)) values batches) [
    | inl f ↦ inl (guarded is f.0 f.1 f.2 f.3 ((bytes_eq-Decides f.0 (guard i.barrier f.1)).0 f.4))
    | inr none ↦ inr (λ v b hv hb e. none v b hv hb ((bytes_eq-Decides v (guard i.barrier b)).1 e))
  ]

  apart_or : (variant : Variant) → i.variant ≡ variant → Clash ⊎ AreApartIn variant i values batches
  apart_or Basic is = inr (λ opt. absurd (cc))
  apart_or Opt is = elim (guard_or is) [ inl g ↦ inl g | inr none ↦ inr (λ opt. none) ]

  pub clash_or : Clash ⊎ (IsClear messages × AreApartIn i.variant i values batches)
  clash_or = elim collision_or [
    | inl c ↦ inl c
    | inr apart ↦ elim zero_or [
      | inl z ↦ inl z
      | inr nonzero ↦ elim (apart_or i.variant refl) [
        | inl g ↦ inl g
        | inr none ↦ inr (record { apart = apart; nonzero = nonzero }, none)
      ]
    ]
  ]

  pub clash_apart : IsClear messages → AreApartIn i.variant i values batches → Clash → ⊥
  clash_apart clear apart (collision first second in_first in_second differs one) =
      differs (clear.apart first second in_first in_second one)
  clash_apart clear apart (zero_digest message listed is) = clear.nonzero message listed is
  clash_apart clear apart (guarded is value batch brought asked same) = apart is value batch brought asked same

clear_or : (i : Instance) (events : List Event) → HasEvidence i events ⊎ IsClearRun i events
clear_or i events = elim (clash_or i (run_messages i events) (foreign_values events) (asked_batches events)) [
  | inl c ↦ inl (clash c)
  | inr fine ↦ inr (record { clear = fine.0; apart = fine.1 })
]

-- what is offered

-- the bytes that an event offers, if it asks
abbrev pub event_offer : List (List ℕ) → Event → Option (List ℕ)
event_offer issued (Ask meddles stop offer b) = offered_bytes issued offer
event_offer issued event = None

-- an event that offers what is forged asks
pub forgery_by : (i : Instance) (events before : List Event) (event : Event) (later : List Event) → events ≡ before ++ event ∷ later
    → IsForged i (outcome_by_lists i before).state (event_offer (outcome_by_lists i before).issued event) → HasEvidence i events
forgery_by i events before (Ask meddles stop offer b) later split forged = forgery before later meddles stop offer b split forged
forgery_by i events before (Checkpoint meddles stop) later split forged = let clash : None ≡ Some forged.bytes = forged.offers in cc
forgery_by i events before Power later split forged = let clash : None ≡ Some forged.bytes = forged.offers in cc
forgery_by i events before (Extend value) later split forged = let clash : None ≡ Some forged.bytes = forged.offers in cc

-- of an instance whose names are decided
module _ (i : Instance) (named : (y : History) (content : Content) → IsDecided (is_named i y content) (NamesPosition i y content)) where
  by_name : (y : History) (bytes : List ℕ) (content : Content) → IsRight i bytes content → (r : Bool)
      → IsDecided r (NamesPosition i y content)
      → IsForged i y (Some bytes) ⊎ IsGenuine i y bytes
  by_name y bytes content right true is =
      inr (λ other r. subst (λ (c : Content). NamesPosition i y c) (one_content i bytes content other right r) is)
  by_name y bytes content right false is =
      inl (record { bytes = bytes; content = content; offers = refl; right = right; unnamed = is })

  by_content : (y : History) (bytes : List ℕ) (said : Option Content) → right_content i bytes ≡ said
      → IsForged i y (Some bytes) ⊎ IsGenuine i y bytes
  by_content y bytes None e = inr (λ content right. let clash : None ≡ Some content = sym e ∙ said_of i bytes content right in absurd (cc))
  by_content y bytes (Some content) e =
      by_name y bytes content (right_of i bytes (parts_of i.variant i.meaning.id bytes) refl content e) (is_named i y content)
      (named y content)

  pub offer_or : (y : History) (offered : Option (List ℕ)) → IsForged i y offered ⊎ IsGenuineOffer i y offered
  offer_or y None = inr tt
  offer_or y (Some bytes) = by_content y bytes (right_content i bytes) refl

  pub event_or : (y : History) (issued : List (List ℕ)) (event : Event)
      → IsForged i y (event_offer issued event) ⊎ IsGenuineEvent i y issued event
  event_or y issued (Ask meddles stop offer b) = offer_or y (event_offer issued (Ask meddles stop offer b))
  event_or y issued (Checkpoint meddles stop) = inr tt
  event_or y issued Power = inr tt
  event_or y issued (Extend value) = inr tt

  -- one of these events is the first that offers what is forged
  pub record ForgesFrom (y : History) (issued : List (List ℕ)) (events : List Event) : Type 0 where
    pub before : List Event
    pub event : Event
    pub later : List Event
    pub split : events ≡ before ++ event ∷ later
    pub genuine : AreGenuine i y issued before
    pub forged : (let f : RunOutcome History = outcome_of_events i (list_level i) y issued before in
        IsForged i f.state (event_offer f.issued event))

  pub genuine_or : (events : List Event) (y : History) (issued : List (List ℕ)) → ForgesFrom y issued events ⊎ AreGenuine i y issued events
  genuine_or [] y issued = inr tt
  genuine_or (event ∷ events) y issued =
      let o = event_outcome i (list_level i) y issued event in
      elim (event_or y issued event) [
        | inl here ↦ inl (record { before = []; event = event; later = events; split = refl; genuine = tt; forged = here })
        | inr fine ↦ elim (genuine_or events o.state o.issued) [
          | inl f ↦ inl (record {
            before = event ∷ f.before;
            event = f.event;
            later = f.later;
            split = ap (λ (es : List Event). event ∷ es) f.split;
            genuine = (fine, f.genuine);
            forged = f.forged;
          })
          | inr rest ↦ inr (fine, rest)
        ]
      ]

  decided_or : (events : List Event) → (IsClearRun i events × IsGenuineRun i events) ⊎ HasEvidence i events
  decided_or events = elim (clear_or i events) [
    | inl e ↦ inr e
    | inr clear ↦ elim (genuine_or events first_history (first_snapshots i)) [
      | inl f ↦ inr (forgery_by i events f.before f.event f.later f.split f.forged)
      | inr genuine ↦ inl (clear, genuine)
    ]
  ]

-- never both

module _ (i : Instance) where
  pub offer_apart : (y : History) (offered : Option (List ℕ)) → IsForged i y offered → IsGenuineOffer i y offered → ⊥
  offer_apart y offered f genuine =
      let at : IsGenuineOffer i y (Some f.bytes) = subst (IsGenuineOffer i y) f.offers genuine in f.unnamed (at f.content f.right)

  pub event_apart : (y : History) (issued : List (List ℕ)) (event : Event) → IsForged i y (event_offer issued event)
      → IsGenuineEvent i y issued event → ⊥
  event_apart y issued (Ask meddles stop offer b) f genuine = offer_apart y (event_offer issued (Ask meddles stop offer b)) f genuine
  event_apart y issued (Checkpoint meddles stop) f genuine = let clash : None ≡ Some f.bytes = f.offers in cc
  event_apart y issued Power f genuine = let clash : None ≡ Some f.bytes = f.offers in cc
  event_apart y issued (Extend value) f genuine = let clash : None ≡ Some f.bytes = f.offers in cc

  genuine_apart : (before : List Event) (event : Event) (later : List Event) (y : History) (issued : List (List ℕ))
      → AreGenuine i y issued (before ++ event ∷ later)
      → (let f : RunOutcome History = outcome_of_events i (list_level i) y issued before in IsForged i f.state (event_offer f.issued event))
      → ⊥
  genuine_apart [] event later y issued genuine forged = event_apart y issued event forged genuine.0
  genuine_apart (x ∷ before) event later y issued genuine forged =
      let o = event_outcome i (list_level i) y issued x in genuine_apart before event later o.state o.issued genuine.1 forged

  both_apart : (events : List Event) → IsClearRun i events → IsGenuineRun i events → HasEvidence i events → ⊥
  both_apart events clear genuine (clash c) =
      clash_apart i (run_messages i events) (foreign_values events) (asked_batches events) clear.clear clear.apart c
  both_apart events clear genuine (forgery before later meddles stop offer batch split forged) =
      genuine_apart before (Ask meddles stop offer batch) later first_history (first_snapshots i)
      (subst (λ (es : List Event). AreGenuine i first_history (first_snapshots i) es) split genuine) forged

-- names are decided in either variant
pub names_by : BasicNamesAreDecided → OptNamesAreDecided → (variant : Variant) (meaning : Meaning) (key barrier : List ℕ)
    → (let i = instance_by variant meaning key barrier in
    (y : History) (content : Content) → IsDecided (is_named i y content) (NamesPosition i y content))
names_by basic opt Basic meaning key barrier = basic meaning key
names_by basic opt Opt meaning key barrier = opt meaning key barrier

pub decided_run : BasicNamesAreDecided → OptNamesAreDecided → (variant : Variant) (meaning : Meaning) (key barrier : List ℕ)
    (events : List Event) → IsDecidedRun (instance_by variant meaning key barrier) events
decided_run basic opt variant meaning key barrier events =
    let i = instance_by variant meaning key barrier in
    record { decided = decided_or i (names_by basic opt variant meaning key barrier) events; apart = both_apart i events }
