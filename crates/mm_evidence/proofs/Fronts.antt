-- The events before the first one that gives evidence. With it: a forged offer is none of the
-- snapshots that the run issued; two first parts of one list.
use Rattle.std.proofs.Common.{◌⊎◌, ◌++◌, ◌∷◌, [], inl, inr, refl, sym}
use Rattle.mm_outcome.proofs.Above.{issued_names}
use Rattle.mm_evidence.proofs.Below.{◌≡◌, ◌≤◌, List, ℕ, Some, subst, length, last_position, AllByRecursion, Contains, All-contains}
use Rattle.mm_evidence.proofs.Below.{All-from_recursion, Contains-get_or, slice_get, get_or_from_slice_get, slice_get_within, IsLawful}
use Rattle.mm_evidence.proofs.Below.{History, total_of, Instance, Event, Offer, Flip, Last, Number, Raw, ◌-◌, outcome_by_lists, IsIssued}
use Rattle.mm_evidence.proofs.Below.{IssuedNamePositions, offered_bytes, IsForged, ForgedAreNew, IsMadeUp, ◌∙◌, ap, append_assoc}
use Rattle.mm_evidence.proofs.Below.{append-nil, IsClearRun, IsGenuineRun, HasEvidence, IsFrontWithoutEvidence, RunsUntil, StopsAt}
use Rattle.mm_evidence.proofs.Below.{IsLongest, FrontsAreLongest, IsDecidedRun, FrontsAreOneRun, RepliesAreOneRun, IsOneRunOrEvidence}

-- A forged offer is none of the snapshots that the run issued.

module _ (i : Instance) (y : History) (lawful : IsLawful i.meaning) (few : total_of y.batches ≤ last_position) where
  module _ (issued : List (List ℕ)) (all : AllByRecursion (IsIssued i y) issued) where
    unissued : (offered : List ℕ) → IsForged i y (Some offered) → Contains issued offered → ⊥
    unissued offered f listed =
        let same : offered ≡ f.bytes = (let e = f.offers in cc) in
        let s = All-contains (IsIssued i y) issued offered (All-from_recursion (IsIssued i y) issued all) listed in
        f.unnamed (issued_names i y lawful few f.bytes f.content (subst (IsIssued i y) same s) f.right)

    -- an issued snapshot with its number isn't forged
    numbered : (number : ℕ) → IsForged i y (slice_get issued number) → ⊥
    numbered number f =
        unissued f.bytes (subst (IsForged i y) f.offers f)
        (subst (Contains issued) (get_or_from_slice_get issued number f.bytes f.bytes f.offers)
        (Contains-get_or issued number f.bytes (slice_get_within issued number f.bytes f.offers)))

    made_up : (offer : Offer) → IsForged i y (offered_bytes issued offer) → IsMadeUp offer
    made_up (Number number) f = numbered number f
    made_up Last f = numbered (length issued - 1) f
    made_up (Flip number byte) f = tt
    made_up (Raw bytes) f = tt

pub forged_new : (i : Instance) → IssuedNamePositions i → (events : List Event) → IsLawful i.meaning
    → total_of (outcome_by_lists i events).state.batches ≤ last_position → ForgedAreNew i events
forged_new i named events lawful few =
    let it = outcome_by_lists i events in
    record {
      unissued = unissued i it.state lawful few it.issued (named events);
      made_up = made_up i it.state lawful few it.issued (named events);
    }

-- Two first parts of one list.

-- One list goes on behind another: so does what is behind that one, with what is behind the longer one last.
pub record IsLonger {A : Type 0} (front longer behind last : List A) : Type 0 where
  pub next : A
  pub more : List A
  pub is : longer ≡ front ++ next ∷ more
  pub rest : behind ≡ next ∷ (more ++ last)

pub fronts_cases : {A : Type 0} (f g r s : List A) → f ++ r ≡ g ++ s → (f ≡ g) ⊎ (IsLonger f g r s ⊎ IsLonger g f s r)
fronts_cases [] [] r s e = inl refl
fronts_cases [] (y ∷ g) r s e = inr (inl (record { next = y; more = g; is = refl; rest = e }))
fronts_cases (x ∷ f) [] r s e = inr (inr (record { next = x; more = f; is = refl; rest = sym e }))
fronts_cases (x ∷ f) (y ∷ g) r s e =
    let same : x ≡ y = cc in
    let rest : f ++ r ≡ g ++ s = cc in
    elim (fronts_cases f g r s rest) [
      | inl is ↦ inl (λ j. same j ∷ is j)
      | inr (inl l) ↦ inr (inl (record { next = l.next; more = l.more; is = λ j. sym same j ∷ l.is j; rest = l.rest }))
      | inr (inr l) ↦ inr (inr (record { next = l.next; more = l.more; is = λ j. same j ∷ l.is j; rest = l.rest }))
    ]

-- The events before the first one that gives evidence: what holds of each first part that meets the premises holds of each of theirs.

-- a list is empty, or has a last event
last_or : {E : Type 0} (es : List E) → (es ≡ []) ⊎ ((init : List E) × (last : E) × (es ≡ init ++ last ∷ []))
last_or [] = inl refl
last_or (e ∷ es) = elim (last_or es) [
  | inl none ↦ inr ([], e, ap (λ (l : List _). e ∷ l) none)
  | inr s ↦ inr (e ∷ s.0, s.1, ap (λ (l : List _). e ∷ l) s.2)
]

none_of : {E : Type 0} (first : List E) (event : E) (more : List E) → [] ≡ first ++ event ∷ more → ⊥
none_of [] event more is = cc
none_of (x ∷ first) event more is = cc

-- the premises are met, or there is evidence
pub record AreDecided {E : Type 0} (Gives Meets : List E → Type 0) : Type 0 where
  pub decided : (events : List E) → Meets events ⊎ Gives events
  pub apart : (events : List E) → Meets events → Gives events → ⊥

module _ {E : Type 0} (Gives Meets : List E → Type 0) (known : AreDecided Gives Meets) where
  -- the same from some first events on
  record IsUnbrokenFrom (done rest : List E) : Type 0 where
    front : List E
    later : List E
    split : rest ≡ front ++ later
    clean : (first : List E) (event : E) (more : List E) → front ≡ first ++ event ∷ more
        → Gives (done ++ (first ++ event ∷ [])) → ⊥
    stops : StopsAt Gives (done ++ front) later

  event_first : (done : List E) (event : E) (rest : List E) → Meets (done ++ event ∷ [])
      → IsUnbrokenFrom (done ++ event ∷ []) rest → IsUnbrokenFrom done (event ∷ rest)
  event_first done event rest meets r = record {
    front = event ∷ r.front;
    later = r.later;
    split = ap (λ (es : List E). event ∷ es) r.split;
    clean = clean;
    stops = subst (λ (es : List E). StopsAt Gives es r.later) (append_assoc done (event ∷ []) r.front) r.stops;
  }
    where
      clean : (first : List E) (e : E) (more : List E) → event ∷ r.front ≡ first ++ e ∷ more
          → Gives (done ++ (first ++ e ∷ [])) → ⊥
      clean [] e more is evidence =
          let same : e ≡ event = cc in
          known.apart (done ++ event ∷ []) meets (subst (λ (x : E). Gives (done ++ x ∷ [])) same evidence)
      clean (x ∷ first) e more is evidence =
          let same : x ≡ event = cc in
          let rest_is : r.front ≡ first ++ e ∷ more = cc in
          r.clean first e more rest_is (subst Gives (ap (λ (y : E). done ++ y ∷ (first ++ e ∷ [])) same
          ∙ sym (append_assoc done (event ∷ []) (first ++ e ∷ []))) evidence)

  unbroken_from : (rest done : List E) → IsUnbrokenFrom done rest
  unbroken_from [] done =
      record { front = []; later = []; split = refl; clean = λ first event more is. absurd (none_of first event more is); stops = tt }
  unbroken_from (event ∷ rest) done = elim (known.decided (done ++ event ∷ [])) [
    | inl meets ↦ event_first done event rest meets (unbroken_from rest (done ++ event ∷ []))
    | inr e ↦ record {
      front = [];
      later = event ∷ rest;
      split = refl;
      clean = λ first x more is. absurd (none_of first x more is);
      stops = subst (λ (es : List E). Gives (es ++ event ∷ [])) (sym (append-nil done)) e;
    }
  ]

  pub unbroken : (events : List E) → (front : List E) × IsFrontWithoutEvidence Gives events front
  unbroken events = let r = unbroken_from events [] in
      (r.front, record { rest = r.later; split = r.split; clean = r.clean; stops = r.stops })

  -- so many first ones meet the premises
  meets_each : (events front : List E) → IsFrontWithoutEvidence Gives events front → (first : List E) (event : E) (later : List E)
      → front ≡ first ++ event ∷ later → Meets (first ++ event ∷ [])
  meets_each events front u first event later is = elim (known.decided (first ++ event ∷ [])) [
    | inl meets ↦ meets
    | inr e ↦ absurd (u.clean first event later is e)
  ]

  -- What holds of no event, and of each first part that meets the premises, holds up to the first event that gives evidence.
  pub runs_until : (events : List E) (Holds : List E → Type 0) → Holds []
      → ((first later : List E) → events ≡ first ++ later → Meets first → Holds first) → RunsUntil Gives events Holds
  runs_until events Holds none each =
      let u = unbroken events in
      record {
        front = u.0;
        unbroken = u.1;
        one_run = λ first later is. elim (last_or first) [
          | inl empty ↦ subst Holds (sym empty) none
          | inr s ↦
              let split : u.0 ≡ s.0 ++ s.1 ∷ later = is ∙ ap (λ (es : List E). es ++ later) s.2 ∙ append_assoc s.0 (s.1 ∷ []) later in
              subst Holds (sym s.2) (each (s.0 ++ s.1 ∷ []) (later ++ u.1.rest)
              (u.1.split ∙ ap (λ (es : List E). es ++ u.1.rest) split ∙ append_assoc s.0 (s.1 ∷ later) u.1.rest
              ∙ sym (append_assoc s.0 (s.1 ∷ []) (later ++ u.1.rest))) (meets_each events u.0 u.1 s.0 s.1 later split))
        ];
      }

  module _ (fronts : (front later : List E) → Meets (front ++ later) → Meets front) where
    -- evidence at the next event
    next_evidence : (front rest : List E) (next : E) (later : List E) → StopsAt Gives front rest → rest ≡ next ∷ later
        → Gives (front ++ next ∷ [])
    next_evidence front rest next later stops is = subst (StopsAt Gives front) is stops

    alone : (events f g : List E) → IsFrontWithoutEvidence Gives events f → IsFrontWithoutEvidence Gives events g → g ≡ f
    alone events f g u v = elim (fronts_cases f g u.rest v.rest (sym u.split ∙ v.split)) [
      | inl same ↦ sym same
      | inr (inl l) ↦ absurd (v.clean f l.next l.more l.is (next_evidence f u.rest l.next (l.more ++ v.rest) u.stops l.rest))
      | inr (inr l) ↦ absurd (u.clean g l.next l.more l.is (next_evidence g v.rest l.next (l.more ++ u.rest) v.stops l.rest))
    ]

    longest : (events front : List E) → IsFrontWithoutEvidence Gives events front → (first later : List E) → events ≡ first ++ later
        → Meets first → (more : List E) × (front ≡ first ++ more)
    longest events front u first later is meets = elim (fronts_cases first front later u.rest (sym is ∙ u.split)) [
      | inl same ↦ ([], sym same ∙ sym (append-nil first))
      | inr (inl l) ↦ (l.next ∷ l.more, l.is)
      | inr (inr l) ↦
          let part : first ≡ (front ++ l.next ∷ []) ++ l.more = l.is ∙ sym (append_assoc front (l.next ∷ []) l.more) in
          absurd (known.apart (front ++ l.next ∷ []) (fronts (front ++ l.next ∷ []) l.more (subst Meets part meets))
          (next_evidence front u.rest l.next (l.more ++ later) u.stops l.rest))
    ]

    pub fronts_longest : (events front : List E) → IsFrontWithoutEvidence Gives events front → IsLongest Gives Meets events front
    fronts_longest events front u = record {
      alone = λ other v. alone events front other u v;
      meets = meets_each events front u;
      longest = longest events front u;
    }

-- the premises of a run
abbrev pub MeetsPremises : Instance → List Event → Type 0
MeetsPremises i events = IsClearRun i events × IsGenuineRun i events

pub runs_decided : (i : Instance) → ((events : List Event) → IsDecidedRun i events) → AreDecided (HasEvidence i) (MeetsPremises i)
runs_decided i decided = record {
  decided = λ events. (decided events).decided;
  apart = λ events meets evidence. (decided events).apart meets.0 meets.1 evidence;
}

-- no event at all is one run
pub none_is_one : (i : Instance) → RepliesAreOneRun i []
none_is_one i = record { requests = []; runs = refl; judged = refl; count = refl; shown = refl }

pub one_run_or : (i : Instance) → ((events : List Event) → IsDecidedRun i events) → (events : List Event) → FrontsAreOneRun i events
    → IsOneRunOrEvidence i events
one_run_or i decided events fronts =
    runs_until (HasEvidence i) (MeetsPremises i) (runs_decided i decided) events (RepliesAreOneRun i) (none_is_one i)
    (λ first later is meets. (fronts first later is).1 meets.0 meets.1)

pub runs_longest : (i : Instance) → ((events : List Event) → IsDecidedRun i events)
    → ((front later : List Event) → IsClearRun i (front ++ later) → IsClearRun i front)
    → ((front later : List Event) → IsGenuineRun i (front ++ later) → IsGenuineRun i front)
    → (events : List Event) → FrontsAreLongest i events
runs_longest i decided clear genuine events front u =
    fronts_longest (HasEvidence i) (MeetsPremises i) (runs_decided i decided)
    (λ first later meets. (clear first later meets.0, genuine first later meets.1)) events front u
