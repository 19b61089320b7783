-- What is told of the premises is evidence, by its numbers; and one premise is told of each run.
use Rattle.mm_check.proofs.Below.{◌≡◌, ◌∙◌, ℕ, ◌+◌, Bool, true, false, cond, List, [], ◌∷◌, ◌++◌, length, Option, None, Some, refl, sym, ap}
use Rattle.mm_check.proofs.Below.{subst, arith, inl, inr, append_assoc, list_any, option_map, Contains, Contains-append_left}
use Rattle.mm_check.proofs.Below.{Contains-append_right, bytes_eq, bytes_eq-Decides, flat_map-append, sha256, zero_bytes, start_message}
use Rattle.mm_check.proofs.Below.{guard, own_values, Opt, History, Instance, first_history, Event, outcome_by_lists, first_snapshots}
use Rattle.mm_check.proofs.Below.{event_foreign_values, foreign_values, asked_batches, run_messages, number_of_first, message_digests}
use Rattle.mm_check.proofs.Below.{pair_plus_one, shared_pair_with, shared_pair_in, is_zero, zero_number_in, numbered_messages}
use Rattle.mm_check.proofs.Below.{numbered_messages_from, is_secured, secured_event_in, secured_event_by, IsForgedAt, IsFirstForged}
use Rattle.mm_check.proofs.Below.{DecidesPremise, premise_by, PremiseIsFixed, Premise, any_some, event_apart, event_offer, event_or}
use Rattle.mm_check.proofs.Below.{genuine_or}
use Rattle.std.specs.List.{IsDistinct}
use Rattle.std.proofs.lemmas.Bool.{both_ways}
use Rattle.std.proofs.lemmas.List.Elements.{All-contains, All-from_recursion}
use Rattle.std.proofs.lemmas.Map.Keys.{IsDistinct-head, IsDistinct-tail}
use Rattle.mm_seal.specs.Snapshot.{Content}
use Rattle.mm_model.specs.Standing.{NamesPosition}
use Rattle.mm_history.specs.Naming.{IsDecided, is_named}
use Rattle.mm_evidence.specs.Evidence.{clash, collision, forgery, guarded, IsForged, zero_digest}
use Rattle.mm_schedule.specs.Events.{Ask, Checkpoint, Extend, Power}
use Rattle.mm_check.specs.Numbering.{EvidenceIsHeld, IsEvidence, IsForgeryAt, IsSecuredAt, IsSharedAt, IsToldByEvidence, IsZeroAt}
use Rattle.mm_check.specs.declared.verdicts.Premise.TheVariants.{Held, Shared, Zero, Secured, Forged}
use Rattle.mm_check.proofs.ClearLaws.{all_once, any_map, first_in, run_same, same_in}
use Rattle.mm_check.proofs.DecidingLaws.{decided_by}

-- what is found first

-- a later number is one more than one
one_more : (o : Option ℕ) (n : ℕ) → option_map (λ k. k + 1) o ≡ Some n → (k : ℕ) × (o ≡ Some k) × (n ≡ k + 1)
one_more None n e = absurd (cc)
one_more (Some k) n e = (k, refl, cc)

-- the element of this number passes, which stands behind these
record IsFound {A : Type 0} (p : A → Bool) (xs : List A) (n : ℕ) : Type 0 where
  before : List A
  item : A
  after : List A
  split : xs ≡ before ++ item ∷ after
  place : n ≡ length before + 1
  pass : p item ≡ true

found_by : {A : Type 0} (p : A → Bool) (x : A) (xs : List A) (n : ℕ) (here : Bool) → p x ≡ here
    → ((k : ℕ) → number_of_first p xs ≡ Some k → IsFound p xs k)
    → (let o : Option ℕ = cond here (Some 1) (option_map (λ k. k + 1) (number_of_first p xs)) in o ≡ Some n → IsFound p (x ∷ xs) n)
found_by p x xs n true is later e =
    let one : 1 ≡ n = cc in
    record { before = []; item = x; after = xs; split = refl; place = sym one; pass = is }
found_by p x xs n false is later e =
    let m = one_more (number_of_first p xs) n e in
    let f = later m.0 m.1 in
    record {
      before = x ∷ f.before;
      item = f.item;
      after = f.after;
      split = ap (λ l. x ∷ l) f.split;
      place = omega (arith, m.2, f.place);
      pass = f.pass;
    }

found_first : {A : Type 0} (p : A → Bool) (xs : List A) (n : ℕ) → number_of_first p xs ≡ Some n → IsFound p xs n
found_first p [] n e = absurd (cc)
found_first p (x ∷ xs) n e = found_by p x xs n (p x) refl (found_first p xs) e

-- of digests, by their messages
where_mapped : (p : List ℕ → Bool) (ms : List (List ℕ)) → number_of_first p (message_digests ms) ≡ number_of_first (λ m. p (sha256 m)) ms
where_mapped p [] = refl
where_mapped p (m ∷ ms) = ap (λ (o : Option ℕ). cond (p (sha256 m)) (Some 1) (option_map (λ k. k + 1) o)) (where_mapped p ms)

-- two messages that share a digest

-- without the word that they differ
record IsPair (ms : List (List ℕ)) (first second : ℕ) : Type 0 where
  before : List (List ℕ)
  one : List ℕ
  between : List (List ℕ)
  other : List ℕ
  after : List (List ℕ)
  split : ms ≡ before ++ one ∷ (between ++ other ∷ after)
  first_is : first ≡ length before + 1
  second_is : second ≡ first + length between + 1
  one_digest : sha256 one ≡ sha256 other

more_of : (o : Option (ℕ × ℕ)) (first second : ℕ) → option_map pair_plus_one o ≡ Some (first, second)
    → (k : ℕ) × (l : ℕ) × (o ≡ Some (k, l)) × (first ≡ k + 1) × (second ≡ l + 1)
more_of None first second e = absurd (cc)
more_of (Some pair) first second e = let same : pair_plus_one pair ≡ (first, second) = cc in
    (pair.0, pair.1, refl, ap (λ (q : ℕ × ℕ). q.0) (sym same), ap (λ (q : ℕ × ℕ). q.1) (sym same))

pair_by : (x : List ℕ) (ms : List (List ℕ)) (first second : ℕ) (found : Option ℕ)
    → number_of_first (λ m. bytes_eq (sha256 x) (sha256 m)) ms ≡ found
    → ((k l : ℕ) → shared_pair_in (message_digests ms) ≡ Some (k, l) → IsPair ms k l)
    → shared_pair_with found (shared_pair_in (message_digests ms)) ≡ Some (first, second) → IsPair (x ∷ ms) first second
pair_by x ms first second (Some n) is later e =
    let f = found_first (λ m. bytes_eq (sha256 x) (sha256 m)) ms n is in
    let same : ◌≡◌ {A = ℕ × ℕ} (1, n + 1) (first, second) = cc in
    let one : ◌≡◌ {A = ℕ} 1 first = ap (λ (q : ℕ × ℕ). q.0) same in
    let two : n + 1 ≡ second = ap (λ (q : ℕ × ℕ). q.1) same in
    record {
      before = [];
      one = x;
      between = f.before;
      other = f.item;
      after = f.after;
      split = ap (λ (l : List (List ℕ)). x ∷ l) f.split;
      first_is = sym one;
      second_is = omega (arith, one, two, f.place);
      one_digest = (bytes_eq-Decides (sha256 x) (sha256 f.item)).0 f.pass;
    }
pair_by x ms first second None is later e =
    let m = more_of (shared_pair_in (message_digests ms)) first second e in
    let p = later m.0 m.1 m.2 in
    record {
      before = x ∷ p.before;
      one = p.one;
      between = p.between;
      other = p.other;
      after = p.after;
      split = ap (λ (l : List (List ℕ)). x ∷ l) p.split;
      first_is = omega (arith, m.3, p.first_is);
      second_is = omega (arith, m.3, m.4, p.second_is);
      one_digest = p.one_digest;
    }

pair_found : (ms : List (List ℕ)) (first second : ℕ) → shared_pair_in (message_digests ms) ≡ Some (first, second) → IsPair ms first second
pair_found [] first second e = absurd (cc)
pair_found (x ∷ ms) first second e = pair_by x ms first second (number_of_first (bytes_eq (sha256 x)) (message_digests ms))
    (sym (where_mapped (bytes_eq (sha256 x)) ms)) (pair_found ms) e

-- what is listed once isn't listed again
apart_at : (before : List (List ℕ)) (one : List ℕ) (rest : List (List ℕ)) (other : List ℕ)
    → IsDistinct bytes_eq (before ++ one ∷ rest) → Contains rest other → one ≡ other → ⊥
apart_at [] one rest other once there same =
    let Differ : List ℕ → Type 0 = λ m. bytes_eq one m ≡ false in
    both_ways (bytes_eq one other)
    (All-contains Differ rest other (All-from_recursion Differ rest (IsDistinct-head bytes_eq one rest once)) there)
    ((bytes_eq-Decides one other).1 same)
apart_at (x ∷ before) one rest other once there same =
    apart_at before one rest other (IsDistinct-tail bytes_eq x (before ++ one ∷ rest) once) there same

module _ (i : Instance) (events : List Event) where
  numbered_once : IsDistinct bytes_eq (numbered_messages i events)
  unfolding IsDistinct
  numbered_once = all_once (numbered_messages_from i first_history (first_snapshots i) events) (start_message i.variant i.meaning.id
      ∷ []) (tt, tt)

  shared_at : (first second : ℕ) → shared_pair_in (message_digests (numbered_messages i events)) ≡ Some (first, second)
      → IsSharedAt (numbered_messages i events) first second
  shared_at first second e =
      let p = pair_found (numbered_messages i events) first second e in
      record {
        before = p.before;
        one = p.one;
        between = p.between;
        other = p.other;
        after = p.after;
        split = p.split;
        first_is = p.first_is;
        second_is = p.second_is;
        differs = apart_at p.before p.one (p.between ++ p.other ∷ p.after) p.other (subst (IsDistinct bytes_eq) p.split numbered_once)
            (Contains-append_right p.between (p.other ∷ p.after) p.other (first_in p.other p.after));
        one_digest = p.one_digest;
      }

  zero_at : (message : ℕ) → zero_number_in (message_digests (numbered_messages i events)) ≡ Some message
      → IsZeroAt (numbered_messages i events) message
  zero_at message e =
      let f = found_first (λ m. is_zero (sha256 m)) (numbered_messages i events) message
      (sym (where_mapped is_zero (numbered_messages i events)) ∙ e) in
      record {
        before = f.before;
        message = f.item;
        after = f.after;
        split = f.split;
        place = f.place;
        is_zero = (bytes_eq-Decides (sha256 f.item) zero_bytes).0 f.pass;
      }

  secured_at : (event : ℕ) → i.variant ≡ Opt → secured_event_in i events ≡ Some event → IsSecuredAt i events event
  secured_at event opt e =
      let guards = own_values i.barrier (asked_batches events) in
      let f = found_first (is_secured guards) events event e in
      let v = any_some (λ v. list_any (bytes_eq v) guards) (event_foreign_values f.item) f.pass in
      let b = any_some (λ c. bytes_eq v.0 (guard i.barrier c)) (asked_batches events)
      (sym (any_map (bytes_eq v.0) (guard i.barrier) (asked_batches events)) ∙ v.2) in
      record {
        before = f.before;
        event = f.item;
        after = f.after;
        value = v.0;
        batch = b.0;
        split = f.split;
        place = f.place;
        in_opt = opt;
        brought = v.1;
        asked = b.1;
        is_guard = (bytes_eq-Decides v.0 (guard i.barrier b.0)).0 b.2;
      }

  -- evidence by its numbers is evidence

  among : (before : List (List ℕ)) (m : List ℕ) (after : List (List ℕ)) → numbered_messages i events ≡ before ++ m ∷ after
      → Contains (run_messages i events) m
  among before m after split = same_in (numbered_messages i events) (run_messages i events) (run_same i events) m
      (subst (λ (l : List (List ℕ)). Contains l m) (sym split) (Contains-append_right before (m ∷ after) m (first_in m after)))

  brought_in : (before : List Event) (event : Event) (after : List Event) (value : List ℕ) → events ≡ before ++ event ∷ after
      → Contains (event_foreign_values event) value → Contains (foreign_values events) value
  brought_in before event after value split there =
      subst (λ (l : List (List ℕ)). Contains l value)
      (sym (ap foreign_values split ∙ flat_map-append event_foreign_values before (event ∷ after)))
      (Contains-append_right (foreign_values before) (event_foreign_values event ++ foreign_values after) value
      (Contains-append_left (event_foreign_values event) (foreign_values after) value there))

  pub evidence_held : EvidenceIsHeld i events
  evidence_held Held e = inl refl
  evidence_held (Shared first second) e =
      inr (clash (collision e.one e.other
      (among e.before e.one (e.between ++ e.other ∷ e.after) e.split)
      (among (e.before ++ e.one ∷ e.between) e.other e.after
      (e.split ∙ sym (append_assoc e.before (e.one ∷ e.between) (e.other ∷ e.after)))) e.differs e.one_digest))
  evidence_held (Zero message) e = inr (clash (zero_digest e.message (among e.before e.message e.after e.split) e.is_zero))
  evidence_held (Secured event) e =
      inr (clash (guarded e.in_opt e.value e.batch (brought_in e.before e.event e.after e.value e.split e.brought) e.asked e.is_guard))
  evidence_held (Forged event) e = inr (forgery e.before e.after e.meddles e.stop e.offer e.batch e.split e.forged)

  -- an event that offers what is forged asks
  forged_by_asking : (before : List Event) (event : Event) (after : List Event) (number : ℕ) → events ≡ before ++ event ∷ after
      → number ≡ length before + 1 → IsForged i (outcome_by_lists i before).state (event_offer (outcome_by_lists i before).issued event)
      → IsForgeryAt i events number
  forged_by_asking before (Ask meddles stop offer batch) after number split place forged = record {
    before = before;
    meddles = meddles;
    stop = stop;
    offer = offer;
    batch = batch;
    after = after;
    split = split;
    place = place;
    forged = forged;
  }
  forged_by_asking before (Checkpoint meddles stop) after number split place forged =
      let none : None ≡ Some forged.bytes = forged.offers in cc
  forged_by_asking before Power after number split place forged = let none : None ≡ Some forged.bytes = forged.offers in cc
  forged_by_asking before (Extend value) after number split place forged = let none : None ≡ Some forged.bytes = forged.offers in cc

-- of an instance whose names are decided
module _ (i : Instance) (named : (y : History) (content : Content) → IsDecided (is_named i y content) (NamesPosition i y content)) where
  forgery_at : (events : List Event) (event : ℕ) → IsForgedAt i events event → IsForgeryAt i events event
  forgery_at events event h =
      let it = outcome_by_lists i h.before in
      forged_by_asking i events h.before h.event h.after event h.split h.place
      (elim (event_or i named it.state it.issued h.event) [ inl f ↦ f | inr genuine ↦ absurd (h.forged genuine) ])

  told_evidence : (events : List Event) (premise : Premise) → DecidesPremise i events premise → IsEvidence i events premise
  told_evidence events Held d = d
  told_evidence events (Shared first second) d = shared_at i events first second d
  told_evidence events (Zero message) d = zero_at i events message d.1
  told_evidence events (Secured event) d = secured_at i events event d.1 d.2
  told_evidence events (Forged event) d = forgery_at events event d.1

  -- the first event that isn't genuine, if there is one
  first_forged : (events : List Event) → (first : Option ℕ) × IsFirstForged i events first
  first_forged events = elim (genuine_or i named events first_history (first_snapshots i)) [
    | inl f ↦ (
      Some (length f.before + 1),
      record {
        before = f.before;
        event = f.event;
        after = f.later;
        split = f.split;
        place = refl;
        genuine = f.genuine;
        forged = λ genuine. event_apart i (outcome_by_lists i f.before).state (outcome_by_lists i f.before).issued f.event f.forged genuine;
      },
    )
    | inr genuine ↦ (None, genuine)
  ]

  pub told_by_evidence : PremiseIsFixed → (events : List Event) → IsToldByEvidence i events
  told_by_evidence fixed events =
      let pair = shared_pair_in (message_digests (numbered_messages i events)) in
      let nought = zero_number_in (message_digests (numbered_messages i events)) in
      let secured = secured_event_by i.variant i.barrier events in
      let f = first_forged events in
      let told : Premise = premise_by pair nought secured f.0 in
      let decides : DecidesPremise i events told = decided_by i events pair nought secured f.0 refl refl refl f.1 in
      record {
        told = told;
        decides = decides;
        alone = λ premise d. fixed i events premise told d decides;
        evidence = told_evidence events told decides;
      }
