-- What a host puts into its store when a module arrives.
use Rattle.std.specs.List.{AllByRecursion}
use Rattle.std.specs.Option.{option_map}
use Rattle.std.specs.Prelude.{IfOk, IsErrAnd, ◌<◌}
use Rattle.std.proofs.Common.{◌≡◌, ◌∙◌, ◌≤◌, ◌+◌, ◌%◌, ◌⊎◌, ℕ, List, [], ◌∷◌, Option, None, Some, Result, Ok, Err, arith, refl, ap, sym, subst}
use Rattle.std.proofs.Common.{inl, inr, length, take}
use Rattle.std.proofs.Math.Seq.{take-nil}
use Rattle.std.proofs.lemmas.List.{take_all}
use Rattle.mm_base.specs.Input.{IsLineFront}
use Rattle.mm_bytes.specs.Limits.{last_position, longest_request}
use Rattle.mm_move.specs.declared.accepting.Accepted.{Accepted}
use Rattle.mm_store.specs.StoreStanding.{CountsFailures, LeavesInSlot, WritesSlot, slot_in, slots_with_bytes, Slots, longest_slot}
use Rattle.mm_store.specs.StoreStanding.{slots_with, StoreStanding}
use Rattle.mm_store.specs.PendingRecord.{PendingRecord, ReadsPendingRecord, pending_spelling}
use Rattle.mm_store.specs.declared.fault.StoreFault.{StoreFault}
use Rattle.mm_store.specs.declared.fault.StoreFault.TheVariants.{Memory, Failed}
use Rattle.mm_store.proofs.Above.{longest_slot-is, reads_none-short}
use Rattle.mm_recovery.specs.FirstStart.{PutsAll, SlotPut}
use Rattle.mm_recovery.proofs.Above.{length-pending_spelling}
use Rattle.mm_honest_worlds.specs.Arrivals.{EmptiesRecords, PutsArrival, PuttingGoes, SlotStays, arrival_puts}
use Rattle.mm_honest_worlds.specs.Arrivals.{emptying_puts, record_after}
use Rattle.mm_honest_worlds.specs.HostStores.{HasArrived}

-- The count of faults behind puts.
counted : (puts : List SlotPut) (old new : StoreStanding) (result : Result Unit StoreFault) → PutsAll puts old new result
    → CountsFailures old.faults new.faults result
counted [] old new result (same, e) = rw (same, e) refl
counted (put ∷ puts) old new result (middle, Ok it, w, p) = rw (sym w.counted) (counted puts middle new result p)
counted (put ∷ puts) old new result (middle, Err why, w, p) = rw (p.0, p.1) w.counted

-- A slot beside that of a put, and beside those of some.
Beside : ℕ → SlotPut → Type 0
Beside slot put = (slots : Slots) (bytes : List ℕ) → slot_in (slots_with slots put.0 bytes) slot ≡ slot_in slots slot

abbrev told_in : ℕ → Option Slots → Option (List ℕ)
told_in slot told = option_map (λ (slots : Slots). slot_in slots slot) told

told_beside : (slot : ℕ) (put : SlotPut) (bytes : List ℕ) (told : Option Slots) → Beside slot put
    → told_in slot (slots_with_bytes put.0 bytes told) ≡ told_in slot told
unfolding Beside
told_beside slot put bytes None b = refl
told_beside slot put bytes (Some slots) b = ap (λ (xs : List ℕ). Some xs) (b slots bytes)

left_beside : (slot : ℕ) (put : SlotPut) (old new : Option Slots) (written : Result Unit StoreFault) → Beside slot put
    → LeavesInSlot put.0 put.1 old new written → told_in slot new ≡ told_in slot old
left_beside slot put old new (Ok it) b e = ap (told_in slot) e ∙ told_beside slot put put.1 old b
left_beside slot put old new (Err Memory) b e = ap (told_in slot) e
left_beside slot put old new (Err Failed) b (left, e) = ap (told_in slot) e ∙ told_beside slot put left old b

stays : (slot : ℕ) (puts : List SlotPut) (old new : StoreStanding) (result : Result Unit StoreFault)
    → AllByRecursion (Beside slot) puts → PutsAll puts old new result → SlotStays old new slot
stays slot [] old new result b (same, e) = λ h. ap (λ (kept : StoreStanding). told_in slot kept.slots) same
stays slot (put ∷ puts) old new result b (middle, Ok it, w, p) =
    λ h. stays slot puts middle new result b.1 p (w.honest ∙ h) ∙ left_beside slot put old.slots middle.slots (Ok it) b.0 (w.leaves h)
stays slot (put ∷ puts) old new result b (middle, Err why, w, p) =
    λ h. ap (λ (kept : StoreStanding). told_in slot kept.slots) p.0
    ∙ left_beside slot put old.slots middle.slots (Err why) b.0 (w.leaves h)

parity : (n : ℕ) → ((n % 2 ≡ 0) × ((n + 1) % 2 ≡ 1)) ⊎ ((n % 2 ≡ 1) × ((n + 1) % 2 ≡ 0))
parity n = grind arith

beside_snapshot : (accepted : Accepted) (request : List ℕ)
    → AllByRecursion (Beside ((accepted.position + 1) % 2)) (arrival_puts accepted request)
unfolding Beside
beside_snapshot accepted request = elim (parity accepted.position) [
  | inl even ↦ rw (even.0, even.1) (λ slots bytes. refl, (λ slots bytes. refl, tt))
  | inr odd ↦ rw (odd.0, odd.1) (λ slots bytes. refl, (λ slots bytes. refl, tt))
]

beside_record : (accepted : Accepted) (request : List ℕ)
    → AllByRecursion (Beside (2 + accepted.position % 2)) (arrival_puts accepted request)
unfolding Beside
beside_record accepted request = elim (parity accepted.position) [
  | inl even ↦ rw (even.0, even.1) (λ slots bytes. refl, (λ slots bytes. refl, tt))
  | inr odd ↦ rw (odd.0, odd.1) (λ slots bytes. refl, (λ slots bytes. refl, tt))
]

pub putting_goes : (accepted : Accepted) (request : List ℕ) (old new : StoreStanding) (result : Result Unit StoreFault)
    → PutsAll (arrival_puts accepted request) old new result → PuttingGoes accepted request old new result
putting_goes accepted request old new result p = record {
  goes = p;
  counted = counted (arrival_puts accepted request) old new result p;
  stay = (
    stays ((accepted.position + 1) % 2) (arrival_puts accepted request) old new result (beside_snapshot accepted request) p,
    (stays (2 + accepted.position % 2) (arrival_puts accepted request) old new result (beside_record accepted request) p, tt),
  );
}

pub empties_records : (old new : StoreStanding) → PutsAll emptying_puts old new (Ok tt) → EmptiesRecords old new
empties_records old new (middle, Err why, one, p) = absurd (cc)
empties_records old new (middle, Ok first, one, (last, Err why, two, p)) = absurd (cc)
empties_records old new (middle, Ok first, one, (last, Ok second, two, p)) = λ slots honest told. record {
  honest = ap (λ (kept : StoreStanding). kept.is_honest) p.0 ∙ two.honest ∙ one.honest ∙ honest;
  slots = record slots { two = []; three = [] };
  told = ap (λ (kept : StoreStanding). kept.slots) p.0 ∙ two.leaves (one.honest ∙ honest)
      ∙ ap (slots_with_bytes 3 []) (one.leaves honest ∙ ap (slots_with_bytes 2 []) told);
  two = refl;
  three = refl;
}

-- nothing is put where memory is wanting before
pub none_put : (put : SlotPut) (puts : List SlotPut) (kept : StoreStanding) (result : Result Unit StoreFault)
    → IsErrAnd result (λ why. why ≡ Memory) → PutsAll (put ∷ puts) kept kept result
none_put put puts kept (Ok it) e = absurd e
none_put put puts kept (Err why) e = (
  kept,
  Err Memory,
  record { honest = refl; counted = refl; leaves = λ h. refl; spared = λ h. refl; synced = refl },
  (refl, ap (λ (fault : StoreFault). Err fault) e),
)

pub record_short : (p : PendingRecord) (bytes : List ℕ) → bytes ≡ pending_spelling p → length p.request ≤ longest_request
    → length bytes ≤ 1100000
record_short p bytes e h = omega (arith, ap (λ (xs : List ℕ). length xs) e, length-pending_spelling p)

fits_slot : (size limit : ℕ) → size ≤ 1100000 → limit ≡ 1100000 → size ≤ limit
fits_slot size limit h e = omega (arith, h, e)

shown : (bytes : List ℕ) → length bytes ≤ 1100000 → take longest_slot bytes ≡ bytes
shown bytes h = take_all longest_slot bytes (fits_slot (length bytes) longest_slot h longest_slot-is)

-- no record is in an empty slot
empty_reads : (slot : ℕ) (bytes : List ℕ) → bytes ≡ [] → ReadsPendingRecord slot (take longest_slot bytes) None
empty_reads slot bytes e = rw (e, take-nil longest_slot) (reads_none-short slot [] (omega arith))

module _ (accepted : Accepted) (request : List ℕ) (room : accepted.position < last_position)
    (short : length accepted.snapshot ≤ 1100000) (line : IsLineFront longest_request request) where
  abbrev next : PendingRecord
  next = record_after accepted request

  abbrev bytes : List ℕ
  bytes = pending_spelling next

  pending : (slot : ℕ) → slot ≡ 2 + (accepted.position + 1) % 2 → ReadsPendingRecord slot (take longest_slot bytes) (Some next)
  pending slot e = (
    record { least = omega arith; most = omega (arith, room); line = line; parity = e },
    shown bytes (record_short next bytes refl line.short),
  )

  arrived : (slots : Slots) → slots.two ≡ [] → slots.three ≡ []
      → HasArrived accepted (slots_with (slots_with slots (accepted.position % 2) accepted.snapshot)
      (2 + (accepted.position + 1) % 2) bytes)
  arrived slots two three = elim (parity accepted.position) [
    | inl even ↦ rw (even.0, even.1) (record {
      snapshot = rw even.0 (shown accepted.snapshot short);
      waiting = Some next;
      is_waiting = record {
        in_two = None;
        in_three = Some next;
        reads_two = empty_reads 2 slots.two two;
        reads_three = pending 3 (rw even.1 refl);
        is = refl;
      };
      next = refl;
    })
    | inr odd ↦ rw (odd.0, odd.1) (record {
      snapshot = rw odd.0 (shown accepted.snapshot short);
      waiting = Some next;
      is_waiting = record {
        in_two = Some next;
        in_three = None;
        reads_two = pending 2 (rw odd.1 refl);
        reads_three = empty_reads 3 slots.three three;
        is = refl;
      };
      next = refl;
    })
  ]

  put : (old middle new : StoreStanding) → WritesSlot (accepted.position % 2) accepted.snapshot old middle (Ok tt)
      → WritesSlot (2 + (accepted.position + 1) % 2) bytes middle new (Ok tt) → PutsArrival accepted old new
  put old middle new one two = λ h.
      let here : middle.slots ≡ Some (slots_with h.slots (accepted.position % 2) accepted.snapshot) =
      one.leaves h.honest ∙ ap (λ (told : Option Slots). slots_with_bytes (accepted.position % 2) accepted.snapshot told) h.told in
      let honest : middle.is_honest ≡ old.is_honest = one.honest in
      record {
        honest = two.honest ∙ honest ∙ h.honest;
        slots = slots_with (slots_with h.slots (accepted.position % 2) accepted.snapshot) (2 + (accepted.position + 1) % 2) bytes;
        told = two.leaves (honest ∙ h.honest)
            ∙ ap (λ (told : Option Slots). slots_with_bytes (2 + (accepted.position + 1) % 2) bytes told) here;
        has = arrived h.slots h.two h.three;
      }

  pub puts_arrival : (old new : StoreStanding) (result : Result Unit StoreFault) → PutsAll (arrival_puts accepted request) old new result
      → IfOk result (λ it. PutsArrival accepted old new)
  puts_arrival old new (Err why) p = tt
  puts_arrival old new (Ok it) (middle, Err why, one, p) = absurd (cc)
  puts_arrival old new (Ok it) (middle, Ok first, one, (last, Err why, two, p)) = absurd (cc)
  puts_arrival old new (Ok it) (middle, Ok first, one, (last, Ok second, two, p)) =
      put old middle new one (subst (λ (kept : StoreStanding). WritesSlot (2 + (accepted.position + 1) % 2) bytes middle kept (Ok tt))
      (sym p.0) two)
