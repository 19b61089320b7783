-- What a session leaves in a slot of records: what it held before, or the record of a line that was asked.
use Rattle.std.specs.Option.{option_map}
use Rattle.std.proofs.Common.{◌≡◌, ◌∙◌, ◌⊎◌, ◌+◌, ◌≤◌, ◌<◌, ◌%◌, ℕ, true, List, [], ◌∷◌, length, take, Option, None, Some, Result, Ok, Err}
use Rattle.std.proofs.Common.{refl, sym, ap, inl, inr, subst, arith}
use Rattle.std.proofs.lemmas.Bool.{cases_eq}
use Rattle.std.proofs.lemmas.Bool.Decides.{nat_tests}
use Rattle.mm_client.proofs.Below.{Variant, Meaning, Answer, Refusal, StoreFault, HostFault, Resumed, Answered, store_fault_as, IsLineFront}
use Rattle.mm_client.proofs.Below.{longest_request, ReadsSlot, WritesSlot, slots_with_bytes, StoreStanding, Slots, slot_front, slots_with, longest_slot}
use Rattle.mm_client.proofs.Below.{PendingRecord, pending_spelling, HostStanding, HostGoesAfterTwo, ReadsSlotThree}
use Rattle.mm_client.proofs.Below.{HostGoesAfterFinding, HostGoesAfterOffer, HostGoesAfterAsk, HostResumes, HostGoesAfterRecord, AsksNextRequest, record_for}
use Rattle.mm_client.proofs.Below.{position_at, SessionPlace, ServedCall, ServesCalls, AreNewFrom, slot_in-with_slot}
use Rattle.mm_store.specs.declared.fault.StoreFault.TheVariants as fault

-- what a slot shows, where the store tells its slots
abbrev pub shown : Option Slots → ℕ → Option (List ℕ)
shown slots k = option_map (λ (s : Slots). slot_front s k) slots

-- the slot shows what it did, and the store is as honest
pub record IsAsBefore (k : ℕ) (old new : StoreStanding) : Type 0 where
  pub shows : shown new.slots k ≡ shown old.slots k
  pub honest : new.is_honest ≡ old.is_honest

still : (k : ℕ) (kept : StoreStanding) → IsAsBefore k kept kept
still k kept = record { shows = refl; honest = refl }

pub then_so : (k : ℕ) (a b c : StoreStanding) → IsAsBefore k a b → IsAsBefore k b c → IsAsBefore k a c
then_so k a b c x y = record { shows = y.shows ∙ x.shows; honest = y.honest ∙ x.honest }

read_so : (k j : ℕ) (old new : StoreStanding) (result : Result (List ℕ) StoreFault) → ReadsSlot j old new result → IsAsBefore k old new
read_so k j old new result r = record { shows = ap (λ (s : Option Slots). shown s k) r.slots; honest = r.honest }

-- a slot that wasn't written shows what it did
unwritten : (slots : Slots) (bytes : List ℕ) (n m : ℕ) → n < 4 → m < 4 → (n ≡ m → ⊥)
    → slot_front (slots_with slots n bytes) m ≡ slot_front slots m
unwritten slots bytes n m small least unless = grind (arith, nat_tests, small, least, unless)

spared : (slots : Option Slots) (bytes : List ℕ) (n m : ℕ) → n < 4 → m < 4 → (n ≡ m → ⊥)
    → shown (slots_with_bytes n bytes slots) m ≡ shown slots m
spared None bytes n m small least unless = refl
spared (Some s) bytes n m small least unless = ap (λ (x : List ℕ). Some x) (unwritten s bytes n m small least unless)

-- a write to another slot
written_so : (k n : ℕ) (bytes : List ℕ) (old new : StoreStanding) (result : Result Unit StoreFault) → old.is_honest ≡ true
    → n < 4 → k < 4 → (n ≡ k → ⊥) → WritesSlot n bytes old new result → IsAsBefore k old new
written_so k n bytes old new (Ok it) honest small least unless w = record {
  shows = ap (λ (s : Option Slots). shown s k) (w.leaves honest) ∙ spared old.slots bytes n k small least unless;
  honest = w.honest;
}
written_so k n bytes old new (Err fault.Memory) honest small least unless w =
    record { shows = ap (λ (s : Option Slots). shown s k) (w.leaves honest); honest = w.honest }
written_so k n bytes old new (Err fault.Failed) honest small least unless w =
    let left = w.leaves honest in
    record {
      shows = ap (λ (s : Option Slots). shown s k) left.1 ∙ spared old.slots left.0 n k small least unless;
      honest = w.honest;
    }

-- what waits is found, and asked: slots 2 and 3 show what they did

module _ (k : ℕ) (least : 2 ≤ k) (most : k < 4) where
  asked_so : (asked : Result Answer Refusal) (old new : StoreStanding) (came : Result Resumed HostFault) → old.is_honest ≡ true
      → HostGoesAfterAsk asked old new came → IsAsBefore k old new
  asked_so (Err why) old new came honest g = rw g.0 (still k old)
  asked_so (Ok answer) old new came honest g =
      written_so k (answer.position % 2) answer.snapshot old new g.written honest (omega arith) most (λ e. omega (arith, e)) g.writes

  three_so : (two : List ℕ) (old new : StoreStanding) (result : Result (Option PendingRecord) StoreFault)
      → ReadsSlotThree two old new result → IsAsBefore k old new
  three_so two old new result r = read_so k 3 old new r.three r.reads

  two_so : (two : Result (List ℕ) StoreFault) (old new : StoreStanding) (result : Result (Option PendingRecord) StoreFault)
      → HostGoesAfterTwo two old new result → IsAsBefore k old new
  two_so (Err why) old new result g = rw g.0 (still k old)
  two_so (Ok two) old new result g = three_so two old new result g

  module _ (variant : Variant) (meaning : Meaning) where
    offered_so : (offer : Result (List ℕ) StoreFault) (middle new : HostStanding) (p : PendingRecord) (came : Result Resumed HostFault)
        → middle.kept.is_honest ≡ true → HostGoesAfterOffer variant meaning offer middle new p came → IsAsBefore k middle.kept new.kept
    offered_so (Err why) middle new p came honest g = rw (ap (λ (h : HostStanding). h.kept) g.0) (still k middle.kept)
    offered_so (Ok offer) middle new p came honest g = asked_so g.asked middle.kept new.kept came honest g.goes

    found_so : (waiting : Result (Option PendingRecord) StoreFault) (middle new : HostStanding) (came : Result Resumed HostFault)
        → middle.kept.is_honest ≡ true → HostGoesAfterFinding variant meaning waiting middle new came → IsAsBefore k middle.kept new.kept
    found_so (Err why) middle new came honest g = rw (ap (λ (h : HostStanding). h.kept) g.0) (still k middle.kept)
    found_so (Ok None) middle new came honest g = read_so k 0 middle.kept new.kept g.1.zero g.1.reads
    found_so (Ok (Some p)) middle new came honest g =
        then_so k middle.kept g.middle new.kept (read_so k _ middle.kept g.middle g.offer g.reads)
        (offered_so g.offer (record middle { kept = g.middle }) new p came (g.reads.honest ∙ honest) g.goes)

    pub resumed_so : (old new : HostStanding) (came : Result Resumed HostFault) → old.kept.is_honest ≡ true
        → HostResumes variant meaning old new came → IsAsBefore k old.kept new.kept
    resumed_so old new came honest r =
        let f = then_so k old.kept r.finds.middle r.middle (read_so k 2 old.kept r.finds.middle r.finds.two r.finds.reads)
        (two_so r.finds.two r.finds.middle r.middle r.waiting r.finds.goes) in
        then_so k old.kept r.middle new.kept f
        (found_so r.waiting (record old { kept = r.middle }) new came (f.honest ∙ honest) r.goes)

-- The slot was written with the record of this line, asked behind that answer.
pub record HoldsRecord (k : ℕ) (old new : StoreStanding) (last : Resumed) (line : List ℕ) : Type 0 where
  pub at : k ≡ 2 + (position_at last + 1) % 2
  pub bytes : (here : List ℕ) → shown new.slots k ≡ Some here → here ≡ take longest_slot (pending_spelling (record_for last line))
  pub honest : new.is_honest ≡ old.is_honest

put_shown : (slots : Option Slots) (k : ℕ) (bytes here : List ℕ) → shown (slots_with_bytes k bytes slots) k ≡ Some here
    → here ≡ take longest_slot bytes
put_shown None k bytes here e = cc
put_shown (Some s) k bytes here e =
    let is : slot_front (slots_with s k bytes) k ≡ here = cc in
    sym is ∙ ap (λ (x : List ℕ). take longest_slot x) (slot_in-with_slot s k bytes)

-- what a line leaves
pub data LineLeaves (k : ℕ) (old new : StoreStanding) (last : Resumed) (line : List ℕ) (came : Result Resumed HostFault) : Type 0 where
  as_before : IsAsBefore k old new → LineLeaves k old new last line came
  records : HoldsRecord k old new last line → LineLeaves k old new last line came
  fails : new.is_honest ≡ old.is_honest → came ≡ Err (store_fault_as fault.Failed) → LineLeaves k old new last line came

module _ (k : ℕ) (least : 2 ≤ k) (most : k < 4) (variant : Variant) (meaning : Meaning) where
  -- behind a record that was written
  recorded_so : (recorded : Result Unit StoreFault) (middle : StoreStanding) (old new : HostStanding) (last : Resumed) (line : List ℕ)
      (came : Result Resumed HostFault) → old.kept.is_honest ≡ true
      → WritesSlot (2 + (position_at last + 1) % 2) (pending_spelling (record_for last line)) old.kept middle recorded
      → HostGoesAfterRecord variant meaning recorded (record old { kept = middle }) new last line came
      → LineLeaves k old.kept new.kept last line came
  recorded_so (Err fault.Failed) middle old new last line came honest w g =
      fails (ap (λ (h : HostStanding). h.kept.is_honest) g.0 ∙ w.honest) g.1
  recorded_so (Err fault.Memory) middle old new last line came honest w g = as_before (record {
    shows = ap (λ (h : HostStanding). shown h.kept.slots k) g.0 ∙ ap (λ (s : Option Slots). shown s k) (w.leaves honest);
    honest = ap (λ (h : HostStanding). h.kept.is_honest) g.0 ∙ w.honest;
  })
  recorded_so (Ok it) middle old new last line came honest w g =
      let kept = asked_so k least most g.asked middle new.kept came (w.honest ∙ honest) g.goes in
      elim (cases_eq k (2 + (position_at last + 1) % 2)) [
        | inl here ↦ records (record {
          at = here;
          bytes = λ bytes e.
              put_shown old.kept.slots k (pending_spelling (record_for last line)) bytes
              (ap (λ (s : Option Slots). shown s k) (sym (w.leaves honest
              ∙ ap (λ (n : ℕ). slots_with_bytes n (pending_spelling (record_for last line)) old.kept.slots) (sym here)))
              ∙ sym kept.shows ∙ e);
          honest = kept.honest ∙ w.honest;
        })
        | inr apart ↦ as_before (then_so k old.kept middle new.kept
            (written_so k (2 + (position_at last + 1) % 2) (pending_spelling (record_for last line)) old.kept middle (Ok it) honest
            (omega arith) most (λ e. apart (sym e)) w) kept)
      ]

  pub line_so : (old new : HostStanding) (last : Resumed) (line : List ℕ) (came : Result Resumed HostFault) → old.kept.is_honest ≡ true
      → AsksNextRequest variant meaning old new last line came → LineLeaves k old.kept new.kept last line came
  line_so old new last line came honest a = recorded_so a.recorded a.middle old new last line came honest a.records a.goes

-- What lines that were answered leave: no record of a position behind the last answer's.
pub data LinesLeave (k : ℕ) (old new : StoreStanding) (reached : ℕ) : Type 0 where
  as_before : IsAsBefore k old new → LinesLeave k old new reached
  records : (last : Resumed) (line : List ℕ) → HoldsRecord k old new last line → IsLineFront longest_request line
      → position_at last + 1 ≤ reached → LinesLeave k old new reached

pub leaves_honest : (k : ℕ) (old new : StoreStanding) (reached : ℕ) → LinesLeave k old new reached → new.is_honest ≡ old.is_honest
leaves_honest k old new reached (as_before b) = b.honest
leaves_honest k old new reached (records last line h f m) = h.honest

-- how far answers reach
pub reached_by : (variant : Variant) (meaning : Meaning) (calls : List ServedCall) (from to : SessionPlace)
    → ServesCalls variant meaning from calls to
    → AreNewFrom (position_at from.last) calls → position_at to.last ≡ position_at from.last + length calls
reached_by variant meaning [] from to s n = ap (λ (p : SessionPlace). position_at p.last) s ∙ omega arith
reached_by variant meaning (c ∷ calls) from to s n =
    let next : SessionPlace = record { host = s.host; last = Answered c.answer } in
    let more = reached_by variant meaning calls next to s.rest (subst (λ (t : ℕ). AreNewFrom t calls) (sym n.1) n.2) in
    omega (arith, more, n.1)

lines_then : (k : ℕ) (a b c : StoreStanding) (reached : ℕ) (last : Resumed) (line : List ℕ) → LinesLeave k b c reached
    → IsAsBefore k a b ⊎ (HoldsRecord k a b last line × IsLineFront longest_request line × (position_at last + 1 ≤ reached))
    → LinesLeave k a c reached
lines_then k a b c reached last line (as_before x) (inl y) = as_before (then_so k a b c y x)
lines_then k a b c reached last line (as_before x) (inr (h, f, m)) =
    records last line (record { at = h.at; bytes = λ here e. h.bytes here (sym x.shows ∙ e); honest = x.honest ∙ h.honest }) f m
lines_then k a b c reached last line (records l n h f m) (inl y) =
    records l n (record { at = h.at; bytes = h.bytes; honest = h.honest ∙ y.honest }) f m
lines_then k a b c reached last line (records l n h f m) (inr (g, e, o)) =
    records l n (record { at = h.at; bytes = h.bytes; honest = h.honest ∙ g.honest }) f m

-- an answered line
line_served : (k : ℕ) (a b : StoreStanding) (last : Resumed) (line : List ℕ) (answer : Answer) (reached : ℕ)
    → LineLeaves k a b last line (Ok (Answered answer)) → IsLineFront longest_request line → position_at last + 1 ≤ reached
    → IsAsBefore k a b ⊎ (HoldsRecord k a b last line × IsLineFront longest_request line × (position_at last + 1 ≤ reached))
line_served k a b last line answer reached (as_before x) f m = inl x
line_served k a b last line answer reached (records h) f m = inr (h, f, m)
line_served k a b last line answer reached (fails x e) f m = absurd (cc)

part_honest : (k : ℕ) (a b : StoreStanding) (last : Resumed) (line : List ℕ) (reached : ℕ)
    → IsAsBefore k a b ⊎ (HoldsRecord k a b last line × IsLineFront longest_request line × (position_at last + 1 ≤ reached))
    → b.is_honest ≡ a.is_honest
part_honest k a b last line reached (inl x) = x.honest
part_honest k a b last line reached (inr x) = x.0.honest

module _ (k : ℕ) (least : 2 ≤ k) (most : k < 4) (variant : Variant) (meaning : Meaning) where
  pub lines_so : (calls : List ServedCall) (from to : SessionPlace) → ServesCalls variant meaning from calls to
      → AreNewFrom (position_at from.last) calls → from.host.kept.is_honest ≡ true
      → LinesLeave k from.host.kept to.host.kept (position_at to.last)
  lines_so [] from to s n honest = rw s (as_before (still k from.host.kept))
  lines_so (c ∷ calls) from to s n honest =
      let next : SessionPlace = record { host = s.host; last = Answered c.answer } in
      let later = subst (λ (t : ℕ). AreNewFrom t calls) (sym n.1) n.2 in
      let end = reached_by variant meaning calls next to s.rest later in
      let here = line_served k from.host.kept s.host.kept from.last c.line c.answer (position_at to.last)
      (line_so k least most variant meaning from.host s.host from.last c.line (Ok (Answered c.answer)) honest s.asks) s.within
      (omega (arith, end, n.1)) in
      lines_then k from.host.kept s.host.kept to.host.kept (position_at to.last) from.last c.line
      (lines_so calls next to s.rest later (part_honest k from.host.kept s.host.kept from.last c.line (position_at to.last) here ∙ honest))
      here
