-- Laws of the pending record's bytes. With it: laws of slots; laws of what is told of the slots
-- that have changes that were not synced.
use Rattle.std.proofs.Common.{ℕ, ◌≡◌, ◌+◌, ◌-◌, ◌<◌, ◌^◌, Some, None, List, [], ◌++◌, length, take, drop, refl, ap, sym, ◌∙◌, arith, subst}
use Rattle.std.proofs.Common.{length-append, append_assoc}
use Rattle.std.proofs.lemmas.Bool.{cases_lt}
use Rattle.std.proofs.lemmas.Bool.Decides.{nat_tests}
use Rattle.std.proofs.lemmas.List.{append-nil}
use Rattle.sha2.specs.Sha256.{sha256}
use Rattle.mm_bytes.specs.DecimalLaws.{joined, append-injective, eight_bytes-injective, four_bytes-injective, length-eight_bytes}
use Rattle.mm_bytes.specs.DecimalLaws.{length-four_bytes}
use Rattle.mm_bytes.specs.Limits.{eight_bytes, four_bytes}
use Rattle.mm_store.specs.PendingRecord.{PendingRecord, IsPending, record_word, pending_front, pending_spelling, ReadsPendingRecord}
use Rattle.mm_store.specs.PendingRecord.{HasOneReading, SpellsRecord, SpellsNoRecord}
use Rattle.mm_store.specs.StoreStanding.{Slots, longest_slot, slot_in, slots_with, slots_with_bytes, UnsyncedSlots}
use Rattle.mm_store.specs.StoreStanding.{unsynced_slots_with_mark, MarksSlotAlone}
use Rattle.mm_store.proofs.Below.{length-sha256, Option, min, inl, inr, take_all, Bool, true}

-- four parts put at the end one after another
pub put_in_parts : (old b₁ b₂ b₃ b₄ p₁ p₂ p₃ p₄ q₂ q₃ : List ℕ) → b₁ ≡ old ++ p₁ → b₂ ≡ b₁ ++ p₂ → b₃ ≡ b₂ ++ p₃ →
    b₄ ≡ b₃ ++ p₄ → p₂ ≡ q₂ → p₃ ≡ q₃ → b₄ ≡ old ++ (p₁ ++ (q₂ ++ (q₃ ++ p₄)))
put_in_parts old b₁ b₂ b₃ b₄ p₁ p₂ p₃ p₄ q₂ q₃ e₁ e₂ e₃ e₄ f₂ f₃ =
    rw e₄ (rw e₃ (rw e₂ (rw e₁ (rw f₂ (rw f₃ (simp append_assoc))))))

pub length-pending_front : (p : PendingRecord) → length (pending_front p) ≡ 16 + length p.request
unfolding pending_front
length-pending_front p =
    simp length-append (omega (arith, length-eight_bytes p.position, length-four_bytes (length p.request)))

-- bytes that end before the fields of a record do are no record's
pub no_front-short : (front : List ℕ) → length front < 16 → SpellsNoRecord front
no_front-short front h p most e = omega (arith, ap length e, length-pending_front p)

-- four parts and what follows them, in one row
regrouped : (a b c d e : List ℕ) → (a ++ (b ++ (c ++ d))) ++ e ≡ a ++ (b ++ (c ++ (d ++ e)))
regrouped a b c d e = simp append_assoc

-- the fields at the front of bytes are those of the only record whose front they are
pub record SameFields (head : List ℕ) (position size : ℕ) (rest : List ℕ) (p : PendingRecord) (after : List ℕ) : Type 0 where
  pub at_head : head ≡ record_word
  pub at_position : eight_bytes position ≡ eight_bytes p.position
  pub at_size : size ≡ length p.request
  pub at_rest : rest ≡ p.request ++ after

same_fields : (head rest after : List ℕ) (position size : ℕ) (p : PendingRecord) → length head ≡ 4 → size < 2 ^ 32 →
    length p.request < 2 ^ 32 →
    head ++ (eight_bytes position ++ (four_bytes size ++ rest)) ≡ pending_front p ++ after →
    SameFields head position size rest p after
unfolding pending_front
same_fields head rest after position size p h below few e =
    let first = append-injective head record_word (eight_bytes position ++ (four_bytes size ++ rest))
    (eight_bytes p.position ++ (four_bytes (length p.request) ++ (p.request ++ after))) h
    (e ∙ regrouped record_word (eight_bytes p.position) (four_bytes (length p.request)) p.request after) in
    let second = append-injective (eight_bytes position) (eight_bytes p.position) (four_bytes size ++ rest)
    (four_bytes (length p.request) ++ (p.request ++ after))
    (length-eight_bytes position ∙ sym (length-eight_bytes p.position)) first.1 in
    let third = append-injective (four_bytes size) (four_bytes (length p.request)) rest (p.request ++ after)
    (length-four_bytes size ∙ sym (length-four_bytes (length p.request))) second.1 in
    record {
      at_head = first.0;
      at_position = second.0;
      at_size = four_bytes-injective size (length p.request) below few third.0;
      at_rest = third.1;
    }

-- the fields at the front of bytes make the record whose front they are
pub front_of_fields : (front rest after : List ℕ) (position size : ℕ) (request : List ℕ) → front ≡ record_word ++ rest →
    rest ≡ eight_bytes position ++ after → after ≡ four_bytes size ++ request → length request ≡ size →
    front ≡ pending_front (record { position = position; request = request })
unfolding pending_front
front_of_fields front rest after position size request e d f h =
    rw e (rw d (rw f (rw (sym h) refl)))

-- bytes with another word, or with another length than they name, are no record's
pub no_front-fields : (front head rest after request : List ℕ) (position size : ℕ) → front ≡ head ++ rest →
    length head ≡ 4 → rest ≡ eight_bytes position ++ after → after ≡ four_bytes size ++ request → size < 2 ^ 32 →
    (head ≡ record_word → length request ≡ size → ⊥) → SpellsNoRecord front
no_front-fields front head rest after request position size e h d f below wrong p few g =
    let whole : head ++ (eight_bytes position ++ (four_bytes size ++ request)) ≡ pending_front p ++ [] =
    rw (← f) (rw (← d) (sym e ∙ g ∙ sym (append-nil (pending_front p)))) in
    let same = same_fields head request [] position size p h below few whole in
    wrong same.at_head (ap length same.at_rest ∙ ap length (append-nil p.request) ∙ sym same.at_size)

-- a record is the only one with its front, whatever follows
pending_front-injective : (p q : PendingRecord) (a b : List ℕ) → p.position < 2 ^ 64 → q.position < 2 ^ 64 →
    length p.request < 2 ^ 32 → length q.request < 2 ^ 32 → pending_front p ++ a ≡ pending_front q ++ b → p ≡ q
unfolding pending_front
pending_front-injective p q a b hp hq kp kq e =
    let same : SameFields record_word p.position (length p.request) (p.request ++ a) q b =
    same_fields record_word (p.request ++ a) b p.position (length p.request) q refl kp kq
    (sym (regrouped record_word (eight_bytes p.position) (four_bytes (length p.request)) p.request a) ∙ e) in
    let requests = append-injective p.request q.request a b same.at_size same.at_rest in
    let positions : p.position ≡ q.position = eight_bytes-injective p.position q.position hp hq same.at_position in
    λ i. record { position = positions i; request = requests.0 i }

-- a slot's bytes have one reading
pub one_reading : HasOneReading
unfolding pending_spelling
one_reading slot bytes None None h k = refl
one_reading slot bytes None (Some q) h k = absurd (h q k.0 k.1)
one_reading slot bytes (Some p) None h k = absurd (k p h.0 h.1)
one_reading slot bytes (Some p) (Some q) h k =
    ap Some (pending_front-injective p q _ _ (omega (arith, h.0.most)) (omega (arith, k.0.most))
    (omega (arith, h.0.line.short)) (omega (arith, k.0.line.short)) (sym h.1 ∙ k.1))

-- bytes whose front and digest are split off are a record's exactly where these are the record's
abbrev pub IsSplit : List ℕ → List ℕ → List ℕ → Type 0
IsSplit bytes front digest =
    (front ≡ take (length bytes - 32) bytes) × (digest ≡ drop (length bytes - 32) bytes) × (length front + 32 ≡ length bytes)

pub split_record : (bytes front digest : List ℕ) (p : PendingRecord) → IsSplit bytes front digest →
    bytes ≡ pending_spelling p → (front ≡ pending_front p) × (digest ≡ sha256 (pending_front p))
unfolding pending_spelling
split_record bytes front digest p s e =
    let whole : bytes ≡ front ++ digest = joined _ bytes front digest s.0 s.1 in
    let sizes : length front ≡ length (pending_front p) =
    omega (
      arith,
      s.2,
      ap length e,
      length-append (pending_front p) (sha256 (pending_front p)),
      length-sha256 (pending_front p),
    ) in
    append-injective front (pending_front p) digest (sha256 (pending_front p)) sizes (sym whole ∙ e)

-- too few bytes for a digest, or a front that is no record's, are no record's bytes
pub reads_none-short : (slot : ℕ) (bytes : List ℕ) → length bytes < 32 → ReadsPendingRecord slot bytes None
unfolding pending_spelling
reads_none-short slot bytes h p is e =
    omega (arith, ap length e, length-append (pending_front p) (sha256 (pending_front p)), length-sha256 (pending_front p))

pub reads_none-front : (slot : ℕ) (bytes front digest : List ℕ) → IsSplit bytes front digest → SpellsNoRecord front →
    ReadsPendingRecord slot bytes None
reads_none-front slot bytes front digest s none p is e =
    none p (omega (arith, is.line.short)) (split_record bytes front digest p s e).0

-- so are those of a record that stands in no such slot, or whose digest is wrong
pub reads_none-invalid : (slot : ℕ) (bytes front digest : List ℕ) (q : PendingRecord) → IsSplit bytes front digest →
    SpellsRecord front q → (IsPending slot q → digest ≡ sha256 front → ⊥) → ReadsPendingRecord slot bytes None
reads_none-invalid slot bytes front digest q s f wrong p is e =
    let parts = split_record bytes front digest p s e in
    let fronts : pending_front q ++ [] ≡ pending_front p ++ [] =
    ap (λ (x : List ℕ). x ++ []) (sym f.spelled ∙ parts.0) in
    let same : p ≡ q =
    sym (pending_front-injective q p [] [] f.position (omega (arith, is.most)) f.size (omega (arith, is.line.short)) fronts) in
    wrong (subst (λ (x : PendingRecord). IsPending slot x) same is) (parts.1 ∙ ap sha256 (sym parts.0))

pub reads_some : (slot : ℕ) (bytes front digest : List ℕ) (q : PendingRecord) → IsSplit bytes front digest →
    SpellsRecord front q → IsPending slot q → digest ≡ sha256 front → ReadsPendingRecord slot bytes (Some q)
unfolding pending_spelling
reads_some slot bytes front digest q s f is e = (
  is,
  joined _ bytes front digest s.0 s.1 ∙ ap (λ (x : List ℕ). front ++ x) e
      ∙ ap (λ (x : List ℕ). x ++ sha256 x) f.spelled,
)

-- Laws of slots.

pub longest_slot-is : longest_slot ≡ 1100000
unfolding longest_slot
longest_slot-is = refl

pub take-min : (n : ℕ) (bytes : List ℕ) → take (min (length bytes) n) bytes ≡ take n bytes
take-min n bytes =
    elim (cases_lt n (length bytes)) [
      | inl few ↦ ap (λ m. take m bytes) (omega arith)
      | inr all ↦ (take_all (min (length bytes) n) bytes (omega arith) ∙ sym (take_all n bytes all))
    ]

-- the front of a slot's bytes that has as many of them as a read gives at most
pub take-longest : (bytes front : List ℕ) (n size : ℕ) → n ≡ longest_slot → size ≡ min (length bytes) n →
    front ≡ take size bytes → front ≡ take longest_slot bytes
take-longest bytes front n size e f g =
    g ∙ ap (λ m. take m bytes) f ∙ take-min n bytes ∙ ap (λ m. take m bytes) e

-- a slot holds what was put there
pub slot_in-with_slot : (slots : Slots) (n : ℕ) (bytes : List ℕ) → slot_in (slots_with slots n bytes) n ≡ bytes
slot_in-with_slot slots n bytes = grind (arith, nat_tests)

-- a slot's own bytes change nothing
pub with_slot-same : (slots : Slots) (n : ℕ) → slots_with slots n (slot_in slots n) ≡ slots
with_slot-same slots n = grind (arith, nat_tests)

pub putting-twice : (n : ℕ) (one other : List ℕ) (slots : Option Slots) →
    slots_with_bytes n other (slots_with_bytes n one slots) ≡ slots_with_bytes n other slots
putting-twice n one other slots = grind (arith, nat_tests)

-- Laws of what is told of the slots that have changes that were not synced.

-- the later mark stands
marking-twice : (slot : ℕ) (one other : Bool) (marks : Option UnsyncedSlots) →
    unsynced_slots_with_mark slot other (unsynced_slots_with_mark slot one marks) ≡ unsynced_slots_with_mark slot other marks
marking-twice slot one other marks = grind (arith, nat_tests)

-- a slot alone is marked
pub marks_alone : (slot : ℕ) (mark : Bool) (old new : Option UnsyncedSlots) → new ≡ unsynced_slots_with_mark slot mark old →
    MarksSlotAlone slot old new
marks_alone slot mark old new e = ap (λ (x : Option UnsyncedSlots). unsynced_slots_with_mark slot true x) e
    ∙ marking-twice slot mark true old

-- what a slot is marked with in the end
pub marked_last : (slot : ℕ) (mark : Bool) (old mid new : Option UnsyncedSlots) → MarksSlotAlone slot old mid →
    new ≡ unsynced_slots_with_mark slot mark mid → new ≡ unsynced_slots_with_mark slot mark old
marked_last slot mark old mid new before e =
    e ∙ sym (marking-twice slot true mark mid) ∙ ap (λ (x : Option UnsyncedSlots). unsynced_slots_with_mark slot mark x) before
    ∙ marking-twice slot true mark old
