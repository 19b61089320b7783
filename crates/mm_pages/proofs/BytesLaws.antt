-- Laws of bytes by pages. With it: the steps of a read, one after another; laws of counts, and of
-- what tests of bytes and of digests tell; writes to sheets that failed.
use Rattle.std.specs.Prelude.{if◌then◌else◌}
use Rattle.std.proofs.lemmas.Slice.Eq.{bytes_eq-Decides}
use Rattle.sha2.specs.Sha256.{sha256}
use Rattle.mm_pages.specs.Rows.{resized_bytes, page_of, bytes_with_page}
use Rattle.mm_pages.specs.SlotWrites.{IsPutIn, IsPutAt, GivesSize, GivesPages}
use Rattle.mm_pages.proofs.Below.{ℕ, ◌≡◌, ◌+◌, ◌-◌, ◌*◌, ◌<◌, ◌≤◌, zero, suc, min, List, ◌++◌, length, get_or, take, drop, replicate, refl}
use Rattle.mm_pages.proofs.Below.{ap, sym, ◌∙◌, inl, inr, arith, length-append, cases_lt, drop_min, drop-replicate, length-take}
use Rattle.mm_pages.proofs.Below.{length-replicate, get_or_append_left, get_or-append_right, get_or-take, get_or-drop, get_or_past}
use Rattle.mm_pages.proofs.Below.{append-nil, drop_all, drop-drop, take-min, same_number_lists, Some, Ok, length-take-le, Slots, slot_in}
use Rattle.mm_pages.proofs.Below.{longest_slot, longest_slot-is, page_count, PageStanding, ReadsLength, ReadsPage, Bool, true, false}
use Rattle.mm_pages.proofs.Below.{Option, None, subst, zero-add, ◌&&◌, bytes_eq, next_count, Digest, count_after_so_many, may_be_same}
use Rattle.mm_pages.proofs.Below.{change_count, changes_of, page_digest, Err, Failed, WritesPage, Sheets, SetsLength, standing_of_sheets}
use Rattle.mm_pages.proofs.Below.{bytes_left, sheets_after_call, sheets_after_slot_fault}

pub length-resized : (n : ℕ) (bytes : List ℕ) → length (resized_bytes n bytes) ≡ n
unfolding resized_bytes
length-resized n bytes = simp (length-append, length-take, length-replicate) (omega arith)

get_or-zeros : (n i : ℕ) → ◌≡◌ {A = ℕ} (get_or (replicate n 0) i 0) 0
get_or-zeros zero i = refl
get_or-zeros (suc n) zero = refl
get_or-zeros (suc n) (suc i) = get_or-zeros n i

-- each byte below the new length is as before, those past the old end being zero
pub get_or-resized : (n i : ℕ) (bytes : List ℕ) → i < n → get_or (resized_bytes n bytes) i 0 ≡ get_or bytes i 0
unfolding resized_bytes
get_or-resized n i bytes h =
    elim (cases_lt i (length bytes)) [
      | inl within ↦
          (get_or_append_left (take n bytes) (replicate (n - length bytes) 0) 0 i (omega (arith, length-take n bytes))
          ∙ get_or-take n bytes i 0 h)
      | inr past ↦
          (get_or-append_right (take n bytes) (replicate (n - length bytes) 0) (length bytes) i 0
          (length-take n bytes ∙ omega arith) past
          ∙ get_or-zeros (n - length bytes) (i - length bytes) ∙ sym (get_or_past bytes i 0 past))
    ]

pub length-page_of : (bytes : List ℕ) (page : ℕ) → length (page_of bytes page) ≡ 256
unfolding page_of
length-page_of bytes page = length-resized 256 (drop (256 * page) bytes)

pub get_or-page_of : (bytes : List ℕ) (page i : ℕ) → i < 256 →
    get_or (page_of bytes page) i 0 ≡ get_or bytes (256 * page + i) 0
unfolding page_of
get_or-page_of bytes page i h = get_or-resized 256 i (drop (256 * page) bytes) h ∙ get_or-drop (256 * page) bytes i 0

-- pages with the same bytes are one
pub page_of-same : (bytes other : List ℕ) (page : ℕ) →
    ((i : ℕ) → i < 256 → get_or bytes (256 * page + i) 0 ≡ get_or other (256 * page + i) 0) →
    page_of bytes page ≡ page_of other page
page_of-same bytes other page h =
    same_number_lists (page_of bytes page) (page_of other page)
    (length-page_of bytes page ∙ sym (length-page_of other page))
    (λ i below. let few : i < 256 = omega (arith, length-page_of bytes page) in
    get_or-page_of bytes page i few ∙ h i few ∙ sym (get_or-page_of other page i few))

-- bytes with a part in place of as many at some place
placed : ℕ → List ℕ → ℕ → List ℕ → List ℕ
placed at part size bytes = resized_bytes at bytes ++ (part ++ drop (at + size) bytes)

placed_is : (at size : ℕ) (part bytes : List ℕ) → length part ≡ size → IsPutIn at size part bytes (placed at part size bytes)
unfolding placed
placed_is at size part bytes l =
    let whole : List ℕ = part ++ drop (at + size) bytes in
    record {
      within = λ i h.
          let k : at + i - at ≡ i = omega arith in
          get_or-append_right (resized_bytes at bytes) whole at (at + i) 0 (length-resized at bytes) (omega arith)
          ∙ ap (λ n. get_or whole n 0) k ∙ get_or_append_left part (drop (at + size) bytes) 0 i (omega arith);
      before = λ i h. get_or_append_left (resized_bytes at bytes) whole 0 i (omega (arith, length-resized at bytes))
          ∙ get_or-resized at i bytes h;
      after = λ i h.
          let k : at + size + (i - at - size) ≡ i = omega arith in
          get_or-append_right (resized_bytes at bytes) whole at i 0 (length-resized at bytes) (omega arith)
          ∙ get_or-append_right part (drop (at + size) bytes) size (i - at) 0 l (omega arith)
          ∙ get_or-drop (at + size) bytes (i - at - size) 0 ∙ ap (λ n. get_or bytes n 0) k;
    }

pub put_at : (page : ℕ) (part was : List ℕ) → length part ≡ 256 → IsPutAt page part was (bytes_with_page page part was)
unfolding bytes_with_page placed
put_at page part was l = placed_is (256 * page) 256 part was l

-- bytes of this length that agree up to there
pub resized-same : (bytes now : List ℕ) → ((i : ℕ) → i < length bytes → get_or now i 0 ≡ get_or bytes i 0) →
    resized_bytes (length bytes) now ≡ bytes
resized-same bytes now h =
    same_number_lists (resized_bytes (length bytes) now) bytes (length-resized (length bytes) now)
    (λ i below. let few : i < length bytes = omega (arith, length-resized (length bytes) now) in
    get_or-resized (length bytes) i now few ∙ h i few)

-- bytes that have this length already
pub resized-length : (bytes : List ℕ) → resized_bytes (length bytes) bytes ≡ bytes
resized-length bytes = resized-same bytes bytes (λ i below. refl)

-- the zero bytes behind the bytes that there are
zeros_behind : (size : ℕ) (rest part back : List ℕ) → part ≡ take size rest →
    back ≡ drop (length part) (replicate size 0) → back ≡ replicate (size - length rest) 0
zeros_behind size rest part back f g =
    g ∙ drop-replicate (length part) size 0
    ∙ ap (λ n. replicate n 0) (omega (arith, ap length f, length-take size rest))

padded : (size : ℕ) (rest part back : List ℕ) → part ≡ take size rest → back ≡ replicate (size - length rest) 0 →
    part ++ back ≡ resized_bytes size rest
unfolding resized_bytes
padded size rest part back f g = ap (λ (x : List ℕ). x ++ back) f ∙ ap (λ (x : List ℕ). take size rest ++ x) g

-- a part of the bytes, and zero bytes up to a page
padded_part : (size at : ℕ) (bytes rest part back : List ℕ) → rest ≡ drop (min at (length bytes)) bytes →
    part ≡ take (min (length rest) size) rest → back ≡ drop (length part) (replicate size 0) →
    part ++ back ≡ resized_bytes size (drop at bytes)
padded_part size at bytes rest part back e f g =
    let part_is : part ≡ take size rest = f ∙ take-min size rest in
    padded size rest part back part_is (zeros_behind size rest part back part_is g)
    ∙ ap (λ (x : List ℕ). resized_bytes size x) (e ∙ drop_min at bytes)

pub page_of-parts : (page : ℕ) (bytes rest part back : List ℕ) → rest ≡ drop (min (256 * page) (length bytes)) bytes →
    part ≡ take (min (length rest) 256) rest → back ≡ drop (length part) (replicate 256 0) →
    part ++ back ≡ page_of bytes page
unfolding page_of
page_of-parts page bytes rest part back e f g = padded_part 256 (256 * page) bytes rest part back e f g

-- bytes that end within the part that is put in place
placed-end : (at size : ℕ) (part bytes : List ℕ) → length bytes ≤ at + size →
    resized_bytes at bytes ++ part ≡ placed at part size bytes
unfolding placed
placed-end at size part bytes h =
    ap (λ (x : List ℕ). resized_bytes at bytes ++ x) (sym (append-nil part)
    ∙ ap (λ (x : List ℕ). part ++ x) (sym (drop_all (at + size) bytes h)))

-- bytes that go on after it
placed-amid : (at size : ℕ) (part bytes : List ℕ) → at ≤ length bytes →
    take at bytes ++ (part ++ drop size (drop at bytes)) ≡ placed at part size bytes
unfolding placed resized_bytes
placed-amid at size part bytes h =
    let none : at - length bytes ≡ 0 = omega arith in
    ap (λ (x : List ℕ). x ++ (part ++ drop size (drop at bytes)))
    (sym (append-nil (take at bytes)) ∙ ap (λ n. take at bytes ++ replicate n 0) (sym none))
    ∙ ap (λ (x : List ℕ). (take at bytes ++ replicate (at - length bytes) 0) ++ (part ++ x)) (drop-drop size at bytes)

pub bytes_with_page-end : (page : ℕ) (part bytes : List ℕ) → length bytes ≤ 256 * page + 256 →
    resized_bytes (256 * page) bytes ++ part ≡ bytes_with_page page part bytes
unfolding bytes_with_page placed
bytes_with_page-end page part bytes h = placed-end (256 * page) 256 part bytes h

pub bytes_with_page-amid : (page at : ℕ) (part bytes front rest after : List ℕ) → at ≡ 256 * page → at ≤ length bytes →
    front ≡ take at bytes → rest ≡ drop at bytes → after ≡ drop 256 rest →
    front ++ (part ++ after) ≡ bytes_with_page page part bytes
unfolding bytes_with_page placed
bytes_with_page-amid page at part bytes front rest after e h f g k =
    let back : after ≡ drop 256 (drop at bytes) = k ∙ ap (λ (x : List ℕ). drop 256 x) g in
    ap (λ (x : List ℕ). x ++ (part ++ after)) f ∙ ap (λ (x : List ℕ). take at bytes ++ (part ++ x)) back
    ∙ placed-amid at 256 part bytes h ∙ ap (λ n. placed n part 256 bytes) e

-- The steps of a read, one after another.

-- the pages so far gave these bytes
pub record GivesFirst (slot size count : ℕ) (old new : PageStanding) (bytes : List ℕ) : Type 0 where
  pub same : new ≡ record old { page_reads = new.page_reads }
  pub len : length bytes ≡ min (256 * count) size
  pub gives : (slots : Slots) → old.slots ≡ Some slots → size ≤ length (slot_in slots slot) → (i : ℕ) → i < length bytes
      → get_or bytes i 0 ≡ get_or (slot_in slots slot) i 0

-- one more page
part_at : (page at i left : ℕ) (there part was : List ℕ) → there ≡ page_of was page → part ≡ take (min left 256) there →
    at ≡ 256 * page → at ≤ i → i < at + min left 256 → get_or part (i - at) 0 ≡ get_or was i 0
part_at page at i left there part was e f a low high =
    let k : 256 * page + (i - at) ≡ i = omega arith in
    ap (λ (x : List ℕ). get_or x (i - at) 0) f
    ∙ get_or-take (min left 256) there (i - at) 0 (omega arith)
    ∙ ap (λ (x : List ℕ). get_or x (i - at) 0) e
    ∙ get_or-page_of was page (i - at) (omega arith)
    ∙ ap (λ n. get_or was n 0) k

pub gives_more : {slot size page : ℕ} {old mid new : PageStanding} {bytes there part : List ℕ} {done : Unit} →
    256 * page < size → GivesFirst slot size page old mid bytes → ReadsPage slot page mid new there (Ok done) →
    part ≡ take (min (size - 256 * page) 256) there → length part ≡ min (size - 256 * page) 256 →
    GivesFirst slot size (page + 1) old new (bytes ++ part)
gives_more {slot} {size} {page} {old} {bytes = bytes} {there = there} {part = part} within g r p l =
    let at : length bytes ≡ 256 * page = omega (arith, g.len) in
    let size_is : length (bytes ++ part) ≡ length bytes + length part = length-append bytes part in
    record {
      same = r.same ∙ (λ i. record (g.same i) {
        faults = (r.counted_faults.kept ∙ ap (λ (x : PageStanding). x.faults) g.same) i;
        page_reads = sym (ap (λ (x : PageStanding). x.page_reads) r.same) i;
      });
      len = omega (arith, size_is, g.len, l);
      gives =
          λ slots e most i below.
          elim (cases_lt i (length bytes)) [
            | inl before ↦ (get_or_append_left bytes part 0 i before ∙ g.gives slots e most i before)
            | inr here ↦
                (get_or-append_right bytes part (length bytes) i 0 refl here
                ∙ part_at page (length bytes) i (size - 256 * page) there part (slot_in slots slot)
                (r.gives slots (ap (λ (x : PageStanding). x.slots) g.same ∙ e)) p at here (omega (arith, size_is, l)))
          ];
    }

pub gives_all : {slot size : ℕ} {old new : PageStanding} {bytes : List ℕ} {done : Unit} →
    GivesFirst slot size (page_count size) old new bytes → GivesPages slot size old new bytes (Ok done)
gives_all {slot} {size} {old} {new} {bytes} g =
    let size_is : length bytes ≡ size = omega (arith, g.len) in
    record {
      same = g.same
          ∙ (λ i. record old { faults = sym (ap (λ (x : PageStanding). x.faults) g.same) i; page_reads = new.page_reads });
      counted_faults = ap (λ (x : PageStanding). x.faults) g.same;
      len = size_is;
      gives =
          λ slots e most.
          let there : List ℕ = slot_in slots slot in
          same_number_lists bytes (take size there) (size_is ∙ sym (length-take-le size there most))
          (λ i below. g.gives slots e most i below ∙ sym (get_or-take size there i 0 (omega arith)));
    }

-- how many bytes a read of a slot gives
size_of_seen : (n size : ℕ) (bytes : List ℕ) → n ≡ 1100000 → size ≡ min (length bytes) 1100000 →
    size ≡ length (take n bytes)
size_of_seen n size bytes e f = omega (arith, length-take n bytes)

pub gives_size : {slot seen size : ℕ} {old new : PageStanding} → ReadsLength slot old new (Ok seen) →
    size ≡ min seen 1100000 → GivesSize slot old new (Ok size)
gives_size {slot} {size = size} r e = record {
  same = r.same;
  counted_faults = record { later = r.counted_faults.later; kept = r.counted_faults.kept; failed = tt };
  most = omega arith;
  gives =
      λ slots f.
      size_of_seen longest_slot size (slot_in slots slot) longest_slot-is
      (e ∙ ap (λ n. min n 1100000) (r.gives slots f));
}

-- Laws of counts, and of what tests of bytes and of digests tell.

pub count_after_so_many-add : (m n count : ℕ) → count_after_so_many (m + n) count ≡ count_after_so_many m (count_after_so_many n count)
count_after_so_many-add zero n count = ap (λ k. count_after_so_many k count) (zero-add n)
count_after_so_many-add (suc m) n count =
    let more : suc m + n ≡ suc (m + n) = omega arith in
    ap (λ k. count_after_so_many k count) more ∙ ap next_count (count_after_so_many-add m n count)

-- bytes that pass the test are the same
pub same_bytes : (one other : List ℕ) → bytes_eq one other ≡ true → one ≡ other
same_bytes one other e = (bytes_eq-Decides one other).0 e

-- a page that was found there is there, and doesn't change
pub held : (a : Bool) (was part : List ℕ) → true ≡ (a && bytes_eq was part) → was ≡ part
held a was part e = grind (arith, same_bytes, e)

pub no_change : (a : Bool) (was part : List ℕ) → true ≡ (a && bytes_eq was part) → change_count was part ≡ 0
no_change a was part e = grind (arith, e)

-- a page with the digest that is kept, if any, may be there
alike : (kept : Option Digest) (part : List ℕ) → ((digest : Digest) → kept ≡ Some digest → digest ≡ page_digest part) →
    may_be_same kept (page_digest part) ≡ true
alike None part step = refl
alike (Some kept) part step = (bytes_eq-Decides kept.bytes (sha256 part)).1 (ap (λ (d : Digest). d.bytes) (step kept refl))

-- so a page that wasn't found there, by its bytes or by the digest of what is there, changes
pub a_change : (kept : Option Digest) (was part : List ℕ) →
    ((digest : Digest) → kept ≡ Some digest → digest ≡ page_digest was) →
    false ≡ (may_be_same kept (page_digest part) && bytes_eq was part) → change_count was part ≡ 1
a_change kept was part step e = by_test (bytes_eq was part) refl
  where
    by_test : (b : Bool) → bytes_eq was part ≡ b → change_count was part ≡ 1
    by_test false f = rw f refl
    by_test true f =
        let may = alike kept part (subst (λ (x : List ℕ). (digest : Digest) → kept ≡ Some digest → digest ≡ page_digest x)
        (same_bytes was part f) step) in
        let clash : false ≡ true = e ∙ (λ j. may j && f j) in absurd (cc)

-- bytes that are there already don't change
pub changes_of-same : (bytes : List ℕ) (count : ℕ) → changes_of bytes bytes count ≡ 0
changes_of-same bytes zero = refl
changes_of-same bytes (suc count) =
    let page : List ℕ = page_of bytes count in
    let one : change_count page page ≡ 0 = rw ((bytes_eq-Decides page page).1 refl) refl in
    omega (arith, one, changes_of-same bytes count)

-- Writes to sheets that failed.

fault_in : (slot : ℕ) (old counted new : Sheets) (b : Bool) → counted ≡ old →
    new ≡ (if b then sheets_after_slot_fault slot counted else sheets_after_call counted) → b ≡ true →
    new ≡ sheets_after_slot_fault slot old
fault_in slot old counted new b s e t =
    e ∙ ap (λ (v : Bool). if v then sheets_after_slot_fault slot counted else sheets_after_call counted) t
    ∙ ap (sheets_after_slot_fault slot) s

pub page_not_written : (slot page : ℕ) (part : List ℕ) (old counted new : Sheets) (b : Bool) (fault : Failed) →
    counted ≡ record old { page_writes = next_count old.page_writes } →
    new ≡ (if b then sheets_after_slot_fault slot counted else sheets_after_call counted) → b ≡ true → old.faults ≤ new.faults →
    WritesPage slot page part (standing_of_sheets old) (standing_of_sheets new) (Err fault)
page_not_written slot page part old counted new b fault s e t later =
    let before : Sheets = record old { page_writes = next_count old.page_writes } in
    subst (λ (n : Sheets). old.faults ≤ n.faults → WritesPage slot page part (standing_of_sheets old) (standing_of_sheets n) (Err fault))
    (sym (fault_in slot before counted new b s e t))
    (λ rose. record {
      same = refl;
      counted_faults = record { later = rose; kept = tt; failed = refl };
      leaves = λ honest. (bytes_left slot before, refl);
    }) later

pub length_not_set : (slot size : ℕ) (old counted new : Sheets) (b : Bool) (fault : Failed) →
    counted ≡ record old { length_writes = next_count old.length_writes } →
    new ≡ (if b then sheets_after_slot_fault slot counted else sheets_after_call counted) → b ≡ true → old.faults ≤ new.faults →
    SetsLength slot size (standing_of_sheets old) (standing_of_sheets new) (Err fault)
length_not_set slot size old counted new b fault s e t later =
    let before : Sheets = record old { length_writes = next_count old.length_writes } in
    subst (λ (n : Sheets). old.faults ≤ n.faults → SetsLength slot size (standing_of_sheets old) (standing_of_sheets n) (Err fault))
    (sym (fault_in slot before counted new b s e t))
    (λ rose. record {
      same = refl;
      counted_faults = record { later = rose; kept = tt; failed = refl };
      leaves = λ honest. (bytes_left slot before, refl);
    }) later
