-- The steps of a write, one after another.
use Rattle.mm_pages.proofs.Below.{ℕ, ◌≡◌, ◌+◌, ◌*◌, ◌<◌, ◌≤◌, suc, true, false, Option, Some, Result, Ok, Err, List, ◌++◌, length, get_or}
use Rattle.mm_pages.proofs.Below.{take, drop, refl, ap, sym, ◌∙◌, subst, inl, inr, arith, ◌-◌, length-append, is_err, cases_lt, Failed}
use Rattle.mm_pages.proofs.Below.{CountRose, Digest, Slots, slot_in, slots_with, slots_with_bytes, slot_in-with_slot, with_slot-same}
use Rattle.mm_pages.proofs.Below.{putting-twice, marks_alone, marked_last, unsynced_slots_with_mark, CachedDevice, resized_bytes, page_of}
use Rattle.mm_pages.proofs.Below.{page_count, PageStanding, ReadsLength, SyncsPages, slots_with_change, count_after_so_many, may_be_same}
use Rattle.mm_pages.proofs.Below.{look_count, total_of_looks, change_count, changes_of, one_if, Rows, row_in, rows_with, kept_digest}
use Rattle.mm_pages.proofs.Below.{page_digest, row_with_digest, digests_of_pages, IsPutAt, SlotFails, WriteFails, ChangesSlot, PutsOnePage}
use Rattle.mm_pages.proofs.Below.{IsFilled, PutsFirstPages, FitsSlot, FitsAndSyncs, EndsInSync, PutsWholeSlot, PutsBytes}
use Rattle.mm_pages.proofs.BytesLaws.{get_or-page_of, page_of-same, resized-same, resized-length, count_after_so_many-add, changes_of-same}
use Rattle.mm_pages.proofs.RenewalLaws.{row_in-with_row, with_row-twice, with_row-same, keeping-next, kept_of-next, length-digests_of}
use Rattle.mm_pages.proofs.RenewalLaws.{take-digests_of, changed, stays, left_by, slots_stay}

-- no page yet
pub puts_none : (slot : ℕ) (bytes : List ℕ) (paged : PageStanding) (rows : Rows) → PutsFirstPages slot 0 bytes paged paged rows rows
puts_none slot bytes paged rows = record {
  honest = refl;
  faults = refl;
  lengths = refl;
  marks = refl;
  sure = record { renewals = refl; doubtful = refl };
  rows_are = sym (with_row-same rows slot);
  looks = refl;
  fills = λ honest. stays slot (IsFilled 0 bytes) paged.slots
      (λ told e. record { filled = λ i below. absurd (omega arith); after = λ i after. refl });
  changes = λ honest told e steps. record { writes = refl; still = λ none. refl };
}

-- the slots are still told after one of them changed
told_after : (slot : ℕ) (left : List ℕ) (old new : Option Slots) (told : Slots) → new ≡ slots_with_bytes slot left old →
    old ≡ Some told → new ≡ Some (slots_with told slot left)
told_after slot left old new told e f = e ∙ ap (λ (x : Option Slots). slots_with_bytes slot left x) f

-- a page beyond those that were put is as it was
page_after : (count : ℕ) (bytes was now : List ℕ) → IsFilled count bytes was now → page_of now count ≡ page_of was count
page_after count bytes was now f = page_of-same now was count (λ i below. f.after (256 * count + i) (omega arith))

-- one more page
filled_more : (count : ℕ) (bytes was mid now : List ℕ) → IsFilled count bytes was mid →
    IsPutAt count (page_of bytes count) mid now → IsFilled (suc count) bytes was now
filled_more count bytes was mid now f p = record {
  filled =
      λ i below.
      elim (cases_lt i (256 * count)) [
        | inl before ↦ (p.before i before ∙ f.filled i before)
        | inr here ↦
            (let at : 256 * count + (i - 256 * count) ≡ i = omega arith in
            let few : i - 256 * count < 256 = omega arith in
            ap (λ n. get_or now n 0) (sym at) ∙ p.within (i - 256 * count) few
            ∙ get_or-page_of bytes count (i - 256 * count) few ∙ ap (λ n. get_or bytes n 0) at)
      ];
  after = λ i after. p.after i (omega arith) ∙ f.after i (omega arith);
}

-- a slot that changes again
then_left : (slot : ℕ) (old : Option Slots) {mid new : Option Slots} (f : (left : List ℕ) × (mid ≡ slots_with_bytes slot left old)) →
    (g : (left : List ℕ) × (new ≡ slots_with_bytes slot left mid)) → new ≡ slots_with_bytes slot g.0 old
then_left slot old f g = g.1 ∙ ap (slots_with_bytes slot g.0) f.1 ∙ putting-twice slot f.0 g.0 old

changes_then : {slot : ℕ} {One Other Both : List ℕ → List ℕ → Type 0} {old mid new : Option Slots} →
    ((was between now : List ℕ) → One was between → Other between now → Both was now) → ChangesSlot slot One old mid →
    ChangesSlot slot Other mid new → ChangesSlot slot Both old new
changes_then {slot} {One} {Other} {Both} {old} {mid} both f g = record {
  left = g.left;
  slots = then_left slot old (f.left, f.slots) (g.left, g.slots);
  so = λ told e. both (slot_in told slot) f.left g.left (f.so told e) (subst (λ (x : List ℕ). Other x g.left)
      (slot_in-with_slot told slot f.left) (g.so (slots_with told slot f.left) (told_after slot f.left old mid told f.slots e)));
}

pub puts_more : {slot count : ℕ} {bytes : List ℕ} {old mid new : PageStanding} {rows some after : Rows} →
    PutsFirstPages slot count bytes old mid rows some → PutsOnePage slot count (page_of bytes count) mid new some after →
    PutsFirstPages slot (suc count) bytes old new rows after
puts_more {slot} {count} {bytes} {old} {mid} {new} {rows} {some} f p =
    let part : List ℕ = page_of bytes count in
    let firsts : List (Option Digest) = digests_of_pages bytes count in
    let row : List (Option Digest) = row_in rows slot in
    let row_is : row_in some slot ≡ firsts ++ drop count row =
    ap (λ (x : Rows). row_in x slot) f.rows_are ∙ row_in-with_row rows slot (firsts ++ drop count row) in
    let kept_is : kept_digest (row_in some slot) count ≡ kept_digest row count =
    ap (λ (x : List (Option Digest)). kept_digest x count) row_is
    ∙ kept_of-next count firsts row (length-digests_of bytes count) in
    let more : row_with_digest count (page_digest part) (row_in some slot) ≡ digests_of_pages bytes (suc count) ++ drop (suc count) row =
    ap (λ (x : List (Option Digest)). row_with_digest count (page_digest part) x) row_is
    ∙ keeping-next count (page_digest part) firsts row (length-digests_of bytes count) in
    record {
      honest = p.honest ∙ f.honest;
      faults = p.faults ∙ f.faults;
      lengths = p.lengths ∙ f.lengths;
      marks = p.marks ∙ f.marks;
      sure = record { renewals = p.sure.renewals ∙ f.sure.renewals; doubtful = p.sure.doubtful ∙ f.sure.doubtful };
      rows_are =
          p.rows_are ∙ (λ j. rows_with (f.rows_are j) slot (more j))
          ∙ with_row-twice rows slot (firsts ++ drop count row) (digests_of_pages bytes (suc count) ++ drop (suc count) row);
      looks =
          p.looks ∙ (λ j. count_after_so_many (one_if (may_be_same (kept_is j) (page_digest part))) (f.looks j))
          ∙ sym (count_after_so_many-add (look_count row count part) (total_of_looks row bytes count) old.page_reads);
      fills = λ honest. changes_then (filled_more count bytes) (f.fills honest) (p.puts (f.honest ∙ honest));
      changes =
          λ honest told e steps.
          let g = f.fills honest in
          let was : List ℕ = slot_in told slot in
          let page : page_of (slot_in (slots_with told slot g.left) slot) count ≡ page_of was count =
          ap (λ (x : List ℕ). page_of x count) (slot_in-with_slot told slot g.left) ∙ page_after count bytes was g.left (g.so told e) in
          let first = f.changes honest told e steps in
          let then = p.changes (slots_with told slot g.left) (told_after slot g.left old.slots mid.slots told g.slots e)
          (λ x k. steps count x (sym kept_is ∙ k) ∙ ap page_digest (sym page)) in
          record {
            writes = then.writes ∙ (λ j. count_after_so_many (change_count (page j) part) (first.writes j))
                ∙ sym (count_after_so_many-add (change_count (page_of was count) part) (changes_of was bytes count) old.page_writes);
            still = λ none. then.still (ap (λ (x : List ℕ). change_count x part) page ∙ omega (arith, none))
                ∙ first.still (omega (arith, none));
          };
    }

-- where the digests so far stand, the next one follows
pub reaches : {slot count : ℕ} {bytes : List ℕ} {old new : PageStanding} {rows after : Rows} →
    PutsFirstPages slot count bytes old new rows after → count ≤ length (row_in after slot)
reaches {slot} {count} {bytes} {rows = rows} f =
    let row_is = ap (λ (x : Rows). row_in x slot) f.rows_are
    ∙ row_in-with_row rows slot (digests_of_pages bytes count ++ drop count (row_in rows slot)) in
    omega (arith, ap length row_is, length-append {A = Option Digest}, length-digests_of bytes count)

-- a failure after some pages
pub fails_after : {slot count : ℕ} {bytes : List ℕ} {old mid new : PageStanding} {rows some after : Rows} →
    PutsFirstPages slot count bytes old mid rows some → WriteFails slot mid new some after → WriteFails slot old new rows after
fails_after {slot} {old = old} {new = new} {rows = rows} f g = record {
  paged = record {
    honest = g.paged.honest ∙ f.honest;
    faults = subst (λ n. CountRose n new.faults) f.faults g.paged.faults;
    leaves =
        λ honest.
        let later = g.paged.leaves (f.honest ∙ honest) in (later.0, then_left slot old.slots (left_by (f.fills honest)) later);
    marks = g.paged.marks ∙ f.marks;
    renewals = g.paged.renewals ∙ f.sure.renewals;
    doubts = g.paged.doubts ∙ ap (unsynced_slots_with_mark slot true) f.sure.doubtful;
  };
  row = g.row;
  rows_are = g.rows_are ∙ ap (λ (x : Rows). rows_with x slot g.row) f.rows_are ∙ with_row-twice rows slot _ g.row;
}

-- slots whose length is right
length_stays : (slot size : ℕ) (slots : Option Slots) → ((told : Slots) → slots ≡ Some told → length (slot_in told slot) ≡ size) →
    slots ≡ slots_with_change slot (resized_bytes size) slots
length_stays slot size slots h = grind (arith, with_slot-same, resized-length, h)

-- the length, where it is right already
pub fits_already : {slot size seen : ℕ} {old new : PageStanding} → ReadsLength slot old new (Ok seen) → seen ≡ size →
    FitsSlot slot size old new
fits_already {slot} {size} {old = old} {new = new} r e = record {
  honest = ap (λ (x : PageStanding). x.is_honest) r.same;
  faults = r.counted_faults.kept;
  reads = ap (λ (x : PageStanding). x.page_reads) r.same;
  writes = ap (λ (x : PageStanding). x.page_writes) r.same;
  lengths = inl (ap (λ (x : PageStanding). x.length_writes) r.same);
  settled = λ told f l. ap (λ (x : PageStanding). x.length_writes) r.same;
  slots =
      λ honest. ap (λ (x : PageStanding). x.slots) r.same ∙ length_stays slot size old.slots (λ told f. sym (r.gives told f) ∙ e);
  marks = ap (λ (x : PageStanding). unsynced_slots_with_mark slot true x.unsynced) r.same;
  sure = record { renewals = ap (λ (x : PageStanding). x.renewals) r.same; doubtful = ap (λ (x : PageStanding). x.doubtful) r.same };
}

pub length_failed : {slot : ℕ} {old new : PageStanding} {fault : Failed} → ReadsLength slot old new (Err fault) → SlotFails slot old new
length_failed {slot} {old} {new} r = record {
  honest = ap (λ (x : PageStanding). x.is_honest) r.same;
  faults = r.counted_faults.failed;
  leaves = λ honest. let stay = slots_stay slot old.slots in (stay.0, ap (λ (x : PageStanding). x.slots) r.same ∙ stay.1);
  marks = ap (λ (x : PageStanding). unsynced_slots_with_mark slot true x.unsynced) r.same;
  renewals = ap (λ (x : PageStanding). x.renewals) r.same;
  doubts = ap (λ (x : PageStanding). unsynced_slots_with_mark slot true x.doubtful) r.same;
}

-- a length that is fitted, and then synced or not
pub fits_synced : (slot size : ℕ) (old mid new : PageStanding) (result : Result Unit Failed) → FitsSlot slot size old mid →
    SyncsPages slot mid new result → EndsInSync slot size old new result
fits_synced slot size old mid new (Ok done) f s = record { fitted = mid; fits = f; syncs = s }
fits_synced slot size old mid new (Err fault) f s = record {
  honest = ap (λ (x : PageStanding). x.is_honest) s.same ∙ f.honest;
  faults = subst (λ n. CountRose n new.faults) f.faults s.counted_faults.failed;
  leaves =
      λ honest.
      let left = s.leaves (f.honest ∙ honest) in (
        left.0,
        then_left slot old.slots
            (left_by (changed slot (λ was now. Unit {0}) (resized_bytes size) old.slots mid.slots (f.slots honest) (λ told e. tt))) left,
      );
  marks =
      marks_alone slot true mid.unsynced new.unsynced (ap (λ (x : PageStanding). x.unsynced) s.same) ∙ f.marks;
  renewals = ap (λ (x : PageStanding). x.renewals) s.same ∙ f.sure.renewals;
  doubts =
      marks_alone slot true mid.doubtful new.doubtful (ap (λ (x : PageStanding). x.doubtful) s.same)
      ∙ ap (unsynced_slots_with_mark slot true) f.sure.doubtful;
}

-- what is in a slot whose pages are those of the bytes, once it has their length
whole : (bytes was now : List ℕ) → IsFilled (page_count (length bytes)) bytes was now →
    resized_bytes (length bytes) now ≡ bytes
whole bytes was now f = resized-same bytes now (λ i below. f.filled i (omega arith))

put_as : (slot : ℕ) (bytes : List ℕ) (old new : Option Slots) → ChangesSlot slot (λ was now. now ≡ bytes) old new →
    new ≡ slots_with_bytes slot bytes old
put_as slot bytes old new c = grind (arith, c)

-- all pages, and then the length
pub puts_all : {slot : ℕ} {bytes : List ℕ} {old mid new : PageStanding} {rows some after : Rows} →
    PutsFirstPages slot (page_count (length bytes)) bytes old mid rows some →
    after ≡ rows_with some slot (take (page_count (length bytes)) (row_in some slot)) →
    FitsAndSyncs slot (length bytes) mid new → PutsWholeSlot slot bytes old new rows after
puts_all {slot} {bytes} {old} {mid} {new} {rows} {some} f r ends =
    let g = ends.fits in
    let s = ends.syncs in
    let count : ℕ = page_count (length bytes) in
    let row_is : row_in some slot ≡ digests_of_pages bytes count ++ drop count (row_in rows slot) =
    ap (λ (x : Rows). row_in x slot) f.rows_are
    ∙ row_in-with_row rows slot (digests_of_pages bytes count ++ drop count (row_in rows slot)) in
    let cut : take count (row_in some slot) ≡ digests_of_pages bytes count =
    ap (λ (x : List (Option Digest)). take count x) row_is ∙ take-digests_of bytes count (drop count (row_in rows slot)) in
    record {
      honest = ap (λ (x : PageStanding). x.is_honest) s.same ∙ g.honest ∙ f.honest;
      faults = s.counted_faults.kept ∙ g.faults ∙ f.faults;
      lengths = rw (ap (λ (x : PageStanding). x.length_writes) s.same, sym f.lengths) g.lengths;
      synced =
          marked_last slot false old.unsynced ends.fitted.unsynced new.unsynced (g.marks ∙ f.marks)
          (ap (λ (x : PageStanding). x.unsynced) s.same);
      sure = record {
        renewals = ap (λ (x : PageStanding). x.renewals) s.same ∙ g.sure.renewals ∙ f.sure.renewals;
        doubtful = ap (λ (x : PageStanding). x.doubtful) s.same ∙ g.sure.doubtful ∙ f.sure.doubtful;
      };
      rows_are =
          r ∙ (λ j. rows_with (f.rows_are j) slot (cut j))
          ∙ with_row-twice rows slot _ (digests_of_pages bytes count);
      looks = ap (λ (x : PageStanding). x.page_reads) s.same ∙ g.reads ∙ f.looks;
      slots =
          λ honest.
          s.leaves (g.honest ∙ f.honest ∙ honest) ∙ put_as slot bytes old.slots ends.fitted.slots
          (changes_then (λ was between now filled fitted. fitted ∙ whole bytes was between filled) (f.fills honest)
          (changed slot (λ was now. now ≡ resized_bytes (length bytes) was) (resized_bytes (length bytes)) mid.slots ends.fitted.slots
          (g.slots (f.honest ∙ honest)) (λ told e. refl)));
      writes = λ honest told e steps. ap (λ (x : PageStanding). x.page_writes) s.same ∙ g.writes ∙ (f.changes honest told e steps).writes;
      settled =
          λ honest told e steps same.
          let none : changes_of (slot_in told slot) bytes count ≡ 0 =
          subst (λ (x : List ℕ). changes_of x bytes count ≡ 0) (sym same) (changes_of-same bytes count) in
          ap (λ (x : PageStanding). x.length_writes) s.same
          ∙ g.settled told ((f.changes honest told e steps).still none ∙ e) (ap length same) ∙ f.lengths;
    }

-- all pages, and then a failure
pub fails_at_end : {slot : ℕ} {bytes : List ℕ} {old mid new : PageStanding} {rows some after : Rows} →
    PutsFirstPages slot (page_count (length bytes)) bytes old mid rows some →
    after ≡ rows_with some slot (take (page_count (length bytes)) (row_in some slot)) →
    SlotFails slot mid new → WriteFails slot old new rows after
fails_at_end {slot} {bytes} {some = some} f r g =
    fails_after f (record { paged = g; row = take (page_count (length bytes)) (row_in some slot); rows_are = r })

-- a write that didn't fail, of a store that is seen so
pub put_whole : {D : Type 0} (pages : D → PageStanding) (slot : ℕ) (bytes : List ℕ) (x y : CachedDevice D)
    (new : PageStanding) (after : Rows)
    (result : Result Unit Failed) → x ≡ y → PutsBytes slot bytes (pages x.device) new x.rows after result → is_err result ≡ false →
    PutsWholeSlot slot bytes (pages y.device) new y.rows after
put_whole pages slot bytes x y new after result same p e = grind (arith, same, p, e)
