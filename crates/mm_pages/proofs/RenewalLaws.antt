-- A use of a slot, which was renewed before where that was due. With it: laws of the digests that
-- are kept; digests that are those of what the device has; one page of a write.
use Rattle.std.specs.Prelude.{IfOk}
use Rattle.std.proofs.lemmas.Bool.Decides.{nat_tests}
use Rattle.mm_pages.proofs.Below.{ℕ, ◌≡◌, ◌+◌, ◌-◌, zero, suc, Option, Some, None, List, [], ◌∷◌, ◌++◌, length, get_or, take, drop, refl}
use Rattle.mm_pages.proofs.Below.{ap, sym, ◌∙◌, arith, length-append, append_assoc, add-one, subst, get_or-append_right, get_or-drop}
use Rattle.mm_pages.proofs.Below.{drop-drop, drop_at, take-append_seam, Digest, page_of, Rows, row_in, rows_with, kept_digest, page_digest}
use Rattle.mm_pages.proofs.Below.{row_with_digest, digests_of_pages, true, inl, inr, cases_lt, get_or_append_left, Slots, slots_with}
use Rattle.mm_pages.proofs.Below.{slots_with_bytes, page_count, PageStanding, PutsWholeSlot, AreDigestsOf, AreInStep, KeepsStep, Bool}
use Rattle.mm_pages.proofs.Below.{false, Result, Ok, Err, ◌&&◌, bytes_eq, Failed, next_count, slot_in, unsynced_slots_with_mark}
use Rattle.mm_pages.proofs.Below.{with_slot-same, marks_alone, bytes_with_page, WritesPage, slots_with_change, count_after_so_many}
use Rattle.mm_pages.proofs.Below.{may_be_same, look_count, change_count, one_if, DropsPage, IsInStep, HoldsPage, IsPutAt, WriteFails}
use Rattle.mm_pages.proofs.Below.{ChangesSlot, PutsOnePage, CountRose, is_err, slot_front, StoreFault, SlotFailed, ReadsSlot, WritesSlot}
use Rattle.mm_pages.proofs.Below.{CountsFailures, UnsyncedSlots, MarksSlotAlone, store_standing_on, changes_of, CachedDevice, RenewsIfDue}
use Rattle.mm_pages.proofs.Below.{ReadGoes, ReadsRenewed, WriteGoes, WritesRenewed}
use Rattle.mm_pages.proofs.BytesLaws.{get_or-page_of, put_at, held, no_change, a_change}

-- Laws of the digests that are kept.

pub row_in-with_row : (rows : Rows) (n : ℕ) (row : List (Option Digest)) → row_in (rows_with rows n row) n ≡ row
row_in-with_row rows n row = grind (arith, nat_tests)

pub with_row-twice : (rows : Rows) (n : ℕ) (one other : List (Option Digest)) →
    rows_with (rows_with rows n one) n other ≡ rows_with rows n other
with_row-twice rows n one other = grind (arith, nat_tests)

pub with_row-same : (rows : Rows) (n : ℕ) → rows_with rows n (row_in rows n) ≡ rows
with_row-same rows n = grind (arith, nat_tests)

-- a digest that follows those of the pages before it
seam : (digest : Digest) (firsts row : List (Option Digest)) →
    row_with_digest (length firsts) digest (firsts ++ drop (length firsts) row)
    ≡ (firsts ++ (Some digest ∷ [])) ++ drop (suc (length firsts)) row
seam digest firsts row =
    let n : ℕ = length firsts in
    let whole : List (Option Digest) = firsts ++ drop n row in
    let front : take n whole ≡ firsts = take-append_seam firsts (drop n row) in
    let back : drop (n + 1) whole ≡ drop (suc n) row =
    sym (drop-drop 1 n whole) ∙ ap (λ (x : List (Option Digest)). drop 1 x) (drop_at firsts (drop n row) n refl)
    ∙ drop-drop 1 n row ∙ ap (λ m. drop m row) (add-one n) in
    ap (λ (x : List (Option Digest)). x ++ (Some digest ∷ drop (n + 1) whole)) front
    ∙ ap (λ (x : List (Option Digest)). firsts ++ (Some digest ∷ x)) back
    ∙ sym (append_assoc firsts (Some digest ∷ []) (drop (suc n) row))

pub keeping-next : (page : ℕ) (digest : Digest) (firsts row : List (Option Digest)) → length firsts ≡ page →
    row_with_digest page digest (firsts ++ drop page row) ≡ (firsts ++ (Some digest ∷ [])) ++ drop (suc page) row
keeping-next page digest firsts row e =
    subst (λ n. row_with_digest n digest (firsts ++ drop n row) ≡ (firsts ++ (Some digest ∷ [])) ++ drop (suc n) row) e
    (seam digest firsts row)

pub keeping-alike : (page : ℕ) (digest : Digest) (one other : List (Option Digest)) → take page one ≡ take page other →
    drop (page + 1) one ≡ drop (page + 1) other → row_with_digest page digest one ≡ row_with_digest page digest other
keeping-alike page digest one other e f =
    ap (λ (x : List (Option Digest)). x ++ (Some digest ∷ drop (page + 1) one)) e
    ∙ ap (λ (x : List (Option Digest)). take page other ++ (Some digest ∷ x)) f

-- what is kept of a page behind the digests of the pages before it
pub kept_of-next : (page : ℕ) (firsts row : List (Option Digest)) → length firsts ≡ page →
    kept_digest (firsts ++ drop page row) page ≡ kept_digest row page
kept_of-next page firsts row e =
    get_or-append_right firsts (drop page row) page page None e (omega arith)
    ∙ get_or-drop page row (page - page) None
    ∙ ap (λ n. get_or row n None) (omega arith)

pub length-digests_of : (bytes : List ℕ) (count : ℕ) → length (digests_of_pages bytes count) ≡ count
length-digests_of bytes zero = refl
length-digests_of bytes (suc count) =
    length-append (digests_of_pages bytes count) (Some (page_digest (page_of bytes count)) ∷ [])
    ∙ omega (arith, length-digests_of bytes count)

pub take-digests_of : (bytes : List ℕ) (count : ℕ) (rest : List (Option Digest)) →
    take count (digests_of_pages bytes count ++ rest) ≡ digests_of_pages bytes count
take-digests_of bytes count rest =
    let firsts : List (Option Digest) = digests_of_pages bytes count in
    subst (λ n. take n (firsts ++ rest) ≡ firsts) (length-digests_of bytes count) (take-append_seam firsts rest)

-- Digests that are those of what the device has.

last_of : (n : ℕ) (digest other : Digest) → get_or (Some digest ∷ []) n None ≡ Some other → (n ≡ 0) × (digest ≡ other)
last_of n digest other e = grind (arith, e)

-- the digests of bytes are those of their own pages
are_of_own : (bytes : List ℕ) (count : ℕ) → AreDigestsOf (digests_of_pages bytes count) bytes
are_of_own bytes zero page digest e = absurd (cc)
are_of_own bytes (suc count) page digest e =
    let firsts : List (Option Digest) = digests_of_pages bytes count in
    let last : Digest = page_digest (page_of bytes count) in
    elim (cases_lt page count) [
      | inl before ↦
          are_of_own bytes count page digest
          (sym (get_or_append_left firsts (Some last ∷ []) None page (omega (arith, length-digests_of bytes count))) ∙ e)
      | inr here ↦
          (let found = last_of (page - count) last digest
          (sym (get_or-append_right firsts (Some last ∷ []) count page None (length-digests_of bytes count) here) ∙ e) in
          let same : count ≡ page = omega (arith, found.0) in
          sym found.1 ∙ ap (λ n. page_digest (page_of bytes n)) same)
    ]

step_with : (slot : ℕ) (rows : Rows) (slots : Slots) (row : List (Option Digest)) (bytes : List ℕ) →
    AreInStep rows slots → AreDigestsOf row bytes → AreInStep (rows_with rows slot row) (slots_with slots slot bytes)
step_with slot rows slots row bytes h k = grind (arith, nat_tests, h, k)

-- one slot and its digests changed
step_after : (slot : ℕ) {rows after : Rows} (row : List (Option Digest)) (bytes : List ℕ) {old new : Option Slots} {was now : Slots} →
    after ≡ rows_with rows slot row → new ≡ slots_with_bytes slot bytes old → old ≡ Some was → new ≡ Some now → AreDigestsOf row bytes →
    AreInStep rows was → AreInStep after now
step_after slot {rows} {after} row bytes {was = was} {now = now} r s e f k h =
    let told : Some (slots_with was slot bytes) ≡ Some now =
    sym (s ∙ ap (λ (x : Option Slots). slots_with_bytes slot bytes x) e) ∙ f in
    let same : slots_with was slot bytes ≡ now = cc in
    subst (λ (x : Rows). AreInStep x now) (sym r)
    (subst (λ (x : Slots). AreInStep (rows_with rows slot row) x) same (step_with slot rows was row bytes h k))

-- a slot of which no digest is kept any more
pub step_left : (slot : ℕ) (rows after : Rows) (old new : PageStanding) → after ≡ rows_with rows slot [] →
    (old.is_honest ≡ true → (left : List ℕ) × (new.slots ≡ slots_with_bytes slot left old.slots)) → KeepsStep old new rows after
step_left slot rows after old new r leaves honest was now e f h =
    let l = leaves honest in step_after slot [] l.0 r l.1 e f (λ page digest k. absurd (cc)) h

pub step_written : {slot : ℕ} {bytes : List ℕ} {old new : PageStanding} {rows after : Rows} → PutsWholeSlot slot bytes old new rows after →
    KeepsStep old new rows after
step_written {slot} {bytes} p honest was now e f h =
    step_after slot (digests_of_pages bytes (page_count (length bytes))) bytes p.rows_are (p.slots honest) e f
    (are_of_own bytes (page_count (length bytes))) h

-- One page of a write: it is there already, it is written, or a look-up failed.

-- a slot that is changed so
pub changed : (slot : ℕ) (AreSo : List ℕ → List ℕ → Type 0) (change : List ℕ → List ℕ) (old new : Option Slots) →
    new ≡ slots_with_change slot change old →
    ((told : Slots) → old ≡ Some told → AreSo (slot_in told slot) (change (slot_in told slot))) → ChangesSlot slot AreSo old new
changed slot AreSo change None new e h = record { left = []; slots = e; so = λ told f. absurd (cc) }
changed slot AreSo change (Some was) new e h = record {
  left = change (slot_in was slot);
  slots = e;
  so = λ told f. let same : was ≡ told = cc in
      subst (λ (x : Slots). AreSo (slot_in x slot) (change (slot_in was slot))) same (h was refl);
}

-- slots that stay are slots with their own bytes put in place
unchanged : (slot : ℕ) (slots : Option Slots) → slots ≡ slots_with_change slot (λ bytes. bytes) slots
unchanged slot slots = grind (arith, with_slot-same)

pub stays : (slot : ℕ) (AreSo : List ℕ → List ℕ → Type 0) (slots : Option Slots) →
    ((told : Slots) → slots ≡ Some told → AreSo (slot_in told slot) (slot_in told slot)) → ChangesSlot slot AreSo slots slots
stays slot AreSo slots h = changed slot AreSo (λ bytes. bytes) slots slots (unchanged slot slots) h

-- the slots with some bytes put in place, where nothing is said of these
pub left_by : {slot : ℕ} {AreSo : List ℕ → List ℕ → Type 0} {old new : Option Slots} → ChangesSlot slot AreSo old new →
    (left : List ℕ) × (new ≡ slots_with_bytes slot left old)
left_by c = (c.left, c.slots)

pub slots_stay : (slot : ℕ) (slots : Option Slots) → (left : List ℕ) × (slots ≡ slots_with_bytes slot left slots)
slots_stay slot slots = left_by (stays slot (λ was now. Unit {0}) slots (λ told e. tt))

-- a page was looked up
looked : {slot page : ℕ} {part : List ℕ} {digest : Digest} {kept : Option Digest} {old new : PageStanding} {result : Result Bool Failed}
    (rows : Rows) → HoldsPage slot page kept digest part old new result → digest ≡ page_digest part
    → kept ≡ kept_digest (row_in rows slot) page → new.page_reads ≡ count_after_so_many
    (look_count (row_in rows slot) page part) old.page_reads
looked {old = old} rows h d k =
    ap (λ (x : PageStanding). x.page_reads) h.same ∙ (λ j. count_after_so_many (one_if (may_be_same (k j) (d j))) old.page_reads)

-- one page: it is there already
pub put_held : {slot page : ℕ} {part : List ℕ} {digest : Digest} {kept : Option Digest} {old new : PageStanding} {rows after : Rows} →
    HoldsPage slot page kept digest part old new (Ok true) → digest ≡ page_digest part →
    kept ≡ kept_digest (row_in rows slot) page → after ≡ rows_with rows slot (row_with_digest page digest (row_in rows slot)) →
    PutsOnePage slot page part old new rows after
put_held {slot} {page} {part} {digest} {kept} {old} {new} {rows} h d k r = record {
  honest = ap (λ (x : PageStanding). x.is_honest) h.same;
  faults = h.counted_faults.kept;
  lengths = ap (λ (x : PageStanding). x.length_writes) h.same;
  marks = ap (λ (x : PageStanding). unsynced_slots_with_mark slot true x.unsynced) h.same;
  sure = record { renewals = ap (λ (x : PageStanding). x.renewals) h.same; doubtful = ap (λ (x : PageStanding). x.doubtful) h.same };
  rows_are = r ∙ ap (λ (x : Digest). rows_with rows slot (row_with_digest page x (row_in rows slot))) d;
  looks = looked rows h d k;
  puts =
      λ honest.
      subst (ChangesSlot slot (IsPutAt page part) old.slots) (sym (ap (λ (x : PageStanding). x.slots) h.same))
      (stays slot (IsPutAt page part) old.slots (λ told e.
      let there : page_of (slot_in told slot) page ≡ part =
      held (may_be_same kept digest) (page_of (slot_in told slot) page) part (h.holds told e) in
      record {
        within = λ i below. sym (get_or-page_of (slot_in told slot) page i below) ∙ ap (λ (x : List ℕ). get_or x i 0) there;
        before = λ i before. refl;
        after = λ i after. refl;
      }));
  changes = λ told e step. record {
    writes = ap (λ (x : PageStanding). x.page_writes) h.same ∙ ap (λ n. count_after_so_many n old.page_writes)
        (sym (no_change (may_be_same kept digest) (page_of (slot_in told slot) page) part (h.holds told e)));
    still = λ none. ap (λ (x : PageStanding). x.slots) h.same;
  };
}

-- one page: it is written
pub put_written : {slot page : ℕ} {part : List ℕ} {digest : Digest} {kept : Option Digest} {old mid new : PageStanding}
    {rows dropped after : Rows} {done : Unit} → HoldsPage slot page kept digest part old mid (Ok false) →
    WritesPage slot page part mid new (Ok done) → length part ≡ 256 → digest ≡ page_digest part →
    kept ≡ kept_digest (row_in rows slot) page → DropsPage slot page rows dropped →
    after ≡ rows_with dropped slot (row_with_digest page digest (row_in dropped slot)) → PutsOnePage slot page part old new rows after
put_written {slot} {page} {part} {digest} {kept} {old} {mid} {new} {rows} {dropped} h w l d k r s =
    let row_is : row_in dropped slot ≡ r.row = ap (λ (x : Rows). row_in x slot) r.rows ∙ row_in-with_row rows slot r.row in
    let alike : row_with_digest page digest (row_in dropped slot) ≡ row_with_digest page (page_digest part) (row_in rows slot) =
    ap (λ (x : List (Option Digest)). row_with_digest page digest x) row_is
    ∙ keeping-alike page digest r.row (row_in rows slot) r.before r.after
    ∙ ap (λ (x : Digest). row_with_digest page x (row_in rows slot)) d in
    let differs : (told : Slots) → old.slots ≡ Some told → IsInStep (row_in rows slot) page (slot_in told slot) →
    change_count (page_of (slot_in told slot) page) part ≡ 1 =
    λ told e step. a_change kept (page_of (slot_in told slot) page) part (λ x f. step x (sym k ∙ f))
    (h.holds told e ∙ ap (λ (x : Digest). may_be_same kept x && bytes_eq (page_of (slot_in told slot) page) part) d) in
    record {
      honest = ap (λ (x : PageStanding). x.is_honest) w.same ∙ ap (λ (x : PageStanding). x.is_honest) h.same;
      faults = w.counted_faults.kept ∙ h.counted_faults.kept;
      lengths = ap (λ (x : PageStanding). x.length_writes) w.same ∙ ap (λ (x : PageStanding). x.length_writes) h.same;
      marks =
          marks_alone slot true old.unsynced new.unsynced
          (ap (λ (x : PageStanding). x.unsynced) w.same ∙ ap (λ (x : PageStanding). unsynced_slots_with_mark slot true x.unsynced) h.same);
      sure = record {
        renewals = ap (λ (x : PageStanding). x.renewals) w.same ∙ ap (λ (x : PageStanding). x.renewals) h.same;
        doubtful = ap (λ (x : PageStanding). x.doubtful) w.same ∙ ap (λ (x : PageStanding). x.doubtful) h.same;
      };
      rows_are =
          s ∙ (λ j. rows_with (r.rows j) slot (alike j))
          ∙ with_row-twice rows slot r.row (row_with_digest page (page_digest part) (row_in rows slot));
      looks = ap (λ (x : PageStanding). x.page_reads) w.same ∙ looked rows h d k;
      puts =
          λ honest. changed slot (IsPutAt page part) (bytes_with_page page part) old.slots new.slots
          (w.leaves (ap (λ (x : PageStanding). x.is_honest) h.same ∙ honest)
          ∙ ap (λ (x : PageStanding). slots_with_change slot (bytes_with_page page part) x.slots) h.same)
          (λ told e. put_at page part (slot_in told slot) l);
      changes = λ told e step.
          let one = differs told e step in record {
            writes = ap (λ (x : PageStanding). x.page_writes) w.same ∙ ap (λ (x : PageStanding). next_count x.page_writes) h.same
                ∙ ap (λ n. count_after_so_many n old.page_writes) (sym one);
            still = λ none. absurd (omega (arith, one, none));
          };
    }

-- a look-up that failed
pub look_failed : {slot page : ℕ} {part : List ℕ} {digest : Digest} {kept : Option Digest} {old new : PageStanding} {fault : Failed}
    (rows : Rows) → HoldsPage slot page kept digest part old new (Err fault) → WriteFails slot old new rows rows
look_failed {slot} {old = old} {new = new} rows h = record {
  paged = record {
    honest = ap (λ (x : PageStanding). x.is_honest) h.same;
    faults = h.counted_faults.failed;
    leaves = λ honest. let stay = slots_stay slot old.slots in (stay.0, ap (λ (x : PageStanding). x.slots) h.same ∙ stay.1);
    marks = ap (λ (x : PageStanding). unsynced_slots_with_mark slot true x.unsynced) h.same;
    renewals = ap (λ (x : PageStanding). x.renewals) h.same;
    doubts = ap (λ (x : PageStanding). unsynced_slots_with_mark slot true x.doubtful) h.same;
  };
  row = row_in rows slot;
  rows_are = sym (with_row-same rows slot);
}

-- A use of a slot, which was renewed before where that was due.

-- the use failed, or the renewal before it
pub record FailsUse (slot : ℕ) (old new : PageStanding) : Type 0 where
  pub honest : new.is_honest ≡ old.is_honest
  pub faults : CountRose old.faults new.faults
  pub leaves : old.is_honest ≡ true → (left : List ℕ) × (new.slots ≡ slots_with_bytes slot left old.slots)
  pub marks : MarksSlotAlone slot old.unsynced new.unsynced

renewal_failed : {slot : ℕ} {due after : UnsyncedSlots} {old new : PageStanding} {fault : Failed} →
    RenewsIfDue slot due after old new (Err fault) → FailsUse slot old new
renewal_failed {slot} {old = old} r = record {
  honest = ap (λ (x : PageStanding). x.is_honest) r.same;
  faults = r.counted_faults.failed;
  leaves = λ honest. let stay = slots_stay slot old.slots in (stay.0, ap (λ (x : PageStanding). x.slots) r.same ∙ stay.1);
  marks = ap (λ (x : PageStanding). unsynced_slots_with_mark slot true x.unsynced) r.same;
}

pub failed_writes : {slot : ℕ} {bytes : List ℕ} {old new : PageStanding} → FailsUse slot old new →
    WritesSlot slot bytes (store_standing_on old) (store_standing_on new) (Err SlotFailed)
failed_writes f = record {
  honest = f.honest;
  counted = f.faults;
  leaves = f.leaves;
  spared = λ e. absurd (cc);
  synced = f.marks;
}

-- a write that failed: of the digests, none but those of its slot changed
write_failed_by : (slot : ℕ) (bytes : List ℕ) (due after : UnsyncedSlots) (old middle new : PageStanding) (rows rows' : Rows)
    (renewal : Result Unit Failed) (fault : Failed) → RenewsIfDue slot due after old middle renewal →
    WriteGoes slot bytes middle new rows rows' renewal (Err fault) →
    FailsUse slot old new × ((row : List (Option Digest)) × (rows' ≡ rows_with rows slot row))
write_failed_by slot bytes due after old middle new rows rows' (Ok done) fault r g = (
  record {
    honest = g.paged.honest ∙ ap (λ (x : PageStanding). x.is_honest) r.same;
    faults = subst (λ n. CountRose n new.faults) r.counted_faults.kept g.paged.faults;
    leaves = λ honest. let left = g.paged.leaves (ap (λ (x : PageStanding). x.is_honest) r.same ∙ honest) in
        (left.0, left.1 ∙ ap (λ (x : PageStanding). slots_with_bytes slot left.0 x.slots) r.same);
    marks = g.paged.marks ∙ ap (λ (x : PageStanding). unsynced_slots_with_mark slot true x.unsynced) r.same;
  },
  (g.row, g.rows_are),
)
write_failed_by slot bytes due after old middle new rows rows' (Err other) fault r g =
    (subst (FailsUse slot old) (sym g.0) (renewal_failed r), (row_in rows slot, g.1 ∙ sym (with_row-same rows slot)))

pub write_failed : {slot : ℕ} {bytes : List ℕ} {due after : UnsyncedSlots} {old new : PageStanding} {rows rows' : Rows}
    {result : Result Unit Failed} → WritesRenewed slot bytes due after old new rows rows' result → is_err result ≡ true →
    FailsUse slot old new × ((row : List (Option Digest)) × (rows' ≡ rows_with rows slot row))
write_failed {slot} {bytes} {due} {after} {old} {new} {rows} {rows'} {result} w e = by_result result w.goes e
  where
    by_result : (r : Result Unit Failed) → WriteGoes slot bytes w.middle new rows rows' w.renewal r → is_err r ≡ true →
        FailsUse slot old new × ((row : List (Option Digest)) × (rows' ≡ rows_with rows slot row))
    by_result (Ok done) g f = absurd (cc)
    by_result (Err fault) g f = write_failed_by slot bytes due after old w.middle new rows rows' w.renewal fault w.renews g

-- a write that went through
pub record PutsRenewed (slot : ℕ) (bytes : List ℕ) (old new : PageStanding) (rows rows' : Rows) : Type 0 where
  pub middle : PageStanding
  pub honest : middle.is_honest ≡ old.is_honest
  pub slots : middle.slots ≡ old.slots
  pub writes : middle.page_writes ≡ old.page_writes
  pub lengths : middle.length_writes ≡ old.length_writes
  pub puts : PutsWholeSlot slot bytes middle new rows rows'

put_by : (slot : ℕ) (bytes : List ℕ) (due after : UnsyncedSlots) (old middle new : PageStanding) (rows rows' : Rows)
    (renewal result : Result Unit Failed) → RenewsIfDue slot due after old middle renewal →
    WriteGoes slot bytes middle new rows rows' renewal result → is_err result ≡ false → PutsRenewed slot bytes old new rows rows'
put_by slot bytes due after old middle new rows rows' (Ok done) (Ok put) r g e = record {
  middle = middle;
  honest = ap (λ (x : PageStanding). x.is_honest) r.same;
  slots = ap (λ (x : PageStanding). x.slots) r.same;
  writes = ap (λ (x : PageStanding). x.page_writes) r.same;
  lengths = ap (λ (x : PageStanding). x.length_writes) r.same;
  puts = g;
}
put_by slot bytes due after old middle new rows rows' (Ok done) (Err fault) r g e = absurd (cc)
put_by slot bytes due after old middle new rows rows' (Err other) (Ok put) r g e = absurd (cc (g.2))
put_by slot bytes due after old middle new rows rows' (Err other) (Err fault) r g e = absurd (cc)

-- the same of a store that is seen so
pub put_renewed : {D : Type 0} (pages : D → PageStanding) (slot : ℕ) (bytes : List ℕ) (x y : CachedDevice D) (after : UnsyncedSlots)
    (new : PageStanding) (rows' : Rows) (result : Result Unit Failed) → x ≡ y →
    WritesRenewed slot bytes x.due after (pages x.device) new x.rows rows' result → is_err result ≡ false →
    PutsRenewed slot bytes (pages y.device) new y.rows rows'
put_renewed {D} pages slot bytes x y after new rows' result same w e =
    subst (λ (v : CachedDevice D). PutsRenewed slot bytes (pages v.device) new v.rows rows') same
    (put_by slot bytes x.due after (pages x.device) w.middle new x.rows rows' w.renewal result w.renews w.goes e)

pub put_changes : {slot : ℕ} {bytes : List ℕ} {old new : PageStanding} {rows rows' : Rows} →
    PutsRenewed slot bytes old new rows rows' → old.is_honest ≡ true → (told : Slots) → old.slots ≡ Some told →
    AreDigestsOf (row_in rows slot) (slot_in told slot) →
    new.page_writes ≡ count_after_so_many (changes_of (slot_in told slot) bytes (page_count (length bytes))) old.page_writes
put_changes {slot} {bytes} p honest told e steps =
    p.puts.writes (p.honest ∙ honest) told (p.slots ∙ e) steps
    ∙ ap (count_after_so_many (changes_of (slot_in told slot) bytes (page_count (length bytes)))) p.writes

pub put_settled : {slot : ℕ} {bytes : List ℕ} {old new : PageStanding} {rows rows' : Rows} →
    PutsRenewed slot bytes old new rows rows' → old.is_honest ≡ true → (told : Slots) → old.slots ≡ Some told →
    AreDigestsOf (row_in rows slot) (slot_in told slot) → slot_in told slot ≡ bytes → new.length_writes ≡ old.length_writes
put_settled p honest told e steps same = p.puts.settled (p.honest ∙ honest) told (p.slots ∙ e) steps same ∙ p.lengths

pub put_keeps : {slot : ℕ} {bytes : List ℕ} {old new : PageStanding} {rows rows' : Rows} →
    PutsRenewed slot bytes old new rows rows' → KeepsStep old new rows rows'
put_keeps p honest was now e f h = step_written p.puts (p.honest ∙ honest) was now (p.slots ∙ e) f h

-- a read changes no slot
read_failed_by : (slot : ℕ) (due after : UnsyncedSlots) (old middle new : PageStanding) (fault : Failed) →
    RenewsIfDue slot due after old middle (Err fault) → new ≡ middle →
    ReadsSlot slot (store_standing_on old) (store_standing_on new) (Err SlotFailed)
read_failed_by slot due after old middle new fault r g =
    subst (λ (x : PageStanding). ReadsSlot slot (store_standing_on old) (store_standing_on x) (Err SlotFailed)) (sym g) (record {
      slots = ap (λ (x : PageStanding). x.slots) r.same;
      honest = ap (λ (x : PageStanding). x.is_honest) r.same;
      counted = r.counted_faults.failed;
      gives = tt;
      short = tt;
      unsynced = ap (λ (x : PageStanding). x.unsynced) r.same;
    })

reads_by : (slot : ℕ) (due after : UnsyncedSlots) (old middle new : PageStanding) (renewal : Result Unit Failed)
    (result : Result (List ℕ) StoreFault) → RenewsIfDue slot due after old middle renewal →
    ReadGoes slot middle new renewal result → ReadsSlot slot (store_standing_on old) (store_standing_on new) result
reads_by slot due after old middle new (Ok done) result r g = record {
  slots = ap (λ (x : PageStanding). x.slots) g.same ∙ ap (λ (x : PageStanding). x.slots) r.same;
  honest = ap (λ (x : PageStanding). x.is_honest) g.same ∙ ap (λ (x : PageStanding). x.is_honest) r.same;
  counted = subst (λ n. CountsFailures n new.faults result) r.counted_faults.kept g.counted_faults;
  gives = subst (λ (x : Option Slots). IfOk result (λ bytes. (slots : Slots) → x ≡ Some slots → bytes ≡ slot_front slots slot))
      (ap (λ (x : PageStanding). x.slots) r.same) g.gives;
  short = g.short;
  unsynced = ap (λ (x : PageStanding). x.unsynced) g.same ∙ ap (λ (x : PageStanding). x.unsynced) r.same;
}
reads_by slot due after old middle new (Err fault) result r g =
    subst (ReadsSlot slot (store_standing_on old) (store_standing_on new)) (sym g.1)
    (read_failed_by slot due after old middle new fault r g.0)

pub reads_slot : {slot : ℕ} {due after : UnsyncedSlots} {old new : PageStanding} {result : Result (List ℕ) StoreFault} →
    ReadsRenewed slot due after old new result → ReadsSlot slot (store_standing_on old) (store_standing_on new) result
reads_slot {slot} {due} {after} {old} {new} {result} w =
    reads_by slot due after old w.middle new w.renewal result w.renews w.goes
