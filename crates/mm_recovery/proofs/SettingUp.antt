-- Bytes that several calls take, and what each exit of a first start leaves, tells and counts.
use Rattle.mm_recovery.proofs.Below.{◌≡◌, ℕ, ◌+◌, ◌<◌, ◌≤◌, List, length, take, drop, Option, Ok, sym, ap, ◌∙◌, subst, arith, take-add}
use Rattle.mm_recovery.proofs.Below.{Consumes, IsAtEnd, Consumes-both, TakesBytes, Bool, true, false, [], ◌∷◌, map, None, Some, Result, Err}
use Rattle.mm_recovery.proofs.Below.{refl, inl, inr, ◌⊎◌, length-take, length-drop, option_map, CountRose, Variant, Basic, Opt}
use Rattle.mm_recovery.proofs.Below.{length-zero_bytes, Meaning, IsLawful, blank_cell, cell_spelling, StepFault, Item, Standing}
use Rattle.mm_recovery.proofs.Below.{item_values, folded_of, WriteCell, DeviceStepEnds, cell_after, register_of, Value, first_history}
use Rattle.mm_recovery.proofs.Below.{StandsFor, cell_of, issued_bytes, Instance, instance_by, StoreFault, StoreStanding, Slots, slots_with}
use Rattle.mm_recovery.proofs.Below.{CountsFailures, slots_with_bytes, InitFault, Devices, LooksAtCell, instance_from, SlotPut, first_puts}
use Rattle.mm_recovery.proofs.Below.{PutsAll, result_of_write, GoesAfterAllPuts, SetsUp, GoesAfterTaking, GoesAfterLooking, InitGoes}
use Rattle.mm_recovery.proofs.Below.{first_history_on, ShowsValues, InstanceBegins, InitLeaves, TellsUse, BlamesDevice, take-nil, take_all}
use Rattle.mm_recovery.proofs.Below.{Contains, start_message, Batch, basic_instance, opt_instance, IsSound, IsWithin, ReadsPendingRecord}
use Rattle.mm_recovery.proofs.Below.{longest_slot, slot_front, reads_none-short, longest_slot-is, IsWaiting, first_slots, IsFirstStore}
use Rattle.mm_recovery.proofs.Below.{HostStanding, host_among, host_standing}
use Rattle.std.proofs.lemmas.List.{length-take}
use Rattle.std.specs.List.{fold}
use Rattle.std.specs.Result.{result_err}
use Rattle.mm_bytes.specs.declared.fault.Failed.{Failed}
use Rattle.mm_model.specs.History.{values_of as entry_values}
use Rattle.mm_model.specs.ListLaws.{length-anchor_of, length-summary_of, register_folds}
use Rattle.mm_store.specs.StoreStanding.{UnsyncedSlots, unsynced_slots_with, unsynced_slots_with_mark}
use Rattle.mm_recovery.specs.FirstStart.{CountRisesIf, is_platforms, is_sources, is_stores, init_fault_as}
use Rattle.mm_model.specs.FormLaws.{sealed_snapshot_of-most}
use Rattle.mm_recovery.proofs.Meeting.{IsIssued, issued_in_basic, issued_in_opt, holds_issued, fits_slot}
use Rattle.mm_platform.specs.CallLaws.{rose_by}
use Rattle.mm_store.specs.declared.fault.StoreFault.TheVariants as fault

pub consumes_more : (old middle new : Option (List ℕ)) (xs ys : List ℕ) (got count : ℕ) → take got ys ≡ take got xs
    → Consumes old middle (take got xs) → Consumes middle new (take count (drop got ys)) → Consumes old new (take (got + count) ys)
consumes_more old middle new xs ys got count same one two =
    rw (take-add got count ys, same)
    (Consumes-both old middle new (take got xs) (take count (drop got ys)) one two)

pub takes : (old new : Option (List ℕ)) (before now : ℕ) (bytes : List ℕ) (got : ℕ) → length bytes ≡ 64 → got ≤ 64
    → Consumes old new (take got bytes) → now ≡ before → (got < 64 → IsAtEnd new) → TakesBytes old new before now (Ok (take got bytes))
takes old new before now bytes got size most one same ended =
    let counts : length (take got bytes) ≡ got = omega (arith, length-take got bytes) in
    record {
      most = omega (arith, counts);
      consumed = one;
      ended = λ (few : length (take got bytes) < 64). ended (omega (arith, counts, few));
      counted = record { later = omega (arith, same); kept = same; failed = tt };
    }

sound_first : (values : List (List ℕ)) → IsSound (first_history_on values)
sound_first values = record {
  open_is = λ e. sym e;
  shut_is = λ _. refl;
  filled = tt;
  history = inl (record { clean = refl; batches = refl });
  register = λ e. absurd (cc);
}

first_issued : (variant : Variant) (meaning : Meaning) (key barrier : List ℕ) (values : List (List ℕ)) → IsLawful meaning
    → IsIssued (instance_by variant meaning key barrier) (first_history_on values)
first_issued Basic meaning key barrier values lawful = issued_in_basic meaning lawful key (first_history_on values)
first_issued Opt meaning key barrier values lawful = issued_in_opt meaning lawful key barrier (first_history_on values)
    (sound_first values) refl

-- the first snapshot fits a slot
pub first_short : (variant : Variant) (meaning : Meaning) (key barrier snapshot : List ℕ) → IsLawful meaning
    → snapshot ≡ issued_bytes (instance_by variant meaning key barrier) first_history → length snapshot ≤ 1100000
first_short variant meaning key barrier snapshot lawful e =
    fits_slot (length snapshot) 1100000
    (rw e (sealed_snapshot_of-most _ _ ((first_issued variant meaning key barrier [] lawful).formed (omega arith)))) refl

-- nothing waits in empty slots
empty_reads : (slot : ℕ) → ReadsPendingRecord slot (take longest_slot []) None
empty_reads slot =
    rw (take-nil longest_slot) (reads_none-short slot [] (omega arith))

none_waits : IsWaiting (take longest_slot []) (take longest_slot []) None
none_waits =
    record { in_two = None; in_three = None; reads_two = empty_reads 2; reads_three = empty_reads 3; is = refl }

-- the slot of the first snapshot holds it
first_store : (i : Instance) (values : List (List ℕ)) → IsLawful i.meaning → IsIssued i (first_history_on values)
    → issued_bytes i first_history ≡ issued_bytes i (first_history_on values)
    → ((all others : List (List ℕ)) (asked : List Batch) → Contains all (start_message i.variant i.meaning.id)
    → IsWithin all others asked i (first_history_on values)) → IsFirstStore i (first_history_on values)
first_store i values lawful issues same within = record {
  fits = record {
    waiting = None;
    is_waiting = none_waits;
    fits = (
      refl,
      holds_issued i lawful (first_history_on values) (slot_front (first_slots i) 0) 0 issues (omega arith)
          (rw same (take_all longest_slot (issued_bytes i (first_history_on values))
          (fits_slot _ longest_slot (sealed_snapshot_of-most _ _ (issues.formed (omega arith))) longest_slot-is))) refl,
    );
  };
  nothing_waits = refl;
  within = within;
}

pub is_first : (variant : Variant) (meaning : Meaning) (key barrier : List ℕ) (values : List (List ℕ)) → IsLawful meaning
    → IsFirstStore (instance_by variant meaning key barrier) (first_history_on values)
is_first Basic meaning key barrier values lawful =
    first_store (basic_instance meaning key) values lawful (first_issued Basic meaning key barrier values lawful) refl
    (λ all others asked h.
    record { sound = record { closed = refl; shut = refl }; outside = tt; listed = (h, tt); batches = tt })
is_first Opt meaning key barrier values lawful =
    first_store (opt_instance meaning key barrier) values lawful (first_issued Opt meaning key barrier values lawful) refl
    (λ all others asked h.
    record { sound = sound_first values; outside = tt; listed = (h, tt); batches = tt })

-- The store after puts: its count, and where all were written its slots, which are synced.
record ArePut (puts : List SlotPut) (old new : StoreStanding) (stored : Result Unit StoreFault) : Type 0 where
  counted : CountsFailures old.faults new.faults stored
  honest : new.is_honest ≡ old.is_honest
  told : (slots : Slots) → stored ≡ Ok tt → old.is_honest ≡ true → old.slots ≡ Some slots
      → new.slots ≡ Some (fold (λ (s : Slots) (put : SlotPut). slots_with s put.0 put.1) slots puts)
  synced : (marks : UnsyncedSlots) → stored ≡ Ok tt → old.unsynced ≡ Some marks
      → new.unsynced ≡ Some (fold (λ (m : UnsyncedSlots) (put : SlotPut). unsynced_slots_with m put.0 false) marks puts)

are_put : (puts : List SlotPut) (old new : StoreStanding) (stored : Result Unit StoreFault) → PutsAll puts old new stored
    → ArePut puts old new stored
are_put [] old new stored (same, e) =
    rw (same, e) (record { counted = refl; honest = refl; told = λ slots e h t. t; synced = λ marks e t. t })
are_put (put ∷ puts) old new stored (middle, Ok it, w, p) =
    let r = are_put puts middle new stored p in
    record {
      counted = rw (sym w.counted) r.counted;
      honest = r.honest ∙ w.honest;
      told = λ slots e h t. r.told (slots_with slots put.0 put.1) e (w.honest ∙ h) (w.leaves h ∙ ap (slots_with_bytes put.0 put.1) t);
      synced = λ marks e t. r.synced (unsynced_slots_with marks put.0 false) e (w.synced ∙ ap (unsynced_slots_with_mark put.0 false) t);
    }
are_put (put ∷ puts) old new stored (middle, Err why, w, p) =
    rw (p.0, p.1)
    (record { counted = w.counted; honest = w.honest; told = λ slots e h t. absurd (cc); synced = λ marks e t. absurd (cc) })

-- the platform stands for the first history
entries_values : (barrier : List ℕ) (values : List (List ℕ)) → entry_values barrier (map Value values) ≡ values
entries_values barrier [] = refl
entries_values barrier (v ∷ values) = ap (λ (vs : List (List ℕ)). v ∷ vs) (entries_values barrier values)

reads_values : (items : Option (List Item)) (values : List (List ℕ)) → option_map item_values items ≡ Some values
    → option_map (λ (xs : List Item). folded_of (item_values xs)) items ≡ Some (folded_of values)
reads_values items values e = grind (arith, e)

stands_first : (variant : Variant) (meaning : Meaning) (key barrier : List ℕ) (standing : Standing) (values : List (List ℕ))
    → length key ≡ 32 → length barrier ≡ 32
    → standing.cell ≡ Some (cell_spelling (cell_of (instance_by variant meaning key barrier) first_history))
    → ShowsValues variant standing values
    → StandsFor (instance_by variant meaning key barrier) standing (first_history_on values)
stands_first Basic meaning key barrier standing values k b e s = record {
  spells = record { summary = length-summary_of meaning.id []; key = k; barrier = length-zero_bytes; variant = (refl, refl) };
  cell = e;
  register = tt;
}
stands_first Opt meaning key barrier standing values k b e s = record {
  spells = record { summary = length-anchor_of meaning.id []; key = k; barrier = b; variant = tt };
  cell = e;
  register = reads_values standing.items values s
      ∙ ap (λ (v : List ℕ). Some v) (register_folds values ∙ ap register_of (sym (entries_values barrier values)));
}

module _ (variant : Variant) (meaning : Meaning) (lawful : IsLawful meaning) (before : Devices) where
  -- all of an exit
  pub record Comes (after : Devices) (result : Result Unit InitFault) : Type 0 where
    pub leaves : InitLeaves variant meaning before after result
    pub tells : TellsUse before result
    pub blames : BlamesDevice before after result

  came : {after : Devices} {result : Result Unit InitFault} → InitLeaves variant meaning before after result → TellsUse before result
      → CountRisesIf (is_platforms result) before.platform.faults after.platform.faults
      → CountRisesIf (is_sources result) before.source_faults after.source_faults
      → CountRisesIf (is_stores result) before.store.faults after.store.faults → Comes after result
  came leaves tells platform source store =
      record { leaves = leaves; tells = tells; blames = record { platform = platform; source = source; store = store } }

  -- What is known once the cell was found blank: the platform's cell and count are as before.
  record FoundBlank (platform : Standing) : Type 0 where
    cell : platform.cell ≡ before.platform.cell
    faults : platform.faults ≡ before.platform.faults
    blank : (was : List ℕ) → before.platform.cell ≡ Some was → was ≡ blank_cell

  -- the exits of the store
  store_exit : (after : Devices) (why : StoreFault) → FoundBlank after.platform → after.source_faults ≡ before.source_faults
      → CountsFailures {T = Unit {0}} before.store.faults after.store.faults (Err why) → Comes after (Err (init_fault_as why))
  store_exit after why f source store = grind (arith, f, source, store)

  module _ (after : Devices) (middle : Standing) (secrets : List ℕ) (f : FoundBlank middle) (size : length secrets ≡ 64)
      (taken : Consumes before.left after.left secrets) (source : after.source_faults ≡ before.source_faults) where
    abbrev I : Instance
    I = instance_from variant meaning secrets

    abbrev Stored : Result Unit StoreFault → Type 0
    Stored stored = ArePut (first_puts (issued_bytes I first_history)) before.store after.store stored

    -- all is set up
    begins : Stored (Ok tt) → after.platform.cell ≡ option_map (λ _. cell_spelling (cell_of I first_history)) middle.cell
        → InstanceBegins variant meaning before after
    begins puts cell = record {
      secrets = secrets;
      counted = size;
      taken = taken;
      stands = λ was values told shows.
          stands_first variant meaning (take 32 secrets) (drop 32 secrets) after.platform values
          (omega (arith, size, length-take 32 secrets)) (omega (arith, size, length-drop 32 secrets))
          (cell ∙ ap (option_map (λ (x : List ℕ). cell_spelling (cell_of I first_history))) (f.cell ∙ told)) shows;
      honest = puts.honest;
      stores = λ slots honest told. puts.told slots refl honest told;
      synced = λ marks told. puts.synced marks refl told;
      first = λ values. is_first variant meaning (take 32 secrets) (drop 32 secrets) values lawful;
    }

    -- the exits of the cell's write
    may_begin : (made : Bool) → Stored (Ok tt)
        → after.platform.cell ≡ cell_after (WriteCell (cell_spelling (cell_of I first_history))) made middle.cell
        → (after.platform.cell ≡ before.platform.cell) ⊎ InstanceBegins variant meaning before after
    may_begin made puts cell = grind (arith, begins, puts, cell)

    write_exit : (written : Result Unit StepFault) (made : Bool) → Stored (Ok tt)
        → after.platform.cell ≡ cell_after (WriteCell (cell_spelling (cell_of I first_history))) made middle.cell
        → DeviceStepEnds (result_err written) middle after.platform made → Comes after (result_of_write written)
    write_exit (Ok it) false puts cell ends = let not_made : false ≡ true = ends.made in absurd (cc)
    write_exit (Ok it) true puts cell ends = came (begins puts cell) f.blank (ends.faults ∙ f.faults) source puts.counted
    write_exit (Err why) made puts cell ends =
        came (may_begin made puts cell) (λ was told. tt)
        (subst (λ (n : ℕ). CountRose n after.platform.faults) f.faults (rose_by why middle after.platform made ends)) source puts.counted

    puts_exit : (stored : Result Unit StoreFault) (result : Result Unit InitFault) → Stored stored
        → GoesAfterAllPuts (cell_spelling (cell_of I first_history)) middle after.platform stored result → Comes after result
    puts_exit (Err why) result puts g =
        rw g.1 (store_exit after why (rw g.0 f) source puts.counted)
    puts_exit (Ok it) result puts g = rw g.gives (write_exit g.written g.goes.is_made puts g.goes.cell g.goes.ends)

    set_up_exit : (result : Result Unit InitFault) → SetsUp I (host_standing middle before.store) (host_among after) result
        → Comes after result
    set_up_exit result (inl none) =
        rw none.1 (store_exit after fault.Memory (rw (ap (λ (h : HostStanding). h.standing) none.0) f) source
        (ap (λ (h : HostStanding). h.kept.faults) none.0))
    set_up_exit result (inr both) = puts_exit both.stored result (are_put _ _ _ _ both.puts) both.goes

  -- the exits of the source
  take_exit : (after : Devices) (middle : Standing) (left : Option (List ℕ)) (source_faults : ℕ) (taken : Result (List ℕ) Failed)
      (result : Result Unit InitFault) → FoundBlank middle → TakesBytes before.left left before.source_faults source_faults taken
      → GoesAfterTaking variant meaning (record { platform = middle; store = before.store; left = left; source_faults = source_faults })
      after
      taken result → Comes after result
  take_exit after middle left source_faults (Err why) result f t g = rw (g.0, g.1) (came f.cell f.blank f.faults t.counted.failed refl)
  take_exit after middle left source_faults (Ok secrets) result f t (inl few) =
      rw (few.1, few.2) (came f.cell f.blank f.faults t.counted.kept refl)
  take_exit after middle left source_faults (Ok secrets) result f t (inr all) =
      set_up_exit after middle secrets f all.0
      (subst (λ (l : Option (List ℕ)). Consumes before.left l secrets) (sym (ap (λ (d : Devices). d.left) all.1)) t.consumed)
      (ap (λ (d : Devices). d.source_faults) all.1 ∙ t.counted.kept) result all.2

  -- the exits of the cell's read
  look_exit : (after : Devices) (platform : Standing) (is_blank : Result Bool StepFault) (result : Result Unit InitFault)
      → LooksAtCell before.platform platform is_blank
      → GoesAfterLooking variant meaning (record before { platform = platform }) after is_blank result → Comes after result
  look_exit after platform (Err why) result l g =
      rw (g.0, g.1) (came (inl l.goes.cell) (λ was told. tt) (rose_by why before.platform platform l.goes.is_made l.goes.ends) refl refl)
  look_exit after platform (Ok false) result l g =
      rw (g.0, g.1) (came l.goes.cell (λ was told blank. let not_blank : false ≡ true = (l.tells was told).1 blank in absurd (cc))
      l.goes.ends.faults refl refl)
  look_exit after platform (Ok true) result l g =
      take_exit after platform g.left g.source_faults g.taken result
      (record { cell = l.goes.cell; faults = l.goes.ends.faults; blank = λ was told. (l.tells was told).0 refl }) g.takes g.goes

  pub inits_come : (after : Devices) (result : Result Unit InitFault) → InitGoes variant meaning before after result → Comes after result
  inits_come after result n = look_exit after n.platform n.is_blank result n.looks n.goes
