-- The store of pages, killed at a call of its device, leaves what its call may leave. With it: a
-- program that is killed within a device is killed at that device's call.
use Rattle.std.specs.Option.{option_map}
use Rattle.std.specs.Prelude.{true, false}
use Rattle.std.proofs.Common.{◌≡◌, ◌∙◌, ◌-◌, ◌^◌, ◌≤◌, ℕ, List, [], Bool, Option, None, Some, Result, Ok, Err, refl, sym, ap, subst, arith}
use Rattle.mm_bytes.specs.Limits.{CountsFaults, next_count}
use Rattle.mm_bytes.specs.declared.fault.Failed as device
use Rattle.mm_platform.specs.Standing.{Standing}
use Rattle.mm_store.specs.StoreStanding.{ReadsSlot, SyncsSlot, WritesSlot, LeavesInSlot, StoreStanding, UnsyncedSlots, unsynced_slots_with}
use Rattle.mm_store.specs.StoreStanding.{unsynced_slots_with_mark, Slots}
use Rattle.mm_store.specs.declared.fault.StoreFault.{StoreFault}
use Rattle.mm_store.specs.declared.fault.StoreFault.TheVariants.{Failed, Memory}
use Rattle.mm_pages.specs.PageStanding.{PageStanding, store_standing_on}
use Rattle.mm_killed.specs.DeviceCalls.{Place, TellsSame}
use Rattle.mm_killed.proofs.Above.{CallAnswers, CallFails, MayFail, killed_stops, put_back_told}
use Rattle.mm_killed_devices.specs.Devices.{CountsAlone, PageReadsStop, PageWritesStop, KillsReachCalls, LeavesStanding, LeavesStore}
use Rattle.mm_killed_devices.specs.PageCalls.{LengthOf, OfChange, OfLength, OfPage, Page, PageAnswer, PageCall, PageGoes, PageMayLeave}
use Rattle.mm_killed_devices.specs.PageCalls.{SetsLengthOf, Syncs, WritesPageOf, Renews}

-- two devices tell the same
pub record PagesSame (one other : PageStanding) : Type 0 where
  pub slots : one.slots ≡ other.slots
  pub is_honest : one.is_honest ≡ other.is_honest
  pub unsynced : one.unsynced ≡ other.unsynced

same_at : (at : PageStanding) → PagesSame at at
same_at at = record { slots = refl; is_honest = refl; unsynced = refl }

same_along : (one two three : PageStanding) → PagesSame one two → PagesSame two three → PagesSame one three
same_along one two three a b =
    record { slots = a.slots ∙ b.slots; is_honest = a.is_honest ∙ b.is_honest; unsynced = a.unsynced ∙ b.unsynced }

fault : device.Failed
fault = record {}

counts : {T : Type 0} (faults : ℕ) → faults ≤ 2 ^ 64 - 1 → CountsFaults {T = T} faults (next_count faults) (Err fault)
counts faults few = record { later = omega arith; kept = tt; failed = refl }

next_few : (faults : ℕ) → next_count faults ≤ 2 ^ 64 - 1
next_few faults = omega arith

-- marks that aren't told aren't told after a call
untold : (slot : ℕ) (mark : Bool) (marks : Option UnsyncedSlots) → marks ≡ None → unsynced_slots_with_mark slot mark marks ≡ None
untold slot mark marks none = ap (λ (m : Option UnsyncedSlots). option_map (λ told. unsynced_slots_with told slot mark) m) none

-- a device where a call failed
abbrev pub failed_device : PageStanding → (page_reads page_writes length_writes renewals : ℕ)
    → (unsynced doubtful : Option UnsyncedSlots) → PageStanding
failed_device old page_reads page_writes length_writes renewals unsynced doubtful = record old {
  faults = next_count old.faults;
  page_reads = page_reads;
  page_writes = page_writes;
  length_writes = length_writes;
  renewals = renewals;
  unsynced = unsynced;
  doubtful = doubtful;
}

abbrev Fails : PageCall → PageStanding → Type 0
Fails call at = CallFails PageGoes PageMayLeave CountsAlone PagesSame call at

failed_by : (call : PageCall) (at : PageStanding) (page_reads page_writes length_writes renewals : ℕ)
    (unsynced doubtful : Option UnsyncedSlots) (answer : PageAnswer) → CountsAlone at → unsynced ≡ None
    → PageGoes call at (failed_device at page_reads page_writes length_writes renewals unsynced doubtful) answer → Fails call at
failed_by call at page_reads page_writes length_writes renewals unsynced doubtful answer m none goes = record {
  new = failed_device at page_reads page_writes length_writes renewals unsynced doubtful;
  answer = answer;
  goes = goes;
  holds = record { untold = none; counts = next_few at.faults };
  same = record { slots = refl; is_honest = refl; unsynced = none ∙ sym m.untold };
}

fails : (call : PageCall) (at : PageStanding) → CountsAlone at → Fails call at
fails (LengthOf slot) at m =
    failed_by (LengthOf slot) at at.page_reads at.page_writes at.length_writes at.renewals at.unsynced at.doubtful (OfLength (Err fault)) m
    m.untold (record { same = refl; counted_faults = counts at.faults m.counts; gives = tt })
fails (Page slot page) at m =
    failed_by (Page slot page) at (next_count at.page_reads) at.page_writes at.length_writes at.renewals at.unsynced at.doubtful
    (OfPage [] (Err fault)) m m.untold (record { same = refl; counted_faults = counts at.faults m.counts; gives = tt })
fails (WritesPageOf slot page bytes) at m =
    failed_by (WritesPageOf slot page bytes) at at.page_reads (next_count at.page_writes) at.length_writes at.renewals
    (unsynced_slots_with_mark slot true at.unsynced) (unsynced_slots_with_mark slot true at.doubtful) (OfChange (Err fault)) m
    (untold slot true at.unsynced m.untold)
    (record { same = refl; counted_faults = counts at.faults m.counts; leaves = λ honest. put_back_told at.slots slot })
fails (SetsLengthOf slot size) at m =
    failed_by (SetsLengthOf slot size) at at.page_reads at.page_writes (next_count at.length_writes) at.renewals
    (unsynced_slots_with_mark slot true at.unsynced) (unsynced_slots_with_mark slot true at.doubtful) (OfChange (Err fault)) m
    (untold slot true at.unsynced m.untold)
    (record { same = refl; counted_faults = counts at.faults m.counts; leaves = λ honest. put_back_told at.slots slot })
fails (Syncs slot) at m =
    failed_by (Syncs slot) at at.page_reads at.page_writes at.length_writes at.renewals
    (unsynced_slots_with_mark slot true at.unsynced) (unsynced_slots_with_mark slot true at.doubtful) (OfChange (Err fault)) m
    (untold slot true at.unsynced m.untold)
    (record { same = refl; counted_faults = counts at.faults m.counts; leaves = λ honest. put_back_told at.slots slot })
fails (Renews slot) at m =
    failed_by (Renews slot) at at.page_reads at.page_writes at.length_writes (next_count at.renewals) at.unsynced
    (unsynced_slots_with_mark slot true at.doubtful) (OfChange (Err fault)) m m.untold
    (record { same = refl; counted_faults = counts at.faults m.counts })

-- the device counts alone behind each call
counted : {T : Type 0} (before now : ℕ) (result : Result T device.Failed) → before ≤ 2 ^ 64 - 1 → CountsFaults before now result
    → now ≤ 2 ^ 64 - 1
counted before now (Ok it) few c = subst (λ (n : ℕ). n ≤ 2 ^ 64 - 1) (sym c.kept) few
counted before now (Err why) few c = subst (λ (n : ℕ). n ≤ 2 ^ 64 - 1) (sym c.failed) (next_few before)

alone : {T : Type 0} (old new left : PageStanding) (said : Result T device.Failed) → CountsAlone old → new ≡ left
    → left.unsynced ≡ None → CountsFaults old.faults new.faults said → CountsAlone new
alone old new left said m same none c = record {
  untold = ap (λ (p : PageStanding). p.unsynced) same ∙ none;
  counts = counted old.faults new.faults said m.counts c;
}

stays : (call : PageCall) (old new : PageStanding) (answer : PageAnswer) → CountsAlone old → PageGoes call old new answer → CountsAlone new
stays (LengthOf slot) old new (OfLength said) m g = alone old new _ said m g.same m.untold g.counted_faults
stays (Page slot page) old new (OfPage bytes said) m g = alone old new _ said m g.same m.untold g.counted_faults
stays (WritesPageOf slot page bytes) old new (OfChange said) m g =
    alone old new _ said m g.same (untold slot _ old.unsynced m.untold) g.counted_faults
stays (SetsLengthOf slot size) old new (OfChange said) m g =
    alone old new _ said m g.same (untold slot _ old.unsynced m.untold) g.counted_faults
stays (Syncs slot) old new (OfChange said) m g = alone old new _ said m g.same (untold slot _ old.unsynced m.untold) g.counted_faults
stays (Renews slot) old new (OfChange said) m g = alone old new _ said m g.same m.untold g.counted_faults
stays call old new answer m g = absurd g

leaves : (call : PageCall) (old left : PageStanding) → PageMayLeave call old left
    → CallAnswers PageGoes PageMayLeave CountsAlone PagesSame call old left
leaves (LengthOf slot) old left l = record { told = left; answer = OfLength (Err l.0); goes = l.1; same = same_at left }
leaves (Page slot page) old left l = record { told = left; answer = OfPage l.0 (Err l.1); goes = l.2; same = same_at left }
leaves (WritesPageOf slot page bytes) old left l =
    record { told = left; answer = OfChange (Err l.0); goes = l.1; same = same_at left }
leaves (SetsLengthOf slot size) old left l = record { told = left; answer = OfChange (Err l.0); goes = l.1; same = same_at left }
leaves (Syncs slot) old left l = record { told = left; answer = OfChange (Err l.0); goes = l.1; same = same_at left }
leaves (Renews slot) old left l = record { told = left; answer = OfChange (Err l.0); goes = l.1; same = same_at left }

may_fail : MayFail PageGoes PageMayLeave CountsAlone PagesSame
may_fail = record { fails = fails; stays = stays; leaves = leaves; alike = same_at; along = same_along }

-- However a call of the store was answered, it may leave the same as it is killed.
read_killed : (slot : ℕ) (old new : StoreStanding) (said : Result (List ℕ) StoreFault) → ReadsSlot slot old new said
    → ReadsSlot slot old (record new { faults = next_count old.faults }) (Err Failed)
read_killed slot old new said g =
    record { slots = g.slots; honest = g.honest; counted = refl; gives = tt; short = tt; unsynced = g.unsynced }

leaves_killed : (slot : ℕ) (bytes : List ℕ) (old new : Option Slots) (said : Result Unit StoreFault) → LeavesInSlot slot bytes old new said
    → LeavesInSlot slot bytes old new (Err Failed)
leaves_killed slot bytes old new (Ok it) l = (bytes, l)
leaves_killed slot bytes old new (Err Memory) l =
    let back = put_back_told old slot in (back.0, l ∙ back.1)
leaves_killed slot bytes old new (Err Failed) l = l

marks_over : (slot : ℕ) (marks : UnsyncedSlots)
    → unsynced_slots_with (unsynced_slots_with marks slot false) slot true ≡ unsynced_slots_with marks slot true
marks_over slot marks = grind arith

marks_told : (slot : ℕ) (marks : Option UnsyncedSlots)
    → unsynced_slots_with_mark slot true (unsynced_slots_with_mark slot false marks) ≡ unsynced_slots_with_mark slot true marks
marks_told slot None = refl
marks_told slot (Some marks) = ap (λ (m : UnsyncedSlots). Some m) (marks_over slot marks)

syncs_killed : (slot : ℕ) (old new : Option UnsyncedSlots) (said : Result Unit StoreFault) → SyncsSlot slot old new said
    → SyncsSlot slot old new (Err Failed)
syncs_killed slot old new (Ok it) s = ap (λ (m : Option UnsyncedSlots). unsynced_slots_with_mark slot true m) s ∙ marks_told slot old
syncs_killed slot old new (Err Memory) s = ap (λ (m : Option UnsyncedSlots). unsynced_slots_with_mark slot true m) s
syncs_killed slot old new (Err Failed) s = s

spared : {A : Type 0} (said : Result Unit StoreFault) → said ≡ Err Failed → said ≡ Err Memory → A
spared said a b = absurd (cc)

write_killed : (slot : ℕ) (bytes : List ℕ) (old new : StoreStanding) (said : Result Unit StoreFault) → WritesSlot slot bytes old new said
    → WritesSlot slot bytes old (record new { faults = next_count old.faults }) (Err Failed)
write_killed slot bytes old new said g = record {
  honest = g.honest;
  counted = refl;
  leaves = λ honest. leaves_killed slot bytes old.slots new.slots said (g.leaves honest);
  spared = λ e. spared (Err Failed) refl e;
  synced = syncs_killed slot old.unsynced new.unsynced said g.synced;
}

pub page_reads : PageReadsStop
page_reads slot code old left runs alone killed =
    let s = killed_stops PageGoes PageMayLeave CountsAlone PagesSame may_fail code old left alone killed in
    record {
      told = record (store_standing_on s.end) { faults = next_count old.faults };
      may = read_killed slot (store_standing_on old) (store_standing_on s.end) s.given (runs s.end s.given s.runs);
      slots = s.same.slots;
      is_honest = s.same.is_honest;
      unsynced = s.same.unsynced;
    }

pub page_writes : PageWritesStop
page_writes slot bytes code old left runs alone killed =
    let s = killed_stops PageGoes PageMayLeave CountsAlone PagesSame may_fail code old left alone killed in
    record {
      told = record (store_standing_on s.end) { faults = next_count old.faults };
      may = write_killed slot bytes (store_standing_on old) (store_standing_on s.end) s.given (runs s.end s.given s.runs);
      slots = s.same.slots;
      is_honest = s.same.is_honest;
      unsynced = s.same.unsynced;
    }

-- A program that is killed within a device is killed at that device's call.

-- where the platform alone tells another, or the store
standing_same : {May : Standing → Type 0} (left : Place) (l : LeavesStanding May left.standing)
    → TellsSame (record left { standing = l.told }) left
standing_same left l = record {
  cell = l.cell;
  items = l.items;
  is_on = l.is_on;
  slots = refl;
  is_honest = refl;
  unsynced = refl;
  left = refl;
  entropy = refl;
  received = refl;
}

kept_same : {May : StoreStanding → Type 0} (left : Place) (l : LeavesStore May left.kept) → TellsSame (record left { kept = l.told }) left
kept_same left l = record {
  cell = refl;
  items = refl;
  is_on = refl;
  slots = l.slots;
  is_honest = l.is_honest;
  unsynced = l.unsynced;
  left = refl;
  entropy = refl;
  received = refl;
}

pub kills_reach : KillsReachCalls
kills_reach at left = record {
  steps = λ act l e. record {
    told = record left { standing = l.told };
    may = (ap (λ (p : Place). record p { standing = l.told }) e, l.may);
    same = standing_same left l;
  };
  cycles = λ l e. record {
    told = record left { standing = l.told };
    may = (ap (λ (p : Place). record p { standing = l.told }) e, l.may);
    same = standing_same left l;
  };
  reads = λ slot l e. record {
    told = record left { kept = l.told };
    may = (ap (λ (p : Place). record p { kept = l.told }) e, l.may);
    same = kept_same left l;
  };
  writes = λ slot bytes l e. record {
    told = record left { kept = l.told };
    may = (ap (λ (p : Place). record p { kept = l.told }) e, l.may);
    same = kept_same left l;
  };
}
