-- The devices of a host may fail at each call, and leave the same. With it: any program stops where
-- its devices fail, over any devices.
use Rattle.std.specs.Io.KnownBytes.{Appends, Consumes, Keeps}
use Rattle.std.specs.Option.{option_map}
use Rattle.std.specs.Prelude.{true, false, IsSome}
use Rattle.std.proofs.Common.{refl, subst, sym, inl, inr, ◌≡◌, ◌∙◌, ◌≤◌, ◌+◌, ℕ, zero, suc, List, [], ◌∷◌, Option, None, Some, Err, length}
use Rattle.std.proofs.Common.{take, ap, arith}
use Rattle.std.proofs.lemmas.List.{append-nil}
use Rattle.mm_bytes.specs.Limits.{next_count}
use Rattle.mm_platform.specs.Standing.{Item, Plan, Standing, plan_after, Act, PowerCycles, StepGoes, items_after, items_beside, cell_after}
use Rattle.mm_platform.specs.Standing.{taken_room, writes_after, ReadCell, WriteCell, ReadRegister, ResetRegister, ExtendRegister}
use Rattle.mm_platform.specs.declared.fault.StepFault.TheVariants.{Off}
use Rattle.mm_store.specs.StoreStanding.{ReadsSlot, WritesSlot, slots_with_bytes, Slots, slot_in, slots_with, StoreStanding}
use Rattle.mm_store.specs.declared.fault.StoreFault.TheVariants.{Failed}
use Rattle.mm_killed.specs.DeviceCalls.{Code, Ends, Makes, IsKilledAt, RunsTo, CallAnswer, CallGoes, CallMayLeave, DeviceCall, Place}
use Rattle.mm_killed.specs.DeviceCalls.{InputAnswers, OutputAnswers, Allocates, Cycles, Readies, Reads, Sends, Steps, TakesEntropy}
use Rattle.mm_killed.specs.DeviceCalls.{TakesInput, Writes, OfInput, OfMemory, OfOutput, OfPlatform, OfStore, CallLeaves, StopsAt}
use Rattle.mm_killed.specs.DeviceCalls.{TellsSame}

-- Any program stops where its devices fail, over any devices.

module _ {Call Answer Place : Type 0} (Goes : Call → Place → Place → Answer → Type 0) (Leaves : Call → Place → Place → Type 0)
    (Holds : Place → Type 0) (Same : Place → Place → Type 0) where
  -- a call fails, and leaves the same
  pub record CallFails (call : Call) (at : Place) : Type 0 where
    pub new : Place
    pub answer : Answer
    pub goes : Goes call at new answer
    pub holds : Holds new
    pub same : Same new at

  -- an answer of the call leaves the same
  pub record CallAnswers (call : Call) (old left : Place) : Type 0 where
    pub told : Place
    pub answer : Answer
    pub goes : Goes call old told answer
    pub same : Same told left

  -- what devices have to be
  pub record MayFail : Type 0 where
    pub fails : (call : Call) (at : Place) → Holds at → CallFails call at
    pub stays : (call : Call) (old new : Place) (answer : Answer) → Holds old → Goes call old new answer → Holds new
    pub leaves : (call : Call) (old left : Place) → Leaves call old left → CallAnswers call old left
    pub alike : (at : Place) → Same at at
    pub along : (one two three : Place) → Same one two → Same two three → Same one three

  -- a run that leaves the same
  pub record Stopped {R : Type 0} (code : Code Call Answer R) (old left : Place) : Type 0 where
    pub end : Place
    pub given : R
    pub runs : RunsTo Goes code old end given
    pub same : Same end left

  module _ (may : MayFail) where
    -- all calls fail from here on
    stops : {R : Type 0} (code : Code Call Answer R) (old left : Place) → Holds old → Same old left → Stopped code old left
    stops (Ends given) old left holds same = record { end = old; given = given; runs = (refl, refl); same = same }
    stops (Makes call next) old left holds same =
        let f = may.fails call old holds in
        let s = stops (next f.answer) f.new left f.holds (may.along f.new old left f.same same) in
        record { end = s.end; given = s.given; runs = (f.new, f.answer, f.goes, s.runs); same = s.same }

    pub killed_stops : {R : Type 0} (code : Code Call Answer R) (old left : Place) → Holds old → IsKilledAt Goes Leaves code old left
        → Stopped code old left
    killed_stops (Ends given) old left holds e =
        record { end = old; given = given; runs = (refl, refl); same = subst (λ (p : Place). Same old p) (sym e) (may.alike old) }
    killed_stops (Makes call next) old left holds (inl e) =
        stops (Makes call next) old left holds (subst (λ (p : Place). Same old p) (sym e) (may.alike old))
    killed_stops (Makes call next) old left holds (inr (inl leaves)) =
        let a = may.leaves call old left leaves in
        let s = stops (next a.answer) a.told left (may.stays call old a.told a.answer holds a.goes) a.same in
        record { end = s.end; given = s.given; runs = (a.told, a.answer, a.goes, s.runs); same = s.same }
    killed_stops (Makes call next) old left holds (inr (inr later)) =
        let s = killed_stops (next later.1) later.0 left (may.stays call old later.0 later.1 holds later.2) later.3 in
        record { end = s.end; given = s.given; runs = (later.0, later.1, later.2, s.runs); same = s.same }

-- The devices of a host may fail at each call, and leave the same.

-- the platform doesn't tell its plan
abbrev pub IsUnplanned : Place → Type 0
IsUnplanned at = at.standing.plan ≡ None

same_along : (one two three : Place) → TellsSame one two → TellsSame two three → TellsSame one three
same_along one two three a b = record {
  cell = a.cell ∙ b.cell;
  items = a.items ∙ b.items;
  is_on = a.is_on ∙ b.is_on;
  slots = a.slots ∙ b.slots;
  is_honest = a.is_honest ∙ b.is_honest;
  unsynced = a.unsynced ∙ b.unsynced;
  left = a.left ∙ b.left;
  entropy = a.entropy ∙ b.entropy;
  received = a.received ∙ b.received;
}

-- nothing came of others
pub nothing_beside : (items : Option (List Item)) → items ≡ items_beside [] items
nothing_beside None = refl
nothing_beside (Some xs) = ap (λ (x : List Item). Some x) (sym (append-nil xs))

no_cell : (act : Act) (cell : Option (List ℕ)) → cell ≡ cell_after act false cell
no_cell ReadCell cell = refl
no_cell (WriteCell bytes) cell = refl
no_cell ReadRegister cell = refl
no_cell ResetRegister cell = refl
no_cell (ExtendRegister value) cell = refl

no_items : (act : Act) (items : Option (List Item)) → items_after act false items ≡ items
no_items ReadCell items = refl
no_items (WriteCell bytes) items = refl
no_items ReadRegister items = refl
no_items ResetRegister items = refl
no_items (ExtendRegister value) items = refl

no_room : (act : Act) (spare : ℕ) → spare ≤ spare + taken_room act false
no_room act spare = omega arith

-- a step of a platform that is off
abbrev pub failed_standing : Act → Standing → Standing
failed_standing act old = record old {
  steps = next_count old.steps;
  writes = writes_after act old.writes;
  faults = next_count old.faults;
}

unplanned_absurd : {A : Type 0} (old : Standing) (plan : Plan) → old.plan ≡ None → old.plan ≡ Some plan → A
unplanned_absurd old plan none some = absurd (cc)

pub step_fails : (act : Act) (old : Standing) → old.plan ≡ None → StepGoes act old (failed_standing act old) (Some Off)
step_fails act old none = record {
  is_made = false;
  others = [];
  cell = no_cell act old.cell;
  items = nothing_beside old.items ∙ sym (no_items act (items_beside [] old.items));
  steps = refl;
  writes = refl;
  cycles = refl;
  room = no_room act old.spare;
  plan = none ∙ sym (ap (λ (p : Option Plan). option_map plan_after p) none);
  ends = record { faults = refl; still = λ off. (refl, off) };
  told = λ plan some. unplanned_absurd old plan none some;
}

no_some : {A : Type 0} (plan : Option Plan) → plan ≡ None → IsSome plan → A
no_some None none some = absurd (cc)
no_some (Some plan) none some = absurd (cc)

pub cycle_fails : (old : Standing) → old.plan ≡ None
    → PowerCycles old (record old { cycles = next_count old.cycles; faults = next_count old.faults }) (Some Off)
cycle_fails old none = record {
  is_emptied = false;
  cell = refl;
  items = refl;
  steps = refl;
  writes = refl;
  cycles = refl;
  room = omega arith;
  plan = refl;
  ends = refl;
  told = λ some. no_some old.plan none some;
}

-- bytes that are put where they were
put_back : (slots : Slots) (n : ℕ) → slots ≡ slots_with slots n (slot_in slots n)
put_back slots n = grind arith

pub put_back_told : (slots : Option Slots) (n : ℕ) → (left : List ℕ) × (slots ≡ slots_with_bytes n left slots)
put_back_told None n = ([], refl)
put_back_told (Some slots) n = (slot_in slots n, ap (λ (x : Slots). Some x) (put_back slots n))

abbrev failed_store : StoreStanding → StoreStanding
failed_store old = record old { faults = next_count old.faults }

read_fails : (slot : ℕ) (old : StoreStanding) → ReadsSlot slot old (failed_store old) (Err Failed)
read_fails slot old = record { slots = refl; honest = refl; counted = refl; gives = tt; short = tt; unsynced = refl }

write_fails : (slot : ℕ) (bytes : List ℕ) (old : StoreStanding) → WritesSlot slot bytes old (failed_store old) (Err Failed)
write_fails slot bytes old = record {
  honest = refl;
  counted = refl;
  leaves = λ honest. put_back_told old.slots slot;
  spared = λ e. absurd (cc);
  synced = refl;
}

keeps : (known : Option (List ℕ)) → Keeps known known
keeps None = tt
keeps (Some xs) = refl

-- the same but for counts of the platform and of the store
same_but_counts : (at : Place) (steps writes cycles faults stored : ℕ)
    → TellsSame (record at {
      standing = record at.standing { steps = steps; writes = writes; cycles = cycles; faults = faults };
      kept = record at.kept { faults = stored };
    }) at
same_but_counts at steps writes cycles faults stored = record {
  cell = refl;
  items = refl;
  is_on = refl;
  slots = refl;
  is_honest = refl;
  unsynced = refl;
  left = refl;
  entropy = refl;
  received = refl;
}

same_at : (at : Place) → TellsSame at at
same_at at = same_but_counts at _ _ _ _ _

-- what a call of a host's devices that fails leaves
abbrev pub Fails : DeviceCall → Place → Type 0
Fails call at = CallFails CallGoes CallLeaves IsUnplanned TellsSame call at

fails : (call : DeviceCall) (at : Place) → IsUnplanned at → Fails call at
fails (Steps act) at none = record {
  new = record at { standing = failed_standing act at.standing };
  answer = OfPlatform (Err Off);
  goes = (refl, (step_fails act at.standing none, tt));
  holds = none;
  same = same_but_counts at _ _ _ _ _;
}
fails Cycles at none = record {
  new = record at { standing = record at.standing { cycles = next_count at.standing.cycles; faults = next_count at.standing.faults } };
  answer = OfPlatform (Err Off);
  goes = (refl, cycle_fails at.standing none);
  holds = none;
  same = same_but_counts at _ _ _ _ _;
}
fails Readies at none = record { new = at; answer = OfMemory false; goes = refl; holds = none; same = same_at at }
fails (Reads slot) at none = record {
  new = record at { kept = failed_store at.kept };
  answer = OfStore (Err Failed);
  goes = (refl, read_fails slot at.kept);
  holds = none;
  same = same_but_counts at _ _ _ _ _;
}
fails (Writes slot bytes) at none = record {
  new = record at { kept = failed_store at.kept };
  answer = OfStore (Err Failed);
  goes = (refl, write_fails slot bytes at.kept);
  holds = none;
  same = same_but_counts at _ _ _ _ _;
}
fails (TakesInput room) at none =
    record { new = at; answer = OfInput None; goes = (refl, keeps at.left); holds = none; same = same_at at }
fails (TakesEntropy room) at none =
    record { new = at; answer = OfInput None; goes = (refl, keeps at.entropy); holds = none; same = same_at at }
fails (Sends piece) at none =
    record { new = at; answer = OfOutput None; goes = (refl, keeps at.received); holds = none; same = same_at at }
fails Allocates at none = record { new = at; answer = OfMemory false; goes = refl; holds = none; same = same_at at }

-- a call that leaves the platform leaves the plan untold
untouched : (old new : Place) → IsUnplanned old → new.standing ≡ old.standing → IsUnplanned new
untouched old new none e = ap (λ (s : Standing). s.plan) e ∙ none

stays : (call : DeviceCall) (old new : Place) (answer : CallAnswer) → IsUnplanned old → CallGoes call old new answer → IsUnplanned new
stays (Steps act) old new (OfPlatform said) none goes =
    goes.1.0.plan ∙ ap (λ (p : Option Plan). option_map plan_after p) none
stays Cycles old new (OfPlatform said) none goes = goes.1.plan ∙ none
stays Readies old new (OfMemory true) none goes = ap (λ (s : Standing). s.plan) goes.1.same ∙ none
stays Readies old new (OfMemory false) none goes = untouched old new none (ap (λ (p : Place). p.standing) goes)
stays (Reads slot) old new (OfStore said) none goes = untouched old new none (ap (λ (p : Place). p.standing) goes.0)
stays (Writes slot bytes) old new (OfStore said) none goes = untouched old new none (ap (λ (p : Place). p.standing) goes.0)
stays (TakesInput room) old new (OfInput said) none goes = untouched old new none (ap (λ (p : Place). p.standing) goes.0)
stays (TakesEntropy room) old new (OfInput said) none goes = untouched old new none (ap (λ (p : Place). p.standing) goes.0)
stays (Sends piece) old new (OfOutput said) none goes = untouched old new none (ap (λ (p : Place). p.standing) goes.0)
stays Allocates old new (OfMemory said) none goes = untouched old new none (ap (λ (p : Place). p.standing) goes)
stays call old new answer none goes = absurd goes

-- What a call may leave, some answer of it leaves: bytes that were taken or received, and else its fault.
taken : (room : ℕ) (old new : Option (List ℕ)) (bytes : List ℕ) → length bytes ≤ room → Consumes old new bytes
    → (said : Option (List ℕ)) × InputAnswers room old new said
taken room None new [] few c = (None, tt)
taken room (Some xs) None [] few c = absurd c
taken room (Some xs) (Some ys) [] few c = (None, sym c)
taken room old new (byte ∷ bytes) few c = (Some (byte ∷ bytes), (few, c, λ e. absurd (omega arith)))

kept_by : (old new : Option (List ℕ)) → Appends old new [] → Keeps old new
kept_by None new c = tt
kept_by (Some xs) None c = absurd c
kept_by (Some xs) (Some ys) c = c ∙ append-nil xs

none_of : (piece : List ℕ) → take 0 piece ≡ []
none_of piece = grind arith

sent : (piece : List ℕ) (old new : Option (List ℕ)) (count : ℕ) → count ≤ length piece → Appends old new (take count piece)
    → (said : Option ℕ) × OutputAnswers piece old new said
sent piece old new zero few a = (None, kept_by old new (subst (λ (bytes : List ℕ). Appends old new bytes) (none_of piece) a))
sent piece old new (suc count) few a = (Some (suc count), (few, (λ some. omega arith), a))

leaves : (call : DeviceCall) (old left : Place) → CallMayLeave call old left → (answer : CallAnswer) × CallGoes call old left answer
leaves (Steps act) old left l = (OfPlatform (Err Off), (l.0, (l.1, tt)))
leaves Cycles old left l = (OfPlatform (Err Off), (l.0, l.1))
leaves Readies old left l = (OfMemory false, l)
leaves (Reads slot) old left l = (OfStore (Err Failed), (l.0, l.1))
leaves (Writes slot bytes) old left l = (OfStore (Err Failed), (l.0, l.1))
leaves (TakesInput room) old left l =
    let t = taken room old.left left.left l.1 l.2 l.3 in (OfInput t.0, (l.0, t.1))
leaves (TakesEntropy room) old left l =
    let t = taken room old.entropy left.entropy l.1 l.2 l.3 in (OfInput t.0, (l.0, t.1))
leaves (Sends piece) old left l =
    let t = sent piece old.received left.received l.1 l.2 l.3 in (OfOutput t.0, (l.0, t.1))
leaves Allocates old left l = (OfMemory false, l)

answers : (call : DeviceCall) (old left : Place) → CallLeaves call old left
    → CallAnswers CallGoes CallLeaves IsUnplanned TellsSame call old left
answers call old left l =
    let a = leaves call old l.told l.may in record { told = l.told; answer = a.0; goes = a.1; same = l.same }

may_fail : MayFail CallGoes CallLeaves IsUnplanned TellsSame
may_fail = record { fails = fails; stays = stays; leaves = answers; alike = same_at; along = same_along }

pub any_stops : {R : Type 0} (code : Code DeviceCall CallAnswer R) (old left : Place) → old.standing.plan ≡ None
    → IsKilledAt CallGoes CallLeaves code old left → StopsAt code old left
any_stops code old left none killed =
    let s = killed_stops CallGoes CallLeaves IsUnplanned TellsSame may_fail code old left none killed in
    record { end = s.end; given = s.given; runs = s.runs; leaves = s.same }
