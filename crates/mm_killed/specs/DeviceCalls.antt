-- The calls that a program makes of its devices, as their traits have them. With it: a program, as
-- a tree of calls of its devices, and where it stands when it is killed; a program that is killed
-- leaves what the same program leaves that its devices fail.
use Rattle.std.specs.Io.KnownBytes.{Appends, Consumes, IsAtEnd, Keeps}
use Rattle.std.specs.Prelude.{◌≡◌, ◌<◌, ◌≤◌, ℕ, Bool, true, false, List, [], length, take, Option, None, Some, Result, Ok, Err, IfOk, ◌⊎◌}
use Rattle.std.specs.Result.{result_err}
use Rattle.mm_platform.specs.Standing.{Item, Standing, item_values, register_after, Act, ReadCell, ReadRegister, PowerCycles, RoomGrows}
use Rattle.mm_platform.specs.Standing.{StepGoes}
use Rattle.mm_platform.specs.declared.fault.StepFault.{StepFault}
use Rattle.mm_platform.specs.declared.fault.StepFault.TheVariants.{Off}
use Rattle.mm_store.specs.StoreStanding.{ReadsSlot, WritesSlot, StoreStanding}
use Rattle.mm_store.specs.declared.fault.StoreFault.{StoreFault}
use Rattle.mm_store.specs.declared.fault.StoreFault.TheVariants.{Failed}

-- What the objects of a program tell: what stands on its platform, what its store keeps, what is
-- left of its input and of its entropy, and what its output received.
pub record Place : Type 0 where
  pub standing : Standing
  pub kept : StoreStanding
  pub left : Option (List ℕ)
  pub entropy : Option (List ℕ)
  pub received : Option (List ℕ)

-- A device step; a loss of power that is called for; room for an own extension; a read and a write
-- of a slot; up to so many bytes of the input, or of the entropy; a piece for the output; memory.
pub data DeviceCall : Type 0 where
  Steps : Act → DeviceCall
  Cycles : DeviceCall
  Readies : DeviceCall
  Reads : ℕ → DeviceCall
  Writes : ℕ → List ℕ → DeviceCall
  TakesInput : ℕ → DeviceCall
  TakesEntropy : ℕ → DeviceCall
  Sends : List ℕ → DeviceCall
  Allocates : DeviceCall

-- What comes of a call, by its device: the bytes that were read or taken, how many were received,
-- whether there was room or memory; or its fault.
pub data CallAnswer : Type 0 where
  OfPlatform : Result (List ℕ) StepFault → CallAnswer
  OfStore : Result (List ℕ) StoreFault → CallAnswer
  OfInput : Option (List ℕ) → CallAnswer
  OfOutput : Option ℕ → CallAnswer
  OfMemory : Bool → CallAnswer

-- what a step that reads gives, where the platform tells it
abbrev pub StepReads : Act → Standing → Standing → List ℕ → Type 0
StepReads ReadCell old new bytes = (cell : List ℕ) → old.cell ≡ Some cell → bytes ≡ cell
StepReads ReadRegister old new bytes = (items : List Item) → new.items ≡ Some items
    → bytes ≡ register_after (item_values items)
StepReads _ old new bytes = bytes ≡ []

abbrev pub StepAnswers : Act → Standing → Standing → Result (List ℕ) StepFault → Type 0
StepAnswers act old new said =
    StepGoes act old new (result_err said) × IfOk said (StepReads act old new)

-- Bytes were taken of an input, none only at its end or without room; or the call failed, and took
-- none.
abbrev pub InputAnswers : ℕ → Option (List ℕ) → Option (List ℕ) → Option (List ℕ) → Type 0
InputAnswers room old new (Some bytes) =
    (length bytes ≤ room) × Consumes old new bytes
    × (length bytes ≡ 0 → 0 < room → IsAtEnd new)
InputAnswers room old new None = Keeps old new

-- The first bytes of a piece were received, one at least where there is one; or the call failed.
abbrev pub OutputAnswers : List ℕ → Option (List ℕ) → Option (List ℕ) → Option ℕ → Type 0
OutputAnswers piece old new (Some count) =
    (count ≤ length piece) × (0 < length piece → 0 < count)
    × Appends old new (take count piece)
OutputAnswers piece old new None = Keeps old new

-- a write gives no bytes
abbrev pub written_of : Result (List ℕ) StoreFault → Result Unit StoreFault
written_of (Ok bytes) = Ok tt
written_of (Err why) = Err why

-- Where a call leads from one place to another, by its answer, as its trait says.
abbrev pub CallGoes : DeviceCall → Place → Place → CallAnswer → Type 0
CallGoes (Steps act) old new (OfPlatform said) =
    (new ≡ record old { standing = new.standing }) × StepAnswers act old.standing new.standing said
CallGoes Cycles old new (OfPlatform said) =
    (new ≡ record old { standing = new.standing })
    × PowerCycles old.standing new.standing (result_err said)
CallGoes Readies old new (OfMemory true) =
    (new ≡ record old { standing = new.standing }) × RoomGrows old.standing new.standing
CallGoes Readies old new (OfMemory false) = new ≡ old
CallGoes (Reads slot) old new (OfStore said) =
    (new ≡ record old { kept = new.kept }) × ReadsSlot slot old.kept new.kept said
CallGoes (Writes slot bytes) old new (OfStore said) =
    (new ≡ record old { kept = new.kept })
    × WritesSlot slot bytes old.kept new.kept (written_of said)
CallGoes (TakesInput room) old new (OfInput said) =
    (new ≡ record old { left = new.left }) × InputAnswers room old.left new.left said
CallGoes (TakesEntropy room) old new (OfInput said) =
    (new ≡ record old { entropy = new.entropy }) × InputAnswers room old.entropy new.entropy said
CallGoes (Sends piece) old new (OfOutput said) =
    (new ≡ record old { received = new.received })
    × OutputAnswers piece old.received new.received said
CallGoes Allocates old new (OfMemory said) = new ≡ old
CallGoes call old new answer = ⊥

-- What a call may leave that was made and isn't answered, as the program is killed within it. A
-- step's effect is made or isn't; of the slot that is written any bytes are left, and the others
-- stay; some front of what it was to take or to send went through.
abbrev pub CallMayLeave : DeviceCall → Place → Place → Type 0
CallMayLeave (Steps act) at new =
    (new ≡ record at { standing = new.standing })
    × StepGoes act at.standing new.standing (Some Off)
CallMayLeave Cycles at new =
    (new ≡ record at { standing = new.standing })
    × PowerCycles at.standing new.standing (Some Off)
CallMayLeave (Reads slot) at new =
    (new ≡ record at { kept = new.kept }) × ReadsSlot slot at.kept new.kept (Err Failed)
CallMayLeave (Writes slot bytes) at new =
    (new ≡ record at { kept = new.kept }) × WritesSlot slot bytes at.kept new.kept (Err Failed)
CallMayLeave (TakesInput room) at new =
    (new ≡ record at { left = new.left })
    × (bytes : List ℕ) × (length bytes ≤ room) × Consumes at.left new.left bytes
CallMayLeave (TakesEntropy room) at new =
    (new ≡ record at { entropy = new.entropy })
    × (bytes : List ℕ) × (length bytes ≤ room) × Consumes at.entropy new.entropy bytes
CallMayLeave (Sends piece) at new =
    (new ≡ record at { received = new.received })
    × (count : ℕ) × (count ≤ length piece) × Appends at.received new.received (take count piece)
CallMayLeave _ at new = new ≡ at

-- A program, as a tree of calls of its devices, and where it stands when it is killed.

-- It ends with this result; or it makes a call, and goes on by the answer alone.
pub data Code (Call Answer R : Type 0) : Type 0 where
  Ends : R → Code Call Answer R
  Makes : Call → (Answer → Code Call Answer R) → Code Call Answer R

-- The program is run to its end, where each call leads as this says, by its answer.
abbrev pub RunsTo : {Call Answer Place R : Type 0}
    → (Goes : Call → Place → Place → Answer → Type 0)
    → Code Call Answer R → Place → Place → R → Type 0
RunsTo Goes (Ends given) old new result = (new ≡ old) × (result ≡ given)
RunsTo {Answer = Answer} {Place = Place} Goes (Makes call next) old new result =
    (at : Place) × (answer : Answer) × Goes call old at answer
    × RunsTo Goes (next answer) at new result

-- It is killed: before a call, or within it, of which no answer comes; or behind some answers, up
-- to its end.
abbrev pub IsKilledAt : {Call Answer Place R : Type 0}
    → (Goes : Call → Place → Place → Answer → Type 0) → (Leaves : Call → Place → Place → Type 0)
    → Code Call Answer R → Place → Place → Type 0
IsKilledAt Goes Leaves (Ends given) old left = left ≡ old
IsKilledAt {Answer = Answer} {Place = Place} Goes Leaves (Makes call next) old left =
    (left ≡ old) ⊎ Leaves call old left
    ⊎ ((at : Place) × (answer : Answer) × Goes call old at answer
    × IsKilledAt Goes Leaves (next answer) at left)

-- A program that is killed leaves what the same program leaves that its devices fail.

-- Two places tell the same, but for counts of steps, writes, power losses and faults, and for room.
pub record TellsSame (one other : Place) : Type 0 where
  pub cell : one.standing.cell ≡ other.standing.cell
  pub items : one.standing.items ≡ other.standing.items
  pub is_on : one.standing.is_on ≡ other.standing.is_on
  pub slots : one.kept.slots ≡ other.kept.slots
  pub is_honest : one.kept.is_honest ≡ other.kept.is_honest
  pub unsynced : one.kept.unsynced ≡ other.kept.unsynced
  pub left : one.left ≡ other.left
  pub entropy : one.entropy ≡ other.entropy
  pub received : one.received ≡ other.received

-- What a killed call may leave, but for counts.
pub record CallLeaves (call : DeviceCall) (at left : Place) : Type 0 where
  pub told : Place
  pub may : CallMayLeave call at told
  pub same : TellsSame told left

-- A run of the program to its end, each call answered as the traits allow, that leaves the same.
pub record StopsAt {R : Type 0} (code : Code DeviceCall CallAnswer R) (old left : Place) : Type 0
  where
    pub end : Place
    pub given : R
    pub runs : RunsTo CallGoes code old end given
    pub leaves : TellsSame end left

-- Any program, over a platform that doesn't tell its plan: killed at any call, it leaves what it
-- leaves over devices of which that call fails, and all behind it.
abbrev pub AnyProgramStops : Type 0 → Type 0
AnyProgramStops R =
    (code : Code DeviceCall CallAnswer R) (old left : Place) →
    old.standing.plan ≡ None → IsKilledAt CallGoes CallLeaves code old left →
    StopsAt code old left
