-- The calls that the store of pages makes of its device. With it: the calls that the two cells make
-- of their memory and register.
use Rattle.std.specs.Prelude.{ℕ, List, Result, Err, ◌≡◌, ◌+◌, ◌≤◌, Some, IfOk, length}
use Rattle.std.specs.Result.{result_err}
use Rattle.mm_bytes.specs.declared.fault.Failed.{Failed}
use Rattle.mm_platform.specs.Memory.{ReadsRaw, WritesRaw, range_of}
use Rattle.mm_platform.specs.Standing.{Standing, Act, PowerCycles, ReadCell, StepGoes, WriteCell}
use Rattle.mm_platform.specs.declared.fault.StepFault.{StepFault}
use Rattle.mm_platform.specs.declared.fault.StepFault.TheVariants.{Off}
use Rattle.mm_pages.specs.PageStanding.{ReadsLength, ReadsPage, RenewsSlot, SetsLength, SyncsPages, WritesPage, PageStanding}
use Rattle.mm_killed.specs.DeviceCalls.{StepAnswers}

-- a read of a slot's length, or of a page; a write of a page, or of a length; a sync; a renewal
pub data PageCall : Type 0 where
  LengthOf : ℕ → PageCall
  Page : ℕ → ℕ → PageCall
  WritesPageOf : ℕ → ℕ → List ℕ → PageCall
  SetsLengthOf : ℕ → ℕ → PageCall
  Syncs : ℕ → PageCall
  Renews : ℕ → PageCall

-- what comes of it: a length, a page, or nothing; or its fault
pub data PageAnswer : Type 0 where
  OfLength : Result ℕ Failed → PageAnswer
  OfPage : List ℕ → Result Unit Failed → PageAnswer
  OfChange : Result Unit Failed → PageAnswer

-- where a call leads, by its answer
abbrev pub PageGoes : PageCall → PageStanding → PageStanding → PageAnswer → Type 0
PageGoes (LengthOf slot) old new (OfLength said) = ReadsLength slot old new said
PageGoes (Page slot page) old new (OfPage bytes said) = ReadsPage slot page old new bytes said
PageGoes (WritesPageOf slot page bytes) old new (OfChange said) =
    WritesPage slot page bytes old new said
PageGoes (SetsLengthOf slot size) old new (OfChange said) = SetsLength slot size old new said
PageGoes (Syncs slot) old new (OfChange said) = SyncsPages slot old new said
PageGoes (Renews slot) old new (OfChange said) = RenewsSlot slot old new said
PageGoes call old new answer = ⊥

-- What one may leave that isn't answered, as where it failed: of a slot that is changed any bytes.
abbrev pub PageMayLeave : PageCall → PageStanding → PageStanding → Type 0
PageMayLeave (LengthOf slot) old new = (why : Failed) × ReadsLength slot old new (Err why)
PageMayLeave (Page slot page) old new =
    (bytes : List ℕ) × (why : Failed) × ReadsPage slot page old new bytes (Err why)
PageMayLeave (WritesPageOf slot page bytes) old new =
    (why : Failed) × WritesPage slot page bytes old new (Err why)
PageMayLeave (SetsLengthOf slot size) old new =
    (why : Failed) × SetsLength slot size old new (Err why)
PageMayLeave (Syncs slot) old new = (why : Failed) × SyncsPages slot old new (Err why)
PageMayLeave (Renews slot) old new = (why : Failed) × RenewsSlot slot old new (Err why)

-- The calls that the two cells make of their memory and register.

-- a step of the register
abbrev pub IsOfRegister : Act → Type 0
IsOfRegister ReadCell = ⊥
IsOfRegister (WriteCell bytes) = ⊥
IsOfRegister act = Unit {0}

-- a read of so many bytes from a place on; a write from there on, within the 209 bytes; a loss of
-- power; a step of the register
pub data RawCall : Type 0 where
  ReadsRange : ℕ → ℕ → RawCall
  WritesRange : (at : ℕ) (bytes : List ℕ) → at + length bytes ≤ 209 → RawCall
  CyclesRaw : RawCall
  StepsRegister : (act : Act) → IsOfRegister act → RawCall

-- Where a call leads, by the bytes that it gives, or its fault.
abbrev pub RawGoes : RawCall → Standing → Standing → Result (List ℕ) StepFault → Type 0
RawGoes (ReadsRange at size) old new said =
    ReadsRaw old new (result_err said)
    × IfOk said (λ bytes. (all : List ℕ) → old.cell ≡ Some all → bytes ≡ range_of at size all)
RawGoes (WritesRange at bytes within) old new said = WritesRaw at bytes old new (result_err said)
RawGoes CyclesRaw old new said = PowerCycles old new (result_err said)
RawGoes (StepsRegister act is) old new said = StepAnswers act old new said

-- What one may leave that isn't answered: of a range that is written any bytes.
abbrev pub RawMayLeave : RawCall → Standing → Standing → Type 0
RawMayLeave (ReadsRange at size) old new = ReadsRaw old new (Some Off)
RawMayLeave (WritesRange at bytes within) old new = WritesRaw at bytes old new (Some Off)
RawMayLeave CyclesRaw old new = PowerCycles old new (Some Off)
RawMayLeave (StepsRegister act is) old new = StepGoes act old new (Some Off)
