-- What the objects that the program is handed tell: the platform, the store, the input, the entropy
-- and the output. With it: what the command `checkpoint` does; what the command `init` does; what
-- the command `power` does.
use Rattle.std.specs.Prelude.{◌≡◌, ℕ, List, Option, codes, Result, Ok, Err, None, Some}
use Rattle.mm_platform.specs.Standing.{Standing, PowerCycles}
use Rattle.mm_platform.specs.declared.fault.StepFault.{StepFault}
use Rattle.mm_modules.specs.Modules.{meaning_of}
use Rattle.mm_call.specs.CallFinding.{CountsHandedFault}
use Rattle.mm_opt.specs.CheckpointPromise.{IsCheckpointOnCourse}
use Rattle.mm_opt.specs.Checkpoints.{ClosesSegment, ClosingStepsBy, LeavesStill, closing_fault_in}
use Rattle.mm_opt.specs.declared.segment.Checkpointed.{Checkpointed}
use Rattle.mm_opt.specs.declared.segment.Checkpointed.TheVariants as said
use Rattle.mm_opt.specs.declared.segment.CheckpointRefusal.{CheckpointRefusal}
use Rattle.mm_opt.specs.declared.segment.CheckpointRefusal.TheVariants as refusal
use Rattle.mm_schedule.specs.declared.header.Header.{Header}
use Rattle.mm_status.specs.Status.{line_of, TellsLines}
use Rattle.mm_status.specs.declared.status.Status.{Status}
use Rattle.mm_status.specs.declared.status.Status.TheVariants.{PlatformFault, Blank, Cell, Lost, Kind, Memory, Already, ReadFault, Short}
use Rattle.mm_status.specs.declared.status.Status.TheVariants.{StoreFault}
use Rattle.mm_store.specs.StoreStanding.{StoreStanding}
use Rattle.mm_recovery.specs.FirstStart.{Devices, devices, BlamesDevice, InitLeaves, TellsUse, InitGoes}
use Rattle.mm_recovery.specs.declared.init_fault.InitFault.{InitFault}
use Rattle.mm_recovery.specs.declared.init_fault.InitFault.TheVariants as init
use Rattle.mm_host.specs.Sessions.{SessionStanding, session_standing}

-- what stands on the platform, what the store keeps, what is left of the input and of the entropy,
-- what the output received; and the counts of faults of the last three (the first two have theirs)
pub record Outside : Type 0 where
  pub standing : Standing
  pub kept : StoreStanding
  pub left : Option (List ℕ)
  pub reads : ℕ
  pub entropy : Option (List ℕ)
  pub takes : ℕ
  pub received : Option (List ℕ)
  pub writes : ℕ

abbrev pub outside : Standing → StoreStanding
    → (left : Option (List ℕ)) (reads : ℕ) (entropy : Option (List ℕ)) (takes : ℕ)
    (received : Option (List ℕ)) (writes : ℕ) → Outside
outside standing kept left reads entropy takes received writes = record {
  standing = standing;
  kept = kept;
  left = left;
  reads = reads;
  entropy = entropy;
  takes = takes;
  received = received;
  writes = writes;
}

-- the same, but for what the input and the output tell
abbrev pub with_streams : Outside
    → (left : Option (List ℕ)) (reads : ℕ) (received : Option (List ℕ)) (writes : ℕ) → Outside
with_streams it left reads received writes =
    record it { left = left; reads = reads; received = received; writes = writes }

-- the same, but for what the platform and the output tell
abbrev pub with_platform : Outside
    → Standing → (received : Option (List ℕ)) (writes : ℕ) → Outside
with_platform it standing received writes =
    record it { standing = standing; received = received; writes = writes }

-- of these, what the objects of a session tell
abbrev pub session_of : Outside → SessionStanding
session_of it = session_standing it.standing it.kept it.left it.received

-- of these, what a first start works with
abbrev pub devices_of : Outside → Devices
devices_of it = devices it.standing it.kept it.entropy it.takes

-- but for the output, each tells what it told
pub record IsStill (old new : Outside) : Type 0 where
  pub standing : new.standing ≡ old.standing
  pub kept : new.kept ≡ old.kept
  pub left : new.left ≡ old.left
  pub reads : new.reads ≡ old.reads
  pub entropy : new.entropy ≡ old.entropy
  pub takes : new.takes ≡ old.takes

-- What the command `checkpoint` does.

-- what is told of a checkpoint
abbrev pub checkpoint_line : Result Checkpointed CheckpointRefusal → Result (List ℕ) Status
checkpoint_line (Ok said.Done) = Ok (line_of (codes "checkpointed"))
checkpoint_line (Ok said.NoSegment) = Ok (line_of (codes "no segment"))
checkpoint_line (Err (refusal.Device fault)) = Err PlatformFault
checkpoint_line (Err refusal.Blank) = Err Blank
checkpoint_line (Err refusal.Cell) = Err Cell
checkpoint_line (Err refusal.Kind) = Err Kind
checkpoint_line (Err refusal.Lost) = Err Lost

-- A checkpoint: how it went over the platform, from any history; what it left where it was refused;
-- its steps; and what was told. The platform's count rose exactly where a device's fault ended it.
pub record CheckpointsInstance (old new : Outside) (status : Status) : Type 0 where
  pub answer : Result Checkpointed CheckpointRefusal
  pub closes : ClosesSegment old.standing new.standing answer
  pub goes : IsCheckpointOnCourse old.standing new.standing answer
  pub untouched : LeavesStill answer old.standing new.standing
  pub steps : ClosingStepsBy answer old.standing new.standing
  pub faults : CountsHandedFault (closing_fault_in answer) old.standing.faults new.standing.faults
  pub tells : TellsLines (checkpoint_line answer) old.received new.received old.writes new.writes
      status

-- What the command `init` does.

-- what is told of a first start
abbrev pub init_line : Result (Unit {0}) InitFault → Result (List ℕ) Status
init_line (Ok _) = Ok (line_of (codes "made"))
init_line (Err init.Memory) = Err Memory
init_line (Err (init.Platform fault)) = Err PlatformFault
init_line (Err init.Already) = Err Already
init_line (Err init.ReadFault) = Err ReadFault
init_line (Err (init.Short got)) = Err (Short got)
init_line (Err init.Store) = Err StoreFault

-- An instance of this variant and module was started, or wasn't: its steps; what they left, from
-- which a session goes on; when a cell is told to be in use; whose count of faults rose; and what
-- was told.
pub record StartsInstance (header : Header) (old new : Outside) (status : Status) : Type 0 where
  pub answer : Result (Unit {0}) InitFault
  pub steps : InitGoes header.variant (meaning_of header.module) (devices_of old) (devices_of new)
      answer
  pub leaves : InitLeaves header.variant (meaning_of header.module) (devices_of old)
      (devices_of new) answer
  pub uses : TellsUse (devices_of old) answer
  pub faults : BlamesDevice (devices_of old) (devices_of new) answer
  pub tells : TellsLines (init_line answer) old.received new.received old.writes new.writes status

-- What the command `power` does.

-- what is told of it, by the platform's fault or none
abbrev pub power_line : Option StepFault → Result (List ℕ) Status
power_line None = Ok (line_of (codes "power"))
power_line (Some fault) = Err PlatformFault

-- The platform lost its power and has it back, or failed at that; and it was told.
pub record LosesPower (old new : Outside) (status : Status) : Type 0 where
  pub fault : Option StepFault
  pub cycles : PowerCycles old.standing new.standing fault
  pub tells : TellsLines (power_line fault) old.received new.received old.writes new.writes status
