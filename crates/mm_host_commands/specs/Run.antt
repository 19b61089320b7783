-- What the command `run` does.
use Rattle.std.specs.Prelude.{◌≡◌, ℕ, List, Option, None, Some, Result, Ok, Err}
use Rattle.mm_digest.specs.declared.variant.Variant.{Variant}
use Rattle.mm_recovery.specs.declared.fault.HostFault.TheVariants as host
use Rattle.mm_host.specs.AnySlots.{RunsOnceFrom, ContinuesFrom, SessionContinues}
use Rattle.mm_host.specs.Continuation.{SessionWrites, IsRefusalNamed, is_platform_fault, is_read_fault, is_store_fault, is_write_fault}
use Rattle.mm_host.specs.Continuation.{SparesLines}
use Rattle.mm_host.specs.Sessions.{IsSession}
use Rattle.mm_host.specs.declared.fault.SessionFault.{SessionFault}
use Rattle.mm_host.specs.declared.fault.SessionFault.TheVariants as session
use Rattle.mm_model.specs.declared.refusal.Refusal.{Refusal}
use Rattle.mm_model.specs.declared.refusal.Refusal.TheVariants as refusal
use Rattle.mm_modules.specs.Modules.{meaning_of, module_of_id}
use Rattle.mm_modules.specs.declared.any.AnyModule.{AnyModule}
use Rattle.mm_platform.specs.declared.fault.StepFault.{StepFault}
use Rattle.mm_platform.specs.Standing.{Standing, ReadCell, StepGoes}
use Rattle.mm_play.specs.PlaysInput.{IsBlamed}
use Rattle.mm_schedule.specs.declared.header.Header.{Header}
use Rattle.mm_seal.specs.Cell.{ReadsCell}
use Rattle.mm_seal.specs.declared.cell.Cell.{Cell as Held}
use Rattle.mm_seal.specs.declared.cell.CellFault.{CellFault}
use Rattle.mm_seal.specs.declared.cell.CellFault.TheVariants as unheld
use Rattle.mm_status.specs.Status.{status_at, TellsStop, StopsAs}
use Rattle.mm_host_commands.specs.Outside.{Outside, session_of}
use Rattle.mm_status.specs.declared.status.Status.{Status}
use Rattle.mm_status.specs.declared.status.Status.TheVariants.{Done, Memory, PlatformFault, StoreFault, Blank, Cell, Lost, Refused}

-- how the program ends where a call was refused so: of a device, the cell or lost power each has
-- its own status
abbrev pub refusal_status : Refusal → Status
refusal_status refusal.Memory = Memory
refusal_status (refusal.Device fault) = PlatformFault
refusal_status refusal.Blank = Blank
refusal_status refusal.Cell = Cell
refusal_status refusal.Lost = Lost
refusal_status why = Refused why

-- how the program ends where a session stopped so
abbrev pub session_fault_status : SessionFault → Status
session_fault_status (session.Host host.Memory) = Memory
session_fault_status (session.Host host.Store) = StoreFault
session_fault_status (session.Host (host.Refused why)) = refusal_status why
session_fault_status (session.Lines fault) = status_at fault

abbrev pub session_status : Result (Unit {0}) SessionFault → Status
session_status (Ok _) = Done
session_status (Err fault) = session_fault_status fault

-- The variant and the module of what a cell holds; or the status that the program ends with.
abbrev pub found_header : Variant → Option AnyModule → Result Header Status
found_header variant None = Err Cell
found_header variant (Some found) = Ok (record { variant = variant; «module» = found })

abbrev pub found_instance : Result Held CellFault → Result Header Status
found_instance (Err unheld.Blank) = Err Blank
found_instance (Err unheld.Cell) = Err Cell
found_instance (Ok held) = found_header held.variant (module_of_id held.module)

-- What is found in the bytes of a cell. There is one way for each.
pub record SeesInstance (bytes : List ℕ) (found : Result Header Status) : Type 0 where
  pub read : Result Held CellFault
  pub reads : ReadsCell bytes read
  pub found_is : found ≡ found_instance read

-- What is found on a platform whose cell was read: it is the platform's, where that tells its cell.
abbrev pub FindsInstance : Option StepFault → Standing → Result Header Status → Type 0
FindsInstance (Some fault) before found = found ≡ Err PlatformFault
FindsInstance None before found =
    (bytes : List ℕ) × ((cell : List ℕ) → before.cell ≡ Some cell → bytes ≡ cell)
    × SeesInstance bytes found

-- The platform's cell is read.
pub record LooksAtInstance (before after : Standing) (found : Result Header Status) : Type 0 where
  pub fault : Option StepFault
  pub goes : StepGoes ReadCell before after fault
  pub finds : FindsInstance fault before found

-- A session over the instance, which ended with an answer of this status: its steps; that lines
-- within the limits aren't to blame; and from which history to which it went, by one run of the
-- module, with slots to go on from; and how often the cell was to be written. Each count of faults
-- rose exactly where its object is to blame.
pub record ServesInstance (header : Header) (old new : Outside) (status : Status) : Type 0 where
  pub answer : Result (Unit {0}) SessionFault
  pub sessions : IsSession header.variant (meaning_of header.module) (session_of old)
      (session_of new) answer
  pub lines : SparesLines old.left answer
  pub continues : SessionContinues header.variant (meaning_of header.module) (session_of old)
      (session_of new) answer
  pub cell : SessionWrites header.variant (meaning_of header.module) (session_of old)
      (session_of new) answer
  pub platform : IsBlamed (is_platform_fault answer) old.standing.faults new.standing.faults
  pub store : IsBlamed (is_store_fault answer) old.kept.faults new.kept.faults
  pub read : IsBlamed (is_read_fault answer) old.reads new.reads
  pub wrote : IsBlamed (is_write_fault answer) old.writes new.writes
  pub named : IsRefusalNamed answer
  pub ends : status ≡ session_status answer

-- Such a session, and then its stop line. `between` is what the output had received between the
-- two, and `count` its count.
pub record ServesAndStops (header : Header) (old new : Outside) (status : Status) : Type 0 where
  pub between : Option (List ℕ)
  pub count : ℕ
  pub served : ServesInstance header old (record new { received = between; writes = count }) status
  pub stops : TellsStop between new.received count new.writes status

-- No instance was found, and nothing more was done.
pub record FindsNone (end : Status) (old new : Outside) (status : Status) : Type 0 where
  pub standing : new.standing ≡ old.standing
  pub kept : new.kept ≡ old.kept
  pub unread : new.left ≡ old.left
  pub unfailed : new.reads ≡ old.reads
  pub stops : StopsAs end old.received new.received old.writes new.writes status

abbrev pub ServesIfFound : Result Header Status → (old new : Outside) → Status → Type 0
ServesIfFound (Err end) old new status = FindsNone end old new status
ServesIfFound (Ok header) old new status = ServesAndStops header old new status

-- Whatever the slots held, a session over the instance that was found told one run of its module
-- from the history that the platform stood for before the cell was read.
abbrev pub RunsOnceIfFound : Result Header Status → (entry : Standing) (old new : Outside) → Type 0
RunsOnceIfFound (Err end) entry old new = Unit {0}
RunsOnceIfFound (Ok header) entry old new =
    (between : Option (List ℕ)) (answer : Result (Unit {0}) SessionFault) →
    RunsOnceFrom header.variant (meaning_of header.module) entry (session_of old)
    (record (session_of new) { received = between }) answer

-- Over an honest store whose slots fit the history that the platform stood for before the cell was
-- read, it goes on, and may be gone on with.
abbrev pub ContinuesIfFound : Result Header Status → (entry : Standing) (old new : Outside) → Type 0
ContinuesIfFound (Err end) entry old new = Unit {0}
ContinuesIfFound (Ok header) entry old new =
    (between : Option (List ℕ)) (answer : Result (Unit {0}) SessionFault) →
    ContinuesFrom header.variant (meaning_of header.module) entry (session_of old)
    (record (session_of new) { received = between }) answer

-- The platform's cell was read, and a session served over the instance that it holds. `middle` is
-- what stood on the platform between the two.
pub record RunsInstance (old new : Outside) (status : Status) : Type 0 where
  pub middle : Standing
  pub found : Result Header Status
  pub looks : LooksAtInstance old.standing middle found
  pub goes : ServesIfFound found (record old { standing = middle }) new status
  pub once : RunsOnceIfFound found old.standing (record old { standing = middle }) new
  pub continues : ContinuesIfFound found old.standing (record old { standing = middle }) new
