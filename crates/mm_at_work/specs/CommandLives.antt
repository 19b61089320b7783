-- The commands of the program that go on with an instance are parts of a life.
use Rattle.std.specs.Prelude.{◌≡◌, ℕ, List, [], ◌∷◌, Option, None, Result, Ok, Err}
use Rattle.mm_host_commands.specs.Outside.{CheckpointsInstance, Outside, devices_of, LosesPower, StartsInstance}
use Rattle.mm_call.specs.Standing.{instance_by}
use Rattle.mm_model.specs.History.{History}
use Rattle.mm_model.specs.Standing.{StandsFor}
use Rattle.mm_modules.specs.declared.any.AnyModule.{AnyModule}
use Rattle.mm_host_commands.specs.Run.{RunsInstance}
use Rattle.mm_recovery.specs.FirstStart.{InstanceBegins}
use Rattle.mm_status.specs.declared.status.Status.{Status}
use Rattle.mm_host.specs.declared.fault.SessionFault.{SessionFault}
use Rattle.mm_life.specs.Deeds.{DeedLeads, Extends, CyclesLead}
use Rattle.mm_life.specs.Deeds as deeds
use Rattle.mm_life.specs.Stages.{Does, IsLife, LifeStage, ProgramStanding, program_standing, session_stage}
use Rattle.mm_module.specs.Meaning.{Meaning}
use Rattle.mm_modules.specs.Modules.{meaning_of}
use Rattle.mm_platform.specs.Standing.{Standing}
use Rattle.mm_schedule.specs.declared.header.Header.{Header}
use Rattle.mm_digest.specs.declared.variant.Variant.{Variant}

-- others extended the register by these values while the cell was read
abbrev pub look_stage : List (List ℕ) → Standing → LifeStage
look_stage values after = record { part = Does (Extends values); after = after }

-- of what the objects of a command tell, what those of a session do, besides the platform
abbrev pub program_of : Outside → ProgramStanding
program_of it = program_standing it.kept it.left it.received

-- `init` begins a life where it ended well: the platform stands for the first history of the
-- instance whose bytes were taken.
abbrev pub InitBeginsLife : Type 0
InitBeginsLife =
    (header : Header) (old new : Outside) (status : Status)
    (s : StartsInstance header old new status) (done : Unit {0}) → s.answer ≡ Ok done
    → InstanceBegins header.variant (meaning_of header.«module») (devices_of old) (devices_of new)

-- What `run` is of a life, by the instance that the cell held: the look at the cell, and a session
-- over it; where it held none, the look alone, of any instance.
abbrev pub IsRunOfLife : Result Header Status → (old new : Outside) (middle : Standing)
    (values : List (List ℕ)) → Type 0
IsRunOfLife (Err end) old new middle values =
    (variant : Variant) (meaning : Meaning) → IsLife variant meaning old.standing
    (look_stage values new.standing ∷ [])
IsRunOfLife (Ok header) old new middle values =
    (between : Option (List ℕ)) × (result : Result (Unit {0}) SessionFault)
    × IsLife header.variant (meaning_of header.«module») old.standing (look_stage values middle
    ∷ session_stage (program_of old) (program_of (record new { received = between })) result
    new.standing ∷ [])

abbrev pub RunsArePartsOfLife : Type 0
RunsArePartsOfLife =
    (old new : Outside) (status : Status) (r : RunsInstance old new status)
    → IsRunOfLife r.found old new r.middle r.looks.goes.others

-- A run that read the cell found the instance for which the platform stands: so several runs are
-- parts of one life.
abbrev pub RunsFindTheInstance : Type 0
RunsFindTheInstance =
    (it : AnyModule) (variant : Variant) (key barrier : List ℕ) (y : History)
    (old new : Outside) (status : Status) (r : RunsInstance old new status)
    → StandsFor (instance_by variant (meaning_of it) key barrier) old.standing y
    → r.looks.fault ≡ None → r.found ≡ Ok (record { variant = variant; «module» = it })

-- `checkpoint` is the deed of that name.
abbrev pub CheckpointsArePartsOfLife : Type 0
CheckpointsArePartsOfLife =
    (variant : Variant) (meaning : Meaning) (old new : Outside) (status : Status)
    (c : CheckpointsInstance old new status)
    → DeedLeads variant meaning old.standing (deeds.Checkpoints c.answer) new.standing

-- `power` is a loss of power, or, where it failed, one or nothing.
abbrev pub LossesArePartsOfLife : Type 0
LossesArePartsOfLife =
    (variant : Variant) (meaning : Meaning) (old new : Outside) (status : Status)
    (l : LosesPower old new status)
    → CyclesLead variant meaning old.standing new.standing l.fault
