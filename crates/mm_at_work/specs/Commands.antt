-- Commands of the program, run one after another over one platform.
use Rattle.std.specs.Io.KnownBytes.{Appends}
use Rattle.std.specs.Prelude.{◌≡◌, ◌⊎◌, ℕ, Bool, true, false, List, [], ◌∷◌, ◌++◌, Option, Some, Result, Ok}
use Rattle.std.specs.List.{AllByRecursion, Contains}
use Rattle.std.specs.Option.{option_map}
use Rattle.mm_app.specs.Commands.{DoesOrLacks, UsesPlatform}
use Rattle.mm_host_commands.specs.Outside.{Outside, devices_of, session_of}
use Rattle.mm_host_commands.specs.Run.{LooksAtInstance, session_status}
use Rattle.mm_killed.specs.DeviceCalls.{Place}
use Rattle.mm_status.specs.Status.{StopsAs, TellsStop}
use Rattle.mm_status.specs.declared.status.Status.{Status}
use Rattle.mm_call.specs.Standing.{instance_by}
use Rattle.mm_digest.specs.declared.variant.Variant.{Variant}
use Rattle.mm_host.specs.Sessions.{SessionStanding, session_standing, IsSession}
use Rattle.mm_host.specs.declared.fault.SessionFault.{SessionFault}
use Rattle.mm_life.specs.Deeds.{Deed, Extends, LosesPower}
use Rattle.mm_life.specs.Stages.{AllRuns, IsKilled, ProgramCode, devices_at, Does, IsLife, LifePart, LifeStage, program_standing}
use Rattle.mm_life.specs.Stages.{session_stage}
use Rattle.mm_life.specs.Premises.{IsNoCall}
use Rattle.mm_model.specs.History.{History}
use Rattle.mm_model.specs.Standing.{StandsFor}
use Rattle.mm_module.specs.Meaning.{Meaning}
use Rattle.mm_moments.specs.MortalLives.{checkpoint_moments, IsKilledSession}
use Rattle.mm_moments.specs.Moments.{StepMoment}
use Rattle.mm_modules.specs.Modules.{meaning_of}
use Rattle.mm_modules.specs.declared.any.AnyModule.{AnyModule}
use Rattle.mm_opt.specs.CheckpointPromise.{IsCheckpointOnCourse}
use Rattle.mm_opt.specs.Checkpoints.{ClosesSegment}
use Rattle.mm_opt.specs.declared.segment.CheckpointRefusal.{CheckpointRefusal}
use Rattle.mm_opt.specs.declared.segment.Checkpointed.{Checkpointed}
use Rattle.mm_platform.specs.Standing.{Standing, PowerCycles, ReadCell, StepGoes, items_beside}
use Rattle.mm_platform.specs.declared.fault.StepFault.{StepFault}
use Rattle.mm_platform.specs.declared.fault.StepFault.TheVariants.{Off}
use Rattle.mm_recovery.specs.FirstStart.{InitLeaves, InstanceBegins, ShowsValues, InitGoes, devices}
use Rattle.mm_recovery.specs.HostStanding.{host_standing}
use Rattle.mm_recovery.specs.declared.init_fault.InitFault.{InitFault}
use Rattle.mm_schedule.specs.declared.header.Header.{Header}
use Rattle.mm_seal.specs.Cell.{blank_cell}
use Rattle.mm_words.specs.declared.command.CommandLine.{CommandLine}
use Rattle.mm_words.specs.declared.command.CommandLine.TheVariants.{Checkpoint, Init, Power, Run}
use Rattle.mm_at_work.specs.CommandLives.{look_stage, program_of}

-- a command that was run: what the objects told that it was handed, before and behind it; and how
-- it ended
pub record CommandRun : Type 0 where
  pub command : CommandLine
  pub old : Outside
  pub new : Outside
  pub status : Status

-- What the program's clauses say of it: it was done, or memory was wanting before; and a platform
-- that it doesn't use is as before.
pub record IsCommandRun (r : CommandRun) : Type 0 where
  pub does : DoesOrLacks r.command r.old r.new r.status
  pub unused : (UsesPlatform r.command → ⊥) → r.new.standing ≡ r.old.standing

-- A `run` that was killed in the session over the instance that it found, at any of its moments; or
-- behind that session, as it told its end, of which these bytes went out.
abbrev pub DiesInSession : Header → (old : SessionStanding) → CommandRun → Type 0
DiesInSession header old r =
    IsKilledSession header.variant (meaning_of header.«module») old
    (host_standing r.new.standing r.new.kept) r.new.received

pub record DiesBehindSession (header : Header) (old : SessionStanding) (r : CommandRun) : Type 0
  where
    pub left : Option (List ℕ)
    pub between : Option (List ℕ)
    pub result : Result (Unit {0}) SessionFault
    pub sessions : IsSession header.variant (meaning_of header.«module») old
        (session_standing r.new.standing r.new.kept left between) result
    pub bytes : List ℕ
    pub sent : Appends between r.new.received bytes

pub record DiesServing (r : CommandRun) : Type 0 where
  pub middle : Standing
  pub header : Header
  pub looks : LooksAtInstance r.old.standing middle (Ok header)
  pub dies : DiesInSession header (session_of (record r.old { standing = middle })) r
      ⊎ DiesBehindSession header (session_of (record r.old { standing = middle })) r

-- A checkpoint that was killed at any of its steps; or behind them.
pub record DiesClosing (old new : Standing) : Type 0 where
  pub end : Standing
  pub said : Result Checkpointed CheckpointRefusal
  pub closes : ClosesSegment old end said
  pub moment : StepMoment
  pub among : Contains (checkpoint_moments closes) moment
  pub leaves : StepGoes moment.act moment.at new (Some Off)

pub record DiesBehindClosing (old new : Standing) : Type 0 where
  pub said : Result Checkpointed CheckpointRefusal
  pub closes : ClosesSegment old new said
  pub goes : IsCheckpointOnCourse old new said

-- what the objects that a command is handed tell, as a program's place
abbrev pub place_of : Outside → Place
place_of it = record {
  standing = it.standing;
  kept = it.kept;
  left = it.left;
  entropy = it.entropy;
  received = it.received;
}

-- An `init` was run to its end: its steps, and what they left; of the entropy's faults nothing is
-- asked.
pub record StartsAt (header : Header) (old : Outside) (end : Place)
    (said : Result (Unit {0}) InitFault) : Type 0 where
  pub takes : ℕ
  pub goes : InitGoes header.variant (meaning_of header.«module») (devices_of old)
      (devices end.standing end.kept end.entropy takes) said
  pub leaves : InitLeaves header.variant (meaning_of header.«module») (devices_at (place_of old))
      (devices_at end) said

-- One that was killed, as a tree of calls of its devices, each of whose runs is such.
pub record DiesStarting (header : Header) (r : CommandRun) : Type 0 where
  pub code : ProgramCode (Result (Unit {0}) InitFault)
  pub runs : AllRuns code (place_of r.old) (λ end said. StartsAt header r.old end said)
  pub killed : IsKilled code (place_of r.old) (place_of r.new)

-- A command that was killed: an `init` at any call; a `run` in its session, or behind it, or as it
-- read the cell, or behind that; a `checkpoint` at any step, or behind them; `power` as power was
-- lost, or behind that. One that uses no platform left it as it was.
abbrev pub IsCommandKilled : CommandLine → CommandRun → Type 0
IsCommandKilled (Init header) r = DiesStarting header r
IsCommandKilled Run r =
    ((fault : Option StepFault) × StepGoes ReadCell r.old.standing r.new.standing fault)
    ⊎ DiesServing r
IsCommandKilled Checkpoint r =
    DiesClosing r.old.standing r.new.standing ⊎ DiesBehindClosing r.old.standing r.new.standing
IsCommandKilled Power r =
    (fault : Option StepFault) × PowerCycles r.old.standing r.new.standing fault
IsCommandKilled command r = r.new.standing ≡ r.old.standing

-- it ended, or was killed; then it has no status
abbrev pub EndsOrDies : Bool → CommandRun → Type 0
EndsOrDies false r = IsCommandRun r
EndsOrDies true r = IsCommandKilled r.command r

-- Others extend the register, or power is lost and comes back: the cell stays, and the platform's
-- counts may begin anew.
abbrev pub IsMet : Standing → LifePart → Standing → Type 0
IsMet old (Does (Extends values)) new =
    (new.cell ≡ old.cell) × (new.items ≡ items_beside values old.items)
IsMet old (Does LosesPower) new =
    (new.cell ≡ old.cell) × (new.items ≡ option_map (λ _. []) old.items)
IsMet old _ new = ⊥

-- So one after another, as often as may be, from where a platform stands to where it stands now.
abbrev pub AreMet : Standing → List LifeStage → Standing → Type 0
AreMet start [] now = now ≡ start
AreMet start (stage ∷ stages) now =
    IsMet start stage.part stage.after × AreMet stage.after stages now

-- a command that was run, behind what the platform had met before it; and whether it was killed
pub record CommandBehind : Type 0 where
  pub met : List LifeStage
  pub killed : Bool
  pub ran : CommandRun
  pub open ran use *

-- Commands are run one after another over one platform, from where it stands; each ends, or is
-- killed. The store of each, its input, its entropy and its output are any: whatever the host hands
-- it.
abbrev pub AreRun : Standing → List CommandBehind → Type 0
AreRun start [] = Unit {0}
AreRun start (r ∷ commands) =
    AreMet start r.met r.old.standing × EndsOrDies r.killed r.ran
    × AreRun r.new.standing commands

-- no call is made in these stages, and no request told
abbrev pub IsQuiet : LifeStage → Type 0
IsQuiet stage = (deed : Deed) × (stage.part ≡ Does deed) × IsNoCall deed

-- No session was held: the store and the input are as before, and but for a stop line nothing was
-- written.
pub record HoldsNone (r : CommandRun) (stages : List LifeStage) : Type 0 where
  pub quiet : AllByRecursion IsQuiet stages
  pub kept : r.new.kept ≡ r.old.kept
  pub unread : r.new.left ≡ r.old.left
  pub end : Status
  pub stops : StopsAs end r.old.received r.new.received r.old.writes r.new.writes r.status

-- A session was held over the command's own store, input and output; it ended as the status says,
-- and behind what it told only the stop line was written.
pub record HoldsSession (r : CommandRun) (stages : List LifeStage) : Type 0 where
  pub values : List (List ℕ)
  pub middle : Standing
  pub between : Option (List ℕ)
  pub result : Result (Unit {0}) SessionFault
  pub are : stages ≡ look_stage values middle
      ∷ session_stage (program_of r.old) (program_of (record r.new { received = between })) result
      r.new.standing ∷ []
  pub ends : r.status ≡ session_status result
  pub count : ℕ
  pub stops : TellsStop between r.new.received count r.new.writes r.status

-- What a command is of a life: a `run` holds a session or none, and every other is quiet.
abbrev pub AreStagesOf : CommandRun → CommandLine → List LifeStage → Type 0
AreStagesOf r Run stages = HoldsNone r stages ⊎ HoldsSession r stages
AreStagesOf r _ stages = AllByRecursion IsQuiet stages

-- A session was held over the command's own store and output, and left what the kill left; it ended
-- by itself, by a fault where the kill was in it; and behind what it told these bytes went out.
pub record HoldsKilled (r : CommandRun) (stages : List LifeStage) : Type 0 where
  pub values : List (List ℕ)
  pub middle : Standing
  pub left : Option (List ℕ)
  pub between : Option (List ℕ)
  pub result : Result (Unit {0}) SessionFault
  pub are : stages ≡ look_stage values middle
      ∷ session_stage (program_of r.old) (program_standing r.new.kept left between) result
      r.new.standing ∷ []
  pub bytes : List ℕ
  pub sent : Appends between r.new.received bytes

-- A `run` that is killed holds a session or none, and every other is quiet.
abbrev pub AreKilledStagesOf : CommandRun → CommandLine → List LifeStage → Type 0
AreKilledStagesOf r Run stages = AllByRecursion IsQuiet stages ⊎ HoldsKilled r stages
AreKilledStagesOf r _ stages = AllByRecursion IsQuiet stages

abbrev pub AreStagesBy : Bool → CommandRun → List LifeStage → Type 0
AreStagesBy false r stages = AreStagesOf r r.command stages
AreStagesBy true r stages = AreKilledStagesOf r r.command stages

-- The stages are those of the commands, one after another, each behind what was met before it.
abbrev pub AreStagesOfAll : List CommandBehind → List LifeStage → Type 0
AreStagesOfAll [] stages = stages ≡ []
AreStagesOfAll (r ∷ commands) stages =
    (here : List LifeStage) × (later : List LifeStage) × (stages ≡ r.met ++ (here ++ later))
    × AreStagesBy r.killed r.ran here × AreStagesOfAll commands later

-- They are one life of this variant and module, from this standing on.
pub record AreLife (variant : Variant) (meaning : Meaning) (start : Standing)
    (commands : List CommandBehind) : Type 0 where
  pub stages : List LifeStage
  pub life : IsLife variant meaning start stages
  pub stages_of : AreStagesOfAll commands stages

-- So it is of each list of commands, from any history of an instance for which the platform stands.
abbrev pub CommandsAreLife : Type 0
CommandsAreLife =
    (it : AnyModule) (variant : Variant) (key barrier : List ℕ) (y : History) (start : Standing)
    (commands : List CommandBehind) →
    StandsFor (instance_by variant (meaning_of it) key barrier) start y → AreRun start commands →
    AreLife variant (meaning_of it) start commands

-- An instance was begun by one of the commands, an `init`: those before it left the cell blank, and
-- those behind it are its life, where the register is told in Opt.
pub record HasBegun (commands : List CommandBehind) : Type 0 where
  pub before : List CommandBehind
  pub begun : CommandBehind
  pub behind : List CommandBehind
  pub are : commands ≡ before ++ begun ∷ behind
  pub header : Header
  pub is : begun.command ≡ Init header
  pub begins : InstanceBegins header.variant (meaning_of header.«module») (devices_of begun.old)
      (devices_of begun.new)
  pub blank : begun.old.standing.cell ≡ Some blank_cell
  pub life : (values : List (List ℕ)) → ShowsValues header.variant begun.new.standing values →
      AreLife header.variant (meaning_of header.«module») begun.new.standing behind

-- From a blank cell the commands leave it blank, or they begin an instance and are its life.
abbrev pub CommandsFromBlank : Type 0
CommandsFromBlank =
    (start : Standing) (commands : List CommandBehind) → start.cell ≡ Some blank_cell
    → AreRun start commands
    → AllByRecursion (λ r. r.new.standing.cell ≡ Some blank_cell) commands ⊎ HasBegun commands

-- where the platform stands behind these commands
abbrev pub standing_behind : Standing → List CommandBehind → Standing
standing_behind start [] = start
standing_behind start (r ∷ commands) = standing_behind r.new.standing commands
