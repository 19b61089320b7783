-- What the words of the command line do. With it: what a command does that answers the lines of the
-- input; what the command `bulk` does; what a command writes that does nothing else, and what is
-- written where the words are no command; whom a status blames, by the counts of faults; the
-- headlines of the commands that play events; what is said of the command `slots`; what is said of
-- the command `transfer`.
use Rattle.std.specs.Prelude.{◌≡◌, ℕ, List, Option, Result, ◌⊎◌, Ok, Err, IfOk, Bool, true, false}
use Rattle.mm_bytes.specs.Limits.{CountRose}
use Rattle.mm_base.specs.declared.replay_fault.ReplayFault.{ReplayFault}
use Rattle.mm_play.specs.Headline.{EventPlayer, TellsEvents, stream_standing}
use Rattle.mm_play.specs.PlaysInput.{IsBlamed, is_read_fault, is_write_fault}
use Rattle.mm_status.specs.Status.{status_of, TellsStop, TellsLines, StopsAs, WritesText, stop_line}
use Rattle.mm_status.specs.declared.status.Status.{Status}
use Rattle.mm_status.specs.declared.status.Status.TheVariants.{Memory, TooMuch, Usage, Done, ReadFault, WriteFault, PlatformFault}
use Rattle.mm_status.specs.declared.status.Status.TheVariants.{StoreFault}
use Rattle.mm_replay.specs.Schedule.{first_running_replay, ReplaysSchedule, AreOneRun, replay_player}
use Rattle.mm_receipt.specs.Reports.{ChecksHonestly}
use Rattle.mm_words.specs.Commands.{SpellsCommand, help_text}
use Rattle.mm_words.specs.declared.command.CommandLine.{CommandLine}
use Rattle.mm_words.specs.declared.command.CommandLine.TheVariants.{Init, Run, Checkpoint, Power, Replay, Check, Gen, Bulk, Slots, Receipts}
use Rattle.mm_words.specs.declared.command.CommandLine.TheVariants.{Transfer, Help}
use Rattle.mm_words.specs.declared.command.GeneratedSchedule.{GeneratedSchedule}
use Rattle.mm_gen.specs.Schedules.{schedule_lines, IsLimited, is_over, IsReplayed, replay_of, SumsUp, bulk_text, schedule_text}
use Rattle.mm_gen.specs.declared.fault.BulkFault.{BulkFault}
use Rattle.mm_gen.specs.declared.fault.BulkFault.TheVariants as fault
use Rattle.mm_gen.specs.declared.summary.Summary.{Summary}
use Rattle.mm_host_commands.specs.Outside.{Outside, IsStill, CheckpointsInstance, LosesPower, StartsInstance}
use Rattle.mm_host_commands.specs.Run.{RunsInstance}
use Rattle.mm_check.specs.Checks.{ChecksRun}
use Rattle.mm_slots.specs.Stage.{PlaysSlots, AreSlotRuns, slots_player}
use Rattle.mm_transfer.specs.Stage.{PlaysTransfer, AreOneTransfer, transfer_player}

-- What a command does that answers the lines of the input.

-- A play of the lines, which ended with an answer of this status; `Plays` says what was read and
-- written with which answer. The input's count rose exactly where the input is to blame for it, and
-- the output's exactly where the output is.
pub record PlaysLines {R : Type 0}
    (Plays : (left left' received received' : Option (List ℕ)) → Result R ReplayFault → Type 0)
    (old new : Outside) (status : Status) : Type 0 where
  pub answer : Result R ReplayFault
  pub plays : Plays old.left new.left old.received new.received answer
  pub read : IsBlamed (is_read_fault answer) old.reads new.reads
  pub wrote : IsBlamed (is_write_fault answer) old.writes new.writes
  pub ends : status ≡ status_of answer

-- Such a play, and then its stop line. `middle` is what the output had received between the two,
-- and `count` its count.
pub record PlaysAndStops {R : Type 0}
    (Plays : (left left' received received' : Option (List ℕ)) → Result R ReplayFault → Type 0)
    (old new : Outside) (status : Status) : Type 0 where
  pub middle : Option (List ℕ)
  pub count : ℕ
  pub played : PlaysLines Plays old (record new { received = middle; writes = count }) status
  pub stops : TellsStop middle new.received count new.writes status

-- What the command `bulk` does.

-- what is told of a run of so many events
abbrev pub bulk_lines : ℕ → Result Summary BulkFault → Result (List ℕ) Status
bulk_lines count (Ok summary) = Ok (bulk_text count summary)
bulk_lines count (Err fault.Memory) = Err Memory
bulk_lines count (Err fault.TooMuch) = Err TooMuch

-- The schedule was run, and what came of it was told: TooMuch exactly where the limits of a replay
-- are passed. The digest is that of all that a replay of the same schedule writes.
pub record RunsInBulk (it : GeneratedSchedule) (old new : Outside) (status : Status) : Type 0 where
  pub answer : Result Summary BulkFault
  pub sums : IfOk answer (SumsUp it.header (schedule_lines it.number it.count it.header))
  pub limit : IsLimited (is_over (first_running_replay it.header)
      (schedule_lines it.number it.count it.header)) answer
  pub replayed : IsReplayed (replay_of it.number it.count it.header) answer
  pub tells : TellsLines (bulk_lines it.count answer) old.received new.received old.writes
      new.writes status

-- The five lines were told, or memory was wanting for them.
abbrev pub TellsSummary : ℕ → Summary → (received received' : Option (List ℕ)) (writes writes' : ℕ)
    → Status → Type 0
TellsSummary count summary received received' writes writes' status =
    TellsLines (Ok (bulk_text count summary)) received received' writes writes' status
    ⊎ TellsLines (Err Memory) received received' writes writes' status

-- What a command writes that does nothing else, and what is written where the words are no command.

-- The program ended with this status before it did anything but write its stop line.
pub record EndsAtOnce (old new : Outside) (end status : Status) : Type 0 where
  pub still : IsStill old new
  pub stops : StopsAs end old.received new.received old.writes new.writes status

-- A text was written, and nothing else was done.
pub record GivesText (text : List ℕ) (old new : Outside) (status : Status) : Type 0 where
  pub still : IsStill old new
  pub given : WritesText text old.received new.received old.writes new.writes status

-- Words that are no command: the status is Usage, or Memory where that was wanting, and its stop
-- line is written.
pub record IsRefused (received received' : Option (List ℕ)) (writes writes' : ℕ)
    (status : Status) : Type 0 where
  pub ends : (status ≡ Usage) ⊎ (status ≡ Memory)
  pub stops : TellsStop received received' writes writes' status

-- What the words of the command line do.

-- What a command does, by what the objects that it is handed tell before and after.
abbrev pub CommandDoes : CommandLine → (old new : Outside) → Status → Type 0
CommandDoes (Init header) old new status = StartsInstance header old new status
CommandDoes Run old new status = RunsInstance old new status
CommandDoes Checkpoint old new status = CheckpointsInstance old new status
CommandDoes Power old new status = LosesPower old new status
CommandDoes Replay old new status = PlaysAndStops ReplaysSchedule old new status
CommandDoes Check old new status = PlaysAndStops ChecksRun old new status
CommandDoes (Gen it) old new status =
    GivesText (schedule_text it.number it.count it.header) old new status
CommandDoes (Bulk it) old new status = IsStill old new × RunsInBulk it old new status
CommandDoes Slots old new status = PlaysAndStops PlaysSlots old new status
CommandDoes (Receipts key) old new status = PlaysAndStops (ChecksHonestly key) old new status
CommandDoes Transfer old new status = PlaysAndStops PlaysTransfer old new status
CommandDoes Help old new status = GivesText help_text old new status

-- The command was done, or memory was wanting before it.
abbrev pub DoesOrLacks : CommandLine → (old new : Outside) → Status → Type 0
DoesOrLacks command old new status = CommandDoes command old new status
    ⊎ EndsAtOnce old new Memory status

-- these words spell no such command
abbrev pub SpellNo : (CommandLine → Type 0) → List (List ℕ) → Type 0
SpellNo Is words = (command : CommandLine) → Is command → SpellsCommand command words → ⊥

-- they spell such a one
abbrev pub SpellSome : (CommandLine → Type 0) → List (List ℕ) → Type 0
SpellSome Is words = (command : CommandLine) × Is command × SpellsCommand command words

-- they spell none at all
abbrev pub SpellNone : List (List ℕ) → Type 0
SpellNone words = (command : CommandLine) → SpellsCommand command words → ⊥

-- the commands that use the platform
abbrev pub UsesPlatform : CommandLine → Type 0
UsesPlatform (Init header) = Unit {0}
UsesPlatform Run = Unit {0}
UsesPlatform Checkpoint = Unit {0}
UsesPlatform Power = Unit {0}
UsesPlatform _ = ⊥

-- the commands that use the store
abbrev pub UsesStore : CommandLine → Type 0
UsesStore (Init header) = Unit {0}
UsesStore Run = Unit {0}
UsesStore _ = ⊥

-- the commands that read the input
abbrev pub ReadsInput : CommandLine → Type 0
ReadsInput Run = Unit {0}
ReadsInput Replay = Unit {0}
ReadsInput Check = Unit {0}
ReadsInput Slots = Unit {0}
ReadsInput (Receipts key) = Unit {0}
ReadsInput Transfer = Unit {0}
ReadsInput _ = ⊥

-- the commands that take from the entropy
abbrev pub TakesEntropy : CommandLine → Type 0
TakesEntropy (Init header) = Unit {0}
TakesEntropy _ = ⊥

-- Whom a status blames, by the counts of faults.

abbrev pub tells_platform_fault : Status → Bool
tells_platform_fault PlatformFault = true
tells_platform_fault _ = false

abbrev pub tells_store_fault : Status → Bool
tells_store_fault StoreFault = true
tells_store_fault _ = false

abbrev pub tells_read_fault : Status → Bool
tells_read_fault ReadFault = true
tells_read_fault _ = false

-- the count of faults of the source that a command takes from: of the entropy for `init`, and of
-- the input for any other
abbrev pub source_faults : CommandLine → Outside → ℕ
source_faults (Init header) it = it.takes
source_faults _ it = it.reads

-- it rose exactly where ReadFault is told
abbrev pub BlamesSource : CommandLine → (old new : Outside) → Status → Type 0
BlamesSource command old new status =
    IsBlamed (tells_read_fault status) (source_faults command old) (source_faults command new)

-- The output's count rose where WriteFault is told, and is as before where all was done. Beside
-- another status it may have risen, where the output failed within the stop line. It never rises
-- more than once: no call follows one that failed.
pub record BlamesOutput (status : Status) (writes writes' : ℕ) : Type 0 where
  pub failed : status ≡ WriteFault → CountRose writes writes'
  pub done : status ≡ Done → writes' ≡ writes
  pub once : (writes' ≡ writes) ⊎ CountRose writes writes'

-- The headlines of the commands that play events: what is out by the status, with the stop line.

-- A play of events, by what is left of the input and what the output received: it ended as the
-- status says, and where it stopped the stop line or a front of it went out behind.
abbrev pub TellsByStatus : {G H E S : Type 0} → EventPlayer G H E S
    → (H → List E → (List E → S) → Type 0) → (left left' received received' : Option (List ℕ))
    → Status → Type 0
TellsByStatus p Holds left left' received received' status =
    (ended : Result (Unit {0}) ReplayFault) × (status ≡ status_of ended)
    × TellsEvents p Holds (stream_standing left received) (stream_standing left' received')
    (stop_line status) ended

-- The headline of a replay: what is told of a schedule is one run of the module on one list of
-- requests.
abbrev pub ReplaysOneRun : (left left' received received' : Option (List ℕ)) → Status → Type 0
ReplaysOneRun left left' received received' status =
    TellsByStatus replay_player AreOneRun left left' received received' status

-- What is said of the command `slots`.

-- The headline of slots: what is told of each slot is one run of its module on one list of
-- requests.
abbrev pub InterleavesRuns : (left left' received received' : Option (List ℕ)) → Status → Type 0
InterleavesRuns left left' received received' status =
    TellsByStatus slots_player AreSlotRuns left left' received received' status

-- What is said of the command `transfer`.

-- The headline of a transfer: what is told of both sides is one run of the module on one list of
-- requests, and at most one side was live at each moment.
abbrev pub MovesOneRun : (left left' received received' : Option (List ℕ)) → Status → Type 0
MovesOneRun left left' received received' status =
    TellsByStatus transfer_player AreOneTransfer left left' received received' status
