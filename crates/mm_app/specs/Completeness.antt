-- When a command isn't refused, by what the objects that it is handed tell.
use Rattle.std.specs.Prelude.{◌≡◌, ◌≢◌, ◌+◌, ◌≤◌, ◌++◌, ℕ, true, List, [], length, Option, Some, Result, Ok}
use Rattle.mm_base.specs.Input.{lines_of}
use Rattle.mm_bytes.specs.Limits.{last_position}
use Rattle.mm_check.specs.CheckStage as checked
use Rattle.mm_digest.specs.Messages.{zero_bytes}
use Rattle.mm_call.specs.CallPremises.{AreShown, standing_items}
use Rattle.mm_digest.specs.declared.variant.Variant.{Variant}
use Rattle.mm_digest.specs.declared.variant.Variant.TheVariants.{Basic, Opt}
use Rattle.mm_host.specs.AnySlots.{AreAskedInTurn, AsksNothingNew, requests_with, MayGoOn}
use Rattle.mm_gen.specs.Schedules.{replay_of}
use Rattle.mm_host.specs.Continuation.{AreWithin}
use Rattle.mm_module.specs.Batch.{Batch}
use Rattle.mm_model.specs.History.{History, total_of}
use Rattle.mm_model.specs.Chains.{Instance, basic_instance, opt_instance}
use Rattle.mm_model.specs.Standing.{Lost as LostLife, life_of}
use Rattle.mm_modules.specs.Modules.{meaning_of}
use Rattle.mm_modules.specs.declared.any.AnyModule.{AnyModule}
use Rattle.mm_platform.specs.Standing.{Item, Standing, item_values, register_after}
use Rattle.mm_play.specs.PlaysInput.{outcome_of_input}
use Rattle.mm_play.specs.declared.player.LineRefusal.{LineRefusal}
use Rattle.mm_recovery.specs.HostStanding.{first_offer}
use Rattle.mm_receipt.specs.ReceiptCheck.{first_check, receipts_answer, receipts_closing}
use Rattle.mm_replay.specs.Schedule as replayed
use Rattle.mm_schedule.specs.Headers.{header_at}
use Rattle.mm_seal.specs.Cell.{IsCell, blank_cell, cell_spelling}
use Rattle.mm_seal.specs.declared.cell.Cell.{Cell}
use Rattle.mm_slots.specs.Stage as slotted
use Rattle.mm_store.specs.StoreStanding as kept
use Rattle.mm_transfer.specs.Stage as moved
use Rattle.mm_words.specs.declared.command.CommandLine.{CommandLine}
use Rattle.mm_words.specs.declared.command.GeneratedSchedule.{GeneratedSchedule}
use Rattle.mm_words.specs.declared.command.CommandLine.TheVariants.{Init, Run, Checkpoint, Power, Gen, Bulk, Help, Replay, Check, Slots}
use Rattle.mm_words.specs.declared.command.CommandLine.TheVariants.{Receipts, Transfer}
use Rattle.mm_host_commands.specs.Outside.{Outside}
use Rattle.mm_status.specs.declared.status.Status.{Status}
use Rattle.mm_status.specs.declared.status.Status.TheVariants.{Done, ReadFault, WriteFault, Memory, PlatformFault, StoreFault}

-- All was done, or memory was wanting, or an object that was handed in failed.
abbrev pub IsDoneOrFailed : Status → Type 0
IsDoneOrFailed Done = Unit {0}
IsDoneOrFailed Memory = Unit {0}
IsDoneOrFailed ReadFault = Unit {0}
IsDoneOrFailed WriteFault = Unit {0}
IsDoneOrFailed PlatformFault = Unit {0}
IsDoneOrFailed StoreFault = Unit {0}
IsDoneOrFailed _ = ⊥

-- for a first start: the cell is blank, and the entropy has 64 bytes
pub record CanStart (old : Outside) : Type 0 where
  pub cell : old.standing.cell ≡ Some blank_cell
  pub secrets : List ℕ
  pub left : old.entropy ≡ Some secrets
  pub many : 64 ≤ length secrets

-- the register, by the items that it shows, isn't zero
pub record ShowsPower (standing : Standing) : Type 0 where
  pub items : List Item
  pub shown : standing.items ≡ Some items
  pub powered : register_after (item_values items) ≢ zero_bytes

-- For a checkpoint: the cell is one of Opt; and where its segment is open, the register isn't zero
-- afterwards, so that power wasn't lost inside it.
pub record CanClose (old new : Outside) : Type 0 where
  pub held : Cell
  pub formed : IsCell held
  pub cell : old.standing.cell ≡ Some (cell_spelling held)
  pub variant : held.variant ≡ Opt
  pub powered : held.flag ≡ true → ShowsPower new.standing

-- Nobody else extends the register of an open segment, by what it shows at the end behind the items
-- that counted; and power isn't lost inside one. Of Basic nothing is asked.
pub record ExtendsAlone (all others : List (List ℕ)) (i : Instance) (y : History) (offer : List ℕ)
    (requests : List (List ℕ)) (old new : Outside) : Type 0 where
  pub nobody : others ≡ []
  pub powered : life_of Opt y ≢ LostLife
  pub items : List Item
  pub shown : old.standing.items ≡ Some items
  pub more : List Item
  pub ends : new.standing.items ≡ Some (standing_items y.is_open items ++ more)
  pub alone : (AsksNothingNew i y offer requests → ⊥) → AreShown all others i y more

abbrev pub IsAlone : Variant → List (List ℕ) → List (List ℕ) → Instance → History → List ℕ
    → List (List ℕ) → (old new : Outside) → Type 0
IsAlone Basic all others i y offer requests old new = Unit {0}
IsAlone Opt all others i y offer requests old new =
    ExtendsAlone all others i y offer requests old new

-- there is a position for each of these requests behind a history
abbrev pub HasRoom : History → List (List ℕ) → Type 0
HasRoom y requests = total_of y.batches + length requests ≤ last_position

-- For a session: the platform stands for a history of the instance, the slots fit it, and what
-- waits and the lines of the input may follow it, have positions, and are within their limits.
pub record CanServe (i : Instance) (old new : Outside) : Type 0 where
  pub y : History
  pub slots : kept.Slots
  pub all : List (List ℕ)
  pub others : List (List ℕ)
  pub asked : List Batch
  pub input : List ℕ
  pub left : old.left ≡ Some input
  pub lines : AreWithin input
  pub may : MayGoOn all others asked i y slots old.standing old.kept
  pub follow : AreAskedInTurn all asked i y (first_offer slots may.fits.waiting)
      (requests_with may.fits.waiting (lines_of input))
  pub room : HasRoom y (requests_with may.fits.waiting (lines_of input))
  pub alone : IsAlone i.variant all others i y (first_offer slots may.fits.waiting)
      (requests_with may.fits.waiting (lines_of input)) old new

-- It is an instance of a module, of Basic or of Opt.
pub data CanRun (old new : Outside) : Type 0 where
  in_basic : (it : AnyModule) (key : List ℕ) → CanServe (basic_instance (meaning_of it) key) old new
      → CanRun old new
  in_opt : (it : AnyModule) (key barrier : List ℕ)
      → CanServe (opt_instance (meaning_of it) key barrier) old new → CanRun old new

-- For a run in bulk: the replay of the text that its number makes comes to its end.
abbrev pub IsReplayable : GeneratedSchedule → Type 0
IsReplayable it =
    (next : replayed.ReplayStage) × ((replay_of it.number it.count it.header).outcome ≡ Ok next)

-- What is asked, by the command. Of those that play lines see below.
abbrev pub CanBeDone : CommandLine → (old new : Outside) → Type 0
CanBeDone (Init header) old new = CanStart old
CanBeDone Run old new = CanRun old new
CanBeDone Checkpoint old new = CanClose old new
CanBeDone Power old new = Unit {0}
CanBeDone (Gen it) old new = Unit {0}
CanBeDone (Bulk it) old new = IsReplayable it
CanBeDone Help old new = Unit {0}
CanBeDone _ old new = ⊥

-- a player answers this input to its end
abbrev pub AnswersToEnd : {P : Type 0} → (P → List ℕ → Result (List ℕ × P) LineRefusal)
    → (P → Option (List ℕ)) → P → Option (List ℕ) → Type 0
AnswersToEnd {P} answer closing first left = (bytes : List ℕ) × (next : P) × (left ≡ Some bytes)
    × ((outcome_of_input answer closing first bytes).outcome ≡ Ok next)

-- The input of a command that plays lines is within the grammar and the limits.
abbrev pub CanBeAnswered : CommandLine → (left : Option (List ℕ)) → Type 0
CanBeAnswered Replay left =
    AnswersToEnd replayed.schedule_answer replayed.schedule_closing replayed.header_stage left
CanBeAnswered Check left =
    AnswersToEnd (checked.check_answer header_at) checked.check_closing checked.AtHeader left
CanBeAnswered Slots left =
    AnswersToEnd slotted.slots_answer slotted.slots_closing slotted.first_slots_stage left
CanBeAnswered (Receipts key) left =
    AnswersToEnd receipts_answer receipts_closing (first_check key) left
CanBeAnswered Transfer left =
    AnswersToEnd moved.transfer_answer moved.transfer_closing moved.first_transfer_stage left
CanBeAnswered _ left = ⊥
