-- What a status tells of what a device held. With it: when a command ends as Lost, and when as
-- Refused; how the program ends where the words gave no command.
use Rattle.std.specs.Prelude.{◌≡◌, ◌≢◌, ◌<◌, ◌⊎◌, ℕ, List, length, Option, None, Some, IsSome, Err, Bool, true, [], ◌++◌, Result}
use Rattle.mm_base.specs.declared.replay_fault.ReplayFault.TheVariants as replay
use Rattle.mm_digest.specs.Messages.{zero_bytes}
use Rattle.mm_digest.specs.declared.variant.Variant.TheVariants.{Basic, Opt}
use Rattle.mm_seal.specs.Cell.{IsNoCell, SpellsCell, blank_cell}
use Rattle.mm_seal.specs.declared.cell.Cell.{Cell as Held}
use Rattle.mm_platform.specs.Standing.{Standing, Item, item_values, register_after}
use Rattle.mm_module.specs.Batch.{One}
use Rattle.mm_modules.specs.Modules.{module_of_id, meaning_of}
use Rattle.mm_modules.specs.declared.any.AnyModule.{AnyModule}
use Rattle.mm_model.specs.Chains.{Instance}
use Rattle.mm_model.specs.Moves.{Digests}
use Rattle.mm_model.specs.declared.refusal.Refusal.{Refusal}
use Rattle.mm_model.specs.declared.refusal.Refusal.TheVariants as refusal
use Rattle.mm_call.specs.CallFinding.{finding_at, IsUntouched, digest_level}
use Rattle.mm_call.specs.Standing.{StandsAt, instance_by}
use Rattle.mm_schedule.specs.Replies.{told_line}
use Rattle.mm_status.specs.declared.status.Status.{Status}
use Rattle.mm_status.specs.declared.status.Status.TheVariants.{ReadFault, WriteFault, Memory, PlatformFault, StoreFault, Blank, Already}
use Rattle.mm_status.specs.declared.status.Status.TheVariants.{Cell, TooMuch, Short, Kind, Lost, Refused, Usage}
use Rattle.mm_store.specs.PendingRecord.{PendingRecord}
use Rattle.mm_store.specs.StoreStanding.{Slots, slot_front}
use Rattle.mm_words.specs.Commands.{SpellsCommand}
use Rattle.mm_words.specs.declared.command.CommandLine.{CommandLine}
use Rattle.mm_words.specs.declared.command.CommandLine.TheVariants.{Init, Run, Bulk, Checkpoint}
use Rattle.mm_words.specs.declared.command.GeneratedSchedule.{GeneratedSchedule}
use Rattle.mm_words.specs.declared.fault.WordsFault.{WordsFault}
use Rattle.mm_words.specs.declared.fault.WordsFault.TheVariants as words
use Rattle.mm_gen.specs.Schedules.{replay_of}
use Rattle.mm_recovery.specs.HostStanding.{first_offer, IsWaiting}
use Rattle.mm_host.specs.AnySlots.{offer_after, CallsInTurn, IsNext}
use Rattle.mm_host.specs.Continuation.{served_calls_in}
use Rattle.mm_host.specs.Sessions.{ServedCall, IsSession, told_cause}
use Rattle.mm_host.specs.declared.fault.SessionFault.{SessionFault}
use Rattle.mm_host_commands.specs.Outside.{Outside, session_of}
use Rattle.mm_host_commands.specs.Run.{session_status}
use Rattle.mm_app.specs.Commands.{SpellSome}

-- memory was wanting, or an object that was handed in failed
abbrev pub EndsByFault : Status → Type 0
EndsByFault Memory = Unit {0}
EndsByFault ReadFault = Unit {0}
EndsByFault WriteFault = Unit {0}
EndsByFault PlatformFault = Unit {0}
EndsByFault StoreFault = Unit {0}
EndsByFault _ = ⊥

-- The program ended with this status exactly where this holds, but for want of memory and faults.
pub record IsExactlyWhere (Holds : Type 0) (end status : Status) : Type 0 where
  pub only : status ≡ end → Holds
  pub always : Holds → (status ≡ end) ⊎ EndsByFault status

-- The platform tells its cell; and, where that is one of Opt, which alone reads the register, the
-- register's items.
pub record IsVisible (standing : Standing) (cell : List ℕ) : Type 0 where
  pub told : standing.cell ≡ Some cell
  pub shown : (held : Held) → SpellsCell cell held → held.variant ≡ Opt → IsSome standing.items

-- the commands that go on with an instance
abbrev pub NeedsInstance : CommandLine → Type 0
NeedsInstance Run = Unit {0}
NeedsInstance Checkpoint = Unit {0}
NeedsInstance _ = ⊥

-- the command that starts one
abbrev pub StartsOne : CommandLine → Type 0
StartsOne (Init header) = Unit {0}
StartsOne _ = ⊥

-- a cell that a command can't go on with: it is no cell; for `run`, or it is one of a module that
-- this program doesn't have
abbrev pub CantRead : List ℕ → CommandLine → Type 0
CantRead cell Run =
    (cell ≢ blank_cell) × ((held : Held) → SpellsCell cell held → module_of_id held.module ≡ None)
CantRead cell Checkpoint = (cell ≢ blank_cell) × IsNoCell cell
CantRead cell _ = ⊥

-- a checkpoint of a cell of Basic
abbrev pub FindsBasic : List ℕ → CommandLine → Type 0
FindsBasic cell Checkpoint = (held : Held) × SpellsCell cell held × (held.variant ≡ Basic)
FindsBasic cell _ = ⊥

-- a first start with fewer bytes than it takes
abbrev pub RunsShort : (cell secrets : List ℕ) → CommandLine → Type 0
RunsShort cell secrets command =
    StartsOne command × (cell ≡ blank_cell) × (length secrets < 64)

-- The platform's cell is blank.
abbrev pub TellsBlank : List (List ℕ) → Standing → Status → Type 0
TellsBlank words before status =
    (cell : List ℕ) → IsVisible before cell →
    IsExactlyWhere (SpellSome (λ command. NeedsInstance command × (cell ≡ blank_cell)) words) Blank
    status

-- It isn't.
abbrev pub TellsAlready : List (List ℕ) → Standing → Status → Type 0
TellsAlready words before status =
    (cell : List ℕ) → before.cell ≡ Some cell →
    IsExactlyWhere (SpellSome (λ command. StartsOne command × (cell ≢ blank_cell)) words) Already
    status

-- It is none that the command can go on with.
abbrev pub TellsCell : List (List ℕ) → Standing → Status → Type 0
TellsCell words before status =
    (cell : List ℕ) → IsVisible before cell →
    IsExactlyWhere (SpellSome (CantRead cell) words) Cell status

-- It is one of Basic, which has no segments.
abbrev pub TellsKind : List (List ℕ) → Standing → Status → Type 0
TellsKind words before status =
    (cell : List ℕ) → before.cell ≡ Some cell →
    IsExactlyWhere (SpellSome (FindsBasic cell) words) Kind status

-- The source gave this many bytes, all that it had left, and they are too few.
abbrev pub TellsShort : List (List ℕ) → Standing → Option (List ℕ) → Status → Type 0
TellsShort words before left status =
    (cell secrets : List ℕ) (got : ℕ) → before.cell ≡ Some cell → left ≡ Some secrets →
    IsExactlyWhere (SpellSome (RunsShort cell secrets) words × (got ≡ length secrets)) (Short got)
    status

-- A run in bulk is too much exactly where the replay of the text that its number makes is.
abbrev pub TellsMuch : List (List ℕ) → Status → Type 0
TellsMuch words status =
    (it : GeneratedSchedule) → SpellsCommand (Bulk it) words →
    IsExactlyWhere ((replay_of it.number it.count it.header).outcome ≡ Err replay.TooMuch) TooMuch
    status

-- When a command ends as Lost, and when as Refused: by what stands on the platform at the end, as a
-- refusal has changed nothing.

-- In a cell of Opt a segment is open, and the register reads zero.
pub record HasLostPower (standing : Standing) : Type 0 where
  pub held : Held
  pub cell : List ℕ
  pub told : standing.cell ≡ Some cell
  pub spells : SpellsCell cell held
  pub variant : held.variant ≡ Opt
  pub is_open : held.flag ≡ true
  pub items : List Item
  pub shown : standing.items ≡ Some items
  pub zero : register_after (item_values items) ≡ zero_bytes

-- the instance of a cell that holds this module
abbrev pub instance_of : Held → AnyModule → Instance
instance_of held it = instance_by held.variant (meaning_of it) held.key held.barrier

-- From where the cell was read, a session over the instance that it holds went so, and ended with
-- this status.
pub record HasServed (cell : List ℕ) (old new : Outside) (status : Status) : Type 0 where
  pub held : Held
  pub spells : SpellsCell cell held
  pub it : AnyModule
  pub found : module_of_id held.module ≡ Some it
  pub start : Standing
  pub looked : IsUntouched old.standing start
  pub between : Option (List ℕ)
  pub answer : Result (Unit {0}) SessionFault
  pub went : IsSession held.variant (meaning_of it) (record (session_of old) { standing = start })
      (record (session_of new) { received = between }) answer
  pub ended : status ≡ session_status answer

-- A request is asked: it is next behind those that such a session told, which were asked and
-- answered one after another, each but the first with the snapshot of the answer before.
pub record AsksNext (cell : List ℕ) (old new : Outside) (slots : Slots)
    (waiting : Option PendingRecord) (input : List ℕ) (status : Status) : Type 0 where
  pub served : HasServed cell old new status
  pub open served use *
  pub told : List ServedCall
  pub is_told : told ≡ served_calls_in waiting went.goes
  pub at : Standing
  pub calls : CallsInTurn held.variant (meaning_of it) (first_offer slots waiting) start told at
  pub request : List ℕ
  pub next : IsNext waiting input told request

-- A request is asked first, of the instance that the cell holds: it is what waits, or a line.
pub record AsksFirst (cell : List ℕ) (waiting : Option PendingRecord)
    (input : List ℕ) : Type 0 where
  pub held : Held
  pub spells : SpellsCell cell held
  pub it : AnyModule
  pub found : module_of_id held.module ≡ Some it
  pub request : List ℕ
  pub next : IsNext waiting input [] request

-- With this offer the request is refused so, by the digests at which the platform stands.
pub record RefusesAt (i : Instance) (standing : Standing) (offer request : List ℕ)
    (why : Refusal) : Type 0 where
  pub digests : Digests
  pub stands : StandsAt i standing digests
  pub judged : finding_at i (digest_level i) digests (One request) offer ≡ Err why

-- What is asked next is refused so, with the snapshot of the last answer. Lost power isn't meant,
-- which has a status of its own.
pub record RefusesNext (cell : List ℕ) (old new : Outside) (slots : Slots)
    (waiting : Option PendingRecord) (input : List ℕ) (status : Status)
    (why : Refusal) : Type 0 where
  pub asks : AsksNext cell old new slots waiting input status
  pub refuses : RefusesAt (instance_of asks.held asks.it) new.standing
      (offer_after (first_offer slots waiting) asks.told) asks.request why
  pub powered : why ≢ refusal.Lost

-- What is asked first is refused so, with what the slots offer.
pub record RefusesFirst (cell : List ℕ) (after : Standing) (slots : Slots)
    (waiting : Option PendingRecord) (input : List ℕ) (why : Refusal) : Type 0 where
  pub asks : AsksFirst cell waiting input
  pub refuses : RefusesAt (instance_of asks.held asks.it) after (first_offer slots waiting)
      asks.request why
  pub powered : why ≢ refusal.Lost

-- Nothing was told: what was written doesn't begin with an answer.
pub record TellsNothing (old new : Outside) : Type 0 where
  pub before : List ℕ
  pub had : old.received ≡ Some before
  pub untold : (again : Bool) (position : ℕ) (output rest : List ℕ) →
      new.received ≢ Some (before ++ told_line again position output ++ rest)

-- A run ended so exactly where that holds of what was asked next, behind all that was told; and,
-- where nothing was told, exactly where this holds of what is asked first.
pub record IsExactlyAt (old new : Outside) (Next First : Type 0) (end status : Status) : Type 0
  where
    pub next : IsExactlyWhere Next end status
    pub first : TellsNothing old new → IsExactlyWhere First end status

-- over a store that tells its slots, whatever waits in them, and an input that tells its bytes
abbrev pub WhateverWaits : Outside
    → (Slots → Option PendingRecord → (input : List ℕ) → Type 0) → Type 0
WhateverWaits old Holds =
    (slots : Slots) (waiting : Option PendingRecord) (input : List ℕ) →
    old.kept.slots ≡ Some slots → IsWaiting (slot_front slots 2) (slot_front slots 3) waiting →
    old.left ≡ Some input → Holds slots waiting input

-- Power was lost inside a segment, as it stands at the end. A checkpoint ends so exactly there; and
-- a run exactly where it stands so and a request is asked.
abbrev pub TellsLost : List (List ℕ) → (old new : Outside) → Status → Type 0
TellsLost words old new status =
    (cell : List ℕ) → IsVisible old.standing cell →
    (status ≡ Lost → SpellSome NeedsInstance words × HasLostPower new.standing)
    × (SpellsCommand Checkpoint words → IsExactlyWhere (HasLostPower new.standing) Lost status)
    × (SpellsCommand Run words → WhateverWaits old (λ slots waiting input.
    IsExactlyAt old new
    (AsksNext cell old new slots waiting input status × HasLostPower new.standing)
    (AsksFirst cell waiting input × HasLostPower new.standing) Lost status))

-- What the host offered was refused, for a cause that is told as `no CAUSE`, and power wasn't lost
-- inside a segment. A run ends so exactly where what is asked is refused so.
abbrev pub TellsRefusal : List (List ℕ) → (old new : Outside) → Status → Type 0
TellsRefusal words old new status =
    (cell : List ℕ) (why : Refusal) → IsVisible old.standing cell →
    (status ≡ Refused why →
    SpellsCommand Run words × IsSome (told_cause why) × (HasLostPower new.standing → ⊥))
    × (SpellsCommand Run words → WhateverWaits old (λ slots waiting input.
    IsExactlyAt old new (RefusesNext cell old new slots waiting input status why)
    (RefusesFirst cell new.standing slots waiting input why) (Refused why) status))

-- How the program ends where the words gave no command.

abbrev pub words_status : WordsFault → Status
words_status words.Usage = Usage
words_status words.Memory = Memory
