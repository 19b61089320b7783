-- What lives over devices in memory come to: a first start, and two sessions, the second over a
-- copy in the pages' place. With it: the commands that go on with an instance; commands that a host
-- has run, one after another; what a module promises holds of the commands of the program, run one
-- after another.
use Rattle.std.specs.List.{AllByRecursion}
use Rattle.std.specs.Prelude.{◌≡◌, ◌⊎◌, ℕ, List, [], ◌∷◌, ◌++◌, Option, Result, length, false, Some}
use Rattle.mm_digest.specs.declared.variant.Variant.TheVariants.{Basic, Opt}
use Rattle.mm_platform.specs.Standing.{Standing}
use Rattle.mm_twocell.specs.TornMemory.{TornMemory}
use Rattle.mm_twocell.specs.declared.pair.TwoCell.{TwoCell}
use Rattle.mm_module.specs.Batch.{Batch}
use Rattle.mm_module.specs.Meaning.{Meaning}
use Rattle.mm_modules.specs.Modules.{meaning_of}
use Rattle.mm_modules.specs.declared.any.AnyModule.{AnyModule}
use Rattle.mm_model.specs.Chains.{Instance}
use Rattle.mm_model.specs.History.{first_history}
use Rattle.mm_model.specs.Standing.{issued_bytes}
use Rattle.mm_opt.specs.declared.segment.Checkpointed.{Checkpointed}
use Rattle.mm_opt.specs.declared.segment.CheckpointRefusal.{CheckpointRefusal}
use Rattle.mm_schedule.specs.Replies.{ModulePromises}
use Rattle.mm_evidence.specs.Evidence.{HasClash}
use Rattle.mm_store.specs.PendingRecord.{PendingRecord}
use Rattle.mm_store.specs.StoreStanding.{Slots, slot_front}
use Rattle.mm_pages.specs.CachedDevice.{CachedDevice}
use Rattle.mm_pages.specs.PageStanding.{Sheets}
use Rattle.mm_words.specs.declared.command.CommandLine.{CommandLine}
use Rattle.mm_words.specs.declared.command.CommandLine.TheVariants as command
use Rattle.mm_recovery.specs.FirstStart.{ShowsValues, first_slots, instance_from, InstanceBegins, Devices}
use Rattle.mm_recovery.specs.HostStanding.{first_offer, IsWaiting}
use Rattle.mm_host.specs.declared.fault.SessionFault.{SessionFault}
use Rattle.mm_host_commands.specs.Outside.{Outside, devices_of}
use Rattle.mm_life.specs.Deeds.{Checkpoints, LosesPower}
use Rattle.mm_life.specs.Laws.{life_snapshots}
use Rattle.mm_life.specs.Premises.{IsUntagged, life_batches, life_messages, opt_messages, others_values, snapshots_of, AreUntagged}
use Rattle.mm_life.specs.Stages.{IsOneWhole, Does, IsLife, LifeStage, part_calls, session_stage, life_replies}
use Rattle.mm_at_work.specs.Commands.{AreRun, CommandBehind, standing_behind, AreLife}
use Rattle.mm_at_work.specs.declared.hosts.Verb.{Verb}
use Rattle.mm_at_work.specs.declared.hosts.Verb.TheVariants.{Run, Checkpoint, Power}
use Rattle.mm_at_work.specs.declared.lives.LifeObjects.{LifeObjects}
use Rattle.mm_at_work.specs.Devices.{program_in_memory, two_cells}

-- the objects of such a life: its platform, the copy of the pages, what is left of its entropy and
-- of the input of each session, and what the output of both received
pub record MemoryLife : Type 0 where
  pub platform : TwoCell TornMemory
  pub copy : CachedDevice Sheets
  pub entropy : List ℕ
  pub first : List ℕ
  pub second : List ℕ
  pub received : List ℕ

abbrev pub memory_life : LifeObjects → CachedDevice Sheets → MemoryLife
memory_life it copy = record {
  platform = it.platform;
  copy = copy;
  entropy = it.entropy.left;
  first = it.first.left;
  second = it.second.left;
  received = it.out.received;
}

-- What a copy of the slots offers first was issued, if it is right.
abbrev pub IsOldCopy : Instance → List (List ℕ) → Slots → Type 0
IsOldCopy i issued slots =
    (waiting : Option PendingRecord) → IsWaiting (slot_front slots 2) (slot_front slots 3) waiting
    → IsUntagged i issued (first_offer slots waiting)

-- The 64 bytes that were taken, what the first start left, and what the first session left.
pub record BeginsLife (entropy entropy' : List ℕ) : Type 0 where
  pub secrets : List ℕ
  pub counted : length secrets ≡ 64
  pub taken : entropy ≡ secrets ++ entropy'
  pub start : TwoCell TornMemory
  pub pages : CachedDevice Sheets
  pub middle : TwoCell TornMemory
  pub left_pages : CachedDevice Sheets
  pub between : List ℕ

-- the first session, over the pages of the first start; and the second one, over the copy
abbrev pub first_stage : (old new : MemoryLife) → BeginsLife old.entropy new.entropy
    → Result Unit SessionFault → LifeStage
first_stage old new b result =
    session_stage (program_in_memory b.pages old.first old.received)
    (program_in_memory b.left_pages new.first b.between) result (two_cells b.middle)

abbrev pub second_stage : (old new : MemoryLife) → BeginsLife old.entropy new.entropy
    → Result Unit SessionFault → LifeStage
second_stage old new b result =
    session_stage (program_in_memory old.copy old.second b.between)
    (program_in_memory new.copy new.second new.received) result (two_cells new.platform)

module _ (i : Instance) (start : TwoCell TornMemory) (stage : LifeStage) (stages : List LifeStage)
    (copy : Slots) (f : IsLife i.variant i.meaning (two_cells start) (stage ∷ stages)) where
  -- Behind a first session of it, where the copy in the pages' place is an old one, a life is one
  -- whole, or two different of these messages have one digest, the digest of one is zero, or one of
  -- these values of others is the guard of a request.
  abbrev pub IsWholeBy : (messages others : List (List ℕ)) → Type 0
  IsWholeBy messages others =
      IsOldCopy i
      (issued_bytes i first_history
      ∷ snapshots_of (part_calls i.variant i.meaning (two_cells start) stage.part stage.after f.0))
      copy →
      IsOneWhole messages others (life_batches i (two_cells start) (stage ∷ stages) f) i
      (life_snapshots i (two_cells start) (stage ∷ stages) f) (two_cells start) (stage ∷ stages) f
      ⊎ HasClash i messages others (life_batches i (two_cells start) (stage ∷ stages) f)

  -- in Basic nothing else is asked, and no value is a guard
  abbrev pub IsWholeInBasic : Type 0
  IsWholeInBasic = IsWholeBy (life_messages i (two_cells start) (stage ∷ stages) f) []

  abbrev pub IsWholeInOpt : Type 0
  IsWholeInOpt =
      IsWholeBy (opt_messages i (two_cells start) (stage ∷ stages) f)
      (others_values i (two_cells start) (stage ∷ stages) f)

-- The slots of the first start are an old copy, whatever else was issued: so where they are put
-- back, no premise is left.
abbrev pub FirstSlotsAreOld : Instance → Type 0
FirstSlotsAreOld i =
    (more : List (List ℕ)) → IsOldCopy i (issued_bytes i first_history ∷ more) (first_slots i)

-- A life of Basic over a copy: a session, and one over the copy.
pub record LivesOnCopy (meaning : Meaning) (old new : MemoryLife)
    (one two : Result Unit SessionFault) : Type 0 where
  pub begun : BeginsLife old.entropy new.entropy
  pub open begun use *
  pub life : IsLife Basic meaning (two_cells start)
      (first_stage old new begun one ∷ second_stage old new begun two ∷ [])
  pub whole : IsWholeInBasic (instance_from Basic meaning secrets) start
      (first_stage old new begun one) (second_stage old new begun two ∷ [])
      old.copy.device.slots life
  pub first_is_old : FirstSlotsAreOld (instance_from Basic meaning secrets)

-- The same with a loss of power between the two.
pub record LivesWithoutPower (meaning : Meaning) (old new : MemoryLife)
    (one two : Result Unit SessionFault) : Type 0 where
  pub begun : BeginsLife old.entropy new.entropy
  pub open begun use *
  pub empty : Standing
  pub life : IsLife Basic meaning (two_cells start)
      (first_stage old new begun one
      ∷ record { part = Does LosesPower; after = empty }
      ∷ second_stage old new begun two ∷ [])
  pub whole : IsWholeInBasic (instance_from Basic meaning secrets) start
      (first_stage old new begun one)
      (record { part = Does LosesPower; after = empty } ∷ second_stage old new begun two ∷ [])
      old.copy.device.slots life
  pub first_is_old : FirstSlotsAreOld (instance_from Basic meaning secrets)

-- A life of Opt with a checkpoint between the two, from the values that the register showed at the
-- first start.
pub record LivesCheckpointed (meaning : Meaning) (old new : MemoryLife)
    (one : Result Unit SessionFault) (said : Result Checkpointed CheckpointRefusal)
    (two : Result Unit SessionFault) : Type 0 where
  pub begun : BeginsLife old.entropy new.entropy
  pub open begun use *
  pub closed : Standing
  pub life : IsLife Opt meaning (two_cells start)
      (first_stage old new begun one
      ∷ record { part = Does (Checkpoints said); after = closed }
      ∷ second_stage old new begun two ∷ [])
  pub whole : (values : List (List ℕ)) → ShowsValues Opt (two_cells start) values
      → IsWholeInOpt (instance_from Opt meaning secrets) start (first_stage old new begun one)
      (record { part = Does (Checkpoints said); after = closed }
      ∷ second_stage old new begun two ∷ []) old.copy.device.slots life
  pub first_is_old : FirstSlotsAreOld (instance_from Opt meaning secrets)

-- The commands that go on with an instance.

abbrev pub verb_command : Verb → CommandLine
verb_command Run = command.Run
verb_command Checkpoint = command.Checkpoint
verb_command Power = command.Power

-- Commands that a host has run, one after another: each is the one that it said, over the objects
-- that it handed.

-- the command that a host said, the objects as it handed them, and as the command left them
pub record HostRound (O : Type 0) : Type 0 where
  pub verb : Verb
  pub handed : O
  pub left : O

module _ {H O : Type 0} (hands : H → H → O → O → Verb → Type 0) where
  -- The host handed them one after another, each from what the command before it left.
  abbrev pub AreHanded : H → O → List (HostRound O) → H → O → Type 0
  AreHanded host objects [] host' objects' = (host' ≡ host) × (objects' ≡ objects)
  AreHanded host objects (round ∷ rounds) host' objects' =
      (middle : H) × hands host middle objects round.handed round.verb
      × AreHanded middle round.left rounds host' objects'

module _ {O : Type 0} (tells : Standing → O → Outside) where
  -- The command of a round, over its objects; it wasn't killed.
  pub record IsOfRound (r : CommandBehind) (round : HostRound O) : Type 0 where
    pub command : r.command ≡ verb_command round.verb
    pub old : r.old ≡ tells r.old.standing round.handed
    pub new : r.new ≡ tells r.new.standing round.left
    pub ended : r.killed ≡ false

  abbrev pub AreOfRounds : List CommandBehind → List (HostRound O) → Type 0
  AreOfRounds [] [] = Unit {0}
  AreOfRounds [] (round ∷ rounds) = ⊥
  AreOfRounds (r ∷ commands) [] = ⊥
  AreOfRounds (r ∷ commands) (round ∷ rounds) =
      IsOfRound r round × AreOfRounds commands rounds

-- So many commands were run, each as the host handed it, whatever it did between them.
pub record HaveRun {H O : Type 0} (hands : H → H → O → O → Verb → Type 0)
    (tells : Standing → O → Outside) (start end : Standing) (host host' : H) (objects objects' : O)
    (count : ℕ) : Type 0 where
  pub rounds : List (HostRound O)
  pub counted : length rounds ≡ count
  pub handed : AreHanded hands host objects rounds host' objects'
  pub commands : List CommandBehind
  pub of_rounds : AreOfRounds tells commands rounds
  pub run : AreRun start commands
  pub ends : end ≡ standing_behind start commands

-- What a module promises holds of the commands of the program, run one after another.

-- the store of each command holds the first slots, put back whatever it held before
abbrev pub HoldFirstSlots : Instance → List CommandBehind → Type 0
HoldFirstSlots i commands =
    AllByRecursion (λ r. r.old.kept.slots ≡ Some (first_slots i)) commands

-- The life is one whole, and what its sessions told keeps what the module promises, on its one list
-- of requests.
pub record KeepsPromise (it : AnyModule) (i : Instance) (all others : List (List ℕ))
    (asked : List Batch) (start : Standing) (stages : List LifeStage)
    (f : IsLife i.variant i.meaning start stages) : Type 0 where
  pub whole : IsOneWhole all others asked i (life_snapshots i start stages f) start stages f
  pub kept : ModulePromises it whole.requests (life_replies i.variant i.meaning start stages f)

-- The commands are a life. Where nobody else made a tag of what a store offers first, it keeps the
-- promise, or gives evidence: two different of these messages have one digest, or the digest of one
-- is zero, or one of these values is the guard of a request. So it is where each store holds the
-- first slots again.
pub record LivesWell (it : AnyModule) (i : Instance) (start : Standing)
    (commands : List CommandBehind)
    (messages : (stages : List LifeStage) → IsLife i.variant i.meaning start stages → List (List ℕ))
    (others : (stages : List LifeStage) → IsLife i.variant i.meaning start stages → List (List ℕ))
    : Type 0 where
  pub are : AreLife i.variant i.meaning start commands
  pub open are use *
  pub keeps : AreUntagged i (issued_bytes i first_history ∷ []) start stages life →
      KeepsPromise it i (messages stages life) (others stages life)
      (life_batches i start stages life) start stages life
      ⊎ HasClash i (messages stages life) (others stages life) (life_batches i start stages life)
  pub untagged : HoldFirstSlots i commands →
      AreUntagged i (issued_bytes i first_history ∷ []) start stages life

-- In Basic, behind a first start that began an instance, whatever commands are run.
abbrev pub BasicCommandsKeepPromises : Type 0
BasicCommandsKeepPromises =
    (it : AnyModule) (before after : Devices)
    (begins : InstanceBegins Basic (meaning_of it) before after)
    (cell : List ℕ) (commands : List CommandBehind) → before.platform.cell ≡ Some cell →
    AreRun after.platform commands →
    (let i = instance_from Basic (meaning_of it) begins.secrets in
    LivesWell it i after.platform commands
    (λ stages f. life_messages i after.platform stages f) (λ stages f. []))

-- In Opt too, from the values that the register showed.
abbrev pub OptCommandsKeepPromises : Type 0
OptCommandsKeepPromises =
    (it : AnyModule) (before after : Devices)
    (begins : InstanceBegins Opt (meaning_of it) before after)
    (cell : List ℕ) (values : List (List ℕ)) (commands : List CommandBehind) →
    before.platform.cell ≡ Some cell → ShowsValues Opt after.platform values →
    AreRun after.platform commands →
    (let i = instance_from Opt (meaning_of it) begins.secrets in
    LivesWell it i after.platform commands
    (λ stages f. opt_messages i after.platform stages f)
    (λ stages f. others_values i after.platform stages f))

-- An instance of Basic was started, and then so many commands were run over its platform, each as
-- the host handed it, whatever it did to the slots between them: they live well.
pub record LivesUnderHost {H O : Type 0} (hands : H → H → O → O → Verb → Type 0)
    (tells : Standing → O → Outside) (it : AnyModule) (before : Devices) (end : Standing)
    (host host' : H) (objects' : O) (rounds : ℕ) : Type 0 where
  pub start : Standing
  pub objects : O
  pub begun : InstanceBegins Basic (meaning_of it) before (devices_of (tells start objects))
  pub ran : HaveRun hands tells start end host host' objects objects' rounds
  pub lives : (let i = instance_from Basic (meaning_of it) begun.secrets in
      LivesWell it i start ran.commands (λ stages f. life_messages i start stages f)
      (λ stages f. []))
