-- What a life over one store comes to, over any devices: a first start, a session, a loss of power,
-- and a session over what the first one left; in Opt with a checkpoint before power is lost. With
-- it: a life that meets what is asked of a life.
use Rattle.std.specs.Prelude.{◌≡◌, ◌≢◌, ◌⊎◌, ℕ, true, List, [], ◌∷◌, Option, Some, Result, Ok, Err, take, codes}
use Rattle.mm_base.specs.Input.{joined_lines}
use Rattle.mm_platform.specs.Standing.{own_item}
use Rattle.mm_module.specs.Meaning.{counter}
use Rattle.mm_model.specs.Chains.{guard}
use Rattle.mm_model.specs.declared.refusal.Refusal.TheVariants.{Lost}
use Rattle.mm_outcome.specs.OneRun.{world_barrier}
use Rattle.mm_evidence.specs.Evidence.{HasClash}
use Rattle.mm_recovery.specs.FirstStart.{InstanceBegins, Devices, instance_from}
use Rattle.mm_recovery.specs.declared.fault.HostFault.TheVariants.{Refused}
use Rattle.mm_host.specs.declared.fault.SessionFault.TheVariants.{Host}
use Rattle.mm_life.specs.Below.{Basic, Opt, Instance, Item, Standing, Meaning, basic_instance, Slots, Store, StoreStanding, SessionFault}
use Rattle.mm_life.specs.Below.{CheckpointRefusal, Checkpointed, Answer, AreNoGuards, IsClear, One, first_history, first_slots}
use Rattle.mm_life.specs.Below.{issued_bytes, opt_instance}
use Rattle.mm_life.specs.Deeds.{Checkpoints, LosesPower, served_calls_of}
use Rattle.mm_life.specs.HonestLife.{IsGoneOnWith}
use Rattle.mm_life.specs.LifeWrites.{BasicWrites, WritesOnceEach, segment_turns, turns_in_hand}
use Rattle.mm_life.specs.Premises.{life_batches, life_messages, opt_messages, others_values, AreUntagged}
use Rattle.mm_life.specs.Stages.{Does, IsLife, LifeStage, program_standing, session_stage, Holds, PartLeads, Program}

-- What the objects of such a life tell: the devices of a first start, what is left of the input of
-- each session, and what the output of both received.
pub record LifeStanding : Type 0 where
  pub devices : Devices
  pub first : Option (List ℕ)
  pub second : Option (List ℕ)
  pub received : Option (List ℕ)

abbrev pub life_standing : Devices → (first second received : Option (List ℕ)) → LifeStanding
life_standing devices first second received =
    record { devices = devices; first = first; second = second; received = received }

-- the store didn't fail
abbrev pub KeepsStore : Result Unit SessionFault → Type 0
KeepsStore result = result ≢ Err (Host Store)

-- Such a life of Basic is gone on with, and the cell is written once for each request that is told
-- for the first time. Or it gives evidence: two different messages of its calls have one digest, or
-- the digest of one is zero.
abbrev pub IsGoneOnInBasic : (meaning : Meaning) (key : List ℕ) (start : Standing)
    (kept : StoreStanding) (stages : List LifeStage) → IsLife Basic meaning start stages → Type 0
IsGoneOnInBasic meaning key start kept stages f =
    ((gone : IsGoneOnWith (life_messages (basic_instance meaning key) start stages f) []
    (life_batches (basic_instance meaning key) start stages f) (basic_instance meaning key)
    kept start stages f)
    × BasicWrites meaning start stages f gone.after)
    ⊎ HasClash (basic_instance meaning key)
    (life_messages (basic_instance meaning key) start stages f) []
    (life_batches (basic_instance meaning key) start stages f)

-- a loss of power between two sessions
abbrev pub stages_around_loss : LifeStage → (empty : Standing) → LifeStage → List LifeStage
stages_around_loss first empty second =
    first ∷ record { part = Does LosesPower; after = empty } ∷ second ∷ []

-- It is one, or gives evidence, where the platform told its cell before the first start, and an
-- honest store its slots, and the store failed in neither session.
pub record LivesOnOneStore (meaning : Meaning) (old new : LifeStanding)
    (one two : Result Unit SessionFault) : Type 0 where
  pub started : Devices
  pub begun : InstanceBegins Basic meaning old.devices started
  pub middle : Standing
  pub empty : Standing
  pub between : StoreStanding
  pub told : Option (List ℕ)
  pub stages : List LifeStage
  pub are : stages ≡ stages_around_loss
      (session_stage (program_standing started.store old.first old.received)
      (program_standing between new.first told) one middle) empty
      (session_stage (program_standing between old.second told)
      (program_standing new.devices.store new.second new.received) two new.devices.platform)
  pub life : IsLife Basic meaning started.platform stages
  pub goes : (cell : List ℕ) (slots : Slots) → old.devices.platform.cell ≡ Some cell →
      old.devices.store.is_honest ≡ true → old.devices.store.slots ≡ Some slots →
      KeepsStore one → KeepsStore two →
      IsGoneOnInBasic meaning (take 32 begun.secrets) started.platform started.store stages life

-- behind a checkpoint that wasn't refused no session is refused as Lost
abbrev pub IsUnlost : Result Checkpointed CheckpointRefusal → Result Unit SessionFault → Type 0
IsUnlost (Ok it) result = result ≢ Err (Host (Refused Lost))
IsUnlost (Err why) result = Unit {0}

-- Such a life of Opt is gone on with, and its last session, behind a checkpoint that said this,
-- ends so. Or it gives evidence: two different messages of its calls, or by which the register's
-- items went into it, have one digest, or the digest of one is zero; or a value of others is the
-- guard of a request.
abbrev pub IsGoneOnInOpt : (i : Instance) (start : Standing) (kept : StoreStanding)
    (stages : List LifeStage) → IsLife i.variant i.meaning start stages
    → Result Checkpointed CheckpointRefusal → Result Unit SessionFault → Type 0
IsGoneOnInOpt i start kept stages f said last =
    (IsGoneOnWith (opt_messages i start stages f) (others_values i start stages f)
    (life_batches i start stages f) i kept start stages f
    × IsUnlost said last)
    ⊎ HasClash i (opt_messages i start stages f) (others_values i start stages f)
    (life_batches i start stages f)

-- a checkpoint that said this, and a loss of power, between two sessions
abbrev pub stages_around : LifeStage → Result Checkpointed CheckpointRefusal
    → (closed empty : Standing)
    → LifeStage → List LifeStage
stages_around first said closed empty second =
    first ∷ record { part = Does (Checkpoints said); after = closed }
    ∷ record { part = Does LosesPower; after = empty } ∷ second ∷ []

-- It is one, or gives evidence, where the platform told its cell and its register's items before
-- the first start, and an honest store its slots, and the store failed in neither session; and the
-- cell is written once for each segment opened or closed.
pub record LivesOverCheckpoint (meaning : Meaning) (old new : LifeStanding)
    (one : Result Unit SessionFault) (said : Result Checkpointed CheckpointRefusal)
    (two : Result Unit SessionFault) : Type 0 where
  pub started : Devices
  pub begun : InstanceBegins Opt meaning old.devices started
  pub middle : Standing
  pub closed : Standing
  pub empty : Standing
  pub between : StoreStanding
  pub told : Option (List ℕ)
  pub stages : List LifeStage
  pub are : stages ≡ stages_around
      (session_stage (program_standing started.store old.first old.received)
      (program_standing between new.first told) one middle) said closed empty
      (session_stage (program_standing between old.second told)
      (program_standing new.devices.store new.second new.received) two new.devices.platform)
  pub life : IsLife Opt meaning started.platform stages
  pub goes : (cell : List ℕ) (items : List Item) (slots : Slots) →
      old.devices.platform.cell ≡ Some cell → old.devices.platform.items ≡ Some items →
      old.devices.store.is_honest ≡ true → old.devices.store.slots ≡ Some slots →
      KeepsStore one → KeepsStore two →
      IsGoneOnInOpt (instance_from Opt meaning begun.secrets) started.platform started.store stages
      life said two
  pub writes : (cell : List ℕ) (items : List Item) → old.devices.platform.cell ≡ Some cell →
      old.devices.platform.items ≡ Some items →
      WritesOnceEach started.platform stages (segment_turns meaning started.platform stages life)
      (turns_in_hand meaning started.platform stages life)

-- A life that meets what is asked of a life: a session of one request.

-- one line of input
abbrev pub add_five : List ℕ
add_five = codes "add 5"

-- a session was held, and no more
abbrev pub one_session : Program → Standing → List LifeStage
one_session p after = record { part = Holds p; after = after } ∷ []

-- No two messages of the session's calls share a digest, and nobody else made a tag of what it
-- offers first; and where it ended with Ok it told the request.
pub record MeetsPremises (key : List ℕ) (start after : Standing) (p : Program)
    (s : PartLeads Basic counter start (Holds p) after) : Type 0 where
  pub clear : IsClear
      (life_messages (basic_instance counter key) start (one_session p after) (s, tt))
  pub untagged : AreUntagged (basic_instance counter key)
      (issued_bytes (basic_instance counter key) first_history ∷ []) start (one_session p after)
      (s, tt)
  pub told : p.result ≡ Ok tt → (answer : Answer)
      × (served_calls_of s ≡ record { line = add_five; answer = answer } ∷ [])

-- So it is in Basic of each session of a counter over the slots of a first start, to which that
-- line is given alone, under every key and whatever its devices do.
abbrev pub OneRequestMeetsPremises : Type 0
OneRequestMeetsPremises =
    (key : List ℕ) (start after : Standing) (p : Program)
    (s : PartLeads Basic counter start (Holds p) after) →
    p.old.kept.slots ≡ Some (first_slots (basic_instance counter key)) →
    p.old.left ≡ Some (joined_lines (add_five ∷ [])) → MeetsPremises key start after p s

-- behind it the register shows nothing, or the guard of that request alone: nobody else extended it
abbrev pub ShowsGuardAlone : List ℕ → Standing → Type 0
ShowsGuardAlone barrier after =
    (after.items ≡ Some [])
    ⊎ (after.items ≡ Some (own_item (guard barrier (One add_five)) ∷ []))

-- In Opt the messages by which the register's items went into it share no digest with these either,
-- and no value of others is a guard.
pub record MeetsOptPremises (key : List ℕ) (start after : Standing) (p : Program)
    (s : PartLeads Opt counter start (Holds p) after) : Type 0 where
  pub clear : IsClear (opt_messages (opt_instance counter key world_barrier) start
      (one_session p after) (s, tt))
  pub apart : AreNoGuards world_barrier
      (others_values (opt_instance counter key world_barrier) start (one_session p after) (s, tt))
      (life_batches (opt_instance counter key world_barrier) start (one_session p after) (s, tt))
  pub untagged : AreUntagged (opt_instance counter key world_barrier)
      (issued_bytes (opt_instance counter key world_barrier) first_history ∷ []) start
      (one_session p after) (s, tt)
  pub told : p.result ≡ Ok tt → (answer : Answer)
      × (served_calls_of s ≡ record { line = add_five; answer = answer } ∷ [])

-- So it is in Opt of each such session, under every key and the barrier of each world, behind which
-- the register shows no value of others.
abbrev pub OptRequestMeetsPremises : Type 0
OptRequestMeetsPremises =
    (key : List ℕ) (start after : Standing) (p : Program)
    (s : PartLeads Opt counter start (Holds p) after) →
    p.old.kept.slots ≡ Some (first_slots (opt_instance counter key world_barrier)) →
    p.old.left ≡ Some (joined_lines (add_five ∷ [])) → ShowsGuardAlone world_barrier after →
    MeetsOptPremises key start after p s
