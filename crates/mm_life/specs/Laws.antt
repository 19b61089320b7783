-- The laws of a life.
use Rattle.std.specs.Prelude.{◌≡◌, ℕ, List, [], ◌∷◌, Option, Some, Result, ◌⊎◌}
use Rattle.mm_life.specs.Below.{Variant, Basic, Opt, Standing, IsLawful, Meaning, AreSaid, AnyModule, meaning_of, first_history}
use Rattle.mm_life.specs.Below.{basic_instance, AreNoGuards, IsClear, StandsFor, issued_bytes, ModulePromises, tellings_in, Instance}
use Rattle.mm_life.specs.Below.{opt_instance, Batch, first_history_on, StoreStanding, PendingRecord, Slots, slot_front, first_offer}
use Rattle.mm_life.specs.Below.{IsWaiting, MayStart, SessionFault, SessionStanding, IsSession}
use Rattle.mm_life.specs.Deeds.{IsFirstOffered, session_calls, LifeCall}
use Rattle.mm_life.specs.Stages.{LifeFollows, IsOneWhole, life_replies, IsLife, LifeStage, end_of, life_calls}
use Rattle.mm_life.specs.Premises.{AreUntagged, IsUntagged, life_batches, life_messages, opt_messages, others_values, snapshots_of}

-- the first snapshot, and those that the calls of a life issued
abbrev pub life_snapshots : (i : Instance) (start : Standing) (stages : List LifeStage)
    → IsLife i.variant i.meaning start stages → List (List ℕ)
life_snapshots i start stages f =
    issued_bytes i first_history ∷ snapshots_of (life_calls i.variant i.meaning start stages f)

-- Basic: whatever is done behind a first start, it is one whole, where no two messages of its calls
-- share a digest and nobody else made a tag. Nothing is asked of the slots, of the devices, or of
-- what others put into the register.
abbrev pub BasicLifeIsOne : Type 0
BasicLifeIsOne =
    (meaning : Meaning) → IsLawful meaning → (key : List ℕ) (start : Standing)
    (stages : List LifeStage) (f : IsLife Basic meaning start stages) →
    StandsFor (basic_instance meaning key) start first_history →
    IsClear (life_messages (basic_instance meaning key) start stages f) →
    AreUntagged (basic_instance meaning key) (issued_bytes (basic_instance meaning key) first_history ∷ []) start
    stages f →
    IsOneWhole (life_messages (basic_instance meaning key) start stages f) []
    (life_batches (basic_instance meaning key) start stages f) (basic_instance meaning key)
    (life_snapshots (basic_instance meaning key) start stages f) start stages f

-- Opt, from a register that others had extended by these values: the same, where besides the
-- messages by which the register's items went into it share no digest, as it shows them behind each
-- part, and no value of others is the guard of a request that was asked. Nothing of this is asked
-- of a part in which no segment is open and nothing new is asked.
abbrev pub OptLifeIsOne : Type 0
OptLifeIsOne =
    (meaning : Meaning) → IsLawful meaning → (key barrier : List ℕ) (values : List (List ℕ))
    (start : Standing) (stages : List LifeStage) (f : IsLife Opt meaning start stages) →
    StandsFor (opt_instance meaning key barrier) start (first_history_on values) →
    IsClear (opt_messages (opt_instance meaning key barrier) start stages f) →
    AreNoGuards barrier (others_values (opt_instance meaning key barrier) start stages f)
    (life_batches (opt_instance meaning key barrier) start stages f) →
    AreUntagged (opt_instance meaning key barrier)
    (issued_bytes (opt_instance meaning key barrier) first_history ∷ []) start stages f →
    IsOneWhole (opt_messages (opt_instance meaning key barrier) start stages f)
    (others_values (opt_instance meaning key barrier) start stages f)
    (life_batches (opt_instance meaning key barrier) start stages f) (opt_instance meaning key barrier)
    (life_snapshots (opt_instance meaning key barrier) start stages f) start stages f

-- What waits in these slots was found, and the first of the calls offers what they show for it.
pub record OffersSlots (slots : Slots) (calls : List LifeCall) : Type 0 where
  pub waiting : Option PendingRecord
  pub is_waiting : IsWaiting (slot_front slots 2) (slot_front slots 3) waiting
  pub offered : IsFirstOffered (first_offer slots waiting) calls

-- What a session offers first is what its slots show, where its store tells them; or it made no
-- call.
abbrev pub SessionsOfferSlots : Type 0
SessionsOfferSlots =
    (variant : Variant) (meaning : Meaning) (old new : SessionStanding)
    (result : Result Unit SessionFault) (s : IsSession variant meaning old new result)
    (slots : Slots) →
    old.kept.slots ≡ Some slots → (session_calls s ≡ []) ⊎ OffersSlots slots (session_calls s)

-- Behind a life a session may start over any slots, where what they offer first was issued in this
-- life, if it is right: so it is one run from the life's history on.
abbrev pub NextMayStart : Type 0
NextMayStart =
    (all others : List (List ℕ)) (asked : List Batch) (i : Instance) (issued : List (List ℕ))
    (start : Standing) (stages : List LifeStage) (f : IsLife i.variant i.meaning start stages)
    (whole : IsOneWhole all others asked i issued start stages f) →
    IsClear all → AreNoGuards i.barrier others asked →
    (slots : Slots) (kept : StoreStanding) (waiting : Option PendingRecord) →
    kept.slots ≡ Some slots → IsWaiting (slot_front slots 2) (slot_front slots 3) waiting →
    IsUntagged i issued (first_offer slots waiting) →
    MayStart all others asked i whole.history slots (end_of start stages) kept

-- Each line that was told over a life says what the module said when its request was run, once, on
-- the one list.
abbrev pub LivesTellWhatWasSaid : Type 0
LivesTellWhatWasSaid =
    (variant : Variant) (meaning : Meaning) (start : Standing) (stages : List LifeStage)
    (f : IsLife variant meaning start stages) (requests : List (List ℕ)) →
    LifeFollows variant meaning start stages f [] requests →
    AreSaid meaning requests (tellings_in (life_replies variant meaning start stages f))

-- What a module promises of one run holds over a whole life.
abbrev pub LivesKeepPromises : Type 0
LivesKeepPromises =
    («module» : AnyModule) (variant : Variant) (start : Standing) (stages : List LifeStage)
    (f : IsLife variant (meaning_of «module») start stages) (requests : List (List ℕ)) →
    LifeFollows variant (meaning_of «module») start stages f [] requests →
    ModulePromises «module» requests (life_replies variant (meaning_of «module») start stages f)
