-- What a host program that goes on after a stop comes to, by lists alone.
use Rattle.std.specs.Prelude.{◌≡◌, ◌≢◌, ℕ, true, List, [], ◌∷◌, ◌++◌, Option, None, Some, Result, Ok, Err, nat_eq, ◌⊎◌, ◌%◌, IfOk, IsSome}
use Rattle.std.specs.List.{Contains}
use Rattle.mm_recovery.specs.Below.{Variant, Basic, Opt, Item, Batch, One, Meaning, History, total_of, Instance, basic_instance}
use Rattle.mm_recovery.specs.Below.{opt_instance, Life, Spoiled, LostLife, life_of, AreMessagesIn, IsClear, AreNoGuards, StandsFor, Answer}
use Rattle.mm_recovery.specs.Below.{Refusal, Device, Lost, Stale, answer_on, IsWithin, right_messages, right_content, batch_answer_of}
use Rattle.mm_recovery.specs.Below.{AreShown, IsIdle, fault_of, standing_items, PendingRecord, Slots, slot_front}
use Rattle.mm_recovery.specs.declared.fault.HostFault.{HostFault}
use Rattle.mm_recovery.specs.declared.fault.HostFault.TheVariants.{Refused}
use Rattle.mm_recovery.specs.declared.resuming.Resumed.{Resumed}
use Rattle.mm_recovery.specs.declared.resuming.Resumed.TheVariants.{Start, Answered}
use Rattle.mm_recovery.specs.HostStanding.{HostStanding, offer_slot, FitsHistory, IsSnapshotAt, position_at, snapshot_at}

-- What is asked for the request that waits: it is among those asked, and the messages of its offer
-- are in the list.
abbrev pub IsAskedFor : List (List ℕ) → List Batch → Instance → Slots → Option PendingRecord
    → Type 0
IsAskedFor all asked i slots None = Unit {0}
IsAskedFor all asked i slots (Some p) =
    Contains asked (One p.request)
    × AreMessagesIn (right_messages i (One p.request)
    (right_content i (slot_front slots (offer_slot p))))
    all

-- What is asked for a recovery: the store is honest, and tells its slots; the platform stands for
-- the history, and the slots fit it; and no two messages share a digest, of the history and of the
-- request that waits.
pub record CanRecover (all others : List (List ℕ)) (asked : List Batch) (i : Instance) (y : History)
    (slots : Slots) (at : HostStanding) : Type 0 where
  pub honest : at.kept.is_honest ≡ true
  pub told : at.kept.slots ≡ Some slots
  pub stands : StandsFor i at.standing y
  pub fits : FitsHistory i slots y
  pub clear : IsClear all
  pub apart : AreNoGuards i.barrier others asked
  pub within : IsWithin all others asked i y
  pub is_asked : IsAskedFor all asked i slots fits.waiting

-- Nothing waits, so nothing is asked; or what waits is asked with no segment open, and isn't taken
-- for new.
abbrev pub AsksIdly : Instance → History → Slots → Option PendingRecord → Type 0
AsksIdly i y slots None = Unit {0}
AsksIdly i y slots (Some p) = IsIdle i y (slot_front slots (offer_slot p)) (One p.request)

-- the batches of the history, and the request that waits, where that is new
abbrev pub IsGrown : History → Option PendingRecord → History → Type 0
IsGrown y None after = after.batches ≡ y.batches
IsGrown y (Some p) after =
    (after.batches ≡ y.batches) ⊎ (after.batches ≡ y.batches ++ One p.request ∷ [])

-- The answer is that of one run of the history's batches, of which the request that waits is the
-- last, at its position; it is a repeat exactly where the position was taken before.
pub record AnswersAt (i : Instance) (y : History) (waiting : Option PendingRecord) (after : History)
    (answer : Answer) : Type 0 where
  pub p : PendingRecord
  pub waits : waiting ≡ Some p
  pub position : p.position ≡ total_of after.batches
  pub answer_is : batch_answer_of answer ≡ answer_on i after (One p.request)
      (nat_eq p.position (total_of y.batches))

-- From slots that fit, a refusal is a device's fault; or in Opt it tells how the history has ended.
abbrev pub IsRefusedAs : Refusal → Life → Type 0
IsRefusedAs (Device fault) _ = Unit {0}
IsRefusedAs Lost life = life ≡ LostLife
IsRefusedAs Stale life = life ≡ Spoiled
IsRefusedAs why _ = ⊥

-- It begins with the first snapshot exactly where nothing waits.
abbrev pub ResumeComesTo : Instance → History → Slots → Option PendingRecord → History
    → Result Resumed HostFault → Type 0
ResumeComesTo i y slots waiting after (Ok (Start first)) =
    (waiting ≡ None) × (first ≡ slot_front slots 0)
ResumeComesTo i y slots waiting after (Ok (Answered answer)) = AnswersAt i y waiting after answer
ResumeComesTo i y slots waiting after (Err (Refused why)) =
    IsRefusedAs why (life_of i.variant after)
ResumeComesTo i y slots waiting after result = Unit {0}

-- A request may have been committed where it is answered, and where memory, the store or a device
-- failed.
abbrev pub RequestMayBeCommitted : {T : Type 0} → Result T HostFault → Type 0
RequestMayBeCommitted (Err (Refused why)) = IsSome (fault_of why)
RequestMayBeCommitted result = Unit {0}

module _ (all others : List (List ℕ)) (asked : List Batch) (i : Instance) (y : History) where
  -- Whatever it gives, the platform stands for a history that grew by the request that waits or by
  -- nothing, and the slots fit that one; so it may be called again. What was asked of the history
  -- holds of it too. The newest snapshot is in the slot of its position's parity, and names that
  -- position of the history. No power is lost by it.
  pub record RecoversTo (slots : Slots) (waiting : Option PendingRecord) (new : HostStanding)
      (result : Result Resumed HostFault) : Type 0 where
    pub after : History
    pub stands : StandsFor i new.standing after
    pub within : IsWithin all others asked i after
    pub grown : IsGrown y waiting after
    pub only : (after.batches ≡ y.batches) ⊎ RequestMayBeCommitted result
    pub slots_after : Slots
    pub told : new.kept.slots ≡ Some slots_after
    pub fits : FitsHistory i slots_after after
    pub same_wait : fits.waiting ≡ waiting
    pub honest : new.kept.is_honest ≡ true
    pub newest : IfOk result
        (λ resumed. slot_front slots_after (position_at resumed % 2) ≡ snapshot_at resumed)
    pub holds : IfOk result (λ resumed. IsSnapshotAt i after (snapshot_at resumed)
        (position_at resumed))
    pub powered : life_of i.variant y ≢ LostLife → life_of i.variant after ≢ LostLife
    pub comes : ResumeComesTo i y slots waiting after result

-- Over a platform of Basic it recovers from every history, under every key; over one of Opt under
-- every key and barrier, where what others did is known by the items that the register shows at
-- exit behind those that counted at entry, unless it asks idly.
abbrev pub HostRecovers : Variant → Meaning → HostStanding → HostStanding
    → Result Resumed HostFault → Type 0
HostRecovers Basic meaning old new result =
    (key : List ℕ) (y : History) (slots : Slots) (all others : List (List ℕ)) (asked : List Batch)
    (can : CanRecover all others asked (basic_instance meaning key) y slots old) →
    RecoversTo all others asked (basic_instance meaning key) y slots can.fits.waiting new result
HostRecovers Opt meaning old new result =
    (key barrier : List ℕ) (y : History) (slots : Slots) (all others : List (List ℕ))
    (asked : List Batch) (items more : List Item)
    (can : CanRecover all others asked (opt_instance meaning key barrier) y slots old) →
    old.standing.items ≡ Some items →
    new.standing.items ≡ Some (standing_items y.is_open items ++ more) →
    ((AsksIdly (opt_instance meaning key barrier) y slots can.fits.waiting → ⊥)
    → AreShown all others (opt_instance meaning key barrier) y more) →
    RecoversTo all others asked (opt_instance meaning key barrier) y slots can.fits.waiting new
    result
