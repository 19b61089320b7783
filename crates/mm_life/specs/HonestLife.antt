-- A life over one honest store: each program starts over what the one before it left, and nobody
-- else calls.
use Rattle.std.specs.Prelude.{◌≡◌, ◌≢◌, ◌+◌, ◌-◌, ◌≤◌, ℕ, true, false, List, [], ◌∷◌, ◌++◌, Option, None, Some, Result, Err, length, ◌⊎◌}
use Rattle.std.specs.List.{AllByRecursion}
use Rattle.mm_life.specs.Below.{Variant, Basic, Opt, Standing, IsLawful, Meaning, History, first_history, requests_of, Instance}
use Rattle.mm_life.specs.Below.{basic_instance, opt_instance, StandsFor, Batch, IsClear, AreNoGuards, IsWithin, Lost, Spoiled, life_of}
use Rattle.mm_life.specs.Below.{first_history_on, first_slots, PendingRecord, Slots, slot_front, IsWaiting, IsInHand, ServedCall}
use Rattle.mm_life.specs.Below.{SessionFault, last_bytes_in, served_calls_in, last_position, StoreStanding, AreToldOnce, FitsHistory, IsNotBeyond}
use Rattle.mm_life.specs.Below.{Refusal, RefusesAs, Store, IsSession, SessionStanding}
use Rattle.mm_model.specs.declared.refusal.Refusal.TheVariants as refusal
use Rattle.mm_recovery.specs.declared.fault.HostFault.TheVariants.{Refused}
use Rattle.mm_host.specs.declared.fault.SessionFault.TheVariants.{Host}
use Rattle.mm_life.specs.Deeds.{Calls, LosesPower}
use Rattle.mm_life.specs.Premises.{has_open_segment, life_batches, life_messages, opt_messages, others_values}
use Rattle.mm_life.specs.Stages.{LifeFollows, SessionSteps, Does, Holds, IsLife, LifePart, PartLeads, LifeStage, end_of}

-- A program's store shows what this one does, and is as honest; another deed is no call.
abbrev pub BeginsOver : StoreStanding → LifePart → Type 0
BeginsOver kept (Holds p) =
    (p.old.kept.is_honest ≡ kept.is_honest) × (p.old.kept.slots ≡ kept.slots)
BeginsOver kept (Does (Calls c)) = ⊥
BeginsOver kept (Does deed) = Unit {0}

-- the store behind a part, and behind all of a life
abbrev pub store_behind : StoreStanding → LifePart → StoreStanding
store_behind kept (Holds p) = p.new.kept
store_behind kept (Does deed) = kept

abbrev pub store_at_end : StoreStanding → List LifeStage → StoreStanding
store_at_end kept [] = kept
store_at_end kept (stage ∷ stages) = store_at_end (store_behind kept stage.part) stages

-- each part begins over the store that those before it left, the first one over this
abbrev pub IsOverOneStore : StoreStanding → List LifeStage → Type 0
IsOverOneStore kept [] = Unit {0}
IsOverOneStore kept (stage ∷ stages) =
    BeginsOver kept stage.part × IsOverOneStore (store_behind kept stage.part) stages

-- this waits in slots that are told
pub record WaitsInSlots (slots : Option Slots) (waiting : Option PendingRecord) : Type 0 where
  pub shown : Slots
  pub told : slots ≡ Some shown
  pub is_waiting : IsWaiting (slot_front shown 2) (slot_front shown 3) waiting

-- the position of the last answer that a session told; where it told none, the one before what
-- waited
abbrev pub reached_position : Option PendingRecord → List ServedCall → ℕ
reached_position None [] = 0
reached_position (Some p) [] = p.position - 1
reached_position waiting (c ∷ []) = c.answer.position
reached_position waiting (c ∷ next ∷ calls) = reached_position waiting (next ∷ calls)

-- Where the store failed, the bytes that a write of a record left aren't by chance a record of a
-- later position than it was to have.
abbrev pub LeavesNoChance : (variant : Variant) (meaning : Meaning) (old : Standing)
    (part : LifePart)
    (new : Standing) → PartLeads variant meaning old part new → Type 0
LeavesNoChance variant meaning old (Holds p) new s =
    p.result ≡ Err (Host Store) → (waiting : Option PendingRecord)
    → WaitsInSlots p.old.kept.slots waiting →
    (slots : Slots) → p.new.kept.slots ≡ Some slots →
    IsNotBeyond slots (reached_position waiting (served_calls_in waiting s.goes) + 1)
LeavesNoChance variant meaning old (Does deed) new f = Unit {0}

abbrev pub AreNoChance : (variant : Variant) (meaning : Meaning) (start : Standing)
    (stages : List LifeStage) → IsLife variant meaning start stages → Type 0
AreNoChance variant meaning start [] f = Unit {0}
AreNoChance variant meaning start (stage ∷ stages) f =
    LeavesNoChance variant meaning start stage.part stage.after f.0
    × AreNoChance variant meaning stage.after stages f.1

-- What waits is the next request of a list, or the last; and nothing where the list is empty.
abbrev pub IsNextOrLast : List (List ℕ) → Option PendingRecord → Type 0
IsNextOrLast requests None = requests ≡ []
IsNextOrLast requests (Some p) =
    (p.position ≡ length requests + 1)
    ⊎ ((p.position ≡ length requests)
    × (front : List (List ℕ)) × (front ++ p.request ∷ [] ≡ requests))

-- What is said of one instance: others' values and the requests that were asked are among these,
-- and the messages of its history in a list.
module _ (all others : List (List ℕ)) (asked : List Batch) (i : Instance) where
  -- The platform stands for a history of these requests, to which calls, others and losses of power
  -- led: each value in it that stands for no request, and counts, is among those of others.
  pub record HasHistory (standing : Standing) (requests : List (List ℕ)) : Type 0 where
    pub history : History
    pub stands : StandsFor i standing history
    pub within : IsWithin all others asked i history
    pub holds : requests_of history.batches ≡ requests

  -- A session goes on from a list of requests to another. What waits is the next request or the
  -- last; it is told first, and each line is new; and no request is behind the last position. A
  -- refusal is by a device's fault; or Full, and every position is used up; or in Opt as the
  -- history at the end is lost, and then it was lost before the session, or spoiled, and then by
  -- values of others.
  pub record GoesOnOver {old new : SessionStanding} {result : Result Unit SessionFault}
      (s : IsSession i.variant i.meaning old new result) (waiting : Option PendingRecord)
      (requests after : List (List ℕ)) : Type 0 where
    pub waits : IsNextOrLast requests waiting
    pub steps : SessionSteps i.meaning requests (served_calls_in waiting s.goes)
        (IsInHand waiting s.goes) (last_bytes_in s.goes) result after
    pub once : AreToldOnce (length requests) waiting (served_calls_in waiting s.goes)
    pub room : length after ≤ last_position
    pub entered : HasHistory old.standing requests
    pub left : HasHistory new.standing after
    pub refuses : RefusesAs result i.variant left.history
    pub powered : life_of i.variant entered.history ≢ Lost → life_of i.variant left.history ≢ Lost
    pub unspoiled : others ≡ [] → life_of i.variant left.history ≢ Spoiled

  abbrev pub PartGoesOn : (old : Standing) (part : LifePart) (new : Standing)
      → PartLeads i.variant i.meaning old part new → List (List ℕ) → List (List ℕ) → Type 0
  PartGoesOn old (Holds p) new s requests after =
      (waiting : Option PendingRecord) × WaitsInSlots p.old.kept.slots waiting
      × GoesOnOver s waiting requests after
  PartGoesOn old (Does deed) new f requests after = after ≡ requests

  -- each part of a life goes on from the requests that those before it left
  abbrev pub GoesOnFrom : (start : Standing) (stages : List LifeStage)
      → IsLife i.variant i.meaning start stages → List (List ℕ) → List (List ℕ) → Type 0
  GoesOnFrom start [] f requests after = after ≡ requests
  GoesOnFrom start (stage ∷ stages) f requests after =
      (between : List (List ℕ)) × PartGoesOn start stage.part stage.after f.0 requests between
      × GoesOnFrom stage.after stages f.1 between after

-- power is lost in Opt only where no segment is open
abbrev pub KeepsSegment : Variant → Standing → LifePart → Type 0
KeepsSegment Opt old (Does LosesPower) = has_open_segment old ≡ false
KeepsSegment variant old part = Unit {0}

abbrev pub KeepsSegments : Variant → Standing → List LifeStage → Type 0
KeepsSegments variant start [] = Unit {0}
KeepsSegments variant start (stage ∷ stages) =
    KeepsSegment variant start stage.part × KeepsSegments variant stage.after stages

-- no session is refused so
abbrev pub IsNotRefusedAs : Refusal → LifePart → Type 0
IsNotRefusedAs why (Holds p) = p.result ≢ Err (Host (Refused why))
IsNotRefusedAs why (Does deed) = Unit {0}

abbrev pub NoneIsRefusedAs : Refusal → List LifeStage → Type 0
NoneIsRefusedAs why stages = AllByRecursion (λ stage. IsNotRefusedAs why stage.part) stages

-- A life goes on over one store, from no request: there is one list that all of it follows; so what
-- a module promises of a life holds of it (`LivesKeepPromises`). No session is refused as Lost
-- where power is lost in no open segment, nor as Stale where others extended the register by
-- nothing. And at its end the platform stands for a history of this list, which the slots fit: so
-- the next session may go on from there.
pub record IsGoneOnWith (all others : List (List ℕ)) (asked : List Batch) (i : Instance)
    (kept : StoreStanding) (start : Standing) (stages : List LifeStage)
    (f : IsLife i.variant i.meaning start stages) : Type 0 where
  pub after : List (List ℕ)
  pub goes : GoesOnFrom all others asked i start stages f [] after
  pub follows : LifeFollows i.variant i.meaning start stages f [] after
  pub unlost : KeepsSegments i.variant start stages → NoneIsRefusedAs refusal.Lost stages
  pub unspoiled : others ≡ [] → NoneIsRefusedAs refusal.Stale stages
  pub history : History
  pub holds : requests_of history.batches ≡ after
  pub stands : StandsFor i (end_of start stages) history
  pub within : IsWithin all others asked i history
  pub honest : (store_at_end kept stages).is_honest ≡ true
  pub left : Slots
  pub told : (store_at_end kept stages).slots ≡ Some left
  pub fits : FitsHistory i left history

-- Basic: a life over the store of a first start is gone on with, where no two messages of its calls
-- share a digest.
abbrev pub BasicLifeGoesOn : Type 0
BasicLifeGoesOn =
    (meaning : Meaning) → IsLawful meaning → (key : List ℕ) (start : Standing)
    (kept : StoreStanding) (stages : List LifeStage) (f : IsLife Basic meaning start stages) →
    StandsFor (basic_instance meaning key) start first_history →
    kept.is_honest ≡ true → kept.slots ≡ Some (first_slots (basic_instance meaning key)) →
    IsOverOneStore kept stages →
    IsClear (life_messages (basic_instance meaning key) start stages f) →
    AreNoChance Basic meaning start stages f →
    IsGoneOnWith (life_messages (basic_instance meaning key) start stages f) []
    (life_batches (basic_instance meaning key) start stages f) (basic_instance meaning key)
    kept start stages f

-- Opt, from a register that others had extended by these values: the same, where besides the
-- messages by which the register's items went into it share no digest, as it shows them behind each
-- part, and no value of others is the guard of a request that was asked.
abbrev pub OptLifeGoesOn : Type 0
OptLifeGoesOn =
    (meaning : Meaning) → IsLawful meaning → (key barrier : List ℕ) (values : List (List ℕ))
    (start : Standing) (kept : StoreStanding) (stages : List LifeStage)
    (f : IsLife Opt meaning start stages) →
    StandsFor (opt_instance meaning key barrier) start (first_history_on values) →
    kept.is_honest ≡ true → kept.slots ≡ Some (first_slots (opt_instance meaning key barrier)) →
    IsOverOneStore kept stages →
    IsClear (opt_messages (opt_instance meaning key barrier) start stages f) →
    AreNoGuards barrier (others_values (opt_instance meaning key barrier) start stages f)
    (life_batches (opt_instance meaning key barrier) start stages f) →
    AreNoChance Opt meaning start stages f →
    IsGoneOnWith (opt_messages (opt_instance meaning key barrier) start stages f)
    (others_values (opt_instance meaning key barrier) start stages f)
    (life_batches (opt_instance meaning key barrier) start stages f)
    (opt_instance meaning key barrier) kept start stages f
