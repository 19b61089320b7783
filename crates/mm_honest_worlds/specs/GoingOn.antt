-- What honest stores add to a world: each session goes on where the one list of requests stands.
use Rattle.std.specs.Prelude.{◌≡◌, ℕ, true, List, [], ◌∷◌, Some}
use Rattle.mm_honest_worlds.specs.Below.{Variant, Basic, Opt, Standing, Batch, IsLawful, Meaning, History, requests_of, total_of, Instance}
use Rattle.mm_honest_worlds.specs.Below.{AreNoGuards, IsClear, Link, Live, Role, Slots, StoreStanding, first_slots, FitsHistory, IsSnapshotAt}
use Rattle.mm_honest_worlds.specs.Below.{LifePart, PartGoesOn, PartLeads, AreRegistersTold, IsOptWorldAtStart, IsSomewhere, WorldFollows}
use Rattle.mm_honest_worlds.specs.Below.{opt_world_messages, world_batches, world_values, instance_of, role_of, AreHonest, IsWorldAtStart}
use Rattle.mm_honest_worlds.specs.Below.{first_handed, world_messages, IsWorldLife, Lives, World, WorldPart, WorldPartLeads, WorldStage}
use Rattle.mm_honest_worlds.specs.Below.{world_after, world_at_end}
use Rattle.mm_honest_worlds.specs.HostStores.{Arrived, HostStore, HostStores, IsOverStores, LeaveNoChance, LeftAs, Unknown, stores_at_end}
use Rattle.mm_honest_worlds.specs.HostStores.{stores_at_start}

-- An honest store that shows its slots, which fit the history.
pub record KeepsFitting (i : Instance) (y : History) (kept : StoreStanding) : Type 0 where
  pub honest : kept.is_honest ≡ true
  pub slots : Slots
  pub told : kept.slots ≡ Some slots
  pub fits : FitsHistory i slots y

-- What is known of a store fits the history: its slots do; or the acceptance gave the snapshot of
-- its last position.
abbrev pub StoreFits : Instance → History → HostStore → Type 0
StoreFits i y Unknown = Unit {0}
StoreFits i y (LeftAs kept) = KeepsFitting i y kept
StoreFits i y (Arrived accepted) =
    IsSnapshotAt i y accepted.snapshot accepted.position
    × (accepted.position ≡ total_of y.batches)

-- What is said of one world: the requests that were asked and the values of others are among these,
-- and the messages of its history in a list.
module _ (variant : Variant) (all others : List (List ℕ)) (asked : List Batch) (meaning : Meaning)
    (link : Link) where
  -- Where the module is, a part goes on from a list of requests to another, as in the life of one
  -- platform; a move leaves the list, and so does what is done elsewhere.
  abbrev pub GoesOnIfLive : (role : Role) (old : Standing) (part : LifePart) (new : Standing)
      → PartLeads variant meaning old part new → List (List ℕ) → List (List ℕ) → Type 0
  GoesOnIfLive Live old part new f requests after =
      PartGoesOn all others asked (instance_of variant meaning link old) old part new f requests
      after
  GoesOnIfLive role old part new f requests after = after ≡ requests

  abbrev pub WorldPartGoesOn : (old : Standing) (part : WorldPart) (new : Standing)
      → WorldPartLeads variant meaning link old part new → List (List ℕ) → List (List ℕ) → Type 0
  WorldPartGoesOn old (Lives part) new f requests after =
      GoesOnIfLive (role_of old) old part new f requests after
  WorldPartGoesOn old move new f requests after = after ≡ requests

  -- each part goes on from the requests that those before it left, on whatever platform
  abbrev pub WorldGoesOnFrom : (world : World) (stages : List WorldStage)
      → IsWorldLife variant meaning link world stages → List (List ℕ) → List (List ℕ) → Type 0
  WorldGoesOnFrom world [] f requests after = after ≡ requests
  WorldGoesOnFrom world (stage ∷ stages) f requests after =
      (between : List (List ℕ))
      × WorldPartGoesOn (world stage.at) stage.part stage.after f.0 requests between
      × WorldGoesOnFrom (world_after world stage) stages f.1 between after

  -- A world goes on, from no request: there is one list that all of it follows, and each session
  -- where the module is goes on where this stands. At the end the module is somewhere, at a history
  -- of this list, which what is known of the store there fits: so the next session may go on.
  pub record IsWorldGoneOn (stores : HostStores) (world : World) (stages : List WorldStage)
      (f : IsWorldLife variant meaning link world stages) : Type 0 where
    pub after : List (List ℕ)
    pub goes : WorldGoesOnFrom world stages f [] after
    pub follows : WorldFollows variant meaning link world stages f [] after
    pub history : History
    pub holds : requests_of history.batches ≡ after
    pub somewhere : IsSomewhere variant meaning link (world_at_end world stages) history
    pub fits : (at : ℕ) → role_of (world_at_end world stages at) ≡ Live
        → StoreFits (instance_of variant meaning link (world_at_end world stages at)) history
        (stores_at_end stores world stages at)

-- Basic: a world over the store of a first start, and honest ones wherever the module arrives, is
-- gone on with, where besides what is asked of every world no write that failed left by chance a
-- record of a later position.
abbrev pub BasicWorldGoesOn : Type 0
BasicWorldGoesOn =
    (meaning : Meaning) → IsLawful meaning → (link : Link) (world : World) (kept : StoreStanding)
    (stages : List WorldStage) (f : IsWorldLife Basic meaning link world stages) →
    IsWorldAtStart Basic meaning link world →
    kept.is_honest ≡ true →
    kept.slots ≡ Some (first_slots (instance_of Basic meaning link (world 0))) →
    IsOverStores (stores_at_start kept) world stages →
    IsClear (world_messages Basic meaning link world stages f) →
    AreHonest Basic meaning link (first_handed Basic meaning link world) world stages f →
    LeaveNoChance Basic meaning link world stages f →
    IsWorldGoneOn Basic (world_messages Basic meaning link world stages f) []
    (world_batches Basic meaning link world stages f) meaning link (stores_at_start kept) world
    stages f

-- Opt: the same, from a register that others had extended, where besides the messages by which the
-- register's items went into it where the module is, and those of retirements' offers, share no
-- digest, no value of others is the guard of a batch that was asked, and a platform tells its
-- register where a ticket was offered to it.
abbrev pub OptWorldGoesOn : Type 0
OptWorldGoesOn =
    (meaning : Meaning) → IsLawful meaning → (link : Link) (world : World) (kept : StoreStanding)
    (stages : List WorldStage) (f : IsWorldLife Opt meaning link world stages) →
    IsOptWorldAtStart meaning link world → AreRegistersTold stages →
    kept.is_honest ≡ true →
    kept.slots ≡ Some (first_slots (instance_of Opt meaning link (world 0))) →
    IsOverStores (stores_at_start kept) world stages →
    IsClear (opt_world_messages meaning link world stages f) →
    AreNoGuards link.barrier (world_values meaning link world stages f)
    (world_batches Opt meaning link world stages f) →
    AreHonest Opt meaning link (first_handed Opt meaning link world) world stages f →
    LeaveNoChance Opt meaning link world stages f →
    IsWorldGoneOn Opt (opt_world_messages meaning link world stages f)
    (world_values meaning link world stages f) (world_batches Opt meaning link world stages f)
    meaning link (stores_at_start kept) world stages f
