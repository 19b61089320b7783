-- A world over honest stores in which programs are killed: each kill is resumed, on whichever
-- platform the module is.
use Rattle.std.specs.Prelude.{◌≡◌, ◌⊎◌, ◌==◌, ℕ, true, List, [], ◌∷◌, Some, if◌then◌else◌}
use Rattle.mm_mortal_worlds.specs.Below.{Variant, Basic, Opt, Standing, Batch, IsLawful, Meaning, AreNoGuards, IsClear, Live, Link, Role}
use Rattle.mm_mortal_worlds.specs.Below.{StoreStanding, first_slots, KilledPart, KilledProgram, MortalLeavesNoChance, IsOptWorldAtStart}
use Rattle.mm_mortal_worlds.specs.Below.{IsWorldAtStart, first_handed, instance_of, role_of, World, HostStore, HostStores, IsOverStore}
use Rattle.mm_mortal_worlds.specs.Below.{IsWorldGoneOn, LeavesNoneByChance, LeftAs, StartsOver, store_behind_part, stores_at_start}
use Rattle.mm_mortal_worlds.specs.MortalEvidence.{HasMortalWorldEvidence, HasOptMortalWorldEvidence}
use Rattle.mm_mortal_worlds.specs.MortalWorlds.{AreMortalHonest, AreMortalRegistersTold, Dies, Happens, IsMortalWorldLife, MortalWorldPart}
use Rattle.mm_mortal_worlds.specs.MortalWorlds.{MortalWorldPartLeads, MortalWorldStage, WorldEnds, ended_world_life, ended_world_stages}
use Rattle.mm_mortal_worlds.specs.MortalWorlds.{mortal_opt_world_messages, mortal_world_after, mortal_world_batches, mortal_world_messages}
use Rattle.mm_mortal_worlds.specs.MortalWorlds.{mortal_world_values}

-- Where the module is, a program that is killed starts over what is known of the store, as any
-- other.
abbrev pub DyingStartsOver : Role → HostStore → KilledProgram → Type 0
DyingStartsOver Live store p = StartsOver store p.old.kept
DyingStartsOver role store p = Unit {0}

abbrev pub IsMortalOverStore : HostStore → Standing → MortalWorldPart → Type 0
IsMortalOverStore store old (Happens part) = IsOverStore store old part
IsMortalOverStore store old (Dies p) = DyingStartsOver (role_of old) store p

-- what is known of a store behind a kill is what the kill left
abbrev pub store_behind_mortal : HostStore → Standing → MortalWorldPart → Standing → HostStore
store_behind_mortal store old (Happens part) new = store_behind_part store old part new
store_behind_mortal store old (Dies p) new = LeftAs p.kept

abbrev pub stores_behind_mortal : HostStores → World → MortalWorldStage → HostStores
stores_behind_mortal stores world stage =
    λ at. if at == stage.at
    then store_behind_mortal (stores stage.at) (world stage.at) stage.part stage.after
    else stores at

-- each part begins over what is known of its platform's store
abbrev pub AreMortalOverStores : HostStores → World → List MortalWorldStage → Type 0
AreMortalOverStores stores world [] = Unit {0}
AreMortalOverStores stores world (stage ∷ stages) =
    IsMortalOverStore (stores stage.at) (world stage.at) stage.part
    × AreMortalOverStores (stores_behind_mortal stores world stage)
    (mortal_world_after world stage) stages

-- Where the module is and a kill was in a write of a slot, or the store failed, what that left
-- isn't by chance a record of a later position than it was to have.
module _ (variant : Variant) (meaning : Meaning) (link : Link) where
  abbrev pub DyingLeavesNoChance : Role → (old : Standing) (p : KilledProgram) (new : Standing)
      → MortalWorldPartLeads variant meaning link old (Dies p) new → Type 0
  DyingLeavesNoChance Live old p new k =
      MortalLeavesNoChance variant meaning old (KilledPart p) new k
  DyingLeavesNoChance role old p new k = Unit {0}

  abbrev pub MortalLeavesNoneByChance : (old : Standing) (part : MortalWorldPart) (new : Standing)
      → MortalWorldPartLeads variant meaning link old part new → Type 0
  MortalLeavesNoneByChance old (Happens part) new f =
      LeavesNoneByChance variant meaning link old part new f
  MortalLeavesNoneByChance old (Dies p) new k = DyingLeavesNoChance (role_of old) old p new k

  abbrev pub MortalLeaveNoChance : (world : World) (stages : List MortalWorldStage)
      → IsMortalWorldLife variant meaning link world stages → Type 0
  MortalLeaveNoChance world [] f = Unit {0}
  MortalLeaveNoChance world (stage ∷ stages) f =
      MortalLeavesNoneByChance (world stage.at) stage.part stage.after f.0
      × MortalLeaveNoChance (mortal_world_after world stage) stages f.1

-- What is said of one world, as there.
module _ (variant : Variant) (all others : List (List ℕ)) (asked : List Batch) (meaning : Meaning)
    (link : Link) where
  -- The world in which the killed programs ended is gone on with.
  pub record IsMortalWorldGoneOn (kept : StoreStanding) (world : World)
      (stages : List MortalWorldStage)
      (f : IsMortalWorldLife variant meaning link world stages) : Type 0 where
    pub ends : WorldEnds variant meaning link world stages f
    pub gone : IsWorldGoneOn variant all others asked meaning link (stores_at_start kept) world
        (ended_world_stages variant meaning link world stages f ends)
        (ended_world_life variant meaning link world stages f ends)

-- A world begins, and in Opt registers are told; it is gone on with; or it gives evidence: in its
-- variant.
abbrev pub MortalWorldBegins : Variant → Meaning → Link → World → List MortalWorldStage → Type 0
MortalWorldBegins Basic meaning link world stages = IsWorldAtStart Basic meaning link world
MortalWorldBegins Opt meaning link world stages =
    IsOptWorldAtStart meaning link world × AreMortalRegistersTold stages

abbrev pub IsMortalGoneOnFrom : (variant : Variant) (meaning : Meaning) (link : Link)
    (kept : StoreStanding) (world : World) (stages : List MortalWorldStage)
    → IsMortalWorldLife variant meaning link world stages → Type 0
IsMortalGoneOnFrom Basic meaning link kept world stages f =
    IsMortalWorldGoneOn Basic (mortal_world_messages meaning link world stages f) []
    (mortal_world_batches Basic meaning link world stages f) meaning link kept world stages f
IsMortalGoneOnFrom Opt meaning link kept world stages f =
    IsMortalWorldGoneOn Opt (mortal_opt_world_messages meaning link world stages f)
    (mortal_world_values meaning link world stages f)
    (mortal_world_batches Opt meaning link world stages f) meaning link kept world stages f

abbrev pub GivesMortalEvidence : (variant : Variant) (meaning : Meaning) (link : Link)
    (world : World) (stages : List MortalWorldStage)
    → IsMortalWorldLife variant meaning link world stages → Type 0
GivesMortalEvidence Basic meaning link world stages f =
    HasMortalWorldEvidence meaning link (first_handed Basic meaning link world) world stages f
GivesMortalEvidence Opt meaning link world stages f =
    HasOptMortalWorldEvidence meaning link (first_handed Opt meaning link world) world stages f

-- With no premise but the start, and what the stores show where the module is, it is gone on with,
-- or one holds evidence in hand.
abbrev pub MortalGoesOnOrEvidence : Variant → Type 0
MortalGoesOnOrEvidence variant =
    (meaning : Meaning) → IsLawful meaning → (link : Link) (world : World) (kept : StoreStanding)
    (stages : List MortalWorldStage) (f : IsMortalWorldLife variant meaning link world stages) →
    MortalWorldBegins variant meaning link world stages →
    kept.is_honest ≡ true →
    kept.slots ≡ Some (first_slots (instance_of variant meaning link (world 0))) →
    AreMortalOverStores (stores_at_start kept) world stages →
    MortalLeaveNoChance variant meaning link world stages f →
    IsMortalGoneOnFrom variant meaning link kept world stages f
    ⊎ GivesMortalEvidence variant meaning link world stages f

abbrev pub MortalWorldGoesOnOrEvidence : Type 0
MortalWorldGoesOnOrEvidence = MortalGoesOnOrEvidence Basic

abbrev pub OptMortalWorldGoesOnOrEvidence : Type 0
OptMortalWorldGoesOnOrEvidence = MortalGoesOnOrEvidence Opt

-- It is gone on with, under the premises of such a world.
abbrev pub BasicMortalWorldGoesOn : Type 0
BasicMortalWorldGoesOn =
    (meaning : Meaning) → IsLawful meaning → (link : Link) (world : World) (kept : StoreStanding)
    (stages : List MortalWorldStage) (f : IsMortalWorldLife Basic meaning link world stages) →
    IsWorldAtStart Basic meaning link world →
    kept.is_honest ≡ true →
    kept.slots ≡ Some (first_slots (instance_of Basic meaning link (world 0))) →
    AreMortalOverStores (stores_at_start kept) world stages →
    IsClear (mortal_world_messages meaning link world stages f) →
    AreMortalHonest Basic meaning link (first_handed Basic meaning link world) world stages f →
    MortalLeaveNoChance Basic meaning link world stages f →
    IsMortalGoneOnFrom Basic meaning link kept world stages f

abbrev pub OptMortalWorldGoesOn : Type 0
OptMortalWorldGoesOn =
    (meaning : Meaning) → IsLawful meaning → (link : Link) (world : World) (kept : StoreStanding)
    (stages : List MortalWorldStage) (f : IsMortalWorldLife Opt meaning link world stages) →
    IsOptWorldAtStart meaning link world → AreMortalRegistersTold stages →
    kept.is_honest ≡ true →
    kept.slots ≡ Some (first_slots (instance_of Opt meaning link (world 0))) →
    AreMortalOverStores (stores_at_start kept) world stages →
    IsClear (mortal_opt_world_messages meaning link world stages f) →
    AreNoGuards link.barrier (mortal_world_values meaning link world stages f)
    (mortal_world_batches Opt meaning link world stages f) →
    AreMortalHonest Opt meaning link (first_handed Opt meaning link world) world stages f →
    MortalLeaveNoChance Opt meaning link world stages f →
    IsMortalGoneOnFrom Opt meaning link kept world stages f
