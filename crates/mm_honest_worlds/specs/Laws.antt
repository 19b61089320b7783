-- A world over honest stores goes on, or one holds evidence in hand.
use Rattle.std.specs.Prelude.{◌≡◌, ◌⊎◌, true, List, [], Some}
use Rattle.mm_honest_worlds.specs.Below.{Variant, Basic, Opt, IsLawful, Meaning, Link, StoreStanding, first_slots, AreRegistersTold}
use Rattle.mm_honest_worlds.specs.Below.{HasOptWorldEvidence, HasWorldEvidence, IsOptWorldAtStart, opt_world_messages, world_batches}
use Rattle.mm_honest_worlds.specs.Below.{world_values, instance_of, IsWorldAtStart, first_handed, world_messages, IsWorldLife, World, WorldStage}
use Rattle.mm_honest_worlds.specs.GoingOn.{IsWorldGoneOn}
use Rattle.mm_honest_worlds.specs.HostStores.{IsOverStores, LeaveNoChance, stores_at_start}

-- A world begins; and in Opt a platform tells its register where a ticket was offered to it.
abbrev pub WorldBegins : Variant → Meaning → Link → World → List WorldStage → Type 0
WorldBegins Basic meaning link world stages = IsWorldAtStart Basic meaning link world
WorldBegins Opt meaning link world stages =
    IsOptWorldAtStart meaning link world × AreRegistersTold stages

-- the world that begins over this store is gone on with
abbrev pub IsGoneOnFrom : (variant : Variant) (meaning : Meaning) (link : Link)
    (kept : StoreStanding) (world : World) (stages : List WorldStage)
    → IsWorldLife variant meaning link world stages → Type 0
IsGoneOnFrom Basic meaning link kept world stages f =
    IsWorldGoneOn Basic (world_messages Basic meaning link world stages f) []
    (world_batches Basic meaning link world stages f) meaning link (stores_at_start kept) world
    stages f
IsGoneOnFrom Opt meaning link kept world stages f =
    IsWorldGoneOn Opt (opt_world_messages meaning link world stages f)
    (world_values meaning link world stages f) (world_batches Opt meaning link world stages f)
    meaning link (stores_at_start kept) world stages f

-- it gives the evidence of its variant
abbrev pub GivesEvidence : (variant : Variant) (meaning : Meaning) (link : Link) (world : World)
    (stages : List WorldStage) → IsWorldLife variant meaning link world stages → Type 0
GivesEvidence Basic meaning link world stages f =
    HasWorldEvidence Basic meaning link (first_handed Basic meaning link world) world stages f
GivesEvidence Opt meaning link world stages f =
    HasOptWorldEvidence meaning link (first_handed Opt meaning link world) world stages f

-- With no premise but the start, and what the stores show where the module is, it is gone on with,
-- or one holds evidence in hand.
abbrev pub GoesOnOrEvidence : Variant → Type 0
GoesOnOrEvidence variant =
    (meaning : Meaning) → IsLawful meaning → (link : Link) (world : World) (kept : StoreStanding)
    (stages : List WorldStage) (f : IsWorldLife variant meaning link world stages) →
    WorldBegins variant meaning link world stages →
    kept.is_honest ≡ true →
    kept.slots ≡ Some (first_slots (instance_of variant meaning link (world 0))) →
    IsOverStores (stores_at_start kept) world stages →
    LeaveNoChance variant meaning link world stages f →
    IsGoneOnFrom variant meaning link kept world stages f
    ⊎ GivesEvidence variant meaning link world stages f

abbrev pub WorldGoesOnOrEvidence : Type 0
WorldGoesOnOrEvidence = GoesOnOrEvidence Basic

-- in Opt where besides registers are told
abbrev pub OptWorldGoesOnOrEvidence : Type 0
OptWorldGoesOnOrEvidence = GoesOnOrEvidence Opt
