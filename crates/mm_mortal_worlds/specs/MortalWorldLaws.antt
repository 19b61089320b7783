-- The laws of a world hold of one in which programs are killed: what is asked of it is asked of the
-- calls that were made and told by each kill.
use Rattle.std.specs.Prelude.{◌⊎◌, ℕ, List, []}
use Rattle.std.specs.List.{AllByRecursion}
use Rattle.mm_mortal_worlds.specs.Below.{Variant, Basic, Opt, IsLawful, Meaning, AnyModule, meaning_of, AreNoGuards, IsClear}
use Rattle.mm_mortal_worlds.specs.Below.{ModulePromises, Link, Handed, IsGenuineUnder, IsOneWorld, WorldFollows, IsOptWorldAtStart}
use Rattle.mm_mortal_worlds.specs.Below.{IsWorldAtStart, first_handed, World}
use Rattle.mm_mortal_worlds.specs.MortalEvidence.{HasMortalWorldEvidence, HasOptMortalWorldEvidence}
use Rattle.mm_mortal_worlds.specs.MortalWorlds.{AreMortalHonest, AreMortalRegistersTold, mortal_handed_at_end, mortal_opt_world_messages}
use Rattle.mm_mortal_worlds.specs.MortalWorlds.{mortal_world_batches, mortal_world_messages, mortal_world_values, IsMortalWorldLife}
use Rattle.mm_mortal_worlds.specs.MortalWorlds.{MortalWorldStage, WorldEnds, ended_world_life, ended_world_stages, mortal_world_replies}

-- The world in which the killed programs ended is one; and all that was handed out, by killed
-- programs too, is genuine for its history.
pub record IsMortalWorldOne (variant : Variant) (meaning : Meaning) (link : Link) (begun : Handed)
    (world : World) (stages : List MortalWorldStage)
    (f : IsMortalWorldLife variant meaning link world stages) : Type 0 where
  pub ends : WorldEnds variant meaning link world stages f
  pub one : IsOneWorld variant meaning link begun world
      (ended_world_stages variant meaning link world stages f ends)
      (ended_world_life variant meaning link world stages f ends)
  pub named : AllByRecursion (IsGenuineUnder variant meaning link one.history)
      (mortal_handed_at_end variant meaning link begun world stages f).snapshots

abbrev pub BasicMortalWorldIsOne : Type 0
BasicMortalWorldIsOne =
    (meaning : Meaning) → IsLawful meaning → (link : Link) (world : World)
    (stages : List MortalWorldStage) (f : IsMortalWorldLife Basic meaning link world stages) →
    IsWorldAtStart Basic meaning link world →
    IsClear (mortal_world_messages meaning link world stages f) →
    AreMortalHonest Basic meaning link (first_handed Basic meaning link world) world stages f →
    IsMortalWorldOne Basic meaning link (first_handed Basic meaning link world) world stages f

abbrev pub OptMortalWorldIsOne : Type 0
OptMortalWorldIsOne =
    (meaning : Meaning) → IsLawful meaning → (link : Link) (world : World)
    (stages : List MortalWorldStage) (f : IsMortalWorldLife Opt meaning link world stages) →
    IsOptWorldAtStart meaning link world → AreMortalRegistersTold stages →
    IsClear (mortal_opt_world_messages meaning link world stages f) →
    AreNoGuards link.barrier (mortal_world_values meaning link world stages f)
    (mortal_world_batches Opt meaning link world stages f) →
    AreMortalHonest Opt meaning link (first_handed Opt meaning link world) world stages f →
    IsMortalWorldOne Opt meaning link (first_handed Opt meaning link world) world stages f

-- With no premise but the start, and in Opt registers that are told where tickets are offered, it is
-- one, or one holds evidence in hand.
abbrev pub MortalWorldIsOneOrEvidence : Type 0
MortalWorldIsOneOrEvidence =
    (meaning : Meaning) → IsLawful meaning → (link : Link) (world : World)
    (stages : List MortalWorldStage) (f : IsMortalWorldLife Basic meaning link world stages) →
    IsWorldAtStart Basic meaning link world →
    IsMortalWorldOne Basic meaning link (first_handed Basic meaning link world) world stages f
    ⊎ HasMortalWorldEvidence meaning link (first_handed Basic meaning link world) world stages f

abbrev pub OptMortalWorldIsOneOrEvidence : Type 0
OptMortalWorldIsOneOrEvidence =
    (meaning : Meaning) → IsLawful meaning → (link : Link) (world : World)
    (stages : List MortalWorldStage) (f : IsMortalWorldLife Opt meaning link world stages) →
    IsOptWorldAtStart meaning link world → AreMortalRegistersTold stages →
    IsMortalWorldOne Opt meaning link (first_handed Opt meaning link world) world stages f
    ⊎ HasOptMortalWorldEvidence meaning link (first_handed Opt meaning link world) world stages f

-- What is told on all platforms, by the kills and behind them, keeps what the module promises of
-- one run.
abbrev pub MortalWorldsKeepPromises : Type 0
MortalWorldsKeepPromises =
    («module» : AnyModule) (variant : Variant) (link : Link) (world : World)
    (stages : List MortalWorldStage)
    (f : IsMortalWorldLife variant (meaning_of «module») link world stages)
    (e : WorldEnds variant (meaning_of «module») link world stages f) (requests : List (List ℕ)) →
    WorldFollows variant (meaning_of «module») link world
    (ended_world_stages variant (meaning_of «module») link world stages f e)
    (ended_world_life variant (meaning_of «module») link world stages f e) [] requests →
    ModulePromises «module» requests
    (mortal_world_replies variant (meaning_of «module») link world stages f)
