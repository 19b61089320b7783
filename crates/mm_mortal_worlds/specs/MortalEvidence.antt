-- The evidence that one holds in hand of a world with killed programs that doesn't meet its
-- premises.
use Rattle.std.specs.Prelude.{◌⊎◌, ℕ, List, [], ◌∷◌}
use Rattle.std.specs.List.{Contains}
use Rattle.mm_mortal_worlds.specs.Below.{Variant, Basic, Opt, Content, Standing, Meaning, IsRight, HasClash, Link, killed_calls, Handed}
use Rattle.mm_mortal_worlds.specs.Below.{snapshots_under, IsWorldBreach, instance_of, key_of, role_of, calls_at, first_offers, World}
use Rattle.mm_mortal_worlds.specs.MortalWorlds.{mortal_handed_after, mortal_opt_world_messages, mortal_world_batches, mortal_world_messages}
use Rattle.mm_mortal_worlds.specs.MortalWorlds.{mortal_world_values, Dies, Happens, IsMortalWorldLife, MortalWorldPart}
use Rattle.mm_mortal_worlds.specs.MortalWorlds.{MortalWorldPartLeads, MortalWorldStage, mortal_world_after}

module _ (variant : Variant) (meaning : Meaning) (link : Link) where
  -- one of these offers is right under the platform's key, and wasn't handed out under it
  pub record HasForgedOffer (handed : Handed) (old : Standing) (offers : List (List ℕ))
      : Type 0 where
    pub offer : List ℕ
    pub content : Content
    pub offered : Contains offers offer
    pub right : IsRight (instance_of variant meaning link old) offer content
    pub unknown : Contains (snapshots_under (key_of old) handed.snapshots) offer → ⊥

  -- What a part breaks is as in a world; a killed program, where its first offer is forged.
  abbrev pub IsMortalBreach : (handed : Handed) (old : Standing) (part : MortalWorldPart)
      (new : Standing) → MortalWorldPartLeads variant meaning link old part new → Type 0
  IsMortalBreach handed old (Happens part) new f =
      IsWorldBreach variant meaning link handed old part new f
  IsMortalBreach handed old (Dies p) new k =
      HasForgedOffer handed old (first_offers (calls_at (role_of old) (killed_calls k)))

  -- one of the stages breaks something
  abbrev pub HasMortalBreach : (handed : Handed) (world : World) (stages : List MortalWorldStage)
      → IsMortalWorldLife variant meaning link world stages → Type 0
  HasMortalBreach handed world [] f = ⊥
  HasMortalBreach handed world (stage ∷ stages) f =
      IsMortalBreach handed (world stage.at) stage.part stage.after f.0
      ⊎ HasMortalBreach
      (mortal_handed_after variant meaning link handed (world stage.at) stage.part stage.after f.0)
      (mortal_world_after world stage) stages f.1

-- Basic, and Opt: two messages of the world clash, or in Opt a value of others is the guard of a
-- batch that was asked; or one of its stages breaks something.
abbrev pub HasMortalWorldEvidence : (meaning : Meaning) (link : Link) (handed : Handed)
    (world : World) (stages : List MortalWorldStage)
    → IsMortalWorldLife Basic meaning link world stages → Type 0
HasMortalWorldEvidence meaning link handed world stages f =
    HasClash (instance_of Basic meaning link (world 0))
    (mortal_world_messages meaning link world stages f) [] []
    ⊎ HasMortalBreach Basic meaning link handed world stages f

abbrev pub HasOptMortalWorldEvidence : (meaning : Meaning) (link : Link) (handed : Handed)
    (world : World) (stages : List MortalWorldStage)
    → IsMortalWorldLife Opt meaning link world stages → Type 0
HasOptMortalWorldEvidence meaning link handed world stages f =
    HasClash (instance_of Opt meaning link (world 0))
    (mortal_opt_world_messages meaning link world stages f)
    (mortal_world_values meaning link world stages f)
    (mortal_world_batches Opt meaning link world stages f)
    ⊎ HasMortalBreach Opt meaning link handed world stages f
