-- A world of platforms on which programs are killed, each at whatever moment. It is a world in
-- which each of them ended there. With it: what is asked of a world in which programs are killed.
use Rattle.std.specs.List.{AllByRecursion}
use Rattle.std.specs.Option.{option_map_or}
use Rattle.std.specs.Prelude.{◌==◌, ℕ, List, [], ◌∷◌, ◌++◌, if◌then◌else◌}
use Rattle.mm_mortal_worlds.specs.Below.{calls_at, calls_in, first_offers, nonces_in, snapshots_in, tickets_in, World}
use Rattle.mm_mortal_worlds.specs.Below.{Variant, Standing, IsLawful, Meaning, Reply, Link, host_standing, told_replies, session_on}
use Rattle.mm_mortal_worlds.specs.Below.{IsKilledSession, KilledPart, KilledProgram, PartEnds, world_part_replies, IsWorldLife, Lives}
use Rattle.mm_mortal_worlds.specs.Below.{WorldPart, WorldPartLeads, WorldStage, start_message, Basic, Opt, Batch, foreign_items, LifeCall}
use Rattle.mm_mortal_worlds.specs.Below.{IsUntagged, bytes_unless_idle, call_batches, shown_messages, snapshots_of, killed_calls, Handed}
use Rattle.mm_mortal_worlds.specs.Below.{KeyedSnapshot, keyed_snapshots, snapshots_under, TellsRegister, bytes_if_live, opt_messages_in}
use Rattle.mm_mortal_worlds.specs.Below.{others_values_in, instance_of, key_of, role_of, IsHonest, asked_messages}

-- on a platform a part of a world happens, as there; or a program is killed
pub data MortalWorldPart : Type 0 where
  Happens : WorldPart → MortalWorldPart
  Dies : KilledProgram → MortalWorldPart

-- the platform with this number, what happens there, and what stands there behind it
pub record MortalWorldStage : Type 0 where
  pub at : ℕ
  pub part : MortalWorldPart
  pub after : Standing

-- the world behind a stage
abbrev pub mortal_world_after : World → MortalWorldStage → World
mortal_world_after world stage = λ at. if at == stage.at then stage.after else world at

-- the tickets and nonces that a part hands out
abbrev pub mortal_tickets_in : MortalWorldPart → List (List ℕ)
mortal_tickets_in (Happens part) = tickets_in part
mortal_tickets_in (Dies p) = []

abbrev pub mortal_nonces_in : Standing → MortalWorldPart → Standing → List (List ℕ)
mortal_nonces_in old (Happens part) new = nonces_in old part new
mortal_nonces_in old (Dies p) new = []

module _ (variant : Variant) (meaning : Meaning) (link : Link) where
  abbrev pub MortalWorldPartLeads : Standing → MortalWorldPart → Standing → Type 0
  MortalWorldPartLeads old (Happens part) new = WorldPartLeads variant meaning link old part new
  MortalWorldPartLeads old (Dies p) new =
      IsKilledSession variant meaning (session_on old p.old) (host_standing new p.kept) p.received

  -- Each of these stages begins with what the ones before it left on its platform.
  abbrev pub IsMortalWorldLife : World → List MortalWorldStage → Type 0
  IsMortalWorldLife world [] = Unit {0}
  IsMortalWorldLife world (stage ∷ stages) =
      MortalWorldPartLeads (world stage.at) stage.part stage.after
      × IsMortalWorldLife (mortal_world_after world stage) stages

  -- what is told in a part, by a kill what was told before it; and on all platforms together
  abbrev pub mortal_world_part_replies : (old : Standing) (part : MortalWorldPart) (new : Standing)
      → MortalWorldPartLeads old part new → List Reply
  mortal_world_part_replies old (Happens part) new f =
      world_part_replies variant meaning link old part new f
  mortal_world_part_replies old (Dies p) new k = told_replies k.moment.told

  abbrev pub mortal_world_replies : (world : World) (stages : List MortalWorldStage)
      → IsMortalWorldLife world stages → List Reply
  mortal_world_replies world [] f = []
  mortal_world_replies world (stage ∷ stages) f =
      mortal_world_part_replies (world stage.at) stage.part stage.after f.0
      ++ mortal_world_replies (mortal_world_after world stage) stages f.1

  -- A part of a world is what it is; a killed program ends as in a life: it is one that ended by a
  -- fault, from the same objects, and made and told the same.
  abbrev pub WorldPartEnds : (old : Standing) (part : MortalWorldPart) (new : Standing)
      → MortalWorldPartLeads old part new → Type 0
  WorldPartEnds old (Happens part) new f = Unit {0}
  WorldPartEnds old (Dies p) new k = PartEnds variant meaning old (KilledPart p) new k

  abbrev pub WorldEnds : (world : World) (stages : List MortalWorldStage)
      → IsMortalWorldLife world stages → Type 0
  WorldEnds world [] f = Unit {0}
  WorldEnds world (stage ∷ stages) f =
      WorldPartEnds (world stage.at) stage.part stage.after f.0
      × WorldEnds (mortal_world_after world stage) stages f.1

  -- the part in which it ended so
  abbrev pub ended_part : (old : Standing) (part : MortalWorldPart) (new : Standing)
      (f : MortalWorldPartLeads old part new) → WorldPartEnds old part new f → WorldPart
  ended_part old (Happens part) new f e = part
  ended_part old (Dies p) new k e = Lives e.ended

  abbrev pub ended_leads : (old : Standing) (part : MortalWorldPart) (new : Standing)
      (f : MortalWorldPartLeads old part new) (e : WorldPartEnds old part new f)
      → WorldPartLeads variant meaning link old (ended_part old part new f e) new
  ended_leads old (Happens part) new f e = f
  ended_leads old (Dies p) new k e = e.leads

  -- the world in which each part ended so, with the same standings stage by stage
  abbrev pub ended_world_stages : (world : World) (stages : List MortalWorldStage)
      (f : IsMortalWorldLife world stages) → WorldEnds world stages f → List WorldStage
  ended_world_stages world [] f e = []
  ended_world_stages world (stage ∷ stages) f e =
      record {
        at = stage.at;
        part = ended_part (world stage.at) stage.part stage.after f.0 e.0;
        after = stage.after;
      }
      ∷ ended_world_stages (mortal_world_after world stage) stages f.1 e.1

  abbrev pub ended_world_life : (world : World) (stages : List MortalWorldStage)
      (f : IsMortalWorldLife world stages) (e : WorldEnds world stages f)
      → IsWorldLife variant meaning link world (ended_world_stages world stages f e)
  ended_world_life world [] f e = tt
  ended_world_life world (stage ∷ stages) f e = (
    ended_leads (world stage.at) stage.part stage.after f.0 e.0,
    ended_world_life (mortal_world_after world stage) stages f.1 e.1,
  )

  -- What is asked of a world in which programs are killed: of its parts what is asked there, and of
  -- a killed program what it had made and offered by the kill.

  -- the calls of a part that were made where the module is, told or not
  abbrev pub mortal_calls_in : (old : Standing) (part : MortalWorldPart) (new : Standing)
      → MortalWorldPartLeads old part new → List LifeCall
  mortal_calls_in old (Happens part) new f = calls_in variant meaning link old part new f
  mortal_calls_in old (Dies p) new k = calls_at (role_of old) (killed_calls k)

  -- the batches that are asked where the module is
  abbrev pub mortal_world_batches : (world : World) (stages : List MortalWorldStage)
      → IsMortalWorldLife world stages → List Batch
  mortal_world_batches world [] f = []
  mortal_world_batches world (stage ∷ stages) f =
      call_batches (mortal_calls_in (world stage.at) stage.part stage.after f.0)
      ++ mortal_world_batches (mortal_world_after world stage) stages f.1

  -- what else a part hands out, and what stands handed out behind it
  abbrev pub mortal_snapshots_in : (old : Standing) (part : MortalWorldPart) (new : Standing)
      → MortalWorldPartLeads old part new → List KeyedSnapshot
  mortal_snapshots_in old (Happens part) new f = snapshots_in variant meaning link old part new f
  mortal_snapshots_in old (Dies p) new k =
      keyed_snapshots (key_of old) (snapshots_of (killed_calls k))

  abbrev pub mortal_handed_after : (handed : Handed) (old : Standing) (part : MortalWorldPart)
      (new : Standing) → MortalWorldPartLeads old part new → Handed
  mortal_handed_after handed old part new f = record {
    snapshots = handed.snapshots ++ mortal_snapshots_in old part new f;
    tickets = handed.tickets ++ mortal_tickets_in part;
    nonces = handed.nonces ++ mortal_nonces_in old part new;
  }

  abbrev pub mortal_handed_at_end : (handed : Handed) (world : World)
      (stages : List MortalWorldStage) → IsMortalWorldLife world stages → Handed
  mortal_handed_at_end handed world [] f = handed
  mortal_handed_at_end handed world (stage ∷ stages) f =
      mortal_handed_at_end (mortal_handed_after handed (world stage.at) stage.part stage.after f.0)
      (mortal_world_after world stage) stages f.1

  -- A part is honest as in a world; a killed program, where what it offered first, where it is
  -- right under the platform's key, was handed out before under that key.
  abbrev pub IsMortalHonest : (handed : Handed) (old : Standing) (part : MortalWorldPart)
      (new : Standing) → MortalWorldPartLeads old part new → Type 0
  IsMortalHonest handed old (Happens part) new f =
      IsHonest variant meaning link handed old part new f
  IsMortalHonest handed old (Dies p) new k =
      AllByRecursion
      (IsUntagged (instance_of variant meaning link old)
      (snapshots_under (key_of old) handed.snapshots))
      (first_offers (calls_at (role_of old) (killed_calls k)))

  abbrev pub AreMortalHonest : (handed : Handed) (world : World) (stages : List MortalWorldStage)
      → IsMortalWorldLife world stages → Type 0
  AreMortalHonest handed world [] f = Unit {0}
  AreMortalHonest handed world (stage ∷ stages) f =
      IsMortalHonest handed (world stage.at) stage.part stage.after f.0
      × AreMortalHonest (mortal_handed_after handed (world stage.at) stage.part stage.after f.0)
      (mortal_world_after world stage) stages f.1

-- Each world with killed programs is one in which they ended.
abbrev pub MortalWorldsEnd : Type 0
MortalWorldsEnd =
    (variant : Variant) (meaning : Meaning) → IsLawful meaning → (link : Link) (world : World)
    (stages : List MortalWorldStage) (f : IsMortalWorldLife variant meaning link world stages) →
    WorldEnds variant meaning link world stages f

module _ (meaning : Meaning) (link : Link) where
  -- Basic: the messages of a world: the start message, and those of its calls
  abbrev pub mortal_messages_from : (world : World) (stages : List MortalWorldStage)
      → IsMortalWorldLife Basic meaning link world stages → List (List ℕ)
  mortal_messages_from world [] f = []
  mortal_messages_from world (stage ∷ stages) f =
      asked_messages (instance_of Basic meaning link (world stage.at))
      (mortal_calls_in Basic meaning link (world stage.at) stage.part stage.after f.0)
      ++ mortal_messages_from (mortal_world_after world stage) stages f.1

  abbrev pub mortal_world_messages : (world : World) (stages : List MortalWorldStage)
      → IsMortalWorldLife Basic meaning link world stages → List (List ℕ)
  mortal_world_messages world stages f =
      start_message Basic meaning.id ∷ mortal_messages_from world stages f

  -- Opt: of a part as there; of a killed program the messages of its calls, and where the module
  -- is, unless it was idle, those by which the register's items went into it, as it shows them
  -- behind the kill
  abbrev pub mortal_opt_messages_in : (old : Standing) (part : MortalWorldPart) (new : Standing)
      → MortalWorldPartLeads Opt meaning link old part new → List (List ℕ)
  mortal_opt_messages_in old (Happens part) new f = opt_messages_in meaning link old part new f
  mortal_opt_messages_in old (Dies p) new k =
      (let calls = calls_at (role_of old) (killed_calls k) in
      asked_messages (instance_of Opt meaning link old) calls
      ++ bytes_if_live (role_of old) (bytes_unless_idle old calls (shown_messages new.items)))

  -- and the values by which others extended it
  abbrev pub mortal_values_in : (old : Standing) (part : MortalWorldPart) (new : Standing)
      → MortalWorldPartLeads Opt meaning link old part new → List (List ℕ)
  mortal_values_in old (Happens part) new f = others_values_in meaning link old part new f
  mortal_values_in old (Dies p) new k =
      bytes_if_live (role_of old)
      (bytes_unless_idle old (calls_at (role_of old) (killed_calls k))
      (option_map_or foreign_items new.items []))

  abbrev pub mortal_opt_messages_from : (world : World) (stages : List MortalWorldStage)
      → IsMortalWorldLife Opt meaning link world stages → List (List ℕ)
  mortal_opt_messages_from world [] f = []
  mortal_opt_messages_from world (stage ∷ stages) f =
      mortal_opt_messages_in (world stage.at) stage.part stage.after f.0
      ++ mortal_opt_messages_from (mortal_world_after world stage) stages f.1

  abbrev pub mortal_opt_world_messages : (world : World) (stages : List MortalWorldStage)
      → IsMortalWorldLife Opt meaning link world stages → List (List ℕ)
  mortal_opt_world_messages world stages f =
      start_message Opt meaning.id ∷ mortal_opt_messages_from world stages f

  abbrev pub mortal_world_values : (world : World) (stages : List MortalWorldStage)
      → IsMortalWorldLife Opt meaning link world stages → List (List ℕ)
  mortal_world_values world [] f = []
  mortal_world_values world (stage ∷ stages) f =
      mortal_values_in (world stage.at) stage.part stage.after f.0
      ++ mortal_world_values (mortal_world_after world stage) stages f.1

-- a platform tells its register where a ticket was offered to it, as there
abbrev pub MortalTellsRegister : MortalWorldPart → Standing → Type 0
MortalTellsRegister (Happens part) new = TellsRegister part new
MortalTellsRegister (Dies p) new = Unit {0}

abbrev pub AreMortalRegistersTold : List MortalWorldStage → Type 0
AreMortalRegistersTold stages =
    AllByRecursion (λ stage. MortalTellsRegister stage.part stage.after) stages
