-- Basic: a world is one.
use Rattle.std.specs.List.{AllByRecursion, Contains}
use Rattle.std.proofs.Common.{◌≡◌, ℕ, List, [], ◌∷◌, None, arith, refl, inl}
use Rattle.mm_digest.specs.Messages.{start_message}
use Rattle.mm_digest.specs.declared.variant.Variant.TheVariants.{Basic}
use Rattle.mm_seal.specs.Snapshot.{variant_of}
use Rattle.mm_seal.specs.declared.snapshot.Place.{Place}
use Rattle.mm_seal.specs.declared.snapshot.Place.TheVariants.{Basic as InBasic, Opt as InOpt}
use Rattle.mm_platform.specs.Standing.{Standing}
use Rattle.mm_module.specs.Batch.{Batch}
use Rattle.mm_module.specs.Meaning.{IsLawful, Meaning}
use Rattle.mm_model.specs.History.{History, first_history}
use Rattle.mm_model.specs.ListLaws.{each_left, each_right, each_self}
use Rattle.mm_model.specs.Messages.{AreMessagesIn, IsClear, place_messages}
use Rattle.mm_life.specs.Premises.{PartsAreRefusedElsewhere, call_batches}
use Rattle.mm_life.proofs.Above.{AreListed, basic_life, first_genuine, first_within}
use Rattle.mm_move.specs.declared.link.Link.{Link}
use Rattle.mm_move.proofs.Above.{length-zero_bytes}
use Rattle.mm_worlds.specs.OneWorld.{BasicWorldIsOne, world_batches}
use Rattle.mm_worlds.specs.Premises.{messages_from, world_messages, Handed, instance_of, key_of, IsWorldAtStart, asked_messages, calls_in}
use Rattle.mm_worlds.specs.Premises.{first_handed, Accepts, Invites, IsWorldLife, Lives, Retires, World, WorldPart, WorldPartLeads}
use Rattle.mm_worlds.specs.Premises.{WorldStage, world_after}
use Rattle.mm_worlds.proofs.AnyWorld.{AreAsked, IsFineStage, StageLaws, first_cells, first_order, one_world}
use Rattle.mm_worlds.proofs.Orders.{StandsInOrder}
use Rattle.mm_worlds.proofs.Living.{WorldLaws}

module _ (meaning : Meaning) (lawful : IsLawful meaning) (link : Link) (all : List (List ℕ)) (asked : List Batch)
    (clear : IsClear all) (refuses : PartsAreRefusedElsewhere) where
  abbrev Stands : World → History → Handed → Type 0
  Stands world y handed = StandsInOrder Basic meaning link all [] asked world y handed

  -- what is asked of a part: its messages and its batches are listed
  abbrev pub IsListed : (old : Standing) (part : WorldPart) (new : Standing) → WorldPartLeads Basic meaning link old part new → Type 0
  IsListed old part new f = AreListed all asked (instance_of Basic meaning link old) (calls_in Basic meaning link old part new f)

  laws : WorldLaws Basic meaning link all [] asked (λ old part new. Unit {0}) (λ old calls. ⊥)
  laws = record {
    life = λ key. basic_life meaning lawful key all asked clear;
    refuses = refuses;
    clear = clear;
    guarded = λ d b among batches. absurd (omega (arith, among.1));
  }

  -- a place of Basic closes no segment
  none_listed : (place : Place) → variant_of place ≡ Basic → AreMessagesIn (place_messages place) all
  none_listed (InBasic s) e = tt
  none_listed (InOpt a x) e = absurd (cc)

  fine : (world : World) (y : History) (handed : Handed) (s : Stands world y handed) (at : ℕ) (part : WorldPart) (new : Standing)
      (f : WorldPartLeads Basic meaning link (world at) part new) → IsListed (world at) part new f
      → IsFineStage laws world y handed s at part new f
  fine world y handed s at (Lives part) new f listed = (listed, λ role. inl tt)
  fine world y handed s at (Invites nonce key result) new f listed = λ values role. inl tt
  fine world y handed s at (Retires nonce offer result) new f listed =
      (λ is content right. none_listed content.place right.variant, λ values role. inl tt)
  fine world y handed s at (Accepts ticket result) new f listed =
      (record { entries = y.items; register = λ key. tt; within = λ shut. s.within }, λ values role. inl tt)

  pub basic_stages : StageLaws Basic meaning link all [] asked (λ old part new. Unit {0}) (λ old calls. ⊥) IsListed
  basic_stages = record { laws = laws; fine = fine }

  pub basic_listed : (stages : List WorldStage) (world : World) (f : IsWorldLife Basic meaning link world stages)
      → AreMessagesIn (messages_from Basic meaning link world stages f) all
      → AllByRecursion (Contains asked) (world_batches Basic meaning link world stages f)
      → AreAsked Basic meaning link IsListed world stages f
  basic_listed [] world f messages batches = tt
  basic_listed (stage ∷ stages) world f messages batches =
      let calls = calls_in Basic meaning link (world stage.at) stage.part stage.after f.0 in
      let mine : List (List ℕ) = asked_messages (instance_of Basic meaning link (world stage.at)) calls in (
        record {
          messages = each_left (Contains all) mine (messages_from Basic meaning link (world_after world stage) stages f.1) messages;
          batches = each_left (Contains asked) (call_batches calls) (world_batches Basic meaning link (world_after world stage) stages f.1)
              batches;
        },
        basic_listed stages (world_after world stage) f.1
            (each_right (Contains all) mine (messages_from Basic meaning link (world_after world stage) stages f.1) messages)
            (each_right (Contains asked) (call_batches calls) (world_batches Basic meaning link (world_after world stage) stages f.1)
            batches),
      )

  -- the start
  pub basic_starts : (world : World) → IsWorldAtStart Basic meaning link world → Contains all (start_message Basic meaning.id)
      → Stands world first_history (first_handed Basic meaning link world)
  basic_starts world start started =
      let key : List ℕ = key_of (world 0) in
      record {
        cells = first_cells Basic meaning link world key first_history;
        long = length-zero_bytes;
        going = None;
        order = first_order Basic meaning link world key first_history
            (record { formed = start.first.spells; own = (refl, refl, refl); told = start.first.cell }) tt start.others;
        within = first_within meaning lawful link.key all asked started;
        named = (first_genuine meaning lawful key, tt);
        papers = tt;
      }

pub basic_is_one : PartsAreRefusedElsewhere → BasicWorldIsOne
basic_is_one refuses meaning lawful link world stages f start clear honest =
    let all : List (List ℕ) = world_messages Basic meaning link world stages f in
    let asked : List Batch = world_batches Basic meaning link world stages f in
    let itself = each_self [] all in
    one_world (basic_stages meaning lawful link all asked clear refuses) stages world first_history (first_handed Basic meaning link world)
    f (basic_starts meaning lawful link all asked clear refuses world start itself.0) honest
    (basic_listed meaning lawful link all asked clear refuses stages world f itself.1 (each_self [] asked)) refl
