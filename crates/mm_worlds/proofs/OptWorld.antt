-- Opt: a world is one.
use Rattle.std.specs.List.{AllByRecursion, Contains, flat_map}
use Rattle.std.specs.Option.{option_map_or}
use Rattle.std.specs.Prelude.{IsSome}
use Rattle.std.proofs.Common.{◌≡◌, ◌++◌, ℕ, List, [], ◌∷◌, Option, None, Some, ◌⊎◌, map, true, refl, subst}
use Rattle.mm_digest.specs.Messages.{start_message}
use Rattle.mm_digest.specs.declared.variant.Variant.TheVariants.{Opt}
use Rattle.mm_seal.specs.Snapshot.{Content}
use Rattle.mm_platform.specs.Standing.{Item, Standing, item_values}
use Rattle.mm_module.specs.Batch.{Batch}
use Rattle.mm_module.specs.Meaning.{IsLawful, Meaning}
use Rattle.mm_model.specs.Chains.{Instance}
use Rattle.mm_model.specs.History.{History, Value}
use Rattle.mm_model.specs.ListLaws.{each_left, each_right, each_self}
use Rattle.mm_model.specs.Messages.{AreMessagesIn, AreNoGuards, IsClear, place_messages}
use Rattle.mm_model.specs.Standing.{IsRight}
use Rattle.mm_call.specs.CallPremises.{foreign_items}
use Rattle.mm_call.proofs.Above.{within_items}
use Rattle.mm_outcome.proofs.Above.{said_of}
use Rattle.mm_life.specs.Deeds.{Extends, LifeCall}
use Rattle.mm_life.specs.Premises.{IsSeen, is_idle, PartsAreRefusedElsewhere, bytes_unless_idle, call_batches, closing_messages}
use Rattle.mm_life.specs.Premises.{shown_messages}
use Rattle.mm_life.specs.Stages.{Does, LifePart, part_calls}
use Rattle.mm_life.proofs.Above.{opt_first_genuine, opt_first_within, opt_life, seen_unless}
use Rattle.mm_move.specs.declared.link.Link.{Link}
use Rattle.mm_recovery.specs.FirstStart.{first_history_on}
use Rattle.mm_sides.specs.Premises.{messages_of_closing, offer_closing_messages}
use Rattle.mm_sides.specs.BothSides.{Live, Role}
use Rattle.mm_worlds.specs.OneWorld.{OptWorldIsOne, AreRegistersTold, IsOptWorldAtStart, TellsRegister, bytes_if_live}
use Rattle.mm_worlds.specs.OneWorld.{opt_messages_from, opt_messages_in, opt_world_messages, others_values_in, register_messages_in}
use Rattle.mm_worlds.specs.OneWorld.{retirement_messages, world_batches, world_values}
use Rattle.mm_worlds.specs.Premises.{Handed, instance_at, instance_of, key_of, role_of, asked_messages, calls_at, calls_in, first_handed}
use Rattle.mm_worlds.specs.Premises.{offers_to, Accepts, Invites, IsWorldLife, Lives, Retires, World, WorldPart, WorldPartLeads}
use Rattle.mm_worlds.specs.Premises.{WorldStage, world_after}
use Rattle.mm_worlds.proofs.AnyWorld.{AreAsked, IsFineStage, StageLaws, first_cells, first_order, offer_minded, one_world}
use Rattle.mm_worlds.proofs.Orders.{StandsInOrder}
use Rattle.mm_worlds.proofs.Living.{IsQuietHere, WorldLaws}
use Rattle.mm_worlds.proofs.Names.{register_on}
use Rattle.mm_worlds.proofs.Retiring.{IsOrWas}

told_items : (items : Option (List Item)) → IsSome items → (xs : List Item) × (items ≡ Some xs)
told_items None told = absurd (cc)
told_items (Some xs) told = (xs, refl)

module _ (meaning : Meaning) (lawful : IsLawful meaning) (link : Link) (all others : List (List ℕ)) (asked : List Batch)
    (clear : IsClear all) (guarded : AreNoGuards link.barrier others asked) (refuses : PartsAreRefusedElsewhere) where
  abbrev Stands : World → History → Handed → Type 0
  Stands world y handed = StandsInOrder Opt meaning link all others asked world y handed

  laws : WorldLaws Opt meaning link all others asked (IsSeen all others) (λ old calls. is_idle old calls ≡ true)
  laws = record {
    life = λ key. opt_life meaning lawful key link.barrier all others asked clear guarded;
    refuses = refuses;
    clear = clear;
    guarded = guarded;
  }

  -- what is asked of a part: its messages, the values of others, and its batches are listed
  pub record IsListed (old : Standing) (part : WorldPart) (new : Standing) (f : WorldPartLeads Opt meaning link old part new) : Type 0 where
    pub told : TellsRegister part new
    pub messages : AreMessagesIn (opt_messages_in meaning link old part new f) all
    pub values : AllByRecursion (Contains others) (others_values_in meaning link old part new f)
    pub batches : AllByRecursion (Contains asked) (call_batches (calls_in Opt meaning link old part new f))

  module _ (world : World) (y : History) (handed : Handed) (s : Stands world y handed) (at : ℕ) where
    abbrev old : Standing
    old = world at

    abbrev here : Instance
    here = instance_of Opt meaning link old

    abbrev closings : List (List ℕ) → List (List ℕ)
    closings offers = flat_map (λ bytes. offer_closing_messages here (Some bytes)) offers

    offer_listed : (offer : List ℕ) → IsOrWas (s.cells at) → AreMessagesIn (closings (offers_to (role_of old) offer)) all
        → (content : Content) → IsRight here offer content → AreMessagesIn (place_messages content.place) all
    offer_listed offer is listed content right =
        subst (λ (c : Option Content). AreMessagesIn (messages_of_closing c) all) (said_of here offer content right)
        (each_left (Contains all) (offer_closing_messages here (Some offer)) []
        (offer_minded laws world y handed s at (λ offers. AreMessagesIn (closings offers) all) offer is
        listed))

    -- what the register shows is asked of it where the module is
    seen_where : (part : LifePart) (new : Standing) (calls : Role → List LifeCall)
        → AreMessagesIn (bytes_if_live (role_of old) (bytes_unless_idle old (calls (role_of old))
        (shown_messages new.items ++ closing_messages part old.cell new.items))) all
        → AllByRecursion (Contains others) (bytes_if_live (role_of old) (bytes_unless_idle old (calls (role_of old))
        (option_map_or foreign_items new.items []))) → role_of old ≡ Live
        → IsSeen all others old part new ⊎ (is_idle old (calls Live) ≡ true)
    seen_where part new calls messages values role =
        seen_unless meaning lawful (key_of old) link.barrier all others old part new (calls Live) (is_idle old (calls Live)) refl
        (subst (λ (r : Role). AreMessagesIn (bytes_if_live r (bytes_unless_idle old (calls r)
        (shown_messages new.items ++ closing_messages part old.cell new.items))) all) role messages)
        (subst (λ (r : Role). AllByRecursion (Contains others) (bytes_if_live r (bytes_unless_idle old (calls r)
        (option_map_or foreign_items new.items [])))) role values)

    quiet_where : (new : Standing)
        → AreMessagesIn (bytes_if_live (role_of old) (bytes_unless_idle old [] (shown_messages new.items ++ []))) all
        → AllByRecursion (Contains others) (bytes_if_live (role_of old) (bytes_unless_idle old []
        (option_map_or foreign_items new.items [])))
        → IsQuietHere laws world y handed s at new
    quiet_where new messages values = λ extended. seen_where (Does (Extends extended)) new (λ role. []) messages values

    -- what is asked of a part, by kind
    module _ (part : WorldPart) (new : Standing) (f : WorldPartLeads Opt meaning link old part new) (l : IsListed old part new f) where
      abbrev own : List (List ℕ)
      own = asked_messages here (calls_in Opt meaning link old part new f)

      abbrev register : List (List ℕ)
      register = register_messages_in meaning link old part new f

      calls_listed : AreMessagesIn own all
      calls_listed = each_left (Contains all) own (register ++ retirement_messages meaning link old part) l.messages

      register_listed : AreMessagesIn register all
      register_listed =
          each_left (Contains all) register (retirement_messages meaning link old part)
          (each_right (Contains all) own (register ++ retirement_messages meaning link old part) l.messages)

      retirement_listed : AreMessagesIn (retirement_messages meaning link old part) all
      retirement_listed =
          each_right (Contains all) register (retirement_messages meaning link old part)
          (each_right (Contains all) own (register ++ retirement_messages meaning link old part) l.messages)

    fine : (part : WorldPart) (new : Standing) (f : WorldPartLeads Opt meaning link old part new) → IsListed old part new f
        → IsFineStage laws world y handed s at part new f
    fine (Lives part) new f l = (
      record { messages = calls_listed (Lives part) new f l; batches = l.batches },
      seen_where part new (λ role. calls_at role (part_calls Opt meaning old part new f)) (register_listed (Lives part) new f l)
          l.values,
    )
    fine (Invites nonce key result) new f l = quiet_where new (register_listed (Invites nonce key result) new f l) l.values
    fine (Retires nonce offer result) new f l = (
      λ is. offer_listed offer is (retirement_listed (Retires nonce offer result) new f l),
      quiet_where new (register_listed (Retires nonce offer result) new f l) l.values,
    )
    fine (Accepts ticket result) new f l =
        let t = told_items new.items l.told in (
          record {
            entries = map Value (item_values t.0);
            register = λ key. register_on (instance_at Opt meaning link key) y new t.0 t.1;
            within = λ shut.
                within_items meaning link.key link.barrier all others asked y (map Value (item_values t.0)) shut s.within;
          },
          quiet_where new (register_listed (Accepts ticket result) new f l) l.values,
        )

  pub opt_stages : StageLaws Opt meaning link all others asked (IsSeen all others) (λ old calls. is_idle old calls ≡ true) IsListed
  opt_stages = record { laws = laws; fine = fine }

  pub opt_listed : (stages : List WorldStage) (world : World) (f : IsWorldLife Opt meaning link world stages) → AreRegistersTold stages
      → AreMessagesIn (opt_messages_from meaning link world stages f) all
      → AllByRecursion (Contains others) (world_values meaning link world stages f)
      → AllByRecursion (Contains asked) (world_batches Opt meaning link world stages f)
      → AreAsked Opt meaning link IsListed world stages f
  opt_listed [] world f told messages values batches = tt
  opt_listed (stage ∷ stages) world f told messages values batches =
      let old : Standing = world stage.at in
      let later : World = world_after world stage in
      let mine : List (List ℕ) = opt_messages_in meaning link old stage.part stage.after f.0 in
      let brought : List (List ℕ) = others_values_in meaning link old stage.part stage.after f.0 in
      let calls : List Batch = call_batches (calls_in Opt meaning link old stage.part stage.after f.0) in (
        record {
          told = told.0;
          messages = each_left (Contains all) mine (opt_messages_from meaning link later stages f.1) messages;
          values = each_left (Contains others) brought (world_values meaning link later stages f.1) values;
          batches = each_left (Contains asked) calls (world_batches Opt meaning link later stages f.1) batches;
        },
        opt_listed stages later f.1 told.1 (each_right (Contains all) mine (opt_messages_from meaning link later stages f.1) messages)
            (each_right (Contains others) brought (world_values meaning link later stages f.1) values)
            (each_right (Contains asked) calls (world_batches Opt meaning link later stages f.1) batches),
      )

  -- the start
  pub opt_starts : (world : World) (start : IsOptWorldAtStart meaning link world) → Contains all (start_message Opt meaning.id)
      → Stands world (first_history_on start.values) (first_handed Opt meaning link world)
  opt_starts world start started =
      let key : List ℕ = key_of (world 0) in
      let y : History = first_history_on start.values in
      record {
        cells = first_cells Opt meaning link world key y;
        long = start.first.spells.barrier;
        going = None;
        order = first_order Opt meaning link world key y
            (record { formed = start.first.spells; own = (refl, refl, refl); told = start.first.cell }) start.first.register start.others;
        within = opt_first_within meaning lawful link.key link.barrier start.values all others asked started;
        named = (opt_first_genuine meaning lawful key link.barrier start.values, tt);
        papers = tt;
      }

pub opt_is_one : PartsAreRefusedElsewhere → OptWorldIsOne
opt_is_one refuses meaning lawful link world stages f start told clear guarded honest =
    let all : List (List ℕ) = opt_world_messages meaning link world stages f in
    let others : List (List ℕ) = world_values meaning link world stages f in
    let asked : List Batch = world_batches Opt meaning link world stages f in
    let itself = each_self [] all in
    one_world (opt_stages meaning lawful link all others asked clear guarded refuses) stages world (first_history_on start.values)
    (first_handed Opt meaning link world) f
    (opt_starts meaning lawful link all others asked clear guarded refuses world start itself.0) honest
    (opt_listed meaning lawful link all others asked clear guarded refuses stages world f told itself.1 (each_self [] others)
    (each_self [] asked)) refl
