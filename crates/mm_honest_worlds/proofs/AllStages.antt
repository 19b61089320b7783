-- A world over honest stores, one stage after another, in either variant; so it goes on, or gives evidence.
use Rattle.std.specs.Prelude.{◌==◌, if◌then◌else◌}
use Rattle.std.proofs.Common.{◌≡◌, ℕ, Bool, true, false, List, [], ◌∷◌, Some, refl, sym, subst, inl, inr}
use Rattle.mm_digest.specs.declared.variant.Variant.{Variant}
use Rattle.mm_digest.specs.declared.variant.Variant.TheVariants.{Basic, Opt}
use Rattle.mm_platform.specs.Standing.{Standing}
use Rattle.mm_module.specs.Batch.{Batch}
use Rattle.mm_module.specs.Meaning.{Meaning}
use Rattle.mm_model.specs.History.{History, first_history, requests_of}
use Rattle.mm_model.specs.ListLaws.{each_self}
use Rattle.mm_evidence.proofs.Above.{clash_or}
use Rattle.mm_life.specs.Deeds.{LifeCall}
use Rattle.mm_life.specs.Premises.{PartsAreRefusedElsewhere}
use Rattle.mm_life.specs.Stages.{LifePart}
use Rattle.mm_move.specs.declared.link.Link.{Link}
use Rattle.mm_recovery.specs.FirstStart.{first_history_on, first_slots}
use Rattle.mm_recovery.specs.HostStanding.{FitsHistory}
use Rattle.mm_recovery.proofs.Above.{is_first}
use Rattle.mm_store.specs.StoreStanding.{StoreStanding}
use Rattle.mm_worlds.specs.OneWorld.{IsSomewhere, WorldFollows, lives, opt_world_messages, travels, world_batches, world_values}
use Rattle.mm_worlds.specs.Premises.{Handed, instance_of, key_of, AreHonest, first_handed, handed_after, handed_at_end}
use Rattle.mm_worlds.specs.Premises.{IsWorldLife, World, WorldPart, WorldPartLeads, WorldStage, world_after, world_at_end, world_messages}
use Rattle.mm_worlds.proofs.Above.{AreAsked, StageLaws, StandsInOrder, all_or, basic_listed, basic_stages, basic_starts, opt_listed}
use Rattle.mm_worlds.proofs.Above.{opt_stages, opt_starts, same_number, somewhere}
use Rattle.mm_honest_worlds.specs.GoingOn.{BasicWorldGoesOn, IsWorldGoneOn, OptWorldGoesOn, StoreFits, WorldGoesOnFrom}
use Rattle.mm_honest_worlds.specs.HostStores.{HostStores, IsOverStores, LeaveNoChance, LeftAs, Unknown, stores_after}
use Rattle.mm_honest_worlds.specs.HostStores.{stores_at_end, stores_at_start}
use Rattle.mm_honest_worlds.specs.Laws.{OptWorldGoesOnOrEvidence}
use Rattle.mm_honest_worlds.proofs.Arriving.{held_by, is_here}
use Rattle.mm_honest_worlds.proofs.GoingOn.{stepped}
use Rattle.mm_honest_worlds.proofs.Keeping.{Keeps}

module _ {variant : Variant} {meaning : Meaning} {link : Link} {all others : List (List ℕ)} {asked : List Batch}
    {IsSeen : Standing → LifePart → Standing → Type 0} {IsStill : Standing → List LifeCall → Type 0}
    {IsAsked : (old : Standing) (part : WorldPart) (new : Standing) → WorldPartLeads variant meaning link old part new → Type 0}
    (each : StageLaws variant meaning link all others asked IsSeen IsStill IsAsked) where
  abbrev Stands : World → History → Handed → Type 0
  Stands world y handed = StandsInOrder variant meaning link all others asked world y handed

  -- all stages, from where the world stands at one history, and what is known of the stores fits another
  record GoesTo (world : World) (z : History) (handed : Handed) (stores : HostStores) (stages : List WorldStage)
      (f : IsWorldLife variant meaning link world stages) : Type 0 where
    after : History
    stands : Stands (world_at_end world stages) after (handed_at_end variant meaning link handed world stages f)
    kept : History
    keeps : Keeps each.laws (world_at_end world stages) after kept (stores_at_end stores world stages)
    follows : WorldFollows variant meaning link world stages f (requests_of z.batches) (requests_of kept.batches)
    goes : WorldGoesOnFrom variant all others asked meaning link world stages f (requests_of z.batches) (requests_of kept.batches)

  goes_to : (stages : List WorldStage) (world : World) (y z : History) (handed : Handed) (stores : HostStores)
      (f : IsWorldLife variant meaning link world stages) → Stands world y handed → Keeps each.laws world y z stores
      → IsOverStores stores world stages → LeaveNoChance variant meaning link world stages f
      → AreHonest variant meaning link handed world stages f → AreAsked variant meaning link IsAsked world stages f
      → GoesTo world z handed stores stages f
  goes_to [] world y z handed stores f s keeps over chance honest asks =
      record { after = y; stands = s; kept = z; keeps = keeps; follows = refl; goes = refl }
  goes_to (stage ∷ stages) world y z handed stores f s keeps over chance honest asks =
      let p = stepped each.laws world y handed s z stores keeps stage.at stage.part stage.after f.0 over.0 chance.0 honest.0
      (each.fine world y handed s stage.at stage.part stage.after f.0 asks.0) in
      let r = goes_to stages (world_after world stage) p.after p.kept
      (handed_after variant meaning link handed (world stage.at) stage.part stage.after f.0) (stores_after stores world stage) f.1 p.stands
      p.keeps_then over.1 chance.1 honest.1 asks.1 in
      record {
        after = r.after;
        stands = r.stands;
        kept = r.kept;
        keeps = r.keeps;
        follows = (requests_of p.kept.batches, p.steps, r.follows);
        goes = (requests_of p.kept.batches, p.goes, r.goes);
      }

  -- the module is where it is, at the other history
  somewhere_kept : (world : World) (y z : History) (stores : HostStores) → Keeps each.laws world y z stores
      → IsSomewhere variant meaning link world y → IsSomewhere variant meaning link world z
  somewhere_kept world y z stores keeps (lives at stands others) =
      lives at (keeps.there at (held_by variant meaning link (key_of (world at)) (world at) y stands).0).stands others
  somewhere_kept world y z stores keeps (travels none) = travels none

  -- the start: what is known of the one store fits the first history
  first_keeps : (world : World) (y : History) (handed : Handed) → Stands world y handed → (kept : StoreStanding) → kept.is_honest ≡ true
      → kept.slots ≡ Some (first_slots (instance_of variant meaning link (world 0)))
      → FitsHistory (instance_of variant meaning link (world 0)) (first_slots (instance_of variant meaning link (world 0))) y
      → Keeps each.laws world y y (stores_at_start kept)
  first_keeps world y handed s kept honest told fits = record {
    within = s.within;
    there = λ at live. record {
      stands = (is_here each.laws world y handed s at live).stands;
      fits = by_number at (at == 0) refl;
    };
    away = λ none. refl;
  }
    where
      first : StoreFits (instance_of variant meaning link (world 0)) y (LeftAs kept)
      first = record { honest = honest; slots = first_slots (instance_of variant meaning link (world 0)); told = told; fits = fits }

      by_number : (at : ℕ) (b : Bool) → (at == 0) ≡ b
          → StoreFits (instance_of variant meaning link (world at)) y (if b then LeftAs kept else Unknown)
      by_number at true e =
          subst (λ (n : ℕ). StoreFits (instance_of variant meaning link (world n)) y (LeftAs kept)) (sym (same_number at 0 e)) first
      by_number at false e = tt

  gone_on : (stages : List WorldStage) (world : World) (y : History) (handed : Handed) (kept : StoreStanding)
      (f : IsWorldLife variant meaning link world stages) → Stands world y handed → kept.is_honest ≡ true
      → kept.slots ≡ Some (first_slots (instance_of variant meaning link (world 0)))
      → FitsHistory (instance_of variant meaning link (world 0)) (first_slots (instance_of variant meaning link (world 0))) y
      → IsOverStores (stores_at_start kept) world stages → LeaveNoChance variant meaning link world stages f
      → AreHonest variant meaning link handed world stages f → AreAsked variant meaning link IsAsked world stages f
      → requests_of y.batches ≡ []
      → IsWorldGoneOn variant all others asked meaning link (stores_at_start kept) world stages f
  gone_on stages world y handed kept f s honest told fits over chance fair asks none =
      let g = goes_to stages world y y handed (stores_at_start kept) f s (first_keeps world y handed s kept honest told fits) over chance
      fair asks in
      record {
        after = requests_of g.kept.batches;
        goes = subst (λ (requests : List (List ℕ)). WorldGoesOnFrom variant all others asked meaning link world stages f requests
            (requests_of g.kept.batches)) none g.goes;
        follows = subst (λ (requests : List (List ℕ)). WorldFollows variant meaning link world stages f requests
            (requests_of g.kept.batches)) none g.follows;
        history = g.kept;
        holds = refl;
        somewhere = somewhere_kept (world_at_end world stages) g.after g.kept (stores_at_end (stores_at_start kept) world stages) g.keeps
            (somewhere each.laws (world_at_end world stages) g.after (handed_at_end variant meaning link handed world stages f) g.stands);
        fits = λ at live. (g.keeps.there at live).fits;
      }

pub basic_goes_on : PartsAreRefusedElsewhere → BasicWorldGoesOn
basic_goes_on refuses meaning lawful link world kept stages f start honest told over clear fair chance =
    let all : List (List ℕ) = world_messages Basic meaning link world stages f in
    let asked : List Batch = world_batches Basic meaning link world stages f in
    let itself = each_self [] all in
    gone_on (basic_stages meaning lawful link all asked clear refuses) stages world first_history (first_handed Basic meaning link world)
    kept f (basic_starts meaning lawful link all asked clear refuses world start itself.0) honest told
    (is_first Basic meaning (key_of (world 0)) link.barrier [] lawful).fits over chance fair
    (basic_listed meaning lawful link all asked clear refuses stages world f itself.1 (each_self [] asked)) refl

pub opt_goes_on : PartsAreRefusedElsewhere → OptWorldGoesOn
opt_goes_on refuses meaning lawful link world kept stages f start shown honest told over clear guarded fair chance =
    let all : List (List ℕ) = opt_world_messages meaning link world stages f in
    let others : List (List ℕ) = world_values meaning link world stages f in
    let asked : List Batch = world_batches Opt meaning link world stages f in
    let itself = each_self [] all in
    gone_on (opt_stages meaning lawful link all others asked clear guarded refuses) stages world (first_history_on start.values)
    (first_handed Opt meaning link world) kept f
    (opt_starts meaning lawful link all others asked clear guarded refuses world start itself.0) honest told
    (is_first Opt meaning (key_of (world 0)) link.barrier start.values lawful).fits over chance fair
    (opt_listed meaning lawful link all others asked clear guarded refuses stages world f shown itself.1 (each_self [] others)
    (each_self [] asked)) refl

pub opt_goes_on_or_evidence : OptWorldGoesOn → OptWorldGoesOnOrEvidence
opt_goes_on_or_evidence law meaning lawful link world kept stages f begins honest told over chance =
    elim (clash_or (instance_of Opt meaning link (world 0)) (opt_world_messages meaning link world stages f)
    (world_values meaning link world stages f) (world_batches Opt meaning link world stages f)) [
      | inl clash ↦ inr (inl clash)
      | inr clear ↦ elim (all_or Opt meaning link stages (first_handed Opt meaning link world) world f) [
        | inl broken ↦ inr (inr broken)
        | inr fair ↦
            inl (law meaning lawful link world kept stages f begins.0 begins.1 honest told over clear.0 (clear.1 refl) fair chance)
      ]
    ]
