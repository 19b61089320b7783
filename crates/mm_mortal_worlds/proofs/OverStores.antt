-- A world over honest stores in which programs are killed is one in which they ended, which is gone on with.
use Rattle.std.proofs.Common.{◌≡◌, ◌==◌, ℕ, List, [], ◌∷◌, refl, subst, sym, ap, inl, inr}
use Rattle.std.specs.Prelude.{if◌then◌else◌}
use Rattle.mm_digest.specs.Messages.{start_message}
use Rattle.mm_digest.specs.declared.variant.Variant.{Variant}
use Rattle.mm_digest.specs.declared.variant.Variant.TheVariants.{Basic, Opt}
use Rattle.mm_platform.specs.Standing.{Standing}
use Rattle.mm_module.specs.Batch.{Batch}
use Rattle.mm_module.specs.Meaning.{Meaning}
use Rattle.mm_model.specs.Messages.{AreNoGuards, IsClear}
use Rattle.mm_store.specs.StoreStanding.{StoreStanding}
use Rattle.mm_sides.specs.BothSides.{Blank, Live, Retired, Role, Waiting}
use Rattle.mm_move.specs.declared.link.Link.{Link}
use Rattle.mm_life.specs.Stages.{LifePart}
use Rattle.mm_moments.specs.MortalLives.{KilledProgram}
use Rattle.mm_worlds.specs.Premises.{first_handed, role_of, world_messages, Lives, World}
use Rattle.mm_worlds.specs.OneWorld.{opt_world_messages, world_batches, world_values}
use Rattle.mm_honest_worlds.specs.HostStores.{HostStore, HostStores, IsOverStore, IsOverStores, LeaveNoChance, LeavesNoChanceAt}
use Rattle.mm_honest_worlds.specs.HostStores.{LeavesNoneByChance, PartStartsOver, store_behind_part, stores_at_start}
use Rattle.mm_honest_worlds.specs.GoingOn.{BasicWorldGoesOn, IsWorldGoneOn, OptWorldGoesOn}
use Rattle.mm_honest_worlds.specs.Laws.{OptWorldGoesOnOrEvidence, WorldGoesOnOrEvidence}
use Rattle.mm_mortal_worlds.specs.MortalWorlds.{Dies, Happens, IsMortalWorldLife, MortalWorldPart, MortalWorldPartLeads, MortalWorldStage}
use Rattle.mm_mortal_worlds.specs.MortalWorlds.{MortalWorldsEnd, WorldEnds, WorldPartEnds, ended_leads, ended_part, mortal_world_after}
use Rattle.mm_mortal_worlds.specs.MortalWorlds.{mortal_opt_world_messages, mortal_world_messages, mortal_world_values}
use Rattle.mm_mortal_worlds.specs.OverStores.{AreMortalOverStores, BasicMortalWorldGoesOn, DyingLeavesNoChance, DyingStartsOver}
use Rattle.mm_mortal_worlds.specs.OverStores.{IsMortalGoneOnFrom, IsMortalOverStore, MortalLeaveNoChance, MortalLeavesNoneByChance}
use Rattle.mm_mortal_worlds.specs.OverStores.{MortalWorldGoesOnOrEvidence, OptMortalWorldGoesOn, OptMortalWorldGoesOnOrEvidence}
use Rattle.mm_mortal_worlds.specs.OverStores.{store_behind_mortal, stores_behind_mortal}
use Rattle.mm_mortal_worlds.proofs.MortalWorlds.{batches_same, ended, evidence, honest, life, messages_same, opt_evidence, opt_messages_same}
use Rattle.mm_mortal_worlds.proofs.MortalWorlds.{registers_told, values_same}

module _ (variant : Variant) (meaning : Meaning) (link : Link) where
  -- a killed program, and the one that it is when it ended, start over the same
  starts_over : (role : Role) (store : HostStore) (old new : Standing) (p : KilledProgram)
      (k : MortalWorldPartLeads variant meaning link old (Dies p) new) (e : WorldPartEnds variant meaning link old (Dies p) new k)
      → DyingStartsOver role store p → PartStartsOver role store e.ended
  starts_over Live store old new p k e over =
      subst (λ (x : LifePart). PartStartsOver Live store x) (sym e.is.2) over
  starts_over Blank store old new p k e over = subst (λ (x : LifePart). PartStartsOver Blank store x) (sym e.is.2) tt
  starts_over (Waiting nonce) store old new p k e over = subst (λ (x : LifePart). PartStartsOver (Waiting nonce) store x) (sym e.is.2) tt
  starts_over (Retired nonce) store old new p k e over = subst (λ (x : LifePart). PartStartsOver (Retired nonce) store x) (sym e.is.2) tt

  over_here : (store : HostStore) (old : Standing) (part : MortalWorldPart) (new : Standing)
      (f : MortalWorldPartLeads variant meaning link old part new) (e : WorldPartEnds variant meaning link old part new f)
      → IsMortalOverStore store old part → IsOverStore store old (ended_part variant meaning link old part new f e)
  over_here store old (Happens part) new f e over = over
  over_here store old (Dies p) new k e over = starts_over (role_of old) store old new p k e over

  behind_same : (store : HostStore) (old : Standing) (part : MortalWorldPart) (new : Standing)
      (f : MortalWorldPartLeads variant meaning link old part new) (e : WorldPartEnds variant meaning link old part new f)
      → store_behind_part store old (ended_part variant meaning link old part new f e) new ≡ store_behind_mortal store old part new
  behind_same store old (Happens part) new f e = refl
  behind_same store old (Dies p) new k e = ap (λ (x : LifePart). store_behind_part store old (Lives x) new) e.is.2

  over_stores : (stores : HostStores) (world : World) (stages : List MortalWorldStage)
      (f : IsMortalWorldLife variant meaning link world stages) (e : WorldEnds variant meaning link world stages f)
      → AreMortalOverStores stores world stages → IsOverStores stores world (ended variant meaning link world stages f e)
  over_stores stores world [] f e over = tt
  over_stores stores world (stage ∷ stages) f e over = (
    over_here (stores stage.at) (world stage.at) stage.part stage.after f.0 e.0 over.0,
    subst (λ (it : HostStore). IsOverStores (λ at. if at == stage.at then it else stores at) (mortal_world_after world stage)
        (ended variant meaning link (mortal_world_after world stage) stages f.1 e.1))
        (sym (behind_same (stores stage.at) (world stage.at) stage.part stage.after f.0 e.0))
        (over_stores (stores_behind_mortal stores world stage) (mortal_world_after world stage) stages f.1 e.1 over.1),
  )

  dies_by_no_chance : (role : Role) (old new : Standing) (p : KilledProgram)
      (k : MortalWorldPartLeads variant meaning link old (Dies p) new) (e : WorldPartEnds variant meaning link old (Dies p) new k)
      → DyingLeavesNoChance variant meaning link role old p new k → LeavesNoChanceAt role variant meaning old e.ended new e.leads
  dies_by_no_chance Live old new p k e none = e.chance none
  dies_by_no_chance Blank old new p k e none = tt
  dies_by_no_chance (Waiting nonce) old new p k e none = tt
  dies_by_no_chance (Retired nonce) old new p k e none = tt

  none_here : (old : Standing) (part : MortalWorldPart) (new : Standing)
      (f : MortalWorldPartLeads variant meaning link old part new) (e : WorldPartEnds variant meaning link old part new f)
      → MortalLeavesNoneByChance variant meaning link old part new f
      → LeavesNoneByChance variant meaning link old (ended_part variant meaning link old part new f e) new
      (ended_leads variant meaning link old part new f e)
  none_here old (Happens part) new f e none = none
  none_here old (Dies p) new k e none = dies_by_no_chance (role_of old) old new p k e none

  none_by_chance : (world : World) (stages : List MortalWorldStage) (f : IsMortalWorldLife variant meaning link world stages)
      (e : WorldEnds variant meaning link world stages f) → MortalLeaveNoChance variant meaning link world stages f
      → LeaveNoChance variant meaning link world (ended variant meaning link world stages f e)
      (life variant meaning link world stages f e)
  none_by_chance world [] f e none = tt
  none_by_chance world (stage ∷ stages) f e none = (
    none_here (world stage.at) stage.part stage.after f.0 e.0 none.0,
    none_by_chance (mortal_world_after world stage) stages f.1 e.1 none.1,
  )

-- the world in which they ended is gone on with, so this one is
basic_gone : (meaning : Meaning) (link : Link) (world : World) (kept : StoreStanding) (stages : List MortalWorldStage)
    (f : IsMortalWorldLife Basic meaning link world stages) (e : WorldEnds Basic meaning link world stages f)
    → (let stages' = ended Basic meaning link world stages f e in
    let life' = life Basic meaning link world stages f e in
    IsWorldGoneOn Basic (world_messages Basic meaning link world stages' life') [] (world_batches Basic meaning link world stages' life')
    meaning link (stores_at_start kept) world stages' life')
    → IsMortalGoneOnFrom Basic meaning link kept world stages f
basic_gone meaning link world kept stages f e gone =
    let stages' = ended Basic meaning link world stages f e in
    let life' = life Basic meaning link world stages f e in
    record {
      ends = e;
      gone = subst (λ (x : List Batch). IsWorldGoneOn Basic (mortal_world_messages meaning link world stages f) [] x meaning link
          (stores_at_start kept) world stages' life') (batches_same Basic meaning link world stages f e)
          (subst (λ (x : List (List ℕ)). IsWorldGoneOn Basic (start_message Basic meaning.id ∷ x) []
          (world_batches Basic meaning link world stages' life') meaning link (stores_at_start kept) world stages' life')
          (messages_same meaning link world stages f e) gone);
    }

opt_gone : (meaning : Meaning) (link : Link) (world : World) (kept : StoreStanding) (stages : List MortalWorldStage)
    (f : IsMortalWorldLife Opt meaning link world stages) (e : WorldEnds Opt meaning link world stages f)
    → (let stages' = ended Opt meaning link world stages f e in
    let life' = life Opt meaning link world stages f e in
    IsWorldGoneOn Opt (opt_world_messages meaning link world stages' life') (world_values meaning link world stages' life')
    (world_batches Opt meaning link world stages' life') meaning link (stores_at_start kept) world stages' life')
    → IsMortalGoneOnFrom Opt meaning link kept world stages f
opt_gone meaning link world kept stages f e gone =
    let stages' = ended Opt meaning link world stages f e in
    let life' = life Opt meaning link world stages f e in
    record {
      ends = e;
      gone = subst (λ (x : List Batch). IsWorldGoneOn Opt (mortal_opt_world_messages meaning link world stages f)
          (mortal_world_values meaning link world stages f) x meaning link (stores_at_start kept) world stages' life')
          (batches_same Opt meaning link world stages f e)
          (subst (λ (x : List (List ℕ)). IsWorldGoneOn Opt (mortal_opt_world_messages meaning link world stages f) x
          (world_batches Opt meaning link world stages' life') meaning link (stores_at_start kept) world stages' life')
          (values_same meaning link world stages f e)
          (subst (λ (x : List (List ℕ)). IsWorldGoneOn Opt (start_message Opt meaning.id ∷ x)
          (world_values meaning link world stages' life') (world_batches Opt meaning link world stages' life') meaning link
          (stores_at_start kept) world stages' life') (opt_messages_same meaning link world stages f e) gone));
    }

pub basic_goes_on : MortalWorldsEnd → BasicWorldGoesOn → BasicMortalWorldGoesOn
basic_goes_on end law meaning lawful link world kept stages f start sincere told over clear asked none =
    let e = end Basic meaning lawful link world stages f in
    basic_gone meaning link world kept stages f e
    (law meaning lawful link world kept (ended Basic meaning link world stages f e) (life Basic meaning link world stages f e) start
    sincere told (over_stores Basic meaning link (stores_at_start kept) world stages f e over)
    (subst (λ (x : List (List ℕ)). IsClear (start_message Basic meaning.id ∷ x)) (sym (messages_same meaning link world stages f e))
    clear) (honest Basic meaning link (first_handed Basic meaning link world) world stages f e asked)
    (none_by_chance Basic meaning link world stages f e none))

pub goes_on_or_evidence : MortalWorldsEnd → WorldGoesOnOrEvidence → MortalWorldGoesOnOrEvidence
goes_on_or_evidence end law meaning lawful link world kept stages f start sincere told over none =
    let e = end Basic meaning lawful link world stages f in
    elim (law meaning lawful link world kept (ended Basic meaning link world stages f e) (life Basic meaning link world stages f e) start
    sincere told (over_stores Basic meaning link (stores_at_start kept) world stages f e over)
    (none_by_chance Basic meaning link world stages f e none)) [
      | inl gone ↦ inl (basic_gone meaning link world kept stages f e gone)
      | inr held ↦ inr (evidence meaning link world stages f e held)
    ]

pub opt_goes_on : MortalWorldsEnd → OptWorldGoesOn → OptMortalWorldGoesOn
opt_goes_on end law meaning lawful link world kept stages f start registers sincere told over clear apart asked none =
    let e = end Opt meaning lawful link world stages f in
    let stages' = ended Opt meaning link world stages f e in
    let life' = life Opt meaning link world stages f e in
    opt_gone meaning link world kept stages f e
    (law meaning lawful link world kept stages' life' start (registers_told meaning link world stages f e registers) sincere told
    (over_stores Opt meaning link (stores_at_start kept) world stages f e over)
    (subst (λ (x : List (List ℕ)). IsClear (start_message Opt meaning.id ∷ x)) (sym (opt_messages_same meaning link world stages f e))
    clear)
    (subst (λ (x : List (List ℕ)). AreNoGuards link.barrier x (world_batches Opt meaning link world stages' life'))
    (sym (values_same meaning link world stages f e))
    (subst (λ (x : List Batch). AreNoGuards link.barrier (mortal_world_values meaning link world stages f) x)
    (sym (batches_same Opt meaning link world stages f e)) apart))
    (honest Opt meaning link (first_handed Opt meaning link world) world stages f e asked)
    (none_by_chance Opt meaning link world stages f e none))

pub opt_goes_on_or_evidence : MortalWorldsEnd → OptWorldGoesOnOrEvidence → OptMortalWorldGoesOnOrEvidence
opt_goes_on_or_evidence end law meaning lawful link world kept stages f begins sincere told over none =
    let e = end Opt meaning lawful link world stages f in
    elim (law meaning lawful link world kept (ended Opt meaning link world stages f e) (life Opt meaning link world stages f e)
    (begins.0, registers_told meaning link world stages f e begins.1) sincere told
    (over_stores Opt meaning link (stores_at_start kept) world stages f e over)
    (none_by_chance Opt meaning link world stages f e none)) [
      | inl gone ↦ inl (opt_gone meaning link world kept stages f e gone)
      | inr held ↦ inr (opt_evidence meaning link world stages f e held)
    ]
