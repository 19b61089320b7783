-- A world in which programs are killed is one in which they ended, and its laws hold.
use Rattle.std.specs.List.{AllByRecursion, Contains}
use Rattle.std.proofs.Common.{◌≡◌, ◌∙◌, ◌++◌, ℕ, List, [], ◌∷◌, refl, subst, sym, ap, inl, inr, arith}
use Rattle.std.proofs.lemmas.List.{append-nil}
use Rattle.std.specs.Option.{option_map_or}
use Rattle.mm_digest.specs.Messages.{start_message}
use Rattle.mm_digest.specs.declared.variant.Variant.{Variant}
use Rattle.mm_digest.specs.declared.variant.Variant.TheVariants.{Basic, Opt}
use Rattle.mm_platform.specs.Standing.{Standing}
use Rattle.mm_module.specs.Batch.{Batch}
use Rattle.mm_module.specs.Meaning.{IsLawful, Meaning}
use Rattle.mm_modules.specs.Modules.{meaning_of}
use Rattle.mm_model.specs.Messages.{AreNoGuards, IsClear}
use Rattle.mm_call.specs.CallPremises.{foreign_items}
use Rattle.mm_evidence.specs.Evidence.{HasClash}
use Rattle.mm_schedule.specs.Replies.{ModulePromises}
use Rattle.mm_schedule.specs.declared.reply.Reply.{Reply}
use Rattle.mm_move.specs.declared.link.Link.{Link}
use Rattle.mm_life.specs.Deeds.{LifeCall}
use Rattle.mm_life.specs.Premises.{IsUntagged, bytes_unless_idle, call_batches, closing_messages, shown_messages, snapshots_of}
use Rattle.mm_life.specs.Stages.{LifePart}
use Rattle.mm_moments.specs.MortalLives.{Dies as KilledPart, MortalLivesEnd}
use Rattle.mm_worlds.specs.OneWorld.{HasOptWorldEvidence, HasWorldBreach, HasWorldEvidence, IsWorldBreach, forged_offer, forged_ticket, nonce_twice, BasicWorldIsOne}
use Rattle.mm_worlds.specs.OneWorld.{OptWorldIsOne, OptWorldIsOneOrEvidence, WorldIsOneOrEvidence, WorldsKeepPromises, IsOneWorld}
use Rattle.mm_worlds.specs.OneWorld.{world_part_replies, world_replies, AreRegistersTold, TellsRegister, bytes_if_live, opt_messages_from}
use Rattle.mm_worlds.specs.OneWorld.{opt_messages_in, others_values_in, world_batches, world_values}
use Rattle.mm_worlds.specs.Premises.{Handed, IsGenuineUnder, keyed_snapshots, snapshots_under, instance_of, key_of, role_of, AreHonest}
use Rattle.mm_worlds.specs.Premises.{IsHonest, asked_messages, calls_at, calls_in, first_handed, first_offers, handed_after, handed_at_end}
use Rattle.mm_worlds.specs.Premises.{messages_from, IsWorldLife, World, WorldStage}
use Rattle.mm_mortal_worlds.specs.MortalEvidence.{HasMortalBreach, HasMortalWorldEvidence, HasOptMortalWorldEvidence, IsMortalBreach}
use Rattle.mm_mortal_worlds.specs.MortalWorlds.{AreMortalHonest, AreMortalRegistersTold, IsMortalHonest, MortalTellsRegister}
use Rattle.mm_mortal_worlds.specs.MortalWorlds.{mortal_calls_in, mortal_handed_after, mortal_handed_at_end, mortal_messages_from}
use Rattle.mm_mortal_worlds.specs.MortalWorlds.{mortal_opt_messages_from, mortal_opt_messages_in, mortal_values_in, mortal_world_batches}
use Rattle.mm_mortal_worlds.specs.MortalWorlds.{mortal_world_values, Dies, Happens, IsMortalWorldLife, MortalWorldPart}
use Rattle.mm_mortal_worlds.specs.MortalWorlds.{MortalWorldPartLeads, MortalWorldStage, MortalWorldsEnd, WorldEnds, WorldPartEnds}
use Rattle.mm_mortal_worlds.specs.MortalWorlds.{ended_leads, ended_part, ended_world_life, ended_world_stages, mortal_world_after}
use Rattle.mm_mortal_worlds.specs.MortalWorlds.{mortal_world_part_replies, mortal_world_replies}
use Rattle.mm_mortal_worlds.specs.MortalWorldLaws.{BasicMortalWorldIsOne, IsMortalWorldOne, MortalWorldIsOneOrEvidence, MortalWorldsKeepPromises}
use Rattle.mm_mortal_worlds.specs.MortalWorldLaws.{OptMortalWorldIsOne, OptMortalWorldIsOneOrEvidence}

module _ (variant : Variant) (meaning : Meaning) (link : Link) where
  part_ends : MortalLivesEnd → IsLawful meaning → (old : Standing) (part : MortalWorldPart) (new : Standing)
      (f : MortalWorldPartLeads variant meaning link old part new) → WorldPartEnds variant meaning link old part new f
  part_ends end lawful old (Happens part) new f = tt
  part_ends end lawful old (Dies p) new k =
      (end variant meaning lawful old (record { part = KilledPart p; after = new } ∷ []) (k, tt)).0

  world_ends : MortalLivesEnd → IsLawful meaning → (world : World) (stages : List MortalWorldStage)
      (f : IsMortalWorldLife variant meaning link world stages) → WorldEnds variant meaning link world stages f
  world_ends end lawful world [] f = tt
  world_ends end lawful world (stage ∷ stages) f = (
    part_ends end lawful (world stage.at) stage.part stage.after f.0,
    world_ends end lawful (mortal_world_after world stage) stages f.1,
  )

  -- Of a part, and of the one in which it ended, the calls are the same, what is handed out, and what is told.
  module _ (old : Standing) where
    calls_same : (part : MortalWorldPart) (new : Standing) (f : MortalWorldPartLeads variant meaning link old part new)
        (e : WorldPartEnds variant meaning link old part new f)
        → calls_in variant meaning link old (ended_part variant meaning link old part new f e) new
        (ended_leads variant meaning link old part new f e)
        ≡ mortal_calls_in variant meaning link old part new f
    calls_same (Happens part) new f e = refl
    calls_same (Dies p) new k e = ap (calls_at (role_of old)) e.calls

    handed_same : (handed : Handed) (part : MortalWorldPart) (new : Standing)
        (f : MortalWorldPartLeads variant meaning link old part new) (e : WorldPartEnds variant meaning link old part new f)
        → handed_after variant meaning link handed old (ended_part variant meaning link old part new f e) new
        (ended_leads variant meaning link old part new f e)
        ≡ mortal_handed_after variant meaning link handed old part new f
    handed_same handed (Happens part) new f e = refl
    handed_same handed (Dies p) new k e =
        ap {A = List LifeCall} {B = Handed} (λ calls. record {
          snapshots = handed.snapshots ++ keyed_snapshots (key_of old) (snapshots_of calls);
          tickets = handed.tickets ++ [];
          nonces = handed.nonces ++ [];
        }) e.calls

    replies_here : (part : MortalWorldPart) (new : Standing) (f : MortalWorldPartLeads variant meaning link old part new)
        (e : WorldPartEnds variant meaning link old part new f)
        → world_part_replies variant meaning link old (ended_part variant meaning link old part new f e) new
        (ended_leads variant meaning link old part new f e)
        ≡ mortal_world_part_replies variant meaning link old part new f
    replies_here (Happens part) new f e = refl
    replies_here (Dies p) new k e = e.replies

    honest_here : (handed : Handed) (part : MortalWorldPart) (new : Standing)
        (f : MortalWorldPartLeads variant meaning link old part new) (e : WorldPartEnds variant meaning link old part new f)
        → IsMortalHonest variant meaning link handed old part new f
        → IsHonest variant meaning link handed old (ended_part variant meaning link old part new f e) new
        (ended_leads variant meaning link old part new f e)
    honest_here handed (Happens part) new f e h = h
    honest_here handed (Dies p) new k e h = record {
      offers = subst (λ (calls : List LifeCall). AllByRecursion (IsUntagged (instance_of variant meaning link old)
          (snapshots_under (key_of old) handed.snapshots)) (first_offers (calls_at (role_of old) calls))) (sym e.calls) h;
      tickets = tt;
      nonces = tt;
    }

  module _ (world : World) where
    abbrev pub ended : (stages : List MortalWorldStage) (f : IsMortalWorldLife variant meaning link world stages)
        → WorldEnds variant meaning link world stages f → List WorldStage
    ended stages f e = ended_world_stages variant meaning link world stages f e

    abbrev pub life : (stages : List MortalWorldStage) (f : IsMortalWorldLife variant meaning link world stages)
        (e : WorldEnds variant meaning link world stages f) → IsWorldLife variant meaning link world (ended stages f e)
    life stages f e = ended_world_life variant meaning link world stages f e

  handed_end : (handed : Handed) (world : World) (stages : List MortalWorldStage)
      (f : IsMortalWorldLife variant meaning link world stages) (e : WorldEnds variant meaning link world stages f)
      → handed_at_end variant meaning link handed world (ended world stages f e) (life world stages f e)
      ≡ mortal_handed_at_end variant meaning link handed world stages f
  handed_end handed world [] f e = refl
  handed_end handed world (stage ∷ stages) f e =
      let next = mortal_world_after world stage in
      ap (λ (x : Handed). handed_at_end variant meaning link x next (ended next stages f.1 e.1) (life next stages f.1 e.1))
      (handed_same (world stage.at) handed stage.part stage.after f.0 e.0)
      ∙ handed_end (mortal_handed_after variant meaning link handed (world stage.at) stage.part stage.after f.0) next stages f.1 e.1

  pub honest : (handed : Handed) (world : World) (stages : List MortalWorldStage)
      (f : IsMortalWorldLife variant meaning link world stages) (e : WorldEnds variant meaning link world stages f)
      → AreMortalHonest variant meaning link handed world stages f
      → AreHonest variant meaning link handed world (ended world stages f e) (life world stages f e)
  honest handed world [] f e h = tt
  honest handed world (stage ∷ stages) f e h =
      let next = mortal_world_after world stage in (
        honest_here (world stage.at) handed stage.part stage.after f.0 e.0 h.0,
        subst (λ (x : Handed). AreHonest variant meaning link x next (ended next stages f.1 e.1) (life next stages f.1 e.1))
            (sym (handed_same (world stage.at) handed stage.part stage.after f.0 e.0))
            (honest (mortal_handed_after variant meaning link handed (world stage.at) stage.part stage.after f.0) next stages f.1 e.1
            h.1),
      )

  breach_here : (handed : Handed) (old : Standing) (part : MortalWorldPart) (new : Standing)
      (f : MortalWorldPartLeads variant meaning link old part new) (e : WorldPartEnds variant meaning link old part new f)
      → IsWorldBreach variant meaning link handed old (ended_part variant meaning link old part new f e) new
      (ended_leads variant meaning link old part new f e)
      → IsMortalBreach variant meaning link handed old part new f
  breach_here handed old (Happens part) new f e b = b
  breach_here handed old (Dies p) new k e (forged_offer offer content offers right unknown) = record {
    offer = offer;
    content = content;
    offered = subst (λ (calls : List LifeCall). Contains (first_offers (calls_at (role_of old) calls)) offer) e.calls offers;
    right = right;
    unknown = unknown;
  }
  breach_here handed old (Dies p) new k e (forged_ticket ticket content offers right unknown) = absurd (omega (arith, offers.1))
  breach_here handed old (Dies p) new k e (nonce_twice nonce here before) = absurd (omega (arith, here.1))

  breach : (handed : Handed) (world : World) (stages : List MortalWorldStage)
      (f : IsMortalWorldLife variant meaning link world stages) (e : WorldEnds variant meaning link world stages f)
      → HasWorldBreach variant meaning link handed world (ended world stages f e) (life world stages f e)
      → HasMortalBreach variant meaning link handed world stages f
  breach handed world [] f e b = elim b [ ]
  breach handed world (stage ∷ stages) f e (inl b) =
      inl (breach_here handed (world stage.at) stage.part stage.after f.0 e.0 b)
  breach handed world (stage ∷ stages) f e (inr b) =
      let next = mortal_world_after world stage in
      inr (breach (mortal_handed_after variant meaning link handed (world stage.at) stage.part stage.after f.0) next stages f.1 e.1
      (subst (λ (x : Handed). HasWorldBreach variant meaning link x next (ended next stages f.1 e.1) (life next stages f.1 e.1))
      (handed_same (world stage.at) handed stage.part stage.after f.0 e.0) b))

  -- the world in which the killed programs ended is one
  one_of : (begun : Handed) (world : World) (stages : List MortalWorldStage)
      (f : IsMortalWorldLife variant meaning link world stages) (e : WorldEnds variant meaning link world stages f)
      → IsOneWorld variant meaning link begun world (ended world stages f e) (life world stages f e)
      → IsMortalWorldOne variant meaning link begun world stages f
  one_of begun world stages f e one = record {
    ends = e;
    one = one;
    named = subst (λ (x : Handed). AllByRecursion (IsGenuineUnder variant meaning link one.history) x.snapshots)
        (handed_end begun world stages f e) one.named;
  }

  replies_same : (world : World) (stages : List MortalWorldStage) (f : IsMortalWorldLife variant meaning link world stages)
      (e : WorldEnds variant meaning link world stages f)
      → world_replies variant meaning link world (ended world stages f e) (life world stages f e)
      ≡ mortal_world_replies variant meaning link world stages f
  replies_same world [] f e = refl
  replies_same world (stage ∷ stages) f e =
      let here = replies_here (world stage.at) stage.part stage.after f.0 e.0 in
      let rest = replies_same (mortal_world_after world stage) stages f.1 e.1 in λ j. here j ++ rest j

  pub batches_same : (world : World) (stages : List MortalWorldStage) (f : IsMortalWorldLife variant meaning link world stages)
      (e : WorldEnds variant meaning link world stages f)
      → world_batches variant meaning link world (ended world stages f e) (life world stages f e)
      ≡ mortal_world_batches variant meaning link world stages f
  batches_same world [] f e = refl
  batches_same world (stage ∷ stages) f e =
      let here = calls_same (world stage.at) stage.part stage.after f.0 e.0 in
      let rest = batches_same (mortal_world_after world stage) stages f.1 e.1 in λ j. call_batches (here j) ++ rest j

pub worlds_end : MortalLivesEnd → MortalWorldsEnd
worlds_end end variant meaning lawful link world stages f = world_ends variant meaning link end lawful world stages f

module _ (meaning : Meaning) (link : Link) where
  -- Basic
  pub messages_same : (world : World) (stages : List MortalWorldStage) (f : IsMortalWorldLife Basic meaning link world stages)
      (e : WorldEnds Basic meaning link world stages f)
      → messages_from Basic meaning link world (ended Basic meaning link world stages f e) (life Basic meaning link world stages f e)
      ≡ mortal_messages_from meaning link world stages f
  messages_same world [] f e = refl
  messages_same world (stage ∷ stages) f e =
      let here = calls_same Basic meaning link (world stage.at) stage.part stage.after f.0 e.0 in
      let rest = messages_same (mortal_world_after world stage) stages f.1 e.1 in
      λ j. asked_messages (instance_of Basic meaning link (world stage.at)) (here j) ++ rest j

  -- Opt
  opt_messages_here : (old : Standing) (part : MortalWorldPart) (new : Standing)
      (f : MortalWorldPartLeads Opt meaning link old part new) (e : WorldPartEnds Opt meaning link old part new f)
      → opt_messages_in meaning link old (ended_part Opt meaning link old part new f e) new
      (ended_leads Opt meaning link old part new f e)
      ≡ mortal_opt_messages_in meaning link old part new f
  opt_messages_here old (Happens part) new f e = refl
  opt_messages_here old (Dies p) new k e =
      let closing = ap (λ (x : LifePart). closing_messages x old.cell new.items) e.is.2 in
      let here = calls_same Opt meaning link old (Dies p) new k e in
      let at = instance_of Opt meaning link old in
      let calls = mortal_calls_in Opt meaning link old (Dies p) new k in
      (λ j. asked_messages at (here j)
      ++ (bytes_if_live (role_of old) (bytes_unless_idle old (here j) (shown_messages new.items ++ closing j)) ++ []))
      ∙ (λ j. asked_messages at calls
      ++ append-nil (bytes_if_live (role_of old) (bytes_unless_idle old calls (append-nil (shown_messages new.items) j))) j)

  values_here : (old : Standing) (part : MortalWorldPart) (new : Standing)
      (f : MortalWorldPartLeads Opt meaning link old part new) (e : WorldPartEnds Opt meaning link old part new f)
      → others_values_in meaning link old (ended_part Opt meaning link old part new f e) new
      (ended_leads Opt meaning link old part new f e)
      ≡ mortal_values_in meaning link old part new f
  values_here old (Happens part) new f e = refl
  values_here old (Dies p) new k e =
      let here = calls_same Opt meaning link old (Dies p) new k e in
      λ j. bytes_if_live (role_of old) (bytes_unless_idle old (here j) (option_map_or foreign_items new.items []))

  pub opt_messages_same : (world : World) (stages : List MortalWorldStage) (f : IsMortalWorldLife Opt meaning link world stages)
      (e : WorldEnds Opt meaning link world stages f)
      → opt_messages_from meaning link world (ended Opt meaning link world stages f e) (life Opt meaning link world stages f e)
      ≡ mortal_opt_messages_from meaning link world stages f
  opt_messages_same world [] f e = refl
  opt_messages_same world (stage ∷ stages) f e =
      let here = opt_messages_here (world stage.at) stage.part stage.after f.0 e.0 in
      let rest = opt_messages_same (mortal_world_after world stage) stages f.1 e.1 in λ j. here j ++ rest j

  pub values_same : (world : World) (stages : List MortalWorldStage) (f : IsMortalWorldLife Opt meaning link world stages)
      (e : WorldEnds Opt meaning link world stages f)
      → world_values meaning link world (ended Opt meaning link world stages f e) (life Opt meaning link world stages f e)
      ≡ mortal_world_values meaning link world stages f
  values_same world [] f e = refl
  values_same world (stage ∷ stages) f e =
      let here = values_here (world stage.at) stage.part stage.after f.0 e.0 in
      let rest = values_same (mortal_world_after world stage) stages f.1 e.1 in λ j. here j ++ rest j

  tells_here : (old : Standing) (part : MortalWorldPart) (new : Standing)
      (f : MortalWorldPartLeads Opt meaning link old part new) (e : WorldPartEnds Opt meaning link old part new f)
      → MortalTellsRegister part new → TellsRegister (ended_part Opt meaning link old part new f e) new
  tells_here old (Happens part) new f e told = told
  tells_here old (Dies p) new k e told = tt

  pub registers_told : (world : World) (stages : List MortalWorldStage) (f : IsMortalWorldLife Opt meaning link world stages)
      (e : WorldEnds Opt meaning link world stages f) → AreMortalRegistersTold stages
      → AreRegistersTold (ended Opt meaning link world stages f e)
  registers_told world [] f e told = tt
  registers_told world (stage ∷ stages) f e told = (
    tells_here (world stage.at) stage.part stage.after f.0 e.0 told.0,
    registers_told (mortal_world_after world stage) stages f.1 e.1 told.1,
  )

pub basic_one : MortalWorldsEnd → BasicWorldIsOne → BasicMortalWorldIsOne
basic_one end law meaning lawful link world stages f start clear asked =
    let e = end Basic meaning lawful link world stages f in
    let begun = first_handed Basic meaning link world in
    one_of Basic meaning link begun world stages f e
    (law meaning lawful link world (ended Basic meaning link world stages f e) (life Basic meaning link world stages f e) start
    (subst (λ (messages : List (List ℕ)). IsClear (start_message Basic meaning.id ∷ messages))
    (sym (messages_same meaning link world stages f e)) clear) (honest Basic meaning link begun world stages f e asked))

pub opt_one : MortalWorldsEnd → OptWorldIsOne → OptMortalWorldIsOne
opt_one end law meaning lawful link world stages f start told clear apart asked =
    let e = end Opt meaning lawful link world stages f in
    let begun = first_handed Opt meaning link world in
    one_of Opt meaning link begun world stages f e
    (law meaning lawful link world (ended Opt meaning link world stages f e) (life Opt meaning link world stages f e) start
    (registers_told meaning link world stages f e told)
    (subst (λ (messages : List (List ℕ)). IsClear (start_message Opt meaning.id ∷ messages))
    (sym (opt_messages_same meaning link world stages f e)) clear)
    (subst (λ (values : List (List ℕ)). AreNoGuards link.barrier values
    (world_batches Opt meaning link world (ended Opt meaning link world stages f e) (life Opt meaning link world stages f e)))
    (sym (values_same meaning link world stages f e))
    (subst (λ (batches : List Batch). AreNoGuards link.barrier (mortal_world_values meaning link world stages f) batches)
    (sym (batches_same Opt meaning link world stages f e)) apart)) (honest Opt meaning link begun world stages f e asked))

-- what is evidence of the world in which they ended is evidence of this one
pub evidence : (meaning : Meaning) (link : Link) (world : World) (stages : List MortalWorldStage)
    (f : IsMortalWorldLife Basic meaning link world stages) (e : WorldEnds Basic meaning link world stages f)
    → HasWorldEvidence Basic meaning link (first_handed Basic meaning link world) world (ended Basic meaning link world stages f e)
    (life Basic meaning link world stages f e)
    → HasMortalWorldEvidence meaning link (first_handed Basic meaning link world) world stages f
evidence meaning link world stages f e (inl clash) =
    inl (subst (λ (messages : List (List ℕ)). HasClash (instance_of Basic meaning link (world 0))
    (start_message Basic meaning.id ∷ messages) [] []) (messages_same meaning link world stages f e) clash)
evidence meaning link world stages f e (inr b) =
    inr (breach Basic meaning link (first_handed Basic meaning link world) world stages f e b)

pub opt_evidence : (meaning : Meaning) (link : Link) (world : World) (stages : List MortalWorldStage)
    (f : IsMortalWorldLife Opt meaning link world stages) (e : WorldEnds Opt meaning link world stages f)
    → HasOptWorldEvidence meaning link (first_handed Opt meaning link world) world (ended Opt meaning link world stages f e)
    (life Opt meaning link world stages f e)
    → HasOptMortalWorldEvidence meaning link (first_handed Opt meaning link world) world stages f
opt_evidence meaning link world stages f e (inl clash) =
    let stages' = ended Opt meaning link world stages f e in
    let life' = life Opt meaning link world stages f e in
    let at = instance_of Opt meaning link (world 0) in
    inl (subst (λ (batches : List Batch). HasClash at (start_message Opt meaning.id ∷ mortal_opt_messages_from meaning link world stages f)
    (mortal_world_values meaning link world stages f) batches) (batches_same Opt meaning link world stages f e)
    (subst (λ (values : List (List ℕ)). HasClash at (start_message Opt meaning.id ∷ mortal_opt_messages_from meaning link world stages f)
    values (world_batches Opt meaning link world stages' life')) (values_same meaning link world stages f e)
    (subst (λ (messages : List (List ℕ)). HasClash at (start_message Opt meaning.id ∷ messages)
    (world_values meaning link world stages' life') (world_batches Opt meaning link world stages' life'))
    (opt_messages_same meaning link world stages f e) clash)))
opt_evidence meaning link world stages f e (inr b) =
    inr (breach Opt meaning link (first_handed Opt meaning link world) world stages f e b)

pub one_or_evidence : MortalWorldsEnd → WorldIsOneOrEvidence → MortalWorldIsOneOrEvidence
one_or_evidence end law meaning lawful link world stages f start =
    let e = end Basic meaning lawful link world stages f in
    elim (law meaning lawful link world (ended Basic meaning link world stages f e) (life Basic meaning link world stages f e) start) [
      | inl one ↦ inl (one_of Basic meaning link (first_handed Basic meaning link world) world stages f e one)
      | inr held ↦ inr (evidence meaning link world stages f e held)
    ]

pub opt_one_or_evidence : MortalWorldsEnd → OptWorldIsOneOrEvidence → OptMortalWorldIsOneOrEvidence
opt_one_or_evidence end law meaning lawful link world stages f start told =
    let e = end Opt meaning lawful link world stages f in
    elim (law meaning lawful link world (ended Opt meaning link world stages f e) (life Opt meaning link world stages f e) start
    (registers_told meaning link world stages f e told)) [
      | inl one ↦ inl (one_of Opt meaning link (first_handed Opt meaning link world) world stages f e one)
      | inr held ↦ inr (opt_evidence meaning link world stages f e held)
    ]

pub promises : WorldsKeepPromises → MortalWorldsKeepPromises
promises law it variant link world stages f e requests follows =
    subst (λ (replies : List Reply). ModulePromises it requests replies) (replies_same variant (meaning_of it) link world stages f e)
    (law it variant link world (ended variant (meaning_of it) link world stages f e) (life variant (meaning_of it) link world stages f e)
    requests follows)
