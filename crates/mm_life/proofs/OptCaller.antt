-- A first start of Opt, a session, a checkpoint, a loss of power, and a session over the same store, over any devices.
use Rattle.std.specs.Prelude.{Bool, Ok, Err, true, false, Some, map}
use Rattle.std.specs.Option.{option_map}
use Rattle.std.proofs.Common.{◌∙◌, ◌≡◌, ◌++◌, ap, ℕ, List, Option, Result, refl, take, drop, inl, inr}
use Rattle.mm_bytes.specs.declared.fault.Failed.{Failed}
use Rattle.mm_digest.specs.declared.variant.Variant.{Variant}
use Rattle.mm_digest.specs.declared.variant.Variant.TheVariants.{Opt}
use Rattle.mm_platform.specs.Standing.{Item, Standing, foreign_item, item_values, items_beside}
use Rattle.mm_platform.specs.declared.fault.StepFault.{StepFault}
use Rattle.mm_module.specs.Meaning.{IsLawful, Meaning}
use Rattle.mm_module.specs.Batch.{Batch}
use Rattle.mm_model.specs.History.{History}
use Rattle.mm_model.specs.Chains.{Instance, opt_instance}
use Rattle.mm_model.specs.Moves.{digests_of}
use Rattle.mm_model.specs.Standing.{StandsFor}
use Rattle.mm_call.proofs.Above.{stands_at}
use Rattle.mm_opt.specs.declared.segment.CheckpointRefusal.{CheckpointRefusal}
use Rattle.mm_opt.specs.declared.segment.Checkpointed.{Checkpointed}
use Rattle.mm_store.specs.StoreStanding.{StoreStanding}
use Rattle.mm_store.specs.declared.fault.StoreFault.{StoreFault}
use Rattle.mm_evidence.proofs.Above.{clash_or}
use Rattle.mm_recovery.specs.FirstStart.{InstanceBegins, GoesAfterLooking, GoesAfterAllPuts, GoesAfterTaking, Devices, InitGoes, SetsUp}
use Rattle.mm_recovery.specs.FirstStart.{host_among, instance_from}
use Rattle.mm_recovery.specs.HostStanding.{HostStanding}
use Rattle.mm_host.specs.declared.fault.SessionFault.{SessionFault}
use Rattle.mm_life.specs.HonestLife.{IsGoneOnWith, OptLifeGoesOn}
use Rattle.mm_life.specs.OneStore.{IsUnlost, LifeStanding, LivesOverCheckpoint, stages_around}
use Rattle.mm_life.specs.Premises.{life_batches, opt_messages, others_values}
use Rattle.mm_life.specs.Stages.{Holds, IsLife, Program, LifeStage, program_standing, session_on, session_stage}
use Rattle.mm_life.specs.LifeWrites.{OptLivesWriteOnce}
use Rattle.mm_life.proofs.Refusing.{part_stands}
use Rattle.mm_life.proofs.ClosingCounts.{shut_behind, still_open, unlost}

-- A register that was told is told behind a first start.
pub record Told (standing : Standing) : Type 0 where
  pub items : List Item
  pub tells : standing.items ≡ Some items

told_on : (old new : Standing) (others : List (List ℕ)) → new.items ≡ items_beside others old.items → Told old → Told new
told_on old new others e t = record {
  items = t.items ++ map foreign_item others;
  tells = e ∙ ap (λ xs. items_beside others xs) t.tells;
}

puts_told : (cell : List ℕ) (before after : Standing) (stored : Result Unit StoreFault)
    → GoesAfterAllPuts cell before after stored (Ok tt) → Told before → Told after
puts_told cell before after (Err why) g t = let e = g.1 in absurd (cc)
puts_told cell before after (Ok it) g t = told_on before after g.goes.others g.goes.items t

set_up_told : (i : Instance) (old new : HostStanding) → SetsUp i old new (Ok tt) → Told old.standing → Told new.standing
set_up_told i old new (inl none) t = let e = none.1 in absurd (cc)
set_up_told i old new (inr both) t = puts_told _ old.standing new.standing both.stored both.goes t

taken_told : (variant : Variant) (meaning : Meaning) (middle after : Devices) (taken : Result (List ℕ) Failed)
    → GoesAfterTaking variant meaning middle after taken (Ok tt) → Told middle.platform → Told after.platform
taken_told variant meaning middle after (Err why) g t = let e = g.1 in absurd (cc)
taken_told variant meaning middle after (Ok secrets) (inl few) t = let e = few.2 in absurd (cc)
taken_told variant meaning middle after (Ok secrets) (inr all) t =
    set_up_told (instance_from variant meaning secrets) (host_among middle) (host_among after) all.2 t

looked_told : (variant : Variant) (meaning : Meaning) (middle after : Devices) (is_blank : Result Bool StepFault)
    → GoesAfterLooking variant meaning middle after is_blank (Ok tt) → Told middle.platform → Told after.platform
looked_told variant meaning middle after (Err why) g t = let e = g.1 in absurd (cc)
looked_told variant meaning middle after (Ok false) g t = let e = g.1 in absurd (cc)
looked_told variant meaning middle after (Ok true) g t =
    taken_told variant meaning (record middle { left = g.left; source_faults = g.source_faults }) after g.taken g.goes t

pub started_told : (variant : Variant) (meaning : Meaning) (before after : Devices) → InitGoes variant meaning before after (Ok tt)
    → Told before.platform → Told after.platform
started_told variant meaning before after n t =
    looked_told variant meaning (record before { platform = n.platform }) after n.is_blank n.goes
    (told_on before.platform n.platform n.looks.goes.others n.looks.goes.items t)

-- Where the checkpoint wasn't refused, the last session isn't refused as Lost.
module _ (all others : List (List ℕ)) (asked : List Batch) (meaning : Meaning) (key barrier : List ℕ) where
  abbrev I : Instance
  I = opt_instance meaning key barrier

  last_unlost : (start closed empty : Standing) (first : LifeStage) (p : Program) (end : Standing) (kept : StoreStanding)
      → (said : Result Checkpointed CheckpointRefusal) → (y : History) → StandsFor I start y
      → (f : IsLife Opt meaning start (stages_around first said closed empty (record { part = Holds p; after = end })))
      → IsGoneOnWith all others asked I kept start (stages_around first said closed empty (record { part = Holds p; after = end })) f
      → IsUnlost said p.result
  last_unlost start closed empty first p end kept (Err why) y stands f gone = tt
  last_unlost start closed empty first p end kept (Ok made) y stands f gone =
      let s = part_stands Opt meaning key barrier start first.part first.after f.0 (digests_of I y) (stands_at I start y stands) in
      let g = gone.goes.2.2.2.1 in
      unlost meaning key barrier all others asked (session_on empty p.old) (session_on end p.new) p.result f.1.1.1.0 g.0 _ _ g.2
      (still_open meaning key barrier closed empty f.1.1.0.0
      ∙ shut_behind meaning key barrier first.after closed made f.1.0.goes s.digests s.stands)

-- its stages
abbrev stages_over : (old new : LifeStanding) (started : Devices) (middle closed empty : Standing) (between : StoreStanding)
    (told : Option (List ℕ)) (one : Result Unit SessionFault) (said : Result Checkpointed CheckpointRefusal)
    (two : Result Unit SessionFault) → List LifeStage
stages_over old new started middle closed empty between told one said two =
    stages_around (session_stage (program_standing started.store old.first old.received) (program_standing between new.first told)
    one middle) said closed empty
    (session_stage (program_standing between old.second told) (program_standing new.devices.store new.second new.received) two
    new.devices.platform)

pub lives_over_checkpoint : OptLifeGoesOn → OptLivesWriteOnce → (meaning : Meaning) → IsLawful meaning → (old new : LifeStanding)
    (started : Devices) → InitGoes Opt meaning old.devices started (Ok tt) → InstanceBegins Opt meaning old.devices started
    → (middle closed empty : Standing) (between : StoreStanding) (told : Option (List ℕ))
    (one : Result Unit SessionFault) (said : Result Checkpointed CheckpointRefusal) (two : Result Unit SessionFault)
    → IsLife Opt meaning started.platform (stages_over old new started middle closed empty between told one said two)
    → LivesOverCheckpoint meaning old new one said two
lives_over_checkpoint law counted meaning lawful old new started inits begun middle closed empty between told one said two life =
    let shown : (items : List Item) → old.devices.platform.items ≡ Some items → Told started.platform =
    λ items told. started_told Opt meaning old.devices started inits (record { items = items; tells = told }) in
    record {
      started = started;
      begun = begun;
      middle = middle;
      closed = closed;
      empty = empty;
      between = between;
      told = told;
      stages = stages_over old new started middle closed empty between told one said two;
      are = refl;
      life = life;
      goes = λ cell items slots here there honest kept whole whole'.
          let i : Instance = opt_instance meaning (take 32 begun.secrets) (drop 32 begun.secrets) in
          let stages : List LifeStage = stages_over old new started middle closed empty between told one said two in
          let t = shown items there in
          let stands = begun.stands cell (item_values t.items) here (ap (λ xs. option_map item_values xs) t.tells) in
          elim (clash_or i (opt_messages i started.platform stages life) (others_values i started.platform stages life)
          (life_batches i started.platform stages life)) [
            | inl clash ↦ inr clash
            | inr fine ↦
                let gone =
                law meaning lawful (take 32 begun.secrets) (drop 32 begun.secrets) (item_values t.items) started.platform started.store
                stages life stands (begun.honest ∙ honest) (begun.stores slots honest kept)
                ((refl, refl), (tt, (tt, ((refl, refl), tt)))) fine.0 (fine.1 refl) (
                  (λ is waiting waits slots shown. absurd (whole is)),
                  (tt, (tt, ((λ is waiting waits slots shown. absurd (whole' is)), tt))),
                ) in
                inl (
                  gone,
                  last_unlost _ _ _ meaning (take 32 begun.secrets) (drop 32 begun.secrets) started.platform closed empty _ _ _
                      started.store said _ stands life gone,
                )
          ];
      writes = λ cell items here there.
          let t = shown items there in
          counted meaning (take 32 begun.secrets) (drop 32 begun.secrets) _ started.platform _ life
          (begun.stands cell (item_values t.items) here (ap (λ xs. option_map item_values xs) t.tells));
    }
