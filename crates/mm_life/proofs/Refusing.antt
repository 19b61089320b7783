-- Over one honest store no session is refused as Lost where power is lost in no open segment, nor
-- as Stale where others extended nothing. With it: a platform that stands at digests stands at some
-- behind each part of a life.
use Rattle.std.specs.List.{Contains}
use Rattle.std.specs.Option.{option_map}
use Rattle.std.specs.Prelude.{◌&&◌, if◌then◌else◌, not}
use Rattle.std.specs.Str.{bytes_eq}
use Rattle.std.proofs.Common.{◌≡◌, ◌∙◌, ◌++◌, ℕ, List, [], ◌∷◌, Option, None, Some, map, refl, ap, ◌≢◌, Bool, true, false, Result, sym}
use Rattle.std.proofs.Common.{subst}
use Rattle.std.proofs.lemmas.Slice.Eq.{bytes_eq-Decides}
use Rattle.mm_digest.specs.Messages.{zero_bytes}
use Rattle.mm_digest.specs.declared.variant.Variant.{Variant}
use Rattle.mm_digest.specs.declared.variant.Variant.TheVariants.{Basic, Opt}
use Rattle.mm_platform.specs.Standing.{Item, Standing, foreign_item, item_values, register_after, items_beside}
use Rattle.mm_module.specs.Batch.{Batch}
use Rattle.mm_module.specs.Meaning.{Meaning}
use Rattle.mm_model.specs.Chains.{Instance, register_of, basic_instance, opt_instance}
use Rattle.mm_model.specs.FormLaws.{reads_zero}
use Rattle.mm_model.specs.History.{History, RegisterEntry, extension_value, register_value_of, Reads, checkpoint_steps}
use Rattle.mm_model.specs.ListLaws.{register_folds, register_nonzero, each_left, each_right}
use Rattle.mm_model.specs.Messages.{AreMessagesIn, IsClear, messages_of, register_trail}
use Rattle.mm_model.specs.Moves.{Digests}
use Rattle.mm_model.specs.Standing.{Life, Live, Lost, is_empty, is_lost, life_of, cell_of, register_reading}
use Rattle.mm_model.specs.declared.refusal.Refusal.TheVariants as refusal
use Rattle.mm_model.proofs.Above.{lost_is_zero}
use Rattle.mm_call.specs.CallFinding.{digest_level, state_after_moves}
use Rattle.mm_call.specs.CallOutcome.{Done, End, Fails, StepFate, walk, walk_from_step}
use Rattle.mm_call.specs.Checkpoints.{checkpoint_outcome}
use Rattle.mm_call.specs.Standing.{RegisterStandsAt, StandsAt, instance_by}
use Rattle.mm_call.specs.TrailLaws.{register_of_items, with_register, foreign_made}
use Rattle.mm_call.proofs.Above.{counted_open}
use Rattle.mm_opt.specs.CheckpointPromise.{IsCheckpointOnCourse}
use Rattle.mm_callers.proofs.Above.{check_goes_on}
use Rattle.mm_recovery.specs.CellWrites.{TellsFlag}
use Rattle.mm_recovery.proofs.Above.{not_lost}
use Rattle.mm_host.specs.Continuation.{RefusesAs}
use Rattle.mm_host.specs.declared.fault.SessionFault.{SessionFault}
use Rattle.mm_host.proofs.Above.{chain_ends, some_chain}
use Rattle.mm_life.specs.Below.{Checkpointed, CheckpointRefusal, StoreStanding}
use Rattle.mm_life.specs.Deeds.{Calls, Checkpoints, Deed, DeedLeads, Extends, LosesPower, LifeCall}
use Rattle.mm_life.specs.HonestLife.{BeginsOver, GoesOnFrom, HasHistory, IsOverOneStore, store_behind, IsNotRefusedAs, KeepsSegment}
use Rattle.mm_life.specs.HonestLife.{KeepsSegments, NoneIsRefusedAs, PartGoesOn}
use Rattle.mm_life.specs.Premises.{has_nothing_new, has_open_segment, bytes_unless_idle, closing_messages, register_messages}
use Rattle.mm_life.specs.Premises.{shown_messages}
use Rattle.mm_life.specs.Stages.{Does, Holds, IsLife, LifePart, PartLeads, LifeStage, end_of, part_calls}
use Rattle.mm_life.proofs.ClosingCounts.{flag_behind, still_open}
use Rattle.mm_life.proofs.Idling.{open_told}
use Rattle.mm_life.proofs.OptSeen.{items_told}

-- A platform that stands at digests stands at some behind each part of a life.

pub record StandsSomewhere (i : Instance) (standing : Standing) : Type 0 where
  pub digests : Digests
  pub stands : StandsAt i standing digests

-- the register's value, where its items are still told
reads_told : (variant : Variant) (old new : Option (List Item)) (r : List ℕ)
    → ((items : List Item) → old ≡ Some items → (more : List Item) × (new ≡ Some more)) → RegisterStandsAt variant (register_of_items old) r
    → (s : List ℕ) × RegisterStandsAt variant (register_of_items new) s
reads_told Basic old new r told at = (r, tt)
reads_told Opt None new r told at = absurd (cc)
reads_told Opt (Some items) new r told at =
    let t = told items refl in
    (register_after (item_values t.0), ap (λ (xs : Option (List Item)). register_of_items xs) t.1)

module _ (variant : Variant) (meaning : Meaning) (key barrier : List ℕ) where
  abbrev pub I : Instance
  I = instance_by variant meaning key barrier

  -- where the cell is as before
  stands_still : (old new : Standing) (d : Digests) → StandsAt I old d → new.cell ≡ old.cell
      → ((items : List Item) → old.items ≡ Some items → (more : List Item) × (new.items ≡ Some more)) → StandsSomewhere I new
  stands_still old new d s cell told =
      let r = reads_told I.variant old.items new.items d.register told s.reads in
      record {
        digests = with_register d r.0;
        stands = record { spells = s.spells; cell = cell ∙ s.cell; reads = r.1 };
      }

  pub deed_stands : (old : Standing) (deed : Deed) (new : Standing) → DeedLeads variant meaning old deed new → (d : Digests)
      → StandsAt I old d → StandsSomewhere I new
  deed_stands old (Calls c) new f d s = record { digests = _; stands = (f.goes.goes key barrier d s).stands }
  deed_stands old (Extends values) new f d s =
      stands_still old new d s f.0
      (λ items e. (items ++ map foreign_item values, f.1 ∙ ap (λ (xs : Option (List Item)). items_beside values xs) e))
  deed_stands old LosesPower new f d s =
      stands_still old new d s f.0 (λ items e. ([], f.1 ∙ ap (λ (xs : Option (List Item)). option_map (λ _. []) xs) e))
  deed_stands old (Checkpoints said) new f d s = record { digests = _; stands = (f.goes.goes variant meaning key barrier d s).stands }

  pub part_stands : (old : Standing) (part : LifePart) (new : Standing) → PartLeads variant meaning old part new → (d : Digests)
      → StandsAt I old d → StandsSomewhere I new
  part_stands old (Holds p) new f d s =
      let c = some_chain f in
      let e = chain_ends variant meaning key barrier c.offer old new _ _ p.result c.chain d s in
      record { digests = e.digests; stands = e.stands }
  part_stands old (Does deed) new f d s = deed_stands old deed new f d s

  pub life_stands : (start : Standing) (stages : List LifeStage) → IsLife variant meaning start stages → (d : Digests)
      → StandsAt I start d → StandsSomewhere I (end_of start stages)
  life_stands start [] f d s = record { digests = d; stands = s }
  life_stands start (stage ∷ stages) f d s =
      let here = part_stands start stage.part stage.after f.0 d s in
      life_stands stage.after stages f.1 here.digests here.stands

-- Over one honest store no session is refused as Lost where power is lost in no open segment, nor as Stale where others extended nothing.

-- as Stale

module _ (all others : List (List ℕ)) (asked : List Batch) (i : Instance) (none : others ≡ []) where
  part_unspoiled : (old : Standing) (part : LifePart) (new : Standing) (f : PartLeads i.variant i.meaning old part new)
      (requests after : List (List ℕ)) → PartGoesOn all others asked i old part new f requests after → IsNotRefusedAs refusal.Stale part
  part_unspoiled old (Holds p) new f requests after g = λ is.
      g.2.unspoiled none (subst (λ (r : Result Unit SessionFault). RefusesAs r i.variant g.2.left.history) is g.2.refuses)
  part_unspoiled old (Does deed) new f requests after g = tt

  pub never_spoiled : (stages : List LifeStage) (start : Standing) (f : IsLife i.variant i.meaning start stages)
      (requests after : List (List ℕ)) → GoesOnFrom all others asked i start stages f requests after → NoneIsRefusedAs refusal.Stale stages
  never_spoiled [] start f requests after g = tt
  never_spoiled (stage ∷ stages) start f requests after g = (
    part_unspoiled start stage.part stage.after f.0 requests g.0 g.1,
    never_spoiled stages stage.after f.1 g.0 after g.2,
  )

-- as Lost, in Basic

module _ (meaning : Meaning) (key : List ℕ) (all others : List (List ℕ)) (asked : List Batch) where
  abbrev B : Instance
  B = basic_instance meaning key

  part_plain : (old : Standing) (part : LifePart) (new : Standing) (f : PartLeads Basic meaning old part new)
      (requests after : List (List ℕ)) → PartGoesOn all others asked B old part new f requests after → IsNotRefusedAs refusal.Lost part
  part_plain old (Holds p) new f requests after g = λ is.
      let lost : Live ≡ Lost = subst (λ (r : Result Unit SessionFault). RefusesAs r Basic g.2.left.history) is g.2.refuses in
      absurd (cc)
  part_plain old (Does deed) new f requests after g = tt

  pub basic_never_lost : (stages : List LifeStage) (start : Standing) (f : IsLife Basic meaning start stages)
      (requests after : List (List ℕ)) → GoesOnFrom all others asked B start stages f requests after → NoneIsRefusedAs refusal.Lost stages
  basic_never_lost [] start f requests after g = tt
  basic_never_lost (stage ∷ stages) start f requests after g = (
    part_plain start stage.part stage.after f.0 requests g.0 g.1,
    basic_never_lost stages stage.after f.1 g.0 after g.2,
  )

-- as Lost, in Opt: where a segment is open the register doesn't read zero

abbrev IsPowered : Standing → Type 0
IsPowered standing = has_open_segment standing ≡ true → register_reading standing ≢ Some zero_bytes

lost_is : (life : Life) → is_lost life ≡ true → life ≡ Lost
lost_is Lost e = refl
lost_is _ e = absurd (cc)

-- a register that took in values whose messages are clear doesn't read zero
shown_nonzero : (all : List (List ℕ)) → IsClear all → (item : Item) (items : List Item)
    → AreMessagesIn (register_trail (item_values (item ∷ items))) all → Some (register_after (item_values (item ∷ items))) ≢ Some zero_bytes
shown_nonzero all clear item items w is =
    let zero : register_after (item_values (item ∷ items)) ≡ zero_bytes = cc in
    let none = register_nonzero all clear (item_values (item ∷ items)) w (sym (register_folds (item_values (item ∷ items))) ∙ zero) in
    cc

grown_nonzero : (all : List (List ℕ)) → IsClear all → (items more : List Item) → Some (register_after (item_values items)) ≢ Some zero_bytes
    → AreMessagesIn (register_trail (item_values (items ++ more))) all
    → Some (register_after (item_values (items ++ more))) ≢ Some zero_bytes
grown_nonzero all clear [] more was w = absurd (was refl)
grown_nonzero all clear (item ∷ items) more was w = shown_nonzero all clear item (items ++ more) w

abbrev reading_of : Option (List Item) → Option (List ℕ)
reading_of shown = option_map (λ items. register_after (item_values items)) shown

-- so it stays where items come behind those that it shows
stays_nonzero : (all : List (List ℕ)) → IsClear all → (items more : List Item) (old new : Option (List Item)) → old ≡ Some items
    → new ≡ Some (items ++ more) → reading_of old ≢ Some zero_bytes → AreMessagesIn (shown_messages new) all
    → reading_of new ≢ Some zero_bytes
stays_nonzero all clear items more old new was is nonzero w =
    subst (λ (x : Option (List Item)). reading_of x ≢ Some zero_bytes) (sym is)
    (grown_nonzero all clear items more (subst (λ (x : Option (List Item)). reading_of x ≢ Some zero_bytes) was nonzero)
    (subst (λ (x : Option (List Item)). AreMessagesIn (shown_messages x) all) is w))

-- what an open segment asks of what the register shows
asked_open : (all : List (List ℕ)) (old : Standing) (calls : List LifeCall) (shown more rest : List (List ℕ))
    → AreMessagesIn (bytes_unless_idle old calls (shown ++ more) ++ rest) all → has_open_segment old ≡ true → AreMessagesIn shown all
asked_open all old calls shown more rest w e =
    let P : List (List ℕ) → Type 0 = λ xs. AreMessagesIn xs all in
    let here = each_left (Contains all) (bytes_unless_idle old calls (shown ++ more)) rest w in
    each_left (Contains all) shown more
    (subst P (ap (λ (o : Bool). if not o && has_nothing_new calls then [] else shown ++ more) e) here)

module _ (i : Instance) where
  read_flag : (values : List (List ℕ)) (ends : End) (fates : ℕ → StepFate) (d : Digests)
      → (state_after_moves (digest_level i) d (walk_from_step Reads values ends (walk fates 2 [])).moves).flag ≡ d.flag
  read_flag values Done fates d = flag_behind i values d
  read_flag values (Fails fault made) fates d = ap (λ (x : Digests). x.flag) (foreign_made i d values)

  shut_walk : (fates : ℕ → StepFate) (flag lost : Bool) (d : Digests) → d.flag ≡ flag → flag ≡ false
      → (state_after_moves (digest_level i) d (walk fates 1 (checkpoint_steps Opt flag lost)).moves).flag ≡ false
  shut_walk fates true lost d e shut = absurd (cc)
  shut_walk fates false lost d e shut = read_flag (fates 1).brings (fates 1).ends fates d ∙ e

module _ (meaning : Meaning) (key barrier : List ℕ) (all others : List (List ℕ)) (asked : List Batch) (clear : IsClear all) where
  abbrev O : Instance
  O = opt_instance meaning key barrier

  -- a checkpoint opens no segment
  still_shut : (old new : Standing) (said : Result Checkpointed CheckpointRefusal) → IsCheckpointOnCourse old new said → (d : Digests)
      → StandsAt O old d → has_open_segment old ≡ false → has_open_segment new ≡ false
  still_shut old new said k d s shut =
      let g = k.goes Opt meaning key barrier d s in
      let o = checkpoint_outcome O (digest_level O) d k.course in
      let before : TellsFlag old d.flag = record { cell = _; is_cell = s.spells; tells = s.cell; shows = refl } in
      let after : TellsFlag new o.state.flag = record { cell = _; is_cell = g.stands.spells; tells = g.stands.cell; shows = refl } in
      open_told new o.state.flag after
      ∙ shut_walk O k.course.fates d.flag _ d refl (sym (open_told old d.flag before) ∙ shut)

  -- a platform that is powered stands for no history that is lost, and one that stands for none is powered

  tells_open : (standing : Standing) (requests : List (List ℕ)) (h : HasHistory all others asked O standing requests)
      → TellsFlag standing h.history.is_open
  tells_open standing requests h =
      record { cell = cell_of O h.history; is_cell = h.stands.spells; tells = h.stands.cell; shows = refl }

  filled : (reads : Option (List ℕ)) (items : List RegisterEntry) → reads ≡ Some (register_of (map (extension_value barrier) items))
      → reads ≢ Some zero_bytes → is_empty items ≡ false
  filled reads [] e nonzero = absurd (nonzero (e ∙ ap (λ (r : List ℕ). Some r) reads_zero))
  filled reads (x ∷ items) e nonzero = refl

  unlost_entered : (old : Standing) (requests : List (List ℕ)) (h : HasHistory all others asked O old requests) → IsPowered old
      → life_of Opt h.history ≢ Lost
  unlost_entered old requests h powered =
      not_lost h.history.is_open _ _ _ (λ e. filled (register_reading old) h.history.items h.stands.register
      (powered (open_told old h.history.is_open (tells_open old requests h) ∙ e)))

  powered_left : (new : Standing) (requests : List (List ℕ)) (h : HasHistory all others asked O new requests)
      → life_of Opt h.history ≢ Lost → IsPowered new
  powered_left new requests h live e zero =
      let open_then : h.history.is_open ≡ true = sym (open_told new h.history.is_open (tells_open new requests h)) ∙ e in
      let listed : AreMessagesIn (messages_of Opt O h.history) all =
      subst (λ (y : History). AreMessagesIn (messages_of Opt O y) all) (counted_open h.history open_then) h.within.listed in
      let reads : Some (register_value_of O h.history) ≡ Some zero_bytes = sym h.stands.register ∙ zero in
      let is : register_value_of O h.history ≡ zero_bytes = cc in
      let both : (h.history.is_open && bytes_eq (register_value_of O h.history) zero_bytes) ≡ true =
      ap (λ (o : Bool). o && bytes_eq (register_value_of O h.history) zero_bytes) open_then
      ∙ (bytes_eq-Decides (register_value_of O h.history) zero_bytes).1 is in
      live (lost_is (life_of Opt h.history) (sym (lost_is_zero meaning key barrier h.history all clear listed) ∙ both))

  part_powered : (kept : StoreStanding) (old : Standing) (part : LifePart) (new : Standing) (f : PartLeads Opt meaning old part new)
      (d : Digests) → StandsAt O old d → (requests after : List (List ℕ)) → PartGoesOn all others asked O old part new f requests after
      → (has_open_segment old ≡ true → AreMessagesIn (shown_messages new.items) all) → KeepsSegment Opt old part → BeginsOver kept part
      → IsPowered old → IsNotRefusedAs refusal.Lost part × IsPowered new
  part_powered kept old (Holds p) new f d s requests after g seen keeps over powered =
      let live = g.2.powered (unlost_entered old requests g.2.entered powered) in (
        λ is. live (subst (λ (r : Result Unit SessionFault). RefusesAs r Opt g.2.left.history) is g.2.refuses),
        powered_left new after g.2.left live,
      )
  part_powered kept old (Does (Calls c)) new f d s requests after g seen keeps over powered = absurd over
  part_powered kept old (Does (Extends values)) new f d s requests after g seen keeps over powered = (
    tt,
    λ e.
        let was : has_open_segment old ≡ true = sym (still_open meaning key barrier old new f.0) ∙ e in
        let told = items_told meaning key barrier old.items d.register s.reads in
        stays_nonzero all clear told.0 (map foreign_item values) old.items new.items told.1
        (f.1 ∙ ap (λ (xs : Option (List Item)). items_beside values xs) told.1) (powered was) (seen was),
  )
  part_powered kept old (Does LosesPower) new f d s requests after g seen keeps over powered = (
    tt,
    λ e. let clash : true ≡ false = sym e ∙ still_open meaning key barrier old new f.0 ∙ keeps in absurd (cc),
  )
  part_powered kept old (Does (Checkpoints said)) new f d s requests after g seen keeps over powered = (
    tt,
    λ e. checked (has_open_segment old) refl e,
  )
    where
      checked : (flag : Bool) → has_open_segment old ≡ flag → has_open_segment new ≡ true → register_reading new ≢ Some zero_bytes
      checked true was e =
          let told = items_told meaning key barrier old.items d.register s.reads in
          let on = check_goes_on meaning key barrier f.goes d s told.0 told.1 in
          stays_nonzero all clear told.0 on.0 old.items new.items told.1 on.1 (powered was) (seen was)
      checked false was e =
          let clash : true ≡ false = sym e ∙ still_shut old new said f.goes d s was in absurd (cc)

  pub opt_never_lost : (stages : List LifeStage) (kept : StoreStanding) (start : Standing) (f : IsLife Opt meaning start stages)
      (d : Digests) → StandsAt O start d → (requests after : List (List ℕ)) → GoesOnFrom all others asked O start stages f requests after
      → AreMessagesIn (register_messages O start stages f) all → KeepsSegments Opt start stages → IsOverOneStore kept stages
      → IsPowered start → NoneIsRefusedAs refusal.Lost stages
  opt_never_lost [] kept start f d s requests after g seen keeps over powered = tt
  opt_never_lost (stage ∷ stages) kept start f d s requests after g seen keeps over powered =
      let calls : List LifeCall = part_calls Opt meaning start stage.part stage.after f.0 in
      let shown : List (List ℕ) = shown_messages stage.after.items in
      let more : List (List ℕ) = closing_messages stage.part start.cell stage.after.items in
      let rest : List (List ℕ) = register_messages O stage.after stages f.1 in
      let n = part_stands Opt meaning key barrier start stage.part stage.after f.0 d s in
      let here = part_powered kept start stage.part stage.after f.0 d s requests g.0 g.1 (asked_open all start calls shown more rest seen)
      keeps.0 over.0 powered in (
        here.0,
        opt_never_lost stages (store_behind kept stage.part) stage.after f.1 n.digests n.stands g.0 after g.2
            (each_right (Contains all) (bytes_unless_idle start calls (shown ++ more)) rest seen) keeps.1 over.1 here.1,
      )
