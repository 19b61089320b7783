-- Opt: a life is one whole.
use Rattle.std.specs.List.{AllByRecursion, Contains}
use Rattle.std.specs.Option.{option_map, option_map_or}
use Rattle.std.specs.Prelude.{Err, Ok, Result, ◌&&◌, if◌then◌else◌, not}
use Rattle.std.proofs.Common.{◌≡◌, ◌⊎◌, ◌∙◌, ◌++◌, ℕ, Bool, true, false, List, [], ◌∷◌, Option, Some, map, fold, arith, refl, sym, ap}
use Rattle.std.proofs.Common.{subst, inl, inr}
use Rattle.mm_digest.specs.Messages.{extended_digest_of, start_message}
use Rattle.mm_digest.specs.declared.variant.Variant.TheVariants.{Opt}
use Rattle.mm_seal.specs.Snapshot.{Content}
use Rattle.mm_platform.specs.Standing.{Item, Standing, foreign_item, items_beside}
use Rattle.mm_module.specs.Batch.{Batch, One, normal_batch}
use Rattle.mm_module.specs.Meaning.{IsLawful, Meaning}
use Rattle.mm_model.specs.FormLaws.{reads_zero}
use Rattle.mm_model.specs.History.{Foreign, History, Power, Value, first_history, history_after, register_value_of}
use Rattle.mm_model.specs.Chains.{Instance, opt_instance}
use Rattle.mm_model.specs.ListLaws.{each_left, each_right, each_self}
use Rattle.mm_model.specs.Messages.{AreNoGuards, IsClear, AreMessagesIn}
use Rattle.mm_model.specs.Moves.{Digests, digests_of}
use Rattle.mm_model.specs.Standing.{NamesPosition, IsSound, IsGenuine, StandsFor, cell_of, issued_bytes}
use Rattle.mm_model.specs.declared.answer.BatchAnswer.{BatchAnswer}
use Rattle.mm_model.specs.declared.refusal.Refusal.{Refusal}
use Rattle.mm_model.specs.declared.refusal.Refusal.TheVariants.{Device, Memory}
use Rattle.mm_call.specs.CallFinding.{batch_result_of, state_after_moves, digest_level, list_level}
use Rattle.mm_model.proofs.Above.{opt_issued}
use Rattle.mm_call.specs.CallPremises.{IsWithin, messages_of_moves, AreAsked, AreShown, foreign_items, standing_items}
use Rattle.mm_call.specs.OfferLaws.{issued_once, opt_content}
use Rattle.mm_call.specs.CallKind.{IsCallOnCourse}
use Rattle.mm_call.specs.WalkLaws.{asks}
use Rattle.mm_call.specs.Standing.{StandsAt}
use Rattle.mm_call.specs.TrailLaws.{foreign_made, foreign_values, reads_beside, register_of_items, with_register}
use Rattle.mm_call.specs.WalkLaws.{history_with_values, taking_is}
use Rattle.mm_call.proofs.Above.{agrees_is, bare, counted_open, foreign_agrees, foreign_all, holds_made, holds_moved, holds_open, is_agrees}
use Rattle.mm_call.proofs.Above.{names_alike, power_fine, stands_at, stands_for, within_items, within_of}
use Rattle.mm_opt.specs.CheckpointPromise.{IsCheckpointOnCourse}
use Rattle.mm_callers.specs.Opt.{MayClose}
use Rattle.mm_callers.proofs.Above.{check_goes_on, check_leaves}
use Rattle.mm_recovery.proofs.Above.{BatchMet, opt_batch_met, opt_batch_met_idle}
use Rattle.mm_host.proofs.Above.{Reaches, ShowsAt, foreign_of, messages_looked, opt_laws, opt_reach}
use Rattle.mm_recovery.specs.FirstStart.{first_history_on}
use Rattle.mm_life.specs.Below.{CheckpointRefusal, Checkpointed}
use Rattle.mm_life.specs.Deeds.{LifeCall, Calls, Checkpoints, Deed, DeedLeads, Extends, LosesPower}
use Rattle.mm_life.specs.Premises.{has_open_segment, is_idle, is_old, closing_messages, life_batches, life_messages, opt_messages}
use Rattle.mm_life.specs.Premises.{others_values, register_messages, shown_messages, bytes_unless_idle, IsNoCall, IsSeen, OptDeedsStay}
use Rattle.mm_life.specs.Premises.{HistoryStays}
use Rattle.mm_life.specs.Laws.{OptLifeIsOne}
use Rattle.mm_life.specs.Stages.{Does, IsLife, LifePart, LifeStage, part_calls}
use Rattle.mm_life.proofs.Idling.{IsNotNew, is_idle_where, open_told}
use Rattle.mm_life.proofs.Living.{AreSeen, LifeLaws, lives}
use Rattle.mm_life.proofs.OptSeen.{items_told, seen_closing, seen_open, seen_shut}
use Rattle.mm_life.proofs.Sessions.{Leads}

module _ (meaning : Meaning) (key barrier : List ℕ) (all others : List (List ℕ)) (asked : List Batch) (clear : IsClear all) where
  abbrev I : Instance
  I = opt_instance meaning key barrier

  -- what the register shows behind calls
  shows_by : (y : History) (old : Standing) (part : LifePart) (final : Standing) (flag : Bool) → y.is_open ≡ flag
      → IsSeen all others old part final → StandsFor I old y → Reaches Opt I old final → Leads I old final
      → ShowsAt all others I y old final
  shows_by y old part final true e seen stands reaches leads =
      let told = items_told meaning key barrier old.items (register_value_of I y) stands.register in
      let r = reaches (digests_of I y) (stands_at I old y stands) e told.0 told.1 in
      record {
        items = told.0;
        known = told.1;
        more = r.more;
        ends = r.shows ∙ ap (λ (flag : Bool). Some (standing_items flag told.0 ++ r.more)) (sym e);
        shown_are = seen_open meaning key barrier all others y old part final seen stands told.0 r.more told.1 e r.shows;
      }
  shows_by y old part final false e seen stands reaches leads =
      let told = items_told meaning key barrier old.items (register_value_of I y) stands.register in
      let l = leads (digests_of I y) (stands_at I old y stands) in
      let ends = items_told meaning key barrier final.items l.0.register l.1.reads in
      record {
        items = told.0;
        known = told.1;
        more = ends.0;
        ends = ends.1 ∙ ap (λ (flag : Bool). Some (standing_items flag told.0 ++ ends.0)) (sym e);
        shown_are = seen_shut meaning key barrier all others y old part final seen stands ends.0 e ends.1;
      }

  -- others extend the register
  module _ (y : History) (old new : Standing) (values : List (List ℕ)) (cell : new.cell ≡ old.cell)
      (beside_is : new.items ≡ items_beside values old.items) (seen : y.is_open ≡ true → IsSeen all others old (Does (Extends values)) new)
      (stands : StandsFor I old y) (within : IsWithin all others asked I y) where
    abbrev z : History
    z = history_with_values y values

    stands_taking : StandsFor I new z
    stands_taking =
        let d : Digests = digests_of I y in
        let at = stands_at I old y stands in
        let read : StandsAt I new (with_register d (fold extended_digest_of d.register values)) = record {
          spells = at.spells;
          cell = cell ∙ at.cell;
          reads = ap (λ (xs : Option (List Item)). register_of_items xs) beside_is ∙ reads_beside old.items values d.register at.reads;
        } in
        let is : with_register d (fold extended_digest_of d.register values) ≡ digests_of I z =
        sym (foreign_made I d values)
        ∙ agrees_is I (state_after_moves (list_level I) y (map Foreign values)) (state_after_moves (digest_level I) d (map Foreign values))
        (foreign_agrees meaning key barrier values y d (is_agrees I y d refl))
        ∙ ap (digests_of I) (taking_is I values y) in
        stands_for I new z (rw is at read)

    within_taking : (flag : Bool) → y.is_open ≡ flag → IsWithin all others asked I z
    within_taking false e = within_items meaning key barrier all others asked y (y.items ++ map Value values) e within
    within_taking true e =
        let d : Digests = digests_of I y in
        let told = items_told meaning key barrier old.items (register_value_of I y) stands.register in
        let a : AreShown all others I y (map foreign_item values) =
        seen_open meaning key barrier all others y old (Does (Extends values)) new (seen e) stands told.0 (map foreign_item values) told.1 e
        (beside_is ∙ ap (λ (xs : Option (List Item)). items_beside values xs) told.1) in
        let listed : AreMessagesIn (messages_of_moves I y (map Foreign values)) all =
        rw (messages_looked meaning key barrier values y, ← counted_open y e) (rw (foreign_values values) at a.messages) in
        let outside : AllByRecursion (Contains others) values = rw (foreign_of values) at a.values in
        rw (taking_is I values y) at
        (within_of meaning key barrier all others asked (state_after_moves (list_level I) y (map Foreign values))
        (state_after_moves (digest_level I) d (map Foreign values))
        (holds_made meaning key barrier all others asked (map Foreign values) y d
        (holds_open meaning key barrier all others asked y d e (is_agrees I y d refl) within)
        (foreign_all meaning key barrier all others asked values y outside) listed))

    stays_extended : HistoryStays all others asked I y new
    stays_extended = record {
      after = z;
      stands = stands_taking;
      within = within_taking y.is_open refl;
      batches = refl;
      names = λ content n. names_alike meaning key barrier y z content refl n;
    }

  -- power is lost
  module _ (y : History) (old new : Standing) (cell : new.cell ≡ old.cell) (emptied : new.items ≡ option_map (λ _. []) old.items)
      (stands : StandsFor I old y) (within : IsWithin all others asked I y) where
    within_bare : (flag : Bool) → y.is_open ≡ flag → IsWithin all others asked I (bare y)
    within_bare false e = within_items meaning key barrier all others asked y [] e within
    within_bare true e =
        let d : Digests = digests_of I y in
        within_of meaning key barrier all others asked (history_after I y Power) _
        (holds_moved meaning key barrier all others asked y d Power
        (holds_open meaning key barrier all others asked y d e (is_agrees I y d refl) within)
        (power_fine meaning key barrier all others asked y) tt)

    stays_emptied : HistoryStays all others asked I y new
    stays_emptied =
        let told = items_told meaning key barrier old.items (register_value_of I y) stands.register in
        let none : new.items ≡ Some [] = emptied ∙ ap (λ (xs : Option (List Item)). option_map (λ _. []) xs) told.1 in
        record {
          after = bare y;
          stands = record {
            spells = stands.spells;
            cell = cell ∙ stands.cell;
            register = ap (λ (xs : Option (List Item)). register_of_items xs) none ∙ ap (λ (r : List ℕ). Some r) (sym reads_zero);
          };
          within = within_bare y.is_open refl;
          batches = refl;
          names = λ content n. names_alike meaning key barrier y (bare y) content refl n;
        }

  -- a checkpoint is made
  module _ (y : History) (old new : Standing) (said : Result Checkpointed CheckpointRefusal) (k : IsCheckpointOnCourse old new said)
      (seen : y.is_open ≡ true → IsSeen all others old (Does (Checkpoints said)) new) (stands : StandsFor I old y)
      (within : IsWithin all others asked I y) where
    stays_left : (items more : List Item) → old.items ≡ Some items → new.items ≡ Some (standing_items y.is_open items ++ more)
        → (y.is_open ≡ true → AreShown all others I y more × MayClose all I y more) → HistoryStays all others asked I y new
    stays_left items more known ends asks =
        let c = check_leaves meaning key barrier all others asked y items more k stands known ends clear within asks in
        record { after = c.after; stands = c.stands; within = c.within; batches = c.batches; names = c.names }

    stays_by : (flag : Bool) → y.is_open ≡ flag → HistoryStays all others asked I y new
    stays_by flag e =
        let told = items_told meaning key barrier old.items (register_value_of I y) stands.register in
        let on = check_goes_on meaning key barrier k (digests_of I y) (stands_at I old y stands) told.0 told.1 in
        by_flag flag e told.0 told.1 on.0 on.1
      where
        by_flag : (flag : Bool) → y.is_open ≡ flag → (items : List Item) → old.items ≡ Some items → (more : List Item)
            → new.items ≡ Some (items ++ more) → HistoryStays all others asked I y new
        by_flag true e items known more ends =
            stays_left items more known (ends ∙ ap (λ (f : Bool). Some (standing_items f items ++ more)) (sym e))
            (λ _. (
              seen_open meaning key barrier all others y old (Does (Checkpoints said)) new (seen e) stands items more known e ends,
              seen_closing meaning key barrier all others y old (Does (Checkpoints said)) new (seen e) stands items more known e
                  (rw (stands.cell, ends) at (seen e).closings),
            ))
        by_flag false e items known more ends =
            stays_left items (items ++ more) known
            (ends ∙ ap (λ (f : Bool). Some (standing_items f items ++ (items ++ more))) (sym e))
            (λ f. let clash : true ≡ false = sym f ∙ e in absurd (cc))

    stays_checked : HistoryStays all others asked I y new
    stays_checked = stays_by y.is_open refl

  stays : (y : History) (old : Standing) (deed : Deed) (new : Standing) → IsNoCall deed
      → (y.is_open ≡ true → IsSeen all others old (Does deed) new)
      → DeedLeads Opt meaning old deed new → StandsFor I old y → IsWithin all others asked I y → HistoryStays all others asked I y new
  stays y old (Calls c) new quiet seen f stands within = absurd quiet
  stays y old (Extends values) new quiet seen f stands within = stays_extended y old new values f.0 f.1 seen stands within
  stays y old LosesPower new quiet seen f stands within = stays_emptied y old new f.0 f.1 stands within
  stays y old (Checkpoints said) new quiet seen f stands within = stays_checked y old new said f.goes seen stands within

-- a part is still where it is idle
abbrev IsStill : Standing → List LifeCall → Type 0
IsStill old calls = is_idle old calls ≡ true

idle_parts : (a b : Bool) → (not a && b) ≡ true → (a ≡ false) × (b ≡ true)
idle_parts true b e = absurd (cc)
idle_parts false b e = (refl, e)

few_still : (old : Standing) (calls : List LifeCall) → IsStill old calls → (calls ≡ []) ⊎ ((c : LifeCall) × (calls ≡ c ∷ []))
few_still old [] e = inl refl
few_still old (c ∷ []) e = inr (c, refl)
few_still old (c ∷ next ∷ calls) e = let clash : false ≡ true = (idle_parts (has_open_segment old) false e).1 in absurd (cc)

-- an idle part asks nothing new
old_not_new : (gives : Result BatchAnswer Refusal) → is_old gives ≡ true → IsNotNew gives
old_not_new (Ok answer) e = e
old_not_new (Err Memory) e = absurd (cc)
old_not_new (Err (Device fault)) e = absurd (cc)
old_not_new (Err _) e = (refl, λ same. cc)

module _ (meaning : Meaning) (lawful : IsLawful meaning) (key barrier : List ℕ) where
  abbrev O : Instance
  O = opt_instance meaning key barrier

  is_shut : (y : History) (old : Standing) → StandsFor O old y → has_open_segment old ≡ false → y.is_open ≡ false
  is_shut y old s shut =
      sym (open_told old y.is_open (record { cell = cell_of O y; is_cell = s.spells; tells = s.cell; shows = refl })) ∙ shut

  -- a call for a batch
  batch_met_in : (all others : List (List ℕ)) (asked : List Batch) → IsClear all → (y : History) (old new : Standing) (c : LifeCall)
      → IsCallOnCourse Opt meaning old new c.offer c.batch c.gives → StandsFor O old y
      → AreAsked all others asked O y c.offer (normal_batch c.batch) → IsSeen all others old (Does (Calls c)) new ⊎ IsStill old (c ∷ [])
      → BatchMet all others asked O y new c.offer (normal_batch c.batch) c.gives
  batch_met_in all others asked clear y old new c goes stands asks (inl seen) =
      let shows = shows_by meaning key barrier all others asked clear y old (Does (Calls c)) new y.is_open refl seen stands
      (opt_reach meaning key barrier old new c.offer c.batch c.gives goes) (λ d s. (_, (goes.goes key barrier d s).stands)) in
      opt_batch_met meaning lawful key barrier all others asked y old new c.offer c.batch c.gives goes stands asks shows.items shows.more
      shows.known shows.ends (λ busy. shows.shown_are)
  batch_met_in all others asked clear y old new c goes stands asks (inr still) =
      let parts = idle_parts _ _ still in
      opt_batch_met_idle meaning lawful key barrier all others asked y old new c.offer c.batch c.gives goes stands asks
      (is_idle_where meaning key barrier all others asked y old new c.offer c.batch c.gives goes stands asks
      (is_shut y old stands parts.0) (old_not_new c.gives parts.1))

  pub opt_life : (all others : List (List ℕ)) (asked : List Batch) → IsClear all → AreNoGuards barrier others asked
      → LifeLaws all others asked O (IsSeen all others) IsStill
  opt_life all others asked clear apart = record {
    laws = λ final. opt_laws meaning lawful key barrier all others asked final clear apart;
    leads = λ old new offer request gives c d s. (_, (c.goes key barrier d s).stands);
    shows = λ y old part final seen stands reaches leads.
        shows_by meaning key barrier all others asked clear y old part final y.is_open refl seen stands reaches leads;
    stays = λ y old deed new quiet seen f stands within.
        stays meaning key barrier all others asked clear y old deed new quiet (λ _. seen) f stands within;
    few = few_still;
    idles = λ y old new offer request gives still makes.
        let parts = idle_parts _ _ still in
        is_idle_where meaning key barrier all others asked y old new offer (One request) (batch_result_of gives) makes.goes makes.stands
        makes.asks (is_shut y old makes.stands parts.0) (old_not_new (batch_result_of gives) parts.1);
    met = λ y old new c goes stands asks seen. batch_met_in all others asked clear y old new c goes stands asks seen;
    stays_still = λ y old deed new quiet still f stands within.
        stays meaning key barrier all others asked clear y old deed new quiet
        (λ e. let shut = is_shut y old stands (idle_parts _ _ still).0 in
        let clash : true ≡ false = sym e ∙ shut in absurd (cc)) f stands within;
  }

  pub seen_unless : (all others : List (List ℕ)) (old : Standing) (part : LifePart) (new : Standing) (calls : List LifeCall) (idle : Bool)
      → is_idle old calls ≡ idle
      → AreMessagesIn (if idle then [] else shown_messages new.items ++ closing_messages part old.cell new.items) all
      → AllByRecursion (Contains others) (if idle then [] else option_map_or foreign_items new.items [])
      → IsSeen all others old part new ⊎ IsStill old calls
  seen_unless all others old part new calls true e w v = inr e
  seen_unless all others old part new calls false e w v = inl (record {
    registers = each_left (Contains all) (shown_messages new.items) (closing_messages part old.cell new.items) w;
    values = v;
    closings = each_right (Contains all) (shown_messages new.items) (closing_messages part old.cell new.items) w;
  })

  pub all_seen : (all others : List (List ℕ)) (asked : List Batch) (clear : IsClear all) (apart : AreNoGuards barrier others asked)
      (start : Standing) (stages : List LifeStage) (f : IsLife Opt meaning start stages)
      → AreMessagesIn (register_messages O start stages f) all
      → AllByRecursion (Contains others) (others_values O start stages f) → AreSeen (opt_life all others asked clear apart) start stages f
  unfolding opt_life
  all_seen all others asked clear apart start [] f w v = tt
  all_seen all others asked clear apart start (stage ∷ stages) f w v =
      let calls : List LifeCall = part_calls Opt meaning start stage.part stage.after f.0 in
      let shown : List (List ℕ) =
      bytes_unless_idle start calls (shown_messages stage.after.items ++ closing_messages stage.part start.cell stage.after.items) in
      let values : List (List ℕ) = bytes_unless_idle start calls (option_map_or foreign_items stage.after.items []) in (
        seen_unless all others start stage.part stage.after calls (is_idle start calls) refl
            (each_left (Contains all) shown (register_messages O stage.after stages f.1) w)
            (each_left (Contains others) values (others_values O stage.after stages f.1) v),
        all_seen all others asked clear apart stage.after stages f.1
            (each_right (Contains all) shown (register_messages O stage.after stages f.1) w)
            (each_right (Contains others) values (others_values O stage.after stages f.1) v),
      )

  -- the first history, on a register that others extended
  first_sound : (values : List (List ℕ)) → IsSound (first_history_on values)
  first_sound values = record {
    open_is = λ e. absurd (cc);
    shut_is = λ e. refl;
    filled = tt;
    history = inl (record { clean = refl; batches = refl });
    register = λ e. absurd (cc);
  }

  pub opt_first_within : (values all others : List (List ℕ)) (asked : List Batch) → Contains all (start_message Opt meaning.id)
      → IsWithin all others asked O (first_history_on values)
  opt_first_within values all others asked started =
      record { sound = first_sound values; outside = tt; listed = (started, tt); batches = tt }

  pub opt_first_genuine : (values : List (List ℕ)) → IsGenuine O (first_history_on values) (issued_bytes O first_history)
  opt_first_genuine values content right =
      subst (λ (x : Content). NamesPosition O (first_history_on values) x)
      (issued_once O (issued_bytes O first_history) (first_history_on values) content
      (opt_content meaning lawful key barrier (first_history_on values) (omega arith)) refl right)
      (opt_issued meaning key barrier (first_history_on values) (first_sound values) refl)

pub opt_deeds_stay : OptDeedsStay
opt_deeds_stay meaning key barrier all others asked y old deed new clear quiet seen f stands within =
    stays meaning key barrier all others asked clear y old deed new quiet (λ _. seen) f stands within

pub opt_is_one : OptLifeIsOne
unfolding opt_life
opt_is_one meaning lawful key barrier values start stages f stands clear apart untagged =
    let i : Instance = opt_instance meaning key barrier in
    let all : List (List ℕ) = opt_messages i start stages f in
    let asked : List Batch = life_batches i start stages f in
    let others : List (List ℕ) = others_values i start stages f in
    let front : List (List ℕ) = life_messages i start stages f in
    let back : List (List ℕ) = register_messages i start stages f in
    let itself = each_self [] all in
    let calls = each_left (Contains all) front back itself in
    let l = (lives (opt_life meaning lawful key barrier all others asked clear apart) stages (first_history_on values)
    (issued_bytes i first_history ∷ []) start f stands (opt_first_within meaning lawful key barrier values all others asked calls.0)
    (all_seen meaning lawful key barrier all others asked clear apart start stages f (each_right (Contains all) front back itself)
    (each_self [] others)) (opt_first_genuine meaning lawful key barrier values, tt) untagged
    (record { messages = calls.1; batches = each_self [] asked })).0 in
    record {
      requests = _;
      follows = l.follows;
      history = l.after;
      holds = refl;
      stands = l.stands;
      within = l.within;
      named = l.named;
      judged = l.judged;
    }
