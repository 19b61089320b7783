-- Basic: a life is one whole.
use Rattle.std.specs.List.{Contains}
use Rattle.std.proofs.Common.{◌≡◌, ◌∙◌, ℕ, List, [], ◌∷◌, map, arith, refl, ap, subst, inl}
use Rattle.mm_digest.specs.Messages.{start_message}
use Rattle.mm_digest.specs.declared.variant.Variant.TheVariants.{Basic}
use Rattle.mm_seal.specs.Snapshot.{Content}
use Rattle.mm_platform.specs.Standing.{Standing}
use Rattle.mm_module.specs.Batch.{Batch}
use Rattle.mm_module.specs.Meaning.{IsLawful, Meaning}
use Rattle.mm_model.specs.History.{Foreign, History, Move, first_history}
use Rattle.mm_model.specs.Chains.{Instance, basic_instance}
use Rattle.mm_model.specs.ListLaws.{each_self}
use Rattle.mm_model.specs.Messages.{AreNoGuards, IsClear}
use Rattle.mm_model.specs.Moves.{digests_of}
use Rattle.mm_model.specs.Standing.{NamesPosition, IsGenuine, StandsFor, issued_bytes}
use Rattle.mm_model.proofs.Above.{basic_issued}
use Rattle.mm_call.specs.CallPremises.{IsWithin, counted_moves, moves_from_reset}
use Rattle.mm_call.specs.Checkpoints.{checkpoint_outcome}
use Rattle.mm_call.specs.CallFinding.{digest_level, list_level}
use Rattle.mm_call.specs.OfferLaws.{committed_batches, same_batches, basic_content, issued_once}
use Rattle.mm_call.specs.WalkLaws.{committed-foreign}
use Rattle.mm_call.proofs.Above.{names_made, read_moves}
use Rattle.mm_opt.specs.CheckpointPromise.{IsCheckpointOnCourse}
use Rattle.mm_recovery.proofs.Above.{basic_batch_met}
use Rattle.mm_host.proofs.Above.{basic_laws}
use Rattle.mm_life.specs.Deeds.{LifeCall, Calls, Checkpoints, Deed, DeedLeads, Extends, LosesPower}
use Rattle.mm_life.specs.Laws.{BasicLifeIsOne}
use Rattle.mm_life.specs.Premises.{life_batches, life_messages, BasicDeedsStay, IsNoCall, HistoryStays}
use Rattle.mm_life.specs.Stages.{IsLife, LifePart, LifeStage, life_calls}
use Rattle.mm_life.specs.Below.{Checkpointed, CheckpointRefusal}
use Rattle.std.specs.Prelude.{Result}
use Rattle.mm_life.proofs.Living.{AreSeen, LifeLaws, lives}

none_reset : (values : List (List ℕ)) → moves_from_reset (map Foreign values) ≡ []
none_reset [] = refl
none_reset (v ∷ values) = none_reset values

-- values of none are no guards
none_foreign : (barrier : List ℕ) (asked : List Batch) → AreNoGuards barrier [] asked
none_foreign barrier asked d b among batches = absurd (omega (arith, among.1))

module _ (meaning : Meaning) (key : List ℕ) (all others : List (List ℕ)) (asked : List Batch) (clear : IsClear all) where
  abbrev I : Instance
  I = basic_instance meaning key

  -- where the cell is as before
  stays_same : (y : History) (old new : Standing) → new.cell ≡ old.cell → StandsFor I old y → IsWithin all others asked I y
      → HistoryStays all others asked I y new
  stays_same y old new same stands within = record {
    after = y;
    stands = record { spells = stands.spells; cell = same ∙ stands.cell; register = tt };
    within = within;
    batches = refl;
    names = λ content n. n;
  }

  -- a checkpoint finds no segment
  stays_checked : (y : History) (old new : Standing) (said : Result Checkpointed CheckpointRefusal) → IsCheckpointOnCourse old new said
      → StandsFor I old y → IsWithin all others asked I y → HistoryStays all others asked I y new
  stays_checked y old new said k stands within =
      let moves : List Move = (checkpoint_outcome I (digest_level I) (digests_of I y) k.course).moves in
      let are : moves ≡ map Foreign (k.course.fates 1).brings = read_moves (k.course.fates 1).brings (k.course.fates 1).ends in
      let none : counted_moves y.is_open moves ≡ [] =
      ap (λ f. counted_moves f moves) within.sound.shut ∙ ap moves_from_reset are ∙ none_reset (k.course.fates 1).brings in
      let f = k.continues Basic meaning key key y all others asked stands
      (record { clear = clear; within = within; messages = rw none tt; values = rw none tt }) in
      record {
        after = (checkpoint_outcome I (list_level I) y k.course).state;
        stands = f.stands;
        within = f.within;
        batches = same_batches I moves y (ap committed_batches are ∙ committed-foreign (k.course.fates 1).brings);
        names = names_made meaning key moves y;
      }

  stays : (y : History) (old : Standing) (deed : Deed) (new : Standing) → IsNoCall deed → DeedLeads Basic meaning old deed new
      → StandsFor I old y → IsWithin all others asked I y → HistoryStays all others asked I y new
  stays y old (Calls c) new quiet f stands within = absurd quiet
  stays y old (Extends values) new quiet f stands within = stays_same y old new f.0 stands within
  stays y old LosesPower new quiet f stands within = stays_same y old new f.0 stands within
  stays y old (Checkpoints said) new quiet f stands within = stays_checked y old new said f.goes stands within

module _ (meaning : Meaning) (lawful : IsLawful meaning) (key : List ℕ) where
  abbrev B : Instance
  B = basic_instance meaning key

  -- nothing is asked of what the register shows
  abbrev NothingSeen : Standing → LifePart → Standing → Type 0
  NothingSeen old part new = Unit {0}

  -- so no part need be still
  abbrev NoneStill : Standing → List LifeCall → Type 0
  NoneStill old calls = ⊥

  pub basic_life : (all : List (List ℕ)) (asked : List Batch) → IsClear all → LifeLaws all [] asked B NothingSeen NoneStill
  basic_life all asked clear = record {
    laws = λ final. basic_laws meaning lawful key all [] asked final clear (none_foreign B.barrier asked);
    leads = λ old new offer request gives c d s. (_, (c.goes key key d s).stands);
    shows = λ y old part final seen stands reaches leads. tt;
    stays = λ y old deed new quiet seen f stands within.
        stays meaning key all [] asked clear y old deed new quiet f stands within;
    few = λ old calls still. absurd still;
    idles = λ y old new offer request gives still makes. absurd still;
    met = λ y old new c goes stands asks seen.
        basic_batch_met meaning lawful key all [] asked y old new c.offer c.batch c.gives goes stands asks;
    stays_still = λ y old deed new quiet still f stands within. absurd still;
  }

  pub all_seen : (all : List (List ℕ)) (asked : List Batch) (clear : IsClear all) (start : Standing) (stages : List LifeStage)
      (f : IsLife Basic meaning start stages) → AreSeen (basic_life all asked clear) start stages f
  unfolding basic_life
  all_seen all asked clear start [] f = tt
  all_seen all asked clear start (stage ∷ stages) f = (inl tt, all_seen all asked clear stage.after stages f.1)

  -- what was issued at the first start names its end
  pub first_genuine : IsGenuine B first_history (issued_bytes B first_history)
  first_genuine content right =
      subst (λ (x : Content). NamesPosition B first_history x)
      (issued_once B (issued_bytes B first_history) first_history content
      (basic_content meaning lawful key first_history (omega arith)) refl right) (basic_issued meaning key first_history)

  pub first_within : (all : List (List ℕ)) (asked : List Batch) → Contains all (start_message Basic meaning.id)
      → IsWithin all [] asked B first_history
  first_within all asked started =
      record { sound = record { closed = refl; shut = refl }; outside = tt; listed = (started, tt); batches = tt }

pub basic_deeds_stay : BasicDeedsStay
basic_deeds_stay meaning key all others asked y old deed new clear quiet f stands within =
    stays meaning key all others asked clear y old deed new quiet f stands within

pub basic_is_one : BasicLifeIsOne
unfolding basic_life
basic_is_one meaning lawful key start stages f stands clear untagged =
    let i : Instance = basic_instance meaning key in
    let calls : List LifeCall = life_calls Basic meaning start stages f in
    let all : List (List ℕ) = life_messages i start stages f in
    let asked : List Batch = life_batches i start stages f in
    let itself = each_self [] all in
    let l = (lives (basic_life meaning lawful key all asked clear) stages first_history (issued_bytes i first_history ∷ []) start f stands
    (first_within meaning lawful key all asked itself.0) (all_seen meaning lawful key all asked clear start stages f)
    (first_genuine meaning lawful key, tt) untagged (record { messages = itself.1; batches = each_self [] asked })).0 in
    record {
      requests = _;
      follows = l.follows;
      history = l.after;
      holds = refl;
      stands = l.stands;
      within = l.within;
      named = l.named;
      judged = l.judged;
    }
