-- What an answer has that a call tells at its end: the size of its snapshot.
use Rattle.std.proofs.Common.{◌≡◌, ◌+◌, ◌≤◌, ℕ, Bool, true, false, IsTrue, List, [], ◌∷◌, length, refl, sym, subst, inl, inr, arith, length-append}
use Rattle.std.specs.Prelude.{Option, None, Some, Result, Ok, Err}
use Rattle.std.proofs.lemmas.Bool.Decides.{nat_tests}
use Rattle.mm_bytes.specs.Limits.{limit_of}
use Rattle.mm_digest.specs.LengthLaws.{length-extended_digest_of, length-hmac_of, length-zero_bytes}
use Rattle.mm_digest.specs.declared.variant.Variant.{Variant}
use Rattle.mm_digest.specs.declared.variant.Variant.TheVariants.{Basic, Opt}
use Rattle.mm_platform.specs.declared.fault.StepFault.{StepFault}
use Rattle.mm_seal.specs.Parts.{place_length}
use Rattle.mm_seal.specs.Cell.{IsCell, ReadsCell}
use Rattle.mm_seal.specs.Snapshot.{Content, IsContent, IsPlace, Snapshot, sealed_snapshot_of, snapshot_front, variant_of}
use Rattle.mm_seal.specs.SnapshotLaws.{length-snapshot_front}
use Rattle.mm_seal.specs.declared.cell.Cell.{Cell}
use Rattle.mm_seal.specs.declared.cell.CellFault.{CellFault}
use Rattle.mm_seal.specs.declared.cell.CellFault.TheVariants.{Blank, Cell as Unspelled}
use Rattle.mm_seal.specs.declared.snapshot.PartsFault.{PartsFault}
use Rattle.mm_seal.specs.declared.snapshot.PartsFault.TheVariants.{Form, Kind}
use Rattle.mm_seal.specs.declared.snapshot.Place.{Place}
use Rattle.mm_machine.specs.Acts.{change_after}
use Rattle.mm_machine.specs.OpSteps.{answer_in, OpMeaning, step_after_change, step_of_finding, step_to}
use Rattle.mm_machine.specs.declared.call.OpResult.{OpResult}
use Rattle.mm_machine.specs.declared.call.OpResult.TheVariants as ended
use Rattle.mm_machine.specs.declared.call.OpStage.{OpStage}
use Rattle.mm_machine.specs.declared.call.OpStage.TheVariants.{Begun, Seen, Changing}
use Rattle.mm_machine.specs.declared.call.StepResult.{StepResult}
use Rattle.mm_machine.specs.declared.call.StepResult.TheVariants.{Going, Over}
use Rattle.mm_machine.specs.declared.change.Change.{Change as Move}
use Rattle.mm_machine.specs.declared.operation.OpFinding.{OpFinding}
use Rattle.mm_machine.specs.declared.operation.OpFinding.TheVariants.{Repeat, Change}
use Rattle.mm_machine.specs.declared.operation.ReadyChange.{ReadyChange}
use Rattle.mm_machine.specs.declared.operation.Sight.{Sight}
use Rattle.mm_machine.specs.declared.operation.Sight.TheVariants as sight
use Rattle.mm_module.specs.Batch.{Batch, members_of, normal_batch, size_of}
use Rattle.mm_module.specs.Meaning.{IsLawful, Meaning, state_from}
use Rattle.mm_module.specs.RunLaws.{state_from-is_spelled}
use Rattle.mm_model.specs.ListLaws.{length-link}
use Rattle.mm_model.specs.declared.answer.BatchAnswer.{BatchAnswer}
use Rattle.mm_model.specs.declared.refusal.Refusal.{Refusal}
use Rattle.mm_model.specs.declared.verdict.Verdict.{Verdict}
use Rattle.mm_call.specs.CallFinding.{answer_at, check_of_offer, IsOrMemory, fault_of}
use Rattle.mm_call.specs.CallKind.{end_by_fault, result_of, end_of_machine}
use Rattle.mm_call.specs.OfferLaws.{weighed_only}
use Rattle.mm_basic.specs.Operation as basic
use Rattle.mm_basic.specs.BasicSight.{BasicSight, NoCell, OtherCell, NoOffer, Both}
use Rattle.mm_opt.specs.Answers as opt
use Rattle.mm_opt.specs.AskPromise.{cell_in, is_cell_of, own_cell}
use Rattle.mm_opt.specs.AskPromise as in_opt
use Rattle.mm_ask.specs.WholeAsk.{ask_operation}
use Rattle.mm_told.specs.declared.step.MadeStep.{MadeStep}
use Rattle.mm_told.specs.declared.step.MadeStep.TheVariants as made
use Rattle.mm_told.specs.CallPath.{MadeStepLeads, StepsReachEnd, step_by_finding, step_by_sight, fault_of_answer}

-- what all answers have that may be found, by what all cells have that are seen
module _ {A : Type 0} (P : A → Type 0) (Q : Cell → Type 0) where
  abbrev StageHas : OpStage A → Type 0
  StageHas Begun = Unit {0}
  StageHas (Seen cell) = Q cell
  StageHas (Changing ready) = P ready.answer

module _ {A : Type 0} (R : Type 0) (P : A → Type 0) (Q : Cell → Type 0) where
  abbrev StepHas : StepResult A R → Type 0
  StepHas (Going stage) = StageHas P Q stage
  StepHas (Over (ended.Answered answer)) = P answer
  StepHas (Over _) = Unit {0}

  abbrev pub FindingHas : Result (OpFinding A) R → Type 0
  FindingHas (Ok found) = P (answer_in found)
  FindingHas (Err why) = Unit {0}

  abbrev pub SightHas : Result (Sight A) R → Type 0
  SightHas (Ok (sight.Found found)) = P (answer_in found)
  SightHas (Ok (sight.Cell cell)) = Q cell
  SightHas (Err why) = Unit {0}

  pub record AnswersHave (o : OpMeaning A R) : Type 0 where
    pub sees : (bytes : List ℕ) (seen : Result (Sight A) R) → o.sees bytes seen → SightHas seen
    pub finds : (cell : Cell) (register : List ℕ) (found : Result (OpFinding A) R) → Q cell → length register ≡ 32
        → o.finds cell register found → FindingHas found

  found_has : (found : OpFinding A) → P (answer_in found) → StepHas (step_of_finding (Ok found))
  found_has (Repeat answer) p = p
  found_has (Change ready) p = p

  seen_has : (seen : Result (Sight A) R) → SightHas seen → StepHas (step_by_sight seen)
  seen_has (Ok (sight.Found found)) h = found_has found h
  seen_has (Ok (sight.Cell cell)) h = h
  seen_has (Err why) h = tt

  weighed_has : (found : Result (OpFinding A) R) → FindingHas found → StepHas (step_by_finding found)
  weighed_has (Ok found) h = found_has found h
  weighed_has (Err why) h = tt

  behind_has : (change : Option Move) (answer : A) → P answer → StepHas (step_to change answer)
  behind_has None answer p = p
  behind_has (Some change) answer p = p

  module _ (o : OpMeaning A R) (has : AnswersHave o) where
    changed_has : (ready : ReadyChange A) (fault : Option StepFault) → P ready.answer → StepHas (step_after_change o ready fault)
    changed_has ready None p = behind_has (change_after ready.change) ready.answer p
    changed_has ready (Some fault) p = tt

    step_has : (from : OpStage A) (it : MadeStep) (step : StepResult A R) → StageHas P Q from → MadeStepLeads o from it step → StepHas step
    step_has Begun (made.ReadCell (Ok bytes)) step h l =
        subst StepHas (sym l.gives) (seen_has l.drawn (has.sees bytes l.drawn l.is_said))
    step_has Begun (made.ReadCell (Err fault)) step h l = subst StepHas (sym l) tt
    step_has Begun _ step h l = absurd l
    step_has (Seen cell) (made.ReadRegister (Ok value)) step h l =
        subst StepHas (sym l.1.gives) (weighed_has l.1.drawn (has.finds cell value.bytes l.1.drawn h l.0 l.1.is_said))
    step_has (Seen cell) (made.ReadRegister (Err fault)) step h l = subst StepHas (sym l) tt
    step_has (Seen cell) _ step h l = absurd l
    step_has (Changing ready) it step h l = subst StepHas (sym l.1) (changed_has ready (fault_of_answer it) h)

    -- so has the one that the call gives
    pub end_has : (from : OpStage A) (steps : List MadeStep) (answer : A) → StageHas P Q from
        → StepsReachEnd o from steps (ended.Answered answer) → P answer
    end_has from [] answer h e = absurd e
    end_has from (it ∷ more) answer h (inl e) = step_has from it (Over (ended.Answered answer)) h e.1
    end_has from (it ∷ more) answer h (inr e) = end_has e.0 more answer (step_has from it (Going e.0) h e.1) e.2

-- a snapshot of a content within its bounds

place_most : (variant : Variant) → place_length variant ≤ 64
place_most Basic = omega arith
place_most Opt = omega arith

size_most : (front state place limit tag : ℕ) → front ≡ 18 + place + state → place ≤ 64 → state ≤ limit → tag ≡ 32
    → front + tag ≤ 114 + limit
size_most front state place limit tag e p s t = omega arith

pub sealed_most : (key : List ℕ) (content : Content) → IsContent content
    → length (sealed_snapshot_of key content) ≤ 114 + limit_of content.id
unfolding sealed_snapshot_of
sealed_most key content is =
    rw length-append (size_most (length (snapshot_front content)) (length content.state) (place_length (variant_of content.place))
    (limit_of content.id) _ (length-snapshot_front content is) (place_most (variant_of content.place)) is.state
    (length-hmac_of key (snapshot_front content)))

module _ (meaning : Meaning) (b : Batch) where
  abbrev IsSmall : BatchAnswer → Type 0
  IsSmall answer = length answer.snapshot ≤ 114 + limit_of meaning.id

  from_has : (r : Result Bool Refusal) (next : List ℕ) (answer : Bool → BatchAnswer)
      → ((again : Bool) → r ≡ Ok again → IsSmall (answer again)) → FindingHas Refusal IsSmall IsCell (basic.finding_from r next answer)
  from_has (Err why) next answer h = tt
  from_has (Ok true) next answer h = h true refl
  from_has (Ok false) next answer h = h false refl

  or_has : (x found : Result (OpFinding BatchAnswer) Refusal) → FindingHas Refusal IsSmall IsCell x → IsOrMemory x found
      → FindingHas Refusal IsSmall IsCell found
  or_has (Err why) found h o = rw o h
  or_has (Ok it) found h (inl e) = rw e h
  or_has (Ok it) found h (inr e) = rw e tt

  module _ (lawful : IsLawful meaning) where
    -- an offer that is accepted leads to such an answer
    accepted_small : (key : List ℕ) (offered : Snapshot) (verdict : Verdict) (place : Place) (again : Bool) → IsPlace place
        → check_of_offer meaning key offered b verdict ≡ Ok again → IsSmall (answer_at meaning key offered.content place b again)
    accepted_small key offered verdict place again placed e =
        let a = weighed_only _ _ _ _ again e in
        sealed_most key (record {
          id = meaning.id;
          place = place;
          position = offered.content.position + size_of b;
          state = state_from meaning offered.content.state (members_of b);
        }) (record {
          place = placed;
          position = grind (arith, nat_tests, a.fitting);
          state = lawful.fits (state_from meaning offered.content.state (members_of b))
              (state_from-is_spelled meaning lawful offered.content.state (members_of b)
              (subst (λ (t : Bool). IsTrue t) (sym a.spelled) refl));
        })

    basic_small : (seen : BasicSight) → FindingHas Refusal IsSmall IsCell (basic.finding_in meaning seen b)
    basic_small (NoCell Blank) = tt
    basic_small (NoCell Unspelled) = tt
    basic_small OtherCell = tt
    basic_small (NoOffer Form) = tt
    basic_small (NoOffer Kind) = tt
    basic_small (Both cell offered) =
        from_has (check_of_offer meaning cell.key offered b (basic.verdict_of cell offered b))
        (basic.committed_cell cell offered.content b) (basic.answer_of meaning cell.key offered.content b)
        (λ again e. accepted_small cell.key offered (basic.verdict_of cell offered b) _ again
        (length-link (basic.summary_in offered.content.place) (normal_batch b)) e)

    basic_sees : (offer bytes : List ℕ) (seen : Result (Sight BatchAnswer) Refusal) → basic.SeesAtCell meaning offer b bytes seen
        → SightHas Refusal IsSmall IsCell seen
    basic_sees offer bytes (Ok (sight.Found found)) s =
        or_has (basic.finding_in meaning s.seen b) (Ok found) (basic_small s.seen) s.found_is
    basic_sees offer bytes (Ok (sight.Cell cell)) s = absurd s
    basic_sees offer bytes (Err why) s = tt

    -- Opt

    own_is : (own : Bool) (cell seen : Cell) → own_cell own cell ≡ Ok seen → IsCell cell → IsCell seen
    own_is true cell seen e is = let same : cell ≡ seen = cc in subst IsCell same is
    own_is false cell seen e is = absurd (cc)

    cell_is : (bytes : List ℕ) (read : Result Cell CellFault) (seen : Cell) → ReadsCell bytes read → Ok seen ≡ cell_in meaning.id read
        → IsCell seen
    cell_is bytes (Err Blank) seen r e = absurd (cc)
    cell_is bytes (Err Unspelled) seen r e = absurd (cc)
    cell_is bytes (Ok cell) seen r e = own_is (is_cell_of meaning.id cell) cell seen (sym e) r.0

    opt_sees : (bytes : List ℕ) (seen : Result (Sight BatchAnswer) Refusal) → in_opt.SeesAtCell meaning.id bytes seen
        → SightHas Refusal IsSmall IsCell seen
    opt_sees bytes (Ok (sight.Found found)) s = absurd s
    opt_sees bytes (Ok (sight.Cell cell)) s = cell_is bytes s.read cell s.reads s.found_is
    opt_sees bytes (Err why) s = tt

    extension_size : (flag : Bool) (register : List ℕ) → length register ≡ 32 → length (opt.extension_at flag register) ≡ 32
    extension_size true register size = size
    extension_size false register size = length-zero_bytes

    after_size : (again : Bool) (extension value : List ℕ) → length extension ≡ 32
        → length (opt.extension_after again extension value) ≡ 32
    after_size true extension value size = size
    after_size false extension value size = length-extended_digest_of extension value

    by_small : (flag : Bool) (value next : List ℕ) (answer : BatchAnswer) → IsSmall answer
        → FindingHas Refusal IsSmall IsCell (Ok (opt.change_by flag value next answer))
    by_small true value next answer p = p
    by_small false value next answer p = p

    opt_from : (r : Result Bool Refusal) (cell : Cell) (value : List ℕ) (answer : Bool → BatchAnswer)
        → ((again : Bool) → r ≡ Ok again → IsSmall (answer again))
        → FindingHas Refusal IsSmall IsCell (opt.finding_from r cell value answer)
    opt_from (Err why) cell value answer h = tt
    opt_from (Ok true) cell value answer h = h true refl
    opt_from (Ok false) cell value answer h = by_small cell.flag value (opt.opened_cell cell) (answer false) (h false refl)

    offer_small : (cell : Cell) (register : List ℕ) → IsCell cell → length register ≡ 32 → (taken : Result Snapshot PartsFault)
        → FindingHas Refusal IsSmall IsCell (opt.finding_in_offer meaning cell register taken b)
    offer_small cell register is size (Err Form) = tt
    offer_small cell register is size (Err Kind) = tt
    offer_small cell register is size (Ok offered) =
        opt_from (check_of_offer meaning cell.key offered b (opt.verdict_of cell register offered b)) cell
        (opt.batch_value cell b) (opt.answer_of meaning cell register offered.content b)
        (λ again e. accepted_small cell.key offered (opt.verdict_of cell register offered b) _ again (
          is.summary,
          after_size again (opt.extension_at cell.flag register) (opt.batch_value cell b)
              (extension_size cell.flag register size),
        ) e)

    unless_small : (lost : Bool) (found : Result (OpFinding BatchAnswer) Refusal) → FindingHas Refusal IsSmall IsCell found
        → FindingHas Refusal IsSmall IsCell (opt.finding_unless lost found)
    unless_small true found h = tt
    unless_small false found h = h

    opt_finds : (offer : List ℕ) (cell : Cell) (register : List ℕ) (found : Result (OpFinding BatchAnswer) Refusal) → IsCell cell
        → length register ≡ 32 → in_opt.FindsQuietly meaning cell register offer b found → FindingHas Refusal IsSmall IsCell found
    opt_finds offer cell register found is size f =
        or_has (opt.finding_in meaning cell register f.finds.taken b) found
        (unless_small (opt.has_lost_power cell register) (opt.finding_in_offer meaning cell register f.finds.taken b)
        (offer_small cell register is size f.finds.taken)) f.finds.found_is

    none_finds : (found : Result (OpFinding BatchAnswer) Refusal) (why : Refusal) → found ≡ Err why
        → FindingHas Refusal IsSmall IsCell found
    none_finds found why e = rw e tt

    small_by : (variant : Variant) (offer : List ℕ) → AnswersHave Refusal IsSmall IsCell (ask_operation variant meaning offer b)
    small_by Basic offer = record {
      sees = basic_sees offer;
      finds = λ cell register found is size e. none_finds found _ e;
    }
    small_by Opt offer = record { sees = opt_sees; finds = opt_finds offer }

    -- the snapshot of an answer that a call gives at its end
    pub answer_small : (variant : Variant) (offer : List ℕ) (steps : List MadeStep) (end : OpResult BatchAnswer Refusal)
        (answer : BatchAnswer) → StepsReachEnd (ask_operation variant meaning offer b) Begun steps end
        → result_of (end_of_machine end) ≡ Ok answer → length answer.snapshot ≤ 114 + limit_of meaning.id
    answer_small variant offer steps (ended.Answered given) answer e g =
        let small : IsSmall given =
        end_has Refusal IsSmall IsCell (ask_operation variant meaning offer b) (small_by variant offer) Begun steps given tt e in
        let same : given ≡ answer = cc in subst IsSmall same small
    answer_small variant offer steps (ended.Refused why) answer e g = absurd (refused_none (fault_of why) why answer g)
      where
        refused_none : (fault : Option StepFault) (why : Refusal) (answer : BatchAnswer)
            → result_of (end_by_fault fault why) ≡ Ok answer → ⊥
        refused_none None why answer g = absurd (cc)
        refused_none (Some fault) why answer g = absurd (cc)
    answer_small variant offer steps ended.Lacks answer e g = absurd (cc)
    answer_small variant offer steps (ended.Broken fault commits) answer e g = absurd (cc)
