-- A call makes few steps: a host that makes the steps that it is told has room for them.
use Rattle.std.proofs.Common.{◌≡◌, ℕ, ◌+◌, ◌<◌, ◌≤◌, Bool, true, false, List, [], ◌∷◌, length, refl, subst, inl, inr, arith}
use Rattle.std.specs.Prelude.{Option, None, Some, Result, Ok, Err}
use Rattle.std.specs.Result.{result_map_both}
use Rattle.mm_digest.specs.declared.variant.Variant.{Variant}
use Rattle.mm_digest.specs.declared.variant.Variant.TheVariants.{Basic, Opt}
use Rattle.mm_platform.specs.declared.fault.StepFault.{StepFault}
use Rattle.mm_platform.specs.Standing.{Act}
use Rattle.mm_seal.specs.declared.cell.Cell.{Cell}
use Rattle.mm_machine.specs.Acts.{change_after}
use Rattle.mm_machine.specs.OpSteps.{OpMeaning, step_after_change, step_to}
use Rattle.mm_machine.specs.declared.call.OpStage.{OpStage}
use Rattle.mm_machine.specs.declared.call.OpStage.TheVariants.{Begun, Seen, Changing}
use Rattle.mm_machine.specs.declared.call.StepResult.{StepResult}
use Rattle.mm_machine.specs.declared.call.StepResult.TheVariants.{Going}
use Rattle.mm_machine.specs.declared.change.Change.{Change as Move}
use Rattle.mm_machine.specs.declared.change.Change.TheVariants.{Extending, Emptying, Placing, Writing}
use Rattle.mm_machine.specs.declared.operation.OpFinding.{OpFinding}
use Rattle.mm_machine.specs.declared.operation.OpFinding.TheVariants.{Repeat, Change}
use Rattle.mm_machine.specs.declared.operation.ReadyChange.{ReadyChange}
use Rattle.mm_machine.specs.declared.operation.Sight.{Sight}
use Rattle.mm_machine.specs.declared.operation.Sight.TheVariants as sight
use Rattle.mm_module.specs.Batch.{Batch}
use Rattle.mm_module.specs.Meaning.{Meaning}
use Rattle.mm_seal.specs.declared.cell.CellFault.TheVariants.{Blank, Cell as Unspelled}
use Rattle.mm_seal.specs.declared.snapshot.PartsFault.TheVariants.{Form, Kind}
use Rattle.mm_model.specs.declared.answer.BatchAnswer.{BatchAnswer}
use Rattle.mm_model.specs.declared.refusal.Refusal.{Refusal}
use Rattle.mm_call.specs.CallFinding.{IsOrMemory, check_of_offer}
use Rattle.mm_basic.specs.Operation.{finding_in, finding_from, committed_cell, answer_of, basic_operation, SeesAtCell, verdict_of}
use Rattle.mm_basic.specs.BasicSight.{BasicSight, NoCell, OtherCell, NoOffer, Both}
use Rattle.mm_opt.specs.AskPromise.{opt_operation}
use Rattle.mm_opt.specs.Checkpoints.{closing_operation, sight_of, write_finding}
use Rattle.mm_opt.specs.declared.segment.Checkpointed.{Checkpointed}
use Rattle.mm_opt.specs.declared.segment.Checkpointed.TheVariants.{Done}
use Rattle.mm_opt.specs.declared.segment.CheckpointRefusal.{CheckpointRefusal}
use Rattle.mm_opt.specs.declared.segment.Segment.{Segment}
use Rattle.mm_opt.specs.declared.segment.Segment.TheVariants.{Open, Shut}
use Rattle.mm_ask.specs.WholeAsk.{ask_operation}
use Rattle.mm_told.specs.declared.step.MadeStep.{MadeStep}
use Rattle.mm_told.specs.declared.step.MadeStep.TheVariants as made
use Rattle.mm_told.specs.CallPath.{MadeStepLeads, StepsReachStage, IsNextStep, step_by_sight, step_by_finding, fault_of_answer}
use Rattle.mm_told.specs.ToldAskPromise.{most_steps}

-- how many steps a change makes, with those behind it
abbrev left_in : Move → ℕ
left_in (Extending value) = 1
left_in (Emptying opening) = 3
left_in (Placing opening) = 2
left_in (Writing next) = 1

few : (change : Move) → left_in change ≤ 3
few (Extending value) = omega arith
few (Emptying opening) = omega arith
few (Placing opening) = omega arith
few (Writing next) = omega arith

some : (change : Move) → 1 ≤ left_in change
some (Extending value) = omega arith
some (Emptying opening) = omega arith
some (Placing opening) = omega arith
some (Writing next) = omega arith

-- how many a call makes at most that stands here
abbrev left_at : {A : Type 0} → OpStage A → ℕ
left_at Begun = 5
left_at (Seen cell) = 4
left_at (Changing ready) = left_in ready.change

some_at : {A : Type 0} (stage : OpStage A) → 1 ≤ left_at stage
some_at Begun = omega arith
some_at (Seen cell) = omega arith
some_at (Changing ready) = some ready.change

module _ {A R : Type 0} (o : OpMeaning A R) where
  behind : (change : Move) (answer : A) (next : OpStage A)
      → ◌≡◌ {A = StepResult A R} (Going next) (step_to (change_after change) answer) → left_at next < left_in change
  behind (Extending value) answer next e = absurd (cc)
  behind (Emptying opening) answer next e =
      let is : next ≡ Changing (record { change = Placing opening; answer = answer }) = cc in rw is (omega arith)
  behind (Placing opening) answer next e =
      let is : next ≡ Changing (record { change = Writing opening.next; answer = answer }) = cc in rw is (omega arith)
  behind (Writing bytes) answer next e = absurd (cc)

  by_change : (ready : ReadyChange A) (fault : Option StepFault) (next : OpStage A) → Going next ≡ step_after_change o ready fault
      → left_at next < left_in ready.change
  by_change ready None next e = behind ready.change ready.answer next e
  by_change ready (Some fault) next e = absurd (cc)

  by_finding : (found : Result (OpFinding A) R) (next : OpStage A) → Going next ≡ step_by_finding found → left_at next ≤ 3
  by_finding (Err why) next e = absurd (cc)
  by_finding (Ok (Repeat answer)) next e = absurd (cc)
  by_finding (Ok (Change ready)) next e =
      let is : next ≡ Changing (record { change = ready.change; answer = ready.answer }) = cc in rw is (few ready.change)

  by_sight : (seen : Result (Sight A) R) (next : OpStage A) → Going next ≡ step_by_sight seen → left_at next ≤ 4
  by_sight (Err why) next e = absurd (cc)
  by_sight (Ok (sight.Found found)) next e = omega (arith, by_finding (Ok found) next e)
  by_sight (Ok (sight.Cell cell)) next e = let is : next ≡ Seen cell = cc in rw is (omega arith)

  fewer : (from : OpStage A) (it : MadeStep) (next : OpStage A) → MadeStepLeads o from it (Going next)
      → left_at next < left_at from
  fewer Begun (made.ReadCell (Ok bytes)) next l = omega (arith, by_sight l.drawn next l.gives)
  fewer Begun (made.ReadCell (Err fault)) next l = absurd (cc)
  fewer Begun _ next l = absurd l
  fewer (Seen cell) (made.ReadRegister (Ok value)) next l = omega (arith, by_finding l.1.drawn next l.1.gives)
  fewer (Seen cell) (made.ReadRegister (Err fault)) next l = absurd (cc)
  fewer (Seen cell) _ next l = absurd l
  fewer (Changing ready) it next l = by_change ready (fault_of_answer it) next l.1

  reached : (from : OpStage A) (steps : List MadeStep) (stage : OpStage A) → StepsReachStage o from steps stage
      → length steps + left_at stage ≤ left_at from
  reached from [] stage s = rw s (omega arith)
  reached from (it ∷ more) stage s = omega (arith, fewer from it s.0 s.1, reached s.0 more stage s.2)

  -- another step comes behind four at most
  few_steps : (steps : List MadeStep) (act : Act) → IsNextStep o Begun steps act → length steps < 5
  few_steps steps act n = omega (arith, reached Begun steps n.stage n.stands, some_at n.stage)

-- Basic: what is found is a write, or nothing is to be done

abbrev IsWriteOrRepeat : OpFinding BatchAnswer → Type 0
IsWriteOrRepeat (Repeat answer) = Unit {0}
IsWriteOrRepeat (Change ready) = left_in ready.change ≡ 1

writes : (checked : Result Bool Refusal) (next : List ℕ) (answer : Bool → BatchAnswer) (found : OpFinding BatchAnswer)
    → IsOrMemory (finding_from checked next answer) (Ok found) → IsWriteOrRepeat found
writes (Err why) next answer found o = absurd (cc)
writes (Ok true) next answer found (inl e) = let is : found ≡ Repeat (answer true) = cc in rw is tt
writes (Ok true) next answer found (inr e) = absurd (cc)
writes (Ok false) next answer found (inl e) =
    let is : found ≡ Change (record { change = Writing next; answer = answer false }) = cc in rw is refl
writes (Ok false) next answer found (inr e) = absurd (cc)

finds_write : (meaning : Meaning) (seen : BasicSight) (b : Batch) (found : OpFinding BatchAnswer)
    → IsOrMemory (finding_in meaning seen b) (Ok found) → IsWriteOrRepeat found
finds_write meaning (NoCell Blank) b found o = absurd (cc)
finds_write meaning (NoCell Unspelled) b found o = absurd (cc)
finds_write meaning OtherCell b found o = absurd (cc)
finds_write meaning (NoOffer Form) b found o = absurd (cc)
finds_write meaning (NoOffer Kind) b found o = absurd (cc)
finds_write meaning (Both cell offered) b found o =
    writes (check_of_offer meaning cell.key offered b (verdict_of cell offered b))
    (committed_cell cell offered.content b) (answer_of meaning cell.key offered.content b) found o

module _ (meaning : Meaning) (offer : List ℕ) (b : Batch) where
  basic_sight : (bytes : List ℕ) (seen : Result (Sight BatchAnswer) Refusal) (next : OpStage BatchAnswer)
      → SeesAtCell meaning offer b bytes seen → Going next ≡ step_by_sight seen → left_at next ≤ 1
  basic_sight bytes (Err why) next s e = absurd (cc)
  basic_sight bytes (Ok (sight.Cell cell)) next s e = absurd s
  basic_sight bytes (Ok (sight.Found (Repeat answer))) next s e = absurd (cc)
  basic_sight bytes (Ok (sight.Found (Change ready))) next s e =
      let is : next ≡ Changing (record { change = ready.change; answer = ready.answer }) = cc in
      rw is (omega (arith, finds_write meaning s.seen b (Change ready) s.found_is))

  basic_first : (it : MadeStep) (next : OpStage BatchAnswer) → MadeStepLeads (basic_operation meaning offer b) Begun it (Going next)
      → left_at next ≤ 1
  basic_first (made.ReadCell (Ok bytes)) next l = basic_sight bytes l.drawn next l.is_said l.gives
  basic_first (made.ReadCell (Err fault)) next l = absurd (cc)
  basic_first _ next l = absurd l

  few_in_basic : (steps : List MadeStep) (act : Act) → IsNextStep (basic_operation meaning offer b) Begun steps act
      → length steps < 2
  few_in_basic [] act n = omega arith
  few_in_basic (it ∷ more) act n =
      omega (
        arith,
        basic_first it n.stands.0 n.stands.1,
        reached (basic_operation meaning offer b) n.stands.0 more n.stage n.stands.2,
        some_at n.stage,
      )

  -- either
  pub few_asked : (variant : Variant) (steps : List MadeStep) (act : Act)
      → IsNextStep (ask_operation variant meaning offer b) Begun steps act → length steps < most_steps variant
  few_asked Basic steps act n = few_in_basic steps act n
  few_asked Opt steps act n = few_steps (opt_operation meaning offer b) steps act n

-- a checkpoint reads the cell and the register, and writes once

closing_sight : (seen : Result (Sight Checkpointed) CheckpointRefusal) (found : Result Segment CheckpointRefusal)
    (next : OpStage Checkpointed) → seen ≡ result_map_both sight_of (λ why. why) found → Going next ≡ step_by_sight seen
    → (cell : Cell) × (next ≡ Seen cell)
closing_sight seen (Err why) next s e = absurd (cc)
closing_sight seen (Ok Shut) next s e = absurd (cc)
closing_sight seen (Ok (Open cell)) next s e = (cell, cc)

closing_first : (it : MadeStep) (next : OpStage Checkpointed) → MadeStepLeads closing_operation Begun it (Going next)
    → (cell : Cell) × (next ≡ Seen cell)
closing_first (made.ReadCell (Ok bytes)) next l = closing_sight l.drawn l.is_said.found next l.is_said.gives l.gives
closing_first (made.ReadCell (Err fault)) next l = absurd (cc)
closing_first _ next l = absurd l

closing_found : (given : Result (OpFinding Checkpointed) CheckpointRefusal) (found : Result (List ℕ) CheckpointRefusal)
    (next : OpStage Checkpointed) → given ≡ result_map_both write_finding (λ why. why) found → Going next ≡ step_by_finding given
    → left_at next ≤ 1
closing_found given (Err why) next s e = absurd (cc)
closing_found given (Ok bytes) next s e =
    let is : next ≡ Changing (record { change = Writing bytes; answer = Done }) = cc in rw is (omega arith)

closing_second : (cell : Cell) (it : MadeStep) (next : OpStage Checkpointed)
    → MadeStepLeads closing_operation (Seen cell) it (Going next) → left_at next ≤ 1
closing_second cell (made.ReadRegister (Ok value)) next l =
    closing_found l.1.drawn l.1.is_said.found next l.1.is_said.gives l.1.gives
closing_second cell (made.ReadRegister (Err fault)) next l = absurd (cc)
closing_second cell _ next l = absurd l

few_behind : (cell : Cell) (steps : List MadeStep) (stage : OpStage Checkpointed)
    → StepsReachStage closing_operation (Seen cell) steps stage → length steps < 2
few_behind cell [] stage s = omega arith
few_behind cell (it ∷ more) stage s =
    omega (arith, closing_second cell it s.0 s.1, reached closing_operation s.0 more stage s.2, some_at stage)

pub few_closing : (steps : List MadeStep) (act : Act) → IsNextStep closing_operation Begun steps act → length steps < 3
few_closing [] act n = omega arith
few_closing (it ∷ more) act n =
    let seen = closing_first it n.stands.0 n.stands.1 in
    let few : length more < 2 =
    few_behind seen.0 more n.stage
    (subst (λ (x : OpStage Checkpointed). StepsReachStage closing_operation x more n.stage) seen.1 n.stands.2) in
    omega (arith, few)
