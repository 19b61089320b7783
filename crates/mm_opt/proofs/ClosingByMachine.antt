-- A checkpoint by the machine is the one that the definitions of a checkpoint give.
use Rattle.mm_opt.proofs.Below.{◌≡◌, ℕ, false, List, [], ◌∷◌, Option, None, Some, Result, Ok, Err, refl, sym, ap, ◌∙◌, subst, ◌+◌, ◌≤◌}
use Rattle.mm_opt.proofs.Below.{arith, StepFault, Standing, Cell, StepGoes, ReadCell, ReadRegister, WriteCell, Checkpointed}
use Rattle.mm_opt.proofs.Below.{CheckpointRefusal, Segment, Open, Shut, closing_fault_of, closing_fault_in, EndsLooking, EndsClosing}
use Rattle.mm_opt.proofs.Below.{FindsSegment, ClosesSegment}
use Rattle.std.specs.Result.{result_map_both}
use Rattle.mm_machine.specs.Acts.{MayChange, act_in, is_extension_left, number_in}
use Rattle.mm_machine.specs.OpSteps.{OpActs, FindingEnds, OpEnds, goes_on, breaks_off, CellSays, StepDraws, SightFinds, FindsRoom}
use Rattle.mm_machine.specs.OpSteps.{OpLooks as LooksAt, RegisterSays, RoomIsMadeFor, OpWeighs as WeighsAt, MayGoOn, SightLeads, OpSteps}
use Rattle.mm_machine.specs.OpSteps.{act_of, ending_by_halt, number_of, step_of_finding, step_after_change}
use Rattle.mm_machine.specs.declared.call.OpResult.{OpResult}
use Rattle.mm_machine.specs.declared.call.OpResult.TheVariants.{Answered, Broken}
use Rattle.mm_machine.specs.declared.call.OpStage.{OpStage}
use Rattle.mm_machine.specs.declared.call.OpStage.TheVariants.{Begun, Seen, Changing}
use Rattle.mm_machine.specs.declared.call.StepResult.{StepResult}
use Rattle.mm_machine.specs.declared.call.StepResult.TheVariants.{Going, Over}
use Rattle.mm_machine.specs.declared.change.Change.{Change as Move}
use Rattle.mm_machine.specs.declared.change.Change.TheVariants.{Writing}
use Rattle.mm_machine.specs.declared.operation.OpFinding.{OpFinding}
use Rattle.mm_machine.specs.declared.operation.Sight.{Sight}
use Rattle.mm_machine.specs.declared.reading.Halt.{Halt}
use Rattle.mm_machine.specs.declared.reading.Halt.TheVariants.{Fault, Refused, Lacks}
use Rattle.mm_opt.specs.declared.segment.Checkpointed.TheVariants.{Done, NoSegment}
use Rattle.mm_opt.specs.declared.segment.CheckpointRefusal.TheVariants as refusal
use Rattle.mm_opt.specs.Checkpoints.{ClosesBy, FindsClosing, WeighsAndCloses, GivesAs, IsClosing, closing_operation, result_of_end}
use Rattle.mm_opt.specs.Checkpoints.{sight_of, write_finding, write_of}
use Rattle.mm_call.specs.Checkpoints.{turn_with}
use Rattle.mm_opt.specs.CheckpointPromise.{ClosingActsAt, ClosingTurn, StepIsClosing, closing_turn_fault, turn_of_step}

-- What is found, and what the machine has of it

abbrev pub Why : Type 0
Why = Halt CheckpointRefusal

abbrev pub halt_of : CheckpointRefusal → Why
halt_of (refusal.Device fault) = Fault fault
halt_of why = Refused why

halt_told : (why : CheckpointRefusal) → result_of_end (ending_by_halt (halt_of why)) ≡ Err why
halt_told (refusal.Device fault) = refl
halt_told _ = refl

quiet_refused : (why : CheckpointRefusal) → closing_fault_of why ≡ None → Refused why ≡ halt_of why
quiet_refused (refusal.Device fault) quiet = absurd (cc)
quiet_refused _ quiet = refl

-- a verdict on what was read, without a fault
abbrev pub judged : {B : Type 0} → Result B CheckpointRefusal → Result B Why
judged = result_map_both (λ it. it) (λ why. Refused why)

module _ {A B : Type 0} (form : A → B) where
  abbrev pub halted : Result A CheckpointRefusal → Result B Why
  halted = result_map_both form halt_of

  quiet_halted : (found : Result A CheckpointRefusal) → closing_fault_in found ≡ None
      → judged (result_map_both form (λ why. why) found) ≡ halted found
  quiet_halted (Ok it) quiet = refl
  quiet_halted (Err why) quiet = ap Err (quiet_refused why quiet)

  module _ (goes : Option StepFault → Type 0) (finds : Result A CheckpointRefusal → Type 0) where
    -- a reading step, by what is found
    pub record ReadsTo (given : Result B Why) : Type 0 where
      pub found : Result A CheckpointRefusal
      pub goes_by : goes (closing_fault_in found)
      pub quiet_finds : closing_fault_in found ≡ None → finds found
      pub is : given ≡ halted found

    quietly : (given : Result B CheckpointRefusal) → goes None → GivesAs form finds given → ReadsTo (judged given)
    quietly given g f = record {
      found = f.found;
      goes_by = subst goes (sym f.quiet) g;
      quiet_finds = λ _. f.finds_it;
      is = ap judged f.gives ∙ quiet_halted f.found f.quiet;
    }

    reads_to : (says : Result B CheckpointRefusal → Type 0) → ((given : Result B CheckpointRefusal) → says given → GivesAs form finds given)
        → (given : Result B Why) → StepDraws goes says given → ReadsTo given
    reads_to says gives (Ok it) d = quietly (Ok it) d.0 (gives (Ok it) d.1)
    reads_to says gives (Err (Refused why)) d = quietly (Err why) d.0 (gives (Err why) d.1)
    reads_to says gives (Err (Fault fault)) d = record {
      found = Err (refusal.Device fault);
      goes_by = d;
      quiet_finds = λ (none : Some fault ≡ None). absurd (cc);
      is = refl;
    }
    reads_to says gives (Err Lacks) d = absurd d

looks_to : (old new : Standing) (seen : Result (Sight Checkpointed) Why) → LooksAt closing_operation old new seen
    → ReadsTo sight_of (StepGoes ReadCell old new) (FindsSegment old) seen
looks_to old new =
    reads_to sight_of (StepGoes ReadCell old new) (FindsSegment old) (λ seen. CellSays old (λ bytes. closing_operation.sees bytes seen))
    (λ seen s. record {
      found = s.said.found;
      finds_it = record { bytes = s.bytes; told = s.told; sees = s.said.finds_it };
      quiet = s.said.quiet;
      gives = s.said.gives;
    })

weighs_to : (cell : Cell) (old new : Standing) (given : Result (OpFinding Checkpointed) Why) → WeighsAt closing_operation cell old new given
    → ReadsTo write_finding (StepGoes ReadRegister old new) (FindsClosing cell new) given
weighs_to cell old new =
    reads_to write_finding (StepGoes ReadRegister old new) (FindsClosing cell new)
    (λ given. RegisterSays new (λ register. closing_operation.finds cell register given))
    (λ given s. record {
      found = s.said.found;
      finds_it = record { register = s.register; told = s.told; found_is = s.said.finds_it };
      quiet = s.said.quiet;
      gives = s.said.gives;
    })

-- The rest of a checkpoint

module _ (new : Standing) (ended : OpResult Checkpointed CheckpointRefusal) where
  moved : {given it : Result (OpFinding Checkpointed) Why} {middle one : Standing} → (middle ≡ one) × (given ≡ it)
      → FindingEnds closing_operation given middle new ended → FindingEnds closing_operation it one new ended
  moved {given = given} {it = it} {middle = middle} s e =
      subst (λ (x : Standing). FindingEnds closing_operation it x new ended) s.0
      (subst (λ (x : Result (OpFinding Checkpointed) Why). FindingEnds closing_operation x middle new ended) s.1 e)

  closed : (next : List ℕ) (old : Standing) → OpActs closing_operation (WriteCell next ∷ []) Done old new ended
      → ClosesBy next old new (result_of_end ended)
  closed next old (goes_on middle g e) = record {
    written = Ok Done;
    closes = record { goes = subst (λ (x : Standing). StepGoes (WriteCell next) old x None) (sym e.0) g; gives = refl };
    gives = ap result_of_end e.1;
  }
  closed next old (breaks_off fault g e) =
      record { written = Err fault; closes = record { goes = g; gives = tt }; gives = ap result_of_end e }

  halts : (why : CheckpointRefusal) (old : Standing) → FindingEnds closing_operation (Err (halt_of why)) old new ended
      → (new ≡ old) × (result_of_end ended ≡ Err why)
  halts why old e = (e.0, ap result_of_end e.1 ∙ halt_told why)

  weighed : (found : Result (List ℕ) CheckpointRefusal) (one middle : Standing) (given : Result (OpFinding Checkpointed) Why)
      → RoomIsMadeFor (halted write_finding found) one middle given → FindingEnds closing_operation given middle new ended
      → EndsClosing found one new (result_of_end ended)
  weighed (Err why) one middle given r e = halts why one (moved r e)
  weighed (Ok next) one middle given r e = closed next one (moved r e)

  weighs_and_closes : (cell : Cell) (old middle : Standing) (given : Result (OpFinding Checkpointed) Why)
      → FindsRoom (WeighsAt closing_operation cell old) middle given → FindingEnds closing_operation given middle new ended
      → WeighsAndCloses cell old new (result_of_end ended)
  weighs_and_closes cell old middle given f e =
      let w = weighs_to cell old f.middle f.found f.finds in record {
        middle = f.middle;
        found = w.found;
        weighs = record { goes = w.goes_by; finds = w.quiet_finds };
        ends = weighed w.found f.middle middle given
            (subst (λ (x : Result (OpFinding Checkpointed) Why). RoomIsMadeFor x f.middle middle given) w.is f.rooms) e;
      }

  looked : (found : Result Segment CheckpointRefusal) (one middle : Standing) (given : Result (OpFinding Checkpointed) Why)
      → SightFinds closing_operation (halted sight_of found) one middle given → FindingEnds closing_operation given middle new ended
      → EndsLooking found one new (result_of_end ended)
  looked (Err why) one middle given r e = halts why one (moved r e)
  looked (Ok Shut) one middle given r e = let s = moved r e in (s.0, ap result_of_end s.1)
  looked (Ok (Open cell)) one middle given f e = weighs_and_closes cell one middle given f e

  pub closes_whole : (old : Standing) → OpEnds closing_operation Begun old new ended → ClosesSegment old new (result_of_end ended)
  closes_whole old f =
      let r = f.finds in
      let l = looks_to old r.middle r.seen r.looks in record {
        middle = r.middle;
        found = l.found;
        looks = record { goes = l.goes_by; finds = l.quiet_finds };
        ends = looked l.found r.middle f.middle f.found
            (subst (λ (x : Result (Sight Checkpointed) Why). SightFinds closing_operation x r.middle f.middle f.found) l.is r.on) f.ends;
      }

-- One step of a checkpoint

-- the fault that it hands on
abbrev pub fault_stepped : StepResult Checkpointed CheckpointRefusal → Option StepFault
fault_stepped (Going on) = None
fault_stepped (Over ended) = closing_fault_in (result_of_end ended)

abbrev pub Counts : ℕ → StepResult Checkpointed CheckpointRefusal → Type 0
Counts number (Going on) = number_of 3 on ≡ number + 1
Counts number (Over ended) = Unit {0}

-- It makes the device step that comes next; and if the checkpoint goes on, it extends nothing, and its next step has the next number.
pub record StepsAs (it : OpStage Checkpointed) (old new : Standing) (step : StepResult Checkpointed CheckpointRefusal) : Type 0 where
  pub goes : StepGoes (act_of it) old new (fault_stepped step)
  pub closes : StepIsClosing step
  pub counts : Counts (number_of 3 it) step

module _ (it : OpStage Checkpointed) (old new : Standing) where
  steps_as : {step : StepResult Checkpointed CheckpointRefusal} (fault : Option StepFault) (to : StepResult Checkpointed CheckpointRefusal)
      → step ≡ to
      → fault_stepped to ≡ fault → StepIsClosing to → Counts (number_of 3 it) to → {middle : Standing} → new ≡ middle
      → StepGoes (act_of it) old middle fault → StepsAs it old new step
  steps_as fault to e f closes counts same g =
      subst (StepsAs it old new) (sym e) (record {
        goes = rw (f, same) g;
        closes = closes;
        counts = counts;
      })

  halts_as : {step : StepResult Checkpointed CheckpointRefusal} (why : CheckpointRefusal) → step ≡ Over (ending_by_halt (halt_of why))
      → {middle : Standing} → new ≡ middle → StepGoes (act_of it) old middle (closing_fault_of why) → StepsAs it old new step
  halts_as why e same g =
      steps_as (closing_fault_of why) (Over (ending_by_halt (halt_of why))) e (ap closing_fault_in (halt_told why)) tt tt same g

looked_as : (found : Result Segment CheckpointRefusal) (old one new : Standing) (step : StepResult Checkpointed CheckpointRefusal)
    → StepGoes ReadCell old one (closing_fault_in found) → SightLeads (halted sight_of found) one new step → StepsAs Begun old new step
looked_as (Err why) old one new step g s = halts_as Begun old new why s.1 s.0 g
looked_as (Ok Shut) old one new step g s =
    steps_as Begun old new None (Over (Answered NoSegment)) (s.gives ∙ ap step_of_finding s.finds.1) refl tt tt s.finds.0 g
looked_as (Ok (Open cell)) old one new step g s = steps_as Begun old new None (Going (Seen cell)) s.1 refl tt refl s.0 g

weighed_as : (found : Result (List ℕ) CheckpointRefusal) (cell : Cell) (old middle new : Standing)
    (given : Result (OpFinding Checkpointed) Why) (step : StepResult Checkpointed CheckpointRefusal)
    → StepGoes ReadRegister old middle (closing_fault_in found)
    → RoomIsMadeFor (halted write_finding found) middle new given → step ≡ step_of_finding given → StepsAs (Seen cell) old new step
weighed_as (Err why) cell old middle new given step g r e = halts_as (Seen cell) old new why (e ∙ ap step_of_finding r.1) r.0 g
weighed_as (Ok next) cell old middle new given step g r e =
    steps_as (Seen cell) old new None (Going (Changing (write_of next))) (e ∙ ap step_of_finding r.1) refl refl refl r.0 g

written_as : (change : Move) (answer : Checkpointed) (fault : Option StepFault) (old new : Standing)
    (step : StepResult Checkpointed CheckpointRefusal) → is_extension_left change ≡ false → StepGoes (act_in change) old new fault
    → step ≡ step_after_change closing_operation (record { change = change; answer = answer }) fault
    → StepsAs (Changing (record { change = change; answer = answer })) old new step
written_as (Writing next) answer None old new step none g e =
    steps_as (Changing (record { change = Writing next; answer = answer })) old new None (Over (Answered answer)) e refl tt tt refl g
written_as (Writing next) answer (Some fault) old new step none g e =
    steps_as (Changing (record { change = Writing next; answer = answer })) old new (Some fault) (Over (Broken fault (Some 0))) e refl tt tt
    refl g
written_as _ answer fault old new step none g e = absurd (cc)

pub closing_steps_as : (it : OpStage Checkpointed) (old new : Standing) (step : StepResult Checkpointed CheckpointRefusal) → IsClosing it
    → OpSteps closing_operation it old new step → StepsAs it old new step
closing_steps_as Begun old new step is s =
    let l = looks_to old s.middle s.seen s.looks in
    looked_as l.found old s.middle new step l.goes_by
    (subst (λ (x : Result (Sight Checkpointed) Why). SightLeads x s.middle new step) l.is s.leads)
closing_steps_as (Seen cell) old new step is s =
    let f = s.finds in
    let w = weighs_to cell old f.middle f.found f.finds in
    weighed_as w.found cell old f.middle new s.found step w.goes_by
    (subst (λ (x : Result (OpFinding Checkpointed) Why). RoomIsMadeFor x f.middle new s.found) w.is f.rooms) s.gives
closing_steps_as (Changing ready) old new step is s =
    written_as ready.change ready.answer s.fault old new step is s.goes s.gives

-- as a turn tells it

over_fault : (result : Result Checkpointed CheckpointRefusal) → closing_turn_fault (turn_with result) ≡ closing_fault_in result
over_fault (Ok it) = refl
over_fault (Err why) = refl

step_fault_told : (step : StepResult Checkpointed CheckpointRefusal) → closing_turn_fault (turn_of_step step) ≡ fault_stepped step
step_fault_told (Going on) = refl
step_fault_told (Over ended) = over_fault (result_of_end ended)

pub turn_acts : (it : OpStage Checkpointed) (old new : Standing) (step : StepResult Checkpointed CheckpointRefusal) (turn : ClosingTurn)
    → IsClosing it → OpSteps closing_operation it old new step → turn ≡ turn_of_step step → ClosingActsAt it old new turn
turn_acts it old new step turn is s e = rw (e, step_fault_told step) (closing_steps_as it old new step is s).goes

-- it takes no room, and its steps have the numbers 1, 2 and 3

few_changing : (change : Move) → is_extension_left change ≡ false → number_in 3 change ≤ 5
few_changing (Writing next) is = omega arith
few_changing _ is = absurd (cc)

pub few_closing : (it : OpStage Checkpointed) → IsClosing it → number_of 3 it ≤ 5
few_closing Begun is = omega arith
few_closing (Seen cell) is = omega arith
few_closing (Changing ready) is = few_changing ready.change is
