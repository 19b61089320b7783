-- What a step of the machine does and what is left of a call by it. With it: what the machine makes
-- of a call is a call; what a whole call leaves that the machine makes.
use Rattle.std.specs.Prelude.{◌≡◌, ℕ, List, [], ◌∷◌, Some, Result, Ok, Err, refl, Bool, true, false, Option, None}
use Rattle.std.proofs.Common.{ap, ◌∙◌, sym, subst}
use Rattle.mm_digest.specs.declared.variant.Variant.{Variant}
use Rattle.mm_digest.specs.declared.variant.Variant.TheVariants.{Basic}
use Rattle.mm_seal.specs.declared.cell.Cell.{Cell}
use Rattle.mm_platform.specs.CallLaws.{beside-beside}
use Rattle.mm_platform.specs.Standing.{Standing, Act, StepGoes, ReadCell, ReadRegister, items_beside}
use Rattle.mm_platform.specs.declared.fault.StepFault.{StepFault}
use Rattle.mm_module.specs.Batch.{Batch}
use Rattle.mm_module.specs.Meaning.{Meaning}
use Rattle.mm_machine.specs.Acts.{remaining_acts}
use Rattle.mm_machine.specs.OpSteps.{OpMeaning, ending_by_halt, StepDraws, CellSays, SightFinds, FindsRoom, OpLooks, OpReads, RegisterSays}
use Rattle.mm_machine.specs.OpSteps.{RoomIsMadeIf, RoomIsMadeFor, OpWeighs, has_extension, SightLeads, OpSteps, act_of, step_of_finding}
use Rattle.mm_machine.specs.OpSteps.{step_after_change}
use Rattle.mm_machine.specs.OpSteps as machine
use Rattle.mm_machine.specs.declared.call.OpResult.{OpResult as End}
use Rattle.mm_machine.specs.declared.call.OpStage.{OpStage}
use Rattle.mm_machine.specs.declared.call.OpStage.TheVariants.{Begun, Seen, Changing}
use Rattle.mm_machine.specs.declared.call.StepResult.{StepResult}
use Rattle.mm_machine.specs.declared.call.StepResult.TheVariants.{Going, Over}
use Rattle.mm_machine.specs.declared.change.Change.{Change as Move}
use Rattle.mm_machine.specs.declared.change.Change.TheVariants.{Extending, Emptying, Placing, Writing}
use Rattle.mm_machine.specs.declared.operation.OpFinding.{OpFinding}
use Rattle.mm_machine.specs.declared.operation.OpFinding.TheVariants.{Repeat, Change}
use Rattle.mm_machine.specs.declared.operation.Sight.{Sight}
use Rattle.mm_machine.specs.declared.operation.Sight.TheVariants as sight
use Rattle.mm_machine.specs.declared.reading.Halt.{Halt}
use Rattle.mm_machine.specs.declared.reading.Halt.TheVariants.{Fault, Refused, Lacks}
use Rattle.mm_model.specs.declared.answer.BatchAnswer.{BatchAnswer}
use Rattle.mm_model.specs.declared.refusal.Refusal.{Refusal}
use Rattle.mm_call.specs.CallFinding.{result_with_fault, CountsHandedFault, fault_in, fault_of}
use Rattle.mm_call.specs.CallKind.{IsCallToEnd, CommitsFinding, EndsByFinding, AreStepsToEnd, committed_position, goes_on, breaks_off}
use Rattle.mm_call.specs.CallKind.{end_of_refusal, result_of, CallFinishes, IsMade, call_kind, end_of_machine, finding_of_machine}
use Rattle.mm_call.specs.CallKind.{refusal_of_halt, CallKind, CallReads}
use Rattle.mm_call.specs.Checkpoints.{CallTurn, IsCallTurn, turn_fault, turn_of, turn_with}
use Rattle.mm_call.specs.declared.ended.AskResult.{AskResult}
use Rattle.mm_call.specs.declared.ended.AskResult.TheVariants.{Broken}
use Rattle.mm_call.specs.TellingLaws.{blamed, blamed_later, read_untouched, same_untouched}
use Rattle.mm_call.proofs.Below.{◌++◌, arith, Long, IsWholeCall, IsUntouched, CallLeavesUntouched}
use Rattle.mm_call.proofs.Committing.{BlamesFor, ends_blamed, refused_result, steps_blamed}
use Rattle.mm_call.proofs.Completing.{each_call, ends_untouched}

-- What the machine makes of a call is a call: its steps, its end, and the whole of it.

pub halted_told : (why : Halt Refusal) → end_of_machine (ending_by_halt why) ≡ end_of_refusal (refusal_of_halt why)
halted_told (Fault fault) = refl
halted_told (Refused why) = refl
halted_told Lacks = refl

-- device steps, one after another, of an answer that tells this position
module _ (position : ℕ) (answer : BatchAnswer) (tells : position ≡ answer.position) where
  position_told : (acts : List Act) → machine.position_before acts position ≡ committed_position acts answer
  position_told [] = ap Some tells
  position_told (act ∷ acts) = refl

  pub acts_told : (acts : List Act) (old new : Standing) (end : End BatchAnswer Refusal)
      → machine.ActsEndBy position acts answer old new end → AreStepsToEnd acts answer old new (end_of_machine end)
  acts_told [] old new end e = (e.0, ap end_of_machine e.1)
  acts_told (act ∷ acts) old new end (machine.goes_on middle g e) = goes_on middle g (acts_told acts middle new end e)
  acts_told (act ∷ acts) old new end (machine.breaks_off fault g e) =
      breaks_off fault g (ap end_of_machine e ∙ ap (Broken fault) (position_told acts))

-- the steps that commit what was found, by themselves
pub commits_told : (acts : List Act) (answer : BatchAnswer) (old new : Standing) (end : End BatchAnswer Refusal)
    (made : Result BatchAnswer StepFault) → machine.ActsEndBy answer.position acts answer old new end
    → result_of (end_of_machine end) ≡ result_with_fault made → CommitsFinding acts answer old new made
commits_told acts answer old new end made e gives =
    record { ended = end_of_machine end; ends = acts_told answer.position answer refl acts old new end e; gives = gives }

-- they refuse nothing
pub made_by : (acts : List Act) (position : ℕ) (answer : BatchAnswer) (old new : Standing) (end : End BatchAnswer Refusal)
    → machine.ActsEndBy position acts answer old new end → IsMade end
made_by [] position answer old new end e = rw e.1 tt
made_by (act ∷ acts) position answer old new end (machine.goes_on middle g e) = made_by acts position answer middle new end e
made_by (act ∷ acts) position answer old new end (machine.breaks_off fault g e) = rw e tt

-- what is left of a call that found this, whose answers tell their own position
pub ends_told : (variant : Variant) (asked : Meaning → List ℕ → Batch → OpMeaning BatchAnswer Refusal) (o : OpMeaning BatchAnswer Refusal)
    → ((answer : BatchAnswer) → o.position answer ≡ answer.position) → (found : Result (OpFinding BatchAnswer) (Halt Refusal))
    (old new : Standing) (end : End BatchAnswer Refusal) → machine.FindingEnds o found old new end
    → EndsByFinding (call_kind variant asked) (finding_of_machine found) old new (end_of_machine end)
ends_told variant asked o tells (Err why) old new end e = (e.0, ap end_of_machine e.1 ∙ halted_told why)
ends_told variant asked o tells (Ok found) old new end e =
    let answer : BatchAnswer = machine.answer_in found in
    acts_told (o.position answer) answer (tells answer) (machine.acts_for found) old new end e

-- a call from its first step to its end
module _ (variant : Variant) (asked : Meaning → List ℕ → Batch → OpMeaning BatchAnswer Refusal) (meaning : Meaning) (offer : List ℕ)
    (b : Batch) (tells : (answer : BatchAnswer) → (asked meaning offer b).position answer ≡ answer.position) where
  pub asks_told : (old new : Standing) (end : End BatchAnswer Refusal) → machine.OpEnds (asked meaning offer b) Begun old new end
      → IsCallToEnd (call_kind variant asked) meaning old new offer b (end_of_machine end)
  asks_told old new end f = record {
    middle = f.middle;
    found = finding_of_machine f.found;
    reads = record { given = f.found; reads = f.finds; gives = refl };
    ends = ends_told variant asked (asked meaning offer b) tells f.found f.middle new end f.ends;
  }

  pub finished_asks : (old new : Standing) (ended : AskResult) → CallFinishes (asked meaning offer b) Begun old new ended
      → IsCallToEnd (call_kind variant asked) meaning old new offer b ended
  finished_asks old new ended f = rw f.gives (asks_told old new f.end f.finishes)

-- What a step of the machine does and what is left of a call by it: the device step, the room behind it, and the count of faults.

-- an operation whose refusals hand no device's fault on, and whose answers tell their own position
pub record IsQuiet (o : OpMeaning BatchAnswer Refusal) : Type 0 where
  pub sees : (bytes : List ℕ) (why : Refusal) → o.sees bytes (Err why) → fault_of why ≡ None
  pub finds : (cell : Cell) (register : List ℕ) (why : Refusal) → o.finds cell register (Err why) → fault_of why ≡ None
  pub tells : (answer : BatchAnswer) → o.position answer ≡ answer.position

-- the fault of a device step that a step hands on
abbrev pub step_fault : StepResult BatchAnswer Refusal → Option StepFault
step_fault (Going stage) = None
step_fault (Over end) = fault_in (result_of (end_of_machine end))

-- A device step, and room that may have been made behind it.
pub record StepsBy (act : Act) (old new : Standing) (fault : Option StepFault) : Type 0 where
  pub middle : Standing
  pub goes : StepGoes act old middle fault
  pub room : new ≡ record middle { spare = new.spare }

draws_goes : {T : Type 0} (goes : Option StepFault → Type 0) (says : Result T Refusal → Type 0)
    → ((why : Refusal) → says (Err why) → fault_of why ≡ None) → (given : Result T (Halt Refusal)) → StepDraws goes says given
    → goes (fault_in (finding_of_machine given))
draws_goes goes says quiet (Ok it) d = d.0
draws_goes goes says quiet (Err (Fault fault)) d = d
draws_goes goes says quiet (Err (Refused why)) d = subst goes (sym (quiet why d.1)) d.0
draws_goes goes says quiet (Err Lacks) d = absurd d

same_room : (middle new : Standing) → new ≡ middle → new ≡ record middle { spare = new.spare }
same_room middle new e = rw e refl

module _ (middle new : Standing) where
  room_made : (extends : Bool) (found : OpFinding BatchAnswer) (given : Result (OpFinding BatchAnswer) (Halt Refusal))
      → RoomIsMadeIf extends found middle new given → new ≡ record middle { spare = new.spare }
  room_made false found given r = same_room middle new r.0
  room_made true found (Ok it) r = r.0.same
  room_made true found (Err why) r = same_room middle new r.0

  rooms_made : (found given : Result (OpFinding BatchAnswer) (Halt Refusal)) → RoomIsMadeFor found middle new given
      → new ≡ record middle { spare = new.spare }
  rooms_made (Err why) given r = same_room middle new r.0
  rooms_made (Ok found) given r = room_made (has_extension found) found given r

  room_quiet : (extends : Bool) (found : OpFinding BatchAnswer) (given : Result (OpFinding BatchAnswer) (Halt Refusal))
      → RoomIsMadeIf extends found middle new given → None ≡ fault_in (finding_of_machine given)
  room_quiet false found given r = rw r.1 refl
  room_quiet true found (Ok it) r = refl
  room_quiet true found (Err why) r = rw r.1 refl

  rooms_fault : (found given : Result (OpFinding BatchAnswer) (Halt Refusal)) → RoomIsMadeFor found middle new given
      → fault_in (finding_of_machine found) ≡ fault_in (finding_of_machine given)
  rooms_fault (Err why) given r = rw r.1 refl
  rooms_fault (Ok found) given r = room_quiet (has_extension found) found given r

halt_fault : (why : Halt Refusal) → step_fault (Over (ending_by_halt why)) ≡ fault_of (refusal_of_halt why)
halt_fault why = ap (λ (e : AskResult). fault_in (result_of e)) (halted_told why) ∙ ap fault_in (refused_result (refusal_of_halt why))

found_fault : (found : Result (OpFinding BatchAnswer) (Halt Refusal)) → step_fault (step_of_finding found)
    ≡ fault_in (finding_of_machine found)
found_fault (Err why) = halt_fault why
found_fault (Ok (Repeat answer)) = refl
found_fault (Ok (Change ready)) = refl

-- a turn hands on the fault of its step

with_fault : (given : Result BatchAnswer Refusal) → turn_fault (turn_with given) ≡ fault_in given
with_fault (Ok answer) = refl
with_fault (Err why) = refl

pub turn_hands : (step : StepResult BatchAnswer Refusal) → turn_fault (turn_of step) ≡ step_fault step
turn_hands (Going stage) = refl
turn_hands (Over end) = with_fault (result_of (end_of_machine end))

module _ (o : OpMeaning BatchAnswer Refusal) (quiet : IsQuiet o) where
  pub looks_goes : (old new : Standing) (seen : Result (Sight BatchAnswer) (Halt Refusal)) → OpLooks o old new seen
      → StepGoes ReadCell old new (fault_in (finding_of_machine seen))
  looks_goes old new seen l =
      let says : Result (Sight BatchAnswer) Refusal → Type 0 = λ x. CellSays old (λ bytes. o.sees bytes x) in
      draws_goes (StepGoes ReadCell old new) says (λ (why : Refusal) (s : says (Err why)). quiet.sees s.bytes why s.said) seen l

  pub weighs_goes : (cell : Cell) (old new : Standing) (found : Result (OpFinding BatchAnswer) (Halt Refusal))
      → OpWeighs o cell old new found
      → StepGoes ReadRegister old new (fault_in (finding_of_machine found))
  weighs_goes cell old new found w =
      let says : Result (OpFinding BatchAnswer) Refusal → Type 0 = λ x. RegisterSays new (λ register. o.finds cell register x) in
      draws_goes (StepGoes ReadRegister old new) says (λ (why : Refusal) (s : says (Err why)). quiet.finds cell s.register why s.said)
      found w

  found_steps : (act : Act) (old middle new : Standing) (found given : Result (OpFinding BatchAnswer) (Halt Refusal))
      (step : StepResult BatchAnswer Refusal) → StepGoes act old middle (fault_in (finding_of_machine found))
      → RoomIsMadeFor found middle new given
      → step ≡ step_of_finding given → StepsBy act old new (step_fault step)
  found_steps act old middle new found given step g r e = record {
    middle = middle;
    goes = subst (StepGoes act old middle) (rooms_fault middle new found given r ∙ sym (found_fault given) ∙ ap step_fault (sym e)) g;
    room = rooms_made middle new found given r;
  }

  sight_steps : (old middle new : Standing) (seen : Result (Sight BatchAnswer) (Halt Refusal)) (step : StepResult BatchAnswer Refusal)
      → StepGoes ReadCell old middle (fault_in (finding_of_machine seen)) → SightLeads seen middle new step
      → StepsBy ReadCell old new (step_fault step)
  sight_steps old middle new (Err why) step g s = found_steps ReadCell old middle new (Err why) (Err why) step g (s.0, refl) s.1
  sight_steps old middle new (Ok (sight.Found found)) step g s =
      found_steps ReadCell old middle new (Ok found) s.found step g s.finds s.gives
  sight_steps old middle new (Ok (sight.Cell cell)) step g s = record {
    middle = middle;
    goes = subst (StepGoes ReadCell old middle) (ap step_fault (sym s.1)) g;
    room = same_room middle new s.0;
  }

  made_fault : (change : Move) (answer : BatchAnswer) (fault : Option StepFault)
      → fault ≡ step_fault (step_after_change o (record { change = change; answer = answer }) fault)
  made_fault change answer (Some fault) = refl
  made_fault (Emptying opening) answer None = refl
  made_fault (Placing opening) answer None = refl
  made_fault (Extending value) answer None = refl
  made_fault (Writing next) answer None = refl

  -- a step makes exactly the device step that comes next, and hands its fault on
  pub steps_by : (stage : OpStage BatchAnswer) (old new : Standing) (step : StepResult BatchAnswer Refusal) → OpSteps o stage old new step
      → StepsBy (act_of stage) old new (step_fault step)
  steps_by Begun old new step s =
      sight_steps old s.middle new s.seen step (looks_goes old s.middle s.seen s.looks) s.leads
  steps_by (Seen cell) old new step s =
      let f = s.finds in
      found_steps ReadRegister old f.middle new f.found s.found step (weighs_goes cell old f.middle f.found f.finds) f.rooms s.gives
  steps_by (Changing ready) old new step s = record {
    middle = new;
    goes = subst (StepGoes (act_of (Changing ready)) old new) (made_fault ready.change ready.answer s.fault ∙ ap step_fault (sym s.gives))
        s.goes;
    room = refl;
  }

  step_blamed : (stage : OpStage BatchAnswer) (old new : Standing) (step : StepResult BatchAnswer Refusal) → OpSteps o stage old new step
      → CountsHandedFault (step_fault step) old.faults new.faults
  step_blamed stage old new step s =
      let by = steps_by stage old new step s in
      rw (ap (λ (x : Standing). x.faults) by.room) (blamed (step_fault step) old by.middle by.goes.is_made by.goes.ends)

  -- and where a turn does
  pub turn_blamed : (stage : OpStage BatchAnswer) (old new : Standing) (turn : CallTurn) → IsCallTurn o stage old new turn
      → CountsHandedFault (turn_fault turn) old.faults new.faults
  turn_blamed stage old new turn t = rw (t.gives, turn_hands t.step) (step_blamed stage old new t.step t.steps)

  -- the count of faults rises where the reading steps hand one on

  rooms_blamed : (act : Act) (old middle new : Standing) (found given : Result (OpFinding BatchAnswer) (Halt Refusal))
      → StepGoes act old middle (fault_in (finding_of_machine found)) → RoomIsMadeFor found middle new given
      → CountsHandedFault (fault_in (finding_of_machine given)) old.faults new.faults
  rooms_blamed act old middle new found given g r =
      rw (← rooms_fault middle new found given r, rooms_made middle new found given r)
      (blamed (fault_in (finding_of_machine found)) old middle g.is_made g.ends)

  weighs_blamed : (cell : Cell) (old new : Standing) (given : Result (OpFinding BatchAnswer) (Halt Refusal))
      → FindsRoom (OpWeighs o cell old) new given → CountsHandedFault (fault_in (finding_of_machine given)) old.faults new.faults
  weighs_blamed cell old new given f =
      rooms_blamed ReadRegister old f.middle new f.found given (weighs_goes cell old f.middle f.found f.finds) f.rooms

  sight_blamed : (old middle new : Standing) (seen : Result (Sight BatchAnswer) (Halt Refusal))
      (given : Result (OpFinding BatchAnswer) (Halt Refusal)) → StepGoes ReadCell old middle (fault_in (finding_of_machine seen))
      → SightFinds o seen middle new given → CountsHandedFault (fault_in (finding_of_machine given)) old.faults new.faults
  sight_blamed old middle new (Err why) given g f = rooms_blamed ReadCell old middle new (Err why) given g f
  sight_blamed old middle new (Ok (sight.Found found)) given g f = rooms_blamed ReadCell old middle new (Ok found) given g f
  sight_blamed old middle new (Ok (sight.Cell cell)) given g f =
      blamed_later (fault_in (finding_of_machine given)) old.faults middle.faults new.faults g.ends.faults
      (weighs_blamed cell middle new given f)

  given_blamed : (old new : Standing) (given : Result (OpFinding BatchAnswer) (Halt Refusal)) → OpReads o old new given
      → CountsHandedFault (fault_in (finding_of_machine given)) old.faults new.faults
  given_blamed old new given r = sight_blamed old r.middle new r.seen given (looks_goes old r.middle r.seen r.looks) r.on

  pub reads_blamed : (old new : Standing) (found : Result (OpFinding BatchAnswer) Refusal) → CallReads o old new found
      → CountsHandedFault (fault_in found) old.faults new.faults
  reads_blamed old new found r = rw r.gives (given_blamed old new r.given r.reads)

  -- and where what is left of a call does

  abbrev any_call : CallKind (OpFinding BatchAnswer)
  any_call = call_kind Basic (λ meaning offer b. o)

  given_ends : (old middle new : Standing) (given : Result (OpFinding BatchAnswer) (Halt Refusal)) (end : End BatchAnswer Refusal)
      → CountsHandedFault (fault_in (finding_of_machine given)) old.faults middle.faults → machine.FindingEnds o given middle new end
      → BlamesFor old new (end_of_machine end)
  given_ends old middle new given end blames e =
      ends_blamed any_call (finding_of_machine given) old middle new (end_of_machine end) blames
      (ends_told Basic (λ meaning offer b. o) o quiet.tells given middle new end e)

  pub finish_blamed : (stage : OpStage BatchAnswer) (old new : Standing) (end : End BatchAnswer Refusal)
      → machine.OpEnds o stage old new end → BlamesFor old new (end_of_machine end)
  finish_blamed Begun old new end f = given_ends old f.middle new f.found end (given_blamed old f.middle f.found f.finds) f.ends
  finish_blamed (Seen cell) old new end f =
      given_ends old f.middle new f.found end (weighs_blamed cell old f.middle f.found f.finds) f.ends
  finish_blamed (Changing ready) old new end f =
      steps_blamed (remaining_acts ready.change) ready.answer old new (end_of_machine end)
      (acts_told (o.position ready.answer) ready.answer (quiet.tells ready.answer) (remaining_acts ready.change) old new end f)

-- What a whole call leaves that the machine makes: where it is refused nothing has changed, and its faults are counted.

pub register_untouched : (old new : Standing) → StepGoes ReadRegister old new None → IsUntouched old new
register_untouched old new g = record {
  others = g.others;
  cell = g.cell;
  items = g.items;
  is_on = g.ends.is_on ∙ sym g.ends.was_on;
  writes = g.writes;
  room = omega (arith, g.room);
  faults = g.ends.faults;
}

pub then_untouched : (old middle new : Standing) → IsUntouched old middle → IsUntouched middle new → IsUntouched old new
then_untouched old middle new u v = record {
  others = u.others ++ v.others;
  cell = v.cell ∙ u.cell;
  items = v.items ∙ ap (items_beside v.others) u.items ∙ beside-beside u.others v.others old.items;
  is_on = v.is_on ∙ u.is_on;
  writes = v.writes ∙ u.writes;
  room = omega (arith, u.room, v.room);
  faults = v.faults ∙ u.faults;
}

-- a refusal that hands no fault on leaves all untouched
abbrev Refuses : Standing → Standing → Result (OpFinding BatchAnswer) Refusal → Type 0
Refuses old new (Ok found) = Unit {0}
Refuses old new (Err why) = fault_of why ≡ None → IsUntouched old new

room_refused : (needs : Bool) (found : OpFinding BatchAnswer) (given : Result (OpFinding BatchAnswer) (Halt Refusal))
    (old middle new : Standing)
    → IsUntouched old middle → RoomIsMadeIf needs found middle new given → Refuses old new (finding_of_machine given)
room_refused false found given old middle new u r = rw r.1 tt
room_refused true found (Ok it) old middle new u r = tt
room_refused true found (Err why) old middle new u r = λ _. rw r.0 u

rooms_refused : (found given : Result (OpFinding BatchAnswer) (Halt Refusal)) (old middle new : Standing)
    → (fault_in (finding_of_machine found) ≡ None → IsUntouched old middle) → RoomIsMadeFor found middle new given
    → Refuses old new (finding_of_machine given)
rooms_refused (Err why) given old middle new u r = rw (r.0, r.1) u
rooms_refused (Ok found) given old middle new u r = room_refused (has_extension found) found given old middle new (u refl) r

module _ (o : OpMeaning BatchAnswer Refusal) (quiet : IsQuiet o) where
  weighs_refused : (cell : Cell) (old middle new : Standing) (given : Result (OpFinding BatchAnswer) (Halt Refusal))
      → IsUntouched old middle
      → FindsRoom (OpWeighs o cell middle) new given → Refuses old new (finding_of_machine given)
  weighs_refused cell old middle new given u f =
      rooms_refused f.found given old f.middle new (λ none. then_untouched old middle f.middle u (register_untouched middle f.middle
      (subst (StepGoes ReadRegister middle f.middle) none (weighs_goes o quiet cell middle f.middle f.found f.finds)))) f.rooms

  sight_refused : (old middle new : Standing) (seen : Result (Sight BatchAnswer) (Halt Refusal))
      (given : Result (OpFinding BatchAnswer) (Halt Refusal)) → (fault_in (finding_of_machine seen) ≡ None → IsUntouched old middle)
      → SightFinds o seen middle new given → Refuses old new (finding_of_machine given)
  sight_refused old middle new (Err why) given u f = rw (f.0, f.1) u
  sight_refused old middle new (Ok (sight.Found found)) given u f = rooms_refused (Ok found) given old middle new u f
  sight_refused old middle new (Ok (sight.Cell cell)) given u f = weighs_refused cell old middle new given (u refl) f

  given_refused : (old new : Standing) (given : Result (OpFinding BatchAnswer) (Halt Refusal)) → OpReads o old new given
      → Refuses old new (finding_of_machine given)
  given_refused old new given r =
      sight_refused old r.middle new r.seen given (λ none. read_untouched old r.middle
      (subst (StepGoes ReadCell old r.middle) none (looks_goes o quiet old r.middle r.seen r.looks))) r.on

  reads_refused : (old new : Standing) (found : Result (OpFinding BatchAnswer) Refusal) → CallReads o old new found → Refuses old new found
  reads_refused old new found r = rw r.gives (given_refused old new r.given r.reads)

-- a whole call
module _ (variant : Variant) (asked : Meaning → List ℕ → Batch → OpMeaning BatchAnswer Refusal) (meaning : Meaning) (old new : Standing)
    (offer : List ℕ) (b : Batch) (quiet : IsQuiet (asked meaning offer b)) (result : Result BatchAnswer Refusal)
    (calls : IsWholeCall (call_kind variant asked) meaning old new offer b result) where
  abbrev c : CallKind (OpFinding BatchAnswer)
  c = call_kind variant asked

  pub calls_untouched : CallLeavesUntouched result old new
  calls_untouched =
      each_call c meaning old new offer b (λ (s : Standing) (r : Result BatchAnswer Refusal). CallLeavesUntouched r old s) result
      (λ (h : fault_of Long ≡ None). same_untouched old)
      (λ (ended : AskResult) (a : IsCallToEnd c meaning old new offer b ended).
      ends_untouched c a.found old a.middle new ended a.ends
      (λ (why : Refusal) (is : a.found ≡ Err why). subst (Refuses old a.middle) is
      (reads_refused (asked meaning offer b) quiet old a.middle a.found a.reads)))
      calls

  pub calls_blamed : CountsHandedFault (fault_in result) old.faults new.faults
  calls_blamed =
      each_call c meaning old new offer b
      (λ (s : Standing) (r : Result BatchAnswer Refusal). CountsHandedFault (fault_in r) old.faults s.faults) result refl
      (λ (ended : AskResult) (a : IsCallToEnd c meaning old new offer b ended).
      ends_blamed c a.found old a.middle new ended (reads_blamed (asked meaning offer b) quiet old a.middle a.found a.reads) a.ends)
      calls
