-- One step and what comes behind it are the whole of what is left. With it: what both reading steps
-- read, and where the platform stands behind them; a call's last step, and how the call ended by
-- it.
use Rattle.std.specs.Option.{option_map_or}
use Rattle.std.specs.Prelude.{◌≡◌, Option, None, Some, Result, Ok, Err, refl, List, [], ℕ, ◌∷◌}
use Rattle.std.specs.Result.{result_err}
use Rattle.std.proofs.Common.{subst, ◌∙◌, ap, sym}
use Rattle.std.proofs.lemmas.List.{append-nil}
use Rattle.mm_digest.specs.declared.digest.Digest.{Digest}
use Rattle.mm_platform.specs.Standing.{Standing, StepGoes, Item, item_values, register_after, Act}
use Rattle.mm_platform.specs.declared.fault.StepFault.{StepFault}
use Rattle.mm_machine.specs.Acts.{act_in, remaining_acts}
use Rattle.mm_machine.specs.declared.call.OpResult.{OpResult}
use Rattle.mm_machine.specs.declared.call.OpStage.{OpStage}
use Rattle.mm_machine.specs.declared.call.OpStage.TheVariants.{Begun, Seen, Changing}
use Rattle.mm_machine.specs.declared.call.StepResult.{StepResult}
use Rattle.mm_machine.specs.declared.call.StepResult.TheVariants.{Going, Over}
use Rattle.mm_machine.specs.declared.change.Change.{Change as Move}
use Rattle.mm_machine.specs.declared.change.Change.TheVariants.{Extending, Emptying, Placing, Writing}
use Rattle.mm_machine.specs.declared.operation.OpFinding.{OpFinding}
use Rattle.mm_machine.specs.declared.operation.OpFinding.TheVariants.{Repeat, Change}
use Rattle.mm_machine.specs.declared.operation.Sight.{Sight}
use Rattle.mm_machine.specs.declared.operation.Sight.TheVariants as sight
use Rattle.mm_machine.specs.declared.reading.Halt.{Halt}
use Rattle.mm_machine.specs.OpSteps.{OpMeaning, OpLooks, FindsRoom, OpWeighs, OpSteps, SightLeads, step_of_finding, step_after_change}
use Rattle.mm_machine.specs.OpSteps.{OpActs, FindingEnds, FindsAndEnds, OpEnds, goes_on, breaks_off, AreOthersBehind, StandsAsRead}
use Rattle.mm_machine.specs.OpSteps.{ActsEndBy, ending_at_last}

module _ {A R : Type 0} (o : OpMeaning A R) where
  -- what comes behind a step
  abbrev pub StepEnds : StepResult A R → Standing → Standing → OpResult A R → Type 0
  StepEnds (Going stage) middle new ended = OpEnds o stage middle new ended
  StepEnds (Over it) middle new ended = (new ≡ middle) × (ended ≡ it)

  made_joins : (change : Move) (answer : A) (fault : Option StepFault) (old middle new : Standing) (ended : OpResult A R)
      → StepGoes (act_in change) old middle fault → StepEnds (step_after_change o (record { change = change; answer = answer }) fault)
      middle new ended
      → OpActs o (remaining_acts change) answer old new ended
  made_joins (Extending value) answer None old middle new ended g e = goes_on middle g e
  made_joins (Emptying opening) answer None old middle new ended g e = goes_on middle g e
  made_joins (Placing opening) answer None old middle new ended g e = goes_on middle g e
  made_joins (Writing next) answer None old middle new ended g e = goes_on middle g e
  made_joins (Extending value) answer (Some fault) old middle new ended g e = breaks_off fault (rw e.0 g) e.1
  made_joins (Emptying opening) answer (Some fault) old middle new ended g e = breaks_off fault (rw e.0 g) e.1
  made_joins (Placing opening) answer (Some fault) old middle new ended g e = breaks_off fault (rw e.0 g) e.1
  made_joins (Writing next) answer (Some fault) old middle new ended g e = breaks_off fault (rw e.0 g) e.1

  found_joins : (found : Result (OpFinding A) (Halt R)) (middle new : Standing) (ended : OpResult A R)
      → StepEnds (step_of_finding found) middle new ended → FindingEnds o found middle new ended
  found_joins (Err why) middle new ended e = e
  found_joins (Ok (Repeat answer)) middle new ended e = e
  found_joins (Ok (Change ready)) middle new ended e = e

  sight_joins : (seen : Result (Sight A) (Halt R)) (old first middle new : Standing) (step : StepResult A R) (ended : OpResult A R)
      → OpLooks o old first seen → SightLeads seen first middle step → StepEnds step middle new ended
      → OpEnds o Begun old new ended
  sight_joins (Err why) old first middle new step ended l s e = record {
    middle = middle;
    found = Err why;
    finds = record { middle = first; seen = Err why; looks = l; on = (s.0, refl) };
    ends = subst (λ (x : StepResult A R). StepEnds x middle new ended) s.1 e;
  }
  sight_joins (Ok (sight.Found found)) old first middle new step ended l s e = record {
    middle = middle;
    found = s.found;
    finds = record { middle = first; seen = Ok (sight.Found found); looks = l; on = s.finds };
    ends = found_joins s.found middle new ended (subst (λ (x : StepResult A R). StepEnds x middle new ended) s.gives e);
  }
  sight_joins (Ok (sight.Cell cell)) old first middle new step ended l s e =
      let f : FindsAndEnds o (λ m. FindsRoom (OpWeighs o cell first) m) new ended =
      subst (λ (x : Standing). OpEnds o (Seen cell) x new ended) s.0
      (subst (λ (x : StepResult A R). StepEnds x middle new ended) s.1 e) in
      record {
        middle = f.middle;
        found = f.found;
        finds = record { middle = first; seen = Ok (sight.Cell cell); looks = l; on = f.finds };
        ends = f.ends;
      }

  pub joins : (stage : OpStage A) (old middle new : Standing) (step : StepResult A R) (ended : OpResult A R)
      → OpSteps o stage old middle step → StepEnds step middle new ended → OpEnds o stage old new ended
  joins Begun old middle new step ended s e = sight_joins s.seen old s.middle middle new step ended s.looks s.leads e
  joins (Seen cell) old middle new step ended s e = record {
    middle = middle;
    found = s.found;
    finds = s.finds;
    ends = found_joins s.found middle new ended (subst (λ (x : StepResult A R). StepEnds x middle new ended) s.gives e);
  }
  joins (Changing ready) old middle new step ended s e =
      made_joins ready.change ready.answer s.fault old middle new ended s.goes
      (subst (λ (x : StepResult A R). StepEnds x middle new ended) s.gives e)

-- What both reading steps read, and where the platform stands behind them.

pub stands_read : (bytes : List ℕ) (value : Digest) (old new : Standing) → StandsAsRead bytes None old → new.cell ≡ old.cell
    → ((items : List Item) → new.items ≡ Some items → value.bytes ≡ register_after (item_values items))
    → StandsAsRead bytes (Some value) new
stands_read bytes value old new stands same gives = record {
  cell = λ cell is. stands.cell cell (sym same ∙ is);
  register = λ shown is items told. subst (λ (it : Digest). AreOthersBehind it.bytes items)
      (ap (λ (o : Option Digest). option_map_or (λ (it : Digest). it) o value) is)
      (record { read = items; others = []; gives = gives items told; behind = sym (append-nil items) });
}

-- A call's last step, and how the call ended by it.

pub ends_at_last : {A R : Type 0} (position : ℕ) (act : Act) (answer : A) (made : Result Unit StepFault) (old new : Standing)
    (ended : OpResult A R) → StepGoes act old new (result_err made) → ended ≡ ending_at_last position answer made
    → ActsEndBy position (act ∷ []) answer old new ended
ends_at_last position act answer (Ok done) old new ended g e = goes_on new g (refl, e)
ends_at_last position act answer (Err fault) old new ended g e = breaks_off fault g e
