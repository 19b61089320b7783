-- What the machine tells of a call of Basic: its reading step, and where each step leads. With it:
-- the first cell and snapshot.
use Rattle.mm_machine.specs.OpSteps.{SightFinds, OpLooks, RoomIsMadeIf, RoomIsMadeFor, OpWeighs, has_extension, SightLeads, OpSteps}
use Rattle.mm_machine.specs.OpSteps.{number_of, step_of_finding, step_after_change, step_to}
use Rattle.mm_machine.specs.declared.call.OpStage.{OpStage}
use Rattle.mm_machine.specs.declared.call.OpStage.TheVariants as stage
use Rattle.mm_machine.specs.declared.call.StepResult.{StepResult}
use Rattle.mm_machine.specs.declared.call.StepResult.TheVariants.{Going, Over}
use Rattle.mm_machine.specs.declared.operation.Sight.{Sight}
use Rattle.mm_machine.specs.declared.operation.Sight.TheVariants as sight
use Rattle.mm_machine.specs.declared.reading.Halt.TheVariants as halt
use Rattle.mm_model.specs.declared.refusal.Refusal.TheVariants as refusal
use Rattle.mm_call.specs.CallKind.{CallReads}
use Rattle.mm_call.specs.Checkpoints.{CallTurn, IsCallTurn, turn_of}
use Rattle.mm_call.specs.OfferLaws.{summary-nil}
use Rattle.mm_call.proofs.Above as told
use Rattle.mm_basic.specs.AskPromise.{BasicTurnPromise, StepExtendsNothing}
use Rattle.mm_basic.proofs.Below.{◌≡◌, ◌+◌, ℕ, Bool, true, false, List, Option, None, Some, Result, Ok, Err, refl, sym, ap, subst, Standing}
use Rattle.mm_basic.proofs.Below.{ReadCell, StepGoes, StepFault, Meaning, Batch, BatchAnswer, Refusal, Deed, Writing, is_extension_left}
use Rattle.mm_basic.proofs.Below.{OpFinding, Repeat, Change, ReadyChange, Halt, Cell, fault_in, finding_of_machine, basic_operation}
use Rattle.mm_basic.proofs.Below.{ExtendsNothing, [], ◌∙◌, Digest, Basic, zero_bytes, start_digest_of, InBasic, cell_spelling, Content}
use Rattle.mm_basic.proofs.Below.{sealed_snapshot_of, summary_of, basic_instance, first_history, digest_of, cell_of, issued_bytes}
use Rattle.mm_basic.proofs.Calling.{Finding, Finds, extends_none, finding_shaped, shaped}

-- no room is made then, and none is taken

roomless : (e : Bool) (found : OpFinding BatchAnswer) (old new : Standing) (given : Result (OpFinding BatchAnswer) (Halt Refusal))
    → e ≡ false
    → RoomIsMadeIf e found old new given → (new ≡ old) × (given ≡ Ok found)
roomless false found old new given none r = r
roomless true found old new given none r = absurd (cc)

-- a step goes on from the first alone, to the second, and no own extension is to come
abbrev GoesFrom : OpStage BatchAnswer → StepResult BatchAnswer Refusal → Type 0
GoesFrom call (Going on) = ExtendsNothing on × (number_of 2 on ≡ 2) × (call ≡ stage.Begun)
GoesFrom call (Over end) = Unit {0}

change_goes : (change : Deed) (answer : BatchAnswer) → is_extension_left change ≡ false
    → GoesFrom stage.Begun (step_to (Some change) answer)
change_goes (Writing next) answer none = (refl, refl, refl)
change_goes _ answer none = absurd (cc)

found_goes : (found : OpFinding BatchAnswer) → has_extension found ≡ false → GoesFrom stage.Begun (step_of_finding (Ok found))
found_goes (Repeat answer) none = tt
found_goes (Change ready) none = change_goes ready.change ready.answer none

extends_by : (call : OpStage BatchAnswer) (step : StepResult BatchAnswer Refusal) → GoesFrom call step → StepExtendsNothing step
extends_by call (Going on) g = g.0
extends_by call (Over end) g = tt

module _ (meaning : Meaning) (offer : List ℕ) (b : Batch) where
  pub quiet : told.IsQuiet (basic_operation meaning offer b)
  quiet = record {
    sees = λ bytes why s. s.1;
    finds = λ cell register why e. ap fault_in e;
    tells = λ answer. refl;
  }

  -- what the reading step finds, as the machine tells it

  sight_extends : (old : Standing) (found : OpFinding BatchAnswer) → Finds meaning old offer b (Ok found) → has_extension found ≡ false
  sight_extends old found f = extends_none meaning b found (shaped meaning f.bytes offer b (Ok found) f.said)

  told_on : (old after new : Standing) (seen : Result (Sight BatchAnswer) (Halt Refusal))
      (given : Result (OpFinding BatchAnswer) (Halt Refusal)) → OpLooks (basic_operation meaning offer b) old after seen
      → SightFinds (basic_operation meaning offer b) seen after new given → Finding meaning old new offer b (finding_of_machine given)
  told_on old after new (Err (halt.Fault fault)) given l f =
      rw (f.0, f.1) (record { goes = l; finds = λ (quiet : Some fault ≡ None). absurd (cc) })
  told_on old after new (Err (halt.Refused why)) given l f = rw (f.0, f.1) (record {
    goes = subst (StepGoes ReadCell old after) (sym l.1.said.1) l.0;
    finds = λ none. record { bytes = l.1.bytes; told = l.1.told; said = l.1.said.0 };
  })
  told_on old after new (Err halt.Lacks) given l f = absurd l
  told_on old after new (Ok (sight.Found found)) given l f =
      let r = roomless (has_extension found) found after new given (sight_extends old found l.1) f in
      rw (r.0, r.1) (record { goes = l.0; finds = λ quiet. l.1 })
  told_on old after new (Ok (sight.Cell cell)) given l f = absurd l.1.said

  pub reads_told : (old new : Standing) (found : Result (OpFinding BatchAnswer) Refusal)
      → CallReads (basic_operation meaning offer b) old new found
      → Finding meaning old new offer b found
  reads_told old new found r =
      let m = r.reads in rw r.gives (told_on old m.middle new m.seen r.given m.looks m.on)

  pub reads_extend : (old new : Standing) (it : OpFinding BatchAnswer) → CallReads (basic_operation meaning offer b) old new (Ok it)
      → has_extension it ≡ false
  reads_extend old new it r =
      extends_none meaning b it (finding_shaped meaning old new offer b (Ok it) (reads_told old new (Ok it) r))

  -- what a step goes on to

  sight_goes : (old after new : Standing) (seen : Result (Sight BatchAnswer) (Halt Refusal)) (step : StepResult BatchAnswer Refusal)
      → OpLooks (basic_operation meaning offer b) old after seen → SightLeads seen after new step → GoesFrom stage.Begun step
  sight_goes old after new (Err why) step l s = rw s.1 tt
  sight_goes old after new (Ok (sight.Found found)) step l s =
      let none : has_extension found ≡ false = sight_extends old found l.1 in
      let r = roomless (has_extension found) found after new s.found none s.finds in
      rw (s.gives, r.1) (found_goes found none)
  sight_goes old after new (Ok (sight.Cell cell)) step l s = absurd l.1.said

  weigh_goes : (cell : Cell) (old mid new : Standing) (found given : Result (OpFinding BatchAnswer) (Halt Refusal))
      (step : StepResult BatchAnswer Refusal) → OpWeighs (basic_operation meaning offer b) cell old mid found
      → RoomIsMadeFor found mid new given
      → step ≡ step_of_finding given → GoesFrom (stage.Seen cell) step
  weigh_goes cell old mid new (Err why) given step w r e = rw (e, r.1) tt
  weigh_goes cell old mid new (Ok found) given step w r e = let never : Ok found ≡ Err refusal.Cell = w.1.said in absurd (cc)

  write_goes : (ready : ReadyChange BatchAnswer) (change : Deed) (fault : Option StepFault) (step : StepResult BatchAnswer Refusal)
      → change ≡ ready.change → is_extension_left change ≡ false → step ≡ step_after_change (basic_operation meaning offer b) ready fault
      → GoesFrom (stage.Changing ready) step
  write_goes ready (Writing next) (Some fault) step is none e = rw e tt
  write_goes ready (Writing next) None step is none e = rw (e, sym is) tt
  write_goes ready _ fault step is none e = absurd (cc)

  steps_go : (call : OpStage BatchAnswer) (old new : Standing) (step : StepResult BatchAnswer Refusal)
      → OpSteps (basic_operation meaning offer b) call old new step → ExtendsNothing call → GoesFrom call step
  steps_go stage.Begun old new step s none = sight_goes old s.middle new s.seen step s.looks s.leads
  steps_go (stage.Seen cell) old new step s none =
      let f = s.finds in weigh_goes cell old f.middle new f.found s.found step f.finds f.rooms s.gives
  steps_go (stage.Changing ready) old new step s none = write_goes ready ready.change s.fault step refl none s.gives

  pub steps_extend : (call : OpStage BatchAnswer) (old new : Standing) (step : StepResult BatchAnswer Refusal)
      → OpSteps (basic_operation meaning offer b) call old new step → ExtendsNothing call → StepExtendsNothing step
  steps_extend call old new step s none = extends_by call step (steps_go call old new step s none)

  pub numbers : (call on : OpStage BatchAnswer) (old new : Standing) → OpSteps (basic_operation meaning offer b) call old new (Going on)
      → ExtendsNothing call → number_of 2 on ≡ number_of 2 call + 1
  numbers call on old new s none = let g = steps_go call old new (Going on) s none in rw (g.1, g.2) refl

  -- what a turn gives
  pub advanced : (call : OpStage BatchAnswer) (old new : Standing) (step : StepResult BatchAnswer Refusal) (turn : CallTurn)
      → OpSteps (basic_operation meaning offer b) call old new step → turn ≡ turn_of step
      → BasicTurnPromise meaning call old new offer b turn
  advanced call old new step turn s gives =
      let t : IsCallTurn (basic_operation meaning offer b) call old new turn = record { step = step; steps = s; gives = gives } in
      record { turns = t; faults = told.turn_blamed (basic_operation meaning offer b) quiet call old new turn t }

-- The first cell and snapshot.

first_digest : (id said : ℕ) (summary : Digest) → said ≡ id → summary.bytes ≡ start_digest_of Basic said
    → summary ≡ digest_of (summary_of id [])
first_digest id said summary id_is start_is = ap digest_of (start_is ∙ ap (start_digest_of Basic) id_is ∙ summary-nil id)

abbrev pub made_cell : ℕ → Digest → List ℕ → List ℕ → Cell
made_cell id summary key barrier = record { variant = Basic; «module» = id; flag = false; summary = summary; key = key; barrier = barrier }

abbrev pub made_content : Meaning → Digest → Content
made_content meaning summary = record { id = meaning.id; place = InBasic summary; position = 0; state = meaning.first }

module _ (meaning : Meaning) (said : ℕ) (summary : Digest) (key : List ℕ) (id_is : said ≡ meaning.id)
    (start_is : summary.bytes ≡ start_digest_of Basic said)
  where
    pub first_cell : (barrier : List ℕ) → barrier ≡ zero_bytes
        → cell_spelling (made_cell said summary key barrier) ≡ cell_spelling (cell_of (basic_instance meaning key) first_history)
    first_cell barrier barrier_is =
        let d = first_digest meaning.id said summary id_is start_is in λ j. cell_spelling (made_cell (id_is j) (d j) key (barrier_is j))

    pub first_snapshot : sealed_snapshot_of key (made_content meaning summary) ≡ issued_bytes (basic_instance meaning key) first_history
    first_snapshot =
        let d = first_digest meaning.id said summary id_is start_is in λ j. sealed_snapshot_of key (made_content meaning (d j))
