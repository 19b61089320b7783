-- A call of the machine in flight. With it: a device step that goes as its plan says goes so under
-- each plan that says the same of it; how a call in flight begins, takes in others' values and goes
-- on, and how it ends.
use Rattle.std.specs.Prelude.{◌==◌, filter}
use Rattle.std.proofs.lemmas.Bool.{ne_eqb}
use Rattle.std.proofs.lemmas.List.{append-nil}
use Rattle.std.proofs.lemmas.List.Elements.{filter-append}
use Rattle.mm_digest.specs.declared.digest.Digest.{Digest}
use Rattle.mm_seal.specs.declared.cell.Cell.{Cell}
use Rattle.mm_platform.specs.Standing.{due_values}
use Rattle.mm_platform.specs.declared.fault.StepFault.TheVariants.{Failed, Off}
use Rattle.mm_machine.specs.Acts.{act_in, remaining_acts, change_after}
use Rattle.mm_machine.specs.OpSteps.{OpMeaning, OpActs, OpEnds, breaks_off, CellSays, StepDraws, OpLooks, RegisterSays, RoomIsMadeIf}
use Rattle.mm_machine.specs.OpSteps.{RoomIsMadeFor, OpWeighs, has_extension, SightLeads, OpSteps, act_of, ending_by_halt, position_if_last}
use Rattle.mm_machine.specs.OpSteps.{step_of_finding, step_after_change, step_to}
use Rattle.mm_machine.specs.declared.call.OpResult.{OpResult}
use Rattle.mm_machine.specs.declared.call.OpResult.TheVariants.{Broken}
use Rattle.mm_machine.specs.declared.call.OpStage.{OpStage}
use Rattle.mm_machine.specs.declared.call.OpStage.TheVariants.{Begun, Seen, Changing}
use Rattle.mm_machine.specs.declared.call.StepResult.{StepResult}
use Rattle.mm_machine.specs.declared.call.StepResult.TheVariants.{Going, Over}
use Rattle.mm_machine.specs.declared.change.Change.{Change as Move}
use Rattle.mm_machine.specs.declared.change.Change.TheVariants.{Extending, Emptying, Placing, Writing}
use Rattle.mm_machine.specs.declared.operation.OpFinding.{OpFinding}
use Rattle.mm_machine.specs.declared.operation.OpFinding.TheVariants.{Repeat, Change}
use Rattle.mm_machine.specs.declared.operation.ReadyChange.{ReadyChange}
use Rattle.mm_machine.specs.declared.operation.Sight.{Sight}
use Rattle.mm_machine.specs.declared.operation.Sight.TheVariants as sight
use Rattle.mm_machine.specs.declared.reading.Halt.{Halt}
use Rattle.mm_machine.specs.declared.reading.Halt.TheVariants.{Fault, Refused, Lacks}
use Rattle.mm_machine.proofs.Above.{joins}
use Rattle.mm_call.specs.TellingLaws.{IsAt, then_at, room_at}
use Rattle.mm_flight.specs.Flight.{fault_of_step}
use Rattle.mm_flight.proofs.Below.{◌≡◌, ℕ, ◌+◌, ◌<◌, true, Bool, List, Option, None, Some, refl, ap, ◌∙◌, subst, arith, next_count}
use Rattle.mm_flight.proofs.Below.{StepFault, Meddle, Quiet, Plan, Standing, Act, StepGoes, DeviceStepEnds, StepGoesByPlan, fault_by_plan}
use Rattle.mm_flight.proofs.Below.{plan_by, standing_under, PlansAgreeAt, false, Result, Ok, Err, sym, ReadCell, ReadRegister, cell_after}
use Rattle.mm_flight.proofs.Below.{[], ◌∷◌, ◌++◌, option_map, plan_with_meddle, PlanAgreesWith, IsCallInFlight}

-- A device step that goes as its plan says goes so under each plan that says the same of it.

pub counted_few : (made : ℕ) → made < 255 → next_count made ≡ made + 1
counted_few made few = omega arith

-- A platform under a plan of which so many steps are over, and another plan that says the same of its next step.
pub record Replans (p q : Plan) (made : ℕ) (now : Standing) : Type 0 where
  pub is_on : now.is_on ≡ true
  pub planned : now.plan ≡ Some (record q { at = made })
  pub same : PlansAgreeAt p q (next_count made)

ends_under : (fault : Option StepFault) (p : Plan) (made : ℕ) (now new : Standing) (is_made : Bool) → DeviceStepEnds fault now new is_made
    → DeviceStepEnds fault (standing_under p made now) (standing_under p (next_count made) new) is_made
ends_under None p made now new is_made e = record { made = e.made; was_on = e.was_on; is_on = e.is_on; faults = e.faults }
ends_under (Some Failed) p made now new is_made e = record { was_on = e.was_on; is_on = e.is_on; faults = e.faults }
ends_under (Some Off) p made now new is_made e = record { faults = e.faults; still = e.still }

told_under : (p q : Plan) (made : ℕ) (now new : Standing) (is_made : Bool) (others : List (List ℕ)) (fault : Option StepFault)
    → Replans p q made now
    → StepGoesByPlan (record q { at = made }) now new is_made others fault
    → StepGoesByPlan (record p { at = made }) (standing_under p made now) (standing_under p (next_count made) new) is_made others fault
told_under p q made now new is_made others fault r told =
    record {
      answers = simp (told.answers, r.is_on, r.same.answers);
      makes = simp (told.makes, r.is_on, r.same.makes);
      power = simp (told.power, r.is_on, r.same.stays);
      brings = simp (told.brings, r.is_on, r.same.brings);
      counts = told.counts;
    }

pub replanned : (act : Act) (p q : Plan) (made : ℕ) (now new : Standing) (fault : Option StepFault) → Replans p q made now
    → StepGoes act now new fault
    → StepGoes act (standing_under p made now) (standing_under p (next_count made) new) fault
replanned act p q made now new fault r g =
    let told = told_under p q made now new g.is_made g.others fault r (g.told (record q { at = made }) r.planned) in record {
      is_made = g.is_made;
      others = g.others;
      cell = g.cell;
      items = g.items;
      steps = g.steps;
      writes = g.writes;
      cycles = g.cycles;
      room = g.room;
      plan = refl;
      ends = ends_under fault p made now new g.is_made g.ends;
      told = λ (plan : Plan) (known : Some (record p { at = made }) ≡ Some plan).
          let same : record p { at = made } ≡ plan = cc in
          subst (λ (x : Plan). StepGoesByPlan x (standing_under p made now) (standing_under p (next_count made) new) g.is_made g.others
          fault) same told;
    }

-- A device step that didn't fail and wrote no cell, and room that may have been made behind it.
pub record Moves (old new : Standing) : Type 0 where
  pub act : Act
  pub middle : Standing
  pub goes : StepGoes act old middle None
  pub room : new ≡ record middle { spare = new.spare }
  pub keeps : middle.cell ≡ old.cell

-- with nothing planned to go wrong a step answers no fault
pub quiet_step : (act : Act) (now new : Standing) (fault : Option StepFault) (meddles : List Meddle) (made : ℕ) → now.is_on ≡ true
    → now.plan ≡ Some (record (plan_by Quiet meddles) { at = made }) → StepGoes act now new fault
    → fault ≡ None
quiet_step act now new fault meddles made on planned g =
    let plan : Plan = record (plan_by Quiet meddles) { at = made } in
    (g.told plan planned).answers ∙ ap (λ (x : Bool). fault_by_plan x plan) on

-- every device step fails on this platform
abbrev pub AlwaysFails : Standing → Type 0
AlwaysFails now = (act : Act) (new : Standing) (fault : Option StepFault) → StepGoes act now new fault → fault ≡ None → ⊥

-- A call of the machine in flight: its step under another plan, what it goes on to, and a step that fails.

-- Under another plan that says the same of the step

draws_under : {T R : Type 0} {goes other : Option StepFault → Type 0} {says later : Result T R → Type 0}
    → ((fault : Option StepFault) → goes fault → other fault) → ((it : Result T R) → says it → later it)
    → (given : Result T (Halt R)) → StepDraws goes says given → StepDraws other later given
draws_under step said (Ok it) d = (step None d.0, said (Ok it) d.1)
draws_under step said (Err (Fault fault)) d = step (Some fault) d
draws_under step said (Err (Refused why)) d = (step None d.0, said (Err why) d.1)
draws_under step said (Err Lacks) d = absurd d

module _ {A R : Type 0} (p : Plan) (at : ℕ) (old new : Standing) where
  room_under : (flag : Bool) (found : OpFinding A) (given : Result (OpFinding A) (Halt R)) → RoomIsMadeIf flag found old new given
      → RoomIsMadeIf flag found (standing_under p at old) (standing_under p at new) given
  room_under false found given r = (ap (standing_under p at) r.0, r.1)
  room_under true found (Ok it) r = (record { room = r.0.room; same = ap (standing_under p at) r.0.same }, r.1)
  room_under true found (Err why) r = (ap (standing_under p at) r.0, r.1)

  rooms_under : (found given : Result (OpFinding A) (Halt R)) → RoomIsMadeFor found old new given
      → RoomIsMadeFor found (standing_under p at old) (standing_under p at new) given
  rooms_under (Err why) given r = (ap (standing_under p at) r.0, r.1)
  rooms_under (Ok found) given r = room_under (has_extension found) found given r

  leads_under : (seen : Result (Sight A) (Halt R)) (step : StepResult A R) → SightLeads seen old new step
      → SightLeads seen (standing_under p at old) (standing_under p at new) step
  leads_under (Err why) step s = (ap (standing_under p at) s.0, s.1)
  leads_under (Ok (sight.Found found)) step s =
      record { found = s.found; finds = rooms_under (Ok found) s.found s.finds; gives = s.gives }
  leads_under (Ok (sight.Cell cell)) step s = (ap (standing_under p at) s.0, s.1)

module _ {A R : Type 0} (o : OpMeaning A R) (p q : Plan) (made : ℕ) (old : Standing) (r : Replans p q made old) where
  abbrev begun : Standing
  begun = standing_under p made old

  abbrev then : Standing → Standing
  then new = standing_under p (next_count made) new

  looks_under : (new : Standing) (seen : Result (Sight A) (Halt R)) → OpLooks o old new seen → OpLooks o begun (then new) seen
  looks_under new =
      draws_under {later = λ seen. CellSays begun (λ bytes. o.sees bytes seen)} (λ fault g. replanned ReadCell p q made old new fault r g)
      (λ (seen : Result (Sight A) R) (s : CellSays old (λ bytes. o.sees bytes seen)). record {
        bytes = s.bytes;
        told = s.told;
        said =
            s.said;
      })

  weighs_under : (cell : Cell) (new : Standing) (given : Result (OpFinding A) (Halt R)) → OpWeighs o cell old new given
      → OpWeighs o cell begun (then new) given
  weighs_under cell new =
      draws_under {later = λ given. RegisterSays (then new) (λ register. o.finds cell register given)}
      (λ fault g. replanned ReadRegister p q made old new fault r g)
      (λ (given : Result (OpFinding A) R) (s : RegisterSays new (λ register. o.finds cell register given)). record {
        register = s.register;
        told = s.told;
        size = s.size;
        said = s.said;
      })

  pub steps_under : (stage : OpStage A) (new : Standing) (step : StepResult A R) → OpSteps o stage old new step
      → OpSteps o stage begun (then new) step
  steps_under Begun new step s = record {
    middle = then s.middle;
    seen = s.seen;
    looks = looks_under s.middle s.seen s.looks;
    leads = leads_under p (next_count made) s.middle new s.seen step s.leads;
  }
  steps_under (Seen cell) new step s =
      let f = s.finds in record {
        found = s.found;
        finds = record {
          middle = then f.middle;
          found = f.found;
          finds = weighs_under cell f.middle f.found f.finds;
          rooms = rooms_under p (next_count made) f.middle new f.found s.found f.rooms;
        };
        gives = s.gives;
      }
  steps_under (Changing ready) new step s =
      record { fault = s.fault; goes = replanned (act_in ready.change) p q made old new s.fault r s.goes; gives = s.gives }

-- The device step that a step made

-- It makes the device step that comes next, and hands its fault on. Besides it may make room.
pub record ActsAt {A R : Type 0} (stage : OpStage A) (old new : Standing) (step : StepResult A R) : Type 0 where
  pub middle : Standing
  pub goes : StepGoes (act_of stage) old middle (fault_of_step step)
  pub room : new ≡ record middle { spare = new.spare }

same_room : {middle new : Standing} → new ≡ middle → new ≡ record middle { spare = new.spare }
same_room {middle = middle} e = subst (λ (x : Standing). x ≡ record middle { spare = x.spare }) (sym e) refl

module _ {A R : Type 0} where
  acts_by : (stage : OpStage A) {old middle new : Standing} {step : StepResult A R} (it : StepResult A R) → step ≡ it
      → StepGoes (act_of stage) old middle (fault_of_step it) → new ≡ record middle { spare = new.spare } → ActsAt stage old new step
  acts_by stage {old = old} {middle = middle} {new = new} it e g room =
      subst (ActsAt stage old new) (sym e) (record { middle = middle; goes = g; room = room })

  -- what is found leads to no fault of its own
  room_acts : (flag : Bool) (stage : OpStage A) (found : OpFinding A) (old middle new : Standing) (given : Result (OpFinding A) (Halt R))
      (step : StepResult A R) → StepGoes (act_of stage) old middle None → RoomIsMadeIf flag found middle new given
      → step ≡ step_of_finding given
      → ActsAt stage old new step
  room_acts false stage (Repeat answer) old middle new given step g r e =
      acts_by stage (step_of_finding (Ok (Repeat answer))) (e ∙ ap step_of_finding r.1) g (same_room r.0)
  room_acts false stage (Change ready) old middle new given step g r e =
      acts_by stage (step_of_finding (Ok (Change ready))) (e ∙ ap step_of_finding r.1) g (same_room r.0)
  room_acts true stage found old middle new (Ok (Repeat answer)) step g r e =
      acts_by stage (step_of_finding (Ok (Repeat answer))) e g r.0.same
  room_acts true stage found old middle new (Ok (Change ready)) step g r e =
      acts_by stage (step_of_finding (Ok (Change ready))) e g r.0.same
  room_acts true stage found old middle new (Err why) step g r e =
      acts_by stage (step_of_finding (Err Lacks)) (e ∙ ap (λ (x : Halt R). step_of_finding (Err x)) r.1) g (same_room r.0)

  module _ (o : OpMeaning A R) where
    looks_acts : (seen : Result (Sight A) (Halt R)) (old middle new : Standing) (step : StepResult A R) → OpLooks o old middle seen
        → SightLeads seen middle new step → ActsAt Begun old new step
    looks_acts (Err (Fault fault)) old middle new step l s = acts_by Begun (Over (ending_by_halt (Fault fault))) s.1 l (same_room s.0)
    looks_acts (Err (Refused why)) old middle new step l s = acts_by Begun (Over (ending_by_halt (Refused why))) s.1 l.0 (same_room s.0)
    looks_acts (Err Lacks) old middle new step l s = absurd l
    looks_acts (Ok (sight.Found found)) old middle new step l s =
        room_acts (has_extension found) Begun found old middle new s.found step l.0 s.finds s.gives
    looks_acts (Ok (sight.Cell cell)) old middle new step l s = acts_by Begun (Going (Seen cell)) s.1 l.0 (same_room s.0)

    weighs_acts : (cell : Cell) (found given : Result (OpFinding A) (Halt R)) (old middle new : Standing) (step : StepResult A R)
        → OpWeighs o cell old middle found → RoomIsMadeFor found middle new given → step ≡ step_of_finding given
        → ActsAt (Seen cell) old new step
    weighs_acts cell (Err (Fault fault)) given old middle new step w r e =
        acts_by (Seen cell) (Over (ending_by_halt (Fault fault))) (e ∙ ap step_of_finding r.1) w (same_room r.0)
    weighs_acts cell (Err (Refused why)) given old middle new step w r e =
        acts_by (Seen cell) (Over (ending_by_halt (Refused why))) (e ∙ ap step_of_finding r.1) w.0 (same_room r.0)
    weighs_acts cell (Err Lacks) given old middle new step w r e = absurd w
    weighs_acts cell (Ok found) given old middle new step w r e =
        room_acts (has_extension found) (Seen cell) found old middle new given step w.0 r e

    made_fault : (change : Option Move) (answer : A) → fault_of_step {A = A} {R = R} (step_to change answer) ≡ None
    made_fault None answer = refl
    made_fault (Some change) answer = refl

    change_acts : (ready : ReadyChange A) (fault : Option StepFault) (old new : Standing) (step : StepResult A R)
        → StepGoes (act_in ready.change) old new fault → step ≡ step_after_change o ready fault → ActsAt (Changing ready) old new step
    change_acts ready None old new step g e =
        acts_by (Changing ready) (step_to (change_after ready.change) ready.answer) e
        (subst (StepGoes (act_in ready.change) old new) (sym (made_fault (change_after ready.change) ready.answer)) g) refl
    change_acts ready (Some fault) old new step g e = acts_by (Changing ready) (step_after_change o ready (Some fault)) e g refl

    pub steps_act : (stage : OpStage A) (old new : Standing) (step : StepResult A R) → OpSteps o stage old new step
        → ActsAt stage old new step
    steps_act Begun old new step s = looks_acts s.seen old s.middle new step s.looks s.leads
    steps_act (Seen cell) old new step s =
        weighs_acts cell s.finds.found s.found old s.finds.middle new step s.finds.finds s.finds.rooms s.gives
    steps_act (Changing ready) old new step s = change_acts ready s.fault old new step s.goes s.gives

    -- no fault comes where none is planned
    pub steps_faultless : (stage : OpStage A) (old new : Standing) (step : StepResult A R) (meddles : List Meddle) (made : ℕ)
        → old.is_on ≡ true
        → old.plan ≡ Some (record (plan_by Quiet meddles) { at = made }) → OpSteps o stage old new step → fault_of_step step ≡ None
    steps_faultless stage old new step meddles made on planned s =
        let a = steps_act stage old new step s in
        quiet_step (act_of stage) old a.middle (fault_of_step step) meddles made on planned a.goes

    -- A step that goes on wrote no cell

    after_made : (change : Move) (answer : A) (fault : Option StepFault) (on : OpStage A)
        → Going on ≡ step_after_change o (record { change = change; answer = answer }) fault → (made : Bool) (cell : Option (List ℕ))
        → cell_after (act_in change) made cell ≡ cell
    after_made (Extending value) answer fault on e made cell = refl
    after_made (Emptying opening) answer fault on e made cell = refl
    after_made (Placing opening) answer fault on e made cell = refl
    after_made (Writing next) answer None on e made cell = absurd (cc)
    after_made (Writing next) answer (Some fault) on e made cell = absurd (cc)

    keeps_cell : (stage on : OpStage A) (old new : Standing) → OpSteps o stage old new (Going on) → (made : Bool) (cell : Option (List ℕ))
        → cell_after (act_of stage) made cell ≡ cell
    keeps_cell Begun on old new s made cell = refl
    keeps_cell (Seen it) on old new s made cell = refl
    keeps_cell (Changing ready) on old new s made cell = after_made ready.change ready.answer s.fault on s.gives made cell

    pub steps_move : (stage on : OpStage A) (old new : Standing) → OpSteps o stage old new (Going on) → Moves old new
    steps_move stage on old new s =
        let a = steps_act stage old new (Going on) s in record {
          act = act_of stage;
          middle = a.middle;
          goes = a.goes;
          room = a.room;
          keeps = a.goes.cell ∙ keeps_cell stage on old new s a.goes.is_made old.cell;
        }

    -- What is left behind a step, and a step that fails

    pub steps_then : (stage on : OpStage A) (old middle new : Standing) (ended : OpResult A R) → OpSteps o stage old middle (Going on)
        → OpEnds o on middle new ended → OpEnds o stage old new ended
    steps_then stage on old middle new ended s f = joins o stage old middle new (Going on) ended s f

    pub steps_over : (stage : OpStage A) (old new : Standing) (ended : OpResult A R) → OpSteps o stage old new (Over ended)
        → OpEnds o stage old new ended
    steps_over stage old new ended s = joins o stage old new new (Over ended) ended s (refl, refl)

    -- the position that the next step commits
    abbrev pub commits_at : OpStage A → Option ℕ
    commits_at Begun = None
    commits_at (Seen cell) = None
    commits_at (Changing ready) = position_if_last (change_after ready.change) (o.position ready.answer)

    change_fails : (change : Move) (answer : A) (old new : Standing) (fault : StepFault) → StepGoes (act_in change) old new (Some fault)
        → OpActs o (remaining_acts change) answer old new (Broken fault (position_if_last (change_after change) (o.position answer)))
    change_fails (Extending value) answer old new fault g = breaks_off fault g refl
    change_fails (Emptying opening) answer old new fault g = breaks_off fault g refl
    change_fails (Placing opening) answer old new fault g = breaks_off fault g refl
    change_fails (Writing next) answer old new fault g = breaks_off fault g refl

    pub steps_fail : (stage : OpStage A) (old new : Standing) (fault : StepFault) → StepGoes (act_of stage) old new (Some fault)
        → OpEnds o stage old new (Broken fault (commits_at stage))
    steps_fail Begun old new fault g = record {
      middle = new;
      found = Err (Fault fault);
      finds = record { middle = new; seen = Err (Fault fault); looks = g; on = (refl, refl) };
      ends = (refl, refl);
    }
    steps_fail (Seen cell) old new fault g = record {
      middle = new;
      found = Err (Fault fault);
      finds = record { middle = new; found = Err (Fault fault); finds = g; rooms = (refl, refl) };
      ends = (refl, refl);
    }
    steps_fail (Changing ready) old new fault g = change_fails ready.change ready.answer old new fault g

-- How a call in flight begins, takes in others' values and goes on, and how it ends.

-- a call before its first step
pub begins : {E : Type 0} (calls rest : Standing → Standing → E → Type 0) (old : Standing) → old.is_on ≡ true
    → old.plan ≡ Some (plan_by Quiet [])
    → ((from new : Standing) (ended : E) → rest from new ended → calls from new ended) → IsCallInFlight calls rest old old [] 0
begins calls rest old on planned whole = record {
  is_on = on;
  planned = planned;
  cell = refl;
  few = omega arith;
  joins = λ plan goes new ended r. whole (standing_under plan 0 old) new ended r;
}

-- others extend the register just before the next step

-- the meddles with one more, at this step
abbrev pub meddled : List Meddle → ℕ → Digest → List Meddle
meddled meddles step value = meddles ++ record { step = step; value = value } ∷ []

due_more : (n step : ℕ) (meddles : List Meddle) (value : Digest) → (step == n) ≡ false → due_values n (meddled meddles step value)
    ≡ due_values n meddles
due_more n step meddles value other =
    let p : Meddle → Bool = λ m. m.step == n in
    let m : Meddle = record { step = step; value = value } in
    simp (filter-append p meddles (m ∷ []), other, append-nil (filter p meddles))

goes_before : (plan : Plan) (meddles : List Meddle) (made : ℕ) (value : Digest)
    → PlanAgreesWith plan (meddled meddles (made + 1) value) made
    → PlanAgreesWith plan meddles made
goes_before plan meddles made value goes = λ n few.
    let same : PlansAgreeAt plan (plan_by Quiet (meddled meddles (made + 1) value)) n = goes n few in record {
      brings = same.brings ∙ due_more n (made + 1) meddles value (ne_eqb (made + 1) n (λ e. omega (arith, few, e)));
      answers = same.answers;
      makes = same.makes;
      stays = same.stays;
    }

pub takes_in : {E : Type 0} (calls rest : Standing → Standing → E
    → Type 0) (old now new : Standing) (meddles : List Meddle) (made : ℕ) (value : Digest) → IsCallInFlight calls rest old now meddles made
    → new ≡ record now { plan = option_map (plan_with_meddle value) now.plan }
    → IsCallInFlight calls rest old new (meddled meddles (made + 1) value) made
takes_in calls rest old now new meddles made value f e = record {
  is_on = ap (λ (s : Standing). s.is_on) e ∙ f.is_on;
  planned = ap (λ (s : Standing). s.plan) e ∙ ap (λ (p : Option Plan). option_map (plan_with_meddle value) p) f.planned
      ∙ ap (λ (k : ℕ). Some (record (plan_by Quiet (meddled meddles k value)) { at = made })) (counted_few made f.few);
  cell = ap (λ (s : Standing). s.cell) e ∙ f.cell;
  few = f.few;
  joins = λ plan goes end ended r.
      f.joins plan (goes_before plan meddles made value goes) end ended
      (subst (λ (s : Standing). rest s end ended) (ap (standing_under plan made) e) r);
}

-- it goes on with its next step

pub replans : (plan : Plan) (now : Standing) (meddles : List Meddle) (made : ℕ) → now.is_on ≡ true
    → now.plan ≡ Some (record (plan_by Quiet meddles) { at = made }) → made < 255
    → PlansAgreeAt plan (plan_by Quiet meddles) (made + 1) → Replans plan (plan_by Quiet meddles) made now
replans plan now meddles made on planned few same = record {
  is_on = on;
  planned = planned;
  same = subst (λ (n : ℕ). PlansAgreeAt plan (plan_by Quiet meddles) n) (sym (counted_few made few)) same;
}

pub goes_on : {E : Type 0} (calls rest later : Standing → Standing → E
    → Type 0) (old now new : Standing) (meddles : List Meddle) (made : ℕ) → IsCallInFlight calls rest old now meddles made
    → Moves now new → made + 1 < 255
    → ((plan : Plan) → Replans plan (plan_by Quiet meddles) made now → (end : Standing) (ended : E)
    → later (standing_under plan (next_count made) new) end ended → rest (standing_under plan made now) end ended)
    → IsCallInFlight calls later old new meddles (made + 1)
goes_on calls rest later old now new meddles made f m few leads =
    let q : Plan = plan_by Quiet meddles in
    let is : IsAt now q made = record { is_on = f.is_on; planned = f.planned } in
    let on = room_at m.middle new q (next_count made) m.room (then_at m.act now m.middle q made is m.goes) in
    let more : next_count made ≡ made + 1 = counted_few made f.few in record {
      is_on = on.is_on;
      planned = on.planned ∙ ap (λ (k : ℕ). Some (record q { at = k })) more;
      cell = ap (λ (s : Standing). s.cell) m.room ∙ m.keeps ∙ f.cell;
      few = few;
      joins = λ plan goes end ended r.
          f.joins plan (λ n less. goes n (omega (arith, less))) end ended
          (leads plan (replans plan now meddles made f.is_on f.planned f.few (goes (made + 1) (omega arith))) end ended
          (subst (λ (k : ℕ). later (standing_under plan k new) end ended) (sym more) r));
    }
