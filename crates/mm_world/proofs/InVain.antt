-- A planned call over a cell that it doesn't go on with makes one reading step, and comes to what that gives.
use Rattle.mm_world.proofs.Below.{◌≡◌, ℕ, Bool, true, false, ◌&&◌, List, Option, None, Some, Result, Ok, Err, refl, sym, ap, ◌∙◌, subst}
use Rattle.mm_world.proofs.Below.{eq-eqb, if◌then◌else◌, ◌==◌, Variant, Basic, Opt, Meaning, Batch, StepFault, Standing, ReadCell, StepGoes}
use Rattle.mm_world.proofs.Below.{Cell, CellFault, Blank, Unspelled, ReadsCell, is_same_variant, Refusal, AskResult, Refused, end_by_fault}
use Rattle.mm_world.proofs.Below.{fault_of, IsOrMemory, Said, CheckpointRefusal, closing_fault_of, segment_in, SeesSegment, LooksAtSegment}
use Rattle.mm_world.proofs.Below.{EndsLooking, vain_refusal, [], ◌∷◌, ◌++◌, map, append-nil, is_some, MatchResult, option_to_list, Memory}
use Rattle.mm_world.proofs.Below.{One, size_of, Meddle, Stop, fault_at, is_made_at, fault_by_plan, values_by_plan, Instance, Foreign}
use Rattle.mm_world.proofs.Below.{is_long, Digests, digests_after, register_reading, digest_level, state_after_moves, StepsWalk}
use Rattle.mm_world.proofs.Below.{walk_from_step, has_commit, end_of, Reads, call_outcome_by, position_if_committed, is_broken}
use Rattle.mm_world.proofs.Below.{PlatformStaysOn, EndsAsCall, inl, inr, Reply, Outcome, way_of, cause_of, outcome_by, outcome_without_call}
use Rattle.mm_world.proofs.Below.{read_only_outcome, plan_of, broken_reply, stopped_reply, IsQuiet, quiet_call, refused_call, broken_call}
use Rattle.mm_world.proofs.Below.{takes_effect, size_if, is_cut, IsCallResult, SettlesPlan, checkpoint_reply, has_closing_fault}
use Rattle.mm_world.proofs.Below.{refusal_of_fault, CallComesInVain, AsksInVain, ChecksInVain, AsksPlanned, ChecksPlanned, planned_ask, items_beside}
use Rattle.mm_world.proofs.Below.{register_of_items, reads_beside, foreign_made}
use Rattle.mm_seal.specs.CellLaws.{reads_cell-same}
use Rattle.mm_call.specs.CallKind.{IsCallToEnd, EndsByFinding, end_of_machine}
use Rattle.mm_opt.specs.Checkpoints.{closing_fault_in, ClosesSegment, closing_operation as closing_asked, result_of_end}
use Rattle.mm_call.specs.CallFinding.{fault_in}
use Rattle.mm_opt.specs.AskPromise.{cell_in, own_cell, is_opt, SeesCell}
use Rattle.mm_opt.specs.declared.segment.Segment.{Segment}
use Rattle.mm_platform.specs.Standing.{due_values}
use Rattle.mm_opt.specs.CheckpointPromise.{IsCheckpointOnCourse}
use Rattle.mm_world.proofs.Asking.{stopped_at, settled_reads, stop_power, on_settled, power_if}
use Rattle.mm_world.proofs.Calling.{asks_as}
use Rattle.mm_world.proofs.Seating.{closes_at}
use Rattle.mm_world.specs.Calls.{has_closed_segment, IsPlanned, WasPlanned, TellsAsk, TellsCheckpoint}
use Rattle.mm_machine.specs.OpSteps.{OpEnds}
use Rattle.mm_machine.specs.declared.call.OpResult.{OpResult as End}
use Rattle.mm_machine.specs.declared.call.OpStage.TheVariants.{Begun}
use Rattle.mm_model.specs.declared.answer.BatchAnswer.{BatchAnswer}
use Rattle.mm_ask.specs.WholeAsk.{ask_operation}
use Rattle.mm_ask.proofs.Above.{calls_by}
use Rattle.mm_world.proofs.Worlds.{asks_broken, closes_broken, closes_came, closes_told}
use Rattle.mm_model.specs.declared.refusal.Refusal.TheVariants as refusal
use Rattle.mm_basic.specs.BasicSight as seen
use Rattle.mm_basic.specs.AskPromise as basic_asks
use Rattle.mm_basic.specs.Operation as basic_answers
use Rattle.mm_basic.proofs.Above as in_basic
use Rattle.mm_opt.specs.AskPromise as opt_asks
use Rattle.mm_opt.specs.Answers.{BatchFinding}
use Rattle.mm_opt.proofs.Above as in_opt
use Rattle.mm_opt.specs.declared.segment.CheckpointRefusal.TheVariants as closing
use Rattle.mm_schedule.specs.declared.reply.Cause.TheVariants as cause
use Rattle.mm_schedule.specs.declared.reply.Reply.TheVariants as reply
use Rattle.mm_world.specs.declared.call.CallReport as code

-- The one reading step of a call, which ended as it does by the step's fault, if it had one.
pub record StopsAs {A : Type 0} (ends_by : Option StepFault → A) (old new : Standing) (ended : A) : Type 0 where
  pub fault : Option StepFault
  pub goes : StepGoes ReadCell old new fault
  pub ends : ended ≡ ends_by fault

-- A reading step that fails or finds this error, and what ends by that error, which touches nothing.
stops_at : {A E D : Type 0} (fault_in : Result A E → Option StepFault) (ends_by : Option StepFault → D) (ends : Result A E → Type 0)
    (why : E) (old middle new : Standing) (ended : D) (found : Result A E) → ((it : A) → fault_in (Ok it) ≡ None)
    → StepGoes ReadCell old middle (fault_in found) → (fault_in found ≡ None → found ≡ Err why) → ends found
    → ((w : E) → ends (Err w) → (fault_in (Err w) ≡ None → w ≡ why) → (new ≡ middle) × (ended ≡ ends_by (fault_in (Err w))))
    → StopsAs ends_by old new ended
stops_at fault_in ends_by ends why old middle new ended (Ok it) fine goes finds e on =
    let clash : Ok it ≡ Err why = finds (fine it) in absurd (cc)
stops_at fault_in ends_by ends why old middle new ended (Err w) fine goes finds e on =
    let t = on w e (λ none. let same : Err w ≡ Err why = finds none in cc) in record {
      fault = fault_in (Err w);
      goes = subst (λ (s : Standing). StepGoes ReadCell old s (fault_in (Err w))) (sym t.0) goes;
      ends = t.1;
    }

-- a call that was refused for this, or broken off there
abbrev StopsReading : Standing → Standing → Refusal → AskResult → Type 0
StopsReading old new why ended = StopsAs (λ fault. end_by_fault fault why) old new ended

-- what is found in the cell

-- by whether the cell is the call's own
unless_own : (own : Bool) (why : Refusal) → (let x : Option Refusal = (if own then None else Some refusal.Cell) in x ≡ Some why)
    → (own ≡ false) × (refusal.Cell ≡ why)
unless_own true why e = cc
unless_own false why e = (refl, cc)

-- a refusal at the step, or its fault
with_why : (fault : Option StepFault) (w why : Refusal) → (fault ≡ None → w ≡ why) → end_by_fault fault w ≡ end_by_fault fault why
with_why None w why known = ap Refused (known refl)
with_why (Some fault) w why known = refl

opt_own : (variant : Variant) (own : Bool) (cell : Cell) (why : Refusal)
    → (let x : Option Refusal = (if is_same_variant variant Opt && own then None else Some refusal.Cell) in x ≡ Some why)
    → own_cell (is_opt variant && own) cell ≡ Err why
opt_own Opt true cell why e = cc
opt_own _ _ cell why e = cc

found_opt : (id : ℕ) (read : Result Cell CellFault) (why : Refusal) → vain_refusal Opt id read ≡ Some why → cell_in id read ≡ Err why
found_opt id (Ok cell) why e = opt_own cell.variant (cell.module == id) cell why e
found_opt id (Err Blank) why e = cc
found_opt id _ why e = cc

module _ (meaning : Meaning) (bytes offer : List ℕ) (b : Batch) (read : Result Cell CellFault) (why : Refusal)
    (reads : ReadsCell bytes read) where
  -- what the bytes read as
  same_read : (other : Result Cell CellFault) → ReadsCell bytes other → read ≡ other
  same_read other others = reads_cell-same bytes read other reads others

  module _ (vain : vain_refusal Basic meaning.id read ≡ Some why) where
    vain_at : (other : Result Cell CellFault) → ReadsCell bytes other → vain_refusal Basic meaning.id other ≡ Some why
    vain_at other others = ap (vain_refusal Basic meaning.id) (sym (same_read other others)) ∙ vain

    never_own : (cell : Cell) → ReadsCell bytes (Ok cell) → seen.IsCellOf meaning.id cell → ⊥
    never_own cell others own =
        let is : (is_same_variant cell.variant Basic && (cell.module == meaning.id)) ≡ true =
        rw (own.0, own.1) (eq-eqb meaning.id meaning.id refl) in
        let clash : true ≡ false = sym is ∙ (unless_own _ why (vain_at (Ok cell) others)).0 in absurd (cc)

    found_basic : (found : Result BatchFinding Refusal) (it : seen.BasicSight) → seen.IsSeen meaning.id bytes offer it
        → IsOrMemory (basic_answers.finding_in meaning it b) found → found ≡ Err why
    found_basic found (seen.NoCell Blank) is or = let e : Some refusal.Blank ≡ Some why = vain_at (Err Blank) is in or ∙ cc
    found_basic found (seen.NoCell Unspelled) is or = let e : Some refusal.Cell ≡ Some why = vain_at (Err Unspelled) is in or ∙ cc
    found_basic found seen.OtherCell is or = or ∙ ap (λ w. Err w) (unless_own _ why (vain_at (Ok is.0) is.1)).1
    found_basic found (seen.NoOffer fault) is or = absurd (never_own is.0 is.1 is.2)
    found_basic found (seen.Both cell offered) is or = absurd (never_own cell is.0 is.1)

  module _ (old new : Standing) (ended : AskResult) (cell : old.cell ≡ Some bytes) where
    basic_stops : vain_refusal Basic meaning.id read ≡ Some why → IsCallToEnd basic_asks.basic_call meaning old new offer b ended
        → StopsReading old new why ended
    basic_stops vain asks =
        let first = in_basic.reads_told meaning offer b old asks.middle asks.found asks.reads in
        stops_at fault_in (λ fault. end_by_fault fault why) (λ found. EndsByFinding basic_asks.basic_call found asks.middle new ended) why
        old
        asks.middle new ended asks.found (λ it. refl) first.goes
        (λ none. let f = first.finds none in found_basic vain asks.found f.said.seen
        (subst (λ (x : List ℕ). seen.IsSeen meaning.id x offer f.said.seen) (f.told bytes cell) f.said.is_seen) f.said.found_is)
        asks.ends (λ w e known. (e.0, e.1 ∙ with_why (fault_of w) w why known))

    opt_stops : vain_refusal Opt meaning.id read ≡ Some why → IsCallToEnd opt_asks.opt_call meaning old new offer b ended
        → StopsReading old new why ended
    opt_stops vain asks =
        let first = in_opt.reads_told meaning offer b old asks.middle asks.found asks.reads in
        let last = EndsByFinding opt_asks.opt_call in
        stops_at fault_in (λ fault. end_by_fault fault why)
        (λ found. in_opt.ReadsOn meaning offer b found first.middle asks.middle asks.found) why old
        first.middle new ended first.cell (λ it. refl) first.reads.goes
        (λ none. let f = first.reads.finds none in
        let sees = subst (λ (x : List ℕ). SeesCell meaning.id x first.cell) (f.told bytes cell) f.said in
        sees.found_is ∙ ap (cell_in meaning.id) (sym (same_read sees.read sees.reads)) ∙ found_opt meaning.id read why vain)
        first.on (λ w on known. let e : (new ≡ asks.middle) × (ended ≡ end_by_fault (fault_of w) w) =
        subst (λ (x : Result BatchFinding Refusal). last x asks.middle new ended) on.1 asks.ends in
        (e.0 ∙ on.0, e.1 ∙ with_why (fault_of w) w why known))

    ask_stops : (variant : Variant) (end : End BatchAnswer Refusal) → OpEnds (ask_operation variant meaning offer b) Begun old new end
        → ended ≡ end_of_machine end → vain_refusal variant meaning.id read ≡ Some why → StopsReading old new why ended
    ask_stops Basic end f is vain =
        basic_stops vain (in_basic.finished_asks meaning offer b old new ended (record { end = end; finishes = f; gives = is }))
    ask_stops Opt end f is vain =
        opt_stops vain (in_opt.finished_asks meaning old new offer b ended (record { end = end; finishes = f; gives = is }))

-- a checkpoint

-- what a checkpoint ended with that found no cell, or was broken off at its first step
abbrev missing_segment : CellFault → CheckpointRefusal
missing_segment Blank = closing.Blank
missing_segment Unspelled = closing.Cell

abbrev closing_ended : Option StepFault → CellFault → Result Said CheckpointRefusal
closing_ended None fault = Err (missing_segment fault)
closing_ended (Some failed) fault = Err (closing.Device failed)

device_of : (w : CheckpointRefusal) (fault : StepFault) → closing_fault_of w ≡ Some fault → w ≡ closing.Device fault
device_of (closing.Device f) fault e = let s : f ≡ fault = cc in ap closing.Device s
device_of _ fault e = cc

missing_in : (missed : CellFault) → segment_in (Err missed) ≡ Err (missing_segment missed)
missing_in Blank = refl
missing_in Unspelled = refl

with_missing : (w : CheckpointRefusal) (fault : Option StepFault) (missed : CellFault) → closing_fault_of w ≡ fault
    → (fault ≡ None → w ≡ missing_segment missed) → Err w ≡ closing_ended fault missed
with_missing w None missed e known = ap (λ x. Err x) (known refl)
with_missing w (Some fault) missed e known = ap (λ x. Err x) (device_of w fault e)

stops_looking : (old middle new : Standing) (bytes : List ℕ) (missed : CellFault) (found : Result Segment CheckpointRefusal)
    (result : Result Said CheckpointRefusal) → old.cell ≡ Some bytes → ReadsCell bytes (Err missed) → LooksAtSegment old middle found
    → EndsLooking found middle new result → StopsAs (λ fault. closing_ended fault missed) old new result
stops_looking old middle new bytes missed found result cell reads looks ends =
    stops_at closing_fault_in (λ fault. closing_ended fault missed) (λ found. EndsLooking found middle new result)
    (missing_segment missed) old middle new result found (λ it. refl) looks.goes
    (λ none. let f = looks.finds none in
    let sees = subst (λ (x : List ℕ). SeesSegment x found) (f.told bytes cell) f.sees in
    sees.found_is ∙ ap segment_in (reads_cell-same bytes sees.read (Err missed) sees.reads reads) ∙ missing_in missed)
    ends (λ w e known. (e.0, e.1 ∙ with_missing w (closing_fault_of w) missed refl known))

-- the outcome of the one step

abbrev nothing : StepsWalk
nothing = record { moves = []; steps = 0; writes = 0; broken = None }

abbrev read_by : Instance → Digests → List (List ℕ) → Stop → Refusal → List (List ℕ) → Option StepFault → Bool → Outcome Digests
read_by i d issued stop why values fault made =
    outcome_by (digest_level i) stop issued
    (call_outcome_by (digest_level i) d d (One []) (Err why) (walk_from_step Reads values (end_of fault made) nothing))

foreign_commits : (values : List (List ℕ)) → has_commit (map Foreign values) ≡ false
foreign_commits [] = refl
foreign_commits (v ∷ values) = foreign_commits values

none_kept : (effect : Bool) → (let x : Option ℕ = (if effect then None else None) in x ≡ None)
none_kept true = refl
none_kept false = refl

abbrev told_vain : Stop → Refusal → Option StepFault → Reply
told_vain stop why None = reply.No (cause_of why)
told_vain stop why (Some fault) = reply.Nothing (way_of stop)

-- What is told of a call that was refused for this, or broken off at its first step.
record TellsVain (stop : Stop) (why : Refusal) (fault : Option StepFault) (it : code.CallReport) : Type 0 where
  pub reply : it.reply ≡ told_vain stop why fault
  pub snapshot : it.snapshot ≡ None
  pub committed : it.committed ≡ 0

module _ (i : Instance) where
  -- what the one step comes to, by whether it failed
  abbrev read_to : Digests → List (List ℕ) → Stop → Refusal → List (List ℕ) → Option StepFault → Outcome Digests
  read_to d issued stop why values fault = record {
    state = state_after_moves (digest_level i) (state_after_moves (digest_level i) d (map Foreign values))
        (power_if (is_some fault && is_cut stop));
    issued = issued ++ [];
    reply = told_vain stop why fault;
    steps = 1;
    writes = 0;
  }

  read_is : (d : Digests) (issued : List (List ℕ)) (stop : Stop) (why : Refusal) (values : List (List ℕ)) (fault : Option StepFault)
      (made : Bool) → read_by i d issued stop why values fault made ≡ read_to d issued stop why values fault
  read_is d issued stop why values None made = λ j. record (read_to d issued stop why values None) {
    state = state_after_moves (digest_level i) d (append-nil (map Foreign values) j);
  }
  read_is d issued stop why values (Some fault) made = λ j. record (read_to d issued stop why values (Some fault)) {
    state = state_after_moves (digest_level i) (state_after_moves (digest_level i) d (map Foreign values)) (stop_power stop j);
    reply = broken_reply (way_of stop) (position_if_committed (foreign_commits values j) 0);
  }

  -- the step over a planned platform
  stopped_came : (d : Digests) (stop : Stop) (meddles : List Meddle) (issued : List (List ℕ)) (why : Refusal) (old mid new : Standing)
      (it : code.CallReport) (fault : Option StepFault) → IsQuiet old → register_reading old ≡ Some d.register
      → StepGoes ReadCell (record old { plan = Some (plan_of stop meddles) }) mid fault → SettlesPlan stop (is_some fault) mid new
      → PlatformStaysOn stop (is_some fault) mid → TellsVain stop why fault it
      → CallComesInVain (read_only_outcome (digest_level i) d issued meddles stop why)
      issued old new it
  stopped_came d stop meddles issued why old mid new it fault q register goes settles stays tells =
      let told = goes.told (plan_of stop meddles) refl in
      let is : fault ≡ fault_at stop 1 = told.answers ∙ ap (λ on. fault_by_plan on (plan_of stop meddles)) q.is_on in
      let brings : goes.others ≡ due_values 1 meddles = told.brings ∙ ap (λ on. values_by_plan on (plan_of stop meddles)) q.is_on in
      let read : register_reading mid ≡ Some (state_after_moves (digest_level i) d (map Foreign (due_values 1 meddles))).register =
      ap register_of_items (goes.items ∙ ap (λ vs. items_beside vs old.items) brings) ∙ reads_beside old.items (due_values 1 meddles)
      d.register register
      ∙ ap (λ (e : Digests). Some e.register) (sym (foreign_made i d (due_values 1 meddles))) in
      let comes = sym (read_is d issued stop why (due_values 1 meddles) fault (is_made_at stop 1)) in
      subst (λ f. CallComesInVain (read_by i d issued stop why (due_values 1 meddles) f (is_made_at stop 1)) issued old new it) is
      (subst (λ o. CallComesInVain o issued old new it) comes (record {
        reply = tells.reply;
        issues = ap (λ x. issued ++ option_to_list x) tells.snapshot;
        committed = tells.committed;
        cell = settles.cell ∙ goes.cell;
        register = settled_reads i _ mid new (is_some fault && is_cut stop) read settles.items;
        quiet = record { is_on = on_settled stop (is_some fault) mid new stays settles.is_on; plan = settles.plan };
        steps = settles.steps ∙ goes.steps;
        writes = settles.writes ∙ goes.writes;
      }))

-- what is told of a call that ended so

never_memory : (variant : Variant) (id : ℕ) (read : Result Cell CellFault) → vain_refusal variant id read ≡ Some refusal.Memory → ⊥
never_memory variant id (Ok cell) e =
    let u = unless_own (is_same_variant cell.variant variant && (cell.module == id)) refusal.Memory e in
    let clash : refusal.Cell ≡ refusal.Memory = u.1 in absurd (cc)
never_memory variant id (Err Blank) e = cc
never_memory variant id _ e = cc

broken_with : (fault : Option StepFault) (why : Refusal) → is_broken (end_by_fault fault why) ≡ is_some fault
broken_with None why = refl
broken_with (Some fault) why = refl

-- what a call came to that was refused for this, or broken off at its first step
abbrev vain_call : Stop → ℕ → Option StepFault → Refusal → code.CallReport
vain_call stop size None why = refused_call (cause_of why)
vain_call stop size (Some fault) why = broken_call stop (if takes_effect stop then None else None) size

vain_told : (stop : Stop) (size : ℕ) (fault : Option StepFault) (why : Refusal) → TellsVain stop why fault (vain_call stop size fault why)
vain_told stop size None why = record { reply = refl; snapshot = refl; committed = refl }
vain_told stop size (Some fault) why = record {
  reply = ap (broken_reply (way_of stop)) (none_kept (takes_effect stop));
  snapshot = refl;
  committed = ap (λ kept. size_if kept size) (none_kept (takes_effect stop));
}

vain_result : (stop : Stop) (size : ℕ) (fault : Option StepFault) (why : Refusal) (result : Result code.CallReport Memory)
    → (why ≡ refusal.Memory → ⊥) → IsCallResult stop size (end_by_fault fault why) result → result ≡ Ok (vain_call stop size fault why)
vain_result stop size (Some fault) why result never e = e
vain_result stop size None refusal.Memory result never e = absurd (never refl)
vain_result stop size None _ result never e = e

-- a checkpoint

stopped_ended : (fault : Option StepFault) (missed : CellFault) → has_closing_fault (closing_ended fault missed) ≡ is_some fault
stopped_ended None Blank = refl
stopped_ended _ _ = refl

closing_told_vain : (stop : Stop) (missed : CellFault) (fault : Option StepFault) → fault ≡ fault_at stop 1
    → TellsVain stop (refusal_of_fault missed) fault (quiet_call (checkpoint_reply stop (closes_at stop) (closing_ended fault missed)))
closing_told_vain stop missed (Some fault) e =
    let at = stopped_at stop 1 fault (is_made_at stop 1) (ap (λ f. end_of f (is_made_at stop 1)) (sym e)) in record {
      reply = ap (λ (n : ℕ). stopped_reply (way_of stop) ((n == 3) && takes_effect stop)) at.number;
      snapshot = refl;
      committed = refl;
    }
closing_told_vain stop Blank None e = record { reply = refl; snapshot = refl; committed = refl }
closing_told_vain stop _ None e = record { reply = refl; snapshot = refl; committed = refl }

-- a checkpoint over a planned platform
checks_in_vain : (old mid new : Standing) (meddles : List Meddle) (stop : Stop) (result : Result Said CheckpointRefusal)
    → IsCheckpointOnCourse (record old { plan = Some (plan_of stop meddles) }) mid result
    → ClosesSegment (record old { plan = Some (plan_of stop meddles) }) mid result → SettlesPlan stop (has_closing_fault result) mid new
    → (issued : List (List ℕ)) → ChecksInVain old new issued meddles stop (Ok (checkpoint_reply stop (closes_at stop) result))
checks_in_vain old mid new meddles stop result goes closes settles issued = λ i d missed at.
    let r = stops_looking (record old { plan = Some (plan_of stop meddles) }) closes.middle mid at.bytes missed closes.found result at.cell
    at.reads closes.looks closes.ends in
    let p = goes.plans (plan_of stop meddles) at.quiet.is_on refl refl in
    let breaks : has_closing_fault result ≡ is_some r.fault = ap has_closing_fault r.ends ∙ stopped_ended r.fault missed in
    let fault_is : r.fault ≡ fault_at stop 1 = (r.goes.told (plan_of stop meddles) refl).answers
    ∙ ap (λ on. fault_by_plan on (plan_of stop meddles)) at.quiet.is_on in
    let vain : Outcome Digests = read_only_outcome (digest_level i) d issued meddles stop (refusal_of_fault missed) in
    let told : Result Said CheckpointRefusal → Reply = λ x. checkpoint_reply stop (closes_at stop) x in
    subst (λ (x : Result Said CheckpointRefusal). CallComesInVain vain issued old new (quiet_call (told x))) (sym r.ends)
    (stopped_came i d stop meddles issued (refusal_of_fault missed) old mid new (quiet_call (told (closing_ended r.fault missed))) r.fault
    at.quiet at.register r.goes (subst (λ x. SettlesPlan stop x mid new) breaks settles)
    (subst (λ x. PlatformStaysOn stop x mid) breaks p.0)
    (closing_told_vain stop missed r.fault fault_is))

-- a checkpoint under a plan
module _ (old new : Standing) (meddles : List Meddle) (stop : Stop) (issued : List (List ℕ)) where
  checks_either : (called : Result code.CallReport Memory) (w : WasPlanned closing_asked TellsCheckpoint meddles stop old new called)
      → ChecksPlanned old new issued meddles stop (Ok (checkpoint_reply stop (has_closed_segment stop w.ended) (result_of_end w.ended)))
  checks_either called w =
      let at = record old { plan = Some (plan_of stop meddles) } in
      let said = result_of_end w.ended in
      let closes = in_opt.closes_whole w.middle w.ended at w.ends in
      let goes = in_opt.checks_on at w.middle said closes in
      let settled : SettlesPlan stop (has_closing_fault said) w.middle new =
      subst (λ x. SettlesPlan stop x w.middle new) (sym (closes_broken at w.middle w.ended w.ends)) w.settles in record {
        own = λ variant meaning. closes_came old new meddles stop variant meaning called w issued;
        vain = λ i d fault read.
            subst (λ (r : Reply). CallComesInVain (read_only_outcome (digest_level i) d issued meddles stop (refusal_of_fault fault)) issued
            old new (quiet_call r))
            (sym (closes_told old new meddles stop called w read.quiet.is_on))
            (checks_in_vain old w.middle new meddles stop said goes closes settled issued i d fault read);
      }

  checks_told : (it : code.CallReport) → IsPlanned closing_asked TellsCheckpoint meddles stop old new (Ok it)
      → ChecksPlanned old new issued meddles stop (Ok it.reply)
  checks_told it (inl e) = absurd (cc)
  checks_told it (inr w) =
      let same : it ≡ quiet_call (checkpoint_reply stop (has_closed_segment stop w.ended) (result_of_end w.ended)) = cc in
      subst (λ (x : Reply). ChecksPlanned old new issued meddles stop (Ok x)) (sym (ap (λ (x : code.CallReport). x.reply) same))
      (checks_either (Ok it) w)

  -- or want of memory for that
  checks_want : (memory : Memory) → IsPlanned closing_asked TellsCheckpoint meddles stop old new (Err memory)
      → ChecksPlanned old new issued meddles stop (Err memory)
  checks_want memory (inl e) = record { own = λ variant meaning. λ key barrier d s q. e.1; vain = λ i d fault at. e.1 }
  checks_want memory (inr w) = absurd (cc)

  module _ (called : Result code.CallReport Memory) (planned : IsPlanned closing_asked TellsCheckpoint meddles stop old new called) where
    pub checks_to : (it : code.CallReport) → called ≡ Ok it → ChecksPlanned old new issued meddles stop (Ok it.reply)
    checks_to it is =
        checks_told it (subst (λ (r : Result code.CallReport Memory). IsPlanned closing_asked TellsCheckpoint meddles stop old new r) is
        planned)

    pub checks_lack : (memory : Memory) → called ≡ Err memory → ChecksPlanned old new issued meddles stop (Err memory)
    checks_lack memory is =
        checks_want memory (subst (λ (r : Result code.CallReport Memory). IsPlanned closing_asked TellsCheckpoint meddles stop old new r) is
        planned)

-- a call that isn't too long, over a planned platform

module _ (variant : Variant) (meaning : Meaning) (old new : Standing) (meddles : List Meddle) (stop : Stop) (offer : List ℕ) (b : Batch)
    (result : Result code.CallReport Memory) (short : is_long b ≡ false) (issued : List (List ℕ)) where
  abbrev at : Standing
  at = record old { plan = Some (plan_of stop meddles) }

  module _ (w : WasPlanned (ask_operation variant meaning offer b) (TellsAsk b) meddles stop old new result) where
    abbrev ended : AskResult
    ended = end_of_machine w.ended

    asks_in_vain : EndsAsCall variant meaning at w.middle offer b ended → SettlesPlan stop (is_broken ended) w.middle new
        → AsksInVain variant meaning old new issued (planned_ask meddles stop (Some offer) b) result
    asks_in_vain calls settles = λ i d read why cell vain.
        let r = ask_stops meaning cell.bytes offer b read why cell.reads at w.middle ended cell.cell variant w.ended w.ends refl vain in
        let p = calls.plans (plan_of stop meddles) cell.quiet.is_on refl refl in
        let breaks : is_broken ended ≡ is_some r.fault = ap is_broken r.ends ∙ broken_with r.fault why in
        let it : code.CallReport = vain_call stop (size_of b) r.fault why in
        let vain_outcome : Bool → Outcome Digests = λ long. if long then outcome_without_call d issued (reply.No cause.Long)
        else read_only_outcome (digest_level
        i) d
        issued meddles stop why in
        let came : CallComesInVain (vain_outcome false) issued old new it = stopped_came i d stop meddles issued why old
        w.middle new it r.fault
        cell.quiet
        cell.register r.goes (subst (λ x. SettlesPlan stop x w.middle new) breaks settles)
        (subst (λ x. PlatformStaysOn stop x w.middle) breaks p.0)
        (vain_told stop (size_of b) r.fault why) in
        let gives : result ≡ Ok it = vain_result stop (size_of b) r.fault why result
        (λ e. never_memory variant meaning.id read (vain ∙ ap Some e))
        (subst (λ (x : AskResult). IsCallResult stop (size_of b) x result) r.ends w.told) in
        subst (λ (x : Result code.CallReport Memory). MatchResult x (CallComesInVain (vain_outcome (is_long b)) issued old new)
        (λ _. new ≡ old))
        (sym gives) (subst (λ (long : Bool). CallComesInVain (vain_outcome long) issued old new it) (sym short) came)

    asks_either : AsksPlanned variant meaning old new issued (planned_ask meddles stop (Some offer) b) result
    asks_either =
        let calls = calls_by meaning offer b at w.middle variant w.ended w.ends in
        let settled = subst (λ x. SettlesPlan stop x w.middle new) (sym (asks_broken variant meaning offer b at w.middle w.ended w.ends))
        w.settles in record {
          own = asks_as variant meaning old w.middle new meddles stop offer b (size_of b) ended result short refl calls settled w.told
              issued;
          vain = asks_in_vain calls settled;
        }

-- or want of memory for the plan
pub asks_to : (variant : Variant) (meaning : Meaning) (old new : Standing) (meddles : List Meddle) (stop : Stop) (offer : List ℕ)
    (b : Batch) (result : Result code.CallReport Memory) (short : is_long b ≡ false) (issued : List (List ℕ))
    → IsPlanned (ask_operation variant meaning offer b) (TellsAsk b) meddles stop old new result
    → AsksPlanned variant meaning old new issued (planned_ask meddles stop (Some offer) b) result
asks_to variant meaning old new meddles stop offer b (Ok it) short issued (inl e) = absurd (cc)
asks_to variant meaning old new meddles stop offer b (Err memory) short issued (inl e) = record {
  own = λ key barrier d s q. inl e.1;
  vain = λ i d read why at vain. e.1;
}
asks_to variant meaning old new meddles stop offer b result short issued (inr w) =
    asks_either variant meaning old new meddles stop offer b result short issued w
