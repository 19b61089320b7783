-- The ends of a checkpoint, and what it leaves and counts. With it: the number of the step behind
-- one that goes on is the next.
use Rattle.mm_seal.specs.declared.cell.CellFault.TheVariants as fault
use Rattle.mm_machine.specs.Acts.{number_in}
use Rattle.mm_machine.specs.OpSteps.{OpMeaning}
use Rattle.mm_machine.specs.OpSteps as reading
use Rattle.mm_machine.specs.declared.call.StepResult.TheVariants.{Going}
use Rattle.mm_machine.specs.declared.change.Change as change
use Rattle.mm_machine.specs.declared.operation.Sight.{Sight}
use Rattle.mm_machine.specs.declared.operation.Sight.TheVariants as sight
use Rattle.mm_machine.specs.declared.reading.Halt.{Halt}
use Rattle.mm_opt.specs.Checkpoints.{FindsClosing, one_step, two_steps, three_steps}
use Rattle.mm_opt.specs.declared.segment.Checkpointed.TheVariants.{Done, NoSegment}
use Rattle.mm_opt.specs.declared.segment.CheckpointRefusal.TheVariants as refusal
use Rattle.mm_opt.proofs.Below.{◌≡◌, ℕ, Bool, true, false, List, Option, None, Some, Result, Ok, Err, refl, ap, ◌∙◌, sym, subst, next_count}
use Rattle.mm_opt.proofs.Below.{bytes_eq, Variant, Basic, Opt, zero_bytes, StepFault, Standing, ReadCell, WriteCell, ReadRegister, StepGoes}
use Rattle.mm_opt.proofs.Below.{Cell, CellFault, CountsHandedFault, blamed, blamed_later, read_untouched, register_untouched}
use Rattle.mm_opt.proofs.Below.{then_untouched, Checkpointed, CheckpointRefusal, Segment, Open, Shut, StepsAre, closing_fault_of}
use Rattle.mm_opt.proofs.Below.{closing_fault_in, segment_by, segment_in, closed_cell, closing_by, LooksAtSegment, FindsSegment}
use Rattle.mm_opt.proofs.Below.{WeighsRegister, WritesClosing, result_of_closing_write, EndsClosing, EndsLooking, ClosesSegment}
use Rattle.mm_opt.proofs.Below.{LeavesStill, ClosingStepsRefused, ClosingStepsBy, ◌+◌, Meaning, Batch, BatchAnswer, Refusal, Begun, Seen}
use Rattle.mm_opt.proofs.Below.{Changing, BatchFinding, Repeat, Change, Extending, Emptying, Placing, Writing, BatchStage}
use Rattle.mm_opt.proofs.Below.{finding_of_machine, opt_operation}
use Rattle.mm_opt.proofs.Reading.{ReadsRegister, weighs_told, IsByFlagIn, made}

-- what a checkpoint gives by its last step
abbrev pub closed_or : Option StepFault → Result Checkpointed CheckpointRefusal
closed_or None = Ok Done
closed_or (Some fault) = Err (refusal.Device fault)

pub closed_fault : (fault : Option StepFault) → closing_fault_in (closed_or fault) ≡ fault
closed_fault None = refl
closed_fault (Some fault) = refl

module _ (old : Standing) (P : Standing → Result Checkpointed CheckpointRefusal → Type 0) where
  -- What holds at each end: the first step fails or is refused, or finds no segment; the second fails or is refused; the last is done or
  -- fails. What holds of each holds of every checkpoint.
  pub record Each : Type 0 where
    pub refuses : (why : CheckpointRefusal) (one : Standing) → LooksAtSegment old one (Err why) → P one (Err why)
    pub shut : (one : Standing) → LooksAtSegment old one (Ok Shut) → P one (Ok NoSegment)
    pub later_refuses : (why : CheckpointRefusal) (cell : Cell) (one two : Standing) → LooksAtSegment old one (Ok (Open cell))
        → WeighsRegister cell one two (Err why) → P two (Err why)
    pub closes : (fault : Option StepFault) (cell : Cell) (next : List ℕ) (one two new : Standing) → LooksAtSegment old one (Ok (Open cell))
        → WeighsRegister cell one two (Ok next) → StepGoes (WriteCell next) two new fault → P new (closed_or fault)

  module _ (each : Each) where
    closed : (written : Result Checkpointed StepFault) (cell : Cell) (next : List ℕ) (one two new : Standing)
        → LooksAtSegment old one (Ok (Open cell)) → WeighsRegister cell one two (Ok next) → WritesClosing next two new written
        → P new (result_of_closing_write written)
    closed (Ok it) cell next one two new l w c = rw c.gives (each.closes None cell next one two new l w c.goes)
    closed (Err fault) cell next one two new l w c = each.closes (Some fault) cell next one two new l w c.goes

    weighed : (found : Result (List ℕ) CheckpointRefusal) (cell : Cell) (one two new : Standing)
        (result : Result Checkpointed CheckpointRefusal) → LooksAtSegment old one (Ok (Open cell)) → WeighsRegister cell one two found
        → EndsClosing found two new result → P new result
    weighed (Err why) cell one two new result l w e = rw (e.0, e.1) (each.later_refuses why cell one two l w)
    weighed (Ok next) cell one two new result l w e = rw e.gives (closed e.written cell next one two new l w e.closes)

    looked : (found : Result Segment CheckpointRefusal) (one new : Standing) (result : Result Checkpointed CheckpointRefusal)
        → LooksAtSegment old one found → EndsLooking found one new result → P new result
    looked (Err why) one new result l e = rw (e.0, e.1) (each.refuses why one l)
    looked (Ok Shut) one new result l e = rw (e.0, e.1) (each.shut one l)
    looked (Ok (Open cell)) one new result l e = weighed e.found cell one e.middle new result l e.weighs e.ends

    pub each_closing : (new : Standing) (result : Result Checkpointed CheckpointRefusal) → ClosesSegment old new result → P new result
    each_closing new result c = looked c.found c.middle new result c.looks c.ends

-- what a checkpoint leaves

still_closed : (fault : Option StepFault) (old new : Standing) → LeavesStill (closed_or fault) old new
still_closed None old new = tt
still_closed (Some fault) old new = λ (none : Some fault ≡ None). absurd (cc)

pub leaves_still : (old new : Standing) (result : Result Checkpointed CheckpointRefusal) → ClosesSegment old new result
    → LeavesStill result old new
leaves_still old = each_closing old (λ (n : Standing) (r : Result Checkpointed CheckpointRefusal). LeavesStill r old n) (record {
  refuses = λ why one l quiet. read_untouched old one (subst (StepGoes ReadCell old one) quiet l.goes);
  shut = λ one l. read_untouched old one l.goes;
  later_refuses = λ why cell one two l w quiet.
      then_untouched old one two (read_untouched old one l.goes)
      (register_untouched one two (subst (StepGoes ReadRegister one two) quiet w.goes));
  closes = λ fault cell next one two new l w g. still_closed fault old new;
})

-- whom a checkpoint blames
pub closing_blamed : (old new : Standing) (result : Result Checkpointed CheckpointRefusal) → ClosesSegment old new result
    → CountsHandedFault (closing_fault_in result) old.faults new.faults
closing_blamed old = each_closing old
    (λ (n : Standing) (r : Result Checkpointed CheckpointRefusal). CountsHandedFault (closing_fault_in r) old.faults n.faults) (record {
      refuses = λ why one l. blamed (closing_fault_of why) old one l.goes.is_made l.goes.ends;
      shut = λ one l. l.goes.ends.faults;
      later_refuses = λ why cell one two l w.
          blamed_later (closing_fault_of why) old.faults one.faults two.faults l.goes.ends.faults
          (blamed (closing_fault_of why) one two w.goes.is_made w.goes.ends);
      closes = λ fault cell next one two new l w g.
          rw (closed_fault fault) (blamed_later fault old.faults two.faults new.faults (w.goes.ends.faults ∙ l.goes.ends.faults)
          (blamed fault two new g.is_made g.ends));
    })

-- the steps of a checkpoint: the first never tells of lost power, and the second of nothing else

never_by : (variant : Variant) (flag : Bool) (cell : Cell) → Err refusal.Lost ≡ segment_by variant flag cell → ⊥
never_by Basic flag cell e = cc
never_by Opt true cell e = cc
never_by Opt false cell e = cc

never_lost : (read : Result Cell CellFault) → Err refusal.Lost ≡ segment_in read → ⊥
never_lost (Err fault.Blank) e = cc
never_lost (Err fault.Cell) e = cc
never_lost (Ok cell) e = never_by cell.variant cell.flag cell e

first_steps : (why : CheckpointRefusal) (old one : Standing) → StepsAre 1 0 old one
    → (closing_fault_of why ≡ None → FindsSegment old (Err why))
    → ClosingStepsRefused why old one
first_steps (refusal.Device fault) old one s f = one_step s
first_steps refusal.Lost old one s f = absurd (never_lost (f refl).sees.read (f refl).sees.found_is)
first_steps _ old one s f = s

-- the bytes that close the segment, by whether power was lost
abbrev pub ClosingIs : Bool → Cell → List ℕ → Result (List ℕ) CheckpointRefusal → Type 0
ClosingIs lost cell register (Err why) = (lost ≡ true) × (why ≡ refusal.Lost)
ClosingIs lost cell register (Ok next) = (lost ≡ false) × (next ≡ closed_cell cell register)

pub closing_is : (lost : Bool) (cell : Cell) (register : List ℕ) → ClosingIs lost cell register (closing_by lost cell register)
closing_is true cell register = (refl, refl)
closing_is false cell register = (refl, refl)

later_steps : (why : CheckpointRefusal) (cell : Cell) (old two : Standing) → StepsAre 2 0 old two
    → (closing_fault_of why ≡ None → FindsClosing cell two (Err why)) → ClosingStepsRefused why old two
later_steps (refusal.Device fault) cell old two s f = two_steps s
later_steps _ cell old two s f =
    let w = f refl in
    let c = subst (ClosingIs (bytes_eq w.register zero_bytes) cell w.register) (sym w.found_is)
    (closing_is (bytes_eq w.register zero_bytes) cell w.register) in
    subst (λ (x : CheckpointRefusal). ClosingStepsRefused x old two) (sym c.1) s

last_steps : (fault : Option StepFault) (old new : Standing) → StepsAre 3 1 old new → ClosingStepsBy (closed_or fault) old new
last_steps None old new s = s
last_steps (Some fault) old new s = three_steps s

pub closing_steps : (old new : Standing) (result : Result Checkpointed CheckpointRefusal) → ClosesSegment old new result
    → ClosingStepsBy result old new
closing_steps old = each_closing old (λ (n : Standing) (r : Result Checkpointed CheckpointRefusal). ClosingStepsBy r old n) (record {
  refuses = λ why one l. first_steps why old one (l.goes.steps, l.goes.writes) l.finds;
  shut = λ one l. (l.goes.steps, l.goes.writes);
  later_refuses = λ why cell one two l w.
      later_steps why cell old two (w.goes.steps ∙ ap next_count l.goes.steps, w.goes.writes ∙ l.goes.writes) w.finds;
  closes = λ fault cell next one two new l w g. last_steps fault old new (
    g.steps ∙ ap next_count (w.goes.steps ∙ ap next_count l.goes.steps),
    g.writes ∙ ap next_count (w.goes.writes ∙ l.goes.writes),
  );
})

-- The number of the step behind one that goes on is the next.

module _ (meaning : Meaning) (offer : List ℕ) (b : Batch) where
  abbrev asked : OpMeaning BatchAnswer Refusal
  asked = opt_operation meaning offer b

  begun_next : (seen : Result (Sight BatchAnswer) (Halt Refusal)) (old middle new : Standing) (next : BatchStage)
      → reading.OpLooks asked old middle seen → reading.SightLeads seen middle new (Going next) → reading.number_of 5 next ≡ 2
  begun_next (Err why) old middle new next l s = absurd (cc)
  begun_next (Ok (sight.Found found)) old middle new next l s = absurd l.1.said
  begun_next (Ok (sight.Cell cell)) old middle new next l s = let same : next ≡ Seen cell = cc in rw same refl

  found_number : (flag : Bool) (it : change.Change) → IsByFlagIn flag it → number_in 5 it ≡ 3
  found_number flag (Extending value) by = refl
  found_number flag (Emptying opening) by = refl
  found_number flag _ by = absurd by

  seen_next : (found : Result BatchFinding (Halt Refusal)) (cell : Cell) (old new : Standing) (next : BatchStage)
      → ReadsRegister meaning offer b cell old new (finding_of_machine found) → Going next ≡ reading.step_of_finding found
      → reading.number_of 5 next ≡ 3
  seen_next (Err why) cell old new next r e = absurd (cc)
  seen_next (Ok (Repeat answer)) cell old new next r e = absurd (cc)
  seen_next (Ok (Change ready)) cell old new next r e =
      let m = made meaning cell b offer old new (Ok (Change ready)) r in
      let same : next ≡ Changing ready = cc in rw same (found_number cell.flag ready.change m.by_flag)

  change_next : (it : change.Change) (answer : BatchAnswer) (fault : Option StepFault) (next : BatchStage)
      → Going next ≡ reading.step_after_change asked (record { change = it; answer = answer }) fault
      → reading.number_of 5 next ≡ number_in 5 it + 1
  change_next it answer (Some fault) next e = absurd (cc)
  change_next (Extending value) answer None next e = absurd (cc)
  change_next (Emptying opening) answer None next e =
      let same : next ≡ Changing (record { change = Placing opening; answer = answer }) = cc in rw same refl
  change_next (Placing opening) answer None next e =
      let same : next ≡ Changing (record { change = Writing opening.next; answer = answer }) = cc in rw same refl
  change_next (Writing bytes) answer None next e = absurd (cc)

  pub numbers : (stage next : BatchStage) (old new : Standing) → reading.OpSteps asked stage old new (Going next)
      → reading.number_of 5 next ≡ reading.number_of 5 stage + 1
  numbers Begun next old new s = begun_next s.seen old s.middle new next s.looks s.leads
  numbers (Seen cell) next old new s = seen_next s.found cell old new next (weighs_told meaning offer b cell old new s.found s.finds)
      s.gives
  numbers (Changing ready) next old new s = change_next ready.change ready.answer s.fault next s.gives
