-- What the reading steps of a call find: a device's fault is told among the refusals, and want of
-- memory for its own extension too. With it: each turn makes exactly the device step that comes
-- next; what is found, and the room that is made after it.
use Rattle.std.specs.Prelude.{◌+◌}
use Rattle.mm_machine.specs.OpSteps.{OpMeaning, CellSays, FindsRoom, RegisterSays, RoomIsMadeIf, RoomIsMadeFor, StepMayGoOn, OpSteps}
use Rattle.mm_machine.specs.OpSteps.{act_of}
use Rattle.mm_machine.specs.OpSteps as machine
use Rattle.mm_machine.specs.declared.call.StepResult.{StepResult}
use Rattle.mm_machine.specs.declared.call.StepResult.TheVariants.{Going, Over}
use Rattle.mm_machine.specs.declared.change.Change as change
use Rattle.mm_machine.specs.declared.operation.Sight.{Sight}
use Rattle.mm_machine.specs.declared.operation.Sight.TheVariants as sight
use Rattle.mm_machine.specs.declared.reading.Halt.{Halt}
use Rattle.mm_machine.specs.declared.reading.Halt.TheVariants.{Fault, Refused, Lacks}
use Rattle.mm_model.specs.FormLaws.{is_fit}
use Rattle.mm_model.specs.Moves.{IsFit}
use Rattle.mm_model.specs.declared.refusal.Refusal.TheVariants.{Memory}
use Rattle.mm_model.specs.declared.refusal.Refusal.TheVariants as refusal
use Rattle.mm_call.specs.CallKind.{end_of_machine}
use Rattle.mm_call.specs.Checkpoints.{CallTurn, IsCallTurn, turn_fault, turn_of, turn_with}
use Rattle.mm_call.specs.OfferLaws.{weighed_only}
use Rattle.mm_call.proofs.Above.{steps_by, turn_blamed, turn_hands}
use Rattle.mm_opt.specs.AskPromise.{FindsQuietly, SeesCell, ActsAt, OptTurnPromise, TurnMayGoOn}
use Rattle.mm_opt.proofs.Below.{◌≡◌, ℕ, Bool, true, false, List, None, Some, Result, Ok, Err, refl, sym, ap, subst, inr, Standing, StepGoes}
use Rattle.mm_opt.proofs.Below.{ReadCell, ReadRegister, Meaning, Batch, Cell, BatchAnswer, Refusal, IsOrMemory, fault_in, finding_in}
use Rattle.mm_opt.proofs.Below.{BatchFinding, FindsIn, opt_operation, CallReads, IsQuiet, finding_of_machine, refusal_of_halt, ◌∙◌}
use Rattle.mm_opt.proofs.Below.{BatchStage, result_of, length, inl, arith, IsTrue, nat_tests, nat_le, bytes_eq, last_position, IsLawful}
use Rattle.mm_opt.proofs.Below.{size_of, CellFault, Blank, IsCell, Unspelled, PartsFault, Form, Kind, Snapshot, tag_of, Verdict, Fresh}
use Rattle.mm_opt.proofs.Below.{Again, check_of_verdict, check_of_offer, check_by_tests, fault_of, Repeat, Change, Extending, Emptying}
use Rattle.mm_opt.proofs.Below.{is_cell_of, own_cell, cell_in, batch_value, has_lost_power, verdict_of, answer_of, answer_in, change_by}
use Rattle.mm_opt.proofs.Below.{finding_from, finding_in_offer, finding_unless, opened_cell, Opt, StepsAre, one_step, two_steps}
use Rattle.mm_opt.proofs.Below.{StepsRefused, extension_at, extension_after, place_after, length-zero_bytes, length-extended_digest_of}

-- The first step, and what is found where it doesn't fail.
pub record ReadsOwnCell (id : ℕ) (old new : Standing) (found : Result Cell Refusal) : Type 0 where
  pub goes : StepGoes ReadCell old new (fault_in found)
  pub finds : fault_in found ≡ None → CellSays old (λ bytes. SeesCell id bytes found)

-- where a platform stands behind what was found: nothing but room may have been made
abbrev pub HasRoom : Result BatchFinding Refusal → Standing → Standing → Type 0
HasRoom (Ok found) middle new = new ≡ record middle { spare = new.spare }
HasRoom (Err why) middle new = new ≡ middle

pub room_only : (found : Result BatchFinding Refusal) (middle new : Standing) → HasRoom found middle new
    → new ≡ record middle { spare = new.spare }
room_only (Ok found) middle new room = room
room_only (Err why) middle new room = rw room refl

module _ (meaning : Meaning) (offer : List ℕ) (b : Batch) where
  abbrev asked : OpMeaning BatchAnswer Refusal
  asked = opt_operation meaning offer b

  -- The second step, and what is found where it doesn't fail; then room is made.
  pub record ReadsRegister (cell : Cell) (old new : Standing) (found : Result BatchFinding Refusal) : Type 0 where
    pub middle : Standing
    pub goes : StepGoes ReadRegister old middle (fault_in found)
    pub finds : fault_in found ≡ None → RegisterSays middle (λ register. FindsIn meaning cell register offer b found)
    pub room : HasRoom found middle new

  -- The second step, where the first finds a cell.
  abbrev pub ReadsOn : Result Cell Refusal → Standing → Standing → Result BatchFinding Refusal → Type 0
  ReadsOn (Err why) old new found = (new ≡ old) × (found ≡ Err why)
  ReadsOn (Ok cell) old new found = ReadsRegister cell old new found

  pub record Reads (old new : Standing) (found : Result BatchFinding Refusal) : Type 0 where
    pub middle : Standing
    pub cell : Result Cell Refusal
    pub reads : ReadsOwnCell meaning.id old middle cell
    pub on : ReadsOn cell middle new found

  -- the first step

  looked_refused : (why : Halt Refusal) (old new : Standing) → machine.OpLooks asked old new (Err why)
      → ReadsOwnCell meaning.id old new (Err (refusal_of_halt why))
  looked_refused (Fault fault) old new l = record { goes = l; finds = λ (none : Some fault ≡ None). absurd (cc) }
  looked_refused (Refused why) old new l = record {
    goes = subst (StepGoes ReadCell old new) (sym l.1.said.1) l.0;
    finds = λ none. record { bytes = l.1.bytes; told = l.1.told; said = l.1.said.0 };
  }
  looked_refused Lacks old new l = absurd l

  -- the second step

  module _ (cell : Cell) (old middle : Standing) where
    abbrev Weighed : Result BatchFinding Refusal → Type 0
    Weighed found =
        StepGoes ReadRegister old middle (fault_in found)
        × (fault_in found ≡ None → RegisterSays middle (λ register. FindsIn meaning cell register offer b found))

    said : (found : Result BatchFinding Refusal) → RegisterSays middle (λ register. FindsQuietly meaning cell register offer b found)
        → RegisterSays middle (λ register. FindsIn meaning cell register offer b found)
    said found s = record { register = s.register; told = s.told; size = s.size; said = s.said.finds }

    weighed : (found : Result BatchFinding (Halt Refusal)) → machine.OpWeighs asked cell old middle found
        → Weighed (finding_of_machine found)
    weighed (Ok found) w = (w.0, λ none. said (Ok found) w.1)
    weighed (Err (Fault fault)) w = (w, λ (none : Some fault ≡ None). absurd (cc))
    weighed (Err (Refused why)) w =
        (subst (StepGoes ReadRegister old middle) (sym w.1.said.quiet) w.0, λ none. said (Err why) w.1)
    weighed (Err Lacks) w = absurd w

    -- want of memory may come in place of what was found
    or_wanting : (x : Result BatchFinding Refusal) (found : BatchFinding) → IsOrMemory x (Ok found) → IsOrMemory x (Err Memory)
    or_wanting (Err why) found o = cc
    or_wanting (Ok it) found o = inr refl

    wanting : (found : BatchFinding) → Weighed (Ok found) → Weighed (Err Memory)
    wanting found w = (
      w.0,
      λ none.
          let s = w.1 refl in record {
            register = s.register;
            told = s.told;
            size = s.size;
            said = record {
              taken = s.said.taken;
              reads = s.said.reads;
              found_is = or_wanting (finding_in meaning cell s.register s.said.taken b) found s.said.found_is;
            };
          },
    )

    roomed : (found : Result BatchFinding Refusal) (new : Standing) → Weighed found → HasRoom found middle new
        → ReadsRegister cell old new found
    roomed found new w room = record { middle = middle; goes = w.0; finds = w.1; room = room }

    room_for : (extends : Bool) (found : BatchFinding) (given : Result BatchFinding (Halt Refusal)) (new : Standing) → Weighed (Ok found)
        → RoomIsMadeIf extends found middle new given → ReadsRegister cell old new (finding_of_machine given)
    room_for false found given new w r = rw (r.1) (roomed (Ok found) new w (rw r.0 refl))
    room_for true found (Ok it) new w r = rw (r.1) (roomed (Ok found) new w r.0.same)
    room_for true found (Err why) new w r = rw (r.1) (roomed (Err Memory) new (wanting found w) r.0)

    rooms : (found given : Result BatchFinding (Halt Refusal)) (new : Standing) → Weighed (finding_of_machine found)
        → RoomIsMadeFor found middle new given
        → ReadsRegister cell old new (finding_of_machine given)
    rooms (Err why) given new w r = rw (r.1) (roomed (Err (refusal_of_halt why)) new w r.0)
    rooms (Ok found) given new w r = room_for (machine.has_extension found) found given new w r

  pub weighs_told : (cell : Cell) (old new : Standing) (given : Result BatchFinding (Halt Refusal))
      → FindsRoom (machine.OpWeighs asked cell old) new given → ReadsRegister cell old new (finding_of_machine given)
  weighs_told cell old new given f = rooms cell old f.middle f.found given new (weighed cell old f.middle f.found f.finds) f.rooms

  -- both

  reads_by : (seen : Result (Sight BatchAnswer) (Halt Refusal)) (given : Result BatchFinding (Halt Refusal)) (old middle new : Standing)
      → machine.OpLooks asked old middle seen → machine.SightFinds asked seen middle new given → Reads old new (finding_of_machine given)
  reads_by (Err why) given old middle new l on = record {
    middle = middle;
    cell = Err (refusal_of_halt why);
    reads = looked_refused why old middle l;
    on = (on.0, ap finding_of_machine on.1);
  }
  reads_by (Ok (sight.Found found)) given old middle new l on = absurd l.1.said
  reads_by (Ok (sight.Cell cell)) given old middle new l on = record {
    middle = middle;
    cell = Ok cell;
    reads = record { goes = l.0; finds = λ none. l.1 };
    on = weighs_told cell middle new given on;
  }

  pub reads_told : (old new : Standing) (found : Result BatchFinding Refusal) → CallReads asked old new found → Reads old new found
  reads_told old new found c =
      let r = c.reads in rw (c.gives) (reads_by r.seen c.given old r.middle new r.looks r.on)

  -- a refusal hands no fault on, and an answer tells its position
  pub quiet : IsQuiet asked
  quiet = record {
    sees = λ bytes why s. s.1;
    finds = λ cell register why f. f.quiet;
    tells = λ answer. refl;
  }

-- Each turn makes exactly the device step that comes next.

-- the room that a turn leaves

with_room : (given : Result BatchAnswer Refusal) (new : Standing) → TurnMayGoOn (turn_with given) new
with_room (Ok answer) new = tt
with_room (Err why) new = tt

turn_room : (it : StepResult BatchAnswer Refusal) (new : Standing) → StepMayGoOn it new → TurnMayGoOn (turn_of it) new
turn_room (Going stage) new room = room
turn_room (Over end) new room = with_room (result_of (end_of_machine end)) new

module _ (stage : BatchStage) (meaning : Meaning) (old new : Standing) (offer : List ℕ) (b : Batch) (turn : CallTurn) where
  acts_at : IsCallTurn (opt_operation meaning offer b) stage old new turn → ActsAt stage old new turn
  acts_at t =
      let s = steps_by (opt_operation meaning offer b) (quiet meaning offer b) stage old new t.step t.steps in
      record {
        middle = s.middle;
        goes = subst (StepGoes (act_of stage) old s.middle) (sym (turn_hands t.step) ∙ ap turn_fault (sym t.gives)) s.goes;
        room = s.room;
      }

  pub advanced : (it : StepResult BatchAnswer Refusal) → OpSteps (opt_operation meaning offer b) stage old new it → StepMayGoOn it new
      → turn ≡ turn_of it → OptTurnPromise meaning stage old new offer b turn
  advanced it steps room gives =
      let turns : IsCallTurn (opt_operation meaning offer b) stage old new turn = record { step = it; steps = steps; gives = gives } in
      record {
        turns = turns;
        acts = acts_at turns;
        room = subst (λ (t : CallTurn). TurnMayGoOn t new) (sym gives) (turn_room it new room);
        faults = turn_blamed (opt_operation meaning offer b) (quiet meaning offer b) stage old new turn turns;
      }

-- What is found, and the room that is made after it.

-- the cell that is seen is the one that was read
pub own_is : (t : Bool) (cell seen : Cell) → own_cell t cell ≡ Ok seen → seen ≡ cell
own_is true cell seen e = cc
own_is false cell seen e = cc

-- what the first step refuses, and what the second does: by the steps that are counted of it
abbrev pub IsFirst : Refusal → Type 0
IsFirst why = (old new : Standing) → StepsAre 1 0 old new → StepsRefused Opt why old new

abbrev pub IsSecond : Refusal → Type 0
IsSecond why = (old new : Standing) → StepsAre 2 0 old new → StepsRefused Opt why old new

abbrev IsFirstIn : Result Cell Refusal → Type 0
IsFirstIn (Ok cell) = Unit {0}
IsFirstIn (Err why) = IsFirst why

first_own : (t : Bool) (cell : Cell) → IsFirstIn (own_cell t cell)
first_own true cell = tt
first_own false cell = λ old new one. one

first_cell_in : (id : ℕ) (read : Result Cell CellFault) → IsFirstIn (cell_in id read)
first_cell_in id (Err Blank) = λ old new one. one
first_cell_in id (Err Unspelled) = λ old new one. one
first_cell_in id (Ok cell) = first_own (is_cell_of id cell) cell

first_unless : (why : Refusal) → (fault_of why ≡ None → IsFirst why) → IsFirst why
first_unless (refusal.Device fault) h = λ old new one. one_step one
first_unless _ h = h refl

second_unless : (why : Refusal) → (fault_of why ≡ None → IsSecond why) → IsSecond why
second_unless (refusal.Device fault) h = λ old new two. two_steps two
second_unless _ h = h refl

-- what the first step refuses
pub first_refused : (id : ℕ) (old new : Standing) (why : Refusal) → ReadsOwnCell id old new (Err why) → IsFirst why
first_refused id old new why r =
    first_unless why (λ (h : fault_of why ≡ None).
    let f = r.finds h in
    subst IsFirstIn (sym f.said.found_is) (first_cell_in id f.said.read))

-- an answer found says whether it is a repeat's
abbrev pub IsShaped : Result BatchFinding Refusal → Type 0
IsShaped (Err why) = Unit {0}
IsShaped (Ok (Repeat answer)) = answer.again ≡ true
IsShaped (Ok (Change ready)) = ready.answer.again ≡ false

-- what is found goes by the flag of the cell
abbrev pub IsByFlagIn : Bool → change.Change → Type 0
IsByFlagIn flag (Extending value) = flag ≡ true
IsByFlagIn flag (Emptying opening) = flag ≡ false
IsByFlagIn flag _ = ⊥

abbrev pub IsByFlag : Bool → BatchFinding → Type 0
IsByFlag flag (Repeat answer) = Unit {0}
IsByFlag flag (Change ready) = IsByFlagIn flag ready.change

-- What is known of what was found by this cell: its shape, by the flag; and its answer is fit.
pub record Made (meaning : Meaning) (cell : Cell) (b : Batch) (found : BatchFinding) : Type 0 where
  pub shape : IsShaped (Ok found)
  pub by_flag : IsByFlag cell.flag found
  pub fit : IsLawful meaning → IsCell cell → IsFit b (answer_in found)

abbrev IsSecondIn : Result Bool Refusal → Type 0
IsSecondIn (Ok again) = Unit {0}
IsSecondIn (Err why) = IsSecond why

second_admitted : (v : Verdict) (fits : Bool) → IsSecondIn (check_of_verdict v fits)
second_admitted Fresh true = tt
second_admitted Again true = tt
second_admitted _ fits = λ old new two. two

second_weighed : (s t : Bool) (v : Verdict) (fits : Bool) → IsSecondIn (check_by_tests s t v fits)
second_weighed true true v fits = second_admitted v fits
second_weighed _ t v fits = λ old new two. two

-- the extension of an answer's place
extension_size : (flag : Bool) (register : List ℕ) → length register ≡ 32 → length (extension_at flag register) ≡ 32
extension_size true register size = size
extension_size false register size = length-zero_bytes

after_size : (again : Bool) (extension value : List ℕ) → length extension ≡ 32 → length (extension_after again extension value) ≡ 32
after_size true extension value size = size
after_size false extension value size = length-extended_digest_of extension value

module _ (meaning : Meaning) (cell : Cell) (b : Batch) where
  abbrev IsMade : Result BatchFinding Refusal → Type 0
  IsMade (Err why) = IsSecond why
  IsMade (Ok found) = Made meaning cell b found

  change_made : (flag : Bool) (value next : List ℕ) (answer : BatchAnswer) → cell.flag ≡ flag → answer.again ≡ false
      → (IsLawful meaning → IsCell cell → IsFit b answer) → IsMade (Ok (change_by flag value next answer))
  change_made true value next answer e new fit = record { shape = new; by_flag = e; fit = fit }
  change_made false value next answer e new fit = record { shape = new; by_flag = e; fit = fit }

  from_made : (r : Result Bool Refusal) (value : List ℕ) (answer : Bool → BatchAnswer) → IsSecondIn r
      → ((again : Bool) → (answer again).again ≡ again)
      → ((again : Bool) → r ≡ Ok again → IsLawful meaning → IsCell cell → IsFit b (answer again))
      → IsMade (finding_from r cell value answer)
  from_made (Err why) value answer second says fit = second
  from_made (Ok true) value answer second says fit = record { shape = says true; by_flag = tt; fit = fit true refl }
  from_made (Ok false) value answer second says fit =
      change_made cell.flag value (opened_cell cell) (answer false) refl (says false) (fit false refl)

  -- an offer that is accepted leads to a fit answer
  at_made : (register : List ℕ) → length register ≡ 32 → (taken : Result Snapshot PartsFault)
      → IsMade (finding_in_offer meaning cell register taken b)
  at_made register size (Err Form) = λ old new two. two
  at_made register size (Err Kind) = λ old new two. two
  at_made register size (Ok offered) =
      let v : Verdict = verdict_of cell register offered b in
      from_made (check_of_offer meaning cell.key offered b v) (batch_value cell b) (answer_of meaning cell register offered.content b)
      (second_weighed (meaning.is_spelled offered.content.state) (bytes_eq offered.tag (tag_of cell.key offered.content)) v
      (nat_le (offered.content.position + size_of b) last_position)) (λ again. refl)
      (λ (again : Bool) (e : check_of_offer meaning cell.key offered b v ≡ Ok again) (lawful : IsLawful meaning) (is : IsCell cell).
      let a = weighed_only _ _ _ _ again e in
      is_fit meaning lawful cell.key offered.content.state offered.content.position (place_after cell register (batch_value cell b) again) b
      again
      (is.summary, after_size again (extension_at cell.flag register) (batch_value cell b) (extension_size cell.flag register size))
      (subst IsTrue (sym a.spelled) refl) (grind (arith, nat_tests, a.fitting)))

  unless_made : (lost : Bool) (found : Result BatchFinding Refusal) → IsMade found → IsMade (finding_unless lost found)
  unless_made true found is = λ old new two. two
  unless_made false found is = is

  or_made : (x found : Result BatchFinding Refusal) → IsMade x → IsOrMemory x found → IsMade found
  or_made (Err why) found h o = subst IsMade (sym o) h
  or_made (Ok it) found h (inl e) = subst IsMade (sym e) h
  or_made (Ok it) found h (inr e) = subst IsMade (sym e) (λ old new two. two)

  made_unless : (found : Result BatchFinding Refusal) → (fault_in found ≡ None → IsMade found) → IsMade found
  made_unless (Err why) h = second_unless why h
  made_unless (Ok found) h = h refl

  -- what the second step finds
  pub made : (offer : List ℕ) (old new : Standing) (found : Result BatchFinding Refusal) → ReadsRegister meaning offer b cell old new found
      → IsMade found
  made offer old new found r =
      made_unless found (λ (h : fault_in found ≡ None).
      let f = r.finds h in
      or_made (finding_in meaning cell f.register f.said.taken b) found
      (unless_made (has_lost_power cell f.register) (finding_in_offer meaning cell f.register f.said.taken b)
      (at_made f.register f.size f.said.taken)) f.said.found_is)
