-- What the reading steps of another call leave: a platform that still stands as one was prepared.
-- With it: what callers count, from the clauses of their calls.
use Rattle.std.specs.Option.{option_map_or}
use Rattle.std.specs.Prelude.{◌≡◌, ◌≤◌, ℕ, Bool, true, false, List, [], ◌++◌, Option, None, Some, Result, Ok, Err, map, refl}
use Rattle.std.proofs.Common.{◌∙◌, ap, sym, subst, arith}
use Rattle.mm_seal.specs.declared.cell.Cell.{Cell}
use Rattle.mm_platform.specs.CallLaws.{beside-beside, beside-none}
use Rattle.mm_platform.specs.Standing.{Item, Standing, foreign_item, ReadCell, ReadRegister, RoomGrows, StepGoes, items_beside}
use Rattle.mm_platform.specs.declared.fault.StepFault.{StepFault}
use Rattle.mm_module.specs.Batch.{Batch}
use Rattle.mm_machine.specs.OpSteps.{OpMeaning, OpLooks, OpReads, OpWeighs, RoomIsMadeFor, RoomIsMadeIf, SightFinds, has_extension}
use Rattle.mm_machine.specs.OpSteps.{AreOthersBehind, StandsAsPrepared}
use Rattle.mm_machine.specs.declared.operation.OpFinding.{OpFinding}
use Rattle.mm_machine.specs.declared.operation.Sight.{Sight}
use Rattle.mm_machine.specs.declared.operation.Sight.TheVariants as sight
use Rattle.mm_machine.specs.declared.reading.Halt.{Halt}
use Rattle.mm_machine.specs.declared.reading.Halt.TheVariants.{Fault, Refused, Lacks}
use Rattle.mm_machine.specs.declared.reading.OpPrepared.{OpPrepared}
use Rattle.mm_model.specs.Moves.{is_long}
use Rattle.mm_model.specs.declared.answer.BatchAnswer.{BatchAnswer}
use Rattle.mm_model.specs.declared.refusal.Refusal.{Refusal}
use Rattle.mm_call.specs.CallKind.{CallReads}
use Rattle.mm_call.specs.CallPremises.{StepsMade, one_step, two_steps, three_steps, four_steps, five_steps, StepsAnswered, StepsRefused}
use Rattle.mm_callers.proofs.Below.{Variant, Opt, quiet_plan, Meaning, One, Long, Device, StepsBy, AskPromise, CallKind, Given, StepsFor}
use Rattle.mm_callers.proofs.Below.{CountsCall, CountsAgain, again}

abbrev items_or : List Item → Option (List Item) → List Item
items_or other told = option_map_or (λ (it : List Item). it) told other

others_behind : (value : List ℕ) (others : List (List ℕ)) (items : List Item) → AreOthersBehind value items
    → AreOthersBehind value (items ++ map foreign_item others)
others_behind value others items a = record {
  read = a.read;
  others = a.others ++ others;
  gives = a.gives;
  behind = ap (λ (xs : List Item). xs ++ map foreign_item others) a.behind
      ∙ ap (items_or []) (beside-beside a.others others (Some a.read));
}

behind_told : (value : List ℕ) (others : List (List ℕ)) (before : Option (List Item)) (items : List Item)
    → items_beside others before ≡ Some items
    → ((known : List Item) → before ≡ Some known → AreOthersBehind value known) → AreOthersBehind value items
behind_told value others None items is knows = absurd (cc)
behind_told value others (Some known) items is knows =
    subst (AreOthersBehind value) (ap (items_or []) is) (others_behind value others known (knows known refl))

-- the cell is as before, the register but for items of others, and there is room where there was
record LeavesRead (old new : Standing) : Type 0 where
  pub others : List (List ℕ)
  pub cell : new.cell ≡ old.cell
  pub items : new.items ≡ items_beside others old.items
  pub room : 1 ≤ old.spare → 1 ≤ new.spare

leaves_same : (old new : Standing) → new ≡ old → LeavesRead old new
leaves_same old new same = record {
  others = [];
  cell = ap (λ (it : Standing). it.cell) same;
  items = ap (λ (it : Standing). it.items) same ∙ sym (beside-none old.items);
  room = λ room. subst (λ (it : Standing). 1 ≤ it.spare) (sym same) room;
}

leaves_room : (old new : Standing) → RoomGrows old new → LeavesRead old new
leaves_room old new grows = record {
  others = [];
  cell = ap (λ (it : Standing). it.cell) grows.same;
  items = ap (λ (it : Standing). it.items) grows.same ∙ sym (beside-none old.items);
  room = λ _. grows.room;
}

leaves_cell : (old new : Standing) (fault : Option StepFault) → StepGoes ReadCell old new fault → LeavesRead old new
leaves_cell old new fault g = record { others = g.others; cell = g.cell; items = g.items; room = λ room. omega (arith, g.room, room) }

leaves_register : (old new : Standing) (fault : Option StepFault) → StepGoes ReadRegister old new fault → LeavesRead old new
leaves_register old new fault g =
    record { others = g.others; cell = g.cell; items = g.items; room = λ room. omega (arith, g.room, room) }

then_leaves : (old middle new : Standing) → LeavesRead old middle → LeavesRead middle new → LeavesRead old new
then_leaves old middle new a b = record {
  others = a.others ++ b.others;
  cell = b.cell ∙ a.cell;
  items = b.items ∙ ap (items_beside b.others) a.items ∙ beside-beside a.others b.others old.items;
  room = λ room. b.room (a.room room);
}

left_stands : {A : Type 0} (prepared : OpPrepared A) (old new : Standing) → LeavesRead old new → StandsAsPrepared prepared old
    → StandsAsPrepared prepared new
left_stands prepared old new l s = record {
  stands = record {
    cell = λ cell is. s.stands.cell cell (sym l.cell ∙ is);
    register = λ value is items told. behind_told value.bytes l.others old.items items (sym l.items ∙ told)
        (s.stands.register value is);
  };
  room = λ extends. l.room (s.room extends);
}

module _ {A R : Type 0} (o : OpMeaning A R) where
  looks_leave : (old new : Standing) (seen : Result (Sight A) (Halt R)) → OpLooks o old new seen → LeavesRead old new
  looks_leave old new (Ok it) l = leaves_cell old new None l.0
  looks_leave old new (Err (Fault fault)) l = leaves_cell old new (Some fault) l
  looks_leave old new (Err (Refused why)) l = leaves_cell old new None l.0
  looks_leave old new (Err Lacks) l = absurd l

  weighs_leave : (cell : Cell) (old new : Standing) (found : Result (OpFinding A) (Halt R)) → OpWeighs o cell old new found
      → LeavesRead old new
  weighs_leave cell old new (Ok it) w = leaves_register old new None w.0
  weighs_leave cell old new (Err (Fault fault)) w = leaves_register old new (Some fault) w
  weighs_leave cell old new (Err (Refused why)) w = leaves_register old new None w.0
  weighs_leave cell old new (Err Lacks) w = absurd w

  makes_leave : (needs : Bool) (found : OpFinding A) (old new : Standing) (given : Result (OpFinding A) (Halt R))
      → RoomIsMadeIf needs found old new given → LeavesRead old new
  makes_leave false found old new given r = leaves_same old new r.0
  makes_leave true found old new (Ok it) r = leaves_room old new r.0
  makes_leave true found old new (Err why) r = leaves_same old new r.0

  rooms_leave : (found : Result (OpFinding A) (Halt R)) (old new : Standing) (given : Result (OpFinding A) (Halt R))
      → RoomIsMadeFor found old new given → LeavesRead old new
  rooms_leave (Ok found) old new given r = makes_leave (has_extension found) found old new given r
  rooms_leave (Err why) old new given r = leaves_same old new r.0

  sight_leaves : (seen : Result (Sight A) (Halt R)) (old new : Standing) (given : Result (OpFinding A) (Halt R))
      → SightFinds o seen old new given → LeavesRead old new
  sight_leaves (Err why) old new given f = leaves_same old new f.0
  sight_leaves (Ok (sight.Found found)) old new given f = rooms_leave (Ok found) old new given f
  sight_leaves (Ok (sight.Cell cell)) old new given f =
      then_leaves old f.middle new (weighs_leave cell old f.middle f.found f.finds) (rooms_leave f.found f.middle new given f.rooms)

  pub reads_stand : {B : Type 0} (prepared : OpPrepared B) (old new : Standing) (given : Result (OpFinding A) (Halt R))
      → OpReads o old new given → StandsAsPrepared prepared old → StandsAsPrepared prepared new
  reads_stand prepared old new given r =
      left_stands prepared old new
      (then_leaves old r.middle new (looks_leave old r.middle r.seen r.looks) (sight_leaves r.seen r.middle new given r.on))

-- the same of a call that asks for a batch, whether or not it is too long to be asked
pub prepared_stands : (o : OpMeaning BatchAnswer Refusal) (b : Batch) (prepared : OpPrepared BatchAnswer) (old new : Standing)
    (found : Result (OpFinding BatchAnswer) Refusal)
    → (is_long b ≡ true → new ≡ old) → (is_long b ≡ false → CallReads o old new found) → StandsAsPrepared prepared old
    → StandsAsPrepared prepared new
prepared_stands o b prepared old new found long reads s = by_length (is_long b) refl
  where
    by_length : (t : Bool) → is_long b ≡ t → StandsAsPrepared prepared new
    by_length true is = subst (λ (it : Standing). StandsAsPrepared prepared it) (sym (long is)) s
    by_length false is = let r = reads is in reads_stand o prepared old new r.given r.reads s

-- What callers count, from the clauses of their calls.

steps_for : (t : Bool) (variant : Variant) (old new : Standing) (result : Result BatchAnswer Refusal)
    → (t ≡ true → (new ≡ old) × (result ≡ Err Long)) → (t ≡ false → StepsBy variant result old new) → StepsFor t variant result old new
steps_for true variant old new result long short =
    let l = long refl in (l.1, ap (λ (s : Standing). s.steps) l.0, ap (λ (s : Standing). s.writes) l.0)
steps_for false variant old new result long short = short refl

pub counts_call : {core : CallKind (Given BatchAnswer)} {meaning : Meaning} {old new : Standing} {offer : List ℕ} {b : Batch}
    {result : Result BatchAnswer Refusal} → AskPromise core meaning old new offer b result → CountsCall core.variant b old new result
counts_call {core = core} {old = old} {new = new} {b = b} {result = result} call =
    record { steps = steps_for (is_long b) core.variant old new result call.calls.long call.steps; faults = call.faults }

pub counted_again : {variant : Variant} {b : Batch} {old middle new : Standing} {first : Refusal} {fault : StepFault}
    {result : Result BatchAnswer Refusal} → first ≡ Device fault → CountsCall variant b old middle (Err first)
    → CountsCall variant b middle new result → CountsAgain variant b old new result
counted_again {variant = variant} {b = b} {old = old} {middle = middle} {fault = fault} is c d =
    again middle fault (subst (λ (why : Refusal). CountsCall variant b old middle (Err why)) is c) d

-- a plan that is ended counts nothing

abbrev ended : Standing → Standing
ended old = record old { plan = Some quiet_plan }

made_ended : (old new : Standing) → StepsMade (ended old) new → StepsMade old new
made_ended old new (one_step s) = one_step s
made_ended old new (two_steps s) = two_steps s
made_ended old new (three_steps s) = three_steps s
made_ended old new (four_steps s) = four_steps s
made_ended old new (five_steps s) = five_steps s

refused_ended : (why : Refusal) (old new : Standing) → StepsRefused Opt why (ended old) new → StepsRefused Opt why old new
refused_ended (Device fault) old new s = made_ended old new s
refused_ended _ old new s = s

answered_ended : (again : Bool) (old new : Standing) → StepsAnswered Opt again (ended old) new → StepsAnswered Opt again old new
answered_ended true old new s = s
answered_ended false old new s = s

steps_ended : (t : Bool) (old new : Standing) (result : Result BatchAnswer Refusal) → StepsFor t Opt result (ended old) new
    → StepsFor t Opt result old new
steps_ended true old new result s = s
steps_ended false old new (Ok answer) s = answered_ended answer.again old new s
steps_ended false old new (Err why) s = refused_ended why old new s

pub counts_ended : {request : List ℕ} {old middle new : Standing} (result : Result BatchAnswer Refusal) → middle ≡ ended old
    → CountsCall Opt (One request) middle new result → CountsCall Opt (One request) old new result
counts_ended {request = request} {old = old} {new = new} result e c =
    let d = subst (λ (x : Standing). CountsCall Opt (One request) x new result) e c in
    record { steps = steps_ended (is_long (One request)) old new result d.steps; faults = d.faults }
