-- One step of a call. With it: what a platform is asked, as the machine knows it; the reading
-- steps, and the room that is made behind them; where a platform stands between the reading steps
-- of a call and the changing ones; what is left of a call, to its end.
use Rattle.std.specs.Prelude.{ℕ, List, Result, ◌≡◌, Bool, true, false, length, Option, None, Some, Ok, Err, ◌≤◌, ◌++◌, map, [], ◌∷◌}
use Rattle.mm_digest.specs.declared.digest.Digest.{Digest}
use Rattle.mm_seal.specs.declared.cell.Cell.{Cell}
use Rattle.mm_platform.specs.Standing.{Item, Standing, item_values, register_after, ReadCell, ReadRegister, StepGoes, RoomGrows, Act}
use Rattle.mm_platform.specs.Standing.{foreign_item}
use Rattle.mm_platform.specs.declared.fault.StepFault.{StepFault}
use Rattle.mm_machine.specs.Acts.{MayChange, is_extension_left, act_in, change_after, number_in, remaining_acts}
use Rattle.mm_machine.specs.declared.call.OpResult.{OpResult}
use Rattle.mm_machine.specs.declared.call.OpResult.TheVariants.{Answered, Broken}
use Rattle.mm_machine.specs.declared.call.OpResult.TheVariants as ended
use Rattle.mm_machine.specs.declared.call.OpStage.{OpStage}
use Rattle.mm_machine.specs.declared.call.OpStage.TheVariants.{Begun, Seen, Changing}
use Rattle.mm_machine.specs.declared.call.StepResult.{StepResult}
use Rattle.mm_machine.specs.declared.call.StepResult.TheVariants.{Going, Over}
use Rattle.mm_machine.specs.declared.change.Change.{Change as Move}
use Rattle.mm_machine.specs.declared.operation.OpFinding.{OpFinding}
use Rattle.mm_machine.specs.declared.operation.OpFinding.TheVariants.{Repeat, Change}
use Rattle.mm_machine.specs.declared.operation.ReadyChange.{ReadyChange}
use Rattle.mm_machine.specs.declared.operation.Sight.{Sight}
use Rattle.mm_machine.specs.declared.operation.Sight.TheVariants as sight
use Rattle.mm_machine.specs.declared.reading.Halt.{Halt}
use Rattle.mm_machine.specs.declared.reading.Halt.TheVariants.{Fault, Refused, Lacks}
use Rattle.mm_machine.specs.declared.reading.OpPrepared.{OpPrepared}

-- What a platform is asked, as the machine knows it.

-- What is seen in a cell's bytes; what is found in a cell, with this value of the register; and the
-- position that an answer tells, up to which the last step commits.
pub record OpMeaning (A R : Type 0) : Type 1 where
  pub sees : List ℕ → Result (Sight A) R → Type 0
  pub finds : Cell → List ℕ → Result (OpFinding A) R → Type 0
  pub position : A → ℕ

-- The reading steps, and the room that is made behind them.

-- A reading step that goes by a fault or by none, and what is drawn from what it reads.
abbrev pub StepDraws : {T R : Type 0} → (Option StepFault → Type 0) → (Result T R → Type 0)
    → Result T (Halt R) → Type 0
StepDraws goes says (Ok it) = goes None × says (Ok it)
StepDraws goes says (Err (Fault fault)) = goes (Some fault)
StepDraws goes says (Err (Refused why)) = goes None × says (Err why)
StepDraws goes says (Err Lacks) = ⊥

-- This is said of the bytes of a cell that was read; they are the platform's, where that tells its
-- cell.
pub record CellSays (old : Standing) (says : List ℕ → Type 0) : Type 0 where
  pub bytes : List ℕ
  pub told : (cell : List ℕ) → old.cell ≡ Some cell → bytes ≡ cell
  pub said : says bytes

-- This is said of the 32 bytes of a register that was read; they are the platform's, where that
-- tells its items.
pub record RegisterSays (new : Standing) (says : List ℕ → Type 0) : Type 0 where
  pub register : List ℕ
  pub told : (items : List Item) → new.items ≡ Some items
      → register ≡ register_after (item_values items)
  pub size : length register ≡ 32
  pub said : says register

-- whether what was found is still to extend the register
abbrev pub has_extension : {A : Type 0} → OpFinding A → Bool
has_extension (Repeat answer) = false
has_extension (Change ready) = is_extension_left ready.change

-- Room is made for the own extension that is to come, if one is; memory may be wanting for it.
abbrev pub RoomIsMadeIf : Bool → {A R : Type 0} → OpFinding A → Standing → Standing
    → Result (OpFinding A) (Halt R) → Type 0
RoomIsMadeIf false found old new given = (new ≡ old) × (given ≡ Ok found)
RoomIsMadeIf true found old new (Ok it) = RoomGrows old new × (it ≡ found)
RoomIsMadeIf true found old new (Err why) = (new ≡ old) × (why ≡ Lacks)

abbrev pub RoomIsMadeFor : {A R : Type 0} → Result (OpFinding A) (Halt R) → Standing → Standing
    → Result (OpFinding A) (Halt R) → Type 0
RoomIsMadeFor (Err why) old new given = (new ≡ old) × (given ≡ Err why)
RoomIsMadeFor (Ok found) old new given = RoomIsMadeIf (has_extension found) found old new given

-- what is given once it was seen to room for what was found
abbrev pub found_with_room : {A R : Type 0} → OpFinding A → Result Unit (Halt R)
    → Result (OpFinding A) (Halt R)
found_with_room found (Ok _) = Ok found
found_with_room found (Err why) = Err why

-- What was found, and then room.
pub record FindsRoom {A R : Type 0} (by : Standing → Result (OpFinding A) (Halt R) → Type 0)
    (new : Standing) (given : Result (OpFinding A) (Halt R)) : Type 0 where
  pub middle : Standing
  pub found : Result (OpFinding A) (Halt R)
  pub finds : by middle found
  pub rooms : RoomIsMadeFor found middle new given

-- the room that the changing steps take, once something was found
abbrev pub LeavesRoom : {A R : Type 0} → Result (OpFinding A) (Halt R) → Standing → Type 0
LeavesRoom (Ok (Change ready)) standing = MayChange ready.change standing
LeavesRoom _ standing = Unit {0}

module _ {A R : Type 0} (o : OpMeaning A R) where
  -- The first step: the cell is read, and seen.
  abbrev pub OpLooks : Standing → Standing → Result (Sight A) (Halt R) → Type 0
  OpLooks old new = StepDraws (StepGoes ReadCell old new)
      (λ seen. CellSays old (λ bytes. o.sees bytes seen))

  -- The second: the register is read, and it is found what is to be done.
  abbrev pub OpWeighs : Cell → Standing → Standing → Result (OpFinding A) (Halt R) → Type 0
  OpWeighs cell old new =
      StepDraws (StepGoes ReadRegister old new)
      (λ found. RegisterSays new (λ register. o.finds cell register found))

  -- What is found, by what was seen.
  abbrev pub SightFinds : Result (Sight A) (Halt R) → Standing → Standing
      → Result (OpFinding A) (Halt R)
      → Type 0
  SightFinds (Err why) old new given = (new ≡ old) × (given ≡ Err why)
  SightFinds (Ok (sight.Found found)) old new given = RoomIsMadeFor (Ok found) old new given
  SightFinds (Ok (sight.Cell cell)) old new given = FindsRoom (OpWeighs cell old) new given

  -- Both reading steps, or the first alone, where it is enough.
  pub record OpReads (old new : Standing) (given : Result (OpFinding A) (Halt R)) : Type 0 where
    pub middle : Standing
    pub seen : Result (Sight A) (Halt R)
    pub looks : OpLooks old middle seen
    pub on : SightFinds seen middle new given

-- One step of a call: what it does, and where the call stands then.

-- how a call ends whose reading came to nothing
abbrev pub ending_by_halt : {A R : Type 0} → Halt R → OpResult A R
ending_by_halt (Fault fault) = ended.Broken fault None
ending_by_halt (Refused why) = ended.Refused why
ending_by_halt Lacks = ended.Lacks

-- where a call stands that has this before it, or nothing
abbrev pub step_to : {A R : Type 0} → Option Move → A → StepResult A R
step_to None answer = Over (ended.Answered answer)
step_to (Some change) answer = Going (Changing (record { change = change; answer = answer }))

abbrev pub step_of_finding : {A R : Type 0} → Result (OpFinding A) (Halt R) → StepResult A R
step_of_finding (Err why) = Over (ending_by_halt why)
step_of_finding (Ok (Repeat answer)) = step_to None answer
step_of_finding (Ok (Change ready)) = step_to (Some ready.change) ready.answer

-- the position that a step commits: the last one commits that of the answer
abbrev pub position_if_last : Option Move → ℕ → Option ℕ
position_if_last None position = Some position
position_if_last (Some change) position = None

-- the device step that comes next, and its number, where a write has this one
abbrev pub act_of : {A : Type 0} → OpStage A → Act
act_of Begun = ReadCell
act_of (Seen cell) = ReadRegister
act_of (Changing ready) = act_in ready.change

abbrev pub number_of : {A : Type 0} → ℕ → OpStage A → ℕ
number_of write Begun = 1
number_of write (Seen cell) = 2
number_of write (Changing ready) = number_in write ready.change

-- the room that is taken by what is left of a call
abbrev pub MayGoOn : {A : Type 0} → OpStage A → Standing → Type 0
MayGoOn (Changing ready) standing = MayChange ready.change standing
MayGoOn _ standing = Unit {0}

abbrev pub StepMayGoOn : {A R : Type 0} → StepResult A R → Standing → Type 0
StepMayGoOn (Going stage) standing = MayGoOn stage standing
StepMayGoOn (Over it) standing = Unit {0}

-- Where the call stands behind what was found.
pub record FindingLeads {A R : Type 0} (by : Result (OpFinding A) (Halt R) → Type 0)
    (step : StepResult A R) : Type 0 where
  pub found : Result (OpFinding A) (Halt R)
  pub finds : by found
  pub gives : step ≡ step_of_finding found

-- and behind what was seen
abbrev pub SightLeads : {A R : Type 0} → Result (Sight A) (Halt R) → Standing → Standing
    → StepResult A R
    → Type 0
SightLeads (Err why) old new step = (new ≡ old) × (step ≡ Over (ending_by_halt why))
SightLeads (Ok (sight.Found found)) old new step =
    FindingLeads (RoomIsMadeFor (Ok found) old new) step
SightLeads (Ok (sight.Cell cell)) old new step = (new ≡ old) × (step ≡ Going (Seen cell))

module _ {A R : Type 0} (o : OpMeaning A R) where
  -- The first step.
  pub record FirstStepGoes (old new : Standing) (step : StepResult A R) : Type 0 where
    pub middle : Standing
    pub seen : Result (Sight A) (Halt R)
    pub looks : OpLooks o old middle seen
    pub leads : SightLeads seen middle new step

  -- what a changing step leads to, by its fault
  abbrev pub step_after_change : ReadyChange A → Option StepFault → StepResult A R
  step_after_change ready None = step_to (change_after ready.change) ready.answer
  step_after_change ready (Some fault) =
      Over (ended.Broken fault
      (position_if_last (change_after ready.change) (o.position ready.answer)))

  -- A changing step.
  pub record ChangeGoes (ready : ReadyChange A) (old new : Standing)
      (step : StepResult A R) : Type 0 where
    pub fault : Option StepFault
    pub goes : StepGoes (act_in ready.change) old new fault
    pub gives : step ≡ step_after_change ready fault

  -- One step of a call that stands here.
  abbrev pub OpSteps : OpStage A → Standing → Standing → StepResult A R → Type 0
  OpSteps Begun old new step = FirstStepGoes old new step
  OpSteps (Seen cell) old new step = FindingLeads (FindsRoom (OpWeighs o cell old) new) step
  OpSteps (Changing ready) old new step = ChangeGoes ready old new step

-- Where a platform stands between the reading steps of a call and the changing ones.

-- what was found, without what was read for it
abbrev pub found_in : {A R : Type 0} → Result (OpPrepared A) R → Result (OpFinding A) R
found_in (Ok prepared) = Ok prepared.found
found_in (Err why) = Err why

-- These items of a register are some that give this value, and behind them items of others alone.
pub record AreOthersBehind (value : List ℕ) (items : List Item) : Type 0 where
  pub read : List Item
  pub others : List (List ℕ)
  pub gives : value ≡ register_after (item_values read)
  pub behind : items ≡ read ++ map foreign_item others

-- The platform, as far as it tells, stands as it was read, items of others aside: its cell has
-- these bytes; and where the register was read, it shows what gave this value, and behind that
-- items of others alone.
pub record StandsAsRead (bytes : List ℕ) (read : Option Digest)
    (standing : Standing) : Type 0 where
  pub cell : (cell : List ℕ) → standing.cell ≡ Some cell → cell ≡ bytes
  pub register : (value : Digest) → read ≡ Some value → (items : List Item)
      → standing.items ≡ Some items → AreOthersBehind value.bytes items

-- The platform stands as the reading steps left it, items of others aside; and where the register
-- is to be extended, there is room for that.
pub record StandsAsPrepared {A : Type 0} (prepared : OpPrepared A)
    (standing : Standing) : Type 0 where
  pub stands : StandsAsRead prepared.cell prepared.register standing
  pub room : has_extension prepared.found ≡ true → 1 ≤ standing.spare

-- What is left of a call, to its end.

-- the steps that do what was found: none, or those of a change
abbrev pub acts_for : {A : Type 0} → OpFinding A → List Act
acts_for (Repeat answer) = []
acts_for (Change ready) = remaining_acts ready.change

abbrev pub answer_in : {A : Type 0} → OpFinding A → A
answer_in (Repeat answer) = answer
answer_in (Change ready) = ready.answer

-- the position that a step commits, before these others: the last one commits this
abbrev pub position_before : List Act → ℕ → Option ℕ
position_before [] position = Some position
position_before (act ∷ acts) position = None

-- A device step, and what comes behind it: it is done, and the rest follows; or it fails, and so
-- the
-- call ends.
pub data ActLeads {A R : Type 0} (act : Act) (commits : Option ℕ) (rest : Standing → Type 0)
    (old new : Standing) (ended : OpResult A R) : Type 0 where
  goes_on : (middle : Standing) → StepGoes act old middle None → rest middle
      → ActLeads act commits rest old new ended
  breaks_off : (fault : StepFault) → StepGoes act old new (Some fault)
      → ended ≡ Broken fault commits
      → ActLeads act commits rest old new ended

module _ {A R : Type 0} (position : ℕ) where
  -- Device steps, one after another, of which the last commits up to this position, and how a call
  -- ended by them that has this answer.
  abbrev pub ActsEndBy : List Act → A → Standing → Standing → OpResult A R → Type 0
  ActsEndBy [] answer old new ended = (new ≡ old) × (ended ≡ Answered answer)
  ActsEndBy (act ∷ acts) answer old new ended =
      ActLeads act (position_before acts position)
      (λ middle. ActsEndBy acts answer middle new ended)
      old new ended

  -- how a call ended at its last step
  abbrev pub ending_at_last : A → Result Unit StepFault → OpResult A R
  ending_at_last answer (Ok done) = Answered answer
  ending_at_last answer (Err fault) = Broken fault (Some position)

module _ {A R : Type 0} (o : OpMeaning A R) where
  -- The same of an operation.
  abbrev pub OpActs : List Act → A → Standing → Standing → OpResult A R → Type 0
  OpActs acts answer old new ended = ActsEndBy (o.position answer) acts answer old new ended

  -- How a call ended that found this.
  abbrev pub FindingEnds : Result (OpFinding A) (Halt R) → Standing → Standing → OpResult A R
      → Type 0
  FindingEnds (Err why) old new ended = (new ≡ old) × (ended ≡ ending_by_halt why)
  FindingEnds (Ok found) old new ended = OpActs (acts_for found) (answer_in found) old new ended

  -- What was found by this, and how the call ended.
  pub record FindsAndEnds (by : Standing → Result (OpFinding A) (Halt R) → Type 0) (new : Standing)
      (ended : OpResult A R) : Type 0 where
    pub middle : Standing
    pub found : Result (OpFinding A) (Halt R)
    pub finds : by middle found
    pub ends : FindingEnds found middle new ended

  -- What is left of a call that stands here.
  abbrev pub OpEnds : OpStage A → Standing → Standing → OpResult A R → Type 0
  OpEnds Begun old new ended = FindsAndEnds (OpReads o old) new ended
  OpEnds (Seen cell) old new ended =
      FindsAndEnds (λ middle. FindsRoom (OpWeighs o cell old) middle) new ended
  OpEnds (Changing ready) old new ended =
      OpActs (remaining_acts ready.change) ready.answer old new ended
