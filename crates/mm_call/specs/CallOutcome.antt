-- What a call comes to on a course, by either level. With it: the course of a call.
use Rattle.std.specs.Option.{option_map_or}
use Rattle.std.specs.Prelude.{◌≡◌, ℕ, suc, Bool, true, false, List, [], ◌∷◌, ◌++◌, Option, None, Some, filter, ◌==◌, if◌then◌else◌, ◌+◌}
use Rattle.std.specs.Prelude.{map, Result, Ok, Err, fold}
use Rattle.std.specs.Result.{result_ok, result_and}
use Rattle.mm_call.specs.Below.{Plan, Standing, fault_at, is_made_at, StepFault, Move, Commit, Foreign, Close, DeviceStep, Reads, Changes}
use Rattle.mm_call.specs.Below.{Writes, Variant, Basic, Opt, Batch, Instance, ask_steps, BatchAnswer, Refusal, Device, Memory}
use Rattle.mm_call.specs.CallFinding.{Level, CallFinding, finding_at, is_fresh}

-- The course of a call: what others put into the register before each step, and how the step ends;
-- and the walk of steps on a course. Nothing here knows a state: a walk gives the moves that are
-- made.

-- how a step ends: it is done; or it fails by this fault, with its effect made or not
pub data End : Type 0 where
  Done : End
  Fails : StepFault → Bool → End

-- what meets one step: the values that others put into the register just before it, and how it ends
pub record StepFate : Type 0 where
  pub brings : List (List ℕ)
  pub ends : End

-- what meets a call: the fate of each step, by its number; and whether memory is wanting when the
-- batch is run
pub record Course : Type 0 where
  pub fates : ℕ → StepFate
  pub lacks : Bool

-- the moves of one step: by whether its effect is made, and by the values that others put into the
-- register just before it. A write of the cell makes its move before them.
abbrev pub step_moves : DeviceStep → Bool → List (List ℕ) → List Move
step_moves Reads made values = map Foreign values
step_moves (Changes m) made values = map Foreign values ++ (if made then m ∷ [] else [])
step_moves (Writes m) made values = (if made then m ∷ [] else []) ++ map Foreign values

-- a step that writes the cell, before so many others
abbrev pub writes_with_step : DeviceStep → ℕ → ℕ
writes_with_step (Writes m) later = suc later
writes_with_step _ later = later

-- the moves made; the steps called, and those of them that write the cell; and the fault by which
-- the call was broken off, if it was
pub record StepsWalk : Type 0 where
  pub moves : List Move
  pub steps : ℕ
  pub writes : ℕ
  pub broken : Option StepFault

-- one step, before the walk of the steps that follow: none is made after one that fails
abbrev pub walk_from_step : DeviceStep → List (List ℕ) → End → StepsWalk → StepsWalk
walk_from_step step values Done rest = record {
  moves = step_moves step true values ++ rest.moves;
  steps = suc rest.steps;
  writes = writes_with_step step rest.writes;
  broken = rest.broken;
}
walk_from_step step values (Fails fault made) rest = record {
  moves = step_moves step made values;
  steps = 1;
  writes = writes_with_step step 0;
  broken = Some fault;
}

-- the steps, one after another, from the step of this number on
abbrev pub walk : (ℕ → StepFate) → ℕ → List DeviceStep → StepsWalk
walk fates n [] = record { moves = []; steps = 0; writes = 0; broken = None }
walk fates n (step ∷ steps) =
    walk_from_step step (fates n).brings (fates n).ends (walk fates (n + 1) steps)

-- what others put into the register up to the last of these steps, which read
abbrev pub moves_seen : (ℕ → StepFate) → List DeviceStep → ℕ → List Move
moves_seen fates [] n = []
moves_seen fates (step ∷ steps) n = map Foreign (fates n).brings ++ moves_seen fates steps (n + 1)

-- the moves committed a batch; closed a segment
abbrev pub has_commit : List Move → Bool
has_commit [] = false
has_commit (Commit b ∷ moves) = true
has_commit (_ ∷ moves) = has_commit moves

abbrev pub has_close : List Move → Bool
has_close [] = false
has_close (Close ∷ moves) = true
has_close (_ ∷ moves) = has_close moves

-- the fate of each step by a plan of which no step is over: the values of the meddles with this
-- step extend the register just before it, in order
abbrev pub fate_by_plan : Plan → ℕ → StepFate
fate_by_plan plan n = record {
  brings = map (λ m. m.value.bytes) (filter (λ m. m.step == n) plan.meddles);
  ends = option_map_or (λ fault. Fails fault (is_made_at plan.stop n)) (fault_at plan.stop n) Done;
}

-- Where the platform is on and tells a plan of which no step is over, these are the fates by the
-- plan.
abbrev pub AreTold : Standing → (ℕ → StepFate) → Type 0
AreTold old fates =
    (plan : Plan) → old.is_on ≡ true → old.plan ≡ Some plan → plan.at ≡ 0 → (n : ℕ)
    → fates n ≡ fate_by_plan plan n

-- What a call comes to on a course, by either level.

-- answered, refused, or broken off by a fault: then with the position after the batch, if that was
-- committed
pub data CallEnding : Type 0 where
  Answers : BatchAnswer → CallEnding
  Refuses : Refusal → CallEnding
  Breaks : StepFault → Option ℕ → CallEnding

-- what stands after a call, or a checkpoint; how it ended; the moves that were made; the steps
-- called, and those of them that write the cell
pub record WalkOutcome (S E : Type 0) : Type 0 where
  pub state : S
  pub ending : E
  pub moves : List Move
  pub steps : ℕ
  pub writes : ℕ

-- what comes of the walk of its steps
abbrev pub outcome_of_walk : {S E : Type 0} → Level S → S → E → StepsWalk → WalkOutcome S E
outcome_of_walk level s ending walked = record {
  state = fold level.made s walked.moves;
  ending = ending;
  moves = walked.moves;
  steps = walked.steps;
  writes = walked.writes;
}

-- of a call
abbrev pub CallOutcome : Type 0 → Type 0
CallOutcome S = WalkOutcome S CallEnding

-- the reading steps of a call
abbrev pub reading_steps : Variant → List DeviceStep
reading_steps Basic = Reads ∷ []
reading_steps Opt = Reads ∷ Reads ∷ []

-- the position after the batch, of an accepted offer
abbrev pub position_of : {S : Type 0} → Level S → S → S → Batch → Result CallFinding Refusal → ℕ
position_of level seen s b (Ok found) = (level.answer found.again seen s found.offered b).position
position_of level seen s b (Err why) = 0

-- how a walk ends a call, by what was found: from the state at the reading steps and the state at
-- the end. A call that is broken off has that position where the batch was committed.
abbrev pub call_ending_by : {S : Type 0} → Level S → S → S → Batch → Result CallFinding Refusal
    → List Move
    → Option StepFault → CallEnding
call_ending_by level seen s b found moves (Some fault) =
    Breaks fault (if has_commit moves then Some (position_of level seen s b found) else None)
call_ending_by level seen s b (Err why) moves None = Refuses why
call_ending_by level seen s b (Ok found) moves None =
    Answers (level.answer found.again seen s found.offered b)

-- a call, by the walk of its steps
abbrev pub call_outcome_by : {S : Type 0} → Level S → S → S → Batch → Result CallFinding Refusal
    → StepsWalk
    → CallOutcome S
call_outcome_by level s seen b found walked =
    outcome_of_walk level s
    (call_ending_by level seen (fold level.made s walked.moves) b found walked.moves walked.broken)
    walked

-- the state that a call sees: after the values that come before its reading steps
abbrev pub state_seen : {S : Type 0} → Instance → Level S → S → Course → S
state_seen i level s c = fold level.made s (moves_seen c.fates (reading_steps i.variant) 1)

-- A call that offers these bytes and asks for the batch: its steps follow from what it sees and
-- finds at its last reading step, and are walked on the course. Memory may be wanting when the
-- batch is run.
abbrev pub call_outcome : {S : Type 0} → Instance → Level S → S → Course → List ℕ → Batch
    → CallOutcome S
call_outcome i level s c bytes b =
    let seen = state_seen i level s c in
    let offered = finding_at i level seen b bytes in
    let found = result_and offered (if c.lacks then Err Memory else offered) in
    let is_new = option_map_or (λ it. if it.again then false else true) (result_ok found) false in
    let steps = ask_steps i.variant (level.is_open s) is_new b in
    call_outcome_by level s seen b found (walk c.fates 1 steps)

-- what a core gives for an ending: a device's fault is handed on
abbrev pub result_of_ending : CallEnding → Result BatchAnswer Refusal
result_of_ending (Answers answer) = Ok answer
result_of_ending (Refuses why) = Err why
result_of_ending (Breaks fault kept) = Err (Device fault)

-- the move of one step, where its effect is made
abbrev pub made_move : Bool → Move → List Move
made_move made m = if made then m ∷ [] else []

-- how a step ends that answers this fault, or none
abbrev pub end_of : Option StepFault → Bool → End
end_of fault made = option_map_or (λ fault. Fails fault made) fault Done

-- a position, where the batch was committed
abbrev pub position_if_committed : Bool → ℕ → Option ℕ
position_if_committed committed position = if committed then Some position else None

-- a call, by what it sees and finds at its last reading step
abbrev pub call_outcome_with : {S : Type 0} → Instance → Level S → S → S → Course → Batch
    → Result CallFinding Refusal → CallOutcome S
call_outcome_with i level s seen c b found =
    call_outcome_by level s seen b found
    (walk c.fates 1 (ask_steps i.variant (level.is_open s) (is_fresh found) b))
