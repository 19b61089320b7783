-- What stands on the platform of a world, by digests. With it: what a call with its plan comes to,
-- over the platform of a world; what a call comes to over the platform of a world whose cell is
-- none that it goes on with; a world as its code holds it.
use Rattle.std.specs.Prelude.{◌≡◌, true, Some, ℕ, ◌+◌, List, ◌++◌, length, Option, None, Result, MatchResult, option_to_list, ◌⊎◌, ◌==◌}
use Rattle.std.specs.Prelude.{◌&&◌, Ok, Err, if◌then◌else◌, ◌≤◌, ◌-◌, ◌^◌, Bool, false, [], take, drop, slice_index}
use Rattle.mm_bytes.specs.declared.fault.Memory.{Memory}
use Rattle.mm_digest.specs.declared.variant.Variant.{Variant}
use Rattle.mm_seal.specs.Cell.{ReadsCell}
use Rattle.mm_seal.specs.Parts.{is_same_variant}
use Rattle.mm_seal.specs.declared.cell.Cell.{Cell}
use Rattle.mm_seal.specs.declared.cell.CellFault.{CellFault}
use Rattle.mm_seal.specs.declared.cell.CellFault.TheVariants.{Blank, Cell as Unspelled}
use Rattle.mm_platform.specs.Standing.{Standing, quiet_plan}
use Rattle.mm_platform.specs.declared.plan.Meddle.{Meddle}
use Rattle.mm_platform.specs.declared.plan.Stop.{Stop}
use Rattle.mm_module.specs.Batch.{Batch}
use Rattle.mm_module.specs.Meaning.{Meaning}
use Rattle.mm_model.specs.Chains.{Instance}
use Rattle.mm_model.specs.Moves.{Digests}
use Rattle.mm_model.specs.Standing.{register_reading}
use Rattle.mm_model.specs.declared.refusal.Refusal.{Refusal}
use Rattle.mm_model.specs.declared.refusal.Refusal.TheVariants as refusal
use Rattle.mm_call.specs.CallFinding.{digest_level}
use Rattle.mm_call.specs.CallOutcome.{state_seen, reading_steps}
use Rattle.mm_call.specs.Checkpoints.{checkpoint_outcome}
use Rattle.mm_call.specs.Standing.{StandsAt, instance_by, count_after_more}
use Rattle.mm_schedule.specs.declared.reply.Reply.{Reply}
use Rattle.mm_outcome.specs.OneRun.{WorldState, world_of, instance_of}
use Rattle.mm_outcome.specs.Premises.{Outcome, course_of, ask_event_outcome, checkpoint_event_outcome, read_only_outcome, vain_ask_outcome}
use Rattle.mm_world.specs.declared.call.CallReport.{CallReport}
use Rattle.mm_world.specs.declared.seat.Seat.{Seat}

-- The cell and the register have these digests, in both variants.
pub record HasDigests (i : Instance) (standing : Standing) (d : Digests) : Type 0 where
  pub at : StandsAt i standing d
  pub register : register_reading standing ≡ Some d.register

-- the platform is on, with a quiet plan
pub record IsQuiet (standing : Standing) : Type 0 where
  pub is_on : standing.is_on ≡ true
  pub plan : standing.plan ≡ Some quiet_plan

-- What a call with its plan comes to, over the platform of a world.

-- The call came to this outcome, after these snapshots, and its plan is over.
pub record CallComesTo (i : Instance) (o : Outcome Digests) (count : ℕ) (issued : List (List ℕ))
    (old new : Standing) (it : CallReport) : Type 0 where
  pub reply : it.reply ≡ o.reply
  pub issues : issued ++ option_to_list it.snapshot ≡ o.issued
  pub stands : HasDigests i new o.state
  pub counts : o.state.count ≡ count + it.committed
  pub quiet : IsQuiet new
  pub steps : new.steps ≡ count_after_more o.steps old.steps
  pub writes : new.writes ≡ count_after_more o.writes old.writes

-- The call has made its reading steps, and nothing else.
pub record HasRead (i : Instance) (d : Digests) (meddles : List Meddle) (stop : Stop)
    (old new : Standing) : Type 0 where
  pub stands : HasDigests i new (state_seen i (digest_level i) d (course_of stop meddles))
  pub quiet : IsQuiet new
  pub steps : new.steps ≡ count_after_more (length (reading_steps i.variant)) old.steps
  pub writes : new.writes ≡ old.writes

-- Memory was wanting: nothing has changed, but that the reading steps may have been made.
abbrev pub CallLacksMemory : Instance → Digests → List Meddle → Stop → Standing → Standing → Type 0
CallLacksMemory i d meddles stop old new = (new ≡ old) ⊎ HasRead i d meddles stop old new

-- What is asked under a plan: what is done between the steps, and which one is stopped; the bytes
-- that are offered, if any are; and the batch.
pub record PlannedAsk : Type 0 where
  pub meddles : List Meddle
  pub stop : Stop
  pub bytes : Option (List ℕ)
  pub b : Batch

abbrev pub planned_ask : List Meddle → Stop → Option (List ℕ) → Batch → PlannedAsk
planned_ask meddles stop bytes b =
    record { meddles = meddles; stop = stop; bytes = bytes; b = b }

-- the batch is asked so over a quiet platform, after these snapshots
abbrev pub AsksOwnCell : Variant → Meaning → Standing → Standing → List (List ℕ) → PlannedAsk
    → Result CallReport Memory → Type 0
AsksOwnCell variant meaning old new issued ask result =
    (key barrier : List ℕ) (d : Digests) → let i = instance_by variant meaning key barrier in
    HasDigests i old d → IsQuiet old
    → MatchResult result
    (CallComesTo i
    (ask_event_outcome i (digest_level i) d issued ask.meddles ask.stop ask.bytes ask.b)
    d.count issued old new)
    (λ _. CallLacksMemory i d ask.meddles ask.stop old new)

-- a call that hands out no snapshot and commits nothing
abbrev pub quiet_call : Reply → CallReport
quiet_call said = record { reply = said; snapshot = None; committed = 0 }

-- a checkpoint over a quiet platform
abbrev pub ChecksOwnCell : Variant → Meaning → Standing → Standing → List (List ℕ) → List Meddle
    → Stop
    → Result Reply Memory → Type 0
ChecksOwnCell variant meaning old new issued meddles stop result =
    (key barrier : List ℕ) (d : Digests) → let i = instance_by variant meaning key barrier in
    HasDigests i old d → IsQuiet old
    → let o = checkpoint_outcome i (digest_level i) d (course_of stop meddles) in MatchResult result
    (λ said. CallComesTo i (checkpoint_event_outcome (digest_level i) stop issued o)
    d.count issued old new
    (quiet_call said))
    (λ _. new ≡ old)

-- What a call comes to over the platform of a world whose cell is none that it goes on with.

-- why nothing is found in a cell: it is blank, or its bytes spell none
abbrev pub refusal_of_fault : CellFault → Refusal
refusal_of_fault Blank = refusal.Blank
refusal_of_fault Unspelled = refusal.Cell

-- why a call of this variant and module doesn't go on with a cell, by what its bytes read as; none
-- where the cell is its own
abbrev pub vain_refusal : Variant → ℕ → Result Cell CellFault → Option Refusal
vain_refusal variant id (Err fault) = Some (refusal_of_fault fault)
vain_refusal variant id (Ok cell) =
    if is_same_variant cell.variant variant && (cell.module == id) then None else Some refusal.Cell

-- The call came to this outcome, after these snapshots: its plan is over, the cell is as it was,
-- and it committed nothing.
pub record CallComesInVain (o : Outcome Digests) (issued : List (List ℕ)) (old new : Standing)
    (it : CallReport) : Type 0 where
  pub reply : it.reply ≡ o.reply
  pub issues : issued ++ option_to_list it.snapshot ≡ o.issued
  pub committed : it.committed ≡ 0
  pub cell : new.cell ≡ old.cell
  pub register : register_reading new ≡ Some o.state.register
  pub quiet : IsQuiet new
  pub steps : new.steps ≡ count_after_more o.steps old.steps
  pub writes : new.writes ≡ count_after_more o.writes old.writes

-- the platform is quiet, and tells its cell, whose bytes read so, and its register
pub record IsRead (read : Result Cell CellFault) (d : Digests) (standing : Standing) : Type 0 where
  pub bytes : List ℕ
  pub cell : standing.cell ≡ Some bytes
  pub reads : ReadsCell bytes read
  pub register : register_reading standing ≡ Some d.register
  pub quiet : IsQuiet standing

-- the batch is asked so over a quiet platform that holds no cell of the call's own
abbrev pub AsksInVain : Variant → Meaning → Standing → Standing → List (List ℕ) → PlannedAsk
    → Result CallReport Memory → Type 0
AsksInVain variant meaning old new issued ask result =
    (i : Instance) (d : Digests) (read : Result Cell CellFault) (why : Refusal) → IsRead read d old
    → vain_refusal variant meaning.id read ≡ Some why
    → MatchResult result
    (CallComesInVain
    (vain_ask_outcome (digest_level i) d issued ask.meddles ask.stop why ask.bytes ask.b)
    issued old new)
    (λ _. new ≡ old)

-- a checkpoint over a quiet platform that holds no cell at all
abbrev pub ChecksInVain : Standing → Standing → List (List ℕ) → List Meddle → Stop
    → Result Reply Memory → Type 0
ChecksInVain old new issued meddles stop result =
    (i : Instance) (d : Digests) (fault : CellFault) → IsRead (Err fault) d old
    → MatchResult result
    (λ said. CallComesInVain (read_only_outcome (digest_level i) d issued meddles stop
    (refusal_of_fault fault)) issued old
    new (quiet_call said))
    (λ _. new ≡ old)

-- A call that asks for a batch under a plan: over the call's own cell, and over one that it doesn't
-- go on with.
pub record AsksPlanned (variant : Variant) (meaning : Meaning) (old new : Standing)
    (issued : List (List ℕ)) (ask : PlannedAsk) (result : Result CallReport Memory) : Type 0 where
  pub own : AsksOwnCell variant meaning old new issued ask result
  pub vain : AsksInVain variant meaning old new issued ask result

-- A checkpoint under a plan: over a cell of any variant and module, and over none.
pub record ChecksPlanned (old new : Standing) (issued : List (List ℕ)) (meddles : List Meddle)
    (stop : Stop) (result : Result Reply Memory) : Type 0 where
  pub own : (variant : Variant) (meaning : Meaning)
      → ChecksOwnCell variant meaning old new issued meddles stop result
  pub vain : ChecksInVain old new issued meddles stop result

-- A world as its code holds it.

-- The summary or anchor that a cell holds, and its flag; and the register's value.
abbrev pub digest_in : Option (List ℕ) → List ℕ
digest_in None = []
digest_in (Some bytes) = take 32 (drop 8 bytes)

abbrev pub flag_in : Option (List ℕ) → Bool
flag_in None = false
flag_in (Some bytes) = slice_index bytes 6 == 1

abbrev pub value_in : Option (List ℕ) → List ℕ
value_in None = []
value_in (Some value) = value

-- where a platform stands by digests, with this many committed requests
abbrev pub digests_in : Standing → ℕ → Digests
digests_in standing committed = record {
  digest = digest_in standing.cell;
  flag = flag_in standing.cell;
  register = value_in (register_reading standing);
  count = committed;
}

abbrev pub world_in : Seat → WorldState
world_in seat = record {
  header = seat.header;
  digests = digests_in seat.platform seat.committed;
  issued = seat.issued.items;
  steps = seat.platform.steps;
  writes = seat.platform.writes;
}

-- the platform's cell and register have these digests, and its counts are the world's
pub record HoldsWorld (world : WorldState) (standing : Standing) : Type 0 where
  pub stands : HasDigests (instance_of world) standing world.digests
  pub quiet : IsQuiet standing
  pub steps : world.steps ≡ standing.steps
  pub writes : world.writes ≡ standing.writes

-- what the seat of a world keeps
pub record KeepsWorld (seat : Seat) : Type 0 where
  pub stands : HasDigests (world_of seat.header) seat.platform
      (digests_in seat.platform seat.committed)
  pub quiet : IsQuiet seat.platform
  pub few : length seat.issued.items ≤ 2 ^ 32 - 1
