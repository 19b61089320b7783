-- What a call over the platform of a world comes to. With it: a whole call under a plan, over the
-- platform of a world, whatever it asks.
use Rattle.std.specs.Option.{option_map_or}
use Rattle.std.specs.Prelude.{◌≡◌, ℕ, ◌-◌, ◌&&◌, Bool, true, false, length, Option, None, Some, Result, Ok, Err, IsErr, is_some}
use Rattle.std.specs.Prelude.{if◌then◌else◌, ◌⊎◌, List, refl}
use Rattle.std.specs.Result.{IsOk}
use Rattle.mm_bytes.specs.declared.fault.Memory.{Memory}
use Rattle.mm_platform.specs.Standing.{Standing, items_after_cycle, quiet_plan}
use Rattle.mm_platform.specs.declared.plan.Meddle.{Meddle}
use Rattle.mm_platform.specs.declared.plan.Stop.{Stop}
use Rattle.mm_platform.specs.declared.plan.Stop.TheVariants as stop
use Rattle.mm_module.specs.Batch.{Batch, size_of}
use Rattle.mm_machine.specs.OpSteps.{OpMeaning}
use Rattle.mm_machine.specs.declared.call.OpResult.{OpResult as End, OpResult}
use Rattle.mm_machine.specs.declared.call.OpResult.TheVariants as end
use Rattle.mm_model.specs.declared.answer.BatchAnswer.{BatchAnswer}
use Rattle.mm_model.specs.declared.refusal.Refusal.{Refusal}
use Rattle.mm_model.specs.declared.refusal.Refusal.TheVariants as refusal
use Rattle.mm_call.specs.CallKind.{end_of_machine}
use Rattle.mm_call.specs.declared.ended.AskResult.{AskResult}
use Rattle.mm_call.specs.declared.ended.AskResult.TheVariants.{Answered, Refused, Broken}
use Rattle.mm_opt.specs.Checkpoints.{closing_fault_in, result_of_end}
use Rattle.mm_opt.specs.declared.segment.Checkpointed.{Checkpointed}
use Rattle.mm_opt.specs.declared.segment.Checkpointed.TheVariants.{Done, NoSegment}
use Rattle.mm_opt.specs.declared.segment.CheckpointRefusal.{CheckpointRefusal}
use Rattle.mm_opt.specs.declared.segment.CheckpointRefusal.TheVariants as closing
use Rattle.mm_schedule.specs.declared.reply.Cause.{Cause}
use Rattle.mm_schedule.specs.declared.reply.Cause.TheVariants as cause
use Rattle.mm_schedule.specs.declared.reply.Reply.{Reply}
use Rattle.mm_schedule.specs.declared.reply.Reply.TheVariants as reply
use Rattle.mm_flight.specs.Flight.{CallEndsUnder, is_broken}
use Rattle.mm_outcome.specs.Premises.{way_of, cause_of}
use Rattle.mm_world.specs.declared.call.CallReport.{CallReport}
use Rattle.mm_world.specs.WorldStanding.{quiet_call}

-- a call that was refused
abbrev pub refused_call : Cause → CallReport
refused_call cause = record { reply = reply.No cause; snapshot = None; committed = 0 }

-- a call that was answered
abbrev pub answered_call : BatchAnswer → CallReport
answered_call answer = record {
  reply = reply.Told answer.again (answer.position - length answer.outputs) answer.outputs;
  snapshot = Some answer.snapshot;
  committed = if answer.again then 0 else length answer.outputs;
}

-- so many requests, where a position was committed
abbrev pub size_if : Option ℕ → ℕ → ℕ
size_if (Some position) size = size
size_if None size = 0

-- a call that was broken off: whether it had committed its batch of this size, up to a position
abbrev pub broken_call : Stop → Option ℕ → ℕ → CallReport
broken_call stop kept size = record {
  reply = option_map_or (λ position. reply.Kept (way_of stop) position) kept
      (reply.Nothing (way_of stop));
  snapshot = None;
  committed = size_if kept size;
}

-- whether a step at which a call is stopped has its effect
abbrev pub takes_effect : Stop → Bool
takes_effect stop.Quiet = true
takes_effect (stop.Cut step) = true
takes_effect (stop.Drop step) = true
takes_effect (stop.Fail step done) = done

-- what a call came to that was refused: want of memory is the caller's
abbrev pub IsRefusalResult : Refusal → Result CallReport Memory → Type 0
IsRefusalResult refusal.Memory result = IsErr result
IsRefusalResult why result = result ≡ Ok (refused_call (cause_of why))

-- what a call of a batch of this size came to, that ended so
abbrev pub IsCallResult : Stop → ℕ → AskResult → Result CallReport Memory → Type 0
IsCallResult stop size (Answered answer) result = result ≡ Ok (answered_call answer)
IsCallResult stop size (Refused why) result = IsRefusalResult why result
IsCallResult stop size (Broken fault commits) result =
    result ≡ Ok (broken_call stop (if takes_effect stop then commits else None) size)

-- a cut call leaves power off, which then comes back
abbrev pub is_cut : Stop → Bool
is_cut stop.Quiet = false
is_cut (stop.Cut step) = true
is_cut (stop.Drop step) = false
is_cut (stop.Fail step done) = false

pub record PowerComesBack (stop : Stop) (old new : Standing) : Type 0 where
  pub cell : new.cell ≡ old.cell
  pub items : new.items ≡ items_after_cycle (is_cut stop) old.items
  pub is_on : new.is_on ≡ (if is_cut stop then true else old.is_on)
  pub plan : new.plan ≡ old.plan
  pub steps : new.steps ≡ old.steps
  pub writes : new.writes ≡ old.writes

-- The plan is over, and where the call was broken off by a cut power was lost and is back.
pub record SettlesPlan (stop : Stop) (is_broken : Bool) (old new : Standing) : Type 0 where
  pub cell : new.cell ≡ old.cell
  pub items : new.items ≡ items_after_cycle (is_broken && is_cut stop) old.items
  pub is_on : new.is_on ≡ (if is_broken && is_cut stop then true else old.is_on)
  pub plan : new.plan ≡ Some quiet_plan
  pub steps : new.steps ≡ old.steps
  pub writes : new.writes ≡ old.writes

-- the number of the step at which a call is stopped
abbrev pub stopped_step : Stop → ℕ
stopped_step stop.Quiet = 0
stopped_step (stop.Cut step) = step
stopped_step (stop.Drop step) = step
stopped_step (stop.Fail step done) = step

-- whether a checkpoint that ended so and was stopped so has closed its segment: its last step does
-- that
abbrev pub has_closed_segment : Stop → End Checkpointed CheckpointRefusal → Bool
has_closed_segment stop (end.Broken fault commits) = is_some commits && takes_effect stop
has_closed_segment stop _ = false

-- what a checkpoint that gave this and was stopped so is told as, by whether it has closed its
-- segment
abbrev pub checkpoint_reply : Stop → Bool → Result Checkpointed CheckpointRefusal → Reply
checkpoint_reply stop closed (Ok Done) = reply.Checkpointed
checkpoint_reply stop closed (Ok NoSegment) = reply.No cause.Segment
checkpoint_reply stop closed (Err closing.Lost) = reply.No cause.Lost
checkpoint_reply stop closed (Err (closing.Device fault)) =
    if closed then reply.Closed (way_of stop) else reply.Nothing (way_of stop)
checkpoint_reply stop closed (Err closing.Kind) = reply.No cause.Kind
checkpoint_reply stop closed (Err closing.Blank) = reply.No cause.Blank
checkpoint_reply stop closed (Err closing.Cell) = reply.No cause.Cell

-- whether a checkpoint was broken off by a fault
abbrev pub has_closing_fault : Result Checkpointed CheckpointRefusal → Bool
has_closing_fault ended = is_some (closing_fault_in ended)

-- A whole call under a plan, over the platform of a world, whatever it asks.

module _ {A R : Type 0} (o : OpMeaning A R)
    (tells : Stop → OpResult A R → Result CallReport Memory → Type 0) where
  -- It began over a platform that stood so, with these meddles, and ended so under this stop; its
  -- plan is over, and that is what it is told as.
  pub record WasPlanned (meddles : List Meddle) (stop : Stop) (old new : Standing)
      (result : Result CallReport Memory) : Type 0 where
    pub middle : Standing
    pub ended : OpResult A R
    pub ends : CallEndsUnder o old meddles stop middle ended
    pub settles : SettlesPlan stop (is_broken ended) middle new
    pub told : tells stop ended result

  -- Such a call was made; or memory was wanting for its plan, and nothing has changed.
  abbrev pub IsPlanned : List Meddle → Stop → Standing → Standing → Result CallReport Memory
      → Type 0
  IsPlanned meddles stop old new result =
      (IsErr result × (new ≡ old)) ⊎ WasPlanned meddles stop old new result

-- what a call that asks for a batch is told as
abbrev pub TellsAsk : Batch → Stop → OpResult BatchAnswer Refusal → Result CallReport Memory
    → Type 0
TellsAsk b stop ended result = IsCallResult stop (size_of b) (end_of_machine ended) result

-- what a checkpoint is told as: it hands out no snapshot, and commits nothing
abbrev pub TellsCheckpoint : Stop → OpResult Checkpointed CheckpointRefusal
    → Result CallReport Memory → Type 0
TellsCheckpoint stop ended result =
    result ≡ Ok (quiet_call (checkpoint_reply stop (has_closed_segment stop ended)
    (result_of_end ended)))

-- a call that is told as something wanted no memory
pub told_ok : (it : CallReport) (result : Result CallReport Memory) → result ≡ Ok it → IsOk result
told_ok it result e = rw e refl
