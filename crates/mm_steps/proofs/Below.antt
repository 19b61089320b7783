-- The words and laws that the proofs of this crate take from specs/ and from the crates below.
pub use Rattle.std.specs.Option.{option_map}
pub use Rattle.std.specs.Prelude.{◌==◌, if◌then◌else◌, is_some, IsErr, MatchResult}
pub use Rattle.std.proofs.Common.{◌&&◌, ◌+◌, ◌<◌, ◌∙◌, ◌≡◌, ◌≤◌, [], ap, arith, Bool, Err, false, List, None, not, Ok, Option, refl, Result}
pub use Rattle.std.proofs.Common.{Some, subst, sym, true, ℕ}
pub use Rattle.mm_bytes.specs.Limits.{next_count}
pub use Rattle.mm_bytes.specs.declared.fault.Memory.{Memory}
pub use Rattle.mm_digest.specs.declared.variant.Variant.{Variant}
pub use Rattle.mm_platform.specs.Memory.{plan_with_meddle, plan_with_stop}
pub use Rattle.mm_platform.specs.Standing.{next_step, Plan, Standing, next_plan, quiet_plan, standing_after_step}
pub use Rattle.mm_platform.specs.declared.fault.StepFault.{StepFault}
pub use Rattle.mm_platform.specs.declared.fault.StepFault.TheVariants.{Failed, Off}
pub use Rattle.mm_platform.specs.declared.plan.Meddle.{Meddle}
pub use Rattle.mm_platform.specs.declared.plan.Stop.{Stop}
pub use Rattle.mm_platform.specs.declared.plan.Stop.TheVariants.{Cut, Drop, Fail, Quiet}
pub use Rattle.mm_module.specs.Batch.{Batch, size_of}
pub use Rattle.mm_module.specs.Meaning.{Meaning}
pub use Rattle.mm_model.specs.Moves.{Digests}
pub use Rattle.mm_call.specs.Standing.{instance_by}
pub use Rattle.mm_machine.specs.Acts.{MayChange, number_in}
pub use Rattle.mm_machine.specs.OpSteps.{OpMeaning, OpEnds, act_of, MayGoOn, number_of, OpSteps}
pub use Rattle.mm_machine.specs.declared.call.OpResult.{OpResult}
pub use Rattle.mm_machine.specs.declared.call.OpResult.TheVariants.{Broken}
pub use Rattle.mm_machine.specs.declared.call.OpStage.{OpStage}
pub use Rattle.mm_machine.specs.declared.call.OpStage.TheVariants.{Begun, Changing, Seen}
pub use Rattle.mm_machine.specs.declared.call.StepResult.{StepResult}
pub use Rattle.mm_machine.specs.declared.call.StepResult.TheVariants.{Going, Over}
pub use Rattle.mm_machine.specs.declared.change.Change.{Change as Move}
pub use Rattle.mm_machine.specs.declared.change.Change.TheVariants.{Emptying, Extending, Placing, Writing}
pub use Rattle.mm_flight.specs.Flight.{PlanAgreesWith, plan_by, PlansAgreeAt, standing_under, CallEndsUnder, fault_of_step, CallFlies}
pub use Rattle.mm_flight.specs.Flight.{is_broken}
pub use Rattle.mm_flight.proofs.Above.{AlwaysFails, begins, commits_at, counted_few, finish_breaks, goes_on, may_planned, meddled, replans}
pub use Rattle.mm_flight.proofs.Above.{Replans, steps_fail, steps_faultless, steps_move, steps_over, steps_then, steps_under, takes_in}
pub use Rattle.mm_world.specs.declared.call.CallReport.{CallReport}
pub use Rattle.mm_world.specs.WorldStanding.{CallComesTo, HasRead, IsQuiet, HasDigests}
pub use Rattle.mm_world.specs.Calls.{SettlesPlan, stopped_step, TellsAsk, TellsCheckpoint, WasPlanned}
pub use Rattle.mm_steps.specs.FlightKind.{plan_behind, FlightBreaksAs, FlightGoesOn, IsOver, MayStepOn, FlightStepsAs}
pub use Rattle.mm_steps.specs.FlightKind.{outcome_of_stopped_ask, ask_kind, checkpoint_kind, outcome_of_stopped_closing, IsInFlight, Kind}
pub use Rattle.mm_steps.specs.FlightKind.{StepComesTo, BreaksNext, is_nothing, stop_behind}
