-- The words and laws that the proofs of this crate take from specs/ and from the crates below.
pub use Rattle.std.specs.Option.{option_map}
pub use Rattle.std.specs.Prelude.{◌==◌, if◌then◌else◌, is_some, MatchResult, option_to_list, slice_index}
pub use Rattle.std.proofs.Common.{◌&&◌, ◌++◌, ◌+◌, ◌-◌, ◌<◌, ◌^◌, ◌∙◌, ◌∷◌, ◌≡◌, ◌≤◌, [], ap, arith, Bool, drop, Err, false, IfOk, inl, inr}
pub use Rattle.std.proofs.Common.{length, List, map, None, Ok, OnErr, Option, refl, Result, Some, subst, sym, take, true, ℕ}
pub use Rattle.std.proofs.lemmas.Bool.{eq-eqb, eqb-true}
pub use Rattle.std.proofs.lemmas.List.{append-nil, map-append}
pub use Rattle.mm_bytes.specs.declared.fault.Memory.{Memory}
pub use Rattle.mm_digest.specs.Messages.{extended_digest_of, zero_bytes}
pub use Rattle.mm_digest.specs.declared.variant.Variant.{Variant}
pub use Rattle.mm_digest.specs.declared.variant.Variant.TheVariants.{Basic, Opt}
pub use Rattle.mm_seal.specs.Cell.{flag_byte, ReadsCell}
pub use Rattle.mm_seal.specs.Parts.{is_same_variant}
pub use Rattle.mm_seal.specs.declared.cell.Cell.{Cell}
pub use Rattle.mm_seal.specs.declared.cell.CellFault.{CellFault}
pub use Rattle.mm_seal.specs.declared.cell.CellFault.TheVariants.{Blank, Cell as Unspelled}
pub use Rattle.mm_platform.specs.Standing.{foreign_item, Item, item_values, own_item, register_after, Standing, items_beside, fault_at}
pub use Rattle.mm_platform.specs.Standing.{StepGoes, is_made_at, items_after_cycle, ReadCell, fault_by_plan, values_by_plan}
pub use Rattle.mm_platform.specs.declared.fault.StepFault.{StepFault}
pub use Rattle.mm_platform.specs.declared.plan.Meddle.{Meddle}
pub use Rattle.mm_platform.specs.declared.plan.Stop.{Stop}
pub use Rattle.mm_platform.specs.declared.plan.Stop.TheVariants.{Cut, Drop, Fail, Quiet}
pub use Rattle.mm_module.specs.Batch.{Batch, members_of, normal_batch, One, size_of}
pub use Rattle.mm_module.specs.Batches.{batch_of}
pub use Rattle.mm_module.specs.Meaning.{Meaning, outputs_from}
pub use Rattle.mm_modules.specs.Modules.{meaning_of}
pub use Rattle.mm_model.specs.History.{Close, Commit, first_history, Foreign, Move, Placed, Power, ask_steps, checkpoint_steps, Reads}
pub use Rattle.mm_model.specs.History.{DeviceStep, Writes}
pub use Rattle.mm_model.specs.Chains.{Instance}
pub use Rattle.mm_model.specs.Moves.{is_long, Digests, digests_after}
pub use Rattle.mm_model.specs.Standing.{cell_of, issued_bytes, register_reading}
pub use Rattle.mm_model.specs.declared.refusal.Refusal.{Refusal}
pub use Rattle.mm_call.specs.WalkLaws.{checkpoint_none, closes-foreign, closes_first, reading_none, batch, call_commits, steps_of_change}
pub use Rattle.mm_call.specs.WalkLaws.{Commits, commits-none, commits_batch, nothing, seen_none}
pub use Rattle.mm_call.specs.CallOutcome.{Answers, Breaks, CallOutcome, call_outcome, call_outcome_by, call_ending_by, CallEnding}
pub use Rattle.mm_call.specs.CallOutcome.{result_of_ending, position_of, reading_steps, Refuses, state_seen, position_if_committed}
pub use Rattle.mm_call.specs.CallOutcome.{walk_from_step, has_close, has_commit, Course, Done, End, Fails, StepFate, fate_by_plan}
pub use Rattle.mm_call.specs.CallOutcome.{moves_seen, walk, StepsWalk, end_of, made_move}
pub use Rattle.mm_call.specs.CallKind.{EndsAsCall, end_by_fault, is_broken, KeepsPosition, kept_position, result_of, PlatformStaysOn}
pub use Rattle.mm_call.specs.CallFinding.{CallFinding, finding_at, finding_unless_wanting, is_fresh, state_after_moves, digest_level}
pub use Rattle.mm_call.specs.CallFinding.{fault_of, IsOrMemory}
pub use Rattle.mm_call.specs.OfferLaws.{anchor-nil, committed_batches, summary-nil}
pub use Rattle.mm_call.specs.Standing.{cell_at, count_after_more, instance_by, RegisterStandsAt, items_after_moves, items_after_move}
pub use Rattle.mm_call.specs.Standing.{StandsAt}
pub use Rattle.mm_call.specs.TrailLaws.{foreign_made, reads_beside, register_of_items}
pub use Rattle.mm_call.specs.declared.ended.AskResult.{AskResult}
pub use Rattle.mm_call.specs.declared.ended.AskResult.TheVariants.{Answered, Broken, Refused}
pub use Rattle.mm_call.proofs.Above.{again_of, fresh_of}
pub use Rattle.mm_opt.specs.Checkpoints.{closing_fault_of, EndsLooking, LooksAtSegment, SeesSegment, segment_in}
pub use Rattle.mm_opt.specs.CheckpointPromise.{CheckpointGoesBy, IsCheckpointOnCourse, checkpoint_result}
pub use Rattle.mm_opt.specs.declared.segment.CheckpointRefusal.{CheckpointRefusal}
pub use Rattle.mm_opt.specs.declared.segment.Checkpointed.{Checkpointed as Said}
pub use Rattle.mm_schedule.specs.Events.{Ask, Checkpoint, Event, event_of, meddles_of}
pub use Rattle.mm_schedule.specs.declared.reply.Reply.{Reply}
pub use Rattle.mm_outcome.specs.Premises.{moves_after_stop, cause_of, checkpoint_event_outcome, closing_reply, moves_after_checkpoint}
pub use Rattle.mm_outcome.specs.Premises.{course_of, first_digests, moves_after_call, Outcome, outcome_by, read_only_outcome, reply_of}
pub use Rattle.mm_outcome.specs.Premises.{snapshots_of, outcome_without_call, way_of, plan_of}
pub use Rattle.mm_outcome.proofs.Above.{broken_reply, stopped_reply}
pub use Rattle.mm_outcome.specs.OneRun.{first_world_state, WorldFollows, WorldState, outcome_in, WorldLacksMemory, world_of}
pub use Rattle.mm_outcome.proofs.Above.{count-made, grown, printed, sizes_of, world_few}
pub use Rattle.mm_world.specs.WorldStanding.{AsksOwnCell, CallComesTo, ChecksOwnCell, HasRead, CallLacksMemory, planned_ask, quiet_call}
pub use Rattle.mm_world.specs.WorldStanding.{AsksInVain, AsksPlanned, CallComesInVain, ChecksInVain, ChecksPlanned, refusal_of_fault}
pub use Rattle.mm_world.specs.WorldStanding.{vain_refusal, IsQuiet, HasDigests}
pub use Rattle.mm_world.specs.Calls.{answered_call, broken_call, IsCallResult, is_cut, refused_call, IsRefusalResult, SettlesPlan, size_if}
pub use Rattle.mm_world.specs.Calls.{stopped_step, has_closing_fault, takes_effect, checkpoint_reply}
