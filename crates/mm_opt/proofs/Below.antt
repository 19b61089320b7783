-- The words and laws that the proofs of this crate take from specs/ and from the crates below.
pub use Rattle.std.specs.List.{fold}
pub use Rattle.std.specs.Prelude.{◌&&◌, if◌then◌else◌, is_some, IsSome, nat_eq, nat_le}
pub use Rattle.std.specs.Str.{bytes_eq}
pub use Rattle.std.proofs.Common.{◌++◌, ◌+◌, ◌^◌, ◌∙◌, ◌∷◌, ◌≡◌, ◌≤◌, [], ap, arith, Bool, Err, false, IfOk, inl, inr, IsTrue, le-leb}
pub use Rattle.std.proofs.Common.{length, List, map, None, Ok, Option, refl, Result, Some, subst, sym, true, ℕ}
pub use Rattle.std.proofs.lemmas.Bool.Decides.{nat_tests}
pub use Rattle.mm_bytes.specs.Limits.{next_count, last_position}
pub use Rattle.mm_digest.specs.LengthLaws.{length-anchored_digest_of, length-extended_digest_of, length-zero_bytes}
pub use Rattle.mm_digest.specs.Messages.{extended_digest_of, start_digest_of, zero_bytes}
pub use Rattle.mm_digest.specs.declared.variant.Variant.{Variant}
pub use Rattle.mm_digest.specs.declared.variant.Variant.TheVariants.{Basic, Opt}
pub use Rattle.mm_seal.specs.Cell.{cell_spelling, IsCell, ReadsCell}
pub use Rattle.mm_seal.specs.CellLaws.{reads_cell-same}
pub use Rattle.mm_seal.specs.Snapshot.{Content, offered_snapshot_of, ReadsParts, sealed_snapshot_of, Snapshot, tag_of, variant_of}
pub use Rattle.mm_seal.specs.declared.cell.Cell.{Cell}
pub use Rattle.mm_seal.specs.declared.cell.CellFault.{CellFault}
pub use Rattle.mm_seal.specs.declared.cell.CellFault.TheVariants.{Blank, Cell as Unspelled}
pub use Rattle.mm_seal.specs.declared.snapshot.PartsFault.{PartsFault}
pub use Rattle.mm_seal.specs.declared.snapshot.PartsFault.TheVariants.{Form, Kind}
pub use Rattle.mm_seal.specs.declared.snapshot.Place.TheVariants.{Basic as InBasic, Opt as InOpt}
pub use Rattle.mm_platform.specs.Standing.{Item, item_values, own_item, register_after, Standing, Act, ExtendRegister, StepGoes, ReadCell}
pub use Rattle.mm_platform.specs.Standing.{ReadRegister, ResetRegister, WriteCell, next_plan}
pub use Rattle.mm_platform.specs.declared.fault.StepFault.{StepFault}
pub use Rattle.mm_machine.specs.Acts.{remaining_acts}
pub use Rattle.mm_machine.specs.declared.call.OpStage.TheVariants.{Begun, Changing, Seen}
pub use Rattle.mm_machine.specs.declared.change.Change.TheVariants.{Emptying, Extending, Placing, Writing}
pub use Rattle.mm_machine.specs.declared.change.SegmentOpening.{SegmentOpening}
pub use Rattle.mm_machine.specs.declared.operation.OpFinding.TheVariants.{Change, Repeat}
pub use Rattle.mm_module.specs.Batch.{Batch, normal_batch, One, size_of}
pub use Rattle.mm_module.specs.RunLaws.{members_of-normal}
pub use Rattle.mm_module.specs.Batches.{batch_of}
pub use Rattle.mm_module.specs.Meaning.{IsLawful, Meaning}
pub use Rattle.mm_model.specs.Chains.{anchor_of, guard, Instance, opt_instance}
pub use Rattle.mm_model.specs.History.{Close, Commit, first_history, Foreign, History, Move, Placed, Reset, total_of, Value, ask_steps}
pub use Rattle.mm_model.specs.History.{Changes, checkpoint_steps, Reads as Reading, DeviceStep, Writes}
pub use Rattle.mm_model.specs.Verdicts.{is_last, verdict_on, verdict_by_tests, verdict_by_digests}
pub use Rattle.mm_model.specs.Moves.{is_long, Digests, digests_of, digests_after}
pub use Rattle.mm_model.specs.Standing.{cell_of, IsRight, issued_bytes}
pub use Rattle.mm_model.specs.declared.answer.BatchAnswer.{BatchAnswer}
pub use Rattle.mm_model.specs.declared.refusal.Refusal.{Refusal}
pub use Rattle.mm_model.specs.declared.refusal.Refusal.TheVariants.{Long}
pub use Rattle.mm_model.specs.declared.verdict.Verdict.{Verdict}
pub use Rattle.mm_model.specs.declared.verdict.Verdict.TheVariants.{Again, Fresh}
pub use Rattle.mm_call.specs.CallOutcome.{call_outcome, call_ending_by, result_of_ending, has_close, Course, Done, End, StepFate}
pub use Rattle.mm_call.specs.CallOutcome.{step_moves, walk, StepsWalk}
pub use Rattle.mm_call.specs.CallKind.{IsCallToEnd, breaks_off, IsWholeCall, EndsByFinding, goes_on, IsCallSoFar, AreStepsToEnd}
pub use Rattle.mm_call.specs.CallKind.{IsCallOnCourse, EndsAsCall, end_of_refusal, result_of, PlatformStaysOn, acts_for, answer_in}
pub use Rattle.mm_call.specs.CallKind.{CallFinishes, CallReads, finding_of_machine, refusal_of_halt}
pub use Rattle.mm_call.specs.Checkpoints.{checkpoint_outcome, CheckpointsAgree, CheckpointEnding, checkpoint_ending, checkpoint_ending_by}
pub use Rattle.mm_call.specs.CallPremises.{five_steps, four_steps, one_step, StepsAre, StepsBy, StepsRefused, three_steps, two_steps}
pub use Rattle.mm_call.specs.CallPremises.{WritesByFlag}
pub use Rattle.mm_call.specs.CallFinding.{CallFinding as Accepted, finding_at, finding_at as accepted_at, finding_by_verdict}
pub use Rattle.mm_call.specs.CallFinding.{finding_by_verdict as accepted_from, finding_unless_wanting}
pub use Rattle.mm_call.specs.CallFinding.{finding_unless_wanting as accepted_in, finding_with, is_fresh, CountsHandedFault, IsAccepted}
pub use Rattle.mm_call.specs.CallFinding.{IsAnswered, state_after_moves, digest_level, list_level, place_after_batch, check_of_verdict}
pub use Rattle.mm_call.specs.CallFinding.{check_of_offer, check_by_tests, fault_in, fault_of, IsOrMemory}
pub use Rattle.mm_call.specs.TellingLaws.{blamed, blamed_later, read_untouched, wholly, begins_at, stepped, told_by, trail_fails}
pub use Rattle.mm_call.specs.TellingLaws.{trail_last, trail_on}
pub use Rattle.mm_call.specs.OfferLaws.{anchor-nil, same_batches}
pub use Rattle.mm_call.specs.Standing.{cell_at, instance_by, items_after_moves, items_after_move, StandsAt, IsChange, IsWrite, IsTrail}
pub use Rattle.mm_call.specs.TrailLaws.{state_after_moves-append, foreign_made, leads, reads_beside, register_of_items, with_register}
pub use Rattle.mm_call.specs.WalkLaws.{asks, steps_of_change, foreign_first, foreign_move_values-first}
pub use Rattle.mm_call.specs.declared.ended.AskResult.{AskResult}
pub use Rattle.mm_call.specs.declared.ended.AskResult.TheVariants.{Refused}
pub use Rattle.mm_call.proofs.Above.{Accepts, agrees_is, answered_result, AsFound as AsMade, asked_for, basic_checkpoints_agree, before}
pub use Rattle.mm_call.proofs.Above.{calls_blamed, calls_from, calls_untouched, course_by, each_call, ends_fates, ends_result, fate_of}
pub use Rattle.mm_call.proofs.Above.{finds, given_all, is_agrees, IsQuiet, is_memory, lacks_in, life_bare, MakesAll, opt_calls_agree}
pub use Rattle.mm_call.proofs.Above.{opt_checkpoints_agree, opt_tied, reading_tale, refused_reading, register_untouched, sees, sight_is}
pub use Rattle.mm_call.proofs.Above.{stands_at, stands_for, steps_give, Tale, tale_on, then_untouched, Told, told_on, told_reading}
pub use Rattle.mm_call.proofs.Above.{two_reads}
pub use Rattle.mm_opt.specs.Answers.{answer_of, change_by, extension_after, extension_at, finding_from, finding_in, finding_in_offer}
pub use Rattle.mm_opt.specs.Answers.{finding_unless, opened_cell, place_after, BatchFinding, BatchStage, batch_value, has_lost_power}
pub use Rattle.mm_opt.specs.Answers.{verdict_at, verdict_of}
pub use Rattle.mm_opt.specs.AskPromise.{OptAskPromise, opt_call, FindsIn, opt_operation, cell_in, is_cell_of, own_cell}
pub use Rattle.mm_opt.specs.Checkpoints.{closed_cell, WritesClosing, ClosesSegment, closing_by, closing_fault_in, closing_fault_of}
pub use Rattle.mm_opt.specs.Checkpoints.{result_of_closing_write, ClosingStepsBy, ClosingStepsRefused, EndsClosing, EndsLooking}
pub use Rattle.mm_opt.specs.Checkpoints.{FindsSegment, LeavesStill, LooksAtSegment, segment_by, segment_in, WeighsRegister}
pub use Rattle.mm_opt.specs.CheckpointPromise.{CheckpointGoesBy, IsCheckpointOnCourse, checkpoint_result}
pub use Rattle.mm_opt.specs.declared.segment.CheckpointRefusal.{CheckpointRefusal}
pub use Rattle.mm_opt.specs.declared.segment.Checkpointed.{Checkpointed}
pub use Rattle.mm_opt.specs.declared.segment.Segment.{Segment}
pub use Rattle.mm_opt.specs.declared.segment.Segment.TheVariants.{Open, Shut}
