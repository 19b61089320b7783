-- The words that the definitions of this crate take from the crates below.
pub use Rattle.mm_bytes.specs.Limits.{next_count, last_position}
pub use Rattle.mm_digest.specs.Messages.{anchored_message, extended_message}
pub use Rattle.mm_digest.specs.declared.variant.Variant.{Variant}
pub use Rattle.mm_digest.specs.declared.variant.Variant.TheVariants.{Basic, Opt}
pub use Rattle.mm_seal.specs.Snapshot.{Content}
pub use Rattle.mm_platform.specs.Standing.{Item, Standing, item_values, quiet_plan}
pub use Rattle.mm_platform.specs.declared.fault.StepFault.{StepFault}
pub use Rattle.mm_module.specs.Batch.{Batch, One, size_of}
pub use Rattle.mm_module.specs.Meaning.{Meaning}
pub use Rattle.mm_model.specs.Chains.{digest_after, guard, Instance, basic_instance, opt_instance}
pub use Rattle.mm_model.specs.History.{Commit, History, history_after, register_value_of, total_of, cell_digest_of}
pub use Rattle.mm_model.specs.Standing.{Live, is_lost, life_of, content_of_issue, IsRight, StandsFor, issued_bytes}
pub use Rattle.mm_model.specs.Moves.{is_long}
pub use Rattle.mm_model.specs.Messages.{AreMessagesIn, offer_messages}
pub use Rattle.mm_model.specs.declared.answer.Answer.{Answer}
pub use Rattle.mm_model.specs.declared.answer.BatchAnswer.{BatchAnswer}
pub use Rattle.mm_model.specs.declared.refusal.Refusal.{Refusal}
pub use Rattle.mm_model.specs.declared.refusal.Refusal.TheVariants.{Long, Memory}
pub use Rattle.mm_call.specs.CallFinding.{answer_on, EndsWith, CallFinding, finding_at, CountsHandedFault, IsAnswered, batch_answer_of}
pub use Rattle.mm_call.specs.CallFinding.{list_level, fault_in, fault_of}
pub use Rattle.mm_call.specs.CallPremises.{counted_part, StepsBy, AreAsked, AreShown, IsIdle, foreign_items, standing_items}
pub use Rattle.mm_call.specs.CallOutcome.{Answers, CallOutcome, call_outcome, state_seen, Course, Done}
pub use Rattle.mm_call.specs.CallKind.{IsCallOnCourse}
pub use Rattle.mm_opt.specs.Checkpoints.{ClosingStepsBy, closing_fault_in}
pub use Rattle.mm_opt.specs.CheckpointPromise.{IsCheckpointOnCourse}
pub use Rattle.mm_opt.specs.declared.segment.CheckpointRefusal.{CheckpointRefusal}
pub use Rattle.mm_opt.specs.declared.segment.CheckpointRefusal.TheVariants.{Blank, Cell, Device, Kind, Lost}
pub use Rattle.mm_opt.specs.declared.segment.Checkpointed.{Checkpointed}
