-- The words that the definitions of this crate take from the crates below.
pub use Rattle.mm_digest.specs.Messages.{start_message, start_digest_of, zero_bytes}
pub use Rattle.mm_digest.specs.declared.variant.Variant.{Variant}
pub use Rattle.mm_digest.specs.declared.variant.Variant.TheVariants.{Basic, Opt}
pub use Rattle.mm_seal.specs.Snapshot.{Content, sealed_snapshot_of}
pub use Rattle.mm_platform.specs.Standing.{Plan}
pub use Rattle.mm_platform.specs.declared.plan.Meddle.{Meddle}
pub use Rattle.mm_platform.specs.declared.plan.Stop.{Stop}
pub use Rattle.mm_platform.specs.declared.plan.Stop.TheVariants.{Cut, Drop, Quiet}
pub use Rattle.mm_module.specs.Batch.{Batch, One, normal_batch}
pub use Rattle.mm_module.specs.Meaning.{Meaning}
pub use Rattle.mm_modules.specs.Modules.{meaning_of}
pub use Rattle.mm_model.specs.History.{Foreign, History, Move, Own, Power as PowerMove, first_history, requests_of, Reads}
pub use Rattle.mm_model.specs.Chains.{Instance, basic_instance, opt_instance}
pub use Rattle.mm_model.specs.Moves.{is_long, Digests}
pub use Rattle.mm_model.specs.Messages.{AreNoGuards, IsClear, AreMessagesIn}
pub use Rattle.mm_model.specs.Standing.{NamesPosition, content_of_issue, IsSound, IsGenuine}
pub use Rattle.mm_model.specs.declared.refusal.Refusal.{Refusal}
pub use Rattle.mm_call.specs.CallPremises.{IsWithin, messages_of_moves, right_messages}
pub use Rattle.mm_call.specs.CallOutcome.{Answers, Breaks, CallOutcome, CallEnding, Refuses, call_outcome, call_outcome_by, reading_steps}
pub use Rattle.mm_call.specs.CallOutcome.{state_seen, Course, fate_by_plan, walk}
pub use Rattle.mm_call.specs.Checkpoints.{CheckpointOutcome, Closes, CheckpointEnding, HasNone, LostPower, NoSegment, Stops}
pub use Rattle.mm_call.specs.Checkpoints.{checkpoint_outcome}
pub use Rattle.mm_call.specs.CallFinding.{right_content, DigestsAgree, Level, digest_level, list_level}
pub use Rattle.mm_call.specs.Standing.{count_after_more, instance_by}
pub use Rattle.mm_schedule.specs.Events.{Ask, Checkpoint, Event, Extend, Power}
pub use Rattle.mm_schedule.specs.Replies.{IsEventRun, IsRunStep}
pub use Rattle.mm_schedule.specs.declared.event.Offer.{Offer}
pub use Rattle.mm_schedule.specs.declared.event.Offer.TheVariants.{Flip, Last, Number, Raw}
pub use Rattle.mm_schedule.specs.declared.header.Header.{Header}
pub use Rattle.mm_schedule.specs.declared.reply.Cause.{Cause}
pub use Rattle.mm_schedule.specs.declared.reply.Reply.{Reply}
pub use Rattle.mm_schedule.specs.declared.reply.Way.{Way}
