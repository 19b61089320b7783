-- The words that the definitions of this crate take from the crates below.
pub use Rattle.mm_bytes.specs.Limits.{last_position}
pub use Rattle.mm_digest.specs.Messages.{anchored_message, extended_message, zero_bytes}
pub use Rattle.mm_digest.specs.declared.variant.Variant.{Variant}
pub use Rattle.mm_digest.specs.declared.variant.Variant.TheVariants.{Basic, Opt}
pub use Rattle.mm_seal.specs.Parts.{content_of, parts_of}
pub use Rattle.mm_seal.specs.Snapshot.{Content, Snapshot, tag_of}
pub use Rattle.mm_seal.specs.declared.snapshot.Body.{Body}
pub use Rattle.mm_seal.specs.declared.snapshot.PartsFault.{PartsFault}
pub use Rattle.mm_seal.specs.declared.snapshot.PartsFault.TheVariants.{Form, Kind}
pub use Rattle.mm_platform.specs.declared.fault.StepFault.{StepFault}
pub use Rattle.mm_platform.specs.declared.plan.Meddle.{Meddle}
pub use Rattle.mm_platform.specs.declared.plan.Stop.{Stop}
pub use Rattle.mm_module.specs.Batch.{Batch, members_of, size_of}
pub use Rattle.mm_module.specs.Batches.{batch_of}
pub use Rattle.mm_module.specs.Meaning.{IsLawful, Meaning, state_after, state_from}
pub use Rattle.mm_modules.specs.Modules.{meaning_of}
pub use Rattle.mm_modules.specs.declared.any.AnyModule.{AnyModule}
pub use Rattle.mm_model.specs.History.{Close, Commit, History, Move, Placed, Reset, first_history, history_after, requests_of, total_of}
pub use Rattle.mm_model.specs.History.{Changes, DeviceStep, Writes}
pub use Rattle.mm_model.specs.Chains.{Instance, basic_instance, opt_instance}
pub use Rattle.mm_model.specs.Verdicts.{is_last}
pub use Rattle.mm_model.specs.Moves.{is_long}
pub use Rattle.mm_model.specs.Messages.{move_messages}
pub use Rattle.mm_model.specs.Standing.{NamesPosition, IsGenuine}
pub use Rattle.mm_model.specs.declared.refusal.Refusal.{Refusal}
pub use Rattle.mm_call.specs.CallFinding.{answer_on, CallFinding, right_content, state_after_moves, list_level}
pub use Rattle.mm_call.specs.CallPremises.{right_messages}
pub use Rattle.mm_call.specs.CallOutcome.{Answers, Breaks, CallOutcome, CallEnding, Refuses, call_outcome, position_if_committed, StepsWalk}
pub use Rattle.mm_call.specs.CallOutcome.{has_commit, fate_by_plan, walk}
pub use Rattle.mm_call.specs.declared.ended.AskResult.{AskResult}
pub use Rattle.mm_call.specs.declared.ended.AskResult.TheVariants.{Answered, Broken, Refused}
pub use Rattle.mm_schedule.specs.Events.{Event}
pub use Rattle.mm_schedule.specs.declared.event.Offer.{Offer}
pub use Rattle.mm_schedule.specs.declared.header.Header.{Header}
pub use Rattle.mm_history.specs.Naming.{marks_of, IsDecided}
pub use Rattle.mm_history.specs.declared.marks.HistoryMarks.{HistoryMarks}
pub use Rattle.mm_outcome.specs.Premises.{Outcome, course_of, event_outcome, outcome_by_lists, first_snapshots, moves_after_call, reply_of}
pub use Rattle.mm_outcome.specs.Premises.{snapshots_of, way_of, plan_of, IsGenuineEvent, event_messages, moves_of, IsGenuineOffer}
pub use Rattle.mm_outcome.specs.OneRun.{world_of, world_barrier, world_key}
pub use Rattle.mm_outcome.specs.Laws.{IsIssued}
pub use Rattle.mm_outcome.specs.EventOffers.{offered_bytes}
