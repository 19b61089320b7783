-- The words that the definitions of this crate take from the crates below.
pub use Rattle.sha2.specs.Sha256.{sha256}
pub use Rattle.mm_base.specs.Input.{lines_of}
pub use Rattle.mm_bytes.specs.Limits.{most_events}
pub use Rattle.mm_base.specs.declared.replay_fault.ReplayFault.{ReplayFault}
pub use Rattle.mm_base.specs.declared.replay_fault.ReplayFault.TheVariants.{Memory, ReadFault, WriteFault}
pub use Rattle.mm_digest.specs.Messages.{start_message, zero_bytes}
pub use Rattle.mm_digest.specs.declared.digest.Digest.{Digest}
pub use Rattle.mm_digest.specs.declared.variant.Variant.{Variant}
pub use Rattle.mm_digest.specs.declared.variant.Variant.TheVariants.{Basic, Opt}
pub use Rattle.mm_module.specs.Batch.{Batch, normal_batch}
pub use Rattle.mm_model.specs.Chains.{guard, own_values, Instance}
pub use Rattle.mm_model.specs.History.{History, first_history, total_of}
pub use Rattle.mm_model.specs.Moves.{is_long}
pub use Rattle.mm_model.specs.Messages.{IsClear}
pub use Rattle.mm_call.specs.CallFinding.{list_level}
pub use Rattle.mm_platform.specs.declared.plan.Meddle.{Meddle}
pub use Rattle.mm_platform.specs.declared.plan.Stop.{Stop}
pub use Rattle.mm_schedule.specs.Events.{Ask, Event, event_of, event_at}
pub use Rattle.mm_schedule.specs.Headers.{header_at}
pub use Rattle.mm_schedule.specs.Replies.{end_line, lines_of_reply}
pub use Rattle.mm_schedule.specs.declared.event.Event.{Event as CodeEvent}
pub use Rattle.mm_schedule.specs.declared.event.Offer.{Offer}
pub use Rattle.mm_schedule.specs.declared.header.Header.{Header}
pub use Rattle.mm_schedule.specs.declared.reply.Reply.{Reply}
pub use Rattle.mm_outcome.specs.Premises.{RunOutcome, event_outcome, outcome_by_lists, first_snapshots, outcome_by_digests, IsClearRun}
pub use Rattle.mm_outcome.specs.Premises.{IsGenuineEvent, IsGenuineRun, event_foreign_values, asked_batches, run_messages}
pub use Rattle.mm_outcome.specs.OneRun.{world_of}
pub use Rattle.mm_outcome.specs.EventOffers.{offered_bytes}
pub use Rattle.mm_evidence.specs.Evidence.{HasEvidence, IsForged}
pub use Rattle.mm_expect.specs.ExpectedState.{numbered_event_messages, IsAfter}
pub use Rattle.mm_replay.specs.Schedule.{RunningReplay, running_replay_after, first_running_replay, is_too_much, replay_stage}
pub use Rattle.mm_replay.specs.Schedule.{running_outcome, replay_state_of}
pub use Rattle.mm_play.specs.Headline.{no_answer, same_answer, IsFrontOf}
pub use Rattle.mm_play.specs.PlaysInput.{PlayOutcome, outcome_of_lines, outcome_of_input, HoldsOfWhole, IsTailShort}
pub use Rattle.mm_play.specs.Stage.{play_state}
pub use Rattle.mm_play.specs.StageLaws.{few_left}
pub use Rattle.mm_play.specs.declared.player.LineRefusal.{LineRefusal}
pub use Rattle.mm_play.specs.declared.player.LineRefusal.TheVariants.{Bad, Much}
pub use Rattle.mm_play.specs.declared.player.ReplyFault.{ReplyFault}
