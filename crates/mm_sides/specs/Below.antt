-- The words that the definitions of this crate take from the crates below.
pub use Rattle.mm_digest.specs.Messages.{start_message}
pub use Rattle.mm_digest.specs.declared.variant.Variant.{Variant}
pub use Rattle.mm_seal.specs.Parts.{parts_of}
pub use Rattle.mm_seal.specs.Snapshot.{Content, Snapshot, sealed_snapshot_of, tag_of}
pub use Rattle.mm_seal.specs.declared.snapshot.PartsFault.{PartsFault}
pub use Rattle.mm_seal.specs.declared.snapshot.PartsFault.TheVariants.{Form, Kind}
pub use Rattle.mm_platform.specs.declared.fault.StepFault.{StepFault}
pub use Rattle.mm_platform.specs.declared.plan.Meddle.{Meddle}
pub use Rattle.mm_platform.specs.declared.plan.Stop.{Stop}
pub use Rattle.mm_platform.specs.declared.plan.Stop.TheVariants.{Quiet}
pub use Rattle.mm_module.specs.Batch.{Batch, One}
pub use Rattle.mm_module.specs.Meaning.{counter, Meaning}
pub use Rattle.mm_model.specs.History.{Foreign, History, Move, Power as PowerMove, first_history, requests_of, Reads, DeviceStep}
pub use Rattle.mm_model.specs.Chains.{Instance}
pub use Rattle.mm_model.specs.Moves.{is_long, Digests}
pub use Rattle.mm_model.specs.Messages.{IsClear, is_new, place_messages}
pub use Rattle.mm_model.specs.Standing.{content_of_issue, digest_of}
pub use Rattle.mm_model.specs.declared.refusal.Refusal.{Refusal}
pub use Rattle.mm_model.specs.declared.verdict.Verdict.{Verdict}
pub use Rattle.mm_model.specs.declared.verdict.Verdict.TheVariants.{Fresh, Stale}
pub use Rattle.mm_call.specs.CallPremises.{messages_of_moves}
pub use Rattle.mm_call.specs.CallOutcome.{Done, End, Fails, StepFate, walk}
pub use Rattle.mm_call.specs.CallFinding.{right_content, DigestsAgree, Level, digest_level, list_level, check_by_tests}
pub use Rattle.mm_call.specs.Standing.{instance_by}
pub use Rattle.mm_move.specs.Tickets.{TaggedTicket, TicketContent, place_at, sealed_ticket, summary_in, ticket_of, ticket_tag}
pub use Rattle.mm_schedule.specs.Events.{Ask, Checkpoint, Event, Extend, Power}
pub use Rattle.mm_schedule.specs.Replies.{IsEventRun}
pub use Rattle.mm_schedule.specs.declared.event.Offer.{Offer}
pub use Rattle.mm_schedule.specs.declared.event.Offer.TheVariants.{Last}
pub use Rattle.mm_schedule.specs.declared.reply.Reply.{Reply}
pub use Rattle.mm_schedule.specs.declared.reply.Way.{Way}
pub use Rattle.mm_outcome.specs.Premises.{Outcome, moves_after_stop, course_of, vain_event_outcome, event_outcome, first_digests}
pub use Rattle.mm_outcome.specs.Premises.{first_snapshots, way_of, IsGenuineEvent, batches_of, event_messages, event_foreign_values}
pub use Rattle.mm_outcome.specs.Premises.{moves_of, AreApartIn, IsGenuineOffer}
pub use Rattle.mm_outcome.specs.Laws.{IsIssued}
pub use Rattle.mm_outcome.specs.EventOffers.{offered_bytes}
pub use Rattle.mm_evidence.specs.Evidence.{HasClash, IsForged}
pub use Rattle.mm_evidence.specs.Laws.{IsFrontWithoutEvidence, IsLongest}
