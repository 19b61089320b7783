-- The words that the definitions of this crate take from the crates below.
pub use Rattle.mm_bytes.specs.Limits.{most_events, most_members}
pub use Rattle.mm_bytes.specs.declared.fault.Memory.{Memory}
pub use Rattle.mm_base.specs.declared.replay_fault.ReplayFault.{ReplayFault}
pub use Rattle.mm_digest.specs.declared.variant.Variant.{Variant}
pub use Rattle.mm_digest.specs.declared.variant.Variant.TheVariants.{Basic, Opt}
pub use Rattle.mm_seal.specs.Cell.{FitsVariant, blank_cell, cell_spelling}
pub use Rattle.mm_seal.specs.declared.cell.CellFault.{CellFault}
pub use Rattle.mm_platform.specs.Standing.{Standing}
pub use Rattle.mm_platform.specs.declared.fault.StepFault.{StepFault}
pub use Rattle.mm_platform.specs.declared.plan.Meddle.{Meddle}
pub use Rattle.mm_platform.specs.declared.plan.Stop.{Stop}
pub use Rattle.mm_module.specs.Batch.{One}
pub use Rattle.mm_module.specs.Meaning.{value_at}
pub use Rattle.mm_modules.specs.Modules.{meaning_of}
pub use Rattle.mm_model.specs.History.{History, Reads, DeviceStep}
pub use Rattle.mm_model.specs.Chains.{Instance}
pub use Rattle.mm_model.specs.Moves.{Digests}
pub use Rattle.mm_model.specs.Standing.{digest_of, register_reading}
pub use Rattle.mm_model.specs.declared.refusal.Refusal.{Refusal}
pub use Rattle.mm_model.specs.declared.refusal.Refusal.TheVariants.{Device}
pub use Rattle.mm_call.specs.CallOutcome.{reading_steps, StepsWalk, moves_seen, walk}
pub use Rattle.mm_call.specs.CallFinding.{state_after_moves, digest_level}
pub use Rattle.mm_call.specs.Standing.{cell_at}
pub use Rattle.mm_move.specs.Cells.{moved_cell_of, retired_spelling, waiting_spelling, move_fault_of}
pub use Rattle.mm_move.specs.Orders.{acceptance_of, barrier_of}
pub use Rattle.mm_move.specs.Tickets.{sealed_ticket, summary_in}
pub use Rattle.mm_move.specs.declared.accepting.Accepted.{Accepted}
pub use Rattle.mm_move.specs.declared.cell.MovedCell.{MovedCell}
pub use Rattle.mm_move.specs.declared.inviting.Invited.{Invited}
pub use Rattle.mm_move.specs.declared.link.Link.{Link}
pub use Rattle.mm_move.specs.declared.ready.ReadyMove.{ReadyMove}
pub use Rattle.mm_move.specs.declared.refusal.MoveRefusal.{MoveRefusal}
pub use Rattle.mm_move.specs.declared.refusal.MoveRefusal.TheVariants.{Core}
pub use Rattle.mm_schedule.specs.Events.{Ask, Checkpoint, Event, Extend, Power, event_of, meddles_of, meddles_at, offer_at, stop_at}
pub use Rattle.mm_schedule.specs.Events.{offer_of}
pub use Rattle.mm_schedule.specs.Headers.{header_of_words, rest_after_prefix, bytes_at, number_at, word_at, ◌>>=◌}
pub use Rattle.mm_schedule.specs.Replies.{IsEventRun, ModulePromises, IsPrintable, cause_text, way_text}
pub use Rattle.mm_schedule.specs.declared.event.Offer.{Offer}
pub use Rattle.mm_schedule.specs.declared.event.Offer.TheVariants.{Flip, Last, Number, Raw}
pub use Rattle.mm_schedule.specs.declared.header.Header.{Header}
pub use Rattle.mm_schedule.specs.declared.reply.Reply.{Reply}
pub use Rattle.mm_outcome.specs.Premises.{Outcome, cause_of, course_of, way_of}
pub use Rattle.mm_outcome.specs.OneRun.{rising_bytes_from, world_barrier, world_key}
pub use Rattle.mm_sides.specs.BothSides.{BothSides, First, Pair, Second, SideState, SideName, digest_mover, sides_seen_from}
pub use Rattle.mm_sides.specs.BothSides.{first_both_by_digests, first_both_by_lists, instance_on, Accept, Already, MoveCommand, FoundMove}
pub use Rattle.mm_sides.specs.BothSides.{Gone, Invite, DenialCause, Nonce, Open, Retire, Blank, Effect, Enters, Invites, Leaves, Live}
pub use Rattle.mm_sides.specs.BothSides.{Retired, Retired as Left, Role, Waiting, Waiting as Waits, is_live, no_notes}
pub use Rattle.mm_sides.specs.Folds.{BothAct, BothEvent, BothRunOutcome, BothOutcome, BothReply, Moves, Plain, both_outcome_by_digests}
pub use Rattle.mm_sides.specs.Folds.{both_outcome_by_lists, both_outcome_of_events, both_outcome, commits_between, is_moved, move_outcome}
pub use Rattle.mm_sides.specs.Folds.{outcome_here, outcome_by_role, stopped_moves}
pub use Rattle.mm_sides.specs.Laws.{IsOneLiveFrom, both_outcome_joined, plain_events, plain_replies}
pub use Rattle.mm_sides.specs.Order.{AreNotBothLive}
pub use Rattle.mm_sides.specs.Premises.{IsClearPair, IsFreshPair, IsGenuinePair}
pub use Rattle.mm_world.specs.Calls.{stopped_step, takes_effect}
pub use Rattle.mm_world.specs.WorldStanding.{digest_in, flag_in, value_in, IsQuiet}
pub use Rattle.mm_replay.specs.Schedule.{text_of_replies}
pub use Rattle.mm_play.specs.declared.player.LineRefusal.{LineRefusal}
pub use Rattle.mm_play.specs.declared.player.LineRefusal.TheVariants.{Bad, Much}
pub use Rattle.mm_play.specs.declared.player.ReplyFault.{ReplyFault}
