-- The words and laws that the proofs of this crate take from specs/ and from the crates below.
pub use Rattle.std.specs.List.{list_any, sum_by}
pub use Rattle.std.specs.Prelude.{◌&&◌, ◌==◌, ◌||◌, ◌≢◌, ◌⊎◌, codes, IfOk, if◌then◌else◌, is_some, MatchResult, not, OnErr, OnOk}
pub use Rattle.std.specs.Str.{bytes_eq}
pub use Rattle.std.proofs.Common.{◌++◌, ◌+◌, ◌<◌, ◌^◌, ◌∙◌, ◌∷◌, ◌≡◌, ◌≤◌, [], ap, append_assoc, arith, Bool, Err, false, get_or, inl, inr}
pub use Rattle.std.proofs.Common.{IsErr, length, length-append, List, map, None, Ok, Option, refl, Result, Some, subst, sym, true, ℕ}
pub use Rattle.std.proofs.lemmas.List.{append-nil}
pub use Rattle.mm_bytes.specs.declared.fault.Memory.{Memory}
pub use Rattle.mm_digest.specs.Messages.{anchored_digest_of, start_digest_of, zero_bytes}
pub use Rattle.mm_digest.specs.declared.variant.Variant.{Variant}
pub use Rattle.mm_digest.specs.declared.variant.Variant.TheVariants.{Basic, Opt}
pub use Rattle.mm_seal.specs.Cell.{blank_cell, cell_spelling, FitsVariant, IsNoCell}
pub use Rattle.mm_seal.specs.Parts.{parts_of}
pub use Rattle.mm_seal.specs.Snapshot.{Content, IsPlace, sealed_snapshot_of, Snapshot, tag_of, variant_of}
pub use Rattle.mm_seal.specs.declared.cell.CellFault.{CellFault}
pub use Rattle.mm_seal.specs.declared.snapshot.PartsFault.{PartsFault}
pub use Rattle.mm_seal.specs.declared.snapshot.PartsFault.TheVariants.{Form, Kind}
pub use Rattle.mm_seal.specs.declared.snapshot.Place.{Place}
pub use Rattle.mm_seal.specs.declared.snapshot.Place.TheVariants.{Basic as InBasic, Opt as InOpt}
pub use Rattle.mm_platform.specs.Standing.{foreign_item, Item, item_values, Plan, plan_after, register_after, Standing, Act, cell_after}
pub use Rattle.mm_platform.specs.Standing.{DeviceStepEnds, fault_at, StepGoes, is_made_at, is_on_at, items_after, items_after_cycle}
pub use Rattle.mm_platform.specs.Standing.{ReadCell, fault_by_plan, is_made_by_plan, is_on_by_plan, values_by_plan, WriteCell}
pub use Rattle.mm_platform.specs.declared.fault.StepFault.{StepFault}
pub use Rattle.mm_platform.specs.declared.plan.Meddle.{Meddle}
pub use Rattle.mm_platform.specs.declared.plan.Stop.{Stop}
pub use Rattle.mm_module.specs.Batch.{Batch, One}
pub use Rattle.mm_module.specs.Meaning.{IsLawful, Meaning}
pub use Rattle.mm_modules.specs.Modules.{meaning_of}
pub use Rattle.mm_model.specs.History.{Commit, first_history, Foreign, History, Move, Power as PowerMove, requests_of, Reads, DeviceStep}
pub use Rattle.mm_model.specs.Chains.{Instance}
pub use Rattle.mm_model.specs.Moves.{Digests, digests_after}
pub use Rattle.mm_model.specs.Standing.{digest_of, cell_of, issued_bytes, register_reading}
pub use Rattle.mm_model.specs.declared.refusal.Refusal.{Refusal}
pub use Rattle.mm_call.specs.CallOutcome.{call_outcome_by, reading_steps, walk_from_step, has_commit, Done, End, Fails, StepFate}
pub use Rattle.mm_call.specs.CallOutcome.{fate_by_plan, moves_seen, walk, StepsWalk, end_of}
pub use Rattle.mm_call.specs.CallFinding.{state_after_moves, digest_level, check_by_tests}
pub use Rattle.mm_call.specs.Standing.{cell_at, instance_by, items_after_moves}
pub use Rattle.mm_move.specs.Cells.{IsWaiting, moved_cell_of, retired_spelling, waiting_spelling, move_fault_in, move_fault_of}
pub use Rattle.mm_move.specs.Cells.{IsOrNoMemory, refusal_if}
pub use Rattle.mm_move.specs.Orders.{acceptance_of, acceptance_in, acceptance_by, barrier_of, acceptance_again_by, invitation_in, is_barred}
pub use Rattle.mm_move.specs.Orders.{is_other, retirement_by, offer_by, retirement_in, is_same_waiting, is_place_at, ticket_for}
pub use Rattle.mm_move.specs.Orders.{waiting_for}
pub use Rattle.mm_move.specs.Tickets.{IsTicket, place_at, sealed_ticket, SpellsTicket, summary_in, TaggedTicket, ticket_of, TicketContent}
pub use Rattle.mm_move.specs.declared.cell.MovedCell.{MovedCell}
pub use Rattle.mm_move.specs.declared.cell.WaitingCell.{WaitingCell}
pub use Rattle.mm_move.specs.declared.inviting.Invited.{Invited}
pub use Rattle.mm_move.specs.declared.link.Link.{Link}
pub use Rattle.mm_move.specs.declared.ready.ReadyMove.{ReadyMove}
pub use Rattle.mm_move.specs.declared.refusal.MoveRefusal.{MoveRefusal}
pub use Rattle.mm_move.proofs.Above.{accepts_no_fault, blank_read, bytes_are, bytes_tell, eq_is, length-zero_bytes, moved_back}
pub use Rattle.mm_move.proofs.Above.{retires_no_fault, three, tickets_are_read}
pub use Rattle.mm_schedule.specs.Events.{Ask, Checkpoint, Event, Extend, meddles_of, Power}
pub use Rattle.mm_schedule.specs.Replies.{IsPrintable}
pub use Rattle.mm_schedule.specs.declared.event.Offer.{Offer}
pub use Rattle.mm_schedule.specs.declared.header.Header.{Header}
pub use Rattle.mm_schedule.specs.declared.reply.Reply.{Reply}
pub use Rattle.mm_schedule.proofs.Above.{promises-kept}
pub use Rattle.mm_outcome.specs.Premises.{moves_after_stop, vain_ask_outcome, course_of, vain_event_outcome, event_outcome, first_digests}
pub use Rattle.mm_outcome.specs.Premises.{Outcome, outcome_by, read_only_outcome, outcome_without_call, way_of, plan_of}
pub use Rattle.mm_outcome.proofs.Above.{broken_reply}
pub use Rattle.mm_outcome.specs.OneRun.{world_barrier, world_key}
pub use Rattle.mm_outcome.specs.EventOffers.{offered_bytes}
pub use Rattle.mm_outcome.proofs.Above.{few_committed, issues_one, printable}
pub use Rattle.mm_sides.specs.BothSides.{BothSides, digest_mover, First, first_both_by_digests, first_both_by_lists, instance_on, key_of}
pub use Rattle.mm_sides.specs.BothSides.{list_mover, Pair, Second, SideState, sides_swapped, SideName, history_now, Accept, acceptance_on}
pub use Rattle.mm_sides.specs.BothSides.{MoveCommand, repeated_entry, entry_by_ticket, FoundMove, Gone, Invite, invitation_on}
pub use Rattle.mm_sides.specs.BothSides.{found_retirement_by, DenialCause, retirement_with, Open, Refused, Retire, retirement_on}
pub use Rattle.mm_sides.specs.BothSides.{is_offer_here, ticket_by, ticket_in, verdict_here, Blank, Effect, Enters, Invites, is_live, Leaves}
pub use Rattle.mm_sides.specs.BothSides.{Live, no_notes, MoveNotes, Retired, Retired as Left, Role, role_after, Waiting, Waiting as Waits}
pub use Rattle.mm_sides.specs.Folds.{found_acceptance, sides_after_effect_if, both_outcome_by_digests, both_outcome_by_lists}
pub use Rattle.mm_sides.specs.Folds.{both_outcome_of_events, both_outcome, BothEvent, BothRunOutcome, BothReply, state_after_steps, Denied}
pub use Rattle.mm_sides.specs.Folds.{effect_if, effect_of, found_command, commits_between, is_moved, is_written, move_end_outcome}
pub use Rattle.mm_sides.specs.Folds.{move_outcome, move_steps, outcome_if_found, Moves, notes_with_effect_if, outcome_by_role}
pub use Rattle.mm_sides.specs.Folds.{sides_after_issue, refusal_for_role, found_retirement, stopped_moves, effect_reply, unissued_reply}
pub use Rattle.mm_sides.specs.Laws.{IsOneLiveFrom, OneIsLive, PairsAgreeThroughout, plain_events, plain_replies}
pub use Rattle.mm_sides.specs.Laws.{SidesRunAsOne}
pub use Rattle.mm_sides.proofs.Above.{any_value, AreOuter, foreign_outer, found_outer, IsOuter, stop_outer, stopped_outer}
pub use Rattle.mm_world.specs.Calls.{is_cut, SettlesPlan, takes_effect}
pub use Rattle.mm_world.specs.WorldStanding.{digest_in, value_in, IsRead, IsQuiet, HasDigests}
pub use Rattle.mm_world.specs.Lengths.{within_64}
pub use Rattle.mm_world.proofs.Above.{digests_are, kept_more, on_settled, power_if, reads_none, reads_shown, register_at, stands_new}
pub use Rattle.mm_world.proofs.Above.{stop_power, stopped_at}
pub use Rattle.mm_play.proofs.Above.{events_err, events_ok, plays_err, unrefused}
pub use Rattle.mm_transfer.specs.SideCommands.{both_with, command_reach, CommandDone, outcome_of_command, CommandLacks, CommandGoes}
pub use Rattle.mm_transfer.specs.SideCommands.{TellsEntry, FitsIssuedTickets, has_moved, TellsInvitation, KeepsDigest, TellsRetirement}
pub use Rattle.mm_transfer.specs.SideCommands.{TellsRefusalAs, at_by, at_in, SideComes, FitsSide, IsNew, SideLacks, link_of, role_in}
pub use Rattle.mm_transfer.specs.SideCommands.{role_of, side_in, StandsAs, pair_of}
pub use Rattle.mm_transfer.specs.Events.{act_of, command_of, side_event_of, which_of}
pub use Rattle.mm_transfer.specs.Stage.{IsOneTransfer, first_transfer, both_end_line, kept_size_of, transfer_steps, TransferState}
pub use Rattle.mm_transfer.specs.Stage.{transfer_text}
pub use Rattle.mm_transfer.specs.MovePlan.{move_answer_of, MoveEnds, later_steps, MakesMove, has_effect_at, MovesByPlan, WantsMemory}
pub use Rattle.mm_transfer.specs.MovePlan.{bytes_after_move, bytes_if_written, IsSayable, move_reply_of}
pub use Rattle.mm_transfer.specs.RoleCells.{cell_of_role, FitsCell, FitsEffect, FitsLive, FitsRole, GivesEntry, GivesEntryBy, GivesInvited}
pub use Rattle.mm_transfer.specs.RoleCells.{GivesInvitedBy, GivesTicket, GivesTicketBy, IsSaid, MatchesRole, next_cell_if, refusal_of}
pub use Rattle.mm_transfer.specs.RoleCells.{retired_cell_at, digests_after_move, waiting_cell_at}
pub use Rattle.mm_transfer.specs.declared.between.IssuedTickets.{IssuedTickets}
pub use Rattle.mm_transfer.specs.declared.reply.MoveReply.{MoveReply}
pub use Rattle.mm_transfer.specs.declared.side.Side.{Side as CodeSide}
pub use Rattle.mm_transfer.specs.declared.sides.Sides.TheInside.{Inside}
