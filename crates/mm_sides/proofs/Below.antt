-- The words and laws that the proofs of this crate take from specs/ and from the crates below.
pub use Rattle.std.specs.List.{AllByRecursion, Contains}
pub use Rattle.std.specs.Prelude.{◌==◌, filter, if◌then◌else◌, nat_eq}
pub use Rattle.std.specs.Str.{bytes_eq}
pub use Rattle.std.proofs.Common.{◌&&◌, ◌++◌, ◌+◌, ◌-◌, ◌∙◌, ◌∷◌, ◌≡◌, ◌≤◌, [], ap, arith, Bool, Err, false, inl, inr, length}
pub use Rattle.std.proofs.Common.{length-append, List, map, None, Ok, Option, refl, Result, Some, subst, sym, true, ℕ}
pub use Rattle.std.proofs.lemmas.List.{append-nil, map-append}
pub use Rattle.std.proofs.lemmas.List.Elements.{All-contains, All-from_recursion, Contains-append_left, Contains-push, Contains-push_cases}
pub use Rattle.std.proofs.lemmas.Slice.Eq.{bytes_eq-Decides}
pub use Rattle.mm_digest.specs.Messages.{anchored_message, start_message, zero_bytes}
pub use Rattle.mm_digest.specs.declared.variant.Variant.{Variant}
pub use Rattle.mm_digest.specs.declared.variant.Variant.TheVariants.{Basic, Opt}
pub use Rattle.mm_seal.specs.Parts.{parts_of}
pub use Rattle.mm_seal.specs.Snapshot.{Content, IsContent, offered_snapshot_of, sealed_snapshot_of, Snapshot, tag_of, variant_of}
pub use Rattle.mm_seal.specs.declared.snapshot.PartsFault.{PartsFault}
pub use Rattle.mm_seal.specs.declared.snapshot.PartsFault.TheVariants.{Form, Kind}
pub use Rattle.mm_platform.specs.declared.fault.StepFault.{StepFault}
pub use Rattle.mm_platform.specs.declared.plan.Meddle.{Meddle}
pub use Rattle.mm_platform.specs.declared.plan.Stop.{Stop}
pub use Rattle.mm_platform.specs.declared.plan.Stop.TheVariants.{Cut, Quiet}
pub use Rattle.mm_module.specs.Batch.{Batch, members_of, One, size_of}
pub use Rattle.mm_module.specs.Meaning.{Meaning, state_after}
pub use Rattle.mm_model.specs.History.{RegisterEntry, first_history, Foreign, History, items_of_all, Move, history_after}
pub use Rattle.mm_model.specs.History.{Power as PowerMove, register_value_of, requests_of, total_of, Reads}
pub use Rattle.mm_model.specs.Chains.{Instance, basic_instance, opt_instance}
pub use Rattle.mm_model.specs.Standing.{are_own, has_value, is_empty, Life, life_by, life_of, Live as LiveHistory, anchor_after, IsPlaceOf}
pub use Rattle.mm_model.specs.Standing.{IsPoint, content_of_issue, issued_place, NamesPosition, flag_of, IsGenuine}
pub use Rattle.mm_model.specs.ListLaws.{each_append, each_left, each_right, each_self}
pub use Rattle.mm_model.specs.Moves.{is_long, Digests, digests_after}
pub use Rattle.mm_model.specs.Messages.{AreNoGuards, counted_entries, history_messages, IsClear, messages_for_move, values_in}
pub use Rattle.mm_model.specs.Messages.{AreMessagesIn, is_new, place_messages}
pub use Rattle.mm_model.specs.declared.refusal.Refusal.{Refusal}
pub use Rattle.mm_model.proofs.Above.{basic_issued, basic_stands_here, opt_issued, opt_stands_here, point_kept}
pub use Rattle.mm_call.specs.CallPremises.{IsLedTo, IsWithin, messages_of_moves}
pub use Rattle.mm_call.specs.CallOutcome.{call_outcome_by, walk_from_step, has_commit, Done, End, Fails, StepFate, walk, StepsWalk}
pub use Rattle.mm_call.specs.CallFinding.{right_content, DigestsAgree, state_after_moves, digest_level, list_level, check_by_tests}
pub use Rattle.mm_call.specs.Standing.{instance_by}
pub use Rattle.mm_call.specs.OfferLaws.{verdict_of_acceptance as accepting_verdict, weighed_alike, weighed_only}
pub use Rattle.mm_call.proofs.Above.{lives, plain_outside, sound_shut, within_items}
pub use Rattle.mm_move.specs.Tickets.{IsTicket, place_at, summary_in, TaggedTicket, ticket_of, ticket_tag, TicketContent}
pub use Rattle.mm_move.proofs.Above.{bytes_are, tickets_are_read}
pub use Rattle.mm_schedule.specs.Events.{Ask, Checkpoint, Event, Extend, Power}
pub use Rattle.mm_outcome.specs.Premises.{moves_after_stop, vain_ask_outcome, course_of, vain_event_outcome, event_outcome, first_digests}
pub use Rattle.mm_outcome.specs.Premises.{Outcome, outcome_by, read_only_outcome, outcome_without_call, way_of, batches_of, event_messages}
pub use Rattle.mm_outcome.specs.Premises.{event_foreign_values, moves_of, AreApartIn, run_messages}
pub use Rattle.mm_outcome.specs.Laws.{IsIssued, one_ask}
pub use Rattle.mm_outcome.specs.EventOffers.{offered_bytes}
pub use Rattle.mm_outcome.specs.OneRun.{EventsAgree, EventsKeepNames, IsSoundIn, KeepsHistory}
pub use Rattle.mm_outcome.proofs.Above.{basic_begins, opt_begins, anchor_nil, basic_events_agree, basic_events_keep_names, clear_within}
pub use Rattle.mm_outcome.proofs.Above.{event_steps, opt_events_agree, opt_events_keep_names}
pub use Rattle.mm_sides.specs.BothSides.{BothSides, digest_mover, First, first_both_by_digests, first_both_by_lists, instance_on, key_of}
pub use Rattle.mm_sides.specs.BothSides.{list_mover, Mover, Pair, Second, SideState, sides_swapped, SideName, history_at, history_now}
pub use Rattle.mm_sides.specs.BothSides.{Accept, acceptance_on, Already, MoveCommand, repeated_entry, entry_by_ticket, FoundMove, Gone}
pub use Rattle.mm_sides.specs.BothSides.{Invite, invitation_on, found_retirement_by, DenialCause, Nonce, retirement_with, Open, Refused}
pub use Rattle.mm_sides.specs.BothSides.{Retire, retirement_on, is_offer_here, ticket_in, verdict_here, Blank, Effect, Enters, Invites}
pub use Rattle.mm_sides.specs.BothSides.{is_live, Leaves, Live, no_notes, notes_with_effect, MoveNotes, Retired, Role, Waiting}
pub use Rattle.mm_sides.specs.Folds.{found_acceptance, BothAct, sides_after_effect_if, both_outcome_by_lists, both_outcome_of_events}
pub use Rattle.mm_sides.specs.Folds.{both_outcome, BothEvent, BothRunOutcome, BothOutcome, BothReply, state_after_steps, effect_if}
pub use Rattle.mm_sides.specs.Folds.{effect_of, Entered, found_command, sides_after_issue, Invited, is_moved, Left, move_end_outcome}
pub use Rattle.mm_sides.specs.Folds.{move_steps, outcome_of_found_move, outcome_if_found, Moves, notes_with_effect_if, outcome_here, Plain}
pub use Rattle.mm_sides.specs.Folds.{plain_outcome, refusal_for_role, found_retirement, Said, stopped_moves, effect_reply, unissued_reply}
pub use Rattle.mm_sides.specs.Laws.{both_outcome_joined, counters, ModuleEntersAlone, IsOneLiveFrom, MovesOnce, one_move}
pub use Rattle.mm_sides.specs.Laws.{OneIsLive, PairsAgree, PairsAgreeThroughout, PairsGoOn, plain_events, plain_events_in, plain_replies}
pub use Rattle.mm_sides.specs.Laws.{plain_reply, SidesIssueNames, SidesRunAsOne, SnapshotsName}
pub use Rattle.mm_sides.specs.Order.{AreInOrder, AreNotBothLive, away, ModuleEntersByLast, here, IsAwaited, IsFreshEffect, IsLastTicket}
pub use Rattle.mm_sides.specs.Order.{IsSomewhere, MayTake, nonces_of, RolesAreOne, RolesBegin, RolesEnterLast, RolesGoOn, RolesSwap, there}
pub use Rattle.mm_sides.specs.Order.{WaitApart, WaitsElse}
pub use Rattle.mm_sides.specs.Premises.{AreFreshFrom, AreGenuineFrom, batches_in, both_batches, both_event_messages, both_messages}
pub use Rattle.mm_sides.specs.Premises.{both_messages_from, both_foreign_values, messages_of_closing, command_messages, found_moves}
pub use Rattle.mm_sides.specs.Premises.{IsGenuineCommand, IsGenuineHere, IsGenuineIn, IsGenuineTo, IsNew, IsOurs, IsOursFor, IsOursIn}
pub use Rattle.mm_sides.specs.Premises.{IsOursOffered, messages_here, offer_closing_messages, others_values_in, plain_messages, read_moves}
pub use Rattle.mm_sides.specs.Premises.{vain_ask_moves, vain_moves}
