-- The words and laws that the proofs of this crate take from specs/ and from the crates below.
pub use Rattle.std.specs.List.{flat_map, slice_get, sum_by}
pub use Rattle.std.specs.Option.{option_map, option_map_or}
pub use Rattle.std.specs.Prelude.{codes, IfOk, if◌then◌else◌, OnErr, OnOk, option_to_list, Result, vec_capacity}
pub use Rattle.std.proofs.Common.{◌*◌, ◌++◌, ◌+◌, ◌-◌, ◌<◌, ◌==◌, ◌^◌, ◌||◌, ◌∙◌, ◌∷◌, ◌≡◌, ◌≤◌, ◌⊎◌, [], ap, append-nil, ap₂, arith, Bool}
pub use Rattle.std.proofs.Common.{cond, drop, Err, false, get_or, inl, inr, IsSome, length, List, map, nat_le, nat_lt, None, Ok, Option}
pub use Rattle.std.proofs.Common.{refl, rules, slice_set, Some, subst, suc, sym, take, true, zero, ℕ}
pub use Rattle.std.proofs.lemmas.Bool.{eq-eqb, eqb-true, ne_eqb}
pub use Rattle.std.proofs.lemmas.Bool.Decides.{nat_tests}
pub use Rattle.std.proofs.lemmas.Grind.{flat_map-append}
pub use Rattle.std.proofs.lemmas.List.{append_assoc, drop-set-lt, drop_more, length-take-le, map-append, take_more, take_more_set}
pub use Rattle.std.proofs.lemmas.Option.{slice_get-get_or}
pub use Rattle.mm_bytes.specs.Limits.{longest_line, most_events, most_members}
pub use Rattle.mm_digest.specs.declared.variant.Variant.{Variant}
pub use Rattle.mm_digest.specs.declared.variant.Variant.TheVariants.{Basic, Opt}
pub use Rattle.mm_seal.specs.Cell.{cell_spelling}
pub use Rattle.mm_platform.specs.Memory.{standing_after_cycle, plan_with_meddle, new_platform}
pub use Rattle.mm_platform.specs.Standing.{Item, item_values, next_step, Plan, register_after, Standing, next_plan, quiet_plan}
pub use Rattle.mm_platform.specs.declared.plan.Meddle.{Meddle}
pub use Rattle.mm_platform.specs.declared.plan.Stop.{Stop}
pub use Rattle.mm_platform.specs.declared.plan.Stop.TheVariants.{Quiet}
pub use Rattle.mm_module.specs.Batch.{Batch, One}
pub use Rattle.mm_module.specs.Meaning.{IsLawful, Meaning}
pub use Rattle.mm_modules.specs.Modules.{meaning_of}
pub use Rattle.mm_model.specs.History.{first_history, Foreign, Move, Power as PowerMove, requests_of}
pub use Rattle.mm_model.specs.Chains.{Instance}
pub use Rattle.mm_model.specs.Moves.{is_long, Digests, digests_after}
pub use Rattle.mm_model.specs.Standing.{cell_of, issued_bytes, register_reading}
pub use Rattle.mm_call.specs.CallFinding.{state_after_moves, digest_level}
pub use Rattle.mm_call.specs.Standing.{cell_at, instance_by}
pub use Rattle.mm_schedule.specs.Events.{Ask, Event, Extend}
pub use Rattle.mm_schedule.specs.Replies.{IsEventRun}
pub use Rattle.mm_schedule.specs.Headers.{◌>>=◌, rest_after_prefix, number_at, word_at}
pub use Rattle.mm_schedule.specs.declared.event.Offer.{Offer}
pub use Rattle.mm_schedule.specs.declared.header.Header.{Header}
pub use Rattle.mm_schedule.specs.declared.reply.Reply.{Reply}
pub use Rattle.mm_schedule.proofs.Above.{promises-kept}
pub use Rattle.mm_flight.specs.Flight.{plan_by}
pub use Rattle.mm_flight.proofs.Above.{meddled}
pub use Rattle.mm_outcome.specs.Premises.{course_of, outcome_by_lists, first_digests, RunOutcome, outcome_of_events, Outcome}
pub use Rattle.mm_outcome.specs.Premises.{outcome_by_digests}
pub use Rattle.mm_outcome.specs.OneRun.{rising_bytes_from}
pub use Rattle.mm_outcome.specs.EventOffers.{offered_bytes}
pub use Rattle.mm_outcome.proofs.Above.{few_committed, issues_one, printable}
pub use Rattle.mm_world.specs.WorldStanding.{CallComesTo, quiet_call, digest_in, flag_in, value_in, IsQuiet, HasDigests}
pub use Rattle.mm_world.specs.declared.call.CallReport.{CallReport}
pub use Rattle.mm_world.proofs.Above.{count_none, counting, digests_are, stands_extended, stands_new, stands_settled}
pub use Rattle.mm_steps.specs.FlightKind.{is_nothing, stop_behind, FlightBreaksAs, MayStepOn, FlightStepsAs}
pub use Rattle.mm_steps.proofs.Above.{asks_begun, asks_broken_off, asks_stepped, closes_begun, closes_broken_off, closes_stepped}
pub use Rattle.mm_steps.proofs.Above.{flight_takes_in, may_take_in}
pub use Rattle.mm_play.proofs.Above.{events_err, events_ok, plays_err, unrefused}
pub use Rattle.mm_slots.specs.Table.{answer_text, answers_text, end_lines, IsSayable, slot_end_line, RowActs, SlotActsAt, CanCount}
pub use Rattle.mm_slots.specs.Table.{IsCounted, IsInside, IsWithin, KeepsAll, RowLacksMemory, meetings_at, losses_of_others, EventTells}
pub use Rattle.mm_slots.specs.Table.{rows_after_meetings, rows_after_event, rows_after_all, SlotAnswer, answers, answers_to, items_by_place}
pub use Rattle.mm_slots.specs.Table.{is_cut_for_all, first_row, first_rows, RowsLackMemory, instance_of, is_cut, slot_meetings}
pub use Rattle.mm_slots.specs.Table.{event_meetings, PowerLost, Row, row_after, slot_replies_at, slot_replies_for, Says, OneRowLacksMemory}
pub use Rattle.mm_slots.specs.Stage.{action_at, event_at, ReportsSlots, slots_after_cycle, selected_standing, Slots, kept_bytes_in}
pub use Rattle.mm_slots.specs.Stage.{slots_steps, SlotsState}
pub use Rattle.mm_slots.specs.HeldParts.{call_in, SlotComesTo, digests_in, PartsFit, FitsCall, FitsFlight, flight_in, parts_with_flight}
pub use Rattle.mm_slots.specs.HeldParts.{SlotTakes}
pub use Rattle.mm_slots.specs.HeldParts.{SlotGoesOn, HasRegister, instance_in, CallEndsIn, SlotLacksMemory, SlotLosesPower, row_in, slot_in}
pub use Rattle.mm_world.specs.Lengths.{within_64}
pub use Rattle.mm_slots.specs.Laws.{SlotIsOneRun, SlotsAreAlone, SlotsRun}
pub use Rattle.mm_world.specs.Seat.{extended_standing, IsFirst, SeatStaysOn}
pub use Rattle.mm_slots.specs.Tenant.{turn_by_action, turn_in_flight, Acts, Asks, first_flight, begin_turn, SlotCall, Closes, event_by}
pub use Rattle.mm_slots.specs.Tenant.{first_tenant, Flight, tenant_with_flight, turn_over_all, flight_with_meddle, Loses, turn_saying}
pub use Rattle.mm_slots.specs.Tenant.{Meeting, outcome_in, event_turn, Tenant, tenant_instance, event_so_far, step_turn, stop_at, SlotTurn}
pub use Rattle.mm_slots.specs.Tenant.{turn_by_met, power_turn, ActionLacksMemory}
pub use Rattle.mm_slots.specs.declared.event.SlotAction.{SlotAction}
pub use Rattle.mm_slots.specs.declared.event.SlotEvent.{SlotEvent}
pub use Rattle.mm_slots.specs.declared.event.SlotEvent.TheVariants.{At, Power}
pub use Rattle.mm_slots.specs.declared.flight.AskInFlight.{AskInFlight}
pub use Rattle.mm_slots.specs.declared.flight.CheckpointInFlight.{CheckpointInFlight}
pub use Rattle.mm_slots.specs.declared.flight.Flight.{Flight as CodeFlight}
pub use Rattle.mm_slots.specs.declared.parts.Parts.{Parts}
pub use Rattle.mm_slots.specs.declared.said.SlotReply.{SlotReply}
pub use Rattle.mm_slots.specs.declared.said.SlotReply.TheVariants.{Begun, Going, Replied}
