-- The words and laws that the proofs of this crate take from specs/ and from the crates below.
pub use Rattle.std.specs.List.{concat, slice_get, sum_by}
pub use Rattle.std.proofs.Common.{◌*◌, ◌++◌, ◌+◌, ◌-◌, ◌<◌, ◌^◌, ◌∙◌, ◌∷◌, ◌≡◌, ◌≤◌, [], add-one, ap, append-nil, append_assoc, arith, drop}
pub use Rattle.std.proofs.Common.{drop-cons, inl, inr, length, List, map, None, Option, refl, Some, subst, suc, sym, ℕ}
pub use Rattle.std.proofs.lemmas.Option.{get_or_from_slice_get, slice_get_within}
pub use Rattle.mm_platform.specs.declared.plan.Meddle.{Meddle}
pub use Rattle.mm_platform.specs.declared.plan.Stop.{Stop}
pub use Rattle.mm_model.specs.Moves.{Digests}
pub use Rattle.mm_call.specs.CallOutcome.{reading_steps}
pub use Rattle.mm_call.specs.CallFinding.{digest_level}
pub use Rattle.mm_schedule.specs.Events.{Ask, Event, Power}
pub use Rattle.mm_schedule.specs.Replies.{end_line, lines_of_reply}
pub use Rattle.mm_schedule.specs.declared.header.Header.{Header}
pub use Rattle.mm_schedule.specs.declared.reply.Reply.{Reply}
pub use Rattle.mm_schedule.proofs.Above.{promises-kept}
pub use Rattle.mm_outcome.specs.Premises.{course_of, RunOutcome, outcome_of_events, outcome_by_digests}
pub use Rattle.mm_outcome.specs.OneRun.{WorldFollows, world_after_reading, WorldState, instance_of, WorldLacksMemory, world_of}
pub use Rattle.mm_outcome.proofs.Above.{meaning_by}
pub use Rattle.mm_world.proofs.Above.{count_none}
pub use Rattle.mm_play.proofs.Above.{events_err, events_ok, plays_err, unrefused}
pub use Rattle.std.specs.Option.{option_map}
