-- The words and laws that the proofs of this crate take from specs/ and from the crates below.
pub use Rattle.std.specs.Bool.{Decides}
pub use Rattle.std.specs.List.{AllByRecursion, Contains, flat_map, list_any}
pub use Rattle.std.specs.Prelude.{if◌then◌else◌, IsTrue, nat_eq, Vec}
pub use Rattle.std.specs.Str.{bytes_eq}
pub use Rattle.std.proofs.Common.{◌&&◌, ◌++◌, ◌+◌, ◌-◌, ◌<◌, ◌||◌, ◌∙◌, ◌∷◌, ◌≡◌, ◌≤◌, ◌⊎◌, [], ap, append_assoc, arith, Bool, drop, false}
pub use Rattle.std.proofs.Common.{get_or, inl, inr, length, length-append, List, map, refl, subst, suc, sym, take, true, zero, ℕ}
pub use Rattle.std.proofs.lemmas.Bool.{and_from, and_parts, or_parts}
pub use Rattle.std.proofs.lemmas.List.{append-nil, append_cancel_right, drop-append-le, drop_at, drop_more, length-drop, length-map}
pub use Rattle.std.proofs.lemmas.List.{map-append, nil_from_length, take-append-le, take_all, take_at}
pub use Rattle.mm_digest.specs.Messages.{anchored_message, anchored_digest_of, extended_message, start_message, start_digest_of, zero_bytes}
pub use Rattle.mm_digest.specs.declared.variant.Variant.TheVariants.{Basic, Opt}
pub use Rattle.mm_seal.specs.Snapshot.{Content}
pub use Rattle.mm_seal.specs.declared.snapshot.Place.{Place}
pub use Rattle.mm_seal.specs.declared.snapshot.Place.TheVariants.{Basic as InBasic, Opt as InOpt}
pub use Rattle.mm_module.specs.Batch.{Batch, size_of}
pub use Rattle.mm_module.specs.Meaning.{IsLawful, Meaning, state_after}
pub use Rattle.mm_model.specs.BatchLaws.{basic_here, basic_stands, verdicts, at_the_end, before_the_last, is_same_batch-Decides, same_tests}
pub use Rattle.mm_model.specs.BatchLaws.{total-push}
pub use Rattle.mm_model.specs.ListLaws.{trail_front, trail_push, anchor-push, register-push, register_folds, same_own_values, summary-push}
pub use Rattle.mm_model.specs.ListLaws.{each_append, each_left, each_right}
pub use Rattle.mm_model.specs.Chains.{anchor_of, closing_message, guard, guard_message, register_of, summary_of, own_values, Instance}
pub use Rattle.mm_model.specs.Chains.{basic_instance, opt_instance}
pub use Rattle.mm_model.specs.FormLaws.{ended, again_tells, IsClearFromStart, fresh_tells, HasListedMessages, listed_segment, listed_value}
pub use Rattle.mm_model.specs.FormLaws.{point_of, reads_zero, zero_register}
pub use Rattle.mm_model.specs.History.{Close, Commit, history_after_commit, RegisterEntry, Foreign, History, items_of_all, Move}
pub use Rattle.mm_model.specs.History.{history_after, Own, Placed, Power, register_value_of, entries_with_last_batch, Reset, total_of}
pub use Rattle.mm_model.specs.History.{Value, extension_value, cell_digest_of, values_of}
pub use Rattle.mm_model.specs.SegmentLaws.{batches_in-append, has_value-append, joined-values, length-batches_in, meets, own_values-append}
pub use Rattle.mm_model.specs.SegmentLaws.{register_more, renamed-push, sooner, values_of-append, values_of-clean, values_of-own}
pub use Rattle.mm_model.specs.SegmentLaws.{values_renamed, IsAgainPath, again_from, again_joins, IsAgainSomehow, IsFreshPath, fresh_from}
pub use Rattle.mm_model.specs.SegmentLaws.{fresh_joins, IsFreshSomehow, IsHeld, joined-append, joined-push, PathReaches, same_halves}
pub use Rattle.mm_model.specs.SegmentLaws.{items_taken_in, true_not_false}
pub use Rattle.mm_model.specs.Verdicts.{is_repeat_form, is_fresh_form, forms_of, is_last, verdict_on, verdict_by_tests, opt_verdict, Point}
pub use Rattle.mm_model.specs.Verdicts.{verdict_by, verdict_by_digests, kept_batch, kept_batches, kept_entries, kept_entry, kept_segments}
pub use Rattle.mm_model.specs.Standing.{are_own, has_value, is_empty, is_lost as is_lost_life, Life, life_by, life_of, Live, Lost}
pub use Rattle.mm_model.specs.Standing.{is_same_batch, Spoiled, anchor_after, at_anchor, in_closed, in_current, IsClosedPoint}
pub use Rattle.mm_model.specs.Standing.{IsCurrentPoint, IsPlaceOf, IsPoint, content_of_issue, issued_place, NamesPosition, AreItems}
pub use Rattle.mm_model.specs.Standing.{batches_in, IsClean, IsMarred, IsSound}
pub use Rattle.mm_model.specs.Messages.{AreNoGuards, closed_runs, counted_entries, form_messages, history_messages, IsClear, IsClearFor}
pub use Rattle.mm_model.specs.Messages.{messages_of, point_messages, register_trail, runs_of, values_in, AreMessagesIn}
pub use Rattle.mm_model.specs.Moves.{batch_messages, MoveBrings, digests_after_commit, Digests, digests_of, IsAllowed, IsOpening, IsOutside}
pub use Rattle.mm_model.specs.Moves.{digests_after, MayMove}
