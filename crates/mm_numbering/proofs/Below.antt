-- The words and laws that the proofs of this crate take from specs/ and from the crates below.
pub use Rattle.std.specs.BTreeSet.{BTreeSet, contains, insert_key}
pub use Rattle.std.specs.Cmp.Lexicographic.{slice_cmp}
pub use Rattle.std.specs.List.{fold, list_any, slice_get}
pub use Rattle.std.specs.Option.{option_copied, option_map}
pub use Rattle.std.specs.Ordering.{is_eq, match_ordering, nat_cmp}
pub use Rattle.std.specs.Prelude.{◌||◌, not, Vec}
pub use Rattle.std.specs.Str.{bytes_eq}
pub use Rattle.std.proofs.Common.{◌++◌, ◌+◌, ◌<◌, ◌∙◌, ◌∷◌, ◌≡◌, ◌≤◌, [], ap, append-nil, arith, Bool, cond}
pub use Rattle.std.proofs.Common.{false, get_or, length, length-append, List, map, None, Option, refl, Some}
pub use Rattle.std.proofs.Common.{suc, sym, take, true, zero, ℕ}
pub use Rattle.std.proofs.lemmas.Bool.Decides.{nat_tests}
pub use Rattle.std.proofs.lemmas.Cmp.{nat_list_eq_equiv}
pub use Rattle.std.proofs.lemmas.Grind.{flat_map-append}
pub use Rattle.std.proofs.lemmas.List.{map-append, take_more}
pub use Rattle.std.proofs.lemmas.List.Folds.{list_any-append}
pub use Rattle.std.proofs.lemmas.Map.Text.{is_eq-slice_cmp}
pub use Rattle.std.proofs.lemmas.Slice.Eq.{bytes_eq-Decides}
pub use Rattle.sha2.specs.Sha256.{sha256}
pub use Rattle.mm_platform.specs.declared.plan.Meddle.{Meddle}
pub use Rattle.mm_module.specs.Batch.{Batch}
pub use Rattle.mm_model.specs.Chains.{own_values}
pub use Rattle.mm_schedule.specs.Events.{Event, event_of}
pub use Rattle.mm_schedule.specs.declared.event.Event.{Event as CodeEvent}
pub use Rattle.mm_outcome.specs.OneRun.{world_barrier}
pub use Rattle.mm_outcome.specs.Premises.{batches_of, event_foreign_values}
pub use Rattle.mm_outcome.specs.Premises.{asked_batches}
pub use Rattle.mm_numbering.specs.Listing.{digest_items, events_of, HasAll, pair_plus_one, first_number_of, number_of_first, is_zero}
pub use Rattle.mm_numbering.specs.Listing.{message_digests, messages_with, lower_pair, shared_pair_in, shared_pair_with, zero_number_in}
pub use Rattle.mm_numbering.specs.Listing.{AddsDigest, AddsIfFirst, CountsDigests, ListsMessages, number_at, pair_of, has_foreign_value}
pub use Rattle.mm_numbering.specs.Listing.{is_secured}
