-- The words and laws that the proofs of this crate take from specs/ and from the crates below.
pub use Rattle.std.specs.Bool.{Decides, IsTrue}
pub use Rattle.std.specs.List.{list_any}
pub use Rattle.std.specs.Option.{option_map}
pub use Rattle.std.specs.Prelude.{◌==◌, if◌then◌else◌, MatchOption, nat_le, nat_lt, not, option_to_list, Vec}
pub use Rattle.std.specs.Str.{bytes_eq}
pub use Rattle.std.proofs.Common.{◌&&◌, ◌++◌, ◌+◌, ◌-◌, ◌<◌, ◌||◌, ◌∙◌, ◌∷◌, ◌≡◌, ◌≢◌, ◌≤◌, ◌⊎◌, [], ap, append_assoc, arith, Bool, drop}
pub use Rattle.std.proofs.Common.{false, get_or, inl, inr, le-leb, length, length-append, length-drop, List, map, None, Option, refl, Some}
pub use Rattle.std.proofs.Common.{subst, suc, sym, take, true, zero, ℕ}
pub use Rattle.std.proofs.lemmas.Bool.{or_from, or_parts}
pub use Rattle.std.proofs.lemmas.Bool.Decides.{Decides-and, Decides-eqb, Decides-like, Decides-ltb, Decides-or}
pub use Rattle.std.proofs.lemmas.List.{append-nil, drop-append-le, drop-map, drop_more, length-map, length-take, map-append}
pub use Rattle.std.proofs.lemmas.List.{take-append-drop, take-append-le, take-map, take_all}
pub use Rattle.mm_digest.specs.Messages.{anchored_digest_of, start_digest_of, zero_bytes}
pub use Rattle.mm_digest.specs.declared.variant.Variant.{Variant}
pub use Rattle.mm_digest.specs.declared.variant.Variant.TheVariants.{Basic, Opt}
pub use Rattle.mm_seal.specs.Parts.{content_of}
pub use Rattle.mm_seal.specs.Snapshot.{Content}
pub use Rattle.mm_seal.specs.declared.snapshot.Place.{Place}
pub use Rattle.mm_seal.specs.declared.snapshot.Place.TheVariants.{Basic as InBasic, Opt as InOpt}
pub use Rattle.mm_module.specs.Batch.{Batch, members_of, size_of}
pub use Rattle.mm_module.specs.Meaning.{Meaning, state_after}
pub use Rattle.mm_module.specs.RunLaws.{state_after-append, state_after-is_spelled}
pub use Rattle.mm_modules.specs.Modules.{meaning_of}
pub use Rattle.mm_model.specs.BatchLaws.{is_same_batch-Decides, total-cons}
pub use Rattle.mm_model.specs.Chains.{guard, link, register_of, summary_of, own_values, Instance, instance_by}
pub use Rattle.mm_model.specs.FormLaws.{reads_zero}
pub use Rattle.mm_model.specs.History.{RegisterEntry, History, items_of_all, entries_with_last_batch, requests_of, total_of}
pub use Rattle.mm_model.specs.History.{extension_value, values_of}
pub use Rattle.mm_model.specs.SegmentLaws.{has_value-append, renamed-push, joined-push, not_empty}
pub use Rattle.mm_model.specs.Verdicts.{kept_batch, kept_batches, kept_entries, kept_entry, kept_segments}
pub use Rattle.mm_model.specs.Standing.{has_value, is_empty, is_same_batch, anchor_after, at_anchor, in_closed, in_current, IsPlaceOf}
pub use Rattle.mm_model.specs.Standing.{IsPoint, NamesPosition}
pub use Rattle.mm_model.specs.Moves.{is_long}
pub use Rattle.mm_model.specs.declared.kept.KeptBatch.{KeptBatch}
pub use Rattle.mm_model.specs.declared.kept.KeptEntry.{KeptEntry}
pub use Rattle.mm_history.specs.MarkLaws.{and_true, own_more}
pub use Rattle.mm_history.specs.Naming.{anchor_at, first_with, is_at, is_behind, is_here, is_inside_at, is_named, is_named_at, is_place}
pub use Rattle.mm_history.specs.Naming.{is_place_in, is_within, IsDecided, same_batches, some_place}
