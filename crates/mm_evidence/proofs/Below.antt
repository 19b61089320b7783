-- The words and laws that the proofs of this crate take from specs/ and from the crates below.
pub use Rattle.std.specs.Bool.{Decides}
pub use Rattle.std.specs.List.{AllByRecursion, Contains, list_any}
pub use Rattle.std.specs.Prelude.{not, slice_get}
pub use Rattle.std.specs.Str.{bytes_eq}
pub use Rattle.std.proofs.Common.{◌&&◌, ◌++◌, ◌-◌, ◌∙◌, ◌∷◌, ◌≡◌, ◌≢◌, ◌≤◌, ◌⊎◌, [], ap, append_assoc, Bool, false}
pub use Rattle.std.proofs.Common.{inl, inr, length, List, None, Option, refl, Some, subst, sym, true, ℕ}
pub use Rattle.std.proofs.lemmas.Bool.{both_ways}
pub use Rattle.std.proofs.lemmas.Bool.Decides.{Decides-and, Decides-not}
pub use Rattle.std.proofs.lemmas.List.{append-nil}
pub use Rattle.std.proofs.lemmas.List.Elements.{All-contains, All-from_recursion, Contains-get_or}
pub use Rattle.std.proofs.lemmas.List.Folds.{Any-from_list_any, list_any_at}
pub use Rattle.std.proofs.lemmas.Option.{get_or_from_slice_get, slice_get_within}
pub use Rattle.std.proofs.lemmas.Slice.Eq.{bytes_eq-Decides}
pub use Rattle.sha2.specs.Sha256.{sha256}
pub use Rattle.mm_bytes.specs.Limits.{last_position}
pub use Rattle.mm_digest.specs.Messages.{zero_bytes}
pub use Rattle.mm_digest.specs.declared.variant.Variant.{Variant}
pub use Rattle.mm_digest.specs.declared.variant.Variant.TheVariants.{Basic, Opt}
pub use Rattle.mm_seal.specs.Parts.{parts_of}
pub use Rattle.mm_seal.specs.Snapshot.{Content}
pub use Rattle.mm_module.specs.Batch.{Batch}
pub use Rattle.mm_module.specs.Meaning.{IsLawful, Meaning}
pub use Rattle.mm_model.specs.Chains.{guard, Instance}
pub use Rattle.mm_model.specs.History.{first_history, History, total_of}
pub use Rattle.mm_model.specs.Messages.{AreNoGuards, IsClear}
pub use Rattle.mm_model.specs.Standing.{NamesPosition, IsGenuine, IsRight}
pub use Rattle.mm_call.specs.CallFinding.{right_content, list_level}
pub use Rattle.mm_call.specs.OfferLaws.{one_content, right_of}
pub use Rattle.mm_call.specs.Standing.{instance_by}
pub use Rattle.mm_schedule.specs.Events.{Ask, Checkpoint, Event, Extend, Power}
pub use Rattle.mm_schedule.specs.declared.event.Offer.{Offer}
pub use Rattle.mm_schedule.specs.declared.event.Offer.TheVariants.{Flip, Last, Number, Raw}
pub use Rattle.mm_history.specs.Naming.{BasicNamesAreDecided, is_named, IsDecided, OptNamesAreDecided}
pub use Rattle.mm_outcome.specs.Premises.{event_outcome, outcome_by_lists, first_snapshots, outcome_of_events, RunOutcome, AreApartIn}
pub use Rattle.mm_outcome.specs.Premises.{AreGenuine, asked_batches, foreign_values, IsClearRun, IsGenuineEvent, IsGenuineOffer}
pub use Rattle.mm_outcome.specs.Premises.{IsGenuineRun, run_messages}
pub use Rattle.mm_outcome.specs.Laws.{IsIssued, IssuedNamePositions}
pub use Rattle.mm_outcome.specs.EventOffers.{offered_bytes}
pub use Rattle.mm_outcome.specs.OneRun.{FrontsAreOneRun}
pub use Rattle.mm_evidence.specs.Evidence.{clash, collision, forgery, guarded, HasClash, HasEvidence, IsForged, zero_digest}
pub use Rattle.mm_evidence.specs.Laws.{ForgedAreNew, FrontsAreLongest, IsDecidedRun, IsMadeUp, IsOneRunOrEvidence, IsFrontWithoutEvidence}
pub use Rattle.mm_evidence.specs.Laws.{IsLongest, RunsUntil, StopsAt, RepliesAreOneRun}
