-- The words and laws that the proofs of this crate take from specs/ and from the crates below.
pub use Rattle.std.specs.Prelude.{nat_le}
pub use Rattle.std.specs.Str.{bytes_eq}
pub use Rattle.std.proofs.Common.{◌+◌, ◌∙◌, ◌∷◌, ◌≡◌, ◌≤◌, [], ap, arith, Bool, Err, false, IfOk, if◌then◌else◌, inl, inr, IsOk, IsTrue}
pub use Rattle.std.proofs.Common.{length, List, map, None, Ok, Option, refl, Result, rules, Some, subst, sym, true, ℕ}
pub use Rattle.std.proofs.lemmas.Slice.Eq.{bytes_eq-Decides}
pub use Rattle.mm_bytes.specs.Limits.{last_position}
pub use Rattle.mm_digest.specs.Messages.{extended_digest_of, start_digest_of, zero_bytes}
pub use Rattle.mm_digest.specs.declared.digest.Digest.{Digest}
pub use Rattle.mm_digest.specs.declared.variant.Variant.TheVariants.{Basic}
pub use Rattle.mm_seal.specs.Cell.{cell_spelling, IsCell, ReadsCell, SpellsCell}
pub use Rattle.mm_seal.specs.Snapshot.{Content, ReadsParts, sealed_snapshot_of, Snapshot, tag_of, variant_of}
pub use Rattle.mm_seal.specs.declared.cell.Cell.{Cell}
pub use Rattle.mm_seal.specs.declared.cell.CellFault.TheVariants.{Blank, Cell as Unspelled}
pub use Rattle.mm_seal.specs.declared.snapshot.PartsFault.{PartsFault}
pub use Rattle.mm_seal.specs.declared.snapshot.PartsFault.TheVariants.{Form, Kind}
pub use Rattle.mm_seal.specs.declared.snapshot.Place.{Place}
pub use Rattle.mm_seal.specs.declared.snapshot.Place.TheVariants.{Basic as InBasic, Opt as InOpt}
pub use Rattle.mm_platform.specs.Standing.{Item, Standing, StepGoes, ReadCell}
pub use Rattle.mm_platform.specs.declared.fault.StepFault.{StepFault}
pub use Rattle.mm_module.specs.Batch.{Batch, normal_batch, One, size_of}
pub use Rattle.mm_module.specs.Batches.{batch_of}
pub use Rattle.mm_module.specs.Meaning.{IsLawful, Meaning}
pub use Rattle.mm_machine.specs.Acts.{remaining_acts, is_extension_left}
pub use Rattle.mm_machine.specs.OpSteps.{acts_for}
pub use Rattle.mm_machine.specs.declared.change.Change.{Change as Deed}
pub use Rattle.mm_machine.specs.declared.change.Change.TheVariants.{Emptying, Extending, Placing, Writing}
pub use Rattle.mm_machine.specs.declared.operation.OpFinding.{OpFinding}
pub use Rattle.mm_machine.specs.declared.operation.OpFinding.TheVariants.{Change, Repeat}
pub use Rattle.mm_machine.specs.declared.operation.ReadyChange.{ReadyChange}
pub use Rattle.mm_machine.specs.declared.reading.Halt.{Halt}
pub use Rattle.mm_model.specs.ListLaws.{length-link}
pub use Rattle.mm_model.specs.Chains.{link, summary_of, Instance, basic_instance}
pub use Rattle.mm_model.specs.Moves.{IsFit, is_long, Digests, digests_after}
pub use Rattle.mm_model.specs.History.{Commit, first_history, Foreign, History, Move, ask_steps, Reads as Reading, DeviceStep, Writes}
pub use Rattle.mm_model.specs.Verdicts.{basic_verdict, verdict_on, verdict_by, verdict_by_digests}
pub use Rattle.mm_model.specs.Standing.{digest_of, cell_of, IsRight, issued_bytes}
pub use Rattle.mm_model.specs.declared.answer.BatchAnswer.{BatchAnswer}
pub use Rattle.mm_model.specs.declared.refusal.Refusal.{Refusal}
pub use Rattle.mm_model.specs.declared.verdict.Verdict.{Verdict}
pub use Rattle.mm_call.specs.CallKind.{IsCallToEnd, breaks_off, IsWholeCall, EndsByFinding, goes_on, IsCallSoFar, EndsAsCall, result_of}
pub use Rattle.mm_call.specs.CallKind.{finding_of_machine}
pub use Rattle.mm_call.specs.CallFinding.{CountsHandedFault, IsAccepted, IsAnswered, state_after_moves, digest_level, check_of_offer}
pub use Rattle.mm_call.specs.CallFinding.{fault_in, fault_of, IsOrMemory}
pub use Rattle.mm_call.specs.TellingLaws.{wholly}
pub use Rattle.mm_call.specs.Standing.{cell_at, StandsAt}
pub use Rattle.mm_call.specs.OfferLaws.{offered_snapshot, weighed_only, weighs}
pub use Rattle.mm_call.specs.declared.ended.AskResult.{AskResult}
pub use Rattle.mm_call.proofs.Above.{AsFound, basic_calls_agree, brought_digests, calls_from, course_by, each_call, ends_fates, ends_result}
pub use Rattle.mm_call.proofs.Above.{fate_of, given_all, GoesTo, lacks_in, reading_tale, so_far, steps_give, Told, told_reading}
pub use Rattle.mm_basic.specs.Operation.{answer_of, committed_cell, finding_from, finding_in, linked_summary, summary_in, verdict_of}
pub use Rattle.mm_basic.specs.Operation.{basic_operation, ExtendsNothing, FindsIn}
pub use Rattle.mm_basic.specs.AskPromise.{BasicAskPromise, basic_call}
pub use Rattle.mm_basic.specs.BasicSight.{Both, IsCellOf, IsSeen, NoCell, NoOffer, OtherCell, BasicSight}
