-- The words that the definitions of this crate take from the crates below.
pub use Rattle.mm_bytes.specs.Limits.{CountRose, next_count, last_position}
pub use Rattle.mm_digest.specs.LengthLaws.{length-zero_bytes}
pub use Rattle.mm_digest.specs.Messages.{extended_message, extended_digest_of, start_digest_of, zero_bytes}
pub use Rattle.mm_digest.specs.declared.variant.Variant.{Variant}
pub use Rattle.mm_digest.specs.declared.variant.Variant.TheVariants.{Basic, Opt}
pub use Rattle.mm_seal.specs.Cell.{IsCell, cell_spelling}
pub use Rattle.mm_seal.specs.Parts.{parts_of}
pub use Rattle.mm_seal.specs.FieldLaws.{spells_read, sealed_once}
pub use Rattle.mm_seal.specs.Snapshot.{Content, IsContent, IsPlace, Snapshot, sealed_snapshot_of, snapshot_front, tag_of}
pub use Rattle.mm_seal.specs.declared.cell.Cell.{Cell}
pub use Rattle.mm_seal.specs.declared.snapshot.PartsFault.{PartsFault}
pub use Rattle.mm_seal.specs.declared.snapshot.PartsFault.TheVariants.{Form, Kind}
pub use Rattle.mm_seal.specs.declared.snapshot.Place.{Place}
pub use Rattle.mm_seal.specs.declared.snapshot.Place.TheVariants.{Basic as InBasic, Opt as InOpt}
pub use Rattle.mm_platform.specs.CallLaws.{beside-none, known_plan}
pub use Rattle.mm_platform.specs.Standing.{Item, Plan, Standing, foreign_item, item_values, own_item, plan_after, register_after}
pub use Rattle.mm_platform.specs.Standing.{due_values, Act, DeviceStepEnds, ExtendRegister, StepGoes, ReadCell, ReadRegister, ResetRegister}
pub use Rattle.mm_platform.specs.Standing.{WriteCell, items_beside, cell_after, fault_at, is_made_at, items_after, fault_by_plan}
pub use Rattle.mm_platform.specs.Standing.{is_made_by_plan, values_by_plan, writes_after, next_plan}
pub use Rattle.mm_platform.specs.declared.fault.StepFault.{StepFault}
pub use Rattle.mm_platform.specs.declared.fault.StepFault.TheVariants.{Failed}
pub use Rattle.mm_platform.specs.declared.plan.Stop.{Stop}
pub use Rattle.mm_platform.specs.declared.plan.Stop.TheVariants.{Cut}
pub use Rattle.mm_module.specs.Batch.{Batch, members_of, normal_batch, size_of}
pub use Rattle.mm_module.specs.Meaning.{IsLawful, Meaning, outputs_from, state_after, state_from}
pub use Rattle.mm_module.specs.RunLaws.{state_after-is_spelled}
pub use Rattle.mm_model.proofs.Above.{basic_digests}
pub use Rattle.mm_model.specs.ListLaws.{length-anchor_of, length-register_of, length-summary_of}
pub use Rattle.mm_model.specs.Chains.{guard, link, trail, Instance, basic_instance, instance_by, opt_instance}
pub use Rattle.mm_model.specs.History.{Close, Commit, Foreign, History, Move, Placed, Power, Reset, Value, history_after_commit}
pub use Rattle.mm_model.specs.History.{history_after, register_value_of, requests_of, total_of, cell_digest_of, Changes, Reads, DeviceStep}
pub use Rattle.mm_model.specs.History.{Writes, ask_steps, checkpoint_steps}
pub use Rattle.mm_model.specs.Verdicts.{verdict_on, verdict_by_digests}
pub use Rattle.mm_model.specs.Standing.{is_lost, life_of, content_of_issue, issued_place, digest_of, IsSound, IsGenuine, IsRight, StandsFor}
pub use Rattle.mm_model.specs.Standing.{flag_of, issued_bytes, register_reading}
pub use Rattle.mm_model.specs.Moves.{is_long, Digests, IsOutside, MayMove, digests_of, digests_after}
pub use Rattle.mm_model.specs.Messages.{AreNoGuards, IsClear, AreMessagesIn, history_messages, messages_for_move, offer_messages}
pub use Rattle.mm_model.specs.Messages.{move_messages}
pub use Rattle.mm_model.specs.declared.answer.Answer.{Answer}
pub use Rattle.mm_model.specs.declared.answer.BatchAnswer.{BatchAnswer}
pub use Rattle.mm_model.specs.declared.refusal.Refusal.{Refusal}
pub use Rattle.mm_model.specs.declared.refusal.Refusal.TheVariants.{Device, Long, Memory}
pub use Rattle.mm_model.specs.declared.verdict.Verdict.{Verdict}
pub use Rattle.mm_model.specs.declared.verdict.Verdict.TheVariants.{Again, Fresh, Lost, Stale}
