-- The words that the definitions of this crate take from the crates below.
pub use Rattle.mm_bytes.specs.Limits.{CountsFaults, CountRose, last_position, longest_request}
pub use Rattle.mm_base.specs.Input.{IsLineFront}
pub use Rattle.mm_bytes.specs.declared.fault.Failed.{Failed}
pub use Rattle.mm_digest.specs.Messages.{start_message}
pub use Rattle.mm_digest.specs.declared.variant.Variant.{Variant}
pub use Rattle.mm_digest.specs.declared.variant.Variant.TheVariants.{Basic, Opt}
pub use Rattle.mm_seal.specs.Cell.{IsCell, SpellsCell, blank_cell, cell_spelling}
pub use Rattle.mm_seal.specs.Snapshot.{Content}
pub use Rattle.mm_seal.specs.declared.cell.Cell.{Cell}
pub use Rattle.mm_platform.specs.Standing.{Item, Standing, item_values, StepGoes, ReadCell, WriteCell}
pub use Rattle.mm_platform.specs.declared.fault.StepFault.{StepFault}
pub use Rattle.mm_module.specs.Batch.{Batch, One}
pub use Rattle.mm_module.specs.Meaning.{Meaning}
pub use Rattle.mm_model.specs.Moves.{IsFit, is_long, MayMove}
pub use Rattle.mm_model.specs.History.{History, Move, Value, first_history, history_after, total_of}
pub use Rattle.mm_model.specs.Chains.{Instance, basic_instance, opt_instance}
pub use Rattle.mm_model.specs.Standing.{Life, Lost as LostLife, Spoiled, life_of, NamesPosition, IsSound, IsGenuine, IsRight, StandsFor}
pub use Rattle.mm_model.specs.Standing.{cell_of, issued_bytes}
pub use Rattle.mm_model.specs.Messages.{AreNoGuards, IsClear, AreMessagesIn}
pub use Rattle.mm_model.specs.declared.answer.Answer.{Answer}
pub use Rattle.mm_model.specs.declared.answer.BatchAnswer.{BatchAnswer}
pub use Rattle.mm_model.specs.declared.refusal.Refusal.{Refusal}
pub use Rattle.mm_model.specs.declared.refusal.Refusal.TheVariants.{Device, Long, Lost, Stale}
pub use Rattle.mm_call.specs.CallFinding.{answer_on, EndsWith, right_content, CountsHandedFault, CallLeavesUntouched, batch_answer_of}
pub use Rattle.mm_call.specs.CallFinding.{batch_result_of, fault_in, fault_of}
pub use Rattle.mm_call.specs.Checkpoints.{AskPromise}
pub use Rattle.mm_call.specs.CallPremises.{IsWithin, right_messages, CellIsWrittenAtMostOnce, AreShown, IsIdle, standing_items}
pub use Rattle.mm_call.specs.CallKind.{IsAskedCall, IsCallOnCourse}
pub use Rattle.mm_call.specs.CallOutcome.{has_commit}
pub use Rattle.mm_call.specs.Standing.{count_after_more, instance_by}
pub use Rattle.mm_opt.specs.CheckpointPromise.{IsCheckpointOnCourse, CheckpointPromise}
pub use Rattle.mm_opt.specs.declared.segment.CheckpointRefusal.{CheckpointRefusal}
pub use Rattle.mm_opt.specs.declared.segment.Checkpointed.{Checkpointed}
pub use Rattle.mm_ask.specs.WholeAsk.{ask_call}
pub use Rattle.mm_store.specs.StoreStanding.{ReadsSlot, WritesSlot, StoreStanding, Slots, slot_front, UnsyncedSlots, synced_slots}
pub use Rattle.mm_store.specs.PendingRecord.{PendingRecord, ReadsPendingRecord, pending_spelling}
pub use Rattle.mm_store.specs.declared.fault.StoreFault.{StoreFault}
pub use Rattle.mm_store.specs.declared.fault.StoreFault.TheVariants.{Memory}
