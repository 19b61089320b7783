-- The words that the definitions of this crate take from the crates below.
pub use Rattle.mm_digest.specs.Messages.{start_message}
pub use Rattle.mm_digest.specs.declared.variant.Variant.{Variant}
pub use Rattle.mm_digest.specs.declared.variant.Variant.TheVariants.{Basic, Opt}
pub use Rattle.mm_seal.specs.Cell.{blank_cell}
pub use Rattle.mm_seal.specs.Snapshot.{Content}
pub use Rattle.mm_seal.specs.declared.cell.CellFault.{CellFault}
pub use Rattle.mm_platform.specs.Standing.{Standing}
pub use Rattle.mm_module.specs.Batch.{Batch, normal_batch}
pub use Rattle.mm_module.specs.Meaning.{IsLawful, Meaning}
pub use Rattle.mm_modules.specs.Modules.{meaning_of}
pub use Rattle.mm_modules.specs.declared.any.AnyModule.{AnyModule}
pub use Rattle.mm_model.specs.History.{History, first_history, requests_of}
pub use Rattle.mm_model.specs.Chains.{Instance}
pub use Rattle.mm_model.specs.Messages.{AreNoGuards, IsClear}
pub use Rattle.mm_model.specs.Standing.{IsGenuine, IsRight, StandsFor, issued_bytes}
pub use Rattle.mm_call.specs.CallFinding.{right_content}
pub use Rattle.mm_call.specs.CallPremises.{right_messages, foreign_items}
pub use Rattle.mm_schedule.specs.Replies.{ModulePromises}
pub use Rattle.mm_schedule.specs.declared.reply.Reply.{Reply}
pub use Rattle.mm_evidence.specs.Evidence.{HasClash}
pub use Rattle.mm_move.specs.Cells.{moved_cell_of, part, MovePromise}
pub use Rattle.mm_move.specs.Orders.{acceptance_in, barrier_of, invitation_in, retirement_in, right_ticket, waiting_for}
pub use Rattle.mm_move.specs.Tickets.{TicketContent}
pub use Rattle.mm_move.specs.declared.accepting.Accepted.{Accepted}
pub use Rattle.mm_move.specs.declared.cell.MovedCell.{MovedCell}
pub use Rattle.mm_move.specs.declared.inviting.Invited.{Invited}
pub use Rattle.mm_move.specs.declared.link.Link.{Link}
pub use Rattle.mm_move.specs.declared.refusal.MoveRefusal.{MoveRefusal}
pub use Rattle.mm_recovery.specs.FirstStart.{first_history_on}
pub use Rattle.mm_sides.specs.Premises.{offer_closing_messages}
pub use Rattle.mm_sides.specs.BothSides.{Blank, Live, Retired, Role, Waiting}
pub use Rattle.mm_life.specs.Deeds.{LifeCall}
pub use Rattle.mm_life.specs.Stages.{PartSteps, part_replies, LifePart, PartLeads, part_calls, Holds, ProgramStanding, program_standing}
pub use Rattle.mm_life.specs.Premises.{IsUntagged, bytes_unless_idle, call_batches, closing_messages, shown_messages, snapshots_of}
pub use Rattle.mm_store.specs.StoreStanding.{StoreStanding}
pub use Rattle.mm_host.specs.declared.fault.SessionFault.{SessionFault}
