-- The words and laws that the proofs of this crate take from specs/ and from the crates below.
pub use Rattle.std.specs.Io.KnownBytes.{Consumes, IsAtEnd}
pub use Rattle.std.proofs.Common.{◌+◌, ◌<◌, ◌∙◌, ◌≡◌, ◌≤◌, ◌⊎◌, [], ap, arith, Bool, Err}
pub use Rattle.std.proofs.Common.{false, inl, inr, is_some, length, length-append, List, map, None, Ok, Option, refl, Result}
pub use Rattle.std.proofs.Common.{Some, subst, sym, true, ℕ}
pub use Rattle.mm_bytes.specs.Limits.{next_count, CountsFaults, CountRose}
pub use Rattle.mm_base.specs.Streams.{SinkSends}
pub use Rattle.mm_base.specs.declared.replay_fault.ReplayFault.{ReplayFault}
pub use Rattle.mm_digest.specs.declared.variant.Variant.{Variant}
pub use Rattle.mm_seal.specs.declared.cell.Cell.{Cell as Held}
pub use Rattle.mm_seal.specs.declared.cell.CellFault.{CellFault}
pub use Rattle.mm_platform.specs.Standing.{Standing}
pub use Rattle.mm_platform.specs.declared.fault.StepFault.{StepFault}
pub use Rattle.mm_modules.specs.Modules.{any_is_found, meaning_of, module_of_id}
pub use Rattle.mm_modules.specs.declared.any.AnyModule.{AnyModule}
pub use Rattle.mm_model.specs.Chains.{Instance}
pub use Rattle.mm_model.specs.declared.refusal.Refusal.{Refusal}
pub use Rattle.mm_opt.specs.Checkpoints.{ClosesSegment, closing_by, closing_fault_in, result_of_closing_write, EndsClosing, EndsLooking}
pub use Rattle.mm_opt.specs.Checkpoints.{FindsClosing, FindsSegment, LooksAtSegment, segment_by, segment_in, WeighsRegister}
pub use Rattle.mm_opt.specs.declared.segment.CheckpointRefusal.{CheckpointRefusal}
pub use Rattle.mm_opt.specs.declared.segment.Checkpointed.{Checkpointed}
pub use Rattle.mm_schedule.specs.declared.header.Header.{Header}
pub use Rattle.mm_play.specs.PlaysInput.{is_read_fault, is_write_fault, IsBlamed}
pub use Rattle.mm_store.specs.StoreStanding.{StoreStanding}
pub use Rattle.mm_words.specs.declared.command.CommandLine.{CommandLine}
pub use Rattle.mm_words.specs.declared.command.CommandLine.TheVariants.{Bulk, Check, Checkpoint, Gen, Help, Init, Power, Receipts, Replay}
pub use Rattle.mm_words.specs.declared.command.CommandLine.TheVariants.{Run, Slots, Transfer}
pub use Rattle.mm_words.proofs.Above.{one_command}
pub use Rattle.mm_gen.specs.declared.fault.BulkFault.{BulkFault}
pub use Rattle.mm_gen.specs.declared.summary.Summary.{Summary}
pub use Rattle.mm_recovery.specs.FirstStart.{BlamesDevice, TellsUse, GoesAfterLooking, GoesAfterAllPuts, GoesAfterTaking, Devices}
pub use Rattle.mm_recovery.specs.FirstStart.{instance_from, SetsUp, TakesBytes, result_of_write}
pub use Rattle.mm_recovery.specs.declared.init_fault.InitFault.{InitFault}
pub use Rattle.mm_host.specs.declared.fault.SessionFault.{SessionFault}
pub use Rattle.mm_app.specs.Commands.{BlamesOutput, BlamesSource, source_faults, tells_platform_fault, tells_read_fault, tells_store_fault}
pub use Rattle.mm_app.specs.Commands.{bulk_lines, CommandDoes, DoesOrLacks, ReadsInput, UsesPlatform, UsesStore, EndsAtOnce, GivesText}
pub use Rattle.mm_host_commands.specs.Outside.{checkpoint_line, IsStill, Outside, outside, power_line, init_line}
pub use Rattle.mm_app.specs.Completeness.{CanBeDone, CanClose, IsDoneOrFailed, ShowsPower}
pub use Rattle.mm_host_commands.specs.Run.{ContinuesIfFound, FindsInstance, found_header, found_instance}
pub use Rattle.mm_host_commands.specs.Run.{SeesInstance, ServesAndStops, ServesIfFound, session_status}
pub use Rattle.mm_status.specs.Status.{status_of, stop_line, status_by, StopsAs, TellsLines, TellsStop}
pub use Rattle.mm_status.specs.declared.status.Status.{Status}
pub use Rattle.mm_status.specs.declared.status.Status.TheVariants.{Done, Memory, PlatformFault, TooMuch, Usage, WriteFault}
