-- The words and laws that the proofs of this crate take from specs/ and from the crates below.
pub use Rattle.std.specs.Prelude.{◌≡◌, [], Err, length, List, None, Ok, OnOk, Option, refl, Result, Some, take, ℕ}
pub use Rattle.std.proofs.Common.{◌∙◌, ap, subst, sym}
pub use Rattle.mm_base.specs.Input.{lines_of}
pub use Rattle.mm_digest.specs.declared.variant.Variant.{Variant}
pub use Rattle.mm_digest.specs.declared.variant.Variant.TheVariants.{Basic, Opt}
pub use Rattle.mm_twocell.specs.TornMemory.{TornMemory, whole_bytes}
pub use Rattle.mm_twocell.specs.declared.pair.TwoCell.{TwoCell}
pub use Rattle.mm_module.specs.Batch.{Batch}
pub use Rattle.mm_module.specs.Meaning.{Meaning}
pub use Rattle.mm_model.specs.History.{first_history, History}
pub use Rattle.mm_model.specs.Chains.{Instance, basic_instance, opt_instance}
pub use Rattle.mm_store.specs.StoreStanding.{Slots}
pub use Rattle.mm_pages.specs.CachedDevice.{CachedDevice}
pub use Rattle.mm_pages.specs.PageStanding.{Sheets}
pub use Rattle.mm_recovery.specs.FirstStart.{InstanceBegins, first_slots, IsFirstStore, InitLeaves}
pub use Rattle.mm_recovery.specs.Recovery.{CanRecover, IsAskedFor, HostRecovers}
pub use Rattle.mm_host.specs.Sessions.{IsSession}
pub use Rattle.mm_host.specs.declared.fault.SessionFault.{SessionFault}
pub use Rattle.mm_at_work.specs.Devices.{first_devices, store_in_pages, two_cells, StartsInMemory}
