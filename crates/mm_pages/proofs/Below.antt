-- The words and laws that the proofs of this crate take from specs/ and from the crates below.
pub use Rattle.std.specs.Prelude.{◌&&◌, slice_set}
pub use Rattle.std.specs.Result.{is_err}
pub use Rattle.std.specs.Str.{bytes_eq}
pub use Rattle.std.proofs.Common.{◌*◌, ◌++◌, ◌+◌, ◌-◌, ◌<◌, ◌∙◌, ◌∷◌, ◌≡◌, ◌≤◌, [], add-one, ap, append_assoc, arith, Bool, drop, Err}
pub use Rattle.std.proofs.Common.{false, get_or, inl, inr, length, length-append, List, min, None, Ok, Option, refl, replicate, Result}
pub use Rattle.std.proofs.Common.{Some, subst, suc, sym, take, true, zero, zero-add, ℕ}
pub use Rattle.std.proofs.Math.Seq.{take-append_seam}
pub use Rattle.std.proofs.lemmas.Bool.{cases_lt}
pub use Rattle.std.proofs.lemmas.Grind.{same_number_lists}
pub use Rattle.std.proofs.lemmas.List.{append-nil, drop-drop, drop-replicate, drop_all, drop_at, drop_min, get_or-append_right, get_or-drop}
pub use Rattle.std.proofs.lemmas.List.{get_or-take, get_or_append_left, get_or_past, length-replicate, length-take, length-take-le}
pub use Rattle.std.proofs.lemmas.List.{set_split}
pub use Rattle.std.proofs.lemmas.Result.{err_from_is_err_and}
pub use Rattle.mm_bytes.specs.Limits.{next_count, CountRose}
pub use Rattle.mm_bytes.specs.declared.fault.Failed.{Failed}
pub use Rattle.mm_digest.specs.declared.digest.Digest.{Digest}
pub use Rattle.mm_store.specs.StoreStanding.{slots_with_bytes, CountsFailures, ReadsSlot, WritesSlot, longest_slot, slot_front, slot_in}
pub use Rattle.mm_store.specs.StoreStanding.{Slots, slots_with, unsynced_slots_with_mark, MarksSlotAlone, UnsyncedSlots}
pub use Rattle.mm_store.specs.declared.fault.StoreFault.{StoreFault}
pub use Rattle.mm_store.specs.declared.fault.StoreFault.TheVariants.{Failed as SlotFailed}
pub use Rattle.mm_store.proofs.Above.{longest_slot-is, marked_last, marks_alone, putting-twice, slot_in-with_slot, take-min, with_slot-same}
pub use Rattle.mm_pages.specs.Rows.{page_count, page_of, resized_bytes, bytes_with_page, change_count, changes_of, count_after_so_many}
pub use Rattle.mm_pages.specs.Rows.{look_count, total_of_looks, may_be_same, one_if, DropsPage, row_with_digest, kept_digest, page_digest}
pub use Rattle.mm_pages.specs.Rows.{digests_of_pages, row_in, Rows, rows_with}
pub use Rattle.mm_pages.specs.CachedDevice.{AreInStep, CachedDevice, KeepsStep}
pub use Rattle.mm_pages.specs.PageStanding.{slots_with_change, ReadsLength, ReadsPage, SetsLength, SyncsPages, WritesPage}
pub use Rattle.mm_pages.specs.PageStanding.{store_standing_on, PageStanding, bytes_left, sheets_after_call, sheets_after_slot_fault}
pub use Rattle.mm_pages.specs.PageStanding.{standing_of_sheets, Sheets}
pub use Rattle.mm_pages.specs.SlotWrites.{ReadGoes, ReadsRenewed, RenewsIfDue, WriteGoes, WritesRenewed, AreDigestsOf, ChangesSlot}
pub use Rattle.mm_pages.specs.SlotWrites.{EndsInSync, WriteFails, SlotFails, FitsSlot, FitsAndSyncs, HoldsPage, IsFilled, IsInStep, IsPutAt}
pub use Rattle.mm_pages.specs.SlotWrites.{PutsBytes, PutsFirstPages, PutsOnePage, PutsWholeSlot}
