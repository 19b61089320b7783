use Rattle.mm_model.proofs.Below.{◌≡◌, take, kept_entries}
use Rattle.mm_model.proofs.kept.copy_entries.Given as goal

abbrev pub invariant-entries : goal.invariant-entries
invariant-entries l = kept_entries l.copies.items ≡ kept_entries (take l.entry-index l.entries)
