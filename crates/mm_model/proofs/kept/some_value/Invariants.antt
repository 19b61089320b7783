use Rattle.mm_model.proofs.Below.{◌≡◌, drop, has_value, kept_entries}
use Rattle.mm_model.proofs.kept.some_value.Given as goal

abbrev pub invariant-entries : goal.invariant-entries
invariant-entries l = has_value (kept_entries (drop l.entry-index l.entries)) ≡ has_value (kept_entries l.entries)
