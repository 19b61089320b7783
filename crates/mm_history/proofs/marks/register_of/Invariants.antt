use Rattle.mm_history.proofs.Below.{◌≡◌, take, register_of, values_of, kept_entries}
use Rattle.mm_history.proofs.marks.register_of.Given as goal

abbrev pub invariant-entries : goal.invariant-entries
invariant-entries l = l.register.bytes ≡ register_of (values_of l.barrier (kept_entries (take l.entry-index l.entries)))
