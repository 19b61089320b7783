use Rattle.std.proofs.Common.{◌≡◌, drop}
use Rattle.mm_model.specs.Standing.{are_own}
use Rattle.mm_model.specs.Verdicts.{kept_batches, kept_entries}
use Rattle.mm_reference.proofs.entries.all_own.Given as goal

abbrev pub invariant-entries : goal.invariant-entries
invariant-entries l =
    are_own (kept_entries (drop l.i l.entries)) (kept_batches (drop l.i l.batches))
    ≡ are_own (kept_entries l.entries) (kept_batches l.batches)
