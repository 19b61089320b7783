use Rattle.mm_reference.proofs.EntryLaws.{other_lengths}
use Rattle.mm_reference.proofs.entries.all_own.Goals as goal

pub returns-then-entries-batches : goal.returns-then-entries-batches
returns-then-entries-batches c = other_lengths c.args.entries.now c.args.batches.now c.if-entries-batches.true
