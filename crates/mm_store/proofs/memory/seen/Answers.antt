use Rattle.std.proofs.Common.{sym}
use Rattle.mm_store.proofs.PendingLaws.{longest_slot-is, take-longest}
use Rattle.mm_store.proofs.memory.seen.Goals as goal

pub returns-clause-front : goal.returns-clause-front
returns-clause-front c =
    take-longest c.args.bytes.now _ 1100000 _ (sym longest_slot-is) c.min.ensures c.split_at.ensures.front
