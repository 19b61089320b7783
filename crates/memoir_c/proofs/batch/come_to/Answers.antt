use Rattle.std.proofs.Common.{rules}
use Rattle.mm_told.specs.HostLaws.{is_worn_host}
use Rattle.memoir_c.proofs.batch.come_to.Goals as goal

pub ask_batch-requires : goal.ask_batch-requires
ask_batch-requires g c = search (rules, is_worn_host c.args.made.now)
