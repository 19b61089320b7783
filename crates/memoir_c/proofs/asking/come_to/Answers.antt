use Rattle.std.proofs.Common.{rules}
use Rattle.mm_told.specs.HostLaws.{is_worn_host}
use Rattle.memoir_c.proofs.asking.come_to.Goals as goal

pub ask-requires : goal.ask-requires
ask-requires g c = search (rules, is_worn_host c.args.made.now)
