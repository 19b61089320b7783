use Rattle.mm_history.proofs.Below.{◌∙◌}
use Rattle.mm_history.proofs.PlaceLaws.{own_from}
use Rattle.mm_history.proofs.naming.register_behind.Goals as goal

pub returns : goal.returns
returns c = c.own_register.ensures ∙ own_from c.args.barrier.now c.args.start c.args.sought.now.named.now
