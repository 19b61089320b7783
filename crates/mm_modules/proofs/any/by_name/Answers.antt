use Rattle.std.proofs.Common.{◌∙◌}
use Rattle.mm_modules.proofs.Finding.{if_named, named_again}
use Rattle.mm_modules.proofs.any.by_name.Goals as goal

pub returns-clause-named : goal.returns-clause-named
returns-clause-named c = if_named c.args.name.now c.by_name_inner.result c.by_name_inner.ensures

pub returns-clause-each : goal.returns-clause-each
returns-clause-each c it is = c.by_name_inner.ensures ∙ named_again c.args.name.now it is
