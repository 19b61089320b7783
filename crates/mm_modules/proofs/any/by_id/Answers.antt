use Rattle.std.proofs.Common.{◌∙◌}
use Rattle.mm_modules.proofs.Finding.{if_with, with_again}
use Rattle.mm_modules.proofs.any.by_id.Goals as goal

pub returns-clause-id : goal.returns-clause-id
returns-clause-id c = if_with c.args.id c.by_id_inner.result c.by_id_inner.ensures

pub returns-clause-each : goal.returns-clause-each
returns-clause-each c it is = c.by_id_inner.ensures ∙ with_again c.args.id it is
