use Rattle.std.proofs.Common.{sym, ◌∙◌}
use Rattle.mm_module.specs.Batches.{batch_of}
use Rattle.mm_told.proofs.Coming.{asks, long_so}
use Rattle.mm_told.proofs.asking.ask_batch.Goals as goal

pub returns-then-is_long : goal.returns-then-is_long
returns-then-is_long g c =
    rw c.too_long.ensures
    (long_so c.args.variant (g.M.Module.meaning c.args.module.now) c.args.offer.now (batch_of c.args.batch) g.host c.args.made.now
    (g.met.M.Module.is_lawful c.args.module.now) c.requires.1 (sym c.is_long.ensures ∙ c.if-is_long.true))

pub returns : goal.returns
returns g c =
    rw c.told.ensures
    (asks c.args.variant (g.M.Module.meaning c.args.module.now) c.args.offer.now (batch_of c.args.batch) g.host c.args.made.now
    (g.met.M.Module.is_lawful c.args.module.now) c.requires.1 (sym c.is_long.ensures ∙ c.if-is_long.false) c.tell.result
    c.tell.ensures)
