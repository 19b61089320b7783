use Rattle.mm_told.proofs.Coming.{one_in}
use Rattle.mm_told.proofs.asking.ask.Goals as goal

pub one-requires : goal.one-requires
one-requires g c =
    one_in c.args.request.now c.ask_batch.result c.args.variant (g.M.Module.meaning c.args.module.now) g.host c.args.made.now
    c.args.offer.now c.ask_batch.ensures
