use Rattle.std.specs.Prelude.{Ok}
use Rattle.mm_module.specs.Batch.{One}
use Rattle.mm_opt.specs.AskPromise.{opt_operation}
use Rattle.mm_callers.proofs.Preparing.{prepared_stands}
use Rattle.mm_callers.proofs.parts.commit_first_in_opt.Goals as goal

pub commit-requires : goal.commit-requires
commit-requires g c =
    prepared_stands (opt_operation (g.M.Module.meaning c.args.module.now) c.args.offer.now (One c.args.second.now))
    (One c.args.second.now) c.in-Ok.prepared (g.P.Device.standing c.prepare.new.platform)
    (g.P.Device.standing c.prepare-2.new.platform) (Ok c.in-Ok-prepare.prepared.found)
    (λ long. (c.in-Ok-prepare.ensures.long long).1) c.in-Ok-prepare.ensures.reads c.in-Ok.ensures.stands
