use Rattle.mm_opt.proofs.Below.{◌≡◌, sym, ◌∙◌, false, batch_of, is_long}
use Rattle.mm_opt.proofs.Going.{asked_by, finished_asks}
use Rattle.mm_opt.proofs.whole.ask_batch_keeping.Goals as goal

pub returns : goal.returns
returns g c =
    let meaning = g.M.Module.meaning c.args.module.now in
    let old = g.P.Device.standing c.args.platform.now in
    let new = g.P.Device.standing c.finish_call.new.platform in
    let offer = c.args.offer.now in
    let b = batch_of c.args.batch in
    let short : is_long b ≡ false = sym c.is_long.ensures ∙ c.if-is_long.false in
    asked_by meaning (g.met.M.Module.is_lawful c.args.module.now) old new offer b c.finish_call.result c.result.result short
    (finished_asks meaning old new offer b c.finish_call.result c.finish_call.ensures) c.result.ensures
