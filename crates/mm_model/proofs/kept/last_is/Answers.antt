use Rattle.std.proofs.Common.{◌≡◌, ◌∙◌, ◌+◌, ◌-◌, length, arith}
use Rattle.mm_module.specs.Batches.{batch_of}
use Rattle.mm_model.proofs.Moves.{last_at}
use Rattle.mm_model.proofs.kept.last_is.Goals as goal

pub returns : goal.returns
returns c =
    let size : length c.args.batches.now ≡ (length c.args.batches.now - 1) + 1 = omega (arith, c.if-count-eq0.false) in
    c.is_that.ensures ∙ last_at c.args.batches.now (length c.args.batches.now - 1) c.index-batches-count.result (batch_of c.args.batch.now)
    size c.index-batches-count.is
