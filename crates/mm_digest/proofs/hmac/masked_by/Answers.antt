use Rattle.std.proofs.Common.{arith, length-set, ◌∙◌}
use Rattle.mm_digest.proofs.Blocks.{masked-step, masked-whole}
use Rattle.mm_digest.proofs.hmac.masked_by.Goals as goal

pub bytes-preserved : goal.bytes-preserved
bytes-preserved c = (
  masked-step c.args.pad c.args.block.now c.bytes.out c.bytes.i (omega arith) (omega arith) c.bytes.invariant.0,
  length-set _ _ _ ∙ c.bytes.invariant.1,
)

pub returns : goal.returns
returns c =
    masked-whole c.args.pad c.bytes.i c.args.block.now c.bytes.out (omega arith) (omega arith) c.bytes.invariant.0
