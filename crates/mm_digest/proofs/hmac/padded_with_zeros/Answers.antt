use Rattle.mm_digest.proofs.Blocks.{padded_block-parts}
use Rattle.mm_digest.proofs.hmac.padded_with_zeros.Goals as goal

pub returns : goal.returns
returns c = padded_block-parts _ _ _ c.copy_from_slice.ensures.after c.split_at_mut-front.ensures.back
