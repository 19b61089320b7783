use Rattle.std.proofs.Common.{◌∙◌, ap, rules}
use Rattle.sha2.specs.Sha256.{sha256}
use Rattle.mm_digest.proofs.Blocks.{front_of_block}
use Rattle.mm_digest.proofs.digest.tagged_in_block.Goals as goal

pub returns : goal.returns
returns c =
    c.digest.ensures ∙ ap sha256
    (front_of_block c.args.tag _ _ _ _ c.args.fixed.now c.args.rest.now c.split_at_mut-behind.ensures.front
    c.copy_from_slice.ensures.after (search rules) c.copy_from_slice-2.ensures.after)
