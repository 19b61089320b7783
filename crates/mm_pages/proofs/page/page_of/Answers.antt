use Rattle.std.proofs.Common.{◌∙◌, ap, List, ℕ, ◌++◌, ◌*◌, drop, take, length, min}
use Rattle.mm_pages.proofs.BytesLaws.{page_of-parts}
use Rattle.mm_pages.proofs.page.page_of.Goals as goal

pub returns : goal.returns
returns c =
    ap (λ (x : List ℕ). x ++ c.split_at_mut-front.result.1.now) c.copy_from_slice.ensures.after
    ∙ page_of-parts c.args.page c.args.bytes.now c.split_at.result.1.now c.split_at-2.result.0.now
    c.split_at_mut-front.result.1.now
    (c.split_at.ensures.back
    ∙ ap (λ n. drop n c.args.bytes.now) (c.min.ensures ∙ ap (λ n. min (256 * n) (length c.args.bytes.now)) c.from.ensures))
    (c.split_at-2.ensures.front ∙ ap (λ n. take n c.split_at.result.1.now) c.min-2.ensures)
    c.split_at_mut-front.ensures.back
