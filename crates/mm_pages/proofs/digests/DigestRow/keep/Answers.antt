use Rattle.mm_pages.proofs.Below.{ℕ, ◌≡◌, ◌<◌, ap, ◌∙◌, sym, List, Some, ◌++◌, ◌∷◌, take, drop, add-one, Option, arith, length, slice_set}
use Rattle.mm_pages.proofs.Below.{set_split, Digest, row_with_digest}
use Rattle.mm_pages.proofs.digests.DigestRow.keep.Goals as goal

kept_amid : (row : List (Option Digest)) (page : ℕ) (digest : Digest) → page < length row →
    slice_set row page (Some digest) ≡ row_with_digest page digest row
kept_amid row page digest h =
    set_split row page (Some digest) h
    ∙ ap (λ n. take page row ++ (Some digest ∷ drop n row)) (sym (add-one page))

pub returns-then-page-len : goal.returns-then-page-len
returns-then-page-len c =
    ap (λ n. slice_set c.self.inside.digests.items n (Some c.args.digest)) c.from-page.ensures
    ∙ kept_amid c.self.inside.digests.items c.args.page c.args.digest (omega arith)
    ∙ ap (λ (row : List (Option Digest)). row_with_digest c.args.page c.args.digest row) c.self.view_is
