use Rattle.std.proofs.lemmas.Result.{err_from_is_err_and}
use Rattle.mm_pages.proofs.WritingLaws.{length_failed, fits_already}
use Rattle.mm_pages.proofs.writing.fit_length.Goals as goal

pub returns-in_err-length : goal.returns-in_err-length
returns-in_err-length g c =
    let p = err_from_is_err_and c.from_residual.result c.from_residual.ensures.1 in
    rw p.1 (length_failed c.in_err-length.ensures.reads)

pub returns-then-branch-length : goal.returns-then-branch-length
returns-then-branch-length g c = fits_already c.in_ok-length.ensures.reads c.if-branch-length.true
