use Rattle.mm_pages.proofs.Below.{◌≡◌, ℕ, List, ap, ◌∙◌, take, length, Result, Ok, Err, Failed, page_count, PageStanding, Rows, row_in}
use Rattle.mm_pages.proofs.Below.{rows_with, PutsFirstPages, EndsInSync, PutsBytes}
use Rattle.mm_pages.proofs.WritingLaws.{puts_all, fails_at_end}
use Rattle.mm_pages.proofs.writing.put_bytes.Goals as goal

-- by whether the length is fitted and the slot synced
ends_by : (slot : ℕ) (bytes : List ℕ) (old mid new : PageStanding) (rows some after : Rows) (result : Result Unit Failed) →
    PutsFirstPages slot (page_count (length bytes)) bytes old mid rows some →
    after ≡ rows_with some slot (take (page_count (length bytes)) (row_in some slot)) →
    EndsInSync slot (length bytes) mid new result → PutsBytes slot bytes old new rows after result
ends_by slot bytes old mid new rows some after (Ok done) f r g = puts_all f r g
ends_by slot bytes old mid new rows some after (Err fault) f r g = fails_at_end f r g

pub returns : goal.returns
returns g c =
    ends_by c.args.slot c.args.bytes.now _ _ _ c.args.digests.now _ _ c.fit_and_sync.result c.in_ok-put_pages.ensures
    (c.cut.ensures ∙ ap (λ n. rows_with c.put_pages.new.digests c.args.slot (take n (row_in c.put_pages.new.digests c.args.slot)))
    c.page_count.ensures) c.fit_and_sync.ensures
