use Rattle.mm_pages.proofs.Below.{subst, sym, add-one, err_from_is_err_and, PutsFirstPages, PutsOnePage, page_of}
use Rattle.mm_pages.proofs.WritingLaws.{puts_none, puts_more, fails_after, reaches}
use Rattle.mm_pages.proofs.writing.put_pages.Goals as goal

pub loop-page-init : goal.loop-page-init
loop-page-init g c = puts_none c.args.slot c.args.bytes.now _ c.args.digests.now

pub put_page-requires-clause-reached : goal.put_page-requires-clause-reached
put_page-requires-clause-reached g c = reaches c.loop-page.invariant

pub returns-in_err-put_page : goal.returns-in_err-put_page
returns-in_err-put_page g c =
    let p = err_from_is_err_and c.from_residual.result c.from_residual.ensures.1 in
    rw p.1 (fails_after c.loop-page.invariant c.in_err-put_page.ensures)

pub loop-page-preserved : goal.loop-page-preserved
loop-page-preserved g c =
    let put : PutsOnePage c.args.slot c.loop-page.page (page_of c.args.bytes.now c.loop-page.page)
    (g.D.PageDevice.pages c.loop-page.device) (g.D.PageDevice.pages c.put_page.new.device) c.loop-page.digests
    c.put_page.new.digests =
    rw c.page_of.ensures at c.in_ok-put_page.ensures in
    subst (λ n. PutsFirstPages c.args.slot n c.args.bytes.now (g.D.PageDevice.pages c.args.device.now)
    (g.D.PageDevice.pages c.put_page.new.device) c.args.digests.now c.put_page.new.digests)
    (sym (add-one c.loop-page.page)) (puts_more c.loop-page.invariant put)
