use Rattle.mm_pages.proofs.Below.{arith, true, false, Ok, err_from_is_err_and, HoldsPage}
use Rattle.mm_pages.proofs.RenewalLaws.{look_failed, put_held, put_written}
use Rattle.mm_pages.proofs.writing.put_page.Goals as goal

pub returns-in_err-holds_page : goal.returns-in_err-holds_page
returns-in_err-holds_page g c =
    let p = err_from_is_err_and c.from_residual.result c.from_residual.ensures.1 in
    rw p.1 (look_failed c.args.digests.now c.in_err-holds_page.ensures)

pub returns-then-branch : goal.returns-then-branch
returns-then-branch g c =
    let h : HoldsPage c.args.slot c.args.page c.get-kept.result (record { bytes = c.digest.result }) c.args.bytes.now
    (g.D.PageDevice.pages c.args.device.now) (g.D.PageDevice.pages c.holds_page.new.device) (Ok true) =
    rw c.if-branch.true at c.in_ok-holds_page.ensures in
    put_held h (λ i. record { bytes = c.digest.ensures i }) c.get-kept.ensures c.keep.ensures

pub returns : goal.returns
returns g c =
    let h : HoldsPage c.args.slot c.args.page c.get-kept.result (record { bytes = c.digest.result }) c.args.bytes.now
    (g.D.PageDevice.pages c.args.device.now) (g.D.PageDevice.pages c.holds_page.new.device) (Ok false) =
    rw c.if-branch.false at c.in_ok-holds_page.ensures in
    put_written h c.in_ok-write_page.ensures.writes (omega arith) (λ i. record { bytes = c.digest.ensures i }) c.get-kept.ensures
    c.drop_page.ensures c.keep-2.ensures
