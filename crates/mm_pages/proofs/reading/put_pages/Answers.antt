use Rattle.mm_pages.proofs.Below.{◌≡◌, ℕ, ◌+◌, ◌*◌, ◌-◌, ◌<◌, min, take, subst, sym, ap, ◌∙◌, arith, List, page_count}
use Rattle.mm_pages.proofs.BytesLaws.{GivesFirst, gives_more, gives_all}
use Rattle.mm_pages.proofs.reading.put_pages.Goals as goal

pub loop-page-preserved : goal.loop-page-preserved
loop-page-preserved g c =
    let below : 256 * c.loop-page.page < c.args.size = omega (arith, c.page_count-page-end.ensures) in
    let more = gives_more below c.loop-page.invariant c.in-Ok.ensures.reads
    (c.split_at.ensures.front
    ∙ ap (λ n. take n c.read_page.new.into) (c.min.ensures ∙ ap (λ n. min (c.args.size - 256 * n) 256) c.from.ensures))
    (c.split_at.ensures.front_len ∙ c.min.ensures ∙ ap (λ n. min (c.args.size - 256 * n) 256) c.from.ensures) in
    subst (λ (x : List ℕ). GivesFirst c.args.slot c.args.size (c.loop-page.page + 1) (g.D.PageDevice.pages c.args.device.now)
    (g.D.PageDevice.pages c.read_page.new.self) x) (sym c.in_ok-append.ensures.ok) more

pub returns : goal.returns
returns g c =
    let n : page_count c.args.size ≡ c.loop-page.page = omega (arith, c.page_count-page-end.ensures) in
    gives_all (subst (λ k. GivesFirst c.args.slot c.args.size k (g.D.PageDevice.pages c.args.device.now)
    (g.D.PageDevice.pages c.loop-page.device) c.loop-page.bytes) (sym n) c.loop-page.invariant)
