use Rattle.mm_pages.proofs.Below.{◌≤◌, ap, ◌∙◌, subst, next_count, Sheets}
use Rattle.mm_pages.proofs.BytesLaws.{page_not_written}
use Rattle.mm_pages.proofs.memory.MemPagesPageDevice.write_page.Goals as goal

pub returns-then-is_to_fail_in-clause-writes : goal.returns-then-is_to_fail_in-clause-writes
returns-then-is_to_fail_in-clause-writes c =
    page_not_written c.args.slot c.args.page c.args.bytes.now c.args.self.now _ _ c.is_to_fail_in.result _
    (λ i. record (c.self.view_is i) {
      page_writes = (c.saturating_add-self-inside.ensures ∙ ap (λ (x : Sheets). next_count x.page_writes) c.self.view_is) i;
    })
    c.is_to_fail_in.ensures.after c.if-is_to_fail_in.true
    (subst (λ n. n ≤ c.is_to_fail_in.new.self.faults) (ap (λ (x : Sheets). x.faults) c.self.view_is) c.is_to_fail_in.ensures.later)
