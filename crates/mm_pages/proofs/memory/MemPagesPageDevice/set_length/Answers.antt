use Rattle.mm_pages.proofs.Below.{◌≤◌, ap, ◌∙◌, subst, next_count, Sheets}
use Rattle.mm_pages.proofs.BytesLaws.{length_not_set}
use Rattle.mm_pages.proofs.memory.MemPagesPageDevice.set_length.Goals as goal

pub returns-then-is_to_fail_in-clause-sets : goal.returns-then-is_to_fail_in-clause-sets
returns-then-is_to_fail_in-clause-sets c =
    length_not_set c.args.slot c.args.length c.args.self.now _ _ c.is_to_fail_in.result _
    (λ i. record (c.self.view_is i) {
      length_writes = (c.saturating_add-self-inside.ensures ∙ ap (λ (x : Sheets). next_count x.length_writes) c.self.view_is) i;
    })
    c.is_to_fail_in.ensures.after c.if-is_to_fail_in.true
    (subst (λ n. n ≤ c.is_to_fail_in.new.self.faults) (ap (λ (x : Sheets). x.faults) c.self.view_is) c.is_to_fail_in.ensures.later)
