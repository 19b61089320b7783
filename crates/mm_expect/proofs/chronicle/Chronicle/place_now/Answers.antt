use Rattle.mm_expect.proofs.Below.{ap, ◌∙◌, sym, issued_place, ChronicleView, instance_with, chronicle_instance}
use Rattle.mm_expect.proofs.CallLaws.{place_open, place_shut}
use Rattle.mm_expect.proofs.chronicle.Chronicle.place_now.Goals as goal

pub returns-then-is_open : goal.returns-then-is_open
returns-then-is_open c = place_open (instance_with c.self.inside.variant c.self.inside.«module») c.self.inside.lists c.self.inside.marks
    c.self.invariant.marks_is c.in-Opt.is (sym c.is_open.ensures ∙ c.if-is_open.true)
    ∙ ap (λ (r : ChronicleView). issued_place r.variant r.history.is_open (chronicle_instance r) r.history) c.self.view_is

pub returns-else-is_open : goal.returns-else-is_open
returns-else-is_open c =
    place_shut (instance_with c.self.inside.variant c.self.inside.«module») c.self.inside.lists c.self.inside.marks c.zero-extension.result
    c.self.invariant.marks_is c.zero-extension.ensures c.in-Opt.is (sym c.is_open.ensures ∙ c.if-is_open.false)
    ∙ ap (λ (r : ChronicleView). issued_place r.variant r.history.is_open (chronicle_instance r) r.history) c.self.view_is
