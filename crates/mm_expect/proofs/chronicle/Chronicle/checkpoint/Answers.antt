use Rattle.mm_expect.proofs.Below.{sym, ap, ◌∙◌, refl, false, Basic, Opt, HasNone, NoSegment, ChronicleView}
use Rattle.std.proofs.lemmas.Result.{IfOk-weaker}
use Rattle.mm_expect.proofs.CallLaws.{check_shut}
use Rattle.mm_expect.proofs.chronicle.Chronicle.checkpoint.Goals as goal

pub returns-in-Basic : goal.returns-in-Basic
returns-in-Basic c = IfOk-weaker c.check_shut.result _ _
    (check_shut _ c.args.course.now.stop c.args.course.now.meddles.now _ HasNone Basic _
    (ap (λ (r : ChronicleView). r.variant) (sym c.self.view_is) ∙ c.in-Basic.is) refl (λ lost. refl) (λ lost. refl)) c.check_shut.ensures

pub returns-else-is_open : goal.returns-else-is_open
returns-else-is_open c = IfOk-weaker c.check_shut-else-is_open.result _ _
    (check_shut _ c.args.course.now.stop c.args.course.now.meddles.now _ NoSegment Opt false
    (ap (λ (r : ChronicleView). r.variant) (sym c.self.view_is) ∙ c.in-Opt.is)
    (ap (λ (r : ChronicleView). r.history.is_open) (sym c.self.view_is) ∙ sym c.is_open.ensures ∙ c.if-is_open.false)
    (λ lost. refl) (λ lost. refl)) c.check_shut-else-is_open.ensures
