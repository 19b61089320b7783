use Rattle.std.proofs.Common.{sym, ◌∙◌}
use Rattle.std.proofs.lemmas.Result.{IfOk-weaker}
use Rattle.mm_expect.proofs.Settling.{walks_on}
use Rattle.mm_expect.proofs.chronicle.Chronicle.+walk.Goals as goal

pub returns-in-None : goal.returns-in-None
returns-in-None t c =
    IfOk-weaker c.walk.result _ _
    (walks_on c.args.self.now c.step.new.self c.walk.new.self c.args.course.now.stop c.args.course.now.meddles.now c.args.number
    c.in-Some.step.now c.in-Some.later.now c.args.steps.now c.in-Some.ensures.cases.0 (sym c.fault_at.ensures ∙ c.in-None.is)
    c.is_made_at.result c.is_made_at.ensures c.in_ok-step.ensures) c.walk.ensures
