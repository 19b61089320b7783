use Rattle.mm_world.proofs.Below.{ℕ, List, Option, Some, ap, ◌∙◌, subst, batch_of, planned_ask, AsksPlanned}
use Rattle.mm_world.proofs.call.call_by_offer.Goals as goal

pub returns-in-Ok-Some : goal.returns-in-Ok-Some
returns-in-Ok-Some g c =
    let found = rw c.in-Ok-Some.field-0-is at c.in-Ok-Some.ensures in
    subst (λ (o : Option (List ℕ)). AsksPlanned c.args.caller.now.variant (g.M.Module.meaning c.args.caller.now.module.now)
    c.args.platform.now
    c.planned_call.new.platform c.args.issued.now
    (planned_ask c.args.course.now.meddles.now c.args.course.now.stop o (batch_of c.args.batch)) c.planned_call.result)
    (ap Some c.bytes.ensures ∙ found) (c.planned_call.ensures c.args.issued.now)
