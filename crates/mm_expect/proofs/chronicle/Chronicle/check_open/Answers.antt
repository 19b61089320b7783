use Rattle.mm_expect.proofs.Below.{sym, ◌∙◌}
use Rattle.mm_expect.proofs.Asking.{unbroken}
use Rattle.mm_expect.proofs.CallLaws.{check_broken, check_closed, check_stopped}
use Rattle.mm_expect.proofs.chronicle.Chronicle.check_open.Goals as goal

pub returns-in-Some : goal.returns-in-Some
returns-in-Some c = check_broken _ c.args.course.now.stop c.args.course.now.meddles.now c.requires.variant c.requires.inside _ _
    (rw c.in-Some.is at c.in_ok-fault.ensures)

pub returns-in-None : goal.returns-in-None
returns-in-None c = check_closed _ c.args.course.now.stop c.args.course.now.meddles.now c.requires.variant c.requires.inside _ _
    (rw (unbroken c.in_ok-fault.field-0 c.in_default.not-Some) at c.in_ok-fault.ensures) (sym c.is_lost.ensures ∙ c.if-is_lost.false)
    (rw c.in-None.is at c.in_ok-walk.ensures)

pub returns-in-Some-2 : goal.returns-in-Some-2
returns-in-Some-2 c = check_stopped _ c.args.course.now.stop c.args.course.now.meddles.now c.requires.variant c.requires.inside _ _
    (rw (unbroken c.in_ok-fault.field-0 c.in_default.not-Some) at c.in_ok-fault.ensures) (sym c.is_lost.ensures ∙ c.if-is_lost.false)
    (rw c.in-Some-2.is at c.in_ok-walk.ensures) c.is_made_at.ensures
