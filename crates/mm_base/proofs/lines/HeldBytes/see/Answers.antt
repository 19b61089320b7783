use Rattle.std.proofs.Common.{arith}
use Rattle.std.proofs.lemmas.Grind.{common_steps}
use Rattle.mm_base.proofs.Below.{◌∙◌}
use Rattle.mm_base.proofs.ReadingLemmas.{sees_line, sees_front, sees_fault, sees_end, takes_more}
use Rattle.mm_base.proofs.lines.HeldBytes.see.Goals as goal

pub returns-in-Some-clause-seen : goal.returns-in-Some-clause-seen
returns-in-Some-clause-seen g c =
    sees_line _ _ _ _ _ _ c.in_ok-size.field-0 c.in-Some.size c.refills.invariant.takes c.look.ensures.same
    c.in_ok-size.ensures.looks c.in-Some.is

pub returns-in-Err-clause-seen : goal.returns-in-Err-clause-seen
returns-in-Err-clause-seen g c =
    let front = sees_front _ _ _ c.in_ok-size.field-0 c.look.ensures.same c.in_ok-size.ensures.looks c.in_default.is in
    sees_fault _ _ _ _ _ _ _ _ _ c.refills.invariant.takes c.look.ensures.same front c.in-Err.ensures.refilled

pub returns-in-Ok-eq0-clause-seen : goal.returns-in-Ok-eq0-clause-seen
returns-in-Ok-eq0-clause-seen g c =
    let front = sees_front _ _ _ c.in_ok-size.field-0 c.look.ensures.same c.in_ok-size.ensures.looks c.in_default.is in
    rw c.ending.ensures
    (sees_end _ _ _ _ _ _ _ _ _ c.refills.invariant.takes c.look.ensures.same front c.in-Ok-eq0.ensures.refilled c.in-Ok-eq0.field-0-test)

pub refills-preserved : goal.refills-preserved
refills-preserved g c = record {
  takes = takes_more _ _ _ _ _ _ _ _ c.refills.invariant.takes c.look.ensures.same c.in-Ok.ensures.refilled;
  kept = c.in-Ok.ensures.counted.kept ∙ c.refills.invariant.kept;
}

pub refills-smaller : goal.refills-smaller
refills-smaller g c = grind (arith, common_steps)
