use Rattle.std.proofs.Common.{◌<◌, arith, rules, ◌∙◌}
use Rattle.mm_recovery.proofs.SettingUp.{consumes_more, takes}
use Rattle.mm_recovery.proofs.setup.take_bytes.Goals as goal

pub takes-preserved : goal.takes-preserved
takes-preserved g c = record {
  most = c.in_ok-count.ensures.within;
  size = search rules;
  consumed =
      consumes_more _ _ _ _ _ c.takes.got c.in_ok-count.count c.in_ok-count.ensures.front c.takes.invariant.consumed
      c.in_ok-count.ensures.taken.0;
  kept = c.in_ok-count.ensures.counted.kept ∙ c.takes.invariant.kept;
}

pub returns-clause-takes : goal.returns-clause-takes
returns-clause-takes g c =
    takes _ _ _ _ c.takes.into c.takes.got c.takes.invariant.size c.takes.invariant.most c.takes.invariant.consumed c.takes.invariant.kept
    (λ (few : c.takes.got < 64). absurd (omega (arith, few, c.takes-test.false)))
