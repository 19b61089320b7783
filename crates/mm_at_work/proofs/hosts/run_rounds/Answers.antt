use Rattle.std.proofs.Common.{refl}
use Rattle.mm_at_work.proofs.WholeLives.{none_run, one_more_run}
use Rattle.mm_at_work.proofs.hosts.run_rounds.Goals as goal

pub loop-round-init : goal.loop-round-init
loop-round-init g c = none_run _ _ _ _ _

pub loop-round-preserved : goal.loop-round-preserved
loop-round-preserved g c =
    one_more_run _ _ _ _ _ _ _ _ _ _ _ _ c.loop-round.round _ _ c.loop-round.invariant c.hand-verb.ensures refl refl refl refl refl
    c.run_verb.ensures
