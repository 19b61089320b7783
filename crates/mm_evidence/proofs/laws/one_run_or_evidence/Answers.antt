use Rattle.mm_evidence.proofs.Below.{instance_by}
use Rattle.mm_evidence.proofs.Fronts.{one_run_or, runs_longest}
use Rattle.mm_evidence.proofs.laws.one_run_or_evidence.Goals as goal

pub returns : goal.returns
returns c = record {
  one = λ variant meaning key barrier events.
      one_run_or (instance_by variant meaning key barrier) (c.premises_or_evidence.ensures variant meaning key barrier) events
      (c.fronts_are_one_run.ensures.one variant meaning key barrier events);
  longest = λ variant meaning key barrier events.
      let i = instance_by variant meaning key barrier in
      runs_longest i (c.premises_or_evidence.ensures variant meaning key barrier) (c.fronts_are_one_run.ensures.clear i)
      (c.fronts_are_one_run.ensures.genuine i) events;
}
