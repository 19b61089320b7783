use Rattle.mm_check.proofs.Below.{instance_by, names_by}
use Rattle.mm_check.proofs.EvidenceLaws.{evidence_held, told_by_evidence}
use Rattle.mm_check.proofs.laws.premise_is_evidence.Goals as goal

pub returns : goal.returns
returns c = record {
  told = λ variant meaning key barrier events.
      told_by_evidence (instance_by variant meaning key barrier)
      (names_by c.names_are_decided.ensures.basic c.names_are_decided.ensures.opt variant meaning key barrier) c.premise_is_fixed.ensures
      events;
  held = λ variant meaning key barrier events premise is. evidence_held (instance_by variant meaning key barrier) events premise is;
}
