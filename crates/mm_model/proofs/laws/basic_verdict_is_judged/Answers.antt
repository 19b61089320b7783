use Rattle.mm_model.specs.BatchLaws.{basic_is_judged}
use Rattle.mm_model.proofs.laws.basic_verdict_is_judged.Goals as goal

pub returns : goal.returns
returns c = basic_is_judged
