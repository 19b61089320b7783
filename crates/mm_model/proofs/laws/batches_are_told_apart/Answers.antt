use Rattle.mm_model.specs.ListLaws.{same_links, same_guards}
use Rattle.mm_model.proofs.laws.batches_are_told_apart.Goals as goal

pub returns-clause-link : goal.returns-clause-link
returns-clause-link c = same_links

pub returns-clause-guard : goal.returns-clause-guard
returns-clause-guard c = λ all clear barrier b d. same_guards barrier all clear b d
