use Rattle.mm_model.specs.ListLaws.{same_summaries}
use Rattle.mm_model.proofs.laws.summaries_are_told_apart.Goals as goal

pub returns : goal.returns
returns c = same_summaries
