use Rattle.mm_model.specs.ListLaws.{same_anchors}
use Rattle.mm_model.proofs.laws.anchors_are_told_apart.Goals as goal

pub returns : goal.returns
returns c = same_anchors
