use Rattle.mm_history.proofs.Below.{◌∙◌, true}
use Rattle.mm_model.specs.Standing.{digest_of}
use Rattle.mm_model.specs.ListLaws.{anchor-nil}
use Rattle.mm_history.proofs.naming.first_stage.Goals as goal

pub returns : goal.returns
returns c = λ barrier j. record { count = 0; entries = 0; anchor = digest_of ((c.start.ensures ∙ anchor-nil c.args.id) j); is_clean = true }
