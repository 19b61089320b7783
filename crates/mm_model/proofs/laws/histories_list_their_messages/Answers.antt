use Rattle.mm_model.specs.FormLaws.{clear_alone}
use Rattle.mm_model.proofs.laws.histories_list_their_messages.Goals as goal

pub returns : goal.returns
returns c = clear_alone
