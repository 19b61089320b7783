use Rattle.mm_model.specs.FormLaws.{basic_messages}
use Rattle.mm_model.proofs.move_laws.basic_messages_go_on.Goals as goal

pub returns : goal.returns
returns c = basic_messages
