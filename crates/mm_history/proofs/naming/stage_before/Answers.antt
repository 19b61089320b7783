use Rattle.mm_history.proofs.KnownLaws.{begins_first}
use Rattle.mm_history.proofs.naming.stage_before.Goals as goal

pub returns-in_default : goal.returns-in_default
returns-in_default c = λ barrier segments sized are.
    begins_first c.args.id barrier segments c.args.size c.first_stage.result (c.first_stage.ensures barrier)
