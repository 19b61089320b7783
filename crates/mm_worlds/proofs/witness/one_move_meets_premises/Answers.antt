use Rattle.mm_worlds.proofs.Moving.{one_move_meets}
use Rattle.mm_worlds.proofs.witness.one_move_meets_premises.Goals as goal

pub returns : goal.returns
returns c = one_move_meets c.premises_are_met.ensures.basic
