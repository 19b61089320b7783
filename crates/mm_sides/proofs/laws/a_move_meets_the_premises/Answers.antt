use Rattle.mm_sides.proofs.OneMove.{moves_once}
use Rattle.mm_sides.proofs.laws.a_move_meets_the_premises.Goals as goal

pub returns : goal.returns
returns c = λ variant first_key second_key barrier link nonce long. moves_once variant first_key second_key barrier link nonce long
    (c.premises_are_met.ensures.basic first_key).0.clear (c.premises_are_met.ensures.opt first_key).0.clear
