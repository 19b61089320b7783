use Rattle.mm_life.proofs.OneRequest.{one_request_meets, opt_request_meets}
use Rattle.mm_life.proofs.laws.one_request_meets_premises.Goals as goal

pub returns-clause-basic : goal.returns-clause-basic
returns-clause-basic c = one_request_meets c.sessions_offer_slots.ensures c.premises_are_met.ensures.basic

pub returns-clause-opt : goal.returns-clause-opt
returns-clause-opt c = opt_request_meets c.sessions_offer_slots.ensures c.premises_are_met.ensures.opt
