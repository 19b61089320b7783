use Rattle.mm_expect.proofs.Below.{basic_instance, opt_instance}
use Rattle.mm_expect.proofs.EventLaws.{offers_decided, issued_genuine}
use Rattle.mm_expect.proofs.offers.offers_are_decided.Goals as goal

pub returns-clause-offers : goal.returns-clause-offers
returns-clause-offers c = offers_decided

pub returns-clause-basic : goal.returns-clause-basic
returns-clause-basic c = λ meaning key. issued_genuine (basic_instance meaning key)

pub returns-clause-opt : goal.returns-clause-opt
returns-clause-opt c = λ meaning key barrier. issued_genuine (opt_instance meaning key barrier)
