use Rattle.mm_history.proofs.Below.{refl}
use Rattle.mm_model.specs.Chains.{basic_instance, opt_instance}
use Rattle.mm_history.proofs.NameLaws.{named_by}
use Rattle.mm_history.proofs.naming.names_are_decided.Goals as goal

pub returns-clause-basic : goal.returns-clause-basic
returns-clause-basic c = λ meaning key y content. named_by (basic_instance meaning key) y content _ refl

pub returns-clause-opt : goal.returns-clause-opt
returns-clause-opt c = λ meaning key barrier y content. named_by (opt_instance meaning key barrier) y content _ refl
