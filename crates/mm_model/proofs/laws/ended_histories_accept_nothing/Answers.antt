use Rattle.mm_model.proofs.OptJudge.{opt_is_judged}
use Rattle.mm_model.proofs.Below.{ended, Spoiled, Lost, ◌∙◌}
use Rattle.mm_model.proofs.laws.ended_histories_accept_nothing.Goals as goal

pub returns-clause-spoiled : goal.returns-clause-spoiled
returns-clause-spoiled c =
    λ meaning key barrier y offered b all sound clear names e. opt_is_judged meaning key barrier y offered b all sound clear names
    ∙ ended Spoiled y offered.position b e

pub returns-clause-lost : goal.returns-clause-lost
returns-clause-lost c =
    λ meaning key barrier y offered b all sound clear names e. opt_is_judged meaning key barrier y offered b all sound clear names
    ∙ ended Lost y offered.position b e
