use Rattle.mm_play.proofs.Above.{plays_err, unrefused}
use Rattle.mm_check.specs.declared.verdicts.Verdicts.{Verdicts}
use Rattle.mm_check.proofs.CheckingLaws.{judged_ok, judged_err}
use Rattle.mm_check.proofs.checking.verdicts_by.Goals as goal

pub returns-in-Ok-take_verdicts-clause-judges : goal.returns-in-Ok-take_verdicts-clause-judges
returns-in-Ok-take_verdicts-clause-judges g c =
    judged_ok c.requires c.play.ensures.plays _ tt c.in-Ok.is c.in-Ok-take_verdicts.ensures

pub returns-in-Err-clause-judges : goal.returns-in-Err-clause-judges
returns-in-Err-clause-judges g c =
    judged_err c.requires c.play.ensures.plays c.in-Err.fault c.play.ensures.wrote c.in-Err.is

pub returns-in-Err-clause-complete : goal.returns-in-Err-clause-complete
returns-in-Err-clause-complete g c =
    unrefused (plays_err {R = Verdicts} c.requires c.play.ensures.plays c.in-Err.fault c.in-Err.is)
