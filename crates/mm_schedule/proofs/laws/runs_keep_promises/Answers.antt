use Rattle.mm_schedule.proofs.TellingLaws.{promises-kept}
use Rattle.mm_schedule.proofs.laws.runs_keep_promises.Goals as goal

pub returns : goal.returns
returns c «module» events replies requests runs = promises-kept «module» events replies requests runs
