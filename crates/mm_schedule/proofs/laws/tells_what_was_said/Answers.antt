use Rattle.mm_schedule.proofs.TellingLaws.{tells-said}
use Rattle.mm_schedule.proofs.laws.tells_what_was_said.Goals as goal

pub returns : goal.returns
returns c meaning events replies requests runs = tells-said meaning events replies requests runs
