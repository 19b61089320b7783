use Rattle.mm_schedule.proofs.TellingLaws.{run-fixed}
use Rattle.mm_schedule.proofs.laws.run_is_fixed.Goals as goal

pub returns : goal.returns
returns c meaning requests after other events replies one two = run-fixed meaning requests after other events replies one two
