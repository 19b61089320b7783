use Rattle.mm_schedule.proofs.TellingLaws.{runs-on}
use Rattle.mm_schedule.proofs.laws.runs_go_on.Goals as goal

pub returns : goal.returns
returns c meaning requests between after events more replies others one two =
    runs-on meaning requests between after events more replies others one two
