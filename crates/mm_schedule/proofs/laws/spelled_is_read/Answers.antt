use Rattle.mm_schedule.proofs.SpelledIsRead as law
use Rattle.mm_schedule.proofs.laws.spelled_is_read.Goals as goal

pub returns : goal.returns
returns c line event spelled = law.spelled_is_read line event spelled
