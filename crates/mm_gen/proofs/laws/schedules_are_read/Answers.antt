use Rattle.mm_gen.proofs.Spelled as law
use Rattle.mm_gen.proofs.laws.schedules_are_read.Goals as goal

pub returns : goal.returns
returns c number count header few = law.is_schedule number count header few
