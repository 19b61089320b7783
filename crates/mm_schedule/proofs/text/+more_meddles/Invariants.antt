use Rattle.std.proofs.Common.{◌-◌}
use Rattle.mm_schedule.proofs.text.+more_meddles.Given as goal

abbrev pub decreases-more_meddles : goal.decreases-more_meddles
decreases-more_meddles l = 8 - l.meddles.now.count
