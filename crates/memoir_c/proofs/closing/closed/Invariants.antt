use Rattle.mm_told.specs.HostLaws.{worn_host}
use Rattle.memoir_c.proofs.closing.closed.Given as goal

abbrev pub ghost-checkpoint : goal.ghost-checkpoint
ghost-checkpoint a = worn_host a.made.now
