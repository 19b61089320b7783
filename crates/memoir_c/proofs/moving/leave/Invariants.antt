use Rattle.mm_told.specs.HostLaws.{worn_host}
use Rattle.memoir_c.proofs.moving.leave.Given as goal

abbrev pub ghost-retire : goal.ghost-retire
ghost-retire g a = worn_host a.made.now
