use Rattle.mm_told.specs.HostLaws.{worn_host}
use Rattle.memoir_c.proofs.asking.come_to.Given as goal

abbrev pub ghost-ask : goal.ghost-ask
ghost-ask g a = worn_host a.made.now
