use Rattle.mm_told.specs.HostLaws.{worn_host}
use Rattle.memoir_c.proofs.moving.arrive.Given as goal

abbrev pub ghost-accept : goal.ghost-accept
ghost-accept g a = worn_host a.made.now
