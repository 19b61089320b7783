use Rattle.mm_told.specs.HostLaws.{worn_host}
use Rattle.memoir_c.proofs.batch.come_to.Given as goal

abbrev pub ghost-ask_batch : goal.ghost-ask_batch
ghost-ask_batch g a = worn_host a.made.now
