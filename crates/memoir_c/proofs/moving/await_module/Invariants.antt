use Rattle.mm_told.specs.HostLaws.{worn_host}
use Rattle.memoir_c.proofs.moving.await_module.Given as goal

abbrev pub ghost-invite : goal.ghost-invite
ghost-invite a = worn_host a.made.now
