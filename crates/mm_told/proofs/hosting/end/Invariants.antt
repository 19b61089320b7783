use Rattle.mm_told.proofs.Playing.{host_of}
use Rattle.mm_told.proofs.hosting.end.Given as goal

abbrev pub ghost-ask : goal.ghost-ask
ghost-ask g a = host_of a.made.now g.stood
