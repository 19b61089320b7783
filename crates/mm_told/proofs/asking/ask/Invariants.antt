use Rattle.mm_told.proofs.asking.ask.Given as goal

abbrev pub ghost-ask_batch : goal.ghost-ask_batch
ghost-ask_batch g a = g.host
