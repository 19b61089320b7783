use Rattle.mm_honest_worlds.proofs.Putting.{puts_arrival, putting_goes}
use Rattle.mm_honest_worlds.proofs.arrival.put_arrival.Goals as goal

pub returns-clause-goes : goal.returns-clause-goes
returns-clause-goes g c = putting_goes c.args.accepted.now c.args.request.now _ _ _ c.put_arrival_inner.ensures

pub returns-clause-puts : goal.returns-clause-puts
returns-clause-puts g c =
    puts_arrival c.args.accepted.now c.args.request.now c.requires.room c.requires.short c.requires.line _ _ _ c.put_arrival_inner.ensures
