use Rattle.std.proofs.Common.{[], ◌∷◌, ◌∙◌, rules}
use Rattle.mm_honest_worlds.specs.Arrivals.{record_after}
use Rattle.mm_honest_worlds.proofs.Putting.{none_put, record_short}
use Rattle.mm_honest_worlds.proofs.arrival.put_arrival_inner.Goals as goal

pub returns-in_err-record : goal.returns-in_err-record
returns-in_err-record g c = none_put _ (_ ∷ []) (g.T.Store.kept c.args.store.now) _ c.from_residual.ensures.1

pub write-requires-2-clause-short : goal.write-requires-2-clause-short
write-requires-2-clause-short g c =
    record_short (record_after c.args.accepted.now c.args.request.now) c.as_slice-2.result.now
    (c.as_slice-2.ensures.value ∙ c.in_ok-record.ensures) c.requires.line.short

pub returns-in_err-write : goal.returns-in_err-write
returns-in_err-write g c = search rules

pub returns : goal.returns
returns g c = search rules
