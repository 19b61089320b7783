use Rattle.std.proofs.Common.{Ok, Err, inl, inr}
use Rattle.mm_gen.specs.declared.fault.BulkFault.TheVariants.{Memory}
use Rattle.mm_app.proofs.bulk.run_in_bulk.Goals as goal

pub returns-in-Ok : goal.returns-in-Ok
returns-in-Ok g c rest = elim c.tell_summary.ensures [
  | inl told ↦ record {
    answer = Ok c.in-Ok.summary;
    sums = c.in-Ok.ensures.sums;
    limit = c.in-Ok.ensures.limit;
    replayed = c.in-Ok.ensures.replayed;
    tells = told;
  }
  | inr lacking ↦ record { answer = Err Memory; sums = tt; limit = tt; replayed = tt; tells = lacking }
]
