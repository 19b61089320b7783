use Rattle.mm_recovery.proofs.Below.{Err, refl, ap, sym, InitFault}
use Rattle.mm_recovery.proofs.setup.set_up_both.Goals as goal

pub returns-in-Err : goal.returns-in-Err
returns-in-Err g c = record {
  stored = Err c.in-Err.fault;
  puts = rw (sym c.as_slice.ensures.value) c.in-Err.ensures;
  goes = (refl, ap (λ (why : InitFault). Err why) c.from.ensures);
}
