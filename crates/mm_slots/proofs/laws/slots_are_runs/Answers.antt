use Rattle.mm_slots.proofs.Telling.{premises_give}
use Rattle.mm_slots.proofs.Growing.{slot_fronts_longest, until_evidence}
use Rattle.mm_slots.proofs.laws.slots_are_runs.Goals as goal

pub returns : goal.returns
returns c = record {
  premises = premises_give c.premises_or_evidence.ensures;
  until = until_evidence c.premises_or_evidence.ensures;
  longest = slot_fronts_longest c.premises_or_evidence.ensures c.fronts_are_one_run.ensures.clear c.fronts_are_one_run.ensures.genuine;
}
