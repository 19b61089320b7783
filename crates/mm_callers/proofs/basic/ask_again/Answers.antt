use Rattle.mm_callers.proofs.Below.{refl, at_once}
use Rattle.mm_callers.proofs.Leaving.{asked_once, asked_after_fault}
use Rattle.mm_callers.proofs.Preparing.{counts_call, counted_again}
use Rattle.mm_callers.proofs.basic.ask_again.Goals as goal

pub returns-in-Ok-clause-again : goal.returns-in-Ok-clause-again
returns-in-Ok-clause-again g c = asked_once c.in-Ok.ensures

pub returns-in-Err-Device-clause-again : goal.returns-in-Err-Device-clause-again
returns-in-Err-Device-clause-again g c =
    asked_after_fault c.in-Err-Device.field-0-is c.in-Err-Device.ensures c.ask-in-Err-Device.ensures

pub returns-in-Err-clause-again : goal.returns-in-Err-clause-again
returns-in-Err-clause-again g c = asked_once c.in-Err.ensures

pub returns-in-Ok-clause-counts : goal.returns-in-Ok-clause-counts
returns-in-Ok-clause-counts g c = at_once refl (counts_call c.in-Ok.ensures)

pub returns-in-Err-Device-clause-counts : goal.returns-in-Err-Device-clause-counts
returns-in-Err-Device-clause-counts g c =
    counted_again c.in-Err-Device.field-0-is (counts_call c.in-Err-Device.ensures) (counts_call c.ask-in-Err-Device.ensures)
