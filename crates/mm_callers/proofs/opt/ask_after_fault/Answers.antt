use Rattle.mm_callers.proofs.Below.{batch_result_of}
use Rattle.mm_callers.proofs.OptCalls.{asked_once, asked_after_fault, asked_quietly, asked_faultless}
use Rattle.mm_callers.proofs.Preparing.{counts_call, counted_again}
use Rattle.mm_callers.proofs.opt.ask_after_fault.Goals as goal

pub returns-in-Ok-clause-once : goal.returns-in-Ok-clause-once
returns-in-Ok-clause-once g c = asked_once c.in-Ok.ensures

pub returns-in-Err-Device-clause-once : goal.returns-in-Err-Device-clause-once
returns-in-Err-Device-clause-once g c =
    asked_after_fault c.in-Err-Device.field-0-is c.in-Err-Device.ensures c.ask-in-Err-Device.ensures

pub returns-in-Err-clause-once : goal.returns-in-Err-clause-once
returns-in-Err-clause-once g c = asked_once c.in-Err.ensures

pub returns-in-Err-Device-clause-counts : goal.returns-in-Err-Device-clause-counts
returns-in-Err-Device-clause-counts g c =
    counted_again c.in-Err-Device.field-0-is (counts_call c.in-Err-Device.ensures) (counts_call c.ask-in-Err-Device.ensures)

pub returns-in-Ok-clause-complete : goal.returns-in-Ok-clause-complete
returns-in-Ok-clause-complete g c = asked_quietly c.in-Ok.ensures

pub returns-in-Err-Device-clause-complete : goal.returns-in-Err-Device-clause-complete
returns-in-Err-Device-clause-complete g c =
    asked_faultless (g.P.Device.standing c.ask-in-Err-Device.new.platform) (batch_result_of c.ask-in-Err-Device.result)
    c.in-Err-Device.field-0-is
    c.in-Err-Device.ensures

pub returns-in-Err-clause-complete : goal.returns-in-Err-clause-complete
returns-in-Err-clause-complete g c = asked_quietly c.in-Err.ensures
