use Rattle.mm_callers.proofs.Below.{refl, batch_answer_of, replied}
use Rattle.mm_callers.specs.Counts.{in_first, in_closing, in_second}
use Rattle.mm_callers.proofs.Preparing.{counts_call}
use Rattle.mm_callers.proofs.OptRepeating.{repeats_behind, never_twice, refused_first, refused_closing, refused_again}
use Rattle.mm_callers.proofs.closing.ask_close_repeat.Goals as goal

pub returns-in-Ok-ask-clause-repeats : goal.returns-in-Ok-ask-clause-repeats
returns-in-Ok-ask-clause-repeats g c =
    repeats_behind c.in-Ok.first c.in-Ok-ask.second c.in-Ok.ensures c.in-Ok-checkpoint.ensures.goes
    c.in-Ok-ask.ensures

pub returns-in-Ok-ask-clause-never_twice : goal.returns-in-Ok-ask-clause-never_twice
returns-in-Ok-ask-clause-never_twice g c =
    never_twice c.in-Ok.first c.in-Ok-ask.second c.in-Ok.ensures c.in-Ok-checkpoint.ensures.goes
    c.in-Ok-ask.ensures

pub returns-in-Err-clause-counts : goal.returns-in-Err-clause-counts
returns-in-Err-clause-counts g c = in_first c.in-Err.refusal refl (counts_call c.in-Err.ensures)

pub returns-in-Err-checkpoint-clause-counts : goal.returns-in-Err-checkpoint-clause-counts
returns-in-Err-checkpoint-clause-counts g c =
    in_closing c.in-Err-checkpoint.refusal refl (g.P.Device.standing c.ask.new.platform) (batch_answer_of c.in-Ok.first)
    (counts_call c.in-Ok.ensures)
    (record { steps = c.in-Err-checkpoint.ensures.steps; faults = c.in-Err-checkpoint.ensures.faults })

pub returns-in-Err-ask-clause-counts : goal.returns-in-Err-ask-clause-counts
returns-in-Err-ask-clause-counts g c =
    in_second c.in-Err-ask.refusal refl (g.P.Device.standing c.ask.new.platform) (g.P.Device.standing c.checkpoint.new.platform)
    (batch_answer_of c.in-Ok.first) c.in-Ok-checkpoint.field-0 (counts_call c.in-Ok.ensures)
    (record { steps = c.in-Ok-checkpoint.ensures.steps; faults = c.in-Ok-checkpoint.ensures.faults })
    (counts_call c.in-Err-ask.ensures)

pub returns-in-Ok-ask-clause-counts : goal.returns-in-Ok-ask-clause-counts
returns-in-Ok-ask-clause-counts g c =
    replied c.in-Ok.first c.in-Ok-ask.second refl (g.P.Device.standing c.ask.new.platform) (g.P.Device.standing c.checkpoint.new.platform)
    c.in-Ok-checkpoint.field-0 (counts_call c.in-Ok.ensures)
    (record { steps = c.in-Ok-checkpoint.ensures.steps; faults = c.in-Ok-checkpoint.ensures.faults })
    (counts_call c.in-Ok-ask.ensures)

pub returns-in-Err-clause-repeats : goal.returns-in-Err-clause-repeats
returns-in-Err-clause-repeats g c = refused_first c.in-Err.ensures

pub returns-in-Err-checkpoint-clause-repeats : goal.returns-in-Err-checkpoint-clause-repeats
returns-in-Err-checkpoint-clause-repeats g c = refused_closing c.in-Ok.ensures c.in-Err-checkpoint.ensures.goes

pub returns-in-Err-ask-clause-repeats : goal.returns-in-Err-ask-clause-repeats
returns-in-Err-ask-clause-repeats g c =
    refused_again c.in-Ok.ensures c.in-Ok-checkpoint.ensures.goes c.in-Err-ask.ensures
