use Rattle.mm_callers.proofs.Below.{refl, batch_answer_of, alone, both}
use Rattle.mm_callers.proofs.Leaving.{refused_first, asked_twice}
use Rattle.mm_callers.proofs.Preparing.{counts_call}
use Rattle.mm_callers.proofs.basic.ask_twice.Goals as goal

pub returns-in-Ok-clause-twice : goal.returns-in-Ok-clause-twice
returns-in-Ok-clause-twice g c =
    asked_twice (g.met.M.Module.is_lawful c.args.module.now) c.in-Ok.ensures c.as_slice-newest.ensures.value c.ask-in-Ok.ensures

pub returns-in-Ok-clause-counts : goal.returns-in-Ok-clause-counts
returns-in-Ok-clause-counts g c =
    both (g.P.Device.standing c.ask.new.platform) (batch_answer_of c.in-Ok.answer) (counts_call c.in-Ok.ensures)
    (counts_call c.ask-in-Ok.ensures)

pub returns-in-Err-clause-twice : goal.returns-in-Err-clause-twice
returns-in-Err-clause-twice g c = refused_first c.args.second.now c.in-Err.ensures

pub returns-in-Err-clause-counts : goal.returns-in-Err-clause-counts
returns-in-Err-clause-counts g c = alone c.in-Err.refusal refl (counts_call c.in-Err.ensures)
