use Rattle.std.proofs.Common.{sym, ◌∙◌}
use Rattle.memoir_c.specs.Numbers.{number_of}
use Rattle.memoir_c.proofs.Rooming.{record_enough}
use Rattle.memoir_c.proofs.pending.memoir_pending.Goals as goal

pub returns-clause-enough : goal.returns-clause-enough
returns-clause-enough c h e =
    record_enough c.args.position c.args.request.now _ (number_of c.put_record.result) c.put_record.ensures.records h
    (sym c.code.ensures.number ∙ e)
