use Rattle.std.proofs.Common.{sym, ◌∙◌}
use Rattle.memoir_c.proofs.Rooming.{only_room, reads_enough}
use Rattle.memoir_c.proofs.pending.memoir_read_pending.Goals as goal

pub returns-clause-enough : goal.returns-clause-enough
returns-clause-enough c h e =
    reads_enough c.args.slot c.args.bytes.now _ _ c.put_request.result c.put_request.ensures.reads h
    (only_room _ (sym c.code.ensures.number ∙ e))
