use Rattle.mm_at_work.proofs.Below.{ap, sym, ◌∙◌, TornMemory}
use Rattle.mm_at_work.proofs.CommandsKeeping.{tells_picked}
use Rattle.mm_at_work.proofs.sessions.tells_cell.Goals as goal

pub returns : goal.returns
returns c =
    tells_picked c.args.platform.now c.bytes-bytes.result.now
    (sym (ap (λ (memory : TornMemory). memory.standing.cell) c.raw.ensures) ∙ c.bytes-bytes.ensures) c.has_size.ensures
