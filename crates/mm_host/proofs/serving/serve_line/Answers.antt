use Rattle.mm_host.proofs.Below.{◌≤◌, arith, most_lines}
use Rattle.mm_host.proofs.Turning.{asked_and_told}
use Rattle.mm_host.proofs.serving.serve_line.Goals as goal

pub returns-in-Ok-clause-turns : goal.returns-in-Ok-clause-turns
returns-in-Ok-clause-turns g c = λ left bytes held few begins.
    let most : c.args.turn.now.number ≤ most_lines = omega arith in
    rw c.in-Ok.is at (asked_and_told begins most left c.ask_and_tell.result c.ask_and_tell.ensures.asks)
