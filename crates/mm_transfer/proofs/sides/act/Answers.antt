use Rattle.mm_transfer.proofs.Below.{which_of, pair_of}
use Rattle.mm_transfer.proofs.Acting.{moves_acts}
use Rattle.mm_transfer.proofs.sides.act.Goals as goal

pub returns-in-Moves-clause-acts : goal.returns-in-Moves-clause-acts
returns-in-Moves-clause-acts c =
    moves_acts (pair_of c.args.here.now.seat.header) (which_of c.args.which) c.args.act.now c.in-Moves.meddles
    c.listed-meddles.result.now c.in-Moves.stop c.in-Moves.command c.args.here.now _ c.args.between.now _ c.args.committed.now
    c.command.result c.in-Moves.is c.listed-meddles.ensures c.command.ensures.made
