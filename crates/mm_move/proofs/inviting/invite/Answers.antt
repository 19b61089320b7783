use Rattle.mm_move.proofs.Below.{List, ℕ, subst, WaitingCell, moved_cell_of}
use Rattle.mm_move.specs.Cells.{MovePromise}
use Rattle.mm_move.specs.Orders.{invitation_in}
use Rattle.mm_move.proofs.Moving.{moved_as, invites_no_fault}
use Rattle.mm_move.proofs.inviting.invite.Goals as goal

pub returns-clause-moved : goal.returns-clause-moved
returns-clause-moved g c =
    let cell : List ℕ → WaitingCell = λ barrier. record {
      variant = c.args.variant;
      «module» = c.args.module;
      nonce = c.args.nonce.now;
      key = c.args.key.now;
      barrier = barrier;
    } in
    let finds = λ (barrier bytes : List ℕ). invitation_in (cell barrier) (moved_cell_of bytes) in
    let before = g.P.Device.standing c.args.platform.now in let after = g.P.Device.standing c.invite_by.new.platform in
    subst (λ (barrier : List ℕ). MovePromise (finds barrier) before after c.invite_by.result) c.barrier_of.ensures
    (moved_as (finds c.barrier_of.result) (λ (bytes : List ℕ). invites_no_fault (cell c.barrier_of.result) (moved_cell_of bytes))
    before after c.invite_by.result c.invite_by.ensures.moves)
