use Rattle.std.proofs.Common.{rules, subst}
use Rattle.mm_move.specs.declared.link.Link.{Link}
use Rattle.mm_told.specs.HostLaws.{is_worn_host, worn_host}
use Rattle.mm_told_moves.specs.ToldMovePromise.{ToldMovePromise, retirement_finds}
use Rattle.memoir_c.proofs.moving.leave.Goals as goal

pub retire-requires : goal.retire-requires
retire-requires g c = search (rules, is_worn_host c.args.made.now)

pub returns-clause-leaves : goal.returns-clause-leaves
returns-clause-leaves g c =
    subst
    (λ (link : Link). ToldMovePromise
    (retirement_finds (g.M.Module.meaning c.args.module.now) c.args.variant link c.args.nonce.now c.args.offer.now)
    (worn_host c.args.made.now) c.args.made.now c.retire.result) c.link_of-link.ensures c.retire.ensures.retires
