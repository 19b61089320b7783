use Rattle.std.proofs.Common.{rules, subst}
use Rattle.mm_move.specs.declared.link.Link.{Link}
use Rattle.mm_told.specs.HostLaws.{is_worn_host, worn_host}
use Rattle.mm_told_moves.specs.ToldMovePromise.{ToldMovePromise, acceptance_finds}
use Rattle.memoir_c.proofs.moving.arrive.Goals as goal

pub accept-requires : goal.accept-requires
accept-requires g c = search (rules, is_worn_host c.args.made.now)

pub returns-clause-arrives : goal.returns-clause-arrives
returns-clause-arrives g c =
    subst
    (λ (link : Link). ToldMovePromise
    (acceptance_finds (g.M.Module.meaning c.args.module.now) c.args.variant link c.args.ticket.now) (worn_host c.args.made.now)
    c.args.made.now c.accept.result) c.link_of-link.ensures c.accept.ensures.accepts
