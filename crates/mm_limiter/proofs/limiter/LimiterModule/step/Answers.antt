use Rattle.mm_limiter.proofs.Below.{rules, ap, ◌∙◌, unwrap_or, option_map, as_state, as_request}
use Rattle.mm_limiter.specs.Table.{Unset}
use Rattle.mm_limiter.specs.LimiterLaws.{short_after}
use Rattle.mm_limiter.proofs.ViewLaws.{as_state-unwrap_or}
use Rattle.mm_limiter.proofs.limiter.LimiterModule.step.Goals as goal

-- the secret of a spelled state, or of a request, has at most 64 bytes
pub spelled-requires : goal.spelled-requires
spelled-requires c =
    short_after c.args.state.now c.args.request.now (search (rules, c.requires.spelled))
    (as_state c.unwrap_or-state.result)
    (ap as_state c.unwrap_or-state.ensures ∙ as_state-unwrap_or c.read_state.result
    ∙ ap (λ read. unwrap_or read Unset) c.read_state.ensures)
    (option_map as_request c.read_request.result) c.read_request.ensures
    _ c.outcome-says.ensures
