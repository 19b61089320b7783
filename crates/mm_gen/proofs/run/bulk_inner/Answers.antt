use Rattle.mm_gen.proofs.Below.{◌∙◌, ap, sym, RunningReplay, first_running_replay}
use Rattle.mm_gen.proofs.Tallying.{are_left, handed_limit, handed_sums}
use Rattle.mm_gen.proofs.run.bulk_inner.Goals as goal

pub summary_of-requires-clause-few : goal.summary_of-requires-clause-few
summary_of-requires-clause-few c =
    (are_left c.args.number c.args.count c.args.header.now _ _ c.requires.count (c.as_slice.ensures.value ∙ c.in_ok-schedule.ensures)
    c.behind_header-text.ensures).few

pub summary_of-requires-clause-events : goal.summary_of-requires-clause-events
summary_of-requires-clause-events c =
    (are_left c.args.number c.args.count c.args.header.now _ _ c.requires.count (c.as_slice.ensures.value ∙ c.in_ok-schedule.ensures)
    c.behind_header-text.ensures).events

pub summary_of-requires-clause-whole : goal.summary_of-requires-clause-whole
summary_of-requires-clause-whole c =
    (are_left c.args.number c.args.count c.args.header.now _ _ c.requires.count (c.as_slice.ensures.value ∙ c.in_ok-schedule.ensures)
    c.behind_header-text.ensures).whole

pub summary_of-requires-clause-first : goal.summary_of-requires-clause-first
summary_of-requires-clause-first c =
    let is = c.in_ok-progress.ensures in is ∙ ap (λ (r : RunningReplay). first_running_replay r.header) (sym is)

pub returns-clause-sums : goal.returns-clause-sums
returns-clause-sums c =
    handed_sums c.args.header.now _ _ _ c.summary_of.result
    (are_left c.args.number c.args.count c.args.header.now _ _ c.requires.count (c.as_slice.ensures.value ∙ c.in_ok-schedule.ensures)
    c.behind_header-text.ensures).lines (ap (λ (r : RunningReplay). r.header) c.in_ok-progress.ensures) c.summary_of.ensures.sums

pub returns-clause-limit : goal.returns-clause-limit
returns-clause-limit c =
    handed_limit c.args.header.now _ _ _ c.summary_of.result
    (are_left c.args.number c.args.count c.args.header.now _ _ c.requires.count (c.as_slice.ensures.value ∙ c.in_ok-schedule.ensures)
    c.behind_header-text.ensures).lines (ap (λ (r : RunningReplay). r.header) c.in_ok-progress.ensures) c.summary_of.ensures.limit
