use Rattle.mm_history.proofs.Below.{◌∙◌, refl, kept_entries}
use Rattle.std.proofs.lemmas.Option.{slice_get_read}
use Rattle.mm_history.proofs.KnownLaws.{stage_found, stage_made}
use Rattle.mm_history.proofs.naming.stage_behind.Goals as goal

pub returns : goal.returns
returns c = λ id before later here counts all are.
    stage_found id c.args.barrier.now before later (kept_entries c.args.items.now) c.args.stages.now c.args.count c.in-Some.stage.now
    (slice_get_read c.args.stages.now _ c.args.count c.in-Some.stage.now refl c.in-Some.ensures.lookup.3.0
    c.in-Some.ensures.lookup.1) (c.if-stage-count.true ∙ counts) are

pub returns-2 : goal.returns-2
returns-2 c = λ id before later here counts all are.
    stage_made id c.args.barrier.now before (kept_entries c.args.items.now) here counts all c.register_of.ensures c.anchored.ensures
    c.some_value.ensures
    c.both.ensures
