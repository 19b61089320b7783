use Rattle.mm_history.proofs.Below.{◌∙◌, length, sym, arith, kept_batch, length-map}
use Rattle.mm_history.proofs.PlaceLaws.{begins_fits, begins_same, begins_within, segments_are, segments_on}
use Rattle.mm_history.proofs.naming.some_place.Goals as goal

pub segments_from-requires : goal.segments_from-requires
segments_from-requires c =
    let same = segments_are c.closed-closed.result.now c.closed-closed.ensures in
    let within = begins_within c.args.id c.args.barrier.now c.args.lists.now.closed _ c.stage_before-first.result
    (c.stage_before-first.ensures c.args.barrier.now c.args.lists.now.closed same c.requires.stages) in
    omega (arith, within, same)

pub some_place_from-requires-clause-first : goal.some_place_from-requires-clause-first
some_place_from-requires-clause-first c = (c.stage_before-first.ensures c.args.barrier.now c.args.lists.now.closed
    (segments_are c.closed-closed.result.now c.closed-closed.ensures) c.requires.stages).is

pub some_place_from-requires-clause-closed : goal.some_place_from-requires-clause-closed
some_place_from-requires-clause-closed c = segments_on c.closed-closed.result.now c.stage_before-first.result.count c.closed-closed.ensures
    c.segments_from.ensures

pub some_place_from-requires-clause-fits : goal.some_place_from-requires-clause-fits
some_place_from-requires-clause-fits c = begins_fits c.args.id c.args.barrier.now c.args.lists.now.closed _ c.stage_before-first.result
    (c.stage_before-first.ensures c.args.barrier.now c.args.lists.now.closed
    (segments_are c.closed-closed.result.now c.closed-closed.ensures) c.requires.stages)

pub returns : goal.returns
returns c =
    let begins = c.stage_before-first.ensures c.args.barrier.now c.args.lists.now.closed
    (segments_are c.closed-closed.result.now c.closed-closed.ensures) c.requires.stages in
    c.some_place_from.ensures
    ∙ begins_same c.args.id c.args.barrier.now c.args.lists.now _ c.args.sought.now.anchor.now.bytes c.args.sought.now.extension.now.bytes
    (length c.args.sought.now.named.now) c.stage_before-first.result (sym (length-map c.args.sought.now.named.now kept_batch)) begins
