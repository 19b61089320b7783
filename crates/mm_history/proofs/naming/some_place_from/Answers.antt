use Rattle.std.proofs.Common.{ap, length, take, drop, sym, ◌∙◌}
use Rattle.mm_history.proofs.Below.{anchor_at, take-append-drop}
use Rattle.mm_history.proofs.PlaceLaws.{segments_are, walk_at, walk_begins, walk_here, walk_past, walk_on}
use Rattle.mm_history.proofs.naming.some_place_from.Goals as goal

pub closed-init : goal.closed-init
closed-init c = walk_begins c.args.id c.args.barrier.now c.args.lists.now c.args.sought.now.named.now c.args.sought.now.anchor.now.bytes
    c.args.sought.now.extension.now.bytes (take c.args.first.now.count c.args.lists.now.closed) c.args.closed.now c.args.first.now
    c.requires.first c.requires.fits

pub returns-then-is_here : goal.returns-then-is_here
returns-then-is_here c =
    walk_here c.args.sought.now.named.now (take c.args.first.now.count c.args.lists.now.closed)
    (drop c.args.first.now.count c.args.lists.now.closed) c.args.closed.now c.closed.segment-index c.segment-item.result c.closed-test.true
    c.segment-item.is c.closed.invariant (ap length c.as_slice-items.ensures.value) c.is_clear-is_shut.ensures c.both-ends.ensures
    c.is_here.ensures c.requires.closed c.if-is_here.true

pub returns-then-size-sought : goal.returns-then-size-sought
returns-then-size-sought c =
    walk_past c.args.sought.now.named.now (take c.args.first.now.count c.args.lists.now.closed)
    (drop c.args.first.now.count c.args.lists.now.closed) c.args.closed.now c.closed.segment-index c.segment-item.result c.closed-test.true
    c.segment-item.is c.closed.invariant (ap length c.as_slice-items.ensures.value) c.is_clear-is_shut.ensures c.both-ends.ensures
    c.is_here.ensures c.requires.closed c.if-is_here.false c.if-size-sought.true
    (c.last_anchor-last.ensures ∙ ap (anchor_at c.args.id c.args.barrier.now) c.closed-all.ensures) c.is_inside.ensures

pub closed-preserved : goal.closed-preserved
closed-preserved c =
    walk_on c.args.sought.now.named.now (take c.args.first.now.count c.args.lists.now.closed)
    (drop c.args.first.now.count c.args.lists.now.closed) c.args.closed.now c.closed.segment-index c.segment-item.result c.closed-test.true
    c.segment-item.is c.closed.invariant (ap length c.as_slice-items.ensures.value) c.is_clear-is_shut.ensures c.both-ends.ensures
    c.is_here.ensures c.requires.closed c.if-is_here.false c.args.stages.now c.if-size-sought.false c.as_slice-items.ensures.value
    (sym (take-append-drop c.args.first.now.count c.args.lists.now.closed)) c.requires.stages
    (segments_are c.closed-all.result.now c.closed-all.ensures) c.saturating_sub.ensures c.stage_behind-here.ensures

pub returns-then-is_at : goal.returns-then-is_at
returns-then-is_at c =
    walk_at c.args.sought.now.named.now (take c.args.first.now.count c.args.lists.now.closed)
    (drop c.args.first.now.count c.args.lists.now.closed) c.args.closed.now c.closed.segment-index c.closed-test.false c.closed.invariant
    c.is_at.ensures c.if-is_at.true c.requires.closed
