use Rattle.std.proofs.Common.{◌+◌, ◌≤◌, ◌<◌, length, sym, ◌∙◌, arith}
use Rattle.mm_base.proofs.ReadingLemmas.{range-same, SourceRefills-none, SourceRefills-some}
use Rattle.mm_base.proofs.lines.HeldBytes.refill.Goals as goal

pub invariant_of-self-clause-unbroken : goal.invariant_of-self-clause-unbroken
invariant_of-self-clause-unbroken g c =
    let was = c.make_room.new.self in
    rw (range-same c.take_behind.new.buffer.items was.buffer.items was.start was.scanned was.end was.begun was.seen
    c.in_default.ensures.front)
    was.unbroken

pub returns-in_default-clause-refilled : goal.returns-in_default-clause-refilled
returns-in_default-clause-refilled g c =
    let was = c.make_room.new.self in
    let low : was.start ≤ was.end = omega (arith, was.begun, was.seen) in
    SourceRefills-none _ _ _ _ _ c.in_default.ensures.taken
    (range-same c.take_behind.new.buffer.items was.buffer.items was.start was.end was.end low (omega arith) c.in_default.ensures.front
    ∙ c.make_room.ensures.same)

pub invariant_of-self-2-clause-unbroken : goal.invariant_of-self-2-clause-unbroken
invariant_of-self-2-clause-unbroken g c =
    let was = c.make_room.new.self in
    rw (range-same c.take_behind.new.buffer.items was.buffer.items was.start was.scanned was.end was.begun was.seen c.in-Ok.ensures.front)
    was.unbroken

pub returns-clause-refilled : goal.returns-clause-refilled
returns-clause-refilled g c =
    let was = c.make_room.new.self in
    let now = c.take_behind.new.buffer.items in
    let low : was.start ≤ was.end = omega (arith, was.begun, was.seen) in
    let within : was.end + c.in-Ok.count ≤ length now = rw c.in-Ok.ensures.room c.in-Ok.ensures.within in
    let room : was.end < length now = rw (c.in-Ok.ensures.room, was.room) c.make_room.ensures.room in
    SourceRefills-some _ _ was.buffer.items now _ was.start was.end c.in-Ok.count low within room c.in-Ok.ensures.front
    (sym c.make_room.ensures.same) c.in-Ok.ensures.taken.0 c.in-Ok.ensures.taken.1
