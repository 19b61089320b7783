use Rattle.mm_base.proofs.Below.{◌<◌, ◌-◌, arith, drop, length, length-drop, length-take}
use Rattle.mm_base.specs.Streams.{held_bytes}
use Rattle.mm_base.proofs.ReadingLemmas.{long_with_break, long_unbroken}
use Rattle.mm_base.proofs.lines.HeldBytes.look.Goals as goal

pub returns-in_default-clause-looks : goal.returns-in_default-clause-looks
returns-in_default-clause-looks c = long_with_break _ _ _ c.if-size-limit.false c.in-Some.ensures.found

pub returns-in_default-2-clause-looks : goal.returns-in_default-2-clause-looks
returns-in_default-2-clause-looks c =
    let now = c.find_break.new.self in
    let long : c.args.limit < length (held_bytes now) =
    omega (
      arith,
      c.if-self-limit.false,
      now.room,
      now.within,
      length-take (now.end - now.start) (drop now.start now.buffer.items),
      length-drop now.start now.buffer.items,
    ) in
    long_unbroken _ _ (rw c.find_break.ensures.same at long) c.in-None.ensures.found
