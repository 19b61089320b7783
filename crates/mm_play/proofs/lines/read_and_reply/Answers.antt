use Rattle.std.proofs.Common.{arith}
use Rattle.std.proofs.lemmas.Grind.{common_steps}
use Rattle.mm_play.proofs.Turning.{advanced_by_line, advanced_by_tail, advanced_by_long}
use Rattle.mm_play.proofs.lines.read_and_reply.Goals as goal

pub returns-in-Ok-Line-clause-advances : goal.returns-in-Ok-Line-clause-advances
returns-in-Ok-Line-clause-advances g c =
    advanced_by_line g.P.Player.answer g.P.Player.closing c.args.number c.args.player.now c.queue_reply.new.player _ _ _ _ _ _
    c.queue_reply.result
    c.next.result c.in-Ok-Line.field-0 c.in-Ok-Line.line c.next.follows.holds-at-none c.in-Ok-Line.is c.in-Ok-Line.field-0-is
    c.queue_reply.ensures

pub returns-in-Ok-Tail-clause-advances : goal.returns-in-Ok-Tail-clause-advances
returns-in-Ok-Tail-clause-advances g c =
    advanced_by_tail g.P.Player.answer g.P.Player.closing c.args.number c.args.player.now _ _ _ _ _
    c.next.result c.next.follows.holds-at-none c.in-Ok-Tail.field-0 c.in-Ok-Tail.is c.in-Ok-Tail.field-0-is

pub returns-in-Err-LineLong-clause-advances : goal.returns-in-Err-LineLong-clause-advances
returns-in-Err-LineLong-clause-advances g c =
    advanced_by_long g.P.Player.answer g.P.Player.closing c.args.number c.args.player.now _ _ _ _ _
    c.next.result c.next.follows.holds-at-none c.in-Err-LineLong.field-0 c.in-Err-LineLong.is c.in-Err-LineLong.field-0-is

pub returns-in-Ok-Tail-clause-read : goal.returns-in-Ok-Tail-clause-read
returns-in-Ok-Tail-clause-read g c = grind (arith, common_steps)

pub returns-in-Ok-Tail-clause-unwritten : goal.returns-in-Ok-Tail-clause-unwritten
returns-in-Ok-Tail-clause-unwritten g c = grind (arith, common_steps)

pub returns-in-Ok-End-clause-read : goal.returns-in-Ok-End-clause-read
returns-in-Ok-End-clause-read g c = grind (arith, common_steps)

pub returns-in-Ok-End-clause-unwritten : goal.returns-in-Ok-End-clause-unwritten
returns-in-Ok-End-clause-unwritten g c = grind (arith, common_steps)

pub returns-in-Ok-End-clause-advances : goal.returns-in-Ok-End-clause-advances
returns-in-Ok-End-clause-advances g c = grind (arith, common_steps)

pub returns-in-Err-ReadFault-clause-read : goal.returns-in-Err-ReadFault-clause-read
returns-in-Err-ReadFault-clause-read g c = grind (arith, common_steps)

pub returns-in-Err-ReadFault-clause-unwritten : goal.returns-in-Err-ReadFault-clause-unwritten
returns-in-Err-ReadFault-clause-unwritten g c = grind (arith, common_steps)

pub returns-in-Err-ReadFault-clause-advances : goal.returns-in-Err-ReadFault-clause-advances
returns-in-Err-ReadFault-clause-advances g c = grind (arith, common_steps)

pub returns-in-Err-LineLong-clause-read : goal.returns-in-Err-LineLong-clause-read
returns-in-Err-LineLong-clause-read g c = grind (arith, common_steps)

pub returns-in-Err-LineLong-clause-unwritten : goal.returns-in-Err-LineLong-clause-unwritten
returns-in-Err-LineLong-clause-unwritten g c = grind (arith, common_steps)
