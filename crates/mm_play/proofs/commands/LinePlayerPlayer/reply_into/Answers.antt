use Rattle.mm_play.proofs.commands.LinePlayerPlayer.reply_into.Goals as goal

pub returns-in-Heading : goal.returns-in-Heading
returns-in-Heading g c = rw (← c.self.view_is) (c.take_heading_line.ensures c.args.into.now)
