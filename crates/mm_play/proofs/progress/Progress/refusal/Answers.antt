use Rattle.mm_play.proofs.Stopped.{spelled}
use Rattle.mm_play.proofs.progress.Progress.refusal.Goals as goal

pub returns-in-Ok-true : goal.returns-in-Ok-true
returns-in-Ok-true g c =
    spelled (g.S.PlayStage.plays.answer c.args.self.now.stage c.args.line.now) c.in-Ok-true.field-0 c.in-Ok-true.ensures
    c.in-Ok-true.field-0-test
