use Rattle.std.proofs.Common.{◌∙◌, refl, sym}
use Rattle.mm_play.proofs.Stopped.{refused_full}
use Rattle.mm_play.proofs.progress.Progress.put_reply.Goals as goal

pub returns-then-is_full : goal.returns-then-is_full
returns-then-is_full g c =
    refused_full g.S.PlayStage.plays g.S.PlayStage.wants c.args.line.now _ _ c.refusal.result
    (sym c.is_full.ensures ∙ c.if-is_full.true) refl
    c.refusal.ensures
