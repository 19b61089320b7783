use Rattle.std.proofs.Common.{sym}
use Rattle.mm_client.proofs.LocalLives.{heard_at_end}
use Rattle.mm_client.proofs.remembering.heard_position.Goals as goal

pub returns-in-Some : goal.returns-in-Some
returns-in-Some c = sym (heard_at_end c.args.before _ _ _ c.in-Some.ensures.cases.0)
