use Rattle.std.proofs.Common.{inr}
use Rattle.mm_slots.proofs.rows.follow_action.Goals as goal

pub returns-in-Err-put_answer-clause-wants : goal.returns-in-Err-put_answer-clause-wants
returns-in-Err-put_answer-clause-wants c = inr c.in-Ok.ensures.ok.stands
