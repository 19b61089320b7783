use Rattle.std.proofs.lemmas.Result.{on_ok_weaker}
use Rattle.mm_expect.proofs.Settling.{changes_then}
use Rattle.mm_expect.proofs.chronicle.Chronicle.step.Goals as goal

pub returns-in_ok-bring_due-in-Changes : goal.returns-in_ok-bring_due-in-Changes
returns-in_ok-bring_due-in-Changes c = on_ok_weaker c.make.result
    (changes_then _ _ _ _ c.args.is_made _ _ c.in-Changes.is c.in_ok-bring_due-in-Changes.ensures) c.make.ensures
