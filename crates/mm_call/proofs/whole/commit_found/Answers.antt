use Rattle.mm_machine.specs.Acts.{remaining_acts}
use Rattle.mm_call.proofs.Below.{refl, Answered}
use Rattle.mm_call.proofs.Turning.{commits_told}
use Rattle.mm_call.proofs.whole.commit_found.Goals as goal

pub returns-in-Repeat-clause-commits : goal.returns-in-Repeat-clause-commits
returns-in-Repeat-clause-commits g c = rw c.in-Repeat.is (record { ended = Answered c.in-Repeat.answer; ends = (refl, refl); gives = refl })

pub returns-in-Change-clause-commits : goal.returns-in-Change-clause-commits
returns-in-Change-clause-commits g c =
    rw c.in-Change.is (commits_told (remaining_acts c.in-Change.ready.change) c.in-Change.ready.answer
    (g.P.Device.standing c.args.platform.now)
    (g.P.Device.standing c.finish_change.new.platform) c.finish_change.result c.handed_out.result c.finish_change.ensures
    c.handed_out.ensures)
