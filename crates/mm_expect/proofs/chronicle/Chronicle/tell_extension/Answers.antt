use Rattle.mm_expect.proofs.Below.{◌++◌}
use Rattle.std.proofs.lemmas.Result.{on_ok_weaker}
use Rattle.mm_expect.proofs.CallLaws.{told_extension}
use Rattle.mm_expect.proofs.chronicle.Chronicle.tell_extension.Goals as goal

pub returns-in-Opt : goal.returns-in-Opt
returns-in-Opt c = on_ok_weaker c.list_known.result
    (λ listed. told_extension c.args.value.now.bytes c.self.view_is c.in-Opt.is c.self.invariant.marks_is listed)
    (c.list_known.ensures (c.self.inside.marks.register.bytes ++ c.args.value.now.bytes) c.joined.ensures)
