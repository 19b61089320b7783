use Rattle.std.proofs.lemmas.Result.{on_ok_weaker}
use Rattle.mm_digest.specs.Messages.{anchored_message}
use Rattle.mm_expect.proofs.CallLaws.{told_closing}
use Rattle.mm_expect.proofs.chronicle.Chronicle.tell_closing.Goals as goal

pub returns-in-Opt : goal.returns-in-Opt
returns-in-Opt c = on_ok_weaker c.list_known.result
    (λ listed. told_closing c.self.view_is c.in-Opt.is c.self.invariant.marks_is listed)
    (c.list_known.ensures (anchored_message c.self.inside.marks.cell.bytes c.self.inside.marks.register.bytes) c.anchored_message.ensures)
