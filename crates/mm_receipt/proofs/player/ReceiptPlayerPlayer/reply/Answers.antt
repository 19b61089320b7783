use Rattle.mm_receipt.proofs.Below.{sym, ◌∙◌, ap, Option, CheckState, AskedRequest}
use Rattle.mm_receipt.specs.Reports.{tally_of}
use Rattle.mm_receipt.proofs.Playing.{takes-second}
use Rattle.mm_receipt.proofs.player.ReceiptPlayerPlayer.reply.Goals as goal

pub returns-in-Some : goal.returns-in-Some
returns-in-Some c =
    let with_asked : Option AskedRequest → CheckState = λ a. record { tally = tally_of c.self.inside.tally; asked = a } in
    let after : Option AskedRequest → CheckState = λ a. record { tally = tally_of c.second.new.self; asked = a } in
    takes-second c.args.self.now (tally_of c.self.inside.tally) c.in-Some.asked c.args.line.now (tally_of c.second.new.self)
    _ c.second.result
    (sym c.self.view_is ∙ ap with_asked (sym c.take.ensures.value ∙ c.in-Some.is)) (sym (ap after c.take.ensures.after)) c.second.ensures
