use Rattle.mm_numbering.proofs.Below.{ap, ◌∙◌, sym, digest_items}
use Rattle.std.proofs.lemmas.Result.{on_ok_weaker}
use Rattle.mm_numbering.proofs.GuardLaws.{has_more}
use Rattle.mm_numbering.proofs.guards.add_guard.Goals as goal

pub returns-in-Some : goal.returns-in-Some
returns-in-Some c = λ known h. on_ok_weaker c.put.result
    (λ put. has_more known c.args.set.now c.put.new.set c.in-Some.guard.bytes _ h put
    (sym (ap digest_items c.in-Some.is) ∙ c.guard_in.ensures)) c.put.ensures
