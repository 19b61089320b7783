use Rattle.mm_expect.proofs.Below.{ap, ◌∙◌, content_of, chronicle_instance}
use Rattle.std.specs.Result.{result_ok}
use Rattle.mm_expect.specs.ExpectedState.{told_offer}
use Rattle.mm_expect.proofs.EventLaws.{right_is, offers_decided, genuine_some, names_there}
use Rattle.mm_expect.proofs.offers.are_genuine.Goals as goal

pub returns-in-Err : goal.returns-in-Err
returns-in-Err c = λ bytes told.
    (offers_decided (chronicle_instance c.args.chronicle.now)).not_right c.args.chronicle.now.history bytes
    (right_is (chronicle_instance c.args.chronicle.now) bytes _ told ∙ ap (λ r. result_ok (told_offer r)) c.in-Err.is)

pub returns-in-Ok : goal.returns-in-Ok
returns-in-Ok c = λ bytes told.
    genuine_some c.is_named.result (chronicle_instance c.args.chronicle.now) c.args.chronicle.now.history bytes
    (right_is (chronicle_instance c.args.chronicle.now) bytes _ told ∙ ap (λ r. result_ok (told_offer r)) c.in-Ok.is)
    (names_there c.chronicle.view_is c.chronicle.invariant.barrier_is c.is_named.result (content_of c.in-Ok.body) c.is_named.ensures)
