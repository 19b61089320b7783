use Rattle.mm_expect.proofs.Below.{ap, chronicle_instance, offered_bytes}
use Rattle.mm_expect.proofs.EventLaws.{decided_issued, decided_some}
use Rattle.mm_expect.proofs.offers.is_genuine_offer.Goals as goal

pub returns-in-Flip : goal.returns-in-Flip
returns-in-Flip c = λ issued bytes told is.
    decided_some c.are_genuine.result (chronicle_instance c.args.chronicle.now) c.args.chronicle.now.history issued c.args.offer.now is
    (c.are_genuine.ensures bytes told)

pub returns-in-Number : goal.returns-in-Number
returns-in-Number c = λ issued bytes told is.
    decided_issued c.args.chronicle.now issued _ _ (ap (offered_bytes issued) c.in-Number.is)

pub returns-in-Last : goal.returns-in-Last
returns-in-Last c = λ issued bytes told is.
    decided_issued c.args.chronicle.now issued _ _ (ap (offered_bytes issued) c.in-Last.is)
