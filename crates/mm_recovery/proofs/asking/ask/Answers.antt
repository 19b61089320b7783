use Rattle.mm_recovery.proofs.Below.{BatchAnswer, Ok, ap, refl}
use Rattle.mm_call.specs.TellingLaws.{wholly}
use Rattle.mm_recovery.proofs.Exits.{is_call}
use Rattle.mm_recovery.proofs.asking.ask.Goals as goal

pub returns-in-Err : goal.returns-in-Err
returns-in-Err g c = is_call _ _ _ _ _ _ _ _ refl c.requires c.in-Err.ensures.asked

pub returns-in-Ok : goal.returns-in-Ok
returns-in-Ok g c =
    is_call _ _ _ _ _ _ _ _
    (ap (λ (all : BatchAnswer). Ok all) (wholly c.in-Ok.answer c.into_one.result c.into_one.ensures.again c.into_one.ensures.position
    c.into_one.ensures.output c.into_one.ensures.snapshot)) c.requires c.in-Ok.ensures.asked
