use Rattle.mm_seal.proofs.Below.{arith, SpellsNoContent, no_front-short, no_front-variant, no_front-fields}
use Rattle.mm_seal.proofs.snapshot.variant_at.Goals as goal

pub returns-then-front-lt50 : goal.returns-then-front-lt50
returns-then-front-lt50 c = no_front-short c.args.front.now c.if-front-lt50.true

pub returns-in_err-variant : goal.returns-in_err-variant
returns-in_err-variant c =
    let none : SpellsNoContent c.args.front.now = no_front-variant c.args.front.now c.in_err-variant.ensures in
    rw c.from_residual.ensures none

pub returns-then-front-place_len : goal.returns-then-front-place_len
returns-then-front-place_len c =
    no_front-fields c.args.front.now c.in_ok-variant.variant c.in_ok-variant.ensures (omega arith)
