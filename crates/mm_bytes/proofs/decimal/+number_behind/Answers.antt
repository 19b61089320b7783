use Rattle.mm_bytes.proofs.Below.{◌∙◌, arith, too_great_with}
use Rattle.mm_bytes.proofs.decimal.+number_behind.Goals as goal

pub returns-in_err-checked_mul : goal.returns-in_err-checked_mul
returns-in_err-checked_mul t c =
    let great = rw c.in_err-checked_mul.was at c.checked_mul.ensures in
    c.from_residual.ensures
    ∙ too_great_with c.args.number c.in-Some.digit.now c.in-Some.rest.now c.args.digits.now c.in-Some.ensures.cases.0 c.requires
    (λ small. great (omega arith))

pub returns-in_err-more : goal.returns-in_err-more
returns-in_err-more t c =
    let product = rw c.in_ok-checked_mul.was at c.checked_mul.ensures in
    let great = rw c.in_err-more.was at c.checked_add.ensures in
    c.from_residual-in_err-more.ensures
    ∙ too_great_with c.args.number c.in-Some.digit.now c.in-Some.rest.now c.args.digits.now c.in-Some.ensures.cases.0 c.requires
    (λ small. great (omega (arith, product.1, c.from.ensures)))
