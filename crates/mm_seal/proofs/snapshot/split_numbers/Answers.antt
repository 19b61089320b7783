use Rattle.mm_seal.proofs.Below.{◌<◌, ◌∙◌, ap, arith, length, length-append, length-eight_bytes}
use Rattle.mm_bytes.specs.Limits.{eight_bytes}
use Rattle.mm_seal.proofs.snapshot.split_numbers.Goals as goal

pub returns-in_err-length : goal.returns-in_err-length
returns-in_err-length c =
    let sizes = ap length c.in_ok-position.ensures.0 ∙ length-append (eight_bytes c.in_ok-position.position) c.in_ok-position.rest.now in
    let short : length c.args.bytes.now < 12 =
    omega (arith, sizes, length-eight_bytes c.in_ok-position.position, c.in_err-length.ensures) in
    rw c.from_residual-in_err-length.ensures short
