use Rattle.mm_bytes.proofs.Below.{ap, sym, ◌∙◌, List, ℕ, ◌++◌, arith, ◌≡◌, length, length-take-le, joined, four_bytes-front}
use Rattle.mm_bytes.proofs.fields.split_u32.Goals as goal

pub returns : goal.returns
returns c =
    let parts = c.in_ok-front.ensures.cases in
    let size : length c.in_ok-front.front.now ≡ 4 = ap length parts.0 ∙ length-take-le 4 c.args.bytes.now (omega arith) in
    let spelled =
    four_bytes-front c.args.bytes.now c.in_ok-front.front.now c.from_be_bytes.result
    (λ i. omega (arith, c.type_inv.bytes i)) parts.0 size
    c.from_be_bytes.ensures
    in (
      joined 4 _ _ _ parts.0 parts.1 ∙ ap (λ (x : List ℕ). x ++ c.in_ok-front.rest.now) (sym spelled),
      omega (arith, c.from_be_bytes.type_inv),
    )
