use Rattle.mm_seal.proofs.Below.{◌≡◌, ◌∙◌, ap, sym, refl, arith, get_or, List, ℕ, true, false, get_or-take, HasHead, joined}
use Rattle.mm_seal.proofs.Below.{no_end_in_fields, front_of_fields, only_content}
use Rattle.mm_digest.specs.Messages.{variant_byte}
use Rattle.mm_seal.specs.Snapshot.{Content, variant_of}
use Rattle.mm_seal.proofs.snapshot.body_of.Goals as goal

pub returns-in_err-position : goal.returns-in_err-position
returns-in_err-position c =
    absurd (no_end_in_fields c.in_ok-variant.variant c.split_place-place.result.0 c.args.front.now c.split_at.result.0.now
    c.split_at.result.1.now c.split_place-place.result.1.now c.in_ok-variant.ensures.1
    (joined 6 _ _ _ c.split_at.ensures.front c.split_at.ensures.back) c.split_at.ensures.front_len c.split_place-place.ensures.0
    c.split_place-place.ensures.1 c.split_place-place.ensures.2 c.in_err-position.ensures)

pub returns-then-is_body : goal.returns-then-is_body
returns-then-is_body c =
    front_of_fields _ c.args.front.now c.split_at.result.0.now c.split_at.result.1.now c.split_place-place.result.1.now
    _ c.in_ok-position.length (joined 6 _ _ _ c.split_at.ensures.front c.split_at.ensures.back)
    c.split_place-place.ensures.2 c.split_place-place.ensures.0 c.in_ok-position.ensures.0 refl
    (c.if-is_body.ensures.0 refl)

pub returns-else-is_body : goal.returns-else-is_body
returns-else-is_body c x is e =
    let y : Content = record {
      id = get_or c.split_at.result.0.now 5 0;
      place = c.split_place-place.result.0;
      position = c.in_ok-position.position;
      state = c.in_ok-position.state.now;
    } in
    let kind : variant_byte (variant_of y.place) ≡ get_or c.split_at.result.0.now 4 0 =
    ap variant_byte c.split_place-place.ensures.1 ∙ c.in_ok-variant.ensures.0
    ∙ sym (ap (λ (z : List ℕ). get_or z 4 0) c.split_at.ensures.front ∙ get_or-take 6 c.args.front.now 4 0 (omega arith))
    in
    let all : HasHead y c.split_at.result.0.now c.in_ok-position.length =
    only_content x y c.args.front.now c.split_at.result.0.now c.split_at.result.1.now c.split_place-place.result.1.now
    _ c.in_ok-position.length is e
    (joined 6 _ _ _ c.split_at.ensures.front c.split_at.ensures.back) c.split_at.ensures.front_len kind refl
    c.split_place-place.ensures.2 c.split_place-place.ensures.0 c.in_ok-position.ensures.0 refl
    c.in_ok-position.ensures.1 c.in_ok-position.ensures.2
    in
    let h : false ≡ true = c.if-is_body.ensures.1 all in cc
