use Rattle.mm_seal.proofs.Below.{◌≡◌, sym, ◌∙◌, ap, subst, true, false, arith}
use Rattle.mm_seal.specs.declared.cell.Cell.{Cell}
use Rattle.mm_seal.specs.Cell.{FitsVariant, cell_spelling, IsNoCell}
use Rattle.mm_seal.specs.CellLaws.{cell_at-only, variant_in_spelling}
use Rattle.mm_seal.proofs.cell.cell_of.Goals as goal
use Rattle.mm_seal.proofs.cell.cell_of.Goals.{else-fits_variant-via-then-fits_variant+else-is_spelled}
use Rattle.mm_seal.proofs.cell.cell_of.Goals.{else-fits_variant-via-else-fits_variant}

pub returns-in_err-variant : goal.returns-in_err-variant
returns-in_err-variant c =
    let none : IsNoCell c.args.bytes.now =
    λ cell is e. c.in_err-variant.ensures cell.variant (variant_in_spelling c.args.bytes.now cell e) in
    rw c.from_residual.ensures none

pub returns-else-fits_variant : goal.returns-else-fits_variant
returns-else-fits_variant c cell is e =
    let same : c.cell_at-cell.result ≡ cell =
    c.cell_at-cell.ensures
    ∙ cell_at-only c.args.bytes.now cell c.in_ok-variant.variant is e (omega arith) c.in_ok-variant.ensures
    in
    let fits = subst (λ (x : Cell). FitsVariant x.variant x.flag x.barrier) (sym same) is.variant in
    let spelled = e ∙ sym (ap cell_spelling same) in
    elim c.else-fits_variant.branch [
      | else-fits_variant-via-then-fits_variant+else-is_spelled w ↦ (let h : false ≡ true = w.if-is_spelled.ensures.1 spelled in cc)
      | else-fits_variant-via-else-fits_variant w ↦ (let h : false ≡ true = w.if-fits_variant.ensures.1 fits in cc)
    ]
