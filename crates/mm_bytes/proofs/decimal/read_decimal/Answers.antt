use Rattle.mm_bytes.proofs.Below.{sym, ◌∙◌, none_without_form, read_by_spelling}
use Rattle.mm_bytes.proofs.decimal.read_decimal.Goals as goal

pub returns-then-not-has_decimal_form-clause-value :
    goal.returns-then-not-has_decimal_form-clause-value
returns-then-not-has_decimal_form-clause-value c =
    sym (none_without_form c.args.bytes.now (sym c.has_decimal_form.ensures ∙ c.if-not-has_decimal_form.true))

pub returns-then-not-has_decimal_form-clause-only :
    goal.returns-then-not-has_decimal_form-clause-only
returns-then-not-has_decimal_form-clause-only c number small spelled =
    sym (none_without_form c.args.bytes.now (sym c.has_decimal_form.ensures ∙ c.if-not-has_decimal_form.true))
    ∙ read_by_spelling c.args.bytes.now number small spelled
