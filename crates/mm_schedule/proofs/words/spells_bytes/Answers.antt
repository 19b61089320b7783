use Rattle.std.proofs.Common.{sym, ◌∙◌}
use Rattle.mm_schedule.proofs.MeddleLaws.{digits_spell}
use Rattle.mm_schedule.proofs.words.spells_bytes.Goals as goal

pub returns : goal.returns
returns c =
    c.are_digits.ensures ∙ digits_spell c.args.word.now (sym c.is_text.ensures ∙ c.if-is_text.false) (sym c.is_empty.ensures
    ∙ c.if-is_empty.false) c.if-word-eq1.false
