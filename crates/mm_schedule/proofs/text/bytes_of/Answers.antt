use Rattle.mm_schedule.proofs.Below.{◌≡◌, sym, ◌∙◌, unwrap_or, bytes_at}
use Rattle.std.specs.Prelude.{[]}
use Rattle.mm_schedule.proofs.MeddleLaws.{digits_give}
use Rattle.mm_schedule.proofs.text.bytes_of.Goals as goal

pub returns : goal.returns
returns c =
    let given : unwrap_or (bytes_at c.args.word.now) [] ≡ c.in-Ok.bytes.items =
    digits_give c.args.word.now c.in-Ok.bytes.items (sym c.is_text.ensures ∙ c.if-is_text.false) c.in-Ok.ensures.ok in
    rw (given, ← c.as_slice.ensures.value) c.copy_of.ensures
