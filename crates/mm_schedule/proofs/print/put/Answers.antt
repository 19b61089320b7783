use Rattle.std.proofs.Common.{List, ℕ, ◌+◌, ◌≤◌, ◌++◌, ◌≡◌, ap, ◌∙◌, length, take, arith, refl}
use Rattle.std.proofs.lemmas.Slice.{take-put_mid}
use Rattle.mm_schedule.proofs.print.put.Goals as goal

pub returns-clause-text : goal.returns-clause-text
returns-clause-text c =
    let put = c.copy_from_slice.ensures.after in
    let end : c.args.at + length c.args.piece.now ≡ c.args.at + length c.copy_from_slice.new.self = rw put refl in
    let within : c.args.at ≤ length c.args.into.now = omega arith in
    take-put_mid c.args.at _ c.args.into.now c.copy_from_slice.new.self _ end within
    ∙ ap (λ (piece : List ℕ). take c.args.at c.args.into.now ++ piece) put
