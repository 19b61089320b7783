use Rattle.mm_schedule.proofs.Below.{◌≡◌, ◌+◌, ◌-◌, ℕ, suc, List, sym, ap, ◌∙◌, arith, Meddle, meddles_of, meddles_at, meddles_behind}
use Rattle.mm_schedule.proofs.MeddleLaws.{more}
use Rattle.mm_schedule.proofs.text.+more_meddles.Goals as goal

pub returns : goal.returns
returns t c =
    let count = c.args.meddles.now.count in let line = c.in_ok-meddle.line.now in
    let first : Meddle = c.in_ok-meddle.meddle in
    let few : 8 - count ≡ suc (8 - (count + 1)) = omega (arith, c.args.meddles.now.few, c.if-meddles-eq8.false) in
    c.more_meddles.ensures ∙ ap (λ (n : ℕ). meddles_behind (meddles_of c.push.new.self) (meddles_at (8 - n) first.step line))
    c.push.ensures.count
    ∙ ap (λ (front : List Meddle). meddles_behind front (meddles_at (8 - (count + 1)) first.step line)) c.push.ensures.items
    ∙ more (meddles_of c.args.meddles.now) (8 - count) (8 - (count + 1)) c.args.least c.args.line.now c.in-Some.words.now line first few
    (sym c.in-Some.ensures) (sym c.in_ok-meddle.ensures)
