use Rattle.std.proofs.Common.{◌≡◌, ◌+◌, ◌-◌, take, drop, length, arith}
use Rattle.std.proofs.lemmas.Grind.{common_steps}
use Rattle.mm_module.proofs.WordLaws.{FirstWord, first_word-position}
use Rattle.mm_module.proofs.words.first_word.Goals as goal

pub returns-in-None : goal.returns-in-None
returns-in-None c = first_word-position c.args.text.now _ c.in-None.ensures

pub returns-in-Some : goal.returns-in-Some
returns-in-Some c =
    let found : FirstWord c.args.text.now c.in-Some.at = first_word-position c.args.text.now _ c.in-Some.ensures in
    let s = drop (c.in-Some.at + 1) c.args.text.now in
    let whole : take (length c.args.text.now - (c.in-Some.at + 1)) (drop (c.in-Some.at + 1) c.args.text.now) ≡ drop (c.in-Some.at + 1)
    c.args.text.now = grind (arith, common_steps) in
    rw whole found.parts
