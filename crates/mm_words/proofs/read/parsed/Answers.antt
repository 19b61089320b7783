use Rattle.mm_words.proofs.Below.{◌∙◌, ℕ, List, sym, ap, map, Bor, App, is_simple, subcommand_of, takes, rows_of}
use Rattle.clap.specs.Matches.{found_of}
use Rattle.mm_words.proofs.Matched.{is_matched, is_taken, is_simple_app}
use Rattle.mm_words.proofs.Reading.{both_of, none_some, same_some}
use Rattle.mm_words.proofs.read.parsed.Goals as goal

abbrev texts : List (Bor (List ℕ)) → List (List ℕ)
texts words = map (λ (s : Bor (List ℕ)). s.now) words

pub returns-in-Err-clause-gets : goal.returns-in-Err-clause-gets
returns-in-Err-clause-gets c command spells matched =
    let kind = c.in-Err.ensures.passes (ap (λ (app : App). takes app (texts c.args.words.now)) c.in-Ok.ensures
    ∙ is_taken command (texts c.args.words.now) spells matched) in
    rw (c.fault_of.ensures kind) tt

pub returns-in-Some-command_in-clause-gets : goal.returns-in-Some-command_in-clause-gets
returns-in-Some-command_in-clause-gets c command spells matched =
    let simple = ap is_simple c.in-Ok.ensures ∙ is_simple_app in
    let of_words = (c.in-Ok-try_get_matches_from.ensures.matches simple).1
    ∙ ap (λ (app : App). subcommand_of app (texts c.args.words.now)) c.in-Ok.ensures in
    let met = both_of _ _ _ c.in-Some.name.now (rows_of (found_of c.in-Some.inner.now)) (sym c.in-Some.ensures.name)
    (sym c.in-Some.ensures.rows) in
    same_some c.in-Some-command_in.command command (c.in-Some-command_in.ensures.matched
    ∙ is_matched command (texts c.args.words.now) c.in-Some.name.now (found_of c.in-Some.inner.now) spells matched (sym of_words ∙ met))

pub returns-clause-gets : goal.returns-clause-gets
returns-clause-gets c command spells matched =
    let simple = ap is_simple c.in-Ok.ensures ∙ is_simple_app in
    let of_words = (c.in-Ok-try_get_matches_from.ensures.matches simple).1
    ∙ ap (λ (app : App). subcommand_of app (texts c.args.words.now)) c.in-Ok.ensures in
    let met = both_of _ _ _ c.in-Some.name.now (rows_of (found_of c.in-Some.inner.now)) (sym c.in-Some.ensures.name)
    (sym c.in-Some.ensures.rows) in
    none_some command (c.in-None.ensures.matched
    ∙ is_matched command (texts c.args.words.now) c.in-Some.name.now (found_of c.in-Some.inner.now) spells matched (sym of_words ∙ met))
