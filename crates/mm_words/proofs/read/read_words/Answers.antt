use Rattle.std.proofs.Common.{◌≡◌, ◌∙◌, sym, true, rules}
use Rattle.mm_words.proofs.Matched.{one_command}
use Rattle.mm_words.proofs.Reading.{any_text, no_help, one_refused, same_words, too_many}
use Rattle.mm_words.proofs.read.read_words.Goals.{then-words-gt-LONGEST-via-then-words-gt-LONGEST}
use Rattle.mm_words.proofs.read.read_words.Goals.{then-words-gt-LONGEST-via-else-words-gt-LONGEST+then-has_refused}
use Rattle.mm_words.proofs.read.read_words.Goals as goal

pub returns-then-is_alone-clause-ok : goal.returns-then-is_alone-clause-ok
returns-then-is_alone-clause-ok c = record { allowed = tt; spelled = same_words _ _ (sym c.is_alone.ensures ∙ c.if-is_alone.true) }

pub returns-then-words-gt-LONGEST-clause-usage : goal.returns-then-words-gt-LONGEST-clause-usage
returns-then-words-gt-LONGEST-clause-usage c same command spells =
    let matched = no_help _ command spells (sym c.is_alone.ensures ∙ c.if-is_alone.false) in
    elim c.then-words-gt-LONGEST.branch [
      | then-words-gt-LONGEST-via-then-words-gt-LONGEST w ↦ too_many c.args.words.now command spells matched w.if-words-gt-LONGEST.true
      | then-words-gt-LONGEST-via-else-words-gt-LONGEST+then-has_refused w ↦
          one_refused _ command spells matched (sym (any_text c.args.words.now) ∙ sym w.has_refused.ensures ∙ w.if-has_refused.true)
    ]

pub returns-clause-ok : goal.returns-clause-ok
returns-clause-ok c =
    let yes : c.is_spelled.result ≡ true = search rules in
    record { allowed = c.in_ok-command.ensures.allowed; spelled = c.is_spelled.ensures.0 yes }

pub returns-clause-one : goal.returns-clause-one
returns-clause-one c other spells = one_command _ other _ spells (returns-clause-ok c)

pub returns-then-is_alone-clause-one : goal.returns-then-is_alone-clause-one
returns-then-is_alone-clause-one c other spells = one_command _ other _ spells (returns-then-is_alone-clause-ok c)
