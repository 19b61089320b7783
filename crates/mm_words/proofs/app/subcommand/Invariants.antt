use Rattle.std.proofs.Common.{take}
use Rattle.clap.specs.Words.{new_app}
use Rattle.mm_words.specs.Commands.{IsForm, with_words}
use Rattle.mm_words.proofs.app.subcommand.Given as goal

-- the words so far were added
abbrev pub invariant-words : goal.invariant-words
invariant-words l = IsForm (with_words (new_app l.form.0.now) (take l.id-index l.form.1.now)) l.command
