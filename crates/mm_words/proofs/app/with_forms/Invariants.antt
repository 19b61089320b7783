use Rattle.std.proofs.Common.{◌≡◌, take}
use Rattle.clap.specs.Words.{app_of}
use Rattle.mm_words.specs.Commands.{with_forms}
use Rattle.mm_words.proofs.app.with_forms.Given as goal

-- the forms so far were added
abbrev pub invariant-forms : goal.invariant-forms
invariant-forms l = app_of l.whole ≡ with_forms (app_of l.fn.line) (take l.form-index l.forms)
