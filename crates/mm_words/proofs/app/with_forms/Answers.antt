use Rattle.mm_words.proofs.Below.{◌∙◌, App, app_of, ap, arith}
use Rattle.mm_words.proofs.Reading.{folded_next}
use Rattle.clap.specs.Words.{with_subcommand}
use Rattle.mm_words.specs.Commands.{form_app}
use Rattle.mm_words.specs.declared.app.Form.{Form}
use Rattle.mm_words.proofs.app.with_forms.Goals as goal

pub forms-preserved : goal.forms-preserved
forms-preserved c =
    let form = c.in_ok-subcommand.ensures in
    folded_next (λ (app : App) (form : Form). with_subcommand app (form_app form).top) (app_of c.args.line) _ c.forms.form-index _
    (app_of c.forms.whole) _ c.forms.invariant
    (c.in_ok-whole.ensures.shape form.local ∙ ap (λ (app : App). with_subcommand (app_of c.forms.whole) app.top) form.told) (omega arith)
