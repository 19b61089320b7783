use Rattle.mm_words.proofs.Below.{◌∙◌, ℕ, List, Bor, App, app_of, new_app, ap, refl, arith}
use Rattle.mm_words.proofs.Reading.{folded_next}
use Rattle.clap.specs.Words.{with_rule}
use Rattle.mm_words.specs.Commands.{wanted_rule}
use Rattle.mm_words.proofs.app.subcommand.Goals as goal

pub words-preserved : goal.words-preserved
words-preserved c =
    let added = c.in_ok-command.ensures in
    record {
      told = folded_next (λ (app : App) (id : Bor (List ℕ)). with_rule app (wanted_rule id.now)) (new_app c.args.form.now.0.now)
          c.args.form.now.1.now c.words.id-index _ (app_of c.words.command) _ c.words.invariant.told
          (added.shape c.wanted.ensures.local ∙ ap (with_rule (app_of c.words.command)) c.wanted.ensures.rule) (omega arith);
      local = added.globals ∙ rw (c.words.invariant.local, c.wanted.ensures.local) refl;
    }
