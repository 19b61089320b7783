use Rattle.mm_history.proofs.Below.{◌∙◌, ap, sym, length, kept_batches}
use Rattle.mm_history.specs.Naming.{digest_behind}
use Rattle.mm_history.proofs.KnownLaws.{none_known}
use Rattle.mm_history.proofs.naming.digest_anew.Goals as goal

pub returns-in-Opt : goal.returns-in-Opt
returns-in-Opt c = λ barrier. c.zero.ensures ∙ none_known barrier c.args.named.now
    ∙ ap (λ v. digest_behind v c.args.id barrier (length c.args.named.now) (kept_batches c.args.named.now)) (sym c.in-Opt.is)
