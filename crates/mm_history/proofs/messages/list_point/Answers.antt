use Rattle.mm_history.proofs.Below.{◌≡◌, ◌++◌, [], ◌∷◌, append_assoc}
use Rattle.std.proofs.Common.{rules}
use Rattle.std.proofs.lemmas.Result.{IfOk-equal}
use Rattle.mm_digest.specs.Messages.{anchored_message}
use Rattle.mm_history.proofs.messages.list_point.Goals as goal

pub returns : goal.returns
returns c =
    let closed = anchored_message c.args.anchor.now.bytes c.args.extension.now.bytes in
    let listed : c.list_known.new.messages.items ≡ c.list_form.new.messages.items ++ closed ∷ [] =
    c.in_ok-list_known.ensures closed c.anchored_message.ensures in search (rules, IfOk-equal, append_assoc)
