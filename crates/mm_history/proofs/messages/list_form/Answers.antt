use Rattle.mm_history.proofs.Below.{List, ℕ, [], ◌∷◌, ◌++◌, ap}
use Rattle.mm_digest.specs.Messages.{anchored_message}
use Rattle.mm_history.proofs.TakenLaws.{listed_behind}
use Rattle.mm_history.proofs.messages.list_form.Goals as goal

pub returns : goal.returns
returns c =
    let first = c.args.extension.now.bytes ++ c.args.value.now.bytes in
    listed_behind c.list_known-2.result _ _ _ (first ∷ []) _ _ (c.in_ok-list_known.ensures first c.joined.ensures)
    (ap (λ (d : List ℕ). first ∷ anchored_message c.args.anchor.now.bytes d ∷ []) c.extended-next.ensures)
    (c.list_known-2.ensures (anchored_message c.args.anchor.now.bytes c.extended-next.result.bytes) c.anchored_message.ensures)
