use Rattle.mm_history.proofs.Below.{List, ℕ, [], ◌∷◌, ap, sym, ◌∙◌, Place}
use Rattle.mm_module.specs.Batches.{batch_of}
use Rattle.mm_model.specs.Chains.{guard_message}
use Rattle.mm_model.specs.Messages.{point_messages}
use Rattle.mm_history.specs.Naming.{messages_at_place}
use Rattle.mm_history.proofs.TakenLaws.{listed_behind}
use Rattle.mm_history.proofs.messages.list_place.Goals as goal

pub returns-in_ok-list_known-in-Opt : goal.returns-in_ok-list_known-in-Opt
returns-in_ok-list_known-in-Opt c =
    let barrier = c.args.barrier.now in let batch = batch_of c.args.batch in let first = guard_message barrier batch in
    let whole =
    ap (λ (v : List ℕ). first ∷ point_messages c.in-Opt.anchor.bytes c.in-Opt.extension.bytes v) c.guard-value.ensures
    ∙ sym (ap (λ (place : Place). messages_at_place barrier place batch) c.in-Opt.is) in
    listed_behind c.list_point.result _ _ _ (first ∷ []) _ _ (c.in_ok-list_known-in-Opt.ensures first c.guard_message.ensures) whole
    c.list_point.ensures
