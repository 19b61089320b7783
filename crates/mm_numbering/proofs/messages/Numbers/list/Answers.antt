use Rattle.std.proofs.Common.{refl, rules}
use Rattle.std.proofs.lemmas.Result.{on_ok_weaker}
use Rattle.mm_numbering.proofs.Below.{◌∙◌, ◌++◌, ◌∷◌, [], ℕ, List, None, Some, ap}
use Rattle.mm_numbering.proofs.ListingLaws.{adds_same, lists-first, lists-still, lists-known}
use Rattle.mm_numbering.proofs.messages.Numbers.list.Goals as goal

pub returns-in-None-clause-lists : goal.returns-in-None-clause-lists
returns-in-None-clause-lists c = λ seen h.
    let old = c.args.self.now in let new = c.add_if_first.new.self in
    let adds = adds_same _ _ _ None old.digests new c.digest.ensures c.in-None.is c.in_ok-add_if_first.ensures.adds in
    on_ok_weaker c.push.result (λ push.
    lists-first seen old (record { texts = c.push.new.self; digests = new }) c.args.message.now h adds
    (push ∙ ap (λ (t : List ℕ). old.texts ++ t ∷ []) c.as_slice.ensures)) c.push.ensures

pub returns-in-Some-clause-lists : goal.returns-in-Some-clause-lists
returns-in-Some-clause-lists c = λ seen h.
    let old = c.args.self.now in let new = c.add_if_first.new.self in
    let adds = adds_same _ _ _ (Some c.in-Some.first) old.digests new c.digest.ensures c.in-Some.is c.in_ok-add_if_first.ensures.adds in
    lists-known seen old (record { texts = old.texts; digests = new }) c.args.message.now h c.in-Some.first adds refl (search rules)

pub returns-in-Some-2-clause-lists : goal.returns-in-Some-2-clause-lists
returns-in-Some-2-clause-lists c = λ seen h.
    let old = c.args.self.now in let new = c.add_if_first.new.self in
    let adds = adds_same _ _ _ (Some c.in-Some-2.first) old.digests new c.digest.ensures c.in-Some-2.is c.in_ok-add_if_first.ensures.adds in
    c.list_shared.ensures.lists seen
    (lists-still seen old (record { texts = old.texts; digests = new }) c.args.message.now h c.in-Some-2.first adds refl)
