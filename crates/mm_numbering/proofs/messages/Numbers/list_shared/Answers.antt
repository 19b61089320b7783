use Rattle.std.proofs.Common.{subst}
use Rattle.mm_numbering.proofs.Below.{◌∙◌, ◌++◌, ◌∷◌, [], ℕ, List, ap, AddsDigest}
use Rattle.mm_numbering.proofs.ListingLaws.{lists-shared}
use Rattle.mm_numbering.proofs.messages.Numbers.list_shared.Goals as goal

pub returns-clause-lists : goal.returns-clause-lists
returns-clause-lists c = λ seen h.
    let old = c.args.self.now in let new = c.add_shared.new.self in
    lists-shared seen old (record { texts = c.push.new.self; digests = new }) c.args.message.now h c.args.first c.requires.first
    c.requires.new
    (c.in_ok-push.ensures ∙ ap (λ (t : List ℕ). old.texts ++ t ∷ []) c.as_slice.ensures)
    (subst (λ (d : List ℕ). AddsDigest d old.digests new) c.digest.ensures c.add_shared.ensures.adds) c.add_shared.ensures.same
    c.add_shared.ensures.shared
