use Rattle.mm_check.proofs.Below.{[], ◌∷◌, ◌∙◌}
use Rattle.std.proofs.lemmas.Result.{on_ok_weaker}
use Rattle.mm_check.specs.declared.deciding.Decider.{Decider}
use Rattle.mm_check.proofs.DecidingLaws.{stands_first}
use Rattle.mm_check.proofs.deciding.Decider.begin.Goals as goal

pub returns : goal.returns
returns c =
    let old = c.args.self.now in
    let new : Decider = record old { numbers = c.list-2.new.self } in
    on_ok_weaker c.list-2.result (λ lists.
    stands_first c.args.header.now new _ c.requires.after lists
    (c.hashed.ensures ∙ c.in_ok-start.ensures ∙ (λ j. 0 ∷ c.byte.ensures j ∷ c.id.ensures j ∷ []))
    c.requires.new.lines c.requires.new.forged) (c.list-2.ensures.lists [] c.requires.new.lists)
