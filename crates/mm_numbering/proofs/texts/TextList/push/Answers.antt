use Rattle.std.proofs.Common.{◌∙◌, ◌++◌, ◌∷◌, [], ℕ, List, ap, length}
use Rattle.mm_numbering.proofs.GuardLaws.{within-longer, within-pushed, parts-with}
use Rattle.mm_numbering.proofs.texts.TextList.push.Goals as goal

pub invariant_of-self-in_err-push : goal.invariant_of-self-in_err-push
invariant_of-self-in_err-push c =
    within-longer c.self.inside.text c.args.bytes.now c.append.new.self c.self.inside.spans.items c.push.new.self.items c.self.invariant
    c.in_ok-append.ensures.ok c.in_err-push.ensures.items

pub invariant_of-self-2 : goal.invariant_of-self-2
invariant_of-self-2 c =
    within-pushed c.self.inside.text c.args.bytes.now c.append.new.self c.self.inside.spans.items c.push.new.self.items c.self.invariant
    c.in_ok-append.ensures.ok _ _ (ap length c.as_slice-start.ensures.value) (ap length c.as_slice-end.ensures.value)
    c.in_ok-push.ensures.items

pub returns : goal.returns
returns c =
    parts-with c.self.inside.text c.args.bytes.now c.append.new.self c.self.inside.spans.items c.push.new.self.items c.self.invariant
    c.in_ok-append.ensures.ok _ _ (ap length c.as_slice-start.ensures.value) (ap length c.as_slice-end.ensures.value)
    c.in_ok-push.ensures.items
    ∙ ap (λ (l : List (List ℕ)). l ++ c.args.bytes.now ∷ []) c.self.view_is
