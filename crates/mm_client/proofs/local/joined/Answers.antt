use Rattle.std.proofs.Common.{◌≡◌, ◌∙◌, ◌+◌, ◌<◌, ◌∷◌, ◌++◌, [], ℕ, List, ap, append_assoc, get_or, length, sym, take}
use Rattle.std.proofs.lemmas.List.{take_more}
use Rattle.mm_base.specs.Input.{joined_lines}
use Rattle.mm_base.specs.InputLaws.{joined-append}
use Rattle.mm_client.proofs.local.joined.Goals as goal

-- one line more
joined_more : (lines : List (List ℕ)) (line text : List ℕ) (at : ℕ) → at < length lines → line ≡ get_or lines at line
    → text ≡ joined_lines (take at lines) → text ++ line ++ 10 ∷ [] ≡ joined_lines (take (at + 1) lines)
joined_more lines line text at within is e =
    ap (λ (front : List ℕ). front ++ line ++ 10 ∷ []) e ∙ append_assoc (joined_lines (take at lines)) line (10 ∷ [])
    ∙ sym (joined-append (take at lines) (line ∷ []))
    ∙ ap (λ (last : List ℕ). joined_lines (take at lines ++ last ∷ [])) is ∙ ap joined_lines (sym (take_more lines at line within))

pub loop-line-preserved : goal.loop-line-preserved
loop-line-preserved c =
    c.in_ok-push.ensures.ok ∙ ap (λ (text : List ℕ). text ++ 10 ∷ []) (c.in_ok-append.ensures.ok
    ∙ ap (λ (line : List ℕ). c.loop-line.text ++ line) c.as_slice.ensures.value)
    ∙ joined_more c.args.lines.now c.line-item.result c.loop-line.text c.loop-line.line-index c.loop-line-test.true c.line-item.is
    c.loop-line.invariant
