use Rattle.mm_check.proofs.Below.{◌≡◌, ◌∙◌, ℕ, ◌+◌, ◌<◌, List, [], ◌∷◌, ◌++◌, length, take, Some, sym, ap, append_assoc, slice_get}
use Rattle.mm_check.proofs.Below.{take_more, slice_get_within, get_or_from_slice_get}
use Rattle.mm_check.proofs.lines.put_reply.Goals as goal

lines_more : (first old new lines : List (List ℕ)) (i : ℕ) (line : List ℕ) → old ≡ first ++ take i lines → slice_get lines i ≡ Some line
    → new ≡ old ++ line ∷ [] → new ≡ first ++ take (i + 1) lines
lines_more first old new lines i line was at is =
    let within : i < length lines = slice_get_within lines i line at in
    is ∙ ap (λ (l : List (List ℕ)). l ++ line ∷ []) was ∙ append_assoc first (take i lines) (line ∷ [])
    ∙ ap (λ (l : List (List ℕ)). first ++ l)
    (sym (take_more lines i line within ∙ ap (λ (l : List ℕ). take i lines ++ l ∷ []) (get_or_from_slice_get lines i line line at)))

pub lines-preserved : goal.lines-preserved
lines-preserved c =
    let put = c.in_ok-put_line.ensures in
    let line = c.as_slice.ensures.value ∙ put.2 ∙ ap (λ (l : List ℕ). l ++ put.0) c.clear.ensures in
    lines_more _ _ _ _ _ put.0 c.lines.invariant put.1
    (c.in_ok-push.ensures ∙ ap (λ (l : List ℕ). c.lines.lines ++ l ∷ []) line)
