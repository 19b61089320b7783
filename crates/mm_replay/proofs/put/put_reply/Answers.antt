use Rattle.mm_replay.proofs.Below.{◌≡◌, ◌∙◌, ◌+◌, ◌<◌, ℕ, suc, List, ◌++◌, length, drop, Some, sym, ap, append_assoc, drop-cons, add-one}
use Rattle.mm_replay.proofs.Below.{concat, slice_get, slice_get_within, get_or_from_slice_get, lines_of_reply}
use Rattle.mm_replay.proofs.put.put_reply.Goals as goal

-- a line and the lines behind it
concat-drop : (lines : List (List ℕ)) (i : ℕ) (line : List ℕ) → slice_get lines i ≡ Some line
    → concat (drop i lines) ≡ line ++ concat (drop (i + 1) lines)
concat-drop lines i line at =
    let within : i < length lines = slice_get_within lines i line at in
    ap concat (drop-cons lines i line within)
    ∙ ap (λ first. first ++ concat (drop (suc i) lines)) (get_or_from_slice_get lines i line line at)
    ∙ ap (λ n. line ++ concat (drop n lines)) (sym (add-one i))

-- one more line was put
goes_line : (lines : List (List ℕ)) (i : ℕ) (line before text now : List ℕ) → slice_get lines i ≡ Some line → now ≡ text ++ line
    → text ++ concat (drop i lines) ≡ before ++ concat lines → now ++ concat (drop (i + 1) lines) ≡ before ++ concat lines
goes_line lines i line before text now at is so =
    ap (λ b. b ++ concat (drop (i + 1) lines)) is ∙ append_assoc text line (concat (drop (i + 1) lines))
    ∙ ap (λ b. text ++ b) (sym (concat-drop lines i line at)) ∙ so

pub lines-preserved : goal.lines-preserved
lines-preserved c =
    let put = c.in_ok-put_line.ensures in
    goes_line (lines_of_reply c.args.reply.now) c.lines.index put.0 _ _ _ put.1 put.2 c.lines.invariant
