-- How the lines and the tail of an input grow with bytes in front of it.
use Rattle.std.proofs.Common.{◌≡◌, ◌≢◌, ◌∙◌, ℕ, List, [], ◌∷◌, ◌++◌, refl, sym, ap, append_assoc, append-nil, cond}
use Rattle.std.specs.List.{AllByRecursion}
use Rattle.std.proofs.lemmas.Bool.{ne_eqb}
use Rattle.std.proofs.lemmas.List.Elements.{All-head, All-tail}
use Rattle.mm_base.specs.Input.{IsUnbroken, lines_with_front, tail_with_front, lines_of, tail_of, joined_lines}

-- no LF
abbrev IsNoBreak : ℕ → Type 0
IsNoBreak byte = byte ≢ 10

lines_with_front-cons : (byte : ℕ) (bytes : List ℕ) (lines : List (List ℕ))
    → lines_with_front (byte ∷ []) (lines_with_front bytes lines) ≡ lines_with_front (byte ∷ bytes) lines
lines_with_front-cons byte bytes [] = refl
lines_with_front-cons byte bytes (line ∷ lines) = refl

lines_with_front-nil : (lines : List (List ℕ)) → lines_with_front [] lines ≡ lines
lines_with_front-nil [] = refl
lines_with_front-nil (line ∷ lines) = refl

tail_with_front-cons : (byte : ℕ) (bytes : List ℕ) (lines : List (List ℕ)) (tail : List ℕ)
    → tail_with_front (byte ∷ []) (lines_with_front bytes lines) (tail_with_front bytes lines tail)
    ≡ tail_with_front (byte ∷ bytes) lines tail
tail_with_front-cons byte bytes [] tail = refl
tail_with_front-cons byte bytes (line ∷ lines) tail = refl

tail_with_front-nil : (lines : List (List ℕ)) (tail : List ℕ) → tail_with_front [] lines tail ≡ tail
tail_with_front-nil [] tail = refl
tail_with_front-nil (line ∷ lines) tail = refl

-- unbroken bytes stand before the first line
pub lines_of-append : (bytes rest : List ℕ) → IsUnbroken bytes → lines_of (bytes ++ rest) ≡ lines_with_front bytes (lines_of rest)
lines_of-append [] rest h = sym (lines_with_front-nil (lines_of rest))
lines_of-append (byte ∷ bytes) rest h =
    ap (λ b. cond b ([] ∷ lines_of (bytes ++ rest)) (lines_with_front (byte ∷ []) (lines_of (bytes ++ rest))))
    (ne_eqb byte 10 (All-head IsNoBreak byte bytes h))
    ∙ ap (lines_with_front (byte ∷ [])) (lines_of-append bytes rest (All-tail IsNoBreak byte bytes h))
    ∙ lines_with_front-cons byte bytes (lines_of rest)

pub tail_of-append : (bytes rest : List ℕ) → IsUnbroken bytes → tail_of (bytes ++ rest) ≡ tail_with_front bytes
    (lines_of rest) (tail_of rest)
tail_of-append [] rest h = sym (tail_with_front-nil (lines_of rest) (tail_of rest))
tail_of-append (byte ∷ bytes) rest h =
    ap (λ b. cond b (tail_of (bytes ++ rest)) (tail_with_front (byte ∷ []) (lines_of (bytes ++ rest)) (tail_of (bytes ++ rest))))
    (ne_eqb byte 10 (All-head IsNoBreak byte bytes h))
    ∙ ap (λ lines. tail_with_front (byte ∷ []) lines (tail_of (bytes ++ rest)))
    (lines_of-append bytes rest (All-tail IsNoBreak byte bytes h))
    ∙ ap (tail_with_front (byte ∷ []) (lines_with_front bytes (lines_of rest)))
    (tail_of-append bytes rest (All-tail IsNoBreak byte bytes h))
    ∙ tail_with_front-cons byte bytes (lines_of rest) (tail_of rest)

-- a line goes first
pub lines_of-line : (line rest : List ℕ) → IsUnbroken line → lines_of (line ++ 10 ∷ rest) ≡ line ∷ lines_of rest
lines_of-line line rest h = lines_of-append line (10 ∷ rest) h ∙ ap (λ first. first ∷ lines_of rest) (append-nil line)

pub tail_of-line : (line rest : List ℕ) → IsUnbroken line → tail_of (line ++ 10 ∷ rest) ≡ tail_of rest
tail_of-line line rest h = tail_of-append line (10 ∷ rest) h

-- whole lines go first
pub lines_of-joined : (lines : List (List ℕ)) (rest : List ℕ) → AllByRecursion IsUnbroken lines
    → lines_of (joined_lines lines ++ rest) ≡ lines ++ lines_of rest
lines_of-joined [] rest h = refl
lines_of-joined (line ∷ lines) rest h =
    ap lines_of (append_assoc line (10 ∷ joined_lines lines) rest)
    ∙ lines_of-line line (joined_lines lines ++ rest) h.0
    ∙ ap (λ more. line ∷ more) (lines_of-joined lines rest h.1)

pub tail_of-joined : (lines : List (List ℕ)) (rest : List ℕ) → AllByRecursion IsUnbroken lines
    → tail_of (joined_lines lines ++ rest) ≡ tail_of rest
tail_of-joined [] rest h = refl
tail_of-joined (line ∷ lines) rest h =
    ap tail_of (append_assoc line (10 ∷ joined_lines lines) rest)
    ∙ tail_of-line line (joined_lines lines ++ rest) h.0
    ∙ tail_of-joined lines rest h.1

-- bytes with no LF are all tail
pub lines_of-unbroken : (bytes : List ℕ) → IsUnbroken bytes → lines_of bytes ≡ []
lines_of-unbroken bytes h = ap lines_of (sym (append-nil bytes)) ∙ lines_of-append bytes [] h

pub tail_of-unbroken : (bytes : List ℕ) → IsUnbroken bytes → tail_of bytes ≡ bytes
tail_of-unbroken bytes h = ap tail_of (sym (append-nil bytes)) ∙ tail_of-append bytes [] h ∙ append-nil bytes

-- lines join one after another
pub joined-append : (before after : List (List ℕ)) → joined_lines (before ++ after) ≡ joined_lines before ++ joined_lines after
joined-append [] after = refl
joined-append (line ∷ lines) after =
    ap (λ bytes. line ++ 10 ∷ bytes) (joined-append lines after) ∙ sym (append_assoc line (10 ∷ joined_lines lines) (joined_lines after))
