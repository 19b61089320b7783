-- The blocks of HMAC, over plain lists.
use Rattle.std.proofs.Common.{ℕ, ◌≡◌, ◌+◌, ◌<◌, ◌≤◌, List, [], ◌∷◌, ◌++◌, length, map, get_or, set, take, drop, replicate, bit_xor, ap, sym}
use Rattle.std.proofs.Common.{◌∙◌, append_assoc, arith}
use Rattle.std.proofs.lemmas.List.{drop-replicate, take_more, take_more_set, map-append, take_all, take_at, length-append}
use Rattle.mm_digest.specs.Messages.{padded_block, masked_block}

-- bytes written in front of a block of zero bytes are padded with zero bytes
pub padded_block-parts : (bytes front back : List ℕ) → front ≡ bytes →
    back ≡ drop (length bytes) (replicate 64 0) → front ++ back ≡ padded_block bytes
padded_block-parts bytes front back e f =
    ap (λ (x : List ℕ). x ++ back) e ∙ ap (λ (x : List ℕ). bytes ++ x) (f ∙ drop-replicate (length bytes) 64 0)

-- one more byte of a block is masked
pub masked-step : (pad : ℕ) (block out : List ℕ) (i : ℕ) → i < length block → i < length out →
    take i out ≡ map (λ b. bit_xor b pad) (take i block) →
    take (i + 1) (set out i (bit_xor (get_or block i 0) pad)) ≡ map (λ b. bit_xor b pad) (take (i + 1) block)
masked-step pad block out i h k e =
    take_more_set out i (bit_xor (get_or block i 0) pad) k
    ∙ ap (λ (x : List ℕ). x ++ bit_xor (get_or block i 0) pad ∷ []) e
    ∙ sym (map-append (λ b. bit_xor b pad) (take i block) (get_or block i 0 ∷ []))
    ∙ ap (λ (x : List ℕ). map (λ b. bit_xor b pad) x) (sym (take_more block i 0 h))

-- a block of which every byte is masked
pub masked-whole : (pad i : ℕ) (block out : List ℕ) → length block ≤ i → length out ≤ i →
    take i out ≡ map (λ b. bit_xor b pad) (take i block) → out ≡ masked_block pad block
masked-whole pad i block out h k e =
    sym (take_all i out k) ∙ e ∙ ap (λ (x : List ℕ). map (λ b. bit_xor b pad) x) (take_all i block h)

-- three parts behind a front, one after another
pub joined_three : (front a b c : List ℕ) → ((front ++ a) ++ b) ++ c ≡ front ++ (a ++ (b ++ c))
joined_three front a b c = simp append_assoc

-- what was written at the front of a block behind a byte: 32 bytes and a text
pub front_of_block : (tag : ℕ) (front middle text back fixed rest : List ℕ) → front ≡ tag ∷ [] → middle ≡ fixed → length fixed ≡ 32
    → text ≡ rest → take (33 + length rest) (front ++ (middle ++ (text ++ back))) ≡ tag ∷ (fixed ++ rest)
front_of_block tag front middle text back fixed rest d e size f =
    rw (d, e, f) (ap (λ (x : List ℕ). take (33 + length rest) (tag ∷ x)) (sym (append_assoc fixed rest back))
    ∙ take_at (tag ∷ (fixed ++ rest)) back (33 + length rest) (omega (arith, size, length-append fixed rest)))
