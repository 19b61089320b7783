use Rattle.mm_outcome.proofs.Below.{◌≡◌, ℕ, ◌+◌, ◌-◌, ◌<◌, ◌%◌, List, ◌∷◌, ◌++◌, length, take, drop, get_or, sym, ap, ◌∙◌, add-one}
use Rattle.mm_outcome.proofs.Below.{length-drop, bit_xor, set_split, bytes_with_flipped_bit}
use Rattle.std.proofs.Common.{rules}
use Rattle.std.proofs.lemmas.Nat.{mod_below}
use Rattle.std.proofs.Math.Seq.{take-length}
use Rattle.mm_outcome.proofs.offer.flip.Goals as goal

-- a list with one byte changed, in three parts

drop_whole : (n : ℕ) (bytes : List ℕ) → take (length bytes - n) (drop n bytes) ≡ drop n bytes
drop_whole n bytes = ap (λ (m : ℕ). take m (drop n bytes)) (sym (length-drop n bytes)) ∙ take-length (drop n bytes)

flipped_is : (offset : ℕ) (bytes : List ℕ) → 0 < length bytes → take (offset % length bytes) bytes
    ++ (bit_xor (get_or bytes (offset % length bytes) 0) 1 ∷ take (length bytes - (offset % length bytes + 1))
    (drop (offset % length bytes + 1) bytes)) ≡ bytes_with_flipped_bit offset bytes
flipped_is offset bytes h =
    let at : ℕ = offset % length bytes in
    let byte : ℕ = bit_xor (get_or bytes at 0) 1 in
    ap (λ (r : List ℕ). take at bytes ++ (byte ∷ r)) (drop_whole (at + 1) bytes ∙ ap (λ (n : ℕ). drop n bytes) (add-one at))
    ∙ sym (set_split bytes at byte (mod_below offset (length bytes) h))

pub returns : goal.returns
returns c =
    let some : 0 < length c.args.bytes.now = search rules in
    c.in_ok-copy.ensures ∙ flipped_is c.args.offset c.args.bytes.now some
