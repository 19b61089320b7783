use Rattle.std.proofs.Common.{◌≡◌, length, take, bit_xor, map}
use Rattle.mm_digest.proofs.hmac.masked_by.Given as goal

abbrev pub invariant-bytes : goal.invariant-bytes
invariant-bytes l =
    (take l.i l.out ≡ map (λ b. bit_xor b l.pad) (take l.i l.block)) × (length l.out ≡ 64)
