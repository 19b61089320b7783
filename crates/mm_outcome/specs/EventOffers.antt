-- The bytes that an event offers. With it: the offered bytes of the code.
use Rattle.std.specs.Option.{option_map}
use Rattle.std.specs.Prelude.{ℕ, ◌-◌, ◌%◌, List, length, Option, Some, slice_index, slice_set, slice_get, bit_xor}
use Rattle.mm_outcome.specs.Below.{Offer, Number, Last, Flip, Raw}
use Rattle.mm_outcome.specs.declared.offer.OfferedBytes.{OfferedBytes}
use Rattle.mm_outcome.specs.declared.offer.OfferedBytes.TheVariants.{Lent, Made}

-- the bytes with the lowest bit of one byte turned, at this offset modulo their number
abbrev pub bytes_with_flipped_bit : ℕ → List ℕ → List ℕ
bytes_with_flipped_bit offset bytes =
    let at : ℕ = offset % length bytes in slice_set bytes at (bit_xor (slice_index bytes at) 1)

-- the bytes that are offered, by the issued snapshots: none where the number isn't issued
abbrev pub offered_bytes : List (List ℕ) → Offer → Option (List ℕ)
offered_bytes issued (Number number) = slice_get issued number
offered_bytes issued Last = slice_get issued (length issued - 1)
offered_bytes issued (Flip number byte) = option_map (bytes_with_flipped_bit byte)
    (slice_get issued number)
offered_bytes issued (Raw bytes) = Some bytes

-- The offered bytes of the code.

abbrev pub bytes_in : OfferedBytes → List ℕ
bytes_in (Lent bytes) = bytes.now
bytes_in (Made bytes) = bytes
