-- Receipts: what a module said to a request at a position, under a key.
use Rattle.std.specs.Prelude.{ℕ, ◌==◌, ◌&&◌, ◌||◌, Bool, nat_le, List, [], ◌∷◌, ◌++◌, length, take, drop, Option, Some, None, Result, Ok}
use Rattle.std.specs.Prelude.{Err, if◌then◌else◌}
use Rattle.std.specs.List.{list_all}
use Rattle.std.specs.Str.{bytes_eq}
use Rattle.hex.specs.Hex.{encode_lower}
use Rattle.mm_bytes.specs.Limits.{eight_bytes, four_bytes}
use Rattle.mm_digest.specs.Messages.{hmac_of}
use Rattle.mm_receipted.specs.declared.receipt.NotReceipt.{NotReceipt}
use Rattle.mm_receipted.specs.declared.receipt.NotReceipt.TheVariants.{Form, Tag}

-- `MMR1`, the position and the length of the request
unfoldable pub receipt_front : ℕ → ℕ → List ℕ
receipt_front position size = 0x4d ∷ 0x4d ∷ 0x52 ∷ 0x31 ∷ (eight_bytes position ++ four_bytes size)

-- the text under the tag of a receipt
unfoldable pub receipt_message : ℕ → List ℕ → List ℕ → List ℕ
receipt_message position request said = receipt_front position (length request) ++ (request ++ said)

-- the tag in lower-case digits
unfoldable pub digits_of : List ℕ → ℕ → List ℕ → List ℕ → List ℕ
digits_of key position request said =
    encode_lower (hmac_of key (receipt_message position request said))

-- the receipt: the tag in digits, a space and what was said
abbrev pub receipt_of : List ℕ → ℕ → List ℕ → List ℕ → List ℕ
receipt_of key position request said = digits_of key position request said ++ 32 ∷ said

-- a lower-case hexadecimal digit
abbrev pub is_lower_digit : ℕ → Bool
is_lower_digit byte = (nat_le 48 byte && nat_le byte 57) || (nat_le 97 byte && nat_le byte 102)

-- digits, with what stands behind a space
abbrev pub parts_by : List ℕ → List ℕ → Option (List ℕ × List ℕ)
parts_by digits [] = None
parts_by digits (space ∷ said) =
    if space == 32 && list_all is_lower_digit digits then Some (digits, said) else None

-- 64 lower-case digits in front, and what stands behind a space
abbrev pub receipt_parts : List ℕ → Option (List ℕ × List ℕ)
receipt_parts output = parts_by (take 64 output) (drop 64 output)

abbrev pub check_of_parts : List ℕ → ℕ → List ℕ → Option (List ℕ × List ℕ)
    → Result (Unit {0}) NotReceipt
check_of_parts key position request None = Err Form
check_of_parts key position request (Some parts) =
    if bytes_eq parts.0 (digits_of key position request parts.1) then Ok tt else Err Tag

-- whether an output is the receipt of what stands behind its digits
abbrev pub check_of_receipt : List ℕ → ℕ → List ℕ → List ℕ → Result (Unit {0}) NotReceipt
check_of_receipt key position request output =
    check_of_parts key position request (receipt_parts output)
