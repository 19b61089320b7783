-- The header line of a schedule. With it: the words of a line, and what they stand for.
use Rattle.std.specs.Borrow.{Bor}
use Rattle.std.specs.List.{position}
use Rattle.std.specs.Prelude.{ℕ, ◌+◌, ◌-◌, ◌&&◌, ◌==◌, nat_lt, List, [], ◌∷◌, length, take, drop, Option, Some, None, if◌then◌else◌, codes}
use Rattle.std.specs.Prelude.{◌++◌}
use Rattle.std.specs.Result.{result_ok}
use Rattle.std.specs.Str.{bytes_eq}
use Rattle.hex.specs.Hex.{decode_of}
use Rattle.mm_bytes.specs.Limits.{decimal_number}
use Rattle.mm_digest.specs.declared.variant.Variant.{Variant}
use Rattle.mm_digest.specs.declared.variant.Variant.TheVariants.{Basic, Opt}
use Rattle.mm_module.specs.Meaning.{is_space}
use Rattle.mm_modules.specs.Modules.{module_of_name, name_of}
use Rattle.mm_schedule.specs.declared.header.Header.{Header}

-- The words of a line, and what they stand for.

-- one reading after another
infixl 10 ◌>>=◌
abbrev pub ◌>>=◌ : {A B : Type 0} → Option A → (A → Option B) → Option B
None >>= f = None
(Some x) >>= f = f x

-- two parts of a line where they lie, as byte lists
abbrev pub parts_in_place : Bor (List ℕ) × Bor (List ℕ) → List ℕ × List ℕ
parts_in_place parts = (parts.0.now, parts.1.now)

-- what follows a prefix
unfoldable pub rest_after_prefix : List ℕ → List ℕ → Option (List ℕ)
rest_after_prefix prefix line =
    if bytes_eq (take (length prefix) line) prefix then Some (drop (length prefix) line) else None

-- the first word, and what follows the space behind it
unfoldable pub word_at : List ℕ → Option (List ℕ × List ℕ)
word_at line = position is_space line >>= λ at. Some (take at line, drop (at + 1) line)

-- a step's number, one digit from 1 to 9
unfoldable pub step_at : List ℕ → Option ℕ
step_at [] = None
step_at (digit ∷ []) = if nat_lt 48 digit && nat_lt digit 58 then Some (digit - 48) else None
step_at (digit ∷ next ∷ rest) = None

-- a decimal of at most 999999999
unfoldable pub number_at : List ℕ → Option ℕ
number_at word =
    decimal_number word >>= λ number. if nat_lt 999999999 number then None else Some number

-- bytes in hexadecimal digits, or `-` for none
unfoldable pub bytes_at : List ℕ → Option (List ℕ)
bytes_at word =
    if bytes_eq word (codes "-") then Some []
    else if length word == 0 then None
    else result_ok (decode_of word)

-- The header line of a schedule: the variant and the module that it runs.

abbrev pub variant_text : Variant → List ℕ
variant_text Basic = codes "basic"
variant_text Opt = codes "opt"

-- the two words of a header
abbrev pub head_text : Header → List ℕ
head_text head = variant_text head.variant ++ 32 ∷ name_of head.module

-- the one line of a header
abbrev pub header_text : Header → List ℕ
header_text header = codes "memoir 1 " ++ head_text header

-- the header that two words are read as
unfoldable pub header_of_words : List ℕ → Option Header
header_of_words words =
    word_at words >>= λ variant_word.
    (if bytes_eq variant_word.0 (codes "basic") then Some Basic
    else (if bytes_eq variant_word.0 (codes "opt") then Some Opt else None)) >>= λ variant.
    module_of_name variant_word.1 >>= λ module_read.
    Some (record { variant = variant; «module» = module_read })

-- the header that a line is read as
unfoldable pub header_at : List ℕ → Option Header
header_at line = rest_after_prefix (codes "memoir 1 ") line >>= header_of_words

-- the variant of a word
abbrev pub variant_at : List ℕ → Option Variant
variant_at word =
    if bytes_eq word (codes "basic") then Some Basic
    else (if bytes_eq word (codes "opt") then Some Opt else None)
