-- The bytes of the non-volatile cell. With it: what a key remembers; fields that cells and
-- snapshots share.
use Rattle.std.specs.Prelude.{◌≡◌, ℕ, List, Option, IfSome, nat_lt, if◌then◌else◌, ◌≢◌, ◌==◌, Bool, true, false, ◌∷◌, ◌++◌, length}
use Rattle.std.specs.Prelude.{replicate, Result, Ok, Err, take, drop, slice_index}
use Rattle.mm_bytes.specs.Limits.{cell_length}
use Rattle.mm_digest.specs.Messages.{hmac_of, variant_byte, zero_bytes}
use Rattle.mm_digest.specs.declared.digest.Digest.{Digest}
use Rattle.mm_digest.specs.declared.variant.Variant.{Variant}
use Rattle.mm_digest.specs.declared.variant.Variant.TheVariants.{Basic, Opt}
use Rattle.mm_seal.specs.declared.cell.Cell.{Cell}
use Rattle.mm_seal.specs.declared.cell.CellFault.{CellFault}
use Rattle.mm_seal.specs.declared.cell.CellFault.TheVariants.{Blank, Cell as Unspelled}
use Rattle.mm_seal.specs.declared.sealing.TaggedText.{TaggedText}

-- What a key remembers.

-- the absorbed key is the key of these bytes, and each text that is remembered is one with its tag
-- under it
pub record KeyRemembers (bytes : List ℕ) (key : Option (List ℕ)) (first second : Option TaggedText)
    : Type 0 where
  pub same : IfSome key (λ key. key ≡ bytes)
  pub first_tagged : IfSome first (λ it. it.tag.bytes ≡ hmac_of bytes it.text.items)
  pub second_tagged : IfSome second (λ it. it.tag.bytes ≡ hmac_of bytes it.text.items)

-- Fields that cells and snapshots share.

-- the fourth byte of a cell and of a snapshot: `1` where the module's id is below 128, else `2`
abbrev pub version_of : ℕ → ℕ
version_of id = if nat_lt id 128 then 0x31 else 0x32

-- The bytes of the non-volatile cell.

-- a Basic cell has a clear flag and a zero barrier
abbrev pub FitsVariant : Variant → Bool → List ℕ → Type 0
FitsVariant Basic flag barrier = (flag ≡ false) × (barrier ≡ zero_bytes)
FitsVariant Opt flag barrier = Unit {0}

pub record IsCell (cell : Cell) : Type 0 where
  pub summary : length cell.summary.bytes ≡ 32
  pub key : length cell.key ≡ 32
  pub barrier : length cell.barrier ≡ 32
  pub variant : FitsVariant cell.variant cell.flag cell.barrier

abbrev pub flag_byte : Bool → ℕ
flag_byte true = 1
flag_byte false = 0

-- `MMN`, the version, the variant, the module's id, the flag, a zero byte, then the summary or
-- anchor, the key and the barrier: 104 bytes
unfoldable pub cell_spelling : Cell → List ℕ
cell_spelling cell =
    0x4d ∷ 0x4d ∷ 0x4e ∷ version_of cell.module ∷ variant_byte cell.variant ∷ cell.module
    ∷ flag_byte cell.flag ∷ 0 ∷ (cell.summary.bytes ++ (cell.key ++ cell.barrier))

-- the cell of this variant whose fields stand at their offsets in the bytes
abbrev pub cell_at : Variant → List ℕ → Cell
cell_at variant bytes = record {
  variant = variant;
  «module» = slice_index bytes 5;
  flag = slice_index bytes 6 == 1;
  summary = record { bytes = take 32 (drop 8 bytes) };
  key = take 32 (drop 40 bytes);
  barrier = take 32 (drop 72 bytes);
}

-- what a device holds before it is provisioned
unfoldable pub blank_cell : List ℕ
blank_cell = replicate cell_length 0

-- the bytes are this cell's
abbrev pub SpellsCell : List ℕ → Cell → Type 0
SpellsCell bytes cell = IsCell cell × (bytes ≡ cell_spelling cell)

-- the bytes of each cell that these spell, with this summary
abbrev pub IsSpelledWith : Digest → List ℕ → List ℕ → Type 0
IsSpelledWith summary bytes next =
    (cell : Cell) → SpellsCell bytes cell → next ≡ cell_spelling (record cell { summary = summary })

-- no cell is spelled so
abbrev pub IsNoCell : List ℕ → Type 0
IsNoCell bytes = (cell : Cell) → IsCell cell → bytes ≢ cell_spelling cell

-- what reading these bytes gives: there is one answer for each list of bytes
abbrev pub ReadsCell : List ℕ → Result Cell CellFault → Type 0
ReadsCell bytes (Ok cell) = SpellsCell bytes cell
ReadsCell bytes (Err Blank) = bytes ≡ blank_cell
ReadsCell bytes (Err Unspelled) = (bytes ≢ blank_cell) × IsNoCell bytes
