-- Laws of the cell's spelling.
use Rattle.std.proofs.Common.{Result, Ok, Err, ◌≢◌, ℕ, ◌≡◌, Bool, true, false, List, [], ◌∷◌, ◌++◌, length, get_or, refl, ap, sym, ◌∙◌}
use Rattle.std.proofs.Common.{◌+◌, ◌<◌, ◌≤◌, take, drop, arith, length-drop}
use Rattle.std.specs.Prelude.{◌==◌}
use Rattle.std.proofs.lemmas.List.{append-nil, drop-drop, drop_all, drop_at, get_or-take, length-take, take-append-drop}
use Rattle.mm_digest.specs.declared.digest.Digest.{Digest}
use Rattle.mm_digest.specs.declared.variant.Variant.{Variant}
use Rattle.mm_digest.specs.declared.variant.Variant.TheVariants.{Basic, Opt}
use Rattle.mm_digest.specs.Messages.{variant_byte}
use Rattle.mm_seal.specs.declared.cell.Cell.{Cell}
use Rattle.mm_seal.specs.declared.cell.CellFault.{CellFault}
use Rattle.mm_seal.specs.declared.cell.CellFault.TheVariants.{Blank, Cell as Unspelled}
use Rattle.mm_seal.specs.Cell.{version_of, IsCell, IsSpelledWith, ReadsCell, cell_at, flag_byte, cell_spelling, blank_cell}
use Rattle.mm_bytes.specs.DecimalLaws.{append-injective}

pub variant_byte-injective : (v w : Variant) → variant_byte v ≡ variant_byte w → v ≡ w
variant_byte-injective Basic Basic e = refl
variant_byte-injective Opt Opt e = refl
variant_byte-injective _ _ e = absurd (omega arith)

flag_of_byte : (f : Bool) → (flag_byte f == 1) ≡ f
flag_of_byte true = refl
flag_of_byte false = refl

-- the fields of a cell at their offsets
pub record FieldsOf (cell : Cell) (head summary key barrier : List ℕ) : Type 0 where
  pub variant : variant_byte cell.variant ≡ get_or head 4 0
  pub id : get_or head 5 0 ≡ cell.module
  pub flag : (get_or head 6 0 == 1) ≡ cell.flag
  pub at_summary : summary ≡ cell.summary.bytes
  pub at_key : key ≡ cell.key
  pub at_barrier : barrier ≡ cell.barrier

-- the bytes before the fields of 32
unfoldable pub head_of_cell : Cell → List ℕ
head_of_cell cell =
    0x4d ∷ 0x4d ∷ 0x4e ∷ version_of cell.module ∷ variant_byte cell.variant ∷ cell.module
    ∷ flag_byte cell.flag ∷ 0 ∷ []

-- the cell of these fields
abbrev pub cell_of_fields : Variant → (head summary key barrier : List ℕ) → Cell
cell_of_fields v head summary key barrier = record {
  variant = v;
  «module» = get_or head 5 0;
  flag = get_or head 6 0 == 1;
  summary = record { bytes = summary };
  key = key;
  barrier = barrier;
}

-- a cell's bytes, taken apart at the offsets of its fields
module _ (bytes head summary key barrier a s k r : List ℕ) (cell : Cell) (is : IsCell cell) (e : bytes ≡ cell_spelling cell)
    (at_head : bytes ≡ head ++ a) (eight : length head ≡ 8) (at_summary : (a ≡ summary ++ s) × (length summary ≡ 32))
    (at_key : (s ≡ key ++ k) × (length key ≡ 32)) (at_barrier : (k ≡ barrier ++ r) × (length barrier ≡ 32)) where
  pub fields-cell_spelling : FieldsOf cell head summary key barrier
  unfolding cell_spelling head_of_cell
  fields-cell_spelling =
      let first = append-injective head (head_of_cell cell) a (cell.summary.bytes ++ (cell.key ++ cell.barrier)) eight (sym at_head ∙ e) in
      let second = append-injective summary cell.summary.bytes s (cell.key ++ cell.barrier) (at_summary.1 ∙ sym is.summary)
      (sym at_summary.0 ∙ first.1) in
      let third = append-injective key cell.key k cell.barrier (at_key.1 ∙ sym is.key) (sym at_key.0 ∙ second.1) in
      let last = append-injective barrier cell.barrier r [] (at_barrier.1 ∙ sym is.barrier)
      (sym at_barrier.0 ∙ third.1 ∙ sym (append-nil cell.barrier)) in
      record {
        variant = sym (ap (λ (x : List ℕ). get_or x 4 0) first.0);
        id = ap (λ (x : List ℕ). get_or x 5 0) first.0;
        flag = ap (λ (x : List ℕ). get_or x 6 0 == 1) first.0 ∙ flag_of_byte cell.flag;
        at_summary = second.0;
        at_key = third.0;
        at_barrier = last.0;
      }

  -- only the cell of the fields is spelled so
  pub cell_of_fields-only : (v : Variant) → variant_byte v ≡ get_or head 4 0 → cell_of_fields v head summary key barrier ≡ cell
  cell_of_fields-only v t =
      let f = fields-cell_spelling in let same = variant_byte-injective v cell.variant (t ∙ sym f.variant) in
      λ i. record {
        variant = same i;
        «module» = f.id i;
        flag = f.flag i;
        summary = record { bytes = f.at_summary i };
        key = f.at_key i;
        barrier = f.at_barrier i;
      }

-- so only the cell of the fields at their offsets is spelled so
pub cell_at-only : (bytes : List ℕ) (cell : Cell) (v : Variant) → IsCell cell → bytes ≡ cell_spelling cell → length bytes ≡ 104
    → variant_byte v ≡ get_or bytes 4 0 → cell_at v bytes ≡ cell
cell_at-only bytes cell v is e size t =
    let byte : (i : ℕ) → i < 8 → get_or bytes i 0 ≡ get_or (take 8 bytes) i 0 = λ i below. sym (get_or-take 8 bytes i 0 below) in
    let field : (n : ℕ) → n + 32 ≤ 104
    → (drop n bytes ≡ take 32 (drop n bytes) ++ drop (n + 32) bytes) × (length (take 32 (drop n bytes)) ≡ 32) =
    λ n within. (
      sym (take-append-drop 32 (drop n bytes)) ∙ ap (λ (back : List ℕ). take 32 (drop n bytes) ++ back) (drop-drop 32 n bytes),
      omega (arith, length-take 32 (drop n bytes), length-drop n bytes),
    ) in
    (λ i. record (cell_at v bytes) { «module» = byte 5 (omega arith) i; flag = byte 6 (omega arith) i == 1 })
    ∙ cell_of_fields-only bytes (take 8 bytes) (take 32 (drop 8 bytes)) (take 32 (drop 40 bytes)) (take 32 (drop 72 bytes))
    _ _ _ _ cell is e
    (sym (take-append-drop 8 bytes)) (omega (arith, length-take 8 bytes)) (field 8 (omega arith)) (field 40 (omega arith))
    (field 72 (omega arith)) v (t ∙ byte 4 (omega arith))

-- the field of 32 bytes at this offset, and what stands behind it
field_at : (bytes : List ℕ) (n : ℕ) → drop n bytes ≡ take 32 (drop n bytes) ++ drop (n + 32) bytes
field_at bytes n =
    sym (take-append-drop 32 (drop n bytes)) ∙ ap (λ (back : List ℕ). take 32 (drop n bytes) ++ back) (drop-drop 32 n bytes)

-- bytes that begin as the cell of the fields at their offsets are that cell's
pub spelled_by_head : (bytes : List ℕ) (cell : Cell) → length bytes ≡ 104 → cell ≡ cell_at cell.variant bytes
    → take 8 bytes ≡ head_of_cell cell → bytes ≡ cell_spelling cell
unfolding cell_spelling head_of_cell
spelled_by_head bytes cell size at head =
    sym (take-append-drop 8 bytes)
    ∙ ap (λ (x : List ℕ). x ++ drop 8 bytes) head
    ∙ ap (λ (x : List ℕ). head_of_cell cell ++ x) (field_at bytes 8)
    ∙ ap (λ (x : List ℕ). head_of_cell cell ++ (take 32 (drop 8 bytes) ++ x)) (field_at bytes 40)
    ∙ ap (λ (x : List ℕ). head_of_cell cell ++ (take 32 (drop 8 bytes) ++ (take 32 (drop 40 bytes) ++ x))) (field_at bytes 72)
    ∙ ap (λ (x : List ℕ). head_of_cell cell ++ (take 32 (drop 8 bytes) ++ (take 32 (drop 40 bytes) ++ (take 32 (drop 72 bytes) ++ x))))
    (drop_all 104 bytes (omega (arith, size)))
    ∙ ap (λ (x : List ℕ). head_of_cell cell ++ (take 32 (drop 8 bytes) ++ (take 32 (drop 40 bytes) ++ x)))
    (append-nil (take 32 (drop 72 bytes)))
    ∙ ap (λ (c : Cell). head_of_cell cell ++ (c.summary.bytes ++ (c.key ++ c.barrier))) (sym at)

pub head_of_spelled : (bytes : List ℕ) (cell : Cell) → bytes ≡ cell_spelling cell → take 8 bytes ≡ head_of_cell cell
unfolding cell_spelling head_of_cell
head_of_spelled bytes cell e = ap (λ (x : List ℕ). take 8 x) e

-- a cell's bytes in which the summary is replaced
pub summary_replaced : (bytes next : List ℕ) (summary : Digest)
    → next ≡ take 8 bytes ++ (summary.bytes ++ drop 32 (drop 8 bytes)) → IsSpelledWith summary bytes next
unfolding cell_spelling head_of_cell
summary_replaced bytes next summary e cell is =
    let after : drop 32 (cell.summary.bytes ++ (cell.key ++ cell.barrier)) ≡ cell.key ++ cell.barrier =
    drop_at cell.summary.bytes (cell.key ++ cell.barrier) 32 is.0.summary in
    e
    ∙ ap (λ (x : List ℕ). take 8 x ++ (summary.bytes ++ drop 32 (drop 8 x))) is.1
    ∙ ap (λ (x : List ℕ). head_of_cell cell ++ (summary.bytes ++ x)) after

pub variant_in_spelling : (bytes : List ℕ) (cell : Cell) → bytes ≡ cell_spelling cell → variant_byte cell.variant ≡ get_or bytes 4 0
unfolding cell_spelling
variant_in_spelling bytes cell e = sym (ap (λ (x : List ℕ). get_or x 4 0) e)

-- each list of bytes is one cell's at most
pub cell_spelling-injective : (a b : Cell) → IsCell a → IsCell b → cell_spelling a ≡ cell_spelling b → a ≡ b
unfolding cell_spelling head_of_cell
cell_spelling-injective a b ia ib e =
    (λ i. record a { flag = sym (flag_of_byte a.flag) i })
    ∙ cell_of_fields-only _ (head_of_cell a) a.summary.bytes a.key a.barrier _ _ _ _ b ib e refl refl
    (refl, ia.summary) (refl, ia.key) (sym (append-nil a.barrier), ia.barrier) a.variant refl

zero_unlike_letter : (a b : ℕ) → a ≡ b → a ≡ 0 → b ≡ 0x4d → ⊥
zero_unlike_letter a b e f g = omega arith

-- a blank cell is no cell's bytes
pub blank_cell-unspelled : (cell : Cell) → blank_cell ≢ cell_spelling cell
unfolding blank_cell cell_spelling
blank_cell-unspelled cell e = zero_unlike_letter 0 0x4d (ap (λ (x : List ℕ). get_or x 0 0) e) refl refl

-- reading has one answer
pub reads_cell-same : (bytes : List ℕ) (r s : Result Cell CellFault) → ReadsCell bytes r → ReadsCell bytes s → r ≡ s
reads_cell-same bytes (Ok a) (Ok b) h k = ap Ok (cell_spelling-injective a b h.0 k.0 (sym h.1 ∙ k.1))
reads_cell-same bytes (Ok a) (Err Blank) h k = absurd (blank_cell-unspelled a (sym k ∙ h.1))
reads_cell-same bytes (Ok a) (Err Unspelled) h k = absurd (k.1 a h.0 h.1)
reads_cell-same bytes (Err Blank) (Ok b) h k = absurd (blank_cell-unspelled b (sym h ∙ k.1))
reads_cell-same bytes (Err Blank) (Err Blank) h k = refl
reads_cell-same bytes (Err Blank) (Err Unspelled) h k = absurd (k.0 h)
reads_cell-same bytes (Err Unspelled) (Ok b) h k = absurd (h.1 b k.0 k.1)
reads_cell-same bytes (Err Unspelled) (Err Blank) h k = absurd (h.0 k)
reads_cell-same bytes (Err Unspelled) (Err Unspelled) h k = refl
