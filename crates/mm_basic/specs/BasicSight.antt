-- What a call finds in the cell's bytes and in the offered bytes.
use Rattle.std.specs.Prelude.{◌≡◌, ℕ, List, Ok, Err}
use Rattle.mm_basic.specs.Below.{Basic, SpellsCell, ReadsCell, Snapshot, ReadsParts, Cell, CellFault, PartsFault}

-- the cell is one of Basic and of this module
abbrev pub IsCellOf : ℕ → Cell → Type 0
IsCellOf id cell = (cell.variant ≡ Basic) × (cell.module ≡ id)

-- no cell; a cell of another variant or module; no offer to this module; or a cell and an offer
pub data BasicSight : Type 0 where
  NoCell : CellFault → BasicSight
  OtherCell : BasicSight
  NoOffer : PartsFault → BasicSight
  Both : Cell → Snapshot → BasicSight

-- The cell's bytes and the offered bytes are seen so, by a module with this id. There is one way
-- for each.
abbrev pub IsSeen : ℕ → List ℕ → List ℕ → BasicSight → Type 0
IsSeen id bytes offer (NoCell fault) = ReadsCell bytes (Err fault)
IsSeen id bytes offer OtherCell = (cell : Cell) × SpellsCell bytes cell × (¬ IsCellOf id cell)
IsSeen id bytes offer (NoOffer fault) =
    (cell : Cell) × SpellsCell bytes cell × IsCellOf id cell × ReadsParts offer Basic id (Err fault)
IsSeen id bytes offer (Both cell offered) =
    SpellsCell bytes cell × IsCellOf id cell × ReadsParts offer Basic id (Ok offered)
