-- Where a platform stands by digests, and what its register shows of the moves of a call. With it:
-- how the device steps of a call make the steps of a walk.
use Rattle.std.specs.Option.{option_map}
use Rattle.std.specs.Prelude.{◌≡◌, ℕ, zero, suc, Bool, true, List, [], ◌∷◌, ◌++◌, Option, Some, None, ◌+◌}
pub use Rattle.mm_call.specs.Below.{instance_by}
use Rattle.mm_call.specs.Below.{next_count, zero_bytes, Variant, Basic, Opt, IsCell, cell_spelling, Cell, Item, own_item, foreign_item}
use Rattle.mm_call.specs.Below.{Standing, Meaning, guard, Move, Commit, Foreign, Placed, Reset, Power, Instance, Digests, digests_after}
use Rattle.mm_call.specs.Below.{digest_of, register_reading, extended_digest_of, Act, ReadCell, WriteCell, ReadRegister, ResetRegister}
use Rattle.mm_call.specs.Below.{ExtendRegister, StepGoes, StepFault, DeviceStep, Reads, Changes, Writes}
use Rattle.mm_call.specs.CallFinding.{state_after_moves, digest_level}
use Rattle.mm_call.specs.CallOutcome.{StepFate, StepsWalk, walk, step_moves, end_of}

-- the cell of an instance with these digests
abbrev pub cell_at : Instance → Digests → Cell
cell_at i d = record {
  variant = i.variant;
  «module» = i.meaning.id;
  flag = d.flag;
  summary = digest_of d.digest;
  key = i.key;
  barrier = i.barrier;
}

-- what is known of the register's value; in Basic it isn't read
abbrev pub RegisterStandsAt : Variant → Option (List ℕ) → List ℕ → Type 0
RegisterStandsAt Basic reads register = Unit {0}
RegisterStandsAt Opt reads register = reads ≡ Some register

-- The platform's cell has these digests, and in Opt its register.
pub record StandsAt (i : Instance) (standing : Standing) (d : Digests) : Type 0 where
  pub spells : IsCell (cell_at i d)
  pub cell : standing.cell ≡ Some (cell_spelling (cell_at i d))
  pub reads : RegisterStandsAt i.variant (register_reading standing) d.register

-- What the register shows of a move, by its variant and whether a segment is open: others' values
-- and the core's own extensions behind what it had shown; nothing once it was emptied.
abbrev pub items_after_move : Variant → Bool → Instance → Move → List Item → List Item
items_after_move variant flag i (Foreign v) items = items ++ foreign_item v ∷ []
items_after_move variant flag i (Placed b) items = items ++ own_item (guard i.barrier b) ∷ []
items_after_move variant flag i Reset items = []
items_after_move variant flag i Power items = []
items_after_move Opt true i (Commit b) items = items ++ own_item (guard i.barrier b) ∷ []
items_after_move _ _ i _ items = items

-- what it shows of moves made one after another, from these digests and items on
abbrev pub items_after_moves : Instance → Digests → List Move → List Item → List Item
items_after_moves i d [] items = items
items_after_moves i d (m ∷ moves) items = items_after_moves i (digests_after i d m) moves
    (items_after_move i.variant d.flag i m items)

-- a count after so many more
abbrev pub count_after_more : ℕ → ℕ → ℕ
count_after_more zero count = count
count_after_more (suc n) count = count_after_more n (next_count count)

-- How the device steps of a call make the steps of a walk.

-- what a changing step does to a register, and to its items
abbrev pub register_by : Act → List ℕ → List ℕ
register_by ResetRegister register = zero_bytes
register_by (ExtendRegister value) register = extended_digest_of register value
register_by _ register = register

abbrev pub items_by : Act → List Item → List Item
items_by ResetRegister items = []
items_by (ExtendRegister value) items = items ++ own_item value ∷ []
items_by _ items = items

-- A changing step makes this move, whatever others put into the register before it: the cell is
-- that of the digests after the move as it is that before, and the register and its items are as
-- the step leaves them.
pub record IsChange (i : Instance) (d : Digests) (act : Act) (m : Move) : Type 0 where
  pub cell : (register : List ℕ)
      → cell_at i (digests_after i (record d { register = register }) m) ≡ cell_at i d
  pub register : (register : List ℕ)
      → (digests_after i (record d { register = register }) m).register ≡ register_by act register
  pub shows : (items : List Item) → items_after_move i.variant d.flag i m items ≡ items_by act items

-- A write of these bytes makes this move: they spell the cell of the digests after it, and the
-- register is as before.
pub record IsWrite (i : Instance) (d : Digests) (bytes : List ℕ) (m : Move) : Type 0 where
  pub spells : IsCell (cell_at i (digests_after i d m))
  pub cell : bytes ≡ cell_spelling (cell_at i (digests_after i d m))
  pub register : (digests_after i d m).register ≡ d.register
  pub shows : (items : List Item) → items_after_move i.variant d.flag i m items ≡ items

-- The device step makes this step of a walk, from these digests.
abbrev pub MakesStep : Instance → Digests → Act → DeviceStep → Type 0
MakesStep i d ReadCell Reads = Unit {0}
MakesStep i d ReadRegister Reads = Unit {0}
MakesStep i d ResetRegister (Changes m) = IsChange i d ResetRegister m
MakesStep i d (ExtendRegister value) (Changes m) = IsChange i d (ExtendRegister value) m
MakesStep i d (WriteCell bytes) (Writes m) = IsWrite i d bytes m
MakesStep i d _ _ = ⊥

-- A device step was made that makes this step of a walk. Its fate is read off it, and room may have
-- been made after it.
pub record StepIsMade (i : Instance) (d : Digests) (fate : StepFate) (step : DeviceStep)
    (old new : Standing)
    (fault : Option StepFault) : Type 0 where
  pub act : Act
  pub after : Standing
  pub goes : StepGoes act old after fault
  pub makes : MakesStep i d act step
  pub brings : fate.brings ≡ goes.others
  pub ends : fate.ends ≡ end_of fault goes.is_made
  pub room : new ≡ record after { spare = new.spare }

-- after a step: the rest of a trail, where it didn't fail
abbrev pub RestFollows : Option StepFault → Type 0 → Type 0 → Type 0
RestFollows None goes_on is_over = goes_on
RestFollows (Some fault) goes_on is_over = is_over

-- These steps were made one after another, from the one of this number on, and none after one that
-- failed.
abbrev pub IsTrail : Instance → Digests → (ℕ → StepFate) → ℕ → List DeviceStep → Standing → Standing
    → Option StepFault → Type 0
IsTrail i d fates n [] old new fault = (new ≡ old) × (fault ≡ None)
IsTrail i d fates n (step ∷ steps) old new fault =
    (middle : Standing) × (answer : Option StepFault) × StepIsMade i d (fates n) step
    old middle answer
    × RestFollows answer (IsTrail i
    (state_after_moves (digest_level i) d (step_moves step true (fates n).brings)) fates
    (n + 1) steps middle new fault)
    ((new ≡ middle) × (fault ≡ answer))

-- The platform went from these digests as the walk says.
pub record WalkLeads (i : Instance) (d : Digests) (walked : StepsWalk) (old new : Standing)
    (fault : Option StepFault) : Type 0 where
  pub stands : StandsAt i new (state_after_moves (digest_level i) d walked.moves)
  pub broken : walked.broken ≡ fault
  pub steps : new.steps ≡ count_after_more walked.steps old.steps
  pub writes : new.writes ≡ count_after_more walked.writes old.writes
  pub items : new.items ≡ option_map (items_after_moves i d walked.moves) old.items

-- A trail of steps leads where its walk leads.
abbrev pub TrailsLead : Type 0
TrailsLead =
    (i : Instance) (d : Digests) (fates : ℕ → StepFate) (n : ℕ) (steps : List DeviceStep)
    (old new : Standing)
    (fault : Option StepFault)
    → StandsAt i old d → IsTrail i d fates n steps old new fault
    → WalkLeads i d (walk fates n steps) old new fault
