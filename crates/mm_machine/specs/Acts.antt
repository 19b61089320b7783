-- The changing steps: which comes next, which are left, and the room that they take.
use Rattle.std.specs.Prelude.{ℕ, ◌≤◌, Bool, true, false, List, [], ◌∷◌, Option, None, Some}
use Rattle.mm_platform.specs.Standing.{Standing, Act, WriteCell, ResetRegister, ExtendRegister}
use Rattle.mm_machine.specs.declared.change.Change.{Change}
use Rattle.mm_machine.specs.declared.change.Change.TheVariants.{Extending, Emptying, Placing, Writing}

-- the device step
abbrev pub act_in : Change → Act
act_in (Extending value) = ExtendRegister value.bytes
act_in (Emptying opening) = ResetRegister
act_in (Placing opening) = ExtendRegister opening.value.bytes
act_in (Writing next) = WriteCell next

-- the changing step behind it, if there is one
abbrev pub change_after : Change → Option Change
change_after (Extending value) = None
change_after (Emptying opening) = Some (Placing opening)
change_after (Placing opening) = Some (Writing opening.next)
change_after (Writing next) = None

-- it and those behind it
abbrev pub remaining_acts : Change → List Act
remaining_acts (Extending value) = ExtendRegister value.bytes ∷ []
remaining_acts (Emptying opening) =
    ResetRegister ∷ ExtendRegister opening.value.bytes ∷ WriteCell opening.next ∷ []
remaining_acts (Placing opening) = ExtendRegister opening.value.bytes ∷ WriteCell opening.next ∷ []
remaining_acts (Writing next) = WriteCell next ∷ []

abbrev pub is_last : Change → Bool
is_last (Extending value) = true
is_last (Emptying opening) = false
is_last (Placing opening) = false
is_last (Writing next) = true

-- whether the register is still to be extended
abbrev pub is_extension_left : Change → Bool
is_extension_left (Extending value) = true
is_extension_left (Emptying opening) = true
is_extension_left (Placing opening) = true
is_extension_left (Writing next) = false

-- the number of the step, where a write of the cell has this one unless it follows an opening
abbrev pub number_in : ℕ → Change → ℕ
number_in write (Extending value) = 3
number_in write (Emptying opening) = 3
number_in write (Placing opening) = 4
number_in write (Writing next) = write

-- the room that is taken: for one own extension, until it is made
abbrev pub MayChange : Change → Standing → Type 0
MayChange (Extending value) standing = 1 ≤ standing.spare
MayChange (Emptying opening) standing = 1 ≤ standing.spare
MayChange (Placing opening) standing = 1 ≤ standing.spare
MayChange (Writing next) standing = Unit {0}
