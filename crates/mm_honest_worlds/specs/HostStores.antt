-- A world over honest stores: on the platform where the module is each program starts over what the
-- one before it left there, or over what the host put there when the module arrived.
use Rattle.std.specs.Prelude.{◌≡◌, ◌+◌, ◌%◌, ◌==◌, ℕ, true, List, [], ◌∷◌, Option, None, Some, Ok, if◌then◌else◌}
use Rattle.mm_honest_worlds.specs.Below.{Variant, Standing, Meaning, Accepted, Link, Live, Role, PendingRecord, Slots, slot_front}
use Rattle.mm_honest_worlds.specs.Below.{StoreStanding, IsWaiting, Calls, LeavesNoChance, Does, Holds, LifePart, PartLeads, has_same_cell, role_of}
use Rattle.mm_honest_worlds.specs.Below.{Accepts, IsWorldLife, Lives, World, WorldPart, WorldPartLeads, WorldStage, world_after}

-- What waits is to take the position behind this one; and nothing waits behind none.
abbrev pub IsNextAfter : ℕ → Option PendingRecord → Type 0
IsNextAfter position None = position ≡ 0
IsNextAfter position (Some p) = p.position ≡ position + 1

-- What the host has put into the slots at an arrival: the acceptance's snapshot into the slot of
-- its position mod 2, and the record of the next request, so that it waits; at position 0 it may be
-- that nothing waits. A request in hand where the module left stays there in its record, and is
-- told nowhere else: here none waits but what the host put there for the next position.
pub record HasArrived (accepted : Accepted) (slots : Slots) : Type 0 where
  pub snapshot : slot_front slots (accepted.position % 2) ≡ accepted.snapshot
  pub waiting : Option PendingRecord
  pub is_waiting : IsWaiting (slot_front slots 2) (slot_front slots 3) waiting
  pub next : IsNextAfter accepted.position waiting

-- What is known of a platform's store: nothing; or that a program left it so; or that the host has
-- put there what belongs to an acceptance that was answered.
pub data HostStore : Type 0 where
  Unknown : HostStore
  LeftAs : StoreStanding → HostStore
  Arrived : Accepted → HostStore

-- An honest store shows what belongs to an acceptance.
pub record ShowsArrival (accepted : Accepted) (kept : StoreStanding) : Type 0 where
  pub honest : kept.is_honest ≡ true
  pub slots : Slots
  pub told : kept.slots ≡ Some slots
  pub has : HasArrived accepted slots

-- a program starts over it, and over nothing of which nothing is known
abbrev pub StartsOver : HostStore → StoreStanding → Type 0
StartsOver Unknown old = ⊥
StartsOver (LeftAs kept) old = (old.is_honest ≡ kept.is_honest) × (old.slots ≡ kept.slots)
StartsOver (Arrived accepted) old = ShowsArrival accepted old

-- Where the module is, a program starts over what is known of the store, and nobody else calls;
-- elsewhere nothing is asked.
abbrev pub PartStartsOver : Role → HostStore → LifePart → Type 0
PartStartsOver Live store (Holds p) = StartsOver store p.old.kept
PartStartsOver Live store (Does (Calls c)) = ⊥
PartStartsOver role store part = Unit {0}

abbrev pub IsOverStore : HostStore → Standing → WorldPart → Type 0
IsOverStore store old (Lives part) = PartStartsOver (role_of old) store part
IsOverStore store old move = Unit {0}

-- What is known behind a part: what a program left; or that an acceptance was answered; and behind
-- another move that changed the cell nothing.
abbrev pub known_unless_moved : HostStore → Standing → Standing → HostStore
known_unless_moved store old new = if has_same_cell old new then store else Unknown

abbrev pub store_behind_part : HostStore → Standing → WorldPart → Standing → HostStore
store_behind_part store old (Lives (Holds p)) new = LeftAs p.new.kept
store_behind_part store old (Lives (Does deed)) new = store
store_behind_part store old (Accepts ticket (Ok accepted)) new = Arrived accepted
store_behind_part store old move new = known_unless_moved store old new

-- what is known of each platform's store
abbrev pub HostStores : Type 0
HostStores = ℕ → HostStore

abbrev pub stores_after : HostStores → World → WorldStage → HostStores
stores_after stores world stage =
    λ at. if at == stage.at
    then store_behind_part (stores stage.at) (world stage.at) stage.part stage.after else stores at

abbrev pub stores_at_end : HostStores → World → List WorldStage → HostStores
stores_at_end stores world [] = stores
stores_at_end stores world (stage ∷ stages) =
    stores_at_end (stores_after stores world stage) (world_after world stage) stages

-- at the start the one of platform 0 is known
abbrev pub stores_at_start : StoreStanding → HostStores
stores_at_start kept = λ at. if at == 0 then LeftAs kept else Unknown

-- each part begins over what is known of its platform's store
abbrev pub IsOverStores : HostStores → World → List WorldStage → Type 0
IsOverStores stores world [] = Unit {0}
IsOverStores stores world (stage ∷ stages) =
    IsOverStore (stores stage.at) (world stage.at) stage.part
    × IsOverStores (stores_after stores world stage) (world_after world stage) stages

-- Where the module is and the store failed, what a write left isn't by chance a record of a later
-- position than it was to have.
abbrev pub LeavesNoChanceAt : (role : Role) (variant : Variant) (meaning : Meaning)
    (old : Standing) (part : LifePart) (new : Standing) → PartLeads variant meaning old part new
    → Type 0
LeavesNoChanceAt Live variant meaning old part new f = LeavesNoChance variant meaning old part new f
LeavesNoChanceAt role variant meaning old part new f = Unit {0}

abbrev pub LeavesNoneByChance : (variant : Variant) (meaning : Meaning) (link : Link)
    (old : Standing) (part : WorldPart) (new : Standing)
    → WorldPartLeads variant meaning link old part new → Type 0
LeavesNoneByChance variant meaning link old (Lives part) new f =
    LeavesNoChanceAt (role_of old) variant meaning old part new f
LeavesNoneByChance variant meaning link old move new f = Unit {0}

abbrev pub LeaveNoChance : (variant : Variant) (meaning : Meaning) (link : Link) (world : World)
    (stages : List WorldStage) → IsWorldLife variant meaning link world stages → Type 0
LeaveNoChance variant meaning link world [] f = Unit {0}
LeaveNoChance variant meaning link world (stage ∷ stages) f =
    LeavesNoneByChance variant meaning link (world stage.at) stage.part stage.after f.0
    × LeaveNoChance variant meaning link (world_after world stage) stages f.1
