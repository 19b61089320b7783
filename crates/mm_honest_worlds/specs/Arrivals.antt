-- What a host writes into the store of the platform that a module comes to.
use Rattle.std.specs.List.{AllByRecursion}
use Rattle.std.specs.Option.{option_map}
use Rattle.std.specs.Prelude.{◌≡◌, ◌+◌, ◌%◌, ℕ, true, List, [], ◌∷◌, Some, Result}
use Rattle.mm_honest_worlds.specs.Below.{Accepted, PendingRecord, pending_spelling, CountsFailures, Slots, slot_in, StoreStanding}
use Rattle.mm_honest_worlds.specs.Below.{StoreFault, PutsAll, SlotPut}
use Rattle.mm_honest_worlds.specs.HostStores.{ShowsArrival}

-- an honest store shows its slots, and no record is in them
pub record HasNoRecords (kept : StoreStanding) : Type 0 where
  pub honest : kept.is_honest ≡ true
  pub slots : Slots
  pub told : kept.slots ≡ Some slots
  pub two : slots.two ≡ []
  pub three : slots.three ≡ []

-- The records of an earlier stay are emptied, of a store that is honest and shows its slots.
abbrev pub EmptiesRecords : StoreStanding → StoreStanding → Type 0
EmptiesRecords old new =
    (slots : Slots) → old.is_honest ≡ true → old.slots ≡ Some slots → HasNoRecords new

-- What belongs to an acceptance is put where no record is.
abbrev pub PutsArrival : Accepted → StoreStanding → StoreStanding → Type 0
PutsArrival accepted old new = HasNoRecords old → ShowsArrival accepted new

-- a slot of an honest store stays, where it is told
abbrev pub SlotStays : StoreStanding → StoreStanding → ℕ → Type 0
SlotStays old new slot =
    old.is_honest ≡ true → option_map (λ slots. slot_in slots slot) new.slots
    ≡ option_map (λ slots. slot_in slots slot) old.slots

-- What a host puts into slots, whatever comes of it: each is written where those before it were, up
-- to the first that fails; the count of faults rose by one exactly where the store failed; and
-- these other slots of an honest store stay.
pub record HostPuts (puts : List SlotPut) (others : List ℕ) (old new : StoreStanding)
    (result : Result Unit StoreFault) : Type 0 where
  pub goes : PutsAll puts old new result
  pub counted : CountsFailures old.faults new.faults result
  pub stay : AllByRecursion (SlotStays old new) others

-- The slots of the records are emptied, and those of the snapshots stay.
abbrev pub emptying_puts : List SlotPut
emptying_puts = (2, []) ∷ (3, []) ∷ []

abbrev pub EmptyingGoes : StoreStanding → StoreStanding → Result Unit StoreFault → Type 0
EmptyingGoes old new result = HostPuts emptying_puts (0 ∷ 1 ∷ []) old new result

-- The snapshot of an acceptance, and the record of a request that is to take the position behind
-- it, are put, each into the slot of its position mod 2; the others stay.
abbrev pub record_after : Accepted → List ℕ → PendingRecord
record_after accepted request =
    record { position = accepted.position + 1; request = request }

abbrev pub arrival_puts : Accepted → List ℕ → List SlotPut
arrival_puts accepted request =
    (accepted.position % 2, accepted.snapshot)
    ∷ (2 + (accepted.position + 1) % 2, pending_spelling (record_after accepted request)) ∷ []

abbrev pub PuttingGoes : Accepted → List ℕ → StoreStanding → StoreStanding
    → Result Unit StoreFault → Type 0
PuttingGoes accepted request old new result =
    HostPuts (arrival_puts accepted request)
    ((accepted.position + 1) % 2 ∷ (2 + accepted.position % 2) ∷ []) old new result
