-- A client who alone asks, over one honest store, is served once.
use Rattle.std.specs.Prelude.{◌≡◌, ℕ, true, List, [], Some, ◌⊎◌}
use Rattle.std.specs.List.{AllByRecursion}
use Rattle.mm_client.specs.Below.{Basic, Opt, Standing, Batch, Instance, IsLawful, IsUnbroken, Meaning, first_history, basic_instance, opt_instance, StandsFor, StoreStanding}
use Rattle.mm_client.specs.Below.{AreNoChance, HasClash, IsLife, IsOverOneStore, LifeStage, first_history_on, first_slots, life_batches, life_messages}
use Rattle.mm_client.specs.Below.{opt_messages, others_values}
use Rattle.mm_client.specs.ClientLife.{AreNoOthers, IsServedOnce}

-- What a client of lines may be promised of a life over one store, by its messages, the values of
-- others, and its batches.
abbrev pub ClientPromise : Type 1
ClientPromise =
    (all others : List (List ℕ)) (asked : List Batch) (i : Instance) (kept : StoreStanding)
    (start : Standing) (stages : List LifeStage)
    (f : IsLife i.variant i.meaning start stages) (wanted : List (List ℕ)) → Type 0

-- Basic, behind a first start: whatever the sessions of a life came to, each over what the one
-- before it left, and wherever his input and what he hears was cut, the promise is kept to a client
-- of lines without LF who alone asks. Or two different messages of its calls have one digest, or
-- the digest of one is zero.
abbrev pub IsKeptInBasic : ClientPromise → Type 0
IsKeptInBasic Promise =
    (meaning : Meaning) → IsLawful meaning → (key : List ℕ) (start : Standing)
    (kept : StoreStanding) (stages : List LifeStage) (f : IsLife Basic meaning start stages)
    (wanted : List (List ℕ)) →
    StandsFor (basic_instance meaning key) start first_history →
    kept.is_honest ≡ true → kept.slots ≡ Some (first_slots (basic_instance meaning key)) →
    IsOverOneStore kept stages → AreNoChance Basic meaning start stages f →
    AreNoOthers Basic meaning start stages f → AllByRecursion IsUnbroken wanted →
    Promise (life_messages (basic_instance meaning key) start stages f) []
    (life_batches (basic_instance meaning key) start stages f) (basic_instance meaning key) kept
    start stages f wanted
    ⊎ HasClash (basic_instance meaning key)
    (life_messages (basic_instance meaning key) start stages f) []
    (life_batches (basic_instance meaning key) start stages f)

-- Opt, from a register that others had extended by these values: the same; or a message by which
-- its items went into it clashes too, or a value of others is the guard of a request.
abbrev pub IsKeptInOpt : ClientPromise → Type 0
IsKeptInOpt Promise =
    (meaning : Meaning) → IsLawful meaning → (key barrier : List ℕ) (values : List (List ℕ))
    (start : Standing) (kept : StoreStanding) (stages : List LifeStage)
    (f : IsLife Opt meaning start stages) (wanted : List (List ℕ)) →
    StandsFor (opt_instance meaning key barrier) start (first_history_on values) →
    kept.is_honest ≡ true → kept.slots ≡ Some (first_slots (opt_instance meaning key barrier)) →
    IsOverOneStore kept stages → AreNoChance Opt meaning start stages f →
    AreNoOthers Opt meaning start stages f → AllByRecursion IsUnbroken wanted →
    Promise (opt_messages (opt_instance meaning key barrier) start stages f)
    (others_values (opt_instance meaning key barrier) start stages f)
    (life_batches (opt_instance meaning key barrier) start stages f)
    (opt_instance meaning key barrier) kept start stages f wanted
    ⊎ HasClash (opt_instance meaning key barrier)
    (opt_messages (opt_instance meaning key barrier) start stages f)
    (others_values (opt_instance meaning key barrier) start stages f)
    (life_batches (opt_instance meaning key barrier) start stages f)

-- so a client is served once
abbrev pub BasicClientsAreServedOnce : Type 0
BasicClientsAreServedOnce = IsKeptInBasic IsServedOnce

abbrev pub OptClientsAreServedOnce : Type 0
OptClientsAreServedOnce = IsKeptInOpt IsServedOnce
