-- A module that is carried from one platform to another, over two honest stores, with a session on
-- either side: the world that this is. With it: the checkpoint of Opt; what comes of a ticket on
-- the platform that the module goes to; where the module was stopped on its way.
use Rattle.std.specs.Prelude.{◌≡◌, ◌⊎◌, ◌<◌, ◌≤◌, ℕ, Bool, true, false, List, [], ◌∷◌, ◌++◌, length, IsSome, Option, None, Some, Result, Ok, Err}
use Rattle.mm_honest_worlds.specs.Below.{last_position, Variant, Basic, Opt, Standing, Meaning, Accepted, Invited, Link, MoveRefusal, Slots}
use Rattle.mm_honest_worlds.specs.Below.{StoreStanding, StoreFault, Failed, LONGEST_SLOT, CountRisesIf, first_slots, HostStanding}
use Rattle.mm_honest_worlds.specs.Below.{IsCheckpoint, Checkpointed, CheckpointRefusal, SessionFault, Checkpoints, Does, KeepsStore}
use Rattle.mm_honest_worlds.specs.Below.{BothSites, Pass, SiteStanding, accepted_at, invited_at, retired_at, session_at, site_standing, two_platforms}
use Rattle.mm_honest_worlds.specs.Below.{IsOptWorldAtStart, IsWorldAtStart, instance_of, Accepts, IsWorldLife, Lives, WorldPartLeads, WorldStage, world_at_end}
use Rattle.mm_honest_worlds.specs.Arrivals.{EmptyingGoes, PuttingGoes}
use Rattle.mm_honest_worlds.specs.Laws.{GivesEvidence, IsGoneOnFrom}
use Rattle.mm_honest_worlds.specs.declared.carrying.Carried.{Carried}
use Rattle.mm_honest_worlds.specs.declared.carrying.CarryingFault.{CarryingFault}
use Rattle.mm_honest_worlds.specs.declared.carrying.CarryingFault.TheVariants.{Keeping, Moving, NoRoom}

-- The checkpoint of Opt, by which no segment is open where the module leaves.

-- in Basic none is made
abbrev pub CheckpointGoes : Variant → Standing → Standing
    → Option (Result Checkpointed CheckpointRefusal) → Type 0
CheckpointGoes Basic old new None = new ≡ old
CheckpointGoes Opt old new (Some said) = IsCheckpoint old new said
CheckpointGoes variant old new said = ⊥

abbrev pub checkpoint_stages : Option (Result Checkpointed CheckpointRefusal) → Standing
    → List WorldStage
checkpoint_stages None after = []
checkpoint_stages (Some said) after =
    record { at = 0; part = Lives (Does (Checkpoints said)); after = after } ∷ []

-- What comes of a ticket on the platform that the module goes to.

-- there is a position for the next request, and the snapshot isn't longer than a slot
pub record HasRoom (accepted : Accepted) : Type 0 where
  pub position : accepted.position < last_position
  pub snapshot : length accepted.snapshot ≤ LONGEST_SLOT

abbrev pub LacksRoom : Accepted → Type 0
LacksRoom accepted =
    (last_position ≤ accepted.position) ⊎ (LONGEST_SLOT < length accepted.snapshot)

-- Where there is room, what belongs to an acceptance is put, and the acceptance is answered.
abbrev pub KeepingGoes : Accepted → List ℕ → StoreStanding → StoreStanding
    → Result Accepted CarryingFault → Type 0
KeepingGoes accepted request old new (Ok given) =
    (given ≡ accepted) × HasRoom accepted × PuttingGoes accepted request old new (Ok tt)
KeepingGoes accepted request old new (Err NoRoom) = LacksRoom accepted × (new ≡ old)
KeepingGoes accepted request old new (Err (Keeping fault)) =
    HasRoom accepted × PuttingGoes accepted request old new (Err fault)
KeepingGoes accepted request old new (Err (Moving why)) = ⊥

abbrev pub GoesAfterAccepting : List ℕ → Result Accepted MoveRefusal → StoreStanding
    → StoreStanding → Result Accepted CarryingFault → Type 0
GoesAfterAccepting request (Err why) old new result = (new ≡ old) × (result ≡ Err (Moving why))
GoesAfterAccepting request (Ok accepted) old new result =
    KeepingGoes accepted request old new result

-- Where the retirement gave a ticket, the store's records are emptied; then the ticket is accepted,
-- and there is what that answered; and it goes on by this. None was answered where it wasn't tried.
abbrev pub TicketGoes : List ℕ → Result (List ℕ) MoveRefusal
    → Option (Result Accepted MoveRefusal) → StoreStanding → StoreStanding
    → Result Accepted CarryingFault → Type 0
TicketGoes request (Err why) None old new result = (new ≡ old) × (result ≡ Err (Moving why))
TicketGoes request (Err why) (Some answer) old new result = ⊥
TicketGoes request (Ok ticket) None old new result =
    (fault : StoreFault) × EmptyingGoes old new (Err fault) × (result ≡ Err (Keeping fault))
TicketGoes request (Ok ticket) (Some answer) old new result =
    (emptied : StoreStanding) × EmptyingGoes old emptied (Ok tt)
    × GoesAfterAccepting request answer emptied new result

-- what this does on the platform
abbrev pub TicketLeads : Variant → Meaning → Link → Result (List ℕ) MoveRefusal
    → Option (Result Accepted MoveRefusal) → Standing → Standing → Type 0
TicketLeads variant meaning link (Ok ticket) (Some answer) old new =
    WorldPartLeads variant meaning link old (Accepts ticket answer) new
TicketLeads variant meaning link given answer old new = new ≡ old

pub record ArrivalGoes (variant : Variant) (meaning : Meaning) (link : Link) (request : List ℕ)
    (given : Result (List ℕ) MoveRefusal) (old new : HostStanding)
    (result : Result Accepted CarryingFault) : Type 0 where
  pub answer : Option (Result Accepted MoveRefusal)
  pub leads : TicketLeads variant meaning link given answer old.standing new.standing
  pub goes : TicketGoes request given answer old.kept new.kept result

-- The world that this is.

-- a platform and its program, over what its store shows now
abbrev pub site_over : StoreStanding → SiteStanding → SiteStanding
site_over kept site =
    site_standing site.platform kept site.program.left site.program.received

-- The stages, in which this ticket was given: what stands between them is told by no object at its
-- end; no more what the second store shows when the session there begins.
pub record CarryingStages (pass : Pass) (offer : List ℕ) (old new : BothSites)
    (result : Carried) : Type 0 where
  pub ticket : List ℕ
  pub served : Standing
  pub shut : Standing
  pub waiting : Standing
  pub entered : Standing
  pub put : StoreStanding
  pub stages : List WorldStage
  pub are : stages ≡
      session_at 0 old.first new.first result.first served
      ∷ (checkpoint_stages result.closed shut
      ++ invited_at 1 pass.nonce pass.key result.invited waiting
      ∷ retired_at 0 pass.nonce offer (Ok ticket) new.first.platform
      ∷ accepted_at 1 ticket (Ok result.accepted) entered
      ∷ session_at 1 (site_over put old.second) new.second result.second new.second.platform
      ∷ [])

-- It begins as a world does; and in Opt the second platform tells its register.
abbrev pub CarryingBegins : Variant → Meaning → Link → BothSites → Type 0
CarryingBegins Basic meaning link old =
    IsWorldAtStart Basic meaning link (two_platforms old.first.platform old.second.platform)
CarryingBegins Opt meaning link old =
    IsOptWorldAtStart meaning link (two_platforms old.first.platform old.second.platform)
    × IsSome old.second.platform.items

-- It is a world's life. Where it begins so, over the store of a first start and another one, both
-- honest and showing their slots, and neither fails in a session: it is gone on with, or gives
-- evidence.
pub record CarriesOver (variant : Variant) (meaning : Meaning) (link : Link) (pass : Pass)
    (offer : List ℕ) (old new : BothSites) (result : Carried) : Type 0 where
  pub made : CarryingStages pass offer old new result
  pub checked : CheckpointGoes variant made.served made.shut result.closed
  pub leads : IsWorldLife variant meaning link
      (two_platforms old.first.platform old.second.platform) made.stages
  pub goes : (let world = two_platforms old.first.platform old.second.platform in
      let kept = old.first.program.kept in
      (slots : Slots) → CarryingBegins variant meaning link old → kept.is_honest ≡ true →
      kept.slots ≡ Some (first_slots (instance_of variant meaning link (world 0))) →
      old.second.program.kept.is_honest ≡ true → old.second.program.kept.slots ≡ Some slots →
      KeepsStore result.first → KeepsStore result.second →
      IsGoneOnFrom variant meaning link kept world made.stages leads
      ⊎ GivesEvidence variant meaning link world made.stages leads)

-- Where the module was stopped on its way.

-- the stage of an acceptance, where one was tried
abbrev pub acceptance_stages : Result (List ℕ) MoveRefusal → Option (Result Accepted MoveRefusal)
    → Standing → List WorldStage
acceptance_stages (Ok ticket) (Some answer) after = accepted_at 1 ticket answer after ∷ []
acceptance_stages given answer after = []

-- whether it is told that the second store failed
abbrev pub is_second_store : CarryingFault → Bool
is_second_store (Keeping Failed) = true
is_second_store fault = false

-- The stages so far are a world's life, at whose end the second platform stands as it does. Why it
-- was stopped, and what the second store holds, is by what came of the ticket: the store's count
-- rose exactly where it is told that it failed. No session was held there.
pub record CarryingStops (variant : Variant) (meaning : Meaning) (link : Link) (pass : Pass)
    (offer request : List ℕ) (old new : BothSites) (fault : CarryingFault) : Type 0 where
  pub first : Result Unit SessionFault
  pub served : Standing
  pub closed : Option (Result Checkpointed CheckpointRefusal)
  pub shut : Standing
  pub checked : CheckpointGoes variant served shut closed
  pub invited : Result Invited MoveRefusal
  pub waiting : Standing
  pub given : Result (List ℕ) MoveRefusal
  pub answer : Option (Result Accepted MoveRefusal)
  pub stages : List WorldStage
  pub are : stages ≡
      session_at 0 old.first new.first first served
      ∷ (checkpoint_stages closed shut
      ++ invited_at 1 pass.nonce pass.key invited waiting
      ∷ retired_at 0 pass.nonce offer given new.first.platform
      ∷ acceptance_stages given answer new.second.platform)
  pub leads : IsWorldLife variant meaning link
      (two_platforms old.first.platform old.second.platform) stages
  pub ends : world_at_end (two_platforms old.first.platform old.second.platform) stages 1
      ≡ new.second.platform
  pub goes : TicketGoes request given answer old.second.program.kept new.second.program.kept
      (Err fault)
  pub blamed : CountRisesIf (is_second_store fault) old.second.program.kept.faults
      new.second.program.kept.faults
  pub left : new.second.program.left ≡ old.second.program.left
  pub received : new.second.program.received ≡ old.second.program.received

-- it was carried, or stopped by this
abbrev pub CarriesOrStops : Variant → Meaning → Link → Pass → (offer request : List ℕ)
    → (old new : BothSites) → Result Carried CarryingFault → Type 0
CarriesOrStops variant meaning link pass offer request old new (Ok carried) =
    CarriesOver variant meaning link pass offer old new carried
CarriesOrStops variant meaning link pass offer request old new (Err fault) =
    CarryingStops variant meaning link pass offer request old new fault
