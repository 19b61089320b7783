-- What a move promises whose steps a host makes. With it: what a move finds in a cell, and what is
-- told behind that; what a move tells, by the steps that were made; what is told by the steps that
-- were made is the move on each platform on which they were made.
use Rattle.std.specs.Prelude.{◌≡◌, ◌≢◌, ◌==◌, ◌⊎◌, ℕ, Bool, true, false, List, [], ◌∷◌, Option, None, Some, Result, Ok, Err, if◌then◌else◌}
use Rattle.std.specs.Prelude.{length, ◌+◌, ◌<◌, ◌≤◌, ◌++◌}
use Rattle.mm_bytes.specs.Limits.{cell_length, limit_of}
use Rattle.mm_digest.specs.declared.variant.Variant.{Variant}
use Rattle.mm_platform.specs.Standing.{Standing, WriteCell, Act, ReadCell}
use Rattle.mm_platform.specs.declared.fault.StepFault.TheVariants.{Off}
use Rattle.mm_module.specs.Meaning.{Meaning}
use Rattle.mm_model.specs.declared.refusal.Refusal.TheVariants.{Memory, Device}
use Rattle.mm_move.specs.Cells.{move_answer, IsOrNoMemory, moved_cell_of, MovePromise}
use Rattle.mm_move.specs.Orders.{acceptance_in, invitation_in, retirement_in, waiting_for}
use Rattle.mm_move.specs.declared.accepting.Accepted.{Accepted}
use Rattle.mm_move.specs.declared.inviting.Invited.{Invited}
use Rattle.mm_move.specs.declared.link.Link.{Link}
use Rattle.mm_move.specs.declared.ready.ReadyMove.{ReadyMove}
use Rattle.mm_move.specs.declared.refusal.MoveRefusal.{MoveRefusal}
use Rattle.mm_move.specs.declared.refusal.MoveRefusal.TheVariants.{Core}
use Rattle.mm_told.specs.CallPath.{fault_of_answer, made_act, CallProtocol, AreAsTold, TellsOutcome, Host, bare_standing, act_of, IsHostOf}
use Rattle.mm_told.specs.ToldAskPromise.{first_standing}
use Rattle.mm_told.specs.declared.outcome.StepsOutcome.{StepsOutcome}
use Rattle.mm_told.specs.declared.outcome.StepsOutcome.TheVariants as outcome
use Rattle.mm_told.specs.declared.step.HostStep.{HostStep}
use Rattle.mm_told.specs.declared.step.HostStep.TheVariants as step
use Rattle.mm_told.specs.declared.step.MadeStep.{MadeStep}
use Rattle.mm_told.specs.declared.step.MadeStep.TheVariants as made
use Rattle.mm_told_moves.specs.declared.finding.FoundMove.{FoundMove}

-- What a move finds in a cell, and what is told behind that.

abbrev pub ready_move_of : {A : Type 0} → FoundMove A → ReadyMove A
ready_move_of found = record { next = found.next; answer = found.answer }

-- this is found where that would be, but for want of memory
abbrev pub IsFoundMove : {A : Type 0} → Result (ReadyMove A) MoveRefusal
    → Result (FoundMove A) MoveRefusal → Type 0
IsFoundMove finds (Ok found) = IsOrNoMemory finds (Ok (ready_move_of found))
IsFoundMove finds (Err why) = IsOrNoMemory finds (Err why)

-- the bytes that were written to a cell; and what a move found that came to this on a platform,
-- and left that
abbrev pub written_cell : Standing → Option (List ℕ)
written_cell standing = if standing.writes == 0 then None else standing.cell

abbrev pub found_on : {A : Type 0} → Standing → Result A MoveRefusal
    → Result (FoundMove A) MoveRefusal
found_on standing (Ok answer) = Ok (record { next = written_cell standing; answer = answer })
found_on standing (Err why) = Err why

-- memory was wanting
abbrev pub wants_memory : {A : Type 0} → Result A MoveRefusal → Bool
wants_memory (Err (Core Memory)) = true
wants_memory _ = false

-- what is told where a move ended so, and these steps were made behind that
abbrev pub outcome_if_over : {A : Type 0} → Bool → StepsOutcome (Result A MoveRefusal)
outcome_if_over true = outcome.Memory
outcome_if_over false = outcome.Differs

abbrev pub ended_outcome : {A : Type 0} → Result A MoveRefusal → List MadeStep
    → StepsOutcome (Result A MoveRefusal)
ended_outcome given [] = outcome.Ended given
ended_outcome given (it ∷ more) = outcome_if_over (wants_memory given)

-- behind a cell that is to be written; and behind what was found
abbrev pub IsWriteOutcome : {A : Type 0} → (next : List ℕ) → A → List MadeStep
    → StepsOutcome (Result A MoveRefusal) → Type 0
IsWriteOutcome next answer [] came = came ≡ outcome.Next (step.WriteCell next)
IsWriteOutcome next answer (it ∷ more) came =
    ((made_act it ≢ WriteCell next) × (came ≡ outcome.Differs))
    ⊎ ((made_act it ≡ WriteCell next)
    × (came ≡ ended_outcome (move_answer answer (fault_of_answer it)) more))

abbrev pub IsReadyOutcome : {A : Type 0} → Option (List ℕ) → A → List MadeStep
    → StepsOutcome (Result A MoveRefusal) → Type 0
IsReadyOutcome None answer more came = came ≡ ended_outcome (Ok answer) more
IsReadyOutcome (Some next) answer more came = IsWriteOutcome next answer more came

abbrev pub IsFoundOutcome : {A : Type 0} → Result (FoundMove A) MoveRefusal → List MadeStep
    → StepsOutcome (Result A MoveRefusal) → Type 0
IsFoundOutcome (Ok found) more came = IsReadyOutcome found.next found.answer more came
IsFoundOutcome (Err why) more came = came ≡ ended_outcome (Err why) more

-- What a move tells, by the steps that were made.

-- By what was found, with these steps made behind the first: the next step; and what is given where
-- the move ended with the last of them.
pub record WritesNext {A : Type 0} (ready : ReadyMove A) (act : Act) : Type 0 where
  pub next : List ℕ
  pub next_is : ready.next ≡ Some next
  pub act_is : act ≡ WriteCell next

abbrev pub FindingMakesNext : {A : Type 0} → Result (ReadyMove A) MoveRefusal → List MadeStep → Act
    → Type 0
FindingMakesNext (Ok ready) [] act = WritesNext ready act
FindingMakesNext _ more act = ⊥

abbrev pub ReadyEndsWith : {A : Type 0} → Option (List ℕ) → A → List MadeStep
    → Result A MoveRefusal → Type 0
ReadyEndsWith None answer [] given = given ≡ Ok answer
ReadyEndsWith (Some next) answer (it ∷ []) given =
    (made_act it ≡ WriteCell next) × (given ≡ move_answer answer (fault_of_answer it))
ReadyEndsWith _ answer more given = ⊥

abbrev pub FindingEndsWith : {A : Type 0} → Result (ReadyMove A) MoveRefusal → List MadeStep
    → Result A MoveRefusal → Type 0
FindingEndsWith (Ok ready) more given = ReadyEndsWith ready.next ready.answer more given
FindingEndsWith (Err why) [] given = given ≡ Err why
FindingEndsWith (Err why) more given = ⊥

module _ {A : Type 0} (finds : List ℕ → Result (ReadyMove A) MoveRefusal) where
  -- Something was found in the cell's 104 bytes: what is there, or that memory was wanting for it.
  pub record MakesBehindRead (bytes : List ℕ) (more : List MadeStep) (act : Act) : Type 0 where
    pub size : length bytes ≡ cell_length
    pub found : Result (ReadyMove A) MoveRefusal
    pub found_is : IsOrNoMemory (finds bytes) found
    pub makes : FindingMakesNext found more act

  pub record EndsBehindRead (bytes : List ℕ) (more : List MadeStep)
      (given : Result A MoveRefusal) : Type 0 where
    pub size : length bytes ≡ cell_length
    pub found : Result (ReadyMove A) MoveRefusal
    pub found_is : IsOrNoMemory (finds bytes) found
    pub ends : FindingEndsWith found more given

  -- first it reads the cell
  abbrev pub MoveMakesNext : List MadeStep → Act → Type 0
  MoveMakesNext [] act = act ≡ ReadCell
  MoveMakesNext (made.ReadCell (Ok bytes) ∷ more) act = MakesBehindRead bytes more act
  MoveMakesNext _ act = ⊥

  abbrev pub MoveEndsWith : List MadeStep → Result A MoveRefusal → Type 0
  MoveEndsWith (made.ReadCell (Ok bytes) ∷ more) given = EndsBehindRead bytes more given
  MoveEndsWith (made.ReadCell (Err fault) ∷ []) given = given ≡ Err (Core (Device fault))
  MoveEndsWith _ given = ⊥

  abbrev pub move_protocol : CallProtocol (Result A MoveRefusal)
  move_protocol = record { next = MoveMakesNext; gives = MoveEndsWith; lacks = wants_memory }

-- What a move promises whose steps a host makes.

-- what each move finds in a cell's bytes
abbrev pub invitation_finds : Link → Variant → ℕ → (nonce key : List ℕ) → List ℕ
    → Result (ReadyMove Invited) MoveRefusal
invitation_finds link variant id nonce key bytes =
    invitation_in (waiting_for link variant id nonce key) (moved_cell_of bytes)

abbrev pub retirement_finds : Meaning → Variant → Link → (nonce offer : List ℕ) → List ℕ
    → Result (ReadyMove (List ℕ)) MoveRefusal
retirement_finds meaning variant link nonce offer bytes =
    retirement_in meaning variant link nonce offer (moved_cell_of bytes)

abbrev pub acceptance_finds : Meaning → Variant → Link → (ticket : List ℕ) → List ℕ
    → Result (ReadyMove Accepted) MoveRefusal
acceptance_finds meaning variant link ticket bytes =
    acceptance_in meaning variant link ticket (moved_cell_of bytes)

module _ {A : Type 0} (finds : List ℕ → Result (ReadyMove A) MoveRefusal) where
  -- Memory was wanting behind the front ones of these steps: they are a move over the host's
  -- platform that was refused for that, and changed nothing. The others did what they did.
  pub record MoveLacksOnHost (host : Host) (steps : List MadeStep) : Type 0 where
    pub front : List MadeStep
    pub rest : List MadeStep
    pub are : steps ≡ front ++ rest
    pub moved : MovePromise finds (first_standing host steps)
        (bare_standing (host.stood (length rest)))
        (Err (Core Memory))

  -- Where the move is over, it is the move over the host's platform. Where it makes a step next,
  -- the move over the host's platform makes these steps, and then that one: if no answer comes to
  -- that, it is broken off there.
  abbrev pub IsMoveOnHost : Host → List MadeStep → StepsOutcome (Result A MoveRefusal) → Type 0
  IsMoveOnHost host steps (outcome.Ended given) =
      MovePromise finds (first_standing host steps) (bare_standing (host.stood 0)) given
  IsMoveOnHost host steps (outcome.Next step) =
      MovePromise finds (first_standing host steps) (bare_standing (host.missed 0 (act_of step)))
      (Err (Core (Device Off)))
  IsMoveOnHost host steps outcome.Memory = MoveLacksOnHost host steps
  IsMoveOnHost host steps outcome.Differs = Unit {0}

  -- What a move comes to with the steps that were made.
  pub record ToldMovePromise (host : Host) (steps : List MadeStep)
      (came : StepsOutcome (Result A MoveRefusal)) : Type 0 where
    -- what it tells, by what the cell answered
    pub tells : TellsOutcome (move_protocol finds) (λ given. given) steps came
    -- over the host's platform it is a whole move
    pub moved : IsMoveOnHost host steps came
    -- a host that makes the steps that it is told never hears Differs
    pub fits : AreAsTold (move_protocol finds) steps → came ≢ outcome.Differs
    -- a move makes at most two steps
    pub few : (step : HostStep) → came ≡ outcome.Next step → length steps < 2

-- a ticket, and a snapshot, is no longer than the longest state and 114 bytes
abbrev pub IsTicketWithin : ℕ → StepsOutcome (Result (List ℕ) MoveRefusal) → Type 0
IsTicketWithin id (outcome.Ended (Ok ticket)) = length ticket ≤ 114 + limit_of id
IsTicketWithin id _ = Unit {0}

abbrev pub IsSnapshotWithin : ℕ → StepsOutcome (Result Accepted MoveRefusal) → Type 0
IsSnapshotWithin id (outcome.Ended (Ok accepted)) = length accepted.snapshot ≤ 114 + limit_of id
IsSnapshotWithin id _ = Unit {0}

-- What is told by the steps that were made is the move on each platform on which they were made.

-- by what a move finds
abbrev pub IsMoveOnItsHosts : {A : Type 0} → (List ℕ → Result (ReadyMove A) MoveRefusal) → Type 0
IsMoveOnItsHosts {A} finds =
    (host : Host) (steps : List MadeStep) (came : StepsOutcome (Result A MoveRefusal)) →
    IsHostOf steps host → TellsOutcome (move_protocol finds) (λ given. given) steps came →
    IsMoveOnHost finds host steps came

abbrev pub ToldInvitationsAreInvitations : Type 0
ToldInvitationsAreInvitations =
    (link : Link) (variant : Variant) (id : ℕ) (nonce key : List ℕ) →
    IsMoveOnItsHosts (invitation_finds link variant id nonce key)

abbrev pub ToldRetirementsAreRetirements : Type 0
ToldRetirementsAreRetirements =
    (meaning : Meaning) (variant : Variant) (link : Link) (nonce offer : List ℕ) →
    IsMoveOnItsHosts (retirement_finds meaning variant link nonce offer)

abbrev pub ToldAcceptancesAreAcceptances : Type 0
ToldAcceptancesAreAcceptances =
    (meaning : Meaning) (variant : Variant) (link : Link) (ticket : List ℕ) →
    IsMoveOnItsHosts (acceptance_finds meaning variant link ticket)
