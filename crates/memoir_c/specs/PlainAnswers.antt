-- What the functions answer that make no step: of modules, and of receipts. With it: what is told
-- of the instance that a cell holds; what the function does that writes the first cell and snapshot
-- of an instance; what a move from C comes to, and what is told of it.
use Rattle.std.specs.Option.{option_map_or}
use Rattle.std.specs.Prelude.{ℕ, ◌+◌, ◌==◌, List, length, Result, Ok, Err, nat_lt, if◌then◌else◌, ◌≡◌, Option, None, Some, ◌<◌, ◌++◌, drop}
use Rattle.std.specs.Prelude.{◌⊎◌}
use Rattle.mm_bytes.specs.Limits.{limit_of, longest_request}
use Rattle.mm_digest.specs.Messages.{variant_byte}
use Rattle.mm_digest.specs.declared.variant.Variant.{Variant}
use Rattle.mm_seal.specs.Cell.{ReadsCell, cell_spelling}
use Rattle.mm_seal.specs.declared.cell.Cell.{Cell}
use Rattle.mm_seal.specs.declared.cell.CellFault.{CellFault}
use Rattle.mm_seal.specs.declared.cell.CellFault.TheVariants as fault
use Rattle.mm_receipted.specs.Receipts.{check_of_receipt}
use Rattle.mm_receipted.specs.declared.receipt.NotReceipt.{NotReceipt}
use Rattle.mm_receipted.specs.declared.receipt.NotReceipt.TheVariants.{Form, Tag}
use Rattle.mm_modules.specs.Modules.{meaning_of, module_of_name, module_of_id}
use Rattle.mm_modules.specs.declared.any.AnyModule.{AnyModule}
use Rattle.mm_model.specs.Chains as model
use Rattle.mm_model.specs.History.{first_history}
use Rattle.mm_model.specs.Standing.{cell_of, issued_bytes}
use Rattle.mm_model.specs.declared.refusal.Refusal.TheVariants as refusal
use Rattle.mm_call.specs.Standing.{instance_by}
use Rattle.mm_move.specs.declared.accepting.Accepted.{Accepted}
use Rattle.mm_move.specs.declared.inviting.Invited.{Invited}
use Rattle.mm_move.specs.declared.inviting.Invited.TheVariants as invited
use Rattle.mm_move.specs.declared.link.Link.{Link}
use Rattle.mm_move.specs.declared.refusal.MoveRefusal.{MoveRefusal}
use Rattle.mm_told.specs.HostLaws.{worn_host}
use Rattle.mm_told.specs.declared.outcome.StepsOutcome.{StepsOutcome}
use Rattle.mm_told.specs.declared.outcome.StepsOutcome.TheVariants as outcome
use Rattle.mm_told.specs.declared.step.MadeStep.{MadeStep}
use Rattle.mm_told_moves.specs.ToldMovePromise.{IsSnapshotWithin, IsTicketWithin, ToldMovePromise, acceptance_finds, invitation_finds}
use Rattle.mm_told_moves.specs.ToldMovePromise.{retirement_finds}
use Rattle.memoir_c.specs.CallReplies.{AreParts, IsNoInstance, IsNoCall, AreSteps, next_step_of}
use Rattle.memoir_c.specs.declared.asking.Instance.{Instance}
use Rattle.memoir_c.specs.declared.made.Step.{Step}
use Rattle.memoir_c.specs.declared.moving.MoveReply.{MoveReply}
use Rattle.memoir_c.specs.declared.provisioning.Keys.{Keys}
use Rattle.memoir_c.specs.declared.provisioning.ProvisionReply.{ProvisionReply}
use Rattle.memoir_c.specs.declared.said.ReturnStatus.{ReturnStatus}
use Rattle.memoir_c.specs.declared.said.ReturnStatus.TheVariants as said
use Rattle.memoir_c.specs.Numbers.{number_of, move_status}

-- the id of the module with this name, 0 where no module has it
abbrev pub id_of_name : List ℕ → ℕ
id_of_name name = option_map_or (λ it. (meaning_of it).id) (module_of_name name) 0

-- room for an output and a snapshot of the module with this id, 0 where no module has it
abbrev pub room_with : ℕ → ℕ
room_with id = option_map_or (λ it. 4096 + 114 + limit_of id) (module_of_id id) 0

-- what is said of a receipt
abbrev pub receipt_status : Result (Unit {0}) NotReceipt → ReturnStatus
receipt_status (Ok done) = said.Done
receipt_status (Err Form) = said.Refused refusal.Form
receipt_status (Err Tag) = said.Refused refusal.Tag

-- whether an output is the receipt of a request, under a key that has 32 bytes
abbrev pub verification_status : List ℕ → ℕ → List ℕ → List ℕ → ReturnStatus
verification_status key position request output =
    if length key == 32
    then (if nat_lt longest_request (length request) then said.Refused refusal.Long
    else receipt_status (check_of_receipt key position request output))
    else said.NoKey

-- What is told of the instance that a cell holds.

-- the instance of a cell, whose module is found or isn't
abbrev pub TellsModule : Option AnyModule → Cell → Instance → Instance → ReturnStatus → Type 0
TellsModule None cell old new says = (says ≡ said.Refused refusal.Cell) × (new ≡ old)
TellsModule (Some found) cell old new says =
    (says ≡ said.Done)
    × (new ≡ record { variant = variant_byte cell.variant; «module» = cell.«module» })

abbrev pub TellsKnown : Cell → Instance → Instance → ReturnStatus → Type 0
TellsKnown cell old new says = TellsModule (module_of_id cell.«module») cell old new says

-- what is read of a cell's bytes
abbrev pub TellsSeen : Result Cell CellFault → Instance → Instance → ReturnStatus → Type 0
TellsSeen (Err fault.Blank) old new says = (says ≡ said.Refused refusal.Blank) × (new ≡ old)
TellsSeen (Err fault.Cell) old new says = (says ≡ said.Refused refusal.Cell) × (new ≡ old)
TellsSeen (Ok cell) old new says = TellsKnown cell old new says

-- The variant and the module of these bytes are written, or why they have none is told.
pub record TellsInstance (bytes : List ℕ) (old new : Instance) (number : ℕ) : Type 0 where
  pub seen : Result Cell CellFault
  pub reads : ReadsCell bytes seen
  pub says : ReturnStatus
  pub number_is : number ≡ number_of says
  pub tells : TellsSeen seen old new says

-- What the function does that writes the first cell and snapshot of an instance.

-- the first cell and the first snapshot of an instance of the model
abbrev pub first_cell : model.Instance → List ℕ
first_cell i = cell_spelling (cell_of i first_history)

abbrev pub first_snapshot : model.Instance → List ℕ
first_snapshot i = issued_bytes i first_history

-- What is written, and the room, before and behind a call.
pub record ProvisionMemory : Type 0 where
  pub old : ProvisionReply
  pub new : ProvisionReply
  pub before : List ℕ
  pub after : List ℕ

abbrev pub memory_state : (old new : ProvisionReply) (before after : List ℕ) → ProvisionMemory
memory_state old new before after =
    record { old = old; new = new; before = before; after = after }

abbrev pub IsUnwritten : ProvisionMemory → Type 0
IsUnwritten it = (it.after ≡ it.before) × (it.new ≡ it.old)

-- this cell is written, this snapshot to the front of the room, and its length; or there is too
-- little room
abbrev pub PutsFirst : (cell snapshot : List ℕ) → ProvisionMemory → ReturnStatus → Type 0
PutsFirst cell snapshot it says =
    ((says ≡ said.Done) × (it.new ≡ record { snapshot_length = length snapshot; cell = cell })
    × (it.after ≡ snapshot ++ drop (length snapshot) it.before))
    ⊎ ((says ≡ said.NoRoom) × IsUnwritten it × (length it.before < length snapshot))

-- The instance of the model that is meant, with these keys.
pub record IsMeant (instance : Instance) (keys : Keys) (i : model.Instance) : Type 0 where
  pub parts : Variant × AnyModule
  pub are_parts : AreParts instance (Ok parts)
  pub is : i ≡ instance_by parts.0 (meaning_of parts.1) keys.key keys.barrier

-- it is made, and what is written is its first cell and snapshot
pub record PutsInstance (instance : Instance) (keys : Keys) (it : ProvisionMemory)
    (says : ReturnStatus) : Type 0
  where
    pub meant : model.Instance
    pub is_meant : IsMeant instance keys meant
    pub puts : PutsFirst (first_cell meant) (first_snapshot meant) it says

-- none is meant, or memory is wanting
abbrev pub IsUnmade : Instance → ReturnStatus → Type 0
IsUnmade instance says = IsNoInstance instance says ⊎ (says ≡ said.Refused refusal.Memory)

pub record ProvisionsInstance (instance : Instance) (keys : Keys) (it : ProvisionMemory)
    (number : ℕ) : Type 0 where
  pub says : ReturnStatus
  pub number_is : number ≡ number_of says
  pub puts : PutsInstance instance keys it says ⊎ (IsUnmade instance says × IsUnwritten it)

-- What a move from C comes to, and what is told of it.

abbrev pub link_of : Keys → Link
link_of keys = record { key = keys.key; barrier = keys.barrier }

-- what is told of a ticket: as of a snapshot, with no position
abbrev pub outcome_with_ticket : StepsOutcome (Result (List ℕ) MoveRefusal)
    → StepsOutcome (Result Accepted MoveRefusal)
outcome_with_ticket (outcome.Ended (Ok ticket)) =
    outcome.Ended (Ok (record { position = 0; snapshot = ticket }))
outcome_with_ticket (outcome.Ended (Err why)) = outcome.Ended (Err why)
outcome_with_ticket (outcome.Next step) = outcome.Next step
outcome_with_ticket outcome.Differs = outcome.Differs
outcome_with_ticket outcome.Memory = outcome.Memory

-- Each move of this variant and module with these steps made, by what the cell answered, as
-- `IsCall` is of a call: over a platform on which any steps may have been made.
pub record IsInvitation (instance : Instance) (steps : List Step) (link : Keys)
    (nonce key : List ℕ) (came : StepsOutcome (Result Invited MoveRefusal)) : Type 0 where
  pub parts : Variant × AnyModule
  pub made : List MadeStep
  pub are_parts : AreParts instance (Ok parts)
  pub are_steps : AreSteps steps made
  pub invites : ToldMovePromise
      (invitation_finds (link_of link) parts.0 instance.module nonce key) (worn_host made) made came

pub record IsRetirement (instance : Instance) (steps : List Step) (link : Keys)
    (nonce offer : List ℕ) (told : StepsOutcome (Result Accepted MoveRefusal)) : Type 0 where
  pub parts : Variant × AnyModule
  pub made : List MadeStep
  pub are_parts : AreParts instance (Ok parts)
  pub are_steps : AreSteps steps made
  pub came : StepsOutcome (Result (List ℕ) MoveRefusal)
  pub retires : ToldMovePromise
      (retirement_finds (meaning_of parts.1) parts.0 (link_of link) nonce offer) (worn_host made)
      made came
  pub room : IsTicketWithin (meaning_of parts.1).id came
  pub told_is : told ≡ outcome_with_ticket came

pub record IsAcceptance (instance : Instance) (steps : List Step) (link : Keys)
    (ticket : List ℕ) (came : StepsOutcome (Result Accepted MoveRefusal)) : Type 0 where
  pub parts : Variant × AnyModule
  pub made : List MadeStep
  pub are_parts : AreParts instance (Ok parts)
  pub are_steps : AreSteps steps made
  pub accepts : ToldMovePromise
      (acceptance_finds (meaning_of parts.1) parts.0 (link_of link) ticket) (worn_host made) made
      came
  pub room : IsSnapshotWithin (meaning_of parts.1).id came

-- what a move comes to; or what is passed is none
abbrev pub InvitationGives : Instance → List Step → Keys → (nonce key : List ℕ)
    → Result (StepsOutcome (Result Invited MoveRefusal)) ReturnStatus → Type 0
InvitationGives instance steps link nonce key (Ok came) =
    IsInvitation instance steps link nonce key came
InvitationGives instance steps link nonce key (Err why) = IsNoCall instance steps why

abbrev pub RetirementGives : Instance → List Step → Keys → (nonce offer : List ℕ)
    → Result (StepsOutcome (Result Accepted MoveRefusal)) ReturnStatus → Type 0
RetirementGives instance steps link nonce offer (Ok told) =
    IsRetirement instance steps link nonce offer told
RetirementGives instance steps link nonce offer (Err why) = IsNoCall instance steps why

abbrev pub AcceptanceGives : Instance → List Step → Keys → (ticket : List ℕ)
    → Result (StepsOutcome (Result Accepted MoveRefusal)) ReturnStatus → Type 0
AcceptanceGives instance steps link ticket (Ok came) =
    IsAcceptance instance steps link ticket came
AcceptanceGives instance steps link ticket (Err why) = IsNoCall instance steps why

-- what an invitation says that is over
abbrev pub invitation_status : Result Invited MoveRefusal → ReturnStatus
invitation_status (Ok invited.Done) = said.Done
invitation_status (Ok invited.Again) = said.Again
invitation_status (Err why) = move_status why

-- what it tells of an invitation that came to this, and the step before and behind it
abbrev pub TellsInvitation : Result (StepsOutcome (Result Invited MoveRefusal)) ReturnStatus
    → Step → Step → ReturnStatus → Type 0
TellsInvitation (Err why) old new says = (says ≡ why) × (new ≡ old)
TellsInvitation (Ok (outcome.Ended given)) old new says = (says ≡ invitation_status given)
    × (new ≡ old)
TellsInvitation (Ok (outcome.Next step)) old new says = (says ≡ said.Next)
    × (new ≡ next_step_of step)
TellsInvitation (Ok outcome.Differs) old new says = (says ≡ said.Differs) × (new ≡ old)
TellsInvitation (Ok outcome.Memory) old new says = (says ≡ said.Refused refusal.Memory)
    × (new ≡ old)

-- What a move writes to: the reply, and the room; and what it leaves.
pub record MoveRoom : Type 0 where
  pub reply : MoveReply
  pub room : List ℕ

abbrev pub move_room : MoveReply → List ℕ → MoveRoom
move_room reply room = record { reply = reply; room = room }

pub record MoveState : Type 0 where
  pub old : MoveRoom
  pub new : MoveRoom
  pub says : ReturnStatus

abbrev pub move_state : MoveRoom → MoveRoom → ReturnStatus → MoveState
move_state old new says = record { old = old; new = new; says = says }

-- it says this, and writes nothing
pub record MoveSaysOnly (said : ReturnStatus) (left : MoveState) : Type 0 where
  pub says : left.says ≡ said
  pub new : left.new ≡ left.old

-- it gives these bytes; or there is too little room
abbrev pub reply_with_bytes : Accepted → MoveReply → MoveReply
reply_with_bytes answer old =
    record old { length = length answer.snapshot; position = answer.position }

pub record GivesInRoom (answer : Accepted) (left : MoveState) : Type 0 where
  pub says : left.says ≡ said.Done
  pub reply : left.new.reply ≡ reply_with_bytes answer left.old.reply
  pub room : left.new.room
      ≡ answer.snapshot ++ drop (length answer.snapshot) left.old.room

pub record LacksRoom (answer : Accepted) (left : MoveState) : Type 0 where
  pub says : MoveSaysOnly said.NoRoom left
  pub short : length left.old.room < length answer.snapshot

abbrev pub TellsMoveAnswer : Accepted → MoveState → Type 0
TellsMoveAnswer answer left = GivesInRoom answer left ⊎ LacksRoom answer left

pub record TellsMoveStep (step : Step) (left : MoveState) : Type 0 where
  pub says : left.says ≡ said.Next
  pub reply : left.new.reply ≡ record left.old.reply { next = step }
  pub room : left.new.room ≡ left.old.room

-- what it tells of a move that came to this, or of what was passed that is none
abbrev pub TellsMove : Result (StepsOutcome (Result Accepted MoveRefusal)) ReturnStatus → MoveState
    → Type 0
TellsMove (Err why) left = MoveSaysOnly why left
TellsMove (Ok (outcome.Ended (Ok answer))) left = TellsMoveAnswer answer left
TellsMove (Ok (outcome.Ended (Err why))) left = MoveSaysOnly (move_status why) left
TellsMove (Ok (outcome.Next step)) left = TellsMoveStep (next_step_of step) left
TellsMove (Ok outcome.Differs) left = MoveSaysOnly said.Differs left
TellsMove (Ok outcome.Memory) left = MoveSaysOnly (said.Refused refusal.Memory) left

-- What each move tells is what it comes to.
pub record IsInvitationTold (instance : Instance) (steps : List Step) (link : Keys)
    (nonce key : List ℕ) (old new : Step) (number : ℕ) : Type 0 where
  pub asked : Result (StepsOutcome (Result Invited MoveRefusal)) ReturnStatus
  pub comes : InvitationGives instance steps link nonce key asked
  pub says : ReturnStatus
  pub number_is : number ≡ number_of says
  pub tells : TellsInvitation asked old new says

pub record IsRetirementTold (instance : Instance) (steps : List Step) (link : Keys)
    (nonce offer : List ℕ) (old new : MoveRoom) (number : ℕ) : Type 0 where
  pub asked : Result (StepsOutcome (Result Accepted MoveRefusal)) ReturnStatus
  pub comes : RetirementGives instance steps link nonce offer asked
  pub says : ReturnStatus
  pub number_is : number ≡ number_of says
  pub tells : TellsMove asked (move_state old new says)

pub record IsAcceptanceTold (instance : Instance) (steps : List Step) (link : Keys)
    (ticket : List ℕ) (old new : MoveRoom) (number : ℕ) : Type 0 where
  pub asked : Result (StepsOutcome (Result Accepted MoveRefusal)) ReturnStatus
  pub comes : AcceptanceGives instance steps link ticket asked
  pub says : ReturnStatus
  pub number_is : number ≡ number_of says
  pub tells : TellsMove asked (move_state old new says)
