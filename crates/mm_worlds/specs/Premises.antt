-- What is asked of a world, all of it of bytes, and of calls and moves that were made. With it:
-- what a platform is to the module that moves, as the bytes of its cell tell; what was handed out
-- in a world, and what each kind of part hands out; a world of platforms, between which a module
-- moves over one link.
use Rattle.std.specs.List.{AllByRecursion, Contains, flat_map}
use Rattle.std.specs.Option.{option_map_or}
use Rattle.std.specs.Prelude.{ℕ, Bool, List, [], Result, Ok, Err, ◌∷◌, map, if◌then◌else◌, ◌≡◌, ◌==◌, length, ◌++◌, Some}
use Rattle.std.specs.Str.{bytes_eq}
use Rattle.mm_move.specs.declared.cell.MovedCell.TheVariants as moved
use Rattle.mm_worlds.specs.Below.{Variant, CellFault, Standing, Meaning, Instance, barrier_of, moved_cell_of, part, MovedCell, Link, Blank}
use Rattle.mm_worlds.specs.Below.{Live, Retired, Role, Waiting, History, IsGenuine, Accepted, MoveRefusal, MovePromise, acceptance_in}
use Rattle.mm_worlds.specs.Below.{invitation_in, retirement_in, waiting_for, Invited, LifePart, PartLeads, start_message, blank_cell}
use Rattle.mm_worlds.specs.Below.{normal_batch, first_history, StandsFor, issued_bytes, right_content, right_messages, right_ticket}
use Rattle.mm_worlds.specs.Below.{TicketContent, LifeCall, IsUntagged, snapshots_of, part_calls}

-- What a platform is to the module that moves, as the bytes of its cell tell.

-- the role of a cell
abbrev pub role_in : Result MovedCell CellFault → Role
role_in (Ok (moved.Live cell)) = Live
role_in (Ok (moved.Waiting cell)) = Waiting cell.nonce
role_in (Ok (moved.Retired cell)) = Retired cell.nonce
role_in (Err fault) = Blank

abbrev pub role_of : Standing → Role
role_of standing = option_map_or (λ bytes. role_in (moved_cell_of bytes)) standing.cell Blank

-- the key in a live, a waiting or a retired cell, which stands at the same place in each
abbrev pub key_of : Standing → List ℕ
key_of standing = option_map_or (part 40) standing.cell []

-- the instance that the module is under a key, and on this platform
abbrev pub instance_at : Variant → Meaning → Link → List ℕ → Instance
instance_at variant meaning link key =
    record { variant = variant; meaning = meaning; key = key; barrier = barrier_of variant link }

abbrev pub instance_of : Variant → Meaning → Link → Standing → Instance
instance_of variant meaning link standing = instance_at variant meaning link (key_of standing)

-- the bytes of the cell, and whether they are the same
abbrev pub cell_bytes : Standing → List ℕ
cell_bytes standing = option_map_or (λ bytes. bytes) standing.cell []

abbrev pub has_same_cell : Standing → Standing → Bool
has_same_cell old new = bytes_eq (cell_bytes old) (cell_bytes new)

-- What was handed out in a world, and what each kind of part hands out.

-- a snapshot, and the key of the platform that handed it out
pub record KeyedSnapshot : Type 0 where
  pub key : List ℕ
  pub bytes : List ℕ

-- The snapshots of calls and acceptances; the tickets of retirements; and the nonces of invitations
-- that changed a cell.
pub record Handed : Type 0 where
  pub snapshots : List KeyedSnapshot
  pub tickets : List (List ℕ)
  pub nonces : List (List ℕ)

abbrev pub keyed_snapshots : List ℕ → List (List ℕ) → List KeyedSnapshot
keyed_snapshots key issued = map (λ bytes. record { key = key; bytes = bytes }) issued

-- those of one key
abbrev pub snapshots_under : List ℕ → List KeyedSnapshot → List (List ℕ)
snapshots_under key [] = []
snapshots_under key (s ∷ snapshots) =
    if bytes_eq s.key key then s.bytes ∷ snapshots_under key snapshots
    else snapshots_under key snapshots

-- a snapshot that was handed out is genuine for the history, under its key
abbrev pub IsGenuineUnder : Variant → Meaning → Link → History → KeyedSnapshot → Type 0
IsGenuineUnder variant meaning link y s =
    IsGenuine (instance_at variant meaning link s.key) y s.bytes

-- the snapshot of an acceptance, the ticket of a retirement
abbrev pub accepted_snapshots : List ℕ → Result Accepted MoveRefusal → List KeyedSnapshot
accepted_snapshots key (Ok accepted) = record { key = key; bytes = accepted.snapshot } ∷ []
accepted_snapshots key (Err why) = []

abbrev pub given_tickets : Result (List ℕ) MoveRefusal → List (List ℕ)
given_tickets (Ok ticket) = ticket ∷ []
given_tickets (Err why) = []

-- the nonce of an invitation, where it changed the cell
abbrev pub used_nonces : List ℕ → Standing → Standing → List (List ℕ)
used_nonces nonce old new = if has_same_cell old new then [] else nonce ∷ []

-- A world of platforms, between which a module moves over one link: on each of them programs and
-- deeds of any kind, and moves, one after another, whatever the slots hold when a program starts.

-- On a platform: a part of a life, by which it holds a session, or a deed is done; or the module is
-- invited under a nonce and a key, or retired for a nonce with an offer, or a ticket is accepted;
-- and what came of it.
pub data WorldPart : Type 0 where
  Lives : LifePart → WorldPart
  Invites : List ℕ → List ℕ → Result Invited MoveRefusal → WorldPart
  Retires : List ℕ → List ℕ → Result (List ℕ) MoveRefusal → WorldPart
  Accepts : List ℕ → Result Accepted MoveRefusal → WorldPart

-- the platform with this number, what happens there, and what stands there behind it
pub record WorldStage : Type 0 where
  pub at : ℕ
  pub part : WorldPart
  pub after : Standing

-- what stands on each platform, by its number
abbrev pub World : Type 0
World = ℕ → Standing

-- The part leads a platform from one standing to another: that of a life as there, and each move as
-- its contract says.
abbrev pub WorldPartLeads : Variant → Meaning → Link → Standing → WorldPart → Standing → Type 0
WorldPartLeads variant meaning link old (Lives part) new = PartLeads variant meaning old part new
WorldPartLeads variant meaning link old (Invites nonce key result) new =
    (length nonce ≡ 32) × (length key ≡ 32) × MovePromise
    (λ bytes. invitation_in (waiting_for link variant meaning.id nonce key) (moved_cell_of bytes))
    old new result
WorldPartLeads variant meaning link old (Retires nonce offer result) new =
    (length nonce ≡ 32) × MovePromise
    (λ bytes. retirement_in meaning variant link nonce offer (moved_cell_of bytes)) old new result
WorldPartLeads variant meaning link old (Accepts ticket result) new =
    MovePromise (λ bytes. acceptance_in meaning variant link ticket (moved_cell_of bytes)) old new
    result

-- the world behind a stage, and behind some, one after another
abbrev pub world_after : World → WorldStage → World
world_after world stage = λ at. if at == stage.at then stage.after else world at

abbrev pub world_at_end : World → List WorldStage → World
world_at_end world [] = world
world_at_end world (stage ∷ stages) = world_at_end (world_after world stage) stages

-- Each of these stages begins with what the ones before it left on its platform.
abbrev pub IsWorldLife : Variant → Meaning → Link → World → List WorldStage → Type 0
IsWorldLife variant meaning link world [] = Unit {0}
IsWorldLife variant meaning link world (stage ∷ stages) =
    WorldPartLeads variant meaning link (world stage.at) stage.part stage.after
    × IsWorldLife variant meaning link (world_after world stage) stages

-- What is asked of a world, all of it of bytes, and of calls and moves that were made.

-- A world begins with the module on platform 0, as a first start leaves it; each other cell is
-- blank.
pub record IsWorldAtStart (variant : Variant) (meaning : Meaning) (link : Link)
    (world : World) : Type 0 where
  pub first : StandsFor (instance_of variant meaning link (world 0)) (world 0) first_history
  pub others : (at : ℕ) → (at ≡ 0 → ⊥) → (world at).cell ≡ Some blank_cell

-- the first snapshot, at the start
abbrev pub first_handed : Variant → Meaning → Link → World → Handed
first_handed variant meaning link world = record {
  snapshots = keyed_snapshots (key_of (world 0))
      (issued_bytes (instance_of variant meaning link (world 0)) first_history ∷ []);
  tickets = [];
  nonces = [];
}

-- what a part hands out
abbrev pub snapshots_in : (variant : Variant) (meaning : Meaning) (link : Link) (old : Standing)
    (part : WorldPart) (new : Standing) → WorldPartLeads variant meaning link old part new
    → List KeyedSnapshot
snapshots_in variant meaning link old (Lives part) new f =
    keyed_snapshots (key_of old) (snapshots_of (part_calls variant meaning old part new f))
snapshots_in variant meaning link old (Accepts ticket result) new f =
    accepted_snapshots (key_of old) result
snapshots_in variant meaning link old _ new f = []

abbrev pub tickets_in : WorldPart → List (List ℕ)
tickets_in (Retires nonce offer result) = given_tickets result
tickets_in _ = []

abbrev pub nonces_in : Standing → WorldPart → Standing → List (List ℕ)
nonces_in old (Invites nonce key result) new = used_nonces nonce old new
nonces_in old _ new = []

abbrev pub handed_after : (variant : Variant) (meaning : Meaning) (link : Link) (handed : Handed)
    (old : Standing) (part : WorldPart) (new : Standing)
    → WorldPartLeads variant meaning link old part new → Handed
handed_after variant meaning link handed old part new f = record {
  snapshots = handed.snapshots ++ snapshots_in variant meaning link old part new f;
  tickets = handed.tickets ++ tickets_in part;
  nonces = handed.nonces ++ nonces_in old part new;
}

abbrev pub handed_at_end : (variant : Variant) (meaning : Meaning) (link : Link) (handed : Handed)
    (world : World) (stages : List WorldStage) → IsWorldLife variant meaning link world stages
    → Handed
handed_at_end variant meaning link handed world [] f = handed
handed_at_end variant meaning link handed world (stage ∷ stages) f =
    handed_at_end variant meaning link
    (handed_after variant meaning link handed (world stage.at) stage.part stage.after f.0)
    (world_after world stage) stages f.1

-- the calls of a part that were made where the module is
abbrev pub calls_at : Role → List LifeCall → List LifeCall
calls_at Live calls = calls
calls_at role calls = []

abbrev pub calls_in : (variant : Variant) (meaning : Meaning) (link : Link) (old : Standing)
    (part : WorldPart) (new : Standing) → WorldPartLeads variant meaning link old part new
    → List LifeCall
calls_in variant meaning link old (Lives part) new f =
    calls_at (role_of old) (part_calls variant meaning old part new f)
calls_in variant meaning link old _ new f = []

-- What is offered first in a part of a life, where the module is; and to a retirement, where the
-- module is, or has left.
abbrev pub first_offers : List LifeCall → List (List ℕ)
first_offers [] = []
first_offers (c ∷ calls) = c.offer ∷ []

abbrev pub offers_to : Role → List ℕ → List (List ℕ)
offers_to Live offer = offer ∷ []
offers_to (Retired nonce) offer = offer ∷ []
offers_to role offer = []

abbrev pub offers_in : (variant : Variant) (meaning : Meaning) (link : Link) (old : Standing)
    (part : WorldPart) (new : Standing) → WorldPartLeads variant meaning link old part new
    → List (List ℕ)
offers_in variant meaning link old (Lives part) new f =
    first_offers (calls_in variant meaning link old (Lives part) new f)
offers_in variant meaning link old (Retires nonce offer result) new f =
    offers_to (role_of old) offer
offers_in variant meaning link old _ new f = []

-- the ticket that is accepted, or refused
abbrev pub tickets_offered : WorldPart → List (List ℕ)
tickets_offered (Accepts ticket result) = ticket ∷ []
tickets_offered _ = []

-- Nobody else made its tag: a ticket that is right under the link's key was handed out before.
abbrev pub IsOwnTicket : Variant → Meaning → Link → List (List ℕ) → List ℕ → Type 0
IsOwnTicket variant meaning link tickets ticket =
    (content : TicketContent) → right_ticket meaning variant link.key ticket ≡ Ok content
    → Contains tickets ticket

-- A part is honest: what is offered in it, where it is right under the platform's key, was handed
-- out before under that key; a right ticket was handed out before; and an invitation that changed
-- the cell is under a nonce of none before.
pub record IsHonest (variant : Variant) (meaning : Meaning) (link : Link) (handed : Handed)
    (old : Standing) (part : WorldPart) (new : Standing)
    (f : WorldPartLeads variant meaning link old part new) : Type 0 where
  pub offers : AllByRecursion
      (IsUntagged (instance_of variant meaning link old)
      (snapshots_under (key_of old) handed.snapshots))
      (offers_in variant meaning link old part new f)
  pub tickets : AllByRecursion (IsOwnTicket variant meaning link handed.tickets)
      (tickets_offered part)
  pub nonces : AllByRecursion (λ nonce. Contains handed.nonces nonce → ⊥) (nonces_in old part new)

abbrev pub AreHonest : (variant : Variant) (meaning : Meaning) (link : Link) (handed : Handed)
    (world : World) (stages : List WorldStage) → IsWorldLife variant meaning link world stages
    → Type 0
AreHonest variant meaning link handed world [] f = Unit {0}
AreHonest variant meaning link handed world (stage ∷ stages) f =
    IsHonest variant meaning link handed (world stage.at) stage.part stage.after f.0
    × AreHonest variant meaning link
    (handed_after variant meaning link handed (world stage.at) stage.part stage.after f.0)
    (world_after world stage) stages f.1

-- the messages of the calls that were made where the module is, each under that platform's key
abbrev pub asked_messages : Instance → List LifeCall → List (List ℕ)
asked_messages i calls =
    flat_map (λ c. right_messages i (normal_batch c.batch) (right_content i c.offer)) calls

abbrev pub messages_from : (variant : Variant) (meaning : Meaning) (link : Link) (world : World)
    (stages : List WorldStage) → IsWorldLife variant meaning link world stages → List (List ℕ)
messages_from variant meaning link world [] f = []
messages_from variant meaning link world (stage ∷ stages) f =
    asked_messages (instance_of variant meaning link (world stage.at))
    (calls_in variant meaning link (world stage.at) stage.part stage.after f.0)
    ++ messages_from variant meaning link (world_after world stage) stages f.1

-- the messages of a world: the start message, and those of its calls
abbrev pub world_messages : (variant : Variant) (meaning : Meaning) (link : Link) (world : World)
    (stages : List WorldStage) → IsWorldLife variant meaning link world stages → List (List ℕ)
world_messages variant meaning link world stages f =
    start_message variant meaning.id ∷ messages_from variant meaning link world stages f
