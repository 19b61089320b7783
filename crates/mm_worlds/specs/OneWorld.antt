-- The one list of requests of a world: what all programs on all platforms tell are steps of the
-- machine on it, and the module is on one platform, or on its way. With it: what is asked of a
-- world in Opt, all of it of bytes, and of calls and moves that were made; the evidence that one
-- holds in hand of a world that doesn't meet its premises; the laws of a world.
use Rattle.std.specs.List.{AllByRecursion, flat_map, Contains}
use Rattle.std.specs.Option.{option_map_or}
use Rattle.std.specs.Prelude.{◌≡◌, ℕ, List, [], ◌∷◌, ◌++◌, IsSome, Some, ◌⊎◌, Ok}
use Rattle.mm_worlds.specs.Below.{Variant, Standing, Meaning, History, requests_of, StandsFor, Reply, Link, Live, PartSteps, part_replies}
use Rattle.mm_worlds.specs.Below.{start_message, Opt, blank_cell, Batch, first_history_on, Role, bytes_unless_idle, call_batches}
use Rattle.mm_worlds.specs.Below.{closing_messages, foreign_items, offer_closing_messages, shown_messages, Content, IsRight, HasClash}
use Rattle.mm_worlds.specs.Below.{right_ticket, TicketContent, Basic, IsLawful, AnyModule, meaning_of, AreNoGuards, IsClear, ModulePromises}
use Rattle.mm_worlds.specs.Premises.{instance_of, role_of, IsWorldLife, Lives, World, WorldPart, WorldPartLeads, WorldStage, world_after}
use Rattle.mm_worlds.specs.Premises.{world_at_end, Handed, IsGenuineUnder, handed_at_end, asked_messages, calls_in, offers_to, Accepts}
use Rattle.mm_worlds.specs.Premises.{Retires, snapshots_under, key_of, handed_after, nonces_in, offers_in, tickets_offered, world_messages}
use Rattle.mm_worlds.specs.Premises.{AreHonest, IsWorldAtStart, first_handed}

-- One part on a list of requests: of a life as there; a move leaves the list.
abbrev pub WorldPartSteps : (variant : Variant) (meaning : Meaning) (link : Link) (old : Standing)
    (part : WorldPart) (new : Standing) → WorldPartLeads variant meaning link old part new
    → List (List ℕ) → List (List ℕ) → Type 0
WorldPartSteps variant meaning link old (Lives part) new f requests after =
    PartSteps variant meaning old part new f requests after
WorldPartSteps variant meaning link old move new f requests after = after ≡ requests

-- All stages are steps on one list, from these requests to those.
abbrev pub WorldFollows : (variant : Variant) (meaning : Meaning) (link : Link) (world : World)
    (stages : List WorldStage) → IsWorldLife variant meaning link world stages
    → List (List ℕ) → List (List ℕ) → Type 0
WorldFollows variant meaning link world [] f requests after = after ≡ requests
WorldFollows variant meaning link world (stage ∷ stages) f requests after =
    (between : List (List ℕ))
    × WorldPartSteps variant meaning link (world stage.at) stage.part stage.after f.0 requests
    between
    × WorldFollows variant meaning link (world_after world stage) stages f.1 between after

-- the replies that are told in a part, and on all platforms together
abbrev pub world_part_replies : (variant : Variant) (meaning : Meaning) (link : Link)
    (old : Standing) (part : WorldPart) (new : Standing)
    → WorldPartLeads variant meaning link old part new → List Reply
world_part_replies variant meaning link old (Lives part) new f =
    part_replies variant meaning old part new f
world_part_replies variant meaning link old move new f = []

abbrev pub world_replies : (variant : Variant) (meaning : Meaning) (link : Link) (world : World)
    (stages : List WorldStage) → IsWorldLife variant meaning link world stages → List Reply
world_replies variant meaning link world [] f = []
world_replies variant meaning link world (stage ∷ stages) f =
    world_part_replies variant meaning link (world stage.at) stage.part stage.after f.0
    ++ world_replies variant meaning link (world_after world stage) stages f.1

-- the module isn't on this platform
abbrev pub IsAway : Standing → Type 0
IsAway standing = role_of standing ≡ Live → ⊥

-- The module is on one platform alone, which stands for the history; or it is on its way, and on
-- none.
pub data IsSomewhere (variant : Variant) (meaning : Meaning) (link : Link) (world : World)
    (y : History) : Type 0 where
  lives : (at : ℕ) → StandsFor (instance_of variant meaning link (world at)) (world at) y
      → ((other : ℕ) → (other ≡ at → ⊥) → IsAway (world other))
      → IsSomewhere variant meaning link world y
  travels : ((other : ℕ) → IsAway (world other)) → IsSomewhere variant meaning link world y

-- The world is one: there is one list of requests that all of it follows, from none; the module is
-- somewhere, at a history of this list; and all snapshots that were handed out are genuine for it,
-- each under its key.
pub record IsOneWorld (variant : Variant) (meaning : Meaning) (link : Link) (begun : Handed)
    (world : World) (stages : List WorldStage)
    (f : IsWorldLife variant meaning link world stages) : Type 0 where
  pub requests : List (List ℕ)
  pub follows : WorldFollows variant meaning link world stages f [] requests
  pub history : History
  pub holds : requests_of history.batches ≡ requests
  pub somewhere : IsSomewhere variant meaning link (world_at_end world stages) history
  pub named : AllByRecursion (IsGenuineUnder variant meaning link history)
      (handed_at_end variant meaning link begun world stages f).snapshots

-- What is asked of a world in Opt, all of it of bytes, and of calls and moves that were made.

-- A world begins with the module on platform 0, on a register that others had extended by these
-- values; each other cell is blank.
pub record IsOptWorldAtStart (meaning : Meaning) (link : Link) (world : World) : Type 0 where
  pub values : List (List ℕ)
  pub first : StandsFor (instance_of Opt meaning link (world 0)) (world 0)
      (first_history_on values)
  pub others : (at : ℕ) → (at ≡ 0 → ⊥) → (world at).cell ≡ Some blank_cell

-- A platform tells its register's items where a ticket was offered to it: the module may have
-- entered there.
abbrev pub TellsRegister : WorldPart → Standing → Type 0
TellsRegister (Accepts ticket result) new = IsSome new.items
TellsRegister part new = Unit {0}

abbrev pub AreRegistersTold : List WorldStage → Type 0
AreRegistersTold stages = AllByRecursion (λ stage. TellsRegister stage.part stage.after) stages

-- what is asked of a part where the module is, unless the part is idle
abbrev pub bytes_if_live : Role → List (List ℕ) → List (List ℕ)
bytes_if_live Live asked = asked
bytes_if_live role asked = []

abbrev pub closings_in : Standing → WorldPart → Standing → List (List ℕ)
closings_in old (Lives part) new = closing_messages part old.cell new.items
closings_in old move new = []

-- there, the messages by which the register's items went into it, as it shows them behind the part,
-- and those by which a checkpoint may close
abbrev pub register_messages_in : (meaning : Meaning) (link : Link) (old : Standing)
    (part : WorldPart) (new : Standing) → WorldPartLeads Opt meaning link old part new
    → List (List ℕ)
register_messages_in meaning link old part new f =
    bytes_if_live (role_of old) (bytes_unless_idle old (calls_in Opt meaning link old part new f)
    (shown_messages new.items ++ closings_in old part new))

-- and the values by which others extended it
abbrev pub others_values_in : (meaning : Meaning) (link : Link) (old : Standing)
    (part : WorldPart) (new : Standing) → WorldPartLeads Opt meaning link old part new
    → List (List ℕ)
others_values_in meaning link old part new f =
    bytes_if_live (role_of old) (bytes_unless_idle old (calls_in Opt meaning link old part new f)
    (option_map_or foreign_items new.items []))

-- of a retirement's offer, where the module is or has left: the closing of its segment
abbrev pub retirement_messages : (meaning : Meaning) (link : Link) (old : Standing)
    → WorldPart → List (List ℕ)
retirement_messages meaning link old (Retires nonce offer result) =
    flat_map (λ bytes. offer_closing_messages (instance_of Opt meaning link old) (Some bytes))
    (offers_to (role_of old) offer)
retirement_messages meaning link old part = []

-- the messages of a part: those of its calls, of the register, and of a retirement's offer
abbrev pub opt_messages_in : (meaning : Meaning) (link : Link) (old : Standing)
    (part : WorldPart) (new : Standing) → WorldPartLeads Opt meaning link old part new
    → List (List ℕ)
opt_messages_in meaning link old part new f =
    asked_messages (instance_of Opt meaning link old) (calls_in Opt meaning link old part new f)
    ++ (register_messages_in meaning link old part new f
    ++ retirement_messages meaning link old part)

abbrev pub opt_messages_from : (meaning : Meaning) (link : Link) (world : World)
    (stages : List WorldStage) → IsWorldLife Opt meaning link world stages → List (List ℕ)
opt_messages_from meaning link world [] f = []
opt_messages_from meaning link world (stage ∷ stages) f =
    opt_messages_in meaning link (world stage.at) stage.part stage.after f.0
    ++ opt_messages_from meaning link (world_after world stage) stages f.1

-- the messages of a world, and the values of others
abbrev pub opt_world_messages : (meaning : Meaning) (link : Link) (world : World)
    (stages : List WorldStage) → IsWorldLife Opt meaning link world stages → List (List ℕ)
opt_world_messages meaning link world stages f =
    start_message Opt meaning.id ∷ opt_messages_from meaning link world stages f

abbrev pub world_values : (meaning : Meaning) (link : Link) (world : World)
    (stages : List WorldStage) → IsWorldLife Opt meaning link world stages → List (List ℕ)
world_values meaning link world [] f = []
world_values meaning link world (stage ∷ stages) f =
    others_values_in meaning link (world stage.at) stage.part stage.after f.0
    ++ world_values meaning link (world_after world stage) stages f.1

-- in either variant the batches that are asked where the module is
abbrev pub world_batches : (variant : Variant) (meaning : Meaning) (link : Link) (world : World)
    (stages : List WorldStage) → IsWorldLife variant meaning link world stages → List Batch
world_batches variant meaning link world [] f = []
world_batches variant meaning link world (stage ∷ stages) f =
    call_batches (calls_in variant meaning link (world stage.at) stage.part stage.after f.0)
    ++ world_batches variant meaning link (world_after world stage) stages f.1

-- The evidence that one holds in hand of a world that doesn't meet its premises.

-- What a part breaks: an offer is right under the platform's key, and wasn't handed out under it; a
-- ticket is right under the link's key, and wasn't handed out; or an invitation changed the cell
-- under a nonce that one before it was under.
pub data IsWorldBreach (variant : Variant) (meaning : Meaning) (link : Link) (handed : Handed)
    (old : Standing) (part : WorldPart) (new : Standing)
    (f : WorldPartLeads variant meaning link old part new) : Type 0 where
  forged_offer : (offer : List ℕ) (content : Content)
      → Contains (offers_in variant meaning link old part new f) offer
      → IsRight (instance_of variant meaning link old) offer content
      → (Contains (snapshots_under (key_of old) handed.snapshots) offer → ⊥)
      → IsWorldBreach variant meaning link handed old part new f
  forged_ticket : (ticket : List ℕ) (content : TicketContent)
      → Contains (tickets_offered part) ticket
      → right_ticket meaning variant link.key ticket ≡ Ok content
      → (Contains handed.tickets ticket → ⊥)
      → IsWorldBreach variant meaning link handed old part new f
  nonce_twice : (nonce : List ℕ) → Contains (nonces_in old part new) nonce
      → Contains handed.nonces nonce
      → IsWorldBreach variant meaning link handed old part new f

-- one of the stages breaks something
abbrev pub HasWorldBreach : (variant : Variant) (meaning : Meaning) (link : Link) (handed : Handed)
    (world : World) (stages : List WorldStage) → IsWorldLife variant meaning link world stages
    → Type 0
HasWorldBreach variant meaning link handed world [] f = ⊥
HasWorldBreach variant meaning link handed world (stage ∷ stages) f =
    IsWorldBreach variant meaning link handed (world stage.at) stage.part stage.after f.0
    ⊎ HasWorldBreach variant meaning link
    (handed_after variant meaning link handed (world stage.at) stage.part stage.after f.0)
    (world_after world stage) stages f.1

-- Basic: two messages of the world clash, or one of its stages breaks something.
abbrev pub HasWorldEvidence : (variant : Variant) (meaning : Meaning) (link : Link)
    (handed : Handed) (world : World) (stages : List WorldStage)
    → IsWorldLife variant meaning link world stages → Type 0
HasWorldEvidence variant meaning link handed world stages f =
    HasClash (instance_of variant meaning link (world 0))
    (world_messages variant meaning link world stages f) [] []
    ⊎ HasWorldBreach variant meaning link handed world stages f

-- Opt: two messages of the world clash, or a value of others is the guard of a batch that was
-- asked; or one of its stages breaks something.
abbrev pub HasOptWorldEvidence : (meaning : Meaning) (link : Link) (handed : Handed)
    (world : World) (stages : List WorldStage) → IsWorldLife Opt meaning link world stages → Type 0
HasOptWorldEvidence meaning link handed world stages f =
    HasClash (instance_of Opt meaning link (world 0))
    (opt_world_messages meaning link world stages f)
    (world_values meaning link world stages f) (world_batches Opt meaning link world stages f)
    ⊎ HasWorldBreach Opt meaning link handed world stages f

-- The laws of a world.

-- Basic: whatever is done on any number of platforms, behind a first start on one of them, it is
-- one world, where no two messages of its calls share a digest, nobody else made a tag, and no
-- nonce is used twice. Nothing is asked of the slots, of the devices, or of what others put into
-- a register.
abbrev pub BasicWorldIsOne : Type 0
BasicWorldIsOne =
    (meaning : Meaning) → IsLawful meaning → (link : Link) (world : World)
    (stages : List WorldStage) (f : IsWorldLife Basic meaning link world stages) →
    IsWorldAtStart Basic meaning link world →
    IsClear (world_messages Basic meaning link world stages f) →
    AreHonest Basic meaning link (first_handed Basic meaning link world) world stages f →
    IsOneWorld Basic meaning link (first_handed Basic meaning link world) world stages f

-- Opt: the same, where besides the messages by which the register's items went into it where the
-- module is, and those of retirements' offers, share no digest, no value of others is the guard of
-- a batch that was asked, and a platform tells its register where a ticket was offered to it.
abbrev pub OptWorldIsOne : Type 0
OptWorldIsOne =
    (meaning : Meaning) → IsLawful meaning → (link : Link) (world : World)
    (stages : List WorldStage) (f : IsWorldLife Opt meaning link world stages) →
    IsOptWorldAtStart meaning link world → AreRegistersTold stages →
    IsClear (opt_world_messages meaning link world stages f) →
    AreNoGuards link.barrier (world_values meaning link world stages f)
    (world_batches Opt meaning link world stages f) →
    AreHonest Opt meaning link (first_handed Opt meaning link world) world stages f →
    IsOneWorld Opt meaning link (first_handed Opt meaning link world) world stages f

-- With no premise but the start it is one world, or one holds evidence in hand.
abbrev pub WorldIsOneOrEvidence : Type 0
WorldIsOneOrEvidence =
    (meaning : Meaning) → IsLawful meaning → (link : Link) (world : World)
    (stages : List WorldStage) (f : IsWorldLife Basic meaning link world stages) →
    IsWorldAtStart Basic meaning link world →
    IsOneWorld Basic meaning link (first_handed Basic meaning link world) world stages f
    ⊎ HasWorldEvidence Basic meaning link (first_handed Basic meaning link world) world stages f

-- Evidence is that a premise is broken: a world that meets them gives none.
abbrev pub EvidenceIsNoPremise : Type 0
EvidenceIsNoPremise =
    (meaning : Meaning) (link : Link) (world : World) (stages : List WorldStage)
    (f : IsWorldLife Basic meaning link world stages) →
    IsClear (world_messages Basic meaning link world stages f) →
    AreHonest Basic meaning link (first_handed Basic meaning link world) world stages f →
    HasWorldEvidence Basic meaning link (first_handed Basic meaning link world) world stages f → ⊥

-- Opt: with no premise but the start, and that a platform tells its register where a ticket was
-- offered to it, it is one world, or one holds evidence in hand.
abbrev pub OptWorldIsOneOrEvidence : Type 0
OptWorldIsOneOrEvidence =
    (meaning : Meaning) → IsLawful meaning → (link : Link) (world : World)
    (stages : List WorldStage) (f : IsWorldLife Opt meaning link world stages) →
    IsOptWorldAtStart meaning link world → AreRegistersTold stages →
    IsOneWorld Opt meaning link (first_handed Opt meaning link world) world stages f
    ⊎ HasOptWorldEvidence meaning link (first_handed Opt meaning link world) world stages f

abbrev pub OptEvidenceIsNoPremise : Type 0
OptEvidenceIsNoPremise =
    (meaning : Meaning) (link : Link) (world : World) (stages : List WorldStage)
    (f : IsWorldLife Opt meaning link world stages) →
    IsClear (opt_world_messages meaning link world stages f) →
    AreNoGuards link.barrier (world_values meaning link world stages f)
    (world_batches Opt meaning link world stages f) →
    AreHonest Opt meaning link (first_handed Opt meaning link world) world stages f →
    HasOptWorldEvidence meaning link (first_handed Opt meaning link world) world stages f → ⊥

-- What a module promises of one run holds over all platforms together.
abbrev pub WorldsKeepPromises : Type 0
WorldsKeepPromises =
    («module» : AnyModule) (variant : Variant) (link : Link) (world : World)
    (stages : List WorldStage) (f : IsWorldLife variant (meaning_of «module») link world stages)
    (requests : List (List ℕ)) →
    WorldFollows variant (meaning_of «module») link world stages f [] requests →
    ModulePromises «module» requests
    (world_replies variant (meaning_of «module») link world stages f)
