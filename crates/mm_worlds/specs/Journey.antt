-- A module that goes from a first platform to a second, on to a third, and back to the first, with
-- a call on each. With it: a module that crosses from one platform to another, with sessions on
-- either side; a world that meets what is asked of a world.
use Rattle.std.specs.Prelude.{◌≡◌, ◌⊎◌, ◌==◌, ℕ, List, [], ◌∷◌, Option, Some, Result, Ok, if◌then◌else◌, Err}
use Rattle.mm_module.specs.Batch.{One}
use Rattle.mm_module.specs.Meaning.{counter}
use Rattle.mm_model.specs.Chains.{basic_instance}
use Rattle.mm_model.specs.Moves.{is_long}
use Rattle.mm_model.specs.declared.answer.Answer.{Answer}
use Rattle.mm_model.specs.declared.refusal.Refusal.{Refusal}
use Rattle.mm_life.specs.Deeds.{Calls, Extends, call_of}
use Rattle.mm_life.specs.OneStore.{add_five}
use Rattle.mm_life.specs.Stages.{Does}
use Rattle.mm_worlds.specs.Below.{Basic, blank_cell, Standing, Meaning, StoreStanding, SessionFault, Accepted, Invited, Link, MoveRefusal}
use Rattle.mm_worlds.specs.Below.{Holds, ProgramStanding, program_standing, first_history, StandsFor, IsClear, issued_bytes}
use Rattle.mm_worlds.specs.declared.crossing.Crossing.{Crossing}
use Rattle.mm_worlds.specs.declared.journey.Journey.{Journey}
use Rattle.mm_worlds.specs.declared.journey.Leg.{Leg}
use Rattle.mm_worlds.specs.declared.journey.Pass.{Pass}
use Rattle.mm_worlds.specs.OneWorld.{HasWorldEvidence, IsOneWorld}
use Rattle.mm_worlds.specs.Premises.{IsWorldAtStart, first_handed, Accepts, Invites, IsWorldLife, Lives, Retires, World, WorldStage}
use Rattle.mm_worlds.specs.Premises.{WorldPart, WorldPartLeads, instance_of, AreHonest, world_messages}

-- A module that crosses from one platform to another, with sessions on either side: the world that
-- this is.

-- what a platform tells, and the objects of a program there
pub record SiteStanding : Type 0 where
  pub platform : Standing
  pub program : ProgramStanding

abbrev pub site_standing : Standing → StoreStanding → (left received : Option (List ℕ))
    → SiteStanding
site_standing platform kept left received =
    record { platform = platform; program = program_standing kept left received }

-- both of them
pub record BothSites : Type 0 where
  pub first : SiteStanding
  pub second : SiteStanding

abbrev pub both_sites : SiteStanding → SiteStanding → BothSites
both_sites first second = record { first = first; second = second }

-- two platforms alone: each other cell is blank
abbrev pub two_platforms : Standing → Standing → World
two_platforms first second =
    λ at. if at == 0 then first
    else (if at == 1 then second else record second { cell = Some blank_cell })

-- a session was held on a platform
abbrev pub session_at : ℕ → (old new : SiteStanding) → Result Unit SessionFault → Standing
    → WorldStage
session_at at old new result after = record {
  at = at;
  part = Lives (Holds (record { old = old.program; new = new.program; result = result }));
  after = after;
}

-- a move was made on it
abbrev pub invited_at : ℕ → List ℕ → List ℕ → Result Invited MoveRefusal → Standing → WorldStage
invited_at at nonce key result after =
    record { at = at; part = Invites nonce key result; after = after }

abbrev pub retired_at : ℕ → List ℕ → List ℕ → Result (List ℕ) MoveRefusal → Standing → WorldStage
retired_at at nonce offer result after =
    record { at = at; part = Retires nonce offer result; after = after }

abbrev pub accepted_at : ℕ → List ℕ → Result Accepted MoveRefusal → Standing → WorldStage
accepted_at at ticket result after =
    record { at = at; part = Accepts ticket result; after = after }

-- The stages of a crossing, in which this ticket was given: what stands between them is told by no
-- object at its end.
pub record CrossingStages (nonce key offer : List ℕ) (old new : BothSites)
    (result : Crossing) : Type 0 where
  pub ticket : List ℕ
  pub served : Standing
  pub waiting : Standing
  pub entered : Standing
  pub stages : List WorldStage
  pub are : stages ≡
      session_at 0 old.first new.first result.first served
      ∷ invited_at 1 nonce key result.invited waiting
      ∷ retired_at 0 nonce offer (Ok ticket) new.first.platform
      ∷ accepted_at 1 ticket result.accepted entered
      ∷ session_at 1 old.second new.second result.second new.second.platform
      ∷ []

-- A crossing over two platforms is a world's life. Where it begins as a world does, it is one
-- world, or gives evidence.
pub record CrossesOver (meaning : Meaning) (link : Link) (nonce key offer : List ℕ)
    (old new : BothSites) (result : Crossing) : Type 0 where
  pub made : CrossingStages nonce key offer old new result
  pub leads : IsWorldLife Basic meaning link
      (two_platforms old.first.platform old.second.platform) made.stages
  pub one : (let world = two_platforms old.first.platform old.second.platform in
      let begun = first_handed Basic meaning link world in
      IsWorldAtStart Basic meaning link world →
      IsOneWorld Basic meaning link begun world made.stages leads
      ⊎ HasWorldEvidence Basic meaning link begun world made.stages leads)

-- Where the retirement was refused the stages so far are a world's life, and the second platform
-- was invited alone: the objects of the program there are as they were.
pub record CrossingStops (meaning : Meaning) (link : Link) (nonce key offer : List ℕ)
    (old new : BothSites) (refusal : MoveRefusal) : Type 0 where
  pub first : Result Unit SessionFault
  pub served : Standing
  pub invited : Result Invited MoveRefusal
  pub stages : List WorldStage
  pub are : stages ≡
      session_at 0 old.first new.first first served
      ∷ invited_at 1 nonce key invited new.second.platform
      ∷ retired_at 0 nonce offer (Err refusal) new.first.platform
      ∷ []
  pub leads : IsWorldLife Basic meaning link
      (two_platforms old.first.platform old.second.platform) stages
  pub stays : new.second.program ≡ old.second.program

abbrev pub CrossesOrStops : Meaning → Link → (nonce key offer : List ℕ) → (old new : BothSites)
    → Result Crossing MoveRefusal → Type 0
CrossesOrStops meaning link nonce key offer old new (Ok crossing) =
    CrossesOver meaning link nonce key offer old new crossing
CrossesOrStops meaning link nonce key offer old new (Err refusal) =
    CrossingStops meaning link nonce key offer old new refusal

-- A module that goes from a first platform to a second, on to a third, and back to the first, with
-- a call on each: the world that this is.

-- what is offered next: the snapshot or the ticket that came back, and nothing where none did
abbrev pub answered_snapshot : Result Answer Refusal → List ℕ
answered_snapshot (Ok answer) = answer.snapshot
answered_snapshot (Err why) = []

abbrev pub accepted_snapshot : Result Accepted MoveRefusal → List ℕ
accepted_snapshot (Ok accepted) = accepted.snapshot
accepted_snapshot (Err why) = []

abbrev pub ticket_given : Result (List ℕ) MoveRefusal → List ℕ
ticket_given (Ok ticket) = ticket
ticket_given (Err why) = []

-- a call for a request; one that is too long does nothing
abbrev pub call_part : List ℕ → List ℕ → Result Answer Refusal → WorldPart
call_part offer request gives =
    if is_long (One request) then Lives (Does (Extends []))
    else Lives (Does (Calls (call_of offer request gives)))

abbrev pub pass_of : List ℕ → List ℕ → Pass
pass_of nonce key = record { nonce = nonce; key = key }

-- what the platform that is left tells, and the one that is gone to
pub record BothEnds : Type 0 where
  pub behind : Standing
  pub ahead : Standing

abbrev pub both_ends : Standing → Standing → BothEnds
both_ends behind ahead = record { behind = behind; ahead = ahead }

-- One leg: the platform ahead is invited, the one behind is retired with this offer, its ticket is
-- accepted ahead, and a request is asked there; each whatever came of the one before.
pub record GoesOn (meaning : Meaning) (link : Link) (pass : Pass) (offer request : List ℕ)
    (old new : BothEnds) (leg : Leg) : Type 0 where
  pub waiting : Standing
  pub entered : Standing
  pub invites : WorldPartLeads Basic meaning link old.ahead
      (Invites pass.nonce pass.key leg.invited) waiting
  pub retires : WorldPartLeads Basic meaning link old.behind
      (Retires pass.nonce offer leg.left) new.behind
  pub accepts : WorldPartLeads Basic meaning link waiting
      (Accepts (ticket_given leg.left) leg.arrived) entered
  pub asks : WorldPartLeads Basic meaning link entered
      (call_part (accepted_snapshot leg.arrived) request leg.asked) new.ahead

-- three platforms alone: each other cell is blank
pub record ThreeSites : Type 0 where
  pub first : Standing
  pub second : Standing
  pub third : Standing

abbrev pub three_sites : Standing → Standing → Standing → ThreeSites
three_sites first second third = record { first = first; second = second; third = third }

abbrev pub three_platforms : ThreeSites → World
three_platforms sites =
    λ at. if at == 0 then sites.first
    else (if at == 1 then sites.second
    else (if at == 2 then sites.third else record sites.third { cell = Some blank_cell }))

abbrev pub asked_at : ℕ → List ℕ → List ℕ → Result Answer Refusal → Standing → WorldStage
asked_at at offer request gives after =
    record { at = at; part = call_part offer request gives; after = after }

-- the four stages of a leg between two of the platforms, and more behind them
abbrev pub leg_stages : {meaning : Meaning} {link : Link} {pass : Pass} {offer request : List ℕ}
    {old new : BothEnds} {leg : Leg} (behind ahead : ℕ)
    → GoesOn meaning link pass offer request old new leg → List WorldStage → List WorldStage
leg_stages {meaning} {link} {pass} {offer} {request} {old} {new} {leg} behind ahead g more =
    invited_at ahead pass.nonce pass.key leg.invited g.waiting
    ∷ retired_at behind pass.nonce offer leg.left new.behind
    ∷ accepted_at ahead (ticket_given leg.left) leg.arrived g.entered
    ∷ asked_at ahead (accepted_snapshot leg.arrived) request leg.asked new.ahead
    ∷ more

-- the passes of the legs, and what is asked on each platform
pub record Errand : Type 0 where
  pub out : Pass
  pub across : Pass
  pub home : Pass
  pub request : List ℕ

abbrev pub errand : (out across home : Pass) → List ℕ → Errand
errand out across home request =
    record { out = out; across = across; home = home; request = request }

-- What stands between the stages, as far as no object tells it at the end: on the first platform
-- behind its call, and once it is left; on the second and the third, behind their calls.
pub record Waystations : Type 0 where
  pub asked : Standing
  pub left : Standing
  pub second : Standing
  pub third : Standing

-- The legs: what each goes on by is what the one before it answered.
pub record GoesRound (meaning : Meaning) (link : Link) (e : Errand) (offer : List ℕ)
    (old new : ThreeSites) (result : Journey) (w : Waystations) : Type 0 where
  pub asks : WorldPartLeads Basic meaning link old.first (call_part offer e.request result.asked)
      w.asked
  pub out : GoesOn meaning link e.out (answered_snapshot result.asked) e.request
      (both_ends w.asked old.second) (both_ends w.left w.second) result.out
  pub across : GoesOn meaning link e.across (answered_snapshot result.out.asked) e.request
      (both_ends w.second old.third) (both_ends new.second w.third) result.across
  pub home : GoesOn meaning link e.home (answered_snapshot result.across.asked) e.request
      (both_ends w.third w.left) (both_ends new.third new.first) result.home

-- its thirteen stages
abbrev pub journey_stages : {meaning : Meaning} {link : Link} {e : Errand} {offer : List ℕ}
    {old new : ThreeSites} {result : Journey} {w : Waystations}
    → GoesRound meaning link e offer old new result w → List WorldStage
journey_stages {meaning} {link} {e} {offer} {old} {new} {result} {w} g =
    asked_at 0 offer e.request result.asked w.asked
    ∷ leg_stages 0 1 g.out (leg_stages 1 2 g.across (leg_stages 2 0 g.home []))

-- A journey over three platforms is a world's life, whatever came of each of its calls and moves.
-- Where the first platform told the cell of a first start, and both others a blank one, it is one
-- world, or gives evidence.
pub record TravelsRound (meaning : Meaning) (link : Link) (e : Errand) (offer : List ℕ)
    (old new : ThreeSites) (result : Journey) : Type 0 where
  pub stations : Waystations
  pub goes : GoesRound meaning link e offer old new result stations
  pub leads : IsWorldLife Basic meaning link (three_platforms old) (journey_stages goes)
  pub one : (key : List ℕ) → StandsFor (basic_instance meaning key) old.first first_history →
      old.second.cell ≡ Some blank_cell → old.third.cell ≡ Some blank_cell →
      (let begun = first_handed Basic meaning link (three_platforms old) in
      IsOneWorld Basic meaning link begun (three_platforms old) (journey_stages goes) leads
      ⊎ HasWorldEvidence Basic meaning link begun (three_platforms old) (journey_stages goes)
      leads)

-- A world that meets what is asked of a world: a request is answered on one platform, and the
-- module moves to another.

-- what was answered and given in a move, by these nonce and key, and what stood behind each stage
pub record OneMove : Type 0 where
  pub nonce : List ℕ
  pub key : List ℕ
  pub answer : Answer
  pub invited : Result Invited MoveRefusal
  pub ticket : List ℕ
  pub accepted : Result Accepted MoveRefusal
  pub asked : Standing
  pub waiting : Standing
  pub left : Standing
  pub entered : Standing

-- a request was answered by the first snapshot, and the module left by the snapshot of that answer
abbrev pub move_stages : Link → World → OneMove → List WorldStage
move_stages link world m =
    (let first = issued_bytes (instance_of Basic counter link (world 0)) first_history in
    record {
      at = 0;
      part = Lives (Does (Calls (call_of first add_five (Ok m.answer))));
      after = m.asked;
    }
    ∷ invited_at 1 m.nonce m.key m.invited m.waiting
    ∷ retired_at 0 m.nonce m.answer.snapshot (Ok m.ticket) m.left
    ∷ accepted_at 1 m.ticket m.accepted m.entered
    ∷ [])

-- No two messages of its calls share a digest, nobody else made a tag of what was offered and
-- accepted, and no nonce was used twice.
pub record MeetsWorldPremises (link : Link) (world : World) (m : OneMove)
    (f : IsWorldLife Basic counter link world (move_stages link world m)) : Type 0 where
  pub clear : IsClear (world_messages Basic counter link world (move_stages link world m) f)
  pub honest : AreHonest Basic counter link (first_handed Basic counter link world) world
      (move_stages link world m) f

-- So it is in Basic of each such move of a counter, under all keys, of platforms and of the link,
-- and whatever the devices do.
abbrev pub OneMoveMeetsPremises : Type 0
OneMoveMeetsPremises =
    (link : Link) (world : World) (m : OneMove)
    (f : IsWorldLife Basic counter link world (move_stages link world m)) →
    IsWorldAtStart Basic counter link world → MeetsWorldPremises link world m f
