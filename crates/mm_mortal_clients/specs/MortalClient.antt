-- A life in which one client gives the lines of all sessions, and programs are killed. With it:
-- each line that a client wants is run once, in order, and he is told what was said to it, though
-- his sessions are killed; a client who alone asks, over one honest store, is served once though
-- his sessions are killed at any moment.
use Rattle.std.specs.List.{AllByRecursion}
use Rattle.std.specs.Prelude.{◌≡◌, ◌+◌, ℕ, false, List, [], ◌∷◌, ◌++◌, Option, Some, true, ◌⊎◌}
use Rattle.mm_mortal_clients.specs.Below.{Variant, Standing, Meaning, PendingRecord, ServedCall, WaitsInSlots, reached_position, Dies}
use Rattle.mm_mortal_clients.specs.Below.{IsMortalLife, IsWriteOfSlot, Lives, MortalPart, MortalPartLeads, MortalStage, ClientMemory}
use Rattle.mm_mortal_clients.specs.Below.{HeardReply, Hearing, IsClientPart, IsGiven, LeavesNoOther, lines_to_give, memory_after}
use Rattle.mm_mortal_clients.specs.Below.{replies_of, Batch, Instance, StoreStanding, IsGoneOnWith, PartGoesOn, call_batches, LifeEnds}
use Rattle.mm_mortal_clients.specs.Below.{ended_life, ended_stages, mortal_calls, IsMomentOf, PartMakesAll, memory_at, Basic, Opt, IsLawful}
use Rattle.mm_mortal_clients.specs.Below.{IsUnbroken, first_history, basic_instance, opt_instance, StandsFor, HasClash, first_history_on}
use Rattle.mm_mortal_clients.specs.Below.{first_slots, call_messages, AreMortalNoChance, IsMortalOverOneStore, mortal_others}
use Rattle.mm_mortal_clients.specs.Below.{mortal_register_messages}

-- Of a session that was killed the first replies are heard that it had told, and never all: its
-- program didn't end with Ok.
pub record IsHeardOfKilled (told : List ServedCall) (h : Hearing) : Type 0 where
  pub lost : List HeardReply
  pub front : h.replies ++ lost ≡ replies_of told
  pub cut : h.is_whole ≡ false

-- A session to which he gave his lines, and that was killed when it had told this; and what he
-- remembers behind what he heard of it.
pub record IsKilledClientSession (lines : List (List ℕ)) (left : Option (List ℕ))
    (told : List ServedCall) (before after : ClientMemory) : Type 0 where
  pub given : IsGiven lines left
  pub hearing : Hearing
  pub heard : IsHeardOfKilled told hearing
  pub remembers : after ≡ memory_after before hearing

-- He counts from this position, and wants these lines: so it is of each session of a life, whether
-- it ends or is killed.
module _ (base : ℕ) (wanted : List (List ℕ)) (variant : Variant) (meaning : Meaning) where
  abbrev pub IsMortalClientPart : (old : Standing) (part : MortalPart) (new : Standing)
      → MortalPartLeads variant meaning old part new → ClientMemory → ClientMemory → Type 0
  IsMortalClientPart old (Lives part) new f before after =
      IsClientPart base wanted variant meaning old part new f before after
  IsMortalClientPart old (Dies p) new k before after =
      IsKilledClientSession (lines_to_give base wanted before) p.old.left k.moment.told before after

  abbrev pub IsMortalClientLife : (start : Standing) (stages : List MortalStage)
      → IsMortalLife variant meaning start stages → ClientMemory → ClientMemory → Type 0
  IsMortalClientLife start [] f before after = after ≡ before
  IsMortalClientLife start (stage ∷ stages) f before after =
      (between : ClientMemory)
      × IsMortalClientPart start stage.part stage.after f.0 before between
      × IsMortalClientLife stage.after stages f.1 between after

-- Where a kill was in a write of a slot, the bytes that it left aren't by chance another record of
-- the position that it was to have: what waits for it then is the request in hand.
abbrev pub MortalLeavesNoOther : (variant : Variant) (meaning : Meaning) (old : Standing)
    (part : MortalPart) (new : Standing) → MortalPartLeads variant meaning old part new → Type 0
MortalLeavesNoOther variant meaning old (Lives part) new f =
    LeavesNoOther variant meaning old part new f
MortalLeavesNoOther variant meaning old (Dies p) new k =
    IsWriteOfSlot k.moment.next → (waiting : Option PendingRecord)
    → WaitsInSlots p.old.kept.slots waiting →
    (next : PendingRecord) → WaitsInSlots p.kept.slots (Some next) →
    next.position ≡ reached_position waiting k.moment.told + 1 → k.moment.hand ≡ Some next.request

abbrev pub AreMortalNoOthers : (variant : Variant) (meaning : Meaning) (start : Standing)
    (stages : List MortalStage) → IsMortalLife variant meaning start stages → Type 0
AreMortalNoOthers variant meaning start [] f = Unit {0}
AreMortalNoOthers variant meaning start (stage ∷ stages) f =
    MortalLeavesNoOther variant meaning start stage.part stage.after f.0
    × AreMortalNoOthers variant meaning stage.after stages f.1

-- Each line that a client wants is run once, in order, and he is told what was said to it, though
-- his sessions are killed.

-- At each moment of the life the requests that were run are the first of those that he wants, by
-- what he remembers then; and each part goes on from them, as it ended.
module _ (all others : List (List ℕ)) (asked : List Batch) (i : Instance)
    (wanted : List (List ℕ)) where
  abbrev pub IsMortalServedFrom : (start : Standing) (stages : List MortalStage)
      (f : IsMortalLife i.variant i.meaning start stages)
      → LifeEnds i.variant i.meaning start stages f → (m after : ClientMemory)
      → IsMortalClientLife 0 wanted i.variant i.meaning start stages f m after
      → (requests left : List (List ℕ)) → Type 0
  IsMortalServedFrom start [] f e m after c requests left =
      (left ≡ requests) × IsMomentOf i.meaning wanted requests m
  IsMortalServedFrom start (stage ∷ stages) f e m after c requests left =
      (between : List (List ℕ)) × IsMomentOf i.meaning wanted requests m
      × PartGoesOn all others asked i start e.0.ended stage.after e.0.leads requests between
      × PartMakesAll 0 wanted wanted m e.0.ended between
      × IsMortalServedFrom stage.after stages f.1 e.1 c.0 after c.2 between left

-- The life in which the killed programs ended is gone on with, and the client is served once.
pub record IsMortalServedOnce (all others : List (List ℕ)) (i : Instance) (kept : StoreStanding)
    (start : Standing) (stages : List MortalStage)
    (f : IsMortalLife i.variant i.meaning start stages) (wanted : List (List ℕ)) : Type 0 where
  pub ends : LifeEnds i.variant i.meaning start stages f
  pub gone : IsGoneOnWith all others
      (call_batches (mortal_calls i.variant i.meaning start stages f)) i kept start
      (ended_stages i.variant i.meaning start stages f ends)
      (ended_life i.variant i.meaning start stages f ends)
  pub served : (after : ClientMemory)
      (c : IsMortalClientLife 0 wanted i.variant i.meaning start stages f (memory_at 0) after)
      → IsMortalServedFrom all others
      (call_batches (mortal_calls i.variant i.meaning start stages f)) i wanted start stages f
      ends (memory_at 0) after c [] gone.after

-- A client who alone asks, over one honest store, is served once though his sessions are killed at
-- any moment.

-- Basic, behind a first start: whatever the sessions of a life came to, and at whatever moments
-- they were killed, each over what the one before it left, and wherever his input and what he hears
-- was cut, a client of lines without LF is served once. Or two different messages of its calls,
-- told or not, have one digest, or the digest of one is zero.
abbrev pub BasicMortalClientsAreServedOnce : Type 0
BasicMortalClientsAreServedOnce =
    (meaning : Meaning) → IsLawful meaning → (key : List ℕ) (start : Standing)
    (kept : StoreStanding) (stages : List MortalStage)
    (f : IsMortalLife Basic meaning start stages) (wanted : List (List ℕ)) →
    (let i = basic_instance meaning key in
    let calls = mortal_calls Basic meaning start stages f in
    let all = call_messages i calls in
    StandsFor i start first_history → kept.is_honest ≡ true →
    kept.slots ≡ Some (first_slots i) → IsMortalOverOneStore kept stages →
    AreMortalNoChance Basic meaning start stages f →
    AreMortalNoOthers Basic meaning start stages f → AllByRecursion IsUnbroken wanted →
    IsMortalServedOnce all [] i kept start stages f wanted
    ⊎ HasClash i all [] (call_batches calls))

-- Opt, from a register that others had extended by these values: the same; or a message by which
-- its items went into it clashes too, or a value of others is the guard of a request.
abbrev pub OptMortalClientsAreServedOnce : Type 0
OptMortalClientsAreServedOnce =
    (meaning : Meaning) → IsLawful meaning → (key barrier : List ℕ) (values : List (List ℕ))
    (start : Standing) (kept : StoreStanding) (stages : List MortalStage)
    (f : IsMortalLife Opt meaning start stages) (wanted : List (List ℕ)) →
    (let i = opt_instance meaning key barrier in
    let calls = mortal_calls Opt meaning start stages f in
    let all = call_messages i calls ++ mortal_register_messages i start stages f in
    let others = mortal_others i start stages f in
    StandsFor i start (first_history_on values) → kept.is_honest ≡ true →
    kept.slots ≡ Some (first_slots i) → IsMortalOverOneStore kept stages →
    AreMortalNoChance Opt meaning start stages f →
    AreMortalNoOthers Opt meaning start stages f → AllByRecursion IsUnbroken wanted →
    IsMortalServedOnce all others i kept start stages f wanted
    ⊎ HasClash i all others (call_batches calls))
