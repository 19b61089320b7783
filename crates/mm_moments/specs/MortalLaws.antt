-- The laws of a life hold of one in which programs are killed: what is asked of it is asked of the
-- calls that were made and told by each kill.
use Rattle.std.specs.Prelude.{◌≡◌, ◌+◌, ◌≤◌, ℕ, true, List, [], ◌∷◌, ◌++◌, length, Option, Some}
use Rattle.std.specs.Option.{option_map_or}
use Rattle.mm_listing.specs.Listing.{AreSaid}
use Rattle.mm_modules.specs.Modules.{meaning_of}
use Rattle.mm_modules.specs.declared.any.AnyModule.{AnyModule}
use Rattle.mm_schedule.specs.Replies.{ModulePromises, tellings_in}
use Rattle.mm_digest.specs.declared.variant.Variant.TheVariants.{Basic, Opt}
use Rattle.mm_model.specs.History.{History, first_history}
use Rattle.mm_model.specs.Chains.{Instance, basic_instance, opt_instance}
use Rattle.mm_model.specs.Messages.{AreNoGuards, IsClear}
use Rattle.mm_model.specs.Standing.{StandsFor, issued_bytes}
use Rattle.mm_platform.specs.Standing.{Item}
use Rattle.mm_recovery.specs.CellWrites.{is_open_after, openings}
use Rattle.mm_recovery.specs.FirstStart.{first_history_on, first_slots}
use Rattle.mm_life.specs.HonestLife.{BeginsOver, IsGoneOnWith, store_behind}
use Rattle.mm_life.specs.Premises.{has_open_segment, IsFirstUntagged, bytes_unless_idle, call_batches, call_messages, closing_messages}
use Rattle.mm_life.specs.Premises.{shown_messages, snapshots_of}
use Rattle.mm_life.specs.LifeWrites.{WritesOnceEach, new_replies, new_requests_told, part_hand, part_stop, part_turns, part_turns_in_hand}
use Rattle.mm_life.specs.Stages.{IsOneWhole, LifeFollows, told_replies}
use Rattle.mm_call.specs.CallPremises.{foreign_items}
use Rattle.mm_moments.specs.Below.{Variant, IsLawful, Meaning, Standing, StoreStanding}
use Rattle.mm_moments.specs.MortalLives.{Dies, IsMortalLife, LifeEnds, Lives, MortalLeavesNoChance, MortalPart, MortalPartLeads, MortalStage}
use Rattle.mm_moments.specs.MortalLives.{ended_life, ended_stages, mortal_calls, mortal_part_calls, mortal_replies}

-- nobody else made a tag of what each part offers first
abbrev pub AreMortalUntagged : (i : Instance) (issued : List (List ℕ)) (start : Standing)
    (stages : List MortalStage) → IsMortalLife i.variant i.meaning start stages → Type 0
AreMortalUntagged i issued start [] f = Unit {0}
AreMortalUntagged i issued start (stage ∷ stages) f =
    (let calls = mortal_part_calls i.variant i.meaning start stage.part stage.after f.0 in
    IsFirstUntagged i issued calls
    × AreMortalUntagged i (issued ++ snapshots_of calls) stage.after stages f.1)

-- The life in which the killed programs ended is one whole.
pub record IsMortalWhole (i : Instance) (start : Standing) (stages : List MortalStage)
    (f : IsMortalLife i.variant i.meaning start stages) (all others : List (List ℕ)) : Type 0 where
  pub ends : LifeEnds i.variant i.meaning start stages f
  pub whole : (let calls = mortal_calls i.variant i.meaning start stages f in
      IsOneWhole all others (call_batches calls) i
      (issued_bytes i first_history ∷ snapshots_of calls) start
      (ended_stages i.variant i.meaning start stages f ends)
      (ended_life i.variant i.meaning start stages f ends))

abbrev pub BasicMortalLifeIsOne : Type 0
BasicMortalLifeIsOne =
    (meaning : Meaning) → IsLawful meaning → (key : List ℕ) (start : Standing)
    (stages : List MortalStage) (f : IsMortalLife Basic meaning start stages) →
    (let i = basic_instance meaning key in
    let all = call_messages i (mortal_calls Basic meaning start stages f) in
    StandsFor i start first_history → IsClear all →
    AreMortalUntagged i (issued_bytes i first_history ∷ []) start stages f →
    IsMortalWhole i start stages f all [])

-- the messages by which the register's items went into it, and the values of others, as it shows
-- them behind each part that isn't idle
abbrev pub mortal_closing_messages : MortalPart → Option (List ℕ) → Option (List Item)
    → List (List ℕ)
mortal_closing_messages (Lives part) cell items = closing_messages part cell items
mortal_closing_messages (Dies p) cell items = []

abbrev pub mortal_register_messages : (i : Instance) (start : Standing) (stages : List MortalStage)
    → IsMortalLife i.variant i.meaning start stages → List (List ℕ)
mortal_register_messages i start [] f = []
mortal_register_messages i start (stage ∷ stages) f =
    bytes_unless_idle start
    (mortal_part_calls i.variant i.meaning start stage.part stage.after f.0)
    (shown_messages stage.after.items
    ++ mortal_closing_messages stage.part start.cell stage.after.items)
    ++ mortal_register_messages i stage.after stages f.1

abbrev pub mortal_others : (i : Instance) (start : Standing) (stages : List MortalStage)
    → IsMortalLife i.variant i.meaning start stages → List (List ℕ)
mortal_others i start [] f = []
mortal_others i start (stage ∷ stages) f =
    bytes_unless_idle start
    (mortal_part_calls i.variant i.meaning start stage.part stage.after f.0)
    (option_map_or foreign_items stage.after.items [])
    ++ mortal_others i stage.after stages f.1

abbrev pub OptMortalLifeIsOne : Type 0
OptMortalLifeIsOne =
    (meaning : Meaning) → IsLawful meaning → (key barrier : List ℕ) (values : List (List ℕ))
    (start : Standing) (stages : List MortalStage) (f : IsMortalLife Opt meaning start stages) →
    (let i = opt_instance meaning key barrier in
    let calls = mortal_calls Opt meaning start stages f in
    let all = call_messages i calls ++ mortal_register_messages i start stages f in
    StandsFor i start (first_history_on values) → IsClear all →
    AreNoGuards barrier (mortal_others i start stages f) (call_batches calls) →
    AreMortalUntagged i (issued_bytes i first_history ∷ []) start stages f →
    IsMortalWhole i start stages f all (mortal_others i start stages f))

-- What is told by the kills, and behind them, says what the module said when its request was run;
-- and what it promises holds.
abbrev pub MortalLivesTell : Type 0
MortalLivesTell =
    (variant : Variant) (meaning : Meaning) (start : Standing) (stages : List MortalStage)
    (f : IsMortalLife variant meaning start stages) (e : LifeEnds variant meaning start stages f)
    (requests : List (List ℕ)) →
    LifeFollows variant meaning start (ended_stages variant meaning start stages f e)
    (ended_life variant meaning start stages f e) [] requests →
    AreSaid meaning requests (tellings_in (mortal_replies variant meaning start stages f))

abbrev pub MortalLivesKeepPromises : Type 0
MortalLivesKeepPromises =
    («module» : AnyModule) (variant : Variant) (start : Standing) (stages : List MortalStage)
    (f : IsMortalLife variant (meaning_of «module») start stages)
    (e : LifeEnds variant (meaning_of «module») start stages f) (requests : List (List ℕ)) →
    LifeFollows variant (meaning_of «module») start
    (ended_stages variant (meaning_of «module») start stages f e)
    (ended_life variant (meaning_of «module») start stages f e) [] requests →
    ModulePromises «module» requests (mortal_replies variant (meaning_of «module») start stages f)

-- a kill is a stop
abbrev pub mortal_stop : MortalPart → ℕ
mortal_stop (Lives part) = part_stop part
mortal_stop (Dies p) = 1

abbrev pub mortal_stops : List MortalStage → ℕ
mortal_stops [] = 0
mortal_stops (stage ∷ stages) = mortal_stop stage.part + mortal_stops stages

-- the requests that may be in hand behind its stops
abbrev pub mortal_hand : MortalPart → ℕ
mortal_hand (Lives part) = part_hand part
mortal_hand (Dies p) = 1

abbrev pub mortal_hands : List MortalStage → ℕ
mortal_hands [] = 0
mortal_hands (stage ∷ stages) = mortal_hand stage.part + mortal_hands stages

-- In Basic the cell is written once for each batch that was told for the first time, and at most
-- once for what was in hand at each stop; and the list has the requests of these.
pub record MortalWrites (meaning : Meaning) (start : Standing) (stages : List MortalStage)
    (f : IsMortalLife Basic meaning start stages) (e : LifeEnds Basic meaning start stages f)
    (requests : List (List ℕ)) : Type 0 where
  pub once : WritesOnceEach start (ended_stages Basic meaning start stages f e)
      (new_replies (mortal_replies Basic meaning start stages f)) (mortal_stops stages)
  pub kept : ℕ
  pub few : kept ≤ mortal_hands stages
  pub listed : length requests
      ≡ new_requests_told (mortal_replies Basic meaning start stages f) + kept

abbrev pub BasicMortalLivesWriteOnce : Type 0
BasicMortalLivesWriteOnce =
    (meaning : Meaning) (key : List ℕ) (y : History) (start : Standing) (stages : List MortalStage)
    (f : IsMortalLife Basic meaning start stages) (e : LifeEnds Basic meaning start stages f)
    (requests : List (List ℕ)) → StandsFor (basic_instance meaning key) start y →
    LifeFollows Basic meaning start (ended_stages Basic meaning start stages f e)
    (ended_life Basic meaning start stages f e) [] requests →
    MortalWrites meaning start stages f e requests

-- In Opt for each segment that was opened, and for each that was closed; a kill may have opened one
-- for what was in hand, where none was open then.
abbrev pub mortal_part_turns : (meaning : Meaning) (old : Standing) (part : MortalPart)
    (new : Standing) → MortalPartLeads Opt meaning old part new → ℕ
mortal_part_turns meaning old (Lives part) new f = part_turns meaning old part new f
mortal_part_turns meaning old (Dies p) new k =
    openings (has_open_segment old) (new_replies (told_replies k.moment.told))

abbrev pub mortal_part_turns_in_hand : (meaning : Meaning) (old : Standing) (part : MortalPart)
    (new : Standing) → MortalPartLeads Opt meaning old part new → ℕ
mortal_part_turns_in_hand meaning old (Lives part) new f =
    part_turns_in_hand meaning old part new f
mortal_part_turns_in_hand meaning old (Dies p) new k =
    openings (is_open_after (has_open_segment old) (new_replies (told_replies k.moment.told))) 1

abbrev pub mortal_turns : (meaning : Meaning) (start : Standing) (stages : List MortalStage)
    → IsMortalLife Opt meaning start stages → ℕ
mortal_turns meaning start [] f = 0
mortal_turns meaning start (stage ∷ stages) f =
    mortal_part_turns meaning start stage.part stage.after f.0
    + mortal_turns meaning stage.after stages f.1

abbrev pub mortal_turns_in_hand : (meaning : Meaning) (start : Standing)
    (stages : List MortalStage) → IsMortalLife Opt meaning start stages → ℕ
mortal_turns_in_hand meaning start [] f = 0
mortal_turns_in_hand meaning start (stage ∷ stages) f =
    mortal_part_turns_in_hand meaning start stage.part stage.after f.0
    + mortal_turns_in_hand meaning stage.after stages f.1

abbrev pub OptMortalLivesWriteOnce : Type 0
OptMortalLivesWriteOnce =
    (meaning : Meaning) (key barrier : List ℕ) (y : History) (start : Standing)
    (stages : List MortalStage) (f : IsMortalLife Opt meaning start stages)
    (e : LifeEnds Opt meaning start stages f) → StandsFor (opt_instance meaning key barrier) start y
    → WritesOnceEach start (ended_stages Opt meaning start stages f e)
    (mortal_turns meaning start stages f) (mortal_turns_in_hand meaning start stages f)

-- A life over one honest store: a killed program starts over what the part before it left, and the
-- next over what the kill left.
abbrev pub MortalBeginsOver : StoreStanding → MortalPart → Type 0
MortalBeginsOver kept (Lives part) = BeginsOver kept part
MortalBeginsOver kept (Dies p) =
    (p.old.kept.is_honest ≡ kept.is_honest) × (p.old.kept.slots ≡ kept.slots)

abbrev pub mortal_store_behind : StoreStanding → MortalPart → StoreStanding
mortal_store_behind kept (Lives part) = store_behind kept part
mortal_store_behind kept (Dies p) = p.kept

abbrev pub IsMortalOverOneStore : StoreStanding → List MortalStage → Type 0
IsMortalOverOneStore kept [] = Unit {0}
IsMortalOverOneStore kept (stage ∷ stages) =
    MortalBeginsOver kept stage.part
    × IsMortalOverOneStore (mortal_store_behind kept stage.part) stages

abbrev pub AreMortalNoChance : (variant : Variant) (meaning : Meaning) (start : Standing)
    (stages : List MortalStage) → IsMortalLife variant meaning start stages → Type 0
AreMortalNoChance variant meaning start [] f = Unit {0}
AreMortalNoChance variant meaning start (stage ∷ stages) f =
    MortalLeavesNoChance variant meaning start stage.part stage.after f.0
    × AreMortalNoChance variant meaning stage.after stages f.1

-- The life in which the killed programs ended is gone on with.
pub record IsMortalGoneOn (i : Instance) (kept : StoreStanding) (start : Standing)
    (stages : List MortalStage) (f : IsMortalLife i.variant i.meaning start stages)
    (all others : List (List ℕ)) : Type 0 where
  pub ends : LifeEnds i.variant i.meaning start stages f
  pub gone : IsGoneOnWith all others
      (call_batches (mortal_calls i.variant i.meaning start stages f)) i kept start
      (ended_stages i.variant i.meaning start stages f ends)
      (ended_life i.variant i.meaning start stages f ends)

abbrev pub BasicMortalLifeGoesOn : Type 0
BasicMortalLifeGoesOn =
    (meaning : Meaning) → IsLawful meaning → (key : List ℕ) (start : Standing)
    (kept : StoreStanding) (stages : List MortalStage)
    (f : IsMortalLife Basic meaning start stages) →
    (let i = basic_instance meaning key in
    let all = call_messages i (mortal_calls Basic meaning start stages f) in
    StandsFor i start first_history → kept.is_honest ≡ true →
    kept.slots ≡ Some (first_slots i) → IsMortalOverOneStore kept stages → IsClear all →
    AreMortalNoChance Basic meaning start stages f → IsMortalGoneOn i kept start stages f all [])

abbrev pub OptMortalLifeGoesOn : Type 0
OptMortalLifeGoesOn =
    (meaning : Meaning) → IsLawful meaning → (key barrier : List ℕ) (values : List (List ℕ))
    (start : Standing) (kept : StoreStanding) (stages : List MortalStage)
    (f : IsMortalLife Opt meaning start stages) →
    (let i = opt_instance meaning key barrier in
    let calls = mortal_calls Opt meaning start stages f in
    let all = call_messages i calls ++ mortal_register_messages i start stages f in
    StandsFor i start (first_history_on values) → kept.is_honest ≡ true →
    kept.slots ≡ Some (first_slots i) → IsMortalOverOneStore kept stages → IsClear all →
    AreNoGuards barrier (mortal_others i start stages f) (call_batches calls) →
    AreMortalNoChance Opt meaning start stages f →
    IsMortalGoneOn i kept start stages f all (mortal_others i start stages f))
