-- What is asked of a life, all of it of bytes and of calls that were made. With it: a part of a
-- life over a platform on which the module doesn't live; parts of a life of Opt in which no segment
-- is open and nothing new is asked; what a deed that is no call leaves, by lists.
use Rattle.std.specs.List.{AllByRecursion, Contains, flat_map}
use Rattle.std.specs.Option.{option_map_or}
use Rattle.std.specs.Prelude.{◌≡◌, ℕ, List, IsErr, ◌&&◌, Bool, true, false, not, [], ◌∷◌, drop, is_some, take, Result, Ok, Err, ◌++◌, map}
use Rattle.std.specs.Prelude.{Option, Some, if◌then◌else◌}
use Rattle.std.specs.Str.{bytes_eq}
use Rattle.mm_life.specs.Below.{Variant, Opt, Standing, Meaning, LivesElsewhere, BatchAnswer, Memory, Refusal, fault_of, anchored_message}
use Rattle.mm_life.specs.Below.{extended_message, start_message, zero_bytes, Content, Item, item_values, Batch, normal_batch, digest_after}
use Rattle.mm_life.specs.Below.{Instance, register_trail, IsRight, right_messages, right_content, foreign_items, Basic, History}
use Rattle.mm_life.specs.Below.{basic_instance, opt_instance, IsClear, AreMessagesIn, NamesPosition, StandsFor, IsWithin}
use Rattle.mm_life.specs.Deeds.{LifeCall, Checkpoints, Calls, Deed, DeedLeads}
use Rattle.mm_life.specs.Stages.{Does, LifePart, PartLeads, part_calls, IsLife, LifeStage, life_calls}

-- A part of a life over a platform on which the module doesn't live: it was never there, it is
-- awaited, or it has left.

-- The platform tells its cell, and the part finds none there that it minds: a checkpoint minds each
-- one of Opt, and all else those of the module.
abbrev pub FindsNoCell : Variant → Meaning → Standing → LifePart → Type 0
FindsNoCell variant meaning old (Does (Checkpoints said)) = (id : ℕ) → LivesElsewhere Opt id old
FindsNoCell variant meaning old part = LivesElsewhere variant meaning.id old

-- the cell is as before, and each of these calls was refused
pub record RefusesAll (old new : Standing) (calls : List LifeCall) : Type 0 where
  pub cell : new.cell ≡ old.cell
  pub refused : AllByRecursion (λ c. IsErr c.gives) calls

-- So it is of each part: a session, too, tells no answer there.
abbrev pub PartsAreRefusedElsewhere : Type 0
PartsAreRefusedElsewhere =
    (variant : Variant) (meaning : Meaning) (old : Standing) (part : LifePart) (new : Standing)
    (f : PartLeads variant meaning old part new) → FindsNoCell variant meaning old part →
    RefusesAll old new (part_calls variant meaning old part new f)

-- Parts of a life of Opt in which no segment is open and nothing new is asked.

-- whether a segment is open, by the flag in the cell's bytes
abbrev pub flag_in : List ℕ → List ℕ
flag_in cell = take 1 (drop 6 cell)

abbrev pub has_open_segment : Standing → Bool
has_open_segment standing = bytes_eq (option_map_or flag_in standing.cell []) (1 ∷ [])

-- whether a call was told as a repeat, or refused as its offer is: neither for a device's fault nor
-- for want of memory
abbrev pub is_old : Result BatchAnswer Refusal → Bool
is_old (Ok answer) = answer.again
is_old (Err Memory) = false
is_old (Err why) = not (is_some (fault_of why))

-- at most one call was made, and it was such
abbrev pub has_nothing_new : List LifeCall → Bool
has_nothing_new [] = true
has_nothing_new (c ∷ []) = is_old c.gives
has_nothing_new (c ∷ next ∷ calls) = false

-- No segment is open where a part begins, and nothing new is asked in it.
abbrev pub is_idle : Standing → List LifeCall → Bool
is_idle old calls = not (has_open_segment old) && has_nothing_new calls

-- What is asked of a life, all of it of bytes and of calls that were made.

-- the snapshots that these calls issued, told or not
abbrev pub issued_snapshot_in : Result BatchAnswer Refusal → List (List ℕ)
issued_snapshot_in (Ok answer) = answer.snapshot ∷ []
issued_snapshot_in (Err why) = []

abbrev pub snapshots_of : List LifeCall → List (List ℕ)
snapshots_of calls = flat_map (λ c. issued_snapshot_in c.gives) calls

-- Nobody else made its tag: bytes that are right were issued before.
abbrev pub IsUntagged : Instance → List (List ℕ) → List ℕ → Type 0
IsUntagged i issued offer = (content : Content) → IsRight i offer content → Contains issued offer

-- asked of the first of these calls
abbrev pub IsFirstUntagged : Instance → List (List ℕ) → List LifeCall → Type 0
IsFirstUntagged i issued [] = Unit {0}
IsFirstUntagged i issued (c ∷ calls) = IsUntagged i issued c.offer

-- Of each program, and of each call of others, it is asked of what is offered first. What a program
-- offers later are snapshots that it was answered.
abbrev pub AreUntagged : (i : Instance) (issued : List (List ℕ)) (start : Standing)
    (stages : List LifeStage) → IsLife i.variant i.meaning start stages → Type 0
AreUntagged i issued start [] f = Unit {0}
AreUntagged i issued start (stage ∷ stages) f =
    (let calls = part_calls i.variant i.meaning start stage.part stage.after f.0 in
    IsFirstUntagged i issued calls
    × AreUntagged i (issued ++ snapshots_of calls) stage.after stages f.1)

-- the batches of the calls; one of a single request as such
abbrev pub call_batches : List LifeCall → List Batch
call_batches calls = map (λ c. normal_batch c.batch) calls

-- The messages of calls: the start message, and for each call those of what is asked with a right
-- offer.
abbrev pub call_messages : Instance → List LifeCall → List (List ℕ)
call_messages i calls =
    start_message i.variant i.meaning.id
    ∷ flat_map (λ c. right_messages i (normal_batch c.batch) (right_content i c.offer)) calls

-- In Opt, behind each part of a life that isn't idle: those by which the register's items went into
-- it; and of a checkpoint those by which it may close the segment in front of, between and behind
-- these.
abbrev pub shown_messages : Option (List Item) → List (List ℕ)
shown_messages items = option_map_or (λ shown. register_trail (item_values shown)) items []

abbrev pub possible_closings : List ℕ → List ℕ → List (List ℕ) → List (List ℕ)
possible_closings anchor register [] = anchored_message anchor register ∷ []
possible_closings anchor register (value ∷ values) =
    anchored_message anchor register
    ∷ possible_closings anchor (digest_after extended_message register (value ∷ [])) values

-- the digest in a cell's bytes
abbrev pub digest_in : List ℕ → List ℕ
digest_in cell = take 32 (drop 8 cell)

abbrev pub closing_messages : LifePart → Option (List ℕ) → Option (List Item) → List (List ℕ)
closing_messages (Does (Checkpoints said)) (Some cell) (Some items) =
    possible_closings (digest_in cell) zero_bytes (item_values items)
closing_messages _ _ _ = []

-- nothing of a part that is idle
abbrev pub bytes_unless_idle : Standing → List LifeCall → List (List ℕ) → List (List ℕ)
bytes_unless_idle old calls asked = if is_idle old calls then [] else asked

abbrev pub register_messages : (i : Instance) (start : Standing) (stages : List LifeStage)
    → IsLife i.variant i.meaning start stages → List (List ℕ)
register_messages i start [] f = []
register_messages i start (stage ∷ stages) f =
    bytes_unless_idle start (part_calls i.variant i.meaning start stage.part stage.after f.0)
    (shown_messages stage.after.items
    ++ closing_messages stage.part start.cell stage.after.items)
    ++ register_messages i stage.after stages f.1

-- the values by which others extended the register, as it shows them behind each part that isn't
-- idle
abbrev pub others_values : (i : Instance) (start : Standing) (stages : List LifeStage)
    → IsLife i.variant i.meaning start stages → List (List ℕ)
others_values i start [] f = []
others_values i start (stage ∷ stages) f =
    bytes_unless_idle start (part_calls i.variant i.meaning start stage.part stage.after f.0)
    (option_map_or foreign_items stage.after.items [])
    ++ others_values i stage.after stages f.1

abbrev pub life_batches : (i : Instance) (start : Standing) (stages : List LifeStage)
    → IsLife i.variant i.meaning start stages → List Batch
life_batches i start stages f = call_batches (life_calls i.variant i.meaning start stages f)

abbrev pub life_messages : (i : Instance) (start : Standing) (stages : List LifeStage)
    → IsLife i.variant i.meaning start stages → List (List ℕ)
life_messages i start stages f = call_messages i (life_calls i.variant i.meaning start stages f)

abbrev pub opt_messages : (i : Instance) (start : Standing) (stages : List LifeStage)
    → IsLife i.variant i.meaning start stages → List (List ℕ)
opt_messages i start stages f = life_messages i start stages f ++ register_messages i start stages f

-- What a deed that is no call leaves, by lists: an extension by others, a loss of power, a
-- checkpoint.

-- The platform stands for a history with the same requests, which names what was named before, and
-- which holds what was asked.
pub record HistoryStays (all others : List (List ℕ)) (asked : List Batch)
    (i : Instance) (y : History)
    (new : Standing) : Type 0 where
  pub after : History
  pub stands : StandsFor i new after
  pub within : IsWithin all others asked i after
  pub batches : after.batches ≡ y.batches
  pub names : (content : Content) → NamesPosition i y content → NamesPosition i after content

abbrev pub IsNoCall : Deed → Type 0
IsNoCall (Calls c) = ⊥
IsNoCall _ = Unit {0}

-- What is asked in Opt of a part of a life, by what stands before and behind it: the messages and
-- the values of others that the register shows behind it, and of a checkpoint the messages by which
-- it may close.
pub record IsSeen (all others : List (List ℕ)) (old : Standing) (part : LifePart)
    (new : Standing) : Type 0 where
  pub registers : AreMessagesIn (shown_messages new.items) all
  pub values : AllByRecursion (Contains others) (option_map_or foreign_items new.items [])
  pub closings : AreMessagesIn (closing_messages part old.cell new.items) all

-- In Basic from each history.
abbrev pub BasicDeedsStay : Type 0
BasicDeedsStay =
    (meaning : Meaning) (key : List ℕ) (all others : List (List ℕ)) (asked : List Batch)
    (y : History) (old : Standing) (deed : Deed) (new : Standing) →
    IsClear all → IsNoCall deed → DeedLeads Basic meaning old deed new →
    StandsFor (basic_instance meaning key) old y
    → IsWithin all others asked (basic_instance meaning key) y →
    HistoryStays all others asked (basic_instance meaning key) y new

-- In Opt too, where the register is seen.
abbrev pub OptDeedsStay : Type 0
OptDeedsStay =
    (meaning : Meaning) (key barrier : List ℕ) (all others : List (List ℕ)) (asked : List Batch)
    (y : History) (old : Standing) (deed : Deed) (new : Standing) →
    IsClear all → IsNoCall deed → IsSeen all others old (Does deed) new →
    DeedLeads Opt meaning old deed new → StandsFor (opt_instance meaning key barrier) old y →
    IsWithin all others asked (opt_instance meaning key barrier) y →
    HistoryStays all others asked (opt_instance meaning key barrier) y new
