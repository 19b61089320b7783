-- What is asked of a history and of the moves of a call, that the call be by digests what it is by
-- lists. With it: what counts of the moves of a call of Opt is what the register shows of them;
-- what is asked of who calls, before anything is known of moves; how many device steps a whole call
-- makes, and how many of them write the cell.
use Rattle.std.specs.List.{AllByRecursion, Contains}
use Rattle.std.specs.Option.{option_map_or}
use Rattle.std.specs.Prelude.{◌≡◌, ℕ, Bool, true, false, List, [], ◌∷◌, ◌++◌, Option, if◌then◌else◌, None, Some, Result, Ok, Err, ◌⊎◌}
use Rattle.mm_model.specs.declared.refusal.Refusal.TheVariants as refusal
use Rattle.mm_call.specs.Below.{Variant, Basic, Opt, Content, Batch, History, Move, Foreign, Reset, history_after, Instance, AreMessagesIn}
use Rattle.mm_call.specs.Below.{IsClear, AreNoGuards, history_messages, messages_for_move, offer_messages, IsOutside, IsSound, IsGenuine}
use Rattle.mm_call.specs.Below.{extended_message, Item, item_values, Meaning, trail, register_value_of, opt_instance, Digests, next_count}
use Rattle.mm_call.specs.Below.{Cell, IsCell, cell_spelling, Standing, StepFault, BatchAnswer, Refusal, Device, Long}
use Rattle.mm_call.specs.CallFinding.{right_content, digest_level, finding_at, is_fresh, list_level, fault_of}
use Rattle.mm_call.specs.CallOutcome.{Course, call_outcome}
use Rattle.mm_call.specs.Standing.{items_after_moves, count_after_more}

-- a history of Basic, which has no segments
pub record IsPlain (y : History) : Type 0 where
  pub closed : y.closed ≡ []
  pub shut : y.is_open ≡ false

-- what holds of each history that calls, others and losses of power lead to
abbrev pub IsLedTo : Variant → History → Type 0
IsLedTo Basic y = IsPlain y
IsLedTo Opt y = IsSound y

-- What counts of a history: while no segment is open the register isn't read, and a reset comes
-- before it counts.
abbrev pub counted_part : History → History
counted_part y = record y { items = if y.is_open then y.items else [] }

-- the moves from the first reset on; without one none
abbrev pub moves_from_reset : List Move → List Move
moves_from_reset [] = []
moves_from_reset (Reset ∷ moves) = Reset ∷ moves
moves_from_reset (_ ∷ moves) = moves_from_reset moves

-- what counts of the moves of a call: by whether a segment is open when it begins
abbrev pub counted_moves : Bool → List Move → List Move
counted_moves true moves = moves
counted_moves false moves = moves_from_reset moves

-- the messages of moves made one after another
abbrev pub messages_of_moves : Instance → History → List Move → List (List ℕ)
messages_of_moves i y [] = []
messages_of_moves i y (m ∷ moves) =
    messages_for_move i.variant y.is_open i y m ++ messages_of_moves i (history_after i y m) moves

-- the values that others put into the register among these moves
abbrev pub foreign_move_values : List Move → List (List ℕ)
foreign_move_values [] = []
foreign_move_values (Foreign v ∷ moves) = v ∷ foreign_move_values moves
foreign_move_values (_ ∷ moves) = foreign_move_values moves

-- the messages of what is asked of a right offer
abbrev pub right_messages : Instance → Batch → Option Content → List (List ℕ)
right_messages i b right = option_map_or (λ content. offer_messages i content.place b) right []

-- What is asked of a history, and what a call keeps: calls and others led to it; its messages are
-- in the list `all`; its values that stand for no batch and count are among `others`; and its
-- batches among those `asked`.
pub record IsWithin (all others : List (List ℕ)) (asked : List Batch) (i : Instance)
    (y : History) : Type 0 where
  pub sound : IsLedTo i.variant y
  pub outside : IsOutside others y
  pub listed : AreMessagesIn (history_messages i (counted_part y)) all
  pub batches : AllByRecursion (Contains asked) y.batches

-- What is asked of a call from a history that makes these moves: the list is clear, and none of the
-- values is the guard of one of the batches; the history is within them, and so are the batch, the
-- messages of a right offer, which names a position of the history, and what counts of the moves.
pub record IsAsked (all others : List (List ℕ)) (asked : List Batch) (i : Instance) (y : History)
    (moves : List Move) (offer : List ℕ)
    (b : Batch) : Type 0 where
  pub clear : IsClear all
  pub apart : AreNoGuards i.barrier others asked
  pub within : IsWithin all others asked i y
  pub is_asked : Contains asked b
  pub genuine : IsGenuine i y offer
  pub offered : AreMessagesIn (right_messages i b (right_content i offer)) all
  pub messages : AreMessagesIn
      (messages_of_moves i (counted_part y) (counted_moves y.is_open moves)) all
  pub values : AllByRecursion (Contains others)
      (foreign_move_values (counted_moves y.is_open moves))

-- What counts of the moves of a call of Opt is what the register shows of them.

-- the values of the items that aren't the platform's own
abbrev pub foreign_items : List Item → List (List ℕ)
foreign_items [] = []
foreign_items (item ∷ items) =
    if item.own then foreign_items items else item.value ∷ foreign_items items

-- the items that count when a call begins: by whether a segment is open
abbrev pub standing_items : Bool → List Item → List Item
standing_items true items = items
standing_items false items = []

-- What counts of the moves is these items more: their messages, one after another from the
-- register's value on, and their values of others.
pub record IsTied (i : Instance) (y : History) (moves : List Move) (more : List Item) : Type 0 where
  pub messages : messages_of_moves i (counted_part y) (counted_moves y.is_open moves)
      ≡ trail extended_message (register_value_of i (counted_part y)) (item_values more)
  pub values : foreign_move_values (counted_moves y.is_open moves) ≡ foreign_items more

-- The register shows these items more behind those that counted; or nothing counts.
pub data MovesAreTied (i : Instance) (y : History) (d : Digests) (moves : List Move) : Type 0 where
  shows : (more : List Item) → IsTied i y moves more
      → ((items : List Item) → items_after_moves i d moves items ≡ standing_items y.is_open items
      ++ more)
      → MovesAreTied i y d moves
  nothing : counted_moves y.is_open moves ≡ [] → MovesAreTied i y d moves

-- So it is of each call by digests, on every course, however it ends.
abbrev pub OptMovesAreTied : Type 0
OptMovesAreTied =
    (meaning : Meaning) (key barrier : List ℕ) (y : History) (d : Digests) (course : Course)
    (offer : List ℕ) (b : Batch) →
    d.flag ≡ y.is_open →
    MovesAreTied (opt_instance meaning key barrier) y d
    (call_outcome (opt_instance meaning key barrier)
    (digest_level (opt_instance meaning key barrier)) d course offer
    b).moves

-- What is asked of who calls, before anything is known of moves: of a history, an offer and a
-- batch; and of what the register shows.

-- What is asked of a history, an offer and a batch. In Basic nothing is asked of what others do,
-- nor of steps: it never reads the register.
pub record AreAsked (all others : List (List ℕ)) (asked : List Batch) (i : Instance) (y : History)
    (offer : List ℕ) (b : Batch) : Type 0 where
  pub clear : IsClear all
  pub apart : AreNoGuards i.barrier others asked
  pub within : IsWithin all others asked i y
  pub is_asked : Contains asked b
  pub genuine : IsGenuine i y offer
  pub offered : AreMessagesIn (right_messages i b (right_content i offer)) all

-- What is asked of the items that the register shows at exit, behind those that counted at entry:
-- their messages, one after another, are in the clear list, and the values that aren't the
-- platform's own are among those of others.
pub record AreShown (all others : List (List ℕ)) (i : Instance) (y : History)
    (more : List Item) : Type 0 where
  pub messages : AreMessagesIn
      (trail extended_message (register_value_of i (counted_part y)) (item_values more)) all
  pub values : AllByRecursion (Contains others) (foreign_items more)

-- No segment is open, and the batch isn't taken for new: it is a repeat, or it is refused. Such a
-- call neither goes by what the register holds nor empties it, so nothing is asked of the items
-- that the register shows.
pub record IsIdle (i : Instance) (y : History) (offer : List ℕ) (b : Batch) : Type 0 where
  pub shut : y.is_open ≡ false
  pub not_new : is_fresh (finding_at i (list_level i) y b offer) ≡ false

-- How many device steps a whole call makes, and how many of them write the cell.

-- so many steps were made, and so many of them that write the cell
abbrev pub StepsAre : ℕ → ℕ → Standing → Standing → Type 0
StepsAre steps writes old new =
    (new.steps ≡ count_after_more steps old.steps)
    × (new.writes ≡ count_after_more writes old.writes)

-- how many steps a call of Opt made; the fifth is the one that writes the cell
pub data StepsMade (old new : Standing) : Type 0 where
  one_step : StepsAre 1 0 old new → StepsMade old new
  two_steps : StepsAre 2 0 old new → StepsMade old new
  three_steps : StepsAre 3 0 old new → StepsMade old new
  four_steps : StepsAre 4 0 old new → StepsMade old new
  five_steps : StepsAre 5 1 old new → StepsMade old new

-- A repeat makes the reading steps alone. A new batch makes in Basic one more, which writes the
-- cell; in Opt one more, or three where it opens a segment.
abbrev pub StepsAnswered : Variant → Bool → Standing → Standing → Type 0
StepsAnswered Basic true old new = StepsAre 1 0 old new
StepsAnswered Basic false old new = StepsAre 2 1 old new
StepsAnswered Opt true old new = StepsAre 2 0 old new
StepsAnswered Opt false old new = StepsAre 3 0 old new ⊎ StepsAre 5 1 old new

-- in Basic a refusal makes the step that reads, and a fault may be that of the write behind it
abbrev pub StepsBroken : Option StepFault → Standing → Standing → Type 0
StepsBroken None old new = StepsAre 1 0 old new
StepsBroken (Some fault) old new = StepsAre 1 0 old new ⊎ StepsAre 2 1 old new

-- a refusal makes the step that it rests on, and those before it; none is that of too long a batch
abbrev pub StepsRefused : Variant → Refusal → Standing → Standing → Type 0
StepsRefused variant Long old new = ⊥
StepsRefused Basic why old new = StepsBroken (fault_of why) old new
StepsRefused Opt (Device fault) old new = StepsMade old new
StepsRefused Opt refusal.Blank old new = StepsAre 1 0 old new
StepsRefused Opt refusal.Cell old new = StepsAre 1 0 old new
StepsRefused Opt _ old new = StepsAre 2 0 old new

-- The steps that a call makes; a fault ends it at its step.
abbrev pub StepsBy : Variant → Result BatchAnswer Refusal → Standing → Standing → Type 0
StepsBy variant (Ok answer) old new = StepsAnswered variant answer.again old new
StepsBy variant (Err why) old new = StepsRefused variant why old new

-- the cell was to be written once, or never
abbrev pub CellIsWrittenAtMostOnce : Standing → Standing → Type 0
CellIsWrittenAtMostOnce old new = (new.writes ≡ old.writes) ⊎ (new.writes ≡ next_count old.writes)

-- the steps of an answer of Opt, by whether a segment was open, and by whether it is a repeat's
abbrev pub StepsFrom : Bool → Bool → Standing → Standing → Type 0
StepsFrom flag true old new = StepsAre 2 0 old new
StepsFrom true false old new = StepsAre 3 0 old new
StepsFrom false false old new = StepsAre 5 1 old new

abbrev pub AnswersFrom : Bool → Result BatchAnswer Refusal → Standing → Standing → Type 0
AnswersFrom flag (Ok answer) old new = StepsFrom flag answer.again old new
AnswersFrom flag (Err why) old new = Unit {0}

-- A call of Opt is to write the cell at most once. Where the platform tells its cell, and the flag
-- there is set, it never is: a new batch is committed by three steps; where the flag is clear, by
-- five, of which the last writes the cell.
pub record WritesByFlag (result : Result BatchAnswer Refusal) (old new : Standing) : Type 0 where
  pub once : CellIsWrittenAtMostOnce old new
  pub inside : (cell : Cell) → IsCell cell → old.cell ≡ Some (cell_spelling cell) → cell.flag ≡ true
      → new.writes ≡ old.writes
  pub answers : (cell : Cell) → IsCell cell → old.cell ≡ Some (cell_spelling cell)
      → AnswersFrom cell.flag result old new

-- How often a call is to write the cell: in Basic its steps say the rest.
abbrev pub WritesBy : Variant → Result BatchAnswer Refusal → Standing → Standing → Type 0
WritesBy Basic result old new = CellIsWrittenAtMostOnce old new
WritesBy Opt result old new = WritesByFlag result old new
