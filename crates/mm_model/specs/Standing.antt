-- What a platform stands for, and what is asked of an offer. With it: whether a history goes on;
-- what holds of each history of Opt that calls, others and losses of power lead to; which places
-- the positions of a history have, and what a snapshot names.
use Rattle.std.specs.List.{AllByRecursion}
use Rattle.std.specs.Option.{option_map}
use Rattle.std.specs.Prelude.{Bool, true, false, List, [], ◌∷◌, ◌&&◌, ◌≡◌, ◌++◌, ◌⊎◌, ℕ, map, ◌≤◌, length, Option, Some, IsTrue}
use Rattle.std.specs.Str.{bytes_eq}
use Rattle.mm_model.specs.Below.{Variant, Basic, Opt, Batch, One, Many, zero_bytes, Content, Place, InBasic, InOpt, state_after, Digest}
use Rattle.mm_model.specs.Below.{IsCell, cell_spelling, IsContent, variant_of, sealed_snapshot_of, Cell, Standing, item_values}
use Rattle.mm_model.specs.Below.{register_after}
use Rattle.mm_model.specs.Chains.{guard, summary_of, register_of, anchor_of, Instance}
use Rattle.mm_model.specs.History.{RegisterEntry, Own, Value, History, items_of_all, requests_of, total_of, extension_value}
use Rattle.mm_model.specs.History.{register_value_of, cell_digest_of}

-- Whether a history goes on.

abbrev pub is_same_batch : Batch → Batch → Bool
is_same_batch (One r) (One s) = bytes_eq r s
is_same_batch (Many t) (Many u) = bytes_eq t u
is_same_batch _ _ = false

abbrev pub is_empty : {A : Type 0} → List A → Bool
is_empty [] = true
is_empty (x ∷ xs) = false

-- some entry is a value that stands for no batch
abbrev pub has_value : List RegisterEntry → Bool
has_value [] = false
has_value (Own b ∷ entries) = has_value entries
has_value (Value d ∷ entries) = true

-- the entries are those of the batches, one by one
abbrev pub are_own : List RegisterEntry → List Batch → Bool
are_own [] [] = true
are_own (Own b ∷ entries) (c ∷ batches) = is_same_batch b c && are_own entries batches
are_own _ _ = false

-- Live goes on. Spoiled accepts no offer any more, as a value that no batch put there counts. Lost:
-- power was lost inside an open segment
pub data Life : Type 0 where
  Live : Life
  Spoiled : Life
  Lost : Life

-- by: a segment is open; the register's items are empty; they are those of the open segment; a
-- closed segment holds a value that stands for no batch
abbrev pub life_by : Bool → Bool → Bool → Bool → Life
life_by true true is_own is_marred = Lost
life_by true false true false = Live
life_by false is_bare is_own false = Live
life_by _ _ _ _ = Spoiled

-- Basic always goes on
abbrev pub life_of : Variant → History → Life
life_of Basic y = Live
life_of Opt y =
    life_by y.is_open (is_empty y.items) (are_own y.items y.current)
    (has_value (items_of_all y.closed))

-- power was lost inside an open segment
abbrev pub is_lost : Life → Bool
is_lost Lost = true
is_lost _ = false

-- What holds of each history of Opt that calls, others and losses of power lead to.

-- the batches whose entries these are
abbrev pub batches_in : List RegisterEntry → List Batch
batches_in [] = []
batches_in (Own b ∷ entries) = b ∷ batches_in entries
batches_in (Value d ∷ entries) = batches_in entries

-- No closed segment holds a value that stands for no batch, and the batches are those of the closed
-- segments and then those of the open one.
pub record IsClean (y : History) : Type 0 where
  pub clean : has_value (items_of_all y.closed) ≡ false
  pub batches : y.batches ≡ batches_in (items_of_all y.closed) ++ y.current

-- The last closed segment alone holds such a value, nothing is open, and the batches begin with
-- those of the segments before it.
pub record IsMarred (y : History) : Type 0 where
  pub before : List (List RegisterEntry)
  pub last : List RegisterEntry
  pub rest : List Batch
  pub split : y.closed ≡ before ++ last ∷ []
  pub clean : has_value (items_of_all before) ≡ false
  pub marred : has_value last ≡ true
  pub shut : y.is_open ≡ false
  pub batches : y.batches ≡ batches_in (items_of_all before) ++ rest

-- what the register's items are while a segment is open: its batches' entries; nothing, after a
-- loss of power; or they hold a value that stands for no batch
abbrev pub AreItems : List RegisterEntry → List Batch → Type 0
AreItems items current = (are_own items current ≡ true) ⊎ (items ≡ []) ⊎ (has_value items ≡ true)

pub record IsSound (y : History) : Type 0 where
  pub open_is : is_empty y.current ≡ false → y.is_open ≡ true
  pub shut_is : is_empty y.current ≡ true → y.is_open ≡ false
  pub filled : AllByRecursion (λ segment. is_empty segment ≡ false) y.closed
  pub history : IsClean y ⊎ IsMarred y
  pub register : y.is_open ≡ true → AreItems y.items y.current

-- Which places the positions of a history have, and what a snapshot names.

-- the anchor after these segments
abbrev pub anchor_after : Instance → List (List RegisterEntry) → List ℕ
anchor_after i segments = anchor_of i.meaning.id (map (map (extension_value i.barrier)) segments)

-- At an anchor: after some first closed segments, of which none holds a value that stands for no
-- batch. The batches up to there are as many as their entries.
pub record IsAnchorPoint (i : Instance) (y : History) (named : List Batch)
    (anchor extension : List ℕ) : Type 0 where
  pub before : List (List RegisterEntry)
  pub later : List (List RegisterEntry)
  pub split : y.closed ≡ before ++ later
  pub clean : has_value (items_of_all before) ≡ false
  pub counted : length named ≡ length (items_of_all before)
  pub anchor_is : anchor ≡ anchor_after i before
  pub extension_is : extension ≡ zero_bytes

-- Inside a closed segment: after its first batches, at least one. A segment starts at as many
-- batches as the segments before it have entries, and it runs to the next start, the last one to
-- the end.
pub record IsClosedPoint (i : Instance) (y : History) (named : List Batch)
    (anchor extension : List ℕ) : Type 0 where
  pub before : List (List RegisterEntry)
  pub segment : List RegisterEntry
  pub later : List (List RegisterEntry)
  pub done : List Batch
  pub taken : List Batch
  pub split : y.closed ≡ before ++ segment ∷ later
  pub named_is : named ≡ done ++ taken
  pub counted : length done ≡ length (items_of_all before)
  pub begun : is_empty taken ≡ false
  pub within : (length taken ≤ length segment) ⊎ ((later ≡ []) × (y.current ≡ []))
  pub anchor_is : anchor ≡ anchor_after i before
  pub extension_is : extension ≡ register_of (map (guard i.barrier) taken)

-- Inside the open segment: after its first batches, at least one.
pub record IsCurrentPoint (i : Instance) (y : History) (named : List Batch)
    (anchor extension : List ℕ) : Type 0 where
  pub done : List Batch
  pub taken : List Batch
  pub more : List Batch
  pub split : y.current ≡ taken ++ more
  pub start : y.batches ≡ done ++ y.current
  pub named_is : named ≡ done ++ taken
  pub begun : is_empty taken ≡ false
  pub anchor_is : anchor ≡ anchor_after i y.closed
  pub extension_is : extension ≡ register_of (map (guard i.barrier) taken)

-- a place of Opt
pub data IsPoint (i : Instance) (y : History) (named : List Batch)
    (anchor extension : List ℕ) : Type 0 where
  at_anchor : IsAnchorPoint i y named anchor extension → IsPoint i y named anchor extension
  in_closed : IsClosedPoint i y named anchor extension → IsPoint i y named anchor extension
  in_current : IsCurrentPoint i y named anchor extension → IsPoint i y named anchor extension

-- a place of the position after the first batches `named`. A position inside a batch has none.
abbrev pub IsPlaceOf : Variant → Instance → History → List Batch → Place → Type 0
IsPlaceOf Basic i y named (InBasic s) = s.bytes ≡ summary_of i.meaning.id named
IsPlaceOf Opt i y named (InOpt a e) = IsPoint i y named a.bytes e.bytes
IsPlaceOf _ i y named _ = ⊥

-- a snapshot names a position of the history: the position, the state there, and one of its places
pub record NamesPosition (i : Instance) (y : History) (offered : Content) : Type 0 where
  pub named : List Batch
  pub rest : List Batch
  pub first : y.batches ≡ named ++ rest
  pub position : offered.position ≡ total_of named
  pub state : offered.state ≡ state_after i.meaning (requests_of named)
  pub place : IsPlaceOf i.variant i y named offered.place

-- where the snapshot of an answer stands
abbrev pub issued_place : Variant → Bool → Instance → History → Place
issued_place Basic is_open i y = InBasic (record { bytes = summary_of i.meaning.id y.batches })
issued_place Opt true i y =
    InOpt (record { bytes = anchor_after i y.closed })
    (record { bytes = register_of (map (guard i.barrier) y.current) })
issued_place Opt false i y =
    InOpt (record { bytes = anchor_after i y.closed })
    (record { bytes = zero_bytes })

-- what the snapshot of an answer says
abbrev pub content_of_issue : Instance → History → Content
content_of_issue i y = record {
  id = i.meaning.id;
  place = issued_place i.variant y.is_open i y;
  position = total_of y.batches;
  state = state_after i.meaning (requests_of y.batches);
}

abbrev pub digest_of : List ℕ → Digest
digest_of bytes = record { bytes = bytes }

-- What a platform stands for, and what is asked of an offer.

-- the flag of a cell: in Opt, whether a segment is open
abbrev pub flag_of : Variant → History → Bool
flag_of Basic y = false
flag_of Opt y = y.is_open

-- the cell of an instance that stands at a history
abbrev pub cell_of : Instance → History → Cell
cell_of i y = record {
  variant = i.variant;
  «module» = i.meaning.id;
  flag = flag_of i.variant y;
  summary = digest_of (cell_digest_of i i.variant y);
  key = i.key;
  barrier = i.barrier;
}

-- what a read of the register gives, where the platform tells its items
abbrev pub register_reading : Standing → Option (List ℕ)
register_reading standing = option_map (λ items. register_after (item_values items)) standing.items

-- in Opt the register has the history's value
abbrev pub RegisterStands : Variant → Instance → Standing → History → Type 0
RegisterStands Basic i standing y = Unit {0}
RegisterStands Opt i standing y = register_reading standing ≡ Some (register_value_of i y)

-- The platform stands for the history: its cell spells the history's summary or anchor, the flag,
-- and the instance's variant, module, key and barrier; and in Opt its register has the history's
-- value.
pub record StandsFor (i : Instance) (standing : Standing) (y : History) : Type 0 where
  pub spells : IsCell (cell_of i y)
  pub cell : standing.cell ≡ Some (cell_spelling (cell_of i y))
  pub register : RegisterStands i.variant i standing y

-- An offer is right: it is sealed under the instance's key, is of its variant and module, and has a
-- state of the module.
pub record IsRight (i : Instance) (offer : List ℕ) (content : Content) : Type 0 where
  pub formed : IsContent content
  pub sealed : offer ≡ sealed_snapshot_of i.key content
  pub variant : variant_of content.place ≡ i.variant
  pub id : content.id ≡ i.meaning.id
  pub state : IsTrue (i.meaning.is_spelled content.state)

-- a right offer names a position of the history: nobody else sealed it
abbrev pub IsGenuine : Instance → History → List ℕ → Type 0
IsGenuine i y offer = (content : Content) → IsRight i offer content → NamesPosition i y content

-- the bytes that an answer hands out
abbrev pub issued_bytes : Instance → History → List ℕ
issued_bytes i y = sealed_snapshot_of i.key (content_of_issue i y)
