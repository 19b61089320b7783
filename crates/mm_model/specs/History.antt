-- The history of one instance as lists, with no digest in it, and the moves that change it. With
-- it: what a commit does as a whole; the device steps of a call, each with the move that it makes.
use Rattle.std.specs.List.{flat_map}
use Rattle.std.specs.Prelude.{ℕ, Bool, true, false, List, [], ◌∷◌, map, ◌++◌, length}
use Rattle.mm_model.specs.Below.{Variant, Basic, Opt, Batch, members_of}
use Rattle.mm_model.specs.Chains.{guard, register_of, Instance, summary_of, anchor_of}

-- what a register took in: the value of a committed batch, or a value that stands for none
pub data RegisterEntry : Type 0 where
  Own : Batch → RegisterEntry
  Value : List ℕ → RegisterEntry

-- the committed batches; the closed segments; the batches of the open segment; whether one is open;
-- and what the register took in since it was zero
pub record History : Type 0 where
  pub batches : List Batch
  pub closed : List (List RegisterEntry)
  pub current : List Batch
  pub is_open : Bool
  pub items : List RegisterEntry

abbrev pub first_history : History
first_history = record { batches = []; closed = []; current = []; is_open = false; items = [] }

-- the lists, one after another
abbrev pub items_of_all : {A : Type 0} → List (List A) → List A
items_of_all [] = []
items_of_all (xs ∷ xss) = xs ++ items_of_all xss

-- the committed requests, one by one
abbrev pub requests_of : List Batch → List (List ℕ)
requests_of batches = flat_map members_of batches

-- how many requests these batches hold
abbrev pub total_of : List Batch → ℕ
total_of batches = length (requests_of batches)

-- the value with which an entry extended the register
abbrev pub extension_value : List ℕ → RegisterEntry → List ℕ
extension_value barrier (Own b) = guard barrier b
extension_value barrier (Value d) = d

-- what changes a history: a batch is committed; others extend the register; the core extends it by
-- the guard of a batch that isn't committed yet; the core empties it; the open segment is closed;
-- power is lost
pub data Move : Type 0 where
  Commit : Batch → Move
  Foreign : List ℕ → Move
  Placed : Batch → Move
  Reset : Move
  Close : Move
  Power : Move

-- the list, with b in place of its last item
abbrev pub entries_with_last_batch : List RegisterEntry → Batch → List RegisterEntry
entries_with_last_batch [] b = Own b ∷ []
entries_with_last_batch (x ∷ []) b = Own b ∷ []
entries_with_last_batch (x ∷ y ∷ xs) b = x ∷ entries_with_last_batch (y ∷ xs) b

-- in Opt a batch enters the register's items too. Where no segment is open it opens one, and the
-- entry that was placed for it, the last, becomes its own
abbrev pub history_after_commit : Variant → Bool → History → Batch → History
history_after_commit Basic is_open y b = record y { batches = y.batches ++ b ∷ [] }
history_after_commit Opt true y b =
    record y {
      batches = y.batches ++ b ∷ [];
      current = y.current ++ b ∷ [];
      items = y.items ++ Own b ∷ [];
    }
history_after_commit Opt false y b =
    record y {
      batches = y.batches ++ b ∷ [];
      current = b ∷ [];
      is_open = true;
      items = entries_with_last_batch y.items b;
    }

abbrev pub history_after : Instance → History → Move → History
history_after i y (Commit b) = history_after_commit i.variant y.is_open y b
history_after i y (Foreign d) = record y { items = y.items ++ Value d ∷ [] }
history_after i y (Placed b) = record y { items = y.items ++ Value (guard i.barrier b) ∷ [] }
history_after i y Reset = record y { items = [] }
history_after i y Close = record y {
  closed = y.closed ++ y.items ∷ [];
  current = [];
  is_open =
      false;
}
history_after i y Power = record y { items = [] }

-- the register's value for a history
abbrev pub register_value_of : Instance → History → List ℕ
register_value_of i y = register_of (map (extension_value i.barrier) y.items)

abbrev pub values_of : List ℕ → List RegisterEntry → List (List ℕ)
values_of barrier = map (extension_value barrier)

-- the digest that a cell holds for a history: its summary or its anchor
abbrev pub cell_digest_of : Instance → Variant → History → List ℕ
cell_digest_of i Basic y = summary_of i.meaning.id y.batches
cell_digest_of i Opt y = anchor_of i.meaning.id (map (values_of i.barrier) y.closed)

-- What a commit does as a whole.

-- the moves of a commit: where it opens a segment, its guard goes into the register first
abbrev pub commit_moves : Variant → Bool → Batch → List Move
commit_moves Opt false b = Placed b ∷ Commit b ∷ []
commit_moves _ _ b = Commit b ∷ []

-- the history after these moves
abbrev pub history_after_moves : Instance → History → List Move → History
history_after_moves i y [] = y
history_after_moves i y (m ∷ moves) = history_after_moves i (history_after i y m) moves

-- the batches that are open once a batch is committed: those before, where a segment was open
abbrev pub open_batches_after : Bool → List Batch → Batch → List Batch
open_batches_after true current b = current ++ b ∷ []
open_batches_after false current b = b ∷ []

-- a batch is committed, as a whole
abbrev pub with_batch : Variant → History → Batch → History
with_batch Basic y b = record y { batches = y.batches ++ b ∷ [] }
with_batch Opt y b = record y {
  batches = y.batches ++ b ∷ [];
  current = open_batches_after y.is_open y.current b;
  is_open = true;
  items = y.items ++ Own b ∷ [];
}

-- The device steps of a call, each with the move that it makes.

-- a step reads; or changes the register, after what others put there before it; or writes the cell,
-- and then its move stands before what others put into the register in the meantime
pub data DeviceStep : Type 0 where
  Reads : DeviceStep
  Changes : Move → DeviceStep
  Writes : Move → DeviceStep

-- the steps of a call that asks for the batch, where it isn't refused before its last reading step:
-- by whether a segment is open and the verdict was Fresh
abbrev pub ask_steps : Variant → Bool → Bool → Batch → List DeviceStep
ask_steps Basic is_open false b = Reads ∷ []
ask_steps Basic is_open true b = Reads ∷ Writes (Commit b) ∷ []
ask_steps Opt is_open false b = Reads ∷ Reads ∷ []
ask_steps Opt true true b = Reads ∷ Reads ∷ Changes (Commit b) ∷ []
ask_steps Opt false true b =
    Reads ∷ Reads ∷ Changes Reset ∷ Changes (Placed b) ∷ Writes (Commit b) ∷ []

-- the steps of a checkpoint: by whether a segment is open and the register reads zero
abbrev pub checkpoint_steps : Variant → Bool → Bool → List DeviceStep
checkpoint_steps Basic is_open is_zero = Reads ∷ []
checkpoint_steps Opt false is_zero = Reads ∷ []
checkpoint_steps Opt true true = Reads ∷ Reads ∷ []
checkpoint_steps Opt true false = Reads ∷ Reads ∷ Writes Close ∷ []
