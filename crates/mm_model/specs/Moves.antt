-- When a move is made, and what it does to the digests. With it: a batch that runs member by
-- member; the sizes of an answer; which batches are too long to be asked.
use Rattle.std.specs.List.{AllByRecursion, Contains, list_any}
use Rattle.std.specs.Prelude.{ℕ, Bool, true, false, List, [], ◌∷◌, ◌≡◌, ◌+◌, ◌++◌, drop, IsTrue, All, ◌≤◌, length, ◌==◌, nat_lt, ◌||◌}
use Rattle.mm_model.specs.Below.{zero_bytes, extended_message, extended_digest_of, anchored_digest_of, Variant, Basic, Opt, Batch, size_of}
use Rattle.mm_model.specs.Below.{Meaning, outputs_from, state_from, last_position, IsLine, longest_request, most_members, batch_text}
use Rattle.mm_model.specs.Chains.{link, guard, guard_message, register_of, own_values, Instance}
use Rattle.mm_model.specs.declared.answer.BatchAnswer.{BatchAnswer}
use Rattle.mm_model.specs.History.{RegisterEntry, Value, History, Move, Commit, Foreign, Placed, Reset, Close, Power, items_of_all}
use Rattle.mm_model.specs.History.{total_of, register_value_of, entries_with_last_batch, cell_digest_of}
use Rattle.mm_model.specs.Messages.{values_in, counted_entries}
use Rattle.mm_model.specs.Standing.{is_empty, has_value, batches_in, flag_of}

-- A batch may open a segment: no closed one is spoiled, and the register was emptied before, then
-- took in values that stand for no batch, and last the guard of this one.
pub record IsOpening (i : Instance) (y : History) (b : Batch) : Type 0 where
  pub clean : has_value (items_of_all y.closed) ≡ false
  pub front : List RegisterEntry
  pub items : y.items ≡ front ++ Value (guard i.barrier b) ∷ []
  pub others : batches_in front ≡ []

-- when calls, others and losses of power make a move: by the variant and whether a segment is open
abbrev pub IsAllowed : Variant → Bool → Instance → History → Move → Type 0
IsAllowed variant is_open i y (Foreign d) = Unit {0}
IsAllowed variant is_open i y Power = Unit {0}
IsAllowed Basic is_open i y (Commit b) = Unit {0}
IsAllowed Opt true i y (Commit b) = is_empty y.items ≡ false
IsAllowed Opt false i y (Commit b) = IsOpening i y b
IsAllowed Opt false i y (Placed b) = Unit {0}
IsAllowed Opt false i y Reset = Unit {0}
IsAllowed Opt true i y Close = is_empty y.items ≡ false
IsAllowed _ _ i y _ = ⊥

abbrev pub MayMove : Instance → History → Move → Type 0
MayMove i y m = IsAllowed i.variant y.is_open i y m

-- what stands on a platform, by digests: the cell's summary or anchor and its flag, the register's
-- value, and the number of committed requests
pub record Digests : Type 0 where
  pub digest : List ℕ
  pub flag : Bool
  pub register : List ℕ
  pub count : ℕ

abbrev pub digests_of : Instance → History → Digests
digests_of i y = record {
  digest = cell_digest_of i i.variant y;
  flag = flag_of i.variant y;
  register = register_value_of i y;
  count = total_of y.batches;
}

-- Basic writes the cell; Opt extends the register inside a segment, and sets the cell's flag to
-- open one
abbrev pub digests_after_commit : Variant → Bool → Instance → Digests → Batch → Digests
digests_after_commit Basic flag i d b =
    record d { digest = link d.digest b; count = d.count + size_of b }
digests_after_commit Opt true i d b =
    record d {
      register = extended_digest_of d.register (guard i.barrier b);
      count =
          d.count + size_of b;
    }
digests_after_commit Opt false i d b = record d { flag = true; count = d.count + size_of b }

-- what a move does to the digests: the effect of the device step that makes it
abbrev pub digests_after : Instance → Digests → Move → Digests
digests_after i d (Commit b) = digests_after_commit i.variant d.flag i d b
digests_after i d (Foreign v) = record d { register = extended_digest_of d.register v }
digests_after i d (Placed b) =
    record d { register = extended_digest_of d.register (guard i.barrier b) }
digests_after i d Reset = record d { register = zero_bytes }
digests_after i d Close = record d { digest = anchored_digest_of d.digest d.register; flag = false }
digests_after i d Power = record d { register = zero_bytes }

-- each value that stands for no batch and counts is among those that others put there
abbrev pub IsOutside : List (List ℕ) → History → Type 0
IsOutside others y = AllByRecursion (Contains others) (values_in (counted_entries y))

-- what a move takes in from others is among these values: a foreign value, and what the register
-- took in before a batch that opens a segment
abbrev pub MoveBrings : Variant → Bool → List (List ℕ) → History → Move → Type 0
MoveBrings variant is_open others y (Foreign d) = Contains others d
MoveBrings Opt false others y (Commit b) =
    AllByRecursion (Contains others) (values_in (entries_with_last_batch y.items b))
MoveBrings _ _ others y _ = Unit {0}

-- what the messages of a history gain by a batch, besides those of the move: its guard, and its
-- extension after the batches of its segment
abbrev pub batch_messages : Instance → History → Move → List (List ℕ)
batch_messages i y (Commit b) =
    guard_message i.barrier b ∷ extended_message (register_of (own_values i.barrier y.current))
    (guard i.barrier b) ∷ []
batch_messages i y _ = []

-- A batch that runs member by member.

-- These are the state and the outputs once the first members were run, from a state: what is left
-- leads to the end.
pub record IsPartialRun (meaning : Meaning) (start : List ℕ) (members : List (List ℕ)) (count : ℕ)
    (state : List ℕ)
    (outputs : List (List ℕ)) : Type 0 where
  pub state_is : state_from meaning state (drop count members) ≡ state_from meaning start members
  pub outputs_are : outputs ++ outputs_from meaning state (drop count members) ≡ outputs_from
      meaning start members
  pub spelled : IsTrue (meaning.is_spelled state)

-- The sizes of an answer.

-- The answer to the batch has a position from 1 to 2^48, a line for each request, and a snapshot
-- that is no longer than the longest: 82 bytes before a state of 1,048,576 bytes, and a tag of 32.
pub record IsFit (b : Batch) (answer : BatchAnswer) : Type 0 where
  pub least : 1 ≤ answer.position
  pub most : answer.position ≤ last_position
  pub counted : length answer.outputs ≡ size_of b
  pub lines : All IsLine answer.outputs
  pub snapshot : length answer.snapshot ≤ 1048690

-- Which batches are too long to be asked.

-- its text has more than 4,096 bytes or an LF, which is 10, or it has more than 64 requests
abbrev pub is_long : Batch → Bool
is_long b =
    nat_lt longest_request (length (batch_text b)) || list_any (λ byte. byte == 10) (batch_text b)
    || nat_lt most_members (size_of b)

abbrev pub is_lf : ℕ → Bool
is_lf byte = byte == 10
