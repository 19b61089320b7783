-- The messages that are hashed, as far as a proof looks at them, and what is asked of their
-- digests. With it: where an offer stands, told by the verdict alone; the numbers of the refusals.
use Rattle.std.specs.List.{flat_map, AllByRecursion, Contains}
use Rattle.std.specs.Prelude.{ℕ, ◌-◌, Bool, true, List, [], ◌∷◌, map, take, drop, if◌then◌else◌, ◌≡◌, ◌≢◌, ◌++◌, length, false}
use Rattle.std.specs.Str.{bytes_eq}
use Rattle.mm_model.specs.Below.{sha256, zero_bytes, start_message, start_digest_of, extended_message, extended_digest_of, anchored_message}
use Rattle.mm_model.specs.Below.{anchored_digest_of, Variant, Basic, Opt, Place, InBasic, InOpt, Batch}
use Rattle.mm_model.specs.Chains.{trail, link_message, guard_message, closing_message, guard, own_values, Instance}
use Rattle.mm_model.specs.declared.refusal.Refusal.{Refusal}
use Rattle.mm_model.specs.declared.refusal.Refusal.TheVariants.{Memory, Long, Device, Blank, Cell, Lost, Form, Kind, State, Tag, Stale}
use Rattle.mm_model.specs.declared.refusal.Refusal.TheVariants.{Full}
use Rattle.mm_model.specs.declared.verdict.Verdict.{Verdict}
use Rattle.mm_model.specs.declared.verdict.Verdict.TheVariants.{Fresh}
use Rattle.mm_model.specs.History.{RegisterEntry, Own, Value, History, Move, Commit, Foreign, Placed, Close, register_value_of}
use Rattle.mm_model.specs.History.{items_of_all, values_of}
use Rattle.mm_model.specs.Standing.{anchor_after}

-- the batches of each closed segment: a segment runs to the next start, the last one to the end of
-- these
abbrev pub closed_runs : List (List RegisterEntry) → List Batch → List (List Batch)
closed_runs [] batches = []
closed_runs (segment ∷ []) batches = batches ∷ []
closed_runs (segment ∷ next ∷ later) batches =
    take (length segment) batches ∷ closed_runs (next ∷ later) (drop (length segment) batches)

-- the batches of each segment, of the open one too
abbrev pub runs_of : History → List (List Batch)
runs_of y =
    closed_runs y.closed (take (length y.batches - length y.current) y.batches) ++ y.current ∷ []

-- the messages by which these values went into a register that was zero
abbrev pub register_trail : List (List ℕ) → List (List ℕ)
register_trail values = trail extended_message zero_bytes values

-- The messages of a history. In Basic the start message and the batches' link messages. In Opt the
-- start message; the guard message of each batch; the extended messages of each segment's batches,
-- of the entries of each closed segment and of the register's items; and the anchored message of
-- each closing.
abbrev pub messages_of : Variant → Instance → History → List (List ℕ)
messages_of Basic i y =
    start_message Basic i.meaning.id ∷ trail link_message
    (start_digest_of Basic i.meaning.id) y.batches
messages_of Opt i y =
    start_message Opt i.meaning.id ∷
    (map (guard_message i.barrier) y.batches
    ++ flat_map (λ run. register_trail (own_values i.barrier run)) (runs_of y)
    ++ flat_map (λ segment. register_trail (values_of i.barrier segment)) y.closed
    ++ register_trail (values_of i.barrier y.items)
    ++ trail closing_message (start_digest_of Opt i.meaning.id)
    (map (values_of i.barrier) y.closed))

abbrev pub history_messages : Instance → History → List (List ℕ)
history_messages i y = messages_of i.variant i y

-- the messages of one form of an offered place, at which the guard v may come next
abbrev pub form_messages : List ℕ → List ℕ → List ℕ → List (List ℕ)
form_messages anchor extension v =
    extended_message extension v ∷ anchored_message anchor (extended_digest_of extension v) ∷ []

-- the messages of both forms of an offered place of Opt
abbrev pub point_messages : List ℕ → List ℕ → List ℕ → List (List ℕ)
point_messages a e v =
    form_messages a e v
    ++ (if bytes_eq e zero_bytes then [] else anchored_message a e
    ∷ form_messages (anchored_digest_of a e) zero_bytes v)

-- the messages of a call that offers the place and asks for the batch
abbrev pub offer_messages : Instance → Place → Batch → List (List ℕ)
offer_messages i (InBasic s) b = link_message s.bytes b ∷ []
offer_messages i (InOpt a e) b =
    guard_message i.barrier b ∷ point_messages a.bytes e.bytes (guard i.barrier b)

-- the messages of one move, made from a history, by whether a segment is open there: what the
-- register takes in, and what closes a segment
abbrev pub messages_for_move : Variant → Bool → Instance → History → Move → List (List ℕ)
messages_for_move Basic is_open i y m = []
messages_for_move Opt is_open i y (Foreign d) = extended_message (register_value_of i y) d ∷ []
messages_for_move Opt is_open i y (Placed b) =
    extended_message (register_value_of i y) (guard i.barrier b) ∷ []
messages_for_move Opt true i y (Commit b) =
    extended_message (register_value_of i y) (guard i.barrier b) ∷ []
messages_for_move Opt is_open i y Close =
    anchored_message (anchor_after i y.closed) (register_value_of i y) ∷ []
messages_for_move Opt _ i y _ = []

-- each of the messages is in the list
abbrev pub AreMessagesIn : List (List ℕ) → List (List ℕ) → Type 0
AreMessagesIn messages all = AllByRecursion (Contains all) messages

-- two messages of the list that have one digest are the same bytes, and no digest is zero
pub record IsClear (all : List (List ℕ)) : Type 0 where
  pub apart : (m n : List ℕ) → Contains all m → Contains all n → sha256 m ≡ sha256 n → m ≡ n
  pub nonzero : (m : List ℕ) → Contains all m → sha256 m ≢ zero_bytes

-- the values of these entries that stand for no batch
abbrev pub values_in : List RegisterEntry → List (List ℕ)
values_in [] = []
values_in (Own b ∷ entries) = values_in entries
values_in (Value d ∷ entries) = d ∷ values_in entries

-- the entries of a history that count: those of closed segments, and the register's items while a
-- segment is open
abbrev pub counted_entries : History → List RegisterEntry
counted_entries y = items_of_all y.closed ++ (if y.is_open then y.items else [])

-- none of the values is the guard of one of the batches
abbrev pub AreNoGuards : List ℕ → List (List ℕ) → List Batch → Type 0
AreNoGuards barrier values batches =
    (d : List ℕ) (b : Batch) → Contains values d → Contains batches b → d ≢ guard barrier b

-- What is asked of the digests for a history and a call from it that offers the place and asks for
-- the batch: the list `all` holds their messages and is clear, and no value that counts is the
-- guard of one of their batches.
pub record IsClearFor (all : List (List ℕ)) (i : Instance) (y : History) (offered : Place)
    (b : Batch) : Type 0 where
  pub clear : IsClear all
  pub history : AreMessagesIn (history_messages i y) all
  pub call : AreMessagesIn (offer_messages i offered b) all
  pub foreign : AreNoGuards i.barrier (values_in (counted_entries y)) (b ∷ y.batches)

abbrev pub move_messages : Instance → History → Move → List (List ℕ)
move_messages i y m = messages_for_move i.variant y.is_open i y m

-- Where an offer stands, told by the verdict alone.

-- the offer stands where the module stands: a batch would be a new one
abbrev pub is_new : Verdict → Bool
is_new Fresh = true
is_new _ = false

-- the messages of an offered place without a batch: of its second form, the closing of its segment
abbrev pub place_messages : Place → List (List ℕ)
place_messages (InBasic s) = []
place_messages (InOpt a e) =
    if bytes_eq e.bytes zero_bytes then [] else anchored_message a.bytes e.bytes ∷ []

-- The numbers of the refusals.

abbrev pub code_of : Refusal → ℕ
code_of Memory = 1
code_of Long = 2
code_of (Device fault) = 3
code_of Blank = 4
code_of Cell = 5
code_of Lost = 6
code_of Form = 7
code_of Kind = 8
code_of State = 9
code_of Tag = 10
code_of Stale = 11
code_of Full = 12
