-- Whether what a snapshot says names a position of a history, as a test from end to end. With it:
-- the messages of what is asked, by the barrier alone; what is kept of the positions of a history;
-- digests that are remembered; what a history comes to, and how that goes on as the history moves.
use Rattle.std.specs.List.{AllByRecursion}
use Rattle.std.specs.Option.{option_map}
use Rattle.std.specs.Prelude.{ℕ, ◌-◌, ◌==◌, Bool, true, false, ◌&&◌, ◌||◌, not, List, [], ◌∷◌, ◌++◌, length, map, drop, Option, None, Some}
use Rattle.std.specs.Prelude.{if◌then◌else◌, nat_le, nat_lt, ◌≡◌, ◌⊎◌, ◌<◌, take, slice_get, ◌+◌}
use Rattle.std.specs.Str.{bytes_eq}
use Rattle.mm_digest.specs.Messages.{zero_bytes, anchored_digest_of, extended_digest_of}
use Rattle.mm_digest.specs.declared.variant.Variant.{Variant}
use Rattle.mm_digest.specs.declared.variant.Variant.TheVariants.{Basic, Opt}
use Rattle.mm_seal.specs.Snapshot.{Content}
use Rattle.mm_seal.specs.declared.snapshot.Place.{Place}
use Rattle.mm_seal.specs.declared.snapshot.Place.TheVariants.{Basic as InBasic, Opt as InOpt}
use Rattle.mm_module.specs.Batch.{Batch, size_of}
use Rattle.mm_module.specs.Meaning.{Meaning, state_after}
use Rattle.mm_model.specs.Chains.{summary_of, register_of, anchor_of, own_values, Instance, basic_instance, opt_instance, link_message}
use Rattle.mm_model.specs.Chains.{guard_message, guard, link}
use Rattle.mm_model.specs.History.{RegisterEntry, History, requests_of, items_of_all, values_of, total_of, register_value_of}
use Rattle.mm_model.specs.History.{cell_digest_of}
use Rattle.mm_model.specs.Messages.{point_messages}
use Rattle.mm_model.specs.Standing.{is_empty, has_value, is_same_batch, NamesPosition, digest_of, are_own}
use Rattle.mm_history.specs.declared.known_digests.KnownPair.{KnownPair}
use Rattle.mm_history.specs.declared.marks.HistoryMarks.{HistoryMarks}
use Rattle.mm_history.specs.declared.waymarks.SegmentStart.{SegmentStart}
use Rattle.mm_history.specs.declared.waymarks.Waymark.{Waymark}
use Rattle.mm_history.specs.declared.waymarks.Waymarks.{Waymarks}

-- the statement holds, or doesn't
abbrev pub IsDecided : Bool → Type 0 → Type 0
IsDecided true P = P
IsDecided false P = P → ⊥

-- the first batches with so many requests, if there are such
abbrev pub first_with : ℕ → List Batch → Option (List Batch)
first_with position [] = if position == 0 then Some [] else None
first_with position (b ∷ batches) =
    if position == 0 then Some []
    else if nat_le (size_of b) position then option_map (λ front. b ∷ front)
    (first_with (position - size_of b) batches)
    else None

-- the batches are these
abbrev pub same_batches : List Batch → List Batch → Bool
same_batches [] [] = true
same_batches [] (c ∷ cs) = false
same_batches (b ∷ bs) [] = false
same_batches (b ∷ bs) (c ∷ cs) = is_same_batch b c && same_batches bs cs

-- the anchor after these segments, by the module's id and the barrier
abbrev pub anchor_at : ℕ → List ℕ → List (List RegisterEntry) → List ℕ
anchor_at id barrier segments = anchor_of id (map (values_of barrier) segments)

-- a place of Opt: at this anchor, behind so many entries, of which none stands for no batch
abbrev pub is_at : (is_clean : Bool) (here : List ℕ) (start : ℕ) → List Batch
    → (anchor extension : List ℕ) → Bool
is_at is_clean here start named anchor extension =
    is_clean && (length named == start) && (bytes_eq anchor here && bytes_eq extension zero_bytes)

-- behind this anchor, in a segment that starts behind so many entries
abbrev pub is_behind : (barrier here : List ℕ) (start : ℕ) → List Batch
    → (anchor extension : List ℕ) → Bool
is_behind barrier here start named anchor extension =
    nat_lt start (length named)
    && (bytes_eq anchor here
    && bytes_eq extension (register_of (own_values barrier (drop start named))))

-- and within it, unless it is the last and no batch is in an open one
abbrev pub is_within : (start : ℕ) → List Batch → (size : ℕ) (ends : Bool) → Bool
is_within start named size ends = nat_le (length named - start) size || ends

-- at the segment that comes next
abbrev pub is_here : (is_clean : Bool) (barrier here : List ℕ) (start : ℕ) → List Batch
    → (size : ℕ) (ends : Bool)
    → (anchor extension : List ℕ) → Bool
is_here is_clean barrier here start named size ends anchor extension =
    is_at is_clean here start named anchor extension
    || (is_behind barrier here start named anchor extension && is_within start named size ends)

-- in the open segment, whose batches are the last of all: by the anchor after the closed ones
abbrev pub is_inside_at : (barrier last : List ℕ) → History → List Batch
    → (anchor extension : List ℕ) → Bool
is_inside_at barrier last y named anchor extension =
    let start = length y.batches - length y.current in
    same_batches (drop start y.batches) y.current && is_behind barrier last start named anchor
    extension

-- some place, from these segments on
abbrev pub some_place : ℕ → (barrier : List ℕ) → History → List Batch → (anchor extension : List ℕ)
    → (before rest : List (List RegisterEntry))
    → Bool
some_place id barrier y named anchor extension before [] =
    is_at (not (has_value (items_of_all before))) (anchor_at id barrier before)
    (length (items_of_all before))
    named anchor extension
    || is_inside_at barrier (anchor_at id barrier y.closed) y named anchor extension
some_place id barrier y named anchor extension before (segment ∷ rest) =
    is_here (not (has_value (items_of_all before))) barrier (anchor_at id barrier before)
    (length (items_of_all before)) named
    (length segment) (is_empty rest && is_empty y.current) anchor extension
    || some_place id barrier y named anchor extension (before ++ segment ∷ []) rest

abbrev pub is_place_in : Variant → ℕ → (barrier : List ℕ) → History → List Batch → Place → Bool
is_place_in Basic id barrier y named (InBasic s) = bytes_eq s.bytes (summary_of id named)
is_place_in Basic id barrier y named (InOpt a e) = false
is_place_in Opt id barrier y named (InBasic s) = false
is_place_in Opt id barrier y named (InOpt a e) =
    some_place id barrier y named a.bytes e.bytes [] y.closed

abbrev pub is_place : Variant → Instance → History → List Batch → Place → Bool
is_place variant i y named place = is_place_in variant i.meaning.id i.barrier y named place

abbrev pub is_named_at : Instance → History → Content → Option (List Batch) → Bool
is_named_at i y content None = false
is_named_at i y content (Some named) =
    bytes_eq content.state (state_after i.meaning (requests_of named))
    && is_place i.variant i y named content.place

-- the content names a position of the history
abbrev pub is_named : Instance → History → Content → Bool
is_named i y content = is_named_at i y content (first_with content.position y.batches)

-- So it is decided, in either variant.
abbrev pub BasicNamesAreDecided : Type 0
BasicNamesAreDecided = (meaning : Meaning) (key : List ℕ) (y : History) (content : Content) →
    IsDecided (is_named (basic_instance meaning key) y content)
    (NamesPosition (basic_instance meaning key) y content)

abbrev pub OptNamesAreDecided : Type 0
OptNamesAreDecided = (meaning : Meaning) (key barrier : List ℕ) (y : History) (content : Content) →
    IsDecided (is_named (opt_instance meaning key barrier) y content)
    (NamesPosition (opt_instance meaning key barrier) y content)

-- The messages of what is asked, by the barrier alone.

-- those of a call that offers the place and asks for the batch, under this barrier
abbrev pub messages_at_place : List ℕ → Place → Batch → List (List ℕ)
messages_at_place barrier (InBasic s) b = link_message s.bytes b ∷ []
messages_at_place barrier (InOpt a e) b =
    guard_message barrier b ∷ point_messages a.bytes e.bytes (guard barrier b)

-- What is kept of the positions of a history.

-- in Basic the summary of the batches; in Opt the register's value after all but the first `start`
abbrev pub digest_behind : Variant → ℕ → (barrier : List ℕ) (start : ℕ) → List Batch → List ℕ
digest_behind Basic id barrier start front = summary_of id front
digest_behind Opt id barrier start front = register_of (own_values barrier (drop start front))

-- a waymark is of the position behind some first batches
pub record IsWaymark (variant : Variant) (meaning : Meaning) (barrier : List ℕ)
    (batches : List Batch) (mark : Waymark) : Type 0 where
  pub front : List Batch
  pub rest : List Batch
  pub split : batches ≡ front ++ rest
  pub count_is : mark.count ≡ length front
  pub position_is : mark.position ≡ total_of front
  pub digest_is : mark.digest.bytes ≡ digest_behind variant meaning.id barrier mark.start front
  pub state_is : mark.state ≡ take mark.limit (state_after meaning (requests_of front))

-- where the segment behind these begins
abbrev pub stage_at : ℕ → (barrier : List ℕ) → List (List RegisterEntry) → SegmentStart
stage_at id barrier before = record {
  count = length before;
  entries = length (items_of_all before);
  anchor = digest_of (anchor_at id barrier before);
  is_clean = not (has_value (items_of_all before));
}

-- a stage is of the place behind some first segments
pub record IsStage (id : ℕ) (barrier : List ℕ) (closed : List (List RegisterEntry))
    (stage : SegmentStart) : Type 0 where
  pub before : List (List RegisterEntry)
  pub later : List (List RegisterEntry)
  pub split : closed ≡ before ++ later
  pub is : stage ≡ stage_at id barrier before

-- A walk to a place behind so many batches may begin at this stage: it is the first, or another
-- segment is behind it, and fewer entries are before it.
pub record BeginsBefore (id : ℕ) (barrier : List ℕ) (closed : List (List RegisterEntry)) (size : ℕ)
    (stage : SegmentStart) : Type 0 where
  pub is : stage ≡ stage_at id barrier (take stage.count closed)
  pub early : (stage.count ≡ 0) ⊎ ((stage.count < length closed) × (stage.entries < size))

-- the batches of the open segment are the last
pub record EndsWithCurrent (y : History) : Type 0 where
  pub done : List Batch
  pub is : y.batches ≡ done ++ y.current

-- What is kept is of the history; more may be kept of it.
pub record AreWaymarks (variant : Variant) (meaning : Meaning) (barrier : List ℕ) (y : History)
    (ways : Waymarks) : Type 0 where
  pub marks : AllByRecursion (IsWaymark variant meaning barrier y.batches) ways.marks.items
  pub stages : variant ≡ Opt → AllByRecursion (IsStage meaning.id barrier y.closed)
      ways.stages.items
  pub ends : variant ≡ Opt → EndsWithCurrent y

-- the position is between those of two waymarks, which are a batch apart
abbrev pub is_inside_batch : Waymark → Waymark → ℕ → Bool
is_inside_batch before next position =
    nat_lt before.count next.count && (next.count - before.count == 1)
    && nat_lt before.position position
    && nat_lt position next.position

-- the position is behind the last batch
abbrev pub is_behind_all : Waymark → ℕ → ℕ → Bool
is_behind_all last all position = (last.count == all) && nat_lt last.position position

-- waymarks show that none of so many batches ends at the position
pub record IsBetween (marks : List Waymark) (all position : ℕ) : Type 0 where
  pub before : Waymark
  pub at : ℕ
  pub among : slice_get marks at ≡ Some before
  pub shown : (is_behind_all before all position ≡ true) ⊎ ((next : Waymark) × (n : ℕ)
      × (slice_get marks n ≡ Some next)
      × (is_inside_batch before next position ≡ true))

-- Digests that are remembered.

-- what hashing two digests gives: of an anchor and the register's value, or of the register's value
-- and one that extends it
abbrev pub pair_digest : Bool → List ℕ → List ℕ → List ℕ
pair_digest true anchor register = anchored_digest_of anchor register
pair_digest false register value = extended_digest_of register value

-- The pair has the digest that hashing it gives.
abbrev pub IsKnownPair : KnownPair → Type 0
IsKnownPair it = it.digest.bytes ≡ pair_digest it.closes it.first.bytes it.second.bytes

-- What a history comes to, and how that goes on as the history moves.

-- how many requests are committed; the summary or the anchor; the register's value after the
-- batches of the open segment, and after all its items; whether the items are those of the open
-- segment, and whether a closed one holds a value that stands for no batch
abbrev pub marks_of : Instance → History → HistoryMarks
marks_of i y = record {
  total = total_of y.batches;
  cell = digest_of (cell_digest_of i i.variant y);
  own = digest_of (register_of (own_values i.barrier y.current));
  register = digest_of (register_value_of i y);
  is_own = are_own y.items y.current;
  is_marred = has_value (items_of_all y.closed);
}

-- the register takes in a value that stands for no batch
abbrev pub with_value : HistoryMarks → List ℕ → HistoryMarks
with_value m value =
    record m { register = digest_of (extended_digest_of m.register.bytes value); is_own = false }

-- the register is emptied: by whether no batch is in the open segment
abbrev pub emptied_marks : HistoryMarks → Bool → HistoryMarks
emptied_marks m is_clear = record m { register = digest_of zero_bytes; is_own = is_clear }

abbrev pub closed_digest : Variant → HistoryMarks → List ℕ
closed_digest Basic m = m.cell.bytes
closed_digest Opt m = anchored_digest_of m.cell.bytes m.register.bytes

-- the segment is closed: by whether it holds a value that stands for no batch, and whether it is
-- empty
abbrev pub closed_marks : Variant → HistoryMarks → Bool → Bool → HistoryMarks
closed_marks variant m has_value is_bare = record m {
  cell = digest_of (closed_digest variant m);
  own = digest_of zero_bytes;
  is_own = is_bare;
  is_marred = m.is_marred || has_value;
}

-- one more batch, in Basic; in an open segment, with this guard; and in a new one, by what the
-- register reads, and whether it had at most one item
abbrev pub linked_marks : HistoryMarks → Batch → HistoryMarks
linked_marks m b = record m { total = m.total + size_of b; cell = digest_of (link m.cell.bytes b) }

abbrev pub grown_marks : HistoryMarks → ℕ → List ℕ → HistoryMarks
grown_marks m size guard = record m {
  total = m.total + size;
  own = digest_of (extended_digest_of m.own.bytes guard);
  register = digest_of (extended_digest_of m.register.bytes guard);
}

abbrev pub opened_marks : HistoryMarks → ℕ → List ℕ → List ℕ → Bool → HistoryMarks
opened_marks m size guard register is_alone = record m {
  total = m.total + size;
  own = digest_of (extended_digest_of zero_bytes guard);
  register = digest_of register;
  is_own = is_alone;
}
