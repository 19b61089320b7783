-- One run of the module, of all events and of each first part of them. With it: the laws of one
-- event; a world as contracts see it.
use Rattle.std.specs.List.{AllByRecursion, Contains, range_with_len}
use Rattle.std.specs.Prelude.{◌≡◌, ℕ, List, [], ◌++◌, length, ◌∷◌, ◌⊎◌, ◌-◌, ◌^◌, min}
use Rattle.mm_outcome.specs.Below.{Instance, Digests, digest_level, Event, IsEventRun, Reply, Variant, Basic, Opt, Content, Batch, History}
use Rattle.mm_outcome.specs.Below.{requests_of, AreMessagesIn, IsClear, NamesPosition, IsSound, messages_of_moves, IsWithin, list_level}
use Rattle.mm_outcome.specs.Below.{DigestsAgree, IsRunStep, Meddle, Stop, meaning_of, state_seen, reading_steps, instance_by}
use Rattle.mm_outcome.specs.Below.{count_after_more, Ask, Power, Header}
use Rattle.mm_outcome.specs.Laws.{outcome_joined_to, IsIssued}
use Rattle.mm_outcome.specs.Premises.{RunOutcome, outcome_of_events, outcome_by_lists, outcome_by_digests, IsClearRun, IsGenuineRun}
use Rattle.mm_outcome.specs.Premises.{Outcome, event_outcome, moves_of, event_messages, event_foreign_values, batches_of, AreApartIn}
use Rattle.mm_outcome.specs.Premises.{IsGenuineEvent, course_of, first_snapshots, first_digests}

-- The replies to the events are those of one run of the module on one list of requests, as the
-- verdict on histories gives them; so many requests were committed, and the snapshots issued are
-- those that the verdict issues.
pub record IsOneRun (i : Instance) (events : List Event) (replies : List Reply) (committed : ℕ)
    (issued : List (List ℕ)) : Type 0 where
  pub requests : List (List ℕ)
  pub runs : IsEventRun i.meaning [] events replies requests
  pub judged : replies ≡ (outcome_by_lists i events).replies
  pub count : committed ≡ length requests
  pub shown : issued ≡ (outcome_by_lists i events).issued

-- The whole run is that of each first part of the events, and then of the rest. And of each first
-- part that meets the premises it is one run: a premise that breaks later costs nothing of it.
abbrev pub FrontsAreOneRun : Instance → List Event → Type 0
FrontsAreOneRun i events = (front rest : List Event) → events ≡ front ++ rest →
    let it : RunOutcome Digests = outcome_by_digests i front in
    (outcome_by_digests i events ≡ outcome_joined_to it
    (outcome_of_events i (digest_level i) it.state it.issued rest))
    × (IsClearRun i front → IsGenuineRun i front
    → IsOneRun i front it.replies it.state.count it.issued)

-- The laws of one event.

-- the digests are those of the history, which is within the list
pub record KeepsHistory (all others : List (List ℕ)) (asked_for : List Batch)
    (i : Instance) (y : History)
    (d : Digests) : Type 0 where
  pub agrees : DigestsAgree i y d
  pub within : IsWithin all others asked_for i y

-- Two outcomes are the same, but for what stands after them: those digests are the history's, which
-- is within the list.
pub record IsSameOutcome (all others : List (List ℕ)) (asked_for : List Batch) (i : Instance)
    (lists : Outcome History)
    (digests : Outcome Digests) : Type 0 where
  pub reply : digests.reply ≡ lists.reply
  pub issued : digests.issued ≡ lists.issued
  pub steps : digests.steps ≡ lists.steps
  pub writes : digests.writes ≡ lists.writes
  pub keeps : KeepsHistory all others asked_for i lists.state digests.state

-- What is asked of an event: its values of others, its batch and its messages are in the lists, and
-- a right offer names a position of the history.
pub record IsEventWithin (all others : List (List ℕ)) (asked_for : List Batch) (i : Instance)
    (y : History)
    (issued : List (List ℕ)) (event : Event) : Type 0 where
  pub outside : AllByRecursion (Contains others) (event_foreign_values event)
  pub batches : AllByRecursion (Contains asked_for) (batches_of event)
  pub listed : AreMessagesIn (event_messages i issued event) all
  pub genuine : IsGenuineEvent i y issued event
  pub messages : AreMessagesIn (messages_of_moves i y (moves_of i y issued event)) all

-- An event comes by digests to what it comes to by lists.
abbrev pub EventsAgree : Instance → Type 0
EventsAgree i =
    (all others : List (List ℕ)) (asked_for : List Batch) → IsClear all
    → AreApartIn i.variant i others asked_for
    → (y : History) (d : Digests) (issued : List (List ℕ)) (event : Event)
    → KeepsHistory all others asked_for i y d
    → IsEventWithin all others asked_for i y issued event
    → IsSameOutcome all others asked_for i (event_outcome i (list_level i) y issued event)
    (event_outcome i (digest_level i) d issued event)

-- Without a premise, an event is one step of the machine, on the requests of the history.
abbrev pub EventsStep : Type 0
EventsStep = (i : Instance) (y : History) (issued : List (List ℕ)) (event : Event) →
    let o : Outcome History = event_outcome i (list_level i) y issued event in
    IsRunStep i.meaning (requests_of y.batches) event o.reply (requests_of o.state.batches)

-- in Opt the history is sound
abbrev pub IsSoundIn : Variant → History → Type 0
IsSoundIn Basic y = Unit {0}
IsSoundIn Opt y = IsSound y

-- From one history to another: it stays sound, what names a position names one afterwards, and so
-- do the snapshots that were issued.
pub record KeepsNames (i : Instance) (y z : History) (before after : List (List ℕ)) : Type 0 where
  pub sound : IsSoundIn i.variant z
  pub names : (content : Content) → NamesPosition i y content → NamesPosition i z content
  pub issued : AllByRecursion (IsIssued i y) before → AllByRecursion (IsIssued i z) after

-- An event keeps names, without a premise on digests.
abbrev pub EventsKeepNames : Instance → Type 0
EventsKeepNames i = (y : History) (issued : List (List ℕ)) (event : Event) → IsSoundIn i.variant y →
    let o : Outcome History = event_outcome i (list_level i) y issued event in
    KeepsNames i y o.state issued o.issued

-- An event hands out no snapshot, or one.
abbrev pub IssuesAtMostOne : List (List ℕ) → List (List ℕ) → Type 0
IssuesAtMostOne old new = (new ≡ old) ⊎ ((snapshot : List ℕ) × (new ≡ old ++ snapshot ∷ []))

-- A world as contracts see it: a platform with a module on it that follows a schedule, by digests.

-- 32 bytes in rising order, from this one on
unfoldable pub rising_bytes_from : ℕ → List ℕ
rising_bytes_from first = range_with_len first 32

-- the key of each world, and its barrier
abbrev pub world_key : List ℕ
world_key = rising_bytes_from 0x00

abbrev pub world_barrier : List ℕ
world_barrier = rising_bytes_from 0x20

-- the instance that a world with this header is
abbrev pub world_of : Header → Instance
world_of header =
    instance_by header.variant (meaning_of header.«module») world_key world_barrier

-- the header; where the world stands by digests; the issued snapshots by their numbers; and how
-- many steps were called, and how many of them were to write the cell
pub record WorldState : Type 0 where
  pub header : Header
  pub digests : Digests
  pub issued : List (List ℕ)
  pub steps : ℕ
  pub writes : ℕ

abbrev pub instance_of : WorldState → Instance
instance_of world = world_of world.header

-- a new world
abbrev pub first_world_state : Header → WorldState
first_world_state header = record {
  header = header;
  digests = first_digests (world_of header);
  issued = first_snapshots (world_of header);
  steps = 0;
  writes = 0;
}

-- what an event comes to in a world
abbrev pub outcome_in : WorldState → Event → Outcome Digests
outcome_in world event =
    event_outcome (instance_of world) (digest_level (instance_of world)) world.digests world.issued
    event

-- a count of 64 bits stays at the greatest once it is there
abbrev pub digests_within_bits : Digests → Digests
digests_within_bits d = record d { count = min d.count (2 ^ 64 - 1) }

-- The world went on by this outcome of an event.
pub record WorldFollows (o : Outcome Digests) (old new : WorldState) (said : Reply) : Type 0 where
  pub reply : said ≡ o.reply
  pub header : new.header ≡ old.header
  pub digests : new.digests ≡ digests_within_bits o.state
  pub issued : new.issued ≡ o.issued
  pub steps : new.steps ≡ count_after_more o.steps old.steps
  pub writes : new.writes ≡ count_after_more o.writes old.writes

-- a world whose call has made its reading steps, and nothing else
abbrev pub world_after_reading : Stop → List Meddle → WorldState → WorldState
world_after_reading stop meddles world = record world {
  digests =
      state_seen (instance_of world) (digest_level (instance_of world)) world.digests
      (course_of stop meddles);
  steps = count_after_more (length (reading_steps (instance_of world).variant)) world.steps;
}

-- Memory was wanting for this event: nothing has changed, but that a call may have made its reading
-- steps.
abbrev pub WorldLacksMemory : Event → WorldState → WorldState → Type 0
WorldLacksMemory (Ask meddles stop offer b) old new =
    (new ≡ old) ⊎ (new ≡ world_after_reading stop meddles old)
WorldLacksMemory Power old new = ⊥
WorldLacksMemory event old new = new ≡ old
