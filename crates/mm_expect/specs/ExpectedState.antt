-- A schedule followed by lists, as contracts see it. With it: whether an offer is genuine, by
-- whether what it says names a position; the messages of an event, in the order of their numbers;
-- what is heard of an event; what an offer comes to before a batch is judged on it; whether an
-- offer is genuine, as it is decided beside the fold by lists.
use Rattle.std.specs.List.{AllByRecursion}
use Rattle.std.specs.Prelude.{◌≡◌, ℕ, List, [], ◌∷◌, ◌++◌, ◌≤◌, Bool, Some, None, slice_get, true, false, Result, Ok, Err, if◌then◌else◌}
use Rattle.std.specs.Result.{result_map_both}
use Rattle.std.specs.Str.{bytes_eq}
use Rattle.mm_model.specs.declared.refusal.Refusal.TheVariants as refusal
use Rattle.mm_expect.specs.Below.{History, first_history, list_level, Event, Header, Outcome, event_outcome, outcome_by_lists}
use Rattle.mm_expect.specs.Below.{first_snapshots, world_of, last_position, Content, Meaning, IsLawful, total_of, Instance, basic_instance}
use Rattle.mm_expect.specs.Below.{opt_instance, NamesPosition, IsGenuine, right_content, IsDecided, IsIssued, Move, Close, history_after}
use Rattle.mm_expect.specs.Below.{move_messages, moves_of, event_messages, content_of, parts_of, Snapshot, tag_of, PartsFault, Form, Kind}
use Rattle.mm_expect.specs.Below.{Body, Refusal, Offer, offered_bytes, IsGenuineEvent, IsGenuineOffer}
use Rattle.mm_expect.specs.declared.expecting.ExpectedOutcome.{ExpectedOutcome}

-- the header; the history; and the issued snapshots by their numbers
pub record ExpectedState : Type 0 where
  pub header : Header
  pub history : History
  pub issued : List (List ℕ)

-- what an event comes to
abbrev pub expected_outcome : ExpectedState → Event → Outcome History
expected_outcome it event =
    event_outcome (world_of it.header) (list_level (world_of it.header)) it.history it.issued event

-- It stands at the start.
abbrev pub first_expected_state : Header → ExpectedState
first_expected_state header =
    record { header = header; history = first_history; issued = first_snapshots (world_of header) }

-- It went on by an event.
abbrev pub expected_state_after : ExpectedState → Event → ExpectedState
expected_state_after it event = record {
  header = it.header;
  history = (expected_outcome it event).state;
  issued = (expected_outcome it event).issued;
}

-- It stands where the expected run of these events stands.
pub record IsAfter (header : Header) (events : List Event) (it : ExpectedState) : Type 0 where
  pub header_is : it.header ≡ header
  pub history_is : it.history ≡ (outcome_by_lists (world_of header) events).state
  pub issued_is : it.issued ≡ (outcome_by_lists (world_of header) events).issued

-- Where it stood behind some events it stands behind one more.
abbrev pub StandsLater : ExpectedState → Event → ExpectedState → Type 0
StandsLater old event new =
    (header : Header) (events : List Event) → IsAfter header events old
    → IsAfter header (events ++ event ∷ []) new

-- Whether an offer is genuine, by whether what it says names a position.

-- An offer that isn't right is genuine; a right one exactly where what it says names a position.
pub record OffersAreDecided (i : Instance) : Type 0 where
  pub not_right : (y : History) (bytes : List ℕ) → right_content i bytes ≡ None
      → IsGenuine i y bytes
  pub right : (y : History) (bytes : List ℕ) (content : Content) (yes : Bool)
      → right_content i bytes ≡ Some content →
      IsDecided yes (NamesPosition i y content) → IsDecided yes (IsGenuine i y bytes)

-- An issued snapshot is genuine, where each issued one names a position.
abbrev pub IssuedAreGenuine : Instance → Type 0
IssuedAreGenuine i = (y : History) (issued : List (List ℕ)) (number : ℕ) (bytes : List ℕ) →
    IsLawful i.meaning → total_of y.batches ≤ last_position → AllByRecursion (IsIssued i y) issued →
    slice_get issued number ≡ Some bytes → IsGenuine i y bytes

abbrev pub EachOfferIsDecided : Type 0
EachOfferIsDecided = (i : Instance) → OffersAreDecided i

abbrev pub BasicIssuedAreGenuine : Type 0
BasicIssuedAreGenuine = (meaning : Meaning) (key : List ℕ)
    → IssuedAreGenuine (basic_instance meaning key)

abbrev pub OptIssuedAreGenuine : Type 0
OptIssuedAreGenuine =
    (meaning : Meaning) (key barrier : List ℕ) → IssuedAreGenuine (opt_instance meaning key barrier)

-- The messages of an event, in the order of their numbers.

-- the messages of a move, by whether those of moves that close a segment are asked for, or those of
-- all others
abbrev pub messages_if : Bool → Instance → History → Move → List (List ℕ)
messages_if true i y Close = move_messages i y Close
messages_if true i y m = []
messages_if false i y Close = []
messages_if false i y m = move_messages i y m

-- The messages of moves in two parts: of those that close a segment, and of all others, which
-- extend the register; each in order of time.
abbrev pub messages_where : Bool → Instance → History → List Move → List (List ℕ)
messages_where closing i y [] = []
messages_where closing i y (m ∷ moves) =
    messages_if closing i y m ++ messages_where closing i (history_after i y m) moves

-- The messages of an event in the order of their numbers: what is asked of a right offer; what
-- extends the register; and last what closes a segment, though its step writes the cell before
-- others bring their values there.
abbrev pub numbered_event_messages : Instance → History → List (List ℕ) → Event → List (List ℕ)
numbered_event_messages i y issued event =
    event_messages i issued event
    ++ (messages_where false i y (moves_of i y issued event)
    ++ messages_where true i y (moves_of i y issued event))

-- What is heard of an event.

-- What is heard of an event, from a history and the issued snapshots: the reply that is expected,
-- and the messages in the order of their numbers.
pub record HearsEvent (i : Instance) (history : History) (issued : List (List ℕ)) (event : Event)
    (heard : ExpectedOutcome) : Type 0 where
  pub reply : heard.reply ≡ (event_outcome i (list_level i) history issued event).reply
  pub messages : heard.messages.items ≡ numbered_event_messages i history issued event

-- What an offer comes to before a batch is judged on it.

-- what an offer says whose parts are these, or why it isn't right
abbrev pub offer_of_parts : Instance → Result Snapshot PartsFault → Result Content Refusal
offer_of_parts i (Ok snapshot) =
    let content = snapshot.content in
    if i.meaning.is_spelled content.state
    then (if bytes_eq snapshot.tag (tag_of i.key content) then Ok content else Err refusal.Tag)
    else Err refusal.State
offer_of_parts i (Err Form) = Err refusal.Form
offer_of_parts i (Err Kind) = Err refusal.Kind

-- what offered bytes say, or why they aren't right
abbrev pub right_offer : Instance → List ℕ → Result Content Refusal
right_offer i bytes = offer_of_parts i (parts_of i.variant i.meaning.id bytes)

-- the same, as the code has it
abbrev pub told_offer : Result Body Refusal → Result Content Refusal
told_offer offer = result_map_both content_of (λ why. why) offer

-- Whether an offer is genuine, as it is decided beside the fold by lists.

-- what holds of each history that a schedule leads to: few requests are committed, and each issued
-- snapshot names a position
pub record AreIssued (i : Instance) (y : History) (issued : List (List ℕ)) : Type 0 where
  pub few : total_of y.batches ≤ last_position
  pub names : AllByRecursion (IsIssued i y) issued

-- It is decided whether what is offered is genuine.
abbrev pub DecidesOffer : Instance → History → List (List ℕ) → Offer → Bool → Type 0
DecidesOffer i y issued offer is_genuine =
    AreIssued i y issued → IsDecided is_genuine (IsGenuineOffer i y (offered_bytes issued offer))

abbrev pub DecidesEvent : Instance → History → List (List ℕ) → Event → Bool → Type 0
DecidesEvent i y issued event is_genuine =
    AreIssued i y issued → IsDecided is_genuine (IsGenuineEvent i y issued event)

-- It is decided whether the event is genuine, from where the expected run of some events stands.
abbrev pub DecidesLater : ExpectedState → Event → Bool → Type 0
DecidesLater it event is_genuine =
    (header : Header) (events : List Event) → IsAfter header events it
    → IsDecided is_genuine (IsGenuineEvent (world_of header) it.history it.issued event)
