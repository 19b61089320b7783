-- What a session comes to whatever the slots hold: old ones that were put back, swapped or altered
-- ones, ones that can't be read, records of requests that nobody made. What was told is one run of
-- the module from the history that the platform stands for; a refusal is by the verdict. With it:
-- the calls that a session makes, whatever the slots hold; what a session comes to over an honest
-- store, in either variant.
use Rattle.std.specs.List.{Contains}
use Rattle.std.specs.Prelude.{◌≡◌, ℕ, Bool, false, List, [], ◌∷◌, ◌++◌, Option, None, Some, Result, Err, IsSome, nat_eq, if◌then◌else◌, ◌⊎◌}
use Rattle.std.specs.Prelude.{◌≤◌, length, Ok, true}
use Rattle.mm_model.specs.Moves.{Digests}
use Rattle.mm_model.specs.declared.refusal.Refusal.TheVariants as refusal
use Rattle.mm_call.specs.CallFinding.{digest_level}
use Rattle.mm_call.specs.Standing.{StandsAt}
use Rattle.mm_recovery.specs.HostStanding.{IsCall}
use Rattle.mm_host.specs.Below.{lines_of, Variant, Basic, Opt, Content, Item, Standing, Batch, One, Meaning, History, Commit, history_after}
use Rattle.mm_host.specs.Below.{requests_of, total_of, Instance, basic_instance, opt_instance, AreMessagesIn, IsClear, AreNoGuards}
use Rattle.mm_host.specs.Below.{StandsFor, IsGenuine, issued_bytes, Refusal, IsWithin, right_messages, finding_at, right_content}
use Rattle.mm_host.specs.Below.{list_level, AreShown, IsIdle, fault_of, standing_items, StoreStanding, PendingRecord, Slots, slot_front}
use Rattle.mm_host.specs.Below.{first_offer, IsWaiting, Refused, longest_request, FitsHistory}
use Rattle.mm_host.specs.Continuation.{IsInHand, CallsRunOver, RunsTo, last_bytes_in, served_calls_in, ContinuesTo}
use Rattle.mm_host.specs.declared.fault.SessionFault.{SessionFault}
use Rattle.mm_host.specs.declared.fault.SessionFault.TheVariants.{Host}
use Rattle.mm_host.specs.Sessions.{SessionStanding, ServedCall, served_lines, IsSession, most_lines}

-- the bytes that are offered next: the last answer's snapshot, and before any answer the first ones
abbrev pub offer_after : List ℕ → List ServedCall → List ℕ
offer_after first [] = first
offer_after first (c ∷ calls) = offer_after c.answer.snapshot calls

-- whether a right offer says the last position
abbrev pub says_last : History → Option Content → Bool
says_last y None = false
says_last y (Some content) = nat_eq content.position (total_of y.batches)

-- The history once a request is answered, but for others' values: it is committed where the offer
-- says the last position, and else it is a repeat.
abbrev pub history_after_answer : Instance → History → List ℕ → List ℕ → History
history_after_answer i y offer request =
    if says_last y (right_content i offer) then history_after i y (Commit (One request)) else y

-- What is asked of requests that are asked one after another, of which each but the first offers
-- the snapshot of the answer before: each is among those asked, and the messages of its offer are
-- in the list.
abbrev pub AreAskedInTurn : List (List ℕ) → List Batch → Instance → History → List ℕ
    → List (List ℕ) → Type 0
AreAskedInTurn all asked i y offer [] = Unit {0}
AreAskedInTurn all asked i y offer (request ∷ requests) =
    Contains asked (One request)
    × AreMessagesIn (right_messages i (One request) (right_content i offer)) all
    × AreAskedInTurn all asked i (history_after_answer i y offer request)
    (issued_bytes i (history_after_answer i y offer request)) requests

-- No segment is open, and nothing is asked, or one request that isn't taken for new.
abbrev pub AsksNothingNew : Instance → History → List ℕ → List (List ℕ) → Type 0
AsksNothingNew i y offer [] = y.is_open ≡ false
AsksNothingNew i y offer (request ∷ []) = IsIdle i y offer (One request)
AsksNothingNew i y offer (request ∷ next ∷ requests) = ⊥

-- what waits, and then the lines
abbrev pub requests_with : Option PendingRecord → List (List ℕ) → List (List ℕ)
requests_with None lines = lines
requests_with (Some p) lines = p.request ∷ lines

-- these are the first of those
abbrev pub AreFirstOf : List (List ℕ) → List (List ℕ) → Type 0
AreFirstOf first requests = (rest : List (List ℕ)) × (first ++ rest ≡ requests)

-- The requests that were told, and the one in hand, are the first of these.
pub record AreAmong (told : List ServedCall) (hand : List ℕ → Type 0)
    (requests : List (List ℕ)) : Type 0 where
  pub served : AreFirstOf (served_lines told) requests
  pub in_hand : (request : List ℕ) → hand request →
      AreFirstOf (served_lines told ++ request ∷ []) requests

-- The request in hand was refused: by a device's fault; or so as this offer is by lists, at the
-- history. That is Lost where the history is lost; Form, Kind, State or Tag by the offer's bytes;
-- Stale by the verdict on the position that it says (`judge`); and Full at the end of positions.
pub record IsRefusedFor (i : Instance) (after : History) (offer : List ℕ)
    (hand : List ℕ → Type 0) (why : Refusal) : Type 0 where
  pub request : List ℕ
  pub in_hand : hand request
  pub judged : IsSome (fault_of why)
      ⊎ (finding_at i (list_level i) after (One request) offer ≡ Err why)

module _ (all others : List (List ℕ)) (asked : List Batch) (i : Instance) (y : History) where
  -- What is asked where a session starts: the store tells its slots, and this waits in them; the
  -- platform stands for the history; no two messages share a digest, and no value of others is the
  -- guard of a request. And nobody else made a tag: if what is offered first is right, it names a
  -- position of the history. Nothing else is asked of the slots or of the store.
  pub record MayStart (slots : Slots) (standing : Standing) (kept : StoreStanding) : Type 0 where
    pub told : kept.slots ≡ Some slots
    pub waiting : Option PendingRecord
    pub is_waiting : IsWaiting (slot_front slots 2) (slot_front slots 3) waiting
    pub stands : StandsFor i standing y
    pub clear : IsClear all
    pub apart : AreNoGuards i.barrier others asked
    pub within : IsWithin all others asked i y
    pub genuine : IsGenuine i y (first_offer slots waiting)

  -- From a history: what was told is one run of the module, and a refusal is by the offer.
  pub record EndsRun (offer : List ℕ) (standing : Standing) (told : List ServedCall)
      (hand : List ℕ → Type 0) (last : List ℕ) (result : Result Unit SessionFault) : Type 0 where
    pub runs : RunsTo all others asked i y standing told hand last result
    pub open runs use *
    pub refuses : (why : Refusal) → result ≡ Err (Host (Refused why)) →
        IsRefusedFor i runs.after (offer_after offer told) hand why

  -- Where these requests are what is asked of: each first part of what was told that is among them
  -- is one run; and where all that were made are among them, so the session ends. All that were
  -- made are among what waited and the lines of the input, where that tells its bytes.
  pub record RunsOnce (slots : Slots) (waiting : Option PendingRecord) (left : Option (List ℕ))
      (standing : Standing) (told : List ServedCall) (hand : List ℕ → Type 0) (last : List ℕ)
      (requests : List (List ℕ)) (result : Result Unit SessionFault) : Type 0 where
    pub fronts : (front behind : List ServedCall) → told ≡ front ++ behind →
        AreFirstOf (served_lines front) requests →
        (after : List (List ℕ)) × CallsRunOver i.meaning (requests_of y.batches) front after
    pub ends : AreAmong told hand requests →
        EndsRun (first_offer slots waiting) standing told hand last result
    pub made : (input : List ℕ) → left ≡ Some input →
        AreAmong told hand (requests_with waiting (lines_of input))

-- By whatever steps the session went, from every history that the platform stood for at entry, over
-- any store that tells its slots where the session starts, honest or not. The premises are asked of
-- some first requests alone: so a line whose messages clash costs nothing of those before it. Over
-- a platform of Basic under every key; over one of Opt under every key and barrier, where what
-- others did is known by the items that the register shows at the session's end, so that this is
-- asked for the whole session, unless nothing new is asked.
abbrev pub RunsOnceFrom : Variant → Meaning → (entry : Standing) → SessionStanding
    → SessionStanding → Result Unit SessionFault → Type 0
RunsOnceFrom Basic meaning entry old new result =
    (s : IsSession Basic meaning old new result)
    (key : List ℕ) (y : History) (slots : Slots) (all others : List (List ℕ)) (asked : List Batch)
    (requests : List (List ℕ)) →
    (may : MayStart all others asked (basic_instance meaning key) y slots entry old.kept) →
    AreAskedInTurn all asked (basic_instance meaning key) y (first_offer slots may.waiting) requests
    →
    RunsOnce all others asked (basic_instance meaning key) y slots may.waiting old.left new.standing
    (served_calls_in may.waiting s.goes) (IsInHand may.waiting s.goes) (last_bytes_in s.goes)
    requests result
RunsOnceFrom Opt meaning entry old new result =
    (s : IsSession Opt meaning old new result)
    (key barrier : List ℕ) (y : History) (slots : Slots) (all others : List (List ℕ))
    (asked : List Batch) (requests : List (List ℕ)) (items more : List Item) →
    (may : MayStart all others asked (opt_instance meaning key barrier) y slots entry old.kept) →
    AreAskedInTurn all asked (opt_instance meaning key barrier) y
    (first_offer slots may.waiting) requests →
    entry.items ≡ Some items →
    new.standing.items ≡ Some (standing_items y.is_open items ++ more) →
    ((AsksNothingNew (opt_instance meaning key barrier) y (first_offer slots may.waiting) requests
    → ⊥) →
    AreShown all others (opt_instance meaning key barrier) y more) →
    RunsOnce all others asked (opt_instance meaning key barrier) y slots may.waiting old.left
    new.standing (served_calls_in may.waiting s.goes) (IsInHand may.waiting s.goes)
    (last_bytes_in s.goes) requests result

-- a session is entered where it starts
abbrev pub SessionRunsOnce : Variant → Meaning → SessionStanding → SessionStanding
    → Result Unit SessionFault → Type 0
SessionRunsOnce variant meaning old new result =
    RunsOnceFrom variant meaning old.standing old new result

-- The calls that a session makes, whatever the slots hold; and why it is refused, by the digests at
-- which its platform stands then.

-- Calls that were answered, one after another, each with the snapshot of the answer before.
abbrev pub CallsInTurn : Variant → Meaning → List ℕ → Standing → List ServedCall → Standing → Type 0
CallsInTurn variant meaning offer before [] after = after ≡ before
CallsInTurn variant meaning offer before (c ∷ calls) after =
    (middle : Standing) × IsCall variant meaning before middle offer c.line (Ok c.answer)
    × CallsInTurn variant meaning c.answer.snapshot middle calls after

-- the refusals that an offer may come to
abbrev pub IsOfOffer : Refusal → Type 0
IsOfOffer refusal.Lost = Unit {0}
IsOfOffer refusal.Form = Unit {0}
IsOfOffer refusal.Kind = Unit {0}
IsOfOffer refusal.State = Unit {0}
IsOfOffer refusal.Tag = Unit {0}
IsOfOffer refusal.Stale = Unit {0}
IsOfOffer refusal.Full = Unit {0}
IsOfOffer _ = ⊥

-- This request is next behind those that were told: it is the last of what waits and some first
-- lines of the input, of which there are no more than a session serves; and it is no longer than a
-- line.
pub record IsNext (waiting : Option PendingRecord) (input : List ℕ) (told : List ServedCall)
    (request : List ℕ) : Type 0 where
  pub lines : List (List ℕ)
  pub asked : served_lines told ++ request ∷ [] ≡ requests_with waiting lines
  pub first : AreFirstOf lines (lines_of input)
  pub few : length lines ≤ most_lines
  pub short : length request ≤ longest_request

-- The request in hand was refused: by a device's fault; or so as this offer is at these digests.
pub record IsRefusedBy (i : Instance) (d : Digests) (offer : List ℕ) (hand : List ℕ → Type 0)
    (why : Refusal) : Type 0 where
  pub request : List ℕ
  pub in_hand : hand request
  pub judged : IsSome (fault_of why)
      ⊎ (finding_at i (digest_level i) d (One request) offer ≡ Err why)

-- When a session is over, its platform stands at digests; and a refusal is by them.
pub record EndsAt (i : Instance) (standing : Standing) (offer : List ℕ) (hand : List ℕ → Type 0)
    (result : Result Unit SessionFault) : Type 0 where
  pub digests : Digests
  pub stands : StandsAt i standing digests
  pub refuses : (why : Refusal) → result ≡ Err (Host (Refused why)) →
      IsRefusedBy i digests offer hand why

-- What a session comes to over an honest store, in either variant: it may be gone on with.

module _ (all others : List (List ℕ)) (asked : List Batch) (i : Instance) (y : History) where
  -- What is asked where a session starts: the store is honest, and tells its slots; the platform
  -- stands for the history, and the slots fit it; and no two messages share a digest, and no value
  -- of others is the guard of a request.
  pub record MayGoOn (slots : Slots) (standing : Standing) (kept : StoreStanding) : Type 0 where
    pub honest : kept.is_honest ≡ true
    pub told : kept.slots ≡ Some slots
    pub stands : StandsFor i standing y
    pub fits : FitsHistory i slots y
    pub clear : IsClear all
    pub apart : AreNoGuards i.barrier others asked
    pub within : IsWithin all others asked i y

-- By whatever steps the session went, from every history that the platform stood for at entry, over
-- an honest store whose slots fit it; at every exit. The premises are asked of the requests that
-- were made alone: they are among these. Over a platform of Basic under every key; over one of Opt
-- under every key and barrier, where what others did is known by the items that the register shows
-- at the session's end, unless nothing new is asked.
abbrev pub ContinuesFrom : Variant → Meaning → (entry : Standing) → SessionStanding
    → SessionStanding → Result Unit SessionFault → Type 0
ContinuesFrom Basic meaning entry old new result =
    (s : IsSession Basic meaning old new result)
    (key : List ℕ) (y : History) (slots : Slots) (all others : List (List ℕ)) (asked : List Batch)
    (requests : List (List ℕ)) →
    (may : MayGoOn all others asked (basic_instance meaning key) y slots entry old.kept) →
    AreAskedInTurn all asked (basic_instance meaning key) y
    (first_offer slots may.fits.waiting) requests →
    AreAmong (served_calls_in may.fits.waiting s.goes) (IsInHand may.fits.waiting s.goes) requests →
    ContinuesTo all others asked (basic_instance meaning key) y may.fits.waiting new.standing
    new.kept (served_calls_in may.fits.waiting s.goes) (IsInHand may.fits.waiting s.goes)
    (last_bytes_in s.goes) result
ContinuesFrom Opt meaning entry old new result =
    (s : IsSession Opt meaning old new result)
    (key barrier : List ℕ) (y : History) (slots : Slots) (all others : List (List ℕ))
    (asked : List Batch) (requests : List (List ℕ)) (items more : List Item) →
    (may : MayGoOn all others asked (opt_instance meaning key barrier) y slots entry old.kept) →
    AreAskedInTurn all asked (opt_instance meaning key barrier) y
    (first_offer slots may.fits.waiting)
    requests →
    AreAmong (served_calls_in may.fits.waiting s.goes) (IsInHand may.fits.waiting s.goes) requests →
    entry.items ≡ Some items →
    new.standing.items ≡ Some (standing_items y.is_open items ++ more) →
    ((AsksNothingNew (opt_instance meaning key barrier) y
    (first_offer slots may.fits.waiting) requests → ⊥)
    → AreShown all others (opt_instance meaning key barrier) y more) →
    ContinuesTo all others asked (opt_instance meaning key barrier) y may.fits.waiting new.standing
    new.kept (served_calls_in may.fits.waiting s.goes) (IsInHand may.fits.waiting s.goes)
    (last_bytes_in s.goes) result

-- a session is entered where it starts
abbrev pub SessionContinues : Variant → Meaning → SessionStanding → SessionStanding
    → Result Unit SessionFault → Type 0
SessionContinues variant meaning old new result =
    ContinuesFrom variant meaning old.standing old new result
