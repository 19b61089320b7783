-- The laws of two sides.
use Rattle.std.specs.Prelude.{◌≡◌, ℕ, List, [], ◌∷◌, ◌++◌, length, Option, Some}
use Rattle.std.specs.List.{AllByRecursion}
use Rattle.mm_sides.specs.Below.{Variant, Quiet, counter, History, requests_of, Digests, DigestsAgree, Event, IsEventRun, Last, Reply}
use Rattle.mm_sides.specs.Below.{IsIssued}
use Rattle.mm_sides.specs.BothSides.{Live, Retired, Effect, Enters, MoveNotes, no_notes, SideName, First, Second, Pair, instance_on}
use Rattle.mm_sides.specs.BothSides.{SideState, BothSides, history_now, list_mover, digest_mover, first_both_by_lists, Invite, Retire}
use Rattle.mm_sides.specs.BothSides.{Accept}
use Rattle.mm_sides.specs.Order.{ModuleEntersByLast, AreNotBothLive}
use Rattle.mm_sides.specs.Folds.{BothAct, Plain, Moves, BothEvent, BothReply, Said, both_outcome, BothRunOutcome, both_outcome_of_events}
use Rattle.mm_sides.specs.Folds.{both_outcome_by_lists, both_outcome_by_digests, notes_with_effect_if}
use Rattle.mm_sides.specs.Premises.{IsClearPair, IsGenuinePair, IsFreshPair}

-- Two ways to follow a side agree: its role, its snapshots, and the digests are those of the
-- history.
pub record SidesAgree (pair : Pair) (which : SideName) (lists : SideState History)
    (digests : SideState Digests) : Type 0 where
  pub role : digests.role ≡ lists.role
  pub at : DigestsAgree (instance_on pair which) lists.at digests.at
  pub issued : digests.issued ≡ lists.issued

-- BothSides followings give the same replies, the same tickets and the same count of requests, and agree
-- on either side.
pub record PairsAgree (pair : Pair) (lists : BothRunOutcome History History)
    (digests : BothRunOutcome Digests ℕ) : Type 0 where
  pub replies : digests.replies ≡ lists.replies
  pub first : SidesAgree pair First lists.both.first digests.both.first
  pub second : SidesAgree pair Second lists.both.second digests.both.second
  pub tickets : digests.both.tickets ≡ lists.both.tickets
  pub committed : digests.both.committed ≡ lists.both.committed

-- Where the digests are clear, the offers genuine, and nonces and tickets fresh, a schedule of both
-- sides gives the same by digests as by lists.
abbrev pub PairsAgreeThroughout : Type 0
PairsAgreeThroughout = (pair : Pair) (events : List BothEvent) →
    IsClearPair pair events → IsGenuinePair pair events → IsFreshPair pair events
    → PairsAgree pair (both_outcome_by_lists pair events) (both_outcome_by_digests pair events)

-- where the effect of an event is that the module enters a side
abbrev pub ModuleEntersAlone : MoveNotes → BothSides History History → Option Effect → Type 0
ModuleEntersAlone notes both (Some (Enters ticket)) =
    ModuleEntersByLast both.first.role both.second.role notes ticket
ModuleEntersAlone notes both effect = Unit {0}

-- At each moment at most one side is live; and the module enters a side only where none is, by the
-- ticket that it left by last.
abbrev pub IsOneLiveFrom : Pair → BothSides History History → MoveNotes → List BothEvent → Type 0
IsOneLiveFrom pair both notes [] = AreNotBothLive both.first.role both.second.role
IsOneLiveFrom pair both notes (event ∷ events) =
    let o = both_outcome list_mover pair both event in
    AreNotBothLive both.first.role both.second.role × ModuleEntersAlone notes both o.effect
    × IsOneLiveFrom pair o.both (notes_with_effect_if o.effect notes) events

-- It takes no premise but that nonces and tickets are fresh.
abbrev pub OneIsLive : Type 0
OneIsLive =
    (pair : Pair) (events : List BothEvent) → IsFreshPair pair events
    → IsOneLiveFrom pair (first_both_by_lists pair) no_notes events

-- the events of a schedule alone, and the replies to them
abbrev pub plain_events_in : BothAct → List Event
plain_events_in (Plain event) = event ∷ []
plain_events_in (Moves meddles stop command) = []

abbrev pub plain_events : List BothEvent → List Event
plain_events [] = []
plain_events (event ∷ events) = plain_events_in event.act ++ plain_events events

abbrev pub plain_reply : BothReply → List Reply
plain_reply (Said reply) = reply ∷ []
plain_reply reply = []

abbrev pub plain_replies : List BothReply → List Reply
plain_replies [] = []
plain_replies (reply ∷ replies) = plain_reply reply ++ plain_replies replies

-- The replies to both sides' calls are those of one run of the machine, and as many requests were
-- committed.
pub record IsOneRunOfBoth (pair : Pair) (events : List BothEvent)
    (lists : BothRunOutcome History History) : Type 0 where
  pub runs : IsEventRun pair.meaning [] (plain_events events) (plain_replies lists.replies)
      (requests_of (history_now lists.both).batches)
  pub count : lists.both.committed ≡ length (requests_of (history_now lists.both).batches)

abbrev pub SidesRunAsOne : Type 0
SidesRunAsOne =
    (pair : Pair) (events : List BothEvent) → IsFreshPair pair events
    → IsOneRunOfBoth pair events (both_outcome_by_lists pair events)

-- what stands after some events and then more
abbrev pub both_outcome_joined : {S A : Type 0} → BothRunOutcome S A → BothRunOutcome S A → BothRunOutcome S A
both_outcome_joined first second =
    record { both = second.both; replies = first.replies ++ second.replies }

-- A front of a schedule: what stands after it and its replies are those of the schedule so far.
abbrev pub PairsGoOn : Type 0
PairsGoOn = (pair : Pair) (es fs : List BothEvent) →
    let lists : BothRunOutcome History History = both_outcome_by_lists pair es in
    let digests : BothRunOutcome Digests ℕ = both_outcome_by_digests pair es in
    (both_outcome_by_lists pair (es ++ fs) ≡ both_outcome_joined lists
    (both_outcome_of_events list_mover pair lists.both fs))
    × (both_outcome_by_digests pair (es ++ fs) ≡ both_outcome_joined digests
    (both_outcome_of_events digest_mover pair digests.both fs))

-- Each snapshot that a side issued names a position of where it stands, and of the one history.
pub record SnapshotsName (pair : Pair) (which : SideName) (side : SideState History)
    (history : History) : Type 0 where
  pub here : AllByRecursion (IsIssued (instance_on pair which) side.at) side.issued
  pub now : AllByRecursion (IsIssued (instance_on pair which) history) side.issued

-- So it is after each schedule with fresh nonces and tickets.
abbrev pub SidesIssueNames : Type 0
SidesIssueNames = (pair : Pair) (events : List BothEvent) → IsFreshPair pair events →
    let lists : BothRunOutcome History History = both_outcome_by_lists pair events in
    SnapshotsName pair First lists.both.first (history_now lists.both)
    × SnapshotsName pair Second lists.both.second (history_now lists.both)

-- The module moves once: the second side is invited under a nonce, the module leaves the first by
-- its snapshot, and enters the second by its ticket.
abbrev pub one_move : List ℕ → List BothEvent
one_move nonce =
    record { which = Second; act = Moves [] Quiet (Invite nonce) }
    ∷ record { which = First; act = Moves [] Quiet (Retire nonce Last) }
    ∷ record { which = Second; act = Moves [] Quiet (Accept Last) } ∷ []

-- a counter on two sides
abbrev pub counters : Variant → (first_key second_key barrier link : List ℕ) → Pair
counters variant first_key second_key barrier link = record {
  variant = variant;
  meaning = counter;
  first_key = first_key;
  second_key = second_key;
  barrier = barrier;
  link = link;
}

-- That run meets what is asked of one, and the module is on the second side then.
pub record MovesOnce (pair : Pair) (nonce : List ℕ) : Type 0 where
  pub clear : IsClearPair pair (one_move nonce)
  pub genuine : IsGenuinePair pair (one_move nonce)
  pub fresh : IsFreshPair pair (one_move nonce)
  pub left : (both_outcome_by_lists pair (one_move nonce)).both.first.role ≡ Retired nonce
  pub entered : (both_outcome_by_lists pair (one_move nonce)).both.second.role ≡ Live

-- So the premises can be met, under all keys.
abbrev pub PremisesAreMet : Type 0
PremisesAreMet =
    (variant : Variant) (first_key second_key barrier link nonce : List ℕ) → length nonce ≡ 32
    → MovesOnce (counters variant first_key second_key barrier link) nonce
