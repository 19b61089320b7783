-- The laws of evidence.
use Rattle.std.specs.Prelude.{◌≡◌, ◌⊎◌, ℕ, List, [], ◌∷◌, ◌++◌, Some}
use Rattle.std.specs.List.{Contains}
use Rattle.mm_evidence.specs.Below.{Instance, Event, Offer, Flip, Raw, outcome_by_lists, outcome_by_digests, IsOneRun, IsClearRun}
use Rattle.mm_evidence.specs.Below.{IsGenuineRun, offered_bytes}
use Rattle.mm_evidence.specs.Evidence.{HasEvidence, IsForged}

-- Of events of any kind, and of what is evidence in them.
module _ {E : Type 0} (Gives : List E → Type 0) where
  -- Behind these events there is none, or the next one gives evidence.
  abbrev pub StopsAt : List E → List E → Type 0
  StopsAt front [] = Unit {0}
  StopsAt front (event ∷ later) = Gives (front ++ event ∷ [])

  -- These are the events before the first one that gives evidence.
  pub record IsFrontWithoutEvidence (events front : List E) : Type 0 where
    pub rest : List E
    pub split : events ≡ front ++ rest
    pub clean : (first : List E) (event : E) (later : List E)
        → front ≡ first ++ event ∷ later → Gives (first ++ event ∷ []) → ⊥
    pub stops : StopsAt front rest

  -- Of each first part of the events something holds, up to the first event that gives evidence.
  pub record RunsUntil (events : List E) (Holds : List E → Type 0) : Type 0 where
    pub front : List E
    pub unbroken : IsFrontWithoutEvidence events front
    pub one_run : (first later : List E) → front ≡ first ++ later → Holds first

  -- The events before the first one that gives evidence are these alone; if there are any, they meet
  -- the premises; and so many first ones as meet them are among these.
  pub record IsLongest (Meets : List E → Type 0) (events front : List E) : Type 0 where
    pub alone : (other : List E) → IsFrontWithoutEvidence events other → other ≡ front
    pub meets : (first : List E) (event : E) (later : List E)
        → front ≡ first ++ event ∷ later → Meets (first ++ event ∷ [])
    pub longest : (first later : List E) → events ≡ first ++ later → Meets first
        → (more : List E) × (front ≡ first ++ more)

-- A run meets the premises, or gives evidence; and never both.
pub record IsDecidedRun (i : Instance) (events : List Event) : Type 0 where
  pub decided : (IsClearRun i events × IsGenuineRun i events) ⊎ HasEvidence i events
  pub apart : IsClearRun i events → IsGenuineRun i events → HasEvidence i events → ⊥

-- The replies to the events, as they are by digests, are one run of the module.
abbrev pub RepliesAreOneRun : Instance → List Event → Type 0
RepliesAreOneRun i events =
    let it = outcome_by_digests i events in
    IsOneRun i events it.replies it.state.count it.issued

-- Of every schedule the replies are those of one run, up to the first event that gives evidence.
abbrev pub IsOneRunOrEvidence : Instance → List Event → Type 0
IsOneRunOrEvidence i events = RunsUntil (HasEvidence i) events (RepliesAreOneRun i)

abbrev pub FrontsAreLongest : Instance → List Event → Type 0
FrontsAreLongest i events =
    (front : List Event) → IsFrontWithoutEvidence (HasEvidence i) events front
    → IsLongest (HasEvidence i) (λ first. IsClearRun i first × IsGenuineRun i first) events front

-- the offer has bytes of its own, or changes those of an issued snapshot
abbrev pub IsMadeUp : Offer → Type 0
IsMadeUp (Raw bytes) = Unit {0}
IsMadeUp (Flip number byte) = Unit {0}
IsMadeUp offer = ⊥

-- What is forged is none of the snapshots issued, whichever event offers it: its offer is one of
-- bytes of its own, or of a changed snapshot.
pub record ForgedAreNew (i : Instance) (events : List Event) : Type 0 where
  pub unissued : (offered : List ℕ) → IsForged i (outcome_by_lists i events).state (Some offered)
      → Contains (outcome_by_lists i events).issued offered → ⊥
  pub made_up : (offer : Offer)
      → IsForged i (outcome_by_lists i events).state (offered_bytes (outcome_by_lists i events).issued offer)
      → IsMadeUp offer
