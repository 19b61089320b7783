-- What follows of what is told of a whole transfer.
use Rattle.std.specs.Prelude.{◌≡◌, ℕ, List, ◌++◌}
use Rattle.mm_transfer.specs.Below.{Digests, Header, BothEvent, BothRunOutcome, IsClearPair, IsGenuinePair, IsFreshPair}
use Rattle.mm_transfer.specs.Below.{both_outcome_joined, both_outcome_of_events, digest_mover}
use Rattle.mm_evidence.specs.Laws.{RunsUntil}
use Rattle.mm_sides.specs.Premises.{HasPairEvidence}
use Rattle.mm_transfer.specs.SideCommands.{pair_of}
use Rattle.mm_transfer.specs.Stage.{AreOneTransfer, IsOneTransfer}

-- Of each first part of the events that meets the premises the headline says one transfer: a
-- premise that breaks later costs nothing of it.
abbrev pub PremisesGiveOneTransfer : Type 0
PremisesGiveOneTransfer =
    (header : Header) (events : List BothEvent) (shown : List BothEvent → BothRunOutcome Digests ℕ)
    → AreOneTransfer header events shown → (front later : List BothEvent) → events ≡ front ++ later
    → IsClearPair (pair_of header) front → IsGenuinePair (pair_of header) front
    → IsFreshPair (pair_of header) front → IsOneTransfer header front (shown front)

-- And so it does of each up to the first event that gives evidence.
abbrev pub OneTransferUntilEvidence : Type 0
OneTransferUntilEvidence =
    (header : Header) (events : List BothEvent) (shown : List BothEvent → BothRunOutcome Digests ℕ)
    → AreOneTransfer header events shown
    → RunsUntil (HasPairEvidence (pair_of header)) events
    (λ front. IsOneTransfer header front (shown front))

-- The whole transfer is that of each first part of the events, and then of the rest.
abbrev pub TransfersGoOn : Type 0
TransfersGoOn =
    (header : Header) (events : List BothEvent) (shown : List BothEvent → BothRunOutcome Digests ℕ)
    → AreOneTransfer header events shown → (front rest : List BothEvent) → events ≡ front ++ rest →
    let it : BothRunOutcome Digests ℕ = shown front in
    shown events ≡ both_outcome_joined it (both_outcome_of_events digest_mover (pair_of header) it.both rest)
