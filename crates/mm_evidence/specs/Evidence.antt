-- The evidence that one holds in hand of a run that doesn't meet its premises: of the messages that
-- it hashes, of the values of others, and of what it is offered.
use Rattle.std.specs.Prelude.{◌≡◌, ◌≢◌, ℕ, List, ◌∷◌, ◌++◌, Option, Some}
use Rattle.std.specs.List.{Contains}
use Rattle.mm_evidence.specs.Below.{sha256, zero_bytes, Opt, Content, Batch, guard, History, Instance, Meddle, Stop, Offer, NamesPosition}
use Rattle.mm_evidence.specs.Below.{IsRight, Ask, Event, outcome_by_lists, offered_bytes, run_messages, foreign_values, asked_batches}

-- The evidence in messages, and in values of others and batches: two different messages have one
-- digest; or the digest of one is zero; or, in Opt, a value is the guard of a batch.
pub data HasClash (i : Instance) (messages values : List (List ℕ)) (batches : List Batch) : Type 0
  where
    collision : (first second : List ℕ) → Contains messages first → Contains messages second
        → first ≢ second → sha256 first ≡ sha256 second → HasClash i messages values batches
    zero_digest : (message : List ℕ) → Contains messages message → sha256 message ≡ zero_bytes
        → HasClash i messages values batches
    guarded : i.variant ≡ Opt → (value : List ℕ) (batch : Batch) → Contains values value
        → Contains batches batch → value ≡ guard i.barrier batch
        → HasClash i messages values batches

-- What is offered is right, and names no position of the history: somebody else sealed it.
pub record IsForged (i : Instance) (y : History) (offered : Option (List ℕ)) : Type 0 where
  pub bytes : List ℕ
  pub content : Content
  pub offers : offered ≡ Some bytes
  pub right : IsRight i bytes content
  pub unnamed : NamesPosition i y content → ⊥

-- The evidence that events give: their messages clash, or others bring the guard of a batch that is
-- asked; or what one event offers is forged, by the history before it.
pub data HasEvidence (i : Instance) (events : List Event) : Type 0 where
  clash : HasClash i (run_messages i events) (foreign_values events) (asked_batches events)
      → HasEvidence i events
  forgery : (before later : List Event) (meddles : List Meddle) (stop : Stop) (offer : Offer)
      (batch : Batch) → events ≡ before ++ Ask meddles stop offer batch ∷ later
      → IsForged i (outcome_by_lists i before).state
      (offered_bytes (outcome_by_lists i before).issued offer)
      → HasEvidence i events
