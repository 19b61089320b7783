-- A run of a module on a list of requests. With it: small histories, and what is said of each of
-- their positions.
use Rattle.std.specs.Prelude.{ℕ, List, ◌≡◌, zero, suc, [], ◌∷◌, map, ◌++◌}
use Rattle.mm_digest.specs.declared.variant.Variant.{Variant}
use Rattle.mm_digest.specs.declared.variant.Variant.TheVariants.{Basic}
use Rattle.mm_module.specs.Batch.{Batch, One}
use Rattle.mm_module.specs.Meaning.{Meaning, state_after, last_output_after}
use Rattle.mm_model.specs.History.{History, first_history, total_of}
use Rattle.mm_model.specs.Verdicts.{verdict_on}
use Rattle.mm_model.specs.declared.verdict.Verdict.{Verdict}

-- a module, and the requests that it ran
pub record Run (M : Type 0) : Type 0 where
  pub runner : M
  pub requests : List (List ℕ)

-- the state and the last output are those of the requests
pub record IsStateOfRun (meaning : Meaning) (requests : List (List ℕ))
    (state output : List ℕ) : Type 0
  where
    pub state_is : state ≡ state_after meaning requests
    pub output_is : output ≡ last_output_after meaning requests

-- Small histories, and what is said of each of their positions.

-- the Basic history of these requests, one by one
abbrev pub history_of : List (List ℕ) → History
history_of requests = record first_history { batches = map One requests }

-- the positions 0 to n
abbrev pub positions_to : ℕ → List ℕ
positions_to zero = 0 ∷ []
positions_to (suc n) = positions_to n ++ suc n ∷ []

-- what is said of each position of a history, from 0 on, with the batch
abbrev pub verdicts_by_position : Variant → History → Batch → List Verdict
verdicts_by_position variant y b =
    map (λ p. verdict_on variant y p b) (positions_to (total_of y.batches))

-- the same for a Basic history of requests, with a request
abbrev pub basic_verdicts : List (List ℕ) → List ℕ → List Verdict
basic_verdicts requests request = verdicts_by_position Basic (history_of requests) (One request)
