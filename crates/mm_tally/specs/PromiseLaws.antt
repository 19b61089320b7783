-- Runs of a tally keep its promise.
use Rattle.std.specs.Prelude.{◌≡◌, ℕ, zero, suc, ◌+◌, ◌≤◌, Bool, true, false, cond, min, List, [], ◌∷◌, take, Some, count_by, slice_get}
use Rattle.std.specs.Prelude.{if◌then◌else◌}
use Rattle.std.proofs.Common.{sym, ap, ◌∙◌, add-one, arith}
use Rattle.std.specs.Fmt.{decimal}
use Rattle.std.proofs.lemmas.List.Sums.{sum_by-cons}
use Rattle.mm_module.specs.Meaning.{outputs_from}
use Rattle.mm_listing.specs.Listing.{AreSaid, Telling}
use Rattle.mm_listing.specs.RequestLaws.{none-some, some-same}
use Rattle.mm_tally.specs.Promise.{TellsMarks, marks_among}
use Rattle.mm_tally.specs.Table.{count_after, is_mark, tally}

-- a request counts one where it is a mark, as far as 255
counted-by : (count : ℕ) (marks : Bool) → count ≤ 255
    → (if marks then min (count + 1) 255 else count) ≡ min 255 (count + cond marks 1 0)
counted-by count true few = omega arith
counted-by count false few = omega arith

counted : (count : ℕ) (request : List ℕ) → count ≤ 255
    → count_after count request ≡ min 255 (count + cond (is_mark request) 1 0)
counted count request few = counted-by count (is_mark request) few

-- what is said at a place, from a count on
said-marks : (i count : ℕ) (requests : List (List ℕ)) (output : List ℕ) → count ≤ 255
    → slice_get (outputs_from tally (count ∷ []) requests) i ≡ Some output
    → output ≡ decimal (min 255 (count + count_by is_mark (take (suc i) requests)))
said-marks i count [] output few said = absurd (none-some output said)
said-marks zero count (request ∷ requests) output few said =
    let sum = sum_by-cons (λ (y : List ℕ). cond (is_mark y) 1 0) request [] in
    let same : count_after count request ≡ min 255
    (count + count_by is_mark (take 1 (request ∷ requests))) =
    omega (arith, counted count request few, sum) in
    sym (some-same _ output said) ∙ ap decimal same
said-marks (suc i) count (request ∷ requests) output few said =
    let next : ℕ = count_after count request in
    let sum = sum_by-cons (λ (y : List ℕ). cond (is_mark y) 1 0) request (take (suc i) requests) in
    let step = counted count request few in
    let more = said-marks i next requests output (omega (arith, step)) said in
    let rest : List (List ℕ) = take (suc i) requests in
    let same : min 255 (next + count_by is_mark rest) ≡ min 255
    (count + count_by is_mark (request ∷ rest)) =
    omega (arith, step, sum) in
    more ∙ ap decimal same

-- every run keeps the promise
pub tells-marks : (requests : List (List ℕ)) (tellings : List Telling)
    → AreSaid tally requests tellings → TellsMarks requests tellings
tells-marks requests [] said = tt
tells-marks requests (telling ∷ tellings) said =
    let sum = ap (λ (size : ℕ). count_by is_mark (take size requests)) (add-one telling.before) in
    let same : min 255 (0 + count_by is_mark (take (suc telling.before) requests)) ≡ marks_among
    requests (telling.before + 1) =
    omega (arith, sum) in (
      said-marks telling.before 0 requests telling.output (omega arith) said.0
          ∙ ap decimal same,
      tells-marks requests tellings said.1,
    )
