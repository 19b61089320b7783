-- The laws of calls: by digests a call is what it is by lists, on every course.
use Rattle.std.specs.Prelude.{◌≡◌, ℕ, List}
use Rattle.mm_call.specs.Below.{Batch, Meaning, History, Instance, basic_instance, opt_instance, Digests}
use Rattle.mm_call.specs.CallFinding.{list_level, digest_level, DigestsAgree}
use Rattle.mm_call.specs.CallOutcome.{Course, WalkOutcome, CallOutcome, call_outcome}
use Rattle.mm_call.specs.CallPremises.{IsWithin, IsAsked}

-- Two calls, or checkpoints, end in the same way, with the same moves, steps and writes; the digests
-- after are those of the history; and what was asked of the history holds again.
pub record IsSame {E : Type 0} (all others : List (List ℕ)) (asked : List Batch) (i : Instance)
    (lists : WalkOutcome History E)
    (digests : WalkOutcome Digests E) : Type 0 where
  pub ending : digests.ending ≡ lists.ending
  pub moves : digests.moves ≡ lists.moves
  pub steps : digests.steps ≡ lists.steps
  pub writes : digests.writes ≡ lists.writes
  pub agrees : DigestsAgree i lists.state digests.state
  pub within : IsWithin all others asked i lists.state

abbrev pub IsSameCall : List (List ℕ) → List (List ℕ) → List Batch → Instance → CallOutcome History
    → CallOutcome Digests → Type 0
IsSameCall all others asked i lists digests = IsSame all others asked i lists digests

-- On every course: where the history is within the list and what counts of the moves is, the call
-- by digests is the call by lists. Values of others before steps that weren't reached are never
-- asked about.
abbrev pub CallsAgree : Instance → Type 0
CallsAgree i =
    (all others : List (List ℕ)) (asked : List Batch) (y : History) (d : Digests) (course : Course)
    (offer : List ℕ)
    (b : Batch) →
    DigestsAgree i y d → IsAsked all others asked i y (call_outcome i (digest_level i) d course offer b).moves
    offer b →
    IsSameCall all others asked i (call_outcome i (list_level i) y course offer b)
    (call_outcome i (digest_level i) d course offer b)

abbrev pub BasicCallsAgree : Type 0
BasicCallsAgree = (meaning : Meaning) (key : List ℕ) → CallsAgree (basic_instance meaning key)

abbrev pub OptCallsAgree : Type 0
OptCallsAgree = (meaning : Meaning) (key barrier : List ℕ) → CallsAgree (opt_instance meaning key barrier)
