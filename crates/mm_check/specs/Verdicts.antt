-- What a check comes to.
use Rattle.std.specs.Prelude.{◌≡◌, ℕ, ◌+◌, ◌≤◌, Bool, false, nat_lt, List, [], ◌∷◌, ◌++◌, length, codes, Option, None, Some, if◌then◌else◌}
use Rattle.std.specs.Fmt.{decimal}
use Rattle.std.specs.Str.{bytes_eq}
use Rattle.mm_check.specs.Below.{most_events, Instance, Event, Header, outcome_by_digests, world_of, RunningReplay}
use Rattle.mm_numbering.specs.Listing.{first_number_of}
use Rattle.mm_check.specs.Numbering.{DecidesPremise, lines_of_all, lines_with, expected_lines}
use Rattle.mm_check.specs.CheckStage.{ComparedRun, CheckStage, AtHeader, InEvents, InReplies}
use Rattle.mm_check.specs.declared.verdicts.Premise.{Premise}
use Rattle.mm_check.specs.declared.verdicts.Premise.TheVariants.{Held, Shared, Zero, Secured, Forged}
use Rattle.mm_check.specs.declared.verdicts.Agreement.{Agreement}
use Rattle.mm_check.specs.declared.verdicts.Agreement.TheVariants.{Agree, Differ}
use Rattle.mm_check.specs.declared.verdicts.Verdicts.{Verdicts}

-- the number, from this one on, of the first line in which two lists differ: one that is missing or
-- too many differs too
abbrev pub difference_from : ℕ → List (List ℕ) → List (List ℕ) → Option ℕ
difference_from n [] [] = None
difference_from n [] (e ∷ expected) = Some n
difference_from n (t ∷ tested) [] = Some n
difference_from n (t ∷ tested) (e ∷ expected) =
    if bytes_eq t e then difference_from (n + 1) tested expected else Some n

-- the line that was found, if there is one, is this one
abbrev pub is_found : Option (List ℕ) → List ℕ → Bool
is_found None line = false
is_found (Some found) line = bytes_eq found line

abbrev pub first_difference : List (List ℕ) → List (List ℕ) → Option ℕ
first_difference tested expected = difference_from 1 tested expected

abbrev pub agreement_of : Option ℕ → Agreement
agreement_of None = Agree
agreement_of (Some line) = Differ line

-- the lines that the run itself gives, with its last line
abbrev pub run_lines : Instance → List Event → List (List ℕ)
run_lines i events =
    lines_with (outcome_by_digests i events) (outcome_by_digests i events).state.count

-- Behind these events a run by digests stands so, and its lines are told.
pub record RunsBehind (header : Header) (running : RunningReplay) (events : List Event)
    (told : List (List ℕ)) : Type 0 where
  pub same : running.header ≡ header
  pub digests : running.digests ≡ (outcome_by_digests (world_of header) events).state
  pub issued : running.issued ≡ (outcome_by_digests (world_of header) events).issued
  pub lines : told ≡ lines_of_all (outcome_by_digests (world_of header) events).replies
  pub count : running.events ≡ length events
  pub few : running.events ≤ most_events

-- the first difference at the end of the recorded lines: one may be missing
abbrev pub end_difference : ComparedRun → Option ℕ
end_difference c =
    first_number_of c.differs
    (nat_lt c.count (length (expected_lines (world_of c.header) c.events)))
    (c.count + 1)

-- the verdicts on a run whose lines are tested
pub record AreVerdicts (header : Header) (events : List Event) (tested : List (List ℕ))
    (it : Verdicts) : Type 0 where
  pub premise : DecidesPremise (world_of header) events it.premise
  pub agreement : it.agreement ≡ agreement_of
      (first_difference tested (expected_lines (world_of header) events))

-- the verdicts once the recorded lines were compared
pub record AreVerdictsOn (c : ComparedRun) (it : Verdicts) : Type 0 where
  pub premise : DecidesPremise (world_of c.header) c.events it.premise
  pub agreement : it.agreement ≡ agreement_of (end_difference c)

-- the verdicts at the end of the input
abbrev pub StageConcludes : CheckStage → Verdicts → Type 0
StageConcludes AtHeader it = ⊥
StageConcludes (InEvents r) it =
    AreVerdicts r.header r.events (run_lines (world_of r.header) r.events) it
StageConcludes (InReplies c) it = AreVerdictsOn c it

-- the lines that are written
abbrev pub premise_text : Premise → List ℕ
premise_text Held = codes "held"
premise_text (Shared first second) = codes "shared " ++ decimal first ++ 32 ∷ [] ++ decimal second
premise_text (Zero message) = codes "zero " ++ decimal message
premise_text (Secured event) = codes "secured " ++ decimal event
premise_text (Forged event) = codes "forged " ++ decimal event

abbrev pub agreement_text : Agreement → List ℕ
agreement_text Agree = codes "agree"
agreement_text (Differ line) = codes "differ " ++ decimal line

abbrev pub verdicts_text : Verdicts → List ℕ
verdicts_text it = premise_text it.premise ++ 10 ∷ [] ++ agreement_text it.agreement ++ 10 ∷ []

-- What comparing keeps: what is told of the premises, the lines that are expected, and that few
-- were compared.
pub record IsComparing (header : Header) (events : List Event) (premise : Premise)
    (expected : List (List ℕ)) (count : ℕ) : Type 0 where
  pub decided : DecidesPremise (world_of header) events premise
  pub lines : expected ≡ expected_lines (world_of header) events
  pub few : count ≤ 1280001
