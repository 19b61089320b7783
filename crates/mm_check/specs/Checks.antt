-- The check of a recorded run: what it says of the lines of an input.
use Rattle.std.specs.Prelude.{◌≡◌, ℕ, List, [], ◌∷◌, ◌++◌, map, Option, Some, Result, Ok, Err, ◌⊎◌}
use Rattle.std.specs.Io.KnownBytes.{Appends, Consumes, IsAtEnd}
use Rattle.mm_check.specs.Below.{lines_of, ReplayFault, Memory, ReadFault, WriteFault, Event, event_at, header_at, Header, world_of}
use Rattle.mm_check.specs.Below.{PlayOutcome, outcome_of_lines, outcome_of_input, HoldsOfWhole, IsTailShort, IsFrontOf}
use Rattle.mm_check.specs.CheckStage.{CheckStage, AtHeader, check_answer, check_closing, section_line}
use Rattle.mm_check.specs.Verdicts.{AreVerdicts, run_lines, verdicts_text}
use Rattle.mm_check.specs.declared.verdicts.Verdicts.{Verdicts}

-- the lines that are tested, each with its LF: those recorded behind the line `replies`, or without
-- it those of the run
abbrev pub AreTested : Header → List Event → List (List ℕ) → List (List ℕ) → Type 0
AreTested header events section tested =
    ((section ≡ []) × (tested ≡ run_lines (world_of header) events))
    ⊎ ((recorded : List (List ℕ)) × (section ≡ section_line ∷ recorded)
    × (tested ≡ map (λ line. line ++ 10 ∷ []) recorded))

-- The lines are a header, events and perhaps recorded lines; and these are the verdicts on them.
pub record IsChecked (lines : List (List ℕ)) (it : Verdicts) : Type 0 where
  pub first : List ℕ
  pub others : List (List ℕ)
  pub section : List (List ℕ)
  pub header : Header
  pub events : List Event
  pub tested : List (List ℕ)
  pub split : lines ≡ first ∷ (others ++ section)
  pub headed : header_at first ≡ Some header
  pub read : map event_at others ≡ map Some events
  pub tests : AreTested header events section tested
  pub verdicts : AreVerdicts header events tested it

-- the run over whole lines, and over a whole input
abbrev pub check_of_lines : List (List ℕ) → PlayOutcome CheckStage
check_of_lines lines = outcome_of_lines (check_answer header_at) 1 AtHeader lines

abbrev pub check_of_input : List ℕ → PlayOutcome CheckStage
check_of_input input = outcome_of_input (check_answer header_at) check_closing AtHeader input

-- The input was taken to its end, its lines are all answered, the last one has its LF, and these
-- are the verdicts on them.
pub record IsJudged (left : Option (List ℕ)) (taken : List ℕ) (it : Verdicts) : Type 0 where
  pub ended : IsAtEnd left
  pub after : CheckStage
  pub answered : (check_of_input taken).outcome ≡ Ok after
  pub checked : IsChecked (lines_of taken) it

-- How the answer fits the bytes that were taken.
abbrev pub JudgeSettles : Option (List ℕ) → List ℕ → Result Verdicts ReplayFault → Type 0
-- the whole input was taken and answered, and these are the verdicts on it
JudgeSettles left taken (Ok verdicts) = IsJudged left taken verdicts
-- the source failed: no whole line that was taken is refused, and the bytes behind them may be a
-- line's
JudgeSettles left taken (Err ReadFault) =
    IsTailShort taken × ((after : CheckStage)
    × ((check_of_lines (lines_of taken)).outcome ≡ Ok after))
JudgeSettles left taken (Err WriteFault) = ⊥
JudgeSettles left taken (Err Memory) = Unit {0}
-- else the run over the lines stops so
JudgeSettles left taken (Err fault) =
    HoldsOfWhole left taken (λ input. (check_of_input input).outcome ≡ Err fault)

pub record JudgePromise (left left' : Option (List ℕ))
    (result : Result Verdicts ReplayFault) : Type 0
  where
    pub taken : List ℕ
    pub consumed : Consumes left left' taken
    pub settled : JudgeSettles left' taken result

-- How the answer fits the bytes that were taken and those that were written: only after Ok, and
-- where the output failed, is anything written.
abbrev pub ChecksRunBy : Option (List ℕ) → List ℕ → List ℕ → Result Verdicts ReplayFault → Type 0
ChecksRunBy left taken sent (Ok verdicts) =
    IsJudged left taken verdicts × (sent ≡ verdicts_text verdicts)
ChecksRunBy left taken sent (Err WriteFault) =
    (verdicts : Verdicts) × IsJudged left taken verdicts × IsFrontOf sent (verdicts_text verdicts)
ChecksRunBy left taken sent (Err Memory) = sent ≡ []
ChecksRunBy left taken sent (Err fault) = (sent ≡ []) × JudgeSettles left taken (Err fault)

-- A check took these bytes of the input and wrote those.
pub record ChecksRun (left left' received received' : Option (List ℕ))
    (result : Result Verdicts ReplayFault) : Type 0 where
  pub taken : List ℕ
  pub sent : List ℕ
  pub consumed : Consumes left left' taken
  pub appended : Appends received received' sent
  pub settled : ChecksRunBy left' taken sent result
