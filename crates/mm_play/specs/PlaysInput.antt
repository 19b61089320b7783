-- What a call that answers the lines of an input took, wrote and answers. With it: a run over the
-- lines of an input; what is out, as a whole and not line by line; what a command over events does
-- with an input.
use Rattle.std.specs.Io.KnownBytes.{Appends, Consumes, IsAtEnd}
use Rattle.std.specs.Prelude.{ℕ, ◌+◌, List, [], ◌∷◌, ◌++◌, length, nat_lt, Option, None, Some, Result, Ok, Err, if◌then◌else◌, ◌≡◌, ◌≤◌}
use Rattle.std.specs.Prelude.{Bool, true, false, ◌⊎◌}
use Rattle.mm_bytes.specs.Limits.{longest_line, CountRose}
use Rattle.mm_base.specs.Input.{lines_of, tail_of}
use Rattle.mm_base.specs.declared.replay_fault.ReplayFault.{ReplayFault}
use Rattle.mm_base.specs.declared.replay_fault.ReplayFault.TheVariants.{BadLine, LineLong, TooMuch, Memory, ReadFault, WriteFault}
use Rattle.mm_play.specs.declared.player.LineRefusal.{LineRefusal}
use Rattle.mm_play.specs.declared.player.LineRefusal.TheVariants.{Bad, Much}
use Rattle.mm_play.specs.Headline.{IsFrontOf, StreamStanding, EventPlayer, TellsEvents}
use Rattle.mm_play.specs.Stage.{EventStage, HeadStage, LineStage, AtHeading, line_answer, closing_lines}

-- A run over the lines of an input. A player answers each line, with a reply and the player after
-- it, or refuses it; and says what is written last, where the input may end.

-- what was written, and how the run stands: the player after it, or why it stopped
pub record PlayOutcome (P : Type 0) : Type 0 where
  pub written : List ℕ
  pub outcome : Result P ReplayFault

abbrev pub play_outcome : {P : Type 0} → List ℕ → Result P ReplayFault → PlayOutcome P
play_outcome written outcome = record { written = written; outcome = outcome }

-- nothing written, and stopped
abbrev pub stopped_outcome : {P : Type 0} → ReplayFault → PlayOutcome P
stopped_outcome fault = play_outcome [] (Err fault)

-- these bytes were written first
abbrev pub outcome_after_bytes : {P : Type 0} → List ℕ → PlayOutcome P → PlayOutcome P
outcome_after_bytes bytes t = play_outcome (bytes ++ t.written) t.outcome

-- why the run stops at the line of this number that the player refuses
abbrev pub refusal_at : ℕ → LineRefusal → ReplayFault
refusal_at number Bad = BadLine number
refusal_at number Much = TooMuch

-- the run goes on after the player's answer to the line of this number
abbrev pub outcome_of_answer : {P : Type 0} → (P → PlayOutcome P) → ℕ
    → Result (List ℕ × P) LineRefusal → PlayOutcome P
outcome_of_answer on number (Ok reply) = outcome_after_bytes reply.0 (on reply.1)
outcome_of_answer on number (Err refused) = stopped_outcome (refusal_at number refused)

-- one line: too long, or refused, or answered
abbrev pub outcome_of_turn : {P : Type 0} → (P → List ℕ → Result (List ℕ × P) LineRefusal)
    → (P → PlayOutcome P) → ℕ → P
    → List ℕ → PlayOutcome P
outcome_of_turn answer on number player line =
    if nat_lt longest_line (length line) then stopped_outcome (LineLong number)
    else outcome_of_answer on number (answer player line)

-- the run over whole lines, of which the first has this number
abbrev pub outcome_of_lines : {P : Type 0} → (P → List ℕ → Result (List ℕ × P) LineRefusal) → ℕ → P
    → List (List ℕ)
    → PlayOutcome P
outcome_of_lines answer number player [] = play_outcome [] (Ok player)
outcome_of_lines answer number player (line ∷ lines) =
    outcome_of_turn answer (λ next. outcome_of_lines answer (number + 1) next lines)
    number player line

-- the input ends where a line of this number would begin: the last lines are written, or a line is
-- missing
abbrev pub outcome_at_end : {P : Type 0} → ℕ → P → Option (List ℕ) → PlayOutcome P
outcome_at_end number player None = stopped_outcome (BadLine number)
outcome_at_end number player (Some last) = play_outcome last (Ok player)

-- the input ends after this tail
abbrev pub outcome_of_tail : {P : Type 0} → (P → Option (List ℕ)) → ℕ → List ℕ → P → PlayOutcome P
outcome_of_tail closing number [] player = outcome_at_end number player (closing player)
outcome_of_tail closing number (byte ∷ bytes) player =
    if nat_lt longest_line (length (byte ∷ bytes)) then stopped_outcome (LineLong number)
    else stopped_outcome (BadLine number)

-- what comes once these bytes were written, where the lines were all answered
abbrev pub outcome_then : {P : Type 0} → (P → PlayOutcome P) → List ℕ → Result P ReplayFault
    → PlayOutcome P
outcome_then on written (Ok player) = outcome_after_bytes written (on player)
outcome_then on written (Err fault) = play_outcome written (Err fault)

abbrev pub outcome_of_both : {P : Type 0} → PlayOutcome P → (P → PlayOutcome P) → PlayOutcome P
outcome_of_both t on = outcome_then on t.written t.outcome

-- the run over the rest of an input, of which the first line has this number
abbrev pub outcome_of_rest : {P : Type 0} → (P → List ℕ → Result (List ℕ × P) LineRefusal)
    → (P → Option (List ℕ)) → ℕ → P → List ℕ → PlayOutcome P
outcome_of_rest answer closing number player input =
    outcome_of_both (outcome_of_lines answer number player (lines_of input))
    (outcome_of_tail closing (number + length (lines_of input)) (tail_of input))

-- the run over a whole input
abbrev pub outcome_of_input : {P : Type 0} → (P → List ℕ → Result (List ℕ × P) LineRefusal)
    → (P → Option (List ℕ)) → P → List ℕ → PlayOutcome P
outcome_of_input answer closing player input = outcome_of_rest answer closing 1 player input

-- What a call that answers the lines of an input took, wrote and answers.

-- It holds of the whole input, of which these bytes were taken: whatever follows them, or nothing,
-- where the source is at its end.
abbrev pub HoldsOfWhole : Option (List ℕ) → List ℕ → (List ℕ → Type 0) → Type 0
HoldsOfWhole left taken holds = ((rest : List ℕ) → holds (taken ++ rest))
    ⊎ (IsAtEnd left × holds taken)

-- What stands behind the last LF may still grow into a line: a longer one is told as such, and no
-- more of it is read.
abbrev pub IsTailShort : List ℕ → Type 0
IsTailShort taken = length (tail_of taken) ≤ longest_line

-- How the answer fits what was taken of the input and written. `lines` is the run over whole lines,
-- `whole` that over a whole input.
module _ {P T : Type 0} (lines : List (List ℕ) → PlayOutcome P)
    (whole : List ℕ → PlayOutcome P) (next : P)
    (left : Option (List ℕ)) (taken sent : List ℕ) where
  abbrev pub AnswerFits : Result T ReplayFault → Type 0
  -- Ok: the input was taken to its end, and the run over it was written whole.
  AnswerFits (Ok _) = IsAtEnd left × (whole taken ≡ play_outcome sent (Ok next))
  -- The source failed: each whole line that was taken is answered, and nothing else; and the bytes
  -- behind them may be a line's.
  AnswerFits (Err ReadFault) =
      IsTailShort taken × ((after : P) × (lines (lines_of taken) ≡ play_outcome sent (Ok after)))
  -- The sink failed: what went out is a front of what the run writes.
  AnswerFits (Err WriteFault) =
      HoldsOfWhole left taken (λ input. IsFrontOf sent (whole input).written)
  -- Want of memory: some first lines are answered.
  AnswerFits (Err Memory) = (front : List ℕ) × IsFrontOf front taken × (after : P)
      × (lines (lines_of front) ≡ play_outcome sent (Ok after))
  -- Else the run stops so.
  AnswerFits (Err fault) =
      HoldsOfWhole left taken (λ input. whole input ≡ play_outcome sent (Err fault))

-- A count of faults rose exactly where it is to blame for the answer, and then by exactly one: no
-- call follows one that failed.
abbrev pub IsBlamed : Bool → ℕ → ℕ → Type 0
IsBlamed true before now = CountRose before now
IsBlamed false before now = now ≡ before

abbrev pub is_read_fault : {T : Type 0} → Result T ReplayFault → Bool
is_read_fault (Err ReadFault) = true
is_read_fault _ = false

abbrev pub is_write_fault : {T : Type 0} → Result T ReplayFault → Bool
is_write_fault (Err WriteFault) = true
is_write_fault _ = false

-- no line was refused
abbrev pub IsUnrefused : {T : Type 0} → Result T ReplayFault → Type 0
IsUnrefused (Err (BadLine number)) = ⊥
IsUnrefused (Err (LineLong number)) = ⊥
IsUnrefused (Err TooMuch) = ⊥
IsUnrefused _ = Unit {0}

-- A call took these bytes of the input and wrote those, and its answer fits.
pub record PlaysInput {P T : Type 0} (answer : P → List ℕ → Result (List ℕ × P) LineRefusal)
    (closing : P → Option (List ℕ)) (player next : P)
    (old new : StreamStanding) (result : Result T ReplayFault) : Type 0 where
  pub taken : List ℕ
  pub sent : List ℕ
  pub consumed : Consumes old.left new.left taken
  pub appended : Appends old.received new.received sent
  pub settled : AnswerFits (outcome_of_lines answer 1 player)
      (outcome_of_input answer closing player) next new.left taken sent result

-- What is out, as a whole and not line by line: which lines were answered, by how a call ended.

-- Some first lines were answered, and there it stopped.
pub record AnswersFirst (answers : List (List ℕ) → List ℕ → Type 0)
    (stops : List (List ℕ) → List (List ℕ) → Type 0) (lines : List (List ℕ))
    (written : List ℕ) : Type 0 where
  pub done : List (List ℕ)
  pub rest : List (List ℕ)
  pub split : lines ≡ done ++ rest
  pub answered : answers done written
  pub stopped : stops done rest

-- anywhere, or before the line with this number
abbrev pub StopsAnywhere : List (List ℕ) → List (List ℕ) → Type 0
StopsAnywhere done rest = Unit {0}

abbrev pub StopsBeforeLine : ℕ → List (List ℕ) → List (List ℕ) → Type 0
StopsBeforeLine number done rest = length done + 1 ≡ number

-- What is out, where these bytes of the input were taken and those written. `some` says what was
-- written for lines that were answered, `all` what was written for all lines of an input and behind
-- them, and `much` why the first line of the rest is one too many.
abbrev pub TellsOutput : {T : Type 0} → (some all : List (List ℕ) → List ℕ → Type 0)
    → (much : List (List ℕ) → List (List ℕ) → Type 0)
    → Option (List ℕ) → List ℕ → List ℕ → Result T ReplayFault → Type 0
-- the replies to all lines, and the last lines
TellsOutput some all much left taken sent (Ok _) = all (lines_of taken) sent
-- the replies to all whole lines, and the bytes behind them may be a line's
TellsOutput some all much left taken sent (Err ReadFault) =
    IsTailShort taken × some (lines_of taken) sent
-- a front of the replies to some first lines, or of all and the last lines
TellsOutput some all much left taken sent (Err WriteFault) = HoldsOfWhole left taken (λ input.
    (written : List ℕ) × IsFrontOf sent written
    × (AnswersFirst some StopsAnywhere (lines_of input) written ⊎ all (lines_of input) written))
-- the replies to some first lines
TellsOutput some all much left taken sent (Err Memory) =
    (front : List ℕ) × IsFrontOf front taken × some (lines_of front) sent
-- the replies to all lines before the one that stopped it
TellsOutput some all much left taken sent (Err (BadLine line)) =
    HoldsOfWhole left taken
    (λ input. AnswersFirst some (StopsBeforeLine line) (lines_of input) sent)
TellsOutput some all much left taken sent (Err (LineLong line)) =
    HoldsOfWhole left taken
    (λ input. AnswersFirst some (StopsBeforeLine line) (lines_of input) sent)
TellsOutput some all much left taken sent (Err TooMuch) =
    HoldsOfWhole left taken (λ input. AnswersFirst some much (lines_of input) sent)

module _ {P : Type 0} (answer : P → List ℕ → Result (List ℕ × P) LineRefusal) where
  -- By a player: these lines are answered so.
  abbrev pub AnswersAllLines : P → List (List ℕ) → List ℕ → Type 0
  AnswersAllLines player lines written =
      (next : P) × (outcome_of_lines answer 1 player lines ≡ play_outcome written (Ok next))

  -- They are answered, and the last lines are written behind.
  pub record AnswersWholeInput (closing : P → Option (List ℕ)) (player : P) (lines : List (List ℕ))
      (written : List ℕ) : Type 0 where
    pub next : P
    pub said : List ℕ
    pub last : List ℕ
    pub ran : outcome_of_lines answer 1 player lines ≡ play_outcome said (Ok next)
    pub closed : closing next ≡ Some last
    pub whole : written ≡ said ++ last

  -- The lines are answered, and the next is refused as one too many.
  pub record RefusesMuch (player : P) (done rest : List (List ℕ)) : Type 0 where
    pub next : P
    pub said : List ℕ
    pub line : List ℕ
    pub more : List (List ℕ)
    pub ran : outcome_of_lines answer 1 player done ≡ play_outcome said (Ok next)
    pub follows : rest ≡ line ∷ more
    pub refused : answer next line ≡ Err Much

-- what stands behind the last line is reported, where all lines were answered
abbrev pub IsReported : {P R F : Type 0} → (P → R → Type 0) → P → Result R F → Type 0
IsReported reports next (Ok report) = reports next report
IsReported reports next (Err fault) = Unit {0}

-- What a command over events does with an input.

-- What it took and wrote fits its answer line by line, and as a whole tells the headline; and what
-- stands behind the last line is reported.
pub record PlaysEvents {G H E S R T : Type 0} (p : EventPlayer G H E S)
    (Holds : H → List E → (List E → S) → Type 0) (heads : HeadStage G R) (s : EventStage R)
    (reports : LineStage G R → T → Type 0) (old new : StreamStanding)
    (result : Result T ReplayFault) : Type 0 where
  pub next : LineStage G R
  pub plays : PlaysInput (line_answer heads s) (closing_lines heads s) (AtHeading p.start) next old
      new result
  pub tells : TellsEvents p Holds old new [] result
  pub reported : IsReported reports next result
