-- A command over events, line by line: the lines of its heading, and then an event in each line,
-- until one is too many. With it: a command among its events, as contracts see it; where a command
-- over events stands, as contracts see it; a stage that shows what a player of events does.
use Rattle.std.specs.Prelude.{◌≡◌, ℕ, ◌+◌, ◌-◌, ◌^◌, min, Bool, ◌||◌, nat_le, nat_lt, List, [], length, Option, None, Some, Result, Ok, Err}
use Rattle.std.specs.Prelude.{◌⊎◌, if◌then◌else◌, true, false, ◌∷◌, ◌++◌}
use Rattle.mm_bytes.specs.Limits.{most_events}
use Rattle.mm_play.specs.declared.commands.CommandPhase.{CommandPhase}
use Rattle.mm_play.specs.declared.commands.CommandPhase.TheVariants.{Heading, Events}
use Rattle.mm_play.specs.declared.player.LineRefusal.{LineRefusal}
use Rattle.mm_play.specs.declared.player.LineRefusal.TheVariants.{Bad, Much}
use Rattle.mm_play.specs.declared.player.ReplyFault.{ReplyFault}
use Rattle.mm_play.specs.declared.player.ReplyFault.TheVariants as fault
use Rattle.mm_play.specs.declared.progress.Progress.{Progress}
use Rattle.mm_play.specs.Headline.{HeadingStep, More, Begins, most_kept_bytes, EventPlayer}

-- What a stage does with events: the reply to the event that a line spells, if it spells one, and
-- the stage behind it; how many events were answered; how many bytes it keeps; what it writes last.
pub record EventStage (R : Type 0) : Type 0 where
  pub answer : R → List ℕ → Option (List ℕ × R)
  pub events : R → ℕ
  pub kept : R → ℕ
  pub last : R → List ℕ

-- How events are read, answered and gone on from, where `R` stands between two of them.
pub record EventSteps (E R : Type 0) : Type 0 where
  pub event_in : R → List ℕ → Option E
  pub reply : R → E → List ℕ
  pub after : R → E → R

-- the answer to a line, by the event in it
abbrev pub answer_by : {E R : Type 0} → EventSteps E R → R → Option E → Option (List ℕ × R)
answer_by steps r None = None
answer_by steps r (Some event) = Some (steps.reply r event, steps.after r event)

abbrev pub answer_to : {E R : Type 0} → EventSteps E R → R → List ℕ → Option (List ℕ × R)
answer_to steps r line = answer_by steps r (steps.event_in r line)

-- What a heading does with its lines: where each leads, if it is one; and how many more there may
-- be, at most.
pub record HeadStage (H R : Type 0) : Type 0 where
  pub behind : H → List ℕ → Option (HeadingStep H R)
  pub left : H → ℕ

-- what stands between two events: the stage, and the bytes of the lines read
pub record PlayState (R : Type 0) : Type 0 where
  pub stage : R
  pub read : ℕ

abbrev pub play_state : {R : Type 0} → R → ℕ → PlayState R
play_state stage read = record { stage = stage; read = read }

-- among the lines of the heading, or among the events
pub data LineStage (H R : Type 0) : Type 0 where
  AtHeading : H → LineStage H R
  InEvents : PlayState R → LineStage H R

-- what 64 bits tell of a number
abbrev pub number_in_64_bits : ℕ → ℕ
number_in_64_bits n = min n (2 ^ 64 - 1)

module _ {R : Type 0} (s : EventStage R) where
  -- one event more would be too many, or its line too many bytes
  abbrev pub is_over : PlayState R → List ℕ → Bool
  is_over r line = nat_le most_events (s.events r.stage)
      || nat_lt most_kept_bytes (r.read + length line + s.kept r.stage)

  -- an event is answered, unless it is one too many
  abbrev pub event_answer : {H : Type 0} → PlayState R → List ℕ → Option (List ℕ × R)
      → Result (List ℕ × LineStage H R) LineRefusal
  event_answer r line None = Err Bad
  event_answer r line (Some found) =
      if is_over r line then Err Much
      else Ok (found.0, InEvents (play_state found.1 (r.read + length line)))

-- a line of the heading is answered by nothing
abbrev pub head_answer : {H R : Type 0} → Option (HeadingStep H R)
    → Result (List ℕ × LineStage H R) LineRefusal
head_answer None = Err Bad
head_answer (Some (More heading)) = Ok ([], AtHeading heading)
head_answer (Some (Begins stage)) = Ok ([], InEvents (play_state stage 0))

module _ {H R : Type 0} (heads : HeadStage H R) (s : EventStage R) where
  -- the reply to a line
  abbrev pub line_answer : LineStage H R → List ℕ → Result (List ℕ × LineStage H R) LineRefusal
  line_answer (AtHeading heading) line = head_answer (heads.behind heading line)
  line_answer (InEvents r) line = event_answer s r line (s.answer r.stage line)

  -- the last lines, which need the whole heading before them
  abbrev pub closing_lines : LineStage H R → Option (List ℕ)
  closing_lines (AtHeading heading) = None
  closing_lines (InEvents r) = Some (s.last r.stage)

  -- how many more lines can be answered
  abbrev pub remaining_lines : LineStage H R → ℕ
  remaining_lines (AtHeading heading) = most_events + 1 + heads.left heading
  remaining_lines (InEvents r) = most_events - s.events r.stage

-- Memory was wanting for the event that a line spells.
abbrev pub EventLacksMemory : {E R : Type 0} → EventSteps E R → (R → E → R → Type 0) → R → List ℕ
    → R
    → Type 0
EventLacksMemory steps wants old line new =
    (event : _) × (steps.event_in old line ≡ Some event) × wants old event new

-- Memory was wanting for a line: to read it, and nothing has changed; for its event, as `wants`
-- says; or for its reply, and the event was played.
abbrev pub LineLacksMemory : {R : Type 0} → Type 0 → Option (List ℕ × R) → R → R → Type 0
LineLacksMemory wants answer old new =
    (new ≡ old) ⊎ (wants ⊎ ((reply : List ℕ) × (answer ≡ Some (reply, new))))

-- The event that a line spells was answered; where it spells none, nothing has changed.
abbrev pub StageAnswersEvent : {R : Type 0} → Type 0 → Option (List ℕ × R) → R → R
    → Result (List ℕ) ReplyFault → Type 0
StageAnswersEvent wants answer old new (Ok reply) = answer ≡ Some (reply, new)
StageAnswersEvent wants answer old new (Err fault.Memory) = LineLacksMemory wants answer old new
StageAnswersEvent wants answer old new (Err (fault.Refused Bad)) = (answer ≡ None) × (new ≡ old)
StageAnswersEvent wants answer old new (Err (fault.Refused Much)) = ⊥

-- A line of the heading was taken: it is the last, and the events begin; or more are to come.
abbrev pub TakesHead : {H R : Type 0} → Option (HeadingStep H R) → H → Result (Option R) ReplyFault
    → Type 0
TakesHead found new (Ok None) = found ≡ Some (More new)
TakesHead found new (Ok (Some stage)) = found ≡ Some (Begins stage)
TakesHead found new (Err fault.Memory) = Unit {0}
TakesHead found new (Err (fault.Refused Bad)) = found ≡ None
TakesHead found new (Err (fault.Refused Much)) = ⊥

-- A command among its events, as contracts see it.

-- what stands
abbrev pub play_state_of : {S : Type 0} → Progress S → PlayState S
play_state_of p = play_state p.stage p.read

-- why a line is refused that is one too many, if it spells an event
abbrev pub IsRefusal : {S : Type 0} → Option (List ℕ × S) → ReplyFault → Type 0
IsRefusal answer fault.Memory = Unit {0}
IsRefusal answer (fault.Refused Bad) = answer ≡ None
IsRefusal answer (fault.Refused Much) = (found : List ℕ × _) × (answer ≡ Some found)

-- Memory was wanting for a line: it isn't counted, and where it would be one too many it isn't
-- played either.
pub record LacksMemory {S : Type 0} (s : EventStage S) (wants : S → List ℕ → S → Type 0)
    (line : List ℕ) (old new : PlayState S) : Type 0 where
  pub uncounted : new.read ≡ old.read
  pub unplayed : is_over s old line ≡ true → new.stage ≡ old.stage
  pub lacks : LineLacksMemory (wants old.stage line new.stage) (s.answer old.stage line) old.stage
      new.stage

-- A line was answered, or refused, and then nothing has changed; or memory was wanting.
abbrev pub RepliesToLine : {S : Type 0} → EventStage S → (S → List ℕ → S → Type 0) → List ℕ
    → PlayState S → PlayState S → Result (List ℕ) ReplyFault → Type 0
RepliesToLine s wants line old new (Ok reply) =
    (is_over s old line ≡ false) × (stage : _) × (s.answer old.stage line ≡ Some (reply, stage))
    × (new ≡ play_state stage (old.read + length line))
RepliesToLine s wants line old new (Err fault.Memory) = LacksMemory s wants line old new
RepliesToLine s wants line old new (Err (fault.Refused Bad)) =
    (s.answer old.stage line ≡ None) × (new ≡ old)
RepliesToLine s wants line old new (Err (fault.Refused Much)) =
    (is_over s old line ≡ true) × (found : _) × (s.answer old.stage line ≡ Some found)
    × (new ≡ old)

-- Where a command over events stands, as contracts see it.

abbrev pub stage_at : {H S : Type 0} → CommandPhase H S → LineStage H S
stage_at (Heading heading) = AtHeading heading
stage_at (Events progress) = InEvents (play_state_of progress)

-- A stage that shows what a player of events does.

module _ {E R : Type 0} (steps : EventSteps E R) where
  -- what stands behind these events, and the replies to them
  abbrev pub state_behind_events : R → List E → R
  state_behind_events r [] = r
  state_behind_events r (event ∷ events) = state_behind_events (steps.after r event) events

  abbrev pub replies : R → List E → List ℕ
  replies r [] = []
  replies r (event ∷ events) = steps.reply r event ++ replies (steps.after r event) events

  -- A stage answers a line by the event in it, reads events on as before, and counts them.
  pub record TakesEvents (s : EventStage R) : Type 0 where
    pub answers : (r : R) (line : List ℕ) → s.answer r line ≡ answer_to steps r line
    pub reads : (r : R) (event : E) → steps.event_in (steps.after r event) ≡ steps.event_in r
    pub counts : (r : R) (event : E) → s.events (steps.after r event) ≡ s.events r + 1

-- where a heading leads, with what begins behind its header
abbrev pub heading_step_by : {G H R : Type 0} → (H → R) → Option (HeadingStep G H)
    → Option (HeadingStep G R)
heading_step_by begun None = None
heading_step_by begun (Some (More at)) = Some (More at)
heading_step_by begun (Some (Begins header)) = Some (Begins (begun header))

-- The stage that begins behind each header shows of events what the player shows.
pub record StageShows {G H E S R : Type 0} (p : EventPlayer G H E S) (heads : HeadStage G R)
    (s : EventStage R) (steps : EventSteps E R) (begun : H → R)
    (shown : H → List E → S) : Type 0 where
  pub takes : TakesEvents steps s
  pub leads : (at : G) (line : List ℕ) → heads.behind at line
      ≡ heading_step_by begun (p.head at line)
  pub reads : (header : H) → steps.event_in (begun header) ≡ p.event_in header
  pub first : (header : H) → s.events (begun header) ≡ 0
  pub text : (header : H) (events : List E)
      → p.text events (shown header events) ≡ replies steps (begun header) events
  pub last : (header : H) (events : List E)
      → p.last (shown header events) ≡ s.last (state_behind_events steps (begun header) events)
  pub kept : (header : H) (events : List E)
      → p.kept (shown header events) ≡ s.kept (state_behind_events steps (begun header) events)
