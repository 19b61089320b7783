-- Sources and sinks over memory, and what is said of a whole write. With it: the bytes that a line
-- reader holds; what one call of a line reader's `next` does.
use Rattle.std.specs.Io.KnownBytes.{Appends, IsAtEnd}
use Rattle.std.specs.Prelude.{◌≡◌, ◌≢◌, ℕ, ◌-◌, List, [], ◌++◌, take, drop, Option, Some, Result, Ok, Err, OnOk, slice_range, ◌<◌, ◌∷◌}
use Rattle.std.specs.Prelude.{length}
use Rattle.mm_bytes.specs.Limits.{next_count}
use Rattle.mm_bytes.specs.declared.fault.Failed.{Failed}
use Rattle.mm_bytes.specs.declared.fault.WriteFault.{WriteFault}
use Rattle.mm_base.specs.declared.lines.HeldBytes.{HeldBytes}
use Rattle.mm_base.specs.declared.lines.LineFault.{LineFault}
use Rattle.mm_base.specs.declared.lines.LineFault.TheVariants.{ReadFault, LineLong}
use Rattle.mm_base.specs.declared.lines.Read.{Read}
use Rattle.mm_base.specs.declared.lines.Read.TheVariants.{Line, Tail, End}
use Rattle.mm_base.specs.Input.{IsLong, IsLineFront, TakesHeldBytes}

-- a source over memory: the bytes left, the most that one call gives, the numbers of the calls that
-- fail, and the calls and faults so far
pub record Supply : Type 0 where
  pub left : List ℕ
  pub piece : ℕ
  pub failing : List ℕ
  pub calls : ℕ
  pub faults : ℕ

-- a source that no call was made of
abbrev pub supply_of : List ℕ → List ℕ → ℕ → Supply
supply_of content failing piece =
    record { left = content; piece = piece; failing = failing; calls = 0; faults = 0 }

-- the source after a call with this result
abbrev pub supply_after_take : Supply → Result ℕ Failed → Supply
supply_after_take s (Ok count) = record s { left = drop count s.left; calls = next_count s.calls }
supply_after_take s (Err _) = record s { calls = next_count s.calls; faults = next_count s.faults }

-- a sink over memory: the bytes received, the room that is left, the numbers of the calls that
-- fail, and the calls and faults so far
pub record Intake : Type 0 where
  pub received : List ℕ
  pub room : ℕ
  pub failing : List ℕ
  pub calls : ℕ
  pub faults : ℕ

-- a sink that no call was made of
abbrev pub intake_of : ℕ → List ℕ → Intake
intake_of room failing =
    record { received = []; room = room; failing = failing; calls = 0; faults = 0 }

-- the sink after a call with this piece and this result
abbrev pub intake_after_give : Intake → List ℕ → Result ℕ Failed → Intake
intake_after_give s piece (Ok count) =
    record s {
      received = s.received ++ take count piece;
      room = s.room - count;
      calls = next_count
          s.calls;
    }
intake_after_give s piece (Err _) =
    record s { calls = next_count s.calls; faults = next_count s.faults }

-- what went out of these bytes: all of them after Ok, and else a prefix
pub record SinkSends (received now : Option (List ℕ)) (bytes : List ℕ)
    (result : Result Unit WriteFault) : Type 0 where
  pub sent : List ℕ
  pub unsent : List ℕ
  pub parts : bytes ≡ sent ++ unsent
  pub appended : Appends received now sent
  pub whole : OnOk result (unsent ≡ [])

-- not all of these bytes went out
abbrev pub IsCutShort : Option (List ℕ) → Option (List ℕ) → List ℕ → Type 0
IsCutShort received now bytes =
    (before : List ℕ) → received ≡ Some before → now ≢ Some (before ++ bytes)

-- what went out so far of these bytes, with this rest to go
pub record FrontGoesOut (received now : Option (List ℕ)) (bytes rest : List ℕ) : Type 0 where
  pub sent : List ℕ
  pub parts : bytes ≡ sent ++ rest
  pub appended : Appends received now sent

-- The bytes that a line reader holds.

abbrev pub held_bytes : HeldBytes → List ℕ
held_bytes held = slice_range held.buffer.items held.start held.end

-- What one call of a line reader's `next` does.

-- the bytes that a call gives out: a line and its line feed
abbrev pub said_bytes : Result Read LineFault → List ℕ
said_bytes (Ok (Line line)) = line.now ++ 10 ∷ []
said_bytes (Ok Tail) = []
said_bytes (Ok End) = []
said_bytes (Err _) = []

-- when each answer comes, by what is held then and whether the source is at its end
abbrev pub NextAnswers : ℕ → Option (List ℕ) → Result Read LineFault → List ℕ → Type 0
NextAnswers limit left (Ok (Line line)) held = IsLineFront limit line.now
NextAnswers limit left (Ok Tail) held = IsLineFront limit held × (0 < length held) × IsAtEnd left
NextAnswers limit left (Ok End) held = (held ≡ []) × IsAtEnd left
NextAnswers limit left (Err ReadFault) held = IsLineFront limit held
NextAnswers limit left (Err LineLong) held = IsLong limit held

-- one call: what it takes of the source, and what it answers
pub record ReadsNextLine (limit : ℕ) (left left' : Option (List ℕ)) (held : List ℕ)
    (result : Result Read LineFault)
    (held' : List ℕ) : Type 0 where
  pub takes : TakesHeldBytes left left' held (said_bytes result) held'
  pub reads : NextAnswers limit left' result held'
