-- How the program ends, and what it writes last. With it: what a command writes.
use Rattle.std.specs.Fmt.{decimal}
use Rattle.std.specs.Prelude.{ℕ, List, [], ◌∷◌, ◌++◌, codes, Result, Ok, Err, ◌≡◌, Option}
use Rattle.mm_bytes.specs.Limits.{CountsFaults}
use Rattle.mm_bytes.specs.declared.fault.WriteFault as write
use Rattle.mm_base.specs.Streams.{SinkSends}
use Rattle.mm_base.specs.declared.replay_fault.ReplayFault.{ReplayFault}
use Rattle.mm_base.specs.declared.replay_fault.ReplayFault.TheVariants as fault
use Rattle.mm_status.specs.declared.status.Status.{Status}
use Rattle.mm_status.specs.declared.status.Status.TheVariants.{Done, Usage, ReadFault, WriteFault, Memory, PlatformFault, StoreFault, Blank}
use Rattle.mm_status.specs.declared.status.Status.TheVariants.{Already, Cell, Lost, Refused, BadLine, LineLong, TooMuch, Short, Kind}

-- the exit status
abbrev pub exit_code : Status → ℕ
exit_code Done = 0
exit_code Usage = 2
exit_code ReadFault = 3
exit_code WriteFault = 4
exit_code Memory = 5
exit_code PlatformFault = 6
exit_code StoreFault = 7
exit_code Blank = 8
exit_code Already = 9
exit_code Cell = 10
exit_code Lost = 11
exit_code (Refused why) = 12
exit_code (BadLine line) = 13
exit_code (LineLong line) = 14
exit_code TooMuch = 15
exit_code (Short got) = 16
exit_code Kind = 17

-- how the program ends where a command stopped so
abbrev pub status_at : ReplayFault → Status
status_at fault.Memory = Memory
status_at fault.ReadFault = ReadFault
status_at fault.WriteFault = WriteFault
status_at (fault.BadLine line) = BadLine line
status_at (fault.LineLong line) = LineLong line
status_at fault.TooMuch = TooMuch

-- how the program ends by the answer of a command that plays lines
abbrev pub status_of : {T : Type 0} → Result T ReplayFault → Status
status_of (Ok report) = Done
status_of (Err fault) = status_at fault

-- these words, and the end of a line
abbrev pub line_of : List ℕ → List ℕ
line_of words = words ++ 10 ∷ []

-- what is written last: nothing where all was done, and where the output failed
abbrev pub stop_line : Status → List ℕ
stop_line Done = []
stop_line WriteFault = []
stop_line Usage = line_of (codes "stop usage")
stop_line ReadFault = line_of (codes "stop read")
stop_line Memory = line_of (codes "stop memory")
stop_line PlatformFault = line_of (codes "stop platform")
stop_line StoreFault = line_of (codes "stop store")
stop_line Blank = line_of (codes "stop blank")
stop_line Already = line_of (codes "stop already")
stop_line Cell = line_of (codes "stop cell")
stop_line Lost = line_of (codes "stop lost")
stop_line (Refused why) = line_of (codes "stop refused")
stop_line (BadLine line) = codes "stop line " ++ line_of (decimal line)
stop_line (LineLong line) = codes "stop long " ++ line_of (decimal line)
stop_line TooMuch = line_of (codes "stop much")
stop_line (Short got) = line_of (codes "stop short")
stop_line Kind = line_of (codes "stop kind")

-- no number stands in its stop line
abbrev pub HasFixedLine : Status → Type 0
HasFixedLine (BadLine line) = ⊥
HasFixedLine (LineLong line) = ⊥
HasFixedLine _ = Unit {0}

-- it ended with no line refused: all was done, or memory was wanting, or the input or the output
-- failed
abbrev pub EndsUnrefused : Status → Type 0
EndsUnrefused Done = Unit {0}
EndsUnrefused ReadFault = Unit {0}
EndsUnrefused WriteFault = Unit {0}
EndsUnrefused Memory = Unit {0}
EndsUnrefused _ = ⊥

-- What a command writes: its text, or the stop line of the status that it ended with.

-- The status's stop line went out, and the output's count is as before; or the output failed within
-- it, and its count rose. Where there is no stop line, nothing was tried.
pub record TellsStop (received received' : Option (List ℕ)) (writes writes' : ℕ)
    (status : Status) : Type 0 where
  pub result : Result (Unit {0}) write.WriteFault
  pub sends : SinkSends received received' (stop_line status) result
  pub counts : CountsFaults writes writes' result
  pub done : status ≡ Done → writes' ≡ writes
  pub failed : status ≡ WriteFault → writes' ≡ writes

-- how the program ends by a write's result
abbrev pub status_by : Result (Unit {0}) write.WriteFault → Status
status_by (Ok done) = Done
status_by (Err fault) = WriteFault

-- A text was written, and no stop line: Done where all of it went out, WriteFault where the output
-- failed within it.
pub record WritesText (text : List ℕ) (received received' : Option (List ℕ)) (writes writes' : ℕ)
    (status : Status) : Type 0 where
  pub result : Result (Unit {0}) write.WriteFault
  pub sends : SinkSends received received' text result
  pub counts : CountsFaults writes writes' result
  pub ends : status ≡ status_by result

-- a status with its stop line
pub record StopsAs (end : Status) (received received' : Option (List ℕ)) (writes writes' : ℕ)
    (status : Status) : Type 0 where
  pub ends : status ≡ end
  pub stops : TellsStop received received' writes writes' end

-- what was to be told: a text where all was done, and otherwise a status, with its stop line
abbrev pub TellsLines : Result (List ℕ) Status
    → (received received' : Option (List ℕ)) (writes writes' : ℕ) → Status → Type 0
TellsLines (Ok text) received received' writes writes' status =
    WritesText text received received' writes writes' status
TellsLines (Err end) received received' writes writes' status =
    StopsAs end received received' writes writes' status
