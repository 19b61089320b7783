-- A session, by its steps. With it: what the objects of a session tell.
use Rattle.std.specs.Io.KnownBytes.{Appends, Consumes, IsAtEnd}
use Rattle.std.specs.Prelude.{ℕ, List, Option, ◌≡◌, ◌≢◌, [], ◌∷◌, ◌++◌, codes, None, Some, Result, Ok, Err, ◌⊎◌, ◌+◌, ◌<◌, ◌≤◌, length}
use Rattle.mm_base.specs.declared.replay_fault.ReplayFault.TheVariants.{Memory}
use Rattle.mm_model.specs.declared.refusal.Refusal.TheVariants as refusal
use Rattle.mm_schedule.specs.declared.reply.Cause.TheVariants as cause
use Rattle.mm_host.specs.Below.{Standing, StoreStanding, HostStanding, joined_lines, longest_request, IsLineFront, IsLong, WriteFault}
use Rattle.mm_host.specs.Below.{ReadFault, LineLong, BadLine, TooMuch, Variant, Meaning, Answer, Refusal, cause_text, told_line, Cause}
use Rattle.mm_host.specs.Below.{IsFrontOf, AsksNextRequest, HostResumes, HostFault, Memory, Refused, Resumed, Answered}
use Rattle.mm_host.specs.declared.fault.SessionFault.{SessionFault}
use Rattle.mm_host.specs.declared.fault.SessionFault.TheVariants.{Host, Lines}

-- What the objects of a session tell.

-- what stands on the platform, what the store keeps, what is left of the input, and what the output
-- received
pub record SessionStanding : Type 0 where
  pub standing : Standing
  pub kept : StoreStanding
  pub left : Option (List ℕ)
  pub received : Option (List ℕ)

abbrev pub session_standing : Standing → StoreStanding
    → (left : Option (List ℕ)) (received : Option (List ℕ)) → SessionStanding
session_standing standing kept left received =
    record { standing = standing; kept = kept; left = left; received = received }

-- of these, what its host's devices tell
abbrev pub host_of : SessionStanding → HostStanding
host_of at = record { standing = at.standing; kept = at.kept }

-- A session, by its steps: what it writes, the lines that it serves, and each turn.

-- What a session writes.

-- the word of a refusal that is told
abbrev pub told_cause : Refusal → Option Cause
told_cause refusal.Form = Some cause.Form
told_cause refusal.Kind = Some cause.Kind
told_cause refusal.State = Some cause.State
told_cause refusal.Tag = Some cause.Tag
told_cause refusal.Stale = Some cause.Stale
told_cause refusal.Full = Some cause.Full
told_cause _ = None

-- the line `no CAUSE`
abbrev pub refusal_text : Option Cause → List ℕ
refusal_text None = []
refusal_text (Some why) = codes "no " ++ cause_text why ++ 10 ∷ []

-- what is written for what a recovery or a line came to: the line of its answer, or of its refusal
abbrev pub reply_text : Result Resumed HostFault → List ℕ
reply_text (Ok (Answered answer)) = told_line answer.again answer.position answer.output
reply_text (Err (Refused why)) = refusal_text (told_cause why)
reply_text _ = []

abbrev pub session_result_of : Result Resumed HostFault → Result Resumed SessionFault
session_result_of (Ok resumed) = Ok resumed
session_result_of (Err fault) = Err (Host fault)

-- All of the text went out, and what came is handed on; or the output failed, and a front of it
-- went out.
abbrev pub SendsReply : Result Resumed HostFault → List ℕ → Result Resumed SessionFault → Type 0
SendsReply came sent result =
    ((sent ≡ reply_text came) × (result ≡ session_result_of came))
    ⊎ ((result ≡ Err (Lines WriteFault)) × (reply_text came ≢ [])
    × IsFrontOf sent (reply_text came))

pub record TellsReply (came : Result Resumed HostFault) (received received' : Option (List ℕ))
    (result : Result Resumed SessionFault) : Type 0 where
  pub sent : List ℕ
  pub appended : Appends received received' sent
  pub says : SendsReply came sent result

-- The lines that a session serves, one after another. Nothing is asked for these steps.

-- where a session stands: what its host tells, and what it came to last
pub record SessionPlace : Type 0 where
  pub host : HostStanding
  pub last : Resumed

-- where it stands behind what it came to last
abbrev pub place_of : SessionStanding → Resumed → SessionPlace
place_of at last = record { host = host_of at; last = last }

-- a line, and the answer to it
pub record ServedCall : Type 0 where
  pub line : List ℕ
  pub answer : Answer

-- the lines that were served, and what was written for them
abbrev pub served_lines : List ServedCall → List (List ℕ)
served_lines [] = []
served_lines (c ∷ calls) = c.line ∷ served_lines calls

abbrev pub replies_to : List ServedCall → List ℕ
replies_to [] = []
replies_to (c ∷ calls) =
    told_line c.answer.again c.answer.position c.answer.output ++ replies_to calls

-- the most lines
abbrev pub most_lines : ℕ
most_lines = 1000000

-- Nothing more is asked or written.
pub record IsAtRest (at : SessionPlace) (new : HostStanding) (sent : List ℕ) : Type 0 where
  pub still : new ≡ at.host
  pub nothing : sent ≡ []

-- The bytes begin with a line, its LF and what is held behind.
pub record BytesBeginWith (bytes line held : List ℕ) : Type 0 where
  pub cut : bytes ≡ line ++ 10 ∷ held
  pub within : IsLineFront longest_request line

-- a session's end, as a turn answers it
abbrev pub turn_answer_of : Result Unit SessionFault → Result (Option Resumed) SessionFault
turn_answer_of (Ok _) = Ok None
turn_answer_of (Err fault) = Err fault

-- What waited came to a fault, or its reply isn't written whole; no line is read.
pub record SessionStopsAtOnce (begun : Result Resumed HostFault) (taken sent : List ℕ)
    (result : Result Unit SessionFault) : Type 0 where
  pub fault : SessionFault
  pub says : SendsReply begun sent (Err fault)
  pub stops : result ≡ Err fault
  pub nothing : taken ≡ []

module _ (variant : Variant) (meaning : Meaning) where
  -- The line is asked and answered, and the session goes on.
  pub record ServesFirstCall (from : SessionPlace) (c : ServedCall) (goes : SessionPlace
      → Type 0) : Type 0 where
    pub within : IsLineFront longest_request c.line
    pub host : HostStanding
    pub asks : AsksNextRequest variant meaning from.host host from.last c.line
        (Ok (Answered c.answer))
    pub rest : goes (record { host = host; last = Answered c.answer })

  -- These lines are asked one after another, each with the snapshot of the answer before, and
  -- answered so.
  abbrev pub ServesCalls : SessionPlace → List ServedCall → SessionPlace → Type 0
  ServesCalls from [] to = to ≡ from
  ServesCalls from (c ∷ calls) to = ServesFirstCall from c (λ next. ServesCalls next calls to)

  -- The line of this number is asked, and what comes is told.
  pub record AsksAndTells (at : SessionPlace) (new : HostStanding)
      (received received' : Option (List ℕ)) (line : List ℕ)
      (result : Result Resumed SessionFault) : Type 0 where
    pub came : Result Resumed HostFault
    pub asks : AsksNextRequest variant meaning at.host new at.last line came
    pub tells : TellsReply came received received' result

  -- One turn, where the line of this number would be next: it is read and served, or the session
  -- ends.
  module _ (number : ℕ) (at : SessionPlace) (new : HostStanding) where
    -- The line in hand is asked, and comes to a fault; or its reply isn't written whole.
    pub record SessionStopsInLine (more sent : List ℕ) (fault : SessionFault) : Type 0 where
      pub line : List ℕ
      pub held : List ℕ
      pub begins : BytesBeginWith more line held
      pub few : number ≤ most_lines
      pub came : Result Resumed HostFault
      pub asks : AsksNextRequest variant meaning at.host new at.last line came
      pub says : SendsReply came sent (Err fault)

    -- How the session stops; `more` was taken of the input behind the lines before this one.
    abbrev pub SessionStops : Option (List ℕ) → List ℕ → List ℕ → SessionFault → Type 0
    -- the source failed before the line's LF
    SessionStops left more sent (Lines ReadFault) =
        IsAtRest at new sent × IsLineFront longest_request more
    -- the input ended within the line
    SessionStops left more sent (Lines (BadLine line)) =
        IsAtRest at new sent × (line ≡ number) × IsLineFront longest_request more
        × (0 < length more) × IsAtEnd left
    -- more bytes came than a line may have
    SessionStops left more sent (Lines (LineLong line)) =
        IsAtRest at new sent × (line ≡ number) × IsLong longest_request more
    -- the line is one too many
    SessionStops left more sent (Lines TooMuch) =
        IsAtRest at new sent × (number ≡ most_lines + 1) × (line : List ℕ) × (held : List ℕ)
        × BytesBeginWith more line held
    -- the host alone wants memory
    SessionStops left more sent (Lines Memory) = ⊥
    -- the line was asked
    SessionStops left more sent fault = SessionStopsInLine more sent fault

    -- The line was answered, and the answer told.
    pub record ServesLine (bytes held sent : List ℕ) (next : Resumed) : Type 0 where
      pub line : List ℕ
      pub begins : BytesBeginWith bytes line held
      pub few : number ≤ most_lines
      pub answer : Answer
      pub answered : next ≡ Answered answer
      pub asks : AsksNextRequest variant meaning at.host new at.last line (Ok (Answered answer))
      pub told : sent ≡ reply_text (Ok (Answered answer))

    -- How the turn went, by its answer: `bytes` are those held before and those taken, and `held`
    -- those held after. None: the input ended behind a whole line.
    abbrev pub TurnGoes : Option (List ℕ) → List ℕ → List ℕ → List ℕ
        → Result (Option Resumed) SessionFault → Type 0
    TurnGoes left bytes held sent (Ok (Some next)) = ServesLine bytes held sent next
    TurnGoes left bytes held sent (Ok None) =
        IsAtRest at new sent × (bytes ≡ []) × IsAtEnd left
    TurnGoes left bytes held sent (Err fault) = SessionStops left bytes sent fault

    -- What was sent in a turn, and how it went.
    pub record TurnSends (left : Option (List ℕ)) (bytes held : List ℕ)
        (received received' : Option (List ℕ))
        (result : Result (Option Resumed) SessionFault) : Type 0 where
      pub sent : List ℕ
      pub appended : Appends received received' sent
      pub went : TurnGoes left bytes held sent result

  -- A turn behind what the last one came to: it takes what it needs of the input behind the bytes
  -- that are held, and leaves some held.
  pub record ServesNext (number : ℕ) (last : Resumed) (old new : SessionStanding)
      (held held' : List ℕ) (result : Result (Option Resumed) SessionFault) : Type 0 where
    pub taken : List ℕ
    pub consumed : Consumes old.left new.left taken
    pub turns : TurnSends number (place_of old last) (host_of new) new.left (held ++ taken) held'
        old.received new.received result

  -- Some lines are served from where the session stands, of which the first would have this number,
  -- and there it ends; `bytes` were held before or taken.
  pub record ServesAllLines (number : ℕ) (from : SessionPlace) (new : HostStanding)
      (left : Option (List ℕ)) (bytes sent : List ℕ)
      (result : Result Unit SessionFault) : Type 0 where
    pub calls : List ServedCall
    pub few : length calls + number ≤ most_lines + 1
    pub at : SessionPlace
    pub serves : ServesCalls from calls at
    pub more : List ℕ
    pub last : List ℕ
    pub took : bytes ≡ joined_lines (served_lines calls) ++ more
    pub wrote : sent ≡ replies_to calls ++ last
    pub ends : TurnGoes (length calls + number) at new left more [] last (turn_answer_of result)

  -- The lines of an input are served, where some bytes are held; with what was taken and written
  -- for them.
  pub record ServesInput (number : ℕ) (last : Resumed) (old new : SessionStanding)
      (held : List ℕ) (result : Result Unit SessionFault) : Type 0 where
    pub taken : List ℕ
    pub sent : List ℕ
    pub consumed : Consumes old.left new.left taken
    pub appended : Appends old.received new.received sent
    pub lines : ServesAllLines number (place_of old last) (host_of new) new.left (held ++ taken)
        sent result

  -- What waited is told, and the lines are served.
  pub record SessionGoesOn (begun : Result Resumed HostFault) (middle new : HostStanding)
      (left : Option (List ℕ)) (taken sent : List ℕ)
      (result : Result Unit SessionFault) : Type 0 where
    pub first : Resumed
    pub begins : begun ≡ Ok first
    pub replies : List ℕ
    pub wrote : sent ≡ reply_text begun ++ replies
    pub lines : ServesAllLines 1 (record { host = middle; last = first }) new left taken replies
        result

  -- It stops at once, or it goes on, as what waited came to.
  abbrev pub SessionGoesAfterResume : Result Resumed HostFault → HostStanding → HostStanding
      → Option (List ℕ) → List ℕ → List ℕ → Result Unit SessionFault → Type 0
  SessionGoesAfterResume begun middle new left taken sent result =
      ((new ≡ middle) × SessionStopsAtOnce begun taken sent result)
      ⊎ SessionGoesOn begun middle new left taken sent result

  -- A session: it goes on after a stop, and then answers each line of its input before it reads the
  -- next. These bytes were taken of the input, and those written.
  pub record IsSession (old new : SessionStanding)
      (result : Result Unit SessionFault) : Type 0 where
    pub taken : List ℕ
    pub sent : List ℕ
    pub consumed : Consumes old.left new.left taken
    pub appended : Appends old.received new.received sent
    pub begun : Result Resumed HostFault
    pub middle : HostStanding
    pub resumes : HostResumes variant meaning (host_of old) middle begun
    pub goes : SessionGoesAfterResume begun middle (host_of new) new.left taken sent result
