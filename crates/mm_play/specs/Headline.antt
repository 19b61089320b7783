-- The headline of a command over events. With it: how much a command over events keeps; where the
-- line of a heading leads; what the streams of a command tell; of an answer and a refusal; what a
-- player did with a line; a reply that is put behind what stands there already.
use Rattle.std.specs.Io.KnownBytes.{Appends, Consumes, IsAtEnd}
use Rattle.std.specs.List.{AllByRecursion, sum_by}
use Rattle.std.specs.Prelude.{ℕ, List, Option, ◌≡◌, Bool, true, false, ◌||◌, Result, Ok, Err, ◌++◌, ◌≢◌, ◌≤◌, ◌<◌, ◌+◌, [], ◌∷◌, length}
use Rattle.std.specs.Prelude.{map, None, Some, ◌⊎◌}
use Rattle.std.proofs.Common.{refl, ap}
use Rattle.mm_bytes.specs.Limits.{longest_line, most_events}
use Rattle.mm_base.specs.Input.{IsUnbroken, joined_lines}
use Rattle.mm_base.specs.declared.replay_fault.ReplayFault.{ReplayFault}
use Rattle.mm_base.specs.declared.replay_fault.ReplayFault.TheVariants.{Memory, ReadFault, WriteFault, BadLine, LineLong, TooMuch}
use Rattle.mm_play.specs.declared.player.LineRefusal.{LineRefusal}
use Rattle.mm_play.specs.declared.player.ReplyFault.{ReplyFault}
use Rattle.mm_play.specs.declared.player.ReplyFault.TheVariants as fault

-- How much a command over events keeps.

-- the most bytes of event lines, and of what is issued for them, together
abbrev pub most_kept_bytes : ℕ
most_kept_bytes = 268435456

-- Where the line of a heading leads.
-- To more lines of the heading, or to the events, behind what the heading names.

pub data HeadingStep (G H : Type 0) : Type 0 where
  More : G → HeadingStep G H
  Begins : H → HeadingStep G H

-- What the streams of a command tell.

-- what is left of the input, and what the output received
pub record StreamStanding : Type 0 where
  pub left : Option (List ℕ)
  pub received : Option (List ℕ)

abbrev pub stream_standing : (left received : Option (List ℕ)) → StreamStanding
stream_standing left received = record { left = left; received = received }

-- Of an answer and a refusal: what shows that a player's lines are few.

-- no answer and an answer are two
pub no_answer : {Stage : Type 0} (why : LineRefusal) (reply : List ℕ) (next : Stage)
    → (let r : Result (List ℕ × Stage) LineRefusal = Err why in r ≡ Ok (reply, next)) → ⊥
no_answer why reply next h = cc

-- an answer is one
pub same_answer : {Stage : Type 0} (said told : List ℕ × Stage)
    → (let r : Result (List ℕ × Stage) LineRefusal = Ok said in r ≡ Ok told) → said ≡ told
same_answer said told h = cc

-- where an answer leads
pub same_next : {Stage : Type 0} (reply said : List ℕ) (next stage : Stage)
    → (let r : Result (List ℕ × Stage) LineRefusal = Ok (said, stage) in r ≡ Ok (reply, next))
    → stage ≡ next
same_next {Stage} reply said next stage h =
    ap (λ (q : List ℕ × Stage). q.1) (same_answer (said, stage) (reply, next) h)

-- of two tests of which none holds the first one doesn't
pub left_or : (a b : Bool) → (a || b) ≡ false → a ≡ false
left_or true b h = h
left_or false b h = refl

-- What a player did with a line.

-- the first bytes of these
abbrev pub IsFrontOf : List ℕ → List ℕ → Type 0
IsFrontOf front bytes = (rest : List ℕ) × (front ++ rest ≡ bytes)

-- After Ok this is the reply, and the player is the one after it.
abbrev pub GivesReply : {P : Type 0} → Result (List ℕ × P) LineRefusal → P
    → Result (List ℕ) ReplyFault
    → Type 0
GivesReply answer next (Ok reply) = answer ≡ Ok (reply, next)
GivesReply answer next (Err fault.Memory) = Unit {0}
GivesReply answer next (Err (fault.Refused why)) = answer ≡ Err why

-- The headline of a command over events: which lines it answered, and by how it ended what is left
-- and what went out.

-- A player of events, as its lines are read: those of a heading, from its start on, until they name
-- a header, and then an event in each. And what is shown of events: the text that answers them,
-- what is written behind the last, and how many bytes are kept for them.
pub record EventPlayer (G H E S : Type 0) : Type 0 where
  pub start : G
  pub head : G → List ℕ → Option (HeadingStep G H)
  pub event_in : H → List ℕ → Option E
  pub text : List E → S → List ℕ
  pub last : S → List ℕ
  pub kept : S → ℕ

-- Lines of a heading lead from one place in it to another, or to the header that they name.
abbrev pub HeadingLeads : {G H : Type 0} → (G → List ℕ → Option (HeadingStep G H)) → G
    → List (List ℕ)
    → HeadingStep G H → Type 0
HeadingLeads head at [] to = to ≡ More at
HeadingLeads head at (line ∷ []) to = head at line ≡ Some to
HeadingLeads head at (line ∷ next ∷ lines) to =
    (between : _) × (head at line ≡ Some (More between)) × HeadingLeads head between
    (next ∷ lines) to

-- The bytes begin with this line.
abbrev pub IsNextLine : List ℕ → List ℕ → Type 0
IsNextLine line bytes = IsUnbroken line × (more : List ℕ) × (bytes ≡ line ++ 10 ∷ more)

-- Behind these event lines, with so many bytes kept, the line is one too many: it is event 20,001,
-- or all of them have more than 268,435,456 bytes.
abbrev pub IsOver : (before : List (List ℕ)) (kept : ℕ) → List ℕ → Type 0
IsOver before kept line = (most_events ≤ length before)
    ⊎ (most_kept_bytes < sum_by length before + length line + kept)

-- The bytes that an input ends with lack an LF; and where it may end behind the lines before them,
-- there are some.
abbrev pub IsCutShort : (may_end : Bool) → List ℕ → Type 0
IsCutShort true bytes = IsUnbroken bytes × (bytes ≢ [])
IsCutShort false bytes = IsUnbroken bytes

-- By how it ended, what of the bytes taken is left behind so many answered lines. `may_end` says
-- whether the input may end behind these, `IsNone` that a line is none to be answered, `IsMuch`
-- that it is one too many.
abbrev pub IsLeft : {T : Type 0} → (left : Option (List ℕ)) (behind : List ℕ) (answered : ℕ)
    (may_end : Bool) (IsNone IsMuch : List ℕ → Type 0) → Result T ReplayFault → Type 0
-- nothing, and the input is at its end
IsLeft left behind answered may_end IsNone IsMuch (Ok _) = IsAtEnd left × (behind ≡ [])
-- less than a line, and no more than a line may have
IsLeft left behind answered may_end IsNone IsMuch (Err ReadFault) =
    IsUnbroken behind × (length behind ≤ longest_line)
-- whatever there may be
IsLeft left behind answered may_end IsNone IsMuch (Err WriteFault) = Unit {0}
IsLeft left behind answered may_end IsNone IsMuch (Err Memory) = Unit {0}
-- first the line of this number, which is none to be answered; or the input ends before its LF
IsLeft left behind answered may_end IsNone IsMuch (Err (BadLine number)) = (number ≡ answered + 1)
    × (((line : List ℕ) × IsNextLine line behind × IsNone line)
    ⊎ (IsAtEnd left × IsCutShort may_end behind))
-- first the line of this number, which is too long
IsLeft left behind answered may_end IsNone IsMuch (Err (LineLong number)) = (number ≡ answered + 1)
    × (long : List ℕ) × (more : List ℕ) × (behind ≡ long ++ more) × IsUnbroken long
    × (longest_line < length long)
-- first a line that is one too many
IsLeft left behind answered may_end IsNone IsMuch (Err TooMuch) =
    (line : List ℕ) × IsNextLine line behind × IsMuch line

-- By how it ended, what went out, where this text answers the lines, and `last` is what is written
-- last, if the input may end behind them. `stop` is what is written where a play stopped.
abbrev pub TextWentOut : {T : Type 0} → (behind text : List ℕ) (last : Option (List ℕ))
    (stop sent : List ℕ) → Result T ReplayFault → Type 0
-- the text, and the last lines
TextWentOut behind text last stop sent (Ok _) =
    (end : List ℕ) × (last ≡ Some end) × (sent ≡ text ++ end)
-- a front of the text; or of both, where nothing is left
TextWentOut behind text last stop sent (Err WriteFault) = IsFrontOf sent text
    ⊎ ((behind ≡ []) × (end : List ℕ) × (last ≡ Some end) × IsFrontOf sent (text ++ end))
-- the text, and a front of what says why it stopped
TextWentOut behind text last stop sent (Err _) =
    (stopped : List ℕ) × IsFrontOf stopped stop × (sent ≡ text ++ stopped)

-- The lines name a header, and an event in each behind it; none of these is one too many. And what
-- is shown of the events, and of each first part of them, holds.
pub record AreAnswered {G H E S : Type 0} (p : EventPlayer G H E S)
    (Holds : H → List E → (List E → S) → Type 0) (lines : List (List ℕ)) : Type 0 where
  pub heads : List (List ℕ)
  pub others : List (List ℕ)
  pub header : H
  pub events : List E
  pub shown : List E → S
  pub split : lines ≡ heads ++ others
  pub headed : HeadingLeads p.head p.start heads (Begins header)
  pub read : map (p.event_in header) others ≡ map Some events
  pub within : (before : List (List ℕ)) (line : List ℕ) (after : List (List ℕ)) (front : List E)
      → others ≡ before ++ line ∷ after → map (p.event_in header) before ≡ map Some front
      → IsOver before (p.kept (shown front)) line → ⊥
  pub holds : Holds header events shown

-- A play of an input that ended so: the first lines of what was taken were answered, none of them
-- too long. They are some of a heading that isn't whole, or a heading and events; and by the end it
-- says what is left, and what went out.
pub record TellsEvents {G H E S T : Type 0} (p : EventPlayer G H E S)
    (Holds : H → List E → (List E → S) → Type 0) (old new : StreamStanding) (stop : List ℕ)
    (result : Result T ReplayFault) : Type 0 where
  pub taken : List ℕ
  pub sent : List ℕ
  pub consumed : Consumes old.left new.left taken
  pub appended : Appends old.received new.received sent
  pub done : List (List ℕ)
  pub behind : List ℕ
  pub split : taken ≡ joined_lines done ++ behind
  pub short : AllByRecursion (λ line. IsUnbroken line × (length line ≤ longest_line)) done
  pub continues : ((at : G) × HeadingLeads p.head p.start done (More at)
      × IsLeft new.left behind (length done) false (λ line. p.head at line ≡ None) (λ line. ⊥)
      result
      × TextWentOut behind [] None stop sent result)
      ⊎ ((it : AreAnswered p Holds done)
      × IsLeft new.left behind (length done) true (λ line. p.event_in it.header line ≡ None)
      (λ line. IsOver it.others (p.kept (it.shown it.events)) line) result
      × TextWentOut behind (p.text it.events (it.shown it.events))
      (Some (p.last (it.shown it.events))) stop sent result)

-- A reply that is put behind what stands there already.

-- The bytes grew by a reply of which this is said; or there is none, and this is said of the fault.
abbrev pub PutsReply : List ℕ → List ℕ → (Result (List ℕ) ReplyFault → Type 0)
    → Result Unit ReplyFault → Type 0
PutsReply old new says (Ok _) = (reply : List ℕ) × (new ≡ old ++ reply) × says (Ok reply)
PutsReply old new says (Err fault) = says (Err fault)
