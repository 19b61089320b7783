-- A move over a platform in memory, under the plan of an event. With it: replies of two sides as
-- the code has them; the lines that answer events of two sides; what stands where memory was
-- wanting for an event.
use Rattle.std.specs.Fmt.{decimal}
use Rattle.std.specs.Prelude.{◌≡◌, ◌==◌, ◌&&◌, ℕ, Bool, true, false, List, [], ◌∷◌, Option, None, Some, Result, Ok, Err, ◌⊎◌, ◌++◌, codes}
use Rattle.mm_model.specs.declared.refusal.Refusal.TheVariants.{Memory}
use Rattle.mm_sides.specs.BothSides as moves
use Rattle.mm_sides.specs.Folds as folds
use Rattle.mm_transfer.specs.Below.{Standing, StepFault, Meddle, Stop, Instance, Digests, register_reading, DeviceStep, Reads, Device}
use Rattle.mm_transfer.specs.Below.{StepsWalk, moves_seen, walk, digest_level, state_after_moves, ReadyMove, MoveRefusal, Core, course_of}
use Rattle.mm_transfer.specs.Below.{is_moved, stopped_moves, takes_effect, stopped_step, IsQuiet, IsPrintable, cause_of, cause_text}
use Rattle.mm_transfer.specs.Below.{way_text, SideName, First, Second, BothEvent, BothReply, text_of_replies, reading_steps, Ask, Event}
use Rattle.mm_transfer.specs.Below.{Power, BothAct, Moves, Plain, BothSides, Pair, SideState, sides_seen_from, instance_on, Live, Role}
use Rattle.mm_transfer.specs.declared.reply.MoveCause.{MoveCause}
use Rattle.mm_transfer.specs.declared.reply.MoveCause.TheVariants.{Refused, Already, Open, Gone, Nonce, Barrier}
use Rattle.mm_transfer.specs.declared.reply.MoveCause.TheVariants as cause
use Rattle.mm_transfer.specs.declared.reply.MoveReply.{MoveReply}
use Rattle.mm_transfer.specs.declared.reply.MoveReply.TheVariants.{Said, Invited, Left, Entered, Denied, NoSnapshot, NoTicket, Broken}
use Rattle.mm_transfer.specs.declared.reply.MoveReply.TheVariants as reply

-- the steps behind the first one: where the cell is to be written there is a second
abbrev pub steps_to : Option (List ℕ) → List DeviceStep
steps_to None = []
steps_to (Some next) = Reads ∷ []

abbrev pub later_steps : {A : Type 0} → Result (ReadyMove A) MoveRefusal → List DeviceStep
later_steps (Ok ready) = steps_to ready.next
later_steps (Err why) = []

-- the cell's bytes, once these were written in their place or not
abbrev pub bytes_if_written : Option (List ℕ) → Bool → List ℕ → List ℕ
bytes_if_written None moved bytes = bytes
bytes_if_written (Some next) true bytes = next
bytes_if_written (Some next) false bytes = bytes

abbrev pub bytes_after_move : {A : Type 0} → Result (ReadyMove A) MoveRefusal → Bool → List ℕ
    → List ℕ
bytes_after_move (Ok ready) moved bytes = bytes_if_written ready.next moved bytes
bytes_after_move (Err why) moved bytes = bytes

-- what a move answers, by the fault of the step that broke it off, if one did
abbrev pub move_answer_of : {A : Type 0} → Option StepFault → Result (ReadyMove A) MoveRefusal
    → Result A MoveRefusal
move_answer_of (Some fault) found = Err (Core (Device fault))
move_answer_of None (Ok ready) = Ok ready.answer
move_answer_of None (Err why) = Err why

-- The move is over that found this: the cell was written or not, the register took in what others
-- brought, and is empty where power was lost behind.
pub record MoveEnds {A : Type 0} (i : Instance) (d : Digests) (stop : Stop) (bytes : List ℕ)
    (found : Result (ReadyMove A) MoveRefusal)
    (walked : StepsWalk) (moved : Bool) (new : Standing)
    (result : Result A MoveRefusal) : Type 0 where
  pub cell : new.cell ≡ Some (bytes_after_move found moved bytes)
  pub register : register_reading new
      ≡ Some (state_after_moves (digest_level i) (state_after_moves (digest_level i) d walked.moves)
      (stopped_moves stop walked.broken)).register
  pub quiet : IsQuiet new
  pub says : result ≡ move_answer_of walked.broken found

-- the move that found this was made under the plan, over a platform with these bytes in its cell
abbrev pub MakesMove : {A : Type 0} → Instance → Digests → Stop → List Meddle → List ℕ
    → Result (ReadyMove A) MoveRefusal → Standing
    → Result A MoveRefusal → Type 0
MakesMove i d stop meddles bytes found new result =
    let fates = (course_of stop meddles).fates in
    MoveEnds i d stop bytes found (walk fates 1 (Reads ∷ later_steps found))
    (is_moved (fates 1).ends (fates 2).ends) new result

-- Memory was wanting: nothing has changed, but that the first step may have been made.
pub record WantsMemory {A : Type 0} (i : Instance) (d : Digests) (stop : Stop)
    (meddles : List Meddle) (old new : Standing)
    (result : Result A MoveRefusal) : Type 0 where
  pub says : result ≡ Err (Core Memory)
  pub cell : new.cell ≡ old.cell
  pub register : (register_reading new ≡ Some d.register)
      ⊎ (register_reading new ≡ Some
      (state_after_moves (digest_level i) d
      (moves_seen (course_of stop meddles).fates (Reads ∷ []) 1)).register)
  pub quiet : IsQuiet new

-- A move by what it finds, over a quiet platform that tells its cell and its register.
abbrev pub MovesByPlan : {A : Type 0} → (List ℕ → Result (ReadyMove A) MoveRefusal) → Stop
    → List Meddle → Standing → Standing
    → Result A MoveRefusal → Type 0
MovesByPlan finds stop meddles old new result =
    (i : Instance) (d : Digests) (bytes : List ℕ) → old.cell ≡ Some bytes
    → register_reading old ≡ Some d.register → IsQuiet old
    → MakesMove i d stop meddles bytes (finds bytes) new result
    ⊎ WantsMemory i d stop meddles old new result

-- whether a move that is stopped so has its effect: its second step has that
abbrev pub has_effect_at : Stop → Bool
has_effect_at stop = (stopped_step stop == 2) && takes_effect stop

-- Replies of two sides as the code has them.

-- the code's value for why a move is refused. No side has another barrier than the link.
abbrev pub move_cause_of : moves.DenialCause → MoveCause
move_cause_of (moves.Refused why) = cause.Refused (cause_of why)
move_cause_of moves.Already = cause.Already
move_cause_of moves.Open = cause.Open
move_cause_of moves.Gone = cause.Gone
move_cause_of moves.Nonce = cause.Nonce

-- the code's value for a reply
abbrev pub move_reply_of : folds.BothReply → MoveReply
move_reply_of (folds.Said said) = reply.Said said
move_reply_of folds.Invited = reply.Invited
move_reply_of (folds.Left number) = reply.Left number
move_reply_of (folds.Entered position) = reply.Entered position
move_reply_of (folds.Denied why) = reply.Denied (move_cause_of why)
move_reply_of folds.NoSnapshot = reply.NoSnapshot
move_reply_of folds.NoTicket = reply.NoTicket
move_reply_of (folds.Broken way moved) = reply.Broken way moved

-- what a reply has to meet to be printed, as one of a schedule
abbrev pub IsSayable : MoveReply → Type 0
IsSayable (reply.Said said) = IsPrintable said
IsSayable said = Unit {0}

-- The lines that answer events of two sides.

-- why a move was refused
abbrev pub move_cause_text : MoveCause → List ℕ
move_cause_text (Refused cause) = cause_text cause
move_cause_text Already = codes "already"
move_cause_text Open = codes "open"
move_cause_text Gone = codes "gone"
move_cause_text Nonce = codes "nonce"
move_cause_text Barrier = codes "barrier"

-- what became of a move that was disturbed
abbrev pub effect_text : Bool → List ℕ
effect_text true = codes " moved"
effect_text false = codes " lost"

-- a reply, with its LF
abbrev pub move_text : MoveReply → List ℕ
move_text (Said reply) = text_of_replies reply
move_text Invited = codes "invited" ++ 10 ∷ []
move_text (Left ticket) = codes "retired " ++ decimal ticket ++ 10 ∷ []
move_text (Entered position) = codes "accepted " ++ decimal position ++ 10 ∷ []
move_text (Denied cause) = codes "no " ++ move_cause_text cause ++ 10 ∷ []
move_text NoSnapshot = codes "no snapshot" ++ 10 ∷ []
move_text NoTicket = codes "no ticket" ++ 10 ∷ []
move_text (Broken way moved) = way_text way ++ effect_text moved ++ 10 ∷ []

-- the number of a side
abbrev pub side_text : SideName → List ℕ
side_text First = codes "0"
side_text Second = codes "1"

-- the line of a reply stands behind its side's number and a space
abbrev pub answer_text : SideName → MoveReply → List ℕ
answer_text which reply = side_text which ++ 32 ∷ move_text reply

-- the lines of the replies to these events
abbrev pub answers_text : List BothEvent → List BothReply → List ℕ
answers_text [] replies = []
answers_text (event ∷ events) [] = []
answers_text (event ∷ events) (reply ∷ replies) =
    side_text event.which ++ 32 ∷ move_text (move_reply_of reply) ++ answers_text events replies

-- the line `end N K0 K1 T`: so many requests were committed, so many snapshots issued on each side,
-- and so many tickets
abbrev pub end_line : (committed first second tickets : ℕ) → List ℕ
end_line committed first second tickets =
    codes "end " ++ decimal committed ++ 32 ∷ [] ++ decimal first ++ 32 ∷ [] ++ decimal second ++ 32
    ∷ [] ++ decimal tickets ++ 10 ∷ []

-- What stands where memory was wanting for an event: nothing has changed, but that steps that read
-- may have been made.

-- a side on which a call or a move has made these steps, which read, and nothing else
abbrev pub side_after_reads : Instance → List DeviceStep → List Meddle → Stop → SideState Digests
    → SideState Digests
side_after_reads i steps meddles stop side = record side {
  at = state_after_moves (digest_level i) side.at
      (moves_seen (course_of stop meddles).fates steps 1);
}

abbrev pub MayHaveRead : Instance → List DeviceStep → List Meddle → Stop → SideState Digests
    → SideState Digests
    → Type 0
MayHaveRead i steps meddles stop old new =
    (new ≡ old) ⊎ (new ≡ side_after_reads i steps meddles stop old)

-- a call that asks: where the module isn't, it wants no memory behind a step
abbrev pub AskWants : Instance → Role → List Meddle → Stop → SideState Digests → SideState Digests
    → Type 0
AskWants i Live meddles stop old new = MayHaveRead i (reading_steps i.variant) meddles stop old new
AskWants i role meddles stop old new = new ≡ old

-- an event of a schedule
abbrev pub PlainWants : Instance → Event → SideState Digests → SideState Digests → Type 0
PlainWants i (Ask meddles stop offer b) old new = AskWants i old.role meddles stop old new
PlainWants i Power old new = ⊥
PlainWants i event old new = new ≡ old

-- what happens on a side: a move reads the cell, and may then want memory
abbrev pub ActWants : Instance → BothAct → SideState Digests → SideState Digests → Type 0
ActWants i (Plain event) old new = PlainWants i event old new
ActWants i (Moves meddles stop command) old new = MayHaveRead i (Reads ∷ []) meddles stop old new

-- Memory was wanting for an event: so it was on its side, and nothing else has changed.
pub record BothEventLacksMemory (pair : Pair) (event : BothEvent)
    (old new : BothSides Digests ℕ) : Type 0 where
  pub here : ActWants (instance_on pair event.which) event.act
      (sides_seen_from event.which old).first
      (sides_seen_from event.which new).first
  pub rest : sides_seen_from event.which new
      ≡ record (sides_seen_from event.which old) { first = (sides_seen_from event.which new).first }
