-- Generated schedules. With it: the turns of a generated schedule; lines of a generated schedule as
-- the code holds them; what a replay of the same schedule comes to; what generated schedules are to
-- those who read them; what is told of a schedule that was run in bulk; the first line of a text;
-- when a schedule passes the limits of a replay, and one event line of it that passes none; what a
-- schedule comes to.
use Rattle.std.specs.Fmt.{decimal}
use Rattle.std.specs.Int.{w64, to_le_bytes}
use Rattle.std.specs.List.{position, flat_map, fold}
use Rattle.std.specs.Option.{option_map_or}
use Rattle.std.specs.Prelude.{ℕ, ◌+◌, ◌%◌, ◌==◌, nat_lt, List, [], ◌∷◌, ◌++◌, if◌then◌else◌, codes, zero, suc, length, replicate, take}
use Rattle.std.specs.Prelude.{true, false, ◌≡◌, Result, Ok, Err, ◌≤◌, All, Bool, drop, Option, Some, ◌||◌, map}
use Rattle.hex.specs.Hex.{encode_lower}
use Rattle.rand_chacha.specs.ChaCha.{key_of, word_at}
use Rattle.sha2.specs.Sha256.{sha256}
use Rattle.mm_bytes.specs.Limits.{longest_line, most_events}
use Rattle.mm_base.specs.Input.{joined_lines, IsUnbroken, lines_of, tail_of}
use Rattle.mm_base.specs.declared.replay_fault.ReplayFault.TheVariants as fault
use Rattle.mm_digest.specs.declared.variant.Variant.{Variant}
use Rattle.mm_digest.specs.declared.variant.Variant.TheVariants.{Basic, Opt}
use Rattle.mm_platform.specs.declared.plan.Stop.{Stop}
use Rattle.mm_platform.specs.declared.plan.Stop.TheVariants.{Quiet, Cut, Drop, Fail}
use Rattle.mm_modules.specs.Modules.{listing_of}
use Rattle.mm_modules.specs.declared.any.AnyModule.{AnyModule}
use Rattle.mm_model.specs.Moves.{Digests}
use Rattle.mm_schedule.specs.Events.{Event, SpellsEvent, event_at}
use Rattle.mm_schedule.specs.Headers.{header_text, ◌>>=◌}
use Rattle.mm_schedule.specs.Replies.{end_line}
use Rattle.mm_schedule.specs.declared.header.Header.{Header}
use Rattle.mm_schedule.specs.declared.reply.Reply.{Reply}
use Rattle.mm_schedule.specs.declared.reply.Reply.TheVariants.{Told, No, Kept, Nothing}
use Rattle.mm_outcome.specs.OneRun.{world_of}
use Rattle.mm_outcome.specs.Premises.{RunOutcome, outcome_by_digests}
use Rattle.mm_play.specs.PlaysInput.{PlayOutcome, outcome_of_input}
use Rattle.mm_replay.specs.Schedule.{ReplayStage, header_stage, schedule_answer, schedule_closing, RunningReplay, running_replay_after}
use Rattle.mm_replay.specs.Schedule.{is_too_much, running_outcome, text_of_replies}
use Rattle.mm_gen.specs.declared.counts.ReplyCounts.{ReplyCounts}
use Rattle.mm_gen.specs.declared.fault.BulkFault.{BulkFault}
use Rattle.mm_gen.specs.declared.fault.BulkFault.TheVariants.{Memory, TooMuch}
use Rattle.mm_gen.specs.declared.line.Line.{Line}
use Rattle.mm_gen.specs.declared.line.Line.TheVariants.{Ask, Checkpoint, Power}
use Rattle.mm_gen.specs.declared.line.SnapshotChoice.{SnapshotChoice}
use Rattle.mm_gen.specs.declared.line.SnapshotChoice.TheVariants.{Last, Number, Flip}
use Rattle.mm_gen.specs.declared.summary.Summary.{Summary}
use Rattle.mm_gen.specs.declared.turn.TurnLines.{TurnLines}
use Rattle.mm_gen.specs.declared.turn.TurnLines.TheVariants.{One, Pair}
use Rattle.mm_gen.specs.declared.words.TurnWords.{TurnWords}

-- The turns of a generated schedule: the event lines that four words give.

-- the request of a module that a number chooses
abbrev pub chosen_request : AnyModule → ℕ → List ℕ
chosen_request it choice = (listing_of it).request choice

-- a request is asked of an offer
abbrev pub ask_text : List ℕ → List ℕ → List ℕ
ask_text offer request = codes "ask " ++ offer ++ 32 ∷ request

-- a request is asked of the last snapshot in a call that is stopped, and asked once more
abbrev pub pair : List ℕ → List ℕ → List (List ℕ)
pair stop request = (stop ++ ask_text (codes "last") request) ∷ ask_text (codes "last") request ∷ []

-- what ends a call of row 11: in Opt a cut would lose an open segment
abbrev pub cut_word : Variant → List ℕ
cut_word Basic = codes "cut "
cut_word Opt = codes "drop "

-- whether a failed step has its effect: where the number is even
abbrev pub effect_word : ℕ → List ℕ
effect_word number = if number % 2 == 0 then codes " done " else codes " undone "

abbrev pub row_14 : Variant → List (List ℕ)
row_14 Basic = codes "power" ∷ []
row_14 Opt = codes "checkpoint" ∷ codes "power" ∷ []

abbrev pub row_15 : Variant → List (List ℕ)
row_15 Basic = codes "power" ∷ []
row_15 Opt = codes "checkpoint" ∷ []

-- the lines of a turn whose first line is the event line with this number, by the turn's row from 0
-- to 15
unfoldable pub turn_lines : Header → ℕ → TurnWords → List (List ℕ)
turn_lines header first words =
    let row = words.row % 16 in
    let request = chosen_request header.module words.request in
    let snapshot = decimal (words.number % first) in
    let step = decimal (1 + words.number % 5) in
    if nat_lt row 9 then ask_text (codes "last") request ∷ []
    else if row == 9 then ask_text snapshot request ∷ []
    else if row == 10 then ask_text (codes "flip " ++ snapshot ++ 32 ∷ decimal (words.detail % 128))
    request ∷ []
    else if row == 11 then pair (cut_word header.variant ++ step ++ 32 ∷ []) request
    else if row == 12 then pair (codes "drop " ++ step ++ 32 ∷ []) request
    else if row == 13 then pair (codes "fail " ++ step ++ effect_word words.detail) request
    else if row == 14 then row_14 header.variant
    else row_15 header.variant

-- Generated schedules.

-- the seed of a number: its 8 bytes, the lowest first, and 24 zero bytes
unfoldable pub seed_from : ℕ → List ℕ
seed_from number = to_le_bytes w64 number ++ replicate 24 0

-- four words of the ChaCha20 stream of a key, from this place on
abbrev pub words_at : List ℕ → ℕ → TurnWords
words_at key place = record {
  row = word_at 10 key 0 place;
  number = word_at 10 key 0 (place + 1);
  detail = word_at 10 key 0 (place + 2);
  request = word_at 10 key 0 (place + 3);
}

-- the lines of so many turns, the first of which draws from this place on and begins with this
-- event line
abbrev pub lines_from : Header → List ℕ → ℕ → ℕ → ℕ → List (List ℕ)
lines_from header key place first zero = []
lines_from header key place first (suc turns) =
    let lines = turn_lines header first (words_at key place) in
    lines ++ lines_from header key (place + 4) (first + length lines) turns

-- the first so many event lines: a turn has at least one
abbrev pub schedule_lines : ℕ → ℕ → Header → List (List ℕ)
schedule_lines number count header =
    take count (lines_from header (key_of (seed_from number)) 0 1 count)

-- the schedule: its header line and its event lines
abbrev pub schedule_text : ℕ → ℕ → Header → List ℕ
schedule_text number count header =
    joined_lines (header_text header ∷ schedule_lines number count header)

-- Lines of a generated schedule as the code holds them: without the request, which is the same in
-- both lines of a pair.

abbrev pub stop_text : Stop → List ℕ
stop_text Quiet = []
stop_text (Cut step) = codes "cut " ++ decimal step ++ 32 ∷ []
stop_text (Drop step) = codes "drop " ++ decimal step ++ 32 ∷ []
stop_text (Fail step true) = codes "fail " ++ decimal step ++ codes " done "
stop_text (Fail step false) = codes "fail " ++ decimal step ++ codes " undone "

abbrev pub snapshot_text : SnapshotChoice → List ℕ
snapshot_text Last = codes "last"
snapshot_text (Number number) = decimal number
snapshot_text (Flip number byte) = codes "flip " ++ decimal number ++ 32 ∷ decimal byte

abbrev pub line_text : List ℕ → Line → List ℕ
line_text request (Ask stop snapshot) = stop_text stop ++ ask_text (snapshot_text snapshot) request
line_text request Checkpoint = codes "checkpoint"
line_text request Power = codes "power"

abbrev pub lines_of_turn : List ℕ → TurnLines → List (List ℕ)
lines_of_turn request (One line) = line_text request line ∷ []
lines_of_turn request (Pair first second) = line_text request first ∷ line_text request second ∷ []

-- What a replay of the same schedule comes to.

-- a replay of the text of a generated schedule
abbrev pub replay_of : ℕ → ℕ → Header → PlayOutcome ReplayStage
replay_of number count header =
    outcome_of_input schedule_answer schedule_closing header_stage
    (schedule_text number count header)

-- The replay comes to its end, and the digest is that of all bytes that it writes; or it is too
-- much too.
abbrev pub IsReplayed : PlayOutcome ReplayStage → Result Summary BulkFault → Type 0
IsReplayed replay (Ok summary) =
    (summary.replies.bytes ≡ sha256 replay.written) × (next : ReplayStage)
    × (replay.outcome ≡ Ok next)
IsReplayed replay (Err TooMuch) = replay.outcome ≡ Err fault.TooMuch
IsReplayed replay (Err Memory) = Unit {0}

-- What generated schedules are to those who read them.

-- the line spells an event, and is no longer than a line may be
pub record IsEventLine (line : List ℕ) : Type 0 where
  pub event : Event
  pub spelled : SpellsEvent event line
  pub short : length line ≤ longest_line
  pub unbroken : IsUnbroken line

-- the text is read as its header's line and so many lines of events, and nothing behind them
pub record IsSchedule (number count : ℕ) (header : Header) : Type 0 where
  pub lines : lines_of (schedule_text number count header) ≡ header_text header
      ∷ schedule_lines number count header
  pub ends : tail_of (schedule_text number count header) ≡ []
  pub counted : length (schedule_lines number count header) ≡ count
  pub events : All IsEventLine (schedule_lines number count header)

abbrev pub SchedulesAreRead : Type 0
SchedulesAreRead =
    (number count : ℕ) (header : Header) → count ≤ most_events → IsSchedule number count header

-- What is told of a schedule that was run in bulk.

abbrev pub events_text : ℕ → List ℕ
events_text events = codes "events " ++ decimal events

abbrev pub told_counts : ReplyCounts → List ℕ
told_counts counts =
    codes "ok " ++ decimal counts.ok ++ codes " again " ++ decimal counts.again ++ codes " no "
    ++ decimal counts.no

abbrev pub other_counts : ReplyCounts → List ℕ
other_counts counts =
    codes "kept " ++ decimal counts.kept ++ codes " lost " ++ decimal counts.lost ++ codes " other "
    ++ decimal counts.other

abbrev pub end_text : Summary → List ℕ
end_text it = codes "end " ++ decimal it.committed ++ 32 ∷ decimal it.issued

abbrev pub replies_text : List ℕ → List ℕ
replies_text digest = codes "replies " ++ encode_lower digest

-- the five lines
abbrev pub bulk_text : ℕ → Summary → List ℕ
bulk_text events it =
    joined_lines (events_text events ∷ told_counts it.counts ∷ other_counts it.counts ∷ end_text it
    ∷ replies_text it.replies.bytes ∷ [])

-- The first line of a text.

abbrev pub is_break : ℕ → Bool
is_break byte = byte == 10

-- the first line, without its LF, and what follows the LF
unfoldable pub line_at : List ℕ → Option (List ℕ × List ℕ)
line_at text = position is_break text >>= λ at. Some (take at text, drop (at + 1) text)

-- When a schedule passes the limits of a replay, and one event line of it that passes none.

-- one of these lines, answered one after another, is one too many
abbrev pub is_over : RunningReplay → List (List ℕ) → Bool
is_over r [] = false
is_over r (line ∷ lines) =
    is_too_much r line || option_map_or (λ event. is_over (running_replay_after r line event) lines)
    (event_at line) false

-- The limits are passed exactly where that is told. Want of memory says nothing of them.
abbrev pub IsLimited : Bool → Result Summary BulkFault → Type 0
IsLimited over (Ok summary) = over ≡ false
IsLimited over (Err TooMuch) = over ≡ true
IsLimited over (Err Memory) = Unit {0}

-- The line passes no limit, its event was answered with this reply, and the run stands behind it.
abbrev pub RunsLine : RunningReplay → RunningReplay → List ℕ → Reply → Type 0
RunsLine old new line reply =
    (is_too_much old line ≡ false)
    × ((event : Event) → event_at line ≡ Some event → (reply ≡ (running_outcome old event).reply)
    × (new ≡ running_replay_after old line event))

-- What a schedule comes to: its replies counted by their kinds, and digested.

abbrev pub no_counts : ReplyCounts
no_counts = record { ok = 0; again = 0; no = 0; kept = 0; lost = 0; other = 0 }

-- one reply more, by its kind: `ok`, `again`, `no`, one with `kept`, one with `lost`, or another
abbrev pub counts_after_reply : ReplyCounts → Reply → ReplyCounts
counts_after_reply counts (Told false position outputs) = record counts { ok = counts.ok + 1 }
counts_after_reply counts (Told true position outputs) = record counts { again = counts.again + 1 }
counts_after_reply counts (No cause) = record counts { no = counts.no + 1 }
counts_after_reply counts (Kept way position) = record counts { kept = counts.kept + 1 }
counts_after_reply counts (Nothing way) = record counts { lost = counts.lost + 1 }
counts_after_reply counts reply = record counts { other = counts.other + 1 }

-- these replies, counted
abbrev pub counts_of : List Reply → ReplyCounts
counts_of replies = fold counts_after_reply no_counts replies

-- how many replies there are
abbrev pub total : ReplyCounts → ℕ
total counts = counts.ok + counts.again + counts.no + counts.kept + counts.lost + counts.other

-- the replies counted, and digested with the last line of a replay
abbrev pub bulk_summary : RunOutcome Digests → Summary
bulk_summary run = record {
  counts = counts_of run.replies;
  committed = run.state.count;
  issued = length run.issued;
  replies =
      record {
        bytes = sha256 (flat_map text_of_replies run.replies
            ++ end_line run.state.count (length run.issued));
      };
}

-- The lines are events, and the summary is that of the replies that a replay gives to them.
pub record SumsUp (header : Header) (lines : List (List ℕ)) (it : Summary) : Type 0 where
  pub events : List Event
  pub read : map event_at lines ≡ map Some events
  pub told : it ≡ bulk_summary (outcome_by_digests (world_of header) events)
