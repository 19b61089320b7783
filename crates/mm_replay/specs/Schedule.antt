-- A schedule line by line. With it: what is written for replies; a replay among its events, as
-- contracts see it; what is told of a whole replay; a replay of a whole schedule; what follows of
-- what is told of a whole replay.
use Rattle.std.specs.List.{concat, sum_by, flat_map}
use Rattle.std.specs.Option.{option_map}
use Rattle.std.specs.Prelude.{ℕ, List, ◌+◌, Bool, length, Option, Result, ◌≡◌, ◌≤◌, ◌*◌, ◌⊎◌, [], ◌++◌, take}
use Rattle.mm_bytes.specs.Limits.{most_events, most_members}
use Rattle.mm_base.specs.declared.replay_fault.ReplayFault.{ReplayFault}
use Rattle.mm_modules.specs.declared.any.AnyModule.{AnyModule}
use Rattle.mm_model.specs.Chains.{Instance}
use Rattle.mm_model.specs.Moves.{Digests}
use Rattle.mm_call.specs.CallFinding.{digest_level}
use Rattle.mm_schedule.specs.Events.{Event, event_at}
use Rattle.mm_schedule.specs.Headers.{header_at}
use Rattle.mm_schedule.specs.Replies.{lines_of_reply, end_line, ModulePromises}
use Rattle.mm_schedule.specs.declared.header.Header.{Header}
use Rattle.mm_schedule.specs.declared.reply.Reply.{Reply}
use Rattle.mm_outcome.specs.Laws.{outcome_joined_to}
use Rattle.mm_outcome.specs.OneRun.{world_of, WorldState, WorldLacksMemory, IsOneRun}
use Rattle.mm_outcome.specs.Premises.{Outcome, event_outcome, first_snapshots, first_digests, RunOutcome, outcome_by_digests}
use Rattle.mm_outcome.specs.Premises.{outcome_of_events, IsClearRun, IsGenuineRun}
use Rattle.mm_evidence.specs.Evidence.{HasEvidence}
use Rattle.mm_evidence.specs.Laws.{RunsUntil}
use Rattle.mm_play.specs.Headline.{Begins, EventPlayer, stream_standing}
use Rattle.mm_play.specs.PlaysInput.{PlaysEvents}
use Rattle.mm_play.specs.Stage.{EventStage, EventSteps, HeadStage, LineStage, AtHeading, InEvents, answer_to, is_over, line_answer}
use Rattle.mm_play.specs.Stage.{closing_lines, play_state}
use Rattle.mm_play.specs.declared.player.LineRefusal.{LineRefusal}
use Rattle.mm_replay.specs.declared.heading.HeaderLine.{HeaderLine}
use Rattle.mm_replay.specs.declared.report.Report.{Report}

-- What is written for replies.

-- the lines of a reply, one after another
abbrev pub text_of_replies : Reply → List ℕ
text_of_replies reply = concat (lines_of_reply reply)

-- A schedule line by line: the header, and then the events.

-- what stands between two events, by digests: the header, the snapshots issued, and how many events
-- were played
pub record ReplayState : Type 0 where
  pub header : Header
  pub digests : Digests
  pub issued : List (List ℕ)
  pub events : ℕ

abbrev pub first_replay_state : Header → ReplayState
first_replay_state header = record {
  header = header;
  digests = first_digests (world_of header);
  issued = first_snapshots (world_of header);
  events = 0;
}

-- what an event comes to
abbrev pub outcome_of : ReplayState → Event → Outcome Digests
outcome_of r event =
    event_outcome (world_of r.header) (digest_level (world_of r.header)) r.digests r.issued event

abbrev pub replay_state_after : ReplayState → Event → ReplayState
replay_state_after r event = record {
  header = r.header;
  digests = (outcome_of r event).state;
  issued = (outcome_of r event).issued;
  events = r.events + 1;
}

-- what is done with events
abbrev pub replay_steps : EventSteps Event ReplayState
replay_steps = record {
  event_in = λ r. event_at;
  reply = λ r event. text_of_replies (outcome_of r event).reply;
  after = replay_state_after;
}

abbrev pub replay_stage : EventStage ReplayState
replay_stage = record {
  answer = λ r line. answer_to replay_steps r line;
  events = λ r. r.events;
  kept = λ r. sum_by length r.issued;
  last = λ r. end_line r.digests.count (length r.issued);
}

-- a header line begins the events
abbrev pub replay_heads : HeadStage HeaderLine ReplayState
replay_heads = record {
  behind = λ at line. option_map (λ header. Begins (first_replay_state header)) (header_at line);
  left = λ at. 0;
}

-- the reply to a line, and the last line, which needs a header before it
abbrev pub ReplayStage : Type 0
ReplayStage = LineStage HeaderLine ReplayState

abbrev pub header_stage : ReplayStage
header_stage = AtHeading (record {})

abbrev pub schedule_answer : ReplayStage → List ℕ → Result (List ℕ × ReplayStage) LineRefusal
schedule_answer at line = line_answer replay_heads replay_stage at line

abbrev pub schedule_closing : ReplayStage → Option (List ℕ)
schedule_closing at = closing_lines replay_heads replay_stage at

-- a replay among its events, with the bytes of their lines
pub record RunningReplay : Type 0 where
  pub header : Header
  pub digests : Digests
  pub issued : List (List ℕ)
  pub events : ℕ
  pub read : ℕ

abbrev pub running_replay_at : ReplayState → ℕ → RunningReplay
running_replay_at r read = record {
  header = r.header;
  digests = r.digests;
  issued = r.issued;
  events = r.events;
  read = read;
}

abbrev pub replay_state_of : RunningReplay → ReplayState
replay_state_of r =
    record { header = r.header; digests = r.digests; issued = r.issued; events = r.events }

abbrev pub stage_among_events : RunningReplay → ReplayStage
stage_among_events r = InEvents (play_state (replay_state_of r) r.read)

abbrev pub first_running_replay : Header → RunningReplay
first_running_replay header = running_replay_at (first_replay_state header) 0

abbrev pub running_outcome : RunningReplay → Event → Outcome Digests
running_outcome r event = outcome_of (replay_state_of r) event

abbrev pub running_replay_after : RunningReplay → List ℕ → Event → RunningReplay
running_replay_after r line event = running_replay_at (replay_state_after (replay_state_of r) event)
    (r.read + length line)

-- one event more would be too many, or its line too many bytes
abbrev pub is_too_much : RunningReplay → List ℕ → Bool
is_too_much r line = is_over replay_stage (play_state (replay_state_of r) r.read) line

-- A replay among its events, as contracts see it.

abbrev pub replay_state_in : WorldState → ℕ → ReplayState
replay_state_in world events = record {
  header = world.header;
  digests = world.digests;
  issued = world.issued;
  events = events;
}

-- Memory was wanting for an event: so it was in its world, and the event isn't counted.
abbrev pub ReplayLacksMemory : ReplayState → Event → ReplayState → Type 0
ReplayLacksMemory old event new =
    (was : WorldState) × (now : WorldState) × (replay_state_in was old.events ≡ old)
    × WorldLacksMemory event was now
    × (replay_state_in now old.events ≡ new)

-- The world has issued no more snapshots, and committed no more requests, than so many events can.
pub record KeepsWorld (world : WorldState) (events : ℕ) : Type 0 where
  pub few : events ≤ most_events
  pub one_each : length world.issued ≤ events + 1
  pub fits : world.digests.count ≤ most_members * events

-- What is told of a whole replay.

-- what is shown of events: the replies to them, how many requests were committed, and the snapshots
-- issued
pub record RunResult : Type 0 where
  pub replies : List Reply
  pub committed : ℕ
  pub issued : List (List ℕ)

-- A schedule is a header line and events. The last line counts the requests and the snapshots, and
-- the snapshots are kept.
abbrev pub replay_player : EventPlayer HeaderLine Header Event RunResult
replay_player = record {
  start = record {};
  head = λ at line. option_map (λ header. Begins header) (header_at line);
  event_in = λ header. event_at;
  text = λ events shown. flat_map text_of_replies shown.replies;
  last = λ shown. end_line shown.committed (length shown.issued);
  kept = λ shown. sum_by length shown.issued;
}

-- One run of an instance of the module; and what the module promises of a run holds of the requests
-- and of the replies.
pub record IsPromisedRun (i : Instance) («module» : AnyModule) (events : List Event)
    (shown : RunResult)
    : Type 0 where
  pub run : IsOneRun i events shown.replies shown.committed shown.issued
  pub promised : ModulePromises «module» run.requests shown.replies

-- The headline. Each event has one reply, and the first events have the first ones. No event at all
-- is one run; and each first part of the events is one, or one holds evidence in hand: two
-- different messages of the run with one digest, a message with digest zero, a value of others that
-- is the guard of a batch, or an offer that is forged.
pub record AreOneRun (header : Header) (events : List Event) (shown : List Event
    → RunResult) : Type 0
  where
    pub each : length (shown events).replies ≡ length events
    pub first : (front later : List Event) → events ≡ front ++ later
        → (shown front).replies ≡ take (length front) (shown events).replies
    pub none : IsPromisedRun (world_of header) header.«module» [] (shown [])
    pub unless_evidence : (front later : List Event) → events ≡ front ++ later
        → IsPromisedRun (world_of header) header.«module» front (shown front)
        ⊎ HasEvidence (world_of header) front

-- what is shown of events by digests, as the code computes them
abbrev pub run_result_of : RunOutcome Digests → RunResult
run_result_of it = record { replies = it.replies; committed = it.state.count; issued = it.issued }

abbrev pub run_result_by_digests : Header → List Event → RunResult
run_result_by_digests header events = run_result_of (outcome_by_digests (world_of header) events)

-- With no premise what is shown is that by digests.
pub record IsByDigests (header : Header) (events : List Event) (shown : List Event → RunResult)
    : Type 0 where
  pub exact : (front : List Event) → shown front ≡ run_result_by_digests header front
  pub headline : AreOneRun header events shown

-- A replay of a whole schedule.

-- how many requests were committed and snapshots issued
abbrev pub ReportsReplay : ReplayStage → Report → Type 0
ReportsReplay (AtHeading heading) report = (report.committed ≡ 0) × (report.issued ≡ 0)
ReportsReplay (InEvents r) report =
    (report.committed ≡ r.stage.digests.count) × (report.issued ≡ length r.stage.issued)

-- What was taken of the input and written fits the answer line by line; and as a whole it is the
-- replies to the events, with the headline.
abbrev pub ReplaysSchedule : (left left' received received' : Option (List ℕ))
    → Result Report ReplayFault
    → Type 0
ReplaysSchedule left left' received received' result =
    PlaysEvents replay_player IsByDigests replay_heads replay_stage ReportsReplay
    (stream_standing left received) (stream_standing left' received') result

-- What follows of what is told of a whole replay.

-- Of each first part of the events that meets the premises the headline says one run: a premise
-- that breaks later costs nothing of it.
abbrev pub PremisesGiveOneRun : Type 0
PremisesGiveOneRun =
    (header : Header) (events : List Event) (shown : List Event → RunResult)
    → AreOneRun header events shown → (front later : List Event) → events ≡ front ++ later
    → IsClearRun (world_of header) front → IsGenuineRun (world_of header) front
    → IsPromisedRun (world_of header) header.«module» front (shown front)

-- And so it does of each up to the first event that gives evidence.
abbrev pub OneRunUntilEvidence : Type 0
OneRunUntilEvidence =
    (header : Header) (events : List Event) (shown : List Event → RunResult)
    → AreOneRun header events shown
    → RunsUntil (HasEvidence (world_of header)) events
    (λ front. IsPromisedRun (world_of header) header.«module» front (shown front))

-- The whole replay is that of each first part of the events, and then of the rest.
abbrev pub ReplaysGoOn : Type 0
ReplaysGoOn =
    (header : Header) (events : List Event) (shown : List Event → RunResult)
    → IsByDigests header events shown → (front rest : List Event) → events ≡ front ++ rest →
    let i = world_of header in
    let it : RunOutcome Digests = outcome_by_digests i front in
    (shown front ≡ run_result_of it) × (shown events ≡ run_result_of (outcome_joined_to it
    (outcome_of_events i (digest_level i) it.state it.issued rest)))
