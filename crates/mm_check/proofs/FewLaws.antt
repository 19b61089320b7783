-- An event has few messages, and is answered by few lines. With it: the run of the events that are
-- read.
use Rattle.std.specs.Prelude.{IfOk}
use Rattle.std.proofs.lemmas.List.Sums.{count_by-le-length, length-filter}
use Rattle.mm_seal.specs.Snapshot.{Content}
use Rattle.mm_seal.specs.declared.snapshot.Place.{Place}
use Rattle.mm_seal.specs.declared.snapshot.Place.TheVariants.{Basic as InBasic, Opt as InOpt}
use Rattle.mm_platform.specs.Standing.{due_values}
use Rattle.mm_platform.specs.declared.fault.StepFault.{StepFault}
use Rattle.mm_module.specs.RunLaws.{length-outputs_from}
use Rattle.mm_model.specs.Moves.{Digests}
use Rattle.mm_model.specs.declared.refusal.Refusal.{Refusal}
use Rattle.mm_call.specs.CallFinding.{last_outputs, finding_unless_wanting, is_fresh, Level}
use Rattle.mm_call.specs.CallOutcome.{call_ending_by, position_of, state_seen, call_outcome, position_if_committed}
use Rattle.mm_call.specs.Checkpoints.{CheckpointEnding, Stops, checkpoint_outcome}
use Rattle.mm_schedule.specs.declared.event.Event.TheVariants as code
use Rattle.mm_schedule.specs.declared.event.Meddles.{Meddles}
use Rattle.mm_schedule.specs.declared.reply.Way.{Way}
use Rattle.mm_outcome.proofs.Above.{broken_reply}
use Rattle.mm_play.specs.Stage.{play_state}
use Rattle.mm_play.specs.StageLaws.{few_left}
use Rattle.mm_check.proofs.Below.{ℕ, ◌+◌, ◌*◌, ◌≤◌, Bool, true, false, cond, List, [], ◌∷◌, ◌++◌, length, map, Option, None, Some, arith}
use Rattle.mm_check.proofs.Below.{length-append, ◌==◌, fold, filter, list_any, bytes_eq, length-map, length-take, Variant, Basic, Opt}
use Rattle.mm_check.proofs.Below.{zero_bytes, anchored_message, anchored_digest_of, start_message, Batch, normal_batch, Meddle, Stop, guard}
use Rattle.mm_check.proofs.Below.{Instance, History, Move, Commit, Foreign, Close, history_after, first_history, is_long, messages_for_move}
use Rattle.mm_check.proofs.Below.{form_messages, offer_messages, DeviceStep, Reads, Changes, Writes, ask_steps, checkpoint_steps}
use Rattle.mm_check.proofs.Below.{right_messages, End, Done, Fails, StepFate, StepsWalk, step_moves, walk_from_step, walk, right_content}
use Rattle.mm_check.proofs.Below.{list_level, CodeEvent, Event, Ask, Checkpoint, event_of, meddles_of, offered_bytes, course_of}
use Rattle.mm_check.proofs.Below.{event_outcome, first_snapshots, moves_of, event_messages, ask_moves, asking_messages, messages_if}
use Rattle.mm_check.proofs.Below.{messages_where, numbered_event_messages, messages_with, numbered_messages_from, numbered_messages}
use Rattle.mm_check.proofs.Below.{events_of, Many, One, ◌≡◌, ◌-◌, Result, Ok, Err, refl, length-drop, most_members, size_of, outputs_from}
use Rattle.mm_check.proofs.Below.{requests_of, total_of, Course, has_commit, CallFinding, finding_at, state_after_moves, told_lines}
use Rattle.mm_check.proofs.Below.{lines_of_reply, end_line, way_of, reply_of, closing_reply, outcome_of_events, outcome_by_lists}
use Rattle.mm_check.proofs.Below.{in_any_way, short_size, lines_of_all, expected_lines, ◌∙◌, sym, ap, subst, append-nil, flat_map-append}
use Rattle.mm_check.proofs.Below.{map-append, Header, Reply, digest_level, Outcome, RunOutcome, first_digests, outcome_by_digests, world_of}
use Rattle.mm_check.proofs.Below.{goes_on, RunningReplay, is_too_much, replay_stage, replay_state_of, running_outcome, running_replay_after}
use Rattle.mm_check.proofs.Below.{RunsBehind, ◌<◌, most_events, Verdicts, AreVerdicts, run_lines}

-- none, or few
unless_few : {A : Type 0} (long : Bool) (xs : List A) (n : ℕ) → length xs ≤ n → length (cond long [] xs) ≤ n
unless_few true xs n h = omega arith
unless_few false xs n h = h

-- the values before a step

due_few : (n : ℕ) (meddles : List Meddle) → length meddles ≤ 8 → length (due_values n meddles) ≤ 8
due_few n meddles few =
    omega (
      arith,
      few,
      length-map (filter (λ (m : Meddle). m.step == n) meddles) (λ (m : Meddle). m.value.bytes),
      length-filter (λ (m : Meddle). m.step == n) meddles,
      count_by-le-length (λ (m : Meddle). m.step == n) meddles,
    )

-- the moves of a walk

step_few : (step : DeviceStep) (made : Bool) (values : List (List ℕ)) → length values ≤ 8 → length (step_moves step made values) ≤ 9
step_few Reads made values h = omega (arith, h, length-map values Foreign)
step_few (Changes m) true values h = omega (arith, h, length-map values Foreign, length-append (map Foreign values) (m ∷ []))
step_few (Changes m) false values h = omega (arith, h, length-map values Foreign, length-append (map Foreign values) [])
step_few (Writes m) true values h = omega (arith, h, length-map values Foreign)
step_few (Writes m) false values h = omega (arith, h, length-map values Foreign)

ends_few : (step : DeviceStep) (values : List (List ℕ)) (ends : End) (rest : StepsWalk) (steps : List DeviceStep) → length values ≤ 8
    → length rest.moves ≤ 9 * length steps → length (walk_from_step step values ends rest).moves ≤ 9 * length (step ∷ steps)
ends_few step values Done rest steps h k =
    omega (arith, h, k, step_few step true values h, length-append (step_moves step true values) rest.moves)
ends_few step values (Fails fault made) rest steps h k = omega (arith, h, k, step_few step made values h)

walk_few : (fates : ℕ → StepFate) → ((n : ℕ) → length (fates n).brings ≤ 8) → (steps : List DeviceStep) (n : ℕ)
    → length (walk fates n steps).moves ≤ 9 * length steps
walk_few fates h [] n = omega arith
walk_few fates h (step ∷ steps) n =
    ends_few step (fates n).brings (fates n).ends (walk fates (n + 1) steps) steps (h n) (walk_few fates h steps (n + 1))

ask_few : (variant : Variant) (flag fresh : Bool) (b : Batch) → length (ask_steps variant flag fresh b) ≤ 5
ask_few Basic flag true b = omega arith
ask_few Opt true true b = omega arith
ask_few Opt false true b = omega arith
ask_few _ _ _ b = omega arith

close_few : (variant : Variant) (flag zero : Bool) → length (checkpoint_steps variant flag zero) ≤ 5
close_few Opt true true = omega arith
close_few _ _ _ = omega arith

walked_few : (stop : Stop) (meddles : List Meddle) (steps : List DeviceStep) → length meddles ≤ 8 → length steps ≤ 5
    → length (walk (course_of stop meddles).fates 1 steps).moves ≤ 45
walked_few stop meddles steps few h = omega (arith, h, walk_few (course_of stop meddles).fates (λ n. due_few n meddles few) steps 1)

asked_few : (i : Instance) (y : History) (meddles : List Meddle) (stop : Stop) (bytes : Option (List ℕ)) (b : Batch) → length meddles ≤ 8
    → length (ask_moves i y meddles stop bytes b) ≤ 45
asked_few i y meddles stop None b few = omega arith
asked_few i y meddles stop (Some bytes) b few =
    unless_few (is_long b) _ 45
    (walked_few stop meddles (ask_steps i.variant y.is_open _ (normal_batch b)) few (ask_few i.variant y.is_open _ (normal_batch b)))

-- an event of the code has at most eight meddles
counted_few : (meddles : Meddles) → length (meddles_of meddles) ≤ 8
counted_few meddles = let few = meddles.few in omega (arith, few, length-take meddles.count meddles.items)

moves_few : (i : Instance) (y : History) (issued : List (List ℕ)) (event : CodeEvent)
    → length (moves_of i y issued (event_of event)) ≤ 45
moves_few i y issued (code.Ask meddles stop offer request) =
    asked_few i y (meddles_of meddles) stop (offered_bytes issued offer) (One request) (counted_few meddles)
moves_few i y issued (code.Batch meddles stop offer text) =
    asked_few i y (meddles_of meddles) stop (offered_bytes issued offer) (Many text) (counted_few meddles)
moves_few i y issued (code.Checkpoint meddles stop) =
    walked_few stop (meddles_of meddles) (checkpoint_steps i.variant y.is_open _) (counted_few meddles)
    (close_few i.variant y.is_open _)
moves_few i y issued _ = omega arith

-- their messages

move_few : (variant : Variant) (flag : Bool) (i : Instance) (y : History) (m : Move) → length (messages_for_move variant flag i y m) ≤ 1
move_few Opt true i y (Commit b) = omega arith
move_few Opt false i y (Commit b) = omega arith
move_few _ _ i y _ = omega arith

if_few : (closing : Bool) (i : Instance) (y : History) (m : Move) → length (messages_if closing i y m) ≤ 1
if_few true i y Close = move_few i.variant y.is_open i y Close
if_few true i y _ = omega arith
if_few false i y Close = omega arith
if_few false i y m = move_few i.variant y.is_open i y m

where_few : (closing : Bool) (i : Instance) (y : History) (moves : List Move) → length (messages_where closing i y moves) ≤ length moves
where_few closing i y [] = omega arith
where_few closing i y (m ∷ moves) =
    omega (
      arith,
      if_few closing i y m,
      where_few closing i (history_after i y m) moves,
      length-append (messages_if closing i y m) (messages_where closing i (history_after i y m) moves),
    )

second_few : (none : Bool) (a e v : List ℕ)
    → length (form_messages a e v ++ cond none [] (anchored_message a e ∷ form_messages (anchored_digest_of a e) zero_bytes v)) ≤ 5
second_few true a e v = omega arith
second_few false a e v = omega arith

offer_few : (i : Instance) (place : Place) (b : Batch) → length (offer_messages i place b) ≤ 6
offer_few i (InBasic s) b = omega arith
offer_few i (InOpt a e) b = omega (arith, second_few (bytes_eq e.bytes zero_bytes) a.bytes e.bytes (guard i.barrier b))

right_few : (i : Instance) (b : Batch) (content : Option Content) → length (right_messages i b content) ≤ 6
right_few i b None = omega arith
right_few i b (Some content) = offer_few i content.place b

asking_few : (i : Instance) (bytes : Option (List ℕ)) (b : Batch) → length (asking_messages i bytes b) ≤ 6
asking_few i None b = omega arith
asking_few i (Some bytes) b =
    unless_few (is_long b) _ 6 (right_few i (normal_batch b) (right_content i bytes))

asks_few : (i : Instance) (issued : List (List ℕ)) (event : Event) → length (event_messages i issued event) ≤ 6
asks_few i issued (Ask meddles stop offer b) = asking_few i (offered_bytes issued offer) b
asks_few i issued (Checkpoint meddles stop) = omega arith
asks_few i issued _ = omega arith

pub heard_few : (i : Instance) (y : History) (issued : List (List ℕ)) (event : CodeEvent)
    → length (numbered_event_messages i y issued (event_of event)) ≤ 96
heard_few i y issued event =
    let moves = moves_of i y issued (event_of event) in
    let asks = event_messages i issued (event_of event) in
    omega (
      arith,
      asks_few i issued (event_of event),
      moves_few i y issued event,
      where_few false i y moves,
      where_few true i y moves,
      length-append (messages_where false i y moves) (messages_where true i y moves),
      length-append asks (messages_where false i y moves ++ messages_where true i y moves),
    )

from_few : (i : Instance) (y : History) (issued : List (List ℕ)) (events : List CodeEvent)
    → length (numbered_messages_from i y issued (events_of events)) ≤ 96 * length events
from_few i y issued [] = omega arith
from_few i y issued (event ∷ events) =
    let o = event_outcome i (list_level i) y issued (event_of event) in
    omega (
      arith,
      heard_few i y issued event,
      from_few i o.state o.issued events,
      length-append (numbered_event_messages i y issued (event_of event)) (numbered_messages_from i o.state o.issued (events_of events)),
    )

listed_one : (has : Bool) (seen : List (List ℕ)) (x : List ℕ) → length (cond has seen (seen ++ x ∷ [])) ≤ length seen + 1
listed_one true seen x = omega arith
listed_one false seen x = omega (arith, length-append seen (x ∷ []))

listed_few : (ms seen : List (List ℕ)) → length (fold messages_with seen ms) ≤ length seen + length ms
listed_few [] seen = omega arith
listed_few (x ∷ ms) seen = omega (arith, listed_few ms (messages_with seen x), listed_one (list_any (bytes_eq x) seen) seen x)

pub numbered_few : (i : Instance) (events : List CodeEvent) → length (numbered_messages i (events_of events)) ≤ 1 + 96 * length events
numbered_few i events =
    omega (
      arith,
      listed_few (numbered_messages_from i first_history (first_snapshots i) (events_of events)) (start_message i.variant i.meaning.id
          ∷ []),
      from_few i first_history (first_snapshots i) events,
    )

-- the lines of its reply

told_length : (again : Bool) (before : ℕ) (outputs : List (List ℕ)) → length (told_lines again before outputs) ≡ length outputs
told_length again before [] = refl
told_length again before (o ∷ outputs) = omega (arith, told_length again (before + 1) outputs)

last_few : (i : Instance) (y : History) (n : ℕ) → length (last_outputs i.meaning y n) ≤ n
last_few i y n =
    let outs = outputs_from i.meaning i.meaning.first (requests_of y.batches) in
    omega (arith, length-drop (total_of y.batches - n) outs, length-outputs_from i.meaning i.meaning.first (requests_of y.batches))

broken_few : (how : Way) (kept : Option ℕ) → length (lines_of_reply (broken_reply how kept)) ≤ most_members
broken_few how None = omega arith
broken_few how (Some position) = omega arith

ended_few : (i : Instance) (seen y : History) (how : Way) (b : Batch) (found : Result CallFinding Refusal) (moves : List Move)
    (broken : Option StepFault) → size_of b ≤ most_members
    → length (lines_of_reply (reply_of how (call_ending_by (list_level i) seen y b found moves broken))) ≤ most_members
ended_few i seen y how b found moves (Some fault) h =
    broken_few how (position_if_committed (has_commit moves) (position_of (list_level i) seen y b found))
ended_few i seen y how b (Err why) moves None h = omega arith
ended_few i seen y how b (Ok it) moves None h =
    omega (
      arith,
      h,
      last_few i y (size_of b),
      told_length it.again (total_of y.batches - length (last_outputs i.meaning y (size_of b))) (last_outputs i.meaning y (size_of b)),
    )

called_few : (i : Instance) (y : History) (how : Way) (c : Course) (bytes : List ℕ) (b : Batch) → size_of b ≤ most_members
    → length (lines_of_reply (reply_of how (call_outcome i (list_level i) y c bytes b).ending)) ≤ most_members
called_few i y how c bytes b h =
    let seen : History = state_seen i (list_level i) y c in
    let found : Result CallFinding Refusal = finding_unless_wanting (finding_at i (list_level i) seen b bytes) c.lacks in
    let w : StepsWalk = walk c.fates 1 (ask_steps i.variant y.is_open (is_fresh found) b) in
    ended_few i seen (state_after_moves (list_level i) y w.moves) how b found w.moves w.broken h

closing_few : (how : Way) (closing : CheckpointEnding) → length (lines_of_reply (closing_reply how closing)) ≤ most_members
closing_few how (Stops fault true) = omega arith
closing_few how _ = omega arith

event_lines_few : (i : Instance) (y : History) (issued : List (List ℕ)) (event : Event)
    → length (lines_of_reply (event_outcome i (list_level i) y issued event).reply) ≤ most_members
event_lines_few i y issued event = in_any_way i (list_level i) y issued (λ o. length (lines_of_reply o.reply) ≤ most_members) (record {
  refused = λ why. omega arith;
  call = λ stop meddles bytes b short.
      called_few i y (way_of stop) (course_of stop meddles) bytes (normal_batch b) (short_size b short);
  check = λ stop meddles. closing_few (way_of stop) (checkpoint_outcome i (list_level i) y (course_of stop meddles)).ending;
  power = omega arith;
  extend = λ value. omega arith;
}) event

replies_few : (i : Instance) (events : List Event) (y : History) (issued : List (List ℕ))
    → length (lines_of_all (outcome_of_events i (list_level i) y issued events).replies) ≤ most_members * length events
replies_few i [] y issued = omega arith
replies_few i (event ∷ events) y issued =
    let o = event_outcome i (list_level i) y issued event in
    omega (
      arith,
      event_lines_few i y issued event,
      replies_few i events o.state o.issued,
      length-append (lines_of_reply o.reply) (lines_of_all (outcome_of_events i (list_level i) o.state o.issued events).replies),
    )

pub expected_few : (i : Instance) (events : List Event) → length (expected_lines i events) ≤ most_members * length events + 1
expected_few i events =
    omega (
      arith,
      replies_few i events first_history (first_snapshots i),
      length-append (lines_of_all (outcome_by_lists i events).replies)
          (end_line (total_of (outcome_by_lists i events).state.batches) (length (outcome_by_lists i events).issued) ∷ []),
    )

-- The run of the events that are read.

outcome_same : (header : Header) (r : RunningReplay) (f : RunOutcome Digests) (event : Event) → r.header ≡ header → r.digests ≡ f.state
    → r.issued ≡ f.issued → running_outcome r event ≡ event_outcome (world_of header) (digest_level (world_of header))
    f.state f.issued event
outcome_same header r f event h d s =
    λ j. event_outcome (world_of (h j)) (digest_level (world_of (h j))) (d j) (s j) event

-- the lines of one event more
pub lines-push : {S : Type 0} (i : Instance) (level : Level S) (s : S) (issued : List (List ℕ)) (es : List Event) (e : Event)
    → (let f : RunOutcome S = outcome_of_events i level s issued es in
    lines_of_all (outcome_of_events i level s issued (es ++ e ∷ [])).replies
    ≡ lines_of_all f.replies ++ lines_of_reply (event_outcome i level f.state f.issued e).reply)
lines-push {S} i level s issued es e =
    let f = outcome_of_events i level s issued es in
    let said = (event_outcome i level f.state f.issued e).reply in
    ap (λ (g : RunOutcome S). lines_of_all g.replies) (goes_on i level es (e ∷ []) s issued)
    ∙ flat_map-append lines_of_reply f.replies (said ∷ [])
    ∙ ap (λ (l : List (List ℕ)). lines_of_all f.replies ++ l) (append-nil (lines_of_reply said))

-- one event more
pub is_run_next : (header : Header) {r next : RunningReplay} (events : List CodeEvent) {longer : List CodeEvent} {told more : List (List ℕ)}
    (line : List ℕ) (event : CodeEvent) {reply : Reply} → RunsBehind header r (events_of events) told → is_too_much r line ≡ false
    → reply ≡ (running_outcome r (event_of event)).reply → next ≡ running_replay_after r line (event_of event) → longer ≡ events ++ event
    ∷ []
    → more ≡ told ++ lines_of_reply reply → RunsBehind header next (events_of longer) more
is_run_next header {r} events {longer} {told} {more} line event h room said is grown lines =
    let i = world_of header in
    let f = outcome_by_digests i (events_of events) in
    let e = event_of event in
    let o = event_outcome i (digest_level i) f.state f.issued e in
    let same = outcome_same header r f e h.same h.digests h.issued in
    let on = goes_on i (digest_level i) (events_of events) (e ∷ []) (first_digests i) (first_snapshots i) in
    let all : events_of longer ≡ events_of events ++ e ∷ [] = ap events_of grown ∙ map-append event_of events (event ∷ []) in
    let behind : RunsBehind header (running_replay_after r line e) (events_of events ++ e ∷ []) more = record {
      same = h.same;
      digests = ap (λ (x : Outcome Digests). x.state) same ∙ sym (ap (λ (g : RunOutcome Digests). g.state) on);
      issued = ap (λ (x : Outcome Digests). x.issued) same ∙ sym (ap (λ (g : RunOutcome Digests). g.issued) on);
      lines = lines ∙ (λ j. h.lines j ++ lines_of_reply ((said ∙ ap (λ (x : Outcome Digests). x.reply) same) j))
          ∙ sym (lines-push i (digest_level i) (first_digests i) (first_snapshots i) (events_of events) e);
      count = omega (arith, h.count, length-append (events_of events) (e ∷ []));
      few = omega (arith, few_left replay_stage (play_state (replay_state_of r) r.read) line room);
    } in
    subst (λ (x : RunningReplay). RunsBehind header x (events_of longer) more) (sym is)
    (subst (λ (es : List Event). RunsBehind header (running_replay_after r line e) es more) (sym all) behind)

-- few lines are expected
pub lines_short : (header : Header) (events : List CodeEvent) {lines : List (List ℕ)} → length events ≤ most_events
    → lines ≡ expected_lines (world_of header) (events_of events) → length lines < 4294967295
lines_short header events few is =
    omega (arith, few, ap length is, length-map events event_of, expected_few (world_of header) (events_of events))

-- the lines of the run itself, with its last line
pub run_verdicts : {E : Type 0} (r : Result Verdicts E) (header : Header) (running : RunningReplay) (events slice : List CodeEvent)
    (told : List (List ℕ)) {committed issued : ℕ}
    → RunsBehind header running (events_of events) told → slice ≡ events → committed ≡ running.digests.count
    → issued ≡ length running.issued
    → IfOk r (AreVerdicts header (events_of slice) (told ++ end_line committed issued ∷ []))
    → IfOk r (AreVerdicts header (events_of events) (run_lines (world_of header) (events_of events)))
run_verdicts r header running events slice told {committed = committed} {issued = issued} h same n k given =
    let lines : List (List ℕ) = run_lines (world_of header) (events_of events) in
    let whole : told ++ end_line committed issued ∷ [] ≡ lines =
    (λ j. h.lines j ++ end_line ((n ∙ ap (λ (d : Digests). d.count) h.digests) j) ((k ∙ ap length h.issued) j) ∷ []) in
    subst (λ (l : List CodeEvent). IfOk r (AreVerdicts header (events_of l) lines)) same
    (subst (λ (t : List (List ℕ)). IfOk r (AreVerdicts header (events_of slice) t)) whole given)
