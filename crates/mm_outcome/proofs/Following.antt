-- A schedule gives the same by digests as by lists. With it: parts of what the definitions say of a
-- call, which proofs speak of alone; what holds of an event's outcome in each way that it may go.
use Rattle.std.specs.Option.{option_map_or}
use Rattle.mm_model.specs.declared.answer.BatchAnswer.{BatchAnswer}
use Rattle.mm_call.specs.CallFinding.{right_content}
use Rattle.mm_schedule.specs.declared.reply.Cause.{Cause}
use Rattle.mm_schedule.specs.declared.reply.Cause.TheVariants as cause
use Rattle.mm_schedule.specs.declared.reply.Reply.{Reply}
use Rattle.mm_schedule.specs.declared.reply.Reply.TheVariants as reply
use Rattle.mm_schedule.specs.declared.reply.Way.{Way}
use Rattle.mm_outcome.specs.OneRun.{IsEventWithin}
use Rattle.mm_outcome.proofs.Below.{ℕ, ◌-◌, length, Bool, List, [], Option, if◌then◌else◌, Batch, normal_batch, History, Move, Instance}
use Rattle.mm_outcome.proofs.Below.{is_long, call_outcome, right_messages, list_level, course_of, Meddle, Stop, ◌≡◌, true, false, None}
use Rattle.mm_outcome.proofs.Below.{Some, refl, Foreign, PowerMove, Level, checkpoint_outcome, Event, Ask, Checkpoint, Power, Extend}
use Rattle.mm_outcome.proofs.Below.{offered_bytes, Outcome, outcome_by, outcome_without_call, ask_event_outcome, checkpoint_event_outcome}
use Rattle.mm_outcome.proofs.Below.{event_outcome, ◌∷◌, Cut, CallEnding, Breaks, CheckpointEnding, Stops, moves_after_stop}
use Rattle.mm_outcome.proofs.Below.{moves_after_call, moves_after_checkpoint, ◌+◌, ◌++◌, map, sym, ap, subst, AllByRecursion, Contains}
use Rattle.mm_outcome.proofs.Below.{history_after, AreMessagesIn, Digests, digests_after, IsGenuine, each_left, each_right, digest_level}
use Rattle.mm_outcome.proofs.Below.{state_after_moves, CallOutcome, CheckpointOutcome, IsSameCheckpoint, messages_of_moves, IsSameCall}
use Rattle.mm_outcome.proofs.Below.{way_of, reply_of, snapshots_of, closing_reply, outcome_of_events, moves_of, event_messages}
use Rattle.mm_outcome.proofs.Below.{messages_from, event_foreign_values, batches_of, AreGenuine, foreign_values, asked_batches}
use Rattle.mm_outcome.proofs.Below.{IsGenuineOffer, AgreesThroughout, KeepsHistory, IsSameOutcome, start_message, first_history}
use Rattle.mm_outcome.proofs.Below.{first_digests, first_snapshots, run_messages, outcome_by_lists, outcome_by_digests, IsGenuineRun}
use Rattle.mm_outcome.proofs.Below.{each_self}

-- Parts of what the definitions say of a call, which proofs speak of alone.

-- the reply that tells an answer; to a call that was broken off, and to a checkpoint
abbrev pub told_reply : BatchAnswer → Reply
told_reply answer = reply.Told answer.again (answer.position - length answer.outputs) answer.outputs

abbrev pub broken_reply : Way → Option ℕ → Reply
broken_reply how kept = option_map_or (λ position. reply.Kept how position) kept (reply.Nothing how)

abbrev pub stopped_reply : Way → Bool → Reply
stopped_reply how closed = if closed then reply.Closed how else reply.Nothing how

-- the moves of a call that is asked, and the messages of what is asked of a right offer
abbrev pub ask_moves : Instance → History → List Meddle → Stop → Option (List ℕ) → Batch → List Move
ask_moves i y meddles stop offered b =
    option_map_or (λ bytes. if is_long b then [] else (call_outcome i (list_level i) y (course_of stop meddles) bytes
    (normal_batch b)).moves) offered []

abbrev pub asking_messages : Instance → Option (List ℕ) → Batch → List (List ℕ)
asking_messages i offered b =
    option_map_or (λ bytes. if is_long b then [] else right_messages i (normal_batch b) (right_content i bytes)) offered []

-- What holds of an event's outcome in each way that it may go.

unless_long : {A : Type 0} (P : A → Type 0) (long : Bool) (x z : A) → P x → (long ≡ false → P z) → P (if long then x else z)
unless_long P true x z p q = p
unless_long P false x z p q = q refl

module _ {S : Type 0} (i : Instance) (level : Level S) (s : S) (issued : List (List ℕ)) (P : Outcome S → Type 0) where
  -- nothing was called, and a call was made, whose batch isn't too long
  pub asked_either : (meddles : List Meddle) (stop : Stop) (offered : Option (List ℕ)) (b : Batch)
      → ((why : Cause) → P (outcome_without_call s issued (reply.No why))) → ((bytes : List ℕ) → is_long b ≡ false
      → P (outcome_by level stop issued (call_outcome i level s (course_of stop meddles) bytes (normal_batch b))))
      → P (ask_event_outcome i level s issued meddles stop offered b)
  asked_either meddles stop None b refused call = refused cause.Snapshot
  asked_either meddles stop (Some bytes) b refused call = unless_long P (is_long b) _ _ (refused cause.Long) (call bytes)

  pub record InEachWay : Type 0 where
    pub refused : (why : Cause) → P (outcome_without_call s issued (reply.No why))
    pub call : (stop : Stop) (meddles : List Meddle) (bytes : List ℕ) (b : Batch) → is_long b ≡ false
        → P (outcome_by level stop issued (call_outcome i level s (course_of stop meddles) bytes (normal_batch b)))
    pub check : (stop : Stop) (meddles : List Meddle)
        → P (checkpoint_event_outcome level stop issued (checkpoint_outcome i level s (course_of stop meddles)))
    pub power : P (outcome_without_call (level.made s PowerMove) issued reply.Power)
    pub extend : (value : List ℕ) → P (outcome_without_call (level.made s (Foreign value)) issued reply.Extended)

  pub in_any_way : InEachWay → (event : Event) → P (event_outcome i level s issued event)
  in_any_way each (Ask meddles stop offer b) =
      asked_either meddles stop (offered_bytes issued offer) b each.refused (λ bytes short. each.call stop meddles bytes b short)
  in_any_way each (Checkpoint meddles stop) = each.check stop meddles
  in_any_way each Power = each.power
  in_any_way each (Extend value) = each.extend value

-- what holds of no moves and of a loss of power holds of those that follow a stop
module _ (P : List Move → Type 0) (none : P []) (power : P (PowerMove ∷ [])) where
  stop_all : (stop : Stop) → P (moves_after_stop stop)
  stop_all (Cut n) = power
  stop_all stop = none

  pub then_all : (stop : Stop) (ending : CallEnding) → P (moves_after_call stop ending)
  then_all stop (Breaks fault kept) = stop_all stop
  then_all stop ending = none

  pub closing_all : (stop : Stop) (closing : CheckpointEnding) → P (moves_after_checkpoint stop closing)
  closing_all stop (Stops fault closed) = stop_all stop
  closing_all stop closing = none

-- A schedule gives the same by digests as by lists: one induction over events, for both variants.

-- What is asked of a call of an event: the values of others are among those told, the batch is asked, the messages of a right offer,
-- which names a position, are listed, and those of the moves.
pub record IsCallWithin (all others : List (List ℕ)) (asked_for : List Batch) (i : Instance) (y : History) (stop : Stop)
    (meddles : List Meddle) (bytes : List ℕ) (b : Batch) : Type 0 where
  pub outside : AllByRecursion (Contains others) (map (λ m. m.value.bytes) meddles)
  pub is_asked : Contains asked_for b
  pub listed : AreMessagesIn (right_messages i b (right_content i bytes)) all
  pub genuine : IsGenuine i y bytes
  pub messages : AreMessagesIn (messages_of_moves i y (call_outcome i (list_level i) y (course_of stop meddles) bytes b).moves) all

-- What one variant gives: the laws of calls and of checkpoints on a planned course, by the moves by lists; that a loss of
-- power and a value of others keep what holds; and that it holds at the start.
pub record Variants (all others : List (List ℕ)) (asked_for : List Batch) (i : Instance) : Type 0 where
  pub calls : (y : History) (d : Digests) (stop : Stop) (meddles : List Meddle) (bytes : List ℕ) (b : Batch)
      → KeepsHistory all others asked_for i y d → IsCallWithin all others asked_for i y stop meddles bytes b
      → IsSameCall all others asked_for i (call_outcome i (list_level i) y (course_of stop meddles) bytes b)
      (call_outcome i (digest_level i) d (course_of stop meddles) bytes b)
  pub checkpoints : (y : History) (d : Digests) (stop : Stop) (meddles : List Meddle) → KeepsHistory all others asked_for i y d
      → AllByRecursion (Contains others) (map (λ m. m.value.bytes) meddles)
      → AreMessagesIn (messages_of_moves i y (checkpoint_outcome i (list_level i) y (course_of stop meddles)).moves) all
      → IsSameCheckpoint all others asked_for i (checkpoint_outcome i (list_level i) y (course_of stop meddles))
      (checkpoint_outcome i (digest_level i) d (course_of stop meddles))
  pub power : (y : History) (d : Digests) → KeepsHistory all others asked_for i y d
      → KeepsHistory all others asked_for i (history_after i y PowerMove) (digests_after i d PowerMove)
  pub foreign : (y : History) (d : Digests) (v : List ℕ) → KeepsHistory all others asked_for i y d → Contains others v
      → AreMessagesIn (messages_of_moves i y (Foreign v ∷ [])) all → KeepsHistory all others asked_for i (history_after i y (Foreign v))
      (digests_after i d (Foreign v))
  pub starts : Contains all (start_message i.variant i.meaning.id) → KeepsHistory all others asked_for i first_history (first_digests i)

module _ (all others : List (List ℕ)) (asked_for : List Batch) (i : Instance) (v : Variants all others asked_for i) where
  abbrev Kept : History → Digests → Type 0
  Kept y d = KeepsHistory all others asked_for i y d

  abbrev Same : Outcome History → Outcome Digests → Type 0
  Same o p = IsSameOutcome all others asked_for i o p

  abbrev Then : History → Digests → List Move → Type 0
  Then y d moves = Kept (state_after_moves (list_level i) y moves) (state_after_moves (digest_level i) d moves)

  outcome_same : (stop : Stop) (issued : List (List ℕ)) (o : CallOutcome History) (p : CallOutcome Digests)
      → IsSameCall all others asked_for i o p
      → Same (outcome_by (list_level i) stop issued o) (outcome_by (digest_level i) stop issued p)
  outcome_same stop issued o p s =
      let k : Kept o.state p.state = record { agrees = s.agrees; within = s.within } in record {
        reply = ap (reply_of (way_of stop)) s.ending;
        issued = ap (λ e. issued ++ snapshots_of e) s.ending;
        steps = s.steps;
        writes = s.writes;
        keeps = rw s.ending (then_all (Then o.state p.state) k (v.power o.state p.state k) stop o.ending);
      }

  closed_same : (stop : Stop) (issued : List (List ℕ)) (o : CheckpointOutcome History) (p : CheckpointOutcome Digests)
      → IsSameCheckpoint all others asked_for i o p
      → Same (checkpoint_event_outcome (list_level i) stop issued o) (checkpoint_event_outcome (digest_level i) stop issued p)
  closed_same stop issued o p s =
      let k : Kept o.state p.state = record { agrees = s.agrees; within = s.within } in record {
        reply = ap (closing_reply (way_of stop)) s.ending;
        issued = refl;
        steps = s.steps;
        writes = s.writes;
        keeps = rw s.ending (closing_all (Then o.state p.state) k (v.power o.state p.state k) stop o.ending);
      }

  uncalled_same : (y : History) (d : Digests) (issued : List (List ℕ)) (said : Reply) → Kept y d
      → Same (outcome_without_call y issued said) (outcome_without_call d issued said)
  uncalled_same y d issued said k = record { reply = refl; issued = refl; steps = refl; writes = refl; keeps = k }

  -- a call, unless its batch is too long
  asked_same : (y : History) (d : Digests) (issued : List (List ℕ)) (meddles : List Meddle) (stop : Stop) (bytes : List ℕ) (b : Batch)
      (long : Bool) → Kept y d → AllByRecursion (Contains others) (map (λ m. m.value.bytes) meddles)
      → AllByRecursion (Contains asked_for) (if long then [] else b ∷ [])
      → AreMessagesIn (if long then [] else right_messages i b (right_content i bytes)) all → IsGenuine i y bytes
      → (let lists : CallOutcome History = call_outcome i (list_level i) y (course_of stop meddles) bytes b in
      let digests : CallOutcome Digests = call_outcome i (digest_level i) d (course_of stop meddles) bytes b in
      AreMessagesIn (messages_of_moves i y (if long then [] else lists.moves)) all
      → Same (if long then outcome_without_call y issued (reply.No cause.Long) else outcome_by (list_level i) stop issued lists)
      (if long then outcome_without_call d issued (reply.No cause.Long) else outcome_by (digest_level i) stop issued digests))
  asked_same y d issued meddles stop bytes b true k outside batches listed genuine messages =
      uncalled_same y d issued (reply.No cause.Long) k
  asked_same y d issued meddles stop bytes b false k outside batches listed genuine messages = outcome_same stop issued _ _
      (v.calls y d stop meddles bytes b k
      (record { outside = outside; is_asked = batches.0; listed = listed; genuine = genuine; messages = messages }))

  offered_same : (y : History) (d : Digests) (issued : List (List ℕ)) (meddles : List Meddle) (stop : Stop) (bytes : Option (List ℕ))
      (b : Batch) → Kept y d → AllByRecursion (Contains others) (map (λ m. m.value.bytes) meddles)
      → AllByRecursion (Contains asked_for) (if is_long b then [] else normal_batch b ∷ []) → AreMessagesIn (asking_messages i bytes b) all
      → IsGenuineOffer i y bytes → AreMessagesIn (messages_of_moves i y (ask_moves i y meddles stop bytes b)) all
      → Same (ask_event_outcome i (list_level i) y issued meddles stop bytes b)
      (ask_event_outcome i (digest_level i) d issued meddles stop bytes b)
  offered_same y d issued meddles stop None b k outside batches listed genuine messages =
      uncalled_same y d issued (reply.No cause.Snapshot) k
  offered_same y d issued meddles stop (Some bytes) b k outside batches listed genuine messages =
      asked_same y d issued meddles stop bytes (normal_batch b) (is_long b) k outside batches listed genuine messages

  pub event_same : (y : History) (d : Digests) (issued : List (List ℕ)) (event : Event) → Kept y d
      → IsEventWithin all others asked_for i y issued event
      → Same (event_outcome i (list_level i) y issued event) (event_outcome i (digest_level i) d issued event)
  event_same y d issued (Ask meddles stop offer b) k w =
      offered_same y d issued meddles stop (offered_bytes issued offer) b k w.outside w.batches w.listed w.genuine w.messages
  event_same y d issued (Checkpoint meddles stop) k w =
      closed_same stop issued _ _ (v.checkpoints y d stop meddles k w.outside w.messages)
  event_same y d issued Power k w = uncalled_same _ _ issued reply.Power (v.power y d k)
  event_same y d issued (Extend value) k w = uncalled_same _ _ issued reply.Extended (v.foreign y d value k w.outside.0 w.messages)

  pub follow_same : (events : List Event) (y : History) (d : Digests) (issued : List (List ℕ)) → Kept y d
      → AllByRecursion (Contains others) (foreign_values events) → AllByRecursion (Contains asked_for) (asked_batches events)
      → AreMessagesIn (messages_from i y issued events) all → AreGenuine i y issued events
      → AgreesThroughout i (outcome_of_events i (list_level i) y issued events) (outcome_of_events i (digest_level i) d issued events)
  follow_same [] y d issued k outside among listed genuine =
      record { replies = refl; issued = refl; steps = refl; writes = refl; stands = k.agrees }
  follow_same (event ∷ events) y d issued k outside among listed genuine =
      let o : Outcome History = event_outcome i (list_level i) y issued event in
      let p : Outcome Digests = event_outcome i (digest_level i) d issued event in
      let C : List ℕ → Type 0 = Contains all in
      let here : List (List ℕ) = event_messages i issued event ++ messages_of_moves i y (moves_of i y issued event) in
      let front = each_left C here (messages_from i o.state o.issued events) listed in
      let back = each_right C here (messages_from i o.state o.issued events) listed in
      let same = event_same y d issued event k (record {
        outside = each_left (Contains others) (event_foreign_values event) (foreign_values events) outside;
        batches = each_left (Contains asked_for) (batches_of event) (asked_batches events) among;
        listed = each_left C (event_messages i issued event) (messages_of_moves i y (moves_of i y issued event)) front;
        genuine = genuine.0;
        messages = each_right C (event_messages i issued event) (messages_of_moves i y (moves_of i y issued event)) front;
      }) in
      let rest = follow_same events o.state p.state o.issued same.keeps
      (each_right (Contains others) (event_foreign_values event) (foreign_values events) outside)
      (each_right (Contains asked_for) (batches_of event) (asked_batches events) among) back genuine.1 in
      let P : List (List ℕ)
      → Type 0 = λ w. AgreesThroughout i (outcome_of_events i (list_level i) o.state o.issued events)
      (outcome_of_events i (digest_level i) p.state w events) in
      let later = subst P (sym same.issued) rest in
      record {
        replies = λ j. same.reply j ∷ later.replies j;
        issued = later.issued;
        steps = λ j. same.steps j + later.steps j;
        writes = λ j. same.writes j + later.writes j;
        stands = later.stands;
      }

-- a run from the start, within its own messages, values and batches
pub expected_from : (i : Instance) (events : List Event)
    → Variants (run_messages i events) (foreign_values events) (asked_batches events) i → IsGenuineRun i events
    → AgreesThroughout i (outcome_by_lists i events) (outcome_by_digests i events)
expected_from i events v genuine =
    let self = each_self [] (run_messages i events) in
    follow_same (run_messages i events) (foreign_values events) (asked_batches events) i v events first_history (first_digests i)
    (first_snapshots i) (v.starts self.0) (each_self [] (foreign_values events)) (each_self [] (asked_batches events)) self.1 genuine
