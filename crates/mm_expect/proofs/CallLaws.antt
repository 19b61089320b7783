-- Where the snapshot of an answer stands, by the marks; and a call in a schedule, by its parts.
-- With it: a checkpoint by lists, step by step; a list that is copied member by member.
use Rattle.std.specs.Borrow.{Bor}
use Rattle.std.specs.Prelude.{option_copied}
use Rattle.std.proofs.lemmas.List.{take_more}
use Rattle.std.proofs.lemmas.Option.{get_or_from_slice_get, slice_get-get_or}
use Rattle.mm_digest.specs.Messages.{anchored_message}
use Rattle.mm_digest.specs.declared.digest.Digest.{Digest}
use Rattle.mm_model.specs.Chains.{guard}
use Rattle.mm_model.specs.History.{Commit, history_after_commit, register_value_of}
use Rattle.mm_model.specs.Messages.{messages_for_move, move_messages}
use Rattle.mm_call.specs.CallKind.{is_broken}
use Rattle.mm_call.specs.CallPremises.{right_messages}
use Rattle.mm_call.specs.Checkpoints.{CheckpointOutcome, checkpoint_outcome}
use Rattle.mm_call.specs.Checkpoints as ghost_closing
use Rattle.mm_schedule.specs.Events.{Checkpoint}
use Rattle.mm_outcome.specs.Premises.{closing_reply, moves_after_checkpoint}
use Rattle.mm_expect.specs.ChronicleView.{extension_messages, segment_closing_messages, ending_of_closing, is_broken_off}
use Rattle.mm_expect.specs.ChronicleView.{ChronicleGoesByCheckpoint, ChronicleGoesByEvent, ChronicleClosesBy}
use Rattle.mm_expect.specs.declared.calls.ClosingResult.{ClosingResult}
use Rattle.mm_expect.specs.declared.calls.ClosingResult.TheVariants.{HasNone, NoSegment, LostPower}
use Rattle.mm_expect.proofs.Asking.{read_seen}
use Rattle.mm_expect.proofs.Below.{ℕ, ◌≡◌, Bool, true, false, List, [], ◌∷◌, ◌++◌, refl, sym, ap, ◌∙◌, append_assoc, option_to_list}
use Rattle.mm_expect.proofs.Below.{Variant, Opt, zero_bytes, Meddle, Stop, Batch, InOpt, Instance, History, cell_digest_of, issued_place}
use Rattle.mm_expect.proofs.Below.{digest_of, AskResult, Answered, Refused, Broken, CallOutcome, right_content, list_level}
use Rattle.mm_expect.proofs.Below.{state_after_moves, way_of, reply_of, snapshots_of, moves_after_call, moves_after_stop, HistoryMarks}
use Rattle.mm_expect.proofs.Below.{EventReply, ChronicleCalls, ending_of, ChronicleGoesByCall, call_outcome_on, listed_chronicle, moves_if}
use Rattle.mm_expect.proofs.Below.{marks_of, ChronicleView, ChronicleGoes, instance_with, chronicle_instance, append-nil, None, course_of}
use Rattle.mm_expect.proofs.Below.{Closes, Stops, Option, Some, subst, StepFault, fault_at, is_made_at, Close, life_of, is_lost, DeviceStep}
use Rattle.mm_expect.proofs.Below.{Reads, Writes, checkpoint_steps, StepFate, StepsWalk, walk_from_step, walk, moves_seen, has_close}
use Rattle.mm_expect.proofs.Below.{fate_by_plan, end_of, reading_steps, state_seen, finished_walk, closes-append, closes-foreign}
use Rattle.mm_expect.proofs.Below.{ClosesNone, shut_along, walk_along, plan_of, last_steps, ChronicleWalks, ◌<◌, ◌+◌, length, take}
use Rattle.mm_expect.proofs.Below.{slice_get}
use Rattle.mm_expect.proofs.Settling.{broken_walked, then_walked, walks_broken, walks_then}

cell_at_anchor : (i : Instance) (y : History) (m : HistoryMarks) → m ≡ marks_of i y → i.variant ≡ Opt
    → m.cell ≡ digest_of (cell_digest_of i Opt y)
cell_at_anchor i y m e v = ap (λ (x : HistoryMarks). x.cell) e ∙ ap (λ (x : Variant). digest_of (cell_digest_of i x y)) v

place_is : (i : Instance) (y : History) (flag : Bool) → i.variant ≡ Opt → y.is_open ≡ flag
    → issued_place Opt flag i y ≡ issued_place i.variant y.is_open i y
place_is i y flag v o = λ j. issued_place (sym v j) (sym o j) i y

pub place_open : (i : Instance) (y : History) (m : HistoryMarks) → m ≡ marks_of i y → i.variant ≡ Opt → y.is_open ≡ true
    → InOpt m.cell m.own ≡ issued_place i.variant y.is_open i y
place_open i y m e v o = (λ j. InOpt (cell_at_anchor i y m e v j) (ap (λ (x : HistoryMarks). x.own) e j)) ∙ place_is i y true v o

pub place_shut : (i : Instance) (y : History) (m : HistoryMarks) (zero : Digest) → m ≡ marks_of i y → zero.bytes ≡ zero_bytes
    → i.variant ≡ Opt
    → y.is_open ≡ false → InOpt m.cell zero ≡ issued_place i.variant y.is_open i y
place_shut i y m zero e z v o = (λ j. InOpt (cell_at_anchor i y m e v j) (digest_of (z j))) ∙ place_is i y false v o

-- a chronicle without the messages of its moves
abbrev pub forgotten : ChronicleView → ChronicleView
forgotten r = record r { extending = []; closing = [] }

moves_ended : (stop : Stop) (ended : AskResult) → moves_if (is_broken ended) (moves_after_stop stop) ≡ moves_after_call stop
    (ending_of ended)
moves_ended stop (Answered answer) = refl
moves_ended stop (Refused why) = refl
moves_ended stop (Broken fault commits) = refl

state_went : (old went handed new : ChronicleView) (stop : Stop) (o : CallOutcome History) (ended : AskResult)
    → o.state ≡ state_after_moves (list_level (chronicle_instance old)) old.history o.moves → ChronicleCalls (forgotten old) went o ended
    → handed.history ≡ went.history → handed.variant ≡ went.variant → handed.«module» ≡ went.«module»
    → ChronicleGoes handed new (moves_if (is_broken ended) (moves_after_stop stop))
    → new.history ≡ state_after_moves (list_level (chronicle_instance old)) o.state (moves_after_call stop o.ending)
state_went old went handed new stop o ended state_is calls hh hv hm restored =
    let v : handed.variant ≡ old.variant = hv ∙ calls.went.variant in
    let m : handed.«module» ≡ old.«module» = hm ∙ calls.went.«module» in
    let h : handed.history ≡ o.state = hh ∙ calls.went.history ∙ sym state_is in
    let moves : moves_if (is_broken ended) (moves_after_stop stop) ≡ moves_after_call stop o.ending =
    moves_ended stop ended ∙ ap (moves_after_call stop) calls.ends in
    restored.history ∙ (λ j. state_after_moves (list_level (instance_with (v j) (m j))) (h j) (moves j))

pub went_by_call : {old went handed new : ChronicleView} {stop : Stop} {meddles : List Meddle} {bytes : List ℕ} {b : Batch}
    {ended : AskResult}
    {front asked back : List (List ℕ)} {said : EventReply}
    → asked ≡ front ++ right_messages (chronicle_instance old) b (right_content (chronicle_instance old) bytes)
    → ChronicleCalls (forgotten old) went (call_outcome_on old stop meddles bytes b) ended
    → handed.history ≡ went.history → handed.variant ≡ went.variant → handed.«module» ≡ went.«module»
    → back ≡ asked ++ (went.extending ++ went.closing) → ChronicleGoes handed new (moves_if (is_broken ended) (moves_after_stop stop))
    → said.reply ≡ reply_of (way_of stop) (ending_of ended) → option_to_list said.snapshot ≡ snapshots_of (ending_of ended)
    → ChronicleGoesByCall (listed_chronicle old front) (listed_chronicle new back) stop meddles bytes b said
went_by_call {old} {went} {handed} {new} {stop} {meddles} {bytes} {b} {ended} {front} listed calls hh hv hm handed_on restored replied
    sealed =
    let right : List (List ℕ) = right_messages (chronicle_instance old) b (right_content (chronicle_instance old) bytes) in
    record {
      variant = restored.variant ∙ hv ∙ calls.went.variant;
      «module» = restored.«module» ∙ hm ∙ calls.went.«module»;
      state = state_went old went handed new stop (call_outcome_on old stop meddles bytes b) ended refl calls hh hv hm restored;
      reply = replied ∙ ap (reply_of (way_of stop)) calls.ends;
      snapshots = sealed ∙ ap snapshots_of calls.ends;
      messages = handed_on ∙ (λ j. listed j ++ (calls.went.extending j ++ calls.went.closing j)) ∙ append_assoc front right _;
    }

-- a checkpoint in a schedule

moves_closed : (stop : Stop) (closing : ClosingResult) → moves_if (is_broken_off closing) (moves_after_stop stop)
    ≡ moves_after_checkpoint stop (ending_of_closing closing)
moves_closed stop Closes = refl
moves_closed stop HasNone = refl
moves_closed stop NoSegment = refl
moves_closed stop LostPower = refl
moves_closed stop (Stops fault closed) = refl

pub went_by_checkpoint : {old went handed new : ChronicleView} {stop : Stop} {meddles : List Meddle} {issued front back : List (List ℕ)}
    {closing : ClosingResult} {said : EventReply}
    → (let i : Instance = chronicle_instance old in
    ChronicleGoesByCheckpoint (forgotten old) went (checkpoint_outcome i (list_level i) old.history (course_of stop meddles)) closing)
    → handed.history ≡ went.history → handed.variant ≡ went.variant → handed.«module» ≡ went.«module»
    → back ≡ front ++ (went.extending ++ went.closing)
    → ChronicleGoes handed new (moves_if (is_broken_off closing) (moves_after_stop stop))
    → said ≡ record { reply = closing_reply (way_of stop) (ending_of_closing closing); snapshot = None }
    → ChronicleGoesByEvent (listed_chronicle old front) (listed_chronicle new back) issued (Checkpoint meddles stop) said
went_by_checkpoint {old} {went} {handed} {new} {stop} {meddles} {issued} {front} {back} {closing} {said} comes hh hv hm listed restored
    replied =
    let i : Instance = chronicle_instance old in
    let o : CheckpointOutcome History = checkpoint_outcome i (list_level i) old.history (course_of stop meddles) in
    let v : handed.variant ≡ old.variant = hv ∙ comes.went.variant in
    let m : handed.«module» ≡ old.«module» = hm ∙ comes.went.«module» in
    let h : handed.history ≡ o.state = hh ∙ comes.went.history in
    let moves : moves_if (is_broken_off closing) (moves_after_stop stop) ≡ moves_after_checkpoint stop o.ending =
    moves_closed stop closing ∙ ap (moves_after_checkpoint stop) comes.ends in
    record {
      variant = restored.variant ∙ v;
      «module» = restored.«module» ∙ m;
      state = restored.history ∙ (λ j. state_after_moves (list_level (instance_with (v j) (m j))) (h j) (moves j));
      reply = ap (λ (r : EventReply). r.reply) replied ∙ ap (closing_reply (way_of stop)) comes.ends;
      issued_is = sym (append-nil issued) ∙ ap (λ (r : EventReply). issued ++ option_to_list r.snapshot) (sym replied);
      messages = listed ∙ (λ j. front ++ (comes.went.extending j ++ comes.went.closing j));
    }

-- the messages that a chronicle lists

pub told_extension : {r old : ChronicleView} {marks : HistoryMarks} {listed : List (List ℕ)} (value : List ℕ) → r ≡ old → r.variant ≡ Opt
    → marks ≡ marks_of (chronicle_instance r) r.history → listed ≡ r.extending ++ (marks.register.bytes ++ value) ∷ []
    → record r { extending = listed } ≡ record old {
      extending = old.extending
          ++ extension_messages old.variant (register_value_of (chronicle_instance old) old.history) value;
    }
told_extension {r} {listed = listed} value same opt marks e =
    let i : Instance = chronicle_instance r in
    let all : listed ≡ r.extending ++ extension_messages r.variant (register_value_of i r.history) value =
    e ∙ ap (λ (m : HistoryMarks). r.extending ++ (m.register.bytes ++ value) ∷ []) marks
    ∙ ap (λ (v : Variant). r.extending ++ extension_messages v (register_value_of i r.history) value) (sym opt) in
    (λ j. record r { extending = all j })
    ∙ ap (λ (o : ChronicleView). record o {
      extending = o.extending ++ extension_messages o.variant (register_value_of (chronicle_instance o) o.history) value;
    }) same

-- a batch that is committed in an open segment, once its message is listed
pub grow_goes : {old mid told new : ChronicleView} {b : Batch} {value : List ℕ} → mid ≡ old → old.variant ≡ Opt
    → old.history.is_open ≡ true → value ≡ guard (chronicle_instance old).barrier b
    → told ≡ record mid {
      extending = mid.extending
          ++ extension_messages mid.variant (register_value_of (chronicle_instance mid) mid.history) value;
    }
    → new ≡ record told { history = history_after_commit Opt true told.history b } → ChronicleGoes old new (Commit b ∷ [])
grow_goes {old} {mid} {told} {new} {b} {value} same va op guards t n =
    let i : Instance = chronicle_instance old in
    let register : List ℕ = register_value_of i old.history in
    let whole : new ≡ record old {
      history = history_after_commit Opt true old.history b;
      extending = old.extending ++ extension_messages old.variant register value;
    } =
    n ∙ ap (λ (r : ChronicleView). record r { history = history_after_commit Opt true r.history b })
    (t ∙ ap (λ (r : ChronicleView). record r {
      extending = r.extending ++ extension_messages r.variant (register_value_of (chronicle_instance r) r.history) value;
    }) same) in
    let messages : extension_messages old.variant register value ≡ move_messages i old.history (Commit b) =
    (λ j. extension_messages (va j) register (guards j))
    ∙ (λ j. messages_for_move (sym va j) (sym op j) i old.history (Commit b)) in
    record {
      variant = ap (λ (r : ChronicleView). r.variant) whole;
      «module» = ap (λ (r : ChronicleView). r.«module») whole;
      history = ap (λ (r : ChronicleView). r.history) whole ∙ (λ j. history_after_commit (sym va j) (sym op j) old.history b);
      extending = ap (λ (r : ChronicleView). r.extending) whole
          ∙ ap (λ (m : List (List ℕ)). old.extending ++ m) (messages ∙ sym (append-nil (move_messages i old.history (Commit b))));
      closing = ap (λ (r : ChronicleView). r.closing) whole ∙ sym (append-nil old.closing);
    }

pub told_closing : {r old : ChronicleView} {marks : HistoryMarks} {listed : List (List ℕ)} → r ≡ old → r.variant ≡ Opt
    → marks ≡ marks_of (chronicle_instance r) r.history
    → listed ≡ r.closing ++ anchored_message marks.cell.bytes marks.register.bytes ∷ []
    → record r { closing = listed } ≡ record old {
      closing = old.closing
          ++ segment_closing_messages old.variant (cell_digest_of (chronicle_instance old) old.variant old.history)
          (register_value_of (chronicle_instance old) old.history);
    }
told_closing {r} {listed = listed} same opt marks e =
    let i : Instance = chronicle_instance r in
    let all : listed ≡ r.closing ++ segment_closing_messages r.variant (cell_digest_of i r.variant r.history)
    (register_value_of i r.history) =
    e ∙ ap (λ (m : HistoryMarks). r.closing ++ anchored_message m.cell.bytes m.register.bytes ∷ []) marks
    ∙ ap (λ (v : Variant). r.closing ++ segment_closing_messages v (cell_digest_of i r.variant r.history)
    (register_value_of i r.history)) (sym opt) in
    (λ j. record r { closing = all j })
    ∙ ap (λ (o : ChronicleView). record o {
      closing = o.closing ++ segment_closing_messages o.variant (cell_digest_of (chronicle_instance o) o.variant o.history)
          (register_value_of (chronicle_instance o) o.history);
    }) same

-- A checkpoint by lists, step by step.

two_close : (fates : ℕ → StepFate) → has_close (walk fates 1 (reading_steps Opt)).moves ≡ false
two_close fates = walk_along ClosesNone shut_along fates 1 (reading_steps Opt) tt

last_is : (lost : Bool) → checkpoint_steps Opt true lost ≡ reading_steps Opt ++ last_steps lost
last_is true = refl
last_is false = refl

module _ (a : ChronicleView) (stop : Stop) (meddles : List Meddle) where
  abbrev at : Instance
  at = chronicle_instance a

  abbrev fates : ℕ → StepFate
  fates = fate_by_plan (plan_of stop meddles)

  abbrev lost : Bool
  lost = is_lost (life_of a.variant (state_seen at (list_level at) a.history (course_of stop meddles)))

  abbrev all : ghost_closing.CheckpointOutcome History
  all = ghost_closing.checkpoint_outcome at (list_level at) a.history (course_of stop meddles)

  -- by the walk of its steps
  went_by : (n : ChronicleView) (closing : ClosingResult) {broken : Option StepFault} {steps : List DeviceStep}
      {ending : ghost_closing.CheckpointEnding}
      → steps ≡ checkpoint_steps a.variant a.history.is_open lost → ending ≡ ghost_closing.checkpoint_ending a.variant
      a.history.is_open lost
      → ChronicleWalks a n (walk fates 1 steps) broken
      → ending_of_closing closing ≡ ghost_closing.checkpoint_ending_by broken (has_close (walk fates 1 steps).moves) ending
      → ChronicleGoesByCheckpoint a n all closing
  went_by n closing steps ends w tells = record {
    went = subst (λ (s : List DeviceStep). ChronicleGoes a n (walk fates 1 s).moves) steps w.went;
    ends = tells ∙ (λ j. ghost_closing.checkpoint_ending_by
        ((w.broken ∙ ap (λ (s : List DeviceStep). (walk fates 1 s).broken) steps) j)
        (has_close (walk fates 1 (steps j)).moves) (ends j));
  }

  -- a checkpoint that reads the cell alone
  pub check_shut : (n : ChronicleView) (unless : ClosingResult) (variant : Variant) (is_open : Bool) → a.variant ≡ variant
      → a.history.is_open ≡ is_open → ((l : Bool) → checkpoint_steps variant is_open l ≡ Reads ∷ [])
      → ((l : Bool) → ghost_closing.checkpoint_ending variant is_open l ≡ ending_of_closing unless)
      → (closing : ClosingResult) → ChronicleClosesBy a n (walk fates 1 (Reads ∷ [])) unless closing
      → ChronicleGoesByCheckpoint a n all closing
  check_shut n unless variant is_open va op steps ends closing shut =
      went_by n closing (sym (steps lost) ∙ (λ j. checkpoint_steps (sym va j) (sym op j) lost))
      (sym (ends lost) ∙ (λ j. ghost_closing.checkpoint_ending (sym va j) (sym op j) lost)) (record { went = shut.went; broken = refl })
      (shut.ends ∙ ap (λ (k : Bool). ghost_closing.checkpoint_ending_by (walk fates 1 (Reads ∷ [])).broken k
      (ending_of_closing unless))
      (sym (walk_along ClosesNone shut_along fates 1 (Reads ∷ []) tt)))

  -- a checkpoint of an open segment
  module _ (va : a.variant ≡ Opt) (op : a.history.is_open ≡ true) where
    abbrev reading : StepsWalk
    reading = walk fates 1 (reading_steps Opt)

    steps_are : reading_steps Opt ++ last_steps lost ≡ checkpoint_steps a.variant a.history.is_open lost
    steps_are = sym (last_is lost) ∙ (λ j. checkpoint_steps (sym va j) (sym op j) lost)

    ends_are : ghost_closing.checkpoint_ending Opt true lost ≡ ghost_closing.checkpoint_ending a.variant a.history.is_open lost
    ends_are = λ j. ghost_closing.checkpoint_ending (sym va j) (sym op j) lost

    pub check_broken : (n : ChronicleView) (fault : StepFault) → ChronicleWalks a n reading (Some fault)
        → ChronicleGoesByCheckpoint a n all (Stops fault false)
    check_broken n fault w =
        went_by n (Stops fault false) steps_are ends_are (walks_broken fates 1 (reading_steps Opt) (last_steps lost) w)
        (ap (ghost_closing.Stops fault) (sym (ap (λ (v : StepsWalk). has_close v.moves)
        (broken_walked fates 1 (reading_steps Opt) (last_steps lost) fault (sym w.broken)) ∙ two_close fates)))

    abbrev closing_walk : StepsWalk
    closing_walk = walk fates 3 (Writes Close ∷ [])

    -- where power wasn't lost, which the chronicle tells behind the reading steps
    module _ (n m : ChronicleView) (w : ChronicleWalks a n reading None) (kept : is_lost (life_of n.variant n.history) ≡ false) where
      not_lost : lost ≡ false
      not_lost =
          let seen = w.went.history ∙ ap (state_after_moves (list_level at) a.history) (read_seen fates Opt (sym w.broken)
          ∙ ap (λ (v : Variant). moves_seen fates (reading_steps v) 1) (sym va)) in
          (λ j. is_lost (life_of (sym w.went.variant j) (sym seen j))) ∙ kept

      whole : {broken : Option StepFault} → ChronicleWalks n m closing_walk broken
          → ChronicleWalks a m (walk fates 1 (reading_steps Opt ++ last_steps lost)) broken
      whole {broken} more =
          subst (λ (l : Bool). ChronicleWalks a m (walk fates 1 (reading_steps Opt ++ last_steps l)) broken) (sym not_lost)
          (walks_then fates 1 3 (reading_steps Opt) (Writes Close ∷ []) refl w more)

      pub check_closed : ChronicleWalks n m closing_walk None → ChronicleGoesByCheckpoint a m all Closes
      check_closed more = went_by m Closes steps_are ends_are (whole more) (ap (ghost_closing.checkpoint_ending Opt true) (sym not_lost))

      closes_made : (values : List (List ℕ)) (answer : Option StepFault) (made : Bool) (fault : StepFault)
          → (walk_from_step (Writes Close) values (end_of answer made) finished_walk).broken ≡ Some fault
          → has_close (walk_from_step (Writes Close) values (end_of answer made) finished_walk).moves ≡ made
      closes_made values None made fault e = cc
      closes_made values (Some f) true fault e = refl
      closes_made values (Some f) false fault e = closes-foreign values

      pub check_stopped : {fault : StepFault} {made : Bool} → ChronicleWalks n m closing_walk (Some fault) → made ≡ is_made_at stop 3
          → ChronicleGoesByCheckpoint a m all (Stops fault made)
      check_stopped {fault} {made} more is =
          let t = then_walked fates 1 3 (reading_steps Opt) (Writes Close ∷ []) refl (sym w.broken) in
          went_by m (Stops fault made) steps_are ends_are (whole more) (ap (ghost_closing.Stops fault) (is
          ∙ sym (closes_made (fates 3).brings (fault_at stop 3) (is_made_at stop 3) fault (sym more.broken))
          ∙ sym (closes-append reading.moves closing_walk.moves (two_close fates)) ∙ ap has_close (sym t.moves)
          ∙ ap (λ (l : Bool). has_close (walk fates 1 (reading_steps Opt ++ last_steps l)).moves) (sym not_lost)))

-- A list that is copied member by member.

pub copied_more : (xs : List (List ℕ)) (i : ℕ) {copy new : List (List ℕ)} {one x : List ℕ} → i < length xs → copy ≡ take i xs
    → slice_get xs i ≡ Some x → one ≡ x → new ≡ copy ++ one ∷ [] → new ≡ take (i + 1) xs
copied_more xs i {x = x} l so_far found o n =
    n ∙ (λ j. so_far j ++ (o ∙ sym (get_or_from_slice_get xs i x x found)) j ∷ []) ∙ sym (take_more xs i x l)

pub some_there : (r : Option (Bor (List ℕ))) (xs : List (List ℕ)) (i : ℕ) → i < length xs → option_copied r ≡ slice_get xs i
    → ((x : Bor (List ℕ)) → r ≡ Some x → ⊥) → ⊥
some_there None xs i l e none = let clash : None ≡ Some _ = e ∙ slice_get-get_or xs i [] l in absurd (cc)
some_there (Some x) xs i l e none = none x refl
