-- How often the cell is written over a life.
use Rattle.std.specs.Prelude.{◌≡◌, ◌+◌, ◌≤◌, ℕ, zero, suc, Bool, true, false, List, [], ◌∷◌, Option, None, Some, Result, Ok, Err, length, if◌then◌else◌}
use Rattle.mm_base.specs.declared.replay_fault.ReplayFault.TheVariants.{WriteFault}
use Rattle.mm_opt.specs.declared.segment.CheckpointRefusal.TheVariants.{Device}
use Rattle.mm_recovery.specs.declared.fault.HostFault.TheVariants.{Refused}
use Rattle.mm_host.specs.declared.fault.SessionFault.TheVariants.{Host, Lines}
use Rattle.mm_schedule.specs.declared.reply.Reply.TheVariants.{Told}
use Rattle.mm_call.specs.Standing.{count_after_more}
use Rattle.mm_platform.specs.declared.fault.StepFault.{StepFault}
use Rattle.mm_recovery.specs.CellWrites.{is_open_after, new_requests_by, openings}
use Rattle.mm_life.specs.Below.{Basic, Opt, Batch, size_of, Standing, Meaning, History, StandsFor, basic_instance, opt_instance, BatchAnswer, Refusal, fault_of}
use Rattle.mm_life.specs.Below.{CheckpointRefusal, Checkpointed, HostFault, Reply, SessionFault}
use Rattle.mm_life.specs.Deeds.{Calls, Checkpoints, Extends, LosesPower, served_calls_of}
use Rattle.mm_life.specs.Premises.{has_open_segment}
use Rattle.mm_life.specs.Stages.{LifeFollows, call_replies, life_replies, told_replies, Does, Holds, IsLife, LifePart, LifeStage, PartLeads}

-- The cell was to be written so often in a part of a life, by the platform's count; others, and a
-- loss of power, write none.
abbrev pub PartWrites : Standing → LifePart → Standing → ℕ → Type 0
PartWrites old (Does (Extends values)) new times = times ≡ 0
PartWrites old (Does LosesPower) new times = times ≡ 0
PartWrites old _ new times = new.writes ≡ count_after_more times old.writes

-- so often in all of its parts
abbrev pub LifeWrites : Standing → List LifeStage → ℕ → Type 0
LifeWrites start [] times = times ≡ 0
LifeWrites start (stage ∷ stages) times =
    (here : ℕ) × (later : ℕ) × (times ≡ here + later)
    × PartWrites start stage.part stage.after here × LifeWrites stage.after stages later

-- A stop, behind which a request may be in hand: 1 where memory, the store, a device or the output
-- failed, and else 0.
abbrev pub fault_stop : Option StepFault → ℕ
fault_stop None = 0
fault_stop (Some fault) = 1

abbrev pub refusal_stop : Refusal → ℕ
refusal_stop why = fault_stop (fault_of why)

abbrev pub host_stop : HostFault → ℕ
host_stop (Refused why) = refusal_stop why
host_stop _ = 1

abbrev pub session_stop : Result Unit SessionFault → ℕ
session_stop (Err (Host fault)) = host_stop fault
session_stop (Err (Lines WriteFault)) = 1
session_stop _ = 0

abbrev pub call_stop : Result BatchAnswer Refusal → ℕ
call_stop (Ok answer) = 0
call_stop (Err why) = refusal_stop why

abbrev pub checkpoint_stop : Result Checkpointed CheckpointRefusal → ℕ
checkpoint_stop (Err (Device fault)) = 1
checkpoint_stop _ = 0

abbrev pub part_stop : LifePart → ℕ
part_stop (Holds p) = session_stop p.result
part_stop (Does (Calls c)) = call_stop c.gives
part_stop (Does (Checkpoints said)) = checkpoint_stop said
part_stop (Does _) = 0

abbrev pub stops_in : List LifeStage → ℕ
stops_in [] = 0
stops_in (stage ∷ stages) = part_stop stage.part + stops_in stages

-- The requests that may be in hand behind a stop: of a session one, and of a call its batch, whole.
abbrev pub hand_by : Option StepFault → Batch → ℕ
hand_by None batch = 0
hand_by (Some fault) batch = size_of batch

abbrev pub call_hand : Batch → Result BatchAnswer Refusal → ℕ
call_hand batch (Ok answer) = 0
call_hand batch (Err why) = hand_by (fault_of why) batch

abbrev pub part_hand : LifePart → ℕ
part_hand (Does (Calls c)) = call_hand c.batch c.gives
part_hand part = part_stop part

abbrev pub hands_in : List LifeStage → ℕ
hands_in [] = 0
hands_in (stage ∷ stages) = part_hand stage.part + hands_in stages

-- the replies that tell a batch, or a request, for the first time; and the requests that they tell
abbrev pub new_reply : Reply → ℕ
new_reply (Told again before outputs) = new_requests_by again
new_reply _ = 0

abbrev pub new_replies : List Reply → ℕ
new_replies [] = 0
new_replies (reply ∷ replies) = new_reply reply + new_replies replies

abbrev pub new_requests_of : Reply → ℕ
new_requests_of (Told false before outputs) = length outputs
new_requests_of _ = 0

abbrev pub new_requests_told : List Reply → ℕ
new_requests_told [] = 0
new_requests_told (reply ∷ replies) = new_requests_of reply + new_requests_told replies

-- the segments that a checkpoint closed, where it didn't stop: it leaves another flag
abbrev pub turns_between : Bool → Bool → ℕ
turns_between true false = 1
turns_between false true = 1
turns_between before after = 0

abbrev pub turns_unless_stopped : ℕ → Bool → Bool → ℕ
turns_unless_stopped zero before after = turns_between before after
turns_unless_stopped (suc stops) before after = 0

-- The segments of Opt that a part opened or closed: where none was open, and a request was told for
-- the first time, one was opened, however the part ended; and a checkpoint closed one.
abbrev pub part_turns : (meaning : Meaning) (old : Standing) (part : LifePart) (new : Standing)
    → PartLeads Opt meaning old part new → ℕ
part_turns meaning old (Holds p) new s =
    openings (has_open_segment old) (new_replies (told_replies (served_calls_of s)))
part_turns meaning old (Does (Calls c)) new f =
    openings (has_open_segment old) (new_replies (call_replies c.gives))
part_turns meaning old (Does (Checkpoints said)) new f =
    turns_unless_stopped (checkpoint_stop said) (has_open_segment old) (has_open_segment new)
part_turns meaning old (Does _) new f = 0

-- At a stop what was in hand may have turned the flag too: a request, where no segment was open
-- then; and a closing, where one was.
abbrev pub part_turns_in_hand : (meaning : Meaning) (old : Standing) (part : LifePart)
    (new : Standing) → PartLeads Opt meaning old part new → ℕ
part_turns_in_hand meaning old (Holds p) new s =
    openings (is_open_after (has_open_segment old)
    (new_replies (told_replies (served_calls_of s)))) (session_stop p.result)
part_turns_in_hand meaning old (Does (Calls c)) new f =
    openings (is_open_after (has_open_segment old) (new_replies (call_replies c.gives)))
    (call_stop c.gives)
part_turns_in_hand meaning old (Does (Checkpoints said)) new f =
    if has_open_segment old then checkpoint_stop said else 0
part_turns_in_hand meaning old (Does _) new f = 0

-- those of all parts
abbrev pub segment_turns : (meaning : Meaning) (start : Standing) (stages : List LifeStage)
    → IsLife Opt meaning start stages → ℕ
segment_turns meaning start [] f = 0
segment_turns meaning start (stage ∷ stages) f =
    part_turns meaning start stage.part stage.after f.0
    + segment_turns meaning stage.after stages f.1

abbrev pub turns_in_hand : (meaning : Meaning) (start : Standing) (stages : List LifeStage)
    → IsLife Opt meaning start stages → ℕ
turns_in_hand meaning start [] f = 0
turns_in_hand meaning start (stage ∷ stages) f =
    part_turns_in_hand meaning start stage.part stage.after f.0
    + turns_in_hand meaning stage.after stages f.1

-- The cell was to be written once for each of so many that are due, and for what was in hand at
-- stops at most so often.
pub record WritesOnceEach (start : Standing) (stages : List LifeStage) (due most : ℕ) : Type 0 where
  pub in_hand : ℕ
  pub few : in_hand ≤ most
  pub writes : LifeWrites start stages (due + in_hand)

-- In Basic it is due for each batch that was told for the first time, where one request is one, and
-- in hand at each stop. The requests of those are on the list, and besides them at most those in
-- hand at each stop.
pub record BasicWrites (meaning : Meaning) (start : Standing) (stages : List LifeStage)
    (f : IsLife Basic meaning start stages) (requests : List (List ℕ)) : Type 0 where
  pub once : WritesOnceEach start stages (new_replies (life_replies Basic meaning start stages f))
      (stops_in stages)
  pub kept : ℕ
  pub few : kept ≤ hands_in stages
  pub listed : length requests
      ≡ new_requests_told (life_replies Basic meaning start stages f) + kept

abbrev pub BasicLivesWriteOnce : Type 0
BasicLivesWriteOnce =
    (meaning : Meaning) (key : List ℕ) (y : History) (start : Standing) (stages : List LifeStage)
    (f : IsLife Basic meaning start stages) (requests : List (List ℕ)) →
    StandsFor (basic_instance meaning key) start y
    → LifeFollows Basic meaning start stages f [] requests →
    BasicWrites meaning start stages f requests

-- In Opt for each segment that was opened, and for each that was closed, however many requests were
-- told; and in hand where the flag may have been turned.
abbrev pub OptLivesWriteOnce : Type 0
OptLivesWriteOnce =
    (meaning : Meaning) (key barrier : List ℕ) (y : History) (start : Standing)
    (stages : List LifeStage) (f : IsLife Opt meaning start stages) →
    StandsFor (opt_instance meaning key barrier) start y →
    WritesOnceEach start stages (segment_turns meaning start stages f)
    (turns_in_hand meaning start stages f)
