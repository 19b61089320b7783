-- A replay whose events are values, as contracts see it.
use Rattle.std.specs.Prelude.{◌≡◌, ℕ, true, false, List, Result, Ok, Err}
use Rattle.mm_play.specs.declared.player.LineRefusal.TheVariants.{Bad, Much}
use Rattle.mm_play.specs.declared.player.ReplyFault.{ReplyFault}
use Rattle.mm_play.specs.declared.player.ReplyFault.TheVariants as fault
use Rattle.mm_schedule.specs.Events.{Event}
use Rattle.mm_schedule.specs.declared.reply.Reply.{Reply}
use Rattle.mm_replay.specs.Schedule.{RunningReplay, running_replay_after, is_too_much, running_outcome, replay_state_of, running_replay_at}
use Rattle.mm_replay.specs.Schedule.{ReplayLacksMemory}
use Rattle.mm_replay.specs.declared.progress.ReplayProgress.{ReplayProgress}

-- what stands, by digests
abbrev pub running_replay : ReplayProgress → RunningReplay
running_replay p = running_replay_at p.replay.stage p.replay.read

-- The event of this line was answered, or it is one too many and nothing has changed; or memory was
-- wanting for it, and the line isn't counted.
abbrev pub AnswersEvent : RunningReplay → RunningReplay → List ℕ → Event → Result Reply ReplyFault
    → Type 0
AnswersEvent old new line event (Ok reply) =
    (is_too_much old line ≡ false) × (reply ≡ (running_outcome old event).reply)
    × (new ≡ running_replay_after old line event)
AnswersEvent old new line event (Err fault.Memory) =
    (is_too_much old line ≡ false) × ReplayLacksMemory (replay_state_of old) event
    (replay_state_of new)
    × (new.read ≡ old.read)
AnswersEvent old new line event (Err (fault.Refused Bad)) = ⊥
AnswersEvent old new line event (Err (fault.Refused Much)) =
    (is_too_much old line ≡ true) × (new ≡ old)
