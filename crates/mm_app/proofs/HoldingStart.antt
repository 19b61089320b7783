-- What `init` tells of what the cell and the source of entropy held. With it: what each command
-- tells of what a device held; what is out of a command that plays events, drawn from its play and
-- its stop line; the theorems of the commands `replay`, `slots` and `transfer`, by what the command
-- did.
use Rattle.std.specs.Prelude.{◌≢◌}
use Rattle.mm_bytes.specs.declared.fault.Failed.{Failed}
use Rattle.mm_bytes.specs.declared.fault.WriteFault as write
use Rattle.mm_base.specs.declared.replay_fault.ReplayFault.TheVariants as replay
use Rattle.mm_seal.specs.Cell.{blank_cell}
use Rattle.mm_module.specs.Meaning.{Meaning}
use Rattle.mm_play.specs.Headline.{EventPlayer, TellsEvents, stream_standing}
use Rattle.mm_play.specs.PlaysInput.{PlayOutcome}
use Rattle.mm_play.proofs.Above.{bare, IsSilent, lacked_events, stopped_events}
use Rattle.mm_status.specs.declared.status.Status.TheVariants.{Already, Blank, Cell, Kind, Lost, Refused, Short, Memory, PlatformFault}
use Rattle.mm_status.specs.declared.status.Status.TheVariants.{ReadFault, StoreFault}
use Rattle.mm_replay.specs.Schedule.{ReplayStage, AreOneRun, IsByDigests, replay_player}
use Rattle.mm_words.specs.declared.command.GeneratedSchedule.{GeneratedSchedule}
use Rattle.mm_gen.specs.Schedules.{IsReplayed, replay_of}
use Rattle.mm_gen.specs.declared.fault.BulkFault.TheVariants as bulk
use Rattle.mm_recovery.specs.FirstStart.{TellsByCell, host_among}
use Rattle.mm_recovery.specs.declared.init_fault.InitFault.TheVariants as init
use Rattle.mm_host_commands.specs.Outside.{devices_of}
use Rattle.mm_slots.specs.Stage.{AreSlotRuns, slots_player}
use Rattle.mm_transfer.specs.Stage.{AreOneTransfer, transfer_player}
use Rattle.mm_app.specs.Commands.{TellsByStatus, ReplaysOneRun, InterleavesRuns, MovesOneRun}
use Rattle.mm_app.specs.StatusFacts.{EndsByFault, IsExactlyWhere}
use Rattle.mm_app.proofs.Below.{◌≡◌, ◌∙◌, ◌+◌, ◌≤◌, ◌<◌, ℕ, Bool, true, false, List, length, Option, None, Some, Result, Ok, Err, refl, sym}
use Rattle.mm_app.proofs.Below.{ap, subst, inl, inr, arith, length-append, Consumes, IsAtEnd, Variant, GoesAfterLooking, GoesAfterTaking}
use Rattle.mm_app.proofs.Below.{Devices, TakesBytes, instance_from, InitFault, Header, Init, CommandDoes, Outside, init_line, [], Status}
use Rattle.mm_app.proofs.Below.{StepFault, TellsLines, meaning_of, CommandLine, Run, Checkpoint, Power, Replay, Check, Gen, Bulk, Slots}
use Rattle.mm_app.proofs.Below.{Receipts, Transfer, Help, DoesOrLacks, bulk_lines, power_line, Summary, BulkFault, ReplayFault, status_of}
use Rattle.mm_app.proofs.Below.{status_by, TooMuch, SinkSends, stop_line, EndsAtOnce}
use Rattle.mm_app.proofs.Blame.{end_of}
use Rattle.mm_app.proofs.Completing.{set_whole}
use Rattle.mm_app.proofs.Holding.{by_fault_where, exactly_here, held_told, Holding, none_lost, none_refused, nowhere, tells_held}
use Rattle.mm_app.proofs.Holding.{fault_holding, played_unheld, quiet_holding, text_quiet}
use Rattle.mm_app.proofs.HoldingClosing.{checkpoint_holding}
use Rattle.mm_app.proofs.HoldingRun.{run_holding}

-- the statuses that a first start is told by, but for Done
abbrev is_start : Status → Bool
is_start Memory = true
is_start PlatformFault = true
is_start Already = true
is_start ReadFault = true
is_start (Short got) = true
is_start StoreFault = true
is_start _ = false

start_told : (answer : Result (Unit {0}) InitFault) (end : Status) → init_line answer ≡ Err end → is_start end ≡ true
start_told answer end e = grind (arith, e)

short_only : (answer : Result (Unit {0}) InitFault) (got : ℕ) → init_line answer ≡ Err (Short got) → answer ≡ Err (init.Short got)
short_only answer got e = grind (arith, e)

module _ (cell : List ℕ) (status : Status) where
  abbrev Told : Result (Unit {0}) InitFault → Type 0
  Told answer = (end : Status) → init_line answer ≡ Err end → status ≡ end

  used_where : (answer : Result (Unit {0}) InitFault) → Told answer → (status ≡ Already → init_line answer ≡ Err Already)
      → TellsByCell cell answer → IsExactlyWhere (Unit {0} × (cell ≢ blank_cell)) Already status
  used_where (Err init.Already) so only t = exactly_here (so Already refl) (tt, t)
  used_where (Err (init.Platform fault)) so only t = by_fault_where (subst EndsByFault (sym (so PlatformFault refl)) tt) (λ h. h)
  used_where _ so only t = nowhere (λ is. let e = only is in absurd (cc)) (λ h. h.1 t)

  -- all that was left of the source
  consumed_all : (secrets bytes : List ℕ) (left : Option (List ℕ)) → Consumes (Some secrets) left bytes → IsAtEnd left
      → length secrets ≡ length bytes
  consumed_all secrets bytes None c ended = absurd c
  consumed_all secrets bytes (Some rest) c ended =
      ap (λ (x : List ℕ). length x) c ∙ length-append bytes rest ∙ (let none : length rest ≡ 0 = ap length ended in omega arith)

  consumed_most : (secrets bytes : List ℕ) (left : Option (List ℕ)) → Consumes (Some secrets) left bytes → length bytes ≤ length secrets
  consumed_most secrets bytes None c = absurd c
  consumed_most secrets bytes (Some rest) c =
      let same : length secrets ≡ length bytes + length rest = ap length c ∙ length-append bytes rest in omega arith

  abbrev Shown : List ℕ → ℕ → Type 0
  Shown secrets got =
      IsExactlyWhere ((Unit {0} × (cell ≡ blank_cell) × (length secrets < 64)) × (got ≡ length secrets)) (Short got) status

  taken_where : (variant : Variant) (meaning : Meaning) (middle after : Devices) (left : Option (List ℕ)) (faults : ℕ)
      (taken : Result (List ℕ) Failed) (answer : Result (Unit {0}) InitFault) (secrets : List ℕ) (got : ℕ) → Told answer
      → (status ≡ Short got → init_line answer ≡ Err (Short got)) → TellsByCell cell answer → middle.left ≡ Some secrets
      → TakesBytes middle.left left middle.source_faults faults taken
      → GoesAfterTaking variant meaning (record middle { left = left; source_faults = faults }) after taken answer → Shown secrets got
  taken_where variant meaning middle after left faults (Err why) answer secrets got so only t is_left takes a =
      by_fault_where (subst EndsByFault (sym (so ReadFault (ap init_line a.1))) tt) (λ h. h)
  taken_where variant meaning middle after left faults (Ok bytes) answer secrets got so only t is_left takes a =
      let c : Consumes (Some secrets) left bytes = subst (λ (l : Option (List ℕ)). Consumes l left bytes) is_left takes.consumed in
      elim a [
        | inl few ↦
            let all : length secrets ≡ length bytes = consumed_all secrets bytes left c (takes.ended few.0) in
            let ends : status ≡ Short (length bytes) = so (Short (length bytes)) (ap init_line few.2) in
            let blank : cell ≡ blank_cell = subst (TellsByCell cell) few.2 t in
            record {
              only = λ is.
                  let same : Short (length bytes) ≡ Short got = sym ends ∙ is in
                  let counted : length bytes ≡ got = cc in
                  ((tt, blank, omega (arith, all, few.0)), sym (all ∙ counted));
              always = λ h. inl (ends ∙ ap (λ (n : ℕ). Short n) (sym all ∙ sym h.1));
            }
        | inr many ↦
            let most = consumed_most secrets bytes left c in
            nowhere
            (λ is. set_whole (instance_from variant meaning bytes) (host_among middle) (host_among after) answer got many.2
            (short_only answer got (only is))) (λ h. absurd (omega (arith, most, many.0, h.0.2)))
      ]

  short_where : (variant : Variant) (meaning : Meaning) (middle after : Devices) (is_blank : Result Bool StepFault)
      (answer : Result (Unit {0}) InitFault) (secrets : List ℕ) (got : ℕ) → Told answer
      → (status ≡ Short got → init_line answer ≡ Err (Short got)) → TellsByCell cell answer → middle.left ≡ Some secrets
      → GoesAfterLooking variant meaning middle after is_blank answer → Shown secrets got
  short_where variant meaning middle after (Err fault) answer secrets got so only t is_left a =
      by_fault_where (subst EndsByFault (sym (so PlatformFault (ap init_line a.1))) tt) (λ h. h)
  short_where variant meaning middle after (Ok false) answer secrets got so only t is_left a =
      let used : cell ≢ blank_cell = subst (TellsByCell cell) a.1 t in
      let ends : status ≡ Already = so Already (ap init_line a.1) in
      nowhere (λ is. let clash : Already ≡ Short got = sym ends ∙ is in absurd (cc)) (λ h. used h.0.1)
  short_where variant meaning middle after (Ok true) answer secrets got so only t is_left a =
      taken_where variant meaning middle after a.left a.source_faults a.taken answer secrets got so only t is_left a.takes a.goes

pub start_holding : (header : Header) (old new : Outside) (status : Status) → CommandDoes (Init header) old new status
    → Holding (Init header) old new status
start_holding header old new status d =
    let only = λ (end : Status) (is : status ≡ end) (held : tells_held end ≡ true).
    held_told (init_line d.answer) old.received new.received old.writes new.writes status end d.tells is held in
    let so : Told [] status d.answer = λ end e.
    (subst (λ (r : Result (List ℕ) Status). TellsLines r old.received new.received old.writes new.writes status) e d.tells).ends in
    let unlike : (end : Status) → tells_held end ≡ true → is_start end ≡ false → status ≡ end → ⊥ = λ (end : Status) held not is.
    let clash : true ≡ false = sym (start_told d.answer end (only end is held)) ∙ not in absurd (cc) in
    record {
      blank = λ cell visible. nowhere (unlike Blank refl refl) (λ h. h.0);
      already = λ cell told. used_where cell status d.answer so (λ is. only Already is refl) (d.uses cell told);
      unread = λ cell visible. nowhere (unlike Cell refl refl) (λ h. h);
      kind = λ cell told. nowhere (unlike Kind refl refl) (λ h. h);
      short = λ cell secrets got told left.
          short_where cell status header.variant (meaning_of header.module) (record (devices_of old) { platform = d.steps.platform })
          (devices_of new) d.steps.is_blank d.answer secrets got so (λ is. only (Short got) is refl) (d.uses cell told) left
          d.steps.goes;
      lost = λ cell visible. none_lost (Init header) old new status cell (unlike Lost refl refl) (λ h. h);
      refused = λ cell why visible. none_refused (Init header) old new status cell why (unlike (Refused why) refl refl) (λ e. cc);
    }

-- What each command tells of what a device held.

told_quiet : (told : Result (List ℕ) Status) (received received' : Option (List ℕ)) (writes writes' : ℕ) (status : Status)
    → TellsLines told received received' writes writes' status → tells_held (end_of told) ≡ false → tells_held status ≡ false
told_quiet (Ok text) received received' writes writes' status t e = text_quiet t.result status t.ends
told_quiet (Err end) received received' writes writes' status t e = ap tells_held t.ends ∙ e

bulk_quiet : (count : ℕ) (answer : Result Summary BulkFault) → tells_held (end_of (bulk_lines count answer)) ≡ false
bulk_quiet count answer = grind arith

power_quiet : (fault : Option StepFault) → tells_held (end_of (power_line fault)) ≡ false
power_quiet fault = grind arith

played_quiet : {T : Type 0} (answer : Result T ReplayFault) (status : Status) → status ≡ status_of answer → tells_held status ≡ false
played_quiet answer status e = ap tells_held e ∙ played_unheld answer

does_hold : (command : CommandLine) (old new : Outside) (status : Status) → CommandDoes command old new status
    → Holding command old new status
does_hold (Init header) old new status d = start_holding header old new status d
does_hold Run old new status d = run_holding old new status d
does_hold Checkpoint old new status d = checkpoint_holding old new status d
does_hold Power old new status d =
    quiet_holding Power old new status (told_quiet (power_line d.fault) _ _ _ _ status d.tells (power_quiet d.fault)) (λ h. h) (λ h. h)
    (λ cell h. h) (λ cell h. h)
does_hold (Bulk it) old new status d =
    quiet_holding (Bulk it) old new status
    (told_quiet (bulk_lines it.count d.1.answer) _ _ _ _ status d.1.tells (bulk_quiet it.count d.1.answer))
    (λ h. h) (λ h. h) (λ cell h. h) (λ cell h. h)
does_hold (Gen it) old new status d =
    quiet_holding (Gen it) old new status (text_quiet d.given.result status d.given.ends) (λ h. h) (λ h. h) (λ cell h. h) (λ cell h. h)
does_hold Help old new status d =
    quiet_holding Help old new status (text_quiet d.given.result status d.given.ends) (λ h. h) (λ h. h) (λ cell h. h) (λ cell h. h)
does_hold Replay old new status d =
    quiet_holding Replay old new status (played_quiet d.played.answer status d.played.ends) (λ h. h) (λ h. h) (λ cell h. h) (λ cell h. h)
does_hold Check old new status d =
    quiet_holding Check old new status (played_quiet d.played.answer status d.played.ends) (λ h. h) (λ h. h) (λ cell h. h) (λ cell h. h)
does_hold Slots old new status d =
    quiet_holding Slots old new status (played_quiet d.played.answer status d.played.ends) (λ h. h) (λ h. h) (λ cell h. h) (λ cell h. h)
does_hold (Receipts key) old new status d =
    quiet_holding (Receipts key) old new status (played_quiet d.played.answer status d.played.ends) (λ h. h) (λ h. h) (λ cell h. h)
    (λ cell h. h)
does_hold Transfer old new status d =
    quiet_holding Transfer old new status (played_quiet d.played.answer status d.played.ends) (λ h. h) (λ h. h) (λ cell h. h) (λ cell h. h)

pub holding : (command : CommandLine) (old new : Outside) (status : Status) → DoesOrLacks command old new status
    → Holding command old new status
holding command old new status (inl d) = does_hold command old new status d
holding command old new status (inr e) = fault_holding command old new status (subst EndsByFault (sym e.stops.ends) tt)

-- a run in bulk is too much where its replay is

much_where : (replayed : PlayOutcome ReplayStage) (count : ℕ) (answer : Result Summary BulkFault) (status : Status)
    → IsReplayed replayed answer
    → ((end : Status) → bulk_lines count answer ≡ Err end → status ≡ end) → (status ≡ TooMuch → bulk_lines count answer ≡ Err TooMuch)
    → IsExactlyWhere (replayed.outcome ≡ Err replay.TooMuch) TooMuch status
much_where replayed count (Err bulk.Memory) status r so only = by_fault_where (subst EndsByFault (sym (so Memory refl)) tt) (λ h. h)
much_where replayed count (Err bulk.TooMuch) status r so only = exactly_here (so TooMuch refl) r
much_where replayed count (Ok summary) status r so only = nowhere (λ is. let e = only is in absurd (cc)) (λ h.
    let clash : Ok r.1 ≡ Err replay.TooMuch = sym r.2 ∙ h in absurd (cc))

text_unmuch : (r : Result (Unit {0}) write.WriteFault) → status_by r ≡ TooMuch → ⊥
text_unmuch r e = grind (arith, e)

much_only : (told : Result (List ℕ) Status) (received received' : Option (List ℕ)) (writes writes' : ℕ) (status : Status)
    → TellsLines told received received' writes writes' status → status ≡ TooMuch → told ≡ Err TooMuch
much_only (Ok text) received received' writes writes' status t is = absurd (text_unmuch t.result (sym t.ends ∙ is))
much_only (Err end) received received' writes writes' status t is = ap (λ (s : Status). Err s) (sym t.ends ∙ is)

pub much : (it : GeneratedSchedule) (old new : Outside) (status : Status) → DoesOrLacks (Bulk it) old new status
    → IsExactlyWhere ((replay_of it.number it.count it.header).outcome ≡ Err replay.TooMuch) TooMuch status
much it old new status (inl d) =
    much_where (replay_of it.number it.count it.header) it.count d.1.answer status d.1.replayed
    (λ end e. (subst (λ (r : Result (List ℕ) Status). TellsLines r old.received new.received old.writes new.writes status)
    e d.1.tells).ends)
    (much_only (bulk_lines it.count d.1.answer) old.received new.received old.writes new.writes status d.1.tells)
much it old new status (inr e) = by_fault_where (subst EndsByFault (sym e.stops.ends) tt) (λ h. h)

-- What is out of a command that plays events, drawn from its play and its stop line.

-- the answer without its report ends so too, and its stop line is written where something stopped it
bare_status : {T : Type 0} (answer : Result T ReplayFault) → status_of answer ≡ status_of (bare answer)
bare_status (Ok report) = refl
bare_status (Err why) = refl

silent : {T : Type 0} (answer : Result T ReplayFault) → IsSilent answer (stop_line (status_of answer))
silent (Ok report) = refl
silent (Err replay.WriteFault) = refl
silent (Err replay.Memory) = tt
silent (Err replay.ReadFault) = tt
silent (Err (replay.BadLine line)) = tt
silent (Err (replay.LineLong line)) = tt
silent (Err replay.TooMuch) = tt

module _ {G H E S : Type 0} (p : EventPlayer G H E S) (All Less : H → List E → (List E → S) → Type 0)
    (less : (header : H) (events : List E) (shown : List E → S) → All header events shown → Less header events shown) where
  pub told_by : {T : Type 0} {left left' received middle received' : Option (List ℕ)} {answer : Result T ReplayFault}
      {wrote : Result (Unit {0}) write.WriteFault} {status : Status} → TellsEvents p All (stream_standing left received)
      (stream_standing left' middle) [] answer
      → status ≡ status_of answer → SinkSends middle received' (stop_line status) wrote
      → TellsByStatus p Less left left' received received' status
  told_by {answer = answer} {status = status} tells ends sends = (
    bare answer,
    ends ∙ bare_status answer,
    stopped_events p All Less less (subst (λ (s : Status). IsSilent answer (stop_line s)) (sym ends) (silent answer)) tells sends,
  )

  -- memory was wanting before anything was read
  pub lacked_by : (old new : Outside) (status : Status) → EndsAtOnce old new Memory status
      → TellsByStatus p Less old.left new.left old.received new.received status
  lacked_by old new status ends =
      subst (λ l. TellsByStatus p Less old.left l old.received new.received status) (sym ends.still.left)
      (subst (λ s. TellsByStatus p Less old.left old.left old.received new.received s) (sym ends.stops.ends)
      (Err replay.Memory, refl, lacked_events p Less ends.stops.stops.sends))

-- The theorems of the commands `replay`, `slots` and `transfer`, by what the command did.

pub headline_of : (old new : Outside) (status : Status) → DoesOrLacks Replay old new status
    → ReplaysOneRun old.left new.left old.received new.received status
headline_of old new status (inl does) =
    told_by replay_player IsByDigests AreOneRun (λ header events shown it. it.headline) does.played.plays.tells
    does.played.ends does.stops.sends
headline_of old new status (inr lacks) =
    lacked_by replay_player IsByDigests AreOneRun (λ header events shown it. it.headline) old new status lacks

pub interleaved_by : (old new : Outside) (status : Status) → DoesOrLacks Slots old new status
    → InterleavesRuns old.left new.left old.received new.received status
interleaved_by old new status (inl does) =
    told_by slots_player AreSlotRuns AreSlotRuns (λ headers events shown it. it) does.played.plays.tells does.played.ends does.stops.sends
interleaved_by old new status (inr lacks) = lacked_by slots_player AreSlotRuns AreSlotRuns (λ headers events shown it. it)
    old new status lacks

pub moved_by : (old new : Outside) (status : Status) → DoesOrLacks Transfer old new status
    → MovesOneRun old.left new.left old.received new.received status
moved_by old new status (inl does) =
    told_by transfer_player AreOneTransfer AreOneTransfer (λ header events shown it. it) does.played.plays.tells
    does.played.ends does.stops.sends
moved_by old new status (inr lacks) = lacked_by transfer_player AreOneTransfer AreOneTransfer (λ header events shown it. it)
    old new status lacks
