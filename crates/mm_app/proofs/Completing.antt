-- A command of the host isn't refused where it may be done. With it: a play of the lines, with its
-- stop line, by what the play and the line tell; a session that told nothing, by what was written,
-- told no request.
use Rattle.std.specs.Io.KnownBytes.{Appends}
use Rattle.std.specs.Prelude.{◌≢◌, ◌∷◌, ◌++◌}
use Rattle.std.specs.Str.{bytes_eq}
use Rattle.std.proofs.Common.{append_assoc}
use Rattle.std.proofs.lemmas.Slice.Eq.{bytes_eq-Decides}
use Rattle.mm_bytes.specs.declared.fault.Failed.{Failed}
use Rattle.mm_bytes.specs.declared.fault.WriteFault as write
use Rattle.mm_base.specs.Input.{lines_of}
use Rattle.mm_base.specs.declared.replay_fault.ReplayFault.TheVariants as replay
use Rattle.mm_digest.specs.Messages.{zero_bytes}
use Rattle.mm_digest.specs.declared.variant.Variant.TheVariants.{Basic, Opt}
use Rattle.mm_seal.specs.Cell.{IsCell, blank_cell, cell_spelling}
use Rattle.mm_seal.specs.CellLaws.{reads_cell-same}
use Rattle.mm_seal.specs.declared.cell.Cell.{Cell}
use Rattle.mm_module.specs.Meaning.{Meaning}
use Rattle.mm_model.specs.Chains.{basic_instance, opt_instance}
use Rattle.mm_model.specs.History.{first_history, History}
use Rattle.mm_model.specs.Standing.{life_of, Lost as LostLife, Spoiled, cell_of}
use Rattle.mm_model.specs.declared.refusal.Refusal.TheVariants as refused
use Rattle.mm_opt.specs.declared.segment.Checkpointed.TheVariants as said
use Rattle.mm_opt.specs.declared.segment.CheckpointRefusal.TheVariants as refusal
use Rattle.mm_opt.specs.declared.segment.Segment.{Segment}
use Rattle.mm_opt.specs.declared.segment.Segment.TheVariants.{Open}
use Rattle.mm_schedule.specs.Replies.{told_line}
use Rattle.mm_store.specs.PendingRecord.{PendingRecord}
use Rattle.mm_store.specs.declared.fault.StoreFault.{StoreFault}
use Rattle.mm_words.specs.declared.command.GeneratedSchedule.{GeneratedSchedule}
use Rattle.mm_gen.specs.Schedules.{IsReplayed, replay_of}
use Rattle.mm_gen.specs.declared.fault.BulkFault.TheVariants as bulk
use Rattle.mm_recovery.specs.FirstStart.{host_among, init_fault_as}
use Rattle.mm_recovery.specs.HostStanding.{HostStanding}
use Rattle.mm_recovery.specs.declared.fault.HostFault.{HostFault}
use Rattle.mm_recovery.specs.declared.fault.HostFault.TheVariants as host
use Rattle.mm_recovery.specs.declared.init_fault.InitFault.TheVariants as init
use Rattle.mm_recovery.specs.declared.resuming.Resumed.{Resumed}
use Rattle.mm_recovery.specs.declared.resuming.Resumed.TheVariants.{Answered, Start}
use Rattle.mm_host.specs.AnySlots.{requests_with}
use Rattle.mm_host.specs.Continuation.{RefusesAs, IsNoLines, first_served_call, served_calls_in}
use Rattle.mm_host.specs.Sessions.{SessionStanding, IsSession, replies_to, reply_text, ServedCall, SessionGoesAfterResume}
use Rattle.mm_host.specs.declared.fault.SessionFault.TheVariants as session
use Rattle.mm_host.proofs.Above.{among_input, unless_full}
use Rattle.mm_host_commands.specs.Outside.{devices_of}
use Rattle.mm_app.specs.Commands.{PlaysAndStops}
use Rattle.mm_app.specs.Completeness.{CanRun, CanServe, in_basic, in_opt, IsReplayable}
use Rattle.mm_app.specs.StatusFacts.{TellsNothing}
use Rattle.mm_app.proofs.Below.{◌≡◌, ◌∙◌, ◌+◌, ◌≤◌, ◌<◌, ℕ, Bool, true, false, List, length, Option, None, Some, Result, Ok, Err, refl, sym}
use Rattle.mm_app.proofs.Below.{ap, subst, inl, inr, arith, length-append, Consumes, IsAtEnd, Variant, TellsUse, GoesAfterLooking}
use Rattle.mm_app.proofs.Below.{GoesAfterAllPuts, GoesAfterTaking, Devices, SetsUp, TakesBytes, instance_from, result_of_write}
use Rattle.mm_app.proofs.Below.{SessionFault, InitFault, Instance, Refusal, meaning_of, module_of_id, any_is_found, AnyModule}
use Rattle.mm_app.proofs.Below.{ClosesSegment, EndsClosing, EndsLooking, FindsClosing, FindsSegment, LooksAtSegment, WeighsRegister}
use Rattle.mm_app.proofs.Below.{closing_by, result_of_closing_write, segment_by, segment_in, Checkpointed, CheckpointRefusal, StepFault}
use Rattle.mm_app.proofs.Below.{Standing, Header, CommandLine, Init, Run, Checkpoint, Power, Gen, Help, checkpoint_line, CommandDoes}
use Rattle.mm_app.proofs.Below.{DoesOrLacks, IsDoneOrFailed, CanClose, CanBeDone, ContinuesIfFound, Held, ShowsPower, Outside, power_line}
use Rattle.mm_app.proofs.Below.{FindsInstance, SeesInstance, ServesIfFound, found_header, found_instance, session_status, init_line}
use Rattle.mm_app.proofs.Below.{TellsLines, status_by, Status, Bulk, bulk_lines, BulkFault, Summary, ReplayFault, IsBlamed, is_read_fault}
use Rattle.mm_app.proofs.Below.{is_write_fault, status_of, TellsStop, []}
use Rattle.mm_app.proofs.Blame.{end_of}

-- what was told

written_ends : (r : Result (Unit {0}) write.WriteFault) (status : Status) → status ≡ status_by r → IsDoneOrFailed status
written_ends r status e = grind arith

told_ends : (told : Result (List ℕ) Status) (received received' : Option (List ℕ)) (writes writes' : ℕ) (status : Status)
    → TellsLines told received received' writes writes' status → IsDoneOrFailed (end_of told) → IsDoneOrFailed status
told_ends (Ok text) received received' writes writes' status t h = written_ends t.result status t.ends
told_ends (Err end) received received' writes writes' status t h = subst IsDoneOrFailed (sym t.ends) h

-- `power`

power_ends : (fault : Option StepFault) → IsDoneOrFailed (end_of (power_line fault))
power_ends fault = grind arith

-- `bulk`

bulk_ends : (it : GeneratedSchedule) (answer : Result Summary BulkFault) → IsReplayable it
    → IsReplayed (replay_of it.number it.count it.header) answer
    → IsDoneOrFailed (end_of (bulk_lines it.count answer))
bulk_ends it (Err bulk.TooMuch) can r = let clash : Ok can.0 ≡ Err replay.TooMuch = sym can.1 ∙ r in absurd (cc)
bulk_ends it _ can r = tt

-- `init`: with 64 bytes the source isn't too short

long_enough : (secrets taken : List ℕ) (left : Option (List ℕ)) → 64 ≤ length secrets → Consumes (Some secrets) left taken
    → (length taken < 64 → IsAtEnd left) → length taken < 64 → ⊥
long_enough secrets taken None many c ended few = absurd c
long_enough secrets taken (Some rest) many c ended few =
    let same : length secrets ≡ length taken + length rest = ap length c ∙ length-append taken rest in
    let none : length rest ≡ 0 = ap length (ended few) in
    absurd (omega arith)

abbrev pub Shorts : Result (Unit {0}) InitFault → ℕ → Type 0
Shorts result got = result ≡ Err (init.Short got)

written_whole : (written : Result (Unit {0}) StepFault) (result : Result (Unit {0}) InitFault) (got : ℕ) → result ≡ result_of_write written
    → Shorts result got → ⊥
written_whole written result got e s = grind arith

unstored_whole : (why : StoreFault) (result : Result (Unit {0}) InitFault) (got : ℕ) → result ≡ Err (init_fault_as why)
    → Shorts result got → ⊥
unstored_whole why result got e s = grind arith

put_whole : (cell : List ℕ) (before after : Standing) (stored : Result (Unit {0}) StoreFault) (result : Result (Unit {0}) InitFault)
    (got : ℕ) → GoesAfterAllPuts cell before after stored result → Shorts result got → ⊥
put_whole cell before after (Ok done) result got a s = written_whole a.written result got a.gives s
put_whole cell before after (Err why) result got a s = unstored_whole why result got a.1 s

pub set_whole : (i : Instance) (old new : HostStanding) (result : Result (Unit {0}) InitFault) (got : ℕ)
    → SetsUp i old new result → Shorts result got → ⊥
set_whole i old new result got up s = elim up [
  | inl none ↦ let e = none.1 in cc
  | inr both ↦ put_whole (cell_spelling (cell_of i first_history)) old.standing new.standing both.stored result got both.goes s
]

taken_whole : (variant : Variant) (meaning : Meaning) (middle after : Devices) (taken : Result (List ℕ) Failed) (result : Result (Unit {0})
    InitFault) (got : ℕ) → ((bytes : List ℕ) → taken ≡ Ok bytes → length bytes < 64 → ⊥)
    → GoesAfterTaking variant meaning middle after taken
    result → Shorts result got → ⊥
taken_whole variant meaning middle after (Err why) result got enough a s = let e = a.1 in cc
taken_whole variant meaning middle after (Ok bytes) result got enough a s = elim a [
  | inl few ↦ enough bytes refl few.0
  | inr many ↦ set_whole (instance_from variant meaning bytes) (host_among middle) (host_among after) result got many.2 s
]

never_short : (variant : Variant) (meaning : Meaning) (middle after : Devices) (is_blank : Result Bool StepFault)
    (result : Result (Unit {0}) InitFault) (secrets : List ℕ) (got : ℕ) → middle.left ≡ Some secrets → 64 ≤ length secrets
    → GoesAfterLooking variant meaning middle after is_blank result → Shorts result got → ⊥
never_short variant meaning middle after (Err fault) result secrets got left many a s = let e = a.1 in cc
never_short variant meaning middle after (Ok false) result secrets got left many a s = let e = a.1 in cc
never_short variant meaning middle after (Ok true) result secrets got left many a s =
    taken_whole variant meaning (record middle { left = a.left; source_faults = a.source_faults }) after a.taken result got
    (enough a.taken a.takes) a.goes s where
      enough : (taken : Result (List ℕ) Failed) → TakesBytes middle.left a.left middle.source_faults a.source_faults taken
          → (bytes : List ℕ) → taken ≡ Ok bytes → length bytes < 64 → ⊥
      enough taken t bytes is few =
          let u = subst (λ (r : Result (List ℕ) Failed). TakesBytes middle.left a.left middle.source_faults a.source_faults r) is t in
          long_enough secrets bytes a.left many (subst (λ (l : Option (List ℕ)). Consumes l a.left bytes) left u.consumed) u.ended few

start_ends : (answer : Result (Unit {0}) InitFault) → ((got : ℕ) → Shorts answer got → ⊥) → (answer ≡ Err init.Already → ⊥)
    → IsDoneOrFailed (end_of (init_line answer))
start_ends (Err init.Already) short used = absurd (used refl)
start_ends (Err (init.Short got)) short used = absurd (short got refl)
start_ends _ short used = tt

unused : (before : Devices) (cell : List ℕ) (answer : Result (Unit {0}) InitFault) → TellsUse before answer
    → before.platform.cell ≡ Some cell → cell ≡ blank_cell → answer ≡ Err init.Already → ⊥
unused before cell answer uses told blank is =
    let u = subst (λ (r : Result (Unit {0}) InitFault). TellsUse before r) is uses in u cell told blank

-- `checkpoint`

abbrev Ends : Result Checkpointed CheckpointRefusal → Type 0
Ends answer = IsDoneOrFailed (end_of (checkpoint_line answer))

-- what a read finds in the cell
segment_is : (held : Cell) (standing : Standing) (found : Result Segment CheckpointRefusal) → IsCell held
    → standing.cell ≡ Some (cell_spelling held) → held.variant ≡ Opt → FindsSegment standing found → found ≡ segment_by Opt held.flag held
segment_is held standing found formed told variant f =
    let read : f.sees.read ≡ Ok held = reads_cell-same f.bytes f.sees.read (Ok held) f.sees.reads (formed, f.told (cell_spelling held) told)
    in
    f.sees.found_is ∙ ap segment_in read ∙ ap (λ (v : Variant). segment_by v held.flag held) variant

not_refused : (flag : Bool) (held : Cell) (why : CheckpointRefusal)
    → (let r : Result Segment CheckpointRefusal = Err why in r ≡ segment_by Opt flag held) → ⊥
not_refused flag held why e = grind arith

is_open : (flag : Bool) (held cell : Cell) → (let r : Result Segment CheckpointRefusal = Ok (Open cell) in r ≡ segment_by Opt flag held)
    → flag ≡ true
is_open flag held cell e = grind arith

-- what is found in the register
pub is_zero : (zero : Bool) (cell : Cell) (register : List ℕ) (why : CheckpointRefusal)
    → (let r : Result (List ℕ) CheckpointRefusal = Err why in r ≡ closing_by zero cell register) → (zero ≡ true) × (why ≡ refusal.Lost)
is_zero zero cell register why e = grind arith

unlost : (cell : Cell) (standing : Standing) (why : CheckpointRefusal) → ShowsPower standing → FindsClosing cell standing (Err why) → ⊥
unlost cell standing why shows f =
    let zero = (is_zero (bytes_eq f.register zero_bytes) cell f.register why f.found_is).0 in
    shows.powered (sym (f.told shows.items shows.shown) ∙ (bytes_eq-Decides f.register zero_bytes).0 zero)

handed_ends : (written : Result Checkpointed StepFault) (answer : Result Checkpointed CheckpointRefusal)
    → answer ≡ result_of_closing_write written → Ends answer
handed_ends (Ok said.Done) answer e = subst Ends (sym e) tt
handed_ends _ answer e = subst Ends (sym e) tt

weighed_ends : (cell : Cell) (old middle new : Standing) (found : Result (List ℕ) CheckpointRefusal) (answer : Result Checkpointed
    CheckpointRefusal) → ShowsPower new → WeighsRegister cell old middle found → EndsClosing found middle new answer → Ends answer
weighed_ends cell old middle new (Err (refusal.Device fault)) answer shows w e = subst Ends (sym e.1) tt
weighed_ends cell old middle new (Err why) answer shows w e =
    absurd (unlost cell middle why (subst ShowsPower e.0 shows) (w.finds refl))
weighed_ends cell old middle new (Ok next) answer shows w e = handed_ends e.written answer e.gives

looked_ends : (held : Cell) (old middle new : Standing) (found : Result Segment CheckpointRefusal) (answer : Result Checkpointed
    CheckpointRefusal) → ((seen : FindsSegment old found) → found ≡ segment_by Opt held.flag held) → (held.flag ≡ true → ShowsPower new)
    → LooksAtSegment old middle found → EndsLooking found middle new answer → Ends answer
looked_ends held old middle new (Err (refusal.Device fault)) answer is shows l e = subst Ends (sym e.1) tt
looked_ends held old middle new (Err why) answer is shows l e = absurd (not_refused held.flag held why (is (l.finds refl)))
looked_ends held old middle new (Ok (Open cell)) answer is shows l e =
    weighed_ends cell middle e.middle new e.found answer (shows (is_open held.flag held cell (is (l.finds refl)))) e.weighs e.ends
looked_ends held old middle new _ answer is shows l e = subst Ends (sym e.1) tt

closing_ends : (old new : Outside) (answer : Result Checkpointed CheckpointRefusal) → CanClose old new
    → ClosesSegment old.standing new.standing answer → Ends answer
closing_ends old new answer can c =
    looked_ends can.held old.standing c.middle new.standing c.found answer
    (segment_is can.held old.standing c.found can.formed can.cell can.variant) can.powered c.looks c.ends

-- `run`

header_is : (v : Variant) (it : AnyModule) → found_header v (module_of_id (meaning_of it).id) ≡ Ok (record { variant = v; «module» = it })
header_is v it = ap (found_header v) (any_is_found it).by_id

refused_ends : (why : Refusal) (variant : Variant) (after : History) → life_of variant after ≢ LostLife → life_of variant after ≢ Spoiled
    → (why ≡ refused.Full → ⊥) → RefusesAs {T = Unit {0}} (Err (session.Host (host.Refused why))) variant after
    → IsDoneOrFailed (session_status (Err (session.Host (host.Refused why))))
refused_ends (refused.Device fault) variant after powered pure unfull r = tt
refused_ends refused.Lost variant after powered pure unfull r = absurd (powered r)
refused_ends refused.Stale variant after powered pure unfull r = absurd (pure r)
refused_ends refused.Full variant after powered pure unfull r = absurd (unfull refl)
refused_ends _ variant after powered pure unfull r = absurd r

session_ends : (answer : Result (Unit {0}) SessionFault) (variant : Variant) (after : History) → life_of variant after ≢ LostLife
    → life_of variant after ≢ Spoiled → IsNoLines answer → (answer ≡ Err (session.Host (host.Refused refused.Full)) → ⊥)
    → RefusesAs answer variant after → IsDoneOrFailed (session_status answer)
session_ends (Err (session.Host (host.Refused why))) variant after powered pure lines unfull r =
    refused_ends why variant after powered pure
    (λ e. unfull (ap (λ (w : Refusal). Err (session.Host (host.Refused w))) e)) r
session_ends (Err (session.Lines (replay.LineLong line))) variant after powered pure lines unfull r = absurd lines
session_ends (Err (session.Lines (replay.BadLine line))) variant after powered pure lines unfull r = absurd lines
session_ends (Err (session.Lines replay.TooMuch)) variant after powered pure lines unfull r = absurd lines
session_ends _ variant after powered pure lines unfull r = tt

module _ (old new : Outside) (status : Status) (middle : Standing) where
  abbrev Serves : Result Header Status → Type 0
  Serves found =
      ServesIfFound found (record old { standing = middle }) new status
      × ContinuesIfFound found old.standing (record old { standing = middle }) new

  -- what is found in the cell
  found_is : (v : Variant) (it : AnyModule) (held : Held) (found : Result Header Status) (bytes : List ℕ) → held.variant ≡ v
      → held.module ≡ (meaning_of it).id → IsCell held → old.standing.cell ≡ Some (cell_spelling held)
      → ((cell : List ℕ) → old.standing.cell ≡ Some cell → bytes ≡ cell) → SeesInstance bytes found
      → found ≡ Ok (record { variant = v; «module» = it })
  found_is v it held found bytes variant id formed here told sees =
      let read : sees.read ≡ Ok held = reads_cell-same bytes sees.read (Ok held) sees.reads (formed, told (cell_spelling held) here) in
      sees.found_is ∙ ap found_instance read
      ∙ (λ j. found_header (variant j) (module_of_id (id j))) ∙ header_is v it

  basic_ends : (it : AnyModule) (key : List ℕ) (can : CanServe (basic_instance (meaning_of it) key) old new)
      → Serves (Ok (record { variant = Basic; «module» = it })) → IsDoneOrFailed status
  basic_ends it key can s =
      let served = s.0.served in
      let waiting = can.may.fits.waiting in
      let requests = requests_with waiting (lines_of can.input) in
      let among = among_input served.sessions can.slots waiting can.may.told can.may.fits.is_waiting can.input can.left in
      let c = s.1 s.0.between served.answer served.sessions key can.y can.slots can.all can.others can.asked requests can.may can.follow
      among in
      subst IsDoneOrFailed (sym served.ends)
      (session_ends served.answer Basic c.runs.after (λ e. cc) (λ e. cc) (served.lines can.input can.left can.lines)
      (unless_full served.sessions can.slots waiting can.may.told can.may.fits.is_waiting can.y requests among can.room c) c.refuses)

  opt_ends : (it : AnyModule) (key barrier : List ℕ) (can : CanServe (opt_instance (meaning_of it) key barrier) old new)
      → Serves (Ok (record { variant = Opt; «module» = it })) → IsDoneOrFailed status
  opt_ends it key barrier can s =
      let served = s.0.served in
      let waiting = can.may.fits.waiting in
      let a = can.alone in
      let requests = requests_with waiting (lines_of can.input) in
      let among = among_input served.sessions can.slots waiting can.may.told can.may.fits.is_waiting can.input can.left in
      let c = s.1 s.0.between served.answer served.sessions key barrier can.y can.slots can.all can.others can.asked requests a.items a.more
      can.may can.follow among a.shown a.ends a.alone in
      subst IsDoneOrFailed (sym served.ends)
      (session_ends served.answer Opt c.runs.after (c.runs.powered a.powered) (c.runs.unspoiled a.nobody)
      (served.lines can.input can.left can.lines)
      (unless_full served.sessions can.slots waiting can.may.told can.may.fits.is_waiting can.y requests among can.room c) c.refuses)

  run_ends : (fault : Option StepFault) (found : Result Header Status) → CanRun old new → FindsInstance fault old.standing found
      → Serves found → IsDoneOrFailed status
  run_ends (Some fault) found can f s =
      let none = subst (λ (r : Result Header Status). Serves r) f s in subst IsDoneOrFailed (sym none.0.stops.ends) tt
  run_ends None found (in_basic it key can) f s =
      let at = can.may.stands in
      basic_ends it key can
      (subst (λ (r : Result Header Status). Serves r) (found_is Basic it (cell_of (basic_instance (meaning_of it) key) can.y)
      found f.0 refl refl at.spells at.cell f.1 f.2) s)
  run_ends None found (in_opt it key barrier can) f s =
      let at = can.may.stands in
      opt_ends it key barrier can (subst (λ (r : Result Header Status). Serves r) (found_is Opt it
      (cell_of (opt_instance (meaning_of it) key barrier) can.y) found f.0 refl refl at.spells at.cell f.1 f.2) s)

-- the commands

does_end : (command : CommandLine) (old new : Outside) (status : Status) → CanBeDone command old new → CommandDoes command old new status
    → IsDoneOrFailed status
does_end (Init header) old new status can d =
    told_ends (init_line d.answer) old.received new.received old.writes new.writes status d.tells
    (start_ends d.answer (λ got s. never_short header.variant (meaning_of header.module)
    (record (devices_of old) { platform = d.steps.platform }) (devices_of new) d.steps.is_blank d.answer can.secrets got can.left can.many
    d.steps.goes s) (unused (devices_of old) blank_cell d.answer d.uses can.cell refl))
does_end Run old new status can d = run_ends old new status d.middle d.looks.fault d.found can d.looks.finds (d.goes, d.continues)
does_end Checkpoint old new status can d =
    told_ends (checkpoint_line d.answer) old.received new.received old.writes new.writes status d.tells
    (closing_ends old new d.answer can d.closes)
does_end (Bulk it) old new status can d =
    told_ends (bulk_lines it.count d.1.answer) old.received new.received old.writes new.writes status d.1.tells
    (bulk_ends it d.1.answer can d.1.replayed)
does_end Power old new status can d =
    told_ends (power_line d.fault) old.received new.received old.writes new.writes status d.tells (power_ends d.fault)
does_end (Gen it) old new status can d = written_ends d.given.result status d.given.ends
does_end Help old new status can d = written_ends d.given.result status d.given.ends
does_end _ old new status can d = absurd can

pub may_be_done : (command : CommandLine) (old new : Outside) (status : Status) → CanBeDone command old new
    → DoesOrLacks command old new status
    → IsDoneOrFailed status
may_be_done command old new status can d = elim d [
  | inl does ↦ does_end command old new status can does
  | inr lacks ↦ subst IsDoneOrFailed (sym lacks.stops.ends) tt
]

-- A play of the lines, with its stop line, by what the play and the line tell.

pub plays_and_stops : {R : Type 0} (Plays : (left left' received received' : Option (List ℕ)) → Result R ReplayFault
    → Type 0) (old new : Outside) (middle : Option (List ℕ)) (count : ℕ) (answer : Result R ReplayFault) (status : Status)
    → Plays old.left new.left old.received middle answer → IsBlamed (is_read_fault answer) old.reads new.reads
    → IsBlamed (is_write_fault answer) old.writes count → status ≡ status_of answer → TellsStop middle new.received count new.writes status
    → PlaysAndStops Plays old new status
plays_and_stops Plays old new middle count answer status plays read wrote ends stops =
    record {
      middle = middle;
      count = count;
      played = record { answer = answer; plays = plays; read = read; wrote = wrote; ends = ends };
      stops = stops;
    }

-- A session that told nothing, by what was written, told no request.

-- what a text, and one more behind it, were appended to
received_from : (between after : Option (List ℕ)) (before sent stop : List ℕ) → Appends (Some before) between sent
    → Appends between after stop → after ≡ Some ((before ++ sent) ++ stop)
received_from None after before sent stop a b = absurd a
received_from (Some text) None before sent stop a b = absurd b
received_from (Some text) (Some all) before sent stop a b =
    ap (λ (x : List ℕ). Some x) (b ∙ ap (λ (x : List ℕ). x ++ stop) a)

-- the text begins with an answer
abbrev BeginsAnswer : List ℕ → Type 0
BeginsAnswer sent =
    (again : Bool) × (position : ℕ) × (output : List ℕ) × (rest : List ℕ) × (sent ≡ told_line again position output ++ rest)

no_answer : {old new : Outside} (nothing : TellsNothing old new) (between : Option (List ℕ)) (sent stop : List ℕ)
    → Appends old.received between sent → Appends between new.received stop → BeginsAnswer sent → ⊥
no_answer nothing between sent stop a b begins =
    let line : List ℕ = told_line begins.0 begins.1 begins.2 in
    let rest : List ℕ = begins.3 in
    nothing.untold begins.0 begins.1 begins.2 (rest ++ stop)
    (received_from between _ nothing.before sent stop (subst (λ (o : Option (List ℕ)). Appends o between sent) nothing.had a) b
    ∙ ap (λ (x : List ℕ). Some x)
    (append_assoc nothing.before sent stop
    ∙ ap (λ (x : List ℕ). nothing.before ++ x) (ap (λ (x : List ℕ). x ++ stop) begins.4 ∙ append_assoc line rest stop)
    ∙ sym (append_assoc nothing.before line (rest ++ stop))))

-- what was told first, and the lines behind it
untold_calls : (waiting : Option PendingRecord) (first : Resumed) (calls : List ServedCall) (sent replies last : List ℕ)
    → (BeginsAnswer sent → ⊥) → sent ≡ reply_text (Ok first) ++ replies → replies ≡ replies_to calls ++ last
    → first_served_call waiting first ++ calls ≡ []
untold_calls waiting (Answered answer) calls sent replies last not e r =
    absurd (not (answer.again, answer.position, answer.output, replies, e))
untold_calls waiting (Start bytes) (c ∷ calls) sent replies last not e r =
    absurd (not (
      c.answer.again,
      c.answer.position,
      c.answer.output,
      replies_to calls ++ last,
      e ∙ r ∙ append_assoc (told_line c.answer.again c.answer.position c.answer.output) (replies_to calls) last,
    ))
untold_calls None (Start bytes) [] sent replies last not e r = refl
untold_calls (Some p) (Start bytes) [] sent replies last not e r = refl

untold_by : {variant : Variant} {meaning : Meaning} {begun : Result Resumed HostFault} {middle new : HostStanding}
    {left : Option (List ℕ)} {taken sent : List ℕ} {result : Result (Unit {0}) SessionFault} (waiting : Option PendingRecord)
    (goes : SessionGoesAfterResume variant meaning begun middle new left taken sent result) → (BeginsAnswer sent → ⊥)
    → served_calls_in waiting goes ≡ []
untold_by waiting (inl stops) not = refl
untold_by {sent = sent} waiting (inr g) not =
    untold_calls waiting g.first g.lines.calls sent g.replies g.lines.last not
    (g.wrote ∙ ap (λ (r : Result Resumed HostFault). reply_text r ++ g.replies) g.begins) g.lines.wrote

pub untold_session : {variant : Variant} {meaning : Meaning} {from to : SessionStanding} {result : Result (Unit {0}) SessionFault}
    {old new : Outside} (waiting : Option PendingRecord) (s : IsSession variant meaning from to result) (stop : List ℕ)
    → from.received ≡ old.received → TellsNothing old new → Appends to.received new.received stop → served_calls_in waiting s.goes ≡ []
untold_session {to = to} waiting s stop same nothing b =
    untold_by waiting s.goes
    (no_answer nothing to.received s.sent stop (subst (λ (o : Option (List ℕ)). Appends o to.received s.sent) same s.appended) b)
