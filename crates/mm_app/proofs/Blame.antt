-- Whom the status of each command blames. With it: no command ends with Usage; what the status of
-- each command tells of the output.
use Rattle.mm_bytes.specs.declared.fault.WriteFault as write
use Rattle.mm_base.specs.declared.replay_fault.ReplayFault.TheVariants as fault
use Rattle.mm_platform.specs.Standing.{DeviceStepEnds, CycleEnds}
use Rattle.mm_platform.specs.declared.fault.StepFault.TheVariants.{Failed, Off}
use Rattle.mm_call.specs.CallFinding.{CountsHandedFault}
use Rattle.mm_play.specs.PlaysInput as plays
use Rattle.mm_recovery.specs.declared.fault.HostFault.{HostFault}
use Rattle.mm_recovery.specs.declared.init_fault.InitFault.TheVariants as init
use Rattle.mm_host.specs.Continuation as session_blame
use Rattle.mm_host.specs.declared.fault.SessionFault.TheVariants as session
use Rattle.mm_host_commands.specs.Run.{session_fault_status}
use Rattle.mm_app.proofs.Below.{◌≡◌, ◌∙◌, ℕ, Bool, true, false, List, Option, None, Some, Result, Ok, Err, refl, sym, ap, subst, inl, inr}
use Rattle.mm_app.proofs.Below.{arith, is_some, CountRose, ReplayFault, BulkFault, Summary, BlamesDevice, Devices, InitFault, SessionFault}
use Rattle.mm_app.proofs.Below.{Checkpointed, CheckpointRefusal, closing_fault_in, StepFault, Standing, Header, Held, CellFault}
use Rattle.mm_app.proofs.Below.{CommandLine, Init, Run, Checkpoint, Power, Replay, Check, Gen, Bulk, Slots, Receipts, Transfer, Help}
use Rattle.mm_app.proofs.Below.{BlamesSource, source_faults, tells_platform_fault, tells_read_fault, tells_store_fault, bulk_lines}
use Rattle.mm_app.proofs.Below.{checkpoint_line, CommandDoes, DoesOrLacks, ReadsInput, UsesPlatform, UsesStore, StoreStanding, Outside}
use Rattle.mm_app.proofs.Below.{IsStill, power_line, ServesIfFound, FindsInstance, found_instance, session_status, init_line, status_of}
use Rattle.mm_app.proofs.Below.{GivesText, StopsAs, TellsLines, status_by, Status, Done, Memory, WriteFault, PlatformFault, Usage, ◌⊎◌}
use Rattle.mm_app.proofs.Below.{next_count, CountsFaults, BlamesOutput, EndsAtOnce, TellsStop}

-- of the platform, the store and the source, a status blames these
pub record BlamesAs (status : Status) (platform store source : Bool) : Type 0 where
  pub platform_is : tells_platform_fault status ≡ platform
  pub store_is : tells_store_fault status ≡ store
  pub source_is : tells_read_fault status ≡ source

abbrev pub BlamesNone : Status → Type 0
BlamesNone status = BlamesAs status false false false

-- what was to be told, as a status
abbrev pub end_of : Result (List ℕ) Status → Status
end_of (Ok text) = Done
end_of (Err end) = end

module _ (status : Status) (p s q : Bool) where
  blames_as : (other : Status) → status ≡ other → BlamesAs other p s q → BlamesAs status p s q
  blames_as other e b = subst (λ (x : Status). BlamesAs x p s q) (sym e) b

  -- a status that tells of a write blames what Done does
  wrote_as : (r : Result (Unit {0}) write.WriteFault) → status ≡ status_by r → BlamesAs Done p s q → BlamesAs status p s q
  wrote_as r e b = grind arith

  told_as : (told : Result (List ℕ) Status) (received received' : Option (List ℕ)) (writes writes' : ℕ)
      → TellsLines told received received' writes writes' status → BlamesAs (end_of told) p s q → BlamesAs status p s q
  told_as (Ok text) received received' writes writes' t b = wrote_as t.result t.ends b
  told_as (Err end) received received' writes writes' t b = blames_as end t.ends b

memory_none : BlamesNone Memory
memory_none = grind arith

-- what is blamed for one status is for another that blames the same
blamed_as : (one other : Bool) (before now : ℕ) → one ≡ other → plays.IsBlamed other before now → plays.IsBlamed one before now
blamed_as one other before now e b = subst (λ (x : Bool). plays.IsBlamed x before now) (sym e) b

-- what an answer to lines blames, by its status
played_as : {T : Type 0} (answer : Result T ReplayFault) → BlamesAs (status_of answer) false false (plays.is_read_fault answer)
played_as answer = grind arith

bulk_none : (count : ℕ) (answer : Result Summary BulkFault) → BlamesNone (end_of (bulk_lines count answer))
bulk_none count answer = grind arith

power_as : (fault : Option StepFault) → BlamesAs (end_of (power_line fault)) (is_some fault) false false
power_as fault = grind arith

power_blames : (fault : Option StepFault) (before after : Standing) (emptied : Bool) → CycleEnds fault before after emptied
    → plays.IsBlamed (is_some fault) before.faults after.faults
power_blames None before after emptied e = e.2
power_blames (Some fault) before after emptied e = e

checkpoint_as : (answer : Result Checkpointed CheckpointRefusal)
    → BlamesAs (end_of (checkpoint_line answer)) (is_some (closing_fault_in answer)) false false
checkpoint_as answer = grind arith

blames_some : (fault : Option StepFault) (before after : ℕ) → CountsHandedFault fault before after
    → plays.IsBlamed (is_some fault) before after
blames_some None before after b = b
blames_some (Some fault) before after b = b

-- a first start

pub record StartBlames (before after : Devices) (end : Status) : Type 0 where
  pub platform : plays.IsBlamed (tells_platform_fault end) before.platform.faults after.platform.faults
  pub store : plays.IsBlamed (tells_store_fault end) before.store.faults after.store.faults
  pub source : plays.IsBlamed (tells_read_fault end) before.source_faults after.source_faults
  pub other : end ≡ WriteFault → ⊥

pub start_blames : (answer : Result (Unit {0}) InitFault) (before after : Devices) → BlamesDevice before after answer
    → StartBlames before after (end_of (init_line answer))
start_blames (Err init.Memory) _ _ b = record { platform = b.platform; store = b.store; source = b.source; other = λ h. cc }
start_blames _ _ _ b = record { platform = b.platform; store = b.store; source = b.source; other = λ h. cc }

-- a session

served_as : (answer : Result (Unit {0}) SessionFault)
    → BlamesAs (session_status answer) (session_blame.is_platform_fault answer) (session_blame.is_store_fault answer)
    (session_blame.is_read_fault answer)
served_as answer = grind arith

-- what a cell holds that no session is served over
pub record UnheldAs (end : Status) : Type 0 where
  pub blames : BlamesNone end
  pub other : end ≡ WriteFault → ⊥

pub unheld_as : (read : Result Held CellFault) (end : Status) → Err end ≡ found_instance read → UnheldAs end
unheld_as read end e = grind arith

-- what no session is served over, by the first step's fault
pub platform_end : (end : Status) → (let r : Result Header Status = Err end in r ≡ Err PlatformFault) → end ≡ PlatformFault
platform_end end e = cc

-- a device that failed is blamed
failed_rose : (fault : StepFault) (before after : Standing) (made : Bool) → DeviceStepEnds (Some fault) before after made
    → CountRose before.faults after.faults
failed_rose Failed before after made e = e.faults
failed_rose Off before after made e = e.faults

-- the commands

pub record Frames (command : CommandLine) (old new : Outside) : Type 0 where
  pub standing : (UsesPlatform command → ⊥) → new.standing ≡ old.standing
  pub kept : (UsesStore command → ⊥) → new.kept ≡ old.kept
  pub reads : (ReadsInput command → ⊥) → new.reads ≡ old.reads

pub record Blamed (command : CommandLine) (old new : Outside) (status : Status) : Type 0 where
  pub platform : plays.IsBlamed (tells_platform_fault status) old.standing.faults new.standing.faults
  pub store : plays.IsBlamed (tells_store_fault status) old.kept.faults new.kept.faults
  pub source : BlamesSource command old new status

same_kept : (old new : Outside) → new.kept ≡ old.kept → new.kept.faults ≡ old.kept.faults
same_kept old new e = ap (λ (k : StoreStanding). k.faults) e

module _ (command : CommandLine) (old new : Outside) (status : Status) where
  -- by what the status blames, and whose counts rose
  blamed_so : (p s q : Bool) → BlamesAs status p s q → plays.IsBlamed p old.standing.faults new.standing.faults
      → plays.IsBlamed s old.kept.faults new.kept.faults → plays.IsBlamed q (source_faults command old) (source_faults command new)
      → Blamed command old new status
  blamed_so p s q b platform store source = record {
    platform = blamed_as _ _ _ _ b.platform_is platform;
    store = blamed_as _ _ _ _ b.store_is store;
    source = blamed_as _ _ _ _ b.source_is source;
  }

  same_source : IsStill old new → source_faults command new ≡ source_faults command old
  same_source s = by command where
    by : (it : CommandLine) → source_faults it new ≡ source_faults it old
    by (Init header) = s.takes
    by _ = s.reads

  -- nobody is blamed, and nothing has changed but the output
  still_blamed : IsStill old new → BlamesNone status → Blamed command old new status
  still_blamed s b =
      blamed_so false false false b (ap (λ (x : Standing). x.faults) s.standing) (same_kept old new s.kept) (same_source s)

  -- nothing was done but to write a stop line
  stopped_blamed : (end : Status) → BlamesNone end → IsStill old new
      → StopsAs end old.received new.received old.writes new.writes status → Blamed command old new status
  stopped_blamed end none still s = still_blamed still (blames_as status false false false end s.ends none)

  given_blamed : (text : List ℕ) → GivesText text old new status → Blamed command old new status
  given_blamed text g = still_blamed g.still (wrote_as status false false false g.given.result g.given.ends (grind arith))

  -- a command that answers the lines of the input, and uses neither the platform nor the store
  lines_blamed : {T : Type 0} (answer : Result T ReplayFault) → Frames command old new → (UsesPlatform command → ⊥)
      → (UsesStore command → ⊥) → status ≡ status_of answer
      → plays.IsBlamed (plays.is_read_fault answer) (source_faults command old) (source_faults command new)
      → Blamed command old new status
  lines_blamed answer f no_platform no_store e b =
      blamed_so false false (plays.is_read_fault answer) (blames_as status _ _ _ (status_of answer) e (played_as answer))
      (ap (λ (x : Standing). x.faults) (f.standing no_platform)) (same_kept old new (f.kept no_store)) b

  -- a session, or none where no instance was found
  run_blamed : (found : Result Header Status) (fault : Option StepFault) (middle : Standing) (made : Bool)
      → DeviceStepEnds fault old.standing middle made → FindsInstance fault old.standing found
      → ServesIfFound found (record old { standing = middle }) new status → source_faults command old ≡ old.reads
      → source_faults command new ≡ new.reads → Blamed command old new status
  run_blamed (Ok header) None middle made e f a read read' =
      let served = a.served in
      blamed_so _ _ _ (blames_as status _ _ _ (session_status served.answer) served.ends (served_as served.answer))
      (subst (λ (n : ℕ). plays.IsBlamed (session_blame.is_platform_fault served.answer) n new.standing.faults) e.faults served.platform)
      served.store (rw (read, read') served.read)
  run_blamed (Err end) None middle made e f a read read' =
      let sees = f.2 in
      blamed_so false false false (blames_as status _ _ _ end a.stops.ends (unheld_as sees.read end sees.found_is).blames)
      (ap (λ (s : Standing). s.faults) a.standing ∙ e.faults) (same_kept old new a.kept) (rw (read, read') a.unfailed)
  run_blamed (Ok header) (Some fault) middle made e f a read read' = absurd (cc)
  run_blamed (Err end) (Some fault) middle made e f a read read' =
      blamed_so true false false
      (blames_as status _ _ _ PlatformFault (a.stops.ends ∙ platform_end end f)
      (record { platform_is = refl; store_is = refl; source_is = refl }))
      (subst (λ (s : Standing). CountRose old.standing.faults s.faults) (sym a.standing) (failed_rose fault old.standing middle made e))
      (same_kept old new a.kept) (rw (read, read') a.unfailed)

pub done_blamed : (command : CommandLine) (old new : Outside) (status : Status) → Frames command old new
    → CommandDoes command old new status
    → Blamed command old new status
done_blamed (Init header) old new status f d =
    let b = start_blames d.answer _ _ d.faults in
    blamed_so (Init header) old new status _ _ _
    (told_as status _ _ _ (init_line d.answer) _ _ _ _ d.tells (record { platform_is = refl; store_is = refl; source_is = refl }))
    b.platform b.store b.source
done_blamed Run old new status f d =
    run_blamed Run old new status d.found d.looks.fault d.middle d.looks.goes.is_made d.looks.goes.ends d.looks.finds d.goes refl refl
done_blamed (Gen it) old new status f d = given_blamed (Gen it) old new status _ d
done_blamed Help old new status f d = given_blamed Help old new status _ d
done_blamed (Bulk it) old new status f d =
    still_blamed (Bulk it) old new status d.0
    (told_as status _ _ _ (bulk_lines it.count d.1.answer) _ _ _ _ d.1.tells (bulk_none it.count d.1.answer))
done_blamed (Receipts key) old new status f d =
    lines_blamed (Receipts key) old new status d.played.answer f (λ h. h) (λ h. h) d.played.ends d.played.read
done_blamed Replay old new status f d = lines_blamed Replay old new status d.played.answer f (λ h. h) (λ h. h) d.played.ends d.played.read
done_blamed Check old new status f d = lines_blamed Check old new status d.played.answer f (λ h. h) (λ h. h) d.played.ends d.played.read
done_blamed Slots old new status f d = lines_blamed Slots old new status d.played.answer f (λ h. h) (λ h. h) d.played.ends d.played.read
done_blamed Transfer old new status f d =
    lines_blamed Transfer old new status d.played.answer f (λ h. h) (λ h. h) d.played.ends d.played.read
done_blamed Power old new status f d =
    blamed_so Power old new status _ _ _ (told_as status _ _ _ (power_line d.fault) _ _ _ _ d.tells (power_as d.fault))
    (power_blames d.fault _ _ d.cycles.is_emptied d.cycles.ends) (same_kept old new (f.kept (λ h. h))) (f.reads (λ h. h))
done_blamed Checkpoint old new status f d =
    blamed_so Checkpoint old new status _ _ _ (told_as status _ _ _ (checkpoint_line d.answer) _ _ _ _ d.tells (checkpoint_as d.answer))
    (blames_some (closing_fault_in d.answer) _ _ d.faults) (same_kept old new (f.kept (λ h. h))) (f.reads (λ h. h))

pub blamed : (command : CommandLine) (old new : Outside) (status : Status) → Frames command old new → DoesOrLacks command old new status
    → Blamed command old new status
blamed command old new status f (inl d) = done_blamed command old new status f d
blamed command old new status f (inr e) = stopped_blamed command old new status Memory memory_none e.still e.stops

-- No command ends with Usage.

text_usage : (r : Result (Unit {0}) write.WriteFault) → status_by r ≡ Usage → ⊥
text_usage r e = grind (arith, e)

told_usage : (told : Result (List ℕ) Status) (received received' : Option (List ℕ)) (writes writes' : ℕ) (status : Status)
    → TellsLines told received received' writes writes' status → (end_of told ≡ Usage → ⊥) → status ≡ Usage → ⊥
told_usage (Ok text) received received' writes writes' status t not e = text_usage t.result (sym t.ends ∙ e)
told_usage (Err end) received received' writes writes' status t not e = not (sym t.ends ∙ e)

start_usage : (answer : Result (Unit {0}) InitFault) → end_of (init_line answer) ≡ Usage → ⊥
start_usage answer e = grind (arith, e)

bulk_usage : (count : ℕ) (answer : Result Summary BulkFault) → end_of (bulk_lines count answer) ≡ Usage → ⊥
bulk_usage count answer e = grind (arith, e)

power_usage : (fault : Option StepFault) → end_of (power_line fault) ≡ Usage → ⊥
power_usage fault e = grind (arith, e)

checkpoint_usage : (answer : Result Checkpointed CheckpointRefusal) → end_of (checkpoint_line answer) ≡ Usage → ⊥
checkpoint_usage answer e = grind (arith, e)

played_usage : {T : Type 0} (answer : Result T ReplayFault) → status_of answer ≡ Usage → ⊥
played_usage answer e = grind (arith, e)

session_usage : (answer : Result (Unit {0}) SessionFault) → session_status answer ≡ Usage → ⊥
session_usage answer e = grind (arith, e)

unheld_usage : (read : Result Held CellFault) (end : Status) → Err end ≡ found_instance read → end ≡ Usage → ⊥
unheld_usage read end is e = grind (arith, is, e)

unserved_usage : (fault : Option StepFault) (before : Standing) (end : Status) → FindsInstance fault before (Err end) → end ≡ Usage → ⊥
unserved_usage None before end f = unheld_usage f.2.read end f.2.found_is
unserved_usage (Some fault) before end f = let is = platform_end end f in λ e. cc

run_usage : (fault : Option StepFault) (found : Result Header Status) (before : Standing) (old new : Outside) (status : Status)
    → FindsInstance fault before found → ServesIfFound found old new status → status ≡ Usage → ⊥
run_usage fault (Ok header) before old new status f a e = session_usage a.served.answer (sym a.served.ends ∙ e)
run_usage fault (Err end) before old new status f a e = unserved_usage fault before end f (sym a.stops.ends ∙ e)

no_usage : (command : CommandLine) (old new : Outside) (status : Status) → CommandDoes command old new status → status ≡ Usage → ⊥
no_usage (Init header) old new status d = told_usage (init_line d.answer) _ _ _ _ status d.tells (start_usage d.answer)
no_usage Run old new status d =
    run_usage d.looks.fault d.found old.standing (record old { standing = d.middle }) new status d.looks.finds d.goes
no_usage Checkpoint old new status d = told_usage (checkpoint_line d.answer) _ _ _ _ status d.tells (checkpoint_usage d.answer)
no_usage Power old new status d = told_usage (power_line d.fault) _ _ _ _ status d.tells (power_usage d.fault)
no_usage (Bulk it) old new status d =
    told_usage (bulk_lines it.count d.1.answer) _ _ _ _ status d.1.tells (bulk_usage it.count d.1.answer)
no_usage (Gen it) old new status d = λ e. text_usage d.given.result (sym d.given.ends ∙ e)
no_usage Help old new status d = λ e. text_usage d.given.result (sym d.given.ends ∙ e)
no_usage _ old new status d = λ e. played_usage d.played.answer (sym d.played.ends ∙ e)

pub never_usage : (command : CommandLine) (old new : Outside) (status : Status) → DoesOrLacks command old new status → status ≡ Usage → ⊥
never_usage command old new status (inl d) is = no_usage command old new status d is
never_usage command old new status (inr e) is = let clash : Memory ≡ Usage = sym e.stops.ends ∙ is in absurd (cc)

-- What the status of each command tells of the output.

-- the output

-- the output's count, where one writing came last
told_once : {T : Type 0} (r : Result T write.WriteFault) (writes count writes' : ℕ) → count ≡ writes → CountsFaults count writes' r
    → (writes' ≡ writes) ⊎ CountRose writes writes'
told_once (Ok done) writes count writes' same c = inl (c.kept ∙ same)
told_once (Err fault) writes count writes' same c = inr (c.failed ∙ ap next_count same)

output_by : (r : Result (Unit {0}) write.WriteFault) (status : Status) (writes writes' : ℕ) → CountsFaults writes writes' r
    → status ≡ status_by r → BlamesOutput status writes writes'
output_by (Ok done) status writes writes' c e = record { failed = λ h. cc; done = λ h. c.kept; once = inl c.kept }
output_by (Err fault) status writes writes' c e = record { failed = λ h. c.failed; done = λ h. cc; once = inr c.failed }

output_stopped : (end status : Status) (received received' : Option (List ℕ)) (writes writes' : ℕ) → (end ≡ WriteFault → ⊥)
    → StopsAs end received received' writes writes' status → BlamesOutput status writes writes'
output_stopped end status received received' writes writes' other s = record {
  failed = λ h. absurd (other (sym s.ends ∙ h));
  done = λ h. s.stops.done (sym s.ends ∙ h);
  once = told_once s.stops.result writes writes writes' refl s.stops.counts;
}

output_played : {T : Type 0} (answer : Result T ReplayFault) (status : Status) (middle received' : Option (List ℕ))
    (writes count writes' : ℕ) → plays.IsBlamed (plays.is_write_fault answer) writes count → status ≡ status_of answer
    → TellsStop middle received' count writes' status → BlamesOutput status writes writes'
output_played (Ok it) status middle received' writes count writes' b e s = record {
  failed = λ h. absurd (cc);
  done = λ h. s.done h ∙ b;
  once = told_once s.result writes count writes' b s.counts;
}
output_played (Err fault.WriteFault) status middle received' writes count writes' b e s = record {
  failed = λ h. subst (λ (n : ℕ). CountRose writes n) (sym (s.failed h)) b;
  done = λ h. absurd (cc);
  once = inr (s.failed e ∙ b);
}
output_played _ status middle received' writes count writes' b e s =
    record { failed = λ h. absurd (cc); done = λ h. absurd (cc); once = told_once s.result writes count writes' b s.counts }

output_told : (told : Result (List ℕ) Status) (received received' : Option (List ℕ)) (writes writes' : ℕ) (status : Status)
    → (end_of told ≡ WriteFault → ⊥) → TellsLines told received received' writes writes' status → BlamesOutput status writes writes'
output_told (Ok text) received received' writes writes' status other t = output_by t.result status writes writes' t.counts t.ends
output_told (Err end) received received' writes writes' status other t = output_stopped end status received received' writes writes' other t

record HostAs (why : HostFault) : Type 0 where
  other : session_fault_status (session.Host why) ≡ WriteFault → ⊥
  undone : session_fault_status (session.Host why) ≡ Done → ⊥

host_as : (why : HostFault) → HostAs why
host_as why = grind arith

output_served : (answer : Result (Unit {0}) SessionFault) (status : Status) (middle received' : Option (List ℕ)) (writes count writes' : ℕ)
    → plays.IsBlamed (session_blame.is_write_fault answer) writes count → status ≡ session_status answer
    → TellsStop middle received' count writes' status → BlamesOutput status writes writes'
output_served (Ok it) status middle received' writes count writes' b e s =
    output_played (Ok it) status middle received' writes count writes' b e s
output_served (Err (session.Lines fault)) status middle received' writes count writes' b e s =
    output_played {T = Unit {0}} (Err fault) status middle received' writes count writes' b e s
output_served (Err (session.Host why)) status middle received' writes count writes' b e s = record {
  failed = λ h. absurd ((host_as why).other (sym e ∙ h));
  done = λ h. absurd ((host_as why).undone (sym e ∙ h));
  once = told_once s.result writes count writes' b s.counts;
}

-- what no session is served over is no fault of the output
unserved : (fault : Option StepFault) (before : Standing) (end : Status) → FindsInstance fault before (Err end) → end ≡ WriteFault → ⊥
unserved None before end f = (unheld_as f.2.read end f.2.found_is).other
unserved (Some fault) before end f = let is = platform_end end f in λ h. cc

output_run : (fault : Option StepFault) (found : Result Header Status) (before : Standing) (old new : Outside) (status : Status)
    → FindsInstance fault before found → ServesIfFound found old new status → BlamesOutput status old.writes new.writes
output_run fault (Ok header) before old new status f a =
    output_served a.served.answer status a.between new.received old.writes a.count new.writes a.served.wrote a.served.ends a.stops
output_run fault (Err end) before old new status f a =
    output_stopped end status old.received new.received old.writes new.writes (unserved fault before end f) a.stops

bulk_no_write : (count : ℕ) (answer : Result Summary BulkFault) → end_of (bulk_lines count answer) ≡ WriteFault → ⊥
bulk_no_write count answer h = grind arith

power_no_write : (fault : Option StepFault) → end_of (power_line fault) ≡ WriteFault → ⊥
power_no_write fault h = grind arith

checkpoint_no_write : (answer : Result Checkpointed CheckpointRefusal) → end_of (checkpoint_line answer) ≡ WriteFault → ⊥
checkpoint_no_write answer h = grind arith

-- the output, for each command

output_ended : (old new : Outside) (end status : Status) → (end ≡ WriteFault → ⊥) → EndsAtOnce old new end status
    → BlamesOutput status old.writes new.writes
output_ended old new end status other e = output_stopped end status old.received new.received old.writes new.writes other e.stops

no_memory : Memory ≡ WriteFault → ⊥
no_memory h = cc

output_given : (old new : Outside) (text : List ℕ) (status : Status) → GivesText text old new status
    → BlamesOutput status old.writes new.writes
output_given old new text status g = output_by g.given.result status _ _ g.given.counts g.given.ends

output_done : (command : CommandLine) (old new : Outside) (status : Status) → CommandDoes command old new status
    → BlamesOutput status old.writes new.writes
output_done (Init header) old new status d =
    output_told (init_line d.answer) _ _ _ _ status (start_blames d.answer _ _ d.faults).other d.tells
output_done Run old new status d =
    output_run d.looks.fault d.found old.standing (record old { standing = d.middle }) new status d.looks.finds d.goes
output_done (Gen it) old new status d = output_given old new _ status d
output_done Help old new status d = output_given old new _ status d
output_done (Bulk it) old new status d =
    output_told (bulk_lines it.count d.1.answer) _ _ _ _ status (bulk_no_write it.count d.1.answer) d.1.tells
output_done Power old new status d = output_told (power_line d.fault) _ _ _ _ status (power_no_write d.fault) d.tells
output_done Checkpoint old new status d = output_told (checkpoint_line d.answer) _ _ _ _ status (checkpoint_no_write d.answer) d.tells
output_done _ old new status d = output_played d.played.answer status d.middle new.received _ _ _ d.played.wrote d.played.ends d.stops

pub output_blamed : (command : CommandLine) (old new : Outside) (status : Status) → DoesOrLacks command old new status
    → BlamesOutput status old.writes new.writes
output_blamed command old new status (inl d) = output_done command old new status d
output_blamed command old new status (inr e) = output_ended old new Memory status no_memory e
