-- Commands of the program, run one after another, keep what their module promises. With it: what is
-- asked of devices in memory, which tell what they hold, is what is asked of any; a session goes on
-- from a first start; a session over an old copy of the pages is one run, as one over any slots is.
use Rattle.std.specs.List.{AllByRecursion}
use Rattle.std.specs.Option.{option_map}
use Rattle.std.proofs.Common.{◌≡◌, ◌++◌, ℕ, Bool, true, false, List, [], ◌∷◌, Some, drop, refl, take, inl, inr}
use Rattle.mm_base.specs.Streams.{Supply}
use Rattle.mm_digest.specs.declared.variant.Variant.TheVariants.{Basic, Opt}
use Rattle.mm_platform.specs.Standing.{Standing}
use Rattle.mm_twocell.specs.TornMemory.{picked_cell}
use Rattle.mm_modules.specs.Modules.{meaning_of}
use Rattle.mm_modules.specs.ModulesLaws.{any_is_lawful}
use Rattle.mm_model.specs.Chains.{Instance, basic_instance, opt_instance}
use Rattle.mm_model.specs.History.{first_history}
use Rattle.mm_model.specs.ListLaws.{each_append}
use Rattle.mm_model.specs.Standing.{issued_bytes}
use Rattle.mm_evidence.proofs.Above.{clash_or}
use Rattle.mm_store.specs.PendingRecord.{PendingRecord}
use Rattle.mm_store.specs.StoreStanding.{Slots, UnsyncedSlots}
use Rattle.mm_words.specs.declared.command.CommandLine.{CommandLine}
use Rattle.mm_words.specs.declared.command.CommandLine.TheVariants.{Run}
use Rattle.mm_recovery.specs.FirstStart.{first_history_on, first_slots}
use Rattle.mm_recovery.specs.HostStanding.{first_offer}
use Rattle.mm_recovery.specs.declared.fault.HostFault.{HostFault}
use Rattle.mm_recovery.specs.declared.init_fault.InitFault.{InitFault}
use Rattle.mm_recovery.specs.declared.resuming.Resumed.{Resumed}
use Rattle.mm_host.specs.AnySlots.{AreAskedInTurn, MayStart, requests_with, SessionRunsOnce, MayGoOn, SessionContinues}
use Rattle.mm_host.specs.Continuation.{ContinuesTo, IsInHand, last_bytes_in, served_calls_in}
use Rattle.mm_host.proofs.Above.{fits_genuine}
use Rattle.mm_life.specs.Deeds.{Calls, Checkpoints, Extends, LosesPower, session_calls}
use Rattle.mm_life.specs.Laws.{BasicLifeIsOne, LivesKeepPromises, OptLifeIsOne, SessionsOfferSlots}
use Rattle.mm_life.specs.Premises.{AreUntagged, IsFirstUntagged, life_batches, life_messages, opt_messages, others_values, snapshots_of}
use Rattle.mm_life.specs.Premises.{IsNoCall}
use Rattle.mm_life.specs.Stages.{Does, Holds, IsLife, LifePart, PartLeads, LifeStage, part_calls, session_on}
use Rattle.mm_at_work.specs.Commands.{AreKilledStagesOf, AreRun, AreStagesBy, AreStagesOf, AreStagesOfAll, CommandBehind, CommandsAreLife}
use Rattle.mm_at_work.specs.Commands.{IsQuiet, CommandRun}
use Rattle.mm_at_work.specs.Devices.{MemoryHost, host_by, CanRecoverInMemory, RecoversInMemory, MemorySession, memory_session, session_by}
use Rattle.mm_at_work.specs.Devices.{session_in_memory, BeginsAndServes, CanBegin, CanServeCopy, CopyRunsOnce, ServesCopy}
use Rattle.mm_at_work.specs.Lives.{BasicCommandsKeepPromises, OptCommandsKeepPromises, IsOldCopy}
use Rattle.mm_at_work.proofs.Below.{Result, Ok, Err, Option, length, OnOk, ap, ◌∙◌, Variant, Meaning, Batch, History, InstanceBegins}
use Rattle.mm_at_work.proofs.Below.{InitLeaves, CanRecover, HostRecovers, CachedDevice, Sheets, TornMemory, whole_bytes, TwoCell}
use Rattle.mm_at_work.proofs.Below.{first_devices, two_cells, StartsInMemory, None, subst, sym, lines_of, IsFirstStore, IsSession}
use Rattle.mm_at_work.proofs.Below.{SessionFault, store_in_pages}
use Rattle.mm_at_work.proofs.CommandLists.{met_still}
use Rattle.mm_at_work.proofs.WholeLives.{basic_short, first_by, first_is_old, opt_short}

-- the sessions of these stages begin over these slots, and besides no call is made
abbrev StartsOver : Slots → LifePart → Type 0
StartsOver slots (Holds p) = p.old.kept.slots ≡ Some slots
StartsOver slots (Does deed) = IsNoCall deed

abbrev StartOver : Slots → List LifeStage → Type 0
StartOver slots stages = AllByRecursion (λ (stage : LifeStage). StartsOver slots stage.part) stages

module _ (slots : Slots) where
  quiet_over : (stage : LifeStage) → IsQuiet stage → StartsOver slots stage.part
  quiet_over stage q = rw q.1 q.2

  all_quiet : (stages : List LifeStage) → AllByRecursion IsQuiet stages → StartOver slots stages
  all_quiet [] q = tt
  all_quiet (stage ∷ stages) q = (quiet_over stage q.0, all_quiet stages q.1)

  one_over : (r : CommandRun) (command : CommandLine) (stages : List LifeStage) → AreStagesOf r command stages → r.old.kept.slots
      ≡ Some slots
      → StartOver slots stages
  one_over r Run stages (inl none) told = all_quiet stages none.quiet
  one_over r Run stages (inr session) told = rw session.are (tt, (told, tt))
  one_over r _ stages quiet told = all_quiet stages quiet

  killed_over : (r : CommandRun) (command : CommandLine) (stages : List LifeStage) → AreKilledStagesOf r command stages
      → r.old.kept.slots ≡ Some slots → StartOver slots stages
  killed_over r Run stages (inl quiet) told = all_quiet stages quiet
  killed_over r Run stages (inr session) told = rw session.are (tt, (told, tt))
  killed_over r _ stages quiet told = all_quiet stages quiet

  by_over : (killed : Bool) (r : CommandRun) (stages : List LifeStage) → AreStagesBy killed r stages → r.old.kept.slots ≡ Some slots
      → StartOver slots stages
  by_over false r stages of told = one_over r r.command stages of told
  by_over true r stages of told = killed_over r r.command stages of told

  all_over : (commands : List CommandBehind) (start : Standing) (stages : List LifeStage) → AreRun start commands
      → AreStagesOfAll commands stages
      → AllByRecursion (λ (r : CommandBehind). r.old.kept.slots ≡ Some slots) commands → StartOver slots stages
  all_over [] start stages run e told = rw e tt
  all_over (r ∷ commands) start stages run (here, later, e, one, rest) told =
      let Over : LifeStage → Type 0 = λ stage. StartsOver slots stage.part in
      rw e (each_append Over r.met (here ++ later) (all_quiet r.met (met_still r.met start r.old.standing run.0))
      (each_append Over here later (by_over r.killed r.ran here one told.0)
      (all_over commands r.new.standing later run.2 rest told.1)))

-- so nothing is offered first but what was issued first
module _ (offers : SessionsOfferSlots) (i : Instance) (slots : Slots)
    (copy : (more : List (List ℕ)) → IsOldCopy i (issued_bytes i first_history ∷ more) slots) where
  abbrev Issued : List (List ℕ) → List (List ℕ)
  Issued more = issued_bytes i first_history ∷ more

  part_untagged : (more : List (List ℕ)) (old : Standing) (part : LifePart) (new : Standing)
      (f : PartLeads i.variant i.meaning old part new)
      → StartsOver slots part → IsFirstUntagged i (Issued more) (part_calls i.variant i.meaning old part new f)
  part_untagged more old (Holds p) new f told =
      elim (offers i.variant i.meaning (session_on old p.old) (session_on new p.new) p.result f slots told) [
        | inl none ↦ rw none tt
        | inr shown ↦
            first_by i (Issued more) (first_offer slots shown.waiting) (session_calls f)
            (copy more shown.waiting shown.is_waiting) shown.offered
      ]
  part_untagged more old (Does (Calls c)) new f quiet = absurd quiet
  part_untagged more old (Does (Extends values)) new f quiet = tt
  part_untagged more old (Does LosesPower) new f quiet = tt
  part_untagged more old (Does (Checkpoints said)) new f quiet = tt

  all_untagged : (stages : List LifeStage) (start : Standing) (more : List (List ℕ)) (f : IsLife i.variant i.meaning start stages)
      → StartOver slots stages → AreUntagged i (Issued more) start stages f
  all_untagged [] start more f told = tt
  all_untagged (stage ∷ stages) start more f told = (
    part_untagged more start stage.part stage.after f.0 told.0,
    all_untagged stages stage.after (more ++ snapshots_of (part_calls i.variant i.meaning start stage.part stage.after f.0)) f.1 told.1,
  )

module _ (are : CommandsAreLife) (keep : LivesKeepPromises) (offers : SessionsOfferSlots) where
  pub basic_commands_keep : BasicLifeIsOne → BasicCommandsKeepPromises
  basic_commands_keep one it before after begins cell commands told run =
      let key : List ℕ = take 32 begins.secrets in
      let i : Instance = basic_instance (meaning_of it) key in
      let stands = begins.stands cell [] told refl in
      let l = are it Basic key key first_history after.platform commands stands run in
      record {
        are = l;
        keeps = λ untagged.
            elim (clash_or i (life_messages i after.platform l.stages l.life) [] (life_batches i after.platform l.stages l.life)) [
              | inl clash ↦ inr clash
              | inr fine ↦
                  let whole = one (meaning_of it) (any_is_lawful it) key after.platform l.stages l.life stands fine.0 untagged in
                  inl (record { whole = whole; kept = keep it Basic after.platform l.stages l.life whole.requests whole.follows })
            ];
        untagged = λ first.
            all_untagged offers i (first_slots i)
            (first_is_old i (basic_short (meaning_of it) (any_is_lawful it) key) first_history (begins.first [])) l.stages after.platform []
            l.life (all_over (first_slots i) commands after.platform l.stages run l.stages_of first);
      }

  pub opt_commands_keep : OptLifeIsOne → OptCommandsKeepPromises
  opt_commands_keep one it before after begins cell values commands told shows run =
      let key : List ℕ = take 32 begins.secrets in
      let barrier : List ℕ = drop 32 begins.secrets in
      let i : Instance = opt_instance (meaning_of it) key barrier in
      let stands = begins.stands cell values told shows in
      let l = are it Opt key barrier (first_history_on values) after.platform commands stands run in
      record {
        are = l;
        keeps = λ untagged.
            elim (clash_or i (opt_messages i after.platform l.stages l.life) (others_values i after.platform l.stages l.life)
            (life_batches i after.platform l.stages l.life)) [
              | inl clash ↦ inr clash
              | inr fine ↦
                  let whole = one (meaning_of it) (any_is_lawful it) key barrier values after.platform l.stages l.life stands fine.0
                  (fine.1 refl) untagged in
                  inl (record { whole = whole; kept = keep it Opt after.platform l.stages l.life whole.requests whole.follows })
            ];
        untagged = λ first.
            all_untagged offers i (first_slots i)
            (first_is_old i (opt_short (meaning_of it) (any_is_lawful it) key barrier) (first_history_on []) (begins.first [])) l.stages
            after.platform [] l.life (all_over (first_slots i) commands after.platform l.stages run l.stages_of first);
      }

-- What is asked of devices in memory, which tell what they hold, is what is asked of any.

can_recover : {all others : List (List ℕ)} {asked : List Batch} {i : Instance} {y : History} {it : MemoryHost}
    → CanRecoverInMemory all others asked i y it → CanRecover all others asked i y it.pages.device.slots (host_by it)
can_recover can = record {
  honest = refl;
  told = refl;
  stands = can.stands;
  fits = can.fits;
  clear = can.clear;
  apart = can.apart;
  within = can.within;
  is_asked = can.is_asked;
}

pub recovers_in_memory : (variant : Variant) (meaning : Meaning) (old new : MemoryHost) (result : Result Resumed HostFault)
    → HostRecovers variant meaning (host_by old) (host_by new) result → RecoversInMemory variant meaning old new result
unfolding can_recover
recovers_in_memory Basic meaning old new result recovers = λ key y all others asked can.
    recovers key y old.pages.device.slots all others asked (can_recover can)
recovers_in_memory Opt meaning old new result recovers = λ key barrier y all others asked items more can.
    recovers key barrier y old.pages.device.slots all others asked items more (can_recover can)

-- a memory of 209 bytes is told whole
told_whole : (bytes : List ℕ) → length bytes ≡ 209 → whole_bytes (Some bytes) ≡ Some bytes
told_whole bytes e = rw e

pub tells_picked : (it : TwoCell TornMemory) (bytes : List ℕ) → it.raw.standing.cell ≡ Some bytes → length bytes ≡ 209 →
    (cell : List ℕ) × ((two_cells it).cell ≡ Some cell)
tells_picked it bytes e size = (
  picked_cell bytes,
  ap (λ (c : Option (List ℕ)). option_map picked_cell (whole_bytes c)) e ∙ ap (option_map picked_cell)
      (told_whole bytes size),
)

some_same : (a b : Slots) → (let o : Option Slots = Some a in o ≡ Some b) → a ≡ b
some_same a b h = cc

some_marks : (a b : UnsyncedSlots) → (let o : Option UnsyncedSlots = Some a in o ≡ Some b) → a ≡ b
some_marks a b h = cc

starts : (variant : Variant) (meaning : Meaning) (before after : TwoCell TornMemory) (old new : CachedDevice Sheets)
    (entropy entropy' : Supply)
    (cell : List ℕ) →
    (two_cells before).cell ≡ Some cell →
    InstanceBegins variant meaning (first_devices before old entropy) (first_devices after new entropy') →
    StartsInMemory variant meaning after new entropy.left entropy'.left
starts variant meaning before after old new entropy entropy' cell told b = record {
  secrets = b.secrets;
  counted = b.counted;
  taken = b.taken;
  stands = λ values shows. b.stands cell values told shows;
  slots = some_same _ _ (b.stores old.device.slots refl refl);
  synced = some_marks _ _ (b.synced old.device.unsynced refl);
  first = b.first;
}

pub starts_in_memory : (variant : Variant) (meaning : Meaning) (before after : TwoCell TornMemory) (old new : CachedDevice Sheets)
    (entropy entropy' : Supply) (result : Result Unit InitFault) →
    ((cell : List ℕ) × ((two_cells before).cell ≡ Some cell)) →
    InitLeaves variant meaning (first_devices before old entropy) (first_devices after new entropy') result →
    OnOk result (StartsInMemory variant meaning after new entropy.left entropy'.left)
starts_in_memory variant meaning before after old new entropy entropy' (Ok _) told leaves =
    starts variant meaning before after old new entropy entropy' told.0 told.1 leaves
starts_in_memory variant meaning before after old new entropy entropy' (Err why) told leaves = tt

-- A session goes on from a first start.

-- what is asked of a session holds
may_go_on : (all others : List (List ℕ)) (asked : List Batch) (meaning : Meaning) (middle : TwoCell TornMemory)
    (store : CachedDevice Sheets)
    (left left' : List ℕ) (lines : List (List ℕ))
    (s : StartsInMemory Basic meaning middle store left left') →
    CanBegin all others asked (basic_instance meaning (take 32 s.secrets)) lines →
    MayGoOn all others asked (basic_instance meaning (take 32 s.secrets)) first_history
    (first_slots (basic_instance meaning (take 32 s.secrets)))
    (two_cells middle) (store_in_pages store)
may_go_on all others asked meaning middle store left left' lines s can =
    let first : IsFirstStore (basic_instance meaning (take 32 s.secrets)) first_history = s.first [] in
    record {
      honest = refl;
      told = ap (λ (slots : Slots). let o : Option Slots = Some slots in o) s.slots;
      stands = s.stands [] refl;
      fits = first.fits;
      clear = can.clear;
      apart = can.apart;
      within = first.within all others asked can.started;
    }

-- a session's clauses
record Served (meaning : Meaning) (begun new : MemorySession) (result : Result Unit SessionFault) : Type 0 where
  session : IsSession Basic meaning (session_by begun) (session_by new) result
  continues : SessionContinues Basic meaning (session_by begun) (session_by new) result
  once : SessionRunsOnce Basic meaning (session_by begun) (session_by new) result

continues_to : (all others : List (List ℕ)) (asked : List Batch) (meaning : Meaning) (begun new : MemorySession) (left left' : List ℕ)
    (result : Result Unit SessionFault) (s : StartsInMemory Basic meaning begun.platform begun.pages left left')
    (it : Served meaning begun new result) →
    CanBegin all others asked (basic_instance meaning (take 32 s.secrets)) (lines_of begun.left) →
    ContinuesTo all others asked (basic_instance meaning (take 32 s.secrets)) first_history None (two_cells new.platform)
    (store_in_pages new.pages) (served_calls_in None it.session.goes) (IsInHand None it.session.goes)
    (last_bytes_in it.session.goes) result
unfolding may_go_on
continues_to all others asked meaning begun new left left' result s it can =
    let i : Instance = basic_instance meaning (take 32 s.secrets) in
    let first : IsFirstStore i first_history = s.first [] in
    let lines : List (List ℕ) = lines_of begun.left in
    let may = may_go_on all others asked meaning begun.platform begun.pages left left' lines s can in
    let slots : Slots = first_slots i in
    let follow : AreAskedInTurn all asked i first_history (first_offer slots first.fits.waiting)
    (requests_with first.fits.waiting lines) =
    subst (λ (w : Option PendingRecord). AreAskedInTurn all asked i first_history (first_offer slots w) (requests_with w lines))
    (sym first.nothing_waits) can.follow in
    let start : MayStart all others asked i first_history slots (two_cells begun.platform) (store_in_pages begun.pages) = record {
      told = may.told;
      waiting = first.fits.waiting;
      is_waiting = first.fits.is_waiting;
      stands = may.stands;
      clear = may.clear;
      apart = may.apart;
      within = may.within;
      genuine = fits_genuine i slots first_history first.fits.waiting first.fits.fits;
    } in
    let made = (it.once it.session (take 32 s.secrets) first_history slots all others asked
    (requests_with first.fits.waiting lines) start follow).made begun.left refl in
    subst (λ (waiting : Option PendingRecord). ContinuesTo all others asked i first_history waiting (two_cells new.platform)
    (store_in_pages new.pages) (served_calls_in waiting it.session.goes) (IsInHand waiting it.session.goes)
    (last_bytes_in it.session.goes) result) first.nothing_waits
    (it.continues it.session (take 32 s.secrets) first_history slots all others asked
    (requests_with first.fits.waiting lines) may follow made)

pub begins_and_serves : (meaning : Meaning) (left left' : List ℕ) (old new : MemorySession) (middle : TwoCell TornMemory)
    (store : CachedDevice Sheets) (result : Result Unit SessionFault) → StartsInMemory Basic meaning middle store left left'
    → IsSession Basic meaning (session_in_memory middle store old.left old.received) (session_by new) result
    → SessionContinues Basic meaning (session_in_memory middle store old.left old.received) (session_by new) result
    → SessionRunsOnce Basic meaning (session_in_memory middle store old.left old.received) (session_by new) result
    → BeginsAndServes meaning left left' old new result
begins_and_serves meaning left left' old new middle store result s session continues once = record {
  secrets = s.secrets;
  counted = s.counted;
  taken = s.taken;
  middle = middle;
  store = store;
  session = session;
  continues = λ all others asked can.
      continues_to all others asked meaning (memory_session middle store old.left old.received) new left left' result s
      (record { session = session; continues = continues; once = once }) can;
}

-- A session over an old copy of the pages is one run, as one over any slots is.

may_start : (all others : List (List ℕ)) (asked : List Batch) (i : Instance) (y : History) (it : TwoCell TornMemory)
    (copy : CachedDevice Sheets)
    (lines : List (List ℕ)) → CanServeCopy all others asked i y it copy.device.slots lines
    → MayStart all others asked i y copy.device.slots (two_cells it) (store_in_pages copy)
may_start all others asked i y it copy lines can = record {
  told = refl;
  waiting = can.waiting;
  is_waiting = can.is_waiting;
  stands = can.stands;
  clear = can.clear;
  apart = can.apart;
  within = can.within;
  genuine = can.genuine;
}

copy_runs : (variant : Variant) (meaning : Meaning) (old new : MemorySession) (result : Result Unit SessionFault)
    → SessionRunsOnce variant meaning (session_by old) (session_by new) result
    → (s : IsSession variant meaning (session_by old) (session_by new) result) → CopyRunsOnce variant meaning old new result s
unfolding may_start
copy_runs Basic meaning old new result once s = λ key y all others asked can.
    let r = once s key y old.pages.device.slots all others asked (requests_with can.waiting (lines_of old.left))
    (may_start all others asked (basic_instance meaning key) y old.platform old.pages (lines_of old.left) can) can.follow in
    r.ends (r.made old.left refl)
copy_runs Opt meaning old new result once s =
    λ key barrier y all others asked items more can known ends shown.
    let r = once s key barrier y old.pages.device.slots all others asked (requests_with can.waiting (lines_of old.left)) items more
    (may_start all others asked (opt_instance meaning key barrier) y old.platform old.pages (lines_of old.left) can) can.follow known
    ends shown in
    r.ends (r.made old.left refl)

pub serves_copy : (variant : Variant) (meaning : Meaning) (old new : MemorySession) (result : Result Unit SessionFault)
    → IsSession variant meaning (session_by old) (session_by new) result
    → SessionRunsOnce variant meaning (session_by old) (session_by new) result → ServesCopy variant meaning old new result
serves_copy variant meaning old new result s once =
    record { session = s; one_run = copy_runs variant meaning old new result once s }
