-- Lives over devices in memory are wholes: the slots of the first start are offered first, and of a
-- copy what is asked. With it: the commands of the program are parts of a life, by what each does;
-- one command more, behind those that were run.
use Rattle.std.specs.List.{Contains}
use Rattle.std.proofs.Common.{◌≡◌, ◌≤◌, ◌∙◌, ℕ, List, [], ◌∷◌, None, Some, Result, arith, drop, length, refl, sym, ap, subst, take, inl}
use Rattle.std.proofs.Common.{inr, Option, Ok, Err, ◌+◌, ◌++◌, false, length-append}
use Rattle.std.proofs.lemmas.List.{append-nil, take_all}
use Rattle.mm_digest.specs.declared.variant.Variant.{Variant}
use Rattle.mm_digest.specs.declared.variant.Variant.TheVariants.{Basic, Opt}
use Rattle.mm_seal.specs.Cell.{IsCell, cell_spelling}
use Rattle.mm_seal.specs.CellLaws.{reads_cell-same}
use Rattle.mm_seal.specs.declared.cell.Cell.{Cell as Held}
use Rattle.mm_platform.specs.Standing.{Standing}
use Rattle.mm_platform.specs.declared.fault.StepFault.{StepFault}
use Rattle.mm_twocell.specs.TornMemory.{TornMemory}
use Rattle.mm_twocell.specs.declared.pair.TwoCell.{TwoCell}
use Rattle.mm_module.specs.Meaning.{IsLawful, Meaning}
use Rattle.mm_modules.specs.Modules.{any_is_found, module_of_id, meaning_of}
use Rattle.mm_modules.specs.declared.any.AnyModule.{AnyModule}
use Rattle.mm_model.specs.Chains.{Instance, basic_instance, opt_instance}
use Rattle.mm_model.specs.FormLaws.{sealed_snapshot_of-most}
use Rattle.mm_model.specs.History.{History, first_history}
use Rattle.mm_model.specs.Standing.{issued_bytes, cell_of}
use Rattle.mm_call.specs.OfferLaws.{basic_content, opt_content}
use Rattle.mm_call.specs.Standing.{instance_by}
use Rattle.mm_opt.specs.declared.segment.Checkpointed.{Checkpointed}
use Rattle.mm_opt.specs.declared.segment.CheckpointRefusal.{CheckpointRefusal}
use Rattle.mm_schedule.specs.declared.header.Header.{Header}
use Rattle.mm_evidence.proofs.Above.{clash_or}
use Rattle.mm_status.specs.declared.status.Status.{Status}
use Rattle.mm_store.specs.StoreStanding.{Slots, longest_slot, slot_front}
use Rattle.mm_store.proofs.Above.{longest_slot-is}
use Rattle.mm_pages.specs.CachedDevice.{CachedDevice}
use Rattle.mm_pages.specs.PageStanding.{Sheets}
use Rattle.mm_recovery.specs.FirstStart.{IsFirstStore, ShowsValues, first_history_on, first_slots, InitLeaves}
use Rattle.mm_recovery.specs.HostStanding.{first_offer}
use Rattle.mm_recovery.specs.declared.init_fault.InitFault.{InitFault}
use Rattle.mm_recovery.proofs.Above.{one_waiting, is_checkpoint}
use Rattle.mm_host.specs.Sessions.{SessionStanding, IsSession}
use Rattle.mm_host.specs.declared.fault.SessionFault.{SessionFault}
use Rattle.mm_host_commands.specs.Outside.{Outside, devices_of}
use Rattle.mm_host_commands.specs.Run.{FindsInstance, SeesInstance, ServesIfFound, found_header, found_instance}
use Rattle.mm_life.specs.Deeds.{LifeCall, Checkpoints, Deed, LosesPower, IsFirstOffered, session_calls, DeedLeads, Extends, CyclesAreDeeds}
use Rattle.mm_life.specs.Deeds.{ReadsAreDeeds}
use Rattle.mm_life.specs.Laws.{BasicLifeIsOne, OptLifeIsOne, SessionsOfferSlots}
use Rattle.mm_life.specs.Premises.{IsFirstUntagged, IsUntagged, life_batches, life_messages, opt_messages, others_values, snapshots_of}
use Rattle.mm_life.specs.Stages.{Does, IsLife, LifeStage, session_on, session_stage}
use Rattle.mm_at_work.specs.CommandLives.{CheckpointsArePartsOfLife, IsRunOfLife, LossesArePartsOfLife, RunsArePartsOfLife}
use Rattle.mm_at_work.specs.CommandLives.{RunsFindTheInstance, InitBeginsLife}
use Rattle.mm_at_work.specs.Commands.{AreRun, CommandBehind, IsCommandRun, CommandRun, standing_behind}
use Rattle.mm_at_work.specs.declared.hosts.Verb.{Verb}
use Rattle.mm_at_work.specs.Devices.{program_in_memory, session_in_memory, two_cells, StartsInMemory}
use Rattle.mm_at_work.specs.Lives.{BeginsLife, FirstSlotsAreOld, IsOldCopy, IsWholeInBasic, IsWholeInOpt, LivesCheckpointed, LivesOnCopy}
use Rattle.mm_at_work.specs.Lives.{LivesWithoutPower, MemoryLife, AreHanded, AreOfRounds, HaveRun, HostRound, IsOfRound, verb_command}

-- The first slots offer the first snapshot, as nothing waits in them.
fits_slot : (size limit : ℕ) → size ≤ 1048690 → limit ≡ 1100000 → size ≤ limit
fits_slot size limit h e = omega (arith, h, e)

first_seen : (i : Instance) → length (issued_bytes i first_history) ≤ 1048690 → slot_front (first_slots i) 0 ≡ issued_bytes i first_history
first_seen i short = take_all longest_slot (issued_bytes i first_history) (fits_slot _ longest_slot short longest_slot-is)

first_in : (bytes : List ℕ) (more : List (List ℕ)) → Contains (bytes ∷ more) bytes
first_in bytes more = (0, omega arith, refl)

pub first_is_old : (i : Instance) → length (issued_bytes i first_history) ≤ 1048690 → (y : History) → IsFirstStore i y → FirstSlotsAreOld i
first_is_old i short y first more waiting w content right =
    let slots : Slots = first_slots i in
    let none : waiting ≡ None = one_waiting (slot_front slots 2) (slot_front slots 3) waiting first.fits.waiting w first.fits.is_waiting
    ∙ first.nothing_waits in
    let offers : first_offer slots waiting ≡ issued_bytes i first_history = ap (first_offer slots) none ∙ first_seen i short in
    rw offers (first_in (issued_bytes i first_history) more)

-- what a session offers first is what its slots show
pub first_by : (i : Instance) (issued : List (List ℕ)) (bytes : List ℕ) (calls : List LifeCall) → IsUntagged i issued bytes
    → IsFirstOffered bytes calls → IsFirstUntagged i issued calls
first_by i issued bytes [] u o = tt
first_by i issued bytes (c ∷ calls) u o = rw o u

-- a session over a copy, or over the slots of the first start
module _ (offers : SessionsOfferSlots) (i : Instance) (issued : List (List ℕ)) (old new : SessionStanding)
    (result : Result Unit SessionFault) (s : IsSession i.variant i.meaning old new result) (slots : Slots)
    (told : old.kept.slots ≡ Some slots) where
  copy_untagged : IsOldCopy i issued slots → IsFirstUntagged i issued (session_calls s)
  copy_untagged copy = elim (offers i.variant i.meaning old new result s slots told) [
    | inl none ↦ rw none tt
    | inr shown ↦
        first_by i issued (first_offer slots shown.waiting) (session_calls s) (copy shown.waiting shown.is_waiting) shown.offered
  ]

  start_untagged : (first : Slots) → slots ≡ first → IsOldCopy i issued first → IsFirstUntagged i issued (session_calls s)
  start_untagged first is copy = copy_untagged (subst (λ (x : Slots). IsOldCopy i issued x) (sym is) copy)

-- the first snapshots are short
pub basic_short : (meaning : Meaning) → IsLawful meaning → (key : List ℕ) → length (issued_bytes (basic_instance meaning key) first_history)
    ≤ 1048690
basic_short meaning lawful key = sealed_snapshot_of-most _ _ (basic_content meaning lawful key first_history (omega arith))

pub opt_short : (meaning : Meaning) → IsLawful meaning → (key barrier : List ℕ)
    → length (issued_bytes (opt_instance meaning key barrier) first_history) ≤ 1048690
opt_short meaning lawful key barrier = sealed_snapshot_of-most _ _ (opt_content meaning lawful key barrier first_history (omega arith))

-- what stands behind a loss of power, or a checkpoint
abbrev deed_stage : Deed → Standing → LifeStage
deed_stage deed after = record { part = Does deed; after = after }

module _ (meaning : Meaning) (lawful : IsLawful meaning) (offers : SessionsOfferSlots) (old new : MemoryLife)
    (start middle : TwoCell TornMemory) (pages left_pages : CachedDevice Sheets) (between : List ℕ)
    (one two : Result Unit SessionFault) where
  abbrev One : LifeStage
  One = session_stage (program_in_memory pages old.first old.received) (program_in_memory left_pages new.first between) one
      (two_cells middle)

  abbrev Two : LifeStage
  Two = session_stage (program_in_memory old.copy old.second between) (program_in_memory new.copy new.second new.received) two
      (two_cells new.platform)

  abbrev begins : (variant : Variant) → StartsInMemory variant meaning start pages old.entropy new.entropy
      → BeginsLife old.entropy new.entropy
  begins variant starts = record {
    secrets = starts.secrets;
    counted = starts.counted;
    taken = starts.taken;
    start = start;
    pages = pages;
    middle = middle;
    left_pages = left_pages;
    between = between;
  }

  module _ (basic_one : BasicLifeIsOne) (starts : StartsInMemory Basic meaning start pages old.entropy new.entropy) where
    abbrev key : List ℕ
    key = take 32 starts.secrets

    abbrev B : Instance
    B = basic_instance meaning key

    abbrev Issued : List (List ℕ) → List (List ℕ)
    Issued more = issued_bytes B first_history ∷ more

    basic_old : FirstSlotsAreOld B
    basic_old = first_is_old B (basic_short meaning lawful key) first_history (starts.first [])

    first_session : (s : IsSession Basic meaning (session_in_memory start pages old.first old.received)
        (session_in_memory middle left_pages new.first between) one) → IsFirstUntagged B (Issued []) (session_calls s)
    first_session s =
        start_untagged offers B (Issued []) (session_in_memory start pages old.first old.received)
        (session_in_memory middle left_pages new.first between) one s pages.device.slots refl (first_slots B) starts.slots (basic_old [])

    second_session : (before : Standing) (issued : List (List ℕ))
        (s : IsSession Basic meaning (session_on before (program_in_memory old.copy old.second between))
        (session_in_memory new.platform new.copy new.second new.received) two) → IsOldCopy B issued old.copy.device.slots
        → IsFirstUntagged B issued (session_calls s)
    second_session before issued s copy =
        copy_untagged offers B issued (session_on before (program_in_memory old.copy old.second between))
        (session_in_memory new.platform new.copy new.second new.received) two s old.copy.device.slots refl copy

    whole_on_copy : (f : IsLife Basic meaning (two_cells start) (One ∷ Two ∷ []))
        → IsWholeInBasic B start One (Two ∷ []) old.copy.device.slots f
    whole_on_copy f copy =
        let issued : List (List ℕ) = Issued (snapshots_of (session_calls f.0)) in
        elim (clash_or B (life_messages B (two_cells start) (One ∷ Two ∷ []) f) [] (life_batches B (two_cells start) (One ∷ Two ∷ []) f)) [
          | inl clash ↦ inr clash
          | inr fine ↦
              inl (basic_one meaning lawful key (two_cells start) (One ∷ Two ∷ []) f (starts.stands [] refl) fine.0
              (first_session f.0, (second_session (two_cells middle) issued f.1.0 copy, tt)))
        ]

    pub lives_on_copy : IsLife Basic meaning (two_cells start) (One ∷ Two ∷ [])
        → LivesOnCopy meaning old new one two
    lives_on_copy f =
        record { begun = begins Basic starts; life = f; whole = whole_on_copy f; first_is_old = basic_old }

    whole_without_power : (empty : Standing) (f : IsLife Basic meaning (two_cells start) (One ∷ deed_stage LosesPower empty ∷ Two ∷ []))
        → IsWholeInBasic B start One (deed_stage LosesPower empty ∷ Two ∷ []) old.copy.device.slots f
    whole_without_power empty f copy =
        let stages : List LifeStage = One ∷ deed_stage LosesPower empty ∷ Two ∷ [] in
        let issued : List (List ℕ) = Issued (snapshots_of (session_calls f.0)) in
        elim (clash_or B (life_messages B (two_cells start) stages f) [] (life_batches B (two_cells start) stages f)) [
          | inl clash ↦ inr clash
          | inr fine ↦
              inl (basic_one meaning lawful key (two_cells start) stages f (starts.stands [] refl) fine.0
              (first_session f.0, (tt, (rw (append-nil issued) (second_session empty issued f.1.1.0 copy), tt))))
        ]

    pub lives_without_power : (empty : Standing)
        → IsLife Basic meaning (two_cells start) (One ∷ deed_stage LosesPower empty ∷ Two ∷ [])
        → LivesWithoutPower meaning old new one two
    lives_without_power empty f = record {
      begun = begins Basic starts;
      empty = empty;
      life = f;
      whole = whole_without_power empty f;
      first_is_old = basic_old;
    }

  module _ (opt_one : OptLifeIsOne) (starts : StartsInMemory Opt meaning start pages old.entropy new.entropy) where
    abbrev O : Instance
    O = opt_instance meaning (take 32 starts.secrets) (drop 32 starts.secrets)

    opt_old : FirstSlotsAreOld O
    opt_old = first_is_old O (opt_short meaning lawful (take 32 starts.secrets) (drop 32 starts.secrets)) (first_history_on [])
        (starts.first [])

    whole_checkpointed : (said : Result Checkpointed CheckpointRefusal) (closed : Standing)
        (f : IsLife Opt meaning (two_cells start) (One ∷ deed_stage (Checkpoints said) closed ∷ Two ∷ [])) (values : List (List ℕ))
        → ShowsValues Opt (two_cells start) values
        → IsWholeInOpt O start One (deed_stage (Checkpoints said) closed ∷ Two ∷ []) old.copy.device.slots f
    whole_checkpointed said closed f values shows copy =
        let stages : List LifeStage = One ∷ deed_stage (Checkpoints said) closed ∷ Two ∷ [] in
        let none : List (List ℕ) = issued_bytes O first_history ∷ [] in
        let issued : List (List ℕ) = issued_bytes O first_history ∷ snapshots_of (session_calls f.0) in
        elim (clash_or O (opt_messages O (two_cells start) stages f) (others_values O (two_cells start) stages f)
        (life_batches O (two_cells start) stages f)) [
          | inl clash ↦ inr clash
          | inr fine ↦
              inl (opt_one meaning lawful (take 32 starts.secrets) (drop 32 starts.secrets) values (two_cells start) stages f
              (starts.stands values shows) fine.0 (fine.1 refl) (
                start_untagged offers O none (session_in_memory start pages old.first old.received)
                    (session_in_memory middle left_pages new.first between) one f.0 pages.device.slots refl (first_slots O) starts.slots
                    (opt_old []),
                (
                  tt,
                  (
                    rw (append-nil issued) (copy_untagged offers O issued
                        (session_on closed (program_in_memory old.copy old.second between))
                        (session_in_memory new.platform new.copy new.second new.received) two f.1.1.0 old.copy.device.slots refl copy),
                    tt,
                  ),
                ),
              ))
        ]

    pub lives_checkpointed : (said : Result Checkpointed CheckpointRefusal) (closed : Standing)
        → IsLife Opt meaning (two_cells start) (One ∷ deed_stage (Checkpoints said) closed ∷ Two ∷ [])
        → LivesCheckpointed meaning old new one said two
    lives_checkpointed said closed f = record {
      begun = begins Opt starts;
      closed = closed;
      life = f;
      whole = whole_checkpointed said closed f;
      first_is_old = opt_old;
    }

-- The commands of the program are parts of a life, by what each does.

run_leads : (found : Result Header Status) (old new : Outside) (middle : Standing) (values : List (List ℕ)) (status : Status)
    → ((variant : Variant) (meaning : Meaning) → DeedLeads variant meaning old.standing (Extends values) middle)
    → ServesIfFound found (record old { standing = middle }) new status → IsRunOfLife found old new middle values
run_leads (Err end) old new middle values status looks s =
    λ variant meaning. (
      subst (λ (it : Standing). DeedLeads variant meaning old.standing (Extends values) it) (sym s.standing)
          (looks variant meaning),
      tt,
    )
run_leads (Ok header) old new middle values status looks s =
    (s.between, s.served.answer, (looks header.variant (meaning_of header.«module»), (s.served.sessions, tt)))

pub runs_are_parts : ReadsAreDeeds → RunsArePartsOfLife
runs_are_parts deeds old new status r =
    run_leads r.found old new r.middle r.looks.goes.others status
    (λ variant meaning. deeds variant meaning old.standing r.middle r.looks.fault r.looks.goes) r.goes

pub init_begins : InitBeginsLife
init_begins header old new status s done is =
    subst (λ (answer : Result (Unit {0}) InitFault). InitLeaves header.variant (meaning_of header.«module») (devices_of old)
    (devices_of new) answer) is s.leaves

-- a cell that holds the instance is found to hold it
sees_it : (variant : Variant) (it : AnyModule) (held : Held) (found : Result Header Status) (bytes : List ℕ) → held.variant ≡ variant
    → held.«module» ≡ (meaning_of it).id → IsCell held → bytes ≡ cell_spelling held → SeesInstance bytes found
    → found ≡ Ok (record { variant = variant; «module» = it })
sees_it variant it held found bytes same id formed spelled sees =
    let read = reads_cell-same bytes sees.read (Ok held) sees.reads (formed, spelled) in
    sees.found_is ∙ ap found_instance read ∙ (λ j. found_header (same j) (module_of_id (id j)))
    ∙ ap (found_header variant) (any_is_found it).by_id

pub finds_it : (variant : Variant) (it : AnyModule) (held : Held) (fault : Option StepFault) (before : Standing)
    (found : Result Header Status)
    → held.variant ≡ variant → held.«module» ≡ (meaning_of it).id → IsCell held → before.cell ≡ Some (cell_spelling held) → fault ≡ None
    → FindsInstance fault before found → found ≡ Ok (record { variant = variant; «module» = it })
finds_it variant it held (Some fault) before found same id formed told none finds = cc
finds_it variant it held None before found same id formed told none finds =
    sees_it variant it held found finds.0 same id formed (finds.1 (cell_spelling held) told) finds.2

pub runs_find : RunsFindTheInstance
runs_find it Basic key barrier y old new status r s none =
    finds_it Basic it (cell_of (instance_by Basic (meaning_of it) key barrier) y) r.looks.fault old.standing r.found refl refl s.spells
    s.cell none r.looks.finds
runs_find it Opt key barrier y old new status r s none =
    finds_it Opt it (cell_of (instance_by Opt (meaning_of it) key barrier) y) r.looks.fault old.standing r.found refl refl s.spells s.cell
    none r.looks.finds

pub checkpoints_are_parts : CheckpointsArePartsOfLife
checkpoints_are_parts variant meaning old new status c = is_checkpoint old.standing new.standing c.answer c.closes c.goes

pub losses_are_parts : CyclesAreDeeds → LossesArePartsOfLife
losses_are_parts deeds variant meaning old new status l = deeds variant meaning old.standing new.standing l.fault l.cycles

-- One command more, behind those that were run.

-- a command behind which the platform wasn't touched
abbrev pub behind_none : CommandRun → CommandBehind
behind_none r = record { met = []; ran = r; killed = false }

run_more : (commands : List CommandBehind) (start : Standing) (r : CommandRun) → AreRun start commands
    → r.old.standing ≡ standing_behind start commands
    → IsCommandRun r → AreRun start (commands ++ behind_none r ∷ [])
run_more [] start r run same is = (same, is, tt)
run_more (c ∷ commands) start r run same is = (run.0, run.1, run_more commands c.new.standing r run.2 same is)

behind_more : (commands : List CommandBehind) (start : Standing) (r : CommandRun)
    → standing_behind start (commands ++ behind_none r ∷ []) ≡ r.new.standing
behind_more [] start r = refl
behind_more (c ∷ commands) start r = behind_more commands c.new.standing r

module _ {H O : Type 0} (hands : H → H → O → O → Verb → Type 0) where
  handed_more : (rounds : List (HostRound O)) (host middle last : H) (objects between : O) (round : HostRound O)
      → AreHanded hands host objects rounds middle between → hands middle last between round.handed round.verb
      → AreHanded hands host objects (rounds ++ round ∷ []) last round.left
  handed_more [] host middle last objects between round h says =
      let here = subst (λ (x : O). hands host last x round.handed round.verb) h.1
      (subst (λ (x : H). hands x last between round.handed round.verb) h.0 says) in
      (last, here, (refl, refl))
  handed_more (first ∷ rounds) host middle last objects between round h says =
      (h.0, h.1, handed_more rounds h.0 middle last first.left between round h.2 says)

module _ {O : Type 0} (tells : Standing → O → Outside) where
  of_more : (commands : List CommandBehind) (rounds : List (HostRound O)) (r : CommandBehind) (round : HostRound O)
      → AreOfRounds tells commands rounds → IsOfRound tells r round
      → AreOfRounds tells (commands ++ r ∷ []) (rounds ++ round ∷ [])
  of_more [] [] r round h is = (is, tt)
  of_more [] (x ∷ rounds) r round h is = absurd h
  of_more (c ∷ commands) [] r round h is = absurd h
  of_more (c ∷ commands) (x ∷ rounds) r round h is = (h.0, of_more commands rounds r round h.1 is)

pub none_run : {H O : Type 0} (hands : H → H → O → O → Verb → Type 0) (tells : Standing → O → Outside) (start : Standing) (host : H)
    (objects : O) → HaveRun hands tells start start host host objects objects 0
none_run hands tells start host objects =
    record { rounds = []; counted = refl; handed = (refl, refl); commands = []; of_rounds = tt; run = tt; ends = refl }

pub one_more_run : {H O : Type 0} (hands : H → H → O → O → Verb → Type 0) (tells : Standing → O → Outside) (start middle new : Standing)
    (host between last : H) (objects before handed left : O) (rounds : ℕ) (verb : Verb) (r : CommandRun)
    → HaveRun hands tells start middle host between objects before rounds → hands between last before handed verb
    → r.command ≡ verb_command verb → r.old ≡ tells middle handed → r.new ≡ tells new left → r.old.standing ≡ middle
    → r.new.standing ≡ new → IsCommandRun r
    → HaveRun hands tells start new host last objects left (rounds + 1)
one_more_run {H} {O} hands tells start middle new host between last objects before handed left rounds verb r h says command old behind at
    after is =
    let round : HostRound O = record { verb = verb; handed = handed; left = left } in
    record {
      rounds = h.rounds ++ round ∷ [];
      counted = omega (arith, length-append h.rounds (round ∷ []), h.counted);
      handed = handed_more hands h.rounds host between last objects before round h.handed says;
      commands = h.commands ++ behind_none r ∷ [];
      of_rounds = of_more tells h.commands h.rounds (behind_none r) round h.of_rounds
          (record {
            command = command;
            old = old ∙ ap (λ (s : Standing). tells s handed) (sym at);
            new = behind ∙ ap (λ (s : Standing). tells s left) (sym after);
            ended = refl;
          });
      run = run_more h.commands start r h.run (at ∙ h.ends) is;
      ends = sym after ∙ sym (behind_more h.commands start r);
    }
