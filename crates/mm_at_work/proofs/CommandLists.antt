-- Commands of the program, run one after another, are one life: by what each does.
use Rattle.std.specs.Io.KnownBytes.{Appends}
use Rattle.std.specs.List.{AllByRecursion}
use Rattle.std.proofs.Common.{◌≡◌, ◌∙◌, ◌⊎◌, ◌++◌, ℕ, List, [], ◌∷◌, Bool, true, false, Option, None, Some, Result, Ok, Err, refl, sym, ap}
use Rattle.std.proofs.Common.{subst, inl, inr}
use Rattle.std.proofs.lemmas.List.{append-nil}
use Rattle.mm_app.specs.Commands.{DoesOrLacks, UsesPlatform, EndsAtOnce}
use Rattle.mm_host_commands.specs.Outside.{devices_of, session_of, LosesPower as CommandLosesPower, StartsInstance}
use Rattle.mm_host_commands.specs.Run.{FindsInstance, RunsInstance, ServesIfFound, found_instance}
use Rattle.mm_status.specs.declared.status.Status.{Status}
use Rattle.mm_status.specs.declared.status.Status.TheVariants.{Memory}
use Rattle.mm_call.specs.Standing.{StandsAt, cell_at, instance_by}
use Rattle.mm_call.proofs.Above.{stands_at}
use Rattle.mm_digest.specs.declared.variant.Variant.{Variant}
use Rattle.mm_digest.specs.declared.variant.Variant.TheVariants.{Basic, Opt}
use Rattle.mm_host.specs.Sessions.{SessionStanding, session_standing, IsSession}
use Rattle.mm_host.specs.declared.fault.SessionFault.{SessionFault}
use Rattle.mm_life.specs.Deeds.{Deed, DeedLeads, Extends, LosesPower, CyclesAreDeeds, ReadsAreDeeds}
use Rattle.mm_life.specs.Deeds as deeds
use Rattle.mm_killed.specs.DeviceCalls.{AnyProgramStops}
use Rattle.mm_killed.proofs.Above.{nothing_beside}
use Rattle.mm_life.specs.Stages.{KilledStartsLeave, devices_at, Does, IsLife, LifePart, LifeStage, PartLeads, end_of, program_standing}
use Rattle.mm_life.specs.Stages.{session_stage}
use Rattle.mm_life.specs.Premises.{IsNoCall}
use Rattle.mm_life.proofs.Above.{life_stands}
use Rattle.mm_model.specs.Chains.{Instance}
use Rattle.mm_model.specs.Moves.{Digests, digests_of}
use Rattle.mm_module.specs.Meaning.{Meaning}
use Rattle.mm_modules.specs.Modules.{meaning_of}
use Rattle.mm_modules.specs.declared.any.AnyModule.{AnyModule}
use Rattle.mm_modules.specs.ModulesLaws.{any_is_lawful}
use Rattle.mm_moments.specs.MortalLives.{CheckpointStopsAnywhere, SessionStopsAnywhere}
use Rattle.mm_recovery.proofs.Above.{is_checkpoint}
use Rattle.mm_opt.specs.Checkpoints.{EndsLooking, FindsSegment, closing_fault_in, segment_in}
use Rattle.mm_opt.specs.declared.segment.CheckpointRefusal.{CheckpointRefusal}
use Rattle.mm_opt.specs.declared.segment.CheckpointRefusal.TheVariants.{Device}
use Rattle.mm_opt.specs.declared.segment.Checkpointed.{Checkpointed}
use Rattle.mm_opt.specs.declared.segment.Segment.{Segment}
use Rattle.mm_opt.specs.declared.segment.Segment.TheVariants.{Open, Shut}
use Rattle.mm_platform.specs.Standing.{Standing}
use Rattle.mm_platform.specs.declared.fault.StepFault.{StepFault}
use Rattle.mm_platform.specs.declared.fault.StepFault.TheVariants.{Off}
use Rattle.mm_recovery.specs.FirstStart.{InstanceBegins, InitLeaves, GoesAfterLooking, Devices, LooksAtCell, devices}
use Rattle.mm_recovery.specs.HostStanding.{host_standing}
use Rattle.mm_recovery.specs.declared.init_fault.InitFault.{InitFault}
use Rattle.mm_recovery.specs.declared.init_fault.InitFault.TheVariants.{Platform}
use Rattle.mm_schedule.specs.declared.header.Header.{Header}
use Rattle.mm_seal.specs.Cell.{ReadsCell, blank_cell, cell_spelling}
use Rattle.mm_seal.specs.CellLaws.{reads_cell-same}
use Rattle.mm_seal.specs.declared.cell.Cell.{Cell as Held}
use Rattle.mm_seal.specs.declared.cell.CellFault.{CellFault}
use Rattle.mm_seal.specs.declared.cell.CellFault.TheVariants as unheld
use Rattle.mm_words.specs.declared.command.CommandLine.{CommandLine}
use Rattle.mm_words.specs.declared.command.CommandLine.TheVariants.{Init, Run, Checkpoint, Power}
use Rattle.mm_at_work.specs.CommandLives.{look_stage, program_of}
use Rattle.mm_at_work.specs.Commands.{AreLife, AreRun, AreStagesOf, HasBegun, CommandsAreLife, CommandsFromBlank}
use Rattle.mm_at_work.specs.Commands.{AreKilledStagesOf, AreMet, AreStagesBy, CommandBehind, DiesServing, DiesStarting, EndsOrDies, IsCommandKilled}
use Rattle.mm_at_work.specs.Commands.{place_of}
use Rattle.mm_at_work.specs.Commands.{IsMet, IsQuiet, CommandRun}
use Rattle.mm_at_work.proofs.WholeLives.{finds_it}

-- lives, one behind another
life_append : (variant : Variant) (meaning : Meaning) (here later : List LifeStage) (start : Standing) → IsLife variant meaning start here
    → IsLife variant meaning (end_of start here) later → IsLife variant meaning start (here ++ later)
life_append variant meaning [] later start f g = g
life_append variant meaning (stage ∷ here) later start f g = (f.0, life_append variant meaning here later stage.after f.1 g)

life_behind : (variant : Variant) (meaning : Meaning) (here later : List LifeStage) (start middle : Standing) → end_of start here ≡ middle
    → IsLife variant meaning start here → IsLife variant meaning middle later → IsLife variant meaning start (here ++ later)
life_behind variant meaning here later start middle ends f g =
    life_append variant meaning here later start f (subst (λ (x : Standing). IsLife variant meaning x later) (sym ends) g)

-- what is met: deeds in which no call is made, over a cell that stays
met_leads : (variant : Variant) (meaning : Meaning) (old : Standing) (part : LifePart) (new : Standing) → IsMet old part new
    → PartLeads variant meaning old part new
met_leads variant meaning old (Does (Extends values)) new m = m
met_leads variant meaning old (Does LosesPower) new m = m
met_leads variant meaning old _ new m = absurd m

met_quiet : (old : Standing) (part : LifePart) (new : Standing) → IsMet old part new → (deed : Deed) × (part ≡ Does deed) × IsNoCall deed
met_quiet old (Does (Extends values)) new m = (Extends values, refl, tt)
met_quiet old (Does LosesPower) new m = (LosesPower, refl, tt)
met_quiet old _ new m = absurd m

met_cell : (old : Standing) (part : LifePart) (new : Standing) → IsMet old part new → new.cell ≡ old.cell
met_cell old (Does (Extends values)) new m = m.0
met_cell old (Does LosesPower) new m = m.0
met_cell old _ new m = absurd m

met_life : (variant : Variant) (meaning : Meaning) (met : List LifeStage) (start now : Standing) → AreMet start met now
    → IsLife variant meaning start met
met_life variant meaning [] start now m = tt
met_life variant meaning (stage ∷ met) start now m =
    (met_leads variant meaning start stage.part stage.after m.0, met_life variant meaning met stage.after now m.1)

met_ends : (met : List LifeStage) (start now : Standing) → AreMet start met now → end_of start met ≡ now
met_ends [] start now m = sym m
met_ends (stage ∷ met) start now m = met_ends met stage.after now m.1

met_blank : (met : List LifeStage) (start now : Standing) → AreMet start met now → now.cell ≡ start.cell
met_blank [] start now m = ap (λ (s : Standing). s.cell) m
met_blank (stage ∷ met) start now m = met_blank met stage.after now m.1 ∙ met_cell start stage.part stage.after m.0

pub met_still : (met : List LifeStage) (start now : Standing) → AreMet start met now → AllByRecursion IsQuiet met
met_still [] start now m = tt
met_still (stage ∷ met) start now m = (met_quiet start stage.part stage.after m.0, met_still met stage.after now m.1)

-- quiet stages are those of a command
abbrev QuietOf : CommandRun → CommandLine → Type 0
QuietOf r command = (stages : List LifeStage) → AllByRecursion IsQuiet stages → AreStagesOf r command stages

lacking_of : (r : CommandRun) (command : CommandLine) → EndsAtOnce r.old r.new Memory r.status → QuietOf r command
lacking_of r Run e = λ stages q. inl (record {
  quiet = q;
  kept = e.still.kept;
  unread = e.still.left;
  end = Memory;
  stops = e.stops;
})
lacking_of r _ e = λ stages q. q

-- a cell that is read isn't blank
held_not_blank : (held : Held) → ReadsCell (cell_spelling held) (Ok held) → cell_spelling held ≡ blank_cell → ⊥
held_not_blank held spelled blank =
    let same : Ok held ≡ Err unheld.Blank = reads_cell-same (cell_spelling held) (Ok held) (Err unheld.Blank) spelled blank in cc

variant_is : (variant : Variant) (meaning : Meaning) (key barrier : List ℕ) → (instance_by variant meaning key barrier).variant ≡ variant
variant_is Basic meaning key barrier = refl
variant_is Opt meaning key barrier = refl

meaning_is : (variant : Variant) (meaning : Meaning) (key barrier : List ℕ) → (instance_by variant meaning key barrier).meaning ≡ meaning
meaning_is Basic meaning key barrier = refl
meaning_is Opt meaning key barrier = refl

-- the laws of what is killed
pub record Kills : Type 0 where
  pub stops : SessionStopsAnywhere
  pub broken : CheckpointStopsAnywhere
  pub any : AnyProgramStops (Result (Unit {0}) InitFault)
  pub starts : KilledStartsLeave

none_sent : (received : Option (List ℕ)) → Appends received received []
none_sent None = tt
none_sent (Some xs) = sym (append-nil xs)

module _ (reads : ReadsAreDeeds) (cycles : CyclesAreDeeds) (kills : Kills)
    (it : AnyModule) (variant : Variant) (key barrier : List ℕ) where
  abbrev M : Meaning
  M = meaning_of it

  abbrev I : Instance
  I = instance_by variant M key barrier

  -- what one command is of the life
  record OneRan (r : CommandRun) (command : CommandLine) : Type 0 where
    here : List LifeStage
    life : IsLife variant M r.old.standing here
    ends : end_of r.old.standing here ≡ r.new.standing
    stages_of : AreStagesOf r command here

  quiet_ran : (r : CommandRun) (command : CommandLine) → QuietOf r command → (deed : Deed) → IsNoCall deed
      → DeedLeads variant M r.old.standing deed r.new.standing
      → OneRan r command
  quiet_ran r command says deed quiet f =
      let stages : List LifeStage = record { part = Does deed; after = r.new.standing } ∷ [] in
      record {
        here = stages;
        life = (f, tt);
        ends = refl;
        stages_of = says stages ((deed, refl, quiet), tt);
      }

  same_ran : (r : CommandRun) (command : CommandLine) → QuietOf r command → r.new.standing ≡ r.old.standing → OneRan r command
  same_ran r command says same =
      quiet_ran r command says (Extends []) tt (
        ap (λ (s : Standing). s.cell) same,
        ap (λ (s : Standing). s.items) same ∙ nothing_beside r.old.standing.items,
      )

  -- `init` on a cell that isn't blank is a look
  looked_at : (header : Header) (platform : Standing) (is_blank : Result Bool StepFault) (old new : Devices)
      (answer : Result (Unit {0}) InitFault) (held : Held) → old.platform.cell ≡ Some (cell_spelling held)
      → ReadsCell (cell_spelling held) (Ok held) → LooksAtCell old.platform platform is_blank
      → GoesAfterLooking header.variant (meaning_of header.«module») (record old { platform = platform }) new is_blank answer
      → new.platform ≡ platform
  looked_at header platform (Err fault) old new answer held told spelled l g = ap (λ (d : Devices). d.platform) g.0
  looked_at header platform (Ok false) old new answer held told spelled l g = ap (λ (d : Devices). d.platform) g.0
  looked_at header platform (Ok true) old new answer held told spelled l g =
      absurd (held_not_blank held spelled ((l.tells (cell_spelling held) told).0 refl))

  init_ran : (r : CommandRun) (header : Header)
      → StartsInstance header r.old r.new r.status
      → (d : Digests) → StandsAt I r.old.standing d → OneRan r (Init header)
  init_ran r header s d stands =
      let l = s.steps.looks in
      let is = looked_at header s.steps.platform s.steps.is_blank (devices_of r.old) (devices_of r.new) s.answer (cell_at I d)
      stands.cell (stands.spells, refl) l s.steps.goes in
      quiet_ran r (Init header) (λ stages q. q) (Extends l.goes.others) tt
      (subst (λ (x : Standing). DeedLeads variant M r.old.standing (Extends l.goes.others) x) (sym is)
      (reads variant M r.old.standing s.steps.platform _ l.goes))

  -- `run` holds a session over the instance, where it read the cell
  found_is : (held : Held) (fault : Option StepFault) (before : Standing) (header : Header) → held.variant ≡ variant
      → held.«module» ≡ M.id → ReadsCell (cell_spelling held) (Ok held) → before.cell ≡ Some (cell_spelling held)
      → FindsInstance fault before (Ok header) → header ≡ record { variant = variant; «module» = it }
  found_is held (Some fault) before header same id spelled told finds = absurd (cc)
  found_is held None before header same id spelled told finds =
      let found : Ok header ≡ Ok (record { variant = variant; «module» = it }) =
      finds_it variant it held None before (Ok header) same id spelled.0 told refl finds in
      cc

  module _ (r : CommandRun) (middle : Standing) (values : List (List ℕ))
      (looks : DeedLeads variant M r.old.standing (Extends values) middle) where
    run_by : (found : Result Header Status)
        → ((header : Header) → found ≡ Ok header → header ≡ record { variant = variant; «module» = it })
        → ServesIfFound found (record r.old { standing = middle }) r.new r.status → OneRan r Run
    run_by (Err end) is s =
        quiet_ran r Run (λ stages q. inl (record { quiet = q; kept = s.kept; unread = s.unread; end = end; stops = s.stops }))
        (Extends values) tt
        (subst (λ (x : Standing). DeedLeads variant M r.old.standing (Extends values) x) (sym s.standing) looks)
    run_by (Ok header) is s =
        let old : SessionStanding = session_of (record r.old { standing = middle }) in
        let new : SessionStanding = session_of (record r.new { received = s.between }) in
        let session : IsSession variant M old new s.served.answer =
        subst (λ (h : Header). IsSession h.variant (meaning_of h.«module») old new s.served.answer) (is header refl) s.served.sessions in
        let stages : List LifeStage = look_stage values middle
        ∷ session_stage (program_of r.old) (program_of (record r.new { received = s.between })) s.served.answer r.new.standing ∷ [] in
        record {
          here = stages;
          life = (looks, (session, tt));
          ends = refl;
          stages_of = inr (record {
            values = values;
            middle = middle;
            between = s.between;
            result = s.served.answer;
            are = refl;
            ends = s.served.ends;
            count = s.count;
            stops = s.stops;
          });
        }

  run_ran : (r : CommandRun) → RunsInstance r.old r.new r.status → (d : Digests) → StandsAt I r.old.standing d → OneRan r Run
  run_ran r x d stands =
      run_by r x.middle x.looks.goes.others (reads variant M r.old.standing x.middle x.looks.fault x.looks.goes) x.found
      (λ header e. found_is (cell_at I d) x.looks.fault r.old.standing header (variant_is variant M key barrier)
      (ap (λ (m : Meaning). m.id) (meaning_is variant M key barrier)) (stands.spells, refl) stands.cell (rw e at x.looks.finds)) x.goes

  power_ran : (r : CommandRun) → CommandLosesPower r.old r.new r.status → OneRan r Power
  power_ran r l = elim (cycles variant M r.old.standing r.new.standing l.fault l.cycles).failed [
    | inl lost ↦ quiet_ran r Power (λ stages q. q) LosesPower tt lost
    | inr kept ↦ quiet_ran r Power (λ stages q. q) (Extends []) tt kept
  ]

  ran_by : (r : CommandRun) (command : CommandLine) → DoesOrLacks command r.old r.new r.status
      → ((UsesPlatform command → ⊥) → r.new.standing ≡ r.old.standing) → (d : Digests) → StandsAt I r.old.standing d → OneRan r command
  ran_by r command (inr none) unused d s = same_ran r command (lacking_of r command none) none.still.standing
  ran_by r (Init header) (inl does) unused d s = init_ran r header does d s
  ran_by r Run (inl does) unused d s = run_ran r does d s
  ran_by r Checkpoint (inl does) unused d s = quiet_ran r Checkpoint (λ stages q. q) (deeds.Checkpoints does.answer) tt
      (is_checkpoint r.old.standing r.new.standing does.answer does.closes does.goes)
  ran_by r Power (inl does) unused d s = power_ran r does
  ran_by r command (inl does) unused d s = same_ran r command (λ stages q. q) (unused (λ used. used))

  -- what one command that was killed is of the life
  record OneDied (r : CommandRun) (command : CommandLine) : Type 0 where
    here : List LifeStage
    life : IsLife variant M r.old.standing here
    ends : end_of r.old.standing here ≡ r.new.standing
    stages_of : AreKilledStagesOf r command here

  quiet_died : (r : CommandRun) (command : CommandLine)
      → ((stages : List LifeStage) → AllByRecursion IsQuiet stages → AreKilledStagesOf r command stages) → (deed : Deed)
      → IsNoCall deed → DeedLeads variant M r.old.standing deed r.new.standing → OneDied r command
  quiet_died r command says deed quiet f =
      let stages : List LifeStage = record { part = Does deed; after = r.new.standing } ∷ [] in
      record { here = stages; life = (f, tt); ends = refl; stages_of = says stages ((deed, refl, quiet), tt) }

  -- a session that a kill left
  session_died : (r : CommandRun) (header : Header) (middle : Standing) (values : List (List ℕ))
      → DeedLeads variant M r.old.standing (Extends values) middle → header ≡ record { variant = variant; «module» = it }
      → (left between : Option (List ℕ)) (result : Result (Unit {0}) SessionFault)
      → IsSession header.variant (meaning_of header.«module») (session_of (record r.old { standing = middle }))
      (session_standing r.new.standing r.new.kept left between) result
      → (bytes : List ℕ) → Appends between r.new.received bytes → OneDied r Run
  session_died r header middle values looks is left between result s bytes sent =
      let old : SessionStanding = session_of (record r.old { standing = middle }) in
      let new : SessionStanding = session_standing r.new.standing r.new.kept left between in
      let session : IsSession variant M old new result =
      subst (λ (h : Header). IsSession h.variant (meaning_of h.«module») old new result) is s in
      record {
        here = look_stage values middle
            ∷ session_stage (program_of r.old) (program_standing r.new.kept left between) result r.new.standing ∷ [];
        life = (looks, (session, tt));
        ends = refl;
        stages_of = inr (record {
          values = values;
          middle = middle;
          left = left;
          between = between;
          result = result;
          are = refl;
          bytes = bytes;
          sent = sent;
        });
      }

  serving_died : (r : CommandRun) (k : DiesServing r) (d : Digests) → StandsAt I r.old.standing d → OneDied r Run
  serving_died r k d stands =
      let looks = reads variant M r.old.standing k.middle k.looks.fault k.looks.goes in
      let is = found_is (cell_at I d) k.looks.fault r.old.standing k.header (variant_is variant M key barrier)
      (ap (λ (m : Meaning). m.id) (meaning_is variant M key barrier)) (stands.spells, refl) stands.cell k.looks.finds in
      elim k.dies [
        | inl dies ↦
            let s = kills.stops k.header.variant (meaning_of k.header.«module») (any_is_lawful k.header.«module»)
            (session_of (record r.old { standing = k.middle })) (host_standing r.new.standing r.new.kept) r.new.received dies in
            session_died r k.header k.middle k.looks.goes.others looks is s.left r.new.received (Err s.fault) s.stops []
            (none_sent r.new.received)
        | inr behind ↦
            session_died r k.header k.middle k.looks.goes.others looks is behind.left behind.between behind.result behind.sessions
            behind.bytes behind.sent
      ]

  -- `init` on a cell that isn't blank is a look
  starting_died : (r : CommandRun) (header : Header) (k : DiesStarting header r) (d : Digests) → StandsAt I r.old.standing d
      → OneDied r (Init header)
  starting_died r header k d stands =
      let s = kills.any k.code (place_of r.old) (place_of r.new) k.killed.unplanned k.killed.killed in
      let b = k.runs s.end s.given s.runs in
      let l = b.goes.looks in
      let is = looked_at header b.goes.platform b.goes.is_blank (devices_of r.old) (devices s.end.standing s.end.kept s.end.entropy b.takes)
      s.given (cell_at I d) stands.cell (stands.spells, refl) l b.goes.goes in
      let f = subst (λ (x : Standing). DeedLeads variant M r.old.standing (Extends l.goes.others) x) (sym is)
      (reads variant M r.old.standing b.goes.platform _ l.goes) in
      quiet_died r (Init header) (λ stages q. q) (Extends l.goes.others) tt (sym s.leaves.cell ∙ f.0, sym s.leaves.items ∙ f.1)

  died_by : (r : CommandRun) (command : CommandLine) → IsCommandKilled command r → (d : Digests) → StandsAt I r.old.standing d
      → OneDied r command
  died_by r (Init header) k d s = starting_died r header k d s
  died_by r Run (inl look) d s =
      quiet_died r Run (λ stages q. inl q) (Extends look.1.others) tt
      (reads variant M r.old.standing r.new.standing look.0 look.1)
  died_by r Run (inr serving) d s = serving_died r serving d s
  died_by r Checkpoint (inl k) d s =
      let broken = kills.broken r.old.standing k.end r.new.standing k.said k.closes k.moment k.among k.leaves in
      quiet_died r Checkpoint (λ stages q. q) (deeds.Checkpoints (Err (Device Off))) tt
      (is_checkpoint r.old.standing r.new.standing (Err (Device Off)) broken.closes broken.goes)
  died_by r Checkpoint (inr k) d s = quiet_died r Checkpoint (λ stages q. q) (deeds.Checkpoints k.said) tt
      (is_checkpoint r.old.standing r.new.standing k.said k.closes k.goes)
  died_by r Power k d s = elim (cycles variant M r.old.standing r.new.standing k.0 k.1).failed [
    | inl lost ↦ quiet_died r Power (λ stages q. q) LosesPower tt lost
    | inr kept ↦ quiet_died r Power (λ stages q. q) (Extends []) tt kept
  ]
  died_by r command same d s =
      quiet_died r command (λ stages q. q) (Extends []) tt (
        ap (λ (x : Standing). x.cell) same,
        ap (λ (x : Standing). x.items) same ∙ nothing_beside r.old.standing.items,
      )

  -- one that ended, or was killed
  record OneBehind (killed : Bool) (r : CommandRun) : Type 0 where
    here : List LifeStage
    life : IsLife variant M r.old.standing here
    ends : end_of r.old.standing here ≡ r.new.standing
    stages_of : AreStagesBy killed r here

  either : (killed : Bool) (r : CommandRun) → EndsOrDies killed r → (d : Digests) → StandsAt I r.old.standing d → OneBehind killed r
  either false r h d s =
      let one = ran_by r r.command h.does h.unused d s in
      record { here = one.here; life = one.life; ends = one.ends; stages_of = one.stages_of }
  either true r h d s =
      let one = died_by r r.command h d s in
      record { here = one.here; life = one.life; ends = one.ends; stages_of = one.stages_of }

  all_ran : (commands : List CommandBehind) (start : Standing) → AreRun start commands → (d : Digests) → StandsAt I start d
      → AreLife variant M start commands
  all_ran [] start h d s = record { stages = []; life = tt; stages_of = refl }
  all_ran (r ∷ commands) start h d s =
      let ends = met_ends r.met start r.old.standing h.0 in
      let life = met_life variant M r.met start r.old.standing h.0 in
      let at = life_stands variant M key barrier start r.met life d s in
      let one = either r.killed r.ran h.1 at.digests (rw ends at at.stands) in
      let behind = life_stands variant M key barrier r.old.standing one.here one.life at.digests (rw ends at at.stands) in
      let rest = all_ran commands r.new.standing h.2 behind.digests (rw one.ends at behind.stands) in
      record {
        stages = r.met ++ (one.here ++ rest.stages);
        life = life_behind variant M r.met (one.here ++ rest.stages) start r.old.standing ends life
            (life_behind variant M one.here rest.stages r.old.standing r.new.standing one.ends one.life rest.life);
        stages_of = (one.here, rest.stages, refl, one.stages_of, rest.stages_of);
      }

pub commands_are_life : ReadsAreDeeds → CyclesAreDeeds → Kills → CommandsAreLife
commands_are_life reads cycles kills it variant key barrier y start commands stands h =
    let i : Instance = instance_by variant (meaning_of it) key barrier in
    all_ran reads cycles kills it variant key barrier commands start h (digests_of i y) (stands_at i start y stands)

abbrev BlankOrBegun : CommandRun → CommandLine → Type 0
BlankOrBegun r command =
    (r.new.standing.cell ≡ r.old.standing.cell)
    ⊎ ((header : Header) × (command ≡ Init header)
    × InstanceBegins header.variant (meaning_of header.«module») (devices_of r.old) (devices_of r.new))

leaves_blank : (variant : Variant) (meaning : Meaning) (before after : Devices) (answer : Result (Unit {0}) InitFault)
    → InitLeaves variant meaning before after answer
    → (after.platform.cell ≡ before.platform.cell) ⊎ InstanceBegins variant meaning before after
leaves_blank variant meaning before after (Ok done) l = inr l
leaves_blank variant meaning before after (Err (Platform fault)) l = l
leaves_blank variant meaning before after (Err _) l = inl l

none_found : (bytes : List ℕ) (read : Result Held CellFault) → ReadsCell bytes read → bytes ≡ blank_cell → read ≡ Err unheld.Blank
none_found bytes read reads blank = reads_cell-same bytes read (Err unheld.Blank) reads blank

module _ (r : CommandRun) (blank : r.old.standing.cell ≡ Some blank_cell) where
  found_none : (fault : Option StepFault) (header : Header) → FindsInstance fault r.old.standing (Ok header) → ⊥
  found_none (Some fault) header finds = cc
  found_none None header finds =
      let read = none_found finds.0 finds.2.read finds.2.reads (finds.1 blank_cell blank) in
      let clash : Ok header ≡ found_instance (Err unheld.Blank) = finds.2.found_is ∙ ap found_instance read in
      cc

  run_blank : (found : Result Header Status) (middle : Standing) (fault : Option StepFault) → middle.cell ≡ r.old.standing.cell
      → FindsInstance fault r.old.standing found
      → ServesIfFound found (record r.old { standing = middle }) r.new r.status → r.new.standing.cell ≡ r.old.standing.cell
  run_blank (Err end) middle fault same finds s = ap (λ (x : Standing). x.cell) s.standing ∙ same
  run_blank (Ok header) middle fault same finds s = absurd (found_none fault header finds)

  open_none : (cell : Held) → FindsSegment r.old.standing (Ok (Open cell)) → ⊥
  open_none cell f =
      let read = none_found f.bytes f.sees.read f.sees.reads (f.told blank_cell blank) in
      let clash : Ok (Open cell) ≡ segment_in (Err unheld.Blank) = f.sees.found_is ∙ ap segment_in read in
      cc

  checked_blank : (found : Result Segment CheckpointRefusal) (middle : Standing) (answer : Result Checkpointed CheckpointRefusal)
      → middle.cell ≡ r.old.standing.cell
      → (closing_fault_in found ≡ None → FindsSegment r.old.standing found) → EndsLooking found middle r.new.standing answer
      → r.new.standing.cell ≡ r.old.standing.cell
  checked_blank (Err why) middle answer same finds e = ap (λ (x : Standing). x.cell) e.0 ∙ same
  checked_blank (Ok Shut) middle answer same finds e = ap (λ (x : Standing). x.cell) e.0 ∙ same
  checked_blank (Ok (Open cell)) middle answer same finds e = absurd (open_none cell (finds refl))

  blank_by : (command : CommandLine) → DoesOrLacks command r.old r.new r.status
      → ((UsesPlatform command → ⊥) → r.new.standing ≡ r.old.standing) → BlankOrBegun r command
  blank_by command (inr none) unused = inl (ap (λ (x : Standing). x.cell) none.still.standing)
  blank_by (Init header) (inl does) unused =
      elim (leaves_blank header.variant (meaning_of header.«module») (devices_of r.old) (devices_of r.new) does.answer does.leaves) [
        | inl same ↦ inl same
        | inr begins ↦ inr (header, refl, begins)
      ]
  blank_by Run (inl does) unused =
      inl (run_blank does.found does.middle does.looks.fault does.looks.goes.cell does.looks.finds does.goes)
  blank_by Checkpoint (inl does) unused =
      inl (checked_blank does.closes.found does.closes.middle does.answer does.closes.looks.goes.cell does.closes.looks.finds
      does.closes.ends)
  blank_by Power (inl does) unused = inl does.cycles.cell
  blank_by command (inl does) unused = inl (ap (λ (x : Standing). x.cell) (unused (λ used. used)))

  begun_by : (header : Header) → InstanceBegins header.variant (meaning_of header.«module») (devices_at (place_of r.old))
      (devices_at (place_of r.new))
      → InstanceBegins header.variant (meaning_of header.«module») (devices_of r.old) (devices_of r.new)
  begun_by header b = record {
    secrets = b.secrets;
    counted = b.counted;
    taken = b.taken;
    stands = b.stands;
    honest = b.honest;
    stores = b.stores;
    synced = b.synced;
    first = b.first;
  }

  started_blank : Kills → (header : Header) → DiesStarting header r → BlankOrBegun r (Init header)
  started_blank kills header k =
      elim (kills.starts header.variant (meaning_of header.«module») k.code (place_of r.old) (place_of r.new)
      (λ end said runs. (k.runs end said runs).leaves) k.killed) [
        | inl same ↦ inl same
        | inr begins ↦ inr (header, refl, begun_by header begins)
      ]

  killed_blank : Kills → (command : CommandLine) → IsCommandKilled command r → BlankOrBegun r command
  killed_blank kills (Init header) k = started_blank kills header k
  killed_blank kills Run (inl look) = inl look.1.cell
  killed_blank kills Run (inr k) = absurd (found_none k.looks.fault k.header k.looks.finds)
  killed_blank kills Checkpoint (inl k) =
      let c = (kills.broken r.old.standing k.end r.new.standing k.said k.closes k.moment k.among k.leaves).closes in
      inl (checked_blank c.found c.middle (Err (Device Off)) c.looks.goes.cell c.looks.finds c.ends)
  killed_blank kills Checkpoint (inr k) =
      let c = k.closes in inl (checked_blank c.found c.middle k.said c.looks.goes.cell c.looks.finds c.ends)
  killed_blank kills Power k = inl k.1.cell
  killed_blank kills command same = inl (ap (λ (x : Standing). x.cell) same)

  either_blank : Kills → (killed : Bool) → EndsOrDies killed r → BlankOrBegun r r.command
  either_blank kills false h = blank_by r.command h.does h.unused
  either_blank kills true h = killed_blank kills r.command h

module _ (reads : ReadsAreDeeds) (cycles : CyclesAreDeeds) (kills : Kills) where
  begun_here : (r : CommandBehind) (commands : List CommandBehind) → r.old.standing.cell ≡ Some blank_cell → AreRun r.new.standing commands
      → (header : Header) → r.command ≡ Init header
      → InstanceBegins header.variant (meaning_of header.«module») (devices_of r.old) (devices_of r.new) → HasBegun (r ∷ commands)
  begun_here r commands blank h header is begins = record {
    before = [];
    begun = r;
    behind = commands;
    are = refl;
    header = header;
    is = is;
    begins = begins;
    blank = blank;
    life = λ values shows. commands_are_life reads cycles kills header.«module» header.variant _ _ _ r.new.standing commands
        (begins.stands blank_cell values blank shows) h;
  }

  begun_later : (r : CommandBehind) (commands : List CommandBehind) → HasBegun commands → HasBegun (r ∷ commands)
  begun_later r commands b = record {
    before = r ∷ b.before;
    begun = b.begun;
    behind = b.behind;
    are = ap (λ (rs : List CommandBehind). r ∷ rs) b.are;
    header = b.header;
    is = b.is;
    begins = b.begins;
    blank = b.blank;
    life = b.life;
  }

  from_blank : (commands : List CommandBehind) (start : Standing) → start.cell ≡ Some blank_cell → AreRun start commands
      → AllByRecursion (λ r. r.new.standing.cell ≡ Some blank_cell) commands ⊎ HasBegun commands
  from_blank [] start blank h = inl tt
  from_blank (r ∷ commands) start blank h =
      let old : r.old.standing.cell ≡ Some blank_cell = met_blank r.met start r.old.standing h.0 ∙ blank in
      elim (either_blank r.ran old kills r.killed h.1) [
        | inl same ↦ elim (from_blank commands r.new.standing (same ∙ old) h.2) [
          | inl all ↦ inl (same ∙ old, all)
          | inr began ↦ inr (begun_later r commands began)
        ]
        | inr begins ↦ inr (begun_here r commands old h.2 begins.0 begins.1 begins.2)
      ]

pub commands_from_blank : ReadsAreDeeds → CyclesAreDeeds → Kills → CommandsFromBlank
commands_from_blank reads cycles kills start commands blank h = from_blank reads cycles kills commands start blank h
