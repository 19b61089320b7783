-- A life over one honest store, part after part, in either variant. With it: a first start, a
-- session, a loss of power, and a session over the same store, over any devices; a life over the
-- store of a first start is gone on with, in each variant.
use Rattle.std.specs.List.{Contains}
use Rattle.std.proofs.Common.{◌≡◌, ◌≢◌, ◌≤◌, ◌+◌, ◌-◌, ◌∙◌, ◌⊎◌, ℕ, Bool, true, false, List, [], ◌∷◌, Option, None, Some, Result, Err}
use Rattle.std.proofs.Common.{length, arith, refl, sym, ap, subst, inl, inr, length-append, take}
use Rattle.mm_digest.specs.declared.variant.Variant.TheVariants.{Basic, Opt}
use Rattle.mm_platform.specs.Standing.{Standing}
use Rattle.mm_module.specs.Batch.{Batch, One}
use Rattle.mm_module.specs.Meaning.{Meaning, IsLawful}
use Rattle.mm_model.specs.Chains.{Instance, basic_instance, opt_instance}
use Rattle.mm_model.specs.History.{History, requests_of, total_of, first_history}
use Rattle.mm_model.specs.ListLaws.{each_left, each_right, each_self}
use Rattle.mm_model.specs.Moves.{digests_of}
use Rattle.mm_model.specs.Standing.{StandsFor, cell_of}
use Rattle.mm_model.specs.declared.refusal.Refusal.TheVariants as refusal
use Rattle.mm_call.specs.CallPremises.{IsWithin}
use Rattle.mm_call.proofs.Above.{requests-push, stands_at}
use Rattle.mm_schedule.specs.Replies.{IsBatchStep}
use Rattle.mm_schedule.specs.declared.reply.Reply.TheVariants.{Told}
use Rattle.mm_evidence.proofs.Above.{clash_or}
use Rattle.mm_store.specs.PendingRecord.{PendingRecord}
use Rattle.mm_store.specs.StoreStanding.{Slots, StoreStanding}
use Rattle.mm_recovery.specs.FirstStart.{InstanceBegins, Devices, first_history_on, first_slots}
use Rattle.mm_recovery.specs.HostStanding.{FitsBy, FitsHistory}
use Rattle.mm_recovery.specs.declared.fault.HostFault.TheVariants.{Store}
use Rattle.mm_recovery.proofs.Above.{fits_on, is_first}
use Rattle.mm_host.specs.Continuation.{ContinuesTo, HasUntoldRequest, IsInHand, IsNotBeyond, CallsRunOver, served_calls_in, last_bytes_in}
use Rattle.mm_host.specs.Sessions.{ServedCall}
use Rattle.mm_host.specs.declared.fault.SessionFault.{SessionFault}
use Rattle.mm_host.specs.declared.fault.SessionFault.TheVariants.{Host}
use Rattle.mm_host.proofs.Above.{Shows, calls_reach}
use Rattle.mm_life.specs.Deeds.{LifeCall, Calls, Checkpoints, Deed, DeedLeads, Extends, LosesPower, first_bytes, IsInHandOf, session_calls}
use Rattle.mm_life.specs.Deeds.{served_calls_of}
use Rattle.mm_life.specs.HonestLife.{AreNoChance, BeginsOver, IsGoneOnWith, IsNextOrLast, IsOverOneStore, LeavesNoChance, GoesOnFrom}
use Rattle.mm_life.specs.HonestLife.{KeepsSegments, NoneIsRefusedAs, PartGoesOn, reached_position, store_at_end, store_behind}
use Rattle.mm_life.specs.HonestLife.{BasicLifeGoesOn, OptLifeGoesOn}
use Rattle.mm_life.specs.LifeWrites.{BasicLivesWriteOnce}
use Rattle.mm_life.specs.OneStore.{LifeStanding, LivesOnOneStore, stages_around_loss}
use Rattle.mm_life.specs.Premises.{IsNoCall, HistoryStays, life_batches, life_messages, opt_messages, others_values, register_messages}
use Rattle.mm_life.specs.Premises.{has_open_segment}
use Rattle.mm_life.specs.Stages.{LifeFollows, PartSteps, SessionSteps, Does, Holds, IsLife, LifePart, PartLeads, Program, LifeStage, end_of}
use Rattle.mm_life.specs.Stages.{life_calls, part_calls, program_standing, session_stage}
use Rattle.mm_life.proofs.BasicLife as basic_proofs
use Rattle.mm_life.proofs.Chains.{session_chain, AreListed}
use Rattle.mm_life.proofs.HonestSession.{AreStill, goes_on}
use Rattle.mm_life.proofs.Idling.{open_told}
use Rattle.mm_life.proofs.Living.{AreSeen, LifeLaws, listed_left, listed_right}
use Rattle.mm_life.proofs.OptLife as opt_proofs
use Rattle.mm_life.proofs.Refusing.{basic_never_lost, never_spoiled, opt_never_lost}
use Rattle.mm_life.proofs.Sessions.{chain_leads, ends_reach}

-- what waits is the next request or the last

none_of : (requests : List (List ℕ)) → length requests ≡ 0 → requests ≡ []
none_of [] e = refl
none_of (x ∷ requests) e = absurd (omega (arith, e))

next_or_last : (i : Instance) (slots : Slots) (y : History) (waiting : Option PendingRecord) → FitsBy i slots y waiting
    → IsNextOrLast (requests_of y.batches) waiting
next_or_last i slots y None f = none_of (requests_of y.batches) f.0
next_or_last i slots y (Some p) (inl next, holds) = inl next
next_or_last i slots y (Some p) (inr last, holds) =
    inr (last.0, requests_of last.1.front, sym (requests-push last.1.front (One p.request)) ∙ ap requests_of last.1.is)

-- what a session told reaches no further than its requests

told_most : (meaning : Meaning) (again : Bool) (requests after : List (List ℕ)) (line : List ℕ) (before : ℕ) (outputs : List (List ℕ))
    → IsBatchStep meaning requests (One line) (Told again before outputs) after → before + 1 ≤ length after
told_most meaning false requests after line before outputs s =
    omega (arith, s.counted, ap (λ (xs : List (List ℕ)). length xs) s.grown, length-append requests (line ∷ []))
told_most meaning true requests after line before outputs s =
    omega (
      arith,
      s.1.counted,
      ap (λ (xs : List (List ℕ)). length xs) s.1.grown,
      length-append s.0 (line ∷ []),
      ap (λ (xs : List (List ℕ)). length xs) s.2,
    )

calls_reached : (meaning : Meaning) (waiting : Option PendingRecord) (c : ServedCall) (calls : List ServedCall)
    (requests after : List (List ℕ))
    → CallsRunOver meaning requests (c ∷ calls) after → reached_position waiting (c ∷ calls) ≤ length after
calls_reached meaning waiting c [] requests after r =
    omega (
      arith,
      told_most meaning c.answer.again requests r.0 c.line (c.answer.position - 1) (c.answer.output ∷ []) r.1,
      ap (λ (xs : List (List ℕ)). length xs) r.2,
    )
calls_reached meaning waiting c (next ∷ calls) requests after r = calls_reached meaning waiting next calls r.0 after r.2

reached_most : (meaning : Meaning) (waiting : Option PendingRecord) (told : List ServedCall) (requests between : List (List ℕ))
    → IsNextOrLast requests waiting → CallsRunOver meaning requests told between → reached_position waiting told ≤ length between
reached_most meaning None [] requests between w r = omega arith
reached_most meaning (Some p) [] requests between (inl next) r = omega (arith, next, ap (λ (xs : List (List ℕ)). length xs) r)
reached_most meaning (Some p) [] requests between (inr last) r = omega (arith, last.0, ap (λ (xs : List (List ℕ)). length xs) r)
reached_most meaning waiting (c ∷ calls) requests between w r = calls_reached meaning waiting c calls requests between r

committed_most : (hand : List ℕ → Type 0) (result : Result Unit SessionFault) (between after : List (List ℕ))
    → (after ≡ between) ⊎ HasUntoldRequest hand result between after → length between ≤ length after
committed_most hand result between after (inl same) = omega (arith, ap (λ (xs : List (List ℕ)). length xs) same)
committed_most hand result between after (inr u) =
    omega (arith, ap (λ (xs : List (List ℕ)). length xs) u.grown, length-append between (u.request ∷ []))

beyond_less : (slots : Slots) (n m : ℕ) → n ≤ m → IsNotBeyond slots (n + 1) → IsNotBeyond slots (m + 1)
beyond_less slots n m h b = record { waiting = b.waiting; is_waiting = b.is_waiting; most = omega (arith, h, b.most) }

-- the store failed, or not
store_failed : (result : Result Unit SessionFault) → (result ≡ Err (Host Store)) ⊎ (result ≢ Err (Host Store))
store_failed (Err (Host Store)) = inl refl
store_failed _ = inr (λ e. cc)

-- a life that goes on from these requests
pub record GoneOn (all others : List (List ℕ)) (asked : List Batch) (i : Instance) (requests : List (List ℕ)) (kept : StoreStanding)
    (start : Standing) (stages : List LifeStage) (f : IsLife i.variant i.meaning start stages) : Type 0 where
  pub after : List (List ℕ)
  pub goes : GoesOnFrom all others asked i start stages f requests after
  pub follows : LifeFollows i.variant i.meaning start stages f requests after
  pub history : History
  pub holds : requests_of history.batches ≡ after
  pub stands : StandsFor i (end_of start stages) history
  pub within : IsWithin all others asked i history
  pub honest : (store_at_end kept stages).is_honest ≡ true
  pub left : Slots
  pub told : (store_at_end kept stages).slots ≡ Some left
  pub fits : FitsHistory i left history

pub gone_from_none : {all others : List (List ℕ)} {asked : List Batch} {i : Instance} {kept : StoreStanding} {start : Standing}
    {stages : List LifeStage} {f : IsLife i.variant i.meaning start stages} → GoneOn all others asked i [] kept start stages f
    → (KeepsSegments i.variant start stages → NoneIsRefusedAs refusal.Lost stages)
    → (others ≡ [] → NoneIsRefusedAs refusal.Stale stages)
    → IsGoneOnWith all others asked i kept start stages f
gone_from_none g unlost unspoiled = record {
  after = g.after;
  goes = g.goes;
  follows = g.follows;
  unlost = unlost;
  unspoiled = unspoiled;
  history = g.history;
  holds = g.holds;
  stands = g.stands;
  within = g.within;
  honest = g.honest;
  left = g.left;
  told = g.told;
  fits = g.fits;
}

module _ {all others : List (List ℕ)} {asked : List Batch} {i : Instance} {IsSeen : Standing → LifePart → Standing → Type 0}
    {IsStill : Standing → List LifeCall → Type 0} (life : LifeLaws all others asked i IsSeen IsStill) where
  -- where a part leads, from a history that the slots fit
  pub record PartGone (y : History) (kept : StoreStanding) (old : Standing) (part : LifePart) (new : Standing)
      (f : PartLeads i.variant i.meaning old part new) : Type 0 where
    pub after : History
    pub stands : StandsFor i new after
    pub within : IsWithin all others asked i after
    pub goes : PartGoesOn all others asked i old part new f (requests_of y.batches) (requests_of after.batches)
    pub steps : PartSteps i.variant i.meaning old part new f (requests_of y.batches) (requests_of after.batches)
    pub honest : (store_behind kept part).is_honest ≡ true
    pub left : Slots
    pub told : (store_behind kept part).slots ≡ Some left
    pub fits : FitsHistory i left after

  module _ (y : History) (kept : StoreStanding) (slots : Slots) (old : Standing) (p : Program) (new : Standing)
      (s : PartLeads i.variant i.meaning old (Holds p) new) (told : p.old.kept.slots ≡ Some slots) (fits : FitsHistory i slots y)
      (chance : LeavesNoChance i.variant i.meaning old (Holds p) new s) where
    abbrev On : Type 0
    On =
        ContinuesTo all others asked i y fits.waiting new p.new.kept (served_calls_in fits.waiting s.goes)
        (IsInHand fits.waiting s.goes) (last_bytes_in s.goes) p.result

    waits : IsNextOrLast (requests_of y.batches) fits.waiting
    waits = next_or_last i slots y fits.waiting fits.fits

    fits_then : (c : On) → FitsHistory i c.slots_after c.runs.after
    fits_then c = elim (store_failed p.result) [
      | inl failed ↦ c.fits (beyond_less c.slots_after (reached_position fits.waiting (served_calls_in fits.waiting s.goes))
          (total_of c.runs.after.batches)
          (omega (
            arith,
            reached_most i.meaning fits.waiting (served_calls_in fits.waiting s.goes) (requests_of y.batches) c.runs.requests waits
                c.runs.run,
            committed_most (IsInHand fits.waiting s.goes) p.result c.runs.requests (requests_of c.runs.after.batches)
                c.runs.committed,
          ))
          (chance failed fits.waiting (record { shown = slots; told = told; is_waiting = fits.is_waiting }) c.slots_after c.slots_told))
      | inr whole ↦ c.whole whole
    ]

    program_gone : StandsFor i old y → IsWithin all others asked i y → (c : On)
        → SessionSteps i.meaning (requests_of y.batches) (served_calls_of s) (IsInHandOf s) (last_bytes_in s.goes) p.result
        (requests_of c.runs.after.batches)
        → PartGone y kept old (Holds p) new s
    program_gone stands within c steps = record {
      after = c.runs.after;
      stands = c.runs.stands;
      within = c.runs.within;
      goes = (
        fits.waiting,
        record { shown = slots; told = told; is_waiting = fits.is_waiting },
        record {
          waits = waits;
          steps = record {
            between = c.runs.requests;
            run = c.runs.run;
            committed = c.runs.committed;
            in_part = c.runs.in_part;
          };
          once = c.once;
          room = c.room;
          entered = record { history = y; stands = stands; within = within; holds = refl };
          left = record { history = c.runs.after; stands = c.runs.stands; within = c.runs.within; holds = refl };
          refuses = c.refuses;
          powered = c.runs.powered;
          unspoiled = c.runs.unspoiled;
        },
      );
      steps = steps;
      honest = c.honest;
      left = c.slots_after;
      told = c.slots_told;
      fits = fits_then c;
    }

  deed_gone : (y : History) (kept : StoreStanding) (slots : Slots) (old : Standing) (deed : Deed) (new : Standing)
      (f : DeedLeads i.variant i.meaning old deed new) → kept.is_honest ≡ true → kept.slots ≡ Some slots → FitsHistory i slots y
      → (s : HistoryStays all others asked i y new)
      → PartSteps i.variant i.meaning old (Does deed) new f (requests_of y.batches) (requests_of s.after.batches)
      → PartGone y kept old (Does deed) new f
  deed_gone y kept slots old deed new f honest told fits s steps = record {
    after = s.after;
    stands = s.stands;
    within = s.within;
    goes = ap requests_of s.batches;
    steps = steps;
    honest = honest;
    left = slots;
    told = told;
    fits = record {
      waiting = fits.waiting;
      is_waiting = fits.is_waiting;
      fits = fits_on i slots y s.after s.batches s.names fits.waiting fits.fits;
    };
  }

  deed_stays : (y : History) (old : Standing) (deed : Deed) (new : Standing) → IsNoCall deed → IsSeen old (Does deed) new ⊎ IsStill old []
      → DeedLeads i.variant i.meaning old deed new → StandsFor i old y → IsWithin all others asked i y
      → HistoryStays all others asked i y new
  deed_stays y old deed new quiet (inl seen) f stands within = life.stays y old deed new quiet seen f stands within
  deed_stays y old deed new quiet (inr still) f stands within = life.stays_still y old deed new quiet still f stands within

  pub part_goes : (y : History) (kept : StoreStanding) (slots : Slots) (old : Standing) (part : LifePart) (new : Standing)
      (f : PartLeads i.variant i.meaning old part new) → kept.is_honest ≡ true → kept.slots ≡ Some slots
      → StandsFor i old y → IsWithin all others asked i y → FitsHistory i slots y → BeginsOver kept part
      → IsSeen old part new ⊎ IsStill old (part_calls i.variant i.meaning old part new f)
      → LeavesNoChance i.variant i.meaning old part new f → AreListed all asked i (part_calls i.variant i.meaning old part new f)
      → PartGone y kept old part new f
  part_goes y kept slots old (Holds p) new s honest told stands within fits begins seen chance listed =
      let laws = life.laws new in
      let k = session_chain s in
      let reaches = calls_reach laws (first_bytes s) old k.at (served_calls_of s) k.calls (ends_reach laws k.ends) in
      let seen_so : Shows i.variant all others i y old new ⊎ AreStill laws y old (first_bytes s) (session_calls s) = elim seen [
        | inl shown ↦ inl (life.shows y old (Holds p) new shown stands reaches (chain_leads i life.leads k))
        | inr still ↦ inr (
          life.few old (session_calls s) still,
          λ request gives one middle makes.
              life.idles y old middle (first_bytes s) request gives (subst (λ (calls : List LifeCall). IsStill old calls) one still)
              makes,
        )
      ] in
      let here : p.old.kept.slots ≡ Some slots = begins.1 ∙ told in
      let on = goes_on laws s y slots here (begins.0 ∙ honest) stands within fits seen_so listed in
      program_gone y kept slots old p new s here fits chance stands within on.0 on.1
  part_goes y kept slots old (Does (Calls c)) new f honest told stands within fits begins seen chance listed = absurd begins
  part_goes y kept slots old (Does (Extends values)) new f honest told stands within fits begins seen chance listed =
      let on = deed_stays y old (Extends values) new tt seen f stands within in
      deed_gone y kept slots old (Extends values) new f honest told fits on (ap requests_of on.batches)
  part_goes y kept slots old (Does LosesPower) new f honest told stands within fits begins seen chance listed =
      let on = deed_stays y old LosesPower new tt seen f stands within in
      deed_gone y kept slots old LosesPower new f honest told fits on (ap requests_of on.batches)
  part_goes y kept slots old (Does (Checkpoints said)) new f honest told stands within fits begins seen chance listed =
      let on = deed_stays y old (Checkpoints said) new tt seen f stands within in
      deed_gone y kept slots old (Checkpoints said) new f honest told fits on (ap requests_of on.batches)

  pub life_goes : (stages : List LifeStage) (y : History) (kept : StoreStanding) (slots : Slots) (start : Standing)
      (f : IsLife i.variant i.meaning start stages) → kept.is_honest ≡ true → kept.slots ≡ Some slots
      → StandsFor i start y → IsWithin all others asked i y → FitsHistory i slots y → IsOverOneStore kept stages
      → AreSeen life start stages f → AreNoChance i.variant i.meaning start stages f
      → AreListed all asked i (life_calls i.variant i.meaning start stages f)
      → GoneOn all others asked i (requests_of y.batches) kept start stages f
  life_goes [] y kept slots start f honest told stands within fits over seen chance listed = record {
    after = requests_of y.batches;
    goes = refl;
    follows = refl;
    history = y;
    holds = refl;
    stands = stands;
    within = within;
    honest = honest;
    left = slots;
    told = told;
    fits = fits;
  }
  life_goes (stage ∷ stages) y kept slots start f honest told stands within fits over seen chance listed =
      let calls : List LifeCall = part_calls i.variant i.meaning start stage.part stage.after f.0 in
      let more : List LifeCall = life_calls i.variant i.meaning stage.after stages f.1 in
      let p = part_goes y kept slots start stage.part stage.after f.0 honest told stands within fits over.0 seen.0 chance.0
      (listed_left all asked i calls more listed) in
      let r = life_goes stages p.after (store_behind kept stage.part) p.left stage.after f.1 p.honest p.told p.stands p.within p.fits
      over.1 seen.1 chance.1
      (listed_right all asked i calls more listed) in
      record {
        after = r.after;
        goes = (requests_of p.after.batches, p.goes, r.goes);
        follows = (requests_of p.after.batches, p.steps, r.follows);
        history = r.history;
        holds = r.holds;
        stands = r.stands;
        within = r.within;
        honest = r.honest;
        left = r.left;
        told = r.told;
        fits = r.fits;
      }

-- A first start, a session, a loss of power, and a session over the same store, over any devices.

-- its stages
abbrev stages_over : (old new : LifeStanding) (started : Devices) (middle empty : Standing) (between : StoreStanding)
    (told : Option (List ℕ)) (one two : Result Unit SessionFault) → List LifeStage
stages_over old new started middle empty between told one two =
    stages_around_loss (session_stage (program_standing started.store old.first old.received) (program_standing between new.first told)
    one middle) empty
    (session_stage (program_standing between old.second told) (program_standing new.devices.store new.second new.received) two
    new.devices.platform)

pub lives_on_one_store : BasicLifeGoesOn → BasicLivesWriteOnce → (meaning : Meaning) → IsLawful meaning → (old new : LifeStanding)
    (started : Devices) → InstanceBegins Basic meaning old.devices started → (middle empty : Standing) (between : StoreStanding)
    (told : Option (List ℕ)) (one two : Result Unit SessionFault)
    → IsLife Basic meaning started.platform (stages_over old new started middle empty between told one two)
    → LivesOnOneStore meaning old new one two
lives_on_one_store law counted meaning lawful old new started begun middle empty between told one two life = record {
  started = started;
  begun = begun;
  middle = middle;
  empty = empty;
  between = between;
  told = told;
  stages = stages_over old new started middle empty between told one two;
  are = refl;
  life = life;
  goes = λ cell slots here honest shown whole whole'.
      let i : Instance = basic_instance meaning (take 32 begun.secrets) in
      let stages : List LifeStage = stages_over old new started middle empty between told one two in
      let stands = begun.stands cell [] here refl in
      elim (clash_or i (life_messages i started.platform stages life) [] (life_batches i started.platform stages life)) [
        | inl clash ↦ inr clash
        | inr fine ↦
            let gone =
            law meaning lawful (take 32 begun.secrets) started.platform started.store stages life stands (begun.honest ∙ honest)
            (begun.stores slots honest shown) ((refl, refl), (tt, ((refl, refl), tt))) fine.0 (
              (λ is waiting waits slots shown. absurd (whole is)),
              (tt, ((λ is waiting waits slots shown. absurd (whole' is)), tt)),
            ) in
            inl (gone, counted meaning (take 32 begun.secrets) _ started.platform stages life gone.after stands gone.follows)
      ];
}

-- A life over the store of a first start is gone on with, in each variant.

pub basic_goes_on : BasicLifeGoesOn
basic_goes_on meaning lawful key start kept stages f stands honest told over clear chance =
    let i : Instance = basic_instance meaning key in
    let all : List (List ℕ) = life_messages i start stages f in
    let asked : List Batch = life_batches i start stages f in
    let itself = each_self [] all in
    let first = is_first Basic meaning key i.barrier [] lawful in
    let g = life_goes (basic_proofs.basic_life meaning lawful key all asked clear) stages first_history kept (first_slots i) start f
    honest told stands
    (basic_proofs.first_within meaning lawful key all asked itself.0) first.fits over
    (basic_proofs.all_seen meaning lawful key all asked clear start stages f) chance
    (record { messages = itself.1; batches = each_self [] asked }) in
    gone_from_none g (λ keeps. basic_never_lost meaning key all [] asked stages start f [] g.after g.goes)
    (λ none. never_spoiled all [] asked i none stages start f [] g.after g.goes)

pub opt_goes_on : OptLifeGoesOn
opt_goes_on meaning lawful key barrier values start kept stages f stands honest told over clear apart chance =
    let i : Instance = opt_instance meaning key barrier in
    let all : List (List ℕ) = opt_messages i start stages f in
    let asked : List Batch = life_batches i start stages f in
    let others : List (List ℕ) = others_values i start stages f in
    let front : List (List ℕ) = life_messages i start stages f in
    let back : List (List ℕ) = register_messages i start stages f in
    let itself = each_self [] all in
    let calls = each_left (Contains all) front back itself in
    let first = is_first Opt meaning key barrier values lawful in
    let seen = each_right (Contains all) front back itself in
    let y : History = first_history_on values in
    let g = life_goes (opt_proofs.opt_life meaning lawful key barrier all others asked clear apart) stages
    y kept (first_slots i) start f honest told stands
    (opt_proofs.opt_first_within meaning lawful key barrier values all others asked calls.0) first.fits over
    (opt_proofs.all_seen meaning lawful key barrier all others asked clear apart start stages f seen (each_self [] others)) chance
    (record { messages = calls.1; batches = each_self [] asked }) in
    let shut : has_open_segment start ≡ false =
    open_told start false (record { cell = cell_of i y; is_cell = stands.spells; tells = stands.cell; shows = refl }) in
    gone_from_none g
    (λ keeps. opt_never_lost meaning key barrier all others asked clear stages kept start f (digests_of i y) (stands_at i start y stands) []
    g.after g.goes seen keeps over (λ e. let clash : true ≡ false = sym e ∙ shut in absurd (cc)))
    (λ none. never_spoiled all others asked i none stages start f [] g.after g.goes)
