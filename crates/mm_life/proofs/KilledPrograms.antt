-- What a killed program leaves is left by a part of a life. With it: which calls of a device are
-- deeds; a call for a batch is a deed; behind a life the next session may start; what a session
-- offers first is what its slots show.
use Rattle.std.specs.Io.KnownBytes.{Consumes}
use Rattle.std.specs.Option.{option_map}
use Rattle.std.specs.Prelude.{◌⊎◌}
use Rattle.std.specs.Result.{result_err}
use Rattle.std.proofs.Common.{◌≡◌, ◌∙◌, Bool, true, false, List, [], Option, None, Some, refl, sym, ap, inl, inr, ℕ, Result, Ok, Err, subst}
use Rattle.std.proofs.Common.{◌∷◌, ◌++◌}
use Rattle.std.proofs.lemmas.List.{append-nil}
use Rattle.mm_digest.specs.declared.variant.Variant.{Variant}
use Rattle.mm_digest.specs.declared.variant.Variant.TheVariants.{Basic, Opt}
use Rattle.mm_platform.specs.Standing.{Item, Standing, PowerCycles, items_beside, items_after_cycle, item_values, register_after}
use Rattle.mm_platform.specs.declared.fault.StepFault.{StepFault}
use Rattle.mm_module.specs.Meaning.{Meaning}
use Rattle.mm_model.specs.Chains.{Instance}
use Rattle.mm_model.specs.History.{History}
use Rattle.mm_model.specs.Standing.{RegisterStands, StandsFor, IsGenuine}
use Rattle.mm_call.proofs.Above.{each_at}
use Rattle.mm_opt.specs.declared.segment.Checkpointed.{Checkpointed}
use Rattle.mm_opt.specs.declared.segment.CheckpointRefusal.{CheckpointRefusal}
use Rattle.mm_ask.proofs.Above.{asked_whole}
use Rattle.mm_store.specs.PendingRecord.{PendingRecord}
use Rattle.mm_store.specs.StoreStanding.{ReadsSlot, StoreStanding, Slots, slot_front}
use Rattle.mm_store.specs.declared.fault.StoreFault.{StoreFault}
use Rattle.mm_killed.specs.DeviceCalls.{CallAnswer, CallGoes, Cycles, OfPlatform, Place, RunsTo, AnyProgramStops, TellsSame}
use Rattle.mm_recovery.specs.CellWrites.{store_fault_as}
use Rattle.mm_recovery.specs.FirstStart.{InitLeaves, InstanceBegins, ShowsValues}
use Rattle.mm_recovery.specs.HostStanding.{CallsAreRefusedElsewhere, first_offer, HostStanding, offer_slot, HostGoesAfterFinding}
use Rattle.mm_recovery.specs.HostStanding.{HostGoesAfterOffer, result_of_start, IsWaiting}
use Rattle.mm_recovery.specs.declared.fault.HostFault.{HostFault}
use Rattle.mm_recovery.specs.declared.init_fault.InitFault.{InitFault}
use Rattle.mm_recovery.specs.declared.init_fault.InitFault.TheVariants.{Platform}
use Rattle.mm_recovery.specs.declared.resuming.Resumed.{Resumed}
use Rattle.mm_recovery.proofs.Above.{Saw, saw_two}
use Rattle.mm_host.specs.AnySlots.{offer_after}
use Rattle.mm_host.specs.Continuation.{served_calls_in}
use Rattle.mm_host.specs.Sessions.{SessionStanding, host_of, SessionGoesAfterResume, ServedCall, IsSession}
use Rattle.mm_host.specs.declared.fault.SessionFault.{SessionFault}
use Rattle.mm_life.specs.Deeds.{CyclesAreDeeds, ReadsAreDeeds, DeedLeads, Extends, LosesPower, BatchCallsAreDeeds, CallsInPartsAreDeeds}
use Rattle.mm_life.specs.Deeds.{LifeCall, IsFirstOffered, bytes_of, first_bytes, first_calls, found_host, found_record, offered_calls}
use Rattle.mm_life.specs.Deeds.{offer_after_finding, served_calls_of, told_calls, untold_calls}
use Rattle.mm_life.specs.Laws.{NextMayStart, OffersSlots, SessionsOfferSlots}
use Rattle.mm_life.specs.Stages.{KilledCheckpointsLive, KilledLossesLive, KilledSessionsLive, CyclingLives, KilledStartsLeave, cycling_code}
use Rattle.mm_life.specs.Stages.{devices_at}
use Rattle.mm_life.proofs.Chains.{session_chain}
use Rattle.mm_life.proofs.Sessions.{offered_by}

-- Which calls of a device are deeds.

pub reads_are_deeds : ReadsAreDeeds
reads_are_deeds variant meaning old new fault goes = (goes.cell, goes.items)

pub nothing_beside : (items : Option (List Item)) → items ≡ items_beside [] items
nothing_beside None = refl
nothing_beside (Some xs) = ap (λ (x : List Item). Some x) (sym (append-nil xs))

emptied : (old new : Standing) (flag : Bool) → new.items ≡ items_after_cycle flag old.items
    → (new.items ≡ option_map (λ _. []) old.items) ⊎ (new.items ≡ items_beside [] old.items)
emptied old new true e = inl e
emptied old new false e = inr (e ∙ nothing_beside old.items)

unfailed : (old new : Standing) (fault : Option StepFault) → fault ≡ None → PowerCycles old new fault
    → (new.cell ≡ old.cell) × (new.items ≡ option_map (λ _. []) old.items)
unfailed old new None e c = (c.cell, c.items ∙ ap (λ (flag : Bool). items_after_cycle flag old.items) c.ends.0)
unfailed old new (Some fault) e c = absurd (cc)

pub cycles_are_deeds : CyclesAreDeeds
cycles_are_deeds variant meaning old new fault c = record {
  unfailed = λ e. unfailed old new fault e c;
  failed = elim (emptied old new c.is_emptied c.items) [
    | inl e ↦ inl (c.cell, e)
    | inr e ↦ inr (c.cell, e)
  ];
}

-- What a killed program leaves is left by a part of a life.

-- nothing is done between two places that tell the same
still : (end left : Place) → TellsSame end left
    → (left.standing.cell ≡ end.standing.cell) × (left.standing.items ≡ items_beside [] end.standing.items)
still end left same = (sym same.cell, sym same.items ∙ nothing_beside end.standing.items)

pub sessions_live : AnyProgramStops (Result Unit SessionFault) → KilledSessionsLive
sessions_live stops variant meaning code old left runs killed =
    let s = stops code old left killed.unplanned killed.killed in
    record {
      end = s.end;
      result = s.given;
      leaves = s.leaves;
      life = (runs s.end s.given s.runs, (still s.end left s.leaves, tt));
    }

pub checkpoints_live : AnyProgramStops (Result Checkpointed CheckpointRefusal) → KilledCheckpointsLive
checkpoints_live stops variant meaning code old left runs killed =
    let s = stops code old left killed.unplanned killed.killed in
    record {
      end = s.end;
      said = s.given;
      leaves = s.leaves;
      life = (runs s.end s.given s.runs, (still s.end left s.leaves, tt));
    }

loss_left : (variant : Variant) (meaning : Meaning) (old : Standing) (end left : Place) → TellsSame end left
    → DeedLeads variant meaning old LosesPower end.standing ⊎ DeedLeads variant meaning old (Extends []) end.standing
    → DeedLeads variant meaning old LosesPower left.standing ⊎ DeedLeads variant meaning old (Extends []) left.standing
loss_left variant meaning old end left same (inl it) = inl (sym same.cell ∙ it.0, sym same.items ∙ it.1)
loss_left variant meaning old end left same (inr it) = inr (sym same.cell ∙ it.0, sym same.items ∙ it.1)

pub losses_live : AnyProgramStops (Result Unit StepFault) → KilledLossesLive
losses_live stops variant meaning code old left runs killed =
    let s = stops code old left killed.unplanned killed.killed in
    loss_left variant meaning old.standing s.end left s.leaves (runs s.end s.given s.runs)

-- what a platform stands for, and what it shows, it does where it tells the same
stands_same : (variant : Variant) (i : Instance) (end left : Standing) (y : History) → end.items ≡ left.items
    → RegisterStands variant i end y → RegisterStands variant i left y
stands_same Basic i end left y items at = tt
stands_same Opt i end left y items at =
    ap (λ (xs : Option (List Item)). option_map (λ shown. register_after (item_values shown)) xs) (sym items) ∙ at

shows_same : (variant : Variant) (end left : Standing) (values : List (List ℕ)) → end.items ≡ left.items
    → ShowsValues variant left values → ShowsValues variant end values
shows_same Basic end left values items shows = shows
shows_same Opt end left values items shows =
    ap (λ (xs : Option (List Item)). option_map item_values xs) items ∙ shows

stands_left : (i : Instance) (end left : Place) (y : History) → TellsSame end left → StandsFor i end.standing y
    → StandsFor i left.standing y
stands_left i end left y same s = record {
  spells = s.spells;
  cell = sym same.cell ∙ s.cell;
  register = stands_same i.variant i end.standing left.standing y same.items s.register;
}

begins_left : (variant : Variant) (meaning : Meaning) (old end left : Place) → TellsSame end left
    → InstanceBegins variant meaning (devices_at old) (devices_at end) → InstanceBegins variant meaning (devices_at old) (devices_at left)
begins_left variant meaning old end left same b = record {
  secrets = b.secrets;
  counted = b.counted;
  taken = subst (λ (left : Option (List ℕ)). Consumes old.entropy left b.secrets) same.entropy b.taken;
  stands = λ cell values told shows.
      stands_left _ end left _ same (b.stands cell values told (shows_same variant end.standing left.standing values same.items shows));
  honest = sym same.is_honest ∙ b.honest;
  stores = λ slots honest told. sym same.slots ∙ b.stores slots honest told;
  synced = λ marks told. sym same.unsynced ∙ b.synced marks told;
  first = b.first;
}

start_left : (variant : Variant) (meaning : Meaning) (old end left : Place) (said : Result Unit InitFault) → TellsSame end left
    → InitLeaves variant meaning (devices_at old) (devices_at end) said
    → (left.standing.cell ≡ old.standing.cell) ⊎ InstanceBegins variant meaning (devices_at old) (devices_at left)
start_left variant meaning old end left (Ok it) same leaves = inr (begins_left variant meaning old end left same leaves)
start_left variant meaning old end left (Err (Platform fault)) same (inl cell) = inl (sym same.cell ∙ cell)
start_left variant meaning old end left (Err (Platform fault)) same (inr b) = inr (begins_left variant meaning old end left same b)
start_left variant meaning old end left (Err why) same cell = inl (sym same.cell ∙ cell)

pub starts_leave : AnyProgramStops (Result Unit InitFault) → KilledStartsLeave
starts_leave stops variant meaning code old left runs killed =
    let s = stops code old left killed.unplanned killed.killed in
    start_left variant meaning old s.end left s.given s.leaves (runs s.end s.given s.runs)

-- the program that calls for a loss of power
cycling_led : (variant : Variant) (meaning : Meaning) (old at end : Place) (answer : CallAnswer) → CallGoes Cycles old at answer
    → end ≡ at
    → DeedLeads variant meaning old.standing LosesPower end.standing ⊎ DeedLeads variant meaning old.standing (Extends []) end.standing
cycling_led variant meaning old at end (OfPlatform said) g e =
    subst (λ (p : Place). DeedLeads variant meaning old.standing LosesPower p.standing
    ⊎ DeedLeads variant meaning old.standing (Extends []) p.standing) (sym e)
    (cycles_are_deeds variant meaning old.standing at.standing (result_err said) g.1).failed
cycling_led variant meaning old at end answer g e = absurd g

cycling_runs : (variant : Variant) (meaning : Meaning) (old end : Place) (given : Result Unit StepFault)
    → RunsTo CallGoes cycling_code old end given
    → DeedLeads variant meaning old.standing LosesPower end.standing ⊎ DeedLeads variant meaning old.standing (Extends []) end.standing
cycling_runs variant meaning old end given r = cycling_led variant meaning old r.0 end r.1 r.2 r.3.0

pub cycling_lives : AnyProgramStops (Result Unit StepFault) → CyclingLives
cycling_lives stops variant meaning old left killed =
    losses_live stops variant meaning cycling_code old left (cycling_runs variant meaning old) killed

-- A call for a batch is a deed.

pub batch_calls_lead : CallsAreRefusedElsewhere → BatchCallsAreDeeds
batch_calls_lead refused variant meaning old new offer batch gives a = record {
  short = λ short.
      record { goes = a.goes short; fits = a.fits; elsewhere = refused variant meaning old new offer batch gives a };
  long = λ long. let same : new ≡ old = (a.calls.long long).0 in rw same (refl, nothing_beside old.items);
}

pub parts_lead : CallsAreRefusedElsewhere → CallsInPartsAreDeeds
parts_lead refused variant meaning lawful old new offer batch ended short f =
    rw f.gives ((batch_calls_lead refused variant meaning old new offer batch _
    (asked_whole meaning offer batch old new variant f.end lawful short f.finishes)).short short)

-- Behind a life the next session may start.

pub next_starts : NextMayStart
next_starts all others asked i issued start stages f whole clear apart slots kept waiting told waits untagged = record {
  told = told;
  waiting = waiting;
  is_waiting = waits;
  stands = whole.stands;
  clear = clear;
  apart = apart;
  within = whole.within;
  genuine = λ content right.
      each_at (IsGenuine i whole.history) issued (first_offer slots waiting) whole.named (untagged content right) content right;
}

-- What a session offers first is what its slots show.

-- What was offered first is what the slots show for what waits in them; or no call was made, and no line is read.
module _ (variant : Variant) (meaning : Meaning) (slots : Slots) where
  record Shown (offered : List ℕ) : Type 0 where
    waiting : Option PendingRecord
    is_waiting : IsWaiting (slot_front slots 2) (slot_front slots 3) waiting
    is : offered ≡ first_offer slots waiting

  abbrev Offers : List ℕ → List LifeCall → Result Resumed HostFault → Type 0
  Offers offered calls came = Shown offered ⊎ ((calls ≡ []) × ((resumed : Resumed) → came ≡ Ok resumed → ⊥))

  offers_none : (why : StoreFault) (offered : List ℕ) (came : Result Resumed HostFault) → came ≡ Err (store_fault_as why)
      → Offers offered [] came
  offers_none why offered came e = inr (refl, λ resumed is. cc)

  offers_start : (zero : Result (List ℕ) StoreFault) (old new : StoreStanding) (came : Result Resumed HostFault)
      → old.slots ≡ Some slots → ReadsSlot 0 old new zero → came ≡ result_of_start zero
      → IsWaiting (slot_front slots 2) (slot_front slots 3) None → Offers (bytes_of zero) [] came
  offers_start (Ok bytes) old new came told r e w = inl (record { waiting = None; is_waiting = w; is = r.gives slots told })
  offers_start (Err why) old new came told r e w = offers_none why [] came e

  offers_repeat : (offer : Result (List ℕ) StoreFault) (first : StoreStanding) (middle new : HostStanding) (p : PendingRecord)
      (came : Result Resumed HostFault) (g : HostGoesAfterOffer variant meaning offer middle new p came) → first.slots ≡ Some slots
      → ReadsSlot (offer_slot p) first middle.kept offer → IsWaiting (slot_front slots 2) (slot_front slots 3) (Some p)
      → Offers (bytes_of offer) (offered_calls variant meaning offer middle new p came g) came
  offers_repeat (Ok bytes) first middle new p came g told r w =
      inl (record { waiting = Some p; is_waiting = w; is = r.gives slots told })
  offers_repeat (Err why) first middle new p came g told r w = offers_none why [] came g.1

  offers_by : (found : Result (Option PendingRecord) StoreFault) (first : StoreStanding) (middle new : HostStanding)
      (came : Result Resumed HostFault) (g : HostGoesAfterFinding variant meaning found middle new came)
      → Saw slots first middle.kept found
      → Offers (offer_after_finding variant meaning found middle new came g) (first_calls variant meaning found middle new came g) came
  offers_by (Ok (Some p)) first middle new came g s =
      offers_repeat g.offer middle.kept (record middle { kept = g.middle }) new p came g.goes s.told g.reads (s.waiting (Some p) refl)
  offers_by (Ok None) first middle new came g s =
      offers_start g.1.zero middle.kept new.kept came s.told g.1.reads g.1.gives (s.waiting None refl)
  offers_by (Err why) first middle new came g s = offers_none why [] came g.1

-- the calls begin with what is offered first
first_told : (bytes : List ℕ) (told : List ServedCall) (untold : List LifeCall) → IsFirstOffered (offer_after bytes told) untold
    → IsFirstOffered bytes (told_calls bytes told ++ untold)
first_told bytes [] untold h = h
first_told bytes (c ∷ told) untold h = refl

module _ {variant : Variant} {meaning : Meaning} {old new : SessionStanding} {result : Result Unit SessionFault}
    (s : IsSession variant meaning old new result) (slots : Slots) where
  abbrev Goes : Type 0
  Goes = SessionGoesAfterResume variant meaning s.begun s.middle (host_of new) new.left s.taken s.sent result

  abbrev calls_by : Goes → List LifeCall
  calls_by goes = told_calls (first_bytes s) (served_calls_in (found_record s.resumes.waiting) goes) ++ untold_calls s goes

  by_offers : (goes : Goes)
      → Offers variant meaning slots (first_bytes s)
      (first_calls variant meaning s.resumes.waiting (found_host s) s.middle s.begun s.resumes.goes) s.begun
      → IsFirstOffered (first_bytes s) (calls_by goes) → (calls_by goes ≡ []) ⊎ OffersSlots slots (calls_by goes)
  by_offers goes (inl shown) h = inr (record {
    waiting = shown.waiting;
    is_waiting = shown.is_waiting;
    offered = subst (λ (bytes : List ℕ). IsFirstOffered bytes (calls_by goes)) shown.is h;
  })
  by_offers (inl stops) (inr none) h = inl none.0
  by_offers (inr goes) (inr none) h = absurd (none.1 goes.first goes.begins)

pub offer_slots : SessionsOfferSlots
offer_slots variant meaning old new result s slots slots_told =
    let r = s.resumes in
    by_offers s slots s.goes
    (offers_by variant meaning slots r.waiting old.kept (found_host s) s.middle s.begun r.goes
    (saw_two slots r.finds.two old.kept r.finds.middle r.middle r.waiting slots_told r.finds.reads r.finds.goes))
    (first_told (first_bytes s) (served_calls_of s) (untold_calls s s.goes) (offered_by (session_chain s).ends))
