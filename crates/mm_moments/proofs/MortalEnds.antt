-- A life in which programs are killed is one in which they ended.
use Rattle.std.proofs.Common.{◌≡◌, ◌⊎◌, ◌∙◌, ◌+◌, ◌≤◌, ◌++◌, ℕ, List, [], ◌∷◌, Option, None, Some, Result, Ok, Err, refl, subst, sym, ap, inl, inr, arith}
use Rattle.mm_base.specs.declared.replay_fault.ReplayFault.TheVariants as replay
use Rattle.mm_digest.specs.declared.variant.Variant.{Variant}
use Rattle.mm_platform.specs.Standing.{Item, Standing}
use Rattle.mm_platform.specs.declared.fault.StepFault.{StepFault}
use Rattle.mm_module.specs.Meaning.{IsLawful, Meaning}
use Rattle.mm_model.specs.Chains.{Instance}
use Rattle.mm_call.specs.CallFinding.{fault_of}
use Rattle.mm_store.specs.PendingRecord.{PendingRecord}
use Rattle.mm_store.specs.StoreStanding.{slot_front, StoreStanding}
use Rattle.mm_store.specs.declared.fault.StoreFault.{StoreFault}
use Rattle.mm_recovery.specs.HostStanding.{HostStanding, host_standing, HostGoesAfterFinding}
use Rattle.mm_recovery.specs.declared.fault.HostFault.{HostFault}
use Rattle.mm_recovery.specs.declared.fault.HostFault.TheVariants.{Refused, Store}
use Rattle.mm_recovery.specs.declared.resuming.Resumed.{Resumed}
use Rattle.mm_recovery.proofs.Above.{Saw, one_waiting, saw_two}
use Rattle.mm_host.specs.Continuation.{IsNotBeyond, first_served_call, served_calls_in}
use Rattle.mm_host.specs.Sessions.{SessionStanding, host_of, session_standing, IsSession, ServedCall, SessionGoesAfterResume}
use Rattle.mm_host.specs.declared.fault.SessionFault.{SessionFault}
use Rattle.mm_host.specs.declared.fault.SessionFault.TheVariants.{Host, Lines}
use Rattle.mm_life.specs.Deeds.{LifeCall, found_record}
use Rattle.mm_life.specs.HonestLife.{AreNoChance, BeginsOver, IsOverOneStore, WaitsInSlots, reached_position, store_behind}
use Rattle.mm_life.specs.Laws.{OffersSlots, SessionsOfferSlots}
use Rattle.mm_life.specs.LifeWrites.{fault_stop, hands_in, host_stop, part_hand, part_stop, session_stop, stops_in}
use Rattle.mm_life.specs.Stages.{life_replies, told_replies, Holds, LifePart, life_calls, session_on}
use Rattle.mm_life.specs.Premises.{AreUntagged, IsFirstUntagged, bytes_unless_idle, closing_messages, others_values, register_messages}
use Rattle.mm_life.specs.Premises.{shown_messages, snapshots_of}
use Rattle.mm_moments.specs.MortalLives.{SessionStopsAnywhere, Dies, KilledOfferSlots, IsMortalLife, IsPartFor, LifeEnds, Lives}
use Rattle.mm_moments.specs.MortalLives.{MortalLivesEnd, MortalPart, MortalPartLeads, MortalStage, PartEnds, ended_life, ended_stages}
use Rattle.mm_moments.specs.MortalLives.{mortal_calls, mortal_part_calls, mortal_replies}
use Rattle.mm_moments.specs.MortalLaws.{AreMortalNoChance, AreMortalUntagged, IsMortalOverOneStore, MortalBeginsOver, mortal_closing_messages}
use Rattle.mm_moments.specs.MortalLaws.{mortal_hand, mortal_hands, mortal_others, mortal_register_messages, mortal_stop, mortal_stops, mortal_store_behind}
use Rattle.std.specs.Option.{option_map_or}
use Rattle.mm_call.specs.CallPremises.{foreign_items}

-- what a session found is what its slots show
module _ {variant : Variant} {meaning : Meaning} {old new : SessionStanding} {result : Result Unit SessionFault}
    (s : IsSession variant meaning old new result) (waiting : Option PendingRecord) (w : WaitsInSlots old.kept.slots waiting) where
  pub saw : Saw w.shown old.kept s.resumes.middle s.resumes.waiting
  saw =
      let r = s.resumes in
      saw_two w.shown r.finds.two old.kept r.finds.middle r.middle r.waiting w.told r.finds.reads r.finds.goes

  pub found_same : (found : Result (Option PendingRecord) StoreFault) (middle at : HostStanding) (begun : Result Resumed HostFault)
      → HostGoesAfterFinding variant meaning found middle at begun → Saw w.shown old.kept s.resumes.middle found → (first : Resumed)
      → begun ≡ Ok first → waiting ≡ found_record found
  found_same (Ok found) middle at begun g saw first is =
      one_waiting (slot_front w.shown 2) (slot_front w.shown 3) waiting found w.is_waiting (saw.waiting found refl)
  found_same (Err why) middle at begun g saw first is = absurd (cc)

  pub served_same : (goes : SessionGoesAfterResume variant meaning s.begun s.middle (host_of new) new.left s.taken s.sent result)
      → served_calls_in waiting goes ≡ served_calls_in (found_record s.resumes.waiting) goes
  served_same (inl stops) = refl
  served_same (inr goes) =
      ap (λ (x : Option PendingRecord). first_served_call x goes.first ++ goes.lines.calls)
      (found_same s.resumes.waiting (record (host_of old) { kept = s.resumes.middle }) s.middle s.begun s.resumes.goes saw goes.first
      goes.begins)

abbrev pub failed_by : SessionFault → Result Unit SessionFault
failed_by fault = Err fault

pub fault_same : (fault other : SessionFault) → failed_by fault ≡ failed_by other → fault ≡ other
fault_same fault other e = cc

module _ (stops_anywhere : SessionStopsAnywhere) (variant : Variant) (meaning : Meaning) (lawful : IsLawful meaning) where
  unfoldable pub part_ends : (old : Standing) (part : MortalPart) (new : Standing) (f : MortalPartLeads variant meaning old part new)
      → PartEnds variant meaning old part new f
  part_ends old (Lives part) new f = record { ended = part; leads = f; is = refl; calls = refl; replies = refl; chance = λ h. h }
  part_ends old (Dies p) new k =
      let s = stops_anywhere variant meaning lawful (session_on old p.old) (host_standing new p.kept) p.received k in record {
        ended = Holds (record { old = p.old; new = record { kept = p.kept; left = s.left; received = p.received }; result = Err s.fault });
        leads = s.stops;
        is = (s.left, s.fault, refl, s.stored);
        calls = s.calls;
        replies = ap told_replies s.told;
        chance = λ asked failed waiting w slots told.
            subst (λ (x : List ServedCall). IsNotBeyond slots (reached_position waiting x + 1))
            (sym (served_same s.stops waiting w s.stops.goes ∙ s.told))
            (asked (s.stored (fault_same s.fault (Host Store) failed)) waiting w slots told);
      }

  unfoldable pub life_ends : (start : Standing) (stages : List MortalStage) (f : IsMortalLife variant meaning start stages)
      → LifeEnds variant meaning start stages f
  life_ends start [] f = tt
  life_ends start (stage ∷ stages) f = (part_ends start stage.part stage.after f.0, life_ends stage.after stages f.1)

pub lives_end : SessionStopsAnywhere → MortalLivesEnd
lives_end stops_anywhere variant meaning lawful start stages f = life_ends stops_anywhere variant meaning lawful start stages f

pub killed_offer : SessionStopsAnywhere → SessionsOfferSlots → KilledOfferSlots
killed_offer stops_anywhere offers variant meaning lawful old host received k slots told =
    let s = stops_anywhere variant meaning lawful old host received k in
    subst (λ (calls : List LifeCall). (calls ≡ []) ⊎ OffersSlots slots calls) s.calls
    (offers variant meaning old (session_standing host.standing host.kept s.left received) (Err s.fault) s.stops slots told)

-- a session stops at most once
one_fault : (fault : Option StepFault) → fault_stop fault ≤ 1
one_fault None = omega arith
one_fault (Some fault) = omega arith

one_host : (why : HostFault) → host_stop why ≤ 1
one_host (Refused why) = one_fault (fault_of why)
one_host why = omega arith

pub one_stop : (result : Result Unit SessionFault) → session_stop result ≤ 1
one_stop (Err (Host why)) = one_host why
one_stop (Err (Lines replay.WriteFault)) = omega arith
one_stop result = omega arith

-- What is asked and told is the same.
module _ (variant : Variant) (meaning : Meaning) where
  pub calls_same : (start : Standing) (stages : List MortalStage) (f : IsMortalLife variant meaning start stages)
      (e : LifeEnds variant meaning start stages f)
      → life_calls variant meaning start (ended_stages variant meaning start stages f e) (ended_life variant meaning start stages f e)
      ≡ mortal_calls variant meaning start stages f
  calls_same start [] f e = refl
  calls_same start (stage ∷ stages) f e = let rest = calls_same stage.after stages f.1 e.1 in λ j. e.0.calls j ++ rest j

  pub replies_same : (start : Standing) (stages : List MortalStage) (f : IsMortalLife variant meaning start stages)
      (e : LifeEnds variant meaning start stages f)
      → life_replies variant meaning start (ended_stages variant meaning start stages f e) (ended_life variant meaning start stages f e)
      ≡ mortal_replies variant meaning start stages f
  replies_same start [] f e = refl
  replies_same start (stage ∷ stages) f e = let rest = replies_same stage.after stages f.1 e.1 in λ j. e.0.replies j ++ rest j

  part_stops : (old : Standing) (part : MortalPart) (new : Standing) (f : MortalPartLeads variant meaning old part new) (ended : LifePart)
      → IsPartFor variant meaning old part new f ended → part_stop ended ≤ mortal_stop part
  part_stops old (Lives part) new f ended is = rw is (omega arith)
  part_stops old (Dies p) new f ended is = rw is.2 (one_stop (Err is.1))

  pub stops_most : (start : Standing) (stages : List MortalStage) (f : IsMortalLife variant meaning start stages)
      (e : LifeEnds variant meaning start stages f) → stops_in (ended_stages variant meaning start stages f e) ≤ mortal_stops stages
  stops_most start [] f e = omega arith
  stops_most start (stage ∷ stages) f e =
      let here = part_stops start stage.part stage.after f.0 e.0.ended e.0.is in
      let rest = stops_most stage.after stages f.1 e.1 in omega (arith, here, rest)

  part_hands : (old : Standing) (part : MortalPart) (new : Standing) (f : MortalPartLeads variant meaning old part new) (ended : LifePart)
      → IsPartFor variant meaning old part new f ended → part_hand ended ≤ mortal_hand part
  part_hands old (Lives part) new f ended is = rw is (omega arith)
  part_hands old (Dies p) new f ended is = rw is.2 (one_stop (Err is.1))

  pub hands_most : (start : Standing) (stages : List MortalStage) (f : IsMortalLife variant meaning start stages)
      (e : LifeEnds variant meaning start stages f) → hands_in (ended_stages variant meaning start stages f e) ≤ mortal_hands stages
  hands_most start [] f e = omega arith
  hands_most start (stage ∷ stages) f e =
      let here = part_hands start stage.part stage.after f.0 e.0.ended e.0.is in
      let rest = hands_most stage.after stages f.1 e.1 in omega (arith, here, rest)

  -- over one store
  begins_over : (kept : StoreStanding) (old : Standing) (part : MortalPart) (new : Standing)
      (f : MortalPartLeads variant meaning old part new) (ended : LifePart) → IsPartFor variant meaning old part new f ended
      → MortalBeginsOver kept part → BeginsOver kept ended
  begins_over kept old (Lives part) new f ended is b = rw is b
  begins_over kept old (Dies p) new f ended is b = rw is.2 b

  store_same : (kept : StoreStanding) (old : Standing) (part : MortalPart) (new : Standing)
      (f : MortalPartLeads variant meaning old part new) (ended : LifePart) → IsPartFor variant meaning old part new f ended
      → store_behind kept ended ≡ mortal_store_behind kept part
  store_same kept old (Lives part) new f ended is = ap (store_behind kept) is
  store_same kept old (Dies p) new f ended is = ap (store_behind kept) is.2

  pub over_one_store : (kept : StoreStanding) (start : Standing) (stages : List MortalStage)
      (f : IsMortalLife variant meaning start stages) (e : LifeEnds variant meaning start stages f) → IsMortalOverOneStore kept stages
      → IsOverOneStore kept (ended_stages variant meaning start stages f e)
  over_one_store kept start [] f e over = tt
  over_one_store kept start (stage ∷ stages) f e over = (
    begins_over kept start stage.part stage.after f.0 e.0.ended e.0.is over.0,
    subst (λ (x : StoreStanding). IsOverOneStore x (ended_stages variant meaning stage.after stages f.1 e.1))
        (sym (store_same kept start stage.part stage.after f.0 e.0.ended e.0.is))
        (over_one_store (mortal_store_behind kept stage.part) stage.after stages f.1 e.1 over.1),
  )

  pub no_chance : (start : Standing) (stages : List MortalStage) (f : IsMortalLife variant meaning start stages)
      (e : LifeEnds variant meaning start stages f) → AreMortalNoChance variant meaning start stages f
      → AreNoChance variant meaning start (ended_stages variant meaning start stages f e) (ended_life variant meaning start stages f e)
  no_chance start [] f e none = tt
  no_chance start (stage ∷ stages) f e none = (e.0.chance none.0, no_chance stage.after stages f.1 e.1 none.1)

module _ (i : Instance) where
  closing_same : (old : Standing) (part : MortalPart) (new : Standing) (f : MortalPartLeads i.variant i.meaning old part new)
      (ended : LifePart) → IsPartFor i.variant i.meaning old part new f ended → (cell : Option (List ℕ)) (items : Option (List Item))
      → closing_messages ended cell items ≡ mortal_closing_messages part cell items
  closing_same old (Lives part) new f ended is cell items = ap (λ (x : LifePart). closing_messages x cell items) is
  closing_same old (Dies p) new f ended is cell items = ap (λ (x : LifePart). closing_messages x cell items) is.2

  pub registers_same : (start : Standing) (stages : List MortalStage) (f : IsMortalLife i.variant i.meaning start stages)
      (e : LifeEnds i.variant i.meaning start stages f)
      → register_messages i start (ended_stages i.variant i.meaning start stages f e) (ended_life i.variant i.meaning start stages f e)
      ≡ mortal_register_messages i start stages f
  registers_same start [] f e = refl
  registers_same start (stage ∷ stages) f e =
      let rest = registers_same stage.after stages f.1 e.1 in
      let closing = closing_same start stage.part stage.after f.0 e.0.ended e.0.is start.cell stage.after.items in
      λ j. bytes_unless_idle start (e.0.calls j) (shown_messages stage.after.items ++ closing j) ++ rest j

  pub others_same : (start : Standing) (stages : List MortalStage) (f : IsMortalLife i.variant i.meaning start stages)
      (e : LifeEnds i.variant i.meaning start stages f)
      → others_values i start (ended_stages i.variant i.meaning start stages f e) (ended_life i.variant i.meaning start stages f e)
      ≡ mortal_others i start stages f
  others_same start [] f e = refl
  others_same start (stage ∷ stages) f e =
      let rest = others_same stage.after stages f.1 e.1 in
      λ j. bytes_unless_idle start (e.0.calls j) (option_map_or foreign_items stage.after.items []) ++ rest j

  pub untagged : (issued : List (List ℕ)) (start : Standing) (stages : List MortalStage)
      (f : IsMortalLife i.variant i.meaning start stages) (e : LifeEnds i.variant i.meaning start stages f)
      → AreMortalUntagged i issued start stages f
      → AreUntagged i issued start (ended_stages i.variant i.meaning start stages f e) (ended_life i.variant i.meaning start stages f e)
  untagged issued start [] f e u = tt
  untagged issued start (stage ∷ stages) f e u =
      let calls = mortal_part_calls i.variant i.meaning start stage.part stage.after f.0 in
      let rest = untagged (issued ++ snapshots_of calls) stage.after stages f.1 e.1 u.1 in (
        subst (IsFirstUntagged i issued) (sym e.0.calls) u.0,
        subst (λ (x : List LifeCall). AreUntagged i (issued ++ snapshots_of x) stage.after
            (ended_stages i.variant i.meaning stage.after stages f.1 e.1) (ended_life i.variant i.meaning stage.after stages f.1 e.1))
            (sym e.0.calls) rest,
      )
