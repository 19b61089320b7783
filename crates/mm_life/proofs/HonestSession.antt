-- A session over an honest store, by the calls that it made: it goes on from a history that the slots fit.
use Rattle.std.proofs.Common.{◌≡◌, ◌∙◌, ◌⊎◌, ◌+◌, ℕ, true, List, [], ◌∷◌, ◌++◌, map, Option, None, Some, Result, Ok, Err, refl, sym, subst, inl}
use Rattle.std.proofs.Common.{inr}
use Rattle.mm_base.specs.declared.replay_fault.ReplayFault.TheVariants.{WriteFault}
use Rattle.mm_digest.specs.declared.variant.Variant.{Variant}
use Rattle.mm_platform.specs.Standing.{Standing}
use Rattle.mm_module.specs.Batch.{Batch}
use Rattle.mm_module.specs.Meaning.{Meaning}
use Rattle.mm_model.specs.History.{History}
use Rattle.mm_model.specs.Chains.{Instance}
use Rattle.mm_model.specs.Standing.{StandsFor}
use Rattle.mm_call.specs.CallPremises.{IsWithin}
use Rattle.mm_call.specs.CallFinding.{batch_answer_of, batch_result_of}
use Rattle.mm_store.specs.StoreStanding.{ReadsSlot, StoreStanding, Slots, slot_front}
use Rattle.mm_store.specs.PendingRecord.{PendingRecord}
use Rattle.mm_store.specs.declared.fault.StoreFault.{StoreFault}
use Rattle.mm_recovery.specs.CellWrites.{store_fault_as}
use Rattle.mm_recovery.specs.HostStanding.{HostStanding, host_standing, FitsBy, FitsHistory, first_offer, offer_slot, HostGoesAfterRecord}
use Rattle.mm_recovery.specs.HostStanding.{HostGoesAfterFinding, HostGoesAfterOffer, result_of_start, IsWaiting}
use Rattle.mm_recovery.specs.declared.fault.HostFault.{HostFault}
use Rattle.mm_recovery.specs.declared.resuming.Resumed.{Resumed}
use Rattle.mm_recovery.proofs.Above.{IsMade, MadeOf, Saw, one_waiting, saw_two}
use Rattle.mm_host.specs.AnySlots.{AreAskedInTurn, history_after_answer, offer_after}
use Rattle.mm_host.specs.Continuation.{ContinuesTo, IsInHand, served_calls_in}
use Rattle.mm_host.specs.Sessions.{SessionStanding, host_of, session_standing, SessionGoesAfterResume, SessionPlace, ServedCall}
use Rattle.mm_host.specs.Sessions.{ServesAllLines, IsSession, served_lines}
use Rattle.mm_host.specs.declared.fault.SessionFault.{SessionFault}
use Rattle.mm_host.specs.declared.fault.SessionFault.TheVariants.{Host, Lines}
use Rattle.mm_host.proofs.Above.{AreMade, CallsInTurn, IsLineAsked, IsWritten, Laws, Shows, StandsIn, calls_reach, continues_by, May}
use Rattle.mm_host.proofs.Above.{fits_genuine, pending_for, same_self, stepped_by}
use Rattle.std.proofs.Common.{Bool, ap, length}
use Rattle.mm_model.specs.History.{requests_of, total_of}
use Rattle.mm_store.specs.declared.fault.StoreFault.TheVariants as fault
use Rattle.mm_host.specs.Continuation.{AreToldOnce, RefusesAs}
use Rattle.mm_host.proofs.Above.{by_told, fits_room, unspoiled, store_untold}
use Rattle.mm_base.specs.declared.replay_fault.ReplayFault.TheVariants.{WriteFault}
use Rattle.mm_host.specs.declared.fault.SessionFault.TheVariants.{Lines}
use Rattle.mm_host.specs.Continuation.{last_bytes_in}
use Rattle.mm_life.specs.Stages.{SessionSteps}
use Rattle.mm_module.specs.Batch.{batch_text}
use Rattle.mm_life.specs.Deeds.{LifeCall, call_of, bytes_of, first_bytes, first_calls, found_host, found_record, IsInHandOf, last_calls}
use Rattle.mm_life.specs.Deeds.{offered_calls, offer_after_finding, recorded_calls, session_calls, told_calls, untold_calls}
use Rattle.mm_life.proofs.Chains.{Chain, Ends, rests, session_chain, stops, AreListed, makes_call}
use Rattle.mm_life.proofs.Sessions.{AreIdle, ends_reach, listed_first, listed_rest}

-- what was asked, by the calls that were made
abbrev pub requests_in : List LifeCall → List (List ℕ)
requests_in calls = map (λ c. batch_text c.batch) calls

module _ {all others : List (List ℕ)} {asked : List Batch} {i : Instance} {final : Standing} (laws : Laws all others asked i final) where
  asked_last : {sent : List ℕ} (z : History) (at : Standing) (offer : List ℕ) (hand : List ℕ → Type 0) (untold : List LifeCall)
      (result : Result Unit SessionFault) → Ends i.variant i.meaning at final offer hand sent untold result → AreListed all asked i untold
      → AreAskedInTurn all asked i z offer (requests_in untold)
  asked_last z at offer hand untold result (rests same none unwritten) listed = rw none tt
  asked_last z at offer hand untold result (stops request h gives c is came t fault says ends) listed =
      let made : LifeCall = call_of offer request gives in
      let l : AreListed all asked i (made ∷ []) = rw is at listed in
      rw is (l.batches.0, listed_first all asked i made [] l, tt)

  asked_in_turn : {sent : List ℕ} (told : List ServedCall) (y z : History) (old at : Standing) (offer : List ℕ) (hand : List ℕ → Type 0)
      (untold : List LifeCall)
      (result : Result Unit SessionFault) → CallsInTurn i.variant i.meaning offer old told at
      → Ends i.variant i.meaning at final (offer_after offer told) hand sent untold result → StandsIn all others asked i y z old offer
      → Shows i.variant all others i y old final → AreListed all asked i (told_calls offer told ++ untold)
      → AreAskedInTurn all asked i z offer (served_lines told ++ requests_in untold)
  asked_in_turn [] y z old at offer hand untold result h ends s shows listed = asked_last z at offer hand untold result ends listed
  asked_in_turn (c ∷ told) y z old at offer hand untold result h ends s shows listed =
      let made : LifeCall = call_of offer c.line (Ok c.answer) in
      let rest : List LifeCall = told_calls c.answer.snapshot told ++ untold in
      let then_is : History = history_after_answer i z offer c.line in
      let first = listed_first all asked i made rest listed in
      let m = laws.met y old h.0 offer (pending_for c.line) (batch_answer_of c.answer)
      (makes_call laws old h.0 offer c.line y (Ok (batch_answer_of c.answer)) h.1.goes s.stands s.within s.genuine listed.batches.0 first)
      shows
      (calls_reach laws c.answer.snapshot h.0 at told h.2 (ends_reach laws ends)) in
      let t = stepped_by laws y z old h.0 offer (pending_for c.line) c.answer s h.1.fits m.0 m.0.comes in (
        listed.batches.0,
        first,
        subst (λ (bytes : List ℕ). AreAskedInTurn all asked i then_is bytes (served_lines told ++ requests_in untold)) t.next
            (asked_in_turn told m.0.after then_is h.0 at c.answer.snapshot hand untold result h.2 ends t.here m.1
            (listed_rest all asked i made rest listed)),
      )

  -- at most one call was made, and it minds no register
  abbrev pub AreStill : History → Standing → List ℕ → List LifeCall → Type 0
  AreStill y before offer calls = ((calls ≡ []) ⊎ ((c : LifeCall) × (calls ≡ c ∷ []))) × AreIdle laws y before offer calls

  -- these are asked, whatever others do
  abbrev AreAskedStill : History → Standing → List ℕ → List (List ℕ) → Type 0
  AreAskedStill y before offer requests = AreAskedInTurn all asked i y offer requests × May laws y before offer requests

  still_last : {sent : List ℕ} (y : History) (before : Standing) (offer : List ℕ) (hand : List ℕ → Type 0) (untold : List LifeCall)
      (result : Result Unit SessionFault) → Ends i.variant i.meaning before final offer hand sent untold result
      → StandsIn all others asked i y y before offer → AreListed all asked i untold → AreStill y before offer untold
      → AreAskedStill y before offer (requests_in untold)
  still_last y before offer hand untold result (rests same none unwritten) s listed still = rw none (tt, inr tt)
  still_last y before offer hand untold result (stops request h gives c is came t fault says ends) s listed still =
      let made : LifeCall = call_of offer request gives in
      let l : AreListed all asked i (made ∷ []) = rw is at listed in
      let first = listed_first all asked i made [] l in
      let m = makes_call laws before final offer request y (batch_result_of gives) c.goes s.stands s.within s.genuine l.batches.0 first in
      rw is ((l.batches.0, first, tt), inr (still.1 request gives is final m, refl))

  asked_still : {sent : List ℕ} (y : History) (before : Standing) (offer : List ℕ) (told : List ServedCall) (hand : List ℕ → Type 0)
      (untold : List LifeCall)
      (result : Result Unit SessionFault) → Chain i.variant i.meaning offer before final told hand sent untold result
      → StandsIn all others asked i y y before offer → AreListed all asked i (told_calls offer told ++ untold)
      → AreStill y before offer (told_calls offer told ++ untold) → AreAskedStill y before offer (served_lines told ++ requests_in untold)
  asked_still {sent} y before offer [] hand untold result k s listed still =
      still_last y before offer hand untold result
      (subst (λ (x : Standing). Ends i.variant i.meaning x final offer hand sent untold result) k.calls k.ends) s listed still
  asked_still y before offer (c ∷ []) hand untold result k s listed still =
      let made : LifeCall = call_of offer c.line (Ok c.answer) in
      let none : untold ≡ [] = elim still.0 [ inl e ↦ absurd (cc) | inr one ↦ cc (one.1) ] in
      let one : made ∷ untold ≡ made ∷ [] = cc in
      let first = listed_first all asked i made untold listed in
      let m = makes_call laws before k.calls.0 offer c.line y (Ok (batch_answer_of c.answer)) k.calls.1.goes s.stands s.within s.genuine
      listed.batches.0 first in
      rw none ((listed.batches.0, first, tt), inr (still.1 c.line (Ok c.answer) one k.calls.0 m, refl))
  asked_still y before offer (c ∷ next ∷ told) hand untold result k s listed still =
      elim still.0 [ inl e ↦ absurd (cc) | inr one ↦ let clash = one.1 in absurd (cc) ]

-- What a start came to where the store failed, or memory was wanting, before anything was asked.
record Rests (before : Standing) (new : HostStanding) (slots : Slots) (honest : Bool) (came : Result Resumed HostFault) : Type 0 where
  same : new.standing ≡ before
  told : new.kept.slots ≡ Some slots
  is_honest : new.kept.is_honest ≡ honest
  why : StoreFault
  is : came ≡ Err (store_fault_as why)

-- It rests; or what the slots show was offered first, for what waits in them.
data Opens (variant : Variant) (meaning : Meaning) (slots : Slots) (honest : Bool) (waiting : Option PendingRecord)
    (found : Result (Option PendingRecord) StoreFault) (middle new : HostStanding) (came : Result Resumed HostFault)
    (g : HostGoesAfterFinding variant meaning found middle new came) : Type 0 where
  unasked : Rests middle.standing new slots honest came → Opens variant meaning slots honest waiting found middle new came g
  offers : offer_after_finding variant meaning found middle new came g ≡ first_offer slots waiting → found_record found ≡ waiting
      → Opens variant meaning slots honest waiting found middle new came g

module _ (variant : Variant) (meaning : Meaning) (slots : Slots) where
  zero_shown : (zero : Result (List ℕ) StoreFault) (middle new : HostStanding) (came : Result Resumed HostFault)
      → new.standing ≡ middle.standing → middle.kept.slots ≡ Some slots → ReadsSlot 0 middle.kept new.kept zero
      → came ≡ result_of_start zero
      → (bytes_of zero ≡ slot_front slots 0) ⊎ Rests middle.standing new slots middle.kept.is_honest came
  zero_shown (Ok bytes) middle new came same told r e = inl (r.gives slots told)
  zero_shown (Err why) middle new came same told r e =
      inr (record { same = same; told = r.slots ∙ told; is_honest = r.honest; why = why; is = e })

  offer_shown : (offer : Result (List ℕ) StoreFault) (first : StoreStanding) (middle new : HostStanding) (p : PendingRecord)
      (came : Result Resumed HostFault) → HostGoesAfterOffer variant meaning offer middle new p came → first.slots ≡ Some slots
      → ReadsSlot (offer_slot p) first middle.kept offer
      → (bytes_of offer ≡ slot_front slots (offer_slot p)) ⊎ Rests middle.standing new slots first.is_honest came
  offer_shown (Ok bytes) first middle new p came g told r = inl (r.gives slots told)
  offer_shown (Err why) first middle new p came g told r =
      rw g.0 (inr (record { same = refl; told = r.slots ∙ told; is_honest = r.honest; why = why; is = g.1 }))

  opens_found : (found : Option PendingRecord) (middle new : HostStanding) (came : Result Resumed HostFault)
      (g : HostGoesAfterFinding variant meaning (Ok found) middle new came) → middle.kept.slots ≡ Some slots
      → Opens variant meaning slots middle.kept.is_honest found (Ok found) middle new came g
  opens_found None middle new came g told = elim (zero_shown g.1.zero middle new came g.0 told g.1.reads g.1.gives) [
    | inl is ↦ offers is refl
    | inr rest ↦ unasked rest
  ]
  opens_found (Some p) middle new came g told =
      elim (offer_shown g.offer middle.kept (record middle { kept = g.middle }) new p came g.goes told g.reads) [
        | inl is ↦ offers is refl
        | inr rest ↦ unasked rest
      ]

  opens_by : (waiting : Option PendingRecord) (found : Result (Option PendingRecord) StoreFault) (first : StoreStanding)
      (middle new : HostStanding) (came : Result Resumed HostFault) (g : HostGoesAfterFinding variant meaning found middle new came)
      → IsWaiting (slot_front slots 2) (slot_front slots 3) waiting → Saw slots first middle.kept found
      → Opens variant meaning slots middle.kept.is_honest waiting found middle new came g
  opens_by waiting (Err why) first middle new came g w s =
      unasked (rw g.0 (record { same = refl; told = s.told; is_honest = refl; why = why; is = g.1 }))
  opens_by waiting (Ok found) first middle new came g w s =
      subst (λ (v : Option PendingRecord). Opens variant meaning slots middle.kept.is_honest v (Ok found) middle new came g)
      (one_waiting (slot_front slots 2) (slot_front slots 3) found waiting (s.waiting found refl) w)
      (opens_found found middle new came g s.told)

-- Where a call was made, it is the first or the last one.
module _ (variant : Variant) (meaning : Meaning) where
  offer_made : (offer : Result (List ℕ) StoreFault) (middle new : HostStanding) (p : PendingRecord) (came : Result Resumed HostFault)
      (g : HostGoesAfterOffer variant meaning offer middle new p came) → MadeOf offer
      → requests_in (offered_calls variant meaning offer middle new p came g) ≡ p.request ∷ []
  offer_made (Ok bytes) middle new p came g m = refl
  offer_made (Err why) middle new p came g m = absurd m

  first_made : (found : Result (Option PendingRecord) StoreFault) (middle new : HostStanding) (came : Result Resumed HostFault)
      (g : HostGoesAfterFinding variant meaning found middle new came) → IsMade variant meaning found middle new came g
      → (p : PendingRecord) → found_record found ≡ Some p
      → requests_in (first_calls variant meaning found middle new came g) ≡ p.request ∷ []
  first_made (Ok (Some q)) middle new came g m p e =
      let same : q ≡ p = cc in
      let at : HostStanding = record middle { kept = g.middle } in
      subst (λ (x : PendingRecord). requests_in (offered_calls variant meaning g.offer at new q came g.goes) ≡ x.request ∷ []) same
      (offer_made g.offer at new q came g.goes m)
  first_made (Ok None) middle new came g m p e = absurd m
  first_made (Err why) middle new came g m p e = absurd m

  record_made : (recorded : Result Unit StoreFault) (middle new : HostStanding) (last : Resumed) (line : List ℕ)
      (came : Result Resumed HostFault) (g : HostGoesAfterRecord variant meaning recorded middle new last line came)
      → IsWritten recorded
      → requests_in (recorded_calls variant meaning recorded middle new last line came g) ≡ line ∷ []
  record_made (Ok it) middle new last line came g m = refl
  record_made (Err why) middle new last line came g m = absurd m

module _ (variant : Variant) (meaning : Meaning) (number : ℕ) (from : SessionPlace) (new : HostStanding) (left : Option (List ℕ))
    (bytes sent : List ℕ) where
  line_made : (result : Result Unit SessionFault) (l : ServesAllLines variant meaning number from new left bytes sent result)
      → IsLineAsked variant meaning (length l.calls + number) l.at new left l.more l.last (requests_in (last_calls result l)) result l.ends
  line_made (Err (Host fault)) l = λ m. (
    [],
    record_made variant meaning l.ends.asks.recorded (record l.at.host { kept = l.ends.asks.middle }) new l.at.last l.ends.line
        l.ends.came l.ends.asks.goes m,
  )
  line_made (Err (Lines WriteFault)) l = λ m. (
    [],
    record_made variant meaning l.ends.asks.recorded (record l.at.host { kept = l.ends.asks.middle }) new l.at.last l.ends.line
        l.ends.came l.ends.asks.goes m,
  )
  line_made _ l = tt

module _ {variant : Variant} {meaning : Meaning} {old new : SessionStanding} {result : Result Unit SessionFault}
    (s : IsSession variant meaning old new result) (waiting : Option PendingRecord) where
  abbrev Goes : Type 0
  Goes = SessionGoesAfterResume variant meaning s.begun s.middle (host_of new) new.left s.taken s.sent result

  all_made : (goes : Goes) → found_record s.resumes.waiting ≡ waiting
      → AreMade s waiting (served_lines (served_calls_in waiting goes) ++ requests_in (untold_calls s goes)) goes
  all_made (inl e) is = λ m p k. (
    [],
    first_made variant meaning s.resumes.waiting (found_host s) s.middle s.begun s.resumes.goes m p (is ∙ k),
  )
  all_made (inr g) is = (
    requests_in (untold_calls s (inr g)),
    refl,
    line_made variant meaning 1 (record { host = s.middle; last = g.first }) (host_of new) new.left s.taken g.replies result g.lines,
  )

module _ {all others : List (List ℕ)} {asked : List Batch} {i : Instance} {final : Standing} (laws : Laws all others asked i final)
    {before : Standing} {old new : StoreStanding} {left left' received received' : Option (List ℕ)} {result : Result Unit SessionFault}
    (s : IsSession i.variant i.meaning (session_standing before old left received) (session_standing final new left' received') result)
    (y : History) (slots : Slots)
    (told : old.slots ≡ Some slots) (honest : old.is_honest ≡ true) (stands : StandsFor i before y)
    (within : IsWithin all others asked i y) (fits : FitsHistory i slots y)
    (seen : Shows i.variant all others i y before final ⊎ AreStill laws y before (first_bytes s) (session_calls s)) where
  abbrev Went : Type 0
  Went = SessionGoesAfterResume i.variant i.meaning s.begun s.middle (host_standing final new) left' s.taken s.sent result

  abbrev OnBy : Went → Type 0
  OnBy goes =
      (c : ContinuesTo all others asked i y fits.waiting final new (served_calls_in fits.waiting goes) (IsInHand fits.waiting goes)
      (last_bytes_in goes) result)
      × SessionSteps i.meaning (requests_of y.batches) (served_calls_in (found_record s.resumes.waiting) goes)
      (IsInHand (found_record s.resumes.waiting) goes) (last_bytes_in goes) result (requests_of c.runs.after.batches)

  here : StandsIn all others asked i y y before (first_offer slots fits.waiting)
  here = record {
    stands = stands;
    within = within;
    genuine = fits_genuine i slots y fits.waiting fits.fits;
    same = same_self i.variant y;
  }

  -- what was asked goes on
  on_offers : AreListed all asked i (session_calls s) → first_bytes s ≡ first_offer slots fits.waiting
      → found_record s.resumes.waiting ≡ fits.waiting → OnBy s.goes
  on_offers listed is found =
      let untold : List LifeCall = untold_calls s s.goes in
      let k = subst (λ (bytes : List ℕ). Chain i.variant i.meaning bytes before final (served_calls_in fits.waiting s.goes)
      (IsInHandOf s) (last_bytes_in s.goes) untold result)
      is (subst (λ (w : Option PendingRecord). Chain i.variant i.meaning (first_bytes s) before final (served_calls_in w s.goes)
      (IsInHandOf s) (last_bytes_in s.goes) untold
      result) found (session_chain s)) in
      let l = subst (λ (bytes : List ℕ). AreListed all asked i (told_calls bytes (served_calls_in fits.waiting s.goes) ++ untold)) is
      (subst (λ (w : Option PendingRecord). AreListed all asked i (told_calls (first_bytes s) (served_calls_in w s.goes) ++ untold)) found
      listed) in
      let requests : List (List ℕ) = served_lines (served_calls_in fits.waiting s.goes) ++ requests_in untold in
      let follow : AreAskedStill laws y before (first_offer slots fits.waiting) requests = elim seen [
        | inl shows ↦ (
          asked_in_turn laws (served_calls_in fits.waiting s.goes) y y before k.at (first_offer slots fits.waiting)
              (IsInHandOf s) untold result
              k.calls k.ends here shows l,
          inl shows,
        )
        | inr still ↦
            asked_still laws y before (first_offer slots fits.waiting) (served_calls_in fits.waiting s.goes) (IsInHandOf s)
            untold result k here l
            (subst (λ (bytes : List ℕ). AreStill laws y before bytes (told_calls bytes (served_calls_in fits.waiting s.goes) ++ untold)) is
            (subst (λ (w : Option PendingRecord). AreStill laws y before (first_bytes s)
            (told_calls (first_bytes s) (served_calls_in w s.goes) ++ untold))
            found still))
      ] in
      let c = continues_by laws s y y slots fits.waiting told honest fits.is_waiting fits.fits requests here follow.1 follow.0
      (all_made s fits.waiting s.goes found) (λ p. p) in (
        c,
        subst (λ (w : Option PendingRecord). SessionSteps i.meaning (requests_of y.batches) (served_calls_in w s.goes)
            (IsInHand w s.goes) (last_bytes_in s.goes) result
            (requests_of c.runs.after.batches)) (sym found)
            (record {
              between = c.runs.requests;
              run = c.runs.run;
              committed = c.runs.committed;
              in_part = c.runs.in_part;
            }),
      )

  -- where nothing was, all is as before
  stored_refuses : (why : StoreFault) → RefusesAs {T = Unit} (Err (Host (store_fault_as why))) i.variant y
  stored_refuses fault.Memory = tt
  stored_refuses fault.Failed = tt

  none_told : (w : Option PendingRecord) → FitsBy i slots y w → AreToldOnce (total_of y.batches) w []
  none_told None f = tt
  none_told (Some p) f = tt

  on_rests : (goes : Went) → (kept : Bool) → kept ≡ true → Rests before s.middle slots kept s.begun → OnBy goes
  on_rests (inr g) kept e r =
      let clash : Ok g.first ≡ Err (store_fault_as r.why) = sym g.begins ∙ r.is in absurd (cc)
  on_rests (inl ended) kept e r = (
    record {
      runs = record {
        after = y;
        stands = subst (λ (x : Standing). StandsFor i x y) (sym (ap (λ (h : HostStanding). h.standing) ended.0 ∙ r.same)) stands;
        within = within;
        requests = requests_of y.batches;
        run = refl;
        committed = inl refl;
        in_part = λ w. absurd (nothing_out w);
        unspoiled = unspoiled i.variant others y within.sound within.outside;
        powered = λ p. p;
      };
      once = none_told fits.waiting fits.fits;
      room = fits_room i slots y fits;
      slots_after = slots;
      honest = ap (λ (h : HostStanding). h.kept.is_honest) ended.0 ∙ r.is_honest ∙ e;
      slots_told = ap (λ (h : HostStanding). h.kept.slots) ended.0 ∙ r.told;
      fits = λ n. fits;
      whole = λ n. fits;
      refuses = subst (λ (x : Result Unit SessionFault). RefusesAs x i.variant y) (sym ended.1.stops)
          (by_told (λ (f : SessionFault). RefusesAs {T = Unit} (Err f) i.variant y) s.begun s.sent ended.1.fault ended.1.says
          (λ (w : HostFault) (came : s.begun ≡ Err w).
          let same : store_fault_as r.why ≡ w = host_same s.begun (store_fault_as r.why) w r.is came in
          subst (λ (f : HostFault). RefusesAs {T = Unit} (Err (Host f)) i.variant y) same (stored_refuses r.why)) (λ n. tt));
    },
    record { between = requests_of y.batches; run = refl; committed = inl refl; in_part = λ w. absurd (nothing_out w) },
  )
    where
      nothing_out : result ≡ Err (Lines WriteFault) → ⊥
      nothing_out w =
          let is : ended.1.fault ≡ Lines WriteFault = cc (ended.1.stops) in
          store_untold r.why s.begun s.sent ended.1.fault r.is ended.1.says is

      host_same : (came : Result Resumed HostFault) (a b : HostFault) → came ≡ Err a → came ≡ Err b → a ≡ b
      host_same came a b e f = cc

  pub goes_on : AreListed all asked i (session_calls s) → OnBy s.goes
  goes_on listed =
      let r = s.resumes in
      let saw = saw_two slots r.finds.two old r.finds.middle r.middle r.waiting told r.finds.reads r.finds.goes in
      by_opens (saw.honest ∙ honest)
      (opens_by i.variant i.meaning slots fits.waiting r.waiting old (host_standing before r.middle) s.middle s.begun r.goes
      fits.is_waiting saw)
    where
      by_opens : s.resumes.middle.is_honest ≡ true → Opens i.variant i.meaning slots s.resumes.middle.is_honest fits.waiting
          s.resumes.waiting (host_standing before s.resumes.middle) s.middle s.begun s.resumes.goes → OnBy s.goes
      by_opens e (unasked rest) = on_rests s.goes s.resumes.middle.is_honest e rest
      by_opens e (offers is found) = on_offers listed is found
