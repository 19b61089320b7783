-- A session leaves its store as honest as it was; and one that stops as it begins leaves what
-- waits. With it: a life in which a client's sessions are killed is one of his in which they ended;
-- a client is served once though his sessions are killed, in each variant.
use Rattle.std.proofs.Common.{◌≡◌, ◌∙◌, ◌<◌, ◌%◌, ℕ, true, List, [], ◌∷◌, Option, None, Some, Result, Ok, Err, sym, ap, inl, inr, subst}
use Rattle.std.proofs.Common.{arith, ◌+◌, length, refl, ◌++◌}
use Rattle.std.proofs.lemmas.Bool.Decides.{nat_tests}
use Rattle.mm_base.specs.declared.replay_fault.ReplayFault.TheVariants as replay
use Rattle.mm_digest.specs.declared.variant.Variant.{Variant}
use Rattle.mm_digest.specs.declared.variant.Variant.TheVariants.{Basic, Opt}
use Rattle.mm_platform.specs.Standing.{Standing}
use Rattle.mm_module.specs.Batch.{Batch}
use Rattle.mm_module.specs.Meaning.{Meaning, IsLawful}
use Rattle.mm_model.specs.Chains.{Instance, basic_instance, opt_instance}
use Rattle.mm_model.specs.declared.answer.Answer.{Answer}
use Rattle.mm_model.specs.declared.refusal.Refusal.{Refusal}
use Rattle.mm_evidence.specs.Evidence.{HasClash}
use Rattle.mm_store.specs.PendingRecord.{PendingRecord}
use Rattle.mm_store.specs.StoreStanding.{LeavesInSlot, slots_with_bytes, Slots, slot_front, slots_with, StoreStanding}
use Rattle.mm_store.specs.declared.fault.StoreFault.{StoreFault}
use Rattle.mm_store.specs.declared.fault.StoreFault.TheVariants as fault
use Rattle.mm_recovery.specs.HostStanding.{HostStanding, AsksNextRequest, HostGoesAfterRecord, HostGoesAfterAsk, HostGoesAfterFinding}
use Rattle.mm_recovery.specs.HostStanding.{HostGoesAfterOffer, HostGoesAfterTwo, HostResumes, IsWaiting, host_standing}
use Rattle.mm_recovery.specs.declared.fault.HostFault.{HostFault}
use Rattle.mm_recovery.specs.declared.fault.HostFault.TheVariants.{Store}
use Rattle.mm_recovery.specs.declared.resuming.Resumed.{Resumed}
use Rattle.mm_recovery.specs.declared.resuming.Resumed.TheVariants.{Answered}
use Rattle.mm_recovery.proofs.Above.{one_waiting}
use Rattle.mm_host.specs.Continuation.{IsInHand, served_calls_in}
use Rattle.mm_host.specs.Sessions.{SessionStanding, host_of, IsSession, ServedCall, ServesCalls, SessionGoesAfterResume, SessionPlace}
use Rattle.mm_host.specs.Sessions.{TurnGoes, turn_answer_of, BytesBeginWith}
use Rattle.mm_host.specs.declared.fault.SessionFault.{SessionFault}
use Rattle.mm_host.specs.declared.fault.SessionFault.TheVariants.{Host, Lines}
use Rattle.mm_life.specs.Deeds.{found_record}
use Rattle.mm_life.specs.HonestLife.{WaitsInSlots, reached_position}
use Rattle.mm_life.specs.Premises.{call_batches, call_messages}
use Rattle.mm_life.specs.Stages.{Does, Holds, session_on}
use Rattle.mm_moments.specs.MortalLaws.{IsMortalOverOneStore, MortalBeginsOver, mortal_store_behind}
use Rattle.mm_moments.specs.MortalLives.{SessionStopsAnywhere, Dies, IsMortalLife, LifeEnds, Lives, MortalPart, MortalPartLeads}
use Rattle.mm_moments.specs.MortalLives.{MortalStage, PartEnds, ended_life, ended_stages, mortal_calls}
use Rattle.mm_moments.proofs.Above.{fault_same, life_ends, part_ends, served_same, ended, life, no_chance, over_one_store, to_mortal}
use Rattle.mm_client.specs.ClientLife.{AreNoOthers, IsClientLife, IsClientPart, LeavesNoOther, replies_of, ClientMemory, IsServedFrom}
use Rattle.mm_client.specs.ClientLife.{memory_at, IsServedOnce}
use Rattle.mm_client.specs.Laws.{BasicClientsAreServedOnce, OptClientsAreServedOnce}
use Rattle.mm_mortal_clients.specs.MortalClient.{AreMortalNoOthers, IsMortalClientLife, IsMortalClientPart, MortalLeavesNoOther}
use Rattle.mm_mortal_clients.specs.MortalClient.{IsMortalServedFrom, BasicMortalClientsAreServedOnce, OptMortalClientsAreServedOnce}
use Rattle.mm_mortal_clients.specs.MortalClient.{IsMortalServedOnce}

-- The store is as honest.

same_store : (old new : StoreStanding) → new ≡ old → new.is_honest ≡ old.is_honest
same_store old new e = ap (λ (s : StoreStanding). s.is_honest) e

same_host : (old new : HostStanding) → new ≡ old → new.kept.is_honest ≡ old.kept.is_honest
same_host old new e = ap (λ (h : HostStanding). h.kept.is_honest) e

ask_honest : (asked : Result Answer Refusal) (old new : StoreStanding) (came : Result Resumed HostFault)
    → HostGoesAfterAsk asked old new came → new.is_honest ≡ old.is_honest
ask_honest (Err why) old new came g = same_store old new g.0
ask_honest (Ok answer) old new came g = g.writes.honest

two_honest : (two : Result (List ℕ) StoreFault) (old new : StoreStanding) (result : Result (Option PendingRecord) StoreFault)
    → HostGoesAfterTwo two old new result → new.is_honest ≡ old.is_honest
two_honest (Err why) old new result g = same_store old new g.0
two_honest (Ok two) old new result g = g.reads.honest

module _ (variant : Variant) (meaning : Meaning) where
  offer_honest : (offer : Result (List ℕ) StoreFault) (middle new : HostStanding) (p : PendingRecord) (came : Result Resumed HostFault)
      → HostGoesAfterOffer variant meaning offer middle new p came → new.kept.is_honest ≡ middle.kept.is_honest
  offer_honest (Err why) middle new p came g = same_host middle new g.0
  offer_honest (Ok offer) middle new p came g = ask_honest g.asked middle.kept new.kept came g.goes

  found_honest : (waiting : Result (Option PendingRecord) StoreFault) (middle new : HostStanding) (came : Result Resumed HostFault)
      → HostGoesAfterFinding variant meaning waiting middle new came → new.kept.is_honest ≡ middle.kept.is_honest
  found_honest (Err why) middle new came g = same_host middle new g.0
  found_honest (Ok None) middle new came g = g.1.reads.honest
  found_honest (Ok (Some p)) middle new came g =
      offer_honest g.offer (record middle { kept = g.middle }) new p came g.goes ∙ g.reads.honest

  finds_honest : (old new : HostStanding) (came : Result Resumed HostFault) (r : HostResumes variant meaning old new came)
      → r.middle.is_honest ≡ old.kept.is_honest
  finds_honest old new came r = two_honest r.finds.two r.finds.middle r.middle r.waiting r.finds.goes ∙ r.finds.reads.honest

  resumed_honest : (old new : HostStanding) (came : Result Resumed HostFault) → HostResumes variant meaning old new came
      → new.kept.is_honest ≡ old.kept.is_honest
  resumed_honest old new came r =
      found_honest r.waiting (record old { kept = r.middle }) new came r.goes ∙ finds_honest old new came r

  recorded_honest : (recorded : Result Unit StoreFault) (middle new : HostStanding) (last : Resumed) (line : List ℕ)
      (came : Result Resumed HostFault) → HostGoesAfterRecord variant meaning recorded middle new last line came
      → new.kept.is_honest ≡ middle.kept.is_honest
  recorded_honest (Err why) middle new last line came g = same_host middle new g.0
  recorded_honest (Ok it) middle new last line came g = ask_honest g.asked middle.kept new.kept came g.goes

  line_honest : (old new : HostStanding) (last : Resumed) (line : List ℕ) (came : Result Resumed HostFault)
      → AsksNextRequest variant meaning old new last line came → new.kept.is_honest ≡ old.kept.is_honest
  line_honest old new last line came a =
      recorded_honest a.recorded (record old { kept = a.middle }) new last line came a.goes ∙ a.records.honest

  calls_honest : (calls : List ServedCall) (from to : SessionPlace) → ServesCalls variant meaning from calls to
      → to.host.kept.is_honest ≡ from.host.kept.is_honest
  calls_honest [] from to s = ap (λ (p : SessionPlace). p.host.kept.is_honest) s
  calls_honest (c ∷ calls) from to s =
      calls_honest calls (record { host = s.host; last = Answered c.answer }) to s.rest
      ∙ line_honest from.host s.host from.last c.line (Ok (Answered c.answer)) s.asks

  ends_honest : (number : ℕ) (at : SessionPlace) (new : HostStanding) (left : Option (List ℕ)) (more last : List ℕ)
      (result : Result Unit SessionFault) → TurnGoes variant meaning number at new left more [] last (turn_answer_of result)
      → new.kept.is_honest ≡ at.host.kept.is_honest
  ends_honest number at new left more last (Ok it) e = same_host at.host new e.0.still
  ends_honest number at new left more last (Err (Host why)) e = line_honest at.host new at.last e.line e.came e.asks
  ends_honest number at new left more last (Err (Lines replay.WriteFault)) e = line_honest at.host new at.last e.line e.came e.asks
  ends_honest number at new left more last (Err (Lines replay.Memory)) e = absurd e
  ends_honest number at new left more last (Err (Lines replay.ReadFault)) e = same_host at.host new e.0.still
  ends_honest number at new left more last (Err (Lines (replay.BadLine line))) e = same_host at.host new e.0.still
  ends_honest number at new left more last (Err (Lines (replay.LineLong line))) e = same_host at.host new e.0.still
  ends_honest number at new left more last (Err (Lines replay.TooMuch)) e = same_host at.host new e.0.still

  pub session_honest : (old new : SessionStanding) (result : Result Unit SessionFault) → IsSession variant meaning old new result
      → new.kept.is_honest ≡ old.kept.is_honest
  session_honest old new result s = by_end s.goes ∙ resumed_honest (host_of old) s.middle s.begun s.resumes
    where
      by_end : SessionGoesAfterResume variant meaning s.begun s.middle (host_of new) new.left s.taken s.sent result
          → new.kept.is_honest ≡ s.middle.kept.is_honest
      by_end (inl e) = same_host s.middle (host_of new) e.0
      by_end (inr g) =
          let l = g.lines in
          ends_honest _ l.at (host_of new) new.left l.more l.last result l.ends
          ∙ calls_honest l.calls (record { host = s.middle; last = g.first }) l.at l.serves

-- What waits is the same.

unwritten : (slots : Slots) (bytes : List ℕ) (n m : ℕ) → n < 4 → m < 4 → (n ≡ m → ⊥)
    → slot_front (slots_with slots n bytes) m ≡ slot_front slots m
unwritten slots bytes n m small least unless = grind (arith, nat_tests, small, least, unless)

pub same_waits : (slots : Option Slots) (v w : Option PendingRecord) → WaitsInSlots slots v → WaitsInSlots slots w → v ≡ w
same_waits slots v w a b =
    let told : Some a.shown ≡ Some b.shown = sym a.told ∙ b.told in
    let same : a.shown ≡ b.shown = cc in
    one_waiting (slot_front b.shown 2) (slot_front b.shown 3) v w
    (subst (λ (s : Slots). IsWaiting (slot_front s 2) (slot_front s 3) v) same a.is_waiting) b.is_waiting

module _ (w : Option PendingRecord) where
  moved : (old new : Option Slots) → new ≡ old → WaitsInSlots old w → WaitsInSlots new w
  moved old new e h = subst (λ (s : Option Slots). WaitsInSlots s w) (sym e) h

  put : (n : ℕ) (bytes : List ℕ) (old new : Option Slots) → n < 2 → new ≡ slots_with_bytes n bytes old → WaitsInSlots old w
      → WaitsInSlots new w
  put n bytes old new small is h =
      let two = unwritten h.shown bytes n 2 (omega (arith, small)) (omega arith) (λ e. omega (arith, small, e)) in
      let three = unwritten h.shown bytes n 3 (omega (arith, small)) (omega arith) (λ e. omega (arith, small, e)) in
      record {
        shown = slots_with h.shown n bytes;
        told = is ∙ ap (λ (s : Option Slots). slots_with_bytes n bytes s) h.told;
        is_waiting = subst (λ (x : List ℕ). IsWaiting x (slot_front (slots_with h.shown n bytes) 3) w) (sym two)
            (subst (λ (x : List ℕ). IsWaiting (slot_front h.shown 2) x w) (sym three) h.is_waiting);
      }

  written : (n : ℕ) (bytes : List ℕ) (old new : Option Slots) (result : Result Unit StoreFault) → n < 2
      → LeavesInSlot n bytes old new result → WaitsInSlots old w → WaitsInSlots new w
  written n bytes old new (Ok it) small left h = put n bytes old new small left h
  written n bytes old new (Err fault.Memory) small left h = moved old new left h
  written n bytes old new (Err fault.Failed) small left h = put n left.0 old new small left.1 h

  ask_waits : (asked : Result Answer Refusal) (old new : StoreStanding) (came : Result Resumed HostFault) → old.is_honest ≡ true
      → HostGoesAfterAsk asked old new came → WaitsInSlots old.slots w → WaitsInSlots new.slots w
  ask_waits (Err why) old new came honest g h = moved old.slots new.slots (ap (λ (s : StoreStanding). s.slots) g.0) h
  ask_waits (Ok answer) old new came honest g h =
      written (answer.position % 2) answer.snapshot old.slots new.slots g.written (omega arith) (g.writes.leaves honest) h

  two_waits : (two : Result (List ℕ) StoreFault) (old new : StoreStanding) (result : Result (Option PendingRecord) StoreFault)
      → HostGoesAfterTwo two old new result → WaitsInSlots old.slots w → WaitsInSlots new.slots w
  two_waits (Err why) old new result g h = moved old.slots new.slots (ap (λ (s : StoreStanding). s.slots) g.0) h
  two_waits (Ok two) old new result g h = moved old.slots new.slots g.reads.slots h

  module _ (variant : Variant) (meaning : Meaning) where
    offer_waits : (offer : Result (List ℕ) StoreFault) (middle new : HostStanding) (p : PendingRecord) (came : Result Resumed HostFault)
        → middle.kept.is_honest ≡ true → HostGoesAfterOffer variant meaning offer middle new p came → WaitsInSlots middle.kept.slots w
        → WaitsInSlots new.kept.slots w
    offer_waits (Err why) middle new p came honest g h =
        moved middle.kept.slots new.kept.slots (ap (λ (s : HostStanding). s.kept.slots) g.0) h
    offer_waits (Ok offer) middle new p came honest g h = ask_waits g.asked middle.kept new.kept came honest g.goes h

    found_waits : (waiting : Result (Option PendingRecord) StoreFault) (middle new : HostStanding) (came : Result Resumed HostFault)
        → middle.kept.is_honest ≡ true → HostGoesAfterFinding variant meaning waiting middle new came → WaitsInSlots middle.kept.slots w
        → WaitsInSlots new.kept.slots w
    found_waits (Err why) middle new came honest g h =
        moved middle.kept.slots new.kept.slots (ap (λ (s : HostStanding). s.kept.slots) g.0) h
    found_waits (Ok None) middle new came honest g h = moved middle.kept.slots new.kept.slots g.1.reads.slots h
    found_waits (Ok (Some p)) middle new came honest g h =
        offer_waits g.offer (record middle { kept = g.middle }) new p came (g.reads.honest ∙ honest) g.goes
        (moved middle.kept.slots g.middle.slots g.reads.slots h)

    pub resumed_waits : (old new : HostStanding) (came : Result Resumed HostFault) → old.kept.is_honest ≡ true
        → HostResumes variant meaning old new came → WaitsInSlots old.kept.slots w → WaitsInSlots new.kept.slots w
    resumed_waits old new came honest r h =
        found_waits r.waiting (record old { kept = r.middle }) new came (finds_honest variant meaning old new came r ∙ honest) r.goes
        (two_waits r.finds.two r.finds.middle r.middle r.waiting r.finds.goes
        (moved old.kept.slots r.finds.middle.slots r.finds.reads.slots h))

-- A life in which a client's sessions are killed is one of his in which they ended.

-- Where the store failed, a line is in hand, or nothing was written to the slots of records.
module _ {variant : Variant} {meaning : Meaning} {old new : SessionStanding} {result : Result Unit SessionFault}
    (s : IsSession variant meaning old new result) (waiting : Option PendingRecord) (w : WaitsInSlots old.kept.slots waiting)
    (honest : old.kept.is_honest ≡ true) (failed : result ≡ Err (Host Store)) (next : PendingRecord)
    (later : WaitsInSlots new.kept.slots (Some next)) (hand : Option (List ℕ)) (is : hand ≡ Some next.request) where
  abbrev Goes : Type 0
  Goes = SessionGoesAfterResume variant meaning s.begun s.middle (host_of new) new.left s.taken s.sent result

  held_by : (line : List ℕ) → hand ≡ Some line → line ≡ next.request
  held_by line e = let same : Some line ≡ Some next.request = sym e ∙ is in cc

  next_in_hand : (goes : Goes) → ((request : List ℕ) → IsInHand (found_record s.resumes.waiting) goes request → hand ≡ Some request)
      → IsInHand waiting goes next.request
  next_in_hand (inl e) told =
      let same : waiting ≡ Some next = same_waits new.kept.slots waiting (Some next)
      (subst (λ (x : HostStanding). WaitsInSlots x.kept.slots waiting) (sym e.0)
      (resumed_waits waiting variant meaning (host_of old) s.middle s.begun honest s.resumes w)) later in
      (next, same, refl)
  next_in_hand (inr g) told =
      let l = g.lines in
      let e = subst (λ (r : Result Unit SessionFault).
      TurnGoes variant meaning (length l.calls + 1) l.at (host_of new) new.left l.more [] l.last (turn_answer_of r)) failed l.ends in
      (e.held, subst (λ (line : List ℕ). BytesBeginWith l.more line e.held) (held_by e.line (told e.line (e.held, e.begins))) e.begins)

module _ (stops_anywhere : SessionStopsAnywhere) (variant : Variant) (meaning : Meaning) (lawful : IsLawful meaning) where
  abbrev part_end : (old : Standing) (part : MortalPart) (new : Standing) (f : MortalPartLeads variant meaning old part new)
      → PartEnds variant meaning old part new f
  part_end old part new f = part_ends stops_anywhere variant meaning lawful old part new f

  abbrev end : (start : Standing) (stages : List MortalStage) (f : IsMortalLife variant meaning start stages)
      → LifeEnds variant meaning start stages f
  end start stages f = life_ends stops_anywhere variant meaning lawful start stages f

  -- what he heard of a session that was killed he heard of one that ended
  module _ (base : ℕ) (wanted : List (List ℕ)) where
    client_part : (old : Standing) (part : MortalPart) (new : Standing) (f : MortalPartLeads variant meaning old part new)
        (before after : ClientMemory) → IsMortalClientPart base wanted variant meaning old part new f before after
        → IsClientPart base wanted variant meaning old (part_end old part new f).ended new (part_end old part new f).leads before after
    unfolding part_ends
    client_part old (Lives part) new f before after c = c
    client_part old (Dies p) new k before after c =
        let s = stops_anywhere variant meaning lawful (session_on old p.old) (host_standing new p.kept) p.received k in record {
          given = c.given;
          hearing = c.hearing;
          heard = record {
            lost = c.heard.lost;
            front = c.heard.front ∙ ap replies_of (sym s.told);
            whole = λ whole. let cut = c.heard.cut in absurd (cc);
          };
          remembers = c.remembers;
        }

    pub client_life : (start : Standing) (stages : List MortalStage) (f : IsMortalLife variant meaning start stages)
        (before after : ClientMemory) → IsMortalClientLife base wanted variant meaning start stages f before after
        → IsClientLife base wanted variant meaning start (ended_stages variant meaning start stages f (end start stages f))
        (ended_life variant meaning start stages f (end start stages f)) before after
    unfolding life_ends
    client_life start [] f before after c = c
    client_life start (stage ∷ stages) f before after c = (
      c.0,
      client_part start stage.part stage.after f.0 before c.0 c.1,
      client_life stage.after stages f.1 c.0 after c.2,
    )

  -- the store of each part is honest
  honest_behind : (kept : StoreStanding) (old : Standing) (part : MortalPart) (new : Standing)
      → MortalPartLeads variant meaning old part new → kept.is_honest ≡ true → MortalBeginsOver kept part
      → (mortal_store_behind kept part).is_honest ≡ true
  honest_behind kept old (Lives (Holds p)) new f honest over =
      session_honest variant meaning (session_on old p.old) (session_on new p.new) p.result f ∙ over.0 ∙ honest
  honest_behind kept old (Lives (Does deed)) new f honest over = honest
  honest_behind kept old (Dies p) new k honest over =
      let s = stops_anywhere variant meaning lawful (session_on old p.old) (host_standing new p.kept) p.received k in
      session_honest variant meaning (session_on old p.old) _ (Err s.fault) s.stops ∙ over.0 ∙ honest

  no_other : (kept : StoreStanding) (old : Standing) (part : MortalPart) (new : Standing)
      (f : MortalPartLeads variant meaning old part new) → kept.is_honest ≡ true → MortalBeginsOver kept part
      → MortalLeavesNoOther variant meaning old part new f
      → LeavesNoOther variant meaning old (part_end old part new f).ended new (part_end old part new f).leads
  unfolding part_ends
  no_other kept old (Lives part) new f honest over none = none
  no_other kept old (Dies p) new k honest over none =
      let s = stops_anywhere variant meaning lawful (session_on old p.old) (host_standing new p.kept) p.received k in
      λ failed waiting w next later at.
      let told : served_calls_in waiting s.stops.goes ≡ k.moment.told = served_same s.stops waiting w s.stops.goes ∙ s.told in
      let hand : k.moment.hand ≡ Some next.request =
      none (s.stored (fault_same s.fault (Host Store) failed)) waiting w next later
      (at ∙ ap (λ (x : List ServedCall). reached_position waiting x + 1) told) in
      next_in_hand s.stops waiting w (over.0 ∙ honest) failed next later k.moment.hand hand s.stops.goes s.hand

  pub no_others : (kept : StoreStanding) (start : Standing) (stages : List MortalStage)
      (f : IsMortalLife variant meaning start stages) → kept.is_honest ≡ true → IsMortalOverOneStore kept stages
      → AreMortalNoOthers variant meaning start stages f
      → AreNoOthers variant meaning start (ended_stages variant meaning start stages f (end start stages f))
      (ended_life variant meaning start stages f (end start stages f))
  unfolding life_ends
  no_others kept start [] f honest over none = tt
  no_others kept start (stage ∷ stages) f honest over none = (
    no_other kept start stage.part stage.after f.0 honest over.0 none.0,
    no_others (mortal_store_behind kept stage.part) stage.after stages f.1
        (honest_behind kept start stage.part stage.after f.0 honest over.0) over.1 none.1,
  )

-- so it is of him, as it is of the client whose sessions ended
module _ (stops_anywhere : SessionStopsAnywhere) (i : Instance) (lawful : IsLawful i.meaning) (all others : List (List ℕ))
    (asked : List Batch) (wanted : List (List ℕ)) where
  abbrev ends : (start : Standing) (stages : List MortalStage) (f : IsMortalLife i.variant i.meaning start stages)
      → LifeEnds i.variant i.meaning start stages f
  ends start stages f = life_ends stops_anywhere i.variant i.meaning lawful start stages f

  pub mortal_served : (start : Standing) (stages : List MortalStage) (f : IsMortalLife i.variant i.meaning start stages)
      (m after : ClientMemory) (c : IsMortalClientLife 0 wanted i.variant i.meaning start stages f m after) (requests left : List (List ℕ))
      → IsServedFrom all others asked i 0 [] wanted start (ended_stages i.variant i.meaning start stages f (ends start stages f))
      (ended_life i.variant i.meaning start stages f (ends start stages f)) m after
      (client_life stops_anywhere i.variant i.meaning lawful 0 wanted start stages f m after c) requests left
      → IsMortalServedFrom all others asked i wanted start stages f (ends start stages f) m after c requests left
  unfolding life_ends client_life
  mortal_served start [] f m after c requests left s = s
  mortal_served start (stage ∷ stages) f m after c requests left s = (
    s.0,
    s.1,
    s.2,
    s.3,
    mortal_served stage.after stages f.1 c.0 after c.2 s.0 left s.4,
  )

-- A client is served once though his sessions are killed, in each variant.

module _ (stops : SessionStopsAnywhere) (i : Instance) (lawful : IsLawful i.meaning) (all others : List (List ℕ)) (kept : StoreStanding)
    (start : Standing) (stages : List MortalStage) (f : IsMortalLife i.variant i.meaning start stages) (wanted : List (List ℕ)) where
  by_ended : (let e = life_ends stops i.variant i.meaning lawful start stages f in
      IsServedOnce all others (call_batches (mortal_calls i.variant i.meaning start stages f)) i kept start (ended i start stages f e)
      (life i start stages f e) wanted → IsMortalServedOnce all others i kept start stages f wanted)
  by_ended once = record {
    ends = life_ends stops i.variant i.meaning lawful start stages f;
    gone = once.gone;
    served = λ after c.
        mortal_served stops i lawful all others (call_batches (mortal_calls i.variant i.meaning start stages f)) wanted start stages f
        (memory_at 0) after c [] once.gone.after
        (once.served after (client_life stops i.variant i.meaning lawful 0 wanted start stages f (memory_at 0) after c));
  }

pub basic_served : SessionStopsAnywhere → BasicClientsAreServedOnce → BasicMortalClientsAreServedOnce
basic_served stops law meaning lawful key start kept stages f wanted stands honest told over chance other unbroken =
    let i : Instance = basic_instance meaning key in
    let e = life_ends stops Basic meaning lawful start stages f in
    elim (law meaning lawful key start kept (ended i start stages f e) (life i start stages f e) wanted stands honest told
    (over_one_store Basic meaning kept start stages f e over) (no_chance Basic meaning start stages f e chance)
    (no_others stops Basic meaning lawful kept start stages f honest over other) unbroken) [
      | inl once ↦ inl (by_ended stops i lawful _ [] kept start stages f wanted
          (to_mortal i start stages f e (λ calls messages others. IsServedOnce (call_messages i calls) [] (call_batches calls) i kept start
          (ended i start stages f e) (life i start stages f e) wanted) once))
      | inr clash ↦ inr (to_mortal i start stages f e
          (λ calls messages others. HasClash i (call_messages i calls) [] (call_batches calls)) clash)
    ]

pub opt_served : SessionStopsAnywhere → OptClientsAreServedOnce → OptMortalClientsAreServedOnce
opt_served stops law meaning lawful key barrier values start kept stages f wanted stands honest told over chance other unbroken =
    let i : Instance = opt_instance meaning key barrier in
    let e = life_ends stops Opt meaning lawful start stages f in
    elim (law meaning lawful key barrier values start kept (ended i start stages f e) (life i start stages f e) wanted stands honest told
    (over_one_store Opt meaning kept start stages f e over) (no_chance Opt meaning start stages f e chance)
    (no_others stops Opt meaning lawful kept start stages f honest over other) unbroken) [
      | inl once ↦ inl (by_ended stops i lawful _ _ kept start stages f wanted
          (to_mortal i start stages f e (λ calls messages others. IsServedOnce (call_messages i calls ++ messages) others
          (call_batches calls) i kept start (ended i start stages f e) (life i start stages f e) wanted) once))
      | inr clash ↦ inr (to_mortal i start stages f e
          (λ calls messages others. HasClash i (call_messages i calls ++ messages) others (call_batches calls)) clash)
    ]
