-- A life of a client over an honest store, part after part: he is served once. With it: a client
-- who alone asks is served once, from a first start, in each variant.
use Rattle.std.specs.List.{AllByRecursion}
use Rattle.std.proofs.Common.{◌≡◌, ◌∙◌, ◌+◌, ◌≤◌, ℕ, true, List, [], ◌∷◌, ◌++◌, length, Option, Some, Err, refl, sym, ap, inl, arith, inr}
use Rattle.std.proofs.Common.{subst, None}
use Rattle.mm_life.specs.HonestLife.{AreNoChance, BeginsOver, GoesOnFrom, IsOverOneStore, store_at_end, store_behind}
use Rattle.mm_client.specs.ClientLife.{ClientMemory, Hearing, lines_to_give, memory_after, AreNoOthers, IsClientLife, IsClientPart, IsGiven}
use Rattle.mm_client.specs.ClientLife.{IsHeard, LeavesNoOther, IsServedFrom, PartMakesAll, memory_at, IsServedOnce}
use Rattle.mm_client.specs.Laws.{BasicClientsAreServedOnce, OptClientsAreServedOnce}
use Rattle.mm_client.proofs.Beginning.{begins}
use Rattle.mm_client.proofs.Below.{last_bytes_in, Batch, Variant, Meaning, IsUnbroken, last_position, Store, Standing, StoreStanding, Slots}
use Rattle.mm_client.proofs.Below.{PendingRecord, Instance, IsSession, ServedCall, host_of, Host, SessionGoesAfterResume, first_served_call}
use Rattle.mm_client.proofs.Below.{served_calls_in, IsInHand, found_record, AreToldOnce, IsNotBeyond, IsNextOrLast, WaitsInSlots}
use Rattle.mm_client.proofs.Below.{SessionSteps, reached_position, Does, Holds, IsLife, LifePart, LifeStage, PartLeads, Program, session_on}
use Rattle.mm_client.proofs.Below.{LeavesNoChance, PartGoesOn, One, History, requests_of, FitsBy, IsFirstStore, first_history_on}
use Rattle.mm_client.proofs.Below.{first_slots, is_first, requests-push, Basic, Opt, basic_instance, opt_instance, BasicLifeGoesOn}
use Rattle.mm_client.proofs.Below.{OptLifeGoesOn, IsGoneOnWith, clash_or, life_batches, life_messages, opt_messages, others_values}
use Rattle.mm_client.proofs.GoingOn as going
use Rattle.mm_client.proofs.OneSession.{Stands, same_waits, stopped}
use Rattle.mm_client.proofs.Trace.{resumed_so}

-- what stands behind a part, and whether all was made
pub record Behind (meaning : Meaning) (list : List (List ℕ)) (base : ℕ) (wanted : List (List ℕ)) (kept : StoreStanding) (part : LifePart)
    (after : List (List ℕ)) (m then_he : ClientMemory) : Type 0 where
  pub stands : Stands meaning list base kept.slots after then_he
  pub honest : kept.is_honest ≡ true
  pub makes : PartMakesAll base wanted list m part after

module _ (variant : Variant) (meaning : Meaning) (before wanted : List (List ℕ)) (unbroken : AllByRecursion IsUnbroken wanted)
    (start end : Standing) (p : Program) (s : IsSession variant meaning (session_on start p.old) (session_on end p.new) p.result)
    (w : Option PendingRecord) (waits_here : WaitsInSlots p.old.kept.slots w) (honest : p.old.kept.is_honest ≡ true)
    (requests after : List (List ℕ)) (waits : IsNextOrLast requests w) (room : length after ≤ last_position) (m : ClientMemory)
    (stands : Stands meaning (before ++ wanted) (length before) p.old.kept.slots requests m)
    (behind : (v : Option PendingRecord) → WaitsInSlots p.new.kept.slots v → IsNextOrLast after v) where
  abbrev pub Goes : Type 0
  Goes =
      SessionGoesAfterResume variant meaning s.begun s.middle (host_of (session_on end p.new)) p.new.left s.taken s.sent p.result

  -- what was told, by what waits in the slots
  pub told_same : (goes : Goes) → served_calls_in (found_record s.resumes.waiting) goes ≡ served_calls_in w goes
  told_same (inl e) = refl
  told_same (inr g) =
      let b = begins variant meaning (host_of (session_on start p.old)) s.middle s.begun g.first w s.resumes g.begins waits_here in
      ap (λ (x : Option PendingRecord). first_served_call x g.first ++ g.lines.calls) (ap found_record b.0)

  pub session_behind : (goes : Goes) (h : Hearing)
      → SessionSteps meaning requests (served_calls_in w goes) (IsInHand w goes) (last_bytes_in goes) p.result after
      → AreToldOnce (length requests) w (served_calls_in w goes) → IsGiven (lines_to_give (length before) wanted m) p.old.left
      → IsHeard (served_calls_in w goes) p.result h
      → (p.result ≡ Err (Host Store) → (slots : Slots) → p.new.kept.slots ≡ Some slots
      → IsNotBeyond slots (reached_position w (served_calls_in w goes) + 1))
      → (p.result ≡ Err (Host Store) → (q : PendingRecord) → WaitsInSlots p.new.kept.slots (Some q)
      → q.position ≡ reached_position w (served_calls_in w goes) + 1 → IsInHand w goes q.request)
      → Behind meaning (before ++ wanted) (length before) wanted p.new.kept (Holds p) after m (memory_after m h)
  session_behind (inl e) h steps once given heard chance other = record {
    stands = stopped s w waits_here honest requests steps.between after waits room before wanted m stands h e.0 e.1 heard behind steps.run
        steps.committed;
    honest =
        ap (λ (x : _). x.kept.is_honest) e.0
        ∙ (resumed_so 2 (omega arith) (omega arith) variant meaning (host_of (session_on start p.old)) s.middle s.begun honest
        s.resumes).honest
        ∙ honest;
    makes = λ sure whole ended. let is = e.1.stops in absurd (cc);
  }
  session_behind (inr g) h steps once given heard chance other = record {
    stands = going.goes_by s w waits_here honest requests steps.between after waits room before wanted unbroken m stands h g once
        steps.run steps.committed given heard chance other;
    honest = going.still_honest s w waits_here honest requests steps.between after waits room before wanted unbroken m stands h g once
        steps.run steps.committed given heard;
    makes = going.makes_all s w waits_here honest requests steps.between after waits room before wanted unbroken m stands h g once
        steps.run steps.committed given heard;
  }

module _ (all others : List (List ℕ)) (asked : List Batch) (i : Instance) (before wanted : List (List ℕ))
    (unbroken : AllByRecursion IsUnbroken wanted) where
  abbrev list : List (List ℕ)
  list = before ++ wanted

  stands_on : (slots slots' : Option Slots) (requests : List (List ℕ)) (m : ClientMemory) → slots' ≡ slots
      → Stands i.meaning list (length before) slots requests m → Stands i.meaning list (length before) slots' requests m
  stands_on slots slots' requests m e x =
      subst (λ (t : Option Slots). Stands i.meaning list (length before) t requests m) (sym e) x

  program_behind : (kept : StoreStanding) (old : Standing) (p : Program) (new : Standing)
      (s : PartLeads i.variant i.meaning old (Holds p) new)
      (requests between : List (List ℕ)) (m then_he : ClientMemory) → kept.is_honest ≡ true → BeginsOver kept (Holds p)
      → Stands i.meaning list (length before) kept.slots requests m
      → PartGoesOn all others asked i old (Holds p) new s requests between
      → IsClientPart (length before) wanted i.variant i.meaning old (Holds p) new s m then_he
      → LeavesNoChance i.variant i.meaning old (Holds p) new s → LeavesNoOther i.variant i.meaning old (Holds p) new s
      → ((v : Option PendingRecord) → WaitsInSlots p.new.kept.slots v → IsNextOrLast between v)
      → Behind i.meaning list (length before) wanted p.new.kept (Holds p) between m then_he
  program_behind kept old p new s requests between m then_he honest over stands goes c chance other behind =
      let w : Option PendingRecord = goes.0 in
      let waits_here : WaitsInSlots p.old.kept.slots w = goes.1 in
      let g = goes.2 in
      let told = told_same i.variant i.meaning before wanted unbroken old new p s w waits_here (over.0 ∙ honest) requests between g.waits
      g.room m (stands_on kept.slots p.old.kept.slots requests m over.1 stands) behind s.goes in
      let made = session_behind i.variant i.meaning before wanted unbroken old new p s w waits_here (over.0 ∙ honest) requests between
      g.waits g.room m (stands_on kept.slots p.old.kept.slots requests m over.1 stands) behind s.goes c.hearing g.steps g.once c.given
      (subst (λ (t : List ServedCall). IsHeard t p.result c.hearing) told c.heard) (λ failed. chance failed w waits_here)
      (λ failed. other failed w waits_here) in
      subst (λ (x : ClientMemory). Behind i.meaning list (length before) wanted p.new.kept (Holds p) between m x) (sym c.remembers) made

  -- what waits fits the requests, as the next program finds it, or by the end
  part_ahead : (kept : StoreStanding) (start : Standing) (part : LifePart) (next : Standing)
      (f : PartLeads i.variant i.meaning start part next) (requests between : List (List ℕ))
      → PartGoesOn all others asked i start part next f requests between → BeginsOver kept part
      → ((v : Option PendingRecord) → WaitsInSlots (store_behind kept part).slots v → IsNextOrLast between v)
      → (v : Option PendingRecord) → WaitsInSlots kept.slots v → IsNextOrLast requests v
  part_ahead kept start (Holds p) next f requests between goes over later v w =
      let same : v ≡ goes.0 = same_waits kept.slots v goes.0 w (subst (λ (t : Option Slots). WaitsInSlots t goes.0) over.1 goes.1) in
      subst (λ (x : Option PendingRecord). IsNextOrLast requests x) (sym same) goes.2.waits
  part_ahead kept start (Does deed) next f requests between goes over later v w =
      subst (λ (rs : List (List ℕ)). IsNextOrLast rs v) goes (later v w)

  pub fits_ahead : (stages : List LifeStage) (kept : StoreStanding) (start : Standing) (f : IsLife i.variant i.meaning start stages)
      (requests after : List (List ℕ)) → GoesOnFrom all others asked i start stages f requests after → IsOverOneStore kept stages
      → ((v : Option PendingRecord) → WaitsInSlots (store_at_end kept stages).slots v → IsNextOrLast after v)
      → (v : Option PendingRecord) → WaitsInSlots kept.slots v → IsNextOrLast requests v
  fits_ahead [] kept start f requests after goes over end v w = subst (λ (rs : List (List ℕ)). IsNextOrLast rs v) goes (end v w)
  fits_ahead (stage ∷ stages) kept start f requests after goes over end v w =
      part_ahead kept start stage.part stage.after f.0 requests goes.0 goes.1 over.0
      (fits_ahead stages (store_behind kept stage.part) stage.after f.1 goes.0 after goes.2 over.1 end) v w

  -- one part
  part_behind : (kept : StoreStanding) (old : Standing) (part : LifePart) (new : Standing)
      (f : PartLeads i.variant i.meaning old part new) (requests between : List (List ℕ)) (m then_he : ClientMemory)
      → kept.is_honest ≡ true → BeginsOver kept part → Stands i.meaning list (length before) kept.slots requests m
      → PartGoesOn all others asked i old part new f requests between
      → IsClientPart (length before) wanted i.variant i.meaning old part new f m then_he
      → LeavesNoChance i.variant i.meaning old part new f → LeavesNoOther i.variant i.meaning old part new f
      → ((v : Option PendingRecord) → WaitsInSlots (store_behind kept part).slots v → IsNextOrLast between v)
      → Behind i.meaning list (length before) wanted (store_behind kept part) part between m then_he
  part_behind kept old (Holds p) new f requests between m then_he honest over stands goes c chance other behind =
      program_behind kept old p new f requests between m then_he honest over stands goes c chance other behind
  part_behind kept old (Does deed) new f requests between m then_he honest over stands goes c chance other behind = record {
    stands = subst (λ (rs : List (List ℕ)). Stands i.meaning list (length before) kept.slots rs then_he) (sym goes)
        (subst (λ (x : ClientMemory). Stands i.meaning list (length before) kept.slots requests x) (sym c) stands);
    honest = honest;
    makes = tt;
  }

  -- a life
  pub served_from : (stages : List LifeStage) (kept : StoreStanding) (start : Standing) (f : IsLife i.variant i.meaning start stages)
      (m after : ClientMemory) (c : IsClientLife (length before) wanted i.variant i.meaning start stages f m after)
      (requests left : List (List ℕ)) → GoesOnFrom all others asked i start stages f requests left → IsOverOneStore kept stages
      → AreNoChance i.variant i.meaning start stages f → AreNoOthers i.variant i.meaning start stages f → kept.is_honest ≡ true
      → ((v : Option PendingRecord) → WaitsInSlots (store_at_end kept stages).slots v → IsNextOrLast left v)
      → Stands i.meaning list (length before) kept.slots requests m
      → IsServedFrom all others asked i (length before) before wanted start stages f m after c requests left
  served_from [] kept start f m after c requests left goes over chance other honest end stands = (goes, stands.moment)
  served_from (stage ∷ stages) kept start f m after c requests left goes over chance other honest end stands =
      let b = part_behind kept start stage.part stage.after f.0 requests goes.0 m c.0 honest over.0 stands goes.1 c.1 chance.0 other.0
      (fits_ahead stages (store_behind kept stage.part) stage.after f.1 goes.0 left goes.2 over.1 end) in (
        goes.0,
        stands.moment,
        goes.1,
        b.makes,
        served_from stages (store_behind kept stage.part) stage.after f.1 c.0 after c.2 goes.0 left goes.2 over.1 chance.1 other.1
            b.honest end b.stands,
      )

  -- from a position that is their number
  pub served_at : (base : ℕ) → base ≡ length before → (stages : List LifeStage) (kept : StoreStanding) (start : Standing)
      (f : IsLife i.variant i.meaning start stages)
      (m after : ClientMemory) (c : IsClientLife base wanted i.variant i.meaning start stages f m after)
      (requests left : List (List ℕ)) → GoesOnFrom all others asked i start stages f requests left → IsOverOneStore kept stages
      → AreNoChance i.variant i.meaning start stages f → AreNoOthers i.variant i.meaning start stages f → kept.is_honest ≡ true
      → ((v : Option PendingRecord) → WaitsInSlots (store_at_end kept stages).slots v → IsNextOrLast left v)
      → Stands i.meaning list (length before) kept.slots requests m
      → IsServedFrom all others asked i base before wanted start stages f m after c requests left
  served_at base e stages kept start f m after c requests left goes over chance other honest end stands =
      subst (λ (b : ℕ). (c : IsClientLife b wanted i.variant i.meaning start stages f m after)
      → IsServedFrom all others asked i b before wanted start stages f m after c requests left) (sym e)
      (λ d. served_from stages kept start f m after d requests left goes over chance other honest end stands) c

-- A client who alone asks is served once, from a first start, in each variant.

-- what waits is the next request or the last, where the slots fit a history

none_of : (requests : List (List ℕ)) → length requests ≡ 0 → requests ≡ []
none_of [] e = refl
none_of (x ∷ requests) e = absurd (omega (arith, e))

next_or_last : (i : Instance) (slots : Slots) (y : History) (waiting : Option PendingRecord) → FitsBy i slots y waiting
    → IsNextOrLast (requests_of y.batches) waiting
next_or_last i slots y None f = none_of (requests_of y.batches) f.0
next_or_last i slots y (Some p) (inl next, holds) = inl next
next_or_last i slots y (Some p) (inr last, holds) =
    inr (last.0, requests_of last.1.front, sym (requests-push last.1.front (One p.request)) ∙ ap requests_of last.1.is)

pub fits_end : {all others : List (List ℕ)} {asked : List Batch} {i : Instance} {kept : StoreStanding} {start : Standing}
    {stages : List LifeStage} {f : IsLife i.variant i.meaning start stages} (g : IsGoneOnWith all others asked i kept start stages f)
    (v : Option PendingRecord) → WaitsInSlots (store_at_end kept stages).slots v → IsNextOrLast g.after v
fits_end {i = i} {kept = kept} {stages = stages} g v w =
    let here : WaitsInSlots (store_at_end kept stages).slots g.fits.waiting =
    record { shown = g.left; told = g.told; is_waiting = g.fits.is_waiting } in
    let same : g.fits.waiting ≡ v = same_waits (store_at_end kept stages).slots g.fits.waiting v here w in
    subst (λ (rs : List (List ℕ)). IsNextOrLast rs v) g.holds
    (subst (λ (x : Option PendingRecord). IsNextOrLast (requests_of g.history.batches) x) same
    (next_or_last i g.left g.history g.fits.waiting g.fits.fits))

-- nothing waits at first
none_waits : (i : Instance) (y : History) (slots : Option Slots) → IsFirstStore i y → slots ≡ Some (first_slots i) → (p : PendingRecord)
    → WaitsInSlots slots (Some p) → ⊥
none_waits i y slots first told p w =
    let here : WaitsInSlots slots first.fits.waiting = record { shown = first_slots i; told = told; is_waiting = first.fits.is_waiting } in
    let same : None ≡ Some p = sym first.nothing_waits ∙ same_waits slots first.fits.waiting (Some p) here w in
    cc

stands_first : (i : Instance) (y : History) (slots : Option Slots) (wanted : List (List ℕ)) → IsFirstStore i y
    → slots ≡ Some (first_slots i)
    → Stands i.meaning wanted 0 slots [] (memory_at 0)
stands_first i y slots wanted first told = record {
  moment = record {
    later = wanted;
    first = refl;
    known = omega arith;
    sure = λ e. refl;
    replies = tt;
  };
  since = omega arith;
  next = λ p w at. absurd (none_waits i y slots first told p w);
  asked = λ sure p w at. none_waits i y slots first told p w;
}

module _ (all others : List (List ℕ)) (asked : List Batch) (i : Instance) (y : History) (first : IsFirstStore i y) (kept : StoreStanding)
    (start : Standing) (stages : List LifeStage) (f : IsLife i.variant i.meaning start stages) (wanted : List (List ℕ)) where
  served_by : IsGoneOnWith all others asked i kept start stages f → kept.is_honest ≡ true → kept.slots ≡ Some (first_slots i)
      → IsOverOneStore kept stages → AreNoChance i.variant i.meaning start stages f → AreNoOthers i.variant i.meaning start stages f
      → AllByRecursion IsUnbroken wanted → IsServedOnce all others asked i kept start stages f wanted
  served_by gone honest told over chance other unbroken = record {
    gone = gone;
    served = λ after c.
        served_at all others asked i [] wanted unbroken 0 refl stages kept start f (memory_at 0) after c [] gone.after gone.goes over chance
        other honest (fits_end gone)
        (stands_first i y kept.slots wanted first told);
  }

pub basic_served : BasicLifeGoesOn → BasicClientsAreServedOnce
basic_served law meaning lawful key start kept stages f wanted stands honest told over chance other unbroken =
    let i : Instance = basic_instance meaning key in
    elim (clash_or i (life_messages i start stages f) [] (life_batches i start stages f)) [
      | inl clash ↦ inr clash
      | inr fine ↦ inl (served_by (life_messages i start stages f) [] (life_batches i start stages f) i (first_history_on [])
          (is_first Basic meaning key i.barrier [] lawful) kept start stages f wanted
          (law meaning lawful key start kept stages f stands honest told over fine.0 chance) honest told over chance other unbroken)
    ]

pub opt_served : OptLifeGoesOn → OptClientsAreServedOnce
opt_served law meaning lawful key barrier values start kept stages f wanted stands honest told over chance other unbroken =
    let i : Instance = opt_instance meaning key barrier in
    elim (clash_or i (opt_messages i start stages f) (others_values i start stages f) (life_batches i start stages f)) [
      | inl clash ↦ inr clash
      | inr fine ↦ inl (served_by (opt_messages i start stages f) (others_values i start stages f) (life_batches i start stages f) i
          (first_history_on values) (is_first Opt meaning key barrier values lawful) kept start stages f wanted
          (law meaning lawful key barrier values start kept stages f stands honest told over fine.0 (fine.1 refl) chance) honest told over
          chance other unbroken)
    ]
