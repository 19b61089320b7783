-- What `run` tells of what the cell, the register and the slots held.
use Rattle.mm_app.proofs.Below.{◌≡◌, ◌∙◌, ℕ, Bool, true, false, List, [], Option, None, Some, Result, Ok, Err, refl, sym, ap, subst, ◌⊎◌}
use Rattle.mm_app.proofs.Below.{inl, inr, arith, Held, CellFault, Run, CommandDoes, Outside, Standing, Status, StepFault, FindsInstance}
use Rattle.mm_app.proofs.Below.{found_header, found_instance, Header, Instance, Refusal, ServesAndStops, ServesIfFound, session_status}
use Rattle.mm_app.proofs.Below.{SessionFault, AnyModule, meaning_of, module_of_id, ReplayFault}
use Rattle.std.specs.Prelude.{◌≢◌, IsSome}
use Rattle.mm_call.specs.CallFinding.{finding_at, digest_level, fault_of}
use Rattle.mm_call.specs.TellingLaws.{read_untouched}
use Rattle.mm_call.specs.Standing.{StandsAt}
use Rattle.mm_host.proofs.Above.{chain_ends, chain_of, lost_shown, next_in_hand, refused_as_offer, shown_lost, some_chain}
use Rattle.mm_host.specs.AnySlots.{offer_after, EndsAt, IsNext, IsOfOffer}
use Rattle.mm_host.specs.Continuation.{IsInHand, served_calls_in}
use Rattle.mm_host.specs.Sessions.{IsSession, ServedCall, told_cause}
use Rattle.mm_host.specs.declared.fault.SessionFault.TheVariants as session
use Rattle.mm_model.specs.Moves.{Digests}
use Rattle.mm_model.specs.declared.refusal.Refusal.TheVariants as refusal
use Rattle.mm_module.specs.Batch.{One}
use Rattle.mm_platform.specs.Standing.{StepGoes, ReadCell}
use Rattle.mm_recovery.specs.HostStanding.{first_offer, IsWaiting}
use Rattle.mm_recovery.specs.declared.fault.HostFault.TheVariants as host
use Rattle.mm_seal.specs.Cell.{blank_cell, ReadsCell, SpellsCell}
use Rattle.mm_seal.specs.CellLaws.{reads_cell-same}
use Rattle.mm_seal.specs.declared.cell.CellFault.TheVariants as unheld
use Rattle.mm_store.specs.PendingRecord.{PendingRecord}
use Rattle.mm_store.specs.StoreStanding.{Slots, slot_front}
use Rattle.mm_host_commands.specs.Outside.{session_of}
use Rattle.mm_app.specs.StatusFacts.{AsksFirst, AsksNext, HasLostPower, instance_of, IsExactlyAt, RefusesAt, RefusesFirst, RefusesNext}
use Rattle.mm_app.specs.StatusFacts.{TellsNothing, CantRead, EndsByFault, IsExactlyWhere, IsVisible}
use Rattle.mm_host_commands.specs.Run.{refusal_status}
use Rattle.mm_status.specs.Status.{status_at}
use Rattle.mm_status.specs.declared.status.Status.TheVariants.{Already, Blank, Cell, Kind, Lost, Refused, Short}
use Rattle.mm_app.proofs.Holding.{cause_told, loss_held, loss_shown, lost_always, refused_always, StandsFirst, stands_first, exactly_here}
use Rattle.mm_app.proofs.Holding.{fault_holding, Holding, nowhere, nowhere_at, RunLost, RunRefused, tells_held}
use Rattle.mm_app.proofs.Completing.{untold_session}

-- What a session's status tells.

lines_unheld : (fault : ReplayFault) → tells_held (status_at fault) ≡ false
lines_unheld fault = grind arith

held_refusal : (answer : Result (Unit {0}) SessionFault) (end : Status) → session_status answer ≡ end → tells_held end ≡ true
    → (why : Refusal) × (answer ≡ Err (session.Host (host.Refused why))) × (refusal_status why ≡ end)
held_refusal (Ok done) end e held = let clash : true ≡ false = sym held ∙ ap tells_held (sym e) in absurd (cc)
held_refusal (Err (session.Host host.Memory)) end e held = let clash : true ≡ false = sym held ∙ ap tells_held (sym e) in absurd (cc)
held_refusal (Err (session.Host host.Store)) end e held = let clash : true ≡ false = sym held ∙ ap tells_held (sym e) in absurd (cc)
held_refusal (Err (session.Host (host.Refused why))) end e held = (why, refl, e)
held_refusal (Err (session.Lines fault)) end e held =
    let clash : true ≡ false = sym held ∙ ap tells_held (sym e) ∙ lines_unheld fault in absurd (cc)

by_offer : {A : Type 0} (why : Refusal) → tells_held (refusal_status why) ≡ true → IsSome (fault_of why) ⊎ A → A
by_offer why held (inr a) = a
by_offer (refusal.Device fault) held (inl some) = absurd (cc)
by_offer _ held (inl some) = absurd (cc)

-- the statuses of a refused offer
abbrev is_offer : Status → Bool
is_offer Lost = true
is_offer (Refused why) = true
is_offer _ = false

offer_status : (why : Refusal) → IsOfOffer why → is_offer (refusal_status why) ≡ true
offer_status why o = grind (arith, o)

lost_why : (why : Refusal) → refusal_status why ≡ Lost → why ≡ refusal.Lost
lost_why why e = grind (arith, e)

refused_why : (is why : Refusal) → refusal_status is ≡ Refused why → is ≡ why
refused_why is why e = grind (arith, e)

-- the statuses of `run`
abbrev is_run : Status → Bool
is_run Already = false
is_run Kind = false
is_run (Short got) = false
is_run _ = true

session_is_run : (answer : Result (Unit {0}) SessionFault) → is_run (session_status answer) ≡ true
session_is_run answer = grind arith

-- A session over the instance of a cell.
module _ (old new : Outside) (status : Status) (middle : Standing) (cell : List ℕ) (held : Held) (it : AnyModule)
    (spells : SpellsCell cell held) (found : module_of_id held.module ≡ Some it) (goes : StepGoes ReadCell old.standing middle None)
    (visible : IsVisible old.standing cell)
    (s : ServesAndStops (record { variant = held.variant; «module» = it }) (record old { standing = middle }) new status) where
  abbrev i : Instance
  i = instance_of held it

  first : StandsFirst i middle
  first = stands_first old.standing middle cell held it spells found (read_untouched old.standing middle goes) visible

  abbrev ran : IsSession held.variant (meaning_of it) (record (session_of old) { standing = middle })
      (record (session_of new) { received = s.between }) s.served.answer
  ran = s.served.sessions

  -- a refusal that the status tells
  record RefusedAs (end : Status) (offer : List ℕ) (hand : List ℕ → Type 0) : Type 0 where
    digests : Digests
    stands : StandsAt i new.standing digests
    why : Refusal
    answered : s.served.answer ≡ Err (session.Host (host.Refused why))
    told_as : refusal_status why ≡ end
    request : List ℕ
    in_hand : hand request
    judged : finding_at i (digest_level i) digests (One request) offer ≡ Err why

  refused_as : (offer : List ℕ) (hand : List ℕ → Type 0) → EndsAt i new.standing offer hand s.served.answer → (end : Status)
      → status ≡ end → tells_held end ≡ true → RefusedAs end offer hand
  refused_as offer hand ends end is told_held =
      let r = held_refusal s.served.answer end (sym s.served.ends ∙ is) told_held in
      let at = ends.refuses r.0 r.1 in
      record {
        digests = ends.digests;
        stands = ends.stands;
        why = r.0;
        answered = r.1;
        told_as = r.2;
        request = at.request;
        in_hand = at.in_hand;
        judged = by_offer r.0 (ap tells_held r.2 ∙ told_held) at.judged;
      }

  somehow : (end : Status) → status ≡ end → tells_held end ≡ true
      → RefusedAs end (offer_after (some_chain ran).offer (served_calls_in (some_chain ran).waiting ran.goes))
      (IsInHand (some_chain ran).waiting ran.goes)
  somehow =
      let c = some_chain ran in
      refused_as _ _ (chain_ends held.variant (meaning_of it) held.key held.barrier c.offer middle new.standing
      (served_calls_in c.waiting ran.goes) (IsInHand c.waiting ran.goes) s.served.answer c.chain first.digests first.stands)

  never : (end : Status) → tells_held end ≡ true → is_offer end ≡ false → status ≡ end → ⊥
  never end told_held not is =
      let r = somehow end is told_held in
      let o = refused_as_offer i r.digests (One r.request) _ r.why r.judged in
      let clash : true ≡ false = sym (offer_status r.why o) ∙ ap is_offer r.told_as ∙ not in absurd (cc)

  -- where power was lost, it stands so at the end
  lost_at : status ≡ Lost → HasLostPower new.standing
  lost_at is =
      let r = somehow Lost is refl in
      loss_held i new.standing r.digests r.stands
      (lost_shown i r.digests (One r.request) _ (r.judged ∙ ap (λ (x : Refusal). Err x) (lost_why r.why r.told_as)))

  -- it isn't for lost power that an offer is refused
  powered : (why : Refusal) → status ≡ Refused why → why ≢ refusal.Lost
  powered why is e =
      let r = somehow (Refused why) is refl in
      let lost : r.why ≡ refusal.Lost = refused_why r.why why r.told_as ∙ e in
      let clash : Lost ≡ Refused why = ap refusal_status (sym lost) ∙ r.told_as in absurd (cc)

  -- nor where power was lost
  lost_alone : (why : Refusal) → status ≡ Refused why → HasLostPower new.standing → ⊥
  lost_alone why is h =
      let r = somehow (Refused why) is refl in
      let found_lost = shown_lost i r.digests (One r.request)
      (offer_after (some_chain ran).offer (served_calls_in (some_chain ran).waiting ran.goes))
      (loss_shown i new.standing r.digests r.stands h) in
      let errors : Err r.why ≡ Err refusal.Lost = sym r.judged ∙ found_lost in
      let why_is : r.why ≡ refusal.Lost = cc in
      powered why is (sym (refused_why r.why why r.told_as) ∙ why_is)

  -- it is for a cause that is told
  offered : (why : Refusal) → status ≡ Refused why → IsSome (told_cause why)
  offered why is =
      let r = somehow (Refused why) is refl in
      cause_told why (subst IsOfOffer (refused_why r.why why r.told_as) (refused_as_offer i r.digests (One r.request) _ r.why r.judged))
      (powered why is)

  -- what was refused
  module _ (slots : Slots) (waiting : Option PendingRecord) (input : List ℕ) (slots_told : old.kept.slots ≡ Some slots)
      (w : IsWaiting (slot_front slots 2) (slot_front slots 3) waiting) (left : old.left ≡ Some input) where
    abbrev told : List ServedCall
    told = served_calls_in waiting ran.goes

    abbrev asks_next : (request : List ℕ) → IsNext waiting input told request → AsksNext cell old new slots waiting input status
    asks_next request next = record {
      served = record {
        held = held;
        spells = spells;
        it = it;
        found = found;
        start = middle;
        looked = read_untouched old.standing middle goes;
        between = s.between;
        answer = s.served.answer;
        went = ran;
        ended = s.served.ends;
      };
      told = told;
      is_told = refl;
      at = (chain_of ran slots waiting slots_told w).at;
      calls = (chain_of ran slots waiting slots_told w).calls;
      request = request;
      next = next;
    }

    -- a request that was refused so, behind those that were told
    record Next (end : Status) : Type 0 where
      request : List ℕ
      next : IsNext waiting input told request
      why : Refusal
      told_as : refusal_status why ≡ end
      refuses : RefusesAt i new.standing (offer_after (first_offer slots waiting) told) request why

    refused_next : (end : Status) → status ≡ end → tells_held end ≡ true → Next end
    refused_next end is told_held =
        let c = chain_of ran slots waiting slots_told w in
        let r = refused_as (offer_after (first_offer slots waiting) told) (IsInHand waiting ran.goes)
        (chain_ends held.variant (meaning_of it) held.key held.barrier (first_offer slots waiting) middle new.standing
        told (IsInHand waiting ran.goes) s.served.answer c first.digests first.stands)
        end is told_held in
        record {
          request = r.request;
          next = next_in_hand ran slots waiting slots_told w input left (host.Refused r.why) r.answered r.request r.in_hand;
          why = r.why;
          told_as = r.told_as;
          refuses = record { digests = r.digests; stands = r.stands; judged = r.judged };
        }

    as_why : (why : Refusal) (n : Next (Refused why))
        → RefusesAt i new.standing (offer_after (first_offer slots waiting) told) n.request why
    as_why why n =
        subst (λ (x : Refusal). RefusesAt i new.standing (offer_after (first_offer slots waiting) told) n.request x)
        (refused_why n.why why n.told_as) n.refuses

    -- Where nothing was told, what is next is first.
    module _ (nothing : TellsNothing old new) where
      none_told : told ≡ []
      none_told = untold_session {old = old} {new = new} waiting ran s.stops.sends.sent refl nothing s.stops.sends.appended

      abbrev asks_first : (request : List ℕ) → IsNext waiting input told request → AsksFirst cell waiting input
      asks_first request next = record {
        held = held;
        spells = spells;
        it = it;
        found = found;
        request = request;
        next = subst (λ (calls : List ServedCall). IsNext waiting input calls request) none_told next;
      }

      asked_next : (asks : AsksFirst cell waiting input) → IsNext waiting input told asks.request
      asked_next asks = subst (λ (calls : List ServedCall). IsNext waiting input calls asks.request) (sym none_told) asks.next

      refuses_first : (request : List ℕ) (why : Refusal)
          → RefusesAt i new.standing (offer_after (first_offer slots waiting) told) request why
          → RefusesAt i new.standing (first_offer slots waiting) request why
      refuses_first request why r =
          subst (λ (calls : List ServedCall). RefusesAt i new.standing (offer_after (first_offer slots waiting) calls) request why)
          none_told r

      -- the instance of the cell is the one that was served
      refuses_next : (asks : AsksFirst cell waiting input) (why : Refusal)
          → RefusesAt (instance_of asks.held asks.it) new.standing (first_offer slots waiting) asks.request why
          → RefusesAt i new.standing (offer_after (first_offer slots waiting) told) asks.request why
      refuses_next asks why r =
          let both = reads_cell-same cell (Ok asks.held) (Ok held) asks.spells spells in
          let helds : asks.held ≡ held = cc in
          let modules : Some asks.it ≡ Some it = sym asks.found ∙ ap (λ (h : Held). module_of_id h.module) helds ∙ found in
          let its : asks.it ≡ it = cc in
          subst (λ (calls : List ServedCall). RefusesAt i new.standing (offer_after (first_offer slots waiting) calls) asks.request why)
          (sym none_told)
          (subst (λ (h : Held). RefusesAt (instance_of h it) new.standing (first_offer slots waiting) asks.request why) helds
          (subst (λ (m : AnyModule). RefusesAt (instance_of asks.held m) new.standing (first_offer slots waiting) asks.request why) its r))

    run_lost : IsExactlyAt old new (AsksNext cell old new slots waiting input status × HasLostPower new.standing)
        (AsksFirst cell waiting input × HasLostPower new.standing) Lost status
    run_lost = record {
      next = record {
        only = λ is. let n = refused_next Lost is refl in (asks_next n.request n.next, lost_at is);
        always = λ h. lost_always old new status cell visible slots waiting input slots_told w left h.0 h.1;
      };
      first = λ nothing. record {
        only = λ is. let n = refused_next Lost is refl in (asks_first nothing n.request n.next, lost_at is);
        always = λ h. lost_always old new status cell visible slots waiting input slots_told w left
            (asks_next h.0.request (asked_next nothing h.0)) h.1;
      };
    }

    run_refused : (why : Refusal) → IsExactlyAt old new (RefusesNext cell old new slots waiting input status why)
        (RefusesFirst cell new.standing slots waiting input why) (Refused why) status
    run_refused why = record {
      next = record {
        only = λ is.
            let n = refused_next (Refused why) is refl in
            record { asks = asks_next n.request n.next; refuses = as_why why n; powered = powered why is };
        always = λ r. refused_always old new status cell visible slots waiting input slots_told w left why r;
      };
      first = λ nothing. record {
        only = λ is.
            let n = refused_next (Refused why) is refl in
            record {
              asks = asks_first nothing n.request n.next;
              refuses = refuses_first nothing n.request why (as_why why n);
              powered = powered why is;
            };
        always = λ r. refused_always old new status cell visible slots waiting input slots_told w left why (record {
          asks = asks_next r.asks.request (asked_next nothing r.asks);
          refuses = refuses_next nothing r.asks why r.refuses;
          powered = r.powered;
        });
      };
    }

-- What is told of a cell that is told.
record AtRun (old new : Outside) (status : Status) (cell : List ℕ) : Type 0 where
  blank : IsExactlyWhere (Unit {0} × (cell ≡ blank_cell)) Blank status
  unread : IsExactlyWhere (CantRead cell Run) Cell status
  lost : status ≡ Lost → HasLostPower new.standing
  lost_where : RunLost cell old new status
  refused : (why : Refusal) → status ≡ Refused why → IsSome (told_cause why) × (HasLostPower new.standing → ⊥)
  refused_where : (why : Refusal) → RunRefused cell old new status why

module _ (old new : Outside) (status : Status) (middle : Standing) (cell : List ℕ) where
  abbrev Goes_on : Result Header Status → Type 0
  Goes_on found = ServesIfFound found (record old { standing = middle }) new status

  -- no instance is asked of such a cell
  abbrev NoInstance : Type 0
  NoInstance = (held : Held) → SpellsCell cell held → (it : AnyModule) → module_of_id held.module ≡ Some it → ⊥

  unlost : (status ≡ Lost → ⊥) → NoInstance → RunLost cell old new status
  unlost not none slots waiting input slots_told w left = nowhere_at not
      (λ h. none h.0.held h.0.spells h.0.it h.0.found) (λ h. none h.0.held h.0.spells h.0.it h.0.found)

  unrefused : (why : Refusal) → (status ≡ Refused why → ⊥) → NoInstance → RunRefused cell old new status why
  unrefused why not none slots waiting input slots_told w left = nowhere_at not
      (λ r. none r.asks.held r.asks.spells r.asks.it r.asks.found) (λ r. none r.asks.held r.asks.spells r.asks.it r.asks.found)

  held_unlike : (held : Held) → SpellsCell cell held → cell ≡ blank_cell → ⊥
  held_unlike held spells is = let e = reads_cell-same cell (Ok held) (Err unheld.Blank) spells is in absurd (cc)

  blank_run : cell ≡ blank_cell → status ≡ Blank → AtRun old new status cell
  blank_run is e =
      let no_lost : status ≡ Lost → ⊥ = λ (k : status ≡ Lost). let clash : Blank ≡ Lost = sym e ∙ k in absurd (cc) in
      let no_refused : (why : Refusal) → status ≡ Refused why → ⊥ =
      λ (why : Refusal) (k : status ≡ Refused why). let clash : Blank ≡ Refused why = sym e ∙ k in absurd (cc) in
      let none : NoInstance = λ (held : Held) spells it found. held_unlike held spells is in
      record {
        blank = exactly_here e (tt, is);
        unread = nowhere (λ k. let clash : Blank ≡ Cell = sym e ∙ k in absurd (cc)) (λ h. h.0 is);
        lost = λ k. absurd (no_lost k);
        lost_where = unlost no_lost none;
        refused = λ why k. absurd (no_refused why k);
        refused_where = λ why. unrefused why (no_refused why) none;
      }

  none_run : CantRead cell Run → status ≡ Cell → AtRun old new status cell
  none_run h e =
      let no_lost : status ≡ Lost → ⊥ = λ (k : status ≡ Lost). let clash : Cell ≡ Lost = sym e ∙ k in absurd (cc) in
      let no_refused : (why : Refusal) → status ≡ Refused why → ⊥ =
      λ (why : Refusal) (k : status ≡ Refused why). let clash : Cell ≡ Refused why = sym e ∙ k in absurd (cc) in
      let none : NoInstance = λ (held : Held) spells it found. let lacks = h.1 held spells in absurd (cc) in
      record {
        blank = nowhere (λ k. let clash : Cell ≡ Blank = sym e ∙ k in absurd (cc)) (λ b. h.0 b.1);
        unread = exactly_here e h;
        lost = λ k. absurd (no_lost k);
        lost_where = unlost no_lost none;
        refused = λ why k. absurd (no_refused why k);
        refused_where = λ why. unrefused why (no_refused why) none;
      }

  only_held : (held other : Held) → SpellsCell cell held → SpellsCell cell other → held ≡ other
  only_held held other a b = let e = reads_cell-same cell (Ok held) (Ok other) a b in cc

  module _ (goes : StepGoes ReadCell old.standing middle None) (visible : IsVisible old.standing cell) where
    held_run : (held : Held) (found : Option AnyModule) → SpellsCell cell held → module_of_id held.module ≡ found
        → Goes_on (found_header held.variant found) → AtRun old new status cell
    held_run held None spells e g = none_run (
      held_unlike held spells,
      λ other k. ap (λ (h : Held). module_of_id h.module) (only_held other held k spells) ∙ e,
    ) g.stops.ends
    held_run held (Some it) spells e s =
        let never_told = never old new status middle cell held it spells e goes visible s in
        record {
          blank = nowhere (never_told Blank refl refl) (λ h. held_unlike held spells h.1);
          unread = nowhere (never_told Cell refl refl) (λ h. let none = h.1 held spells in absurd (cc));
          lost = λ is. lost_at old new status middle cell held it spells e goes visible s is;
          lost_where = λ slots waiting input slots_told w left.
              run_lost old new status middle cell held it spells e goes visible s slots waiting input slots_told w left;
          refused = λ why is. (
            offered old new status middle cell held it spells e goes visible s why is,
            lost_alone old new status middle cell held it spells e goes visible s why is,
          );
          refused_where = λ why slots waiting input slots_told w left.
              run_refused old new status middle cell held it spells e goes visible s slots waiting input slots_told w left why;
        }

    read_run : (read : Result Held CellFault) → ReadsCell cell read → Goes_on (found_instance read) → AtRun old new status cell
    read_run (Err unheld.Blank) r g = blank_run r g.stops.ends
    read_run (Err unheld.Cell) r g = none_run (r.0, λ held k. absurd (r.1 held k.0 k.1)) g.stops.ends
    read_run (Ok held) r g = held_run held (module_of_id held.module) r refl g

found_is_run : (read : Result Held CellFault) (end : Status) → (let r : Result Header Status = Err end in r ≡ found_instance read)
    → is_run end ≡ true
found_is_run read end e = grind (arith, e)

module _ (old new : Outside) (status : Status) (middle : Standing) where
  unlike_run : is_run status ≡ true → (end : Status) → is_run end ≡ false → status ≡ end → ⊥
  unlike_run run end not is = let clash : true ≡ false = sym run ∙ ap is_run is ∙ not in absurd (cc)

  ends_run : (read : Result Held CellFault) (found : Result Header Status) → found ≡ found_instance read
      → ServesIfFound found (record old { standing = middle }) new status → is_run status ≡ true
  ends_run read (Err end) e g = ap is_run g.stops.ends ∙ found_is_run read end e
  ends_run read (Ok header) e g = ap is_run g.served.ends ∙ session_is_run g.served.answer

  run_by : (fault : Option StepFault) (found : Result Header Status) → StepGoes ReadCell old.standing middle fault
      → FindsInstance fault old.standing found
      → ServesIfFound found (record old { standing = middle }) new status → Holding Run old new status
  run_by (Some fault) found goes f g =
      let none = subst (λ (r : Result Header Status). ServesIfFound r (record old { standing = middle }) new status) f g in
      fault_holding Run old new status (subst EndsByFault (sym none.stops.ends) tt)
  run_by None found goes f g =
      let sees = f.2 in
      let unlike = unlike_run (ends_run sees.read found sees.found_is g) in
      let at : (cell : List ℕ) → IsVisible old.standing cell → AtRun old new status cell = λ (cell : List ℕ) visible.
      read_run old new status middle cell goes visible sees.read
      (subst (λ (b : List ℕ). ReadsCell b sees.read) (f.1 cell visible.told) sees.reads)
      (subst (λ (r : Result Header Status). Goes_on old new status middle cell r) sees.found_is g) in
      record {
        blank = λ cell visible. (at cell visible).blank;
        already = λ cell told. nowhere (unlike Already refl) (λ h. h.0);
        unread = λ cell visible. (at cell visible).unread;
        kind = λ cell told. nowhere (unlike Kind refl) (λ h. h);
        short = λ cell secrets got told left. nowhere (unlike (Short got) refl) (λ h. h.0.0);
        lost = λ cell visible. record {
          only = λ is. (tt, (at cell visible).lost is);
          closing = λ e. absurd (cc);
          running = λ e. (at cell visible).lost_where;
        };
        refused = λ cell why visible. record {
          only = λ is. let r = (at cell visible).refused why is in (refl, r.0, r.1);
          running = λ e. (at cell visible).refused_where why;
        };
      }

pub run_holding : (old new : Outside) (status : Status) → CommandDoes Run old new status → Holding Run old new status
run_holding old new status d = run_by old new status d.middle d.looks.fault d.found d.looks.goes d.looks.finds d.goes
