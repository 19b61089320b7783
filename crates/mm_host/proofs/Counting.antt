-- What a session counts, by the steps: whose fault it is that it ends, and how often it is to write
-- the cell. With it: a session over an honest store goes on, also where the cell was read before.
use Rattle.std.specs.Prelude.{IsSome}
use Rattle.mm_platform.specs.Standing.{items_beside, StepGoes, ReadCell}
use Rattle.mm_model.specs.declared.refusal.Refusal.TheVariants.{Device}
use Rattle.mm_play.specs.PlaysInput.{IsBlamed}
use Rattle.mm_recovery.specs.CellWrites.{IsNewAt, CellIsWrittenFor, new_requests_by, IsNewOf, new_requests_at}
use Rattle.mm_recovery.specs.HostStanding.{BlamesHostFault}
use Rattle.mm_recovery.specs.declared.fault.HostFault.TheVariants as host
use Rattle.mm_host.specs.Continuation.{IsRefusalNamed, is_platform_fault, is_store_fault, SessionWrites, new_lines, new_told_requests}
use Rattle.mm_host.specs.Sessions.{ServesAllLines}
use Rattle.mm_host.proofs.Below.{ℕ, ◌≡◌, ◌≢◌, ◌+◌, ◌≤◌, List, [], ◌∷◌, length, Option, None, Some, Result, Ok, Err, refl, ap, ◌∙◌, subst}
use Rattle.mm_host.proofs.Below.{inl, inr, arith, is_some, length-append, lines_of, lines_of-joined, lines_of-line, Variant, Basic, Opt}
use Rattle.mm_host.proofs.Below.{Standing, StepFault, Meaning, Refusal, CountsHandedFault, fault_of, HostFault, SessionFault, Host, Resumed}
use Rattle.mm_host.proofs.Below.{Start, Answered, RequestMayBeUntold, SendsReply, told_cause, refusal_text, reply_text, SessionPlace}
use Rattle.mm_host.proofs.Below.{ServedCall, ServesCalls, served_lines, SessionGoesAfterResume, BytesBeginWith, IsSession, Told, next_told}
use Rattle.mm_host.proofs.Below.{resumes_told, AnsweredWrites, CameWrites, answered_writes, both_writes, next_came, new_most, resumes_came}
use Rattle.mm_host.proofs.Below.{counted_most, joined, leads_rest, rests, HostStanding, SessionStanding, host_of, Batch, IsLawful, Instance}
use Rattle.mm_host.proofs.Below.{opt_instance, History, StoreStanding, PendingRecord, Slots, ContinuesFrom, MayGoOn, MayStart}
use Rattle.mm_host.proofs.Below.{SessionContinues, FitsBy, history_with_values, names_alike, IsGenuine, first_offer, IsSnapshotAt}
use Rattle.mm_host.proofs.Below.{one_content}
use Rattle.mm_host.proofs.Leading.{basic_laws}
use Rattle.mm_host.proofs.Lines.{by_end, by_told, IsByInput, length-served_lines, unbroken_served}
use Rattle.mm_host.proofs.OptLeading.{opt_laws}
use Rattle.mm_host.proofs.RunningOnce.{enter_by, nothing_beside, powered_looked}
use Rattle.mm_host.proofs.SessionRuns.{continues_to}

-- Lines that were answered: no count of faults rises, and the new ones write the cell.
record Counts (variant : Variant) (requests : ℕ) (from to : SessionPlace) : Type 0 where
  platform : to.host.standing.faults ≡ from.host.standing.faults
  store : to.host.kept.faults ≡ from.host.kept.faults
  wrote : AnsweredWrites variant requests from.host.standing to.host.standing

served_counts : (variant : Variant) (meaning : Meaning) (from to : SessionPlace) (calls : List ServedCall)
    → ServesCalls variant meaning from calls to
    → Counts variant (new_lines calls) from to
served_counts variant meaning from to [] s = rw s (record {
  platform = refl;
  store = refl;
  wrote = record {
    writes = rests variant from.host.standing from.host.standing refl;
    leads = leads_rest variant from.host.standing from.host.standing refl;
  };
})
served_counts variant meaning from to (c ∷ calls) s =
    let t = next_told variant meaning from.host s.host from.last c.line (Ok (Answered c.answer)) s.asks in
    let w = next_came variant meaning from.host s.host from.last c.line (Ok (Answered c.answer)) s.asks in
    let next : SessionPlace = record { host = s.host; last = Answered c.answer } in
    let rest = served_counts variant meaning next to calls s.rest in
    record {
      platform = rest.platform ∙ t.blamed.0;
      store = rest.store ∙ t.blamed.1;
      wrote = both_writes variant (new_requests_by c.answer.again) (new_lines calls) from.host.standing s.host.standing to.host.standing
          (answered_writes variant (Answered c.answer) from.host.standing s.host.standing w) rest.wrote;
    }

-- What is said of a session's end and of the request in hand.
pub record Says (requests : ℕ) (old new : HostStanding) (result : Result Unit SessionFault) : Type 0 where
  pub platform : IsBlamed (is_platform_fault result) old.standing.faults new.standing.faults
  pub store : IsBlamed (is_store_fault result) old.kept.faults new.kept.faults
  pub named : IsRefusalNamed result
  pub untold : requests ≢ 0 → RequestMayBeUntold result

-- What a session counts: of the new requests those that were told, and the one in hand.
pub record Counted (variant : Variant) (told most : ℕ) (result : Result Unit SessionFault) (old new : HostStanding) : Type 0 where
  pub in_hand : ℕ
  pub says : Says in_hand old new result
  pub one : in_hand ≤ 1
  pub few : told + in_hand ≤ most
  pub writes : CellIsWrittenFor variant (told + in_hand) old.standing new.standing

-- the fault that came
blames_by : (broken : Option StepFault) (before now : ℕ) → CountsHandedFault broken before now → IsBlamed (is_some broken) before now
blames_by None before now b = b
blames_by (Some fault) before now b = b

host_blamed : (fault : HostFault) (old new : HostStanding) → BlamesHostFault {T = Resumed} (Err fault) old new
    → IsBlamed (is_platform_fault {T = Unit} (Err (Host fault))) old.standing.faults new.standing.faults
    × IsBlamed (is_store_fault {T = Unit} (Err (Host fault))) old.kept.faults new.kept.faults
host_blamed (host.Refused why) old new b = (blames_by (fault_of why) old.standing.faults new.standing.faults b.0, b.1)
host_blamed _ old new b = b

-- a refusal that is told is no fault of a device
told_no_device : (why : Refusal) → refusal_text (told_cause why) ≢ [] → fault_of why ≡ None
told_no_device (Device broken) h = absurd (h refl)
told_no_device _ h = refl

-- where a text is told, no count rose
quiet_told : (came : Result Resumed HostFault) (old new : HostStanding) → reply_text came ≢ [] → BlamesHostFault came old new
    → (new.standing.faults ≡ old.standing.faults) × (new.kept.faults ≡ old.kept.faults)
quiet_told (Err host.Store) old new h b = absurd (h refl)
quiet_told (Err (host.Refused why)) old new h b = (rw (told_no_device why h) at b.0, b.1)
quiet_told _ old new h b = b

-- of a request that isn't told
new_at : (broken : Option StepFault) (n : ℕ) → IsNewAt broken n → (n ≤ 1) × (n ≢ 0 → IsSome broken)
new_at None n h = (omega (arith, h), λ k. absurd (k h))
new_at (Some fault) n h = (h, λ k. refl)

first_most : (it : Resumed) → new_requests_at it ≤ 1
first_most (Start first) = omega arith
first_most (Answered answer) = new_most answer.again (new_requests_by answer.again) refl

came_most : (came : Result Resumed HostFault) (n : ℕ) → IsNewOf came n → n ≤ 1
came_most (Ok it) n h = let most = first_most it in omega (arith, h, most)
came_most (Err (host.Refused why)) n h = (new_at (fault_of why) n h).0
came_most _ n h = h

untold_at : (fault : HostFault) (n : ℕ) → IsNewOf (Err fault) n → n ≢ 0 → RequestMayBeUntold {T = Unit} (Err (Host fault))
untold_at (host.Refused why) n h k = (new_at (fault_of why) n h).1 k
untold_at _ n h k = tt

counted_of : (variant : Variant) (requests most : ℕ) (result : Result Unit SessionFault) (old new : HostStanding)
    → Says requests old new result → requests ≤ 1 → requests ≤ most → CellIsWrittenFor variant requests old.standing new.standing
    → Counted variant 0 most result old new
counted_of variant requests most result old new s one few writes =
    let none : 0 + requests ≡ requests = omega arith in
    record { in_hand = requests; says = s; one = one; few = omega (arith, few); writes = rw none writes }

said_counted : (variant : Variant) (came : Result Resumed HostFault) (sent : List ℕ) (fault : SessionFault) (most : ℕ)
    (old new : HostStanding) → SendsReply came sent (Err fault) → Told came old new
    → CameWrites variant came old.standing new.standing → 1 ≤ most → Counted variant 0 most (Err fault) old new
said_counted variant came sent fault most old new s t c h =
    let one = came_most came c.requests c.is_new in
    let says : Says c.requests old new (Err fault) =
    by_told (λ (f : SessionFault). Says c.requests old new (Err f)) came sent fault s
    (λ (why : HostFault) (e : came ≡ Err why).
    let told : Told (Err why) old new = rw e at t in
    let b = host_blamed why old new told.blamed in record {
      platform = b.0;
      store = b.1;
      named = record { remembered = λ e. told.named.remembered (cc); short = λ e. told.named.short (cc); hosts = λ e. absurd (cc) };
      untold = λ k. untold_at why c.requests (rw e at c.is_new) k;
    })
    (λ n. let q = quiet_told came old new n t.blamed in
    record {
      platform = q.0;
      store = q.1;
      named = record { remembered = λ e. absurd (cc); short = λ e. absurd (cc); hosts = λ e. absurd (cc) };
      untold = λ k. refl;
    }) in
    counted_of variant c.requests most (Err fault) old new says one (omega (arith, one, h)) c.writes

-- at rest
rest_says : (result : Result Unit SessionFault) (old new : HostStanding) → IsByInput result → new ≡ old → Says 0 old new result
rest_says (Err (Host fault)) old new by q = absurd by
rest_says result old new by q = record {
  platform = ap (λ (h : HostStanding). h.standing.faults) q;
  store = ap (λ (h : HostStanding). h.kept.faults) q;
  named = record { remembered = λ e. absurd (cc); short = λ e. absurd (cc); hosts = λ e. subst IsByInput e by };
  untold = λ k. absurd (k refl);
}

-- the end of the lines
module _ (variant : Variant) (meaning : Meaning) (from : SessionPlace) (new : HostStanding) (left : Option (List ℕ))
    (taken sent : List ℕ) (result : Result Unit SessionFault)
    (l : ServesAllLines variant meaning 1 from new left taken sent result) where
  has_line : (line held : List ℕ) → BytesBeginWith l.more line held → 1 ≤ length (lines_of l.more)
  has_line line held b =
      let counted : length (lines_of l.more) ≡ length (line ∷ lines_of held) =
      ap (λ (bytes : List ℕ). length (lines_of bytes)) b.cut
      ∙ ap (λ (ls : List (List ℕ)). length ls) (lines_of-line line held b.within.unbroken) in
      omega (arith, counted)

  ends_counted : Counted variant 0 (length (lines_of l.more)) result l.at.host new
  ends_counted =
      by_end (λ r. Counted variant 0 (length (lines_of l.more)) r l.at.host new) result l
      (λ fault s. said_counted variant s.came l.last fault (length (lines_of l.more)) l.at.host new s.says
      (next_told variant meaning l.at.host new l.at.last s.line s.came s.asks)
      (next_came variant meaning l.at.host new l.at.last s.line s.came s.asks) (has_line s.line s.held s.begins))
      (λ by r. counted_of variant 0 (length (lines_of l.more)) result l.at.host new (rest_says result l.at.host new by r.still)
      (omega arith) (omega arith) (rests variant l.at.host.standing new.standing (ap (λ (h : HostStanding). h.standing) r.still)))

  taken_lines : length (lines_of taken) ≡ length l.calls + length (lines_of l.more)
  taken_lines =
      ap (λ (x : List ℕ). length (lines_of x)) l.took
      ∙ ap (λ (ls : List (List ℕ)). length ls) (lines_of-joined (served_lines l.calls) l.more
      (unbroken_served variant meaning from l.at l.calls l.serves))
      ∙ length-append (served_lines l.calls) (lines_of l.more) ∙ ap (λ (n : ℕ). n + length (lines_of l.more)) (length-served_lines l.calls)

lines_most : (calls : List ServedCall) → new_lines calls ≤ length calls
lines_most [] = omega arith
lines_most (c ∷ calls) =
    let one = new_most c.answer.again (new_requests_by c.answer.again) refl in
    let rest = lines_most calls in
    omega (arith, one, rest)

for_most : (variant : Variant) (n : ℕ) (before after : Standing) → CellIsWrittenFor variant n before after → after.writes ≤ before.writes
    + n
for_most Basic n before after w = let most = counted_most n before.writes in omega (arith, w, most)
for_most Opt n before after w = w.each

-- a whole session
module _ {variant : Variant} {meaning : Meaning} {old new : SessionStanding} {result : Result Unit SessionFault}
    (s : IsSession variant meaning old new result) where
  counted_by : (goes : SessionGoesAfterResume variant meaning s.begun s.middle (host_of new) new.left s.taken s.sent result)
      → Counted variant (new_told_requests goes) (1 + length (lines_of s.taken)) result (host_of old) (host_of new)
  counted_by (inl e) =
      let most : ℕ = 1 + length (lines_of s.taken) in
      rw e.1.stops (rw e.0 (said_counted variant s.begun s.sent e.1.fault most (host_of old) s.middle e.1.says
      (resumes_told variant meaning (host_of old) s.middle s.begun s.resumes)
      (resumes_came variant meaning (host_of old) s.middle s.begun s.resumes) (omega arith)))
  counted_by (inr g) =
      let l = g.lines in
      let from : SessionPlace = record { host = s.middle; last = g.first } in
      let told : Told (Ok g.first) (host_of old) s.middle =
      rw g.begins at (resumes_told variant meaning (host_of old) s.middle s.begun s.resumes) in
      let first = answered_writes variant g.first old.standing s.middle.standing (rw g.begins at
      (resumes_came variant meaning (host_of old) s.middle s.begun s.resumes)) in
      let c = served_counts variant meaning from l.at l.calls l.serves in
      let told_writes = both_writes variant (new_requests_at g.first) (new_lines l.calls) old.standing s.middle.standing
      l.at.host.standing first c.wrote in
      let e = ends_counted variant meaning from (host_of new) new.left s.taken g.replies result l in
      let none : 0 + e.in_hand ≡ e.in_hand = omega arith in
      record {
        in_hand = e.in_hand;
        says = record {
          platform = rw (c.platform ∙ told.blamed.0) at e.says.platform;
          store = rw (c.store ∙ told.blamed.1) at e.says.store;
          named = e.says.named;
          untold = e.says.untold;
        };
        one = e.one;
        few = omega (
          arith,
          first_most g.first,
          lines_most l.calls,
          e.few,
          taken_lines variant meaning from (host_of new) new.left s.taken g.replies result l,
        );
        writes = joined variant (new_requests_at g.first + new_lines l.calls) e.in_hand old.standing l.at.host.standing new.standing
            told_writes.leads told_writes.writes (rw none at e.writes);
      }

  pub session_counted : Counted variant (new_told_requests s.goes) (1 + length (lines_of s.taken)) result (host_of old) (host_of new)
  session_counted = counted_by s.goes

  pub session_writes : SessionWrites variant meaning old new result
  session_writes =
      let c = session_counted in
      let most = for_most variant (new_told_requests s.goes + c.in_hand) old.standing new.standing c.writes in record {
        ran = s;
        in_hand = c.in_hand;
        one = c.one;
        untold = c.says.untold;
        writes = c.writes;
        by_lines = omega (arith, most, c.few);
      }

-- A session over an honest store goes on, also where the cell was read before.

-- what fits is genuine
holds_genuine : (i : Instance) (y : History) (bytes : List ℕ) (position : ℕ) → IsSnapshotAt i y bytes position → IsGenuine i y bytes
holds_genuine i y bytes position h = λ content right. rw (one_content i bytes h.content content h.right right) at h.names

pub fits_genuine : (i : Instance) (slots : Slots) (y : History) (waiting : Option PendingRecord) → FitsBy i slots y waiting
    → IsGenuine i y (first_offer slots waiting)
fits_genuine i slots y None f = holds_genuine i y _ _ f.1
fits_genuine i slots y (Some p) f = holds_genuine i y _ _ f.1

abbrev starts_by : {all others : List (List ℕ)} {asked : List Batch} {i : Instance} {y : History} {slots : Slots} {standing : Standing}
    {kept : StoreStanding} → MayGoOn all others asked i y slots standing kept → MayStart all others asked i y slots standing kept
starts_by {i = i} {y = y} {slots = slots} may = record {
  told = may.told;
  waiting = may.fits.waiting;
  is_waiting = may.fits.is_waiting;
  stands = may.stands;
  clear = may.clear;
  apart = may.apart;
  within = may.within;
  genuine = fits_genuine i slots y may.fits.waiting may.fits.fits;
}

-- slots that fit go on to where others extended the register
module _ (meaning : Meaning) (key barrier : List ℕ) (y : History) (values : List (List ℕ)) (slots : Slots) where
  abbrev i : Instance
  i = opt_instance meaning key barrier

  holds_looked : (bytes : List ℕ) (position : ℕ) → IsSnapshotAt i y bytes position
      → IsSnapshotAt i (history_with_values y values) bytes position
  holds_looked bytes position h = record {
    content = h.content;
    right = h.right;
    names = names_alike meaning key barrier y (history_with_values y values) h.content refl h.names;
    at = h.at;
  }

  fits_looked : (waiting : Option PendingRecord) → FitsBy i slots y waiting → FitsBy i slots (history_with_values y values) waiting
  fits_looked None f = (f.0, holds_looked _ _ f.1)
  fits_looked (Some p) f = (f.0, holds_looked _ _ f.1)

continue_over : (variant : Variant) (meaning : Meaning) → IsLawful meaning → (entry : Standing) (old new : SessionStanding)
    (values : List (List ℕ)) → old.standing.cell ≡ entry.cell → old.standing.items ≡ items_beside values entry.items
    → (result : Result Unit SessionFault) → ContinuesFrom variant meaning entry old new result
continue_over Basic meaning lawful entry old new values cell looked result =
    λ s key y slots all others asked requests may f among.
    continues_to (basic_laws meaning lawful key all others asked new.standing may.clear may.apart) s y y slots may.fits.waiting may.told
    may.honest may.fits.is_waiting may.fits.fits requests (record {
      stands = record { spells = may.stands.spells; cell = cell ∙ may.stands.cell; register = tt };
      within = may.within;
      genuine = (starts_by may).genuine;
      same = refl;
    }) (inl tt) f among (λ p. p)
continue_over Opt meaning lawful entry old new values cell looked result =
    λ s key barrier y slots all others asked requests items more may f among known ends shown_so.
    let e = enter_by meaning lawful entry old new values cell looked s key barrier y slots all others asked requests items more
    (starts_by may) known ends y.is_open refl shown_so in
    continues_to (opt_laws meaning lawful key barrier all others asked new.standing may.clear may.apart) s (history_with_values y values) y
    slots may.fits.waiting may.told may.honest may.fits.is_waiting
    (fits_looked meaning key barrier y values slots may.fits.waiting may.fits.fits) requests e.0 e.1 f among (powered_looked values y)

-- behind a reading of the cell, whether that failed or not
pub continues_from : (variant : Variant) (meaning : Meaning) → IsLawful meaning
    → (entry : Standing) (fault : Option StepFault) (old new : SessionStanding) (result : Result Unit SessionFault)
    → StepGoes ReadCell entry old.standing fault → ContinuesFrom variant meaning entry old new result
continues_from variant meaning lawful entry fault old new result g =
    continue_over variant meaning lawful entry old new g.others g.cell g.items result

pub session_continues : (variant : Variant) (meaning : Meaning) → IsLawful meaning
    → (old new : SessionStanding) (result : Result Unit SessionFault) → SessionContinues variant meaning old new result
session_continues variant meaning lawful old new =
    continue_over variant meaning lawful old.standing old new [] refl (nothing_beside old.standing.items)
