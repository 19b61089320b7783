-- The request behind those that a session told: where the digests at its end refuse it, the session is refused so, unless memory was
-- wanting or something failed.
use Rattle.mm_host.proofs.Below.{◌≡◌, ◌∙◌, ◌+◌, ◌≤◌, ℕ, Bool, true, false, List, [], ◌∷◌, ◌++◌, length, Option, None, Some, Result, Ok, Err}
use Rattle.mm_host.proofs.Below.{refl, sym, ap, subst, inl, inr, ◌⊎◌, arith, IsSome, take, drop, take-append-drop, length-append}
use Rattle.mm_host.proofs.Below.{length-take, append_assoc, append_cancel_left, append-nil, Variant, Basic, Opt, Standing, One, Batch}
use Rattle.mm_host.proofs.Below.{Meaning, Instance, Digests, Answer, Refusal, SessionFault, Host, Lines, Memory, WriteFault, LineLong}
use Rattle.mm_host.proofs.Below.{BadLine, TooMuch, IsCall, StoreFault, offer_after, ServedCall, IsSession, StandsAt}
use Rattle.mm_host.proofs.Below.{finding_at, digest_level, fault_of, by_refusal, IsInHand, parts_of, HostFault, Resumed, SendsReply}
use Rattle.mm_host.proofs.Below.{reply_text, store_fault_as, refusal_fault, snapshot_at, PendingRecord, Slots, slot_front, IsWaiting}
use Rattle.mm_host.proofs.Below.{first_offer, requests_with, served_lines, served_calls_in, first_served_call, lines_of, lines_of-append}
use Rattle.mm_host.proofs.Below.{IsUnbroken, IsLong, longest_request, most_lines, SessionGoesAfterResume, SessionStopsAtOnce}
use Rattle.mm_host.proofs.Below.{SessionStopsInLine, lines_with_front, InBasic, InOpt, if◌then◌else◌, later_record, SessionPlace}
use Rattle.mm_host.proofs.Below.{ReadsPendingRecord}
use Rattle.mm_host.proofs.Below.{HostStanding, SessionStanding, host_of}
use Rattle.std.specs.Prelude.{◌<◌, IfSome, nat_le}
use Rattle.mm_base.specs.InputLaws.{lines_of-unbroken}
use Rattle.mm_base.specs.declared.replay_fault.ReplayFault.TheVariants.{ReadFault}
use Rattle.mm_seal.specs.Cell.{cell_spelling}
use Rattle.mm_seal.specs.CellLaws.{cell_spelling-injective}
use Rattle.mm_seal.specs.FieldLaws.{spells_read}
use Rattle.mm_seal.specs.Snapshot.{Snapshot, variant_of}
use Rattle.mm_seal.specs.declared.snapshot.Place.{Place as Placed}
use Rattle.mm_seal.specs.declared.snapshot.PartsFault.{PartsFault}
use Rattle.mm_seal.specs.declared.snapshot.PartsFault.TheVariants.{Form, Kind}
use Rattle.mm_model.specs.Verdicts.{verdict_by_digests}
use Rattle.mm_call.specs.CallFinding.{CallFinding, finding_by_verdict, check_of_offer}
use Rattle.mm_call.specs.Standing.{cell_at, instance_by}
use Rattle.mm_model.specs.declared.verdict.Verdict.{Verdict}
use Rattle.mm_recovery.specs.declared.fault.HostFault.TheVariants as host
use Rattle.mm_store.specs.declared.fault.StoreFault.TheVariants as store
use Rattle.mm_host.specs.AnySlots.{IsNext}
use Rattle.mm_host.specs.Sessions.{SessionGoesOn, ServesAllLines}
use Rattle.mm_host.proofs.Turning.{call_leaves, calls_leave}
use Rattle.mm_host.proofs.CallsMade.{Begun, begun_told, failed, first_by, last_offer, repeats, served_calls, starts}
use Rattle.mm_host.proofs.Lines.{asks, by_told, fails, IsRead, length-served_lines, line_tries, lines_in, next_line, read_of, Tries}
use Rattle.mm_host.proofs.RunningOnce.{by_fault}
use Rattle.std.specs.Result.{result_map_both}

-- Digests at which one platform stands find the same.

-- the cell tells the digest and the flag
cells_same : (i : Instance) (standing : Standing) (d e : Digests) → StandsAt i standing d → StandsAt i standing e
    → cell_at i d ≡ cell_at i e
cells_same i standing d e a b =
    let both : Some (cell_spelling (cell_at i d)) ≡ Some (cell_spelling (cell_at i e)) = sym a.cell ∙ b.cell in
    cell_spelling-injective (cell_at i d) (cell_at i e) a.spells b.spells (cc)

-- a place of Basic is judged without the register
place_same : (barrier digest one two : List ℕ) (place : Placed) (b : Batch) → variant_of place ≡ Basic
    → verdict_by_digests barrier false digest one place b ≡ verdict_by_digests barrier false digest two place b
place_same barrier digest one two (InBasic s) b e = refl
place_same barrier digest one two (InOpt a x) b e = absurd (cc)

abbrev with_register : List ℕ → Bool → List ℕ → Digests
with_register digest flag register = record { digest = digest; flag = flag; register = register; count = 0 }

abbrev found_with : Instance → Batch → List ℕ → List ℕ → Bool → List ℕ → Result CallFinding Refusal
found_with i b offer digest flag register = finding_at i (digest_level i) (with_register digest flag register) b offer

module _ (meaning : Meaning) (key barrier : List ℕ) (b : Batch) (offer digest one two : List ℕ) where
  abbrev basic_by : List ℕ → Result Snapshot PartsFault → Result CallFinding Refusal
  basic_by register parts =
      let i = instance_by Basic meaning key barrier in
      finding_by_verdict i (digest_level i) (with_register digest false register) b parts

  basic_parts : (parts : Result Snapshot PartsFault) → parts_of Basic meaning.id offer ≡ parts → basic_by one parts ≡ basic_by two parts
  basic_parts (Err Form) e = refl
  basic_parts (Err Kind) e = refl
  basic_parts (Ok snapshot) e =
      ap (λ (v : Verdict). result_map_both (λ again. record { offered = snapshot.content; again = again }) (λ w. w)
      (check_of_offer meaning key snapshot b v))
      (place_same (instance_by Basic meaning key barrier).barrier digest one two snapshot.content.place b
      (spells_read Basic meaning.id offer snapshot e).1.0)

found_same : (v : Variant) (meaning : Meaning) (key barrier : List ℕ) (standing : Standing) (d e : Digests)
    → StandsAt (instance_by v meaning key barrier) standing d → StandsAt (instance_by v meaning key barrier) standing e
    → (b : Batch) (offer : List ℕ)
    → finding_at (instance_by v meaning key barrier) (digest_level (instance_by v meaning key barrier)) d b offer
    ≡ finding_at (instance_by v meaning key barrier) (digest_level (instance_by v meaning key barrier)) e b offer
found_same Basic meaning key barrier standing d e a c b offer =
    let i = instance_by Basic meaning key barrier in
    let cells = cells_same i standing d e a c in
    ap (λ (f : Bool). found_with i b offer d.digest f d.register) a.spells.variant.0
    ∙ basic_parts meaning key barrier b offer d.digest d.register e.register (parts_of Basic meaning.id offer) refl
    ∙ ap (λ (g : List ℕ). found_with i b offer g false e.register) (ap (λ x. x.summary.bytes) cells)
    ∙ ap (λ (f : Bool). found_with i b offer e.digest f e.register) (sym c.spells.variant.0)
found_same Opt meaning key barrier standing d e a c b offer =
    let i = instance_by Opt meaning key barrier in
    let cells = cells_same i standing d e a c in
    let registers : Some d.register ≡ Some e.register = sym a.reads ∙ c.reads in
    let register : d.register ≡ e.register = cc in
    ap (λ (f : Bool). found_with i b offer d.digest f d.register) (ap (λ x. x.flag) cells)
    ∙ ap (λ (g : List ℕ). found_with i b offer g e.flag d.register) (ap (λ x. x.summary.bytes) cells)
    ∙ ap (λ (r : List ℕ). found_with i b offer e.digest e.flag r) register

-- How a session ends where the request in hand is refused by the digests.

-- memory was wanting, or the store, a device, the input or the output failed
abbrev pub IsFaulty : SessionFault → Type 0
IsFaulty (Host (host.Refused why)) = IsSome (fault_of why)
IsFaulty (Host _) = Unit {0}
IsFaulty (Lines ReadFault) = Unit {0}
IsFaulty (Lines WriteFault) = Unit {0}
IsFaulty _ = ⊥

abbrev pub EndsFor : Refusal → SessionFault → Type 0
EndsFor why fault = (fault ≡ Host (host.Refused why)) ⊎ IsFaulty fault

-- it was refused so, or it failed
abbrev pub RefusesOrFails : Refusal → Result Unit SessionFault → Type 0
RefusesOrFails why (Ok done) = ⊥
RefusesOrFails why (Err fault) = EndsFor why fault

store_ends : (why : Refusal) (fault : StoreFault) → EndsFor why (Host (store_fault_as fault))
store_ends why store.Memory = inr tt
store_ends why store.Failed = inr tt

-- a fault that is told is that of the store
told_store : (why : Refusal) (came : Result Resumed HostFault) (fault : StoreFault) → came ≡ Err (store_fault_as fault) → (sent : List ℕ)
    (told : SessionFault) → SendsReply came sent (Err told) → EndsFor why told
told_store why came fault e sent told says =
    by_told (EndsFor why) came sent told says (λ w k.
    let both : Err (store_fault_as fault) ≡ Err w = sym e ∙ k in
    let is : store_fault_as fault ≡ w = cc in
    subst (λ (f : HostFault). EndsFor why (Host f)) is (store_ends why fault)) (λ n. inr tt)

module _ (variant : Variant) (meaning : Meaning) (key barrier : List ℕ) (after : Standing) (there : Digests)
    (stands : StandsAt (instance_by variant meaning key barrier) after there) (why : Refusal) where
  abbrev i : Instance
  i = instance_by variant meaning key barrier

  abbrev Judged : (offer request : List ℕ) → Type 0
  Judged offer request = finding_at i (digest_level i) there (One request) offer ≡ Err why

  refused_call : (at : Standing) (offer request : List ℕ) → Judged offer request → (call : Result Answer Refusal)
      → IsCall variant meaning at after offer request call → (d : Digests) → StandsAt i at d → (w : Refusal) → call ≡ Err w
      → EndsFor why (Host (refusal_fault w))
  refused_call at offer request judged call c d s w =
      let l = call_leaves variant meaning key barrier at after offer request call c d s in
      by_refusal (λ (x : Refusal) (f : HostFault). call ≡ Err x → EndsFor why (Host f)) (λ e. inr tt)
      (λ x n e. elim (by_fault x (fault_of x) refl (l.judged x e)) [
        | inl some ↦ inr some
        | inr found ↦ elim found [
          | inl memory ↦ absurd (n memory)
          | inr is ↦
              let errors : Err x ≡ Err why =
              sym is ∙ found_same variant meaning key barrier after l.digests there l.stands stands (One request) offer ∙ judged in
              let same : x ≡ why = cc in inl (ap (λ (r : Refusal). Host (host.Refused r)) same)
        ]
      ]) w

  tried_ends : (at : Standing) (offer request : List ℕ) → Judged offer request → (came : Result Resumed HostFault)
      → Tries variant meaning at after offer request came → (d : Digests) → StandsAt i at d → (sent : List ℕ) (fault : SessionFault)
      → SendsReply came sent (Err fault) → EndsFor why fault
  tried_ends at offer request judged came (fails same f e) d s sent fault says = told_store why came f e sent fault says
  tried_ends at offer request judged came (asks (Err w) c t) d s sent fault says =
      by_told (EndsFor why) came sent fault says (λ x k.
      let both : Err (refusal_fault w) ≡ Err x = sym t ∙ k in
      let is : refusal_fault w ≡ x = cc in
      subst (λ (f : HostFault). EndsFor why (Host f)) is (refused_call at offer request judged (Err w) c d s w refl)) (λ n. inr tt)
  tried_ends at offer request judged came (asks (Ok answer) c (inl e)) d s sent fault says =
      by_told (EndsFor why) came sent fault says (λ x k. absurd (cc)) (λ n. inr tt)
  tried_ends at offer request judged came (asks (Ok answer) c (inr e)) d s sent fault says =
      told_store why came e.0 e.1 sent fault says

-- What is next of an input.

abbrev IsShort : PendingRecord → Type 0
IsShort p = length p.request ≤ longest_request

-- a line isn't longer than what stands before its LF
long_first : (lines : List (List ℕ)) (front request : List ℕ) (rest : List (List ℕ)) → lines_with_front front lines ≡ request ∷ rest
    → longest_request < length front → length request ≤ longest_request → ⊥
long_first [] front request rest e h short = absurd (cc)
long_first (line ∷ lines) front request rest e h short =
    let is : front ++ line ≡ request = cc in
    absurd (omega (arith, h, short, ap (λ (x : List ℕ). length x) is, length-append front line))

not_long : (more rest request : List ℕ) (lines : List (List ℕ)) → lines_of (more ++ rest) ≡ request ∷ lines
    → length request ≤ longest_request → IsLong longest_request more → ⊥
not_long more rest request lines e short l =
    let front : List ℕ = take (longest_request + 1) more in
    let back : List ℕ = drop (longest_request + 1) more ++ rest in
    let cut : more ++ rest ≡ front ++ back =
    ap (λ (x : List ℕ). x ++ rest) (sym (take-append-drop (longest_request + 1) more))
    ∙ append_assoc front (drop (longest_request + 1) more) rest in
    long_first (lines_of back) front request lines (sym (ap lines_of cut ∙ lines_of-append front back l.unbroken) ∙ e)
    (omega (arith, l.long, length-take (longest_request + 1) more)) short

-- at the input's end no line is next
none_next : (more rest request : List ℕ) (lines : List (List ℕ)) → IsUnbroken more → rest ≡ []
    → lines_of (more ++ rest) ≡ request ∷ lines → ⊥
none_next more rest request lines u at_end e =
    let none : lines_of (more ++ rest) ≡ [] =
    ap lines_of (ap (λ (x : List ℕ). more ++ x) at_end ∙ append-nil more) ∙ lines_of-unbroken more u in
    absurd (cc)

next_ends : {variant : Variant} {meaning : Meaning} {from : SessionPlace} {new : HostStanding} {left : Option (List ℕ)}
    {taken sent input : List ℕ} (why : Refusal) (result : Result Unit SessionFault)
    (l : ServesAllLines variant meaning 1 from new left taken sent result) (r : IsRead input taken left) (request : List ℕ)
    (lines : List (List ℕ)) → lines_of (l.more ++ r.rest) ≡ request ∷ lines → length request ≤ longest_request
    → length l.calls + 1 ≤ most_lines
    → ((fault : SessionFault) → SessionStopsInLine variant meaning (length l.calls + 1) l.at new l.more l.last fault
    → EndsFor why fault)
    → RefusesOrFails why result
next_ends why (Ok done) l r request lines e short few stops =
    none_next l.more r.rest request lines (rw l.ends.1 (λ k d h. absurd (omega (arith, h)))) (r.at_end l.ends.2) e
next_ends why (Err (Host fault)) l r request lines e short few stops = stops (Host fault) l.ends
next_ends why (Err (Lines ReadFault)) l r request lines e short few stops = inr tt
next_ends why (Err (Lines WriteFault)) l r request lines e short few stops = inr tt
next_ends why (Err (Lines Memory)) l r request lines e short few stops = absurd l.ends
next_ends why (Err (Lines (BadLine line))) l r request lines e short few stops =
    absurd (none_next l.more r.rest request lines l.ends.2.unbroken (r.at_end l.ends.4) e)
next_ends why (Err (Lines (LineLong line))) l r request lines e short few stops =
    absurd (not_long l.more r.rest request lines e short l.ends.2)
next_ends why (Err (Lines TooMuch)) l r request lines e short few stops = absurd (omega (arith, few, l.ends.1))

requests_cancel : (waiting : Option PendingRecord) (a b : List (List ℕ)) → requests_with waiting a ≡ requests_with waiting b → a ≡ b
requests_cancel None a b e = e
requests_cancel (Some p) a b e = cc

-- what waits is no longer than a line
record_short : (slot : ℕ) (bytes : List ℕ) (found : Option PendingRecord) → ReadsPendingRecord slot bytes found → IfSome found IsShort
record_short slot bytes None r = tt
record_short slot bytes (Some p) r = r.0.line.short

later_short : (two three : Option PendingRecord) → IfSome two IsShort → IfSome three IsShort → IfSome (later_record two three) IsShort
later_short None three a b = b
later_short (Some two) None a b = a
later_short (Some two) (Some three) a b = chosen (nat_le three.position two.position)
  where
    chosen : (is_two : Bool) → IfSome (if is_two then Some two else Some three) IsShort
    chosen true = a
    chosen false = b

waiting_short : (two three : List ℕ) (waiting : Option PendingRecord) → IsWaiting two three waiting → IfSome waiting IsShort
waiting_short two three waiting w =
    rw w.is (later_short w.in_two w.in_three (record_short 2 two w.in_two w.reads_two) (record_short 3 three w.in_three w.reads_three))

-- a session that the host ends has a line in hand, which isn't one too many
few_by : {variant : Variant} {meaning : Meaning} {from : SessionPlace} {new : HostStanding} {left : Option (List ℕ)}
    {taken sent : List ℕ} (result : Result Unit SessionFault) (l : ServesAllLines variant meaning 1 from new left taken sent result)
    (fault : HostFault) → result ≡ Err (Host fault) → length l.calls + 1 ≤ most_lines
few_by (Ok done) l fault e = absurd (cc)
few_by (Err (Host is)) l fault e = l.ends.few
few_by (Err (Lines is)) l fault e = absurd (cc)

-- A session whose next request is refused by the digests at its end.
module _ {variant : Variant} {meaning : Meaning} {old new : SessionStanding} {result : Result Unit SessionFault}
    (s : IsSession variant meaning old new result) (slots : Slots)
    (waiting : Option PendingRecord)
    (slots_told : old.kept.slots ≡ Some slots) (w : IsWaiting (slot_front slots 2) (slot_front slots 3) waiting) (input : List ℕ)
    (left_told : old.left ≡ Some input) where
  abbrev Goes : Type 0
  Goes = SessionGoesAfterResume variant meaning s.begun s.middle (host_of new) new.left s.taken s.sent result

  abbrev first : List ℕ
  first = first_offer slots waiting

  -- the request in hand is next, where it was refused
  in_hand_by : (fault : HostFault) → result ≡ Err (Host fault) → (goes : Goes) (request : List ℕ) → IsInHand waiting goes request
      → IsNext waiting input (served_calls_in waiting goes) request
  in_hand_by fault e (inl stops) request h = record {
    lines = [];
    asked = rw h.1 (ap (λ (x : List ℕ). x ∷ []) (sym h.2));
    first = (lines_of input, refl);
    few = omega arith;
    short = rw (sym h.2) (rw h.1 at (waiting_short (slot_front slots 2) (slot_front slots 3) waiting w));
  }
  in_hand_by fault e (inr g) request h =
      let l = g.lines in
      let read = read_of old.left new.left input s.taken left_told s.consumed in
      let f = first_by s first waiting (begun_told s slots waiting slots_told w) g.first g.begins in
      record {
        lines = served_lines l.calls ++ request ∷ [];
        asked = f.told l.calls (request ∷ []);
        first = (
          lines_of (h.0 ++ read.rest),
          append_assoc (served_lines l.calls) (request ∷ []) (lines_of (h.0 ++ read.rest))
              ∙ ap (λ (x : List (List ℕ)). served_lines l.calls ++ x) (sym (next_line l.more read.rest request h.0 h.1))
              ∙ sym (lines_in l read),
        );
        few = omega (arith, few_by result l fault e, length-append (served_lines l.calls) (request ∷ []), length-served_lines l.calls);
        short = h.1.within.short;
      }

  pub next_in_hand : (fault : HostFault) → result ≡ Err (Host fault) → (request : List ℕ) → IsInHand waiting s.goes request
      → IsNext waiting input (served_calls_in waiting s.goes) request
  next_in_hand fault e request h = in_hand_by fault e s.goes request h

  module _ (key barrier : List ℕ) (d there : Digests) (starts_at : StandsAt (instance_by variant meaning key barrier) old.standing d)
      (ends_at : StandsAt (instance_by variant meaning key barrier) new.standing there) (why : Refusal) (request : List ℕ) where
    abbrev JudgedBehind : List ServedCall → Type 0
    JudgedBehind told = Judged variant meaning key barrier new.standing there ends_at why (offer_after first told) request

    at_once_ends : (stops : SessionStopsAtOnce s.begun s.taken s.sent result)
        → Begun variant meaning old.standing new.standing first waiting s.begun
        → IsNext waiting input [] request → JudgedBehind [] → EndsFor why stops.fault
    at_once_ends stops (failed same f e) n judged = told_store why s.begun f e s.sent stops.fault stops.says
    at_once_ends stops (starts same none e) n judged =
        by_told (EndsFor why) s.begun s.sent stops.fault stops.says (λ x k. absurd (cc)) (λ r. absurd (r (ap reply_text e)))
    at_once_ends stops (repeats p some call c t) n judged =
        let asked : request ∷ [] ≡ p.request ∷ n.lines = n.asked ∙ ap (λ (x : Option PendingRecord). requests_with x n.lines) some in
        let is : request ≡ p.request = cc in
        tried_ends variant meaning key barrier new.standing there ends_at why old.standing first p.request
        (subst (λ (x : List ℕ). Judged variant meaning key barrier new.standing there ends_at why first x) is judged) s.begun
        (asks call c t) d starts_at s.sent stops.fault stops.says

    lines_ends : (g : SessionGoesOn variant meaning s.begun s.middle (host_of new) new.left s.taken s.sent result)
        → IsNext waiting input (first_served_call waiting g.first ++ g.lines.calls) request
        → JudgedBehind (first_served_call waiting g.first ++ g.lines.calls) → RefusesOrFails why result
    lines_ends g n judged =
        let l = g.lines in
        let read = read_of old.left new.left input s.taken left_told s.consumed in
        let f = first_by s first waiting (begun_told s slots waiting slots_told w) g.first g.begins in
        let lines_are : n.lines ≡ served_lines l.calls ++ request ∷ [] =
        requests_cancel waiting n.lines (served_lines l.calls ++ request ∷ []) (sym n.asked ∙ f.told l.calls (request ∷ [])) in
        let all : served_lines l.calls ++ lines_of (l.more ++ read.rest) ≡ served_lines l.calls ++ request ∷ n.first.0 =
        sym (lines_in l read) ∙ sym n.first.1 ∙ ap (λ (x : List (List ℕ)). x ++ n.first.0) lines_are
        ∙ append_assoc (served_lines l.calls) (request ∷ []) n.first.0 in
        let next : lines_of (l.more ++ read.rest) ≡ request ∷ n.first.0 = append_cancel_left (served_lines l.calls) _ _ all in
        let calls = f.calls l.calls l.at.host.standing
        (served_calls variant meaning _ l.at l.calls l.serves) in
        let there_at = calls_leave variant meaning key barrier first old.standing l.at.host.standing
        (first_served_call waiting g.first ++ l.calls) calls d starts_at in
        let offer_is : offer_after first (first_served_call waiting g.first ++ l.calls) ≡ snapshot_at l.at.last =
        f.offers l.calls ∙ last_offer variant meaning _ l.at l.calls l.serves in
        next_ends why result l read request n.first.0 next n.short
        (omega (
          arith,
          n.few,
          ap (λ (x : List (List ℕ)). length x) lines_are,
          length-append (served_lines l.calls) (request ∷ []),
          length-served_lines l.calls,
        ))
        (λ fault e.
        let begins : lines_of (l.more ++ read.rest) ≡ e.line ∷ lines_of (e.held ++ read.rest) =
        next_line l.more read.rest e.line e.held e.begins in
        let is : request ≡ e.line = (let both : request ∷ n.first.0 ≡ e.line ∷ lines_of (e.held ++ read.rest) = sym next ∙ begins in cc) in
        tried_ends variant meaning key barrier new.standing there ends_at why l.at.host.standing (snapshot_at l.at.last) e.line
        (rw (sym is, sym offer_is) judged) e.came (line_tries e.asks) there_at.digests there_at.stands l.last fault e.says)

    next_by : (goes : Goes) → IsNext waiting input (served_calls_in waiting goes) request → JudgedBehind (served_calls_in waiting goes)
        → RefusesOrFails why result
    next_by (inl e) n judged =
        rw e.1.stops (at_once_ends e.1 (rw (ap (λ (h : HostStanding). h.standing) e.0) (begun_told s slots waiting slots_told w)) n judged)
    next_by (inr g) n judged = lines_ends g n judged

    pub next_refused : IsNext waiting input (served_calls_in waiting s.goes) request → JudgedBehind (served_calls_in waiting s.goes)
        → RefusesOrFails why result
    next_refused = next_by s.goes
