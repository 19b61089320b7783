-- What waits, and what fits, once the record of a next request was written, whole or torn. With it:
-- where a session stands between two lines, and what a request comes to.
use Rattle.std.proofs.lemmas.Bool.{cases_lt}
use Rattle.mm_model.specs.declared.refusal.Refusal.TheVariants as refusal
use Rattle.mm_store.proofs.Above.{slot_in-with_slot}
use Rattle.mm_recovery.specs.declared.fault.HostFault.TheVariants as host
use Rattle.mm_host.proofs.Below.{◌≡◌, ◌∙◌, ◌+◌, ◌-◌, ◌%◌, ◌<◌, ◌≤◌, ℕ, List, take, Option, None, Some, refl, sym, ap, inl, inr, arith, ◌⊎◌}
use Rattle.mm_host.proofs.Below.{nat_tests, IsLineFront, last_position, longest_request, Instance, History, total_of, PendingRecord}
use Rattle.mm_host.proofs.Below.{ReadsPendingRecord, pending_spelling, Slots, longest_slot, slot_front, slots_with, one_reading}
use Rattle.mm_host.proofs.Below.{IsNotBeyond, waiting_position, FitsHistory, FitsBy, IsSnapshotAt, IsWaiting, later_record, beyond_none}
use Rattle.mm_host.proofs.Below.{waiting_most, ◌≢◌, true, Result, Ok, Err, nat_eq, Standing, Batch, One, requests_of, LostLife, life_of}
use Rattle.mm_host.proofs.Below.{StandsFor, Answer, BatchAnswer, Refusal, answer_on, IsWithin, batch_answer_of, StoreStanding, HostFault}
use Rattle.mm_host.proofs.Below.{Resumed, Start, Answered, refusal_fault, AnswersAt, IsGrown, RequestMayBeCommitted, RecoversTo}
use Rattle.mm_host.proofs.Below.{IsRefusedAs, position_at, SessionPlace, CallsRunOver, first_served_call, subst, ◌++◌, Variant, Life}
use Rattle.mm_host.proofs.Below.{StepFault, fault_of, by_refusal, AreNewFrom, AreToldOnce, RefusesAs, ServedCall, Host, HostStanding}
use Rattle.mm_host.proofs.Leading.{answered_first, same_pending}

-- slots 2 and 3, in either order
abbrev AreSides : ℕ → ℕ → Type 0
AreSides kept other = ((kept ≡ 2) × (other ≡ 3)) ⊎ ((kept ≡ 3) × (other ≡ 2))

-- the slot of a position's record, and that of the next
sides : (n : ℕ) → AreSides (2 + n % 2) (2 + (n + 1) % 2)
sides n = elim (cases_lt (n % 2) 1) [ inl h ↦ inl (omega arith, omega arith) | inr h ↦ inr (omega arith, omega arith) ]

-- The slot of the next record was written: the other record is as before, and so are the snapshots.
pub record IsPut (slots other : Slots) (position : ℕ) (bytes : List ℕ) : Type 0 where
  pub snapshots : (n : ℕ) → slot_front other (n % 2) ≡ slot_front slots (n % 2)
  pub here : slot_front other (2 + position % 2) ≡ slot_front slots (2 + position % 2)
  pub next : slot_front other (2 + (position + 1) % 2) ≡ take longest_slot bytes

-- a slot that wasn't written shows what it did
unwritten : (slots : Slots) (bytes : List ℕ) (n m : ℕ) → n < 4 → m < 4 → (n ≡ m → ⊥)
    → slot_front (slots_with slots n bytes) m ≡ slot_front slots m
unwritten slots bytes n m small least unless = grind (arith, nat_tests, small, least, unless)

pub put_next : (slots : Slots) (position : ℕ) (bytes : List ℕ)
    → IsPut slots (slots_with slots (2 + (position + 1) % 2) bytes) position bytes
put_next slots position bytes = record {
  snapshots = λ n. unwritten slots bytes (2 + (position + 1) % 2) (n % 2) (omega arith) (omega arith) (λ e. omega (arith, e));
  here = unwritten slots bytes (2 + (position + 1) % 2) (2 + position % 2) (omega arith) (omega arith) (λ e. omega (arith, e));
  next = ap (λ (x : List ℕ). take longest_slot x) (slot_in-with_slot slots (2 + (position + 1) % 2) bytes);
}

-- The later of two records is one of them, and of no earlier position than either.
record IsLater (a b w : Option PendingRecord) : Type 0 where
  is : (w ≡ a) ⊎ (w ≡ b)
  over_first : waiting_position a ≤ waiting_position w
  over_second : waiting_position b ≤ waiting_position w

later_swap : (a b w : Option PendingRecord) → IsLater a b w → IsLater b a w
later_swap a b w l =
    record { is = elim l.is [ inl e ↦ inr e | inr e ↦ inl e ]; over_first = l.over_second; over_second = l.over_first }

later_is : (a b : Option PendingRecord) → IsLater a b (later_record a b)
later_is None b = record { is = inr refl; over_first = omega arith; over_second = omega arith }
later_is (Some p) None = record { is = inl refl; over_first = omega arith; over_second = omega arith }
later_is (Some p) (Some q) = grind (arith, nat_tests)

later_only : (a b w : Option PendingRecord) → IsLater a b w → waiting_position a < waiting_position b → b ≡ w
later_only a b w l h = elim l.is [ inl e ↦ absurd (omega (arith, h, l.over_second, ap waiting_position e)) | inr e ↦ sym e ]

-- what waits, by the record of one slot and that of the other
record Reads (slots : Slots) (kept other : ℕ) (w : Option PendingRecord) : Type 0 where
  here : Option PendingRecord
  there : Option PendingRecord
  reads_here : ReadsPendingRecord kept (slot_front slots kept) here
  reads_there : ReadsPendingRecord other (slot_front slots other) there
  later_of : IsLater here there w

reads_of : (slots : Slots) (kept other : ℕ) (w : Option PendingRecord) → AreSides kept other
    → IsWaiting (slot_front slots 2) (slot_front slots 3) w
    → Reads slots kept other w
reads_of slots kept other w (inl s) a = rw (s.0, s.1) (record {
  here = a.in_two;
  there = a.in_three;
  reads_here = a.reads_two;
  reads_there = a.reads_three;
  later_of = rw a.is (later_is a.in_two a.in_three);
})
reads_of slots kept other w (inr s) a = rw (s.0, s.1) (record {
  here = a.in_three;
  there = a.in_two;
  reads_here = a.reads_three;
  reads_there = a.reads_two;
  later_of = later_swap a.in_two a.in_three w
      (rw a.is (later_is a.in_two a.in_three));
})

waits_of : (slots : Slots) (kept other : ℕ) (here : Option PendingRecord) (next : PendingRecord) → AreSides kept other
    → ReadsPendingRecord kept (slot_front slots kept) here → ReadsPendingRecord other (slot_front slots other) (Some next)
    → waiting_position here < next.position → IsWaiting (slot_front slots 2) (slot_front slots 3) (Some next)
waits_of slots kept other here next (inl s) r t h = record {
  in_two = here;
  in_three = Some next;
  reads_two = rw s.0 at r;
  reads_three = rw s.1 at t;
  is = later_only here (Some next) (later_record here (Some next)) (later_is here (Some next)) h;
}
waits_of slots kept other here next (inr s) r t h = record {
  in_two = Some next;
  in_three = here;
  reads_two = rw s.1 at t;
  reads_three = rw s.0 at r;
  is = later_only here (Some next) (later_record (Some next) here)
      (later_swap (Some next) here (later_record (Some next) here) (later_is (Some next) here)) h;
}

-- the record that was written whole waits

pub record IsNext (position : ℕ) (next : PendingRecord) (bytes : List ℕ) : Type 0 where
  pub follows : next.position ≡ position + 1
  pub most : next.position ≤ last_position
  pub line : IsLineFront longest_request next.request
  pub spelled : take longest_slot bytes ≡ pending_spelling next

pub waits_next : (slots other : Slots) (position : ℕ) (bytes : List ℕ) (w : Option PendingRecord) (next : PendingRecord)
    → IsWaiting (slot_front slots 2) (slot_front slots 3) w → waiting_position w ≤ position → IsNext position next bytes
    → IsPut slots other position bytes → IsWaiting (slot_front other 2) (slot_front other 3) (Some next)
waits_next slots other position bytes w next a h n p =
    let r = reads_of slots (2 + position % 2) (2 + (position + 1) % 2) w (sides position) a in
    waits_of other (2 + position % 2) (2 + (position + 1) % 2) r.here next (sides position)
    (rw p.here r.reads_here) (
      record {
        least = omega (arith, n.follows);
        most = n.most;
        line = n.line;
        parity = ap (λ (m : ℕ). 2 + m % 2) (sym n.follows);
      },
      p.next ∙ n.spelled,
    ) (omega (arith, r.later_of.over_first, h, n.follows))

-- a torn record

-- what isn't in this slot is of the other parity
elsewhere : (slot other position : ℕ) (xs ys : List ℕ) (a b w : Option PendingRecord) → ReadsPendingRecord slot xs a
    → ReadsPendingRecord other ys b
    → other ≡ 2 + (position + 1) % 2 → (w ≡ a) ⊎ (w ≡ b) → waiting_position a ≤ waiting_position w
    → (w ≡ a) ⊎ (waiting_position w % 2 ≡ (position + 1) % 2)
elsewhere slot other position xs ys a b w v u n (inl e) h = inl e
elsewhere slot other position xs ys None None w v u n (inr e) h = inl e
elsewhere slot other position xs ys (Some q) None w v u n (inr e) h = absurd (omega (arith, v.0.least, h, ap waiting_position e))
elsewhere slot other position xs ys a (Some q) w v u n (inr e) h = inr (omega (arith, n, u.0.parity, ap waiting_position e))

-- Beside a record of this position, one of no later position than the next waits only as the next.
torn : (slots other : Slots) (position : ℕ) (bytes : List ℕ) (w v : Option PendingRecord)
    → IsWaiting (slot_front slots 2) (slot_front slots 3) w
    → waiting_position w ≡ position → IsWaiting (slot_front other 2) (slot_front other 3) v → waiting_position v ≤ position + 1
    → IsPut slots other position bytes → (v ≡ w) ⊎ (waiting_position v ≡ position + 1)
torn slots other position bytes w v a at b few p =
    let here : ℕ = 2 + position % 2 in
    let there : ℕ = 2 + (position + 1) % 2 in
    let r = reads_of slots here there w (sides position) a in
    let t = reads_of other here there v (sides position) b in
    let same : t.here ≡ r.here = one_reading here (slot_front slots here) t.here r.here
    (rw p.here at t.reads_here) r.reads_here in
    let kept : w ≡ r.here = elim (elsewhere here there position _ _ r.here r.there w r.reads_here r.reads_there refl r.later_of.is
    r.later_of.over_first) [
      | inl e ↦ e
      | inr odd ↦ absurd (omega (arith, odd, at))
    ] in
    elim (elsewhere here there position _ _ t.here t.there v t.reads_here t.reads_there refl t.later_of.is t.later_of.over_first) [
      | inl e ↦ inl (e ∙ same ∙ sym kept)
      | inr odd ↦ inr (omega (arith, odd, few, at, t.later_of.over_first, ap waiting_position (same ∙ sym kept)))
    ]

-- and what fits

fits_moved : (i : Instance) (y : History) (slots other : Slots) (position : ℕ) (bytes : List ℕ) (w : Option PendingRecord)
    → IsPut slots other position bytes → FitsBy i slots y w → FitsBy i other y w
fits_moved i y slots other position bytes None p f = (f.0, rw (p.snapshots 0) f.1)
fits_moved i y slots other position bytes (Some q) p f = (f.0, rw (p.snapshots (q.position - 1)) f.1)

pub fits_next : (i : Instance) (y : History) (slots : Slots) (position : ℕ) (v : Option PendingRecord) → waiting_position v ≡ position + 1
    → position ≡ total_of y.batches → IsSnapshotAt i y (slot_front slots (position % 2)) position → FitsBy i slots y v
fits_next i y slots position None e at h = absurd (omega (arith, e))
fits_next i y slots position (Some q) e at h =
    let before : position ≡ q.position - 1 = omega (arith, e) in
    (inl (e ∙ ap (λ (n : ℕ). n + 1) at), rw before at h)

pub torn_fits : (i : Instance) (y : History) (slots other : Slots) (position : ℕ) (bytes : List ℕ) (f : FitsHistory i slots y)
    → waiting_position f.waiting ≡ position → position ≡ total_of y.batches → IsSnapshotAt i y (slot_front slots (position % 2)) position
    → IsPut slots other position bytes → IsNotBeyond other (total_of y.batches + 1) → FitsHistory i other y
torn_fits i y slots other position bytes f h at holds p n = record {
  waiting = n.waiting;
  is_waiting = n.is_waiting;
  fits = elim (torn slots other position bytes f.waiting n.waiting f.is_waiting h n.is_waiting (omega (arith, n.most, at)) p) [
    | inl e ↦ rw e (fits_moved i y slots other position bytes f.waiting p f.fits)
    | inr e ↦ fits_next i y other position n.waiting e at (rw (p.snapshots position) holds)
  ];
}

-- What waits has one of the positions, and so has what it follows.

pub waits_most : (two three : List ℕ) (w : Option PendingRecord) → IsWaiting two three w → waiting_position w ≤ last_position
waits_most two three None a = omega arith
waits_most two three (Some p) a = waiting_most two three (Some p) p a refl

pub fits_most : (i : Instance) (slots : Slots) (y : History) (w : Option PendingRecord) → FitsBy i slots y w
    → waiting_position w ≤ last_position → total_of y.batches ≤ last_position
fits_most i slots y None f h = omega (arith, f.0)
fits_most i slots y (Some p) (inl next, holds) h = omega (arith, next, h)
fits_most i slots y (Some p) (inr last, holds) h = omega (arith, last.0, h)

pub fits_room : (i : Instance) (slots : Slots) (y : History) → FitsHistory i slots y → total_of y.batches ≤ last_position
fits_room i slots y f =
    fits_most i slots y f.waiting f.fits (waits_most (slot_front slots 2) (slot_front slots 3) f.waiting f.is_waiting)

-- A record behind the last position isn't read: what waited goes on to wait.

later_none : (a : Option PendingRecord) → a ≡ later_record a None
later_none None = refl
later_none (Some p) = refl

waits_alone : (slots : Slots) (kept other : ℕ) (here : Option PendingRecord) → AreSides kept other
    → ReadsPendingRecord kept (slot_front slots kept) here → ReadsPendingRecord other (slot_front slots other) None
    → IsWaiting (slot_front slots 2) (slot_front slots 3) here
waits_alone slots kept other here (inl s) r t = record {
  in_two = here;
  in_three = None;
  reads_two = rw s.0 at r;
  reads_three = rw s.1 at t;
  is = later_none here;
}
waits_alone slots kept other here (inr s) r t = record {
  in_two = None;
  in_three = here;
  reads_two = rw s.1 at t;
  reads_three = rw s.0 at r;
  is = refl;
}

-- beside what waited
waits_still : (slots other : Slots) (position : ℕ) (bytes : List ℕ) (w : Option PendingRecord)
    → IsWaiting (slot_front slots 2) (slot_front slots 3) w → waiting_position w ≡ position
    → ReadsPendingRecord (2 + (position + 1) % 2) (slot_front other (2 + (position + 1) % 2)) None → IsPut slots other position bytes
    → IsWaiting (slot_front other 2) (slot_front other 3) w
waits_still slots other position bytes w a at none p =
    let here : ℕ = 2 + position % 2 in
    let there : ℕ = 2 + (position + 1) % 2 in
    let r = reads_of slots here there w (sides position) a in
    let kept : w ≡ r.here = elim (elsewhere here there position _ _ r.here r.there w r.reads_here r.reads_there refl r.later_of.is
    r.later_of.over_first) [
      | inl e ↦ e
      | inr odd ↦ absurd (omega (arith, odd, at))
    ] in
    rw kept (waits_alone other here there r.here (sides position) (rw p.here r.reads_here) none)

pub full_fits : (i : Instance) (y : History) (slots other : Slots) (position : ℕ) (next : PendingRecord) (f : FitsHistory i slots y)
    → waiting_position f.waiting ≡ position → position ≡ last_position → next.position ≡ position + 1
    → take longest_slot (pending_spelling next) ≡ pending_spelling next → IsPut slots other position (pending_spelling next)
    → FitsHistory i other y
full_fits i y slots other position next f h full at spelled p = record {
  waiting = f.waiting;
  is_waiting = waits_still slots other position (pending_spelling next) f.waiting f.is_waiting h
      (beyond_none (2 + (position + 1) % 2) (slot_front other (2 + (position + 1) % 2)) next (omega (arith, at, full)) (p.next ∙ spelled))
      p;
  fits = fits_moved i y slots other position (pending_spelling next) f.waiting p f.fits;
}

-- Where a session stands between two lines, and what a request comes to.

-- Between two lines a session stands where a recovery left it, or a line, which is asked as one. The last answer is that of the
-- history's end.
pub record IsSettledAt (all others : List (List ℕ)) (asked : List Batch) (i : Instance) (at : SessionPlace) : Type 0 where
  pub from : History
  pub slots : Slots
  pub waiting : Option PendingRecord
  pub came : RecoversTo all others asked i from slots waiting at.host (Ok at.last)
  pub open came use *
  pub recorded : waiting_position waiting ≡ position_at at.last
  pub at_end : position_at at.last ≡ total_of came.after.batches

-- What a request comes to, which waits or is a line's.
pub record CameTo (all others : List (List ℕ)) (asked : List Batch) (i : Instance) (y : History) (waiting : Option PendingRecord)
    (standing : Standing) (kept : StoreStanding) (came : Result Resumed HostFault) : Type 0 where
  pub after : History
  pub stands : StandsFor i standing after
  pub within : IsWithin all others asked i after
  pub slots_after : Slots
  pub honest : kept.is_honest ≡ true
  pub told : kept.slots ≡ Some slots_after
  pub fits : IsNotBeyond slots_after (total_of after.batches + 1) → FitsHistory i slots_after after
  pub whole : came ≢ Err host.Store → FitsHistory i slots_after after
  pub grown : IsGrown y waiting after
  pub only : (after.batches ≡ y.batches) ⊎ RequestMayBeCommitted came
  pub answers : (answer : Answer) → came ≡ Ok (Answered answer) → AnswersAt i y waiting after answer
  pub room : total_of after.batches ≤ last_position
  pub refuses : (why : Refusal) → came ≡ Err (host.Refused why) → RefusesAs {T = Unit} (Err (Host (host.Refused why))) i.variant after
  pub powered : life_of i.variant y ≢ LostLife → life_of i.variant after ≢ LostLife

-- what waits was refused
pub refused_in : (why : Refusal) (variant : Variant) (after : History) → IsRefusedAs why (life_of variant after)
    → RefusesAs {T = Unit} (Err (Host (host.Refused why))) variant after
refused_in refusal.Full variant after h = absurd h
refused_in _ variant after h = h

-- at the last position a line is refused
pub refused_last : (why : Refusal) (variant : Variant) (after : History) → total_of after.batches ≡ last_position
    → (why ≡ refusal.Full) ⊎ IsRefusedAs why (life_of variant after) → RefusesAs {T = Unit} (Err (Host (host.Refused why))) variant after
refused_last why variant after full (inl e) = rw e full
refused_last why variant after full (inr r) = refused_in why variant after r

-- by a device's fault, or for want of memory, or as it is told
pub broken_refused : (why : Refusal) (life : Life) (broken : StepFault) → fault_of why ≡ Some broken → IsRefusedAs why life
broken_refused why how broken has = grind (arith, broken, has)

pub refused_with : (why : Refusal) (variant : Variant) (after : History)
    → (why ≡ refusal.Memory) ⊎ RefusesAs {T = Unit} (Err (Host (host.Refused why))) variant after
    → RefusesAs {T = Unit} (Err (Host (refusal_fault why))) variant after
refused_with why variant after h =
    by_refusal (λ (v : Refusal) (f : HostFault).
    (v ≡ refusal.Memory) ⊎ RefusesAs {T = Unit} (Err (Host (host.Refused v))) variant after
    → RefusesAs {T = Unit} (Err (Host f)) variant after)
    (λ k. tt) (λ v n k. elim k [ inl e ↦ absurd (n e) | inr r ↦ r ]) why h

pub answers_of : (i : Instance) (y after : History) (p : PendingRecord) (answer : Answer) → AnswersAt i y (Some p) after answer
    → (p.position ≡ total_of after.batches)
    × (batch_answer_of answer ≡ answer_on i after (One p.request) (nat_eq p.position (total_of y.batches)))
answers_of i y after p answer a = let same : a.p ≡ p = same_pending p a.p a.waits in (rw same at a.position, rw same at a.answer_is)

module _ {all others : List (List ℕ)} {asked : List Batch} {i : Instance} {y : History} {slots : Slots} {here : HostStanding} where
  abbrev pub came_by : (waiting : Option PendingRecord) (came : Result Resumed HostFault)
      → RecoversTo all others asked i y slots waiting here came → CameTo all others asked i y waiting here.standing here.kept came
  came_by waiting came r = record {
    after = r.after;
    stands = r.stands;
    within = r.within;
    slots_after = r.slots_after;
    honest = r.honest;
    told = r.told;
    fits = λ n. r.fits;
    whole = λ n. r.fits;
    grown = r.grown;
    only = r.only;
    answers = λ answer e. rw e at r.comes;
    room = fits_room i r.slots_after r.after r.fits;
    refuses = λ why e. refused_in why i.variant r.after (rw e at r.comes);
    powered = r.powered;
  }

  -- what waited, and was told
  pub record Went (waiting : Option PendingRecord) (first : Resumed)
      (r : RecoversTo all others asked i y slots waiting here (Ok first)) : Type 0 where
    pub recorded : waiting_position waiting ≡ position_at first
    pub at_end : position_at first ≡ total_of r.after.batches
    pub run : CallsRunOver i.meaning (requests_of y.batches) (first_served_call waiting first) (requests_of r.after.batches)

  pub went_first : (waiting : Option PendingRecord) (first : Resumed) → FitsBy i slots y waiting
      → (r : RecoversTo all others asked i y slots waiting here (Ok first)) → Went waiting first r
  went_first None (Start first) f r = let none : FitsBy i r.slots_after r.after None = rw r.same_wait at r.fits.fits in
      record { recorded = refl; at_end = sym none.0; run = ap requests_of r.grown }
  went_first None (Answered answer) f r = let clash : None ≡ Some r.comes.p = r.comes.waits in absurd (cc)
  went_first (Some p) (Start first) f r = let clash : Some p ≡ None = r.comes.0 in absurd (cc)
  went_first (Some p) (Answered answer) f r =
      let a = answers_of i y r.after p answer r.comes in
      let at : answer.position ≡ total_of r.after.batches = ap (λ (b : BatchAnswer). b.position) a.1 in
      record { recorded = a.0 ∙ sym at; at_end = at; run = answered_first i y r.after p answer f.0 a.0 a.1 r.grown }

  -- with the lines behind it
  pub once_first : (waiting : Option PendingRecord) (first : Resumed)
      → (r : RecoversTo all others asked i y slots waiting here (Ok first)) → (calls : List ServedCall)
      → AreNewFrom (total_of r.after.batches) calls → AreToldOnce (total_of y.batches) waiting (first_served_call waiting first ++ calls)
  once_first None (Start first) r calls new =
      subst (λ (bs : List Batch). AreNewFrom (total_of bs) calls) r.grown new
  once_first None (Answered answer) r calls new = let clash : None ≡ Some r.comes.p = r.comes.waits in absurd (cc)
  once_first (Some p) (Start first) r calls new = let clash : Some p ≡ None = r.comes.0 in absurd (cc)
  once_first (Some p) (Answered answer) r calls new =
      let a = answers_of i y r.after p answer r.comes in (
        refl,
        ap (λ (b : BatchAnswer). b.position) a.1 ∙ sym a.0,
        ap (λ (b : BatchAnswer). b.again) a.1,
        subst (λ (n : ℕ). AreNewFrom n calls) (sym a.0) new,
      )

  abbrev pub settled_by : (waiting : Option PendingRecord) (last : Resumed) → FitsBy i slots y waiting
      → RecoversTo all others asked i y slots waiting here (Ok last)
      → IsSettledAt all others asked i (record { host = here; last = last })
  settled_by waiting last f r = record {
    from = y;
    slots = slots;
    waiting = waiting;
    came = r;
    recorded = (went_first waiting last f r).recorded;
    at_end = (went_first waiting last f r).at_end;
  }
