-- One session of a client over an honest store. With it: what the slots of records tell of what
-- waits.
use Rattle.std.specs.List.{AllByRecursion}
use Rattle.std.proofs.Common.{◌≡◌, ◌∙◌, ◌⊎◌, ◌+◌, ◌≤◌, ◌%◌, ℕ, List, take, Option, None, Some, refl, sym, ap, inl, inr, subst, arith, ◌≢◌}
use Rattle.std.proofs.Common.{◌<◌, ◌&&◌, ◌||◌, Bool, true, false, not, [], ◌∷◌, ◌++◌, length, Result, append_assoc, length-append}
use Rattle.std.proofs.lemmas.Bool.{cases_lt}
use Rattle.std.proofs.lemmas.Bool.Decides.{nat_tests}
use Rattle.std.proofs.lemmas.List.{take_all, append-nil}
use Rattle.mm_host.specs.Sessions.{SessionStopsAtOnce}
use Rattle.mm_client.specs.ClientLife.{ClientMemory, Hearing, has_heard, heard_position, is_sure_after, memory_after, IsHeard, replies_of}
use Rattle.mm_client.specs.ClientLife.{IsMomentOf, IsTrueReply}
use Rattle.mm_client.specs.declared.heard.HeardReply.{HeardReply}
use Rattle.mm_client.proofs.Beginning.{Began, answers, at_start, all_true_on, heard_within}
use Rattle.mm_client.proofs.Below.{IsLineFront, last_position, longest_request, IsPending, PendingRecord, ReadsPendingRecord}
use Rattle.mm_client.proofs.Below.{pending_spelling, Resumed, Slots, longest_slot, slot_front, IsWaiting, later_record, waiting_position}
use Rattle.mm_client.proofs.Below.{record_for, position_at, one_reading, longest_slot-is, length-pending_spelling, Variant, Meaning, Start}
use Rattle.mm_client.proofs.Below.{Answered, StoreStanding, IsSession, ServedCall, ServesCalls, SessionPlace, SessionStanding, host_of}
use Rattle.mm_client.proofs.Below.{SessionFault, served_lines, first_served_call, HasUntoldRequest, IsNextOrLast, WaitsInSlots, one_waiting}
use Rattle.mm_client.proofs.Below.{reached_position, each_append}
use Rattle.mm_client.proofs.Trace.{IsAsBefore, resumed_so, shown}

-- What the slots of records tell of what waits.

later_either : (a b : Option PendingRecord) (q : PendingRecord) → Some q ≡ later_record a b → (a ≡ Some q) ⊎ (b ≡ Some q)
later_either None b q e = inr (sym e)
later_either (Some p) None q e = inl (sym e)
later_either (Some p) (Some r) q e = grind (arith, nat_tests, e)

later_over : (a b : Option PendingRecord)
    → (waiting_position a ≤ waiting_position (later_record a b)) × (waiting_position b ≤ waiting_position (later_record a b))
later_over None b = (omega arith, omega arith)
later_over (Some p) None = (omega arith, omega arith)
later_over (Some p) (Some q) = grind (arith, nat_tests)

-- what a slot holds of a record
pub record IsIn (slots : Slots) (q : PendingRecord) : Type 0 where
  pub pending : IsPending (2 + q.position % 2) q
  pub spelled : slot_front slots (2 + q.position % 2) ≡ pending_spelling q

in_slot : (slots : Slots) (q : PendingRecord) (k : ℕ) (r : Option PendingRecord) → r ≡ Some q
    → ReadsPendingRecord k (slot_front slots k) r → IsIn slots q
in_slot slots q k None e h = absurd (cc)
in_slot slots q k (Some p) e h =
    let same : p ≡ q = cc in
    let valid : IsPending k q = subst (λ (x : PendingRecord). IsPending k x) same h.0 in
    record {
      pending = subst (λ (n : ℕ). IsPending n q) valid.parity valid;
      spelled = ap (λ (n : ℕ). slot_front slots n) (sym valid.parity) ∙ h.1 ∙ ap pending_spelling same;
    }

-- what waits is in its slot
pub waits_in : (slots : Slots) (q : PendingRecord) → IsWaiting (slot_front slots 2) (slot_front slots 3) (Some q) → IsIn slots q
waits_in slots q a = elim (later_either a.in_two a.in_three q a.is) [
  | inl two ↦ in_slot slots q 2 a.in_two two a.reads_two
  | inr three ↦ in_slot slots q 3 a.in_three three a.reads_three
]

-- and no other in its slot has a later position
pub in_most : (slots : Slots) (w : Option PendingRecord) (q : PendingRecord) → IsWaiting (slot_front slots 2) (slot_front slots 3) w
    → IsIn slots q → q.position ≤ waiting_position w
in_most slots w q a h =
    let over = later_over a.in_two a.in_three in
    elim (cases_lt (q.position % 2) 1) [
      | inl even ↦
          let at : 2 + q.position % 2 ≡ 2 = omega arith in
          let is : a.in_two ≡ Some q = one_reading 2 (slot_front slots 2) a.in_two (Some q) a.reads_two
          (subst (λ (n : ℕ). IsPending n q) at h.pending, ap (λ (n : ℕ). slot_front slots n) (sym at) ∙ h.spelled) in
          omega (arith, over.0, ap waiting_position is, ap waiting_position a.is)
      | inr odd ↦
          let at : 2 + q.position % 2 ≡ 3 = omega arith in
          let is : a.in_three ≡ Some q = one_reading 3 (slot_front slots 3) a.in_three (Some q) a.reads_three
          (subst (λ (n : ℕ). IsPending n q) at h.pending, ap (λ (n : ℕ). slot_front slots n) (sym at) ∙ h.spelled) in
          omega (arith, over.1, ap waiting_position is, ap waiting_position a.is)
    ]

-- the record that was written for a line is this one
pub record_is : (k : ℕ) (last : Resumed) (line : List ℕ) (q : PendingRecord) → k ≡ 2 + (position_at last + 1) % 2
    → IsLineFront longest_request line → position_at last + 1 ≤ last_position → IsPending k q
    → pending_spelling q ≡ take longest_slot (pending_spelling (record_for last line)) → record_for last line ≡ q
record_is k last line q at front most valid e =
    let r : PendingRecord = record_for last line in
    let whole : take longest_slot (pending_spelling r) ≡ pending_spelling r =
    take_all longest_slot (pending_spelling r) (omega (arith, front.short, longest_slot-is, length-pending_spelling r)) in
    let is : IsPending k r = record { least = omega arith; most = most; line = front; parity = at } in
    let same : Some r ≡ Some q = one_reading k (pending_spelling q) (Some r) (Some q) (is, e ∙ whole) (valid, refl) in
    cc

-- One session of a client over an honest store: what stands behind it.

-- this is the next of the list behind these requests
abbrev pub IsNextIn : List (List ℕ) → List (List ℕ) → List ℕ → Type 0
IsNextIn list requests request = (later : List (List ℕ)) × (requests ++ request ∷ later ≡ list)

-- What stands between two sessions: what waits for the next position is the next of the list; and nothing does where the client is
-- sure.
pub record Stands (meaning : Meaning) (list : List (List ℕ)) (base : ℕ) (slots : Option Slots) (requests : List (List ℕ))
    (m : ClientMemory) : Type 0 where
  pub moment : IsMomentOf meaning list requests m
  pub since : base ≤ length requests
  pub next : (p : PendingRecord) → WaitsInSlots slots (Some p) → p.position ≡ length requests + 1 → IsNextIn list requests p.request
  pub asked : m.is_sure ≡ true → (p : PendingRecord) → WaitsInSlots slots (Some p) → p.position ≢ length requests + 1

-- slots that show the same records

pub told_slots : (slots : Option Slots) (k : ℕ) (here : List ℕ) → shown slots k ≡ Some here
    → (s : Slots) × (slots ≡ Some s) × (slot_front s k ≡ here)
told_slots None k here e = absurd (cc)
told_slots (Some s) k here e = (s, refl, cc)

pub some_is : {A : Type 0} (a b : A) → Some a ≡ Some b → a ≡ b
some_is a b e = cc

pub waits_still : (old new : StoreStanding) (w : Option PendingRecord) → IsAsBefore 2 old new → IsAsBefore 3 old new
    → WaitsInSlots old.slots w → WaitsInSlots new.slots w
waits_still old new w two three h =
    let here = told_slots new.slots 2 (slot_front h.shown 2) (two.shows ∙ ap (λ (s : Option Slots). shown s 2) h.told) in
    let there : slot_front here.0 3 ≡ slot_front h.shown 3 =
    some_is (slot_front here.0 3) (slot_front h.shown 3)
    (sym (ap (λ (s : Option Slots). shown s 3) here.1) ∙ three.shows ∙ ap (λ (s : Option Slots). shown s 3) h.told) in
    record {
      shown = here.0;
      told = here.1;
      is_waiting = rw (here.2, there) h.is_waiting;
    }

pub same_waits : (slots : Option Slots) (v w : Option PendingRecord) → WaitsInSlots slots v → WaitsInSlots slots w → v ≡ w
same_waits slots v w a b =
    let same : a.shown ≡ b.shown = some_is a.shown b.shown (sym a.told ∙ b.told) in
    one_waiting (slot_front b.shown 2) (slot_front b.shown 3) v w
    (subst (λ (s : Slots). IsWaiting (slot_front s 2) (slot_front s 3) v) same a.is_waiting) b.is_waiting

-- what is shown of a record that waits
pub waits_shown : (slots : Option Slots) (q : PendingRecord) → (h : WaitsInSlots slots (Some q))
    → shown slots (2 + q.position % 2) ≡ Some (pending_spelling q)
waits_shown slots q h =
    ap (λ (s : Option Slots). shown s (2 + q.position % 2)) h.told
    ∙ ap (λ (x : List ℕ). Some x) (waits_in h.shown q h.is_waiting).spelled

-- what the client remembers then
module _ (meaning : Meaning) (list requests after later : List (List ℕ)) (m : ClientMemory) (h : Hearing)
    (before : IsMomentOf meaning list requests m) where
  pub moment_then : (more : List (List ℕ)) → requests ++ more ≡ after → after ++ later ≡ list
      → AllByRecursion (IsTrueReply meaning after) h.replies
      → (is_sure_after m.is_sure h ≡ true → heard_position m.position h.replies ≡ length after)
      → IsMomentOf meaning list after (memory_after m h)
  moment_then more e first heard sure =
      let size = ap (λ (xs : List (List ℕ)). length xs) e in
      let grown = length-append requests more in
      record {
        later = later;
        first = first;
        known = heard_within meaning after m.position h.replies (omega (arith, before.known, size, grown)) heard;
        sure = sure;
        replies = each_append (IsTrueReply meaning after) m.replies h.replies
            (all_true_on meaning requests more after m.replies e before.replies) heard;
      }

pub sure_cases : (whole was_sure heard : Bool) → (whole || (not was_sure && heard)) ≡ true
    → (whole ≡ true) ⊎ ((was_sure ≡ false) × (heard ≡ true))
sure_cases true was_sure heard e = inl refl
sure_cases false false true e = inr (refl, refl)
sure_cases false false false e = absurd (cc)
sure_cases false true heard e = absurd (cc)

no_replies : (replies lost : List HeardReply) → replies ++ lost ≡ [] → replies ≡ []
no_replies [] lost e = refl
no_replies (r ∷ replies) lost e = absurd (cc)

-- where the reply of one is heard, all are
pub lost_none : (replies lost told : List HeardReply) → has_heard replies ≡ true → replies ++ lost ≡ told → length told ≤ 1 → lost ≡ []
lost_none [] lost told h e few = absurd (cc)
lost_none (r ∷ replies) [] told h e few = refl
lost_none (r ∷ replies) (l ∷ lost) told h e few =
    absurd (omega (
      arith,
      ap (λ (xs : List HeardReply). length xs) e,
      length-append (r ∷ replies) (l ∷ lost),
      few,
    ))

pub first_few : (waiting : Option PendingRecord) (first : Resumed) → length (replies_of (first_served_call waiting first)) ≤ 1
first_few None first = omega arith
first_few (Some p) (Start bytes) = omega arith
first_few (Some p) (Answered answer) = omega arith

pub none_served : (calls : List ServedCall) (rest : List (List ℕ)) → [] ≡ served_lines calls ++ rest → calls ≡ []
none_served [] rest e = refl
none_served (c ∷ calls) rest e = absurd (cc)

-- the position that a session reached
reached_all : (variant : Variant) (meaning : Meaning) (waiting : Option PendingRecord) (c : ServedCall) (calls : List ServedCall)
    (from to : SessionPlace) → from.last ≡ Answered c.answer → ServesCalls variant meaning from calls to
    → reached_position waiting (c ∷ calls) ≡ position_at to.last
reached_all variant meaning None c [] from to is s = sym (ap (λ (p : SessionPlace). position_at p.last) s ∙ ap position_at is)
reached_all variant meaning (Some p) c [] from to is s = sym (ap (λ (p : SessionPlace). position_at p.last) s ∙ ap position_at is)
reached_all variant meaning None c (d ∷ calls) from to is s =
    reached_all variant meaning None d calls (record { host = s.host; last = Answered d.answer }) to refl s.rest
reached_all variant meaning (Some p) c (d ∷ calls) from to is s =
    reached_all variant meaning (Some p) d calls (record { host = s.host; last = Answered d.answer }) to refl s.rest

pub reached_so : (variant : Variant) (meaning : Meaning) (waiting : Option PendingRecord) (first : Resumed) (calls : List ServedCall)
    (from to : SessionPlace) → Began waiting first → from.last ≡ first → ServesCalls variant meaning from calls to
    → reached_position waiting (first_served_call waiting first ++ calls) ≡ position_at to.last
reached_so variant meaning None (Start bytes) [] from to b is s =
    sym (ap (λ (p : SessionPlace). position_at p.last) s ∙ ap position_at is)
reached_so variant meaning None (Start bytes) (c ∷ calls) from to b is s =
    reached_all variant meaning None c calls (record { host = s.host; last = Answered c.answer }) to refl s.rest
reached_so variant meaning (Some p) (Answered answer) calls from to b is s =
    reached_all variant meaning (Some p) (record { line = p.request; answer = answer }) calls from to is s
reached_so variant meaning None (Answered answer) calls from to (at_start n bytes e) is s = absurd (cc)
reached_so variant meaning None (Answered answer) calls from to (answers p n a e) is s = absurd (cc)
reached_so variant meaning (Some p) (Start bytes) calls from to (at_start n b e) is s = absurd (cc)
reached_so variant meaning (Some p) (Start bytes) calls from to (answers q n a e) is s = absurd (cc)

pub waited_most : (w : Option PendingRecord) (n : ℕ) → ((p : PendingRecord) → w ≡ Some p → p.position ≡ n) → waiting_position w ≤ n
waited_most None n h = omega arith
waited_most (Some p) n h = omega (arith, h p refl)

pub waits_least : (requests : List (List ℕ)) (w : Option PendingRecord) (n : ℕ) (first : Resumed) → IsNextOrLast requests w
    → ((p : PendingRecord) → w ≡ Some p → p.position ≡ n) → (1 ≤ n) ⊎ (first_served_call w first ≡ [])
waits_least requests None n first w h = inr refl
waits_least requests (Some p) n first (inl next) h = inl (omega (arith, next, h p refl))
waits_least requests (Some p) n first (inr last) h =
    inl (omega (
      arith,
      last.0,
      h p refl,
      ap (λ (xs : List (List ℕ)). length xs) last.2,
      length-append last.1 (p.request ∷ []),
    ))

pub waits_none : (requests : List (List ℕ)) (w : Option PendingRecord) (n : ℕ) → IsNextOrLast requests w → n ≤ length requests → w ≡ None
    → n ≡ 0
waits_none requests None n w h e = omega (arith, h, ap (λ (xs : List (List ℕ)). length xs) w)
waits_none requests (Some p) n w h e = absurd (cc)

module _ {variant : Variant} {meaning : Meaning} {old new : SessionStanding} {result : Result Unit SessionFault}
    (s : IsSession variant meaning old new result) (w : Option PendingRecord) (waits_here : WaitsInSlots old.kept.slots w)
    (honest : old.kept.is_honest ≡ true) (requests between after : List (List ℕ)) (waits : IsNextOrLast requests w)
    (room : length after ≤ last_position) (before wanted : List (List ℕ)) (m : ClientMemory)
    (stands : Stands meaning (before ++ wanted) (length before) old.kept.slots requests m) (h : Hearing) where
  abbrev list : List (List ℕ)
  list = before ++ wanted

  abbrev Then : Type 0
  Then = Stands meaning list (length before) new.kept.slots after (memory_after m h)

  -- it stops at once

  abbrev StoppedHand : List ℕ → Type 0
  StoppedHand request = (p : PendingRecord) × (w ≡ Some p) × (p.request ≡ request)

  stopped_so : (k : ℕ) → 2 ≤ k → k < 4 → host_of new ≡ s.middle → IsAsBefore k old.kept new.kept
  stopped_so k least most same =
      let r = resumed_so k least most variant meaning (host_of old) s.middle s.begun honest s.resumes in
      record {
        shows = ap (λ (x : _). shown x.kept.slots k) same ∙ r.shows;
        honest = ap (λ (x : _). x.kept.is_honest) same ∙ r.honest;
      }

  stopped_waits : host_of new ≡ s.middle → WaitsInSlots new.kept.slots w
  stopped_waits same =
      waits_still old.kept new.kept w (stopped_so 2 (omega arith) (omega arith) same) (stopped_so 3 (omega arith) (omega arith) same)
      waits_here

  unheard : (e : SessionStopsAtOnce s.begun s.taken s.sent result) → IsHeard [] result h → is_sure_after m.is_sure h ≡ true → ⊥
  unheard e heard sure =
      let none = no_replies h.replies heard.lost heard.front in
      elim (sure_cases h.is_whole m.is_sure (has_heard h.replies) sure) [
        | inl whole ↦ let r = (heard.whole whole).0 in let is = e.stops in cc
        | inr told ↦ let heard_none = ap has_heard none in let t = told.1 in cc
      ]

  heard_none : IsHeard [] result h → AllByRecursion (IsTrueReply meaning after) h.replies
  heard_none heard =
      subst (λ (rs : List HeardReply). AllByRecursion (IsTrueReply meaning after) rs)
      (sym (no_replies h.replies heard.lost heard.front)) tt

  stopped_same : host_of new ≡ s.middle → (e : SessionStopsAtOnce s.begun s.taken s.sent result) → IsHeard [] result h
      → after ≡ requests → Then
  stopped_same same e heard is =
      let size = ap (λ (xs : List (List ℕ)). length xs) is in
      record {
        moment = moment_then meaning list requests after stands.moment.later m h stands.moment [] (append-nil requests ∙ sym is)
            (ap (λ (xs : List (List ℕ)). xs ++ stands.moment.later) is ∙ stands.moment.first) (heard_none heard)
            (λ sure. absurd (unheard e heard sure));
        since = omega (arith, stands.since, size);
        next = λ q waiting at.
            let one : w ≡ Some q = same_waits new.kept.slots w (Some q) (stopped_waits same) waiting in
            let n = stands.next q (subst (λ (x : Option PendingRecord). WaitsInSlots old.kept.slots x) one waits_here)
            (omega (arith, at, size)) in
            (n.0, ap (λ (xs : List (List ℕ)). xs ++ q.request ∷ n.0) is ∙ n.1);
        asked = λ sure. absurd (unheard e heard sure);
      }

  stopped_grown : host_of new ≡ s.middle → (e : SessionStopsAtOnce s.begun s.taken s.sent result) → IsHeard [] result h
      → ((v : Option PendingRecord) → WaitsInSlots new.kept.slots v → IsNextOrLast after v)
      → (request : List ℕ) → StoppedHand request → after ≡ requests ++ request ∷ [] → Then
  stopped_grown same e heard behind request hand is =
      let p : PendingRecord = hand.0 in
      let size : length after ≡ length requests + 1 =
      ap (λ (xs : List (List ℕ)). length xs) is ∙ length-append requests (request ∷ []) in
      let here : WaitsInSlots old.kept.slots (Some p) =
      subst (λ (x : Option PendingRecord). WaitsInSlots old.kept.slots x) hand.1 waits_here in
      let now : IsNextOrLast requests (Some p) = subst (λ (x : Option PendingRecord). IsNextOrLast requests x) hand.1 waits in
      let then_is : IsNextOrLast after (Some p) =
      behind (Some p) (subst (λ (x : Option PendingRecord). WaitsInSlots new.kept.slots x) hand.1 (stopped_waits same)) in
      let at : p.position ≡ length requests + 1 = elim now [
        | inl next ↦ next
        | inr last ↦ elim then_is [
          | inl next ↦ absurd (omega (arith, last.0, next, size))
          | inr late ↦ absurd (omega (arith, last.0, late.0, size))
        ]
      ] in
      let n = stands.next p here at in
      let first : after ++ n.0 ≡ list =
      ap (λ (xs : List (List ℕ)). xs ++ n.0) is ∙ append_assoc requests (request ∷ []) n.0
      ∙ ap (λ (r : List ℕ). requests ++ r ∷ n.0) (sym hand.2) ∙ n.1 in
      record {
        moment = moment_then meaning list requests after n.0 m h stands.moment (request ∷ []) (sym is) first (heard_none heard)
            (λ sure. absurd (unheard e heard sure));
        since = omega (arith, stands.since, size);
        next = λ q waiting late.
            let one : Some p ≡ Some q = sym hand.1 ∙ same_waits new.kept.slots w (Some q) (stopped_waits same) waiting in
            absurd (omega (arith, at, late, size, ap waiting_position one));
        asked = λ sure. absurd (unheard e heard sure);
      }

  pub stopped : host_of new ≡ s.middle → (e : SessionStopsAtOnce s.begun s.taken s.sent result) → IsHeard [] result h
      → ((v : Option PendingRecord) → WaitsInSlots new.kept.slots v → IsNextOrLast after v) → between ≡ requests
      → (after ≡ between) ⊎ HasUntoldRequest StoppedHand result between after → Then
  stopped same e heard behind run (inl is) = stopped_same same e heard (is ∙ run)
  stopped same e heard behind run (inr u) =
      stopped_grown same e heard behind u.request u.in_hand
      (u.grown ∙ ap (λ (xs : List (List ℕ)). xs ++ u.request ∷ []) run)
