-- A session of a client that went on: what stands behind it.
use Rattle.std.specs.List.{AllByRecursion}
use Rattle.std.proofs.Common.{◌≡◌, ◌≢◌, ◌∙◌, ◌⊎◌, ◌+◌, ◌-◌, ◌≤◌, ◌<◌, ◌%◌, ℕ, Bool, true, false, List, [], ◌∷◌, ◌++◌, length, drop}
use Rattle.std.proofs.Common.{Option, Some, Result, Ok, Err, refl, sym, ap, inl, inr, subst, arith, append_assoc, length-append, if◌then◌else◌}
use Rattle.std.proofs.lemmas.List.{append-nil}
use Rattle.mm_client.proofs.Below.{Variant, Meaning, IsUnbroken, last_position, Store, Slots, slot_front, PendingRecord}
use Rattle.mm_client.proofs.Below.{pending_spelling, waiting_position, record_for, position_at, lines_of, joined_lines, BytesBeginWith, IsSession, ServedCall}
use Rattle.mm_client.proofs.Below.{SessionPlace, SessionStanding, host_of, SessionFault, Host, served_lines, first_served_call, TurnGoes, turn_answer_of}
use Rattle.mm_client.proofs.Below.{AreNewFrom, AreToldOnce, CallsRunOver, HasUntoldRequest, IsNotBeyond, IsNextOrLast, RequestMayBeUntold, WaitsInSlots}
use Rattle.mm_client.proofs.Below.{reached_position, each_left, one_waiting}
use Rattle.mm_host.specs.Sessions.{SessionGoesOn}
use Rattle.mm_client.specs.declared.heard.HeardReply.{HeardReply}
use Rattle.mm_client.specs.ClientLife.{ClientMemory, Hearing, has_heard, heard_position, is_sure_after, lines_to_give, memory_after}
use Rattle.mm_client.specs.ClientLife.{IsGiven, IsHeard, replies_of, IsTrueReply}
use Rattle.mm_client.proofs.Beginning.{Began, FirstRun, begins, first_run, lines_run, LinesGo, given_unbroken, length-served, lines_go}
use Rattle.mm_client.proofs.Beginning.{next_line, rest_is, served_unbroken, all_true_on, first_positive, heard_all, runs_grow, told_true}
use Rattle.mm_client.proofs.LocalLives.{SessionLeaves, as_before, fails, in_hand, keeps_honest, records, session_leaves}
use Rattle.mm_client.proofs.OneSession.{IsNextIn, Stands, first_few, lost_none, moment_then, none_served, reached_so, sure_cases}
use Rattle.mm_client.proofs.OneSession.{waited_most, waits_least, waits_none, waits_shown, some_is, IsIn, in_most, record_is, waits_in}
use Rattle.mm_client.proofs.Trace.{reached_by, shown}

-- what is left of the list where the session began to serve
record Planned (then_are lines list : List (List ℕ)) (was_sure : Bool) : Type 0 where
  over : List (List ℕ)
  is : then_are ++ (lines ++ over) ≡ list
  all : was_sure ≡ true → over ≡ []

module _ {variant : Variant} {meaning : Meaning} {old new : SessionStanding} {result : Result Unit SessionFault}
    (s : IsSession variant meaning old new result) (w : Option PendingRecord) (waits_here : WaitsInSlots old.kept.slots w)
    (honest : old.kept.is_honest ≡ true) (requests between after : List (List ℕ)) (waits : IsNextOrLast requests w)
    (room : length after ≤ last_position) (before wanted : List (List ℕ)) (unbroken : AllByRecursion IsUnbroken wanted) (m : ClientMemory)
    (stands : Stands meaning (before ++ wanted) (length before) old.kept.slots requests m) (h : Hearing)
    (g : SessionGoesOn variant meaning s.begun s.middle (host_of new) new.left s.taken s.sent result)
    (once : AreToldOnce (length requests) w (first_served_call w g.first ++ g.lines.calls))
    (run : CallsRunOver meaning requests (first_served_call w g.first ++ g.lines.calls) between)
    (committed : (after ≡ between)
    ⊎ HasUntoldRequest (λ request. (held : List ℕ) × BytesBeginWith g.lines.more request held) result between after)
    (given : IsGiven (lines_to_give (length before) wanted m) old.left)
    (heard : IsHeard (first_served_call w g.first ++ g.lines.calls) result h) where
  abbrev list : List (List ℕ)
  list = before ++ wanted

  abbrev lines : List (List ℕ)
  lines = lines_to_give (length before) wanted m

  abbrev calls : List ServedCall
  calls = g.lines.calls

  abbrev from : SessionPlace
  from = record { host = s.middle; last = g.first }

  began : Began w g.first
  began = (begins variant meaning (host_of old) s.middle s.begun g.first w s.resumes g.begins waits_here).1

  first : FirstRun meaning w g.first calls requests between
  first = first_run meaning w g.first calls requests between began waits once run

  news : AreNewFrom (position_at g.first) calls
  news = subst (λ (n : ℕ). AreNewFrom n calls) (sym first.reached) first.new

  served : between ≡ first.then_are ++ served_lines calls
  served = lines_run meaning calls first.then_are between first.new first.run

  size : length between ≡ length first.then_are + length calls
  size =
      ap (λ (xs : List (List ℕ)). length xs) served ∙ length-append first.then_are (served_lines calls)
      ∙ ap (λ (n : ℕ). length first.then_are + n) (length-served calls)

  -- how far the answers reach
  reached : position_at g.lines.at.last ≡ length between
  reached = omega (arith, reached_by variant meaning calls from g.lines.at g.lines.serves news, first.reached, size)

  -- how far the requests do
  after_least : length between ≤ length after
  after_least = elim committed [
    | inl same ↦ omega (arith, ap (λ (xs : List (List ℕ)). length xs) same)
    | inr u ↦ omega (arith, ap (λ (xs : List (List ℕ)). length xs) u.grown, length-append between (u.request ∷ []))
  ]

  same_after : length after ≤ length between → after ≡ between
  same_after few = elim committed [
    | inl same ↦ same
    | inr u ↦ absurd (omega (
      arith,
      few,
      ap (λ (xs : List (List ℕ)). length xs) u.grown,
      length-append between (u.request ∷ []),
    ))
  ]

  gone : LinesGo lines old.left new.left (served_lines calls) g.lines.more
  gone =
      lines_go lines (served_lines calls) old.left new.left s.taken g.lines.more (given_unbroken (length before) wanted m unbroken)
      (served_unbroken variant meaning calls from g.lines.at g.lines.serves) given s.consumed g.lines.took

  -- what comes then

  planned_by : (flag : Bool) → m.is_sure ≡ flag
      → Planned first.then_are (if flag then drop (m.position - length before) wanted else []) list flag
  planned_by true sure = elim first.grown [
    | inl same ↦
        let later : drop (m.position - length before) wanted ≡ stands.moment.later =
        ap (λ (n : ℕ). drop (n - length before) wanted) (stands.moment.sure sure)
        ∙ rest_is before wanted requests stands.moment.later stands.since stands.moment.first in
        record {
          over = [];
          is =
              ap (λ (xs : List (List ℕ)). first.then_are ++ xs) (append-nil (drop (m.position - length before) wanted) ∙ later)
              ∙ ap (λ (xs : List (List ℕ)). xs ++ stands.moment.later) same ∙ stands.moment.first;
          all = λ e. refl;
        }
    | inr next ↦
        absurd (stands.asked sure next.0 (subst (λ (x : Option PendingRecord). WaitsInSlots old.kept.slots x) next.1 waits_here) next.2)
  ]
  planned_by false unsure = elim first.grown [
    | inl same ↦ record {
      over = stands.moment.later;
      is = ap (λ (xs : List (List ℕ)). xs ++ stands.moment.later) same ∙ stands.moment.first;
      all = λ e. absurd (cc);
    }
    | inr next ↦
        let n = stands.next next.0 (subst (λ (x : Option PendingRecord). WaitsInSlots old.kept.slots x) next.1 waits_here) next.2 in
        record {
          over = n.0;
          is =
              ap (λ (xs : List (List ℕ)). xs ++ n.0) next.3 ∙ append_assoc requests ((next.0).request ∷ []) n.0 ∙ n.1;
          all = λ e. absurd (cc);
        }
  ]

  planned : Planned first.then_are lines list m.is_sure
  planned = planned_by m.is_sure refl

  -- the lines that come behind those served, and those that weren't given
  between_list : between ++ (lines_of (g.lines.more ++ gone.behind) ++ planned.over) ≡ list
  between_list =
      ap (λ (xs : List (List ℕ)). xs ++ (lines_of (g.lines.more ++ gone.behind) ++ planned.over)) served
      ∙ append_assoc first.then_are (served_lines calls) (lines_of (g.lines.more ++ gone.behind) ++ planned.over)
      ∙ ap (λ (xs : List (List ℕ)). first.then_are ++ xs)
      (sym (append_assoc (served_lines calls) (lines_of (g.lines.more ++ gone.behind)) planned.over))
      ∙ ap (λ (xs : List (List ℕ)). first.then_are ++ (xs ++ planned.over)) (sym gone.are) ∙ planned.is

  hand_list : (request held : List ℕ) → BytesBeginWith g.lines.more request held → IsNextIn list between request
  hand_list request held b =
      let next = next_line g.lines.more request held gone.behind b.cut b.within.unbroken in (
        lines_of (held ++ gone.behind) ++ planned.over,
        ap (λ (xs : List (List ℕ)). between ++ (xs ++ planned.over)) (sym next) ∙ between_list,
      )

  after_list : (later : List (List ℕ)) × (after ++ later ≡ list)
  after_list = elim committed [
    | inl same ↦ (
      lines_of (g.lines.more ++ gone.behind) ++ planned.over,
      ap (λ (xs : List (List ℕ)). xs ++ (lines_of (g.lines.more ++ gone.behind) ++ planned.over)) same ∙ between_list,
    )
    | inr u ↦
        let n = hand_list u.request u.in_hand.0 u.in_hand.1 in (
          n.0,
          ap (λ (xs : List (List ℕ)). xs ++ n.0) u.grown ∙ append_assoc between (u.request ∷ []) n.0 ∙ n.1,
        )
  ]

  -- What waits for the next position behind it is the line in hand.

  leaves : (k : ℕ) → 2 ≤ k → k < 4
      → SessionLeaves k old.kept new.kept (position_at g.lines.at.last) g.lines.at.last g.lines.more result
  leaves k least most =
      session_leaves k least most variant meaning (host_of old) s.middle s.begun g.first honest s.resumes calls g.lines.at g.lines.serves
      news (length calls + 1) (host_of new) new.left g.lines.more g.lines.last result g.lines.ends

  pub still_honest : new.kept.is_honest ≡ true
  still_honest =
      keeps_honest 2 old.kept new.kept (position_at g.lines.at.last) g.lines.at.last g.lines.more result
      (leaves 2 (omega arith) (omega arith))
      ∙ honest

  abbrev IsLeft : PendingRecord → Type 0
  IsLeft q =
      (held : List ℕ) × BytesBeginWith g.lines.more q.request held × (length after ≡ length between) × (result ≢ Ok tt)

  old_front : (k : ℕ) (here : List ℕ) → shown old.kept.slots k ≡ Some here → slot_front waits_here.shown k ≡ here
  old_front k here e = some_is (slot_front waits_here.shown k) here (sym (ap (λ (x : Option Slots). shown x k) waits_here.told) ∙ e)

  module _ (q : PendingRecord) (late : WaitsInSlots new.kept.slots (Some q)) (at : q.position ≡ length after + 1)
      (chance : result ≡ Err (Host Store) → q.position ≤ length between + 1)
      (other : result ≡ Err (Host Store) → q.position ≡ length between + 1
      → (held : List ℕ) × BytesBeginWith g.lines.more q.request held) where
    valid : IsIn late.shown q
    valid = waits_in late.shown q late.is_waiting

    left_by : SessionLeaves (2 + q.position % 2) old.kept new.kept (position_at g.lines.at.last) g.lines.at.last g.lines.more result
        → IsLeft q
    left_by (as_before b) =
        let was : IsIn waits_here.shown q = record {
          pending = valid.pending;
          spelled = old_front (2 + q.position % 2) (pending_spelling q) (sym b.shows ∙ waits_shown new.kept.slots q late);
        } in
        absurd (omega (
          arith,
          in_most waits_here.shown w q waits_here.is_waiting was,
          waited_most w (length first.then_are) first.waited,
          size,
          after_least,
          at,
        ))
    left_by (records l line b front most) =
        let same : record_for l line ≡ q =
        record_is (2 + q.position % 2) l line q b.at front (omega (arith, most, reached, after_least, room)) valid.pending
        (b.bytes (pending_spelling q) (waits_shown new.kept.slots q late)) in
        absurd (omega (arith, ap (λ (x : PendingRecord). x.position) same, most, reached, after_least, at))
    left_by (in_hand line held begins_with b fault) =
        let same : record_for g.lines.at.last line ≡ q =
        record_is (2 + q.position % 2) g.lines.at.last line q b.at begins_with.within
        (omega (arith, reached, after_least, at, valid.pending.most)) valid.pending
        (b.bytes (pending_spelling q) (waits_shown new.kept.slots q late)) in (
          held,
          subst (λ (x : List ℕ). BytesBeginWith g.lines.more x held) (ap (λ (x : PendingRecord). x.request) same) begins_with,
          omega (arith, ap (λ (x : PendingRecord). x.position) same, reached, after_least, at),
          fault,
        )
    left_by (fails line held begins_with x failed) =
        let exactly : q.position ≡ length between + 1 = omega (arith, chance failed, at, after_least) in
        let hand = other failed exactly in (hand.0, hand.1, omega (arith, exactly, at), λ e. cc)

    is_left : IsLeft q
    is_left = left_by (leaves (2 + q.position % 2) (omega arith) (omega arith))

  -- where he is sure then, all that was told was heard, and nothing else was run

  record IsSureThen : Type 0 where
    all : heard.lost ≡ []
    no_more : after ≡ between

  unsure_lines : m.is_sure ≡ false → lines ≡ []
  unsure_lines e = ap (λ (flag : Bool). if flag then drop (m.position - length before) wanted else []) e

  unsure_calls : m.is_sure ≡ false → calls ≡ []
  unsure_calls e = none_served calls (lines_of (g.lines.more ++ gone.behind)) (sym (unsure_lines e) ∙ gone.are)

  unsure_hand : m.is_sure ≡ false → (request held : List ℕ) → BytesBeginWith g.lines.more request held → ⊥
  unsure_hand e request held b =
      let next = next_line g.lines.more request held gone.behind b.cut b.within.unbroken in
      let none : [] ≡ served_lines calls ++ (request ∷ lines_of (held ++ gone.behind)) =
      sym (unsure_lines e) ∙ gone.are ∙ ap (λ (xs : List (List ℕ)). served_lines calls ++ xs) next in
      let few = ap (λ (xs : List (List ℕ)). length xs) none in
      omega (arith, few, length-append (served_lines calls) (request ∷ lines_of (held ++ gone.behind)))

  committed_ok : result ≡ Ok tt → after ≡ between
  committed_ok e = elim committed [
    | inl same ↦ same
    | inr u ↦ absurd (subst (λ (r : Result Unit SessionFault). RequestMayBeUntold r) e u.untold)
  ]

  committed_unsure : m.is_sure ≡ false → after ≡ between
  committed_unsure e = elim committed [ inl same ↦ same | inr u ↦ absurd (unsure_hand e u.request u.in_hand.0 u.in_hand.1) ]

  sure_then : is_sure_after m.is_sure h ≡ true → IsSureThen
  sure_then sure = elim (sure_cases h.is_whole m.is_sure (has_heard h.replies) sure) [
    | inl whole ↦ record { all = (heard.whole whole).1; no_more = committed_ok (heard.whole whole).0 }
    | inr told ↦ record {
      all = lost_none h.replies heard.lost (replies_of (first_served_call w g.first ++ calls)) told.1 heard.front
          (subst (λ (cs : List ServedCall). length (replies_of (first_served_call w g.first ++ cs)) ≤ 1) (sym (unsure_calls told.0))
          (subst (λ (cs : List ServedCall). length (replies_of cs) ≤ 1) (sym (append-nil (first_served_call w g.first)))
          (first_few w g.first)));
      no_more = committed_unsure told.0;
    }
  ]

  sure_position : is_sure_after m.is_sure h ≡ true → heard_position m.position h.replies ≡ length after
  sure_position sure =
      let t = sure_then sure in
      let told : h.replies ≡ replies_of (first_served_call w g.first ++ calls) =
      sym (append-nil h.replies) ∙ ap (λ (xs : List HeardReply). h.replies ++ xs) (sym t.all) ∙ heard.front in
      ap (λ (xs : List HeardReply). heard_position m.position xs) told
      ∙ heard_all variant meaning w g.first calls m.position from g.lines.at began refl
      (waits_none requests w m.position waits stands.moment.known) g.lines.serves
      ∙ reached ∙ ap (λ (xs : List (List ℕ)). length xs) (sym t.no_more)

  heard_true : AllByRecursion (IsTrueReply meaning after) h.replies
  heard_true =
      let grown : (more : List (List ℕ)) × (between ++ more ≡ after) = elim committed [
        | inl same ↦ ([], append-nil between ∙ sym same)
        | inr u ↦ (u.request ∷ [], sym u.grown)
      ] in
      let told = told_true meaning (first_served_call w g.first ++ calls) requests between
      (first_positive meaning w g.first calls (length first.then_are) (waits_least requests w (length first.then_are) g.first waits
      first.waited)
      first.reached first.new) run in
      each_left (IsTrueReply meaning after) h.replies heard.lost
      (subst (λ (xs : List HeardReply). AllByRecursion (IsTrueReply meaning after) xs) (sym heard.front)
      (all_true_on meaning between grown.0 after (replies_of (first_served_call w g.first ++ calls)) grown.1 told))

  after_grown : (more : List (List ℕ)) × (requests ++ more ≡ after)
  after_grown =
      let r = runs_grow meaning (first_served_call w g.first ++ calls) requests between run in
      elim committed [
        | inl same ↦ (r.0, r.1 ∙ sym same)
        | inr u ↦ (
          r.0 ++ u.request ∷ [],
          sym (append_assoc requests r.0 (u.request ∷ [])) ∙ ap (λ (xs : List (List ℕ)). xs ++ u.request ∷ []) r.1 ∙ sym u.grown,
        )
      ]

  pub went_on : ((q : PendingRecord) → WaitsInSlots new.kept.slots (Some q) → result ≡ Err (Host Store)
      → q.position ≤ length between + 1)
      → ((q : PendingRecord) → WaitsInSlots new.kept.slots (Some q) → result ≡ Err (Host Store) → q.position ≡ length between + 1
      → (held : List ℕ) × BytesBeginWith g.lines.more q.request held)
      → Stands meaning list (length before) new.kept.slots after (memory_after m h)
  went_on chance other =
      let grown = after_grown in
      record {
        moment = moment_then meaning list requests after after_list.0 m h stands.moment grown.0 grown.1 after_list.1 heard_true
            sure_position;
        since = omega (
          arith,
          stands.since,
          ap (λ (xs : List (List ℕ)). length xs) grown.1,
          length-append requests grown.0,
        );
        next = λ q late at.
            let i = is_left q late at (chance q late) (other q late) in
            let n = hand_list q.request i.0 i.1 in
            (n.0, ap (λ (xs : List (List ℕ)). xs ++ q.request ∷ n.0) (same_after (omega (arith, i.2))) ∙ n.1);
        asked = λ sure q late at.
            let i = is_left q late at (chance q late) (other q late) in
            elim (sure_cases h.is_whole m.is_sure (has_heard h.replies) sure) [
              | inl whole ↦ i.3 (heard.whole whole).0
              | inr told ↦ unsure_hand told.0 q.request i.0 i.1
            ];
      }

  told_reached : reached_position w (first_served_call w g.first ++ calls) ≡ length between
  told_reached = reached_so variant meaning w g.first calls from g.lines.at began refl g.lines.serves ∙ reached

  -- by what is asked where the store failed
  pub goes_by : (result ≡ Err (Host Store) → (slots : Slots) → new.kept.slots ≡ Some slots
      → IsNotBeyond slots (reached_position w (first_served_call w g.first ++ calls) + 1))
      → (result ≡ Err (Host Store) → (q : PendingRecord) → WaitsInSlots new.kept.slots (Some q)
      → q.position ≡ reached_position w (first_served_call w g.first ++ calls) + 1
      → (held : List ℕ) × BytesBeginWith g.lines.more q.request held)
      → Stands meaning list (length before) new.kept.slots after (memory_after m h)
  goes_by chance other =
      went_on
      (λ q late failed.
      let b = chance failed late.shown late.told in
      omega (
        arith,
        b.most,
        told_reached,
        ap waiting_position
            (one_waiting (slot_front late.shown 2) (slot_front late.shown 3) b.waiting (Some q) b.is_waiting late.is_waiting),
      ))
      (λ q late failed at. other failed q late (at ∙ ap (λ (n : ℕ). n + 1) (sym told_reached)))

  -- the whole of what he gives, to its end
  pub makes_all : m.is_sure ≡ true → old.left ≡ Some (joined_lines lines) → result ≡ Ok tt → after ≡ list
  makes_all sure whole ended =
      let e = subst (λ (r : Result Unit SessionFault).
      TurnGoes variant meaning (length calls + 1) g.lines.at (host_of new) new.left g.lines.more [] g.lines.last (turn_answer_of r)) ended
      g.lines.ends in
      let is = gone.all whole e.2 e.1 in
      committed_ok ended ∙ served
      ∙ ap (λ (xs : List (List ℕ)). first.then_are ++ xs)
      (sym is ∙ sym (append-nil lines) ∙ ap (λ (xs : List (List ℕ)). lines ++ xs) (sym (planned.all sure)))
      ∙ planned.is
