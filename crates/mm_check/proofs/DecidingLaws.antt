-- One event more, and what is told at the end.
use Rattle.mm_check.proofs.Below.{◌≡◌, ◌∙◌, ℕ, ◌+◌, ◌≤◌, true, false, List, [], ◌∷◌, ◌++◌, length, Option, None, Some, refl, sym, ap}
use Rattle.mm_check.proofs.Below.{subst, arith, append_assoc, append-nil, length-append, fold, Variant, Basic, Opt, start_message}
use Rattle.mm_check.proofs.Below.{variant_byte, Meaning, meaning_of, Instance, History, first_history, total_of, Header, Event}
use Rattle.mm_check.proofs.Below.{lines_of_reply, end_line, list_level, RunOutcome, outcome_of_events, event_outcome, first_snapshots}
use Rattle.mm_check.proofs.Below.{outcome_by_lists, world_of, world_key, world_barrier, IsGenuineEvent, AreGenuine, IsClearRun}
use Rattle.mm_check.proofs.Below.{numbered_event_messages, messages_with, message_digests, shared_pair_in, zero_number_in, ListsMessages}
use Rattle.mm_check.proofs.Below.{pair_of, numbered_messages_from, numbered_messages, secured_event_in, expected_lines, IsForgedAt}
use Rattle.mm_check.proofs.Below.{DecidesPremise, secured_event_by, IsFirstForged, StandsBehind, premise_by, ◌<◌, take, sha256, length-map}
use Rattle.mm_check.proofs.Below.{length-take, most_events, CodeEvent, event_of, events_of}
use Rattle.std.proofs.Common.{Bool}
use Rattle.std.specs.Prelude.{not}
use Rattle.mm_numbering.specs.Listing.{first_number_of}
use Rattle.mm_check.specs.Numbering.{LooksAtEvent}
use Rattle.std.proofs.lemmas.List.Sums.{fold-append}
use Rattle.mm_call.specs.Standing.{instance_by}
use Rattle.mm_expect.specs.ExpectedState.{HearsEvent, DecidesLater, ExpectedState, IsAfter}
use Rattle.mm_expect.specs.declared.expecting.ExpectedOutcome.{ExpectedOutcome}
use Rattle.mm_check.proofs.FewLaws.{heard_few, numbered_few, lines-push}
use Rattle.mm_check.proofs.ClearLaws.{clear_run, none_apart}
use Rattle.mm_check.specs.declared.deciding.Decider.{Decider}

-- what is heard of an event behind those that were followed so far
abbrev pub IsHeard : Instance → RunOutcome History → Event → ExpectedOutcome → Type 0
IsHeard i before event heard = HearsEvent i before.state before.issued event heard

-- what stands behind some events is what is expected of them
stands_as : (header : Header) (es : List Event) (it : ExpectedState) → IsAfter header es it
    → (let f = outcome_by_lists (world_of header) es in it ≡ record { header = header; history = f.state; issued = f.issued })
stands_as header es it after = λ j. record { header = after.header_is j; history = after.history_is j; issued = after.issued_is j }

pub heard_after : (header : Header) (es : List Event) (it : ExpectedState) (e : Event) (heard : ExpectedOutcome) → IsAfter header es it
    → HearsEvent (world_of it.header) it.history it.issued e heard
    → IsHeard (world_of header) (outcome_by_lists (world_of header) es) e heard
heard_after header es it e heard after hears =
    subst (λ (t : ExpectedState). HearsEvent (world_of t.header) t.history t.issued e heard) (stands_as header es it after) hears

from_push : (i : Instance) (es : List Event) (e : Event) (y : History) (issued : List (List ℕ))
    → (let f : RunOutcome History = outcome_of_events i (list_level i) y issued es in
    numbered_messages_from i y issued (es ++ e ∷ []) ≡ numbered_messages_from i y issued es ++ numbered_event_messages i f.state f.issued e)
from_push i [] e y issued = append-nil (numbered_event_messages i y issued e)
from_push i (x ∷ es) e y issued =
    let o = event_outcome i (list_level i) y issued x in
    let here = numbered_event_messages i y issued x in
    ap (λ (l : List (List ℕ)). here ++ l) (from_push i es e o.state o.issued) ∙ sym (append_assoc here _ _)

pub numbered-push : (i : Instance) (es : List Event) (e : Event) → (let f : RunOutcome History = outcome_by_lists i es in
    numbered_messages i (es ++ e ∷ []) ≡ fold messages_with (numbered_messages i es) (numbered_event_messages i f.state f.issued e))
numbered-push i es e =
    let start = start_message i.variant i.meaning.id ∷ [] in
    ap (λ (l : List (List ℕ)). fold messages_with start l) (from_push i es e first_history (first_snapshots i))
    ∙ fold-append messages_with start (numbered_messages_from i first_history (first_snapshots i) es)
    (numbered_event_messages i (outcome_by_lists i es).state (outcome_by_lists i es).issued e)

genuine_push : (i : Instance) (es : List Event) (e : Event) (y : History) (issued : List (List ℕ))
    → (let f : RunOutcome History = outcome_of_events i (list_level i) y issued es in
    AreGenuine i y issued es → IsGenuineEvent i f.state f.issued e → AreGenuine i y issued (es ++ e ∷ []))
genuine_push i [] e y issued all here = (here, tt)
genuine_push i (x ∷ es) e y issued all here =
    let o = event_outcome i (list_level i) y issued x in (all.0, genuine_push i es e o.state o.issued all.1 here)

still_forged : (i : Instance) (es : List Event) (e : Event) (n : ℕ) → IsForgedAt i es n → IsForgedAt i (es ++ e ∷ []) n
still_forged i es e n h = record {
  before = h.before;
  event = h.event;
  after = h.after ++ e ∷ [];
  split = ap (λ (l : List Event). l ++ e ∷ []) h.split ∙ append_assoc h.before (h.event ∷ h.after) (e ∷ []);
  place = h.place;
  genuine = h.genuine;
  forged = h.forged;
}

-- the first forged event, once one more is looked at

looks_behind : (it : ExpectedState) (e : Event) (n number : ℕ) → LooksAtEvent it (Some n) e number (Some n)
looks_behind it e n number = λ header es after h count. still_forged (world_of header) es e n h

looks_genuine : (it : ExpectedState) (e : Event) (number : ℕ) → DecidesLater it e true → LooksAtEvent it None e number None
looks_genuine it e number d = λ header es after h count.
    let i = world_of header in
    let here : IsGenuineEvent i (outcome_by_lists i es).state (outcome_by_lists i es).issued e =
    subst (λ (t : ExpectedState). IsGenuineEvent i t.history t.issued e) (stands_as header es it after) (d header es after) in
    genuine_push i es e first_history (first_snapshots i) h here

looks_forged : (it : ExpectedState) (e : Event) (number : ℕ) → DecidesLater it e false → LooksAtEvent it None e number (Some number)
looks_forged it e number d = λ header es after h count.
    let i = world_of header in
    let here : ¬ IsGenuineEvent i (outcome_by_lists i es).state (outcome_by_lists i es).issued e =
    subst (λ (t : ExpectedState). ¬ IsGenuineEvent i t.history t.issued e) (stands_as header es it after) (d header es after) in
    record { before = es; event = e; after = []; split = refl; place = count; genuine = h; forged = here }

pub looks_then : (it : ExpectedState) (e : Event) (number : ℕ) (first : Option ℕ) (genuine : Bool) → DecidesLater it e genuine
    → LooksAtEvent it first e number (first_number_of first (not genuine) number)
looks_then it e number (Some n) genuine d = looks_behind it e n number
looks_then it e number None true d = looks_genuine it e number d
looks_then it e number None false d = looks_forged it e number d

pub stands_next : (header : Header) (es : List Event) (e : Event) (old new : Decider) (heard : ExpectedOutcome) → StandsBehind header es old
    → IsHeard (world_of header) (outcome_by_lists (world_of header) es) e heard → IsAfter header (es ++ e ∷ []) new.expecting
    → length new.expecting.issued ≤ length old.expecting.issued + 1
    → ListsMessages (fold messages_with (numbered_messages (world_of header) es) heard.messages.items) new.numbers
    → new.lines ≡ old.lines ++ lines_of_reply heard.reply
    → LooksAtEvent old.expecting old.forged e (length es + 1) new.forged → StandsBehind header (es ++ e ∷ []) new
stands_next header es e old new heard h hears after few lists lines forged =
    let i = world_of header in
    record {
      after = after;
      few = omega (arith, few, h.few, length-append es (e ∷ []));
      lists = subst (λ (l : List (List ℕ)). ListsMessages l new.numbers)
          (ap (λ (l : List (List ℕ)). fold messages_with (numbered_messages i es) l) hears.messages ∙ sym (numbered-push i es e)) lists;
      lines = lines ∙ (λ j. h.lines j ++ lines_of_reply (hears.reply j))
          ∙ sym (lines-push i (list_level i) first_history (first_snapshots i) es e);
      forged = forged header es h.after h.forged refl;
    }

-- what is told at the end

clear_by : (i : Instance) (es : List Event) → shared_pair_in (message_digests (numbered_messages i es)) ≡ None
    → zero_number_in (message_digests (numbered_messages i es)) ≡ None → secured_event_by i.variant i.barrier es ≡ None → IsClearRun i es
clear_by i es p z s = record { clear = clear_run i es p z; apart = none_apart i.variant i es s }

secured_told : (variant : Variant) (i : Instance) (es : List Event) (n : ℕ) → secured_event_by variant i.barrier es ≡ Some n
    → (variant ≡ Opt) × (secured_event_in i es ≡ Some n)
secured_told Basic i es n is = absurd (cc)
secured_told Opt i es n is = (refl, is)

pub decided_by : (i : Instance) (es : List Event) (pair : Option (ℕ × ℕ)) (zero secured forged : Option ℕ)
    → pair ≡ shared_pair_in (message_digests (numbered_messages i es)) → zero ≡ zero_number_in (message_digests (numbered_messages i es))
    → secured ≡ secured_event_by i.variant i.barrier es → IsFirstForged i es forged
    → DecidesPremise i es (premise_by pair zero secured forged)
decided_by i es (Some pair) zero secured forged p z s f = sym p
decided_by i es None (Some message) secured forged p z s f = (sym p, sym z)
decided_by i es None None (Some event) forged p z s f =
    let told = secured_told i.variant i es event (sym s) in (clear_run i es (sym p) (sym z), told.0, told.1)
decided_by i es None None None (Some event) p z s f = (clear_by i es (sym p) (sym z) (sym s), f)
decided_by i es None None None None p z s f = (clear_by i es (sym p) (sym z) (sym s), f)

secured_world : (variant : Variant) (meaning : Meaning) (es : List Event)
    → (let i : Instance = instance_by variant meaning world_key world_barrier in
    secured_event_by variant world_barrier es ≡ secured_event_by i.variant i.barrier es)
secured_world Basic meaning es = refl
secured_world Opt meaning es = refl

pub decided : (header : Header) (es : List Event) (it : Decider) (secured : Option ℕ) → StandsBehind header es it
    → secured ≡ secured_event_by header.variant world_barrier es
    → DecidesPremise (world_of header) es (premise_by (pair_of it.numbers.digests.shared) it.numbers.digests.zero secured it.forged)
decided header es it secured h s =
    decided_by (world_of header) es (pair_of it.numbers.digests.shared) it.numbers.digests.zero secured it.forged
    h.lists.counts.shared h.lists.counts.zero (s ∙ secured_world header.variant (meaning_of header.«module») es) h.forged

-- at the first event

start_by : (variant : Variant) (meaning : Meaning)
    → (let i : Instance = instance_by variant meaning world_key world_barrier in start_message i.variant i.meaning.id ≡ 0
    ∷ variant_byte variant ∷ meaning.id ∷ [])
start_by Basic meaning = refl
start_by Opt meaning = refl

pub stands_first : (header : Header) (it : Decider) (message : List ℕ) → IsAfter header [] it.expecting
    → ListsMessages (messages_with [] message) it.numbers → message ≡ 0 ∷ variant_byte header.variant ∷ (meaning_of header.«module»).id ∷ []
    → it.lines ≡ [] → it.forged ≡ None → StandsBehind header [] it
stands_first header it message after lists is lines forged =
    let i = world_of header in
    record {
      after = after;
      few = omega (arith, ap length after.issued_is);
      lists = subst (λ (m : List ℕ). ListsMessages (m ∷ []) it.numbers) (is ∙ sym (start_by header.variant (meaning_of header.«module»)))
          lists;
      lines = lines;
      forged = subst (λ (o : Option ℕ). IsFirstForged i [] o) (sym forged) tt;
    }

-- at the last one

pub lines_end : (header : Header) (es : List Event) (it : Decider) (committed issued : ℕ) (lines : List (List ℕ))
    → StandsBehind header es it → committed ≡ total_of it.expecting.history.batches → issued ≡ length it.expecting.issued
    → lines ≡ it.lines ++ end_line committed issued ∷ [] → lines ≡ expected_lines (world_of header) es
lines_end header es it committed issued lines h n k is =
    is ∙ (λ j. h.lines j ++ end_line ((n ∙ ap (λ (y : History). total_of y.batches) h.after.history_is) j)
    ((k ∙ ap length h.after.issued_is) j) ∷ [])

-- there is room for an event's messages
pub room_for : (header : Header) (es : List CodeEvent) (index : ℕ) (event : CodeEvent) (it : Decider) (heard : ExpectedOutcome)
    → length es ≤ most_events → StandsBehind header (events_of (take index es)) it
    → IsHeard (world_of header) (outcome_by_lists (world_of header) (events_of (take index es))) (event_of event) heard
    → it.numbers.digests.count + length heard.messages.items < 4294967295
room_for header es index event it heard few h hears =
    let i = world_of header in
    let f = outcome_by_lists i (events_of (take index es)) in
    omega (
      arith,
      few,
      length-take index es,
      h.lists.counts.count,
      length-map (numbered_messages i (events_of (take index es))) sha256,
      numbered_few i (take index es),
      ap length hears.messages,
      heard_few i f.state f.issued event,
    )
