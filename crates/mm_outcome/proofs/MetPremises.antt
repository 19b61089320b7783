-- The premises of the laws are met: by a run of one request in Basic, and by one of three in Opt,
-- with a segment closed between them. With it: what a right offer says.
use Rattle.std.proofs.lemmas.Slice.Eq.{bytes_eq-Decides}
use Rattle.mm_bytes.specs.Limits.{limit_of}
use Rattle.mm_digest.specs.LengthLaws.{length-zero_bytes}
use Rattle.mm_digest.specs.Messages.{start_digest_of, zero_bytes, extended_digest_of}
use Rattle.mm_seal.specs.FieldLaws.{sealed_once}
use Rattle.mm_seal.specs.Snapshot.{IsPlace, sealed_snapshot_of, snapshot_front}
use Rattle.mm_seal.specs.declared.snapshot.Place.{Place}
use Rattle.mm_seal.specs.declared.snapshot.Place.TheVariants.{Basic as InBasic}
use Rattle.mm_model.specs.BatchLaws.{total-append}
use Rattle.mm_model.specs.Chains.{anchor_of, register_of}
use Rattle.mm_model.specs.ListLaws.{length-anchor_of, length-register_of, length-summary_of}
use Rattle.mm_model.specs.Standing.{at_anchor, in_closed, in_current, IsPlaceOf, IsRight}
use Rattle.mm_model.specs.declared.refusal.Refusal.TheVariants as refusal
use Rattle.mm_call.specs.OfferLaws.{basic_content, issued_once, listed_by, right_of, opt_content, right_is}
use Rattle.mm_outcome.specs.Laws.{IsIssued}
use Rattle.mm_outcome.proofs.Below.{ℕ, ◌≡◌, Bool, true, false, List, [], ◌∷◌, ◌++◌, refl, subst, arith, Contains, Basic, Opt, Batch}
use Rattle.mm_outcome.proofs.Below.{counter, counter_is_lawful, Meaning, link_message, Instance, basic_instance, opt_instance, History}
use Rattle.mm_outcome.proofs.Below.{first_history, AreMessagesIn, offer_messages, NamesPosition, anchor_after, content_of_issue, IsGenuine}
use Rattle.mm_outcome.proofs.Below.{issued_bytes, ask_steps, each_append, basic_issued, Quiet, Content, IsContent, finding_at}
use Rattle.mm_outcome.proofs.Below.{right_content, finding_unless_wanting, is_fresh, one_ask, course_of, list_level, parts_of}
use Rattle.mm_outcome.proofs.Below.{right_messages, messages_of_moves, IsClearRun, IsGenuineRun, run_messages, state_seen, walk}
use Rattle.mm_outcome.proofs.Below.{summary-nil, ◌≤◌, ◌+◌, nat_le, Ok, Err, sym, ap, ◌∙◌, if◌then◌else◌, slice_index, bytes_eq}
use Rattle.mm_outcome.proofs.Below.{last_position, extended_message, anchored_message, anchored_digest_of, size_of, IsLawful}
use Rattle.mm_outcome.proofs.Below.{state_after-is_spelled, Event, Ask, Checkpoint, Extend, Last, variant_of, offered_snapshot_of, tag_of}
use Rattle.mm_outcome.proofs.Below.{InOpt, sealed_parts, guard, Own, Value, Move, Commit, Foreign, Placed, Reset, Close, requests_of}
use Rattle.mm_outcome.proofs.Below.{total_of, verdict_on, life_of, is_lost, form_messages, issued_place, digest_of, Fresh, first_sound}
use Rattle.mm_outcome.proofs.Below.{reads_zero, opt_issued, CallOutcome, call_outcome, call_outcome_with, CallFinding, finding_by_verdict}
use Rattle.mm_outcome.proofs.Below.{finding_with, check_by_tests, Outcome, outcome_of_events, event_outcome, outcome_by, outcome_by_lists}
use Rattle.mm_outcome.proofs.Below.{first_snapshots, world_barrier, two_segments, after_two_segments, moves_of, event_messages}
use Rattle.mm_outcome.proofs.Below.{messages_from, IsGenuineEvent, AreGenuine, each_at, Option, Some, offered_bytes, ask_event_outcome}
use Rattle.mm_outcome.proofs.Below.{IsGenuineOffer, length, get_or, Variant, state_after}
use Rattle.mm_outcome.proofs.FirstBytes.{basic_clear, basic_listed, basic_messages, clear_within, five, guard_first, AreListed, five_guard}
use Rattle.mm_outcome.proofs.FirstBytes.{once, twice, ff_bytes, segment_messages, segments_clear, segments_listed, clear_fronts}
use Rattle.mm_outcome.proofs.FirstBytes.{genuine_fronts}
use Rattle.mm_outcome.proofs.Following.{ask_moves, asking_messages}
use Rattle.mm_outcome.proofs.Naming.{Lasts, opt_made}

-- what is asked of the snapshot of a history
right_within : (i : Instance) (y : History) (b : Batch) (all : List (List ℕ)) → IsContent (content_of_issue i y)
    → AreMessagesIn (offer_messages i (content_of_issue i y).place b) all
    → AreMessagesIn (right_messages i b (right_content i (issued_bytes i y))) all
right_within i y b all formed h = listed_by i y b all (right_content i (issued_bytes i y))
    (λ content seen. subst (λ (x : Content). AreMessagesIn (offer_messages i x.place b) all)
    (issued_once i (issued_bytes i y) y content formed
    refl
    (right_of i (issued_bytes i y) (parts_of i.variant i.meaning.id (issued_bytes i y)) refl content seen)) h)

-- it names a position of a later one
is_genuine : (i : Instance) (y later : History) → IsContent (content_of_issue i y) → NamesPosition i later (content_of_issue i y)
    → IsGenuine i later (issued_bytes i y)
is_genuine i y later formed names content right =
    subst (λ (x : Content). NamesPosition i later x) (issued_once i (issued_bytes i y) y content formed refl right) names

-- Basic

basic_moves : (key : List ℕ) (all : List (List ℕ)) (fresh : Bool)
    → AreMessagesIn (messages_of_moves (basic_instance counter key) first_history
    (walk (course_of Quiet []).fates 1 (ask_steps Basic false fresh
    five)).moves) all
basic_moves key all false = tt
basic_moves key all true = tt

pub basic_met : (key : List ℕ) → IsClearRun (basic_instance counter key) one_ask × IsGenuineRun (basic_instance counter key) one_ask
basic_met key =
    let i = basic_instance counter key in let all = basic_messages in
    let formed = basic_content counter counter_is_lawful key first_history (omega arith) in
    let offered : AreMessagesIn (offer_messages i (content_of_issue i first_history).place five) all =
    (subst (λ s. Contains all (link_message s five)) (summary-nil 1) basic_listed.1, tt) in
    let found = finding_unless_wanting (finding_at i (list_level i) (state_seen i (list_level i) first_history (course_of Quiet [])) five
    (issued_bytes i first_history)) false in
    let heard = right_messages i five (right_content i (issued_bytes i first_history)) in
    let steps = ask_steps Basic false (is_fresh found) five in
    let made = messages_of_moves i first_history (walk (course_of Quiet []).fates 1 steps).moves in (
      record {
        clear = clear_within all (run_messages i one_ask) basic_clear (
          basic_listed.0,
          each_append (Contains all) (heard ++ made) []
              (each_append (Contains all) heard made (right_within i first_history five all formed offered)
              (basic_moves key all (is_fresh found))) tt,
        );
        apart = λ is. cc;
      },
      (is_genuine i first_history first_history formed (basic_issued counter key first_history), tt),
    )

pub anchor_nil : (meaning : Meaning) (key barrier : List ℕ) → anchor_after (opt_instance meaning key barrier) []
    ≡ start_digest_of Opt meaning.id
unfolding anchor_of
anchor_nil meaning key barrier = refl

-- an offer at the last position is found fresh

abbrev fresh : Content → CallFinding
fresh content = record { offered = content; again = false }

found_fresh : (meaning : Meaning) (key barrier : List ℕ) (y : History) (b : Batch) (c : Content) (bytes : List ℕ)
    → is_lost (life_of Opt y) ≡ false → parts_of Opt meaning.id bytes ≡ Ok (offered_snapshot_of key c) → meaning.is_spelled c.state ≡ true
    → verdict_on Opt y c.position b ≡ Fresh → nat_le (c.position + size_of b) last_position ≡ true
    → finding_at (opt_instance meaning key barrier) (list_level (opt_instance meaning key barrier)) y b bytes ≡ Ok (fresh c)
found_fresh meaning key barrier y b c bytes live parts spelled here fits =
    let i = opt_instance meaning key barrier in let tagged = (bytes_eq-Decides (tag_of key c) (tag_of key c)).1 refl in
    let weighs : check_by_tests (meaning.is_spelled c.state) (bytes_eq (tag_of key c) (tag_of key c)) (verdict_on Opt y c.position b)
    (nat_le (c.position + size_of b) last_position) ≡ Ok false = rw (spelled, tagged, here, fits) refl in
    ap (λ lost. if lost then Err refusal.Lost else finding_by_verdict i (list_level i) y b (parts_of Opt meaning.id bytes)) live
    ∙ ap (finding_by_verdict i (list_level i) y b) parts ∙ ap (finding_with c) weighs

-- what a run of events comes to from a history on
record Met (all : List (List ℕ)) (i : Instance) (y : History) (issued : List (List ℕ)) (events : List Event) (last : History) : Type 0 where
  within : AreMessagesIn (messages_from i y issued events) all
  genuine : AreGenuine i y issued events
  ends : (outcome_of_events i (list_level i) y issued events).state ≡ last

met_first : (all : List (List ℕ)) (i : Instance) (y : History) (issued : List (List ℕ)) (event : Event) (events : List Event)
    (last : History)
    (o : Outcome History) (moves : List Move) → event_outcome i (list_level i) y issued event ≡ o → moves_of i y issued event ≡ moves
    → IsGenuineEvent i y issued event → AreMessagesIn (event_messages i issued event) all → AreMessagesIn (messages_of_moves i y moves) all
    → Met all i o.state o.issued events last → Met all i y issued (event ∷ events) last
met_first all i y issued event events last o moves eo em genuine asked made met =
    let P : List ℕ → Type 0 = Contains all in
    let heard = event_messages i issued event in
    let went = messages_of_moves i y (moves_of i y issued event) in
    let x : Outcome History = event_outcome i (list_level i) y issued event in
    record {
      within = each_append P (heard ++ went) (messages_from i x.state x.issued events)
          (each_append P heard went asked (subst (λ (m : List Move). AreMessagesIn (messages_of_moves i y m) all) (sym em) made))
          (subst (λ (z : Outcome History). AreMessagesIn (messages_from i z.state z.issued events) all) (sym eo) met.within);
      genuine = (genuine, subst (λ (z : Outcome History). AreGenuine i z.state z.issued events) (sym eo) met.genuine);
      ends = ap (λ (z : Outcome History). (outcome_of_events i (list_level i) z.state z.issued events).state) eo ∙ met.ends;
    }

-- the histories on the way

abbrev asked_once : History
asked_once = record { batches = five ∷ []; closed = []; current = five ∷ []; is_open = true; items = Own five ∷ [] }

abbrev asked_twice : History
asked_twice =
    record { batches = five ∷ five ∷ []; closed = []; current = five ∷ five ∷ []; is_open = true; items = Own five ∷ Own five ∷ [] }

abbrev closed_then : History
closed_then = record asked_twice { closed = (Own five ∷ Own five ∷ []) ∷ []; current = []; is_open = false }

abbrev others_then : List ℕ → History
others_then d = record closed_then { items = Own five ∷ Own five ∷ Value d ∷ [] }

-- the events, with the value of others
abbrev five_asked : Event
five_asked = Ask [] Quiet Last five

abbrev events_with : List ℕ → List Event
events_with d = five_asked ∷ five_asked ∷ Checkpoint [] Quiet ∷ Extend d ∷ five_asked ∷ []

one_of : (v : List ℕ) → register_of (v ∷ []) ≡ once v
unfolding register_of extended_digest_of
one_of v = refl

two_of : (v : List ℕ) → register_of (v ∷ v ∷ []) ≡ twice v
unfolding register_of extended_digest_of
two_of v = refl

if_other : (same : Bool) (all xs : List (List ℕ)) → (same ≡ false → AreMessagesIn xs all) → AreMessagesIn (if same then [] else xs) all
if_other true all xs h = tt
if_other false all xs h = h refl

zero_is_zero : bytes_eq zero_bytes zero_bytes ≡ true
unfolding zero_bytes
zero_is_zero = refl

module _ (meaning : Meaning) (lawful : IsLawful meaning) (key barrier d : List ℕ) (all : List (List ℕ))
    (l : AreListed meaning.id barrier (guard barrier five) d all) where
  abbrev here : Instance
  here = opt_instance meaning key barrier

  abbrev v : List ℕ
  v = guard barrier five

  -- the histories are sound, and what they issue names their last position

  once_lasts : Lasts here first_history asked_once
  once_lasts = opt_made meaning key barrier (Reset ∷ Placed five ∷ Commit five ∷ []) first_history first_sound
      (tt, (tt, (record { clean = refl; front = []; items = refl; others = refl }, tt)))

  twice_lasts : Lasts here asked_once asked_twice
  twice_lasts = opt_made meaning key barrier (Commit five ∷ []) asked_once once_lasts.sound (refl, tt)

  of_opt : (flag : Bool) (y : History) → variant_of (issued_place Opt flag here y) ≡ Opt
  of_opt true y = refl
  of_opt false y = refl

  -- the messages of what is asked

  -- of a place by its digests
  pointed : (a e : List ℕ) → AreMessagesIn (form_messages a e v) all → (bytes_eq e zero_bytes ≡ false
      → AreMessagesIn (anchored_message a e ∷ form_messages (anchored_digest_of a e) zero_bytes v) all)
      → AreMessagesIn (offer_messages here (InOpt (digest_of a) (digest_of e)) five) all
  pointed a e fresh_form closed_form =
      (l.guarded, each_append (Contains all) (form_messages a e v) _ fresh_form (if_other (bytes_eq e zero_bytes) all _ closed_form))

  abbrev start : List ℕ
  start = start_digest_of Opt meaning.id

  first_offered : AreMessagesIn (offer_messages here (content_of_issue here first_history).place five) all
  first_offered = rw (anchor_nil meaning key barrier) (pointed start zero_bytes (l.first, (l.closes_first, tt))
      (λ other. let clash : true ≡ false = sym zero_is_zero ∙ other in cc))

  second_offered : AreMessagesIn (offer_messages here (content_of_issue here asked_once).place five) all
  second_offered = rw (anchor_nil meaning key barrier, one_of v)
      (pointed start (once v) (l.second, (l.closes_second, tt)) (λ other. (l.closes_first, (l.first, (l.behind_first, tt)))))

  third_offered : AreMessagesIn (offer_messages here (content_of_issue here asked_twice).place five) all
  third_offered = rw (anchor_nil meaning key barrier, two_of v)
      (pointed start (twice v) (l.third, (l.closes_third, tt)) (λ other. (l.closes_second, (l.first, (l.behind_second, tt)))))

  -- the messages of the moves

  opening_made : Contains all (extended_message (register_of []) v)
  opening_made = subst (λ (x : List ℕ). Contains all (extended_message x v)) (sym reads_zero) l.first

  second_made : Contains all (extended_message (register_of (v ∷ [])) v)
  second_made = subst (λ (x : List ℕ). Contains all (extended_message x v)) (sym (one_of v)) l.second

  closing_made : Contains all (anchored_message (anchor_of meaning.id []) (register_of (v ∷ v ∷ [])))
  closing_made = rw (anchor_nil meaning key barrier, two_of v) l.closes_second

  others_made : Contains all (extended_message (register_of (v ∷ v ∷ [])) d)
  others_made = subst (λ (x : List ℕ). Contains all (extended_message x d)) (sym (two_of v)) l.by_others

  -- a call that asks for the batch once more

  abbrev call : History → History → CallOutcome History
  call offered y = call_outcome_with here (list_level here) y y (course_of Quiet []) five (Ok (fresh (content_of_issue here offered)))

  called_is : (offered y : History) → total_of offered.batches ≤ last_position → is_lost (life_of Opt y) ≡ false
      → verdict_on Opt y (total_of offered.batches) five ≡ Fresh → nat_le (total_of offered.batches + 1) last_position ≡ true
      → call_outcome here (list_level here) y (course_of Quiet []) (issued_bytes here offered) five ≡ call offered y
  called_is offered y few live at fits =
      ap (λ f. call_outcome_with here (list_level here) y y (course_of Quiet []) five (finding_unless_wanting f
      false))
      (found_fresh meaning key barrier y five (content_of_issue here offered) (issued_bytes here offered) live
      (sealed_parts key (content_of_issue here offered) Opt meaning.id (opt_content meaning lawful key barrier offered few)
      (of_opt offered.is_open
      offered) refl)
      (state_after-is_spelled meaning lawful (requests_of offered.batches)) at fits)

  abbrev issued_thrice : List (List ℕ)
  issued_thrice = issued_bytes here first_history ∷ issued_bytes here asked_once ∷ issued_bytes here asked_twice ∷ []

  -- one more request, asked with the snapshot of a history
  asked_met : (offered y last : History) (issued_before : List (List ℕ)) (events : List Event) → total_of offered.batches ≤ last_position
      → is_lost (life_of Opt y) ≡ false → verdict_on Opt y (total_of offered.batches) five ≡ Fresh
      → nat_le (total_of offered.batches + 1) last_position ≡ true → offered_bytes issued_before Last ≡ Some (issued_bytes here offered)
      → NamesPosition here y (content_of_issue here offered)
      → AreMessagesIn (offer_messages here (content_of_issue here offered).place five) all
      → (let o : Outcome History = outcome_by (list_level here) Quiet issued_before (call offered y) in
      AreMessagesIn (messages_of_moves here y (call offered y).moves) all → Met all here o.state o.issued events last
      → Met all here y issued_before (five_asked ∷ events) last)
  asked_met offered y last issued_before events few live at fits newest names offers made met =
      let i : Instance = here in
      let ask : Option (List ℕ) → Outcome History = λ bytes. ask_event_outcome i (list_level i) y issued_before [] Quiet bytes five in
      let same = called_is offered y few live at fits in
      met_first all here y issued_before five_asked events last (outcome_by (list_level here) Quiet issued_before (call offered y))
      (call offered y).moves
      (ap ask newest ∙ ap (outcome_by (list_level here) Quiet issued_before) same)
      (ap (λ bytes. ask_moves i y [] Quiet bytes five) newest ∙ ap (λ (c : CallOutcome History). c.moves) same)
      (subst (λ bytes. IsGenuineOffer i y bytes) (sym newest) (is_genuine here offered y (opt_content meaning lawful key barrier offered
      few) names))
      (subst (λ bytes. AreMessagesIn (asking_messages i bytes five) all) (sym newest)
      (right_within here offered five all (opt_content meaning
      lawful key barrier offered few) offers))
      made met

  -- the last request, behind the closing and the value of others
  last_met : Met all here (others_then d) issued_thrice (five_asked ∷ []) after_two_segments
  last_met = asked_met asked_twice (others_then d) after_two_segments issued_thrice [] (omega arith) refl refl refl refl
      ((opt_made meaning key barrier (Close ∷ Foreign d ∷ []) asked_twice twice_lasts.sound (refl, (tt, tt))).names _
      (opt_issued meaning key barrier asked_twice twice_lasts.sound refl)) third_offered (opening_made, tt)
      (record { within = tt; genuine = tt; ends = refl })

  -- the closing and the value of others
  closed_met : Met all here asked_twice issued_thrice (Checkpoint [] Quiet ∷ Extend d ∷ five_asked ∷ []) after_two_segments
  closed_met = met_first all here asked_twice issued_thrice (Checkpoint [] Quiet) (Extend d ∷ five_asked ∷ []) after_two_segments
      (event_outcome here (list_level here) asked_twice issued_thrice (Checkpoint [] Quiet)) (Close ∷ []) refl refl tt tt (closing_made, tt)
      (met_first all here closed_then issued_thrice (Extend d) (five_asked ∷ []) after_two_segments
      (event_outcome here (list_level here) closed_then issued_thrice (Extend d)) (Foreign d ∷ []) refl refl tt tt
      (others_made, tt) last_met)

  -- the request inside the segment, and the one that opens it
  first_met : Met all here first_history (first_snapshots here) (events_with d) after_two_segments
  first_met =
      asked_met first_history first_history after_two_segments (first_snapshots here) _ (omega arith) refl refl refl refl
      (opt_issued meaning key barrier first_history first_sound refl) first_offered (opening_made, tt)
      (asked_met asked_once asked_once after_two_segments _ _ (omega arith) refl refl refl refl
      (opt_issued meaning key barrier asked_once once_lasts.sound refl) second_offered (second_made, tt) closed_met)

-- the value of others is no guard

ff_apart : (b : Batch) → Contains (five ∷ five ∷ five ∷ []) b → (d : List ℕ) → Contains (ff_bytes ∷ []) d → d ≡ guard world_barrier b → ⊥
ff_apart b among d has same =
    let is_five : b ≡ five = each_at (λ x. x ≡ five) (five ∷ five ∷ five ∷ []) b (refl, (refl, (refl, tt))) among in
    let is_ff : d ≡ ff_bytes = each_at (λ x. x ≡ ff_bytes) (ff_bytes ∷ []) d (refl, tt) has in
    let equal : ff_bytes ≡ five_guard = sym is_ff ∙ same ∙ ap (guard world_barrier) is_five in
    let number : 255 ≡ 152 = ap (λ g. slice_index g 0) equal ∙ guard_first in
    absurd (omega (arith, number))

pub segments_met : (key : List ℕ) → IsClearRun (opt_instance counter key world_barrier) two_segments
    × IsGenuineRun (opt_instance counter key world_barrier) two_segments
    × ((outcome_by_lists (opt_instance counter key world_barrier) two_segments).state ≡ after_two_segments)
segments_met key =
    let i = opt_instance counter key world_barrier in
    let met = first_met counter counter_is_lawful key world_barrier ff_bytes segment_messages segments_listed in (
      record {
        clear = clear_within segment_messages (run_messages i two_segments) segments_clear (segments_listed.begins, met.within);
        apart = λ is d b has among. ff_apart b among d has;
      },
      met.genuine,
      met.ends,
    )

-- and its first request alone is a run that meets them
pub opt_met : (key : List ℕ) → IsClearRun (opt_instance counter key world_barrier) one_ask
    × IsGenuineRun (opt_instance counter key world_barrier) one_ask
opt_met key =
    let i = opt_instance counter key world_barrier in
    let later : List Event = five_asked ∷ Checkpoint [] Quiet ∷ Extend ff_bytes ∷ five_asked ∷ [] in
    (clear_fronts i one_ask later (segments_met key).0, genuine_fronts i one_ask later (segments_met key).1)

-- What a right offer says; and that an issued snapshot, as a right offer, names a position.

pub said_of : (i : Instance) (bytes : List ℕ) (content : Content) → IsRight i bytes content → right_content i bytes ≡ Some content
said_of i bytes content right =
    let parts : parts_of i.variant i.meaning.id bytes ≡ Ok (offered_snapshot_of i.key content) =
    ap (parts_of i.variant i.meaning.id) right.sealed
    ∙ sealed_parts i.key content i.variant i.meaning.id right.formed right.variant right.id in
    right_is i (parts_of i.variant i.meaning.id bytes) (offered_snapshot_of i.key content) parts right.state
    ((bytes_eq-Decides (tag_of i.key content) (tag_of i.key content)).1 refl)

-- What names a position is formed.

place_sized : (variant : Variant) (i : Instance) (y : History) (named : List Batch) (place : Place) → IsPlaceOf variant i y named place
    → IsPlace place
place_sized Basic i y named (InBasic s) p = ap length p ∙ length-summary_of i.meaning.id named
place_sized Opt i y named (InOpt a e) (at_anchor p) =
    (ap length p.anchor_is ∙ length-anchor_of i.meaning.id _, ap length p.extension_is ∙ length-zero_bytes)
place_sized Opt i y named (InOpt a e) (in_closed p) =
    (ap length p.anchor_is ∙ length-anchor_of i.meaning.id _, ap length p.extension_is ∙ length-register_of _)
place_sized Opt i y named (InOpt a e) (in_current p) =
    (ap length p.anchor_is ∙ length-anchor_of i.meaning.id _, ap length p.extension_is ∙ length-register_of _)
place_sized _ i y named place p = absurd p

-- the module's id stands at a fixed place
same_id : (key other : List ℕ) (x z : Content) → sealed_snapshot_of key x ≡ sealed_snapshot_of other z → x.id ≡ z.id
unfolding sealed_snapshot_of snapshot_front
same_id key other x z e = ap (λ (xs : List ℕ). get_or xs 5 0) e

formed_by : (i : Instance) (y : History) (content : Content) → IsLawful i.meaning → total_of y.batches ≤ last_position
    → content.id ≡ i.meaning.id → NamesPosition i y content → IsContent content
formed_by i y content lawful few id n = record {
  place = place_sized i.variant i y n.named content.place n.place;
  position = omega (arith, n.position, few, ap total_of n.first, total-append n.named n.rest);
  state = subst (λ (m : ℕ). length content.state ≤ limit_of m) (sym id)
      (subst (λ (s : List ℕ). length s ≤ limit_of i.meaning.id) (sym n.state)
      (lawful.fits (state_after i.meaning (requests_of n.named)) (state_after-is_spelled i.meaning lawful (requests_of n.named))));
}

pub issued_names : (i : Instance) (y : History) → IsLawful i.meaning → total_of y.batches ≤ last_position → (bytes : List ℕ)
    (content : Content) → IsIssued i y bytes → IsRight i bytes content → NamesPosition i y content
issued_names i y lawful few bytes content s right =
    let id : s.content.id ≡ i.meaning.id = same_id i.key i.key s.content content (sym s.sealed ∙ right.sealed) ∙ right.id in
    let formed : IsContent s.content = formed_by i y s.content lawful few id s.names in
    let same : s.content ≡ content = sealed_once i.key i.key s.content content formed right.formed (sym s.sealed ∙ right.sealed) in
    subst (λ (x : Content). NamesPosition i y x) same s.names
