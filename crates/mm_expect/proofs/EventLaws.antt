-- What an event comes to by lists. With it: what is found of an offer; whether an offer is genuine,
-- by whether what it says names a position; a schedule followed by lists goes on by its events;
-- whether an offer is genuine.
use Rattle.std.specs.Result.{result_ok}
use Rattle.std.proofs.Common.{length-append}
use Rattle.std.proofs.lemmas.Bool.{and_parts, leb-true}
use Rattle.std.proofs.lemmas.List.Elements.{All-drop}
use Rattle.std.proofs.lemmas.Result.{IfOk-weaker}
use Rattle.mm_seal.specs.declared.snapshot.PartsFault.TheVariants.{Form, Kind}
use Rattle.mm_model.specs.declared.refusal.Refusal.TheVariants as refusal
use Rattle.mm_call.specs.CallFinding.{content_if_right, check_of_verdict, check_of_offer}
use Rattle.mm_call.specs.Checkpoints.{CheckpointOutcome, checkpoint_outcome}
use Rattle.mm_call.specs.OfferLaws.{weighed_only, one_content, right_of}
use Rattle.mm_schedule.specs.declared.event.Offer.{Offer}
use Rattle.mm_schedule.specs.declared.reply.Way.{Way}
use Rattle.mm_outcome.specs.Premises.{IsGenuineOffer}
use Rattle.mm_outcome.proofs.Above.{issued_names, said_of}
use Rattle.mm_expect.specs.declared.expecting.ExpectedOutcome.{ExpectedOutcome}
use Rattle.mm_expect.specs.ExpectedState.{offer_of_parts, right_offer, HearsEvent, numbered_event_messages}
use Rattle.mm_expect.proofs.Asking.{foreign_batches}
use Rattle.mm_expect.proofs.Below.{◌≡◌, ℕ, ◌+◌, ◌≤◌, Bool, true, false, ◌&&◌, List, Result, Ok, Err, Some, None, refl, sym, ap, ◌∙◌, arith}
use Rattle.mm_expect.proofs.Below.{nat_eq, bytes_eq, if◌then◌else◌, Content, Refusal, right_content, Decides-eqb, last_position, Batch}
use Rattle.mm_expect.proofs.Below.{size_of, PartsFault, Snapshot, tag_of, parts_of, Instance, History, total_of, Life, Live, life_by}
use Rattle.mm_expect.proofs.Below.{life_of, is_lost, is_last, verdict_by_tests, verdict_on, list_level, CallFinding, finding_by_verdict}
use Rattle.mm_expect.proofs.Below.{finding_at, admitted_tells, weighed_tells, found_with_tells, unless_lost, count_after_batch, AdmitsBatch}
use Rattle.mm_expect.proofs.Below.{[], ◌∷◌, length, Option, longest_request, StepFault, IsLawful, outputs_from, normal_batch, Move}
use Rattle.mm_expect.proofs.Below.{first_history, requests_of, ask_steps, total-push, answer_on, reading_steps, call_outcome, CallOutcome}
use Rattle.mm_expect.proofs.Below.{call_ending_by, position_of, state_seen, position_if_committed, Course, StepsWalk, walk, has_commit}
use Rattle.mm_expect.proofs.Below.{finding_unless_wanting, is_fresh, state_after_moves, unlacked, committed_batches, same_batches}
use Rattle.mm_expect.proofs.Below.{more_batches, Commits, nothing, batch, call_commits, checkpoint_none, fresh_found, again_of, Event}
use Rattle.mm_expect.proofs.Below.{IsPrintable, course_of, way_of, reply_of, moves_after_call, moves_after_checkpoint, told_reply}
use Rattle.mm_expect.proofs.Below.{broken_reply, event_outcome, outcome_of_events, first_snapshots, outcome_by_lists, in_any_way, then_all}
use Rattle.mm_expect.proofs.Below.{closing_all, short_outputs, printed_closing, ◌-◌, length-drop, length-outputs_from, zero, suc, subst}
use Rattle.mm_expect.proofs.Below.{slice_get, AllByRecursion, NamesPosition, IsGenuine, IsIssued, IsDecided, EachOfferIsDecided}
use Rattle.mm_expect.proofs.Below.{IssuedAreGenuine, ◌++◌, chronicle_instance, option_to_list, Variant, Basic, Opt, AnyModule, meaning_of}
use Rattle.mm_expect.proofs.Below.{instance_by, Header, Outcome, RunOutcome, world_of, world_key, world_barrier, goes_on, EventReply}
use Rattle.mm_expect.proofs.Below.{ChronicleGoesByEvent, ChronicleView, ListedChronicle, instance_with, ExpectedState, expected_state_after}
use Rattle.mm_expect.proofs.Below.{first_expected_state, IsAfter, IfOk, Meaning, any_is_lawful, opt_instance, offered_bytes, IsGenuineEvent}
use Rattle.mm_expect.proofs.Below.{basic_issued_named, opt_issued_named, AreIssued, DecidesOffer, DecidesEvent, barrier_of}

-- What is found of an offer.

pub lost_when : (is_open is_bare is_own is_marred : Bool) → is_lost (life_by is_open is_bare is_own is_marred) ≡ (is_open && is_bare)
lost_when true true own marred = refl
lost_when true false true false = refl
lost_when false bare own false = refl
lost_when _ _ _ _ = refl

admitted_live : (life : Life) (here repeat fits again : Bool) → check_of_verdict (verdict_by_tests life here repeat) fits ≡ Ok again
    → (again ≡ false → here ≡ true) × (again ≡ true → repeat ≡ true)
admitted_live Live here repeat fits again e = admitted_tells here repeat fits again e
admitted_live _ here repeat fits again e = cc

fits_when : (again : Bool) (position total size : ℕ) (last : Bool) → position + size ≤ last_position
    → (again ≡ false → nat_eq position total ≡ true) → (again ≡ true → (nat_eq (position + size) total && last) ≡ true)
    → count_after_batch again total size ≤ last_position
fits_when true position total size last fits here repeat =
    omega (arith, fits, (Decides-eqb (position + size) total).0 (and_parts (nat_eq (position + size) total) last (repeat refl)).0)
fits_when false position total size last fits here repeat = omega (arith, fits, (Decides-eqb position total).0 (here refl))

-- what is found admits the batch
from_admits : (i : Instance) (y : History) (b : Batch) (parts : Result Snapshot PartsFault) (f : CallFinding)
    → finding_by_verdict i (list_level i) y b parts ≡ Ok f → AdmitsBatch y b f.again
from_admits i y b (Ok snapshot) f e =
    let position = snapshot.content.position in
    let spelled = i.meaning.is_spelled snapshot.content.state in
    let tagged = bytes_eq snapshot.tag (tag_of i.key snapshot.content) in
    let t = found_with_tells snapshot.content (check_of_offer i.meaning i.key snapshot b (verdict_on i.variant y position b)) f e in
    let w = weighed_tells spelled tagged _ _ f.again t.1 in
    let repeat = nat_eq (position + size_of b) (total_of y.batches) && is_last y.batches b in
    let a = admitted_live (life_of i.variant y) (nat_eq position (total_of y.batches)) repeat _ f.again w.2 in
    let fits = leb-true (position + size_of b) last_position (weighed_only spelled tagged _ _ f.again t.1).fitting in
    record {
      fits = fits_when f.again position (total_of y.batches) (size_of b) (is_last y.batches b) fits a.0 a.1;
      repeats = λ is. (and_parts (nat_eq (position + size_of b) (total_of y.batches)) (is_last y.batches b) (a.1 is)).1;
    }
from_admits i y b (Err Form) f e = cc
from_admits i y b (Err Kind) f e = cc

pub admits_found : (i : Instance) (y : History) (b : Batch) (bytes : List ℕ) (f : CallFinding) → finding_at i (list_level i) y b bytes
    ≡ Ok f
    → AdmitsBatch y b f.again
admits_found i y b bytes f e =
    from_admits i y b (parts_of i.variant i.meaning.id bytes) f (unless_lost (is_lost (life_of i.variant y)) _ f e)

-- what a right offer says
content_with : (spelled tagged : Bool) (content : Content) → (if spelled && tagged then Some content else None)
    ≡ result_ok (if spelled then (if tagged then Ok content else Err refusal.Tag) else Err refusal.State)
content_with true true content = refl
content_with true false content = refl
content_with false tagged content = refl

content_of_parts : (i : Instance) (parts : Result Snapshot PartsFault) → content_if_right i parts ≡ result_ok (offer_of_parts i parts)
content_of_parts i (Ok snapshot) = content_with (i.meaning.is_spelled snapshot.content.state)
    (bytes_eq snapshot.tag (tag_of i.key snapshot.content)) snapshot.content
content_of_parts i (Err Form) = refl
content_of_parts i (Err Kind) = refl

pub right_is : (i : Instance) (bytes : List ℕ) (told : Result Content Refusal) → told ≡ right_offer i bytes
    → right_content i bytes ≡ result_ok told
right_is i bytes told e = content_of_parts i (parts_of i.variant i.meaning.id bytes) ∙ ap result_ok (sym e)

-- What an event comes to by lists: a schedule commits at most 2^48 requests, and each expected reply can be printed.

-- the history has at most so many requests
abbrev pub IsFew : History → Type 0
IsFew y = total_of y.batches ≤ last_position

module _ (i : Instance) where
  still_few : (moves : List Move) (y : History) → committed_batches moves ≡ [] → IsFew y → IsFew (state_after_moves (list_level i) y moves)
  still_few moves y none few = omega (arith, few, ap total_of (same_batches i moves y none))

  -- the reply that tells an answer
  told_printable : IsLawful i.meaning → (y : History) (b : Batch) (again : Bool) → IsFew y
      → IsPrintable (told_reply (answer_on i y b again))
  told_printable lawful y b again few = let all = outputs_from i.meaning i.meaning.first (requests_of y.batches) in (
    All-drop (λ (o : List ℕ). length o ≤ longest_request) _ (outputs_from i.meaning i.meaning.first (requests_of y.batches))
        (short_outputs i.meaning lawful i.meaning.first (requests_of y.batches) lawful.begins),
    omega (
      arith,
      few,
      length-drop (total_of y.batches - size_of b) all,
      length-outputs_from i.meaning i.meaning.first
          (requests_of y.batches),
    ),
  )

  broken_printable : (way : Way) (commit : Bool) (position : ℕ) → IsPrintable (broken_reply way (position_if_committed commit position))
  broken_printable way true position = tt
  broken_printable way false position = tt

  -- what a walk leaves that commits nothing, or its batch, by what was found at the batches before it
  module _ (y seen : History) (b : Batch) (same : seen.batches ≡ y.batches) (walked : StepsWalk) where
    abbrev end : History
    end = state_after_moves (list_level i) y walked.moves

    grown_few : (found : Result CallFinding Refusal) → ((f : CallFinding) → found ≡ Ok f → AdmitsBatch seen b f.again)
        → committed_batches walked.moves ≡ b ∷ []
        → is_fresh found ≡ true → IsFew end
    grown_few found admits one is =
        let f = fresh_found found is in
        let fits = rw f.2 at (admits f.0 f.1).fits in
        omega (arith, fits, ap total_of same, ap total_of (more_batches i walked.moves y b one), total-push y.batches b)

    walked_few : (found : Result CallFinding Refusal) → ((f : CallFinding) → found ≡ Ok f → AdmitsBatch seen b f.again)
        → Commits b (is_fresh found) walked
        → IsFew y → IsFew end
    walked_few found admits (nothing none unless) few = still_few walked.moves y none few
    walked_few found admits (batch one is) few = grown_few found admits one is

    -- where it ends well after an offer was accepted, it leaves few whatever stood before
    answered_few : (found : Result CallFinding Refusal) → ((f : CallFinding) → found ≡ Ok f → AdmitsBatch seen b f.again)
        → Commits b (is_fresh found) walked
        → walked.broken ≡ None → (f : CallFinding) → found ≡ Ok f → IsFew end
    answered_few found admits (nothing none unless) whole f e =
        let fits = rw (again_of f.again (ap is_fresh (sym e) ∙ unless whole)) at (admits f e).fits in
        omega (arith, fits, ap total_of same, ap total_of (same_batches i walked.moves y none))
    answered_few found admits (batch one is) whole f e = grown_few found admits one is

    ended_printable : IsLawful i.meaning → (way : Way) (found : Result CallFinding Refusal)
        → ((f : CallFinding) → found ≡ Ok f → AdmitsBatch seen b f.again) → Commits b (is_fresh found) walked → (broken : Option StepFault)
        → walked.broken ≡ broken → IsPrintable (reply_of way (call_ending_by (list_level i) seen end b found walked.moves broken))
    ended_printable lawful way (Err why) admits c None e = tt
    ended_printable lawful way (Ok f) admits c None e = told_printable lawful end b f.again (answered_few (Ok f) admits c e f refl)
    ended_printable lawful way found admits c (Some fault) e =
        broken_printable way (has_commit walked.moves) (position_of (list_level i) seen end b found)

  -- a call
  module _ (y : History) (course : Course) (bytes : List ℕ) (b : Batch) where
    abbrev seen : History
    seen = state_seen i (list_level i) y course

    abbrev found : Result CallFinding Refusal
    found = finding_unless_wanting (finding_at i (list_level i) seen b bytes) course.lacks

    abbrev walked : StepsWalk
    walked = walk course.fates 1 (ask_steps i.variant y.is_open (is_fresh found) b)

    admits : (f : CallFinding) → found ≡ Ok f → AdmitsBatch seen b f.again
    admits f is = admits_found i seen b bytes f (unlacked (finding_at i (list_level i) seen b bytes) course.lacks f is)

    commits_one : Commits b (is_fresh found) walked
    commits_one = call_commits i.variant course.fates y.is_open (is_fresh found) b

    same : seen.batches ≡ y.batches
    same = foreign_batches i course.fates (reading_steps i.variant) 1 y

    called_few : IsFew y → IsFew (call_outcome i (list_level i) y course bytes b).state
    called_few few = walked_few y seen b same walked found admits commits_one few

    called_printable : IsLawful i.meaning → (way : Way) → IsPrintable (reply_of way (call_outcome i (list_level i) y course bytes b).ending)
    called_printable lawful way = ended_printable y seen b same walked lawful way found admits commits_one walked.broken refl

  few_event : (y : History) (issued : List (List ℕ)) (event : Event) → IsFew y → IsFew (event_outcome i (list_level i) y issued event).state
  few_event y issued event few = in_any_way i (list_level i) y issued (λ o. IsFew o.state) (record {
    refused = λ why. few;
    call = λ stop meddles bytes b short.
        let o : CallOutcome History = call_outcome i (list_level i) y (course_of stop meddles) bytes (normal_batch b) in
        still_few (moves_after_call stop o.ending) o.state (then_all (λ moves. committed_batches moves ≡ []) refl refl stop o.ending)
        (called_few y (course_of stop meddles) bytes (normal_batch b) few);
    check = λ stop meddles.
        let o : CheckpointOutcome History = checkpoint_outcome i (list_level i) y (course_of stop meddles) in
        still_few (moves_after_checkpoint stop o.ending) o.state (closing_all (λ moves. committed_batches moves ≡ []) refl
        refl stop o.ending)
        (still_few o.moves y (checkpoint_none i.variant y.is_open _ (course_of stop meddles).fates) few);
    power = few;
    extend = λ value. few;
  }) event

  few_followed : (y : History) (issued : List (List ℕ)) (events : List Event) → IsFew y
      → IsFew (outcome_of_events i (list_level i) y issued events).state
  few_followed y issued [] few = few
  few_followed y issued (event ∷ events) few =
      let o = event_outcome i (list_level i) y issued event in few_followed o.state o.issued events (few_event y issued event few)

  pub few_expected : (events : List Event) → IsFew (outcome_by_lists i events).state
  few_expected events = few_followed first_history (first_snapshots i) events (omega arith)

  pub printable : IsLawful i.meaning → (y : History) (issued : List (List ℕ)) (event : Event)
      → IsPrintable (event_outcome i (list_level i) y issued event).reply
  printable lawful y issued event = in_any_way i (list_level i) y issued (λ o. IsPrintable o.reply) (record {
    refused = λ why. tt;
    call = λ stop meddles bytes b short. called_printable y (course_of stop meddles) bytes (normal_batch b) lawful (way_of stop);
    check = λ stop meddles. printed_closing (way_of stop) (checkpoint_outcome i (list_level i) y (course_of stop meddles)).ending;
    power = tt;
    extend = λ value. tt;
  }) event

-- Whether an offer is genuine, by whether what it says names a position.

-- A right offer says one thing, and what is said of an offer is right.

by_content : (yes : Bool) (i : Instance) (y : History) (bytes : List ℕ) (content : Content) → right_content i bytes ≡ Some content
    → IsDecided yes (NamesPosition i y content) → IsDecided yes (IsGenuine i y bytes)
by_content true i y bytes content e n = λ other right. subst (λ (x : Content). NamesPosition i y x)
    (one_content i bytes content other (right_of i bytes (parts_of i.variant i.meaning.id bytes) refl content e) right) n
by_content false i y bytes content e none =
    λ genuine. none (genuine content (right_of i bytes (parts_of i.variant i.meaning.id bytes) refl content e))

pub offers_decided : EachOfferIsDecided
offers_decided i = record {
  not_right = λ y bytes e content right. let clash : None ≡ Some content = sym e ∙ said_of i bytes content right in absurd (cc);
  right = λ y bytes content yes e n. by_content yes i y bytes content e n;
}

-- An issued snapshot is genuine.

each_at : (i : Instance) (y : History) (xs : List (List ℕ)) (n : ℕ) (x : List ℕ) → AllByRecursion (IsIssued i y) xs
    → slice_get xs n ≡ Some x → IsIssued i y x
each_at i y [] n x h e = absurd (cc)
each_at i y (z ∷ xs) zero x h e = subst (IsIssued i y) (let same : z ≡ x = cc in same) h.0
each_at i y (z ∷ xs) (suc n) x h e = each_at i y xs n x h.1 e

pub issued_genuine : (i : Instance) → IssuedAreGenuine i
issued_genuine i y issued number bytes lawful few h e = λ content right.
    issued_names i y lawful few bytes content (each_at i y issued number bytes h e) right

-- A schedule followed by lists goes on by its events.

world_is : (variant : Variant) («module» : AnyModule)
    → instance_with variant «module» ≡ instance_by variant (meaning_of «module») world_key world_barrier
world_is Basic «module» = refl
world_is Opt «module» = refl

pub instance_is : (header : Header) → instance_with header.variant header.«module» ≡ world_of header
instance_is header = world_is header.variant header.«module»

abbrev pub header_of : ChronicleView → Header
header_of r = record { variant = r.variant; «module» = r.«module» }

abbrev pub traced : ChronicleView → List (List ℕ) → ExpectedState
traced r issued = record { header = header_of r; history = r.history; issued = issued }

-- the start
pub begins : (header : Header) → IsAfter header [] (first_expected_state header)
begins header = record { header_is = refl; history_is = refl; issued_is = refl }

pub goes_after : (header : Header) (events : List Event) (event : Event) (old new : ExpectedState) → IsAfter header events old
    → new ≡ expected_state_after old event → IsAfter header (events ++ event ∷ []) new
goes_after header events event old new at is =
    let i = world_of header in
    let run : RunOutcome History = outcome_by_lists i events in
    let whole = goes_on i (list_level i) events (event ∷ []) first_history (first_snapshots i) in
    let stands : old ≡ record { header = header; history = run.state; issued = run.issued } =
    (λ j. record { header = at.header_is j; history = at.history_is j; issued = at.issued_is j }) in
    let later = is ∙ ap (λ (t : ExpectedState). expected_state_after t event) stands in
    record {
      header_is = ap (λ (t : ExpectedState). t.header) later;
      history_is = ap (λ (t : ExpectedState). t.history) later ∙ sym (ap (λ (f : RunOutcome History). f.state) whole);
      issued_is = ap (λ (t : ExpectedState). t.issued) later ∙ sym (ap (λ (f : RunOutcome History). f.issued) whole);
    }

pub event_state : {old new : ListedChronicle} {issued later : List (List ℕ)} {event : Event} {said : EventReply}
    → ChronicleGoesByEvent old new issued event said → later ≡ issued ++ option_to_list said.snapshot
    → traced new.at later ≡ expected_state_after (traced old.at issued) event
event_state {old} {issued = issued} {event = event} comes kept =
    let same = ap (λ (i : Instance). event_outcome i (list_level i) old.at.history issued event) (instance_is (header_of old.at)) in
    λ j. record {
      header = record { variant = comes.variant j; «module» = comes.«module» j };
      history = (comes.state ∙ ap (λ (o : Outcome History). o.state) same) j;
      issued = (kept ∙ sym comes.issued_is ∙ ap (λ (o : Outcome History). o.issued) same) j;
    }

-- what is heard of it
pub event_heard : {old new : ListedChronicle} {issued : List (List ℕ)} {event : Event} {said : EventReply} {heard : ExpectedOutcome}
    → ChronicleGoesByEvent old new issued event said → old.messages ≡ [] → heard.reply ≡ said.reply → heard.messages.items ≡ new.messages
    → HearsEvent (world_of (header_of old.at)) old.at.history issued event heard
event_heard {old} {issued = issued} {event = event} {heard = heard} comes none reply listed =
    subst (λ (i : Instance). HearsEvent i old.at.history issued event heard) (instance_is (header_of old.at)) (record {
      reply = reply ∙ comes.reply;
      messages = listed ∙ comes.messages ∙ ap (λ (l : List (List ℕ)). l
          ++ numbered_event_messages (chronicle_instance old.at) old.at.history issued event) none;
    })

pub grown_one : (old new : List (List ℕ)) (o : Option (List ℕ)) → new ≡ old ++ option_to_list o → length new ≤ length old + 1
grown_one old new None is = omega (arith, ap length is, length-append old [])
grown_one old new (Some x) is = omega (arith, ap length is, length-append old (x ∷ []))

-- Whether an offer is genuine.

named_by : (variant : Variant) (meaning : Meaning) (events : List Event)
    → (let i = instance_by variant meaning world_key world_barrier in AllByRecursion (IsIssued i (outcome_by_lists i events).state)
    (outcome_by_lists i events).issued)
named_by Basic meaning events = basic_issued_named meaning world_key events
named_by Opt meaning events = opt_issued_named meaning world_key world_barrier events

-- where the expected run of some events stands
pub are_issued : (header : Header) (events : List Event) (it : ExpectedState) → IsAfter header events it
    → AreIssued (world_of header) it.history it.issued
are_issued header events it at =
    let i = world_of header in
    let S : History → Type 0 = λ y. AreIssued i y it.issued in
    let T : List (List ℕ) → Type 0 = λ v. AreIssued i (outcome_by_lists i events).state v in
    subst S (sym at.history_is) (subst T (sym at.issued_is)
    (record { few = few_expected i events; names = named_by header.variant (meaning_of header.«module») events }))

pub event_decided : (old : ChronicleView) (issued : List (List ℕ)) (event : Event) (true_or_not : Bool) (header : Header)
    (events : List Event)
    → DecidesEvent (chronicle_instance old) old.history issued event true_or_not → IsAfter header events (traced old issued)
    → IsDecided true_or_not (IsGenuineEvent (world_of header) old.history issued event)
event_decided old issued event true_or_not header events decides at =
    let same : chronicle_instance old ≡ world_of header = instance_is (header_of old) ∙ ap world_of at.header_is in
    subst (λ (i : Instance). IsDecided true_or_not (IsGenuineEvent i old.history issued event)) same
    (decides (subst (λ (i : Instance). AreIssued i old.history issued) (sym same) (are_issued header events (traced old issued) at)))

pub genuine_some : {E : Type 0} (r : Result Bool E) (i : Instance) (y : History) (bytes : List ℕ) {content : Content}
    → right_content i bytes ≡ Some content → IfOk r (λ true_or_not. IsDecided true_or_not (NamesPosition i y content))
    → IfOk r (λ true_or_not. IsDecided true_or_not (IsGenuine i y bytes))
genuine_some r i y bytes {content} e = IfOk-weaker r _ _ (λ true_or_not n. (offers_decided i).right y bytes content true_or_not e n)

pub decided_some : {E : Type 0} (r : Result Bool E) (i : Instance) (y : History) (issued : List (List ℕ)) (offer : Offer)
    {bytes : List ℕ} → offered_bytes issued offer ≡ Some bytes → IfOk r (λ true_or_not. IsDecided true_or_not (IsGenuine i y bytes))
    → IfOk r (DecidesOffer i y issued offer)
decided_some r i y issued offer e = IfOk-weaker r _ _
    (λ b d are. subst (λ (f : Option (List ℕ)). IsDecided b (IsGenuineOffer i y f)) (sym e) d)

-- an issued snapshot, and what is offered beside one
module _ (r : ChronicleView) (issued : List (List ℕ)) where
  issued_found : (number : ℕ) (found : Option (List ℕ)) → slice_get issued number ≡ found
      → AreIssued (chronicle_instance r) r.history issued → IsGenuineOffer (chronicle_instance r) r.history found
  issued_found number None e are = tt
  issued_found number (Some bytes) e are =
      issued_genuine (chronicle_instance r) r.history issued number bytes (any_is_lawful r.«module») are.few are.names e

  pub decided_issued : (offer : Offer) (number : ℕ) → offered_bytes issued offer ≡ slice_get issued number
      → DecidesOffer (chronicle_instance r) r.history issued offer true
  decided_issued offer number is are =
      subst (IsGenuineOffer (chronicle_instance r) r.history) (sym is) (issued_found number (slice_get issued number) refl are)

-- what is decided of the lists, whatever the key, is decided of what contracts see

guarded_is : (variant : Variant) («module» : AnyModule) (barrier : List ℕ) → barrier ≡ barrier_of variant
    → instance_by variant (meaning_of «module») world_key barrier ≡ instance_with variant «module»
guarded_is Basic «module» barrier e = refl
guarded_is Opt «module» barrier e = ap (opt_instance (meaning_of «module») world_key) e

module _ {old seen : ChronicleView} {barrier : List ℕ} (is : old ≡ seen) (guarded : barrier ≡ barrier_of old.variant) where
  there : (P : Instance → History → Type 0)
      → ((key : List ℕ) → P (instance_by old.variant (meaning_of old.«module») key barrier) old.history)
      → P (chronicle_instance seen) seen.history
  there P d = subst (λ (r : ChronicleView). P (chronicle_instance r) r.history) is
      (subst (λ (i : Instance). P i old.history) (guarded_is old.variant old.«module» barrier guarded) (d world_key))

  pub names_there : {E : Type 0} (r : Result Bool E) (content : Content)
      → IfOk r (λ b. (key : List ℕ) → IsDecided b (NamesPosition (instance_by old.variant (meaning_of old.«module») key barrier) old.history
      content))
      → IfOk r (λ b. IsDecided b (NamesPosition (chronicle_instance seen) seen.history content))
  names_there r content = IfOk-weaker r _ _ (λ b. there (λ i y. IsDecided b (NamesPosition i y content)))
