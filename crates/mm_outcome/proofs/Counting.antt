-- What an event comes to, in either variant: at most 64 requests are committed, the reply can be
-- printed, and at most one snapshot is issued. With it: what is expected is a run of the machine,
-- in each variant.
use Rattle.mm_seal.specs.FieldLaws.{le_tells}
use Rattle.mm_modules.specs.Modules.{meaning_of}
use Rattle.mm_modules.specs.ModulesLaws.{any_is_lawful}
use Rattle.mm_model.specs.BatchLaws.{HasLastBatch, is_last_tells}
use Rattle.mm_call.specs.CallFinding.{answer_on}
use Rattle.mm_call.specs.OfferLaws.{weighed_only}
use Rattle.mm_call.specs.Standing.{instance_by}
use Rattle.mm_schedule.specs.Replies.{IsPrintable}
use Rattle.mm_schedule.specs.declared.reply.Reply.TheVariants.{Told, Kept}
use Rattle.mm_outcome.specs.OneRun.{IssuesAtMostOne, WorldState, instance_of, outcome_in}
use Rattle.mm_outcome.proofs.Below.{found_with_tells, unless_lost, bytes_eq, tag_of, position_if_committed, has_commit, ◌≡◌, ℕ, ◌+◌, ◌≤◌}
use Rattle.mm_outcome.proofs.Below.{Bool, true, false, List, [], ◌∷◌, ◌++◌, length, IsTrue, Option, None, Some, Result, Ok, Err, refl, sym}
use Rattle.mm_outcome.proofs.Below.{ap, subst, arith, length-append, All, nat_tests, All-nil, All-cons, last_position, longest_request}
use Rattle.mm_outcome.proofs.Below.{most_members, Variant, Basic, Opt, Meaning, IsLawful, outputs_from, length-outputs_from, Batch}
use Rattle.mm_outcome.proofs.Below.{members_of, size_of, normal_batch, members_of-normal, StepFault, PartsFault, Form, Kind, parts_of}
use Rattle.mm_outcome.proofs.Below.{Content, Snapshot, Instance, Move, Commit, is_long, Digests, digests_after, digests_after_commit}
use Rattle.mm_outcome.proofs.Below.{ask_steps, Refusal, check_of_offer, digest_level, state_after_moves, CallFinding, finding_by_verdict}
use Rattle.mm_outcome.proofs.Below.{finding_at, finding_unless_wanting, is_fresh, Course, StepsWalk, walk, CallEnding, Answers, CallOutcome}
use Rattle.mm_outcome.proofs.Below.{call_ending_by, state_seen, call_outcome, CheckpointEnding, Stops, CheckpointOutcome}
use Rattle.mm_outcome.proofs.Below.{checkpoint_outcome, committed_batches, Commits, nothing, batch, call_commits, unlacked, checkpoint_none}
use Rattle.mm_outcome.proofs.Below.{Event, Way, way_of, course_of, reply_of, snapshots_of, closing_reply, event_outcome, world_key}
use Rattle.mm_outcome.proofs.Below.{world_barrier, inl, inr, append-nil, ◌-◌, ◌&&◌, ◌∙◌, nat_eq, and_parts, state_after, Meddle, Stop}
use Rattle.mm_outcome.proofs.Below.{History, requests_of, total_of, first_history, Life, Live, life_of, is_lost, is_last, verdict_by_tests}
use Rattle.mm_outcome.proofs.Below.{verdict_on, check_of_verdict, list_level, moves_seen, Breaks, reading_steps, checkpoint_outcome_with}
use Rattle.mm_outcome.proofs.Below.{same_batches, more_batches, commits-none, commits_batch, seen_none, admitted_tells, weighed_tells}
use Rattle.mm_outcome.proofs.Below.{requests-push, said_last, again_of, fresh_of, Ask, Checkpoint, IsTold, IsBatchStep, IsStepWithoutBatch}
use Rattle.mm_outcome.proofs.Below.{IsRunStep, IsEventRun, Reply, offered_bytes, Outcome, outcome_by, checkpoint_event_outcome, RunOutcome}
use Rattle.mm_outcome.proofs.Below.{outcome_of_events, first_snapshots, ExpectedRuns}
use Rattle.mm_outcome.proofs.Following.{broken_reply, in_any_way, then_all, closing_all, asked_either}

-- how many requests moves commit

abbrev pub sizes_of : List Batch → ℕ
sizes_of [] = 0
sizes_of (b ∷ batches) = size_of b + sizes_of batches

commit_count : (variant : Variant) (flag : Bool) (i : Instance) (d : Digests) (b : Batch)
    → (digests_after_commit variant flag i d b).count ≡ d.count + size_of b
commit_count Opt true i d b = refl
commit_count _ _ i d b = refl

pub count-made : (i : Instance) (moves : List Move) (d : Digests)
    → (state_after_moves (digest_level i) d moves).count ≡ d.count + sizes_of (committed_batches moves)
count-made i [] d = omega arith
count-made i (Commit b ∷ moves) d = omega (arith, count-made i moves (digests_after i d (Commit b)), commit_count i.variant d.flag i d b)
count-made i (m ∷ moves) d = count-made i moves (digests_after i d m)

walk_sizes : (b : Batch) (fresh : Bool) (w : StepsWalk) → Commits b fresh w → sizes_of (committed_batches w.moves) ≤ size_of b
walk_sizes b fresh w (nothing none unless) = omega (arith, ap sizes_of none)
walk_sizes b fresh w (batch one is) = omega (arith, ap sizes_of one)

called_few : (i : Instance) (d : Digests) (c : Course) (bytes : List ℕ) (b : Batch)
    → (call_outcome i (digest_level i) d c bytes b).state.count ≤ d.count + size_of b
called_few i d c bytes b =
    let fresh : Bool = is_fresh (finding_unless_wanting (finding_at i (digest_level i) (state_seen i (digest_level i) d c) b bytes)
    c.lacks) in
    let w : StepsWalk = walk c.fates 1 (ask_steps i.variant d.flag fresh b) in
    omega (arith, count-made i w.moves d, walk_sizes b fresh w (call_commits i.variant c.fates d.flag fresh b))

pub short_size : (b : Batch) → is_long b ≡ false → size_of (normal_batch b) ≤ most_members
short_size b e =
    let few : size_of b ≤ most_members = grind (arith, nat_tests, e) in
    omega (arith, few, ap (λ (m : List (List ℕ)). length m) (members_of-normal b))

pub few_committed : (i : Instance) (d : Digests) (issued : List (List ℕ)) (event : Event)
    → (event_outcome i (digest_level i) d issued event).state.count ≤ d.count + most_members
few_committed i d issued event =
    let same : Digests → List Move → Type 0 = λ s moves. (state_after_moves (digest_level i) s moves).count ≡ s.count in
    in_any_way i (digest_level i) d issued (λ o. o.state.count ≤ d.count + most_members) (record {
      refused = λ why. omega arith;
      call = λ stop meddles bytes b short.
          let o : CallOutcome Digests = call_outcome i (digest_level i) d (course_of stop meddles) bytes (normal_batch b) in
          omega (
            arith,
            then_all (same o.state) refl refl stop o.ending,
            called_few i d (course_of stop meddles) bytes (normal_batch b),
            short_size b short,
          );
      check = λ stop meddles.
          let o : CheckpointOutcome Digests = checkpoint_outcome i (digest_level i) d (course_of stop meddles) in
          let lost : Bool = (digest_level i).is_lost (state_seen i (digest_level i) d (course_of stop meddles)) in
          omega (
            arith,
            closing_all (same o.state) refl refl stop o.ending,
            count-made i o.moves d,
            ap sizes_of (checkpoint_none i.variant d.flag lost (course_of stop meddles).fates),
          );
      power = omega arith;
      extend = λ value. omega arith;
    }) event

-- the reply can be printed: an output is a line, and no position is past the last

pub short_outputs : (meaning : Meaning) → IsLawful meaning → (state : List ℕ) (members : List (List ℕ)) → IsTrue (meaning.is_spelled state)
    → All (λ (output : List ℕ). length output ≤ longest_request) (outputs_from meaning state members)
short_outputs meaning lawful state [] spelled = All-nil (λ (output : List ℕ). length output ≤ longest_request)
short_outputs meaning lawful state (request ∷ members) spelled =
    All-cons (λ (output : List ℕ). length output ≤ longest_request) (meaning.says state request)
    (outputs_from meaning (meaning.next state request) members) ((lawful.says_lines state request spelled).short)
    (short_outputs meaning lawful (meaning.next state request) members (lawful.goes_on state request spelled))

-- an offer that is accepted has a spelled state and positions left for the batch
record IsAccepted (meaning : Meaning) (offered : Content) (b : Batch) : Type 0 where
  spelled : IsTrue (meaning.is_spelled offered.state)
  fits : offered.position + size_of b ≤ last_position

accepted_from : (i : Instance) (seen : Digests) (b : Batch) (parts : Result Snapshot PartsFault) (it : CallFinding)
    → finding_by_verdict i (digest_level i) seen b parts ≡ Ok it → IsAccepted i.meaning it.offered b
accepted_from i seen b (Ok snapshot) it e =
    let t = found_with_tells snapshot.content
    (check_of_offer i.meaning i.key snapshot b ((digest_level i).verdict seen snapshot.content b)) it e in
    let w = weighed_only (i.meaning.is_spelled snapshot.content.state) (bytes_eq snapshot.tag (tag_of i.key snapshot.content)) _ _
    it.again t.1 in
    subst (λ (x : Content). IsAccepted i.meaning x b) (sym t.0) (record {
      spelled = w.spelled;
      fits = le_tells (snapshot.content.position + size_of b) last_position w.fitting;
    })
accepted_from i seen b (Err Form) it e = cc
accepted_from i seen b (Err Kind) it e = cc

printed_ended : (i : Instance) → IsLawful i.meaning
    → (seen s : Digests) (how : Way) (b : Batch) (found : Result CallFinding Refusal) (moves : List Move) (broken : Option StepFault)
    → ((it : CallFinding) → found ≡ Ok it → IsAccepted i.meaning it.offered b)
    → IsPrintable (reply_of how (call_ending_by (digest_level i) seen s b found moves broken))
printed_ended i lawful seen s how b (Err why) moves None h = tt
printed_ended i lawful seen s how b (Ok it) moves None h =
    let a = h it refl in let fits = a.fits in let size = length-outputs_from i.meaning it.offered.state (members_of b) in
    (short_outputs i.meaning lawful it.offered.state (members_of b) a.spelled, omega (arith, size, fits))
printed_ended i lawful seen s how b found moves (Some fault) h = printed_broken (has_commit moves) _
  where
    printed_broken : (kept : Bool) (position : ℕ) → IsPrintable (broken_reply how (position_if_committed kept position))
    printed_broken true position = tt
    printed_broken false position = tt

printed_called : (i : Instance) → IsLawful i.meaning → (d : Digests) (how : Way) (c : Course) (bytes : List ℕ) (b : Batch)
    → IsPrintable (reply_of how (call_outcome i (digest_level i) d c bytes b).ending)
printed_called i lawful d how c bytes b =
    let seen : Digests = state_seen i (digest_level i) d c in
    let offered : Result CallFinding Refusal = finding_at i (digest_level i) seen b bytes in
    let found : Result CallFinding Refusal = finding_unless_wanting offered c.lacks in
    let w : StepsWalk = walk c.fates 1 (ask_steps i.variant d.flag (is_fresh found) b) in
    printed_ended i lawful seen (state_after_moves (digest_level i) d w.moves) how b found w.moves w.broken
    (λ it is. accepted_from i seen b (parts_of i.variant i.meaning.id bytes) it
    (unless_lost ((digest_level i).is_lost seen) _ it (unlacked offered c.lacks it is)))

pub printed_closing : (how : Way) (closing : CheckpointEnding) → IsPrintable (closing_reply how closing)
printed_closing how (Stops fault true) = tt
printed_closing how (Stops fault false) = tt
printed_closing how closing = tt

pub printable : (i : Instance) → IsLawful i.meaning → (d : Digests) (issued : List (List ℕ)) (event : Event)
    → IsPrintable (event_outcome i (digest_level i) d issued event).reply
printable i lawful d issued event = in_any_way i (digest_level i) d issued (λ o. IsPrintable o.reply) (record {
  refused = λ why. tt;
  call = λ stop meddles bytes b short. printed_called i lawful d (way_of stop) (course_of stop meddles) bytes (normal_batch b);
  check = λ stop meddles. printed_closing (way_of stop) (checkpoint_outcome i (digest_level i) d (course_of stop meddles)).ending;
  power = tt;
  extend = λ value. tt;
}) event

-- at most one snapshot is issued

ending_issues : (issued : List (List ℕ)) (ending : CallEnding) → IssuesAtMostOne issued (issued ++ snapshots_of ending)
ending_issues issued (Answers answer) = inr (answer.snapshot, refl)
ending_issues issued _ = inl (append-nil issued)

pub issues : (i : Instance) (d : Digests) (issued : List (List ℕ)) (event : Event)
    → IssuesAtMostOne issued (event_outcome i (digest_level i) d issued event).issued
issues i d issued event = in_any_way i (digest_level i) d issued (λ o. IssuesAtMostOne issued o.issued) (record {
  refused = λ why. inl refl;
  call = λ stop meddles bytes b short.
      ending_issues issued (call_outcome i (digest_level i) d (course_of stop meddles) bytes (normal_batch b)).ending;
  check = λ stop meddles. inl refl;
  power = inl refl;
  extend = λ value. inl refl;
}) event

pub issues_one : (i : Instance) (d : Digests) (issued : List (List ℕ)) (event : Event)
    → length (event_outcome i (digest_level i) d issued event).issued ≤ length issued + 1
issues_one i d issued event = elim (issues i d issued event) [
  | inl none ↦ omega (arith, ap (λ (x : List (List ℕ)). length x) none)
  | inr one ↦ omega (arith, ap (λ (x : List (List ℕ)). length x) one.1, length-append issued (one.0 ∷ []))
]

-- over a world

pub meaning_by : (variant : Variant) (meaning : Meaning) (key barrier : List ℕ)
    → (instance_by variant meaning key barrier).meaning ≡ meaning
meaning_by Basic meaning key barrier = refl
meaning_by Opt meaning key barrier = refl

pub printed : (world : WorldState) (event : Event) → IsPrintable (outcome_in world event).reply
printed world event =
    let lawful = subst IsLawful (sym (meaning_by world.header.variant (meaning_of world.header.«module») world_key world_barrier))
    (any_is_lawful world.header.«module») in
    printable (instance_of world) lawful world.digests world.issued event

pub world_few : (world : WorldState) (event : Event) → (outcome_in world event).state.count ≤ world.digests.count + most_members
world_few world event = few_committed (instance_of world) world.digests world.issued event

pub grown : (world : WorldState) (event : Event) → length (outcome_in world event).issued ≤ length world.issued + 1
grown world event = issues_one (instance_of world) world.digests world.issued event

-- What is expected is a run of the machine, in each variant.

-- a repeat that is accepted is one of the last batch, whatever the life of the history
repeat_admitted : (life : Life) (here repeat fits again : Bool) → check_of_verdict (verdict_by_tests life here repeat) fits ≡ Ok again
    → again ≡ true
    → repeat ≡ true
repeat_admitted Live here repeat fits again e = (admitted_tells here repeat fits again e).1
repeat_admitted _ here repeat fits again e = λ _. cc

-- a repeat is asked of the last batch
repeats_from : (i : Instance) (y : History) (b : Batch) (parts : Result Snapshot PartsFault) (found : CallFinding)
    → finding_by_verdict i (list_level i) y b parts ≡ Ok found → found.again ≡ true → HasLastBatch y.batches b
repeats_from i y b (Ok snapshot) found is again =
    let t = found_with_tells snapshot.content
    (check_of_offer i.meaning i.key snapshot b (verdict_on i.variant y snapshot.content.position b)) found is
    in
    let w = weighed_tells (i.meaning.is_spelled snapshot.content.state) (bytes_eq snapshot.tag (tag_of i.key snapshot.content)) _ _
    found.again t.1 in
    let a = repeat_admitted (life_of i.variant y) (nat_eq snapshot.content.position (total_of y.batches))
    (nat_eq (snapshot.content.position + size_of b) (total_of y.batches) && is_last y.batches b) _ found.again w.2 again in
    is_last_tells y.batches b (and_parts (nat_eq (snapshot.content.position + size_of b) (total_of y.batches)) (is_last y.batches b) a).1
repeats_from i y b (Err Form) found is again = cc
repeats_from i y b (Err Kind) found is again = cc

repeats_at : (i : Instance) (y : History) (b : Batch) (bytes : List ℕ) (found : CallFinding)
    → finding_at i (list_level i) y b bytes ≡ Ok found → found.again ≡ true → HasLastBatch y.batches b
repeats_at i y b bytes found is again =
    repeats_from i y b (parts_of i.variant i.meaning.id bytes) found (unless_lost (is_lost (life_of i.variant y)) _ found is) again

-- what a call that was broken off says
broken_steps : (meaning : Meaning) (requests after : List (List ℕ)) (b : Batch) (how : Way) (fault : StepFault) (committed : Bool)
    (position : ℕ)
    → (committed ≡ false → after ≡ requests) → (committed ≡ true → (after ≡ requests ++ members_of b) × (position ≡ length after))
    → IsBatchStep meaning requests b (reply_of how (Breaks fault (position_if_committed committed position))) after
broken_steps meaning requests after b how fault true position same grown = grown refl
broken_steps meaning requests after b how fault false position same grown = same refl

-- what is told of a batch with which a history ends
told_last : (i : Instance) (y : History) (front : List Batch) (b : Batch) (again : Bool) → y.batches ≡ front ++ b ∷ []
    → (let a = answer_on i y b again in
    IsTold i.meaning (requests_of front) b (total_of y.batches - length a.outputs) a.outputs (requests_of y.batches))
told_last i y front b again e =
    let said = said_last i.meaning y.batches front b e in
    let size = ap length said ∙ length-outputs_from i.meaning (state_after i.meaning (requests_of front)) (members_of b) in
    let grown = ap requests_of e ∙ requests-push front b in
    let all = ap length grown ∙ length-append (requests_of front) (members_of b) in record {
      counted = omega (arith, size, all);
      said = said;
      grown = grown;
    }

ended_steps : (i : Instance) (y seen : History) (how : Way) (b : Batch)
    (walked : StepsWalk) (broken : Option StepFault) (found : Result CallFinding Refusal) → walked.broken ≡ broken
    → Commits b (is_fresh found) walked → ((f : CallFinding) → found ≡ Ok f → f.again ≡ true → HasLastBatch y.batches b)
    → (let end : History = state_after_moves (list_level i) y walked.moves in
    IsBatchStep i.meaning (requests_of y.batches) b (reply_of how (call_ending_by (list_level i) seen end b found walked.moves broken))
    (requests_of end.batches))
ended_steps i y seen how b walked (Some fault) found e (nothing none unless) repeat =
    broken_steps i.meaning _ _ b how fault (has_commit walked.moves) _ (λ x. ap requests_of (same_batches i walked.moves y none))
    (λ x. let clash = sym (commits-none walked.moves none) ∙ x in cc)
ended_steps i y seen how b walked (Some fault) (Ok f) e (batch one fresh) repeat =
    broken_steps i.meaning _ _ b how fault (has_commit walked.moves) _ (λ x. let clash = sym (commits_batch walked.moves b one) ∙ x in cc)
    (λ x. (ap requests_of (more_batches i walked.moves y b one) ∙ requests-push y.batches b, refl))
ended_steps i y seen how b walked None (Err why) e (nothing none unless) repeat = ap requests_of (same_batches i walked.moves y none)
ended_steps i y seen how b walked None (Ok f) e (nothing none unless) repeat =
    let end : History = state_after_moves (list_level i) y walked.moves in let again = again_of f.again (unless e) in
    let same = same_batches i walked.moves y none in let ends = repeat f refl again in
    subst (λ (g : Bool). IsBatchStep i.meaning (requests_of y.batches) b (reply_of how (Answers (answer_on i end b g))) (requests_of
    end.batches))
    (sym again) (
      requests_of ends.front,
      subst (IsTold i.meaning (requests_of ends.front) b (total_of end.batches - length (answer_on i end b true).outputs)
          (answer_on i end b true).outputs) (ap requests_of same)
          (told_last i end ends.front b true (same ∙ ends.is)),
      ap requests_of same,
    )
ended_steps i y seen how b walked None (Ok f) e (batch one fresh) repeat =
    let end : History = state_after_moves (list_level i) y walked.moves in
    subst (λ (g : Bool). IsBatchStep i.meaning (requests_of y.batches) b (reply_of how (Answers (answer_on i end b g))) (requests_of
    end.batches))
    (sym (fresh_of f.again fresh)) (told_last i end y.batches b false (more_batches i walked.moves y b one))
ended_steps i y seen how b walked broken (Err why) e (batch one fresh) repeat = cc

called_steps : (i : Instance) (y : History) (issued : List (List ℕ)) (meddles : List Meddle) (stop : Stop) (bytes : List ℕ) (b : Batch)
    → (let o : Outcome History = outcome_by (list_level i) stop issued (call_outcome i (list_level i) y (course_of stop meddles) bytes b) in
    IsBatchStep i.meaning (requests_of y.batches) b o.reply (requests_of o.state.batches))
called_steps i y issued meddles stop bytes b =
    let c : Course = course_of stop meddles in
    let moves : List Move = moves_seen c.fates (reading_steps i.variant) 1 in
    let seen : History = state_after_moves (list_level i) y moves in
    let same : seen.batches ≡ y.batches = same_batches i moves y (seen_none c.fates (reading_steps i.variant) 1) in
    let lists : Result CallFinding Refusal = finding_at i (list_level i) seen b bytes in
    let found : Result CallFinding Refusal = finding_unless_wanting lists c.lacks in
    let walked : StepsWalk = walk c.fates 1 (ask_steps i.variant y.is_open (is_fresh found) b) in
    let o : CallOutcome History = call_outcome i (list_level i) y c bytes b in
    let P : List Batch → Type 0 = λ v. HasLastBatch v b in
    let S : List (List ℕ) → Type 0 = λ after. IsBatchStep i.meaning (requests_of y.batches) b (reply_of (way_of stop) o.ending) after in
    let none = then_all (λ moves. (state_after_moves (list_level i) o.state moves).batches ≡ o.state.batches) refl refl stop o.ending in
    subst S (ap requests_of (sym none)) (ended_steps i y seen (way_of stop) b walked walked.broken found refl
    (call_commits i.variant c.fates y.is_open (is_fresh found) b)
    (λ f is again. subst P same (repeats_at i seen b bytes f (unlacked lists c.lacks f is) again)))

-- a step depends on the requests of its batch alone
members_told : (meaning : Meaning) (requests after : List (List ℕ)) (b c : Batch) (before : ℕ) (outputs : List (List ℕ))
    → members_of b ≡ members_of c → IsTold meaning requests b before outputs after → IsTold meaning requests c before outputs after
members_told meaning requests after b c position outputs e s = record {
  counted = s.counted;
  said = s.said ∙ ap (λ v. outputs_from meaning (state_after meaning requests) v) e;
  grown = s.grown ∙ ap (λ v. requests ++ v) e;
}

members_steps : (meaning : Meaning) (requests after : List (List ℕ)) (b c : Batch) (said : Reply) → members_of b ≡ members_of c
    → IsBatchStep meaning requests b said after → IsBatchStep meaning requests c said after
members_steps meaning requests after b c (Told true position outputs) e s =
    (s.0, members_told meaning s.0 requests b c position outputs e s.1, s.2)
members_steps meaning requests after b c (Told false position outputs) e s = members_told meaning requests after b c position outputs e s
members_steps meaning requests after b c (Kept way position) e s = (s.0 ∙ ap (λ v. requests ++ v) e, s.1)
members_steps meaning requests after b c said e s = s

-- what a checkpoint says tells no request
closing_stays : (how : Way) (closing : CheckpointEnding) (requests after : List (List ℕ)) → after ≡ requests
    → IsStepWithoutBatch requests (closing_reply how closing) after
closing_stays how (Stops fault true) requests after e = e
closing_stays how (Stops fault false) requests after e = e
closing_stays how closing requests after e = e

checkpointed_steps : (i : Instance) (y : History) (issued : List (List ℕ)) (meddles : List Meddle) (stop : Stop) (is_lost : Bool)
    → (let o : Outcome History = checkpoint_event_outcome (list_level i) stop issued
    (checkpoint_outcome_with i (list_level i) y (course_of stop meddles) is_lost) in
    IsStepWithoutBatch (requests_of y.batches) o.reply (requests_of o.state.batches))
checkpointed_steps i y issued meddles stop is_lost =
    let c : Course = course_of stop meddles in
    let o : CheckpointOutcome History = checkpoint_outcome_with i (list_level i) y c is_lost in
    closing_stays (way_of stop) o.ending _ _
    (ap requests_of (closing_all (λ moves. (state_after_moves (list_level i) o.state moves).batches ≡ o.state.batches) refl
    refl stop o.ending
    ∙ same_batches i o.moves y (checkpoint_none i.variant y.is_open is_lost c.fates)))

pub event_steps : (i : Instance) (y : History) (issued : List (List ℕ)) (event : Event)
    → (let o : Outcome History = event_outcome i (list_level i) y issued event in
    IsRunStep i.meaning (requests_of y.batches) event o.reply (requests_of o.state.batches))
event_steps i y issued (Ask meddles stop offer b) =
    asked_either i (list_level i) y issued (λ o. IsBatchStep i.meaning (requests_of y.batches) b o.reply (requests_of o.state.batches))
    meddles
    stop
    (offered_bytes issued offer) b (λ why. refl) (λ bytes short. members_steps i.meaning _ _ (normal_batch b) b _ (members_of-normal b)
    (called_steps i y issued meddles stop bytes (normal_batch b)))
event_steps i y issued (Checkpoint meddles stop) = checkpointed_steps i y issued meddles stop _
event_steps i y issued event = refl

pub runs : (i : Instance) (events : List Event) (y : History) (issued : List (List ℕ))
    → (let f : RunOutcome History = outcome_of_events i (list_level i) y issued events in
    IsEventRun i.meaning (requests_of y.batches) events f.replies (requests_of f.state.batches))
runs i [] y issued = refl
runs i (event ∷ events) y issued =
    let o : Outcome History = event_outcome i (list_level i) y issued event in
    (requests_of o.state.batches, event_steps i y issued event, runs i events o.state o.issued)

pub expected_runs : ExpectedRuns
expected_runs i events = runs i events first_history (first_snapshots i)
