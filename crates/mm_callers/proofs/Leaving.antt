-- What a call leaves and says, in either variant; and so the same call made again, or another one
-- on its answer. With it: Basic: what a call leaves, and the callers' clauses, from those of their
-- calls.
use Rattle.mm_bytes.specs.Limits.{next_count, CountRose}
use Rattle.mm_module.specs.RunLaws.{size_of-pos}
use Rattle.mm_call.specs.CallFinding.{answer_on}
use Rattle.mm_call.proofs.Above.{path_is, sight_is}
use Rattle.mm_basic.specs.AskPromise.{BasicAskPromise}
use Rattle.mm_callers.specs.Basic.{EndsOnce, EndsNext, StaysAsAsked}
use Rattle.mm_callers.proofs.Below.{◌≡◌, ℕ, ◌≤◌, Bool, true, false, List, [], ◌∷◌, ◌++◌, Option, None, Some, Result, Ok, Err, refl, sym, ap}
use Rattle.mm_callers.proofs.Below.{◌∙◌, subst, ◌⊎◌, inl, inr, arith, if◌then◌else◌, Contains, last_position, Variant, Basic, Opt}
use Rattle.mm_callers.proofs.Below.{StepFault, Standing, Meaning, Batch, parts_of, Content, IsContent, sealed_snapshot_of, Instance}
use Rattle.mm_callers.proofs.Below.{History, Move, EndsWith, total_of, IsFit, is_long, AreMessagesIn, offer_messages, NamesPosition}
use Rattle.mm_callers.proofs.Below.{content_of_issue, StandsFor, IsRight, issued_bytes, Reads, ask_steps, total-push, BatchAnswer, Refusal}
use Rattle.mm_callers.proofs.Below.{Long, right_messages, IsWithin, call_outcome, state_seen, call_ending_by, result_of_ending}
use Rattle.mm_callers.proofs.Below.{reading_steps, CallContinues, IsCallOnCourse, HistoryGrows, kept, grown, Course, StepsWalk, moves_seen}
use Rattle.mm_callers.proofs.Below.{walk, CallFinding, finding_at, foreign_made, right_content, finding_unless_wanting, is_fresh}
use Rattle.mm_callers.proofs.Below.{AskPromise, CallKind, Given, CountsHandedFault, list_level, state_after_moves, one_content, right_of}
use Rattle.mm_callers.proofs.Below.{listed_by, issued_once, AreAsked, fault_of, fault_in, answered_at, IsOnce, AnswersOnce, AreLeftBatches}
use Rattle.mm_callers.proofs.Below.{call_terms, SaysFound, SaysUnlessFault, finding_for, in_second, IsLawful, One, basic_instance, Device}
use Rattle.mm_callers.proofs.Below.{basic_issued, basic_content, basic_asked, basic_comes, names_made, AsksAgain, AreAskedNext, AsksTwice}
use Rattle.mm_callers.proofs.Below.{in_first}

module _ {core : CallKind (Given BatchAnswer)} {meaning : Meaning} {old new : Standing} {offer : List ℕ} {b : Batch}
    {result : Result BatchAnswer Refusal} (call : AskPromise core meaning old new offer b result) where
  -- what holds of one that is too long, and of one that isn't
  pub by_length : (P : Standing → Result BatchAnswer Refusal → Type 0) → (is_long b ≡ true → P old (Err Long))
      → (is_long b ≡ false → IsCallOnCourse core.variant meaning old new offer b result → P new result) → P new result
  by_length P long short = cases (is_long b) refl
    where
      cases : (t : Bool) → is_long b ≡ t → P new result
      cases true e =
          let l = call.calls.long e in subst (λ (s : Standing). P s result) (sym l.0) (subst (P old) (sym l.1) (long e))
      cases false e = short e (call.goes e)

  -- what wasn't refused as too long went on a course
  pub not_long : (result ≡ Err Long → ⊥) → is_long b ≡ false
  not_long never =
      by_length (λ (s : Standing) (r : Result BatchAnswer Refusal). (r ≡ Err Long → ⊥) → is_long b ≡ false)
      (λ e (h : Err Long ≡ Err Long → ⊥). absurd (h refl)) (λ e c h. e) never

pub answered : {core : CallKind (Given BatchAnswer)} {meaning : Meaning} {old new : Standing} {offer : List ℕ} {b : Batch}
    {answer : BatchAnswer} → AskPromise core meaning old new offer b (Ok answer)
    → IsCallOnCourse core.variant meaning old new offer b (Ok answer)
answered {answer = answer} call = call.goes (not_long call (λ (is : Ok answer ≡ Err Long). cc))

-- no offer names two ends
pub not_again : (batches front : List Batch) (b : Batch) → front ++ b ∷ [] ≡ batches → total_of batches ≡ total_of front → ⊥
not_again batches front b e same = absurd (omega (arith, same, ap total_of e, total-push front b, size_of-pos b))

-- the batches after a call
abbrev Grows : List Batch → Batch → List Batch → Type 0
Grows before b after = (after ≡ before) ⊎ (after ≡ before ++ b ∷ [])

-- What one call came to, or the same call made once more: the batch was committed once at most; and an answer tells the end.
pub record Once (i : Instance) (before : List Batch) (b : Batch) (after : History) (result : Result BatchAnswer Refusal) : Type 0 where
  pub grows : Grows before b after.batches
  pub answers : (answer : BatchAnswer) → result ≡ Ok answer
      → IsOnce before b after.batches × (answer ≡ answer_on i after b answer.again)

as_told : (i : Instance) (after : History) (b : Batch) (answer : BatchAnswer) (flag : Bool) → answer ≡ answer_on i after b flag
    → answer ≡ answer_on i after b answer.again
as_told i after b answer flag is = is ∙ ap (λ (a : BatchAnswer). answer_on i after b a.again) (sym is)

-- the offer stands before the batch, which is the last one
pub record Offers (i : Instance) (batches : List Batch) (offer : List ℕ) (b : Batch) : Type 0 where
  pub content : Content
  pub right : IsRight i offer content
  pub ends : EndsWith batches b
  pub position : content.position ≡ total_of ends.front

-- no such offer stands at the end
pub not_at_end : {i : Instance} {batches : List Batch} {offer : List ℕ} {b : Batch} (o : Offers i batches offer b) (content : Content)
    → IsRight i offer content → content.position ≡ total_of batches → ⊥
not_at_end {i = i} {batches = batches} {offer = offer} {b = b} o content right at =
    let same : o.content ≡ content = one_content i offer o.content content o.right right in
    not_again batches o.ends.front b o.ends.is (sym at ∙ ap (λ (c : Content). c.position) (sym same) ∙ o.position)

module _ {i : Instance} {y after : History} {offer : List ℕ} {b : Batch} where
  pub once : {result : Result BatchAnswer Refusal} → HistoryGrows i y offer b after result → Once i y.batches b after result
  once (kept same gives) = record {
    grows = inl same;
    answers = λ answer is.
        let g = gives answer is in (inr (same, g.ends), as_told i after b answer true g.answer_is);
  }
  once (grown content right at more gives) = record {
    grows = inr more;
    answers = λ answer is. (inl more, as_told i after b answer false (gives answer is));
  }

-- the same call, made once more at the batches to which the first one came
pub once_twice : {i : Instance} {y middle other after : History} {offer : List ℕ} {b : Batch} {first second : Result BatchAnswer Refusal}
    → HistoryGrows i y offer b middle first → other.batches ≡ middle.batches → HistoryGrows i other offer b after second
    → Once i y.batches b after second
once_twice {i = i} {after = after} {b = b} {second = second} (kept same none) e c =
    subst (λ (bs : List Batch). Once i bs b after second) (e ∙ same) (once c)
once_twice {i = i} {after = after} {b = b} (grown content right at more none) e (kept same gives) = record {
  grows = inr (same ∙ e ∙ more);
  answers = λ answer is. (inl (same ∙ e ∙ more), as_told i after b answer true (gives answer is).answer_is);
}
once_twice {y = y} (grown content right at more none) e (grown other right' at' more' gives) =
    absurd (not_at_end
    (record { content = content; right = right; ends = record { front = y.batches; is = sym (e ∙ more) }; position = at }) other right' at')

-- an answer is that of the run which stands then
pub answers_once : {i : Instance} {y after : History} {new : Standing} {b : Batch} {answer : BatchAnswer} → StandsFor i new after
    → Once i y.batches b after (Ok answer) → AnswersOnce i y new b answer
answers_once {after = after} {answer = answer} s o =
    let a = o.answers answer refl in
    record {
      batches = after.batches;
      once = a.0;
      run = record { after = after; stands = s; batches_are = refl; answer_is = a.1 };
    }

-- What a refused call says: what it found; and unless it handed on a fault, nothing was committed, and the snapshot that the history
-- issues is as before.

pub record IsCalm (i : Instance) (y after : History) : Type 0 where
  pub batches : after.batches ≡ y.batches
  pub issues : content_of_issue i after ≡ content_of_issue i y

pub record Said (i : Instance) (y after : History) (offer : List ℕ) (b : Batch) (why : Refusal) : Type 0 where
  pub calm : fault_of why ≡ None → IsCalm i y after
  pub says : SaysUnlessFault (fault_of why) (finding_for i after offer b) why

abbrev pub Says : Instance → History → History → List ℕ → Batch → Result BatchAnswer Refusal → Type 0
Says i y after offer b (Ok answer) = Unit {0}
Says i y after offer b (Err why) = Said i y after offer b why

says_found : (f : Option StepFault) (x : Result CallFinding Refusal) (lacks : Bool) (why : Refusal) → finding_unless_wanting x lacks
    ≡ Err why
    → SaysUnlessFault f x why
says_found (Some fault) x lacks why e = tt
says_found None (Err is) lacks why e = cc
says_found None (Ok it) false why e = absurd (cc)
says_found None (Ok it) true why e = cc

-- by how it ended
pub told : (i : Instance) (y seen after : History) (offer : List ℕ) (b : Batch) (lacks : Bool) (s : History)
    (found : Result CallFinding Refusal)
    (moves : List Move) (broken : Option StepFault) → is_long b ≡ false → IsCalm i y seen
    → finding_unless_wanting (finding_at i (list_level i) seen b offer) lacks ≡ found
    → (broken ≡ None → is_fresh found ≡ false → seen ≡ after)
    → Says i y after offer b (result_of_ending (call_ending_by (list_level i) seen s b found moves broken))
told i y seen after offer b lacks s found moves (Some fault) short calm is there =
    record { calm = λ (none : Some fault ≡ None). absurd (cc); says = tt }
told i y seen after offer b lacks s (Ok it) moves None short calm is there = tt
told i y seen after offer b lacks s (Err why) moves None short calm is there =
    let same : seen ≡ after = there refl refl in
    record {
      calm = λ _. subst (IsCalm i y) same calm;
      says = subst (λ (x : Result CallFinding Refusal). SaysUnlessFault (fault_of why) x why)
          (ap (λ (z : History). finding_at i (list_level i) z b offer) same
          ∙ ap (λ (t : Bool). if t then Err Long else finding_at i (list_level i) after b offer) (sym short))
          (says_found (fault_of why) (finding_at i (list_level i) seen b offer) lacks why is);
    }

-- a call that found no new batch, and wasn't broken off, stands where it saw
pub sees_end : (variant : Variant) (i : Instance) (y : History) (c : Course) (flag fresh : Bool) (b : Batch) → fresh ≡ false
    → (walk c.fates 1 (ask_steps variant flag fresh b)).broken ≡ None
    → state_after_moves (list_level i) y (moves_seen c.fates (reading_steps variant) 1)
    ≡ state_after_moves (list_level i) y (walk c.fates 1 (ask_steps variant flag fresh b)).moves
sees_end variant i y c flag true b e whole = absurd (cc)
sees_end Basic i y c flag false b e whole =
    foreign_made i (c.fates 1).brings [] y ∙ sym (path_is i c.fates (Reads ∷ []) 1 y whole)
sees_end Opt i y c flag false b e whole = sight_is i y c ∙ sym (path_is i c.fates (Reads ∷ Reads ∷ []) 1 y whole)

module _ (all others : List (List ℕ)) (asked : List Batch) (i : Instance) where
  -- what one call leaves: the history after it, and what is asked of that
  pub record After (y : History) (new : Standing) (offer : List ℕ) (b : Batch) (result : Result BatchAnswer Refusal) : Type 0 where
    pub after : History
    pub stands : StandsFor i new after
    pub within : IsWithin all others asked i after
    pub comes : HistoryGrows i y offer b after result
    pub names : (content : Content) → NamesPosition i y content → NamesPosition i after content

  -- and what it says
  pub record Left (y : History) (new : Standing) (offer : List ℕ) (b : Batch) (result : Result BatchAnswer Refusal) : Type 0 where
    pub leaves : After y new offer b result
    pub says : Says i y leaves.after offer b result

  -- what is asked of a call, where other calls led to another history
  pub asked_on : {y after : History} {offer : List ℕ} {b : Batch} → IsWithin all others asked i after
      → ((content : Content) → NamesPosition i y content → NamesPosition i after content) → AreAsked all others asked i y offer b
      → AreAsked all others asked i after offer b
  asked_on within names a = record {
    clear = a.clear;
    apart = a.apart;
    within = within;
    is_asked = a.is_asked;
    genuine = λ content right. names content (a.genuine content right);
    offered = a.offered;
  }

  pub left_long : {y : History} {old : Standing} {offer : List ℕ} {b : Batch} → is_long b ≡ true → StandsFor i old y
      → AreAsked all others asked i y offer b → Left y old offer b (Err Long)
  left_long {y = y} {offer = offer} {b = b} e s a = record {
    leaves = record {
      after = y;
      stands = s;
      within = a.within;
      comes = kept refl (λ answer (gives : Err Long ≡ Ok answer). absurd (cc));
      names = λ content n. n;
    };
    says = record {
      calm = λ _. record { batches = refl; issues = refl };
      says = subst (λ (t : Bool). SaysFound (if t then Err Long else finding_at i (list_level i) y b offer) Long) (sym e) refl;
    };
  }

  -- one that goes on a course, from what it sees, where nothing was committed
  abbrev pub left_short : (y : History) (c : Course) (new : Standing) (offer : List ℕ) (b : Batch) (result : Result BatchAnswer Refusal)
      → is_long b ≡ false → CallContinues all others asked i (call_outcome i (list_level i) y c offer b) new result
      → HistoryGrows i y offer b (call_outcome i (list_level i) y c offer b).state
      (result_of_ending (call_outcome i (list_level i) y c offer b).ending)
      → ((content : Content) → NamesPosition i y content → NamesPosition i (call_outcome i (list_level i) y c offer b).state content)
      → IsCalm i y (state_seen i (list_level i) y c) → Left y new offer b result
  left_short y c new offer b result short k comes names calm =
      let end : History = (call_outcome i (list_level i) y c offer b).state in
      let seen : History = state_seen i (list_level i) y c in
      let found : Result CallFinding Refusal = finding_unless_wanting (finding_at i (list_level i) seen b offer) c.lacks in
      let w : StepsWalk = walk c.fates 1 (ask_steps i.variant y.is_open (is_fresh found) b) in
      record {
        leaves = record {
          after = end;
          stands = k.stands;
          within = k.within;
          comes = subst (HistoryGrows i y offer b end) (sym k.gives) comes;
          names = names;
        };
        says = subst (Says i y end offer b) (sym k.gives) (told i y seen end offer b c.lacks end found w.moves w.broken short calm refl
            (λ whole fresh. sees_end i.variant i y c y.is_open (is_fresh found) b fresh whole));
      }

-- The callers' clauses.

left_rose : (b : Batch) (old new : Standing) {before after : List Batch} → next_count old.faults ≤ new.faults → Grows before b after
    → AreLeftBatches before b after old new
left_rose b old new rose g = elim g [ inl same ↦ inl same | inr more ↦ inr (more, rose) ]

left_by : (f : Option StepFault) (b : Batch) (old new : Standing) {before after : List Batch} → CountsHandedFault f old.faults new.faults
    → (f ≡ None → after ≡ before) → Grows before b after → AreLeftBatches before b after old new
left_by None b old new blames calm g = inl (calm refl)
left_by (Some fault) b old new rose calm g = left_rose b old new (omega (arith, rose)) g

-- a count that rose stays risen
rose_on : (f : Option StepFault) (before middle now : ℕ) → CountRose before middle → CountsHandedFault f middle now → next_count before
    ≤ now
rose_on None before middle now rose same = omega (arith, rose, same)
rose_on (Some fault) before middle now rose later = omega (arith, rose, later)

says_next : (f : Option StepFault) (i : Instance) (y after : History) (next : List ℕ) (b : Batch) (why : Refusal) → next ≡ issued_bytes i y
    → (f ≡ None → content_of_issue i after ≡ content_of_issue i y) → SaysUnlessFault f (finding_for i after next b) why
    → SaysUnlessFault f (finding_for i after (issued_bytes i after) b) why
says_next (Some fault) i y after next b why e issues s = tt
says_next None i y after next b why e issues s =
    subst (λ (offer : List ℕ). SaysFound (finding_for i after offer b) why) (e ∙ ap (sealed_snapshot_of i.key) (sym (issues refl))) s

module _ {all others : List (List ℕ)} {asked : List Batch} {i : Instance} {y : History} {offer : List ℕ} {b : Batch} (old : Standing)
    (a : AreAsked all others asked i y offer b) where
  -- the call may be made at what another one leaves
  abbrev pub stays : {z : History} {new : Standing} {other : List ℕ} {c : Batch} {result : Result BatchAnswer Refusal}
      → ((content : Content) → NamesPosition i y content → NamesPosition i z content) → After all others asked i z new other c result
      → StaysAsAsked (call_terms all others asked i y) new offer b
  stays names l = record {
    after = l.after;
    stands = l.stands;
    asked_then = asked_on all others asked i l.within (λ content n. l.names content (names content n)) a;
  }

  -- one call
  pub ends_once : {new : Standing} (result : Result BatchAnswer Refusal) → CountsHandedFault (fault_in result) old.faults new.faults
      → Left all others asked i y new offer b result → EndsOnce (call_terms all others asked i y) old new offer b result
  ends_once (Ok answer) blames x = answers_once x.leaves.stands (once x.leaves.comes)
  ends_once {new = new} (Err why) blames x = record {
    stays = stays (λ content n. n) x.leaves;
    left = left_by (fault_of why) b old new blames (λ e. (x.says.calm e).batches) (once x.leaves.comes).grows;
    says = x.says.says;
  }

  -- a call that is made once more
  pub ends_again : {middle new : Standing} {first : Result BatchAnswer Refusal} (result : Result BatchAnswer Refusal)
      → CountRose old.faults middle.faults → CountsHandedFault (fault_in result) middle.faults new.faults
      → (x : After all others asked i y middle offer b first) → Left all others asked i x.after new offer b result
      → EndsOnce (call_terms all others asked i y) old new offer b result
  ends_again (Ok answer) rose blames x z = answers_once z.leaves.stands (once_twice x.comes refl z.leaves.comes)
  ends_again {middle = middle} {new = new} (Err why) rose blames x z = record {
    stays = stays x.names z.leaves;
    left = left_rose b old new (rose_on (fault_of why) old.faults middle.faults new.faults rose blames)
        (once_twice x.comes refl z.leaves.comes).grows;
    says = z.says.says;
  }

  -- The second of two calls, on the snapshot of the first answer, which says where the first came to: an answer is a new batch's.
  pub ends_next : {middle new : Standing} {one : BatchAnswer} {next : List ℕ} {second : Batch} (result : Result BatchAnswer Refusal)
      → middle.faults ≡ old.faults → CountsHandedFault (fault_in result) middle.faults new.faults → next ≡ one.snapshot
      → (x : After all others asked i y middle offer b (Ok one))
      → ((content : Content) → IsRight i next content → content_of_issue i x.after ≡ content)
      → Left all others asked i x.after new next second result
      → EndsNext (call_terms all others asked i y) old new offer b second result
  ends_next {one = one} {second = second} (Ok answer) same blames e x says z = elim z.leaves.comes [
    | kept also gives ↦
        let g = gives answer refl in
        absurd (not_again x.after.batches g.ends.front second g.ends.is
        (ap (λ (c : Content). c.position) (says g.content g.right) ∙ g.position))
    | grown content right at more gives ↦ record {
      batches = x.after.batches;
      once = ((once x.comes).answers one refl).0;
      run = record { after = z.leaves.after; stands = z.leaves.stands; batches_are = more; answer_is = gives answer refl };
    }
  ]
  ends_next {new = new} {one = one} {next = next} {second = second} (Err why) same blames e x says z =
      let l = z.leaves in
      in_second x.after.batches ((once x.comes).answers one refl).0 (stays x.names l)
      (left_by (fault_of why) second old new (subst (λ (n : ℕ). CountsHandedFault (fault_of why) n new.faults) same blames)
      (λ f. (z.says.calm f).batches) (once l.comes).grows)
      (says_next (fault_of why) i x.after l.after next second why (e ∙ (answered_at i y x.after offer b one x.comes).1)
      (λ f. (z.says.calm f).issues) z.says.says)

  -- The first snapshot says where its call came to, and what is asked of the second call holds there.
  pub asked_next : {after : History} {next : List ℕ} {second : Batch} {one : BatchAnswer} → IsWithin all others asked i after
      → HistoryGrows i y offer b after (Ok one) → IsFit b one → next ≡ one.snapshot
      → (total_of after.batches ≤ last_position → IsContent (content_of_issue i after)) → NamesPosition i after (content_of_issue i after)
      → Contains asked second
      → AreMessagesIn (offer_messages i (content_of_issue i after).place second) all
      → ((content : Content) → IsRight i next content → content_of_issue i after ≡ content) × AreAsked all others asked i after next second
  asked_next {after = after} {next = next} {second = second} {one = one} within comes fit e formed names is_asked listed =
      let at = answered_at i y after offer b one comes in
      let is : IsContent (content_of_issue i after) = formed (subst (λ (p : ℕ). p ≤ last_position) at.0 fit.most) in
      let says : (content : Content) → IsRight i next content → content_of_issue i after ≡ content =
      λ content right. issued_once i next after content is (e ∙ at.1) right in (
        says,
        record {
          clear = a.clear;
          apart = a.apart;
          within = within;
          is_asked = is_asked;
          genuine = λ content right. subst (λ (x : Content). NamesPosition i after x) (says content right) names;
          offered = listed_by i after second all (right_content i next) (λ content is_said.
              subst (λ (x : Content). AreMessagesIn (right_messages i second (Some x)) all)
              (says content (right_of i next (parts_of i.variant i.meaning.id next) refl content is_said)) listed);
        },
      )

-- Basic: what a call leaves, and the callers' clauses, from those of their calls.

module _ {meaning : Meaning} {old new : Standing} {offer request : List ℕ} {result : Result BatchAnswer Refusal}
    (call : BasicAskPromise meaning old new offer (One request) result) where
  left : (key : List ℕ) (y : History) (all others : List (List ℕ)) (asked : List Batch) → StandsFor (basic_instance meaning key) old y
      → AreAsked all others asked (basic_instance meaning key) y offer (One request)
      → Left all others asked (basic_instance meaning key) y new offer (One request) result
  left key y all others asked s a =
      let i = basic_instance meaning key in
      let b : Batch = One request in
      by_length call (λ (n : Standing) (r : Result BatchAnswer Refusal). Left all others asked i y n offer b r)
      (λ long. left_long all others asked i long s a)
      (λ short c.
      let k = c.continues key key y all others asked s (basic_asked meaning key all others asked y c.course offer b a) in
      left_short all others asked i y c.course new offer b result short k (basic_comes meaning key all others asked y c.course offer b a)
      (names_made meaning key (call_outcome i (list_level i) y c.course offer b).moves y)
      (subst (IsCalm i y) (sym (foreign_made i (c.course.fates 1).brings [] y)) (record { batches = refl; issues = refl })))

  -- one call
  pub asked_once : AsksAgain meaning old new offer request result
  asked_once key y all others asked s a = ends_once old a result call.faults (left key y all others asked s a)

-- a call that is made once more
pub asked_after_fault : {meaning : Meaning} {old middle new : Standing} {offer request : List ℕ} {first : Refusal} {fault : StepFault}
    {result : Result BatchAnswer Refusal} → first ≡ Device fault → BasicAskPromise meaning old middle offer (One request) (Err first)
    → BasicAskPromise meaning middle new offer (One request) result → AsksAgain meaning old new offer request result
asked_after_fault {meaning = meaning} {old = old} {middle = middle} {result = result} is before call key y all others asked s a =
    let x = (left before key y all others asked s a).leaves in
    ends_again old a result (subst (λ (w : Refusal). CountsHandedFault (fault_of w) old.faults middle.faults) is before.faults)
    call.faults x
    (left call key x.after all others asked x.stands (asked_on all others asked (basic_instance meaning key) x.within x.names a))

-- two calls, the second on the snapshot of the first answer
pub refused_first : {meaning : Meaning} {old new : Standing} {offer first : List ℕ} {why : Refusal} (second : List ℕ)
    → BasicAskPromise meaning old new offer (One first) (Err why) → AsksTwice meaning old new offer first second (Err why)
refused_first second call key y all others asked s a n = in_first (asked_once call key y all others asked s a)

next_listed : (meaning : Meaning) (key : List ℕ) (all : List (List ℕ)) (asked : List Batch) (y after : History) (first second : Batch)
    → AreAskedNext all asked (basic_instance meaning key) y first second → IsOnce y.batches first after.batches
    → AreMessagesIn (offer_messages (basic_instance meaning key) (content_of_issue (basic_instance meaning key) after).place second) all
next_listed meaning key all asked y after first second n (inl more) = rw more n.after_new
next_listed meaning key all asked y after first second n (inr same) = rw same.0 n.after_repeat

pub asked_twice : {meaning : Meaning} {old middle new : Standing} {offer next first second : List ℕ} {one : BatchAnswer}
    {result : Result BatchAnswer Refusal} → IsLawful meaning → BasicAskPromise meaning old middle offer (One first) (Ok one)
    → next ≡ one.snapshot → BasicAskPromise meaning middle new next (One second) result
    → AsksTwice meaning old new offer first second result
asked_twice {meaning = meaning} {old = old} {first = first} {second = second} {one = one} {result = result} lawful before e call key y
    all others asked s a n =
    let x = (left before key y all others asked s a).leaves in
    let so = asked_next old a x.within x.comes before.fits e (basic_content meaning lawful key x.after) (basic_issued meaning key x.after)
    n.is_asked (next_listed meaning key all asked y x.after (One first) (One second) n ((once x.comes).answers one refl).0) in
    ends_next old a result before.faults call.faults e x so.0 (left call key x.after all others asked x.stands so.1)
