-- What a whole call counts, and the sizes of its answer. With it: a right offer that the verdict
-- accepts is answered; a call of Basic is the walk of its steps on a course, by digests and by
-- lists.
use Rattle.std.specs.List.{fold}
use Rattle.std.proofs.lemmas.Bool.{le-leb}
use Rattle.std.proofs.lemmas.List.{append-nil}
use Rattle.mm_bytes.specs.Limits.{next_count}
use Rattle.mm_seal.specs.FieldLaws.{sealed_parts}
use Rattle.mm_seal.specs.Parts.{parts_of}
use Rattle.mm_platform.specs.Standing.{next_plan}
use Rattle.mm_module.specs.RunLaws.{members_of-normal}
use Rattle.mm_machine.specs.declared.call.OpStage.{OpStage}
use Rattle.mm_machine.specs.declared.call.OpStage.TheVariants.{Begun}
use Rattle.mm_model.specs.BatchLaws.{basic_is_judged}
use Rattle.mm_model.specs.Messages.{IsClearFor}
use Rattle.mm_model.specs.Moves.{digests_of}
use Rattle.mm_model.specs.Standing.{NamesPosition}
use Rattle.mm_model.specs.declared.refusal.Refusal.TheVariants.{Device, Long}
use Rattle.mm_call.specs.CallFinding.{finding_unless_wanting, finding_with, is_fresh}
use Rattle.mm_call.specs.CallFinding as call
use Rattle.mm_call.specs.CallKind.{AreStepsToEnd, IsCallOnCourse, CallFinishes, CallReads}
use Rattle.mm_call.specs.CallOutcome.{call_ending_by, result_of_ending, state_seen, StepsWalk, walk, StepFate, Course}
use Rattle.mm_call.specs.CallPremises.{StepsAnswered, StepsAre, StepsBy, StepsRefused, CellIsWrittenAtMostOnce}
use Rattle.mm_call.specs.Checkpoints.{IsComplete}
use Rattle.mm_call.proofs.Above.{answered_result, stands_at, calls_blamed, calls_untouched}
use Rattle.mm_call.proofs.Above as completing
use Rattle.mm_basic.proofs.Below.{◌≡◌, ℕ, Bool, true, false, List, [], length, None, Result, Ok, Err, IfOk, refl, sym, ap, ◌∙◌, subst, inl}
use Rattle.mm_basic.proofs.Below.{inr, Standing, ReadCell, StepGoes, Meaning, IsLawful, Batch, One, IsFit, is_long, BatchAnswer, Refusal}
use Rattle.mm_basic.proofs.Below.{remaining_acts, is_extension_left, Deed, Writing, OpFinding, Repeat, Change, AskResult, goes_on}
use Rattle.mm_basic.proofs.Below.{breaks_off, EndsByFinding, IsCallToEnd, IsWholeCall, result_of, fault_in, steps_give, each_call}
use Rattle.mm_basic.proofs.Below.{ends_result, given_all, basic_call, Basic, ◌+◌, ◌≤◌, map, Option, Some, IsOk, extended_digest_of, nat_le}
use Rattle.mm_basic.proofs.Below.{bytes_eq, bytes_eq-Decides, last_position, StepFault, size_of, normal_batch, Content, Snapshot}
use Rattle.mm_basic.proofs.Below.{PartsFault, tag_of, Instance, basic_instance, History, Move, Foreign, verdict_on, Digests, IsRight}
use Rattle.mm_basic.proofs.Below.{ask_steps, CountsHandedFault, IsAccepted, IsAnswered, offered_snapshot, weighs, state_after_moves}
use Rattle.mm_basic.proofs.Below.{digest_level, brought_digests, BasicAskPromise, basic_operation, ◌∷◌, arith, DeviceStep, Reading}
use Rattle.mm_basic.proofs.Below.{IsCallSoFar, EndsAsCall, StandsAt, basic_calls_agree, fate_of, ends_fates, reading_tale, Told, GoesTo}
use Rattle.mm_basic.proofs.Below.{course_by, lacks_in, told_reading, so_far, Extending, Emptying, Placing, acts_for, calls_from}
use Rattle.mm_basic.proofs.Calling.{IsShaped, finding_shaped, writing, seen_here, Finding}
use Rattle.mm_basic.proofs.Telling.{reads_told, quiet}

module _ (meaning : Meaning) (old middle new : Standing) (ended : AskResult) where
  -- what is counted of a call that commits its batch
  writes_stepped : (change : Deed) (answer : BatchAnswer) → answer.again ≡ false → is_extension_left change ≡ false
      → StepGoes ReadCell old middle None → AreStepsToEnd (remaining_acts change) answer middle new ended
      → StepsBy Basic (result_of ended) old new
  writes_stepped (Writing bytes) answer new_one none g (goes_on next h e) =
      answered_result (λ (s : Standing) (r : Result BatchAnswer Refusal). StepsBy Basic r old s) answer next new ended e
      (subst (λ (t : Bool). StepsAnswered Basic t old next) (sym new_one) (
        h.steps ∙ ap next_count g.steps,
        h.writes
            ∙ ap next_count g.writes,
      ))
  writes_stepped (Writing bytes) answer new_one none g (breaks_off fault h e) =
      subst (λ (v : AskResult). StepsBy Basic (result_of v) old new) (sym e)
      (inr (h.steps ∙ ap next_count g.steps, h.writes ∙ ap next_count g.writes))
  writes_stepped _ answer new_one none g e = absurd (cc)

  once_refused : (b : Batch) (why : Refusal) → IsShaped meaning b (Err why) → StepsAre 1 0 old middle
      → StepsRefused Basic why old middle
  once_refused b Long shape r = shape
  once_refused b (Device fault) shape r = inl r
  once_refused b _ shape r = r

  -- what is counted of a call, by what it found
  ends_stepped : (b : Batch) (found : Result (OpFinding BatchAnswer) Refusal) → IsShaped meaning b found
      → StepGoes ReadCell old middle (fault_in found)
      → EndsByFinding basic_call found middle new ended → StepsBy Basic (result_of ended) old new
  ends_stepped b (Err why) shape g e =
      ends_result basic_call (λ (s : Standing) (r : Result BatchAnswer Refusal). StepsBy Basic r old s) why middle new ended e
      (once_refused b why shape (g.steps, g.writes))
  ends_stepped b (Ok (Repeat answer)) shape g e =
      answered_result (λ (s : Standing) (r : Result BatchAnswer Refusal). StepsBy Basic r old s) answer middle new ended e
      (subst (λ (t : Bool). StepsAnswered Basic t old middle) (sym shape.0) (g.steps, g.writes))
  ends_stepped b (Ok (Change ready)) shape g e = writes_stepped ready.change ready.answer shape.0 shape.2 g e

-- a call that was asked
module _ (meaning : Meaning) (old new : Standing) (offer : List ℕ) (b : Batch) where
  ask_shaped : (ended : AskResult) → (a : IsCallToEnd basic_call meaning old new offer b ended) → IsShaped meaning b a.found
  ask_shaped ended a =
      finding_shaped meaning old a.middle offer b a.found (reads_told meaning offer b old a.middle a.found a.reads)

  ask_stepped : (ended : AskResult) → IsCallToEnd basic_call meaning old new offer b ended → StepsBy Basic (result_of ended) old new
  ask_stepped ended a =
      ends_stepped meaning old a.middle new ended b a.found (ask_shaped ended a)
      (reads_told meaning offer b old a.middle a.found a.reads).goes a.ends

  pub steps : (result : Result BatchAnswer Refusal) → IsWholeCall basic_call meaning old new offer b result → is_long b ≡ false
      → StepsBy Basic result old new
  steps result c short = let k = c.asks short in rw k.gives (ask_stepped k.ended k.asks)

  -- the cell is to be written once, or never

  once_answered : (again : Bool) → StepsAnswered Basic again old new → CellIsWrittenAtMostOnce old new
  once_answered true s = inl s.1
  once_answered false s = inr s.1

  once_broken : (why : Refusal) → StepsRefused Basic why old new → CellIsWrittenAtMostOnce old new
  once_broken Long s = absurd s
  once_broken (Device fault) (inl s) = inl s.1
  once_broken (Device fault) (inr s) = inr s.1
  once_broken _ s = inl s.1

  once : (result : Result BatchAnswer Refusal) → StepsBy Basic result old new → CellIsWrittenAtMostOnce old new
  once (Ok answer) s = once_answered answer.again s
  once (Err why) s = once_broken why s

  pub writes : (result : Result BatchAnswer Refusal) → IsWholeCall basic_call meaning old new offer b result
      → CellIsWrittenAtMostOnce old new
  writes result c =
      each_call basic_call meaning old new offer b (λ (s : Standing) (r : Result BatchAnswer Refusal). CellIsWrittenAtMostOnce old s) result
      (inl refl) (λ (ended : AskResult) (a : IsCallToEnd basic_call meaning old new offer b ended). once (result_of ended)
      (ask_stepped ended a)) c

-- an answer is fit
abbrev pub IsFitIn : Batch → Result BatchAnswer Refusal → Type 0
IsFitIn b result = IfOk result (λ answer. IsFit b answer)

ends_fit : (meaning : Meaning) → IsLawful meaning → (b : Batch) (found : Result (OpFinding BatchAnswer) Refusal) (old new : Standing)
    (ended : AskResult)
    → IsShaped meaning b found → EndsByFinding basic_call found old new ended → IsFitIn b (result_of ended)
ends_fit meaning lawful b (Err why) old new ended shape e =
    ends_result basic_call (λ (s : Standing) (r : Result BatchAnswer Refusal). IsFitIn b r) why old new ended e tt
ends_fit meaning lawful b (Ok (Repeat answer)) old new ended shape e =
    given_all (IsFit b) ended answer (steps_give [] answer old new ended e) (shape.1 lawful)
ends_fit meaning lawful b (Ok (Change ready)) old new ended shape e =
    given_all (IsFit b) ended ready.answer (steps_give (remaining_acts ready.change) ready.answer old new ended e) (shape.1 lawful)

pub fits : (meaning : Meaning) → IsLawful meaning → (old new : Standing) (offer : List ℕ) (b : Batch) (result : Result BatchAnswer Refusal)
    → IsWholeCall basic_call meaning old new offer b result → IsFitIn b result
fits meaning lawful old new offer b result c =
    each_call basic_call meaning old new offer b (λ (s : Standing) (r : Result BatchAnswer Refusal). IsFitIn b r) result tt
    (λ (ended : AskResult) (a : IsCallToEnd basic_call meaning old new offer b ended).
    ends_fit meaning lawful b a.found a.middle new ended (ask_shaped meaning old new offer b ended a) a.ends)
    c

-- a fit answer to one request
pub one_output : (request : List ℕ) (result : Result BatchAnswer Refusal) → IsFitIn (One request) result
    → IfOk result (λ answer. length answer.outputs ≡ 1)
one_output request (Ok answer) fit = fit.counted
one_output request (Err why) fit = tt

-- A right offer that the verdict accepts is answered; and all that a whole call promises.

-- something is found at the history's digests, whatever the register holds
found_right : (meaning : Meaning) (key : List ℕ) (y : History) (all : List (List ℕ)) (offer : List ℕ) (content : Content) (b : Batch)
    (register : List ℕ) → IsRight (basic_instance meaning key) offer content → NamesPosition (basic_instance meaning key) y content
    → IsClearFor all (basic_instance meaning key) y content.place b → IsAccepted (verdict_on Basic y content.position b)
    → content.position + size_of b ≤ last_position
    → (let i : Instance = basic_instance meaning key in
    IsOk (call.finding_at i (digest_level i) (record (digests_of i y) { register = register }) b offer))
found_right meaning key y all offer content b register right names clear accepts fits =
    let i : Instance = basic_instance meaning key in
    let seen : Digests = record (digests_of i y) { register = register } in
    let parts : parts_of Basic meaning.id offer ≡ Ok (offered_snapshot key content) = ap (parts_of Basic meaning.id) right.sealed
    ∙ sealed_parts key content Basic meaning.id right.formed right.variant right.id in
    let tag : List ℕ = tag_of key content in
    let e = weighs (meaning.is_spelled content.state) (bytes_eq tag tag) (nat_le (content.position + size_of b) last_position)
    ((digest_level i).verdict seen content b) right.state ((bytes_eq-Decides tag tag).1 refl)
    (le-leb (content.position + size_of b) last_position fits)
    (subst IsAccepted (sym (basic_is_judged meaning key register y content b all clear names)) accepts) in
    subst (λ (p : Result Snapshot PartsFault). IsOk (call.finding_by_verdict i (digest_level i) seen b p)) (sym parts)
    (subst (λ (r : Result Bool Refusal). IsOk (finding_with content r)) (sym e.is) refl)

-- a call that found something, or lacked memory, or was broken off
answered_by : (broken : Option StepFault) (lacks : Bool) (x : Result call.CallFinding Refusal) (i : Instance) (seen s : Digests) (b : Batch)
    (moves : List Move) (old new : Standing) → IsOk x
    → (let result = result_of_ending (call_ending_by (digest_level i) seen s b (finding_unless_wanting x lacks) moves broken) in
    CountsHandedFault (fault_in result) old.faults new.faults → IsAnswered result old new)
answered_by (Some fault) lacks x i seen s b moves old new is blames = inr (inr (refl, blames))
answered_by None lacks (Err why) i seen s b moves old new is blames = absurd (cc)
answered_by None false (Ok it) i seen s b moves old new is blames = inl refl
answered_by None true (Ok it) i seen s b moves old new is blames = inr (inl refl)

pub complete : (meaning : Meaning) (old new : Standing) (offer : List ℕ) (batch : Batch) (result : Result BatchAnswer Refusal)
    → (is_long batch ≡ false → IsCallOnCourse Basic meaning old new offer batch result) → CountsHandedFault (fault_in result)
    old.faults new.faults
    → IsComplete Basic meaning old new offer batch result
complete meaning old new offer batch result goes blames short key y all content s right names clear accepts fits =
    let i : Instance = basic_instance meaning key in
    let b : Batch = normal_batch batch in
    let c = goes short in
    let d : Digests = digests_of i y in
    let seen : Digests = state_seen i (digest_level i) d c.course in
    let x : Result call.CallFinding Refusal = call.finding_at i (digest_level i) seen b offer in
    let w : StepsWalk = walk c.course.fates 1 (ask_steps Basic d.flag (is_fresh (finding_unless_wanting x c.course.lacks)) b) in
    let gives = (c.goes key key d (stands_at i old y s)).gives in
    let v : List (List ℕ) = (c.course.fates 1).brings in
    let sees = ap (state_after_moves (digest_level i) d) (append-nil (map Foreign v)) ∙ brought_digests i d v in
    let few : content.position + size_of b ≤ last_position =
    subst (λ (members : List (List ℕ)). content.position + length members ≤ last_position) (sym (members_of-normal batch)) fits in
    subst (λ (r : Result BatchAnswer Refusal). IsAnswered r old new) (sym gives)
    (answered_by w.broken c.course.lacks x i seen (state_after_moves (digest_level i) d w.moves) b w.moves old new
    (subst (λ (z : Digests). IsOk (call.finding_at i (digest_level i) z b offer)) (sym sees)
    (found_right meaning key y all offer content b (fold extended_digest_of d.register v) right names clear accepts few))
    (subst (λ (r : Result BatchAnswer Refusal). CountsHandedFault (fault_in r) old.faults new.faults) gives blames))

-- what a whole call promises, from what it does and from how it goes
pub asked : (meaning : Meaning) → IsLawful meaning → (old new : Standing) (offer : List ℕ) (b : Batch)
    (result : Result BatchAnswer Refusal) → IsWholeCall basic_call meaning old new offer b result
    → (is_long b ≡ false → IsCallOnCourse Basic meaning old new offer b result)
    → BasicAskPromise meaning old new offer b result
asked meaning lawful old new offer b result calls goes =
    let still = quiet meaning offer b in
    let blames = calls_blamed Basic basic_operation meaning old new offer b still result calls in
    record {
      calls = calls;
      untouched = calls_untouched Basic basic_operation meaning old new offer b still result calls;
      faults = blames;
      steps = steps meaning old new offer b result calls;
      writes = writes meaning old new offer b result calls;
      fits = fits meaning lawful old new offer b result calls;
      goes = goes;
      complete = complete meaning old new offer b result goes blames;
    }

-- A call of Basic is the walk of its steps on a course, by digests and by lists.

asks_writing : (flag fresh : Bool) (b : Batch) → ask_steps Basic flag fresh b ≡ Reading ∷ writing fresh b
asks_writing flag true b = refl
asks_writing flag false b = refl

few_left : (change : Deed) → length (remaining_acts change) ≤ 49
few_left (Extending value) = omega arith
few_left (Emptying opening) = omega arith
few_left (Placing opening) = omega arith
few_left (Writing next) = omega arith

few_acts : (it : OpFinding BatchAnswer) → length (acts_for it) ≤ 49
few_acts (Repeat answer) = omega arith
few_acts (Change ready) = few_left ready.change

-- what a call that found this came to from digests that the platform stood at
module _ (meaning : Meaning) (offer : List ℕ) (b : Batch) (old middle new : Standing) (found : Result (OpFinding BatchAnswer) Refusal)
    (ended : AskResult)
    (r : Finding meaning old middle offer b found) (e : EndsByFinding basic_call found middle new ended) where
  abbrev fates : List StepFate
  fates = fate_of ReadCell old middle (fault_in found) r.goes ∷ ends_fates basic_call found middle new ended e

  goes_to : (key : List ℕ) (d : Digests) → StandsAt (basic_instance meaning key) old d
      → GoesTo (basic_instance meaning key) d (course_by fates old (lacks_in found)) offer (normal_batch b) old new ended
  goes_to key d s =
      let i : Instance = basic_instance meaning key in
      let c : Course = course_by fates old (lacks_in found) in
      let seen : Digests = state_after_moves (digest_level i) d (map Foreign r.goes.others) in
      let x : Digests → Result call.CallFinding Refusal = λ y.
      finding_unless_wanting (call.finding_at i (digest_level i) y (normal_batch b) offer) (lacks_in found) in
      subst (λ (y : Digests). Told i d y c.fates 1 (ask_steps Basic d.flag (is_fresh (x y)) (normal_batch b)) (normal_batch b)
      (x y) old new ended)
      (sym (ap (λ (ms : List Move). state_after_moves (digest_level i) d ms) (append-nil (map Foreign r.goes.others))))
      (subst (λ (st : List DeviceStep). Told i d seen c.fates 1 st (normal_batch b) (x seen) old new ended)
      (sym (asks_writing d.flag (is_fresh (x seen)) (normal_batch b)))
      (told_reading i d (next_plan old) 1 (writing (is_fresh (x seen)) (normal_batch b)) (normal_batch b) (x seen) ReadCell tt old
      middle middle new
      refl basic_call found ended r.goes e
      (λ (quiet : fault_in found ≡ None). seen_here meaning key d r.goes.others old offer b found s (r.finds quiet))))

  found_to : EndsAsCall Basic meaning old new offer b ended
  found_to = completing.calls_to Basic meaning old new offer b ended fates (lacks_in found)
      (λ (key barrier : List ℕ). basic_calls_agree meaning key)
      (reading_tale ReadCell old middle middle new 0 (omega arith) refl basic_call found ended r.goes few_acts e)
      (λ (key barrier : List ℕ) (d : Digests) (s : StandsAt (basic_instance meaning key) old d). goes_to key d s)

-- a call from its first step to its end
pub calls_to : (meaning : Meaning) (old new : Standing) (offer : List ℕ) (b : Batch) (ended : AskResult)
    → IsCallToEnd basic_call meaning old new offer b ended → EndsAsCall Basic meaning old new offer b ended
calls_to meaning old new offer b ended a =
    found_to meaning offer b old a.middle new a.found ended (reads_told meaning offer b old a.middle a.found a.reads) a.ends

-- the reading step of a call, with the step that commits what it found, is the whole call
pub prepared : (meaning : Meaning) (old new : Standing) (offer : List ℕ) (b : Batch) (found : Result (OpFinding BatchAnswer) Refusal)
    → CallReads (basic_operation meaning offer b) old new found → IsCallSoFar basic_call meaning old new offer b found
prepared meaning old new offer b found r =
    so_far basic_call meaning old new offer b found
    (λ (after : Standing) (ended : AskResult) (a : IsCallToEnd basic_call meaning old after offer b ended).
    (calls_to meaning old after offer b ended a).calls) r

-- a call that was moved to its end
module _ (meaning : Meaning) (offer : List ℕ) (b : Batch) where
  pub finished_asks : (old new : Standing) (ended : AskResult) → CallFinishes (basic_operation meaning offer b) Begun old new ended
      → IsCallToEnd basic_call meaning old new offer b ended
  finished_asks old new ended f = completing.finished_asks Basic basic_operation meaning offer b (λ answer. refl) old new ended f

  pub finished_to : (call : OpStage BatchAnswer) (old new : Standing) (ended : AskResult)
      → CallFinishes (basic_operation meaning offer b) call old new ended → call ≡ Begun → EndsAsCall Basic meaning old new offer b ended
  finished_to call old new ended f e =
      calls_to meaning old new offer b ended
      (finished_asks old new ended (subst (λ (s : OpStage BatchAnswer). CallFinishes (basic_operation meaning offer b) s old new ended) e
      f))

-- a whole call, by how it ended
pub asked_by : (meaning : Meaning) → IsLawful meaning → (old new : Standing) (offer : List ℕ) (b : Batch) (ended : AskResult)
    (result : Result BatchAnswer Refusal) → is_long b ≡ false → IsCallToEnd basic_call meaning old new offer b ended
    → result ≡ result_of ended → BasicAskPromise meaning old new offer b result
asked_by meaning lawful old new offer b ended result short a e =
    asked meaning lawful old new offer b result (calls_from basic_call meaning old new offer b ended result short a e)
    (λ _. rw e (calls_to meaning old new offer b ended a).calls)
