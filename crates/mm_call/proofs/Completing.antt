-- A call that ended so over a platform is the call on a course, by digests and by lists. With it:
-- what a call comes to by digests, from the trail of its steps.
use Rattle.std.specs.Result.{result_err}
use Rattle.mm_platform.specs.Standing.{next_plan}
use Rattle.mm_model.specs.Moves.{is_long}
use Rattle.mm_call.specs.CallKind.{CommitsFinding}
use Rattle.mm_call.proofs.Below.{◌≡◌, ℕ, List, Result, Option, sym, ap, ◌∙◌, StepFault, Standing, Batch, Instance, Move, Digests, ask_steps}
use Rattle.mm_call.proofs.Below.{BatchAnswer, Refusal, state_after_moves, digest_level, CallFinding, finding_at, finding_unless_wanting}
use Rattle.mm_call.proofs.Below.{is_fresh, Course, StepsWalk, walk, call_ending_by, call_outcome, state_seen, result_of_ending, StandsAt}
use Rattle.mm_call.proofs.Below.{CallGoesBy, IsTrail, leads, refl, subst, Variant, Basic, Opt, History, register_value_of, digests_of}
use Rattle.mm_call.proofs.Below.{RegisterStands, StandsFor, register_reading, list_level, CallOutcome, RegisterStandsAt, IsAsked}
use Rattle.mm_call.proofs.Below.{CallContinues, CallsAgree, ◌+◌, suc, Bool, true, false, [], ◌∷◌, map, None, Some, Ok, Err, IfOk, arith}
use Rattle.mm_call.proofs.Below.{Plan, Act, StepGoes, Meaning, normal_batch, Content, Foreign, DeviceStep, Reads, Long, Memory, AskResult}
use Rattle.mm_call.proofs.Below.{Answered, Refused, Broken, Breaks, position_of, position_if_committed, CallKind, AreStepsToEnd}
use Rattle.mm_call.proofs.Below.{EndsByFinding, IsCallToEnd, IsWholeCall, IsCallSoFar, IsCallOnCourse, StepFate, has_commit, result_of}
use Rattle.mm_call.proofs.Below.{end_by_fault, end_of_refusal, kept_position, KeepsPosition, EndsAsCall, IsUntouched, CallLeavesUntouched}
use Rattle.mm_call.proofs.Below.{CountsHandedFault, fault_of, fault_in, instance_by, fates_before_plan, told_by, begins_at, MakesStep}
use Rattle.mm_call.proofs.Committing.{fate_of, steps_fates, ends_fates, Tale, steps_blamed, Given, steps_give, Walks, walks_on, walks_fail}
use Rattle.mm_call.proofs.Committing.{MakesAll, steps_walk, refused_result}
use Rattle.mm_call.proofs.OptHolding.{agrees_is, is_agrees}

-- What a call comes to by digests, from the trail of its steps; and so by lists, under the law.

-- what the call sees at its last reading step
abbrev pub sees : Instance → Digests → Course → Digests
sees i d c = state_seen i (digest_level i) d c

-- what it finds there
abbrev pub finds : Instance → Digests → Course → List ℕ → Batch → Result CallFinding Refusal
finds i d c offer b = finding_unless_wanting (finding_at i (digest_level i) (sees i d c) b offer) c.lacks

-- A call goes by digests, where it finds this and its steps are a trail that ends with this fault.
pub went : (i : Instance) (d : Digests) (c : Course) (offer : List ℕ) (b : Batch) (old new : Standing)
    (result : Result BatchAnswer Refusal) (found : Result CallFinding Refusal) (fault : Option StepFault) → finds i d c offer b ≡ found
    → StandsAt i old d → IsTrail i d c.fates 1 (ask_steps i.variant d.flag (is_fresh found) b) old new fault
    →
    ((moves : List Move) → result ≡ result_of_ending
    (call_ending_by (digest_level i) (sees i d c) (state_after_moves (digest_level i) d moves) b found moves fault))
    → CallGoesBy i d (call_outcome i (digest_level i) d c offer b) old new result
went i d c offer b old new result found fault e s t gives =
    let w : StepsWalk = walk c.fates 1 (ask_steps i.variant d.flag (is_fresh found) b) in
    let l = leads i d c.fates 1 (ask_steps i.variant d.flag (is_fresh found) b) old new fault s t in
    rw e (record {
      gives = gives w.moves ∙ ap (λ (f : Option StepFault). result_of_ending
          (call_ending_by (digest_level i) (sees i d c) (state_after_moves (digest_level i) d w.moves) b found w.moves f)) (sym l.broken);
      stands = l.stands;
      items = l.items;
      steps = l.steps;
      writes = l.writes;
    })

register_at : (variant : Variant) (i : Instance) (standing : Standing) (y : History) → RegisterStands variant i standing y
    → RegisterStandsAt variant (register_reading standing) (register_value_of i y)
register_at Basic i standing y r = tt
register_at Opt i standing y r = r

register_stands : (variant : Variant) (i : Instance) (standing : Standing) (y : History)
    → RegisterStandsAt variant (register_reading standing) (register_value_of i y) → RegisterStands variant i standing y
register_stands Basic i standing y r = tt
register_stands Opt i standing y r = r

-- a platform stands for a history exactly where it stands at its digests
pub stands_at : (i : Instance) (standing : Standing) (y : History) → StandsFor i standing y → StandsAt i standing (digests_of i y)
stands_at i standing y s = record { spells = s.spells; cell = s.cell; reads = register_at i.variant i standing y s.register }

pub stands_for : (i : Instance) (standing : Standing) (y : History) → StandsAt i standing (digests_of i y) → StandsFor i standing y
stands_for i standing y s = record { spells = s.spells; cell = s.cell; register = register_stands i.variant i standing y s.reads }

pub continues_by : (i : Instance) → CallsAgree i → (old new : Standing) (course : Course) (offer : List ℕ) (b : Batch)
    (result : Result BatchAnswer Refusal)
    → ((d : Digests) → StandsAt i old d → CallGoesBy i d (call_outcome i (digest_level i) d course offer b) old new result)
    → (all others : List (List ℕ)) (asked : List Batch) (y : History) → StandsFor i old y
    → IsAsked all others asked i y (call_outcome i (digest_level i) (digests_of i y) course offer b).moves offer b
    → CallContinues all others asked i (call_outcome i (list_level i) y course offer b) new result
continues_by i law old new course offer b result goes all others asked y s a =
    let d : Digests = digests_of i y in
    let same = law all others asked y d course offer b (is_agrees i y d refl) a in
    let g = goes d (stands_at i old y s) in
    let o : CallOutcome History = call_outcome i (list_level i) y course offer b in record {
      gives = g.gives ∙ ap result_of_ending same.ending;
      stands = stands_for i new o.state
          (subst (StandsAt i new) (agrees_is i o.state (call_outcome i (digest_level i) d course offer b).state same.agrees) g.stands);
      within = same.within;
    }

-- A call that ended so over a platform is the call on a course, by digests and by lists.

-- What a call comes to by digests

-- an accepted offer, and the answer to it
pub record Accepts (i : Instance) (seen : Digests) (b : Batch) (x : Result CallFinding Refusal) (again : Bool)
    (answer : BatchAnswer) : Type 0
  where
    pub offered : Content
    pub found_is : x ≡ Ok (record { offered = offered; again = again })
    pub answer_is : answer ≡ (digest_level i).answer again seen seen offered b

-- What a call came to from these digests, from the step of this number on, by what it finds: its walk, and what it gives.
pub record Told (i : Instance) (d seen : Digests) (fates : ℕ → StepFate) (n : ℕ) (steps : List DeviceStep) (b : Batch)
    (x : Result CallFinding Refusal)
    (old new : Standing) (ended : AskResult) : Type 0 where
  pub position : ℕ
  pub position_is : (s : Digests) → position_of (digest_level i) seen s b x ≡ position
  pub walks : Walks i d fates n steps old new ended position
  pub gives : (s : Digests) (moves : List Move)
      → result_of ended ≡ result_of_ending (call_ending_by (digest_level i) seen s b x moves (fault_in (result_of ended)))

same_position : (i : Instance) (d seen s : Digests) (b : Batch) (x : Result CallFinding Refusal)
    → position_of (digest_level i) seen s b x ≡ position_of (digest_level i) seen d b x
same_position i d seen s b (Ok it) = refl
same_position i d seen s b (Err why) = refl

-- a reading step that is done, and one that fails
module _ (i : Instance) (d seen : Digests) (plan : Plan) (n : ℕ) (steps : List DeviceStep) (b : Batch) (x : Result CallFinding Refusal)
    (act : Act) (makes : MakesStep i d act Reads) (old after middle new : Standing) (room : middle ≡ record after { spare = middle.spare })
  where
    pub told_on : (rest : List StepFate) (ended : AskResult) → (g : StepGoes act old after None)
        → Told i (state_after_moves (digest_level i) d (map Foreign g.others)) seen (fates_before_plan rest (n + 1) plan) (n + 1) steps b
        x middle new ended
        → Told i d seen (fates_before_plan (fate_of act old after None g ∷ rest) n plan) n (Reads ∷ steps) b x old new ended
    told_on rest ended g t = record {
      position = t.position;
      position_is = t.position_is;
      walks = walks_on i d (fate_of act old after None g) rest plan n Reads steps old middle new ended t.position
          (record { act = act; after = after; goes = g; makes = makes; brings = refl; ends = refl; room = room }) (λ _. refl) t.walks;
      gives = t.gives;
    }

    pub told_fails : (fault : StepFault) → (g : StepGoes act old after (Some fault)) → new ≡ middle
        → Told i d seen (fates_before_plan (fate_of act old after (Some fault) g ∷ []) n plan) n (Reads ∷ steps) b x old new
        (Broken fault None)
    told_fails fault g e = rw e (record {
      position = position_of (digest_level i) seen d b x;
      position_is = λ (s : Digests). same_position i d seen s b x;
      walks = walks_fail i d (fate_of act old after (Some fault) g) plan n Reads steps old middle fault
          (position_of (digest_level i) seen d b x)
          (record { act = act; after = after; goes = g; makes = makes; brings = refl; ends = refl; room = room });
      gives = λ (s : Digests) (moves : List Move). refl;
    })

-- a refusal that hands no fault on
told_refused : (i : Instance) (d seen : Digests) (fates : ℕ → StepFate) (n : ℕ) (b : Batch) (why : Refusal) (old : Standing)
    → fault_of why ≡ None → Told i d seen fates n [] b (Err why) old old (Refused why)
told_refused i d seen fates n b why old quiet = record {
  position = 0;
  position_is = λ (s : Digests). refl;
  walks = record { trail = (refl, quiet); keeps = quiet };
  gives = λ (s : Digests) (moves : List Move).
      rw quiet refl;
}

-- the steps that commit what was found
gives_as : (ended : AskResult) (i : Instance) (seen s : Digests) (b : Batch) (it : CallFinding) (moves : List Move) (answer : BatchAnswer)
    → Given answer ended → answer ≡ (digest_level i).answer it.again seen s it.offered b
    → result_of ended ≡ result_of_ending (call_ending_by (digest_level i) seen s b (Ok it) moves (fault_in (result_of ended)))
gives_as (Answered given) i seen s b it moves answer g e = ap (λ (v : BatchAnswer). Ok v) (g ∙ e)
gives_as (Refused why) i seen s b it moves answer g e = absurd g
gives_as (Broken fault position) i seen s b it moves answer g e = refl

told_found : (acts : List Act) (answer : BatchAnswer) (old new : Standing) (ended : AskResult) (i : Instance) (d seen : Digests)
    (steps : List DeviceStep) (b : Batch) (x : Result CallFinding Refusal) (again : Bool) (plan : Plan) (n : ℕ)
    → Accepts i seen b x again answer
    → MakesAll i d acts steps → (s : AreStepsToEnd acts answer old new ended)
    → Told i d seen (fates_before_plan (steps_fates acts answer old new ended s) n plan) n steps b x old new ended
told_found acts answer old new ended i d seen steps b x again plan n a makes s =
    let it : CallFinding = record { offered = a.offered; again = again } in
    record {
      position = answer.position;
      position_is = λ (t : Digests). ap (λ (y : Result CallFinding Refusal). position_of (digest_level i) seen t b y) a.found_is
          ∙ ap (λ (v : BatchAnswer). v.position) (sym a.answer_is);
      walks = steps_walk acts answer old new ended i d steps plan n makes s;
      gives = λ (t : Digests) (moves : List Move).
          gives_as ended i seen t b it moves answer (steps_give acts answer old new ended s) a.answer_is
          ∙ ap (λ (y : Result CallFinding Refusal). result_of_ending
          (call_ending_by (digest_level i) seen t b y moves (fault_in (result_of ended))))
          (sym a.found_is);
    }

-- What was found is what the call finds by digests, and its device steps make these steps of the walk.
abbrev pub AsFound : {F : Type 0} → CallKind F → Instance → Digests → Batch → Result CallFinding Refusal → Result F Refusal
    → List DeviceStep → Type 0
AsFound c i seen b x (Err why) steps = (x ≡ Err why) × (steps ≡ [])
AsFound c i seen b x (Ok found) steps =
    (again : Bool) × Accepts i seen b x again (c.answer found) × MakesAll i seen (c.acts found) steps

-- the last reading step, and the steps that commit what was found
module _ (i : Instance) (d : Digests) (plan : Plan) (n : ℕ) (steps : List DeviceStep) (b : Batch) (x : Result CallFinding Refusal)
    (act : Act) (makes : MakesStep i d act Reads) (old after middle new : Standing) (room : middle ≡ record after { spare = middle.spare })
  where
    abbrev seen_by : List (List ℕ) → Digests
    seen_by values = state_after_moves (digest_level i) d (map Foreign values)

    pub refused_reading : (seen : Digests) (fault : Option StepFault) (why : Refusal) (ended : AskResult) → fault_of why ≡ fault
        → (g : StepGoes act old after fault) → (new ≡ middle) × (ended ≡ end_by_fault fault why)
        → (fault ≡ None → (x ≡ Err why) × (steps ≡ []))
        → Told i d seen (fates_before_plan (fate_of act old after fault g ∷ []) n plan) n (Reads ∷ steps) b x old new ended
    refused_reading seen (Some fault) why ended loud g e so =
        rw e.1 (told_fails i d seen plan n steps b x act makes old after middle new room fault g e.0)
    refused_reading seen None why ended quiet g e so =
        rw ((so refl).0, (so refl).1, e.0, e.1)
        (told_on i d seen plan n [] b (Err why) act makes old after middle middle room [] (Refused why) g
        (told_refused i (seen_by g.others) seen (fates_before_plan [] (n + 1) plan) (n + 1) b why middle quiet))

    pub told_reading : {F : Type 0} → (c : CallKind F) (found : Result F Refusal) (ended : AskResult)
        → (g : StepGoes act old after (fault_in found))
        → (e : EndsByFinding c found middle new ended)
        → (fault_in found ≡ None → AsFound c i (state_after_moves (digest_level i) d (map Foreign g.others)) b x found steps)
        → Told i d (state_after_moves (digest_level i) d (map Foreign g.others))
        (fates_before_plan (fate_of act old after (fault_in found) g ∷ ends_fates c found middle new ended e) n plan) n (Reads ∷ steps)
        b x old new ended
    told_reading c (Err why) ended g e so = refused_reading (seen_by g.others) (fault_of why) why ended refl g e so
    told_reading c (Ok found) ended g e so =
        let a = so refl in
        let seen : Digests = seen_by g.others in
        told_on i d seen plan n steps b x act makes old after middle new room
        (steps_fates (c.acts found) (c.answer found) middle new ended e) ended g
        (told_found (c.acts found) (c.answer found) middle new ended i seen seen steps b x a.0 plan (n + 1) a.1 a.2 e)

-- A call from its first step to its end

-- memory was wanting
abbrev pub is_memory : Refusal → Bool
is_memory Memory = true
is_memory _ = false

abbrev pub lacks_in : {F : Type 0} → Result F Refusal → Bool
lacks_in (Ok found) = false
lacks_in (Err why) = is_memory why

abbrev pub course_by : List StepFate → Standing → Bool → Course
course_by fates old lacks = record { fates = fates_before_plan fates 1 (next_plan old); lacks = lacks }

-- what a call came to from these digests, on this course
abbrev pub GoesTo : Instance → Digests → Course → List ℕ → Batch → Standing → Standing → AskResult → Type 0
GoesTo i d c offer b old new ended =
    Told i d (sees i d c) c.fates 1 (ask_steps i.variant d.flag (is_fresh (finds i d c offer b)) b) b (finds i d c offer b) old new ended

goes_by : (i : Instance) (d : Digests) (c : Course) (offer : List ℕ) (b : Batch) (old new : Standing) (ended : AskResult) → StandsAt i old d
    → GoesTo i d c offer b old new ended → CallGoesBy i d (call_outcome i (digest_level i) d c offer b) old new (result_of ended)
goes_by i d c offer b old new ended s t =
    went i d c offer b old new (result_of ended) (finds i d c offer b) (fault_in (result_of ended)) refl s t.walks.trail
    (λ (moves : List Move). t.gives (state_after_moves (digest_level i) d moves) moves)

keeps_by : (ended : AskResult) (i : Instance) (d : Digests) (c : Course) (offer : List ℕ) (b : Batch) (old new : Standing)
    → GoesTo i d c offer b old new ended → KeepsPosition c.fates (call_outcome i (digest_level i) d c offer b) ended
keeps_by (Answered answer) i d c offer b old new t = tt
keeps_by (Refused why) i d c offer b old new t = t.walks.keeps
keeps_by (Broken fault commits_to) i d c offer b old new t =
    let x : Result CallFinding Refusal = finds i d c offer b in
    let w : StepsWalk = walk c.fates 1 (ask_steps i.variant d.flag (is_fresh x) b) in
    let s : Digests = state_after_moves (digest_level i) d w.moves in
    let k = t.walks.keeps in
    let count : 1 + k.before ≡ suc k.before = omega arith in
    ap (λ (f : Option StepFault). call_ending_by (digest_level i) (sees i d c) s b x w.moves f) k.broken
    ∙ ap (λ (p : ℕ). Breaks fault (position_if_committed (has_commit w.moves) p)) (t.position_is s)
    ∙ ap (λ (p : Option ℕ). Breaks fault p) k.kept
    ∙ ap (λ (m : ℕ). Breaks fault (kept_position (c.fates m).ends commits_to)) (count ∙ sym k.steps)

pub calls_to : (variant : Variant) (meaning : Meaning) (old new : Standing) (offer : List ℕ) (b : Batch) (ended : AskResult)
    (fates : List StepFate) (lacks : Bool) → ((key barrier : List ℕ) → CallsAgree (instance_by variant meaning key barrier))
    → Tale fates 0 old new ended
    → ((key barrier : List ℕ) (d : Digests) → StandsAt (instance_by variant meaning key barrier) old d
    → GoesTo (instance_by variant meaning key barrier) d (course_by fates old lacks) offer (normal_batch b) old new ended)
    → EndsAsCall variant meaning old new offer b ended
calls_to variant meaning old new offer b ended fates lacks agree tale to =
    let c : Course = course_by fates old lacks in
    let goes = λ (key barrier : List ℕ) (d : Digests) (s : StandsAt (instance_by variant meaning key barrier) old d).
    goes_by (instance_by variant meaning key barrier) d c offer (normal_batch b) old new ended s (to key barrier d s) in
    record {
      calls = record {
        course = c;
        tells = told_by old fates (λ plan is_on known at. tale.met_all plan (begins_at old plan is_on known at));
        goes = goes;
        continues = λ key barrier y all others asked. continues_by (instance_by variant meaning key barrier) (agree key barrier) old new c
            offer (normal_batch b) (result_of ended) (goes key barrier) all others asked y;
      };
      keeps = λ key barrier d s. keeps_by ended (instance_by variant meaning key barrier) d c offer (normal_batch b) old new
          (to key barrier d s);
      plans = λ plan is_on known at. tale.stays plan (begins_at old plan is_on known at);
    }

-- What holds of each call

module _ {F : Type 0} (c : CallKind F) (meaning : Meaning) (old new : Standing) (offer : List ℕ) (b : Batch) where
  -- a call that isn't too long
  pub calls_from : (ended : AskResult) (result : Result BatchAnswer Refusal) → is_long b ≡ false
      → IsCallToEnd c meaning old new offer b ended
      → result ≡ result_of ended → IsWholeCall c meaning old new offer b result
  calls_from ended result short a e = record {
    long = λ (long : is_long b ≡ true). absurd (cc);
    asks = λ (_ : is_long b ≡ false). record { ended = ended; asks = a; gives = e };
  }

  -- what holds of a call that is too long, and of one that isn't
  pub each_call : (P : Standing → Result BatchAnswer Refusal → Type 0) (result : Result BatchAnswer Refusal) → P old (Err Long)
      → ((ended : AskResult) → IsCallToEnd c meaning old new offer b ended → P new (result_of ended))
      → IsWholeCall c meaning old new offer b result
      → P new result
  each_call P result long asked calls = by_length (is_long b) refl
    where
      by_length : (t : Bool) → is_long b ≡ t → P new result
      by_length true e =
          let l = calls.long e in
          rw l.0 (rw l.1 long)
      by_length false e =
          let a = calls.asks e in
          rw a.gives (asked a.ended a.asks)

  -- the reading steps of a call, with the steps that commit what they found, are the whole call
  pub so_far : (found : Result F Refusal)
      → ((after : Standing) (ended : AskResult) → IsCallToEnd c meaning old after offer b ended
      → IsCallOnCourse c.variant meaning old after offer b (result_of ended))
      → c.reads meaning old new offer b found → IsCallSoFar c meaning old new offer b found
  so_far (Err why) on r =
      subst (λ (x : Result BatchAnswer Refusal). IsCallOnCourse c.variant meaning old new offer b x) (refused_result why)
      (on new (end_of_refusal why) (record { middle = new; found = Err why; reads = r; ends = (refl, refl) }))
  so_far (Ok found) on r = λ (after : Standing) (written : Result BatchAnswer StepFault)
      (k : CommitsFinding (c.acts found) (c.answer found) new after written).
      subst (λ (x : Result BatchAnswer Refusal). IsCallOnCourse c.variant meaning old after offer b x) k.gives
      (on after k.ended (record { middle = new; found = Ok found; reads = r; ends = k.ends }))

-- a refusal, or what was given
given_untouched : (ended : AskResult) (answer : BatchAnswer) (old new : Standing) → Given answer ended
    → CallLeavesUntouched (result_of ended) old new
given_untouched (Answered it) answer old new g = tt
given_untouched (Refused why) answer old new g = absurd g
given_untouched (Broken fault position) answer old new g = λ (h : Some fault ≡ None). absurd (cc)

pub given_all : (P : BatchAnswer → Type 0) (ended : AskResult) (answer : BatchAnswer) → Given answer ended → P answer
    → IfOk (result_of ended) P
given_all P (Answered it) answer g p = subst P (sym g) p
given_all P (Refused why) answer g p = absurd g
given_all P (Broken fault position) answer g p = tt

-- what holds of a call whose last step was done holds of it as it ended
pub answered_result : (P : Standing → Result BatchAnswer Refusal → Type 0) (answer : BatchAnswer) (old new : Standing) (ended : AskResult)
    → AreStepsToEnd [] answer old new ended → P old (Ok answer) → P new (result_of ended)
answered_result P answer old new ended s p =
    rw s.0 (rw s.1 p)

module _ {F : Type 0} (c : CallKind F) where
  pub ends_result : (P : Standing → Result BatchAnswer Refusal → Type 0) (why : Refusal) (old new : Standing) (ended : AskResult)
      → EndsByFinding c (Err why) old new ended → P old (Err why) → P new (result_of ended)
  ends_result P why old new ended e p =
      rw e.0 (rw (ap result_of e.1 ∙ refused_result why) p)

  -- what a call leaves, where its reading steps leave all untouched
  pub ends_untouched : (found : Result F Refusal) (old middle new : Standing) (ended : AskResult) → EndsByFinding c found middle new ended
      → ((why : Refusal) → found ≡ Err why → fault_of why ≡ None → IsUntouched old middle) → CallLeavesUntouched (result_of ended) old new
  ends_untouched (Err why) old middle new ended e h =
      ends_result (λ (s : Standing) (r : Result BatchAnswer Refusal). CallLeavesUntouched r old s) why middle new ended e (h why refl)
  ends_untouched (Ok found) old middle new ended e h =
      given_untouched ended (c.answer found) old new (steps_give (c.acts found) (c.answer found) middle new ended e)
