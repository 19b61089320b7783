-- A planned call, and a planned checkpoint, however it ended, comes to what it does by digests.
use Rattle.mm_world.proofs.Below.{◌≡◌, ℕ, ◌+◌, Bool, true, false, List, length, Option, None, Some, Result, Ok, Err, inr, refl, sym, ap}
use Rattle.mm_world.proofs.Below.{◌∙◌, subst, arith, if◌then◌else◌, MatchResult, Memory, Variant, Meaning, Batch, size_of, normal_batch}
use Rattle.mm_world.proofs.Below.{StepFault, Meddle, Stop, Standing, Instance, Move, is_long, Digests, register_reading, ask_steps, Refusal}
use Rattle.mm_world.proofs.Below.{AskResult, Answered, Refused, Broken, digest_level, state_after_moves, CallFinding, finding_at}
use Rattle.mm_world.proofs.Below.{finding_unless_wanting, is_fresh, End, Done, Fails, StepFate, Course, walk, fate_by_plan, moves_seen}
use Rattle.mm_world.proofs.Below.{CallEnding, Answers, Refuses, Breaks, CallOutcome, call_outcome, call_ending_by, state_seen}
use Rattle.mm_world.proofs.Below.{reading_steps, instance_by, StandsAt, count_after_more, result_of, kept_position, KeepsPosition}
use Rattle.mm_world.proofs.Below.{is_broken, PlatformStaysOn, EndsAsCall, way_of, course_of, cause_of, outcome_by, outcome_without_call}
use Rattle.mm_world.proofs.Below.{plan_of, broken_reply, HasDigests, IsQuiet, refused_call, answered_call, broken_call, takes_effect}
use Rattle.mm_world.proofs.Below.{size_if, IsRefusalResult, IsCallResult, SettlesPlan, CallComesTo, HasRead, AsksOwnCell, planned_ask, call_commits}
use Rattle.mm_world.proofs.Below.{◌&&◌, ◌++◌, reply_of, snapshots_of, moves_after_call, is_cut, [], ◌∷◌, map, append-nil, ◌==◌, Basic, Opt}
use Rattle.mm_world.proofs.Below.{fault_at, is_made_at, Foreign, Close, Reads, Writes, checkpoint_steps, Said, CheckpointRefusal}
use Rattle.mm_world.proofs.Below.{checkpoint_result, CheckpointGoesBy, IsCheckpointOnCourse, StepsWalk, walk_from_step, has_close, end_of}
use Rattle.mm_world.proofs.Below.{made_move, closes-foreign, closes_first, checkpoint_none, closing_reply, moves_after_checkpoint}
use Rattle.mm_world.proofs.Below.{checkpoint_event_outcome, stopped_reply}
use Rattle.mm_world.proofs.Seating.{closes_at}
use Rattle.mm_world.proofs.Below.{checkpoint_reply, has_closing_fault, ChecksOwnCell, quiet_call, register_of_items}
use Rattle.std.specs.Prelude.{◌⊎◌}
use Rattle.mm_module.specs.RunLaws.{members_of-normal}
use Rattle.mm_outcome.specs.Premises.{ask_event_outcome}
use Rattle.mm_call.specs.CallKind.{CallGoesBy}
use Rattle.mm_world.proofs.Asking.{committed_by, counted_end, stopped_at, breaks_at, refuses, same, lacks_or_same, refused_read, told_ok}
use Rattle.mm_world.proofs.Asking.{told_err, breaks, stands_settled, on_settled, Tells, came_register, power_if, power_count, moves_power}
use Rattle.mm_world.proofs.Asking.{reads_shown, count_none, stop_power}
use Rattle.mm_call.specs.Checkpoints.{checkpoint_ending, checkpoint_outcome, checkpoint_ending_by}
use Rattle.mm_model.specs.declared.refusal.Refusal.TheVariants as refusal
use Rattle.mm_schedule.specs.declared.reply.Reply.TheVariants as reply
use Rattle.mm_schedule.specs.declared.reply.Cause.TheVariants as cause
use Rattle.mm_world.specs.declared.call.CallReport as code

-- A call over a planned platform, that ended so.
pub record Over (i : Instance) (d : Digests) (stop : Stop) (meddles : List Meddle) (bytes : List ℕ) (b : Batch) (old mid new : Standing)
    (ended : AskResult) : Type 0 where
  pub course : Course
  pub fates : (n : ℕ) → course.fates n ≡ fate_by_plan (plan_of stop meddles) n
  pub goes : CallGoesBy i d (call_outcome i (digest_level i) d course bytes b) (record old { plan = Some (plan_of stop meddles) }) mid
      (result_of ended)
  pub keeps : KeepsPosition course.fates (call_outcome i (digest_level i) d course bytes b) ended
  pub register : register_reading old ≡ Some d.register
  pub settles : SettlesPlan stop (is_broken ended) mid new
  pub stays : PlatformStaysOn stop (is_broken ended) mid

-- with memory at hand a course with the planned fates is the planned one
course_told : (fates : ℕ → StepFate) (stop : Stop) (meddles : List Meddle) → ((n : ℕ) → fates n ≡ fate_by_plan (plan_of stop meddles) n)
    → record { fates = fates; lacks = false } ≡ course_of stop meddles
course_told fates stop meddles told = λ j. record { fates = λ n. told n j; lacks = false }

-- the position that was kept

ended_broken : (i : Instance) (seen s : Digests) (b : Batch) (found : Result CallFinding Refusal) (moves : List Move)
    (broken : Option StepFault) (fault : StepFault) (kept : Option ℕ) → call_ending_by (digest_level i) seen s b found moves broken
    ≡ Breaks fault
    kept
    → broken ≡ Some fault
ended_broken i seen s b found moves (Some f) fault kept e = let x : f ≡ fault = cc in ap Some x
ended_broken i seen s b (Err why) moves None fault kept e = cc
ended_broken i seen s b _ moves None fault kept e = cc

kept_made : (e : End) (fault : StepFault) (made : Bool) (commits : Option ℕ) → e ≡ Fails fault made
    → kept_position e commits ≡ (if made then commits else None)
kept_made Done fault made commits e = cc
kept_made (Fails f true) fault made commits e = let x : true ≡ made = cc in ap (λ m. if m then commits else None) x
kept_made (Fails f false) fault made commits e = let x : false ≡ made = cc in ap (λ m. if m then commits else None) x

module _ (i : Instance) (d : Digests) (stop : Stop) (meddles : List Meddle) (bytes : List ℕ) (b : Batch) (old mid new : Standing)
    (issued : List (List ℕ)) where
  abbrev on : Course → CallOutcome Digests
  on c = call_outcome i (digest_level i) d c bytes b

  -- the call that is planned came to this, or what it came to
  abbrev Comes : code.CallReport → Type 0
  Comes it = CallComesTo i (outcome_by (digest_level i) stop issued (on (course_of stop meddles))) d.count issued old new it

  abbrev Ends : Result code.CallReport Memory → Type 0
  Ends result = MatchResult result Comes (λ _. HasRead i d meddles stop old new)

  abbrev OverAs : AskResult → Type 0
  OverAs ended = Over i d stop meddles bytes b old mid new ended

  call_count : (c : Course) → (on c).state.count ≡ d.count + committed_by (on c).ending (size_of b)
  call_count c =
      let seen = state_seen i (digest_level i) d c in
      let found = finding_unless_wanting (finding_at i (digest_level i) seen b bytes) c.lacks in
      let w = walk c.fates 1 (ask_steps i.variant d.flag (is_fresh found) b) in
      counted_end i d seen b found w w.broken refl (call_commits i.variant c.fates d.flag (is_fresh found) b)

  -- the call that is planned is the call that was made, where that wasn't refused for want of memory
  planned_by : (c : Course) → ((n : ℕ) → c.fates n ≡ fate_by_plan (plan_of stop meddles) n) → ((on c).ending ≡ Refuses refusal.Memory → ⊥)
      → on c ≡ on (course_of stop meddles)
  planned_by c told never = elim (lacks_or_same i d c.fates c.lacks bytes b) [
    | refuses e ↦ absurd (never e)
    | same e ↦ e ∙ ap on (course_told c.fates stop meddles told)
  ]

  -- a call that was answered, refused for another reason than want of memory, or broken off
  came_call : (ended : AskResult) (r : OverAs ended) (it : code.CallReport) (ending : CallEnding) → (on r.course).ending ≡ ending
      → breaks ending ≡ is_broken ended → (ending ≡ Refuses refusal.Memory → ⊥) → Tells stop (size_of b) ending it → Comes it
  came_call ended r it ending e alike never tells =
      let o = on r.course in let lost = is_broken ended && is_cut stop in
      let is : o ≡ on (course_of stop meddles) = planned_by r.course r.fates (λ x. never (sym e ∙ x)) in
      let power : moves_after_call stop o.ending ≡ power_if lost = ap (moves_after_call stop) e ∙ moves_power stop ending
      ∙ ap (λ x. power_if (x && is_cut stop)) alike in
      let read = came_register i d o (record old { plan = Some (plan_of stop meddles) }) mid r.goes.items refl r.register in
      subst (λ x. CallComesTo i (outcome_by (digest_level i) stop issued x) d.count issued old new it) is (record {
        reply = tells.reply ∙ ap (reply_of (way_of stop)) (sym e);
        issues = ap (λ x. issued ++ x) (tells.snapshot ∙ ap snapshots_of (sym e));
        stands = subst (λ ms. HasDigests i new (state_after_moves (digest_level i) o.state ms)) (sym power)
            (stands_settled i o.state mid new lost (record { at = r.goes.stands; register = read }) r.settles.cell r.settles.items);
        counts = ap (λ ms. (state_after_moves (digest_level i) o.state ms).count) power ∙ power_count i o.state lost ∙ call_count r.course
            ∙ ap (λ x. d.count + committed_by x (size_of b)) e ∙ ap (λ n. d.count + n) (sym tells.committed);
        quiet = record { is_on = on_settled stop (is_broken ended) mid new r.stays r.settles.is_on; plan = r.settles.plan };
        steps = r.settles.steps ∙ r.goes.steps;
        writes = r.settles.writes ∙ r.goes.writes;
      })

  kept_planned : (c : Course) (fault : StepFault) (kept commits : Option ℕ) → ((n : ℕ) → c.fates n ≡ fate_by_plan (plan_of stop meddles) n)
      → (on c).ending ≡ Breaks fault kept
      → kept_position (c.fates (on c).steps).ends commits ≡ (if takes_effect stop then commits else None)
  kept_planned c fault kept commits told e =
      let seen = state_seen i (digest_level i) d c in
      let found = finding_unless_wanting (finding_at i (digest_level i) seen b bytes) c.lacks in
      let steps = ask_steps i.variant d.flag (is_fresh found) b in let w = walk c.fates 1 steps in
      let at = breaks_at c.fates 1 steps fault
      (ended_broken i seen (state_after_moves (digest_level i) d w.moves) b found w.moves w.broken fault kept e) in
      let fails : (c.fates w.steps).ends ≡ Fails at.fault at.made = at.fails w.steps (omega arith) in
      let stopped = stopped_at stop w.steps at.fault at.made (ap (λ (f : StepFate). f.ends) (sym (told w.steps)) ∙ fails) in
      kept_made (c.fates w.steps).ends at.fault at.made commits fails ∙ ap (λ m. if m then commits else None) stopped.effect

  -- want of memory
  lacks_call : (ended : AskResult) (r : OverAs ended) → is_broken ended ≡ false → (on r.course).ending ≡ Refuses refusal.Memory
      → HasRead i d meddles stop old new
  lacks_call ended r unbroken e =
      let c = r.course in let o = on c in let seen = state_seen i (digest_level i) d c in
      let found = finding_unless_wanting (finding_at i (digest_level i) seen b bytes) c.lacks in
      let h = refused_read i d seen b c.fates found refusal.Memory e in
      let settles = subst (λ x. SettlesPlan stop x mid new) unbroken r.settles in
      let stays = subst (λ x. PlatformStaysOn stop x mid) unbroken r.stays in
      let read = came_register i d o (record old { plan = Some (plan_of stop meddles) }) mid r.goes.items refl r.register in
      let stands : HasDigests i new o.state = stands_settled i o.state mid new false (record { at = r.goes.stands; register = read })
      settles.cell settles.items in
      let to : o.state ≡ state_seen i (digest_level i) d (course_of stop meddles) =
      h.state ∙ ap (λ x. state_after_moves (digest_level i) d (moves_seen x (reading_steps i.variant) 1)) (λ j. λ n. r.fates n j) in
      record {
        stands = subst (HasDigests i new) to stands;
        quiet = record { is_on = on_settled stop false mid new stays settles.is_on; plan = settles.plan };
        steps = settles.steps ∙ r.goes.steps ∙ ap (λ n. count_after_more n old.steps) h.steps;
        writes = settles.writes ∙ r.goes.writes ∙ ap (λ n. count_after_more n old.writes) h.writes;
      }

  ends_why : (why : Refusal) (result : Result code.CallReport Memory) → OverAs (Refused why) → IsRefusalResult why result → Ends result
  ends_why refusal.Memory (Ok it) r e = absurd (cc)
  ends_why refusal.Memory (Err memory) r e =
      lacks_call (Refused refusal.Memory) r refl (told_err (on r.course).ending refusal.Memory (sym r.goes.gives) r.keeps)
  ends_why why result r e = subst Ends (sym e) (came_call (Refused why) r (refused_call (cause_of why)) (Refuses why)
      (told_err (on r.course).ending why (sym r.goes.gives) r.keeps) refl (λ x. cc)
      (record { reply = refl; snapshot = refl; committed = refl }))

  ends_all : (size : ℕ) (ended : AskResult) (result : Result code.CallReport Memory) → OverAs ended → size ≡ size_of b
      → IsCallResult stop size ended result → Ends result
  ends_all size (Answered answer) result r n e = subst Ends (sym e) (came_call (Answered answer) r (answered_call answer) (Answers answer)
      (told_ok (on r.course).ending answer (sym r.goes.gives)) refl (λ x. cc) (record { reply = refl; snapshot = refl; committed = refl }))
  ends_all size (Refused why) result r n e = ends_why why result r e
  ends_all size (Broken fault commits) result r n e =
      let kept = kept_position (r.course.fates (on r.course).steps).ends commits in
      let made : kept ≡ (if takes_effect stop then commits else None) = kept_planned r.course fault kept commits r.fates r.keeps in
      subst Ends (sym e) (came_call (Broken fault commits) r (broken_call stop (if takes_effect stop then commits else None) size)
      (Breaks fault kept) r.keeps refl (λ x. cc) (record {
        reply = ap (broken_reply (way_of stop)) (sym made);
        snapshot = refl;
        committed = ap (λ m. size_if m size) (sym made) ∙ ap (size_if kept) n;
      }))

-- where memory was wanting nothing may have happened at all
or_read : (P : code.CallReport → Type 0) (Q R : Type 0) (result : Result code.CallReport Memory) → MatchResult result P (λ _. R)
    → MatchResult result P (λ _. Q ⊎ R)
or_read P Q R (Ok it) h = h
or_read P Q R (Err memory) h = inr h

module _ (variant : Variant) (meaning : Meaning) (old mid new : Standing) (meddles : List Meddle) (stop : Stop) (bytes : List ℕ) (b : Batch)
    (size : ℕ) (ended : AskResult) (result : Result code.CallReport Memory) (short : is_long b ≡ false) (n : size ≡ size_of b)
    (calls : EndsAsCall variant meaning (record old { plan = Some (plan_of stop meddles) }) mid bytes b ended)
    (settles : SettlesPlan stop (is_broken ended) mid new) (told : IsCallResult stop size ended result) (issued : List (List ℕ)) where
  -- a call that isn't too long, over a planned platform: where memory is wanting it has read
  pub asks_planned : (key barrier : List ℕ) (d : Digests) → (let i = instance_by variant meaning key barrier in
      HasDigests i old d → IsQuiet old → MatchResult result
      (CallComesTo i (ask_event_outcome i (digest_level i) d issued meddles stop (Some bytes) b) d.count issued old new)
      (λ _. HasRead i d meddles stop old new))
  asks_planned key barrier d s q =
      let i = instance_by variant meaning key barrier in
      let at : Standing = record old { plan = Some (plan_of stop meddles) } in
      let planned_stands : StandsAt i at d = record { spells = s.at.spells; cell = s.at.cell; reads = s.at.reads } in
      let stays = calls.plans (plan_of stop meddles) q.is_on refl refl in
      let r : Over i d stop meddles bytes (normal_batch b) old mid new ended = record {
        course = calls.calls.course;
        fates = calls.calls.tells (plan_of stop meddles) q.is_on refl refl;
        goes = calls.calls.goes key barrier d planned_stands;
        keeps = calls.keeps key barrier d planned_stands;
        register = s.register;
        settles = settles;
        stays = stays.0;
      } in
      subst (λ x. MatchResult result
      (CallComesTo i (if x then outcome_without_call d issued (reply.No cause.Long) else outcome_by (digest_level i) stop issued
      (call_outcome i (digest_level i) d (course_of stop meddles) bytes (normal_batch b))) d.count issued old new)
      (λ _. HasRead i d meddles stop old
      new)) (sym short)
      (ends_all i d stop meddles bytes (normal_batch b) old mid new issued size ended result r (n ∙ ap (λ xs. length xs)
      (sym (members_of-normal b))) told)

  pub asks_as : AsksOwnCell variant meaning old new issued (planned_ask meddles stop (Some bytes) b) result
  asks_as = λ key barrier d s q.
      let i = instance_by variant meaning key barrier in
      or_read (λ it. CallComesTo i (ask_event_outcome i (digest_level i) d issued meddles stop (Some bytes) b) d.count issued old new it)
      (new ≡ old)
      (HasRead i d meddles stop old new) result (asks_planned key barrier d s q)

-- whether the segment was closed

closes_write : (made : Bool) (values : List (List ℕ)) → has_close (made_move made Close ++ map Foreign values) ≡ made
closes_write true values = refl
closes_write false values = closes-foreign values

abbrev Planned : (ℕ → StepFate) → Stop → Type 0
Planned fates stop = (n : ℕ) → (fates n).ends ≡ end_of (fault_at stop n) (is_made_at stop n)

-- a reading step, before a walk of which this holds
read_closes : (fates : ℕ → StepFate) (stop : Stop) (n : ℕ) (values : List (List ℕ)) (e : End) (rest : StepsWalk) (fault : StepFault)
    → e ≡ end_of (fault_at stop n) (is_made_at stop n) → (n == 3) ≡ false → (walk_from_step Reads values e rest).broken ≡ Some fault
    → (rest.broken ≡ Some fault → has_close rest.moves ≡ closes_at stop) → has_close (walk_from_step Reads values e rest).moves
    ≡ closes_at stop
read_closes fates stop n values Done rest fault ends other broken later = closes_first values rest.moves ∙ later broken
read_closes fates stop n values (Fails f made) rest fault ends other broken later =
    let at = stopped_at stop n f made (sym ends) in
    closes-foreign values ∙ sym (ap (λ k. (k == 3) && takes_effect stop) at.number ∙ ap (λ x. x && takes_effect stop) other)

-- the step that closes
write_closes : (stop : Stop) (values : List (List ℕ)) (e : End) (rest : StepsWalk) (fault : StepFault)
    → e ≡ end_of (fault_at stop 3) (is_made_at stop 3) → rest.broken ≡ None → (walk_from_step (Writes Close) values e rest).broken
    ≡ Some fault
    → has_close (walk_from_step (Writes Close) values e rest).moves ≡ closes_at stop
write_closes stop values Done rest fault ends none broken = cc
write_closes stop values (Fails f made) rest fault ends none broken =
    let at = stopped_at stop 3 f made (sym ends) in
    closes_write made values ∙ at.effect ∙ sym (ap (λ k. (k == 3) && takes_effect stop) at.number)

nothing_more : (broken : Option StepFault) (fault : StepFault) (stop : Stop) → broken ≡ None → broken ≡ Some fault → false ≡ closes_at stop
nothing_more broken fault stop none some = cc

closes_planned : (fates : ℕ → StepFate) (stop : Stop) (variant : Variant) (is_open is_lost : Bool) (fault : StepFault) → Planned fates stop
    → (walk fates 1 (checkpoint_steps variant is_open is_lost)).broken ≡ Some fault
    → has_close (walk fates 1 (checkpoint_steps variant is_open is_lost)).moves ≡ closes_at stop
closes_planned fates stop Opt true true fault told broken =
    read_closes fates stop 1 (fates 1).brings (fates 1).ends (walk fates 2 (Reads ∷ [])) fault (told 1) refl broken (λ later.
    read_closes fates stop 2 (fates 2).brings (fates 2).ends (walk fates 3 []) fault (told 2) refl later
    (nothing_more None fault stop refl))
closes_planned fates stop Opt true false fault told broken =
    read_closes fates stop 1 (fates 1).brings (fates 1).ends (walk fates 2 (Reads ∷ Writes Close ∷ [])) fault (told 1) refl broken (λ later.
    read_closes fates stop 2 (fates 2).brings (fates 2).ends (walk fates 3 (Writes Close ∷ [])) fault (told 2) refl later (λ last.
    write_closes stop (fates 3).brings (fates 3).ends (walk fates 4 []) fault (told 3) refl last))
closes_planned fates stop _ _ is_lost fault told broken =
    read_closes fates stop 1 (fates 1).brings (fates 1).ends (walk fates 2 []) fault (told 1) refl broken (nothing_more None fault stop
    refl)

-- what is told

-- what is told of it, and the moves that follow
closing_said : (stop : Stop) (variant : Variant) (is_open is_lost closed : Bool) (broken : Option StepFault)
    → ((fault : StepFault) → broken ≡ Some fault → closed ≡ closes_at stop)
    → (let closing = checkpoint_ending_by broken closed (checkpoint_ending variant is_open is_lost) in
    (checkpoint_reply stop (closes_at stop) (checkpoint_result closing) ≡ closing_reply (way_of stop) closing)
    × (moves_after_checkpoint stop closing ≡ power_if (has_closing_fault (checkpoint_result closing) && is_cut stop)))
closing_said stop variant is_open is_lost closed (Some fault) known =
    (ap (stopped_reply (way_of stop)) (sym (known fault refl)), stop_power stop)
closing_said stop Basic is_open is_lost closed None known = (refl, refl)
closing_said stop Opt false is_lost closed None known = (refl, refl)
closing_said stop Opt true true closed None known = (refl, refl)
closing_said stop _ _ _ closed None known = (refl, refl)

-- a checkpoint on the planned course
closed_came : (i : Instance) (d : Digests) (stop : Stop) (meddles : List Meddle) (old mid new : Standing)
    (result : Result Said CheckpointRefusal) (issued : List (List ℕ))
    → CheckpointGoesBy i d (checkpoint_outcome i (digest_level i) d (course_of stop meddles))
    (record old { plan = Some (plan_of stop meddles) }) mid result
    → register_reading old ≡ Some d.register → SettlesPlan stop (has_closing_fault result) mid new
    → PlatformStaysOn stop (has_closing_fault result) mid
    → CallComesTo i (checkpoint_event_outcome (digest_level i) stop issued
    (checkpoint_outcome i (digest_level i) d (course_of stop meddles))) d.count issued old new
    (quiet_call (checkpoint_reply stop (closes_at stop) result))
closed_came i d stop meddles old mid new result issued goes register settles stays =
    let c = course_of stop meddles in let is_lost = (digest_level i).is_lost (state_seen i (digest_level i) d c) in
    let o = checkpoint_outcome i (digest_level i) d c in let w = walk c.fates 1 (checkpoint_steps i.variant d.flag is_lost) in
    let read : register_reading mid ≡ Some o.state.register =
    ap register_of_items goes.items ∙ reads_shown i o.moves d old.items register in
    let lost = has_closing_fault result && is_cut stop in
    let said = closing_said stop i.variant d.flag is_lost (has_close w.moves) w.broken
    (λ fault broken. closes_planned c.fates stop i.variant d.flag is_lost fault (λ n. refl) broken) in
    let power = said.1 ∙ ap (λ x. power_if (has_closing_fault x && is_cut stop)) (sym goes.gives) in
    let P : List Move → Type 0 = λ ms. HasDigests i new (state_after_moves (digest_level i) o.state ms) in
    let C : List Move → Type 0 = λ ms. (state_after_moves (digest_level i) o.state ms).count ≡ d.count + 0 in
    record {
      reply = ap (checkpoint_reply stop (closes_at stop)) goes.gives ∙ said.0;
      issues = append-nil issued;
      stands =
          subst P (sym power) (stands_settled i o.state mid new lost (record { at = goes.stands; register = read }) settles.cell
          settles.items);
      counts =
          subst C (sym power) (power_count i o.state lost ∙ count_none i w.moves d (checkpoint_none i.variant d.flag is_lost c.fates)
          ∙ omega arith);
      quiet = record { is_on = on_settled stop (has_closing_fault result) mid new stays settles.is_on; plan = settles.plan };
      steps = settles.steps ∙ goes.steps;
      writes = settles.writes ∙ goes.writes;
    }

-- a checkpoint over a planned platform
pub checks_planned : (old mid new : Standing) (meddles : List Meddle) (stop : Stop) (result : Result Said CheckpointRefusal)
    → IsCheckpointOnCourse (record old { plan = Some (plan_of stop meddles) }) mid result
    → SettlesPlan stop (has_closing_fault result) mid new
    → (variant : Variant) (meaning : Meaning) (issued : List (List ℕ))
    → ChecksOwnCell variant meaning old new issued meddles stop (Ok (checkpoint_reply stop (closes_at stop) result))
checks_planned old mid new meddles stop result checks settles variant meaning issued = λ key barrier d s q.
    let i = instance_by variant meaning key barrier in
    let at : Standing = record old { plan = Some (plan_of stop meddles) } in
    let stands : StandsAt i at d = record { spells = s.at.spells; cell = s.at.cell; reads = s.at.reads } in
    let stays = checks.plans (plan_of stop meddles) q.is_on refl refl in
    let told = checks.tells (plan_of stop meddles) q.is_on refl refl in
    let goes : CheckpointGoesBy i d (checkpoint_outcome i (digest_level i) d (course_of stop meddles)) at mid result =
    subst (λ (f : ℕ → StepFate). CheckpointGoesBy i d
    (checkpoint_outcome i (digest_level i) d (record { fates = f; lacks = false })) at mid result) (λ j. λ n. told n j)
    (checks.goes variant meaning
    key barrier d stands) in
    closed_came i d stop meddles old mid new result issued goes s.register settles stays.0
