-- What the next step of a call in flight, and one that breaks it off, come to by the call's event.
-- With it: the next step of a call in flight, and a step that breaks it off.
use Rattle.std.specs.Result.{IsOk}
use Rattle.mm_model.specs.Chains.{Instance}
use Rattle.mm_model.specs.Moves.{is_long}
use Rattle.mm_model.specs.declared.answer.BatchAnswer.{BatchAnswer}
use Rattle.mm_model.specs.declared.refusal.Refusal.{Refusal}
use Rattle.mm_model.specs.declared.refusal.Refusal.TheVariants as refusal
use Rattle.mm_call.specs.CallFinding.{digest_level}
use Rattle.mm_call.specs.CallKind.{is_broken as call_broken, end_of_machine}
use Rattle.mm_call.specs.declared.ended.AskResult.{AskResult as CallEnded}
use Rattle.mm_call.specs.declared.ended.AskResult.TheVariants as ended
use Rattle.mm_opt.specs.Checkpoints.{closing_operation, result_of_end}
use Rattle.mm_opt.specs.declared.segment.Checkpointed.{Checkpointed}
use Rattle.mm_opt.specs.declared.segment.Checkpointed.TheVariants as checkpointed
use Rattle.mm_opt.specs.declared.segment.CheckpointRefusal.{CheckpointRefusal}
use Rattle.mm_opt.specs.declared.segment.CheckpointRefusal.TheVariants as closing_refusal
use Rattle.mm_opt.proofs.Above.{closing_steps_as}
use Rattle.mm_schedule.specs.declared.event.Offer.{Offer}
use Rattle.mm_schedule.specs.declared.reply.Way.TheVariants as way
use Rattle.mm_ask.specs.WholeAsk.{ask_operation, write_step_of}
use Rattle.mm_ask.proofs.Above.{counts_by, steps_stay}
use Rattle.mm_outcome.specs.EventOffers.{offered_bytes}
use Rattle.mm_outcome.specs.Premises.{ask_event_outcome, Outcome}
use Rattle.mm_outcome.proofs.Above.{stopped_reply}
use Rattle.mm_world.specs.Calls.{broken_call, IsCallResult, has_closed_segment, IsRefusalResult, has_closing_fault, checkpoint_reply}
use Rattle.mm_world.specs.WorldStanding.{quiet_call}
use Rattle.mm_world.proofs.Above.{asks_broken, asks_came, closes_broken, closes_came}
use Rattle.mm_steps.specs.declared.flying.FlightOutcome.{FlightOutcome}
use Rattle.mm_steps.specs.declared.flying.FlightOutcome.TheVariants as stepped
use Rattle.mm_steps.proofs.Below.{◌≡◌, ℕ, ◌+◌, ◌<◌, ◌≤◌, true, false, List, Option, Some, None, Result, Ok, Err, refl, sym, ◌∙◌, subst}
use Rattle.mm_steps.proofs.Below.{arith, option_map, next_count, Memory, StepFault, Failed, Meddle, Stop, Quiet, Plan, Standing}
use Rattle.mm_steps.proofs.Below.{plan_with_stop, standing_after_step, number_in, OpMeaning, OpEnds, act_of, MayGoOn, number_of, OpSteps}
use Rattle.mm_steps.proofs.Below.{OpResult, Broken, OpStage, Begun, Seen, Changing, StepResult, Going, Over, Move, Extending, Emptying}
use Rattle.mm_steps.proofs.Below.{Placing, Writing, plan_by, standing_under, CallEndsUnder, fault_of_step, CallFlies, is_broken}
use Rattle.mm_steps.proofs.Below.{AlwaysFails, commits_at, finish_breaks, goes_on, may_planned, steps_fail, steps_faultless, steps_move}
use Rattle.mm_steps.proofs.Below.{steps_over, steps_then, steps_under, CallReport, SettlesPlan, stopped_step, plan_behind, FlightBreaksAs}
use Rattle.mm_steps.proofs.Below.{FlightGoesOn, IsOver, BreaksNext, stop_behind, Bool, ◌&&◌, ap, is_some, MatchResult, Variant, Fail}
use Rattle.mm_steps.proofs.Below.{quiet_plan, Batch, size_of, Meaning, Digests, instance_by, CallComesTo, HasRead, TellsAsk}
use Rattle.mm_steps.proofs.Below.{TellsCheckpoint, WasPlanned, IsQuiet, HasDigests, MayStepOn, FlightStepsAs, outcome_of_stopped_ask}
use Rattle.mm_steps.proofs.Below.{ask_kind, checkpoint_kind, outcome_of_stopped_closing, IsInFlight, Kind, StepComesTo, is_nothing}
use Rattle.mm_steps.proofs.Stopping.{always_fails, goes_as, fails_next, replans_behind, later_than, settled_under, stopped_under}
use Rattle.mm_steps.proofs.Stopping.{settled_behind}

-- The next step of a call in flight, and a step that breaks it off.

-- a stopped call takes the same room
pub may_stop : {A : Type 0} (stage : OpStage A) (old stopped : Standing) (stop : Stop)
    → stopped ≡ record old { plan = option_map (plan_with_stop stop) old.plan } → MayGoOn stage old → MayGoOn stage stopped
may_stop stage old stopped stop is may =
    subst (λ (s : Standing). MayGoOn stage s) (sym is) (may_planned stage old (option_map (plan_with_stop stop) old.plan) may)

-- the number of its next step is low

few_change : (writes : ℕ) (change : Move) → writes ≤ 5 → number_in writes change ≤ 5
few_change writes (Extending value) few = omega arith
few_change writes (Emptying opening) few = omega arith
few_change writes (Placing opening) few = omega arith
few_change writes (Writing next) few = few

pub few_steps : {A : Type 0} (writes : ℕ) (stage : OpStage A) → writes ≤ 5 → number_of writes stage ≤ 5
few_steps writes Begun few = omega arith
few_steps writes (Seen cell) few = omega arith
few_steps writes (Changing ready) few = few_change writes ready.change few

pub few_writes : (result writes : ℕ) → result ≡ writes → result ≤ 5 → writes ≤ 5
few_writes result writes e few = omega arith

few_made : (number made : ℕ) → number ≤ 5 → number ≡ made + 1 → made + 1 < 255
few_made number made few e = omega arith

module _ {A R : Type 0} (o : OpMeaning A R) (from : Standing) (meddles : List Meddle) (made : ℕ) (stage : OpStage A) (now : Standing)
    (f : CallFlies o from meddles made stage now) where
  flies_on : (on : OpStage A) (new : Standing) → OpSteps o stage now new (Going on) → made + 1 < 255
      → CallFlies o from meddles (made + 1) on new
  flies_on on new s few =
      goes_on (OpEnds o Begun) (OpEnds o stage) (OpEnds o on) from now new meddles made f (steps_move o stage on now new s) few
      (λ plan r end ended rest. steps_then o stage on (standing_under plan made now) (standing_under plan (next_count made) new) end ended
      (steps_under o plan (plan_by Quiet meddles) made now r stage new (Going on) s) rest)

  flies_over : (new : Standing) (ended : OpResult A R) → OpSteps o stage now new (Over ended)
      → CallEndsUnder o from meddles (stop_behind (made + 1)) (standing_under (plan_behind meddles (made + 1)) (next_count made) new) ended
  flies_over new ended s =
      let plan : Plan = plan_behind meddles (made + 1) in
      let r = replans_behind now meddles made (made + 1) f.is_on f.planned f.few refl in
      f.joins plan (goes_as (stop_behind (made + 1)) meddles made (omega arith)) (standing_under plan (next_count made) new) ended
      (steps_over o stage (standing_under plan made now) (standing_under plan (next_count made) new) ended
      (steps_under o plan (plan_by Quiet meddles) made now r stage new (Over ended) s))

  -- it has done nothing yet: its next step may still fail without effect
  pub flies_failing : CallEndsUnder o from meddles (stop_behind made)
      (standing_after_step (act_of stage) (standing_under (plan_behind meddles made) made now))
      (Broken Failed (commits_at o stage))
  flies_failing =
      let plan : Plan = plan_behind meddles made in
      let last : Standing = standing_after_step (act_of stage) (standing_under plan made now) in
      f.joins plan (goes_as (stop_behind made) meddles made (omega arith)) last (Broken Failed (commits_at o stage))
      (steps_fail o stage (standing_under plan made now) last Failed (fails_next (act_of stage) now meddles made f.is_on f.few))

  flies_broken : (stop : Stop) (stopped new : Standing) (ended : OpResult A R) → stopped_step stop ≡ made + 1
      → stopped ≡ record now { plan = option_map (plan_with_stop stop) now.plan } → OpEnds o stage stopped new ended
      → CallEndsUnder o from meddles stop new ended
  flies_broken stop stopped new ended at is finishes =
      f.joins (plan_by stop meddles) (goes_as stop meddles made (later_than made (stopped_step stop) (made + 1) at refl)) new ended
      (subst (λ (s : Standing). OpEnds o stage s new ended) (stopped_under stop now stopped meddles made f.planned is) finishes)

-- in the words of the code

unbroken : {A R : Type 0} (ended : OpResult A R) → fault_of_step {A = A} {R = R} (Over ended) ≡ None → is_broken ended ≡ false
unbroken (Broken fault commits) e = let clash : Some fault ≡ None = e in absurd (cc)
unbroken _ e = refl

module _ {A R : Type 0} (o : OpMeaning A R) (writes : ℕ) (stage : OpStage A) (old mid : Standing) (step : StepResult A R)
    (s : OpSteps o stage old mid step) where
  pub going_on : writes ≤ 5 → (on : OpStage A) → step ≡ Going on → (from : Standing) (meddles : List Meddle) (made : ℕ)
      → CallFlies o from meddles made stage old → number_of writes stage ≡ made + 1 → FlightGoesOn o stage old from meddles made on mid
  going_on few on is from meddles made f number =
      let s' = subst (λ (x : StepResult A R). OpSteps o stage old mid x) is s in record {
        steps = s';
        flies = flies_on o from meddles made stage old f on mid s'
            (few_made (number_of writes stage) made (few_steps writes stage few) number);
      }

  pub is_over : (tells : Stop → OpResult A R → Result CallReport Memory → Type 0) (number : ℕ) (new : Standing) (ended : OpResult A R)
      (called result : Result CallReport Memory) → number ≡ number_of writes stage → step ≡ Over ended
      → SettlesPlan (stop_behind number) (is_broken ended) mid new → tells (stop_behind number) ended called → called ≡ result
      → (from : Standing) (meddles : List Meddle) (made : ℕ) → CallFlies o from meddles made stage old → number_of writes stage ≡ made + 1
      → IsOver o tells from meddles made new result
  is_over tells number new ended called result counts is settles told e from meddles made f n =
      let s' = subst (λ (x : StepResult A R). OpSteps o stage old mid x) is s in
      let settled = subst (λ (k : ℕ). SettlesPlan (stop_behind k) (is_broken ended) mid new) (counts ∙ n) settles in record {
        was = record {
          middle = standing_under (plan_behind meddles (made + 1)) (next_count made) mid;
          ended = ended;
          ends = flies_over o from meddles made stage old f mid ended s';
          settles = settled_under (stop_behind (made + 1)) (is_broken ended) (plan_behind meddles (made + 1))
              (next_count made) mid new settled;
          told = subst (λ (r : Result CallReport Memory). tells (stop_behind (made + 1)) ended r) e
              (subst (λ (k : ℕ). tells (stop_behind k) ended called) (counts ∙ n) told);
        };
        whole = unbroken ended (steps_faultless o stage old mid (Over ended) meddles made f.is_on f.planned s');
      }

never_ok : (memory : Memory) → IsOk {T = CallReport} (Err memory) → ⊥
never_ok memory ok = cc

module _ {A R : Type 0} (o : OpMeaning A R) (stage : OpStage A) (old stopped mid : Standing) (stop : Stop) (ended : OpResult A R)
    (is : stopped ≡ record old { plan = option_map (plan_with_stop stop) old.plan }) (finishes : OpEnds o stage stopped mid ended) where
  pub broken_off : (tells : Stop → OpResult A R → Result CallReport Memory → Type 0) (new : Standing) (called : Result CallReport Memory)
      (it : CallReport)
      → SettlesPlan stop (is_broken ended) mid new → tells stop ended called → called ≡ Ok it → FlightBreaksAs o tells stage old new stop it
  broken_off tells new called it settles told e = λ from meddles made f at. record {
    middle = mid;
    ended = ended;
    ends = flies_broken o from meddles made stage old f stop stopped mid ended at is finishes;
    settles = settles;
    told = subst (λ (r : Result CallReport Memory). tells stop ended r) e told;
  }

  is_cut_off : BreaksNext stop old → is_broken ended ≡ true
  is_cut_off breaks =
      finish_breaks o stage stopped mid ended (subst (λ (s : Standing). AlwaysFails s) (sym is) (always_fails stop old breaks)) finishes

  wants : (tells : Stop → OpResult A R → Result CallReport Memory → Type 0) (it : OpResult A R) (memory : Memory)
      → ((fault : StepFault) (commits : Option ℕ) (result : Result CallReport Memory) → tells stop (Broken fault commits) result
      → IsOk result)
      → is_broken it ≡ true → tells stop it (Err memory) → ⊥
  wants tells (Broken fault commits) memory law broken told = never_ok memory (law fault commits (Err memory) told)
  wants tells _ memory law broken told = absurd (cc)

  -- a call that was broken off wants no memory
  pub wants_none : (tells : Stop → OpResult A R → Result CallReport Memory → Type 0) (called : Result CallReport Memory) (memory : Memory)
      → ((fault : StepFault) (commits : Option ℕ) (result : Result CallReport Memory) → tells stop (Broken fault commits) result
      → IsOk result)
      → BreaksNext stop old → tells stop ended called → called ≡ Err memory → ⊥
  wants_none tells called memory law breaks told e =
      wants tells ended memory law (is_cut_off breaks) (subst (λ (r : Result CallReport Memory). tells stop ended r) e told)

-- What the next step of a call in flight, and one that breaks it off, come to by the call's event.

-- What is known of a kind of call, whose calls came to these events: what a whole call came to, what is told of one whose step failed
-- without effect, that another is told as something, and where a step leads.
record Knows {A R : Type 0} (kind : Kind A R) (tells : Stop → OpResult A R → Result CallReport Memory → Type 0) (i : Instance) (d : Digests)
    (from : Standing) (event : Stop → Outcome Digests) (issued : List (List ℕ)) (meddles : List Meddle) : Type 0 where
  pub comes : (stop : Stop) (new : Standing) (result : Result CallReport Memory) → WasPlanned kind.asked tells meddles stop from new result
      → MatchResult result (CallComesTo i (event stop) d.count issued from new) (λ _. HasRead i d meddles stop from new)
  pub fails : (made : ℕ) (commits : Option ℕ)
      → (it : CallReport) × tells (stop_behind made) (Broken Failed commits) (Ok it) × (is_nothing it.reply ≡ true)
  pub says : (stop : Stop) (new : Standing) (it : CallReport) (w : WasPlanned kind.asked tells meddles stop from new (Ok it))
      → is_broken w.ended ≡ false → is_nothing it.reply ≡ false
  pub stays : (stage on : OpStage A) (old new : Standing) → OpSteps kind.asked stage old new (Going on) → kind.CanStand stage
      → kind.CanStand on × (number_of kind.writes on ≡ number_of kind.writes stage + 1)

module _ {A R : Type 0} (kind : Kind A R) (tells : Stop → OpResult A R → Result CallReport Memory → Type 0) (i : Instance) (d : Digests)
    (from : Standing) (event : Stop → Outcome Digests) (issued : List (List ℕ)) (meddles : List Meddle)
    (knows : Knows kind tells i d from event issued meddles) where
  -- the call has come to nothing so far: its next step may still fail without effect
  nothing_yet : (stage : OpStage A) (now : Standing) (next : ℕ) → IsInFlight kind i d from stage now meddles next
      → is_nothing (event (Fail next false)).reply ≡ true
  nothing_yet stage now next f =
      let made = f.made in let stop = stop_behind made in
      let last : Standing = standing_after_step (act_of stage) (standing_under (plan_by stop meddles) made now) in
      let settled : Standing = record last { plan = Some quiet_plan } in
      let q = knows.fails made (commits_at kind.asked stage) in
      let was : WasPlanned kind.asked tells meddles stop from settled (Ok q.0) = record {
        middle = last;
        ended = Broken Failed (commits_at kind.asked stage);
        ends = flies_failing kind.asked from meddles made stage now f.flies;
        settles = settled_behind made last;
        told = q.1;
      } in
      let came = knows.comes stop settled (Ok q.0) was in
      let said : is_nothing (event stop).reply ≡ true = sym (ap (λ x. is_nothing x) came.reply) ∙ q.2 in
      subst (λ (k : ℕ). is_nothing (event (Fail k false)).reply ≡ true) (sym f.is_next) said

  module _ (stage : OpStage A) (old : Standing) (next : ℕ) (f : IsInFlight kind i d from stage old meddles next) (new : Standing) where
    step_comes : (result : Result (FlightOutcome A) Memory) → FlightStepsAs kind.asked tells kind.writes stage old new result
        → MayStepOn result new
        → StepComesTo kind i d from event issued meddles next new result
    step_comes (Ok (stepped.Going on)) steps may =
        let g = steps from meddles f.made f.flies f.number in
        let s = knows.stays stage on old new g.steps f.can_stand in
        let flight : IsInFlight kind i d from on new meddles (next + 1) = record {
          stands = f.stands;
          quiet = f.quiet;
          made = f.made + 1;
          flies = g.flies;
          room = may;
          can_stand = s.0;
          number = s.1 ∙ ap (λ (n : ℕ). n + 1) f.number;
          is_next = ap (λ (n : ℕ). n + 1) f.is_next;
        } in
        (flight, nothing_yet on new (next + 1) flight)
    step_comes (Ok (stepped.Over it)) steps may =
        let o = steps from meddles f.made f.flies f.number in
        let came = knows.comes (stop_behind (f.made + 1)) new (Ok it) o.was in
        let there : CallComesTo i (event (stop_behind (f.made + 1))) d.count issued from new it
        × (is_nothing (event (stop_behind (f.made + 1))).reply ≡ false) =
        (came, ap (λ x. is_nothing x) (sym came.reply) ∙ knows.says (stop_behind (f.made + 1)) new it o.was o.whole) in
        rw f.is_next there
    step_comes (Err memory) steps may =
        let o = steps from meddles f.made f.flies f.number in
        let came = knows.comes (stop_behind (f.made + 1)) new (Err memory) o.was in
        rw f.is_next came

    break_comes : (stop : Stop) (it : CallReport) → FlightBreaksAs kind.asked tells stage old new stop it → stopped_step stop ≡ next
        → CallComesTo i (event stop) d.count issued from new it
    break_comes stop it breaks at = knows.comes stop new (Ok it) (breaks from meddles f.made f.flies (at ∙ f.is_next))

-- a call that asks, and wasn't broken off, comes to something

abbrev says_nothing : Result CallReport Memory → Bool
says_nothing (Ok it) = is_nothing it.reply
says_nothing (Err memory) = false

refused_so : (why : Refusal) (it : CallReport) → IsRefusalResult why (Ok it) → is_nothing it.reply ≡ false
refused_so refusal.Memory it r = absurd (cc)
refused_so _ it r = ap says_nothing r

something : (stop : Stop) (size : ℕ) (ended : CallEnded) (it : CallReport) → call_broken ended ≡ false
    → IsCallResult stop size ended (Ok it)
    → is_nothing it.reply ≡ false
something stop size (ended.Answered answer) it whole told = ap says_nothing told
something stop size (ended.Refused why) it whole told = refused_so why it told
something stop size (ended.Broken fault commits) it whole told = absurd (cc)

module _ (variant : Variant) (meaning : Meaning) (key barrier : List ℕ) (d : Digests) (from : Standing) (issued : List (List ℕ))
    (meddles : List Meddle) (offer : Offer) (bytes : List ℕ) (b : Batch) where
  abbrev instance : Instance
  instance = instance_by variant meaning key barrier

  asks_know : is_long b ≡ false → offered_bytes issued offer ≡ Some bytes → HasDigests instance from d → IsQuiet from
      → Knows (ask_kind variant meaning bytes b) (TellsAsk b) instance d from (outcome_of_stopped_ask instance d issued meddles offer b)
      issued meddles
  asks_know short offered s q = record {
    comes = λ stop new result w.
        subst (λ (x : Option (List ℕ)). MatchResult result
        (CallComesTo instance (ask_event_outcome instance (digest_level instance) d issued meddles stop x b) d.count issued from new)
        (λ _. HasRead instance d meddles stop from new)) (sym offered)
        (asks_came from new meddles stop variant meaning bytes b result short w issued key barrier d s q);
    fails = λ made commits. (broken_call (stop_behind made) None (size_of b), refl, refl);
    says = λ stop new it w whole.
        something stop (size_of b) (end_of_machine w.ended) it
        (asks_broken variant meaning bytes b (standing_under (plan_by stop meddles) 0 from) w.middle w.ended w.ends ∙ whole) w.told;
    stays = λ stage on old new s is.
        (steps_stay meaning bytes b variant stage on old new s is, counts_by meaning bytes b variant stage on old new s is);
  }

module _ (variant : Variant) (meaning : Meaning) (bytes : List ℕ) (b : Batch) (short : is_long b ≡ false) (stage : OpStage BatchAnswer)
    (old new : Standing) where
  pub asks_stepped : (result : Result (FlightOutcome BatchAnswer) Memory)
      → FlightStepsAs (ask_operation variant meaning bytes b) (TellsAsk b) (write_step_of variant) stage old new result
      → MayStepOn result new
      → (key barrier : List ℕ) (d : Digests) (from : Standing) (issued : List (List ℕ)) (meddles : List Meddle) (next : ℕ) (offer : Offer)
      → IsInFlight (ask_kind variant meaning bytes b) (instance_by variant meaning key barrier) d from stage old meddles next
      → offered_bytes issued offer ≡ Some bytes
      → StepComesTo (ask_kind variant meaning bytes b) (instance_by variant meaning key barrier) d from
      (outcome_of_stopped_ask (instance_by variant meaning key barrier) d issued meddles offer b) issued meddles next new result
  asks_stepped result steps may key barrier d from issued meddles next offer f offered =
      let i = instance_by variant meaning key barrier in
      step_comes (ask_kind variant meaning bytes b) (TellsAsk b) i d from (outcome_of_stopped_ask i d issued meddles offer b) issued meddles
      (asks_know variant meaning key barrier d from issued meddles offer bytes b short offered f.stands f.quiet) stage old next f new result
      steps may

  pub asks_broken_off : (stop : Stop) (it : CallReport) → FlightBreaksAs (ask_operation variant meaning bytes b) (TellsAsk b)
      stage old new stop it
      → (key barrier : List ℕ) (d : Digests) (from : Standing) (issued : List (List ℕ)) (meddles : List Meddle) (next : ℕ) (offer : Offer)
      → IsInFlight (ask_kind variant meaning bytes b) (instance_by variant meaning key barrier) d from stage old meddles next
      → offered_bytes issued offer ≡ Some bytes → stopped_step stop ≡ next
      → (let i = instance_by variant meaning key barrier in
      CallComesTo i (outcome_of_stopped_ask i d issued meddles offer b stop) d.count issued from new it)
  asks_broken_off stop it breaks key barrier d from issued meddles next offer f offered at =
      let i = instance_by variant meaning key barrier in
      break_comes (ask_kind variant meaning bytes b) (TellsAsk b) i d from (outcome_of_stopped_ask i d issued meddles offer b) issued
      meddles
      (asks_know variant meaning key barrier d from issued meddles offer bytes b short offered f.stands f.quiet) stage old next f new stop
      it breaks at

-- a checkpoint that wasn't broken off comes to something

closing_something : (stop : Stop) (closed : Bool) (said : Result Checkpointed CheckpointRefusal) → has_closing_fault said ≡ false
    → is_nothing (checkpoint_reply stop closed said) ≡ false
closing_something stop closed (Err (closing_refusal.Device fault)) whole = let clash : true ≡ false = whole in absurd (cc)
closing_something stop closed (Ok checkpointed.Done) whole = refl
closing_something stop closed _ whole = refl

no_effect : (last : Bool) → (last && false) ≡ false
no_effect true = refl
no_effect false = refl

abbrev failing : ℕ → Option ℕ → CallReport
failing made commits =
    let stop = stop_behind made in
    quiet_call (checkpoint_reply stop (has_closed_segment stop (Broken Failed commits)) (Err (closing_refusal.Device Failed)))

closing_fails : (made : ℕ) (commits : Option ℕ) → is_nothing (failing made commits).reply ≡ true
closing_fails made commits = ap (λ (x : Bool). is_nothing (stopped_reply way.Fault x)) (no_effect (is_some commits))

module _ (variant : Variant) (meaning : Meaning) (key barrier : List ℕ) (d : Digests) (from : Standing) (issued : List (List ℕ))
    (meddles : List Meddle) where
  abbrev its : Instance
  its = instance_by variant meaning key barrier

  abbrev ClosingComes : Stop → Standing → Result CallReport Memory → Type 0
  ClosingComes stop new result = MatchResult result (CallComesTo its (outcome_of_stopped_closing its d issued meddles stop)
      d.count issued from new)
      (λ _. HasRead its d meddles stop from new)

  closes_know : HasDigests its from d → IsQuiet from
      → Knows checkpoint_kind TellsCheckpoint its d from (outcome_of_stopped_closing its d issued meddles) issued meddles
  closes_know s q = record {
    comes = λ stop new result w.
        subst (λ (r : Result CallReport Memory). ClosingComes stop new r) (sym w.told)
        (closes_came from new meddles stop variant meaning result w issued key barrier d s q);
    fails = λ made commits. (failing made commits, refl, closing_fails made commits);
    says = λ stop new it w whole.
        let same : it ≡ quiet_call (checkpoint_reply stop (has_closed_segment stop w.ended) (result_of_end w.ended)) = cc in
        ap (λ (x : CallReport). is_nothing x.reply) same
        ∙ closing_something stop (has_closed_segment stop w.ended) (result_of_end w.ended)
        (closes_broken (standing_under (plan_by stop meddles) 0 from) w.middle w.ended w.ends ∙ whole);
    stays = λ stage on old new steps is.
        let goes = closing_steps_as stage old new (Going on) is steps in (goes.closes, goes.counts);
  }

module _ (stage : OpStage Checkpointed) (old new : Standing) where
  pub closes_stepped : (result : Result (FlightOutcome Checkpointed) Memory) → FlightStepsAs closing_operation TellsCheckpoint 3
      stage old new result
      → MayStepOn result new
      → (variant : Variant) (meaning : Meaning) (key barrier : List ℕ) (d : Digests) (from : Standing) (issued : List (List ℕ))
      (meddles : List Meddle) (next : ℕ)
      → IsInFlight checkpoint_kind (instance_by variant meaning key barrier) d from stage old meddles next
      → StepComesTo checkpoint_kind (instance_by variant meaning key barrier) d from
      (outcome_of_stopped_closing (instance_by variant meaning key barrier) d issued meddles) issued meddles next new result
  closes_stepped result steps may variant meaning key barrier d from issued meddles next f =
      let i = instance_by variant meaning key barrier in
      step_comes checkpoint_kind TellsCheckpoint i d from (outcome_of_stopped_closing i d issued meddles) issued meddles
      (closes_know variant meaning key barrier d from issued meddles f.stands f.quiet) stage old next f new result steps may

  pub closes_broken_off : (stop : Stop) (it : CallReport) → FlightBreaksAs closing_operation TellsCheckpoint stage old new stop it
      → (variant : Variant) (meaning : Meaning) (key barrier : List ℕ) (d : Digests) (from : Standing) (issued : List (List ℕ))
      (meddles : List Meddle) (next : ℕ)
      → IsInFlight checkpoint_kind (instance_by variant meaning key barrier) d from stage old meddles next → stopped_step stop ≡ next
      → (let i = instance_by variant meaning key barrier in CallComesTo i (outcome_of_stopped_closing i d issued meddles stop) d.count
      issued from new it)
  closes_broken_off stop it breaks variant meaning key barrier d from issued meddles next f at =
      let i = instance_by variant meaning key barrier in
      break_comes checkpoint_kind TellsCheckpoint i d from (outcome_of_stopped_closing i d issued meddles) issued meddles
      (closes_know variant meaning key barrier d from issued meddles f.stands f.quiet) stage old next f new stop it breaks at
