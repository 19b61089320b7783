-- A stop says nothing of the steps before it; and what its step comes to. With it: how a call in
-- flight begins, and takes in a value of others.
use Rattle.std.proofs.lemmas.Bool.{ne_eqb}
use Rattle.std.proofs.lemmas.Bool.Decides.{nat_tests}
use Rattle.mm_digest.specs.declared.digest.Digest.{Digest}
use Rattle.mm_platform.specs.CallLaws.{goes}
use Rattle.mm_platform.specs.Standing.{Act, StepGoes, fault_at}
use Rattle.mm_model.specs.Chains.{Instance}
use Rattle.mm_ask.proofs.Above.{begun_stage}
use Rattle.mm_steps.proofs.Below.{◌≡◌, ℕ, ◌+◌, ◌<◌, ◌≤◌, Bool, true, false, List, Option, None, Some, refl, sym, ap, ◌∙◌, arith, ◌==◌}
use Rattle.mm_steps.proofs.Below.{is_some, option_map, next_count, StepFault, Failed, Meddle, Stop, Quiet, Cut, Drop, Fail, Plan, Standing}
use Rattle.mm_steps.proofs.Below.{next_step, plan_with_stop, standing_after_step, plan_by, standing_under, PlansAgreeAt, PlanAgreesWith}
use Rattle.mm_steps.proofs.Below.{AlwaysFails, counted_few, Replans, stopped_step, SettlesPlan, BreaksNext, stop_behind, replans}
use Rattle.mm_steps.proofs.Below.{quiet_plan, plan_behind, [], subst, Variant, plan_with_meddle, next_plan, Meaning, Batch, Digests}
use Rattle.mm_steps.proofs.Below.{instance_by, OpEnds, OpStage, Begun, begins, takes_in, meddled, MayGoOn, HasDigests, IsQuiet, ask_kind}
use Rattle.mm_steps.proofs.Below.{checkpoint_kind, IsInFlight, Kind}

same_at : (stop : Stop) (meddles : List Meddle) (n : ℕ) → (stopped_step stop ≡ n → ⊥)
    → PlansAgreeAt (plan_by stop meddles) (plan_by Quiet meddles) n
same_at Quiet meddles n other = record { brings = refl; answers = refl; makes = refl; stays = refl }
same_at (Cut at) meddles n other =
    let e = ne_eqb at n other in record { brings = refl; answers = rw e refl; makes = refl; stays = rw e refl }
same_at (Drop at) meddles n other =
    let e = ne_eqb at n other in record { brings = refl; answers = rw e refl; makes = refl; stays = refl }
same_at (Fail at done) meddles n other =
    let e = ne_eqb at n other in record { brings = refl; answers = rw e refl; makes = rw e refl; stays = refl }

earlier : (stop n made : ℕ) → made < stop → n ≤ made → stop ≡ n → ⊥
earlier stop n made later few e = omega arith

-- such a stop leaves the steps that were made as they were
pub goes_as : (stop : Stop) (meddles : List Meddle) (made : ℕ) → made < stopped_step stop
    → PlanAgreesWith (plan_by stop meddles) meddles made
goes_as stop meddles made later = λ n few. same_at stop meddles n (earlier (stopped_step stop) n made later few)

-- and the next one too, where it comes behind that
pub same_next : (meddles : List Meddle) (made : ℕ) → PlansAgreeAt (plan_by (stop_behind (made + 1)) meddles)
    (plan_by Quiet meddles) (made + 1)
same_next meddles made = same_at (stop_behind (made + 1)) meddles (made + 1)
    (earlier (made + 1 + 1) (made + 1) (made + 1) (omega arith) (omega arith))

-- the next step fails, and has no effect

same_numbers : (n k : ℕ) → n ≡ k → (n == k) ≡ true
same_numbers n k e = grind (arith, nat_tests)

pub fails_next : (act : Act) (now : Standing) (meddles : List Meddle) (made : ℕ) → now.is_on ≡ true → made < 255
    → (let at = standing_under (plan_by (stop_behind made) meddles) made now in StepGoes act at (standing_after_step act at) (Some Failed))
fails_next act now meddles made on few =
    let at = standing_under (plan_by (stop_behind made) meddles) made now in
    let here = same_numbers (made + 1) (next_count made) (sym (counted_few made few)) in
    goes act at (standing_after_step act at) (Some Failed) refl (rw (on, here) refl)

-- a platform whose next step fails by this stop

none_fails : (stop : Stop) (n : ℕ) → fault_at stop n ≡ None → is_some (fault_at stop n) ≡ true → ⊥
none_fails stop n none some = let clash : false ≡ true = sym (ap (λ (f : Option StepFault). is_some f) none) ∙ some in cc

pub always_fails : (stop : Stop) (old : Standing) → BreaksNext stop old
    → AlwaysFails (record old { plan = option_map (plan_with_stop stop) old.plan })
always_fails stop old b = λ act new fault g none.
    let plan : Plan = plan_with_stop stop b.plan in
    let planned : option_map (plan_with_stop stop) old.plan ≡ Some plan =
    ap (λ (p : Option Plan). option_map (plan_with_stop stop) p) b.planned in
    let known : fault ≡ fault_at plan.stop (next_step plan) = rw b.is_on at (g.told plan planned).answers in
    none_fails stop (next_step b.plan) (sym known ∙ none) b.fails

-- a stop at the next step breaks it off

quiet_never : (n : ℕ) → 0 ≡ n → 0 < n → ⊥
quiet_never n e positive = omega arith

fails_at : (stop : Stop) (n : ℕ) → stopped_step stop ≡ n → 0 < n → is_some (fault_at stop n) ≡ true
fails_at Quiet n e positive = absurd (quiet_never n e positive)
fails_at (Cut at) n e positive = rw (same_numbers at n e) refl
fails_at (Drop at) n e positive = rw (same_numbers at n e) refl
fails_at (Fail at done) n e positive = rw (same_numbers at n e) refl

next_number : (stop next made count : ℕ) → stop ≡ next → next ≡ made + 1 → count ≡ made + 1 → stop ≡ count
next_number stop next made count at is counts = omega arith

pub breaks_at : (stop : Stop) (now : Standing) (meddles : List Meddle) (made next : ℕ) → now.is_on ≡ true
    → now.plan ≡ Some (record (plan_by Quiet meddles) { at = made }) → made < 255 → stopped_step stop ≡ next → next ≡ made + 1
    → BreaksNext stop now
breaks_at stop now meddles made next on planned few at is =
    let counts : next_count made ≡ made + 1 = counted_few made few in record {
      plan = record (plan_by Quiet meddles) { at = made };
      is_on = on;
      planned = planned;
      fails = fails_at stop (next_count made) (next_number (stopped_step stop) next made (next_count made) at is counts) (omega arith);
    }

pub replans_behind : (now : Standing) (meddles : List Meddle) (made next : ℕ) → now.is_on ≡ true
    → now.plan ≡ Some (record (plan_by Quiet meddles) { at = made }) → made < 255 → next ≡ made + 1
    → Replans (plan_behind meddles next) (plan_by Quiet meddles) made now
replans_behind now meddles made next on planned few is =
    rw is (replans (plan_behind meddles (made + 1)) now meddles made on planned few (same_next meddles made))

pub settled_under : (stop : Stop) (broken : Bool) (plan : Plan) (at : ℕ) (mid new : Standing) → SettlesPlan stop broken mid new
    → SettlesPlan stop broken (standing_under plan at mid) new
settled_under stop broken plan at mid new s = record {
  cell = s.cell;
  items = s.items;
  is_on = s.is_on;
  plan = s.plan;
  steps = s.steps;
  writes = s.writes;
}

-- a step that failed without effect, and its plan over
pub settled_behind : (made : ℕ) (last : Standing) → SettlesPlan (stop_behind made) true last (record last { plan = Some quiet_plan })
settled_behind made last = record { cell = refl; items = refl; is_on = refl; plan = refl; steps = refl; writes = refl }

-- few steps were made where the next one has a low number
pub fewer : (on call made : ℕ) → on ≤ 5 → on ≡ call + 1 → call ≡ made + 1 → made + 1 < 255
fewer on call made few counts number = omega arith

pub later_than : (made stop next : ℕ) → stop ≡ next → next ≡ made + 1 → made < stop
later_than made stop next at is = omega arith

-- a platform that is stopped at its next step
pub stopped_under : (stop : Stop) (now stopped : Standing) (meddles : List Meddle) (made : ℕ)
    → now.plan ≡ Some (record (plan_by Quiet meddles) { at = made })
    → stopped ≡ record now { plan = option_map (plan_with_stop stop) now.plan }
    → stopped ≡ standing_under (plan_by stop meddles) made now
stopped_under stop now stopped meddles made planned is =
    is ∙ ap (λ (p : Option Plan). record now { plan = option_map (plan_with_stop stop) p }) planned

-- How a call in flight begins, and takes in a value of others.

module _ {A R : Type 0} (kind : Kind A R) (i : Instance) (d : Digests) (from : Standing) where
  -- a call that was just begun over a quiet platform
  flight_begun : HasDigests i from d → IsQuiet from → kind.CanStand Begun → IsInFlight kind i d from Begun from [] 1
  flight_begun s q may = record {
    stands = s;
    quiet = q;
    made = 0;
    flies = begins (OpEnds kind.asked Begun) (OpEnds kind.asked Begun) from q.is_on q.plan (λ old new ended f. f);
    room = tt;
    can_stand = may;
    number = refl;
    is_next = refl;
  }

  -- others extend the register by a value just before the next step
  pub flight_takes_in : (stage : OpStage A) (now new : Standing) (meddles : List Meddle) (next : ℕ) (value : Digest)
      → IsInFlight kind i d from stage now meddles next → new ≡ record now { plan = option_map (plan_with_meddle value) now.plan }
      → MayGoOn stage new → IsInFlight kind i d from stage new (meddled meddles next value) next
  flight_takes_in stage now new meddles next value f e may =
      subst (λ (k : ℕ). IsInFlight kind i d from stage new (meddled meddles k value) k) (sym f.is_next) (record {
        stands = f.stands;
        quiet = f.quiet;
        made = f.made;
        flies = takes_in (OpEnds kind.asked Begun) (OpEnds kind.asked stage) from now new meddles f.made value f.flies e;
        room = may;
        can_stand = f.can_stand;
        number = f.number;
        is_next = refl;
      })

module _ (variant : Variant) (meaning : Meaning) (key barrier : List ℕ) (d : Digests) (from : Standing)
    (s : HasDigests (instance_by variant meaning key barrier) from d) (q : IsQuiet from) where
  pub asks_begun : (bytes : List ℕ) (b : Batch)
      → IsInFlight (ask_kind variant meaning bytes b) (instance_by variant meaning key barrier) d from Begun from [] 1
  asks_begun bytes b =
      flight_begun (ask_kind variant meaning bytes b) (instance_by variant meaning key barrier) d from s q (begun_stage variant)

  pub closes_begun : IsInFlight checkpoint_kind (instance_by variant meaning key barrier) d from Begun from [] 1
  closes_begun = flight_begun checkpoint_kind (instance_by variant meaning key barrier) d from s q tt

-- there is a next step to plan such a value for
pub may_take_in : (now : Standing) (plan : Plan) (at : ℕ) → now.plan ≡ Some (record plan { at = at }) → at < 255 → (next_plan now).at < 255
may_take_in now plan at known few = rw known few
