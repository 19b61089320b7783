-- A call by lists, step by step.
use Rattle.mm_expect.proofs.Below.{◌≡◌, ℕ, ◌+◌, ◌≤◌, Bool, true, false, List, [], ◌∷◌, ◌++◌, map, Option, None, Some, Result, Ok, Err, refl}
use Rattle.mm_expect.proofs.Below.{sym, ap, ◌∙◌, subst, arith, if◌then◌else◌, nat_eq, append-nil, last_position, Variant, Basic, Opt}
use Rattle.mm_expect.proofs.Below.{StepFault, Meddle, Stop, Batch, size_of, Instance, History, Move, Commit, Foreign, total_of, is_last}
use Rattle.mm_expect.proofs.Below.{DeviceStep, Reads, ask_steps, Refusal, is_last_of, total-push, answer_on, list_level, state_after_moves}
use Rattle.mm_expect.proofs.Below.{CallFinding, finding_at, finding_unless_wanting, is_fresh, End, Done, Fails, StepFate, StepsWalk}
use Rattle.mm_expect.proofs.Below.{walk_from_step, walk, moves_seen, has_commit, fate_by_plan, Answers, Breaks, CallOutcome, reading_steps}
use Rattle.mm_expect.proofs.Below.{position_of, call_ending_by, call_outcome, state_seen, position_if_committed, call_outcome_with}
use Rattle.mm_expect.proofs.Below.{AskResult, Answered, Refused, Broken, committed_batches, same_batches, more_batches, Commits, nothing, batch}
use Rattle.mm_expect.proofs.Below.{finished_walk, commits-none, writing_commits, commits_batch, seen_none, reading_none, course_of, plan_of}
use Rattle.mm_expect.proofs.Below.{ChronicleView, ChronicleGoes, chronicle_instance, instance_with, ChronicleWalks, repeat_in, AdmitsBatch}
use Rattle.mm_expect.proofs.Below.{changing_steps, first_changing_step, changes_on, ChronicleChanges, ending_of, new_ending, NewCallGoesOn}
use Rattle.mm_expect.proofs.Below.{ChronicleCalls, Content}
use Rattle.mm_expect.specs.ExpectedState.{right_offer}
use Rattle.mm_module.specs.RunLaws.{size_of-pos}
use Rattle.mm_call.specs.WalkLaws as walks
use Rattle.mm_call.specs.WalkLaws.{foreign_made, history_with_values}
use Rattle.std.proofs.lemmas.Bool.Decides.{nat_tests}
use Rattle.std.specs.Prelude.{length}
use Rattle.mm_expect.proofs.Settling.{broken_walked, then_walked, walks_then}

-- what the steps of a new batch commit

changing_commits : (fates : ℕ → StepFate) (variant : Variant) (flag : Bool) (b : Batch)
    → Commits b true (walk fates (first_changing_step variant) (changing_steps variant flag b))
changing_commits fates Basic flag b = writing_commits fates b
changing_commits fates Opt true b = walks.changing_commits fates true true b
changing_commits fates Opt false b = walks.changing_commits fates false true b

commits-append : (xs ys : List Move) → committed_batches xs ≡ [] → has_commit (xs ++ ys) ≡ has_commit ys
commits-append [] ys e = refl
commits-append (Commit c ∷ xs) ys e = cc
commits-append (_ ∷ xs) ys e = commits-append xs ys e

module _ (old new : ChronicleView) (stop : Stop) (meddles : List Meddle) (b : Batch) where
  abbrev changes : StepsWalk
  changes = changes_on old stop meddles b

  commits_one : Commits b true changes
  commits_one = changing_commits (fate_by_plan (plan_of stop meddles)) old.variant old.history.is_open b

  -- the batches once a new batch was walked through
  whole_batches : Commits b true changes → ChronicleChanges old new stop meddles b None → new.history.batches ≡ old.history.batches ++ b
      ∷ []
  whole_batches (nothing none unless) w = let no : true ≡ false = unless (sym w.broken) in cc
  whole_batches (batch one is) w =
      ap (λ (y : History). y.batches) w.went.history ∙ more_batches (chronicle_instance old) changes.moves old.history b one

  pub new_last : ChronicleChanges old new stop meddles b None → is_last new.history.batches b ≡ true
  new_last w = ap (λ (bs : List Batch). is_last bs b) (whole_batches commits_one w) ∙ is_last_of old.history.batches b

  pub new_few : ChronicleChanges old new stop meddles b None → AdmitsBatch old.history b false → total_of new.history.batches
      ≤ last_position
  new_few w admits = omega (arith, admits.fits, ap total_of (whole_batches commits_one w), total-push old.history.batches b)

  abbrev pub KeptBy : Option ℕ → Type 0
  KeptBy kept =
      kept ≡ (if nat_eq (total_of new.history.batches) (total_of old.history.batches) then None else Some (total_of new.history.batches))

  -- whether the total rose tells whether the batch was committed
  kept_by : Commits b true changes → ChronicleGoes old new changes.moves
      → KeptBy (position_if_committed (has_commit changes.moves) (total_of new.history.batches))
  kept_by (nothing none unless) went =
      let same : total_of new.history.batches ≡ total_of old.history.batches = ap (λ (y : History). total_of y.batches) went.history
      ∙ ap total_of (same_batches (chronicle_instance old) changes.moves old.history none) in
      rw (commits-none changes.moves none) (grind (arith, nat_tests, same))
  kept_by (batch one is) went =
      let more : total_of new.history.batches ≡ total_of old.history.batches + size_of b =
      ap (λ (y : History). total_of y.batches) went.history
      ∙ ap total_of (more_batches (chronicle_instance old) changes.moves old.history b one) ∙ total-push old.history.batches b in
      rw (commits_batch changes.moves b one) (grind (arith, nat_tests, more, size_of-pos b))

  pub new_broken : (fault : StepFault) (kept : Option ℕ) → ChronicleChanges old new stop meddles b (Some fault) → KeptBy kept
      → NewCallGoesOn old new stop meddles b (Broken fault kept)
  new_broken fault kept w is = record {
    went = w.went;
    ends = ap (Breaks fault) (is ∙ sym (kept_by commits_one w.went)) ∙ ap (new_ending new b changes.moves) w.broken;
  }

-- the reading steps, and those behind them

after_seen : (values : List (List ℕ)) (ends : End) (r : StepsWalk) (xs : List Move) → (walk_from_step Reads values ends r).broken ≡ None
    → (r.broken ≡ None → r.moves ≡ xs) → (walk_from_step Reads values ends r).moves ≡ map Foreign values ++ xs
after_seen values Done r xs e same = ap (λ v. map Foreign values ++ v) (same e)
after_seen values (Fails f made) r xs e same = cc

pub read_seen : (fates : ℕ → StepFate) (variant : Variant) → (walk fates 1 (reading_steps variant)).broken ≡ None
    → (walk fates 1 (reading_steps variant)).moves ≡ moves_seen fates (reading_steps variant) 1
read_seen fates Basic e = after_seen (fates 1).brings (fates 1).ends finished_walk [] e (λ w. refl)
read_seen fates Opt e = after_seen (fates 1).brings (fates 1).ends (walk_from_step Reads (fates 2).brings (fates 2).ends finished_walk)
    (map Foreign (fates 2).brings ++ []) e (λ f. after_seen (fates 2).brings (fates 2).ends finished_walk [] f (λ w. refl))

ask_reading : (variant : Variant) (is_open : Bool) (b : Batch) → ask_steps variant is_open false b ≡ reading_steps variant
ask_reading Basic is_open b = refl
ask_reading Opt is_open b = refl

ask_changing : (variant : Variant) (is_open : Bool) (b : Batch)
    → ask_steps variant is_open true b ≡ reading_steps variant ++ changing_steps variant is_open b
ask_changing Basic is_open b = refl
ask_changing Opt true b = refl
ask_changing Opt false b = refl

-- in either case they begin with the reading ones
ask_some : (variant : Variant) (is_open fresh : Bool) (b : Batch)
    → (rest : List DeviceStep) × (ask_steps variant is_open fresh b ≡ reading_steps variant ++ rest)
ask_some variant is_open true b = (changing_steps variant is_open b, ask_changing variant is_open b)
ask_some variant is_open false b = ([], ask_reading variant is_open b ∙ sym (append-nil (reading_steps variant)))

changing_behind : (variant : Variant) → first_changing_step variant ≡ 1 + length (reading_steps variant)
changing_behind Basic = refl
changing_behind Opt = refl

unlack : (found : Result CallFinding Refusal) → finding_unless_wanting found false ≡ found
unlack (Ok f) = refl
unlack (Err why) = refl

again_err : (x : Result CallFinding Refusal) (why : Refusal) → Err why ≡ repeat_in x → x ≡ Err why
again_err (Ok f) why e = cc
again_err (Err w) why e = let same : why ≡ w = cc in ap (λ (v : Refusal). Err v) (sym same)

again_ok : (x : Result CallFinding Refusal) (again : Bool) → Ok again ≡ repeat_in x → (f : CallFinding) × (x ≡ Ok f) × (f.again ≡ again)
again_ok (Ok f) again e = let same : again ≡ f.again = cc in (f, refl, sym same)
again_ok (Err w) again e = cc

module _ (a : ChronicleView) (stop : Stop) (meddles : List Meddle) (bytes : List ℕ) (b : Batch) where
  abbrev at : Instance
  at = chronicle_instance a

  abbrev fates : ℕ → StepFate
  fates = fate_by_plan (plan_of stop meddles)

  abbrev reading : StepsWalk
  reading = walk fates 1 (reading_steps a.variant)

  abbrev seen : History
  seen = state_seen at (list_level at) a.history (course_of stop meddles)

  abbrev found : Result CallFinding Refusal
  found = finding_at at (list_level at) seen b bytes

  abbrev steps_for : Result CallFinding Refusal → List DeviceStep
  steps_for f = ask_steps a.variant a.history.is_open (is_fresh f) b

  abbrev all : CallOutcome History
  all = call_outcome at (list_level at) a.history (course_of stop meddles) bytes b

  -- by the walk of its steps, and what was found
  calls_by : (n : ChronicleView) (ended : AskResult) (f : Result CallFinding Refusal) {broken : Option StepFault}
      → finding_unless_wanting found false ≡ f
      → ChronicleWalks a n (walk fates 1 (steps_for f)) broken
      → ending_of ended ≡ call_ending_by (list_level at) seen n.history b f (walk fates 1 (steps_for f)).moves broken
      → ChronicleCalls a n all ended
  calls_by n ended f is w ends =
      let C : Result CallFinding Refusal
      → Type 0 = λ g. ChronicleCalls a n (call_outcome_with at (list_level at) a.history seen (course_of stop meddles) b g) ended in
      subst C (sym is) (record {
        went = w.went;
        ends = ends ∙ (λ j. call_ending_by (list_level at) seen (w.went.history j) b f (walk fates 1 (steps_for f)).moves (w.broken j));
      })

  reading_commits : has_commit reading.moves ≡ false
  reading_commits = commits-none reading.moves (reading_none a.variant fates)

  pub ask_broken : (n : ChronicleView) (fault : StepFault) → ChronicleWalks a n reading (Some fault)
      → ChronicleCalls a n all (Broken fault None)
  ask_broken n fault w =
      let f = finding_unless_wanting found false in
      let some = ask_some a.variant a.history.is_open (is_fresh f) b in
      let same : walk fates 1 (steps_for f) ≡ reading = ap (walk fates 1) some.1
      ∙ broken_walked fates 1 (reading_steps a.variant) some.0 fault (sym w.broken) in
      calls_by n (Broken fault None) f refl (subst (λ (v : StepsWalk). ChronicleWalks a n v (Some fault)) (sym same) w)
      (ap (λ (k : Bool). Breaks fault (position_if_committed k (position_of (list_level at) seen n.history b f)))
      (sym (ap (λ (v : StepsWalk). has_commit v.moves) same ∙ reading_commits)))

  -- where the chronicle stands behind the reading steps is what the call sees
  stands : (n : ChronicleView) → ChronicleWalks a n reading None → n.history ≡ seen
  stands n w = w.went.history ∙ ap (state_after_moves (list_level at) a.history) (read_seen fates a.variant (sym w.broken))

  found_there : (n : ChronicleView) → ChronicleWalks a n reading None
      → finding_at (chronicle_instance n) (list_level (chronicle_instance n)) n.history b bytes ≡ found
  found_there n w =
      let same : chronicle_instance n ≡ at = λ j. instance_with (w.went.variant j) (w.went.«module» j) in
      λ j. finding_at (same j) (list_level (same j)) (stands n w j) b bytes

  -- what an offer says doesn't change by what is read
  pub told_there : (n : ChronicleView) (told : Result Content Refusal) → ChronicleWalks a n reading None → told ≡ right_offer at bytes
      → told ≡ right_offer (chronicle_instance n) bytes
  told_there n told w e = e ∙ (λ j. right_offer (instance_with (sym w.went.variant j) (sym w.went.«module» j)) bytes)

  pub ask_refused : (n : ChronicleView) (why : Refusal) → ChronicleWalks a n reading None
      → Err why ≡ repeat_in (finding_at (chronicle_instance n) (list_level (chronicle_instance n)) n.history b bytes)
      → ChronicleCalls a n all (Refused why)
  ask_refused n why w e = calls_by n (Refused why) (Err why) (unlack found ∙ again_err found why (e ∙ ap repeat_in (found_there n w)))
      (subst (λ (s : List DeviceStep). ChronicleWalks a n (walk fates 1 s) None) (sym (ask_reading a.variant a.history.is_open b)) w) refl

  pub ask_again : (n : ChronicleView) → ChronicleWalks a n reading None
      → Ok true ≡ repeat_in (finding_at (chronicle_instance n) (list_level (chronicle_instance n)) n.history b bytes)
      → (ended : AskResult) → ended ≡ Answered (answer_on (chronicle_instance n) n.history b true) → ChronicleCalls a n all ended
  ask_again n w e ended is =
      let f = again_ok found true (e ∙ ap repeat_in (found_there n w)) in
      let steps : steps_for (Ok f.0) ≡ reading_steps a.variant =
      ap (λ (k : Bool). ask_steps a.variant a.history.is_open (if k then false else true) b) f.2
      ∙ ask_reading a.variant a.history.is_open b in
      calls_by n ended (Ok f.0) (unlack found ∙ f.1)
      (subst (λ (s : List DeviceStep). ChronicleWalks a n (walk fates 1 s) None) (sym steps) w) (ap ending_of is
      ∙ (λ j. Answers (answer_on (instance_with (w.went.variant j) (w.went.«module» j)) n.history b (sym f.2 j))))

  -- what is read leaves a segment open or shut
  open_seen : (steps : List DeviceStep) (n : ℕ) (y : History) → (state_after_moves (list_level at) y (moves_seen fates steps n)).is_open
      ≡ y.is_open
  open_seen [] n y = refl
  open_seen (step ∷ steps) n y = ap (λ (h : History). h.is_open) (foreign_made at (fates n).brings (moves_seen fates steps (n + 1)) y)
      ∙ open_seen steps (n + 1) (history_with_values y (fates n).brings)

  -- the ending of a new batch, behind the reading steps
  ends_new : (m : ChronicleView) (f : CallFinding) (moves all : List Move) (broken : Option StepFault) → f.again ≡ false
      → chronicle_instance m ≡ at
      → has_commit moves ≡ has_commit all
      → new_ending m b moves broken ≡ call_ending_by (list_level at) seen m.history b (Ok f) all broken
  ends_new m f moves all None new same commit = λ j. Answers (answer_on (same j) m.history b (sym new j))
  ends_new m f moves all (Some fault) new same commit = λ j. Breaks fault (position_if_committed (commit j) (total_of m.history.batches))

  pub ask_new : (n m : ChronicleView) → ChronicleWalks a n reading None
      → Ok false ≡ repeat_in (finding_at (chronicle_instance n) (list_level (chronicle_instance n)) n.history b bytes)
      → (ended : AskResult) → NewCallGoesOn n m stop meddles b ended → ChronicleCalls a m all ended
  ask_new n m w e ended goes =
      let f = again_ok found false (e ∙ ap repeat_in (found_there n w)) in
      let changing : List DeviceStep = changing_steps a.variant a.history.is_open b in
      let more : StepsWalk = walk fates (first_changing_step a.variant) changing in
      let opens : n.history.is_open ≡ a.history.is_open =
      ap (λ (y : History). y.is_open) (stands n w) ∙ open_seen (reading_steps a.variant) 1 a.history in
      let same : changes_on n stop meddles b ≡ more =
      (λ j. walk fates (first_changing_step (w.went.variant j)) (changing_steps (w.went.variant j) (opens j) b)) in
      let went : ChronicleWalks n m more more.broken =
      record { went = subst (λ (v : StepsWalk). ChronicleGoes n m v.moves) same goes.went; broken = refl } in
      let steps : reading_steps a.variant ++ changing ≡ steps_for (Ok f.0) = sym (ask_changing a.variant a.history.is_open b)
      ∙ ap (λ (k : Bool). ask_steps a.variant a.history.is_open (if k then false else true) b) (sym f.2) in
      let t = then_walked fates 1 (first_changing_step a.variant) (reading_steps a.variant) changing (changing_behind a.variant)
      (sym w.broken) in
      let whole : ChronicleWalks a m (walk fates 1 (steps_for (Ok f.0))) more.broken =
      subst (λ (s : List DeviceStep). ChronicleWalks a m (walk fates 1 s) more.broken) steps
      (walks_then fates 1 (first_changing_step a.variant) (reading_steps a.variant) changing (changing_behind a.variant) w went) in
      let commit : has_commit more.moves ≡ has_commit (walk fates 1 (steps_for (Ok f.0))).moves =
      sym (commits-append reading.moves more.moves (reading_none a.variant fates)) ∙ ap has_commit (sym t.moves)
      ∙ ap (λ (s : List DeviceStep). has_commit (walk fates 1 s).moves) steps in
      calls_by m ended (Ok f.0) (unlack found ∙ f.1) whole (goes.ends ∙ ap (λ (v : StepsWalk). new_ending m b v.moves v.broken) same
      ∙ ends_new m f.0 more.moves (walk fates 1 (steps_for (Ok f.0))).moves more.broken f.2
      (λ j. instance_with (whole.went.variant j) (whole.went.«module» j)) commit)

pub unbroken : (fault : Option StepFault) → ((f : StepFault) → fault ≡ Some f → ⊥) → fault ≡ None
unbroken None h = refl
unbroken (Some f) h = absurd (h f refl)

-- what others put into the register commits nothing
pub foreign_batches : (i : Instance) (fates : ℕ → StepFate) (steps : List DeviceStep) (n : ℕ) (y : History)
    → (state_after_moves (list_level i) y (moves_seen fates steps n)).batches ≡ y.batches
foreign_batches i fates steps n y = same_batches i (moves_seen fates steps n) y (seen_none fates steps n)
