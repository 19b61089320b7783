-- What the fields of a chronicle keep goes on with its moves. With it: a chronicle goes on by
-- moves, one after another.
use Rattle.std.proofs.lemmas.Bool.{false_from_ne_true}
use Rattle.std.proofs.lemmas.Bool.Decides.{nat_tests}
use Rattle.std.proofs.lemmas.List.Folds.{list_any-append}
use Rattle.mm_module.specs.Meaning.{state_from}
use Rattle.mm_model.specs.FormLaws.{reads_zero}
use Rattle.mm_model.specs.History.{RegisterEntry}
use Rattle.mm_history.specs.MarkLaws.{ways_on, ways_still, marks_value, marks_emptied, marks_shut, marks_linked, marks_grown, marks_opened}
use Rattle.mm_history.specs.Naming.{AreWaymarks, EndsWithCurrent}
use Rattle.mm_history.specs.declared.waymarks.Waymarks.{Waymarks}
use Rattle.mm_expect.specs.ChronicleView.{IsKept, IsSettled}
use Rattle.mm_expect.specs.declared.course.ChronicleMove as code
use Rattle.mm_expect.specs.declared.course.ChronicleStep as code_step
use Rattle.mm_expect.specs.declared.course.ChronicleStep.TheVariants.{Changes}
use Rattle.mm_expect.specs.ExpectedState.{messages_if, messages_where}
use Rattle.mm_expect.proofs.Below.{◌≡◌, ◌≤◌, ℕ, Bool, true, false, List, [], ◌∷◌, ◌++◌, length, sym, ap, ◌∙◌, subst, IsTrue, nat_le}
use Rattle.mm_expect.proofs.Below.{same_from_push, list_any, ◌||◌, Variant, Basic, Opt, Batch, members_of, size_of, limit_of, zero_bytes}
use Rattle.mm_expect.proofs.Below.{start_digest_of, state_after, outputs_from, state_after-append, state_from-is_spelled, AnyModule}
use Rattle.mm_expect.proofs.Below.{meaning_of, Instance, any_is_lawful, guard, register_of, History, Value, first_history, requests_of}
use Rattle.mm_expect.proofs.Below.{total_of, history_after_commit, cell_digest_of, values_of, is_last, is_long, digest_of, issued_bytes}
use Rattle.mm_expect.proofs.Below.{is_last_tells, answer_on, last_outputs, Answered, anchor-nil, summary-nil, is_empty, has_value}
use Rattle.mm_expect.proofs.Below.{requests-push, said_last, HistoryMarks, marks_of, with_value, emptied_marks, closed_marks, linked_marks}
use Rattle.mm_expect.proofs.Below.{grown_marks, opened_marks, ChronicleView, barrier_of, instance_with, chronicle_instance, append-nil}
use Rattle.mm_expect.proofs.Below.{append_assoc, Meaning, ◌+◌, ◌<◌, map, take, get_or, filter, cond, Option, None, Some, refl, ◌==◌}
use Rattle.mm_expect.proofs.Below.{if◌then◌else◌, map-append, filter_more, Decides-eqb, StepFault, Meddle, Stop, Fail, due_values, fault_at}
use Rattle.mm_expect.proofs.Below.{is_made_at, Move, Foreign, history_after, DeviceStep, list_level, state_after_moves, StepFate}
use Rattle.mm_expect.proofs.Below.{step_moves, walk_from_step, walk, fate_by_plan, made_move, end_of, made-append, plan_of, ChronicleGoes}
use Rattle.mm_expect.proofs.Below.{move_of, model_step_of, steps_of, ChronicleWalks, arith, End, Done, Fails, StepsWalk, finished_walk}

spelled_same : («module» : AnyModule) (next state : List ℕ) (members : List (List ℕ))
    → next ≡ state_from (meaning_of «module») state members
    → IsTrue ((meaning_of «module»).is_spelled state) → IsTrue ((meaning_of «module»).is_spelled next)
spelled_same «module» next state members run spelled =
    let P : List ℕ → Type 0 = λ v. IsTrue ((meaning_of «module»).is_spelled v) in
    subst P (sym run) (state_from-is_spelled (meaning_of «module») (any_is_lawful «module») state members spelled)

-- the module's state after the batch, and what it says to it
abbrev pub Ran : AnyModule → History → (next : List ℕ) (told : List (List ℕ)) → Batch → Type 0
Ran «module» y next told b =
    (next ≡ state_from (meaning_of «module») (state_after (meaning_of «module») (requests_of y.batches)) (members_of b))
    × (told ≡ outputs_from (meaning_of «module») (state_after (meaning_of «module») (requests_of y.batches)) (members_of b))
    × (list_any is_long (b ∷ []) ≡ false)

module _ {variant : Variant} {«module» : AnyModule} {barrier : List ℕ} {y : History} {old : HistoryMarks} {state : List ℕ}
    {said : List (List ℕ)}
    (s : IsSettled variant «module» barrier y old state said) where
  abbrev i : Instance
  i = instance_with variant «module»

  -- a move that commits nothing
  settled_still : {z : History} {new : HistoryMarks} → z.batches ≡ y.batches → new ≡ marks_of i z
      → IsSettled variant «module» barrier z new state said
  settled_still same marks = record {
    barrier_is = s.barrier_is;
    marks_is = marks;
    state_is = s.state_is ∙ ap (λ (bs : List Batch). state_after (meaning_of «module») (requests_of bs)) (sym same);
    said_is = λ front last e. s.said_is front last (sym same ∙ e);
    spelled = s.spelled;
    short = ap (list_any is_long) same ∙ s.short;
  }

  pub settled_value : {z : History} {new : HistoryMarks} (v : List ℕ) → z ≡ record y { items = y.items ++ Value v ∷ [] }
      → new ≡ with_value old v
      → IsSettled variant «module» barrier z new state said
  settled_value v is marks = settled_still (ap (λ (h : History). h.batches) is)
      (marks ∙ ap (λ (m : HistoryMarks). with_value m v) s.marks_is ∙ sym (marks_value i y v) ∙ ap (marks_of i) (sym is))

  pub settled_emptied : {z : History} {new : HistoryMarks} → z ≡ record y { items = [] } → new ≡ emptied_marks old (is_empty z.current)
      → IsSettled variant «module» barrier z new state said
  settled_emptied is marks = settled_still (ap (λ (h : History). h.batches) is)
      (marks ∙ (λ j. emptied_marks (s.marks_is j) (is_empty (is j).current)) ∙ sym (marks_emptied i y) ∙ ap (marks_of i) (sym is))

  pub settled_shut : {z : History} {new : HistoryMarks} → z ≡ record y { closed = y.closed ++ y.items ∷ []; current = []; is_open = false }
      → new ≡ closed_marks variant old (has_value y.items) (is_empty y.items) → IsSettled variant «module» barrier z new state said
  settled_shut is marks = settled_still (ap (λ (h : History). h.batches) is)
      (marks ∙ ap (λ (m : HistoryMarks). closed_marks variant m (has_value y.items) (is_empty y.items)) s.marks_is
      ∙ sym (marks_shut i y) ∙ ap (marks_of i) (sym is))

  -- a batch is committed
  module _ (b : Batch) {next : List ℕ} {told : List (List ℕ)} (run : Ran «module» y next told b) where
    settled_more : {z : History} {new : HistoryMarks} → z.batches ≡ y.batches ++ b ∷ [] → new ≡ marks_of i z
        → IsSettled variant «module» barrier z new next told
    settled_more grows marks =
        let meaning = meaning_of «module» in
        record {
          barrier_is = s.barrier_is;
          marks_is = marks;
          state_is = run.0 ∙ sym (state_after-append meaning (requests_of y.batches) (members_of b))
              ∙ ap (state_after meaning) (sym (requests-push y.batches b))
              ∙ ap (λ (bs : List Batch). state_after meaning (requests_of bs)) (sym grows);
          said_is = λ front last e.
              let p = same_from_push y.batches front b last (sym grows ∙ e) in
              run.1 ∙ (λ j. outputs_from meaning (state_after meaning (requests_of (p.0 j))) (members_of (p.1 j)));
          spelled = spelled_same «module» next state (members_of b)
              (run.0 ∙ ap (λ (v : List ℕ). state_from meaning v (members_of b)) (sym s.state_is)) s.spelled;
          short = ap (list_any is_long) grows ∙ list_any-append is_long y.batches (b ∷ [])
              ∙ ap (λ (f : Bool). f || list_any is_long (b ∷ [])) s.short ∙ run.2;
        }

    pub settled_linked : {z : History} {new : HistoryMarks} → variant ≡ Basic → z ≡ history_after_commit Basic y.is_open y b
        → new ≡ linked_marks old b
        → IsSettled variant «module» barrier z new next told
    settled_linked basic is marks = settled_more (ap (λ (h : History). h.batches) is)
        (marks ∙ ap (λ (m : HistoryMarks). linked_marks m b) s.marks_is ∙ sym (marks_linked i y b basic) ∙ ap (marks_of i) (sym is))

    pub settled_grown : {z : History} {new : HistoryMarks} {value : List ℕ} {size : ℕ} → variant ≡ Opt
        → z ≡ history_after_commit Opt true y b
        → size ≡ size_of b
        → value ≡ guard (barrier_of variant) b → new ≡ grown_marks old size value → IsSettled variant «module» barrier z new next told
    settled_grown opt is sized guards marks = settled_more (ap (λ (h : History). h.batches) is)
        (marks ∙ (λ j. grown_marks (s.marks_is j) (sized j) (guards j)) ∙ sym (marks_grown i y b opt) ∙ ap (marks_of i) (sym is))

    pub settled_opened : {z : History} {new : HistoryMarks} {value register : List ℕ} {size : ℕ} → variant ≡ Opt
        → z ≡ history_after_commit Opt false y b
        → size ≡ size_of b
        → value ≡ guard barrier b → register ≡ register_of (values_of barrier z.items)
        → new ≡ opened_marks old size value register (nat_le (length y.items) 1) → IsSettled variant «module» barrier z new next told
    settled_opened opt is sized guards reads marks = settled_more (ap (λ (h : History). h.batches) is)
        (marks ∙ (λ j. opened_marks (s.marks_is j) (sized j) ((guards ∙ ap (λ r. guard r b) s.barrier_is) j)
        ((reads ∙ (λ k. register_of (values_of (s.barrier_is k) (is k).items))) j) (nat_le (length y.items) 1))
        ∙ sym (marks_opened i y b opt) ∙ ap (marks_of i) (sym is))

cell_first : («module» : AnyModule) (variant : Variant)
    → start_digest_of variant (meaning_of «module»).id ≡ cell_digest_of (instance_with variant «module») variant first_history
cell_first «module» Basic = summary-nil (meaning_of «module»).id
cell_first «module» Opt = anchor-nil (meaning_of «module»).id

no_last : {A : Type 0} (front : List A) (x : A) → [] ≡ front ++ x ∷ [] → ⊥
no_last [] x e = cc
no_last (y ∷ front) x e = cc

-- at the first history
abbrev pub first_marks : List ℕ → List ℕ → HistoryMarks
first_marks cell register = record {
  total = 0;
  cell = digest_of cell;
  own = digest_of register;
  register = digest_of register;
  is_own = true;
  is_marred = false;
}

pub settled_first : {variant : Variant} {«module» : AnyModule} {barrier : List ℕ} {y : History} {marks : HistoryMarks} {state : List ℕ}
    {said : List (List ℕ)}
    {id : ℕ} → barrier ≡ barrier_of variant → y ≡ first_history → id ≡ (meaning_of «module»).id
    → marks ≡ first_marks (start_digest_of variant id) zero_bytes → state ≡ (meaning_of «module»).first
    → IsSettled variant «module» barrier y marks state said
settled_first {variant = variant} {«module» = «module»} {y = y} b first ids m s =
    let i = instance_with variant «module» in
    let lawful = any_is_lawful «module» in record {
      barrier_is = b;
      marks_is = m ∙ (λ j. first_marks ((ap (start_digest_of variant) ids ∙ cell_first «module» variant) j) (sym reads_zero j))
          ∙ ap (marks_of i) (sym first);
      state_is = s ∙ ap (λ (h : History). state_after (meaning_of «module») (requests_of h.batches)) (sym first);
      said_is = λ front last e. absurd (no_last front last (sym (ap (λ (h : History). h.batches) first) ∙ e));
      spelled = subst (λ (v : List ℕ). IsTrue ((meaning_of «module»).is_spelled v)) (sym s) lawful.begins;
      short = ap (λ (h : History). list_any is_long h.batches) first;
    }

-- the state is within its limit
pub fits_limit : («module» : AnyModule) {state given : List ℕ} {id : ℕ} → IsTrue ((meaning_of «module»).is_spelled state) → given ≡ state
    → id ≡ (meaning_of «module»).id → length given ≤ limit_of id
fits_limit «module» {state} {given} spelled same ids = subst (λ n. length given ≤ limit_of n) (sym ids)
    (subst (λ (v : List ℕ). length v ≤ limit_of (meaning_of «module»).id) (sym same) ((any_is_lawful «module»).fits state spelled))

-- what the module said to the last batch
pub outputs_last : {variant : Variant} {«module» : AnyModule} {barrier : List ℕ} {y : History} {marks : HistoryMarks} {state : List ℕ}
    {said : List (List ℕ)}
    (b : Batch) → IsSettled variant «module» barrier y marks state said → is_last y.batches b ≡ true
    → said ≡ last_outputs (meaning_of «module») y (size_of b)
outputs_last {«module» = «module»} {y = y} b s last =
    let h = is_last_tells y.batches b last in
    s.said_is h.front b h.is
    ∙ sym (said_last (meaning_of «module») y.batches h.front b h.is)

pub answered_is : (r : ChronicleView) (again : Bool) (b : Batch) {position : ℕ} {outputs : List (List ℕ)} {snapshot : List ℕ}
    → position ≡ total_of r.history.batches → outputs ≡ last_outputs (meaning_of r.«module») r.history (size_of b)
    → snapshot ≡ issued_bytes (chronicle_instance r) r.history
    → Answered (record { again = again; position = position; outputs = outputs; snapshot = snapshot }) ≡ Answered
    (answer_on (chronicle_instance r) r.history b again)
answered_is r again b p o s =
    λ j. Answered (record { again = again; position = p j; outputs = o j; snapshot = s j })

-- What is kept of positions stays with each move.

module _ {variant : Variant} {meaning : Meaning} {barrier : List ℕ} {y : History} {ways : Waymarks}
    (w : AreWaymarks variant meaning barrier y ways) where
  pub ways_items : {z : History} (items : List RegisterEntry) → z ≡ record y { items = items } → AreWaymarks variant meaning barrier z ways
  ways_items items is = ways_still (ap (λ (h : History). h.batches) is) (ap (λ (h : History). h.closed) is)
      (ap (λ (h : History). h.current) is) w

  pub ways_shut : {z : History} → z ≡ record y { closed = y.closed ++ y.items ∷ []; current = []; is_open = false }
      → AreWaymarks variant meaning barrier z ways
  ways_shut is =
      let all = ap (λ (h : History). h.batches) is ∙ sym (append-nil y.batches) in
      ways_on [] (y.items ∷ []) all (ap (λ (h : History). h.closed) is) (λ opt. record {
        done = y.batches;
        is = all ∙ ap (λ (bs : List Batch). y.batches ++ bs) (sym (ap (λ (h : History). h.current) is));
      }) w

  pub ways_linked : {z : History} (b : Batch) → variant ≡ Basic → z ≡ history_after_commit Basic y.is_open y b
      → AreWaymarks variant meaning barrier z ways
  ways_linked b basic is = ways_on (b ∷ []) [] (ap (λ (h : History). h.batches) is)
      (ap (λ (h : History). h.closed) is ∙ sym (append-nil y.closed)) (λ opt. let clash : Basic ≡ Opt = sym basic ∙ opt in absurd (cc)) w

  pub ways_grown : {z : History} (b : Batch) → z ≡ history_after_commit Opt true y b → AreWaymarks variant meaning barrier z ways
  ways_grown b is = ways_on (b ∷ []) [] (ap (λ (h : History). h.batches) is)
      (ap (λ (h : History). h.closed) is ∙ sym (append-nil y.closed)) (λ opt. let done = (w.ends opt).done in record {
        done = done;
        is = ap (λ (h : History). h.batches) is ∙ ap (λ (bs : List Batch). bs ++ b ∷ []) (w.ends opt).is
            ∙ append_assoc done y.current (b ∷ [])
            ∙ ap (λ (bs : List Batch). done ++ bs) (sym (ap (λ (h : History). h.current) is));
      }) w

  pub ways_opened : {z : History} (b : Batch) → z ≡ history_after_commit Opt false y b → AreWaymarks variant meaning barrier z ways
  ways_opened b is = ways_on (b ∷ []) [] (ap (λ (h : History). h.batches) is)
      (ap (λ (h : History). h.closed) is ∙ sym (append-nil y.closed)) (λ opt. record {
        done = y.batches;
        is = ap (λ (h : History). h.batches) is
            ∙ ap (λ (bs : List Batch). y.batches ++ bs) (sym (ap (λ (h : History). h.current) is));
      }) w

-- more of it is kept
module _ {variant : Variant} {«module» : AnyModule} {barrier : List ℕ} {y : History} {marks : HistoryMarks} {state : List ℕ}
    {said : List (List ℕ)} where
  pub kept_by : {ways : Waymarks} → IsSettled variant «module» barrier y marks state said
      → AreWaymarks variant (meaning_of «module») (barrier_of variant) y ways
      → IsKept variant «module» barrier y marks state said ways
  kept_by {ways} s w = record {
    settled = s;
    ways_are = subst (λ (b : List ℕ). AreWaymarks variant (meaning_of «module») b y ways) (sym s.barrier_is) w;
  }

  pub kept_more : {ways new : Waymarks} → IsKept variant «module» barrier y marks state said ways
      → (AreWaymarks variant (meaning_of «module») (barrier_of variant) y ways
      → AreWaymarks variant (meaning_of «module») (barrier_of variant) y new)
      → IsKept variant «module» barrier y marks state said new
  kept_more {ways} {new} s more = kept_by s.settled
      (more (subst (λ (b : List ℕ). AreWaymarks variant (meaning_of «module») b y ways) s.barrier_is s.ways_are))

  pub kept_then : {ways new : Waymarks} → IsSettled variant «module» barrier y marks state said
      → AreWaymarks variant (meaning_of «module») barrier y ways
      → (marks ≡ marks_of (instance_with variant «module») y → AreWaymarks variant (meaning_of «module») (barrier_of variant) y ways
      → AreWaymarks variant (meaning_of «module») (barrier_of variant) y new)
      → IsKept variant «module» barrier y marks state said new
  kept_then s w more = kept_more (record { settled = s; ways_are = w }) (more s.marks_is)

pub first_ends : {y : History} → y ≡ first_history → EndsWithCurrent y
first_ends e = record { done = []; is = ap (λ (h : History). h.batches) e ∙ sym (ap (λ (h : History). h.current) e) }

-- a batch that isn't too long, as a list
pub short_one : (b : Batch) → is_long b ≡ false → list_any is_long (b ∷ []) ≡ false
short_one b e = ap (λ (f : Bool). f || false) e

-- A chronicle goes on by moves, one after another.

pub messages_where-append : (closing : Bool) (i : Instance) (xs ys : List Move) (y : History)
    → messages_where closing i y (xs ++ ys) ≡ messages_where closing i y xs ++ messages_where closing i
    (state_after_moves (list_level i) y xs) ys
messages_where-append closing i [] ys y = refl
messages_where-append closing i (x ∷ xs) ys y =
    ap (λ v. messages_if closing i y x ++ v) (messages_where-append closing i xs ys (history_after i y x))
    ∙ sym (append_assoc (messages_if closing i y x) _ _)

same_instance : (a b : ChronicleView) (moves : List Move) → ChronicleGoes a b moves → chronicle_instance b ≡ chronicle_instance a
same_instance a b moves w = λ j. instance_with (w.variant j) (w.«module» j)

-- what was listed by the first moves, and then by more
then_listed : (closing : Bool) (i k : Instance) (y z : History) (xs ys : List Move) (front middle after : List (List ℕ)) → k ≡ i
    → z ≡ state_after_moves (list_level i) y xs → middle ≡ front ++ messages_where closing i y xs
    → after ≡ middle ++ messages_where closing k z ys → after ≡ front ++ messages_where closing i y (xs ++ ys)
then_listed closing i k y z xs ys front middle after same is first second =
    second ∙ (λ j. first j ++ messages_where closing (same j) (is j) ys)
    ∙ append_assoc front (messages_where closing i y xs) (messages_where closing i (state_after_moves (list_level i) y xs) ys)
    ∙ ap (λ v. front ++ v) (sym (messages_where-append closing i xs ys y))

pub went_then : (a b c : ChronicleView) (xs ys : List Move) → ChronicleGoes a b xs → ChronicleGoes b c ys → ChronicleGoes a c (xs ++ ys)
went_then a b c xs ys first second =
    let same = same_instance a b xs first in record {
      variant = second.variant ∙ first.variant;
      «module» = second.«module» ∙ first.«module»;
      history = second.history ∙ (λ j. state_after_moves (list_level (same j)) (first.history j) ys)
          ∙ sym (made-append (list_level (chronicle_instance a)) xs ys a.history);
      extending =
          then_listed false (chronicle_instance a) (chronicle_instance b) a.history b.history xs ys a.extending b.extending c.extending same
          first.history first.extending second.extending;
      closing = then_listed true (chronicle_instance a) (chronicle_instance b) a.history b.history xs ys a.closing b.closing c.closing same
          first.history first.closing second.closing;
    }

-- The second walk goes on from the first, which wasn't broken off.
pub record Then (first second whole : StepsWalk) : Type 0 where
  pub moves : whole.moves ≡ first.moves ++ second.moves
  pub broken : whole.broken ≡ second.broken

after_broken : (step : DeviceStep) (values : List (List ℕ)) (ends : End) (r s : StepsWalk) (fault : StepFault)
    → (walk_from_step step values ends r).broken ≡ Some fault → (r.broken ≡ Some fault → s ≡ r)
    → walk_from_step step values ends s ≡ walk_from_step step values ends r
after_broken step values Done r s fault e same = ap (walk_from_step step values Done) (same e)
after_broken step values (Fails f made) r s fault e same = refl

after_whole : (step : DeviceStep) (values : List (List ℕ)) (ends : End) (r m s : StepsWalk)
    → (walk_from_step step values ends r).broken ≡ None → (r.broken ≡ None → Then r m s)
    → Then (walk_from_step step values ends r) m (walk_from_step step values ends s)
after_whole step values Done r m s e goes = record {
  moves = ap (λ v. step_moves step true values ++ v) (goes e).moves ∙ sym (append_assoc (step_moves step true values) r.moves m.moves);
  broken = (goes e).broken;
}
after_whole step values (Fails f made) r m s e goes = cc

module _ (fates : ℕ → StepFate) where
  pub broken_walked : (n : ℕ) (xs ys : List DeviceStep) (fault : StepFault) → (walk fates n xs).broken ≡ Some fault
      → walk fates n (xs ++ ys) ≡ walk fates n xs
  broken_walked n [] ys fault e = cc
  broken_walked n (x ∷ xs) ys fault e =
      after_broken x (fates n).brings (fates n).ends (walk fates (n + 1) xs) (walk fates (n + 1) (xs ++ ys)) fault e
      (broken_walked (n + 1) xs ys fault)

  pub then_walked : (n m : ℕ) (xs ys : List DeviceStep) → m ≡ n + length xs → (walk fates n xs).broken ≡ None
      → Then (walk fates n xs) (walk fates m ys) (walk fates n (xs ++ ys))
  then_walked n m [] ys at e =
      let same : m ≡ n = omega (arith, at) in
      subst (λ (k : ℕ). Then finished_walk (walk fates m ys) (walk fates k ys)) same (record { moves = refl; broken = refl })
  then_walked n m (x ∷ xs) ys at e =
      after_whole x (fates n).brings (fates n).ends (walk fates (n + 1) xs) (walk fates m ys) (walk fates (n + 1) (xs ++ ys)) e
      (then_walked (n + 1) m xs ys (omega (arith, at)))

  -- a chronicle that went on by some steps, and by more unless they were broken off, went on by all of them
  pub walks_broken : {a b : ChronicleView} (n : ℕ) (xs ys : List DeviceStep) {fault : StepFault}
      → ChronicleWalks a b (walk fates n xs) (Some fault)
      → ChronicleWalks a b (walk fates n (xs ++ ys)) (Some fault)
  walks_broken {a} {b} n xs ys {fault} w =
      subst (λ (v : StepsWalk). ChronicleWalks a b v (Some fault)) (sym (broken_walked n xs ys fault (sym w.broken))) w

  pub walks_then : {a b c : ChronicleView} (n m : ℕ) (xs ys : List DeviceStep) {fault : Option StepFault} → m ≡ n + length xs
      → ChronicleWalks a b (walk fates n xs) None → ChronicleWalks b c (walk fates m ys) fault
      → ChronicleWalks a c (walk fates n (xs ++ ys)) fault
  walks_then {a} {b} {c} n m xs ys at first more =
      let t = then_walked n m xs ys at (sym first.broken) in record {
        went = subst (ChronicleGoes a c) (sym t.moves) (went_then a b c (walk fates n xs).moves (walk fates m ys).moves
            first.went more.went);
        broken = more.broken ∙ sym t.broken;
      }

-- the values of some meddles, and of one more where the test passes
value_more : (front : List Meddle) (m : Meddle) (flag : Bool) → (let v : Meddle → List ℕ = λ x. x.value.bytes in
    map Foreign (map v (front ++ cond flag (m ∷ []) [])) ≡ map Foreign (map v front) ++ (if flag then Foreign (v m) ∷ [] else []))
value_more front m true = ap (map Foreign) (map-append (λ (x : Meddle). x.value.bytes) front (m ∷ []))
    ∙ map-append Foreign (map (λ (x : Meddle). x.value.bytes) front) (m.value.bytes ∷ [])
value_more front m false =
    ap (λ (ms : List Meddle). map Foreign (map (λ (x : Meddle). x.value.bytes) ms)) (append-nil front) ∙ sym (append-nil _)

-- the values that are due, one more meddle looked at
due_taken : (step : ℕ) (meddles : List Meddle) (i : ℕ) (d : Meddle) (flag : Bool) → i < length meddles
    → ((get_or meddles i d).step == step) ≡ flag → map Foreign (due_values step (take (i + 1) meddles))
    ≡ map Foreign (due_values step (take i meddles))
    ++ (if flag then Foreign (get_or meddles i d).value.bytes ∷ [] else [])
due_taken step meddles i d flag l e =
    let m : Meddle = get_or meddles i d in
    let p : Meddle → Bool = λ x. x.step == step in
    let front : List Meddle = filter p (take i meddles) in
    ap (λ (ms : List Meddle). map Foreign (map (λ (x : Meddle). x.value.bytes) ms))
    (filter_more p meddles i d l ∙ ap (λ (b : Bool). front ++ cond b (m ∷ []) []) e) ∙ value_more front m flag

pub bring_one : (a b c : ChronicleView) (step : ℕ) (meddles : List Meddle) (i : ℕ) (d : Meddle) → i < length meddles
    → (get_or meddles i d).step ≡ step → ChronicleGoes a b (map Foreign (due_values step (take i meddles)))
    → ChronicleGoes b c (Foreign (get_or meddles i d).value.bytes ∷ [])
    → ChronicleGoes a c (map Foreign (due_values step (take (i + 1) meddles)))
bring_one a b c step meddles i d l e first second =
    subst (ChronicleGoes a c) (sym (due_taken step meddles i d true l ((Decides-eqb (get_or meddles i d).step step).1 e)))
    (went_then a b c _ _ first second)

pub bring_none : (a b : ChronicleView) (step : ℕ) (meddles : List Meddle) (i : ℕ) (d : Meddle) → i < length meddles
    → ((get_or meddles i d).step ≡ step → ⊥) → ChronicleGoes a b (map Foreign (due_values step (take i meddles)))
    → ChronicleGoes a b (map Foreign (due_values step (take (i + 1) meddles)))
bring_none a b step meddles i d l e first = subst (ChronicleGoes a b) (sym (due_taken step meddles i d false l
    (false_from_ne_true ((get_or meddles i d).step == step) (λ t. e ((Decides-eqb (get_or meddles i d).step step).0 t)))
    ∙ append-nil _)) first

-- a step that answers no fault has its effect
pub made_where_whole : (stop : Stop) (step : ℕ) → fault_at stop step ≡ None → is_made_at stop step ≡ true
made_where_whole (Fail at done) step none = grind (arith, nat_tests, none)
made_where_whole stop step none = refl

pub changes_then : (a b c : ChronicleView) (action : code.ChronicleMove) (made : Bool) (values : List (List ℕ))
    (step : code_step.ChronicleStep)
    → step ≡ Changes action → ChronicleGoes a b (map Foreign values) → ChronicleGoes b c (made_move made (move_of action))
    → ChronicleGoes a c (step_moves (model_step_of step) made values)
changes_then a b c action made values step is first second =
    subst (λ (s : code_step.ChronicleStep). ChronicleGoes a c (step_moves (model_step_of s) made values)) (sym is)
    (went_then a b c (map Foreign values) (made_move made (move_of action)) first second)

pub walks_on : (a b c : ChronicleView) (stop : Stop) (meddles : List Meddle) (n : ℕ) (step : code_step.ChronicleStep)
    (later all : List code_step.ChronicleStep)
    → all ≡ step ∷ later → fault_at stop n ≡ None → (made : Bool) → made ≡ is_made_at stop n
    → ChronicleGoes a b (step_moves (model_step_of step) made (due_values n meddles)) → (fault : Option StepFault)
    → ChronicleWalks b c (walk (fate_by_plan (plan_of stop meddles)) (n + 1) (steps_of later)) fault
    → ChronicleWalks a c (walk (fate_by_plan (plan_of stop meddles)) n (steps_of all)) fault
walks_on a b c stop meddles n step later all is whole made m first fault more =
    let fates : ℕ → StepFate = fate_by_plan (plan_of stop meddles) in
    let effect : made ≡ true = m ∙ made_where_whole stop n whole in
    let rest : StepsWalk = walk fates (n + 1) (steps_of later) in
    let W : Option StepFault
    → Type 0 = λ f. ChronicleWalks a c (walk_from_step (model_step_of step) (due_values n meddles) (end_of f (is_made_at stop n)) rest)
    fault in
    subst (λ (s : List code_step.ChronicleStep). ChronicleWalks a c (walk fates n (steps_of s)) fault) (sym is)
    (subst W (sym whole) (record {
      went = went_then a b c (step_moves (model_step_of step) true (due_values n meddles)) rest.moves
          (subst (λ (x : Bool). ChronicleGoes a b (step_moves (model_step_of step) x (due_values n meddles))) effect first) more.went;
      broken = more.broken;
    }))
