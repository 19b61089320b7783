-- What one call for a batch comes to by lists, in either variant. With it: a line of at most 4,096
-- bytes isn't too long to be asked, and its record fits a slot.
use Rattle.std.specs.Prelude.{◌^◌}
use Rattle.std.proofs.Common.{append_assoc}
use Rattle.std.proofs.lemmas.List.Folds.{list_any_none}
use Rattle.sha2.specs.Sha256.{sha256}
use Rattle.mm_bytes.specs.DecimalLaws.{append-injective, eight_bytes-injective, length-eight_bytes}
use Rattle.mm_bytes.specs.Limits.{eight_bytes, four_bytes}
use Rattle.mm_base.specs.Input.{IsLineFront}
use Rattle.mm_module.specs.Batch.{normal_batch}
use Rattle.mm_model.specs.Moves.{is_lf}
use Rattle.mm_call.specs.CallFinding.{Level}
use Rattle.mm_call.specs.CallPremises.{standing_items}
use Rattle.mm_call.proofs.Above.{grown_by, live_found, same_closed, sight_is}
use Rattle.mm_call.proofs.OptAlike.{still}
use Rattle.mm_store.specs.PendingRecord.{pending_front, pending_spelling, record_word, ReadsPendingRecord}
use Rattle.mm_recovery.proofs.Below.{◌≡◌, ◌++◌, ℕ, false, List, Option, None, Some, Result, Ok, Err, refl, sym, ap, ◌∙◌, ◌⊎◌, Basic, Opt}
use Rattle.mm_recovery.proofs.Below.{Item, Standing, StepFault, Meaning, IsLawful, Batch, Content, Instance, basic_instance, opt_instance}
use Rattle.mm_recovery.proofs.Below.{History, RegisterEntry, Move, items_of_all, has_value, digests_of, NamesPosition, StandsFor}
use Rattle.mm_recovery.proofs.Below.{BatchAnswer, Refusal, Memory, IsAsked, IsWithin, call_outcome, call_ending_by, result_of_ending}
use Rattle.mm_recovery.proofs.Below.{state_seen, CallContinues, IsCallOnCourse, Course, StepsWalk, walk, CallFinding, finding_at}
use Rattle.mm_recovery.proofs.Below.{finding_unless_wanting, is_fresh, ask_steps, list_level, digest_level, state_after_moves, AreAsked}
use Rattle.mm_recovery.proofs.Below.{AreShown, IsIdle, fault_of, stands_at, asked_for, asked_idle, basic_asked, names_made, basic_comes}
use Rattle.mm_recovery.proofs.Below.{comes, HistoryGrows, Alike, alike_call, names_after, unlacked, ◌≢◌, length, arith, nat_lt, list_any}
use Rattle.mm_recovery.proofs.Below.{nat_tests, longest_request, One, is_long, ◌+◌, ◌≤◌, length-append, length-sha256, PendingRecord}
use Rattle.mm_recovery.proofs.Below.{length-pending_front, ◌<◌, last_position}
use Rattle.mm_recovery.proofs.Meeting.{IsIssued, issued_in_basic, issued_in_opt}
use Rattle.mm_recovery.proofs.Refusing.{keeps_refused, judged_refused}

-- what one call for a batch comes to, whatever is offered that names a position where it is right
pub record BatchMet (all others : List (List ℕ)) (asked : List Batch) (i : Instance) (y : History) (standing : Standing)
    (offer : List ℕ) (b : Batch) (gives : Result BatchAnswer Refusal) : Type 0 where
  pub after : History
  pub stands : StandsFor i standing after
  pub within : IsWithin all others asked i after
  pub names : (content : Content) → NamesPosition i y content → NamesPosition i after content
  pub comes : HistoryGrows i y offer b after gives
  pub only : (why : Refusal) → gives ≡ Err why → fault_of why ≡ None → after.batches ≡ y.batches
  pub judged : (why : Refusal) → gives ≡ Err why → fault_of why ≡ None
      → (why ≡ Memory) ⊎ (finding_at i (list_level i) after b offer ≡ Err why)
  pub issues : (answer : BatchAnswer) → gives ≡ Ok answer → IsIssued i after

-- what each variant knows of its call
met_by : (all others : List (List ℕ)) (asked : List Batch) (i : Instance) (y : History) (standing : Standing) (offer : List ℕ)
    (b : Batch) (gives : Result BatchAnswer Refusal) (c : Course)
    → (let o = call_outcome i (list_level i) y c offer b in CallContinues all others asked i o standing gives
    → ((content : Content) → NamesPosition i y content → NamesPosition i o.state content)
    → HistoryGrows i y offer b o.state (result_of_ending o.ending)
    → ((answer : BatchAnswer) → result_of_ending o.ending ≡ Ok answer → IsIssued i o.state)
    → BatchMet all others asked i y standing offer b gives)
met_by all others asked i y standing offer b gives c k names comes_to issues =
    let o = call_outcome i (list_level i) y c offer b in
    rw k.gives (record {
      after = o.state;
      stands = k.stands;
      within = k.within;
      names = names;
      comes = comes_to;
      only = λ why e none. keeps_refused i y c b offer why e none;
      judged = λ why e none. judged_refused (list_level i) i y c b offer why e none;
      issues = issues;
    })

module _ (meaning : Meaning) (lawful : IsLawful meaning) (key : List ℕ) (all others : List (List ℕ)) (asked : List Batch) (y : History)
    (old new : Standing) (offer : List ℕ) (batch : Batch) (gives : Result BatchAnswer Refusal)
    (c : IsCallOnCourse Basic meaning old new offer batch gives) (s : StandsFor (basic_instance meaning key) old y)
    (a : AreAsked all others asked (basic_instance meaning key) y offer (normal_batch batch)) where
  pub basic_batch_met : BatchMet all others asked (basic_instance meaning key) y new offer (normal_batch batch) gives
  basic_batch_met =
      let i : Instance = basic_instance meaning key in
      let b : Batch = normal_batch batch in
      let o = call_outcome i (list_level i) y c.course offer b in
      met_by all others asked i y new offer b gives c.course
      (c.continues key key y all others asked s (basic_asked meaning key all others asked y c.course offer b a))
      (names_made meaning key o.moves y) (basic_comes meaning key all others asked y c.course offer b a)
      (λ answer e. issued_in_basic meaning lawful key o.state)

-- an answer is given where something was found
found_then : {S : Type 0} (broken : Option StepFault) (level : Level S) (seen end : S) (b : Batch) (found : Result CallFinding Refusal)
    (moves : List Move) (answer : BatchAnswer) → result_of_ending (call_ending_by level seen end b found moves broken) ≡ Ok answer
    → (it : CallFinding) × (found ≡ Ok it)
found_then (Some fault) level seen end b found moves answer e = absurd (cc)
found_then None level seen end b (Err why) moves answer e = absurd (cc)
found_then None level seen end b (Ok it) moves answer e = (it, refl)

module _ (meaning : Meaning) (key barrier : List ℕ) where
  abbrev I : Instance
  I = opt_instance meaning key barrier

  -- a call closes nothing
  clean_behind : (y after : History) (b : Batch) → has_value (items_of_all y.closed) ≡ false → Alike meaning key barrier y b after
      → has_value (items_of_all after.closed) ≡ false
  clean_behind y after b clean (still e) = ap (λ (x : History). has_value (items_of_all x.closed)) e ∙ clean
  clean_behind y after b clean (grown_by e) =
      ap (λ (c : List (List RegisterEntry)). has_value (items_of_all c)) (same_closed meaning key barrier y after b e) ∙ clean

  -- so behind an answer none of others' values stands in a closed segment
  clean_answered : (y : History) (c : Course) (offer : List ℕ) (b : Batch) (answer : BatchAnswer)
      → (let o = call_outcome I (list_level I) y c offer b in result_of_ending o.ending ≡ Ok answer
      → has_value (items_of_all o.state.closed) ≡ false)
  clean_answered y c offer b answer e =
      let sees : History = state_seen I (list_level I) y c in
      let at : Result CallFinding Refusal = finding_at I (list_level I) sees b offer in
      let found : Result CallFinding Refusal = finding_unless_wanting at c.lacks in
      let w : StepsWalk = walk c.fates 1 (ask_steps Opt y.is_open (is_fresh found) b) in
      let it = found_then w.broken (list_level I) sees (state_after_moves (list_level I) y w.moves) b found w.moves answer e in
      let live = live_found meaning key barrier sees b offer it.0 (unlacked at c.lacks it.0 it.1) in
      clean_behind y (call_outcome I (list_level I) y c offer b).state b
      (ap (λ (x : History). has_value (items_of_all x.closed)) (sym (sight_is I y c)) ∙ live.clean)
      (alike_call meaning key barrier y c offer b)

-- what is asked of the moves of a call is known by the register's items, or the call is idle
module _ (meaning : Meaning) (lawful : IsLawful meaning) (key barrier : List ℕ) (all others : List (List ℕ)) (asked : List Batch)
    (y : History) (old new : Standing) (offer : List ℕ) (batch : Batch) (gives : Result BatchAnswer Refusal)
    (c : IsCallOnCourse Opt meaning old new offer batch gives) (s : StandsFor (opt_instance meaning key barrier) old y)
    (a : AreAsked all others asked (opt_instance meaning key barrier) y offer (normal_batch batch)) where
  opt_met_by : IsAsked all others asked (opt_instance meaning key barrier) y
      (call_outcome (opt_instance meaning key barrier) (digest_level (opt_instance meaning key barrier))
      (digests_of (opt_instance meaning key barrier) y) c.course offer (normal_batch batch)).moves offer (normal_batch batch)
      → BatchMet all others asked (opt_instance meaning key barrier) y new offer (normal_batch batch) gives
  opt_met_by is_asked =
      let i : Instance = opt_instance meaning key barrier in
      let b : Batch = normal_batch batch in
      let o = call_outcome i (list_level i) y c.course offer b in
      let k = c.continues key barrier y all others asked s is_asked in
      let alike : Alike meaning key barrier y b o.state = alike_call meaning key barrier y c.course offer b in
      met_by all others asked i y new offer b gives c.course k
      (λ content n. names_after meaning key barrier y o.state b content a.within.sound k.within.sound alike n)
      (comes meaning key barrier all others asked y c.course offer b a)
      (λ answer e. issued_in_opt meaning lawful key barrier o.state k.within.sound
      (clean_answered meaning key barrier y c.course offer b answer e))

  pub opt_batch_met : (items more : List Item) → old.items ≡ Some items → new.items ≡ Some (standing_items y.is_open items ++ more)
      → ((IsIdle (opt_instance meaning key barrier) y offer (normal_batch batch) → ⊥)
      → AreShown all others (opt_instance meaning key barrier) y more)
      → BatchMet all others asked (opt_instance meaning key barrier) y new offer (normal_batch batch) gives
  opt_batch_met items more known ends shown_so =
      let i : Instance = opt_instance meaning key barrier in
      let b : Batch = normal_batch batch in
      let g = c.goes key barrier (digests_of i y) (stands_at i old y s) in
      opt_met_by
      (asked_for meaning key barrier all others asked y c.course offer b old new items more a shown_so known g.items ends)

  pub opt_batch_met_idle : IsIdle (opt_instance meaning key barrier) y offer (normal_batch batch)
      → BatchMet all others asked (opt_instance meaning key barrier) y new offer (normal_batch batch) gives
  opt_batch_met_idle idle =
      opt_met_by (asked_idle meaning key barrier all others asked y c.course offer (normal_batch batch) a idle)

-- A line of at most 4,096 bytes isn't too long to be asked, and its record fits a slot.

not_lf : (byte : ℕ) → byte ≢ 10 → is_lf byte ≡ false
not_lf byte h = grind (arith, nat_tests, h)

pub askable : (request : List ℕ) → IsLineFront longest_request request → is_long (One request) ≡ false
askable request w =
    let short : nat_lt longest_request (length request) ≡ false = grind (arith, nat_tests, w.short) in
    let unbroken : list_any is_lf request ≡ false = list_any_none is_lf request (λ k d h. not_lf _ (w.unbroken k d h)) in
    rw (short, unbroken) refl

pub length-pending_spelling : (p : PendingRecord) → length (pending_spelling p) ≡ 48 + length p.request
unfolding pending_spelling
length-pending_spelling p =
    simp length-append (omega (arith, length-pending_front p, length-sha256 (pending_front p)))

pub record_short : (p : PendingRecord) (bytes : List ℕ) → bytes ≡ pending_spelling p → length p.request ≤ longest_request
    → length bytes ≤ 1100000
record_short p bytes e h = omega (arith, ap length e, length-pending_spelling p)

-- A record's bytes tell its position.

regrouped : (a b c d e : List ℕ) → (a ++ (b ++ (c ++ d))) ++ e ≡ a ++ (b ++ (c ++ (d ++ e)))
regrouped a b c d e = simp append_assoc

front_position : (p q : PendingRecord) (a b : List ℕ) → p.position < 2 ^ 64 → q.position < 2 ^ 64
    → pending_front p ++ a ≡ pending_front q ++ b → p.position ≡ q.position
unfolding pending_front
front_position p q a b hp hq e =
    let same : record_word ++ (eight_bytes p.position ++ (four_bytes (length p.request) ++ (p.request ++ a)))
    ≡ record_word ++ (eight_bytes q.position ++ (four_bytes (length q.request) ++ (q.request ++ b))) =
    sym (regrouped record_word (eight_bytes p.position) (four_bytes (length p.request)) p.request a) ∙ e
    ∙ regrouped record_word (eight_bytes q.position) (four_bytes (length q.request)) q.request b in
    let first = append-injective record_word record_word
    (eight_bytes p.position ++ (four_bytes (length p.request) ++ (p.request ++ a)))
    (eight_bytes q.position ++ (four_bytes (length q.request) ++ (q.request ++ b))) refl same in
    let second = append-injective (eight_bytes p.position) (eight_bytes q.position) (four_bytes (length p.request) ++ (p.request ++ a))
    (four_bytes (length q.request) ++ (q.request ++ b)) (length-eight_bytes p.position ∙ sym (length-eight_bytes q.position)) first.1 in
    eight_bytes-injective p.position q.position hp hq second.0

spelled_position : (p q : PendingRecord) → p.position < 2 ^ 64 → q.position < 2 ^ 64 → pending_spelling p ≡ pending_spelling q
    → p.position ≡ q.position
unfolding pending_spelling
spelled_position p q hp hq e = front_position p q (sha256 (pending_front p)) (sha256 (pending_front q)) hp hq e

-- so a record behind the last position is none of a slot's
pub beyond_none : (slot : ℕ) (bytes : List ℕ) (next : PendingRecord) → next.position ≡ last_position + 1 → bytes ≡ pending_spelling next
    → ReadsPendingRecord slot bytes None
beyond_none slot bytes next at is = λ p valid e.
    omega (arith, valid.most, at, spelled_position next p (omega (arith, at)) (omega (arith, valid.most)) (sym is ∙ e))
