-- Laws of the runs of a module. With it: the laws of a module by a table; the laws of the counter;
-- laws of batches.
use Rattle.std.specs.List.{slice_split, onto_first, join_with_byte}
use Rattle.std.specs.Prelude.{◌^◌, ◌<◌}
use Rattle.std.proofs.Common.{◌≡◌, ℕ, suc, List, [], ◌∷◌, ◌++◌, length, IsTrue, refl, ap, ◌≤◌, Bool, true, sym, ◌∙◌, subst, arith, rules}
use Rattle.std.proofs.Common.{false, ◌||◌, cond, if◌then◌else◌}
use Rattle.std.proofs.lemmas.Bool.Decides.{nat_tests}
use Rattle.std.proofs.lemmas.List.Splits.{join_with_byte-slice_split, length-slice_split}
use Rattle.mm_bytes.specs.Limits.{limit_of, longest_request, eight_bytes}
use Rattle.mm_module.specs.Batch.{are_bytes, number_of_eight_bytes, Batch, One, Many, members_of, batch_text, size_of, normal_batch, is_tab}
use Rattle.mm_module.specs.Batch.{has_tab}
use Rattle.mm_module.specs.declared.counter.Output.{Output}
use Rattle.mm_module.specs.declared.counter.Output.TheVariants.{Value}
use Rattle.mm_module.specs.LineLaws.{All-are_bytes, IsText, IsLine-text, is_byte-rem, is_unbroken-decimal, length-decimal}
use Rattle.mm_module.specs.LineLaws.{number_of_eight_bytes-eight}
use Rattle.mm_module.specs.Meaning.{Meaning, IsLawful, state_after, last_output_from, last_output_after, outputs_from, state_from, IsShort}
use Rattle.mm_module.specs.Meaning.{words_of, counter, outcome_of_bytes, is_state, request_of, outcome_of, text_of}

-- a run goes on from the state that it came to
pub state_from-append : (meaning : Meaning) (state : List ℕ) (before after : List (List ℕ))
    → state_from meaning state (before ++ after) ≡ state_from meaning (state_from meaning state before) after
state_from-append meaning state [] after = refl
state_from-append meaning state (request ∷ before) after = state_from-append meaning (meaning.next state request) before after

-- the state after one more request
pub state_after-push : (meaning : Meaning) (requests : List (List ℕ)) (request : List ℕ)
    → state_after meaning (requests ++ request ∷ []) ≡ meaning.next (state_after meaning requests) request
state_after-push meaning requests request = state_from-append meaning meaning.first requests (request ∷ [])

-- the state after more requests
pub state_after-append : (meaning : Meaning) (before after : List (List ℕ))
    → state_after meaning (before ++ after) ≡ state_from meaning (state_after meaning before) after
state_after-append meaning before after = state_from-append meaning meaning.first before after

-- the last output, of a run that goes on
pub last_output_from-append : (meaning : Meaning) (state said : List ℕ) (before after : List (List ℕ))
    → last_output_from meaning state said (before ++ after) ≡ last_output_from meaning (state_from meaning state before)
    (last_output_from meaning state said before) after
last_output_from-append meaning state said [] after = refl
last_output_from-append meaning state said (request ∷ before) after =
    last_output_from-append meaning (meaning.next state request) (meaning.says state request) before after

-- the last output is that of the last request, at the state before it
pub last_output_after-push : (meaning : Meaning) (requests : List (List ℕ)) (request : List ℕ)
    → last_output_after meaning (requests ++ request ∷ []) ≡ meaning.says (state_after meaning requests) request
last_output_after-push meaning requests request = last_output_from-append meaning meaning.first [] requests (request ∷ [])

-- the outputs of a run that goes on
pub outputs_from-append : (meaning : Meaning) (state : List ℕ) (before after : List (List ℕ))
    → outputs_from meaning state (before ++ after) ≡ outputs_from meaning state before
    ++ outputs_from meaning (state_from meaning state before) after
outputs_from-append meaning state [] after = refl
outputs_from-append meaning state (request ∷ before) after =
    ap (λ outputs. meaning.says state request ∷ outputs) (outputs_from-append meaning (meaning.next state request) before after)

-- an output for each request
pub length-outputs_from : (meaning : Meaning) (state : List ℕ) (requests : List (List ℕ))
    → length (outputs_from meaning state requests) ≡ length requests
length-outputs_from meaning state [] = refl
length-outputs_from meaning state (request ∷ requests) = ap (λ n. suc n) (length-outputs_from meaning (meaning.next state request) requests)

-- every state of a run from a spelled one is spelled
pub state_from-is_spelled : (meaning : Meaning) → IsLawful meaning → (state : List ℕ) (requests : List (List ℕ))
    → IsTrue (meaning.is_spelled state) → IsTrue (meaning.is_spelled (state_from meaning state requests))
state_from-is_spelled meaning lawful state [] spelled = spelled
state_from-is_spelled meaning lawful state (request ∷ requests) spelled =
    state_from-is_spelled meaning lawful (meaning.next state request) requests (lawful.goes_on state request spelled)

-- every state of a run is spelled
pub state_after-is_spelled : (meaning : Meaning) → IsLawful meaning → (requests : List (List ℕ))
    → IsTrue (meaning.is_spelled (state_after meaning requests))
state_after-is_spelled meaning lawful requests = state_from-is_spelled meaning lawful meaning.first requests lawful.begins

-- The laws of a module by a table: what a request does to a state that is no bytes.

-- a state and what is said, with what holds of each
pub record IsOutcome {State Says : Type 0} (IsGood : State → Type 0) (IsSaid : Says → Type 0)
    (outcome : State × Says) : Type 0 where
  pub state : IsGood outcome.0
  pub said : IsSaid outcome.1

-- A first state; the state that bytes spell, and the bytes of a state; and what a request does to a
-- state, with the output.
pub record Table (State : Type 0) : Type 0 where
  pub first : State
  pub read : List ℕ → State
  pub spelling : State → List ℕ
  pub does : State → List ℕ → State × List ℕ

-- The table of a module that reads its requests word by word: a first state; the state that bytes
-- spell, and the bytes of a state; the request of these words; what it does; and what is said.
abbrev pub table_by : {State Request Says : Type 0} → State → (List ℕ → State) → (State → List ℕ)
    → (List (List ℕ) → Request) → (State → Request → State × Says) → (Says → List ℕ) → Table State
table_by first read spelling asked outcome text = record {
  first = first;
  read = read;
  spelling = spelling;
  does = λ state request. let o = outcome state (asked (words_of request)) in (o.0, text o.1);
}

-- It is the table of a module. Good states are those that spelled bytes spell, of so many bytes at
-- most; and an output has at most so many.
pub record IsTable {State : Type 0} (it : Table State) (meaning : Meaning) (IsGood : State → Type 0)
    (longest most : ℕ) : Type 0 where
  pub begins : meaning.first ≡ it.spelling it.first
  pub first : IsGood it.first
  pub reads : (bytes : List ℕ) → meaning.is_spelled bytes ≡ true → IsGood (it.read bytes)
  pub spells : (state : State) → IsGood state → meaning.is_spelled (it.spelling state) ≡ true
  pub back : (state : State) → IsGood state → it.read (it.spelling state) ≡ state
  pub next : (bytes request : List ℕ)
      → meaning.next bytes request ≡ it.spelling (it.does (it.read bytes) request).0
  pub says : (bytes request : List ℕ)
      → meaning.says bytes request ≡ (it.does (it.read bytes) request).1
  pub stays : (state : State) (request : List ℕ) → IsGood state → IsGood (it.does state request).0
  pub tells : (state : State) (request : List ℕ) → IsGood state
      → IsText most (it.does state request).1
  pub fits : (bytes : List ℕ) → meaning.is_spelled bytes ≡ true → length bytes ≤ longest
  pub bytes : (bytes : List ℕ) → meaning.is_spelled bytes ≡ true → are_bytes bytes ≡ true

pub is-true : (b : Bool) → IsTrue b → b ≡ true
is-true b is = search (rules, is)

-- the outputs from a state
abbrev pub outputs_by : {State : Type 0} → Table State → State → List (List ℕ) → List (List ℕ)
outputs_by it state [] = []
outputs_by it state (request ∷ requests) = (it.does state request).1 ∷ outputs_by it (it.does state request).0 requests

module _ {State : Type 0} {it : Table State} {meaning : Meaning} {IsGood : State → Type 0}
    {longest most : ℕ} (t : IsTable it meaning IsGood longest most) where
  said : (state request : List ℕ) → meaning.is_spelled state ≡ true → IsText most (meaning.says state request)
  said state request is = subst (IsText most) (sym (t.says state request)) (t.tells _ request (t.reads state is))

  goes : (state request : List ℕ) → meaning.is_spelled state ≡ true → meaning.is_spelled (meaning.next state request) ≡ true
  goes state request is =
      ap meaning.is_spelled (t.next state request)
      ∙ t.spells _ (t.stays _ request (t.reads state is))

  pub table_is_lawful : longest ≤ limit_of meaning.id → most ≤ longest_request → IsLawful meaning
  table_is_lawful fits few = record {
    begins = search (rules, ap meaning.is_spelled t.begins ∙ t.spells it.first t.first);
    goes_on = λ state request is. search (rules, goes state request (is-true _ is));
    fits = λ state is. omega (arith, fits, t.fits state (is-true _ is));
    has_bytes = λ state is. All-are_bytes state (t.bytes state (is-true _ is));
    says_lines = λ state request is. IsLine-text most _ few (said state request (is-true _ is));
  }

  pub table_is_short : longest ≤ 65000 → most ≤ 256 → IsShort meaning
  table_is_short fits few = record {
    state = λ state is. omega (arith, fits, t.fits state (is-true _ is));
    output = λ state request is. omega (arith, few, (said state request (is-true _ is)).short);
  }

  -- the outputs of the module are those
  pub table_outputs : (state : State) (requests : List (List ℕ)) → IsGood state
      → outputs_from meaning (it.spelling state) requests ≡ outputs_by it state requests
  table_outputs state [] good = refl
  table_outputs state (request ∷ requests) good =
      let here = t.back state good in
      rw (t.says (it.spelling state) request, t.next (it.spelling state) request, here)
      (ap (λ more. (it.does state request).1 ∷ more)
      (table_outputs (it.does state request).0 requests (t.stays state request good)))

-- The laws of the counter.

-- a state has 8 bytes
record IsEight (state : List ℕ) : Type 0 where
  long : length state ≡ 8
  bytes : are_bytes state ≡ true

state-eight : (state : List ℕ) → is_state state ≡ true → IsEight state
unfolding is_state
state-eight state is = grind (arith, nat_tests)

-- a state's value has 64 bits
value-lt : (state : List ℕ) → is_state state ≡ true → number_of_eight_bytes state < 2 ^ 64
unfolding number_of_eight_bytes
value-lt state is =
    let eight = (state-eight state is).long in
    let small = All-are_bytes state (state-eight state is).bytes in
    omega (
      arith,
      small 0 0 (omega arith),
      small 1 0 (omega arith),
      small 2 0 (omega arith),
      small 3 0 (omega arith),
      small 4 0 (omega arith),
      small 5 0 (omega arith),
      small 6 0 (omega arith),
      small 7 0 (omega arith),
    )

-- the state of a value is one
is_state-eight : (value : ℕ) → is_state (eight_bytes value) ≡ true
unfolding is_state eight_bytes
is_state-eight value = simp is_byte-rem

-- what is said of 64 bits
abbrev Says64 : Output → Type 0
Says64 (Value value) = value < 2 ^ 64
Says64 _ = Unit {0}

-- its text is at most 20 bytes, with no LF
text_of-IsText : (says : Output) → Says64 says → IsText 20 (text_of says)
text_of-IsText says small = grind (arith, length-decimal, is_unbroken-decimal)

outcome_of-64 : (value : ℕ) (request : List ℕ) → value < 2 ^ 64
    → IsOutcome (λ v. v < 2 ^ 64) Says64 (outcome_of value (request_of (words_of request)))
outcome_of-64 value request small = grind (arith, nat_tests)

-- the counter is a module
counter_table : IsTable (table_by 0 number_of_eight_bytes eight_bytes request_of outcome_of text_of) counter (λ value. value < 2 ^ 64) 8 20
unfolding outcome_of_bytes
counter_table = record {
  begins = unfold eight_bytes in refl;
  first = omega arith;
  reads = value-lt;
  spells = λ value small. is_state-eight value;
  back = number_of_eight_bytes-eight;
  next = λ state request. refl;
  says = λ state request. refl;
  stays = λ value request small. (outcome_of-64 value request small).state;
  tells = λ value request small. text_of-IsText _ (outcome_of-64 value request small).said;
  fits = λ state is. omega (arith, (state-eight state is).long);
  bytes = λ state is. (state-eight state is).bytes;
}

pub counter_is_lawful : IsLawful counter
counter_is_lawful = table_is_lawful counter_table (omega arith) (omega arith)

-- a counter is short
pub counter_is_short : IsShort counter
counter_is_short = table_is_short counter_table (omega arith) (omega arith)

-- Laws of batches.

-- the members, joined by TABs, are the text
pub text_of-members_of : (batch : Batch) → join_with_byte 9 (members_of batch) ≡ batch_text batch
text_of-members_of (One request) = refl
text_of-members_of (Many text) = join_with_byte-slice_split 9 text

-- a batch has a member
pub size_of-pos : (batch : Batch) → 0 < size_of batch
size_of-pos (One request) = omega arith
size_of-pos (Many text) = omega (arith, length-slice_split is_tab text)

no_tab-step : (flag : Bool) (x : ℕ) (xs : List ℕ) → (flag || has_tab xs) ≡ false → (has_tab xs ≡ false → slice_split is_tab xs ≡ xs ∷ [])
    → cond flag ([] ∷ slice_split is_tab xs) (onto_first x (slice_split is_tab xs)) ≡ (x ∷ xs) ∷ []
no_tab-step true x xs none more = cc
no_tab-step false x xs none more = ap (λ parts. onto_first x parts) (more none)

-- where there is no TAB, the text is the one member
pub slice_split-no_tab : (text : List ℕ) → has_tab text ≡ false → slice_split is_tab text ≡ text ∷ []
slice_split-no_tab [] none = refl
slice_split-no_tab (x ∷ xs) none = no_tab-step (is_tab x) x xs none (slice_split-no_tab xs)

normal_members : (text : List ℕ) (flag : Bool) → has_tab text ≡ flag
    → members_of (if flag then Many text else One text) ≡ slice_split is_tab text
normal_members text true is = refl
normal_members text false is = sym (slice_split-no_tab text is)

-- the normal form has the same members
pub members_of-normal : (batch : Batch) → members_of (normal_batch batch) ≡ members_of batch
members_of-normal (One request) = refl
members_of-normal (Many text) = normal_members text (has_tab text) refl
