-- How a session that went on began: with nothing, or with the answer to what waited. With it: the
-- lines that were served are the first of those that were given; what a session tells is true of
-- the requests, from there on.
use Rattle.std.specs.Io.KnownBytes.{Consumes, IsAtEnd}
use Rattle.std.specs.List.{AllByRecursion}
use Rattle.std.proofs.Common.{◌≡◌, ◌∙◌, ◌⊎◌, ◌+◌, ℕ, true, false, List, [], ◌∷◌, ◌++◌, length, Option, None, Some, Result, Ok, Err, refl}
use Rattle.std.proofs.Common.{sym, ap, inl, inr, subst, arith, append_assoc, length-append, ◌-◌, ◌≤◌, Bool, drop, take, if◌then◌else◌}
use Rattle.std.proofs.lemmas.Bool.Decides.{nat_tests}
use Rattle.std.proofs.lemmas.List.{append-nil, append_cancel_left, take-append-drop}
use Rattle.std.proofs.Math.Seq.{drop-append-add, drop-append_seam}
use Rattle.mm_client.specs.ClientLife.{IsGiven, ClientMemory, lines_to_give, heard_position, replies_of, IsTrueReply}
use Rattle.mm_client.specs.declared.heard.HeardReply.{HeardReply}
use Rattle.mm_client.proofs.Below.{Variant, Meaning, Answer, Refusal, StoreFault, HostFault, Resumed, Start, Answered, StoreStanding}
use Rattle.mm_client.proofs.Below.{PendingRecord, HostStanding, HostGoesAfterAsk, HostGoesAfterFinding, HostGoesAfterOffer, HostResumes}
use Rattle.mm_client.proofs.Below.{result_of_keep, result_of_start, position_at, ServedCall, AreNewFrom, AreToldOnce, CallsRunOver}
use Rattle.mm_client.proofs.Below.{first_served_call, waiting_position, served_lines, IsNextOrLast, WaitsInSlots, one_waiting, saw_two}
use Rattle.mm_client.proofs.Below.{IsUnbroken, joined_lines, lines_of, lines_of-joined, lines_of-line, each_right, ServesCalls}
use Rattle.mm_client.proofs.Below.{SessionPlace, One, IsBatchStep, Told}

pub data Began (waiting : Option PendingRecord) (first : Resumed) : Type 0 where
  at_start : waiting ≡ None → (bytes : List ℕ) → first ≡ Start bytes → Began waiting first
  answers : (p : PendingRecord) → waiting ≡ Some p → (answer : Answer) → first ≡ Answered answer → Began waiting first

started : (zero : Result (List ℕ) StoreFault) (first : Resumed) → Ok first ≡ result_of_start zero → Began None first
started (Ok bytes) first e = at_start refl bytes (cc)
started (Err why) first e = absurd (cc)

kept : (p : PendingRecord) (answer : Answer) (written : Result Unit StoreFault) (first : Resumed)
    → Ok first ≡ result_of_keep answer written → Began (Some p) first
kept p answer (Ok it) first e = answers p refl answer (cc)
kept p answer (Err why) first e = absurd (cc)

asked : (p : PendingRecord) (gives : Result Answer Refusal) (old new : StoreStanding) (first : Resumed)
    → HostGoesAfterAsk gives old new (Ok first) → Began (Some p) first
asked p (Err why) old new first g = let e = g.1 in absurd (cc)
asked p (Ok answer) old new first g = kept p answer g.written first g.gives

module _ (variant : Variant) (meaning : Meaning) where
  offered : (offer : Result (List ℕ) StoreFault) (middle new : HostStanding) (p : PendingRecord) (first : Resumed)
      → HostGoesAfterOffer variant meaning offer middle new p (Ok first) → Began (Some p) first
  offered (Err why) middle new p first g = let e = g.1 in absurd (cc)
  offered (Ok offer) middle new p first g = asked p g.asked middle.kept new.kept first g.goes

  pub found : (waiting : Result (Option PendingRecord) StoreFault) (middle new : HostStanding) (first : Resumed)
      → HostGoesAfterFinding variant meaning waiting middle new (Ok first)
      → (w : Option PendingRecord) × (waiting ≡ Ok w) × Began w first
  found (Err why) middle new first g = let e = g.1 in absurd (cc)
  found (Ok None) middle new first g = (None, refl, started g.1.zero first g.1.gives)
  found (Ok (Some p)) middle new first g =
      (Some p, refl, offered g.offer (record middle { kept = g.middle }) new p first g.goes)

  -- what waits in the slots was found, and so the session began
  pub begins : (old new : HostStanding) (came : Result Resumed HostFault) (first : Resumed) (waiting : Option PendingRecord)
      → (r : HostResumes variant meaning old new came) → came ≡ Ok first → WaitsInSlots old.kept.slots waiting
      → (r.waiting ≡ Ok waiting) × Began waiting first
  begins old new came first waiting r is w =
      let f = found r.waiting (record old { kept = r.middle }) new first
      (subst (λ (x : Result Resumed HostFault). HostGoesAfterFinding variant meaning r.waiting (record old { kept = r.middle }) new x) is
      r.goes) in
      let saw = saw_two w.shown r.finds.two old.kept r.finds.middle r.middle r.waiting w.told r.finds.reads r.finds.goes in
      let same : f.0 ≡ waiting = one_waiting _ _ f.0 waiting (saw.waiting f.0 f.1) w.is_waiting in
      (f.1 ∙ ap (λ (x : Option PendingRecord). Ok x) same, subst (λ (x : Option PendingRecord). Began x first) same f.2)

-- Some requests are run by the answer to what waited: none more, or the one that waited as the next.
pub record FirstRun (meaning : Meaning) (waiting : Option PendingRecord) (first : Resumed) (calls : List ServedCall)
    (requests between : List (List ℕ)) : Type 0 where
  pub then_are : List (List ℕ)
  pub reached : position_at first ≡ length then_are
  pub before : CallsRunOver meaning requests (first_served_call waiting first) then_are
  pub run : CallsRunOver meaning then_are calls between
  pub new : AreNewFrom (length then_are) calls
  pub waited : (p : PendingRecord) → waiting ≡ Some p → p.position ≡ length then_are
  pub grown : (then_are ≡ requests)
      ⊎ ((p : PendingRecord) × (waiting ≡ Some p) × (p.position ≡ length requests + 1) × (then_are ≡ requests ++ p.request ∷ []))

first_answered : (meaning : Meaning) (p : PendingRecord) (answer : Answer) (calls : List ServedCall) (requests between : List (List ℕ))
    → IsNextOrLast requests (Some p) → AreToldOnce (length requests) (Some p) (record { line = p.request; answer = answer } ∷ calls)
    → CallsRunOver meaning requests (record { line = p.request; answer = answer } ∷ calls) between
    → FirstRun meaning (Some p) (Answered answer) calls requests between
first_answered meaning p answer calls requests between (inl next) once r =
    let fresh : answer.again ≡ false = once.2 ∙ grind (arith, nat_tests, next) in
    let step = rw fresh at r.1 in
    let size : length r.0 ≡ length requests + 1 =
    ap (λ (xs : List (List ℕ)). length xs) step.grown ∙ length-append requests (p.request ∷ []) in
    record {
      then_are = r.0;
      reached = omega (arith, once.1, next, size);
      before = (r.0, r.1, refl);
      run = r.2;
      new = subst (λ (n : ℕ). AreNewFrom n calls) (omega (arith, next, size)) once.3;
      waited = λ q e. omega (arith, next, size, ap (λ (x : Option PendingRecord). waiting_position x) e);
      grown = inr (p, refl, next, step.grown);
    }
first_answered meaning p answer calls requests between (inr last) once r =
    let again : answer.again ≡ true = once.2 ∙ grind (arith, nat_tests, last.0) in
    let step = rw again at r.1 in
    record {
      then_are = r.0;
      reached = omega (arith, once.1, last.0, ap (λ (xs : List (List ℕ)). length xs) step.2);
      before = (r.0, r.1, refl);
      run = r.2;
      new = subst (λ (n : ℕ). AreNewFrom n calls) (omega (arith, last.0, ap (λ (xs : List (List ℕ)). length xs) step.2)) once.3;
      waited = λ q e.
          omega (
            arith,
            last.0,
            ap (λ (xs : List (List ℕ)). length xs) step.2,
            ap (λ (x : Option PendingRecord). waiting_position x) e,
          );
      grown = inl step.2;
    }

pub first_run : (meaning : Meaning) (waiting : Option PendingRecord) (first : Resumed) (calls : List ServedCall)
    (requests between : List (List ℕ)) → Began waiting first → IsNextOrLast requests waiting
    → AreToldOnce (length requests) waiting (first_served_call waiting first ++ calls)
    → CallsRunOver meaning requests (first_served_call waiting first ++ calls) between
    → FirstRun meaning waiting first calls requests between
first_run meaning None (Start bytes) calls requests between b w once r = record {
  then_are = requests;
  reached = sym (ap (λ (xs : List (List ℕ)). length xs) w);
  before = refl;
  run = r;
  new = once;
  waited = λ p e. absurd (cc);
  grown = inl refl;
}
first_run meaning (Some p) (Answered answer) calls requests between b w once r =
    first_answered meaning p answer calls requests between w once r
first_run meaning None (Answered answer) calls requests between (at_start n bytes is) w once r = absurd (cc)
first_run meaning None (Answered answer) calls requests between (answers p n a is) w once r = absurd (cc)
first_run meaning (Some p) (Start bytes) calls requests between (at_start n b is) w once r = absurd (cc)
first_run meaning (Some p) (Start bytes) calls requests between (answers q n a is) w once r = absurd (cc)

-- each line is run once, at the end
pub lines_run : (meaning : Meaning) (calls : List ServedCall) (requests between : List (List ℕ)) → AreNewFrom (length requests) calls
    → CallsRunOver meaning requests calls between → between ≡ requests ++ served_lines calls
lines_run meaning [] requests between n r = r ∙ sym (append-nil requests)
lines_run meaning (c ∷ calls) requests between n r =
    let step = rw n.0 at r.1 in
    let size : length requests + 1 ≡ length r.0 =
    sym (ap (λ (xs : List (List ℕ)). length xs) step.grown ∙ length-append requests (c.line ∷ [])) in
    lines_run meaning calls r.0 between (subst (λ (t : ℕ). AreNewFrom t calls) size n.2) r.2
    ∙ ap (λ (xs : List (List ℕ)). xs ++ served_lines calls) step.grown ∙ append_assoc requests (c.line ∷ []) (served_lines calls)

-- The lines that were served are the first of those that were given.

pub served_unbroken : (variant : Variant) (meaning : Meaning) (calls : List ServedCall) (from to : SessionPlace)
    → ServesCalls variant meaning from calls to → AllByRecursion IsUnbroken (served_lines calls)
served_unbroken variant meaning [] from to s = tt
served_unbroken variant meaning (c ∷ calls) from to s = (
  s.within.unbroken,
  served_unbroken variant meaning calls (record { host = s.host; last = Answered c.answer }) to s.rest,
)

pub length-served : (calls : List ServedCall) → length (served_lines calls) ≡ length calls
length-served [] = refl
length-served (c ∷ calls) = omega (arith, length-served calls)

-- lines that begin so many bytes
pub joined_split : (lines served : List (List ℕ)) (rest : List ℕ) → AllByRecursion IsUnbroken lines → AllByRecursion IsUnbroken served
    → joined_lines served ++ rest ≡ joined_lines lines → lines ≡ served ++ lines_of rest
joined_split lines served rest a b e =
    sym (append-nil lines) ∙ sym (lines_of-joined lines [] a)
    ∙ ap lines_of (append-nil (joined_lines lines) ∙ sym e) ∙ lines_of-joined served rest b

-- a line in hand is the next
pub next_line : (more request held behind : List ℕ) → more ≡ request ++ 10 ∷ held → IsUnbroken request
    → lines_of (more ++ behind) ≡ request ∷ lines_of (held ++ behind)
next_line more request held behind e u =
    ap (λ (x : List ℕ). lines_of (x ++ behind)) e ∙ ap lines_of (append_assoc request (10 ∷ held) behind)
    ∙ lines_of-line request (held ++ behind) u

-- What was given, by the lines that were served of it; and all of it, where the input came whole to its end.
pub record LinesGo (lines : List (List ℕ)) (left left' : Option (List ℕ)) (served : List (List ℕ)) (more : List ℕ) : Type 0 where
  pub behind : List ℕ
  pub are : lines ≡ served ++ lines_of (more ++ behind)
  pub all : left ≡ Some (joined_lines lines) → IsAtEnd left' → more ≡ [] → lines ≡ served

some_same : (a b : List ℕ) → Some a ≡ Some b → a ≡ b
some_same a b e = cc

gone_all : (bytes lost rest more : List ℕ) (lines served : List (List ℕ)) → bytes ++ lost ≡ joined_lines lines → bytes ≡ joined_lines lines
    → rest ≡ [] → more ≡ [] → lines ≡ served ++ lines_of (more ++ (rest ++ lost)) → lines ≡ served
gone_all bytes lost rest more lines served front whole over ended e =
    let nothing : lost ≡ [] = append_cancel_left bytes lost [] (front ∙ sym whole ∙ sym (append-nil bytes)) in
    e ∙ ap (λ (x : List ℕ). served ++ lines_of x) (cc_nothing more rest lost ended over nothing) ∙ append-nil served
  where
    cc_nothing : (a b c : List ℕ) → a ≡ [] → b ≡ [] → c ≡ [] → a ++ (b ++ c) ≡ []
    cc_nothing a b c x y z = rw (x, y, z) refl

lines_go_by : (lines served : List (List ℕ)) (left' : Option (List ℕ)) (bytes lost taken more : List ℕ) → AllByRecursion IsUnbroken lines
    → AllByRecursion IsUnbroken served → bytes ++ lost ≡ joined_lines lines → Consumes (Some bytes) left' taken
    → taken ≡ joined_lines served ++ more → LinesGo lines (Some bytes) left' served more
lines_go_by lines served None bytes lost taken more a b front c took = absurd c
lines_go_by lines served (Some rest) bytes lost taken more a b front c took =
    let is : joined_lines served ++ (more ++ (rest ++ lost)) ≡ joined_lines lines =
    sym (append_assoc (joined_lines served) more (rest ++ lost)) ∙ ap (λ (x : List ℕ). x ++ (rest ++ lost)) (sym took)
    ∙ sym (append_assoc taken rest lost) ∙ ap (λ (x : List ℕ). x ++ lost) (sym c) ∙ front in
    let are = joined_split lines served (more ++ (rest ++ lost)) a b is in
    record {
      behind = rest ++ lost;
      are = are;
      all = λ whole end none. gone_all bytes lost rest more lines served front (some_same bytes (joined_lines lines) whole) end none are;
    }

pub lines_go : (lines served : List (List ℕ)) (left left' : Option (List ℕ)) (taken more : List ℕ) → AllByRecursion IsUnbroken lines
    → AllByRecursion IsUnbroken served → IsGiven lines left → Consumes left left' taken → taken ≡ joined_lines served ++ more
    → LinesGo lines left left' served more
lines_go lines served left left' taken more a b g c took =
    subst (λ (l : Option (List ℕ)). LinesGo lines l left' served more) (sym g.told)
    (lines_go_by lines served left' g.bytes g.lost taken more a b g.front
    (subst (λ (l : Option (List ℕ)). Consumes l left' taken) g.told c) took)

-- what is behind a position
pub rest_is : (before wanted requests later : List (List ℕ)) → length before ≤ length requests → requests ++ later ≡ before ++ wanted
    → drop (length requests - length before) wanted ≡ later
rest_is before wanted requests later h e =
    let n : ℕ = length requests - length before in
    let size : length before + n ≡ length requests = omega (arith, h) in
    sym (drop-append-add before wanted n) ∙ ap (λ (k : ℕ). drop k (before ++ wanted)) size
    ∙ ap (λ (xs : List (List ℕ)). drop (length requests) xs) (sym e) ∙ drop-append_seam requests later

pub drop_unbroken : (n : ℕ) (lines : List (List ℕ)) → AllByRecursion IsUnbroken lines → AllByRecursion IsUnbroken (drop n lines)
drop_unbroken n lines a =
    each_right IsUnbroken (take n lines) (drop n lines)
    (subst (λ (xs : List (List ℕ)). AllByRecursion IsUnbroken xs) (sym (take-append-drop n lines)) a)

given_by : (flag : Bool) (n : ℕ) (wanted : List (List ℕ)) → AllByRecursion IsUnbroken wanted
    → AllByRecursion IsUnbroken (if flag then drop n wanted else [])
given_by true n wanted a = drop_unbroken n wanted a
given_by false n wanted a = tt

pub given_unbroken : (base : ℕ) (wanted : List (List ℕ)) (m : ClientMemory) → AllByRecursion IsUnbroken wanted
    → AllByRecursion IsUnbroken (lines_to_give base wanted m)
given_unbroken base wanted m a = given_by m.is_sure (m.position - base) wanted a

-- What a session tells is true of the requests, from there on.

module _ (meaning : Meaning) where
  -- what was true stays true
  pub true_on : (requests more after : List (List ℕ)) (reply : HeardReply) → requests ++ more ≡ after → IsTrueReply meaning requests reply
      → IsTrueReply meaning after reply
  true_on requests more after reply e t = record {
    before = t.before;
    request = t.request;
    later = t.later ++ more;
    stands = sym e ∙ ap (λ (xs : List (List ℕ)). xs ++ more) t.stands ∙ append_assoc t.before (t.request ∷ t.later) more;
    position = t.position;
    says = t.says;
  }

  pub all_true_on : (requests more after : List (List ℕ)) (replies : List HeardReply) → requests ++ more ≡ after
      → AllByRecursion (IsTrueReply meaning requests) replies → AllByRecursion (IsTrueReply meaning after) replies
  all_true_on requests more after [] e t = tt
  all_true_on requests more after (reply ∷ replies) e t =
      (true_on requests more after reply e t.0, all_true_on requests more after replies e t.1)

  -- a step grows the requests, and tells what is true of them
  pub step_grows : (again : Bool) (requests after : List (List ℕ)) (line : List ℕ) (before : ℕ) (outputs : List (List ℕ))
      → IsBatchStep meaning requests (One line) (Told again before outputs) after → (more : List (List ℕ)) × (requests ++ more ≡ after)
  step_grows false requests after line before outputs s = (line ∷ [], sym s.grown)
  step_grows true requests after line before outputs s = ([], append-nil requests ∙ sym s.2)

  pub step_true : (again : Bool) (requests after : List (List ℕ)) (line output : List ℕ) (position : ℕ) → 1 ≤ position
      → IsBatchStep meaning requests (One line) (Told again (position - 1) (output ∷ [])) after
      → IsTrueReply meaning after (record { position = position; output = output })
  step_true false requests after line output position least s = record {
    before = requests;
    request = line;
    later = [];
    stands = s.grown;
    position = omega (arith, s.counted);
    says = let said = s.said in cc;
  }
  step_true true requests after line output position least s = record {
    before = s.0;
    request = line;
    later = [];
    stands = s.2 ∙ s.1.grown;
    position = omega (arith, s.1.counted);
    says = let said = s.1.said in cc;
  }

  pub runs_grow : (calls : List ServedCall) (requests after : List (List ℕ)) → CallsRunOver meaning requests calls after
      → (more : List (List ℕ)) × (requests ++ more ≡ after)
  runs_grow [] requests after r = ([], append-nil requests ∙ sym r)
  runs_grow (c ∷ calls) requests after r =
      let s = step_grows c.answer.again requests r.0 c.line (c.answer.position - 1) (c.answer.output ∷ []) r.1 in
      let m = runs_grow calls r.0 after r.2 in
      (s.0 ++ m.0, sym (append_assoc requests s.0 m.0) ∙ ap (λ (xs : List (List ℕ)). xs ++ m.0) s.1 ∙ m.1)

  -- each has a position behind some request
  abbrev pub ArePositive : List ServedCall → Type 0
  ArePositive calls = AllByRecursion (λ (c : ServedCall). 1 ≤ c.answer.position) calls

  pub told_true : (calls : List ServedCall) (requests after : List (List ℕ)) → ArePositive calls
      → CallsRunOver meaning requests calls after → AllByRecursion (IsTrueReply meaning after) (replies_of calls)
  told_true [] requests after p r = tt
  told_true (c ∷ calls) requests after p r =
      let m = runs_grow calls r.0 after r.2 in (
        true_on r.0 m.0 after (record { position = c.answer.position; output = c.answer.output }) m.1
            (step_true c.answer.again requests r.0 c.line c.answer.output c.answer.position p.0 r.1),
        told_true calls r.0 after p.1 r.2,
      )

  new_positive : (calls : List ServedCall) (total : ℕ) → AreNewFrom total calls → ArePositive calls
  new_positive [] total n = tt
  new_positive (c ∷ calls) total n = (omega (arith, n.1), new_positive calls (total + 1) n.2)

  -- the first one at that of what waited
  pub first_positive : (waiting : Option PendingRecord) (first : Resumed) (calls : List ServedCall) (total : ℕ)
      → 1 ≤ total ⊎ (first_served_call waiting first ≡ []) → position_at first ≡ total → AreNewFrom total calls
      → ArePositive (first_served_call waiting first ++ calls)
  first_positive None first calls total least e n = new_positive calls total n
  first_positive (Some p) (Start bytes) calls total least e n = new_positive calls total n
  first_positive (Some p) (Answered answer) calls total (inl least) e n = (omega (arith, e, least), new_positive calls total n)
  first_positive (Some p) (Answered answer) calls total (inr none) e n = absurd (cc)

  -- what is heard stays within the requests
  pub heard_within : (requests : List (List ℕ)) (before : ℕ) (replies : List HeardReply) → before ≤ length requests
      → AllByRecursion (IsTrueReply meaning requests) replies → heard_position before replies ≤ length requests
  heard_within requests before [] h t = h
  heard_within requests before (reply ∷ replies) h t =
      let size = ap (λ (xs : List (List ℕ)). length xs) (t.0).stands
      ∙ length-append (t.0).before ((t.0).request ∷ (t.0).later) in
      heard_within requests reply.position replies (omega (arith, size, (t.0).position)) t.1

-- the position of the last that was told

heard_last : (variant : Variant) (meaning : Meaning) (calls : List ServedCall) (from to : SessionPlace)
    → ServesCalls variant meaning from calls to → heard_position (position_at from.last) (replies_of calls) ≡ position_at to.last
heard_last variant meaning [] from to s = sym (ap (λ (p : SessionPlace). position_at p.last) s)
heard_last variant meaning (c ∷ calls) from to s =
    heard_last variant meaning calls (record { host = s.host; last = Answered c.answer }) to s.rest

pub heard_all : (variant : Variant) (meaning : Meaning) (waiting : Option PendingRecord) (first : Resumed) (calls : List ServedCall)
    (before : ℕ) (from to : SessionPlace) → Began waiting first → from.last ≡ first → (waiting ≡ None → before ≡ 0)
    → ServesCalls variant meaning from calls to
    → heard_position before (replies_of (first_served_call waiting first ++ calls)) ≡ position_at to.last
heard_all variant meaning None (Start bytes) calls before from to b is none s =
    ap (λ (n : ℕ). heard_position n (replies_of calls)) (none refl ∙ sym (ap position_at is))
    ∙ heard_last variant meaning calls from to s
heard_all variant meaning (Some p) (Answered answer) calls before from to b is none s =
    ap (λ (n : ℕ). heard_position n (replies_of calls)) (sym (ap position_at is)) ∙ heard_last variant meaning calls from to s
heard_all variant meaning None (Answered answer) calls before from to (at_start n bytes e) is none s = absurd (cc)
heard_all variant meaning None (Answered answer) calls before from to (answers p n a e) is none s = absurd (cc)
heard_all variant meaning (Some p) (Start bytes) calls before from to (at_start n b e) is none s = absurd (cc)
heard_all variant meaning (Some p) (Start bytes) calls before from to (answers q n a e) is none s = absurd (cc)
