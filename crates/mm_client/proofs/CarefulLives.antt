-- A careful client: whatever others do, his lines are run in order, each at most once.
use Rattle.std.specs.List.{AllByRecursion}
use Rattle.std.proofs.Common.{◌≡◌, ◌∙◌, ◌⊎◌, ◌+◌, ◌-◌, ◌≤◌, ℕ, Bool, true, false, List, [], ◌∷◌, ◌++◌, length, take, drop, Option, None, Some, Result}
use Rattle.std.proofs.Common.{refl, sym, ap, inl, inr, subst, arith, append_assoc, length-append, nat_eq, if◌then◌else◌}
use Rattle.std.proofs.lemmas.Bool.Decides.{nat_tests}
use Rattle.std.proofs.lemmas.List.{append-nil, take-append-drop}
use Rattle.mm_client.proofs.Below.{last_bytes_in}
use Rattle.mm_client.proofs.Below.{Variant, Meaning, One, IsUnbroken, Standing, IsBatchStep, Told, CallsRunOver, HasUntoldRequest, ServedCall, Resumed}
use Rattle.mm_client.proofs.Below.{Start, Answered, PendingRecord, IsSession, SessionStanding, SessionFault, SessionGoesAfterResume, SessionSteps, host_of}
use Rattle.mm_client.proofs.Below.{first_served_call, served_calls_in, served_calls_of, served_lines, found_record, IsInHand, lines_of, BytesBeginWith}
use Rattle.mm_client.proofs.Below.{Does, Holds, IsLife, LifePart, LifeStage, PartLeads, PartSteps, LifeFollows, Program, each_left}
use Rattle.mm_host.specs.Sessions.{SessionGoesOn}
use Rattle.mm_client.specs.declared.heard.HeardReply.{HeardReply}
use Rattle.mm_client.specs.Careful.{AreSomeOf, CarefulClientsRunOnce, CarefulMemory, IsCarefulLife, IsHisPart, careful_memory_after, careful_memory_at, careful_lines, careful_runs}
use Rattle.mm_client.specs.Careful.{is_told_again, lines_if_his, lines_run_by, new_lines_of, part_lines, untold_lines}
use Rattle.mm_client.specs.ClientLife.{IsGiven, IsHeard, replies_of, IsTrueReply}
use Rattle.mm_client.proofs.AnyLives.{IsGrown, asking_tells, part_tells}
use Rattle.mm_client.proofs.Beginning.{LinesGo, drop_unbroken, lines_go, next_line, served_unbroken, heard_within, step_grows}

take_unbroken : (n : ℕ) (lines : List (List ℕ)) → AllByRecursion IsUnbroken lines → AllByRecursion IsUnbroken (take n lines)
take_unbroken n lines a =
    each_left IsUnbroken (take n lines) (drop n lines)
    (subst (λ (xs : List (List ℕ)). AllByRecursion IsUnbroken xs) (sym (take-append-drop n lines)) a)

-- some of some lines

none_some : (lines : List (List ℕ)) → AreSomeOf [] lines
none_some [] = refl
none_some (line ∷ lines) = inl (none_some lines)

all_some : (lines : List (List ℕ)) → AreSomeOf lines lines
all_some [] = refl
all_some (line ∷ lines) = inr (lines, refl, all_some lines)

some_then : (a b xs ys : List (List ℕ)) → AreSomeOf a xs → AreSomeOf b ys → AreSomeOf (a ++ b) (xs ++ ys)
some_then a b [] ys e h = rw e h
some_then a b (x ∷ xs) ys (inl later) h = inl (some_then a b xs ys later h)
some_then a b (x ∷ xs) ys (inr now) h =
    inr (now.0 ++ b, ap (λ (zs : List (List ℕ)). zs ++ b) now.1, some_then now.0 b xs ys now.2 h)

some_more : (a xs ys : List (List ℕ)) → AreSomeOf a xs → AreSomeOf a (xs ++ ys)
some_more a xs ys h =
    subst (λ (zs : List (List ℕ)). AreSomeOf zs (xs ++ ys)) (append-nil a) (some_then a [] xs ys h (none_some ys))

new_by : (again : Bool) (line : List ℕ) (rest served : List (List ℕ)) → AreSomeOf rest served
    → AreSomeOf (if again then rest else line ∷ rest) (line ∷ served)
new_by true line rest served h = inl h
new_by false line rest served h = inr (rest, refl, h)

some_new : (calls : List ServedCall) → AreSomeOf (new_lines_of calls) (served_lines calls)
some_new [] = refl
some_new (c ∷ calls) = new_by c.answer.again c.line (new_lines_of calls) (served_lines calls) (some_new calls)

-- how many requests a session ran

grown_length : (a b : List (List ℕ)) → IsGrown a b → length a ≤ length b
grown_length a b g = omega (arith, ap (λ (xs : List (List ℕ)). length xs) g.1, length-append a g.0)

module _ (meaning : Meaning) where
  step_counts : (again : Bool) (requests after rest : List (List ℕ)) (line : List ℕ) (before : ℕ) (outputs : List (List ℕ)) (n : ℕ)
      → IsBatchStep meaning requests (One line) (Told again before outputs) after → length after + length rest ≤ n
      → length requests + length (if again then rest else line ∷ rest) ≤ n
  step_counts true requests after rest line before outputs n s h = omega (arith, h, ap (λ (xs : List (List ℕ)). length xs) s.2)
  step_counts false requests after rest line before outputs n s h =
      omega (arith, h, ap (λ (xs : List (List ℕ)). length xs) s.grown, length-append requests (line ∷ []))

  runs_count : (calls : List ServedCall) (requests between : List (List ℕ)) → CallsRunOver meaning requests calls between
      → length requests + length (new_lines_of calls) ≤ length between
  runs_count [] requests between r = omega (arith, ap (λ (xs : List (List ℕ)). length xs) r)
  runs_count (c ∷ calls) requests between r =
      step_counts c.answer.again requests r.0 (new_lines_of calls) c.line (c.answer.position - 1) (c.answer.output ∷ []) (length between)
      r.1 (runs_count calls r.0 between r.2)

  first_counts : (w : Option PendingRecord) (first : Resumed) (calls : List ServedCall) (requests between : List (List ℕ))
      → CallsRunOver meaning requests (first_served_call w first ++ calls) between
      → length requests + length (new_lines_of calls) ≤ length between
  first_counts None first calls requests between r = runs_count calls requests between r
  first_counts (Some p) (Start bytes) calls requests between r = runs_count calls requests between r
  first_counts (Some p) (Answered answer) calls requests between r =
      let grown = step_grows meaning answer.again requests r.0 p.request (answer.position - 1) (answer.output ∷ []) r.1 in
      omega (arith, grown_length requests r.0 grown, runs_count calls r.0 between r.2)

untold_counts : {hand : List ℕ → Type 0} {result : Result Unit SessionFault} (between after : List (List ℕ))
    (u : (after ≡ between) ⊎ HasUntoldRequest hand result between after) → length between + length (untold_lines u) ≤ length after
untold_counts between after (inl same) = omega (arith, ap (λ (xs : List (List ℕ)). length xs) same)
untold_counts between after (inr u) =
    omega (arith, ap (λ (xs : List (List ℕ)). length xs) u.grown, length-append between (u.request ∷ []))

module _ {variant : Variant} {meaning : Meaning} {old new : SessionStanding} {result : Result Unit SessionFault}
    (s : IsSession variant meaning old new result) (w : Option PendingRecord) (requests after lines : List (List ℕ))
    (unbroken : AllByRecursion IsUnbroken lines) (given : IsGiven lines old.left) where
  abbrev pub Goes : Type 0
  Goes = SessionGoesAfterResume variant meaning s.begun s.middle (host_of new) new.left s.taken s.sent result

  -- What a session ran of its lines: some of them, and the requests grew by as many.
  record RunsSome (ran : List (List ℕ)) : Type 0 where
    some : AreSomeOf ran lines
    many : length requests + length ran ≤ length after

  hand_some : (g : SessionGoesOn variant meaning s.begun s.middle (host_of new) new.left s.taken s.sent
      result) (go : LinesGo lines old.left new.left (served_lines g.lines.calls) g.lines.more) (between : List (List ℕ))
      (u : (after ≡ between)
      ⊎ HasUntoldRequest (λ request. (held : List ℕ) × BytesBeginWith g.lines.more request held) result between after)
      → AreSomeOf (untold_lines u) (lines_of (g.lines.more ++ go.behind))
  hand_some g go between (inl same) = none_some (lines_of (g.lines.more ++ go.behind))
  hand_some g go between (inr u) =
      let next = next_line g.lines.more u.request u.in_hand.0 go.behind u.in_hand.1.cut u.in_hand.1.within.unbroken in
      subst (λ (xs : List (List ℕ)). AreSomeOf (u.request ∷ []) xs) (sym next)
      (inr ([], refl, none_some (lines_of (u.in_hand.0 ++ go.behind))))

  runs_some : (goes : Goes)
      (steps : SessionSteps meaning requests (served_calls_in w goes) (IsInHand w goes) (last_bytes_in goes) result after)
      → RunsSome (lines_run_by goes (untold_lines steps.committed))
  runs_some (inl e) steps = record {
    some = none_some lines;
    many = omega (
      arith,
      untold_counts steps.between after steps.committed,
      ap (λ (xs : List (List ℕ)). length xs) steps.run,
    );
  }
  runs_some (inr g) steps =
      let served : List (List ℕ) = served_lines g.lines.calls in
      let go : LinesGo lines old.left new.left served g.lines.more =
      lines_go lines served old.left new.left s.taken g.lines.more unbroken
      (served_unbroken variant meaning g.lines.calls (record { host = s.middle; last = g.first }) g.lines.at g.lines.serves) given
      s.consumed g.lines.took in
      record {
        some = subst (λ (xs : List (List ℕ)). AreSomeOf (new_lines_of g.lines.calls ++ untold_lines steps.committed) xs) (sym go.are)
            (some_then (new_lines_of g.lines.calls) (untold_lines steps.committed) served (lines_of (g.lines.more ++ go.behind))
            (some_new g.lines.calls) (hand_some g go steps.between steps.committed));
        many = omega (
          arith,
          first_counts meaning w g.first g.lines.calls requests steps.between steps.run,
          untold_counts steps.between after steps.committed,
          length-append (new_lines_of g.lines.calls) (untold_lines steps.committed),
        );
      }

-- What he took for done, and what his last session may have run, are all that was run of his lines.
record Careful (wanted requests : List (List ℕ)) (m : CarefulMemory) (ran : List (List ℕ)) : Type 0 where
  gone : List (List ℕ)
  all : gone ++ m.left ≡ wanted
  unbroken : AllByRecursion IsUnbroken m.left
  settled : List (List ℕ)
  pending : List (List ℕ)
  are : ran ≡ settled ++ pending
  first : AreSomeOf settled gone
  rest : AreSomeOf pending m.left
  known : m.position + length pending ≤ length requests
  none : m.is_sure ≡ true → pending ≡ []

none_left : (xs : List (List ℕ)) → length xs ≡ 0 → xs ≡ []
none_left [] e = refl
none_left (x ∷ xs) e = absurd (omega (arith, e))

nat_same : (a b : ℕ) → nat_eq a b ≡ true → a ≡ b
nat_same a b e = grind (arith, nat_tests, e)

-- the one reply that was heard
told_again : (position : ℕ) (replies lost : List HeardReply) (told : List ServedCall) (number : ℕ)
    → is_told_again position replies ≡ true → replies ++ lost ≡ replies_of told
    → (told ≡ []) ⊎ ((c : ServedCall) × (told ≡ c ∷ []) × (number ≡ c.answer.position)) → number ≡ position
told_again position [] lost told number e front one = absurd (cc)
told_again position (r ∷ s ∷ replies) lost told number e front one = absurd (cc)
told_again position (r ∷ []) lost told number e front (inl none) =
    let is : r ∷ lost ≡ [] = front ∙ ap replies_of none in absurd (cc)
told_again position (r ∷ []) lost told number e front (inr c) =
    let is : r ∷ lost ≡ record { position = (c.0).answer.position; output = (c.0).answer.output } ∷ [] = front ∙ ap replies_of c.1 in
    let same : r ≡ record { position = (c.0).answer.position; output = (c.0).answer.output } = cc in
    c.2 ∙ sym (ap (λ (x : HeardReply). x.position) same) ∙ nat_same r.position position e

nothing_given : (left : Option (List ℕ)) → IsGiven [] left → left ≡ Some []
nothing_given left g =
    let none : g.bytes ≡ [] = empty_front g.bytes g.lost g.front in g.told ∙ ap (λ (x : List ℕ). Some x) none
  where
    empty_front : (a b : List ℕ) → a ++ b ≡ [] → a ≡ []
    empty_front [] b e = refl
    empty_front (x ∷ a) b e = absurd (cc)

module _ (variant : Variant) (meaning : Meaning) (wanted : List (List ℕ)) where
  other_step : (requests after : List (List ℕ)) (m : CarefulMemory) (ran : List (List ℕ)) → IsGrown requests after
      → Careful wanted requests m ran → Careful wanted after m ran
  other_step requests after m ran g k = record {
    gone = k.gone;
    all = k.all;
    unbroken = k.unbroken;
    settled = k.settled;
    pending = k.pending;
    are = k.are;
    first = k.first;
    rest = k.rest;
    known = omega (arith, k.known, grown_length requests after g);
    none = k.none;
  }

  ran_settled : (requests : List (List ℕ)) (m : CarefulMemory) (ran : List (List ℕ)) (k : Careful wanted requests m ran)
      → m.is_sure ≡ true → AreSomeOf ran k.gone
  ran_settled requests m ran k sure =
      subst (λ (xs : List (List ℕ)). AreSomeOf xs k.gone)
      (sym (k.are ∙ ap (λ (xs : List (List ℕ)). k.settled ++ xs) (k.none sure) ∙ append-nil k.settled)) k.first

  module _ (old : Standing) (p : Program) (new : Standing) (s : PartLeads variant meaning old (Holds p) new)
      (requests after : List (List ℕ)) (steps : PartSteps variant meaning old (Holds p) new s requests after) (ran : List (List ℕ)) where
    abbrev run : List (List ℕ)
    run = lines_run_by s.goes (untold_lines steps.committed)

    his_by : (left : List (List ℕ)) (position : ℕ) (flag : Bool) (count : ℕ) (replies : List HeardReply) (whole : Bool)
        → IsGiven (careful_lines (record { left = left; position = position; is_sure = flag }) count) p.old.left
        → IsHeard (served_calls_of s) p.result (record { replies = replies; is_whole = whole })
        → Careful wanted requests (record { left = left; position = position; is_sure = flag }) ran
        → Careful wanted after (careful_memory_after (record { left = left; position = position; is_sure = flag }) count
        (record { replies = replies; is_whole = whole })) (ran ++ run)
    his_by left position true count replies true given heard k =
        let lines : List (List ℕ) = take count left in
        let some = runs_some s (found_record s.resumes.waiting) requests after lines
        (take_unbroken count left k.unbroken) given s.goes steps in
        let tells = part_tells variant meaning old (Holds p) new s requests after steps in
        let trues = each_left (IsTrueReply meaning after) replies heard.lost
        (subst (λ (xs : List HeardReply). AllByRecursion (IsTrueReply meaning after) xs) (sym heard.front) tells.trues) in
        record {
          gone = k.gone ++ lines;
          all = append_assoc k.gone lines (drop count left)
              ∙ ap (λ (xs : List (List ℕ)). k.gone ++ xs) (take-append-drop count left) ∙ k.all;
          unbroken = drop_unbroken count left k.unbroken;
          settled = ran ++ run;
          pending = [];
          are = sym (append-nil (ran ++ run));
          first = some_then ran run k.gone lines
              (ran_settled requests (record { left = left; position = position; is_sure = true }) ran k refl) some.some;
          rest = none_some (drop count left);
          known = omega (
            arith,
            heard_within meaning after position replies (omega (arith, k.known, grown_length requests after tells.grown)) trues,
          );
          none = λ e. refl;
        }
    his_by left position true count replies false given heard k =
        let lines : List (List ℕ) = take count left in
        let some = runs_some s (found_record s.resumes.waiting) requests after lines
        (take_unbroken count left k.unbroken) given s.goes steps in
        record {
          gone = k.gone;
          all = k.all;
          unbroken = k.unbroken;
          settled = ran;
          pending = run;
          are = refl;
          first = ran_settled requests (record { left = left; position = position; is_sure = true }) ran k refl;
          rest = subst (λ (xs : List (List ℕ)). AreSomeOf run xs) (take-append-drop count left)
              (some_more run lines (drop count left) some.some);
          known = omega (arith, k.known, some.many);
          none = λ e. absurd (cc);
        }
    his_by left position false count replies whole given heard k =
        let some = runs_some s (found_record s.resumes.waiting) requests after [] tt given s.goes steps in
        let tells = part_tells variant meaning old (Holds p) new s requests after steps in
        let asked = asking_tells variant meaning old [] tt p new s requests requests after refl steps (nothing_given p.old.left given) in
        let one : (served_calls_of s ≡ []) ⊎ ((c : ServedCall) × (served_calls_of s ≡ c ∷ []) × (length after ≡ c.answer.position)) =
        elim asked [ inl none ↦ inl none | inr c ↦ inr (c.0, c.1, c.2.number) ] in
        record {
          gone = k.gone;
          all = k.all;
          unbroken = k.unbroken;
          settled = k.settled;
          pending = k.pending;
          are = ap (λ (xs : List (List ℕ)). ran ++ xs) some.some ∙ append-nil ran ∙ k.are;
          first = k.first;
          rest = k.rest;
          known = omega (arith, k.known, grown_length requests after tells.grown);
          none = λ e.
              let same = told_again position replies heard.lost (served_calls_of s) (length after) e heard.front one in
              none_left k.pending (omega (arith, same, k.known, grown_length requests after tells.grown));
        }

  careful_part : (old : Standing) (part : LifePart) (new : Standing) (f : PartLeads variant meaning old part new)
      (requests after : List (List ℕ)) (steps : PartSteps variant meaning old part new f requests after) (m between : CarefulMemory)
      (c : IsHisPart variant meaning old part new f m between ⊎ (between ≡ m)) (ran : List (List ℕ))
      → Careful wanted requests m ran
      → Careful wanted after between (ran ++ lines_if_his c (part_lines variant meaning old part new f requests after steps))
  careful_part old (Holds p) new f requests after steps m between (inl his) ran k =
      subst (λ (x : CarefulMemory). Careful wanted after x (ran ++ lines_run_by f.goes (untold_lines steps.committed))) (sym his.4)
      (his_by old p new f requests after steps ran m.left m.position m.is_sure his.0 (his.1).replies (his.1).is_whole his.2 his.3 k)
  careful_part old (Does deed) new f requests after steps m between (inl his) ran k = absurd his
  careful_part old part new f requests after steps m between (inr other) ran k =
      subst (λ (xs : List (List ℕ)). Careful wanted after between xs) (sym (append-nil ran))
      (subst (λ (x : CarefulMemory). Careful wanted after x ran) (sym other)
      (other_step requests after m ran (part_tells variant meaning old part new f requests after steps).grown k))

  careful_life : (stages : List LifeStage) (start : Standing) (f : IsLife variant meaning start stages) (m after : CarefulMemory)
      (c : IsCarefulLife variant meaning start stages f m after) (requests left : List (List ℕ))
      (l : LifeFollows variant meaning start stages f requests left) (ran : List (List ℕ)) → Careful wanted requests m ran
      → AreSomeOf (ran ++ careful_runs variant meaning start stages f m after c requests left l) wanted
  careful_life [] start f m after c requests left l ran k =
      subst (λ (xs : List (List ℕ)). AreSomeOf xs wanted) (sym (append-nil ran ∙ k.are))
      (subst (λ (xs : List (List ℕ)). AreSomeOf (k.settled ++ k.pending) xs) k.all
      (some_then k.settled k.pending k.gone m.left k.first k.rest))
  careful_life (stage ∷ stages) start f m after c requests left l ran k =
      let here : List (List ℕ) =
      lines_if_his c.1 (part_lines variant meaning start stage.part stage.after f.0 requests l.0 l.1) in
      subst (λ (xs : List (List ℕ)). AreSomeOf xs wanted)
      (append_assoc ran here (careful_runs variant meaning stage.after stages f.1 c.0 after c.2 l.0 left l.2))
      (careful_life stages stage.after f.1 c.0 after c.2 l.0 left l.2 (ran ++ here)
      (careful_part start stage.part stage.after f.0 requests l.0 l.1 m c.0 c.1 ran k))

pub careful_once : CarefulClientsRunOnce
careful_once variant meaning start stages f wanted position after c known requests l unbroken least =
    careful_life variant meaning wanted stages start f (careful_memory_at wanted position) after c known requests l [] (record {
      gone = [];
      all = refl;
      unbroken = unbroken;
      settled = [];
      pending = [];
      are = refl;
      first = refl;
      rest = none_some wanted;
      known = omega (arith, least);
      none = λ e. refl;
    })
