-- A turn: a line is answered, or the input ends, by what the reader read and what the player did. What was pending before it may be sent
-- first, and nothing is pending where it ends the run.
use Rattle.mm_play.proofs.Below.{◌≡◌, ◌∙◌, ◌+◌, ℕ, Bool, true, false, List, [], ◌∷◌, ◌++◌, take, drop, Result, Ok, Err, Option, refl, sym}
use Rattle.mm_play.proofs.Below.{ap, append_assoc, arith, inl, inr, length-take, take-append-drop, ReplayFault, Memory, BadLine, LineLong}
use Rattle.mm_play.proofs.Below.{TooMuch, longest_line, LineRefusal, refusal_at, stopped_outcome, outcome_of_rest, HoldsOfWhole}
use Rattle.mm_play.proofs.Below.{PlayerAnswers, TurnPlays, TurnAdvances, ◌≢◌, length, subst, append-nil, Appends-trans, Consumes-nil}
use Rattle.mm_play.proofs.Below.{IsUnbroken, ReadFault, WriteFault, PlayOutcome, outcome_after_bytes, IsFrontOf, SendsDue, SendsAndAnswers}
use Rattle.mm_play.proofs.Below.{IsSent, PlaysNext}
use Rattle.mm_base.specs.Input.{IsLineFront}
use Rattle.mm_base.specs.Streams.{ReadsNextLine}
use Rattle.mm_base.specs.declared.lines.LineFault.{LineFault}
use Rattle.mm_base.specs.declared.lines.LineFault.TheVariants as fault
use Rattle.mm_base.specs.declared.lines.Read.{Read}
use Rattle.mm_base.specs.declared.lines.Read.TheVariants.{Line, Tail}
use Rattle.mm_play.proofs.Runs.{outcome_of_rest-refused, outcome_of_rest-long, outcome_of_rest-tail, outcome_of_rest-answered}
use Rattle.std.proofs.Math.Seq.{take-append_seam}
use Rattle.std.proofs.lemmas.List.Elements.{All-take}
use Rattle.mm_bytes.specs.declared.fault.WriteFault as write
use Rattle.mm_play.proofs.Telling.{for_whole}

module _ {P : Type 0} (answer : P → List ℕ → Result (List ℕ × P) LineRefusal) (closing : P → Option (List ℕ)) (number : ℕ) (player next : P)
    (left left' : Option (List ℕ)) (held held' pending pending' : List ℕ) where
  -- the line is refused, whatever follows it
  refused_by : (bytes line : List ℕ) (why : LineRefusal) (fault : ReplayFault) → bytes ≡ line ++ 10 ∷ held' → IsLineFront longest_line line
      → answer player line ≡ Err why → refusal_at number why ≡ fault
      → HoldsOfWhole left' bytes (λ input. outcome_of_rest answer closing number player input ≡ stopped_outcome fault)
  refused_by bytes line why fault cut within refused is =
      inl (λ rest. rw (cut, append_assoc line (10 ∷ held') rest, ← is)
      (outcome_of_rest-refused answer closing number player line (held' ++ rest) why within.unbroken within.short refused))

  went_by_line : (bytes line : List ℕ) (result : Result Bool ReplayFault) → bytes ≡ line ++ 10 ∷ held' → IsLineFront longest_line line
      → PlayerAnswers number (answer player line) next pending pending' result
      → TurnPlays answer (outcome_of_rest answer closing number player) player next left' bytes held' pending pending' result
  went_by_line bytes line (Ok true) cut within a =
      (a.1, a.3, record { line = line; unbroken = within.unbroken; short = within.short; cut = cut; answered = a.2 })
  went_by_line bytes line (Ok false) cut within a = let clash : false ≡ true = a.0 in cc
  went_by_line bytes line (Err Memory) cut within a = a
  went_by_line bytes line (Err (BadLine n)) cut within a = (a.0, refused_by bytes line a.1 (BadLine n) cut within a.2 a.3)
  went_by_line bytes line (Err TooMuch) cut within a = (a.0, refused_by bytes line a.1 TooMuch cut within a.2 a.3)
  went_by_line bytes line _ cut within a = absurd a

  -- A line was read, and the player answered it or didn't.
  pub advanced_by_line : (result : Result Bool ReplayFault) (read : Result Read LineFault) (what : Read) (line : _)
      → ReadsNextLine longest_line left left' held read held' → read ≡ Ok what → what ≡ Line line
      → PlayerAnswers number (answer player line.now) next pending pending' result
      → TurnAdvances answer closing number player next left left' held held' pending pending' result
  advanced_by_line result read what line n is what_is a =
      let m = rw (is, what_is) at n in
      record {
        taken = m.takes.taken;
        consumed = m.takes.consumed;
        went = went_by_line (held ++ m.takes.taken) line.now result (m.takes.goes ∙ append_assoc line.now (10 ∷ []) held') m.reads a;
      }

module _ {P : Type 0} (answer : P → List ℕ → Result (List ℕ × P) LineRefusal) (closing : P → Option (List ℕ)) (number : ℕ) (player : P)
    (left left' : Option (List ℕ)) (held held' pending : List ℕ) (read : Result Read LineFault)
    (n : ReadsNextLine longest_line left left' held read held') where
  -- The input ended within a line.
  pub advanced_by_tail : (what : Read) → read ≡ Ok what → what ≡ Tail
      → TurnAdvances answer closing number player player left left' held held' pending pending (Err (BadLine number))
  advanced_by_tail what is what_is =
      let m = rw (is, what_is) at n in
      record {
        taken = m.takes.taken;
        consumed = m.takes.consumed;
        went = (
          refl,
          inr (
            m.reads.2,
            rw m.takes.goes (outcome_of_rest-tail answer closing number player held' m.reads.0.unbroken m.reads.1 m.reads.0.short),
          ),
        );
      }

  -- Too many bytes came with no LF.
  pub advanced_by_long : (why : LineFault) → read ≡ Err why → why ≡ fault.LineLong
      → TurnAdvances answer closing number player player left left' held held' pending pending (Err (LineLong number))
  advanced_by_long why is why_is =
      let m = rw (is, why_is) at n in
      let front : List ℕ = take (longest_line + 1) held' in
      let back : List ℕ = drop (longest_line + 1) held' in
      record {
        taken = m.takes.taken;
        consumed = m.takes.consumed;
        went = (
          refl,
          inl (λ rest. ap (λ b. outcome_of_rest answer closing number player (b ++ rest))
              (m.takes.goes ∙ sym (take-append-drop (longest_line + 1) held'))
              ∙ ap (outcome_of_rest answer closing number player) (append_assoc front back rest)
              ∙ outcome_of_rest-long answer closing number player front (back ++ rest) m.reads.unbroken
              (omega (arith, m.reads.long, length-take (longest_line + 1) held'))),
        );
      }

-- ---- fronts

-- a front of some bytes is a front of these and more
front_of_more : (sent bytes more : List ℕ) → IsFrontOf sent bytes → IsFrontOf sent (bytes ++ more)
front_of_more sent bytes more h = (h.0 ++ more, sym (append_assoc sent h.0 more) ∙ ap (λ b. b ++ more) h.1)

-- the same bytes stand in front of both
pub front_after : (sent more all : List ℕ) → IsFrontOf more all → IsFrontOf (sent ++ more) (sent ++ all)
front_after sent more all h = (h.0, append_assoc sent more h.0 ∙ ap (λ b. sent ++ b) h.1)

front_of_front : (a b c : List ℕ) → IsFrontOf a b → IsFrontOf b c → IsFrontOf a c
front_of_front a b c first second = subst (λ (x : List ℕ). IsFrontOf a x) second.1 (front_of_more a b second.0 first)

-- ---- bytes that were pending first

module _ {P : Type 0} (answer : P → List ℕ → Result (List ℕ × P) LineRefusal) (rest : List ℕ → PlayOutcome P) (player next : P)
    (left : Option (List ℕ)) (bytes held pending said front : List ℕ) where
  went_behind : (result : Result Bool ReplayFault) → TurnPlays answer rest player next left bytes held pending said result
      → TurnPlays answer rest player next left bytes held (front ++ pending) (front ++ said) result
  went_behind (Ok true) w = (w.0, rw (w.1, append_assoc) refl, w.2)
  went_behind (Ok false) w = (w.0, w.1, w.2, rw (w.3, append_assoc) refl)
  went_behind (Err WriteFault) w =
      for_whole left bytes (λ input. IsFrontOf said (pending ++ (rest input).written))
      (λ input. IsFrontOf (front ++ said) ((front ++ pending) ++ (rest input).written))
      (λ input h. rw append_assoc (front_after front said (pending ++ (rest input).written) h)) w
  went_behind (Err Memory) w = ap (λ b. front ++ b) w
  went_behind (Err fault) w = (ap (λ b. front ++ b) w.0, w.1)

-- ---- a front of what is pending is a front of what the run writes

module _ {P : Type 0} (answer : P → List ℕ → Result (List ℕ × P) LineRefusal) (closing : P → Option (List ℕ)) (number : ℕ) (player next : P)
    (left : Option (List ℕ)) (bytes held pending said sent : List ℕ) where
  abbrev IsCut : List ℕ → List ℕ → Type 0
  IsCut front input = IsFrontOf front (pending ++ (outcome_of_rest answer closing number player input).written)

  -- nothing was answered
  unanswered : said ≡ pending → IsFrontOf sent said → HoldsOfWhole left bytes (IsCut sent)
  unanswered same front =
      inl (λ more. front_of_more sent pending (outcome_of_rest answer closing number player (bytes ++ more)).written (rw same at front))

  went_cut : (result : Result Bool ReplayFault)
      → TurnPlays answer (outcome_of_rest answer closing number player) player next left bytes held pending said result
      → IsFrontOf sent said → HoldsOfWhole left bytes (IsCut sent)
  went_cut (Ok true) w front =
      inl (λ more. let after : PlayOutcome P = outcome_of_rest answer closing (number + 1) next (held ++ more) in
      let is : outcome_of_rest answer closing number player (bytes ++ more) ≡ outcome_after_bytes w.0 after =
      rw (w.2.cut, append_assoc) (outcome_of_rest-answered answer closing number player w.2.line (held ++ more) w.0 next
      w.2.unbroken w.2.short
      w.2.answered) in
      rw (is, ← append_assoc) (front_of_more sent (pending ++ w.0) after.written (rw w.1 at front)))
  went_cut (Ok false) w front = inr (w.0, rw w.2 (rw w.3 at front))
  went_cut (Err WriteFault) w front = for_whole left bytes (IsCut said) (IsCut sent) (λ input h. front_of_front sent said _ front h) w
  went_cut (Err Memory) w front = unanswered w front
  went_cut (Err fault) w front = unanswered w.0 front

-- ---- turns

-- the sink failed before the line was read
pub turn_cut : {P : Type 0} (answer : P → List ℕ → Result (List ℕ × P) LineRefusal) (closing : P → Option (List ℕ))
    (number : ℕ) (player : P)
    (left : Option (List ℕ)) (held held' : List ℕ) {received received' : Option (List ℕ)} {pending pending' : List ℕ}
    {due : Result (Unit {0}) write.WriteFault} {fault : write.WriteFault}
    → SendsDue received received' pending pending' due → due ≡ Err fault
    → PlaysNext answer closing number player player left left held held' received received' pending pending' (Err WriteFault)
turn_cut answer closing number player left held held' {pending = pending} m is =
    let none = rw is at m.lost in
    record {
      taken = [];
      sent = m.sent;
      consumed = Consumes-nil left;
      appended = m.appended;
      went = rw (none, append-nil) (inl (λ more. front_of_more m.sent pending _ (m.unsent, sym m.parts)));
      is_sent = none;
    }

unbroken_front : (held taken : List ℕ) → IsUnbroken (held ++ taken) → IsUnbroken held
unbroken_front held taken h = subst IsUnbroken (take-append_seam held taken) (All-take (λ (b : ℕ). b ≢ 10) (length held) (held ++ taken) h)

none_is_sent : (pending : List ℕ) (result : Result Bool ReplayFault) → pending ≡ [] → IsSent pending result
none_is_sent pending (Ok true) none = tt
none_is_sent pending _ none = none

-- a line was read, or not, once what was due was sent
module _ {P : Type 0} {answer : P → List ℕ → Result (List ℕ × P) LineRefusal} {closing : P → Option (List ℕ)} {number : ℕ} {player next : P}
    {left left' : Option (List ℕ)} {held here held' : List ℕ} {received received' : Option (List ℕ)} {pending waiting more : List ℕ}
    {due : Result (Unit {0}) write.WriteFault} {done : Unit {0}} {found : Result Bool ReplayFault}
    (same : here ≡ held) (m : SendsDue received received' pending waiting due) (is : due ≡ Ok done)
    (a : TurnAdvances answer closing number player next left left' here held' waiting more found) where
  -- what was sent first, and what was pending still
  abbrev first : List ℕ
  first = m.sent

  parted : pending ≡ first ++ waiting
  parted = m.parts ∙ ap (λ b. first ++ b) (rw is at m.kept)

  abbrev WentBy : List ℕ → List ℕ → Result Bool ReplayFault → Type 0
  WentBy pending said came =
      TurnPlays answer (outcome_of_rest answer closing number player) player next left' (held ++ a.taken) held' pending said came

  -- by what came, and with what was sent first
  came_now : (came : Result Bool ReplayFault) → found ≡ came → WentBy waiting more came
  came_now came found_is = rw (← found_is, ← same) a.went

  came_behind : (came : Result Bool ReplayFault) → found ≡ came → WentBy pending (first ++ more) came
  came_behind came found_is =
      subst (λ (p : List ℕ). WentBy p (first ++ more) came) (sym parted)
      (went_behind answer (outcome_of_rest answer closing number player) player next left' (held ++ a.taken) held' waiting more first came
      (came_now came found_is))

  -- the source failed: nothing is pending
  pub turn_unread : (IsUnbroken held → waiting ≡ []) → found ≡ Err ReadFault
      → PlaysNext answer closing number player next left left' held held' received received' pending more (Err ReadFault)
  turn_unread none came_is =
      let failed = came_now (Err ReadFault) came_is in
      record {
        taken = a.taken;
        sent = first;
        consumed = a.consumed;
        appended = m.appended;
        went = came_behind (Err ReadFault) came_is;
        is_sent = failed.0 ∙ none (unbroken_front held a.taken failed.1.unbroken);
      }

  -- all was sent, or the sink failed
  pub turn_ends : {received'' : Option (List ℕ)} {pending' : List ℕ} {came result : Result Bool ReplayFault} → found ≡ came
      → SendsAndAnswers came received' received'' more result → pending' ≡ []
      → PlaysNext answer closing number player next left left' held held' received received'' pending pending' result
  turn_ends {received'' = received''} {pending' = pending'} {came = came} {result = result} found_is s none =
      let went = came_behind came found_is in
      record {
        taken = a.taken;
        sent = first ++ s.sent;
        consumed = a.consumed;
        appended = Appends-trans received received' received'' first s.sent m.appended s.appended;
        went = rw (none, append-nil) (elim s.then_so [
          | inl whole ↦
              let sent : more ≡ s.sent = s.parts ∙ ap (λ p. s.sent ++ p) whole.1 ∙ append-nil s.sent in
              rw (whole.0, ← sent) went
          | inr cut ↦ rw cut (went_cut answer closing number player next left' (held ++ a.taken) held' pending (first ++ more)
              (first ++ s.sent) came went (front_after first s.sent more (s.unsent, sym s.parts)))
        ]);
        is_sent = none_is_sent pending' result none;
      }
