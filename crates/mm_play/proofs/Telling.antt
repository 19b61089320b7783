-- From the run line by line to what is out as a whole, by what a player's answers mean. With it: an
-- input is its lines and its tail, which have no LF; why a run over an input stops, of an input of
-- which some first bytes are known.
use Rattle.std.specs.Io.KnownBytes.{IsAtEnd}
use Rattle.std.specs.Prelude.{◌==◌, replicate}
use Rattle.std.proofs.Common.{length-append}
use Rattle.std.proofs.lemmas.Bool.{eqb-true}
use Rattle.std.proofs.lemmas.List.{length-replicate}
use Rattle.std.proofs.lemmas.List.Elements.{All-nil, All-cons, All-append, All-replicate}
use Rattle.mm_play.specs.Headline.{stream_standing}
use Rattle.mm_play.proofs.Below.{◌≡◌, ◌≢◌, ◌∙◌, ℕ, Bool, true, false, cond, List, [], ◌∷◌, ◌++◌, refl, ap, subst, AllByRecursion}
use Rattle.mm_play.proofs.Below.{IsUnbroken, lines_of, tail_of, joined_lines, lines_with_front, tail_with_front, ◌+◌, ◌<◌, length, nat_lt}
use Rattle.mm_play.proofs.Below.{Result, Ok, Err, Option, None, Some, sym, append-nil, append_assoc, arith, inl, inr, ◌⊎◌, ReplayFault}
use Rattle.mm_play.proofs.Below.{BadLine, LineLong, TooMuch, longest_line, LineRefusal, Bad, Much, PlayOutcome, play_outcome}
use Rattle.mm_play.proofs.Below.{stopped_outcome, outcome_after_bytes, outcome_of_lines, outcome_of_tail, outcome_at_end, outcome_then}
use Rattle.mm_play.proofs.Below.{outcome_of_rest, outcome_of_input, HoldsOfWhole, Memory, ReadFault, WriteFault, AnswerFits, IsFrontOf}
use Rattle.mm_play.proofs.Below.{AnswersFirst, AnswersAllLines, AnswersWholeInput, RefusesMuch, TellsOutput, StopsAnywhere, StopsBeforeLine}
use Rattle.mm_play.proofs.Below.{Consumes, IsUnrefused, PlaysInput}
use Rattle.mm_play.proofs.Runs.{is_longer, Long, outcome_of, Refuses, Replies, outcome_of_rest-joined, outcome_of_rest-long, Turned, turned}
use Rattle.mm_play.proofs.Runs.{not_ok}

-- An input is its lines and its tail, which have no LF.

whole_by : (is_break : Bool) (byte : ℕ) (lines : List (List ℕ)) (tail : List ℕ) → (is_break ≡ true → byte ≡ 10)
    → byte ∷ (joined_lines lines ++ tail)
    ≡ joined_lines (cond is_break ([] ∷ lines) (lines_with_front (byte ∷ []) lines)) ++ cond is_break tail
    (tail_with_front (byte ∷ []) lines tail)
whole_by true byte lines tail lf = ap (λ n. n ∷ (joined_lines lines ++ tail)) (lf refl)
whole_by false byte [] tail lf = refl
whole_by false byte (line ∷ lines) tail lf = refl

pub whole_input : (bytes : List ℕ) → bytes ≡ joined_lines (lines_of bytes) ++ tail_of bytes
whole_input [] = refl
whole_input (byte ∷ rest) =
    ap (λ (l : List ℕ). byte ∷ l) (whole_input rest)
    ∙ whole_by (byte == 10) byte (lines_of rest) (tail_of rest) (λ h. eqb-true byte 10 h)

abbrev NoBreak : ℕ → Type 0
NoBreak byte = byte ≢ 10

unbroken_nil : IsUnbroken []
unbroken_nil = All-nil NoBreak

other_byte : (byte : ℕ) → (byte == 10) ≡ false → byte ≢ 10
other_byte byte h same = let e : (10 == 10) ≡ false = subst (λ (n : ℕ). (n == 10) ≡ false) same h in cc

module _ (byte : ℕ) (other : byte ≢ 10) where
  lines_by : (lines : List (List ℕ)) → AllByRecursion IsUnbroken lines → AllByRecursion IsUnbroken (lines_with_front (byte ∷ []) lines)
  lines_by [] each = tt
  lines_by (line ∷ lines) each = (All-cons NoBreak byte line other each.0, each.1)

  tail_by : (lines : List (List ℕ)) (tail : List ℕ) → IsUnbroken tail → IsUnbroken (tail_with_front (byte ∷ []) lines tail)
  tail_by [] tail each = All-cons NoBreak byte tail other each
  tail_by (line ∷ lines) tail each = each

pub unbroken_lines : (bytes : List ℕ) → AllByRecursion IsUnbroken (lines_of bytes)
unbroken_lines [] = tt
unbroken_lines (byte ∷ rest) = by (byte == 10) refl (unbroken_lines rest)
  where
    by : (is_break : Bool) → (byte == 10) ≡ is_break → AllByRecursion IsUnbroken (lines_of rest)
        → AllByRecursion IsUnbroken (cond is_break ([] ∷ lines_of rest) (lines_with_front (byte ∷ []) (lines_of rest)))
    by true is each = (unbroken_nil, each)
    by false is each = lines_by byte (other_byte byte is) (lines_of rest) each

pub unbroken_tail : (bytes : List ℕ) → IsUnbroken (tail_of bytes)
unbroken_tail [] = unbroken_nil
unbroken_tail (byte ∷ rest) = by (byte == 10) refl (unbroken_tail rest)
  where
    by : (is_break : Bool) → (byte == 10) ≡ is_break → IsUnbroken (tail_of rest)
        → IsUnbroken (cond is_break (tail_of rest) (tail_with_front (byte ∷ []) (lines_of rest) (tail_of rest)))
    by true is each = each
    by false is each = tail_by byte (other_byte byte is) (lines_of rest) (tail_of rest) each

-- Why a run over an input stops, of an input of which some first bytes are known.

module _ {P : Type 0} (answer : P → List ℕ → Result (List ℕ × P) LineRefusal) where
  -- the first of these lines is why a run stops
  abbrev pub Stops : ℕ → P → List ℕ → ReplayFault → Type 0
  Stops number next line (BadLine n) = (n ≡ number) × (answer next line ≡ Err Bad)
  Stops number next line (LineLong n) = (n ≡ number) × (longest_line < length line)
  Stops number next line TooMuch = answer next line ≡ Err Much
  Stops number next line _ = ⊥

  -- The first lines were answered, and the next one stopped the run.
  pub record HaltsAt (number : ℕ) (player : P) (lines : List (List ℕ)) (written : List ℕ) (fault : ReplayFault) : Type 0 where
    pub done : List (List ℕ)
    pub line : List ℕ
    pub rest : List (List ℕ)
    pub next : P
    pub split : lines ≡ done ++ line ∷ rest
    pub ran : outcome_of_lines answer number player done ≡ play_outcome written (Ok next)
    pub stops : Stops (number + length done) next line fault

  halts_first : (number : ℕ) (player : P) (line : List ℕ) (lines : List (List ℕ)) (why : ReplayFault) → Stops number player line why
      → HaltsAt number player (line ∷ lines) [] why
  halts_first number player line lines why s = record {
    done = [];
    line = line;
    rest = lines;
    next = player;
    split = refl;
    ran = refl;
    stops = subst (λ n. Stops n player line why) (omega arith) s;
  }

  -- a run over lines ended so
  abbrev pub RanBy : ℕ → P → List (List ℕ) → List ℕ → Result P ReplayFault → Type 0
  RanBy number player lines written (Ok next) = outcome_of_lines answer number player lines ≡ play_outcome written (Ok next)
  RanBy number player lines written (Err fault) = HaltsAt number player lines written fault

  abbrev RanIn : ℕ → P → List (List ℕ) → PlayOutcome P → Type 0
  RanIn number player lines t = RanBy number player lines t.written t.outcome

  more_ran : (number : ℕ) (player : P) (line : List ℕ) (lines : List (List ℕ)) (reply : List ℕ × P) (written : List ℕ)
      (outcome : Result P ReplayFault) → nat_lt longest_line (length line) ≡ false → answer player line ≡ Ok reply
      → RanBy (number + 1) reply.1 lines written outcome → RanBy number player (line ∷ lines) (reply.0 ++ written) outcome
  more_ran number player line lines reply written (Ok next) short is h = rw (short, is) (ap (outcome_after_bytes reply.0) h)
  more_ran number player line lines reply written (Err fault) short is h = record {
    done = line ∷ h.done;
    line = h.line;
    rest = h.rest;
    next = h.next;
    split = ap (λ (ls : List (List ℕ)). line ∷ ls) h.split;
    ran = rw (short, is) (ap (outcome_after_bytes reply.0) h.ran);
    stops = subst (λ n. Stops n h.next h.line fault) (omega arith) h.stops;
  }

  pub ran_by : (lines : List (List ℕ)) (number : ℕ) (player : P)
      → (let t = outcome_of_lines answer number player lines in RanBy number player lines t.written t.outcome)
  ran_by [] number player = refl
  ran_by (line ∷ lines) number player = by (λ next. ran_by lines (number + 1) next) (turned answer number player line lines)
    where
      by : {t : PlayOutcome P} → ((next : P) → RanIn (number + 1) next lines (outcome_of_lines answer (number + 1) next lines))
          → Turned answer number player line lines t → RanIn number player (line ∷ lines) t
      by on (Long long is) = rw is (halts_first number player line lines (LineLong number) (refl, long))
      by on (Refuses Bad said is) = rw is (halts_first number player line lines (BadLine number) (refl, said))
      by on (Refuses Much said is) = rw is (halts_first number player line lines TooMuch said)
      by on (Replies reply short said is) = rw is (more_ran number player line lines reply _ _ short said (on reply.1))

  -- the bytes behind the last line stop a run
  abbrev pub TailStops : List ℕ → ℕ → ReplayFault → Type 0
  TailStops tail number (BadLine n) = n ≡ number
  TailStops tail number (LineLong n) = (n ≡ number) × (longest_line < length tail)
  TailStops tail number _ = ⊥

  module _ (closing : P → Option (List ℕ)) (player : P) where
    -- the input doesn't end here: either no last lines are written, or bytes are left
    abbrev pub NeverEnds : P → List ℕ → Type 0
    NeverEnds next tail = (last : List ℕ) → closing next ≡ Some last → tail ≡ [] → ⊥

    no_last : (next : P) (tail : List ℕ) → closing next ≡ None → NeverEnds next tail
    no_last next tail none last is empty = cc

    some_left : (next : P) (byte : ℕ) (bytes : List ℕ) → NeverEnds next (byte ∷ bytes)
    some_left next byte bytes last is empty = cc

    -- What a run over an input comes to: all lines are answered, and the last ones are written; or it stops at a line, or behind all.
    abbrev pub ComesTo : List (List ℕ) → List ℕ → List ℕ → Result P ReplayFault → Type 0
    ComesTo lines tail written (Ok end) = (said : List ℕ) × (last : List ℕ) × (tail ≡ [])
        × (outcome_of_lines answer 1 player lines ≡ play_outcome said (Ok end))
        × (closing end ≡ Some last) × (written ≡ said ++ last)
    ComesTo lines tail written (Err fault) = HaltsAt 1 player lines written fault
        ⊎ ((next : P) × (outcome_of_lines answer 1 player lines ≡ play_outcome written (Ok next)) × TailStops tail (1 + length lines) fault
        × NeverEnds next tail)

    abbrev ComesIn : List (List ℕ) → List ℕ → PlayOutcome P → Type 0
    ComesIn lines tail t = ComesTo lines tail t.written t.outcome

    ends_at : (lines : List (List ℕ)) (tail said : List ℕ) (next : P) (why : ReplayFault) → outcome_of_lines answer 1 player lines
        ≡ play_outcome said (Ok next)
        → TailStops tail (1 + length lines) why → NeverEnds next tail → ComesTo lines tail (said ++ []) (Err why)
    ends_at lines tail said next why went s never =
        inr (next, went ∙ ap (λ (w : List ℕ). play_outcome w (Ok next)) (sym (append-nil said)), s, never)

    comes_by : (lines : List (List ℕ)) (tail written : List ℕ) (outcome : Result P ReplayFault) → RanBy 1 player lines written outcome
        → ComesIn lines tail (outcome_then (outcome_of_tail closing (1 + length lines) tail) written outcome)
    comes_by lines tail written (Err why) went = inl went
    comes_by lines [] written (Ok next) went = by (closing next) refl
      where
        by : (last : Option (List ℕ)) → closing next ≡ last
            → ComesIn lines [] (outcome_after_bytes written (outcome_at_end (1 + length lines) next last))
        by None is = ends_at lines [] written next (BadLine (1 + length lines)) went refl (no_last next [] is)
        by (Some last) is = (written, last, refl, went, is, refl)
    comes_by lines (byte ∷ bytes) written (Ok next) went = by (nat_lt longest_line (length (byte ∷ bytes))) refl
      where
        by : (long : Bool) → nat_lt longest_line (length (byte ∷ bytes)) ≡ long → ComesIn lines (byte ∷ bytes)
            (outcome_after_bytes written (cond long (stopped_outcome (LineLong (1 + length lines)))
            (stopped_outcome {P = P} (BadLine (1 + length lines)))))
        by true is =
            ends_at lines (byte ∷ bytes) written next (LineLong (1 + length lines)) went
            (refl, is_longer (length (byte ∷ bytes)) is) (some_left next byte bytes)
        by false is = ends_at lines (byte ∷ bytes) written next (BadLine (1 + length lines)) went refl (some_left next byte bytes)

    pub comes : (input : List ℕ) → ComesIn (lines_of input) (tail_of input) (outcome_of_input answer closing player input)
    comes input = comes_by (lines_of input) (tail_of input) _ _ (ran_by (lines_of input) 1 player)

    pub comes_so : (input written : List ℕ) (outcome : Result P ReplayFault) → outcome_of_input answer closing player input
        ≡ play_outcome written outcome
        → ComesTo (lines_of input) (tail_of input) written outcome
    comes_so input written outcome is =
        subst (λ (t : PlayOutcome P). ComesTo (lines_of input) (tail_of input) t.written t.outcome) is (comes input)

    -- Where a run stops so whatever follows, it doesn't stop behind all lines: more bytes there would be too many.
    long_bytes : List ℕ
    long_bytes = replicate (longest_line + 1) 0

    zero_unbroken : IsUnbroken long_bytes
    unfolding long_bytes
    zero_unbroken = All-replicate (λ byte. byte ≢ 10) (longest_line + 1) 0 (λ h. cc)

    long_size : length long_bytes ≡ longest_line + 1
    unfolding long_bytes
    long_size = length-replicate {A = ℕ} (longest_line + 1) 0

    goes_long : (input written : List ℕ) (next : P) → outcome_of_lines answer 1 player (lines_of input) ≡ play_outcome written (Ok next)
        → outcome_of_input answer closing player (input ++ long_bytes) ≡ play_outcome written (Err (LineLong (1 + length (lines_of input))))
    goes_long input written next went =
        let tail = tail_of input in
        let lines = lines_of input in
        let split : input ++ long_bytes ≡ joined_lines lines ++ (tail ++ long_bytes) =
        ap (λ (l : List ℕ). l ++ long_bytes) (whole_input input) ∙ append_assoc (joined_lines lines) tail long_bytes in
        let more : outcome_of_input answer closing player (joined_lines lines ++ (tail ++ long_bytes))
        ≡ outcome_after_bytes written (outcome_of_rest answer closing (1 + length lines) next (tail ++ long_bytes)) =
        outcome_of_rest-joined answer closing player lines (tail ++ long_bytes) written next (unbroken_lines input) went in
        let unbroken : IsUnbroken (tail ++ long_bytes) =
        All-append (λ byte. byte ≢ 10) tail long_bytes (unbroken_tail input) zero_unbroken in
        let size : length (tail ++ long_bytes) ≡ length tail + (longest_line + 1) =
        length-append tail long_bytes ∙ ap (λ (n : ℕ). length tail + n) long_size in
        let long : outcome_of_rest answer closing (1 + length lines) next ((tail ++ long_bytes) ++ [])
        ≡ stopped_outcome (LineLong (1 + length lines)) =
        outcome_of_rest-long answer closing (1 + length lines) next (tail ++ long_bytes) [] unbroken (omega (arith, size)) in
        ap (outcome_of_input answer closing player) split ∙ more
        ∙ ap (outcome_after_bytes written) (ap (outcome_of_rest answer closing (1 + length lines) next)
        (sym (append-nil (tail ++ long_bytes))) ∙ long)
        ∙ ap (λ (w : List ℕ). play_outcome w (Err (LineLong (1 + length lines)))) (append-nil written)

    no_bad : (number m : ℕ) → (let a : Result P ReplayFault = Err (LineLong number) in a ≡ Err (BadLine m)) → ⊥
    no_bad number m h = cc

    pub bad_at : (left : Option (List ℕ)) (taken sent : List ℕ) (number : ℕ)
        → HoldsOfWhole left taken (λ input. outcome_of_input answer closing player input ≡ play_outcome sent (Err (BadLine number)))
        → HaltsAt 1 player (lines_of taken) sent (BadLine number)
        ⊎ (IsAtEnd left × ((next : P) × (outcome_of_lines answer 1 player (lines_of taken) ≡ play_outcome sent (Ok next))
        × (number ≡ 1 + length (lines_of taken)) × NeverEnds next (tail_of taken)))
    bad_at left taken sent number (inr w) = elim (comes_so taken sent (Err (BadLine number)) w.1) [ inl h ↦ inl h | inr t ↦ inr (w.0, t) ]
    bad_at left taken sent number (inl each) =
        elim (comes_so taken sent (Err (BadLine number))
        (ap (outcome_of_input answer closing player) (sym (append-nil taken)) ∙ each [])) [
          | inl h ↦ inl h
          | inr t ↦ absurd (no_bad (1 + length (lines_of taken)) number (outcome_of (sym (goes_long taken sent t.0 t.1) ∙ each long_bytes)))
        ]

-- From the run line by line to what is out as a whole, by what a player's answers mean; and that an input that is answered to its end is
-- not refused.

-- it holds of the whole input, and so does what follows from it
pub for_whole : (left : Option (List ℕ)) (taken : List ℕ) (A B : List ℕ → Type 0) → ((input : List ℕ) → A input → B input)
    → HoldsOfWhole left taken A → HoldsOfWhole left taken B
for_whole left taken A B lift w = elim w [ inl h ↦ inl (λ rest. lift (taken ++ rest) (h rest)) | inr h ↦ inr (h.0, lift taken h.1) ]

-- What a player's answers mean: those to lines that were answered, those to all lines of an input, and why a line is one
-- too many.
pub record Means {P : Type 0} (answer : P → List ℕ → Result (List ℕ × P) LineRefusal) (closing : P → Option (List ℕ)) (first : P)
    (some all : List (List ℕ) → List ℕ → Type 0) (much : List (List ℕ) → List (List ℕ) → Type 0) : Type 0 where
  pub lines : (lines : List (List ℕ)) (written : List ℕ) → AnswersAllLines answer first lines written → some lines written
  pub whole : (lines : List (List ℕ)) (written : List ℕ) → AnswersWholeInput answer closing first lines written → all lines written
  pub turn : (done rest : List (List ℕ)) → RefusesMuch answer first done rest → much done rest

module _ {P : Type 0} (answer : P → List ℕ → Result (List ℕ × P) LineRefusal) (closing : P → Option (List ℕ)) (first next : P)
    {some all : List (List ℕ) → List ℕ → Type 0} {much : List (List ℕ) → List (List ℕ) → Type 0}
    (m : Means answer closing first some all much) where
  -- All was answered, or it stopped: at a line, or behind them all.
  abbrev ComesSo : List ℕ → List ℕ → Result P ReplayFault → Type 0
  ComesSo input written outcome = ComesTo answer closing first (lines_of input) (tail_of input) written outcome

  answered_whole : (input written : List ℕ) (end : P) → ComesSo input written (Ok end) → all (lines_of input) written
  answered_whole input written end (said, last, none, went, is, whole) =
      m.whole (lines_of input) written (record { next = end; said = said; last = last; ran = went; closed = is; whole = whole })

  answered_first : (input written : List ℕ) (fault : ReplayFault) (stops : List (List ℕ) → List (List ℕ) → Type 0)
      → ((h : HaltsAt answer 1 first (lines_of input) written fault) → stops h.done (h.line ∷ h.rest))
      → (TailStops answer (tail_of input) (1 + length (lines_of input)) fault → stops (lines_of input) [])
      → ComesSo input written (Err fault) → AnswersFirst some stops (lines_of input) written
  answered_first input written fault stops at_line behind (inl h) = record {
    done = h.done;
    rest = h.line ∷ h.rest;
    split = h.split;
    answered = m.lines h.done written (h.next, h.ran);
    stopped = at_line h;
  }
  answered_first input written fault stops at_line behind (inr (next, went, s, never)) = record {
    done = lines_of input;
    rest = [];
    split = sym (append-nil (lines_of input));
    answered = m.lines (lines_of input) written (next, went);
    stopped = behind s;
  }

  either : (input written : List ℕ) (outcome : Result P ReplayFault) → ComesSo input written outcome
      → AnswersFirst some StopsAnywhere (lines_of input) written ⊎ all (lines_of input) written
  either input written (Ok end) c = inr (answered_whole input written end c)
  either input written (Err fault) c = inl (answered_first input written fault StopsAnywhere (λ h. tt) (λ s. tt) c)

  stopped_at : (left : Option (List ℕ)) (taken sent : List ℕ) (fault : ReplayFault) (stops : List (List ℕ) → List (List ℕ) → Type 0)
      → ((input : List ℕ) (h : HaltsAt answer 1 first (lines_of input) sent fault) → stops h.done (h.line ∷ h.rest))
      → ((input : List ℕ) → TailStops answer (tail_of input) (1 + length (lines_of input)) fault → stops (lines_of input) [])
      → HoldsOfWhole left taken (λ input. outcome_of_input answer closing first input ≡ play_outcome sent (Err fault))
      → HoldsOfWhole left taken (λ input. AnswersFirst some stops (lines_of input) sent)
  stopped_at left taken sent fault stops at_line behind =
      for_whole left taken (λ input. outcome_of_input answer closing first input ≡ play_outcome sent (Err fault)) _
      (λ input is. answered_first input sent fault stops (at_line input) (behind input)
      (comes_so answer closing first input sent (Err fault) is))

  -- What is out tells what the answers mean.
  pub tells : {T : Type 0} (left : Option (List ℕ)) (taken sent : List ℕ) (result : Result T ReplayFault)
      → AnswerFits (outcome_of_lines answer 1 first) (outcome_of_input answer closing first) next left taken sent result
      → TellsOutput some all much left taken sent result
  tells left taken sent (Ok _) s = answered_whole taken sent next (comes_so answer closing first taken sent (Ok next) s.1)
  tells left taken sent (Err ReadFault) s = (s.0, m.lines (lines_of taken) sent s.1)
  tells left taken sent (Err WriteFault) s =
      for_whole left taken (λ input. IsFrontOf sent (outcome_of_input answer closing first input).written) (λ input. (written : List ℕ)
      × IsFrontOf sent written × (AnswersFirst some StopsAnywhere (lines_of input) written ⊎ all (lines_of input) written))
      (λ input front. let t = outcome_of_input answer closing first input in
      (t.written, front, either input t.written t.outcome (comes answer closing first input))) s
  tells left taken sent (Err Memory) s = (s.0, s.1, m.lines (lines_of s.0) sent (s.2, s.3))
  tells left taken sent (Err (BadLine n)) s =
      stopped_at left taken sent (BadLine n) (StopsBeforeLine n) (λ input h. omega (arith, h.stops.0)) (λ input t. omega (arith, t)) s
  tells left taken sent (Err (LineLong n)) s =
      stopped_at left taken sent (LineLong n) (StopsBeforeLine n) (λ input h. omega (arith, h.stops.0)) (λ input t. omega (arith, t.0)) s
  tells left taken sent (Err TooMuch) s =
      stopped_at left taken sent TooMuch much (λ input h. m.turn h.done (h.line ∷ h.rest) (record {
        next = h.next;
        said = sent;
        line = h.line;
        more = h.rest;
        ran = h.ran;
        follows = refl;
        refused = h.stops;
      })) (λ input t. absurd t) s

-- an answer other than Ok means the same for any call
pub settles_err : {P : Type 0} (A B : Type 0) (lines : List (List ℕ) → PlayOutcome P) (whole : List ℕ → PlayOutcome P) (next : P)
    (left : Option (List ℕ))
    (taken sent : List ℕ) (fault : ReplayFault)
    → (let r : Result A ReplayFault = Err fault in AnswerFits lines whole next left taken sent r)
    → (let r : Result B ReplayFault = Err fault in AnswerFits lines whole next left taken sent r)
settles_err A B lines whole next left taken sent Memory s = s
settles_err A B lines whole next left taken sent _ s = s

-- A play from the first stage, with the answer that its caller makes of the play's.
module _ {P R : Type 0} {answer : P → List ℕ → Result (List ℕ × P) LineRefusal} {closing : P → Option (List ℕ)} {first player next : P}
    {left left' received received' : Option (List ℕ)} {result : Result (Unit {0}) ReplayFault} where
  as_said : player ≡ first → PlaysInput answer closing player next (stream_standing left received)
      (stream_standing left' received') result → (said : Result R ReplayFault)
      → ((taken sent : List ℕ) → AnswerFits (outcome_of_lines answer 1 first) (outcome_of_input answer closing first) next left'
      taken sent result
      → AnswerFits (outcome_of_lines answer 1 first) (outcome_of_input answer closing first) next left' taken sent said)
      → PlaysInput answer closing first next (stream_standing left received) (stream_standing left' received') said
  as_said begins played said settles =
      let p = rw begins at played in
      record {
        taken = p.taken;
        sent = p.sent;
        consumed = p.consumed;
        appended = p.appended;
        settled = settles p.taken p.sent p.settled;
      }

  -- with the report that the caller makes of the last stage
  pub plays_ok : player ≡ first → PlaysInput answer closing player next (stream_standing left received)
      (stream_standing left' received') result → (done : Unit {0})
      → result ≡ Ok done → (report : R)
      → (let said : Result R ReplayFault = Ok report in PlaysInput answer closing first next
      (stream_standing left received) (stream_standing left' received') said)
  plays_ok begins played done is report =
      as_said begins played (Ok report) (λ taken sent settled. rw is at settled)

  -- or with the play's fault
  pub plays_err : player ≡ first → PlaysInput answer closing player next (stream_standing left received)
      (stream_standing left' received') result → (fault : ReplayFault)
      → result ≡ Err fault
      → (let said : Result R ReplayFault = Err fault in PlaysInput answer closing first next
      (stream_standing left received) (stream_standing left' received') said)
  plays_err begins played fault is =
      as_said begins played (Err fault)
      (λ taken sent settled. settles_err (Unit {0}) R (outcome_of_lines answer 1 first) (outcome_of_input answer closing first) next
      left' taken sent fault
      (rw is at settled))

-- what holds of the whole input holds of all bytes there were
whole_holds : (left left' : Option (List ℕ)) (taken : List ℕ) (holds : List ℕ → Type 0) → Consumes left left' taken
    → HoldsOfWhole left' taken holds → (bytes : List ℕ) → left ≡ Some bytes → holds bytes
whole_holds None left' taken holds c w bytes is = cc
whole_holds (Some xs) None taken holds c w bytes is = absurd c
whole_holds (Some xs) (Some ys) taken holds c w bytes is =
    let all : xs ≡ bytes = cc in
    elim w [
      | inl h ↦ rw (← all, c) (h ys)
      | inr h ↦ rw (← all, c, h.0, append-nil) h.1
    ]

pub completed : {P T : Type 0} (lines : List (List ℕ) → PlayOutcome P) (whole : List ℕ → PlayOutcome P) (next : P)
    (left left' : Option (List ℕ))
    (taken sent : List ℕ) (result : Result T ReplayFault) → Consumes left left' taken → AnswerFits lines whole next left' taken sent result
    → (bytes : List ℕ) (end : P) → left ≡ Some bytes → (whole bytes).outcome ≡ Ok end → IsUnrefused result
completed lines whole next left left' taken sent (Ok _) c s bytes end is ran = tt
completed lines whole next left left' taken sent (Err Memory) c s bytes end is ran = tt
completed lines whole next left left' taken sent (Err ReadFault) c s bytes end is ran = tt
completed lines whole next left left' taken sent (Err WriteFault) c s bytes end is ran = tt
completed lines whole next left left' taken sent (Err fault) c s bytes end is ran =
    let stopped : whole bytes ≡ play_outcome sent (Err fault) =
    whole_holds left left' taken (λ input. whole input ≡ play_outcome sent (Err fault)) c s bytes is in
    not_ok fault end (ap (λ (t : PlayOutcome _). t.outcome) (sym stopped) ∙ ran)

-- An input that is answered to its end is not refused.
pub unrefused : {P T : Type 0} {answer : P → List ℕ → Result (List ℕ × P) LineRefusal} {closing : P → Option (List ℕ)} {first next : P}
    {left left' received received' : Option (List ℕ)} {result : Result T ReplayFault}
    → PlaysInput answer closing first next (stream_standing left received) (stream_standing left' received') result
    → (bytes : List ℕ) (end : P) → left ≡ Some bytes → (outcome_of_input answer closing first bytes).outcome ≡ Ok end → IsUnrefused result
unrefused {answer = answer} {closing = closing} {first = first} {next = next} {left = left} {left' = left'} {result = result} p =
    completed (outcome_of_lines answer 1 first) (outcome_of_input answer closing first) next left left' p.taken p.sent result
    p.consumed p.settled
