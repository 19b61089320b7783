-- How a run goes on over more lines, and where it stops.
use Rattle.mm_play.proofs.Below.{◌≡◌, ◌∙◌, ◌<◌, ◌≤◌, ◌+◌, ℕ, Bool, true, false, cond, List, [], ◌∷◌, ◌++◌, length, Result, Ok, Err, Option}
use Rattle.mm_play.proofs.Below.{refl, sym, ap, append_assoc, append-nil, arith, nat_lt, length-append, nat_tests, AllByRecursion}
use Rattle.mm_play.proofs.Below.{IsUnbroken, lines_of, tail_of, joined_lines, lines_with_front, tail_with_front, lines_of-append}
use Rattle.mm_play.proofs.Below.{tail_of-append, lines_of-line, tail_of-line, lines_of-joined, tail_of-joined, lines_of-unbroken}
use Rattle.mm_play.proofs.Below.{tail_of-unbroken, ReplayFault, BadLine, LineLong, longest_line, LineRefusal, PlayOutcome, play_outcome}
use Rattle.mm_play.proofs.Below.{stopped_outcome, outcome_after_bytes, refusal_at, outcome_of_answer, outcome_of_lines, outcome_of_tail}
use Rattle.mm_play.proofs.Below.{outcome_then, outcome_of_both, outcome_of_rest, outcome_of_input}

is_long : {n : ℕ} → longest_line < n → nat_lt longest_line n ≡ true
is_long h = grind (arith, nat_tests)

pub is_longer : (n : ℕ) → nat_lt longest_line n ≡ true → longest_line < n
is_longer n h = grind (arith, nat_tests)

is_short : {n : ℕ} → n ≤ longest_line → nat_lt longest_line n ≡ false
is_short h = grind (arith, nat_tests)

pub not_ok : {P : Type 0} (fault : ReplayFault) (player : P) → (let r : Result P ReplayFault = Err fault in r ≡ Ok player) → ⊥
not_ok fault player clash = cc

pub ok_same : {P : Type 0} (a b : P) → (let r : Result P ReplayFault = Ok a in r ≡ Ok b) → a ≡ b
ok_same a b same = cc

pub written_of : {P : Type 0} {t u : PlayOutcome P} → t ≡ u → t.written ≡ u.written
written_of h = ap (λ (x : PlayOutcome _). x.written) h

pub outcome_of : {P : Type 0} {t u : PlayOutcome P} → t ≡ u → t.outcome ≡ u.outcome
outcome_of h = ap (λ (x : PlayOutcome _). x.outcome) h

pub told_is : {P : Type 0} (t : PlayOutcome P) (written : List ℕ) (outcome : Result P ReplayFault) → t.written ≡ written
    → t.outcome ≡ outcome
    → t ≡ play_outcome written outcome
told_is t written outcome w o = λ i. play_outcome (w i) (o i)

outcome_after_bytes-twice : {P : Type 0} (first second : List ℕ) (t : PlayOutcome P)
    → outcome_after_bytes first (outcome_after_bytes second t) ≡ outcome_after_bytes (first ++ second) t
outcome_after_bytes-twice first second t = ap (λ bytes. play_outcome bytes t.outcome) (sym (append_assoc first second t.written))

module _ {P : Type 0} (answer : P → List ℕ → Result (List ℕ × P) LineRefusal) (number : ℕ) (player : P) (line : List ℕ)
    (lines : List (List ℕ)) where
  -- what the first of some lines comes to
  pub data Turned (t : PlayOutcome P) : Type 0 where
    Long : longest_line < length line → t ≡ stopped_outcome (LineLong number) → Turned t
    Refuses : (why : LineRefusal) → answer player line ≡ Err why → t ≡ stopped_outcome (refusal_at number why) → Turned t
    Replies : (reply : List ℕ × P) → nat_lt longest_line (length line) ≡ false → answer player line ≡ Ok reply
        → t ≡ outcome_after_bytes reply.0 (outcome_of_lines answer (number + 1) reply.1 lines) → Turned t

  pub turned : Turned (outcome_of_lines answer number player (line ∷ lines))
  turned = by (nat_lt longest_line (length line)) refl (answer player line) refl
    where
      by : (long : Bool) → nat_lt longest_line (length line) ≡ long → (said : Result (List ℕ × P) LineRefusal) → answer player line ≡ said
          → Turned (cond long (stopped_outcome (LineLong number))
          (outcome_of_answer (λ next. outcome_of_lines answer (number + 1) next lines) number said))
      by true long said is = Long (is_longer (length line) long) refl
      by false short (Err why) is = Refuses why is refl
      by false short (Ok reply) is = Replies reply short is refl

  -- The first of the lines was answered, and then the others.
  pub record FirstAnswered (written : List ℕ) (last : P) : Type 0 where
    pub reply : List ℕ × P
    pub more : List ℕ
    pub short : nat_lt longest_line (length line) ≡ false
    pub replied : answer player line ≡ Ok reply
    pub ran : outcome_of_lines answer (number + 1) reply.1 lines ≡ play_outcome more (Ok last)
    pub whole : written ≡ reply.0 ++ more

  pub first_answered : (written : List ℕ) (last : P) → outcome_of_lines answer number player (line ∷ lines) ≡ play_outcome written (Ok last)
      → FirstAnswered written last
  first_answered written last h = by turned
    where
      by : Turned (outcome_of_lines answer number player (line ∷ lines)) → FirstAnswered written last
      by (Long _ is) = cc (outcome_of (sym is ∙ h))
      by (Refuses why _ is) = cc (outcome_of (sym is ∙ h))
      by (Replies reply short replied is) =
          let t = outcome_of_lines answer (number + 1) reply.1 lines in
          record {
            reply = reply;
            more = t.written;
            short = short;
            replied = replied;
            ran = told_is t t.written (Ok last) refl (outcome_of (sym is ∙ h));
            whole = written_of (sym h ∙ is);
          }

-- there is no line
pub none_answered : {P : Type 0} (answer : P → List ℕ → Result (List ℕ × P) LineRefusal) (number : ℕ) (player : P)
    (written : List ℕ) (last : P)
    → outcome_of_lines answer number player [] ≡ play_outcome written (Ok last) → (written ≡ []) × (last ≡ player)
none_answered answer number player written last h = (sym (written_of h), sym (ok_same player last (outcome_of h)))

-- the run over these lines, and then over more
pub run-append : {P : Type 0} (answer : P → List ℕ → Result (List ℕ × P) LineRefusal) (number : ℕ) (player : P) (lines more : List (List ℕ))
    (sent : List ℕ) (last : P) → outcome_of_lines answer number player lines ≡ play_outcome sent (Ok last)
    → outcome_of_lines answer number player (lines ++ more) ≡ outcome_after_bytes sent
    (outcome_of_lines answer (number + length lines) last more)
run-append answer number player [] more sent last h =
    let at_last = ok_same player last (outcome_of h) in
    rw (at_last, ← written_of h) (ap (λ n. outcome_of_lines answer n last more) (omega arith))
run-append answer number player (line ∷ lines) more sent last h =
    let f = first_answered answer number player line lines sent last h in
    rw (f.short, f.replied, run-append answer (number + 1) f.reply.1 lines more f.more last f.ran)
    (outcome_after_bytes-twice f.reply.0 f.more _
    ∙ ap (λ n. outcome_after_bytes (f.reply.0 ++ f.more) (outcome_of_lines answer n last more)) (omega arith)
    ∙ ap (λ bytes. outcome_after_bytes bytes (outcome_of_lines answer (number + length (line ∷ lines)) last more)) (sym f.whole))

-- what comes after lines that were all answered goes after what they wrote
outcome_of_both-after : {P : Type 0} (sent : List ℕ) (t : PlayOutcome P) (on : P → PlayOutcome P)
    → outcome_of_both (outcome_after_bytes sent t) on ≡ outcome_after_bytes sent (outcome_of_both t on)
outcome_of_both-after {P} sent t on = by_outcome t.written t.outcome
  where
    by_outcome : (written : List ℕ) (outcome : Result P ReplayFault)
        → outcome_then on (sent ++ written) outcome ≡ outcome_after_bytes sent (outcome_then on written outcome)
    by_outcome written (Ok player) = sym (outcome_after_bytes-twice sent written (on player))
    by_outcome written (Err fault) = refl

module _ {P : Type 0} (answer : P → List ℕ → Result (List ℕ × P) LineRefusal) (closing : P → Option (List ℕ)) where
  -- A run that answered these lines goes on with the rest of the input.
  pub outcome_of_rest-joined : (player : P) (lines : List (List ℕ)) (rest sent : List ℕ) (last : P) → AllByRecursion IsUnbroken lines
      → outcome_of_lines answer 1 player lines ≡ play_outcome sent (Ok last)
      → outcome_of_input answer closing player (joined_lines lines ++ rest) ≡ outcome_after_bytes sent
      (outcome_of_rest answer closing (1 + length lines) last rest)
  outcome_of_rest-joined player lines rest sent last each went =
      let behind : 1 + length (lines ++ lines_of rest) ≡ 1 + length lines + length (lines_of rest) =
      omega (arith, length-append lines (lines_of rest)) in
      rw (
        lines_of-joined lines rest each,
        tail_of-joined lines rest each,
        behind,
        run-append answer 1 player lines (lines_of rest) sent last went,
      ) (outcome_of_both-after sent _ _)

  module _ (number : ℕ) (player : P) where
    -- The first line is refused, whatever follows it.
    pub outcome_of_rest-refused : (line rest : List ℕ) (refused : LineRefusal) → IsUnbroken line → length line ≤ longest_line
        → answer player line ≡ Err refused
        → outcome_of_rest answer closing number player (line ++ 10 ∷ rest) ≡ stopped_outcome (refusal_at number refused)
    outcome_of_rest-refused line rest refused unbroken short h = rw (lines_of-line line rest unbroken, is_short short, h) refl

    -- The first line is answered, and the run goes on.
    pub outcome_of_rest-answered : (line rest reply : List ℕ) (next : P) → IsUnbroken line → length line ≤ longest_line
        → answer player line ≡ Ok (reply, next)
        → outcome_of_rest answer closing number player (line ++ 10 ∷ rest) ≡ outcome_after_bytes reply
        (outcome_of_rest answer closing (number + 1) next rest)
    outcome_of_rest-answered line rest reply next unbroken short h =
        let behind : number + length (line ∷ lines_of rest) ≡ number + 1 + length (lines_of rest) = omega arith in
        rw (lines_of-line line rest unbroken, tail_of-line line rest unbroken, behind, is_short short, h)
        (outcome_of_both-after reply (outcome_of_lines answer (number + 1) next (lines_of rest)) _)

    -- Too many bytes with no LF, whatever follows them.
    pub outcome_of_rest-long : (bytes rest : List ℕ) → IsUnbroken bytes → longest_line < length bytes
        → outcome_of_rest answer closing number player (bytes ++ rest) ≡ stopped_outcome (LineLong number)
    outcome_of_rest-long bytes rest unbroken long =
        rw (lines_of-append bytes rest unbroken, tail_of-append bytes rest unbroken) (by_lines (lines_of rest) (tail_of rest))
      where
        long_tail : (front tail : List ℕ) → longest_line < length front
            → outcome_after_bytes [] (outcome_of_tail closing (number + 0) (front ++ tail) player) ≡ stopped_outcome (LineLong number)
        long_tail [] tail h = absurd (omega arith)
        long_tail (byte ∷ front) tail h =
            let long : longest_line < length ((byte ∷ front) ++ tail) = omega (arith, length-append (byte ∷ front) tail) in
            rw (is_long long) (ap (λ n. stopped_outcome {P = P} (LineLong n)) (omega arith))

        by_lines : (lines : List (List ℕ)) (tail : List ℕ)
            → outcome_of_both (outcome_of_lines answer number player (lines_with_front bytes lines))
            (outcome_of_tail closing (number + length (lines_with_front bytes lines)) (tail_with_front bytes lines tail))
            ≡ stopped_outcome (LineLong number)
        by_lines [] tail = long_tail bytes tail long
        by_lines (line ∷ lines) tail =
            let too_long : longest_line < length (bytes ++ line) = omega (arith, length-append bytes line) in rw (is_long too_long) refl

    -- The input ends within a line.
    pub outcome_of_rest-tail : (tail : List ℕ) → IsUnbroken tail → 0 < length tail → length tail ≤ longest_line
        → outcome_of_rest answer closing number player tail ≡ stopped_outcome (BadLine number)
    outcome_of_rest-tail tail unbroken some short =
        rw (lines_of-unbroken tail unbroken, tail_of-unbroken tail unbroken) (short_tail tail some short)
      where
        short_tail : (bytes : List ℕ) → 0 < length bytes → length bytes ≤ longest_line
            → outcome_after_bytes [] (outcome_of_tail closing (number + 0) bytes player) ≡ stopped_outcome (BadLine number)
        short_tail [] h s = absurd (omega arith)
        short_tail (byte ∷ bytes) h s = rw (is_short s) (ap (λ n. stopped_outcome {P = P} (BadLine n)) (omega arith))

-- One more line was answered.
pub run-more : {P : Type 0} (answer : P → List ℕ → Result (List ℕ × P) LineRefusal) (player : P) (lines : List (List ℕ))
    (line sent reply : List ℕ) (last next : P) → outcome_of_lines answer 1 player lines ≡ play_outcome sent (Ok last)
    → length line ≤ longest_line
    → answer last line ≡ Ok (reply, next) → outcome_of_lines answer 1 player (lines ++ line ∷ []) ≡ play_outcome (sent ++ reply) (Ok next)
run-more answer player lines line sent reply last next went short h =
    rw (run-append answer 1 player lines (line ∷ []) sent last went, is_short short, h)
    (ap (λ bytes. play_outcome (sent ++ bytes) (Ok next)) (append-nil reply))
