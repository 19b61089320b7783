-- A replay of a generated schedule, from its header line to its end. With it: a schedule in the
-- making.
use Rattle.std.specs.List.{flat_map}
use Rattle.std.specs.Prelude.{◌||◌}
use Rattle.std.proofs.Common.{nat_lt, length-append}
use Rattle.rand_chacha.specs.ChaCha.{of_seed}
use Rattle.mm_base.specs.declared.replay_fault.ReplayFault.TheVariants as fault
use Rattle.mm_play.specs.PlaysInput.{PlayOutcome, play_outcome, outcome_after_bytes, outcome_of_both, outcome_of_tail, outcome_of_lines}
use Rattle.mm_gen.specs.Schedules.{IsReplayed, replay_of, bulk_summary}
use Rattle.mm_gen.proofs.Below.{◌≡◌, ◌∙◌, ◌≤◌, ◌+◌, ℕ, Bool, true, false, List, [], ◌∷◌, length, map, Result, Ok, Err, Some, refl, sym, ap}
use Rattle.mm_gen.proofs.Below.{arith, lit≤, IfOk, AllByRecursion, nat_tests, recursion_from_All, longest_line, most_events, Variant, Basic}
use Rattle.mm_gen.proofs.Below.{Opt, name_of, any_is_found, Header, Event, event_at, header_text, variant_text, header-read}
use Rattle.mm_gen.proofs.Below.{spelled_is_read, IsEventLine, schedule_lines, outcome_by_digests, world_of, RunningReplay, ReplayStage}
use Rattle.mm_gen.proofs.Below.{stage_among_events, header_stage, running_replay_after, first_running_replay, is_too_much, running_outcome}
use Rattle.mm_gen.proofs.Below.{schedule_answer, schedule_closing, text_of_replies, IsLimited, is_over, SumsUp, BulkFault, Memory, TooMuch}
use Rattle.mm_gen.proofs.Below.{Summary, subst, ◌<◌, zero, suc, ◌-◌, ◌*◌, ◌++◌, take, append_assoc, inl, inr, min, cases_lt, length-take}
use Rattle.mm_gen.proofs.Below.{joined_lines, joined-append, lines_from, schedule_text, words_at, turn_lines, append-nil, ChaCha, key_of}
use Rattle.mm_gen.proofs.Below.{seed_from}
use Rattle.mm_gen.proofs.Spelled.{is_schedule, are_few}
use Rattle.mm_gen.proofs.Tallying.{events_of, events_read, left_of}

-- the replay of event lines, of which the first has this number
abbrev lines_run : ℕ → RunningReplay → List (List ℕ) → PlayOutcome ReplayStage
lines_run number r lines = outcome_of_lines schedule_answer number (stage_among_events r) lines

fits : (line : List ℕ) → length line ≤ longest_line → nat_lt longest_line (length line) ≡ false
fits line short = grind (arith, nat_tests)

-- an event line that passes no limit is answered
goes : (number : ℕ) (r : RunningReplay) (line : List ℕ) (more : List (List ℕ)) (event : Event) → length line ≤ longest_line
    → event_at line ≡ Some event → is_too_much r line ≡ false → lines_run number r (line ∷ more) ≡ outcome_after_bytes
    (text_of_replies (running_outcome r event).reply) (lines_run (number + 1) (running_replay_after r line event) more)
goes number r line more event short is room = rw (fits line short, is, room) refl

-- all these lines are answered
record AreAnswered (number : ℕ) (r : RunningReplay) (lines : List (List ℕ)) (events : List Event) : Type 0 where
  last : RunningReplay
  ran : lines_run number r lines ≡ play_outcome (flat_map text_of_replies (left_of r events).replies) (Ok (stage_among_events last))
  digests : last.digests ≡ (left_of r events).state
  issued : last.issued ≡ (left_of r events).issued

-- what they come to, by whether one of them is one too many
abbrev ComesTo : ℕ → RunningReplay → List (List ℕ) → List Event → Bool → Type 0
ComesTo number r lines events true = (lines_run number r lines).outcome ≡ Err fault.TooMuch
ComesTo number r lines events false = AreAnswered number r lines events

line_comes : (number : ℕ) (r : RunningReplay) (line : List ℕ) (lines : List (List ℕ)) (event : Event) (events : List Event)
    (much over : Bool)
    → is_too_much r line ≡ much → length line ≤ longest_line → event_at line ≡ Some event
    → ComesTo (number + 1) (running_replay_after r line event) lines events over
    → ComesTo number r (line ∷ lines) (event ∷ events) (much || over)
line_comes number r line lines event events true over is short read rest = rw (fits line short, read, is) refl
line_comes number r line lines event events false true is short read rest =
    ap (λ (t : PlayOutcome ReplayStage). t.outcome) (goes number r line lines event short read is) ∙ rest
line_comes number r line lines event events false false is short read rest = record {
  last = rest.last;
  ran = goes number r line lines event short read is ∙ ap (outcome_after_bytes (text_of_replies (running_outcome r event).reply)) rest.ran;
  digests = rest.digests;
  issued = rest.issued;
}

comes_to : (lines : List (List ℕ)) (are : AllByRecursion IsEventLine lines) (number : ℕ) (r : RunningReplay)
    → ComesTo number r lines (events_of lines are) (is_over r lines)
comes_to [] are number r = record { last = r; ran = refl; digests = refl; issued = refl }
comes_to (line ∷ lines) are number r =
    let event : Event = are.0.event in
    let read = spelled_is_read line event are.0.spelled in
    let over : (is_too_much r line || is_over (running_replay_after r line event) lines) ≡ is_over r (line ∷ lines) = rw read refl in
    subst (ComesTo number r (line ∷ lines) (event ∷ events_of lines are.1)) over
    (line_comes number r line lines event (events_of lines are.1) (is_too_much r line) (is_over (running_replay_after r line event) lines)
    refl
    are.0.short read (comes_to lines are.1 (number + 1) (running_replay_after r line event)))

same_events : (xs ys : List Event) → map Some xs ≡ map Some ys → xs ≡ ys
same_events [] [] e = refl
same_events (x ∷ xs) (y ∷ ys) e =
    let first : x ≡ y = cc in let others : map Some xs ≡ map Some ys = cc in λ j. first j ∷ same_events xs ys others j
same_events _ _ e = cc

-- ---- the header

variant_short : (variant : Variant) → length (variant_text variant) ≤ 20
variant_short Basic = lit≤ tt
variant_short Opt = lit≤ tt

module _ (header : Header) where
  header_short : length (header_text header) ≤ longest_line
  header_short =
      omega (
        arith,
        length-append (variant_text header.variant) (32 ∷ name_of header.module),
        variant_short header.variant,
        (any_is_found header.module).short,
      )

  headed : (lines : List (List ℕ)) → outcome_of_lines schedule_answer 1 header_stage (header_text header ∷ lines)
      ≡ lines_run 2 (first_running_replay header)
      lines
  headed lines = rw (fits (header_text header) header_short, header-read (header_text header) header refl) refl

-- ---- the whole text

-- the replay goes over the lines and then comes to the end of the text
abbrev ends : Header → List (List ℕ) → ReplayStage → PlayOutcome ReplayStage
ends header lines = outcome_of_tail schedule_closing (1 + length (header_text header ∷ lines)) []

module _ (number count : ℕ) where
  whole : (header : Header) → count ≤ most_events → replay_of number count header
      ≡ outcome_of_both (lines_run 2 (first_running_replay header)
      (schedule_lines number count header)) (ends header (schedule_lines number count header))
  whole header few =
      let is = is_schedule number count header few in rw (is.lines, is.ends, headed header (schedule_lines number count header)) refl

  -- the event lines, with what their replay comes to
  lines_come : (header : Header) (few : count ≤ most_events) (over : Bool)
      → is_over (first_running_replay header) (schedule_lines number count header) ≡ over
      → (let lines : List (List ℕ) = schedule_lines number count header in
      let are = recursion_from_All IsEventLine lines (is_schedule number count header few).events in
      ComesTo 2 (first_running_replay header) lines (events_of lines are) over)
  lines_come header few over is =
      let lines : List (List ℕ) = schedule_lines number count header in
      let are = recursion_from_All IsEventLine lines (is_schedule number count header few).events in
      subst (ComesTo 2 (first_running_replay header) lines (events_of lines are)) is (comes_to lines are 2 (first_running_replay header))

  replayed_ok : (header : Header) (summary : Summary) → count ≤ most_events → SumsUp header (schedule_lines number count header) summary
      → is_over (first_running_replay header) (schedule_lines number count header) ≡ false
      → IsReplayed (replay_of number count header) (Ok summary)
  replayed_ok header summary few sums over =
      let lines : List (List ℕ) = schedule_lines number count header in
      let are = recursion_from_All IsEventLine lines (is_schedule number count header few).events in
      let a = lines_come header few false over in
      let same = same_events sums.events (events_of lines are) (sym sums.read ∙ events_read lines are) in
      let ran = whole header few ∙ ap (λ (t : PlayOutcome ReplayStage). outcome_of_both t (ends header lines)) a.ran in (
        ap (λ (it : Summary). it.replies.bytes)
            (sums.told ∙ ap (λ (es : List Event). bulk_summary (outcome_by_digests (world_of header) es)) same)
            ∙ rw (ran, a.digests, a.issued) refl,
        stage_among_events a.last,
        ap (λ (t : PlayOutcome ReplayStage). t.outcome) ran,
      )

  -- what a run of a schedule comes to is what a replay of its text does
  pub replayed : (header : Header) (result : Result Summary BulkFault) → count ≤ most_events
      → IfOk result (SumsUp header (schedule_lines number count header))
      → IsLimited (is_over (first_running_replay header) (schedule_lines number count header)) result
      → IsReplayed (replay_of number count header) result
  replayed header (Ok summary) few sums limit = replayed_ok header summary few sums limit
  replayed header (Err TooMuch) few sums limit =
      let stopped = lines_come header few true limit in
      ap (λ (t : PlayOutcome ReplayStage). t.outcome) (whole header few) ∙ rw stopped refl
  replayed header (Err Memory) few sums limit = tt

-- A schedule in the making: its text so far, and the lines that are left.

-- so many lines are done, and the next words are drawn from this place on
pub record Going (number count : ℕ) (header : Header) (text key : List ℕ) (place done : ℕ) : Type 0 where
  pub few : done ≤ count
  pub drawn : place ≤ 4 * done
  pub turns : ℕ
  pub enough : count - done ≤ turns
  pub whole : text ++ joined_lines (take (count - done) (lines_from header key place (done + 1) turns)) ≡ schedule_text number count header

take_of_two : (n : ℕ) (xs ys : List (List ℕ)) → take n (xs ++ ys) ≡ take n xs ++ take (n - length xs) ys
take_of_two zero [] ys = refl
take_of_two (suc n) [] ys = let all : suc n - 0 ≡ suc n = omega arith in rw all refl
take_of_two zero (x ∷ xs) ys = let none : 0 - length (x ∷ xs) ≡ 0 = omega arith in rw none refl
take_of_two (suc n) (x ∷ xs) ys =
    let less : suc n - length (x ∷ xs) ≡ n - length xs = omega arith in
    rw less (ap (λ (more : List (List ℕ)). x ∷ more) (take_of_two n xs ys))

-- the lines behind those of one turn, whether they were all wanted or not
behind : (header : Header) (key : List ℕ) (place turns left done shown size : ℕ) → shown ≡ min left size
    → take (left - size) (lines_from header key place (done + 1 + size) turns)
    ≡ take (left - shown) (lines_from header key place (done + shown + 1) turns)
behind header key place turns left done shown size is = elim (cases_lt left size) [
  | inl cut ↦
      let none : left - size ≡ 0 = omega arith in let over : left - shown ≡ 0 = omega (arith, is) in
      rw (none, over) refl
  | inr whole ↦
      let all : left - size ≡ left - shown = omega (arith, is) in
      let next : done + 1 + size ≡ done + shown + 1 = omega (arith, is) in
      rw (all, next) refl
]

module _ (number count : ℕ) (header : Header) (text : List ℕ) where
  -- one turn is put, with at most as many lines as are left
  stepped : (key : List ℕ) (place done shown turns : ℕ) → done < count → place ≤ 4 * done → count - done ≤ turns
      → text ++ joined_lines (take (count - done) (lines_from header key place (done + 1) turns)) ≡ schedule_text number count header
      → shown ≡ length (take (count - done) (turn_lines header (done + 1) (words_at key place)))
      → Going number count header (text ++ joined_lines (take (count - done) (turn_lines header (done + 1) (words_at key place)))) key
      (place + 4) (done + shown)
  stepped key place done shown zero more drawn enough whole is = absurd (omega arith)
  stepped key place done shown (suc turns) more drawn enough whole is =
      let lines : List (List ℕ) = turn_lines header (done + 1) (words_at key place) in let left : ℕ = count - done in
      let rest : List (List ℕ) = lines_from header key (place + 4) (done + 1 + length lines) turns in
      let later : List (List ℕ) = take (count - (done + shown)) (lines_from header key (place + 4) (done + shown + 1) turns) in
      let size : shown ≡ min left (length lines) = is ∙ length-take left lines in
      let some : 0 < length lines = (are_few header (done + 1) (words_at key place)).some in
      let fewer : left - shown ≡ count - (done + shown) = omega arith in
      let cut : take (left - length lines) rest ≡ later = behind header key (place + 4) turns left done shown (length lines) size
      ∙ ap (λ (n : ℕ). take n (lines_from header key (place + 4) (done + shown + 1) turns)) fewer in
      let parts : take left (lines ++ rest) ≡ take left lines ++ later =
      take_of_two left lines rest ∙ ap (λ (more : List (List ℕ)). take left lines ++ more) cut in
      record {
        few = omega (arith, size, more);
        drawn = omega (arith, size, more, some, drawn);
        turns = turns;
        enough = omega (arith, size, more, some, enough);
        whole = append_assoc text (joined_lines (take left lines)) (joined_lines later) ∙ ap (λ (more : List ℕ). text ++ more)
            (sym (joined-append (take left lines) later)) ∙ ap (λ (more : List (List ℕ)). text ++ joined_lines more) (sym parts) ∙ whole;
      }

  pub goes_on : (key : List ℕ) (place done shown : ℕ) → Going number count header text key place done → done < count
      → shown ≡ length (take (count - done) (turn_lines header (done + 1) (words_at key place)))
      → Going number count header (text ++ joined_lines (take (count - done) (turn_lines header (done + 1) (words_at key place)))) key
      (place + 4) (done + shown)
  goes_on key place done shown going more is = stepped key place done shown going.turns more going.drawn going.enough going.whole is

-- the header's line is put, and no turn
pub begins : (number count : ℕ) (header : Header) (none headed text seed : List ℕ) (generator : ChaCha) → none ≡ []
    → headed ≡ none ++ header_text header → text ≡ headed ++ 10 ∷ [] → seed ≡ seed_from number → generator ≡ of_seed seed
    → Going number count header text generator.key generator.word_pos 0
begins number count header none headed text seed generator one two three four five =
    let all : count - 0 ≡ count = omega arith in
    rw (five, four, three, two, one) (record {
      few = omega arith;
      drawn = omega arith;
      turns = count;
      enough = omega arith;
      whole = rw all (append_assoc (header_text header) (10 ∷ [])
          (joined_lines (take count (lines_from header (key_of (seed_from number)) 0 1 count))));
    })

-- all lines are put
pub whole_text : (number count : ℕ) (header : Header) (text key : List ℕ) (place done : ℕ)
    → Going number count header text key place done → count ≤ done
    → text ≡ schedule_text number count header
whole_text number count header text key place done going all =
    let none : 0 ≡ count - done = omega (arith, all) in
    sym (append-nil text) ∙ ap (λ (n : ℕ). text ++ joined_lines (take n (lines_from header key place (done + 1) going.turns))) none
    ∙ going.whole
