-- A schedule among its events: the lines left, and what stands of its summary.
use Rattle.mm_gen.proofs.Below.{◌≡◌, ◌≢◌, ◌<◌, ◌≤◌, ◌∙◌, ℕ, ◌+◌, suc, true, false, List, [], ◌∷◌, ◌++◌, length, map, refl, sym, ap, subst}
use Rattle.mm_gen.proofs.Below.{arith, append_assoc, append-nil, Option, None, is_some, nat_lt, AllByRecursion, fold, position}
use Rattle.mm_gen.proofs.Below.{position_or_len, ne_eqb, nat_tests, length-append, recursion_from_All, sha256, IsUnbroken, joined_lines}
use Rattle.mm_gen.proofs.Below.{longest_line, most_events, Header, Event, event_at, header_text, end_line, spelled_is_read, IsEventLine}
use Rattle.mm_gen.proofs.Below.{schedule_lines, schedule_text, RunOutcome, outcome_of_events, outcome_by_digests, world_of, RunningReplay}
use Rattle.mm_gen.proofs.Below.{running_replay_after, first_running_replay, is_too_much, running_outcome, text_of_replies, IsLimited}
use Rattle.mm_gen.proofs.Below.{is_over, is_break, SumsUp, BulkFault, Memory, TooMuch, Summary, Result, IfOk, All, All-weaker, lines_of}
use Rattle.mm_gen.proofs.Below.{lines_of-joined}
use Rattle.std.specs.Prelude.{Some, Err}
use Rattle.std.proofs.Math.Seq.{take-append_seam, drop-append-add}
use Rattle.mm_digest.specs.declared.digest.Digest.{Digest}
use Rattle.mm_schedule.specs.declared.reply.Reply.{Reply}
use Rattle.mm_schedule.specs.declared.reply.Reply.TheVariants.{Told}
use Rattle.mm_gen.proofs.Spelled.{header-unbroken, is_schedule}
use Rattle.mm_model.specs.Moves.{Digests}
use Rattle.mm_call.specs.CallFinding.{digest_level}
use Rattle.mm_gen.specs.Schedules.{RunsLine, counts_after_reply, counts_of, no_counts, total, line_at}
use Rattle.mm_gen.specs.declared.counts.ReplyCounts.{ReplyCounts}
use Rattle.std.specs.List.{flat_map}
use Rattle.std.specs.Option.{option_map_or}

-- ---- the first line

abbrev IsNoBreak : ℕ → Type 0
IsNoBreak byte = byte ≢ 10

first_break : (line more : List ℕ) → AllByRecursion IsNoBreak line → position_or_len is_break (line ++ 10 ∷ more) ≡ length line
first_break [] more none = refl
first_break (byte ∷ line) more none =
    let one : 1 + length line ≡ suc (length line) = omega arith in
    rw (ne_eqb byte 10 none.0) (ap (λ (n : ℕ). 1 + n) (first_break line more none.1) ∙ one)

pub line_again : (line more : List ℕ) → IsUnbroken line → line_at (line ++ 10 ∷ more) ≡ Some (line, more)
unfolding line_at
line_again line more unbroken =
    let within : length line < length (line ++ 10 ∷ more) = omega (arith, length-append line (10 ∷ more)) in
    let test : nat_lt (length line) (length (line ++ 10 ∷ more)) ≡ true = grind (arith, nat_tests) in
    let found : position is_break (line ++ 10 ∷ more) ≡ Some
    (length line) = rw (first_break line more (recursion_from_All IsNoBreak line unbroken), test) refl in
    rw (found, take-append_seam line (10 ∷ more), drop-append-add line (10 ∷ more) 1) refl

no_line : (it : List ℕ × List ℕ) → None ≡ Some it → ⊥
no_line it is = cc

one_line : (one other : List ℕ × List ℕ) → Some one ≡ Some other → one ≡ other
one_line one other is =
    ap (λ (o : Option (List ℕ × List ℕ)). option_map_or (λ (parts : List ℕ × List ℕ). parts) o one) is

-- ---- the events of lines

abbrev pub events_of : (lines : List (List ℕ)) → AllByRecursion IsEventLine lines → List Event
events_of [] are = []
events_of (line ∷ lines) are = are.0.event ∷ events_of lines are.1

pub events_read : (lines : List (List ℕ)) (are : AllByRecursion IsEventLine lines) → map event_at lines ≡ map Some (events_of lines are)
events_read [] are = refl
events_read (line ∷ lines) are =
    rw (spelled_is_read line are.0.event are.0.spelled)
    (ap (λ (more : List (Option Event)). Some are.0.event ∷ more) (events_read lines are.1))

-- ---- what is left

-- what follows of these events
abbrev pub left_of : RunningReplay → List Event → RunOutcome Digests
left_of r events = outcome_of_events (world_of r.header) (digest_level (world_of r.header)) r.digests r.issued events

-- the whole is what was counted and written, and then what is left
record Rests (r : RunningReplay) (counts : ReplyCounts) (text : List ℕ) (left whole : RunOutcome Digests) : Type 0 where
  replies : text ++ flat_map text_of_replies left.replies ≡ flat_map text_of_replies whole.replies
  counted : fold counts_after_reply counts left.replies ≡ counts_of whole.replies
  state : left.state ≡ whole.state
  issued : left.issued ≡ whole.issued

-- with these lines left, each of which is an event's
record GoingWith (lines : List (List ℕ)) (rest : List ℕ) (r : RunningReplay) (counts : ReplyCounts) (text : List ℕ) (left : List (List ℕ))
    (are : AllByRecursion IsEventLine left) : Type 0 where
  all : List Event
  bytes : rest ≡ joined_lines left
  whole : map event_at lines ≡ map Some all
  few : total counts + length left ≤ most_events
  over : is_over r left ≡ is_over (first_running_replay r.header) lines
  rests : Rests r counts text (left_of r (events_of left are)) (outcome_by_digests (world_of r.header) all)

pub record Going (lines : List (List ℕ)) (rest : List ℕ) (r : RunningReplay) (counts : ReplyCounts) (text : List ℕ) : Type 0 where
  left : List (List ℕ)
  are : AllByRecursion IsEventLine left
  stands : GoingWith lines rest r counts text left are

-- the summary of what was counted and written so far
abbrev pub so_far : RunningReplay → ReplyCounts → List ℕ → Summary
so_far r counts text = record {
  counts = counts;
  committed = r.digests.count;
  issued = length r.issued;
  replies = record { bytes = sha256 (text ++ end_line r.digests.count (length r.issued)) };
}

-- an event line that is answered next
pub record Next (lines : List (List ℕ)) (rest : List ℕ) (r : RunningReplay) (counts : ReplyCounts)
    (text line behind : List ℕ) : Type 0 where
  pub less : length behind < length rest
  pub header : (reply : Reply) (new : RunningReplay) → RunsLine r new line reply → new.header ≡ r.header
  pub short : length line ≤ longest_line
  pub known : is_some (event_at line) ≡ true
  pub room : total counts < most_events
  pub over : is_too_much r line ≡ true → is_over (first_running_replay r.header) lines ≡ true
  pub on : (reply : Reply) (new : RunningReplay) → RunsLine r new line reply
      → Going lines behind new (counts_after_reply counts reply) (text ++ text_of_replies reply)

total-counted : (counts : ReplyCounts) (reply : Reply) → total (counts_after_reply counts reply) ≡ total counts + 1
total-counted counts (Told false position outputs) = omega arith
total-counted counts _ = omega arith

-- a line that passes no limit: those behind it decide
pub over_behind : (r : RunningReplay) (line : List ℕ) (more : List (List ℕ)) (event : Event) → event_at line ≡ Some event
    → is_too_much r line ≡ false → is_over (running_replay_after r line event) more ≡ is_over r (line ∷ more)
over_behind r line more event is room = rw (is, room) refl

-- a line that passes a limit
pub over_at : (r : RunningReplay) (line : List ℕ) (more : List (List ℕ)) → is_too_much r line ≡ true → is_over r (line ∷ more) ≡ true
over_at r line more much = rw much refl

module _ (lines : List (List ℕ)) where
  answered_on : (more : List (List ℕ)) (line rest : List ℕ) (r : RunningReplay) (counts : ReplyCounts) (text : List ℕ)
      (are : AllByRecursion IsEventLine (line ∷ more)) → event_at line ≡ Some are.0.event → is_too_much r line ≡ false
      → GoingWith lines rest r counts text (line ∷ more) are
      → (let said : Reply = (running_outcome r are.0.event).reply in
      Going lines (joined_lines more) (running_replay_after r line are.0.event) (counts_after_reply counts said)
      (text ++ text_of_replies said))
  answered_on more line rest r counts text are is room going =
      let event : Event = are.0.event in
      let said : Reply = (running_outcome r event).reply in
      let few = going.few in
      record {
        left = more;
        are = are.1;
        stands = record {
          all = going.all;
          bytes = refl;
          whole = going.whole;
          few = omega (arith, total-counted counts said, few);
          over = over_behind r line more event is room ∙ going.over;
          rests = record {
            replies = append_assoc text (text_of_replies said) _ ∙ going.rests.replies;
            counted = going.rests.counted;
            state = going.rests.state;
            issued = going.rests.issued;
          };
        };
      }

  next_line : (left : List (List ℕ)) (are : AllByRecursion IsEventLine left) (rest : List ℕ) (r : RunningReplay) (counts : ReplyCounts)
      (text line behind : List ℕ) → GoingWith lines rest r counts text left are → line_at rest ≡ Some (line, behind)
      → Next lines rest r counts text line behind
  unfolding line_at
  next_line [] are rest r counts text line behind going found =
      let nothing : line_at rest ≡ None = ap line_at going.bytes in absurd (no_line _ (sym nothing ∙ found))
  next_line (l ∷ more) are rest r counts text line behind going found =
      let few = going.few in
      let read = spelled_is_read l are.0.event are.0.spelled in
      let again = line_again l (joined_lines more) are.0.unbroken in let at = ap line_at going.bytes in
      let made : Next lines rest r counts text l (joined_lines more) = record {
        less = omega (arith, length-append l (10 ∷ joined_lines more), ap (λ (b : List ℕ). length b) going.bytes);
        header = λ reply new answered. ap (λ (x : RunningReplay). x.header) (answered.1 are.0.event read).1;
        short = are.0.short;
        known = rw read refl;
        room = omega (arith, few);
        over = λ much. sym going.over ∙ over_at r l more much;
        on = λ reply new answered.
            let is = answered.1 are.0.event read in rw (is.0, is.1) (answered_on more l rest r counts text are read answered.0 going);
      } in
      let same : (l, joined_lines more) ≡ (line, behind) = one_line _ _ (sym again ∙ sym at ∙ found) in
      subst (λ (p : List ℕ × List ℕ). Next lines rest r counts text p.0 p.1) same made

  pub next : (rest : List ℕ) (r : RunningReplay) (counts : ReplyCounts) (text line behind : List ℕ) → Going lines rest r counts text
      → line_at rest ≡ Some (line, behind) → Next lines rest r counts text line behind
  next rest r counts text line behind going found =
      next_line going.left going.are rest r counts text line behind going.stands found

  -- ---- the end

  ended_at : (left : List (List ℕ)) (are : AllByRecursion IsEventLine left) (rest : List ℕ) (r : RunningReplay) (counts : ReplyCounts)
      (text : List ℕ) → GoingWith lines rest r counts text left are → line_at rest ≡ None
      → (is_over (first_running_replay r.header) lines ≡ false) × SumsUp r.header lines (so_far r counts text)
  ended_at [] are rest r counts text going none =
      let rests = going.rests in
      let written : text ≡ flat_map text_of_replies (outcome_by_digests (world_of r.header) going.all).replies = sym (append-nil text)
      ∙ rests.replies in
      let numbered = rests.counted in let state = rests.state in let issued = rests.issued in (
        sym going.over,
        record { events = going.all; read = going.whole; told = rw (sym state, sym issued, sym numbered, sym written) refl },
      )
  ended_at (l ∷ more) are rest r counts text going none =
      let found = ap line_at going.bytes ∙ line_again l (joined_lines more) are.0.unbroken in absurd (no_line _ (sym none ∙ found))

  -- no line was one too many
  pub within : (rest : List ℕ) (r : RunningReplay) (counts : ReplyCounts) (text : List ℕ) (header : Header) → Going lines rest r counts text
      → r.header ≡ header → line_at rest ≡ None → is_over (first_running_replay header) lines ≡ false
  within rest r counts text header going same none =
      subst (λ (h : Header). is_over (first_running_replay h) lines ≡ false) same
      (ended_at going.left going.are rest r counts text going.stands none).0

  -- a line was one too many, or memory was wanting
  pub stops : (rest : List ℕ) (r : RunningReplay) (counts : ReplyCounts) (text line behind : List ℕ) (header : Header) (fault : BulkFault)
      → Next lines rest r counts text line behind → r.header ≡ header → (fault ≡ TooMuch → is_too_much r line ≡ true)
      → IsLimited (is_over (first_running_replay header) lines) (Err fault)
  stops rest r counts text line behind header TooMuch step same limit =
      subst (λ (h : Header). is_over (first_running_replay h) lines ≡ true) same (step.over (limit refl))
  stops rest r counts text line behind header Memory step same limit = tt

  -- a summary by its parts
  pub ended : (rest : List ℕ) (r : RunningReplay) (counts : ReplyCounts) (text : List ℕ) (header : Header) (committed issued : ℕ)
      (digest : Digest)
      → Going lines rest r counts text → line_at rest ≡ None → r.header ≡ header → committed ≡ r.digests.count → issued ≡ length r.issued
      → digest.bytes ≡ sha256 (text ++ end_line r.digests.count (length r.issued))
      → SumsUp header lines (record { counts = counts; committed = committed; issued = issued; replies = digest })
  ended rest r counts text header committed issued digest going none same one two three =
      let made = (ended_at going.left going.are rest r counts text going.stands none).1 in
      subst (λ (h : Header). SumsUp h lines (record { counts = counts; committed = committed; issued = issued; replies = digest })) same
      (record {
        events = made.events;
        read = made.read;
        told = (λ j. record { counts = counts; committed = one j; issued = two j; replies = record { bytes = three j } }) ∙ made.told;
      })

-- ---- the beginning

pub behind_first : (number count : ℕ) (header : Header)
    → line_at (schedule_text number count header) ≡ Some (header_text header, joined_lines (schedule_lines number count header))
behind_first number count header =
    line_again (header_text header) (joined_lines (schedule_lines number count header)) (header-unbroken header)

pub starts : (lines : List (List ℕ)) (header : Header) (rest : List ℕ) (r : RunningReplay) (counts : ReplyCounts) (text : List ℕ)
    → length lines ≤ most_events → All IsEventLine lines
    → rest ≡ joined_lines lines → r ≡ first_running_replay header → counts ≡ no_counts → text ≡ [] → Going lines rest r counts text
starts lines header rest r counts text few events one two three four =
    let are = recursion_from_All IsEventLine lines events in
    rw (one, two, three, four) (record {
      left = lines;
      are = are;
      stands = record {
        all = events_of lines are;
        bytes = refl;
        whole = events_read lines are;
        few = omega (arith, few);
        over = refl;
        rests = record { replies = refl; counted = refl; state = refl; issued = refl };
      };
    })

-- these lines are the text's, and each is an event's
pub record AreLeft (all : List (List ℕ)) (rest : List ℕ) : Type 0 where
  pub lines : lines_of rest ≡ all
  pub few : length (lines_of rest) ≤ most_events
  pub events : All IsEventLine (lines_of rest)
  pub whole : joined_lines (lines_of rest) ≡ rest

-- the lines behind the header's
pub are_left : (number count : ℕ) (header : Header) (text rest : List ℕ) → count ≤ most_events → text ≡ schedule_text number count header
    → ((first behind : List ℕ) → line_at text ≡ Some (first, behind) → rest ≡ behind)
    → AreLeft (schedule_lines number count header) rest
are_left number count header text rest few is gives =
    let events = (is_schedule number count header few).events in
    let counted = (is_schedule number count header few).counted in
    let all : List (List ℕ) = schedule_lines number count header in
    let unbroken : AllByRecursion IsUnbroken all = recursion_from_All IsUnbroken all
    (All-weaker IsEventLine IsUnbroken (λ line event. event.unbroken) all events) in
    let bytes : rest ≡ joined_lines all = gives _ _ (ap line_at is ∙ behind_first number count header) in
    let lines : lines_of rest ≡ all = ap lines_of (bytes ∙ sym (append-nil (joined_lines all)))
    ∙ lines_of-joined all [] unbroken ∙ append-nil all in
    record {
      lines = lines;
      few = omega (arith, ap (λ (xs : List (List ℕ)). length xs) lines, counted, few);
      events = subst (All IsEventLine) (sym lines) events;
      whole = ap joined_lines lines ∙ sym bytes;
    }

-- what was summed up of the lines that were left
pub handed_sums : (header other : Header) (lines shown : List (List ℕ)) (result : Result Summary BulkFault) → shown ≡ lines
    → other ≡ header → IfOk result (SumsUp other shown) → IfOk result (SumsUp header lines)
handed_sums header other lines shown result is same sums = rw (sym is, sym same) sums

pub handed_limit : (header other : Header) (lines shown : List (List ℕ)) (result : Result Summary BulkFault) → shown ≡ lines
    → other ≡ header → IsLimited (is_over (first_running_replay other) shown) result
    → IsLimited (is_over (first_running_replay header) lines) result
handed_limit header other lines shown result is same limit = rw (sym is, sym same) limit

-- a line more, by what stands behind it
pub goes_on : (lines : List (List ℕ)) (rest : List ℕ) (r new : RunningReplay) (counts more : ReplyCounts)
    (text written line behind : List ℕ)
    (reply : Reply) → Next lines rest r counts text line behind → RunsLine r new line reply → more ≡ counts_after_reply counts reply
    → written ≡ text ++ text_of_replies reply → Going lines behind new more written
goes_on lines rest r new counts more text written line behind reply step answered one two = rw (one, two) (step.on reply new answered)
