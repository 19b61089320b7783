-- Each line of a turn spells an event: so a generated schedule is read as it was made.
use Rattle.mm_gen.proofs.Below.{◌<◌, ◌≤◌, ℕ, Bool, true, false, List, length, arith, if◌then◌else◌, Header, TurnWords, nat_tests, ◌≡◌, ◌≢◌}
use Rattle.mm_gen.proofs.Below.{◌^◌, ◌+◌, [], ◌∷◌, ◌++◌, refl, ◌==◌, not, decimal, list_all, length-append, All-append, IsUnbroken, name_of}
use Rattle.mm_gen.proofs.Below.{any_is_found, any_is_listed, chosen_request, ◌%◌, nat_lt, codes, AllByRecursion, Variant, Basic, Opt, Ask}
use Rattle.mm_gen.proofs.Below.{Checkpoint, Power, IsEventLine, ask_text, cut_word, pair, row_14, row_15, ◌*◌, zero, suc, sym, ap, ◌∙◌, All}
use Rattle.mm_gen.proofs.Below.{length-take-le, All-from_recursion, All-nil, All-take, All-weaker, recursion_from_All, key_of, joined_lines}
use Rattle.mm_gen.proofs.Below.{lines_of, tail_of, lines_of-joined, tail_of-joined, most_events, header_text, variant_text, IsSchedule}
use Rattle.mm_gen.proofs.Below.{lines_from, schedule_lines, seed_from, words_at}
use Rattle.mm_gen.specs.Schedules.{turn_lines}
use Rattle.std.proofs.lemmas.Fmt.{length-decimal-le}
use Rattle.mm_listing.specs.Listing.{is_name_byte}
use Rattle.mm_module.specs.LineLaws.{All-is_unbroken, and-both, and-true, is_unbroken, is_unbroken-decimal}
use Rattle.mm_modules.specs.declared.any.AnyModule.{AnyModule}
use Rattle.std.proofs.lemmas.Nat.{mod_below}
use Rattle.mm_module.specs.Batch.{One}
use Rattle.mm_platform.specs.declared.plan.Stop.{Stop}
use Rattle.mm_platform.specs.declared.plan.Stop.TheVariants.{Quiet, Cut, Drop, Fail}
use Rattle.mm_schedule.specs.declared.event.Offer.{Offer}
use Rattle.mm_schedule.specs.declared.event.Offer.TheVariants.{Number, Last, Flip}
use Rattle.mm_schedule.specs.Events.{SpellsNumber, SpellsOffer, SpellsStep, SpellsStop}
use Rattle.std.proofs.lemmas.List.{append-nil}
use Rattle.std.specs.Prelude.{nat_le, ◌&&◌}

-- ---- parts of lines: bytes without LF, and at most so many

record IsPart (size : ℕ) (bytes : List ℕ) : Type 0 where
  unbroken : IsUnbroken bytes
  short : length bytes ≤ size

at_most : (a b : ℕ) → nat_le a b ≡ true → a ≤ b
at_most a b e = grind (arith, nat_tests)

-- a literal text
literal : (text : List ℕ) → (is_unbroken text && nat_le (length text) 20) ≡ true → IsPart 20 text
literal text is =
    let w = and-true (is_unbroken text) (nat_le (length text) 20) is in
    record { unbroken = All-is_unbroken text w.0; short = at_most (length text) 20 w.1 }

-- a number below 1,000,000,000
number : (n : ℕ) → n < 10 ^ 9 → IsPart 20 (decimal n)
number n low =
    let small : n < 2 ^ 64 = omega (arith, low) in
    record {
      unbroken = All-is_unbroken (decimal n) (is_unbroken-decimal n small);
      short = omega (arith, length-decimal-le 9 n (omega arith) low small);
    }

both : {m n : ℕ} {front back : List ℕ} → IsPart m front → IsPart n back → IsPart (m + n) (front ++ back)
both {m} {n} {front} {back} first second = record {
  unbroken = All-append (λ (byte : ℕ). byte ≢ 10) front back first.unbroken second.unbroken;
  short = omega (arith, length-append front back, first.short, second.short);
}

wider : {m : ℕ} {bytes : List ℕ} (n : ℕ) → IsPart m bytes → m ≤ n → IsPart n bytes
wider n part more = record { unbroken = part.unbroken; short = omega (arith, part.short, more) }

space : IsPart 20 (32 ∷ [])
space = literal (32 ∷ []) refl

named_unbroken : (bytes : List ℕ) → list_all is_name_byte bytes ≡ true → is_unbroken bytes ≡ true
named_unbroken [] are = refl
named_unbroken (byte ∷ bytes) are =
    let w = and-true (is_name_byte byte) (list_all is_name_byte bytes) are in
    let first : not (byte == 10) ≡ true = grind (arith, nat_tests) in
    and-both _ _ first (named_unbroken bytes w.1)

-- the name of a module
name-part : (it : AnyModule) → IsPart 32 (name_of it)
name-part it = record {
  unbroken = All-is_unbroken (name_of it) (named_unbroken (name_of it) (any_is_listed it).named.letters);
  short = (any_is_found it).short;
}

-- a request of a module
request-part : (it : AnyModule) (choice : ℕ) → IsPart 256 (chosen_request it choice)
request-part it choice =
    let asks = (any_is_listed it).asks choice in
    record { unbroken = All-is_unbroken (chosen_request it choice) asks.unbroken; short = asks.short }

-- ---- what ends a call, and what it offers

-- an offer, spelled in this text
record Offers (offer : Offer) (text : List ℕ) : Type 0 where
  spelled : SpellsOffer offer text
  part : IsPart 80 text

spelled_number : (n : ℕ) → n < 10 ^ 9 → SpellsNumber n (decimal n)
spelled_number n low = record { most = omega (arith, low); digits = refl }

spelled_step : (n : ℕ) → SpellsStep (1 + n % 5) (decimal (1 + n % 5))
spelled_step n = record { low = omega arith; high = omega arith; digit = refl }

module _ (stop : Stop) where
  -- what ends a call, spelled in this text
  record Ends (text : List ℕ) : Type 0 where
    spelled : SpellsStop stop text
    part : IsPart 80 text

  ask_line : (ending : List ℕ) (offer : Offer) (from request : List ℕ) → Ends ending → Offers offer from → IsPart 256 request
      → IsEventLine (ending ++ ask_text from request)
  ask_line ending offer from request ends offers part =
      let line : IsPart 456 (ending ++ ask_text from request) =
      both ends.part (both (literal (codes "ask ") refl) (both offers.part (both space part))) in
      record {
        event = Ask [] stop offer (One request);
        spelled = (
          from,
          offers.spelled,
          record { few = omega arith; extensions = []; ending = ending; meddled = refl; stopped = ends.spelled; parts = refl },
        );
        short = omega (arith, line.short);
        unbroken = line.unbroken;
      }

  -- a word, a step and a text behind it
  at_step : (word behind : List ℕ) (n : ℕ) → SpellsStop stop (word ++ decimal (1 + n % 5) ++ behind) → IsPart 20 word → IsPart 20 behind
      → Ends (word ++ decimal (1 + n % 5) ++ behind)
  at_step word behind n spelled first second =
      record { spelled = spelled; part = wider 80 (both (both first (number (1 + n % 5) (omega arith))) second) (omega arith) }

-- nothing ends the call
quiet : Ends Quiet []
quiet = record { spelled = refl; part = wider 80 (literal [] refl) (omega arith) }

last : Offers Last (codes "last")
last = record { spelled = refl; part = wider 80 (literal (codes "last") refl) (omega arith) }

numbered : (n : ℕ) → n < 10 ^ 9 → Offers (Number n) (decimal n)
numbered n low = record { spelled = spelled_number n low; part = wider 80 (number n low) (omega arith) }

flipped : (n byte : ℕ) → n < 10 ^ 9 → byte < 10 ^ 9 → Offers (Flip n byte) (codes "flip " ++ decimal n ++ 32 ∷ decimal byte)
flipped n byte low few = record {
  spelled = (decimal n, decimal byte, spelled_number n low, spelled_number byte few, refl);
  part = both (literal (codes "flip ") refl) (both (number n low) (both space (number byte few)));
}

cut : (n : ℕ) → Ends (Cut (1 + n % 5)) (codes "cut " ++ decimal (1 + n % 5) ++ 32 ∷ [])
cut n = at_step _ (codes "cut ") (32 ∷ []) n (decimal (1 + n % 5), spelled_step n, refl) (literal (codes "cut ") refl) space

drop : (n : ℕ) → Ends (Drop (1 + n % 5)) (codes "drop " ++ decimal (1 + n % 5) ++ 32 ∷ [])
drop n = at_step _ (codes "drop ") (32 ∷ []) n (decimal (1 + n % 5), spelled_step n, refl) (literal (codes "drop ") refl) space

fail : (n : ℕ) (done : Bool)
    → Ends (Fail (1 + n % 5) done) (codes "fail " ++ decimal (1 + n % 5) ++ (if done then codes " done " else codes " undone "))
fail n true = at_step _ (codes "fail ") (codes " done ") n (decimal (1 + n % 5), spelled_step n, refl) (literal (codes "fail ") refl)
    (literal (codes " done ") refl)
fail n false = at_step _ (codes "fail ") (codes " undone ") n (decimal (1 + n % 5), spelled_step n, refl) (literal (codes "fail ") refl)
    (literal (codes " undone ") refl)

-- ---- the lines of a turn

-- each line is an event's
abbrev pub AreEvents : List (List ℕ) → Type 0
AreEvents lines = AllByRecursion IsEventLine lines

last_asked : (request : List ℕ) → IsPart 256 request → IsEventLine (ask_text (codes "last") request)
last_asked request part = ask_line Quiet [] Last (codes "last") request quiet last part

pairs : (stop : Stop) (ending request : List ℕ) → Ends stop ending → IsPart 256 request → AreEvents (pair ending request)
pairs stop ending request ends part = (ask_line stop ending Last (codes "last") request ends last part, (last_asked request part, tt))

cut_or_drop : (variant : Variant) (n : ℕ) (request : List ℕ) → IsPart 256 request
    → AreEvents (pair (cut_word variant ++ decimal (1 + n % 5) ++ 32 ∷ []) request)
cut_or_drop Basic n request part = pairs (Cut (1 + n % 5)) _ request (cut n) part
cut_or_drop Opt n request part = pairs (Drop (1 + n % 5)) _ request (drop n) part

power-line : IsEventLine (codes "power")
power-line =
    let part = literal (codes "power") refl in
    record { event = Power; spelled = refl; short = omega (arith, part.short); unbroken = part.unbroken }

checkpoint-line : IsEventLine (codes "checkpoint")
checkpoint-line =
    let part = literal (codes "checkpoint") refl in
    record {
      event = Checkpoint [] Quiet;
      spelled = record { few = omega arith; extensions = []; ending = []; meddled = refl; stopped = refl; parts = refl };
      short = omega (arith, part.short);
      unbroken = part.unbroken;
    }

events-14 : (variant : Variant) → AreEvents (row_14 variant)
events-14 Basic = (power-line, tt)
events-14 Opt = (checkpoint-line, (power-line, tt))

events-15 : (variant : Variant) → AreEvents (row_15 variant)
events-15 Basic = (power-line, tt)
events-15 Opt = (checkpoint-line, tt)

-- what holds in both cases
in_both : {A : Type 0} (P : A → Type 0) (b : Bool) {x y : A} → P x → P y → P (if b then x else y)
in_both P true one other = one
in_both P false one other = other

turn_events : (header : Header) (first : ℕ) (words : TurnWords) → 0 < first → first < 10 ^ 9 → AreEvents (turn_lines header first words)
unfolding turn_lines
turn_events header first words some low =
    let request : List ℕ = chosen_request header.module words.request in
    let part : IsPart 256 request = request-part header.module words.request in
    let snapshot : words.number % first < 10 ^ 9 = omega (arith, mod_below words.number first some, low) in
    in_both AreEvents (nat_lt (words.row % 16) 9) (last_asked request part, tt)
    (in_both AreEvents (words.row % 16 == 9)
    (ask_line Quiet [] (Number (words.number % first)) _ request quiet (numbered (words.number % first) snapshot) part, tt)
    (in_both AreEvents (words.row % 16 == 10) (
      ask_line Quiet [] (Flip (words.number % first) (words.detail % 128)) _ request quiet
          (flipped (words.number % first) (words.detail % 128) snapshot (omega arith)) part,
      tt,
    )
    (in_both AreEvents (words.row % 16 == 11) (cut_or_drop header.variant words.number request part)
    (in_both AreEvents (words.row % 16 == 12) (pairs (Drop (1 + words.number % 5)) _ request (drop words.number) part)
    (in_both AreEvents (words.row % 16 == 13)
    (pairs (Fail (1 + words.number % 5) (words.detail % 2 == 0)) _ request (fail words.number (words.detail % 2 == 0)) part)
    (in_both AreEvents (words.row % 16 == 14) (events-14 header.variant) (events-15 header.variant)))))))

-- a turn has one line, or two
pub record IsFew (lines : List (List ℕ)) : Type 0 where
  pub some : 0 < length lines
  pub few : length lines ≤ 2

pub are_few : (header : Header) (first : ℕ) (words : TurnWords) → IsFew (turn_lines header first words)
unfolding turn_lines
are_few header first words = record { some = grind (arith, nat_tests); few = grind (arith, nat_tests) }

-- ---- the whole schedule

variant-part : (variant : Variant) → IsPart 20 (variant_text variant)
variant-part Basic = literal (codes "basic") refl
variant-part Opt = literal (codes "opt") refl

pub header-unbroken : (header : Header) → IsUnbroken (header_text header)
header-unbroken header =
    let line : IsPart 92 (header_text header) =
    both (literal (codes "memoir 1 ") refl) (both (variant-part header.variant) (both space (name-part header.module))) in line.unbroken

-- so many turns have at least as many lines, and each is an event's
events_from : (header : Header) (key : List ℕ) (place first turns : ℕ) → 0 < first → first + 2 * turns < 10 ^ 9
    → (turns ≤ length (lines_from header key place first turns)) × All IsEventLine (lines_from header key place first turns)
events_from header key place first zero some low = (omega arith, All-nil IsEventLine)
events_from header key place first (suc turns) some low =
    let lines : List (List ℕ) = turn_lines header first (words_at key place) in
    let size = are_few header first (words_at key place) in
    let least : 0 < length lines = size.some in let most : length lines ≤ 2 = size.few in
    let more = events_from header key (place + 4) (first + length lines) turns (omega arith) (omega arith) in
    let rest : List (List ℕ) = lines_from header key (place + 4) (first + length lines) turns in
    let now = All-from_recursion IsEventLine lines (turn_events header first (words_at key place) some (omega arith)) in
    (omega (arith, length-append lines rest, more.0), All-append IsEventLine lines rest now more.1)

pub is_schedule : (number count : ℕ) (header : Header) → count ≤ most_events → IsSchedule number count header
is_schedule number count header few =
    let all : List (List ℕ) = lines_from header (key_of (seed_from number)) 0 1 count in
    let from = events_from header (key_of (seed_from number)) 0 1 count (omega arith) (omega arith) in
    let events : All IsEventLine (schedule_lines number count header) = All-take IsEventLine count all from.1 in
    let unbroken : AllByRecursion IsUnbroken (header_text header ∷ schedule_lines number count header) = (
      header-unbroken header,
      recursion_from_All IsUnbroken (schedule_lines number count header) (All-weaker IsEventLine IsUnbroken (λ line event. event.unbroken)
          (schedule_lines number count header) events),
    ) in
    let lines : List (List ℕ) = header_text header ∷ schedule_lines number count header in
    record {
      lines = ap lines_of (sym (append-nil (joined_lines lines))) ∙ lines_of-joined lines [] unbroken ∙ append-nil lines;
      ends = ap tail_of (sym (append-nil (joined_lines lines))) ∙ tail_of-joined lines [] unbroken;
      counted = length-take-le count all from.0;
      events = events;
    }
