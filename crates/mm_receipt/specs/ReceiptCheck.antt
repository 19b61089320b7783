-- The check of receipts: pairs of lines, a request with its position and then the output, each
-- answered in a line. With it: a check ends; what a check says of receipts that aren't forged.
use Rattle.std.specs.BTreeMap.{is_at, insert_entry}
use Rattle.std.specs.Fmt.{decimal}
use Rattle.std.specs.List.{position, AllByRecursion}
use Rattle.std.specs.Map.{lookup}
use Rattle.std.specs.Ordering.{nat_cmp}
use Rattle.std.specs.Prelude.{ℕ, ◌+◌, ◌-◌, ◌*◌, ◌&&◌, ◌||◌, Bool, nat_le, nat_lt, List, [], ◌∷◌, ◌++◌, length, take, drop, codes, Option}
use Rattle.std.specs.Prelude.{Some, None, Result, Ok, Err, if◌then◌else◌, ◌≡◌, ◌<◌, ◌^◌}
use Rattle.std.specs.Str.{bytes_eq}
use Rattle.std.proofs.Common.{arith}
use Rattle.std.proofs.lemmas.Bool.Decides.{nat_tests}
use Rattle.mm_bytes.specs.Limits.{decimal_number, last_position, longest_request}
use Rattle.mm_module.specs.Meaning.{is_space, Meaning}
use Rattle.mm_receipted.specs.ReceiptListing.{IsCounted, IsTagged, WasRun}
use Rattle.mm_receipted.specs.Receipts.{check_of_receipt, receipt_message}
use Rattle.mm_receipted.specs.Table.{first_receipt_state}
use Rattle.mm_receipted.specs.declared.receipt.NotReceipt.{NotReceipt}
use Rattle.mm_receipted.specs.declared.receipt.NotReceipt.TheVariants.{Form, Tag}
use Rattle.mm_schedule.specs.Replies.{end_line}
use Rattle.mm_play.specs.PlaysInput.{play_outcome, outcome_of_lines}
use Rattle.mm_play.specs.declared.player.LineRefusal.{LineRefusal}
use Rattle.mm_play.specs.declared.player.LineRefusal.TheVariants.{Bad, Much}
use Rattle.mm_receipt.specs.declared.pair.AskedRequest.{AskedRequest}
use Rattle.mm_receipt.specs.declared.pair.GoodPair.{GoodPair}
use Rattle.mm_receipt.specs.declared.pair.PairVerdict.{PairVerdict}
use Rattle.mm_receipt.specs.declared.pair.PairVerdict.TheVariants.{NoForm, NoTag, Clash, Good}

-- the most pairs, and the most bytes of lines, each without its LF
abbrev pub most_pairs : ℕ
most_pairs = 20000

abbrev pub most_read : ℕ
most_read = 268435456

abbrev pub asked_request : List ℕ → Option ℕ → Option AskedRequest
asked_request request None = None
asked_request request (Some number) =
    if nat_le 1 number && nat_le number last_position && nat_le (length request) longest_request
    then Some (record { position = number; request = request }) else None

abbrev pub request_by_space : List ℕ → Option ℕ → Option AskedRequest
request_by_space line None = None
request_by_space line (Some at) = asked_request (drop (at + 1) line) (decimal_number (take at line))

-- the first line of a pair: a position from 1 to 2^48, a space and a request of at most 4,096 bytes
abbrev pub pair_at : List ℕ → Option AskedRequest
pair_at line = request_by_space line (position is_space line)

-- the good pairs by their positions, how many pairs were good, how many there were, and the bytes
-- of their lines
pub record CheckTally : Type 0 where
  pub key : List ℕ
  pub known : List (ℕ × GoodPair)
  pub good : ℕ
  pub pairs : ℕ
  pub read : ℕ

abbrev pub first_tally : List ℕ → CheckTally
first_tally key = record { key = key; known = []; good = 0; pairs = 0; read = 0 }

-- a pair more would be too many, or this line too many bytes
abbrev pub is_too_much : CheckTally → List ℕ → Bool
is_too_much tally line =
    nat_le most_pairs tally.pairs || nat_lt most_read (tally.read + length line)

-- the good pair of a position
abbrev pub known_at : ℕ → List (ℕ × GoodPair) → Option GoodPair
known_at number known = lookup (is_at (nat_cmp number)) known

-- a pair whose position has a good one: the same, or another
abbrev pub verdict_by_pair : GoodPair → List ℕ → List ℕ → PairVerdict
verdict_by_pair pair request output =
    if bytes_eq request pair.request && bytes_eq output pair.output then Good else Clash

abbrev pub verdict_against : Option GoodPair → List ℕ → List ℕ → PairVerdict
verdict_against None request output = Good
verdict_against (Some pair) request output = verdict_by_pair pair request output

abbrev pub receipt_verdict : Result (Unit {0}) NotReceipt → Option GoodPair → List ℕ → List ℕ
    → PairVerdict
receipt_verdict (Err Form) known request output = NoForm
receipt_verdict (Err Tag) known request output = NoTag
receipt_verdict (Ok _) known request output = verdict_against known request output

-- what a pair is answered
abbrev pub pair_verdict : CheckTally → AskedRequest → List ℕ → PairVerdict
pair_verdict tally asked output =
    receipt_verdict (check_of_receipt tally.key asked.position asked.request output)
    (known_at asked.position tally.known) asked.request output

-- its line
abbrev pub verdict_text : ℕ → PairVerdict → List ℕ
verdict_text number NoForm = codes "no form" ++ 10 ∷ []
verdict_text number NoTag = codes "no tag" ++ 10 ∷ []
verdict_text number Clash = codes "clash " ++ decimal number ++ 10 ∷ []
verdict_text number Good = codes "good " ++ decimal number ++ 10 ∷ []

-- a pair and its second line are counted
abbrev pub tally_with_pair : CheckTally → List ℕ → CheckTally
tally_with_pair tally line =
    record tally { pairs = tally.pairs + 1; read = tally.read + length line }

-- a good pair is remembered
abbrev pub tally_with_known : CheckTally → AskedRequest → List ℕ → CheckTally
tally_with_known tally asked output = record tally {
  known =
      insert_entry nat_cmp tally.known asked.position
      (record { request = asked.request; output = output });
}

abbrev pub tally_with_good : CheckTally → CheckTally
tally_with_good tally = record tally { good = tally.good + 1 }

-- after a pair with this verdict
abbrev pub tally_after_pair : CheckTally → AskedRequest → List ℕ → PairVerdict → CheckTally
tally_after_pair tally asked output Good =
    tally_with_good (tally_with_known (tally_with_pair tally output) asked output)
tally_after_pair tally asked output _ = tally_with_pair tally output

abbrev pub first_answer_by : CheckTally → List ℕ → Option AskedRequest
    → Result (AskedRequest × CheckTally) LineRefusal
first_answer_by tally line None = Err Bad
first_answer_by tally line (Some asked) =
    if is_too_much tally line then Err Much
    else Ok (asked, record tally { read = tally.read + length line })

-- the first line of a pair, which is answered nothing
abbrev pub first_answer : CheckTally → List ℕ → Result (AskedRequest × CheckTally) LineRefusal
first_answer tally line = first_answer_by tally line (pair_at line)

-- the second line of a pair, and the reply
abbrev pub second_answer : CheckTally → AskedRequest → List ℕ
    → Result (List ℕ × CheckTally) LineRefusal
second_answer tally asked line =
    if is_too_much tally line then Err Much
    else Ok (
      verdict_text asked.position (pair_verdict tally asked line),
      tally_after_pair tally asked
          line (pair_verdict tally asked line),
    )

-- what was found, and the first line of a pair that waits for its second
pub record CheckState : Type 0 where
  pub tally : CheckTally
  pub asked : Option AskedRequest

abbrev pub reply_of_first : Result (AskedRequest × CheckTally) LineRefusal
    → Result (List ℕ × CheckState) LineRefusal
reply_of_first (Ok first) = Ok ([], record { tally = first.1; asked = Some first.0 })
reply_of_first (Err why) = Err why

abbrev pub reply_of_second : Result (List ℕ × CheckTally) LineRefusal
    → Result (List ℕ × CheckState) LineRefusal
reply_of_second (Ok second) = Ok (second.0, record { tally = second.1; asked = None })
reply_of_second (Err why) = Err why

abbrev pub pair_answer : CheckTally → Option AskedRequest → List ℕ
    → Result (List ℕ × CheckState) LineRefusal
pair_answer tally None line = reply_of_first (first_answer tally line)
pair_answer tally (Some asked) line = reply_of_second (second_answer tally asked line)

-- the reply to a line
abbrev pub receipts_answer : CheckState → List ℕ → Result (List ℕ × CheckState) LineRefusal
receipts_answer it line = pair_answer it.tally it.asked line

-- the line `end G N`: how many pairs were good, and how many there were
abbrev pub last_line : ℕ → ℕ → List ℕ
last_line good pairs = end_line good pairs

abbrev pub closing_at : CheckTally → Option AskedRequest → Option (List ℕ)
closing_at tally None = Some (last_line tally.good tally.pairs)
closing_at tally (Some asked) = None

-- the last line, where no pair waits
abbrev pub receipts_closing : CheckState → Option (List ℕ)
receipts_closing it = closing_at it.tally it.asked

-- before every line
abbrev pub first_check : List ℕ → CheckState
first_check key = record { tally = first_tally key; asked = None }

abbrev pub remaining_lines_by : CheckTally → Option AskedRequest → ℕ
remaining_lines_by tally None = 2 * (most_pairs - tally.pairs)
remaining_lines_by tally (Some asked) = 2 * (most_pairs - tally.pairs) - 1

-- how many more lines can be answered
abbrev pub remaining_lines_at : CheckState → ℕ
remaining_lines_at it = remaining_lines_by it.tally it.asked

-- A check ends: each answered line leaves fewer.

first_counts : (tally : CheckTally) (line : List ℕ) (found : Option AskedRequest) (reply : List ℕ)
    (next : CheckState)
    → reply_of_first (first_answer_by tally line found) ≡ Ok (reply, next)
    → remaining_lines_at next < 2 * (most_pairs - tally.pairs)
first_counts tally line found reply next h = grind (arith, nat_tests)

after-pairs : (tally : CheckTally) (asked : AskedRequest) (output : List ℕ) (verdict : PairVerdict)
    → (tally_after_pair tally asked output verdict).pairs ≡ tally.pairs + 1
after-pairs tally asked output verdict = grind arith

second_counts : (tally after : CheckTally) (line said reply : List ℕ) (next : CheckState)
    → after.pairs ≡ tally.pairs + 1
    → reply_of_second (if is_too_much tally line then Err Much else Ok (said, after))
    ≡ Ok (reply, next)
    → remaining_lines_at next < 2 * (most_pairs - tally.pairs) - 1
second_counts tally after line said reply next one h = grind (arith, nat_tests)

counts_at : (tally : CheckTally) (asked : Option AskedRequest) (line reply : List ℕ)
    (next : CheckState)
    → pair_answer tally asked line ≡ Ok (reply, next)
    → remaining_lines_at next < remaining_lines_at (record { tally = tally; asked = asked })
counts_at tally None line reply next h = first_counts tally line (pair_at line) reply next h
counts_at tally (Some asked) line reply next h =
    let verdict = pair_verdict tally asked line in
    second_counts tally (tally_after_pair tally asked line verdict) line
    (verdict_text asked.position verdict) reply next (after-pairs tally asked line verdict) h

-- an answered line leaves fewer
pub receipts_count_down : (it next : CheckState) (line reply : List ℕ)
    → receipts_answer it line ≡ Ok (reply, next)
    → remaining_lines_at next < remaining_lines_at it
receipts_count_down it next line reply h = counts_at it.tally it.asked line reply next h

left_few : (tally : CheckTally) (asked : Option AskedRequest)
    → remaining_lines_at (record { tally = tally; asked = asked }) < 2 ^ 31
left_few tally asked = grind arith

-- and there are few at first
pub receipts_are_few : (it : CheckState) → remaining_lines_at it < 2 ^ 31
receipts_are_few it = left_few it.tally it.asked

-- What a check says of receipts that aren't forged.

-- a pair of lines: a request at a position, and the output
pub record GivenPair : Type 0 where
  pub asked : AskedRequest
  pub output : List ℕ

-- the pairs of lines, where the first of one may wait already
abbrev pub pairs_of : Option AskedRequest → List (List ℕ) → List GivenPair
pairs_of asked [] = []
pairs_of None (line ∷ lines) = pairs_of (pair_at line) lines
pairs_of (Some asked) (line ∷ lines) = record { asked = asked; output = line } ∷ pairs_of None lines

-- what a pair of this position is answered by its output alone, whatever came before it: never
-- `clash`
abbrev pub text_alone : ℕ → Result (Unit {0}) NotReceipt → List ℕ
text_alone position (Err Form) = verdict_text position NoForm
text_alone position (Err Tag) = verdict_text position NoTag
text_alone position (Ok _) = verdict_text position Good

abbrev pub pair_text_alone : List ℕ → GivenPair → List ℕ
pair_text_alone key pair =
    text_alone pair.asked.position
    (check_of_receipt key pair.asked.position pair.asked.request pair.output)

abbrev pub all_texts_alone : List ℕ → List GivenPair → List ℕ
all_texts_alone key [] = []
all_texts_alone key (pair ∷ pairs) = pair_text_alone key pair ++ all_texts_alone key pairs

-- where the output is accepted, its message is one that these requests tagged
abbrev pub WasTagged : Meaning → List (List ℕ) → List ℕ → GivenPair → Type 0
WasTagged inner requests key pair =
    check_of_receipt key pair.asked.position pair.asked.request pair.output ≡ Ok tt
    → IsTagged inner key (first_receipt_state inner) requests
    (receipt_message pair.asked.position pair.asked.request (drop 65 pair.output))

-- where the output is accepted, it is what was said to the request at its position
abbrev pub IsTrue : Meaning → List (List ℕ) → List ℕ → GivenPair → Type 0
IsTrue inner requests key pair =
    check_of_receipt key pair.asked.position pair.asked.request pair.output ≡ Ok tt
    → WasRun inner requests pair.asked.position pair.asked.request pair.output

-- Each pair is answered as if it came alone, so that none is `clash`; and the good pairs are those
-- of the run.
pub record IsHonest (inner : Meaning) (requests : List (List ℕ)) (key : List ℕ)
    (pairs : List GivenPair)
    (written : List ℕ) : Type 0 where
  pub plain : written ≡ all_texts_alone key pairs
  pub right : AllByRecursion (IsTrue inner requests key) pairs

-- Whatever short requests a module ran: where they tagged the message of each output that is
-- accepted, it is so.
abbrev pub IsHonestFor : List ℕ → List (List ℕ) → List ℕ → Type 0
IsHonestFor key lines written =
    (inner : Meaning) (requests : List (List ℕ)) → AllByRecursion IsCounted requests
    → AllByRecursion (WasTagged inner requests key) (pairs_of None lines)
    → IsHonest inner requests key (pairs_of None lines) written

-- so it is with lines that were answered
abbrev pub ChecksAreHonest : Type 0
ChecksAreHonest = (key : List ℕ) (lines : List (List ℕ)) (written : List ℕ) (next : CheckState)
    → outcome_of_lines receipts_answer 1 (first_check key) lines ≡ play_outcome written (Ok next)
    → IsHonestFor key lines written
