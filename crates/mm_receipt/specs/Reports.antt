-- A check of a whole input. With it: the tally of the code, as contracts see it.
use Rattle.std.specs.Prelude.{◌≡◌, ℕ, List, ◌++◌, Option, Result, ◌≤◌, length, Some, None, Ok, Err}
use Rattle.mm_bytes.specs.Limits.{longest_request}
use Rattle.mm_base.specs.declared.replay_fault.ReplayFault.{ReplayFault}
use Rattle.mm_play.specs.Headline.{stream_standing}
use Rattle.mm_play.specs.PlaysInput.{PlaysInput, AnswersAllLines, IsReported, RefusesMuch, TellsOutput}
use Rattle.mm_play.specs.declared.player.LineRefusal.{LineRefusal}
use Rattle.mm_play.specs.declared.player.ReplyFault.{ReplyFault}
use Rattle.mm_play.specs.declared.player.ReplyFault.TheVariants as fault
use Rattle.mm_receipt.specs.declared.pair.AskedRequest.{AskedRequest}
use Rattle.mm_receipt.specs.declared.report.ReceiptReport.{ReceiptReport}
use Rattle.mm_receipt.specs.declared.tally.Tally.{Tally}
use Rattle.mm_receipt.specs.ReceiptCheck.{CheckState, first_check, last_line, receipts_answer, receipts_closing, IsHonestFor}
use Rattle.mm_receipt.specs.ReceiptCheck as checking

-- the counts of the last line
abbrev pub CountsLast : CheckState → ReceiptReport → Type 0
CountsLast it report = (report.good ≡ it.tally.good) × (report.pairs ≡ it.tally.pairs)

-- A check took these bytes of the input and wrote those, which fit the answers line by line.
pub record ChecksReceipts (key : List ℕ) (left left' received received' : Option (List ℕ))
    (result : Result ReceiptReport ReplayFault) : Type 0 where
  pub next : CheckState
  pub plays : PlaysInput receipts_answer receipts_closing (first_check key) next
      (stream_standing left received) (stream_standing left' received') result
  pub reported : IsReported CountsLast next result

-- These lines were answered with this text; and honestly, where no receipt is forged.
pub record AnswersHonestly (key : List ℕ) (lines : List (List ℕ)) (written : List ℕ) : Type 0 where
  pub answered : AnswersAllLines receipts_answer (first_check key) lines written
  pub honest : IsHonestFor key lines written

-- All lines of an input were, and the last line stands behind.
pub record EndsHonestly (key : List ℕ) (lines : List (List ℕ)) (written : List ℕ) : Type 0 where
  pub said : List ℕ
  pub answers : AnswersHonestly key lines said
  pub whole : written ≡ said ++ last_line answers.answered.0.tally.good
      answers.answered.0.tally.pairs

-- Of a check, by how it ended: the answers to all lines or to some first ones are out.
pub record ChecksHonestly (key : List ℕ) (left left' received received' : Option (List ℕ))
    (result : Result ReceiptReport ReplayFault) : Type 0 where
  pub checks : ChecksReceipts key left left' received received' result
  pub tells : TellsOutput (AnswersHonestly key) (EndsHonestly key)
      (RefusesMuch receipts_answer (first_check key)) left' checks.plays.taken checks.plays.sent
      result

-- The tally of the code, as contracts see it.

abbrev pub tally_of : Tally → checking.CheckTally
tally_of tally =
    record {
      key = tally.key;
      known = tally.known.entries;
      good = tally.good;
      pairs = tally.pairs;
      read = tally.read;
    }

-- The first line of a pair was taken, with this answer.
abbrev pub TakesFirst : Result (AskedRequest × checking.CheckTally) LineRefusal
    → checking.CheckTally
    → Result AskedRequest ReplyFault → Type 0
TakesFirst answer next (Ok asked) = answer ≡ Ok (asked, next)
TakesFirst answer next (Err fault.Memory) = Unit {0}
TakesFirst answer next (Err (fault.Refused why)) = answer ≡ Err why

-- a request that waits has at most 4,096 bytes
abbrev pub IsShortAsked : Option AskedRequest → Type 0
IsShortAsked None = Unit {0}
IsShortAsked (Some asked) = length asked.request ≤ longest_request
