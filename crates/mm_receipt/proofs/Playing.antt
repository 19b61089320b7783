-- What a check does with a line, with the end of an input, and with a whole input.
use Rattle.mm_receipt.proofs.Below.{◌≡◌, ◌∙◌, ℕ, List, ◌++◌, Option, Some, None, Result, Ok, Err, ap, LineRefusal, plays_err, tells}
use Rattle.mm_receipt.proofs.Below.{AskedRequest, CheckTally, CheckState, second_answer, reply_of_second, receipts_answer, receipts_closing}
use Rattle.mm_receipt.proofs.Below.{closing_at, last_line, first_check}
use Rattle.mm_base.specs.declared.replay_fault.ReplayFault.{ReplayFault}
use Rattle.mm_play.specs.declared.player.ReplyFault.{ReplyFault}
use Rattle.mm_play.specs.declared.player.ReplyFault.TheVariants as fault
use Rattle.mm_play.specs.PlaysInput.{PlaysInput, AnswersAllLines, AnswersWholeInput}
use Rattle.mm_play.specs.Headline.{GivesReply, stream_standing}
use Rattle.mm_receipt.specs.declared.report.ReceiptReport.{ReceiptReport}
use Rattle.mm_receipt.specs.Reports.{AnswersHonestly, ChecksReceipts, ChecksHonestly, EndsHonestly}
use Rattle.mm_receipt.proofs.HonestLaws.{honest}

settled-answer : (it : CheckState) (old : CheckTally) (asked : AskedRequest) (line : List ℕ)
    (answer : Result (List ℕ × CheckTally) LineRefusal)
    → it ≡ record { tally = old; asked = Some asked } → second_answer old asked line ≡ answer → receipts_answer it line
    ≡ reply_of_second answer
settled-answer it old asked line answer is said = ap (λ (c : CheckState). receipts_answer c line) is ∙ ap reply_of_second said

pub takes-second : (it : CheckState) (old : CheckTally) (asked : AskedRequest) (line : List ℕ) (new : CheckTally) (next : CheckState)
    (result : Result (List ℕ) ReplyFault) → it ≡ record { tally = old; asked = Some asked } → record { tally = new; asked = None } ≡ next
    → GivesReply (second_answer old asked line) new result → GivesReply (receipts_answer it line) next result
takes-second it old asked line new next (Ok reply) is then t =
    settled-answer it old asked line (Ok (reply, new)) is t ∙ ap (λ (c : CheckState). Ok (reply, c)) then
takes-second it old asked line new next (Err fault.Memory) is then t = tt
takes-second it old asked line new next (Err (fault.Refused why)) is then t = settled-answer it old asked line (Err why) is t

pub checks-err : (key : List ℕ) {first next : CheckState} {left left' received received' : Option (List ℕ)}
    {result : Result (Unit {0}) ReplayFault} → first ≡ first_check key
    → PlaysInput receipts_answer receipts_closing first next (stream_standing left received) (stream_standing left' received') result
    → (fault : ReplayFault) → result ≡ Err fault → ChecksReceipts key left left' received received' (Err fault)
checks-err key {next = next} begins played fault is = record { next = next; plays = plays_err begins played fault is; reported = tt }

-- ---- what is said, where no receipt is forged

answers-honestly : (key : List ℕ) (lines : List (List ℕ)) (written : List ℕ)
    → AnswersAllLines receipts_answer (first_check key) lines written
    → AnswersHonestly key lines written
answers-honestly key lines written a = record { answered = a; honest = honest key lines written a.0 a.1 }

-- the last line has the counts of what was found
closes-with : (tally : CheckTally) (asked : Option AskedRequest) (last : List ℕ) → closing_at tally asked ≡ Some last
    → last ≡ last_line tally.good tally.pairs
closes-with tally None last is = some_same (last_line tally.good tally.pairs) last is
  where
    some_same : (a b : List ℕ) → Some a ≡ Some b → b ≡ a
    some_same a b h = cc
closes-with tally (Some asked) last is = absurd (none_some last is)
  where
    none_some : (last : List ℕ) → (let o : Option (List ℕ) = None in o ≡ Some last) → ⊥
    none_some last h = cc

ends-honestly : (key : List ℕ) (lines : List (List ℕ)) (written : List ℕ)
    → AnswersWholeInput receipts_answer receipts_closing (first_check key) lines written → EndsHonestly key lines written
unfolding answers-honestly
ends-honestly key lines written f = record {
  said = f.said;
  answers = answers-honestly key lines f.said (f.next, f.ran);
  whole = f.whole ∙ ap (λ (l : List ℕ). f.said ++ l) (closes-with f.next.tally f.next.asked f.last f.closed);
}

pub honestly : (key : List ℕ) {left left' received received' : Option (List ℕ)} {result : Result ReceiptReport ReplayFault}
    → ChecksReceipts key left left' received received' result → ChecksHonestly key left left' received received' result
honestly key {left' = left'} {result = result} r = record {
  checks = r;
  tells =
      tells receipts_answer receipts_closing (first_check key) r.next
      (record { lines = answers-honestly key; whole = ends-honestly key; turn = λ done rest much. much }) left' r.plays.taken r.plays.sent
      result r.plays.settled;
}
