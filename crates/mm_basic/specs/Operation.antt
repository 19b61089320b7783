-- What the machine is told of a call of Basic. With it: the order in which an offer is refused;
-- what a call answers, and what it writes; what is found in the bytes of a cell.
use Rattle.std.specs.Prelude.{ℕ, List, Bool, true, false, Result, Ok, Err, ◌≡◌, None}
use Rattle.mm_seal.specs.declared.snapshot.Place.TheVariants.{Basic}
use Rattle.mm_machine.specs.Acts.{is_extension_left}
use Rattle.mm_machine.specs.OpSteps.{OpMeaning}
use Rattle.mm_machine.specs.declared.call.OpStage.{OpStage}
use Rattle.mm_machine.specs.declared.call.OpStage.TheVariants.{Changing}
use Rattle.mm_machine.specs.declared.change.Change.TheVariants.{Writing}
use Rattle.mm_machine.specs.declared.operation.OpFinding.{OpFinding}
use Rattle.mm_machine.specs.declared.operation.OpFinding.TheVariants.{Repeat, Change}
use Rattle.mm_machine.specs.declared.operation.Sight.{Sight}
use Rattle.mm_machine.specs.declared.operation.Sight.TheVariants as sight
use Rattle.mm_model.specs.declared.refusal.Refusal.TheVariants as refusal
use Rattle.mm_basic.specs.BasicSight.{BasicSight, NoCell, OtherCell, NoOffer, Both, IsSeen}
use Rattle.mm_basic.specs.Below.{Snapshot, Cell, Place, Opt, Batch, normal_batch, basic_verdict, Verdict, cell_spelling, Content, Blank}
use Rattle.mm_basic.specs.Below.{Unspelled, Form, Kind, Meaning, link, digest_of, BatchAnswer, Refusal, answer_at, check_of_offer}
use Rattle.mm_basic.specs.Below.{IsOrMemory, fault_of}

-- The order in which an offer is refused.

-- the summary of an offered place; no offer to Basic has a place of Opt
abbrev pub summary_in : Place → List ℕ
summary_in (Basic summary) = summary.bytes
summary_in (Opt anchor extension) = anchor.bytes

-- the verdict by digests on an offer
abbrev pub verdict_of : Cell → Snapshot → Batch → Verdict
verdict_of cell offered b =
    basic_verdict cell.summary.bytes (summary_in offered.content.place) (normal_batch b)

-- What a call answers, and what it writes.

-- the summary after the batch
abbrev pub linked_summary : Content → Batch → List ℕ
linked_summary offered b = link (summary_in offered.place) (normal_batch b)

abbrev pub answer_of : Meaning → List ℕ → Content → Batch → Bool → BatchAnswer
answer_of meaning key offered b again =
    answer_at meaning key offered (Basic (digest_of (linked_summary offered b))) b again

-- the cell once the batch is committed
abbrev pub committed_cell : Cell → Content → Batch → List ℕ
committed_cell cell offered b =
    cell_spelling (record cell { summary = digest_of (linked_summary offered b) })

-- A repeat is answered, and a new batch is ready to be committed.
abbrev pub finding_from : Result Bool Refusal → List ℕ → (Bool → BatchAnswer)
    → Result (OpFinding BatchAnswer) Refusal
finding_from (Err why) next answer = Err why
finding_from (Ok true) next answer = Ok (Repeat (answer true))
finding_from (Ok false) next answer =
    Ok (Change (record { change = Writing next; answer = answer false }))

-- what a call finds, in the order of the refusals; but for want of memory
abbrev pub finding_in : Meaning → BasicSight → Batch → Result (OpFinding BatchAnswer) Refusal
finding_in meaning (NoCell Blank) b = Err refusal.Blank
finding_in meaning (NoCell Unspelled) b = Err refusal.Cell
finding_in meaning OtherCell b = Err refusal.Cell
finding_in meaning (NoOffer Form) b = Err refusal.Form
finding_in meaning (NoOffer Kind) b = Err refusal.Kind
finding_in meaning (Both cell offered) b =
    finding_from (check_of_offer meaning cell.key offered b (verdict_of cell offered b))
    (committed_cell cell offered.content b) (answer_of meaning cell.key offered.content b)

-- What is found in the bytes of a cell.

-- What is found in these bytes of a cell, and in the offered ones.
pub record FindsIn (meaning : Meaning) (bytes offer : List ℕ) (b : Batch)
    (found : Result (OpFinding BatchAnswer) Refusal) : Type 0 where
  pub seen : BasicSight
  pub is_seen : IsSeen meaning.id bytes offer seen
  pub found_is : IsOrMemory (finding_in meaning seen b) found

-- What the machine is told of a call of Basic: it reads the cell alone, and writes it once.

-- All is seen at the cell. A refusal hands no device's fault on.
abbrev pub SeesAtCell : Meaning → List ℕ → Batch → List ℕ → Result (Sight BatchAnswer) Refusal
    → Type 0
SeesAtCell meaning offer b bytes (Ok (sight.Found found)) = FindsIn meaning bytes offer b (Ok found)
SeesAtCell meaning offer b bytes (Ok (sight.Cell cell)) = ⊥
SeesAtCell meaning offer b bytes (Err why) =
    FindsIn meaning bytes offer b (Err why) × (fault_of why ≡ None)

-- The register isn't wanted: a cell with which it would be is none of Basic.
abbrev pub basic_operation : Meaning → List ℕ → Batch → OpMeaning BatchAnswer Refusal
basic_operation meaning offer b = record {
  sees = SeesAtCell meaning offer b;
  finds = λ cell register found. found ≡ Err refusal.Cell;
  position = λ answer. answer.position;
}

-- no own extension is to come
abbrev pub ExtendsNothing : OpStage BatchAnswer → Type 0
ExtendsNothing (Changing ready) = is_extension_left ready.change ≡ false
ExtendsNothing _ = Unit {0}
