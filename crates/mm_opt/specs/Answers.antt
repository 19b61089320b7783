-- What a call answers, and what it writes. With it: what a call finds, and where it stands; what an
-- offered place is compared with, and the verdict by digests on it.
use Rattle.std.specs.Prelude.{ℕ, Bool, ◌&&◌, List, true, false, Result, Ok, Err}
use Rattle.std.specs.Str.{bytes_eq}
use Rattle.mm_digest.specs.declared.variant.Variant.TheVariants as variants
use Rattle.mm_seal.specs.declared.snapshot.Place.TheVariants.{Basic, Opt}
use Rattle.mm_machine.specs.declared.call.OpStage as call
use Rattle.mm_machine.specs.declared.change.Change.TheVariants.{Extending, Emptying}
use Rattle.mm_machine.specs.declared.operation.OpFinding as found
use Rattle.mm_machine.specs.declared.operation.OpFinding.TheVariants.{Repeat, Change}
use Rattle.mm_machine.specs.declared.operation.ReadyChange as ready
use Rattle.mm_model.specs.declared.refusal.Refusal.TheVariants as refusal
use Rattle.mm_opt.specs.Below.{BatchAnswer, zero_bytes, Snapshot, Cell, Place, Batch, normal_batch, guard, Point, forms_of, opt_verdict}
use Rattle.mm_opt.specs.Below.{Verdict, extended_digest_of, cell_spelling, Content, PartsFault, Form, Kind, Meaning, digest_of, Refusal}
use Rattle.mm_opt.specs.Below.{answer_at, check_of_offer}

-- What a call finds, and where it stands: the machine's words, with the answer to a batch.

abbrev pub BatchFinding : Type 0
BatchFinding = found.OpFinding BatchAnswer

abbrev pub BatchStage : Type 0
BatchStage = call.OpStage BatchAnswer

-- What an offered place is compared with, and the verdict by digests on it.

-- the anchor and the extension of an offered place; no offer to Opt has a place of Basic
abbrev pub anchor_in : Place → List ℕ
anchor_in (Opt anchor extension) = anchor.bytes
anchor_in (Basic summary) = summary.bytes

abbrev pub extension_in : Place → List ℕ
extension_in (Opt anchor extension) = extension.bytes
extension_in (Basic summary) = summary.bytes

abbrev pub point : List ℕ → List ℕ → Point
point anchor extension = record { anchor = anchor; extension = extension }

-- the value by which the batch extends the register
abbrev pub batch_value : Cell → Batch → List ℕ
batch_value cell b = guard cell.barrier (normal_batch b)

-- power was lost inside an open segment
abbrev pub has_lost_power : Cell → List ℕ → Bool
has_lost_power cell register = cell.flag && bytes_eq register zero_bytes

-- the verdict by digests on an offered place
abbrev pub verdict_at : Cell → List ℕ → Place → Batch → Verdict
verdict_at cell register place b =
    opt_verdict cell.flag cell.summary.bytes register
    (forms_of (anchor_in place) (extension_in place)) (batch_value cell b)

abbrev pub verdict_of : Cell → List ℕ → Snapshot → Batch → Verdict
verdict_of cell register offered b = verdict_at cell register offered.content.place b

-- What a call answers, and what it writes.

-- the extension at which the open segment stands: the register's value, or zero where none is open
abbrev pub extension_at : Bool → List ℕ → List ℕ
extension_at true register = register
extension_at false register = zero_bytes

-- the extension once the batch with this value is committed, by whether it had been before
abbrev pub extension_after : Bool → List ℕ → List ℕ → List ℕ
extension_after true extension value = extension
extension_after false extension value = extended_digest_of extension value

-- the place of an answer: where the platform stands once the batch is committed, if nobody else
-- extends the register
abbrev pub place_after : Cell → List ℕ → List ℕ → Bool → Place
place_after cell register value again =
    Opt cell.summary (digest_of (extension_after again (extension_at cell.flag register) value))

abbrev pub answer_of : Meaning → Cell → List ℕ → Content → Batch → Bool → BatchAnswer
answer_of meaning cell register offered b again =
    answer_at meaning cell.key offered (place_after cell register (batch_value cell b) again) b
    again

-- the cell once a segment is open
abbrev pub opened_cell : Cell → List ℕ
opened_cell cell = cell_spelling (record cell { variant = variants.Opt; flag = true })

-- a new batch is to be committed in the open segment, or to open one
abbrev pub change_by : Bool → List ℕ → List ℕ → BatchAnswer → BatchFinding
change_by true value next answer =
    Change (record { change = Extending (digest_of value); answer = answer })
change_by false value next answer =
    Change (record {
      change = Emptying (record { value = digest_of value; next = next });
      answer = answer;
    })

abbrev pub change_of : Cell → List ℕ → BatchAnswer → BatchFinding
change_of cell value answer = change_by cell.flag value (opened_cell cell) answer

-- A repeat is answered, and a new batch is ready to be committed.
abbrev pub finding_from : Result Bool Refusal → Cell → List ℕ → (Bool → BatchAnswer)
    → Result BatchFinding Refusal
finding_from (Err why) cell value answer = Err why
finding_from (Ok true) cell value answer = Ok (Repeat (answer true))
finding_from (Ok false) cell value answer = Ok (change_of cell value (answer false))

-- what a call finds in an offer, where power wasn't lost
abbrev pub finding_in_offer : Meaning → Cell → List ℕ → Result Snapshot PartsFault → Batch
    → Result BatchFinding Refusal
finding_in_offer meaning cell register (Err Form) b = Err refusal.Form
finding_in_offer meaning cell register (Err Kind) b = Err refusal.Kind
finding_in_offer meaning cell register (Ok offered) b =
    finding_from (check_of_offer meaning cell.key offered b (verdict_of cell register offered b))
    cell
    (batch_value cell b)
    (answer_of meaning cell register offered.content b)

abbrev pub finding_unless : Bool → Result BatchFinding Refusal → Result BatchFinding Refusal
finding_unless true found = Err refusal.Lost
finding_unless false found = found

-- what a call finds, in the order of the refusals; but for want of memory: from the cell and the
-- register's value, as they were read, and the offer as it is taken apart
abbrev pub finding_in : Meaning → Cell → List ℕ → Result Snapshot PartsFault → Batch
    → Result BatchFinding Refusal
finding_in meaning cell register taken b =
    finding_unless (has_lost_power cell register) (finding_in_offer meaning cell register taken b)
