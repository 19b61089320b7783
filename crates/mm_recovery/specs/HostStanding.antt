-- What the devices of a host tell. With it: what is done over a platform on which a module doesn't
-- live; whose fault it is that a host program can't go on; where the host program stands; the
-- request that waits in a store; which slots fit a history; one call of either variant; the steps
-- by which a host program goes on after a stop; one more request is asked.
use Rattle.std.specs.Prelude.{◌≡◌, ℕ, List, Some, Result, IsErr, ◌≢◌, Err, ◌≤◌, [], length, Option, None, Ok, ◌⊎◌, nat_le, if◌then◌else◌}
use Rattle.std.specs.Prelude.{◌+◌, ◌-◌, ◌%◌, false, IfOk}
use Rattle.mm_model.specs.declared.refusal.Refusal.TheVariants as refusal
use Rattle.mm_recovery.specs.Below.{Standing, StoreStanding, Variant, Opt, SpellsCell, Cell, Batch, Meaning, BatchAnswer, Refusal}
use Rattle.mm_recovery.specs.Below.{AskPromise, ask_call, Checkpointed, CheckpointRefusal, CheckpointPromise, IsCheckpointOnCourse}
use Rattle.mm_recovery.specs.Below.{CountRose, CountsHandedFault, fault_of, last_position, longest_request, IsLineFront, PendingRecord}
use Rattle.mm_recovery.specs.Below.{ReadsPendingRecord, StoreFault, Memory, Content, One, History, total_of, Instance, NamesPosition}
use Rattle.mm_recovery.specs.Below.{IsRight, EndsWith, Slots, slot_front, IsFit, Answer, Long, is_long, IsAskedCall, IsCallOnCourse}
use Rattle.mm_recovery.specs.Below.{CallLeavesUntouched, batch_answer_of, batch_result_of, fault_in, ReadsSlot, WritesSlot}
use Rattle.mm_recovery.specs.Below.{pending_spelling}
use Rattle.mm_recovery.specs.CellWrites.{CallWrites, store_fault_as, refusal_fault}
use Rattle.mm_recovery.specs.declared.fault.HostFault.{HostFault}
use Rattle.mm_recovery.specs.declared.fault.HostFault.TheVariants.{Store, Refused}
use Rattle.mm_recovery.specs.declared.resuming.Resumed.{Resumed}
use Rattle.mm_recovery.specs.declared.resuming.Resumed.TheVariants.{Start, Answered}

-- what stands on the platform, and what the store keeps
pub record HostStanding : Type 0 where
  pub standing : Standing
  pub kept : StoreStanding

abbrev pub host_standing : Standing → StoreStanding → HostStanding
host_standing standing kept = record { standing = standing; kept = kept }

-- What is done over a platform on which a module doesn't live: nothing, and it is refused.

-- these bytes spell no cell of this variant, for a module with this id, under any key
abbrev pub SpellsNoneOf : Variant → ℕ → List ℕ → Type 0
SpellsNoneOf variant id bytes =
    (cell : Cell) → SpellsCell bytes cell → cell.variant ≡ variant → cell.module ≡ id → ⊥

-- the platform tells a cell, and the module doesn't live there
pub record LivesElsewhere (variant : Variant) (id : ℕ) (at : Standing) : Type 0 where
  pub bytes : List ℕ
  pub told : at.cell ≡ Some bytes
  pub none : SpellsNoneOf variant id bytes

-- it was refused, and the cell is as before
pub record LeavesCell {A E : Type 0} (old new : Standing) (result : Result A E) : Type 0 where
  pub cell : new.cell ≡ old.cell
  pub refused : IsErr result

-- A checkpoint: it goes as one does, from any history of any module; and where no module lives in
-- Opt, it is refused.
pub record IsCheckpoint (old new : Standing)
    (result : Result Checkpointed CheckpointRefusal) : Type 0 where
  pub goes : IsCheckpointOnCourse old new result
  pub elsewhere : ((id : ℕ) → LivesElsewhere Opt id old) → LeavesCell old new result

-- So it is of each call for a batch, and of each checkpoint, by what they promise.
abbrev pub CallsAreRefusedElsewhere : Type 0
CallsAreRefusedElsewhere =
    (variant : Variant) (meaning : Meaning) (old new : Standing) (offer : List ℕ) (b : Batch)
    (result : Result BatchAnswer Refusal) →
    AskPromise (ask_call variant) meaning old new offer b result →
    LivesElsewhere variant meaning.id old → LeavesCell old new result

abbrev pub CheckpointsAreRefusedElsewhere : Type 0
CheckpointsAreRefusedElsewhere =
    (old new : Standing) (result : Result Checkpointed CheckpointRefusal) →
    CheckpointPromise old new result → IsCheckpoint old new result

-- Whose fault it is that a host program can't go on.

-- The store's count of faults rose exactly where Store is told, and the platform's exactly where a
-- device's fault is.
abbrev pub BlamesHostFault : {T : Type 0} → Result T HostFault → HostStanding → HostStanding
    → Type 0
BlamesHostFault (Err Store) old new =
    (new.standing.faults ≡ old.standing.faults) × CountRose old.kept.faults new.kept.faults
BlamesHostFault (Err (Refused why)) old new =
    CountsHandedFault (fault_of why) old.standing.faults new.standing.faults
    × (new.kept.faults ≡ old.kept.faults)
BlamesHostFault result old new =
    (new.standing.faults ≡ old.standing.faults) × (new.kept.faults ≡ old.kept.faults)

-- A refusal is never want of memory, and never a request that is too long.
pub record IsNamed {T : Type 0} (result : Result T HostFault) : Type 0 where
  pub remembered : result ≢ Err (Refused refusal.Memory)
  pub short : result ≢ Err (Refused refusal.Long)

-- Where the host program stands: at its last answer, or at the start.

-- its position, its snapshot, and its output
abbrev pub position_at : Resumed → ℕ
position_at (Start first) = 0
position_at (Answered answer) = answer.position

abbrev pub snapshot_at : Resumed → List ℕ
snapshot_at (Start first) = first
snapshot_at (Answered answer) = answer.snapshot

abbrev pub output_at : Resumed → List ℕ
output_at (Start first) = []
output_at (Answered answer) = answer.output

-- its sizes
pub record IsSized (last : Resumed) : Type 0 where
  pub most : position_at last ≤ last_position
  pub output : length (output_at last) ≤ longest_request

-- The request that waits in a store.

-- the later of two records
abbrev pub later_record : Option PendingRecord → Option PendingRecord → Option PendingRecord
later_record None three = three
later_record (Some two) None = Some two
later_record (Some two) (Some three) = if nat_le three.position two.position then Some
    two else Some three

-- In these bytes of slots 2 and 3 the later valid record waits, where there is one.
pub record IsWaiting (two three : List ℕ) (waiting : Option PendingRecord) : Type 0 where
  pub in_two : Option PendingRecord
  pub in_three : Option PendingRecord
  pub reads_two : ReadsPendingRecord 2 two in_two
  pub reads_three : ReadsPendingRecord 3 three in_three
  pub is : waiting ≡ later_record in_two in_three

-- what waits is taken, or memory is wanting
pub record TakesWaitingRequest (two three : List ℕ)
    (result : Result (Option PendingRecord) StoreFault) : Type 0
  where
    pub waiting : Option PendingRecord
    pub is_waiting : IsWaiting two three waiting
    pub gives : (result ≡ Ok waiting) ⊎ (result ≡ Err Memory)

-- a request that may be asked, and has a position before it
pub record IsAskable (p : PendingRecord) : Type 0 where
  pub least : 1 ≤ p.position
  pub line : IsLineFront longest_request p.request

-- Which slots fit a history: from them the host goes on.

-- the slot of the snapshot before the position of a request that waits
abbrev pub offer_slot : PendingRecord → ℕ
offer_slot p = (p.position - 1) % 2

-- the bytes that are offered first: for what waits those before its position; else the first slot
abbrev pub first_offer : Slots → Option PendingRecord → List ℕ
first_offer slots None = slot_front slots 0
first_offer slots (Some p) = slot_front slots (offer_slot p)

-- These bytes are a right snapshot, and name this position of the history.
pub record IsSnapshotAt (i : Instance) (y : History) (bytes : List ℕ) (position : ℕ) : Type 0 where
  pub content : Content
  pub right : IsRight i bytes content
  pub names : NamesPosition i y content
  pub at : content.position ≡ position

-- The request is to be committed next, at its position; or it was committed last, alone.
abbrev pub IsAwaited : History → PendingRecord → Type 0
IsAwaited y p =
    (p.position ≡ total_of y.batches + 1)
    ⊎ ((p.position ≡ total_of y.batches) × EndsWith y.batches (One p.request))

-- Where nothing waits, nothing is committed, and slot 0 holds the first snapshot. Otherwise the
-- request that waits is awaited, and the snapshot before its position is in its slot.
abbrev pub FitsBy : Instance → Slots → History → Option PendingRecord → Type 0
FitsBy i slots y None = (total_of y.batches ≡ 0) × IsSnapshotAt i y (slot_front slots 0) 0
FitsBy i slots y (Some p) =
    IsAwaited y p × IsSnapshotAt i y (slot_front slots (offer_slot p)) (p.position - 1)

pub record FitsHistory (i : Instance) (slots : Slots) (y : History) : Type 0 where
  pub waiting : Option PendingRecord
  pub is_waiting : IsWaiting (slot_front slots 2) (slot_front slots 3) waiting
  pub fits : FitsBy i slots y waiting

-- One call of either variant.

-- One call, for a request that isn't too long: it goes as a call of the variant does, from any
-- history; its count of faults rose exactly where it tells of a device; its answer has its sizes;
-- and it is to write the cell for a new request in Basic, in Opt for one that opens a segment. Its
-- steps are those of the variant, one after another, of which the last one may have failed. Where
-- the platform tells a cell in which the module doesn't live, it is refused, and the cell is as
-- before.
pub record IsCall (variant : Variant) (meaning : Meaning) (old new : Standing)
    (offer request : List ℕ)
    (result : Result Answer Refusal) : Type 0 where
  pub goes : IsCallOnCourse variant meaning old new offer (One request) (batch_result_of result)
  pub untouched : CallLeavesUntouched (batch_result_of result) old new
  pub faults : CountsHandedFault (fault_in result) old.faults new.faults
  pub short : result ≢ Err Long
  pub fits : IfOk result (λ answer. IsFit (One request) (batch_answer_of answer))
  pub counts : CallWrites variant result old new
  pub limited : is_long (One request) ≡ false
  pub steps : IsAskedCall (ask_call variant) meaning old new offer (One request)
      (batch_result_of result)
  pub elsewhere : LivesElsewhere variant meaning.id old → LeavesCell old new result

-- The steps by which a host program goes on after a stop. Nothing is asked for them.

-- Slots 2 and 3 are read, and the later record's request is taken.
abbrev pub HostGoesAfterThree : List ℕ → Result (List ℕ) StoreFault
    → Result (Option PendingRecord) StoreFault
    → Type 0
HostGoesAfterThree two (Err why) result = result ≡ Err why
HostGoesAfterThree two (Ok three) result = TakesWaitingRequest two three result

pub record ReadsSlotThree (two : List ℕ) (old new : StoreStanding)
    (result : Result (Option PendingRecord) StoreFault) : Type 0 where
  pub three : Result (List ℕ) StoreFault
  pub reads : ReadsSlot 3 old new three
  pub goes : HostGoesAfterThree two three result

abbrev pub HostGoesAfterTwo : Result (List ℕ) StoreFault → StoreStanding → StoreStanding
    → Result (Option PendingRecord) StoreFault → Type 0
HostGoesAfterTwo (Err why) old new result = (new ≡ old) × (result ≡ Err why)
HostGoesAfterTwo (Ok two) old new result = ReadsSlotThree two old new result

pub record FindsWaitingRequest (old new : StoreStanding)
    (result : Result (Option PendingRecord) StoreFault) : Type 0 where
  pub middle : StoreStanding
  pub two : Result (List ℕ) StoreFault
  pub reads : ReadsSlot 2 old middle two
  pub goes : HostGoesAfterTwo two middle new result

-- Where nothing waits, slot 0 is read.
abbrev pub result_of_start : Result (List ℕ) StoreFault → Result Resumed HostFault
result_of_start (Ok snapshot) = Ok (Start snapshot)
result_of_start (Err why) = Err (store_fault_as why)

pub record StartsFromSlot (old new : StoreStanding)
    (result : Result Resumed HostFault) : Type 0 where
  pub zero : Result (List ℕ) StoreFault
  pub reads : ReadsSlot 0 old new zero
  pub gives : result ≡ result_of_start zero

-- The answer's snapshot is written to the slot of its position's parity.
abbrev pub result_of_keep : Answer → Result Unit StoreFault → Result Resumed HostFault
result_of_keep answer (Ok _) = Ok (Answered answer)
result_of_keep answer (Err why) = Err (store_fault_as why)

pub record KeepsAnswer (answer : Answer) (old new : StoreStanding)
    (result : Result Resumed HostFault) : Type 0 where
  pub written : Result Unit StoreFault
  pub writes : WritesSlot (answer.position % 2) answer.snapshot old new written
  pub gives : result ≡ result_of_keep answer written

-- A request is asked, and the answer's snapshot is kept.
abbrev pub HostGoesAfterAsk : Result Answer Refusal → StoreStanding → StoreStanding
    → Result Resumed HostFault → Type 0
HostGoesAfterAsk (Err why) old new result = (new ≡ old) × (result ≡ Err (refusal_fault why))
HostGoesAfterAsk (Ok answer) old new result = KeepsAnswer answer old new result

pub record AsksAndKeepsAnswer (variant : Variant) (meaning : Meaning) (old new : HostStanding)
    (offer request : List ℕ) (result : Result Resumed HostFault) : Type 0 where
  pub asked : Result Answer Refusal
  pub asks : IsCall variant meaning old.standing new.standing offer request asked
  pub goes : HostGoesAfterAsk asked old.kept new.kept result

-- The request that waits is asked with the snapshot before its position.
abbrev pub HostGoesAfterOffer : Variant → Meaning → Result (List ℕ) StoreFault → HostStanding
    → HostStanding → PendingRecord → Result Resumed HostFault → Type 0
HostGoesAfterOffer variant meaning (Err why) middle new p result =
    (new ≡ middle) × (result ≡ Err (store_fault_as why))
HostGoesAfterOffer variant meaning (Ok offer) middle new p result =
    AsksAndKeepsAnswer variant meaning middle new offer p.request result

pub record RepeatsPendingRecord (variant : Variant) (meaning : Meaning) (old new : HostStanding)
    (p : PendingRecord) (result : Result Resumed HostFault) : Type 0 where
  pub middle : StoreStanding
  pub offer : Result (List ℕ) StoreFault
  pub reads : ReadsSlot ((p.position - 1) % 2) old.kept middle offer
  pub goes : HostGoesAfterOffer variant meaning offer (record old { kept = middle }) new p result

-- The call: it finds what waits, and begins with the first snapshot or repeats the request.
abbrev pub HostGoesAfterFinding : Variant → Meaning → Result (Option PendingRecord) StoreFault
    → HostStanding → HostStanding → Result Resumed HostFault → Type 0
HostGoesAfterFinding variant meaning (Err why) middle new result =
    (new ≡ middle) × (result ≡ Err (store_fault_as why))
HostGoesAfterFinding variant meaning (Ok None) middle new result =
    (new.standing ≡ middle.standing) × StartsFromSlot middle.kept new.kept result
HostGoesAfterFinding variant meaning (Ok (Some p)) middle new result =
    RepeatsPendingRecord variant meaning middle new p result

pub record HostResumes (variant : Variant) (meaning : Meaning) (old new : HostStanding)
    (result : Result Resumed HostFault) : Type 0 where
  pub middle : StoreStanding
  pub waiting : Result (Option PendingRecord) StoreFault
  pub finds : FindsWaitingRequest old.kept middle waiting
  pub goes : HostGoesAfterFinding variant meaning waiting (record old { kept = middle }) new result

-- One more request is asked: its record is written before, and the answer's snapshot after. Nothing
-- is asked for these steps.

-- the record of a request, which is to take the position after the last one
abbrev pub record_for : Resumed → List ℕ → PendingRecord
record_for last request = record { position = position_at last + 1; request = request }

-- The request is asked with the last snapshot, and the answer's snapshot is kept.
abbrev pub HostGoesAfterRecord : Variant → Meaning → Result Unit StoreFault → HostStanding
    → HostStanding → Resumed → List ℕ → Result Resumed HostFault → Type 0
HostGoesAfterRecord variant meaning (Err why) middle new last request result =
    (new ≡ middle) × (result ≡ Err (store_fault_as why))
HostGoesAfterRecord variant meaning (Ok _) middle new last request result =
    AsksAndKeepsAnswer variant meaning middle new (snapshot_at last) request result

pub record AsksNextRequest (variant : Variant) (meaning : Meaning) (old new : HostStanding)
    (last : Resumed) (request : List ℕ) (result : Result Resumed HostFault) : Type 0 where
  pub middle : StoreStanding
  pub recorded : Result Unit StoreFault
  pub records : WritesSlot (2 + (position_at last + 1) % 2)
      (pending_spelling (record_for last request)) old.kept middle recorded
  pub goes : HostGoesAfterRecord variant meaning recorded (record old { kept = middle }) new
      last request result
