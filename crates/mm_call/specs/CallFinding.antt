-- What a call finds when it has made its reading steps. With it: the order in which an offer is
-- refused; what is settled of an offer before the verdict on it; what a refusal hands on, and what
-- may come in its place; what a whole call leaves and counts, in either core; what a call answers;
-- two ways to follow a call; what one call comes to by lists.
use Rattle.std.specs.List.{fold}
use Rattle.std.specs.Option.{option_and_then, option_map_or}
use Rattle.std.specs.Prelude.{ℕ, Bool, true, false, List, Result, Ok, Err, nat_le, if◌then◌else◌, ◌+◌, ◌≡◌, Option, None, Some, ◌⊎◌, ◌∷◌}
use Rattle.std.specs.Prelude.{◌≤◌, [], IsSome, IsOk, ◌-◌, drop, ◌&&◌, ◌++◌}
use Rattle.std.specs.Result.{result_ok, result_map_both, result_and}
use Rattle.std.specs.Str.{bytes_eq}
use Rattle.mm_model.specs.declared.refusal.Refusal.TheVariants as refusal
use Rattle.mm_call.specs.Below.{last_position, Snapshot, tag_of, Batch, size_of, Meaning, Refusal, Verdict, Fresh, Again, Lost, Stale}
use Rattle.mm_call.specs.Below.{StepFault, BatchAnswer, Memory, Device, CountRose, Standing, items_beside, Answer, Content}
use Rattle.mm_call.specs.Below.{sealed_snapshot_of, Place, members_of, outputs_from, state_from, History, requests_of, total_of, Instance}
use Rattle.mm_call.specs.Below.{content_of_issue, zero_bytes, extended_digest_of, Variant, Basic, Opt, InBasic, InOpt, link, guard, Move}
use Rattle.mm_call.specs.Below.{history_after, register_value_of, cell_digest_of, verdict_on, verdict_by_digests, life_of, is_lost, Digests}
use Rattle.mm_call.specs.Below.{digests_after, digest_of, flag_of, parts_of, PartsFault, Form, Kind, IsRight}

-- The order in which an offer is refused.

-- by the verdict, and by whether there are positions left for the batch: whether it is a repeat
abbrev pub check_of_verdict : Verdict → Bool → Result Bool Refusal
check_of_verdict Fresh true = Ok false
check_of_verdict Again true = Ok true
check_of_verdict Lost fits = Err refusal.Lost
check_of_verdict Stale fits = Err refusal.Stale
check_of_verdict _ _ = Err refusal.Full

-- an offer under the cell's key, by the verdict on it: before that, the offered state is one of the
-- module's, and the tag is right
abbrev pub check_of_offer : Meaning → List ℕ → Snapshot → Batch → Verdict → Result Bool Refusal
check_of_offer meaning key offered b verdict =
    let content = offered.content in
    let fits = nat_le (content.position + size_of b) last_position in
    if meaning.is_spelled content.state
    then (if bytes_eq offered.tag (tag_of key content) then check_of_verdict verdict fits
    else Err refusal.Tag)
    else Err refusal.State

abbrev pub check_by_tests : Bool → Bool → Verdict → Bool → Result Bool Refusal
check_by_tests is_spelled is_tagged verdict fits =
    if is_spelled
    then (if is_tagged then check_of_verdict verdict fits else Err refusal.Tag)
    else Err refusal.State

-- What is settled of an offer before the verdict on it: by this the order in which it is refused is
-- that of the verdict alone.

abbrev pub SettlesOffer : Meaning → List ℕ → Snapshot → Result Unit Refusal → Type 0
SettlesOffer meaning key offered (Err why) = (b : Batch) (verdict : Verdict)
    → check_of_offer meaning key offered b verdict ≡ Err why
SettlesOffer meaning key offered (Ok _) = (b : Batch) (verdict : Verdict)
    → check_of_offer meaning key offered b verdict
    ≡ check_of_verdict verdict (nat_le (offered.content.position + size_of b) last_position)

-- What a refusal hands on, and what may come in its place.

-- the fault of a device step that a refusal hands on
abbrev pub fault_of : Refusal → Option StepFault
fault_of (Device fault) = Some fault
fault_of _ = None

abbrev pub fault_in : {A : Type 0} → Result A Refusal → Option StepFault
fault_in (Ok answer) = None
fault_in (Err why) = fault_of why

-- a device's fault is handed on as it is
abbrev pub result_with_fault : Result BatchAnswer StepFault → Result BatchAnswer Refusal
result_with_fault (Ok answer) = Ok answer
result_with_fault (Err fault) = Err (Device fault)

-- Want of memory may come in place of what is not refused.
abbrev pub IsOrMemory : {A : Type 0} → Result A Refusal → Result A Refusal → Type 0
IsOrMemory (Err why) found = found ≡ Err why
IsOrMemory (Ok it) found = (found ≡ Ok it) ⊎ (found ≡ Err Memory)

-- What a whole call leaves and counts, in either core.

-- The platform is as before, but for the count of steps, the values of others in the register, and
-- room.
pub record IsUntouched (old new : Standing) : Type 0 where
  pub others : List (List ℕ)
  pub cell : new.cell ≡ old.cell
  pub items : new.items ≡ items_beside others old.items
  pub is_on : new.is_on ≡ old.is_on
  pub writes : new.writes ≡ old.writes
  pub room : old.spare ≤ new.spare
  pub faults : new.faults ≡ old.faults

-- The count of faults rose by exactly one where a device's fault is handed on, and is as before
-- otherwise.
abbrev pub CountsHandedFault : Option StepFault → ℕ → ℕ → Type 0
CountsHandedFault None before now = now ≡ before
CountsHandedFault (Some fault) before now = CountRose before now

-- what a refused call leaves, unless it hands on a device's fault
abbrev pub CallLeavesUntouched : Result BatchAnswer Refusal → Standing → Standing → Type 0
CallLeavesUntouched (Ok answer) old new = Unit {0}
CallLeavesUntouched (Err why) old new = fault_of why ≡ None → IsUntouched old new

-- the answer to one request, as the answer to a batch of one
abbrev pub batch_answer_of : Answer → BatchAnswer
batch_answer_of answer = record {
  again = answer.again;
  position = answer.position;
  outputs = answer.output ∷ [];
  snapshot = answer.snapshot;
}

abbrev pub batch_result_of : Result Answer Refusal → Result BatchAnswer Refusal
batch_result_of (Ok answer) = Ok (batch_answer_of answer)
batch_result_of (Err why) = Err why

-- the verdict accepts the offer
abbrev pub IsAccepted : Verdict → Type 0
IsAccepted Fresh = Unit {0}
IsAccepted Again = Unit {0}
IsAccepted _ = ⊥

-- answered, or refused for want of memory, or for a device's fault that it hands on and that was
-- counted
abbrev pub IsAnswered : Result BatchAnswer Refusal → Standing → Standing → Type 0
IsAnswered result old new =
    IsOk result ⊎ (result ≡ Err Memory)
    ⊎ (IsSome (fault_in result) × CountRose old.faults new.faults)

-- What a call answers: by what was offered, and by what stands at the end.

-- what the new snapshot says, at this place: the batch was run from the offered state
abbrev pub content_at : Meaning → Content → Place → Batch → Content
content_at meaning offered place b = record {
  id = meaning.id;
  place = place;
  position = offered.position + size_of b;
  state = state_from meaning offered.state (members_of b);
}

-- the answer, at this place, by whether it is a repeat
abbrev pub answer_at : Meaning → List ℕ → Content → Place → Batch → Bool → BatchAnswer
answer_at meaning key offered place b again = record {
  again = again;
  position = offered.position + size_of b;
  outputs = outputs_from meaning offered.state (members_of b);
  snapshot = sealed_snapshot_of key (content_at meaning offered place b);
}

-- the answer to a batch with which a history ends, by whether it is a repeat: what the module says
-- to the last requests, as many as the batch has
abbrev pub answer_on : Instance → History → Batch → Bool → BatchAnswer
answer_on i y b again = record {
  again = again;
  position = total_of y.batches;
  outputs =
      drop (total_of y.batches - size_of b)
      (outputs_from i.meaning i.meaning.first (requests_of y.batches));
  snapshot = sealed_snapshot_of i.key (content_of_issue i y);
}

-- what the module says to the last requests of a history, this many of them
abbrev pub last_outputs : Meaning → History → ℕ → List (List ℕ)
last_outputs meaning y count =
    drop (total_of y.batches - count) (outputs_from meaning meaning.first (requests_of y.batches))

-- Two ways to follow a call: by lists, which know no digest, and by digests, which know no list.

-- A way to follow a call: what a move does to a state; whether a segment is open, and whether power
-- was lost inside it; how many requests are committed; the verdict on an offer; and the answer,
-- from the state at the verdict, the state at the end of the call and the offer, by whether it is a
-- repeat.
pub record Level (S : Type 0) : Type 0 where
  pub made : S → Move → S
  pub is_open : S → Bool
  pub is_lost : S → Bool
  pub count : S → ℕ
  pub verdict : S → Content → Batch → Verdict
  pub answer : Bool → S → S → Content → Batch → BatchAnswer

-- the state after moves, one after another
abbrev pub state_after_moves : {S : Type 0} → Level S → S → List Move → S
state_after_moves level s moves = fold level.made s moves

-- By lists: the verdict looks at the offered position and the batch alone, and the batch that is
-- answered is the last of the history.
abbrev pub list_level : Instance → Level History
list_level i = record {
  made = history_after i;
  is_open = λ y. y.is_open;
  is_lost = λ y. is_lost (life_of i.variant y);
  count = λ y. total_of y.batches;
  verdict = λ y offered b. verdict_on i.variant y offered.position b;
  answer = λ again seen y offered b. answer_on i y b again;
}

-- where the platform stands once the batch is committed, or, for a repeat, where it stands
abbrev pub place_after_batch : Variant → Bool → Bool → Instance → Digests → Batch → Place
place_after_batch Basic flag again i d b =
    InBasic (digest_of (if again then d.digest else link d.digest b))
place_after_batch Opt true again i d b =
    InOpt (digest_of d.digest)
    (digest_of (if again then d.register else extended_digest_of d.register (guard i.barrier b)))
place_after_batch Opt false again i d b =
    InOpt (digest_of d.digest)
    (digest_of (if again then zero_bytes else extended_digest_of zero_bytes (guard i.barrier b)))

-- By digests: the verdict compares digests, and the batch is run from the offered state, whatever
-- was committed.
abbrev pub digest_level : Instance → Level Digests
digest_level i = record {
  made = digests_after i;
  is_open = λ d. d.flag;
  is_lost = λ d. d.flag && bytes_eq d.register zero_bytes;
  count = λ d. d.count;
  verdict = λ d offered b. verdict_by_digests i.barrier d.flag d.digest d.register offered.place b;
  answer =
      λ again seen d offered b. answer_at i.meaning i.key offered
      (place_after_batch i.variant seen.flag again i seen b) b again;
}

-- The digests are those of the history: what its cell and its register hold, and how many requests
-- it has.
pub record DigestsAgree (i : Instance) (y : History) (d : Digests) : Type 0 where
  pub digest : d.digest ≡ cell_digest_of i i.variant y
  pub flag : d.flag ≡ flag_of i.variant y
  pub register : d.register ≡ register_value_of i y
  pub count : d.count ≡ total_of y.batches

-- What a call finds when it has made its reading steps.

-- an accepted offer: what it says, and whether the batch is a repeat
pub record CallFinding : Type 0 where
  pub offered : Content
  pub again : Bool

-- the offer is read, and examined by the verdict on it
abbrev pub finding_by_verdict : {S : Type 0} → Instance → Level S → S → Batch
    → Result Snapshot PartsFault → Result CallFinding Refusal
finding_by_verdict i level seen b (Ok snapshot) =
    result_map_both (λ again. record { offered = snapshot.content; again = again }) (λ why. why)
    (check_of_offer i.meaning i.key snapshot b (level.verdict seen snapshot.content b))
finding_by_verdict i level seen b (Err Form) = Err refusal.Form
finding_by_verdict i level seen b (Err Kind) = Err refusal.Kind

-- what a call finds at this state: power was lost, or the offer is refused or accepted
abbrev pub finding_at : {S : Type 0} → Instance → Level S → S → Batch → List ℕ
    → Result CallFinding Refusal
finding_at i level seen b bytes =
    if level.is_lost seen then Err refusal.Lost else finding_by_verdict i level seen b
    (parts_of i.variant i.meaning.id bytes)

-- what a right offer says; none where the offer isn't right
abbrev pub right_content : Instance → List ℕ → Option Content
right_content i bytes =
    option_and_then (λ snapshot.
    let content = snapshot.content in
    if i.meaning.is_spelled content.state && bytes_eq snapshot.tag (tag_of i.key content)
    then Some content else None)
    (result_ok (parts_of i.variant i.meaning.id bytes))

abbrev pub finding_with : Content → Result Bool Refusal → Result CallFinding Refusal
finding_with offered examined =
    result_map_both (λ again. record { offered = offered; again = again }) (λ why. why) examined

-- the batch is a new one
abbrev pub is_fresh : Result CallFinding Refusal → Bool
is_fresh found = option_map_or (λ it. if it.again then false else true) (result_ok found) false

-- memory may be wanting when the batch is run
abbrev pub finding_unless_wanting : Result CallFinding Refusal → Bool → Result CallFinding Refusal
finding_unless_wanting found lacks = result_and found (if lacks then Err refusal.Memory else found)

-- what an offer says that is taken apart to this, where it is right
abbrev pub content_if_right : Instance → Result Snapshot PartsFault → Option Content
content_if_right i parts =
    option_and_then (λ snapshot.
    let content = snapshot.content in
    if i.meaning.is_spelled content.state && bytes_eq snapshot.tag (tag_of i.key content)
    then Some content else None)
    (result_ok parts)

-- What one call comes to by lists.

-- the batches end with this one
pub record EndsWith (batches : List Batch) (b : Batch) : Type 0 where
  pub front : List Batch
  pub is : front ++ b ∷ [] ≡ batches

-- A repeat was answered: the offer names the place before the last batch, which is the one asked.
pub record RepeatsLastBatch (i : Instance) (y : History) (offer : List ℕ) (b : Batch)
    (after : History)
    (answer : BatchAnswer) : Type 0 where
  pub content : Content
  pub right : IsRight i offer content
  pub ends : EndsWith y.batches b
  pub position : content.position ≡ total_of ends.front
  pub answer_is : answer ≡ answer_on i after b true

-- A call came to this history, and gave this: it committed nothing, and what it answers is a
-- repeat; or it committed the batch, whose offer names the end of the history, and what it answers
-- is new.
pub data HistoryGrows (i : Instance) (y : History) (offer : List ℕ) (b : Batch) (after : History)
    (gives : Result BatchAnswer Refusal) : Type 0 where
  kept : after.batches ≡ y.batches
      → ((answer : BatchAnswer) → gives ≡ Ok answer → RepeatsLastBatch i y offer b after answer)
      → HistoryGrows i y offer b after gives
  grown : (content : Content) → IsRight i offer content → content.position ≡ total_of y.batches
      → after.batches ≡ y.batches ++ b ∷ []
      → ((answer : BatchAnswer) → gives ≡ Ok answer → answer ≡ answer_on i after b false)
      → HistoryGrows i y offer b after gives
