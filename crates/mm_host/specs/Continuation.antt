-- What a session comes to by lists alone, in either variant: its replies are those of one run of
-- the module, and the slots that it leaves fit the history that the platform stands for. With it:
-- whose fault it is that a session ends; when the lines of an input are to blame for a session's
-- end; how often a session is to write the cell.
use Rattle.std.specs.List.{AllByRecursion}
use Rattle.std.specs.Prelude.{◌≡◌, ◌≢◌, ◌+◌, ◌-◌, ◌≤◌, ℕ, List, [], ◌∷◌, ◌++◌, Option, None, Some, Result, Ok, Err, false, true, nat_eq}
use Rattle.std.specs.Prelude.{◌⊎◌, Bool, is_some, length}
use Rattle.std.proofs.Common.{inl, inr}
use Rattle.mm_base.specs.declared.replay_fault.ReplayFault.TheVariants as replay
use Rattle.mm_model.specs.declared.refusal.Refusal.TheVariants.{Full}
use Rattle.mm_model.specs.declared.refusal.Refusal.TheVariants as refusal
use Rattle.mm_play.specs.PlaysInput as plays
use Rattle.mm_host.specs.Below.{last_position, WriteFault, Variant, Standing, Batch, One, Meaning, History, requests_of, total_of, Instance}
use Rattle.mm_host.specs.Below.{Spoiled, LostLife, life_of, StandsFor, Answer, IsWithin, IsBatchStep, Reply, Told, StoreStanding}
use Rattle.mm_host.specs.Below.{PendingRecord, Slots, slot_front, FitsHistory, IsRefusedAs, RequestMayBeCommitted, IsWaiting, HostFault}
use Rattle.mm_host.specs.Below.{HostStanding, Store, Refused, Resumed, Answered, IsFrontOf, Refusal, told_line, fault_of, lines_of, tail_of}
use Rattle.mm_host.specs.Below.{longest_request, IsUnrefused, CellIsWrittenFor, new_requests_by, new_requests_at}
use Rattle.mm_host.specs.declared.fault.SessionFault.{SessionFault}
use Rattle.mm_host.specs.declared.fault.SessionFault.TheVariants.{Host, Lines}
use Rattle.mm_host.specs.Sessions.{ServedCall, SessionGoesAfterResume, BytesBeginWith, refusal_text, told_cause, most_lines}
use Rattle.mm_host.specs.Sessions.{SessionStanding, IsSession}

-- the position of what waits, and 0 where nothing does
abbrev pub waiting_position : Option PendingRecord → ℕ
waiting_position None = 0
waiting_position (Some p) = p.position

-- What waits says no later position than this. A write of a record that failed may leave any bytes:
-- this asks that they aren't by chance a record of a later position.
pub record IsNotBeyond (slots : Slots) (position : ℕ) : Type 0 where
  pub waiting : Option PendingRecord
  pub is_waiting : IsWaiting (slot_front slots 2) (slot_front slots 3) waiting
  pub most : waiting_position waiting ≤ position

-- the reply that an answer is
abbrev pub answer_reply : Answer → Reply
answer_reply answer = Told answer.again (answer.position - 1) (answer.output ∷ [])

-- Requests are asked one after another, and these answers are the replies of one run of the module,
-- from some requests to others.
abbrev pub CallsRunOver : Meaning → List (List ℕ) → List ServedCall → List (List ℕ) → Type 0
CallsRunOver meaning requests [] after = after ≡ requests
CallsRunOver meaning requests (c ∷ calls) after =
    (between : List (List ℕ)) × IsBatchStep meaning requests (One c.line) (answer_reply c.answer)
    between × CallsRunOver meaning between calls after

-- what waited, with its answer
abbrev pub first_served_call : Option PendingRecord → Resumed → List ServedCall
first_served_call (Some p) (Answered answer) = record { line = p.request; answer = answer } ∷ []
first_served_call _ _ = []

module _ {variant : Variant} {meaning : Meaning} {begun : Result Resumed HostFault}
    {middle new : HostStanding} {left : Option (List ℕ)} {taken sent : List ℕ}
    {result : Result Unit SessionFault} (waiting : Option PendingRecord) where
  -- the requests that a session told, each with its answer
  abbrev pub served_calls_in : SessionGoesAfterResume variant meaning begun middle new left taken
      sent result → List ServedCall
  served_calls_in (inl stops) = []
  served_calls_in (inr goes) = first_served_call waiting goes.first ++ goes.lines.calls

  -- the request in hand where a session stopped: what waited, or the line after those that were
  -- told
  abbrev pub IsInHand : SessionGoesAfterResume variant meaning begun middle new left taken sent
      result → List ℕ → Type 0
  IsInHand (inl stops) request = (p : PendingRecord) × (waiting ≡ Some p) × (p.request ≡ request)
  IsInHand (inr goes) request = (held : List ℕ) × BytesBeginWith goes.lines.more request held

-- what a session wrote behind the replies that it told
abbrev pub last_bytes_in : {variant : Variant} {meaning : Meaning}
    {begun : Result Resumed HostFault} {middle new : HostStanding} {left : Option (List ℕ)}
    {taken sent : List ℕ} {result : Result Unit SessionFault}
    → SessionGoesAfterResume variant meaning begun middle new left taken sent result → List ℕ
last_bytes_in {sent = sent} (inl stops) = sent
last_bytes_in (inr goes) = goes.lines.last

-- A front of a line is out: of that of the reply to the request in hand, which is a step on these
-- requests; or of that of a refusal, which leaves them.
abbrev pub IsToldInPart : Meaning → (List ℕ → Type 0) → List ℕ → List (List ℕ) → List (List ℕ)
    → Type 0
IsToldInPart meaning hand bytes requests after =
    ((request : List ℕ) × (answer : Answer) × hand request
    × IsBatchStep meaning requests (One request) (answer_reply answer) after
    × IsFrontOf bytes (told_line answer.again answer.position answer.output))
    ⊎ ((after ≡ requests) × (why : Refusal) × IsFrontOf bytes (refusal_text (told_cause why)))

-- A request may be committed and not told where memory, the store, a device or the output failed.
abbrev pub RequestMayBeUntold : {T : Type 0} → Result T SessionFault → Type 0
RequestMayBeUntold (Ok it) = ⊥
RequestMayBeUntold {T} (Err (Host fault)) = RequestMayBeCommitted {T = T} (Err fault)
RequestMayBeUntold (Err (Lines fault)) = fault ≡ WriteFault

-- Each of these is new, at the next position, behind so many.
abbrev pub AreNewFrom : ℕ → List ServedCall → Type 0
AreNewFrom total [] = Unit {0}
AreNewFrom total (c ∷ calls) =
    (c.answer.again ≡ false) × (c.answer.position ≡ total + 1) × AreNewFrom (total + 1) calls

-- Behind so many requests: what waited is told first, at its position, and again exactly where it
-- was committed before; each line behind it is new.
abbrev pub AreToldOnce : ℕ → Option PendingRecord → List ServedCall → Type 0
AreToldOnce total None told = AreNewFrom total told
AreToldOnce total (Some p) [] = Unit {0}
AreToldOnce total (Some p) (c ∷ calls) =
    (c.line ≡ p.request) × (c.answer.position ≡ p.position)
    × (c.answer.again ≡ nat_eq p.position total) × AreNewFrom p.position calls

-- A refusal is a device's fault; or it is Full, and every position is used up; or in Opt it tells
-- how the history has ended.
abbrev pub RefusesAs : {T : Type 0} → Result T SessionFault → Variant → History → Type 0
RefusesAs (Err (Host (Refused Full))) variant after = total_of after.batches ≡ last_position
RefusesAs (Err (Host (Refused why))) variant after = IsRefusedAs why (life_of variant after)
RefusesAs _ variant after = Unit {0}

-- one request more than those told is committed, the one in hand
pub record HasUntoldRequest (hand : List ℕ → Type 0) (result : Result Unit SessionFault)
    (requests after : List (List ℕ)) : Type 0 where
  pub request : List ℕ
  pub in_hand : hand request
  pub untold : RequestMayBeUntold result
  pub grown : after ≡ requests ++ request ∷ []

module _ (all others : List (List ℕ)) (asked : List Batch) (i : Instance) (y : History) where
  -- From a history: what was told is one run of the module behind the history's requests. The
  -- platform stands for a history of that run's requests, or of those and the one in hand. Where
  -- the output failed, what is out behind the replies told is true too, as far as it goes. The
  -- history isn't spoiled where no value of others counts, nor lost where it wasn't before.
  pub record RunsTo (standing : Standing) (told : List ServedCall) (hand : List ℕ → Type 0)
      (last : List ℕ) (result : Result Unit SessionFault) : Type 0 where
    pub after : History
    pub stands : StandsFor i standing after
    pub within : IsWithin all others asked i after
    pub requests : List (List ℕ)
    pub run : CallsRunOver i.meaning (requests_of y.batches) told requests
    pub committed : (requests_of after.batches ≡ requests)
        ⊎ HasUntoldRequest hand result requests (requests_of after.batches)
    pub in_part : result ≡ Err (Lines WriteFault) →
        IsToldInPart i.meaning hand last requests (requests_of after.batches)
    pub unspoiled : others ≡ [] → life_of i.variant after ≢ Spoiled
    pub powered : life_of i.variant y ≢ LostLife → life_of i.variant after ≢ LostLife

  -- What waited is told first, and each line once; no request is behind the last position. The
  -- slots fit that history too, so that the session may be gone on with. A refusal is a device's
  -- fault, or Full where every position is used up, or tells how that history has ended.
  pub record ContinuesTo (waiting : Option PendingRecord) (standing : Standing)
      (kept : StoreStanding)
      (told : List ServedCall) (hand : List ℕ → Type 0) (last : List ℕ)
      (result : Result Unit SessionFault) : Type 0
    where
      pub runs : RunsTo standing told hand last result
      pub open runs use *
      pub once : AreToldOnce (total_of y.batches) waiting told
      pub room : total_of runs.after.batches ≤ last_position
      pub slots_after : Slots
      pub honest : kept.is_honest ≡ true
      pub slots_told : kept.slots ≡ Some slots_after
      pub fits : IsNotBeyond slots_after (total_of runs.after.batches + 1) →
          FitsHistory i slots_after runs.after
      pub whole : result ≢ Err (Host Store) → FitsHistory i slots_after runs.after
      pub refuses : RefusesAs result i.variant runs.after

-- Whose fault it is that a session ends: the count of each device that was handed in rose exactly
-- where it is told.

abbrev pub is_platform_fault : {T : Type 0} → Result T SessionFault → Bool
is_platform_fault (Err (Host (Refused why))) = is_some (fault_of why)
is_platform_fault _ = false

abbrev pub is_store_fault : {T : Type 0} → Result T SessionFault → Bool
is_store_fault (Err (Host Store)) = true
is_store_fault _ = false

-- of the input and of the output as a run over lines tells it
abbrev pub is_read_fault : {T : Type 0} → Result T SessionFault → Bool
is_read_fault {T} (Err (Lines fault)) = plays.is_read_fault {T = T} (Err fault)
is_read_fault _ = false

abbrev pub is_write_fault : {T : Type 0} → Result T SessionFault → Bool
is_write_fault {T} (Err (Lines fault)) = plays.is_write_fault {T = T} (Err fault)
is_write_fault _ = false

-- A refusal is never want of memory, and never a request that is too long; and want of memory is
-- told as the host's.
pub record IsRefusalNamed {T : Type 0} (result : Result T SessionFault) : Type 0 where
  pub remembered : result ≢ Err (Host (Refused refusal.Memory))
  pub short : result ≢ Err (Host (Refused refusal.Long))
  pub hosts : result ≢ Err (Lines replay.Memory)

-- When the lines of an input are to blame for a session's end.

-- Each line has its LF and no more bytes than a line may have, and there are no more lines than
-- there may be.
pub record AreWithin (input : List ℕ) : Type 0 where
  pub whole : tail_of input ≡ []
  pub short : AllByRecursion (λ line. length line ≤ longest_request) (lines_of input)
  pub few : length (lines_of input) ≤ most_lines

-- no line is to blame
abbrev pub IsNoLines : {T : Type 0} → Result T SessionFault → Type 0
IsNoLines {T} (Err (Lines fault)) = IsUnrefused {T = T} (Err fault)
IsNoLines _ = Unit {0}

-- An input that tells its bytes, whose lines are within the limits, isn't blamed for them.
abbrev pub SparesLines : Option (List ℕ) → Result Unit SessionFault → Type 0
SparesLines left result = (input : List ℕ) → left ≡ Some input → AreWithin input → IsNoLines result

-- How often a session is to write the cell.

-- the new requests among the lines that were answered
abbrev pub new_lines : List ServedCall → ℕ
new_lines [] = 0
new_lines (c ∷ calls) = new_requests_by c.answer.again + new_lines calls

abbrev pub new_told_requests : {variant : Variant} {meaning : Meaning}
    {begun : Result Resumed HostFault} {middle new : HostStanding} {left : Option (List ℕ)}
    {taken sent : List ℕ} {result : Result Unit SessionFault}
    → SessionGoesAfterResume variant meaning begun middle new left taken sent result → ℕ
new_told_requests (inl stops) = 0
new_told_requests (inr goes) = new_requests_at goes.first + new_lines goes.lines.calls

-- The cell was to be written for the new requests that were told, and for the one in hand, where
-- that was new and came to its writing step, and the session stopped at a fault before it was told.
-- So in Basic that is once for each of them; in Opt, over a platform that tells its cell, once in
-- all, for the one that opened a segment. No line makes more than one.
pub record SessionWrites (variant : Variant) (meaning : Meaning) (old new : SessionStanding)
    (result : Result Unit SessionFault) : Type 0 where
  pub ran : IsSession variant meaning old new result
  pub in_hand : ℕ
  pub one : in_hand ≤ 1
  pub untold : in_hand ≢ 0 → RequestMayBeUntold result
  pub writes : CellIsWrittenFor variant (new_told_requests ran.goes + in_hand) old.standing
      new.standing
  pub by_lines : new.standing.writes
      ≤ old.standing.writes + (1 + length (lines_of ran.taken))
