-- What a session reads, asks and tells, line by line, and how it ends; and it doesn't blame lines
-- that are within the limits. With it: what a session asked, by its steps.
use Rattle.std.proofs.Common.{append-nil}
use Rattle.mm_model.specs.ListLaws.{each_right}
use Rattle.mm_store.specs.declared.fault.StoreFault.TheVariants as fault
use Rattle.mm_recovery.specs.declared.fault.HostFault.TheVariants as host
use Rattle.mm_host.specs.Continuation.{AreWithin, IsNoLines, SparesLines}
use Rattle.mm_host.specs.Sessions.{ServesAllLines}
use Rattle.mm_host.proofs.Below.{◌≡◌, ◌≢◌, ◌+◌, ℕ, List, [], length, Option, Result, Ok, Err, refl, subst, inl, inr, Variant, Standing}
use Rattle.mm_host.proofs.Below.{Meaning, StoreStanding, HostFault, SessionFault, Host, Lines, Memory, WriteFault, Resumed, SendsReply}
use Rattle.mm_host.proofs.Below.{session_result_of, reply_text, SessionPlace, IsAtRest, SessionStopsInLine, ◌∙◌, ap, ◌⊎◌, Answer, Refusal}
use Rattle.mm_host.proofs.Below.{StoreFault, Answered, IsCall, store_fault_as, refusal_fault, HostGoesAfterAsk, result_of_keep, snapshot_at}
use Rattle.mm_host.proofs.Below.{HostGoesAfterRecord, AsksNextRequest, ◌∷◌, ◌++◌, None, Some, sym, append_assoc, suc, Consumes, IsAtEnd}
use Rattle.mm_host.proofs.Below.{AllByRecursion, IsUnbroken, joined_lines, lines_of, lines_of-joined, lines_of-line, ServedCall}
use Rattle.mm_host.proofs.Below.{ServesCalls, served_lines, BytesBeginWith, ◌<◌, ◌≤◌, take, drop, arith, length-append, length-take}
use Rattle.mm_host.proofs.Below.{take-append-drop, tail_of, lines_with_front, tail_with_front, IsLong, IsLineFront, lines_of-append}
use Rattle.mm_host.proofs.Below.{tail_of-append, tail_of-joined, tail_of-unbroken, longest_request, LineLong, BadLine, TooMuch}
use Rattle.mm_host.proofs.Below.{SessionGoesAfterResume, IsSession, most_lines, HostStanding, SessionStanding, host_of, PendingRecord}
use Rattle.mm_host.proofs.Below.{AreAmong, first_served_call, append_cancel_left, turn_answer_of, IsMade, TurnGoes, host_standing}

-- how a session ends at rest: with its input, or by the input's device, bytes or size
abbrev pub IsByInput : Result Unit SessionFault → Type 0
IsByInput (Err (Host fault)) = ⊥
IsByInput (Err (Lines Memory)) = ⊥
IsByInput (Err (Lines WriteFault)) = ⊥
IsByInput _ = Unit {0}

-- It ends with a line in hand, or at rest.
pub by_end : {variant : Variant} {meaning : Meaning} {from : SessionPlace} {new : HostStanding} {left : Option (List ℕ)}
    {taken sent : List ℕ} (P : Result Unit SessionFault → Type 0) (result : Result Unit SessionFault)
    (l : ServesAllLines variant meaning 1 from new left taken sent result)
    → ((fault : SessionFault) → SessionStopsInLine variant meaning (length l.calls + 1) l.at new l.more l.last fault → P (Err fault))
    → (IsByInput result → IsAtRest l.at new l.last → P result) → P result
by_end P (Err (Host fault)) l line rest = line (Host fault) l.ends
by_end P (Err (Lines WriteFault)) l line rest = line (Lines WriteFault) l.ends
by_end P (Err (Lines Memory)) l line rest = absurd l.ends
by_end P _ l line rest = rest tt l.ends.0

-- The fault that is told is that which came of a recovery or a line, or the output failed.
pub by_told : (P : SessionFault → Type 0) (came : Result Resumed HostFault) (sent : List ℕ) (fault : SessionFault)
    → SendsReply came sent (Err fault) → ((why : HostFault) → came ≡ Err why → P (Host why))
    → (reply_text came ≢ [] → P (Lines WriteFault)) → P fault
by_told P (Ok it) sent fault (inl s) by out = let clash : Err fault ≡ Ok it = s.1 in absurd (cc)
by_told P (Err why) sent fault (inl s) by out =
    let told : Err fault ≡ session_result_of (Err why) = s.1 in
    let same : Host why ≡ fault = cc in
    subst P same (by why refl)
by_told P came sent fault (inr s) by out =
    let told : Err fault ≡ Err (Lines WriteFault) = s.0 in
    let same : Lines WriteFault ≡ fault = cc in
    subst P same (out s.1)

-- One request that a session asks: a call is made for it, or none is.

-- what a call comes to: its refusal; or its answer, unless that can't be kept
abbrev pub TellsCall : Result Answer Refusal → Result Resumed HostFault → Type 0
TellsCall (Err why) came = came ≡ Err (refusal_fault why)
TellsCall (Ok answer) came = (came ≡ Ok (Answered answer)) ⊎ ((why : StoreFault) × (came ≡ Err (store_fault_as why)))

-- One request: nothing was asked, as memory was wanting or the store failed; or a call was made for it.
pub data Tries (variant : Variant) (meaning : Meaning) (before after : Standing) (offer request : List ℕ) (came : Result Resumed HostFault)
    : Type 0 where
  fails : after ≡ before → (why : StoreFault) → came ≡ Err (store_fault_as why) → Tries variant meaning before after offer request came
  asks : (call : Result Answer Refusal) → IsCall variant meaning before after offer request call → TellsCall call came
      → Tries variant meaning before after offer request came

kept_tells : (answer : Answer) (written : Result Unit StoreFault) (came : Result Resumed HostFault) → came ≡ result_of_keep answer written
    → TellsCall (Ok answer) came
kept_tells answer (Ok it) came e = inl e
kept_tells answer (Err why) came e = inr (why, e)

pub tells_call : (call : Result Answer Refusal) (old new : StoreStanding) (came : Result Resumed HostFault)
    → HostGoesAfterAsk call old new came
    → TellsCall call came
tells_call (Err why) old new came g = g.1
tells_call (Ok answer) old new came g = kept_tells answer g.written came g.gives

module _ {variant : Variant} {meaning : Meaning} {old new : HostStanding} {last : Resumed} {line : List ℕ}
    {came : Result Resumed HostFault} (a : AsksNextRequest variant meaning old new last line came) where
  tries_by : (recorded : Result Unit StoreFault)
      → HostGoesAfterRecord variant meaning recorded (record old { kept = a.middle }) new last line came
      → Tries variant meaning old.standing new.standing (snapshot_at last) line came
  tries_by (Err why) g = fails (ap (λ (h : HostStanding). h.standing) g.0) why g.1
  tries_by (Ok it) g = asks g.asked g.asks (tells_call g.asked a.middle new.kept came g.goes)

  pub line_tries : Tries variant meaning old.standing new.standing (snapshot_at last) line came
  line_tries = tries_by a.recorded a.goes

-- what is told was called, and answered
module _ {variant : Variant} {meaning : Meaning} {before after : Standing} {offer request : List ℕ} where
  pub tried_answer : (resumed : Resumed) → Tries variant meaning before after offer request (Ok resumed)
      → (a : Answer) × (resumed ≡ Answered a) × IsCall variant meaning before after offer request (Ok a)
  tried_answer resumed (fails same why e) = absurd (cc)
  tried_answer resumed (asks (Err why) c e) = absurd (cc)
  tried_answer resumed (asks (Ok it) c (inl e)) = let same : resumed ≡ Answered it = cc in (it, same, c)
  tried_answer resumed (asks (Ok it) c (inr e)) = let clash : Ok resumed ≡ Err (store_fault_as e.0) = e.1 in absurd (cc)

  pub answered_call : (answer : Answer) → Tries variant meaning before after offer request (Ok (Answered answer))
      → IsCall variant meaning before after offer request (Ok answer)
  answered_call answer t =
      let r = tried_answer (Answered answer) t in
      let is : Answered answer ≡ Answered r.0 = r.1 in
      let same : r.0 ≡ answer = cc in
      rw same at r.2

-- want of memory, or a fault of the store, is told as no refusal
pub never_stored : (why : StoreFault) (refused : Refusal) → store_fault_as why ≡ host.Refused refused → ⊥
never_stored fault.Memory refused e = cc
never_stored fault.Failed refused e = cc

-- a refusal that is told came
pub told_refused : (came : Result Resumed HostFault) (sent : List ℕ) (fault : SessionFault) (why : Refusal)
    → SendsReply came sent (Err fault)
    → fault ≡ Host (host.Refused why) → came ≡ Err (host.Refused why)
told_refused came sent fault why s =
    by_told (λ (f : SessionFault). f ≡ Host (host.Refused why) → came ≡ Err (host.Refused why)) came sent fault s
    (λ (w : HostFault) (c : came ≡ Err w) (is : Host w ≡ Host (host.Refused why)).
    let same : w ≡ host.Refused why = cc in c ∙ ap (λ (f : HostFault). Err f) same) (λ n is. absurd (cc))

pub never_refused : (why : StoreFault) (came : Result Resumed HostFault) (sent : List ℕ) (fault : SessionFault) (refusal : Refusal)
    → came ≡ Err (store_fault_as why) → SendsReply came sent (Err fault) → fault ≡ Host (host.Refused refusal) → ⊥
never_refused why came sent fault refusal e s is =
    let told = told_refused came sent fault refusal s is in never_stored why refusal (cc)

-- What a session read of its input, line by line.

-- what is left of an input behind what was taken
pub record IsRead (input taken : List ℕ) (left : Option (List ℕ)) : Type 0 where
  pub rest : List ℕ
  pub is : input ≡ taken ++ rest
  pub at_end : IsAtEnd left → rest ≡ []

pub read_of : (left left' : Option (List ℕ)) (input taken : List ℕ) → left ≡ Some input → Consumes left left' taken
    → IsRead input taken left'
read_of None left' input taken e c = absurd (cc)
read_of (Some xs) None input taken e c = absurd c
read_of (Some xs) (Some ys) input taken e c =
    let same : xs ≡ input = cc in
    record { rest = ys; is = sym same ∙ c; at_end = λ h. h }

pub unbroken_served : (variant : Variant) (meaning : Meaning) (from to : SessionPlace) (calls : List ServedCall)
    → ServesCalls variant meaning from calls to
    → AllByRecursion IsUnbroken (served_lines calls)
unbroken_served variant meaning from to [] s = tt
unbroken_served variant meaning from to (c ∷ calls) s = (
  s.within.unbroken,
  unbroken_served variant meaning (record { host = s.host; last = Answered c.answer }) to calls s.rest,
)

pub length-served_lines : (calls : List ServedCall) → length (served_lines calls) ≡ length calls
length-served_lines [] = refl
length-served_lines (c ∷ calls) = ap (λ (n : ℕ). suc n) (length-served_lines calls)

-- the input behind the lines that were served
module _ {variant : Variant} {meaning : Meaning} {from : SessionPlace} {new : HostStanding} {left : Option (List ℕ)}
    {taken sent input : List ℕ} {result : Result Unit SessionFault}
    (l : ServesAllLines variant meaning 1 from new left taken sent result) (r : IsRead input taken left) where
  pub bytes_in : input ≡ joined_lines (served_lines l.calls) ++ (l.more ++ r.rest)
  bytes_in = r.is ∙ ap (λ (x : List ℕ). x ++ r.rest) l.took ∙ append_assoc (joined_lines (served_lines l.calls)) l.more r.rest

  pub lines_in : lines_of input ≡ served_lines l.calls ++ lines_of (l.more ++ r.rest)
  lines_in =
      ap lines_of bytes_in
      ∙ lines_of-joined (served_lines l.calls) (l.more ++ r.rest) (unbroken_served variant meaning from l.at l.calls l.serves)

-- the next line, where one is in hand
pub next_line : (more rest line held : List ℕ) → BytesBeginWith more line held → lines_of (more ++ rest) ≡ line ∷ lines_of (held ++ rest)
next_line more rest line held b =
    ap (λ (x : List ℕ). lines_of (x ++ rest)) b.cut ∙ ap lines_of (append_assoc line (10 ∷ held) rest)
    ∙ lines_of-line line (held ++ rest) b.within.unbroken

-- A session doesn't blame lines that are within the limits.

abbrev AreShort : List (List ℕ) → Type 0
AreShort lines = AllByRecursion (λ line. length line ≤ longest_request) lines

-- What follows the lines that were served: its lines are short, few and whole.
record IsRest (count : ℕ) (bytes : List ℕ) : Type 0 where
  whole : tail_of bytes ≡ []
  short : AreShort (lines_of bytes)
  few : count + length (lines_of bytes) ≤ most_lines

-- no line is too long
long_front : (lines : List (List ℕ)) (front tail : List ℕ) → longest_request < length front → tail_with_front front lines tail ≡ []
    → AreShort (lines_with_front front lines) → ⊥
long_front [] front tail h e s = absurd (omega (arith, h, ap (λ (x : List ℕ). length x) e, length-append front tail))
long_front (line ∷ lines) front tail h e s = absurd (omega (arith, h, s.0, length-append front line))

module _ (count : ℕ) (more rest : List ℕ) (r : IsRest count (more ++ rest)) where
  not_long : IsLong longest_request more → ⊥
  not_long l =
      let front : List ℕ = take (longest_request + 1) more in
      let back : List ℕ = drop (longest_request + 1) more ++ rest in
      let cut : more ++ rest ≡ front ++ back =
      ap (λ (x : List ℕ). x ++ rest) (sym (take-append-drop (longest_request + 1) more))
      ∙ append_assoc front (drop (longest_request + 1) more) rest in
      long_front (lines_of back) front (tail_of back) (omega (arith, l.long, length-take (longest_request + 1) more))
      (sym (ap tail_of cut ∙ tail_of-append front back l.unbroken) ∙ r.whole)
      (subst AreShort (ap lines_of cut ∙ lines_of-append front back l.unbroken) r.short)

  -- none is without its LF
  not_cut : rest ≡ [] → IsLineFront longest_request more → 0 < length more → ⊥
  not_cut e w h =
      let all : more ++ rest ≡ more = ap (λ (x : List ℕ). more ++ x) e ∙ append-nil more in
      let none : more ≡ [] = sym (ap tail_of all ∙ tail_of-unbroken more w.unbroken) ∙ r.whole in
      absurd (omega (arith, h, ap (λ (x : List ℕ). length x) none))

  -- and none is one too many
  not_many : (line held : List ℕ) → count + 1 ≡ most_lines + 1 → BytesBeginWith more line held → ⊥
  not_many line held e b =
      let next : length (lines_of (more ++ rest)) ≡ suc (length (lines_of (held ++ rest))) =
      ap (λ (ls : List (List ℕ)). length ls) (next_line more rest line held b) in
      absurd (omega (arith, next, e, r.few))

spares_end : {variant : Variant} {meaning : Meaning} {from : SessionPlace} {new : HostStanding} {left : Option (List ℕ)}
    {taken sent : List ℕ} (result : Result Unit SessionFault) (l : ServesAllLines variant meaning 1 from new left taken sent result)
    (rest : List ℕ) → IsRest (length l.calls) (l.more ++ rest) → (IsAtEnd left → rest ≡ []) → IsNoLines result
spares_end (Err (Lines (LineLong line))) l rest r h = not_long (length l.calls) l.more rest r l.ends.2
spares_end (Err (Lines (BadLine line))) l rest r h = not_cut (length l.calls) l.more rest r (h l.ends.4) l.ends.2 l.ends.3
spares_end (Err (Lines TooMuch)) l rest r h = not_many (length l.calls) l.more rest r l.ends.2 l.ends.3 l.ends.1 l.ends.4
spares_end _ l rest r h = tt

module _ {variant : Variant} {meaning : Meaning} {old new : SessionStanding} {result : Result Unit SessionFault}
    (s : IsSession variant meaning old new result) where
  spares_by : (input : List ℕ) → IsRead input s.taken new.left → AreWithin input
      → SessionGoesAfterResume variant meaning s.begun s.middle (host_of new) new.left s.taken s.sent result → IsNoLines result
  spares_by input r w (inl e) = rw e.1.stops
      (by_told (λ (f : SessionFault). IsNoLines {T = Unit} (Err f)) s.begun s.sent e.1.fault e.1.says (λ why e. tt) (λ n. tt))
  spares_by input r w (inr g) =
      let l = g.lines in
      let served = lines_in l r in
      spares_end result l r.rest (record {
        whole = sym (ap tail_of (bytes_in l r) ∙ tail_of-joined (served_lines l.calls) (l.more ++ r.rest)
            (unbroken_served variant meaning _ l.at l.calls l.serves)) ∙ w.whole;
        short = each_right (λ line. length line ≤ longest_request) (served_lines l.calls) (lines_of (l.more ++ r.rest))
            (rw served at w.short);
        few = omega (
          arith,
          ap (λ (ls : List (List ℕ)). length ls) served,
          length-served_lines l.calls,
          w.few,
          length-append (served_lines l.calls) (lines_of (l.more ++ r.rest)),
        );
      }) r.at_end

  pub spares_lines : SparesLines old.left result
  spares_lines = λ input e w. spares_by input (read_of old.left new.left input s.taken e s.consumed) w s.goes

-- What a session asked, by its steps: the first of some requests.

-- A line in hand is one of the requests, where it was asked.

abbrev pub IsWritten : Result Unit StoreFault → Type 0
IsWritten (Ok it) = Unit {0}
IsWritten (Err why) = ⊥

abbrev pub IsFirstIn : {variant : Variant} {meaning : Meaning} {number : ℕ} {at : SessionPlace} {new : HostStanding}
    {more sent : List ℕ} (rest : List (List ℕ)) (fault : SessionFault)
    → SessionStopsInLine variant meaning number at new more sent fault → Type 0
IsFirstIn rest fault e = IsWritten e.asks.recorded → (next : List (List ℕ)) × (rest ≡ e.line ∷ next)

abbrev pub IsLineAsked : (variant : Variant) (meaning : Meaning) (number : ℕ) (at : SessionPlace) (new : HostStanding)
    (left : Option (List ℕ)) (more sent : List ℕ) (rest : List (List ℕ)) (result : Result Unit SessionFault)
    → TurnGoes variant meaning number at new left more [] sent (turn_answer_of result) → Type 0
IsLineAsked variant meaning number at new left more sent rest (Err (Host fault)) e = IsFirstIn rest (Host fault) e
IsLineAsked variant meaning number at new left more sent rest (Err (Lines WriteFault)) e = IsFirstIn rest (Lines WriteFault) e
IsLineAsked variant meaning number at new left more sent rest _ e = Unit {0}

-- What a session asked, if anything, are the first of these requests: what waited, the lines that were told, and the one in hand.
module _ {variant : Variant} {meaning : Meaning} {old new : SessionStanding} {result : Result Unit SessionFault}
    (s : IsSession variant meaning old new result) (waiting : Option PendingRecord)
    (requests : List (List ℕ)) where
  abbrev pub IsFirstAsked : Type 0
  IsFirstAsked =
      IsMade variant meaning s.resumes.waiting (host_standing old.standing s.resumes.middle) s.middle s.begun s.resumes.goes
      → (p : PendingRecord) → waiting ≡ Some p → (rest : List (List ℕ)) × (requests ≡ p.request ∷ rest)

  abbrev pub AreMade : SessionGoesAfterResume variant meaning s.begun s.middle (host_of new) new.left s.taken s.sent result → Type 0
  AreMade (inl stops) = IsFirstAsked
  AreMade (inr g) =
      (rest : List (List ℕ)) × (served_lines (first_served_call waiting g.first ++ g.lines.calls) ++ rest ≡ requests)
      × IsLineAsked variant meaning (length g.lines.calls + 1) g.lines.at (host_of new) new.left g.lines.more g.lines.last rest result
      g.lines.ends

-- It ends with a line in hand, which was asked or not, or at rest.
pub by_asked : {variant : Variant} {meaning : Meaning} {from : SessionPlace} {new : HostStanding}
    {left : Option (List ℕ)}
    {taken sent : List ℕ} (P : Result Unit SessionFault → Type 0) (rest : List (List ℕ)) (result : Result Unit SessionFault)
    (l : ServesAllLines variant meaning 1 from new left taken sent result)
    → IsLineAsked variant meaning (length l.calls + 1) l.at new left l.more l.last rest result l.ends
    → ((fault : SessionFault) (e : SessionStopsInLine variant meaning (length l.calls + 1) l.at new l.more l.last fault)
    → IsFirstIn rest fault e → P (Err fault))
    → (IsByInput result → IsAtRest l.at new l.last → P result) → P result
by_asked P rest (Err (Host fault)) l a line still = line (Host fault) l.ends a
by_asked P rest (Err (Lines WriteFault)) l a line still = line (Lines WriteFault) l.ends a
by_asked P rest (Err (Lines Memory)) l a line still = absurd l.ends
by_asked P rest _ l a line still = still tt l.ends.0

-- the line behind those that were told
pub among_next : (told : List ServedCall) (more : List ℕ) {requests : List (List ℕ)}
    (a : AreAmong told (λ (request : List ℕ). (held : List ℕ) × BytesBeginWith more request held) requests) (line held : List ℕ)
    → BytesBeginWith more line held → (next : List (List ℕ)) × (a.served.0 ≡ line ∷ next)
among_next told more a line held b =
    let next = a.in_hand line (held, b) in (
      next.0,
      append_cancel_left (served_lines told) a.served.0 (line ∷ next.0)
          (a.served.1 ∙ sym next.1 ∙ append_assoc (served_lines told) (line ∷ []) next.0),
    )
