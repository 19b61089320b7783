-- A life in which one client gives the lines of all sessions. With it: what a client hears of a
-- session, what he remembers, and what he gives to the next one; each line that a client wants is
-- run once, in order, and he is told what was said to it; what a client may rely on where others
-- ask too, or write the slots; a client who lives by the rule over any service.
use Rattle.std.specs.List.{AllByRecursion}
use Rattle.std.specs.Prelude.{◌-◌, ◌&&◌, ◌||◌, ℕ, Bool, true, false, not, List, [], ◌∷◌, ◌++◌, drop, if◌then◌else◌, ◌≡◌, ◌+◌, Option, Some}
use Rattle.std.specs.Prelude.{Result, Ok, Err, ◌≤◌, length, ◌⊎◌}
use Rattle.mm_client.specs.Below.{Variant, Standing, Meaning, PendingRecord, Store, SessionFault, Host, IsInHand, served_calls_in}
use Rattle.mm_client.specs.Below.{ServedCall, served_calls_of, Does, Holds, IsLife, LifePart, LifeStage, PartLeads, WaitsInSlots}
use Rattle.mm_client.specs.Below.{reached_position, joined_lines, Batch, state_after, Instance, StoreStanding, IsGoneOnWith, PartGoesOn}
use Rattle.mm_client.specs.Below.{IsUnbroken, BatchAnswer, Refusal, IsSession, SessionStanding, replies_to, served_lines, Calls}
use Rattle.mm_client.specs.Below.{LifeFollows, PartSteps, Program, end_of, last_bytes_in}
use Rattle.mm_client.specs.declared.heard.HeardReply.{HeardReply}

-- What a client hears of a session, what he remembers, and what he gives to the next one.

-- The replies that he heard whole, in order; and whether he heard all: the program ended with Ok,
-- and its output was read to the end.
pub record Hearing : Type 0 where
  pub replies : List HeardReply
  pub is_whole : Bool

abbrev pub hearing_of : List HeardReply → Bool → Hearing
hearing_of replies is_whole = record { replies = replies; is_whole = is_whole }

-- The replies heard so far; the position of the last one, and at first that from which he counts;
-- and whether he is sure that this is the last position.
pub record ClientMemory : Type 0 where
  pub replies : List HeardReply
  pub position : ℕ
  pub is_sure : Bool

abbrev pub memory_at : ℕ → ClientMemory
memory_at base = record { replies = []; position = base; is_sure = true }

-- Of the lines that he wants behind a position, those that he gives to the next session: none while
-- he isn't sure.
abbrev pub lines_to_give : ℕ → List (List ℕ) → ClientMemory → List (List ℕ)
lines_to_give base wanted m = if m.is_sure then drop (m.position - base) wanted else []

-- the position of the last of these replies, and before any this one
abbrev pub heard_position : ℕ → List HeardReply → ℕ
heard_position before [] = before
heard_position before (reply ∷ replies) = heard_position reply.position replies

abbrev pub has_heard : List HeardReply → Bool
has_heard [] = false
has_heard (reply ∷ replies) = true

-- He is sure behind a session of which he heard all; and where he wasn't, and so gave no line,
-- behind any that told him a reply.
abbrev pub is_sure_after : Bool → Hearing → Bool
is_sure_after was_sure h = h.is_whole || (not was_sure && has_heard h.replies)

abbrev pub memory_after : ClientMemory → Hearing → ClientMemory
memory_after m h = record {
  replies = m.replies ++ h.replies;
  position = heard_position m.position h.replies;
  is_sure = is_sure_after m.is_sure h;
}

-- A life in which one client gives the lines of all sessions.

-- The input has the first bytes of these lines, each with its LF: a lost connection may cut it.
pub record IsGiven (lines : List (List ℕ)) (left : Option (List ℕ)) : Type 0 where
  pub bytes : List ℕ
  pub lost : List ℕ
  pub told : left ≡ Some bytes
  pub front : bytes ++ lost ≡ joined_lines lines

-- the replies that a session told
abbrev pub replies_of : List ServedCall → List HeardReply
replies_of [] = []
replies_of (c ∷ calls) =
    record { position = c.answer.position; output = c.answer.output } ∷ replies_of calls

-- The first of these are heard, and a lost connection may cut them; all where he heard all.
pub record IsHeard (told : List ServedCall) (result : Result Unit SessionFault)
    (h : Hearing) : Type 0 where
  pub lost : List HeardReply
  pub front : h.replies ++ lost ≡ replies_of told
  pub whole : h.is_whole ≡ true → (result ≡ Ok tt) × (lost ≡ [])

-- A session to which he gives his lines, and what he remembers behind what he heard of it.
pub record IsClientSession (lines : List (List ℕ)) (left : Option (List ℕ))
    (told : List ServedCall) (result : Result Unit SessionFault)
    (before after : ClientMemory) : Type 0 where
  pub given : IsGiven lines left
  pub hearing : Hearing
  pub heard : IsHeard told result hearing
  pub remembers : after ≡ memory_after before hearing

-- He counts from this position, and wants these lines: so it is of each session of a life, one
-- after another, with what he remembers. Other deeds are none of his.
module _ (base : ℕ) (wanted : List (List ℕ)) (variant : Variant) (meaning : Meaning) where
  abbrev pub IsClientPart : (old : Standing) (part : LifePart) (new : Standing)
      → PartLeads variant meaning old part new → ClientMemory → ClientMemory → Type 0
  IsClientPart old (Holds p) new s before after =
      IsClientSession (lines_to_give base wanted before) p.old.left (served_calls_of s) p.result
      before after
  IsClientPart old (Does deed) new f before after = after ≡ before

  abbrev pub IsClientLife : (start : Standing) (stages : List LifeStage)
      → IsLife variant meaning start stages → ClientMemory → ClientMemory → Type 0
  IsClientLife start [] f before after = after ≡ before
  IsClientLife start (stage ∷ stages) f before after =
      (between : ClientMemory) × IsClientPart start stage.part stage.after f.0 before between
      × IsClientLife stage.after stages f.1 between after

-- Where the store failed, the bytes that a write of a record left aren't by chance another record
-- of the position that it was to have: what waits for it then is the request in hand.
abbrev pub LeavesNoOther : (variant : Variant) (meaning : Meaning) (old : Standing)
    (part : LifePart) (new : Standing) → PartLeads variant meaning old part new → Type 0
LeavesNoOther variant meaning old (Holds p) new s =
    p.result ≡ Err (Host Store) → (waiting : Option PendingRecord)
    → WaitsInSlots p.old.kept.slots waiting →
    (next : PendingRecord) → WaitsInSlots p.new.kept.slots (Some next) →
    next.position ≡ reached_position waiting (served_calls_in waiting s.goes) + 1 →
    IsInHand waiting s.goes next.request
LeavesNoOther variant meaning old (Does deed) new f = Unit {0}

abbrev pub AreNoOthers : (variant : Variant) (meaning : Meaning) (start : Standing)
    (stages : List LifeStage) → IsLife variant meaning start stages → Type 0
AreNoOthers variant meaning start [] f = Unit {0}
AreNoOthers variant meaning start (stage ∷ stages) f =
    LeavesNoOther variant meaning start stage.part stage.after f.0
    × AreNoOthers variant meaning stage.after stages f.1

-- Each line that a client wants is run once, in order, and he is told what was said to it.

-- The reply is true of these requests: at its position one of them stands, and its output is what
-- the module says to it there.
pub record IsTrueReply (meaning : Meaning) (requests : List (List ℕ)) (reply : HeardReply) : Type 0
  where
    pub before : List (List ℕ)
    pub request : List ℕ
    pub later : List (List ℕ)
    pub stands : requests ≡ before ++ request ∷ later
    pub position : reply.position ≡ length before + 1
    pub says : reply.output ≡ meaning.says (state_after meaning before) request

-- The requests that were run are the first of the list, each once; all up to the position that the
-- client remembers are among them, and no other where he is sure; and each reply that he heard is
-- true.
pub record IsMomentOf (meaning : Meaning) (list requests : List (List ℕ))
    (m : ClientMemory) : Type 0
  where
    pub later : List (List ℕ)
    pub first : requests ++ later ≡ list
    pub known : m.position ≤ length requests
    pub sure : m.is_sure ≡ true → m.position ≡ length requests
    pub replies : AllByRecursion (IsTrueReply meaning requests) m.replies

-- A session over all lines that he gives while he is sure, and that ends with Ok, leaves nothing to
-- run.
abbrev pub PartMakesAll : ℕ → List (List ℕ) → List (List ℕ) → ClientMemory → LifePart
    → List (List ℕ) → Type 0
PartMakesAll base wanted list m (Holds p) after =
    m.is_sure ≡ true → p.old.left ≡ Some (joined_lines (lines_to_give base wanted m))
    → p.result ≡ Ok tt → after ≡ list
PartMakesAll base wanted list m (Does deed) after = Unit {0}

-- Behind these requests, and counting from this position, he wants those: at each moment of the
-- life it is so.
module _ (all others : List (List ℕ)) (asked : List Batch) (i : Instance) (base : ℕ)
    (before wanted : List (List ℕ)) where
  abbrev pub IsServedFrom : (start : Standing) (stages : List LifeStage)
      (f : IsLife i.variant i.meaning start stages) (m after : ClientMemory)
      → IsClientLife base wanted i.variant i.meaning start stages f m after
      → (requests left : List (List ℕ)) → Type 0
  IsServedFrom start [] f m after c requests left =
      (left ≡ requests) × IsMomentOf i.meaning (before ++ wanted) requests m
  IsServedFrom start (stage ∷ stages) f m after c requests left =
      (between : List (List ℕ)) × IsMomentOf i.meaning (before ++ wanted) requests m
      × PartGoesOn all others asked i start stage.part stage.after f.0 requests between
      × PartMakesAll base wanted (before ++ wanted) m stage.part between
      × IsServedFrom stage.after stages f.1 c.0 after c.2 between left

-- Such a life is gone on with, and the client is served once, from the start.
pub record IsServedOnce (all others : List (List ℕ)) (asked : List Batch) (i : Instance)
    (kept : StoreStanding) (start : Standing) (stages : List LifeStage)
    (f : IsLife i.variant i.meaning start stages) (wanted : List (List ℕ)) : Type 0 where
  pub gone : IsGoneOnWith all others asked i kept start stages f
  pub served : (after : ClientMemory)
      (c : IsClientLife 0 wanted i.variant i.meaning start stages f (memory_at 0) after)
      → IsServedFrom all others asked i 0 [] wanted start stages f (memory_at 0) after c []
      gone.after

-- What a client may rely on where others ask too, or write the slots: in any life.

-- The replies that are told in a part of a life, and in all of it.

-- those to a batch that comes behind so many requests
abbrev pub heard_from : ℕ → List (List ℕ) → List HeardReply
heard_from before [] = []
heard_from before (output ∷ outputs) =
    record { position = before + 1; output = output } ∷ heard_from (before + 1) outputs

abbrev pub answer_told : Result BatchAnswer Refusal → List HeardReply
answer_told (Ok answer) =
    heard_from (answer.position - length answer.outputs) answer.outputs
answer_told (Err why) = []

abbrev pub part_told : (variant : Variant) (meaning : Meaning) (old : Standing) (part : LifePart)
    (new : Standing) → PartLeads variant meaning old part new → List HeardReply
part_told variant meaning old (Holds p) new s = replies_of (served_calls_of s)
part_told variant meaning old (Does (Calls c)) new s = answer_told c.gives
part_told variant meaning old (Does _) new s = []

abbrev pub life_told : (variant : Variant) (meaning : Meaning) (start : Standing)
    (stages : List LifeStage) → IsLife variant meaning start stages → List HeardReply
life_told variant meaning start [] f = []
life_told variant meaning start (stage ∷ stages) f =
    part_told variant meaning start stage.part stage.after f.0
    ++ life_told variant meaning stage.after stages f.1

-- Each reply that was told is true of the one list: its request stands at its position.
abbrev pub RepliesTellRequests : Type 0
RepliesTellRequests =
    (variant : Variant) (meaning : Meaning) (start : Standing) (stages : List LifeStage)
    (f : IsLife variant meaning start stages) (before after : List (List ℕ)) →
    LifeFollows variant meaning start stages f before after →
    AllByRecursion (IsTrueReply meaning after) (life_told variant meaning start stages f)

-- a request stands at this position
pub record StandsAtPosition (requests : List (List ℕ)) (request : List ℕ) (position : ℕ) : Type 0
  where
    pub before : List (List ℕ)
    pub later : List (List ℕ)
    pub stands : requests ≡ before ++ request ∷ later
    pub at : position ≡ length before + 1

-- the module says this to no other request of the list, wherever it stands
abbrev pub IsOwnOutput : Meaning → List (List ℕ) → List ℕ → List ℕ → Type 0
IsOwnOutput meaning requests own output =
    (before : List (List ℕ)) (request : List ℕ) (later : List (List ℕ))
    → requests ≡ before ++ request ∷ later
    → meaning.says (state_after meaning before) request ≡ output → request ≡ own

-- A reply whose output no other request gets, as a receipt, is to one's own, which stands there.
abbrev pub OwnOutputsTell : Type 0
OwnOutputsTell =
    (meaning : Meaning) (requests : List (List ℕ)) (reply : HeardReply) (own : List ℕ) →
    IsTrueReply meaning requests reply → IsOwnOutput meaning requests own reply.output →
    StandsAtPosition requests own reply.position

-- What a session without a line tells of the requests behind it, by those that were known, of which
-- these are the first: their number; so where it is no more, nothing was run since; and where it is
-- one more, the request that was told, with what the module says to it, and no other.
pub record TellsSince (meaning : Meaning) (known after : List (List ℕ)) (c : ServedCall) : Type 0
  where
    pub number : length after ≡ c.answer.position
    pub none_since : c.answer.position ≤ length known → after ≡ known
    pub one_since : c.answer.position ≡ length known + 1 → (after ≡ known ++ c.line ∷ [])
        × (c.answer.output ≡ meaning.says (state_after meaning known) c.line)

-- Behind any life, from the requests that were known on, a program is given no line: it tells one
-- reply, or none.
abbrev pub AskingTells : Type 0
AskingTells =
    (variant : Variant) (meaning : Meaning) (start : Standing) (stages : List LifeStage)
    (f : IsLife variant meaning start stages) (asking : Program) (end : Standing)
    (s : PartLeads variant meaning (end_of start stages) (Holds asking) end)
    (known requests after : List (List ℕ)) →
    LifeFollows variant meaning start stages f known requests →
    PartSteps variant meaning (end_of start stages) (Holds asking) end s requests after →
    asking.old.left ≡ Some [] →
    (served_calls_of s ≡ [])
    ⊎ ((c : ServedCall) × (served_calls_of s ≡ c ∷ []) × TellsSince meaning known after c)

-- A session over all of these lines that ended with Ok told each of them, in order, behind at most
-- one other reply.
abbrev pub WholeSessionsTellAll : Type 0
WholeSessionsTellAll =
    (variant : Variant) (meaning : Meaning) (old new : SessionStanding)
    (result : Result Unit SessionFault) (s : IsSession variant meaning old new result)
    (lines : List (List ℕ)) →
    AllByRecursion IsUnbroken lines → old.left ≡ Some (joined_lines lines) → result ≡ Ok tt →
    (served_lines (served_calls_of s) ≡ lines)
    ⊎ ((first : List ℕ) × (served_lines (served_calls_of s) ≡ first ∷ lines))

-- What a session wrote are the lines of the replies that it told, and behind them its last bytes,
-- of which the steps of a life tell where the output failed.
abbrev pub SessionsSendReplies : Type 0
SessionsSendReplies =
    (variant : Variant) (meaning : Meaning) (old new : SessionStanding)
    (result : Result Unit SessionFault) (s : IsSession variant meaning old new result) →
    s.sent ≡ replies_to (served_calls_of s) ++ last_bytes_in s.goes

-- A client who lives by the rule over any service.

-- Session after session, he gives the lines that the rule has him give, and remembers what it has
-- him remember.
module _ {S : Type 0} (holds : S → S → List (List ℕ) → Hearing → Type 0) (base : ℕ)
    (wanted : List (List ℕ)) where
  abbrev pub AreRounds : S → List Hearing → ClientMemory → S → ClientMemory → Type 0
  AreRounds old [] before new after = (new ≡ old) × (after ≡ before)
  AreRounds old (heard ∷ hearings) before new after =
      (middle : S) × holds old middle (lines_to_give base wanted before) heard
      × AreRounds middle hearings (memory_after before heard) new after

  -- so many sessions
  pub record LivesAsClient (old new : S) (before after : ClientMemory) (rounds : ℕ) : Type 0 where
    pub hearings : List Hearing
    pub count : length hearings ≡ rounds
    pub lives : AreRounds old hearings before new after
