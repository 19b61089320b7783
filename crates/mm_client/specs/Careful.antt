-- A careful client, where others ask at any time, or write the slots. With it: clients who take
-- turns over one honest store.
use Rattle.std.specs.List.{AllByRecursion}
use Rattle.std.specs.Prelude.{◌≡◌, ◌≤◌, ℕ, Bool, true, false, List, [], ◌∷◌, ◌++◌, drop, take, length, nat_eq, Option, Result}
use Rattle.std.specs.Prelude.{if◌then◌else◌, ◌⊎◌, Some}
use Rattle.std.proofs.Common.{inl, inr}
use Rattle.mm_client.specs.Below.{Variant, Standing, Meaning, ServedCall, SessionFault, HasUntoldRequest, HostFault, HostStanding, Resumed}
use Rattle.mm_client.specs.Below.{IsUnbroken, SessionGoesAfterResume, Does, Holds, IsLife, LifeFollows, LifePart, LifeStage, PartLeads}
use Rattle.mm_client.specs.Below.{PartSteps, served_calls_of, Instance, Batch, StoreStanding, IsGoneOnWith, PartGoesOn}
use Rattle.mm_client.specs.ClientLife.{IsGiven, IsHeard, Hearing, heard_position, IsClientLife, ClientMemory, memory_at, IsServedFrom}
use Rattle.mm_client.specs.declared.heard.HeardReply.{HeardReply}
use Rattle.mm_client.specs.Laws.{IsKeptInBasic, IsKeptInOpt}

-- The lines that he doesn't take for done; the position that he was told last before he sent more;
-- and whether he may send.
pub record CarefulMemory : Type 0 where
  pub left : List (List ℕ)
  pub position : ℕ
  pub is_sure : Bool

-- he was told this position, or none where it is 0, and then wants these lines
abbrev pub careful_memory_at : List (List ℕ) → ℕ → CarefulMemory
careful_memory_at wanted position = record { left = wanted; position = position; is_sure = true }

-- some of the lines that are left, and none where he may not send
abbrev pub careful_lines : CarefulMemory → ℕ → List (List ℕ)
careful_lines m count = if m.is_sure then take count m.left else []

-- one reply was heard, of this position
abbrev pub is_told_again : ℕ → List HeardReply → Bool
is_told_again position (reply ∷ []) = nat_eq reply.position position
is_told_again position _ = false

-- What he gave to a session that he heard whole is done. After any other he sends nothing, until he
-- is told again exactly the position that he was told before.
abbrev pub careful_memory_after : CarefulMemory → ℕ → Hearing → CarefulMemory
careful_memory_after m count h =
    if m.is_sure then (if h.is_whole then record {
      left = drop count m.left;
      position = heard_position m.position h.replies;
      is_sure = true;
    } else record m { is_sure = false })
    else record m { is_sure = is_told_again m.position h.replies }

-- these are some of those, in order, each at most once
abbrev pub AreSomeOf : List (List ℕ) → List (List ℕ) → Type 0
AreSomeOf some [] = some ≡ []
AreSomeOf some (line ∷ lines) =
    AreSomeOf some lines
    ⊎ ((rest : List (List ℕ)) × (some ≡ line ∷ rest) × AreSomeOf rest lines)

-- the lines among these that were run, and not told as run before
abbrev pub new_lines_of : List ServedCall → List (List ℕ)
new_lines_of [] = []
new_lines_of (c ∷ calls) =
    if c.answer.again then new_lines_of calls else c.line ∷ new_lines_of calls

abbrev pub untold_lines : {hand : List ℕ → Type 0} {result : Result Unit SessionFault}
    {between after : List (List ℕ)} → (after ≡ between) ⊎ HasUntoldRequest hand result between after
    → List (List ℕ)
untold_lines (inl same) = []
untold_lines (inr u) = u.request ∷ []

-- the lines of a session's input that it ran
abbrev pub lines_run_by : {variant : Variant} {meaning : Meaning} {begun : Result Resumed HostFault}
    {middle new : HostStanding} {left : Option (List ℕ)} {taken sent : List ℕ}
    {result : Result Unit SessionFault}
    → SessionGoesAfterResume variant meaning begun middle new left taken sent result
    → List (List ℕ) → List (List ℕ)
lines_run_by (inl stops) untold = []
lines_run_by (inr goes) untold = new_lines_of goes.lines.calls ++ untold

-- these, where the first is so
abbrev pub lines_if_his : {A B : Type 0} → A ⊎ B → List (List ℕ) → List (List ℕ)
lines_if_his (inl his) lines = lines
lines_if_his (inr other) lines = []

-- A life in which some of the sessions are his, and anybody does the rest.
module _ (variant : Variant) (meaning : Meaning) where
  abbrev pub IsHisPart : (old : Standing) (part : LifePart) (new : Standing)
      → PartLeads variant meaning old part new → CarefulMemory → CarefulMemory → Type 0
  IsHisPart old (Holds p) new s before after =
      (count : ℕ) × (h : Hearing) × IsGiven (careful_lines before count) p.old.left
      × IsHeard (served_calls_of s) p.result h × (after ≡ careful_memory_after before count h)
  IsHisPart old (Does deed) new f before after = ⊥

  abbrev pub IsCarefulLife : (start : Standing) (stages : List LifeStage)
      → IsLife variant meaning start stages → CarefulMemory → CarefulMemory → Type 0
  IsCarefulLife start [] f before after = after ≡ before
  IsCarefulLife start (stage ∷ stages) f before after =
      (between : CarefulMemory)
      × (IsHisPart start stage.part stage.after f.0 before between ⊎ (between ≡ before))
      × IsCarefulLife stage.after stages f.1 between after

  -- the lines that were run of a session's input, where it was his
  abbrev pub part_lines : (old : Standing) (part : LifePart) (new : Standing)
      (f : PartLeads variant meaning old part new) (requests after : List (List ℕ))
      → PartSteps variant meaning old part new f requests after → List (List ℕ)
  part_lines old (Holds p) new s requests after steps =
      lines_run_by s.goes (untold_lines steps.committed)
  part_lines old (Does deed) new f requests after steps = []

  abbrev pub careful_runs : (start : Standing) (stages : List LifeStage)
      (f : IsLife variant meaning start stages) (m after : CarefulMemory)
      → IsCarefulLife start stages f m after → (requests left : List (List ℕ))
      → LifeFollows variant meaning start stages f requests left → List (List ℕ)
  careful_runs start [] f m after c requests left l = []
  careful_runs start (stage ∷ stages) f m after c requests left l =
      lines_if_his c.1 (part_lines start stage.part stage.after f.0 requests l.0 l.1)
      ++ careful_runs stage.after stages f.1 c.0 after c.2 l.0 left l.2

-- Whatever others do, the lines that were run of his inputs are some of those that he wants, in
-- order, each at most once. He begins where he was told no position behind the requests.
abbrev pub CarefulClientsRunOnce : Type 0
CarefulClientsRunOnce =
    (variant : Variant) (meaning : Meaning) (start : Standing) (stages : List LifeStage)
    (f : IsLife variant meaning start stages)
    (wanted : List (List ℕ)) (position : ℕ) (after : CarefulMemory)
    (c : IsCarefulLife variant meaning start stages f (careful_memory_at wanted position) after)
    (known requests : List (List ℕ))
    (l : LifeFollows variant meaning start stages f known requests) →
    AllByRecursion IsUnbroken wanted → position ≤ length known →
    AreSomeOf
    (careful_runs variant meaning start stages f (careful_memory_at wanted position) after c known
    requests l) wanted

-- Clients who take turns over one honest store.

-- a session without a line told one reply, of this position
abbrev pub TellsPosition : (variant : Variant) (meaning : Meaning) (old : Standing)
    (part : LifePart) (new : Standing) → PartLeads variant meaning old part new → ℕ → Type 0
TellsPosition variant meaning old (Holds p) new s position =
    (p.old.left ≡ Some []) × (c : ServedCall) × (served_calls_of s ≡ c ∷ [])
    × (c.answer.position ≡ position)
TellsPosition variant meaning old (Does deed) new f position = ⊥

-- Behind any stages, whoever asked in them, a client is told a position so; from there on he alone
-- asks, and wants these lines.
module _ (wanted : List (List ℕ)) (variant : Variant) (meaning : Meaning) where
  abbrev pub IsTurn : (start : Standing) (stages : List LifeStage)
      → IsLife variant meaning start stages → ClientMemory → Type 0
  IsTurn start [] f after = ⊥
  IsTurn start (stage ∷ stages) f after =
      IsTurn stage.after stages f.1 after
      ⊎ ((base : ℕ) × TellsPosition variant meaning start stage.part stage.after f.0 base
      × IsClientLife base wanted variant meaning stage.after stages f.1 (memory_at base) after)

-- There were so many requests then, and from there on he is served.
module _ (all others : List (List ℕ)) (asked : List Batch) (i : Instance)
    (wanted : List (List ℕ)) where
  abbrev pub IsServedInTurn : (start : Standing) (stages : List LifeStage)
      (f : IsLife i.variant i.meaning start stages) (after : ClientMemory)
      → IsTurn wanted i.variant i.meaning start stages f after → (requests left : List (List ℕ))
      → Type 0
  IsServedInTurn start [] f after t requests left = ⊥
  IsServedInTurn start (stage ∷ stages) f after (inl later) requests left =
      (between : List (List ℕ))
      × PartGoesOn all others asked i start stage.part stage.after f.0 requests between
      × IsServedInTurn stage.after stages f.1 after later between left
  IsServedInTurn start (stage ∷ stages) f after (inr turn) requests left =
      (between : List (List ℕ))
      × PartGoesOn all others asked i start stage.part stage.after f.0 requests between
      × (length between ≡ turn.0)
      × IsServedFrom all others asked i turn.0 between wanted stage.after stages f.1
      (memory_at turn.0) after turn.2 between left

pub record IsServedByTurns (all others : List (List ℕ)) (asked : List Batch) (i : Instance)
    (kept : StoreStanding) (start : Standing) (stages : List LifeStage)
    (f : IsLife i.variant i.meaning start stages) (wanted : List (List ℕ)) : Type 0 where
  pub gone : IsGoneOnWith all others asked i kept start stages f
  pub served : (after : ClientMemory)
      (t : IsTurn wanted i.variant i.meaning start stages f after)
      → IsServedInTurn all others asked i wanted start stages f after t [] gone.after

-- so it is of each turn of a life over one honest store
abbrev pub BasicTurnsAreServedOnce : Type 0
BasicTurnsAreServedOnce = IsKeptInBasic IsServedByTurns

abbrev pub OptTurnsAreServedOnce : Type 0
OptTurnsAreServedOnce = IsKeptInOpt IsServedByTurns
