-- A client who takes his turn over an honest store is served once from there on.
use Rattle.std.specs.List.{AllByRecursion}
use Rattle.std.proofs.Common.{◌≡◌, ◌∙◌, ◌+◌, ℕ, true, false, List, [], ◌∷◌, ◌++◌, length, Option, None, Some, refl, sym, ap}
use Rattle.std.proofs.Common.{inl, inr, subst, arith}
use Rattle.std.proofs.lemmas.List.{append-nil}
use Rattle.mm_client.proofs.Below.{last_bytes_in}
use Rattle.mm_client.proofs.Below.{Batch, IsUnbroken, Instance, IsNextOrLast, LifePart, LifeStage, Slots, StoreStanding, Standing, IsLife, PendingRecord}
use Rattle.mm_client.proofs.Below.{WaitsInSlots, SessionSteps, AreToldOnce, IsInHand, IsSession, SessionGoesAfterResume, ServedCall}
use Rattle.mm_client.proofs.Below.{AreNewFrom, host_of, served_calls_in, served_calls_of}
use Rattle.mm_client.proofs.Below.{Does, Holds, PartLeads, Program, session_on, PartGoesOn, LeavesNoChance, position_at}
use Rattle.mm_client.proofs.Below.{Variant, Meaning, basic_instance, opt_instance, BasicLifeGoesOn, OptLifeGoesOn, IsGoneOnWith, IsOverOneStore}
use Rattle.mm_client.proofs.Below.{AreNoChance, clash_or, life_batches, life_messages, opt_messages, others_values, store_at_end}
use Rattle.mm_life.specs.HonestLife.{BeginsOver, GoesOnFrom, store_behind}
use Rattle.mm_client.specs.ClientLife.{AreNoOthers, LeavesNoOther, replies_of, ClientMemory, Hearing, heard_position, memory_after}
use Rattle.mm_client.specs.ClientLife.{memory_at}
use Rattle.mm_client.specs.Careful.{BasicTurnsAreServedOnce, IsServedByTurns, IsServedInTurn, IsTurn, OptTurnsAreServedOnce, TellsPosition}
use Rattle.mm_client.proofs.Beginning.{begins, first_run}
use Rattle.mm_client.proofs.LocalLives.{keeps_honest, session_leaves}
use Rattle.mm_client.proofs.OneSession.{Stands, same_waits, waits_in}
use Rattle.mm_client.proofs.ServedLives.{fits_end, fits_ahead, served_at, session_behind, told_same}
use Rattle.mm_client.proofs.Trace.{resumed_so}

-- anybody's session leaves the store as honest
module _ (variant : Variant) (meaning : Meaning) (start end : Standing) (p : Program)
    (s : IsSession variant meaning (session_on start p.old) (session_on end p.new) p.result)
    (w : Option PendingRecord) (waits_here : WaitsInSlots p.old.kept.slots w) (honest : p.old.kept.is_honest ≡ true)
    (requests after : List (List ℕ)) (waits : IsNextOrLast requests w) where
  honest_behind : (goes : SessionGoesAfterResume variant meaning s.begun s.middle (host_of (session_on end p.new)) p.new.left s.taken s.sent
      p.result) → SessionSteps meaning requests (served_calls_in w goes) (IsInHand w goes) (last_bytes_in goes) p.result after
      → AreToldOnce (length requests) w (served_calls_in w goes) → p.new.kept.is_honest ≡ true
  honest_behind (inl e) steps once =
      ap (λ (x : _). x.kept.is_honest) e.0
      ∙ (resumed_so 2 (omega arith) (omega arith) variant meaning (host_of (session_on start p.old)) s.middle s.begun honest
      s.resumes).honest
      ∙ honest
  honest_behind (inr g) steps once =
      let began = (begins variant meaning (host_of (session_on start p.old)) s.middle s.begun g.first w s.resumes g.begins waits_here).1 in
      let first = first_run meaning w g.first g.lines.calls requests steps.between began waits once steps.run in
      keeps_honest 2 p.old.kept p.new.kept (position_at g.lines.at.last) g.lines.at.last g.lines.more p.result
      (session_leaves 2 (omega arith) (omega arith) variant meaning (host_of (session_on start p.old)) s.middle s.begun g.first honest
      s.resumes g.lines.calls g.lines.at g.lines.serves
      (subst (λ (n : ℕ). AreNewFrom n g.lines.calls) (sym first.reached) first.new) (length g.lines.calls + 1)
      (host_of (session_on end p.new)) p.new.left g.lines.more g.lines.last p.result g.lines.ends)
      ∙ honest

-- who remembers nothing, and isn't sure
abbrev unknowing : ClientMemory
unknowing = record { replies = []; position = 0; is_sure = false }

-- what waits for the next position, if anything, as lines that might come
record MightCome (meaning : Meaning) (slots : Option Slots) (requests : List (List ℕ)) : Type 0 where
  lines : List (List ℕ)
  unbroken : AllByRecursion IsUnbroken lines
  stands : Stands meaning (requests ++ lines) (length requests) slots requests unknowing

unknown : (meaning : Meaning) (slots : Option Slots) (requests lines : List (List ℕ))
    → ((q : PendingRecord) → WaitsInSlots slots (Some q) → q.position ≡ length requests + 1
    → (later : List (List ℕ)) × (requests ++ q.request ∷ later ≡ requests ++ lines))
    → Stands meaning (requests ++ lines) (length requests) slots requests unknowing
unknown meaning slots requests lines next = record {
  moment = record {
    later = lines;
    first = refl;
    known = omega arith;
    sure = λ e. absurd (cc);
    replies = tt;
  };
  since = omega arith;
  next = next;
  asked = λ e. absurd (cc);
}

abbrev request_in : Option PendingRecord → List ℕ → List ℕ
request_in None d = d
request_in (Some x) d = x.request

might_come : (meaning : Meaning) (slots : Option Slots) (requests : List (List ℕ)) (w : Option PendingRecord) → WaitsInSlots slots w
    → MightCome meaning slots requests
might_come meaning slots requests None h = record {
  lines = [];
  unbroken = tt;
  stands = unknown meaning slots requests [] (λ q late at. absurd (let same = same_waits slots None (Some q) h late in cc));
}
might_come meaning slots requests (Some p) h = record {
  lines = p.request ∷ [];
  unbroken = ((waits_in h.shown p h.is_waiting).pending.line.unbroken, tt);
  stands = unknown meaning slots requests (p.request ∷ []) (λ q late at.
      let same = same_waits slots (Some p) (Some q) h late in
      ([], ap (λ (x : Option PendingRecord). requests ++ request_in x p.request ∷ []) (sym same)));
}

-- where a client takes his turn
record TurnStands (meaning : Meaning) (kept : StoreStanding) (wanted between : List (List ℕ)) (base : ℕ) : Type 0 where
  number : length between ≡ base
  stands : Stands meaning (between ++ wanted) (length between) kept.slots between (memory_at base)

module _ (all others : List (List ℕ)) (asked : List Batch) (i : Instance) (wanted : List (List ℕ))
    (unbroken : AllByRecursion IsUnbroken wanted) where
  program_turn : (kept : StoreStanding) (old : Standing) (p : Program) (new : Standing)
      (s : PartLeads i.variant i.meaning old (Holds p) new) (requests between : List (List ℕ)) (base : ℕ) → kept.is_honest ≡ true
      → BeginsOver kept (Holds p) → PartGoesOn all others asked i old (Holds p) new s requests between
      → TellsPosition i.variant i.meaning old (Holds p) new s base
      → LeavesNoChance i.variant i.meaning old (Holds p) new s → LeavesNoOther i.variant i.meaning old (Holds p) new s
      → ((v : Option PendingRecord) → WaitsInSlots p.new.kept.slots v → IsNextOrLast between v)
      → TurnStands i.meaning p.new.kept wanted between base
  program_turn kept old p new s requests between base honest over goes tells chance other behind =
      let w : Option PendingRecord = goes.0 in
      let waits_here : WaitsInSlots p.old.kept.slots w = goes.1 in
      let g = goes.2 in
      let come = might_come i.meaning p.old.kept.slots requests w waits_here in
      let told : served_calls_of s ≡ served_calls_in w s.goes =
      told_same i.variant i.meaning requests come.lines come.unbroken old new p s w waits_here (over.0 ∙ honest) requests between g.waits
      g.room unknowing come.stands behind s.goes in
      let one : served_calls_in w s.goes ≡ (tells.1) ∷ [] = sym told ∙ tells.2 in
      let h : Hearing = record { replies = replies_of (served_calls_in w s.goes); is_whole = false } in
      let made = session_behind i.variant i.meaning requests come.lines come.unbroken old new p s w waits_here (over.0 ∙ honest) requests
      between g.waits g.room unknowing come.stands behind s.goes h g.steps g.once
      (record { bytes = []; lost = []; told = tells.0; front = refl })
      (record { lost = []; front = append-nil (replies_of (served_calls_in w s.goes)); whole = λ e. absurd (cc) })
      (λ failed. chance failed w waits_here) (λ failed. other failed w waits_here) in
      let sure : (memory_after unknowing h).is_sure ≡ true =
      ap (λ (cs : List ServedCall). (memory_after unknowing (record { replies = replies_of cs; is_whole = false })).is_sure) one in
      let number : base ≡ length between =
      sym tells.3
      ∙ sym (ap (λ (cs : List ServedCall). heard_position 0 (replies_of cs)) one) ∙ made.stands.moment.sure sure in
      record {
        number = sym number;
        stands = record {
          moment = record {
            later = wanted;
            first = refl;
            known = omega (arith, number);
            sure = λ e. number;
            replies = tt;
          };
          since = omega arith;
          next = λ q late at. absurd (made.stands.asked sure q late at);
          asked = λ e. made.stands.asked sure;
        };
      }

  part_honest : (kept : StoreStanding) (old : Standing) (part : LifePart) (new : Standing)
      (f : PartLeads i.variant i.meaning old part new) (requests between : List (List ℕ)) → kept.is_honest ≡ true
      → BeginsOver kept part → PartGoesOn all others asked i old part new f requests between → (store_behind kept part).is_honest ≡ true
  part_honest kept old (Holds p) new f requests between honest over goes =
      honest_behind i.variant i.meaning old new p f goes.0 goes.1 (over.0 ∙ honest) requests between goes.2.waits f.goes goes.2.steps
      goes.2.once
  part_honest kept old (Does deed) new f requests between honest over goes = honest

  part_turn : (kept : StoreStanding) (old : Standing) (part : LifePart) (new : Standing)
      (f : PartLeads i.variant i.meaning old part new) (requests between : List (List ℕ)) (base : ℕ) → kept.is_honest ≡ true
      → BeginsOver kept part → PartGoesOn all others asked i old part new f requests between
      → TellsPosition i.variant i.meaning old part new f base
      → LeavesNoChance i.variant i.meaning old part new f → LeavesNoOther i.variant i.meaning old part new f
      → ((v : Option PendingRecord) → WaitsInSlots (store_behind kept part).slots v → IsNextOrLast between v)
      → TurnStands i.meaning (store_behind kept part) wanted between base
  part_turn kept old (Holds p) new f requests between base honest over goes tells chance other behind =
      program_turn kept old p new f requests between base honest over goes tells chance other behind
  part_turn kept old (Does deed) new f requests between base honest over goes tells chance other behind = absurd tells

  served_in_turn : (stages : List LifeStage) (kept : StoreStanding) (start : Standing) (f : IsLife i.variant i.meaning start stages)
      (after : ClientMemory) (t : IsTurn wanted i.variant i.meaning start stages f after) (requests left : List (List ℕ))
      → GoesOnFrom all others asked i start stages f requests left → IsOverOneStore kept stages
      → AreNoChance i.variant i.meaning start stages f → AreNoOthers i.variant i.meaning start stages f → kept.is_honest ≡ true
      → ((v : Option PendingRecord) → WaitsInSlots (store_at_end kept stages).slots v → IsNextOrLast left v)
      → IsServedInTurn all others asked i wanted start stages f after t requests left
  served_in_turn [] kept start f after t requests left goes over chance other honest end = absurd t
  served_in_turn (stage ∷ stages) kept start f after (inl later) requests left goes over chance other honest end = (
    goes.0,
    goes.1,
    served_in_turn stages (store_behind kept stage.part) stage.after f.1 after later goes.0 left goes.2 over.1 chance.1 other.1
        (part_honest kept start stage.part stage.after f.0 requests goes.0 honest over.0 goes.1) end,
  )
  served_in_turn (stage ∷ stages) kept start f after (inr turn) requests left goes over chance other honest end =
      let behind = fits_ahead all others asked i goes.0 wanted unbroken stages (store_behind kept stage.part) stage.after f.1 goes.0 left
      goes.2 over.1 end in
      let b =
      part_turn kept start stage.part stage.after f.0 requests goes.0 turn.0 honest over.0 goes.1 turn.1 chance.0 other.0 behind in (
        goes.0,
        goes.1,
        b.number,
        served_at all others asked i goes.0 wanted unbroken turn.0 (sym b.number) stages (store_behind kept stage.part) stage.after f.1
            (memory_at turn.0) after turn.2 goes.0 left goes.2 over.1 chance.1 other.1
            (part_honest kept start stage.part stage.after f.0 requests goes.0 honest over.0 goes.1) end b.stands,
      )

  turns_by : (kept : StoreStanding) (start : Standing) (stages : List LifeStage)
      (f : IsLife i.variant i.meaning start stages) → IsGoneOnWith all others asked i kept start stages f → kept.is_honest ≡ true
      → IsOverOneStore kept stages → AreNoChance i.variant i.meaning start stages f → AreNoOthers i.variant i.meaning start stages f
      → IsServedByTurns all others asked i kept start stages f wanted
  turns_by kept start stages f gone honest over chance other = record {
    gone = gone;
    served = λ after t.
        served_in_turn stages kept start f after t [] gone.after gone.goes over chance other honest (fits_end gone);
  }

pub basic_turns : BasicLifeGoesOn → BasicTurnsAreServedOnce
basic_turns law meaning lawful key start kept stages f wanted stands honest told over chance other unbroken =
    let i : Instance = basic_instance meaning key in
    elim (clash_or i (life_messages i start stages f) [] (life_batches i start stages f)) [
      | inl clash ↦ inr clash
      | inr fine ↦ inl (turns_by (life_messages i start stages f) [] (life_batches i start stages f) i wanted unbroken kept start stages f
          (law meaning lawful key start kept stages f stands honest told over fine.0 chance) honest over chance other)
    ]

pub opt_turns : OptLifeGoesOn → OptTurnsAreServedOnce
opt_turns law meaning lawful key barrier values start kept stages f wanted stands honest told over chance other unbroken =
    let i : Instance = opt_instance meaning key barrier in
    elim (clash_or i (opt_messages i start stages f) (others_values i start stages f) (life_batches i start stages f)) [
      | inl clash ↦ inr clash
      | inr fine ↦ inl (turns_by (opt_messages i start stages f) (others_values i start stages f) (life_batches i start stages f) i wanted
          unbroken kept start stages f
          (law meaning lawful key barrier values start kept stages f stands honest told over fine.0 (fine.1 refl) chance) honest over
          chance other)
    ]
