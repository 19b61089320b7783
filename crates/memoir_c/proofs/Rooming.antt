-- The room that is enough for what is written. With it: where an export says Next, few steps were
-- made; where a move says Next, few steps were made.
use Rattle.std.specs.Prelude.{Result, Ok, Err, Some}
use Rattle.std.proofs.Common.{◌≡◌, ◌∙◌, ℕ, suc, ◌<◌, ◌≤◌, List, [], ◌∷◌, length, sym, subst, ap, inl, inr, arith, refl, ◌+◌, length-append}
use Rattle.std.proofs.lemmas.List.Elements.{All-head}
use Rattle.mm_bytes.specs.Limits.{limit_of, longest_request}
use Rattle.mm_digest.specs.declared.variant.Variant.{Variant}
use Rattle.mm_digest.specs.declared.variant.Variant.TheVariants.{Basic, Opt}
use Rattle.mm_module.specs.Meaning.{IsLawful, IsLine, Meaning}
use Rattle.mm_modules.specs.Modules.{meaning_of, module_of_id}
use Rattle.mm_modules.specs.ModulesLaws.{any_is_lawful}
use Rattle.mm_modules.specs.declared.any.AnyModule.{AnyModule}
use Rattle.mm_modules.proofs.Above.{id_spelled}
use Rattle.mm_model.specs.Below.{length-sha256}
use Rattle.mm_model.specs.Chains as model
use Rattle.mm_model.specs.History.{first_history}
use Rattle.mm_model.specs.Messages.{code_of}
use Rattle.mm_model.specs.declared.answer.Answer.{Answer}
use Rattle.mm_model.specs.declared.refusal.Refusal.{Refusal}
use Rattle.mm_model.specs.declared.refusal.Refusal.TheVariants as refusal
use Rattle.mm_call.specs.OfferLaws.{basic_content, opt_content}
use Rattle.mm_call.specs.Standing.{instance_by}
use Rattle.mm_opt.specs.declared.segment.Checkpointed.{Checkpointed}
use Rattle.mm_opt.specs.declared.segment.Checkpointed.TheVariants as closed
use Rattle.mm_opt.specs.declared.segment.CheckpointRefusal.{CheckpointRefusal}
use Rattle.mm_opt.specs.declared.segment.CheckpointRefusal.TheVariants as closing
use Rattle.mm_move.specs.declared.accepting.Accepted.{Accepted}
use Rattle.mm_move.specs.declared.inviting.Invited.{Invited}
use Rattle.mm_move.specs.declared.inviting.Invited.TheVariants as invited
use Rattle.mm_move.specs.declared.refusal.MoveRefusal.{MoveRefusal}
use Rattle.mm_move.specs.declared.refusal.MoveRefusal.TheVariants as move
use Rattle.mm_store.specs.PendingRecord.{PendingRecord, pending_spelling}
use Rattle.mm_store.proofs.Above.{length-pending_front}
use Rattle.mm_told.specs.ToldAskPromise.{most_steps}
use Rattle.mm_told.specs.declared.outcome.StepsOutcome.{StepsOutcome}
use Rattle.mm_told.specs.declared.outcome.StepsOutcome.TheVariants as outcome
use Rattle.mm_told.specs.declared.step.HostStep.{HostStep}
use Rattle.mm_told.specs.declared.step.MadeStep.{MadeStep}
use Rattle.mm_told.proofs.Above.{sealed_most}
use Rattle.mm_told_moves.specs.ToldMovePromise.{IsTicketWithin}
use Rattle.memoir_c.specs.CallReplies.{AreNoSteps, CallGives, ClosesTo, IsNoCall, IsNoInstance, ReplyState, TellsCallOutcome, TellsClosing}
use Rattle.memoir_c.specs.CallReplies.{checkpoint_status, AreSteps}
use Rattle.memoir_c.specs.declared.asking.Instance.{Instance}
use Rattle.memoir_c.specs.declared.made.Step.{Step}
use Rattle.memoir_c.specs.declared.provisioning.Keys.{Keys}
use Rattle.memoir_c.specs.declared.said.ReturnStatus.{ReturnStatus}
use Rattle.memoir_c.specs.declared.said.ReturnStatus.TheVariants as said
use Rattle.memoir_c.specs.Numbers.{number_of, HasNoRecord, PutsInFront, ReadsRecordOrNone, RecordsRequest, RoomState, move_status}
use Rattle.memoir_c.specs.PlainAnswers.{IsUnmade, ProvisionMemory, ProvisionsInstance, PutsInstance, first_snapshot, room_with}
use Rattle.memoir_c.specs.PlainAnswers.{AcceptanceGives, InvitationGives, MoveState, RetirementGives, TellsInvitation, TellsMove}
use Rattle.memoir_c.specs.PlainAnswers.{invitation_status, outcome_with_ticket}

-- Where an export says Next, few steps were made.

pub as_many : (steps : List Step) (made : List MadeStep) → AreSteps steps made → length steps ≡ length made
as_many [] [] a = refl
as_many [] (it ∷ more) a = absurd a
as_many (step ∷ steps) [] a = absurd a
as_many (step ∷ steps) (it ∷ more) a = ap suc (as_many steps more a.1)

pub five : (variant : Variant) → most_steps variant ≤ 5
five Basic = omega arith
five Opt = omega arith

-- what is said of what was passed that is no call
abbrev pub IsOfPassed : ReturnStatus → Type 0
IsOfPassed said.NoVariant = Unit {0}
IsOfPassed said.NoModule = Unit {0}
IsOfPassed said.TooMany = Unit {0}
IsOfPassed said.NoStep = Unit {0}
IsOfPassed _ = ⊥

pub no_steps : (steps : List Step) (why : ReturnStatus) → AreNoSteps steps why → IsOfPassed why
no_steps steps why (inl a) = subst IsOfPassed (sym a.0) tt
no_steps steps why (inr a) = subst IsOfPassed (sym a.0) tt

pub no_instance : (instance : Instance) (why : ReturnStatus) → IsNoInstance instance why → IsOfPassed why
no_instance instance why (inl a) = subst IsOfPassed (sym a.0) tt
no_instance instance why (inr a) = subst IsOfPassed (sym a.0) tt

pub no_call : (instance : Instance) (steps : List Step) (why : ReturnStatus) → IsNoCall instance steps why → IsOfPassed why
no_call instance steps why (inl no_one) = no_instance instance why no_one
no_call instance steps why (inr none) = no_steps steps why none.2

module _ (instance : Instance) (steps : List Step) (offer request : List ℕ) where
  pub few_by : (asked : Result (StepsOutcome (Result Answer Refusal)) ReturnStatus) (left : ReplyState)
      → CallGives instance steps offer request asked → TellsCallOutcome asked left → left.says ≡ said.Next → length steps < 5
  few_by (Err why) left c t e = absurd (subst IsOfPassed (sym t.says ∙ e) (no_call instance steps why c))
  few_by (Ok (outcome.Ended (Ok answer))) left c (inl t) e = let f : left.says ≡ said.Done = t.says in absurd (cc)
  few_by (Ok (outcome.Ended (Ok answer))) left c (inr t) e = let f : left.says ≡ said.NoRoom = t.says.says in absurd (cc)
  few_by (Ok (outcome.Ended (Err why))) left c t e = let f : left.says ≡ said.Refused why = t.says in absurd (cc)
  few_by (Ok (outcome.Next step)) left c t e =
      omega (arith, as_many steps c.made c.are_steps, c.asks.few step refl, five c.parts.0)
  few_by (Ok outcome.Differs) left c t e = let f : left.says ≡ said.Differs = t.says in absurd (cc)
  few_by (Ok outcome.Memory) left c t e = let f : left.says ≡ said.Refused refusal.Memory = t.says in absurd (cc)

-- a checkpoint

not_over : (gives : Result Checkpointed CheckpointRefusal) → checkpoint_status gives ≡ said.Next → ⊥
not_over (Ok closed.Done) e = absurd (cc)
not_over (Ok closed.NoSegment) e = absurd (cc)
not_over (Err (closing.Device fault)) e = absurd (cc)
not_over (Err closing.Blank) e = absurd (cc)
not_over (Err closing.Cell) e = absurd (cc)
not_over (Err closing.Kind) e = absurd (cc)
not_over (Err closing.Lost) e = absurd (cc)

pub closing_few_by : (steps : List Step) (came : Result (StepsOutcome (Result Checkpointed CheckpointRefusal)) ReturnStatus)
    (old new : Step) (says : ReturnStatus) → ClosesTo steps came → TellsClosing came old new says → says ≡ said.Next
    → length steps < 3
closing_few_by steps (Err why) old new says c t e = absurd (subst IsOfPassed (sym t.0 ∙ e) (no_steps steps why c))
closing_few_by steps (Ok (outcome.Ended gives)) old new says c t e = absurd (not_over gives (sym t.0 ∙ e))
closing_few_by steps (Ok (outcome.Next step)) old new says c t e =
    omega (arith, as_many steps c.made c.are_steps, c.closes.few step refl)
closing_few_by steps (Ok outcome.Differs) old new says c t e = let f : says ≡ said.Differs = t.0 in absurd (cc)
closing_few_by steps (Ok outcome.Memory) old new says c t e = let f : says ≡ said.Differs = t.0 in absurd (cc)

-- The room that is enough for what is written.

-- its number says that there is too little room, and no other does
refused_else : (why : Refusal) → code_of why ≡ 36 → ⊥
refused_else (refusal.Device fault) e = absurd (omega (arith, e))
refused_else refusal.Memory e = absurd (omega (arith, e))
refused_else refusal.Long e = absurd (omega (arith, e))
refused_else refusal.Blank e = absurd (omega (arith, e))
refused_else refusal.Cell e = absurd (omega (arith, e))
refused_else refusal.Lost e = absurd (omega (arith, e))
refused_else refusal.Form e = absurd (omega (arith, e))
refused_else refusal.Kind e = absurd (omega (arith, e))
refused_else refusal.State e = absurd (omega (arith, e))
refused_else refusal.Tag e = absurd (omega (arith, e))
refused_else refusal.Stale e = absurd (omega (arith, e))
refused_else refusal.Full e = absurd (omega (arith, e))

pub only_room : (says : ReturnStatus) → number_of says ≡ 36 → says ≡ said.NoRoom
only_room said.NoRoom e = refl
only_room (said.Refused why) e = absurd (refused_else why e)
only_room said.Done e = absurd (omega (arith, e))
only_room said.Next e = absurd (omega (arith, e))
only_room said.Differs e = absurd (omega (arith, e))
only_room said.NoSegment e = absurd (omega (arith, e))
only_room said.Already e = absurd (omega (arith, e))
only_room said.Open e = absurd (omega (arith, e))
only_room said.Gone e = absurd (omega (arith, e))
only_room said.Nonce e = absurd (omega (arith, e))
only_room said.Barrier e = absurd (omega (arith, e))
only_room said.Again e = absurd (omega (arith, e))
only_room said.NoVariant e = absurd (omega (arith, e))
only_room said.NoModule e = absurd (omega (arith, e))
only_room said.TooMany e = absurd (omega (arith, e))
only_room said.NoStep e = absurd (omega (arith, e))
only_room said.NoKey e = absurd (omega (arith, e))
only_room said.NoPosition e = absurd (omega (arith, e))

-- the room of a module that is found
pub room_is : (id : ℕ) (it : AnyModule) → module_of_id id ≡ Some it → room_with id ≡ 4210 + limit_of (meaning_of it).id
room_is id it found = rw found (rw (id_spelled id it found) (omega arith))

pub over : (whole output snapshot limit room : ℕ) → whole ≡ output + snapshot → output ≤ 4096 → snapshot ≤ 114 + limit → room < whole
    → 4210 + limit ≤ room → ⊥
over whole output snapshot limit room e o s short enough = omega arith

module _ (instance : Instance) (steps : List Step) (offer request : List ℕ) where
  -- a call has room
  pub enough_by : (asked : Result (StepsOutcome (Result Answer Refusal)) ReturnStatus) (left : ReplyState)
      → CallGives instance steps offer request asked → TellsCallOutcome asked left → room_with instance.«module» ≤ length left.old.room
      → left.says ≡ said.NoRoom → ⊥
  enough_by (Err why) left c t h e = subst IsOfPassed (sym t.says ∙ e) (no_call instance steps why c)
  enough_by (Ok (outcome.Ended (Ok answer))) left c (inl t) h e = let f : left.says ≡ said.Done = t.says in absurd (cc)
  enough_by (Ok (outcome.Ended (Ok answer))) left c (inr t) h e =
      over _ (length answer.output) (length answer.snapshot) (limit_of (meaning_of c.parts.1).id) (length left.old.room)
      (length-append answer.output answer.snapshot)
      (All-head IsLine answer.output [] c.asks.asked.fits.lines).short c.asks.room t.short
      (subst (λ (n : ℕ). n ≤ length left.old.room) (room_is instance.«module» c.parts.1 c.are_parts.1) h)
  enough_by (Ok (outcome.Ended (Err why))) left c t h e = let f : left.says ≡ said.Refused why = t.says in absurd (cc)
  enough_by (Ok (outcome.Next step)) left c t h e = let f : left.says ≡ said.Next = t.says in absurd (cc)
  enough_by (Ok outcome.Differs) left c t h e = let f : left.says ≡ said.Differs = t.says in absurd (cc)
  enough_by (Ok outcome.Memory) left c t h e = let f : left.says ≡ said.Refused refusal.Memory = t.says in absurd (cc)

-- a first snapshot
first_most : (variant : Variant) (meaning : Meaning) (key barrier : List ℕ) → IsLawful meaning
    → length (first_snapshot (instance_by variant meaning key barrier)) ≤ 114 + limit_of meaning.id
first_most Basic meaning key barrier lawful = sealed_most key _ (basic_content meaning lawful key first_history (omega arith))
first_most Opt meaning key barrier lawful = sealed_most key _ (opt_content meaning lawful key barrier first_history (omega arith))

pub first_enough : (id : ℕ) (variant : Variant) (it : AnyModule) (key barrier : List ℕ) (room : ℕ) → module_of_id id ≡ Some it
    → room_with id ≤ room → room < length (first_snapshot (instance_by variant (meaning_of it) key barrier)) → ⊥
first_enough id variant it key barrier room found h short =
    omega (
      arith,
      first_most variant (meaning_of it) key barrier (any_is_lawful it),
      subst (λ (n : ℕ). n ≤ room) (room_is id it found) h,
      short,
    )

-- a record
pub length-record : (p : PendingRecord) → length (pending_spelling p) ≡ 48 + length p.request
unfolding pending_spelling
length-record p = rw (length-append, length-sha256) (omega (arith, length-pending_front p))

no_record : (position : ℕ) (request : List ℕ) (says : ReturnStatus) → HasNoRecord position request says → says ≡ said.NoRoom → ⊥
no_record position request says (inl a) e = let f : says ≡ said.NoPosition = a.0 in absurd (cc)
no_record position request says (inr (inl a)) e = let f : says ≡ said.Refused refusal.Long = a.0 in absurd (cc)
no_record position request says (inr (inr f)) e = absurd (cc)

-- bytes are written for which there is room
pub front_enough : (bytes : List ℕ) (it : RoomState) (says : ReturnStatus) → PutsInFront bytes it says → length bytes ≤ length it.before
    → says ≡ said.NoRoom → ⊥
front_enough bytes it says (inl a) h e = let f : says ≡ said.Done = a.0 in absurd (cc)
front_enough bytes it says (inr a) h e = omega (arith, h, a.2)

pub record_enough : (position : ℕ) (request : List ℕ) (it : RoomState) (number : ℕ) → RecordsRequest position request it number
    → 48 + length request ≤ length it.before → number ≡ 36 → ⊥
record_enough position request it number r h e =
    elim r.puts [
      | inl p ↦ front_enough _ it r.says p
          (rw (length-record (record { position = position; request = request })) h) (only_room r.says (sym r.number_is ∙ e))
      | inr n ↦ no_record position request r.says n.0 (only_room r.says (sym r.number_is ∙ e))
    ]

pub reads_enough : (slot : ℕ) (bytes : List ℕ) (it : RoomState) (position : ℕ) (says : ReturnStatus)
    → ReadsRecordOrNone slot bytes it position says → longest_request ≤ length it.before → says ≡ said.NoRoom → ⊥
reads_enough slot bytes it position says (inl r) h e =
    front_enough r.read.request it says r.puts (omega (arith, r.reads.0.line.short, h)) e
reads_enough slot bytes it position says (inr n) h e =
    let f : says ≡ said.Refused refusal.Form = n.told in absurd (cc)

first_puts : (instance : Instance) (keys : Keys) (it : ProvisionMemory) (says : ReturnStatus) → PutsInstance instance keys it says
    → room_with instance.«module» ≤ length it.before → says ≡ said.NoRoom → ⊥
first_puts instance keys it says p h e =
    elim p.puts [
      | inl a ↦ let f : says ≡ said.Done = a.0 in absurd (cc)
      | inr a ↦ first_enough instance.«module» p.is_meant.parts.0 p.is_meant.parts.1 keys.key keys.barrier (length it.before)
          p.is_meant.are_parts.1 h
          (subst (λ (i : model.Instance). length it.before < length (first_snapshot i)) p.is_meant.is a.2)
    ]

first_unmade : (instance : Instance) (says : ReturnStatus) → IsUnmade instance says → says ≡ said.NoRoom → ⊥
first_unmade instance says (inl no_one) e = subst IsOfPassed e (no_instance instance says no_one)
first_unmade instance says (inr f) e = absurd (cc)

pub provision_enough : (instance : Instance) (keys : Keys) (it : ProvisionMemory) (number : ℕ)
    → ProvisionsInstance instance keys it number → room_with instance.«module» ≤ length it.before → number ≡ 36 → ⊥
provision_enough instance keys it number r h e =
    elim r.puts [
      | inl p ↦ first_puts instance keys it r.says p h (only_room r.says (sym r.number_is ∙ e))
      | inr n ↦ first_unmade instance r.says n.0 (only_room r.says (sym r.number_is ∙ e))
    ]

-- Where a move says Next, few steps were made; and the room that is enough for one.

-- a refused move says neither
abbrev IsOfRefused : ReturnStatus → Type 0
IsOfRefused said.Next = ⊥
IsOfRefused said.NoRoom = ⊥
IsOfRefused _ = Unit {0}

refused_move : (why : MoveRefusal) → IsOfRefused (move_status why)
refused_move (move.Core why) = tt
refused_move move.Already = tt
refused_move move.Open = tt
refused_move move.Gone = tt
refused_move move.Nonce = tt
refused_move move.Barrier = tt

invited_over : (given : Result Invited MoveRefusal) → IsOfRefused (invitation_status given)
invited_over (Ok invited.Done) = tt
invited_over (Ok invited.Again) = tt
invited_over (Err why) = refused_move why

module _ (instance : Instance) (steps : List Step) (link : Keys) where
  pub invited_few : (nonce key : List ℕ) (came : Result (StepsOutcome (Result Invited MoveRefusal)) ReturnStatus) (old new : Step)
      (says : ReturnStatus) → InvitationGives instance steps link nonce key came → TellsInvitation came old new says
      → says ≡ said.Next → length steps < 2
  invited_few nonce key (Err why) old new says c t e = absurd (subst IsOfPassed (sym t.0 ∙ e) (no_call instance steps why c))
  invited_few nonce key (Ok (outcome.Ended given)) old new says c t e = absurd (subst IsOfRefused (sym t.0 ∙ e) (invited_over given))
  invited_few nonce key (Ok (outcome.Next step)) old new says c t e =
      omega (arith, as_many steps c.made c.are_steps, c.invites.few step refl)
  invited_few nonce key (Ok outcome.Differs) old new says c t e = let f : says ≡ said.Differs = t.0 in absurd (cc)
  invited_few nonce key (Ok outcome.Memory) old new says c t e = let f : says ≡ said.Refused refusal.Memory = t.0 in absurd (cc)

  -- what a ticket's bytes were
  ticket_next : (came : StepsOutcome (Result (List ℕ) MoveRefusal)) (step : HostStep) → outcome.Next step ≡ outcome_with_ticket came
      → came ≡ outcome.Next step
  ticket_next (outcome.Ended (Ok ticket)) step e = absurd (cc)
  ticket_next (outcome.Ended (Err why)) step e = absurd (cc)
  ticket_next (outcome.Next one) step e = cc
  ticket_next outcome.Differs step e = absurd (cc)
  ticket_next outcome.Memory step e = absurd (cc)

  ticket_bytes : (came : StepsOutcome (Result (List ℕ) MoveRefusal)) (answer : Accepted)
      → outcome.Ended (Ok answer) ≡ outcome_with_ticket came → came ≡ outcome.Ended (Ok answer.snapshot)
  ticket_bytes (outcome.Ended (Ok ticket)) answer e =
      let same : answer ≡ record { position = 0; snapshot = ticket } = cc in
      ap (λ (it : Accepted). outcome.Ended (Ok it.snapshot)) (sym same)
  ticket_bytes (outcome.Ended (Err why)) answer e = absurd (cc)
  ticket_bytes (outcome.Next one) answer e = absurd (cc)
  ticket_bytes outcome.Differs answer e = absurd (cc)
  ticket_bytes outcome.Memory answer e = absurd (cc)

  pub retired_few : (nonce offer : List ℕ) (came : Result (StepsOutcome (Result Accepted MoveRefusal)) ReturnStatus) (left : MoveState)
      → RetirementGives instance steps link nonce offer came → TellsMove came left → left.says ≡ said.Next → length steps < 2
  retired_few nonce offer (Err why) left c t e = absurd (subst IsOfPassed (sym t.says ∙ e) (no_call instance steps why c))
  retired_few nonce offer (Ok (outcome.Ended (Ok answer))) left c (inl t) e = let f : left.says ≡ said.Done = t.says in absurd (cc)
  retired_few nonce offer (Ok (outcome.Ended (Ok answer))) left c (inr t) e =
      let f : left.says ≡ said.NoRoom = t.says.says in absurd (cc)
  retired_few nonce offer (Ok (outcome.Ended (Err why))) left c t e = absurd (subst IsOfRefused (sym t.says ∙ e) (refused_move why))
  retired_few nonce offer (Ok (outcome.Next step)) left c t e =
      omega (arith, as_many steps c.made c.are_steps, c.retires.few step (ticket_next c.came step c.told_is))
  retired_few nonce offer (Ok outcome.Differs) left c t e = let f : left.says ≡ said.Differs = t.says in absurd (cc)
  retired_few nonce offer (Ok outcome.Memory) left c t e = let f : left.says ≡ said.Refused refusal.Memory = t.says in absurd (cc)

  pub accepted_few : (ticket : List ℕ) (came : Result (StepsOutcome (Result Accepted MoveRefusal)) ReturnStatus) (left : MoveState)
      → AcceptanceGives instance steps link ticket came → TellsMove came left → left.says ≡ said.Next → length steps < 2
  accepted_few ticket (Err why) left c t e = absurd (subst IsOfPassed (sym t.says ∙ e) (no_call instance steps why c))
  accepted_few ticket (Ok (outcome.Ended (Ok answer))) left c (inl t) e = let f : left.says ≡ said.Done = t.says in absurd (cc)
  accepted_few ticket (Ok (outcome.Ended (Ok answer))) left c (inr t) e = let f : left.says ≡ said.NoRoom = t.says.says in absurd (cc)
  accepted_few ticket (Ok (outcome.Ended (Err why))) left c t e = absurd (subst IsOfRefused (sym t.says ∙ e) (refused_move why))
  accepted_few ticket (Ok (outcome.Next step)) left c t e =
      omega (arith, as_many steps c.made c.are_steps, c.accepts.few step refl)
  accepted_few ticket (Ok outcome.Differs) left c t e = let f : left.says ≡ said.Differs = t.says in absurd (cc)
  accepted_few ticket (Ok outcome.Memory) left c t e = let f : left.says ≡ said.Refused refusal.Memory = t.says in absurd (cc)

  -- room

  within : (id snapshot room : ℕ) → snapshot ≤ 114 + id → room < snapshot → 4210 + id ≤ room → ⊥
  within id snapshot room most short enough = omega arith

  pub retired_enough : (nonce offer : List ℕ) (came : Result (StepsOutcome (Result Accepted MoveRefusal)) ReturnStatus)
      (left : MoveState) → RetirementGives instance steps link nonce offer came → TellsMove came left
      → room_with instance.«module» ≤ length left.old.room → left.says ≡ said.NoRoom → ⊥
  retired_enough nonce offer (Err why) left c t h e = subst IsOfPassed (sym t.says ∙ e) (no_call instance steps why c)
  retired_enough nonce offer (Ok (outcome.Ended (Ok answer))) left c (inl t) h e =
      let f : left.says ≡ said.Done = t.says in absurd (cc)
  retired_enough nonce offer (Ok (outcome.Ended (Ok answer))) left c (inr t) h e =
      within (limit_of (meaning_of c.parts.1).id) (length answer.snapshot) (length left.old.room)
      (subst (IsTicketWithin (meaning_of c.parts.1).id) (ticket_bytes c.came answer c.told_is) c.room) t.short
      (subst (λ (n : ℕ). n ≤ length left.old.room) (room_is instance.«module» c.parts.1 c.are_parts.1) h)
  retired_enough nonce offer (Ok (outcome.Ended (Err why))) left c t h e = subst IsOfRefused (sym t.says ∙ e) (refused_move why)
  retired_enough nonce offer (Ok (outcome.Next step)) left c t h e = let f : left.says ≡ said.Next = t.says in absurd (cc)
  retired_enough nonce offer (Ok outcome.Differs) left c t h e = let f : left.says ≡ said.Differs = t.says in absurd (cc)
  retired_enough nonce offer (Ok outcome.Memory) left c t h e =
      let f : left.says ≡ said.Refused refusal.Memory = t.says in absurd (cc)

  pub accepted_enough : (ticket : List ℕ) (came : Result (StepsOutcome (Result Accepted MoveRefusal)) ReturnStatus) (left : MoveState)
      → AcceptanceGives instance steps link ticket came → TellsMove came left → room_with instance.«module» ≤ length left.old.room
      → left.says ≡ said.NoRoom → ⊥
  accepted_enough ticket (Err why) left c t h e = subst IsOfPassed (sym t.says ∙ e) (no_call instance steps why c)
  accepted_enough ticket (Ok (outcome.Ended (Ok answer))) left c (inl t) h e =
      let f : left.says ≡ said.Done = t.says in absurd (cc)
  accepted_enough ticket (Ok (outcome.Ended (Ok answer))) left c (inr t) h e =
      within (limit_of (meaning_of c.parts.1).id) (length answer.snapshot) (length left.old.room) c.room t.short
      (subst (λ (n : ℕ). n ≤ length left.old.room) (room_is instance.«module» c.parts.1 c.are_parts.1) h)
  accepted_enough ticket (Ok (outcome.Ended (Err why))) left c t h e = subst IsOfRefused (sym t.says ∙ e) (refused_move why)
  accepted_enough ticket (Ok (outcome.Next step)) left c t h e = let f : left.says ≡ said.Next = t.says in absurd (cc)
  accepted_enough ticket (Ok outcome.Differs) left c t h e = let f : left.says ≡ said.Differs = t.says in absurd (cc)
  accepted_enough ticket (Ok outcome.Memory) left c t h e =
      let f : left.says ≡ said.Refused refusal.Memory = t.says in absurd (cc)
