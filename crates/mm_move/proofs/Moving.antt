-- How a move's steps join, and what the whole leaves and counts. With it: no order of refusals
-- hands on a device's fault.
use Rattle.std.specs.Prelude.{not}
use Rattle.mm_bytes.specs.Limits.{next_count}
use Rattle.mm_seal.specs.Parts.{parts_of}
use Rattle.mm_platform.specs.Standing.{Standing, ReadCell, WriteCell, StepGoes}
use Rattle.mm_platform.specs.declared.fault.StepFault.{StepFault}
use Rattle.mm_module.specs.Meaning.{Meaning}
use Rattle.mm_model.specs.declared.refusal.Refusal.TheVariants.{Device}
use Rattle.mm_call.specs.CallFinding.{CountsHandedFault, IsUntouched}
use Rattle.mm_call.specs.TellingLaws.{read_untouched, blamed, blamed_later}
use Rattle.mm_move.specs.Cells.{BytesRead, ReadsBytes, move_answer, WritesCell, MakesMoveStep, MoveGoesOn, MoveFinds, EndsAfterRead}
use Rattle.mm_move.specs.Cells.{AreMoveSteps, MoveStepsRefused, MoveStepsBy, MovePromise}
use Rattle.mm_move.specs.declared.accepting.Accepted.{Accepted}
use Rattle.mm_move.specs.declared.cell.MovedCell.TheVariants.{Live, Waiting as Waits, Retired as Left}
use Rattle.mm_move.specs.declared.inviting.Invited.{Invited}
use Rattle.mm_move.specs.declared.link.Link.{Link}
use Rattle.mm_move.specs.declared.refusal.MoveRefusal.TheVariants.{Core}
use Rattle.mm_move.specs.Orders.{invitation_in, is_same_waiting}
use Rattle.mm_move.proofs.Below.{◌≡◌, ◌≢◌, ℕ, Bool, true, false, List, Option, None, Some, Result, Ok, Err, IsErr, inl, inr, refl, sym, ap}
use Rattle.mm_move.proofs.Below.{◌∙◌, subst, ReadyMove, MoveRefusal, move_fault_of, move_fault_in, IsOrNoMemory, ◌||◌, if◌then◌else◌}
use Rattle.mm_move.proofs.Below.{bytes_eq, Digest, Variant, Cell, CellFault, Blank, Unspelled, PartsFault, Form, Kind, Content, Snapshot}
use Rattle.mm_move.proofs.Below.{tag_of, MovedCell, WaitingCell, is_barred, is_other, is_place_at, retired_cell_from, offer_by, right_offer}
use Rattle.mm_move.proofs.Below.{retirement_by, retirement_in, ticket_by, right_ticket, acceptance_by, acceptance_again_by, acceptance_in}
use Rattle.mm_move.proofs.Below.{retired_spelling, summary_in, TicketContent, TaggedTicket, ticket_tag, ticket_of}

done_by : {A : Type 0} (finds : List ℕ → Result (ReadyMove A) MoveRefusal) (old middle new : Standing) (bytes : List ℕ)
    (found : Result (ReadyMove A) MoveRefusal) (result : Result A MoveRefusal) (fault : Option StepFault)
    → StepGoes ReadCell old middle fault
    → BytesRead fault old (Ok bytes) → IsOrNoMemory (finds bytes) found → MoveGoesOn found middle new result
    → AreMoveSteps finds old new result
done_by finds old middle new bytes found result None g b f w = record {
  middle = middle;
  fault = None;
  reads = g;
  after = record { bytes = bytes; size = b.0; told = b.1; found = found; found_is = f; goes_on = w };
}
done_by finds old middle new bytes found result (Some fault) g b f w = absurd (cc)

-- a first step that was done, and the rest
pub read_done : {A : Type 0} (finds : List ℕ → Result (ReadyMove A) MoveRefusal) (old middle new : Standing) (bytes : List ℕ)
    (found : Result (ReadyMove A) MoveRefusal) (result : Result A MoveRefusal)
    → ReadsBytes old middle (Ok bytes) → IsOrNoMemory (finds bytes) found → MoveGoesOn found middle new result
    → AreMoveSteps finds old new result
read_done finds old middle new bytes found result r f w = done_by finds old middle new bytes found result r.fault r.goes r.gives f w

-- what a move leaves and counts
pub record Keeps {A : Type 0} (old new : Standing) (result : Result A MoveRefusal) : Type 0 where
  pub untouched : move_fault_in result ≡ None → IsErr result → IsUntouched old new
  pub faults : CountsHandedFault (move_fault_in result) old.faults new.faults
  pub steps : MoveStepsBy result old new

pub keeps_failed : {A : Type 0} (old new : Standing) (fault : StepFault) (result : Result A MoveRefusal)
    → StepGoes ReadCell old new (Some fault)
    → result ≡ Err (Core (Device fault)) → Keeps old new result
keeps_failed {A} old new fault result g e = subst (λ (r : Result A MoveRefusal). Keeps old new r) (sym e) (record {
  untouched = λ h _. absurd (cc);
  faults = blamed (Some fault) old new g.is_made g.ends;
  steps = inl (g.steps, g.writes);
})

keeps_refused : {A : Type 0} (old new : Standing) (why : MoveRefusal) (result : Result A MoveRefusal) → StepGoes ReadCell old new None
    → move_fault_of why ≡ None → result ≡ Err why → Keeps old new result
keeps_refused {A} old new why result g h e = subst (λ (r : Result A MoveRefusal). Keeps old new r) (sym e) (record {
  untouched = λ _ _. read_untouched old new g;
  faults = subst (λ (f : Option StepFault). CountsHandedFault f old.faults new.faults) (sym h) g.ends.faults;
  steps = subst (λ (f : Option StepFault). MoveStepsRefused f old new) (sym h) (g.steps, g.writes);
})

keeps_answered : {A : Type 0} (old new : Standing) (answer : A) (result : Result A MoveRefusal) → StepGoes ReadCell old new None
    → result ≡ Ok answer → Keeps old new result
keeps_answered {A} old new answer result g e = subst (λ (r : Result A MoveRefusal). Keeps old new r) (sym e) (record {
  untouched = λ _ (is : false ≡ true). absurd (cc);
  faults = g.ends.faults;
  steps = inl (g.steps, g.writes);
})

keeps_written : {A : Type 0} (old middle new : Standing) (next : List ℕ) (answer : A) (result : Result A MoveRefusal)
    (fault : Option StepFault) → StepGoes ReadCell old middle None → StepGoes (WriteCell next) middle new fault
    → result ≡ move_answer answer fault
    → Keeps old new result
keeps_written {A} old middle new next answer result None g w e = subst (λ (r : Result A MoveRefusal). Keeps old new r) (sym e) (record {
  untouched = λ _ (is : false ≡ true). absurd (cc);
  faults = w.ends.faults ∙ g.ends.faults;
  steps = inr (w.steps ∙ ap next_count g.steps, w.writes ∙ ap next_count g.writes);
})
keeps_written {A} old middle new next answer result (Some fault) g w e =
    subst (λ (r : Result A MoveRefusal). Keeps old new r) (sym e) (record {
      untouched = λ h _. absurd (cc);
      faults = blamed_later (Some fault) old.faults middle.faults new.faults g.ends.faults
          (blamed (Some fault) middle new w.is_made w.ends);
      steps = inr (w.steps ∙ ap next_count g.steps, w.writes ∙ ap next_count g.writes);
    })

keeps_made : {A : Type 0} (old middle new : Standing) (next : Option (List ℕ)) (answer : A) (result : Result A MoveRefusal)
    → StepGoes ReadCell old middle None → MakesMoveStep next answer middle new result → Keeps old new result
keeps_made {A} old middle new None answer result g m =
    subst (λ (s : Standing). Keeps old s result) (sym m.0) (keeps_answered old middle answer result g m.1)
keeps_made {A} old middle new (Some next) answer result g m = keeps_written old middle new next answer result m.fault g m.goes m.gives

pub keeps_on : {A : Type 0} (old middle new : Standing) (found : Result (ReadyMove A) MoveRefusal) (result : Result A MoveRefusal)
    → StepGoes ReadCell old middle None → move_fault_in found ≡ None → MoveGoesOn found middle new result → Keeps old new result
keeps_on {A} old middle new (Err why) result g h w =
    subst (λ (s : Standing). Keeps old s result) (sym w.0) (keeps_refused old middle why result g h w.1)
keeps_on old middle new (Ok ready) result g h w = keeps_made old middle new ready.next ready.answer result g w

pub no_fault_or : {A : Type 0} (finds found : Result A MoveRefusal) → move_fault_in finds ≡ None → IsOrNoMemory finds found
    → move_fault_in found ≡ None
no_fault_or {A} (Err why) found h o = ap (λ (r : Result A MoveRefusal). move_fault_in r) o ∙ h
no_fault_or {A} (Ok it) found h (inl e) = ap (λ (r : Result A MoveRefusal). move_fault_in r) e
no_fault_or {A} (Ok it) found h (inr e) = ap (λ (r : Result A MoveRefusal). move_fault_in r) e

keeps_after : {A : Type 0} (finds : List ℕ → Result (ReadyMove A) MoveRefusal) → ((bytes : List ℕ) → move_fault_in (finds bytes) ≡ None)
    → (old middle new : Standing) (result : Result A MoveRefusal) (fault : Option StepFault) → StepGoes ReadCell old middle fault
    → EndsAfterRead finds fault old middle new result → Keeps old new result
keeps_after finds none old middle new result None g a =
    keeps_on old middle new a.found result g (no_fault_or (finds a.bytes) a.found (none a.bytes) a.found_is) a.goes_on
keeps_after finds none old middle new result (Some fault) g a =
    subst (λ (s : Standing). Keeps old s result) (sym a.0) (keeps_failed old middle fault result g a.1)

-- a move by what is found keeps what every move keeps
pub moved_as : {A : Type 0} (finds : List ℕ → Result (ReadyMove A) MoveRefusal) → ((bytes : List ℕ) → move_fault_in (finds bytes) ≡ None)
    → (old new : Standing) (result : Result A MoveRefusal) → AreMoveSteps finds old new result → MovePromise finds old new result
moved_as finds none old new result m =
    let k = keeps_after finds none old m.middle new result m.fault m.reads m.after in
    record { moves = m; untouched = k.untouched; faults = k.faults; steps = k.steps }

-- No order of refusals hands on a device's fault.

-- both branches of a refusal
no_fault_if : {A : Type 0} (P : Result A MoveRefusal → Type 0) (test : Bool) (refused rest : Result A MoveRefusal) → P refused → P rest
    → P (if test then refused else rest)
no_fault_if P true refused rest h k = h
no_fault_if P false refused rest h k = k

abbrev Lacks : (A : Type 0) → Result A MoveRefusal → Type 0
Lacks A r = move_fault_in r ≡ None

pub invites_no_fault : (next : WaitingCell) (read : Result MovedCell CellFault) → move_fault_in (invitation_in next read) ≡ None
invites_no_fault next (Ok (Waits cell)) = no_fault_if (Lacks (ReadyMove Invited)) (not (is_same_waiting cell next)) _ _ refl refl
invites_no_fault next (Ok _) = refl
invites_no_fault next (Err Blank) = refl
invites_no_fault next (Err _) = refl

offer_no_fault : (meaning : Meaning) (key : List ℕ) (parts : Result Snapshot PartsFault) → move_fault_in (offer_by meaning key parts) ≡ None
offer_no_fault meaning key (Ok offered) =
    no_fault_if (Lacks Content) (not (meaning.is_spelled offered.content.state)) _ _ refl
    (no_fault_if (Lacks Content) (not (bytes_eq offered.tag (tag_of key offered.content))) _ _ refl refl)
offer_no_fault meaning key (Err Form) = refl
offer_no_fault meaning key _ = refl

leaves_no_fault : (variant : Variant) (link : Link) (nonce : List ℕ) (summary : Digest) (next : Option (List ℕ)) (offered : Result Content
    MoveRefusal) → move_fault_in offered ≡ None → move_fault_in (retirement_by variant link nonce summary next offered) ≡ None
leaves_no_fault variant link nonce summary next (Err why) h = h
leaves_no_fault variant link nonce summary next (Ok offered) h =
    no_fault_if (Lacks (ReadyMove (List ℕ))) (not (is_place_at summary offered.place)) _ _ refl refl

arrives_no_fault : (cell : WaitingCell) (ticket : Result TicketContent MoveRefusal) → move_fault_in ticket ≡ None
    → move_fault_in (acceptance_by cell ticket) ≡ None
arrives_no_fault cell (Err why) h = h
arrives_no_fault cell (Ok ticket) h = no_fault_if (Lacks (ReadyMove Accepted)) (not (bytes_eq ticket.nonce cell.nonce)) _ _ refl refl

has_arrived_no_fault : (cell : Cell) (ticket : Result TicketContent MoveRefusal) → move_fault_in ticket ≡ None
    → move_fault_in (acceptance_again_by cell ticket) ≡ None
has_arrived_no_fault cell (Err why) h = h
has_arrived_no_fault cell (Ok ticket) h =
    no_fault_if (Lacks (ReadyMove Accepted)) (cell.flag || not (bytes_eq (summary_in ticket.content.place).bytes cell.summary.bytes))
    _ _ refl refl

module _ (meaning : Meaning) where
  pub retires_no_fault : (variant : Variant) (link : Link) (nonce offer : List ℕ) (read : Result MovedCell CellFault)
      → move_fault_in (retirement_in meaning variant link nonce offer read) ≡ None
  retires_no_fault variant link nonce offer (Ok (Live cell)) =
      no_fault_if (Lacks (ReadyMove (List ℕ))) (is_other variant meaning.id cell.variant cell.module) _ _ refl
      (no_fault_if (Lacks (ReadyMove (List ℕ))) (is_barred variant cell.barrier link) _ _ refl
      (no_fault_if (Lacks (ReadyMove (List ℕ))) cell.flag _
      _ refl (leaves_no_fault variant link nonce cell.summary (Some (retired_spelling (retired_cell_from cell nonce)))
      (right_offer meaning variant cell.key offer) (offer_no_fault meaning cell.key (parts_of variant meaning.id offer)))))
  retires_no_fault variant link nonce offer (Ok (Left cell)) =
      no_fault_if (Lacks (ReadyMove (List ℕ))) (is_other variant meaning.id cell.variant cell.module) _ _ refl
      (no_fault_if (Lacks (ReadyMove (List ℕ))) (not (bytes_eq cell.nonce nonce)) _ _ refl
      (leaves_no_fault variant link nonce cell.summary None
      (right_offer meaning variant cell.key offer) (offer_no_fault meaning cell.key (parts_of variant meaning.id offer))))
  retires_no_fault variant link nonce offer (Err Blank) = refl
  retires_no_fault variant link nonce offer _ = refl

  ticket_no_fault : (key : List ℕ) (read : Result TaggedTicket PartsFault) → move_fault_in (ticket_by meaning key read) ≡ None
  ticket_no_fault key (Ok offered) =
      no_fault_if (Lacks TicketContent) (not (meaning.is_spelled offered.ticket.content.state)) _ _ refl
      (no_fault_if (Lacks TicketContent) (not (bytes_eq offered.tag (ticket_tag key offered.ticket))) _ _ refl refl)
  ticket_no_fault key (Err Form) = refl
  ticket_no_fault key _ = refl

  pub accepts_no_fault : (variant : Variant) (link : Link) (ticket : List ℕ) (read : Result MovedCell CellFault)
      → move_fault_in (acceptance_in meaning variant link ticket read) ≡ None
  accepts_no_fault variant link ticket (Ok (Waits cell)) =
      no_fault_if (Lacks (ReadyMove Accepted)) (is_other variant meaning.id cell.variant cell.module) _ _ refl
      (no_fault_if (Lacks (ReadyMove Accepted)) (is_barred variant cell.barrier link) _ _ refl (arrives_no_fault cell
      (right_ticket meaning variant link.key ticket) (ticket_no_fault link.key (ticket_of variant meaning.id ticket))))
  accepts_no_fault variant link ticket (Ok (Live cell)) =
      no_fault_if (Lacks (ReadyMove Accepted)) (is_other variant meaning.id cell.variant cell.module) _ _ refl
      (no_fault_if (Lacks (ReadyMove Accepted)) (is_barred variant cell.barrier link) _ _ refl (has_arrived_no_fault cell
      (right_ticket meaning variant link.key ticket) (ticket_no_fault link.key (ticket_of variant meaning.id ticket))))
  accepts_no_fault variant link ticket (Err Blank) = refl
  accepts_no_fault variant link ticket _ = refl
