-- How long a ticket and a snapshot are that a move gives. With it: what a move tells, by what was
-- found.
use Rattle.std.specs.Prelude.{◌==◌, Option, None, Some, Result, Ok, Err, not, if◌then◌else◌, slice_index, ◌≢◌}
use Rattle.std.specs.Str.{bytes_eq}
use Rattle.std.proofs.Common.{◌≡◌, ◌∙◌, ℕ, ◌+◌, ◌-◌, ◌≤◌, Bool, true, false, ◌||◌, List, [], ◌∷◌, length, length-append, length-drop}
use Rattle.std.proofs.Common.{length-take, drop, refl, ap, subst, inl, inr, arith, ◌++◌, take, get_or}
use Rattle.std.proofs.lemmas.List.{take_all}
use Rattle.mm_bytes.specs.DecimalLaws.{length-eight_bytes, length-four_bytes}
use Rattle.mm_bytes.specs.Limits.{cell_length, limit_of}
use Rattle.mm_digest.specs.LengthLaws.{length-hmac_of}
use Rattle.mm_digest.specs.declared.digest.Digest.{Digest}
use Rattle.mm_digest.specs.declared.variant.Variant.{Variant}
use Rattle.mm_digest.specs.declared.variant.Variant.TheVariants as variants
use Rattle.mm_seal.specs.Cell.{blank_cell}
use Rattle.mm_seal.specs.FieldLaws.{spells_read}
use Rattle.mm_seal.specs.Parts.{parts_of}
use Rattle.mm_seal.specs.Snapshot.{Content, IsContent, Snapshot, sealed_snapshot_of, tag_of}
use Rattle.mm_seal.specs.declared.cell.Cell.{Cell}
use Rattle.mm_seal.specs.declared.cell.CellFault.{CellFault}
use Rattle.mm_seal.specs.declared.cell.CellFault.TheVariants.{Blank, Cell as Unspelled}
use Rattle.mm_seal.specs.declared.snapshot.PartsFault.{PartsFault}
use Rattle.mm_seal.specs.declared.snapshot.PartsFault.TheVariants.{Form, Kind}
use Rattle.mm_platform.specs.Standing.{ReadCell, WriteCell}
use Rattle.mm_platform.specs.declared.fault.StepFault.{StepFault}
use Rattle.mm_module.specs.Meaning.{Meaning}
use Rattle.mm_model.specs.declared.refusal.Refusal.TheVariants.{Device}
use Rattle.mm_move.specs.Cells.{live_cell_in, moved_cell_in, moved_cell_of, is_spelled_by, retired_cell_in, retired_spelling}
use Rattle.mm_move.specs.Cells.{waiting_cell_in, part, IsOrNoMemory, move_answer}
use Rattle.mm_move.specs.Orders.{acceptance_again_by, acceptance_by, acceptance_in, is_barred, is_other, is_place_at, offer_by}
use Rattle.mm_move.specs.Orders.{retired_cell_from, retirement_by, retirement_in, right_offer, right_ticket, ticket_by, ticket_for}
use Rattle.mm_move.specs.Tickets.{TaggedTicket, TicketContent, place_at, sealed_ticket, signed_bytes, summary_in, ticket_front, ticket_of}
use Rattle.mm_move.specs.Tickets.{ticket_tag}
use Rattle.mm_move.specs.declared.accepting.Accepted.{Accepted}
use Rattle.mm_move.specs.declared.cell.MovedCell.{MovedCell}
use Rattle.mm_move.specs.declared.cell.MovedCell.TheVariants.{Live, Waiting as Waits, Retired as Left}
use Rattle.mm_move.specs.declared.cell.WaitingCell.{WaitingCell}
use Rattle.mm_move.specs.declared.link.Link.{Link}
use Rattle.mm_move.specs.declared.ready.ReadyMove.{ReadyMove}
use Rattle.mm_move.specs.declared.refusal.MoveRefusal.{MoveRefusal}
use Rattle.mm_move.specs.declared.refusal.MoveRefusal.TheVariants.{Core}
use Rattle.mm_move.proofs.Above.{tickets_are_read}
use Rattle.mm_told.specs.CallPath.{TellsOutcome, fault_of_answer, made_act}
use Rattle.mm_told.specs.declared.outcome.StepsOutcome.{StepsOutcome}
use Rattle.mm_told.specs.declared.outcome.StepsOutcome.TheVariants as outcome
use Rattle.mm_told.specs.declared.step.MadeStep.{MadeStep}
use Rattle.mm_told.specs.declared.step.MadeStep.TheVariants as made
use Rattle.mm_told.proofs.Above.{sealed_most}
use Rattle.mm_told_moves.specs.declared.finding.FoundMove.{FoundMove}
use Rattle.mm_told_moves.specs.ToldMovePromise.{FindingEndsWith, MoveEndsWith, ReadyEndsWith, move_protocol, IsSnapshotWithin}
use Rattle.mm_told_moves.specs.ToldMovePromise.{IsTicketWithin, acceptance_finds, retirement_finds, IsFoundMove, IsFoundOutcome}
use Rattle.mm_told_moves.specs.ToldMovePromise.{IsReadyOutcome, IsWriteOutcome, ended_outcome, outcome_if_over, wants_memory}

-- what all have that may be found, where nothing refuses it
module _ {A : Type 0} (P : A → Type 0) where
  abbrev OkHas : {R : Type 0} → Result A R → Type 0
  OkHas (Ok it) = P it
  OkHas (Err why) = Unit {0}

has_if : {A R : Type 0} (P : A → Type 0) (test : Bool) (refused rest : Result A R) → OkHas P refused → (test ≡ false → OkHas P rest)
    → OkHas P (if test then refused else rest)
has_if P true refused rest h k = h
has_if P false refused rest h k = k refl

abbrev AnswerHas : {A : Type 0} → (A → Type 0) → Result (ReadyMove A) MoveRefusal → Type 0
AnswerHas P found = OkHas (λ (ready : ReadyMove _). P ready.answer) found

or_has : {A : Type 0} (P : A → Type 0) (finds found : Result (ReadyMove A) MoveRefusal) → AnswerHas P finds → IsOrNoMemory finds found
    → AnswerHas P found
or_has P (Err why) found h o = rw o tt
or_has P (Ok it) found h (inl e) = rw e h
or_has P (Ok it) found h (inr e) = rw e tt

given_has : {A : Type 0} (P : A → Type 0) (given : A) (answer : A) (fault : Option StepFault) → P answer
    → Ok given ≡ move_answer answer fault → P given
given_has P given answer None h e = let same : answer ≡ given = cc in subst P same h
given_has P given answer (Some fault) h e = absurd (cc)

ready_has : {A : Type 0} (P : A → Type 0) (next : Option (List ℕ)) (answer given : A) (more : List MadeStep) → P answer
    → ReadyEndsWith next answer more (Ok given) → P given
ready_has P None answer given [] h e = let same : answer ≡ given = cc in subst P same h
ready_has P None answer given (it ∷ more) h e = absurd e
ready_has P (Some next) answer given [] h e = absurd e
ready_has P (Some next) answer given (it ∷ []) h e = given_has P given answer _ h e.1
ready_has P (Some next) answer given (it ∷ one ∷ more) h e = absurd e

found_has : {A : Type 0} (P : A → Type 0) (found : Result (ReadyMove A) MoveRefusal) (given : A) (more : List MadeStep)
    → AnswerHas P found → FindingEndsWith found more (Ok given) → P given
found_has P (Ok ready) given more h e = ready_has P ready.next ready.answer given more h e
found_has P (Err why) given [] h e = absurd (cc)
found_has P (Err why) given (it ∷ more) h e = absurd e

-- so has what is given at the end
given_at_end : {A : Type 0} (P : A → Type 0) (finds : List ℕ → Result (ReadyMove A) MoveRefusal)
    → ((bytes : List ℕ) → length bytes ≡ cell_length → AnswerHas P (finds bytes)) → (steps : List MadeStep) (given : A)
    → MoveEndsWith finds steps (Ok given) → P given
given_at_end P finds has (made.ReadCell (Ok bytes) ∷ more) given e =
    found_has P e.found given more (or_has P (finds bytes) e.found (has bytes e.size) e.found_is) e.ends
given_at_end P finds has (made.ReadCell (Err fault) ∷ []) given e = absurd (cc)
given_at_end P finds has _ given e = absurd e

-- what a cell has that was read
length-part : (at : ℕ) (bytes : List ℕ) → at + 32 ≤ length bytes → length (part at bytes) ≡ 32
length-part at bytes h = omega (arith, length-take (at + 32 - at) (drop at bytes), length-drop at bytes)

abbrev SummaryIs : MovedCell → Type 0
SummaryIs (Live cell) = length cell.summary.bytes ≡ 32
SummaryIs (Left cell) = length cell.summary.bytes ≡ 32
SummaryIs (Waits cell) = Unit {0}

summary_by : (bytes : List ℕ) (blank spelled waits left : Bool) → length bytes ≡ cell_length
    → OkHas SummaryIs (if blank then Err Blank else (if spelled then Ok (if waits then Waits (waiting_cell_in bytes) else (if left
    then Left (retired_cell_in bytes) else Live (live_cell_in bytes))) else Err Unspelled))
summary_by bytes true spelled waits left size = tt
summary_by bytes false false waits left size = tt
summary_by bytes false true true left size = tt
summary_by bytes false true false true size = length-part 8 bytes (omega (arith, size))
summary_by bytes false true false false size = length-part 8 bytes (omega (arith, size))

summary_read : (bytes : List ℕ) → length bytes ≡ cell_length → OkHas SummaryIs (moved_cell_of bytes)
unfolding moved_cell_of
summary_read bytes size =
    summary_by bytes (bytes_eq bytes blank_cell) (is_spelled_by bytes (moved_cell_in bytes)) (slice_index bytes 2 == 0x57)
    (slice_index bytes 2 == 0x58) size

-- a ticket

length-at : (variant : Variant) (summary : Digest) → (summary_in (place_at variant summary)).bytes ≡ summary.bytes
length-at variants.Basic summary = refl
length-at variants.Opt summary = refl

length-front : (ticket : TicketContent) → length ticket.nonce ≡ 32 → length (summary_in ticket.content.place).bytes ≡ 32
    → length (ticket_front ticket) ≡ 82
unfolding ticket_front
length-front ticket nonce summary =
    simp length-append (omega (
      arith,
      nonce,
      summary,
      length-eight_bytes ticket.content.position,
      length-four_bytes (length ticket.content.state),
    ))

ticket_most : (key : List ℕ) (ticket : TicketContent) (limit : ℕ) → length ticket.nonce ≡ 32
    → length (summary_in ticket.content.place).bytes ≡ 32 → length ticket.content.state ≤ limit
    → length (sealed_ticket key ticket) ≤ 114 + limit
unfolding sealed_ticket
ticket_most key ticket limit nonce summary state =
    omega (
      arith,
      length-append (signed_bytes ticket) (ticket_tag key ticket),
      length-append (ticket_front ticket) ticket.content.state,
      length-front ticket nonce summary,
      length-hmac_of key (signed_bytes ticket),
      state,
    )

module _ (meaning : Meaning) where
  abbrev ContentFits : Content → Type 0
  ContentFits content = length content.state ≤ limit_of meaning.id

  offer_fits : (variant : Variant) (key offer : List ℕ) (parts : Result Snapshot PartsFault) → parts_of variant meaning.id offer ≡ parts
      → OkHas ContentFits (offer_by meaning key parts)
  offer_fits variant key offer (Err Form) e = tt
  offer_fits variant key offer (Err Kind) e = tt
  offer_fits variant key offer (Ok offered) e =
      has_if ContentFits (not (meaning.is_spelled offered.content.state)) _ _ tt
      (λ _. has_if ContentFits (not (bytes_eq offered.tag (tag_of key offered.content))) _ _ tt
      (λ _. let s = spells_read variant meaning.id offer offered e in
      subst (λ (id : ℕ). length offered.content.state ≤ limit_of id) s.1.1 s.0.0.content.state))

  abbrev IsShort : List ℕ → Type 0
  IsShort ticket = length ticket ≤ 114 + limit_of meaning.id

  leaves_short : (variant : Variant) (link : Link) (nonce : List ℕ) (summary : Digest) (next : Option (List ℕ))
      (offered : Result Content MoveRefusal) → length nonce ≡ 32 → length summary.bytes ≡ 32 → OkHas ContentFits offered
      → AnswerHas IsShort (retirement_by variant link nonce summary next offered)
  leaves_short variant link nonce summary next (Err why) n s h = tt
  leaves_short variant link nonce summary next (Ok offered) n s h =
      has_if (λ (ready : ReadyMove (List ℕ)). IsShort ready.answer) (not (is_place_at summary offered.place)) _ _ tt
      (λ _. ticket_most link.key (ticket_for variant nonce summary offered) (limit_of meaning.id) n
      (ap length (length-at variant summary) ∙ s) h)

  retires_short : (variant : Variant) (link : Link) (nonce offer : List ℕ) (read : Result MovedCell CellFault) → length nonce ≡ 32
      → OkHas SummaryIs read → AnswerHas IsShort (retirement_in meaning variant link nonce offer read)
  retires_short variant link nonce offer (Ok (Live cell)) n s =
      has_if (λ (ready : ReadyMove (List ℕ)). IsShort ready.answer) (is_other variant meaning.id cell.variant cell.module) _ _ tt
      (λ _. has_if (λ (ready : ReadyMove (List ℕ)). IsShort ready.answer) (is_barred variant cell.barrier link) _ _ tt
      (λ _. has_if (λ (ready : ReadyMove (List ℕ)). IsShort ready.answer) cell.flag _ _ tt
      (λ _. leaves_short variant link nonce cell.summary (Some (retired_spelling (retired_cell_from cell nonce)))
      (right_offer meaning variant cell.key offer) n s (offer_fits variant cell.key offer (parts_of variant meaning.id offer) refl))))
  retires_short variant link nonce offer (Ok (Left cell)) n s =
      has_if (λ (ready : ReadyMove (List ℕ)). IsShort ready.answer) (is_other variant meaning.id cell.variant cell.module) _ _ tt
      (λ _. has_if (λ (ready : ReadyMove (List ℕ)). IsShort ready.answer) (not (bytes_eq cell.nonce nonce)) _ _ tt
      (λ _. leaves_short variant link nonce cell.summary None (right_offer meaning variant cell.key offer) n s
      (offer_fits variant cell.key offer (parts_of variant meaning.id offer) refl)))
  retires_short variant link nonce offer (Ok (Waits cell)) n s = tt
  retires_short variant link nonce offer (Err Blank) n s = tt
  retires_short variant link nonce offer (Err Unspelled) n s = tt

  pub ticket_within : (variant : Variant) (link : Link) (nonce offer : List ℕ) (steps : List MadeStep)
      (came : StepsOutcome (Result (List ℕ) MoveRefusal)) → length nonce ≡ 32
      → TellsOutcome (move_protocol (retirement_finds meaning variant link nonce offer)) (λ given. given) steps came
      → IsTicketWithin meaning.id came
  ticket_within variant link nonce offer steps (outcome.Ended (Ok ticket)) n t =
      given_at_end IsShort (retirement_finds meaning variant link nonce offer)
      (λ bytes size. retires_short variant link nonce offer (moved_cell_of bytes) n (summary_read bytes size)) steps ticket t
  ticket_within variant link nonce offer steps (outcome.Ended (Err why)) n t = tt
  ticket_within variant link nonce offer steps (outcome.Next step) n t = tt
  ticket_within variant link nonce offer steps outcome.Differs n t = tt
  ticket_within variant link nonce offer steps outcome.Memory n t = tt

  -- a snapshot

  pub record IsOurs (ticket : TicketContent) : Type 0 where
    pub content : IsContent ticket.content
    pub id : ticket.content.id ≡ meaning.id

  ticket_ours : (variant : Variant) (key bytes : List ℕ) (read : Result TaggedTicket PartsFault) → ticket_of variant meaning.id bytes ≡ read
      → OkHas IsOurs (ticket_by meaning key read)
  ticket_ours variant key bytes (Err Form) e = tt
  ticket_ours variant key bytes (Err Kind) e = tt
  ticket_ours variant key bytes (Ok offered) e =
      has_if IsOurs (not (meaning.is_spelled offered.ticket.content.state)) _ _ tt
      (λ _. has_if IsOurs (not (bytes_eq offered.tag (ticket_tag key offered.ticket))) _ _ tt
      (λ _. let s = (tickets_are_read variant meaning.id bytes offered).0 e in
      record { content = s.is.ticket.content; id = s.id_is }))

  abbrev IsSmall : Accepted → Type 0
  IsSmall accepted = length accepted.snapshot ≤ 114 + limit_of meaning.id

  sealed_small : (key : List ℕ) (ticket : TicketContent) → IsOurs ticket
      → length (sealed_snapshot_of key ticket.content) ≤ 114 + limit_of meaning.id
  sealed_small key ticket is =
      subst (λ (id : ℕ). length (sealed_snapshot_of key ticket.content) ≤ 114 + limit_of id) is.id
      (sealed_most key ticket.content is.content)

  arrives_small : (cell : WaitingCell) (ticket : Result TicketContent MoveRefusal) → OkHas IsOurs ticket
      → AnswerHas IsSmall (acceptance_by cell ticket)
  arrives_small cell (Err why) h = tt
  arrives_small cell (Ok ticket) h =
      has_if (λ (ready : ReadyMove Accepted). IsSmall ready.answer) (not (bytes_eq ticket.nonce cell.nonce)) _ _ tt
      (λ _. sealed_small cell.key ticket h)

  arrived_small : (cell : Cell) (ticket : Result TicketContent MoveRefusal) → OkHas IsOurs ticket
      → AnswerHas IsSmall (acceptance_again_by cell ticket)
  arrived_small cell (Err why) h = tt
  arrived_small cell (Ok ticket) h =
      has_if (λ (ready : ReadyMove Accepted). IsSmall ready.answer)
      (cell.flag || not (bytes_eq (summary_in ticket.content.place).bytes cell.summary.bytes)) _ _ tt
      (λ _. sealed_small cell.key ticket h)

  accepts_small : (variant : Variant) (link : Link) (ticket : List ℕ) (read : Result MovedCell CellFault)
      → AnswerHas IsSmall (acceptance_in meaning variant link ticket read)
  accepts_small variant link ticket (Ok (Waits cell)) =
      has_if (λ (ready : ReadyMove Accepted). IsSmall ready.answer) (is_other variant meaning.id cell.variant cell.module) _ _ tt
      (λ _. has_if (λ (ready : ReadyMove Accepted). IsSmall ready.answer) (is_barred variant cell.barrier link) _ _ tt
      (λ _. arrives_small cell (right_ticket meaning variant link.key ticket)
      (ticket_ours variant link.key ticket (ticket_of variant meaning.id ticket) refl)))
  accepts_small variant link ticket (Ok (Live cell)) =
      has_if (λ (ready : ReadyMove Accepted). IsSmall ready.answer) (is_other variant meaning.id cell.variant cell.module) _ _ tt
      (λ _. has_if (λ (ready : ReadyMove Accepted). IsSmall ready.answer) (is_barred variant cell.barrier link) _ _ tt
      (λ _. arrived_small cell (right_ticket meaning variant link.key ticket)
      (ticket_ours variant link.key ticket (ticket_of variant meaning.id ticket) refl)))
  accepts_small variant link ticket (Ok (Left cell)) = tt
  accepts_small variant link ticket (Err Blank) = tt
  accepts_small variant link ticket (Err Unspelled) = tt

  pub snapshot_within : (variant : Variant) (link : Link) (ticket : List ℕ) (steps : List MadeStep)
      (came : StepsOutcome (Result Accepted MoveRefusal))
      → TellsOutcome (move_protocol (acceptance_finds meaning variant link ticket)) (λ given. given) steps came
      → IsSnapshotWithin meaning.id came
  snapshot_within variant link ticket steps (outcome.Ended (Ok accepted)) t =
      given_at_end IsSmall (acceptance_finds meaning variant link ticket)
      (λ bytes size. accepts_small variant link ticket (moved_cell_of bytes)) steps accepted t
  snapshot_within variant link ticket steps (outcome.Ended (Err why)) t = tt
  snapshot_within variant link ticket steps (outcome.Next step) t = tt
  snapshot_within variant link ticket steps outcome.Differs t = tt
  snapshot_within variant link ticket steps outcome.Memory t = tt

-- What a move tells, by what was found.

module _ {A : Type 0} (finds : List ℕ → Result (ReadyMove A) MoveRefusal) where
  abbrev Tells : List MadeStep → StepsOutcome (Result A MoveRefusal) → Type 0
  Tells steps came = TellsOutcome (move_protocol finds) (λ given. given) steps came

  -- it ended with the front ones, and more were made
  over : (front : List MadeStep) (it : MadeStep) (rest : List MadeStep) (given : Result A MoveRefusal) (lacking : Bool)
      → (move_protocol finds).gives front given → wants_memory given ≡ lacking → Tells (front ++ it ∷ rest) (outcome_if_over lacking)
  over front it rest given false gives lacks = record {
    front = front;
    it = it;
    rest = rest;
    are = refl;
    other = inr (record { given = given; gives = gives; lacks = lacks });
  }
  over front it rest given true gives lacks =
      record { front = front; rest = it ∷ rest; are = refl; over = record { given = given; gives = gives; lacks = lacks } }

  -- the first step failed
  pub read_failed : (fault : StepFault) (more : List MadeStep)
      → Tells (made.ReadCell (Err fault) ∷ more) (ended_outcome (Err (Core (Device fault))) more)
  read_failed fault [] = refl
  read_failed fault (it ∷ rest) = over (made.ReadCell (Err fault) ∷ []) it rest (Err (Core (Device fault))) false refl refl

  -- the first step was another
  read_other : (it : MadeStep) (more : List MadeStep) → made_act it ≢ ReadCell → Tells (it ∷ more) outcome.Differs
  read_other it more other = record {
    front = [];
    it = it;
    rest = more;
    are = refl;
    other = inl (record { act = ReadCell; next = refl; other = other });
  }

  pub read_none : (first : MadeStep) (more : List MadeStep)
      → ((answer : Result (List ℕ) StepFault) → first ≡ made.ReadCell answer → ⊥) → Tells (first ∷ more) outcome.Differs
  read_none (made.ReadCell answer) more none = absurd (none answer refl)
  read_none (made.WriteCell bytes answer) more none = read_other (made.WriteCell bytes answer) more (λ e. absurd (cc))
  read_none (made.ReadRegister answer) more none = read_other (made.ReadRegister answer) more (λ e. absurd (cc))
  read_none (made.ResetRegister answer) more none = read_other (made.ResetRegister answer) more (λ e. absurd (cc))
  read_none (made.ExtendRegister value answer) more none = read_other (made.ExtendRegister value answer) more (λ e. absurd (cc))

  module _ (bytes : List ℕ) (size : length bytes ≡ cell_length) where
    abbrev Read : MadeStep
    Read = made.ReadCell (Ok bytes)

    -- it ends with what was read
    ends_at_read : (found : Result (ReadyMove A) MoveRefusal) (given : Result A MoveRefusal) (more : List MadeStep)
        → IsOrNoMemory (finds bytes) found → FindingEndsWith found [] given → Tells (Read ∷ more) (ended_outcome given more)
    ends_at_read found given [] f e = record { size = size; found = found; found_is = f; ends = e }
    ends_at_read found given (it ∷ rest) f e =
        over (Read ∷ []) it rest given (wants_memory given) (record { size = size; found = found; found_is = f; ends = e }) refl

    -- it ends with the cell's write
    ends_at_write : (next : List ℕ) (answer : A) (it : MadeStep) (more : List MadeStep)
        → IsOrNoMemory (finds bytes) (Ok (record { next = Some next; answer = answer })) → made_act it ≡ WriteCell next
        → Tells (Read ∷ it ∷ more) (ended_outcome (move_answer answer (fault_of_answer it)) more)
    ends_at_write next answer it [] f same = record {
      size = size;
      found = Ok (record { next = Some next; answer = answer });
      found_is = f;
      ends = (same, refl);
    }
    ends_at_write next answer it (one ∷ rest) f same =
        over (Read ∷ it ∷ []) one rest (move_answer answer (fault_of_answer it))
        (wants_memory (move_answer answer (fault_of_answer it))) (record {
          size = size;
          found = Ok (record { next = Some next; answer = answer });
          found_is = f;
          ends = (same, refl);
        }) refl

    writes : (next : List ℕ) (answer : A) (more : List MadeStep) (came : StepsOutcome (Result A MoveRefusal))
        → IsOrNoMemory (finds bytes) (Ok (record { next = Some next; answer = answer })) → IsWriteOutcome next answer more came
        → Tells (Read ∷ more) came
    writes next answer [] came f c = rw c (record {
      size = size;
      found = Ok (record { next = Some next; answer = answer });
      found_is = f;
      makes = record { next = next; next_is = refl; act_is = refl };
    })
    writes next answer (it ∷ more) came f (inl c) = rw c.1 (record {
      front = Read ∷ [];
      it = it;
      rest = more;
      are = refl;
      other = inl (record {
        act = WriteCell next;
        next = record {
          size = size;
          found = Ok (record { next = Some next; answer = answer });
          found_is = f;
          makes = record { next = next; next_is = refl; act_is = refl };
        };
        other = c.0;
      });
    })
    writes next answer (it ∷ more) came f (inr c) = rw c.1 (ends_at_write next answer it more f c.0)

    by_next : (next : Option (List ℕ)) (answer : A) (more : List MadeStep) (came : StepsOutcome (Result A MoveRefusal))
        → IsOrNoMemory (finds bytes) (Ok (record { next = next; answer = answer })) → IsReadyOutcome next answer more came
        → Tells (Read ∷ more) came
    by_next None answer more came f c = rw c (ends_at_read (Ok (record { next = None; answer = answer })) (Ok answer) more f refl)
    by_next (Some next) answer more came f c = writes next answer more came f c

    pub read_found : (found : Result (FoundMove A) MoveRefusal) (more : List MadeStep) (came : StepsOutcome (Result A MoveRefusal))
        → IsFoundMove (finds bytes) found → IsFoundOutcome found more came → Tells (Read ∷ more) came
    read_found (Ok found) more came f c = by_next found.next found.answer more came f c
    read_found (Err why) more came f c = rw c (ends_at_read (Err why) (Err why) more f refl)

  -- the same, as a slice has the steps
  pub slice_tells : (steps more : List MadeStep) (default : MadeStep) (n : ℕ) (came : StepsOutcome (Result A MoveRefusal))
      → 1 ≤ length steps → n ≡ length steps - 1 → more ≡ take n (drop 1 steps) → Tells (get_or steps 0 default ∷ more) came
      → Tells steps came
  slice_tells [] more default n came some counts e t = absurd (omega (arith, some))
  slice_tells (it ∷ rest) more default n came some counts e t =
      subst (λ (xs : List MadeStep). Tells (it ∷ xs) came) (e ∙ take_all n rest (omega (arith, counts))) t
