-- Where the module lives; and what an acceptance that is answered gives, in either variant.
use Rattle.std.specs.List.{Contains}
use Rattle.std.specs.Prelude.{not}
use Rattle.std.specs.Str.{bytes_eq}
use Rattle.std.proofs.Common.{◌≡◌, ◌∙◌, ℕ, false, List, Option, None, Some, Result, Ok, Err, refl, sym, ap, subst, inl, inr}
use Rattle.mm_digest.specs.declared.variant.Variant.{Variant}
use Rattle.mm_seal.specs.Cell.{cell_spelling}
use Rattle.mm_seal.specs.Snapshot.{Content, sealed_snapshot_of}
use Rattle.mm_seal.specs.declared.cell.Cell.{Cell}
use Rattle.mm_seal.specs.declared.snapshot.PartsFault.{PartsFault}
use Rattle.mm_seal.specs.declared.snapshot.PartsFault.TheVariants.{Form, Kind}
use Rattle.mm_platform.specs.Standing.{Standing}
use Rattle.mm_module.specs.Batch.{Batch}
use Rattle.mm_module.specs.Meaning.{Meaning}
use Rattle.mm_model.specs.History.{History, total_of}
use Rattle.mm_model.specs.Standing.{IsRight, StandsFor, cell_of}
use Rattle.mm_call.specs.CallPremises.{IsWithin}
use Rattle.mm_life.specs.Deeds.{LifeCall}
use Rattle.mm_life.specs.Stages.{LifePart}
use Rattle.mm_move.specs.Cells.{moved_cell_of, MovePromise}
use Rattle.mm_move.specs.Orders.{acceptance_in, acceptance_of, live_cell_from, right_ticket, ticket_by}
use Rattle.mm_move.specs.Tickets.{TaggedTicket, TicketContent, summary_in, ticket_of, ticket_tag}
use Rattle.mm_move.specs.declared.accepting.Accepted.{Accepted}
use Rattle.mm_move.specs.declared.cell.MovedCell.{MovedCell}
use Rattle.mm_move.specs.declared.cell.MovedCell.TheVariants as moved
use Rattle.mm_move.specs.declared.cell.WaitingCell.{WaitingCell}
use Rattle.mm_move.specs.declared.link.Link.{Link}
use Rattle.mm_move.specs.declared.ready.ReadyMove.{ReadyMove}
use Rattle.mm_move.specs.declared.refusal.MoveRefusal.{MoveRefusal}
use Rattle.mm_move.proofs.Above.{tickets_are_read}
use Rattle.mm_sides.specs.BothSides.{Live}
use Rattle.mm_worlds.specs.Premises.{Handed, World, instance_at, key_of, role_of}
use Rattle.mm_worlds.proofs.Above.{Enters, HoldsCell, HoldsOwn, IsAwaited, IsInOrder, IsLiveCell, IsUnmarred, LeftFor, MoveOutcome}
use Rattle.mm_worlds.proofs.Above.{StandsInOrder, WorldLaws, again_ready, anchor_at, anchor_sized, at_end, digest_at, enters_ready, good}
use Rattle.mm_worlds.proofs.Above.{is_live}
use Rattle.mm_worlds.proofs.Above.{is_here as held_here}
use Rattle.mm_worlds.proofs.Above.{key_held, made, move_comes, not_false, passes, reading_of, refused, repeated, role_held, shut_by}
use Rattle.mm_worlds.proofs.Above.{ticket_formed}

module _ {variant : Variant} {meaning : Meaning} {link : Link} {all others : List (List ℕ)} {asked : List Batch}
    {IsSeen : Standing → LifePart → Standing → Type 0} {IsStill : Standing → List LifeCall → Type 0}
    (laws : WorldLaws variant meaning link all others asked IsSeen IsStill) (world : World) (y : History) (handed : Handed)
    (s : StandsInOrder variant meaning link all others asked world y handed) (at : ℕ) where
  -- the cell of a platform with the module
  pub record LiveCell : Type 0 where
    pub cell : Cell
    pub is : s.cells at ≡ Some (moved.Live cell)
    pub held : HoldsOwn variant meaning link (world at) (moved.Live cell)

  live_by : (held : Option MovedCell) → s.cells at ≡ held → HoldsCell variant meaning link (world at) held → IsLiveCell held → LiveCell
  live_by (Some (moved.Live c)) e h live = record { cell = c; is = e; held = h }
  live_by (Some (moved.Waiting c)) e h live = absurd live
  live_by (Some (moved.Retired c)) e h live = absurd live
  live_by None e h live = absurd live

  pub live_cell : role_of (world at) ≡ Live → LiveCell
  live_cell role = live_by (s.cells at) refl (s.order.holds at) (is_live laws world y handed s at role)

  -- a platform with the module, at the history, and none other
  pub record IsHere : Type 0 where
    pub stands : StandsFor (instance_at variant meaning link (key_of (world at))) (world at) y
    pub within : IsWithin all others asked (instance_at variant meaning link (key_of (world at))) y
    pub only : (other : ℕ) → role_of (world other) ≡ Live → other ≡ at

  pub is_here : role_of (world at) ≡ Live → IsHere
  is_here role =
      let c = live_cell role in
      let i = held_here laws world y handed s at (world at) c.cell c.is c.held in
      record {
        stands = i.stands;
        within = i.within;
        only = λ other live. i.order.placed.only other (is_live laws world y handed s other live) ∙ sym (i.order.placed.only at i.live);
      }

-- where the module stands it is live, under the instance's key
pub held_by : (variant : Variant) (meaning : Meaning) (link : Link) (key : List ℕ) (standing : Standing) (y : History)
    → StandsFor (instance_at variant meaning link key) standing y → (role_of standing ≡ Live) × (key_of standing ≡ key)
held_by variant meaning link key standing y s =
    let m : MovedCell = moved.Live (cell_of (instance_at variant meaning link key) y) in
    let held : HoldsOwn variant meaning link standing m = record { formed = s.spells; own = (refl, refl, refl); told = s.cell } in
    (role_held variant meaning link standing (Some m) held, key_held variant meaning link standing m held)

-- what a right ticket says, sealed under a key, is right
module _ (variant : Variant) (meaning : Meaning) (link : Link) (key ticket : List ℕ) where
  right_by : (read : Result TaggedTicket PartsFault) → ticket_of variant meaning.id ticket ≡ read → (content : TicketContent)
      → ticket_by meaning link.key read ≡ Ok content
      → IsRight (instance_at variant meaning link key) (sealed_snapshot_of key content.content) content.content
  right_by (Err Form) is content e = absurd (cc)
  right_by (Err Kind) is content e = absurd (cc)
  right_by (Ok tagged) is content e =
      let spelled = passes (not (meaning.is_spelled tagged.ticket.content.state)) _ _ content e in
      let right = passes (not (bytes_eq tagged.tag (ticket_tag link.key tagged.ticket))) _ _ content spelled.1 in
      let same : tagged.ticket ≡ content = (let both = right.1 in cc) in
      let s = (tickets_are_read variant meaning.id ticket tagged).0 is in
      subst (λ (x : TicketContent). IsRight (instance_at variant meaning link key) (sealed_snapshot_of key x.content) x.content) same
      (record {
        formed = s.is.ticket.content;
        sealed = refl;
        variant = s.variant_is;
        id = s.id_is;
        state = not_false (meaning.is_spelled tagged.ticket.content.state) spelled.0;
      })

  ticket_right : (content : TicketContent) → right_ticket meaning variant link.key ticket ≡ Ok content
      → IsRight (instance_at variant meaning link key) (sealed_snapshot_of key content.content) content.content
  ticket_right content e = right_by (ticket_of variant meaning.id ticket) refl content e

module _ {variant : Variant} {meaning : Meaning} {link : Link} {all others : List (List ℕ)} {asked : List Batch}
    {IsSeen : Standing → LifePart → Standing → Type 0} {IsStill : Standing → List LifeCall → Type 0}
    (laws : WorldLaws variant meaning link all others asked IsSeen IsStill) (world : World) (y : History) (handed : Handed)
    (s : StandsInOrder variant meaning link all others asked world y handed) (at : ℕ) (ticket : List ℕ) (new : Standing)
    (own : (content : TicketContent) → right_ticket meaning variant link.key ticket ≡ Ok content → Contains handed.tickets ticket) where
  abbrev old : Standing
  old = world at

  -- The answer is a right snapshot under the platform's key, of the last position of a history in which no segment is open.
  pub record IsArrival (accepted : Accepted) : Type 0 where
    pub shut : y.is_open ≡ false
    pub unmarred : IsUnmarred variant y
    pub position : accepted.position ≡ total_of y.batches
    pub content : Content
    pub right : IsRight (instance_at variant meaning link (key_of old)) accepted.snapshot content
    pub at_position : content.position ≡ accepted.position
    pub key : key_of new ≡ key_of old

  arrives_by : (key : List ℕ) → key_of old ≡ key → key_of new ≡ key → (content : TicketContent)
      → right_ticket meaning variant link.key ticket ≡ Ok content → y.is_open ≡ false
      → (summary_in content.content.place).bytes ≡ anchor_at variant meaning link y → (accepted : Accepted)
      → accepted ≡ acceptance_of key content.content → IsArrival accepted
  arrives_by key before behind content right shut summary accepted is =
      let g = good laws world y handed s at ticket new own content right in
      let e = at_end variant meaning link all others asked laws.clear laws.guarded y shut s.within g.offered
      (summary_in content.content.place) g.names g.listed summary g.at in
      subst IsArrival (sym is) (record {
        shut = shut;
        unmarred = e.unmarred;
        position = g.position ∙ e.position;
        content = content.content;
        right = subst (λ (k : List ℕ). IsRight (instance_at variant meaning link k) (acceptance_of key content.content).snapshot
            content.content) (sym before) (ticket_right variant meaning link key ticket content right);
        at_position = refl;
        key = behind ∙ sym before;
      })

  entered : (c : WaitingCell) → s.cells at ≡ Some (moved.Waiting c) → HoldsOwn variant meaning link old (moved.Waiting c)
      → (ready : ReadyMove Accepted) (r : Enters variant meaning link ticket c ready)
      → new.cell ≡ Some (cell_spelling (live_cell_from c r.answers.content.content)) → (going : Option (List ℕ))
      → IsInOrder variant meaning link world s.cells going y handed.nonces
      → LeftFor variant meaning link s.cells handed.nonces going y r.answers.content.nonce
      (summary_in r.answers.content.content.place).bytes
      → (accepted : Accepted) → accepted ≡ ready.answer → IsArrival accepted
  entered c e h ready r wrote None o spent accepted is =
      absurd (spent.awaited at (subst (λ (x : Option MovedCell). IsAwaited x r.answers.content.nonce) (sym e) (sym r.nonce)))
  entered c e h ready r wrote (Some going) o (inl spent) accepted is =
      absurd (spent.awaited at (subst (λ (x : Option MovedCell). IsAwaited x r.answers.content.nonce) (sym e) (sym r.nonce)))
  entered c e h ready r wrote (Some going) o (inr goes) accepted is =
      let content : TicketContent = r.answers.content in
      let written : HoldsOwn variant meaning link new (moved.Live (live_cell_from c content.content)) = record {
        formed = record {
          summary = anchor_sized variant meaning link content (ticket_formed variant meaning link ticket content r.answers.right);
          key = h.formed.key;
          barrier = h.formed.barrier;
          variant = h.formed.variant;
        };
        own = h.own;
        told = wrote;
      } in
      arrives_by c.key (key_held variant meaning link old (moved.Waiting c) h)
      (key_held variant meaning link new (moved.Live (live_cell_from c content.content)) written) content r.answers.right o.placed.shut
      goes.1 accepted (is ∙ r.answers.answer_is)

  answer_of : (result : Result Accepted MoveRefusal) (answer accepted : Accepted) → result ≡ Ok answer → result ≡ Ok accepted
      → accepted ≡ answer
  answer_of result answer accepted e f = cc

  comes : (held : Option MovedCell) → s.cells at ≡ held → HoldsCell variant meaning link old held → (result : Result Accepted MoveRefusal)
      (accepted : Accepted) → result ≡ Ok accepted
      → MoveOutcome (acceptance_in meaning variant link ticket (reading_of held)) old new result → IsArrival accepted
  comes held e h result accepted ok (refused same none) = absurd (none accepted ok)
  comes None e h result accepted ok (repeated ready f n same gives) = absurd (cc)
  comes None e h result accepted ok (made ready bytes f n wrote gives) = absurd (cc)
  comes (Some (moved.Retired c)) e h result accepted ok (repeated ready f n same gives) = absurd (cc)
  comes (Some (moved.Retired c)) e h result accepted ok (made ready bytes f n wrote gives) = absurd (cc)
  comes (Some (moved.Waiting c)) e h result accepted ok (repeated ready f n same gives) =
      let r = enters_ready variant meaning link ticket c ready f in
      let clash : None ≡ Some (cell_spelling (live_cell_from c r.answers.content.content)) = sym n ∙ r.next_is in absurd (cc)
  comes (Some (moved.Waiting c)) e h result accepted ok (made ready bytes f n wrote gives) =
      let r = enters_ready variant meaning link ticket c ready f in
      entered c e h ready r (wrote ∙ sym n ∙ r.next_is) s.going s.order
      (good laws world y handed s at ticket new own r.answers.content r.answers.right).left accepted (gives accepted ok)
  comes (Some (moved.Live c)) e h result accepted ok (made ready bytes f n wrote gives) =
      let r = again_ready variant meaning link ticket c ready f in
      let clash : None ≡ Some bytes = sym r.next_is ∙ n in absurd (cc)
  comes (Some (moved.Live c)) e h result accepted ok (repeated ready f n same gives) =
      let r = again_ready variant meaning link ticket c ready f in
      let i = held_here laws world y handed s at new c e h in
      let held : HoldsOwn variant meaning link new (moved.Live c) = record { formed = h.formed; own = h.own; told = same ∙ h.told } in
      arrives_by c.key (key_held variant meaning link old (moved.Live c) h) (key_held variant meaning link new (moved.Live c) held)
      r.answers.content r.answers.right (shut_by variant y s.within.sound (sym (ap (λ (x : Cell). x.flag) i.cell) ∙ r.shut))
      (r.summary ∙ ap (λ (x : Cell). x.summary.bytes) i.cell ∙ digest_at variant meaning link (key_of old) y y.items) accepted
      (answer_of result ready.answer accepted gives ok ∙ r.answers.answer_is)

  pub arrives : (accepted : Accepted)
      → MovePromise (λ bytes. acceptance_in meaning variant link ticket (moved_cell_of bytes)) old new (Ok accepted) → IsArrival accepted
  arrives accepted m =
      comes (s.cells at) refl (s.order.holds at) (Ok accepted) accepted refl
      (move_comes variant meaning link (acceptance_in meaning variant link ticket) old new (s.cells at) (Ok accepted) (s.order.holds at)
      m.moves)
