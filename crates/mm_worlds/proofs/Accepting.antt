-- An acceptance keeps the order of a world.
use Rattle.std.specs.List.{AllByRecursion, Contains}
use Rattle.std.specs.Prelude.{◌||◌, length, not}
use Rattle.std.specs.Str.{bytes_eq}
use Rattle.std.proofs.Common.{◌≡◌, ◌∙◌, ◌++◌, ℕ, Bool, true, false, List, [], Option, None, Some, Result, Ok, Err, refl, sym, ap, subst, inl, inr}
use Rattle.std.proofs.lemmas.List.{append-nil}
use Rattle.mm_digest.specs.declared.variant.Variant.{Variant}
use Rattle.mm_seal.specs.Cell.{cell_spelling}
use Rattle.mm_seal.specs.FieldLaws.{sealed_once}
use Rattle.mm_seal.specs.Snapshot.{Content, sealed_snapshot_of}
use Rattle.mm_seal.specs.declared.cell.Cell.{Cell}
use Rattle.mm_platform.specs.Standing.{Standing}
use Rattle.mm_module.specs.Batch.{Batch}
use Rattle.mm_module.specs.Meaning.{Meaning}
use Rattle.mm_model.specs.History.{History, RegisterEntry, requests_of}
use Rattle.mm_model.specs.ListLaws.{each_append}
use Rattle.mm_model.specs.Standing.{NamesPosition, RegisterStands, cell_of, flag_of}
use Rattle.mm_call.specs.CallPremises.{IsWithin}
use Rattle.mm_call.proofs.Above.{each_at}
use Rattle.mm_move.specs.Cells.{moved_cell_of, MovePromise}
use Rattle.mm_move.specs.Orders.{acceptance_again_by, acceptance_by, acceptance_in, acceptance_of, is_barred, is_other, live_cell_from, right_ticket}
use Rattle.mm_move.specs.Tickets.{TicketContent, summary_in}
use Rattle.mm_move.specs.declared.accepting.Accepted.{Accepted}
use Rattle.mm_move.specs.declared.cell.MovedCell.{MovedCell}
use Rattle.mm_move.specs.declared.cell.MovedCell.TheVariants as moved
use Rattle.mm_move.specs.declared.cell.WaitingCell.{WaitingCell}
use Rattle.mm_move.specs.declared.link.Link.{Link}
use Rattle.mm_move.specs.declared.ready.ReadyMove.{ReadyMove}
use Rattle.mm_move.specs.declared.refusal.MoveRefusal.{MoveRefusal}
use Rattle.mm_move.proofs.Above.{bytes_tell}
use Rattle.mm_life.specs.Deeds.{LifeCall}
use Rattle.mm_life.specs.Stages.{LifePart}
use Rattle.mm_worlds.specs.Premises.{Handed, accepted_snapshots, key_of, instance_at, IsGenuineUnder}
use Rattle.mm_worlds.proofs.Between.{changed_at, IsAwaited, reading_of, IsGoodPaper, IsGoodTicket, IsInOrder, LeftFor}
use Rattle.mm_worlds.proofs.Between.{anchor_at, papers_on, HoldsCell, HoldsOwn, IsOwnCell}
use Rattle.mm_worlds.proofs.Moving.{MoveOutcome, made, move_comes, refused, repeated}
use Rattle.mm_worlds.proofs.Beside.{IsBeside, move_beside}
use Rattle.mm_worlds.proofs.Orders.{StandsInOrder, given_snapshots, arrived, order_arrived}
use Rattle.mm_worlds.proofs.Living.{IsQuietHere, Stepped, WorldLaws, all_named, is_here, kept_quiet}
use Rattle.mm_worlds.proofs.Names.{digest_at, fits_shut, flag_shut, names_cross, names_end, names_key, shut_by}
use Rattle.mm_worlds.proofs.Retiring.{anchor_sized, at_anchor, ticket_formed, not_false, passes}

neither : (a b : Bool) → (a || b) ≡ false → (a ≡ false) × (b ≡ false)
neither true b e = absurd (cc)
neither false b e = (refl, e)

module _ (variant : Variant) (meaning : Meaning) (link : Link) (ticket : List ℕ) where
  -- what an acceptance is ready with: it answers with what a right ticket says
  pub record Answers (key : List ℕ) (ready : ReadyMove Accepted) : Type 0 where
    pub content : TicketContent
    pub right : right_ticket meaning variant link.key ticket ≡ Ok content
    pub answer_is : ready.answer ≡ acceptance_of key content.content

  pub record Enters (c : WaitingCell) (ready : ReadyMove Accepted) : Type 0 where
    pub answers : Answers c.key ready
    pub nonce : answers.content.nonce ≡ c.nonce
    pub next_is : ready.next ≡ Some (cell_spelling (live_cell_from c answers.content.content))

  enters_by : (c : WaitingCell) (ready : ReadyMove Accepted) (read : Result TicketContent MoveRefusal)
      → right_ticket meaning variant link.key ticket ≡ read → acceptance_by c read ≡ Ok ready → Enters c ready
  enters_by c ready (Err why) is e = absurd (cc)
  enters_by c ready (Ok content) is e =
      let a = passes (not (bytes_eq content.nonce c.nonce)) _ _ ready e in
      let same : record { next = Some (cell_spelling (live_cell_from c content.content)); answer = acceptance_of c.key content.content }
      ≡ ready = (let both = a.1 in cc) in
      record {
        answers = record { content = content; right = is; answer_is = sym (ap (λ (r : ReadyMove Accepted). r.answer) same) };
        nonce = bytes_tell content.nonce c.nonce (not_false (bytes_eq content.nonce c.nonce) a.0);
        next_is = sym (ap (λ (r : ReadyMove Accepted). r.next) same);
      }

  pub enters_ready : (c : WaitingCell) (ready : ReadyMove Accepted)
      → acceptance_in meaning variant link ticket (Ok (moved.Waiting c)) ≡ Ok ready
      → Enters c ready
  enters_ready c ready e =
      let own = passes (is_other variant meaning.id c.variant c.module) _ _ ready e in
      let barred = passes (is_barred variant c.barrier link) _ _ ready own.1 in
      enters_by c ready (right_ticket meaning variant link.key ticket) refl barred.1

  -- it entered before, and the module is where the ticket says
  pub record Again (c : Cell) (ready : ReadyMove Accepted) : Type 0 where
    pub answers : Answers c.key ready
    pub shut : c.flag ≡ false
    pub summary : (summary_in answers.content.content.place).bytes ≡ c.summary.bytes
    pub next_is : ready.next ≡ None

  again_by : (c : Cell) (ready : ReadyMove Accepted) (read : Result TicketContent MoveRefusal)
      → right_ticket meaning variant link.key ticket ≡ read → acceptance_again_by c read ≡ Ok ready → Again c ready
  again_by c ready (Err why) is e = absurd (cc)
  again_by c ready (Ok content) is e =
      let a = passes (c.flag || not (bytes_eq (summary_in content.content.place).bytes c.summary.bytes)) _ _ ready e in
      let tests = neither c.flag (not (bytes_eq (summary_in content.content.place).bytes c.summary.bytes)) a.0 in
      let same : record { next = None; answer = acceptance_of c.key content.content } ≡ ready = (let both = a.1 in cc) in
      record {
        answers = record { content = content; right = is; answer_is = sym (ap (λ (r : ReadyMove Accepted). r.answer) same) };
        shut = tests.0;
        summary = bytes_tell (summary_in content.content.place).bytes c.summary.bytes
            (not_false (bytes_eq (summary_in content.content.place).bytes c.summary.bytes) tests.1);
        next_is = sym (ap (λ (r : ReadyMove Accepted). r.next) same);
      }

  pub again_ready : (c : Cell) (ready : ReadyMove Accepted) → acceptance_in meaning variant link ticket (Ok (moved.Live c)) ≡ Ok ready
      → Again c ready
  again_ready c ready e =
      let own = passes (is_other variant meaning.id c.variant c.module) _ _ ready e in
      let barred = passes (is_barred variant c.barrier link) _ _ ready own.1 in
      again_by c ready (right_ticket meaning variant link.key ticket) refl barred.1

  -- where the module lives, the cell is as before
  pub accepted_same : (c : Cell) (old new : Standing) (result : Result Accepted MoveRefusal)
      → MoveOutcome (acceptance_in meaning variant link ticket (Ok (moved.Live c))) old new result → new.cell ≡ old.cell
  accepted_same c old new result (refused same none) = same
  accepted_same c old new result (repeated ready f n same gives) = same
  accepted_same c old new result (made ready bytes f n wrote gives) =
      let r = again_ready c ready f in
      let clash : None ≡ Some bytes = sym r.next_is ∙ n in absurd (cc)

-- the cell of one that enters stands for the history
pub entered_cell : (variant : Variant) (meaning : Meaning) (link : Link) (y : History) (items : List RegisterEntry) (c : WaitingCell)
    (content : Content) → IsOwnCell variant meaning link (moved.Waiting c) → y.is_open ≡ false
    → (summary_in content.place).bytes ≡ anchor_at variant meaning link y
    → live_cell_from c content ≡ cell_of (instance_at variant meaning link c.key) (record y { items = items })
entered_cell variant meaning link y items c content own shut summary = λ j. record {
  variant = own.0 j;
  «module» = own.1 j;
  flag = sym (flag_shut variant (record y { items = items }) shut) j;
  summary = record { bytes = (summary ∙ sym (digest_at variant meaning link c.key y items)) j };
  key = c.key;
  barrier = own.2 j;
}

-- a history goes on where the module enters, with what the register shows there
pub record ShowsHistory (variant : Variant) (meaning : Meaning) (link : Link) (all others : List (List ℕ)) (asked : List Batch)
    (y : History) (new : Standing) : Type 0 where
  pub entries : List RegisterEntry
  pub register : (key : List ℕ) → RegisterStands variant (instance_at variant meaning link key) new (record y { items = entries })
  pub within : y.is_open ≡ false → IsWithin all others asked (instance_at variant meaning link link.key) (record y { items = entries })

module _ {variant : Variant} {meaning : Meaning} {link : Link} {all others : List (List ℕ)} {asked : List Batch}
    {IsSeen : Standing → LifePart → Standing → Type 0} {IsStill : Standing → List LifeCall → Type 0}
    (laws : WorldLaws variant meaning link all others asked IsSeen IsStill) (world : ℕ → Standing) (y : History) (handed : Handed)
    (s : StandsInOrder variant meaning link all others asked world y handed) (at : ℕ) (ticket : List ℕ) (new : Standing)
    (own : (content : TicketContent) → right_ticket meaning variant link.key ticket ≡ Ok content → Contains handed.tickets ticket) where
  abbrev old : Standing
  old = world at

  abbrev Kept : Result Accepted MoveRefusal → Type 0
  Kept result =
      Stepped laws world y handed s at new (accepted_snapshots (key_of old) result) [] []
      (λ after. after ≡ requests_of y.batches)

  abbrev Left : Option (List ℕ) → List ℕ → List ℕ → Type 0
  Left going = LeftFor variant meaning link s.cells handed.nonces going y

  -- the ticket was handed out, so it is good
  pub good : (content : TicketContent) → right_ticket meaning variant link.key ticket ≡ Ok content
      → IsGoodTicket variant meaning link all (Left s.going) y content
  good content right =
      each_at (IsGoodPaper variant meaning link all (Left s.going) y) handed.tickets ticket s.papers (own content right) content right

  -- where it says the module's anchor, and no segment is open, it names the end
  pub ends : (content : TicketContent) → right_ticket meaning variant link.key ticket ≡ Ok content → y.is_open ≡ false
      → (summary_in content.content.place).bytes ≡ anchor_at variant meaning link y
      → NamesPosition (instance_at variant meaning link link.key) y content.content
  ends content right shut summary =
      let g = good content right in
      names_end variant meaning link all others asked laws.clear laws.guarded y shut s.within g.offered content.content
      (summary_in content.content.place) g.names g.listed summary g.at g.position g.state
      (at_anchor variant meaning link content (ticket_formed variant meaning link ticket content right))

  -- what is answered is genuine
  genuine : (z : History) (key : List ℕ) (ready : ReadyMove Accepted) (a : Answers variant meaning link ticket key ready)
      → NamesPosition (instance_at variant meaning link link.key) z a.content.content → (accepted : Accepted)
      → accepted ≡ ready.answer → IsGenuineUnder variant meaning link z (record { key = key_of old; bytes = accepted.snapshot })
  genuine z key ready a names accepted is said right =
      let bytes : accepted.snapshot ≡ sealed_snapshot_of key a.content.content =
      ap (λ (x : Accepted). x.snapshot) (is ∙ a.answer_is) in
      let formed = ticket_formed variant meaning link ticket a.content a.right in
      let same : a.content.content ≡ said =
      sealed_once key (key_of old) a.content.content said formed.is.content right.formed (sym bytes ∙ right.sealed) in
      subst (λ (x : Content). NamesPosition (instance_at variant meaning link (key_of old)) z x) same
      (names_key variant meaning link link.key (key_of old) z a.content.content names)

  module _ (c : WaitingCell) (e : s.cells at ≡ Some (moved.Waiting c)) (h : HoldsOwn variant meaning link old (moved.Waiting c))
      (ready : ReadyMove Accepted) (r : Enters variant meaning link ticket c ready) (result : Result Accepted MoveRefusal)
      (gives : (accepted : Accepted) → result ≡ Ok accepted → accepted ≡ ready.answer)
      (wrote : new.cell ≡ Some (cell_spelling (live_cell_from c r.answers.content.content)))
      (shows : ShowsHistory variant meaning link all others asked y new) where
    abbrev content : TicketContent
    content = r.answers.content

    -- the history, with what this platform's register shows
    abbrev z : History
    z = record y { items = shows.entries }

    waits : IsAwaited (s.cells at) content.nonce
    waits = subst (λ (x : Option MovedCell). IsAwaited x content.nonce) (sym e) (sym r.nonce)

    crossed : (said : Content) → NamesPosition (instance_at variant meaning link link.key) y said
        → NamesPosition (instance_at variant meaning link link.key) z said
    crossed said n = names_cross variant meaning link link.key link.key y shows.entries said n

    entered : (going : List ℕ) → IsInOrder variant meaning link world s.cells (Some going) y handed.nonces
        → AllByRecursion (IsGoodPaper variant meaning link all (Left (Some going)) y) handed.tickets → content.nonce ≡ going
        → (summary_in content.content.place).bytes ≡ anchor_at variant meaning link y → Kept result
    entered going o papers for_it summary =
        let shut : y.is_open ≡ false = o.placed.shut in
        let cell : live_cell_from c content.content ≡ cell_of (instance_at variant meaning link c.key) z =
        entered_cell variant meaning link y shows.entries c content.content h.own shut summary in
        let sized : length (cell_of (instance_at variant meaning link c.key) z).summary.bytes ≡ 32 =
        subst (λ (x : Cell). length x.summary.bytes ≡ 32) cell
        (anchor_sized variant meaning link content (ticket_formed variant meaning link ticket content r.answers.right)) in
        let awaited : c.nonce ≡ going = sym r.nonce ∙ for_it in
        let fits = fits_shut variant link (flag_of variant z) (flag_shut variant z shut) in
        let After : List ℕ → List ℕ → Type 0 =
        LeftFor variant meaning link (changed_at s.cells at (Some (moved.Live (cell_of (instance_at variant meaning link c.key) z))))
        (handed.nonces ++ []) None z in
        let names = ends content r.answers.right shut summary in
        record {
          after = z;
          stands = record {
            cells = changed_at s.cells at (Some (moved.Live (cell_of (instance_at variant meaning link c.key) z)));
            long = s.long;
            going = None;
            order = order_arrived variant meaning link world s.cells y handed.nonces at new c.key z (shows.register c.key) going c [] e
                awaited (record {
                  formed = record { summary = sized; key = h.formed.key; barrier = s.long; variant = fits };
                  own = (refl, refl, refl);
                  told = wrote ∙ ap (λ (x : Cell). Some (cell_spelling x)) cell;
                }) o;
            within = shows.within shut;
            named = each_append (IsGenuineUnder variant meaning link z) handed.snapshots (accepted_snapshots (key_of old) result)
                (all_named variant meaning link link.key y z crossed handed.snapshots s.named)
                (given_snapshots variant meaning link all others asked (IsGenuineUnder variant meaning link z) (key_of old) result
                (λ accepted is. genuine z c.key ready r.answers (crossed content.content names) accepted (gives accepted is)));
            papers = rw (append-nil handed.tickets)
                (papers_on variant meaning link all (Left (Some going)) After y z
                (arrived variant meaning link world s.cells y handed.nonces at new c.key z (shows.register c.key) going c [] e awaited o)
                crossed handed.tickets
                papers);
          };
          steps = refl;
        }

    enters : (going : Option (List ℕ)) → IsInOrder variant meaning link world s.cells going y handed.nonces
        → AllByRecursion (IsGoodPaper variant meaning link all (Left going) y) handed.tickets
        → Left going content.nonce (summary_in content.content.place).bytes → Kept result
    enters None o papers spent = absurd (spent.awaited at waits)
    enters (Some going) o papers (inl spent) = absurd (spent.awaited at waits)
    enters (Some going) o papers (inr goes) = entered going o papers goes.0 goes.1

  answer_of : (result : Result Accepted MoveRefusal) (answer accepted : Accepted) → result ≡ Ok answer → result ≡ Ok accepted
      → accepted ≡ answer
  answer_of result answer accepted e f = cc

  module _ (beside : IsBeside old new)
      (shown : IsQuietHere laws world y handed s at new)
      (shows : ShowsHistory variant meaning link all others asked y new) where
    still : (result : Result Accepted MoveRefusal) → new.cell ≡ old.cell
        → ((accepted : Accepted) → result ≡ Ok accepted
        → IsGenuineUnder variant meaning link y (record { key = key_of old; bytes = accepted.snapshot })) → Kept result
    still result same named =
        kept_quiet laws world y handed s at new (accepted_snapshots (key_of old) result) [] []
        same beside shown
        (given_snapshots variant meaning link all others asked (IsGenuineUnder variant meaning link y) (key_of old) result named) tt

    comes : (held : Option MovedCell) → s.cells at ≡ held → HoldsCell variant meaning link old held
        → (result : Result Accepted MoveRefusal)
        → MoveOutcome (acceptance_in meaning variant link ticket (reading_of held)) old new result → Kept result
    comes held e h result (refused same none) = still result same (λ accepted is. absurd (none accepted is))
    comes None e h result (repeated ready f n same gives) = absurd (cc)
    comes None e h result (made ready bytes f n wrote gives) = absurd (cc)
    comes (Some (moved.Retired c)) e h result (repeated ready f n same gives) = absurd (cc)
    comes (Some (moved.Retired c)) e h result (made ready bytes f n wrote gives) = absurd (cc)
    comes (Some (moved.Waiting c)) e h result (repeated ready f n same gives) =
        let r = enters_ready variant meaning link ticket c ready f in
        let clash : None ≡ Some (cell_spelling (live_cell_from c r.answers.content.content)) = sym n ∙ r.next_is in absurd (cc)
    comes (Some (moved.Waiting c)) e h result (made ready bytes f n wrote gives) =
        let r = enters_ready variant meaning link ticket c ready f in
        enters c e h ready r result gives (wrote ∙ sym n ∙ r.next_is) shows s.going s.order s.papers
        (good r.answers.content r.answers.right).left
    comes (Some (moved.Live c)) e h result (made ready bytes f n wrote gives) =
        let r = again_ready variant meaning link ticket c ready f in
        let clash : None ≡ Some bytes = sym r.next_is ∙ n in absurd (cc)
    comes (Some (moved.Live c)) e h result (repeated ready f n same gives) =
        let r = again_ready variant meaning link ticket c ready f in
        let i = is_here laws world y handed s at new c e h in
        let names = ends r.answers.content r.answers.right (shut_by variant y s.within.sound
        (sym (ap (λ (x : Cell). x.flag) i.cell) ∙ r.shut))
        (r.summary ∙ ap (λ (x : Cell). x.summary.bytes) i.cell ∙ digest_at variant meaning link (key_of old) y y.items) in
        still result same (λ accepted is.
        genuine y c.key ready r.answers names accepted (answer_of result ready.answer accepted gives is))

  pub kept_accepting : (result : Result Accepted MoveRefusal)
      → IsQuietHere laws world y handed s at new → ShowsHistory variant meaning link all others asked y new
      → MovePromise (λ bytes. acceptance_in meaning variant link ticket (moved_cell_of bytes)) old new result → Kept result
  kept_accepting result shown shows m =
      comes (move_beside (λ bytes. acceptance_in meaning variant link ticket (moved_cell_of bytes)) old new result m.moves) shown shows
      (s.cells at) refl (s.order.holds at) result
      (move_comes variant meaning link (acceptance_in meaning variant link ticket) old new (s.cells at) result (s.order.holds at) m.moves)
