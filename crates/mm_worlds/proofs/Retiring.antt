-- A retirement keeps the order of a world. With it: what a right offer says, what a right ticket
-- says, and what a ticket says that a retirement gives.
use Rattle.std.specs.Prelude.{not}
use Rattle.std.specs.Str.{bytes_eq}
use Rattle.std.proofs.Common.{◌≡◌, ◌∙◌, ℕ, Bool, true, false, List, length, Result, Ok, Err, refl, sym, ap, subst, ◌++◌, [], Option, None}
use Rattle.std.proofs.Common.{Some, ◌⊎◌, inl, inr}
use Rattle.std.proofs.lemmas.List.{append-nil}
use Rattle.mm_digest.specs.LengthLaws.{length-hmac_of, length-zero_bytes}
use Rattle.mm_digest.specs.declared.digest.Digest.{Digest}
use Rattle.mm_digest.specs.declared.variant.Variant.{Variant}
use Rattle.mm_digest.specs.declared.variant.Variant.TheVariants.{Basic, Opt}
use Rattle.mm_seal.specs.Parts.{parts_of}
use Rattle.mm_seal.specs.Snapshot.{Content, IsContent, IsPlace, Snapshot, tag_of, variant_of}
use Rattle.mm_seal.specs.declared.cell.Cell.{Cell}
use Rattle.mm_seal.specs.declared.snapshot.PartsFault.{PartsFault}
use Rattle.mm_seal.specs.declared.snapshot.PartsFault.TheVariants.{Form, Kind}
use Rattle.mm_seal.specs.declared.snapshot.Place.{Place}
use Rattle.mm_seal.specs.declared.snapshot.Place.TheVariants.{Basic as InBasic, Opt as InOpt}
use Rattle.mm_platform.specs.Standing.{Standing}
use Rattle.mm_module.specs.Batch.{Batch}
use Rattle.mm_module.specs.Meaning.{Meaning}
use Rattle.mm_model.specs.History.{History, requests_of}
use Rattle.mm_model.specs.ListLaws.{each_append}
use Rattle.mm_model.specs.Messages.{AreMessagesIn, place_messages}
use Rattle.mm_model.specs.Standing.{IsRight, IsGenuine}
use Rattle.mm_call.specs.OfferLaws.{is_right}
use Rattle.mm_move.specs.Cells.{refusal_if, moved_cell_of, retired_spelling, MovePromise}
use Rattle.mm_move.specs.Orders.{offer_by, right_offer, right_ticket, ticket_by, ticket_for, is_barred, is_other, is_place_at}
use Rattle.mm_move.specs.Orders.{retired_cell_from, retirement_by, retirement_in}
use Rattle.mm_move.specs.Tickets.{IsAtAnchor, IsTicket, TaggedTicket, TicketContent, place_at, sealed_ticket, summary_in, ticket_of}
use Rattle.mm_move.specs.Tickets.{ticket_tag}
use Rattle.mm_move.specs.declared.cell.MovedCell.{MovedCell}
use Rattle.mm_move.specs.declared.cell.MovedCell.TheVariants as moved
use Rattle.mm_move.specs.declared.cell.RetiredCell.{RetiredCell}
use Rattle.mm_move.specs.declared.link.Link.{Link}
use Rattle.mm_move.specs.declared.ready.ReadyMove.{ReadyMove}
use Rattle.mm_move.specs.declared.refusal.MoveRefusal.{MoveRefusal}
use Rattle.mm_move.proofs.Above.{tickets_are_read, bytes_tell}
use Rattle.mm_life.specs.Deeds.{LifeCall}
use Rattle.mm_life.specs.Stages.{LifePart}
use Rattle.mm_sides.specs.BothSides.{Live, Retired}
use Rattle.mm_worlds.specs.Premises.{Handed, given_tickets, key_of, role_of, instance_at}
use Rattle.mm_worlds.proofs.Beside.{IsBeside, move_beside}
use Rattle.mm_worlds.proofs.Between.{HasLeft, changed_at, reading_of, IsGoodPaper, LeftFor, anchor_at, papers_on, HoldsCell}
use Rattle.mm_worlds.proofs.Between.{HoldsOwn, key_held, role_held}
use Rattle.mm_worlds.proofs.Living.{IsQuietHere, Stepped, WorldLaws, is_here, kept_quiet}
use Rattle.mm_worlds.proofs.Moving.{MoveOutcome, made, move_comes, refused, repeated}
use Rattle.mm_worlds.proofs.Names.{IsUnmarred, at_end, digest_at, names_key, shut_by}
use Rattle.mm_worlds.proofs.Orders.{StandsInOrder, given_papers, left_goes, order_left}

-- What a right offer says, what a right ticket says, and what a ticket says that a retirement gives.

-- what passes a test
pub passes : {A : Type 0} (test : Bool) (why : MoveRefusal) (rest : Result A MoveRefusal) (x : A) → refusal_if test why rest ≡ Ok x
    → (test ≡ false) × (rest ≡ Ok x)
passes true why rest x e = absurd (cc)
passes false why rest x e = (refl, e)

pub not_false : (b : Bool) → not b ≡ false → b ≡ true
not_false true e = refl
not_false false e = absurd (cc)

module _ (variant : Variant) (meaning : Meaning) (link : Link) (key offer : List ℕ) where
  right_by : (parts : Result Snapshot PartsFault) → parts_of variant meaning.id offer ≡ parts → (content : Content)
      → offer_by meaning key parts ≡ Ok content → IsRight (instance_at variant meaning link key) offer content
  right_by (Err Form) is content e = absurd (cc)
  right_by (Err Kind) is content e = absurd (cc)
  right_by (Ok offered) is content e =
      let spelled = passes (not (meaning.is_spelled offered.content.state)) _ _ content e in
      let tagged = passes (not (bytes_eq offered.tag (tag_of key offered.content))) _ _ content spelled.1 in
      let same : offered.content ≡ content = (let both = tagged.1 in cc) in
      subst (λ (x : Content). IsRight (instance_at variant meaning link key) offer x) same
      (is_right (instance_at variant meaning link key) offer offered is
      (not_false (meaning.is_spelled offered.content.state) spelled.0)
      (not_false (bytes_eq offered.tag (tag_of key offered.content)) tagged.0))

  pub offer_is_right : (content : Content) → right_offer meaning variant key offer ≡ Ok content
      → IsRight (instance_at variant meaning link key) offer content
  offer_is_right content e = right_by (parts_of variant meaning.id offer) refl content e

-- the place at a summary or an anchor is formed, and of its variant
place_sized : (variant : Variant) (summary : Digest) → length summary.bytes ≡ 32 → IsPlace (place_at variant summary)
place_sized Basic summary sized = sized
place_sized Opt summary sized = (sized, length-zero_bytes)

variant_at : (variant : Variant) (summary : Digest) → variant_of (place_at variant summary) ≡ variant
variant_at Basic summary = refl
variant_at Opt summary = refl

is_at_anchor : (variant : Variant) (summary : Digest) → IsAtAnchor (place_at variant summary)
is_at_anchor Basic summary = refl
is_at_anchor Opt summary = refl

pub summary_back : (variant : Variant) (summary : Digest) → summary_in (place_at variant summary) ≡ summary
summary_back Basic summary = refl
summary_back Opt summary = refl

module _ (variant : Variant) (meaning : Meaning) (link : Link) where
  -- what a right ticket says is formed, and of the variant
  pub record IsFormed (content : TicketContent) : Type 0 where
    pub is : IsTicket content
    pub kind : variant_of content.content.place ≡ variant

  formed_by : (bytes : List ℕ) (read : Result TaggedTicket PartsFault) → ticket_of variant meaning.id bytes ≡ read
      → (content : TicketContent) → ticket_by meaning link.key read ≡ Ok content → IsFormed content
  formed_by bytes (Err Form) is content e = absurd (cc)
  formed_by bytes (Err Kind) is content e = absurd (cc)
  formed_by bytes (Ok tagged) is content e =
      let spelled = passes (not (meaning.is_spelled tagged.ticket.content.state)) _ _ content e in
      let right = passes (not (bytes_eq tagged.tag (ticket_tag link.key tagged.ticket))) _ _ content spelled.1 in
      let same : tagged.ticket ≡ content = (let both = right.1 in cc) in
      let read = (tickets_are_read variant meaning.id bytes tagged).0 is in
      subst IsFormed same (record { is = read.is.ticket; kind = read.variant_is })

  pub ticket_formed : (bytes : List ℕ) (content : TicketContent) → right_ticket meaning variant link.key bytes ≡ Ok content
      → IsFormed content
  ticket_formed bytes content e = formed_by bytes (ticket_of variant meaning.id bytes) refl content e

  -- so it stands at its summary or anchor
  pub at_anchor : (content : TicketContent) → IsFormed content
      → content.content.place ≡ place_at variant (summary_in content.content.place)
  at_anchor content f =
      f.is.place ∙ ap (λ (v : Variant). place_at v (summary_in content.content.place)) f.kind

  sized_by : (place : Place) → IsPlace place → length (summary_in place).bytes ≡ 32
  sized_by (InBasic s) is = is
  sized_by (InOpt a x) is = is.0

  pub anchor_sized : (content : TicketContent) → IsFormed content → length (summary_in content.content.place).bytes ≡ 32
  anchor_sized content f = sized_by content.content.place f.is.content.place

  -- the ticket that a retirement gives says this
  module _ (nonce : List ℕ) (long : length nonce ≡ 32) (summary : Digest) (sized : length summary.bytes ≡ 32) (offered : Content)
      (formed : IsContent offered) (id_is : offered.id ≡ meaning.id) where
    abbrev given : TicketContent
    given = ticket_for variant nonce summary offered

    abbrev whole : TaggedTicket
    whole = record { ticket = given; tag = ticket_tag link.key given }

    formed_ticket : IsTicket given
    formed_ticket = record {
      nonce = long;
      content = record { place = place_sized variant summary sized; position = formed.position; state = formed.state };
      place = is_at_anchor variant summary;
    }

    read_back : ticket_of variant meaning.id (sealed_ticket link.key given) ≡ Ok whole
    unfolding sealed_ticket
    read_back = (tickets_are_read variant meaning.id (sealed_ticket link.key given) whole).1 (record {
      is = record { ticket = formed_ticket; tag = length-hmac_of link.key _ };
      bytes_are = refl;
      variant_is = variant_at variant summary;
      id_is = id_is;
    })

    pub given_says : (content : TicketContent) → right_ticket meaning variant link.key (sealed_ticket link.key given) ≡ Ok content
        → given ≡ content
    given_says content e =
        let read : ticket_by meaning link.key (Ok whole) ≡ Ok content =
        sym (ap (λ (r : Result TaggedTicket PartsFault). ticket_by meaning link.key r) read_back) ∙ e in
        let spelled = passes (not (meaning.is_spelled given.content.state)) _ _ content read in
        let right = passes (not (bytes_eq whole.tag (ticket_tag link.key given))) _ _ content spelled.1 in
        (let both = right.1 in cc)

-- A retirement keeps the order of a world.

-- where a module is, or has left
abbrev pub IsOrWas : Option MovedCell → Type 0
IsOrWas (Some (moved.Live c)) = Unit {0}
IsOrWas (Some (moved.Retired c)) = Unit {0}
IsOrWas held = ⊥

module _ (variant : Variant) (meaning : Meaning) (link : Link) (nonce offer : List ℕ) where
  -- what a retirement is ready with
  record IsReady (key : List ℕ) (summary : Digest) (next : Option (List ℕ)) (ready : ReadyMove (List ℕ)) : Type 0 where
    content : Content
    right : right_offer meaning variant key offer ≡ Ok content
    at : is_place_at summary content.place ≡ true
    next_is : ready.next ≡ next
    answer_is : ready.answer ≡ sealed_ticket link.key (ticket_for variant nonce summary content)

  ready_by : (key : List ℕ) (summary : Digest) (next : Option (List ℕ)) (ready : ReadyMove (List ℕ))
      (offered : Result Content MoveRefusal) → right_offer meaning variant key offer ≡ offered
      → retirement_by variant link nonce summary next offered ≡ Ok ready → IsReady key summary next ready
  ready_by key summary next ready (Err why) is e = absurd (cc)
  ready_by key summary next ready (Ok content) is e =
      let a = passes (not (is_place_at summary content.place)) _ _ ready e in
      let same : record { next = next; answer = sealed_ticket link.key (ticket_for variant nonce summary content) } ≡ ready =
      (let both = a.1 in cc) in
      record {
        content = content;
        right = is;
        at = not_false (is_place_at summary content.place) a.0;
        next_is = sym (ap (λ (r : ReadyMove (List ℕ)). r.next) same);
        answer_is = sym (ap (λ (r : ReadyMove (List ℕ)). r.answer) same);
      }

  leaves_ready : (c : Cell) (ready : ReadyMove (List ℕ)) → retirement_in meaning variant link nonce offer (Ok (moved.Live c)) ≡ Ok ready
      → (c.flag ≡ false) × IsReady c.key c.summary (Some (retired_spelling (retired_cell_from c nonce))) ready
  leaves_ready c ready e =
      let own = passes (is_other variant meaning.id c.variant c.module) _ _ ready e in
      let barred = passes (is_barred variant c.barrier link) _ _ ready own.1 in
      let shut = passes c.flag _ _ ready barred.1 in (
        shut.0,
        ready_by c.key c.summary (Some (retired_spelling (retired_cell_from c nonce))) ready
            (right_offer meaning variant c.key offer) refl shut.1,
      )

  again_ready : (c : RetiredCell) (ready : ReadyMove (List ℕ))
      → retirement_in meaning variant link nonce offer (Ok (moved.Retired c)) ≡ Ok ready
      → (c.nonce ≡ nonce) × IsReady c.key c.summary None ready
  again_ready c ready e =
      let own = passes (is_other variant meaning.id c.variant c.module) _ _ ready e in
      let same = passes (not (bytes_eq c.nonce nonce)) _ _ ready own.1 in (
        bytes_tell c.nonce nonce (not_false (bytes_eq c.nonce nonce) same.0),
        ready_by c.key c.summary None ready (right_offer meaning variant c.key offer) refl same.1,
      )

  -- what is asked of its offer: it is genuine, and in Opt the closing of its segment is listed
  pub record IsFineOffer (all : List (List ℕ)) (y : History) (key : List ℕ) : Type 0 where
    pub genuine : IsGenuine (instance_at variant meaning link key) y offer
    pub listed : (content : Content) → IsRight (instance_at variant meaning link key) offer content
        → AreMessagesIn (place_messages content.place) all

  -- so the ticket is good
  paper_good : (all : List (List ℕ)) (Left : List ℕ → List ℕ → Type 0) (y : History) (long : length nonce ≡ 32) (key : List ℕ)
      (summary : Digest) (sized : length summary.bytes ≡ 32) (next : Option (List ℕ)) (ready : ReadyMove (List ℕ))
      (r : IsReady key summary next ready) → IsFineOffer all y key → Left nonce summary.bytes → (ticket : List ℕ)
      → ticket ≡ ready.answer → IsGoodPaper variant meaning link all Left y ticket
  paper_good all Left y long key summary sized next ready r fine left ticket is content right =
      let formed = offer_is_right variant meaning link key offer r.content r.right in
      let sealed : ticket ≡ sealed_ticket link.key (ticket_for variant nonce summary r.content) = is ∙ r.answer_is in
      let says : ticket_for variant nonce summary r.content ≡ content =
      given_says variant meaning link nonce long summary sized r.content formed.formed formed.id content (rw sealed at right) in
      rw (sym says) (record {
        offered = r.content;
        names = names_key variant meaning link key link.key y r.content (fine.genuine r.content formed);
        listed = fine.listed r.content formed;
        position = refl;
        state = refl;
        at = subst (λ (d : Digest). is_place_at d r.content.place ≡ true) (sym (summary_back variant summary)) r.at;
        left = subst (λ (d : Digest). Left nonce d.bytes) (sym (summary_back variant summary)) left;
      })

module _ {variant : Variant} {meaning : Meaning} {link : Link} {all others : List (List ℕ)} {asked : List Batch}
    {IsSeen : Standing → LifePart → Standing → Type 0} {IsStill : Standing → List LifeCall → Type 0}
    (laws : WorldLaws variant meaning link all others asked IsSeen IsStill) (world : ℕ → Standing) (y : History) (handed : Handed)
    (s : StandsInOrder variant meaning link all others asked world y handed) (at : ℕ) (nonce offer : List ℕ) (new : Standing)
    (long : length nonce ≡ 32) where
  abbrev old : Standing
  old = world at

  abbrev Kept : Result (List ℕ) MoveRefusal → Type 0
  Kept result =
      Stepped laws world y handed s at new [] (given_tickets result) []
      (λ after. after ≡ requests_of y.batches)

  abbrev Left : Option (List ℕ) → List ℕ → List ℕ → Type 0
  Left going = LeftFor variant meaning link s.cells handed.nonces going y

  abbrev Fine : Type 0
  Fine = IsFineOffer variant meaning link nonce offer all y (key_of old)

  -- it has left, at the end of its history
  pub record HasGone : Type 0 where
    pub shut : y.is_open ≡ false
    pub unmarred : IsUnmarred variant y
    pub away : role_of new ≡ Live → ⊥

  -- where the module is without an open segment, its cell says the anchor of the history
  module _ (c : Cell) (e : s.cells at ≡ Some (moved.Live c)) (h : HoldsOwn variant meaning link old (moved.Live c)) (fine : Fine)
      (ready : ReadyMove (List ℕ)) (flag : c.flag ≡ false)
      (r : IsReady variant meaning link nonce offer c.key c.summary (Some (retired_spelling (retired_cell_from c nonce))) ready)
      (wrote : new.cell ≡ Some (retired_spelling (retired_cell_from c nonce))) where
    abbrev gone : RetiredCell
    gone = retired_cell_from c nonce

    shut : y.is_open ≡ false
    shut = shut_by variant y s.within.sound (sym (ap (λ (x : Cell). x.flag) (is_here laws world y handed s at new c e h).cell) ∙ flag)

    summary : c.summary.bytes ≡ anchor_at variant meaning link y
    summary =
        ap (λ (x : Cell). x.summary.bytes) (is_here laws world y handed s at new c e h).cell
        ∙ digest_at variant meaning link (key_of old) y y.items

    key_fine : IsFineOffer variant meaning link nonce offer all y c.key
    key_fine = subst (IsFineOffer variant meaning link nonce offer all y) (key_held variant meaning link old (moved.Live c) h) fine

    gone_held : HoldsOwn variant meaning link new (moved.Retired gone)
    gone_held = record {
      formed = record { summary = h.formed.summary; key = h.formed.key; nonce = long };
      own = (h.own.0, h.own.1);
      told = wrote;
    }

    -- the cell that it writes
    leaves : (result : Result (List ℕ) MoveRefusal) → ((ticket : List ℕ) → result ≡ Ok ticket → ticket ≡ ready.answer) → Kept result
    leaves result gives =
        let i = is_here laws world y handed s at new c e h in
        let After : List ℕ → List ℕ → Type 0 =
        LeftFor variant meaning link (changed_at s.cells at (Some (moved.Retired gone))) (handed.nonces ++ []) (Some nonce) y in
        record {
          after = y;
          stands = record {
            cells = changed_at s.cells at (Some (moved.Retired gone));
            long = s.long;
            going = Some nonce;
            order = order_left variant meaning link world s.cells y handed.nonces at new gone summary [] shut i.live gone_held i.order;
            within = s.within;
            named = rw (append-nil handed.snapshots) s.named;
            papers = each_append (IsGoodPaper variant meaning link all After y) handed.tickets (given_tickets result)
                (papers_on variant meaning link all (Left None) After y y
                (left_goes variant meaning link world s.cells y handed.nonces at new gone summary [])
                (λ content n. n) handed.tickets (i.papers handed.tickets s.papers))
                (given_papers variant meaning link all others asked (IsGoodPaper variant meaning link all After y) result (λ ticket is.
                paper_good variant meaning link nonce offer all After y long c.key c.summary h.formed.summary
                (Some (retired_spelling gone)) ready r key_fine (inr (refl, summary)) ticket (gives ticket is)));
          };
          steps = refl;
        }

    left_there : HasGone
    left_there =
        let formed = offer_is_right variant meaning link c.key offer r.content r.right in
        record {
          shut = shut;
          unmarred = (at_end variant meaning link all others asked laws.clear laws.guarded y shut s.within r.content c.summary
              (names_key variant meaning link c.key link.key y r.content (key_fine.genuine r.content formed))
              (key_fine.listed r.content formed) summary r.at).unmarred;
          away = λ role.
              let clash : Retired gone.nonce ≡ Live = sym (role_held variant meaning link new (Some (moved.Retired gone)) gone_held) ∙ role
              in absurd (cc);
        }

  -- where the module was, the cell is as before, or it has left
  pub left_or : (c : Cell) → s.cells at ≡ Some (moved.Live c) → HoldsOwn variant meaning link old (moved.Live c) → Fine
      → (result : Result (List ℕ) MoveRefusal)
      → MoveOutcome (retirement_in meaning variant link nonce offer (Ok (moved.Live c))) old new result
      → (new.cell ≡ old.cell) ⊎ HasGone
  left_or c e h fine result (refused same none) = inl same
  left_or c e h fine result (repeated ready f n same gives) = inl same
  left_or c e h fine result (made ready bytes f n wrote gives) =
      let r = leaves_ready variant meaning link nonce offer c ready f in
      inr (left_there c e h fine ready r.0 r.1 (wrote ∙ sym n ∙ r.1.next_is))

  answer_of : (result : Result (List ℕ) MoveRefusal) (answer ticket : List ℕ) → result ≡ Ok answer → result ≡ Ok ticket → ticket ≡ answer
  answer_of result answer ticket e f = cc

  module _ (beside : IsBeside old new)
      (shown : IsQuietHere laws world y handed s at new) where
    still : (result : Result (List ℕ) MoveRefusal) → new.cell ≡ old.cell
        → ((ticket : List ℕ) → result ≡ Ok ticket → IsGoodPaper variant meaning link all (Left s.going) y ticket) → Kept result
    still result same good =
        kept_quiet laws world y handed s at new [] (given_tickets result) [] same beside shown
        tt (given_papers variant meaning link all others asked (IsGoodPaper variant meaning link all (Left s.going) y) result good)

    comes : (held : Option MovedCell) → s.cells at ≡ held → HoldsCell variant meaning link old held → (IsOrWas held → Fine)
        → (result : Result (List ℕ) MoveRefusal)
        → MoveOutcome (retirement_in meaning variant link nonce offer (reading_of held)) old new result → Kept result
    comes held e h fine result (refused same none) = still result same (λ ticket is. absurd (none ticket is))
    comes None e h fine result (repeated ready f n same gives) = absurd (cc)
    comes None e h fine result (made ready bytes f n wrote gives) = absurd (cc)
    comes (Some (moved.Waiting c)) e h fine result (repeated ready f n same gives) = absurd (cc)
    comes (Some (moved.Waiting c)) e h fine result (made ready bytes f n wrote gives) = absurd (cc)
    comes (Some (moved.Live c)) e h fine result (repeated ready f n same gives) =
        let r = leaves_ready variant meaning link nonce offer c ready f in
        let clash : None ≡ Some (retired_spelling (retired_cell_from c nonce)) = sym n ∙ r.1.next_is in absurd (cc)
    comes (Some (moved.Live c)) e h fine result (made ready bytes f n wrote gives) =
        let r = leaves_ready variant meaning link nonce offer c ready f in
        let wrote_so : new.cell ≡ Some (retired_spelling (retired_cell_from c nonce)) = wrote ∙ sym n ∙ r.1.next_is in
        leaves c e h (fine tt) ready r.0 r.1 wrote_so result gives
    comes (Some (moved.Retired c)) e h fine result (made ready bytes f n wrote gives) =
        let r = again_ready variant meaning link nonce offer c ready f in
        let clash : None ≡ Some bytes = sym r.1.next_is ∙ n in absurd (cc)
    comes (Some (moved.Retired c)) e h fine result (repeated ready f n same gives) =
        let r = again_ready variant meaning link nonce offer c ready f in
        let key : key_of old ≡ c.key = key_held variant meaning link old (moved.Retired c) h in
        let had : HasLeft (Left s.going) (Some (moved.Retired c)) =
        subst (λ (x : Option MovedCell). HasLeft (Left s.going) x) e (s.order.left at) in
        let left : Left s.going nonce c.summary.bytes = subst (λ (x : List ℕ). Left s.going x c.summary.bytes) r.0 had in
        still result same (λ ticket is.
        paper_good variant meaning link nonce offer all (Left s.going) y long c.key c.summary h.formed.summary None ready r.1
        (subst (IsFineOffer variant meaning link nonce offer all y) key (fine tt)) left ticket
        (answer_of result ready.answer ticket gives is))

  pub kept_retiring : (result : Result (List ℕ) MoveRefusal) → (IsOrWas (s.cells at) → Fine)
      → IsQuietHere laws world y handed s at new
      → MovePromise (λ bytes. retirement_in meaning variant link nonce offer (moved_cell_of bytes)) old new result → Kept result
  kept_retiring result fine shown m =
      comes (move_beside (λ bytes. retirement_in meaning variant link nonce offer (moved_cell_of bytes)) old new result m.moves) shown
      (s.cells at) refl (s.order.holds at) fine result
      (move_comes variant meaning link (retirement_in meaning variant link nonce offer) old new (s.cells at) result (s.order.holds at)
      m.moves)
