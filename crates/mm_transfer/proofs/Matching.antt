-- What a move finds in a side's cell is what it finds by the side's role. With it: BothSides sides
-- show of events what is told of a whole transfer.
use Rattle.std.proofs.Common.{inl, inr}
use Rattle.std.proofs.lemmas.List.{append-nil}
use Rattle.mm_seal.specs.FieldLaws.{spells_read}
use Rattle.mm_model.specs.Messages.{is_new}
use Rattle.mm_model.specs.Verdicts.{verdict_by, verdict_by_digests}
use Rattle.mm_model.specs.declared.refusal.Refusal.TheVariants as core
use Rattle.mm_move.specs.declared.cell.MovedCell.TheVariants as moved
use Rattle.mm_move.specs.declared.refusal.MoveRefusal.TheVariants as refusal
use Rattle.mm_schedule.specs.Replies.{IsEventRun}
use Rattle.mm_evidence.proofs.Above.{runs_until}
use Rattle.mm_sides.specs.Laws.{both_outcome_joined, PairsGoOn}
use Rattle.mm_sides.specs.Order.{AreNotBothLive}
use Rattle.mm_sides.specs.Premises.{HasPairEvidence, MeetsPairPremises, PairsAreDecided, IsClearPair, IsGenuinePair, IsFreshPair}
use Rattle.mm_sides.proofs.Above.{known_pairs}
use Rattle.mm_play.specs.Stage.{state_behind_events, replies, StageShows}
use Rattle.mm_transfer.specs.Laws.{OneTransferUntilEvidence, PremisesGiveOneTransfer, TransfersGoOn}
use Rattle.mm_transfer.specs.MovePlan.{answers_text}
use Rattle.mm_transfer.specs.Stage.{AreOneTransfer, transfer_player, transfer_heads, transfer_stage}
use Rattle.mm_transfer.proofs.Below.{◌≡◌, ℕ, Bool, true, false, List, [], length, Option, Result, Ok, Err, refl, sym, ap, ◌∙◌, subst, not}
use Rattle.mm_transfer.proofs.Below.{bytes_eq, Batch, One, CellFault, PartsFault, Form, Kind, Place, InBasic, InOpt, parts_of, Content}
use Rattle.mm_transfer.proofs.Below.{Snapshot, tag_of, Instance, Digests, digest_of, digest_level, check_by_tests, MovedCell, Link}
use Rattle.mm_transfer.proofs.Below.{IsWaiting, moved_cell_of, waiting_spelling, retired_spelling, barrier_of, is_barred, is_other}
use Rattle.mm_transfer.proofs.Below.{waiting_for, is_same_waiting, invitation_in, is_place_at, ticket_for, offer_by, retirement_by}
use Rattle.mm_transfer.proofs.Below.{retirement_in, refusal_if, place_at, sealed_ticket, bytes_are, bytes_tell, moved_back, Blank, Live}
use Rattle.mm_transfer.proofs.Below.{Waits, Left, digest_mover, Refused, Open, Gone, is_offer_here, verdict_here, invitation_on}
use Rattle.mm_transfer.proofs.Below.{found_retirement_by, retirement_with, retirement_on, waiting_cell_at, retired_cell_at, cell_of_role}
use Rattle.mm_transfer.proofs.Below.{next_cell_if, GivesInvited, GivesTicket, MatchesRole, FitsCell, is_live, Role, ◌∷◌, ◌++◌, History}
use Rattle.mm_transfer.proofs.Below.{requests_of, Header, promises-kept, MoveNotes, no_notes, Pair, BothSides, list_mover}
use Rattle.mm_transfer.proofs.Below.{first_both_by_lists, BothEvent, BothReply, BothRunOutcome, both_outcome, both_outcome_of_events}
use Rattle.mm_transfer.proofs.Below.{both_outcome_by_lists, both_outcome_by_digests, notes_with_effect_if, IsOneLiveFrom}
use Rattle.mm_transfer.proofs.Below.{PairsAgreeThroughout, OneIsLive, SidesRunAsOne, plain_events, plain_replies, history_now, pair_of}
use Rattle.mm_transfer.proofs.Below.{TransferState, first_transfer, transfer_steps, kept_size_of, transfer_text, both_end_line}
use Rattle.mm_transfer.proofs.Below.{IsOneTransfer}
use Rattle.mm_transfer.proofs.SideStands.{read_as, is_waiting, role_read, no_other, not_barred, same_tests, by_not, by_both, past}
use Rattle.mm_transfer.proofs.SideStands.{is_refused}

-- invitations

abbrev waits_nonce : List ℕ → Result MovedCell CellFault → List ℕ
waits_nonce other (Ok (moved.Waiting cell)) = cell.nonce
waits_nonce other read = other

same_nonces : (i : Instance) (one other : List ℕ) → IsWaiting (waiting_cell_at i one) → IsWaiting (waiting_cell_at i other)
    → is_same_waiting (waiting_cell_at i one) (waiting_cell_at i other) ≡ bytes_eq one other
same_nonces i one other p q =
    same_tests (is_same_waiting (waiting_cell_at i one) (waiting_cell_at i other)) (bytes_eq one other) (λ e.
    let read : Ok (moved.Waiting (waiting_cell_at i one)) ≡ Ok (moved.Waiting (waiting_cell_at i other)) =
    sym (moved_back (moved.Waiting (waiting_cell_at i one)) p)
    ∙ ap moved_cell_of (bytes_tell (waiting_spelling (waiting_cell_at i one)) (waiting_spelling (waiting_cell_at i other)) e)
    ∙ moved_back (moved.Waiting (waiting_cell_at i other)) q in bytes_are one other (ap (waits_nonce []) read)) (λ e.
    bytes_are (waiting_spelling (waiting_cell_at i one)) (waiting_spelling (waiting_cell_at i other))
    (ap (λ n. waiting_spelling (waiting_cell_at i n)) (bytes_tell one other e)))

next_waiting : (i : Instance) (link : Link) (nonce : List ℕ) → barrier_of i.variant link ≡ i.barrier
    → waiting_for link i.variant i.meaning.id nonce i.key ≡ waiting_cell_at i nonce
next_waiting i link nonce e = λ j. record {
  variant = i.variant;
  «module» = i.meaning.id;
  nonce = nonce;
  key = i.key;
  barrier = e j;
}

invites : (i : Instance) (link : Link) (role : Role) (d : Digests) (nonce : List ℕ) → FitsCell i link role d → length nonce ≡ 32
    → MatchesRole GivesInvited i role d (invitation_in (waiting_cell_at i nonce) (read_as i role d)) (invitation_on role nonce)
invites i link Blank d nonce fit size = record { next = refl; answer = tt; fits = (fit.fits, size); live = tt }
invites i link Live d nonce fit size = (refl, tt)
invites i link (Left left) d nonce fit size = record { next = refl; answer = tt; fits = (fit.fits.0, size); live = tt }
invites i link (Waits awaited) d nonce fit size =
    by_not GivesInvited i (Waits awaited) d (is_same_waiting (waiting_cell_at i awaited) (waiting_cell_at i nonce))
    (bytes_eq awaited nonce) _ _ _ _
    (same_nonces i awaited nonce (is_waiting i link awaited fit.key fit.barrier fit.linked fit.fits.1)
    (is_waiting i link nonce fit.key fit.barrier fit.linked size))
    (record { next = refl; answer = tt; fits = (fit.fits.0, size); live = tt }) (refl, tt)

pub invites_match : (i : Instance) (link : Link) (role : Role) (d : Digests) (nonce : List ℕ) → FitsCell i link role d → length nonce ≡ 32
    → MatchesRole GivesInvited i role d (invitation_in (waiting_for link i.variant i.meaning.id nonce i.key)
    (moved_cell_of (cell_of_role i role d)))
    (invitation_on role nonce)
invites_match i link role d nonce fit size =
    subst (λ c. MatchesRole GivesInvited i role d (invitation_in c (moved_cell_of (cell_of_role i role d))) (invitation_on role nonce))
    (sym (next_waiting i link nonce fit.linked))
    (subst (λ r. MatchesRole GivesInvited i role d (invitation_in (waiting_cell_at i nonce) r) (invitation_on role nonce)) (sym
    (role_read i link role d fit))
    (invites i link role d nonce fit size))

-- where an offer stands, by the verdict under a clear flag

new_by : (fresh again : Bool) → is_new (verdict_by false fresh again) ≡ fresh
new_by false true = refl
new_by _ again = refl

new_at : (barrier digest register : List ℕ) (place : Place) (b : Batch)
    → is_new (verdict_by_digests barrier false digest register place b) ≡ is_place_at (digest_of digest) place
new_at barrier digest register (InBasic s) b = new_by _ _
new_at barrier digest register (InOpt a e) b = new_by _ _

pub stands_alike : (i : Instance) (d : Digests) (content : Content) → d.flag ≡ false
    → is_offer_here (digest_level i) d content ≡ is_place_at (digest_of d.digest) content.place
stands_alike i d content e =
    ap (λ f. is_new (verdict_by_digests i.barrier f d.digest d.register content.place (One []))) e
    ∙ new_at i.barrier d.digest d.register content.place (One [])

-- retirements

-- what a side says of an offer is the ticket's content
left_content : (i : Instance) (d : Digests) (nonce : List ℕ) (content : Content) → content.id ≡ i.meaning.id
    → ticket_for i.variant nonce (digest_of d.digest) content ≡ record { nonce = nonce; content = digest_mover.says i d content }
left_content i d nonce content e = λ j. record {
  nonce = nonce;
  content = record {
    id = e j;
    place = place_at i.variant (digest_of d.digest);
    position = content.position;
    state = content.state;
  };
}

module _ (i : Instance) (link : Link) (role : Role) (d : Digests) (again : Bool) (next : Option (List ℕ)) (nonce : List ℕ)
    (live : is_live role ≡ not again) (fits : (d.flag ≡ false) × (length nonce ≡ 32) × (length d.digest ≡ 32)) where
  left_match : (content : Content) (spelled tagged fresh : Bool) → next ≡ next_cell_if again (retired_spelling (retired_cell_at i d nonce))
      → content.id ≡ i.meaning.id → fresh ≡ is_place_at (digest_of d.digest) content.place → MatchesRole (GivesTicket link.key) i role d
      (retirement_by i.variant link nonce (digest_of d.digest) next
      (refusal_if (not spelled) (refusal.Core core.State) (refusal_if (not tagged) (refusal.Core core.Tag) (Ok content))))
      (found_retirement_by digest_mover i d again nonce content (check_by_tests spelled tagged (verdict_here fresh) true))
  left_match content false tagged fresh n e s = (refl, tt)
  left_match content true false fresh n e s = (refl, tt)
  left_match content true true true n e s =
      past (GivesTicket link.key) i role d (not (is_place_at (digest_of d.digest) content.place)) _ _ _ (ap not (sym s))
      (record { next = n; answer = ap (sealed_ticket link.key) (left_content i d nonce content e); fits = fits; live = live })
  left_match content true true false n e s =
      is_refused (GivesTicket link.key) i role d (is_place_at (digest_of d.digest) content.place) (refusal.Core core.Stale)
      (Ok (record { next = next; answer = sealed_ticket link.key (ticket_for i.variant nonce (digest_of d.digest) content) }))
      (Refused core.Stale) (sym s) (refl, tt)

  offer_match : (parts : Result Snapshot PartsFault) → ((snapshot : Snapshot) → parts ≡ Ok snapshot → snapshot.content.id ≡ i.meaning.id)
      → next ≡ next_cell_if again (retired_spelling (retired_cell_at i d nonce))
      → MatchesRole (GivesTicket link.key) i role d (retirement_by i.variant link nonce (digest_of d.digest) next
      (offer_by i.meaning i.key parts))
      (retirement_with digest_mover i d again nonce parts)
  offer_match (Err Form) id n = (refl, tt)
  offer_match (Err Kind) id n = (refl, tt)
  offer_match (Ok snapshot) id n =
      left_match snapshot.content (i.meaning.is_spelled snapshot.content.state) (bytes_eq snapshot.tag (tag_of i.key snapshot.content))
      (is_offer_here (digest_level i) d snapshot.content) n (id snapshot refl) (stands_alike i d snapshot.content fits.0)

retires : (i : Instance) (link : Link) (role : Role) (d : Digests) (nonce bytes : List ℕ) → FitsCell i link role d → length nonce ≡ 32
    → MatchesRole (GivesTicket link.key) i role d (retirement_in i.meaning i.variant link nonce bytes (read_as i role d))
    (retirement_on digest_mover i role d nonce bytes)
retires i link Blank d nonce bytes fit size = (refl, tt)
retires i link (Waits awaited) d nonce bytes fit size = (refl, tt)
retires i link Live d nonce bytes fit size =
    let gives = GivesTicket link.key in
    past gives i Live d (is_other i.variant i.meaning.id i.variant i.meaning.id) _ _ _ (no_other i.variant i.meaning.id)
    (past gives i Live d (is_barred i.variant i.barrier link) _ _ _ (not_barred i.variant i.barrier link fit.linked)
    (by_both gives i Live d d.flag _ _ _ Open (refl, tt) (λ clear.
    offer_match i link Live d false _ nonce refl (clear, size, fit.fits.1) (parts_of i.variant i.meaning.id bytes)
    (λ snapshot e. (spells_read i.variant i.meaning.id bytes snapshot e).1.1) refl)))
retires i link (Left left) d nonce bytes fit size =
    let gives = GivesTicket link.key in
    past gives i (Left left) d (is_other i.variant i.meaning.id i.variant i.meaning.id) _ _ _ (no_other i.variant i.meaning.id)
    (by_not gives i (Left left) d (bytes_eq left nonce) (bytes_eq left nonce) _ _ _ Gone refl
    (offer_match i link (Left left) d true _ nonce refl (fit.fits.0, size, fit.fits.2) (parts_of i.variant i.meaning.id bytes)
    (λ snapshot e. (spells_read i.variant i.meaning.id bytes snapshot e).1.1) refl) (refl, tt))

pub retires_match : (i : Instance) (link : Link) (role : Role) (d : Digests) (nonce bytes : List ℕ) → FitsCell i link role d
    → length nonce ≡ 32
    → MatchesRole (GivesTicket link.key) i role d
    (retirement_in i.meaning i.variant link nonce bytes (moved_cell_of (cell_of_role i role d)))
    (retirement_on digest_mover i role d nonce bytes)
retires_match i link role d nonce bytes fit size =
    subst (λ r. MatchesRole (GivesTicket link.key) i role d (retirement_in i.meaning i.variant link nonce bytes r)
    (retirement_on digest_mover i role d nonce bytes)) (sym (role_read i link role d fit)) (retires i link role d nonce bytes fit size)

-- BothSides sides show of events what is told of a whole transfer.

-- the laws of both sides
pub record SideLaws : Type 0 where
  pub agree : PairsAgreeThroughout
  pub live : OneIsLive
  pub run : SidesRunAsOne
  pub decided : PairsAreDecided

-- at the end of the events too at most one side is live
at_the_end : (pair : Pair) (both : BothSides History History) (notes : MoveNotes) (events : List BothEvent)
    → IsOneLiveFrom pair both notes events
    → AreNotBothLive (both_outcome_of_events list_mover pair both events).both.first.role
    (both_outcome_of_events list_mover pair both events).both.second.role
at_the_end pair both notes [] h = h
at_the_end pair both notes (event ∷ events) h =
    let o = both_outcome list_mover pair both event in at_the_end pair o.both (notes_with_effect_if o.effect notes) events h.2

-- the laws give what is promised of the events
one_transfer : SideLaws → (header : Header) (events : List BothEvent) → IsClearPair (pair_of header) events
    → IsGenuinePair (pair_of header) events
    → IsFreshPair (pair_of header) events → IsOneTransfer header events (both_outcome_by_digests (pair_of header) events)
one_transfer laws header events clear genuine fresh =
    let pair = pair_of header in
    let lists : BothRunOutcome History History = both_outcome_by_lists pair events in
    let it : BothRunOutcome Digests ℕ = both_outcome_by_digests pair events in
    let a = laws.agree pair events clear genuine fresh in
    let r = laws.run pair events fresh in
    let requests = requests_of (history_now lists.both).batches in
    let one = laws.live pair events fresh in
    let ran = subst (λ (rs : List BothReply). IsEventRun pair.meaning [] (plain_events events) (plain_replies rs) requests)
    (sym a.replies) r.runs in
    let end = at_the_end pair (first_both_by_lists pair) no_notes events one in
    record {
      requests = requests;
      runs = ran;
      judged = a.replies;
      count = a.committed ∙ r.count;
      shown = record { first = a.first.issued; second = a.second.issued; tickets = a.tickets };
      live = subst (λ (x : Role). AreNotBothLive it.both.first.role x) (sym a.second.role)
          (subst (λ (x : Role). AreNotBothLive x lists.both.second.role) (sym a.first.role) end);
      entered = one;
      promised = promises-kept header.«module» (plain_events events) (plain_replies it.replies) requests ran;
    }

-- what is shown of events
abbrev pub shown_in : Header → List BothEvent → BothRunOutcome Digests ℕ
shown_in header events = both_outcome_by_digests (pair_of header) events

-- of each first part of the events
pub are_one_transfer : SideLaws → (header : Header) (events : List BothEvent) → AreOneTransfer header events (shown_in header)
are_one_transfer laws header events front later split = (
  refl,
  elim (laws.decided (pair_of header) front).decided [ inl p ↦ inl (one_transfer laws header front p.0 p.1 p.2) | inr e ↦ inr e ],
)

-- what follows of it

pub premises_give : PairsAreDecided → PremisesGiveOneTransfer
premises_give decided header events shown one front later is clear genuine fresh = elim (one front later is).1 [
  | inl run ↦ run
  | inr evidence ↦ absurd ((decided (pair_of header) front).apart clear genuine fresh evidence)
]

-- no event at all is one transfer
none_is_one : (header : Header) → IsOneTransfer header [] (shown_in header [])
none_is_one header = record {
  requests = [];
  runs = refl;
  judged = refl;
  count = refl;
  shown = record { first = refl; second = refl; tickets = refl };
  live = λ is. refl;
  entered = λ is. refl;
  promised = promises-kept header.«module» [] [] [] refl;
}

pub until_evidence : PairsAreDecided → OneTransferUntilEvidence
until_evidence decided header events shown one =
    let pair = pair_of header in
    runs_until (HasPairEvidence pair) (MeetsPairPremises pair) (known_pairs decided pair) events
    (λ front. IsOneTransfer header front (shown front))
    (subst (IsOneTransfer header []) (sym (one [] events refl).0) (none_is_one header))
    (λ front later is meets. premises_give decided header events shown one front later is meets.0 meets.1 meets.2)

pub transfers_go_on : PairsGoOn → TransfersGoOn
transfers_go_on law header events shown one front rest is =
    let pair = pair_of header in
    (one events [] (sym (append-nil events))).0 ∙ ap (λ (es : List BothEvent). both_outcome_by_digests pair es) is ∙ (law pair front rest).1
    ∙ ap (λ (it : BothRunOutcome Digests ℕ). both_outcome_joined it (both_outcome_of_events digest_mover pair it.both rest))
    (sym (one front rest is).0)

-- what stands behind events, and what was written
abbrev followed_in : TransferState → List BothEvent → BothRunOutcome Digests ℕ
followed_in r events = both_outcome_of_events digest_mover (pair_of r.header) r.both events

both_behind : (events : List BothEvent) (r : TransferState) → (state_behind_events transfer_steps r events).both
    ≡ (followed_in r events).both
both_behind [] r = refl
both_behind (event ∷ events) r = both_behind events (transfer_steps.after r event)

texts_behind : (events : List BothEvent) (r : TransferState) → answers_text events (followed_in r events).replies
    ≡ replies transfer_steps r events
texts_behind [] r = refl
texts_behind (event ∷ events) r =
    ap (λ (text : List ℕ). transfer_text r event ++ text) (texts_behind events (transfer_steps.after r event))

pub shows : StageShows transfer_player transfer_heads transfer_stage transfer_steps first_transfer shown_in
shows = record {
  takes = record { answers = λ r line. refl; reads = λ r event. refl; counts = λ r event. refl };
  leads = λ at line. refl;
  reads = λ header. refl;
  first = λ header. refl;
  text = λ header events. texts_behind events (first_transfer header);
  last = λ header events. ap (λ (both : BothSides Digests ℕ). both_end_line both) (sym (both_behind events (first_transfer header)));
  kept = λ header events. ap (λ (both : BothSides Digests ℕ). kept_size_of both) (sym (both_behind events (first_transfer header)));
}
