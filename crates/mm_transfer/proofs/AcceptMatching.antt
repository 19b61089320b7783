-- What an acceptance finds in a side's cell is what it finds by the side's role. With it: an
-- acceptance on a side comes to what it comes to by digests.
use Rattle.mm_digest.specs.declared.digest.Digest.{Digest}
use Rattle.mm_digest.specs.declared.variant.Variant.TheVariants as variants
use Rattle.mm_model.specs.Verdicts.{is_fresh_form}
use Rattle.mm_model.specs.declared.refusal.Refusal.TheVariants as core
use Rattle.mm_move.specs.Orders as orders
use Rattle.mm_move.specs.declared.accepting.Accepted.{Accepted}
use Rattle.mm_move.specs.declared.refusal.MoveRefusal.TheVariants as refusal
use Rattle.mm_transfer.specs.declared.reply.MoveReply.TheVariants as reply
use Rattle.mm_transfer.proofs.Below.{◌≡◌, ℕ, Bool, true, false, List, [], ◌∷◌, length, None, Result, Ok, Err, refl, sym, ap, ◌∙◌, subst}
use Rattle.mm_transfer.proofs.Below.{◌&&◌, ◌||◌, not, if◌then◌else◌, list_any, bytes_eq, Variant, zero_bytes, anchored_digest_of, Meaning}
use Rattle.mm_transfer.proofs.Below.{PartsFault, Form, Kind, Place, InBasic, InOpt, variant_of, Instance, Digests, digest_of, Refusal}
use Rattle.mm_transfer.proofs.Below.{digest_level, cell_at, Link, MoveRefusal, moved_cell_of, is_barred, is_other, is_place_at}
use Rattle.mm_transfer.proofs.Below.{acceptance_of, acceptance_by, acceptance_again_by, acceptance_in, refusal_if, TicketContent}
use Rattle.mm_transfer.proofs.Below.{TaggedTicket, IsTicket, SpellsTicket, summary_in, place_at, ticket_of, bytes_are, bytes_tell}
use Rattle.mm_transfer.proofs.Below.{tickets_are_read, Blank, Live, Waits, Left, Enters, Refused, is_offer_here, ticket_by, entry_by_ticket}
use Rattle.mm_transfer.proofs.Below.{repeated_entry, acceptance_on, waiting_cell_at, cell_of_role, GivesEntry, IsSaid, MatchesRole}
use Rattle.mm_transfer.proofs.Below.{FitsCell, IsPlace, Role, ◌++◌, Some, inl, inr, arith, length-append, MatchResult, Memory, Meddle, Stop}
use Rattle.mm_transfer.proofs.Below.{Standing, walk, course_of, offered_bytes, Offer, Content, sealed_snapshot_of, Effect, is_live}
use Rattle.mm_transfer.proofs.Below.{role_after, SideName, Pair, key_of, instance_on, BothSides, digest_mover, DenialCause, FoundMove}
use Rattle.mm_transfer.proofs.Below.{Accept, ticket_in, move_steps, effect_of, sides_after_issue, effect_reply, found_acceptance}
use Rattle.mm_transfer.proofs.Below.{IssuedTickets, MoveReply, CodeSide, TellsEntry, both_with, outcome_of_command, FitsIssuedTickets}
use Rattle.mm_transfer.proofs.Below.{CommandDone, command_reach, CommandLacks, has_moved, link_of, role_in, at_in, FitsSide, move_reply_of}
use Rattle.mm_transfer.proofs.Below.{digests_after_move, GivesEntryBy, FitsLive}
use Rattle.mm_transfer.proofs.Commanded.{by_known, IsIdle, chosen, whole, tell, Told, told_still, move_done, Named, moved_by}
use Rattle.mm_transfer.proofs.Commanding.{Knows, KnowsOf, Came, came_by, at_then, away_then}
use Rattle.mm_transfer.proofs.Matching.{stands_alike}
use Rattle.mm_transfer.proofs.Retiring.{err_match, lacks_done, SameSide, unissued_done}
use Rattle.mm_transfer.proofs.SideStands.{read_as, role_read, no_other, not_barred, eq_turned, by_not, past, variant_by, meaning_by}
use Rattle.mm_transfer.proofs.SideStands.{KeepsFor, same_keeps}

-- acceptances

abbrev refused_core : Result TicketContent Refusal → Result TicketContent MoveRefusal
refused_core (Ok ticket) = Ok ticket
refused_core (Err why) = Err (refusal.Core why)

by_tests : (spelled tagged : Bool) (ticket : TicketContent)
    → refusal_if (not spelled) (refusal.Core core.State) (refusal_if (not tagged) (refusal.Core core.Tag) (Ok ticket))
    ≡ refused_core (if spelled then (if tagged then Ok ticket else Err core.Tag) else Err core.State)
by_tests true true ticket = refl
by_tests _ tagged ticket = refl

same_ticket : (meaning : Meaning) (key : List ℕ) (read : Result TaggedTicket PartsFault)
    → orders.ticket_by meaning key read ≡ refused_core (ticket_by meaning key read)
same_ticket meaning key (Err Form) = refl
same_ticket meaning key (Err Kind) = refl
same_ticket meaning key (Ok tagged) = by_tests _ _ tagged.ticket

-- what is known of a ticket that reads as right: it is for this variant and module, and at an anchor
pub record IsFor (i : Instance) (ticket : TicketContent) : Type 0 where
  pub is : IsTicket ticket
  pub variant_is : variant_of ticket.content.place ≡ i.variant
  pub id_is : ticket.content.id ≡ i.meaning.id

abbrev pub AreFor : Instance → Result TicketContent Refusal → Type 0
AreFor i (Ok ticket) = IsFor i ticket
AreFor i (Err why) = IsSaid (Refused why)

for_by : (i : Instance) (tagged : TaggedTicket) (spelled right : Bool) → IsFor i tagged.ticket
    → AreFor i (if spelled then (if right then Ok tagged.ticket else Err core.Tag) else Err core.State)
for_by i tagged true true h = h
for_by i tagged true false h = tt
for_by i tagged false right h = tt

for_read : (i : Instance) (link bytes : List ℕ) (read : Result TaggedTicket PartsFault) → ticket_of i.variant i.meaning.id bytes ≡ read
    → AreFor i (ticket_by i.meaning link read)
for_read i link bytes (Err Form) e = tt
for_read i link bytes (Err Kind) e = tt
for_read i link bytes (Ok tagged) e =
    let s : SpellsTicket i.variant i.meaning.id bytes tagged = (tickets_are_read i.variant i.meaning.id bytes tagged).0 e in
    for_by i tagged _ _ (record { is = s.is.ticket; variant_is = s.variant_is; id_is = s.id_is })

pub ticket_for_side : (i : Instance) (link bytes : List ℕ) → AreFor i (ticket_by i.meaning link (ticket_of i.variant i.meaning.id bytes))
ticket_for_side i link bytes = for_read i link bytes (ticket_of i.variant i.meaning.id bytes) refl

-- what a side says of a ticket at whose summary it stands is the ticket's content
said_content : (i : Instance) (digest : List ℕ) (ticket : TicketContent) → IsFor i ticket → (summary_in ticket.content.place).bytes ≡ digest
    → ticket.content ≡ record {
      id = i.meaning.id;
      place = place_at i.variant (digest_of digest);
      position = ticket.content.position;
      state = ticket.content.state;
    }
said_content i digest ticket is stands =
    let place : ticket.content.place ≡ place_at i.variant (digest_of digest) =
    is.is.place ∙ ap (λ v. place_at v (summary_in ticket.content.place)) is.variant_is
    ∙ ap (λ s. place_at i.variant (digest_of s)) stands in
    λ j. record {
      id = is.id_is j;
      place = place j;
      position = ticket.content.position;
      state = ticket.content.state;
    }

place_size : (place : Place) → IsPlace place → length (summary_in place).bytes ≡ 32
place_size (InBasic s) is = is
place_size (InOpt a e) is = is.0

entered_match : (i : Instance) (d : Digests) (awaited : List ℕ) (read : Result TicketContent Refusal) → AreFor i read
    → MatchesRole (GivesEntry i d) i (Waits awaited) d (acceptance_by (waiting_cell_at i awaited) (refused_core read))
    (entry_by_ticket awaited read)
entered_match i d awaited (Err why) is = (refl, is)
entered_match i d awaited (Ok ticket) is =
    by_not (GivesEntry i d) i (Waits awaited) d (bytes_eq ticket.nonce awaited) (bytes_eq awaited ticket.nonce) _ _ _ _
    (eq_turned ticket.nonce awaited)
    (record {
      next = refl;
      answer = ap (acceptance_of i.key) (said_content i (summary_in ticket.content.place).bytes ticket is refl);
      fits = place_size ticket.content.place is.is.content.place;
      live = refl;
    }) (refl, tt)

-- where a place at an anchor stands

and_or : (x : Bool) → ((x && true) || false) ≡ x
and_or true = refl
and_or false = refl

one_form : (anchor extension digest : List ℕ) (closed : Bool) → closed ≡ true → bytes_eq extension zero_bytes ≡ true
    → list_any (is_fresh_form false digest zero_bytes) (record { anchor = anchor; extension = extension }
    ∷ (if closed then [] else record { anchor = anchored_digest_of anchor extension; extension = zero_bytes } ∷ []))
    ≡ bytes_eq anchor digest
one_form anchor extension digest false e z = cc
one_form anchor extension digest true e z = ap (λ x. (bytes_eq anchor digest && x) || false) z ∙ and_or (bytes_eq anchor digest)

anchor_stands : (variant : Variant) (summary : Digest) (digest : List ℕ)
    → is_place_at (digest_of digest) (place_at variant summary) ≡ bytes_eq summary.bytes digest
anchor_stands variants.Basic summary digest = refl
anchor_stands variants.Opt summary digest =
    one_form summary.bytes zero_bytes digest (bytes_eq zero_bytes zero_bytes) (bytes_are zero_bytes zero_bytes refl)
    (bytes_are zero_bytes zero_bytes refl)

ticket_stands : (i : Instance) (d : Digests) (ticket : TicketContent) → IsFor i ticket → d.flag ≡ false
    → bytes_eq (summary_in ticket.content.place).bytes d.digest ≡ is_offer_here (digest_level i) d ticket.content
ticket_stands i d ticket is clear =
    sym (stands_alike i d ticket.content clear ∙ ap (is_place_at (digest_of d.digest)) is.is.place
    ∙ anchor_stands (variant_of ticket.content.place) (summary_in ticket.content.place) d.digest)

again_by : (i : Instance) (d : Digests) (ticket : TicketContent) → IsFor i ticket → (flag here stands : Bool) → d.flag ≡ flag
    → bytes_eq (summary_in ticket.content.place).bytes d.digest ≡ here → (flag ≡ false → here ≡ stands)
    → MatchesRole (GivesEntry i d) i Live d
    (refusal_if (flag || not here) (refusal.Core core.Stale) (Ok (record { next = None; answer = acceptance_of i.key ticket.content })))
    (if flag then Err (Refused core.Stale)
    else (if stands then Ok (record { again = true; effect = Enters ticket }) else Err (Refused core.Stale)))
again_by i d ticket is true here stands f h s = (refl, tt)
again_by i d ticket is false true true f h s =
    record {
      next = refl;
      answer = ap (acceptance_of i.key) (said_content i d.digest ticket is (bytes_tell (summary_in ticket.content.place).bytes d.digest h));
      fits = place_size ticket.content.place is.is.content.place;
      live = refl;
    }
again_by i d ticket is false false false f h s = (refl, tt)
again_by i d ticket is false true false f h s = let e = s refl in cc
again_by i d ticket is false false true f h s = let e = s refl in cc

again_match : (i : Instance) (d : Digests) (read : Result TicketContent Refusal) → AreFor i read
    → MatchesRole (GivesEntry i d) i Live d (acceptance_again_by (cell_at i d) (refused_core read)) (repeated_entry (digest_level i) d read)
again_match i d (Err why) is = (refl, is)
again_match i d (Ok ticket) is =
    again_by i d ticket is d.flag (bytes_eq (summary_in ticket.content.place).bytes d.digest)
    (is_offer_here (digest_level i) d ticket.content)
    refl refl (ticket_stands i d ticket is)

accepts : (i : Instance) (link : Link) (role : Role) (d : Digests) (bytes : List ℕ) → FitsCell i link role d
    → MatchesRole (GivesEntry i d) i role d (acceptance_in i.meaning i.variant link bytes (read_as i role d))
    (acceptance_on (digest_level i) role d (ticket_by i.meaning link.key (ticket_of i.variant i.meaning.id bytes)))
accepts i link Blank d bytes fit = (refl, tt)
accepts i link (Left left) d bytes fit = (refl, tt)
accepts i link (Waits awaited) d bytes fit =
    let gives = GivesEntry i d in
    let read = ticket_by i.meaning link.key (ticket_of i.variant i.meaning.id bytes) in
    past gives i (Waits awaited) d (is_other i.variant i.meaning.id i.variant i.meaning.id) _ _ _ (no_other i.variant i.meaning.id)
    (past gives i (Waits awaited) d (is_barred i.variant i.barrier link) _ _ _ (not_barred i.variant i.barrier link fit.linked)
    (subst (λ r. MatchesRole gives i (Waits awaited) d (acceptance_by (waiting_cell_at i awaited) r) (entry_by_ticket awaited read))
    (sym (same_ticket i.meaning link.key (ticket_of i.variant i.meaning.id bytes)))
    (entered_match i d awaited read (ticket_for_side i link.key bytes))))
accepts i link Live d bytes fit =
    let gives = GivesEntry i d in
    let read = ticket_by i.meaning link.key (ticket_of i.variant i.meaning.id bytes) in
    past gives i Live d (is_other i.variant i.meaning.id i.variant i.meaning.id) _ _ _ (no_other i.variant i.meaning.id)
    (past gives i Live d (is_barred i.variant i.barrier link) _ _ _ (not_barred i.variant i.barrier link fit.linked)
    (subst (λ r. MatchesRole gives i Live d (acceptance_again_by (cell_at i d) r) (repeated_entry (digest_level i) d read))
    (sym (same_ticket i.meaning link.key (ticket_of i.variant i.meaning.id bytes)))
    (again_match i d read (ticket_for_side i link.key bytes))))

pub accepts_match : (i : Instance) (link : Link) (role : Role) (d : Digests) (bytes : List ℕ) → FitsCell i link role d
    → MatchesRole (GivesEntry i d) i role d (acceptance_in i.meaning i.variant link bytes (moved_cell_of (cell_of_role i role d)))
    (acceptance_on (digest_level i) role d (ticket_by i.meaning link.key (ticket_of i.variant i.meaning.id bytes)))
accepts_match i link role d bytes fit =
    subst (λ r. MatchesRole (GivesEntry i d) i role d (acceptance_in i.meaning i.variant link bytes r)
    (acceptance_on (digest_level i) role d (ticket_by i.meaning link.key (ticket_of i.variant i.meaning.id bytes))))
    (sym (role_read i link role d fit)) (accepts i link role d bytes fit)

-- An acceptance on a side comes to what it comes to by digests.

-- its effect is that the module enters
record IsEntered (role : Role) (d : Digests) (away : ℕ) (kept : List ℕ) (again : Bool) (effect : Effect) : Type 0 where
  live : not (is_live role) ≡ not again
  count : (at_then away d (Some effect)).count ≡ away
  away_is : away ≡ away_then away d (Some effect)
  keeps : KeepsFor (role_after effect) kept (at_then away d (Some effect))

is_entered : (i : Instance) (role : Role) (d x : Digests) (away : ℕ) (kept : List ℕ) (again : Bool) (effect : Effect) (accepted : Accepted)
    → GivesEntryBy i x effect accepted → FitsLive role again effect → IsEntered role d away kept again effect
is_entered i role d x away kept again (Enters ticket) accepted g live = record { live = live; count = refl; away_is = refl; keeps = tt }
is_entered i role d x away kept again effect accepted g live = absurd g

-- what a side says of a content depends on its digest alone
said_as : (i : Instance) (x y : Digests) (content : Content) → x.digest ≡ y.digest
    → digest_mover.says i x content ≡ digest_mover.says i y content
said_as i x y content e = λ j. record {
  id = i.meaning.id;
  place = place_at i.variant (digest_of (e j));
  position = content.position;
  state = content.state;
}

stood_digest : (d : Digests) (away : ℕ) (again : Bool) (ticket : TicketContent)
    → (at_then away d (if again then None else Some (Enters ticket))).digest
    ≡ (digests_after_move d (record { again = again; effect = Enters ticket })).digest
stood_digest d away true ticket = refl
stood_digest d away false ticket = refl

handed_entry : (pair : Pair) (i : Instance) (both : BothSides Digests ℕ) (d : Digests) (away : ℕ) (again : Bool) (effect : Effect)
    (accepted : Accepted) → GivesEntryBy i (digests_after_move d (record { again = again; effect = effect })) effect accepted
    → both.first.at.digest ≡ (at_then away d (if again then None else Some effect)).digest
    → (reply.Entered accepted.position ≡ move_reply_of (effect_reply digest_mover i both effect))
    × (sides_after_issue digest_mover pair i both effect
    ≡ record both { first = record both.first { issued = both.first.issued ++ accepted.snapshot ∷ [] } })
handed_entry pair i both d away again (Enters ticket) accepted g at =
    let same = said_as i both.first.at (digests_after_move d (record { again = again; effect = Enters ticket })) ticket.content
    (at ∙ stood_digest d away again ticket) in (
      ap (λ (a : Accepted). reply.Entered a.position) g,
      (λ j. record both { first = record both.first { issued = both.first.issued ++ sealed_snapshot_of i.key (same j) ∷ [] } })
          ∙ (λ j. record both { first = record both.first { issued = both.first.issued ++ (sym g j).snapshot ∷ [] } }),
    )
handed_entry pair i both d away again effect accepted g at = absurd g

accepts_pair : (pair : Pair) (which : SideName) (role : Role) (d : Digests) (bytes : List ℕ)
    → FitsCell (instance_on pair which) (link_of pair) role d → (let i = instance_on pair which in
    MatchesRole (GivesEntry i d) i role d (acceptance_in pair.meaning pair.variant (link_of pair) bytes
    (moved_cell_of (cell_of_role i role d)))
    (acceptance_on (digest_level i) role d (ticket_in pair bytes)))
accepts_pair pair which role d bytes fit =
    let i = instance_on pair which in
    let v = variant_by pair.variant pair.meaning (key_of pair which) pair.barrier in
    let m = meaning_by pair.variant pair.meaning (key_of pair which) pair.barrier in
    subst (λ variant. MatchesRole (GivesEntry i d) i role d
    (acceptance_in pair.meaning variant (link_of pair) bytes (moved_cell_of (cell_of_role i role d)))
    (acceptance_on (digest_level i) role d (ticket_by pair.meaning pair.link (ticket_of variant pair.meaning.id bytes)))) v
    (subst (λ (meaning : Meaning). MatchesRole (GivesEntry i d) i role d
    (acceptance_in meaning i.variant (link_of pair) bytes (moved_cell_of (cell_of_role i role d)))
    (acceptance_on (digest_level i) role d (ticket_by meaning pair.link (ticket_of i.variant meaning.id bytes)))) m
    (accepts_match i (link_of pair) role d bytes fit))

-- the platform is as the move left it, and so is what is kept of the digest
entered_over : (live : Bool) (away : ℕ) (stop : Stop) (came : Result Accepted MoveRefusal) (mid new : CodeSide)
    (result : Result MoveReply Memory) → TellsEntry live away stop came mid new result
    → (new.seat.platform ≡ mid.seat.platform) × (new.digest ≡ mid.digest)
entered_over live away stop (Ok accepted) mid new result e = (e.platform, e.digest)
entered_over live away stop (Err why) mid new result e = (e.platform, e.digest)

-- with what the offer named
pub accepted_done : (pair : Pair) (which : SideName) (offer : Offer) (stop : Stop) (meddles : List Meddle) (old mid new : CodeSide)
    (between : IssuedTickets) (live : Bool) (cell : List ℕ) (came : Result Accepted MoveRefusal) (result : Result MoveReply Memory)
    → Named (λ bytes (cell : List ℕ). acceptance_in pair.meaning pair.variant (link_of pair) bytes (moved_cell_of cell)) stop meddles
    (offered_bytes between.tickets.items offer) old.seat.platform mid.seat.platform came → live ≡ is_live (role_in (Some cell))
    → old.seat.platform.cell ≡ Some cell → SameSide old mid → TellsEntry live between.away stop came mid new result
    → FitsSide pair which old
    → FitsIssuedTickets between
    → MatchResult result (CommandDone pair which (command_reach old between) (command_reach new between)
    (outcome_of_command pair which (command_reach old between) meddles stop (Accept offer)))
    (λ _. CommandLacks pair which meddles stop (command_reach old between) (command_reach new between))
accepted_done pair which offer stop meddles old mid new between live cell came result named lives holds s entered fits counted =
    let i = instance_on pair which in
    let role = role_in old.seat.platform.cell in
    let d = at_in old in
    let away = between.away in
    let gives = GivesEntry i d in
    let over = entered_over live away stop came mid new result entered in
    let keeps = same_keeps old new (over.1 ∙ s.digest) in
    let lives' : live ≡ is_live role = lives ∙ ap (λ x. is_live (role_in x)) (sym holds) in
    elim (named.planned i d (cell_of_role i role d) fits.stands.cell fits.stands.register fits.quiet) [
      | inl made ↦
          let found = acceptance_on (digest_level i) role d (ticket_in pair named.bytes) in
          let fates = (course_of stop meddles).fates in
          let effect = effect_of fates found in
          let c = subst (λ (x : Standing). Came gives i role d stop meddles found x came) (sym over.0)
          (came_by gives i role d stop meddles mid.seat.platform came _ found
          (accepts_pair pair which role d named.bytes fits.stands.fits) made) in
          let enters = λ (it : FoundMove) (k : Knows gives role d it).
          is_entered i role d (digests_after_move d it) away new.digest.bytes it.again it.effect k.answer k.gave k.live in
          let same = λ (moved : Bool) (f : Result FoundMove DenialCause) (k : KnowsOf gives role d f).
          by_known gives role d (λ e. away ≡ away_then away d e) moved f k refl (λ it k. (enters it k).away_is) in
          let count = λ (moved : Bool) (f : Result FoundMove DenialCause) (k : KnowsOf gives role d f) (idle : IsIdle moved f).
          chosen gives role d (not live) moved away d.count (λ e. (at_then away d e).count) f k idle refl
          (λ it k. (ap not lives' ∙ (enters it k).live, (enters it k).count)) in
          let t = tell gives pair i role d stop (walk fates 1 (move_steps found)).broken found effect came
          (λ b f e. Told pair i stop b f e result old new between between d) c.says (moved_by stop meddles found) c.knows
          (λ why e r. let t = subst (λ (c : Result Accepted MoveRefusal). TellsEntry live away stop c mid new result) e entered in
          told_still pair i stop _ found effect why result old new between between d r t.says (t.issued ∙ s.issued) refl
          refl counted (t.committed ∙ ap (λ n. if not live && has_moved stop why then away else n) s.committed
          ∙ count (has_moved stop why) found c.knows r.idle) (same (has_moved stop why) found c.knows))
          (λ it accepted e g k. let t = subst (λ (c : Result Accepted MoveRefusal). TellsEntry live away stop c mid new result) e entered in
          let issued = t.issued ∙ ap (λ (x : List (List ℕ)). x ++ accepted.snapshot ∷ []) s.issued in
          record {
            said = reply.Entered accepted.position;
            is = t.says;
            ends = λ both h own all. let x = handed_entry pair i both d away it.again it.effect accepted g h in (
              x.0,
              x.1 ∙ (λ j. record both {
                first = record both.first {
                  issued = (ap (λ (y : List (List ℕ)). y ++ accepted.snapshot ∷ []) own ∙ sym issued) j;
                };
                tickets = all j;
              }),
            );
            position = t.committed ∙ turned live mid.seat.committed away ∙ ap (λ n. if not live then away else n) s.committed
                ∙ whole (not live) away d.count ∙ count true (Ok it) k tt;
            away = same true (Ok it) k;
            between = counted;
            issued = let n = ap length issued in
                let m = length-append old.seat.issued.items (accepted.snapshot ∷ []) in omega (arith, n, m);
            tickets = omega arith;
          }) in
          move_done gives pair which stop meddles (Accept offer) found old new between between came result fits c t keeps
          (λ it k. (enters it k).keeps)
          (λ other committed. ap (found_acceptance digest_mover pair i (both_with old between other committed).first)
          named.names)
      | inr w ↦
          let t = subst (λ (c : Result Accepted MoveRefusal). TellsEntry live away stop c mid new result) w.says entered in
          err_match _ _ result t.says
          (lacks_done pair which stop meddles old new between between old.seat.platform mid.seat.platform came fits w refl t.platform
          (t.committed ∙ never live mid.seat.committed away ∙ s.committed) keeps (t.issued ∙ s.issued) refl refl refl)
    ]
  where
    turned : (live : Bool) (position away : ℕ) → (if live then position else away) ≡ (if not live then away else position)
    turned true position away = refl
    turned false position away = refl

    never : (live : Bool) (position away : ℕ) → (if not live && false then away else position) ≡ position
    never true position away = refl
    never false position away = refl

-- a ticket that isn't issued
pub accepted_unissued : (pair : Pair) (which : SideName) (offer : Offer) (stop : Stop) (meddles : List Meddle) (old new : CodeSide)
    (between : IssuedTickets) → (offered_bytes between.tickets.items offer ≡ None) × (new.seat.platform ≡ old.seat.platform)
    → SameSide old new
    → FitsSide pair which old → FitsIssuedTickets between
    → CommandDone pair which (command_reach old between) (command_reach new between)
    (outcome_of_command pair which (command_reach old between) meddles stop (Accept offer)) reply.NoTicket
accepted_unissued pair which offer stop meddles old new between none s fits counted =
    unissued_done pair which stop meddles (Accept offer) reply.NoTicket old new between between fits counted none.1 s
    (record { tickets = refl; kept = refl; away = refl }) refl
    (λ other committed. ap (found_acceptance digest_mover pair (instance_on pair which) (both_with old between other committed).first)
    none.0)
