-- An invitation to a side, and a retirement of it, come to what they come to by digests. With it: a
-- command for which memory was wanting, or whose offer names nothing.
use Rattle.mm_world.specs.declared.seat.Seat.{Seat}
use Rattle.mm_transfer.specs.declared.reply.MoveReply.TheVariants as reply
use Rattle.mm_transfer.proofs.Below.{◌≡◌, ℕ, List, length, None, Some, Result, Ok, Err, IsErr, inl, inr, refl, sym, ap, ◌∙◌, subst, arith}
use Rattle.mm_transfer.proofs.Below.{MatchResult, sum_by, Memory, Meddle, Stop, Standing, Instance, Digests, register_reading, course_of}
use Rattle.mm_transfer.proofs.Below.{IsQuiet, MoveRefusal, SideName, Pair, instance_on, SideState, digest_mover, MoveCommand, found_command}
use Rattle.mm_transfer.proofs.Below.{outcome_if_found, unissued_reply, IssuedTickets, MoveReply, CodeSide, both_with, command_reach}
use Rattle.mm_transfer.proofs.Below.{outcome_of_command, FitsIssuedTickets, CommandDone, CommandLacks, role_in, at_by, at_in, side_in}
use Rattle.mm_transfer.proofs.Below.{Reads, [], ◌∷◌, ◌⊎◌, moves_seen, state_after_moves, digest_level, within_64, FitsSide, WantsMemory}
use Rattle.mm_transfer.proofs.Below.{move_reply_of, ◌+◌, ◌&&◌, Bool, true, not, ◌++◌, length-append, if◌then◌else◌, Meaning, walk}
use Rattle.mm_transfer.proofs.Below.{offered_bytes, Offer, Link, moved_cell_of, waiting_for, invitation_in, retirement_in, Invited, Role}
use Rattle.mm_transfer.proofs.Below.{Effect, Invites, Leaves, is_live, key_of, BothSides, FoundMove, DenialCause, Invite, Retire}
use Rattle.mm_transfer.proofs.Below.{invitation_on, retirement_on, move_steps, effect_of, sides_after_issue, effect_reply, found_retirement}
use Rattle.mm_transfer.proofs.Below.{role_after, TellsInvitation, KeepsDigest, TellsRetirement, has_moved, link_of, MovesByPlan}
use Rattle.mm_transfer.proofs.Below.{cell_of_role, GivesInvited, GivesInvitedBy, GivesTicket, GivesTicketBy, FitsLive, false, kept_more}
use Rattle.mm_transfer.proofs.Commanded.{by_known, IsIdle, chosen, whole, tell, Told, told_still, move_done, Named, made_if, moved_by}
use Rattle.mm_transfer.proofs.Commanding.{seen_digests, Knows, KnowsOf, came_by, at_then, away_then}
use Rattle.mm_transfer.proofs.Matching.{invites_match, retires_match}
use Rattle.mm_transfer.proofs.SideStands.{KeepsFor, same_keeps, side_stays, variant_by, meaning_by, key_by, keeps_equal}

-- A command for which memory was wanting, or whose offer names nothing.

-- want of memory

pub err_match : (P : MoveReply → Type 0) (Q : Type 0) (result : Result MoveReply Memory) → IsErr result → Q → MatchResult result P (λ _. Q)
err_match P Q (Ok said) is q = absurd (cc)
err_match P Q (Err memory) is q = q

-- the register has the value that it had, or that it has once the first step is made
abbrev IsReached : Instance → Digests → List Meddle → Stop → List ℕ → Type 0
IsReached i d meddles stop value =
    (value ≡ d.register)
    ⊎ (value ≡ (state_after_moves (digest_level i) d (moves_seen (course_of stop meddles).fates (Reads ∷ []) 1)).register)

-- a side whose cell is as it was
lacks_side : (pair : Pair) (which : SideName) (stop : Stop) (meddles : List Meddle) (old new : CodeSide)
    (was now : IssuedTickets) (value : List ℕ)
    → IsReached (instance_on pair which) (at_in old) meddles stop value → FitsSide pair which old
    → new.seat.platform.cell ≡ old.seat.platform.cell → register_reading new.seat.platform ≡ Some value → IsQuiet new.seat.platform
    → new.seat.committed ≡ old.seat.committed → KeepsFor (role_in old.seat.platform.cell) new.digest.bytes (at_in old)
    → new.seat.issued.items ≡ old.seat.issued.items → now.tickets.items ≡ was.tickets.items → now.kept ≡ was.kept → now.away ≡ was.away
    → CommandLacks pair which meddles stop (command_reach old was) (command_reach new now)
lacks_side pair which stop meddles old new was now value reached fits cell register quiet position keeps issued tickets counted away =
    let i = instance_on pair which in
    let d = at_in old in
    let is = side_stays pair which old new value fits cell register quiet position keeps in
    let side = λ (seen : Digests) (e : record d { register = value } ≡ seen).
    let at = is.at_is ∙ e in
    let whole : side_in new ≡ record (side_in old) { at = seen } =
    (λ j. record { role = is.role_is j; at = at j; issued = issued j }) in whole in
    record {
      fits = is.fits;
      side = elim reached [
        | inl e ↦ inl (side d (λ j. record d { register = e j }))
        | inr e ↦
            let fates = (course_of stop meddles).fates in
            let seen : Digests = state_after_moves (digest_level i) d (moves_seen fates (Reads ∷ []) 1) in
            inr (side seen ((λ j. record d { register = e j }) ∙ sym (seen_digests i d fates (Reads ∷ []) 1)))
      ];
      committed = position;
      tickets = tickets;
      kept = counted;
      away = away;
    }

pub lacks_done : {A : Type 0} (pair : Pair) (which : SideName) (stop : Stop) (meddles : List Meddle) (old new : CodeSide)
    (was now : IssuedTickets)
    (from to : Standing) (came : Result A MoveRefusal) → FitsSide pair which old
    → WantsMemory (instance_on pair which) (at_in old) stop meddles from to came → from.cell ≡ old.seat.platform.cell
    → new.seat.platform ≡ to
    → new.seat.committed ≡ old.seat.committed → KeepsFor (role_in old.seat.platform.cell) new.digest.bytes (at_in old)
    → new.seat.issued.items ≡ old.seat.issued.items → now.tickets.items ≡ was.tickets.items → now.kept ≡ was.kept → now.away ≡ was.away
    → CommandLacks pair which meddles stop (command_reach old was) (command_reach new now)
lacks_done pair which stop meddles old new was now from to came fits w cell platform position keeps issued tickets counted away =
    elim w.register [ inl e ↦ reads _ (inl refl) e | inr e ↦ reads _ (inr refl) e ]
  where
    reads : (value : List ℕ) → IsReached (instance_on pair which) (at_in old) meddles stop value → register_reading to ≡ Some value
        → CommandLacks pair which meddles stop (command_reach old was) (command_reach new now)
    reads value reached e = lacks_side pair which stop meddles old new was now value reached fits
        (ap (λ (s : Standing). s.cell) platform ∙ w.cell ∙ cell)
        (ap register_reading platform ∙ e) (subst IsQuiet (sym platform) w.quiet) position keeps issued tickets counted away

-- nothing happened to a side, but to its platform

pub record SameSide (old new : CodeSide) : Type 0 where
  pub digest : new.digest ≡ old.digest
  pub issued : new.seat.issued.items ≡ old.seat.issued.items
  pub committed : new.seat.committed ≡ old.seat.committed

pub record SameBetween (was now : IssuedTickets) : Type 0 where
  pub tickets : now.tickets.items ≡ was.tickets.items
  pub kept : now.kept ≡ was.kept
  pub away : now.away ≡ was.away

pub still_lacks : (pair : Pair) (which : SideName) (stop : Stop) (meddles : List Meddle) (old new : CodeSide) (was now : IssuedTickets)
    → FitsSide pair which old → new.seat.platform ≡ old.seat.platform → SameSide old new → SameBetween was now
    → CommandLacks pair which meddles stop (command_reach old was) (command_reach new now)
still_lacks pair which stop meddles old new was now fits platform s b =
    lacks_side pair which stop meddles old new was now (at_in old).register (inl refl) fits (ap (λ (x : Standing). x.cell) platform)
    (ap register_reading platform ∙ fits.stands.register) (subst IsQuiet (sym platform) fits.quiet) s.committed
    (same_keeps old new s.digest)
    s.issued b.tickets b.kept b.away

-- a number that isn't issued: nothing is called
pub unissued_done : (pair : Pair) (which : SideName) (stop : Stop) (meddles : List Meddle) (command : MoveCommand) (said : MoveReply)
    (old new : CodeSide) (was now : IssuedTickets) → FitsSide pair which old → FitsIssuedTickets was → new.seat.platform ≡ old.seat.platform
    → SameSide old new → SameBetween was now → said ≡ move_reply_of (unissued_reply command)
    → ((other : SideState Digests) (committed : ℕ) → found_command digest_mover pair (instance_on pair which)
    (both_with old was other committed) command ≡ None)
    → CommandDone pair which (command_reach old was) (command_reach new now)
    (outcome_of_command pair which (command_reach old was) meddles stop command) said
unissued_done pair which stop meddles command said old new was now fits counted platform s b says none =
    let i = instance_on pair which in
    let same : side_in new ≡ side_in old = λ j. record {
      role = role_in (platform j).cell;
      at = at_by (role_in (platform j).cell) (platform j) (s.digest j).bytes (s.committed j);
      issued = s.issued j;
    } in
    record {
      fits = (still_lacks pair which stop meddles old new was now fits platform s b).fits;
      between = subst (λ (x : List (List ℕ)). now.kept ≡ within_64 (sum_by length x)) (sym b.tickets) (b.kept ∙ counted);
      both = λ other committed.
          (λ j. record { first = same j; second = other; away = b.away j; tickets = b.tickets j; committed = committed })
          ∙ sym (ap (λ x. (outcome_if_found digest_mover pair i (both_with old was other committed) meddles stop command x).both)
          (none other committed));
      says = λ other committed.
          says ∙ sym (ap (λ x. move_reply_of (outcome_if_found digest_mover pair i (both_with old was other committed) meddles stop
          command x).reply)
          (none other committed));
      issued = omega (arith, ap length s.issued);
      tickets = omega (arith, ap length b.tickets);
      counts = λ most p q. (omega (arith, s.committed), omega (arith, b.away));
    }

-- An invitation to a side, and a retirement of it, come to what they come to by digests.

-- an invitation

-- its effect changes no count
record Waits (d : Digests) (away : ℕ) (kept : List ℕ) (effect : Effect) : Type 0 where
  count : d.count ≡ (at_then away d (Some effect)).count
  away_is : away ≡ away_then away d (Some effect)
  keeps : KeepsFor (role_after effect) kept (at_then away d (Some effect))

waits : (d : Digests) (away : ℕ) (kept : List ℕ) (effect : Effect) → kept ≡ d.digest → GivesInvitedBy effect → Waits d away kept effect
waits d away kept (Invites nonce) e g = record { count = refl; away_is = refl; keeps = e }
waits d away kept effect e g = absurd g

same_counts : (role : Role) (d : Digests) (away : ℕ) (kept : List ℕ) → kept ≡ d.digest → (moved : Bool)
    (found : Result FoundMove DenialCause) → KnowsOf GivesInvited role d found
    → (d.count ≡ (at_then away d (made_if moved found)).count) × (away ≡ away_then away d (made_if moved found))
same_counts role d away kept e moved found k = (
  by_known GivesInvited role d (λ x. d.count ≡ (at_then away d x).count) moved found k refl
      (λ it k. (waits d away kept it.effect e k.gave).count),
  by_known GivesInvited role d (λ x. away ≡ away_then away d x) moved found k refl (λ it k. (waits d away kept it.effect e k.gave).away_is),
)

-- nor is anything handed out
handed_none : (pair : Pair) (i : Instance) (both : BothSides Digests ℕ) (effect : Effect) → GivesInvitedBy effect
    → (reply.Invited ≡ move_reply_of (effect_reply digest_mover i both effect)) × (sides_after_issue digest_mover pair i both effect ≡ both)
handed_none pair i both (Invites nonce) g = (refl, refl)
handed_none pair i both effect g = absurd g

-- the call of the code, in terms of the side's instance
pub invites_planned : (pair : Pair) (which : SideName) (nonce : List ℕ) (stop : Stop) (meddles : List Meddle) (link : Link) (id : ℕ)
    (key : List ℕ) (old new : Standing)
    (came : Result Invited MoveRefusal) → link ≡ link_of pair → id ≡ pair.meaning.id → key ≡ key_of pair which
    → MovesByPlan (λ (bytes : List ℕ). invitation_in (waiting_for link pair.variant id nonce key) (moved_cell_of bytes)) stop
    meddles old new came
    → MovesByPlan (λ (bytes : List ℕ). invitation_in
    (waiting_for (link_of pair) (instance_on pair which).variant (instance_on pair which).meaning.id nonce (instance_on pair which).key)
    (moved_cell_of bytes)) stop meddles old new came
invites_planned pair which nonce stop meddles link id key old new came el ei ek planned =
    let i = instance_on pair which in
    let v = variant_by pair.variant pair.meaning (key_of pair which) pair.barrier in
    let m = meaning_by pair.variant pair.meaning (key_of pair which) pair.barrier in
    let k = key_by pair.variant pair.meaning (key_of pair which) pair.barrier in
    let same : waiting_for link pair.variant id nonce key ≡ waiting_for (link_of pair) i.variant i.meaning.id nonce i.key =
    λ j. waiting_for (el j) (sym v j) ((ei ∙ sym (ap (λ (x : Meaning). x.id) m)) j) nonce ((ek ∙ sym k) j) in
    subst (λ w. MovesByPlan (λ (bytes : List ℕ). invitation_in w (moved_cell_of bytes)) stop meddles old new came) same planned

pub invited_done : (pair : Pair) (which : SideName) (nonce : List ℕ) (stop : Stop) (meddles : List Meddle) (old mid new : CodeSide)
    (between : IssuedTickets) (came : Result Invited MoveRefusal) (result : Result MoveReply Memory) → length nonce ≡ 32
    → KeepsDigest old mid → MovesByPlan (λ (bytes : List ℕ). invitation_in
    (waiting_for (link_of pair) (instance_on pair which).variant (instance_on pair which).meaning.id nonce (instance_on pair which).key)
    (moved_cell_of bytes)) stop meddles mid.seat.platform new.seat.platform came → SameSide mid new → TellsInvitation stop came result
    → FitsSide pair which old → FitsIssuedTickets between
    → MatchResult result (CommandDone pair which (command_reach old between) (command_reach new between)
    (outcome_of_command pair which (command_reach old between) meddles stop (Invite nonce)))
    (λ _. CommandLacks pair which meddles stop (command_reach old between) (command_reach new between))
invited_done pair which nonce stop meddles old mid new between came result size k planned s says fits counted =
    let i = instance_on pair which in
    let role = role_in old.seat.platform.cell in
    let d = at_in old in
    let platform = ap (λ (x : Seat). x.platform) k.seat in
    let same_cell = ap (λ (x : Standing). x.cell) platform in
    let digest : new.digest.bytes ≡ d.digest = ap (λ x. x.bytes) s.digest ∙ k.digest in
    let keeps = keeps_equal role new.digest.bytes d digest in
    let issued = s.issued ∙ ap (λ (x : Seat). x.issued.items) k.seat in
    let position = s.committed ∙ ap (λ (x : Seat). x.committed) k.seat in
    elim (planned i d (cell_of_role i role d) (same_cell ∙ fits.stands.cell) (ap register_reading platform ∙ fits.stands.register)
    (subst IsQuiet (sym platform) fits.quiet)) [
      | inl made ↦
          let found = invitation_on role nonce in
          let fates = (course_of stop meddles).fates in
          let c = came_by GivesInvited i role d stop meddles new.seat.platform came _ found
          (invites_match i (link_of pair) role d nonce fits.stands.fits size) made in
          let effect = effect_of fates found in
          let n = same_counts role d between.away new.digest.bytes digest in
          let t = tell GivesInvited pair i role d stop (walk fates 1 (move_steps found)).broken found effect came
          (λ b f e. Told pair i stop b f e result old new between between d) c.says (moved_by stop meddles found) c.knows
          (λ why e r. let m = n (has_moved stop why) found c.knows in
          told_still pair i stop _ found effect why result old new between between d r
          (subst (λ (c : Result Invited MoveRefusal). TellsInvitation stop c result) e says) issued refl refl counted
          (position ∙ m.0) m.1)
          (λ it answer e g k. let m = n true (Ok it) k in
          record {
            said = reply.Invited;
            is = subst (λ (c : Result Invited MoveRefusal). TellsInvitation stop c result) e says;
            ends = λ both h own all. let x = handed_none pair i both it.effect g in (
              x.0,
              x.1 ∙ (λ j. record both { first = record both.first { issued = (own ∙ sym issued) j }; tickets = all j }),
            );
            position = position ∙ m.0;
            away = m.1;
            between = counted;
            issued = omega (arith, ap length issued);
            tickets = omega arith;
          }) in
          move_done GivesInvited pair which stop meddles (Invite nonce) found old new between between came result fits c t keeps
          (λ it k. (waits d between.away new.digest.bytes it.effect digest k.gave).keeps) (λ other committed. refl)
      | inr w ↦
          err_match _ _ result (subst (λ (c : Result Invited MoveRefusal). TellsInvitation stop c result) w.says says)
          (lacks_done pair which stop meddles old new between between mid.seat.platform new.seat.platform came fits w same_cell refl
          position keeps issued refl refl refl)
    ]

-- a retirement

-- its effect is that the module leaves
record IsLeft (role : Role) (d : Digests) (away : ℕ) (kept : List ℕ) (again : Bool) (effect : Effect) : Type 0 where
  live : is_live role ≡ not again
  count : d.count ≡ (at_then away d (Some effect)).count
  away_is : away_then away d (Some effect) ≡ d.count
  keeps : KeepsFor (role_after effect) kept (at_then away d (Some effect))

is_left : (link : List ℕ) (role : Role) (d : Digests) (away : ℕ) (kept : List ℕ) (again : Bool) (effect : Effect) (bytes : List ℕ)
    → GivesTicketBy link effect bytes → FitsLive role again effect → IsLeft role d away kept again effect
is_left link role d away kept again (Leaves ticket) bytes g live = record { live = live; count = refl; away_is = refl; keeps = tt }
is_left link role d away kept again effect bytes g live = absurd g

handed_ticket : (pair : Pair) (i : Instance) (both : BothSides Digests ℕ) (effect : Effect) (bytes : List ℕ)
    → GivesTicketBy pair.link effect bytes → (reply.Left (length both.tickets) ≡ move_reply_of (effect_reply digest_mover i both effect))
    × (sides_after_issue digest_mover pair i both effect ≡ record both { tickets = both.tickets ++ bytes ∷ [] })
handed_ticket pair i both (Leaves ticket) bytes g = (refl, λ j. record both { tickets = both.tickets ++ sym g j ∷ [] })
handed_ticket pair i both effect bytes g = absurd g

retires_planned : (pair : Pair) (which : SideName) (nonce bytes : List ℕ) (stop : Stop) (meddles : List Meddle) (old new : Standing)
    (came : Result (List ℕ) MoveRefusal)
    → MovesByPlan (λ (cell : List ℕ). retirement_in pair.meaning pair.variant (link_of pair) nonce bytes (moved_cell_of cell))
    stop meddles old new
    came
    → MovesByPlan (λ (cell : List ℕ). retirement_in (instance_on pair which).meaning (instance_on pair which).variant (link_of pair) nonce
    bytes (moved_cell_of cell)) stop meddles old new came
retires_planned pair which nonce bytes stop meddles old new came planned =
    let v = sym (variant_by pair.variant pair.meaning (key_of pair which) pair.barrier) in
    let m = sym (meaning_by pair.variant pair.meaning (key_of pair which) pair.barrier) in
    subst (λ variant. MovesByPlan
    (λ (cell : List ℕ). retirement_in (instance_on pair which).meaning variant (link_of pair) nonce bytes (moved_cell_of cell)) stop meddles
    old
    new came) v (subst (λ (meaning : Meaning). MovesByPlan
    (λ (cell : List ℕ). retirement_in meaning pair.variant (link_of pair) nonce bytes (moved_cell_of cell)) stop meddles old new came) m
    planned)

-- with what the offer named, over a list with room for the ticket
pub retired_done : (pair : Pair) (which : SideName) (nonce : List ℕ) (offer : Offer) (stop : Stop) (meddles : List Meddle)
    (old new : CodeSide)
    (was mid now : IssuedTickets) (live : Bool) (cell : List ℕ) (came : Result (List ℕ) MoveRefusal) (result : Result MoveReply Memory)
    → length nonce ≡ 32
    → Named (λ bytes (cell : List ℕ). retirement_in pair.meaning pair.variant (link_of pair) nonce bytes (moved_cell_of cell)) stop meddles
    (offered_bytes old.seat.issued.items offer) old.seat.platform new.seat.platform came → live ≡ is_live (role_in (Some cell))
    → old.seat.platform.cell ≡ Some cell → SameSide old new → SameBetween was mid → TellsRetirement live old.seat.committed stop
    came mid now result
    → FitsSide pair which old → FitsIssuedTickets was
    → MatchResult result (CommandDone pair which (command_reach old was) (command_reach new now)
    (outcome_of_command pair which (command_reach old was) meddles stop (Retire nonce offer)))
    (λ _. CommandLacks pair which meddles stop (command_reach old was) (command_reach new now))
retired_done pair which nonce offer stop meddles old new was mid now live cell came result size named lives holds s b left fits counted =
    let i = instance_on pair which in
    let role = role_in old.seat.platform.cell in
    let d = at_in old in
    let gives = GivesTicket pair.link in
    let keeps = same_keeps old new s.digest in
    let lives' : live ≡ is_live role = lives ∙ ap (λ x. is_live (role_in x)) (sym holds) in
    elim (retires_planned pair which nonce named.bytes stop meddles old.seat.platform new.seat.platform came named.planned i d
    (cell_of_role i role d) fits.stands.cell fits.stands.register fits.quiet) [
      | inl made ↦
          let found = retirement_on digest_mover i role d nonce named.bytes in
          let fates = (course_of stop meddles).fates in
          let effect = effect_of fates found in
          let c = came_by gives i role d stop meddles new.seat.platform came _ found
          (retires_match i (link_of pair) role d nonce named.bytes fits.stands.fits size) made in
          let leaves = λ (it : FoundMove) (k : Knows gives role d it).
          is_left pair.link role d was.away new.digest.bytes it.again it.effect k.answer k.gave k.live in
          let count = λ (moved : Bool) (f : Result FoundMove DenialCause) (k : KnowsOf gives role d f).
          by_known gives role d (λ e. d.count ≡ (at_then was.away d e).count) moved f k refl (λ it k. (leaves it k).count) in
          let gone = λ (moved : Bool) (f : Result FoundMove DenialCause) (k : KnowsOf gives role d f) (idle : IsIdle moved f).
          chosen gives role d live moved d.count was.away (away_then was.away d) f k idle refl
          (λ it k. (lives' ∙ (leaves it k).live, (leaves it k).away_is)) in
          let t = tell gives pair i role d stop (walk fates 1 (move_steps found)).broken found effect came
          (λ b f e. Told pair i stop b f e result old new was now d) c.says (moved_by stop meddles found) c.knows
          (λ why e r. let t = subst (λ (c : Result (List ℕ) MoveRefusal). TellsRetirement live old.seat.committed stop c mid now result) e
          left in
          told_still pair i stop _ found effect why result old new was now d r t.says s.issued (t.tickets ∙ b.tickets)
          (t.kept ∙ b.kept) counted (s.committed ∙ count (has_moved stop why) found c.knows)
          (t.away ∙ ap (λ n. if live && has_moved stop why then d.count else n) b.away ∙ gone (has_moved stop why) found c.knows r.idle))
          (λ it ticket e g k.
          let t = subst (λ (c : Result (List ℕ) MoveRefusal). TellsRetirement live old.seat.committed stop c mid now result) e left in
          let tickets = t.tickets ∙ ap (λ (x : List (List ℕ)). x ++ ticket ∷ []) b.tickets in
          record {
            said = reply.Left (length was.tickets.items);
            is = t.says ∙ ap (λ (x : List (List ℕ)). Ok (reply.Left (length x))) b.tickets;
            ends = λ both h own all. let x = handed_ticket pair i both it.effect ticket g in (
              ap (λ (y : List (List ℕ)). reply.Left (length y)) (sym all) ∙ x.0,
              x.1 ∙ (λ j. record both {
                first = record both.first { issued = (own ∙ sym s.issued) j };
                tickets = (ap (λ (y : List (List ℕ)). y ++ ticket ∷ []) all ∙ sym tickets) j;
              }),
            );
            position = s.committed ∙ count true (Ok it) k;
            away = t.away ∙ ap (λ n. if live then d.count else n) b.away ∙ whole live d.count was.away ∙ gone true (Ok it) k tt;
            between = kept_more was.kept now.kept was.tickets.items now.tickets.items (Some ticket) counted tickets
                (t.kept ∙ ap (λ n. within_64 (n + length ticket)) b.kept);
            issued = omega (arith, ap length s.issued);
            tickets = let n = ap length tickets in let m = length-append was.tickets.items (ticket ∷ []) in omega (arith, n, m);
          }) in
          move_done gives pair which stop meddles (Retire nonce offer) found old new was now came result fits c t keeps
          (λ it k. (leaves it k).keeps)
          (λ other committed. ap (found_retirement digest_mover i (both_with old was other committed).first nonce)
          named.names)
      | inr w ↦
          let t = subst (λ (c : Result (List ℕ) MoveRefusal). TellsRetirement live old.seat.committed stop c mid now result) w.says left in
          err_match _ _ result t.says
          (lacks_done pair which stop meddles old new was now old.seat.platform new.seat.platform came fits w refl refl s.committed keeps
          s.issued
          (t.tickets ∙ b.tickets) (t.kept ∙ b.kept) (t.away ∙ never live old.seat.committed mid.away ∙ b.away))
    ]
  where
    never : (live : Bool) (position away : ℕ) → (if live && false then position else away) ≡ away
    never true position away = refl
    never false position away = refl

-- a snapshot that isn't issued
pub retired_unissued : (pair : Pair) (which : SideName) (nonce : List ℕ) (offer : Offer) (stop : Stop) (meddles : List Meddle)
    (old new : CodeSide) (was now : IssuedTickets) → (offered_bytes old.seat.issued.items offer ≡ None)
    × (new.seat.platform ≡ old.seat.platform)
    → SameSide old new → SameBetween was now → FitsSide pair which old → FitsIssuedTickets was
    → CommandDone pair which (command_reach old was) (command_reach new now)
    (outcome_of_command pair which (command_reach old was) meddles stop (Retire nonce offer)) reply.NoSnapshot
retired_unissued pair which nonce offer stop meddles old new was now none s b fits counted =
    unissued_done pair which stop meddles (Retire nonce offer) reply.NoSnapshot old new was now fits counted none.1 s b refl
    (λ other committed. ap (found_retirement digest_mover (instance_on pair which) (both_with old was other committed).first nonce) none.0)
