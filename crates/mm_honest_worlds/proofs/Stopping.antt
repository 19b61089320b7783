-- What comes of a ticket that was offered; and where a module was stopped on its way.
use Rattle.std.proofs.Common.{◌≡◌, ◌∙◌, ◌++◌, ℕ, List, ◌∷◌, length, Option, None, Some, Result, Ok, Err, refl, sym, ap, subst}
use Rattle.mm_base.specs.Input.{IsLineFront}
use Rattle.mm_bytes.specs.Limits.{longest_request, next_count}
use Rattle.mm_digest.specs.declared.variant.Variant.{Variant}
use Rattle.mm_digest.specs.declared.variant.Variant.TheVariants.{Basic, Opt}
use Rattle.mm_opt.specs.declared.segment.Checkpointed.{Checkpointed}
use Rattle.mm_opt.specs.declared.segment.CheckpointRefusal.{CheckpointRefusal}
use Rattle.mm_platform.specs.Standing.{Standing}
use Rattle.mm_module.specs.Meaning.{IsLawful, Meaning}
use Rattle.mm_host.specs.Sessions.{IsSession}
use Rattle.mm_host.specs.declared.fault.SessionFault.{SessionFault}
use Rattle.mm_life.specs.Stages.{session_on}
use Rattle.mm_move.specs.Cells.{moved_cell_of, MovePromise}
use Rattle.mm_move.specs.Orders.{acceptance_in, invitation_in, retirement_in, waiting_for}
use Rattle.mm_move.specs.declared.accepting.Accepted.{Accepted}
use Rattle.mm_move.specs.declared.inviting.Invited.{Invited}
use Rattle.mm_move.specs.declared.link.Link.{Link}
use Rattle.mm_move.specs.declared.refusal.MoveRefusal.{MoveRefusal}
use Rattle.mm_recovery.specs.FirstStart.{CountRisesIf}
use Rattle.mm_recovery.specs.HostStanding.{HostStanding, host_standing}
use Rattle.mm_store.specs.StoreStanding.{CountsFailures, StoreStanding}
use Rattle.mm_store.specs.declared.fault.StoreFault.{StoreFault}
use Rattle.mm_store.specs.declared.fault.StoreFault.TheVariants.{Memory, Failed}
use Rattle.mm_worlds.specs.Journey.{SiteStanding, both_sites, invited_at, pass_of, retired_at, session_at, site_standing, two_platforms}
use Rattle.mm_worlds.specs.Premises.{IsWorldLife, World, WorldStage, world_after, world_at_end}
use Rattle.mm_honest_worlds.specs.Arrivals.{EmptyingGoes, PuttingGoes}
use Rattle.mm_honest_worlds.specs.Carrying.{ArrivalGoes, CarriesOver, CarryingStops, GoesAfterAccepting, HasRoom, KeepingGoes, TicketGoes, TicketLeads}
use Rattle.mm_honest_worlds.specs.Carrying.{CheckpointGoes, acceptance_stages, checkpoint_stages, is_second_store, site_over}
use Rattle.mm_honest_worlds.specs.Laws.{GoesOnOrEvidence, OptWorldGoesOnOrEvidence, WorldGoesOnOrEvidence}
use Rattle.mm_honest_worlds.specs.declared.carrying.Carried.{Carried}
use Rattle.mm_honest_worlds.specs.declared.carrying.CarryingFault.{CarryingFault}
use Rattle.mm_honest_worlds.specs.declared.carrying.CarryingFault.TheVariants.{Keeping, Moving, NoRoom}
use Rattle.mm_honest_worlds.proofs.Crossings.{carries, checked_end, checked_leads, invited_from}
use Rattle.mm_honest_worlds.proofs.Putting.{empties_records, puts_arrival}

-- a ticket was given, and its acceptance was tried
pub tried : (variant : Variant) (meaning : Meaning) (link : Link) (request : List ℕ) (given : Result (List ℕ) MoveRefusal)
    (ticket paper : List ℕ)
    → given ≡ Ok ticket → paper ≡ ticket → (answer : Result Accepted MoveRefusal) (before after : Standing)
    (old emptied new : StoreStanding) (result : Result Accepted CarryingFault) → EmptyingGoes old emptied (Ok tt)
    → MovePromise (λ bytes. acceptance_in meaning variant link paper (moved_cell_of bytes)) before after answer
    → GoesAfterAccepting request answer emptied new result
    → ArrivalGoes variant meaning link request given (host_standing before old) (host_standing after new) result
tried variant meaning link request given ticket paper gives is answer before after old emptied new result empties accepts goes =
    subst (λ (x : Result (List ℕ) MoveRefusal). ArrivalGoes variant meaning link request x (host_standing before old)
    (host_standing after new) result) (sym gives) (record {
      answer = Some answer;
      leads = subst (λ (x : List ℕ). MovePromise (λ (bytes : List ℕ). acceptance_in meaning variant link x (moved_cell_of bytes)) before
          after answer) is accepts;
      goes = (emptied, empties, goes);
    })

-- the count of the second store, where it failed and where it didn't
blamed_by : (why : StoreFault) (first before now : ℕ) → before ≡ first → CountsFailures {T = Unit {0}} before now (Err why)
    → CountRisesIf (is_second_store (Keeping why)) first now
blamed_by Memory first before now e c = c ∙ e
blamed_by Failed first before now e c = c ∙ ap next_count e

blamed_kept : (accepted : Accepted) (request : List ℕ) (first emptied new : StoreStanding) (fault : CarryingFault)
    → emptied.faults ≡ first.faults → KeepingGoes accepted request emptied new (Err fault)
    → CountRisesIf (is_second_store fault) first.faults new.faults
blamed_kept accepted request first emptied new (Moving why) e k = absurd k
blamed_kept accepted request first emptied new (Keeping why) e k = blamed_by why first.faults emptied.faults new.faults e k.1.counted
blamed_kept accepted request first emptied new NoRoom e k = ap (λ (kept : StoreStanding). kept.faults) k.1 ∙ e

blamed : (request : List ℕ) (given : Result (List ℕ) MoveRefusal) (answer : Option (Result Accepted MoveRefusal))
    (old new : StoreStanding) (fault : CarryingFault) → TicketGoes request given answer old new (Err fault)
    → CountRisesIf (is_second_store fault) old.faults new.faults
blamed request (Err why) None old new fault (same, is) =
    let e : fault ≡ Moving why = cc in rw e (ap (λ (kept : StoreStanding). kept.faults) same)
blamed request (Err why) (Some answer) old new fault t = absurd t
blamed request (Ok ticket) None old new fault (why, empties, is) =
    let e : fault ≡ Keeping why = cc in rw e (blamed_by why old.faults old.faults new.faults refl empties.counted)
blamed request (Ok ticket) (Some (Err why)) old new fault (emptied, empties, (same, is)) =
    let e : fault ≡ Moving why = cc in rw e (ap (λ (kept : StoreStanding). kept.faults) same ∙ empties.counted)
blamed request (Ok ticket) (Some (Ok accepted)) old new fault (emptied, empties, kept) =
    blamed_kept accepted request old emptied new fault empties.counted kept

-- the stage of an acceptance, in a world where its platform waits
module _ (variant : Variant) (meaning : Meaning) (link : Link) (world : World) (waiting after : Standing) (e : world 1 ≡ waiting) where
  leads_on : (given : Result (List ℕ) MoveRefusal) (answer : Option (Result Accepted MoveRefusal))
      → TicketLeads variant meaning link given answer waiting after
      → IsWorldLife variant meaning link world (acceptance_stages given answer after)
  leads_on (Ok ticket) (Some answer) l =
      (subst (λ (x : Standing). TicketLeads variant meaning link (Ok ticket) (Some answer) x after) (sym e) l, tt)
  leads_on (Ok ticket) None l = tt
  leads_on (Err why) answer l = tt

  ends_at : (given : Result (List ℕ) MoveRefusal) (answer : Option (Result Accepted MoveRefusal))
      → TicketLeads variant meaning link given answer waiting after
      → world_at_end world (acceptance_stages given answer after) 1 ≡ after
  ends_at (Ok ticket) (Some answer) l = refl
  ends_at (Ok ticket) None l = e ∙ sym l
  ends_at (Err why) answer l = e ∙ sym l

module _ (variant : Variant) (meaning : Meaning) (link : Link) (nonce key offer request : List ℕ) (long_nonce : length nonce ≡ 32)
    (long_key : length key ≡ 32) (first first' second : SiteStanding) (after : Standing) (kept : StoreStanding)
    (served shut waiting : Standing) where
  abbrev second' : SiteStanding
  second' = site_standing after kept second.program.left second.program.received

  -- the world behind a retirement
  abbrev passed : World → Result Invited MoveRefusal → Result (List ℕ) MoveRefusal → World
  passed later invited given =
      world_after (world_after later (invited_at 1 nonce key invited waiting)) (retired_at 0 nonce offer given first'.platform)

  pub stops : (one : Result Unit SessionFault) (closed : Option (Result Checkpointed CheckpointRefusal))
      (invited : Result Invited MoveRefusal) (given : Result (List ℕ) MoveRefusal)
      (fault : CarryingFault) (id : ℕ) → id ≡ meaning.id
      → IsSession variant meaning (session_on first.platform first.program) (session_on served first'.program) one
      → CheckpointGoes variant served shut closed
      → MovePromise (λ bytes. invitation_in (waiting_for link variant id nonce key) (moved_cell_of bytes)) second.platform waiting invited
      → MovePromise (λ bytes. retirement_in meaning variant link nonce offer (moved_cell_of bytes)) shut first'.platform given
      → ArrivalGoes variant meaning link request given (host_standing waiting second.program.kept) (host_standing after kept) (Err fault)
      → CarryingStops variant meaning link (pass_of nonce key) offer request (both_sites first second) (both_sites first' second') fault
  stops one closed invited given fault id own holds closes invites retires arrives =
      let behind : List WorldStage =
      invited_at 1 nonce key invited waiting
      ∷ retired_at 0 nonce offer given first'.platform
      ∷ acceptance_stages given arrives.answer after in
      let begun : World = world_after (two_platforms first.platform second.platform) (session_at 0 first first' one served) in
      record {
        first = one;
        served = served;
        closed = closed;
        shut = shut;
        checked = closes;
        invited = invited;
        waiting = waiting;
        given = given;
        answer = arrives.answer;
        stages = session_at 0 first first' one served ∷ (checkpoint_stages closed shut ++ behind);
        are = refl;
        leads = (
          holds,
          checked_leads variant meaning link begun served shut closed refl closes behind (λ later here there. (
            invited_from variant meaning link nonce key long_nonce long_key (begun 1) (later 1) waiting invited id own (sym there) invites,
            (
              (
                long_nonce,
                subst (λ (x : Standing). MovePromise (λ (bytes : List ℕ). retirement_in meaning variant link nonce offer
                    (moved_cell_of bytes)) x first'.platform given) (sym here) retires,
              ),
              leads_on variant meaning link (passed later invited given) waiting after refl given arrives.answer arrives.leads,
            ),
          )),
        );
        ends = checked_end (λ (later : World). later 1 ≡ after) begun shut closed behind
            (λ later. ends_at variant meaning link (passed later invited given) waiting after refl given arrives.answer arrives.leads);
        goes = arrives.goes;
        blamed = blamed request given arrives.answer second.program.kept kept fault arrives.goes;
        left = refl;
        received = refl;
      }

-- What an arrival that is answered gives to a world that is gone on with: what the second store
-- holds once its records are emptied, and that the acceptance was put there.
pub record Arrives (variant : Variant) (meaning : Meaning) (link : Link) (request : List ℕ) (given : Result (List ℕ) MoveRefusal)
    (old new : HostStanding) (accepted : Accepted) : Type 0 where
  pub ticket : List ℕ
  pub gives : given ≡ Ok ticket
  pub emptied : StoreStanding
  pub empties : EmptyingGoes old.kept emptied (Ok tt)
  pub puts : PuttingGoes accepted request emptied new.kept (Ok tt)
  pub room : HasRoom accepted
  pub accepts : MovePromise (λ bytes. acceptance_in meaning variant link ticket (moved_cell_of bytes)) old.standing new.standing
      (Ok accepted)

arrives_by : (variant : Variant) (meaning : Meaning) (link : Link) (request : List ℕ) (given : Result (List ℕ) MoveRefusal)
    (answer : Option (Result Accepted MoveRefusal)) (old new : HostStanding) (accepted : Accepted)
    → TicketLeads variant meaning link given answer old.standing new.standing
    → TicketGoes request given answer old.kept new.kept (Ok accepted) → Arrives variant meaning link request given old new accepted
arrives_by variant meaning link request (Err why) None old new accepted l (same, is) = absurd (cc)
arrives_by variant meaning link request (Err why) (Some answer) old new accepted l t = absurd t
arrives_by variant meaning link request (Ok ticket) None old new accepted l (why, empties, is) = absurd (cc)
arrives_by variant meaning link request (Ok ticket) (Some (Err why)) old new accepted l (emptied, empties, (same, is)) = absurd (cc)
arrives_by variant meaning link request (Ok ticket) (Some (Ok there)) old new accepted l (emptied, empties, (same, room, puts)) =
    subst (λ (x : Accepted). Arrives variant meaning link request (Ok ticket) old new x) (sym same)
    (record { ticket = ticket; gives = refl; emptied = emptied; empties = empties; puts = puts; room = room; accepts = l })

pub arrives : (variant : Variant) (meaning : Meaning) (link : Link) (request : List ℕ) (given : Result (List ℕ) MoveRefusal)
    (old new : HostStanding) (accepted : Accepted) → ArrivalGoes variant meaning link request given old new (Ok accepted)
    → Arrives variant meaning link request given old new accepted
arrives variant meaning link request given old new accepted a =
    arrives_by variant meaning link request given a.answer old new accepted a.leads a.goes

-- the world of a module that was carried
pub carried : (variant : Variant) → GoesOnOrEvidence variant → (meaning : Meaning) → IsLawful meaning → (link : Link)
    (nonce key offer request : List ℕ)
    → IsLineFront longest_request request → length nonce ≡ 32 → length key ≡ 32 → (first first' second second' : SiteStanding)
    (served shut waiting entered : Standing) (put : StoreStanding) (given : Result (List ℕ) MoveRefusal) (result : Carried) (id : ℕ)
    → id ≡ meaning.id → IsSession variant meaning (session_on first.platform first.program) (session_on served first'.program) result.first
    → CheckpointGoes variant served shut result.closed
    → MovePromise (λ bytes. invitation_in (waiting_for link variant id nonce key) (moved_cell_of bytes)) second.platform waiting
    result.invited
    → MovePromise (λ bytes. retirement_in meaning variant link nonce offer (moved_cell_of bytes)) shut first'.platform given
    → ArrivalGoes variant meaning link request given (host_standing waiting second.program.kept) (host_standing entered put)
    (Ok result.accepted)
    → IsSession variant meaning (session_on entered (site_over put second).program) (session_on second'.platform second'.program)
    result.second
    → CarriesOver variant meaning link (pass_of nonce key) offer (both_sites first second) (both_sites first' second') result
carried variant law meaning lawful link nonce key offer request line long_nonce long_key first first' second second' served shut waiting
    entered put given result id own one closes invites retires goes two =
    let a = arrives variant meaning link request given (host_standing waiting second.program.kept) (host_standing entered put)
    result.accepted goes in
    carries variant law meaning lawful link nonce key offer long_nonce long_key first first' second second' result served shut waiting
    entered a.ticket a.emptied put (empties_records second.program.kept a.emptied a.empties.goes)
    (puts_arrival result.accepted request a.room.position a.room.snapshot line a.emptied put (Ok tt) a.puts.goes) a.ticket refl id own
    one closes invites
    (subst (λ (x : Result (List ℕ) MoveRefusal). MovePromise (λ (bytes : List ℕ). retirement_in meaning variant link nonce offer
    (moved_cell_of bytes)) shut first'.platform x) a.gives retires) a.accepts two

-- the law of each variant
pub goes_on_in : WorldGoesOnOrEvidence → OptWorldGoesOnOrEvidence → (variant : Variant) → GoesOnOrEvidence variant
goes_on_in basic opt Basic = basic
goes_on_in basic opt Opt = opt
