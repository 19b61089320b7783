-- A module that is carried from one platform to another; and a world of Basic that goes on, or gives evidence.
use Rattle.std.specs.Prelude.{IsSome}
use Rattle.std.proofs.Common.{◌≡◌, ◌∙◌, ◌++◌, ℕ, List, [], ◌∷◌, length, Option, None, Some, Result, Ok, refl, sym, subst, inl, inr}
use Rattle.mm_digest.specs.declared.variant.Variant.{Variant}
use Rattle.mm_digest.specs.declared.variant.Variant.TheVariants.{Basic, Opt}
use Rattle.mm_opt.specs.declared.segment.Checkpointed.{Checkpointed}
use Rattle.mm_opt.specs.declared.segment.CheckpointRefusal.{CheckpointRefusal}
use Rattle.mm_platform.specs.Standing.{Item, Standing, items_beside}
use Rattle.mm_module.specs.Meaning.{IsLawful, Meaning}
use Rattle.mm_evidence.proofs.Above.{clash_or}
use Rattle.mm_host.specs.Sessions.{IsSession}
use Rattle.mm_life.specs.Deeds.{Checkpoints}
use Rattle.mm_life.specs.OneStore.{KeepsStore}
use Rattle.mm_life.specs.Stages.{Does, Holds, PartLeads, Program, session_on}
use Rattle.mm_move.specs.Cells.{moved_cell_of, MovePromise}
use Rattle.mm_move.specs.Orders.{acceptance_in, invitation_in, retirement_in, waiting_for}
use Rattle.mm_move.specs.declared.inviting.Invited.{Invited}
use Rattle.mm_move.specs.declared.link.Link.{Link}
use Rattle.mm_move.specs.declared.refusal.MoveRefusal.{MoveRefusal}
use Rattle.mm_sides.specs.BothSides.{Blank, Live, Retired, Role, Waiting}
use Rattle.mm_store.specs.StoreStanding.{StoreStanding}
use Rattle.mm_worlds.specs.Journey.{BothSites, SiteStanding, accepted_at, both_sites, invited_at, pass_of, retired_at, session_at, two_platforms}
use Rattle.mm_worlds.specs.Premises.{instance_of, role_of, first_handed, world_messages, IsWorldLife, Lives, World, WorldStage}
use Rattle.mm_worlds.specs.Premises.{Invites, WorldPartLeads, world_after, world_at_end}
use Rattle.mm_worlds.specs.OneWorld.{AreRegistersTold}
use Rattle.mm_worlds.proofs.Above.{IsBeside, all_or, move_beside}
use Rattle.mm_honest_worlds.specs.Arrivals.{EmptiesRecords, PutsArrival}
use Rattle.mm_honest_worlds.specs.Carrying.{CarriesOver, CarryingBegins, CheckpointGoes, checkpoint_stages, site_over}
use Rattle.mm_honest_worlds.specs.GoingOn.{BasicWorldGoesOn}
use Rattle.mm_honest_worlds.specs.HostStores.{Arrived, HostStore, IsOverStores, LeaveNoChance, LeavesNoChanceAt, LeftAs, PartStartsOver}
use Rattle.mm_honest_worlds.specs.HostStores.{ShowsArrival, StartsOver, stores_at_start}
use Rattle.mm_honest_worlds.specs.Laws.{GoesOnOrEvidence, WorldBegins, WorldGoesOnOrEvidence}
use Rattle.mm_honest_worlds.specs.declared.carrying.Carried.{Carried}

pub goes_on_or_evidence : BasicWorldGoesOn → WorldGoesOnOrEvidence
goes_on_or_evidence law meaning lawful link world kept stages f start honest told over chance =
    elim (clash_or (instance_of Basic meaning link (world 0)) (world_messages Basic meaning link world stages f) [] []) [
      | inl clash ↦ inr (inl clash)
      | inr clear ↦ elim (all_or Basic meaning link stages (first_handed Basic meaning link world) world f) [
        | inl broken ↦ inr (inr broken)
        | inr fair ↦ inl (law meaning lawful link world kept stages f start honest told over clear.0 fair chance)
      ]
    ]

-- a program that starts over what is known, wherever it is
starts_over : (role : Role) (store : HostStore) (p : Program) → StartsOver store p.old.kept → PartStartsOver role store (Holds p)
starts_over Live store p over = over
starts_over Blank store p over = tt
starts_over (Waiting nonce) store p over = tt
starts_over (Retired nonce) store p over = tt

-- its store didn't fail
leaves_none : (variant : Variant) (role : Role) (meaning : Meaning) (old new : Standing) (p : Program)
    (f : PartLeads variant meaning old (Holds p) new) → KeepsStore p.result → LeavesNoChanceAt role variant meaning old (Holds p) new f
leaves_none variant Live meaning old new p f whole = λ is waiting waits slots shown. absurd (whole is)
leaves_none variant Blank meaning old new p f whole = tt
leaves_none variant (Waiting nonce) meaning old new p f whole = tt
leaves_none variant (Retired nonce) meaning old new p f whole = tt

-- of a checkpoint nothing is asked
checks_over : (role : Role) (store : HostStore) (said : Result Checkpointed CheckpointRefusal)
    → PartStartsOver role store (Does (Checkpoints said))
checks_over Live store said = tt
checks_over Blank store said = tt
checks_over (Waiting nonce) store said = tt
checks_over (Retired nonce) store said = tt

checks_none : (variant : Variant) (role : Role) (meaning : Meaning) (old new : Standing) (said : Result Checkpointed CheckpointRefusal)
    (f : PartLeads variant meaning old (Does (Checkpoints said)) new)
    → LeavesNoChanceAt role variant meaning old (Does (Checkpoints said)) new f
checks_none variant Live meaning old new said f = tt
checks_none variant Blank meaning old new said f = tt
checks_none variant (Waiting nonce) meaning old new said f = tt
checks_none variant (Retired nonce) meaning old new said f = tt

-- the stages behind a session, with the checkpoint of Opt
pub checked_leads : (variant : Variant) (meaning : Meaning) (link : Link) (world : World) (served shut : Standing)
    (closed : Option (Result Checkpointed CheckpointRefusal)) → world 0 ≡ served → CheckpointGoes variant served shut closed
    → (more : List WorldStage)
    → ((later : World) → later 0 ≡ shut → later 1 ≡ world 1 → IsWorldLife variant meaning link later more)
    → IsWorldLife variant meaning link world (checkpoint_stages closed shut ++ more)
checked_leads Basic meaning link world served shut None e goes more leads = leads world (e ∙ sym goes) refl
checked_leads Basic meaning link world served shut (Some said) e goes more leads = absurd goes
checked_leads Opt meaning link world served shut None e goes more leads = absurd goes
checked_leads Opt meaning link world served shut (Some said) e goes more leads = (
  subst (λ (x : Standing). PartLeads Opt meaning x (Does (Checkpoints said)) shut) (sym e) goes,
  leads (world_after world (record { at = 0; part = Lives (Does (Checkpoints said)); after = shut })) refl refl,
)

-- what holds of the world at the end, whatever stood before these stages
pub checked_end : (P : World → Type 0) (world : World) (shut : Standing) (closed : Option (Result Checkpointed CheckpointRefusal))
    (more : List WorldStage) → ((later : World) → P (world_at_end later more))
    → P (world_at_end world (checkpoint_stages closed shut ++ more))
checked_end P world shut None more ends = ends world
checked_end P world shut (Some said) more ends =
    ends (world_after world (record { at = 0; part = Lives (Does (Checkpoints said)); after = shut }))

-- an invitation, on the platform as it stands
pub invited_from : (variant : Variant) (meaning : Meaning) (link : Link) (nonce key : List ℕ) → length nonce ≡ 32 → length key ≡ 32
    → (before now waiting : Standing) (invited : Result Invited MoveRefusal) (id : ℕ) → id ≡ meaning.id → before ≡ now
    → MovePromise (λ bytes. invitation_in (waiting_for link variant id nonce key) (moved_cell_of bytes)) before waiting invited
    → WorldPartLeads variant meaning link now (Invites nonce key invited) waiting
invited_from variant meaning link nonce key long_nonce long_key before now waiting invited id own same invites = (
  long_nonce,
  long_key,
  subst (λ (x : Standing). MovePromise (λ (bytes : List ℕ). invitation_in (waiting_for link variant meaning.id nonce key)
      (moved_cell_of bytes)) x waiting invited) same
      (subst (λ (n : ℕ). MovePromise (λ (bytes : List ℕ). invitation_in (waiting_for link variant n nonce key) (moved_cell_of bytes))
      before waiting invited) own invites),
)

-- a platform that tells its register goes on to tell it, whatever move is made
told_kept : (values : List (List ℕ)) (items : Option (List Item)) → IsSome items → IsSome (items_beside values items)
told_kept values None told = absurd (cc)
told_kept values (Some xs) told = refl

told_beside : (old new : Standing) → IsBeside old new → IsSome old.items → IsSome new.items
told_beside old new b told = subst (λ (items : Option (List Item)). IsSome items) (sym b.items) (told_kept b.values old.items told)

begins_with : (variant : Variant) (meaning : Meaning) (link : Link) (old : BothSites) (stages : List WorldStage)
    → (IsSome old.second.platform.items → AreRegistersTold stages) → CarryingBegins variant meaning link old
    → WorldBegins variant meaning link (two_platforms old.first.platform old.second.platform) stages
begins_with Basic meaning link old stages tells begins = begins
begins_with Opt meaning link old stages tells begins = (begins.0, tells begins.1)

module _ (variant : Variant) (law : GoesOnOrEvidence variant) (meaning : Meaning) (lawful : IsLawful meaning) (link : Link)
    (nonce key offer : List ℕ) (long_nonce : length nonce ≡ 32) (long_key : length key ≡ 32)
    (first first' second second' : SiteStanding) (result : Carried) (served shut waiting entered : Standing) (ticket : List ℕ)
    (emptied put : StoreStanding)
    (empties : EmptiesRecords second.program.kept emptied) (puts : PutsArrival result.accepted emptied put) where
  abbrev world : World
  world = two_platforms first.platform second.platform

  abbrev moves : List WorldStage
  moves =
      invited_at 1 nonce key result.invited waiting
      ∷ retired_at 0 nonce offer (Ok ticket) first'.platform
      ∷ accepted_at 1 ticket (Ok result.accepted) entered
      ∷ session_at 1 (site_over put second) second' result.second second'.platform
      ∷ []

  abbrev stages : Option (Result Checkpointed CheckpointRefusal) → List WorldStage
  stages closed = session_at 0 first first' result.first served ∷ (checkpoint_stages closed shut ++ moves)

  over : (closed : Option (Result Checkpointed CheckpointRefusal)) → ShowsArrival result.accepted put
      → IsOverStores (stores_at_start first.program.kept) world (stages closed)
  over None shows = (
    starts_over (role_of first.platform) (LeftAs first.program.kept) _ (refl, refl),
    (tt, (tt, (tt, (starts_over (role_of entered) (Arrived result.accepted) _ shows, tt)))),
  )
  over (Some said) shows = (
    starts_over (role_of first.platform) (LeftAs first.program.kept) _ (refl, refl),
    (
      checks_over (role_of served) (LeftAs first'.program.kept) said,
      (tt, (tt, (tt, (starts_over (role_of entered) (Arrived result.accepted) _ shows, tt)))),
    ),
  )

  chance : (closed : Option (Result Checkpointed CheckpointRefusal)) (leads : IsWorldLife variant meaning link world (stages closed))
      → KeepsStore result.first → KeepsStore result.second → LeaveNoChance variant meaning link world (stages closed) leads
  chance None leads kept kept' = (
    leaves_none variant (role_of first.platform) meaning first.platform served _ leads.0 kept,
    (
      tt,
      (tt, (tt, (leaves_none variant (role_of entered) meaning entered second'.platform _ leads.1.1.1.1.0 kept', tt))),
    ),
  )
  chance (Some said) leads kept kept' = (
    leaves_none variant (role_of first.platform) meaning first.platform served _ leads.0 kept,
    (
      checks_none variant (role_of served) meaning served shut said leads.1.0,
      (
        tt,
        (tt, (tt, (leaves_none variant (role_of entered) meaning entered second'.platform _ leads.1.1.1.1.1.0 kept', tt))),
      ),
    ),
  )

  tells : (closed : Option (Result Checkpointed CheckpointRefusal)) → IsSome entered.items → AreRegistersTold (stages closed)
  tells None told = (tt, (tt, (tt, (told, (tt, tt)))))
  tells (Some said) told = (tt, (tt, (tt, (tt, (told, (tt, tt))))))

  whole : CheckpointGoes variant served shut result.closed → (IsSome second.platform.items → IsSome entered.items)
      → IsWorldLife variant meaning link world (stages result.closed)
      → CarriesOver variant meaning link (pass_of nonce key) offer (both_sites first second) (both_sites first' second') result
  whole closes shown leads = record {
    made = record {
      ticket = ticket;
      served = served;
      shut = shut;
      waiting = waiting;
      entered = entered;
      put = put;
      stages = stages result.closed;
      are = refl;
    };
    checked = closes;
    leads = leads;
    goes = λ slots begins honest told honest' told' kept kept'.
        law meaning lawful link world first.program.kept (stages result.closed) leads
        (begins_with variant meaning link (both_sites first second) (stages result.closed)
        (λ items. tells result.closed (shown items)) begins) honest told
        (over result.closed (puts (empties slots honest' told'))) (chance result.closed leads kept kept');
  }

  pub carries : (paper : List ℕ) → paper ≡ ticket → (id : ℕ) → id ≡ meaning.id
      → IsSession variant meaning (session_on first.platform first.program) (session_on served first'.program) result.first
      → CheckpointGoes variant served shut result.closed
      → MovePromise (λ bytes. invitation_in (waiting_for link variant id nonce key) (moved_cell_of bytes)) second.platform waiting
      result.invited
      → MovePromise (λ bytes. retirement_in meaning variant link nonce offer (moved_cell_of bytes)) shut first'.platform (Ok ticket)
      → MovePromise (λ bytes. acceptance_in meaning variant link paper (moved_cell_of bytes)) waiting entered (Ok result.accepted)
      → IsSession variant meaning (session_on entered (site_over put second).program) (session_on second'.platform second'.program)
      result.second
      → CarriesOver variant meaning link (pass_of nonce key) offer (both_sites first second) (both_sites first' second') result
  carries paper is id own one closes invites retires accepts two =
      let came = move_beside (λ (bytes : List ℕ). acceptance_in meaning variant link paper (moved_cell_of bytes)) waiting entered
      (Ok result.accepted) accepts.moves in
      let awaits = move_beside (λ (bytes : List ℕ). invitation_in (waiting_for link variant id nonce key) (moved_cell_of bytes))
      second.platform waiting result.invited invites.moves in
      let served_world : World = world_after world (session_at 0 first first' result.first served) in
      whole closes (λ told. told_beside waiting entered came (told_beside second.platform waiting awaits told)) (
        one,
        checked_leads variant meaning link served_world served shut result.closed refl closes moves (λ later here there. (
          invited_from variant meaning link nonce key long_nonce long_key second.platform (later 1) waiting result.invited id own
              (sym there) invites,
          (
            (
              long_nonce,
              subst (λ (x : Standing). MovePromise (λ (bytes : List ℕ). retirement_in meaning variant link nonce offer
                  (moved_cell_of bytes)) x first'.platform (Ok ticket)) (sym here) retires,
            ),
            (
              subst (λ (bytes : List ℕ). MovePromise (λ (cell : List ℕ). acceptance_in meaning variant link bytes (moved_cell_of cell))
                  waiting entered (Ok result.accepted)) is accepts,
              (two, tt),
            ),
          ),
        )),
      )
