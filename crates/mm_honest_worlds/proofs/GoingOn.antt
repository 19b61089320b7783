-- A world over honest stores goes on, in either variant, from the history that what is known of the stores fits.
use Rattle.std.specs.List.{Contains}
use Rattle.std.proofs.Common.{◌≡◌, ◌∙◌, ℕ, true, List, [], Option, None, Some, Ok, Err, arith, refl, sym, ap, subst, inl, inr}
use Rattle.std.proofs.Common.{◌⊎◌, ◌+◌, ◌-◌, ◌%◌, length}
use Rattle.mm_digest.specs.declared.variant.Variant.{Variant}
use Rattle.mm_platform.specs.Standing.{Standing}
use Rattle.mm_module.specs.Batch.{Batch}
use Rattle.mm_module.specs.Meaning.{Meaning}
use Rattle.mm_model.specs.History.{History, requests_of}
use Rattle.mm_model.specs.Chains.{Instance}
use Rattle.mm_model.specs.ListLaws.{each_right}
use Rattle.mm_model.specs.Standing.{StandsFor}
use Rattle.mm_call.specs.CallPremises.{IsWithin}
use Rattle.mm_move.proofs.Above.{bytes_tell}
use Rattle.mm_move.specs.Cells.{moved_cell_of}
use Rattle.mm_move.specs.Orders.{acceptance_in, invitation_in, retirement_in, right_ticket, waiting_for}
use Rattle.mm_move.specs.Tickets.{TicketContent}
use Rattle.mm_move.specs.declared.accepting.Accepted.{Accepted}
use Rattle.mm_move.specs.declared.cell.MovedCell.{MovedCell}
use Rattle.mm_move.specs.declared.cell.MovedCell.TheVariants as moved
use Rattle.mm_move.specs.declared.cell.WaitingCell.{WaitingCell}
use Rattle.mm_move.specs.declared.link.Link.{Link}
use Rattle.mm_recovery.specs.HostStanding.{FitsBy, FitsHistory, IsSnapshotAt}
use Rattle.mm_store.specs.PendingRecord.{PendingRecord}
use Rattle.mm_store.specs.StoreStanding.{Slots, slot_front, StoreStanding}
use Rattle.mm_life.specs.Premises.{HistoryStays, IsNoCall}
use Rattle.mm_life.specs.Deeds.{Calls, Checkpoints, Deed, DeedLeads, Extends, LifeCall, LosesPower}
use Rattle.mm_life.specs.HonestLife.{BeginsOver, LeavesNoChance}
use Rattle.mm_life.specs.Stages.{Does, Holds, LifePart, PartLeads, PartSteps, Program, part_calls}
use Rattle.mm_life.proofs.Above.{AreListed, part_goes}
use Rattle.mm_sides.specs.BothSides.{Blank, Live, Retired, Role, Waiting}
use Rattle.mm_worlds.specs.Premises.{Handed, accepted_snapshots, cell_bytes, has_same_cell, instance_at, instance_of, key_of, role_in}
use Rattle.mm_worlds.specs.Premises.{role_of, IsGenuineUnder, IsHonest, calls_at, handed_after, Accepts, Invites, Lives, Retires, World}
use Rattle.mm_worlds.specs.Premises.{WorldPart, WorldPartLeads}
use Rattle.mm_worlds.proofs.Above.{HoldsCell, IsBeside, IsFineStage, IsLiveCell, IsOrWas, IsQuietHere, StandsInOrder, WorldLaws}
use Rattle.mm_worlds.proofs.Above.{accepted_same, by_test, changed_at, fine_offer, held_told, here_changed, invited_same, left_elsewhere}
use Rattle.mm_worlds.proofs.Above.{left_or, move_beside, move_comes, reading_of, role_held}
use Rattle.mm_worlds.proofs.Above.{stepped as world_stepped}
use Rattle.mm_honest_worlds.specs.GoingOn.{GoesOnIfLive, StoreFits}
use Rattle.mm_honest_worlds.specs.HostStores.{Arrived, HostStore, HostStores, IsNextAfter, IsOverStore, LeavesNoChanceAt}
use Rattle.mm_honest_worlds.specs.HostStores.{LeavesNoneByChance, LeftAs, PartStartsOver, StartsOver, Unknown, known_unless_moved}
use Rattle.mm_honest_worlds.specs.HostStores.{store_behind_part}
use Rattle.mm_honest_worlds.proofs.Arriving.{IsArrival, arrives, live_cell}
use Rattle.mm_honest_worlds.proofs.Keeping.{Ended, Fits, Keeps, Moved, Rests, Stepped, keeps_by, keeps_here, live_or, moved_on}
use Rattle.mm_honest_worlds.proofs.Keeping.{within_here}
use Rattle.mm_honest_worlds.proofs.OneHistory.{store_on}

live_in : (held : Option MovedCell) → IsLiveCell held → role_in (reading_of held) ≡ Live
live_in (Some (moved.Live c)) h = refl
live_in (Some (moved.Waiting c)) h = absurd h
live_in (Some (moved.Retired c)) h = absurd h
live_in None h = absurd h

before_next : (n m : ℕ) → n ≡ m + 1 → m ≡ n - 1
before_next n m e = omega (arith, e)

-- two cells that are told, of the same bytes
same_told : (old new : Standing) (a b : List ℕ) → old.cell ≡ Some a → new.cell ≡ Some b → has_same_cell old new ≡ true
    → new.cell ≡ old.cell
same_told old new a b e f same =
    let first : cell_bytes old ≡ a = rw e refl in
    let second : cell_bytes new ≡ b = rw f refl in
    let bytes : a ≡ b = sym first ∙ bytes_tell (cell_bytes old) (cell_bytes new) same ∙ second in
    f ∙ ap (λ (x : List ℕ). Some x) (sym bytes) ∙ sym e

same_role : (old new : Standing) → new.cell ≡ old.cell → role_of new ≡ role_of old
same_role old new same = ap (λ (cell : Option (List ℕ)). role_of (record old { cell = cell })) same

module _ {variant : Variant} {meaning : Meaning} {link : Link} {all others : List (List ℕ)} {asked : List Batch}
    {IsSeen : Standing → LifePart → Standing → Type 0} {IsStill : Standing → List LifeCall → Type 0}
    (laws : WorldLaws variant meaning link all others asked IsSeen IsStill) (world : World) (y : History) (handed : Handed)
    (s : StandsInOrder variant meaning link all others asked world y handed) (z : History) (stores : HostStores)
    (keeps : Keeps laws world y z stores) (at : ℕ) where
  abbrev old : Standing
  old = world at

  abbrev here : Instance
  here = instance_of variant meaning link old

  abbrev store : HostStore
  store = stores at

  abbrev StageGoesOn : (part : WorldPart) (new : Standing) → WorldPartLeads variant meaning link old part new → Type 0
  StageGoesOn part new f = Stepped laws world y handed s z stores keeps at part new f

  within : IsWithin all others asked here z
  within = within_here laws world y handed s z stores keeps at

  -- A part where the module is: to which history it leads, and what is known of the store then.
  record LivedOn (part : LifePart) (new : Standing) (f : PartLeads variant meaning old part new) : Type 0 where
    kept : History
    stands : StandsFor here new kept
    within_then : IsWithin all others asked here kept
    steps : PartSteps variant meaning old part new f (requests_of z.batches) (requests_of kept.batches)
    goes : GoesOnIfLive variant all others asked meaning link Live old part new f (requests_of z.batches) (requests_of kept.batches)
    left : StoreFits here kept (store_behind_part store old (Lives part) new)

  -- what a session begins with
  record Begun (p : Program) : Type 0 where
    kept : StoreStanding
    slots : Slots
    honest : kept.is_honest ≡ true
    told : kept.slots ≡ Some slots
    begins : BeginsOver kept (Holds p)
    fit : FitsHistory here slots z

  -- the slots of an arrival fit
  arrived_by : (accepted : Accepted) (slots : Slots) (waiting : Option PendingRecord) → IsNextAfter accepted.position waiting
      → slot_front slots (accepted.position % 2) ≡ accepted.snapshot → StoreFits here z (Arrived accepted)
      → FitsBy here slots z waiting
  arrived_by accepted slots None next shown f = (
    sym f.1 ∙ next,
    subst (λ (n : ℕ). IsSnapshotAt here z (slot_front slots (n % 2)) n) next
        (subst (λ (bytes : List ℕ). IsSnapshotAt here z bytes accepted.position) (sym shown) f.0),
  )
  arrived_by accepted slots (Some p) next shown f = (
    inl (next ∙ ap (λ (n : ℕ). n + 1) f.1),
    subst (λ (n : ℕ). IsSnapshotAt here z (slot_front slots (n % 2)) n) (before_next p.position accepted.position next)
        (subst (λ (bytes : List ℕ). IsSnapshotAt here z bytes accepted.position) (sym shown) f.0),
  )

  begun : (p : Program) (known : HostStore) → StartsOver known p.old.kept → StoreFits here z known → Begun p
  begun p Unknown over f = absurd over
  begun p (LeftAs kept) over f =
      record { kept = kept; slots = f.slots; honest = f.honest; told = f.told; begins = over; fit = f.fits }
  begun p (Arrived accepted) over f = record {
    kept = p.old.kept;
    slots = over.slots;
    honest = over.honest;
    told = over.told;
    begins = (refl, refl);
    fit = record {
      waiting = over.has.waiting;
      is_waiting = over.has.is_waiting;
      fits = arrived_by accepted over.slots over.has.waiting over.has.next over.has.snapshot f;
    };
  }

  -- others at most extend the register, power is lost, or a checkpoint is made
  stays : (deed : Deed) (new : Standing) → IsNoCall deed → IsSeen old (Does deed) new ⊎ IsStill old []
      → DeedLeads variant meaning old deed new → StandsFor here old z → HistoryStays all others asked here z new
  stays deed new quiet (inl seen) f stands = (laws.life (key_of old)).stays z old deed new quiet seen f stands within
  stays deed new quiet (inr still) f stands = (laws.life (key_of old)).stays_still z old deed new quiet still f stands within

  module _ (live : role_of old ≡ Live) where
    abbrev known_here : Fits laws old z store
    known_here = keeps.there at live

    lived_session : (p : Program) (new : Standing) (f : PartLeads variant meaning old (Holds p) new) → Begun p
        → LeavesNoChance variant meaning old (Holds p) new f
        → IsSeen old (Holds p) new ⊎ IsStill old (part_calls variant meaning old (Holds p) new f)
        → AreListed all asked here (part_calls variant meaning old (Holds p) new f) → LivedOn (Holds p) new f
    lived_session p new f b chance seen listed =
        let g = part_goes (laws.life (key_of old)) z b.kept b.slots old (Holds p) new f b.honest b.told known_here.stands within b.fit
        b.begins seen chance listed in
        record {
          kept = g.after;
          stands = g.stands;
          within_then = g.within;
          steps = g.steps;
          goes = g.goes;
          left = record { honest = g.honest; slots = g.left; told = g.told; fits = g.fits };
        }

    lived_deed : (deed : Deed) → IsNoCall deed → (new : Standing) (f : PartLeads variant meaning old (Does deed) new)
        → IsSeen old (Does deed) new ⊎ IsStill old []
        → ((after : List (List ℕ)) → after ≡ requests_of z.batches
        → PartSteps variant meaning old (Does deed) new f (requests_of z.batches) after) → LivedOn (Does deed) new f
    lived_deed deed quiet new f seen steps =
        let w = stays deed new quiet seen f known_here.stands in
        record {
          kept = w.after;
          stands = w.stands;
          within_then = w.within;
          steps = steps (requests_of w.after.batches) (ap requests_of w.batches);
          goes = ap requests_of w.batches;
          left = store_on here z w.after w.batches w.names store known_here.fits;
        }

    lived_on : (part : LifePart) (new : Standing) (f : PartLeads variant meaning old part new) → PartStartsOver Live store part
        → LeavesNoChance variant meaning old part new f
        → IsSeen old part new ⊎ IsStill old (part_calls variant meaning old part new f)
        → AreListed all asked here (part_calls variant meaning old part new f) → LivedOn part new f
    lived_on (Holds p) new f over chance seen listed =
        lived_session p new f (begun p store over known_here.fits) chance seen listed
    lived_on (Does (Calls c)) new f over chance seen listed = absurd over
    lived_on (Does (Extends values)) new f over chance seen listed = lived_deed (Extends values) tt new f seen (λ after same. same)
    lived_on (Does LosesPower) new f over chance seen listed = lived_deed LosesPower tt new f seen (λ after same. same)
    lived_on (Does (Checkpoints said)) new f over chance seen listed =
        lived_deed (Checkpoints said) tt new f seen (λ after same. same)

  module _ (part : LifePart) (new : Standing) (f : PartLeads variant meaning old part new) where
    abbrev given : Handed
    given = handed_after variant meaning link handed old (Lives part) new f

    stepped_here : role_of old ≡ Live → PartStartsOver (role_of old) store part
        → LeavesNoChanceAt (role_of old) variant meaning old part new f
        → IsHonest variant meaning link handed old (Lives part) new f → IsFineStage laws world y handed s at (Lives part) new f
        → StageGoesOn (Lives part) new f
    stepped_here live over chance honest fine =
        let g = world_stepped laws world y handed s at (Lives part) new f honest fine in
        let on = lived_on live part new f (subst (λ (r : Role). PartStartsOver r store part) live over)
        (subst (λ (r : Role). LeavesNoChanceAt r variant meaning old part new f) live chance) (fine.1 live)
        (subst (λ (r : Role). AreListed all asked here (calls_at r (part_calls variant meaning old part new f))) live fine.0) in
        record {
          after = g.after;
          stands = g.stands;
          kept = on.kept;
          keeps_then = keeps_here laws world y handed s z stores keeps at new g.after given g.stands
              (store_behind_part store old (Lives part) new) on.kept on.stands on.within_then on.left;
          steps = on.steps;
          goes = subst (λ (r : Role). GoesOnIfLive variant all others asked meaning link r old part new f (requests_of z.batches)
              (requests_of on.kept.batches)) (sym live) on.goes;
        }

    goes_elsewhere : (role : Role) → (role ≡ Live → ⊥)
        → GoesOnIfLive variant all others asked meaning link role old part new f (requests_of z.batches) (requests_of z.batches)
    goes_elsewhere Live away = absurd (away refl)
    goes_elsewhere Blank away = refl
    goes_elsewhere (Waiting nonce) away = refl
    goes_elsewhere (Retired nonce) away = refl

    stepped_elsewhere : (role_of old ≡ Live → ⊥) → StageGoesOn (Lives part) new f
    stepped_elsewhere away =
        let x = left_elsewhere laws world y handed s at new part f (s.cells at) refl (s.order.holds at)
        (λ live. away (role_held variant meaning link old (s.cells at) (s.order.holds at) ∙ live_in (s.cells at) live)) in
        record {
          after = y;
          stands = x.stands;
          kept = z;
          keeps_then = keeps_by laws world y handed s z stores keeps at new y given x.stands
              (store_behind_part store old (Lives part) new) away (λ live. away (sym (same_role old new x.cell) ∙ live)) refl;
          steps = x.steps (requests_of z.batches);
          goes = goes_elsewhere (role_of old) away;
        }

  -- a move
  module _ (new : Standing) (after : History) (given : Handed)
      (t : StandsInOrder variant meaning link all others asked (changed_at world at new) after given) where
    abbrev unless_moved : HostStore
    unless_moved = known_unless_moved store old new

    abbrev Rested : Type 0
    Rested = Rests laws world y handed s z stores keeps at new after given t unless_moved

    abbrev HasEnded : HostStore → Type 0
    HasEnded known = Ended laws world y handed s z stores keeps at new after given t known

    abbrev MovedOn : HostStore → Type 0
    MovedOn known = Moved laws world y handed s z stores keeps at new after given t known

    -- where the cell is as before, others at most extended the register
    rests : IsBeside old new → IsQuietHere laws world y handed s at new → role_of old ≡ Live → new.cell ≡ old.cell → Rested
    rests beside quiet live same =
        let h = keeps.there at live in
        let w = stays (Extends beside.values) new tt (quiet beside.values live) (same, beside.items) h.stands in
        record {
          kept = w.after;
          stands = w.stands;
          within = w.within;
          batches = w.batches;
          fits = by_test (λ (known : HostStore). StoreFits here w.after known) store Unknown (has_same_cell old new)
              (λ e. store_on here z w.after w.batches w.names store h.fits) (λ e. tt);
        }

    held_then : HoldsCell variant meaning link new (t.cells at)
    held_then = subst (λ (x : Standing). HoldsCell variant meaning link x (t.cells at)) (here_changed world at new) (t.order.holds at)

    -- where the module came and its acceptance wasn't answered, nothing is known of the store
    came : (role_of old ≡ Live → ⊥) → role_of new ≡ Live → StoreFits (instance_of variant meaning link new) after unless_moved
    came away live =
        by_test (λ (known : HostStore). StoreFits (instance_of variant meaning link new) after known) store Unknown (has_same_cell old new)
        (λ e. absurd (away (sym (same_role old new (same_told old new _ _ (held_told variant meaning link old (s.cells at)
        (s.order.holds at)) (held_told variant meaning link new (t.cells at) held_then) e)) ∙ live))) (λ e. tt)

    moves : requests_of after.batches ≡ requests_of y.batches → (role_of old ≡ Live → Rested ⊎ HasEnded unless_moved)
        → MovedOn unless_moved
    moves same was = moved_on laws world y handed s z stores keeps at new after given t unless_moved same was came

    -- what an acceptance answers fits the history
    arrived : (ticket : List ℕ) (own : (content : TicketContent) → right_ticket meaning variant link.key ticket ≡ Ok content
        → Contains handed.tickets ticket) (accepted : Accepted) (a : IsArrival laws world y handed s at ticket new own accepted)
        → requests_of after.batches ≡ requests_of y.batches
        → IsGenuineUnder variant meaning link after (record { key = key_of old; bytes = accepted.snapshot })
        → StoreFits (instance_of variant meaning link new) after (Arrived accepted)
    arrived ticket own accepted a same genuine =
        subst (λ (k : List ℕ). StoreFits (instance_at variant meaning link k) after (Arrived accepted)) (sym a.key) (
          record { content = a.content; right = a.right; names = genuine a.content a.right; at = a.at_position },
          a.position ∙ sym (ap (λ (requests : List (List ℕ)). length requests) same),
        )

  pub stepped : (part : WorldPart) (new : Standing) (f : WorldPartLeads variant meaning link old part new)
      → IsOverStore store old part → LeavesNoneByChance variant meaning link old part new f
      → IsHonest variant meaning link handed old part new f → IsFineStage laws world y handed s at part new f → StageGoesOn part new f
  stepped (Lives part) new f over chance honest fine = elim (live_or (role_of old)) [
    | inl live ↦ stepped_here part new f live over chance honest fine
    | inr away ↦ stepped_elsewhere part new f away
  ]
  stepped (Invites nonce key result) new f over chance honest fine =
      let g = world_stepped laws world y handed s at (Invites nonce key result) new f honest fine in
      let next : WaitingCell = waiting_for link variant meaning.id nonce key in
      let m = moves new g.after (handed_after variant meaning link handed old (Invites nonce key result) new f) g.stands g.steps (λ live.
      let c = live_cell laws world y handed s at live in
      inl (rests new g.after (handed_after variant meaning link handed old (Invites nonce key result) new f) g.stands
      (move_beside (λ bytes. invitation_in next (moved_cell_of bytes)) old new result f.2.moves) fine live
      (invited_same next c.cell old new result
      (move_comes variant meaning link (invitation_in next) old new (Some (moved.Live c.cell)) result c.held f.2.moves)))) in
      record { after = g.after; stands = g.stands; kept = m.kept; keeps_then = m.keeps_then; steps = m.same; goes = m.same }
  stepped (Retires nonce offer result) new f over chance honest fine =
      let g = world_stepped laws world y handed s at (Retires nonce offer result) new f honest fine in
      let m = moves new g.after (handed_after variant meaning link handed old (Retires nonce offer result) new f) g.stands g.steps (λ live.
      let c = live_cell laws world y handed s at live in
      elim (left_or laws world y handed s at nonce offer new f.0 c.cell c.is c.held
      (fine_offer laws world y handed s at nonce offer result new f honest fine (subst IsOrWas (sym c.is) tt)) result
      (move_comes variant meaning link (retirement_in meaning variant link nonce offer) old new (Some (moved.Live c.cell)) result c.held
      f.1.moves)) [
        | inl same ↦ inl (rests new g.after (handed_after variant meaning link handed old (Retires nonce offer result) new f) g.stands
            (move_beside (λ bytes. retirement_in meaning variant link nonce offer (moved_cell_of bytes)) old new result f.1.moves) fine.1
            live same)
        | inr gone ↦ inr (record { shut = gone.shut; unmarred = gone.unmarred; fits = λ role. absurd (gone.away role) })
      ]) in
      record { after = g.after; stands = g.stands; kept = m.kept; keeps_then = m.keeps_then; steps = m.same; goes = m.same }
  stepped (Accepts ticket (Err why)) new f over chance honest fine =
      let g = world_stepped laws world y handed s at (Accepts ticket (Err why)) new f honest fine in
      let m = moves new g.after (handed_after variant meaning link handed old (Accepts ticket (Err why)) new f) g.stands g.steps (λ live.
      let c = live_cell laws world y handed s at live in
      inl (rests new g.after (handed_after variant meaning link handed old (Accepts ticket (Err why)) new f) g.stands
      (move_beside (λ bytes. acceptance_in meaning variant link ticket (moved_cell_of bytes)) old new (Err why) f.moves) fine.1 live
      (accepted_same variant meaning link ticket c.cell old new (Err why)
      (move_comes variant meaning link (acceptance_in meaning variant link ticket) old new (Some (moved.Live c.cell)) (Err why) c.held
      f.moves)))) in
      record { after = g.after; stands = g.stands; kept = m.kept; keeps_then = m.keeps_then; steps = m.same; goes = m.same }
  stepped (Accepts ticket (Ok accepted)) new f over chance honest fine =
      let g = world_stepped laws world y handed s at (Accepts ticket (Ok accepted)) new f honest fine in
      let given = handed_after variant meaning link handed old (Accepts ticket (Ok accepted)) new f in
      let a = arrives laws world y handed s at ticket new honest.tickets.0 accepted f in
      let fits : StoreFits (instance_of variant meaning link new) g.after (Arrived accepted) =
      arrived new g.after given g.stands ticket honest.tickets.0 accepted a g.steps
      (each_right (IsGenuineUnder variant meaning link g.after) handed.snapshots (accepted_snapshots (key_of old) (Ok accepted))
      g.stands.named).0 in
      let m = moved_on laws world y handed s z stores keeps at new g.after given g.stands (Arrived accepted) g.steps
      (λ live. inr (record { shut = a.shut; unmarred = a.unmarred; fits = λ role. fits })) (λ away role. fits) in
      record { after = g.after; stands = g.stands; kept = m.kept; keeps_then = m.keeps_then; steps = m.same; goes = m.same }
