-- How each stage keeps the order of a world: nothing is changed; the module is invited, leaves, or
-- enters; or it goes on. With it: what stands in order between two stages, with what was handed
-- out.
use Rattle.std.specs.List.{Contains, AllByRecursion}
use Rattle.std.specs.Prelude.{length}
use Rattle.std.proofs.Common.{◌≡◌, ◌∙◌, ◌++◌, ℕ, false, List, [], ◌∷◌, Option, None, Some, refl, sym, subst, inl, inr, Result, Ok, Err}
use Rattle.std.proofs.lemmas.List.Elements.{Contains-append_left, Contains-push}
use Rattle.mm_digest.specs.declared.variant.Variant.{Variant}
use Rattle.mm_platform.specs.Standing.{Standing}
use Rattle.mm_module.specs.Batch.{Batch}
use Rattle.mm_module.specs.Meaning.{Meaning}
use Rattle.mm_model.specs.History.{History}
use Rattle.mm_model.specs.ListLaws.{each_append}
use Rattle.mm_model.specs.Standing.{RegisterStands, cell_of}
use Rattle.mm_call.specs.CallPremises.{IsWithin}
use Rattle.mm_move.specs.Orders.{barrier_of}
use Rattle.mm_move.specs.declared.accepting.Accepted.{Accepted}
use Rattle.mm_move.specs.declared.cell.MovedCell.{MovedCell}
use Rattle.mm_move.specs.declared.cell.MovedCell.TheVariants as moved
use Rattle.mm_move.specs.declared.cell.RetiredCell.{RetiredCell}
use Rattle.mm_move.specs.declared.cell.WaitingCell.{WaitingCell}
use Rattle.mm_move.specs.declared.link.Link.{Link}
use Rattle.mm_move.specs.declared.refusal.MoveRefusal.{MoveRefusal}
use Rattle.mm_worlds.specs.Premises.{Handed, KeyedSnapshot, accepted_snapshots, given_tickets, instance_at, IsGenuineUnder}
use Rattle.mm_worlds.proofs.Between.{IsAwaited, IsLiveCell, HoldsCell, HoldsOwn, holds_still, Cells, HasLeft, IsSpent, both_changed}
use Rattle.mm_worlds.proofs.Between.{changed_at, each_changed, from_changed, here_changed, left_on, spent_on, there_changed, IsInOrder}
use Rattle.mm_worlds.proofs.Between.{IsPlaced, LeftFor, LivesAt, anchor_at, left_for_on, IsGoodPaper}
use Rattle.mm_worlds.proofs.Between.{papers_on}

module _ (variant : Variant) (meaning : Meaning) (link : Link) (world : ℕ → Standing) (cells : Cells) (y : History) (nonces : List (List ℕ))
    (at : ℕ) (new : Standing) where
  abbrev World : ℕ → Standing
  World = changed_at world at new

  abbrev With : Option MovedCell → Cells
  With held = changed_at cells at held

  -- a cell that awaits none: whoever is awaited was before
  awaited_back : (held : Option MovedCell) → ((nonce : List ℕ) → IsAwaited held nonce → ⊥) → (other : ℕ) (nonce : List ℕ)
      → IsAwaited (With held other) nonce → (other ≡ at → ⊥) × IsAwaited (cells other) nonce
  awaited_back held none other nonce h = elim (from_changed (λ (x : Option MovedCell). IsAwaited x nonce) cells at held other h) [
    | inl here ↦ absurd (none nonce here.1)
    | inr there ↦ there
  ]

  -- the register of another platform is as before
  register_there : (other : ℕ) → (other ≡ at → ⊥) → (key : List ℕ)
      → RegisterStands variant (instance_at variant meaning link key) (world other) y
      → RegisterStands variant (instance_at variant meaning link key) (World other) y
  register_there other differs key r =
      subst (λ (s : Standing). RegisterStands variant (instance_at variant meaning link key) s y)
      (sym (there_changed world at new other differs)) r

  live_differs : (away : IsLiveCell (cells at) → ⊥) (other : ℕ) (held : MovedCell) → cells other ≡ Some held → IsLiveCell (Some held)
      → other ≡ at → ⊥
  live_differs away other held here live same =
      away (subst (λ (n : ℕ). IsLiveCell (cells n)) same (subst IsLiveCell (sym here) live))

  still_placed : (away : IsLiveCell (cells at) → ⊥) (going : Option (List ℕ)) → IsPlaced variant meaning link world cells going y
      → IsPlaced variant meaning link World cells going y
  still_placed away (Some going) p = p
  still_placed away None p = record {
    at = p.at;
    key = p.key;
    here = p.here;
    register = register_there p.at (live_differs away p.at (moved.Live (cell_of (instance_at variant meaning link p.key) y)) p.here tt)
        p.key p.register;
    only = p.only;
  }

  -- the cell is as before, where the module isn't
  pub order_still : (going : Option (List ℕ)) (more : List (List ℕ)) → (IsLiveCell (cells at) → ⊥) → new.cell ≡ (world at).cell
      → IsInOrder variant meaning link world cells going y nonces → IsInOrder variant meaning link World cells going y (nonces ++ more)
  order_still going more away same o = record {
    holds = each_changed (λ (other : ℕ) (s : Standing). HoldsCell variant meaning link s (cells other)) world at new
        (holds_still variant meaning link (world at) new (cells at) same (o.holds at)) (λ other _. o.holds other);
    placed = still_placed away going o.placed;
    left = λ other. left_on (LeftFor variant meaning link cells nonces going y)
        (LeftFor variant meaning link cells (nonces ++ more) going y)
        (left_for_on variant meaning link cells cells nonces more going y (λ q nonce k h. h)) (cells other) (o.left other);
    known = λ other nonce h. Contains-append_left nonces more nonce (o.known other nonce h);
    apart = o.apart;
  }

  -- the module is invited, under a nonce of none before
  module _ (c : WaitingCell) (fresh : Contains nonces c.nonce → ⊥) (away : IsLiveCell (cells at) → ⊥) where
    abbrev Waits : Cells
    Waits = With (Some (moved.Waiting c))

    pub known_back : (other : ℕ) (nonce : List ℕ) → Contains nonces nonce → IsAwaited (Waits other) nonce → IsAwaited (cells other) nonce
    known_back other nonce k h =
        elim (from_changed (λ (x : Option MovedCell). IsAwaited x nonce) cells at (Some (moved.Waiting c)) other h) [
          | inl here ↦ absurd (fresh (subst (λ (n : List ℕ). Contains nonces n) (sym here.1) k))
          | inr there ↦ there.1
        ]

    waits_placed : (going : Option (List ℕ)) → IsPlaced variant meaning link world cells going y
        → IsPlaced variant meaning link World Waits going y
    waits_placed None p = record {
      at = p.at;
      key = p.key;
      here = there_changed cells at (Some (moved.Waiting c)) p.at
          (live_differs away p.at (moved.Live (cell_of (instance_at variant meaning link p.key) y)) p.here tt) ∙ p.here;
      register = register_there p.at (live_differs away p.at (moved.Live (cell_of (instance_at variant meaning link p.key) y)) p.here tt)
          p.key p.register;
      only = λ other h. elim (from_changed IsLiveCell cells at (Some (moved.Waiting c)) other h) [
        | inl here ↦ absurd here.1
        | inr there ↦ p.only other there.1
      ];
    }
    waits_placed (Some going) p = record {
      shut = p.shut;
      none = λ other h. elim (from_changed IsLiveCell cells at (Some (moved.Waiting c)) other h) [
        | inl here ↦ absurd here.1
        | inr there ↦ p.none other there.1
      ];
    }

    one_waits : (known : (other : ℕ) (nonce : List ℕ) → IsAwaited (cells other) nonce → Contains nonces nonce)
        → ((one other : ℕ) (nonce : List ℕ) → IsAwaited (cells one) nonce → IsAwaited (cells other) nonce → one ≡ other)
        → (one other : ℕ) (nonce : List ℕ) → IsAwaited (Waits one) nonce → IsAwaited (Waits other) nonce → one ≡ other
    one_waits known apart one other nonce h k =
        elim (from_changed (λ (x : Option MovedCell). IsAwaited x nonce) cells at (Some (moved.Waiting c)) one h) [
          | inl here ↦ elim (from_changed (λ (x : Option MovedCell). IsAwaited x nonce) cells at (Some (moved.Waiting c)) other k) [
            | inl also ↦ here.0 ∙ sym also.0
            | inr there ↦ absurd (fresh (subst (λ (n : List ℕ). Contains nonces n) (sym here.1) (known other nonce there.1)))
          ]
          | inr there ↦ elim (from_changed (λ (x : Option MovedCell). IsAwaited x nonce) cells at (Some (moved.Waiting c)) other k) [
            | inl also ↦ absurd (fresh (subst (λ (n : List ℕ). Contains nonces n) (sym also.1) (known one nonce there.1)))
            | inr both ↦ apart one other nonce there.1 both.1
          ]
        ]

    pub order_invited : (going : Option (List ℕ)) → HoldsOwn variant meaning link new (moved.Waiting c)
        → IsInOrder variant meaning link world cells going y nonces
        → IsInOrder variant meaning link World Waits going y (nonces ++ c.nonce ∷ [])
    order_invited going holds o = record {
      holds = both_changed (HoldsCell variant meaning link) world cells at new (Some (moved.Waiting c)) holds o.holds;
      placed = waits_placed going o.placed;
      left = each_changed
          (λ (other : ℕ) (held : Option MovedCell). HasLeft
          (LeftFor variant meaning link Waits (nonces ++ c.nonce ∷ []) going y) held)
          cells at (Some (moved.Waiting c)) tt
          (λ other _. left_on (LeftFor variant meaning link cells nonces going y)
          (LeftFor variant meaning link Waits (nonces ++ c.nonce ∷ []) going y)
          (left_for_on variant meaning link cells Waits nonces (c.nonce ∷ []) going y known_back) (cells other) (o.left other));
      known = λ other nonce h.
          elim (from_changed (λ (x : Option MovedCell). IsAwaited x nonce) cells at (Some (moved.Waiting c)) other h) [
            | inl here ↦ subst (λ (n : List ℕ). Contains (nonces ++ c.nonce ∷ []) n) here.1 (Contains-push nonces c.nonce)
            | inr there ↦ Contains-append_left nonces (c.nonce ∷ []) nonce (o.known other nonce there.1)
          ];
      apart = one_waits o.known o.apart;
    }

  -- the module leaves for a nonce, at the history's summary or anchor
  module _ (c : RetiredCell) (at_anchor : c.summary.bytes ≡ anchor_at variant meaning link y) where
    abbrev Leaves : Cells
    Leaves = With (Some (moved.Retired c))

    leaves_back : (other : ℕ) (nonce : List ℕ) → IsAwaited (Leaves other) nonce → (other ≡ at → ⊥) × IsAwaited (cells other) nonce
    leaves_back = awaited_back (Some (moved.Retired c)) (λ nonce h. h)

    pub left_goes : (more : List (List ℕ)) (nonce anchor : List ℕ) → LeftFor variant meaning link cells nonces None y nonce anchor
        → LeftFor variant meaning link Leaves (nonces ++ more) (Some c.nonce) y nonce anchor
    left_goes more nonce anchor h =
        inl (spent_on cells Leaves nonces more nonce (λ other k awaits. (leaves_back other nonce awaits).1) h)

    pub order_left : (more : List (List ℕ)) → y.is_open ≡ false → IsLiveCell (cells at)
        → HoldsOwn variant meaning link new (moved.Retired c)
        → IsInOrder variant meaning link world cells None y nonces
        → IsInOrder variant meaning link World Leaves (Some c.nonce) y (nonces ++ more)
    order_left more shut live holds o = record {
      holds = both_changed (HoldsCell variant meaning link) world cells at new (Some (moved.Retired c)) holds o.holds;
      placed = record {
        shut = shut;
        none = λ other h. elim (from_changed IsLiveCell cells at (Some (moved.Retired c)) other h) [
          | inl here ↦ absurd here.1
          | inr there ↦ there.0 (o.placed.only other there.1 ∙ sym (o.placed.only at live))
        ];
      };
      left = each_changed
          (λ (other : ℕ) (held : Option MovedCell). HasLeft
          (LeftFor variant meaning link Leaves (nonces ++ more) (Some c.nonce) y) held)
          cells at (Some (moved.Retired c)) (inr (refl, at_anchor))
          (λ other _. left_on (LeftFor variant meaning link cells nonces None y)
          (LeftFor variant meaning link Leaves (nonces ++ more) (Some c.nonce) y) (left_goes more) (cells other) (o.left other));
      known = λ other nonce h. Contains-append_left nonces more nonce (o.known other nonce (leaves_back other nonce h).1);
      apart = λ one other nonce h k. o.apart one other nonce (leaves_back one nonce h).1 (leaves_back other nonce k).1;
    }

  -- the module lives there at the history z
  module _ (key : List ℕ) (z : History) (register : RegisterStands variant (instance_at variant meaning link key) new z)
    where
      abbrev Lives : Cells
      Lives = With (Some (moved.Live (cell_of (instance_at variant meaning link key) z)))

      lives_back : (other : ℕ) (nonce : List ℕ) → IsAwaited (Lives other) nonce → (other ≡ at → ⊥) × IsAwaited (cells other) nonce
      lives_back = awaited_back (Some (moved.Live (cell_of (instance_at variant meaning link key) z))) (λ nonce h. h)

      lives_placed : ((other : ℕ) → (other ≡ at → ⊥) → IsLiveCell (cells other) → ⊥) → LivesAt variant meaning link World Lives z
      lives_placed none = record {
        at = at;
        key = key;
        here = here_changed cells at (Some (moved.Live (cell_of (instance_at variant meaning link key) z)));
        register = subst (λ (s : Standing). RegisterStands variant (instance_at variant meaning link key) s z)
            (sym (here_changed world at new)) register;
        only = λ other h.
            elim (from_changed IsLiveCell cells at (Some (moved.Live (cell_of (instance_at variant meaning link key) z))) other h) [
              | inl here ↦ here.0
              | inr there ↦ absurd (none other there.0 there.1)
            ];
      }

      -- it entered there by the nonce that it left for
      pub arrived : (going : List ℕ) (c : WaitingCell) (more : List (List ℕ)) → cells at ≡ Some (moved.Waiting c) → c.nonce ≡ going
          → IsInOrder variant meaning link world cells (Some going) y nonces → (nonce anchor : List ℕ)
          → LeftFor variant meaning link cells nonces (Some going) y nonce anchor → IsSpent Lives (nonces ++ more) nonce
      arrived going c more here is o nonce anchor (inl spent) =
          spent_on cells Lives nonces more nonce (λ other k awaits. (lives_back other nonce awaits).1) spent
      arrived going c more here is o nonce anchor (inr goes) =
          let waits : IsAwaited (cells at) nonce =
          subst (λ (x : Option MovedCell). IsAwaited x nonce) (sym here) (is ∙ sym goes.0) in
          record {
            known = Contains-append_left nonces more nonce (o.known at nonce waits);
            awaited = λ other h.
                let back = lives_back other nonce h in back.0 (o.apart other at nonce back.1 waits);
          }

      pub order_arrived : (going : List ℕ) (c : WaitingCell) (more : List (List ℕ)) → cells at ≡ Some (moved.Waiting c)
          → c.nonce ≡ going → HoldsOwn variant meaning link new (moved.Live (cell_of (instance_at variant meaning link key) z))
          → IsInOrder variant meaning link world cells (Some going) y nonces
          → IsInOrder variant meaning link World Lives None z (nonces ++ more)
      order_arrived going c more here is holds o = record {
        holds = both_changed (HoldsCell variant meaning link) world cells at new
            (Some (moved.Live (cell_of (instance_at variant meaning link key) z))) holds o.holds;
        placed = lives_placed (λ other differs live. o.placed.none other live);
        left = each_changed
            (λ (other : ℕ) (held : Option MovedCell). HasLeft
            (LeftFor variant meaning link Lives (nonces ++ more) None z) held)
            cells at (Some (moved.Live (cell_of (instance_at variant meaning link key) z))) tt
            (λ other _. left_on (LeftFor variant meaning link cells nonces (Some going) y)
            (LeftFor variant meaning link Lives (nonces ++ more) None z) (arrived going c more here is o) (cells other) (o.left other));
        known = λ other nonce h. Contains-append_left nonces more nonce (o.known other nonce (lives_back other nonce h).1);
        apart = λ one other nonce h k. o.apart one other nonce (lives_back one nonce h).1 (lives_back other nonce k).1;
      }

      -- it lived there before
      pub goes_on_left : (more : List (List ℕ)) (nonce anchor : List ℕ) → LeftFor variant meaning link cells nonces None y nonce anchor
          → LeftFor variant meaning link Lives (nonces ++ more) None z nonce anchor
      goes_on_left more nonce anchor h =
          spent_on cells Lives nonces more nonce (λ other k awaits. (lives_back other nonce awaits).1) h

      pub order_lived : (more : List (List ℕ)) → IsLiveCell (cells at)
          → HoldsOwn variant meaning link new (moved.Live (cell_of (instance_at variant meaning link key) z))
          → IsInOrder variant meaning link world cells None y nonces → IsInOrder variant meaning link World Lives None z (nonces ++ more)
      order_lived more live holds o = record {
        holds = both_changed (HoldsCell variant meaning link) world cells at new
            (Some (moved.Live (cell_of (instance_at variant meaning link key) z))) holds o.holds;
        placed = lives_placed (λ other differs h. differs (o.placed.only other h ∙ sym (o.placed.only at live)));
        left = each_changed
            (λ (other : ℕ) (held : Option MovedCell). HasLeft
            (LeftFor variant meaning link Lives (nonces ++ more) None z) held)
            cells at (Some (moved.Live (cell_of (instance_at variant meaning link key) z))) tt
            (λ other _. left_on (LeftFor variant meaning link cells nonces None y)
            (LeftFor variant meaning link Lives (nonces ++ more) None z) (goes_on_left more) (cells other) (o.left other));
        known = λ other nonce h. Contains-append_left nonces more nonce (o.known other nonce (lives_back other nonce h).1);
        apart = λ one other nonce h k. o.apart one other nonce (lives_back one nonce h).1 (lives_back other nonce k).1;
      }

-- What stands in order between two stages, with what was handed out; and that a stage that changes no cell keeps it.

module _ (variant : Variant) (meaning : Meaning) (link : Link) (all others : List (List ℕ)) (asked : List Batch) where
  pub record StandsInOrder (world : ℕ → Standing) (y : History) (handed : Handed) : Type 0 where
    pub cells : Cells
    pub long : length (barrier_of variant link) ≡ 32
    pub going : Option (List ℕ)
    pub order : IsInOrder variant meaning link world cells going y handed.nonces
    pub within : IsWithin all others asked (instance_at variant meaning link link.key) y
    pub named : AllByRecursion (IsGenuineUnder variant meaning link y) handed.snapshots
    pub papers : AllByRecursion (IsGoodPaper variant meaning link all (LeftFor variant meaning link cells handed.nonces going y) y)
        handed.tickets

  abbrev pub handed_more : Handed → List KeyedSnapshot → List (List ℕ) → List (List ℕ) → Handed
  handed_more handed snapshots tickets nonces = record {
    snapshots = handed.snapshots ++ snapshots;
    tickets = handed.tickets ++ tickets;
    nonces = handed.nonces ++ nonces;
  }

  -- no cell is changed, and the module isn't there
  pub kept_still : (world : ℕ → Standing) (y : History) (handed : Handed) (s : StandsInOrder world y handed) (at : ℕ) (new : Standing)
      → (IsLiveCell (s.cells at) → ⊥) → new.cell ≡ (world at).cell → (snapshots : List KeyedSnapshot) (tickets nonces : List (List ℕ))
      → AllByRecursion (IsGenuineUnder variant meaning link y) snapshots
      → AllByRecursion (IsGoodPaper variant meaning link all (LeftFor variant meaning link s.cells handed.nonces s.going y) y) tickets
      → StandsInOrder (changed_at world at new) y (handed_more handed snapshots tickets nonces)
  kept_still world y handed s at new away same snapshots tickets nonces named papers = record {
    cells = s.cells;
    long = s.long;
    going = s.going;
    order = order_still variant meaning link world s.cells y handed.nonces at new s.going nonces away same s.order;
    within = s.within;
    named = each_append (IsGenuineUnder variant meaning link y) handed.snapshots snapshots s.named named;
    papers = papers_on variant meaning link all (LeftFor variant meaning link s.cells handed.nonces s.going y)
        (LeftFor variant meaning link s.cells (handed.nonces ++ nonces) s.going y) y y
        (left_for_on variant meaning link s.cells s.cells handed.nonces nonces s.going y (λ q nonce k h. h)) (λ content n. n)
        (handed.tickets ++ tickets)
        (each_append (IsGoodPaper variant meaning link all (LeftFor variant meaning link s.cells handed.nonces s.going y) y)
        handed.tickets tickets
        s.papers papers);
  }

  -- what is given, if anything is
  pub given_papers : (P : List ℕ → Type 0) (result : Result (List ℕ) MoveRefusal)
      → ((ticket : List ℕ) → result ≡ Ok ticket → P ticket) → AllByRecursion P (given_tickets result)
  given_papers P (Ok ticket) h = (h ticket refl, tt)
  given_papers P (Err why) h = tt

  pub given_snapshots : (P : KeyedSnapshot → Type 0) (key : List ℕ) (result : Result Accepted MoveRefusal)
      → ((accepted : Accepted) → result ≡ Ok accepted → P (record { key = key; bytes = accepted.snapshot }))
      → AllByRecursion P (accepted_snapshots key result)
  given_snapshots P key (Ok accepted) h = (h accepted refl, tt)
  given_snapshots P key (Err why) h = tt
