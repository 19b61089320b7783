-- A part of a life, or a move that leaves the cell, keeps the order of a world.
use Rattle.std.specs.List.{AllByRecursion}
use Rattle.std.specs.Str.{bytes_eq}
use Rattle.std.proofs.Common.{◌≡◌, ◌∙◌, ◌++◌, ℕ, List, [], ◌∷◌, Option, None, Some, ◌⊎◌, refl, sym, ap, subst}
use Rattle.mm_digest.specs.declared.variant.Variant.{Variant}
use Rattle.mm_digest.specs.declared.variant.Variant.TheVariants.{Opt}
use Rattle.mm_seal.specs.Snapshot.{Content}
use Rattle.mm_seal.specs.declared.cell.Cell.{Cell}
use Rattle.mm_platform.specs.Standing.{Standing}
use Rattle.mm_module.specs.Batch.{Batch}
use Rattle.mm_module.specs.Meaning.{Meaning}
use Rattle.mm_model.specs.History.{History, requests_of}
use Rattle.mm_model.specs.Chains.{Instance}
use Rattle.mm_model.specs.ListLaws.{each_append}
use Rattle.mm_model.specs.Messages.{AreNoGuards, IsClear}
use Rattle.mm_model.specs.Standing.{NamesPosition, IsGenuine, RegisterStands, StandsFor, cell_of}
use Rattle.mm_call.specs.CallPremises.{IsWithin}
use Rattle.mm_recovery.specs.HostStanding.{LivesElsewhere}
use Rattle.mm_life.specs.Deeds.{Calls, Checkpoints, Extends, LifeCall, LosesPower}
use Rattle.mm_life.specs.Stages.{PartSteps, Does, Holds, LifePart, PartLeads, part_calls}
use Rattle.mm_life.specs.Premises.{FindsNoCell, PartsAreRefusedElsewhere, IsUntagged, snapshots_of}
use Rattle.mm_life.proofs.Above.{AreListed, IsFirstGenuine, LifeLaws, part_lives}
use Rattle.mm_move.specs.Orders.{barrier_of}
use Rattle.mm_move.specs.declared.cell.MovedCell.{MovedCell}
use Rattle.mm_move.specs.declared.cell.MovedCell.TheVariants as moved
use Rattle.mm_move.specs.declared.link.Link.{Link}
use Rattle.mm_move.proofs.Above.{bytes_tell}
use Rattle.mm_sides.specs.BothSides.{Live, Role}
use Rattle.mm_worlds.specs.Premises.{Handed, KeyedSnapshot, keyed_snapshots, snapshots_under, key_of, role_of, calls_at, first_offers}
use Rattle.mm_worlds.specs.Premises.{instance_at, IsGenuineUnder}
use Rattle.mm_worlds.proofs.Between.{IsLiveCell, bytes_held, IsGoodPaper, IsInOrder, LeftFor, by_test, changed_at}
use Rattle.mm_worlds.proofs.Between.{papers_on, HoldsCell, HoldsOwn, held_told, key_held, no_cell, role_held}
use Rattle.mm_worlds.proofs.RefusedParts.{genuine_first, none_issued, part_refused}
use Rattle.mm_worlds.proofs.Beside.{IsBeside}
use Rattle.mm_worlds.proofs.Orders.{StandsInOrder, handed_more, kept_still, goes_on_left, order_lived}
use Rattle.mm_worlds.proofs.Names.{names_key, within_key}

-- Snapshots under keys.

module _ (variant : Variant) (meaning : Meaning) (link : Link) (y : History) where
  abbrev IsGenuineHere : KeyedSnapshot → Type 0
  IsGenuineHere = IsGenuineUnder variant meaning link y

  pub under_genuine : (key : List ℕ) (snapshots : List KeyedSnapshot) → AllByRecursion IsGenuineHere snapshots
      → AllByRecursion (IsGenuine (instance_at variant meaning link key) y) (snapshots_under key snapshots)
  under_genuine key [] g = tt
  under_genuine key (s ∷ snapshots) g =
      by_test (λ (xs : List (List ℕ)). AllByRecursion (IsGenuine (instance_at variant meaning link key) y) xs)
      (s.bytes ∷ snapshots_under key snapshots) (snapshots_under key snapshots) (bytes_eq s.key key)
      (λ e. (
        subst (λ (k : List ℕ). IsGenuine (instance_at variant meaning link k) y s.bytes) (bytes_tell s.key key e) g.0,
        under_genuine key snapshots g.1,
      ))
      (λ e. under_genuine key snapshots g.1)

  keyed_genuine : (key : List ℕ) (issued : List (List ℕ)) → AllByRecursion (IsGenuine (instance_at variant meaning link key) y) issued
      → AllByRecursion IsGenuineHere (keyed_snapshots key issued)
  keyed_genuine key [] g = tt
  keyed_genuine key (bytes ∷ issued) g = (g.0, keyed_genuine key issued g.1)

pub all_named : (variant : Variant) (meaning : Meaning) (link : Link) (key : List ℕ) (y z : History)
    → ((content : Content) → NamesPosition (instance_at variant meaning link key) y content
    → NamesPosition (instance_at variant meaning link key) z content)
    → (snapshots : List KeyedSnapshot) → AllByRecursion (IsGenuineUnder variant meaning link y) snapshots
    → AllByRecursion (IsGenuineUnder variant meaning link z) snapshots
all_named variant meaning link key y z names [] g = tt
all_named variant meaning link key y z names (s ∷ snapshots) g = (
  λ content right. names_key variant meaning link key s.key z content
      (names content (names_key variant meaning link s.key key y content (g.0 content right))),
  all_named variant meaning link key y z names snapshots g.1,
)

-- what a world is asked for, and what stands in order in it
-- What a world takes from its variant and its premises: what a part of a life leads to, by what is seen of it, or where it is still.
pub record WorldLaws (variant : Variant) (meaning : Meaning) (link : Link) (all others : List (List ℕ)) (asked : List Batch)
    (IsSeen : Standing → LifePart → Standing → Type 0) (IsStill : Standing → List LifeCall → Type 0) : Type 0 where
  pub life : (key : List ℕ) → LifeLaws all others asked (instance_at variant meaning link key) IsSeen IsStill
  pub refuses : PartsAreRefusedElsewhere
  pub clear : IsClear all
  pub guarded : AreNoGuards (barrier_of variant link) others asked

module _ {variant : Variant} {meaning : Meaning} {link : Link} {all others : List (List ℕ)} {asked : List Batch}
    {IsSeen : Standing → LifePart → Standing → Type 0} {IsStill : Standing → List LifeCall → Type 0}
    (laws : WorldLaws variant meaning link all others asked IsSeen IsStill) (world : ℕ → Standing) (y : History) (handed : Handed)
    (s : StandsInOrder variant meaning link all others asked world y handed) (at : ℕ) (new : Standing) where
  abbrev old : Standing
  old = world at

  abbrev here : Instance
  here = instance_at variant meaning link (key_of old)

  abbrev Good : List (List ℕ) → Type 0
  Good tickets = AllByRecursion (IsGoodPaper variant meaning link all (LeftFor variant meaning link s.cells handed.nonces s.going y) y)
      tickets

  -- what stands behind a stage that hands out these
  pub record Stepped (snapshots : List KeyedSnapshot) (tickets nonces : List (List ℕ)) (Steps : List (List ℕ) → Type 0) : Type 0 where
    pub after : History
    pub stands : StandsInOrder variant meaning link all others asked (changed_at world at new) after
        (handed_more variant meaning link all others asked handed snapshots tickets nonces)
    pub steps : Steps (requests_of after.batches)

  -- the module is here
  pub record IsHere (c : Cell) : Type 0 where
    pub order : IsInOrder variant meaning link world s.cells None y handed.nonces
    pub papers : (tickets : List (List ℕ)) → Good tickets
        → AllByRecursion (IsGoodPaper variant meaning link all (LeftFor variant meaning link s.cells handed.nonces None y) y) tickets
    pub live : IsLiveCell (s.cells at)
    pub cell : c ≡ cell_of here y
    pub stands : StandsFor here old y
    pub within : IsWithin all others asked here y

  here_by : (c : Cell) → s.cells at ≡ Some (moved.Live c) → HoldsOwn variant meaning link old (moved.Live c)
      → (going : Option (List ℕ)) → s.going ≡ going → IsInOrder variant meaning link world s.cells going y handed.nonces → IsHere c
  here_by c e h (Some going) is o = absurd (o.placed.none at (subst IsLiveCell (sym e) tt))
  here_by c e h None is o =
      let live : IsLiveCell (s.cells at) = subst IsLiveCell (sym e) tt in
      let place : at ≡ o.placed.at = o.placed.only at live in
      let same : Some (moved.Live c) ≡ Some (moved.Live (cell_of (instance_at variant meaning link o.placed.key) y)) =
      sym e ∙ ap s.cells place ∙ o.placed.here in
      let cell : c ≡ cell_of (instance_at variant meaning link o.placed.key) y = cc in
      let key : key_of old ≡ o.placed.key = key_held variant meaning link old (moved.Live c) h ∙ ap (λ (x : Cell). x.key) cell in
      let held : HoldsOwn variant meaning link old (moved.Live (cell_of (instance_at variant meaning link o.placed.key) y)) =
      subst (λ (x : Cell). HoldsOwn variant meaning link old (moved.Live x)) cell h in
      record {
        order = o;
        papers = λ tickets good. subst (λ (g : Option (List ℕ)).
            AllByRecursion (IsGoodPaper variant meaning link all (LeftFor variant meaning link s.cells handed.nonces g y) y) tickets) is
            good;
        live = live;
        cell = cell ∙ ap (λ (k : List ℕ). cell_of (instance_at variant meaning link k) y) (sym key);
        stands = subst (λ (k : List ℕ). StandsFor (instance_at variant meaning link k) old y) (sym key) (record {
          spells = held.formed;
          cell = held.told;
          register = subst (λ (n : ℕ). RegisterStands variant (instance_at variant meaning link o.placed.key) (world n) y) (sym place)
              o.placed.register;
        });
        within = within_key variant meaning link link.key (key_of old) all others asked y s.within;
      }

  pub is_here : (c : Cell) → s.cells at ≡ Some (moved.Live c) → HoldsOwn variant meaning link old (moved.Live c) → IsHere c
  is_here c e h = here_by c e h s.going refl s.order

  -- it goes on here to another history
  kept_lived : (c : Cell) → IsHere c → (z : History) → StandsFor here new z → IsWithin all others asked here z
      → ((content : Content) → NamesPosition here y content → NamesPosition here z content)
      → (snapshots : List KeyedSnapshot) (tickets nonces : List (List ℕ))
      → AllByRecursion (IsGenuineUnder variant meaning link z) snapshots → Good tickets
      → StandsInOrder variant meaning link all others asked (changed_at world at new) z
      (handed_more variant meaning link all others asked handed snapshots tickets nonces)
  kept_lived c i z stands within names snapshots tickets nonces named good =
      let After : List ℕ → List ℕ → Type 0 =
      LeftFor variant meaning link (changed_at s.cells at (Some (moved.Live (cell_of here z)))) (handed.nonces ++ nonces) None z in
      record {
        cells = changed_at s.cells at (Some (moved.Live (cell_of here z)));
        long = s.long;
        going = None;
        order = order_lived variant meaning link world s.cells y handed.nonces at new (key_of old) z stands.register nonces i.live
            (record { formed = stands.spells; own = (refl, refl, refl); told = stands.cell }) i.order;
        within = within_key variant meaning link (key_of old) link.key all others asked z within;
        named = each_append (IsGenuineUnder variant meaning link z) handed.snapshots snapshots
            (all_named variant meaning link (key_of old) y z names handed.snapshots s.named) named;
        papers = papers_on variant meaning link all (LeftFor variant meaning link s.cells handed.nonces None y) After y z
            (goes_on_left variant meaning link world s.cells y handed.nonces at new (key_of old) z stands.register nonces)
            (λ content n. names_key variant meaning link (key_of old) link.key z content
            (names content (names_key variant meaning link link.key (key_of old) y content n))) (handed.tickets ++ tickets)
            (each_append (IsGoodPaper variant meaning link all (LeftFor variant meaning link s.cells handed.nonces None y) y)
            handed.tickets tickets
            (i.papers handed.tickets s.papers) (i.papers tickets good));
      }

  -- where the module is, what the variant asks of a part is seen, or the part is still
  abbrev pub IsSeenHere : LifePart → List LifeCall → Type 0
  IsSeenHere part calls = role_of old ≡ Live → IsSeen old part new ⊎ IsStill old calls

  -- others at most extend the register
  abbrev pub IsQuietHere : Type 0
  IsQuietHere = (values : List (List ℕ)) → IsSeenHere (Does (Extends values)) []

  -- A move leaves the cell.
  module _ (snapshots : List KeyedSnapshot) (tickets nonces : List (List ℕ)) (same : new.cell ≡ old.cell) (beside : IsBeside old new)
      (shown : IsQuietHere) (named : AllByRecursion (IsGenuineUnder variant meaning link y) snapshots)
      (good : Good tickets) where
    abbrev Quiet : Type 0
    Quiet = Stepped snapshots tickets nonces (λ after. after ≡ requests_of y.batches)

    pub quiet_away : (IsLiveCell (s.cells at) → ⊥) → Quiet
    quiet_away away = record {
      after = y;
      stands = kept_still variant meaning link all others asked world y handed s at new away same snapshots tickets nonces named good;
      steps = refl;
    }

    quiet_here : (c : Cell) → IsHere c → role_of old ≡ Live → Quiet
    quiet_here c i role =
        let l = part_lives (laws.life (key_of old)) y old (Does (Extends beside.values)) new (same, beside.items) i.stands i.within
        (shown beside.values role) tt (record { messages = tt; batches = tt }) in
        record {
          after = l.after;
          stands = kept_lived c i l.after l.stands l.within l.names snapshots tickets nonces
              (all_named variant meaning link (key_of old) y l.after l.names snapshots named) good;
          steps = l.steps;
        }

    by_quiet : (held : Option MovedCell) → s.cells at ≡ held → HoldsCell variant meaning link old held → Quiet
    by_quiet None e h = quiet_away (subst (λ (x : Option MovedCell). IsLiveCell x → ⊥) (sym e) (λ live. live))
    by_quiet (Some (moved.Waiting c)) e h = quiet_away (subst (λ (x : Option MovedCell). IsLiveCell x → ⊥) (sym e) (λ live. live))
    by_quiet (Some (moved.Retired c)) e h = quiet_away (subst (λ (x : Option MovedCell). IsLiveCell x → ⊥) (sym e) (λ live. live))
    by_quiet (Some (moved.Live c)) e h =
        quiet_here c (is_here c e h) (role_held variant meaning link old (Some (moved.Live c)) h)

    pub kept_quiet : Quiet
    kept_quiet = by_quiet (s.cells at) refl (s.order.holds at)

  -- a part of a life
  module _ (part : LifePart) (f : PartLeads variant meaning old part new) where
    abbrev calls : List LifeCall
    calls = part_calls variant meaning old part new f

    abbrev PartLived : Type 0
    PartLived =
        Stepped (keyed_snapshots (key_of old) (snapshots_of calls)) [] []
        (λ after. PartSteps variant meaning old part new f (requests_of y.batches) after)

    lives_elsewhere : (held : Option MovedCell) → HoldsCell variant meaning link old held → (IsLiveCell held → ⊥)
        → (kind : Variant) (id : ℕ) → LivesElsewhere kind id old
    lives_elsewhere held h away kind id = record {
      bytes = bytes_held held;
      told = held_told variant meaning link old held h;
      none = λ cell spells _ _. no_cell variant meaning link old held h away cell spells.0 spells.1;
    }

    finds_none : (held : Option MovedCell) → HoldsCell variant meaning link old held → (IsLiveCell held → ⊥) → (part : LifePart)
        → FindsNoCell variant meaning old part
    finds_none held h away (Holds p) = lives_elsewhere held h away variant meaning.id
    finds_none held h away (Does (Calls c)) = lives_elsewhere held h away variant meaning.id
    finds_none held h away (Does (Extends values)) = lives_elsewhere held h away variant meaning.id
    finds_none held h away (Does LosesPower) = lives_elsewhere held h away variant meaning.id
    finds_none held h away (Does (Checkpoints said)) = λ id. lives_elsewhere held h away Opt id

    -- where the module isn't, the history, each list and the cell are left
    pub record IsLeftElsewhere : Type 0 where
      pub stands : StandsInOrder variant meaning link all others asked (changed_at world at new) y
          (handed_more variant meaning link all others asked handed (keyed_snapshots (key_of old) (snapshots_of calls)) [] [])
      pub steps : (requests : List (List ℕ)) → PartSteps variant meaning old part new f requests requests
      pub cell : new.cell ≡ old.cell

    pub left_elsewhere : (held : Option MovedCell) → s.cells at ≡ held → HoldsCell variant meaning link old held
        → (IsLiveCell held → ⊥) → IsLeftElsewhere
    left_elsewhere held e h away =
        let x = laws.refuses variant meaning old part new f (finds_none held h away part) in
        record {
          stands = kept_still variant meaning link all others asked world y handed s at new
              (subst (λ (x : Option MovedCell). IsLiveCell x → ⊥) (sym e) away) x.cell
              (keyed_snapshots (key_of old) (snapshots_of calls)) [] []
              (rw (none_issued calls x.refused) tt) tt;
          steps = λ requests. part_refused variant meaning requests old part new f x.refused;
          cell = x.cell;
        }

    elsewhere : (held : Option MovedCell) → s.cells at ≡ held → HoldsCell variant meaning link old held → (IsLiveCell held → ⊥)
        → PartLived
    elsewhere held e h away =
        let x = left_elsewhere held e h away in
        record { after = y; stands = x.stands; steps = x.steps (requests_of y.batches) }

    lives_on : (c : Cell) → IsHere c → IsFirstGenuine here y calls → AreListed all asked here calls
        → IsSeen old part new ⊎ IsStill old calls → PartLived
    lives_on c i first listed seen =
        let l = part_lives (laws.life (key_of old)) y old part new f i.stands i.within seen first listed in
        record {
          after = l.after;
          stands = kept_lived c i l.after l.stands l.within l.names (keyed_snapshots (key_of old) (snapshots_of calls)) [] []
              (keyed_genuine variant meaning link l.after (key_of old) (snapshots_of calls) l.issued) tt;
          steps = l.steps;
        }

    module _ (honest : AllByRecursion (IsUntagged here (snapshots_under (key_of old) handed.snapshots))
        (first_offers (calls_at (role_of old) calls))) (listed : AreListed all asked here (calls_at (role_of old) calls))
        (seen : IsSeenHere part calls) where
      by_held : (held : Option MovedCell) → s.cells at ≡ held → HoldsCell variant meaning link old held → PartLived
      by_held None e h = elsewhere None e h (λ live. live)
      by_held (Some (moved.Waiting c)) e h = elsewhere (Some (moved.Waiting c)) e h (λ live. live)
      by_held (Some (moved.Retired c)) e h = elsewhere (Some (moved.Retired c)) e h (λ live. live)
      by_held (Some (moved.Live c)) e h =
          let role : role_of old ≡ Live = role_held variant meaning link old (Some (moved.Live c)) h in
          lives_on c (is_here c e h)
          (genuine_first here y (snapshots_under (key_of old) handed.snapshots) calls
          (under_genuine variant meaning link y (key_of old) handed.snapshots s.named)
          (subst (λ (r : Role). AllByRecursion (IsUntagged here (snapshots_under (key_of old) handed.snapshots))
          (first_offers (calls_at r calls))) role honest))
          (subst (λ (r : Role). AreListed all asked here (calls_at r calls)) role listed)
          (seen role)

      pub kept_living : PartLived
      kept_living = by_held (s.cells at) refl (s.order.holds at)
