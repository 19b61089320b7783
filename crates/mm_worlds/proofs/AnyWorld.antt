-- A world in either variant: how it starts, which offers are genuine, what is asked of a stage and what it leads to, all stages one
-- after another, and where the module is. So it is one world.
use Rattle.std.specs.List.{AllByRecursion}
use Rattle.std.proofs.Common.{◌≡◌, ◌∙◌, ℕ, List, [], ◌∷◌, Option, None, Some, Result, refl, sym, ap, subst, inl, inr}
use Rattle.mm_digest.specs.declared.variant.Variant.{Variant}
use Rattle.mm_seal.specs.Cell.{blank_cell}
use Rattle.mm_seal.specs.Snapshot.{Content}
use Rattle.mm_platform.specs.Standing.{Standing}
use Rattle.mm_module.specs.Batch.{Batch}
use Rattle.mm_module.specs.Meaning.{Meaning}
use Rattle.mm_model.specs.History.{History, requests_of}
use Rattle.mm_model.specs.Chains.{Instance}
use Rattle.mm_model.specs.Messages.{AreMessagesIn, place_messages}
use Rattle.mm_model.specs.Standing.{IsGenuine, IsRight, RegisterStands, StandsFor, cell_of}
use Rattle.mm_call.proofs.Above.{each_at}
use Rattle.mm_life.specs.Deeds.{LifeCall}
use Rattle.mm_life.specs.Stages.{LifePart, part_calls}
use Rattle.mm_life.specs.Premises.{IsUntagged}
use Rattle.mm_life.proofs.Above.{AreListed}
use Rattle.mm_move.specs.declared.cell.MovedCell.{MovedCell}
use Rattle.mm_move.specs.declared.cell.MovedCell.TheVariants as moved
use Rattle.mm_move.specs.declared.link.Link.{Link}
use Rattle.mm_move.specs.declared.refusal.MoveRefusal.{MoveRefusal}
use Rattle.mm_sides.specs.BothSides.{Live, Role}
use Rattle.mm_worlds.specs.Premises.{Handed, snapshots_under, key_of, role_of, nonces_in, offers_to, snapshots_in, tickets_in, World}
use Rattle.mm_worlds.specs.Premises.{WorldPart, WorldPartLeads, WorldStage, instance_at, instance_of, Accepts, Invites, Lives, Retires}
use Rattle.mm_worlds.specs.Premises.{AreHonest, IsHonest, IsWorldLife, calls_in, handed_after, handed_at_end, world_after, world_at_end}
use Rattle.mm_worlds.specs.OneWorld.{IsOneWorld, IsSomewhere, WorldFollows, WorldPartSteps, lives, travels}
use Rattle.mm_worlds.proofs.Between.{Cells, HasLeft, IsInOrder, LeftFor, changed_at, each_changed, from_changed, here_changed}
use Rattle.mm_worlds.proofs.Between.{HoldsCell, HoldsOwn, IsAwaited, IsLiveCell, key_held, live_role, role_held}
use Rattle.mm_worlds.proofs.Orders.{StandsInOrder}
use Rattle.mm_worlds.proofs.Living.{IsQuietHere, IsSeenHere, Stepped, WorldLaws, kept_living, under_genuine}
use Rattle.mm_worlds.proofs.Moving.{kept_inviting}
use Rattle.mm_worlds.proofs.Retiring.{IsFineOffer, IsOrWas, kept_retiring}
use Rattle.mm_worlds.proofs.Accepting.{ShowsHistory, kept_accepting}

-- The start: the module is on platform 0, and all else is blank.
module _ (variant : Variant) (meaning : Meaning) (link : Link) (world : World) (key : List ℕ) (y : History) where
  abbrev first : MovedCell
  first = moved.Live (cell_of (instance_at variant meaning link key) y)

  abbrev none : Cells
  none at = None

  abbrev pub first_cells : Cells
  first_cells = changed_at none 0 (Some first)

  pub first_order : HoldsOwn variant meaning link (world 0) first
      → RegisterStands variant (instance_at variant meaning link key) (world 0) y
      → ((at : ℕ) → (at ≡ 0 → ⊥) → (world at).cell ≡ Some blank_cell) → IsInOrder variant meaning link world first_cells None y []
  first_order own register others = record {
    holds = each_changed (λ (other : ℕ) (held : Option MovedCell). HoldsCell variant meaning link (world other) held) none 0 (Some first)
        own others;
    placed = record {
      at = 0;
      key = key;
      here = here_changed none 0 (Some first);
      register = register;
      only = λ other h. elim (from_changed IsLiveCell none 0 (Some first) other h) [
        | inl here ↦ here.0
        | inr there ↦ absurd there.1
      ];
    };
    left = each_changed (λ (other : ℕ) (held : Option MovedCell). HasLeft (LeftFor variant meaning link first_cells [] None y) held) none 0
        (Some first) tt (λ other _. tt);
    known = λ other nonce h. elim (from_changed (λ (held : Option MovedCell). IsAwaited held nonce) none 0 (Some first) other h) [
      | inl here ↦ absurd here.1
      | inr there ↦ absurd there.1
    ];
    apart = λ one other nonce h k. elim (from_changed (λ (held : Option MovedCell). IsAwaited held nonce) none 0 (Some first) one h) [
      | inl here ↦ absurd here.1
      | inr there ↦ absurd there.1
    ];
  }

module _ {variant : Variant} {meaning : Meaning} {link : Link} {all others : List (List ℕ)} {asked : List Batch}
    {IsSeen : Standing → LifePart → Standing → Type 0} {IsStill : Standing → List LifeCall → Type 0}
    (laws : WorldLaws variant meaning link all others asked IsSeen IsStill) where
  abbrev Stands : World → History → Handed → Type 0
  Stands world y handed = StandsInOrder variant meaning link all others asked world y handed

  -- An offer that is minded, and that nobody else tagged, is genuine.
  module _ (world : World) (y : History) (handed : Handed) (s : Stands world y handed) (at : ℕ) where
    abbrev here : Instance
    here = instance_at variant meaning link (key_of (world at))

    offers_minded : (offer : List ℕ) (held : Option MovedCell) → HoldsCell variant meaning link (world at) held → IsOrWas held
        → offers_to (role_of (world at)) offer ≡ offer ∷ []
    offers_minded offer (Some (moved.Live c)) h is =
        ap (λ (r : Role). offers_to r offer) (role_held variant meaning link (world at) (Some (moved.Live c)) h)
    offers_minded offer (Some (moved.Retired c)) h is =
        ap (λ (r : Role). offers_to r offer) (role_held variant meaning link (world at) (Some (moved.Retired c)) h)
    offers_minded offer (Some (moved.Waiting c)) h is = absurd is
    offers_minded offer None h is = absurd is

    -- what is asked of each offer that is minded is so of this one
    pub offer_minded : (P : List (List ℕ) → Type 0) (offer : List ℕ) → IsOrWas (s.cells at) → P (offers_to (role_of (world at)) offer)
        → P (offer ∷ [])
    offer_minded P offer is p = subst P (offers_minded offer (s.cells at) (s.order.holds at) is) p

    pub offer_genuine : (offer : List ℕ) → IsOrWas (s.cells at)
        → AllByRecursion (IsUntagged here (snapshots_under (key_of (world at)) handed.snapshots)) (offers_to (role_of (world at)) offer)
        → IsGenuine here y offer
    offer_genuine offer is untagged = λ content right.
        each_at (IsGenuine here y) (snapshots_under (key_of (world at)) handed.snapshots) offer
        (under_genuine variant meaning link y (key_of (world at)) handed.snapshots s.named)
        ((offer_minded (AllByRecursion (IsUntagged here (snapshots_under (key_of (world at)) handed.snapshots))) offer is untagged).0
        content right) content right

  -- What is asked of a stage, but for tags and nonces: the calls that are made where the module is are listed, and so is the closing
  -- of a retirement's offer; what the register shows there is seen, or the part is still; and a history goes on where a ticket is
  -- accepted.
  abbrev pub IsFineStage : (world : World) (y : History) (handed : Handed) → Stands world y handed → (at : ℕ) (part : WorldPart)
      (new : Standing) → WorldPartLeads variant meaning link (world at) part new → Type 0
  IsFineStage world y handed s at (Lives part) new f =
      AreListed all asked (instance_of variant meaning link (world at)) (calls_in variant meaning link (world at) (Lives part) new f)
      × IsSeenHere laws world y handed s at new part (part_calls variant meaning (world at) part new f)
  IsFineStage world y handed s at (Retires nonce offer result) new f =
      (IsOrWas (s.cells at) → (content : Content) → IsRight (instance_of variant meaning link (world at)) offer content
      → AreMessagesIn (place_messages content.place) all) × IsQuietHere laws world y handed s at new
  IsFineStage world y handed s at (Accepts ticket result) new f =
      ShowsHistory variant meaning link all others asked y new × IsQuietHere laws world y handed s at new
  IsFineStage world y handed s at _ new f = IsQuietHere laws world y handed s at new

  -- one stage
  abbrev pub StageGoes : (world : World) (y : History) (handed : Handed) → Stands world y handed → (at : ℕ) (part : WorldPart)
      (new : Standing) → WorldPartLeads variant meaning link (world at) part new → Type 0
  StageGoes world y handed s at part new f =
      Stepped laws world y handed s at new (snapshots_in variant meaning link (world at) part new f) (tickets_in part)
      (nonces_in (world at) part new) (WorldPartSteps variant meaning link (world at) part new f (requests_of y.batches))

  module _ (world : World) (y : History) (handed : Handed) (s : Stands world y handed) (at : ℕ) where
    -- what is asked of a retirement's offer
    pub fine_offer : (nonce offer : List ℕ) (result : Result (List ℕ) MoveRefusal) (new : Standing)
        (f : WorldPartLeads variant meaning link (world at) (Retires nonce offer result) new)
        → IsHonest variant meaning link handed (world at) (Retires nonce offer result) new f
        → IsFineStage world y handed s at (Retires nonce offer result) new f → IsOrWas (s.cells at)
        → IsFineOffer variant meaning link nonce offer all y (key_of (world at))
    fine_offer nonce offer result new f honest fine is =
        record { genuine = offer_genuine world y handed s at offer is honest.offers; listed = fine.0 is }

    pub stepped : (part : WorldPart) (new : Standing) (f : WorldPartLeads variant meaning link (world at) part new)
        → IsHonest variant meaning link handed (world at) part new f → IsFineStage world y handed s at part new f
        → StageGoes world y handed s at part new f
    stepped (Lives part) new f honest fine = kept_living laws world y handed s at new part f honest.offers fine.0 fine.1
    stepped (Invites nonce key result) new f honest fine =
        kept_inviting laws world y handed s at nonce key new result f.0 f.1 f.2 honest.nonces fine
    stepped (Retires nonce offer result) new f honest fine =
        kept_retiring laws world y handed s at nonce offer new f.0 result (fine_offer nonce offer result new f honest fine) fine.1 f.1
    stepped (Accepts ticket result) new f honest fine =
        kept_accepting laws world y handed s at ticket new honest.tickets.0 result fine.1 fine.0 f

  -- where the module is
  module _ (world : World) (y : History) (handed : Handed) (s : Stands world y handed) where
    pub is_live : (other : ℕ) → role_of (world other) ≡ Live → IsLiveCell (s.cells other)
    is_live other role =
        live_role (s.cells other) (sym (role_held variant meaning link (world other) (s.cells other) (s.order.holds other)) ∙ role)

    where_by : (going : Option (List ℕ)) → IsInOrder variant meaning link world s.cells going y handed.nonces
        → IsSomewhere variant meaning link world y
    where_by (Some going) o = travels (λ other role. o.placed.none other (is_live other role))
    where_by None o =
        let there : MovedCell = moved.Live (cell_of (instance_at variant meaning link o.placed.key) y) in
        let held : HoldsOwn variant meaning link (world o.placed.at) there =
        subst (λ (x : Option MovedCell). HoldsCell variant meaning link (world o.placed.at) x) o.placed.here (o.holds o.placed.at) in
        let key : key_of (world o.placed.at) ≡ o.placed.key = key_held variant meaning link (world o.placed.at) there held in
        lives o.placed.at (subst (λ (k : List ℕ). StandsFor (instance_at variant meaning link k) (world o.placed.at) y) (sym key)
        (record { spells = held.formed; cell = held.told; register = o.placed.register }))
        (λ other differs role. differs (o.placed.only other (is_live other role)))

    pub somewhere : IsSomewhere variant meaning link world y
    somewhere = where_by s.going s.order

-- What a variant supplies: a world's laws, and what is asked of each stage, by what is asked of its part.
pub record StageLaws (variant : Variant) (meaning : Meaning) (link : Link) (all others : List (List ℕ)) (asked : List Batch)
    (IsSeen : Standing → LifePart → Standing → Type 0) (IsStill : Standing → List LifeCall → Type 0)
    (IsAsked : (old : Standing) (part : WorldPart) (new : Standing) → WorldPartLeads variant meaning link old part new → Type 0)
    : Type 0 where
  pub laws : WorldLaws variant meaning link all others asked IsSeen IsStill
  pub fine : (world : World) (y : History) (handed : Handed) (s : StandsInOrder variant meaning link all others asked world y handed)
      (at : ℕ) (part : WorldPart) (new : Standing) (f : WorldPartLeads variant meaning link (world at) part new)
      → IsAsked (world at) part new f → IsFineStage laws world y handed s at part new f

-- what is asked of the part of each stage
abbrev pub AreAsked : (variant : Variant) (meaning : Meaning) (link : Link)
    → ((old : Standing) (part : WorldPart) (new : Standing) → WorldPartLeads variant meaning link old part new → Type 0)
    → (world : World) (stages : List WorldStage) → IsWorldLife variant meaning link world stages → Type 0
AreAsked variant meaning link IsAsked world [] f = Unit {0}
AreAsked variant meaning link IsAsked world (stage ∷ stages) f =
    IsAsked (world stage.at) stage.part stage.after f.0 × AreAsked variant meaning link IsAsked (world_after world stage) stages f.1

module _ {variant : Variant} {meaning : Meaning} {link : Link} {all others : List (List ℕ)} {asked : List Batch}
    {IsSeen : Standing → LifePart → Standing → Type 0} {IsStill : Standing → List LifeCall → Type 0}
    {IsAsked : (old : Standing) (part : WorldPart) (new : Standing) → WorldPartLeads variant meaning link old part new → Type 0}
    (each : StageLaws variant meaning link all others asked IsSeen IsStill IsAsked) where
  -- all stages, one after another
  record GoesTo (world : World) (y : History) (handed : Handed) (stages : List WorldStage)
      (f : IsWorldLife variant meaning link world stages) : Type 0 where
    after : History
    stands : StandsInOrder variant meaning link all others asked (world_at_end world stages) after
        (handed_at_end variant meaning link handed world stages f)
    follows : WorldFollows variant meaning link world stages f (requests_of y.batches) (requests_of after.batches)

  goes : (stages : List WorldStage) (world : World) (y : History) (handed : Handed) (f : IsWorldLife variant meaning link world stages)
      → StandsInOrder variant meaning link all others asked world y handed → AreHonest variant meaning link handed world stages f
      → AreAsked variant meaning link IsAsked world stages f → GoesTo world y handed stages f
  goes [] world y handed f s honest asks = record { after = y; stands = s; follows = refl }
  goes (stage ∷ stages) world y handed f s honest asks =
      let p = stepped each.laws world y handed s stage.at stage.part stage.after f.0 honest.0
      (each.fine world y handed s stage.at stage.part stage.after f.0 asks.0) in
      let r = goes stages (world_after world stage) p.after
      (handed_after variant meaning link handed (world stage.at) stage.part stage.after f.0) f.1 p.stands honest.1 asks.1 in
      record { after = r.after; stands = r.stands; follows = (requests_of p.after.batches, p.steps, r.follows) }

  pub one_world : (stages : List WorldStage) (world : World) (y : History) (handed : Handed)
      (f : IsWorldLife variant meaning link world stages) → StandsInOrder variant meaning link all others asked world y handed
      → AreHonest variant meaning link handed world stages f → AreAsked variant meaning link IsAsked world stages f
      → requests_of y.batches ≡ [] → IsOneWorld variant meaning link handed world stages f
  one_world stages world y handed f s honest asks none =
      let g = goes stages world y handed f s honest asks in
      record {
        requests = requests_of g.after.batches;
        follows = subst (λ (requests : List (List ℕ)). WorldFollows variant meaning link world stages f requests
            (requests_of g.after.batches)) none g.follows;
        history = g.after;
        holds = refl;
        somewhere = somewhere each.laws (world_at_end world stages) g.after (handed_at_end variant meaning link handed world stages f)
            g.stands;
        named = g.stands.named;
      }
