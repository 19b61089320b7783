-- What holds at each moment of a world. With it: what a cell of a world holds; a module that goes
-- over three platforms, with a call on each.
use Rattle.std.specs.List.{AllByRecursion, Contains}
use Rattle.std.specs.Option.{option_map_or}
use Rattle.std.specs.Prelude.{◌==◌, if◌then◌else◌}
use Rattle.std.proofs.Common.{◌≡◌, ◌∙◌, ℕ, List, [], Option, None, Some, Result, Ok, Err, refl, sym, ap, arith, ◌⊎◌, ◌++◌, Bool, true}
use Rattle.std.proofs.Common.{false, ◌∷◌, subst, inl, inr, length}
use Rattle.std.proofs.lemmas.Bool.Decides.{nat_tests}
use Rattle.std.proofs.lemmas.List.Elements.{Contains-append_left}
use Rattle.mm_digest.specs.declared.variant.Variant.{Variant}
use Rattle.mm_digest.specs.declared.variant.Variant.TheVariants.{Basic}
use Rattle.mm_seal.specs.Cell.{IsNoCell, blank_cell, cell_spelling}
use Rattle.mm_seal.specs.Snapshot.{Content}
use Rattle.mm_seal.specs.declared.cell.CellFault.{CellFault}
use Rattle.mm_seal.specs.declared.cell.CellFault.TheVariants as fault
use Rattle.mm_platform.specs.Standing.{Standing}
use Rattle.mm_module.specs.Batch.{One}
use Rattle.mm_module.specs.Meaning.{Meaning, IsLawful}
use Rattle.mm_model.specs.Chains.{basic_instance}
use Rattle.mm_model.specs.History.{History, cell_digest_of, first_history}
use Rattle.mm_model.specs.Messages.{AreMessagesIn, place_messages}
use Rattle.mm_model.specs.Moves.{is_long}
use Rattle.mm_model.specs.Standing.{NamesPosition, RegisterStands, cell_of, StandsFor}
use Rattle.mm_model.specs.declared.answer.Answer.{Answer}
use Rattle.mm_model.specs.declared.refusal.Refusal.{Refusal}
use Rattle.mm_call.specs.CallFinding.{batch_result_of}
use Rattle.mm_basic.specs.AskPromise.{BasicAskPromise}
use Rattle.mm_move.specs.Cells.{IsMoved, moved_cell_of, moved_spelling, retired_spelling, waiting_spelling, part, MovePromise}
use Rattle.mm_move.specs.Orders.{barrier_of, is_place_at, right_ticket, acceptance_in, invitation_in, retirement_in, waiting_for}
use Rattle.mm_move.specs.Tickets.{TicketContent, summary_in}
use Rattle.mm_move.specs.declared.cell.MovedCell.{MovedCell}
use Rattle.mm_move.specs.declared.cell.MovedCell.TheVariants as moved
use Rattle.mm_move.specs.declared.link.Link.{Link}
use Rattle.mm_move.proofs.Above.{blank_read, bytes_are, moved_back, three}
use Rattle.mm_sides.specs.BothSides.{Blank, Live}
use Rattle.mm_life.specs.Deeds.{BatchCallLeads, BatchCallsAreDeeds, Calls, Extends, call_of}
use Rattle.mm_life.specs.Stages.{Does}
use Rattle.mm_worlds.specs.declared.journey.Journey.{Journey}
use Rattle.mm_worlds.specs.declared.journey.Leg.{Leg}
use Rattle.mm_worlds.specs.declared.journey.Pass.{Pass}
use Rattle.mm_worlds.specs.Journey.{BothEnds, Errand, GoesOn, GoesRound, ThreeSites, TravelsRound, Waystations, accepted_snapshot}
use Rattle.mm_worlds.specs.Journey.{call_part, journey_stages, pass_of, three_platforms, ticket_given}
use Rattle.mm_worlds.specs.OneWorld.{WorldIsOneOrEvidence}
use Rattle.mm_worlds.specs.Premises.{key_of, role_in, role_of, IsWorldAtStart, IsWorldLife, Lives, WorldPartLeads, instance_at}

-- What a cell of a world holds: nothing, or the module's cell of one of three forms.

abbrev pub reading_of : Option MovedCell → Result MovedCell CellFault
reading_of None = Err fault.Blank
reading_of (Some m) = Ok m

abbrev pub bytes_held : Option MovedCell → List ℕ
bytes_held None = blank_cell
bytes_held (Some m) = moved_spelling m

abbrev pub key_in : MovedCell → List ℕ
key_in (moved.Live c) = c.key
key_in (moved.Waiting c) = c.key
key_in (moved.Retired c) = c.key

-- the module lives there
abbrev pub IsLiveCell : Option MovedCell → Type 0
IsLiveCell (Some (moved.Live c)) = Unit {0}
IsLiveCell held = ⊥

-- it is awaited there under the nonce
abbrev pub IsAwaited : Option MovedCell → List ℕ → Type 0
IsAwaited (Some (moved.Waiting c)) nonce = c.nonce ≡ nonce
IsAwaited held nonce = ⊥

pub live_role : (held : Option MovedCell) → role_in (reading_of held) ≡ Live → IsLiveCell held
live_role (Some (moved.Live c)) e = tt
live_role None e = absurd (cc)
live_role (Some (moved.Waiting c)) e = absurd (cc)
live_role (Some (moved.Retired c)) e = absurd (cc)

-- of the variant, of the module, and with the barrier
abbrev pub IsOwnCell : Variant → Meaning → Link → MovedCell → Type 0
IsOwnCell variant meaning link (moved.Live c) =
    (c.variant ≡ variant) × (c.module ≡ meaning.id) × (c.barrier ≡ barrier_of variant link)
IsOwnCell variant meaning link (moved.Waiting c) =
    (c.variant ≡ variant) × (c.module ≡ meaning.id) × (c.barrier ≡ barrier_of variant link)
IsOwnCell variant meaning link (moved.Retired c) = (c.variant ≡ variant) × (c.module ≡ meaning.id)

pub record HoldsOwn (variant : Variant) (meaning : Meaning) (link : Link) (standing : Standing) (m : MovedCell) : Type 0 where
  pub formed : IsMoved m
  pub own : IsOwnCell variant meaning link m
  pub told : standing.cell ≡ Some (moved_spelling m)

abbrev pub HoldsCell : Variant → Meaning → Link → Standing → Option MovedCell → Type 0
HoldsCell variant meaning link standing None = standing.cell ≡ Some blank_cell
HoldsCell variant meaning link standing (Some m) = HoldsOwn variant meaning link standing m

module _ (variant : Variant) (meaning : Meaning) (link : Link) where
  -- where the bytes are the same, so is what is held
  pub holds_still : (old new : Standing) (held : Option MovedCell) → new.cell ≡ old.cell → HoldsCell variant meaning link old held
      → HoldsCell variant meaning link new held
  holds_still old new None same h = same ∙ h
  holds_still old new (Some m) same h = record { formed = h.formed; own = h.own; told = same ∙ h.told }

  pub held_told : (standing : Standing) (held : Option MovedCell) → HoldsCell variant meaning link standing held
      → standing.cell ≡ Some (bytes_held held)
  held_told standing None h = h
  held_told standing (Some m) h = h.told

  pub held_read : (standing : Standing) (held : Option MovedCell) → HoldsCell variant meaning link standing held
      → moved_cell_of (bytes_held held) ≡ reading_of held
  held_read standing None h = sym (blank_read blank_cell (bytes_are blank_cell blank_cell refl))
  held_read standing (Some m) h = moved_back m h.formed

  pub role_held : (standing : Standing) (held : Option MovedCell) → HoldsCell variant meaning link standing held
      → role_of standing ≡ role_in (reading_of held)
  role_held standing held h =
      ap (λ (cell : Option (List ℕ)). option_map_or (λ bytes. role_in (moved_cell_of bytes)) cell Blank) (held_told standing held h)
      ∙ ap role_in (held_read standing held h)

key_back : (m : MovedCell) → IsMoved m → part 40 (moved_spelling m) ≡ key_in m
unfolding cell_spelling waiting_spelling retired_spelling
key_back (moved.Live c) is = (three c.summary.bytes c.key c.barrier is.summary is.key is.barrier).second
key_back (moved.Waiting c) is = (three c.nonce c.key c.barrier is.nonce is.key is.barrier).second
key_back (moved.Retired c) is = (three c.summary.bytes c.key c.nonce is.summary is.key is.nonce).second

module _ (variant : Variant) (meaning : Meaning) (link : Link) where
  pub key_held : (standing : Standing) (m : MovedCell) → HoldsOwn variant meaning link standing m → key_of standing ≡ key_in m
  key_held standing m h = ap (λ (cell : Option (List ℕ)). option_map_or (part 40) cell []) h.told ∙ key_back m h.formed

  -- where none lives, the bytes are no live cell's
  pub no_cell : (standing : Standing) (held : Option MovedCell) → HoldsCell variant meaning link standing held → (IsLiveCell held → ⊥)
      → IsNoCell (bytes_held held)
  no_cell standing held h away cell is same =
      by_form held away (sym (held_read variant meaning link standing held h) ∙ ap moved_cell_of same ∙ moved_back (moved.Live cell) is)
    where
      by_form : (held : Option MovedCell) → (IsLiveCell held → ⊥) → reading_of held ≡ Ok (moved.Live cell) → ⊥
      by_form None away e = absurd (cc)
      by_form (Some (moved.Live c)) away e = away tt
      by_form (Some (moved.Waiting c)) away e = absurd (cc)
      by_form (Some (moved.Retired c)) away e = absurd (cc)

-- What holds at each moment of a world: what each cell holds, where the module is, and who is awaited by which nonce.

-- A thing that each platform has, with that of one platform changed.

abbrev pub changed_at : {A : Type 0} → (ℕ → A) → ℕ → A → ℕ → A
changed_at things at x other = if other == at then x else things other

pub same_number : (a b : ℕ) → (a == b) ≡ true → a ≡ b
same_number a b e = grind (arith, nat_tests)

pub other_number : (a b : ℕ) → (a == b) ≡ false → a ≡ b → ⊥
other_number a b e same = grind (arith, nat_tests)

own_number : (a : ℕ) → (a == a) ≡ true
own_number a = grind (arith, nat_tests)

pub by_test : {A : Type 0} (P : A → Type 0) (x y : A) (b : Bool) → (b ≡ true → P x) → (b ≡ false → P y) → P (if b then x else y)
by_test P x y true h k = h refl
by_test P x y false h k = k refl

-- what holds of the changed one, and of each other, holds of each
pub each_changed : {A : Type 0} (P : ℕ → A → Type 0) (things : ℕ → A) (at : ℕ) (x : A) → P at x
    → ((other : ℕ) → (other ≡ at → ⊥) → P other (things other)) → (other : ℕ) → P other (changed_at things at x other)
each_changed {A} P things at x here others other =
    by_test (P other) x (things other) (other == at)
    (λ e. subst (λ (n : ℕ). P n x) (sym (same_number other at e)) here) (λ e. others other (other_number other at e))

pub here_changed : {A : Type 0} (things : ℕ → A) (at : ℕ) (x : A) → changed_at things at x at ≡ x
here_changed {A} things at x = ap (λ (b : Bool). if b then x else things at) (own_number at)

-- what holds of it comes from the changed one, or from another
pub from_changed : {A : Type 0} (P : A → Type 0) (things : ℕ → A) (at : ℕ) (x : A) (other : ℕ) → P (changed_at things at x other)
    → ((other ≡ at) × P x) ⊎ ((other ≡ at → ⊥) × P (things other))
from_changed {A} P things at x other h = by_answer (other == at) refl h
  where
    by_answer : (b : Bool) → (other == at) ≡ b → P (if b then x else things other)
        → ((other ≡ at) × P x) ⊎ ((other ≡ at → ⊥) × P (things other))
    by_answer true e h = inl (same_number other at e, h)
    by_answer false e h = inr (other_number other at e, h)

pub there_changed : {A : Type 0} (things : ℕ → A) (at : ℕ) (x : A) (other : ℕ) → (other ≡ at → ⊥)
    → changed_at things at x other ≡ things other
there_changed {A} things at x other differs =
    by_test (λ (it : A). it ≡ things other) x (things other) (other == at) (λ e. absurd (differs (same_number other at e))) (λ e. refl)

-- both what stands and what is held
pub both_changed : {A B : Type 0} (P : A → B → Type 0) (things : ℕ → A) (others : ℕ → B) (at : ℕ) (x : A) (y : B) → P x y
    → ((other : ℕ) → P (things other) (others other)) → (other : ℕ) → P (changed_at things at x other) (changed_at others at y other)
both_changed {A} {B} P things others at x y here rest other = by_answer (other == at)
  where
    by_answer : (b : Bool) → P (if b then x else things other) (if b then y else others other)
    by_answer true = here
    by_answer false = rest other

-- What is held on all platforms.
abbrev pub Cells : Type 0
Cells = ℕ → Option MovedCell

-- It was invited under the nonce, and nobody waits for it any more: so a ticket was accepted for it.
pub record IsSpent (cells : Cells) (nonces : List (List ℕ)) (nonce : List ℕ) : Type 0 where
  pub known : Contains nonces nonce
  pub awaited : (at : ℕ) → IsAwaited (cells at) nonce → ⊥

-- more nonces, where none that was known is awaited anew
pub spent_on : (cells after : Cells) (nonces more : List (List ℕ)) (nonce : List ℕ)
    → ((at : ℕ) → Contains nonces nonce → IsAwaited (after at) nonce → IsAwaited (cells at) nonce) → IsSpent cells nonces nonce
    → IsSpent after (nonces ++ more) nonce
spent_on cells after nonces more nonce back s = record {
  known = Contains-append_left nonces more nonce s.known;
  awaited = λ at awaits. s.awaited at (back at s.known awaits);
}

abbrev pub HasLeft : (List ℕ → List ℕ → Type 0) → Option MovedCell → Type 0
HasLeft Left (Some (moved.Retired c)) = Left c.nonce c.summary.bytes
HasLeft Left held = Unit {0}

pub left_on : (P Q : List ℕ → List ℕ → Type 0) → ((nonce summary : List ℕ) → P nonce summary → Q nonce summary)
    → (held : Option MovedCell) → HasLeft P held → HasLeft Q held
left_on P Q on (Some (moved.Retired c)) h = on c.nonce c.summary.bytes h
left_on P Q on (Some (moved.Live c)) h = tt
left_on P Q on (Some (moved.Waiting c)) h = tt
left_on P Q on None h = tt

module _ (variant : Variant) (meaning : Meaning) (link : Link) where
  -- the summary or anchor, in which there is no key
  abbrev pub anchor_at : History → List ℕ
  anchor_at y = cell_digest_of (instance_at variant meaning link link.key) variant y

  -- How a module left, for a nonce and at a summary or anchor: it has arrived since; or it is on its way by this very nonce.
  abbrev pub LeftFor : Cells → List (List ℕ) → Option (List ℕ) → History → List ℕ → List ℕ → Type 0
  LeftFor cells nonces None y nonce anchor = IsSpent cells nonces nonce
  LeftFor cells nonces (Some going) y nonce anchor =
      IsSpent cells nonces nonce ⊎ ((nonce ≡ going) × (anchor ≡ anchor_at y))

  -- A ticket that was handed out: if it is right, it says what an offer said that names a position of the history and stood at its
  -- summary or anchor; and how the module left.
  pub record IsGoodTicket (all : List (List ℕ)) (Left : List ℕ → List ℕ → Type 0) (y : History) (content : TicketContent) : Type 0 where
    pub offered : Content
    pub names : NamesPosition (instance_at variant meaning link link.key) y offered
    pub listed : AreMessagesIn (place_messages offered.place) all
    pub position : content.content.position ≡ offered.position
    pub state : content.content.state ≡ offered.state
    pub at : is_place_at (summary_in content.content.place) offered.place ≡ true
    pub left : Left content.nonce (summary_in content.content.place).bytes

  abbrev pub IsGoodPaper : List (List ℕ) → (List ℕ → List ℕ → Type 0) → History → List ℕ → Type 0
  IsGoodPaper all Left y ticket =
      (content : TicketContent) → right_ticket meaning variant link.key ticket ≡ Ok content → IsGoodTicket all Left y content

  -- the module lives on one platform, at the history, of which in Opt the register has the value
  pub record LivesAt (world : ℕ → Standing) (cells : Cells) (y : History) : Type 0 where
    pub at : ℕ
    pub key : List ℕ
    pub here : cells at ≡ Some (moved.Live (cell_of (instance_at variant meaning link key) y))
    pub register : RegisterStands variant (instance_at variant meaning link key) (world at) y
    pub only : (other : ℕ) → IsLiveCell (cells other) → other ≡ at

  -- on its way it left no segment open
  pub record Travels (cells : Cells) (y : History) : Type 0 where
    pub shut : y.is_open ≡ false
    pub none : (other : ℕ) → IsLiveCell (cells other) → ⊥

  abbrev pub IsPlaced : (ℕ → Standing) → Cells → Option (List ℕ) → History → Type 0
  IsPlaced world cells None y = LivesAt world cells y
  IsPlaced world cells (Some going) y = Travels cells y

  -- what holds between two stages, but for what was handed out
  pub record IsInOrder (world : ℕ → Standing) (cells : Cells) (going : Option (List ℕ)) (y : History)
      (nonces : List (List ℕ)) : Type 0 where
    pub holds : (at : ℕ) → HoldsCell variant meaning link (world at) (cells at)
    pub placed : IsPlaced world cells going y
    pub left : (at : ℕ) → HasLeft (LeftFor cells nonces going y) (cells at)
    pub known : (at : ℕ) (nonce : List ℕ) → IsAwaited (cells at) nonce → Contains nonces nonce
    pub apart : (at other : ℕ) (nonce : List ℕ) → IsAwaited (cells at) nonce → IsAwaited (cells other) nonce → at ≡ other

  pub papers_on : (all : List (List ℕ)) (P Q : List ℕ → List ℕ → Type 0) (y z : History)
      → ((nonce anchor : List ℕ) → P nonce anchor → Q nonce anchor)
      → ((content : Content) → NamesPosition (instance_at variant meaning link link.key) y content
      → NamesPosition (instance_at variant meaning link link.key) z content)
      → (tickets : List (List ℕ)) → AllByRecursion (IsGoodPaper all P y) tickets → AllByRecursion (IsGoodPaper all Q z) tickets
  papers_on all P Q y z on names [] g = tt
  papers_on all P Q y z on names (ticket ∷ tickets) g = (
    λ content right. let good = g.0 content right in record {
      offered = good.offered;
      names = names good.offered good.names;
      listed = good.listed;
      position = good.position;
      state = good.state;
      at = good.at;
      left = on content.nonce (summary_in content.content.place).bytes good.left;
    },
    papers_on all P Q y z on names tickets g.1,
  )

  -- more nonces, where none that was known is awaited anew
  pub left_for_on : (cells after : Cells) (nonces more : List (List ℕ)) (going : Option (List ℕ)) (y : History)
      → ((at : ℕ) (nonce : List ℕ) → Contains nonces nonce → IsAwaited (after at) nonce → IsAwaited (cells at) nonce)
      → (nonce anchor : List ℕ)
      → LeftFor cells nonces going y nonce anchor → LeftFor after (nonces ++ more) going y nonce anchor
  left_for_on cells after nonces more None y back nonce anchor h =
      spent_on cells after nonces more nonce (λ at. back at nonce) h
  left_for_on cells after nonces more (Some going) y back nonce anchor (inl h) =
      inl (spent_on cells after nonces more nonce (λ at. back at nonce) h)
  left_for_on cells after nonces more (Some going) y back nonce anchor (inr h) = inr h

-- A module that goes over three platforms, with a call on each.

-- a call is the part that it is said to be, too long or not
module _ (deeds : BatchCallsAreDeeds) (meaning : Meaning) (link : Link) where
  pub asks_there : (old new : Standing) (offer request : List ℕ) (gives : Result Answer Refusal)
      → BasicAskPromise meaning old new offer (One request) (batch_result_of gives)
      → WorldPartLeads Basic meaning link old (call_part offer request gives) new
  asks_there old new offer request gives promise = by_length (is_long (One request)) refl
    where
      leads : BatchCallLeads Basic meaning old new offer (One request) (batch_result_of gives)
      leads = deeds Basic meaning old new offer (One request) (batch_result_of gives) promise

      by_length : (long : Bool) → is_long (One request) ≡ long → WorldPartLeads Basic meaning link old
          (if long then Lives (Does (Extends [])) else Lives (Does (Calls (call_of offer request gives)))) new
      by_length true e = leads.long e
      by_length false e = leads.short e

  -- a leg, by what its calls promise
  module _ (nonce key offer request : List ℕ) (long_nonce : length nonce ≡ 32) (long_key : length key ≡ 32) where
    pub goes_on : (old new : BothEnds) (leg : Leg) (waiting entered : Standing) (id : ℕ) → id ≡ meaning.id
        → (ticket snapshot : List ℕ) → ticket ≡ ticket_given leg.left → snapshot ≡ accepted_snapshot leg.arrived
        → MovePromise (λ bytes. invitation_in (waiting_for link Basic id nonce key) (moved_cell_of bytes)) old.ahead waiting leg.invited
        → MovePromise (λ bytes. retirement_in meaning Basic link nonce offer (moved_cell_of bytes)) old.behind new.behind leg.left
        → MovePromise (λ bytes. acceptance_in meaning Basic link ticket (moved_cell_of bytes)) waiting entered leg.arrived
        → BasicAskPromise meaning entered new.ahead snapshot (One request) (batch_result_of leg.asked)
        → GoesOn meaning link (pass_of nonce key) offer request old new leg
    goes_on old new leg waiting entered id own ticket snapshot paper shown invites retires accepts asks = record {
      waiting = waiting;
      entered = entered;
      invites = (
        long_nonce,
        long_key,
        subst (λ (n : ℕ). MovePromise (λ (bytes : List ℕ). invitation_in (waiting_for link Basic n nonce key) (moved_cell_of bytes))
            old.ahead waiting leg.invited) own invites,
      );
      retires = (long_nonce, retires);
      accepts = subst (λ (bytes : List ℕ). MovePromise
          (λ (cell : List ℕ). acceptance_in meaning Basic link bytes (moved_cell_of cell)) waiting entered leg.arrived) paper accepts;
      asks = subst (λ (bytes : List ℕ). WorldPartLeads Basic meaning link entered (call_part bytes request leg.asked) new.ahead) shown
          (asks_there entered new.ahead snapshot request leg.asked asks);
    }

-- what is offered is what came back
pub leg_by : (meaning : Meaning) (link : Link) (pass : Pass) (old new : BothEnds) (leg : Leg) (offer answered request : List ℕ)
    → offer ≡ answered → GoesOn meaning link pass offer request old new leg → GoesOn meaning link pass answered request old new leg
leg_by meaning link pass old new leg offer answered request e g =
    subst (λ (bytes : List ℕ). GoesOn meaning link pass bytes request old new leg) e g

-- by what the platforms tell at the start, it is a world's
module _ (meaning : Meaning) (link : Link) (sites : ThreeSites) (key : List ℕ)
    (first : StandsFor (basic_instance meaning key) sites.first first_history) where
  own_key : key_of sites.first ≡ key
  own_key =
      key_held Basic meaning link sites.first (moved.Live (cell_of (basic_instance meaning key) first_history))
      (record { formed = first.spells; own = (refl, refl, refl); told = first.cell })

  pub starts_so : sites.second.cell ≡ Some blank_cell → sites.third.cell ≡ Some blank_cell
      → IsWorldAtStart Basic meaning link (three_platforms sites)
  starts_so second third = record {
    first = subst (λ (k : List ℕ). StandsFor (basic_instance meaning k) sites.first first_history) (sym own_key) first;
    others = λ at differs.
        by_test (λ (it : Standing). it.cell ≡ Some blank_cell) sites.first _ (at == 0)
        (λ e. absurd (differs (same_number at 0 e)))
        (λ _. by_test (λ (it : Standing). it.cell ≡ Some blank_cell) sites.second _ (at == 1) (λ _. second)
        (λ _. by_test (λ (it : Standing). it.cell ≡ Some blank_cell) sites.third (record sites.third { cell = Some blank_cell })
        (at == 2) (λ _. third) (λ _. refl)));
  }

module _ (law : WorldIsOneOrEvidence) (meaning : Meaning) (lawful : IsLawful meaning) (link : Link) (e : Errand) (offer : List ℕ)
    (old new : ThreeSites) (result : Journey) where
  -- its stages, one after another
  leads_round : (w : Waystations) (g : GoesRound meaning link e offer old new result w)
      → IsWorldLife Basic meaning link (three_platforms old) (journey_stages g)
  leads_round w g = (
    g.asks,
    (
      g.out.invites,
      (
        g.out.retires,
        (
          g.out.accepts,
          (
            g.out.asks,
            (
              g.across.invites,
              (
                g.across.retires,
                (
                  g.across.accepts,
                  (g.across.asks, (g.home.invites, (g.home.retires, (g.home.accepts, (g.home.asks, tt))))),
                ),
              ),
            ),
          ),
        ),
      ),
    ),
  )

  pub travels : (w : Waystations) → GoesRound meaning link e offer old new result w
      → TravelsRound meaning link e offer old new result
  travels w g =
      let leads : IsWorldLife Basic meaning link (three_platforms old) (journey_stages g) = leads_round w g in
      record {
        stations = w;
        goes = g;
        leads = leads;
        one = λ key first second third.
            law meaning lawful link (three_platforms old) (journey_stages g) leads
            (starts_so meaning link old key first second third);
      }
