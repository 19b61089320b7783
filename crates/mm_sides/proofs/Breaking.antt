-- A run of both sides meets the premises or gives evidence, and never both.
use Rattle.mm_sides.proofs.Below.{ℕ, ◌≡◌, ◌&&◌, ◌++◌, ◌∷◌, Bool, false, List, [], Option, None, Some, Result, Ok, Err, inl, inr, refl, sym}
use Rattle.mm_sides.proofs.Below.{ap, subst, Contains, bytes_eq, bytes_eq-Decides, nat_eq, Content, History, Instance, Refusal}
use Rattle.mm_sides.proofs.Below.{TicketContent, Event, offered_bytes, Role, Live, Retired, Waiting, Blank, Effect, Invites, Leaves, Enters}
use Rattle.mm_sides.proofs.Below.{MoveNotes, no_notes, First, SideName, key_of, Pair, instance_on, BothSides, list_mover}
use Rattle.mm_sides.proofs.Below.{first_both_by_lists, history_now, Invite, Retire, Accept, ticket_in, BothAct, Plain, Moves, BothEvent}
use Rattle.mm_sides.proofs.Below.{both_outcome, both_outcome_of_events, notes_with_effect_if, IsGenuineTo, IsGenuineHere, IsGenuineIn}
use Rattle.mm_sides.proofs.Below.{AreGenuineFrom, IsNew, IsOurs, IsOursOffered, IsOursIn, AreFreshFrom, both_messages, both_foreign_values}
use Rattle.mm_sides.proofs.Below.{both_batches}
use Rattle.std.proofs.Common.{◌⊎◌}
use Rattle.std.specs.Bool.{Decides}
use Rattle.std.proofs.lemmas.Bool.Decides.{Decides-and, Decides-eqb}
use Rattle.mm_seal.specs.declared.snapshot.Place.{Place}
use Rattle.mm_seal.specs.declared.snapshot.Place.TheVariants.{Basic as InBasic, Opt as InOpt}
use Rattle.mm_digest.specs.declared.digest.Digest.{Digest}
use Rattle.mm_model.specs.Standing.{NamesPosition}
use Rattle.mm_history.specs.Naming.{BasicNamesAreDecided, is_named, IsDecided, OptNamesAreDecided}
use Rattle.mm_platform.specs.declared.plan.Meddle.{Meddle}
use Rattle.mm_platform.specs.declared.plan.Stop.{Stop}
use Rattle.mm_schedule.specs.Events.{Ask, Checkpoint, Extend, Power}
use Rattle.mm_schedule.specs.declared.event.Offer.{Offer}
use Rattle.mm_outcome.specs.Premises.{IsGenuineOffer}
use Rattle.mm_evidence.specs.Evidence.{IsForged}
use Rattle.mm_evidence.proofs.Above.{clash_apart, clash_or, found_or_none, names_by, offer_apart, offer_or}
use Rattle.mm_sides.specs.BothSides.{sides_seen_from}
use Rattle.mm_sides.specs.Premises.{accepted, asked, breach, clash, HasPairEvidence, invited, IsBreach, notes_after, PairsAreDecided}
use Rattle.mm_sides.specs.Premises.{retired, IsClearPair, IsFreshPair, IsGenuinePair, IsGenuinePlain}

-- tickets are compared

abbrev same_place : Place → Place → Bool
same_place (InBasic s) (InBasic t) = bytes_eq s.bytes t.bytes
same_place (InOpt a e) (InOpt b f) = bytes_eq a.bytes b.bytes && bytes_eq e.bytes f.bytes
same_place _ _ = false

place-Decides : (p q : Place) → Decides (same_place p q) (p ≡ q)
place-Decides (InBasic s) (InBasic t) = (
  λ h. (λ j. InBasic (record { bytes = (bytes_eq-Decides s.bytes t.bytes).0 h j })),
  λ is. (bytes_eq-Decides s.bytes t.bytes).1 (let same : s ≡ t = cc in ap (λ (d : Digest). d.bytes) same),
)
place-Decides (InBasic s) (InOpt a e) = (λ h. absurd (cc), λ is. absurd (cc))
place-Decides (InOpt a e) (InBasic s) = (λ h. absurd (cc), λ is. absurd (cc))
place-Decides (InOpt a e) (InOpt b f) =
    let both = Decides-and (bytes_eq a.bytes b.bytes) (bytes_eq e.bytes f.bytes) (bytes_eq-Decides a.bytes b.bytes)
    (bytes_eq-Decides e.bytes f.bytes) in (
      λ h. let p = both.0 h in (λ j. InOpt (record { bytes = p.0 j }) (record { bytes = p.1 j })),
      λ is. both.1 (
        (let same : a ≡ b = cc in ap (λ (d : Digest). d.bytes) same),
        (let same : e ≡ f = cc in ap (λ (d : Digest). d.bytes) same),
      ),
    )

abbrev same_ticket : TicketContent → TicketContent → Bool
same_ticket t u =
    (bytes_eq t.nonce u.nonce && nat_eq t.content.id u.content.id)
    && ((same_place t.content.place u.content.place && nat_eq t.content.position u.content.position)
    && bytes_eq t.content.state u.content.state)

ticket-Decides : (t u : TicketContent) → Decides (same_ticket t u) (t ≡ u)
ticket-Decides t u =
    let first = Decides-and (bytes_eq t.nonce u.nonce) (nat_eq t.content.id u.content.id) (bytes_eq-Decides t.nonce u.nonce)
    (Decides-eqb t.content.id u.content.id) in
    let second = Decides-and (same_place t.content.place u.content.place) (nat_eq t.content.position u.content.position)
    (place-Decides t.content.place u.content.place) (Decides-eqb t.content.position u.content.position) in
    let whole = Decides-and _ _ first (Decides-and _ (bytes_eq t.content.state u.content.state) second
    (bytes_eq-Decides t.content.state u.content.state)) in (
      λ h. let p = whole.0 h in (λ j. record {
        nonce = p.0.0 j;
        content = record { id = p.0.1 j; place = p.1.0.0 j; position = p.1.0.1 j; state = p.1.1 j };
      }),
      λ is. whole.1 (
        (ap (λ (v : TicketContent). v.nonce) is, ap (λ (v : TicketContent). v.content.id) is),
        (
          (ap (λ (v : TicketContent). v.content.place) is, ap (λ (v : TicketContent). v.content.position) is),
          ap (λ (v : TicketContent). v.content.state) is,
        ),
      ),
    )

-- it is among these, or it isn't
contains_or : {A : Type 0} (same : A → A → Bool) → ((x y : A) → Decides (same x y) (x ≡ y)) → (xs : List A) (x : A)
    → Contains xs x ⊎ (Contains xs x → ⊥)
contains_or same decides xs x = elim (found_or_none (same x) xs) [
  | inl f ↦ inl (subst (Contains xs) (sym ((decides x f.0).0 f.2)) f.1)
  | inr none ↦ inr (λ there. none x there ((decides x x).1 refl))
]

-- what an event breaks, or that it breaks nothing

module _ (pair : Pair) (both : BothSides History History) (notes : MoveNotes) (event : BothEvent) where
  abbrev here : BothSides History History
  here = sides_seen_from event.which both

  abbrev at_side : Instance
  at_side = instance_on pair event.which

  abbrev Breach : Type 0
  Breach = IsBreach pair both notes event

  new_or : (effect : Option Effect) → (both_outcome list_mover pair both event).effect ≡ effect → Breach ⊎ IsNew notes effect
  new_or (Some (Invites nonce)) is = elim (contains_or bytes_eq bytes_eq-Decides notes.invited nonce) [
    | inl again ↦ inl (invited nonce is again)
    | inr new ↦ inr new
  ]
  new_or (Some (Leaves t)) is = inr tt
  new_or (Some (Enters t)) is = inr tt
  new_or None is = inr tt

  module _ (meddles : List Meddle) (stop : Stop) (offer : Offer) (is : event.act ≡ Moves meddles stop (Accept offer)) where
    ours_by : (bytes : List ℕ) → offered_bytes both.tickets offer ≡ Some bytes → (read : Result TicketContent Refusal)
        → ticket_in pair bytes ≡ read → Breach ⊎ IsOurs notes read
    ours_by bytes offers (Ok t) reads = elim (contains_or same_ticket ticket-Decides notes.retired t) [
      | inl ours ↦ inr ours
      | inr none ↦ inl (accepted meddles stop offer bytes t is offers reads none)
    ]
    ours_by bytes offers (Err why) reads = inr tt

    ours_offered : (bytes : Option (List ℕ)) → offered_bytes both.tickets offer ≡ bytes → Breach ⊎ IsOursOffered pair notes bytes
    ours_offered None offers = inr tt
    ours_offered (Some bytes) offers = ours_by bytes offers (ticket_in pair bytes) refl

  ours_or : (act : BothAct) → event.act ≡ act → Breach ⊎ IsOursIn pair both.tickets notes act
  ours_or (Plain e) is = inr tt
  ours_or (Moves meddles stop (Accept offer)) is = ours_offered meddles stop offer is (offered_bytes both.tickets offer) refl
  ours_or (Moves meddles stop (Invite nonce)) is = inr tt
  ours_or (Moves meddles stop (Retire nonce offer)) is = inr tt

  -- offers, of an instance whose names are decided
  module _ (named : (y : History) (content : Content) → IsDecided (is_named at_side y content) (NamesPosition at_side y content)) where
    module _ (meddles : List Meddle) (stop : Stop) (nonce : List ℕ) (offer : Offer)
        (is : event.act ≡ Moves meddles stop (Retire nonce offer))
      where
        stood : (here.first.role ≡ Live) ⊎ ((left : List ℕ) × (here.first.role ≡ Retired left))
            → Breach ⊎ IsGenuineOffer at_side (history_now here) (offered_bytes here.first.issued offer)
        stood role = elim (offer_or at_side named (history_now here) (offered_bytes here.first.issued offer)) [
          | inl f ↦ inl (retired meddles stop nonce offer is role f)
          | inr fine ↦ inr fine
        ]

        genuine_to : (role : Role) → here.first.role ≡ role
            → Breach ⊎ IsGenuineTo role at_side (history_now here) (offered_bytes here.first.issued offer)
        genuine_to Live at = stood (inl at)
        genuine_to (Retired left) at = stood (inr (left, at))
        genuine_to Blank at = inr tt
        genuine_to (Waiting awaited) at = inr tt

    genuine_plain : (e : Event) → event.act ≡ Plain e → (role : Role) → here.first.role ≡ role
        → Breach ⊎ IsGenuinePlain role at_side here.first e
    genuine_plain (Ask meddles stop offer b) is Live at =
        elim (offer_or at_side named here.first.at (offered_bytes here.first.issued offer)) [
          | inl f ↦ inl (asked meddles stop offer b is at f)
          | inr fine ↦ inr fine
        ]
    genuine_plain (Checkpoint meddles stop) is Live at = inr tt
    genuine_plain Power is Live at = inr tt
    genuine_plain (Extend value) is Live at = inr tt
    genuine_plain e is (Retired left) at = inr tt
    genuine_plain e is Blank at = inr tt
    genuine_plain e is (Waiting awaited) at = inr tt

    genuine_here : (act : BothAct) → event.act ≡ act → Breach ⊎ IsGenuineHere at_side here act
    genuine_here (Plain e) is = genuine_plain e is here.first.role refl
    genuine_here (Moves meddles stop (Retire nonce offer)) is = genuine_to meddles stop nonce offer is here.first.role refl
    genuine_here (Moves meddles stop (Invite nonce)) is = inr tt
    genuine_here (Moves meddles stop (Accept offer)) is = inr tt

  -- never both
  stood_apart : (offered : Option (List ℕ)) → (here.first.role ≡ Live) ⊎ ((left : List ℕ) × (here.first.role ≡ Retired left))
      → IsForged at_side (history_now here) offered → IsGenuineTo here.first.role at_side (history_now here) offered → ⊥
  stood_apart offered (inl at) f genuine = offer_apart at_side (history_now here) offered f
      (subst (λ (r : Role). IsGenuineTo r at_side (history_now here) offered) at genuine)
  stood_apart offered (inr (left, at)) f genuine = offer_apart at_side (history_now here) offered f
      (subst (λ (r : Role). IsGenuineTo r at_side (history_now here) offered) at genuine)

  breach_apart : Breach → IsGenuineIn pair both event → IsNew notes (both_outcome list_mover pair both event).effect
      → IsOursIn pair both.tickets notes event.act → ⊥
  breach_apart (asked meddles stop offer b is at f) genuine new ours =
      let here_is = subst (IsGenuineHere at_side here) is genuine in
      offer_apart at_side here.first.at (offered_bytes here.first.issued offer) f
      (subst (λ (r : Role). IsGenuinePlain r at_side here.first (Ask meddles stop offer b)) at here_is)
  breach_apart (retired meddles stop nonce offer is at f) genuine new ours =
      stood_apart (offered_bytes here.first.issued offer) at f (subst (IsGenuineHere at_side here) is genuine)
  breach_apart (invited nonce is again) genuine new ours = subst (IsNew notes) is new again
  breach_apart (accepted meddles stop offer bytes t is offers reads foreign) genuine new ours =
      let offered = subst (IsOursIn pair both.tickets notes) is ours in
      let read = subst (IsOursOffered pair notes) offers offered in foreign (subst (IsOurs notes) reads read)

-- a schedule of both sides

module _ (pair : Pair) where
  record Breaks (both : BothSides History History) (notes : MoveNotes) (events : List BothEvent) : Type 0 where
    before : List BothEvent
    event : BothEvent
    later : List BothEvent
    split : events ≡ before ++ event ∷ later
    broken : IsBreach pair (both_outcome_of_events list_mover pair both before).both (notes_after pair both notes before) event

  breach_first : (both : BothSides History History) (notes : MoveNotes) (event : BothEvent) (events : List BothEvent)
      → IsBreach pair both notes event → Breaks both notes (event ∷ events)
  breach_first both notes event events b = record { before = []; event = event; later = events; split = refl; broken = b }

  module _ (named : (which : SideName) (y : History) (content : Content)
      → (let i = instance_on pair which in IsDecided (is_named i y content) (NamesPosition i y content))) where
    breach_or : (events : List BothEvent) (both : BothSides History History) (notes : MoveNotes)
        → Breaks both notes events ⊎ (AreGenuineFrom pair both events × AreFreshFrom pair both notes events)
    breach_or [] both notes = inr (tt, tt)
    breach_or (event ∷ events) both notes =
        let o = both_outcome list_mover pair both event in
        elim (genuine_here pair both notes event (named event.which) event.act refl) [
          | inl b ↦ inl (breach_first both notes event events b)
          | inr genuine ↦ elim (new_or pair both notes event o.effect refl) [
            | inl b ↦ inl (breach_first both notes event events b)
            | inr new ↦ elim (ours_or pair both notes event event.act refl) [
              | inl b ↦ inl (breach_first both notes event events b)
              | inr ours ↦ elim (breach_or events o.both (notes_with_effect_if o.effect notes)) [
                | inl b ↦ inl (record {
                  before = event ∷ b.before;
                  event = b.event;
                  later = b.later;
                  split = ap (λ (es : List BothEvent). event ∷ es) b.split;
                  broken = b.broken;
                })
                | inr rest ↦ inr ((genuine, rest.0), (new, ours, rest.1))
              ]
            ]
          ]
        ]

  breaks_apart : (before : List BothEvent) (event : BothEvent) (later : List BothEvent) (both : BothSides History History)
      (notes : MoveNotes)
      → AreGenuineFrom pair both (before ++ event ∷ later) → AreFreshFrom pair both notes (before ++ event ∷ later)
      → IsBreach pair (both_outcome_of_events list_mover pair both before).both (notes_after pair both notes before) event → ⊥
  breaks_apart [] event later both notes genuine fresh b = breach_apart pair both notes event b genuine.0 fresh.0 fresh.1
  breaks_apart (x ∷ before) event later both notes genuine fresh b =
      let o = both_outcome list_mover pair both x in
      breaks_apart before event later o.both (notes_with_effect_if o.effect notes) genuine.1 fresh.2 b

  pair_apart : (events : List BothEvent) → IsClearPair pair events → IsGenuinePair pair events → IsFreshPair pair events
      → HasPairEvidence pair events → ⊥
  pair_apart events clear genuine fresh (clash c) =
      clash_apart (instance_on pair First) (both_messages pair events) (both_foreign_values events) (both_batches events)
      clear.clear clear.apart c
  pair_apart events clear genuine fresh (breach before event later split b) =
      breaks_apart before event later (first_both_by_lists pair) no_notes
      (subst (AreGenuineFrom pair (first_both_by_lists pair)) split genuine)
      (subst (AreFreshFrom pair (first_both_by_lists pair) no_notes) split fresh) b

pub pairs_decided : BasicNamesAreDecided → OptNamesAreDecided → PairsAreDecided
pairs_decided basic opt pair events = record {
  decided = elim (clash_or (instance_on pair First) (both_messages pair events) (both_foreign_values events) (both_batches events)) [
    | inl c ↦ inr (clash c)
    | inr clear ↦ elim (breach_or pair named events (first_both_by_lists pair) no_notes) [
      | inl b ↦ inr (breach b.before b.event b.later b.split b.broken)
      | inr fine ↦ inl (record { clear = clear.0; apart = clear.1 }, fine.0, fine.1)
    ]
  ];
  apart = pair_apart pair events;
}
  where
    named : (which : SideName) (y : History) (content : Content)
        → IsDecided (is_named (instance_on pair which) y content) (NamesPosition (instance_on pair which) y content)
    named which = names_by basic opt pair.variant pair.meaning (key_of pair which) pair.barrier
