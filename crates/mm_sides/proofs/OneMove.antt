-- A run in which the module moves once meets the premises.
use Rattle.mm_sides.proofs.Below.{ℕ, ◌≡◌, Bool, true, false, List, [], ◌∷◌, ◌++◌, length, Option, Some, Result, Ok, refl, sym, ap, ◌∙◌}
use Rattle.mm_sides.proofs.Below.{subst, arith, if◌then◌else◌, Contains, bytes_eq, Variant, Basic, Opt, start_message, zero_bytes, Quiet}
use Rattle.mm_sides.proofs.Below.{parts_of, Content, IsContent, variant_of, tag_of, sealed_snapshot_of, offered_snapshot_of, Instance}
use Rattle.mm_sides.proofs.Below.{basic_instance, opt_instance, History, first_history, IsClear, NamesPosition, content_of_issue, IsGenuine}
use Rattle.mm_sides.proofs.Below.{place_messages, Reads, Refusal, messages_of_moves, list_level, instance_by, place_at, summary_in}
use Rattle.mm_sides.proofs.Below.{TicketContent, IsTicket, TaggedTicket, ticket_tag, ticket_of, bytes_are, tickets_are_read, anchor_nil}
use Rattle.mm_sides.proofs.Below.{clear_within, one_ask, run_messages, AreApartIn, Live, Waiting, Retired, Leaves, Enters, Invites}
use Rattle.mm_sides.proofs.Below.{MoveNotes, no_notes, notes_with_effect, First, Second, Pair, BothSides, list_mover, first_both_by_lists}
use Rattle.mm_sides.proofs.Below.{sides_swapped, Invite, Retire, Accept, FoundMove, DenialCause, is_offer_here, ticket_in, BothEvent}
use Rattle.mm_sides.proofs.Below.{BothOutcome, Moves, Invited, Left, Entered, found_command, both_outcome, both_outcome_of_events}
use Rattle.mm_sides.proofs.Below.{both_outcome_by_lists, notes_with_effect_if, read_moves, found_moves, offer_closing_messages}
use Rattle.mm_sides.proofs.Below.{both_event_messages, both_messages, both_messages_from, AreFreshFrom, IsNew, IsOurs, IsOursIn, one_move}
use Rattle.mm_sides.proofs.Below.{counters, MovesOnce}
use Rattle.mm_digest.specs.LengthLaws.{length-zero_bytes, length-start_digest_of, length-hmac_of}
use Rattle.mm_module.specs.Meaning.{counter}
use Rattle.mm_module.specs.RunLaws.{counter_is_lawful}
use Rattle.mm_seal.specs.FieldLaws.{sealed_parts, sealed_once}
use Rattle.mm_call.specs.OfferLaws.{summary-nil}
use Rattle.mm_move.specs.Tickets.{sealed_ticket}
use Rattle.mm_schedule.specs.declared.event.Offer.TheVariants.{Last}
use Rattle.mm_outcome.specs.OneRun.{world_barrier}
use Rattle.mm_sides.proofs.Rests.{issued_here}
use Rattle.mm_sides.proofs.SideNames.{first_sound_in, first_lives}

-- the snapshot of the first history

abbrev said : Variant → (key barrier : List ℕ) → Content
said variant key barrier = content_of_issue (instance_by variant counter key barrier) first_history

formed : (variant : Variant) (key barrier : List ℕ) → IsContent (said variant key barrier)
formed Basic key barrier = record {
  place = ap length (sym (summary-nil counter.id)) ∙ length-start_digest_of Basic counter.id;
  position = omega arith;
  state = counter_is_lawful.fits counter.first counter_is_lawful.begins;
}
formed Opt key barrier = record {
  place = (ap length (anchor_nil counter key barrier) ∙ length-start_digest_of Opt counter.id, length-zero_bytes);
  position = omega arith;
  state = counter_is_lawful.fits counter.first counter_is_lawful.begins;
}

of_variant : (variant : Variant) (key barrier : List ℕ) → variant_of (said variant key barrier).place ≡ variant
of_variant Basic key barrier = refl
of_variant Opt key barrier = refl

variant_is : (variant : Variant) (key barrier : List ℕ) → (instance_by variant counter key barrier).variant ≡ variant
variant_is Basic key barrier = refl
variant_is Opt key barrier = refl

of_id : (variant : Variant) (key barrier : List ℕ) → (said variant key barrier).id ≡ (instance_by variant counter key barrier).meaning.id
of_id Basic key barrier = refl
of_id Opt key barrier = refl

id_is : (variant : Variant) (key barrier : List ℕ) → (said variant key barrier).id ≡ counter.id
id_is Basic key barrier = refl
id_is Opt key barrier = refl

spelled : (variant : Variant) (key barrier : List ℕ)
    → (instance_by variant counter key barrier).meaning.is_spelled (said variant key barrier).state ≡ true
spelled Basic key barrier = counter_is_lawful.begins
spelled Opt key barrier = counter_is_lawful.begins

spelled_there : (variant : Variant) (key barrier : List ℕ) → counter.is_spelled (said variant key barrier).state ≡ true
spelled_there Basic key barrier = counter_is_lawful.begins
spelled_there Opt key barrier = counter_is_lawful.begins

at_anchor : (variant : Variant) (key barrier : List ℕ)
    → (said variant key barrier).place ≡ place_at (variant_of (said variant key barrier).place)
    (summary_in (said variant key barrier).place)
at_anchor Basic key barrier = refl
at_anchor Opt key barrier = refl

stands : (variant : Variant) (key barrier : List ℕ)
    → is_offer_here (list_level (instance_by variant counter key barrier)) first_history (said variant key barrier) ≡ true
stands Basic key barrier = refl
stands Opt key barrier = refl

zero_is_zero : bytes_eq zero_bytes zero_bytes ≡ true
zero_is_zero = bytes_are zero_bytes zero_bytes refl

no_closing : (variant : Variant) (key barrier : List ℕ) → place_messages (said variant key barrier).place ≡ []
no_closing Basic key barrier = refl
no_closing Opt key barrier = rw zero_is_zero refl

quiet_steps : (i : Instance) (y : History) (again : Bool)
    → messages_of_moves i y (read_moves [] Quiet (if again then Reads ∷ [] else Reads ∷ Reads ∷ [])) ≡ []
quiet_steps i y true = refl
quiet_steps i y false = refl

-- a command to which nobody puts a value into a register lists no message by its steps
quiet : (i : Instance) (y : History) (f : Option (Result FoundMove DenialCause)) → messages_of_moves i y (found_moves [] Quiet f) ≡ []
quiet i y (Some (Ok f)) = quiet_steps i y f.again
quiet i y f = refl

-- the start message is the first of a run
first_of : (x : List ℕ) (xs : List (List ℕ)) → Contains (x ∷ xs) x
first_of x xs = (0, omega arith, refl)

none_of : (x : List ℕ) → Contains [] x → ⊥
none_of x c = omega (arith, c.1)

clear_start : (variant : Variant) (first_key barrier : List ℕ) → IsClear (run_messages (basic_instance counter first_key) one_ask)
    → IsClear (run_messages (opt_instance counter first_key world_barrier) one_ask)
    → (let i = instance_by variant counter first_key barrier in IsClear (start_message i.variant i.meaning.id ∷ []))
clear_start Basic first_key barrier in_basic in_opt =
    clear_within (run_messages (basic_instance counter first_key) one_ask) (start_message Basic counter.id ∷ []) in_basic (first_of _ _, tt)
clear_start Opt first_key barrier in_basic in_opt =
    clear_within (run_messages (opt_instance counter first_key world_barrier) one_ask) (start_message Opt counter.id ∷ []) in_opt
    (first_of _ _, tt)

apart : (variant : Variant) (first_key barrier : List ℕ)
    → (let i = instance_by variant counter first_key barrier in AreApartIn i.variant i [] [])
apart Basic first_key barrier = λ is. cc
apart Opt first_key barrier = λ is d b c among. absurd (none_of d c)

names : (variant : Variant) (key barrier : List ℕ)
    → NamesPosition (instance_by variant counter key barrier) first_history (said variant key barrier)
names variant key barrier = issued_here variant counter key barrier first_history (first_sound_in variant counter key barrier)
    (first_lives variant counter key barrier)

module _ (variant : Variant) (first_key second_key barrier link nonce : List ℕ) (long : length nonce ≡ 32) where
  abbrev pair : Pair
  pair = counters variant first_key second_key barrier link

  abbrev here : Instance
  here = instance_by variant counter first_key barrier

  abbrev there : Instance
  there = instance_by variant counter second_key barrier

  abbrev content : Content
  content = said variant first_key barrier

  abbrev ticket : TicketContent
  ticket = record { nonce = nonce; content = content }

  abbrev bytes : List ℕ
  bytes = sealed_snapshot_of here.key content

  parts : parts_of here.variant here.meaning.id bytes ≡ Ok (offered_snapshot_of here.key content)
  parts = sealed_parts here.key content here.variant here.meaning.id (formed variant first_key barrier)
      (of_variant variant first_key barrier ∙ sym (variant_is variant first_key barrier)) (of_id variant first_key barrier)

  tagged : bytes_eq (tag_of here.key content) (tag_of here.key content) ≡ true
  tagged = bytes_are (tag_of here.key content) (tag_of here.key content) refl

  -- the ticket is read back
  abbrev paper : List ℕ
  paper = sealed_ticket link ticket

  abbrev whole : TaggedTicket
  whole = record { ticket = ticket; tag = ticket_tag link ticket }

  formed_ticket : IsTicket ticket
  formed_ticket = record { nonce = long; content = formed variant first_key barrier; place = at_anchor variant first_key barrier }

  read_back : ticket_of variant counter.id paper ≡ Ok whole
  unfolding sealed_ticket
  read_back = (tickets_are_read variant counter.id paper whole).1 (record {
    is = record { ticket = formed_ticket; tag = length-hmac_of link _ };
    bytes_are = refl;
    variant_is = of_variant variant first_key barrier;
    id_is = id_is variant first_key barrier;
  })

  same_tag : bytes_eq (ticket_tag link ticket) (ticket_tag link ticket) ≡ true
  same_tag = bytes_are (ticket_tag link ticket) (ticket_tag link ticket) refl

  right_ticket : ticket_in pair paper ≡ Ok ticket
  right_ticket = rw (read_back, spelled_there variant first_key barrier, same_tag) refl

  -- the three events
  abbrev invited : BothEvent
  invited = record { which = Second; act = Moves [] Quiet (Invite nonce) }

  abbrev retired : BothEvent
  retired = record { which = First; act = Moves [] Quiet (Retire nonce Last) }

  abbrev accepted : BothEvent
  accepted = record { which = Second; act = Moves [] Quiet (Accept Last) }

  abbrev waiting : BothSides History History
  waiting = record (first_both_by_lists pair) { second = record { role = Waiting nonce; at = first_history; issued = [] } }

  abbrev gone : BothSides History History
  gone = record waiting { first = record waiting.first { role = Retired nonce }; away = first_history; tickets = paper ∷ [] }

  abbrev arrived : BothSides History History
  arrived = record gone {
    second = record { role = Live; at = first_history; issued = sealed_snapshot_of there.key (content_of_issue there first_history) ∷ [] };
  }

  invites : both_outcome list_mover pair (first_both_by_lists pair)
      invited ≡ record { both = waiting; reply = Invited; effect = Some (Invites nonce) }
  invites = refl

  leaves : both_outcome list_mover pair waiting retired ≡ record { both = gone; reply = Left 0; effect = Some (Leaves ticket) }
  leaves = rw (parts, spelled variant first_key barrier, tagged, stands variant first_key barrier) refl

  comes : both_outcome list_mover pair gone
      accepted ≡ record { both = arrived; reply = Entered (content_of_issue there first_history).position; effect = Some (Enters ticket) }
  comes = rw (read_back, spelled_there variant first_key barrier, same_tag, bytes_are nonce nonce refl) refl

  -- the run
  runs : (both_outcome_by_lists pair (one_move nonce)).both ≡ arrived
  runs = ap (λ (o : BothOutcome History History). (both_outcome_of_events list_mover pair o.both (accepted ∷ [])).both) leaves
      ∙ ap (λ (o : BothOutcome History History). o.both) comes

  -- no message but the start message is listed
  closed_by : offer_closing_messages here (Some bytes) ≡ []
  closed_by = rw (parts, spelled variant first_key barrier, tagged) (no_closing variant first_key barrier)

  none_by_retiring : both_event_messages pair waiting retired ≡ []
  none_by_retiring = ap (λ (m : List (List ℕ)). m
      ++ messages_of_moves here first_history (found_moves [] Quiet (found_command list_mover pair here waiting (Retire nonce Last))))
      closed_by
      ∙ quiet here first_history (found_command list_mover pair here waiting (Retire nonce Last))

  none_by_accepting : both_event_messages pair gone accepted ≡ []
  none_by_accepting = quiet there first_history (found_command list_mover pair there (sides_swapped gone) (Accept Last))

  none_behind : both_messages_from pair waiting (retired ∷ accepted ∷ []) ≡ []
  none_behind = ap (λ (m : List (List ℕ)). m ++ both_messages_from pair (both_outcome list_mover pair waiting retired).both (accepted ∷ []))
      none_by_retiring ∙ ap (λ (o : BothOutcome History History). both_messages_from pair o.both (accepted ∷ [])) leaves
      ∙ ap (λ (m : List (List ℕ)). m ++ []) none_by_accepting

  listed : both_messages pair (one_move nonce) ≡ start_message here.variant here.meaning.id ∷ []
  listed = ap (λ (m : List (List ℕ)). start_message here.variant here.meaning.id ∷ m) none_behind

  genuine : IsGenuine here first_history bytes
  genuine = λ c it. subst (λ (x : Content). NamesPosition here first_history x)
      (sealed_once here.key here.key content c (formed variant first_key barrier) it.formed it.sealed) (names variant first_key barrier)

  abbrev awaited : MoveNotes
  awaited = notes_with_effect (Invites nonce) no_notes

  abbrev travelling : MoveNotes
  travelling = notes_with_effect (Leaves ticket) awaited

  ours : IsOurs travelling (ticket_in pair paper)
  ours = subst (λ (t : Result TicketContent Refusal). IsOurs travelling t) (sym right_ticket) (0, omega arith, refl)

  fresh_there : AreFreshFrom pair gone travelling (accepted ∷ [])
  fresh_there = subst (λ (o : BothOutcome History History). IsNew travelling o.effect × IsOursIn pair gone.tickets travelling accepted.act
      × AreFreshFrom pair o.both (notes_with_effect_if o.effect travelling) []) (sym comes) (tt, ours, tt)

  fresh_here : AreFreshFrom pair waiting awaited (retired ∷ accepted ∷ [])
  fresh_here = subst (λ (o : BothOutcome History History). IsNew awaited o.effect × IsOursIn pair waiting.tickets awaited retired.act
      × AreFreshFrom pair o.both (notes_with_effect_if o.effect awaited) (accepted ∷ [])) (sym leaves) (tt, tt, fresh_there)

  pub moves_once : IsClear (run_messages (basic_instance counter first_key) one_ask)
      → IsClear (run_messages (opt_instance counter first_key world_barrier) one_ask) → MovesOnce pair nonce
  moves_once in_basic in_opt = record {
    clear = record {
      clear = subst IsClear (sym listed) (clear_start variant first_key barrier in_basic in_opt);
      apart = apart variant first_key barrier;
    };
    genuine = (tt, (genuine, (tt, tt)));
    fresh = (none_of nonce, tt, fresh_here);
    left = ap (λ (both : BothSides History History). both.first.role) runs;
    entered = ap (λ (both : BothSides History History). both.second.role) runs;
  }
