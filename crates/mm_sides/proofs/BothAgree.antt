-- Whole schedules of both sides agree, by digests and by lists; and they go on from what stands
-- after their first events. With it: the premises of a run of both sides are those of its first
-- parts.
use Rattle.std.proofs.Common.{append_assoc}
use Rattle.mm_evidence.proofs.Above.{AreDecided, fronts_longest}
use Rattle.mm_sides.specs.Premises.{HasPairEvidence, MeetsPairPremises, PairFrontsAreLongest, PairsAreDecided, IsClearPair}
use Rattle.mm_sides.proofs.Agreeing.{here_goes}
use Rattle.mm_sides.proofs.Below.{ℕ, ◌≡◌, List, [], ◌∷◌, ◌++◌, refl, sym, ap, subst, AllByRecursion, Contains, start_message, Variant}
use Rattle.mm_sides.proofs.Below.{Basic, Opt, Batch, Meaning, Instance, History, first_history, AreMessagesIn, IsClear, Digests, each_left}
use Rattle.mm_sides.proofs.Below.{each_right, each_self, instance_by, first_digests, KeepsHistory, AreApartIn, MoveNotes, no_notes}
use Rattle.mm_sides.proofs.Below.{SideName, First, Second, Pair, instance_on, BothSides, sides_swapped, Mover, list_mover, digest_mover}
use Rattle.mm_sides.proofs.Below.{first_both_by_lists, first_both_by_digests, BothAct, BothEvent, BothReply, BothOutcome, outcome_here}
use Rattle.mm_sides.proofs.Below.{both_outcome, BothRunOutcome, both_outcome_of_events, notes_with_effect_if, both_event_messages}
use Rattle.mm_sides.proofs.Below.{both_messages_from, both_messages, others_values_in, both_foreign_values, batches_in, both_batches}
use Rattle.mm_sides.proofs.Below.{IsGenuineIn, AreGenuineFrom, IsNew, IsOursIn, AreFreshFrom, PairsAgree, PairsAgreeThroughout}
use Rattle.mm_sides.proofs.Below.{both_outcome_joined, PairsGoOn, basic_begins, opt_begins, ◌∙◌, Contains-append_left, clear_within}
use Rattle.mm_sides.proofs.InOrder.{roles_begin}
use Rattle.mm_sides.proofs.OneRun.{here_ordered}
use Rattle.mm_sides.proofs.Twins.{Twin, twin, turned_twin, Kept, Goes, turned_kept}

apart_cross : (variant : Variant) (meaning : Meaning) (key key' barrier : List ℕ) (others : List (List ℕ)) (asked : List Batch)
    → AreApartIn (instance_by variant meaning key barrier).variant (instance_by variant meaning key barrier) others asked
    → AreApartIn (instance_by variant meaning key' barrier).variant (instance_by variant meaning key' barrier) others asked
apart_cross Basic meaning key key' barrier others asked h = h
apart_cross Opt meaning key key' barrier others asked h = h

starts_by : (variant : Variant) (meaning : Meaning) (key key' barrier : List ℕ) (all others : List (List ℕ)) (asked : List Batch)
    → Contains all (start_message (instance_by variant meaning key barrier).variant (instance_by variant meaning key barrier).meaning.id)
    → KeepsHistory all others asked (instance_by variant meaning key' barrier) first_history
    (first_digests (instance_by variant meaning key' barrier))
starts_by Basic meaning key key' barrier all others asked h = basic_begins meaning key' all others asked h
starts_by Opt meaning key key' barrier all others asked h = opt_begins meaning key' barrier all others asked h

module _ (pair : Pair) (all others : List (List ℕ)) (asked : List Batch) (clear : IsClear all)
    (apart : AreApartIn (instance_on pair First).variant (instance_on pair First) others asked) where
  event_goes : (l : BothSides History History) (x : Twin) (notes : MoveNotes) (which : SideName) (act : BothAct)
      → Kept all others asked (instance_on pair First) (instance_on pair Second) l x notes
      → (let event : BothEvent = record { which = which; act = act } in
      IsNew notes (both_outcome list_mover pair l event).effect → IsOursIn pair l.tickets notes act
      → AllByRecursion (Contains others) (others_values_in act) → AllByRecursion (Contains asked) (batches_in act)
      → AreMessagesIn (both_event_messages pair l event) all → IsGenuineIn pair l event
      → Goes all others asked (instance_on pair First) (instance_on pair Second) notes (both_outcome list_mover pair l event)
      (both_outcome digest_mover pair (twin l x) event))
  event_goes l x notes First act k new ours outside batches listed genuine =
      here_goes pair.variant pair.meaning pair.first_key pair.second_key pair.barrier all others asked clear apart pair l x notes act k
      (here_ordered pair (instance_on pair First) l notes act k.order new ours) outside batches listed genuine ours
  event_goes l x notes Second act k new ours outside batches listed genuine =
      let i : Instance = instance_on pair Second in
      let back = turned_kept pair.variant pair.meaning pair.first_key pair.second_key pair.barrier all others asked l x notes k in
      let o : BothOutcome History History = outcome_here list_mover pair i (sides_swapped l) act in
      let g = here_goes pair.variant pair.meaning pair.second_key pair.first_key pair.barrier all others asked clear
      (apart_cross pair.variant pair.meaning pair.first_key pair.second_key pair.barrier others asked apart) pair (sides_swapped l)
      (turned_twin x) notes act back (here_ordered pair i (sides_swapped l) notes act back.order new ours) outside batches
      listed genuine ours in
      record {
        at = turned_twin g.at;
        same = ap (λ (w : BothOutcome Digests ℕ). record w { both = sides_swapped w.both }) g.same;
        kept = turned_kept pair.variant pair.meaning pair.second_key pair.first_key pair.barrier all others asked o.both g.at
            (notes_with_effect_if o.effect notes) g.kept;
      }

  agree_from : (events : List BothEvent) (l : BothSides History History) (x : Twin) (notes : MoveNotes)
      → Kept all others asked (instance_on pair First) (instance_on pair Second) l x notes
      → AllByRecursion (Contains others) (both_foreign_values events) → AllByRecursion (Contains asked) (both_batches events)
      → AreMessagesIn (both_messages_from pair l events) all → AreGenuineFrom pair l events → AreFreshFrom pair l notes events
      → PairsAgree pair (both_outcome_of_events list_mover pair l events) (both_outcome_of_events digest_mover pair (twin l x) events)
  agree_from [] l x notes k outside batches listed genuine fresh = record {
    replies = refl;
    first = record { role = refl; at = k.this.keeps.agrees; issued = refl };
    second = record { role = refl; at = k.other.keeps.agrees; issued = refl };
    tickets = refl;
    committed = refl;
  }
  agree_from (event ∷ events) l x notes k outside batches listed genuine fresh =
      let o : BothOutcome History History = both_outcome list_mover pair l event in
      let g = event_goes l x notes event.which event.act k fresh.0 fresh.1
      (each_left (Contains others) (others_values_in event.act) (both_foreign_values events) outside)
      (each_left (Contains asked) (batches_in event.act) (both_batches events) batches)
      (each_left (Contains all) (both_event_messages pair l event) (both_messages_from pair o.both events) listed) genuine.0 in
      let rest = agree_from events o.both g.at (notes_with_effect_if o.effect notes) g.kept
      (each_right (Contains others) (others_values_in event.act) (both_foreign_values events) outside)
      (each_right (Contains asked) (batches_in event.act) (both_batches events) batches)
      (each_right (Contains all) (both_event_messages pair l event) (both_messages_from pair o.both events) listed) genuine.1 fresh.2 in
      let f : BothRunOutcome History History = both_outcome_of_events list_mover pair o.both events in
      let Q : BothOutcome Digests ℕ → Type 0 = λ w. PairsAgree pair (record { both = f.both; replies = o.reply ∷ f.replies }) (record {
        both = (both_outcome_of_events digest_mover pair w.both events).both;
        replies = w.reply ∷ (both_outcome_of_events digest_mover pair w.both events).replies;
      }) in
      subst Q (sym g.same) (record {
        replies = ap (λ (r : List BothReply). o.reply ∷ r) rest.replies;
        first = rest.first;
        second = rest.second;
        tickets = rest.tickets;
        committed = rest.committed;
      })

pub pairs_agree : PairsAgreeThroughout
pairs_agree pair events clear genuine fresh =
    let all : List (List ℕ) = both_messages pair events in
    let others : List (List ℕ) = both_foreign_values events in
    let asked : List Batch = both_batches events in
    let i : Instance = instance_on pair First in
    let j : Instance = instance_on pair Second in
    let self = each_self [] all in
    let here = starts_by pair.variant pair.meaning pair.first_key pair.first_key pair.barrier all others asked self.0 in
    let there = starts_by pair.variant pair.meaning pair.first_key pair.second_key pair.barrier all others asked self.0 in
    let x : Twin = record { first = first_digests i; second = first_digests j; away = 0 } in
    agree_from pair all others asked clear.clear clear.apart events (first_both_by_lists pair) x no_notes (record {
      this = record { keeps = here; shut = tt };
      other = record { keeps = there; shut = tt };
      left = record { count_is = refl; shut = refl; within = here.within };
      order = roles_begin;
      named = tt;
      last = λ gone left ticket is. absurd (cc);
      this_behind = tt;
      other_behind = tt;
    }) (each_self [] others) (each_self [] asked) self.1 genuine fresh

follow_on : {S A : Type 0} (mover : Mover S A) (pair : Pair) (es fs : List BothEvent) (both : BothSides S A)
    → both_outcome_of_events mover pair both (es ++ fs) ≡ both_outcome_joined (both_outcome_of_events mover pair both es)
    (both_outcome_of_events mover pair (both_outcome_of_events mover pair both es).both fs)
follow_on mover pair [] fs both = refl
follow_on {S} {A} mover pair (event ∷ es) fs both =
    let o : BothOutcome S A = both_outcome mover pair both event in
    ap (λ (rest : BothRunOutcome S A). record { both = rest.both; replies = o.reply ∷ rest.replies }) (follow_on mover pair es fs o.both)

pub pairs_go_on : PairsGoOn
pairs_go_on pair es fs = (
  follow_on list_mover pair es fs (first_both_by_lists pair),
  follow_on digest_mover pair es fs
      (first_both_by_digests pair),
)

-- The premises of a run of both sides are those of its first parts.

messages-append : (pair : Pair) (es fs : List BothEvent) (both : BothSides History History)
    → both_messages_from pair both (es ++ fs)
    ≡ both_messages_from pair both es ++ both_messages_from pair (both_outcome_of_events list_mover pair both es).both fs
messages-append pair [] fs both = refl
messages-append pair (event ∷ es) fs both =
    let here = both_event_messages pair both event in
    let o = both_outcome list_mover pair both event in
    ap (λ (ms : List (List ℕ)). here ++ ms) (messages-append pair es fs o.both) ∙ sym (append_assoc here _ _)

values-append : (es fs : List BothEvent) → both_foreign_values (es ++ fs) ≡ both_foreign_values es ++ both_foreign_values fs
values-append [] fs = refl
values-append (event ∷ es) fs =
    ap (λ (vs : List (List ℕ)). others_values_in event.act ++ vs) (values-append es fs)
    ∙ sym (append_assoc (others_values_in event.act) (both_foreign_values es) (both_foreign_values fs))

batches-append : (es fs : List BothEvent) → both_batches (es ++ fs) ≡ both_batches es ++ both_batches fs
batches-append [] fs = refl
batches-append (event ∷ es) fs =
    ap (λ (bs : List Batch). batches_in event.act ++ bs) (batches-append es fs)
    ∙ sym (append_assoc (batches_in event.act) (both_batches es) (both_batches fs))

among_first : {A : Type 0} (first more all : List A) → all ≡ first ++ more → (x : A) → Contains first x → Contains all x
among_first {A} first more all is x here = subst (λ (xs : List A). Contains xs x) (sym is) (Contains-append_left first more x here)

module _ (pair : Pair) where
  clear_front : (front later : List BothEvent) → IsClearPair pair (front ++ later) → IsClearPair pair front
  clear_front front later c =
      let start = first_both_by_lists pair in
      let some : List (List ℕ) = both_messages pair front in
      let more : List (List ℕ) = both_messages_from pair (both_outcome_of_events list_mover pair start front).both later in
      record {
        clear = clear_within (some ++ more) some (subst IsClear (ap (λ (ms : List (List ℕ)).
            start_message (instance_on pair First).variant (instance_on pair First).meaning.id ∷ ms)
            (messages-append pair front later start)) c.clear)
            (each_left (Contains (some ++ more)) some more (each_self [] (some ++ more)));
        apart = λ is d b value batch. c.apart is d b
            (among_first (both_foreign_values front) (both_foreign_values later) _ (values-append front later) d value)
            (among_first (both_batches front) (both_batches later) _ (batches-append front later) b batch);
      }

  genuine_front : (front later : List BothEvent) (both : BothSides History History) → AreGenuineFrom pair both (front ++ later)
      → AreGenuineFrom pair both front
  genuine_front [] later both h = tt
  genuine_front (event ∷ front) later both h =
      (h.0, genuine_front front later (both_outcome list_mover pair both event).both h.1)

  fresh_front : (front later : List BothEvent) (both : BothSides History History) (notes : MoveNotes)
      → AreFreshFrom pair both notes (front ++ later) → AreFreshFrom pair both notes front
  fresh_front [] later both notes h = tt
  fresh_front (event ∷ front) later both notes h =
      let o = both_outcome list_mover pair both event in
      (h.0, h.1, fresh_front front later o.both (notes_with_effect_if o.effect notes) h.2)

  meets_front : (front later : List BothEvent) → MeetsPairPremises pair (front ++ later) → MeetsPairPremises pair front
  meets_front front later h =
      let start = first_both_by_lists pair in
      (clear_front front later h.0, genuine_front front later start h.1, fresh_front front later start no_notes h.2)

pub known_pairs : PairsAreDecided → (pair : Pair) → AreDecided (HasPairEvidence pair) (MeetsPairPremises pair)
known_pairs decided pair = record {
  decided = λ events. (decided pair events).decided;
  apart = λ events h evidence. (decided pair events).apart h.0 h.1 h.2 evidence;
}

pub pair_fronts_longest : PairsAreDecided → PairFrontsAreLongest
pair_fronts_longest decided pair events front u =
    fronts_longest (HasPairEvidence pair) (MeetsPairPremises pair) (known_pairs decided pair) (meets_front pair) events front u
