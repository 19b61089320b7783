-- BothSides sides by digests beside both sides by lists: what holds of them before and after each event.
use Rattle.mm_sides.proofs.Below.{Basic, Bool, Opt, true, ℕ, ◌≡◌, false, List, [], ◌∷◌, sym, ◌∙◌, subst, ◌+◌, ◌-◌, None, AllByRecursion}
use Rattle.mm_sides.proofs.Below.{Contains, Variant, Batch, Meaning, Instance, History, total_of, AreMessagesIn, IsClear, Digests}
use Rattle.mm_sides.proofs.Below.{NamesPosition, content_of_issue, place_messages, IsWithin, messages_of_moves, instance_by, TicketContent}
use Rattle.mm_sides.proofs.Below.{KeepsHistory, Role, Live, Retired, MoveNotes, is_live, AreInOrder, IsLastTicket, BothSides, sides_swapped}
use Rattle.mm_sides.proofs.Below.{list_mover, digest_mover, BothOutcome, notes_with_effect_if, Plain, Said, plain_outcome, history_at}
use Rattle.mm_sides.proofs.Below.{history_now, Refusal, each_left, each_right, list_level, digest_level, Event, Outcome, event_outcome}
use Rattle.mm_sides.proofs.Below.{vain_event_outcome, event_foreign_values, batches_of, event_messages, moves_of, AreApartIn}
use Rattle.mm_sides.proofs.Below.{refusal_for_role, vain_moves, plain_messages, IsGenuineHere}
use Rattle.mm_sides.proofs.InOrder.{roles_swap, not_dead}
use Rattle.mm_sides.proofs.OneRun.{turned_history, alike_at}
use Rattle.mm_sides.proofs.Rests.{names_cross, alike_names, issued_cross, within_cross, sound_in}
use Rattle.mm_sides.proofs.SideNames.{behind_alike, behind_later, IsBehind, went_alike, went_event}
use Rattle.mm_sides.proofs.Outer.{in_vain, IsAlike, same_open, events_agree, events_keep_names, vain_same}

-- what by digests is apart from lists: roles, snapshots, tickets and the count of requests are the same
pub record Twin : Type 0 where
  pub first : Digests
  pub second : Digests
  pub away : ℕ

abbrev pub turned_twin : Twin → Twin
turned_twin x = record { first = x.second; second = x.first; away = x.away }

abbrev pub twin : BothSides History History → Twin → BothSides Digests ℕ
twin l x = record {
  first = record { role = l.first.role; at = x.first; issued = l.first.issued };
  second = record { role = l.second.role; at = x.second; issued = l.second.issued };
  away = x.away;
  tickets = l.tickets;
  committed = l.committed;
}

-- where the module left no segment is open
abbrev pub IsShut : Role → History → Type 0
IsShut (Retired nonce) y = y.is_open ≡ false
IsShut role y = Unit {0}

-- a ticket names a position of the history, and its place has no message of its own
abbrev pub IsNamed : List (List ℕ) → Instance → History → TicketContent → Type 0
IsNamed all i y ticket = NamesPosition i y ticket.content × AreMessagesIn (place_messages ticket.content.place) all

-- where a side stands by digests is where it stands by lists
pub record Stands (all others : List (List ℕ)) (asked : List Batch) (i : Instance) (role : Role) (y : History) (d : Digests) : Type 0 where
  pub keeps : KeepsHistory all others asked i y d
  pub shut : IsShut role y

-- what is kept of where the module left
pub record IsLeft (all others : List (List ℕ)) (asked : List Batch) (i : Instance) (y : History) (count : ℕ) : Type 0 where
  pub count_is : count ≡ total_of y.batches
  pub shut : y.is_open ≡ false
  pub within : IsWithin all others asked i y

pub record KeptAt (all others : List (List ℕ)) (asked : List Batch) (i j : Instance) (role role' : Role) (y z away : History) (x : Twin)
    (notes : MoveNotes) : Type 0 where
  pub this : Stands all others asked i role y x.first
  pub other : Stands all others asked j role' z x.second
  pub left : IsLeft all others asked i away x.away
  pub order : AreInOrder role role' notes
  pub named : AllByRecursion (IsNamed all i (history_at (is_live role) (is_live role') y z away)) notes.retired
  pub last : is_live role ≡ false → is_live role' ≡ false → (ticket : TicketContent) → IsLastTicket notes.retired ticket
      → ticket.content ≡ content_of_issue i away
  pub this_behind : IsBehind role i.variant y (history_at (is_live role) (is_live role') y z away)
  pub other_behind : IsBehind role' j.variant z (history_at (is_live role) (is_live role') y z away)

-- what holds of both sides, whatever they issued
abbrev pub Kept : List (List ℕ) → List (List ℕ) → List Batch → Instance → Instance → BothSides History History → Twin → MoveNotes → Type 0
Kept all others asked i j l x notes = KeptAt all others asked i j l.first.role l.second.role l.first.at l.second.at l.away x notes

-- An event comes by digests to what it comes to by lists.
pub record Goes (all others : List (List ℕ)) (asked : List Batch) (i j : Instance) (notes : MoveNotes) (lists : BothOutcome History History)
    (digests : BothOutcome Digests ℕ) : Type 0 where
  pub at : Twin
  pub same : digests ≡ record { both = twin lists.both at; reply = lists.reply; effect = lists.effect }
  pub kept : Kept all others asked i j lists.both at (notes_with_effect_if lists.effect notes)

pub each_goes : {A : Type 0} (P Q : A → Type 0) → ((x : A) → P x → Q x) → (xs : List A) → AllByRecursion P xs → AllByRecursion Q xs
each_goes P Q f [] h = tt
each_goes P Q f (x ∷ xs) h = (f x h.0, each_goes P Q f xs h.1)

-- the same with the sides exchanged
pub turned_kept : (variant : Variant) (meaning : Meaning) (key key' barrier : List ℕ) (all others : List (List ℕ)) (asked : List Batch)
    (l : BothSides History History) (x : Twin) (notes : MoveNotes)
    → Kept all others asked (instance_by variant meaning key barrier) (instance_by variant meaning key' barrier) l x notes
    → Kept all others asked (instance_by variant meaning key' barrier) (instance_by variant meaning key barrier) (sides_swapped l)
    (turned_twin x) notes
turned_kept variant meaning key key' barrier all others asked l x notes k =
    let i = instance_by variant meaning key barrier in
    let j = instance_by variant meaning key' barrier in
    record {
      this = k.other;
      other = k.this;
      left = record {
        count_is = k.left.count_is;
        shut = k.left.shut;
        within = within_cross variant meaning key key' barrier all others asked l.away l.away.items k.left.shut k.left.within;
      };
      order = roles_swap l.first.role l.second.role notes k.order;
      named = subst (λ y. AllByRecursion (IsNamed all j y) notes.retired) (sym (turned_history l notes k.order))
          (each_goes (IsNamed all i (history_now l)) (IsNamed all j (history_now l))
          (λ t h. (names_cross variant meaning key key' barrier (history_now l) (history_now l).items t.content h.0, h.1)) notes.retired
          k.named);
      last = λ gone left ticket is. k.last left gone ticket is ∙ issued_cross variant meaning key key' barrier l.away l.away.items;
      this_behind = subst (IsBehind l.second.role j.variant l.second.at) (sym (turned_history l notes k.order)) k.other_behind;
      other_behind = subst (IsBehind l.first.role i.variant l.first.at) (sym (turned_history l notes k.order)) k.this_behind;
    }

-- what is asked of a history doesn't look at the key
within_other : (variant : Variant) (meaning : Meaning) (key key' barrier : List ℕ) (all others : List (List ℕ)) (asked : List Batch)
    (y : History) → IsWithin all others asked (instance_by variant meaning key' barrier) y
    → IsWithin all others asked (instance_by variant meaning key barrier) y
within_other Basic meaning key key' barrier all others asked y w =
    record { sound = w.sound; outside = w.outside; listed = w.listed; batches = w.batches }
within_other Opt meaning key key' barrier all others asked y w =
    record { sound = w.sound; outside = w.outside; listed = w.listed; batches = w.batches }

-- An event of a schedule on the first side comes by digests to what it comes to by lists.

module _ (variant : Variant) (meaning : Meaning) (key key' barrier : List ℕ) (all others : List (List ℕ)) (asked : List Batch)
    (clear : IsClear all)
    (apart : AreApartIn (instance_by variant meaning key barrier).variant (instance_by variant meaning key barrier) others asked) where
  abbrev me : Instance
  me = instance_by variant meaning key barrier

  abbrev them : Instance
  them = instance_by variant meaning key' barrier

  shut_alike : (role : Role) (y z : History) → z.is_open ≡ y.is_open → IsShut role y → IsShut role z
  shut_alike (Retired nonce) y z e h = e ∙ h
  shut_alike role y z e h = tt

  -- the first side stands elsewhere, as others extended its register
  pub brought_kept : (l : BothSides History History) (x : Twin) (notes : MoveNotes) (z : History) (d : Digests)
      → Kept all others asked me them l x notes → KeepsHistory all others asked me z d → IsAlike l.first.at z
      → Kept all others asked me them (record l { first = record l.first { at = z } }) (record x { first = d }) notes
  brought_kept l x notes z d k keeps alike =
      let now = alike_at (is_live l.first.role) (is_live l.second.role) l.first.at z l.second.at l.away alike in
      record {
        this = record { keeps = keeps; shut = shut_alike l.first.role l.first.at z (same_open l.first.at z alike) k.this.shut };
        other = k.other;
        left = k.left;
        order = k.order;
        named = each_goes (IsNamed all me (history_now l))
            (IsNamed all me (history_at (is_live l.first.role) (is_live l.second.role) z l.second.at l.away))
            (λ t h. (alike_names variant meaning key barrier _ _ now t.content h.0, h.1)) notes.retired k.named;
        last = k.last;
        this_behind =
            let then_now = history_at (is_live l.first.role) (is_live l.second.role) z l.second.at l.away in
            behind_later l.first.role me.variant z (history_now l) then_now (went_alike (history_now l) then_now now)
            (behind_alike l.first.role me.variant l.first.at z (history_now l) alike k.this_behind);
        other_behind =
            let then_now = history_at (is_live l.first.role) (is_live l.second.role) z l.second.at l.away in
            behind_later l.second.role them.variant l.second.at (history_now l) then_now (went_alike (history_now l) then_now now)
            k.other_behind;
      }

  -- an event of a schedule, by the role of its side

  module _ (l : BothSides History History) (x : Twin) (notes : MoveNotes) where
    abbrev standing : Role → BothSides History History
    standing role = record l { first = record l.first { role = role } }

    live_goes : (event : Event) → Kept all others asked me them (standing Live) x notes
        → AllByRecursion (Contains others) (event_foreign_values event)
        → AllByRecursion (Contains asked) (batches_of event) → AreMessagesIn (plain_messages me Live (standing Live).first event) all
        → IsGenuineHere me (standing Live) (Plain event)
        → Goes all others asked me them notes (plain_outcome list_mover me (standing Live) event)
        (plain_outcome digest_mover me (twin (standing Live) x) event)
    live_goes event k outside batches listed genuine =
        let ol : Outcome History = event_outcome me (list_level me) l.first.at l.first.issued event in
        let od : Outcome Digests = event_outcome me (digest_level me) x.first l.first.issued event in
        let first = each_left (Contains all) (event_messages me l.first.issued event)
        (messages_of_moves me l.first.at (moves_of me l.first.at l.first.issued event)) listed in
        let then_moves = each_right (Contains all) (event_messages me l.first.issued event)
        (messages_of_moves me l.first.at (moves_of me l.first.at l.first.issued event)) listed in
        let s = events_agree variant meaning key barrier all others asked clear apart l.first.at x.first l.first.issued event k.this.keeps
        (record { outside = outside; batches = batches; listed = first; genuine = genuine; messages = then_moves }) in
        let n = events_keep_names variant meaning key barrier l.first.at l.first.issued event
        (sound_in variant meaning key barrier l.first.at k.this.keeps.within.sound) in
        record {
          at = record x { first = od.state };
          same = λ j. record {
            both = record {
              first = record { role = Live; at = od.state; issued = s.issued j };
              second = record { role = l.second.role; at = x.second; issued = l.second.issued };
              away = x.away;
              tickets = l.tickets;
              committed = l.committed + (s.keeps.agrees.count j - k.this.keeps.agrees.count j);
            };
            reply = Said (s.reply j);
            effect = None;
          };
          kept = record {
            this = record { keeps = s.keeps; shut = tt };
            other = k.other;
            left = k.left;
            order = k.order;
            named = each_goes (IsNamed all me l.first.at) (IsNamed all me ol.state) (λ t h.
                (n.names t.content h.0, h.1)) notes.retired k.named;
            last = λ gone left ticket is. not_dead gone;
            this_behind = tt;
            other_behind = behind_later l.second.role them.variant l.second.at l.first.at ol.state
                (went_event me l.first.at l.first.issued event) k.other_behind;
          };
        }

    vain_goes : (role : Role) (why : Refusal) (event : Event) → Kept all others asked me them (standing role) x notes
        → AllByRecursion (Contains others) (event_foreign_values event)
        → AreMessagesIn (messages_of_moves me l.first.at (vain_moves l.first.issued event)) all
        → (let ol : Outcome History = vain_event_outcome (list_level me) l.first.at l.first.issued why event in
        let od : Outcome Digests = vain_event_outcome (digest_level me) x.first l.first.issued why event in
        Goes all others asked me them notes (record {
          both = record (standing role) { first = record { role = role; at = ol.state; issued = ol.issued }; committed = l.committed + 0 };
          reply = Said ol.reply;
          effect = None;
        }) (record {
          both = record
              (twin (standing role) x) { first = record { role = role; at = od.state; issued = od.issued }; committed = l.committed + 0 };
          reply = Said od.reply;
          effect = None;
        }))
    vain_goes role why event k outside listed =
        let ol : Outcome History = vain_event_outcome (list_level me) l.first.at l.first.issued why event in
        let od : Outcome Digests = vain_event_outcome (digest_level me) x.first l.first.issued why event in
        let s = vain_same all others asked me
        (events_agree variant meaning key barrier) clear apart l.first.at x.first l.first.issued why event outside listed k.this.keeps in
        record {
          at = record x { first = od.state };
          same = λ j. record {
            both = record {
              first = record { role = role; at = od.state; issued = s.issued j };
              second = record { role = l.second.role; at = x.second; issued = l.second.issued };
              away = x.away;
              tickets = l.tickets;
              committed = l.committed + 0;
            };
            reply = Said (s.reply j);
            effect = None;
          };
          kept = brought_kept (standing role) x notes ol.state od.state k s.keeps (in_vain me l.first.at l.first.issued why event).alike;
        }

    pub plain_goes : (role : Role) (event : Event) → Kept all others asked me them (standing role) x notes
        → AllByRecursion (Contains others) (event_foreign_values event)
        → AllByRecursion (Contains asked) (batches_of event) → AreMessagesIn (plain_messages me role (standing role).first event) all
        → IsGenuineHere me (standing role) (Plain event)
        → Goes all others asked me them notes (plain_outcome list_mover me (standing role) event)
        (plain_outcome digest_mover me (twin (standing role) x) event)
    plain_goes Live event k outside batches listed genuine = live_goes event k outside batches listed genuine
    plain_goes role event k outside batches listed genuine = vain_goes role (refusal_for_role role) event k outside listed

  -- the history now is within the lists
  pub now_within : (l : BothSides History History) (x : Twin) (notes : MoveNotes) → Kept all others asked me them l x notes
      → IsWithin all others asked me (history_now l)
  now_within l x notes k = within_at (is_live l.first.role) (is_live l.second.role) k.this.keeps.within
      (within_other variant meaning key key' barrier all others asked l.second.at k.other.keeps.within) k.left.within
    where
      within_at : (a b : Bool) → IsWithin all others asked me l.first.at → IsWithin all others asked me l.second.at
          → IsWithin all others asked me l.away → IsWithin all others asked me (history_at a b l.first.at l.second.at l.away)
      within_at true b this other left = this
      within_at false true this other left = other
      within_at false false this other left = left
