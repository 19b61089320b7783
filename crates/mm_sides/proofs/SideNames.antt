-- What both sides issue names positions of where they stand, and of the one history. With it: a
-- side that the module left, and the history that goes on from where it left.
use Rattle.std.proofs.Common.{append_assoc}
use Rattle.mm_module.specs.Batch.{normal_batch}
use Rattle.mm_model.specs.Chains.{guard}
use Rattle.mm_model.specs.FormLaws.{first_sound}
use Rattle.mm_model.specs.History.{Close, Commit, history_after_commit, Placed, Reset, Value}
use Rattle.mm_model.specs.SegmentLaws.{has_value-append, joined-push, true_not_false}
use Rattle.mm_model.specs.Standing.{batches_in, IsMarred, IsSound}
use Rattle.mm_model.specs.Verdicts.{verdict_by_digests}
use Rattle.mm_model.proofs.Above.{shut_current}
use Rattle.mm_call.specs.CallOutcome.{CallOutcome, call_outcome}
use Rattle.mm_call.specs.Checkpoints.{CheckpointOutcome, checkpoint_outcome}
use Rattle.mm_outcome.specs.Premises.{moves_after_checkpoint, course_of, moves_after_call}
use Rattle.mm_outcome.proofs.Above.{in_any_way}
use Rattle.mm_sides.proofs.Below.{ℕ, ◌≡◌, Bool, true, false, List, [], ◌∷◌, refl, sym, ap, ◌∙◌, subst, AllByRecursion, Variant, Basic, Opt}
use Rattle.mm_sides.proofs.Below.{Meaning, Content, sealed_snapshot_of, Instance, History, RegisterEntry, items_of_all, first_history, Life}
use Rattle.mm_sides.proofs.Below.{LiveHistory, life_by, is_empty, are_own, has_value, life_of, NamesPosition, Refusal, list_level}
use Rattle.mm_sides.proofs.Below.{instance_by, sound_shut, Event, Outcome, event_outcome, vain_event_outcome, IsIssued, IsSoundIn, Role}
use Rattle.mm_sides.proofs.Below.{Live, MoveNotes, is_live, AreInOrder, BothSides, sides_swapped, list_mover, plain_outcome, history_at}
use Rattle.mm_sides.proofs.Below.{history_now, refusal_for_role, ◌++◌, inl, inr, append-nil, Batch, Move, history_after, state_after_moves}
use Rattle.mm_sides.proofs.Below.{Foreign, PowerMove, lives, total_of, nat_eq, requests_of, state_after, Digests, AreMessagesIn, IsClear}
use Rattle.mm_sides.proofs.Below.{place_messages, IsWithin, DigestsAgree, digest_level, is_offer_here, Retired, is_new, One, zero_bytes}
use Rattle.mm_sides.proofs.Below.{if◌then◌else◌}
use Rattle.mm_sides.proofs.InOrder.{not_dead, roles_swap}
use Rattle.mm_sides.proofs.OneRun.{turned_history, alike_at}
use Rattle.mm_sides.proofs.Outer.{in_vain, IsAlike, events_keep_names, same_batches, same_open}
use Rattle.mm_sides.proofs.Rests.{holding, names_cross, alike_names, IsAtEnd}
use Rattle.mm_sides.proofs.WentOn.{basic_went_on, counts_same, opt_went_on, Rests, WentOn}

-- names go along where a history is alike, and from one side to the other

each_issued : (i j : Instance) (y z : History) → i.key ≡ j.key → ((c : Content) → NamesPosition i y c → NamesPosition j z c)
    → (xs : List (List ℕ))
    → AllByRecursion (IsIssued i y) xs → AllByRecursion (IsIssued j z) xs
each_issued i j y z same go [] h = tt
each_issued i j y z same go (x ∷ xs) h = (
  record { content = h.0.content; sealed = h.0.sealed ∙ ap (λ k. sealed_snapshot_of k h.0.content) same; names = go h.0.content h.0.names },
  each_issued i j y z same go xs h.1,
)

same_variant : (variant : Variant) (meaning : Meaning) (key key' barrier : List ℕ)
    → (instance_by variant meaning key barrier).variant ≡ (instance_by variant meaning key' barrier).variant
same_variant Basic meaning key key' barrier = refl
same_variant Opt meaning key key' barrier = refl

pub alike_issued : (variant : Variant) (meaning : Meaning) (key barrier : List ℕ) (y z : History) → IsAlike y z → (xs : List (List ℕ))
    → (let i = instance_by variant meaning key barrier in AllByRecursion (IsIssued i y) xs → AllByRecursion (IsIssued i z) xs)
alike_issued variant meaning key barrier y z alike xs h =
    let i = instance_by variant meaning key barrier in each_issued i i y z refl (alike_names variant meaning key barrier y z alike) xs h

-- a history at rest is as sound, and goes on as well, with other items
pub sound_holding : (variant : Variant) (meaning : Meaning) (key barrier : List ℕ) (y : History) (items : List RegisterEntry)
    → y.is_open ≡ false
    → IsSoundIn (instance_by variant meaning key barrier).variant y
    → IsSoundIn (instance_by variant meaning key barrier).variant (holding y items)
sound_holding Basic meaning key barrier y items shut h = tt
sound_holding Opt meaning key barrier y items shut h = sound_shut y items shut h

life_at : Bool → History → List RegisterEntry → Life
life_at flag y items = life_by flag (is_empty items) (are_own items y.current) (has_value (items_of_all y.closed))

life_shut : (y : History) (items : List RegisterEntry) → y.is_open ≡ false → life_of Opt (holding y items) ≡ life_of Opt y
unfolding life_at
life_shut y items shut = ap (λ f. life_at f y items) shut ∙ ap (λ f. life_at f y y.items) (sym shut)

pub life_holding : (variant : Variant) (meaning : Meaning) (key barrier : List ℕ) (y : History) (items : List RegisterEntry)
    → y.is_open ≡ false
    → life_of (instance_by variant meaning key barrier).variant y ≡ LiveHistory
    → life_of (instance_by variant meaning key barrier).variant (holding y items) ≡ LiveHistory
life_holding Basic meaning key barrier y items shut h = refl
life_holding Opt meaning key barrier y items shut h = life_shut y items shut ∙ h

pub first_sound_in : (variant : Variant) (meaning : Meaning) (key barrier : List ℕ)
    → IsSoundIn (instance_by variant meaning key barrier).variant first_history
first_sound_in Basic meaning key barrier = tt
first_sound_in Opt meaning key barrier = first_sound

pub first_lives : (variant : Variant) (meaning : Meaning) (key barrier : List ℕ)
    → life_of (instance_by variant meaning key barrier).variant first_history ≡ LiveHistory
first_lives Basic meaning key barrier = refl
first_lives Opt meaning key barrier = refl

-- what holds of both sides at each moment

pub record IssuesAt (i j : Instance) (role role' : Role) (y z away now : History) (issued issued' : List (List ℕ))
    (notes : MoveNotes) : Type 0 where
  pub order : AreInOrder role role' notes
  pub sound : IsSoundIn i.variant now
  pub this_here : AllByRecursion (IsIssued i y) issued
  pub this_now : AllByRecursion (IsIssued i now) issued
  pub other_here : AllByRecursion (IsIssued j z) issued'
  pub other_now : AllByRecursion (IsIssued j now) issued'
  pub rests : is_live role ≡ false → is_live role' ≡ false → (away.is_open ≡ false) × (life_of i.variant away ≡ LiveHistory)

abbrev pub Issues : Instance → Instance → BothSides History History → MoveNotes → Type 0
Issues i j l notes =
    IssuesAt i j l.first.role l.second.role l.first.at l.second.at l.away (history_now l) l.first.issued l.second.issued notes

pub turned_issues : (variant : Variant) (meaning : Meaning) (key key' barrier : List ℕ) (l : BothSides History History) (notes : MoveNotes)
    → Issues (instance_by variant meaning key barrier) (instance_by variant meaning key' barrier) l notes
    → Issues (instance_by variant meaning key' barrier) (instance_by variant meaning key barrier) (sides_swapped l) notes
turned_issues variant meaning key key' barrier l notes k =
    let i = instance_by variant meaning key barrier in
    let j = instance_by variant meaning key' barrier in
    let same = sym (turned_history l notes k.order) in
    let v = same_variant variant meaning key key' barrier in
    record {
      order = roles_swap l.first.role l.second.role notes k.order;
      sound = subst (λ y. IsSoundIn j.variant y) same (subst (λ w. IsSoundIn w (history_now l)) v k.sound);
      this_here = k.other_here;
      this_now = subst (λ y. AllByRecursion (IsIssued j y) l.second.issued) same k.other_now;
      other_here = k.this_here;
      other_now = subst (λ y. AllByRecursion (IsIssued i y) l.first.issued) same k.this_now;
      rests = λ gone left. let r = k.rests left gone in (r.0, subst (λ w. life_of w l.away ≡ LiveHistory) v r.1);
    }

module _ (variant : Variant) (meaning : Meaning) (key key' barrier : List ℕ) where
  abbrev me : Instance
  me = instance_by variant meaning key barrier

  abbrev them : Instance
  them = instance_by variant meaning key' barrier

  -- where the module is now, once the first side stands elsewhere
  sound_at : (a b : Bool) (y z second away : History) → (a ≡ true → IsSoundIn me.variant y → IsSoundIn me.variant z)
      → IsSoundIn me.variant (history_at a b y second away) → IsSoundIn me.variant (history_at a b z second away)
  sound_at true b y z second away h s = h refl s
  sound_at false true y z second away h s = s
  sound_at false false y z second away h s = s

  -- the first side stands elsewhere, and issued no snapshot
  pub brought_issues : (l : BothSides History History) (notes : MoveNotes) (z : History) → Issues me them l notes → IsAlike l.first.at z
      → (is_live l.first.role ≡ true → IsSoundIn me.variant l.first.at → IsSoundIn me.variant z)
      → Issues me them (record l { first = record l.first { at = z } }) notes
  brought_issues l notes z k alike sound =
      let a = is_live l.first.role in
      let b = is_live l.second.role in
      let now = alike_at a b l.first.at z l.second.at l.away alike in
      record {
        order = k.order;
        sound = sound_at a b l.first.at z l.second.at l.away sound k.sound;
        this_here = alike_issued variant meaning key barrier _ _ alike l.first.issued k.this_here;
        this_now = alike_issued variant meaning key barrier _ _ now l.first.issued k.this_now;
        other_here = k.other_here;
        other_now = alike_issued variant meaning key' barrier _ _ now l.second.issued k.other_now;
        rests = k.rests;
      }

  -- an event of a schedule

  module _ (l : BothSides History History) (notes : MoveNotes) where
    abbrev standing : Role → BothSides History History
    standing role = record l { first = record l.first { role = role } }

    live_issues : (event : Event) → Issues me them (standing Live) notes
        → (let o : Outcome History = event_outcome me (list_level me) l.first.at l.first.issued event in
        Issues me them (record (standing Live) { first = record { role = Live; at = o.state; issued = o.issued } }) notes)
    live_issues event k =
        let o : Outcome History = event_outcome me (list_level me) l.first.at l.first.issued event in
        let n = events_keep_names variant meaning key barrier l.first.at l.first.issued event k.sound in
        record {
          order = k.order;
          sound = n.sound;
          this_here = n.issued k.this_here;
          this_now = n.issued k.this_here;
          other_here = k.other_here;
          other_now = each_issued them them l.first.at o.state refl
              (λ c n'. names_cross variant meaning key key' barrier o.state o.state.items c
              (n.names c (names_cross variant meaning key' key barrier l.first.at l.first.at.items c n'))) l.second.issued k.other_now;
          rests = λ gone left. not_dead gone;
        }

    vain_issues : (role : Role) (why : Refusal) (event : Event) → is_live role ≡ false
        → Issues me them (standing role) notes → (let o : Outcome History = vain_event_outcome
        (list_level me) l.first.at l.first.issued why event in
        Issues me them (record (standing role) { first = record { role = role; at = o.state; issued = o.issued } }) notes)
    vain_issues role why event dead k =
        let o : Outcome History = vain_event_outcome (list_level me) l.first.at l.first.issued why event in
        let v = in_vain me l.first.at l.first.issued why event in
        subst (λ xs. Issues me them (record (standing role) { first = record { role = role; at = o.state; issued = xs } }) notes)
        (sym v.issued_is) (brought_issues (standing role) notes o.state k v.alike (λ live. not_dead (sym live ∙ dead)))

    pub plain_issues : (role : Role) (event : Event) → Issues me them (standing role) notes
        → Issues me them (plain_outcome list_mover me (standing role) event).both notes
    plain_issues Live event k = live_issues event k
    plain_issues role event k = vain_issues role (refusal_for_role role) event refl k

-- A side that the module left, and the history that goes on from where it left.

-- going on

pub went_here : (y : History) → WentOn y y
went_here y = record { more = []; newer = []; batches = sym (append-nil y.batches); closed = sym (append-nil y.closed) }

pub went_further : (x y z : History) → WentOn x y → WentOn y z → WentOn x z
went_further x y z a b = record {
  more = a.more ++ b.more;
  newer = a.newer ++ b.newer;
  batches = b.batches ∙ ap (λ (l : List Batch). l ++ b.more) a.batches ∙ append_assoc x.batches a.more b.more;
  closed = b.closed ∙ ap (λ (l : List (List RegisterEntry)). l ++ b.newer) a.closed ∙ append_assoc x.closed a.newer b.newer;
}

went_items : (y : History) (items : List RegisterEntry) → WentOn y (holding y items)
went_items y items = record { more = []; newer = []; batches = sym (append-nil y.batches); closed = sym (append-nil y.closed) }

went_committed : (variant : Variant) (flag : Bool) (y : History) (b : Batch) → WentOn y (history_after_commit variant flag y b)
went_committed Basic flag y b = record { more = b ∷ []; newer = []; batches = refl; closed = sym (append-nil y.closed) }
went_committed Opt true y b = record { more = b ∷ []; newer = []; batches = refl; closed = sym (append-nil y.closed) }
went_committed Opt false y b = record { more = b ∷ []; newer = []; batches = refl; closed = sym (append-nil y.closed) }

went_moved : (i : Instance) (y : History) (m : Move) → WentOn y (history_after i y m)
went_moved i y (Commit b) = went_committed i.variant y.is_open y b
went_moved i y Close = record { more = []; newer = y.items ∷ []; batches = sym (append-nil y.batches); closed = refl }
went_moved i y (Foreign d) = went_items y (y.items ++ Value d ∷ [])
went_moved i y (Placed b) = went_items y (y.items ++ Value (guard i.barrier b) ∷ [])
went_moved i y Reset = went_items y []
went_moved i y PowerMove = went_items y []

went_moves : (i : Instance) (moves : List Move) (y : History) → WentOn y (state_after_moves (list_level i) y moves)
went_moves i [] y = went_here y
went_moves i (m ∷ moves) y =
    went_further y (history_after i y m) (state_after_moves (list_level i) (history_after i y m) moves) (went_moved i y m)
    (went_moves i moves (history_after i y m))

-- an event leads on
pub went_event : (i : Instance) (y : History) (issued : List (List ℕ)) (event : Event)
    → WentOn y (event_outcome i (list_level i) y issued event).state
went_event i y issued event = in_any_way i (list_level i) y issued (λ o. WentOn y o.state) (record {
  refused = λ why. went_here y;
  call = λ stop meddles bytes b short.
      let o : CallOutcome History = call_outcome i (list_level i) y (course_of stop meddles) bytes (normal_batch b) in
      let rest : List Move = moves_after_call stop o.ending in
      went_further y o.state (state_after_moves (list_level i) o.state rest) (went_moves i o.moves y) (went_moves i rest o.state);
  check = λ stop meddles.
      let o : CheckpointOutcome History = checkpoint_outcome i (list_level i) y (course_of stop meddles) in
      let rest : List Move = moves_after_checkpoint stop o.ending in
      went_further y o.state (state_after_moves (list_level i) o.state rest) (went_moves i o.moves y) (went_moves i rest o.state);
  power = went_moved i y PowerMove;
  extend = λ value. went_moved i y (Foreign value);
}) event

-- with other items
pub went_alike : (y z : History) → IsAlike y z → WentOn y z
went_alike y z alike = record {
  more = [];
  newer = [];
  batches = same_batches y z alike ∙ sym (append-nil y.batches);
  closed = ap (λ (w : History). w.closed) alike.is ∙ sym (append-nil y.closed);
}

pub alike_went : (y x z : History) → IsAlike y x → WentOn y z → WentOn x z
alike_went y x z alike w = record {
  more = w.more;
  newer = w.newer;
  batches = w.batches ∙ ap (λ (l : List Batch). l ++ w.more) (sym (same_batches y x alike));
  closed = w.closed ∙ ap (λ (l : List (List RegisterEntry)). l ++ w.newer) (sym (ap (λ (v : History). v.closed) alike.is));
}

alike_rests : (y z : History) → IsAlike y z → Rests y → Rests z
alike_rests y z alike r =
    let closed : z.closed ≡ y.closed = ap (λ (w : History). w.closed) alike.is in
    record {
      shut = same_open y z alike ∙ r.shut;
      clean = ap (λ (l : List (List RegisterEntry)). has_value (items_of_all l)) closed ∙ r.clean;
      batches = same_batches y z alike ∙ r.batches ∙ ap (λ (l : List (List RegisterEntry)). batches_in (items_of_all l)) (sym closed);
    }

-- in Opt a history at rest that goes on
abbrev pub RestsIn : Variant → History → Type 0
RestsIn Basic y = Unit {0}
RestsIn Opt y = Rests y

pub alike_rests_in : (variant : Variant) (y z : History) → IsAlike y z → RestsIn variant y → RestsIn variant z
alike_rests_in Basic y z alike r = tt
alike_rests_in Opt y z alike r = alike_rests y z alike r

marred_value : (y : History) → IsMarred y → has_value (items_of_all y.closed) ≡ true
marred_value y m = rw (m.split, joined-push m.before m.last, has_value-append (items_of_all m.before) m.last, m.clean) m.marred

opt_rests : (y : History) → IsSound y → life_of Opt y ≡ LiveHistory → y.is_open ≡ false → Rests y
opt_rests y sound live shut =
    let l = lives y live in
    let none = shut_current y sound shut in
    record {
      shut = shut;
      clean = l.clean;
      batches = elim sound.history [
        | inl c ↦ c.batches ∙ ap (λ (bs : List Batch). batches_in (items_of_all y.closed) ++ bs) none
            ∙ append-nil (batches_in (items_of_all y.closed))
        | inr m ↦ absurd (true_not_false (sym (marred_value y m) ∙ l.clean))
      ];
    }

pub rests_in : (variant : Variant) (meaning : Meaning) (key barrier : List ℕ) (y : History)
    → (let i = instance_by variant meaning key barrier in
    IsSoundIn i.variant y → life_of i.variant y ≡ LiveHistory → y.is_open ≡ false → RestsIn i.variant y)
rests_in Basic meaning key barrier y sound live shut = tt
rests_in Opt meaning key barrier y sound live shut = opt_rests y sound live shut

-- where the module left a side, its history went on from there
abbrev pub IsBehind : Role → Variant → (here now : History) → Type 0
IsBehind (Retired nonce) variant here now = WentOn here now × RestsIn variant here
IsBehind role variant here now = Unit {0}

pub behind_later : (role : Role) (variant : Variant) (y z w : History) → WentOn z w → IsBehind role variant y z → IsBehind role variant y w
behind_later (Retired nonce) variant y z w on b = (went_further y z w b.0 on, b.1)
behind_later role variant y z w on b = tt

pub behind_alike : (role : Role) (variant : Variant) (y x z : History) → IsAlike y x → IsBehind role variant y z → IsBehind role variant x z
behind_alike (Retired nonce) variant y x z alike b = (alike_went y x z alike b.0, alike_rests_in variant y x alike b.1)
behind_alike role variant y x z alike b = tt

-- An offer to such a side, of what names a position of the history.

-- at the last position it says what the side has there
pub end_behind : (i : Instance) (y z : History) (c : Content) → WentOn y z → NamesPosition i z c → nat_eq c.position (total_of y.batches)
    ≡ true
    → IsAtEnd i y c
end_behind i y z c w n last =
    let same : n.named ≡ y.batches =
    (counts_same y z n.named n.rest w n.first).0 (ap (λ p. nat_eq p (total_of y.batches)) (sym n.position) ∙ last) in
    record { position = n.position ∙ ap total_of same; state = n.state ∙ ap (λ b. state_after i.meaning (requests_of b)) same }

-- the history with what counts of its items is sound as well
sound_counted : (z : History) (flag : Bool) → z.is_open ≡ flag → IsSound z → IsSound (holding z (if flag then z.items else []))
sound_counted z true e sound = sound
sound_counted z false e sound = sound_shut z [] e sound

-- it stands by digests where it stands by lists
pub there_same : (variant : Variant) (meaning : Meaning) (key barrier : List ℕ) (all others : List (List ℕ)) (asked : List Batch)
    → (let i = instance_by variant meaning key barrier in
    IsClear all → (y z : History) (d : Digests) (c : Content) → WentOn y z → RestsIn i.variant y → IsWithin all others asked i z
    → DigestsAgree i y d → y.is_open ≡ false → AreMessagesIn (place_messages c.place) all → NamesPosition i z c
    → is_offer_here (digest_level i) d c ≡ is_offer_here (list_level i) y c)
there_same Basic meaning key barrier all others asked clear y z d c on rests w a shut listed names =
    ap (λ f. is_new (verdict_by_digests zero_bytes f d.digest d.register c.place (One []))) a.flag
    ∙ ap (λ x. is_new (verdict_by_digests zero_bytes false x d.register c.place (One []))) a.digest
    ∙ basic_went_on meaning key d.register y z c (One []) all on clear w.listed names
there_same Opt meaning key barrier all others asked clear y z d c on rests w a shut listed names =
    let items : List RegisterEntry = if z.is_open then z.items else [] in
    ap (λ f. is_new (verdict_by_digests barrier f d.digest d.register c.place (One []))) (a.flag ∙ shut)
    ∙ ap (λ x. is_new (verdict_by_digests barrier false x d.register c.place (One []))) a.digest
    ∙ opt_went_on meaning key barrier d.register y (holding z items) c (One []) all
    (record { more = on.more; newer = on.newer; batches = on.batches; closed = on.closed }) rests
    (sound_counted z z.is_open refl w.sound) clear w.listed listed (names_cross Opt meaning key key barrier z items c names)
