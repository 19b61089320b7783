-- Opt: what the moves of a walk are, and that what counts of them is what the register shows. A call inside a segment reads, and
-- goes on or is cut off; one with no segment open lets others extend the register, and then may reset it and go on.
use Rattle.mm_call.proofs.Below.{ℕ, ◌≡◌, Bool, true, false, List, [], ◌∷◌, ◌++◌, map, Some, refl, sym, ap, ◌∙◌, append_assoc, ◌⊎◌, inl, inr}
use Rattle.mm_call.proofs.Below.{append-nil, map-append, StepFault, Batch, Move, Commit, Foreign, Placed, Reset, DeviceStep, Reads, Changes}
use Rattle.mm_call.proofs.Below.{History, counted_moves, moves_from_reset, moves_from_reset-foreign, Writes, End, Done, Fails, StepFate}
use Rattle.mm_call.proofs.Below.{StepsWalk, walk_from_step, walk, finished_walk, steps_of_change, if◌then◌else◌, Opt, extended_message}
use Rattle.mm_call.proofs.Below.{Item, own_item, foreign_item, item_values, Meaning, digest_after, trail, guard, Instance, opt_instance}
use Rattle.mm_call.proofs.Below.{RegisterEntry, Own, Value, history_after, history_after_commit, register_value_of, entry_values}
use Rattle.mm_call.proofs.Below.{messages_for_move, move_messages, Digests, digests_after, digests_after_commit, trail-append}
use Rattle.mm_call.proofs.Below.{values_renamed, digest_level, finding_at, finding_unless_wanting, is_fresh, state_seen, items_after_moves}
use Rattle.mm_call.proofs.Below.{items_after_move, messages_of_moves, foreign_move_values, foreign_items, MovesAreTied, shows}
use Rattle.mm_call.proofs.Below.{OptMovesAreTied, shown-append, foreign_move_values-append, asks, each_self, entries_with_last_batch}
use Rattle.mm_call.proofs.Below.{history_with_values}
use Rattle.mm_model.specs.Chains.{register_of}
use Rattle.mm_call.specs.CallPremises.{nothing}
use Rattle.mm_call.proofs.OptHolding.{bare, bare_digests}
use Rattle.mm_call.proofs.OptWalks.{AreOwn, Each, ReadyFor, walk_each, own_changing}
use Rattle.mm_digest.specs.Messages.{extended_digest_of}
use Rattle.mm_model.specs.History.{extension_value}
use Rattle.mm_model.specs.SegmentLaws.{register_more}
use Rattle.mm_call.specs.TrailLaws.{foreign_made as brought_digests}

-- two reading steps, and the rest
abbrev pub two_reads : List (List ℕ) → End → List (List ℕ) → End → StepsWalk → StepsWalk
two_reads values ends later last rest = walk_from_step Reads values ends (walk_from_step Reads later last rest)

-- both steps are done; or the walk is cut off, whatever comes then
pub data Reading (values later : List (List ℕ)) (ends last : End) : Type 0 where
  past : ends ≡ Done → last ≡ Done → Reading values later ends last
  cut : (walked : StepsWalk) (brought : List (List ℕ)) (fault : StepFault)
      → ((rest : StepsWalk) → two_reads values ends later last rest ≡ walked)
      → walked.moves ≡ map Foreign brought → walked.broken ≡ Some fault → Reading values later ends last

pub reading : (values later : List (List ℕ)) (ends last : End) → Reading values later ends last
reading values later Done Done = past refl refl
reading values later Done (Fails fault made) =
    cut (two_reads values Done later (Fails fault made) finished_walk) (values ++ later) fault (λ rest. refl)
    (sym (map-append Foreign values later)) refl
reading values later (Fails fault made) last =
    cut (two_reads values (Fails fault made) later last finished_walk) values fault (λ rest. refl) refl refl

-- the steps that open a segment, behind the reset
abbrev pub opening : Batch → List DeviceStep
opening b = Changes (Placed b) ∷ Writes (Commit b) ∷ []

-- the moves of a call with no segment open: others' values alone; or a reset after them, and maybe those of an opening
pub data Shape (fates : ℕ → StepFate) (fresh : Bool) (b : Batch) (moves : List Move) : Type 0 where
  still : (values : List (List ℕ)) → moves ≡ map Foreign values → Shape fates fresh b moves
  reset : (values : List (List ℕ)) (rest : List Move) → moves ≡ map Foreign values ++ Reset ∷ rest
      → (rest ≡ []) ⊎ ((fresh ≡ true) × (rest ≡ (walk fates 4 (opening b)).moves)) → Shape fates fresh b moves

shape_reads : (fates : ℕ → StepFate) (fresh : Bool) (b : Batch) (values : List (List ℕ)) (ends : End) (rest : StepsWalk)
    → Shape fates fresh b rest.moves → Shape fates fresh b (walk_from_step Reads values ends rest).moves
shape_reads fates fresh b values Done rest (still more e) =
    still (values ++ more) (ap (λ m. map Foreign values ++ m) e ∙ sym (map-append Foreign values more))
shape_reads fates fresh b values Done rest (reset more later e k) =
    reset (values ++ more) later
    (ap (λ m. map Foreign values ++ m) e ∙ sym (append_assoc (map Foreign values) (map Foreign more) (Reset ∷ later))
    ∙ ap (λ m. m ++ Reset ∷ later) (sym (map-append Foreign values more))) k
shape_reads fates fresh b values (Fails fault made) rest s = still values refl

shape_reset : (fates : ℕ → StepFate) (b : Batch) (values : List (List ℕ)) (ends : End)
    → Shape fates true b (walk_from_step (Changes Reset) values ends (walk fates 4 (opening b))).moves
shape_reset fates b values Done =
    let rest : List Move = (walk fates 4 (opening b)).moves in
    reset values rest (append_assoc (map Foreign values) (Reset ∷ []) rest) (inr (refl, refl))
shape_reset fates b values (Fails fault true) = reset values [] refl (inl refl)
shape_reset fates b values (Fails fault false) = still values (append-nil (map Foreign values))

shape_changing : (fates : ℕ → StepFate) (fresh : Bool) (b : Batch)
    → Shape fates fresh b (walk fates 3 (steps_of_change false fresh b)).moves
shape_changing fates false b = still [] refl
shape_changing fates true b = shape_reset fates b (fates 3).brings (fates 3).ends

pub shape : (fates : ℕ → StepFate) (fresh : Bool) (b : Batch)
    → Shape fates fresh b (walk fates 1 (Reads ∷ Reads ∷ steps_of_change false fresh b)).moves
shape fates fresh b =
    shape_reads fates fresh b (fates 1).brings (fates 1).ends (walk fates 2 (Reads ∷ steps_of_change false fresh b))
    (shape_reads fates fresh b (fates 2).brings (fates 2).ends (walk fates 3 (steps_of_change false fresh b))
    (shape_changing fates fresh b))

-- the reading steps of a call bring others' values alone
pub record Brought (moves : List Move) : Type 0 where
  pub values : List (List ℕ)
  pub are : moves ≡ map Foreign values

pub reads_only : (values later : List (List ℕ)) (ends last : End) → Brought (two_reads values ends later last finished_walk).moves
reads_only values later Done Done = record {
  values = values ++ later;
  are = ap (λ (ms : List Move). map Foreign values ++ ms) (append-nil (map Foreign later)) ∙ sym (map-append Foreign values later);
}
reads_only values later Done (Fails fault made) = record { values = values ++ later; are = sym (map-append Foreign values later) }
reads_only values later (Fails fault made) last = record { values = values; are = refl }

-- nothing counts of them with no segment open
pub none_counted : (y : History) (values : List (List ℕ)) (moves : List Move) → y.is_open ≡ false → moves ≡ map Foreign values
    → counted_moves y.is_open moves ≡ []
none_counted y values moves e is =
    ap (λ (f : Bool). counted_moves f moves) e ∙ ap moves_from_reset (is ∙ sym (append-nil (map Foreign values)))
    ∙ moves_from_reset-foreign values []

pub foreign_of-append : (xs ys : List Item) → foreign_items (xs ++ ys) ≡ foreign_items xs ++ foreign_items ys
foreign_of-append [] ys = refl
foreign_of-append (x ∷ xs) ys =
    item_then x.own x.value (foreign_items xs) (foreign_items ys) (foreign_items (xs ++ ys)) (foreign_of-append xs ys) where
      item_then : (own : Bool) (v : List ℕ) (a b c : List (List ℕ)) → c ≡ a ++ b
          → (if own then c else v ∷ c) ≡ (if own then a else v ∷ a) ++ b
      item_then true v a b c e = e
      item_then false v a b c e = ap (λ w. v ∷ w) e

-- Moves push items into the register: they are shown behind what was there, and their messages are hashed one after another
-- from the register's value on.
record Pushed (i : Instance) (y : History) (d : Digests) (moves : List Move) : Type 0 where
  more : List Item
  messages : messages_of_moves i y moves ≡ trail extended_message (register_value_of i y) (item_values more)
  values : foreign_move_values moves ≡ foreign_items more
  shown_are : (items : List Item) → items_after_moves i d moves items ≡ items ++ more

-- the same of one move, and what is behind it
record PushesOne (i : Instance) (y : History) (d : Digests) (m : Move) : Type 0 where
  more : List Item
  messages : move_messages i y m ≡ trail extended_message (register_value_of i y) (item_values more)
  values : foreign_move_values (m ∷ []) ≡ foreign_items more
  shown_are : (items : List Item) → items_after_move i.variant d.flag i m items ≡ items ++ more
  register : register_value_of i (history_after i y m) ≡ digest_after extended_message (register_value_of i y) (item_values more)
  flag : (digests_after i d m).flag ≡ (history_after i y m).is_open

pushed_then : (i : Instance) (y : History) (d : Digests) (m : Move) (moves : List Move) → PushesOne i y d m
    → Pushed i (history_after i y m) (digests_after i d m) moves → Pushed i y d (m ∷ moves)
pushed_then i y d m moves p q =
    let r : List ℕ = register_value_of i y in
    record {
      more = p.more ++ q.more;
      messages = ap (λ v. v ++ messages_of_moves i (history_after i y m) moves) p.messages
          ∙ ap (λ v. trail extended_message r (item_values p.more) ++ v) (q.messages
          ∙ ap (λ s. trail extended_message s (item_values q.more)) p.register)
          ∙ sym (trail-append extended_message r (item_values p.more) (item_values q.more))
          ∙ ap (trail extended_message r) (sym (map-append (λ (item : Item). item.value) p.more q.more));
      values = foreign_move_values-append (m ∷ []) moves ∙ ap (λ v. v ++ foreign_move_values moves) p.values
          ∙ ap (λ v. foreign_items p.more ++ v) q.values
          ∙ sym (foreign_of-append p.more q.more);
      shown_are = λ items. q.shown_are (items_after_move i.variant d.flag i m items) ∙ ap (λ v. v ++ q.more) (p.shown_are items)
          ∙ append_assoc items p.more q.more;
    }

-- one more value in the register
register_then : (barrier : List ℕ) (items : List RegisterEntry) (e : RegisterEntry) → register_of (entry_values barrier (items ++ e ∷ []))
    ≡ digest_after extended_message (register_of (entry_values barrier items)) (extension_value barrier e ∷ [])
unfolding extended_digest_of
register_then = register_more

module _ (meaning : Meaning) (key barrier : List ℕ) where
  abbrev I : Instance
  I = opt_instance meaning key barrier

  pub foreign_messages : (y : History) (flag : Bool) (v : List ℕ) → messages_for_move Opt flag I y (Foreign v)
      ≡ extended_message (register_value_of I y) v ∷ []
  foreign_messages y flag v = refl

  -- The moves that push something, or rename it: a commit is one inside a segment, or behind its own extension.
  abbrev IsPushing : Bool → History → Move → Type 0
  IsPushing flag y (Foreign v) = Unit {0}
  IsPushing flag y (Placed b) = Unit {0}
  IsPushing true y (Commit b) = Unit {0}
  IsPushing false y (Commit b) = (front : List RegisterEntry) × (y.items ≡ front ++ Value (guard barrier b) ∷ [])
  IsPushing _ y _ = ⊥

  abbrev MayPush : History → Move → Type 0
  MayPush y m = IsPushing y.is_open y m

  pushed_one : (flag : Bool) (y : History) (d : Digests) (m : Move) → y.is_open ≡ flag → d.flag ≡ flag → IsPushing flag y m
      → PushesOne I y d m
  pushed_one flag y d (Foreign v) e f p = record {
    more = foreign_item v ∷ [];
    messages = refl;
    values = refl;
    shown_are = λ items. refl;
    register = register_then barrier y.items (Value v);
    flag = f ∙ sym e;
  }
  pushed_one flag y d (Placed b) e f p = record {
    more = own_item (guard barrier b) ∷ [];
    messages = refl;
    values = refl;
    shown_are = λ items. refl;
    register = register_then barrier y.items (Value (guard barrier b));
    flag = f ∙ sym e;
  }
  pushed_one true y d (Commit b) e f p = record {
    more = own_item (guard barrier b) ∷ [];
    messages = rw e refl;
    values = refl;
    shown_are = λ items. rw f refl;
    register = rw e (register_then barrier y.items (Own b));
    flag = rw (f, e) refl;
  }
  pushed_one false y d (Commit b) e f p =
      let lists : history_after I y (Commit b) ≡ history_after_commit Opt false y b = ap (λ g. history_after_commit Opt g y b) e in record {
        more = [];
        messages = ap (λ g. messages_for_move Opt g I y (Commit b)) e;
        values = refl;
        shown_are = λ items. ap (λ g. items_after_move Opt g I (Commit b) items) f ∙ sym (append-nil items);
        register = ap (register_value_of I) lists ∙ ap (λ v. register_of (entry_values barrier (entries_with_last_batch v b))) p.1
            ∙ ap register_of (values_renamed barrier p.0 b) ∙ ap (λ v. register_of (entry_values barrier v)) (sym p.1);
        flag = ap (λ g. (digests_after_commit Opt g I d b).flag) f ∙ ap (λ (x : History). x.is_open) (sym lists);
      }
  pushed_one _ y d _ e f p = absurd p

  pushed_each : (moves : List Move) (y : History) (d : Digests) → d.flag ≡ y.is_open → Each MayPush I y moves → Pushed I y d moves
  pushed_each [] y d e each = record { more = []; messages = refl; values = refl; shown_are = λ items. sym (append-nil items) }
  pushed_each (m ∷ moves) y d e each =
      let p = pushed_one y.is_open y d m refl e each.0 in
      pushed_then I y d m moves p (pushed_each moves (history_after I y m) (digests_after I d m) p.flag each.1)

  -- a walk whose steps push
  walk_pushed : (fates : ℕ → StepFate) (n : ℕ) (steps : List DeviceStep) (y : History) (d : Digests) → d.flag ≡ y.is_open → AreOwn steps
      → ReadyFor MayPush (foreign_move_values (walk fates n steps).moves) I fates n steps y → Pushed I y d (walk fates n steps).moves
  walk_pushed fates n steps y d e own ready =
      let moves : List Move = (walk fates n steps).moves in
      pushed_each moves y d e
      (walk_each MayPush (foreign_move_values moves) I (λ x v c. tt) fates steps n y own (each_self [] (foreign_move_values moves)) ready)

  -- behind two reading steps inside a segment, and behind a reset with none open
  inside_ready : (others : List (List ℕ)) (fates : ℕ → StepFate) (fresh : Bool) (b : Batch) (y : History) → y.is_open ≡ true
      → ReadyFor MayPush others I fates 3 (steps_of_change true fresh b) y
  inside_ready others fates true b y e = λ o. (rw e tt, tt)
  inside_ready others fates false b y e = tt

  opening_ready : (others : List (List ℕ)) (fates : ℕ → StepFate) (b : Batch) (y : History) → y.is_open ≡ false
      → ReadyFor MayPush others I fates 4 (opening b) y
  opening_ready others fates b y e =
      λ o. (tt, λ p. (rw e ((history_with_values y (fates 4).brings).items, refl), tt))

  -- what counts of a history
  abbrev part : Bool → History → History
  part g y = record y { items = if g then y.items else [] }

  inside_tied : (y : History) (d : Digests) (moves : List Move) → y.is_open ≡ true → Pushed I y d moves → MovesAreTied I y d moves
  inside_tied y d moves e p =
      shows p.more (record {
        messages = ap (λ g. messages_of_moves I (part g y) (counted_moves g moves)) e ∙ p.messages
            ∙ ap (λ g. trail extended_message (register_value_of I (part g y)) (item_values p.more)) (sym e);
        values = rw e p.values;
      }) (λ items. rw e (p.shown_are items))

  reset_tied : (y : History) (d : Digests) (values : List (List ℕ)) (rest : List Move) → y.is_open ≡ false
      → Pushed I (bare y) (bare_digests d) rest → MovesAreTied I y d (map Foreign values ++ Reset ∷ rest)
  reset_tied y d values rest e p =
      let moves : List Move = map Foreign values ++ Reset ∷ rest in
      let begins : moves_from_reset moves ≡ Reset ∷ rest = moves_from_reset-foreign values (Reset ∷ rest) in
      shows p.more
      (record {
        messages = ap (λ g. messages_of_moves I (part g y) (counted_moves g moves)) e ∙ ap (messages_of_moves I (bare y)) begins
            ∙ p.messages ∙ ap (λ g. trail extended_message (register_value_of I (part g y)) (item_values p.more)) (sym e);
        values = rw e (ap foreign_move_values begins ∙ p.values);
      }) (λ items. rw e (shown-append I d (map Foreign values) (Reset ∷ rest) items
      ∙ ap (λ (x : Digests). items_after_moves I (bare_digests x) rest []) (ap bare_digests (brought_digests I d values)) ∙ p.shown_are []))

  shut_tied : (y : History) (d : Digests) (fates : ℕ → StepFate) (fresh : Bool) (b : Batch) (moves : List Move) → d.flag ≡ false
      → y.is_open ≡ false → Shape fates fresh b moves → MovesAreTied I y d moves
  shut_tied y d fates fresh b moves f e (still values is) = nothing (none_counted y values moves e is)
  shut_tied y d fates fresh b moves f e (reset values rest is k) =
      let p : Pushed I (bare y) (bare_digests d) rest = elim k [
        | inl none ↦ rw none (pushed_each [] (bare y) (bare_digests d) (f ∙ sym e) tt)
        | inr more ↦ rw more.1 (walk_pushed fates 4 (opening b) (bare y) (bare_digests d)
            (f ∙ sym e) (refl, (refl, tt)) (opening_ready _ fates b (bare y) e))
      ] in
      rw is (reset_tied y d values rest e p)

  tied_by : (flag : Bool) (y : History) (d : Digests) (fates : ℕ → StepFate) (fresh : Bool) (b : Batch) → y.is_open ≡ flag → d.flag ≡ flag
      → MovesAreTied I y d (walk fates 1 (Reads ∷ Reads ∷ steps_of_change flag fresh b)).moves
  tied_by true y d fates fresh b e f =
      inside_tied y d _ e (walk_pushed fates 1 (Reads ∷ Reads ∷ steps_of_change true fresh b) y d (f ∙ sym e) (own_changing true fresh b)
      (λ o p. inside_ready _ fates fresh b (history_with_values (history_with_values y (fates 1).brings) (fates 2).brings) e))
  tied_by false y d fates fresh b e f = shut_tied y d fates fresh b _ f e (shape fates fresh b)

pub opt_tied : OptMovesAreTied
opt_tied meaning key barrier y d c offer b f =
    let i = opt_instance meaning key barrier in
    let fresh : Bool = is_fresh (finding_unless_wanting (finding_at i (digest_level i) (state_seen i (digest_level i) d c) b offer)
    c.lacks) in
    rw (asks d.flag fresh b ∙ ap (λ g. Reads ∷ Reads ∷ steps_of_change g fresh b) f)
    (tied_by meaning key barrier y.is_open y d c.fates fresh b refl f)
