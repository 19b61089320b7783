-- Opt: the moves of a checkpoint, the messages by which it closes the segment, and what it leaves and says.
use Rattle.mm_callers.proofs.Below.{◌≡◌, ℕ, Bool, true, false, List, [], ◌∷◌, ◌++◌, map, Option, None, Some, Ok, refl, sym, ap, ◌∙◌, subst}
use Rattle.mm_callers.proofs.Below.{append_assoc, Err, Contains, append-nil, map-append, Opt, extended_message, anchored_message, StepFault}
use Rattle.mm_callers.proofs.Below.{Item, foreign_item, item_values, digest_after, Instance, RegisterEntry, Value, History, Move, Foreign}
use Rattle.mm_callers.proofs.Below.{Close, register_value_of, cell_digest_of, entry_values, AreMessagesIn, digests_after, Reads, DeviceStep}
use Rattle.mm_callers.proofs.Below.{Writes, checkpoint_steps, after-append, End, Done, Fails, StepFate, StepsWalk, walk_from_step, walk}
use Rattle.mm_callers.proofs.Below.{checkpoint_ending, counted_part, foreign_items, finished_walk, Said, checkpoint_result, MayClose}
use Rattle.mm_callers.proofs.Below.{SaysClosing, life_of, is_lost, CheckpointRefusal, Result, AllByRecursion, Standing, trail}
use Rattle.mm_callers.proofs.Below.{history_after, IsClear, Digests, IsAllowed, digests_of, has_close, checkpoint_outcome, IsClosedWithin}
use Rattle.mm_callers.proofs.Below.{messages_of_moves, foreign_move_values, IsWithin, standing_items, IsCheckpointOnCourse, option_map}
use Rattle.mm_callers.proofs.Below.{Meaning, Batch, Content, opt_instance, is_empty, NamesPosition, StandsFor, opt_names, list_level}
use Rattle.mm_callers.proofs.Below.{digest_level, state_after_moves, state_seen, items_after_moves, AreShown, stands_at, StandsAt}
use Rattle.mm_callers.proofs.Below.{same_batches}
use Rattle.mm_model.specs.Chains.{register_of}
use Rattle.mm_model.specs.SegmentLaws.{values_of-append}
use Rattle.mm_model.specs.ListLaws.{each_right}
use Rattle.mm_model.specs.Standing.{IsSound}
use Rattle.mm_model.proofs.Above.{sound_moved}
use Rattle.mm_call.specs.WalkLaws.{checkpoint_none, closed_kept}
use Rattle.mm_call.specs.CallPremises.{moves_from_reset}
use Rattle.mm_call.specs.Checkpoints.{checkpoint_ending_by}
use Rattle.mm_call.specs.OfferLaws.{shown_same}
use Rattle.mm_call.specs.TrailLaws.{foreign_values}
use Rattle.mm_call.proofs.Above.{AllMay, path_is, sight_is}
use Rattle.mm_opt.specs.declared.segment.CheckpointRefusal.TheVariants as refusal

-- The moves of a checkpoint: others' values, and at most one closing among them, where a segment is open.
abbrev pub AreClosing : List Move → Bool → Type 0
AreClosing [] may = Unit {0}
AreClosing (Foreign v ∷ moves) may = AreClosing moves may
AreClosing (Close ∷ moves) true = AreClosing moves false
AreClosing _ _ = ⊥

closing_then : (values : List (List ℕ)) (moves : List Move) (may : Bool) → AreClosing moves may
    → AreClosing (map Foreign values ++ moves) may
closing_then [] moves may c = c
closing_then (v ∷ values) moves may c = closing_then values moves may c

pub closing_foreign : (values : List (List ℕ)) (may : Bool) → AreClosing (map Foreign values) may
closing_foreign [] may = tt
closing_foreign (v ∷ values) may = closing_foreign values may

closing_read : (values : List (List ℕ)) (ends : End) (rest : StepsWalk) (may : Bool) → AreClosing rest.moves may
    → AreClosing (walk_from_step Reads values ends rest).moves may
closing_read values Done rest may c = closing_then values rest.moves may c
closing_read values (Fails fault made) rest may c = closing_foreign values may

closing_write : (values : List (List ℕ)) (ends : End) → AreClosing (walk_from_step (Writes Close) values ends finished_walk).moves true
closing_write values Done = closing_then values [] false tt
closing_write values (Fails fault true) = closing_foreign values false
closing_write values (Fails fault false) = closing_foreign values true

closing_walk : (fates : ℕ → StepFate) (flag lost : Bool) → AreClosing (walk fates 1 (checkpoint_steps Opt flag lost)).moves flag
closing_walk fates false lost = closing_read (fates 1).brings (fates 1).ends finished_walk false tt
closing_walk fates true true =
    closing_read (fates 1).brings (fates 1).ends (walk fates 2 (Reads ∷ [])) true
    (closing_read (fates 2).brings (fates 2).ends finished_walk true tt)
closing_walk fates true false =
    closing_read (fates 1).brings (fates 1).ends (walk fates 2 (Reads ∷ Writes Close ∷ [])) true
    (closing_read (fates 2).brings (fates 2).ends (walk fates 3 (Writes Close ∷ [])) true
    (closing_write (fates 3).brings (fates 3).ends))

none_reset : (moves : List Move) → AreClosing moves false → moves_from_reset moves ≡ []
none_reset [] c = refl
none_reset (Foreign v ∷ moves) c = none_reset moves c
none_reset (_ ∷ moves) c = absurd c

none_closed : (moves : List Move) → AreClosing moves false → has_close moves ≡ false
none_closed [] c = refl
none_closed (Foreign v ∷ moves) c = none_closed moves c
none_closed (_ ∷ moves) c = absurd c

-- what a refused checkpoint says; and one that says what it did wasn't broken off, nor did it find that power was lost
says_closing : (broken : Option StepFault) (closed flag lost : Bool) (why : CheckpointRefusal) (after : History)
    → Err why ≡ checkpoint_result (checkpoint_ending_by broken closed (checkpoint_ending Opt flag lost))
    → (broken ≡ None → flag ≡ true → lost ≡ true → is_lost (life_of Opt after) ≡ true) → SaysClosing why after
says_closing (Some fault) closed flag lost why after e there =
    let is : refusal.Device fault ≡ why = cc in subst (λ (w : CheckpointRefusal). SaysClosing w after) is tt
says_closing None closed true true why after e there =
    let is : refusal.Lost ≡ why = cc in subst (λ (w : CheckpointRefusal). SaysClosing w after) is (there refl refl refl)
says_closing None closed _ _ why after e there = absurd (cc)

said_whole : (broken : Option StepFault) (closed flag lost : Bool) (said : Said)
    → Ok said ≡ checkpoint_result (checkpoint_ending_by broken closed (checkpoint_ending Opt flag lost))
    → (broken ≡ None) × (flag ≡ true → lost ≡ false)
said_whole None closed true false said e = (refl, λ _. refl)
said_whole None closed false lost said e = (refl, λ (f : false ≡ true). absurd (cc))
said_whole _ closed flag lost said e = absurd (cc)

foreign_of-items : (values : List (List ℕ)) → foreign_items (map foreign_item values) ≡ values
foreign_of-items [] = refl
foreign_of-items (v ∷ values) = ap (λ (vs : List (List ℕ)). v ∷ vs) (foreign_of-items values)

register-push : (barrier : List ℕ) (items : List RegisterEntry) (v : List ℕ)
    → register_of (entry_values barrier (items ++ Value v ∷ []))
    ≡ digest_after extended_message (register_of (entry_values barrier items)) (v ∷ [])
unfolding register_of
register-push barrier items v =
    ap (digest_after extended_message _) (values_of-append barrier items (Value v ∷ []))
    ∙ after-append extended_message _ (entry_values barrier items) (v ∷ [])

-- what is asked for a closing at any of the items, for those in front and those behind
pub may_close_front : (all : List (List ℕ)) (i : Instance) (y : History) (more later : List Item) → MayClose all i y (more ++ later)
    → MayClose all i y more
may_close_front all i y more later w first rest e =
    w first (rest ++ item_values later) (sym (append_assoc first rest (item_values later))
    ∙ ap (λ (vs : List (List ℕ)). vs ++ item_values later) e ∙ sym (map-append (λ (item : Item). item.value) more later))

pub may_close_back : (all : List (List ℕ)) (i : Instance) (y z : History) (front later : List Item) → z.closed ≡ y.closed
    → register_value_of i (counted_part z) ≡ digest_after extended_message (register_value_of i (counted_part y)) (item_values front)
    → MayClose all i y (front ++ later) → MayClose all i z later
may_close_back all i y z front later closed register w first rest e =
    let r : List ℕ = register_value_of i (counted_part y) in
    let message : List (List RegisterEntry) → List ℕ → List ℕ =
    λ c s. anchored_message (cell_digest_of i Opt (record y { closed = c })) s in
    subst (Contains all) (ap (message y.closed) (after-append extended_message r (item_values front) first
    ∙ ap (λ (s : List ℕ). digest_after extended_message s first) (sym register))
    ∙ ap (λ (c : List (List RegisterEntry)). message c (digest_after extended_message (register_value_of i (counted_part z)) first))
    (sym closed))
    (w (item_values front ++ first) rest (append_assoc (item_values front) first rest
    ∙ ap (λ (vs : List (List ℕ)). item_values front ++ vs) e ∙ sym (map-append (λ (item : Item). item.value) front later)))

module _ (meaning : Meaning) (key barrier : List ℕ) where
  abbrev I : Instance
  I = opt_instance meaning key barrier

  -- they leave the items in front
  pub closing_shown : (moves : List Move) (may : Bool) (d : Digests) (items : List Item) → AreClosing moves may
      → items_after_moves I d moves items ≡ items ++ map foreign_item (foreign_move_values moves)
  closing_shown [] may d items c = sym (append-nil items)
  closing_shown (Foreign v ∷ moves) may d items c =
      closing_shown moves may (digests_after I d (Foreign v)) (items ++ foreign_item v ∷ []) c
      ∙ append_assoc items (foreign_item v ∷ []) (map foreign_item (foreign_move_values moves))
  closing_shown (Close ∷ moves) true d items c = closing_shown moves false (digests_after I d Close) items c
  closing_shown (_ ∷ moves) _ d items c = absurd c

  -- their messages, by those of the values, and those by which the segment may be closed at any of these
  abbrev MayCloseAt : List (List ℕ) → List ℕ → List ℕ → List (List ℕ) → Type 0
  MayCloseAt all anchor register values =
      (first later : List (List ℕ)) → first ++ later ≡ values
      → Contains all (anchored_message anchor (digest_after extended_message register first))

  closing_within : (all : List (List ℕ)) (moves : List Move) (may : Bool) (y : History) → AreClosing moves may
      → AreMessagesIn (trail extended_message (register_value_of I y) (foreign_move_values moves)) all
      → (may ≡ true → MayCloseAt all (cell_digest_of I Opt y) (register_value_of I y) (foreign_move_values moves))
      → AreMessagesIn (messages_of_moves I y moves) all
  closing_within all [] may y c t w = tt
  closing_within all (Foreign v ∷ moves) may y c t w =
      let push = sym (register-push barrier y.items v) in (
        t.0,
        closing_within all moves may (history_after I y (Foreign v)) c
            (subst (λ (r : List ℕ). AreMessagesIn (trail extended_message r (foreign_move_values moves)) all) push t.1)
            (λ e. subst (λ (r : List ℕ). MayCloseAt all (cell_digest_of I Opt y) r (foreign_move_values moves)) push
            (λ first later s. w e (v ∷ first) later (ap (λ (vs : List (List ℕ)). v ∷ vs) s))),
      )
  closing_within all (Close ∷ moves) true y c t w = (
    w refl [] (foreign_move_values moves) refl,
    closing_within all moves false (history_after I y Close) c t
        (λ (e : false ≡ true). absurd (cc)),
  )
  closing_within all (_ ∷ moves) _ y c t w = absurd c

  -- they may be made, where at the end no closed segment is empty
  abbrev AreFilled : List (List RegisterEntry) → Type 0
  AreFilled segments = AllByRecursion (λ (segment : List RegisterEntry). is_empty segment ≡ false) segments

  closing_may : (moves : List Move) (may : Bool) (y : History) → AreClosing moves may → (may ≡ true → y.is_open ≡ true)
      → AreFilled (state_after_moves (list_level I) y moves).closed → AllMay I y moves
  closing_may [] may y c e filled = tt
  closing_may (Foreign v ∷ moves) may y c e filled = (tt, closing_may moves may (history_after I y (Foreign v)) c e filled)
  closing_may (Close ∷ moves) true y c e filled = (
    subst (λ (f : Bool). IsAllowed Opt f I y Close) (sym (e refl)) (each_right _ y.closed (y.items ∷ [])
        (subst AreFilled (closed_kept I moves (history_after I y Close) (none_closed moves c)) filled)).0,
    closing_may moves false (history_after I y Close) c (λ (f : false ≡ true). absurd (cc)) filled,
  )
  closing_may (_ ∷ moves) _ y c e filled = absurd c

  -- what is named stays named by moves that may be made
  names_may : (moves : List Move) (y : History) (content : Content) → IsSound y → AllMay I y moves → NamesPosition I y content
      → NamesPosition I (state_after_moves (list_level I) y moves) content
  names_may [] y content sound may n = n
  names_may (m ∷ moves) y content sound may n =
      names_may moves (history_after I y m) content (sound_moved meaning key barrier y m sound may.0) may.1
      (opt_names meaning key barrier y m content sound may.0 n)

  -- a checkpoint that says what it did leaves no segment open; one that found that power was lost stands where it saw that
  shut_then : (fates : ℕ → StepFate) (flag lost : Bool) (y : History) → y.is_open ≡ flag
      → (walk fates 1 (checkpoint_steps Opt flag lost)).broken ≡ None → (flag ≡ true → lost ≡ false)
      → (state_after_moves (list_level I) y (walk fates 1 (checkpoint_steps Opt flag lost)).moves).is_open ≡ false
  shut_then fates false lost y e whole there = ap (λ (x : History). x.is_open) (path_is I fates (Reads ∷ []) 1 y whole) ∙ e
  shut_then fates true false y e whole there =
      ap (λ (x : History). x.is_open) (path_is I fates (Reads ∷ Reads ∷ Writes Close ∷ []) 1 y whole)
  shut_then fates true true y e whole there = let clash : true ≡ false = there refl in absurd (cc)

  -- What a checkpoint leaves: no segment is open, where it says what it did; and all else that matters to a call is as it was.
  pub record Checked (all others : List (List ℕ)) (asked : List Batch) (y : History) (new : Standing)
      (result : Result Said CheckpointRefusal) : Type 0 where
    pub after : History
    pub stands : StandsFor I new after
    pub within : IsWithin all others asked I after
    pub batches : after.batches ≡ y.batches
    pub names : (content : Content) → NamesPosition I y content → NamesPosition I after content
    pub is_shut : (said : Said) → result ≡ Ok said → after.is_open ≡ false
    pub says : (why : CheckpointRefusal) → result ≡ Err why → SaysClosing why after

  -- it leaves the items in front, whatever it says
  pub check_goes_on : {old new : Standing} {result : Result Said CheckpointRefusal} → IsCheckpointOnCourse old new result → (d : Digests)
      → StandsAt I old d → (items : List Item) → old.items ≡ Some items → (more : List Item) × (new.items ≡ Some (items ++ more))
  check_goes_on k d s items known =
      let g = k.goes Opt meaning key barrier d s in
      let moves : List Move = (checkpoint_outcome I (digest_level I) d k.course).moves in (
        map foreign_item (foreign_move_values moves),
        g.items ∙ ap (option_map (items_after_moves I d moves)) known
            ∙ ap (λ (xs : List Item). Some xs) (closing_shown moves d.flag d items (closing_walk k.course.fates d.flag _)),
      )

module _ (meaning : Meaning) (key barrier : List ℕ) (all others : List (List ℕ)) (asked : List Batch) where
  abbrev C : Instance
  C = opt_instance meaning key barrier

  -- what is asked of a checkpoint, by what is asked of the items
  closing_asked : (flag : Bool) (z : History) (moves : List Move) (more : List Item) → AreClosing moves flag → IsClear all
      → (let y : History = record z { is_open = flag } in
      IsWithin all others asked C y → (flag ≡ true → map foreign_item (foreign_move_values moves) ≡ more)
      → (flag ≡ true → AreShown all others C y more × MayClose all C y more) → IsClosedWithin all others asked C y moves)
  closing_asked true z moves more c clear within same asks =
      let y : History = record z { is_open = true } in
      let values_are : item_values more ≡ foreign_move_values moves = ap item_values (sym (same refl))
      ∙ foreign_values (foreign_move_values moves) in
      let a = asks refl in
      record {
        clear = clear;
        within = within;
        messages = closing_within meaning key barrier all moves true y c
            (subst (λ (vs : List (List ℕ)). AreMessagesIn (trail extended_message (register_value_of C y) vs) all) values_are a.0.messages)
            (λ _ first later s. a.1 first later (s ∙ sym values_are));
        values = subst (AllByRecursion (Contains others)) (ap foreign_items (sym (same refl)) ∙ foreign_of-items
            (foreign_move_values moves))
            a.0.values;
      }
  closing_asked false z moves more c clear within same asks =
      let none = none_reset moves c in
      record { clear = clear; within = within; messages = rw none tt; values = rw none tt }

  pub check_leaves : {old new : Standing} {result : Result Said CheckpointRefusal} (y : History) (items more : List Item)
      → IsCheckpointOnCourse old new result → StandsFor C old y → old.items ≡ Some items
      → new.items ≡ Some (standing_items y.is_open items ++ more)
      → IsClear all → IsWithin all others asked C y → (y.is_open ≡ true → AreShown all others C y more × MayClose all C y more)
      → Checked meaning key barrier all others asked y new result
  check_leaves {old = old} {new = new} y items more k s known ends clear within asks =
      let d : Digests = digests_of C y in
      let fates : ℕ → StepFate = k.course.fates in
      let moves : List Move = (checkpoint_outcome C (digest_level C) d k.course).moves in
      let c : AreClosing moves y.is_open = closing_walk fates y.is_open _ in
      let more_is = λ (e : y.is_open ≡ true). shown_same old.items (items_after_moves C d moves) items (standing_items y.is_open items) more
      (map foreign_item (foreign_move_values moves)) known (closing_shown meaning key barrier moves y.is_open d items c
      ∙ ap (λ (f : Bool). standing_items f items ++ map foreign_item (foreign_move_values moves)) (sym e))
      (sym (k.goes Opt meaning key barrier d (stands_at C old y s)).items ∙ ends) in
      let f = k.continues Opt meaning key barrier y all others asked s
      (closing_asked y.is_open y moves more c clear within more_is asks) in
      let lost : Bool = (list_level C).is_lost (state_seen C (list_level C) y k.course) in
      let w : StepsWalk = walk fates 1 (checkpoint_steps Opt y.is_open lost) in
      let end : History = state_after_moves (list_level C) y w.moves in
      let there = λ (whole : w.broken ≡ None) (e : y.is_open ≡ true) (l : lost ≡ true).
      let steps : checkpoint_steps Opt y.is_open lost ≡ Reads ∷ Reads ∷ [] = λ j. checkpoint_steps Opt (e j) (l j) in
      ap (λ (st : List DeviceStep). is_lost (life_of Opt (state_after_moves (list_level C) y (walk fates 1 st).moves))) steps
      ∙ ap (λ (x : History). is_lost (life_of Opt x))
      (path_is C fates (Reads ∷ Reads ∷ []) 1 y (ap (λ (st : List DeviceStep). (walk fates 1 st).broken) (sym steps) ∙ whole)
      ∙ sym (sight_is C y k.course)) ∙ l in
      record {
        after = end;
        stands = f.stands;
        within = f.within;
        batches = same_batches C w.moves y (checkpoint_none Opt y.is_open lost fates);
        names = λ content n. names_may meaning key barrier w.moves y content within.sound
            (closing_may meaning key barrier w.moves y.is_open y (closing_walk fates y.is_open lost) (λ e. e) f.within.sound.filled) n;
        is_shut = λ said e.
            let t = said_whole w.broken (has_close w.moves) y.is_open lost said (sym e ∙ f.gives) in
            shut_then meaning key barrier fates y.is_open lost y refl t.0 t.1;
        says = λ why e. says_closing w.broken (has_close w.moves) y.is_open lost why end (sym e ∙ f.gives) there;
      }
