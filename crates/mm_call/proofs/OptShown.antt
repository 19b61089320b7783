-- Opt: what the register shows of a call, and what is asked of it.
use Rattle.mm_call.proofs.Below.{◌≡◌, ℕ, Bool, true, false, List, [], ◌∷◌, ◌++◌, map, Option, Some, refl, sym, ap, ◌∙◌, subst}
use Rattle.mm_call.proofs.Below.{if◌then◌else◌, AllByRecursion, Contains, option_map, map-append, Opt, extended_message, Item, Standing}
use Rattle.mm_call.proofs.Below.{item_values, Meaning, Batch, digest_after, trail, Instance, opt_instance, Value, History, Move, Commit}
use Rattle.mm_call.proofs.Below.{Foreign, Reset, Close, first_history, register_value_of, entry_values, AreMessagesIn, Digests}
use Rattle.mm_call.proofs.Below.{digests_after, digests_after_commit, digests_of, StandsFor, trail-append, register_folds, reads_zero}
use Rattle.mm_call.proofs.Below.{each_left, each_right, digest_level, state_after_moves, StepFate, Course, has_close, call_outcome, cell_at}
use Rattle.mm_call.proofs.Below.{StandsAt, items_after_moves, moves_from_reset, counted_part, counted_moves, AreShown, foreign_items}
use Rattle.mm_call.proofs.Below.{standing_items, MovesAreTied, shows, committed_batches, MovesCount, history_with_values, committed-foreign}
use Rattle.mm_call.proofs.Below.{moves_from_reset-foreign, zero_bytes, after-append, counts_open}
use Rattle.mm_model.specs.Chains.{register_of}
use Rattle.mm_seal.specs.Cell.{IsCell, cell_spelling}
use Rattle.mm_call.specs.CallPremises.{nothing}
use Rattle.mm_call.proofs.OptShapes.{Shape, still, reset, opt_tied, foreign_of-append}
use Rattle.mm_call.proofs.OptHolding.{bare, bare_digests, counted_open, counted_shut}
use Rattle.mm_platform.specs.Standing as platform

-- From a set flag the register shows a call's values and extensions behind all that it had shown.
pub record Pushes (i : Instance) (d : Digests) (moves : List Move) : Type 0 where
  pub more : List Item
  pub are : (items : List Item) → items_after_moves i d moves items ≡ items ++ more

abbrev some_open : History
some_open = record first_history { is_open = true }

-- a commit with no segment open comes behind a reset
resets : (fates : ℕ → StepFate) (fresh : Bool) (b : Batch) (moves : List Move) → Shape fates fresh b moves → committed_batches moves ≡ b
    ∷ []
    → moves_from_reset moves ≡ [] → ⊥
resets fates fresh b moves (still values is) c empty =
    let one : committed_batches (map Foreign values) ≡ b ∷ [] = ap committed_batches (sym is) ∙ c in
    let same : [] ≡ b ∷ [] = sym (committed-foreign values) ∙ one in
    absurd (cc)
resets fates fresh b moves (reset values rest is k) c empty =
    let same : Reset ∷ rest ≡ [] = sym (moves_from_reset-foreign values (Reset ∷ rest)) ∙ ap moves_from_reset (sym is) ∙ empty in
    absurd (cc)

pub counts_opening : (i : Instance) (y : History) (d : Digests) (fates : ℕ → StepFate) (fresh : Bool) (b : Batch) (moves : List Move)
    → y.is_open ≡ false → Shape fates fresh b moves → committed_batches moves ≡ b ∷ [] → MovesAreTied i y d moves → MovesCount i y d moves
counts_opening i y d fates fresh b moves e s c (shows more tied are) = record { more = more; tied = tied; are = are }
counts_opening i y d fates fresh b moves e s c (nothing is) =
    absurd (resets fates fresh b moves s c (ap (λ (f : Bool). counted_moves f moves) (sym e) ∙ is))

-- What is asked of items, for those in front and those behind.

trail_split : (s : List ℕ) (m k : List Item) → trail extended_message s (item_values (m ++ k))
    ≡ trail extended_message s (item_values m) ++ trail extended_message (digest_after extended_message s (item_values m)) (item_values k)
trail_split s m k =
    ap (trail extended_message s) (map-append (λ (item : Item). item.value) m k)
    ∙ trail-append extended_message s (item_values m) (item_values k)

shown_parts : (all others : List (List ℕ)) (i : Instance) (y : History) (m k : List Item) → AreShown all others i y (m ++ k)
    → (let s : List ℕ = digest_after extended_message (register_value_of i (counted_part y)) (item_values m) in
    AreShown all others i y m × AreMessagesIn (trail extended_message s (item_values k)) all × AllByRecursion (Contains others)
    (foreign_items k))
shown_parts all others i y m k a =
    let s : List ℕ = register_value_of i (counted_part y) in
    let front : List (List ℕ) = trail extended_message s (item_values m) in
    let back : List (List ℕ) = trail extended_message (digest_after extended_message s (item_values m)) (item_values k) in
    let messages : AreMessagesIn (front ++ back) all = subst (λ (ms : List (List ℕ)). AreMessagesIn ms all)
    (trail_split s m k) a.messages in
    let values = subst (AllByRecursion (Contains others)) (foreign_of-append m k) a.values in (
      record {
        messages = each_left (Contains all) front back messages;
        values = each_left (Contains others) (foreign_items m) (foreign_items k) values;
      },
      each_right (Contains all) front back messages,
      each_right (Contains others) (foreign_items m) (foreign_items k) values,
    )

pub shown_front : (all others : List (List ℕ)) (i : Instance) (y : History) (m k : List Item) → AreShown all others i y (m ++ k)
    → AreShown all others i y m
shown_front all others i y m k a = (shown_parts all others i y m k a).0

pub shown_back : (all others : List (List ℕ)) (i : Instance) (y z : History) (m k : List Item)
    → register_value_of i (counted_part z) ≡ digest_after extended_message (register_value_of i (counted_part y)) (item_values m)
    → AreShown all others i y (m ++ k) → AreShown all others i z k
shown_back all others i y z m k e a =
    let p = shown_parts all others i y m k a in
    record { messages = rw e p.1; values = p.2 }

-- with no segment open the register counts as empty
pub shown_shut : (all others : List (List ℕ)) (i : Instance) (y z : History) (more : List Item) → y.is_open ≡ false → z.is_open ≡ false
    → AreShown all others i y more → AreShown all others i z more
shown_shut all others i y z more e f a =
    let same : register_value_of i (counted_part y) ≡ register_value_of i (counted_part z) =
    ap (register_value_of i) (counted_shut y e) ∙ sym (ap (register_value_of i) (counted_shut z f)) in
    record {
      messages = subst (λ (r : List ℕ). AreMessagesIn (trail extended_message r (item_values more)) all) same a.messages;
      values = a.values;
    }

-- The register's value, by the items that a platform shows.

start_value : (flag : Bool) (i : Instance) (y : History) (items : List Item)
    → platform.register_after (item_values items) ≡ register_value_of i y
    → platform.register_after (item_values (standing_items flag items))
    ≡ register_value_of i (record y { items = if flag then y.items else [] })
start_value true i y items e = e
start_value false i y items e = sym reads_zero

register-append : (xs ys : List (List ℕ)) → register_of (xs ++ ys) ≡ digest_after extended_message (register_of xs) ys
unfolding register_of
register-append xs ys = after-append extended_message zero_bytes xs ys

more_value : (xs more : List Item) → platform.register_after (item_values (xs ++ more))
    ≡ digest_after extended_message (platform.register_after (item_values xs)) (item_values more)
more_value xs more =
    ap platform.register_after (map-append (λ (item : Item). item.value) xs more) ∙ register_folds (item_values xs ++ item_values more)
    ∙ register-append (item_values xs) (item_values more)
    ∙ ap (λ (s : List ℕ). digest_after extended_message s (item_values more)) (sym (register_folds (item_values xs)))

-- A platform that shows other items while no segment is open stands for the history with these items.

entry_values_of : (barrier : List ℕ) (values : List (List ℕ)) → entry_values barrier (map Value values) ≡ values
entry_values_of barrier [] = refl
entry_values_of barrier (v ∷ values) = ap (λ (vs : List (List ℕ)). v ∷ vs) (entry_values_of barrier values)

module _ (meaning : Meaning) (key barrier : List ℕ) where
  abbrev I : Instance
  I = opt_instance meaning key barrier

  -- whether a segment is open after moves
  committing_flag : (flag : Bool) (d : Digests) (b : Batch) → d.flag ≡ flag → (digests_after_commit Opt flag I d b).flag ≡ true
  committing_flag true d b e = e
  committing_flag false d b e = refl

  pub flag_kept : (moves : List Move) (d : Digests) → d.flag ≡ true → has_close moves ≡ false
      → (state_after_moves (digest_level I) d moves).flag ≡ true
  flag_kept [] d f e = f
  flag_kept (Commit b ∷ moves) d f e = flag_kept moves (digests_after I d (Commit b)) (committing_flag d.flag d b refl) e
  flag_kept (Close ∷ moves) d f e = absurd (cc)
  flag_kept (m ∷ moves) d f e = flag_kept moves (digests_after I d m) f e

  pub flag_set : (moves : List Move) (d : Digests) (b : Batch) → committed_batches moves ≡ b ∷ [] → has_close moves ≡ false
      → (state_after_moves (digest_level I) d moves).flag ≡ true
  flag_set [] d b c e = absurd (cc)
  flag_set (Commit a ∷ moves) d b c e = flag_kept moves (digests_after I d (Commit a)) (committing_flag d.flag d a refl) e
  flag_set (Close ∷ moves) d b c e = absurd (cc)
  flag_set (m ∷ moves) d b c e = flag_set moves (digests_after I d m) b c e

  pub pushed_open : (d : Digests) (c : Course) (offer : List ℕ) (b : Batch) → d.flag ≡ true
      → Pushes I d (call_outcome I (digest_level I) d c offer b).moves
  pushed_open d c offer b f =
      let k = counts_open I some_open d _ refl (opt_tied meaning key barrier some_open d c offer b f) in
      record { more = k.more; are = k.are }

  pub reads_value : (standing : Standing) (y : History) (items : List Item) → StandsFor I standing y → standing.items ≡ Some items
      → platform.register_after (item_values items) ≡ register_value_of I y
  reads_value standing y items s known =
      let reads : Some (platform.register_after (item_values items)) ≡ Some (register_value_of I y) =
      ap (λ (x : Option (List Item)). option_map (λ xs. platform.register_after (item_values xs)) x) (sym known) ∙ s.register in
      cc

  pub register_then : (y z : History) (old new : Standing) (items more : List Item) → StandsFor I old y → old.items ≡ Some items
      → StandsFor I new z → new.items ≡ Some (standing_items y.is_open items ++ more) → z.is_open ≡ true
      → register_value_of I (counted_part z) ≡ digest_after extended_message (register_value_of I (counted_part y)) (item_values more)
  register_then y z old new items more s known t shown_then e =
      ap (register_value_of I) (counted_open z e) ∙ sym (reads_value new z (standing_items y.is_open items ++ more) t shown_then)
      ∙ more_value (standing_items y.is_open items) more ∙ ap (λ (r : List ℕ). digest_after extended_message r (item_values more))
      (start_value y.is_open I y items (reads_value old y items s known))

  pub stands_with : (y : History) (d : Digests) (standing : Standing) (items : List Item) → StandsAt I standing d
      → bare_digests d ≡ bare_digests (digests_of I y) → standing.items ≡ Some items
      → StandsFor I standing (history_with_values (bare y) (item_values items))
  stands_with y d standing items s e known =
      let value : platform.register_after (item_values items) ≡ register_value_of I (history_with_values (bare y) (item_values items)) =
      register_folds (item_values items) ∙ ap register_of (sym (entry_values_of barrier (item_values items))) in
      record {
        spells = subst (λ (x : Digests). IsCell (cell_at I x)) e s.spells;
        cell = s.cell ∙ ap (λ (x : Digests). Some (cell_spelling (cell_at I x))) e;
        register = ap (λ (x : Option (List Item)). option_map (λ xs. platform.register_after (item_values xs)) x) known
            ∙ ap (λ (r : List ℕ). Some r) value;
      }
