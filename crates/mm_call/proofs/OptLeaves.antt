-- Opt: what one call leaves by lists, and what it hands on to the next.
use Rattle.mm_call.proofs.Below.{◌≡◌, ℕ, Bool, true, false, List, [], ◌∷◌, ◌++◌, map, None, Some, Result, Ok, refl, sym, ap, ◌∙◌, subst}
use Rattle.mm_call.proofs.Below.{append_assoc, option_map, Opt, extended_message, Item, Standing, item_values, Meaning, Batch, One}
use Rattle.mm_call.proofs.Below.{Instance, opt_instance, RegisterEntry, History, Move, Foreign, items_of_all, register_value_of, has_value}
use Rattle.mm_call.proofs.Below.{Digests, digests_of, StandsFor, Reads, ask_steps, BatchAnswer, Refusal, list_level, digest_level}
use Rattle.mm_call.proofs.Below.{state_after_moves, CallFinding, finding_at, finding_unless_wanting, is_fresh, Course, StepsWalk, walk}
use Rattle.mm_call.proofs.Below.{has_close, call_outcome, state_seen, result_of_ending, IsCallOnCourse, StandsAt, items_after_moves}
use Rattle.mm_call.proofs.Below.{counted_part, counted_moves, IsWithin, IsAsked, AreAsked, AreShown, standing_items, committed_batches}
use Rattle.mm_call.proofs.Below.{asked_by, same_rest, MovesCount, counts_open, nothing, batch, steps_of_change, asks, opt_commits}
use Rattle.mm_call.proofs.Below.{history_with_values, committed-foreign, opt_closes, closes_first, closes-foreign, HistoryGrows, kept}
use Rattle.mm_call.proofs.Below.{CallGoesBy}
use Rattle.mm_call.proofs.Completing.{stands_at}
use Rattle.mm_call.proofs.Finding.{lives}
use Rattle.mm_call.proofs.OptHolding.{is_agrees, bare, within_items}
use Rattle.mm_call.proofs.OptShapes.{none_counted, Shape, shape, opt_tied, reads_only}
use Rattle.mm_call.proofs.Coming.{answered_only, opt_comes as comes}
use Rattle.mm_call.proofs.OptLaw.{opt_calls_agree, placed_at}
use Rattle.mm_call.proofs.OptAlike.{alike_still, alike_one, digests_still, Alike, still, grown_by, same_closed}
use Rattle.mm_call.proofs.OptShown.{pushed_open, counts_opening, flag_kept, flag_set, shown_front, shown_back, shown_shut, register_then}
use Rattle.mm_call.proofs.OptShown.{stands_with}
use Rattle.mm_call.proofs.OptWalks.{sight}
use Rattle.mm_model.specs.Chains as chains

-- what one call leaves: the history after it, and what is asked of that
pub record OptAfter (all others : List (List ℕ)) (asked : List Batch) (meaning : Meaning) (key barrier : List ℕ) (y : History)
    (new : Standing) (offer : List ℕ) (b : Batch) (result : Result BatchAnswer Refusal) : Type 0 where
  pub after : History
  pub stands : StandsFor (opt_instance meaning key barrier) new after
  pub within : IsWithin all others asked (opt_instance meaning key barrier) after
  pub comes : HistoryGrows (opt_instance meaning key barrier) y offer b after result
  pub alike : Alike meaning key barrier y b after
  pub clean : (answer : BatchAnswer) → result ≡ Ok answer → has_value (items_of_all after.closed) ≡ false

-- what a call commits, on the history
pub alike_call : (meaning : Meaning) (key barrier : List ℕ) (y : History) (c : Course) (offer : List ℕ) (b : Batch)
    → Alike meaning key barrier y b (call_outcome (opt_instance meaning key barrier) (list_level (opt_instance meaning key barrier))
    y c offer b).state
alike_call meaning key barrier y c offer b =
    let i : Instance = opt_instance meaning key barrier in
    let fresh : Bool = is_fresh (finding_unless_wanting (finding_at i (list_level i) (state_seen i (list_level i) y c) b offer) c.lacks) in
    let w : StepsWalk = walk c.fates 1 (Reads ∷ Reads ∷ steps_of_change y.is_open fresh b) in
    let quiet : has_close w.moves ≡ false = opt_closes c.fates y.is_open fresh b in
    rw (asks y.is_open fresh b) (elim (opt_commits c.fates y.is_open fresh b) [
      | nothing none unless ↦ still (alike_still meaning key barrier w.moves y none quiet)
      | batch one is ↦ grown_by (alike_one meaning key barrier w.moves y b one quiet)
    ])

clean_by : (meaning : Meaning) (key barrier : List ℕ) (y after : History) (b : Batch) → has_value (items_of_all y.closed) ≡ false
    → Alike meaning key barrier y b after → has_value (items_of_all after.closed) ≡ false
clean_by meaning key barrier y after b clean (still e) = ap (λ (x : History). has_value (items_of_all x.closed)) e ∙ clean
clean_by meaning key barrier y after b clean (grown_by e) =
    ap (λ (c : List (List RegisterEntry)). has_value (items_of_all c)) (same_closed meaning key barrier y after b e) ∙ clean

-- others' values before the reading steps close nothing
pub seen_closes : (v w : List (List ℕ)) → has_close (map Foreign v ++ (map Foreign w ++ [])) ≡ false
seen_closes v w = closes_first v (map Foreign w ++ []) ∙ closes_first w []

module _ (meaning : Meaning) (key barrier : List ℕ) (all others : List (List ℕ)) (asked : List Batch) where
  abbrev I : Instance
  I = opt_instance meaning key barrier

  abbrev pub Left : History → Standing → List ℕ → List ℕ → Result BatchAnswer Refusal → Type 0
  Left y new offer request result = OptAfter all others asked meaning key barrier y new offer (One request) result

  -- the call by digests that a platform made
  abbrev pub DigestMoves : (old new : Standing) (offer request : List ℕ) (result : Result BatchAnswer Refusal)
      → IsCallOnCourse Opt meaning old new offer (One request) result → History → List Move
  DigestMoves old new offer request result c y = (call_outcome I (digest_level I) (digests_of I y) c.course offer (One request)).moves

  pub answered_clean_as : (y : History) (old new : Standing) (offer request : List ℕ) (result : Result BatchAnswer Refusal)
      (c : IsCallOnCourse Opt meaning old new offer (One request) result) → AreAsked all others asked I y offer (One request)
      → (answer : BatchAnswer) → result ≡ Ok answer
      → result ≡ result_of_ending (call_outcome I (list_level I) y c.course offer (One request)).ending
      → Alike meaning key barrier y (One request) (call_outcome I (list_level I) y c.course offer (One request)).state
      → has_value (items_of_all (call_outcome I (list_level I) y c.course offer (One request)).state.closed) ≡ false
  answered_clean_as y old new offer request result c a answer is gives alike =
      let b : Batch = One request in
      let sees : History = state_seen I (list_level I) y c.course in
      let found : Result CallFinding Refusal = finding_unless_wanting (finding_at I (list_level I) sees b offer) c.course.lacks in
      let w : StepsWalk = walk c.course.fates 1 (ask_steps Opt y.is_open (is_fresh found) b) in
      let end : History = state_after_moves (list_level I) y w.moves in
      let it = answered_only w.broken (list_level I) sees end b found w.moves answer (sym gives ∙ is) in
      let p = placed_at meaning key barrier all others asked y (digests_of I y) c.course offer b (is_agrees I y (digests_of I y) refl) a
      it.it it.found_is in
      clean_by meaning key barrier y end b (lives (sight y c.course) p.live).clean alike

  -- a call under the law: what it leaves, and whether a segment is open after it
  by_law : (y : History) (old new : Standing) (offer request : List ℕ) (result : Result BatchAnswer Refusal)
      (c : IsCallOnCourse Opt meaning old new offer (One request) result) → StandsFor I old y
      → AreAsked all others asked I y offer (One request)
      → IsAsked all others asked I y (DigestMoves old new offer request result c y) offer (One request)
      → (left : Left y new offer request result)
      × ((state_after_moves (digest_level I) (digests_of I y) (DigestMoves old new offer request result c y)).flag ≡ left.after.is_open)
  by_law y old new offer request result c s a is_asked =
      let b : Batch = One request in
      let o = call_outcome I (list_level I) y c.course offer b in
      let k = c.continues key barrier y all others asked s is_asked in
      let same = opt_calls_agree meaning key barrier all others asked y (digests_of I y) c.course offer b
      (is_agrees I y (digests_of I y) refl) is_asked in
      let alike : Alike meaning key barrier y b o.state = alike_call meaning key barrier y c.course offer b in (
        record {
          after = o.state;
          stands = k.stands;
          within = k.within;
          comes = rw k.gives (comes meaning key barrier all others asked y c.course offer b a);
          alike = alike;
          clean = λ answer is. answered_clean_as y old new offer request result c a answer is k.gives alike;
        },
        same.agrees.flag,
      )

  -- From a set flag all that the register had shown stays in front.
  abbrev pub GoesOn : Standing → Standing → Type 0
  GoesOn old new =
      (d : Digests) → StandsAt I old d → d.flag ≡ true → (items : List Item) → old.items ≡ Some items
      → (more : List Item) × (new.items ≡ Some (items ++ more))

  pub call_goes_on : (old new : Standing) (offer request : List ℕ) (result : Result BatchAnswer Refusal)
      → IsCallOnCourse Opt meaning old new offer (One request) result → GoesOn old new
  call_goes_on old new offer request result c d s f items known =
      let moves : List Move = (call_outcome I (digest_level I) d c.course offer (One request)).moves in
      let g = c.goes key barrier d s in
      let p = pushed_open meaning key barrier d c.course offer (One request) f in
      (p.more, g.items ∙ ap (option_map (items_after_moves I d moves)) known ∙ ap (λ (xs : List Item). Some xs) (p.are items))

  -- the items that a call pushed behind those that counted, where a segment is open after it
  pub record Pushed (y after : History) (more later : List Item) : Type 0 where
    pub front : List Item
    pub whole : front ++ later ≡ more
    pub register : register_value_of I (counted_part after) ≡ chains.digest_after extended_message
        (register_value_of I (counted_part y)) (item_values front)

  -- What a call hands on: what it leaves; and that behind the items that count then, the register shows at the very end
  -- what is asked.
  pub record Hands (y : History) (middle new : Standing) (offer request : List ℕ) (result : Result BatchAnswer Refusal)
      (whole : List Item) : Type 0 where
    pub left : Left y middle offer request result
    pub items : List Item
    pub known : middle.items ≡ Some items
    pub more : List Item
    pub ends : new.items ≡ Some (standing_items left.after.is_open items ++ more)
    pub shown_are : AreShown all others I left.after more
    pub pushed : left.after.is_open ≡ true → Pushed y left.after whole more

  -- with no segment open: the reading steps alone
  pub left_reading : (y : History) (old middle : Standing) (offer request : List ℕ) (result : Result BatchAnswer Refusal)
      (c : IsCallOnCourse Opt meaning old middle offer (One request) result) (values : List (List ℕ)) → StandsFor I old y
      → AreAsked all others asked I y offer (One request) → y.is_open ≡ false
      → DigestMoves old middle offer request result c y ≡ map Foreign values
      → (left : Left y middle offer request result) × (left.after.is_open ≡ false)
  left_reading y old middle offer request result c values s a e is =
      let d : Digests = digests_of I y in
      let moves : List Move = DigestMoves old middle offer request result c y in
      let empty : counted_moves y.is_open moves ≡ [] = none_counted y values moves e is in
      let law = by_law y old middle offer request result c s a (asked_by I all others asked y moves offer (One request) a
      (rw empty tt)
      (rw empty tt)) in
      let same : (state_after_moves (digest_level I) d moves).flag ≡ d.flag = ap (λ (x : Digests). x.flag)
      (digests_still meaning key barrier moves d (ap committed_batches is ∙ committed-foreign values)
      (ap has_close is ∙ closes-foreign values)) in
      (law.0, sym law.1 ∙ same ∙ e)

  -- A call, with what its platform shows before and after it and at the very end.
  module _ (y : History) (old middle new : Standing) (offer request : List ℕ) (result : Result BatchAnswer Refusal) (items more : List Item)
      (c : IsCallOnCourse Opt meaning old middle offer (One request) result) (goes_on : GoesOn middle new) (s : StandsFor I old y)
      (known : old.items ≡ Some items) (ends : new.items ≡ Some (standing_items y.is_open items ++ more))
      (a : AreAsked all others asked I y offer (One request)) (shown_so : AreShown all others I y more) where
    abbrev d : Digests
    d = digests_of I y

    abbrev moves : List Move
    moves = DigestMoves old middle offer request result c y

    abbrev items_then : List Item
    items_then = items_after_moves I d moves items

    goes : CallGoesBy I d (call_outcome I (digest_level I) d c.course offer (One request)) old middle result
    goes = c.goes key barrier d (stands_at I old y s)

    known_then : middle.items ≡ Some items_then
    known_then = goes.items ∙ ap (option_map (items_after_moves I d moves)) known

    -- a call after which a segment is open
    hands_open : MovesCount I y d moves → (state_after_moves (digest_level I) d moves).flag ≡ true
        → Hands y middle new offer request result more
    hands_open k f =
        let front : List Item = standing_items y.is_open items in
        let rest = goes_on (state_after_moves (digest_level I) d moves) goes.stands f items_then known_then in
        let both : Some (items_then ++ rest.0) ≡ Some (front ++ more) = sym rest.1 ∙ ends in
        let reach : items_then ++ rest.0 ≡ front ++ more = cc in
        let same : k.more ++ rest.0 ≡ more = same_rest front (k.more ++ rest.0) more (sym (append_assoc front k.more rest.0)
        ∙ ap (λ (v : List Item). v ++ rest.0) (sym (k.are items)) ∙ reach) in
        let whole : AreShown all others I y (k.more ++ rest.0) = rw same shown_so in
        let there = shown_front all others I y k.more rest.0 whole in
        let law = by_law y old middle offer request result c s a (asked_by I all others asked y moves offer (One request) a
        (rw k.tied.messages there.messages)
        (rw k.tied.values there.values)) in
        let is_open : law.0.after.is_open ≡ true = sym law.1 ∙ f in
        let register = register_then meaning key barrier y law.0.after old middle items k.more s known law.0.stands
        (known_then ∙ ap (λ (v : List Item). Some v) (k.are items)) is_open in
        record {
          left = law.0;
          items = items_then;
          known = known_then;
          more = rest.0;
          ends = rest.1 ∙ ap (λ (flag : Bool). Some (standing_items flag items_then ++ rest.0)) (sym is_open);
          shown_are = shown_back all others I y law.0.after k.more rest.0 register whole;
          pushed = λ _. record { front = k.more; whole = same; register = register };
        }

    -- a call before which no segment was open, and none is after it
    hands_shut : y.is_open ≡ false → (left : Left y middle offer request result) → left.after.is_open ≡ false
        → Hands y middle new offer request result more
    hands_shut e left f = record {
      left = left;
      items = items_then;
      known = known_then;
      more = more;
      ends = ends ∙ ap (λ (flag : Bool). Some (standing_items flag items ++ more)) e
          ∙ ap (λ (flag : Bool). Some (standing_items flag items_then ++ more)) (sym f);
      shown_are = shown_shut all others I y left.after more e f shown_so;
      pushed = λ is. let clash : true ≡ false = sym is ∙ f in absurd (cc);
    }

    -- with no segment open: broken off before the commit. The history is as before, but for the register's items.
    hands_broken : y.is_open ≡ false → committed_batches moves ≡ [] → has_close moves ≡ false
        → ((answer : BatchAnswer) → result ≡ Ok answer → ⊥)
        → Hands y middle new offer request result more
    hands_broken e none quiet unless =
        let after : History = history_with_values (bare y) (item_values items_then) in
        hands_shut e (record {
          after = after;
          stands = stands_with meaning key barrier y (state_after_moves (digest_level I) d moves) middle items_then goes.stands
              (digests_still meaning key barrier moves d none quiet) known_then;
          within = within_items meaning key barrier all others asked y after.items e a.within;
          comes = kept refl (λ answer gives. absurd (unless answer gives));
          alike = still refl;
          clean = λ answer gives. absurd (unless answer gives);
        }) e

    -- by the walk of its steps
    hands_by : (flag fresh : Bool) → y.is_open ≡ flag
        → (let w = walk c.course.fates 1 (Reads ∷ Reads ∷ steps_of_change flag fresh (One request)) in
        (w.moves ≡ moves) × ((answer : BatchAnswer) → result ≡ Ok answer → w.broken ≡ None) → Hands y middle new offer request result more)
    hands_by true fresh e is =
        hands_open (counts_open I y d moves e (opt_tied meaning key barrier y d c.course offer (One request) refl))
        (flag_kept meaning key barrier moves d e (ap has_close (sym is.0) ∙ opt_closes c.course.fates true fresh (One request)))
    hands_by false false e is =
        let r = reads_only (c.course.fates 1).brings (c.course.fates 2).brings (c.course.fates 1).ends (c.course.fates 2).ends in
        let l = left_reading y old middle offer request result c r.values s a e (sym is.0 ∙ r.are) in
        hands_shut e l.0 l.1
    hands_by false true e is =
        let b : Batch = One request in
        let quiet : has_close moves ≡ false = ap has_close (sym is.0) ∙ opt_closes c.course.fates false true b in
        elim (opt_commits c.course.fates false true b) [
          | nothing none unless ↦
              hands_broken e (ap committed_batches (sym is.0) ∙ none) quiet
              (λ answer gives. let clash : true ≡ false = unless (is.1 answer gives) in absurd (cc))
          | batch one fresh ↦
              let one_made : committed_batches moves ≡ b ∷ [] = ap committed_batches (sym is.0) ∙ one in
              hands_open (counts_opening I y d c.course.fates true b moves e
              (subst (λ (ms : List Move). Shape c.course.fates true b ms) is.0 (shape c.course.fates true b)) one_made
              (opt_tied meaning key barrier y d c.course offer b refl)) (flag_set meaning key barrier moves d b one_made quiet)
        ]

    pub hands : Hands y middle new offer request result more
    hands =
        let b : Batch = One request in
        let seen : Digests = state_seen I (digest_level I) d c.course in
        let found : Result CallFinding Refusal = finding_unless_wanting (finding_at I (digest_level I) seen b offer) c.course.lacks in
        let w : StepsWalk = walk c.course.fates 1 (ask_steps Opt y.is_open (is_fresh found) b) in
        hands_by y.is_open (is_fresh found) refl (subst (λ s. ((walk c.course.fates 1 s).moves ≡ moves)
        × ((answer : BatchAnswer) → result ≡ Ok answer → (walk c.course.fates 1 s).broken ≡ None)) (asks y.is_open (is_fresh found) b) (
          refl,
          λ answer gives. (answered_only w.broken (digest_level I) seen (state_after_moves (digest_level I) d w.moves) b
              found w.moves answer
              (sym goes.gives ∙ gives)).whole,
        ))
