-- Opt: what a call sees, and what counts of it; and so a call is by digests what it is by lists, on every course.
use Rattle.mm_call.proofs.Below.{ℕ, ◌≡◌, Bool, true, false, List, [], ◌∷◌, ◌++◌, map, Some, Result, Ok, Err, refl, sym, ap, ◌∙◌, subst, inl}
use Rattle.mm_call.proofs.Below.{inr, not, if◌then◌else◌, AllByRecursion, Contains, fold, Opt, extended_digest_of, StepFault, Meaning}
use Rattle.mm_call.proofs.Below.{Batch, Instance, opt_instance, History, Move, Foreign, Reset, Value, history_after, DeviceStep, Reads}
use Rattle.mm_call.proofs.Below.{ask_steps, AreMessagesIn, move_messages, messages_for_move, Digests, issued_place, IsSound, IsGenuine}
use Rattle.mm_call.proofs.Below.{Refusal, each_left, each_right, opt_names, sound_moved, fresh_lists, list_level, digest_level}
use Rattle.mm_call.proofs.Below.{state_after_moves, DigestsAgree, CallFinding, finding_at, finding_unless_wanting, is_fresh, Done, StepFate}
use Rattle.mm_call.proofs.Below.{Course, StepsWalk, walk, CallEnding, call_ending_by, call_outcome_by, call_outcome, outcome_of_walk}
use Rattle.mm_call.proofs.Below.{counted_part, counted_moves, moves_from_reset, messages_of_moves, foreign_move_values, IsWithin, AreAsked}
use Rattle.mm_call.proofs.Below.{IsAsked, IsSame, IsSameCall, OptCallsAgree, committed_batches, opt_commits, committed-foreign}
use Rattle.mm_call.proofs.Below.{commits-none, steps_of_change, asks, history_with_values, taking_is, foreign_made, made-append}
use Rattle.mm_call.proofs.Below.{foreign_move_values-foreign, moves_from_reset-foreign, messages-made}
use Rattle.mm_call.proofs.Finding.{Asking, Placed, placed, clear_for, IsApart, IsLive, lives, found_same, fresh_of, ending_same}
use Rattle.mm_call.proofs.OptHolding.{Holds, foreign_may, bare, bare_digests, found_lists, found_digests, foreign_digests, foreign_agrees}
use Rattle.mm_call.proofs.OptHolding.{holds_open, holds_shut, within_items, within_of, reset_may}
use Rattle.mm_call.proofs.OptWalks.{AllFine, holds_made, foreign_all, front_outside, Ready, AreOwn, own_changing, walk_fine, path_end}
use Rattle.mm_call.proofs.OptWalks.{path_is, IsDue, ready_third, ready_opening, end_place, before, sight, sight_is, names_foreign}
use Rattle.mm_call.proofs.OptShapes.{two_reads, reading, past, cut, opening, Shape, still, reset, shape}
use Rattle.mm_call.proofs.BasicLaw.{unlacked}

fresh_is : (again : Bool) → (if again then false else true) ≡ not again
fresh_is true = refl
fresh_is false = refl

-- what a call sees by digests
seen_is : (i : Instance) (d : Digests) (c : Course) → state_after_moves (digest_level i) d (before c)
    ≡ state_after_moves (digest_level i) (state_after_moves (digest_level i) d (map Foreign (c.fates 1).brings))
    (map Foreign (c.fates 2).brings)
seen_is i d c =
    made-append (digest_level i) (map Foreign (c.fates 1).brings) (map Foreign (c.fates 2).brings ++ []) d
    ∙ made-append (digest_level i) (map Foreign (c.fates 2).brings) []
    (state_after_moves (digest_level i) d (map Foreign (c.fates 1).brings))

-- the walk of a call
abbrev steps_walk : Course → Bool → Result CallFinding Refusal → Batch → StepsWalk
steps_walk c flag found b = walk c.fates 1 (Reads ∷ Reads ∷ steps_of_change flag (is_fresh found) b)

module _ (meaning : Meaning) (key barrier : List ℕ) where
  abbrev I : Instance
  I = opt_instance meaning key barrier

  pub reset_messages : (y : History) (flag : Bool) → messages_for_move Opt flag I y Reset ≡ []
  reset_messages y flag = refl

  pub sound_foreign : (values : List (List ℕ)) (y : History) → IsSound y → IsSound (state_after_moves (list_level I) y (map Foreign values))
  sound_foreign [] y sound = sound
  sound_foreign (v ∷ values) y sound =
      sound_foreign values (history_after I y (Foreign v))
      (sound_moved meaning key barrier y (Foreign v) sound (foreign_may I y y.is_open v))

  -- what is asked of the offer, at the history that a call sees
  pub seen_asking : (all : List (List ℕ)) (y : History) (v w : List (List ℕ)) (offer : List ℕ) (b : Batch) → IsSound y
      → Asking all I y offer b → Asking all I (state_after_moves (list_level I) y (map Foreign v ++ (map Foreign w ++ []))) offer b
  seen_asking all y v w offer b sound a =
      let first : History = state_after_moves (list_level I) y (map Foreign v) in
      record {
        clear = a.clear;
        listed = a.listed;
        genuine = λ content right. rw (made-append (list_level I) (map Foreign v) (map Foreign w ++ []) y
            ∙ made-append (list_level I) (map Foreign w) [] first)
            (names_foreign meaning key barrier w first content (sound_foreign v y sound)
            (names_foreign meaning key barrier v y content sound (a.genuine content right)));
      }

  sight_agrees : (y : History) (d : Digests) (c : Course) → DigestsAgree I y d
      → DigestsAgree I (sight y c) (state_after_moves (digest_level I) d (before c))
  sight_agrees y d c a =
      let v = (c.fates 1).brings in
      let w = (c.fates 2).brings in
      let z : History = state_after_moves (list_level I) y (map Foreign v) in
      let e : Digests = state_after_moves (digest_level I) d (map Foreign v) in
      rw (seen_is I d c) (subst (λ x. DigestsAgree I x (state_after_moves (digest_level I) e (map Foreign w)))
      (taking_is I w z ∙ ap (λ x. history_with_values x w) (taking_is I v y))
      (foreign_agrees meaning key barrier w z e (foreign_agrees meaning key barrier v y d a)))

  -- a bare history is named by the same snapshots
  genuine_bare : (y : History) (offer : List ℕ) → y.is_open ≡ false → IsSound y → IsGenuine I y offer → IsGenuine I (bare y) offer
  genuine_bare y offer e sound g =
      λ content right. opt_names meaning key barrier y Reset content sound (reset_may meaning key barrier y e) (g content right)

  module _ (all others : List (List ℕ)) (asked : List Batch) where
    -- what counts of the moves of a call inside a segment, and of one with none open
    abbrev pub Counts : Bool → History → List Move → Type 0
    Counts flag y moves =
        AreMessagesIn (messages_of_moves I y (counted_moves flag moves)) all
        × AllByRecursion (Contains others) (foreign_move_values (counted_moves flag moves))

    pub counts_at : (flag : Bool) (y : History) (moves : List Move) → y.is_open ≡ flag
        → AreMessagesIn (messages_of_moves I (counted_part y) (counted_moves y.is_open moves)) all
        → AllByRecursion (Contains others) (foreign_move_values (counted_moves y.is_open moves))
        → Counts flag (record y { items = if flag then y.items else [] }) moves
    counts_at flag y moves e messages values =
        subst (λ f. Counts f (record y { items = if f then y.items else [] }) moves) e (messages, values)

    -- what others put in was put in by moves that may be made, and their messages are listed
    foreign_holds : (y : History) (d : Digests) (values : List (List ℕ)) (rest : List Move) → Holds all others asked I y d
        → Counts true y (map Foreign values ++ rest)
        → Holds all others asked I (history_with_values y values) (state_after_moves (digest_level I) d (map Foreign values))
        × Counts true (history_with_values y values) rest
    foreign_holds y d values rest h c =
        let xs : List Move = map Foreign values in
        let front : List (List ℕ) = messages_of_moves I y xs in
        let back : List (List ℕ) = messages_of_moves I (state_after_moves (list_level I) y xs) rest in
        let o = front_outside others values rest c.1 in
        let m : AreMessagesIn (front ++ back) all = subst (λ (v : List (List ℕ)). AreMessagesIn v all) (messages-made I xs rest y) c.0 in
        subst (λ z. Holds all others asked I z (state_after_moves (digest_level I) d xs) × Counts true z rest) (taking_is I values y) (
          holds_made meaning key barrier all others asked xs y d h (foreign_all meaning key barrier all others asked values y o.0)
              (each_left (Contains all) front back m),
          (each_right (Contains all) front back m, o.1),
        )

    -- the digests after these moves are those of the history, and what was asked of it holds
    pub record StandsAfter (y : History) (d : Digests) (moves : List Move) : Type 0 where
      pub agrees : DigestsAgree I (state_after_moves (list_level I) y moves) (state_after_moves (digest_level I) d moves)
      pub within : IsWithin all others asked I (state_after_moves (list_level I) y moves)

    stands_after : (y : History) (d : Digests) (moves : List Move) → Holds all others asked I y d → AllFine all others asked I y moves
        → AreMessagesIn (messages_of_moves I y moves) all → StandsAfter y d moves
    stands_after y d moves h fine messages =
        let end = holds_made meaning key barrier all others asked moves y d h fine messages in record {
          agrees = end.agrees;
          within = within_of meaning key barrier all others asked (state_after_moves (list_level I) y moves)
              (state_after_moves (digest_level I) d moves) end;
        }

    -- values of others alone, while no segment is open
    pub foreign_stands : (y : History) (d : Digests) (values : List (List ℕ)) → y.is_open ≡ false → DigestsAgree I y d
        → IsWithin all others asked I y → StandsAfter y d (map Foreign values)
    foreign_stands y d values e agrees within = record {
      agrees = foreign_agrees meaning key barrier values y d agrees;
      within = rw (taking_is I values y) (within_items meaning key barrier all others asked y (y.items ++ map Value values) e within);
    }

    pub same_on : (E : Type 0) (y : History) (d : Digests) (w : StepsWalk) (lists digests : E) → digests ≡ lists → StandsAfter y d w.moves
        → IsSame all others asked I (outcome_of_walk (list_level I) y lists w) (outcome_of_walk (digest_level I) d digests w)
    same_on E y d w lists digests ending after =
        record { ending = ending; moves = refl; steps = refl; writes = refl; agrees = after.agrees; within = after.within }

    -- Two reading steps inside a segment, and the steps that follow from what is found by lists and by digests, by the moves of
    -- those that follow from one of them: both find the same; or the walk was cut off before, whatever was found.
    pub same_walks : (X E : Type 0) (third : X → List DeviceStep) (lists_end digests_end : X → StepsWalk → E) (y : History)
        (d : Digests) (c : Course)
        (lists digests x : X) → y.is_open ≡ true → Holds all others asked I y d → (digests ≡ lists → x ≡ lists)
        → Counts true y (walk c.fates 1 (Reads ∷ Reads ∷ third x)).moves
        → (Holds all others asked I (sight y c) (state_after_moves (digest_level I) d (before c))
        → (digests ≡ lists) × AreOwn (third lists) × Ready all others asked I c.fates 3 (third lists) (sight y c)
        × (let w = walk c.fates 1 (Reads ∷ Reads ∷ third lists) in digests_end lists w ≡ lists_end lists w))
        → ((w : StepsWalk) (values : List (List ℕ)) (fault : StepFault) → w.moves ≡ map Foreign values → w.broken ≡ Some fault
        → digests_end digests w ≡ lists_end lists w)
        → (let w = walk c.fates 1 (Reads ∷ Reads ∷ third lists) in let z = walk c.fates 1 (Reads ∷ Reads ∷ third digests) in
        IsSame all others asked I (outcome_of_walk (list_level I) y (lists_end lists w) w)
        (outcome_of_walk (digest_level I) d (digests_end digests z) z))
    same_walks X E third lists_end digests_end y d c lists digests x e h k counts past_so cut_so =
        let v = (c.fates 1).brings in
        let w = (c.fates 2).brings in
        let walked_by : X → StepsWalk = λ z. walk c.fates 1 (Reads ∷ Reads ∷ third z) in
        let rest : StepsWalk = walk c.fates 3 (third x) in
        elim (reading v w (c.fates 1).ends (c.fates 2).ends) [
          | past p q ↦
              let first = subst (λ z. Counts true y (two_reads v z w (c.fates 2).ends rest).moves) p counts in
              let one = foreign_holds y d v (map Foreign w ++ rest.moves) h
              (subst (λ z. Counts true y (two_reads v Done w z rest).moves) q first) in
              let two = foreign_holds (history_with_values y v) (state_after_moves (digest_level I) d (map Foreign v)) w
              rest.moves one.0 one.1 in
              let r = past_so (rw (seen_is I d c) two.0) in
              let counted = subst (λ z. Counts true y (walked_by z).moves) (k r.0) counts in
              rw r.0 (same_on E y d (walked_by lists) (lists_end lists (walked_by lists)) (digests_end lists (walked_by lists)) r.3
              (stands_after y d (walked_by lists).moves h
              (walk_fine meaning key barrier all others asked c.fates (Reads ∷ Reads ∷ third lists) 1 y r.1 counted.1 (λ o p. r.2))
              counted.0))
          | cut walked values fault is moves broken ↦
              let here = subst (Counts true y) moves (subst (λ (z : StepsWalk). Counts true y z.moves) (is rest) counts) in
              let fine = foreign_all meaning key barrier all others asked values y
              (subst (AllByRecursion (Contains others)) (foreign_move_values-foreign values) here.1) in
              rw (is (walk c.fates 3 (third lists))) (rw (is (walk c.fates 3 (third digests)))
              (same_on E y d walked (lists_end lists walked) (digests_end digests walked) (cut_so walked values fault moves broken)
              (rw moves (stands_after y d (map Foreign values) h fine here.0))))
        ]

    -- a new batch is due, and the history is live
    due_of : (z : History) (e : Digests) (b : Batch) (found : Result CallFinding Refusal) → IsApart all others asked barrier
        → Holds all others asked I z e → Contains asked b → ((f : CallFinding) → found ≡ Ok f → Placed all I z b f) → is_fresh found ≡ true
        → IsDue all asked I z b × IsLive z
    due_of z e b (Err why) c h is_asked p fresh = cc
    due_of z e b (Ok f) c h is_asked p fresh =
        let place = p f refl in (
          record {
            commits = fresh_lists meaning key barrier z f.offered b all h.sound
                (clear_for meaning key barrier all others asked z e f.offered.place b c h is_asked place.listed) place.names
                (place.is_fresh (fresh_of f.again fresh));
            asked_for = is_asked;
          },
          lives z place.live,
        )

    -- what stands after the moves of a call with no segment open
    shut_after : (y : History) (d : Digests) (fates : ℕ → StepFate) (b : Batch) (fresh : Bool) (moves : List Move) → y.is_open ≡ false
        → DigestsAgree I y d → IsWithin all others asked I y → (fresh ≡ true → IsDue all asked I (bare y) b × IsLive (bare y))
        → Shape fates fresh b moves → Counts false (bare y) moves → StandsAfter y d moves
    shut_after y d fates b fresh moves e agrees within due (still values is) counts = rw is (foreign_stands y d values e agrees within)
    shut_after y d fates b fresh moves e agrees within due (reset values rest is k) counts =
        let O : List Move → Type 0 = λ m. AllByRecursion (Contains others) (foreign_move_values m) in
        let F : List Move → Type 0 = AllFine all others asked I (bare y) in
        let begins : moves_from_reset moves ≡ Reset ∷ rest = ap moves_from_reset is ∙ moves_from_reset-foreign values (Reset ∷ rest) in
        let outside : O rest = subst O begins counts.1 in
        let fine : F rest = elim k [
          | inl none ↦ subst F (sym none) tt
          | inr more ↦
              subst F (sym more.1)
              (walk_fine meaning key barrier all others asked fates (opening b) 4 (bare y) (refl, (refl, tt)) (subst O more.1 outside)
              (ready_opening meaning key barrier all others asked fates (bare y) b e refl (due more.0).1.clean (due more.0).0))
        ] in
        let end = stands_after (bare y) (bare_digests d) rest (holds_shut meaning key barrier all others asked y d e agrees within) fine
        (each_right (Contains all) (move_messages I (bare y) Reset) (messages_of_moves I (bare y) rest)
        (subst (λ m. AreMessagesIn (messages_of_moves I (bare y) m) all) begins counts.0)) in
        let lists : state_after_moves (list_level I) y moves ≡ state_after_moves (list_level I) (bare y) rest =
        ap (state_after_moves (list_level I) y) is ∙ foreign_made I values (Reset ∷ rest) y in
        let digests : state_after_moves (digest_level I) d moves ≡ state_after_moves (digest_level I) (bare_digests d) rest =
        ap (state_after_moves (digest_level I) d) is ∙ foreign_digests I values (Reset ∷ rest) d in
        record { agrees = rw lists (rw digests end.agrees); within = rw lists end.within }

    are_asked : (y : History) (moves : List Move) (offer : List ℕ) (b : Batch) → IsAsked all others asked I y moves offer b
        → AreAsked all others asked I y offer b
    are_asked y moves offer b a =
        record { clear = a.clear; apart = a.apart; within = a.within; is_asked = a.is_asked; genuine = a.genuine; offered = a.offered }

    -- a call: what it sees and finds, by lists and by digests
    module _ (y : History) (d : Digests) (c : Course) (offer : List ℕ) (b : Batch) (agrees : DigestsAgree I y d) where
      abbrev sees : History
      sees = state_after_moves (list_level I) y (before c)

      abbrev seen : Digests
      seen = state_after_moves (digest_level I) d (before c)

      abbrev found : Result CallFinding Refusal
      found = finding_unless_wanting (finding_at I (list_level I) sees b offer) c.lacks

      abbrev other : Result CallFinding Refusal
      other = finding_unless_wanting (finding_at I (digest_level I) seen b offer) c.lacks

      abbrev lists_end : Result CallFinding Refusal → StepsWalk → CallEnding
      lists_end f w = call_ending_by (list_level I) sees (state_after_moves (list_level I) y w.moves) b f w.moves w.broken

      abbrev digests_end : Result CallFinding Refusal → StepsWalk → CallEnding
      digests_end f w = call_ending_by (digest_level I) seen (state_after_moves (digest_level I) d w.moves) b f w.moves w.broken

      -- it is by digests what it is by lists, by the moves of what is found by the ones or the others
      abbrev AreSame : Bool → Type 0
      AreSame flag =
          (x : Result CallFinding Refusal) → (other ≡ found → x ≡ found)
          → IsAsked all others asked I y (steps_walk c flag x b).moves offer b
          → IsSameCall all others asked I (call_outcome_by (list_level I) y sees b found (steps_walk c flag found b))
          (call_outcome_by (digest_level I) d seen b other (steps_walk c flag other b))

      asking : AreAsked all others asked I y offer b → Asking all I sees offer b
      asking a = seen_asking all y (c.fates 1).brings (c.fates 2).brings offer b a.within.sound
          (record { clear = a.clear; listed = a.offered; genuine = a.genuine })

      pub placed_at : AreAsked all others asked I y offer b → (f : CallFinding) → found ≡ Ok f → Placed all I (sight y c) b f
      placed_at a f is =
          subst (λ x. Placed all I x b f) (sight_is I y c)
          (placed all I sees offer b (asking a) f (unlacked (finding_at I (list_level I) sees b offer) c.lacks f is))

      -- both end alike, where both find the same
      ends_alike : AreAsked all others asked I y offer b → (flag : Bool) → y.is_open ≡ flag
          → digests_end found (steps_walk c flag found b) ≡ lists_end found (steps_walk c flag found b)
      ends_alike a flag e =
          let w : StepsWalk = steps_walk c flag found b in
          let end : Bool → History = λ fresh. path_end I c.fates 3 (steps_of_change flag fresh b) (sight y c) in
          ending_same all I (sight y c) y seen b w sees (state_after_moves (digest_level I) d w.moves) w.broken found refl (record {
            same = refl;
            found_at = placed_at a;
            place = λ f is whole.
                end_place meaning key barrier c.fates (sight y c) seen b flag f.again e
                (λ t. (lives (sight y c) (placed_at a f is).live).own (e ∙ t)) (sight_agrees y d c agrees)
                ∙ ap (λ fresh. issued_place Opt (end fresh).is_open I (end fresh)) (sym (fresh_is f.again) ∙ sym (ap is_fresh is))
                ∙ ap (λ (x : History). issued_place Opt x.is_open I x)
                (sym (path_is I c.fates (Reads ∷ Reads ∷ steps_of_change flag (is_fresh found) b) 1 y whole));
          }) (opt_commits c.fates flag (is_fresh found) b)

      by_flag : (flag : Bool) → y.is_open ≡ flag → AreSame flag
      by_flag true e x k a =
          let q = are_asked y (steps_walk c true x b).moves offer b a in
          let apart : IsApart all others asked barrier = record { clear = q.clear; apart = q.apart } in
          same_walks (Result CallFinding Refusal) CallEnding (λ f. steps_of_change true (is_fresh f) b) lists_end digests_end y d
          c found other x e
          (holds_open meaning key barrier all others asked y d e agrees q.within) k
          (counts_at true y (steps_walk c true x b).moves e a.messages a.values)
          (λ hs. (
            ap (λ z. finding_unless_wanting z c.lacks) (found_same meaning key barrier all others asked sees seen offer b apart q.is_asked
                (subst (λ z. Holds all others asked I z seen) (sym (sight_is I y c)) hs) (asking q)),
            own_changing true (is_fresh found) b,
            ready_third meaning key barrier all others asked c.fates (sight y c) b true (is_fresh found) e
                (due_of (sight y c) seen b found apart hs q.is_asked (placed_at q)),
            ends_alike q true e,
          ))
          (λ w values fault moves broken.
          rw (broken, commits-none w.moves (ap committed_batches moves ∙ committed-foreign values)) refl)
      by_flag false e x k a =
          let q = are_asked y (steps_walk c false x b).moves offer b a in
          let v = (c.fates 1).brings in
          let w = (c.fates 2).brings in
          let apart : IsApart all others asked barrier = record { clear = q.clear; apart = q.apart } in
          let h = holds_shut meaning key barrier all others asked y d e agrees q.within in
          let asking_bare : Asking all I (bare y) offer b = record {
            clear = q.clear;
            listed = q.offered;
            genuine = genuine_bare y offer e q.within.sound q.genuine;
          } in
          let lists : finding_at I (list_level I) sees b offer ≡ finding_at I (list_level I) (bare y) b offer =
          ap (λ x. finding_at I (list_level I) x b offer) (sight_is I y c) ∙ found_lists meaning key barrier y
          (sight y c).items b offer e in
          let register : List ℕ = fold extended_digest_of (fold extended_digest_of d.register v) w in
          let seen_then : seen ≡ record d { register = register } =
          foreign_digests I v (map Foreign w ++ []) d ∙ foreign_digests I w []
          (record d { register = fold extended_digest_of d.register v }) in
          let digests : finding_at I (digest_level I) seen b offer ≡ finding_at I (digest_level I) (bare_digests d) b offer =
          ap (λ x. finding_at I (digest_level I) x b offer) seen_then
          ∙ found_digests meaning key barrier d register b offer (agrees.flag ∙ e) in
          let agree : other ≡ found = ap (λ x. finding_unless_wanting x c.lacks)
          (digests ∙ found_same meaning key barrier all others asked (bare y) (bare_digests d) offer b apart q.is_asked h asking_bare
          ∙ sym lists) in
          let walked : StepsWalk = steps_walk c false found b in
          let after = shut_after y d c.fates b (is_fresh found) walked.moves e agrees q.within
          (due_of (bare y) (bare_digests d) b found apart h q.is_asked
          (λ f is. placed all I (bare y) offer b asking_bare f
          (sym lists ∙ unlacked (finding_at I (list_level I) sees b offer) c.lacks f is)))
          (shape c.fates (is_fresh found) b)
          (subst (λ z. Counts false (bare y) (steps_walk c false z b).moves) (k agree)
          (counts_at false y (steps_walk c false x b).moves e a.messages a.values)) in
          subst (λ z. IsSameCall all others asked I (call_outcome_by (list_level I) y sees b found walked)
          (call_outcome_by (digest_level I) d seen b z (steps_walk c false z b))) (sym agree)
          (same_on CallEnding y d walked (lists_end found walked) (digests_end found walked) (ends_alike q false e) after)

      -- the steps by digests
      asks_digests : ask_steps Opt d.flag (is_fresh other) b ≡ Reads ∷ Reads ∷ steps_of_change y.is_open (is_fresh other) b
      asks_digests = ap (λ f. ask_steps Opt f (is_fresh other) b) agrees.flag ∙ asks y.is_open (is_fresh other) b

      agree_by : (x : Result CallFinding Refusal) → (other ≡ found → x ≡ found)
          → IsAsked all others asked I y (steps_walk c y.is_open x b).moves offer b
          → IsSameCall all others asked I (call_outcome I (list_level I) y c offer b) (call_outcome I (digest_level I) d c offer b)
      agree_by x k a = rw (asks y.is_open (is_fresh found) b) (rw asks_digests (by_flag y.is_open refl x k a))

      -- by the moves of the call by lists, and by those of the call by digests
      pub opt_calls_agree_by_lists : IsAsked all others asked I y (call_outcome I (list_level I) y c offer b).moves offer b
          → IsSameCall all others asked I (call_outcome I (list_level I) y c offer b) (call_outcome I (digest_level I) d c offer b)
      opt_calls_agree_by_lists a =
          agree_by found (λ e. refl)
          (subst (λ s. IsAsked all others asked I y (walk c.fates 1 s).moves offer b) (asks y.is_open (is_fresh found) b) a)

      agree_by_digests : IsAsked all others asked I y (call_outcome I (digest_level I) d c offer b).moves offer b
          → IsSameCall all others asked I (call_outcome I (list_level I) y c offer b) (call_outcome I (digest_level I) d c offer b)
      agree_by_digests a =
          agree_by other (λ e. e) (subst (λ s. IsAsked all others asked I y (walk c.fates 1 s).moves offer b) asks_digests a)

pub opt_calls_agree : OptCallsAgree
opt_calls_agree meaning key barrier all others asked y d c offer b agrees a =
    agree_by_digests meaning key barrier all others asked y d c offer b agrees a
