-- Basic: a call is by digests what it is by lists, on every course.
use Rattle.mm_call.proofs.Below.{ℕ, ◌≡◌, Bool, true, false, List, [], ◌∷◌, ◌++◌, map, Result, Ok, refl, sym, ap, ◌∙◌, subst, if◌then◌else◌}
use Rattle.mm_call.proofs.Below.{AllByRecursion, Contains, Basic, Meaning, Batch, Content, InBasic, summary_of, Instance, basic_instance}
use Rattle.mm_call.proofs.Below.{RegisterEntry, History, Move, Foreign, items_of_all, ask_steps, IsClear, AreMessagesIn, values_in, Digests}
use Rattle.mm_call.proofs.Below.{NamesPosition, digest_of, Refusal, each_append, IsGenuine, list_level, digest_level, state_after_moves}
use Rattle.mm_call.proofs.Below.{DigestsAgree, CallFinding, finding_at, right_content, finding_unless_wanting, is_fresh, StepFate, Course}
use Rattle.mm_call.proofs.Below.{StepsWalk, walk, call_outcome, call_outcome_with, IsPlain, IsWithin, right_messages, IsSameCall}
use Rattle.mm_call.proofs.Below.{BasicCallsAgree, IsBasicMove, agrees-made, plain-made, same_batches, more_batches, Commits, nothing, batch}
use Rattle.mm_call.proofs.Below.{call_commits, foreign_first, GoesAlong, walk_along, batches-made, basic_names, history_after, link_message}
use Rattle.mm_call.proofs.Finding.{Asking, basic_found_same, placed, Placed, summary_then, listed_push, listed_same, called_message}
use Rattle.mm_call.proofs.Finding.{ending_same, fresh_found, ended_batches}
use Rattle.mm_call.proofs.OptHolding.{foreign_digests}

abbrev pub AreBasic : List Move → Type 0
AreBasic moves = AllByRecursion IsBasicMove moves

pub basic-foreign : (values : List (List ℕ)) → AreBasic (map Foreign values)
basic-foreign [] = tt
basic-foreign (v ∷ values) = (tt, basic-foreign values)

basic_along : GoesAlong AreBasic
basic_along = record { more = each_append IsBasicMove; others = basic-foreign }

pub walk_basic : (fates : ℕ → StepFate) (flag fresh : Bool) (b : Batch) → AreBasic (walk fates 1 (ask_steps Basic flag fresh b)).moves
walk_basic fates flag false b = walk_along AreBasic basic_along fates 1 (ask_steps Basic flag false b) tt
walk_basic fates flag true b = walk_along AreBasic basic_along fates 1 (ask_steps Basic flag true b) ((tt, tt), tt)

-- a plain history has no values that count
pub plain_outside : (others : List (List ℕ)) (closed : List (List RegisterEntry)) (is_open : Bool) (items : List RegisterEntry)
    → closed ≡ []
    → is_open ≡ false → AllByRecursion (Contains others) (values_in (items_of_all closed ++ (if is_open then items else [])))
plain_outside others closed is_open items none shut =
    rw (none, shut) tt

-- what is found, where memory isn't wanting
pub unlacked : (found : Result CallFinding Refusal) (lacks : Bool) (f : CallFinding) → finding_unless_wanting found lacks ≡ Ok f
    → found ≡ Ok f
unlacked (Ok found) false f e = e
unlacked _ lacks f e = cc

-- a history that stays plain, with the same batches
pub within_same : (meaning : Meaning) (key : List ℕ) (all others : List (List ℕ)) (asked : List Batch) (y end : History)
    → IsWithin all others asked (basic_instance meaning key) y → IsPlain end → end.batches ≡ y.batches
    → IsWithin all others asked (basic_instance meaning key) end
within_same meaning key all others asked y end within plain same = record {
  sound = plain;
  outside = plain_outside others end.closed end.is_open end.items plain.closed plain.shut;
  listed = listed_same meaning key all y end within.listed same;
  batches = rw same within.batches;
}

-- what the law of Basic needs: nothing of the moves
pub record IsBasicAsked (all others : List (List ℕ)) (asked : List Batch) (i : Instance) (y : History) (offer : List ℕ)
    (b : Batch) : Type 0 where
  pub clear : IsClear all
  pub within : IsWithin all others asked i y
  pub is_asked : Contains asked b
  pub genuine : IsGenuine i y offer
  pub offered : AreMessagesIn (right_messages i b (right_content i offer)) all

module _ (meaning : Meaning) (key : List ℕ) where
  abbrev I : Instance
  I = basic_instance meaning key

  -- what a snapshot names is named after moves too
  pub names_made : (moves : List Move) (y : History) (content : Content) → NamesPosition (basic_instance meaning key) y content
      → NamesPosition (basic_instance meaning key) (state_after_moves (list_level (basic_instance meaning key)) y moves) content
  names_made [] y content n = n
  names_made (m ∷ moves) y content n = names_made moves (history_after (basic_instance meaning key) y m) content
      (basic_names meaning key y m content n)

  -- a call: what it sees and finds
  module _ (all others : List (List ℕ)) (asked : List Batch) (y : History) (d : Digests) (c : Course) (offer : List ℕ) (b : Batch)
      (agrees : DigestsAgree I y d) (a : IsBasicAsked all others asked I y offer b) where
    abbrev moves : List Move
    moves = map Foreign (c.fates 1).brings ++ []

    abbrev sees : History
    sees = state_after_moves (list_level I) y moves

    abbrev seen : Digests
    seen = state_after_moves (digest_level I) d moves

    abbrev at : Result CallFinding Refusal
    at = finding_at I (list_level I) sees b offer

    abbrev found : Result CallFinding Refusal
    found = finding_unless_wanting at c.lacks

    abbrev walked : StepsWalk
    walked = walk c.fates 1 (ask_steps Basic false (is_fresh found) b)

    abbrev end : History
    end = state_after_moves (list_level I) y walked.moves

    same : sees.batches ≡ y.batches
    same = same_batches I moves y (foreign_first (c.fates 1).brings [])

    asking : Asking all I sees offer b
    asking = record {
      clear = a.clear;
      listed = a.offered;
      genuine = λ content right. names_made moves y content (a.genuine content right);
    }

    placed_at : (f : CallFinding) → found ≡ Ok f → Placed all I sees b f
    placed_at f is = placed all I sees offer b asking f (unlacked at c.lacks f is)

    commits : Commits b (is_fresh found) walked
    commits = call_commits Basic c.fates false (is_fresh found) b

    agree : finding_unless_wanting (finding_at I (digest_level I) seen b offer) c.lacks ≡ found
    agree =
        let quiet : AreBasic moves = each_append IsBasicMove (map Foreign (c.fates 1).brings) [] (basic-foreign (c.fates 1).brings) tt in
        ap (λ x. finding_unless_wanting x c.lacks) (basic_found_same meaning key all sees seen offer b
        (agrees-made meaning key moves y d quiet agrees) (plain-made meaning key moves y quiet a.within.sound)
        (listed_same meaning key all y sees a.within.listed same) asking)

    -- what is asked of the history at the end
    within_after : IsPlain end → Commits b (is_fresh found) walked → IsWithin all others asked I end
    within_after plain (nothing none unless) =
        within_same meaning key all others asked y end a.within plain (same_batches I walked.moves y none)
    within_after plain (batch one fresh) =
        let f = fresh_found found fresh in
        let p = placed_at f.0 f.1 in
        let more = more_batches I walked.moves y b one in record {
          sound = plain;
          outside = plain_outside others end.closed end.is_open end.items plain.closed plain.shut;
          listed = listed_push meaning key all y end b a.within.listed
              (subst (λ v. Contains all (link_message (summary_of meaning.id v) b)) same
              (called_message meaning key all sees b f.0.offered.place p.named p.listed p.place (p.fresh f.2))) more;
          batches = rw more (each_append (Contains asked) y.batches (b ∷ []) a.within.batches (a.is_asked, tt));
        }

    pub basic_same : IsSameCall all others asked I (call_outcome I (list_level I) y c offer b) (call_outcome I (digest_level I) d c offer b)
    basic_same =
        let are : AreBasic walked.moves = walk_basic c.fates false (is_fresh found) b in
        let P : Result CallFinding Refusal → Type 0 = λ x. IsSameCall all others asked I
        (call_outcome_with I (list_level I) y sees c b found) (call_outcome_with I (digest_level I) d seen c b x) in
        let C : Result CallFinding Refusal → Type 0 = λ x. Commits b (is_fresh x) walked in
        subst P (sym agree) (record {
          ending = ending_same all I sees y seen b walked sees (state_after_moves (digest_level I) d walked.moves) walked.broken
              found refl (record {
                same = same;
                found_at = placed_at;
                place = λ f is whole.
                    let p = placed_at f is in
                    let fresh = λ (x : f.again ≡ false). p.fresh x ∙ same in
                    let repeat = λ (x : f.again ≡ true). p.repeat x ∙ same in
                    ap (λ v. InBasic (digest_of v)) (summary_then meaning.id y.batches p.named b f.again seen.digest
                    (ap (λ (x : Digests). x.digest) (foreign_digests I (c.fates 1).brings [] d) ∙ agrees.digest) fresh repeat
                    ∙ ap (summary_of meaning.id) (sym (batches-made I walked.moves y
                    ∙ ended_batches y.batches p.named b f.again walked fresh repeat (subst C is commits) whole)));
              }) commits;
          moves = refl;
          steps = refl;
          writes = refl;
          agrees = agrees-made meaning key walked.moves y d are agrees;
          within = within_after (plain-made meaning key walked.moves y are a.within.sound) commits;
        })

pub basic_calls_agree : BasicCallsAgree
basic_calls_agree meaning key all others asked y d course offer b agrees a =
    basic_same meaning key all others asked y d course offer b agrees
    (record { clear = a.clear; within = a.within; is_asked = a.is_asked; genuine = a.genuine; offered = a.offered })
