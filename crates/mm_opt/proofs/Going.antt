-- A call of Opt is the walk of its steps on a course, by digests and by lists. With it: a right
-- offer that the verdict on the history accepts is answered, where a call's steps bring nothing
-- into a segment; what a whole call promises, from what it does.
use Rattle.std.specs.Prelude.{◌≤◌}
use Rattle.std.proofs.Common.{◌&&◌}
use Rattle.std.proofs.lemmas.Slice.Eq.{bytes_eq-Decides}
use Rattle.mm_seal.specs.FieldLaws.{sealed_parts}
use Rattle.mm_seal.specs.Parts.{parts_of}
use Rattle.mm_machine.specs.OpSteps.{CellSays}
use Rattle.mm_machine.specs.declared.change.Change as change
use Rattle.mm_model.specs.Standing.{Life, Live, life_of, is_lost}
use Rattle.mm_model.specs.declared.refusal.Refusal.TheVariants as refusal
use Rattle.mm_call.specs.CallFinding.{CallFinding}
use Rattle.mm_call.specs.CallOutcome.{Fails}
use Rattle.mm_call.specs.CallPremises.{counted_moves, foreign_move_values, IsAsked, standing_items, foreign_items}
use Rattle.mm_call.specs.Checkpoints.{IsComplete}
use Rattle.mm_call.specs.OfferLaws.{shown_same, counts_open}
use Rattle.mm_call.proofs.Above.{Accepts}
use Rattle.mm_call.proofs.Above as completing
use Rattle.mm_opt.specs.AskPromise.{SeesCell}
use Rattle.mm_opt.proofs.Accepting.{AsFound, IsForIn, as_found, two_brought, seen_is, change_inside, change_emptied, change_placed}
use Rattle.mm_opt.proofs.Accepting.{write_opened, reset_kept, placed_kept, seen_cell, read_is}
use Rattle.mm_opt.proofs.Below.{◌≡◌, ℕ, Bool, true, false, List, [], ◌∷◌, length, map, None, Result, Ok, Err, refl, sym, ap, ◌∙◌, subst}
use Rattle.mm_opt.proofs.Below.{arith, fold, Opt, zero_bytes, extended_digest_of, Standing, ReadCell, ReadRegister, next_plan, Meaning}
use Rattle.mm_opt.proofs.Below.{Batch, normal_batch, Cell, IsCell, guard, Instance, opt_instance, Commit, Foreign, Placed, Reset, Digests}
use Rattle.mm_opt.proofs.Below.{DeviceStep, Reading, Changes, Writes, ask_steps, is_long, BatchAnswer, Refusal, AskResult, EndsByFinding}
use Rattle.mm_opt.proofs.Below.{IsCallToEnd, IsWholeCall, IsCallSoFar, IsCallOnCourse, Course, StepFate, step_moves, end_of_refusal}
use Rattle.mm_opt.proofs.Below.{EndsAsCall, Accepted, accepted_at, accepted_in, is_fresh, state_after_moves, digest_level, fault_of}
use Rattle.mm_opt.proofs.Below.{fault_in, cell_at, StandsAt, with_register, IsWrite, steps_of_change, asks, fate_of, ends_fates, tale_on}
use Rattle.mm_opt.proofs.Below.{reading_tale, MakesAll, AsMade, Told, course_by, lacks_in, told_on, refused_reading, told_reading, sees}
use Rattle.mm_opt.proofs.Below.{finds, opt_calls_agree, BatchFinding, Repeat, Change, Extending, Emptying, SegmentOpening, opened_cell}
use Rattle.mm_opt.proofs.Below.{remaining_acts, acts_for, Begun, CallFinishes, CallReads, opt_operation, opt_call, ◌+◌, ◌^◌, ◌++◌, Option}
use Rattle.mm_opt.proofs.Below.{Some, inl, inr, le-leb, if◌then◌else◌, nat_eq, nat_le, bytes_eq, StepFault, size_of, members_of-normal}
use Rattle.mm_opt.proofs.Below.{Content, tag_of, offered_snapshot_of, History, Move, Value, total_of, verdict_on, verdict_by_tests, is_last}
use Rattle.mm_opt.proofs.Below.{digests_of, IsRight, Verdict, Fresh, Again, call_outcome, call_ending_by, result_of_ending, End, Done}
use Rattle.mm_opt.proofs.Below.{StepsWalk, walk, finding_by_verdict, finding_at, finding_with, finding_unless_wanting, CountsHandedFault}
use Rattle.mm_opt.proofs.Below.{IsAccepted, IsAnswered, check_of_verdict, check_by_tests, list_level, items_after_moves, stands_at}
use Rattle.mm_opt.proofs.Below.{asked_for, same_batches, is_agrees, before, sight_is, two_reads, life_bare, opt_tied, foreign_first}
use Rattle.mm_opt.proofs.Below.{foreign_move_values-first, IsLawful, OptAskPromise, calls_blamed, calls_from, calls_untouched, result_of}
use Rattle.mm_opt.proofs.Reading.{ReadsOn, ReadsOwnCell, ReadsRegister, reads_told, room_only, quiet}
use Rattle.mm_opt.proofs.Writing.{refused_first, fits, steps, writes}

-- The steps that commit what was found

changing_none : (flag : Bool) (b : Batch) → steps_of_change flag false b ≡ []
changing_none true b = refl
changing_none false b = refl

module _ (meaning : Meaning) (key barrier : List ℕ) (seen : Digests) (b : Batch) where
  abbrev here : Instance
  here = opt_instance meaning key barrier

  opening_made : (opening : SegmentOpening) → seen.flag ≡ false → opening.value.bytes ≡ guard barrier b
      → opening.next ≡ opened_cell (cell_at here seen) → IsCell (cell_at here seen)
      → MakesAll here seen (remaining_acts (Emptying opening)) (Changes Reset ∷ Changes (Placed b) ∷ Writes (Commit b) ∷ [])
  opening_made opening shut value_is next_is is = (
    change_emptied meaning key barrier seen,
    refl,
    λ (v : List (List ℕ)).
        let e : Digests = state_after_moves (digest_level here) seen (step_moves (Changes Reset) true v) in (
          change_placed meaning key barrier e b opening.value.bytes value_is,
          refl,
          λ (w : List (List ℕ)).
              let r : List ℕ = extended_digest_of (fold extended_digest_of zero_bytes w) (guard barrier b) in
              let same : state_after_moves (digest_level here) e (step_moves (Changes (Placed b)) true w) ≡ with_register seen r =
              ap (λ (y : Digests). state_after_moves (digest_level here) y (step_moves (Changes (Placed b)) true w))
              (reset_kept here seen v)
              ∙ placed_kept here (with_register seen zero_bytes) w b in (
                subst (λ (y : Digests). IsWrite here y opening.next (Commit b)) (sym same)
                    (write_opened meaning key barrier (with_register seen r) b opening.next shut is next_is),
                refl,
                λ (_ : List (List ℕ)). tt,
              ),
        ),
  )

  change_made : (change : change.Change) (x : Result Accepted Refusal) (answer : BatchAnswer) → IsCell (cell_at here seen)
      → IsForIn here seen b change → Accepts here seen b x false answer
      → MakesAll here seen (remaining_acts change) (steps_of_change seen.flag (is_fresh x) b)
  change_made (Extending value) x answer is for so =
      let same : steps_of_change seen.flag (is_fresh x) b ≡ steps_of_change true true b = simp (so.found_is, for.0) in
      subst (MakesAll here seen (remaining_acts (Extending value))) (sym same)
      (change_inside meaning key barrier seen b value.bytes for.0 for.1, refl, λ (_ : List (List ℕ)). tt)
  change_made (Emptying opening) x answer is for so =
      let same : steps_of_change seen.flag (is_fresh x) b ≡ steps_of_change false true b = simp (so.found_is, for.0) in
      subst (MakesAll here seen (remaining_acts (Emptying opening))) (sym same) (opening_made opening for.0 for.1 for.2 is)
  change_made _ x answer is for so = absurd for

  as_made : (found : Result BatchFinding Refusal) (x : Result Accepted Refusal) → IsCell (cell_at here seen) → AsFound here seen b x found
      → AsMade opt_call here seen b x found (steps_of_change seen.flag (is_fresh x) b)
  as_made (Err why) x is so =
      (so, ap (λ (y : Result Accepted Refusal). steps_of_change seen.flag (is_fresh y) b) so ∙ changing_none seen.flag b)
  as_made (Ok (Repeat answer)) x is so =
      let same : steps_of_change seen.flag (is_fresh x) b ≡ [] = simp (so.1.found_is, changing_none seen.flag b) in
      (true, so.1, subst (MakesAll here seen []) (sym same) tt)
  as_made (Ok (Change ready)) x is so = (false, so.1, change_made ready.change x ready.answer is so.0 so.1)

-- The reading steps

unseen : (why : Refusal) (meaning : Meaning) (key barrier : List ℕ) (d : Digests) (old : Standing)
    → StandsAt (opt_instance meaning key barrier) old d → CellSays old (λ bytes. SeesCell meaning.id bytes (Err why)) → ⊥
unseen why meaning key barrier d old s f =
    let i : Instance = opt_instance meaning key barrier in
    let e : Err why ≡ Ok (cell_at i d) = seen_cell meaning key barrier d old (Err why) f s in cc

few_left : (change : change.Change) → length (remaining_acts change) ≤ 49
few_left (Extending value) = omega arith
few_left _ = omega arith

pub few_acts : (it : BatchFinding) → length (acts_for it) ≤ 49
few_acts (Repeat answer) = omega arith
few_acts (Change ready) = few_left ready.change

module _ (meaning : Meaning) (offer : List ℕ) (b : Batch) (old new : Standing) (ended : AskResult) where
  -- where the first step refuses
  refused_to : (why : Refusal) (one : Standing) → ReadsOwnCell meaning.id old one (Err why) → (new ≡ one) × (ended ≡ end_of_refusal why)
      → EndsAsCall Opt meaning old new offer b ended
  refused_to why one r e =
      let fates : List StepFate = fate_of ReadCell old one (fault_of why) r.goes ∷ [] in
      let c : Course = course_by fates old false in
      completing.calls_to Opt meaning old new offer b ended fates false (λ (key barrier : List ℕ). opt_calls_agree meaning key barrier)
      (reading_tale ReadCell old one one new 0 (omega arith) refl opt_call (Err why) ended r.goes few_acts e)
      (λ (key barrier : List ℕ) (d : Digests) (s : StandsAt (opt_instance meaning key barrier) old d).
      let i : Instance = opt_instance meaning key barrier in
      let x : Result Accepted Refusal = finds i d c offer (normal_batch b) in
      subst (λ (st : List DeviceStep). Told i d (sees i d c) c.fates 1 st (normal_batch b) x old new ended)
      (sym (asks d.flag (is_fresh x) (normal_batch b)))
      (refused_reading i d (next_plan old) 1 (Reading ∷ steps_of_change d.flag (is_fresh x) (normal_batch b)) (normal_batch b) x ReadCell
      tt old one one new
      refl (sees i d c) (fault_of why) why ended refl r.goes e
      (λ (quiet : fault_of why ≡ None). absurd (unseen why meaning key barrier d old s (r.finds quiet)))))

  -- where it doesn't
  found_to : (cell : Cell) (found : Result BatchFinding Refusal) (one two : Standing) → ReadsOwnCell meaning.id old one (Ok cell)
      → ReadsRegister meaning offer b cell one two found → EndsByFinding opt_call found two new ended
      → EndsAsCall Opt meaning old new offer b ended
  found_to cell found one two r on e =
      let later : List StepFate = fate_of ReadRegister one on.middle (fault_in found) on.goes ∷ ends_fates opt_call found two new ended e in
      let lacks : Bool = lacks_in found in
      let fates : ℕ → StepFate = (course_by (fate_of ReadCell old one None r.goes ∷ later) old lacks).fates in
      let room = room_only found on.middle two on.room in
      completing.calls_to Opt meaning old new offer b ended (fate_of ReadCell old one None r.goes ∷ later) lacks
      (λ (key barrier : List ℕ). opt_calls_agree meaning key barrier)
      (tale_on ReadCell old one one new later 0 ended (omega arith) r.goes refl
      (reading_tale ReadRegister one on.middle two new 1 (omega arith) room opt_call found ended on.goes few_acts e))
      (λ (key barrier : List ℕ) (d : Digests) (s : StandsAt (opt_instance meaning key barrier) old d).
      let i : Instance = opt_instance meaning key barrier in
      let first : Digests = state_after_moves (digest_level i) d (map Foreign r.goes.others) in
      let seen : Digests = state_after_moves (digest_level i) first (map Foreign on.goes.others) in
      let value : List ℕ = fold extended_digest_of (fold extended_digest_of d.register r.goes.others) on.goes.others in
      let x : Digests → Result Accepted Refusal = λ y. accepted_in (accepted_at i (digest_level i) y (normal_batch b) offer) lacks in
      let makes : fault_in found ≡ None
      → AsMade opt_call i seen (normal_batch b) (x seen) found (steps_of_change d.flag (is_fresh (x seen)) (normal_batch b)) = λ quiet.
      let f = on.finds quiet in
      let mine : Ok cell ≡ Ok (cell_at i d) = seen_cell meaning key barrier d old (Ok cell) (r.finds refl) s in
      let own : cell ≡ cell_at i d = cc in
      let read = read_is meaning key barrier d old one on.middle (fault_in found) r.goes on.goes f.register s f.told in
      subst (λ (y : Digests). AsMade opt_call i y (normal_batch b) (x y) found (steps_of_change d.flag (is_fresh (x y)) (normal_batch b)))
      (sym (two_brought i d r.goes.others on.goes.others))
      (as_made meaning key barrier (with_register d value) (normal_batch b) found (x (with_register d value)) s.spells
      (as_found meaning key barrier (with_register d value) b offer found (rw (own, read) at f.said))) in
      subst (λ (y : Digests). Told i d y fates 1 (ask_steps Opt d.flag (is_fresh (x y)) (normal_batch b)) (normal_batch b)
      (x y) old new ended)
      (sym (seen_is i d r.goes.others on.goes.others))
      (subst (λ (st : List DeviceStep). Told i d seen fates 1 st (normal_batch b) (x seen) old new ended)
      (sym (asks d.flag (is_fresh (x seen)) (normal_batch b)))
      (told_on i d seen (next_plan old) 1 (Reading ∷ steps_of_change d.flag (is_fresh (x seen)) (normal_batch b)) (normal_batch b) (x seen)
      ReadCell tt old one
      one new refl later ended r.goes
      (told_reading i first (next_plan old) 2 (steps_of_change d.flag (is_fresh (x seen)) (normal_batch b)) (normal_batch b) (x seen)
      ReadRegister tt one
      on.middle two new room opt_call found ended on.goes e makes))))

-- a call from its first step to its end
pub calls_to : (meaning : Meaning) (old new : Standing) (offer : List ℕ) (b : Batch) (ended : AskResult)
    → IsCallToEnd opt_call meaning old new offer b ended → EndsAsCall Opt meaning old new offer b ended
calls_to meaning old new offer b ended a =
    let r = reads_told meaning offer b old a.middle a.found a.reads in by_cell r.cell r.middle r.reads r.on
  where
    by_cell : (cell : Result Cell Refusal) (one : Standing) → ReadsOwnCell meaning.id old one cell
        → ReadsOn meaning offer b cell one a.middle a.found → EndsAsCall Opt meaning old new offer b ended
    by_cell (Err why) one r on =
        refused_to meaning offer b old new ended why one r
        (refused_first why a.found meaning one a.middle new offer b ended on a.ends)
    by_cell (Ok cell) one r on = found_to meaning offer b old new ended cell a.found one a.middle r on a.ends

-- a call that was finished from its begin
pub finished_asks : (meaning : Meaning) (old new : Standing) (offer : List ℕ) (b : Batch) (ended : AskResult)
    → CallFinishes (opt_operation meaning offer b) Begun old new ended → IsCallToEnd opt_call meaning old new offer b ended
finished_asks meaning old new offer b ended f =
    completing.finished_asks Opt opt_operation meaning offer b (λ answer. refl) old new ended f

pub finished_to : (meaning : Meaning) (old new : Standing) (offer : List ℕ) (b : Batch) (ended : AskResult)
    → CallFinishes (opt_operation meaning offer b) Begun old new ended → EndsAsCall Opt meaning old new offer b ended
finished_to meaning old new offer b ended f = calls_to meaning old new offer b ended (finished_asks meaning old new offer b ended f)

-- the reading steps of a call, with the steps that commit what they found, are the whole call
pub prepared : (meaning : Meaning) (old new : Standing) (offer : List ℕ) (b : Batch) (found : Result BatchFinding Refusal)
    → CallReads (opt_operation meaning offer b) old new found → IsCallSoFar opt_call meaning old new offer b found
prepared meaning old new offer b found r =
    completing.so_far opt_call meaning old new offer b found
    (λ (after : Standing) (ended : AskResult) (a : IsCallToEnd opt_call meaning old after offer b ended).
    (calls_to meaning old after offer b ended a).calls) r

pub calls_on : (meaning : Meaning) (old new : Standing) (offer : List ℕ) (b : Batch) (result : Result BatchAnswer Refusal)
    → IsWholeCall opt_call meaning old new offer b result → is_long b ≡ false → IsCallOnCourse Opt meaning old new offer b result
calls_on meaning old new offer b result c short =
    let k = c.asks short in
    subst (λ (r : Result BatchAnswer Refusal). IsCallOnCourse Opt meaning old new offer b r) (sym k.gives)
    (calls_to meaning old new offer b k.ended k.asks).calls

-- A right offer that the verdict on the history accepts is answered, where a call's steps bring nothing into a segment.

-- What the verdict accepts.

-- a history on which an offer is accepted is live
live_if : (l : Life) (here repeat : Bool) → IsAccepted (verdict_by_tests l here repeat) → l ≡ Live
live_if Live here repeat a = refl
live_if _ here repeat a = absurd a

-- and so it is accepted on another live history of the same batches
accepted_then : (y sees : History) (p : ℕ) (b : Batch) → sees.batches ≡ y.batches → life_of Opt sees ≡ Live
    → life_of Opt y ≡ Live → IsAccepted (verdict_on Opt y p b) → IsAccepted (verdict_on Opt sees p b)
accepted_then y sees p b same there live a = subst IsAccepted (sym (simp (same, there, live))) a

-- it was found
record IsFound (x : Result CallFinding Refusal) : Type 0 where
  found : CallFinding
  is : x ≡ Ok found

admitted_found : (content : Content) (v : Verdict) → IsAccepted v → IsFound (finding_with content (check_of_verdict v true))
admitted_found content Fresh a = record { found = record { offered = content; again = false }; is = refl }
admitted_found content Again a = record { found = record { offered = content; again = true }; is = refl }
admitted_found content _ a = absurd a

-- what is found at a live history of a right offer, while there are positions left
pub found_right : (i : Instance) (y : History) (offer : List ℕ) (b : Batch) (content : Content) → life_of i.variant y ≡ Live
    → IsRight i offer content → content.position + size_of b ≤ 2 ^ 48
    → finding_at i (list_level i) y b offer ≡ finding_with content (check_of_verdict (verdict_on i.variant y content.position b) true)
found_right i y offer b content live right fits =
    let parts : parts_of i.variant i.meaning.id offer ≡ Ok (offered_snapshot_of i.key content) =
    ap (parts_of i.variant i.meaning.id) right.sealed
    ∙ sealed_parts i.key content i.variant i.meaning.id right.formed right.variant right.id in
    let spelled : i.meaning.is_spelled content.state ≡ true = right.state in
    let tag : List ℕ = tag_of i.key content in
    let v : Verdict = verdict_on i.variant y content.position b in
    let e : check_by_tests (i.meaning.is_spelled content.state) (bytes_eq tag tag) v (nat_le (content.position + size_of b) (2 ^ 48))
    ≡ check_of_verdict v true = rw (spelled, (bytes_eq-Decides tag tag).1 refl, le-leb (content.position + size_of b) (2 ^ 48) fits) refl in
    ap (λ (l : Life). if is_lost l then Err refusal.Lost else finding_by_verdict i (list_level i) y b
    (parts_of i.variant i.meaning.id offer))
    live
    ∙ ap (finding_by_verdict i (list_level i) y b) parts
    ∙ ap (finding_with content) e

accepted_found : (i : Instance) (y : History) (offer : List ℕ) (b : Batch) (content : Content) → life_of i.variant y ≡ Live
    → IsRight i offer content → IsAccepted (verdict_on i.variant y content.position b) → content.position + size_of b ≤ 2 ^ 48
    → IsFound (finding_at i (list_level i) y b offer)
accepted_found i y offer b content live right accepted fits =
    subst IsFound (sym (found_right i y offer b content live right fits))
    (admitted_found content (verdict_on i.variant y content.position b) accepted)

-- a repeat isn't taken for new
repeat_found : (i : Instance) (y : History) (offer : List ℕ) (b : Batch) (content : Content) → life_of i.variant y ≡ Live
    → IsRight i offer content → verdict_on i.variant y content.position b ≡ Again → content.position + size_of b ≤ 2 ^ 48
    → is_fresh (finding_at i (list_level i) y b offer) ≡ false
repeat_found i y offer b content live right again fits =
    ap is_fresh (found_right i y offer b content live right fits)
    ∙ ap (λ (v : Verdict). is_fresh (finding_with content (check_of_verdict v true))) again

-- What a call sees.

nil_front : (xs ys : List (List ℕ)) → xs ++ ys ≡ [] → (xs ≡ []) × (ys ≡ [])
nil_front [] ys e = (refl, e)
nil_front (x ∷ xs) ys e = absurd (cc)

-- where a walk isn't broken off and nobody brought values, the reading steps brought none
none_brought : (v : List (List ℕ)) (e : End) (w : List (List ℕ)) (f : End) (rest : StepsWalk) → (two_reads v e w f rest).broken ≡ None
    → foreign_move_values (two_reads v e w f rest).moves ≡ [] → (v ≡ []) × (w ≡ [])
none_brought v Done w Done rest whole none =
    let one = nil_front v (foreign_move_values (map Foreign w ++ rest.moves))
    (sym (foreign_move_values-first v (map Foreign w ++ rest.moves)) ∙ none) in
    (one.0, (nil_front w (foreign_move_values rest.moves) (sym (foreign_move_values-first w rest.moves) ∙ one.1)).0)
none_brought v Done w (Fails fault made) rest whole none = absurd (cc)
none_brought v (Fails fault made) w f rest whole none = absurd (cc)

-- what a call sees is live, where nobody brought values inside a segment
sees_live : (flag : Bool) (meaning : Meaning) (key barrier : List ℕ) (y : History) (c : Course) → life_of Opt y ≡ Live → y.is_open ≡ flag
    → (flag ≡ true → ((c.fates 1).brings ≡ []) × ((c.fates 2).brings ≡ []))
    → life_of Opt (state_after_moves (list_level (opt_instance meaning key barrier)) y (before c)) ≡ Live
sees_live true meaning key barrier y c live e none =
    let i : Instance = opt_instance meaning key barrier in
    let same : state_after_moves (list_level i) y (before c) ≡ y = λ j. state_after_moves (list_level i) y
    (map Foreign ((none refl).0 j) ++ (map Foreign ((none refl).1 j) ++ [])) in
    ap (life_of Opt) same ∙ live
sees_live false meaning key barrier y c live e none =
    let items = (y.items ++ map Value (c.fates 1).brings) ++ map Value (c.fates 2).brings in
    ap (life_of Opt) (sight_is (opt_instance meaning key barrier) y c) ∙ life_bare y items e ∙ sym (life_bare y y.items e) ∙ live

-- a call that found an offer that is accepted, or lacked memory, or was broken off
answered_by : (broken : Option StepFault) (lacks : Bool) (i : Instance) (sees end : History) (b : Batch) (moves : List Move)
    (old new : Standing) (x : Result CallFinding Refusal) → (broken ≡ None → IsFound x)
    → CountsHandedFault (fault_in
    (result_of_ending (call_ending_by (list_level i) sees end b (finding_unless_wanting x lacks) moves broken))) old.faults new.faults
    → IsAnswered (result_of_ending (call_ending_by (list_level i) sees end b (finding_unless_wanting x lacks) moves broken)) old new
answered_by (Some fault) lacks i sees end b moves old new x finds blames = inr (inr (refl, blames))
answered_by None false i sees end b moves old new x finds blames = rw (finds refl).is (inl refl)
answered_by None true i sees end b moves old new x finds blames = rw (finds refl).is (inr (inl refl))

pub complete : (meaning : Meaning) (old new : Standing) (offer : List ℕ) (batch : Batch) (result : Result BatchAnswer Refusal)
    → IsWholeCall opt_call meaning old new offer batch result → CountsHandedFault (fault_in result) old.faults new.faults
    → IsComplete Opt meaning old new offer batch result
complete meaning old new offer batch result calls blames short key barrier y all others asked items more content s known ends alone a
    shown_so right accepted few =
    let i : Instance = opt_instance meaning key barrier in
    let b : Batch = normal_batch batch in
    let c = calls_on meaning old new offer batch result calls short in
    let fits : content.position + size_of b ≤ 2 ^ 48 =
    subst (λ (members : List (List ℕ)). content.position + length members ≤ 2 ^ 48) (sym (members_of-normal batch)) few in
    let d : Digests = digests_of i y in
    let moves : List Move = (call_outcome i (digest_level i) d c.course offer b).moves in
    let g = c.goes key barrier d (stands_at i old y s) in
    let tie = opt_tied meaning key barrier y d c.course offer b refl in
    let live : life_of Opt y ≡ Live = live_if (life_of Opt y) (nat_eq content.position (total_of y.batches))
    (nat_eq (content.position + size_of b) (total_of y.batches) && is_last y.batches b) accepted in
    let is_asked : IsAsked all others asked i y moves offer b = asked_for meaning key barrier all others asked y c.course offer b old new
    items more a
    (λ busy. shown_so (λ k. busy (record { shut = k.0; not_new = repeat_found i y offer b content live right k.1 fits }))) known g.items
    ends in
    let k = c.continues key barrier y all others asked s is_asked in
    let same = opt_calls_agree meaning key barrier all others asked y d c.course offer b (is_agrees i y d refl) is_asked in
    let v : List (List ℕ) = (c.course.fates 1).brings in
    let u : List (List ℕ) = (c.course.fates 2).brings in
    let sees : History = state_after_moves (list_level i) y (before c.course) in
    let at : Result CallFinding Refusal = finding_at i (list_level i) sees b offer in
    let found : Result CallFinding Refusal = finding_unless_wanting at c.course.lacks in
    let walked : StepsWalk = walk c.course.fates 1 (ask_steps Opt y.is_open (is_fresh found) b) in
    let rest : StepsWalk = walk c.course.fates 3 (steps_of_change y.is_open (is_fresh found) b) in
    let steps : walked ≡ two_reads v (c.course.fates 1).ends u (c.course.fates 2).ends rest = ap (walk c.course.fates 1)
    (asks y.is_open (is_fresh found) b) in
    let brought : walked.broken ≡ None → y.is_open ≡ true → (v ≡ []) × (u ≡ []) = λ whole e.
    let t = counts_open i y d moves e tie in
    let more_is : t.more ≡ more = shown_same old.items (items_after_moves i d moves) items (standing_items y.is_open items)
    more t.more known
    (t.are items) (sym g.items ∙ ends) in
    let empty : foreign_move_values moves ≡ [] = ap (λ (f : Bool). foreign_move_values (counted_moves f moves)) (sym e) ∙ t.tied.values
    ∙ ap foreign_items more_is ∙ alone e in
    none_brought v (c.course.fates 1).ends u (c.course.fates 2).ends rest (ap (λ (x : StepsWalk). x.broken) (sym steps) ∙ whole)
    (ap (λ (x : StepsWalk). foreign_move_values x.moves) (sym steps) ∙ ap foreign_move_values (sym same.moves) ∙ empty) in
    let batches : sees.batches ≡ y.batches = same_batches i (before c.course) y (foreign_first v (map Foreign u ++ []) ∙ foreign_first u [])
    in
    let finds : walked.broken ≡ None → IsFound at = λ whole.
    let there = sees_live y.is_open meaning key barrier y c.course live refl (brought whole) in
    accepted_found i sees offer b content there right (accepted_then y sees content.position b batches there live accepted) fits in
    subst (λ (r : Result BatchAnswer Refusal). IsAnswered r old new) (sym k.gives)
    (answered_by walked.broken c.course.lacks i sees (state_after_moves (list_level i) y walked.moves) b walked.moves old new at finds
    (subst (λ (r : Result BatchAnswer Refusal). CountsHandedFault (fault_in r) old.faults new.faults) k.gives blames))

-- What a whole call promises, from what it does.

pub asked : (meaning : Meaning) → IsLawful meaning → (old new : Standing) (offer : List ℕ) (b : Batch)
    (result : Result BatchAnswer Refusal) → IsWholeCall opt_call meaning old new offer b result
    → OptAskPromise meaning old new offer b result
asked meaning lawful old new offer b result calls =
    let blames = calls_blamed Opt opt_operation meaning old new offer b (quiet meaning offer b) result calls in
    record {
      calls = calls;
      untouched = calls_untouched Opt opt_operation meaning old new offer b (quiet meaning offer b) result calls;
      faults = blames;
      steps = steps meaning old new offer b result calls;
      writes = writes meaning old new offer b result calls;
      fits = fits meaning lawful old new offer b result calls;
      goes = calls_on meaning old new offer b result calls;
      complete = complete meaning old new offer b result calls blames;
    }

-- by how it ended, where the batch isn't too long
pub asked_by : (meaning : Meaning) → IsLawful meaning → (old new : Standing) (offer : List ℕ) (b : Batch) (ended : AskResult)
    (result : Result BatchAnswer Refusal) → is_long b ≡ false → IsCallToEnd opt_call meaning old new offer b ended
    → result ≡ result_of ended → OptAskPromise meaning old new offer b result
asked_by meaning lawful old new offer b ended result short asks gives =
    asked meaning lawful old new offer b result (calls_from opt_call meaning old new offer b ended result short asks gives)
