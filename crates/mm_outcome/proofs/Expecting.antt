-- In either variant, what is told by digests is what is expected.
use Rattle.mm_outcome.proofs.Below.{ℕ, List, refl, sym, Contains, Meaning, Batch, Instance, basic_instance, History, Foreign, PowerMove}
use Rattle.mm_outcome.proofs.Below.{Move, history_after, IsClear, reads_zero, IsPlain, IsWithin, agrees-moved, plain-moved, summary-nil}
use Rattle.mm_outcome.proofs.Below.{plain_outside, basic_same, basic_checkpoint_same, course_of, EventsAgree, AreMessagesIn}
use Rattle.mm_outcome.proofs.Below.{history_messages, counted_part, AllByRecursion, KeepsHistory, first_digests, first_history}
use Rattle.mm_outcome.proofs.Below.{start_message, Basic, ◌≡◌, ◌+◌, Bool, true, false, cond, [], ◌∷◌, ◌++◌, map, ap, ◌∙◌, subst, ◌==◌}
use Rattle.mm_outcome.proofs.Below.{if◌then◌else◌, filter, append-nil, Opt, Meddle, opt_instance, Value, Reset, AreNoGuards, Digests}
use Rattle.mm_outcome.proofs.Below.{digests_after, DeviceStep, Reads, Changes, Writes, ask_steps, checkpoint_steps, each_left, each_right}
use Rattle.mm_outcome.proofs.Below.{each_append, sound_moved, outside_moved, first_sound, first_outside, list_level, state_after_moves}
use Rattle.mm_outcome.proofs.Below.{finding_at, is_fresh, finding_unless_wanting, End, Done, Fails, StepFate, Course, StepsWalk, step_moves}
use Rattle.mm_outcome.proofs.Below.{walk_from_step, walk, state_seen, counted_moves, moves_from_reset, messages_of_moves}
use Rattle.mm_outcome.proofs.Below.{foreign_move_values, anchor-nil, opt_agrees_moved, foreign_may, power_may, power_brings, holds_moved}
use Rattle.mm_outcome.proofs.Below.{foreign_fine, asks, history_with_values, taking_is, messages-made, foreign_move_values-append}
use Rattle.mm_outcome.proofs.Below.{foreign_move_values-foreign, foreign_move_values-first, moves_from_reset-foreign, AreOwn, own_asked}
use Rattle.mm_outcome.proofs.Below.{own_checked, Shape, still, reset, shape, bare, listed_bare, holds_open, within_of, within_items}
use Rattle.mm_outcome.proofs.Below.{reset_messages, opt_calls_agree_by_lists, read_moves, opt_checkpoints_agree_by_lists}
use Rattle.mm_call.specs.OfferLaws.{IsBasicMove}
use Rattle.mm_outcome.proofs.Below.{Variant, instance_by, AreApartIn, IsExpected, zero_bytes, run_messages, foreign_values, asked_batches}
use Rattle.mm_outcome.proofs.Following.{Variants, event_same, expected_from}
use Rattle.mm_platform.specs.Standing.{due_values}
use Rattle.mm_model.specs.Messages.{move_messages}

-- Basic

module _ (meaning : Meaning) (key : List ℕ) (all others : List (List ℕ)) (asked_for : List Batch) where
  abbrev it : Instance
  it = basic_instance meaning key

  -- what stands in the place of the register's items doesn't matter
  plain_within : (y : History) (m : Move) → IsBasicMove m → IsWithin all others asked_for it y → (let z : History = history_after it y m in
      AreMessagesIn (history_messages it (counted_part z)) all → AllByRecursion (Contains asked_for) z.batches
      → IsWithin all others asked_for it z)
  plain_within y m is w listed batches =
      let z : History = history_after it y m in let plain : IsPlain z = plain-moved meaning key y m is w.sound in record {
        sound = plain;
        outside = plain_outside others z.closed z.is_open z.items plain.closed plain.shut;
        listed = listed;
        batches = batches;
      }

  pub basic_begins : Contains all (start_message Basic meaning.id) → KeepsHistory all others asked_for it first_history (first_digests it)
  basic_begins first = record {
    agrees = record { digest = summary-nil meaning.id; flag = refl; register = sym reads_zero; count = refl };
    within = record { sound = record { closed = refl; shut = refl }; outside = tt; listed = (first, tt); batches = tt };
  }

  pub basic_gives : IsClear all → Variants all others asked_for it
  basic_gives clear = record {
    calls = λ y d stop meddles bytes b k a. basic_same meaning key all others asked_for y d (course_of stop meddles) bytes b k.agrees
        (record { clear = clear; within = k.within; is_asked = a.is_asked; genuine = a.genuine; offered = a.listed });
    checkpoints = λ y d stop meddles k outside messages.
        basic_checkpoint_same meaning key all others asked_for y d (course_of stop meddles) k.agrees k.within;
    power = λ y d k. record {
      agrees = agrees-moved meaning key y d PowerMove tt k.agrees;
      within = plain_within y PowerMove tt k.within k.within.listed k.within.batches;
    };
    foreign = λ y d v k c messages. record {
      agrees = agrees-moved meaning key y d (Foreign v) tt k.agrees;
      within = plain_within y (Foreign v) tt k.within k.within.listed k.within.batches;
    };
    starts = basic_begins;
  }

-- Opt

-- the values that are due before a step are among those of the meddles

due_by : (others : List (List ℕ)) (hit : Bool) (m : Meddle) (xs : List Meddle) → Contains others m.value.bytes
    → AllByRecursion (Contains others) (map (λ (x : Meddle). x.value.bytes) xs)
    → AllByRecursion (Contains others) (map (λ (x : Meddle). x.value.bytes) (cond hit (m ∷ xs) xs))
due_by others true m xs c h = (c, h)
due_by others false m xs c h = h

due_outside : (others : List (List ℕ)) (meddles : List Meddle)
    → AllByRecursion (Contains others) (map (λ (m : Meddle). m.value.bytes) meddles)
    → (n : ℕ) → AllByRecursion (Contains others) (due_values n meddles)
due_outside others [] h n = tt
due_outside others (m ∷ meddles) h n =
    due_by others (m.step == n) m (filter (λ (x : Meddle). x.step == n) meddles) h.0 (due_outside others meddles h.1 n)

-- what others put in among the moves of a walk is what comes before its steps

step_brings : (step : DeviceStep) (made : Bool) (values : List (List ℕ)) → AreOwn (step ∷ [])
    → foreign_move_values (step_moves step made values) ≡ values
step_brings Reads made values own = foreign_move_values-foreign values
step_brings (Changes m) true values own = foreign_move_values-first values (m ∷ []) ∙ ap (λ w. values ++ w) own.0 ∙ append-nil values
step_brings (Changes m) false values own = foreign_move_values-first values [] ∙ append-nil values
step_brings (Writes m) true values own =
    foreign_move_values-append (m ∷ []) (map Foreign values) ∙ ap (λ w. w ++ foreign_move_values (map Foreign values)) own.0
    ∙ foreign_move_values-foreign values
step_brings (Writes m) false values own = foreign_move_values-foreign values

module _ (others : List (List ℕ)) where
  abbrev Among : List (List ℕ) → Type 0
  Among values = AllByRecursion (Contains others) values

  step_among : (step : DeviceStep) (values : List (List ℕ)) (ends : End) (rest : StepsWalk) → AreOwn (step ∷ []) → Among values
      → Among (foreign_move_values rest.moves) → Among (foreign_move_values (walk_from_step step values ends rest).moves)
  step_among step values Done rest own h r = subst Among (sym (foreign_move_values-append (step_moves step true values) rest.moves
      ∙ ap (λ w. w ++ foreign_move_values rest.moves) (step_brings step true values own))) (each_append (Contains others) values _ h r)
  step_among step values (Fails fault made) rest own h r = subst Among (sym (step_brings step made values own)) h

  walk_among : (fates : ℕ → StepFate) (steps : List DeviceStep) (n : ℕ) → AreOwn steps → ((k : ℕ) → Among (fates k).brings)
      → Among (foreign_move_values (walk fates n steps).moves)
  walk_among fates [] n own h = tt
  walk_among fates (Reads ∷ steps) n own h =
      step_among Reads (fates n).brings (fates n).ends (walk fates (n + 1) steps) tt (h n) (walk_among fates steps (n + 1) own h)
  walk_among fates (Changes m ∷ steps) n own h = step_among (Changes m) (fates n).brings (fates n).ends (walk fates (n + 1) steps)
      (own.0, tt) (h n) (walk_among fates steps (n + 1) own.1 h)
  walk_among fates (Writes m ∷ steps) n own h = step_among (Writes m) (fates n).brings (fates n).ends (walk fates (n + 1) steps)
      (own.0, tt) (h n) (walk_among fates steps (n + 1) own.1 h)

-- what counts of moves is listed, where all their messages are

module _ (meaning : Meaning) (key barrier : List ℕ) (all others : List (List ℕ)) (y : History) where
  abbrev I : Instance
  I = opt_instance meaning key barrier

  -- what is listed of moves, and what of them others made
  abbrev AreListed : History → List Move → Type 0
  AreListed z moves = AreMessagesIn (messages_of_moves I z moves) all × AllByRecursion (Contains others) (foreign_move_values moves)

  -- what counts, by whether a segment is open
  abbrev Counted : Bool → List Move → Type 0
  Counted flag moves = AreListed (record y { items = if flag then y.items else [] }) (counted_moves flag moves)

  none_counted : (values : List (List ℕ)) → Counted false (map Foreign values)
  none_counted values =
      let none : moves_from_reset (map Foreign values) ≡ [] = ap moves_from_reset (sym (append-nil (map Foreign values)))
      ∙ moves_from_reset-foreign values [] in
      subst (AreListed (bare y)) (sym none) (tt, tt)

  reset_counted : (values : List (List ℕ)) (rest : List Move) → AreListed y (map Foreign values ++ Reset ∷ rest)
      → Counted false (map Foreign values ++ Reset ∷ rest)
  reset_counted values rest listed =
      let W : List (List ℕ) → Type 0 = λ v. AreMessagesIn v all in
      let back = each_right (Contains all) (messages_of_moves I y (map Foreign values))
      (messages_of_moves I (state_after_moves (list_level I) y (map Foreign values)) (Reset ∷ rest))
      (subst W (messages-made I (map Foreign values) (Reset ∷ rest) y) listed.0) in
      let after : AreMessagesIn (messages_of_moves I (bare y) rest) all =
      each_right (Contains all) (move_messages I (history_with_values y values) Reset)
      (messages_of_moves I (bare y) rest) (subst (λ z. AreMessagesIn (messages_of_moves I z (Reset ∷ rest)) all)
      (taking_is I values y) back) in
      subst (AreListed (bare y)) (sym (moves_from_reset-foreign values (Reset ∷ rest))) (
        subst (λ w. AreMessagesIn (w ++ messages_of_moves I (bare y) rest) all)
            (sym (reset_messages meaning key barrier (bare y) y.is_open))
            after,
        each_right (Contains others) values (foreign_move_values rest)
            (subst (AllByRecursion (Contains others)) (foreign_move_values-first values (Reset ∷ rest)) listed.1),
      )

  shape_counted : (fates : ℕ → StepFate) (fresh : Bool) (b : Batch) (moves : List Move) → Shape fates fresh b moves → AreListed y moves
      → Counted false moves
  shape_counted fates fresh b moves (still values is) listed = subst (Counted false) (sym is) (none_counted values)
  shape_counted fates fresh b moves (reset values rest is k) listed =
      subst (Counted false) (sym is) (reset_counted values rest (subst (AreListed y) is listed))

  call_counted : (fates : ℕ → StepFate) (flag fresh : Bool) (b : Batch) → (let moves : List Move = (walk fates 1
      (ask_steps Opt flag fresh b)).moves in AreListed y moves → Counted flag moves)
  call_counted fates true fresh b listed = listed
  call_counted fates false fresh b listed = shape_counted fates fresh b (walk fates 1 (ask_steps Opt false fresh b)).moves
      (subst (λ s. Shape fates fresh b (walk fates 1 s).moves) (sym (asks false fresh b)) (shape fates fresh b)) listed

  checkpoint_counted : (fates : ℕ → StepFate) (flag lost : Bool) → (let moves : List Move = (walk fates 1
      (checkpoint_steps Opt flag lost)).moves in AreListed y moves → Counted flag moves)
  checkpoint_counted fates true lost listed = listed
  checkpoint_counted fates false lost listed =
      subst (Counted false) (sym (read_moves (fates 1).brings (fates 1).ends)) (none_counted (fates 1).brings)

-- a loss of power, and a value of others

power_listed : (meaning : Meaning) (key barrier : List ℕ) (all : List (List ℕ)) (y : History) (flag : Bool)
    → AreMessagesIn (history_messages (opt_instance meaning key barrier) (record y { items = if flag then y.items else [] })) all
    → AreMessagesIn (history_messages (opt_instance meaning key barrier) (record y { items = if flag then [] else [] })) all
power_listed meaning key barrier all y true h = listed_bare meaning key barrier all y h
power_listed meaning key barrier all y false h = h

module _ (meaning : Meaning) (key barrier : List ℕ) (all others : List (List ℕ)) (asked_for : List Batch) where
  abbrev i : Instance
  i = opt_instance meaning key barrier

  abbrev Kept : History → Digests → Type 0
  Kept y d = KeepsHistory all others asked_for i y d

  power_keeps : (y : History) (d : Digests) → Kept y d → Kept (history_after i y PowerMove) (digests_after i d PowerMove)
  power_keeps y d k = let may = power_may i y y.is_open in record {
    agrees = opt_agrees_moved meaning key barrier y d PowerMove may k.agrees;
    within = record {
      sound = sound_moved meaning key barrier y PowerMove k.within.sound may;
      outside = outside_moved meaning key barrier others y PowerMove k.within.outside may (power_brings others y y.is_open);
      listed = power_listed meaning key barrier all y y.is_open k.within.listed;
      batches = k.within.batches;
    };
  }

  foreign_by : (flag : Bool) (y : History) (d : Digests) (v : List ℕ) → y.is_open ≡ flag → Kept y d → Contains others v
      → AreMessagesIn (move_messages i y (Foreign v)) all → IsWithin all others asked_for i (history_after i y (Foreign v))
  foreign_by true y d v e k c message =
      let h = holds_open meaning key barrier all others asked_for y d e k.agrees k.within in
      within_of meaning key barrier all others asked_for (history_after i y (Foreign v)) (digests_after i d (Foreign v))
      (holds_moved meaning key barrier all others asked_for y d (Foreign v) h (foreign_fine meaning key barrier all others asked_for y v c)
      message)
  foreign_by false y d v e k c message = within_items meaning key barrier all others asked_for y (y.items ++ Value v ∷ []) e k.within

  pub opt_begins : Contains all (start_message Opt meaning.id) → Kept first_history (first_digests i)
  opt_begins first = record {
    agrees = record { digest = anchor-nil meaning.id; flag = refl; register = sym reads_zero; count = refl };
    within = record { sound = first_sound; outside = first_outside others; listed = (first, tt); batches = tt };
  }

  pub opt_gives : IsClear all → AreNoGuards barrier others asked_for → Variants all others asked_for i
  opt_gives clear apart = record {
    calls = λ y d stop meddles bytes b k a.
        let c : Course = course_of stop meddles in
        let fresh : Bool = is_fresh
        (finding_unless_wanting (finding_at i (list_level i) (state_seen i (list_level i) y c) b bytes) c.lacks) in
        let among = walk_among others c.fates (ask_steps Opt y.is_open fresh b) 1 (own_asked y.is_open fresh b)
        (λ n. due_outside others meddles a.outside n) in
        let counts = call_counted meaning key barrier all others y c.fates y.is_open fresh b (a.messages, among) in
        opt_calls_agree_by_lists meaning key barrier all others asked_for y d c bytes b k.agrees (record {
          clear = clear;
          apart = apart;
          within = k.within;
          is_asked = a.is_asked;
          genuine = a.genuine;
          offered = a.listed;
          messages = counts.0;
          values = counts.1;
        });
    checkpoints = λ y d stop meddles k outside messages.
        let c : Course = course_of stop meddles in let lost : Bool = (list_level i).is_lost (state_seen i (list_level i) y c) in
        let among = walk_among others c.fates (checkpoint_steps Opt y.is_open lost) 1 (own_checked y.is_open lost)
        (λ n. due_outside others meddles outside n) in
        let counts = checkpoint_counted meaning key barrier all others y c.fates y.is_open lost (messages, among) in
        opt_checkpoints_agree_by_lists meaning key barrier all others asked_for y d c k.agrees
        (record { clear = clear; within = k.within; messages = counts.0; values = counts.1 });
    power = power_keeps;
    foreign = λ y d v k c messages. record {
      agrees = opt_agrees_moved meaning key barrier y d (Foreign v) (foreign_may i y y.is_open v) k.agrees;
      within = foreign_by y.is_open y d v refl k c (each_left (Contains all) (move_messages i y (Foreign v)) [] messages);
    };
    starts = opt_begins;
  }

-- what each variant gives, where no value of others is the guard of a batch that is asked
gives : (variant : Variant) (meaning : Meaning) (key barrier : List ℕ) (all others : List (List ℕ)) (asked_for : List Batch) → IsClear all
    → (let i = instance_by variant meaning key barrier in AreApartIn i.variant i others asked_for → Variants all others asked_for i)
gives Basic meaning key barrier all others asked_for clear apart = basic_gives meaning key all others asked_for clear
gives Opt meaning key barrier all others asked_for clear apart = opt_gives meaning key barrier all others asked_for clear (apart refl)

module _ (variant : Variant) (meaning : Meaning) (key barrier : List ℕ) where
  pub is_expected : IsExpected (instance_by variant meaning key barrier)
  is_expected events clear genuine =
      let i = instance_by variant meaning key barrier in
      let own = gives variant meaning key barrier (run_messages i events) (foreign_values events) (asked_batches events) in
      expected_from i events (own clear.clear clear.apart) genuine

  pub events_agree : EventsAgree (instance_by variant meaning key barrier)
  events_agree all others asked_for clear apart y d issued event k w =
      event_same all others asked_for (instance_by variant meaning key barrier)
      (gives variant meaning key barrier all others asked_for clear apart) y d issued event k w

pub basic_events_agree : (meaning : Meaning) (key : List ℕ) → EventsAgree (basic_instance meaning key)
basic_events_agree meaning key = events_agree Basic meaning key zero_bytes

pub opt_events_agree : (meaning : Meaning) (key barrier : List ℕ) → EventsAgree (opt_instance meaning key barrier)
opt_events_agree meaning key barrier = events_agree Opt meaning key barrier
