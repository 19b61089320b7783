-- A world goes on as its seat does; each of its replies can be printed, and an event issues at most
-- one snapshot. With it: a whole call under a plan, in the words of a call that asks and of a
-- checkpoint.
use Rattle.std.specs.Prelude.{MatchResult}
use Rattle.std.specs.Result.{result_map_both}
use Rattle.mm_digest.specs.LengthLaws.{length-zero_bytes, length-start_digest_of}
use Rattle.mm_seal.specs.Cell.{cell_spelling}
use Rattle.mm_seal.specs.FieldLaws.{take_front}
use Rattle.mm_platform.specs.Memory.{new_platform}
use Rattle.mm_machine.specs.OpSteps.{OpEnds}
use Rattle.mm_machine.specs.declared.call.OpResult.{OpResult}
use Rattle.mm_machine.specs.declared.call.OpResult.TheVariants.{Answered, Refused, Lacks, Broken}
use Rattle.mm_machine.specs.declared.call.OpStage.TheVariants.{Begun}
use Rattle.mm_model.specs.declared.answer.BatchAnswer.{BatchAnswer}
use Rattle.mm_call.specs.CallKind.{end_of_machine}
use Rattle.mm_call.specs.Checkpoints.{checkpoint_outcome}
use Rattle.mm_opt.specs.Checkpoints.{closing_fault_in, closing_fault_of, closing_operation, result_of_end, GivesAs}
use Rattle.mm_opt.proofs.Above.{checks_on, closes_whole}
use Rattle.mm_schedule.specs.Events.{Power, Extend}
use Rattle.mm_schedule.specs.Replies.{IsPrintable}
use Rattle.mm_schedule.specs.declared.header.Header.{Header}
use Rattle.mm_ask.specs.WholeAsk.{ask_operation}
use Rattle.mm_ask.proofs.Above.{calls_by, quiet_by}
use Rattle.mm_flight.specs.Flight as flight
use Rattle.mm_flight.proofs.Above.{finish_refuses}
use Rattle.mm_outcome.specs.OneRun.{world_after_reading, rising_bytes_from, world_key, world_barrier}
use Rattle.mm_outcome.specs.Premises.{ask_event_outcome, checkpoint_event_outcome}
use Rattle.mm_world.specs.Calls.{WasPlanned, TellsAsk, TellsCheckpoint, has_closed_segment}
use Rattle.mm_world.specs.declared.call.CallReport.{CallReport}
use Rattle.mm_world.specs.declared.seat.Seat.{Seat}
use Rattle.mm_world.specs.Seat.{instance_at, IsFirst, SeatStaysOn, SeatTakesEvent as SeatFollows, SeatLacksMemory as SeatWants}
use Rattle.mm_world.specs.WorldStanding.{digest_in, flag_in, value_in, digests_in, world_in, KeepsWorld, quiet_call}
use Rattle.mm_world.proofs.Asking.{count_none}
use Rattle.mm_world.proofs.Below.{◌≡◌, ℕ, ◌+◌, ◌-◌, ◌<◌, ◌≤◌, ◌^◌, Bool, true, false, List, [], ◌∷◌, ◌++◌, length, take, drop, Result, Ok}
use Rattle.mm_world.proofs.Below.{Err, IfOk, OnErr, inl, inr, refl, sym, ap, ◌∙◌, subst, arith, ◌==◌, slice_index, Memory, Variant, Basic}
use Rattle.mm_world.proofs.Below.{Opt, Meaning, Cell, flag_byte, Standing, Instance, first_history, Digests, cell_of, issued_bytes}
use Rattle.mm_world.proofs.Below.{register_reading, digest_level, moves_seen, state_seen, reading_steps, instance_by, cell_at, anchor-nil}
use Rattle.mm_world.proofs.Below.{summary-nil, seen_none, meaning_of, Reply, Ask, Checkpoint, course_of, first_digests, WorldState}
use Rattle.mm_world.proofs.Below.{world_of, first_world_state, outcome_in, WorldFollows, WorldLacksMemory, HasDigests, IsQuiet, Event}
use Rattle.mm_world.proofs.Below.{printed, grown, Option, None, Some, Batch, StepFault, Meddle, Stop, is_some, is_long, size_of, Refusal}
use Rattle.mm_world.proofs.Below.{is_broken, end_by_fault, fault_of, Said, SettlesPlan, CheckpointRefusal, has_closing_fault}
use Rattle.mm_world.proofs.Below.{checkpoint_reply, CallComesTo, HasRead, ChecksOwnCell, plan_of}
use Rattle.mm_world.proofs.Calling.{asks_planned, checks_planned}
use Rattle.mm_world.proofs.Seating.{closes_at, told_at}

-- what a cell and a register show

digest_spelled : (c : Cell) → length c.summary.bytes ≡ 32 → take 32 (drop 8 (cell_spelling c)) ≡ c.summary.bytes
unfolding cell_spelling
digest_spelled c h = take_front 32 c.summary.bytes (c.key ++ c.barrier) h

flag_told : (flag : Bool) → (flag_byte flag == 1) ≡ flag
flag_told true = refl
flag_told false = refl

flag_spelled : (c : Cell) → (slice_index (cell_spelling c) 6 == 1) ≡ c.flag
unfolding cell_spelling
flag_spelled c = flag_told c.flag

pub digests_are : (i : Instance) (d : Digests) (s : Standing) (committed : ℕ) → HasDigests i s d
    → digests_in s committed ≡ record d { count = committed }
digests_are i d s committed a =
    let cell = cell_at i d in
    let digest : digest_in s.cell ≡ d.digest = ap digest_in a.at.cell ∙ digest_spelled cell a.at.spells.summary in
    let flag : flag_in s.cell ≡ d.flag = ap flag_in a.at.cell ∙ flag_spelled cell in
    let register : value_in (register_reading s) ≡ d.register = ap value_in a.register in
    λ j. record { digest = digest j; flag = flag j; register = register j; count = committed }

pub counting : (i : Instance) (d : Digests) (s : Standing) (count : ℕ) → HasDigests i s d → HasDigests i s (record d { count = count })
counting i d s count a = record { at = record { spells = a.at.spells; cell = a.at.cell; reads = a.at.reads }; register = a.register }

-- the seat of a world, by an event

module _ (old new : Seat) (world : WorldState) (is : world_in old ≡ world) (k : KeepsWorld old) where
  abbrev i : Instance
  i = world_of old.header

  abbrev d : Digests
  d = digests_in old.platform old.committed

  keeps_so : (at : Digests) → new.header ≡ old.header → HasDigests i new.platform at → IsQuiet new.platform
      → length new.issued.items ≤ 2 ^ 32 - 1 → KeepsWorld new
  keeps_so at header a q few =
      let there : HasDigests i new.platform (digests_in new.platform new.committed) =
      subst (HasDigests i new.platform) (sym (digests_are i at new.platform new.committed a))
      (counting i at new.platform new.committed a) in
      record {
        stands = subst (λ (h : Header). HasDigests (world_of h) new.platform (digests_in new.platform new.committed)) (sym header) there;
        quiet = q;
        few = few;
      }

  keeps_same : SeatStaysOn new.platform old new → new.platform ≡ old.platform → KeepsWorld new
  keeps_same s e =
      let there = subst (λ (x : Standing). HasDigests i x d) (sym e) k.stands in
      keeps_so d s.header there (subst IsQuiet (sym e) k.quiet)
      (subst (λ (x : List (List ℕ)). length x ≤ 2 ^ 32 - 1) (sym s.issued) k.few)

  keeps_wanting : (event : Event) → SeatStaysOn new.platform old new → SeatWants i d event old.platform new.platform → KeepsWorld new
  keeps_wanting (Ask meddles stop offer b) s w = elim w [
    | inl e ↦ keeps_same s e
    | inr e ↦ keeps_so _ s.header e.stands e.quiet (subst (λ (x : List (List ℕ)). length x ≤ 2 ^ 32 - 1) (sym s.issued) k.few)
  ]
  keeps_wanting Power s w = absurd w
  keeps_wanting event s w = keeps_same s w

  -- the world is one after an event, too
  pub keeps_world : (event : Event) (result : Result Reply Memory) → SeatFollows event old new result → length world.issued < 2 ^ 32 - 1
      → KeepsWorld new
  keeps_world event (Ok said) f room =
      let c = f.own world_key world_barrier d k.stands k.quiet refl in
      let more = ap (λ (x : List (List ℕ)). length x) c.issued in
      keeps_so _ f.header c.stands c.quiet
      (omega (arith, room, ap (λ (w : WorldState). length w.issued) is, more, grown (world_in old) event))
  keeps_world event (Err memory) f room =
      let w = f.own world_key world_barrier d k.stands k.quiet refl in keeps_wanting event w.0 w.1

  pub follows_world : (event : Event) (result : Result Reply Memory) → SeatFollows event old new result
      → IfOk result (WorldFollows (outcome_in world event) world (world_in new))
  follows_world event (Ok said) f =
      let c = f.own world_key world_barrier d k.stands k.quiet refl in
      let o = outcome_in (world_in old) event in
      let count = c.committed in
      subst (λ (w : WorldState). WorldFollows (outcome_in w event) w (world_in new) said) is (record {
        reply = c.reply;
        header = f.header;
        digests = digests_are i o.state new.platform new.committed c.stands ∙ (λ j. record o.state { count = count j });
        issued = c.issued;
        steps = c.steps;
        writes = c.writes;
      })
  follows_world event (Err memory) f = tt

  -- memory was wanting

  same_world : SeatStaysOn new.platform old new → new.platform ≡ old.platform → world_in new ≡ world
  same_world s e =
      let header = s.header in
      let issued = s.issued in
      let committed = s.committed in
      let there : world_in new ≡ world_in old = λ j. record {
        header = header j;
        digests = digests_in (e j) (committed j);
        issued = issued j;
        steps = (e j).steps;
        writes = (e j).writes;
      } in
      there ∙ is

  wanting : (event : Event) → SeatStaysOn new.platform old new → SeatWants i d event old.platform new.platform
      → WorldLacksMemory event world (world_in new)
  wanting (Ask meddles stop offer b) s w = elim w [
    | inl e ↦ inl (same_world s e)
    | inr e ↦
        let c = course_of stop meddles in
        let seen = state_seen i (digest_level i) d c in
        let n : seen.count ≡ old.committed = count_none i (moves_seen c.fates (reading_steps i.variant) 1) d
        (seen_none c.fates (reading_steps i.variant) 1) in
        let header = s.header in
        let issued = s.issued in
        let count = s.committed ∙ sym n in
        let there : digests_in new.platform new.committed ≡ seen = digests_are i seen new.platform new.committed e.stands
        ∙ (λ j. record seen { count = count j }) in
        let steps = e.steps in
        let writes = e.writes in
        let read : world_in new ≡ world_after_reading stop meddles (world_in old) = λ j. record {
          header = header j;
          digests = there j;
          issued = issued j;
          steps = steps j;
          writes = writes j;
        } in
        inr (read ∙ ap (world_after_reading stop meddles) is)
  ]
  wanting Power s w = absurd w
  wanting (Checkpoint meddles stop) s w = same_world s w
  wanting (Extend value) s w = same_world s w

  pub wants_world : (event : Event) (result : Result Reply Memory) → SeatFollows event old new result
      → OnErr result (WorldLacksMemory event world (world_in new))
  wants_world event (Ok said) f = tt
  wants_world event (Err memory) f =
      let w = f.own world_key world_barrier d k.stands k.quiet refl in wanting event w.0 w.1

  -- the reply can be printed, and an event issues at most one snapshot
  pub printed_world : (event : Event) (result : Result Reply Memory) → SeatFollows event old new result → IfOk result IsPrintable
  printed_world event (Ok said) f =
      let c = f.own world_key world_barrier d k.stands k.quiet refl in
      subst (λ (r : Reply). IsPrintable r) (sym c.reply) (printed (world_in old) event)
  printed_world event (Err memory) f = tt

  pub grown_world : (event : Event) (result : Result Reply Memory) → SeatFollows event old new result
      → length new.issued.items ≤ length world.issued + 1
  grown_world event (Ok said) f =
      let c = f.own world_key world_barrier d k.stands k.quiet refl in
      let more = ap (λ (x : List (List ℕ)). length x) c.issued in
      omega (arith, ap (λ (w : WorldState). length w.issued) is, more, grown (world_in old) event)
  grown_world event (Err memory) f =
      let w = f.own world_key world_barrier d k.stands k.quiet refl in
      let same = ap (λ (x : List (List ℕ)). length x) w.0.issued in
      omega (arith, ap (λ (w : WorldState). length w.issued) is, same)

-- a new world

length-world_key : length world_key ≡ 32
unfolding rising_bytes_from
length-world_key = refl

length-world_barrier : length world_barrier ≡ 32
unfolding rising_bytes_from
length-world_barrier = refl

pub stands_new : (variant : Variant) (meaning : Meaning) (key barrier cell : List ℕ) → length key ≡ 32 → length barrier ≡ 32
    → cell ≡ cell_spelling (cell_of (instance_by variant meaning key barrier) first_history)
    → HasDigests (instance_by variant meaning key barrier) (new_platform cell) (first_digests (instance_by variant meaning key barrier))
stands_new Basic meaning key barrier cell length-key length-barrier e =
    let i = instance_by Basic meaning key barrier in
    record {
      at = record {
        spells =
            record {
              summary = length-start_digest_of Basic meaning.id;
              key = length-key;
              barrier = length-zero_bytes;
              variant =
                  (refl, refl);
            };
        cell = rw (e, summary-nil meaning.id) refl;
        reads = tt;
      };
      register = refl;
    }
stands_new Opt meaning key barrier cell length-key length-barrier e =
    let i = instance_by Opt meaning key barrier in
    record {
      at = record {
        spells = record { summary = length-start_digest_of Opt meaning.id; key = length-key; barrier = length-barrier; variant = tt };
        cell = rw (e, anchor-nil meaning.id) refl;
        reads = refl;
      };
      register = refl;
    }

module _ (h : Header) (key barrier : List ℕ) (seat : Seat) (same_key : key ≡ world_key) (same_barrier : barrier ≡ world_barrier)
    (first : IsFirst h key barrier seat) where
  instance_same : instance_at h key barrier ≡ world_of h
  instance_same = λ j. instance_at h (same_key j) (same_barrier j)

  abbrev cell_by : Instance → List ℕ
  cell_by i = cell_spelling (cell_of i first_history)

  platform_same : seat.platform ≡ new_platform (cell_by (world_of h))
  platform_same = first.platform ∙ ap (λ (i : Instance). new_platform (cell_by i)) instance_same

  stands_first : HasDigests (world_of h) seat.platform (first_digests (world_of h))
  stands_first = subst (λ (x : Standing). HasDigests (world_of h) x (first_digests (world_of h))) (sym platform_same)
      (stands_new h.variant (meaning_of h.«module») world_key world_barrier (cell_by (world_of h)) length-world_key
      length-world_barrier refl)

  pub first_keeps : KeepsWorld seat
  first_keeps =
      let at = first_digests (world_of h) in
      let there : HasDigests (world_of h) seat.platform (digests_in seat.platform seat.committed) =
      subst (HasDigests (world_of h) seat.platform) (sym (digests_are (world_of h) at seat.platform seat.committed stands_first))
      (counting (world_of h) at seat.platform seat.committed stands_first) in
      record {
        stands = subst (λ (x : Header). HasDigests (world_of x) seat.platform (digests_in seat.platform seat.committed))
            (sym first.headed) there;
        quiet = record {
          is_on = ap (λ (x : Standing). x.is_on) platform_same;
          plan = ap (λ (x : Standing). x.plan) platform_same;
        };
        few = omega (arith, ap (λ (x : List (List ℕ)). length x) first.issued);
      }

  pub first_world : world_in seat ≡ first_world_state h
  first_world =
      let at = first_digests (world_of h) in
      let count = first.committed in
      let there : digests_in seat.platform seat.committed ≡ at =
      digests_are (world_of h) at seat.platform seat.committed stands_first ∙ (λ j. record at { count = count j }) in
      let issued = first.issued ∙ ap (λ (i : Instance). issued_bytes i first_history ∷ []) instance_same in
      let header = first.headed in
      let platform = platform_same in
      λ j. record {
        header = header j;
        digests = there j;
        issued = issued j;
        steps = (platform j).steps;
        writes = (platform j).writes;
      }

-- A whole call under a plan, in the words of a call that asks and of a checkpoint.

-- A refusal hands no fault on: so a call was broken off exactly where the machine says so

refused_unbroken : (why : Refusal) → fault_of why ≡ None → is_broken (end_by_fault (fault_of why) why) ≡ false
refused_unbroken why e = ap (λ (f : Option StepFault). is_broken (end_by_fault f why)) e

pub asks_broken : (variant : Variant) (meaning : Meaning) (offer : List ℕ) (b : Batch) (old new : Standing)
    (end : OpResult BatchAnswer Refusal) → OpEnds (ask_operation variant meaning offer b) Begun old new end → is_broken (end_of_machine end)
    ≡ flight.is_broken end
asks_broken variant meaning offer b old new (Answered answer) f = refl
asks_broken variant meaning offer b old new (Refused why) f =
    let q = quiet_by meaning offer b variant in
    refused_unbroken why
    (finish_refuses (ask_operation variant meaning offer b) (λ (why : Refusal). fault_of why ≡ None) q.sees q.finds Begun old new why f)
asks_broken variant meaning offer b old new Lacks f = refl
asks_broken variant meaning offer b old new (Broken fault commits) f = refl

given_quiet : {A B : Type 0} (form : A → B) (found : Result A CheckpointRefusal) (why : CheckpointRefusal)
    → Err why ≡ result_map_both form (λ why. why) found → closing_fault_in found ≡ None → closing_fault_of why ≡ None
given_quiet form (Ok it) why e none = absurd (cc)
given_quiet form (Err it) why e none = let same : why ≡ it = cc in rw same none

gives_quiet : {A B : Type 0} (form : A → B) (finds : Result A CheckpointRefusal → Type 0) (why : CheckpointRefusal)
    → GivesAs form finds (Err why) → closing_fault_of why ≡ None
gives_quiet form finds why g = given_quiet form g.found why g.gives g.quiet

refusal_quiet : (old new : Standing) (why : CheckpointRefusal) → OpEnds closing_operation Begun old new (Refused why) → closing_fault_of why
    ≡ None
refusal_quiet old new why f =
    finish_refuses closing_operation (λ (why : CheckpointRefusal). closing_fault_of why ≡ None) (λ bytes why g. gives_quiet _ _ why g)
    (λ cell register why g. gives_quiet _ _ why g) Begun old new why f

pub closes_broken : (old new : Standing) (end : OpResult Said CheckpointRefusal) → OpEnds closing_operation Begun old new end
    → has_closing_fault (result_of_end end) ≡ flight.is_broken end
closes_broken old new (Answered it) f = refl
closes_broken old new (Refused why) f = ap is_some (refusal_quiet old new why f)
closes_broken old new Lacks f = refl
closes_broken old new (Broken fault commits) f = refl

-- what such a call came to

module _ (old new : Standing) (meddles : List Meddle) (stop : Stop) where
  pub asks_came : (variant : Variant) (meaning : Meaning) (bytes : List ℕ) (b : Batch) (result : Result CallReport Memory)
      → is_long b ≡ false
      → WasPlanned (ask_operation variant meaning bytes b) (TellsAsk b) meddles stop old new result
      → (issued : List (List ℕ)) (key barrier : List ℕ) (d : Digests)
      → (let i = instance_by variant meaning key barrier in HasDigests i old d → IsQuiet old → MatchResult result
      (CallComesTo i (ask_event_outcome i (digest_level i) d issued meddles stop (Some bytes) b) d.count issued old new)
      (λ _. HasRead i d meddles stop old new))
  asks_came variant meaning bytes b result short w issued key barrier d s q =
      let at : Standing = record old { plan = Some (plan_of stop meddles) } in
      asks_planned variant meaning old w.middle new meddles stop bytes b (size_of b) (end_of_machine w.ended) result short refl
      (calls_by meaning bytes b at w.middle variant w.ended w.ends)
      (subst (λ x. SettlesPlan stop x w.middle new) (sym (asks_broken variant meaning bytes b at w.middle w.ended w.ends)) w.settles)
      w.told issued key barrier d s q

  -- a checkpoint is told so, by how the machine ended
  pub closes_told : (result : Result CallReport Memory) (w : WasPlanned closing_operation TellsCheckpoint meddles stop old new result)
      → old.is_on ≡ true
      → checkpoint_reply stop (has_closed_segment stop w.ended) (result_of_end w.ended) ≡ checkpoint_reply stop (closes_at stop)
      (result_of_end w.ended)
  closes_told result w on =
      let at : Standing = record old { plan = Some (plan_of stop meddles) } in
      told_at stop meddles old w.middle w.ended on
      (λ why is. refusal_quiet at w.middle why
      (subst (λ (e : OpResult Said CheckpointRefusal). OpEnds closing_operation Begun at w.middle e) is w.ends)) w.ends

  pub closes_came : (variant : Variant) (meaning : Meaning) (result : Result CallReport Memory)
      (w : WasPlanned closing_operation TellsCheckpoint meddles stop old new result) (issued : List (List ℕ))
      → ChecksOwnCell variant meaning old new issued meddles stop
      (Ok (checkpoint_reply stop (has_closed_segment stop w.ended) (result_of_end w.ended)))
  closes_came variant meaning result w issued = λ key barrier d s q.
      let at : Standing = record old { plan = Some (plan_of stop meddles) } in
      let said = result_of_end w.ended in
      let i = instance_by variant meaning key barrier in
      subst (λ (r : Reply). CallComesTo i (checkpoint_event_outcome (digest_level i) stop issued
      (checkpoint_outcome i (digest_level i) d (course_of stop meddles)))
      d.count issued old new (quiet_call r)) (sym (closes_told result w q.is_on))
      (checks_planned old w.middle new meddles stop said (checks_on at w.middle said (closes_whole w.middle w.ended at w.ends))
      (subst (λ x. SettlesPlan stop x w.middle new) (sym (closes_broken at w.middle w.ended w.ends)) w.settles) variant meaning issued
      key barrier d s q)
