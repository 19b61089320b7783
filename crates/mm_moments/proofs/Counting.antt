-- The moments of a call are its steps, one behind another, as many as its platform counted. With
-- it: what holds of each element of a list; a call for a request that is killed at one of its steps
-- is one that its device broke off.
use Rattle.std.specs.List.{AllByRecursion}
use Rattle.std.proofs.Common.{◌≡◌, ◌∙◌, ◌++◌, ◌+◌, ℕ, zero, suc, Bool, true, false, List, [], ◌∷◌, Option, None, Some, Result, Ok, Err}
use Rattle.std.proofs.Common.{length, length-append, refl, subst, sym, ap, map}
use Rattle.std.proofs.Math.Nat.{suc-add, zero-add}
use Rattle.mm_bytes.specs.Limits.{next_count}
use Rattle.mm_digest.specs.declared.variant.Variant.{Variant}
use Rattle.mm_seal.specs.declared.cell.Cell.{Cell}
use Rattle.mm_platform.specs.Standing.{Standing, Act, ReadCell, ReadRegister, StepGoes}
use Rattle.mm_platform.specs.declared.fault.StepFault.{StepFault}
use Rattle.mm_platform.specs.declared.fault.StepFault.TheVariants.{Off}
use Rattle.mm_module.specs.Batch.{One}
use Rattle.mm_module.specs.Meaning.{IsLawful, Meaning}
use Rattle.mm_machine.specs.OpSteps.{acts_for, answer_in, OpMeaning, OpLooks, OpReads, OpWeighs, RoomIsMadeFor, RoomIsMadeIf, SightFinds}
use Rattle.mm_machine.specs.OpSteps.{has_extension, ActsEndBy, OpEnds, position_before}
use Rattle.mm_machine.specs.OpSteps as machine
use Rattle.mm_machine.specs.declared.call.OpResult.TheVariants.{Broken}
use Rattle.mm_machine.specs.declared.call.OpStage.TheVariants.{Begun}
use Rattle.mm_machine.specs.declared.operation.OpFinding.{OpFinding}
use Rattle.mm_machine.specs.declared.operation.Sight.{Sight}
use Rattle.mm_machine.specs.declared.operation.Sight.TheVariants as sight
use Rattle.mm_machine.specs.declared.reading.Halt.{Halt}
use Rattle.mm_machine.specs.declared.reading.Halt.TheVariants.{Fault, Lacks, Refused}
use Rattle.mm_model.specs.ListLaws.{each_append}
use Rattle.mm_model.specs.Moves.{is_long}
use Rattle.mm_model.specs.declared.answer.Answer.{Answer}
use Rattle.mm_model.specs.declared.answer.BatchAnswer.{BatchAnswer}
use Rattle.mm_model.specs.declared.refusal.Refusal.{Refusal}
use Rattle.mm_model.specs.declared.refusal.Refusal.TheVariants.{Device}
use Rattle.mm_call.specs.CallKind.{AreStepsToEnd, EndsByFinding, breaks_off, goes_on, finding_of_machine}
use Rattle.mm_call.specs.Standing.{count_after_more}
use Rattle.mm_call.specs.declared.ended.AskResult.{AskResult}
use Rattle.mm_call.proofs.Above.{each_at}
use Rattle.mm_ask.specs.WholeAsk.{ask_operation, ask_call}
use Rattle.mm_ask.proofs.Above.{asked_whole}
use Rattle.mm_recovery.specs.HostStanding.{IsCall}
use Rattle.mm_recovery.proofs.Above.{is_call}
use Rattle.mm_moments.specs.Moments.{AllMomentsAreCounted, AreMadeInTurn, IsSameBesideRoom, StepMoment, act_moments, changing_moments}
use Rattle.mm_moments.specs.Moments.{reading_moments, register_moments, step_moment, call_moments}
use Rattle.mm_moments.specs.MortalLives.{CallStopsAnywhere}

-- steps that were counted one after another
more_counted : (n m count : ℕ) → count_after_more m (count_after_more n count) ≡ count_after_more (n + m) count
more_counted zero m count = ap (λ (k : ℕ). count_after_more k count) (sym (zero-add m))
more_counted (suc n) m count =
    more_counted n m (next_count count) ∙ ap (λ (k : ℕ). count_after_more k count) (sym (suc-add n m))

-- this many steps lead from one count to another
abbrev Counted : List StepMoment → ℕ → ℕ → Type 0
Counted moments old new = new ≡ count_after_more (length moments) old

counted_both : (one other : List StepMoment) (old middle new : ℕ) → Counted one old middle → Counted other middle new
    → Counted (one ++ other) old new
counted_both one other old middle new a b =
    b ∙ ap (λ (k : ℕ). count_after_more (length other) k) a ∙ more_counted (length one) (length other) old
    ∙ ap (λ (k : ℕ). count_after_more k old) (sym (length-append one other))

acts_counted : (acts : List Act) (answer : BatchAnswer) (old new : Standing) (ended : AskResult)
    (e : AreStepsToEnd acts answer old new ended)
    → Counted (act_moments acts answer old new ended e) old.steps new.steps
acts_counted [] answer old new ended e = ap (λ (x : Standing). x.steps) e.0
acts_counted (act ∷ acts) answer old new ended (goes_on middle goes rest) =
    acts_counted acts answer middle new ended rest
    ∙ ap (λ (k : ℕ). count_after_more (length (act_moments acts answer middle new ended rest)) k) goes.steps
acts_counted (act ∷ acts) answer old new ended (breaks_off fault goes is) = goes.steps

changes_counted : (variant : Variant) (found : Result (OpFinding BatchAnswer) Refusal) (old new : Standing) (ended : AskResult)
    (e : EndsByFinding (ask_call variant) found old new ended)
    → Counted (changing_moments variant found old new ended e) old.steps new.steps
changes_counted variant (Ok found) old new ended e = acts_counted (acts_for found) (answer_in found) old new ended e
changes_counted variant (Err why) old new ended e = ap (λ (x : Standing). x.steps) e.0

module _ (o : OpMeaning BatchAnswer Refusal) where
  abbrev Given : Type 0
  Given = Result (OpFinding BatchAnswer) (Halt Refusal)

  -- room is no step
  rooms_if : (makes : Bool) (found : OpFinding BatchAnswer) (old new : Standing) (given : Given) → RoomIsMadeIf makes found old new given
      → new.steps ≡ old.steps
  rooms_if false found old new given r = ap (λ (x : Standing). x.steps) r.0
  rooms_if true found old new (Ok it) r = ap (λ (x : Standing). x.steps) r.0.same
  rooms_if true found old new (Err why) r = ap (λ (x : Standing). x.steps) r.0

  rooms_for : (found given : Given) (old new : Standing) → RoomIsMadeFor found old new given → new.steps ≡ old.steps
  rooms_for (Ok found) given old new r = rooms_if (has_extension found) found old new given r
  rooms_for (Err why) given old new r = ap (λ (x : Standing). x.steps) r.0

  -- a reading step is one
  looked : (old middle : Standing) (seen : Result (Sight BatchAnswer) (Halt Refusal)) → OpLooks o old middle seen
      → middle.steps ≡ next_count old.steps
  looked old middle (Ok it) l = l.0.steps
  looked old middle (Err (Fault fault)) l = l.steps
  looked old middle (Err (Refused why)) l = l.0.steps
  looked old middle (Err Lacks) l = absurd l

  weighed : (cell : Cell) (old middle : Standing) (found : Given) → OpWeighs o cell old middle found → middle.steps ≡ next_count old.steps
  weighed cell old middle (Ok it) l = l.0.steps
  weighed cell old middle (Err (Fault fault)) l = l.steps
  weighed cell old middle (Err (Refused why)) l = l.0.steps
  weighed cell old middle (Err Lacks) l = absurd l

  seen_counted : (seen : Result (Sight BatchAnswer) (Halt Refusal)) (old new : Standing) (given : Given) → SightFinds o seen old new given
      → Counted (register_moments seen old) old.steps new.steps
  seen_counted (Err why) old new given s = ap (λ (x : Standing). x.steps) s.0
  seen_counted (Ok (sight.Found found)) old new given s = rooms_for (Ok found) given old new s
  seen_counted (Ok (sight.Cell cell)) old new given s =
      rooms_for s.found given s.middle new s.rooms ∙ weighed cell old s.middle s.found s.finds

  reading_counted : (old new : Standing) (given : Given) (r : OpReads o old new given)
      → Counted (reading_moments r) old.steps new.steps
  reading_counted old new given r =
      seen_counted r.seen r.middle new given r.on
      ∙ ap (λ (k : ℕ). count_after_more (length (register_moments r.seen r.middle)) k) (looked old r.middle r.seen r.looks)

-- Steps that are made one behind another.

beside_self : (at : Standing) → IsSameBesideRoom at at
beside_self at = refl

beside_same : (old new : Standing) → new ≡ old → IsSameBesideRoom old new
beside_same old new same = subst (λ (x : Standing). IsSameBesideRoom old x) (sym same) refl

beside_both : (one two three : Standing) → IsSameBesideRoom one two → IsSameBesideRoom two three → IsSameBesideRoom one three
beside_both one two three a b = b ∙ ap (λ (x : Standing). record x { spare = three.spare }) a

-- steps before one, without a fault
one_before : (old after new : Standing) (m : StepMoment) (moments : List StepMoment) → IsSameBesideRoom old m.at
    → StepGoes m.act m.at after None → AreMadeInTurn after moments new → AreMadeInTurn old (m ∷ moments) new
one_before old after new m [] begins goes later = (None, record { begins = begins; after = after; goes = goes; later = later })
one_before old after new m (next ∷ moments) begins goes later = record { begins = begins; after = after; goes = goes; later = later }

room_before : (old at new : Standing) (moments : List StepMoment) → IsSameBesideRoom old at → AreMadeInTurn at moments new
    → AreMadeInTurn old moments new
room_before old at new [] room made = beside_both old at new room made
room_before old at new (m ∷ []) room made =
    (made.0, record { begins = beside_both old at m.at room made.1.begins; after = made.1.after; goes = made.1.goes; later = made.1.later })
room_before old at new (m ∷ next ∷ moments) room made =
    record { begins = beside_both old at m.at room made.begins; after = made.after; goes = made.goes; later = made.later }

-- the last step, which may fail
one_last : (old new : Standing) (m : StepMoment) (fault : Option StepFault) → IsSameBesideRoom old m.at → StepGoes m.act m.at new fault
    → AreMadeInTurn old (m ∷ []) new
one_last old new m fault begins goes = (fault, record { begins = begins; after = new; goes = goes; later = beside_self new })

acts_made : (acts : List Act) (answer : BatchAnswer) (old new : Standing) (ended : AskResult) (e : AreStepsToEnd acts answer old new ended)
    → AreMadeInTurn old (act_moments acts answer old new ended e) new
acts_made [] answer old new ended e = beside_same old new e.0
acts_made (act ∷ acts) answer old new ended (goes_on middle goes rest) =
    one_before old middle new (step_moment old act) (act_moments acts answer middle new ended rest) (beside_self old) goes
    (acts_made acts answer middle new ended rest)
acts_made (act ∷ acts) answer old new ended (breaks_off fault goes is) =
    one_last old new (step_moment old act) (Some fault) (beside_self old) goes

module _ (o : OpMeaning BatchAnswer Refusal) where
  room_if : (makes : Bool) (found : OpFinding BatchAnswer) (old new : Standing) (given : Given o) → RoomIsMadeIf makes found old new given
      → IsSameBesideRoom old new
  room_if false found old new given r = beside_same old new r.0
  room_if true found old new (Ok it) r = r.0.same
  room_if true found old new (Err why) r = beside_same old new r.0

  room_for : (found given : Given o) (old new : Standing) → RoomIsMadeFor found old new given → IsSameBesideRoom old new
  room_for (Ok found) given old new r = room_if (has_extension found) found old new given r
  room_for (Err why) given old new r = beside_same old new r.0

  -- what is behind a reading step that found something, or its fault with nothing behind it
  abbrev Behind : Given o → List StepMoment → Standing → Standing → Type 0
  Behind (Ok found) later at new = AreMadeInTurn at later new
  Behind (Err why) later at new = (later ≡ []) × (new ≡ at)

  none_behind : (old new : Standing) (m : StepMoment) (fault : Option StepFault) (later : List StepMoment) → IsSameBesideRoom old m.at
      → later ≡ [] → StepGoes m.act m.at new fault → AreMadeInTurn old (m ∷ later) new
  none_behind old new m fault later begins none goes =
      subst (λ (x : List StepMoment). AreMadeInTurn old (m ∷ x) new) (sym none) (one_last old new m fault begins goes)

  behind_made : (given : Given o) (later : List StepMoment) (at new : Standing) → Behind given later at new → AreMadeInTurn at later new
  behind_made (Ok found) later at new b = b
  behind_made (Err why) later at new b =
      subst (λ (x : List StepMoment). AreMadeInTurn at x new) (sym b.0) (beside_same at new b.1)

  -- a fault of a reading step
  fault_made : (old at middle new : Standing) (act : Act) (fault : StepFault) (why : Halt Refusal) (given : Given o)
      (later : List StepMoment) → StepGoes act old at (Some fault) → middle ≡ at → given ≡ Err why → Behind given later middle new
      → AreMadeInTurn old (step_moment old act ∷ later) new
  fault_made old at middle new act fault why given later goes same is b =
      let none : Behind (Err why) later middle new = subst (λ (g : Given o). Behind g later middle new) is b in
      none_behind old new (step_moment old act) (Some fault) later (beside_self old) none.0
      (subst (λ (x : Standing). StepGoes act old x (Some fault)) (sym (none.1 ∙ same)) goes)

  weighed_made : (cell : Cell) (old at middle new : Standing) (found given : Given o) (later : List StepMoment)
      → OpWeighs o cell old at found → RoomIsMadeFor found at middle given → Behind given later middle new
      → AreMadeInTurn old (step_moment old ReadRegister ∷ later) new
  weighed_made cell old at middle new (Ok it) given later w rooms b =
      one_before old at new (step_moment old ReadRegister) later (beside_self old) w.0
      (room_before at middle new later (room_for (Ok it) given at middle rooms) (behind_made given later middle new b))
  weighed_made cell old at middle new (Err (Fault fault)) given later w rooms b =
      fault_made old at middle new ReadRegister fault (Fault fault) given later w rooms.0 rooms.1 b
  weighed_made cell old at middle new (Err (Refused why)) given later w rooms b =
      one_before old at new (step_moment old ReadRegister) later (beside_self old) w.0
      (room_before at middle new later (beside_same at middle rooms.0) (behind_made given later middle new b))
  weighed_made cell old at middle new (Err Lacks) given later w rooms b = absurd w

  seen_made : (seen : Result (Sight BatchAnswer) (Halt Refusal)) (old at middle new : Standing) (given : Given o)
      (later : List StepMoment) → OpLooks o old at seen → SightFinds o seen at middle given → Behind given later middle new
      → AreMadeInTurn old (step_moment old ReadCell ∷ (register_moments seen at ++ later)) new
  seen_made (Ok (sight.Cell cell)) old at middle new given later l s b =
      one_before old at new (step_moment old ReadCell) (step_moment at ReadRegister ∷ later) (beside_self old) l.0
      (weighed_made cell at s.middle middle new s.found given later s.finds s.rooms b)
  seen_made (Ok (sight.Found found)) old at middle new given later l s b =
      one_before old at new (step_moment old ReadCell) later (beside_self old) l.0
      (room_before at middle new later (room_for (Ok found) given at middle s) (behind_made given later middle new b))
  seen_made (Err (Fault fault)) old at middle new given later l s b =
      fault_made old at middle new ReadCell fault (Fault fault) given later l s.0 s.1 b
  seen_made (Err (Refused why)) old at middle new given later l s b =
      one_before old at new (step_moment old ReadCell) later (beside_self old) l.0
      (room_before at middle new later (beside_same at middle s.0) (behind_made given later middle new b))
  seen_made (Err Lacks) old at middle new given later l s b = absurd l

  call_made : (variant : Variant) (found : Result (OpFinding BatchAnswer) Refusal) (given : Given o) (old middle new : Standing)
      (ended : AskResult) (r : OpReads o old middle given) → found ≡ finding_of_machine given
      → (e : EndsByFinding (ask_call variant) found middle new ended)
      → AreMadeInTurn old (reading_moments r ++ changing_moments variant found middle new ended e) new
  call_made variant (Ok found) (Ok it) old middle new ended r gives e =
      seen_made r.seen old r.middle middle new (Ok it) (changing_moments variant (Ok found) middle new ended e) r.looks r.on
      (acts_made (acts_for found) (answer_in found) middle new ended e)
  call_made variant (Err why) (Err halt) old middle new ended r gives e =
      seen_made r.seen old r.middle middle new (Err halt) [] r.looks r.on (refl, e.0)
  call_made variant (Ok found) (Err halt) old middle new ended r gives e = absurd (cc)
  call_made variant (Err why) (Ok it) old middle new ended r gives e = absurd (cc)

pub all_are_counted : AllMomentsAreCounted
all_are_counted variant meaning old new offer request result c =
    let a = c.steps.asks in
    let o = ask_operation variant meaning offer (One request) in record {
      made = call_made o variant a.found a.reads.given old a.middle new c.steps.ended a.reads.reads a.reads.gives a.ends;
      counted = counted_both (reading_moments a.reads.reads) (changing_moments variant a.found a.middle new c.steps.ended a.ends) old.steps
          a.middle.steps new.steps (reading_counted o old a.middle a.reads.given a.reads.reads)
          (changes_counted variant a.found a.middle new c.steps.ended a.ends);
    }

-- What holds of each element of a list.

module _ {X : Type 0} where
  pub each_so : (P Q : X → Type 0) → ((x : X) → P x → Q x) → (xs : List X) → AllByRecursion P xs → AllByRecursion Q xs
  each_so P Q so [] each = tt
  each_so P Q so (x ∷ xs) each = (so x each.0, each_so P Q so xs each.1)

  pub each_map : {Y : Type 0} (f : Y → X) (P : X → Type 0) (ys : List Y) → AllByRecursion (λ (y : Y). P (f y)) ys
      → AllByRecursion P (map f ys)
  each_map f P [] each = tt
  each_map f P (y ∷ ys) each = (each.0, each_map f P ys each.1)

-- A call for a request that is killed at one of its steps is one that its device broke off.

-- killed at this moment, the changing steps are broken off
abbrev ActsStop : ℕ → List Act → BatchAnswer → Standing → StepMoment → Type 0
ActsStop position acts answer old m =
    (new : Standing) → StepGoes m.act m.at new (Some Off)
    → (commits : Option ℕ) × ActsEndBy {R = Refusal} position acts answer old new (Broken Off commits)

acts_stop : (position : ℕ) (acts : List Act) (answer : BatchAnswer) (old end : Standing) (ended : AskResult)
    (e : AreStepsToEnd acts answer old end ended)
    → AllByRecursion (ActsStop position acts answer old) (act_moments acts answer old end ended e)
acts_stop position [] answer old end ended e = tt
acts_stop position (act ∷ acts) answer old end ended (goes_on middle goes rest) = (
  λ new k. (position_before acts position, machine.breaks_off Off k refl),
  each_so (ActsStop position acts answer middle) (ActsStop position (act ∷ acts) answer old)
      (λ m stops new k. let s = stops new k in (s.0, machine.goes_on middle goes s.1))
      (act_moments acts answer middle end ended rest) (acts_stop position acts answer middle end ended rest),
)
acts_stop position (act ∷ acts) answer old end ended (breaks_off fault goes is) =
    (λ new k. (position_before acts position, machine.breaks_off Off k refl), tt)

module _ (o : OpMeaning BatchAnswer Refusal) (old : Standing) where
  -- killed at this moment, the call is broken off
  abbrev Stops : StepMoment → Type 0
  Stops m = (new : Standing) → StepGoes m.act m.at new (Some Off) → (commits : Option ℕ) × OpEnds o Begun old new (Broken Off commits)

  cell_stops : (new : Standing) → OpReads o old new (Err (Fault Off)) → (commits : Option ℕ) × OpEnds o Begun old new (Broken Off commits)
  cell_stops new r = (None, record { middle = new; found = Err (Fault Off); finds = r; ends = (refl, refl) })

  register_stops : (seen : Result (Sight BatchAnswer) (Halt Refusal)) (middle : Standing) → OpLooks o old middle seen
      → AllByRecursion Stops (register_moments seen middle)
  register_stops (Ok (sight.Cell cell)) middle looks = (
    λ new k. cell_stops new (record {
      middle = middle;
      seen = Ok (sight.Cell cell);
      looks = looks;
      on = record { middle = new; found = Err (Fault Off); finds = k; rooms = (refl, refl) };
    }),
    tt,
  )
  register_stops (Ok (sight.Found found)) middle looks = tt
  register_stops (Err why) middle looks = tt

  reading_stops : (middle : Standing) (given : Result (OpFinding BatchAnswer) (Halt Refusal)) (r : OpReads o old middle given)
      → AllByRecursion Stops (reading_moments r)
  reading_stops middle given r = (
    λ new k. cell_stops new (record { middle = new; seen = Err (Fault Off); looks = k; on = (refl, refl) }),
    register_stops r.seen r.middle r.looks,
  )

  found_stops : (variant : Variant) (found : Result (OpFinding BatchAnswer) Refusal)
      (given : Result (OpFinding BatchAnswer) (Halt Refusal)) (middle end : Standing) (ended : AskResult) → OpReads o old middle given
      → found ≡ finding_of_machine given → (e : EndsByFinding (ask_call variant) found middle end ended)
      → AllByRecursion Stops (changing_moments variant found middle end ended e)
  found_stops variant (Err why) given middle end ended r gives e = tt
  found_stops variant (Ok found) (Err why) middle end ended r gives e = absurd (cc)
  found_stops variant (Ok found) (Ok it) middle end ended r gives e =
      let same : it ≡ found = cc in
      each_so (ActsStop (o.position (answer_in found)) (acts_for found) (answer_in found) middle) Stops
      (λ m stops new k. let s = stops new k in (
        s.0,
        record {
          middle = middle;
          found = Ok found;
          finds = subst (λ (f : OpFinding BatchAnswer). OpReads o old middle (Ok f)) same r;
          ends = s.1;
        },
      )) (act_moments (acts_for found) (answer_in found) middle end ended e)
      (acts_stop (o.position (answer_in found)) (acts_for found) (answer_in found) middle end ended e)

module _ (variant : Variant) (meaning : Meaning) (lawful : IsLawful meaning) (old : Standing) (offer request : List ℕ) where
  -- killed at this moment it is a call that its device broke off
  abbrev pub CallStops : StepMoment → Type 0
  CallStops m = (new : Standing) → StepGoes m.act m.at new (Some Off) → IsCall variant meaning old new offer request (Err (Device Off))

  abbrev operation : OpMeaning BatchAnswer Refusal
  operation = ask_operation variant meaning offer (One request)

  broken_call : is_long (One request) ≡ false → (new : Standing) (commits : Option ℕ) → OpEnds operation Begun old new (Broken Off commits)
      → IsCall variant meaning old new offer request (Err (Device Off))
  broken_call short new commits f =
      is_call variant meaning old new offer request (Err (Device Off)) (Err (Device Off)) refl short
      (asked_whole meaning offer (One request) old new variant (Broken Off commits) lawful short f)

  pub call_stops : (end : Standing) (result : Result Answer Refusal) (c : IsCall variant meaning old end offer request result)
      → AllByRecursion CallStops (call_moments c)
  call_stops end result c =
      let a = c.steps.asks in
      each_so (Stops operation old) CallStops (λ m stops new k. let s = stops new k in broken_call c.limited new s.0 s.1) (call_moments c)
      (each_append (Stops operation old) (reading_moments a.reads.reads)
      (changing_moments variant a.found a.middle end c.steps.ended a.ends)
      (reading_stops operation old a.middle a.reads.given a.reads.reads)
      (found_stops operation old variant a.found a.reads.given a.middle end c.steps.ended a.reads.reads a.reads.gives a.ends))

pub calls_stop_anywhere : CallStopsAnywhere
calls_stop_anywhere variant meaning lawful old end new offer request result c m among k =
    each_at (CallStops variant meaning lawful old offer request) (call_moments c) m
    (call_stops variant meaning lawful old offer request end result c) among new k
