-- How a call of the machine ends: one whose next step fails is broken off; one that is refused is refused by what its operation sees or
-- finds; and the room that it takes doesn't hang on the plan.
use Rattle.mm_flight.proofs.Below.{◌≡◌, ℕ, true, false, Bool, List, [], ◌∷◌, Option, None, Result, Ok, Err, refl, ap, subst, sym, ◌∙◌}
use Rattle.mm_flight.proofs.Below.{StepFault, Plan, Standing, Act, StepGoes, ReadCell, ReadRegister, Cell}
use Rattle.mm_machine.specs.Acts.{MayChange, remaining_acts}
use Rattle.mm_machine.specs.OpSteps.{OpMeaning, ActLeads, OpActs, FindingEnds, OpEnds, acts_for, answer_in, breaks_off, goes_on}
use Rattle.mm_machine.specs.OpSteps.{position_before, CellSays, StepDraws, SightFinds, RegisterSays, RoomIsMadeIf, RoomIsMadeFor}
use Rattle.mm_machine.specs.OpSteps.{has_extension, MayGoOn, ending_by_halt}
use Rattle.mm_machine.specs.declared.call.OpResult.{OpResult}
use Rattle.mm_machine.specs.declared.call.OpResult.TheVariants.{Answered, Broken, Refused}
use Rattle.mm_machine.specs.declared.call.OpStage.{OpStage}
use Rattle.mm_machine.specs.declared.call.OpStage.TheVariants.{Begun, Seen, Changing}
use Rattle.mm_machine.specs.declared.change.Change.{Change as Move}
use Rattle.mm_machine.specs.declared.change.Change.TheVariants.{Extending, Emptying, Placing, Writing}
use Rattle.mm_machine.specs.declared.operation.OpFinding.{OpFinding}
use Rattle.mm_machine.specs.declared.operation.Sight.{Sight}
use Rattle.mm_machine.specs.declared.operation.Sight.TheVariants as sight
use Rattle.mm_machine.specs.declared.reading.Halt.{Halt}
use Rattle.mm_machine.specs.declared.reading.Halt.TheVariants.{Fault, Lacks}
use Rattle.mm_machine.specs.declared.reading.Halt.TheVariants as halt
use Rattle.mm_flight.specs.Flight.{is_broken}
use Rattle.mm_flight.proofs.Machine.{AlwaysFails}

-- a call whose next step fails is broken off

module _ {A R : Type 0} (o : OpMeaning A R) where
  draws_break : {T : Type 0} (act : Act) (old mid : Standing) (says : Result T R → Type 0) (given : Result T (Halt R))
      → AlwaysFails old → StepDraws (StepGoes act old mid) says given → (fault : StepFault) × (given ≡ Err (Fault fault))
  draws_break act old mid says (Ok it) fails d = absurd (fails act mid None d.0 refl)
  draws_break act old mid says (Err (Fault fault)) fails d = (fault, refl)
  draws_break act old mid says (Err (halt.Refused why)) fails d = absurd (fails act mid None d.0 refl)
  draws_break act old mid says (Err Lacks) fails d = absurd d

  fault_breaks : (fault : StepFault) (found : Result (OpFinding A) (Halt R)) (mid new : Standing) (ended : OpResult A R)
      → found ≡ Err (Fault fault) → FindingEnds o found mid new ended → is_broken ended ≡ true
  fault_breaks fault found mid new ended is e =
      let f : FindingEnds o (Err (Fault fault)) mid new ended =
      subst (λ (x : Result (OpFinding A) (Halt R)). FindingEnds o x mid new ended) is e in
      ap (λ (x : OpResult A R). is_broken x) f.1

  sight_breaks : (fault : StepFault) (seen : Result (Sight A) (Halt R)) (found : Result (OpFinding A) (Halt R)) (mid next : Standing)
      → seen ≡ Err (Fault fault) → SightFinds o seen mid next found → found ≡ Err (Fault fault)
  sight_breaks fault seen found mid next is on =
      let f : SightFinds o (Err (Fault fault)) mid next found =
      subst (λ (x : Result (Sight A) (Halt R)). SightFinds o x mid next found) is on in
      f.1

  rooms_break : (fault : StepFault) (found given : Result (OpFinding A) (Halt R)) (mid next : Standing)
      → found ≡ Err (Fault fault) → RoomIsMadeFor found mid next given → given ≡ Err (Fault fault)
  rooms_break fault found given mid next is r =
      let f : RoomIsMadeFor (Err (Fault fault)) mid next given =
      subst (λ (x : Result (OpFinding A) (Halt R)). RoomIsMadeFor x mid next given) is r in
      f.1

  act_breaks : {act : Act} {commits : Option ℕ} {rest : Standing → Type 0} {old new : Standing} {ended : OpResult A R}
      → AlwaysFails old → ActLeads act commits rest old new ended → is_broken ended ≡ true
  act_breaks {act = act} fails (goes_on mid g s) = absurd (fails act mid None g refl)
  act_breaks fails (breaks_off fault g e) = ap (λ (x : OpResult A R). is_broken x) e

  change_breaks : (change : Move) (answer : A) (old new : Standing) (ended : OpResult A R) → AlwaysFails old
      → OpActs o (remaining_acts change) answer old new ended → is_broken ended ≡ true
  change_breaks (Extending value) answer old new ended fails f = act_breaks fails f
  change_breaks (Emptying opening) answer old new ended fails f = act_breaks fails f
  change_breaks (Placing opening) answer old new ended fails f = act_breaks fails f
  change_breaks (Writing next) answer old new ended fails f = act_breaks fails f

  pub finish_breaks : (stage : OpStage A) (old new : Standing) (ended : OpResult A R) → AlwaysFails old → OpEnds o stage old new ended
      → is_broken ended ≡ true
  finish_breaks Begun old new ended fails f =
      let r = f.finds in
      let says : Result (Sight A) R → Type 0 = λ x. CellSays old (λ bytes. o.sees bytes x) in
      let d = draws_break ReadCell old r.middle says r.seen fails r.looks in
      fault_breaks d.0 f.found f.middle new ended (sight_breaks d.0 r.seen f.found r.middle f.middle d.1 r.on) f.ends
  finish_breaks (Seen cell) old new ended fails f =
      let w = f.finds in
      let says : Result (OpFinding A) R → Type 0 = λ x. RegisterSays w.middle (λ register. o.finds cell register x) in
      let d = draws_break ReadRegister old w.middle says w.found fails w.finds in
      fault_breaks d.0 f.found f.middle new ended (rooms_break d.0 w.found f.found w.middle f.middle d.1 w.rooms) f.ends
  finish_breaks (Changing ready) old new ended fails f = change_breaks ready.change ready.answer old new ended fails f

-- what holds of each refusal that an operation sees or finds holds of those that end its calls

module _ {A R : Type 0} (o : OpMeaning A R) (Q : R → Type 0) (sees : (bytes : List ℕ) (why : R) → o.sees bytes (Err why) → Q why)
    (finds : (cell : Cell) (register : List ℕ) (why : R) → o.finds cell register (Err why) → Q why) where
  abbrev Halts : {T : Type 0} → Result T (Halt R) → Type 0
  Halts (Err (halt.Refused why)) = Q why
  Halts _ = Unit {0}

  draws_halt : {T : Type 0} (goes : Option StepFault → Type 0) (says : Result T R → Type 0) → ((why : R) → says (Err why) → Q why)
      → (given : Result T (Halt R)) → StepDraws goes says given → Halts given
  draws_halt goes says known (Ok it) d = tt
  draws_halt goes says known (Err (Fault fault)) d = tt
  draws_halt goes says known (Err (halt.Refused why)) d = known why d.1
  draws_halt goes says known (Err Lacks) d = tt

  room_halts : (flag : Bool) (found : OpFinding A) (old new : Standing) (given : Result (OpFinding A) (Halt R))
      → RoomIsMadeIf flag found old new given
      → Halts given
  room_halts false found old new given r = rw r.1 tt
  room_halts true found old new (Ok it) r = tt
  room_halts true found old new (Err why) r = rw r.1 tt

  rooms_halt : (found given : Result (OpFinding A) (Halt R)) (old new : Standing) → RoomIsMadeFor found old new given → Halts found
      → Halts given
  rooms_halt (Err why) given old new r h = rw r.1 h
  rooms_halt (Ok found) given old new r h = room_halts (has_extension found) found old new given r

  weighs_halt : (cell : Cell) (old middle : Standing) (found : Result (OpFinding A) (Halt R))
      → StepDraws (StepGoes ReadRegister old middle) (λ found. RegisterSays middle (λ register. o.finds cell register found)) found
      → Halts found
  weighs_halt cell old middle =
      let says : Result (OpFinding A) R → Type 0 = λ x. RegisterSays middle (λ register. o.finds cell register x) in
      draws_halt (StepGoes ReadRegister old middle) says (λ (why : R) (s : says (Err why)). finds cell s.register why s.said)

  sight_halts : (seen : Result (Sight A) (Halt R)) (old new : Standing) (given : Result (OpFinding A) (Halt R))
      → SightFinds o seen old new given
      → Halts seen → Halts given
  sight_halts (Err why) old new given f h = rw f.1 h
  sight_halts (Ok (sight.Found found)) old new given f h = rooms_halt (Ok found) given old new f tt
  sight_halts (Ok (sight.Cell cell)) old new given f h =
      rooms_halt f.found given f.middle new f.rooms (weighs_halt cell old f.middle f.found f.finds)

  acts_never : (acts : List Act) (answer : A) (old new : Standing) (ended : OpResult A R) (why : R) → OpActs o acts answer old new ended
      → ended ≡ Refused why → ⊥
  acts_never [] answer old new ended why a e = let clash : Answered answer ≡ Refused why = sym a.1 ∙ e in cc
  acts_never (act ∷ acts) answer old new ended why (goes_on mid g s) e = acts_never acts answer mid new ended why s e
  acts_never (act ∷ acts) answer old new ended why (breaks_off fault g b) e =
      let clash : Broken fault (position_before acts (o.position answer)) ≡ Refused why = sym b ∙ e in cc

  halt_refuses : (it : Halt R) (why : R) → ending_by_halt {A = A} it ≡ Refused why → Halts {T = A} (Err it) → Q why
  halt_refuses (Fault fault) why e h = absurd (cc)
  halt_refuses (halt.Refused it) why e h = let same : it ≡ why = cc in subst Q same h
  halt_refuses Lacks why e h = absurd (cc)

  ends_refuse : (found : Result (OpFinding A) (Halt R)) (old new : Standing) (why : R) → FindingEnds o found old new (Refused why)
      → Halts found
      → Q why
  ends_refuse (Err it) old new why e h = halt_refuses it why (sym e.1) h
  ends_refuse (Ok found) old new why e h = absurd (acts_never (acts_for found) (answer_in found) old new (Refused why) why e refl)

  pub finish_refuses : (stage : OpStage A) (old new : Standing) (why : R) → OpEnds o stage old new (Refused why) → Q why
  finish_refuses Begun old new why f =
      let r = f.finds in
      let says : Result (Sight A) R → Type 0 = λ x. CellSays old (λ bytes. o.sees bytes x) in
      ends_refuse f.found f.middle new why f.ends (sight_halts r.seen r.middle f.middle f.found r.on
      (draws_halt (StepGoes ReadCell old r.middle) says (λ (it : R) (s : says (Err it)). sees s.bytes it s.said) r.seen r.looks))
  finish_refuses (Seen cell) old new why f =
      let w = f.finds in
      ends_refuse f.found f.middle new why f.ends
      (rooms_halt w.found f.found w.middle f.middle w.rooms (weighs_halt cell old w.middle w.found w.finds))
  finish_refuses (Changing ready) old new why f =
      absurd (acts_never (remaining_acts ready.change) ready.answer old new (Refused why) why f refl)

-- the room that a call takes is the same under another plan

change_may_planned : (change : Move) (now : Standing) (plan : Option Plan) → MayChange change now
    → MayChange change (record now { plan = plan })
change_may_planned (Writing next) now plan m = m
change_may_planned (Extending value) now plan m = m
change_may_planned (Emptying opening) now plan m = m
change_may_planned (Placing opening) now plan m = m

pub may_planned : {A : Type 0} (stage : OpStage A) (now : Standing) (plan : Option Plan) → MayGoOn stage now
    → MayGoOn stage (record now { plan = plan })
may_planned Begun now plan m = tt
may_planned (Seen cell) now plan m = tt
may_planned (Changing ready) now plan m = change_may_planned ready.change now plan m
