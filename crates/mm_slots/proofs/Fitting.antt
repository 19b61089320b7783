-- A slot over its platform: where no call is in flight, behind a call that is over, and what is
-- planned behind steps that were made. With it: the slots at first.
use Rattle.std.specs.List.{sum_by}
use Rattle.std.proofs.lemmas.List.FromFn.{length-range_with_len}
use Rattle.mm_digest.specs.Messages.{zero_bytes}
use Rattle.mm_digest.specs.declared.digest.Digest.{Digest}
use Rattle.mm_modules.specs.ModulesLaws.{any_is_lawful}
use Rattle.mm_machine.specs.OpSteps.{MayGoOn as MayStep}
use Rattle.mm_schedule.specs.Replies.{IsPrintable}
use Rattle.mm_flight.proofs.Above.{may_planned}
use Rattle.mm_outcome.specs.OneRun.{rising_bytes_from}
use Rattle.mm_steps.specs.FlightKind.{ask_kind as asks_so, checkpoint_kind}
use Rattle.mm_slots.specs.declared.flight.Flight.TheVariants as code
use Rattle.mm_slots.specs.HeldParts.{SlotCallFlies}
use Rattle.mm_slots.proofs.Below.{◌≡◌, ◌∙◌, ◌+◌, ◌^◌, ◌≤◌, ◌<◌, ℕ, List, [], ◌∷◌, Option, None, Some, refl, sym, ap, subst, ◌-◌, length}
use Rattle.mm_slots.proofs.Below.{arith, vec_capacity, most_members, Variant, Basic, Opt, Meaning, IsLawful, meaning_of, Standing, Instance}
use Rattle.mm_slots.proofs.Below.{Digests, instance_by, Event, Header, Reply, Outcome, few_committed, printable, CallReport, CallComesTo}
use Rattle.mm_slots.proofs.Below.{digest_in, flag_in, value_in, HasDigests, IsQuiet, digests_are, counting, CodeFlight, SlotReply, Replied}
use Rattle.mm_slots.proofs.Below.{Parts, IsSayable, Tenant, tenant_instance, outcome_in, event_turn, digests_in, slot_in, flight_in}
use Rattle.mm_slots.proofs.Below.{instance_in, FitsFlight, PartsFit, SlotComesTo, parts_with_flight, HasRegister, within_64, CallEndsIn}
use Rattle.mm_slots.proofs.Below.{next_plan, Bool, true, cond, option_map_or, Meddle, Quiet, Plan, quiet_plan, plan_by, is_nothing, Going}
use Rattle.mm_slots.proofs.Below.{Flight, SlotTurn, turn_saying, tenant_with_flight, event_so_far, step_turn, call_in, FitsCall, SlotGoesOn}
use Rattle.mm_slots.proofs.Below.{flight_takes_in, meddled, plan_with_meddle, option_map, One, ◌++◌, take, get_or, length-take-le}
use Rattle.mm_slots.proofs.Below.{take_more, first_history, cell_of, cell_spelling, first_digests, register_reading, stands_new, IsFirst}
use Rattle.mm_slots.proofs.Below.{row_in, items_by_place, first_row, first_rows, Row}

-- where the platform of a slot stands, by the register's value that the slot has
pub mine_are : (slot : Parts) (d : Digests) → HasDigests (instance_in slot) slot.seat.platform d → HasRegister slot
    → digests_in slot ≡ record d { count = slot.seat.committed }
mine_are slot d s r =
    let register : value_in (Some slot.register.bytes) ≡ d.register = ap value_in (sym r ∙ s.register) in
    let world = digests_are (instance_in slot) d slot.seat.platform slot.seat.committed s in
    λ j. record {
      digest = ap (λ (x : Digests). x.digest) world j;
      flag = ap (λ (x : Digests). x.flag) world j;
      register = register j;
      count = slot.seat.committed;
    }

-- whether a slot fits, by its call in flight
abbrev pub FitsWith : Parts → Option CodeFlight → Type 0
FitsWith slot flight = FitsFlight slot.seat.header slot.number (digests_in slot) slot.seat.issued.items (vec_capacity slot.seat.issued)
    slot.seat.platform flight

-- a slot with no call in flight
pub settled : (slot : Parts) (d : Digests) → slot.flight ≡ None → HasDigests (instance_in slot) slot.seat.platform d
    → IsQuiet slot.seat.platform → HasRegister slot → PartsFit slot
settled slot d none s q r =
    let stands = subst (λ (x : Digests). HasDigests (instance_in slot) slot.seat.platform x) (sym (mine_are slot d s r))
    (counting (instance_in slot) d slot.seat.platform slot.seat.committed s) in
    subst (FitsWith slot) (sym none) (stands, q)

pub idle : (slot : Parts) → slot.flight ≡ None → PartsFit slot
    → HasDigests (instance_in slot) slot.seat.platform (digests_in slot) × IsQuiet slot.seat.platform
idle slot none f = subst (FitsWith slot) none f

pub same_instance : (slot slot' : Parts) → slot'.seat.header ≡ slot.seat.header → slot'.number ≡ slot.number
    → instance_in slot' ≡ instance_in slot
same_instance slot slot' h n =
    ap (λ (x : Header). tenant_instance x slot'.number) h ∙ ap (λ (x : ℕ). tenant_instance slot.seat.header x) n

-- a slot with no call in flight that kept all it had goes on, and stands where its platform does
pub rests : (slot slot' : Parts) (d : Digests) → slot'.seat.header ≡ slot.seat.header → slot'.number ≡ slot.number
    → slot'.seat.committed ≡ slot.seat.committed → slot'.flight ≡ None → HasRegister slot' → d.count ≡ slot.seat.committed
    → HasDigests (instance_in slot) slot'.seat.platform d → IsQuiet slot'.seat.platform → SlotGoesOn slot slot' × (digests_in slot' ≡ d)
rests slot slot' d h n c none r count s q =
    let mine = subst (λ (j : Instance). HasDigests j slot'.seat.platform d) (sym (same_instance slot slot' h n)) s in (
      record { fits = settled slot' d none mine q r; header = h; number = n },
      mine_are slot' d mine r ∙ (λ j. record d { count = (c ∙ sym count) j }),
    )

pub meaning_by : (variant : Variant) (meaning : Meaning) (key barrier : List ℕ)
    → (instance_by variant meaning key barrier).meaning ≡ meaning
meaning_by Basic meaning key barrier = refl
meaning_by Opt meaning key barrier = refl

pub printable_in : (slot : Parts) (s : Tenant) (event : Event) → IsPrintable (outcome_in (instance_in slot) s event).reply
printable_in slot s event =
    let key = rising_bytes_from slot.number in
    let barrier = rising_bytes_from (128 + slot.number) in
    let lawful = subst IsLawful (sym (meaning_by slot.seat.header.variant (meaning_of slot.seat.header.«module») key barrier))
    (any_is_lawful slot.seat.header.«module») in
    printable (instance_in slot) lawful s.digests s.issued event

-- what a seat keeps of its own counts
abbrev pub Counted : Parts → Type 0
Counted slot = slot.seat.kept ≡ within_64 (sum_by length slot.seat.issued.items)

abbrev pub Bounded : Parts → Type 0
Bounded slot = slot.seat.committed ≤ 2 ^ 64 - 1

-- the slot whose platform and key a call has left so
abbrev pub left : (slot : Parts) → Standing → Unit {0} → Counted slot → Bounded slot → Parts
left slot new keys tally bound = record slot {
  seat = record slot.seat { platform = new; keys = keys; counted = tally; fits = bound };
}

-- A call is over: the slot stands as its event says.
pub over_comes : (slot slot' : Parts) (flight : CodeFlight) (keys : Unit {0}) (tally : Counted slot) (bound : Bounded slot)
    (from new : Standing) (event : Event) (it : CallReport)
    (said : SlotReply) → slot.flight ≡ None → slot.seat.committed < 2 ^ 63
    → (let s = slot_in (parts_with_flight slot flight) in
    CallComesTo (instance_in slot) (outcome_in (instance_in slot) s event) s.digests.count s.issued from new it
    → CallEndsIn it (left slot new keys tally bound) slot' said → SlotComesTo (parts_with_flight slot flight) slot'
    (event_turn (instance_in slot) s event) said)
over_comes slot slot' flight keys tally bound from new event it said none few c e =
    let i = instance_in slot in
    let s = slot_in (parts_with_flight slot flight) in
    let o : Outcome Digests = outcome_in i s event in
    let at : slot'.seat.platform ≡ new = e.ends.platform in
    let header : slot'.seat.header ≡ slot.seat.header = e.ends.header in
    let number : slot'.number ≡ slot.number = e.number in
    let most : o.state.count ≤ slot.seat.committed + most_members = few_committed i s.digests s.issued event in
    let counts : o.state.count ≡ slot.seat.committed + it.committed = c.counts in
    let ended : slot'.seat.committed ≡ within_64 (slot.seat.committed + it.committed) = e.ends.committed in
    let committed : slot'.seat.committed ≡ o.state.count = omega (arith, ended, counts, most, few) in
    let here = subst (λ (x : Standing). HasDigests i x o.state) (sym at) c.stands in
    let stands = subst (λ (x : Instance). HasDigests x slot'.seat.platform o.state) (sym (same_instance slot slot' header number)) here in
    let idle : slot'.flight ≡ None = e.flight ∙ none in
    let digests : digests_in slot' ≡ o.state = mine_are slot' o.state stands e.register
    ∙ (λ j. record o.state { count = committed j }) in
    let issued : slot'.seat.issued.items ≡ o.issued = e.ends.issued ∙ c.issues in
    let ends : flight_in (next_plan slot'.seat.platform) slot'.flight ≡ None = ap (flight_in (next_plan slot'.seat.platform)) idle in
    record {
      goes = record {
        fits = settled slot' o.state idle stands (subst IsQuiet (sym at) c.quiet) e.register;
        header = header;
        number = number;
      };
      stands = λ j. record { digests = digests j; issued = issued j; flight = ends j };
      says = ap (λ (r : Reply). Replied r ∷ []) (sym c.reply) ∙ ap (λ (x : SlotReply). x ∷ []) (sym e.says);
      sayable = subst IsSayable (sym e.says) (subst IsPrintable (sym c.reply) (printable_in slot s event));
    }

-- the flight of a slot in the words of its fold
abbrev pub flight_of : Standing → CodeFlight → Flight
flight_of standing flight = record { call = call_in flight; meddles = (next_plan standing).meddles; next = (next_plan standing).at + 1 }

-- what the platform plans behind steps that were made
pub plan_is : (standing : Standing) (plan : Plan) → standing.plan ≡ Some plan → next_plan standing ≡ plan
plan_is standing plan e = ap (λ (p : Option Plan). option_map_or (λ x. x) p quiet_plan) e

-- a call that goes on has left the cell as it was, and is planned as before
pub record GoesPlanned (old new : Standing) (meddles : List Meddle) (next : ℕ) : Type 0 where
  pub cell : new.cell ≡ old.cell
  pub plan : next_plan new ≡ record (plan_by Quiet meddles) { at = next }

pub goes_planned : (old new from : Standing) (meddles : List Meddle) (made next : ℕ) → old.cell ≡ from.cell → new.cell ≡ from.cell
    → new.plan ≡ Some (record (plan_by Quiet meddles) { at = made }) → next + 1 ≡ made + 1 → GoesPlanned old new meddles next
goes_planned old new from meddles made next before now planned is =
    let same : made ≡ next = omega (arith, is) in
    record {
      cell = now ∙ sym before;
      plan =
          plan_is new (record (plan_by Quiet meddles) { at = made }) planned
          ∙ ap (λ (n : ℕ). record (plan_by Quiet meddles) { at = n }) same;
    }

-- the digests of a slot whose platform has the same cell
pub digests_kept : (slot : Parts) (before after : Option CodeFlight) (keys : Unit {0}) (tally : Counted slot) (bound : Bounded slot)
    (new : Standing) → new.cell ≡ slot.seat.platform.cell
    → digests_in (record (left slot new keys tally bound) { flight = after }) ≡ digests_in (record slot { flight = before })
digests_kept slot before after keys tally bound new e = λ j. record {
  digest = digest_in (e j);
  flag = flag_in (e j);
  register = slot.register.bytes;
  count = slot.seat.committed;
}

-- a call that goes on stands as its fold says
pub goes_comes : (slot : Parts) (before after : CodeFlight) (keys : Unit {0}) (tally : Counted slot) (bound : Bounded slot)
    (new : Standing) (step : ℕ)
    → call_in after ≡ call_in before
    → (let old = slot.seat.platform in let slot' = parts_with_flight (left slot new keys tally bound) after in
    GoesPlanned old new (next_plan old).meddles ((next_plan old).at + 1) → PartsFit slot' → step ≡ (next_plan old).at + 1 + 1
    → is_nothing (outcome_in (instance_in slot) (slot_in (parts_with_flight slot before)) (event_so_far (flight_of old before))).reply
    ≡ true
    → SlotComesTo (parts_with_flight slot before) slot' (step_turn (instance_in slot) (slot_in (parts_with_flight slot before))
    (flight_of old before)) (Going step))
goes_comes slot before after keys tally bound new step same planned fits number nothing =
    let s = slot_in (parts_with_flight slot before) in
    let f = flight_of slot.seat.platform before in
    let i = instance_in slot in
    let on : SlotTurn = turn_saying (tenant_with_flight s (record f { next = f.next + 1 })) (Going (f.next + 1)) in
    let slot' = parts_with_flight (left slot new keys tally bound) after in
    let P : Bool → Type 0 = λ b. SlotComesTo (parts_with_flight slot before) slot' (cond b on (event_turn i s (event_so_far f)))
    (Going step) in
    subst P (sym nothing) (record {
      goes = record { fits = fits; header = refl; number = refl };
      stands = λ j. record {
        digests = digests_kept slot (Some before) (Some after) keys tally bound new planned.cell j;
        issued = slot.seat.issued.items;
        flight = Some (record { call = same j; meddles = (planned.plan j).meddles; next = (planned.plan j).at + 1 });
      };
      says = ap (λ (n : ℕ). Going n ∷ []) (sym number);
      sayable = tt;
    })

-- the slot fits its call in flight
pub call_of : (slot : Parts) (flight : CodeFlight) → PartsFit (parts_with_flight slot flight)
    → FitsCall slot.seat.header slot.number (digests_in (parts_with_flight slot flight)) slot.seat.issued.items
    (vec_capacity slot.seat.issued)
    slot.seat.platform flight
call_of slot flight f = f

-- what is known of a call in flight, whatever it asks
pub record IsOn (i : Instance) (d : Digests) (from now : Standing) (meddles : List Meddle) (next : ℕ) : Type 0 where
  pub stands : HasDigests i from d
  pub made : ℕ
  pub cell : now.cell ≡ from.cell
  pub is_on : now.is_on ≡ true
  pub planned : now.plan ≡ Some (record (plan_by Quiet meddles) { at = made })
  pub few : made < 255
  pub is_next : next ≡ made + 1

pub flight_is : (header : Header) (i : Instance) (d : Digests) (from : Standing) (flight : CodeFlight) (now : Standing)
    (meddles : List Meddle) (next : ℕ) → SlotCallFlies header i d from flight now meddles next → IsOn i d from now meddles next
flight_is header i d from (code.Asks it) now meddles next f = record {
  stands = f.stands;
  made = f.made;
  cell = f.flies.cell;
  is_on = f.flies.is_on;
  planned = f.flies.planned;
  few = f.flies.few;
  is_next = f.is_next;
}
flight_is header i d from (code.Closes it) now meddles next f = record {
  stands = f.stands;
  made = f.made;
  cell = f.flies.cell;
  is_on = f.flies.is_on;
  planned = f.flies.planned;
  few = f.flies.few;
  is_next = f.is_next;
}

-- a call in flight takes in a value of others
pub takes_value : (header : Header) (i : Instance) (d : Digests) (from : Standing) (flight : CodeFlight) (now new : Standing)
    (meddles : List Meddle) (next : ℕ) (value : Digest) → SlotCallFlies header i d from flight now meddles next
    → new ≡ record now { plan = option_map (plan_with_meddle value) now.plan }
    → SlotCallFlies header i d from flight new (meddled meddles next value) next
takes_value header i d from (code.Asks it) now new meddles next value f e =
    flight_takes_in (asks_so header.variant (meaning_of header.«module») it.asked.bytes (One it.asked.request)) i d from it.call
    now new meddles next value f e
    (subst (MayStep it.call) (sym e) (may_planned it.call now (option_map (plan_with_meddle value) now.plan) f.room))
takes_value header i d from (code.Closes it) now new meddles next value f e =
    flight_takes_in checkpoint_kind i d from it.call now new meddles next value f e
    (subst (MayStep it.call) (sym e) (may_planned it.call now (option_map (plan_with_meddle value) now.plan) f.room))

-- The slots at first: each is as its header and number say.

length-rising : (n : ℕ) → length (rising_bytes_from n) ≡ 32
unfolding rising_bytes_from
length-rising n = length-range_with_len n 32

-- a seat that was provisioned with the key and barrier of a slot
pub first_by : (header : Header) (slot : Parts) (key barrier : List ℕ) → key ≡ rising_bytes_from slot.number
    → barrier ≡ rising_bytes_from (128 + slot.number) → IsFirst header key barrier slot.seat
    → IsFirst header (rising_bytes_from slot.number) (rising_bytes_from (128 + slot.number)) slot.seat
first_by header slot key barrier k b is =
    subst (λ (x : List ℕ). IsFirst header (rising_bytes_from slot.number) x slot.seat) b
    (subst (λ (x : List ℕ). IsFirst header x barrier slot.seat) k is)

-- a slot over a platform that was provisioned with its key and barrier
module _ (header : Header) (slot : Parts)
    (f : IsFirst header (rising_bytes_from slot.number) (rising_bytes_from (128 + slot.number)) slot.seat)
    (register : slot.register.bytes ≡ zero_bytes) (none : slot.flight ≡ None) where
  stands_there : HasDigests (instance_in slot) slot.seat.platform (first_digests (tenant_instance header slot.number))
  stands_there =
      let i = tenant_instance header slot.number in
      let cell = cell_spelling (cell_of i first_history) in
      let new = stands_new header.variant (meaning_of header.«module») (rising_bytes_from slot.number)
      (rising_bytes_from (128 + slot.number)) cell
      (length-rising slot.number) (length-rising (128 + slot.number)) refl in
      let stands = subst (λ (x : Standing). HasDigests i x (first_digests i)) (sym f.platform) new in
      subst (λ (h : Header). HasDigests (tenant_instance h slot.number) slot.seat.platform (first_digests i)) (sym f.headed) stands

  has_register : HasRegister slot
  has_register = ap register_reading f.platform ∙ ap Some (sym register)

  pub fits_there : PartsFit slot
  fits_there = settled slot (first_digests (tenant_instance header slot.number)) none stands_there
      (subst IsQuiet (sym f.platform) (record { is_on = refl; plan = refl })) has_register

  pub row_there : row_in slot ≡ first_row slot.number header
  row_there =
      let d = first_digests (tenant_instance header slot.number) in
      let digests : digests_in slot ≡ d = mine_are slot d stands_there has_register ∙ (λ j. record d { count = f.committed j }) in
      λ j. record {
        header = f.headed j;
        number = slot.number;
        slot = record {
          digests = digests j;
          issued = f.issued j;
          flight = ap (flight_in (next_plan slot.seat.platform)) none j;
        };
      }

-- one more slot behind these
more_from : (number : ℕ) (headers : List Header) (header : Header)
    → items_by_place first_row number (headers ++ header ∷ [])
    ≡ items_by_place first_row number headers ++ first_row (number + length headers) header ∷ []
more_from number [] header = let same : number ≡ number + 0 = omega arith in ap (λ (n : ℕ). first_row n header ∷ []) same
more_from number (first ∷ headers) header =
    let same : number + 1 + length headers ≡ number + length (first ∷ headers) = omega arith in
    ap (λ (rows : List Row). first_row number first ∷ rows) (more_from (number + 1) headers header
    ∙ ap (λ (n : ℕ). items_by_place first_row (number + 1) headers ++ first_row n header ∷ []) same)

pub one_more : (all : List Header) (n number : ℕ) (header d : Header) (rows rows' : List Row) → n < length all → number ≡ n
    → header ≡ get_or all n d → rows ≡ first_rows (take n all) → rows' ≡ rows ++ first_row number header ∷ []
    → rows' ≡ first_rows (take (n + 1) all)
one_more all n number header d rows rows' few is here are more =
    let size : 0 + length (take n all) ≡ number = omega (arith, length-take-le n all (omega (arith, few)), is) in
    more ∙ (λ j. are j ++ first_row (sym size j) (here j) ∷ []) ∙ sym (more_from 0 (take n all) (get_or all n d))
    ∙ ap first_rows (sym (take_more all n d few))
