-- A side in code goes on as its events say. With it: both sides at first.
use Rattle.mm_bytes.specs.Limits.{most_members}
use Rattle.mm_platform.specs.Memory.{new_platform}
use Rattle.mm_modules.specs.ModulesLaws.{any_is_lawful}
use Rattle.mm_outcome.specs.OneRun.{rising_bytes_from}
use Rattle.mm_world.specs.Seat.{SeatStaysOn, SeatLacksMemoryInVain, instance_at, IsBare, IsFirst}
use Rattle.mm_world.specs.Seat as seat
use Rattle.mm_transfer.specs.MovePlan.{AskWants, PlainWants}
use Rattle.mm_transfer.specs.SideCommands.{SideFollows, SideGoesOn}
use Rattle.mm_transfer.proofs.Below.{◌≡◌, ◌∙◌, ◌+◌, ◌^◌, ◌≤◌, ◌<◌, ℕ, List, length, Some, Result, Ok, Err, inl, inr, refl, sym, ap, subst}
use Rattle.mm_transfer.proofs.Below.{arith, Memory, IsLawful, meaning_of, Meddle, Stop, Standing, cell_spelling, Instance, Digests}
use Rattle.mm_transfer.proofs.Below.{moves_seen, reading_steps, digest_level, state_after_moves, cell_at, Event, Ask, Checkpoint, Power}
use Rattle.mm_transfer.proofs.Below.{Extend, IsPrintable, Offer, Reply, Outcome, Batch, course_of, event_outcome, few_committed, printable}
use Rattle.mm_transfer.proofs.Below.{issues_one, Role, Live, SideName, Pair, key_of, instance_on, digest_mover, outcome_by_role}
use Rattle.mm_transfer.proofs.Below.{commits_between, CodeSide, pair_of, role_in, at_in, side_in, refusal_for_role, IsQuiet, StandsAs}
use Rattle.mm_transfer.proofs.Below.{FitsSide, SideComes, SideLacks, [], ◌∷◌, Variant, Basic, Opt, start_digest_of, Meaning, first_history}
use Rattle.mm_transfer.proofs.Below.{register_reading, cell_of, issued_bytes, instance_by, Header, first_digests, world_key, world_barrier}
use Rattle.mm_transfer.proofs.Below.{HasDigests, stands_new, blank_cell, length-zero_bytes, Blank, First, Second, first_both_by_digests}
use Rattle.mm_transfer.proofs.Below.{IsNew}
use Rattle.mm_transfer.proofs.Commanding.{IsRegister, seen_digests, IsVain, event_vain}
use Rattle.mm_transfer.proofs.SideStands.{meaning_by, live_stands, stands_live, same_keeps, side_is, side_stays, Stays, stays_same}
use Rattle.mm_transfer.proofs.SideStands.{fault_where, vain_reads, key_by, linked_by}

-- What is asked of an outcome that a side comes to.
record IsFew (committed : ℕ) (issued : List (List ℕ)) (o : Outcome Digests) : Type 0 where
  pub count : o.state.count ≤ committed + most_members
  pub one : length o.issued ≤ length issued + 1
  pub printable : IsPrintable o.reply

few_live : (side : CodeSide) (which : SideName) (event : Event) → (let i = instance_on (pair_of side.seat.header) which in
    IsFew side.seat.committed side.seat.issued.items (event_outcome i (digest_level i) (at_in side) side.seat.issued.items event))
few_live side which event =
    let header = side.seat.header in
    let pair = pair_of header in
    let i = instance_on pair which in
    let d = at_in side in
    let issued = side.seat.issued.items in
    let lawful = subst IsLawful (sym (meaning_by header.variant (meaning_of header.«module») (key_of pair which) pair.barrier))
    (any_is_lawful header.«module») in
    record { count = few_committed i d issued event; one = issues_one i d issued event; printable = printable i lawful d issued event }

-- an event was followed

live_comes : (pair : Pair) (which : SideName) (old new : CodeSide) (o : Outcome Digests) (said : Reply)
    → role_in old.seat.platform.cell ≡ Live → old.seat.committed < 2 ^ 63 → IsFew old.seat.committed old.seat.issued.items o
    → seat.EventComesTo (instance_on pair which) o old.seat new.seat said → SideComes pair which old new o said
live_comes pair which old new o said live bound few c =
    let most = few.count in
    let rises = c.rises in
    let now = c.committed in
    let count : new.seat.committed ≡ o.state.count = omega (arith, now, most, bound) in
    let side = side_is pair which Live o.state new (live_stands pair which new.seat.platform o.state c.stands) c.quiet count tt in
    let role = side.role_is ∙ sym live in
    let issued = c.issued in
    let at = side.at_is in
    record {
      goes = record {
        fits = side.fits;
        few = omega (arith, count, most);
        one = subst (λ (x : List (List ℕ)). length x ≤ length old.seat.issued.items + 1) (sym issued) few.one;
      };
      stands = λ j. record { role = role j; at = at j; issued = issued j };
      says = c.reply;
      printable = subst IsPrintable (sym c.reply) few.printable;
      commits = subst (λ (r : Role). new.seat.committed ≡ old.seat.committed + commits_between r old.seat.committed o.state.count)
          (sym live)
          (omega (arith, count, rises));
    }

none_grown : (role : Role) (n m : ℕ) → m ≡ n → commits_between role n m ≡ 0
none_grown Live n m e = omega (arith, e)
none_grown _ n m e = refl

vain_comes : (pair : Pair) (which : SideName) (old new : CodeSide) (o : Outcome Digests) (said : Reply) → FitsSide pair which old
    → new.digest ≡ old.digest → IsVain (at_in old) old.seat.issued.items o → seat.EventComesInVain o old.seat new.seat said
    → SideComes pair which old new o said
vain_comes pair which old new o said f digest v c =
    let side = side_stays pair which old new o.state.register f c.cell c.register c.quiet c.committed (same_keeps old new digest) in
    let at : at_in new ≡ o.state = side.at_is ∙ sym v.state in
    let role = ap role_in c.cell in
    let issued = c.issued in
    let same : new.seat.issued.items ≡ old.seat.issued.items = issued ∙ v.issued in
    let count : o.state.count ≡ old.seat.committed = ap (λ (d : Digests). d.count) v.state in
    let grows = none_grown (role_in old.seat.platform.cell) old.seat.committed o.state.count count in
    let stays = c.committed in
    record {
      goes = record {
        fits = side.fits;
        few = omega (arith, stays);
        one = subst (λ (x : List (List ℕ)). length x ≤ length old.seat.issued.items + 1) (sym same) (omega arith);
      };
      stands = λ j. record { role = role j; at = at j; issued = issued j };
      says = c.reply;
      printable = subst IsPrintable (sym c.reply) v.printable;
      commits = omega (arith, stays, grows);
    }

-- by the role of the side
comes_by : (which : SideName) (role : Role) (event : Event) (old new : CodeSide) (said : Reply) → (let pair = pair_of old.seat.header in
    role_in old.seat.platform.cell ≡ role → FitsSide pair which old → StandsAs pair which role old.seat.platform (at_in old)
    → old.seat.committed < 2 ^ 63 → new.digest ≡ old.digest → seat.SeatTakesEvent event old.seat new.seat (Ok said)
    → SideComes pair which old new (outcome_by_role digest_mover (instance_on pair which) role (side_in old) event) said)
comes_by which Live event old new said is fits s bound digest f =
    let pair = pair_of old.seat.header in
    live_comes pair which old new _ said is bound (few_live old which event)
    (f.own (key_of pair which) pair.barrier (at_in old) (stands_live pair which old.seat.platform (at_in old) s) fits.quiet refl)
comes_by which role event old new said is fits s bound digest f =
    let pair = pair_of old.seat.header in
    let i = instance_on pair which in
    vain_comes pair which old new _ said fits digest (event_vain i (at_in old) old.seat.issued.items (refusal_for_role role) event)
    (f.vain i (at_in old) (Err (fault_where role)) (refusal_for_role role)
    (vain_reads pair which role old.seat.platform (at_in old) refl s fits.quiet) refl)

-- want of memory

-- the side goes on, and nothing has changed but its register's value
abbrev GoesReading : Pair → SideName → CodeSide → CodeSide → List ℕ → Type 0
GoesReading pair which old new value =
    SideGoesOn pair which old new × (side_in new ≡ record (side_in old) { at = record (at_in old) { register = value } })

goes_reading : (pair : Pair) (which : SideName) (old new : CodeSide) (value : List ℕ) → FitsSide pair which old → new.digest ≡ old.digest
    → SeatStaysOn new.seat.platform old.seat new.seat → Stays old.seat.platform new.seat.platform value
    → GoesReading pair which old new value
goes_reading pair which old new value f digest stays s =
    let committed = stays.committed in
    let issued = stays.issued in
    let is = side_stays pair which old new value f s.cell s.register s.quiet committed (same_keeps old new digest) in (
      record {
        fits = is.fits;
        few = omega (arith, committed);
        one = subst (λ (x : List (List ℕ)). length x ≤ length old.seat.issued.items + 1) (sym issued) (omega arith);
      },
      λ j. record { role = is.role_is j; at = is.at_is j; issued = issued j },
    )

-- what is known of a seat for whose event memory was wanting, by the role of its side
abbrev WantsBy : Instance → Role → Digests → Event → Standing → Standing → Type 0
WantsBy i Live d event old new = seat.SeatLacksMemory i d event old new
WantsBy i role d event old new = SeatLacksMemoryInVain event old new

wanting_by : (which : SideName) (role : Role) (event : Event) (old new : CodeSide) (memory : Memory)
    → (let pair = pair_of old.seat.header in
    StandsAs pair which role old.seat.platform (at_in old) → IsQuiet old.seat.platform
    → seat.SeatTakesEvent event old.seat new.seat (Err memory) → SeatStaysOn new.seat.platform old.seat new.seat
    × WantsBy (instance_on pair which) role (at_in old) event old.seat.platform new.seat.platform)
wanting_by which Live event old new memory s quiet f =
    let pair = pair_of old.seat.header in
    f.own (key_of pair which) pair.barrier (at_in old) (stands_live pair which old.seat.platform (at_in old) s) quiet refl
wanting_by which role event old new memory s quiet f =
    let pair = pair_of old.seat.header in
    f.vain (instance_on pair which) (at_in old) (Err (fault_where role)) (refusal_for_role role)
    (vain_reads pair which role old.seat.platform (at_in old) refl s quiet) refl

module _ (pair : Pair) (which : SideName) (old new : CodeSide) (fits : FitsSide pair which old)
    (goes : (value : List ℕ) → Stays old.seat.platform new.seat.platform value → GoesReading pair which old new value) where
  abbrev i : Instance
  i = instance_on pair which

  abbrev d : Digests
  d = at_in old

  same_platform : new.seat.platform ≡ old.seat.platform → SideGoesOn pair which old new × (side_in new ≡ side_in old)
  same_platform e = goes d.register (stays_same old.seat.platform new.seat.platform d.register fits.stands.register fits.quiet e)

  ask_wants : (role : Role) (meddles : List Meddle) (stop : Stop) (offer : Offer) (b : Batch)
      → StandsAs pair which role old.seat.platform d
      → WantsBy i role d (Ask meddles stop offer b) old.seat.platform new.seat.platform
      → SideGoesOn pair which old new × AskWants i role meddles stop (side_in old) (side_in new)
  ask_wants Live meddles stop offer b s w = elim w [
    | inl e ↦ let k = same_platform e in (k.0, inl k.1)
    | inr e ↦
        let l = stands_live pair which old.seat.platform d s in
        let fates = (course_of stop meddles).fates in
        let seen : Digests = state_after_moves (digest_level i) d (moves_seen fates (reading_steps i.variant) 1) in
        let is : IsRegister d seen = seen_digests i d fates (reading_steps i.variant) 1 in
        let k = goes seen.register (record {
          cell = e.stands.at.cell ∙ ap (λ (x : Digests). Some (cell_spelling (cell_at i x))) is ∙ sym l.at.cell;
          register = e.stands.register;
          quiet = e.quiet;
        }) in
        (k.0, inr (k.1 ∙ ap (λ (x : Digests). record (side_in old) { at = x }) (sym is)))
  ]
  ask_wants role meddles stop offer b s w = same_platform w

  power_wants : (role : Role) → WantsBy i role d Power old.seat.platform new.seat.platform → ⊥
  power_wants Live w = w
  power_wants role w = w

  checkpoint_wants : (role : Role) (meddles : List Meddle) (stop : Stop)
      → WantsBy i role d (Checkpoint meddles stop) old.seat.platform new.seat.platform → new.seat.platform ≡ old.seat.platform
  checkpoint_wants Live meddles stop w = w
  checkpoint_wants role meddles stop w = w

  extend_wants : (role : Role) (value : List ℕ) → WantsBy i role d (Extend value) old.seat.platform new.seat.platform
      → new.seat.platform ≡ old.seat.platform
  extend_wants Live value w = w
  extend_wants role value w = w

  plain_wants : (event : Event) → WantsBy i (role_in old.seat.platform.cell) d event old.seat.platform new.seat.platform
      → SideGoesOn pair which old new × PlainWants i event (side_in old) (side_in new)
  plain_wants (Ask meddles stop offer b) w = ask_wants (role_in old.seat.platform.cell) meddles stop offer b fits.stands w
  plain_wants Power w = absurd (power_wants (role_in old.seat.platform.cell) w)
  plain_wants (Checkpoint meddles stop) w = same_platform (checkpoint_wants (role_in old.seat.platform.cell) meddles stop w)
  plain_wants (Extend value) w = same_platform (extend_wants (role_in old.seat.platform.cell) value w)

lacks_by : (which : SideName) (event : Event) (old new : CodeSide) (memory : Memory) → FitsSide (pair_of old.seat.header) which old
    → new.digest ≡ old.digest → seat.SeatTakesEvent event old.seat new.seat (Err memory) → SideLacks (pair_of old.seat.header)
    which event old new
lacks_by which event old new memory fits digest f =
    let pair = pair_of old.seat.header in
    let w = wanting_by which (role_in old.seat.platform.cell) event old new memory fits.stands fits.quiet f in
    let k = plain_wants pair which old new fits (λ value s. goes_reading pair which old new value fits digest w.0 s) event w.1 in
    record { goes = k.0; stands = k.1; digest = digest; committed = w.0.committed }

-- an event at the seat of a side is one on the side
pub side_follows : (event : Event) (old new : CodeSide) (result : Result Reply Memory) → old.seat.committed < 2 ^ 63
    → new.digest ≡ old.digest → seat.SeatTakesEvent event old.seat new.seat result → SideFollows event old new result
side_follows event old new (Ok said) bound digest f = record {
  headed = f.header;
  comes = λ which fits. comes_by which (role_in old.seat.platform.cell) event old new said refl fits fits.stands bound digest f;
}
side_follows event old new (Err memory) bound digest f =
    record { headed = f.header; comes = λ which fits. lacks_by which event old new memory fits digest f }

-- Both sides at first.

barrier_by : (variant : Variant) (meaning : Meaning) (key barrier : List ℕ) → length barrier ≡ 32
    → length (instance_by variant meaning key barrier).barrier ≡ 32
barrier_by Basic meaning key barrier e = length-zero_bytes
barrier_by Opt meaning key barrier e = e

start_on : (variant : Variant) (meaning : Meaning) (key barrier : List ℕ)
    → start_digest_of (instance_by variant meaning key barrier).variant (instance_by variant meaning key barrier).meaning.id
    ≡ start_digest_of variant
    meaning.id
start_on Basic meaning key barrier = refl
start_on Opt meaning key barrier = refl

length-first_key : length world_key ≡ 32
unfolding rising_bytes_from
length-first_key = refl

length-second_key : length (rising_bytes_from 0x40) ≡ 32
unfolding rising_bytes_from
length-second_key = refl

length-barrier : length world_barrier ≡ 32
unfolding rising_bytes_from
length-barrier = refl

pub live_new : (header : Header) (key barrier : List ℕ) (new : CodeSide) → key ≡ world_key → barrier ≡ world_barrier
    → IsFirst header key barrier new.seat → IsNew header First (first_both_by_digests (pair_of header)).first new
live_new header key barrier new same_key same_barrier is =
    let pair = pair_of header in
    let i = instance_on pair First in
    let d : Digests = first_digests i in
    let same : instance_at header key barrier ≡ i = (λ j. instance_at header (same_key j) (same_barrier j)) in
    let there : new.seat.platform ≡ new_platform (cell_spelling (cell_of i first_history)) =
    is.platform ∙ ap (λ (x : Instance). new_platform (cell_spelling (cell_of x first_history))) same in
    let stands : HasDigests i new.seat.platform d = subst (λ (s : Standing). HasDigests i s d) (sym there)
    (stands_new header.variant (meaning_of header.«module») world_key world_barrier (cell_spelling (cell_of i first_history))
    length-first_key length-barrier refl) in
    let quiet : IsQuiet new.seat.platform =
    record { is_on = ap (λ (s : Standing). s.is_on) there; plan = ap (λ (s : Standing). s.plan) there } in
    let side = side_is pair First Live d new (live_stands pair First new.seat.platform d stands) quiet is.committed tt in
    let issued = is.issued ∙ ap (λ (x : Instance). issued_bytes x first_history ∷ []) same in
    record {
      headed = is.headed;
      fits = side.fits;
      stands = λ j. record { role = side.role_is j; at = side.at_is j; issued = issued j };
      committed = is.committed;
    }

pub blank_new : (header : Header) (cell : List ℕ) (new : CodeSide) → cell ≡ blank_cell → IsBare header cell new.seat
    → new.digest.bytes ≡ start_digest_of header.variant (meaning_of header.«module»).id
    → IsNew header Second (first_both_by_digests (pair_of header)).second new
blank_new header cell new is bare starts =
    let pair = pair_of header in
    let i = instance_on pair Second in
    let d : Digests = first_digests i in
    let there : new.seat.platform ≡ new_platform blank_cell = bare.platform ∙ ap new_platform is in
    let digest : new.digest.bytes ≡ d.digest = starts ∙ sym (start_on pair.variant pair.meaning (key_of pair Second) pair.barrier) in
    let key : length i.key ≡ 32 = ap length (key_by pair.variant pair.meaning (key_of pair Second) pair.barrier) ∙ length-second_key in
    let stands : StandsAs pair Second Blank new.seat.platform d = record {
      fits = record {
        key = key;
        barrier = barrier_by pair.variant pair.meaning (key_of pair Second) pair.barrier length-barrier;
        linked = linked_by pair.variant pair.meaning (key_of pair Second) pair.barrier pair.link;
        fits = refl;
      };
      cell = ap (λ (s : Standing). s.cell) there;
      register = ap register_reading there;
    } in
    let quiet : IsQuiet new.seat.platform =
    record { is_on = ap (λ (s : Standing). s.is_on) there; plan = ap (λ (s : Standing). s.plan) there } in
    let side = side_is pair Second Blank d new stands quiet bare.committed digest in
    let issued = bare.issued in
    record {
      headed = bare.headed;
      fits = side.fits;
      stands = λ j. record { role = side.role_is j; at = side.at_is j; issued = issued j };
      committed = bare.committed;
    }
