-- A planned call comes to what it does by digests: what it commits, what the register reads after its moves, and how it ends.
use Rattle.mm_world.proofs.Below.{◌≡◌, ℕ, ◌+◌, Bool, true, false, List, [], ◌∷◌, ◌++◌, length, Option, None, Some, Result, Ok, Err, refl}
use Rattle.mm_world.proofs.Below.{ap, ◌∙◌, arith, if◌then◌else◌, option_map, map-append, Variant, Basic, Opt, zero_bytes}
use Rattle.mm_world.proofs.Below.{extended_digest_of, Batch, members_of, size_of, outputs_from, StepFault, Item, own_item, foreign_item}
use Rattle.mm_world.proofs.Below.{item_values, register_after, Instance, Move, Commit, Foreign, Placed, Close, Digests, digests_after}
use Rattle.mm_world.proofs.Below.{Refusal, digest_level, state_after_moves, CallFinding, is_fresh, StepsWalk, has_commit, CallEnding}
use Rattle.mm_world.proofs.Below.{Answers, Refuses, Breaks, position_of, call_ending_by, position_if_committed, items_after_move}
use Rattle.mm_world.proofs.Below.{items_after_moves, again_of, fresh_of, committed_batches, Commits, nothing, batch, commits-none}
use Rattle.mm_world.proofs.Below.{commits_batch, size_if, count-made, sizes_of, sym, eqb-true, ◌==◌, Stop, Quiet, Cut, Drop, Fail, fault_at}
use Rattle.mm_world.proofs.Below.{is_made_at, Fails, end_of, stopped_step, takes_effect, ◌&&◌, subst, option_to_list, append-nil, Standing}
use Rattle.mm_world.proofs.Below.{items_after_cycle, Power, register_reading, DeviceStep, Reads, Writes, ask_steps, finding_at}
use Rattle.mm_world.proofs.Below.{finding_unless_wanting, End, Done, StepFate, walk, walk_from_step, moves_seen, CallOutcome, call_outcome}
use Rattle.mm_world.proofs.Below.{call_outcome_by, result_of_ending, reading_steps, RegisterStandsAt, PlatformStaysOn, fault_of}
use Rattle.mm_world.proofs.Below.{steps_of_change, reading_none, way_of, moves_after_stop, reply_of, snapshots_of, moves_after_call}
use Rattle.mm_world.proofs.Below.{HasDigests, is_cut, register_of_items}
use Rattle.std.proofs.lemmas.List.Sums.{fold-append}
use Rattle.mm_module.specs.RunLaws.{length-outputs_from}
use Rattle.mm_model.specs.Chains.{guard}
use Rattle.mm_model.specs.declared.answer.BatchAnswer.{BatchAnswer}
use Rattle.mm_platform.specs.declared.fault.StepFault.TheVariants as step
use Rattle.mm_model.specs.declared.refusal.Refusal.TheVariants as refusal
use Rattle.mm_world.specs.declared.call.CallReport as code

pub count_none : (i : Instance) (moves : List Move) (d : Digests) → committed_batches moves ≡ []
    → (state_after_moves (digest_level i) d moves).count ≡ d.count
count_none i moves d e = omega (arith, count-made i moves d, ap sizes_of e)

pub count_one : (i : Instance) (moves : List Move) (d : Digests) (b : Batch) → committed_batches moves ≡ b ∷ []
    → (state_after_moves (digest_level i) d moves).count ≡ d.count + size_of b
count_one i moves d b e = omega (arith, count-made i moves d, ap sizes_of e)

-- how many requests a call commits, by how it ended
abbrev pub committed_by : CallEnding → ℕ → ℕ
committed_by (Answers answer) size = if answer.again then 0 else length answer.outputs
committed_by (Refuses why) size = 0
committed_by (Breaks fault kept) size = size_if kept size

-- the step at which a planned call is broken off
pub record StoppedAt (stop : Stop) (n : ℕ) (made : Bool) : Type 0 where
  pub number : stopped_step stop ≡ n
  pub effect : made ≡ takes_effect stop

stopped_by : (stop : Stop) (at n : ℕ) (here done whole : Bool) (off fault : StepFault) (made : Bool) → (at == n) ≡ here
    → stopped_step stop ≡ at → takes_effect stop ≡ done → (here ≡ true → whole ≡ done)
    → end_of (if here then Some off else None) whole ≡ Fails fault made → StoppedAt stop n made
stopped_by stop at n true done whole off fault made here number effect is e =
    record { number = number ∙ eqb-true at n here; effect = (let x : whole ≡ made = cc in sym x ∙ is refl ∙ sym effect) }
stopped_by stop at n false done whole off fault made here number effect is e = cc

pub stopped_at : (stop : Stop) (n : ℕ) (fault : StepFault) (made : Bool) → end_of (fault_at stop n) (is_made_at stop n) ≡ Fails fault made
    → StoppedAt stop n made
stopped_at Quiet n fault made e = cc
stopped_at (Cut at) n fault made e = stopped_by (Cut at) at n (at == n) true true step.Off fault made refl refl refl (λ _. refl) e
stopped_at (Drop at) n fault made e = stopped_by (Drop at) at n (at == n) true true step.Off fault made refl refl refl (λ _. refl) e
stopped_at (Fail at done) n fault made e =
    stopped_by (Fail at done) at n (at == n) done (if at == n then done else true) step.Failed fault made refl refl refl
    (λ x. ap (λ (c : Bool). if c then done else true) x) e

-- the register reads what its items show of moves

read_push : (items : List Item) (item : Item)
    → register_after (item_values (items ++ item ∷ [])) ≡ extended_digest_of (register_after (item_values items)) item.value
read_push items item =
    ap register_after (map-append (λ (it : Item). it.value) items (item ∷ []))
    ∙ fold-append extended_digest_of zero_bytes (item_values items) (item.value ∷ [])

shown_reads : (variant : Variant) (flag : Bool) (i : Instance) (d : Digests) (m : Move) (items : List Item) → i.variant ≡ variant
    → d.flag ≡ flag → register_after (item_values items) ≡ d.register
    → register_after (item_values (items_after_move variant flag i m items))
    ≡ (digests_after i d m).register
shown_reads Basic flag i d (Commit b) items v f e = e ∙ rw v refl
shown_reads Opt true i d (Commit b) items v f e = read_push items (own_item (guard i.barrier b)) ∙ rw (e, v, f) refl
shown_reads Opt false i d (Commit b) items v f e = e ∙ rw (v, f) refl
shown_reads variant flag i d (Foreign x) items v f e = read_push items (foreign_item x) ∙ ap (λ r. extended_digest_of r x) e
shown_reads variant flag i d (Placed b) items v f e =
    read_push items (own_item (guard i.barrier b)) ∙ ap (λ r. extended_digest_of r (guard i.barrier b)) e
shown_reads variant flag i d Close items v f e = e
shown_reads variant flag i d _ items v f e = refl

kept_size : (committed is : Bool) (position size : ℕ) → committed ≡ is → size_if (position_if_committed committed position) size
    ≡ (if is then size else
    0)
kept_size true is position size e = ap (λ (c : Bool). if c then size else 0) e
kept_size false is position size e = ap (λ (c : Bool). if c then size else 0) e

module _ (i : Instance) where
  pub counted_end : (d seen : Digests) (b : Batch) (found : Result CallFinding Refusal) (walked : StepsWalk) (broken : Option StepFault)
      → walked.broken ≡ broken → Commits b (is_fresh found) walked → (state_after_moves (digest_level i) d walked.moves).count ≡ d.count
      + committed_by
      (call_ending_by (digest_level i) seen (state_after_moves (digest_level i) d walked.moves) b found walked.moves broken) (size_of b)
  counted_end d seen b found walked (Some fault) e (nothing none unless) =
      let position = position_of (digest_level i) seen (state_after_moves (digest_level i) d walked.moves) b found in
      omega (
        arith,
        count_none i walked.moves d none,
        kept_size (has_commit walked.moves) false position (size_of b) (commits-none walked.moves none),
      )
  counted_end d seen b (Ok f) walked (Some fault) e (batch one fresh) =
      let position = position_of (digest_level i) seen (state_after_moves (digest_level i) d walked.moves) b (Ok f) in
      omega (
        arith,
        count_one i walked.moves d b one,
        kept_size (has_commit walked.moves) true position (size_of b) (commits_batch walked.moves b one),
      )
  counted_end d seen b (Err why) walked None e (nothing none unless) = omega (arith, count_none i walked.moves d none)
  counted_end d seen b (Ok f) walked None e (nothing none unless) =
      let n = length (outputs_from i.meaning f.offered.state (members_of b)) in
      let k : (if f.again then 0 else n) ≡ 0 = ap (λ (again : Bool). if again then 0 else n) (again_of f.again (unless e)) in
      omega (arith, count_none i walked.moves d none, k)
  counted_end d seen b (Ok f) walked None e (batch one fresh) =
      let n = length (outputs_from i.meaning f.offered.state (members_of b)) in
      let k : (if f.again then 0 else n) ≡ size_of b = ap (λ (again : Bool). if again then 0 else n) (fresh_of f.again fresh)
      ∙ length-outputs_from i.meaning f.offered.state (members_of b) in
      omega (arith, count_one i walked.moves d b one, k)
  counted_end d seen b (Err why) walked broken e (batch one fresh) = cc

  shown_all : (moves : List Move) (d : Digests) (items : List Item) → register_after (item_values items) ≡ d.register
      → register_after (item_values (items_after_moves i d moves items)) ≡ (state_after_moves (digest_level i) d moves).register
  shown_all [] d items e = e
  shown_all (m ∷ moves) d items e =
      shown_all moves (digests_after i d m) (items_after_move i.variant d.flag i m items)
      (shown_reads i.variant d.flag i d m items refl refl e)

  pub reads_shown : (moves : List Move) (d : Digests) (items : Option (List Item)) → option_map (λ xs. register_after (item_values xs))
      items ≡ Some d.register → option_map (λ xs. register_after (item_values xs)) (option_map (items_after_moves i d moves) items) ≡ Some
      (state_after_moves (digest_level i) d moves).register
  reads_shown moves d None e = cc
  reads_shown moves d (Some xs) e = let f : register_after (item_values xs) ≡ d.register = cc in ap Some (shown_all moves d xs f)

-- steps that read

abbrev AreReads : List DeviceStep → Type 0
AreReads [] = Unit {0}
AreReads (Reads ∷ steps) = AreReads steps
AreReads _ = ⊥

reading_reads : (variant : Variant) → AreReads (reading_steps variant)
reading_reads Basic = tt
reading_reads Opt = tt

-- what a call makes behind its reading steps
abbrev behind : Variant → Bool → Bool → Batch → List DeviceStep
behind variant flag false b = []
behind Basic flag true b = Writes (Commit b) ∷ []
behind Opt flag true b = steps_of_change flag true b

ask_split : (variant : Variant) (flag fresh : Bool) (b : Batch) → ask_steps variant flag fresh b ≡ reading_steps variant
    ++ behind variant flag fresh b
ask_split Basic flag false b = refl
ask_split Opt true false b = refl
ask_split Opt false false b = refl
ask_split _ _ _ b = refl

-- the walk of reading steps that are all done
abbrev all_read : (ℕ → StepFate) → ℕ → List DeviceStep → StepsWalk
all_read fates n reads = record { moves = moves_seen fates reads n; steps = length reads; writes = 0; broken = None }

-- reading steps are all done, or one of them fails: then it doesn't matter what would follow
data Reading (fates : ℕ → StepFate) (n : ℕ) (reads rest : List DeviceStep) : Type 0 where
  whole : walk fates n reads ≡ all_read fates n reads → Reading fates n reads rest
  cut_off : (fault : StepFault) → (walk fates n reads).broken ≡ Some fault → walk fates n (reads ++ rest) ≡ walk fates n reads
      → Reading fates n reads rest

reading_more : (fates : ℕ → StepFate) (n : ℕ) (reads rest : List DeviceStep) (e : End) → (fates n).ends ≡ e
    → Reading fates (n + 1) reads rest
    → Reading fates n (Reads ∷ reads) rest
reading_more fates n reads rest Done e (whole all) =
    whole (ap (λ x. walk_from_step Reads (fates n).brings x (walk fates (n + 1) reads)) e
    ∙ ap (walk_from_step Reads (fates n).brings Done) all)
reading_more fates n reads rest Done e (cut_off fault broken same) =
    cut_off fault (ap (λ x. (walk_from_step Reads (fates n).brings x (walk fates (n + 1) reads)).broken) e ∙ broken)
    (ap (λ w. walk_from_step Reads (fates n).brings (fates n).ends w) same)
reading_more fates n reads rest (Fails fault made) e r =
    let P : StepsWalk → End → StepsWalk = λ w x. walk_from_step Reads (fates n).brings x w in
    cut_off fault (ap (λ x. (P (walk fates (n + 1) reads) x).broken) e)
    (ap (P (walk fates (n + 1) (reads ++ rest))) e ∙ sym (ap (P (walk fates (n + 1) reads)) e))

reading : (fates : ℕ → StepFate) (n : ℕ) (reads rest : List DeviceStep) → AreReads reads → Reading fates n reads rest
reading fates n [] rest are = whole refl
reading fates n (Reads ∷ reads) rest are = reading_more fates n reads rest (fates n).ends refl (reading fates (n + 1) reads rest are)
reading fates n _ rest are = absurd are

-- the last step of a walk that was broken off
pub record BreaksAt (fates : ℕ → StepFate) (n : ℕ) (walked : StepsWalk) : Type 0 where
  pub fault : StepFault
  pub made : Bool
  pub fails : (last : ℕ) → last + 1 ≡ n + walked.steps → (fates last).ends ≡ Fails fault made

breaks_more : (fates : ℕ → StepFate) (n : ℕ) (step : DeviceStep) (rest : StepsWalk) (e : End) (f : StepFault) → (fates n).ends ≡ e
    → (walk_from_step step (fates n).brings e rest).broken ≡ Some f → (rest.broken ≡ Some f → BreaksAt fates (n + 1) rest)
    → BreaksAt fates n (walk_from_step step (fates n).brings e rest)
breaks_more fates n step rest Done f e broken later =
    let l = later broken in record { fault = l.fault; made = l.made; fails = λ last at. l.fails last (omega (arith, at)) }
breaks_more fates n step rest (Fails fault made) f e broken later =
    record { fault = fault; made = made; fails = λ last at. subst (λ k. (fates k).ends ≡ Fails fault made) (omega (arith, at)) e }

pub breaks_at : (fates : ℕ → StepFate) (n : ℕ) (steps : List DeviceStep) (f : StepFault) → (walk fates n steps).broken ≡ Some f
    → BreaksAt fates n (walk fates n steps)
breaks_at fates n [] f broken = cc
breaks_at fates n (step ∷ steps) f broken =
    breaks_more fates n step (walk fates (n + 1) steps) (fates n).ends f refl broken (λ later. breaks_at fates (n + 1) steps f later)

pub data Lacking (o o' : CallOutcome Digests) : Type 0 where
  refuses : o.ending ≡ Refuses refusal.Memory → Lacking o o'
  same : o ≡ o' → Lacking o o'

abbrev call_of : Instance → Digests → Digests → Batch → Result CallFinding Refusal → StepsWalk → CallOutcome Digests
call_of i d seen b found walked = call_outcome_by (digest_level i) d seen b found walked

read_only : (variant : Variant) (flag : Bool) (b : Batch) (fates : ℕ → StepFate)
    → walk fates 1 (ask_steps variant flag false b) ≡ walk fates 1 (reading_steps variant)
read_only variant flag b fates = ap (walk fates 1) (ask_split variant flag false b ∙ append-nil (reading_steps variant))

module _ (i : Instance) (d seen : Digests) where
  -- want of memory

  -- with nothing left to make but reading steps
  same_broken : (s : Digests) (b : Batch) (f : CallFinding) (walked : StepsWalk) (fault : StepFault) (broken : Option StepFault)
      → walked.broken ≡ broken → broken ≡ Some fault → has_commit walked.moves ≡ false → call_ending_by (digest_level i) seen s b
      (Err refusal.Memory)
      walked.moves broken ≡ call_ending_by (digest_level i) seen s b (Ok f) walked.moves broken
  same_broken s b f walked fault None e known none = cc
  same_broken s b f walked fault (Some g) e known none =
      ap (λ c. Breaks g (position_if_committed c 0)) none
      ∙ sym (ap (λ c. Breaks g (position_if_committed c (position_of (digest_level i) seen s b (Ok f)))) none)

  refuses_by : (b : Batch) (walked : StepsWalk) (broken : Option StepFault) → walked.broken ≡ broken → broken ≡ None
      → call_ending_by (digest_level i) seen (state_after_moves (digest_level i) d walked.moves) b (Err refusal.Memory) walked.moves broken
      ≡ Refuses
      refusal.Memory
  refuses_by b walked None e none = refl
  refuses_by b walked (Some f) e none = cc

  lacking_found : (b : Batch) (fates : ℕ → StepFate) (rest : List DeviceStep) (f : CallFinding)
      → Reading fates 1 (reading_steps i.variant) rest
      → Lacking (call_of i d seen b (Err refusal.Memory) (walk fates 1 (reading_steps i.variant))) (call_of i d seen b (Ok f)
      (walk fates 1 (reading_steps i.variant ++ rest)))
  lacking_found b fates rest f (whole all) =
      let w = walk fates 1 (reading_steps i.variant) in refuses (refuses_by b w w.broken refl (ap (λ (x : StepsWalk). x.broken) all))
  lacking_found b fates rest f (cut_off fault broken alike) =
      let w = walk fates 1 (reading_steps i.variant) in
      let none = commits-none w.moves (reading_none i.variant fates) in
      let ends = same_broken (state_after_moves (digest_level i) d w.moves) b f w fault w.broken refl broken none in
      same ((λ j. record {
        state = state_after_moves (digest_level i) d w.moves;
        ending = ends j;
        moves = w.moves;
        steps = w.steps;
        writes = w.writes;
      }) ∙ ap (call_of i d seen b (Ok f)) (sym alike))

  lacking : (b : Batch) (fates : ℕ → StepFate) (found : Result CallFinding Refusal)
      → Lacking (call_of i d seen b (finding_unless_wanting found true)
      (walk fates 1 (ask_steps i.variant d.flag (is_fresh (finding_unless_wanting found true)) b)))
      (call_of i d seen b (finding_unless_wanting found false)
      (walk fates 1 (ask_steps i.variant d.flag (is_fresh (finding_unless_wanting found false)) b)))
  lacking b fates (Err why) = same refl
  lacking b fates (Ok f) =
      let fresh = is_fresh (Ok f) in let rest = behind i.variant d.flag fresh b in
      let P : StepsWalk → StepsWalk → Type 0 = λ w v. Lacking (call_of i d seen b (Err refusal.Memory) w) (call_of i d seen b (Ok f) v) in
      subst (λ w. P w (walk fates 1 (ask_steps i.variant d.flag fresh b))) (sym (read_only i.variant d.flag b fates))
      (subst (λ v. P (walk fates 1 (reading_steps i.variant)) v) (sym (ap (walk fates 1) (ask_split i.variant d.flag fresh b)))
      (lacking_found b fates rest f (reading fates 1 (reading_steps i.variant) rest (reading_reads i.variant))))

-- a call on a course is refused for want of memory, or is the call with memory at hand
pub lacks_or_same : (i : Instance) (d : Digests) (fates : ℕ → StepFate) (lacks : Bool) (bytes : List ℕ) (b : Batch)
    → Lacking (call_outcome i (digest_level i) d (record { fates = fates; lacks = lacks }) bytes b)
    (call_outcome i (digest_level i) d (record { fates = fates; lacks = false }) bytes b)
lacks_or_same i d fates false bytes b = same refl
lacks_or_same i d fates true bytes b =
    let seen = state_after_moves (digest_level i) d (moves_seen fates (reading_steps i.variant) 1) in
    lacking i d seen b fates (finding_at i (digest_level i) seen b bytes)

-- a call that is refused has made its reading steps, and no others

pub record ReadsAlone (i : Instance) (d : Digests) (fates : ℕ → StepFate) (o : CallOutcome Digests) : Type 0 where
  pub state : o.state ≡ state_after_moves (digest_level i) d (moves_seen fates (reading_steps i.variant) 1)
  pub steps : o.steps ≡ length (reading_steps i.variant)
  pub writes : o.writes ≡ 0

unbroken : (i : Instance) (d seen s : Digests) (b : Batch) (found : Result CallFinding Refusal) (why : Refusal) (moves : List Move)
    (broken : Option StepFault)
    → call_ending_by (digest_level i) seen s b found moves broken ≡ Refuses why → (broken ≡ None) × (is_fresh found ≡ false)
unbroken i d seen s b (Err w) why moves None e = (refl, refl)
unbroken i d seen s b (Ok f) why moves None e = cc
unbroken i d seen s b _ why moves _ e = cc

pub refused_read : (i : Instance) (d seen : Digests) (b : Batch) (fates : ℕ → StepFate) (found : Result CallFinding Refusal) (why : Refusal)
    → (let o = call_of i d seen b found (walk fates 1 (ask_steps i.variant d.flag (is_fresh found) b)) in o.ending ≡ Refuses why
    → ReadsAlone i d fates o)
refused_read i d seen b fates found why e =
    let w = walk fates 1 (ask_steps i.variant d.flag (is_fresh found) b) in
    let u = unbroken i d seen (state_after_moves (digest_level i) d w.moves) b found why w.moves w.broken e in
    let is : w ≡ walk fates 1 (reading_steps i.variant) = ap (λ x. walk fates 1 (ask_steps i.variant d.flag x b)) u.1
    ∙ read_only i.variant d.flag b fates in
    elim (reading fates 1 (reading_steps i.variant) [] (reading_reads i.variant)) [
      | whole all ↦ record {
        state = ap (λ (x : StepsWalk). state_after_moves (digest_level i) d x.moves) (is ∙ all);
        steps = ap (λ (x : StepsWalk). x.steps) (is ∙ all);
        writes = ap (λ (x : StepsWalk). x.writes) (is ∙ all);
      }
      | cut_off fault broken alike ↦ let clash : None ≡ Some fault = sym u.0 ∙ ap (λ (x : StepsWalk). x.broken) is ∙ broken in absurd (cc)
    ]

-- what a result tells of an ending

pub told_ok : (e : CallEnding) (a : BatchAnswer) → result_of_ending e ≡ Ok a → e ≡ Answers a
told_ok (Answers x) a e = let s : x ≡ a = cc in ap Answers s
told_ok _ a e = cc

pub told_err : (e : CallEnding) (why : Refusal) → result_of_ending e ≡ Err why → fault_of why ≡ None → e ≡ Refuses why
told_err (Answers x) why e none = cc
told_err (Refuses x) why e none = let s : x ≡ why = cc in ap Refuses s
told_err (Breaks fault kept) why e none =
    let s : refusal.Device fault ≡ why = cc in let clash : Some fault ≡ None = ap fault_of s ∙ none in absurd (cc)

-- the outcome, on the platform

pub register_at : (variant : Variant) (reads : Option (List ℕ)) (register : List ℕ) → reads ≡ Some register
    → RegisterStandsAt variant reads register
register_at Basic reads register e = tt
register_at Opt reads register e = e

-- whether a call was broken off
abbrev pub breaks : CallEnding → Bool
breaks (Breaks fault kept) = true
breaks _ = false

-- the loss of power by a cut
abbrev pub power_if : Bool → List Move
power_if true = Power ∷ []
power_if false = []

pub stop_power : (stop : Stop) → moves_after_stop stop ≡ power_if (is_cut stop)
stop_power Quiet = refl
stop_power _ = refl

pub moves_power : (stop : Stop) (e : CallEnding) → moves_after_call stop e ≡ power_if (breaks e && is_cut stop)
moves_power stop (Breaks fault kept) = stop_power stop
moves_power stop _ = refl

pub reads_none : (items : Option (List Item)) (r : List ℕ) → option_map (λ xs. register_after (item_values xs)) items ≡ Some r
    → option_map (λ xs. register_after (item_values xs)) (items_after_cycle true items) ≡ Some zero_bytes
reads_none None r e = cc
reads_none (Some xs) r e = refl

-- what the register reads once the plan is over
pub settled_reads : (i : Instance) (d : Digests) (mid new : Standing) (lost : Bool) → register_reading mid ≡ Some d.register
    → new.items ≡ items_after_cycle lost mid.items → register_reading new
    ≡ Some (state_after_moves (digest_level i) d (power_if lost)).register
settled_reads i d mid new false e items = ap register_of_items items ∙ e
settled_reads i d mid new true e items = ap register_of_items items ∙ reads_none mid.items d.register e

-- with the same cell, and a register that reads this
pub stands_read : (i : Instance) (d : Digests) (old new : Standing) (register : List ℕ) → HasDigests i old d → new.cell ≡ old.cell
    → register_reading new ≡ Some register → HasDigests i new (record d { register = register })
stands_read i d old new register s cell r =
    record { at = record { spells = s.at.spells; cell = cell ∙ s.at.cell; reads = register_at i.variant _ _ r }; register = r }

pub stands_settled : (i : Instance) (d : Digests) (mid new : Standing) (lost : Bool) → HasDigests i mid d → new.cell ≡ mid.cell
    → new.items ≡ items_after_cycle lost mid.items → HasDigests i new (state_after_moves (digest_level i) d (power_if lost))
stands_settled i d mid new false s cell items = stands_read i d mid new _ s cell (settled_reads i d mid new false s.register items)
stands_settled i d mid new true s cell items = stands_read i d mid new _ s cell (settled_reads i d mid new true s.register items)

pub on_settled : (stop : Stop) (broken : Bool) (mid new : Standing) → PlatformStaysOn stop broken mid
    → new.is_on ≡ (if broken && is_cut stop then true else mid.is_on) → new.is_on ≡ true
on_settled (Cut n) true mid new stays e = e
on_settled _ true mid new stays e = e ∙ stays
on_settled _ _ mid new stays e = e ∙ stays

-- what a call came to, in the words of its ending
pub record Tells (stop : Stop) (size : ℕ) (e : CallEnding) (it : code.CallReport) : Type 0 where
  pub reply : it.reply ≡ reply_of (way_of stop) e
  pub snapshot : option_to_list it.snapshot ≡ snapshots_of e
  pub committed : it.committed ≡ committed_by e size

pub power_count : (i : Instance) (d : Digests) (lost : Bool) → (state_after_moves (digest_level i) d (power_if lost)).count ≡ d.count
power_count i d true = refl
power_count i d false = refl

-- what the register reads after the moves that it showed
pub came_register : (i : Instance) (d : Digests) (o : CallOutcome Digests) (planned_at mid : Standing)
    → mid.items ≡ option_map (items_after_moves i d o.moves) planned_at.items
    → o.state ≡ state_after_moves (digest_level i) d o.moves → register_reading planned_at ≡ Some d.register → register_reading mid
    ≡ Some o.state.register
came_register i d o planned_at mid items state register =
    ap register_of_items items ∙ reads_shown i o.moves d planned_at.items register
    ∙ ap (λ (e : Digests). Some e.register) (sym state)
