-- In Opt a call that was told as a repeat, or refused as its offer is, was idle where no segment was open.
use Rattle.std.specs.Prelude.{◌&&◌, ◌+◌, if◌then◌else◌, nat_eq}
use Rattle.std.specs.Option.{option_map_or}
use Rattle.std.specs.Str.{bytes_eq}
use Rattle.std.proofs.Common.{◌≡◌, ◌≢◌, ◌∙◌, ℕ, Bool, true, false, List, [], ◌∷◌, Option, None, Some, Result, Ok, Err, map, refl, sym, ap}
use Rattle.std.proofs.Common.{subst}
use Rattle.mm_digest.specs.declared.variant.Variant.TheVariants.{Opt}
use Rattle.mm_seal.specs.Snapshot.{Content}
use Rattle.mm_platform.specs.Standing.{Standing}
use Rattle.mm_platform.specs.declared.fault.StepFault.{StepFault}
use Rattle.mm_module.specs.Batch.{Batch, normal_batch}
use Rattle.mm_module.specs.Meaning.{Meaning}
use Rattle.mm_model.specs.History.{RegisterEntry, Foreign, History, Move, ask_steps, total_of}
use Rattle.mm_model.specs.Chains.{Instance, opt_instance}
use Rattle.mm_model.specs.Verdicts.{is_last, verdict_by_tests}
use Rattle.mm_model.specs.Standing.{Life, is_lost, life_of, StandsFor}
use Rattle.mm_recovery.specs.CellWrites.{TellsFlag}
use Rattle.mm_seal.specs.Cell.{cell_spelling, flag_byte}
use Rattle.mm_seal.specs.declared.cell.Cell.{Cell}
use Rattle.mm_seal.specs.Parts.{parts_of}
use Rattle.mm_life.specs.Premises.{flag_in, has_open_segment}
use Rattle.mm_model.specs.Moves.{Digests, digests_of}
use Rattle.mm_model.specs.declared.answer.BatchAnswer.{BatchAnswer}
use Rattle.mm_model.specs.declared.refusal.Refusal.{Refusal}
use Rattle.mm_model.specs.declared.refusal.Refusal.TheVariants.{Device, Memory}
use Rattle.mm_model.specs.declared.refusal.Refusal.TheVariants as refusal
use Rattle.mm_call.specs.CallPremises.{IsAsked, counted_moves, moves_from_reset, AreAsked, IsIdle}
use Rattle.mm_call.specs.CallOutcome.{call_outcome, call_ending_by, result_of_ending, state_seen, walk}
use Rattle.mm_call.specs.CallKind.{IsCallOnCourse}
use Rattle.mm_call.specs.CallFinding.{CallFinding, finding_at, finding_by_verdict, finding_unless_wanting, is_fresh, Level, digest_level}
use Rattle.mm_call.specs.CallFinding.{list_level, fault_of}
use Rattle.mm_call.specs.OfferLaws.{asked_by}
use Rattle.mm_call.proofs.Above.{Brought, reads_only, sight_is, stands_at, life_bare}
use Rattle.mm_module.specs.Batch.{size_of}

-- told as a repeat, or refused neither for a device's fault nor for want of memory
abbrev pub IsNotNew : Result BatchAnswer Refusal → Type 0
IsNotNew (Ok answer) = answer.again ≡ true
IsNotNew (Err why) = (fault_of why ≡ None) × (why ≢ Memory)

-- an answer says whether it is a repeat
abbrev SaysAgain : {S : Type 0} → Level S → Type 0
SaysAgain {S} level =
    (again : Bool) (seen end : S) (offered : Content) (b : Batch) → (level.answer again seen end offered b).again ≡ again

old_found : {S : Type 0} (level : Level S) → SaysAgain level → (seen end : S) (b : Batch) (at : Result CallFinding Refusal) (lacks : Bool)
    (moves : List Move) (broken : Option StepFault) (gives : Result BatchAnswer Refusal)
    → gives ≡ result_of_ending (call_ending_by level seen end b (finding_unless_wanting at lacks) moves broken) → IsNotNew gives
    → is_fresh at ≡ false
old_found level says seen end b at lacks moves (Some fault) gives e n =
    let failed : (Some fault ≡ None) × (Device fault ≢ Memory) = subst IsNotNew e n in absurd (cc (failed.0))
old_found level says seen end b (Err why) lacks moves None gives e n = refl
old_found level says seen end b (Ok f) false moves None gives e n =
    let again : (level.answer f.again seen end f.offered b).again ≡ true = subst IsNotNew e n in
    let was : f.again ≡ true = sym (says f.again seen end f.offered b) ∙ again in
    ap (λ (x : Bool). if x then false else true) was
old_found level says seen end b (Ok f) true moves None gives e n =
    let wanting : (fault_of Memory ≡ None) × (Memory ≢ Memory) = subst IsNotNew e n in absurd (wanting.1 refl)

still_old : (at : Result CallFinding Refusal) (lacks : Bool) → is_fresh at ≡ false → is_fresh (finding_unless_wanting at lacks) ≡ false
still_old (Err why) lacks f = refl
still_old (Ok found) false f = f
still_old (Ok found) true f = refl

none_reset : (values : List (List ℕ)) → moves_from_reset (map Foreign values) ≡ []
none_reset [] = refl
none_reset (v ∷ values) = none_reset values

module _ (meaning : Meaning) (key barrier : List ℕ) where
  abbrev I : Instance
  I = opt_instance meaning key barrier

  -- what is found by lists at this life
  abbrev found_alive : History → Life → Batch → List ℕ → Result CallFinding Refusal
  found_alive y life b offer =
      let level : Level History = record (list_level I) {
        verdict = λ z offered c. verdict_by_tests life (nat_eq offered.position (total_of y.batches))
            (nat_eq (offered.position + size_of c) (total_of y.batches) && is_last y.batches c);
      } in
      if is_lost life then Err refusal.Lost else finding_by_verdict I level y b (parts_of Opt meaning.id offer)

  -- others' values change nothing of what is found, where no segment is open
  found_seen : (y : History) (items : List RegisterEntry) (b : Batch) (offer : List ℕ) → y.is_open ≡ false
      → finding_at I (list_level I) (record y { items = items }) b offer ≡ finding_at I (list_level I) y b offer
  found_seen y items b offer shut =
      let lives : life_of Opt (record y { items = items }) ≡ life_of Opt y = life_bare y items shut ∙ sym (life_bare y y.items shut) in
      ap (λ (life : Life). found_alive y life b offer) lives

  lists_say : SaysAgain (list_level I)
  lists_say again seen end offered b = refl

  digests_say : SaysAgain (digest_level I)
  digests_say again seen end offered b = refl

  module _ (all others : List (List ℕ)) (asked : List Batch) (y : History) (old new : Standing) (offer : List ℕ)
      (batch : Batch) (gives : Result BatchAnswer Refusal) (c : IsCallOnCourse Opt meaning old new offer batch gives)
      (s : StandsFor I old y) (a : AreAsked all others asked I y offer (normal_batch batch)) (shut : y.is_open ≡ false)
      (n : IsNotNew gives) where
    abbrev b : Batch
    b = normal_batch batch

    abbrev d : Digests
    d = digests_of I y

    abbrev moves : List Move
    moves = (call_outcome I (digest_level I) d c.course offer b).moves

    only_read : Brought moves
    only_read =
        let g = c.goes key barrier d (stands_at I old y s) in
        let seen : Digests = state_seen I (digest_level I) d c.course in
        let at : Result CallFinding Refusal = finding_at I (digest_level I) seen b offer in
        let o = call_outcome I (digest_level I) d c.course offer b in
        let old_one = still_old at c.course.lacks
        (old_found (digest_level I) digests_say seen o.state b at c.course.lacks o.moves _ gives g.gives n) in
        subst (λ (x : Bool). Brought (walk c.course.fates 1 (ask_steps Opt d.flag x b)).moves) (sym old_one)
        (subst (λ (x : Bool). Brought (walk c.course.fates 1 (ask_steps Opt x false b)).moves) (sym shut)
        (reads_only (c.course.fates 1).brings (c.course.fates 2).brings (c.course.fates 1).ends (c.course.fates 2).ends))

    none_counts : counted_moves y.is_open moves ≡ []
    none_counts =
        ap (λ (f : Bool). counted_moves f moves) shut ∙ ap moves_from_reset only_read.are ∙ none_reset only_read.values

    is_asked : IsAsked all others asked I y moves offer b
    is_asked = asked_by I all others asked y moves offer b a (rw none_counts tt) (rw none_counts tt)

    pub is_idle_where : IsIdle I y offer b
    is_idle_where =
        let k = c.continues key barrier y all others asked s is_asked in
        let seen : History = state_seen I (list_level I) y c.course in
        let at : Result CallFinding Refusal = finding_at I (list_level I) seen b offer in
        let o = call_outcome I (list_level I) y c.course offer b in
        let old_one = old_found (list_level I) lists_say seen o.state b at c.course.lacks o.moves _ gives k.gives n in
        record {
          shut = shut;
          not_new = ap is_fresh (sym (ap (λ (z : History). finding_at I (list_level I) z b offer) (sight_is I y c.course)
              ∙ found_seen y _ b offer shut)) ∙ old_one;
        }

-- the flag in the cell's bytes
flag_at : (cell : Cell) → flag_in (cell_spelling cell) ≡ flag_byte cell.flag ∷ []
unfolding cell_spelling
flag_at cell = refl

flag_read : (flag : Bool) → bytes_eq (flag_byte flag ∷ []) (1 ∷ []) ≡ flag
flag_read true = refl
flag_read false = refl

pub open_told : (standing : Standing) (flag : Bool) → TellsFlag standing flag → has_open_segment standing ≡ flag
open_told standing flag t =
    ap (λ (c : Option (List ℕ)). bytes_eq (option_map_or flag_in c []) (1 ∷ [])) t.tells
    ∙ ap (λ (bytes : List ℕ). bytes_eq bytes (1 ∷ [])) (flag_at t.cell) ∙ flag_read t.cell.flag ∙ t.shows
