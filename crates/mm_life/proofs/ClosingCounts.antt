-- What a checkpoint of a life was to write: in Opt by the flag that it leaves. With it: behind a
-- checkpoint that wasn't refused, and a loss of power, a session of Opt isn't refused as Lost.
use Rattle.std.specs.Option.{option_map_or}
use Rattle.std.specs.Prelude.{if◌then◌else◌}
use Rattle.std.specs.Str.{bytes_eq}
use Rattle.std.proofs.Common.{◌≡◌, ◌≤◌, ◌∙◌, ◌⊎◌, ℕ, Bool, true, false, List, [], ◌∷◌, ◌++◌, Option, None, Some, Result, map, arith, refl}
use Rattle.std.proofs.Common.{sym, ap, inl, inr, ◌≢◌, Ok, Err, subst}
use Rattle.mm_digest.specs.declared.variant.Variant.TheVariants.{Basic, Opt}
use Rattle.mm_platform.specs.Standing.{Standing}
use Rattle.mm_platform.specs.declared.fault.StepFault.{StepFault}
use Rattle.mm_module.specs.Batch.{Batch}
use Rattle.mm_module.specs.Meaning.{Meaning}
use Rattle.mm_model.specs.Chains.{Instance, basic_instance, opt_instance}
use Rattle.mm_model.specs.History.{Close, Foreign, Reads, Writes, checkpoint_steps}
use Rattle.mm_model.specs.Moves.{Digests, digests_after, digests_of}
use Rattle.mm_model.specs.Standing.{Lost, life_by}
use Rattle.mm_model.specs.declared.refusal.Refusal.TheVariants as refusal
use Rattle.mm_call.specs.CallFinding.{state_after_moves, digest_level}
use Rattle.mm_call.specs.CallOutcome.{Done, End, Fails, StepFate, StepsWalk, walk_from_step, walk}
use Rattle.mm_call.specs.Checkpoints.{Stops, checkpoint_outcome, checkpoint_ending}
use Rattle.mm_call.specs.Standing.{StandsAt}
use Rattle.mm_call.specs.TrailLaws.{state_after_moves-append, foreign_made}
use Rattle.mm_call.proofs.Above.{stands_at}
use Rattle.mm_opt.specs.CheckpointPromise.{IsCheckpointOnCourse, checkpoint_result}
use Rattle.mm_opt.specs.declared.segment.Checkpointed.{Checkpointed}
use Rattle.mm_opt.specs.declared.segment.CheckpointRefusal.{CheckpointRefusal}
use Rattle.mm_recovery.specs.CellWrites.{TellsFlag}
use Rattle.mm_recovery.specs.declared.fault.HostFault.TheVariants.{Refused}
use Rattle.mm_host.specs.Continuation.{RefusesAs}
use Rattle.mm_host.specs.declared.fault.SessionFault.{SessionFault}
use Rattle.mm_host.specs.declared.fault.SessionFault.TheVariants.{Host}
use Rattle.mm_life.specs.Below.{IsSession, PendingRecord, SessionStanding}
use Rattle.mm_life.specs.HonestLife.{GoesOnOver}
use Rattle.mm_life.specs.LifeWrites.{checkpoint_stop, turns_between, turns_unless_stopped}
use Rattle.mm_life.specs.Premises.{has_open_segment, flag_in}
use Rattle.mm_life.proofs.CallCounts.{Counts, counts_by, turned_same, turning}
use Rattle.mm_life.proofs.Idling.{open_told}

-- What a checkpoint's walk was to write, by the flag that it leaves.
module _ (i : Instance) where
  record Closing (flag : Bool) (d : Digests) (w : StepsWalk) : Type 0 where
    whole : w.broken ≡ None → w.writes ≡ turns_between flag (state_after_moves (digest_level i) d w.moves).flag
    most : w.writes ≤ 1

  closing_none : (fates : ℕ → StepFate) (number : ℕ) (flag : Bool) (d : Digests) → d.flag ≡ flag → Closing flag d (walk fates number [])
  closing_none fates number flag d e = record {
    whole = λ w. sym (ap (turns_between flag) e ∙ turned_same flag);
    most = omega arith;
  }

  closing_read : (values : List (List ℕ)) (ends : End) (rest : StepsWalk) (flag : Bool) (d : Digests)
      → ((e : Digests) → e.flag ≡ d.flag → Closing flag e rest) → Closing flag d (walk_from_step Reads values ends rest)
  closing_read values Done rest flag d behind =
      let h = behind (state_after_moves (digest_level i) d (map Foreign values)) (ap (λ (x : Digests). x.flag) (foreign_made i d values)) in
      record {
        whole = λ w. h.whole w ∙ ap (λ (x : Digests). turns_between flag x.flag)
            (sym (state_after_moves-append i d (map Foreign values) rest.moves));
        most = h.most;
      }
  closing_read values (Fails fault effect) rest flag d behind = record { whole = λ w. absurd (cc); most = omega arith }

  pub flag_behind : (values : List (List ℕ)) (d : Digests) → (state_after_moves (digest_level i) d (map Foreign values ++ [])).flag ≡ d.flag
  flag_behind [] d = refl
  flag_behind (v ∷ values) d = flag_behind values (digests_after i d (Foreign v))

  closing_write : (fates : ℕ → StepFate) (number : ℕ) (values : List (List ℕ)) (ends : End) (d : Digests)
      → Closing true d (walk_from_step (Writes Close) values ends (walk fates number []))
  closing_write fates number values Done d = record {
    whole = λ w. ap (turns_between true) (sym (flag_behind values (digests_after i d Close)));
    most = omega arith;
  }
  closing_write fates number values (Fails fault effect) d = record { whole = λ w. absurd (cc); most = omega arith }

  closing_walk : (fates : ℕ → StepFate) (flag lost : Bool) (d : Digests) → d.flag ≡ flag
      → Closing flag d (walk fates 1 (checkpoint_steps Opt flag lost))
  closing_walk fates false lost d e =
      closing_read (fates 1).brings (fates 1).ends (walk fates 2 []) false d (λ x same. closing_none fates 2 false x (same ∙ e))
  closing_walk fates true true d e =
      closing_read (fates 1).brings (fates 1).ends (walk fates 2 (Reads ∷ [])) true d
      (λ x same. closing_read (fates 2).brings (fates 2).ends (walk fates 3 []) true x
      (λ z also. closing_none fates 3 true z (also ∙ same ∙ e)))
  closing_walk fates true false d e =
      closing_read (fates 1).brings (fates 1).ends (walk fates 2 (Reads ∷ Writes Close ∷ [])) true d
      (λ x same. closing_read (fates 2).brings (fates 2).ends (walk fates 3 (Writes Close ∷ [])) true x
      (λ z also. closing_write fates 4 (fates 3).brings (fates 3).ends z))

told_stop : (broken : Option StepFault) (closed flag lost : Bool) (said : Result Checkpointed CheckpointRefusal)
    → said ≡ checkpoint_result (option_map_or (λ fault. Stops fault closed) broken (checkpoint_ending Opt flag lost))
    → (broken ≡ None) ⊎ (checkpoint_stop said ≡ 1)
told_stop None closed flag lost said e = inl refl
told_stop (Some fault) closed flag lost said e = inr (ap checkpoint_stop e)

read_writes : (values : List (List ℕ)) (ends : End) (fates : ℕ → StepFate) (number : ℕ)
    → (walk_from_step Reads values ends (walk fates number [])).writes ≡ 0
read_writes values Done fates number = refl
read_writes values (Fails fault effect) fates number = refl

-- none is closed where none is open
shut_writes : (fates : ℕ → StepFate) (flag lost : Bool) → flag ≡ false → (walk fates 1 (checkpoint_steps Opt flag lost)).writes ≡ 0
shut_writes fates true lost shut = absurd (cc)
shut_writes fates false lost shut = read_writes (fates 1).brings (fates 1).ends fates 2

module _ (meaning : Meaning) (key barrier : List ℕ) (old new : Standing) (said : Result Checkpointed CheckpointRefusal)
    (k : IsCheckpointOnCourse old new said) where
  pub basic_checked : (d : Digests) → StandsAt (basic_instance meaning key) old d → Counts old new (checkpoint_stop said) 0
  basic_checked d s =
      let g = k.goes Basic meaning key barrier d s in
      let none = read_writes (k.course.fates 1).brings (k.course.fates 1).ends k.course.fates 2 in
      counts_by old new (checkpoint_stop said) 0 0 _ (omega arith) (none ∙ omega arith) g.writes

  pub opt_checked : (d : Digests) → StandsAt (opt_instance meaning key barrier) old d
      → Counts old new (if has_open_segment old then checkpoint_stop said else 0)
      (turns_unless_stopped (checkpoint_stop said) (has_open_segment old) (has_open_segment new))
  opt_checked d s =
      let i : Instance = opt_instance meaning key barrier in
      let g = k.goes Opt meaning key barrier d s in
      let o = checkpoint_outcome i (digest_level i) d k.course in
      let c = closing_walk i k.course.fates d.flag _ d refl in
      let before : TellsFlag old d.flag = record { cell = _; is_cell = s.spells; tells = s.cell; shows = refl } in
      let after : TellsFlag new o.state.flag = record { cell = _; is_cell = g.stands.spells; tells = g.stands.cell; shows = refl } in
      turning (checkpoint_stop said) (has_open_segment old) (has_open_segment new) old new _ c.most
      (λ z. elim (told_stop _ _ d.flag _ said g.gives) [
        | inl whole ↦
            c.whole whole ∙ ap (λ (x : Bool). turns_between x o.state.flag) (sym (open_told old d.flag before))
            ∙ ap (λ (x : Bool). turns_between (has_open_segment old) x) (sym (open_told new o.state.flag after))
        | inr stopped ↦ absurd (omega (arith, stopped, z))
      ]) (λ shut. shut_writes k.course.fates d.flag _ (sym (open_told old d.flag before) ∙ shut)) g.writes

-- Behind a checkpoint that wasn't refused, and a loss of power, a session of Opt isn't refused as Lost.

module _ (i : Instance) where
  -- the walk leaves no open segment, unless it is broken off
  abbrev Shuts : Digests → StepsWalk → Type 0
  Shuts d w = w.broken ≡ None → (state_after_moves (digest_level i) d w.moves).flag ≡ false

  shut_none : (fates : ℕ → StepFate) (number : ℕ) (d : Digests) → d.flag ≡ false → Shuts d (walk fates number [])
  shut_none fates number d e w = e

  shut_read : (values : List (List ℕ)) (ends : End) (rest : StepsWalk) (d : Digests)
      → ((e : Digests) → e.flag ≡ d.flag → Shuts e rest) → Shuts d (walk_from_step Reads values ends rest)
  shut_read values Done rest d behind w =
      ap (λ (x : Digests). x.flag) (state_after_moves-append i d (map Foreign values) rest.moves)
      ∙ behind (state_after_moves (digest_level i) d (map Foreign values)) (ap (λ (x : Digests). x.flag) (foreign_made i d values)) w
  shut_read values (Fails fault effect) rest d behind w = absurd (cc)

  shut_write : (fates : ℕ → StepFate) (number : ℕ) (values : List (List ℕ)) (ends : End) (d : Digests)
      → Shuts d (walk_from_step (Writes Close) values ends (walk fates number []))
  shut_write fates number values Done d w = flag_behind i values (digests_after i d Close)
  shut_write fates number values (Fails fault effect) d w = absurd (cc)

  shut_walk : (fates : ℕ → StepFate) (flag lost closed : Bool) (d : Digests) → d.flag ≡ flag → (broken : Option StepFault)
      → (walk fates 1 (checkpoint_steps Opt flag lost)).broken ≡ broken → (said : Checkpointed)
      → Ok said ≡ checkpoint_result (option_map_or (λ fault. Stops fault closed) broken (checkpoint_ending Opt flag lost))
      → (state_after_moves (digest_level i) d (walk fates 1 (checkpoint_steps Opt flag lost)).moves).flag ≡ false
  shut_walk fates flag lost closed d e (Some fault) b said told = absurd (cc)
  shut_walk fates false lost closed d e None b said told =
      shut_read (fates 1).brings (fates 1).ends (walk fates 2 []) d (λ x same. shut_none fates 2 x (same ∙ e)) b
  shut_walk fates true true closed d e None b said told = absurd (cc)
  shut_walk fates true false closed d e None b said told =
      shut_read (fates 1).brings (fates 1).ends (walk fates 2 (Reads ∷ Writes Close ∷ [])) d
      (λ x same. shut_read (fates 2).brings (fates 2).ends (walk fates 3 (Writes Close ∷ [])) x
      (λ z also. shut_write fates 4 (fates 3).brings (fates 3).ends z)) b

not_lost : (is_open bare own marred : Bool) → is_open ≡ false → life_by is_open bare own marred ≢ Lost
not_lost true bare own marred e l = absurd (cc)
not_lost false true own true e l = absurd (cc)
not_lost false false own true e l = absurd (cc)
not_lost false true own false e l = absurd (cc)
not_lost false false own false e l = absurd (cc)

module _ (meaning : Meaning) (key barrier : List ℕ) where
  abbrev pub I : Instance
  I = opt_instance meaning key barrier

  pub shut_behind : (old new : Standing) (said : Checkpointed) → IsCheckpointOnCourse old new (Ok said) → (d : Digests) → StandsAt I old d
      → has_open_segment new ≡ false
  shut_behind old new said k d s =
      let g = k.goes Opt meaning key barrier d s in
      let o = checkpoint_outcome I (digest_level I) d k.course in
      let after : TellsFlag new o.state.flag = record { cell = _; is_cell = g.stands.spells; tells = g.stands.cell; shows = refl } in
      open_told new o.state.flag after ∙ shut_walk I k.course.fates d.flag _ _ d refl _ refl said g.gives

  pub still_open : (old new : Standing) → new.cell ≡ old.cell → has_open_segment new ≡ has_open_segment old
  still_open old new same = ap (λ (c : Option (List ℕ)). bytes_eq (option_map_or flag_in c []) (1 ∷ [])) same

  pub unlost : (all others : List (List ℕ)) (asked : List Batch) (old new : SessionStanding) (result : Result Unit SessionFault)
      (ran : IsSession Opt meaning old new result) (waiting : Option PendingRecord) (requests after : List (List ℕ))
      → GoesOnOver all others asked I ran waiting requests after → has_open_segment old.standing ≡ false
      → result ≢ Err (Host (Refused refusal.Lost))
  unlost all others asked old new result ran waiting requests after g shut is =
      let s = stands_at I old.standing g.entered.history g.entered.stands in
      let tells : TellsFlag old.standing (digests_of I g.entered.history).flag =
      record { cell = _; is_cell = s.spells; tells = s.cell; shows = refl } in
      g.powered (not_lost _ _ _ _ (sym (open_told old.standing _ tells) ∙ shut))
      (subst (λ r. RefusesAs r Opt g.left.history) is g.refuses)
