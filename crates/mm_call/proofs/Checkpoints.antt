-- A checkpoint is by digests what it is by lists, on every course.
use Rattle.mm_call.proofs.Below.{ℕ, ◌≡◌, Bool, true, false, List, [], ◌∷◌, map, refl, sym, ap, ◌∙◌, subst, append-nil, Opt, Meaning, Batch}
use Rattle.mm_call.proofs.Below.{Instance, basic_instance, opt_instance, History, Foreign, Close, life_of, is_lost, is_empty, Digests}
use Rattle.mm_call.proofs.Below.{DeviceStep, Reads, Writes, checkpoint_steps, list_level, digest_level, state_after_moves, DigestsAgree}
use Rattle.mm_call.proofs.Below.{End, Done, Fails, StepFate, Course, StepsWalk, walk_from_step, walk, has_close, IsPlain, IsWithin}
use Rattle.mm_call.proofs.Below.{agrees-made, plain-made, committed_batches, same_batches, committed-foreign, finished_walk}
use Rattle.mm_call.specs.Checkpoints.{CheckpointEnding, NoSegment, checkpoint_ending, checkpoint_outcome_by, checkpoint_outcome}
use Rattle.mm_call.specs.Checkpoints.{IsClosedWithin, IsSameCheckpoint, BasicCheckpointsAgree, OptCheckpointsAgree, checkpoint_ending_by}
use Rattle.mm_call.proofs.OptHolding.{Holds, holds_open}
use Rattle.mm_call.proofs.Finding.{lost_same, not_lost}
use Rattle.mm_call.proofs.OptWalks.{Ready, AreOwn, ready_closing, before, sight, sight_is}
use Rattle.mm_call.proofs.BasicLaw.{AreBasic, basic-foreign, within_same}
use Rattle.mm_call.proofs.OptLaw.{counts_at, foreign_stands, same_on, same_walks}

-- the moves of a reading step alone are others' values
pub read_moves : (values : List (List ℕ)) (ends : End) → (walk_from_step Reads values ends finished_walk).moves ≡ map Foreign values
read_moves values Done = append-nil (map Foreign values)
read_moves values (Fails fault made) = refl

-- Basic

pub basic_checkpoint_same : (meaning : Meaning) (key : List ℕ) (all others : List (List ℕ)) (asked : List Batch) (y : History)
    (d : Digests) (c : Course) → DigestsAgree (basic_instance meaning key) y d → IsWithin all others asked (basic_instance meaning key) y
    → IsSameCheckpoint all others asked (basic_instance meaning key)
    (checkpoint_outcome (basic_instance meaning key) (list_level (basic_instance meaning key)) y c)
    (checkpoint_outcome (basic_instance meaning key) (digest_level (basic_instance meaning key)) d c)
basic_checkpoint_same meaning key all others asked y d c agrees within =
    let i = basic_instance meaning key in
    let w : StepsWalk = walk_from_step Reads (c.fates 1).brings (c.fates 1).ends finished_walk in
    let moves : w.moves ≡ map Foreign (c.fates 1).brings = read_moves (c.fates 1).brings (c.fates 1).ends in
    let are : AreBasic w.moves = subst AreBasic (sym moves) (basic-foreign (c.fates 1).brings) in
    let same = same_batches i w.moves y (ap committed_batches moves ∙ committed-foreign (c.fates 1).brings) in
    let end : History = state_after_moves (list_level i) y w.moves in
    let plain : IsPlain end = plain-made meaning key w.moves y are within.sound in record {
      ending = refl;
      moves = refl;
      steps = refl;
      writes = refl;
      agrees = agrees-made meaning key w.moves y d are agrees;
      within = within_same meaning key all others asked y end within plain same;
    }

pub basic_checkpoints_agree : BasicCheckpointsAgree
basic_checkpoints_agree meaning key all others asked y d c agrees a =
    basic_checkpoint_same meaning key all others asked y d c agrees a.within

-- Opt

-- the step behind the reading steps of a checkpoint inside a segment: by whether power was lost
abbrev closing_steps : Bool → List DeviceStep
closing_steps true = []
closing_steps false = Writes Close ∷ []

checks : (lost : Bool) → checkpoint_steps Opt true lost ≡ Reads ∷ Reads ∷ closing_steps lost
checks true = refl
checks false = refl

own_closing : (lost : Bool) → AreOwn (closing_steps lost)
own_closing true = tt
own_closing false = (refl, tt)

module _ (meaning : Meaning) (key barrier : List ℕ) (all others : List (List ℕ)) (asked : List Batch) where
  abbrev I : Instance
  I = opt_instance meaning key barrier

  ready_close : (fates : ℕ → StepFate) (z : History) (lost : Bool) → z.is_open ≡ true → (lost ≡ false → is_empty z.items ≡ false)
      → Ready all others asked I fates 3 (closing_steps lost) z
  ready_close fates z true e held = tt
  ready_close fates z false e held = ready_closing meaning key barrier all others asked fates z e (held refl)

  module _ (y : History) (d : Digests) (c : Course) (agrees : DigestsAgree I y d) where
    abbrev lost : Bool
    lost = (list_level I).is_lost (state_after_moves (list_level I) y (before c))

    abbrev other : Bool
    other = (digest_level I).is_lost (state_after_moves (digest_level I) d (before c))

    -- by whether a segment is open, and by the moves of the steps that follow from what is seen by lists or by digests
    abbrev AreSame : Bool → Type 0
    AreSame flag =
        (x : Bool) → (other ≡ lost → x ≡ lost)
        → IsClosedWithin all others asked I y (walk c.fates 1 (checkpoint_steps Opt flag x)).moves
        → IsSameCheckpoint all others asked I
        (checkpoint_outcome_by (list_level I) y (checkpoint_ending Opt flag lost) (walk c.fates 1 (checkpoint_steps Opt flag lost)))
        (checkpoint_outcome_by (digest_level I) d (checkpoint_ending Opt flag other) (walk c.fates 1 (checkpoint_steps Opt flag other)))

    by_flag : (flag : Bool) → y.is_open ≡ flag → AreSame flag
    by_flag false e x k a =
        let w : StepsWalk = walk c.fates 1 (Reads ∷ []) in
        let ending : CheckpointEnding = checkpoint_ending_by w.broken (has_close w.moves) NoSegment in
        same_on meaning key barrier all others asked CheckpointEnding y d w ending ending refl
        (rw (read_moves (c.fates 1).brings (c.fates 1).ends)
        (foreign_stands meaning key barrier all others asked y d (c.fates 1).brings e agrees a.within))
    by_flag true e x k a =
        let ends : Bool → StepsWalk → CheckpointEnding = λ z w. checkpoint_ending_by w.broken (has_close w.moves)
        (checkpoint_ending Opt true z) in
        let here = subst (λ s. IsClosedWithin all others asked I y (walk c.fates 1 s).moves) (checks x) a in
        rw (checks lost) (rw (checks other)
        (same_walks meaning key barrier all others asked Bool CheckpointEnding closing_steps ends ends y d c lost other x e
        (holds_open meaning key barrier all others asked y d e agrees a.within) k
        (counts_at meaning key barrier all others asked true y _ e here.messages here.values) (λ hs. (
          lost_same meaning key barrier all others asked (state_after_moves (list_level I) y (before c))
              (state_after_moves (digest_level I) d (before c)) a.clear
              (subst (λ z. Holds all others asked I z (state_after_moves (digest_level I) d (before c))) (sym (sight_is I y c)) hs),
          own_closing lost,
          ready_close c.fates (sight y c) lost e
              (λ f. not_lost (sight y c) (ap (λ z. is_lost (life_of Opt z)) (sym (sight_is I y c)) ∙ f) e),
          refl,
        )) (λ w values fault moves broken. rw broken refl)))

    agree_by : (x : Bool) → (other ≡ lost → x ≡ lost)
        → IsClosedWithin all others asked I y (walk c.fates 1 (checkpoint_steps Opt y.is_open x)).moves
        → IsSameCheckpoint all others asked I (checkpoint_outcome I (list_level I) y c) (checkpoint_outcome I (digest_level I) d c)
    agree_by x k a =
        subst (λ f. IsSameCheckpoint all others asked I (checkpoint_outcome I (list_level I) y c)
        (checkpoint_outcome_by (digest_level I) d (checkpoint_ending Opt f other) (walk c.fates 1 (checkpoint_steps Opt f other))))
        (sym agrees.flag)
        (by_flag y.is_open refl x k a)

    -- by the moves of the checkpoint by lists, and by those of the checkpoint by digests
    pub opt_checkpoints_agree_by_lists : IsClosedWithin all others asked I y (checkpoint_outcome I (list_level I) y c).moves
        → IsSameCheckpoint all others asked I (checkpoint_outcome I (list_level I) y c) (checkpoint_outcome I (digest_level I) d c)
    opt_checkpoints_agree_by_lists a = agree_by lost (λ e. refl) a

    agree_by_digests : IsClosedWithin all others asked I y (checkpoint_outcome I (digest_level I) d c).moves
        → IsSameCheckpoint all others asked I (checkpoint_outcome I (list_level I) y c) (checkpoint_outcome I (digest_level I) d c)
    agree_by_digests a =
        agree_by other (λ e. e)
        (subst (λ f. IsClosedWithin all others asked I y (walk c.fates 1 (checkpoint_steps Opt f other)).moves) agrees.flag a)

pub opt_checkpoints_agree : OptCheckpointsAgree
opt_checkpoints_agree meaning key barrier all others asked y d c agrees a =
    agree_by_digests meaning key barrier all others asked y d c agrees a
