-- A command over events ends: each answered line leaves fewer.
use Rattle.std.specs.Prelude.{◌≡◌, ℕ, ◌+◌, ◌-◌, ◌<◌, ◌^◌, Bool, true, false, nat_le, List, [], Option, None, Some, Ok}
use Rattle.std.proofs.Common.{ap, refl, subst, arith}
use Rattle.std.proofs.lemmas.Bool.Decides.{nat_tests}
use Rattle.mm_bytes.specs.Limits.{most_events}
use Rattle.mm_play.specs.Headline.{no_answer, same_next, left_or, HeadingStep, More, Begins}
use Rattle.mm_play.specs.Stage.{EventStage, HeadStage, PlayState, play_state, LineStage, AtHeading, InEvents, is_over, event_answer}
use Rattle.mm_play.specs.Stage.{head_answer, line_answer, remaining_lines}
use Rattle.mm_play.specs.declared.player.LineRefusal.TheVariants.{Bad, Much}

-- of two answers to a line that are one the stages behind it are one
pub same_stage : {R : Type 0} (reply said : List ℕ) (stage next : R)
    → (let x : Option (List ℕ × R) = Some (reply, stage) in x ≡ Some (said, next)) → stage ≡ next
same_stage {R} reply said stage next h =
    let same : (reply, stage) ≡ (said, next) = cc in ap (λ (p : List ℕ × R). p.1) same

-- where one event more is within the limit
pub few_left : {R : Type 0} (s : EventStage R) (r : PlayState R) (line : List ℕ)
    → is_over s r line ≡ false → s.events r.stage < most_events
few_left s r line h =
    let few : nat_le most_events (s.events r.stage) ≡ false = left_or _ _ h in
    grind (arith, nat_tests)

module _ {H R : Type 0} (heads : HeadStage H R) (s : EventStage R) where
  head_left : (heading : H) (line : List ℕ) (found : Option (HeadingStep H R)) (reply : List ℕ)
      (next : LineStage H R) → heads.behind heading line ≡ found
      → ((next : H) → heads.behind heading line ≡ Some (More next)
      → heads.left next < heads.left heading)
      → head_answer found ≡ Ok (reply, next)
      → remaining_lines heads s next < most_events + 1 + heads.left heading
  head_left heading line None reply next is fewer h = absurd (no_answer Bad reply next h)
  head_left heading line (Some (More more)) reply next is fewer h =
      subst (λ (p : LineStage H R). remaining_lines heads s p < most_events + 1 + heads.left heading)
      (same_next reply [] next (AtHeading more) h) (omega (arith, fewer more is))
  head_left heading line (Some (Begins stage)) reply next is fewer h =
      subst (λ (p : LineStage H R). remaining_lines heads s p < most_events + 1 + heads.left heading)
      (same_next reply [] next (InEvents (play_state stage 0)) h) (omega arith)

  event_left : (r : PlayState R) (line : List ℕ) (found : Option (List ℕ × R)) (over : Bool)
      (reply : List ℕ) (next : LineStage H R)
      → s.answer r.stage line ≡ found → is_over s r line ≡ over
      → ((reply : List ℕ) (next : R) → s.answer r.stage line ≡ Some (reply, next)
      → s.events next ≡ s.events r.stage + 1)
      → event_answer s r line found ≡ Ok (reply, next)
      → remaining_lines heads s next < most_events - s.events r.stage
  event_left r line None over reply next is full counts h = absurd (no_answer Bad reply next h)
  event_left r line (Some found) true reply next is full counts h =
      let g = rw full at h in absurd (no_answer Much reply next g)
  event_left r line (Some found) false reply next is full counts h =
      let g = rw full at h in
      let few : nat_le most_events (s.events r.stage) ≡ false = left_or _ _ full in
      let less : s.events r.stage < most_events = grind (arith, nat_tests) in
      subst (λ (p : LineStage H R). remaining_lines heads s p < most_events - s.events r.stage)
      (same_next reply found.0 next _ g) (omega (arith, counts found.0 found.1 is, less))

  pub lines_fall : ((heading next : H) (line : List ℕ)
      → heads.behind heading line ≡ Some (More next) → heads.left next < heads.left heading)
      → ((stage next : R) (line reply : List ℕ) → s.answer stage line ≡ Some (reply, next)
      → s.events next ≡ s.events stage + 1)
      → (it next : LineStage H R) (line reply : List ℕ)
      → line_answer heads s it line ≡ Ok (reply, next)
      → remaining_lines heads s next < remaining_lines heads s it
  lines_fall fewer counts (AtHeading heading) next line reply h =
      head_left heading line (heads.behind heading line) reply next refl
      (λ n is. fewer heading n line is) h
  lines_fall fewer counts (InEvents r) next line reply h =
      event_left r line (s.answer r.stage line) (is_over s r line) reply next refl refl
      (λ said n is. counts r.stage n line said is) h

  pub lines_few : ((heading : H) → heads.left heading < 2 ^ 30) → (it : LineStage H R)
      → remaining_lines heads s it < 2 ^ 31
  lines_few few (AtHeading heading) = omega (arith, few heading)
  lines_few few (InEvents r) = omega arith
