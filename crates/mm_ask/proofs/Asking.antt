-- A call of either core, by what each core gives of its own.
use Rattle.std.proofs.Common.{◌≡◌, ◌+◌, ◌≤◌, ℕ, false, List, arith, refl, subst}
use Rattle.mm_digest.specs.declared.variant.Variant.{Variant}
use Rattle.mm_digest.specs.declared.variant.Variant.TheVariants.{Basic, Opt}
use Rattle.mm_platform.specs.Standing.{Standing}
use Rattle.mm_module.specs.Meaning.{IsLawful, Meaning}
use Rattle.mm_module.specs.Batch.{Batch}
use Rattle.mm_model.specs.declared.answer.BatchAnswer.{BatchAnswer}
use Rattle.mm_model.specs.declared.refusal.Refusal.{Refusal}
use Rattle.mm_machine.specs.OpSteps.{OpEnds, OpSteps, number_of}
use Rattle.mm_machine.specs.declared.call.OpResult.{OpResult as End}
use Rattle.mm_machine.specs.declared.call.OpStage.{OpStage}
use Rattle.mm_machine.specs.declared.call.OpStage.TheVariants.{Begun}
use Rattle.mm_machine.specs.declared.call.StepResult.TheVariants.{Going}
use Rattle.mm_call.specs.declared.ended.AskResult.{AskResult}
use Rattle.mm_model.specs.Moves.{is_long}
use Rattle.mm_call.specs.Checkpoints.{AskPromise}
use Rattle.mm_call.specs.CallKind.{EndsAsCall, result_of, end_of_machine}
use Rattle.mm_call.proofs.Above.{finish_blamed, IsQuiet}
use Rattle.mm_basic.proofs.Above as in_basic
use Rattle.mm_opt.proofs.Above as in_opt
use Rattle.mm_ask.specs.WholeAsk.{ask_operation, write_step_of, IsStageOf, IsWholeAsk, ask_call}

pub few_by : (variant : Variant) → write_step_of variant ≤ 5
few_by Basic = omega arith
few_by Opt = omega arith

-- where a call stands before its first step

pub begun_stage : (variant : Variant) → IsStageOf variant Begun
begun_stage Basic = tt
begun_stage Opt = tt

going_extends : (on : OpStage BatchAnswer) → in_basic.StepExtendsNothing (Going on) → IsStageOf Basic on
going_extends on none = none

module _ (meaning : Meaning) (offer : List ℕ) (b : Batch) where
  pub quiet_by : (variant : Variant) → IsQuiet (ask_operation variant meaning offer b)
  quiet_by Basic = in_basic.quiet meaning offer b
  quiet_by Opt = in_opt.quiet meaning offer b

  -- a step that goes on leads to where a call of the variant can stand, and the next one is that of the next number
  pub steps_stay : (variant : Variant) (stage on : OpStage BatchAnswer) (old new : Standing)
      → OpSteps (ask_operation variant meaning offer b) stage old new (Going on) → IsStageOf variant stage → IsStageOf variant on
  steps_stay Basic stage on old new s is = going_extends on (in_basic.steps_extend meaning offer b stage old new (Going on) s is)
  steps_stay Opt stage on old new s is = tt

  pub counts_by : (variant : Variant) (stage on : OpStage BatchAnswer) (old new : Standing)
      → OpSteps (ask_operation variant meaning offer b) stage old new (Going on) → IsStageOf variant stage
      → number_of (write_step_of variant) on ≡ number_of (write_step_of variant) stage + 1
  counts_by Basic stage on old new s is = in_basic.numbers meaning offer b stage on old new s is
  counts_by Opt stage on old new s is = in_opt.numbers meaning offer b stage on old new s

  module _ (old new : Standing) where
    -- a whole call is the call that the definitions give
    pub calls_by : (variant : Variant) (end : End BatchAnswer Refusal) → OpEnds (ask_operation variant meaning offer b) Begun old new end
        → EndsAsCall variant meaning old new offer b (end_of_machine end)
    calls_by Basic end f =
        in_basic.finished_to meaning offer b Begun old new (end_of_machine end) (record { end = end; finishes = f; gives = refl }) refl
    calls_by Opt end f =
        in_opt.finished_to meaning old new offer b (end_of_machine end) (record { end = end; finishes = f; gives = refl })

    -- and promises what one does
    pub asked_whole : (variant : Variant) (end : End BatchAnswer Refusal) → IsLawful meaning → is_long b ≡ false
        → OpEnds (ask_operation variant meaning offer b) Begun old new end
        → AskPromise (ask_call variant) meaning old new offer b (result_of (end_of_machine end))
    asked_whole Basic end lawful short f =
        in_basic.asked_by meaning lawful old new offer b (end_of_machine end) (result_of (end_of_machine end)) short
        (in_basic.finished_asks meaning offer b old new (end_of_machine end) (record { end = end; finishes = f; gives = refl })) refl
    asked_whole Opt end lawful short f =
        in_opt.asked_by meaning lawful old new offer b (end_of_machine end) (result_of (end_of_machine end)) short
        (in_opt.finished_asks meaning old new offer b (end_of_machine end) (record { end = end; finishes = f; gives = refl })) refl

    pub asks_whole : (variant : Variant) (stage : OpStage BatchAnswer) (end : End BatchAnswer Refusal) (ended : AskResult) → stage ≡ Begun
        → OpEnds (ask_operation variant meaning offer b) stage old new end → ended ≡ end_of_machine end
        → IsWholeAsk variant meaning old new offer b ended
    asks_whole variant stage end ended first finishes gives =
        let f : OpEnds (ask_operation variant meaning offer b) Begun old new end =
        subst (λ (s : OpStage BatchAnswer). OpEnds (ask_operation variant meaning offer b) s old new end) first finishes in record {
          finishes = record { end = end; finishes = f; gives = gives };
          calls = rw gives (calls_by variant end f);
          faults = rw gives (finish_blamed (ask_operation variant meaning offer b) (quiet_by variant) Begun old new end f);
        }
