use Rattle.std.proofs.Common.{rules, ◌≡◌, length, refl, subst}
use Rattle.std.specs.Prelude.{Ok}
use Rattle.mm_digest.specs.declared.digest.Digest.{Digest}
use Rattle.mm_machine.specs.declared.call.OpStage.TheVariants.{Seen}
use Rattle.mm_told.specs.declared.step.MadeStep.TheVariants as made
use Rattle.mm_told.specs.CallPath.{StepsWeighRegister, step_by_finding}
use Rattle.mm_told.proofs.Playing.{turned}
use Rattle.mm_told.proofs.told.weigh.Goals as goal

pub returns : goal.returns
returns g c =
    let o = g.O.Operation.asked c.args.op.now in
    let size : length c.copied-value.result.bytes ≡ 32 = search rules in
    subst (λ (value : Digest). StepsWeighRegister o c.args.cell.now value c.weighed.result) c.copied-value.ensures
    (rw c.weighed.ensures
    (turned o (Seen c.args.cell.now) (made.ReadRegister (Ok c.copied-value.result)) (step_by_finding c.find.result)
    (size, record { drawn = c.find.result; is_said = c.find.ensures; gives = refl })))
