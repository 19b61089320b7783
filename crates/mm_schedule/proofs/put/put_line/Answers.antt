use Rattle.std.proofs.lemmas.Grind.{common_steps}
use Rattle.mm_schedule.proofs.Below.{arith, ◌≡◌, ◌+◌, ◌<◌, ◌++◌, ℕ, List, OnOk, length, ap, ◌∙◌, option_map, Option, Some, slice_get}
use Rattle.mm_schedule.proofs.Below.{lines_of_reply, told_lines, told_line}
use Rattle.std.proofs.Common.{Result, Ok, Err}
use Rattle.mm_bytes.specs.declared.fault.Memory.{Memory}
use Rattle.mm_schedule.proofs.MeddleLaws.{length-told_lines, told_lines-at}
use Rattle.mm_schedule.proofs.put.put_line.Goals as goal

-- what holds after Ok, with more that always holds
with_line : (result : Result (Unit {0}) Memory) (found : Option (List ℕ)) (line old new : List ℕ) → found ≡ Some line
    → OnOk result (new ≡ old ++ line) → OnOk result ((l : List ℕ) × (found ≡ Some l) × (new ≡ old ++ l))
with_line (Ok done) found line old new is put = (line, is, put)
with_line (Err fault) found line old new is put = tt

pub output_at-output-requires : goal.output_at-output-requires
output_at-output-requires c =
    let within : c.args.index < length (told_lines c.in-Told.again c.in-Told.before c.in-Told.outputs) =
    rw c.in-Told.is at c.requires.index in
    rw (length-told_lines c.in-Told.again c.in-Told.before c.in-Told.outputs) at within

pub returns-in-Told : goal.returns-in-Told
returns-in-Told c =
    let at : slice_get (lines_of_reply c.args.reply.now) c.args.index ≡ Some (told_line c.in-Told.again (c.in-Told.before + c.args.index +
    1) c.output_at-output.result.now) = rw c.in-Told.is (told_lines-at c.in-Told.again c.in-Told.before c.in-Told.outputs c.args.index
    ∙ ap (λ (output : Option (List ℕ)). option_map (told_line c.in-Told.again (c.in-Told.before + c.args.index + 1)) output)
    c.output_at-output.ensures) in
    with_line c.put_told.result _ _ _ _ at c.put_told.ensures

pub returns-in-No : goal.returns-in-No
returns-in-No c = grind (arith, common_steps)

pub returns-in-Kept : goal.returns-in-Kept
returns-in-Kept c = grind (arith, common_steps)

pub returns-in-Nothing : goal.returns-in-Nothing
returns-in-Nothing c = grind (arith, common_steps)

pub returns-in-Closed : goal.returns-in-Closed
returns-in-Closed c = grind (arith, common_steps)

pub returns-in-Checkpointed : goal.returns-in-Checkpointed
returns-in-Checkpointed c = grind (arith, common_steps)

pub returns-in-Power : goal.returns-in-Power
returns-in-Power c = grind (arith, common_steps)

pub returns-in-Extended : goal.returns-in-Extended
returns-in-Extended c = grind (arith, common_steps)
