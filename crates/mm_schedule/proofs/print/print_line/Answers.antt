use Rattle.std.proofs.lemmas.Grind.{common_steps}
use Rattle.mm_schedule.proofs.Below.{arith, ◌+◌, ◌<◌, ℕ, List, length, sym, ap, ◌∙◌, option_map, Option, Some, told_lines, told_line}
use Rattle.mm_schedule.proofs.MeddleLaws.{length-told_lines, told_lines-at}
use Rattle.mm_schedule.proofs.print.print_line.Goals as goal

pub output_at-output-requires : goal.output_at-output-requires
output_at-output-requires c =
    let within : c.args.index < length (told_lines c.in-Told.again c.in-Told.before c.in-Told.outputs) =
    rw c.in-Told.is at c.requires.index in
    rw (length-told_lines c.in-Told.again c.in-Told.before c.in-Told.outputs) at within

pub returns-in-Told-clause-line : goal.returns-in-Told-clause-line
returns-in-Told-clause-line c =
    rw c.in-Told.is (told_lines-at c.in-Told.again c.in-Told.before c.in-Told.outputs c.args.index
    ∙ ap (λ (output : Option (List ℕ)). option_map (told_line c.in-Told.again (c.in-Told.before + c.args.index + 1)) output)
    c.output_at-output.ensures ∙ ap (λ (line : List ℕ). Some line) (sym c.print_told.ensures.line))

pub returns-in-No-clause-line : goal.returns-in-No-clause-line
returns-in-No-clause-line c = grind (arith, common_steps)

pub returns-in-Kept-clause-line : goal.returns-in-Kept-clause-line
returns-in-Kept-clause-line c = grind (arith, common_steps)

pub returns-in-Nothing-clause-line : goal.returns-in-Nothing-clause-line
returns-in-Nothing-clause-line c = grind (arith, common_steps)

pub returns-in-Closed-clause-line : goal.returns-in-Closed-clause-line
returns-in-Closed-clause-line c = grind (arith, common_steps)

pub returns-in-Checkpointed-clause-line : goal.returns-in-Checkpointed-clause-line
returns-in-Checkpointed-clause-line c = grind (arith, common_steps)

pub returns-in-Power-clause-line : goal.returns-in-Power-clause-line
returns-in-Power-clause-line c = grind (arith, common_steps)

pub returns-in-Extended-clause-line : goal.returns-in-Extended-clause-line
returns-in-Extended-clause-line c = grind (arith, common_steps)
