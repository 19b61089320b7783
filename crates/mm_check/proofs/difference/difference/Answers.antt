use Rattle.mm_check.proofs.Below.{ℕ, ◌+◌, ◌∙◌, sym, ap, agreement_of, arith}
use Rattle.mm_check.specs.declared.verdicts.Agreement.TheVariants.{Differ}
use Rattle.mm_check.proofs.CheckingLaws.{next_line, surplus}
use Rattle.mm_check.proofs.difference.difference.Goals as goal

pub returns-then-not-is_at : goal.returns-then-not-is_at
returns-then-not-is_at c =
    sym (ap agreement_of (rw c.if-not-is_at.true at
    (next_line c.args.tested.now c.args.expected.now c.lines.index c.at-line.result.now c.is_at.result c.lines.invariant
    c.at-line.ensures c.is_at.ensures)))

pub lines-preserved : goal.lines-preserved
lines-preserved c =
    rw c.if-not-is_at.false at
    (next_line c.args.tested.now c.args.expected.now c.lines.index c.at-line.result.now c.is_at.result c.lines.invariant
    c.at-line.ensures c.is_at.ensures)

pub returns-then-len : goal.returns-then-len
returns-then-len c =
    ap (λ (n : ℕ). Differ (n + 1)) c.len-then-len.ensures
    ∙ surplus c.args.tested.now c.args.expected.now c.lines.index c.lines.invariant
    (omega (arith, c.lines-test.false, c.len-index-end.ensures)) (omega (arith, c.lines.auto.index-end, c.len-index-end.ensures))
    (omega (arith, c.if-len.true, c.len.ensures, c.len-2.ensures))
