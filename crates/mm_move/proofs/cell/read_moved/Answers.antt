use Rattle.std.proofs.Common.{sym, ◌∙◌}
use Rattle.mm_move.proofs.CellLaws.{blank_read, cell_read, none_read}
use Rattle.mm_move.proofs.cell.read_moved.Goals as goal

pub returns-then-is_blank-clause-cell : goal.returns-then-is_blank-clause-cell
returns-then-is_blank-clause-cell c = blank_read c.args.bytes.now (sym c.is_blank.ensures ∙ c.if-is_blank.true)

pub returns-then-is_spelled_by-clause-cell : goal.returns-then-is_spelled_by-clause-cell
returns-then-is_spelled_by-clause-cell c =
    cell_read c.args.bytes.now c.moved_in-cell.result (sym c.is_blank.ensures ∙ c.if-is_blank.false) c.moved_in-cell.ensures
    (sym c.is_spelled_by.ensures ∙ c.if-is_spelled_by.true)

pub returns-else-is_spelled_by-clause-cell : goal.returns-else-is_spelled_by-clause-cell
returns-else-is_spelled_by-clause-cell c =
    none_read c.args.bytes.now c.moved_in-cell.result (sym c.is_blank.ensures ∙ c.if-is_blank.false) c.moved_in-cell.ensures
    (sym c.is_spelled_by.ensures ∙ c.if-is_spelled_by.false)
