use Rattle.std.proofs.Common.{rules, ◌≡◌, IsTrue, length, take}
use Rattle.mm_seal.specs.CellLaws.{head_of_cell, spelled_by_head, head_of_spelled}
use Rattle.mm_seal.proofs.cell.is_spelled.Goals as goal

pub returns : goal.returns
returns c =
    let size : length c.args.bytes.now ≡ 104 = search rules in (
      λ (t : IsTrue c.eq.result).
          let front : take 8 c.args.bytes.now ≡ head_of_cell c.args.cell.now = search rules in
          spelled_by_head c.args.bytes.now c.args.cell.now size c.requires front,
      λ e.
          let front : take 8 c.args.bytes.now ≡ head_of_cell c.args.cell.now =
          head_of_spelled c.args.bytes.now c.args.cell.now e in
          search rules,
    )
