use Rattle.std.proofs.Common.{rules, ◌≡◌, ◌++◌, take, drop}
use Rattle.mm_seal.specs.CellLaws.{summary_replaced}
use Rattle.mm_seal.proofs.cell.with_summary.Goals as goal

pub returns : goal.returns
returns c cell is =
    let next = take 8 c.args.bytes.now ++ (c.copy_from_slice.new.self ++ drop 32 (drop 8 c.args.bytes.now)) in
    let parts : next ≡ take 8 c.args.bytes.now ++ (c.args.summary.now.bytes ++ drop 32 (drop 8 c.args.bytes.now)) = search rules in
    summary_replaced c.args.bytes.now next c.args.summary.now parts cell is
