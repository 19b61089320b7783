use Rattle.std.proofs.Common.{sym}
use Rattle.mm_receipted.proofs.TaggedLaws.{parts_of-short}
use Rattle.mm_receipted.proofs.receipt.read_parts.Goals as goal

pub returns-then-output-lt64 : goal.returns-then-output-lt64
returns-then-output-lt64 c = sym (parts_of-short c.args.output.now c.if-output-lt64.true)
