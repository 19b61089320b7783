use Rattle.std.proofs.Common.{refl}
use Rattle.mm_bytes.specs.Limits.{eight_bytes, four_bytes}
use Rattle.mm_receipted.specs.Receipts.{receipt_front}
use Rattle.mm_receipted.proofs.receipt.front.Goals as goal

pub returns : goal.returns
unfolding receipt_front eight_bytes four_bytes
returns c = rw (c.bytes_of_u64.ensures, c.bytes_of_u32.ensures) refl
