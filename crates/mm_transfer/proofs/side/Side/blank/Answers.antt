use Rattle.mm_transfer.proofs.SideEvents.{blank_new}
use Rattle.mm_transfer.proofs.side.Side.blank.Goals as goal

pub returns : goal.returns
returns c = blank_new c.args.header.now c.blank_bytes.result _ c.blank_bytes.ensures c.bare.ensures c.first_digest.ensures
