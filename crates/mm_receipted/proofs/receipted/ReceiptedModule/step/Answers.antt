use Rattle.mm_receipted.specs.ReceiptListing.{kept_state_of}
use Rattle.mm_receipted.proofs.TaggedLaws.{long-at, room-at, inside-at}
use Rattle.mm_receipted.proofs.receipted.ReceiptedModule.step.Goals as goal

pub read_kept-kept-requires : goal.read_kept-kept-requires
read_kept-kept-requires g c = long-at (g.M.Module.meaning c.args.self.now.inner) c.args.state.now c.requires.spelled

pub step_unkeyed-requires : goal.step_unkeyed-requires
step_unkeyed-requires g c =
    room-at (g.M.Module.meaning c.args.self.now.inner) c.args.state.now (kept_state_of c.read_kept-kept.result) c.requires.spelled
    c.read_kept-kept.ensures c.if-kept-eq-LAST_POSITION.false

pub step_keyed-requires-clause-spelled : goal.step_keyed-requires-clause-spelled
step_keyed-requires-clause-spelled g c =
    inside-at (g.M.Module.meaning c.args.self.now.inner) c.args.state.now (kept_state_of c.read_kept-kept.result) c.requires.spelled
    c.read_kept-kept.ensures

pub step_keyed-requires-clause-room : goal.step_keyed-requires-clause-room
step_keyed-requires-clause-room g c =
    room-at (g.M.Module.meaning c.args.self.now.inner) c.args.state.now (kept_state_of c.read_kept-kept.result) c.requires.spelled
    c.read_kept-kept.ensures c.if-kept-eq-LAST_POSITION.false
