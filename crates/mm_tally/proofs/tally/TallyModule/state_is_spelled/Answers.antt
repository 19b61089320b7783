use Rattle.std.proofs.Common.{refl}
use Rattle.mm_tally.specs.Table.{is_state}
use Rattle.mm_module.specs.LineLaws.{are_bytes-Fits}
use Rattle.mm_tally.proofs.tally.TallyModule.state_is_spelled.Goals as goal

pub returns : goal.returns
unfolding is_state
returns c = rw (are_bytes-Fits c.args.state.now c.type_inv.state) refl
