use Rattle.std.proofs.Common.{refl}
use Rattle.mm_module.specs.Meaning.{is_state}
use Rattle.mm_module.specs.LineLaws.{are_bytes-Fits}
use Rattle.mm_module.proofs.counter.CounterModule.state_is_spelled.Goals as goal

pub returns : goal.returns
unfolding is_state
returns c = rw (are_bytes-Fits c.args.state.now c.type_inv.state) refl
