-- The values of the code as those of the table.
use Rattle.mm_limiter.proofs.Below.{◌≡◌, refl, Option, Some, None, unwrap_or, option_map, as_state}
use Rattle.mm_limiter.specs.Table as table
use Rattle.mm_limiter.specs.declared.limiter.State.{State}
use Rattle.mm_limiter.specs.declared.limiter.State.TheVariants.{Unset}

pub as_state-unwrap_or : (read : Option State) → as_state (unwrap_or read Unset) ≡ unwrap_or (option_map as_state read) table.Unset
as_state-unwrap_or None = refl
as_state-unwrap_or (Some state) = refl
