use Rattle.mm_outcome.proofs.Naming.{issued_names}
use Rattle.mm_outcome.proofs.laws.issued_snapshots_name_positions.Goals as goal

pub returns : goal.returns
returns c = issued_names
