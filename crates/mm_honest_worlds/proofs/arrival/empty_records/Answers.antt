use Rattle.std.proofs.Common.{rules}
use Rattle.mm_honest_worlds.proofs.arrival.empty_records.Goals as goal

pub returns-in_err-write-clause-goes : goal.returns-in_err-write-clause-goes
returns-in_err-write-clause-goes g c = search rules

pub returns-clause-goes : goal.returns-clause-goes
returns-clause-goes g c = search rules

pub returns-clause-empties : goal.returns-clause-empties
returns-clause-empties g c = search rules
