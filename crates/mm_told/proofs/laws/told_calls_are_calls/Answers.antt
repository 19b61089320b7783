use Rattle.mm_told.proofs.Coming.{closing_on_host, on_host}
use Rattle.mm_told.proofs.laws.told_calls_are_calls.Goals as goal

pub returns-clause-calls : goal.returns-clause-calls
returns-clause-calls c variant meaning host steps offer b came lawful h told =
    on_host variant meaning offer b host steps came lawful h told

pub returns-clause-checkpoints : goal.returns-clause-checkpoints
returns-clause-checkpoints c host steps came h told = closing_on_host host steps came h told
