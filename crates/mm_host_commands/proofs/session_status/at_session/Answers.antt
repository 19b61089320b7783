use Rattle.std.proofs.Common.{rules}
use Rattle.mm_host_commands.proofs.session_status.at_session.Goals as goal

pub returns-in-Host-Memory : goal.returns-in-Host-Memory
returns-in-Host-Memory c = search rules
