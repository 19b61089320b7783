use Rattle.std.proofs.Common.{rules}
use Rattle.mm_host_commands.proofs.start.tell_start.Goals as goal

pub returns-in-Err-Already : goal.returns-in-Err-Already
returns-in-Err-Already g c = search rules
