use Rattle.std.proofs.Common.{rules}
use Rattle.mm_host_commands.proofs.checkpoint.tell_checkpoint.Goals as goal

pub returns-in-Err-Kind : goal.returns-in-Err-Kind
returns-in-Err-Kind g c = search rules
