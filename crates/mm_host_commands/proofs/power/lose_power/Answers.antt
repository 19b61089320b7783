use Rattle.std.proofs.Common.{rules}
use Rattle.mm_host_commands.proofs.power.lose_power.Goals as goal

pub returns-in-Ok : goal.returns-in-Ok
returns-in-Ok g c = search rules
