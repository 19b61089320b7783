use Rattle.std.proofs.Common.{rules}
use Rattle.mm_host_commands.proofs.run.instance_in.Goals as goal

pub returns-in-Err-Blank : goal.returns-in-Err-Blank
returns-in-Err-Blank c = search rules
