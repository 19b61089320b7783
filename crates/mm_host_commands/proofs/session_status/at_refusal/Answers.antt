use Rattle.std.proofs.Common.{rules}
use Rattle.mm_host_commands.proofs.session_status.at_refusal.Goals as goal

pub returns-in_default : goal.returns-in_default
returns-in_default c = search rules

pub returns-in-Lost : goal.returns-in-Lost
returns-in-Lost c = search rules
