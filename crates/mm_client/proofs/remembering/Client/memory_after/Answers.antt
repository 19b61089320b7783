use Rattle.std.proofs.Common.{rules}
use Rattle.mm_client.proofs.remembering.Client.memory_after.Goals as goal

pub returns : goal.returns
returns c = search rules
