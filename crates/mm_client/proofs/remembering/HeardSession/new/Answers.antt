use Rattle.std.proofs.Common.{rules}
use Rattle.mm_client.proofs.remembering.HeardSession.new.Goals as goal

pub returns : goal.returns
returns c = search rules
