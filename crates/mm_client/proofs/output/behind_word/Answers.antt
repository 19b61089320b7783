use Rattle.std.proofs.Common.{rules}
use Rattle.mm_client.proofs.output.behind_word.Goals as goal

pub returns-in-None : goal.returns-in-None
returns-in-None c = search rules
