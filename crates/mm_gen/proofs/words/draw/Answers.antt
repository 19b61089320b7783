use Rattle.std.proofs.Common.{rules}
use Rattle.mm_gen.proofs.words.draw.Goals as goal

pub returns-clause-words : goal.returns-clause-words
returns-clause-words c = search rules
