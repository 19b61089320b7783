use Rattle.std.proofs.Common.{arith}
use Rattle.std.proofs.lemmas.Grind.{common_steps}
use Rattle.mm_numbering.proofs.messages.Numbers.list_all.Goals as goal

pub messages-preserved : goal.messages-preserved
messages-preserved c = record {
  few = omega (arith, c.list.ensures.rises, c.messages.invariant.few);
  lists = λ seen lists. grind (arith, common_steps, c.messages.invariant.lists seen lists);
}

pub returns : goal.returns
returns c = λ seen lists. grind (arith, common_steps, c.messages.invariant.lists seen lists)
