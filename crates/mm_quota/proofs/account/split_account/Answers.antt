use Rattle.std.proofs.Common.{arith}
use Rattle.std.proofs.lemmas.Grind.{common_steps}
use Rattle.mm_quota.specs.Table.{account_after}
use Rattle.mm_quota.proofs.account.split_account.Goals as goal

pub returns : goal.returns
unfolding account_after
returns c = grind (arith, common_steps)
