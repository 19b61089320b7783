use Rattle.mm_digest.proofs.Below.{rules, ∥∥₁_elim, coded_ℕ, coded_list, Holds256}
use base.Stored.{Coded-set}
use Rattle.mm_digest.proofs.hmac.digest_after.Goals as goal

pub returns : goal.returns
returns c before held = ∥∥₁_elim held (Coded-set (coded_list coded_ℕ) _ _) (λ (holds : Holds256 c.args.hashed.now before). search rules)
