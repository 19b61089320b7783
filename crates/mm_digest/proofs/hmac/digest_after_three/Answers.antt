use Rattle.mm_digest.proofs.Below.{rules, ◌≡◌, ◌++◌, ◌∙◌, ap, ∥∥₁_elim, coded_ℕ, coded_list, Holds256}
use base.Stored.{Coded-set}
use Rattle.sha2.specs.Sha256.{sha256}
use Rattle.mm_digest.proofs.Blocks.{joined_three}
use Rattle.mm_digest.proofs.hmac.digest_after_three.Goals as goal

pub returns : goal.returns
returns c before held =
    ∥∥₁_elim held (Coded-set (coded_list coded_ℕ) _ _) (λ (holds : Holds256 c.args.hashed.now before).
    let joined : c.finalize.result ≡ sha256 (((before ++ c.args.first.now) ++ c.args.second.now) ++ c.args.third.now) = search rules in
    joined ∙ ap sha256 (joined_three before c.args.first.now c.args.second.now c.args.third.now))
