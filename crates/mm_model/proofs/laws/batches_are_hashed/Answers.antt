use Rattle.std.proofs.Common.{refl}
use Rattle.mm_digest.specs.Messages.{successor_digest_of, secured_digest_of, successor_batch_digest_of, secured_batch_digest_of}
use Rattle.mm_model.specs.Chains.{link, guard}
use Rattle.mm_model.proofs.laws.batches_are_hashed.Goals as goal

pub returns-clause-link : goal.returns-clause-link
unfolding link successor_digest_of
returns-clause-link c = λ s r. refl

pub returns-clause-guard : goal.returns-clause-guard
unfolding guard secured_digest_of
returns-clause-guard c = λ barrier r. refl

pub returns-clause-link_many : goal.returns-clause-link_many
unfolding link successor_batch_digest_of
returns-clause-link_many c = λ s t. refl

pub returns-clause-guard_many : goal.returns-clause-guard_many
unfolding guard secured_batch_digest_of
returns-clause-guard_many c = λ barrier t. refl
