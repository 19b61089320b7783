use Rattle.mm_model.proofs.Below.{refl, summary-push, register-push, anchor-push, register_folds}
use Rattle.mm_model.specs.Chains.{summary_of, register_of, anchor_of}
use Rattle.mm_model.proofs.laws.chains_go_on.Goals as goal

pub returns-clause-summary : goal.returns-clause-summary
returns-clause-summary c = summary-push

pub returns-clause-register : goal.returns-clause-register
returns-clause-register c = register-push

pub returns-clause-anchor : goal.returns-clause-anchor
returns-clause-anchor c = anchor-push

pub returns-clause-no_batches : goal.returns-clause-no_batches
unfolding summary_of
returns-clause-no_batches c = λ id. refl

pub returns-clause-no_values : goal.returns-clause-no_values
unfolding register_of
returns-clause-no_values c = refl

pub returns-clause-no_segments : goal.returns-clause-no_segments
unfolding anchor_of
returns-clause-no_segments c = λ id. refl

pub returns-clause-reads : goal.returns-clause-reads
returns-clause-reads c = register_folds
