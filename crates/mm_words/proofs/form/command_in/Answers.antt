-- The name is an arm's, and the definition computes at it.
use Rattle.mm_words.proofs.Below.{◌∙◌, refl, sym}
use Rattle.mm_words.specs.Commands.{command_in}
use Rattle.mm_words.proofs.form.command_in.Goals as goal

pub returns-in-run-clause-matched : goal.returns-in-run-clause-matched
unfolding command_in
returns-in-run-clause-matched c = rw c.in-run.is refl

pub returns-in-checkpoint-clause-matched : goal.returns-in-checkpoint-clause-matched
unfolding command_in
returns-in-checkpoint-clause-matched c = rw c.in-checkpoint.is refl

pub returns-in-power-clause-matched : goal.returns-in-power-clause-matched
unfolding command_in
returns-in-power-clause-matched c = rw c.in-power.is refl

pub returns-in-replay-clause-matched : goal.returns-in-replay-clause-matched
unfolding command_in
returns-in-replay-clause-matched c = rw c.in-replay.is refl

pub returns-in-check-clause-matched : goal.returns-in-check-clause-matched
unfolding command_in
returns-in-check-clause-matched c = rw c.in-check.is refl

pub returns-in-slots-clause-matched : goal.returns-in-slots-clause-matched
unfolding command_in
returns-in-slots-clause-matched c = rw c.in-slots.is refl

pub returns-in-transfer-clause-matched : goal.returns-in-transfer-clause-matched
unfolding command_in
returns-in-transfer-clause-matched c = rw c.in-transfer.is refl

pub returns-in_ok-header-in-init-clause-matched : goal.returns-in_ok-header-in-init-clause-matched
unfolding command_in
returns-in_ok-header-in-init-clause-matched c = rw (c.in-init.is, sym c.in_ok-header-in-init.ensures) refl

pub returns-in_err-header-in-init-clause-matched : goal.returns-in_err-header-in-init-clause-matched
unfolding command_in
returns-in_err-header-in-init-clause-matched c =
    let none = c.from_residual.ensures in
    none ∙ rw (c.in-init.is, sym c.in_err-header-in-init.ensures) refl

pub returns-in_ok-generated-in-gen-clause-matched : goal.returns-in_ok-generated-in-gen-clause-matched
unfolding command_in
returns-in_ok-generated-in-gen-clause-matched c = rw (c.in-gen.is, sym c.in_ok-generated-in-gen.ensures.matched) refl

pub returns-in_err-generated-in-gen-clause-matched : goal.returns-in_err-generated-in-gen-clause-matched
unfolding command_in
returns-in_err-generated-in-gen-clause-matched c =
    let none = c.from_residual-in_err-generated-in-gen.ensures in
    none ∙ rw (c.in-gen.is, sym c.in_err-generated-in-gen.ensures.matched) refl

pub returns-in_ok-generated-in-bulk-clause-matched : goal.returns-in_ok-generated-in-bulk-clause-matched
unfolding command_in
returns-in_ok-generated-in-bulk-clause-matched c = rw (c.in-bulk.is, sym c.in_ok-generated-in-bulk.ensures.matched) refl

pub returns-in_err-generated-in-bulk-clause-matched : goal.returns-in_err-generated-in-bulk-clause-matched
unfolding command_in
returns-in_err-generated-in-bulk-clause-matched c =
    let none = c.from_residual-in_err-generated-in-bulk.ensures in
    none ∙ rw (c.in-bulk.is, sym c.in_err-generated-in-bulk.ensures.matched) refl

pub returns-in_ok-key-in-receipts-clause-matched : goal.returns-in_ok-key-in-receipts-clause-matched
unfolding command_in
returns-in_ok-key-in-receipts-clause-matched c = rw (c.in-receipts.is, sym c.in_ok-key-in-receipts.ensures) refl

pub returns-in_err-key-in-receipts-clause-matched : goal.returns-in_err-key-in-receipts-clause-matched
unfolding command_in
returns-in_err-key-in-receipts-clause-matched c =
    let none = c.from_residual-in_err-key-in-receipts.ensures in
    none ∙ rw (c.in-receipts.is, sym c.in_err-key-in-receipts.ensures) refl
