use Rattle.mm_store.proofs.Below.{◌≡◌, refl, true, false}
use Rattle.mm_store.specs.PendingRecord.{pending_of}
use Rattle.mm_store.proofs.PendingLaws.{reads_none-short, reads_none-front, reads_none-invalid, reads_some}
use Rattle.mm_store.proofs.pending.read_pending.Goals as goal
use Rattle.mm_store.proofs.pending.read_pending.Goals.{else-stands_in-via-then-stands_in+else-is_digest_of}
use Rattle.mm_store.proofs.pending.read_pending.Goals.{else-stands_in-via-else-stands_in}

pub returns-in_err-front-clause-reads : goal.returns-in_err-front-clause-reads
returns-in_err-front-clause-reads c =
    rw c.from_residual.ensures (reads_none-short c.args.slot c.args.bytes.now c.in_err-front.ensures.cases)

pub returns-in_err-pending-clause-reads : goal.returns-in_err-pending-clause-reads
returns-in_err-pending-clause-reads c =
    rw c.from_residual-in_err-pending.ensures
    (reads_none-front c.args.slot c.args.bytes.now _ _ c.in_ok-front.ensures.cases c.in_err-pending.ensures)

pub returns-then-is_digest_of-clause-reads : goal.returns-then-is_digest_of-clause-reads
returns-then-is_digest_of-clause-reads c =
    reads_some c.args.slot c.args.bytes.now _ _ (pending_of c.in_ok-pending.pending) c.in_ok-front.ensures.cases c.in_ok-pending.ensures
    (c.if-stands_in.ensures.0 refl) (c.if-is_digest_of.ensures.0 refl)

pub returns-else-stands_in-clause-reads : goal.returns-else-stands_in-clause-reads
returns-else-stands_in-clause-reads c =
    reads_none-invalid c.args.slot c.args.bytes.now _ _ (pending_of c.in_ok-pending.pending) c.in_ok-front.ensures.cases
    c.in_ok-pending.ensures
    (λ is right. elim c.else-stands_in.branch [
      | else-stands_in-via-then-stands_in+else-is_digest_of w ↦ (let h : false ≡ true = w.if-is_digest_of.ensures.1 right in cc)
      | else-stands_in-via-else-stands_in w ↦ (let h : false ≡ true = w.if-stands_in.ensures.1 is in cc)
    ])
