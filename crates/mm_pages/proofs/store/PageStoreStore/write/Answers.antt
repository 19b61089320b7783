use Rattle.mm_pages.proofs.Below.{ℕ, ◌≡◌, false, true, List, [], Err, is_err, ap, sym, ◌∙◌, subst, CachedDevice, PageStanding, WritesSlot}
use Rattle.mm_pages.proofs.Below.{SlotFailed, store_standing_on, slots_with_bytes, KeepsStep, Option, Digest, Rows, rows_with}
use Rattle.mm_pages.proofs.RenewalLaws.{with_row-twice, FailsUse, failed_writes, write_failed, put_renewed, put_changes, put_settled}
use Rattle.mm_pages.proofs.RenewalLaws.{put_keeps, step_left}
use Rattle.mm_pages.proofs.store.PageStoreStore.write.Goals as goal

-- a write that failed, of a store that is seen so
writes : {D : Type 0} (pages : D → PageStanding) (slot : ℕ) (bytes : List ℕ) (x y : CachedDevice D) (device last : D) → x ≡ y →
    last ≡ device → FailsUse slot (pages x.device) (pages device) →
    WritesSlot slot bytes (store_standing_on (pages y.device)) (store_standing_on (pages last)) (Err SlotFailed)
writes {D} pages slot bytes x y device last view d f =
    subst (λ (v : CachedDevice D). WritesSlot slot bytes (store_standing_on (pages v.device)) (store_standing_on (pages last))
    (Err SlotFailed)) view
    (subst (λ (v : D). WritesSlot slot bytes (store_standing_on (pages x.device)) (store_standing_on (pages v)) (Err SlotFailed)) (sym d)
    (failed_writes f))

-- no digest of the slot is kept
forgotten : {D : Type 0} (pages : D → PageStanding) (slot : ℕ) (x y last : CachedDevice D) (device : D) (rows : Rows) → x ≡ y →
    last.device ≡ device → last.rows ≡ rows_with rows slot [] →
    FailsUse slot (pages x.device) (pages device) × ((row : List (Option Digest)) × (rows ≡ rows_with x.rows slot row)) →
    KeepsStep (pages y.device) (pages last.device) y.rows last.rows
forgotten {D} pages slot x y last device rows view d r f =
    step_left slot y.rows last.rows (pages y.device) (pages last.device)
    (r ∙ ap (λ v. rows_with v slot []) f.1.1 ∙ with_row-twice x.rows slot f.1.0 []
    ∙ ap (λ (v : CachedDevice D). rows_with v.rows slot []) view)
    (λ honest. let left = f.0.leaves (ap (λ (v : CachedDevice D). (pages v.device).is_honest) view ∙ honest) in (
      left.0,
      ap (λ (v : D). (pages v).slots) d ∙ left.1
          ∙ ap (λ (v : CachedDevice D). slots_with_bytes slot left.0 (pages v.device).slots) view,
    ))

pub returns-then-is_err-clause-writes : goal.returns-then-is_err-clause-writes
returns-then-is_err-clause-writes g c =
    let failed : is_err c.put_renewed.result ≡ true = cc in
    writes g.D.PageDevice.pages c.args.slot c.args.bytes.now _ _ _ c.forget.new.self.device c.self.view_is
    (ap (λ v. v.device) c.forget.ensures) (write_failed c.put_renewed.ensures failed).0

pub returns-then-is_err-clause-step : goal.returns-then-is_err-clause-step
returns-then-is_err-clause-step g c =
    let failed : is_err c.put_renewed.result ≡ true = cc in
    forgotten g.D.PageDevice.pages c.args.slot _ _ c.forget.new.self _ _ c.self.view_is (ap (λ v. v.device) c.forget.ensures)
    (ap (λ v. v.rows) c.forget.ensures) (write_failed c.put_renewed.ensures failed)

pub returns-clause-changes : goal.returns-clause-changes
returns-clause-changes g c =
    let done : is_err c.put_renewed.result ≡ false = cc in
    put_changes (put_renewed g.D.PageDevice.pages _ _ _ _ _ _ _ _ c.self.view_is c.put_renewed.ensures done)

pub returns-clause-step : goal.returns-clause-step
returns-clause-step g c =
    let done : is_err c.put_renewed.result ≡ false = cc in
    put_keeps (put_renewed g.D.PageDevice.pages _ _ _ _ _ _ _ _ c.self.view_is c.put_renewed.ensures done)

pub returns-clause-settled : goal.returns-clause-settled
returns-clause-settled g c =
    let done : is_err c.put_renewed.result ≡ false = cc in
    put_settled (put_renewed g.D.PageDevice.pages _ _ _ _ _ _ _ _ c.self.view_is c.put_renewed.ensures done)
