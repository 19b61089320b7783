use Rattle.mm_pages.proofs.Below.{ℕ, ◌≡◌, [], ap, ◌∙◌, CachedDevice, PageStanding, KeepsStep, rows_with}
use Rattle.mm_pages.proofs.RenewalLaws.{slots_stay, reads_slot, step_left}
use Rattle.mm_pages.proofs.store.PageStoreStore.read.Goals as goal

-- a read that failed changed no slot
forgotten : {D : Type 0} (pages : D → PageStanding) (slot : ℕ) (x y last : CachedDevice D) (device : D) → x ≡ y →
    last.device ≡ device → last.rows ≡ rows_with x.rows slot [] → (pages device).slots ≡ (pages x.device).slots →
    KeepsStep (pages y.device) (pages last.device) y.rows last.rows
forgotten {D} pages slot x y last device view d r s =
    step_left slot y.rows last.rows (pages y.device) (pages last.device) (r ∙ ap (λ (v : CachedDevice D). rows_with v.rows slot []) view)
    (λ honest. let stay = slots_stay slot (pages y.device).slots in (
      stay.0,
      ap (λ (v : D). (pages v).slots) d ∙ s ∙ ap (λ (v : CachedDevice D). (pages v.device).slots) view ∙ stay.1,
    ))

pub returns-in-Err-Failed-clause-step : goal.returns-in-Err-Failed-clause-step
returns-in-Err-Failed-clause-step g c =
    forgotten g.D.PageDevice.pages c.args.slot _ _ c.forget.new.self _ c.self.view_is (ap (λ v. v.device) c.forget.ensures)
    (ap (λ v. v.rows) c.forget.ensures) (reads_slot c.read_renewed-result.ensures).slots
