use Rattle.std.proofs.Common.{refl, ◌∙◌}
use Rattle.mm_platform.specs.Standing.{ResetRegister}
use Rattle.mm_files.proofs.Above.{goes_untold}
use Rattle.mm_tables.proofs.failing.FailingRawRegister.reg_reset.Goals as goal

pub returns : goal.returns
returns c =
    goes_untold ResetRegister _ _ _ _ _ _ _ (c.call-outcome.ensures.steps ∙ c.saturating_add-self.ensures) c.call-outcome.ensures.cycles
    refl
    c.call-outcome.ensures.counts c.call-outcome.ensures.failed
