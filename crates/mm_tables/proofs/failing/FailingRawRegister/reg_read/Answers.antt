use Rattle.std.proofs.Common.{refl, ◌∙◌}
use Rattle.mm_platform.specs.Standing.{ReadRegister}
use Rattle.mm_files.proofs.Above.{goes_untold}
use Rattle.mm_tables.proofs.failing.FailingRawRegister.reg_read.Goals as goal

pub returns-clause-goes : goal.returns-clause-goes
returns-clause-goes c =
    goes_untold ReadRegister _ _ _ _ _ _ _ (c.value.ensures.steps ∙ c.saturating_add-self.ensures) c.value.ensures.cycles refl
    c.value.ensures.counts c.value.ensures.failed
