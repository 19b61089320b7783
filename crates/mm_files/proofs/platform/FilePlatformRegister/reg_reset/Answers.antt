use Rattle.mm_files.proofs.Below.{refl, ResetRegister}
use Rattle.mm_files.proofs.Telling.{goes_untold}
use Rattle.mm_files.proofs.platform.FilePlatformRegister.reg_reset.Goals as goal

pub returns : goal.returns
returns g c = goes_untold ResetRegister _ _ _ _ _ _ _ c.saturating_add-self.ensures refl refl c.told.ensures.counts c.told.ensures.failed
