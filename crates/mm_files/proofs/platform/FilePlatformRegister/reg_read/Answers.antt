use Rattle.mm_files.proofs.Below.{refl, ReadRegister}
use Rattle.mm_files.proofs.Telling.{goes_untold}
use Rattle.mm_files.proofs.platform.FilePlatformRegister.reg_read.Goals as goal

pub returns-clause-goes : goal.returns-clause-goes
returns-clause-goes g c =
    goes_untold ReadRegister _ _ _ _ _ _ _ c.saturating_add-self.ensures refl refl c.told.ensures.counts c.told.ensures.failed
