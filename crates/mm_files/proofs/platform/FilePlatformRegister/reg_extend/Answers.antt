use Rattle.mm_files.proofs.Below.{refl, ExtendRegister}
use Rattle.mm_files.proofs.Telling.{goes_untold}
use Rattle.mm_files.proofs.platform.FilePlatformRegister.reg_extend.Goals as goal

pub returns : goal.returns
returns g c =
    goes_untold (ExtendRegister c.args.value.now.bytes) _ _ _ _ _ _ _ c.saturating_add-self.ensures refl refl c.told.ensures.counts
    c.told.ensures.failed
