use Rattle.std.proofs.Common.{refl}
use Rattle.mm_platform.specs.Standing.{ResetRegister}
use Rattle.mm_files.proofs.Above.{goes_untold}
use Rattle.mm_driver.proofs.platform.DrivenPlatformRegister.reg_reset.Goals as goal

pub returns : goal.returns
returns g c =
    let one = c.saturating_add-self.ensures in
    let told = c.told.ensures in
    goes_untold ResetRegister _ _ _ _ _ _ _ one refl refl told.counts told.failed
