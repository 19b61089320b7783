use Rattle.std.proofs.Common.{refl}
use Rattle.mm_platform.specs.Standing.{ExtendRegister}
use Rattle.mm_files.proofs.Above.{goes_untold}
use Rattle.mm_driver.proofs.platform.DrivenPlatformRegister.reg_extend.Goals as goal

pub returns : goal.returns
returns g c =
    let value = c.args.value.now.bytes in
    let one = c.saturating_add-self.ensures in
    let told = c.told.ensures in
    goes_untold (ExtendRegister value) _ _ _ _ _ _ _ one refl refl told.counts told.failed
