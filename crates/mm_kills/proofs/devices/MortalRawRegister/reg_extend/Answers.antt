use Rattle.std.proofs.Common.{refl, ◌∙◌}
use Rattle.mm_platform.specs.Standing.{ExtendRegister}
use Rattle.mm_files.proofs.Above.{goes_untold}
use Rattle.mm_kills.proofs.devices.MortalRawRegister.reg_extend.Goals as goal

pub returns : goal.returns
returns c =
    goes_untold (ExtendRegister c.args.value.now.bytes) _ _ _ _ _ _ _ (c.call-outcome.ensures.steps ∙ c.saturating_add-self.ensures)
    c.call-outcome.ensures.cycles refl
    c.call-outcome.ensures.counts c.call-outcome.ensures.failed
