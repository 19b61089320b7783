use Rattle.std.proofs.Common.{take, drop}
use Rattle.mm_recovery.proofs.SettingUp.{first_short}
use Rattle.mm_recovery.proofs.setup.set_up.Goals as goal

pub set_up_both-requires : goal.set_up_both-requires
set_up_both-requires g c =
    first_short c.args.caller.now.variant _ (take 32 c.args.secrets.now) (drop 32 c.args.secrets.now) _
    (g.met.M.Module.is_lawful c.args.caller.now.module.now) c.in-Ok.ensures.snapshot
