use Rattle.mm_machine.proofs.Joining.{stands_read}
use Rattle.mm_machine.proofs.reading.prepared_seen.Goals as goal

pub prepared-requires : goal.prepared-requires
prepared-requires g c =
    stands_read c.args.bytes c.weigh_into.new.into (g.P.Device.standing c.args.platform.now)
    (g.P.Device.standing c.weigh_into.new.platform) c.requires c.in-Ok.ensures.cell c.in-Ok.ensures.kept
