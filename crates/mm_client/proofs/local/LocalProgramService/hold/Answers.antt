use Rattle.std.proofs.Common.{◌∙◌, Some, ap, take}
use Rattle.mm_recovery.specs.HostStanding.{host_standing}
use Rattle.mm_client.proofs.LocalLives.{holds_so}
use Rattle.mm_client.proofs.local.LocalProgramService.hold.Goals as goal

pub returns : goal.returns
returns g c =
    holds_so c.args.self.now.variant (g.M.Module.meaning c.args.self.now.module)
    (host_standing (g.P.Device.standing c.args.self.now.platform) (g.T.Store.kept c.args.self.now.store))
    (host_standing (g.P.Device.standing c.session-ended.new.platform) (g.T.Store.kept c.session-ended.new.store))
    c.args.lines.now c.hearing_of.result c.in_ok-text.text c.first_bytes-given.result.now c.carry-carried.result.given
    (Some c.in_ok-input.input.left) (Some c.session-ended.new.input.left) (Some c.in_ok-out.out.received) c.session-ended.new.out.received
    c.content.result.now c.session-ended.result c.in_ok-text.ensures
    (c.first_bytes-given.ensures ∙ ap (λ bytes. take c.carry-carried.result.given bytes) c.as_slice.ensures.value)
    (ap (λ x. Some x.left) c.in_ok-input.ensures) (ap (λ x. Some x.received) c.in_ok-out.ensures) c.content.ensures
    c.session-ended.ensures.sessions c.session-ended.ensures.store c.hearing_of.ensures
