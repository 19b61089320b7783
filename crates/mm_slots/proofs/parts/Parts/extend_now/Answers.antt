use Rattle.std.proofs.Common.{refl}
use Rattle.mm_slots.proofs.Beginning.{extends_now}
use Rattle.mm_slots.proofs.parts.Parts.extend_now.Goals as goal

pub returns : goal.returns
returns c =
    rw c.in_ok-reply.ensures.ok (extends_now c.args.self.now _ c.args.value.now c.requires.fits c.requires.idle
    c.in_ok-reply.ensures.stays refl refl c.register.ensures)
