use Rattle.mm_slots.proofs.Below.{rules}
use Rattle.mm_slots.proofs.Beginning.{ask_begins}
use Rattle.mm_slots.proofs.parts.Parts.begin_asking.Goals as goal

pub returns : goal.returns
returns c =
    rw c.fly.ensures (ask_begins c.args.self.now
    (record { call = c.begin.result; asked = record { offer = c.args.offer; bytes = c.args.bytes; request = c.args.request } })
    c.requires.fits c.requires.idle c.requires.offered (search rules) c.begin.ensures (search rules))
