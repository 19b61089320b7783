use Rattle.mm_slots.proofs.Beginning.{extends_some, may_meddle_some}
use Rattle.mm_slots.proofs.parts.Parts.extend_next.Goals as goal

pub meddle_next-requires : goal.meddle_next-requires
meddle_next-requires c = may_meddle_some c.args.self.now c.requires.fits c.requires.flies

pub returns : goal.returns
returns c =
    extends_some c.args.self.now c.meddle_next.new.self _ _ c.args.value.now c.requires.fits c.requires.flies
    c.in_ok-meddle_next.ensures.ok
