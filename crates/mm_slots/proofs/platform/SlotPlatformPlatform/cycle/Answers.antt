use Rattle.mm_slots.proofs.Growing.{cycles_selected}
use Rattle.mm_slots.proofs.platform.SlotPlatformPlatform.cycle.Goals as goal

pub returns-clause-cycles : goal.returns-clause-cycles
returns-clause-cycles c = cycles_selected c.args.self.now c.cycle_all.new.self c.cycle_all.ensures.all c.cycle_all.ensures.inside
