use Rattle.mm_slots.proofs.Rowing.{loses_on}
use Rattle.mm_slots.proofs.tenant.Tenant.lose_power.Goals as goal

pub returns : goal.returns
returns c = loses_on c.self.inside.parts c.lose_power.new.self c.args.self.now c.self.view_is c.lose_power.ensures
