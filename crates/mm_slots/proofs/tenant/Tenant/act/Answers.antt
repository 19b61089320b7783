use Rattle.mm_slots.proofs.Rowing.{acts_on, few_on, fits_on, lacks_on}
use Rattle.mm_slots.proofs.tenant.Tenant.act.Goals as goal

pub act-requires-clause-few : goal.act-requires-clause-few
act-requires-clause-few c = few_on c.self.inside.parts c.self.inside.parts c.args.self.now c.self.view_is c.args.action c.requires

pub invariant_of-self : goal.invariant_of-self
invariant_of-self c =
    fits_on c.self.inside.parts c.act.new.self c.args.self.now c.self.view_is c.args.action c.act.result c.act.ensures

pub returns-clause-ok : goal.returns-clause-ok
returns-clause-ok c =
    acts_on c.self.inside.parts c.act.new.self c.args.self.now c.self.view_is c.args.action c.act.result c.act.ensures

pub returns-clause-err : goal.returns-clause-err
returns-clause-err c =
    lacks_on c.self.inside.parts c.act.new.self c.args.self.now c.self.view_is c.args.action c.act.result c.act.ensures
