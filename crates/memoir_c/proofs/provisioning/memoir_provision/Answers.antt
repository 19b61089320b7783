use Rattle.std.proofs.Common.{sym, ◌∙◌}
use Rattle.memoir_c.specs.Numbers.{number_of}
use Rattle.memoir_c.proofs.Rooming.{provision_enough}
use Rattle.memoir_c.proofs.provisioning.memoir_provision.Goals as goal

pub returns-clause-enough : goal.returns-clause-enough
returns-clause-enough c h e =
    provision_enough c.args.instance.now c.args.keys.now _ (number_of c.put_instance.result)
    c.put_instance.ensures.provisions h (sym c.code.ensures.number ∙ e)
