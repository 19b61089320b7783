use Rattle.mm_client.proofs.ServedLives.{opt_served}
use Rattle.mm_client.proofs.laws.opt_clients_are_served_once.Goals as goal

pub returns : goal.returns
returns c = opt_served c.opt_life_goes_on.ensures
