use Rattle.mm_client.proofs.ServedLives.{basic_served}
use Rattle.mm_client.proofs.laws.basic_clients_are_served_once.Goals as goal

pub returns : goal.returns
returns c = basic_served c.basic_life_goes_on.ensures
