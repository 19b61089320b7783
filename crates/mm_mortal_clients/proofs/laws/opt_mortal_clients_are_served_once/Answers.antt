use Rattle.mm_mortal_clients.proofs.Honest.{opt_served}
use Rattle.mm_mortal_clients.proofs.laws.opt_mortal_clients_are_served_once.Goals as goal

pub returns : goal.returns
returns c = opt_served c.session_stops_anywhere.ensures c.opt_clients_are_served_once.ensures
