use Rattle.mm_mortal_clients.proofs.Honest.{basic_served}
use Rattle.mm_mortal_clients.proofs.laws.basic_mortal_clients_are_served_once.Goals as goal

pub returns : goal.returns
returns c = basic_served c.session_stops_anywhere.ensures c.basic_clients_are_served_once.ensures
