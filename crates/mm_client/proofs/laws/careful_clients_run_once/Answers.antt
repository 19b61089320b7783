use Rattle.mm_client.proofs.CarefulLives.{careful_once}
use Rattle.mm_client.proofs.laws.careful_clients_run_once.Goals as goal

pub returns : goal.returns
returns c = careful_once
