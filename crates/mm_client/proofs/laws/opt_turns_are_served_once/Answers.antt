use Rattle.mm_client.proofs.TurnLaws.{opt_turns}
use Rattle.mm_client.proofs.laws.opt_turns_are_served_once.Goals as goal

pub returns : goal.returns
returns c = opt_turns c.opt_life_goes_on.ensures
