use Rattle.mm_client.proofs.TurnLaws.{basic_turns}
use Rattle.mm_client.proofs.laws.basic_turns_are_served_once.Goals as goal

pub returns : goal.returns
returns c = basic_turns c.basic_life_goes_on.ensures
