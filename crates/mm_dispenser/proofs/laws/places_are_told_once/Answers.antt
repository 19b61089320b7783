use Rattle.mm_dispenser.specs.PlaceLaws.{places-once}
use Rattle.mm_dispenser.proofs.laws.places_are_told_once.Goals as goal

pub returns : goal.returns
returns c requests i j p q before one two = places-once requests i j p q before one two
