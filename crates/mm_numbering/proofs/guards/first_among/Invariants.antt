use Rattle.mm_numbering.proofs.Below.{◌≡◌, ℕ, List, take, None, number_of_first, is_secured, events_of, HasAll}
use Rattle.mm_numbering.proofs.guards.first_among.Given as goal

abbrev pub invariant-events : goal.invariant-events
invariant-events l =
    (known : List (List ℕ)) → HasAll known l.guards → number_of_first (is_secured known) (events_of (take l.index l.events)) ≡ None
