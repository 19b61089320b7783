use Rattle.std.specs.List.{All}
use Rattle.mm_history.specs.Naming.{IsKnownPair}
use Rattle.mm_history.proofs.known_digests.first_pairs.Given as goal

abbrev pub invariant-pairs : goal.invariant-pairs
invariant-pairs l = All IsKnownPair l.pairs.items × IsKnownPair l.pair
