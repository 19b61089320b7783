use Rattle.mm_base.proofs.Below.{◌≡◌, length, FrontGoesOut}
use Rattle.mm_base.proofs.sink.write_all.Given as goal

abbrev pub invariant-pieces : goal.invariant-pieces
invariant-pieces g l = record {
  gone : FrontGoesOut (g.K.Sink.received l.fn.sink) (g.K.Sink.received l.sink) l.bytes l.rest;
  kept : g.K.Sink.faults l.sink ≡ g.K.Sink.faults l.fn.sink;
}

abbrev pub decreases-pieces : goal.decreases-pieces
decreases-pieces g l = length l.rest
