use Rattle.mm_recovery.proofs.Below.{◌≡◌, ◌≤◌, ◌-◌, length, take, Consumes}
use Rattle.mm_recovery.proofs.setup.take_bytes.Given as goal

abbrev pub invariant-takes : goal.invariant-takes
invariant-takes g l = record {
  most : l.got ≤ 64;
  size : length l.into ≡ 64;
  consumed : Consumes (g.E.Source.left l.fn.entropy) (g.E.Source.left l.entropy) (take l.got l.into);
  kept : g.E.Source.faults l.entropy ≡ g.E.Source.faults l.fn.entropy;
}

abbrev pub decreases-takes : goal.decreases-takes
decreases-takes g l = 64 - l.got
