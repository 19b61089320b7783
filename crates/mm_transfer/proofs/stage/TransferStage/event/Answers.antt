use Rattle.mm_transfer.proofs.Below.{arith, ℕ, List, length, ap, pair_of, side_event_of}
use Rattle.mm_transfer.proofs.Acting.{counts_same}
use Rattle.mm_transfer.proofs.stage.TransferStage.event.Goals as goal

pub invariant_of-self : goal.invariant_of-self
invariant_of-self c =
    let k = c.self.invariant in
    let now = c.self.inside in
    let w = c.in_err-reply.ensures.wants in
    let s = counts_same (pair_of now.sides.header) (side_event_of c.args.event.now) now.sides.both c.event.new.self.both w.both in
    record {
      few = k.few;
      committed = omega (arith, s.committed, k.committed);
      first = omega (arith, ap (λ (x : List (List ℕ)). length x) s.first, k.first);
      second = omega (arith, ap (λ (x : List (List ℕ)). length x) s.second, k.second);
      tickets = omega (arith, ap (λ (x : List (List ℕ)). length x) s.tickets, k.tickets);
    }
