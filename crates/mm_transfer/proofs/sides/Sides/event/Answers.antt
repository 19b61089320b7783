use Rattle.std.proofs.Common.{arith}
use Rattle.std.proofs.lemmas.Grind.{common_steps}
use Rattle.mm_transfer.proofs.Below.{◌≡◌, ◌∙◌, ℕ, ap, Digests, BothSides, Inside, both_with, side_event_of, side_in}
use Rattle.mm_transfer.proofs.Acting.{Comes, event_first, event_second, held_wants}
use Rattle.mm_transfer.specs.Events.{TransferSides}
use Rattle.mm_transfer.proofs.sides.Sides.event.Goals as goal
use Rattle.mm_transfer.proofs.sides.Sides.event.Goals.{in-First, in-Second}

-- both sides, as the fields have them
abbrev both_in : Inside → BothSides Digests ℕ
both_in s = both_with s.first s.between (side_in s.second) s.committed

comes : (c : goal.Joined-event)
    → Comes c.args.self.now (side_event_of c.args.event.now) (both_in c.match-event.self-inside) c.match-event.result
comes c = elim c.match-event.branch [
  | in-First w ↦ event_first c.self.inside c.args.self.now c.args.event.now _ w.act.new.here w.act.new.between
      w.act.new.committed c.match-event.result w.act.result c.self.view_is c.requires.committed w.in-First.is w.result-is
      (ap both_in w.self-inside-is) w.act.ensures.acts
  | in-Second w ↦ event_second c.self.inside c.args.self.now c.args.event.now _ w.act-in-Second.new.here
      w.act-in-Second.new.between w.act-in-Second.new.committed c.match-event.result w.act-in-Second.result c.self.view_is
      c.requires.committed w.in-Second.is w.result-is (ap both_in w.self-inside-is) w.act-in-Second.ensures.acts
]

pub returns-clause-reply : goal.returns-clause-reply
returns-clause-reply c = (comes c).reply

pub returns-clause-after : goal.returns-clause-after
returns-clause-after c = (comes c).after

header_is : (c : goal.Joined-event) → c.match-event.self-inside.header ≡ c.args.self.now.header
header_is c = elim c.match-event.branch [
  | in-First w ↦ ap (λ (s : Inside). s.header) w.self-inside-is ∙ ap (λ (h : TransferSides). h.header) c.self.view_is
  | in-Second w ↦ ap (λ (s : Inside). s.header) w.self-inside-is ∙ ap (λ (h : TransferSides). h.header) c.self.view_is
]

pub returns-clause-wants : goal.returns-clause-wants
returns-clause-wants c =
    held_wants c.args.self.now (side_event_of c.args.event.now) c.match-event.self-inside.header (both_in c.match-event.self-inside)
    c.match-event.result (header_is c) (comes c).wants

pub returns-clause-sayable : goal.returns-clause-sayable
returns-clause-sayable c = grind (arith, common_steps)

pub returns-clause-grows : goal.returns-clause-grows
returns-clause-grows c = grind (arith, common_steps)
