use Rattle.mm_slots.proofs.Below.{◌≡◌, ℕ, Some, length, subst, event_at}
use Rattle.mm_slots.proofs.Alone.{event_inside}
use Rattle.mm_slots.proofs.stage.SlotsStagePlayStage.play.Goals as goal

pub follow-requires-clause-inside : goal.follow-requires-clause-inside
follow-requires-clause-inside c =
    event_inside (length c.args.self.now.rows) c.args.line.now c.in-Ok.event
    (subst (λ (n : ℕ). event_at n c.args.line.now ≡ Some c.in-Ok.event) c.count.ensures c.in-Ok.ensures.read)
