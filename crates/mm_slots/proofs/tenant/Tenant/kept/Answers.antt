use Rattle.std.specs.List.{sum_by}
use Rattle.mm_slots.proofs.Below.{◌∙◌, ap, length, Row, within_64}
use Rattle.mm_slots.proofs.tenant.Tenant.kept.Goals as goal

pub returns : goal.returns
returns c = c.self.inside.parts.seat.counted ∙ ap (λ (row : Row). within_64 (sum_by length row.slot.issued)) c.self.view_is
