use Rattle.mm_slots.proofs.Below.{refl, None, Parts}
use Rattle.mm_slots.proofs.Fitting.{first_by, fits_there, row_there}
use Rattle.mm_slots.proofs.tenant.Tenant.first.Goals as goal

pub invariant_of-result : goal.invariant_of-result
invariant_of-result c =
    let slot : Parts = record { number = c.args.number; seat = c.in-Ok.seat; register = c.zero.result; flight = None } in
    let first = first_by c.args.header.now slot _ _ c.secrets_of.ensures.key c.secrets_of.ensures.barrier c.in-Ok.ensures in
    fits_there c.args.header.now slot first c.zero.ensures refl

pub returns-in-Ok : goal.returns-in-Ok
returns-in-Ok c =
    let slot : Parts = record { number = c.args.number; seat = c.in-Ok.seat; register = c.zero.result; flight = None } in
    let first = first_by c.args.header.now slot _ _ c.secrets_of.ensures.key c.secrets_of.ensures.barrier c.in-Ok.ensures in
    row_there c.args.header.now slot first c.zero.ensures refl
