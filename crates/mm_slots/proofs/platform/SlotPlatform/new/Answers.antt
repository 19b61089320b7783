use Rattle.mm_slots.proofs.Below.{◌∙◌, List, ap, map, rules, Standing, new_platform, Slots}
use Rattle.std.proofs.Common.{arith}
use Rattle.std.proofs.lemmas.Grind.{common_steps}
use Rattle.std.proofs.lemmas.List.{take_all}
use Rattle.mm_slots.proofs.platform.SlotPlatform.new.Goals as goal

-- a platform with these slots, of which the first is selected
abbrev of_slots : List Standing → Slots
of_slots slots = record { slots = slots; selected = 0 }

pub returns : goal.returns
returns c =
    ap of_slots (c.loop-cell.invariant ∙ ap (map new_platform) (take_all c.loop-cell.cell-index c.args.cells.now (search rules)))

pub loop-cell-preserved : goal.loop-cell-preserved
loop-cell-preserved c = grind (arith, common_steps)

pub invariant_of-result : goal.invariant_of-result
invariant_of-result c = grind (arith, common_steps)
