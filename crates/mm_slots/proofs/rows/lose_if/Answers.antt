use Rattle.mm_slots.proofs.Rowing.{cut_loses, uncut_loses}
use Rattle.mm_slots.proofs.rows.lose_if.Goals as goal

pub returns-then-is_cut : goal.returns-then-is_cut
returns-then-is_cut c =
    cut_loses c.args.but c.args.is_cut c.args.slots.now c.lose_others.new.slots c.if-is_cut.true c.lose_others.ensures

pub returns-else-is_cut : goal.returns-else-is_cut
returns-else-is_cut c = uncut_loses c.args.but c.args.is_cut c.args.slots.now c.if-is_cut.false
