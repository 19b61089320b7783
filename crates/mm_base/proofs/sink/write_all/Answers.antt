use Rattle.std.proofs.lemmas.Grind.{common_steps}
use Rattle.std.proofs.Common.{rules, ◌∙◌, arith}
use Rattle.mm_base.proofs.ReadingLemmas.{FrontGoesOut-more, FrontGoesOut-short}
use Rattle.mm_base.proofs.sink.write_all.Goals as goal

pub pieces-preserved : goal.pieces-preserved
pieces-preserved g c = record {
  gone = rw c.split_at.ensures.back (FrontGoesOut-more _ _ _ _ _ _ c.pieces.invariant.gone c.in-Ok.ensures.given);
  kept = c.in-Ok.ensures.counted.kept ∙ c.pieces.invariant.kept;
}

pub returns-in_default-clause-cut : goal.returns-in_default-clause-cut
returns-in_default-clause-cut g c =
    FrontGoesOut-short _ _ _ _ _ c.pieces.invariant.gone c.in_default.ensures.given (search rules)

pub returns-clause-sent : goal.returns-clause-sent
returns-clause-sent g c = grind (arith, common_steps)
