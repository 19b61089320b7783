use Rattle.mm_history.specs.Naming.{IsStage, IsWaymark}
use Rattle.mm_history.specs.MarkLaws.{each_of_none}
use Rattle.mm_history.proofs.waymarks.Waymarks.first.Goals as goal

pub returns : goal.returns
returns c = λ i v m s ends. c.in_ok-keep_stage.ensures i m (c.in_ok-keep.ensures i v m s (record {
  marks = each_of_none (IsWaymark i.variant i.meaning i.barrier c.args.lists.now.batches) _ c.new.ensures.items;
  stages = λ opt. each_of_none (IsStage i.meaning.id i.barrier c.args.lists.now.closed) _ c.new-2.ensures.items;
  ends = λ opt. ends;
}))
