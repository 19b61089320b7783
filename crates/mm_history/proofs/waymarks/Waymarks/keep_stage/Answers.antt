use Rattle.mm_history.proofs.Below.{sym, subst, [], ◌∷◌, List, RegisterEntry}
use Rattle.std.specs.List.{AllByRecursion}
use Rattle.mm_model.specs.ListLaws.{each_append}
use Rattle.mm_history.specs.Naming.{IsStage}
use Rattle.mm_history.specs.declared.waymarks.SegmentStart.{SegmentStart}
use Rattle.mm_history.proofs.KnownLaws.{kept_stage}
use Rattle.mm_history.proofs.waymarks.Waymarks.keep_stage.Goals as goal

pub returns : goal.returns
returns c = λ i m w. record {
  marks = w.marks;
  stages = λ opt.
      let P = IsStage i.meaning.id i.barrier c.args.lists.now.closed in
      let old = subst (λ (s : List (List RegisterEntry)). AllByRecursion (IsStage i.meaning.id i.barrier s) c.args.self.now.stages.items)
      (sym c.closed-closed.ensures) (w.stages opt) in
      let counts = c.in-Some.ensures i.meaning.id i.barrier (subst (AllByRecursion _) (sym c.as_slice.ensures.value) old) in
      let one = kept_stage i c.args.lists.now c.args.marks.now c.closed-closed.result.now opt m c.closed-closed.ensures counts in
      subst (λ (xs : List SegmentStart). AllByRecursion P xs) (sym c.in_ok-push.ensures.items)
      (each_append P c.args.self.now.stages.items (_ ∷ []) (w.stages opt) (one, tt));
  ends = w.ends;
}
