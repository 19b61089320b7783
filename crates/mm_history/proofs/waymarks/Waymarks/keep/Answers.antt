use Rattle.mm_history.proofs.Below.{ap, sym, ◌∙◌, ◌≡◌, refl, subst, [], ◌∷◌, List}
use Rattle.std.specs.List.{AllByRecursion}
use Rattle.mm_model.specs.ListLaws.{each_append}
use Rattle.mm_history.specs.Naming.{IsWaymark}
use Rattle.mm_history.specs.declared.waymarks.Waymark.{Waymark}
use Rattle.mm_history.proofs.KnownLaws.{kept_mark, digest_in}
use Rattle.mm_history.proofs.waymarks.Waymarks.keep.Goals as goal
use Rattle.mm_history.proofs.waymarks.Waymarks.keep.Goals.{in-Basic, in-Opt}

pub returns : goal.returns
returns c = λ i v m s w.
    let digest_is : c.match-variant.digest ≡ digest_in c.args.variant c.args.marks.now = elim c.match-variant.branch [
      | in-Basic b ↦ b.digest-is ∙ ap (λ x. digest_in x c.args.marks.now) (sym b.in-Basic.is)
      | in-Opt b ↦ b.digest-is ∙ ap (λ x. digest_in x c.args.marks.now) (sym b.in-Opt.is)
    ] in
    let P = IsWaymark i.variant i.meaning i.barrier c.args.lists.now.batches in
    let one = kept_mark i c.args.lists.now c.args.variant c.args.marks.now _ c.batches-count.result.now c.current.result.now v m s w.ends
    c.batches-count.ensures c.current.ensures refl refl digest_is c.saturating_sub.ensures (c.in_ok-state.ensures ∙ c.front.ensures) in
    record {
      marks = subst (λ (xs : List Waymark). AllByRecursion P xs) (sym c.in_ok-push.ensures.items)
          (each_append P c.args.self.now.marks.items (_ ∷ []) w.marks (one, tt));
      stages = w.stages;
      ends = w.ends;
    }
